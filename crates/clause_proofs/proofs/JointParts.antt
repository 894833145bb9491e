-- A part of a joint substitution: the images of one clause's variables.
use Rattle.std.specs.Prelude.{ℕ, ◌≡◌, ◌+◌, List, ◌++◌, length, map, take, drop, reverse, slice_get, Some}
use Rattle.std.proofs.Common.{ap, sym, ◌∙◌}
use Rattle.std.proofs.lemmas.List.{length-reverse}
use Rattle.fof_terms.specs.declared.term.Term.{Term}
use Rattle.fof_terms.specs.declared.form.Form.{Form}
use Rattle.fof_terms.specs.Vocabulary.{Vocabulary}
use Rattle.fof_terms.proofs.Moved.{closed_anywhere}
use Rattle.fof_terms.specs.Sorts.{IsScope}
use Rattle.clause_form.specs.Covers.{lit_image, AreSorted}
use Rattle.unify_terms.specs.Substitution.{image_at, IsSubstitution}
use Rattle.clause_proofs.specs.declared.opening.Opened.{Opened}
use Rattle.clause_proofs.specs.code.Bodies.{IsReadyClause}
use Rattle.clause_proofs.specs.Premises.{IsSource}
use Rattle.clause_proofs.proofs.ReadyParents.{full}
use Rattle.clause_proofs.proofs.LineGoals.{own_lits}
use Rattle.clause_proofs.proofs.ImageParts.{part_length, part_within, part_images, part_lits, part_sorted}

-- a part of a joint substitution: the images of a clause's variables
module _ (w : Vocabulary) (scope : List ℕ) (rigid : ℕ) (images : List Term) (joint : IsSubstitution w scope rigid scope images) (form : Form) (o : Opened) (r : IsReadyClause w form o)
    (front back : List ℕ) (m : ℕ) (is : scope ≡ front ++ (reverse o.clause.sorts ++ back)) (at_front : m ≡ length front) where
  abbrev pub part : List Term
  part = take (length o.clause.sorts) (drop m images)

  so_many : length o.clause.sorts ≡ length (reverse o.clause.sorts)
  so_many = sym (length-reverse o.clause.sorts)

  lits_sorted : AreSorted w (reverse o.clause.sorts) o.clause.lits
  lits_sorted = own_lits w form o.clause o.is_or r.ready r.opening.1

  pub source_of : (formulas : List Form) (number : ℕ) → IsScope w scope → slice_get formulas number ≡ Some form → IsSource w scope formulas number o part
  source_of formulas number sc there = record {
    form = form;
    there = there;
    has = r.opening.1;
    form_sorted = closed_anywhere w scope 2147483647 form sc (full w form r.ready);
    size = part_length images m (length o.clause.sorts) (part_within w scope rigid images joint front (reverse o.clause.sorts) back m (length o.clause.sorts) is at_front so_many);
    images_sorted = part_images w scope rigid images joint front (reverse o.clause.sorts) back m (length o.clause.sorts) is at_front so_many;
    lits_sorted = lits_sorted;
  }

  pub instances_are : (s : ℕ → Term) → ((k : ℕ) → s k ≡ image_at images (k + m)) → map (lit_image s) o.clause.lits ≡ map (lit_image (image_at part)) o.clause.lits
  instances_are s h = part_lits w scope rigid images joint front (reverse o.clause.sorts) back m (length o.clause.sorts) is at_front so_many s h o.clause.lits lits_sorted

  pub instances_sorted : AreSorted w scope (map (lit_image (image_at part)) o.clause.lits)
  instances_sorted = part_sorted w scope rigid images joint front (reverse o.clause.sorts) back m (length o.clause.sorts) is at_front so_many o.clause.lits lits_sorted

-- as code has the parts
pub part_is : (images li : List Term) (n m a b : ℕ) → li ≡ take n (drop m images) → n ≡ a → m ≡ b → li ≡ take a (drop b images)
part_is images li n m a b is e f = is ∙ ap (λ (x : ℕ). take x (drop m images)) e ∙ ap (λ (x : ℕ). take a (drop x images)) f
