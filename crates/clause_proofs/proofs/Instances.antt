-- Instances of the clauses of a theory.
use Rattle.std.specs.Prelude.{ℕ, ◌≡◌, List, length, map, reverse, refl}
use Rattle.std.proofs.Common.{ap, sym, subst, ◌∙◌}
use Rattle.std.proofs.lemmas.List.{length-reverse, reverse-reverse}
use Rattle.fof_terms.specs.declared.term.Term.{Term}
use Rattle.fof_terms.specs.declared.form.Form.{Form}
use Rattle.fof_terms.specs.Vocabulary.{Vocabulary}
use Rattle.fof_terms.proofs.Walks.{same_terms}
use Rattle.clause_form.specs.declared.clause.Lit.{Lit}
use Rattle.clause_form.specs.ClauseView.{closed_by}
use Rattle.clause_form.specs.Covers.{lit_image}
use Rattle.clause_form.specs.Images.{image}
use Rattle.clause_form.proofs.ImagesFacts.{image-Var}
use Rattle.unify_terms.specs.Substitution.{image_at, applied}
use Rattle.unify_terms.proofs.SubstitutionFacts.{applied-Var}
use Rattle.unify_terms.proofs.SubstitutionLaws.{applying}
use Rattle.kernel.specs.Statements.{Statements}
use Rattle.kernel.specs.Proves.{Proves}
use Rattle.kernel.proofs.Building.{by_line}
use Rattle.kernel.specs.declared.proof.Proof.{Proof, Line}
use Rattle.derive_kit.specs.Instances.{IsInstance}
use Rattle.clause_proofs.specs.declared.opening.Opened.{Opened}
use Rattle.clause_proofs.specs.declared.premises.Premise.{Premise}
use Rattle.clause_proofs.specs.Bodies.{body_of}
use Rattle.clause_proofs.specs.Refuting.{theory_of, ShowsBody}
use Rattle.clause_proofs.specs.Premises.{IsSource, IsPremiseOf, IsShown, IsPremiseBy}
use Rattle.clause_proofs.proofs.Peeling.{imaging, instance_shown}

pub applied_image : (s : ℕ → Term) (t : Term) → applied s t ≡ image s t
applied_image s = same_terms (applied s) (image s) (applying s) (imaging s) (λ k. applied-Var s k ∙ sym (image-Var s k))

-- what instances of a proof are built to show
abbrev pub Builds : List Term → Proof → Proof → Type 0
Builds terms p made = (t : Statements) (v : List ℕ) (h : List Form) (a b : Form) → IsInstance t.vocabulary v a terms b → Proves t v h p a → Proves t v h made b

instance_body : (own : Proof) (o : Opened) (images terms : List Term) (lits : List Lit) (p made : Proof) → terms ≡ reverse images → lits ≡ map (lit_image (image_at images)) o.clause.lits → p ≡ own → Builds terms p made
    → (w : Vocabulary) (v : List ℕ) (formulas : List Form) → IsShown w v formulas own o images → ShowsBody w v formulas o.is_or lits made
instance_body own o images terms lits p made back is same build w v formulas src h =
    let t = theory_of w formulas in
    let whole : Form = closed_by o.clause.sorts (body_of o.is_or o.clause.lits) in
    let shown : Proves t v h p whole = subst (λ (q : Proof). Proves t v h q whole) (sym same) (subst (λ (a : Form). Proves t v h own a) src.has.is (src.shows h)) in
    let twice : images ≡ reverse terms = sym (ap reverse back ∙ reverse-reverse images) in
    let size : length terms ≡ length o.clause.sorts = ap length back ∙ length-reverse images ∙ src.size in
    subst (λ (ls : List Lit). Proves t v h made (body_of o.is_or ls)) (sym is)
    (instance_shown t v h o.clause.sorts o.is_or o.clause.lits terms images p made twice size src.images_sorted src.lits_sorted (λ a b i z. build t v h a b i z) shown)

pub made_premise : (own : Proof) (o : Opened) (images terms : List Term) (lits : List Lit) (p made : Proof) → terms ≡ reverse images → lits ≡ map (lit_image (image_at images)) o.clause.lits → p ≡ own → Builds terms p made
    → IsPremiseBy own o images (record { is_or = o.is_or; lits = lits; part = made })
made_premise own o images terms lits p made back is same build = record { is_or = refl; lits = is; shows = instance_body own o images terms lits p made back is same build }

-- where the part is the formula of that number
source_shown : (w : Vocabulary) (v : List ℕ) (formulas : List Form) (number : ℕ) (own : Proof) (o : Opened) (images : List Term) → own ≡ Line number → IsSource w v formulas number o images → IsShown w v formulas own o images
source_shown w v formulas number own o images is src = record {
  form = src.form;
  shows = λ h. subst (λ (q : Proof). Proves (theory_of w formulas) v h q src.form) (sym is) (by_line (theory_of w formulas) v h number src.form src.form_sorted src.there);
  has = src.has;
  size = src.size;
  images_sorted = src.images_sorted;
  lits_sorted = src.lits_sorted;
}

pub premise_of : (number : ℕ) (own : Proof) (o : Opened) (images : List Term) (p : Premise) → own ≡ Line number → IsPremiseBy own o images p → IsPremiseOf number o images p
premise_of number own o images p is by = record { is_or = by.is_or; lits = by.lits; shows = λ w v formulas src. by.shows w v formulas (source_shown w v formulas number own o images is src) }
