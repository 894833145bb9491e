-- The clause that is concluded by a most general unifier is the most general one.
use Rattle.std.specs.Prelude.{ℕ, ◌<◌, ◌≡◌, false, List, [], ◌∷◌, length, map, reverse, get_or, Some, None, refl}
use Rattle.std.specs.List.{AllByRecursion}
use Rattle.std.proofs.Common.{ap, sym, subst, ◌∙◌}
use Rattle.std.proofs.lemmas.List.{reverse-reverse}
use Rattle.std.proofs.lemmas.Option.{slice_get_within, slice_get-get_or}
use Rattle.fof_terms.specs.declared.term.Term.{Term}
use Rattle.fof_terms.specs.Occurs.{occurs_in_term}
use Rattle.fof_terms.proofs.OccursFacts.{occurs_in_term-Var}
use Rattle.fof_terms.specs.Vocabulary.{Vocabulary}
use Rattle.fof_terms.specs.Sorts.{sort_of_term}
use Rattle.clause_form.specs.declared.clause.Lit.{Lit}
use Rattle.clause_form.specs.declared.clause.Clause.{Clause}
use Rattle.clause_form.specs.Images.{image, IsImages}
use Rattle.clause_form.proofs.ImagesFacts.{AgreeOn, image_image, image_sorted}
use Rattle.clause_form.specs.Covers.{scope_of, AreSorted, IsInstance}
use Rattle.clause_form.proofs.ClauseLaws.{instance_then, lits_agree, lits_sorted}
use Rattle.clause_rules.specs.Steps.{instances}
use Rattle.clause_rules.proofs.LitImages.{lits_twice}
use Rattle.clause_rules.specs.Ways.{zip_pairs}
use Rattle.clause_rules.proofs.NeedSorts.{Found}
use Rattle.unify_terms.specs.Substitution.{image_at}
use Rattle.unify_terms.specs.Unifiers.{Unified}
use Rattle.superpose.specs.declared.made.Made.{Made}
use Rattle.superpose.specs.Absent.{AreWithout, IsNotInDraft}
use Rattle.superpose.specs.Drafts.{Draft, IsMadeBy, IsClause, SortsExist}
use Rattle.superpose.specs.Made.{IsBestAt}
use Rattle.superpose.specs.MostGeneral.{IsMostGeneral}
use Rattle.superpose.specs.code.Conclusions.{IsConclusion}
use Rattle.superpose.proofs.Unifying.{Asks, AreSame, most_general, never_unified, same_for, unifier_unifies}
use Rattle.superpose.proofs.InferLaws.{made_sorted}
use Rattle.superpose.proofs.Speaking.{instances_lack, images_lack}
use Rattle.superpose.proofs.Wiped.{image_lacks, unifier_lacks}

-- equal terms stay equal under a further substitution
twice_same : (t s : ℕ → Term) (ls rs : List Term) → AreSame s ls rs → AreSame (λ k. image t (s k)) ls rs
twice_same t s ls rs e = sym (twice ls) ∙ ap (map (image t)) e ∙ twice rs where
  twice : (ts : List Term) → map (image t) (map (image s) ts) ≡ map (image (λ k. image t (s k))) ts
  twice [] = refl
  twice (u ∷ ts) = rw (image_image t s u, twice ts) refl

module _ (v : Vocabulary) (scope : List ℕ) (f : Draft) (ls rs : List Term) (hl : AllByRecursion (Found v scope) ls) (hr : AllByRecursion (Found v scope) rs) (asks : Asks f ls rs)
    (images : List Term) (size : length ls ≡ length rs) (unified : Unified v scope 0 (zip_pairs ls rs) (Some images)) (left : List Lit) (left_is : f.left ≡ left) (exist : SortsExist v scope)
    (sorted : AreSorted v scope f.left) (m : Made) (con : IsConclusion scope images left m) where
  abbrev most : IsMostGeneral v scope f scope (image_at images)
  most = most_general v scope f ls rs hl hr asks images size unified

  together : AgreeOn scope (λ k. image con.names (image_at images k)) (image_at m.subst)
  together = record { same = λ k q e. sym (con.subst k (slice_get_within scope k q e)) }

  draft_makes : IsMadeBy v scope f m.clause (image_at m.subst)
  draft_makes = record {
    exist = con.exist v exist;
    images = record {
      sorted = λ k q e. ap (sort_of_term v (scope_of m.clause)) (con.subst k (slice_get_within scope k q e)) ∙ image_sorted v scope (scope_of m.clause) con.names (con.named v) (image_at images k) q (most.images.sorted k q e);
    };
    unified = asks.back (image_at m.subst) (same_for v scope ls rs hl hr (λ k. image con.names (image_at images k)) (image_at m.subst) together (twice_same con.names (image_at images) ls rs (unifier_unifies v scope ls rs hl hr size images unified)));
    same = con.lits ∙ ap (instances (image_at m.subst)) (sym left_is);
  }

  is_clause : IsClause v m.clause
  is_clause = record {
    fit = record { sorted = made_sorted v scope f m.clause (image_at m.subst) sorted draft_makes; few = con.few };
    exist = con.exist v exist;
  }

  -- the images, and so the clause, have no symbol that the draft lacks
  image_lacks_at : (k : ℕ) → IsNotInDraft k f → (x : ℕ) → x < length scope → occurs_in_term k (image_at m.subst x) ≡ false
  image_lacks_at k h x within =
      ap (occurs_in_term k) (con.subst x within)
      ∙ image_lacks k con.names (λ y. ap (occurs_in_term k) (con.variables y).1 ∙ occurs_in_term-Var k (con.variables y).0) (image_at images x)
      (unifier_lacks v scope f scope (image_at images) most k h.pair x (get_or scope x 0) (slice_get-get_or scope x 0 within))

  no_new : (k : ℕ) → IsNotInDraft k f → AreWithout k m.clause.lits
  no_new k h = subst (AreWithout k) (sym draft_makes.same) (instances_lack k (image_at m.subst) (images_lack k scope m.subst con.size (image_lacks_at k h)) f.left h.left)

  -- the clause over the scope itself
  abbrev whole : Clause
  whole = record { sorts = reverse scope; lits = instances (image_at images) f.left }

  whole_scope : scope_of whole ≡ scope
  whole_scope = reverse-reverse scope

  whole_made : (e : Clause) (r : ℕ → Term) → IsMadeBy v scope f e r → IsInstance v whole e
  whole_made e r other =
      let g = most.general (scope_of e) r other.images other.unified in (
        g.0,
        record {
          images = subst (λ from. IsImages v from (scope_of e) g.0) (sym whole_scope) g.1;
          same = other.same ∙ lits_agree v scope r (λ k. image g.0 (image_at images k)) (record { same = g.2 }) f.left sorted
              ∙ sym (lits_twice (image g.0) (image (image_at images)) (image (λ k. image g.0 (image_at images k))) (image_image g.0 (image_at images)) f.left);
        },
      )

  named_lits : m.clause.lits ≡ instances con.names (instances (image_at images) f.left)
  named_lits =
      draft_makes.same ∙ sym (lits_agree v scope (λ k. image con.names (image_at images k)) (image_at m.subst) together f.left sorted)
      ∙ sym (lits_twice (image con.names) (image (image_at images)) (image (λ k. image con.names (image_at images k))) (image_image con.names (image_at images)) f.left)

  whole_sorted : AreSorted v scope (instances (image_at images) f.left)
  whole_sorted = lits_sorted v scope scope (image (image_at images)) (image_sorted v scope scope (image_at images) most.images) f.left sorted

  renames : IsInstance v m.clause whole
  renames = (
    con.back,
    record {
      images = subst (λ to. IsImages v (scope_of m.clause) to con.back) (sym whole_scope) (con.returns v);
      same = sym (ap (instances con.back) named_lits ∙ ap (λ ls. instances con.back (instances con.names (instances (image_at images) ls))) left_is
          ∙ con.again v (subst (λ ls. AreSorted v scope (instances (image_at images) ls)) left_is whole_sorted) ∙ ap (instances (image_at images)) (sym left_is));
    },
  )

  pub best_made : (P : Draft → Type 0) → P f → ((g : Draft) → P g → g ≡ f) → IsBestAt v scope P (Some m)
  best_made P is only = (
    record { draft = f; is_draft = is; made = draft_makes; clause = is_clause; size = con.size; no_new = no_new },
    λ g e r p other. instance_then v m.clause whole e renames (whole_made e r (subst (λ x. IsMadeBy v scope x e r) (only g p) other)),
  )

-- there is none where the terms have no unifier
pub none_made : (v : Vocabulary) (scope : List ℕ) (P : Draft → Type 0) (ls rs : List Term) → AllByRecursion (Found v scope) ls → AllByRecursion (Found v scope) rs → ((g : Draft) → P g → Asks g ls rs)
    → Unified v scope 0 (zip_pairs ls rs) None → IsBestAt v scope P None
none_made v scope P ls rs hl hr asks none g e s p made = never_unified v scope g ls rs hl hr (asks g p) none (scope_of e) s made.images made.unified
