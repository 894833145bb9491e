-- Each inference is an instance of the one under a most general unifier.
use Rattle.std.specs.Prelude.{ℕ, List, map}
use Rattle.std.proofs.Common.{ap, sym, subst, ◌∙◌}
use Rattle.std.proofs.lemmas.Simd.{map-map}
use Rattle.fof_terms.specs.declared.term.Term.{Term}
use Rattle.fof_terms.specs.Vocabulary.{Vocabulary}
use Rattle.clause_form.specs.declared.clause.Clause.{Clause}
use Rattle.clause_form.specs.Images.{image}
use Rattle.clause_form.proofs.ImagesFacts.{image_sorted}
use Rattle.clause_form.specs.Covers.{lit_image, scope_of, AreSorted, IsInstance}
use Rattle.clause_form.proofs.ClauseLaws.{instance_then, lit_image_image, lits_agree, lits_sorted}
use Rattle.clause_rules.specs.Steps.{scope_of_both}
use Rattle.clause_rules.proofs.LitImages.{same_maps}
use Rattle.superpose.specs.Drafts.{Draft, IsMadeBy}
use Rattle.superpose.specs.Inferences.{IsDraftOfOne, IsDraftOfTwo, InfersFromOne, InfersFromTwo}
use Rattle.superpose.specs.MostGeneral.{IsBestOf, IsMostGeneral}
use Rattle.superpose.proofs.LeftSorts.{left_of_one, left_of_two}

-- each clause that the draft gives is an instance of the one that a most general unifier gives
pub made_is_instance : (v : Vocabulary) (scope : List ℕ) (f : Draft) (best e : Clause) (s r : ℕ → Term) → IsMostGeneral v scope f (scope_of best) s → IsMadeBy v scope f best s
    → AreSorted v scope f.left → IsMadeBy v scope f e r → IsInstance v best e
made_is_instance v scope f best e s r most made sorted other =
    let g = most.general (scope_of e) r other.images other.unified in (
      g.0,
      record {
        images = g.1;
        same = other.same ∙ lits_agree v scope r (λ k. image g.0 (s k)) (record { same = g.2 }) f.left sorted
            ∙ sym (ap (map (lit_image g.0)) made.same ∙ map-map (lit_image g.0) (lit_image s) f.left ∙ same_maps _ _ f.left (lit_image_image g.0 s));
      },
    )

pub best_of_two : (v : Vocabulary) (c d : Clause) (f : Draft) (e : Clause) (s : ℕ → Term) → AreSorted v (scope_of c) c.lits → AreSorted v (scope_of d) d.lits → IsDraftOfTwo c d f
    → IsMostGeneral v (scope_of_both c d) f (scope_of e) s → IsMadeBy v (scope_of_both c d) f e s → IsBestOf v (scope_of_both c d) f e
best_of_two v c d f e s h g draft most made = record {
  images = s;
  made = made;
  best = λ other r makes. made_is_instance v (scope_of_both c d) f e other s r most made (left_of_two v c d f h g draft (scope_of e) s most.images most.unified) makes;
}

pub best_of_one : (v : Vocabulary) (c : Clause) (f : Draft) (e : Clause) (s : ℕ → Term) → AreSorted v (scope_of c) c.lits → IsDraftOfOne c f
    → IsMostGeneral v (scope_of c) f (scope_of e) s → IsMadeBy v (scope_of c) f e s → IsBestOf v (scope_of c) f e
best_of_one v c f e s h draft most made = record {
  images = s;
  made = made;
  best = λ other r makes. made_is_instance v (scope_of c) f e other s r most made (left_of_one v c f h draft (scope_of e) s most.images most.unified) makes;
}

-- a clause that is the same but for the variables that it has is as good
pub renamed_best : (v : Vocabulary) (scope : List ℕ) (f : Draft) (e small : Clause) (s : ℕ → Term) → IsBestOf v scope f e → IsInstance v small e → IsMadeBy v scope f small s → IsBestOf v scope f small
renamed_best v scope f e small s best renamed made = record {
  images = s;
  made = made;
  best = λ other r makes. instance_then v small e other renamed (best.best other r makes);
}

-- what the draft makes is well-sorted
pub made_sorted : (v : Vocabulary) (scope : List ℕ) (f : Draft) (e : Clause) (s : ℕ → Term) → AreSorted v scope f.left → IsMadeBy v scope f e s → AreSorted v (scope_of e) e.lits
made_sorted v scope f e s sorted made = subst (AreSorted v (scope_of e)) (sym made.same) (lits_sorted v scope (scope_of e) (image s) (image_sorted v scope (scope_of e) s made.images) f.left sorted)

pub sorted_of_two : (v : Vocabulary) (c d e : Clause) (s : ℕ → Term) → AreSorted v (scope_of c) c.lits → AreSorted v (scope_of d) d.lits → InfersFromTwo v c d e s → AreSorted v (scope_of e) e.lits
sorted_of_two v c d e s h g i = made_sorted v (scope_of_both c d) i.0 e s (left_of_two v c d i.0 h g i.1 (scope_of e) s i.2.images i.2.unified) i.2

pub sorted_of_one : (v : Vocabulary) (c e : Clause) (s : ℕ → Term) → AreSorted v (scope_of c) c.lits → InfersFromOne v c e s → AreSorted v (scope_of e) e.lits
sorted_of_one v c e s h i = made_sorted v (scope_of c) i.0 e s (left_of_one v c i.0 h i.1 (scope_of e) s i.2.images i.2.unified) i.2
