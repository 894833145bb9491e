-- What holds of the instances of literals over the line's and the parents' variables holds of the instances by the
-- parents' part, and the other way round.
use Rattle.std.specs.Prelude.{ℕ, ◌≡◌, ◌++◌, List, length, map, Option, Some, None}
use Rattle.std.proofs.Common.{sym, subst}
use Rattle.fof_terms.specs.Vocabulary.{Vocabulary}
use Rattle.fof_terms.specs.declared.term.Term.{Term}
use Rattle.clause_form.specs.declared.clause.Lit.{Lit}
use Rattle.clause_form.specs.declared.clause.Clause.{Clause}
use Rattle.clause_form.proofs.ClauseLaws.{lits_agree}
use Rattle.clause_form.specs.Covers.{lit_image, lit_apart, scope_of, AreSorted}
use Rattle.clause_form.specs.Images.{IsImages}
use Rattle.unify_terms.specs.Substitution.{image_at, IsSubstitution}
use Rattle.unify_terms.specs.declared.goal.Goal.{Goal}
use Rattle.unify_terms.specs.declared.pair.Pair.{Pair}
use Rattle.unify_terms.specs.declared.scope.Scope.{Scope}
use Rattle.clause_rules.specs.Settled.{Settles}
use Rattle.substitution_search.specs.Settled.{IsSolution}
use Rattle.clause_rules.specs.Steps.{images_of_parents, instances, IsJoint}
use Rattle.substitution_search.proofs.WaysFacts.{MeetsNeeds}
use Rattle.clause_rules.specs.Ways.{goal_of_needs}
use Rattle.clause_rules.proofs.JointImages.{made, made_joint, made_agrees, line_stays, parents_stay, parents_images}
use Rattle.substitution_search.proofs.Meeting.{solved_needs, unsolved_needs}

module _ (v : Vocabulary) (line : Clause) (scope : List ℕ) (sorted : AreSorted v (scope_of line) line.lits) (first second : List Lit) (Q : List Lit → List Lit → List Lit → Type 0) where
  abbrev pub moved : List Lit → List Lit
  moved lits = map (lit_apart (length line.sorts)) lits

  abbrev pub Held : List Term → Type 0
  Held images = Q (map (lit_image (image_at images)) line.lits) (map (lit_image (image_at images)) (moved first)) (map (lit_image (image_at images)) (moved second))

  abbrev pub Wanted : (ℕ → Term) → Type 0
  Wanted s = Q line.lits (instances s first) (instances s second)

  module _ (target : List ℕ) (images : List Term) (sub : IsSubstitution v (scope_of line ++ scope) (length line.sorts) target images) where
    pub wanted_of_held : Held images → Wanted (images_of_parents line images)
    wanted_of_held h =
        subst (λ ls. Q ls (instances (images_of_parents line images) first) (instances (images_of_parents line images) second)) (line_stays v line scope target images sub sorted)
        (subst (λ ls. Q (map (lit_image (image_at images)) line.lits) ls (instances (images_of_parents line images) second)) (parents_stay v line scope images first)
        (subst (λ ls. Q (map (lit_image (image_at images)) line.lits) (map (lit_image (image_at images)) (moved first)) ls) (parents_stay v line scope images second) h))

    pub held_of_wanted : Wanted (images_of_parents line images) → Held images
    held_of_wanted h =
        subst (λ ls. Q (map (lit_image (image_at images)) line.lits) (map (lit_image (image_at images)) (moved first)) ls) (sym (parents_stay v line scope images second))
        (subst (λ ls. Q (map (lit_image (image_at images)) line.lits) ls (instances (images_of_parents line images) second)) (sym (parents_stay v line scope images first))
        (subst (λ ls. Q ls (instances (images_of_parents line images) first) (instances (images_of_parents line images) second)) (sym (line_stays v line scope target images sub sorted)) h))

  -- any substitution of the parents' variables as part of a joint one
  module _ (first_sorted : AreSorted v scope first) (second_sorted : AreSorted v scope second) (more : List ℕ) (s : ℕ → Term) (images : IsImages v scope (scope_of line ++ more) s) where
    pub held_by_made : Wanted s → Held (made v line scope more s images)
    held_by_made h =
        let all = made v line scope more s images in
        let agree = made_agrees v line scope more s images in
        held_of_wanted (scope_of line ++ more) all (made_joint v line scope more s images)
        (subst (λ ls. Q line.lits ls (instances (images_of_parents line all) second)) (lits_agree v scope s (images_of_parents line all) agree first first_sorted)
        (subst (λ ls. Q line.lits (instances s first) ls) (lits_agree v scope s (images_of_parents line all) agree second second_sorted) h))

-- what holds exactly where another thing holds is settled with it
pub settles_like : (v : Vocabulary) (line : Clause) (scope : List ℕ) (P R : List ℕ → (ℕ → Term) → Type 0) → ((more : List ℕ) (s : ℕ → Term) → P more s → R more s) → ((more : List ℕ) (s : ℕ → Term) → R more s → P more s) → (found : Option (List Term))
    → Settles v line scope P found → Settles v line scope R found
settles_like v line scope P R forth back None none = λ more s r. none more s (back more s r)
settles_like v line scope P R forth back (Some images) some = (some.0, forth scope (images_of_parents line images) some.1)

-- a search whose needs are met exactly where Q holds of the instances
module _ (v : Vocabulary) (line : Clause) (scope : List ℕ) (sorted : AreSorted v (scope_of line) line.lits) (first second : List Lit) (first_sorted : AreSorted v scope first) (second_sorted : AreSorted v scope second) (Q : List Lit → List Lit → List Lit → Type 0) (joint : Scope) (sorts : joint.sorts ≡ scope_of line ++ scope) (rigid : joint.rigid ≡ length line.sorts) (goal : Goal) (needs : List (List (List Pair))) (asks : goal ≡ goal_of_needs needs) (forth : (images : List Term) → MeetsNeeds images needs → Held v line scope sorted first second Q images) (back : (images : List Term) → Held v line scope sorted first second Q images → MeetsNeeds images needs) where
  abbrev pub Holds : List ℕ → (ℕ → Term) → Type 0
  Holds more s = IsImages v scope (scope_of line ++ more) s × Q line.lits (instances s first) (instances s second)

  pub settled_by : (found : Option (List Term)) → IsSolution v joint goal found → Settles v line scope Holds found
  settled_by None none = λ more s h.
      let images = made v line scope more s h.0 in
      unsolved_needs v joint needs goal asks none (scope_of line ++ more) images (rw (sorts, rigid) (made_joint v line scope more s h.0))
      (back images (held_by_made v line scope sorted first second Q first_sorted second_sorted more s h.0 h.1))
  settled_by (Some images) some =
      let meets : MeetsNeeds images needs = subst (λ is. MeetsNeeds is needs) some.1 (solved_needs v joint needs goal some.0 asks some.2) in
      let sub : IsJoint v line scope images = subst (IsJoint v line scope) some.1 (rw (sorts, rigid) at some.2.0) in
      (sub, (parents_images v line scope images sub, wanted_of_held v line scope sorted first second Q (scope_of line ++ scope) images sub (forth images meets)))
