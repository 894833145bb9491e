-- The ends of a search for a covering.
use Rattle.std.specs.Prelude.{ℕ, ◌≡◌, ◌<◌, ◌≤◌, true, List, [], ◌++◌, length, map, Option, Some, None, Result, IfOk, IfSome, slice_get, refl}
use Rattle.std.proofs.Common.{ap, sym, subst, ◌∙◌, arith, append-nil}
use Rattle.std.proofs.lemmas.Option.{slice_get_within}
use Rattle.fof_terms.specs.Vocabulary.{Vocabulary}
use Rattle.fof_terms.specs.Sorts.{is_sorted}
use Rattle.fof_terms.specs.declared.term.Term.{Term}
use Rattle.fof_terms.specs.declared.form.Form.{Form}
use Rattle.clause_form.specs.declared.clause.Lit.{Lit}
use Rattle.clause_form.specs.declared.clause.Clause.{Clause}
use Rattle.clause_form.specs.declared.path.Parent.{Parent}
use Rattle.clause_form.specs.declared.path.Path.{Path}
use Rattle.clause_form.proofs.ClauseLaws.{get_image}
use Rattle.clause_form.specs.ClauseView.{clause_of}
use Rattle.clause_form.specs.Covers.{lit_image, scope_of, IsCovered, CoversBy, AreSorted}
use Rattle.clause_form.specs.Found.{IsRoomy}
use Rattle.clause_form.specs.Images.{IsImages}
use Rattle.clause_form.specs.Norm.{norm_of, HasNorm}
use Rattle.clause_form.proofs.NormSize.{norm_small}
use Rattle.clause_form.specs.Paths.{reached}
use Rattle.clause_form.specs.Sizes.{norm_size_of}
use Rattle.unify_terms.specs.declared.goal.Goal.{Goal}
use Rattle.unify_terms.specs.Goals.{goal_sorted}
use Rattle.unify_terms.specs.Substitution.{image_at}
use Rattle.rule_steps.specs.declared.cover_rule.Covering.{Covering}
use Rattle.clause_rules.specs.declared.joint.Joint.{Joint}
use Rattle.clause_rules.specs.declared.just.Just.{Just}
use Rattle.clause_rules.specs.declared.just.Just.TheVariants.{Cover}
use Rattle.substitution_search.specs.declared.taking.Reached.{Reached}
use Rattle.clause_rules.specs.Answers.{IsAnswer, cover, rule_of}
use Rattle.rule_steps.specs.code.CoverFound.{NoCover, FoundCover, FoundInForm, NoCoverAt, ShowsCover, ShowsCoverAt, FoundCoverAmong, SettlesReached}
use Rattle.clause_rules.specs.JointClauses.{IsJoinedOne}
use Rattle.clause_rules.specs.Justified.{Shows}
use Rattle.clause_rules.specs.Settled.{IsFit, Settles}
use Rattle.substitution_search.specs.Settled.{IsGuessed, IsSolution}
use Rattle.clause_rules.specs.Steps.{AreCovered, instances}
use Rattle.clause_rules.specs.Ways.{cover_needs, goal_of_needs}
use Rattle.rule_steps.proofs.CoverTop.{CoversSome}
use Rattle.substitution_search.proofs.Covering.{covers_forth, covers_back}
use Rattle.rule_steps.proofs.Factoring.{no_lits}
use Rattle.clause_rules.proofs.Firsts.{one_at, ok_map}
use Rattle.clause_rules.proofs.JointImages.{sorted_further}
use Rattle.clause_rules.proofs.NeedSorts.{all_cover_fits, goal_fits}
use Rattle.clause_form.proofs.NormFits.{norm_fits}
use Rattle.rule_steps.proofs.ReachedFits.{reached_fits}
use Rattle.rule_steps.proofs.ResolvedAt.{parents_fit}
use Rattle.rule_steps.proofs.Settling.{settled_by, settles_like}
use Rattle.clause_rules.proofs.ListPlaces.{get_of_map}

module _ (v : Vocabulary) (c line : Clause) (c_fit : IsFit v c) (line_fit : IsFit v line) (joint : Joint) (joined : IsJoinedOne line c joint) (goal : Goal) (asks : goal ≡ goal_of_needs (cover_needs line.lits joint.left)) where
  abbrev sorts : List ℕ
  sorts = scope_of line ++ scope_of c

  pub covering_sorted : goal_sorted v joint.scope.sorts goal ≡ true
  covering_sorted =
      rw (joined.sorts, asks)
      (goal_fits v sorts (cover_needs line.lits joint.left)
      (all_cover_fits v sorts line.lits joint.left (sorted_further v (scope_of line) (scope_of c) line.lits line_fit.sorted) (subst (AreSorted v sorts) (sym joined.lits) (parents_fit v line (scope_of c) c.lits c_fit.sorted))))

  abbrev Q : List Lit → List Lit → List Lit → Type 0
  Q ls ks ms = AreCovered ls ks

  abbrev Wanted : List ℕ → (ℕ → Term) → Type 0
  Wanted more s = IsImages v (scope_of c) (scope_of line ++ more) s × AreCovered line.lits (instances s c.lits)

  wanted_forth : (more : List ℕ) (s : ℕ → Term) → Wanted more s → CoversBy v (scope_of c) c.lits line more s
  wanted_forth more s h = record { images = h.0; covered = λ i k at. h.1 i (lit_image s k) (get_image s c.lits i k at) }

  wanted_back : (more : List ℕ) (s : ℕ → Term) → CoversBy v (scope_of c) c.lits line more s → Wanted more s
  wanted_back more s h = (h.images, λ i k at. let f = get_of_map (lit_image s) c.lits i k at in subst (IsCovered line.lits) f.2 (h.covered i f.0 f.1))

  pub covering_settled : (found : Option (List Term)) → IsSolution v joint.scope goal found → Settles v line (scope_of c) (CoversBy v (scope_of c) c.lits line) found
  covering_settled found solution =
      settles_like v line (scope_of c) Wanted (CoversBy v (scope_of c) c.lits line) wanted_forth wanted_back found
      (settled_by v line (scope_of c) line_fit.sorted c.lits [] c_fit.sorted (no_lits v (scope_of c)) Q joint.scope joined.sorts joined.rigid goal (cover_needs line.lits joint.left) asks
      (λ images h. subst (λ ks. AreCovered (map (lit_image (image_at images)) line.lits) (map (lit_image (image_at images)) ks)) joined.lits (covers_forth images line.lits joint.left h))
      (λ images h. covers_back images line.lits joint.left (subst (λ ks. AreCovered (map (lit_image (image_at images)) line.lits) (map (lit_image (image_at images)) ks)) (sym joined.lits) h))
      found solution)

  pub covering_guessed : (found : Option (List Term)) → IsGuessed v joint.scope goal found → IfSome found (λ images. Settles v line (scope_of c) (CoversBy v (scope_of c) c.lits line) (Some images))
  covering_guessed None h = tt
  covering_guessed (Some images) h = covering_settled (Some images) h

-- what a path reaches in a small normal form fits
module _ (v : Vocabulary) (norm : Form) (small : norm_size_of norm ≤ 100000) (sorted : is_sorted v [] norm ≡ true) where
  pub norm_is_roomy : IsRoomy norm
  norm_is_roomy = record { vocabulary = v; scope = []; room = omega (arith, small); fits = sorted }

  pub path_fits : (path : Path) (c : Clause) → reached path norm ≡ Some c → IsFit v c
  path_fits path c e =
      let f = reached_fits v norm path c e [] sorted in
      let few = f.few in
      record { sorted = subst (λ ts. AreSorted v ts c.lits) (append-nil (scope_of c)) f.sorted; few = omega (arith, small, few) }

  pub shown_at_once : (line : Clause) (path : Path) (c : Clause) (images : List Term) → reached path norm ≡ Some c → Settles v line (scope_of c) (CoversBy v (scope_of c) c.lits line) (Some images) → ShowsCover v norm line path images
  shown_at_once line path c images e h = record { clause = c; reaches = e; joint = h.0; covers = h.1 }

-- what was reached, as a covering of the normal form
module _ (v : Vocabulary) (norm : Form) (line : Clause) where
  pub reached_found : (made : Reached) (some : CoversSome v norm line made) (found : Option Covering) → SettlesReached v line made found → FoundCover v norm line found
  reached_found made some None none = absurd (none some.more some.images some.covers)
  reached_found made some (Some covering) h = record {
    clause = made.clause;
    reaches = ap (λ p. reached p norm) h.0 ∙ some.reaches;
    joint = h.1;
    covers = h.2;
  }

module _ (v : Vocabulary) (form norm got : Form) (has : HasNorm form norm) (same : got ≡ norm) where
  pub norm_is_small : norm_size_of got ≤ 100000
  norm_is_small =
      let le = norm_small form true in
      let is : norm_size_of got ≡ norm_size_of (norm_of true form) = ap norm_size_of (same ∙ sym has.same) in
      let small = has.small in
      omega arith

  pub norm_is_sorted : is_sorted v [] form ≡ true → is_sorted v [] got ≡ true
  norm_is_sorted h = subst (λ a. is_sorted v [] a ≡ true) (has.same ∙ sym same) (norm_fits v form true [] h)

  pub found_in_form : (line : Clause) (found : Option Covering) → FoundCover v got line found → FoundInForm v form line found
  found_in_form line None none = λ small. subst (λ a. NoCover v a line) (same ∙ sym has.same) none
  found_in_form line (Some covering) shown = (has.small, subst (λ a. FoundCover v a line (Some covering)) (same ∙ sym has.same) shown)

pub too_wide : (v : Vocabulary) (form : Form) (line : Clause) → 100000 < norm_size_of form → FoundInForm v form line None
too_wide v form line wide = λ small. absurd (omega arith)

module _ (v : Vocabulary) (parents : List Parent) (line : Clause) where
  module _ (a : ℕ) (parent : Parent) (at : slice_get parents a ≡ Some parent) where
    pub none_at : (found : Option Covering) → found ≡ None → FoundInForm v parent.form line found → NoCoverAt v parents line a
    none_at None e none = λ p there small. let same : parent ≡ p = one_at parents a parent p at there in subst (λ (q : Parent). norm_size_of q.form ≤ 100000 → NoCover v (norm_of true q.form) line) same none small
    none_at (Some covering) e shown = absurd (let f = e in cc)

    pub found_at : (found : Option Covering) (covering : Covering) (just : Just) → found ≡ Some covering → FoundInForm v parent.form line found → just ≡ Cover a covering.path covering.subst → ShowsCoverAt v parents line just
    found_at None covering just e shown is = absurd (let f = e in cc)
    found_at (Some found) covering just e shown is =
        let same : found ≡ covering = cc in
        let moved : FoundInForm v parent.form line (Some covering) = subst (λ c. FoundInForm v parent.form line (Some c)) same shown in
        record { a = a; parent = parent; covering = covering; is = is; there = at; small = moved.0; shown = moved.1 }

  pub none_nowhere : (n : ℕ) → length parents ≤ n → ((a : ℕ) → a < n → NoCoverAt v parents line a) → (a : ℕ) → NoCoverAt v parents line a
  none_nowhere n h none a p there = let lt = slice_get_within parents a p there in none a (omega arith) p there

-- the answer from what was found among the parents
pub cover_answer : (v : Vocabulary) (parents : List Parent) (form : Form) (line : Clause) → clause_of form ≡ Some line → (found : Option Just) → FoundCoverAmong v parents line found → IsAnswer v parents form cover found
cover_answer v parents form line is None none = λ h.
    let at = h.6 in
    let e : h.3 ≡ line = let f = at.line_clause in cc in
    none h.0 at.reaches.parent at.reaches.there at.reaches.small h.1 h.2 h.4 h.5 at.reaches.clause (subst (λ (x : Clause). CoversBy v (scope_of h.2) h.2.lits x h.4 h.5) e at.covers)
cover_answer v parents form line is (Some just) w =
    let shows : Shows v parents form (Cover w.a w.covering.path w.covering.subst) = (
      w.shown.clause,
      line,
      w.shown.joint,
      record {
        reaches = record { parent = w.parent; there = w.there; small = w.small; clause = w.shown.reaches };
        line_clause = is;
        covers = w.shown.covers;
      },
    ) in
    (ap rule_of w.is, subst (Shows v parents form) (sym w.is) shows)
