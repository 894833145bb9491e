-- The search for a rewriting, as code makes it.
use Rattle.std.specs.Prelude.{ℕ, Bool, true, ◌≡◌, ◌<◌, ◌≤◌, ◌^◌, List, [], ◌++◌, length, map, Option, Some, None, Result, IfOk, slice_get, refl}
use Rattle.std.specs.List.{All as Each}
use Rattle.std.specs.Option.{MatchOption}
use Rattle.std.proofs.Common.{ap, sym, subst, ◌∙◌, arith, append_assoc, length-append}
use Rattle.std.proofs.lemmas.List.{length-reverse}
use Rattle.std.proofs.lemmas.List.Elements.{All-weaker}
use Rattle.fof_terms.specs.Vocabulary.{Vocabulary}
use Rattle.fof_terms.specs.declared.form.Form.{Form}
use Rattle.fof_terms.specs.declared.term.Term.{Term, Var}
use Rattle.fof_terms.specs.Lift.{lifted_term}
use Rattle.clause_form.specs.declared.clause.Lit.{Lit}
use Rattle.clause_form.specs.declared.clause.Clause.{Clause}
use Rattle.clause_form.specs.declared.path.Parent.{Parent}
use Rattle.clause_form.proofs.ClauseLaws.{get_image}
use Rattle.clause_form.specs.ClauseView.{clause_of}
use Rattle.clause_form.specs.Covers.{lit_apart, lit_image, scope_of, is_sorted_atom, AreSorted, CoversBy, IsCovered}
use Rattle.clause_form.specs.Images.{image, IsImages}
use Rattle.unify_terms.specs.declared.goal.Goal.{Goal}
use Rattle.unify_terms.specs.declared.pair.Pair.{Pair}
use Rattle.unify_terms.specs.declared.scope.Scope.{Scope}
use Rattle.unify_terms.specs.Goals.{goal_sorted}
use Rattle.unify_terms.specs.Substitution.{image_at}
use Rattle.unify_terms.specs.Unifiers.{Unified}
use Rattle.clause_rules.specs.declared.joint.Joint.{Joint}
use Rattle.clause_rules.specs.declared.just.Just.{Just}
use Rattle.clause_rules.specs.declared.just.Just.TheVariants.{Rewrite}
use Rattle.rule_steps.specs.declared.rewrite_rule.Rewriting.{Rewriting}
use Rattle.rule_steps.specs.declared.sites.Reading.{Reading}
use Rattle.rule_steps.specs.declared.sites.Site.{Site}
use Rattle.clause_rules.specs.Answers.{IsAnswer, rewrite, rule_of}
use Rattle.clause_rules.specs.JointClauses.{IsJoinedOne}
use Rattle.clause_rules.specs.Justified.{Shows}
use Rattle.rule_steps.specs.code.ParamodulationSearch.{HasEquation, sites_from, readings_from}
use Rattle.clause_rules.specs.Places.{lit_term_at}
use Rattle.clause_rules.specs.Reach.{atom_reach}
use Rattle.clause_rules.specs.RewriteRule.{AreLitsRewritten, Rewrites}
use Rattle.rule_steps.specs.code.RewriteSearch.{NoRewriting, IsRewriting, SettlesRewriting, NoRewritingAt, ShowsRewritingAt, TriedRewriting, ShowsRewriting, RewritesAtSites}
use Rattle.substitution_search.specs.Screens.{NeverEqual}
use Rattle.clause_rules.specs.Settled.{IsFit, Settles}
use Rattle.substitution_search.specs.Settled.{IsSolution}
use Rattle.clause_rules.specs.Steps.{AreCovered, equation, instances, clauses_of, scope_of_both}
use Rattle.clause_rules.specs.Ways.{cover_needs, goal_of_needs}
use Rattle.substitution_search.proofs.Covering.{covers_forth, covers_back}
use Rattle.clause_rules.proofs.Equations.{equation_image, same_sides}
use Rattle.rule_steps.proofs.Factoring.{no_lits}
use Rattle.clause_rules.proofs.Firsts.{one_at, ok_map}
use Rattle.clause_rules.proofs.JointImages.{sorted_further}
use Rattle.clause_rules.proofs.LitImages.{image_itself}
use Rattle.clause_rules.proofs.Moving.{reach_of}
use Rattle.clause_rules.proofs.NeedSorts.{all_cover_fits, goal_fits}
use Rattle.rule_steps.proofs.ParamodulationEnds.{site_listed, reading_listed}
use Rattle.rule_steps.proofs.ResolvedAt.{parents_fit}
use Rattle.rule_steps.proofs.Settling.{settled_by, settles_like}
use Rattle.substitution_search.proofs.Uncovered.{itself}
use Rattle.clause_rules.proofs.ListPlaces.{get_of_map}

pub reaches_over : (v : Vocabulary) (into by : Clause) (lits : List Lit) (n : ℕ) → length into.sorts ≤ 1000000000 → length by.sorts ≤ 1000000000 → n ≤ 1000000000 → AreSorted v (scope_of_both into by) lits → Each (λ (l : Lit). atom_reach n l.atom < 2 ^ 32) lits
reaches_over v into by lits n a b c sorted =
    All-weaker (λ (l : Lit). is_sorted_atom v (scope_of_both into by) l.atom ≡ true) (λ (l : Lit). atom_reach n l.atom < 2 ^ 32)
    (λ l e.
    let reach = reach_of v (scope_of_both into by) n l.atom e in
    let total = length-append (scope_of into) (scope_of by) in
    let one = length-reverse into.sorts in
    let two = length-reverse by.sorts in
    omega arith) lits sorted.fits

pub sorts_joined : (line into by first second third after last : List ℕ) → first ≡ line → second ≡ into → third ≡ by → after ≡ first ++ second → last ≡ after ++ third → last ≡ line ++ (into ++ by)
sorts_joined line into by first second third after last e f g a b = b ∙ ap (λ ss. ss ++ third) (a ∙ ap (λ ss. ss ++ second) e ∙ ap (λ ss. line ++ ss) f) ∙ ap (λ ss. (line ++ into) ++ ss) g ∙ append_assoc line into by

-- covering literals over the variables of the parents
module _ (v : Vocabulary) (line : Clause) (line_fit : IsFit v line) (parents : List ℕ) (lits moved : List Lit) (sorted : AreSorted v parents lits) (moved_is : moved ≡ map (lit_apart (length line.sorts)) lits) (scope : Scope) (sorts_are : scope.sorts ≡ scope_of line ++ parents) (rigid_is : scope.rigid ≡ length line.sorts) (goal : Goal) (asks : goal ≡ goal_of_needs (cover_needs line.lits moved)) where
  abbrev sorts : List ℕ
  sorts = scope_of line ++ parents

  pub over_sorted : goal_sorted v scope.sorts goal ≡ true
  over_sorted =
      rw (sorts_are, asks)
      (goal_fits v sorts (cover_needs line.lits moved)
      (all_cover_fits v sorts line.lits moved (sorted_further v (scope_of line) parents line.lits line_fit.sorted) (subst (AreSorted v sorts) (sym moved_is) (parents_fit v line parents lits sorted))))

  abbrev Q : List Lit → List Lit → List Lit → Type 0
  Q ls ks ms = AreCovered ls ks

  abbrev Wanted : List ℕ → (ℕ → Term) → Type 0
  Wanted more s = IsImages v parents (scope_of line ++ more) s × AreCovered line.lits (instances s lits)

  wanted_forth : (more : List ℕ) (s : ℕ → Term) → Wanted more s → CoversBy v parents lits line more s
  wanted_forth more s h = record { images = h.0; covered = λ i k at. h.1 i (lit_image s k) (get_image s lits i k at) }

  wanted_back : (more : List ℕ) (s : ℕ → Term) → CoversBy v parents lits line more s → Wanted more s
  wanted_back more s h = (h.images, λ i k at. let f = get_of_map (lit_image s) lits i k at in subst (IsCovered line.lits) f.2 (h.covered i f.0 f.1))

  pub over_settled : (found : Option (List Term)) → IsSolution v scope goal found → Settles v line parents (CoversBy v parents lits line) found
  over_settled found solution =
      settles_like v line parents Wanted (CoversBy v parents lits line) wanted_forth wanted_back found
      (settled_by v line parents line_fit.sorted lits [] sorted (no_lits v parents) Q scope sorts_are rigid_is goal (cover_needs line.lits moved) asks
      (λ images h. subst (λ ks. AreCovered (map (lit_image (image_at images)) line.lits) (map (lit_image (image_at images)) ks)) moved_is (covers_forth images line.lits moved h))
      (λ images h. covers_back images line.lits moved (subst (λ ks. AreCovered (map (lit_image (image_at images)) line.lits) (map (lit_image (image_at images)) ks)) (sym moved_is) h))
      found solution)

-- what unification tells, of sorts and pairs as code has them
pub unified_as : (v : Vocabulary) (sorts ss : List ℕ) (n rigid : ℕ) (pairs lent : List Pair) (o : Option (List Term)) → ss ≡ sorts → rigid ≡ n → lent ≡ pairs → Unified v ss rigid lent o → Unified v sorts n pairs o
unified_as v sorts ss n rigid pairs lent o e f g h = subst (λ ps. Unified v sorts n ps o) g (subst (λ k. Unified v sorts k lent o) f (subst (λ xs. Unified v xs rigid lent o) e h))

pub replaced_as : (target new wanted : Term) (old lent lits given : List Lit) → new ≡ wanted → lent ≡ old → given ≡ lits → AreLitsRewritten target new lent lits → AreLitsRewritten target wanted old given
replaced_as target new wanted old lent lits given e f g h = subst (AreLitsRewritten target wanted old) (sym g) (subst (λ ls. AreLitsRewritten target wanted ls lits) f (subst (λ x. AreLitsRewritten target x lent lits) e h))

pub no_rewrite_heads : (v : Vocabulary) (into by line : Clause) (target : Term) (flipped : Bool) (l r0 : Term) → slice_get by.lits 0 ≡ Some (equation flipped l r0) → NeverEqual true l target → NoRewriting v into by line target flipped
no_rewrite_heads v into by line target flipped l r0 at never further r more s h =
    let there : slice_get by.lits 0 ≡ Some (equation flipped h.left h.right) = ap (λ (ks : List Lit). slice_get ks 0) h.is_equation in
    let sides = same_sides flipped h.left h.right l r0 (one_at by.lits 0 (equation flipped h.left h.right) (equation flipped l r0) there at) in
    never r Var itself (ap (image r) (sym sides.0) ∙ h.matched ∙ sym (image_itself target))

pub no_match_equation : (v : Vocabulary) (into by line : Clause) (target : Term) (flipped : Bool) (joint : Joint) → IsJoinedOne into by joint → HasEquation joint.left 0 flipped None → NoRewriting v into by line target flipped
no_match_equation v into by line target flipped joint joined none further r more s h =
    let lift = lifted_term (length into.sorts) 0 in
    none (lift h.left) (lift h.right) (ap (λ (ks : List Lit). slice_get ks 0) joined.lits ∙ ap (λ (ks : List Lit). slice_get (map (lit_apart (length into.sorts)) ks) 0) h.is_equation ∙ ap Some (equation_image lift flipped h.left h.right))

module _ (v : Vocabulary) (clauses : List (Option Clause)) (line : Clause) (site : Site) (reading : Reading) where
  pub tried : (into by : Clause) → slice_get clauses site.clause ≡ Some (Some into) → slice_get clauses reading.clause ≡ Some (Some by) → (k : Lit) (u : Term) → (slice_get into.lits site.lit ≡ Some k) × (lit_term_at site.at k ≡ Some u) → (found : Option Rewriting)
      → SettlesRewriting v into by line u reading.flipped found → TriedRewriting v clauses line site reading found
  tried into by there here k u at None none = λ other others e f k' u' a b further r more s h.
      let same : other ≡ into = let g : Some (Some other) ≡ Some (Some into) = sym e ∙ there in cc in
      let same_by : others ≡ by = let g : Some (Some others) ≡ Some (Some by) = sym f ∙ here in cc in
      let lit : k' ≡ k = one_at into.lits site.lit k' k (subst (λ (x : Clause). slice_get x.lits site.lit ≡ Some k') same a) at.0 in
      let term : u' ≡ u = let g : Some u' ≡ Some u = sym b ∙ ap (lit_term_at site.at) lit ∙ at.1 in cc in
      none further r more s (subst (λ x. Rewrites v into by line x reading.flipped further r more s) term (subst (λ (x : Clause). Rewrites v into x line u' reading.flipped further r more s) same_by (subst (λ (x : Clause). Rewrites v x others line u' reading.flipped further r more s) same h)))
  tried into by there here k u at (Some found) shown = record {
    into = into;
    by = by;
    into_there = there;
    by_there = here;
    shown = subst (λ x. IsRewriting v into by line x reading.flipped found.by_subst found.subst) (sym shown.0) shown.1;
  }

module _ (v : Vocabulary) (clauses : List (Option Clause)) (line : Clause) (site : Site) (reading : Reading) where
  pub none_with : (found : Option Rewriting) → found ≡ None → TriedRewriting v clauses line site reading found → NoRewritingAt v clauses line site reading
  none_with None e none = none
  none_with (Some found) e shown = absurd (let g = e in cc)

  pub shown_some : {E : Type 0} (found : Option Rewriting) (rewriting : Rewriting) (r : Result (Option Just) E) → found ≡ Some rewriting → TriedRewriting v clauses line site reading found
      → IfOk r (λ just. just ≡ Some (Rewrite site.clause reading.clause rewriting.target reading.flipped rewriting.by_subst rewriting.subst)) → IfOk r (λ just. MatchOption just (NoRewritingAt v clauses line site reading) (ShowsRewriting v clauses line))
  shown_some None rewriting r e shown h = absurd (let g = e in cc)
  shown_some (Some found) rewriting r e shown h =
      let same : found ≡ rewriting = cc in
      let whole : ShowsRewriting v clauses line (Rewrite site.clause reading.clause rewriting.target reading.flipped rewriting.by_subst rewriting.subst) = record {
        a = site.clause;
        b = reading.clause;
        flipped = reading.flipped;
        found = rewriting;
        is = refl;
        shown = subst (ShowsRewritingAt v clauses line site.clause reading.clause reading.flipped) same shown;
      } in
      ok_map r (λ just is. subst (λ o. MatchOption o (NoRewritingAt v clauses line site reading) (ShowsRewriting v clauses line)) (sym is) whole) h

-- the answer from what was found at the places
pub rewrite_answer : (v : Vocabulary) (parents : List Parent) (form : Form) (line : Clause) (clauses : List (Option Clause)) (sites : List Site) (readings : List Reading) → clause_of form ≡ Some line → clauses ≡ clauses_of parents → sites ≡ sites_from 0 clauses → readings ≡ readings_from 0 clauses
    → (found : Option Just) → RewritesAtSites v clauses sites readings line found → IsAnswer v parents form rewrite found
rewrite_answer v parents form line clauses sites readings is same listed read None none = λ h.
    let at = h.11 in
    let into = h.4 in
    let by = h.5 in
    let e : h.6 ≡ line = let f = at.line_clause in cc in
    let w = at.rewrites in
    let there : slice_get clauses h.0 ≡ Some (Some into) = ap (λ (cs : List (Option Clause)). slice_get cs h.0) same ∙ at.into_clause in
    let here : slice_get clauses h.1 ≡ Some (Some by) = ap (λ (cs : List (Option Clause)). slice_get cs h.1) same ∙ at.by_clause in
    let site = site_listed clauses h.0 into w.stands.0 w.stands.1 there (record { lit = w.stands.2; term = h.2; there = w.stands.3; stands = w.stands.4 }) in
    let reading = reading_listed clauses h.1 by 0 h.3 w.left w.right here (ap (λ (ks : List Lit). slice_get ks 0) w.is_equation) in
    none site.0 (record { clause = h.0; lit = w.stands.0; at = w.stands.1 }) (ap (λ (xs : List Site). slice_get xs site.0) listed ∙ site.1) reading.0 (record { clause = h.1; lit = 0; flipped = h.3 }) (ap (λ (xs : List Reading). slice_get xs reading.0) read ∙ reading.1)
    into by there here w.stands.2 h.2 w.stands.3 w.stands.4 h.7 h.8 h.9 h.10 (subst (λ (x : Clause). Rewrites v into by x h.2 h.3 h.7 h.8 h.9 h.10) e w)
rewrite_answer v parents form line clauses sites readings is same listed read (Some just) w =
    let x = w.shown in
    let shows : Shows v parents form (Rewrite w.a w.b w.found.target w.flipped w.found.by_subst w.found.subst) = (
      x.into,
      x.by,
      line,
      x.shown.matched,
      x.shown.joint,
      record {
        line_clause = is;
        into_clause = ap (λ (cs : List (Option Clause)). slice_get cs w.a) (sym same) ∙ x.into_there;
        by_clause = ap (λ (cs : List (Option Clause)). slice_get cs w.b) (sym same) ∙ x.by_there;
        rewrites = x.shown.rewrites;
      },
    ) in
    (ap rule_of w.is, subst (Shows v parents form) (sym w.is) shows)

-- nothing is found where no equation is read
pub no_readings : (v : Vocabulary) (clauses : List (Option Clause)) (sites : List Site) (readings : List Reading) (line : Clause) → readings ≡ [] → RewritesAtSites v clauses sites readings line None
no_readings v clauses sites readings line empty = λ m site at k reading e. let none : slice_get [] k ≡ Some reading = ap (λ (rs : List Reading). slice_get rs k) (sym empty) ∙ e in absurd (nothing k reading none) where
  nothing : (k : ℕ) (reading : Reading) → slice_get [] k ≡ Some reading → ⊥
  nothing k reading e = cc
