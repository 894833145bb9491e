-- Going through the clauses that the parents are, in search of a resolution.
use Rattle.std.specs.Prelude.{ℕ, ◌≡◌, ◌<◌, ◌≤◌, List, [], ◌∷◌, length, map, Option, Some, None, slice_get, refl}
use Rattle.std.proofs.Common.{ap, sym, subst, ◌∙◌, arith, zero, suc}
use Rattle.std.proofs.lemmas.Option.{slice_get_within}
use Rattle.std.proofs.lemmas.List.Elements.{recursion_from_All}
use Rattle.fof_terms.specs.Vocabulary.{Vocabulary}
use Rattle.fof_terms.specs.declared.form.Form.{Form}
use Rattle.fof_terms.specs.declared.term.Term.{Term}
use Rattle.fof_terms.proofs.Scoped.{member_of}
use Rattle.clause_form.specs.declared.clause.Clause.{Clause}
use Rattle.clause_form.specs.declared.path.Parent.{Parent}
use Rattle.clause_form.specs.ClauseView.{clause_of}
use Rattle.clause_rules.specs.declared.just.Just.{Just}
use Rattle.clause_rules.specs.declared.just.Just.TheVariants.{Resolution}
use Rattle.rule_steps.specs.declared.resolution_rule.Found.{Found}
use Rattle.clause_rules.specs.Answers.{IsAnswer, resolution, rule_of}
use Rattle.clause_rules.specs.Justified.{Shows}
use Rattle.clause_rules.specs.ResolutionRule.{ResolvesTo}
use Rattle.rule_steps.specs.code.ResolutionSearch.{ResolvesWith, ResolvesFrom, ShowsWith, ShowsFrom, FoundAt, FoundInSlot, FoundPivot, FoundWith, FoundFrom, FoundAmong}
use Rattle.substitution_search.specs.Screens.{NeverPivot}
use Rattle.rule_steps.specs.code.SlotFits.{IsSlotFit, AllFit}
use Rattle.clause_rules.specs.Steps.{IsReady, AreReady, clauses_of}
use Rattle.rule_steps.proofs.ClauseSorts.{clause_sorted}
use Rattle.clause_rules.proofs.Firsts.{one_at}
use Rattle.rule_steps.proofs.ResolvedAt.{left_within, never_left, no_resolution}

-- the clause of a formula that is ready fits
pub form_fits : (v : Vocabulary) (a : Form) → IsReady v a → IsSlotFit v (clause_of a)
form_fits v a h c e =
    let both = clause_sorted v a c h.fits e in
    let few = h.few_binders in
    record { sorted = both.0; few = omega (arith, both.1) }

get_map : {X Y : Type 0} (f : X → Y) (xs : List X) (i : ℕ) (y : Y) → slice_get (map f xs) i ≡ Some y → (x : X) × (slice_get xs i ≡ Some x) × (f x ≡ y)
get_map f [] i y e = cc
get_map f (x ∷ xs) zero y e = (x, refl, cc)
get_map f (x ∷ xs) (suc i) y e = get_map f xs i y e

pub parents_fit : (v : Vocabulary) (parents : List Parent) → AreReady v parents → AllFit v (clauses_of parents)
parents_fit v parents h a slot e =
    let found = get_map (λ (p : Parent). clause_of p.form) parents a slot e in
    let ready = member_of (λ (p : Parent). IsReady v p.form) parents a found.0 (recursion_from_All (λ (p : Parent). IsReady v p.form) parents h) found.1 in
    subst (IsSlotFit v) found.2 (form_fits v found.0.form ready)

module _ (v : Vocabulary) (clauses : List (Option Clause)) (line : Clause) where
  module _ (left : Clause) (b : ℕ) (slot : Option Clause) (at : slice_get clauses b ≡ Some slot) where
    pub none_in_slot : (i : ℕ) (found : Option Found) → found ≡ None → FoundInSlot v left slot line i found → (j : ℕ) (more : List ℕ) (s : ℕ → Term) → ResolvesWith v clauses left line b i j more s → ⊥
    none_in_slot i None e none j more s r = none r.right (one_at clauses b slot (Some r.right) at r.there) j more s r.resolves
    none_in_slot i (Some found) e none j more s r = cc

    pub found_in_slot : (a i : ℕ) (found : Option Found) (pivot : Found) (just : Just) → found ≡ Some pivot → FoundInSlot v left slot line i found → just ≡ Resolution a b i pivot.place pivot.subst → ShowsWith v clauses left line a just
    found_in_slot a i None pivot just e shown is = cc
    found_in_slot a i (Some found) pivot just e shown is =
        let same : found ≡ pivot = cc in
        record {
          b = b;
          i = i;
          j = found.place;
          images = found.subst;
          right = shown.0;
          is = is ∙ ap (λ (p : Found). Resolution a b i p.place p.subst) (sym same);
          there = at ∙ ap Some shown.1;
          shown = shown.2;
        }

  pub in_slot : (left right : Clause) (slot : Option Clause) (i : ℕ) → slot ≡ Some right → (found : Option Found) → FoundAt v left right line i found → FoundInSlot v left slot line i found
  in_slot left right slot i is None none = λ other e. let same : other ≡ right = cc in subst (λ (x : Clause). (j : ℕ) (more : List ℕ) (s : ℕ → Term) → ResolvesTo v left x line i j more s → ⊥) (sym same) none
  in_slot left right slot i is (Some found) shown = (right, is, shown)

  -- the literal is no pivot, whichever the right clause
  pub no_pivot : (left : Clause) (i : ℕ) → NeverPivot line.lits left.lits i → (b j : ℕ) (more : List ℕ) (s : ℕ → Term) → ResolvesWith v clauses left line b i j more s → ⊥
  no_pivot left i never b j more s r = no_resolution v left r.right line i j (never_left line.lits left.lits r.right.lits i j never) more s r.resolves

  pub none_pivot : (left : Clause) (a i : ℕ) (found : Option Just) → found ≡ None → FoundPivot v clauses left line a i found → (b j : ℕ) (more : List ℕ) (s : ℕ → Term) → ResolvesWith v clauses left line b i j more s → ⊥
  none_pivot left a i None e none = none
  none_pivot left a i (Some just) e none = λ b j more s r. cc

  pub found_pivot : (left : Clause) (a i : ℕ) (found : Option Just) (just : Just) → found ≡ Some just → FoundPivot v clauses left line a i found → FoundWith v clauses left line a (Some just)
  found_pivot left a i None just e shown = cc
  found_pivot left a i (Some found) just e shown = let same : found ≡ just = cc in subst (ShowsWith v clauses left line a) same shown

  pub from_slot : (left : Clause) (slot : Option Clause) (a : ℕ) → slot ≡ Some left → (found : Option Just) → FoundWith v clauses left line a found → FoundFrom v clauses slot line a found
  from_slot left slot a is None none = λ other e. let same : other ≡ left = cc in subst (λ (x : Clause). (b i j : ℕ) (more : List ℕ) (s : ℕ → Term) → ResolvesWith v clauses x line b i j more s → ⊥) (sym same) none
  from_slot left slot a is (Some just) shown = (left, is, shown)

  pub none_with : (left : Clause) (i n : ℕ) → length clauses ≤ n → ((b : ℕ) → b < n → (j : ℕ) (more : List ℕ) (s : ℕ → Term) → ResolvesWith v clauses left line b i j more s → ⊥) → FoundPivot v clauses left line 0 i None
  none_with left i n h none b j more s r = let lt = slice_get_within clauses b (Some r.right) r.there in none b (omega arith) j more s r

  pub none_at_all : (left : Clause) (n : ℕ) → length left.lits ≤ n → ((i : ℕ) → i < n → (b j : ℕ) (more : List ℕ) (s : ℕ → Term) → ResolvesWith v clauses left line b i j more s → ⊥) → FoundWith v clauses left line 0 None
  none_at_all left n h none b i j more s r = let lt = left_within v left r.right line i j more s r.resolves in none i (omega arith) b j more s r

  module _ (a : ℕ) (slot : Option Clause) (at : slice_get clauses a ≡ Some slot) where
    pub none_from_slot : (found : Option Just) → found ≡ None → FoundFrom v clauses slot line a found → (b i j : ℕ) (more : List ℕ) (s : ℕ → Term) → ResolvesFrom v clauses line a b i j more s → ⊥
    none_from_slot None e none b i j more s r = none r.left (one_at clauses a slot (Some r.left) at r.there) b i j more s r.rest
    none_from_slot (Some found) e none b i j more s r = cc

    pub found_from_slot : (found : Option Just) (just : Just) → found ≡ Some just → FoundFrom v clauses slot line a found → ShowsFrom v clauses line just
    found_from_slot None just e shown = cc
    found_from_slot (Some found) just e shown =
        let same : found ≡ just = cc in
        record { a = a; left = shown.0; there = at ∙ ap Some shown.1; rest = subst (ShowsWith v clauses shown.0 line a) same shown.2 }

  pub none_among : (n : ℕ) → length clauses ≤ n → ((a : ℕ) → a < n → (b i j : ℕ) (more : List ℕ) (s : ℕ → Term) → ResolvesFrom v clauses line a b i j more s → ⊥) → FoundAmong v clauses line None
  none_among n h none a b i j more s r = let lt = slice_get_within clauses a (Some r.left) r.there in none a (omega arith) b i j more s r

-- the answer from what was found among the clauses
pub resolution_answer : (v : Vocabulary) (parents : List Parent) (form : Form) (line : Clause) (clauses : List (Option Clause)) → clause_of form ≡ Some line → clauses ≡ clauses_of parents → (found : Option Just) → FoundAmong v clauses line found
    → IsAnswer v parents form resolution found
resolution_answer v parents form line clauses is same None none = λ h.
    let at = h.9 in
    let e : h.6 ≡ line = let f = at.line_clause in cc in
    none h.0 h.1 h.2 h.3 h.7 h.8 (record {
      left = h.4;
      there = ap (λ (cs : List (Option Clause)). slice_get cs h.0) same ∙ at.left_clause;
      rest = record {
        right = h.5;
        there = ap (λ (cs : List (Option Clause)). slice_get cs h.1) same ∙ at.right_clause;
        resolves = subst (λ (x : Clause). ResolvesTo v h.4 h.5 x h.2 h.3 h.7 h.8) e at.resolves;
      };
    })
resolution_answer v parents form line clauses is same (Some just) shown =
    let w = shown.rest in
    let shows : Shows v parents form (Resolution shown.a w.b w.i w.j w.images) = (
      shown.left,
      w.right,
      line,
      w.shown.joint,
      record {
        line_clause = is;
        left_clause = ap (λ (cs : List (Option Clause)). slice_get cs shown.a) (sym same) ∙ shown.there;
        right_clause = ap (λ (cs : List (Option Clause)). slice_get cs w.b) (sym same) ∙ w.there;
        resolves = w.shown.resolves;
      },
    ) in
    (ap rule_of w.is, subst (Shows v parents form) (sym w.is) shows)
