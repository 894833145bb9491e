-- What answers say, from what is shown.
use Rattle.std.specs.Prelude.{ℕ, ◌≡◌, ◌<◌, ◌≤◌, Bool, List, [], ◌∷◌, ◌++◌, length, take, drop, slice_get, get_or, Option, Some, None, MatchOption, refl}
use Rattle.std.specs.List.{All as Each, AllByRecursion}
use Rattle.std.proofs.Common.{ap, sym, subst, ◌∙◌, arith, inl, inr, zero, suc}
use Rattle.std.proofs.lemmas.List.Elements.{recursion_from_All, All-from_recursion}
use Rattle.std.proofs.lemmas.Option.{slice_get_within}
use Rattle.fof_terms.specs.declared.form.Form.{Form}
use Rattle.fof_terms.specs.Vocabulary.{Vocabulary}
use Rattle.clause_form.specs.declared.path.Parent.{Parent}
use Rattle.clause_rules.specs.NormRule.{HasLinesFlat, IsNormStep, IsFirstNorm}
use Rattle.kernel.specs.Statements.{Statements}
use Rattle.kernel.specs.Proves.{Proves}
use Rattle.kernel.specs.declared.proof.Proof.{Proof}
use Rattle.kernel.specs.declared.entry.Entry.TheVariants.{Lemma}
use Rattle.clause_rules.specs.Answers.{ShapeRule as Word, norm, cover, tautology, resolution, paramodulation, eqfactor, rewrite, place_of, rule_of}
use Rattle.clause_rules.specs.Answers.{Holds as Gives, IsFirst as IsFirstShown}
use Rattle.clause_rules.specs.Justified.{Shows}
use Rattle.clause_rules.specs.declared.just.Just.{Just}
use Rattle.clause_rules.specs.declared.just.Just.TheVariants as variant
use Rattle.clause_rules.proofs.Shown.{holds_when_shown}
use Rattle.elaborate.specs.declared.answer.Rule.{Rule}
use Rattle.skolem_fresh.specs.Justified.{ShowsSkolem}
use Rattle.skolem_fresh.proofs.JustifiedFacts.{skolem_shown}
use Rattle.skolem_fresh.specs.SkolemRule.{IsSkolemStep}
use Rattle.skolem_fresh.specs.declared.just.SkolemJust.{SkolemJust}
use Rattle.split_defs.specs.DefinitionRule.{Defines, IsDefinitionStep}
use Rattle.split_defs.specs.DefinitionSearch.{IsFoundDefinition}
use Rattle.split_defs.specs.SplitRule.{IsSplitStep}
use Rattle.clause_form.specs.Paths.{forms_of}
use Rattle.split_defs.specs.SplitSearch.{ShowsSplit}
use Rattle.split_defs.proofs.SplitSearchFacts.{split_holds}
use Rattle.split_defs.specs.declared.just.SplitJust.{SplitJust}
use Rattle.kernel.specs.declared.entry.Entry.{Entry}
use Rattle.elaborate.specs.declared.answer.Rule.TheVariants.{Norm, Cover}
use Rattle.elaborate.specs.declared.answer.Reason.{Reason}
use Rattle.elaborate.specs.declared.answer.Reason.TheVariants.{Leaf}
use Rattle.elaborate.specs.declared.answer.StepAnswer.{StepAnswer}
use Rattle.elaborate.specs.declared.answer.StepAnswer.TheVariants.{Accepted, Unverified}
use Rattle.clause_rules.specs.Steps.{AreReady, IsReady}
use Rattle.elaborate.specs.declared.leaves.FromOne.{FromOne}
use Rattle.elaborate.specs.declared.steps.Derived.{Derived}
use Rattle.elaborate.specs.ByRule.{ByNone, IsFirst, IsNone, symbol_rules, GivesFirst, GivesNowhere, LeafRule, ByNoLeafRule, shape_rules}
use Rattle.derive_kit.specs.Derived.{AreOfTheory, IsDerivedFrom, numbers_of}
use Rattle.derive_kit.proofs.DerivedFacts.{derived_by_lemma}
use Rattle.elaborate.specs.Answers.{IsSearchAnswer, IsStepAnswer, IsLeafAnswer}
use Rattle.clause_proofs.specs.Shown.{ShowsLine}
use Rattle.elaborate.specs.code.Proofs.{IsByCover, IsByEntries, IsDerived, CoversAlone, CoversNowhere, IsCoverAlone, IsFromFirst, IsFirstCover, IsLeftLeaf, rule_named}
use Rattle.clause_proofs.specs.Refuting.{theory_of}
use Rattle.cover_proofs.proofs.NormLines.{norm_there}
use Rattle.clause_proofs.proofs.ReadyParents.{of_theory, parent_at, parent_ready}

module _ (t u : Statements) where
  abbrev Own : Parent → Type 0
  Own p = slice_get t.formulas p.number ≡ Some p.form

  abbrev Here : Parent → Type 0
  Here p = slice_get u.formulas p.number ≡ Some p.form

  abbrev Kept : ℕ → Type 0
  Kept n = slice_get u.formulas n ≡ slice_get t.formulas n

  each_here : (parents : List Parent) → AllByRecursion Own parents → AllByRecursion Kept (numbers_of parents) → AllByRecursion Here parents
  each_here [] own kept = tt
  each_here (p ∷ parents) own kept = (kept.0 ∙ own.0, each_here parents own.1 kept.1)

  all_here : (parents : List Parent) → Each Own parents → Each Kept (numbers_of parents) → Each Here parents
  all_here parents own kept = All-from_recursion Here parents (each_here parents (recursion_from_All Own parents own) (recursion_from_All Kept (numbers_of parents) kept))

pub derived : (t : Statements) (parents : List Parent) (line : Form) (p : Proof) → AreOfTheory t parents → ShowsLine t.vocabulary parents line p → IsDerivedFrom t (numbers_of parents) (Lemma p ∷ []) line
derived t parents line p all shows =
    derived_by_lemma t (numbers_of parents) p line
    (λ u cited. subst (λ (w : Vocabulary). Proves (theory_of w u.formulas) [] [] p line) (sym cited.vocabulary) (shows u.formulas (all_here t u parents all cited.formulas)))

-- the first of more rules
module _ (t : Statements) (parents : List Parent) (line : Form) where
  pub first_before : (xs ys : List Rule) (rule : Rule) → IsFirst xs t parents line rule → IsFirst (xs ++ ys) t parents line rule
  first_before [] ys rule h = absurd h
  first_before (x ∷ xs) ys rule (inl h) = inl h
  first_before (x ∷ xs) ys rule (inr h) = inr (h.0, first_before xs ys rule h.1)

  pub first_behind : (xs ys : List Rule) (rule : Rule) → IsNone xs t parents line → IsFirst ys t parents line rule → IsFirst (xs ++ ys) t parents line rule
  first_behind [] ys rule n h = h
  first_behind (x ∷ xs) ys rule n h = inr (n.0, first_behind xs ys rule n.1 h)

  pub none_of_both : (xs ys : List Rule) → IsNone xs t parents line → IsNone ys t parents line → IsNone (xs ++ ys) t parents line
  none_of_both [] ys n m = m
  none_of_both (x ∷ xs) ys n m = (n.0, none_of_both xs ys n.1 m)

-- entries that need nothing that is cited are entries for more that is cited
pub derived_weaker : (t : Statements) (cites : List ℕ) (entries : List Entry) (line : Form) → IsDerivedFrom t [] entries line → IsDerivedFrom t cites entries line
derived_weaker t cites entries line d = record {
  first = d.first;
  last = d.last;
  is = d.is;
  before = d.before;
  adds = λ u h. d.adds u (record { vocabulary = h.vocabulary; count = h.count; formulas = All-from_recursion (λ (n : ℕ). slice_get u.formulas n ≡ slice_get t.formulas n) [] tt; fresh = h.fresh });
}

-- where no definition is found, the line is none
pub no_definition : (t : Statements) (line : Form) (o : Option SplitJust) → o ≡ None → IsFoundDefinition (Defines t line) o → IsDefinitionStep t line → ⊥
no_definition t line o is found d = subst (IsFoundDefinition (Defines t line)) is found d.0 d.1 d.2

-- where names are found for parts of a line, the rule gives it
pub split_found : (v : Vocabulary) (parents : List Parent) (line : Form) (o : Option SplitJust) (just : SplitJust) → o ≡ Some just
    → MatchOption o (IsSplitStep v (forms_of parents) line → ⊥) (ShowsSplit v (forms_of parents) line) → IsSplitStep v (forms_of parents) line
split_found v parents line o just is m =
    split_holds v (forms_of parents) line just (subst (λ (x : Option SplitJust). MatchOption x (IsSplitStep v (forms_of parents) line → ⊥) (ShowsSplit v (forms_of parents) line)) is m)

-- where functions are found for a parent's existential variables, the rule gives the line
pub skolem_found : (t : Statements) (parents : List Parent) (line : Form) (o : Option SkolemJust) (just : SkolemJust) → o ≡ Some just
    → MatchOption o (IsSkolemStep t (forms_of parents) line → ⊥) (ShowsSkolem t (forms_of parents) line) → IsSkolemStep t (forms_of parents) line
skolem_found t parents line o just is m =
    skolem_shown t (forms_of parents) line just (subst (λ (x : Option SkolemJust). MatchOption x (IsSkolemStep t (forms_of parents) line → ⊥) (ShowsSkolem t (forms_of parents) line)) is m)

-- entries by one rule
module _ (t : Statements) (cites : List ℕ) (line : Form) (holds : Type 0) (o : Option (List Entry)) where
  pub by_some : (entries : List Entry) → o ≡ Some entries → IsByEntries t cites line holds o → holds × IsDerivedFrom t cites entries line
  by_some entries is h = subst (IsByEntries t cites line holds) is h

  pub by_none : o ≡ None → IsByEntries t cites line holds o → holds → ⊥
  by_none is h = subst (IsByEntries t cites line holds) is h

-- the answer to a step, by what is found
module _ (t : Statements) (parents : List Parent) (line : Form) where
  pub derived_is : (r : Option Derived) (rule : Rule) (entries : List Entry) → r ≡ Some (record { rule = rule; entries = entries }) → IsFirst symbol_rules t parents line rule → IsDerivedFrom t (numbers_of parents) entries line → IsDerived t parents line r
  derived_is r rule entries is first derives = subst (IsDerived t parents line) (sym is) (first, derives)

  module _ (limit : ℕ) (shapes : IsNone shape_rules t parents line) (o : Option Derived) (d : IsDerived t parents line o) where
    pub step_derived : (x : Derived) → o ≡ Some x → IsStepAnswer t parents line limit (Accepted x.rule (numbers_of parents) x.entries)
    step_derived x is =
        let here : IsDerived t parents line (Some x) = subst (IsDerived t parents line) is d in
        inl (first_behind t parents line shape_rules symbol_rules x.rule shapes here.0, refl, here.1)

    no_rule : o ≡ None → ByNone t parents line
    no_rule is = none_of_both t parents line shape_rules symbol_rules shapes (subst (IsDerived t parents line) is d)

    pub step_searched : o ≡ None → (answer : StepAnswer) → IsSearchAnswer t parents line limit answer → IsStepAnswer t parents line limit answer
    step_searched is (Accepted rule cites entries) h = inr (no_rule is, h)
    step_searched is (Unverified reason) h = (no_rule is, h)

-- by what `recognise` answers
module _ (t : Statements) (parents : List Parent) (line : Form) where
  abbrev Not : Word → Type 0
  Not rule = Gives t.vocabulary parents line rule → ⊥

  first_shape : (just : Just) → IsFirstShown t.vocabulary parents line (Some just) → IsFirst shape_rules t parents line (rule_named just)
  first_shape just first = named just (holds_when_shown t.vocabulary parents line just first.0) first.1 where
    named : (just : Just) → Gives t.vocabulary parents line (rule_of just) → ((rule : Word) → place_of rule < place_of (rule_of just) → Not rule) → IsFirst shape_rules t parents line (rule_named just)
    named (variant.Norm a) h before = inl (refl, h)
    named (variant.Cover a path images) h before = inr (before norm (omega arith), inl (refl, h))
    named variant.Tautology h before = inr (before norm (omega arith), inr (before cover (omega arith), inl (refl, h)))
    named (variant.Resolution a b i j images) h before = inr (before norm (omega arith), inr (before cover (omega arith), inr (before tautology (omega arith), inl (refl, h))))
    named (variant.Paramodulation a b i place j flipped images) h before =
        inr (before norm (omega arith), inr (before cover (omega arith), inr (before tautology (omega arith), inr (before resolution (omega arith), inl (refl, h)))))
    named (variant.EqFactor a i first_flipped j second_flipped images) h before =
        inr (before norm (omega arith), inr (before cover (omega arith), inr (before tautology (omega arith), inr (before resolution (omega arith), inr (before paramodulation (omega arith), inl (refl, h))))))
    named (variant.Rewrite a b target flipped by_images images) h before =
        inr (before norm (omega arith), inr (before cover (omega arith), inr (before tautology (omega arith), inr (before resolution (omega arith), inr (before paramodulation (omega arith), inr (before eqfactor (omega arith), inl (refl, h)))))))

  pub no_shape : (answer : Option Just) → answer ≡ None → IsFirstShown t.vocabulary parents line answer → IsNone shape_rules t parents line
  no_shape answer is told =
      let none : (rule : Word) → Not rule = subst (IsFirstShown t.vocabulary parents line) is told in
      (none norm, (none cover, (none tautology, (none resolution, (none paramodulation, (none eqfactor, (none rewrite, tt)))))))

  pub shape_accepted : (just : Just) (rule : Rule) (proof : Proof) (entries : List Entry) (answer : StepAnswer) → AreOfTheory t parents → rule ≡ rule_named just → entries ≡ Lemma proof ∷ [] → answer ≡ Accepted rule (numbers_of parents) entries
      → IsFirstShown t.vocabulary parents line (Some just) → ShowsLine t.vocabulary parents line proof → (limit : ℕ) → IsStepAnswer t parents line limit answer
  shape_accepted just rule proof entries answer all is made e first shows limit =
      let whole : answer ≡ Accepted (rule_named just) (numbers_of parents) (Lemma proof ∷ []) =
      e ∙ ap (λ (r : Rule). Accepted r (numbers_of parents) entries) is ∙ ap (Accepted (rule_named just) (numbers_of parents)) made in
      subst (IsStepAnswer t parents line limit) (sym whole) (inl (first_before t parents line shape_rules symbol_rules (rule_named just) (first_shape just first), refl, derived t parents line proof all shows))

-- what `cover` gives
pub cover_given : (w : Vocabulary) (parents : List Parent) (line : Form) (just : Just) → (rule_of just ≡ cover) × Shows w parents line just → Gives w parents line cover
cover_given w parents line just told = subst (Gives w parents line) told.0 (holds_when_shown w parents line just told.1)

-- of one candidate alone
alone_is : (c p : Parent) → Some c ≡ Some p → c ≡ p
alone_is c p e = cc

none_is : {X : Type 0} (p : Parent) → None ≡ Some p → X
none_is p e = cc

alone_at : (c : Parent) (candidates : List Parent) (line : Form) (i : ℕ) → slice_get candidates i ≡ Some c → (a : ℕ) → HasLinesFlat (c ∷ []) line a → HasLinesFlat candidates line i
alone_at c candidates line i at zero h =
    let same : c ≡ h.of_parent.parent = alone_is c h.of_parent.parent h.of_parent.there in
    record { made = h.made; of_line = h.of_line; of_parent = record { parent = h.of_parent.parent; there = at ∙ ap Some same; alike = h.of_parent.alike } }
alone_at c candidates line i at (suc a) h = none_is h.of_parent.parent h.of_parent.there

alone_has : (c : Parent) (candidates : List Parent) (line : Form) (i : ℕ) → slice_get candidates i ≡ Some c → IsNormStep (c ∷ []) line → HasLinesFlat candidates line i
alone_has c candidates line i at (a, h) = alone_at c candidates line i at a h

has_alone : (c : Parent) (candidates : List Parent) (line : Form) (i : ℕ) → slice_get candidates i ≡ Some c → HasLinesFlat candidates line i → IsNormStep (c ∷ []) line
has_alone c candidates line i at h =
    let same : c ≡ h.of_parent.parent = alone_is c h.of_parent.parent (sym at ∙ h.of_parent.there) in
    (0, record { made = h.made; of_line = h.of_line; of_parent = record { parent = h.of_parent.parent; there = ap Some same; alike = h.of_parent.alike } })

module _ (v : Statements) (candidates : List Parent) (line : Form) where
  pub leaf_rule : (i : ℕ) (c : Parent) → slice_get candidates i ≡ Some c → IsFirstNorm candidates line i → LeafRule v candidates line Norm i
  leaf_rule i c at first =
      inl (refl, ((c, at, has_alone c candidates line i at first.0), λ j lt g. first.1 j lt (alone_has g.0 candidates line j g.1 g.2)))

  norm_nowhere : (IsNormStep candidates line → ⊥) → GivesNowhere v candidates line Norm
  norm_nowhere none j g = none (j, alone_has g.0 candidates line j g.1 g.2)

  pub no_leaf_rule : (IsNormStep candidates line → ⊥) → GivesNowhere v candidates line Cover → ByNoLeafRule v candidates line
  no_leaf_rule none nowhere = (norm_nowhere none, (nowhere, tt))

  pub cover_rule : (i : ℕ) → (IsNormStep candidates line → ⊥) → GivesFirst v candidates line Cover i → LeafRule v candidates line Cover i
  cover_rule i none first = inr (norm_nowhere none, inl (refl, first))

pub leaf_accepted : (t : Statements) (candidates : List Parent) (cited : Bool) (line : Form) (limit i : ℕ) (c : Parent) (p : Proof) → AreOfTheory t candidates → c ≡ get_or candidates i c → IsFirstNorm candidates line i
    → ((formulas : List Form) → slice_get formulas c.number ≡ Some c.form → Proves (theory_of t.vocabulary formulas) [] [] p line)
    → (slice_get candidates i ≡ Some c) → slice_get t.formulas c.number ≡ Some c.form → IsLeafAnswer t candidates cited line limit (Accepted Norm (c.number ∷ []) (Lemma p ∷ []))
leaf_accepted t candidates cited line limit i c p all is first shows at known =
    inl (
      i,
      c,
      at,
      leaf_rule t candidates line i c at first,
      refl,
      derived t (c ∷ []) line p (All-from_recursion (λ (q : Parent). slice_get t.formulas q.number ≡ Some q.form) (c ∷ []) (known, tt)) (λ formulas one. shows formulas (recursion_from_All (λ (q : Parent). slice_get formulas q.number ≡ Some q.form) (c ∷ []) one).0),
    )

pub leaf_found : (t : Statements) (w : Vocabulary) (candidates : List Parent) (cited : Bool) (line : Form) (limit : ℕ) (o : Option ℕ) (i : ℕ) (c : Parent) (p : Proof) → AreOfTheory t candidates → w ≡ t.vocabulary → c ≡ get_or candidates i c → o ≡ Some i
    → MatchOption o (IsNormStep candidates line → ⊥) (IsFirstNorm candidates line)
    → ((formulas : List Form) → slice_get formulas c.number ≡ Some c.form → Proves (theory_of w formulas) [] [] p line) → IsLeafAnswer t candidates cited line limit (Accepted Norm (c.number ∷ []) (Lemma p ∷ []))
leaf_found t w candidates cited line limit o i c p all e is so m shows =
    let first : IsFirstNorm candidates line i = subst (λ (x : Option ℕ). MatchOption x (IsNormStep candidates line → ⊥) (IsFirstNorm candidates line)) so m in
    let at = norm_there candidates line i c first.0 is in
    leaf_accepted t candidates cited line limit i c p all is first (λ formulas there. subst (λ (x : Vocabulary). Proves (theory_of x formulas) [] [] p line) e (shows formulas there)) at (of_theory t candidates i c all at)

-- a leaf that no rule gives
accepted_is_not : {X : Type 0} {rule : Rule} {cites : List ℕ} {entries : List Entry} {reason : Reason} → Accepted rule cites entries ≡ Unverified reason → X
accepted_is_not e = cc

same_reason : (r s : Reason) → Unverified r ≡ Unverified s → r ≡ s
same_reason r s e = cc

left_leaf : (t : Statements) (candidates : List Parent) (cited : Bool) (line : Form) (limit : ℕ) (answer : StepAnswer) → ByNoLeafRule t candidates line → IsLeftLeaf t candidates cited line limit answer → IsLeafAnswer t candidates cited line limit answer
left_leaf t candidates cited line limit (Accepted rule cites entries) none (inl h) = inr (none, h.0, h.1)
left_leaf t candidates cited line limit (Accepted rule cites entries) none (inr h) = accepted_is_not h.1
left_leaf t candidates cited line limit (Unverified reason) none (inl h) = (none, inr h)
left_leaf t candidates cited line limit (Unverified reason) none (inr h) = (none, inl (h.0, same_reason reason Leaf h.1))

pub leaf_left : (t : Statements) (w : Vocabulary) (candidates : List Parent) (cited : Bool) (line : Form) (limit : ℕ) (o : Option FromOne) → w ≡ t.vocabulary → o ≡ None → (IsNormStep candidates line → ⊥) → IsFirstCover w candidates line o → (answer : StepAnswer)
    → IsLeftLeaf t candidates cited line limit answer → IsLeafAnswer t candidates cited line limit answer
leaf_left t w candidates cited line limit o e so none m answer h =
    let nowhere : CoversNowhere t.vocabulary candidates line = subst (λ (x : Vocabulary). CoversNowhere x candidates line) e (subst (IsFirstCover w candidates line) so m) in
    left_leaf t candidates cited line limit answer (no_leaf_rule t candidates line none nowhere) h

pub leaf_covered : (t : Statements) (w : Vocabulary) (candidates : List Parent) (cited : Bool) (line : Form) (limit : ℕ) (o : Option FromOne) (from : FromOne) → w ≡ t.vocabulary → AreOfTheory t candidates → o ≡ Some from → (IsNormStep candidates line → ⊥)
    → IsFirstCover w candidates line o → IsLeafAnswer t candidates cited line limit (Accepted Cover (from.number ∷ []) (Lemma from.proof ∷ []))
leaf_covered t w candidates cited line limit o from e all so none m =
    let f : IsFromFirst t.vocabulary candidates line from = subst (λ (x : Vocabulary). IsFromFirst x candidates line from) e (subst (IsFirstCover w candidates line) so m) in
    let known = of_theory t candidates f.place f.candidate all f.there in
    let own = derived t (f.candidate ∷ []) line from.proof (All-from_recursion (λ (q : Parent). slice_get t.formulas q.number ≡ Some q.form) (f.candidate ∷ []) (known, tt)) f.shows in
    inl (
      f.place,
      f.candidate,
      f.there,
      cover_rule t candidates line f.place none f.first,
      ap (λ (n : ℕ). n ∷ []) f.number,
      subst (λ (n : ℕ). IsDerivedFrom t (n ∷ []) (Lemma from.proof ∷ []) line) (sym f.number) own,
    )

pub not_normed : (candidates : List Parent) (line : Form) (o : Option ℕ) → o ≡ None → MatchOption o (IsNormStep candidates line → ⊥) (IsFirstNorm candidates line) → IsNormStep candidates line → ⊥
not_normed candidates line o is m = subst (λ (x : Option ℕ). MatchOption x (IsNormStep candidates line → ⊥) (IsFirstNorm candidates line)) is m

-- one candidate alone, as code takes it
none_taken : (xs : List Parent) → take 0 xs ≡ []
none_taken [] = refl
none_taken (x ∷ xs) = refl

one_taken : (xs : List Parent) (i : ℕ) → i < length xs → (c : Parent) × (slice_get xs i ≡ Some c) × (take 1 (drop i xs) ≡ c ∷ [])
one_taken [] i lt = absurd (omega arith)
one_taken (x ∷ xs) zero lt = (x, refl, ap (λ (ys : List Parent). x ∷ ys) (none_taken xs))
one_taken (x ∷ xs) (suc i) lt = one_taken xs i (omega arith)

module _ (w : Vocabulary) (candidates : List Parent) (line : Form) (i : ℕ) where
  pub one_ready : i < length candidates → AreReady w candidates → AreReady w (take 1 (drop i candidates))
  one_ready lt ready =
      let k = one_taken candidates i lt in
      subst (AreReady w) (sym k.2) (All-from_recursion (λ (q : Parent). IsReady w q.form) (k.0 ∷ []) (parent_ready w candidates i k.0 ready k.1, tt))

  alone_of : (k : Parent) → slice_get candidates i ≡ Some k → (o : Option Proof) → IsByCover w (k ∷ []) line o → IsCoverAlone w candidates line i o
  alone_of k at None h = λ g. let same : g.0 ≡ k = alone_is g.0 k (sym g.1 ∙ at) in h (subst (λ (q : Parent). Gives w (q ∷ []) line cover) same g.2)
  alone_of k at (Some p) h = (k, at, h.0, h.1)

  pub cover_alone_is : i < length candidates → (one : List Parent) (o : Option Proof) → one ≡ take 1 (drop i candidates) → IsByCover w one line o → IsCoverAlone w candidates line i o
  cover_alone_is lt one o is h =
      let k = one_taken candidates i lt in
      alone_of k.0 k.1 o (subst (λ (ps : List Parent). IsByCover w ps line o) (is ∙ k.2) h)

  pub not_alone : (o : Option Proof) → o ≡ None → IsCoverAlone w candidates line i o → CoversAlone w candidates line i → ⊥
  not_alone o is h = subst (IsCoverAlone w candidates line i) is h

  pub from_first : (o : Option Proof) (p : Proof) (r : Parent) → o ≡ Some p → r ≡ get_or candidates i r → ((j : ℕ) → j < i → CoversAlone w candidates line j → ⊥) → IsCoverAlone w candidates line i o
      → IsFromFirst w candidates line (record { number = (get_or candidates i r).number; proof = p })
  from_first o p r is ri before h =
      let a : IsCoverAlone w candidates line i (Some p) = subst (IsCoverAlone w candidates line i) is h in
      record { place = i; candidate = a.0; there = a.1; number = ap (λ (q : Parent). q.number) (sym ri ∙ parent_at candidates i a.0 r a.1 ri); first = ((a.0, a.1, a.2), before); shows = a.3 }

  pub not_anywhere : length candidates ≤ i → ((j : ℕ) → j < i → CoversAlone w candidates line j → ⊥) → CoversNowhere w candidates line
  not_anywhere n none j g = let lt = slice_get_within candidates j g.0 g.1 in none j (omega arith) g
