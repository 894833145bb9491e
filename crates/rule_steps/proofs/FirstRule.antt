-- The rules in the order in which they are tried.
use Rattle.std.specs.Prelude.{ℕ, ◌≡◌, ◌+◌, ◌<◌, ◌↔◌, Bool, true, false, IsTrue, List, Option, Some, None, refl}
use Rattle.std.proofs.Common.{ap, sym, subst, ◌∙◌, arith, zero, suc, inl, inr}
use Rattle.fof_terms.proofs.LiftingLaws.{below_or_above}
use Rattle.fof_terms.specs.Vocabulary.{Vocabulary}
use Rattle.fof_terms.specs.declared.form.Form.{Form}
use Rattle.clause_form.specs.declared.clause.Clause.{Clause}
use Rattle.clause_form.specs.declared.path.Parent.{Parent}
use Rattle.clause_form.specs.ClauseView.{clause_of}
use Rattle.clause_form.specs.Covers.{IsTrivial}
use Rattle.clause_rules.specs.declared.just.Just.{Just}
use Rattle.clause_rules.specs.declared.just.Just.TheVariants.{Tautology}
use Rattle.clause_rules.specs.Answers.{ShapeRule, norm, cover, tautology, resolution, paramodulation, eqfactor, rewrite, Holds, IsAnswer, place_of, IsFirst}
use Rattle.clause_rules.proofs.Firsts.{holds, untrue}
use Rattle.rule_steps.specs.code.AmongClauses.{gives_clauses}
use Rattle.rule_steps.specs.code.FirstFrom.{NoneBefore}

abbrev rule_at : ℕ → ShapeRule
rule_at zero = norm
rule_at (suc zero) = cover
rule_at (suc (suc zero)) = tautology
rule_at (suc (suc (suc zero))) = resolution
rule_at (suc (suc (suc (suc zero)))) = paramodulation
rule_at (suc (suc (suc (suc (suc zero))))) = eqfactor
rule_at (suc (suc (suc (suc (suc (suc n)))))) = rewrite

at_place : (r : ShapeRule) → rule_at (place_of r) ≡ r
at_place norm = refl
at_place cover = refl
at_place tautology = refl
at_place resolution = refl
at_place paramodulation = refl
at_place eqfactor = refl
at_place rewrite = refl

few : (r : ShapeRule) → place_of r < 7
few norm = omega arith
few cover = omega arith
few tautology = omega arith
few resolution = omega arith
few paramodulation = omega arith
few eqfactor = omega arith
few rewrite = omega arith

module _ (v : Vocabulary) (parents : List Parent) (line : Form) where
  abbrev pub Below : ℕ → Type 0
  Below n = NoneBefore v parents line n

  none_below : Below 0
  none_below rule h = absurd (omega arith)

  -- one rule more that does not hold
  pub extend : (r : ShapeRule) (found : Option Just) → found ≡ None → IsAnswer v parents line r found → Below (place_of r) → Below (place_of r + 1)
  extend r None e no_ below = λ rule h holds.
      elim (below_or_above (place_of rule) (place_of r)) [
        | inl lt ↦ below rule lt holds
        | inr le ↦
            let same : place_of rule ≡ place_of r = omega arith in
            let is : rule ≡ r = sym (at_place rule) ∙ ap rule_at same ∙ at_place r in
            no_ (subst (Holds v parents line) is holds)
      ]
  extend r (Some just) e shown below = absurd (let f = e in cc)

  -- the first that holds
  pub first : (r : ShapeRule) (found : Option Just) (just : Just) → found ≡ Some just → IsAnswer v parents line r found → Below (place_of r) → IsFirst v parents line (Some just)
  first r None just e no_ below = absurd (let f = e in cc)
  first r (Some found) just e shown below =
      let same : found ≡ just = cc in
      subst (λ (j : Just). IsFirst v parents line (Some j)) same (shown.1, λ rule lt. below rule (subst (λ (x : ShapeRule). place_of rule < place_of x) shown.0 lt))

  -- the last rule
  pub last : (found : Option Just) → IsAnswer v parents line rewrite found → Below 6 → IsFirst v parents line found
  last None no_ below = λ rule holds. extend rewrite None refl no_ below rule (few rule) holds
  last (Some just) shown below = first rewrite (Some just) just refl shown below

  -- no rule that gives clauses alone gives a line that is no clause
  pub no_clause_by : (rule : ShapeRule) → gives_clauses rule ≡ true → clause_of line ≡ None → Holds v parents line rule → ⊥
  no_clause_by norm alone is h = cc
  no_clause_by cover alone is h = let f = h.6.line_clause in cc
  no_clause_by tautology alone is h = let f = h.1 in cc
  no_clause_by resolution alone is h = let f = h.9.line_clause in cc
  no_clause_by paramodulation alone is h = let f = h.11.line_clause in cc
  no_clause_by eqfactor alone is h = let f = h.9.line_clause in cc
  no_clause_by rewrite alone is h = let f = h.11.line_clause in cc

  pub no_clause : clause_of line ≡ None → Below 1 → IsFirst v parents line None
  no_clause is below norm h = below norm (omega arith) h
  no_clause is below cover h = no_clause_by cover refl is h
  no_clause is below tautology h = no_clause_by tautology refl is h
  no_clause is below resolution h = no_clause_by resolution refl is h
  no_clause is below paramodulation h = no_clause_by paramodulation refl is h
  no_clause is below eqfactor h = no_clause_by eqfactor refl is h
  no_clause is below rewrite h = no_clause_by rewrite refl is h

  -- what `tautology` answers to a line that is this clause
  module _ (clause : Clause) (is : clause_of line ≡ Some clause) (trivial : Bool) (told : IsTrue trivial ↔ IsTrivial clause.lits) where
    pub is_trivial_line : trivial ≡ true → IsAnswer v parents line tautology (Some Tautology)
    is_trivial_line e = (refl, (clause, is, holds trivial _ e told))

    pub is_no_trivial_line : trivial ≡ false → IsAnswer v parents line tautology None
    is_no_trivial_line e = λ h.
        let same : h.0 ≡ clause = let f = h.1 in cc in
        untrue trivial _ e told (subst (λ (c : Clause). IsTrivial c.lits) same h.2)

  pub nothing_before : Below 0
  nothing_before = none_below
