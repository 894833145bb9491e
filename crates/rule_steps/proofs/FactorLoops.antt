-- Going through the clauses that the parents are, in search of an equality factoring.
use Rattle.std.specs.Prelude.{ℕ, ◌≡◌, ◌<◌, ◌≤◌, List, length, Option, Some, None, slice_get}
use Rattle.std.proofs.Common.{ap, sym, subst, ◌∙◌, arith}
use Rattle.std.proofs.lemmas.Option.{slice_get_within}
use Rattle.fof_terms.specs.Vocabulary.{Vocabulary}
use Rattle.fof_terms.specs.declared.form.Form.{Form}
use Rattle.clause_form.specs.declared.clause.Clause.{Clause}
use Rattle.clause_form.specs.declared.path.Parent.{Parent}
use Rattle.clause_form.specs.ClauseView.{clause_of}
use Rattle.rule_steps.specs.declared.eqfactor_rule.Factor.{Factor}
use Rattle.clause_rules.specs.declared.just.Just.{Just}
use Rattle.clause_rules.specs.declared.just.Just.TheVariants.{EqFactor}
use Rattle.clause_rules.specs.Answers.{IsAnswer, eqfactor, rule_of}
use Rattle.clause_rules.specs.Justified.{Shows}
use Rattle.clause_rules.specs.EqFactorRule.{Factors}
use Rattle.rule_steps.specs.code.EqFactorSearch.{NoneIn, IsFactor, FoundFactor, FoundInParent, FoundInParents, ShowsFactor}
use Rattle.clause_rules.specs.Steps.{clauses_of}
use Rattle.clause_rules.proofs.Firsts.{one_at}

pub in_slot : (v : Vocabulary) (line c : Clause) (slot : Option Clause) → slot ≡ Some c → (found : Option Factor) → FoundFactor v c line (NoneIn v c line) found → FoundInParent v slot line found
in_slot v line c slot is None none = λ other e. let same : other ≡ c = cc in subst (λ (x : Clause). NoneIn v x line) (sym same) none
in_slot v line c slot is (Some factor) shown = (c, is, shown)

module _ (v : Vocabulary) (clauses : List (Option Clause)) (line : Clause) where
  module _ (a : ℕ) (slot : Option Clause) (at : slice_get clauses a ≡ Some slot) where
    pub none_in_slot : (found : Option Factor) → found ≡ None → FoundInParent v slot line found → (c : Clause) → slice_get clauses a ≡ Some (Some c) → NoneIn v c line
    none_in_slot None e none c there = none c (one_at clauses a slot (Some c) at there)
    none_in_slot (Some factor) e none c there = absurd (let f = e in cc)

    pub found_in_slot : (found : Option Factor) (factor : Factor) (just : Just) → found ≡ Some factor → FoundInParent v slot line found → just ≡ EqFactor a factor.first factor.first_flipped factor.second factor.second_flipped factor.subst → ShowsFactor v clauses line just
    found_in_slot None factor just e shown is = absurd (let f = e in cc)
    found_in_slot (Some found) factor just e shown is =
        let same : found ≡ factor = cc in
        record { a = a; c = shown.0; factor = factor; there = at ∙ ap Some shown.1; is = is; shown = subst (IsFactor v shown.0 line) same shown.2 }

  pub none_among : (n : ℕ) → length clauses ≤ n → ((a : ℕ) → a < n → (c : Clause) → slice_get clauses a ≡ Some (Some c) → NoneIn v c line) → (a : ℕ) (c : Clause) → slice_get clauses a ≡ Some (Some c) → NoneIn v c line
  none_among n h none a c e = let lt = slice_get_within clauses a (Some c) e in none a (omega arith) c e

-- the answer from what was found among the clauses
pub factor_answer : (v : Vocabulary) (parents : List Parent) (form : Form) (line : Clause) (clauses : List (Option Clause)) → clause_of form ≡ Some line → clauses ≡ clauses_of parents → (found : Option Just) → FoundInParents v clauses line found
    → IsAnswer v parents form eqfactor found
factor_answer v parents form line clauses is same None none = λ h.
    let at = h.9 in
    let e : h.6 ≡ line = let f = at.line_clause in cc in
    none h.0 h.5 (ap (λ (cs : List (Option Clause)). slice_get cs h.0) same ∙ at.parent_clause) h.1 h.3 h.2 h.4 h.7 h.8 (subst (λ (x : Clause). Factors v h.5 x h.1 h.2 h.3 h.4 h.7 h.8) e at.factors)
factor_answer v parents form line clauses is same (Some just) w =
    let shows : Shows v parents form (EqFactor w.a w.factor.first w.factor.first_flipped w.factor.second w.factor.second_flipped w.factor.subst) = (
      w.c,
      line,
      w.shown.joint,
      record {
        line_clause = is;
        parent_clause = ap (λ (cs : List (Option Clause)). slice_get cs w.a) (sym same) ∙ w.there;
        factors = w.shown.factors;
      },
    ) in
    (ap rule_of w.is, subst (Shows v parents form) (sym w.is) shows)
