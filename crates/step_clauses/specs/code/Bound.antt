-- What stands for the variables of the quantifiers around a place.
use Rattle.std.specs.Prelude.{ℕ, ◌+◌}
use Rattle.fof_terms.specs.declared.term.Term.{Term, Var, App}
use Rattle.clause_form.specs.Clauses.{variables, under_all, under_ex}
use Rattle.step_clauses.specs.declared.skolemizing.Bound.{Bound}
use Rattle.step_clauses.specs.declared.skolemizing.Bound.TheOpen.{Bound-F, Outside, Universal, Existential}
use Rattle.step_clauses.specs.declared.skolemizing.Bound.TheFolds.{fold-Bound}

-- how many of the quantifiers are universal, and the term for each variable
pub record Held : Type 0 where
  pub count : ℕ
  pub terms : ℕ → Term

abbrev pub held_step : Bound-F Held → Held
held_step Outside = record { count = 0; terms = Var }
held_step (Universal outer) = record { count = outer.now.count + 1; terms = under_all outer.now.terms }
held_step (Existential f outer) = record { count = outer.now.count; terms = under_ex (App f (variables outer.now.count)) outer.now.terms }

unfoldable pub held : Bound → Held
held = fold-Bound Held held_step

unfoldable pub count_in : Bound → ℕ
count_in b = (held b).count

unfoldable pub terms_in : Bound → ℕ → Term
terms_in b = (held b).terms
