use Rattle.std.proofs.Common.{subst, ℕ, List, slice_get, ◌≡◌, Some}
use Rattle.clause_form.specs.declared.clause.Lit.{Lit}
use Rattle.clause_form.specs.Covers.{IsSame}
use Rattle.fof_terms.specs.Scope.{scope_sorts}
use Rattle.derive_kit.proofs.Built.{ok_map}
use Rattle.clause_proofs.proofs.CoveredLiterals.{absurd_then, refutes_absurd}
use Rattle.clause_proofs.specs.Refuting.{body}
use Rattle.clause_proofs.proofs.covering.contrary.Goals as goal

pub absurd-requires : goal.absurd-requires
absurd-requires c = absurd_then c.args.line.now.clause.lits c.args.lit.now c.requires.covered (subst (λ (lits : List Lit). (i : ℕ) (l : Lit) → slice_get lits i ≡ Some l → IsSame c.args.lit.now l → ⊥) c.as_slice.ensures c.in-None.ensures.none)

pub returns-in-None : goal.returns-in-None
returns-in-None c = ok_map c.absurd.result (λ made a. refutes_absurd c.args.signature.now (scope_sorts c.args.scope.now) c.args.denial (body c.args.line.now) c.args.lit.now made a c.requires.sorted) c.absurd.ensures
