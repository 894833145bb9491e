use Rattle.std.proofs.Common.{subst, ap, ◌∙◌, arith, length}
use Rattle.std.specs.Prelude.{IfOk}
use Rattle.unify_terms.specs.code.Attempts.{IsFound}
use Rattle.unify_terms.proofs.Binds.{obeys_none, none_are}
use Rattle.unify_terms.proofs.Shows.{attempt_found}
use Rattle.unify_terms.proofs.attempt.try_pairs.Goals as goal

pub equate_pairs-requires-clause-bound : goal.equate_pairs-requires-clause-bound
equate_pairs-requires-clause-bound c = none_are c.in_ok-bound.bound.items c.in_ok-bound.ensures.1 c.args.signature.now c.args.scope.now.sorts c.args.scope.now.rigid (c.in_ok-bound.ensures.0 ∙ c.len.ensures)

pub found-requires : goal.found-requires
found-requires c =
    let size = c.in-Equal.ensures.0.size in
    let same = ap length c.as_slice.ensures.value in
    let few = c.requires.few in
    omega arith

pub returns-in-Equal : goal.returns-in-Equal
returns-in-Equal c =
    attempt_found c.args.signature.now c.args.scope.now.sorts c.args.scope.now.rigid c.args.pairs.now c.in_ok-bound.bound.items c.equate_pairs.new.bound.items c.found.result c.in_ok-bound.ensures.1 c.in-Equal.ensures.0 c.in-Equal.ensures.1
    (subst (λ bs. IfOk c.found.result (IsFound bs)) c.as_slice.ensures.value c.found.ensures)

pub returns-in-Clash : goal.returns-in-Clash
returns-in-Clash c = λ target other sub u. c.in-Clash.ensures other (obeys_none c.in_ok-bound.bound.items c.in_ok-bound.ensures.1 other) u
