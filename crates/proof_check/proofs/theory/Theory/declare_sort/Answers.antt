use Rattle.std.proofs.Common.{rules, arith, ◌≡◌, ◌<◌, length, ap, Err}
use Rattle.fof_terms.proofs.SortLawsFacts.{more_sorts_grow}
use Rattle.proof_check.proofs.Added.{closed_grow, past_limit}
use Rattle.proof_check.proofs.theory.Theory.declare_sort.Goals as goal

pub returns-in_err-add_sort-clause-illegal : goal.returns-in_err-add_sort-clause-illegal
returns-in_err-add_sort-clause-illegal c = λ e few.
    let past = past_limit c.from_residual-in_err-add_sort.result c.in_err-add_sort.field-0.0 c.from_residual-in_err-add_sort.ensures.1 e in
    let full : length c.self.inside.signature.sorts ≡ 65536 = ((c.in_err-add_sort.ensures.limit past.0).0 (ap Err past.1)).1 in
    let same : c.args.self.now.vocabulary ≡ c.self.inside.signature = search (rules, c.self.view_is) in
    let room : length c.self.inside.signature.sorts < 65536 = rw same at few in
    omega (arith, full, room)

pub invariant_of-self-2 : goal.invariant_of-self-2
invariant_of-self-2 c = rw c.in_ok-add_sort.ensures.added (closed_grow c.self.inside.signature _ c.self.inside.formulas (more_sorts_grow c.self.inside.signature c.in_ok-name.name) c.self.invariant.0, c.self.invariant.1)
