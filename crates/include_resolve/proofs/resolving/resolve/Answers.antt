use Rattle.std.proofs.Common.{refl, Result}
use Rattle.std.specs.Option.{option_copied}
use Rattle.include_resolve.specs.declared.fault.IncludeFault.{IncludeFault}
use Rattle.include_resolve.specs.declared.problem.Problem.{Problem}
use Rattle.include_resolve.proofs.PathFacts.{path_names-Outside}
use Rattle.include_resolve.specs.Resolved.{Answers}
use Rattle.include_resolve.proofs.Causing.{err_case}
use Rattle.include_resolve.proofs.Counts.{problem_few}
use Rattle.include_resolve.proofs.FewFiles.{problem_few_files}
use Rattle.include_resolve.proofs.Steps.{answers_of, fault_answers}
use Rattle.include_resolve.proofs.resolving.resolve.Goals as goal

pub open-requires-clause-room : goal.open-requires-clause-room
open-requires-clause-room g c = rw path_names-Outside refl

pub returns-in_err-items-clause-answers : goal.returns-in_err-items-clause-answers
returns-in_err-items-clause-answers g c =
    let told = g.S.Store.files c.args.store.now in
    let root = option_copied c.args.root in
    let given = rw (path_names-Outside, c.in_ok-first.ensures.ok) at c.in_err-items.ensures.gives in
    err_case (λ (r : Result Problem IncludeFault). Answers told root c.args.name.now r) c.from_residual-in_err-items.result c.in_err-items.field-0.0 c.from_residual-in_err-items.ensures.1
    (fault_answers told root c.args.name.now (record { names = c.new-none.result; read = 0 }) c.in_err-items.field-0.0 c.new-none.ensures refl given)

pub returns-clause-answers : goal.returns-clause-answers
returns-clause-answers g c =
    let told = g.S.Store.files c.args.store.now in
    let root = option_copied c.args.root in
    let given = rw (path_names-Outside, c.in_ok-first.ensures.ok) at c.in_ok-items.ensures.gives in
    answers_of told root c.args.name.now (record { names = c.new-none.result; read = 0 }) c.open.new.opened c.in_ok-items.items c.new-none.ensures refl given

pub returns-clause-few : goal.returns-clause-few
returns-clause-few g c =
    let told = g.S.Store.files c.args.store.now in
    let root = option_copied c.args.root in
    let given = rw (path_names-Outside, c.in_ok-first.ensures.ok) at c.in_ok-items.ensures.gives in
    problem_few told root c.args.name.now _ (answers_of told root c.args.name.now (record { names = c.new-none.result; read = 0 }) c.open.new.opened c.in_ok-items.items c.new-none.ensures refl given)

pub returns-clause-few_files : goal.returns-clause-few_files
returns-clause-few_files g c =
    let told = g.S.Store.files c.args.store.now in
    let root = option_copied c.args.root in
    let given = rw (path_names-Outside, c.in_ok-first.ensures.ok) at c.in_ok-items.ensures.gives in
    problem_few_files told root c.args.name.now _ (answers_of told root c.args.name.now (record { names = c.new-none.result; read = 0 }) c.open.new.opened c.in_ok-items.items c.new-none.ensures refl given)
