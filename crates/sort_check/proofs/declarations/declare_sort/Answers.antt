use Rattle.std.proofs.Common.{◌≡◌, Err, None}
use Rattle.fof_terms.specs.Vocabulary.{found_sort}
use Rattle.fof_terms.specs.declared.signature.SigFault.TheVariants.{Limit}
use Rattle.sort_check.proofs.Declaring.{full_sorts}
use Rattle.sort_check.proofs.Keeping.{keeps_with_sort}
use Rattle.sort_check.proofs.declarations.declare_sort.Goals as goal

pub returns-in-Err-Limit-clause-answers : goal.returns-in-Err-Limit-clause-answers
returns-in-Err-Limit-clause-answers c =
    let is : c.add_sort.result ≡ Err (Limit c.in-Err-Limit.limit) = cc in
    let none : found_sort c.args.signature.now c.args.name.now ≡ None = cc in
    let h = (c.add_sort.ensures.limit c.in-Err-Limit.limit).0 is in
    full_sorts c.args.name.now c.args.signature.now c.in-Err-Limit.limit none h.0 h.1

pub returns-in-Ok-clause-keeps : goal.returns-in-Ok-clause-keeps
returns-in-Ok-clause-keeps c = keeps_with_sort c.args.signature.now c.add_sort.new.self _ c.in-Ok.ensures.added
