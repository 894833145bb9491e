use Rattle.std.proofs.Common.{rules}
use Rattle.sort_check.proofs.Declaring.{sort_fails}
use Rattle.sort_check.proofs.declarations.declare.Goals as goal

pub returns-in_err-declare_sort-in-Sort-clause-answers : goal.returns-in_err-declare_sort-in-Sort-clause-answers
returns-in_err-declare_sort-in-Sort-clause-answers c =
    let f = sort_fails c.args.typing.now.name c.args.typing.now.shape c.args.signature.now c.args.names.now c.in-Sort.is _ c.as_slice.ensures _ c.in_err-declare_sort-in-Sort.ensures.answers in search rules
