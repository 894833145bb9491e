use Rattle.std.proofs.Common.{List, ℕ, subst}
use Rattle.tptp_base.specs.declared.item.Item.{Item}
use Rattle.sort_check.specs.declared.line.TextKind.TheVariants as kind
use Rattle.sort_check.specs.Texts.{Faults, denoted}
use Rattle.read_problems.specs.Answer.{ending_of}
use Rattle.read_problems.specs.Denoted.{SaysSortFault}
use Rattle.read_problems.proofs.FirstFaults.{said_denotes}
use Rattle.read_problems.proofs.denoted.read_meaning.Goals as goal

pub returns-in_ok-say_sort_fault-in-Err-clause-refused : goal.returns-in_ok-say_sort_fault-in-Err-clause-refused
returns-in_ok-say_sort_fault-in-Err-clause-refused c =
    said_denotes c.args.problem.now.items c.in_ok-signature.signature c.denote.new.signature c.args.problem.now.files _ c.in-Err.fault c.in_ok-signature.ensures
    (subst (λ (items : List Item). Faults (denoted items c.in_ok-signature.signature kind.Problem) c.in-Err.fault) c.as_slice.ensures c.in-Err.ensures.gives)
    (subst (λ (files : List (List ℕ)). SaysSortFault files c.in-Err.fault (ending_of c.in_ok-say_sort_fault-in-Err.field-0)) c.as_slice-in-Err.ensures c.in_ok-say_sort_fault-in-Err.ensures.said)
