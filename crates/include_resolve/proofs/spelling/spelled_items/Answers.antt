use Rattle.tptp_lexer.specs.declared.fault.LexFault.TheVariants.{Byte}
use Rattle.include_resolve.specs.declared.fault.TextFault.TheVariants.{Lex}
use Rattle.include_resolve.proofs.Faults.{named_fault}
use Rattle.include_resolve.proofs.spelling.spelled_items.Goals as goal

pub returns-in-Err-Byte-clause-fault : goal.returns-in-Err-Byte-clause-fault
returns-in-Err-Byte-clause-fault c =
    named_fault c.args.number c.args.name.now c.args.text.now (Lex (Byte c.in-Err-Byte.place)) c.in_text.result c.in_text.ensures (rw c.in-Err-Byte.field-0-is at c.in-Err-Byte.ensures.answer)
