use Rattle.derivation_text.specs.declared.derivation.Derivation.{Derivation}
use Rattle.read_problems.specs.Answer.{ending_of}
use Rattle.tptp_commands.specs.Derived.{IsDerivationRefusal}
use Rattle.read_problems.specs.declared.stop.Answer.{Answer}
use Rattle.tptp_commands.proofs.Absences.{refused_so}
use Rattle.tptp_run.proofs.Verifies.{text_refused}
use Rattle.tptp_run.proofs.verify.verify_text.Goals as goal

pub returns-in-Err-clause-ends : goal.returns-in-Err-clause-ends
returns-in-Err-clause-ends g c =
    text_refused c.args.problem.now c.args.file.now c.args.text.now c.args.limit c.args.source.now.theory c.args.source.now.names c.args.source.now.marks c.args.source.now.has_conjecture Derivation c.in-Err.halt c.args.source.now.signature (g.L.Sink.taken c.args.log.now) c.requires.same (rw c.as_slice.ensures at c.in-Err.ensures.refused)

pub answer_on-requires-clause-declared : goal.answer_on-requires-clause-declared
answer_on-requires-clause-declared g c = c.in-Ok.ensures.extends.declared c.sort_count-sorts.ensures.some c.requires.declared

pub returns-in-Err-clause-refused : goal.returns-in-Err-clause-refused
returns-in-Err-clause-refused g c =
    let says : Answer → Type 0 = λ answer. IsDerivationRefusal c.args.file.now c.args.text.now c.args.source.now.names c.args.source.now.signature (ending_of answer) in
    refused_so Derivation c.in-Err.halt says says (λ answer h. h) (rw c.as_slice.ensures at c.in-Err.ensures.refused)
