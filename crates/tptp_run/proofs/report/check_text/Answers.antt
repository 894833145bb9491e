use Rattle.tptp_run.proofs.Printing.{refused_text}
use Rattle.tptp_run.proofs.Proves.{verified_by}
use Rattle.tptp_run.proofs.report.check_text.Goals as goal

pub check_derivation-requires-clause-declared : goal.check_derivation-requires-clause-declared
check_derivation-requires-clause-declared g c = c.in-Ok.ensures.extends.declared c.sort_count-sorts.ensures.some c.requires.declared

pub returns-in-Ok-check_derivation-clause-report : goal.returns-in-Ok-check_derivation-clause-report
returns-in-Ok-check_derivation-clause-report g c = (
  c.in-Ok.derivation,
  c.read_derived.new.signature,
  (rw c.as_slice-names.ensures at c.in-Ok.ensures.is),
  (rw c.as_bytes.ensures.value at (rw c.as_slice.ensures at c.in-Ok-check_derivation.ensures.checks)),
)

pub returns-in-Ok-check_derivation-clause-verified : goal.returns-in-Ok-check_derivation-clause-verified
returns-in-Ok-check_derivation-clause-verified g c =
    verified_by c.args.problem.now c.args.text.now c.args.limit c.args.source.now.theory c.args.source.now.names c.args.source.now.signature c.args.source.now.marks c.args.source.now.has_conjecture c.in-Ok-check_derivation.report (g.L.Sink.taken c.args.log.now) (g.L.Sink.taken c.check_derivation.new.log) c.requires.same (
      c.in-Ok.derivation,
      c.read_derived.new.signature,
      (rw c.as_slice-names.ensures at c.in-Ok.ensures.is),
      (rw c.as_bytes.ensures.value at (rw c.as_slice.ensures at c.in-Ok-check_derivation.ensures.checks)),
    )

pub returns-in-Err-Refused-clause-none : goal.returns-in-Err-Refused-clause-none
returns-in-Err-Refused-clause-none g c = refused_text c.args.problem.now c.args.text.now c.args.source.now.names c.args.source.now.signature _ (rw c.in-Err-Refused.field-0-is at (rw c.as_slice-names.ensures at c.in-Err-Refused.ensures.refused))
