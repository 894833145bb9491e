use Rattle.split_defs.proofs.Headings.{headed_by, not_headed}
use Rattle.split_defs.proofs.definition.headed.Goals as goal

pub returns-then-form_speaks : goal.returns-then-form_speaks
returns-then-form_speaks c =
    headed_by c.args.theory.now c.args.head.now c.args.meaning.now c.in-Atom.symbol c.in-Atom.args c.as_slice.result.now c.in_ok-names.field-0 c.in-Some.names c.is_new.result c.occurs.result c.form_speaks.result c.in-Atom.is c.as_slice.ensures c.in_ok-names.ensures c.in-Some.is
    c.is_new.ensures c.if-not-is_new.false c.occurs.ensures c.if-occurs.false c.form_speaks.ensures c.if-form_speaks.true

pub returns-in-Some : goal.returns-in-Some
returns-in-Some c =
    not_headed c.args.theory.now c.args.head.now c.args.meaning.now c.in-Atom.symbol c.in-Atom.args c.as_slice.result.now c.in_ok-names.field-0 c.in-Some.names c.form_speaks.result c.in-Atom.is c.as_slice.ensures c.in_ok-names.ensures c.in-Some.is c.form_speaks.ensures
    c.if-form_speaks.false
