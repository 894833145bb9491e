use Rattle.split_defs.proofs.Headings.{valued_by, not_valued}
use Rattle.split_defs.proofs.definition.valued.Goals as goal

pub returns-then-term_speaks : goal.returns-then-term_speaks
returns-then-term_speaks c =
    valued_by c.args.theory.now c.args.head.now c.args.value.now c.in-App.symbol c.in-App.args c.as_slice.result.now c.in_ok-names.field-0 c.in-Some.names c.is_new.result c.occurs_in_term.result c.term_speaks.result c.in-App.is c.as_slice.ensures c.in_ok-names.ensures c.in-Some.is
    c.is_new.ensures c.if-not-is_new.false c.occurs_in_term.ensures c.if-occurs_in_term.false c.term_speaks.ensures c.if-term_speaks.true

pub returns-in-Some : goal.returns-in-Some
returns-in-Some c =
    not_valued c.args.theory.now c.args.head.now c.args.value.now c.in-App.symbol c.in-App.args c.as_slice.result.now c.in_ok-names.field-0 c.in-Some.names c.term_speaks.result c.in-App.is c.as_slice.ensures c.in_ok-names.ensures c.in-Some.is c.term_speaks.ensures
    c.if-term_speaks.false
