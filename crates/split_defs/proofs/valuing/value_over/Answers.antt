use Rattle.derive_kit.proofs.Built.{ok_map}
use Rattle.split_defs.proofs.Headings.{value_speaks_over, value_same, have_names}
use Rattle.split_defs.proofs.valuing.value_over.Goals as goal

pub rename_term-requires-clause-among : goal.rename_term-requires-clause-among
rename_term-requires-clause-among c = value_speaks_over c.args.args.now c.in_ok-names.field-0 c.in-Some.names c.in_ok-names.ensures c.in-Some.is c.requires.0 c.requires.1 c.args.value.now c.requires.2 c.requires.3

pub returns : goal.returns
returns c =
    ok_map c.rename_term.result (λ own made. value_same c.args.args.now c.in_ok-names.field-0 c.in-Some.names c.in_ok-names.ensures c.in-Some.is c.args.value.now own made) c.rename_term.ensures

pub unreachable-requires : goal.unreachable-requires
unreachable-requires c = have_names c.args.args.now c.in_ok-names.field-0 c.in_ok-names.ensures c.in-None.is c.requires.1 c.requires.2 c.requires.3.distinct
