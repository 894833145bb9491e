use Rattle.split_defs.proofs.Derivation.{predicate_args, predicate_ok}
use Rattle.split_defs.proofs.defining.predicate_entries.Goals as goal

pub over_arguments-requires : goal.over_arguments-requires
over_arguments-requires c =
    predicate_args c.args.theory.now c.args.line.now c.args.body.now c.requires.line c.requires.body c.args.head.now c.args.meaning.now c.args.symbol c.args.first c.requires.heads c.requires.relates c.in-Atom.field-0 c.in-Atom.args c.as_slice-args.result.now c.in-Atom.is c.as_slice-args.ensures

pub returns : goal.returns
returns c =
    predicate_ok c.args.theory.now c.args.line.now c.args.body.now c.requires.line c.requires.body c.args.head.now c.args.meaning.now c.args.symbol c.args.first c.requires.heads c.requires.relates c.in-Atom.field-0 c.in-Atom.args c.as_slice-args.result.now c.len.result
    c.in_ok-own.own c.in_ok-fact.fact c.in_ok-inner.inner c.in_ok-whole.whole c.name_entries.result c.in-Atom.is c.as_slice-args.ensures c.len.ensures c.in_ok-own.ensures c.in_ok-fact.ensures c.in_ok-inner.ensures c.in_ok-whole.ensures c.name_entries.ensures
