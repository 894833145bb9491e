use Rattle.prove_out.proofs.Connectives.{atom_written}
use Rattle.prove_out.proofs.formulas.atom.Goals as goal

pub returns : goal.returns
returns c = atom_written c.args.sig.now c.args.depth c.args.symbol c.args.args.now c.in_ok-word.word c.in_ok-written_terms.field-0 c.in_ok-word.ensures c.in_ok-written_terms.ensures
