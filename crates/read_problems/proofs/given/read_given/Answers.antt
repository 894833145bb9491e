use Rattle.std.specs.Option.{option_copied}
use Rattle.read_problems.proofs.Givens.{kept_sorted}
use Rattle.read_problems.proofs.given.read_given.Goals as goal

pub theory_of-requires : goal.theory_of-requires
theory_of-requires g c = record {
  sorted = kept_sorted (g.S.Store.files c.args.store.now) (option_copied c.args.root) c.args.file.now c.in_ok-lines.field-0 c.in_ok-lines.ensures.is;
}
