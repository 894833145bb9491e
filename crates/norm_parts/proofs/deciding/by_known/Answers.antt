use Rattle.std.proofs.Common.{refl}
use Rattle.std.proofs.lemmas.Option.{slice_get_within}
use Rattle.norm_parts.proofs.DecidedParts.{shown_known}
use Rattle.norm_parts.proofs.deciding.by_known.Goals as goal

pub bounds-known-at : goal.bounds-known-at
bounds-known-at c = slice_get_within c.args.known.now c.args.chosen.at c.requires.chosen.0 c.requires.chosen.1

pub returns : goal.returns
returns c =
    shown_known c.args.signature.now c.args.parents.now c.args.part.now c.args.known.now c.args.clause.now c.args.chosen c.index-known-at.result c.in_ok-path.path _ c.requires.known c.requires.is c.requires.chosen (slice_get_within c.args.known.now c.args.chosen.at c.requires.chosen.0 c.requires.chosen.1)
    c.index-known-at.is c.in_ok-path.ensures refl
