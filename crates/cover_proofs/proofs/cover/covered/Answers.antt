use Rattle.derive_kit.proofs.Built.{ok_map}
use Rattle.clause_proofs.specs.Refuting.{theory_of}
use Rattle.clause_proofs.proofs.ReadyParents.{of_theory, parent_ready}
use Rattle.cover_proofs.proofs.CoverLines.{covers_in, parent_shown, there_is}
use Rattle.cover_proofs.proofs.cover.covered.Goals as goal

pub covered_in-requires-clause-covers : goal.covered_in-requires-clause-covers
covered_in-requires-clause-covers c = covers_in c.args.signature.now c.args.parents.now c.args.line.now c.args.parent c.args.path.now c.args.subst.now c.index-parents-parent.result c.requires.shown c.index-parents-parent.is

pub covered_in-requires-clause-fact : goal.covered_in-requires-clause-fact
covered_in-requires-clause-fact c =
    parent_shown 900000000 c.args.signature.now c.index-parents-parent.result c.in_ok-own.own c.in_ok-own.ensures
    (parent_ready c.args.signature.now c.args.parents.now c.args.parent c.index-parents-parent.result c.requires.ready (there_is c.args.parents.now c.args.parent c.requires.shown.3.reaches.parent c.index-parents-parent.result c.requires.shown.3.reaches.there c.index-parents-parent.is))

pub returns : goal.returns
returns c = ok_map c.covered_in.result (λ made f formulas all. f formulas (of_theory (theory_of c.args.signature.now formulas) c.args.parents.now c.args.parent c.index-parents-parent.result all (there_is c.args.parents.now c.args.parent c.requires.shown.3.reaches.parent c.index-parents-parent.result c.requires.shown.3.reaches.there c.index-parents-parent.is))) c.covered_in.ensures
