use Rattle.derive_kit.proofs.Built.{ok_map}
use Rattle.clause_proofs.proofs.CoveredPremises.{covers_here}
use Rattle.clause_proofs.proofs.LineGoals.{opened_clause}
use Rattle.cover_proofs.proofs.CoverLines.{same_reached}
use Rattle.std.proofs.Common.{refl}
use Rattle.cover_proofs.proofs.cover.covered_in.Goals as goal

pub cover_opened-requires-clause-covers : goal.cover_opened-requires-clause-covers
cover_opened-requires-clause-covers c =
    covers_here c.args.signature.now c.args.subst.now c.requires.covers.clause c.requires.covers.own c.in_ok-clause.field-0.clause.clause c.in_ok-opened.opened.clause c.requires.covers.covers
    (same_reached c.args.path.now c.args.form.now c.args.form.now c.in_ok-clause.field-0.clause.clause c.requires.covers.clause c.in_ok-clause.ensures.reached refl c.requires.covers.reaches)
    (opened_clause c.args.line.now c.in_ok-opened.opened c.requires.covers.own c.in_ok-opened.ensures c.requires.covers.line_clause)

pub returns : goal.returns
returns c = ok_map c.cover_opened.result (λ made f formulas there. f formulas (c.in_ok-clause.ensures.fact.shows formulas there)) c.cover_opened.ensures
