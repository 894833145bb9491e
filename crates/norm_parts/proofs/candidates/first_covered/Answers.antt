use Rattle.std.proofs.Common.{refl, subst, sym}
use Rattle.clause_rules.specs.Settled.{IsFit}
use Rattle.norm_parts.specs.declared.candidates.Candidate.{Candidate}
use Rattle.norm_parts.specs.code.Candidates.{CoversClause}
use Rattle.norm_parts.proofs.Known.{fits_at, chosen_at}
use Rattle.norm_parts.proofs.candidates.first_covered.Goals as goal

pub covered_by-requires-clause-clause : goal.covered_by-requires-clause-clause
covered_by-requires-clause-clause c =
    subst (λ (x : Candidate). IsFit c.args.signature.now x.clause) c.index-candidates-at.is (fits_at c.args.signature.now c.args.candidates.now c.place_behind-at.result c.index-candidates-at.result c.requires.candidates c.place_behind-at.ensures c.index-candidates-at.is)

pub returns-in-Some : goal.returns-in-Some
returns-in-Some c =
    let covers : CoversClause c.args.signature.now c.index-candidates-at.result.clause c.args.line.now c.in-Some.subst =
    subst (λ (x : Candidate). CoversClause c.args.signature.now x.clause c.args.line.now c.in-Some.subst) (sym c.index-candidates-at.is) (rw c.in-Some.is at c.in_ok-found.ensures) in
    chosen_at c.args.signature.now c.args.candidates.now c.args.line.now c.place_behind-at.result c.index-candidates-at.result (record { at = c.place_behind-at.result; subst = c.in-Some.subst }) c.in-Some.subst c.place_behind-at.ensures c.index-candidates-at.is refl refl covers
