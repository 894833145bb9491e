use Rattle.std.proofs.Common.{ap, ◌∙◌, ◌<◌, length, map, arith, get_or, false}
use Rattle.std.proofs.lemmas.Option.{slice_get-get_or}
use Rattle.clause_form.specs.Clauses.{clauses_in}
use Rattle.clause_form.specs.Paths.{reached}
use Rattle.input_proofs.proofs.PendingFacts.{way_at, as_many_ways, so_far_more, so_far_done}
use Rattle.input_proofs.proofs.pending.push_pending.Goals as goal

pub pending_of-requires-clause-fits : goal.pending_of-requires-clause-fits
pending_of-requires-clause-fits c =
    let a = c.args.form.now in
    let way =
    way_at (λ p. reached p a) c.as_slice-paths.result.now (clauses_in a) c.loop-at.at c.index-paths-at.result (ap (map (λ p. reached p a)) c.as_slice-paths.ensures ∙ c.in_ok-paths.ensures) c.loop-at-test.true c.index-paths-at.is in
    (way.0, way.2)

pub loop-at-preserved : goal.loop-at-preserved
loop-at-preserved c =
    let a = c.args.form.now in
    let all = ap (map (λ p. reached p a)) c.as_slice-paths.ensures ∙ c.in_ok-paths.ensures in
    let way = way_at (λ p. reached p a) c.as_slice-paths.result.now (clauses_in a) c.loop-at.at c.index-paths-at.result all c.loop-at-test.true c.index-paths-at.is in
    let many = as_many_ways (λ p. reached p a) c.as_slice-paths.result.now (clauses_in a) all in
    let lt : c.loop-at.at < length c.args.wanted.now = omega (arith, c.requires.each, many, c.loop-at-test.true) in
    so_far_more a c.args.fact c.args.wanted.now c.loop-at.at (get_or c.args.wanted.now c.loop-at.at false) c.args.pending.now c.loop-at.pending c.push.new.self c.in_ok-pending_of.field-0 way.0 c.loop-at.invariant (slice_get-get_or c.args.wanted.now c.loop-at.at false lt) way.1
    (c.in_ok-pending_of.ensures way.0 way.2) c.in_ok-push.ensures.ok

pub returns : goal.returns
returns c =
    let a = c.args.form.now in
    let many = as_many_ways (λ p. reached p a) c.as_slice-paths.result.now (clauses_in a) (ap (map (λ p. reached p a)) c.as_slice-paths.ensures ∙ c.in_ok-paths.ensures) in
    so_far_done a c.args.fact c.args.wanted.now c.loop-at.at c.args.pending.now c.loop-at.pending c.loop-at.invariant c.requires.each (omega (arith, many, c.loop-at-test.false))
