use Rattle.std.proofs.Common.{subst, sym}
use Rattle.clause_form.specs.Norm.{HasNorm}
use Rattle.clause_form.specs.declared.path.Parent.{Parent}
use Rattle.clause_proofs.proofs.ReadyParents.{parent_ready}
use Rattle.clause_rules.proofs.Firsts.{there_at}
use Rattle.derive_kit.proofs.Built.{ok_map}
use Rattle.rule_steps.proofs.CoverEnds.{norm_is_small}
use Rattle.norm_parts.proofs.Known.{known_more}
use Rattle.norm_parts.proofs.Ready.{norm_sorted}
use Rattle.norm_parts.proofs.deciding.add_parent.Goals as goal

pub add_candidates-requires-clause-small : goal.add_candidates-requires-clause-small
add_candidates-requires-clause-small c =
    let has : HasNorm c.index-parents-at.result.form c.in-Some.norm = subst (λ (p : Parent). HasNorm p.form c.in-Some.norm) (sym c.index-parents-at.is) (rw c.in-Some.is at c.in_ok-norm.ensures) in
    norm_is_small c.args.signature.now c.index-parents-at.result.form c.in-Some.norm c.get.result.now has c.get.ensures

pub add_candidates-requires-clause-sorted : goal.add_candidates-requires-clause-sorted
add_candidates-requires-clause-sorted c =
    let has : HasNorm c.index-parents-at.result.form c.in-Some.norm = subst (λ (p : Parent). HasNorm p.form c.in-Some.norm) (sym c.index-parents-at.is) (rw c.in-Some.is at c.in_ok-norm.ensures) in
    norm_sorted c.args.signature.now c.index-parents-at.result.form c.in-Some.norm c.get.result.now has c.get.ensures
    (parent_ready c.args.signature.now c.args.parents.now c.args.at c.index-parents-at.result c.requires.ready (there_at c.args.parents.now c.args.at c.index-parents-at.result c.requires.at c.index-parents-at.is))

pub returns-in-Some : goal.returns-in-Some
returns-in-Some c =
    let has : HasNorm c.index-parents-at.result.form c.in-Some.norm = subst (λ (p : Parent). HasNorm p.form c.in-Some.norm) (sym c.index-parents-at.is) (rw c.in-Some.is at c.in_ok-norm.ensures) in
    ok_map c.add_candidates.result
    (λ done added. known_more c.args.signature.now c.args.parents.now c.args.at c.index-parents-at.result c.in-Some.norm c.get.result.now c.args.known.now c.add_candidates.new.candidates c.requires.at c.index-parents-at.is has c.get.ensures added) c.add_candidates.ensures
