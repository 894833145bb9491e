use Rattle.std.proofs.Common.{List, ap, sym, subst, ◌∙◌, ◌+◌, ◌++◌, ◌∷◌, [], length}
use Rattle.kernel.specs.declared.proof.Proof.{Proof}
use Rattle.chain_proofs.specs.Stretches.{IsStretchProof}
use Rattle.sat_entries.proofs.LearningFacts.{shown_at_once, shown_in_turn}
use Rattle.sat_entries.proofs.learning.+show.Goals as goal
use Rattle.sat_entries.proofs.learning.+show.Goals.{in-Some+in_ok-part-in-Some, in-None+in_ok-left-in-None+in_ok-rest-in-None+in_ok-part-in-None}

pub returns : goal.returns
returns t c =
    let st = c.in_ok-stretch.stretch in
    let p = c.match-stretch.part in
    let added = c.in_ok-push.ensures.ok ∙ ap (λ (q : Proof). c.match-stretch.proofs ++ q ∷ []) c.into_inner.ensures in
    let number = c.in_ok-number.ensures.sum ∙ ap (λ n. c.args.start + n) c.len.ensures in
    let own = c.in_ok-lits.ensures ∙ c.as_slice.ensures in
    elim c.match-stretch.branch [
      | in-Some+in_ok-part-in-Some w ↦
          let proves = subst (IsStretchProof st w.fact_at.result.now) (sym w.part-is) w.in_ok-part-in-Some.ensures in
          shown_at_once c.args.start c.args.facts.now c.args.from c.args.lits.now st c.in_ok-stretch.ensures w.in-Some.number w.fact_at.result.now p c.args.proofs.now c.push.new.self (record { number = c.in_ok-number.number; lits = c.in_ok-lits.lits }) w.in-Some.is w.fact_at.ensures proves
          (added ∙ ap (λ (ps : List Proof). ps ++ p ∷ []) w.proofs-is) (number ∙ ap (λ (ps : List Proof). c.args.start + length ps) w.proofs-is) own
      | in-None+in_ok-left-in-None+in_ok-rest-in-None+in_ok-part-in-None w ↦
          let proves = subst (IsStretchProof st w.in_ok-rest-in-None.rest) (sym w.part-is) w.in_ok-part-in-None.ensures in
          shown_in_turn c.args.start c.args.facts.now c.args.from c.args.lits.now st c.in_ok-stretch.ensures w.in-None.is w.in_ok-rest-in-None.rest w.in_ok-left-in-None.left w.as_slice-known.result.now p c.args.proofs.now w.show.new.proofs c.push.new.self
          (record { number = c.in_ok-number.number; lits = c.in_ok-lits.lits }) (w.in_ok-left-in-None.ensures ∙ w.as_slice-in-None.ensures) w.as_slice-known.ensures w.in_ok-rest-in-None.ensures proves
          (added ∙ ap (λ (ps : List Proof). ps ++ p ∷ []) w.proofs-is) (number ∙ ap (λ (ps : List Proof). c.args.start + length ps) w.proofs-is) own
    ]
