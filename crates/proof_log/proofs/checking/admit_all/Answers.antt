use Rattle.std.proofs.Common.{◌∷◌, ◌++◌, [], take, sym, ◌∙◌, ap, subst}
use Rattle.std.proofs.lemmas.List.{take_more}
use Rattle.kernel.specs.Entries.{Admits}
use Rattle.kernel.proofs.EntryLaws.{admits_more}
use Rattle.proof_log.proofs.checking.admit_all.Goals as goal

pub loop-number-preserved : goal.loop-number-preserved
loop-number-preserved c =
    let more = take_more c.args.entries.now c.loop-number.number c.index-entries-number.result c.loop-number-test.true in
    let one = ap (λ e. take c.loop-number.number c.args.entries.now ++ (e ∷ [])) (sym c.index-entries-number.is) in
    subst (λ es. Admits c.args.theory.now es c.admit.new.self) (sym (more ∙ one))
    (admits_more c.args.theory.now c.loop-number.theory c.admit.new.self (take c.loop-number.number c.args.entries.now) c.index-entries-number.result c.loop-number.invariant c.in-Ok.ensures.ok.0 c.in-Ok.ensures.ok.1)
