use Rattle.std.proofs.Common.{ap, sym, subst, ◌∙◌}
use Rattle.derive_kit.proofs.Built.{ok_map}
use Rattle.kernel.specs.declared.proof.Proof.{Proof, Line, NotE}
use Rattle.sat_entries.specs.code.Refuting.{IsFalsehoodBy}
use Rattle.sat_entries.proofs.RefutingFacts.{falsehood_shows}
use Rattle.sat_entries.proofs.refuting.falsehood_by.Goals as goal

pub returns : goal.returns
returns c =
    ok_map c.not_e.result
    (λ p e. subst (IsFalsehoodBy c.args.number) (sym (e ∙ (ap (λ (q : Proof). NotE q c.in_ok-truth.field-0) c.in_ok-denial.ensures ∙ ap (λ (q : Proof). NotE (Line c.args.number) q) c.in_ok-truth.ensures))) (falsehood_shows c.args.number))
    c.not_e.ensures
