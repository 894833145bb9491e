use Rattle.std.proofs.Common.{◌∙◌, sym}
use Rattle.std.proofs.lemmas.List.{length-map}
use Rattle.saturation.specs.declared.member.Member.{Member}
use Rattle.saturation.specs.Members.{clauses_of}
use Rattle.saturation.proofs.joining.arrive.Goals as goal

pub returns-clause-entered : goal.returns-clause-entered
returns-clause-entered g c = λ is.
    c.in_ok-enter.ensures.entered (clauses_of c.args.list.now) (length-map c.args.list.now (λ (m : Member). m.clause) ∙ sym c.in_ok-place.ensures) is (c.requires.alike ∙ is) (c.requires.entered is)
