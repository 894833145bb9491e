use Rattle.std.proofs.Common.{◌∙◌, ap, get_or, refl, sym}
use Rattle.input_proofs.specs.Formulas.{formula_of}
use Rattle.saturation.specs.declared.member.Member.{Member}
use Rattle.search_proofs.proofs.Passing.{premise_there}
use Rattle.search_proofs.proofs.members.premise.Goals as goal

pub returns : goal.returns
returns c =
    premise_there c.args.members.now c.args.numbers.now c.args.at c.index-members-at.result (record { number = get_or c.args.numbers.now c.args.at 0; form = c.in_ok-form.form }) c.requires.within c.requires.size c.index-members-at.is refl
    (c.in_ok-form.ensures ∙ ap (λ (y : Member). formula_of y.clause) (sym c.index-members-at.is))
