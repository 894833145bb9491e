use Rattle.std.proofs.Common.{List, sym, ap, ◌∙◌}
use Rattle.std.specs.Prelude.{slice_get}
use Rattle.std.specs.Option.{option_and_then}
use Rattle.fi_model.specs.declared.sentence.Element.{Element}
use Rattle.fi_model.specs.Sentences.{element}
use Rattle.fi_model.proofs.ArgumentFacts.{argument_at}
use Rattle.fi_model.proofs.arguments.Arguments.get.Goals as goal

pub returns-in-Some : goal.returns-in-Some
returns-in-Some c =
    c.element.ensures
    ∙ ap (option_and_then element) c.in-Some.ensures
    ∙ sym (argument_at c.self.inside.terms.now c.self.invariant c.args.place)
    ∙ ap (λ (es : List Element). slice_get es c.args.place) c.self.view_is

pub returns-in-None : goal.returns-in-None
returns-in-None c =
    ap (option_and_then element) c.in-None.ensures
    ∙ sym (argument_at c.self.inside.terms.now c.self.invariant c.args.place)
    ∙ ap (λ (es : List Element). slice_get es c.args.place) c.self.view_is
