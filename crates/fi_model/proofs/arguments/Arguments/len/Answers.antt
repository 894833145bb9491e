use Rattle.std.proofs.Common.{List, length, sym, ap, ◌∙◌}
use Rattle.fi_model.specs.declared.sentence.Element.{Element}
use Rattle.fi_model.proofs.ArgumentFacts.{argument_count}
use Rattle.fi_model.proofs.arguments.Arguments.len.Goals as goal

pub returns : goal.returns
returns c = sym (argument_count c.self.inside.terms.now c.self.invariant) ∙ ap (λ (es : List Element). length es) c.self.view_is
