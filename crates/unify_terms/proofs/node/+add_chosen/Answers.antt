use Rattle.std.proofs.Common.{subst, sym, ap, ◌∙◌}
use Rattle.unify_terms.specs.code.Graph.{AddsPairs}
use Rattle.unify_terms.specs.code.Chosen.{chosen_pairs}
use Rattle.unify_terms.proofs.ChosenFacts.{chosen_pairs-Nothing, chosen_pairs-Then}
use Rattle.unify_terms.proofs.Valuations.{adds_none, adds_both, ok_both}
use Rattle.unify_terms.proofs.node.+add_chosen.Goals as goal

pub returns-in-Nothing : goal.returns-in-Nothing
returns-in-Nothing t c =
    subst (λ ps. AddsPairs ps c.args.nodes.now c.args.numbers.now c.args.nodes.now c.args.numbers.now) (sym (ap chosen_pairs c.in-Nothing.is ∙ chosen_pairs-Nothing)) (adds_none c.args.nodes.now c.args.numbers.now)

pub returns-in_ok-add_chosen-in-Then : goal.returns-in_ok-add_chosen-in-Then
returns-in_ok-add_chosen-in-Then t c =
    ok_both c.add_pairs.result (λ b. subst (λ ps. AddsPairs ps c.args.nodes.now c.args.numbers.now c.add_pairs.new.nodes c.add_pairs.new.numbers)
    (sym (ap chosen_pairs c.in-Then.is ∙ chosen_pairs-Then c.in-Then.earlier c.in-Then.pairs))
    (adds_both c.args.nodes.now c.add_chosen.new.nodes c.add_pairs.new.nodes c.args.numbers.now c.add_chosen.new.numbers c.add_pairs.new.numbers (chosen_pairs c.in-Then.earlier.now) c.in-Then.pairs.now c.in_ok-add_chosen-in-Then.ensures b)) c.add_pairs.ensures
