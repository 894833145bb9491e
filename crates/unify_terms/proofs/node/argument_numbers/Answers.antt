use Rattle.std.proofs.Common.{ℕ, ◌≡◌, List, [], Some, slice_get, refl, sym, ap, ◌∙◌}
use Rattle.std.specs.Borrow.{Bor}
use Rattle.std.proofs.lemmas.Option.{slice_get-get_or}
use Rattle.fof_terms.specs.declared.term.Term.{Term}
use Rattle.unify_terms.specs.declared.node.Node.{Node}
use Rattle.unify_terms.specs.declared.node.Node.TheVariants.{Open, Rigid, Function}
use Rattle.unify_terms.specs.code.Graph.{numbers_of}
use Rattle.unify_terms.proofs.node.argument_numbers.Goals as goal

other_numbers : (node : Node) → ((f : ℕ) (args : Bor (List Term)) (numbers : List ℕ) → node ≡ Function f args numbers → ⊥) → numbers_of (Some node) ≡ []
other_numbers Open off = refl
other_numbers Rigid off = refl
other_numbers (Function f args numbers) off = absurd (off f args numbers refl)

pub returns-in-Function : goal.returns-in-Function
returns-in-Function c =
    let there : slice_get c.args.nodes.now c.args.at ≡ Some c.index-nodes-at.result = slice_get-get_or c.args.nodes.now c.args.at c.index-nodes-at.result c.requires ∙ ap Some (sym c.index-nodes-at.is) in
    c.as_slice.ensures ∙ sym (ap numbers_of (there ∙ ap Some c.in-Function.is))

pub returns-in_default : goal.returns-in_default
returns-in_default c =
    let there : slice_get c.args.nodes.now c.args.at ≡ Some c.index-nodes-at.result = slice_get-get_or c.args.nodes.now c.args.at c.index-nodes-at.result c.requires ∙ ap Some (sym c.index-nodes-at.is) in
    sym (ap numbers_of there ∙ other_numbers c.index-nodes-at.result c.in_default.not-Function)
