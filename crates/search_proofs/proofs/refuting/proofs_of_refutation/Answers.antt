use Rattle.std.proofs.Common.{◌+◌, length, ◌∙◌, ap, List, ℕ}
use Rattle.search_proofs.proofs.Contradicted.{enough_count, enough_sound}
use Rattle.search_proofs.proofs.LastFacts.{leads_as, inputs_made, last_made}
use Rattle.search_proofs.proofs.refuting.proofs_of_refutation.Goals as goal

pub push_members-requires-clause-made : goal.push_members-requires-clause-made
push_members-requires-clause-made c = inputs_made c.args.signature.now c.args.members.now c.args.empty.now (c.args.start + length c.args.facts) c.args.inputs c.in_ok-of_inputs.of_inputs c.as_slice-of_inputs.result.now c.requires.made c.in_ok-of_inputs.ensures.numbers c.as_slice-of_inputs.ensures

pub push_falsehood-requires-clause-made : goal.push_falsehood-requires-clause-made
push_falsehood-requires-clause-made c = last_made c.args.signature.now c.args.members.now c.args.empty.now (c.args.start + length c.args.facts) c.args.inputs c.in_ok-of_inputs.of_inputs c.as_slice-of_inputs.result.now c.requires.made c.in_ok-of_inputs.ensures.numbers c.as_slice-of_inputs.ensures

pub push_members-requires-clause-needed : goal.push_members-requires-clause-needed
push_members-requires-clause-needed c = enough_count c.args.signature.now c.args.members.now c.args.empty.now c.args.found.now c.args.needed.now c.requires.needed

pub push_falsehood-requires-clause-sound : goal.push_falsehood-requires-clause-sound
push_falsehood-requires-clause-sound c = enough_sound c.args.signature.now c.args.members.now c.args.empty.now c.args.found.now c.args.needed.now c.requires.needed

pub push_falsehood-requires-clause-size : goal.push_falsehood-requires-clause-size
push_falsehood-requires-clause-size c = ap (λ (ns : List ℕ). length ns) c.as_slice.ensures ∙ c.in_ok-numbers.ensures.size

pub returns : goal.returns
returns c =
    leads_as c.args.signature.now c.args.start c.args.members.now c.args.needed.now c.args.empty.now c.args.found.now c.in_ok-of_inputs.of_inputs c.as_slice-of_inputs.result.now c.in_ok-numbers.numbers c.as_slice.result.now c.args.facts c.place_all.new.proofs c.push_members.new.proofs c.push_falsehood.new.proofs c.args.inputs
    c.requires.needed c.requires.clauses c.requires.clause c.requires.empty c.in_ok-of_inputs.ensures.numbers c.in_ok-of_inputs.ensures.proofs c.as_slice-of_inputs.ensures c.as_slice.ensures c.in_ok-numbers.ensures.passed c.in_ok-push_falsehood.ensures
