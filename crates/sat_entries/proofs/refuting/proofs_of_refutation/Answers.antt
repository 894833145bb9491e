use Rattle.std.proofs.Common.{ℕ, List, ap, sym, subst, ◌∙◌, ◌+◌, ◌-◌, length, get_or}
use Rattle.chain_proofs.specs.declared.fact.Fact.{Fact}
use Rattle.search_proofs.proofs.Inputs.{numbers_count}
use Rattle.sat_entries.specs.code.Refuting.{IsFalsehoodBy}
use Rattle.sat_entries.proofs.RefutingFacts.{leads}
use Rattle.sat_entries.proofs.refuting.proofs_of_refutation.Goals as goal

pub input_facts-requires-clause-numbers : goal.input_facts-requires-clause-numbers
input_facts-requires-clause-numbers c =
    ap (λ (ns : List ℕ). length ns) (c.as_slice-numbers.ensures ∙ c.in_ok-numbers.ensures.numbers) ∙ (numbers_count (c.args.start + length c.args.opened) c.args.inputs ∙ c.requires.inputs)

pub returns : goal.returns
returns c =
    let last = c.index-as_slice-last.result in
    let more = c.learn.new.facts in
    let is = c.index-as_slice-last.is ∙ (ap (λ (fs : List Fact). get_or fs (c.len-last.result - 1) last) c.as_slice.ensures ∙ ap (λ (n : ℕ). get_or more (n - 1) last) c.len-last.ensures) in
    let falsehood = subst (λ (f : Fact). IsFalsehoodBy f.number c.in_ok-falsehood.falsehood) (sym c.index-as_slice-last.is) c.in_ok-falsehood.ensures in
    leads c.args.clauses.now c.args.log.now c.requires.log c.args.start c.in_ok-facts.facts more c.in_ok-facts.ensures.same c.input_facts.new.proofs c.learn.new.proofs c.in_ok-learn.ensures c.args.wanted.now c.as_slice-numbers.result.now c.place_all.new.proofs c.in_ok-facts.ensures c.args.opened
    c.args.inputs last c.into_inner.result c.push.new.self (c.as_slice-numbers.ensures ∙ c.in_ok-numbers.ensures.numbers) c.in_ok-numbers.ensures.proofs is (subst (IsFalsehoodBy last.number) (sym c.into_inner.ensures) falsehood) c.in_ok-push.ensures.ok
