use Rattle.std.proofs.Common.{rules, arith, ◌≡◌, ◌≤◌, [], length, slice_get, Some, subst}
use Rattle.fof_terms.specs.Sorts.{Sorted}
use Rattle.fof_terms.specs.Vocabulary.{Vocabulary}
use Rattle.proof_check.proofs.Marked.{adopted, last_there}
use Rattle.proof_check.proofs.theory.Theory.adopt.Goals as goal

pub invariant_of-self-in-Some : goal.invariant_of-self-in-Some
invariant_of-self-in-Some c =
    let same : c.args.self.now.vocabulary ≡ c.self.inside.signature = search (rules, c.self.view_is) in
    let sorted : Sorted c.self.inside.signature [] c.in-Some.form = subst (λ (v : Vocabulary). Sorted v [] c.in-Some.form) same (c.requires c.in-Some.form c.in-Some.is) in
    let room : length c.self.inside.signature.symbols ≤ length c.widen.new.marks = omega (arith, c.in_ok-widen-in-Some.ensures.wide, c.symbol_count.ensures.value) in
    let there : slice_get c.as_slice.result.now c.len-place.result ≡ Some c.in-Some.form = rw (c.as_slice.ensures, c.in_ok-push-in-Some.ensures.ok) (last_there c.self.inside.formulas c.in-Some.form c.len-place.result c.len-place.ensures) in
    adopted c.self.inside.signature c.self.inside.used c.widen.new.marks c.mark_at.new.marks c.self.inside.formulas c.push.new.self c.in-Some.form c.in_ok-push-in-Some.ensures.ok room sorted c.in_ok-widen-in-Some.ensures.same c.self.invariant.0 c.self.invariant.1 (c.mark_at.ensures c.in-Some.form there)
