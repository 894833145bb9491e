use Rattle.std.proofs.Common.{arith, ◌≤◌, List, length, subst}
use Rattle.std.specs.List.{list_any}
use Rattle.fof_terms.specs.Occurs.{occurs_in}
use Rattle.fof_terms.specs.declared.form.Form.{Form as Formula}
use Rattle.proof_check.specs.code.Marking.{Marks}
use Rattle.proof_check.proofs.Marked.{used_first}
use Rattle.proof_check.proofs.theory.Theory.start.Goals as goal

pub invariant_of-result : goal.invariant_of-result
invariant_of-result c =
    let room : length c.args.signature.symbols ≤ length c.widen.new.marks = omega (arith, c.in_ok-widen.ensures.wide, c.symbol_count.ensures.value) in (
      c.requires,
      used_first c.args.signature c.new-used.result c.widen.new.marks c.mark_forms.new.marks c.args.given c.new-used.ensures room c.requires c.in_ok-widen.ensures.same
          (subst (λ (fs : List Formula). Marks (λ k. list_any (occurs_in k) fs) c.widen.new.marks c.mark_forms.new.marks) c.as_slice.ensures c.mark_forms.ensures),
    )
