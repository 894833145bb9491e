use Rattle.std.proofs.Common.{ℕ, List, take}
use Rattle.fof_terms.specs.declared.form.Form.{Form}
use Rattle.kernel.specs.Statements.{Statements}
use Rattle.kernel.specs.Proves.{Proves}
use Rattle.derive_kit.specs.Instances.{IsInstance}
use Rattle.derive_kit.proofs.builders.each_term.Given as goal

abbrev pub invariant-loop-term : goal.invariant-loop-term
invariant-loop-term l =
    (t : Statements) (v : List ℕ) (h : List Form) (a b : Form) → IsInstance t.vocabulary v a (take l.term-index l.terms) b → Proves t v h l.fn.proof a → Proves t v h l.made b
