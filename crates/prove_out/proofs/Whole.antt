-- What is written of a closed form denotes it, as the body of an item.
use Rattle.std.proofs.Common.{◌+◌, ◌≤◌, [], Result, Ok, Err, IfOk, refl, ap, arith}
use Rattle.tptp_base.specs.declared.memory.Memory.{Memory}
use Rattle.tptp_base.specs.declared.surface.Surface.{Surface}
use Rattle.fof_terms.specs.Vocabulary.{Vocabulary}
use Rattle.fof_terms.specs.declared.form.Form.{Form}
use Rattle.sort_check.specs.declared.fault.SortRule.TheVariants.{FreeVariable}
use Rattle.sort_check.specs.Denotation.{outermost, without_count}
use Rattle.prove_out.specs.Denoting.{Denotes, IsWritable, bound_count}
use Rattle.prove_out.specs.code.Written.{WritesForm}

form_denotes : (v : Vocabulary) (form : Form) (a : Surface) → WritesForm v 0 form a → IsWritable v form → Denotes v a form
form_denotes v form a w is by_place declared =
    let few : 0 + bound_count form ≤ 250 = omega (arith, is.few_variables) in
    ap without_count (w.denotes is.unambiguous (outermost by_place declared FreeVariable) [] 0 refl is.sorted few)

pub writes_denoting : (v : Vocabulary) (form : Form) (r : Result Surface Memory) → IfOk r (λ a. WritesForm v 0 form a) → IsWritable v form → IfOk r (λ a. Denotes v a form)
writes_denoting v form (Ok a) w is = form_denotes v form a w is
writes_denoting v form (Err e) w is = w
