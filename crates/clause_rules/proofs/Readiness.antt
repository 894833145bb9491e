-- The test of a formula that the rules are asked about.
use Rattle.std.specs.Prelude.{◌≤◌, []}
use Rattle.std.proofs.Common.{arith}
use Rattle.fof_terms.specs.Vocabulary.{Vocabulary}
use Rattle.fof_terms.specs.declared.form.Form.{Form}
use Rattle.fof_terms.specs.Sorts.{Sorted, binder_depth}
use Rattle.clause_rules.specs.Steps.{IsReady}

pub ready_by : (v : Vocabulary) (a : Form) → binder_depth a ≤ 1000000000 → Sorted v [] a → IsReady v a
ready_by v a few h = record { scope_fits = h.scope_fits; few_binders = few; fits = h.fits }

pub sorted_by : (v : Vocabulary) (a : Form) → IsReady v a → Sorted v [] a
sorted_by v a h = record { scope_fits = h.scope_fits; few_binders = omega (arith, h.few_binders); fits = h.fits }
