-- The test of a line that the rule is asked about.
use Rattle.std.specs.Prelude.{◌≤◌, []}
use Rattle.fof_terms.specs.Vocabulary.{Vocabulary}
use Rattle.fof_terms.specs.declared.form.Form.{Form}
use Rattle.fof_terms.specs.Sorts.{Sorted, SortedTo, binder_depth}

pub ready_by : (v : Vocabulary) (a : Form) → binder_depth a ≤ 1000000000 → Sorted v [] a → SortedTo 1000000000 v [] a
ready_by v a few h = record { scope_fits = h.scope_fits; few_binders = few; fits = h.fits }
