-- The case of a step is wide where it is too large for a search. This is asked of all parents, whether the line needs
-- them or not.
use Rattle.std.specs.Prelude.{ℕ, nat_lt, ◌||◌, Bool, List, length}
use Rattle.std.specs.List.{list_any}
use Rattle.fof_terms.specs.declared.form.Form.{Form}
use Rattle.clause_form.specs.declared.clause.Clause.{Clause}
use Rattle.clause_form.specs.Sizes.{norm_size_of}
use Rattle.clause_order.specs.Weights.{clause_weight}
use Rattle.step_clauses.specs.Inputs.{step_forms, search_input}

-- it has no normal form
abbrev pub is_large : Form → Bool
is_large a = nat_lt 100000 (norm_size_of a)

abbrev pub is_heavy : Clause → Bool
is_heavy c = nat_lt 100000000 (clause_weight c)

-- a formula has a norm size over 100,000, or the clauses are more than 10,000, or one of them weighs more than
-- 100,000,000
abbrev pub is_wide : ℕ → List Form → Form → Bool
is_wide next parents line =
    list_any is_large (step_forms parents line) || (nat_lt 10000 (length (search_input next parents line)) || list_any is_heavy (search_input next parents line))
