-- Places of variables where quantifiers are pulled out, as code has them.
use Rattle.std.specs.Prelude.{ℕ, ◌+◌, ◌-◌, ◌<◌, ◌≤◌, ◌^◌, nat_lt, if◌then◌else◌, List, length}
use Rattle.std.specs.List.{All as Each}
use Rattle.fof_terms.specs.declared.form.Form.{Form}
use Rattle.fof_terms.specs.Lift.{lift_reach}
use Rattle.fof_terms.specs.Sorts.{binder_depth}
use Rattle.flat_form.specs.Flat.{pulled}
use Rattle.flat_form.specs.Numbers.{listed}
use Rattle.flat_form.specs.Renumbered.{renumbered}

-- the n nearest variables are, of `total` ones, those from `start` on; the others are listed
abbrev pub placed : List ℕ → ℕ → ℕ → ℕ → ℕ → ℕ
placed places total start n k = if nat_lt k n then total - 1 - (start + (n - 1 - k)) else listed places total (k - n)

-- the body that is pulled out of a formula, over `total` variables, its own being those from `start` on
abbrev pub placed_body : List ℕ → ℕ → ℕ → Form → Form
placed_body places total start a = renumbered (placed places total start (length (pulled a).sorts)) 0 (pulled a).body

-- what is pulled out of the formula, behind these sorts, is part of `total` variables, and the quantifiers around it have
-- these places
pub record HasPlaces (total : ℕ) (places sorts : List ℕ) (a : Form) : Type 0 where
  pub count : length sorts + length (pulled a).sorts ≤ total
  pub few : total ≤ 100000
  pub small : Each (λ n. n < 2147483648) places
  pub depth : binder_depth a < 2147483648
  pub room : lift_reach total (length places) a < 2 ^ 32
