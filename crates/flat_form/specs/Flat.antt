-- The flat form of a formula: in its normal form, universal quantifiers that stand under no existential one move
-- outwards, in the order in which their variables occur first.
use Rattle.std.specs.Prelude.{ℕ, ◌≡◌, ◌≤◌, ◌+◌, ◌-◌, nat_lt, nat_eq, true, false, if◌then◌else◌, List, [], ◌∷◌}
use Rattle.std.specs.Prelude.{◌++◌, length, map, Option, Some, None, position, slice_index}
use Rattle.std.specs.List.{list_any}
use Rattle.fof_terms.specs.Lift.{lifted, lift_reach}
use Rattle.fof_terms.specs.declared.form.Form.{Form, Atom, Eq, Not, And, Or, Imp, Iff, All, Ex}
use Rattle.fof_terms.specs.declared.form.Form.TheFolds.{fold-Form}
use Rattle.clause_form.specs.ClauseView.{closed_by}
use Rattle.clause_form.specs.Norm.{join, norm_of}
use Rattle.clause_form.specs.Sizes.{norm_size_of}
use Rattle.flat_form.specs.Renumbered.{renumbered}
use Rattle.flat_form.specs.Variables.{variables_of}
use Rattle.fof_terms.specs.declared.form.Form.TheOpen as form

-- the sorts of the universal quantifiers that are pulled out of a formula, the first outermost, and the body in which
-- their variables are bound, the last being variable 0; and the formula itself
pub record Pulled : Type 0 where
  pub whole : Form
  pub sorts : List ℕ
  pub body : Form

-- the sorts of all, one after the other
abbrev pub sorts_of : List Pulled → List ℕ
sorts_of [] = []
sorts_of (p ∷ ps) = p.sorts ++ sorts_of ps

-- each body over the variables of all, of which f stand before the first one's own
abbrev pub bodies_of : ℕ → List Pulled → List Form
bodies_of f [] = []
bodies_of f (p ∷ ps) = lifted (length (sorts_of ps)) 0 (lifted f (length p.sorts) p.body) ∷ bodies_of (f + length p.sorts) ps

-- nothing is pulled out of it
abbrev pub kept : Form → Pulled
kept a = record { whole = a; sorts = []; body = a }

abbrev pub whole_of : Pulled → Form
whole_of p = p.whole

abbrev pub pull_step : form.Form-F Pulled → Pulled
pull_step (form.Atom p ts) = kept (Atom p ts)
pull_step (form.Eq l r) = kept (Eq l r)
pull_step (form.Not a) = kept (Not a.whole)
pull_step (form.And ps) = record { whole = And (map whole_of ps); sorts = sorts_of ps; body = join true (bodies_of 0 ps) }
pull_step (form.Or ps) = record { whole = Or (map whole_of ps); sorts = sorts_of ps; body = join false (bodies_of 0 ps) }
pull_step (form.Imp a b) = kept (Imp a.whole b.whole)
pull_step (form.Iff a b) = kept (Iff a.whole b.whole)
pull_step (form.All s a) = record { whole = All s a.whole; sorts = s ∷ a.sorts; body = a.body }
pull_step (form.Ex s a) = kept (Ex s a.whole)

-- what is pulled out of a normal form or of a part of one
unfoldable pub pulled : Form → Pulled
pulled = fold-Form Pulled pull_step

-- the greatest distance that arises where they are pulled out
abbrev pub pull_reach : Form → ℕ
pull_reach a = lift_reach (length (pulled a).sorts) 0 a

-- the variables below n that were met and one that may be new
abbrev pub met : ℕ → List ℕ → ℕ → List ℕ
met n seen k = if nat_lt k n then (if list_any (nat_eq k) seen then seen else seen ++ k ∷ []) else seen

abbrev pub met_all : ℕ → List ℕ → List ℕ → List ℕ
met_all n seen [] = seen
met_all n seen (k ∷ ks) = met_all n (met n seen k) ks

-- the variables below n that stand in the formula, in the order in which they occur first
abbrev pub order_of : ℕ → Form → List ℕ
order_of n a = met_all n [] (variables_of 0 a)

-- the place of a variable of the order, counted from the last
abbrev pub place_in : List ℕ → Option ℕ → ℕ
place_in order None = 0
place_in order (Some i) = length order - 1 - i

-- the new number of a variable: those below n are in the order, the last of which becomes number 0; all others follow
abbrev pub new_number : List ℕ → ℕ → ℕ → ℕ
new_number order n k = if nat_lt k n then place_in order (position (nat_eq k) order) else k - n + length order

-- the sort of a variable, the last sort being that of variable 0
abbrev pub sort_of : List ℕ → ℕ → ℕ
sort_of sorts k = slice_index sorts (length sorts - 1 - k)

-- All, over the body, of the sorts whose variables are in the order, the first outermost
abbrev pub closed_in : List ℕ → List ℕ → Form → Form
closed_in order sorts a = closed_by (map (sort_of sorts) order) (renumbered (new_number order (length sorts)) 0 a)

-- All, over the body, of those sorts whose variable occurs in it, in order of first occurrence, the first outermost
abbrev pub close_over : List ℕ → Form → Form
close_over sorts a = closed_in (order_of (length sorts) a) sorts a

abbrev pub close : Pulled → Form
close p = close_over p.sorts p.body

-- the flat form of a normal form
abbrev pub flattened : Form → Form
flattened a = close (pulled a)

-- the flat form of the formula
abbrev pub flat_of : Form → Form
flat_of a = flattened (norm_of true a)

-- The rules' flat form: a formula whose norm size is over 100,000 has none.
pub record HasFlat (a made : Form) : Type 0 where
  pub small : norm_size_of a ≤ 100000
  pub same : flat_of a ≡ made
