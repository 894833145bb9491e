-- Joint instances: terms in place of the variables from `depth` on, the first for the nearest, each lifted by the binders
-- crossed. Greater variables move in by as many.
use Rattle.std.specs.Prelude.{ℕ, ◌+◌, ◌-◌, ◌≤◌, nat_lt, if◌then◌else◌, List, length, map, slice_get, Option, Some, None}
use Rattle.fof_terms.specs.Lift.{lifted_term, lift_term_reach}
use Rattle.fof_terms.specs.declared.term.Term.{Term, Var, App}
use Rattle.fof_terms.specs.declared.term.Term.TheFolds.{fold-Term}
use Rattle.fof_terms.specs.declared.form.Form.{Form, Atom, Eq, Not, And, Or, Imp, Iff, All, Ex}
use Rattle.fof_terms.specs.declared.form.Form.TheFolds.{fold-Form}
use Rattle.fof_terms.specs.declared.term.Term.TheOpen as term
use Rattle.fof_terms.specs.declared.form.Form.TheOpen as form

-- the term in a variable's place, or else this variable
abbrev pub in_place : Option Term → ℕ → ℕ → Term
in_place None depth k = Var k
in_place (Some t) depth k = lifted_term depth 0 t

abbrev pub joint_term_step : List Term → ℕ → term.Term-F Term → Term
joint_term_step ts depth (term.Var k) = if nat_lt k depth then Var k else in_place (slice_get ts (k - depth)) depth (k - length ts)
joint_term_step ts depth (term.App f args) = App f args

-- the term with these for the variables from `depth` on
unfoldable pub joint_instance_term : List Term → ℕ → Term → Term
joint_instance_term ts depth = fold-Term Term (joint_term_step ts depth)

abbrev pub joint_step : List Term → form.Form-F (ℕ → Form) → ℕ → Form
joint_step ts (form.Atom p args) depth = Atom p (map (joint_instance_term ts depth) args)
joint_step ts (form.Eq a b) depth = Eq (joint_instance_term ts depth a) (joint_instance_term ts depth b)
joint_step ts (form.Not a) depth = Not (a depth)
joint_step ts (form.And as_) depth = And (map (λ a. a depth) as_)
joint_step ts (form.Or as_) depth = Or (map (λ a. a depth) as_)
joint_step ts (form.Imp a b) depth = Imp (a depth) (b depth)
joint_step ts (form.Iff a b) depth = Iff (a depth) (b depth)
joint_step ts (form.All s a) depth = All s (a (depth + 1))
joint_step ts (form.Ex s a) depth = Ex s (a (depth + 1))

-- the formula with these for the variables from `depth` on
unfoldable pub joint_instance_at : List Term → ℕ → Form → Form
joint_instance_at ts depth a = fold-Form (ℕ → Form) (joint_step ts) a depth

-- the term has room to be lifted over as many variables as there may be binders
abbrev pub IsMovable : Term → Type 0
IsMovable t = (d : ℕ) → lift_term_reach d 0 t ≤ 2147483647 + d
