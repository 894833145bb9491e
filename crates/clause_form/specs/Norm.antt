-- The normal form of a formula (negation normal form, with members of one kind joined, truth and falsehood gone, and
-- quantifiers without use dropped), and of its negation.
use Rattle.std.specs.Prelude.{ℕ, ◌≡◌, ◌≤◌, Bool, true, false, not, List, [], ◌∷◌, map, flat_map, if◌then◌else◌}
use Rattle.std.specs.List.{list_any}
use Rattle.fof_terms.specs.Instance.{instance_at}
use Rattle.fof_terms.specs.Variables.{has_variable}
use Rattle.fof_terms.specs.declared.term.Term.{Var}
use Rattle.fof_terms.specs.declared.form.Form.{Form, Atom, Eq, Not, And, Or, Imp, Iff, All, Ex}
use Rattle.fof_terms.specs.declared.form.Form.TheViews.{out-Form}
use Rattle.fof_terms.specs.declared.form.Form.TheFolds.{fold-Form}
use Rattle.clause_form.specs.Sizes.{norm_size_of}
use Rattle.fof_terms.specs.declared.form.Form.TheOpen as form

-- the formula, or under minus its negation
abbrev pub signed : Bool → Form → Form
signed true a = a
signed false a = Not a

-- And of the formulas, or under minus Or
abbrev pub node : Bool → List Form → Form
node true as_ = And as_
node false as_ = Or as_

abbrev pub members_in : Bool → Form → form.Form-F Form → List Form
members_in true a (form.And as_) = as_
members_in false a (form.Or as_) = as_
members_in g a layer = a ∷ []

-- the members of a node of that sign; another formula alone
unfoldable pub members_of : Bool → Form → List Form
members_of g a = members_in g a (out-Form a)

abbrev pub is_empty_list : {X : Type 0} → List X → Bool
is_empty_list [] = true
is_empty_list (x ∷ xs) = false

abbrev pub ends_in : Bool → form.Form-F Form → Bool
ends_in true (form.Or as_) = is_empty_list as_
ends_in false (form.And as_) = is_empty_list as_
ends_in g layer = false

-- the formula is falsehood, or under minus truth
unfoldable pub ends : Bool → Form → Bool
ends g a = ends_in g (out-Form a)

-- a node of these members, one alone being itself
abbrev pub alone : Bool → List Form → Form
alone g [] = node g []
alone g (a ∷ []) = a
alone g (a ∷ b ∷ as_) = node g (a ∷ b ∷ as_)

-- the node of formulas none of which is a node of that sign: one that ends it stands for all
unfoldable pub joined_flat : Bool → List Form → Form
joined_flat g as_ = if list_any (ends g) as_ then node (not g) [] else alone g as_

-- the joined node of these formulas
abbrev pub join : Bool → List Form → Form
join g as_ = joined_flat g (flat_map (members_of g) as_)

-- All, or under minus Ex
abbrev pub quantifier : Bool → ℕ → Form → Form
quantifier true s a = All s a
quantifier false s a = Ex s a

-- the same, dropped where the variable doesn't stand in the body
unfoldable pub quantified : Bool → ℕ → Form → Form
quantified g s a = if has_variable 0 a then quantifier g s a else instance_at (Var 0) 0 a

abbrev pub norm_step : form.Form-F (Bool → Form) → Bool → Form
norm_step (form.Atom p args) g = signed g (Atom p args)
norm_step (form.Eq l r) g = signed g (Eq l r)
norm_step (form.Not a) g = a (not g)
norm_step (form.And as_) g = join g (map (λ a. a g) as_)
norm_step (form.Or as_) g = join (not g) (map (λ a. a g) as_)
norm_step (form.Imp a b) g = join (not g) (a (not g) ∷ b g ∷ [])
norm_step (form.Iff a b) g = join g (join (not g) (a (not g) ∷ b g ∷ []) ∷ join (not g) (a g ∷ b (not g) ∷ []) ∷ [])
norm_step (form.All s a) g = quantified g s (a g)
norm_step (form.Ex s a) g = quantified (not g) s (a g)

-- the normal form of the formula, or under minus of its negation
unfoldable pub norm_of : Bool → Form → Form
norm_of g a = fold-Form (Bool → Form) norm_step a g

-- The rules' normal form: a formula whose norm size is over 100,000 has none.
pub record HasNorm (a made : Form) : Type 0 where
  pub small : norm_size_of a ≤ 100000
  pub same : norm_of true a ≡ made
