-- Formulas that are their own normal forms.
use Rattle.std.specs.Prelude.{ℕ, Bool, true, false, not, nat_eq, ◌≡◌, ◌≤◌, length, take, map, flat_map, List, [], ◌∷◌, refl}
use Rattle.std.specs.List.{AllByRecursion, list_any}
use Rattle.std.proofs.lemmas.List.{take_all}
use Rattle.std.proofs.lemmas.List.Concat.{flat_map-cons}
use Rattle.fof_terms.specs.declared.form.Form.{Form, Not}
use Rattle.fof_terms.specs.Variables.{has_variable}
use Rattle.clause_form.specs.Norm.{node, quantifier, members_of, ends, norm_of}
use Rattle.clause_form.proofs.NormFacts.{norm_of-Not, joined_flat-alone, quantified-kept}
use Rattle.norm_proofs.specs.code.Links.{kind_of}
use Rattle.norm_proofs.proofs.NormsFacts.{norm_of_node, norm_of_quantifier}
use Rattle.norm_proofs.proofs.SettledFacts.{several}

-- the formula is its own normal form, and stays a member of its own in a joined node of that kind
abbrev pub Stands : Bool → Form → Type 0
Stands kind a = (norm_of true a ≡ a) × (members_of kind a ≡ a ∷ []) × (ends kind a ≡ false)

normal_members : (kind : Bool) (as_ : List Form) → AllByRecursion (Stands kind) as_ → map (norm_of true) as_ ≡ as_
normal_members kind [] all = refl
normal_members kind (a ∷ as_) all = rw (all.0.0, normal_members kind as_ all.1) refl

members_stay : (kind : Bool) (as_ : List Form) → AllByRecursion (Stands kind) as_ → flat_map (members_of kind) as_ ≡ as_
members_stay kind [] all = refl
members_stay kind (a ∷ as_) all = rw (flat_map-cons (members_of kind) a as_, all.0.1, members_stay kind as_ all.1) refl

none_ends : (kind : Bool) (as_ : List Form) → AllByRecursion (Stands kind) as_ → list_any (ends kind) as_ ≡ false
none_ends kind [] all = refl
none_ends kind (a ∷ as_) all = rw (all.0.2, none_ends kind as_ all.1) refl

same_kind : (kind : Bool) → kind_of kind true ≡ kind
same_kind true = refl
same_kind false = refl

normal_node : (kind : Bool) (as_ : List Form) → AllByRecursion (Stands kind) as_ → (length as_ ≡ 1 → ⊥) → norm_of true (node kind as_) ≡ node kind as_
normal_node kind as_ all other =
    rw (norm_of_node kind true as_, same_kind kind, normal_members kind as_ all, members_stay kind as_ all, joined_flat-alone kind as_ (none_ends kind as_ all), several kind as_ other) refl

not_one : (n : ℕ) → not (nat_eq n 1) ≡ true → n ≡ 1 → ⊥
not_one n e is = let never : false ≡ true = rw is at e in cc

pub first_normal : (kind : Bool) (as_ : List Form) (i : ℕ) → length as_ ≤ i → AllByRecursion (Stands kind) (take i as_) → not (nat_eq (length as_) 1) ≡ true → norm_of true (node kind as_) ≡ node kind as_
first_normal kind as_ i le all several = normal_node kind as_ (rw (take_all i as_ le) at all) (not_one (length as_) several)

pub node_normal : (kind : Bool) (form : Form) (as_ bs : List Form) → form ≡ node kind as_ → bs ≡ as_ → norm_of true (node kind bs) ≡ node kind bs → norm_of true form ≡ form
node_normal kind form as_ bs is e same = rw is (rw e at same)

pub negation_normal : (form a b : Form) → form ≡ Not a → b ≡ a → norm_of false b ≡ Not b → norm_of true form ≡ form
negation_normal form a b is e same = rw (is, norm_of-Not) (rw e at same)

pub quantifier_normal : (kind : Bool) (s : ℕ) (form a b c : Form) → form ≡ quantifier kind s a → b ≡ a → norm_of true b ≡ b → c ≡ a → has_variable 0 c ≡ true → norm_of true form ≡ form
quantifier_normal kind s form a b c is e same e2 used =
    let same' : norm_of true a ≡ a = rw e at same in
    let used' : has_variable 0 a ≡ true = rw e2 at used in
    rw (is, norm_of_quantifier kind true s a, same_kind kind, same', quantified-kept kind s a used') refl
