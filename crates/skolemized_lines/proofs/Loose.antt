-- Formulas such as a normal form becomes with functions in place of its existential variables: a node may stand in a
-- node of its kind. Their normal forms have their clauses.
use Rattle.std.specs.Prelude.{ℕ, ◌≡◌, ◌+◌, ◌||◌, Bool, true, false, not, List, [], ◌∷◌, ◌++◌, flat_map, map, refl}
use Rattle.std.specs.List.{AllByRecursion, list_any}
use Rattle.std.proofs.Common.{ap, sym, ◌∙◌, inl, inr}
use Rattle.std.proofs.lemmas.Bool.{or_left, or_right}
use Rattle.std.proofs.lemmas.List.Concat.{flat_map-cons}
use Rattle.std.proofs.lemmas.List.Folds.{list_any-append}
use Rattle.fof_terms.specs.declared.form.Form.{Form, Atom, Eq, Not, All}
use Rattle.fof_terms.specs.declared.term.Term.{Term}
use Rattle.fof_terms.specs.Variables.{has_variable}
use Rattle.fof_terms.proofs.VariablesFacts.{has_variable-And, has_variable-Or, has_variable-All}
use Rattle.clause_form.specs.declared.clause.Clause.{Clause}
use Rattle.clause_form.specs.ClauseView.{within}
use Rattle.clause_form.specs.Clauses.{Clausal, clauses_in}
use Rattle.clause_form.specs.Norm.{alone, ends, join, members_of, node, norm_of}
use Rattle.clause_form.proofs.ClausesFacts.{clausal-All}
use Rattle.clause_form.proofs.Joined.{members_cases}
use Rattle.clause_form.proofs.MemberKinds.{ends-All, ends-And-false, ends-And-true, ends-Atom, ends-Eq, ends-Not, ends-Or-false, ends-Or-true}
use Rattle.clause_form.proofs.NormFacts.{joined_flat-alone, norm_of-All, norm_of-And, norm_of-Atom, norm_of-Eq, norm_of-Not, norm_of-Or, quantified-kept}
use Rattle.flat_form.proofs.Own.{IsOwn, OwnStands, flat_own, none_ends, stand_all}
use Rattle.flat_form.proofs.OwnNorms.{norm_own}
use Rattle.flat_form.proofs.Standing.{end_ends, node_members, stands_ends, stands_members}
use Rattle.printed_steps.proofs.Terms.{either}
use Rattle.skolemized_lines.proofs.Merging.{join_clauses, merged_all, node_clauses}

mutual
  -- Negations stand at atoms and equations alone, each node has members, and the variable of each quantifier stands in
  -- its body.
  pub data IsLoose : Form → Type 0 where
    an_atom : (p : ℕ) (ts : List Term) → IsLoose (Atom p ts)
    an_equation : (l r : Term) → IsLoose (Eq l r)
    a_denied_atom : (p : ℕ) (ts : List Term) → IsLoose (Not (Atom p ts))
    a_denied_equation : (l r : Term) → IsLoose (Not (Eq l r))
    a_node : (g : Bool) (a : Form) (as_ : List Form) → AreLoose (a ∷ as_) → IsLoose (node g (a ∷ as_))
    for_each : (s : ℕ) (a : Form) → has_variable 0 a ≡ true → IsLoose a → IsLoose (All s a)

  pub data AreLoose : List Form → Type 0 where
    none : AreLoose []
    more : (a : Form) (as_ : List Form) → IsLoose a → AreLoose as_ → AreLoose (a ∷ as_)

-- ---- what is said of its normal form

-- it is no node without members
abbrev pub IsFilled : Form → Type 0
IsFilled a = (g : Bool) → a ≡ node g [] → ⊥

-- the normal form has the clauses and the variables of the formula, and is neither truth nor falsehood
pub record IsKept (a : Form) : Type 0 where
  pub clauses : clauses_in (norm_of true a) ≡ clauses_in a
  pub variables : (k : ℕ) → has_variable k a ≡ true → has_variable k (norm_of true a) ≡ true
  pub filled : IsFilled (norm_of true a)

empty_ends : (g : Bool) → ends (not g) (node g []) ≡ true
empty_ends true = end_ends false
empty_ends false = end_ends true

-- what ends no node is no node without members
live_filled : (a : Form) → ((g : Bool) → ends g a ≡ false) → IsFilled a
live_filled a live g e = let clash : true ≡ false = sym (empty_ends g) ∙ ap (ends (not g)) (sym e) ∙ live (not g) in cc

-- a formula that is its own normal form
same_kept : (a : Form) → norm_of true a ≡ a → ((g : Bool) → ends g a ≡ false) → IsKept a
same_kept a same live = record {
  clauses = ap clauses_in same;
  variables = λ k h. ap (has_variable k) same ∙ h;
  filled = λ g e. live_filled a live g (sym same ∙ e);
}

all_kept : (s : ℕ) (a : Form) → has_variable 0 a ≡ true → IsKept a → IsKept (All s a)
all_kept s a there k =
    let stays : norm_of true (All s a) ≡ All s (norm_of true a) = norm_of-All true s a ∙ quantified-kept true s (norm_of true a) (k.variables 0 there) in
    record {
      clauses =
          ap clauses_in stays ∙ ap (λ (x : Clausal). x.clauses) (clausal-All s (norm_of true a)) ∙ ap (map (within s)) k.clauses
          ∙ sym (ap (λ (x : Clausal). x.clauses) (clausal-All s a));
      variables = λ n h. ap (has_variable n) stays ∙ has_variable-All n s (norm_of true a) ∙ k.variables (n + 1) (sym (has_variable-All n s a) ∙ h);
      filled = λ g e. live_filled (All s (norm_of true a)) (λ b. ends-All b s (norm_of true a)) g (sym stays ∙ e);
    }

-- ---- a node

node_variable : (g : Bool) (k : ℕ) (as_ : List Form) → has_variable k (node g as_) ≡ list_any (has_variable k) as_
node_variable true k as_ = has_variable-And k as_
node_variable false k as_ = has_variable-Or k as_

norm_node : (g : Bool) (as_ : List Form) → norm_of true (node g as_) ≡ join g (map (norm_of true) as_)
norm_node true as_ = norm_of-And true as_
norm_node false as_ = norm_of-Or true as_

-- a node with members ends none
node_live : (g h : Bool) (a : Form) (as_ : List Form) → ends h (node g (a ∷ as_)) ≡ false
node_live true true a as_ = ends-And-true (a ∷ as_)
node_live true false a as_ = ends-And-false (a ∷ as_)
node_live false true a as_ = ends-Or-true (a ∷ as_)
node_live false false a as_ = ends-Or-false (a ∷ as_)

module _ (g : Bool) where
  abbrev flat : List Form → List Form
  flat as_ = flat_map (members_of g) (map (norm_of true) as_)

  flat_more : (a : Form) (as_ : List Form) → flat (a ∷ as_) ≡ members_of g (norm_of true a) ++ flat as_
  flat_more a as_ = flat_map-cons (members_of g) (norm_of true a) (map (norm_of true) as_)

  norms_own : (as_ : List Form) → AllByRecursion IsOwn (map (norm_of true) as_)
  norms_own [] = tt
  norms_own (a ∷ as_) = (norm_own a true, norms_own as_)

  norms_go : (as_ : List Form) → AllByRecursion IsKept as_ → AllByRecursion (λ (a : Form). a ≡ node (not g) [] → ⊥) (map (norm_of true) as_)
  norms_go [] all = tt
  norms_go (a ∷ as_) all = (all.0.filled (not g), norms_go as_ all.1)

  flat_stands : (as_ : List Form) → AllByRecursion IsKept as_ → AllByRecursion (OwnStands g) (flat as_)
  flat_stands as_ all = flat_own g (map (norm_of true) as_) (norms_own as_) (norms_go as_ all)

  flat_ends : (as_ : List Form) → AllByRecursion IsKept as_ → list_any (ends g) (flat as_) ≡ false
  flat_ends as_ all = none_ends g (flat as_) (stand_all g (flat as_) (flat_stands as_ all))

  kept_clauses : (as_ : List Form) → AllByRecursion IsKept as_ → map clauses_in (map (norm_of true) as_) ≡ map clauses_in as_
  kept_clauses [] all = refl
  kept_clauses (a ∷ as_) all = ap (λ (cs : List Clause). cs ∷ map clauses_in (map (norm_of true) as_)) all.0.clauses ∙ ap (λ (ls : List (List Clause)). clauses_in a ∷ ls) (kept_clauses as_ all.1)

  -- a variable of a formula stands in one of its members
  in_members : (k : ℕ) (a : Form) → has_variable k a ≡ true → list_any (has_variable k) (members_of g a) ≡ true
  in_members k a h =
      elim (members_cases g a) [
        | inl m ↦ ap (list_any (has_variable k)) m.2 ∙ sym (node_variable g k m.0) ∙ ap (has_variable k) (sym m.1) ∙ h
        | inr e ↦ ap (list_any (has_variable k)) e ∙ ap (λ (b : Bool). b || false) h
      ]

  in_flat : (k : ℕ) (as_ : List Form) → AllByRecursion IsKept as_ → list_any (has_variable k) as_ ≡ true → list_any (has_variable k) (flat as_) ≡ true
  in_flat k [] all h = cc
  in_flat k (a ∷ as_) all h =
      let own : Bool = list_any (has_variable k) (members_of g (norm_of true a)) in
      let rest : Bool = list_any (has_variable k) (flat as_) in
      ap (list_any (has_variable k)) (flat_more a as_) ∙ list_any-append (has_variable k) (members_of g (norm_of true a)) (flat as_)
      ∙ elim (either (has_variable k a) (list_any (has_variable k) as_) h) [
        | inl one ↦ or_left own rest (in_members k (norm_of true a) (all.0.variables k one))
        | inr others ↦ or_right own rest (in_flat k as_ all.1 others)
      ]

  alone_variable : (k : ℕ) (as_ : List Form) → list_any (has_variable k) as_ ≡ true → has_variable k (alone g as_) ≡ true
  alone_variable k [] h = cc
  alone_variable k (a ∷ []) h = elim (either (has_variable k a) false h) [
    | inl one ↦ one
    | inr never ↦ absurd (let clash : false ≡ true = never in cc)
  ]
  alone_variable k (a ∷ b ∷ as_) h = node_variable g k (a ∷ b ∷ as_) ∙ h

  no_members : (a : Form) → IsFilled a → members_of g a ≡ [] → ⊥
  no_members a filled empty =
      elim (members_cases g a) [
        | inl m ↦ filled g (m.1 ∙ ap (node g) (sym m.2 ∙ empty))
        | inr e ↦ let clash : a ∷ [] ≡ [] = sym e ∙ empty in cc
      ]

  both_none : (xs ys : List Form) → xs ++ ys ≡ [] → xs ≡ []
  both_none [] ys e = refl
  both_none (x ∷ xs) ys e = cc

  no_flat : (a : Form) (as_ : List Form) → IsKept a → flat (a ∷ as_) ≡ [] → ⊥
  no_flat a as_ kept empty = no_members (norm_of true a) kept.filled (both_none (members_of g (norm_of true a)) (flat as_) (sym (flat_more a as_) ∙ empty))

  -- what stands in a node is no node without members
  pub standing_filled : (a : Form) → OwnStands g a → IsFilled a
  standing_filled a own = by g own
    where
      same : (h : Bool) → OwnStands h a → a ≡ node h [] → ⊥
      same h o e = let clash : a ∷ [] ≡ [] = sym (stands_members h a o.1) ∙ ap (members_of h) e ∙ node_members h [] in cc

      other : (h : Bool) → OwnStands h a → a ≡ node (not h) [] → ⊥
      other h o e = let clash : true ≡ false = sym (end_ends h) ∙ ap (ends h) (sym e) ∙ stands_ends h a o.1 in cc

      by : (h : Bool) → OwnStands h a → IsFilled a
      by true o true = same true o
      by true o false = other true o
      by false o true = other false o
      by false o false = same false o

  alone_filled : (as_ : List Form) → (as_ ≡ [] → ⊥) → AllByRecursion (OwnStands g) as_ → IsFilled (alone g as_)
  alone_filled [] some all = absurd (some refl)
  alone_filled (a ∷ []) some all = standing_filled a all.0
  alone_filled (a ∷ b ∷ as_) some all = live_filled (node g (a ∷ b ∷ as_)) (λ h. node_live g h a (b ∷ as_))

  node_kept : (a : Form) (as_ : List Form) → AllByRecursion IsKept (a ∷ as_) → IsKept (node g (a ∷ as_))
  node_kept a as_ all =
      let joined : norm_of true (node g (a ∷ as_)) ≡ alone g (flat (a ∷ as_)) = norm_node g (a ∷ as_) ∙ joined_flat-alone g (flat (a ∷ as_)) (flat_ends (a ∷ as_) all) in
      record {
        clauses =
            ap clauses_in (norm_node g (a ∷ as_)) ∙ join_clauses g (map (norm_of true) (a ∷ as_)) (flat_ends (a ∷ as_) all) ∙ ap (merged_all g) (kept_clauses (a ∷ as_) all)
            ∙ sym (node_clauses g (a ∷ as_));
        variables = λ k h. ap (has_variable k) joined ∙ alone_variable k (flat (a ∷ as_)) (in_flat k (a ∷ as_) all (sym (node_variable g k (a ∷ as_)) ∙ h));
        filled = λ h e. alone_filled (flat (a ∷ as_)) (no_flat a as_ all.0) (flat_stands (a ∷ as_) all) h (sym joined ∙ e);
      }

mutual
  pub loose_kept : (a : Form) → IsLoose a → IsKept a
  loose_kept a (an_atom p ts) = same_kept (Atom p ts) (norm_of-Atom true p ts) (λ g. ends-Atom g p ts)
  loose_kept a (an_equation l r) = same_kept (Eq l r) (norm_of-Eq true l r) (λ g. ends-Eq g l r)
  loose_kept a (a_denied_atom p ts) = same_kept (Not (Atom p ts)) (norm_of-Not true (Atom p ts) ∙ norm_of-Atom false p ts) (λ g. ends-Not g (Atom p ts))
  loose_kept a (a_denied_equation l r) = same_kept (Not (Eq l r)) (norm_of-Not true (Eq l r) ∙ norm_of-Eq false l r) (λ g. ends-Not g (Eq l r))
  loose_kept a (a_node g b as_ all) = node_kept g b as_ (each_kept (b ∷ as_) all)
  loose_kept a (for_each s b there is) = all_kept s b there (loose_kept b is)

  each_kept : (as_ : List Form) → AreLoose as_ → AllByRecursion IsKept as_
  each_kept as_ none = tt
  each_kept as_ (more a bs is all) = (loose_kept a is, each_kept bs all)
