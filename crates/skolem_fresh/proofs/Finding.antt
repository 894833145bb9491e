-- What is read off two formulas of the same build.
use Rattle.std.specs.Prelude.{ℕ, ◌≡◌, ◌+◌, ◌-◌, ◌≤◌, ◌<◌, ◌==◌, ◌||◌, nat_lt, Bool, true, false, if◌then◌else◌, List, [], ◌∷◌, map, Option, Some, None, refl}
use Rattle.std.specs.List.{AllByRecursion, list_any}
use Rattle.std.specs.Option.{option_map}
use Rattle.std.proofs.Common.{ap, sym, subst, ◌∙◌, arith, ◌⊎◌, inl, inr, zero, suc}
use Rattle.std.proofs.lemmas.Simd.{map-map}
use Rattle.std.proofs.lemmas.Bool.Decides.{nat_tests}
use Rattle.std.proofs.lemmas.Bool.{le-ltb}
use Rattle.fof_terms.specs.declared.term.Term.{Term, Var, App}
use Rattle.fof_terms.specs.declared.form.Form.{Form, Ex}
use Rattle.fof_terms.proofs.Induction.{term_induction}
use Rattle.fof_terms.proofs.LiftingLaws.{moves, instance_of_lifted, here}
use Rattle.fof_terms.specs.Lift.{lifted_term}
use Rattle.fof_terms.proofs.LiftFacts.{lifted_term-App}
use Rattle.fof_terms.specs.Instance.{instance_term, instance_at, instance_of}
use Rattle.fof_terms.specs.Variables.{has_in_term, has_variable}
use Rattle.fof_terms.proofs.VariablesFacts.{has_in_term-Var, has_in_term-App}
use Rattle.fof_terms.proofs.Walks.{TermWalk, staying_term, placing, placing_term, both_terms}
use Rattle.skolem_fresh.specs.declared.just.Use.{Use}
use Rattle.skolem_fresh.specs.declared.leaves.Leaf.{Leaf}
use Rattle.skolem_fresh.specs.code.Leaves.{leaf, leaves_of}
use Rattle.skolem_fresh.proofs.LeavesFacts.{leaves_of-Ex}
use Rattle.clause_form.specs.ClauseView.{all_there}
use Rattle.skolem_fresh.specs.code.Reading.{found_in, found_term, variable_of, use_of, used, read, read_or, or_else}
use Rattle.skolem_fresh.proofs.ReadingFacts.{found_term-Var, found_term-App-App, variable_of-Var, use_of-App}
use Rattle.skolem_fresh.specs.Uses.{value, value_of}
use Rattle.skolem_fresh.specs.ChoiceRule.{IsOpened}
use Rattle.skolem_fresh.proofs.LeafLaws.{changed, walk_leaves, deeper, deeper_leaves, stands, stands_in}

abbrev pub if_there : Bool → Term → Option Term
if_there b u = if b then Some u else None

either : (b : Bool) → (b ≡ true) ⊎ (b ≡ false)
either true = inl refl
either false = inr refl

or_there : (a b : Bool) (u : Term) → or_else (if_there a u) (if_there b u) ≡ if_there (a || b) u
or_there true b u = refl
or_there false b u = refl

module _ (n : ℕ) (f : Term → Term) (w : TermWalk f) where
  at_var : (k : ℕ) → (if k == n then Some (f (Var k)) else None) ≡ if_there (k == n) (f (Var n))
  at_var k =
      elim (either (k == n)) [
        | inl e ↦ let same : k ≡ n = grind (arith, nat_tests) in rw same refl
        | inr e ↦ rw e refl
      ]

  found_each : (ts : List Term) → AllByRecursion (λ t. found_term n t (f t) ≡ if_there (has_in_term n t) (f (Var n))) ts
      → found_in (map (found_term n) ts) (map f ts) ≡ if_there (list_any (has_in_term n) ts) (f (Var n))
  found_each [] all = refl
  found_each (t ∷ ts) all = rw (all.0, found_each ts all.1) (or_there (has_in_term n t) (list_any (has_in_term n) ts) (f (Var n)))

  -- what stands in the changed term for the variable
  pub found_walk : (t : Term) → found_term n t (f t) ≡ if_there (has_in_term n t) (f (Var n))
  found_walk = term_induction _ (record {
    var = λ k. rw (found_term-Var, has_in_term-Var) (at_var k);
    app = λ s ts all. rw (w.app, found_term-App-App, has_in_term-App) (found_each ts all);
  })

-- a value, so many quantifiers further out, is read again
variables_back : (d : ℕ) (xs : List ℕ) → all_there (map (variable_of d) (map (lifted_term d 0) (map Var xs))) ≡ Some xs
variables_back d [] = refl
variables_back d (x ∷ xs) =
    let far : nat_lt (x + d) d ≡ false = le-ltb (x + d) d (omega arith) in
    let back : x + d - d ≡ x = omega arith in
    let first : variable_of d (lifted_term d 0 (Var x)) ≡ Some x = rw (moves d 0 x (omega arith), variable_of-Var, far, back) refl in
    rw (first, variables_back d xs) refl

pub use_back : (d : ℕ) (u : Use) → use_of d u.sort (lifted_term d 0 (value_of u)) ≡ Some u
use_back d u = rw (lifted_term-App, use_of-App, variables_back d u.variables) refl

-- terms that are changed by G, and then stand under D of the depth
abbrev pub moved_to : (ℕ → ℕ) → (ℕ → Term → Term) → Leaf → Leaf
moved_to D G l = leaf (D l.depth) (G l.depth l.term)

module _ (u : Use) (D : ℕ → ℕ) (G : ℕ → Term → Term) (w : (d : ℕ) → TermWalk (G d)) where
  read_next : (b c : Bool) (x : Term) (d : ℕ) (rest : Option Use) → (c ≡ true → rest ≡ Some u) → (b || c) ≡ true → x ≡ lifted_term d 0 (value_of u) → read_or rest (if_there b x) d u.sort ≡ Some u
  read_next true c x d rest h e is = rw is (use_back d u)
  read_next false c x d rest h e is = h e

  pub read_moved : (ls : List Leaf) → AllByRecursion (λ (l : Leaf). G l.depth (Var l.depth) ≡ lifted_term (D l.depth) 0 (value_of u)) ls → list_any (stands 0) ls ≡ true
      → read u.sort ls (map (moved_to D G) ls) ≡ Some u
  read_moved [] all e = cc
  read_moved (l ∷ ls) all e =
      let same : 0 + l.depth ≡ l.depth = omega arith in
      rw (found_walk l.depth (G l.depth) (w l.depth) l.term)
      (read_next (has_in_term l.depth l.term) (list_any (stands 0) ls) (G l.depth (Var l.depth)) (D l.depth) (read u.sort ls (map (moved_to D G) ls)) (read_moved ls all.1) (rw same at e) all.0)

-- what is left of a formula whose first k existential quantifiers were opened: its terms are changed, but not in what
-- stands for variables outside
pub record Opening (k : ℕ) (a right : Form) : Type 0 where
  pub D : ℕ → ℕ
  pub F : ℕ → Term → Term
  pub walk : (d : ℕ) → TermWalk (F d)
  pub leaves : leaves_of 0 right ≡ map (moved_to D F) (leaves_of 0 a)
  pub past : (x : Term) (d : ℕ) → k ≤ d → F d (lifted_term d 0 x) ≡ lifted_term (D d) 0 x
  pub deep : AllByRecursion (λ (l : Leaf). k ≤ l.depth) (leaves_of 0 a)

map_id : (ls : List Leaf) → ls ≡ map (moved_to (λ d. d) (λ d t. t)) ls
map_id [] = refl
map_id (l ∷ ls) = ap (λ ms. l ∷ ms) (map_id ls)

no_depth : (ls : List Leaf) → AllByRecursion (λ (l : Leaf). 0 ≤ l.depth) ls
no_depth [] = tt
no_depth (l ∷ ls) = (omega arith, no_depth ls)

deeper_by : (k : ℕ) (f : ℕ → Term → Term) (ls : List Leaf) → AllByRecursion (λ (l : Leaf). k ≤ l.depth) (map (changed f) ls) → AllByRecursion (λ (l : Leaf). suc k ≤ l.depth) (map deeper ls)
deeper_by k f [] all = tt
deeper_by k f (l ∷ ls) all = (let here : k ≤ l.depth = all.0 in omega arith, deeper_by k f ls all.1)

moved_again : (D : ℕ → ℕ) (F : ℕ → Term → Term) (v : Term) (ls : List Leaf)
    → map (moved_to D F) (map (changed (instance_term v)) ls) ≡ map (moved_to (λ d. D (d - 1)) (λ d t. F (d - 1) (instance_term v (d - 1) t))) (map deeper ls)
moved_again D F v [] = refl
moved_again D F v (l ∷ ls) = let same : l.depth + 1 - 1 ≡ l.depth = omega arith in rw (same, moved_again D F v ls) refl

module _ (k s : ℕ) (v : Term) (body right : Form) (o : Opening k (instance_at v 0 body) right) where
  inner : leaves_of 0 (instance_at v 0 body) ≡ map (changed (instance_term v)) (leaves_of 0 body)
  inner = walk_leaves (instance_term v) (instance_at v) (placing v (λ d. d) (λ d. refl)) body 0

  outer : leaves_of 0 (Ex s body) ≡ map deeper (leaves_of 0 body)
  outer = leaves_of-Ex 0 s body ∙ deeper_leaves body 0

  pub open_one : Opening (suc k) (Ex s body) right
  open_one = record {
    D = λ d. o.D (d - 1);
    F = λ d t. o.F (d - 1) (instance_term v (d - 1) t);
    walk = λ d. both_terms (o.F (d - 1)) (instance_term v (d - 1)) (o.walk (d - 1)) (placing_term v (d - 1));
    leaves = o.leaves ∙ ap (map (moved_to o.D o.F)) inner ∙ moved_again o.D o.F v (leaves_of 0 body) ∙ ap (map (moved_to (λ d. o.D (d - 1)) (λ d t. o.F (d - 1) (instance_term v (d - 1) t)))) (sym outer);
    past = λ x d le.
        let same : d - 1 + 1 ≡ d = omega arith in
        let step : instance_term v (d - 1) (lifted_term d 0 x) ≡ lifted_term (d - 1) 0 x = subst (λ n. instance_term v (d - 1) (lifted_term n 0 x) ≡ lifted_term (d - 1) 0 x) same (instance_of_lifted v x (d - 1) (d - 1) (omega arith)) in
        rw step (o.past x (d - 1) (omega arith));
    deep = subst (AllByRecursion (λ (l : Leaf). suc k ≤ l.depth)) (sym outer) (deeper_by k (instance_term v) (leaves_of 0 body) (subst (AllByRecursion (λ (l : Leaf). k ≤ l.depth)) inner o.deep));
  }

pub opening : (k : ℕ) (uses : List Use) (a right : Form) → IsOpened k uses a right → Opening k a right
opening zero uses a right o = rw o.1 (record {
  D = λ d. d;
  F = λ d t. t;
  walk = λ d. staying_term;
  leaves = map_id (leaves_of 0 a);
  past = λ x d le. refl;
  deep = no_depth (leaves_of 0 a);
})
opening (suc k) uses a right o =
    elim o.3 [
      | inl h ↦ rw o.2 (open_one k o.0 (value_of h.1.0) o.1 right (opening k h.1.1 (instance_of o.1 (value_of h.1.0)) right h.1.4))
      | inr h ↦ rw o.2 (open_one k o.0 (Var 0) o.1 right (opening k uses (instance_of o.1 (Var 0)) right h.1))
    ]

here_moves : (k : ℕ) (v : Term) (D : ℕ → ℕ) (F : ℕ → Term → Term) → ((x : Term) (d : ℕ) → k ≤ d → F d (lifted_term d 0 x) ≡ lifted_term (D d) 0 x) → (ls : List Leaf)
    → AllByRecursion (λ (l : Leaf). k ≤ l.depth) (map (changed (instance_term v)) ls) → AllByRecursion (λ (l : Leaf). F l.depth (instance_term v l.depth (Var l.depth)) ≡ lifted_term (D l.depth) 0 v) ls
here_moves k v D F past [] all = tt
here_moves k v D F past (l ∷ ls) all = (rw (here v l.depth l.depth refl) (past v l.depth all.0), here_moves k v D F past ls all.1)

-- the value of a variable that occurs is read off
pub read_off : (k : ℕ) (u : Use) (rest : List Use) (body right : Form) → has_variable 0 body ≡ true → IsOpened k rest (instance_of body (value_of u)) right
    → read u.sort (leaves_of 0 body) (leaves_of 0 right) ≡ Some u
read_off k u rest body right has o =
    let v = value_of u in
    let op = opening k rest (instance_of body v) right o in
    let inside : leaves_of 0 (instance_at v 0 body) ≡ map (changed (instance_term v)) (leaves_of 0 body) = walk_leaves (instance_term v) (instance_at v) (placing v (λ d. d) (λ d. refl)) body 0 in
    let G : ℕ → Term → Term = λ (d : ℕ) (t : Term). op.F d (instance_term v d t) in
    let both : leaves_of 0 right ≡ map (moved_to op.D G) (leaves_of 0 body) = op.leaves ∙ ap (map (moved_to op.D op.F)) inside ∙ map-map (moved_to op.D op.F) (changed (instance_term v)) (leaves_of 0 body) in
    let occurs : list_any (stands 0) (leaves_of 0 body) ≡ true = sym (stands_in body (0, 0)) ∙ has in
    rw both (read_moved u op.D G (λ d. both_terms (op.F d) (instance_term v d) (op.walk d) (placing_term v d)) (leaves_of 0 body)
    (here_moves k v op.D op.F op.past (leaves_of 0 body) (subst (AllByRecursion (λ (l : Leaf). k ≤ l.depth)) inside op.deep)) occurs)
