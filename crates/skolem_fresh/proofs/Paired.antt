-- The terms of a formula and those of what it is without its existential quantifiers stand in pairs, by which the value of a
-- variable is read off.
use Rattle.std.specs.Prelude.{ℕ, ◌≡◌, ◌+◌, ◌-◌, ◌||◌, Bool, true, false, List, [], ◌∷◌, ◌++◌, map, flat_map, Option, Some, refl}
use Rattle.std.specs.List.{list_any}
use Rattle.std.proofs.Common.{ap, sym, subst, ◌∙◌, arith, zero, suc}
use Rattle.std.proofs.lemmas.List.{map-append}
use Rattle.std.proofs.lemmas.List.Concat.{flat_map-cons}
use Rattle.fof_terms.specs.declared.term.Term.{Term, Var}
use Rattle.fof_terms.specs.declared.form.Form.{Form, Atom, Eq, Not, All, Ex}
use Rattle.fof_terms.proofs.LiftingLaws.{here, instance_of_lifted, lift_twice}
use Rattle.fof_terms.specs.Lift.{lifted_term}
use Rattle.fof_terms.specs.Instance.{instance_of, instance_at, instance_term}
use Rattle.fof_terms.specs.Variables.{has_in_term, has_variable}
use Rattle.fof_terms.specs.Vocabulary.{Vocabulary}
use Rattle.fof_terms.proofs.Walks.{TermWalk, staying_term, placing, placing_term, both_terms}
use Rattle.skolem_fresh.specs.declared.just.Use.{Use}
use Rattle.skolem_fresh.specs.declared.leaves.Leaf.{Leaf}
use Rattle.skolem_fresh.specs.code.Leaves.{leaves_of}
use Rattle.skolem_fresh.proofs.LeavesFacts.{leaves_of-And, leaves_of-Or, leaves_of-All, leaves_of-Ex}
use Rattle.skolem_fresh.specs.code.Reading.{found_term, read, read_or, read_from, outward}
use Rattle.skolem_fresh.specs.Uses.{value_of}
use Rattle.skolem_fresh.specs.SkolemRule.{IsSkolemized, AreSkolemized, an_atom, an_equation, a_negation, a_conjunction, a_disjunction, for_each, for_some, none, more}
use Rattle.skolem_fresh.proofs.Finding.{if_there, found_walk, use_back}
use Rattle.skolem_fresh.proofs.LeafLaws.{changed, walk_leaves, deeper, deeper_leaves, stands, stands_in}

-- the second term is the first with other variables changed than those outside of the formula
pub record IsKept (l m : Leaf) : Type 0 where
  pub f : Term → Term
  pub walk : TermWalk f
  pub is : m.term ≡ f l.term
  pub past : (x : Term) → f (lifted_term l.depth 0 x) ≡ lifted_term m.depth 0 x

abbrev pub ArePaired : List Leaf → List Leaf → Type 0
ArePaired [] ms = ms ≡ []
ArePaired (l ∷ ls) ms = (m : Leaf) × (rest : List Leaf) × (ms ≡ m ∷ rest) × IsKept l m × ArePaired ls rest

paired_itself : (ls : List Leaf) → ArePaired ls ls
paired_itself [] = refl
paired_itself (l ∷ ls) = (l, ls, refl, record { f = λ t. t; walk = staying_term; is = refl; past = λ x. refl }, paired_itself ls)

paired_append : (ls ms ls' ms' : List Leaf) → ArePaired ls ms → ArePaired ls' ms' → ArePaired (ls ++ ls') (ms ++ ms')
paired_append [] ms ls' ms' h k = subst (λ (xs : List Leaf). ArePaired ls' (xs ++ ms')) (sym h) k
paired_append (l ∷ ls) ms ls' ms' h k = (h.0, h.1 ++ ms', ap (λ (xs : List Leaf). xs ++ ms') h.2, h.3, paired_append ls h.1 ls' ms' h.4 k)

deeper_kept : (l m : Leaf) → IsKept l m → IsKept (deeper l) (deeper m)
deeper_kept l m k = record {
  f = k.f;
  walk = k.walk;
  is = k.is;
  past = λ x.
      let before : lifted_term l.depth 0 (lifted_term 1 0 x) ≡ lifted_term (l.depth + 1) 0 x = lift_twice l.depth 1 (l.depth + 1) refl x in
      let after : lifted_term m.depth 0 (lifted_term 1 0 x) ≡ lifted_term (m.depth + 1) 0 x = lift_twice m.depth 1 (m.depth + 1) refl x in
      ap k.f (sym before) ∙ k.past (lifted_term 1 0 x) ∙ after;
}

paired_deeper : (ls ms : List Leaf) → ArePaired ls ms → ArePaired (map deeper ls) (map deeper ms)
paired_deeper [] ms h = rw h refl
paired_deeper (l ∷ ls) ms h = (deeper h.0, map deeper h.1, ap (map deeper) h.2, deeper_kept l h.0 h.3, paired_deeper ls h.1 h.4)

value_kept : (v : Term) (l m : Leaf) → IsKept (changed (instance_term v) l) m → IsKept (deeper l) m
value_kept v l m k = record {
  f = λ t. k.f (instance_term v l.depth t);
  walk = both_terms k.f (instance_term v l.depth) k.walk (placing_term v l.depth);
  is = k.is;
  past = λ x. ap k.f (instance_of_lifted v x l.depth l.depth (omega arith)) ∙ k.past x;
}

paired_value : (v : Term) (ls ms : List Leaf) → ArePaired (map (changed (instance_term v)) ls) ms → ArePaired (map deeper ls) ms
paired_value v [] ms h = h
paired_value v (l ∷ ls) ms h = (h.0, h.1, h.2, value_kept v l h.0 h.3, paired_value v ls h.1 h.4)

instance_leaves : (v : Term) (a : Form) → leaves_of 0 (instance_of a v) ≡ map (changed (instance_term v)) (leaves_of 0 a)
instance_leaves v a = walk_leaves (instance_term v) (instance_at v) (placing v (λ d. d) (λ d. refl)) a 0

all_leaves : (s : ℕ) (a : Form) → leaves_of 0 (All s a) ≡ map deeper (leaves_of 0 a)
all_leaves s a = leaves_of-All 0 s a ∙ deeper_leaves a 0

some_leaves : (s : ℕ) (a : Form) → leaves_of 0 (Ex s a) ≡ map deeper (leaves_of 0 a)
some_leaves s a = leaves_of-Ex 0 s a ∙ deeper_leaves a 0

abbrev Pairs : Form → Form → Type 0
Pairs a b = ArePaired (leaves_of 0 a) (leaves_of 0 b)

module _ (v : Vocabulary) where
  mutual
    pub paired : (scope : List ℕ) (uses : List Use) (a b : Form) → IsSkolemized v scope uses a b → Pairs a b
    paired scope uses a b (an_atom sc p ts) = paired_itself (leaves_of 0 (Atom p ts))
    paired scope uses a b (an_equation sc l r) = paired_itself (leaves_of 0 (Eq l r))
    paired scope uses a b (a_negation sc c) = paired_itself (leaves_of 0 (Not c))
    paired scope uses a b (a_conjunction sc us as_ bs h) = rw (leaves_of-And 0 as_, leaves_of-And 0 bs) (all_paired scope us as_ bs h)
    paired scope uses a b (a_disjunction sc us as_ bs h) = rw (leaves_of-Or 0 as_, leaves_of-Or 0 bs) (all_paired scope us as_ bs h)
    paired scope uses a b (for_each sc us s c d h) = rw (all_leaves s c, all_leaves s d) (paired_deeper (leaves_of 0 c) (leaves_of 0 d) (paired (s ∷ scope) us c d h))
    paired scope uses a b (for_some sc u rest s c d m h) =
        let inner : Pairs (instance_of c (value_of u)) d = paired scope rest (instance_of c (value_of u)) d h in
        let inner' : ArePaired (map (changed (instance_term (value_of u))) (leaves_of 0 c)) (leaves_of 0 d) = subst (λ ls. ArePaired ls (leaves_of 0 d)) (instance_leaves (value_of u) c) inner in
        subst (λ ls. ArePaired ls (leaves_of 0 d)) (sym (some_leaves s c)) (paired_value (value_of u) (leaves_of 0 c) (leaves_of 0 d) inner')

    all_paired : (scope : List ℕ) (uses : List Use) (as_ bs : List Form) → AreSkolemized v scope uses as_ bs → ArePaired (flat_map (leaves_of 0) as_) (flat_map (leaves_of 0) bs)
    all_paired scope uses as_ bs (none sc) = refl
    all_paired scope uses as_ bs (more sc first rest a b cs ds h g) =
        rw (flat_map-cons (leaves_of 0) a cs, flat_map-cons (leaves_of 0) b ds)
        (paired_append (leaves_of 0 a) (leaves_of 0 b) (flat_map (leaves_of 0) cs) (flat_map (leaves_of 0) ds) (paired scope first a b h) (all_paired scope rest cs ds g))

-- The value of a variable that stands in one of the terms is read off.
module _ (u : Use) where
  read_next : (b c : Bool) (x : Term) (d : ℕ) (rest : Option Use) → (c ≡ true → rest ≡ Some u) → (b || c) ≡ true → x ≡ lifted_term d 0 (value_of u) → read_or rest (if_there b x) d u.sort ≡ Some u
  read_next true c x d rest h e is = rw is (use_back d u)
  read_next false c x d rest h e is = h e

  value_of_pairs : (ls ms after : List Leaf) → ArePaired (map (changed (instance_term (value_of u))) ls) ms → list_any (stands 0) ls ≡ true → read u.sort ls (ms ++ after) ≡ Some u
  value_of_pairs [] ms after h e = cc
  value_of_pairs (l ∷ ls) ms after h e =
      let m = h.0 in
      let k = h.3 in
      let x = value_of u in
      let g : Term → Term = λ (t : Term). k.f (instance_term x l.depth t) in
      let walk : TermWalk (λ t. k.f (instance_term x l.depth t)) = both_terms k.f (instance_term x l.depth) k.walk (placing_term x l.depth) in
      let found : found_term l.depth l.term m.term ≡ if_there (has_in_term l.depth l.term) (g (Var l.depth)) = ap (found_term l.depth l.term) k.is ∙ found_walk l.depth g walk l.term in
      let there : g (Var l.depth) ≡ lifted_term m.depth 0 x = ap k.f (here x l.depth l.depth refl) ∙ k.past x in
      let same : 0 + l.depth ≡ l.depth = omega arith in
      let e' : (has_in_term l.depth l.term || list_any (stands 0) ls) ≡ true = rw same at e in
      let rest = value_of_pairs ls h.1 after h.4 in
      subst (λ (xs : List Leaf). read u.sort (l ∷ ls) (xs ++ after) ≡ Some u) (sym h.2)
      (ap (λ f. read_or (read u.sort ls (h.1 ++ after)) f m.depth u.sort) found ∙ read_next (has_in_term l.depth l.term) (list_any (stands 0) ls) (g (Var l.depth)) m.depth (read u.sort ls (h.1 ++ after)) rest e' there)

-- under universal quantifiers
outward_one : (e : ℕ) (ls : List Leaf) → map (outward (suc e)) (map deeper ls) ≡ map (outward e) ls
outward_one e [] = refl
outward_one e (l ∷ ls) = let same : l.depth + 1 - suc e ≡ l.depth - e = omega arith in rw (same, outward_one e ls) refl

pub outward_none : (ls : List Leaf) → map (outward 0) ls ≡ ls
outward_none [] = refl
outward_none (l ∷ ls) = let same : l.depth - 0 ≡ l.depth = omega arith in rw (same, outward_none ls) refl

outward_leaves : (e : ℕ) (a : Form) → map (outward e) (leaves_of e a) ≡ leaves_of 0 a
outward_leaves zero a = outward_none (leaves_of 0 a)
outward_leaves (suc e) a =
    let one : e + 1 ≡ suc e = omega arith in
    let first : leaves_of (suc e) a ≡ map deeper (leaves_of e a) = subst (λ n. leaves_of n a ≡ map deeper (leaves_of e a)) one (deeper_leaves a e) in
    ap (map (outward (suc e))) first ∙ outward_one e (leaves_of e a) ∙ outward_leaves e a

pub value_read : (v : Vocabulary) (scope : List ℕ) (u : Use) (rest : List Use) (body b : Form) (e : ℕ) (ms after : List Leaf) → has_variable 0 body ≡ true → IsSkolemized v scope rest (instance_of body (value_of u)) b
    → ms ≡ leaves_of e b ++ after → read_from e u.sort (leaves_of 0 body) ms ≡ Some u
value_read v scope u rest body b e ms after has h is =
    let inner : Pairs (instance_of body (value_of u)) b = paired v scope rest (instance_of body (value_of u)) b h in
    let inner' : ArePaired (map (changed (instance_term (value_of u))) (leaves_of 0 body)) (leaves_of 0 b) = subst (λ ls. ArePaired ls (leaves_of 0 b)) (instance_leaves (value_of u) body) inner in
    let out : map (outward e) ms ≡ leaves_of 0 b ++ map (outward e) after = ap (map (outward e)) is ∙ map-append (outward e) (leaves_of e b) after ∙ ap (λ (ls : List Leaf). ls ++ map (outward e) after) (outward_leaves e b) in
    let occurs : list_any (stands 0) (leaves_of 0 body) ≡ true = sym (stands_in body (0, 0)) ∙ has in
    ap (read u.sort (leaves_of 0 body)) out ∙ value_of_pairs u (leaves_of 0 body) (leaves_of 0 b) (map (outward e) after) inner' occurs
