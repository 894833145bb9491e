-- Lemmas on what specs/code/Joining defines.
use Rattle.std.specs.Prelude.{ℕ, Bool, true, false, ◌≡◌, ◌+◌, length, flat_map, List, [], ◌∷◌, ◌++◌, Some, refl, slice_get}
use Rattle.std.specs.List.{AllByRecursion}
use Rattle.std.proofs.Common.{arith, ap, zero, suc}
use Rattle.fof_terms.specs.declared.form.Form.{Form, And, Or}
use Rattle.fof_terms.specs.Sorts.{Sorted, IsScope}
use Rattle.fof_terms.proofs.Scoped.{member_of, and_sorted, or_sorted, sorted_of_and, sorted_of_or}
use Rattle.clause_form.specs.Norm.{node, members_of}
use Rattle.clause_form.proofs.Joined.{Memberwise, of_all}
use Rattle.kernel.specs.Statements.{Statements}
use Rattle.kernel.specs.Proves.{Proves}
use Rattle.kernel.specs.code.Rules.{ProveAll}
use Rattle.kernel.specs.Rules.{ProveEach}
use Rattle.kernel.proofs.Building.{by_and_i, by_and_e, by_or_i, by_or_e, by_imp_i}
use Rattle.kernel.specs.declared.proof.Proof.{Proof, Hyp, AndI, AndE, OrI, OrE}
use Rattle.norm_proofs.specs.code.Steps.{Between}
use Rattle.derive_kit.proofs.Members.{first}
use Rattle.norm_proofs.specs.code.Links.{link_tree}
use Rattle.norm_proofs.specs.code.Joining.{numbered, spread_tree, lone_tree, gather_tree, Stands, SpreadTo, GatherTo}

pub numbered_more : (f : ℕ → Proof) (k n : ℕ) → numbered f k (n + 1) ≡ numbered f k n ++ f (k + n) ∷ []
numbered_more f k zero = let same : k + 0 ≡ k = omega arith in rw same refl
numbered_more f k (suc n) =
    let here : suc n + 1 ≡ suc (n + 1) = omega arith in
    let there : k + suc n ≡ k + 1 + n = omega arith in
    rw (here, there) (ap (λ ps. f k ∷ ps) (numbered_more f (k + 1) n))

-- numbered proofs
module _ (t : Statements) (v : List ℕ) (h : List Form) (f : ℕ → Proof) where
  numbered_all : (k : ℕ) (ms : List Form) → ((j : ℕ) (a : Form) → slice_get ms j ≡ Some a → Proves t v h (f (k + j)) a) → ProveAll t v h (numbered f k (length ms)) ms
  numbered_all k [] each = tt
  numbered_all k (a ∷ ms) each =
      let same : k + 0 ≡ k = omega arith in
      (rw same at (each 0 a refl), numbered_all (k + 1) ms (λ j b e. let next : k + suc j ≡ k + 1 + j = omega arith in rw next at (each (suc j) b e)))

  pub numbered_each : (c : Form) (k : ℕ) (ms : List Form) → ((j : ℕ) (a : Form) → slice_get ms j ≡ Some a → Proves t v (a ∷ h) (f (k + j)) c) → ProveEach t v h (numbered f k (length ms)) ms c
  numbered_each c k [] each = tt
  numbered_each c k (a ∷ ms) each =
      let same : k + 0 ≡ k = omega arith in
      (rw same at (each 0 a refl), numbered_each c (k + 1) ms (λ j b e. let next : k + suc j ≡ k + 1 + j = omega arith in rw next at (each (suc j) b e)))

-- from number 0 on
module _ (t : Statements) (v : List ℕ) (h : List Form) (f : ℕ → Proof) where
  first_all : (ms : List Form) → ((j : ℕ) (a : Form) → slice_get ms j ≡ Some a → Proves t v h (f j) a) → ProveAll t v h (numbered f 0 (length ms)) ms
  first_all ms each = numbered_all t v h f 0 ms (λ j a e. let same : 0 + j ≡ j = omega arith in rw same (each j a e))

  first_each : (c : Form) (ms : List Form) → ((j : ℕ) (a : Form) → slice_get ms j ≡ Some a → Proves t v (a ∷ h) (f j) c) → ProveEach t v h (numbered f 0 (length ms)) ms c
  first_each c ms each = numbered_each t v h f c 0 ms (λ j a e. let same : 0 + j ≡ j = omega arith in rw same (each j a e))

-- one member of the node
pub spread_nested : (kind : Bool) (whole : List Form) (k : ℕ) (y : Form) (inner : List Form) → slice_get whole k ≡ Some y → y ≡ node kind inner
    → SpreadTo kind whole inner (numbered (spread_tree kind whole k inner) 0 (length inner))
spread_nested true whole k y inner e is = λ t v h s.
    let at : slice_get whole k ≡ Some (And inner) = rw is at e in
    let h1 = And whole ∷ h in
    first_all t v h1 (spread_tree true whole k inner) inner (λ j a f. by_and_e t v h1 j (AndE k (Hyp 0)) inner a f (by_and_e t v h1 k (Hyp 0) whole (And inner) at (first t v h (And whole) s)))
spread_nested false whole k y inner e is = λ t v h s.
    let at : slice_get whole k ≡ Some (Or inner) = rw is at e in
    let so = member_of (Sorted t.vocabulary v) whole k (Or inner) (sorted_of_or t.vocabulary v 2147483647 whole s) at in
    let each = sorted_of_or t.vocabulary v 2147483647 inner so in
    first_each t v h (spread_tree false whole k inner) (Or whole) inner (λ j a f.
    by_or_i t v (a ∷ h) whole k _ (Or inner) s at (by_or_i t v (a ∷ h) inner j (Hyp 0) a so f (first t v h a (member_of (Sorted t.vocabulary v) inner j a each f))))

pub spread_lone : (kind : Bool) (whole : List Form) (k : ℕ) (y : Form) → slice_get whole k ≡ Some y → SpreadTo kind whole (y ∷ []) (lone_tree kind whole k ∷ [])
spread_lone true whole k y e = λ t v h s. (by_and_e t v (And whole ∷ h) k (Hyp 0) whole y e (first t v h (And whole) s), tt)
spread_lone false whole k y e = λ t v h s.
    let sy = member_of (Sorted t.vocabulary v) whole k y (sorted_of_or t.vocabulary v 2147483647 whole s) e in
    (by_or_i t v (y ∷ h) whole k (Hyp 0) y s e (first t v h y sy), tt)

pub gather_nested : (kind : Bool) (flat : List Form) (k : ℕ) (y : Form) (inner : List Form) → Stands flat k inner → y ≡ node kind inner → GatherTo kind flat (y ∷ []) (gather_tree kind flat k (length inner) ∷ [])
gather_nested true flat k y inner at is = λ t v h s.
    let h1 = And flat ∷ h in
    let all = numbered_all t v h1 (lone_tree true flat) k inner (λ j a f. by_and_e t v h1 (k + j) (Hyp 0) flat a (at j a f) (first t v h (And flat) s)) in
    rw is (by_and_i t v h1 _ inner s.scope_fits all, tt)
gather_nested false flat k y inner at is = λ t v h s sy.
    let so : Sorted t.vocabulary v (Or inner) = rw is at sy.0 in
    let each = sorted_of_or t.vocabulary v 2147483647 flat s in
    let h1 = Or inner ∷ h in
    let all = numbered_each t v h1 (lone_tree false flat) (Or flat) k inner (λ j a f.
    by_or_i t v (a ∷ h1) flat (k + j) (Hyp 0) a s (at j a f) (first t v h1 a (member_of (Sorted t.vocabulary v) flat (k + j) a each (at j a f)))) in
    rw is (by_or_e t v h1 (Or flat) (Hyp 0) _ inner s (first t v h (Or inner) so) all, tt)

pub gather_lone : (kind : Bool) (flat : List Form) (k : ℕ) (y : Form) → slice_get flat k ≡ Some y → GatherTo kind flat (y ∷ []) (lone_tree kind flat k ∷ [])
gather_lone true flat k y e = λ t v h s. (by_and_e t v (And flat ∷ h) k (Hyp 0) flat y e (first t v h (And flat) s), tt)
gather_lone false flat k y e = λ t v h s sy. (by_or_i t v (y ∷ h) flat k (Hyp 0) y s e (first t v h y sy.0), tt)

-- proofs of two lists, one after the other
module _ (t : Statements) (v : List ℕ) (h : List Form) where
  all_append : (ps qs : List Proof) (as_ bs : List Form) → ProveAll t v h ps as_ → ProveAll t v h qs bs → ProveAll t v h (ps ++ qs) (as_ ++ bs)
  all_append [] qs [] bs all more = more
  all_append [] qs (a ∷ as_) bs all more = absurd all
  all_append (p ∷ ps) qs [] bs all more = absurd all
  all_append (p ∷ ps) qs (a ∷ as_) bs all more = (all.0, all_append ps qs as_ bs all.1 more)

  each_append : (c : Form) (ps qs : List Proof) (as_ bs : List Form) → ProveEach t v h ps as_ c → ProveEach t v h qs bs c → ProveEach t v h (ps ++ qs) (as_ ++ bs) c
  each_append c [] qs [] bs all more = more
  each_append c [] qs (a ∷ as_) bs all more = absurd all
  each_append c (p ∷ ps) qs [] bs all more = absurd all
  each_append c (p ∷ ps) qs (a ∷ as_) bs all more = (all.0, each_append c ps qs as_ bs all.1 more)

pub spread_append : (kind : Bool) (whole ms ns : List Form) (ps qs : List Proof) → SpreadTo kind whole ms ps → SpreadTo kind whole ns qs → SpreadTo kind whole (ms ++ ns) (ps ++ qs)
spread_append true whole ms ns ps qs l k = λ t v h s. all_append t v (And whole ∷ h) ps qs ms ns (l t v h s) (k t v h s)
spread_append false whole ms ns ps qs l k = λ t v h s. each_append t v h (Or whole) ps qs ms ns (l t v h s) (k t v h s)

before : (P : Form → Type 0) (as_ bs : List Form) → AllByRecursion P (as_ ++ bs) → AllByRecursion P as_
before P [] bs all = tt
before P (a ∷ as_) bs all = (all.0, before P as_ bs all.1)

behind : (P : Form → Type 0) (as_ bs : List Form) → AllByRecursion P (as_ ++ bs) → AllByRecursion P bs
behind P [] bs all = all
behind P (a ∷ as_) bs all = behind P as_ bs all.1

pub gather_append : (kind : Bool) (flat ms ns : List Form) (ps qs : List Proof) → GatherTo kind flat ms ps → GatherTo kind flat ns qs → GatherTo kind flat (ms ++ ns) (ps ++ qs)
gather_append true flat ms ns ps qs l k = λ t v h s. all_append t v (And flat ∷ h) ps qs ms ns (l t v h s) (k t v h s)
gather_append false flat ms ns ps qs l k = λ t v h s sy. each_append t v h (Or flat) ps qs ms ns (l t v h s (before (Sorted t.vocabulary v) ms ns sy)) (k t v h s (behind (Sorted t.vocabulary v) ms ns sy))

pub spread_nothing : (kind : Bool) (whole : List Form) → SpreadTo kind whole [] []
spread_nothing true whole = λ t v h s. tt
spread_nothing false whole = λ t v h s. tt

pub gather_nothing : (kind : Bool) (flat : List Form) → GatherTo kind flat [] []
gather_nothing true flat = λ t v h s. tt
gather_nothing false flat = λ t v h s sy. tt

-- the members of members are well-sorted
and_nodes : (t : Statements) (v : List ℕ) → IsScope t.vocabulary v → Memberwise (Sorted t.vocabulary v)
and_nodes t v sc = record { make = make; take = take_of } where
  make : (g : Bool) (as_ : List Form) → AllByRecursion (Sorted t.vocabulary v) as_ → Sorted t.vocabulary v (node g as_)
  make true as_ all = and_sorted t.vocabulary v 2147483647 sc as_ all
  make false as_ all = or_sorted t.vocabulary v 2147483647 sc as_ all

  take_of : (g : Bool) (as_ : List Form) → Sorted t.vocabulary v (node g as_) → AllByRecursion (Sorted t.vocabulary v) as_
  take_of true as_ s = sorted_of_and t.vocabulary v 2147483647 as_ s
  take_of false as_ s = sorted_of_or t.vocabulary v 2147483647 as_ s

flat_sorted : (kind : Bool) (whole : List Form) (t : Statements) (v : List ℕ) → Sorted t.vocabulary v (node kind whole) → Sorted t.vocabulary v (node kind (flat_map (members_of kind) whole))
flat_sorted kind whole t v s =
    let m = and_nodes t v s.scope_fits in
    m.make kind _ (of_all (Sorted t.vocabulary v) m kind whole (m.take kind whole s))

-- from the node to the node of all members of its members, or back
abbrev pub Flattens : Bool → Bool → List Form → List Proof → Type 0
Flattens true true whole ps = SpreadTo true whole (flat_map (members_of true) whole) ps
Flattens true false whole ps = GatherTo true (flat_map (members_of true) whole) whole ps
Flattens false true whole ps = GatherTo false (flat_map (members_of false) whole) whole ps
Flattens false false whole ps = SpreadTo false whole (flat_map (members_of false) whole) ps

pub flat_shows : (kind forth : Bool) (n : ℕ) (whole : List Form) (ps : List Proof) → Flattens kind forth whole ps
    → Between forth n (link_tree kind true forth whole (flat_map (members_of kind) whole) ps) (node kind whole) (node kind (flat_map (members_of kind) whole))
flat_shows true true n whole ps f t v h room s =
    let flat = flat_map (members_of true) whole in
    by_imp_i t v h (And whole) (And flat) _ s (by_and_i t v (And whole ∷ h) ps flat s.scope_fits (f t v h s))
flat_shows true false n whole ps f t v h room s =
    let flat = flat_map (members_of true) whole in
    let sf = flat_sorted true whole t v s in
    by_imp_i t v h (And flat) (And whole) _ sf (by_and_i t v (And flat ∷ h) ps whole s.scope_fits (f t v h sf))
flat_shows false true n whole ps f t v h room s =
    let flat = flat_map (members_of false) whole in
    let sf = flat_sorted false whole t v s in
    let h1 = Or whole ∷ h in
    by_imp_i t v h (Or whole) (Or flat) _ s (by_or_e t v h1 (Or flat) (Hyp 0) ps whole sf (first t v h (Or whole) s) (f t v h1 sf (sorted_of_or t.vocabulary v 2147483647 whole s)))
flat_shows false false n whole ps f t v h room s =
    let flat = flat_map (members_of false) whole in
    let sf = flat_sorted false whole t v s in
    let h1 = Or flat ∷ h in
    by_imp_i t v h (Or flat) (Or whole) _ sf (by_or_e t v h1 (Or whole) (Hyp 0) ps flat s (first t v h (Or flat) sf) (f t v h1 s))
