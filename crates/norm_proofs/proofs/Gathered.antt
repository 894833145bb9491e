-- Proofs for the members of members, as far as a loop has come.
use Rattle.std.specs.Prelude.{ℕ, Bool, true, false, ◌≡◌, ◌+◌, ◌≤◌, length, take, flat_map, List, [], ◌∷◌, ◌++◌, Some, slice_get, refl}
use Rattle.std.proofs.Common.{arith, sym, subst}
use Rattle.std.proofs.lemmas.List.{length-append}
use Rattle.fof_terms.specs.declared.form.Form.{Form}
use Rattle.clause_form.specs.Norm.{node, members_of, join, joined_flat}
use Rattle.kernel.specs.declared.proof.Proof.{Proof}
use Rattle.norm_proofs.specs.code.Steps.{Between, then_tree}
use Rattle.norm_proofs.proofs.StepsFacts.{then_shows}
use Rattle.norm_proofs.specs.code.Links.{kind_of, link_tree}
use Rattle.norm_proofs.proofs.Places.{take_more, flat_more, stands_behind, few_behind}
use Rattle.norm_proofs.specs.code.Joining.{numbered, spread_tree, lone_tree, gather_tree, Stands, SpreadTo, GatherTo}
use Rattle.norm_proofs.proofs.JoiningFacts.{numbered_more, spread_nested, spread_lone, gather_nested, gather_lone, spread_append, gather_append, flat_shows}

-- one more
pub numbered_next : (f : ℕ → Proof) (n : ℕ) (ps : List Proof) (p : Proof) → ps ≡ numbered f 0 n → p ≡ f n → ps ++ p ∷ [] ≡ numbered f 0 (n + 1)
numbered_next f n ps p e is = let same : 0 + n ≡ n = omega arith in let more = numbered_more f 0 n in rw (e, is, more, same) refl

pub numbered_after : (f : ℕ → Proof) (k n : ℕ) (ps : List Proof) (p : Proof) → ps ≡ numbered f k n → p ≡ f (k + n) → ps ++ p ∷ [] ≡ numbered f k (n + 1)
numbered_after f k n ps p e is = let more = numbered_more f k n in rw (e, is, more) refl

module _ (kind : Bool) (whole : List Form) (k : ℕ) (y : Form) where
  pub spread_some : (inner : List Form) (made : List Proof) → made ≡ numbered (spread_tree kind whole k inner) 0 (length inner) → y ≡ node kind inner → members_of kind y ≡ inner → slice_get whole k ≡ Some y
      → SpreadTo kind whole (members_of kind y) made
  spread_some inner made e is m at = subst (λ ms. SpreadTo kind whole ms made) (sym m) (subst (λ ps. SpreadTo kind whole inner ps) (sym e) (spread_nested kind whole k y inner at is))

  pub spread_none : (made : List Proof) → made ≡ lone_tree kind whole k ∷ [] → members_of kind y ≡ y ∷ [] → slice_get whole k ≡ Some y → SpreadTo kind whole (members_of kind y) made
  spread_none made e m at = subst (λ ms. SpreadTo kind whole ms made) (sym m) (subst (λ ps. SpreadTo kind whole (y ∷ []) ps) (sym e) (spread_lone kind whole k y at))

  pub spread_next : (ps qs : List Proof) → slice_get whole k ≡ Some y → SpreadTo kind whole (flat_map (members_of kind) (take k whole)) ps → SpreadTo kind whole (members_of kind y) qs
      → SpreadTo kind whole (flat_map (members_of kind) (take (k + 1) whole)) (ps ++ qs)
  spread_next ps qs at l more =
      subst (λ ms. SpreadTo kind whole ms (ps ++ qs)) (sym (flat_more (members_of kind) whole k y at)) (spread_append kind whole (flat_map (members_of kind) (take k whole)) (members_of kind y) ps qs l more)

  pub few_there : slice_get whole k ≡ Some y → length (members_of kind y) ≤ length (flat_map (members_of kind) whole)
  few_there at = let few = few_behind (members_of kind) whole k y at in omega arith

module _ (kind : Bool) (flat : List Form) (k : ℕ) (y : Form) where
  pub gather_some : (inner : List Form) (made : Proof) → made ≡ gather_tree kind flat k (length inner) → y ≡ node kind inner → members_of kind y ≡ inner → Stands flat k (members_of kind y)
      → GatherTo kind flat (y ∷ []) (made ∷ [])
  gather_some inner made e is m stands =
      let stands' : Stands flat k inner = subst (λ ms. Stands flat k ms) m stands in
      subst (λ p. GatherTo kind flat (y ∷ []) (p ∷ [])) (sym e) (gather_nested kind flat k y inner stands' is)

  pub gather_none : (made : Proof) → made ≡ lone_tree kind flat k → members_of kind y ≡ y ∷ [] → Stands flat k (members_of kind y) → GatherTo kind flat (y ∷ []) (made ∷ [])
  gather_none made e m stands =
      let stands' : Stands flat k (y ∷ []) = subst (λ ms. Stands flat k ms) m stands in
      let same : k + 0 ≡ k = omega arith in
      let at : slice_get flat k ≡ Some y = rw same at (stands' 0 y refl) in
      subst (λ p. GatherTo kind flat (y ∷ []) (p ∷ [])) (sym e) (gather_lone kind flat k y at)

module _ (kind : Bool) (whole flat : List Form) (k start : ℕ) (y : Form) (at : slice_get whole k ≡ Some y) (joined : flat ≡ flat_map (members_of kind) whole) (begins : start ≡ length (flat_map (members_of kind) (take k whole))) where
  stands : Stands flat start (members_of kind y)
  stands j a e = rw (joined, begins) (stands_behind (members_of kind) whole k y at j a e)

  pub gather_next : (ps : List Proof) (p : Proof) → GatherTo kind flat (take k whole) ps → (Stands flat start (members_of kind y) → GatherTo kind flat (y ∷ []) (p ∷ [])) → GatherTo kind flat (take (k + 1) whole) (ps ++ p ∷ [])
  gather_next ps p l f = subst (λ ms. GatherTo kind flat ms (ps ++ p ∷ [])) (sym (take_more whole k y at)) (gather_append kind flat (take k whole) (y ∷ []) ps (p ∷ []) l (f stands))

  pub start_next : (count after : ℕ) → count ≡ length (members_of kind y) → after ≡ start + count → after ≡ length (flat_map (members_of kind) (take (k + 1) whole))
  start_next count after e f =
      let more = flat_more (members_of kind) whole k y at in
      let sum = length-append (flat_map (members_of kind) (take k whole)) (members_of kind y) in
      rw (more, sum) (omega arith)

  pub start_room : start + length (members_of kind y) ≤ length flat
  start_room = let few = few_behind (members_of kind) whole k y at in rw (joined, begins) few

-- the whole
pub flat_spread : (kind forth : Bool) (n : ℕ) (whole flat : List Form) (ps : List Proof) (made : Proof) → kind_of kind forth ≡ true → flat ≡ flat_map (members_of kind) whole → made ≡ link_tree kind true forth whole flat ps
    → SpreadTo kind whole (flat_map (members_of kind) whole) ps → Between forth n made (node kind whole) (node kind flat)
flat_spread true true n whole flat ps made k e is l = rw (is, e) (flat_shows true true n whole ps l)
flat_spread true false n whole flat ps made k e is l = absurd (let never : false ≡ true = k in cc)
flat_spread false true n whole flat ps made k e is l = absurd (let never : false ≡ true = k in cc)
flat_spread false false n whole flat ps made k e is l = rw (is, e) (flat_shows false false n whole ps l)

pub flat_gather : (kind forth : Bool) (n : ℕ) (whole flat : List Form) (ps : List Proof) (made : Proof) → kind_of kind forth ≡ false → flat ≡ flat_map (members_of kind) whole → made ≡ link_tree kind true forth whole flat ps
    → GatherTo kind flat whole ps → Between forth n made (node kind whole) (node kind flat)
flat_gather true true n whole flat ps made k e is l = absurd (let never : true ≡ false = k in cc)
flat_gather true false n whole flat ps made k e is l = let l' : GatherTo true (flat_map (members_of true) whole) whole ps = rw e at l in rw (is, e) (flat_shows true false n whole ps l')
flat_gather false true n whole flat ps made k e is l = let l' : GatherTo false (flat_map (members_of false) whole) whole ps = rw e at l in rw (is, e) (flat_shows false true n whole ps l')
flat_gather false false n whole flat ps made k e is l = absurd (let never : true ≡ false = k in cc)

-- the joined node
pub join_settled : (kind forth : Bool) (n : ℕ) (whole flat : List Form) (made : Proof) → flat ≡ flat_map (members_of kind) whole → whole ≡ flat → Between forth n made (node kind flat) (joined_flat kind flat)
    → Between forth n made (node kind whole) (join kind whole)
join_settled kind forth n whole flat made e same l =
    subst (λ ms. Between forth n made (node kind whole) (joined_flat kind ms)) e (subst (λ ms. Between forth n made (node kind ms) (joined_flat kind flat)) (sym same) l)

pub join_both : (kind forth : Bool) (n : ℕ) (whole flat : List Form) (made before last : Proof) (joined : Form) → made ≡ then_tree forth (node kind whole) joined before last → joined ≡ joined_flat kind flat
    → flat ≡ flat_map (members_of kind) whole → Between forth n before (node kind whole) (node kind flat) → Between forth n last (node kind flat) (joined_flat kind flat) → Between forth n made (node kind whole) (join kind whole)
join_both kind forth n whole flat made before last joined is j e l k =
    let both : Between forth n made (node kind whole) (joined_flat kind flat) = rw (is, j) (then_shows forth n before last (node kind whole) (node kind flat) (joined_flat kind flat) l k) in
    subst (λ ms. Between forth n made (node kind whole) (joined_flat kind ms)) e both
