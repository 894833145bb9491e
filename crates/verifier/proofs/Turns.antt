-- The order of a graph: each place is new, has a node, and comes behind its parents; and no place is left out.
use Rattle.std.proofs.Common.{◌≡◌, ℕ, zero, suc, ◌+◌, ◌==◌, ◌||◌, ◌&&◌, Bool, true, false, not, cond, List, [], ◌∷◌, ◌++◌, None, Some, slice_get, refl, sym, ◌∙◌, ap, arith}
use Rattle.std.specs.List.{list_all}
use Rattle.std.proofs.lemmas.Bool.Decides.{nat_tests}
use Rattle.tstp_graph.specs.declared.shape.Node.{Node}
use Rattle.tstp_graph.specs.Order.{is_taken, is_done, is_ready, first_ready, first_left}

-- a place has its turn behind those that are taken
pub record HasTurn (nodes : List Node) (taken : List ℕ) (place : ℕ) : Type 0 where
  pub node : Node
  pub there : slice_get nodes place ≡ Some node
  pub is_new : is_taken taken place ≡ false
  pub behind : list_all (is_done (is_taken taken)) node.parents ≡ true

record IsFound (taken : ℕ → Bool) (number : ℕ) (nodes : List Node) (place : ℕ) : Type 0 where
  at : ℕ
  node : Node
  is : place ≡ number + at
  there : slice_get nodes at ≡ Some node
  is_ready : is_ready taken place node ≡ true

first_found : (taken : ℕ → Bool) (number : ℕ) (nodes : List Node) (place : ℕ) → first_ready taken number nodes ≡ Some place → IsFound taken number nodes place
first_found taken number [] place first = absurd (cc)
first_found taken number (node ∷ nodes) place first = by (is_ready taken number node) refl (first_found taken (number + 1) nodes place) first
  where
    by : (b : Bool) → is_ready taken number node ≡ b → (first_ready taken (number + 1) nodes ≡ Some place → IsFound taken (number + 1) nodes place)
        → cond b (Some number) (first_ready taken (number + 1) nodes) ≡ Some place → IsFound taken number (node ∷ nodes) place
    by true ready rest first =
        let same : number ≡ place = cc in
        record { at = 0; node = node; is = omega (arith, same); there = refl; is_ready = ap (λ n. is_ready taken n node) (sym same) ∙ ready }
    by false ready rest first =
        let found = rest first in
        record { at = suc found.at; node = found.node; is = omega (arith, found.is); there = found.there; is_ready = found.is_ready }

pub both_true : (a b : Bool) → (a && b) ≡ true → (a ≡ true) × (b ≡ true)
both_true true true is = (refl, refl)
both_true true false is = absurd (cc)
both_true false b is = absurd (cc)

not_true : (b : Bool) → not b ≡ true → b ≡ false
not_true true is = absurd (cc)
not_true false is = refl

pub turn_of : (nodes : List Node) (taken : List ℕ) (place : ℕ) → first_ready (is_taken taken) 0 nodes ≡ Some place → HasTurn nodes taken place
turn_of nodes taken place first =
    let found = first_found (is_taken taken) 0 nodes place first in
    let same : found.at ≡ place = omega (arith, found.is) in
    let ready = both_true (not (is_taken taken place)) (list_all (is_done (is_taken taken)) found.node.parents) found.is_ready in
    record {
      node = found.node;
      there = ap (slice_get nodes) (sym same) ∙ found.there;
      is_new = not_true (is_taken taken place) ready.0;
      behind = ready.1;
    }

-- one more is taken
pub taken_more : (taken : List ℕ) (place k : ℕ) → is_taken (taken ++ place ∷ []) k ≡ true → (k ≡ place → ⊥) → is_taken taken k ≡ true
taken_more [] place k is apart = absurd (apart (grind (arith, nat_tests)))
taken_more (one ∷ taken) place k is apart = by (one == k) (λ more. taken_more taken place k more apart) is
  where
    by : (b : Bool) → (is_taken (taken ++ place ∷ []) k ≡ true → is_taken taken k ≡ true) → (b || is_taken (taken ++ place ∷ []) k) ≡ true → (b || is_taken taken k) ≡ true
    by true on is = refl
    by false on is = on is

pub taken_last : (taken : List ℕ) (place : ℕ) → is_taken (taken ++ place ∷ []) place ≡ true
taken_last [] place = grind (arith, nat_tests)
taken_last (one ∷ taken) place = by (one == place) (taken_last taken place)
  where
    by : (b : Bool) → is_taken (taken ++ place ∷ []) place ≡ true → (b || is_taken (taken ++ place ∷ []) place) ≡ true
    by true on = refl
    by false on = on

pub taken_still : (taken : List ℕ) (place k : ℕ) → is_taken taken k ≡ true → is_taken (taken ++ place ∷ []) k ≡ true
taken_still [] place k is = absurd (cc)
taken_still (one ∷ taken) place k is = by (one == k) (taken_still taken place k) is
  where
    by : (b : Bool) → (is_taken taken k ≡ true → is_taken (taken ++ place ∷ []) k ≡ true) → (b || is_taken taken k) ≡ true → (b || is_taken (taken ++ place ∷ []) k) ≡ true
    by true on is = refl
    by false on is = on is

-- what is taken and what is not are apart
pub taken_apart : (taken : List ℕ) (place k : ℕ) → is_taken taken place ≡ false → is_taken taken k ≡ true → k ≡ place → ⊥
taken_apart taken place k is_new is same = let e : true ≡ false = sym is ∙ ap (is_taken taken) same ∙ is_new in cc

-- where none is left, each place is taken
pub none_left : (taken : ℕ → Bool) (number : ℕ) (nodes : List Node) (k : ℕ) (node : Node) → first_left taken number nodes ≡ None → slice_get nodes k ≡ Some node → taken (number + k) ≡ true
none_left taken number [] k node none at = absurd (cc)
none_left taken number (first ∷ nodes) k node none at = by (taken number) refl k at (λ j rest there. none_left taken (number + 1) nodes j node rest there) none
  where
    by : (b : Bool) → taken number ≡ b → (k : ℕ) → slice_get (first ∷ nodes) k ≡ Some node → ((j : ℕ) → first_left taken (number + 1) nodes ≡ None → slice_get nodes j ≡ Some node → taken (number + 1 + j) ≡ true)
        → cond b (first_left taken (number + 1) nodes) (Some number) ≡ None → taken (number + k) ≡ true
    by false is k at on none = absurd (cc)
    by true is zero at on none = let same : number + 0 ≡ number = omega arith in ap taken same ∙ is
    by true is (suc k) at on none = let next : number + suc k ≡ number + 1 + k = omega arith in ap taken next ∙ on k none at
