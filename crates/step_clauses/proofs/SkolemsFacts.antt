-- Lemmas on what specs/Skolems defines, as code meets it.
use Rattle.std.specs.Prelude.{ℕ, ◌≡◌, ◌+◌, ◌-◌, ◌<◌, List, [], ◌∷◌, ◌++◌, length, take, get_or}
use Rattle.std.proofs.Common.{ap, sym, ◌∙◌, arith, zero, suc}
use Rattle.std.proofs.lemmas.List.{append-nil, length-take-le, take_more}
use Rattle.fof_terms.specs.declared.signature.Symbol.{Symbol}
use Rattle.step_clauses.specs.declared.existentials.Existential.{Existential}
use Rattle.step_clauses.specs.declared.skolems.Skolem.{Skolem}
use Rattle.step_clauses.specs.Skolems.{skolem_symbol, skolems_from, nearest}
use Rattle.step_clauses.proofs.WaysFacts.{one_further}

abbrev pub as_skolem : Symbol → ℕ → Skolem
as_skolem symbol k = record { symbol = symbol; id = k }

abbrev pub skolem : ℕ → Existential → Skolem
skolem k e = record { symbol = skolem_symbol k e; id = k }

pub skolems_joined : (xs ys : List Existential) (k m : ℕ) → m ≡ k + length xs → skolems_from k (xs ++ ys) ≡ skolems_from k xs ++ skolems_from m ys
skolems_joined [] ys k m e = let same : k ≡ m = omega arith in ap (λ (n : ℕ). skolems_from n ys) same
skolems_joined (x ∷ xs) ys k m e = ap (λ (l : List Skolem). skolem k x ∷ l) (skolems_joined xs ys (k + 1) m (omega arith))

-- one function more
pub skolems_more : (k : ℕ) (es : List Existential) (i id : ℕ) (e : Existential) (old new : List Skolem) → i < length es → e ≡ get_or es i e → id ≡ k + i → old ≡ skolems_from k (take i es) → new ≡ old ++ skolem id e ∷ [] → new ≡ skolems_from k (take (i + 1) es)
skolems_more k es i id e old new lt is ei eo en =
    let more : take (i + 1) es ≡ take i es ++ e ∷ [] = take_more es i e lt ∙ ap (λ (x : Existential). take i es ++ x ∷ []) (sym is) in
    let count : length (take i es) ≡ i = length-take-le i es (omega arith) in
    let number : id ≡ k + length (take i es) = omega arith in
    en ∙ ap (λ (l : List Skolem). l ++ skolem id e ∷ []) eo ∙ sym (skolems_joined (take i es) (e ∷ []) k id number) ∙ ap (skolems_from k) (sym more)

-- the nearest variables, counted down
pub nearest_down : (left : ℕ) (made new whole : List ℕ) → whole ≡ made ++ nearest left → 0 < left → new ≡ made ++ (left - 1) ∷ [] → whole ≡ new ++ nearest (left - 1)
nearest_down zero made new whole e some en = absurd (omega arith)
nearest_down (suc k) made new whole e some en =
    let down : suc k - 1 ≡ k = omega arith in
    let last : new ≡ made ++ k ∷ [] = en ∙ ap (λ (m : ℕ). made ++ m ∷ []) down in
    e ∙ sym (one_further made k (nearest k)) ∙ ap (λ (l : List ℕ). l ++ nearest k) (sym last) ∙ ap (λ (m : ℕ). new ++ nearest m) (sym down)

pub nearest_done : (left : ℕ) (made whole : List ℕ) → whole ≡ made ++ nearest left → left ≡ 0 → made ≡ whole
nearest_done left made whole e none = sym (e ∙ ap (λ (m : ℕ). made ++ nearest m) none ∙ append-nil made)
