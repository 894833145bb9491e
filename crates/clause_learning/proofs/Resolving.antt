-- How derivations grow.
use Rattle.std.proofs.Common.{◌≡◌, ℕ, List, [], ◌∷◌, ◌++◌, map, Some, slice_get, sym, subst, inl, inr, append_assoc, append-nil}
use Rattle.clause_learning.specs.declared.literal.Literal.{Literal}
use Rattle.clause_learning.specs.declared.clauses.Learned.{Learned}
use Rattle.clause_learning.specs.Literals.{complement}
use Rattle.clause_learning.specs.Refutations.{HasSame, IsResolvent, Resolves, IsDerived, IsLog}
use Rattle.clause_learning.specs.Valuations.{entry_of}

module _ {X : Type 0} (opposite : X → X) (clauses : List (List X)) where
  pub same_itself : (p : List X) → HasSame p p
  same_itself p = λ x. (λ h. h, λ h. h)

  pub same_then : (p q r : List X) → HasSame p q → HasSame q r → HasSame p r
  same_then p q r f g = λ x. (λ h. (f x).0 ((g x).0 h), λ h. (g x).1 ((f x).1 h))

  resolves_same : (p : List X) (from : List ℕ) (r s : List X) → Resolves opposite clauses p from r → HasSame r s → Resolves opposite clauses p from s
  resolves_same p [] r s h e = same_then p r s h e
  resolves_same p (k ∷ from) r s h e = (h.0, h.1, h.2, h.3, h.4, resolves_same h.2 from r s h.5 e)

  pub derived_same : (from : List ℕ) (r s : List X) → IsDerived opposite clauses from r → HasSame r s → IsDerived opposite clauses from s
  derived_same [] r s h e = absurd h
  derived_same (k ∷ from) r s h e = (h.0, h.1, resolves_same h.0 from r s h.2 e)

  resolvent_of_same : (l : X) (p r q s : List X) → HasSame p r → IsResolvent opposite l r q s → IsResolvent opposite l p q s
  resolvent_of_same l p r q s e h = record {
    first = (e l).0 h.first;
    second = h.second;
    alone = λ x there other. h.alone x ((e x).1 there) other;
    literals = λ x. (
      λ there. elim ((h.literals x).0 there) [ inl a ↦ inl ((e x).0 a.0, a.1) | inr b ↦ inr b ],
      λ either. (h.literals x).1 (elim either [ inl a ↦ inl ((e x).1 a.0, a.1) | inr b ↦ inr b ]),
    );
  }

  resolves_more : (p : List X) (from : List ℕ) (r : List X) (k : ℕ) (q : List X) (l : X) (s : List X) → Resolves opposite clauses p from r → slice_get clauses k ≡ Some q → IsResolvent opposite l r q s
      → Resolves opposite clauses p (from ++ k ∷ []) s
  resolves_more p [] r k q l s h at step = (l, q, s, at, resolvent_of_same l p r q s h step, same_itself s)
  resolves_more p (n ∷ from) r k q l s h at step = (h.0, h.1, h.2, h.3, h.4, resolves_more h.2 from r k q l s h.5 at step)

  -- one resolution more
  pub derived_more : (from : List ℕ) (r : List X) (k : ℕ) (q : List X) (l : X) (s : List X) → IsDerived opposite clauses from r → slice_get clauses k ≡ Some q → IsResolvent opposite l r q s
      → IsDerived opposite clauses (from ++ k ∷ []) s
  derived_more [] r k q l s h at step = absurd h
  derived_more (n ∷ from) r k q l s h at step = (h.0, h.1, resolves_more h.0 from r k q l s h.2 at step)

  -- a clause itself
  pub derived_one : (from : List ℕ) (k : ℕ) (p : List X) → from ≡ [] → slice_get clauses k ≡ Some p → IsDerived opposite clauses (from ++ k ∷ []) p
  derived_one from k p e at = let P : List ℕ → Type 0 = λ f. IsDerived opposite clauses (f ++ k ∷ []) p in subst P (sym e) (p, at, same_itself p)

-- one clause more in a log
pub log_more : (clauses : List (List Literal)) (log : List Learned) (l : Learned) → IsLog complement clauses (map entry_of log) → IsDerived complement (clauses ++ map (λ l. l.lits) log) l.from l.lits
    → IsLog complement clauses (map entry_of (log ++ l ∷ []))
log_more clauses [] l h d = let P : List (List Literal) → Type 0 = λ cs. IsDerived complement cs l.from l.lits in (subst P (append-nil clauses) d, tt)
log_more clauses (e ∷ log) l h d =
    let P : List (List Literal) → Type 0 = λ cs. IsDerived complement cs l.from l.lits in
    (h.0, log_more (clauses ++ e.lits ∷ []) log l h.1 (subst P (sym (append_assoc clauses (e.lits ∷ []) (map (λ l. l.lits) log))) d))
