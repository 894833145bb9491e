-- What follows by resolution is true wherever all that it is made from is.
use Rattle.std.proofs.Common.{◌≡◌, ℕ, List, [], ◌∷◌, ◌++◌, Contains, sym, subst, inl, inr}
use Rattle.std.proofs.lemmas.List.Elements.{Contains-push, Contains-push_cases}
use Rattle.clause_learning.specs.Refutations.{IsResolvent, Resolves, IsDerived, Entry, IsLog, IsRefutation}
use Rattle.clause_learning.proofs.Members.{nothing_in, in_cons, got_in}

module _ {X : Type 0} (opposite : X → X) (Holds : X → Type 0) (clash : (x : X) → Holds x → Holds (opposite x) → ⊥) where
  -- a clause with a true literal
  abbrev pub HasTrue : List X → Type 0
  HasTrue c = (x : X) × Contains c x × Holds x

  -- not so that none is true
  abbrev pub HasSome : List X → Type 0
  HasSome c = (HasTrue c → ⊥) → ⊥

  resolvent_true : (l : X) (p q r : List X) → IsResolvent opposite l p q r → HasTrue p → HasTrue q → HasSome r
  resolvent_true l p q r h tp tq never =
      let not_first : (tp.0 ≡ l → ⊥) → ⊥ = λ apart. never (tp.0, (h.literals tp.0).1 (inl (tp.1, apart)), tp.2) in
      let not_second : (tq.0 ≡ opposite l → ⊥) → ⊥ = λ apart. never (tq.0, (h.literals tq.0).1 (inr (tq.1, apart)), tq.2) in
      not_first (λ e. not_second (λ d. clash l (subst Holds e tp.2) (subst Holds d tq.2)))

  resolves_true : (clauses : List (List X)) → ((c : List X) → Contains clauses c → HasSome c) → (p : List X) (from : List ℕ) (r : List X) → HasTrue p → Resolves opposite clauses p from r → HasSome r
  resolves_true clauses all p [] r tp same never = never (tp.0, (same tp.0).1 tp.1, tp.2)
  resolves_true clauses all p (k ∷ from) r tp h never =
      all h.1 (got_in clauses k h.1 h.3) (λ tq. resolvent_true h.0 p h.1 h.2 h.4 tp tq (λ ts. resolves_true clauses all h.2 from r ts h.5 never))

  derived_true : (clauses : List (List X)) → ((c : List X) → Contains clauses c → HasSome c) → (from : List ℕ) (r : List X) → IsDerived opposite clauses from r → HasSome r
  derived_true clauses all [] r h never = h
  derived_true clauses all (k ∷ from) r h never = all h.0 (got_in clauses k h.0 h.1) (λ tp. resolves_true clauses all h.0 from r tp h.2 never)

  log_true : (clauses : List (List X)) → ((c : List X) → Contains clauses c → HasSome c) → (log : List (Entry X)) → IsLog opposite clauses log → (e : Entry X) → Contains log e → HasSome e.lits
  log_true clauses all [] h e there = absurd (nothing_in e there)
  log_true clauses all (d ∷ log) h e there =
      let first : HasSome d.lits = derived_true clauses all d.from d.lits h.0 in
      let more : (c : List X) → Contains (clauses ++ d.lits ∷ []) c → HasSome c = λ c on.
      elim (Contains-push_cases clauses d.lits c on) [ inl old ↦ all c old | inr same ↦ subst HasSome same first ] in
      elim (in_cons d log e there) [ inl same ↦ subst (λ (f : Entry X). HasSome f.lits) same first | inr rest ↦ log_true (clauses ++ d.lits ∷ []) more log h.1 e rest ]

  -- clauses that are refuted are not all true
  pub refuted_not_true : (clauses : List (List X)) (log : List (Entry X)) → IsRefutation opposite clauses log → ((c : List X) → Contains clauses c → HasTrue c) → ⊥
  refuted_not_true clauses log h all =
      let last : Entry X = record { from = h.from; lits = [] } in
      let there : Contains log last = subst (λ (es : List (Entry X)). Contains es last) (sym h.last) (Contains-push h.before last) in
      log_true clauses (λ c on never. never (all c on)) log h.steps last there (λ t. nothing_in t.0 t.1)
