-- The last clause from which another one is made.
use Rattle.std.specs.Prelude.{ℕ, ◌≡◌, ◌≢◌, ◌<◌, ◌⊎◌, List, [], ◌∷◌, ◌++◌, length, Some, slice_get, refl}
use Rattle.std.specs.List.{Contains}
use Rattle.std.proofs.Common.{ap, sym, subst, ◌∙◌, inl, inr}
use Rattle.std.proofs.lemmas.Option.{slice_get_within}
use Rattle.clause_form.specs.declared.clause.Lit.{Lit}
use Rattle.clause_learning.specs.Refutations.{HasSame, IsDerived, IsResolvent, Resolves}
use Rattle.clause_learning.proofs.Members.{some_same}
use Rattle.sat_step.specs.Decisions.{opposite}
use Rattle.chain_proofs.specs.Chains.{Derives}
use Rattle.chain_proofs.specs.declared.fact.Fact.{Fact}
use Rattle.chain_proofs.proofs.Literals.{is_same, opposite_twice}

-- r is made of what comes before by q
pub record IsLast (clauses : List (List Lit)) (left : List ℕ) (q r : List Lit) : Type 0 where
  pub before : List Lit
  pub pivot : Lit
  pub made : List Lit
  pub derived : IsDerived opposite clauses left before
  pub resolvent : IsResolvent opposite pivot before q made
  pub same : HasSame made r

resolves_last : (clauses : List (List Lit)) (p : List Lit) (from : List ℕ) (k : ℕ) (r : List Lit) → Resolves opposite clauses p (from ++ k ∷ []) r
    → (s : List Lit) × (q : List Lit) × (l : Lit) × (m : List Lit) × Resolves opposite clauses p from s × (slice_get clauses k ≡ Some q) × IsResolvent opposite l s q m × HasSame m r
resolves_last clauses p [] k r h = (p, h.1, h.0, h.2, (λ x. (λ e. e, λ e. e)), h.3, h.4, h.5)
resolves_last clauses p (j ∷ from) k r h =
    let rest = resolves_last clauses h.2 from k r h.5 in
    (rest.0, rest.1, rest.2, rest.3, (h.0, h.1, h.2, h.3, h.4, rest.4), rest.5, rest.6, rest.7)

chain_last : (clauses : List (List Lit)) (left : List ℕ) (k : ℕ) (r : List Lit) → IsDerived opposite clauses (left ++ k ∷ []) r → (q : List Lit) × (slice_get clauses k ≡ Some q) × (HasSame q r ⊎ IsLast clauses left q r)
chain_last clauses [] k r h = (h.0, h.1, inl h.2)
chain_last clauses (j ∷ from) k r h =
    let found = resolves_last clauses h.0 from k r h.2 in
    (found.1, found.5, inr (record { before = found.0; pivot = found.2; made = found.3; derived = (h.0, h.1, found.4); resolvent = found.6; same = found.7 }))

module _ (facts : List Fact) (left : List ℕ) (k : ℕ) (known : List Lit) (d : Derives facts (left ++ k ∷ []) known) where
  last : (q : List Lit) × (slice_get d.clauses k ≡ Some q) × (HasSame q d.derived ⊎ IsLast d.clauses left q d.derived)
  last = chain_last d.clauses left k d.derived d.chain

  pub within_facts : k < length facts
  within_facts = let own = d.stated k last.0 last.1 in slice_get_within facts k own.0 own.1

  module _ (f : Fact) (at : slice_get facts k ≡ Some f) where
    own_lits : (x : Lit) → Contains f.lits x → Contains last.0 x
    own_lits x there =
        let own = d.stated k last.0 last.1 in
        (own.2 x).0 (subst (λ (g : Fact). Contains g.lits x) (some_same (sym at ∙ own.1)) there)

    module _ (y : Lit) (there : Contains f.lits y) (off : Contains known y → ⊥) where
      by_last : IsLast d.clauses left last.0 d.derived
      by_last = elim last.2 [ inl same ↦ absurd (off (d.within y ((same y).1 (own_lits y there)))) | inr step ↦ step ]

      not_known : (x : Lit) → Contains f.lits x → (Contains known x → ⊥) → x ≡ opposite by_last.pivot
      not_known x own unknown =
          elim (is_same x (opposite by_last.pivot)) [
            | inl e ↦ e
            | inr apart ↦ absurd (unknown (d.within x ((by_last.same x).1 ((by_last.resolvent.literals x).1 (inr (own_lits x own, apart))))))
          ]

      -- the one literal that is not known
      pub only : (x : Lit) → Contains f.lits x → (Contains known x → ⊥) → x ≡ y
      only x own unknown = not_known x own unknown ∙ sym (not_known y there off)

      pivot_is : by_last.pivot ≡ opposite y
      pivot_is = sym (opposite_twice by_last.pivot) ∙ ap opposite (sym (not_known y there off))

      -- what comes before, where its opposite is known too
      pub goes_on : (more : List Lit) → ((x : Lit) → Contains known x → Contains more x) → Contains more (opposite y) → Derives facts left more
      goes_on more kept new = record { clauses = d.clauses; derived = by_last.before; stated = d.stated; chain = by_last.derived; within = each } where
        each : (x : Lit) → Contains by_last.before x → Contains more x
        each x own =
            elim (is_same x by_last.pivot) [
              | inl e ↦ subst (Contains more) (sym (e ∙ pivot_is)) new
              | inr apart ↦ kept x (d.within x ((by_last.same x).1 ((by_last.resolvent.literals x).1 (inl (own, apart)))))
            ]
