-- One of the literals, found by going through them.
use Rattle.std.specs.Prelude.{ℕ, ◌+◌, ◌<◌, ◌≤◌, ◌≡◌, ◌↔◌, Bool, true, false, IsTrue, List, Some, length, take}
use Rattle.std.specs.List.{All as Each}
use Rattle.std.proofs.Common.{inl, inr, sym, subst, get_or, ◌∙◌, ap}
use Rattle.std.proofs.lemmas.List.{take_all}
use Rattle.std.proofs.lemmas.List.Elements.{All-more}
use Rattle.std.proofs.lemmas.Option.{get_or_from_slice_get, slice_get-get_or, slice_get_within}
use Rattle.clause_form.specs.declared.clause.Lit.{Lit}
use Rattle.clause_form.specs.Covers.{HasOne, IsAbsurd, IsTrivial, AreComplementary, negated}

untrue : (b : Bool) (P : Type 0) → b ≡ false → (IsTrue b ↔ P) → P → ⊥
untrue b P e h p = let t : IsTrue b = h.1 p in cc

module _ (P : Lit → Type 0) (lits : List Lit) (i : ℕ) where
  pub one_found : (l : Lit) → i < length lits → l ≡ get_or lits i l → P l → IsTrue true ↔ HasOne P lits
  one_found l h is p = (λ e. (i, l, slice_get-get_or lits i l h ∙ ap Some (sym is), p), λ e. cc)

  pub none_more : (l : Lit) → i < length lits → l ≡ get_or lits i l → Each (λ k. P k → ⊥) (take i lits) → (b : Bool) → b ≡ false → (IsTrue b ↔ P l) → Each (λ k. P k → ⊥) (take (i + 1) lits)
  none_more l h is none b told test = All-more (λ k. P k → ⊥) lits i l h none (subst (λ k. P k → ⊥) is (untrue b (P l) told test))

  pub none_found : length lits ≤ i → Each (λ k. P k → ⊥) (take i lits) → IsTrue false ↔ HasOne P lits
  none_found h none =
      let each : Each (λ k. P k → ⊥) lits = subst (λ (ks : List Lit). Each (λ k. P k → ⊥) ks) (take_all i lits h) none in
      (λ e. cc, λ one. absurd (subst (λ k. P k → ⊥) (get_or_from_slice_get lits one.0 one.1 one.1 one.2) (each one.0 one.1 (slice_get_within lits one.0 one.1 one.2)) one.3))

abbrev TruthIn : List Lit → Type 0
TruthIn lits = HasOne (λ l. IsAbsurd (negated l)) lits

abbrev OppositesIn : List Lit → Type 0
OppositesIn lits = HasOne (λ k. HasOne (AreComplementary k) lits) lits

pub trivial_by : (lits lent : List Lit) (a b : Bool) → lent ≡ lits → a ≡ false → (IsTrue a ↔ TruthIn lent) → (IsTrue b ↔ OppositesIn lent) → IsTrue b ↔ IsTrivial lits
trivial_by lits lent a b is told truth opposites = (
  λ e. inr (subst OppositesIn is (opposites.0 e)),
  λ t. elim t [
    | inl h ↦ absurd (untrue a (TruthIn lent) told truth (subst TruthIn (sym is) h))
    | inr h ↦ opposites.1 (subst OppositesIn (sym is) h)
  ],
)
