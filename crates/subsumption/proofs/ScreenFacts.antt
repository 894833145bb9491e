-- Lemmas on cheap tests.
use Rattle.std.proofs.Common.{ℕ, ◌≡◌, ◌+◌, ◌<◌, ◌≤◌, List, [], ◌∷◌, length, Some, refl, sym, ap, subst, ◌∙◌, zero, suc, inl, inr, arith}
use Rattle.std.specs.Prelude.{slice_get, nat_lt, if◌then◌else◌}
use Rattle.std.proofs.lemmas.Bool.{lt-ltb, le-ltb}
use Rattle.std.proofs.lemmas.Option.{slice_get_within}
use Rattle.fof_terms.specs.declared.term.Term.{Term}
use Rattle.fof_terms.specs.Vocabulary.{Vocabulary}
use Rattle.fof_terms.proofs.LiftingLaws.{below_or_above}
use Rattle.clause_form.specs.declared.clause.Lit.{Lit}
use Rattle.clause_form.specs.declared.clause.Clause.{Clause}
use Rattle.clause_form.specs.Images.{image}
use Rattle.clause_form.specs.Covers.{lit_image, at_terms, IsSame, IsSameAtom}
use Rattle.subsumption.specs.Subsumes.{StandsAt, Subsumes}
use Rattle.subsumption.specs.code.Screens.{NeverSame, StandsNowhere, SomeNowhere}

pub same_sign : (s : ℕ → Term) (k l : Lit) → IsSame (lit_image s k) l → k.positive ≡ l.positive
same_sign s k l (inl e) = ap (λ (x : Lit). x.positive) e
same_sign s k l (inr e) = ap (λ (x : Lit). x.positive) e

pub same_atom : (s : ℕ → Term) (k l : Lit) → IsSame (lit_image s k) l → IsSameAtom (at_terms (image s) k.atom) l.atom
same_atom s k l (inl e) = inl (ap (λ (x : Lit). x.atom) e)
same_atom s k l (inr e) = inr (ap (λ (x : Lit). x.atom) e)

-- none of the first so many will do
pub record NotBefore (targets : List Lit) (k : Lit) (i : ℕ) : Type 0 where
  pub none : (s : ℕ → Term) (place : ℕ) → place < i → StandsAt targets place (lit_image s k) → ⊥

pub none_first : (targets : List Lit) (k : Lit) → NotBefore targets k 0
none_first targets k = record { none = λ s place lt h. absurd (omega arith) }

pub none_more : (targets : List Lit) (k l : Lit) (i : ℕ) → slice_get targets i ≡ Some l → NeverSame k l → NotBefore targets k i → NotBefore targets k (i + 1)
none_more targets k l i there never h = record {
  none = λ s place lt stands. elim (below_or_above place i) [
    | inl below ↦ h.none s place below stands
    | inr above ↦
        let is : place ≡ i = omega arith in
        let here : slice_get targets i ≡ Some stands.0 = subst (λ n. slice_get targets n ≡ Some stands.0) is stands.1 in
        let same : stands.0 ≡ l = cc in
        never s (subst (IsSame (lit_image s k)) same stands.2)
  ];
}

pub stands_nowhere : (targets : List Lit) (k : Lit) (i : ℕ) → length targets ≤ i → NotBefore targets k i → StandsNowhere targets k
stands_nowhere targets k i past h = λ s place stands. h.none s place (let lt = slice_get_within targets place stands.0 stands.1 in omega arith) stands

-- more literals than places
other_place : (ℕ → ℕ) → ℕ → ℕ → ℕ → ℕ
other_place f n last i = if nat_lt (f i) n then f i else last

kept_place : (f : ℕ → ℕ) (n last i : ℕ) → f i < n → other_place f n last i ≡ f i
unfolding other_place
kept_place f n last i h = rw (lt-ltb (f i) n h) refl

moved_place : (f : ℕ → ℕ) (n last i : ℕ) → n ≤ f i → other_place f n last i ≡ last
unfolding other_place
moved_place f n last i h = rw (le-ltb (f i) n h) refl

pub no_room : (n m : ℕ) (f : ℕ → ℕ) → ((i : ℕ) → i < m → f i < n) → ((i j : ℕ) → i < m → j < m → f i ≡ f j → i ≡ j) → m ≤ n
no_room n zero f below apart = omega arith
no_room zero (suc m) f below apart = absurd (let lt = below 0 (omega arith) in omega arith)
no_room (suc n) (suc m) f below apart =
    let last : ℕ = f m in
    let rest = no_room n m (other_place f n last)
    (λ i lt. elim (below_or_above (f i) n) [
      | inl small ↦ let is = kept_place f n last i small in omega arith
      | inr big ↦
          let is = moved_place f n last i big in
          let high = below i (omega arith) in
          let top = below m (omega arith) in
          elim (below_or_above last n) [
            | inl fine ↦ omega arith
            | inr wrong ↦
                let both : f i ≡ f m = omega arith in
                let same = apart i m (omega arith) (omega arith) both in
                absurd (omega arith)
          ]
    ])
    (λ i j lt lt' same. elim (below_or_above (f i) n) [
      | inl small ↦
          elim (below_or_above (f j) n) [
            | inl low ↦ apart i j (omega arith) (omega arith) (sym (kept_place f n last i small) ∙ same ∙ kept_place f n last j low)
            | inr big ↦
                let at = apart i m (omega arith) (omega arith) (sym (kept_place f n last i small) ∙ same ∙ moved_place f n last j big) in
                absurd (omega arith)
          ]
      | inr big ↦
          elim (below_or_above (f j) n) [
            | inl low ↦
                let at = apart j m (omega arith) (omega arith) (sym (kept_place f n last j low) ∙ sym same ∙ moved_place f n last i big) in
                absurd (omega arith)
            | inr high ↦
                let one = below i (omega arith) in
                let two = below j (omega arith) in
                apart i j (omega arith) (omega arith) (omega arith)
          ]
    ]) in
    omega arith

there_is : (lits : List Lit) (i : ℕ) → i < length lits → (k : Lit) × (slice_get lits i ≡ Some k)
there_is [] i h = absurd (omega arith)
there_is (k ∷ lits) zero h = (k, refl)
there_is (k ∷ lits) (suc i) h = there_is lits i (omega arith)

pub not_longer : (v : Vocabulary) (m c : Clause) → Subsumes v m c → length m.lits ≤ length c.lits
not_longer v m c h =
    no_room (length c.lits) (length m.lits) h.2
    (λ i lt. let k = there_is m.lits i lt in let stands = h.3.stands i k.0 k.1 in slice_get_within c.lits (h.2 i) stands.0 stands.1)
    h.3.apart

pub never_subsumes : (v : Vocabulary) (m c : Clause) → SomeNowhere c.lits m.lits → Subsumes v m c → ⊥
never_subsumes v m c some h = some.3 h.1 (h.2 some.0) (h.3.stands some.0 some.1 some.2)
