-- Literals that are gone through one by one, each kept once.
use Rattle.std.specs.Prelude.{ℕ, ◌≡◌, ◌+◌, ◌<◌, ◌≤◌, List, [], ◌∷◌, ◌++◌, length, Some, slice_get, get_or, take}
use Rattle.std.proofs.Common.{ap, sym, subst, ◌∙◌, arith, inl, inr}
use Rattle.std.proofs.lemmas.List.{take_more}
use Rattle.std.proofs.lemmas.Option.{slice_get-get_or}
use Rattle.clause_form.specs.declared.clause.Lit.{Lit}
use Rattle.inference_proofs.proofs.Kept.{has_before, has_behind, has_split}
use Rattle.saturation.proofs.Lists.{got_pushed}
use Rattle.search_proofs.specs.code.Repeats.{AddsOnce, AreOnce, Stands}
use Rattle.search_proofs.proofs.Contradicted.{whole_front}

pub lit_there : (lits : List Lit) (i : ℕ) (r : Lit) → i < length lits → r ≡ get_or lits i r → slice_get lits i ≡ Some r
lit_there lits i r lt is = slice_get-get_or lits i r lt ∙ ap Some (sym is)

pub other_lit : (lits : List Lit) (i : ℕ) (r l : Lit) → i < length lits → r ≡ get_or lits i r → (r ≡ l → ⊥) → slice_get lits i ≡ Some l → ⊥
other_lit lits i r l lt is unlike at = let both : Some r ≡ Some l = sym (lit_there lits i r lt is) ∙ at in unlike (let same : r ≡ l = cc in same)

pub no_literals : (made : List Lit) → made ≡ [] → AreOnce [] made
no_literals made is = subst (AreOnce []) (sym is) (record {
  all = λ l s. s;
  none = λ l s. s;
  once = λ m n l f g. let no : slice_get [] m ≡ Some l = f in cc;
})

-- one literal more
module _ (xs old new : List Lit) (l : Lit) (o : AreOnce xs old) where
  stood : Stands old l → new ≡ old → AreOnce (xs ++ l ∷ []) new
  stood there is = subst (AreOnce (xs ++ l ∷ [])) (sym is) (record {
    all = λ k s. elim (has_split xs (l ∷ []) k s.0 s.1) [
      | inl h ↦ o.all k h
      | inr h ↦ subst (Stands old) (only k h) there
    ];
    none = λ k s. has_before xs (l ∷ []) k (o.none k s);
    once = o.once;
  }) where
    only : (k : Lit) → Stands (l ∷ []) k → l ≡ k
    only k s = elim (got_pushed [] l s.0 k s.1) [
      | inl h ↦ let lt = h.0 in absurd (omega arith)
      | inr h ↦ sym h.1
    ]

  added : (Stands old l → ⊥) → new ≡ old ++ l ∷ [] → AreOnce (xs ++ l ∷ []) new
  added absent is = subst (AreOnce (xs ++ l ∷ [])) (sym is) (record {
    all = λ k s. elim (has_split xs (l ∷ []) k s.0 s.1) [
      | inl h ↦ has_before old (l ∷ []) k (o.all k h)
      | inr h ↦ has_behind old (l ∷ []) k h
    ];
    none = λ k s. elim (has_split old (l ∷ []) k s.0 s.1) [
      | inl h ↦ has_before xs (l ∷ []) k (o.none k h)
      | inr h ↦ has_behind xs (l ∷ []) k h
    ];
    once = λ m n k f g. elim (got_pushed old l m k f) [
      | inl a ↦ elim (got_pushed old l n k g) [
        | inl b ↦ o.once m n k a.1 b.1
        | inr b ↦ absurd (absent (m, a.1 ∙ ap Some b.1))
      ]
      | inr a ↦ elim (got_pushed old l n k g) [
        | inl b ↦ absurd (absent (n, b.1 ∙ ap Some a.1))
        | inr b ↦ a.0 ∙ sym b.0
      ]
    ];
  })

  one_more : AddsOnce old l new → AreOnce (xs ++ l ∷ []) new
  one_more (inl h) = stood h.0 h.1
  one_more (inr h) = added h.0 h.1

pub once_more : (lits : List Lit) (i : ℕ) (l : Lit) (old new : List Lit) → i < length lits → l ≡ get_or lits i l → AreOnce (take i lits) old → AddsOnce old l new → AreOnce (take (i + 1) lits) new
once_more lits i l old new lt is o adds =
    let longer = ap (λ d. take i lits ++ d ∷ []) is ∙ sym (take_more lits i l lt) in
    subst (λ xs. AreOnce xs new) longer (one_more (take i lits) old new l o adds)

pub once_done : (lits : List Lit) (i : ℕ) (made : List Lit) → length lits ≤ i → AreOnce (take i lits) made → AreOnce lits made
once_done lits i made le o = subst (λ xs. AreOnce xs made) (whole_front lits i le) o
