-- Proofs of members that are taken one by one from the end of a list in which they stand from the last to the first.
use Rattle.std.specs.Prelude.{ℕ, ◌≡◌, ◌+◌, ◌<◌, length, drop, get_or, reverse, List, [], ◌∷◌, ◌++◌}
use Rattle.std.proofs.Common.{ap, sym, ◌∙◌}
use Rattle.std.proofs.lemmas.List.{reverse-append, drop_more}
use Rattle.fof_terms.specs.declared.form.Form.{Form, And}
use Rattle.kernel.specs.declared.proof.Proof.{Proof}
use Rattle.norm_proofs.specs.code.Links.{PartsFrom}

module _ (P : ℕ → Form → Proof → Type 0) (forms : List Form) where
  pub next_left : (k : ℕ) (a : Form) (old rest : List Proof) (p : Proof) → k < length forms → a ≡ get_or forms k a → old ≡ rest ++ p ∷ [] → PartsFrom P k (drop k forms) (reverse old)
      → P k a p × PartsFrom P (k + 1) (drop (k + 1) forms) (reverse rest)
  next_left k a old rest p lt at is w =
      let first : drop k forms ≡ a ∷ drop (k + 1) forms = drop_more forms k a lt ∙ ap (λ x. x ∷ drop (k + 1) forms) (sym at) in
      let w' : PartsFrom P k (a ∷ drop (k + 1) forms) (p ∷ reverse rest) = rw (is, reverse-append rest (p ∷ []), first) at w in
      w'

  pub none_left : (k : ℕ) (old : List Proof) → k < length forms → old ≡ [] → PartsFrom P k (drop k forms) (reverse old) → ⊥
  none_left k old lt is w =
      let w' : PartsFrom P k (get_or forms k (And []) ∷ drop (k + 1) forms) [] = rw (is, drop_more forms k (And []) lt) at w in
      w'
