-- A signature to which symbols are added.
use Rattle.std.specs.Prelude.{ℕ, ◌≡◌, ◌+◌, ◌≤◌, ◌<◌, List, [], ◌∷◌, ◌++◌, length, take, get_or}
use Rattle.std.specs.List.{All as Each}
use Rattle.std.proofs.Common.{ap, sym, subst, ◌∙◌, arith, append_assoc}
use Rattle.std.proofs.lemmas.List.{length-append, length-take-le, take_all, take_more}
use Rattle.fof_terms.specs.Vocabulary.{IsDeclared, Vocabulary}
use Rattle.fof_terms.specs.declared.signature.Symbol.{Symbol}
use Rattle.step_search.proofs.Growing.{with_symbols}

module _ (v g : Vocabulary) (symbols : List Symbol) (i : ℕ) (lt : i < length symbols) (is : g ≡ with_symbols v (v.symbols ++ take i symbols)) where
  pub room_for_one : length v.symbols + length symbols ≤ 16777216 → length g.symbols < 16777216
  room_for_one room =
      let count : length g.symbols ≡ length v.symbols + length (take i symbols) = ap (λ (x : Vocabulary). length x.symbols) is ∙ length-append v.symbols (take i symbols) in
      let few : length (take i symbols) ≡ i = length-take-le i symbols (omega arith) in
      omega arith

  pub one_declared : (r s : Symbol) → r ≡ get_or symbols i r → s ≡ r → Each (IsDeclared (length v.sorts)) symbols → IsDeclared (length g.sorts) s
  one_declared r s er es all = subst (λ (x : Vocabulary). IsDeclared (length x.sorts) s) (sym is) (subst (IsDeclared (length v.sorts)) (sym (es ∙ er)) (all i r lt))

  pub one_added : (h : Vocabulary) (r s : Symbol) → r ≡ get_or symbols i r → s ≡ r → h ≡ with_symbols g (g.symbols ++ s ∷ []) → h ≡ with_symbols v (v.symbols ++ take (i + 1) symbols)
  one_added h r s er es eh =
      let taken : take (i + 1) symbols ≡ take i symbols ++ s ∷ [] = take_more symbols i r lt ∙ ap (λ (q : Symbol). take i symbols ++ q ∷ []) (sym (es ∙ er)) in
      eh ∙ ap (λ (x : Vocabulary). with_symbols x (x.symbols ++ s ∷ [])) is ∙ ap (with_symbols v) (append_assoc v.symbols (take i symbols) (s ∷ []) ∙ ap (λ (l : List Symbol). v.symbols ++ l) (sym taken))

pub all_added : (v g : Vocabulary) (symbols : List Symbol) (i : ℕ) → g ≡ with_symbols v (v.symbols ++ take i symbols) → length symbols ≤ i → g ≡ with_symbols v (v.symbols ++ symbols)
all_added v g symbols i is past = is ∙ ap (λ (l : List Symbol). with_symbols v (v.symbols ++ l)) (take_all i symbols past)
