-- The pieces that a lexer takes are joined.
use Rattle.std.specs.Prelude.{◌≡◌, List, [], ◌∷◌, ◌++◌, None}
use Rattle.std.specs.List.{concat}
use Rattle.std.proofs.Common.{ap, sym, ◌∙◌, append_assoc}
use Rattle.std.proofs.lemmas.List.{append-nil}
use Rattle.tptp_lexer.specs.Bytes.{Text}
use Rattle.lexer_pieces.specs.Pieces.{Fed, TakesAll}

-- They stand behind what was there.
abbrev pub HasAll : Fed → List Text → Fed → Type 0
HasAll old pieces new = (new.file ≡ old.file) × (new.style ≡ old.style) × (new.text ≡ old.text ++ concat pieces) × (old.fault ≡ None → new.fault ≡ None)

pub all_taken : (old : Fed) (pieces : List Text) (new : Fed) → TakesAll old pieces new → HasAll old pieces new
all_taken old [] new same =
    (sym (ap (λ (f : Fed). f.file) same), sym (ap (λ (f : Fed). f.style) same), sym (ap (λ (f : Fed). f.text) same) ∙ sym (append-nil old.text), λ none. sym (ap (λ (f : Fed). f.fault) same) ∙ none)
all_taken old (piece ∷ pieces) new (next, (free, is, shows), rest) =
    let later = all_taken next pieces new rest in
    let text : next.text ≡ old.text ++ piece = ap (λ (f : Fed). f.text) is in (
      later.0 ∙ ap (λ (f : Fed). f.file) is,
      later.1 ∙ ap (λ (f : Fed). f.style) is,
      later.2 ∙ ap (λ z. z ++ concat pieces) text ∙ append_assoc old.text piece (concat pieces),
      λ none. later.3 (ap (λ (f : Fed). f.fault) is ∙ none),
    )
