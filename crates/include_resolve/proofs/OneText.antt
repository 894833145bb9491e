-- A text spells one list of items, or has one first fault.
use Rattle.std.proofs.Common.{◌≡◌, ◌⊎◌, inl, inr, refl, sym, ◌∙◌, ap, subst, ℕ, List, Result, Ok, Err}
use Rattle.tptp_base.specs.declared.item.Item.{Item}
use Rattle.tptp_lexer.specs.declared.fault.LexFault.{LexFault}
use Rattle.tptp_lexer.specs.declared.fault.LexFault.TheVariants as lex
use Rattle.tptp_lexer.specs.declared.style.Style.TheVariants.{Problem as ProblemStyle}
use Rattle.tptp_lexer.specs.declared.token.Tokens.{Tokens}
use Rattle.tptp_lexer.specs.Answer as lexer
use Rattle.tptp_lexer.proofs.Answering as answering
use Rattle.tptp_grammar.specs.declared.fault.GrammarFault.{GrammarFault}
use Rattle.tptp_grammar.specs.declared.fault.GrammarFault.TheVariants as grammar
use Rattle.tptp_grammar.specs.Answers as parser
use Rattle.tptp_grammar.specs.Laws as laws
use Rattle.tptp_grammar.proofs.OneAnswer as parsing
use Rattle.include_resolve.specs.declared.fault.TextFault.{TextFault}
use Rattle.include_resolve.specs.declared.fault.TextFault.TheVariants.{Lex, Grammar}
use Rattle.include_resolve.specs.Names.{Text}
use Rattle.include_resolve.specs.Texts.{HasTokens, IsSpelled, IsGrammarFault, IsFaulty}
use Rattle.tptp_lexer.specs.Answer.{whole}

-- ---- answers that are no want of memory

abbrev lexed : Tokens → Result Tokens LexFault
lexed tokens = Ok tokens

abbrev unlexed : LexFault → Result Tokens LexFault
unlexed fault = Err fault

abbrev read : List Item → Result (List Item) GrammarFault
read items = Ok items

abbrev unread : GrammarFault → Result (List Item) GrammarFault
unread fault = Err fault

one_lexed : (t u : Tokens) → lexer.IsOne (lexed t) (lexed u) → t ≡ u
one_lexed t u (inl e) = cc
one_lexed t u (inr (inl e)) = cc
one_lexed t u (inr (inr e)) = cc

not_lexed : (t : Tokens) (f : LexFault) → (f ≡ lex.Memory → ⊥) → lexer.IsOne (lexed t) (unlexed f) → ⊥
not_lexed t f some (inl e) = cc
not_lexed t f some (inr (inl e)) = cc
not_lexed t f some (inr (inr e)) = some cc

one_unlexed : (f g : LexFault) → (f ≡ lex.Memory → ⊥) → (g ≡ lex.Memory → ⊥) → lexer.IsOne (unlexed f) (unlexed g) → f ≡ g
one_unlexed f g some also (inl e) = cc
one_unlexed f g some also (inr (inl e)) = absurd (some cc)
one_unlexed f g some also (inr (inr e)) = absurd (also cc)

one_read : (xs ys : List Item) → laws.IsOne (read xs) (read ys) → xs ≡ ys
one_read xs ys (inl e) = cc
one_read xs ys (inr (inl e)) = cc
one_read xs ys (inr (inr e)) = cc

not_read : (xs : List Item) (f : GrammarFault) → (f ≡ grammar.Memory → ⊥) → laws.IsOne (read xs) (unread f) → ⊥
not_read xs f some (inl e) = cc
not_read xs f some (inr (inl e)) = cc
not_read xs f some (inr (inr e)) = some cc

one_unread : (f g : GrammarFault) → (f ≡ grammar.Memory → ⊥) → (g ≡ grammar.Memory → ⊥) → laws.IsOne (unread f) (unread g) → f ≡ g
one_unread f g some also (inl e) = cc
one_unread f g some also (inr (inl e)) = absurd (some cc)
one_unread f g some also (inr (inr e)) = absurd (also cc)

-- ---- the text of a file

module _ (number : ℕ) (text : Text) where
  -- no tokens: the first fault among the bytes
  record IsLexFault (f : TextFault) : Type 0 where
    fault : LexFault
    is : f ≡ Lex fault
    some : fault ≡ lex.Memory → ⊥
    first : lexer.Answers number text (whole text) ProblemStyle (Err fault)

  -- tokens that spell nothing: the first fault among them
  record IsTokenFault (f : TextFault) : Type 0 where
    tokens : Tokens
    has : HasTokens number text tokens
    fault : GrammarFault
    is : f ≡ Grammar fault
    some : fault ≡ grammar.Memory → ⊥
    first : parser.Answers tokens.style tokens.items tokens.end (Err fault)

  token_fault : (tokens : Tokens) → HasTokens number text tokens → (fault : GrammarFault) → IsGrammarFault tokens fault → IsTokenFault (Grammar fault)
  token_fault tokens has (grammar.Token place) h = record { tokens = tokens; has = has; fault = grammar.Token place; is = refl; some = λ e. cc; first = h }
  token_fault tokens has (grammar.Profile place) h = record { tokens = tokens; has = has; fault = grammar.Profile place; is = refl; some = λ e. cc; first = h }
  token_fault tokens has (grammar.End place) h = record { tokens = tokens; has = has; fault = grammar.End place; is = refl; some = λ e. cc; first = h }
  token_fault tokens has (grammar.Deep place) h = record { tokens = tokens; has = has; fault = grammar.Deep place; is = refl; some = λ e. cc; first = h }
  token_fault tokens has grammar.Memory h = absurd h

  fault_kind : (f : TextFault) → IsFaulty number text f → IsLexFault f ⊎ IsTokenFault f
  fault_kind (Lex (lex.Byte place)) h = inl (record { fault = lex.Byte place; is = refl; some = λ e. cc; first = h })
  fault_kind (Lex (lex.Unfinished place)) h = inl (record { fault = lex.Unfinished place; is = refl; some = λ e. cc; first = h })
  fault_kind (Lex (lex.Limit limit)) h = absurd h
  fault_kind (Lex lex.Memory) h = absurd h
  fault_kind (Grammar fault) h = inr (token_fault h.0 h.1 fault h.2)

  lex_one : (a b : Result Tokens LexFault) → lexer.Answers number text (whole text) ProblemStyle a → lexer.Answers number text (whole text) ProblemStyle b → lexer.IsOne a b
  lex_one = answering.one number text (whole text) ProblemStyle

  one_tokens : (t u : Tokens) → HasTokens number text t → HasTokens number text u → t ≡ u
  one_tokens t u h k = one_lexed t u (lex_one (Ok t) (Ok u) h k)

  no_tokens : (t : Tokens) (f : TextFault) → HasTokens number text t → IsLexFault f → ⊥
  no_tokens t f has h = not_lexed t h.fault h.some (lex_one (Ok t) (Err h.fault) has h.first)

  pub one_spelled : (xs ys : List Item) → IsSpelled number text xs → IsSpelled number text ys → xs ≡ ys
  one_spelled xs ys s r =
      let same = one_tokens r.tokens s.tokens r.lexed s.lexed in
      one_read xs ys (parsing.one s.tokens.style s.tokens.items s.tokens.end (Ok xs) (Ok ys) s.parsed (subst (λ (v : Tokens). parser.Answers v.style v.items v.end (Ok ys)) same r.parsed))

  first_of : (t : Tokens) (f : TextFault) → HasTokens number text t → (k : IsTokenFault f) → parser.Answers t.style t.items t.end (Err k.fault)
  first_of t f has k = subst (λ (v : Tokens). parser.Answers v.style v.items v.end (Err k.fault)) (one_tokens k.tokens t k.has has) k.first

  pub not_spelled : (xs : List Item) (f : TextFault) → IsSpelled number text xs → IsFaulty number text f → ⊥
  not_spelled xs f s faulty = elim (fault_kind f faulty) [
    | inl k ↦ no_tokens s.tokens f s.lexed k
    | inr k ↦ not_read xs k.fault k.some (parsing.one s.tokens.style s.tokens.items s.tokens.end (Ok xs) (Err k.fault) s.parsed (first_of s.tokens f s.lexed k))
  ]

  pub one_fault : (f g : TextFault) → IsFaulty number text f → IsFaulty number text g → f ≡ g
  one_fault f g first second = elim (fault_kind f first) [
    | inl h ↦ elim (fault_kind g second) [
      | inl k ↦ h.is ∙ ap Lex (one_unlexed h.fault k.fault h.some k.some (lex_one (Err h.fault) (Err k.fault) h.first k.first)) ∙ sym k.is
      | inr k ↦ absurd (no_tokens k.tokens f k.has h)
    ]
    | inr h ↦ elim (fault_kind g second) [
      | inl k ↦ absurd (no_tokens h.tokens g h.has k)
      | inr k ↦ h.is ∙ ap Grammar (one_unread h.fault k.fault h.some k.some (parsing.one h.tokens.style h.tokens.items h.tokens.end (Err h.fault) (Err k.fault) h.first (first_of h.tokens g h.has k))) ∙ sym k.is
    ]
  ]
