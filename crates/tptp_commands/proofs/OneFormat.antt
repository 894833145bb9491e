-- The command `format` has one ending, and that on a file whose text spells items writes their canonical text.
use Rattle.std.proofs.Common.{◌≡◌, ◌⊎◌, inl, inr, ℕ, ◌≤◌, List, length, Option, None, Some, Result, Ok, Err, refl, sym, ◌∙◌, ap, subst, arith}
use Rattle.std.proofs.lemmas.Bool.{cases_lt}
use Rattle.canon_print.specs.Canonical.{canonical_text}
use Rattle.tptp_base.specs.declared.item.Item.{Item}
use Rattle.tptp_base.specs.declared.limit.LimitName.{LimitName}
use Rattle.tptp_base.specs.declared.limit.LimitName.TheVariants.{FileSize, TotalSize}
use Rattle.tptp_base.specs.declared.read.TheConstants.{FILE_SIZE}
use Rattle.tptp_base.specs.Read.{IsOver}
use Rattle.tptp_base.specs.Store.{Files, file_at}
use Rattle.tptp_lexer.specs.declared.fault.LexFault.{LexFault}
use Rattle.tptp_lexer.specs.declared.fault.LexFault.TheVariants as lexed
use Rattle.tptp_lexer.specs.declared.style.Style.TheVariants.{Problem}
use Rattle.tptp_lexer.specs.declared.token.Tokens.{Tokens}
use Rattle.tptp_lexer.specs.Answer as lexer
use Rattle.tptp_lexer.proofs.Answering as lexing
use Rattle.tptp_grammar.specs.declared.fault.GrammarFault.{GrammarFault}
use Rattle.tptp_grammar.specs.declared.fault.GrammarFault.TheVariants as parsed
use Rattle.tptp_grammar.specs.Laws as parser
use Rattle.tptp_grammar.proofs.OneAnswer as parsing
use Rattle.read_problems.specs.Ending.{Ending, says, AfterFile}
use Rattle.tptp_commands.specs.Formatted.{SaysText, EndsFormat}
use Rattle.tptp_grammar.specs.Texts.{IsParsed}
use Rattle.read_problems.specs.Spelled.{IsLexed, SpellsItems, IsTextRefusal, SaysLexFault, SaysGrammarFault}
use Rattle.read_problems.specs.declared.refusals.TheConstants.{TOTAL_SIZE}
use Rattle.tptp_commands.proofs.OneEnding.{one_lex_said, one_grammar_said}

-- ---- answers that say something

abbrev lexes : Tokens → Result Tokens LexFault
lexes tokens = Ok tokens

abbrev no_lex : LexFault → Result Tokens LexFault
no_lex fault = Err fault

abbrev parses : List Item → Result (List Item) GrammarFault
parses items = Ok items

abbrev no_parse : GrammarFault → Result (List Item) GrammarFault
no_parse fault = Err fault

said_lex : {R : Type 0} (name : List ℕ) (fault : LexFault) (ending : Ending) → SaysLexFault name fault ending → no_lex fault ≡ Err lexed.Memory → R
said_lex name (lexed.Byte place) ending h e = absurd cc
said_lex name (lexed.Unfinished place) ending h e = absurd cc
said_lex name (lexed.Limit limit) ending h e = absurd cc
said_lex name lexed.Memory ending h e = absurd h

said_grammar : {R : Type 0} (name : List ℕ) (fault : GrammarFault) (ending : Ending) → SaysGrammarFault name fault ending → no_parse fault ≡ Err parsed.Memory → R
said_grammar name (parsed.Token place) ending h e = absurd cc
said_grammar name (parsed.Profile place) ending h e = absurd cc
said_grammar name (parsed.End place) ending h e = absurd cc
said_grammar name (parsed.Deep place) ending h e = absurd cc
said_grammar name parsed.Memory ending h e = absurd h

module _ (name text : List ℕ) (a b : Ending) where
  one_of : (x y : Result Tokens LexFault) → IsLexed text x → IsLexed text y → lexer.IsOne x y
  one_of = lexing.one 0 text (record { start = 0; end = length text }) Problem

  pub same_tokens : (t u : Tokens) → lexer.IsOne (lexes t) (lexes u) → t ≡ u
  same_tokens t u (inl e) = cc
  same_tokens t u (inr (inl e)) = cc
  same_tokens t u (inr (inr e)) = cc

  pub tokens_no_fault : {R : Type 0} (t : Tokens) (fault : LexFault) (ending : Ending) → SaysLexFault name fault ending → lexer.IsOne (lexes t) (no_lex fault) → R
  tokens_no_fault t fault ending h (inl e) = absurd cc
  tokens_no_fault t fault ending h (inr (inl e)) = absurd cc
  tokens_no_fault t fault ending h (inr (inr e)) = said_lex name fault ending h e

  same_lex : (f g : LexFault) → SaysLexFault name f a → SaysLexFault name g b → lexer.IsOne (no_lex f) (no_lex g) → f ≡ g
  same_lex f g h k (inl e) = cc
  same_lex f g h k (inr (inl e)) = said_lex name f a h e
  same_lex f g h k (inr (inr e)) = said_lex name g b k e

  pub same_items : (xs ys : List Item) → parser.IsOne (parses xs) (parses ys) → xs ≡ ys
  same_items xs ys (inl e) = cc
  same_items xs ys (inr (inl e)) = cc
  same_items xs ys (inr (inr e)) = cc

  pub items_no_fault : {R : Type 0} (xs : List Item) (fault : GrammarFault) (ending : Ending) → SaysGrammarFault name fault ending → parser.IsOne (parses xs) (no_parse fault) → R
  items_no_fault xs fault ending h (inl e) = absurd cc
  items_no_fault xs fault ending h (inr (inl e)) = absurd cc
  items_no_fault xs fault ending h (inr (inr e)) = said_grammar name fault ending h e

  same_grammar : (f g : GrammarFault) → SaysGrammarFault name f a → SaysGrammarFault name g b → parser.IsOne (no_parse f) (no_parse g) → f ≡ g
  same_grammar f g h k (inl e) = cc
  same_grammar f g h k (inr (inl e)) = said_grammar name f a h e
  same_grammar f g h k (inr (inr e)) = said_grammar name g b k e

  one_tokens : (t u : Tokens) → IsLexed text (Ok t) → IsLexed text (Ok u) → t ≡ u
  one_tokens t u h k = same_tokens t u (one_of (Ok t) (Ok u) h k)

  here : (t u : Tokens) (x : Result (List Item) GrammarFault) → IsLexed text (Ok t) → IsLexed text (Ok u) → IsParsed u x → IsParsed t x
  here t u x h k p = subst (λ (v : Tokens). IsParsed v x) (one_tokens u t k h) p

  both_refused : IsTextRefusal name text a → IsTextRefusal name text b → a ≡ b
  both_refused (inl (f, h, says)) (inl (g, k, said)) =
      let same = same_lex f g says said (one_of (Err f) (Err g) h k) in
      one_lex_said a b name f says (subst (λ (x : LexFault). SaysLexFault name x b) (sym same) said)
  both_refused (inl (f, h, says)) (inr (t, g, k, p, said)) = tokens_no_fault t f a says (one_of (Ok t) (Err f) k h)
  both_refused (inr (t, f, h, p, says)) (inl (g, k, said)) = tokens_no_fault t g b said (one_of (Ok t) (Err g) h k)
  both_refused (inr (t, f, h, p, says)) (inr (u, g, k, q, said)) =
      let same = same_grammar f g says said (parsing.one t.style t.items t.end (Err f) (Err g) p (here t u (Err g) h k q)) in
      one_grammar_said a b name f says (subst (λ (x : GrammarFault). SaysGrammarFault name x b) (sym same) said)

-- what spells items has no fault of which something is said
spelled_no_refusal : {R : Type 0} (name text : List ℕ) (items : List Item) (ending : Ending) → SpellsItems text items → IsTextRefusal name text ending → R
spelled_no_refusal name text items ending s (inl (f, h, says)) = tokens_no_fault name text ending ending s.tokens f ending says (one_of name text ending ending (Ok s.tokens) (Err f) s.lexed h)
spelled_no_refusal name text items ending s (inr (t, f, h, p, says)) =
    items_no_fault name text ending ending items f ending says (parsing.one s.tokens.style s.tokens.items s.tokens.end (Ok items) (Err f) s.parsed (here name text ending ending s.tokens t (Err f) s.lexed h p))

one_spelled : (text : List ℕ) (items others : List Item) (name : List ℕ) (ending : Ending) → SpellsItems text items → SpellsItems text others → items ≡ others
one_spelled text items others name ending s r =
    same_items name text ending ending items others (parsing.one s.tokens.style s.tokens.items s.tokens.end (Ok items) (Ok others) s.parsed (here name text ending ending s.tokens r.tokens (Ok others) s.lexed r.lexed r.parsed))

one_said : (name text : List ℕ) (a b : Ending) → SaysText name text a → SaysText name text b → a ≡ b
one_said name text a b (inl h) (inl k) = both_refused name text a b h k
one_said name text a b (inl h) (inr (items, s, is)) = spelled_no_refusal name text items a s h
one_said name text a b (inr (items, s, is)) (inl k) = spelled_no_refusal name text items b s k
one_said name text a b (inr (items, s, is)) (inr (others, r, also)) = is ∙ ap (λ (l : List Item). says 0 (canonical_text l)) (one_spelled text items others name a s r) ∙ sym also

-- ---- files

-- a file is over a limit or over none
pub over_or_not : (budget count : ℕ) → ((limit : LimitName) × IsOver limit budget count) ⊎ ((limit : LimitName) → IsOver limit budget count → ⊥)
over_or_not budget count = elim (cases_lt FILE_SIZE count) [
  | inl over ↦ inl (FileSize, over)
  | inr fits ↦ elim (cases_lt budget count) [
    | inl over ↦ inl (TotalSize, (omega (arith, fits), over))
    | inr in_budget ↦ inr (neither budget count fits in_budget)
  ]
]
  where
    neither : (budget count : ℕ) → count ≤ FILE_SIZE → count ≤ budget → (limit : LimitName) → IsOver limit budget count → ⊥
    neither budget count fits in_budget FileSize over = omega (arith, fits, over)
    neither budget count fits in_budget TotalSize over = omega (arith, in_budget, over.1)
    neither budget count fits in_budget limit over = over

one_after : (files : Files) (name : List ℕ) (budget : ℕ) (Rest : List ℕ → Ending → Type 0) (a b : Ending) → ((text : List ℕ) → Rest text a → Rest text b → a ≡ b) → AfterFile files name budget Rest a → AfterFile files name budget Rest b → a ≡ b
one_after files name budget Rest a b rest h k = go (file_at files name) refl
  where
    go : (found : Option (List ℕ)) → file_at files name ≡ found → a ≡ b
    go None is = h.missing is ∙ sym (k.missing is)
    go (Some text) is = elim (over_or_not budget (length text)) [
      | inl over ↦ h.limit over.0 text is over.1 ∙ sym (k.limit over.0 text is over.1)
      | inr fits ↦ rest text (h.read text is fits) (k.read text is fits)
    ]

-- ---- how `format` ends

pub one_format : (files : Files) (file : List ℕ) (a b : Ending) → EndsFormat files file a → EndsFormat files file b → a ≡ b
one_format files file a b h k = one_after files file TOTAL_SIZE (SaysText file) a b (λ text. one_said file text a b) h k

-- a file whose text spells items is written out in its canonical text
pub format_writes : (files : Files) (file text : List ℕ) (items : List Item) (ending : Ending) → file_at files file ≡ Some text → ((limit : LimitName) → IsOver limit TOTAL_SIZE (length text) → ⊥) → SpellsItems text items → EndsFormat files file ending → ending ≡ says 0 (canonical_text items)
format_writes files file text items ending there fits spells ends = one_said file text ending (says 0 (canonical_text items)) (ends.read text there fits) (inr (items, spells, refl))
