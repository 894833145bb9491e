-- Terms that can be written are spelled by tokens that nest as deeply as is said.
use Rattle.std.proofs.Common.{◌≡◌, ℕ, suc, ◌+◌, ◌≤◌, true, List, [], ◌∷◌, map, max, refl, arith}
use Rattle.std.specs.Prelude.{◌&&◌}
use Rattle.std.specs.List.{AllByRecursion}
use Rattle.std.proofs.lemmas.Bool.{and_parts}
use Rattle.tptp_base.specs.declared.surface.STerm.{STerm}
use Rattle.tptp_base.specs.declared.surface.STerm.TheVariants as tm
use Rattle.tptp_lexer.specs.declared.token.Token.TheVariants.{Quoted, Upper, Mark as Sign}
use Rattle.tptp_lexer.specs.declared.token.Mark.{Mark}
use Rattle.tptp_lexer.specs.declared.token.Mark.TheVariants as m
use Rattle.tptp_grammar.specs.Tokens.{Tokens}
use Rattle.tptp_grammar.specs.Terms as g
use Rattle.tptp_grammar.specs.Terms.{IsTerm, IsApplied, AreTerms}
use Rattle.canon_print.proofs.Lexed.{Given}
use Rattle.fof_terms.specs.Lift.{greatest}
use Rattle.sort_check.proofs.Inducing.{term_induction}
use Rattle.derivation_items.specs.Words.{Text}
use Rattle.derivation_limits.specs.Nesting.{applied_nesting, term_nesting}
use Rattle.derivation_limits.proofs.NestingFacts.{term_nesting-App}
use Rattle.spelled_items.specs.Writable.{all_true, is_term, is_word}
use Rattle.spelled_items.proofs.WordsSpelled.{Has, word_facts, variable_facts}
use Rattle.spelled_items.proofs.WritableFacts.{is_term-Var, is_term-App}

-- in the room that its nesting asks for, the term is spelled before any tokens
abbrev pub TermSpelled : ℕ → STerm → Type 0
TermSpelled limit t = is_term t ≡ true → (d : ℕ) → d + term_nesting t ≤ limit → (rest : Tokens) → Given limit rest → Has limit (IsTerm d t) rest

module _ (limit : ℕ) where
  listed : (d : ℕ) (t : STerm) (ts : List STerm) → AllByRecursion (TermSpelled limit) (t ∷ ts) → all_true (map is_term (t ∷ ts)) ≡ true → d + greatest (map term_nesting (t ∷ ts)) ≤ limit → (rest : Tokens) → Given limit rest
      → Has limit (AreTerms d (t ∷ ts)) rest
  listed d t [] all ok fits rest given =
      let parts = and_parts (is_term t) true ok in
      let room : d + term_nesting t ≤ limit = omega arith in
      let one = all.0 parts.0 d room rest given in
      record { us = one.us; rule = g.last_term one.rule; given = one.given }
  listed d t (u ∷ ts) all ok fits rest given =
      let parts = and_parts (is_term t) (all_true (map is_term (u ∷ ts))) ok in
      let room : d + term_nesting t ≤ limit = omega arith in
      let later : d + greatest (map term_nesting (u ∷ ts)) ≤ limit = omega arith in
      let near : d ≤ limit = omega arith in
      let more = listed d u ts all.1 parts.1 later rest given in
      let one = all.0 parts.0 d room ((Sign m.Comma, d) ∷ more.us) (tt, near, more.given) in
      record { us = one.us; rule = g.more_terms one.rule more.rule; given = one.given }

  pub applied : (d : ℕ) (word : Text) (args : List STerm) → AllByRecursion (TermSpelled limit) args → is_word word ≡ true → all_true (map is_term args) ≡ true → d + applied_nesting (map term_nesting args) ≤ limit → (rest : Tokens) → Given limit rest
      → Has limit (IsApplied d word args) rest
  applied d word [] all ok args_ok fits rest given =
      let near : d ≤ limit = omega arith in
      record { us = (Quoted word, d) ∷ rest; rule = g.constant refl; given = (word_facts word ok, near, given) }
  applied d word (t ∷ ts) all ok args_ok fits rest given =
      let near : d ≤ limit = omega arith in
      let within : suc d ≤ limit = omega arith in
      let room : suc d + greatest (map term_nesting (t ∷ ts)) ≤ limit = omega arith in
      let inner = listed (suc d) t ts all args_ok room ((Sign m.Close, suc d) ∷ rest) (tt, within, given) in
      record { us = (Quoted word, d) ∷ (Sign m.Open, suc d) ∷ inner.us; rule = g.application refl inner.rule; given = (word_facts word ok, near, (tt, within, inner.given)) }

  variable_spelled : (name : Text) → TermSpelled limit (tm.Var name)
  variable_spelled name ok d fits rest given =
      let near : d ≤ limit = omega arith in
      record { us = (Upper name, d) ∷ rest; rule = g.variable; given = (variable_facts name (rw is_term-Var at ok), near, given) }

  application_spelled : (word : Text) (args : List STerm) → AllByRecursion (TermSpelled limit) args → TermSpelled limit (tm.App word args)
  application_spelled word args all ok d fits rest given =
      let parts = and_parts (is_word word) (all_true (map is_term args)) (rw is_term-App at ok) in
      let inner = applied d word args all parts.0 parts.1 (rw term_nesting-App at fits) rest given in
      record { us = inner.us; rule = g.function inner.rule; given = inner.given }

  pub term_spelled : (t : STerm) → TermSpelled limit t
  term_spelled = term_induction (TermSpelled limit) (record { var = variable_spelled; app = application_spelled })

  pub terms_spelled : (ts : List STerm) → AllByRecursion (TermSpelled limit) ts
  terms_spelled [] = tt
  terms_spelled (t ∷ ts) = (term_spelled t, terms_spelled ts)

  -- two terms with a mark between them
  pub sides_spelled : (mark : Mark) (d : ℕ) (left right : STerm) → (is_term left && is_term right) ≡ true → d + max (term_nesting left) (term_nesting right) ≤ limit → (rest : Tokens) → Given limit rest
      → (mid : Tokens) × Has limit (λ us more. IsTerm d left us ((Sign mark, d) ∷ mid) × IsTerm d right mid more) rest
  sides_spelled mark d left right ok fits rest given =
      let parts = and_parts (is_term left) (is_term right) ok in
      let first : d + term_nesting left ≤ limit = omega arith in
      let second : d + term_nesting right ≤ limit = omega arith in
      let near : d ≤ limit = omega arith in
      let r = term_spelled right parts.1 d second rest given in
      let l = term_spelled left parts.0 d first ((Sign mark, d) ∷ r.us) (tt, near, r.given) in
      (r.us, record { us = l.us; rule = (l.rule, r.rule); given = l.given })
