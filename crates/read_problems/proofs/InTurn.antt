-- A text without includes is a problem of its own.
use Rattle.std.proofs.Common.{◌≡◌, ◌⊎◌, inl, inr, ℕ, ◌+◌, ◌≤◌, Bool, List, [], ◌∷◌, ◌++◌, length, flat_map, Option, Some, None, IsSomeAnd, Ok, Err, refl, sym, ◌∙◌, ap, subst, arith}
use Rattle.std.proofs.lemmas.List.Elements.{All-nil, All-cons}
use Rattle.tptp_base.specs.declared.item.Item.{Item}
use Rattle.tptp_base.specs.declared.item.Item.TheVariants as it
use Rattle.tptp_base.specs.declared.read.TheConstants.{FILE_SIZE}
use Rattle.tptp_base.specs.Read.{IsOver}
use Rattle.tptp_base.specs.Store.{Files, HasFile, IsMissing, file_at}
use Rattle.tptp_base.specs.declared.limit.LimitName.{LimitName}
use Rattle.include_resolve.specs.declared.problem.Problem.{Problem}
use Rattle.include_resolve.specs.declared.problem.TheConstants.{TOTAL_SIZE}
use Rattle.include_resolve.specs.declared.fault.TextFault.{TextFault}
use Rattle.include_resolve.specs.declared.fault.TextFault.TheVariants.{Lex, Grammar}
use Rattle.include_resolve.specs.declared.fault.IncludeFault.TheVariants as included
use Rattle.include_resolve.specs.Resolved.{Walk, IsFirstFile, Replaces, Resolves, done, went_on, comment, formula, opened, missing, first, spelled, faulty, over}
use Rattle.include_resolve.specs.Texts.{IsFaulty}
use Rattle.sort_check.specs.Turns.{HaveNoInclude}
use Rattle.tptp_grammar.specs.Texts.{IsParsed}
use Rattle.tptp_grammar.specs.declared.fault.GrammarFault.{GrammarFault}
use Rattle.tptp_grammar.specs.declared.fault.GrammarFault.TheVariants as parsed
use Rattle.tptp_lexer.specs.declared.fault.LexFault.{LexFault}
use Rattle.tptp_lexer.specs.declared.fault.LexFault.TheVariants as lexed
use Rattle.tptp_lexer.specs.declared.token.Tokens.{Tokens}
use Rattle.read_problems.specs.code.Turns.{IsOfText, IsTextSortRefusal, IsRefusalOfText}
use Rattle.read_problems.specs.declared.denotations.Denotation.{Denotation}
use Rattle.read_problems.specs.Denotations.{IsDenotation}
use Rattle.read_problems.specs.Denoted.{SaysTextFault, IsProblemRefusal}
use Rattle.read_problems.specs.Ending.{Ending, IsUnread}
use Rattle.read_problems.specs.OtherFaults.{SaysProblemFault}
use Rattle.read_problems.specs.Spelled.{IsLexed, SpellsItems, IsTextRefusal, SaysLexFault, SaysGrammarFault}

-- the items alone
abbrev items_alone : List Item → Problem
items_alone items = record { files = []; items = items; read = 0 }

module _ (told : Option Files) (root : Option (List ℕ)) where
  alone_replaced : (from : List ℕ) (items : List Item) (walk : Walk) → HaveNoInclude items → Replaces told root walk from items (Ok (items_alone items))
  alone_replaced from [] walk whole = done
  alone_replaced from (it.Comment text ∷ items) walk whole = went_on comment (alone_replaced from items _ whole.1)
  alone_replaced from (it.Formula line ∷ items) walk whole = went_on formula (alone_replaced from items _ whole.1)
  alone_replaced from (it.Include i ∷ items) walk whole = absurd (let not_so = whole.0 in cc)

  any_file : (found : Option (List ℕ)) (text : List ℕ) → IsSomeAnd found (λ file. file ≡ text) → IsSomeAnd found (λ file. Unit {0})
  any_file None text has = has
  any_file (Some file) text has = tt

  is_file : (files : Option Files) (file text : List ℕ) → HasFile files file (λ bytes. bytes ≡ text) → HasFile files file (λ bytes. Unit {0})
  is_file None file text has = tt
  is_file (Some files) file text has = any_file (file_at files file) text has

  -- the one file, and the items
  abbrev pub text_alone : List ℕ → List ℕ → List Item → Problem
  text_alone file text items = record { files = file ∷ []; items = items; read = length text + 0 }

  pub alone_resolves : (file text : List ℕ) (items : List Item) → HasFile told file (λ bytes. bytes ≡ text) → length text ≤ FILE_SIZE → length text ≤ TOTAL_SIZE → SpellsItems text items → HaveNoInclude items → Resolves told root file (Ok (text_alone file text items))
  alone_resolves file text items has in_limit in_budget spells whole =
      opened (first (is_file told file text has)) refl (omega arith)
      (spelled (record { whole = has; in_limit = in_limit; in_budget = omega (arith, in_budget) }) spells (alone_replaced file items _ whole))

  -- the first of the names is the file
  only_file : (file text : List ℕ) → HasFile told file (λ bytes. bytes ≡ text) → IsFirstFile told (file ∷ []) file
  only_file file text has = first (is_file told file text has)

  module _ (file text : List ℕ) (has : HasFile told file (λ bytes. bytes ≡ text)) (in_limit : length text ≤ FILE_SIZE) (in_budget : length text ≤ TOTAL_SIZE) where
    pub text_denoted : (keeps : Bool) (d : Denotation) → IsOfText text keeps d → IsDenotation told root file keeps d
    text_denoted keeps d is = record {
      whole = text_alone file text is.items;
      lines = is.is.lines;
      resolves = alone_resolves file text is.items has in_limit in_budget is.spells is.whole;
      denotes = is.is.denotes;
      kept_lines = is.is.kept_lines;
      formulas = is.is.formulas;
      read = is.is.read ∙ omega arith;
    }

    -- ---- the first fault of the text

    module _ (ending : Ending) where
      abbrev Said : TextFault → Type 0
      Said fault = Resolves told root file (Err (included.Text file fault)) × SaysTextFault file fault ending

      faulty_text : (fault : TextFault) → IsFaulty 0 text fault → Resolves told root file (Err (included.Text file fault))
      faulty_text fault is = opened (only_file file text has) refl (omega arith) (faulty (record { whole = has; in_limit = in_limit; in_budget = omega (arith, in_budget) }) is)

      lex_said : (fault : LexFault) → IsLexed text (Err fault) → SaysLexFault file fault ending → Said (Lex fault)
      lex_said (lexed.Byte place) is says = (faulty_text (Lex (lexed.Byte place)) is, says)
      lex_said (lexed.Unfinished place) is says = (faulty_text (Lex (lexed.Unfinished place)) is, says)
      lex_said (lexed.Limit limit) is says = absurd (omega (arith, is.0, in_limit))
      lex_said lexed.Memory is says = absurd says

      grammar_said : (tokens : Tokens) (fault : GrammarFault) → IsLexed text (Ok tokens) → IsParsed tokens (Err fault) → SaysGrammarFault file fault ending → Said (Grammar fault)
      grammar_said tokens (parsed.Token place) has_tokens is says = (faulty_text (Grammar (parsed.Token place)) (tokens, has_tokens, is), says)
      grammar_said tokens (parsed.Profile place) has_tokens is says = (faulty_text (Grammar (parsed.Profile place)) (tokens, has_tokens, is), says)
      grammar_said tokens (parsed.End place) has_tokens is says = (faulty_text (Grammar (parsed.End place)) (tokens, has_tokens, is), says)
      grammar_said tokens (parsed.Deep place) has_tokens is says = (faulty_text (Grammar (parsed.Deep place)) (tokens, has_tokens, is), says)
      grammar_said tokens parsed.Memory has_tokens is says = absurd says

      text_said : IsTextRefusal file text ending → (fault : TextFault) × Said fault
      text_said (inl (fault, is, says)) = (Lex fault, lex_said fault is says)
      text_said (inr (tokens, fault, has_tokens, is, says)) = (Grammar fault, grammar_said tokens fault has_tokens is says)

      sort_said : (is : IsTextSortRefusal file text ending) → Resolves told root file (Ok (text_alone file text is.items))
      sort_said is = alone_resolves file text is.items has in_limit in_budget is.spells is.whole

      pub text_refused : IsRefusalOfText file text ending → IsProblemRefusal told root file ending
      text_refused (inl is) = let said = text_said is in inl (included.Text file said.0, said.1.0, said.1.1)
      text_refused (inr is) = inr (text_alone file text is.items, sort_said is, is.says)

      pub text_absent : (R : Type 0) → IsRefusalOfText file text ending → R ⊎ SaysProblemFault told root file ending
      text_absent R (inl is) = let said = text_said is in inr (inl (included.Text file said.0, said.1.0, (λ written e. cc), said.1.1))
      text_absent R (inr is) = inr (inr (text_alone file text is.items, sort_said is, is.says))

  -- ---- a file that is not read

  any_over : (found : Option (List ℕ)) (limit : LimitName) (budget : ℕ) → IsSomeAnd found (λ file. IsOver limit budget (length file)) → IsSomeAnd found (λ file. Unit {0})
  any_over None limit budget past = past
  any_over (Some file) limit budget past = tt

  over_is_file : (files : Option Files) (file : List ℕ) (limit : LimitName) (budget : ℕ) → HasFile files file (λ bytes. IsOver limit budget (length bytes)) → HasFile files file (λ bytes. Unit {0})
  over_is_file None file limit budget has = tt
  over_is_file (Some files) file limit budget has = any_over (file_at files file) limit budget has

  module _ (file : List ℕ) (ending : Ending) where
    over_resolves : (limit : LimitName) → HasFile told file (λ bytes. IsOver limit TOTAL_SIZE (length bytes)) → Resolves told root file (Err (included.Limit file limit))
    over_resolves limit has = opened (first (over_is_file told file limit TOTAL_SIZE has)) refl (omega arith) (over has)

    missing_resolves : IsMissing told file → Resolves told root file (Err (included.Missing file))
    missing_resolves gone = missing (All-cons (IsMissing told) file [] gone (All-nil (IsMissing told)))

    pub unread_refused : IsUnread told file TOTAL_SIZE ending → IsProblemRefusal told root file ending
    unread_refused (inl (gone, says)) = inl (included.Missing file, missing_resolves gone, says)
    unread_refused (inr (limit, has, says)) = inl (included.Limit file limit, over_resolves limit has, says)

    pub unread_absent : (R : Type 0) → (ending.status ≡ 3 → R) → IsUnread told file TOTAL_SIZE ending → R ⊎ SaysProblemFault told root file ending
    unread_absent R rises (inl (gone, says)) = inl (rises (ap (λ (e : Ending). e.status) says))
    unread_absent R rises (inr (limit, has, says)) = inr (inl (included.Limit file limit, over_resolves limit has, (λ written e. cc), says))
