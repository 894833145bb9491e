-- The walk through files that are told has an answer.
use Rattle.std.specs.Prelude.{⊤, IsSomeAnd, IsNone}
use Rattle.std.proofs.Common.{◌≡◌, ◌⊎◌, inl, inr, ◌≤◌, ◌<◌, refl, sym, subst, arith, ℕ, zero, suc, ◌+◌, ◌-◌, Bool, true, false, List, [], ◌∷◌, length, All, Option, None, Some, Result, Ok, Err}
use Rattle.std.proofs.lemmas.Bool.{cases_lt}
use Rattle.std.proofs.lemmas.List.Elements.{All-nil, All-cons}
use Rattle.tptp_base.specs.declared.item.Include.{Include as Inclusion}
use Rattle.tptp_base.specs.declared.item.Item.{Item}
use Rattle.tptp_base.specs.declared.item.Item.TheVariants.{Comment, Formula, Include}
use Rattle.tptp_base.specs.declared.limit.LimitName.{LimitName}
use Rattle.tptp_base.specs.declared.limit.LimitName.TheVariants.{FileSize, TotalSize}
use Rattle.tptp_base.specs.declared.name.Name.{Name}
use Rattle.tptp_base.specs.declared.read.TheConstants.{FILE_SIZE}
use Rattle.tptp_base.specs.Read.{IsOver}
use Rattle.tptp_base.specs.Store.{Files, HasFile, IsMissing, file_at}
use Rattle.tptp_lexer.specs.declared.fault.LexFault.{LexFault}
use Rattle.tptp_lexer.specs.declared.fault.LexFault.TheVariants as lex
use Rattle.tptp_lexer.specs.declared.style.Style.TheVariants.{Problem as ProblemStyle}
use Rattle.tptp_lexer.specs.declared.token.Tokens.{Tokens}
use Rattle.tptp_lexer.specs.Answer as lexer
use Rattle.tptp_lexer.proofs.Answering as answering
use Rattle.tptp_grammar.specs.declared.fault.GrammarFault.{GrammarFault}
use Rattle.tptp_grammar.specs.declared.fault.GrammarFault.TheVariants as grammar
use Rattle.tptp_grammar.specs.Answers as parser
use Rattle.tptp_grammar.proofs.OneAnswer as parsing
use Rattle.include_resolve.specs.declared.fault.IncludeFault.TheVariants as fault
use Rattle.include_resolve.specs.declared.fault.TextFault.{TextFault}
use Rattle.include_resolve.specs.declared.fault.TextFault.TheVariants.{Lex, Grammar}
use Rattle.include_resolve.specs.declared.problem.Problem.{Problem}
use Rattle.include_resolve.specs.declared.problem.TheConstants.{MAX_DEPTH, TOTAL_SIZE}
use Rattle.include_resolve.specs.Names.{Text, tried_names, is_on}
use Rattle.include_resolve.specs.Parts.{Answer, file_alone, item_alone, nothing, before}
use Rattle.include_resolve.specs.Resolved as walk
use Rattle.include_resolve.specs.Resolved.{Walk, start, IsFirstFile, first, later, IsRead, Opens, Reads, Replaces, TakesItem, inside, beyond}
use Rattle.include_resolve.specs.Laws.{HasAnswer}
use Rattle.include_resolve.specs.Selection.{selected, chosen, unknown_name}
use Rattle.include_resolve.specs.Texts.{HasTokens, IsSpelled, IsFaulty}
use Rattle.tptp_lexer.specs.Answer.{whole}

-- ---- the text of a file

module _ (number : ℕ) (text : Text) (fits : length text ≤ FILE_SIZE) where
  abbrev Spelled : Type 0
  Spelled = ((items : List Item) × IsSpelled number text items) ⊎ ((f : TextFault) × IsFaulty number text f)

  by_parsing : (tokens : Tokens) → HasTokens number text tokens → (o : Result (List Item) GrammarFault) → (o ≡ Err grammar.Memory → ⊥) → parser.Answers tokens.style tokens.items tokens.end o → Spelled
  by_parsing tokens has (Ok items) some h = inl (items, record { tokens = tokens; lexed = has; parsed = h })
  by_parsing tokens has (Err (grammar.Token place)) some h = inr (Grammar (grammar.Token place), (tokens, has, h))
  by_parsing tokens has (Err (grammar.Profile place)) some h = inr (Grammar (grammar.Profile place), (tokens, has, h))
  by_parsing tokens has (Err (grammar.End place)) some h = inr (Grammar (grammar.End place), (tokens, has, h))
  by_parsing tokens has (Err (grammar.Deep place)) some h = inr (Grammar (grammar.Deep place), (tokens, has, h))
  by_parsing tokens has (Err grammar.Memory) some h = absurd (some refl)

  by_lexing : (o : Result Tokens LexFault) → (o ≡ Err lex.Memory → ⊥) → lexer.Answers number text (whole text) ProblemStyle o → Spelled
  by_lexing (Ok tokens) some h = let (o, known, answers) = parsing.some tokens.style tokens.items tokens.end in by_parsing tokens h o known answers
  by_lexing (Err (lex.Byte place)) some h = inr (Lex (lex.Byte place), h)
  by_lexing (Err (lex.Unfinished place)) some h = inr (Lex (lex.Unfinished place), h)
  by_lexing (Err (lex.Limit limit)) some h = absurd (omega (arith, h.0, fits))
  by_lexing (Err lex.Memory) some h = absurd (some refl)

  spelled_or_not : Spelled
  spelled_or_not = let (o, known, answers) = answering.some number text (whole text) ProblemStyle in by_lexing o known answers

-- ---- files

-- so many bytes are over a limit or over none
abbrev IsOverOrNot : ℕ → ℕ → Type 0
IsOverOrNot budget count = ((limit : LimitName) × IsOver limit budget count) ⊎ ((count ≤ FILE_SIZE) × (count ≤ budget))

over_or_not : (budget count : ℕ) → IsOverOrNot budget count
over_or_not budget count = elim (cases_lt FILE_SIZE count) [
  | inl over ↦ inl (FileSize, over)
  | inr fits ↦ elim (cases_lt budget count) [
    | inl over ↦ inl (TotalSize, (fits, over))
    | inr in_budget ↦ inr (fits, in_budget)
  ]
]

module _ (files : Files) where
  abbrev told : Option Files
  told = Some files

  has_file : (name bytes : Text) (P : Text → Type 0) → file_at files name ≡ Some bytes → P bytes → HasFile told name P
  has_file name bytes P is h = subst (λ (o : Option Text). IsSomeAnd o P) (sym is) h

  record Found (names : List Text) : Type 0 where
    name : Text
    bytes : Text
    there : file_at files name ≡ Some bytes
    is_first : IsFirstFile told names name

  found_or_none : (names : List Text) → Found names ⊎ All (IsMissing told) names
  found_or_none [] = inr (All-nil (IsMissing told))
  found_or_none (name ∷ names) = go (file_at files name) refl (found_or_none names)
    where
      go : (o : Option Text) → file_at files name ≡ o → Found names ⊎ All (IsMissing told) names → Found (name ∷ names) ⊎ All (IsMissing told) (name ∷ names)
      go (Some bytes) is others = inl (record { name = name; bytes = bytes; there = is; is_first = first (has_file name bytes (λ file. ⊤) is tt) })
      go None is (inl f) = inl (record { name = f.name; bytes = f.bytes; there = f.there; is_first = later (subst (λ (o : Option Text). IsNone o) (sym is) refl) f.is_first })
      go None is (inr all) = inr (All-cons (IsMissing told) name names (subst (λ (o : Option Text). IsNone o) (sym is) refl) all)

  -- ---- the walk

  -- no more bytes than may be read
  abbrev InTotal : ℕ → Answer → Type 0
  InTotal read (Ok part) = read + part.read ≤ TOTAL_SIZE
  InTotal read (Err cause) = ⊤

  total_before : (read : ℕ) (part : Problem) (answer : Answer) → InTotal (read + part.read) answer → InTotal read (before part answer)
  total_before read part (Ok rest) h = omega (arith, h)
  total_before read part (Err cause) h = tt

  total_chosen : (read : ℕ) (file : Text) (names : List Name) (part : Problem) (unknown : Option Name) → InTotal read (Ok part) → InTotal read (chosen file names part unknown)
  total_chosen read file names part (Some name) h = tt
  total_chosen read file names part None h = h

  total_selected : (read : ℕ) (file : Text) (selection : Option (List Name)) (answer : Answer) → InTotal read answer → InTotal read (selected file selection answer)
  total_selected read file None answer h = h
  total_selected read file (Some names) (Ok part) h = total_chosen read file names part (unknown_name names part.items) h
  total_selected read file (Some names) (Err cause) h = tt

  module _ (root : Option Text) where
    abbrev Opened : Walk → List Text → Text → Option (List Name) → Type 0
    Opened w names written selection = (answer : Answer) × Opens told root w names written selection answer × InTotal w.read answer

    abbrev IsReadable : Walk → Text → Type 0
    IsReadable w name = (answer : Answer) × Reads told root w name answer × InTotal w.read answer

    abbrev Replaced : Walk → Text → List Item → Type 0
    Replaced w from items = (answer : Answer) × Replaces told root w from items answer × InTotal w.read answer

    abbrev Taken : Walk → Text → Item → Type 0
    Taken w from item = (answer : Answer) × TakesItem told root w from item answer × InTotal w.read answer

    -- what is given inside so many open files
    abbrev AtDepth : ℕ → Type 0
    AtDepth depth = (w : Walk) → length w.path ≡ depth → w.read ≤ TOTAL_SIZE → (names : List Text) (written : Text) (selection : Option (List Name)) → Opened w names written selection

    module _ (depth : ℕ) (again : AtDepth depth) where
      replaced_by : (w : Walk) (from : Text) (inclusion : Inclusion) → Opened w (tried_names from root inclusion.file) inclusion.file inclusion.names → Taken w from (Include inclusion)
      replaced_by w from inclusion (answer, opens, fits) = (answer, walk.replaced opens, fits)

      takes_some : (w : Walk) → length w.path ≡ depth → w.read ≤ TOTAL_SIZE → (from : Text) (item : Item) → Taken w from item
      takes_some w is fits from (Comment text) = (Ok (item_alone (Comment text)), walk.comment, omega (arith, fits))
      takes_some w is fits from (Formula annotated) = (Ok (item_alone (Formula annotated)), walk.formula, omega (arith, fits))
      takes_some w is fits from (Include inclusion) = replaced_by w from inclusion (again w is fits (tried_names from root inclusion.file) inclusion.file inclusion.names)

      goes_on : (w : Walk) (from : Text) (item : Item) (items : List Item) (part : Problem) → TakesItem told root w from item (Ok part) → Replaced (beyond w part) from items → Replaced w from (item ∷ items)
      goes_on w from item items part takes (answer, replaces, fits) = (before part answer, walk.went_on takes replaces, total_before w.read part answer fits)

      replaces_on : (w : Walk) (from : Text) (item : Item) (items : List Item) → Taken w from item → ((part : Problem) → w.read + part.read ≤ TOTAL_SIZE → Replaced (beyond w part) from items) → Replaced w from (item ∷ items)
      replaces_on w from item items (Err cause, takes, fits) more = (Err cause, walk.stopped takes, tt)
      replaces_on w from item items (Ok part, takes, fits) more = goes_on w from item items part takes (more part fits)

      replaces_some : (items : List Item) (w : Walk) → length w.path ≡ depth → w.read ≤ TOTAL_SIZE → (from : Text) → Replaced w from items
      replaces_some [] w is fits from = (Ok nothing, walk.done, omega (arith, fits))
      replaces_some (item ∷ items) w is fits from = replaces_on w from item items (takes_some w is fits from item) (λ part le. replaces_some items (beyond w part) is le from)

    module _ (w : Walk) (again : AtDepth (suc (length w.path))) where
      module _ (name bytes : Text) (is : file_at files name ≡ Some bytes) where
        spelled_so : (read : IsRead told w name bytes) (items : List Item) → IsSpelled w.opened bytes items → Replaced (inside w name (length bytes)) name items → IsReadable w name
        spelled_so read items spelled (answer, replaces, fits) = (before (file_alone name (length bytes)) answer, walk.spelled read spelled replaces, total_before w.read (file_alone name (length bytes)) answer fits)

        reads_fitting : length bytes ≤ FILE_SIZE → w.read + length bytes ≤ TOTAL_SIZE → IsReadable w name
        reads_fitting fits in_budget =
            let read : IsRead told w name bytes = record { whole = has_file name bytes (λ file. file ≡ bytes) is refl; in_limit = fits; in_budget = in_budget } in
            elim (spelled_or_not w.opened bytes fits) [
              | inl spelled ↦ spelled_so read spelled.0 spelled.1 (replaces_some (suc (length w.path)) again spelled.0 (inside w name (length bytes)) (omega arith) in_budget name)
              | inr faulty ↦ (Err (fault.Text name faulty.0), walk.faulty read faulty.1, tt)
            ]

        reads_some : w.read ≤ TOTAL_SIZE → IsReadable w name
        reads_some in_total = elim (over_or_not (TOTAL_SIZE - w.read) (length bytes)) [
          | inl over ↦ (Err (fault.Limit name over.0), walk.over (has_file name bytes (λ file. IsOver over.0 (TOTAL_SIZE - w.read) (length file)) is over.1), tt)
          | inr fits ↦ reads_fitting fits.0 (omega (arith, fits.1, in_total))
        ]

    module _ (w : Walk) (names : List Text) (written : Text) (selection : Option (List Name)) (in_total : w.read ≤ TOTAL_SIZE) where
      opened_so : (name : Text) → IsFirstFile told names name → is_on w.path name ≡ false → length w.path ≤ MAX_DEPTH → IsReadable w name → Opened w names written selection
      opened_so name found off room (answer, reads, fits) = (selected name selection answer, walk.opened found off room reads, total_selected w.read name selection answer fits)

      opens_file : (f : Found names) → (length w.path ≤ MAX_DEPTH → AtDepth (suc (length w.path))) → (on : Bool) → is_on w.path f.name ≡ on → Opened w names written selection
      opens_file f again true on = (Err (fault.Cycle f.name), walk.cycle f.is_first on, tt)
      opens_file f again false off = elim (cases_lt MAX_DEPTH (length w.path)) [
        | inl deep ↦ (Err (fault.DeepInclude f.name), walk.too_deep f.is_first off deep, tt)
        | inr room ↦ opened_so f.name f.is_first off room (reads_some w (again room) f.name f.bytes f.there in_total)
      ]

      opens_some : (length w.path ≤ MAX_DEPTH → AtDepth (suc (length w.path))) → Opened w names written selection
      opens_some again = elim (found_or_none names) [
        | inl f ↦ opens_file f again (is_on w.path f.name) refl
        | inr none ↦ (Err (fault.Missing written), walk.missing none, tt)
      ]

    at_depth : (n depth : ℕ) → MAX_DEPTH < n + depth → AtDepth depth
    at_depth zero depth far = λ w is fits names written selection. opens_some w names written selection fits (λ room. absurd (omega (arith, far, is, room)))
    at_depth (suc n) depth far = λ w is fits names written selection.
        opens_some w names written selection fits (λ room. subst (λ (k : ℕ). AtDepth (suc k)) (sym is) (at_depth n (suc depth) (omega (arith, far))))

-- a file has an answer with all that it includes
pub some : (files : Files) (root : Option Text) (name : Text) → HasAnswer files root name
some files root name = let (answer, opens, fits) = at_depth files root (MAX_DEPTH + 1) 0 (omega arith) start refl (omega arith) (name ∷ []) name None in (answer, opens)
