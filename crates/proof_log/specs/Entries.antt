-- The text of entries, one line each, and of a whole log.
use Rattle.std.specs.Prelude.{◌≡◌, ⊤, ℕ, ◌==◌, ◌||◌, ◌≤◌, Bool, List, [], ◌∷◌, ◌++◌, map, codes, if◌then◌else◌}
use Rattle.std.specs.List.{flat_map, AllByRecursion}
use Rattle.tptp_base.specs.Quotable.{IsQuotable}
use Rattle.fof_terms.specs.declared.signature.Kind.{Kind}
use Rattle.fof_terms.specs.declared.signature.Kind.TheVariants.{Function, Predicate}
use Rattle.kernel.specs.declared.entry.Decl.{Decl}
use Rattle.kernel.specs.declared.entry.Decl.TheVariants.{Sort, Symbol as SymbolOf}
use Rattle.kernel.specs.declared.entry.Entry.{Entry}
use Rattle.kernel.specs.declared.entry.Entry.TheVariants.{Declare, Lemma, Name, Choice}
use Rattle.first_fault.specs.Nesting.{Nested}
use Rattle.proof_log.specs.Words.{word, small, list_of, AreInRange, at_level, nested}
use Rattle.proof_log.specs.LogText.{number, numbers_text, form_words, form_text, proof_words, proof_text}
use Rattle.proof_log.specs.declared.write.TheConstants.{HEADER}

abbrev pub is_special : ℕ → Bool
is_special byte = byte == 39 || byte == 92

-- a character of a quoted word: a quote and a backslash have a backslash before them
abbrev pub escaped : ℕ → List ℕ
escaped byte = if is_special byte then 92 ∷ byte ∷ [] else byte ∷ []

-- a name as a single-quoted word
abbrev pub quoted : List ℕ → List ℕ
quoted name = 39 ∷ (flat_map escaped name ++ 39 ∷ [])

-- a declared symbol: a function has its result last
abbrev pub symbol_text : Kind → List ℕ → List ℕ → ℕ → List ℕ
symbol_text Function name args result = word (codes "f") ++ (word (quoted name) ++ (numbers_text args ++ number result))
symbol_text Predicate name args result = word (codes "p") ++ (word (quoted name) ++ numbers_text args)

abbrev pub decl_text : Decl → List ℕ
decl_text (Sort name) = word (codes "s") ++ word (quoted name)
decl_text (SymbolOf symbol) = symbol_text symbol.kind symbol.name symbol.args symbol.result

-- the line of an entry
abbrev pub entry_text : Entry → List ℕ
entry_text (Declare decl) = codes "D" ++ (decl_text decl ++ 10 ∷ [])
entry_text (Lemma proof) = codes "L" ++ (proof_text proof ++ 10 ∷ [])
entry_text (Name symbol body) = codes "N" ++ (number symbol ++ (form_text body ++ 10 ∷ []))
entry_text (Choice symbol body) = codes "C" ++ (number symbol ++ (form_text body ++ 10 ∷ []))

-- the log: its first line, and a line for each entry
unfoldable pub log_text : List Entry → List ℕ
log_text entries = HEADER.now ++ flat_map entry_text entries

abbrev pub HasNoResult : Kind → ℕ → Type 0
HasNoResult Function result = ⊤
HasNoResult Predicate result = result ≡ 0

abbrev pub IsWritableDecl : Decl → Type 0
IsWritableDecl (Sort name) = IsQuotable name
IsWritableDecl (SymbolOf symbol) = IsQuotable symbol.name × HasNoResult symbol.kind symbol.result

-- The entry can be read back from its text: a name that it declares has a spelling, and the result of a predicate,
-- which is not written, is 0.
abbrev pub IsWritable : Entry → Type 0
IsWritable (Declare decl) = IsWritableDecl decl
IsWritable (Lemma proof) = ⊤
IsWritable (Name symbol body) = ⊤
IsWritable (Choice symbol body) = ⊤

-- ---- the numbers

abbrev pub IsSmall : ℕ → Type 0
IsSmall n = n ≤ 4294967295

abbrev pub AreSmall : List ℕ → Type 0
AreSmall numbers = AreInRange (list_of (map (λ n. small n ∷ []) numbers))

abbrev pub AreNumbersInRange : Entry → Type 0
AreNumbersInRange (Declare (Sort name)) = ⊤
AreNumbersInRange (Declare (SymbolOf symbol)) = AreSmall symbol.args × IsSmall symbol.result
AreNumbersInRange (Lemma proof) = AreInRange (proof_words proof)
AreNumbersInRange (Name symbol body) = IsSmall symbol × AreInRange (form_words body)
AreNumbersInRange (Choice symbol body) = IsSmall symbol × AreInRange (form_words body)

-- the numbers in each of the entries fit their types
abbrev pub HaveNumbersInRange : List Entry → Type 0
HaveNumbersInRange entries = AllByRecursion AreNumbersInRange entries

-- The entry stands in logs: it can be read back, and its numbers fit their types.
pub record IsLogged (entry : Entry) : Type 0 where
  pub writable : IsWritable entry
  pub in_range : AreNumbersInRange entry

abbrev pub AreLogged : List Entry → Type 0
AreLogged [] = ⊤
AreLogged (entry ∷ entries) = IsLogged entry × AreLogged entries

-- ---- the bytes with their nesting

-- The names of trees are nested as deep as the trees; all other bytes are not nested.
abbrev pub nested_entry : Entry → List (Nested ℕ)
nested_entry (Declare decl) = at_level 0 (entry_text (Declare decl))
nested_entry (Lemma proof) = at_level 0 (codes "L") ++ (nested 0 (proof_words proof) ++ at_level 0 (10 ∷ []))
nested_entry (Name symbol body) = at_level 0 (codes "N") ++ (nested 0 (small symbol ∷ form_words body) ++ at_level 0 (10 ∷ []))
nested_entry (Choice symbol body) = at_level 0 (codes "C") ++ (nested 0 (small symbol ∷ form_words body) ++ at_level 0 (10 ∷ []))

unfoldable pub nested_log : List Entry → List (Nested ℕ)
nested_log entries = at_level 0 HEADER.now ++ flat_map nested_entry entries
