-- What the functions that read entries compute.
use Rattle.std.specs.Prelude.{ℕ, ◌==◌, Bool, true, false, if◌then◌else◌, List, [], ◌∷◌, Ok}
use Rattle.first_fault.specs.code.Reading.{Reader, refuse, mapped, opened, closed}
use Rattle.fof_terms.specs.declared.signature.Kind.TheVariants.{Function, Predicate}
use Rattle.kernel.specs.declared.entry.Decl.{Decl}
use Rattle.kernel.specs.declared.entry.Decl.TheVariants.{Sort, Symbol as SymbolOf}
use Rattle.kernel.specs.declared.entry.Entry.{Entry}
use Rattle.kernel.specs.declared.entry.Entry.TheVariants.{Declare, Lemma, Name, Choice}
use Rattle.proof_log.specs.declared.name.DeclName.{DeclName}
use Rattle.proof_log.specs.declared.name.EntryName.{EntryName}
use Rattle.tptp_base.specs.Quotable.{is_printable}
use Rattle.proof_log.specs.Entries.{is_special}
use Rattle.proof_log.specs.code.Names.{decl_name, entry_name, decl_names, entry_names}
use Rattle.proof_log.specs.code.ReadWords.{is_byte, number, listed, both, name, head}
use Rattle.proof_log.specs.code.ReadTrees.{behind, form, proof}
use Rattle.proof_log.specs.declared.name.DeclName.TheVariants as d
use Rattle.proof_log.specs.declared.name.EntryName.TheVariants as e

-- ---- quoted names

-- the characters that are left, and the closing quote; the Bool says whether a backslash stands in front
abbrev pub characters : Bool → Reader ℕ (List ℕ)
characters escape [] = refuse []
characters true (b ∷ ts) = if is_special b then mapped (λ n. b ∷ n) (characters false ts) else refuse (b ∷ ts)
characters false (b ∷ ts) = if b == 39 then Ok ([], ts) else if b == 92 then characters true ts else if is_printable b then mapped (λ n. b ∷ n) (characters false ts) else refuse (b ∷ ts)

-- one or more characters, and the closing quote
abbrev pub some_characters : Reader ℕ (List ℕ)
some_characters [] = refuse []
some_characters (b ∷ ts) = if b == 39 then refuse (b ∷ ts) else if b == 92 then characters true ts else if is_printable b then mapped (λ n. b ∷ n) (characters false ts) else refuse (b ∷ ts)

unfoldable pub quoted : Reader ℕ (List ℕ)
quoted = opened (is_byte 32) (opened (is_byte 39) some_characters)

-- ---- entries

abbrev pub function_of : List ℕ × (List ℕ × ℕ) → Decl
function_of v = SymbolOf (record { name = v.0; kind = Function; args = v.1.0; result = v.1.1 })

abbrev pub predicate_of : List ℕ × List ℕ → Decl
predicate_of v = SymbolOf (record { name = v.0; kind = Predicate; args = v.1; result = 0 })

abbrev pub decl_by : DeclName → Reader ℕ Decl
decl_by d.Sort ts = mapped Sort (quoted ts)
decl_by d.Function ts = mapped function_of (both quoted (both (listed (number 4294967295)) (number 4294967295)) ts)
decl_by d.Predicate ts = mapped predicate_of (both quoted (listed (number 4294967295)) ts)

unfoldable pub declaration : Reader ℕ Decl
declaration = behind (head decl_name decl_names) decl_by

-- The number is how deep trees may nest.
abbrev pub entry_by : ℕ → EntryName → Reader ℕ Entry
entry_by room e.Declare ts = mapped Declare (declaration ts)
entry_by room e.Lemma ts = mapped Lemma (proof room ts)
entry_by room e.Name ts = mapped (λ v. Name v.0 v.1) (both (number 4294967295) (form room) ts)
entry_by room e.Choice ts = mapped (λ v. Choice v.0 v.1) (both (number 4294967295) (form room) ts)

-- an entry with its line feed
unfoldable pub entry : ℕ → Reader ℕ Entry
entry room = closed (is_byte 10) (behind (name entry_name entry_names) (entry_by room))
