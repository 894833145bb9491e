-- How the lines of entries make up what a log has taken.
use Rattle.std.proofs.Common.{◌≡◌, ℕ, List, [], ◌∷◌, ◌++◌, Option, refl, sym, subst}
use Rattle.std.proofs.lemmas.List.{append-nil}
use Rattle.std.proofs.lemmas.Grind.{flat_map-append}
use Rattle.tptp_base.specs.Sink.{Takes, TakesPrefix}
use Rattle.tptp_base.proofs.Taken.{takes_nothing, takes_both, takes_then_prefix}
use Rattle.kernel.specs.Statements.{Statements}
use Rattle.kernel.specs.Entries.{Admits}
use Rattle.kernel.proofs.EntryLaws.{admits_append}
use Rattle.kernel.specs.declared.entry.Entry.{Entry}
use Rattle.proof_log.specs.Entries.{HaveNumbersInRange, entry_text}
use Rattle.verifier.specs.Logged.{LogsSome, entries_text}

pub text_append : (first second : List Entry) → entries_text (first ++ second) ≡ entries_text first ++ entries_text second
text_append first second = flat_map-append entry_text first second

-- entries and then others are taken
pub takes_more_entries : (old mid new : Option (List ℕ)) (first second : List Entry) → Takes old mid (entries_text first) → Takes mid new (entries_text second) → Takes old new (entries_text (first ++ second))
takes_more_entries old mid new first second one two =
    subst (Takes old new) (sym (text_append first second)) (takes_both old mid new (entries_text first) (entries_text second) one two)

-- their numbers fit their types
pub range_both : (first second : List Entry) → HaveNumbersInRange first → HaveNumbersInRange second → HaveNumbersInRange (first ++ second)
range_both [] second one two = two
range_both (entry ∷ first) second one two = (one.0, range_both first second one.1 two)

-- the lines of entries that are taken whole
pub logs_all : (t u : Statements) (entries : List Entry) (old new : Option (List ℕ)) → Admits t entries u → Takes old new (entries_text entries) → LogsSome t old new
logs_all t u entries old new legal taken = record { entries = entries; theory = u; legal = legal; taken = (entries_text entries, [], append-nil (entries_text entries), taken) }

pub logs_none : (t : Statements) (log : Option (List ℕ)) → LogsSome t log log
logs_none t log = logs_all t t [] log log refl (takes_nothing log)

-- some lines are taken behind others
pub logs_more : (t u : Statements) (entries : List Entry) (old mid new : Option (List ℕ)) → Admits t entries u → Takes old mid (entries_text entries) → LogsSome u mid new → LogsSome t old new
logs_more t u entries old mid new legal taken cut = record {
  entries = entries ++ cut.entries;
  theory = cut.theory;
  legal = admits_append t u cut.theory entries cut.entries legal cut.legal;
  taken = subst (TakesPrefix old new) (sym (text_append entries cut.entries)) (takes_then_prefix old mid new (entries_text entries) (entries_text cut.entries) taken cut.taken);
}
