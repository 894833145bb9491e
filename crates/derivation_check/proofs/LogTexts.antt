-- How the parts of a log make a log.
use Rattle.std.proofs.Common.{◌≡◌, inr, ℕ, List, [], ◌++◌, Option, refl, sym, ◌∙◌, ap, subst, append_assoc}
use Rattle.std.proofs.lemmas.List.{append-nil}
use Rattle.std.proofs.lemmas.Grind.{flat_map-append}
use Rattle.std.specs.Io.KnownBytes.{append_known}
use Rattle.tptp_base.specs.Sink.{Takes, TakesPrefix}
use Rattle.tptp_base.proofs.Taken.{takes_both, takes_then_prefix}
use Rattle.kernel.specs.Statements.{Statements}
use Rattle.kernel.specs.Entries.{Admits}
use Rattle.kernel.proofs.EntryLaws.{admits_append}
use Rattle.kernel.specs.declared.entry.Entry.{Entry}
use Rattle.proof_log.specs.Entries.{log_text, entry_text}
use Rattle.proof_log.specs.declared.write.TheConstants.{HEADER}
use Rattle.verifier.specs.Logged.{LogsSome, entries_text}
use Rattle.derivation_check.specs.Logs.{TakesSomeOfLog}

-- the text of a log is its first line and then its entries
header_first : (entries : List Entry) → log_text entries ≡ HEADER.now ++ entries_text entries
unfolding log_text
header_first entries = refl

-- entries behind a log make a longer log
pub log_append : (entries more : List Entry) → log_text entries ++ entries_text more ≡ log_text (entries ++ more)
log_append entries more =
    ap (λ (text : List ℕ). text ++ entries_text more) (header_first entries)
    ∙ append_assoc HEADER.now (entries_text entries) (entries_text more)
    ∙ ap (λ (text : List ℕ). HEADER.now ++ text) (sym (flat_map-append entry_text entries more))
    ∙ sym (header_first (entries ++ more))

-- the first line and entries
pub log_begun : (old mid new : Option (List ℕ)) (entries : List Entry) → Takes old mid HEADER.now → Takes mid new (entries_text entries) → Takes old new (log_text entries)
log_begun old mid new entries first second = takes_both old mid new HEADER.now (entries_text entries) first second ∙ ap (append_known old) (sym (header_first entries))

pub log_more : (old mid new : Option (List ℕ)) (entries more : List Entry) → Takes old mid (log_text entries) → Takes mid new (entries_text more) → Takes old new (log_text (entries ++ more))
log_more old mid new entries more first second = takes_both old mid new (log_text entries) (entries_text more) first second ∙ ap (append_known old) (log_append entries more)

-- the first line is cut
pub header_cut : (t : Statements) (old new : Option (List ℕ)) → TakesPrefix old new HEADER.now → TakesSomeOfLog t old new
header_cut t old new cut = inr ([], t, refl, subst (TakesPrefix old new) (sym (append-nil HEADER.now) ∙ sym (header_first [])) cut)

-- entries are cut behind the first line
pub begun_cut : (t : Statements) (old mid new : Option (List ℕ)) → Takes old mid HEADER.now → LogsSome t mid new → TakesSomeOfLog t old new
begun_cut t old mid new first cut =
    inr (cut.entries, cut.theory, cut.legal, subst (TakesPrefix old new) (sym (header_first cut.entries)) (takes_then_prefix old mid new HEADER.now (entries_text cut.entries) first cut.taken))

-- further entries are cut
pub log_cut : (t u : Statements) (entries : List Entry) (old mid new : Option (List ℕ)) → Admits t entries u → Takes old mid (log_text entries) → LogsSome u mid new → TakesSomeOfLog t old new
log_cut t u entries old mid new legal taken cut =
    inr (entries ++ cut.entries, cut.theory, admits_append t u cut.theory entries cut.entries legal cut.legal, subst (TakesPrefix old new) (log_append entries cut.entries) (takes_then_prefix old mid new (log_text entries) (entries_text cut.entries) taken cut.taken))

-- a whole log is some of a log
pub log_all : (t u : Statements) (entries : List Entry) (old new : Option (List ℕ)) → Admits t entries u → Takes old new (log_text entries) → TakesSomeOfLog t old new
log_all t u entries old new legal taken = inr (entries, u, legal, (log_text entries, [], append-nil (log_text entries), taken))
