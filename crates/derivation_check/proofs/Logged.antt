-- The log of a check can be read back: each name that it declares can be written between quotes, and its numbers fit
-- their types.
use Rattle.std.proofs.Common.{◌≡◌, ℕ, List, [], ◌∷◌, ◌++◌, Bool, length, map, drop, refl, sym, ◌∙◌, ap, subst}
use Rattle.std.proofs.Math.Seq.{drop-append_seam}
use Rattle.std.specs.List.{AllByRecursion}
use Rattle.tptp_base.specs.Quotable.{AreQuotable}
use Rattle.fof_terms.specs.Vocabulary.{Vocabulary}
use Rattle.fof_terms.specs.declared.signature.Kind.{Kind}
use Rattle.fof_terms.specs.declared.signature.Kind.TheVariants.{Function, Predicate}
use Rattle.fof_terms.specs.declared.signature.Symbol.{Symbol}
use Rattle.kernel.specs.Statements.{Statements}
use Rattle.kernel.specs.declared.entry.Entry.{Entry}
use Rattle.kernel.specs.declared.entry.Entry.TheVariants.{Declare}
use Rattle.kernel.specs.declared.entry.Decl.TheVariants as decl
use Rattle.proof_log.specs.Entries.{HasNoResult, HaveNumbersInRange, AreLogged}
use Rattle.proof_log.proofs.EntriesFacts.{AreWritable}
use Rattle.sort_check.specs.Bringing.{IsNamed, Brings}
use Rattle.derivation_text.specs.declared.derivation.Derivation.{Derivation}
use Rattle.verifier.specs.Declarations.{declarations}
use Rattle.verifier.proofs.Writing.{writable_both, run_writable, last_writable}
use Rattle.derivation_check.specs.Cases.{Asked, lines_over, widened}
use Rattle.derivation_check.specs.Checks.{Checks}

-- ---- declarations

no_result : (kind : Kind) (result : ℕ) → (kind ≡ Predicate → result ≡ 0) → HasNoResult kind result
no_result Function result is = tt
no_result Predicate result is = is refl

sorts_writable : (names : List (List ℕ)) → AreQuotable names → AreWritable (map (λ name. Declare (decl.Sort name)) names)
sorts_writable [] all = tt
sorts_writable (name ∷ names) all = (all.0, sorts_writable names all.1)

symbols_writable : (symbols : List Symbol) → AllByRecursion IsNamed symbols → AreWritable (map (λ symbol. Declare (decl.Symbol symbol)) symbols)
symbols_writable [] all = tt
symbols_writable (s ∷ symbols) all = ((all.0.quotable, no_result s.kind s.result all.0.no_result), symbols_writable symbols all.1)

behind : {X : Type 0} (front whole more : List X) → whole ≡ front ++ more → drop (length front) whole ≡ more
behind front whole more is = ap (drop (length front)) is ∙ drop-append_seam front more

declarations_writable : (v w : Vocabulary) → Brings v w → AreWritable (declarations v w)
declarations_writable v w brings =
    writable_both (map (λ name. Declare (decl.Sort name)) (drop (length v.sorts) w.sorts)) (map (λ symbol. Declare (decl.Symbol symbol)) (drop (length v.symbols) w.symbols))
    (subst (λ (names : List (List ℕ)). AreWritable (map (λ name. Declare (decl.Sort name)) names)) (sym (behind v.sorts w.sorts brings.more_sorts brings.sorts)) (sorts_writable brings.more_sorts brings.quotable))
    (subst (λ (symbols : List Symbol). AreWritable (map (λ symbol. Declare (decl.Symbol symbol)) symbols)) (sym (behind v.symbols w.symbols brings.more_symbols brings.symbols)) (symbols_writable brings.more_symbols brings.named))

-- ---- the whole log

logged_of : (entries : List Entry) → AreWritable entries → HaveNumbersInRange entries → AreLogged entries
logged_of [] writable in_range = tt
logged_of (entry ∷ entries) writable in_range = (record { writable = writable.0; in_range = in_range.0 }, logged_of entries writable.1 in_range.1)

-- where the derivation names what it brings
pub check_logged : (asked : Asked) (t : Statements) (d : Derivation) (w : Vocabulary) (verified : Bool) (report log : List ℕ) (c : Checks asked t d w verified report log) → Brings t.vocabulary w → AreLogged (c.entries ++ c.last)
check_logged asked t d w verified report log c brings =
    let run = subst AreWritable (sym c.runs.entries_are) (writable_both (declarations t.vocabulary w) c.runs.own (declarations_writable t.vocabulary w brings) (run_writable (widened t w) (lines_over t d asked.limit) d.graph.order c.answers c.runs.own c.end c.runs.run)) in
    logged_of (c.entries ++ c.last) (writable_both c.entries c.last run (last_writable c.verdict d.forms c.runs.run.numbers c.last c.closes)) c.in_range
