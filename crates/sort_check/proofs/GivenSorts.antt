-- What lines give is closed and well-sorted where they are.
use Rattle.std.proofs.Common.{◌≡◌, List, [], ◌∷◌, Option, Some, None, Result, Ok, Err, IfOk, sym, subst}
use Rattle.std.specs.List.{AllByRecursion}
use Rattle.std.proofs.lemmas.List.Elements.{All-from_recursion, recursion_from_All}
use Rattle.tptp_base.specs.declared.memory.Memory.{Memory}
use Rattle.tptp_base.specs.declared.item.Role.{Role}
use Rattle.tptp_base.specs.declared.item.Role.TheVariants as role
use Rattle.fof_terms.specs.Vocabulary.{Vocabulary}
use Rattle.fof_terms.proofs.SortsFacts.{is_sorted-Not, binder_depth-Not}
use Rattle.fof_terms.specs.declared.form.Form.{Form, Not}
use Rattle.sort_check.specs.declared.line.Line.{Line}
use Rattle.sort_check.specs.declared.line.GivenEntry.{GivenEntry}
use Rattle.sort_check.specs.Given.{given_form, with_entry, given_entries}
use Rattle.sort_check.specs.Sorting.{IsSentence, AreSorted, AreGivenSorted}

negated : (v : Vocabulary) (a : Form) → IsSentence v a → IsSentence v (Not a)
negated v a good = record { scope_fits = good.scope_fits; few_binders = rw binder_depth-Not good.few_binders; fits = rw is_sorted-Not good.fits }

abbrev EntriesFit : Vocabulary → List GivenEntry → Type 0
EntriesFit v entries = AllByRecursion (λ (entry : GivenEntry). IsSentence v entry.form) entries

abbrev IsFit : Vocabulary → Option Form → Type 0
IsFit v None = Unit {0}
IsFit v (Some a) = IsSentence v a

form_fits : (v : Vocabulary) (r : Role) (a : Form) → IsSentence v a → IsFit v (given_form r a)
form_fits v role.Axiom a good = good
form_fits v role.Hypothesis a good = good
form_fits v role.Definition a good = good
form_fits v role.Assumption a good = good
form_fits v role.Lemma a good = good
form_fits v role.Theorem a good = good
form_fits v role.Corollary a good = good
form_fits v role.NegatedConjecture a good = good
form_fits v role.Conjecture a good = negated v a good
form_fits v role.Plain a good = tt
form_fits v role.Typing a good = tt
form_fits v role.FiDomain a good = tt
form_fits v role.FiFunctors a good = tt
form_fits v role.FiPredicates a good = tt
form_fits v role.Unknown a good = tt

with_fits : (v : Vocabulary) (l : Line) (o : Option Form) (entries : List GivenEntry) → IsFit v o → EntriesFit v entries → EntriesFit v (with_entry l o entries)
with_fits v l None entries one all = all
with_fits v l (Some a) entries one all = (one, all)

entries_fit : (v : Vocabulary) (lines : List Line) → AllByRecursion (λ (l : Line). IsSentence v l.form) lines → EntriesFit v (given_entries lines)
entries_fit v [] all = tt
entries_fit v (l ∷ lines) all = with_fits v l (given_form l.role l.form) (given_entries lines) (form_fits v l.role l.form all.0) (entries_fit v lines all.1)

fit : (v : Vocabulary) (lines : List Line) → AreSorted v lines → AreGivenSorted v (given_entries lines)
fit v lines good =
    All-from_recursion (λ (entry : GivenEntry). IsSentence v entry.form) (given_entries lines) (entries_fit v lines (recursion_from_All (λ (l : Line). IsSentence v l.form) lines good))

pub given_sorted : (lines : List Line) (result : Result (List GivenEntry) Memory) → IfOk result (λ entries. entries ≡ given_entries lines) → IfOk result (λ entries. (v : Vocabulary) → AreSorted v lines → AreGivenSorted v entries)
given_sorted lines (Ok entries) is = λ v good. subst (AreGivenSorted v) (sym is) (fit v lines good)
given_sorted lines (Err fault) is = tt
