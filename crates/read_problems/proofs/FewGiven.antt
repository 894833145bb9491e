-- Fewer formulas are given than a problem may have items.
use Rattle.std.proofs.Common.{◌≡◌, ℕ, ◌+◌, ◌<◌, ◌≤◌, ◌^◌, true, false, List, [], ◌∷◌, length, Option, Some, None, Err, Ok, refl, ap, arith}
use Rattle.tptp_base.specs.declared.item.Item.{Item}
use Rattle.tptp_base.specs.Store.{Files}
use Rattle.fof_terms.specs.Vocabulary.{Vocabulary}
use Rattle.fof_terms.specs.declared.form.Form.{Form}
use Rattle.include_resolve.specs.declared.problem.TheConstants.{TOTAL_SIZE}
use Rattle.include_resolve.proofs.Counts.{problem_few}
use Rattle.sort_check.specs.declared.fault.SortFault.{SortFault}
use Rattle.sort_check.specs.declared.line.Line.{Line}
use Rattle.sort_check.specs.declared.line.GivenEntry.{GivenEntry}
use Rattle.sort_check.specs.declared.line.TextKind.{TextKind}
use Rattle.sort_check.specs.declared.line.TextKind.TheVariants as kind
use Rattle.sort_check.specs.Given.{given_entries, given_form, with_entry}
use Rattle.sort_check.specs.Outcomes.{Outcome, mapped}
use Rattle.sort_check.specs.Symbols.{Text}
use Rattle.sort_check.specs.Texts.{Declared, Reading, line_item, with_line, lines_from, type_lines, only_vocabulary, denoted}
use Rattle.sort_check.proofs.Stepping.{at_ok, then_ok, mapped_ok}
use Rattle.read_problems.specs.Denotations.{IsDenotation}
use Rattle.read_problems.specs.declared.denotations.Denotation.{Denotation}
use Rattle.read_problems.specs.Denoted.{first_vocabulary}

line_more : (found : Option Line) (lines : List Line) → length (with_line found lines) ≤ length lines + 1
line_more (Some l) lines = omega arith
line_more None lines = omega arith

from_few : (k : TextKind) (names : List Text) (number : ℕ) (items : List Item) (s t : Reading) (lines : List Line) → lines_from k names number items s ≡ Ok (lines, t) → length lines ≤ length items
from_few k names number [] s t lines e = at_ok {E = SortFault} (λ (ls : List Line) (u : Reading). length ls ≤ 0) [] lines s t e (omega arith)
from_few k names number (i ∷ items) s t lines e =
    let parts = then_ok (line_item k names number i s) (λ found u. mapped (with_line found) (lines_from k names (number + 1) items u)) lines t e in
    let rest = mapped_ok (with_line parts.0) (lines_from k names (number + 1) items parts.1) lines t parts.3 in
    let few = from_few k names (number + 1) items parts.1 t rest.0 rest.1 in
    omega (arith, few, line_more parts.0 rest.0, ap length rest.2)

only_ok : (o : Outcome SortFault Reading (List Line)) (lines : List Line) (w : Vocabulary) → only_vocabulary o ≡ Ok (lines, w) → (t : Reading) × (o ≡ Ok (lines, t))
only_ok (Err x) lines w e = absurd cc
only_ok (Ok p) lines w e = at_ok {E = SortFault} (λ (ls : List Line) (u : Vocabulary). (t : Reading) × (◌≡◌ {A = Outcome SortFault Reading (List Line)} (Ok p) (Ok (ls, t)))) p.0 lines p.1.vocabulary w e (p.1, refl)

lines_few : (k : TextKind) (items : List Item) (v w : Vocabulary) (lines : List Line) → denoted items v k ≡ Ok (lines, w) → length lines ≤ length items
lines_few k items v w lines e =
    let start : Declared = record { vocabulary = v; names = [] } in
    let parts = then_ok (type_lines items start) (λ done d. only_vocabulary (lines_from k d.names 0 items (record { vocabulary = d.vocabulary; conjectured = false }))) lines w e in
    let begun : Reading = record { vocabulary = parts.1.vocabulary; conjectured = false } in
    let inner = only_ok (lines_from k parts.1.names 0 items begun) lines w parts.3 in
    from_few k parts.1.names 0 items begun inner.0 lines inner.1

entry_more : (l : Line) (o : Option Form) (entries : List GivenEntry) → length (with_entry l o entries) ≤ length entries + 1
entry_more l (Some a) entries = omega arith
entry_more l None entries = omega arith

entries_few : (lines : List Line) → length (given_entries lines) ≤ length lines
entries_few [] = omega arith
entries_few (l ∷ lines) = omega (arith, entries_few lines, entry_more l (given_form l.role l.form) (given_entries lines))

pub few_given : (told : Option Files) (root : Option (List ℕ)) (file : List ℕ) (d : Denotation) → IsDenotation told root file true d → (given : List GivenEntry) → d.read ≤ TOTAL_SIZE → given ≡ given_entries d.lines → length given < 2 ^ 32
few_given told root file d is given fits gives =
    omega (arith, fits, is.read, ap length gives, ap length is.kept_lines, entries_few d.lines, lines_few kind.Problem is.whole.items first_vocabulary d.signature is.lines is.denotes, problem_few told root file is.whole is.resolves)
