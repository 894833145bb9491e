-- The text of a proof is read as its derivation.
use Rattle.std.specs.Prelude.{ℕ, ◌≡◌, ◌≤◌, Bool, true, false, List, ◌++◌, length, codes, refl}
use Rattle.std.specs.List.{list_all}
use Rattle.std.proofs.Common.{sym, subst, arith}
use Rattle.std.proofs.lemmas.List.{length-append}
use Rattle.tptp_base.specs.Place.{is_no_line_feed}
use Rattle.tptp_base.specs.declared.item.Item.{Item}
use Rattle.tptp_base.specs.declared.read.TheConstants.{FILE_SIZE}
use Rattle.fof_terms.specs.Vocabulary.{Vocabulary}
use Rattle.canon_print.specs.Canonical.{canonical_text}
use Rattle.sort_check.specs.declared.line.GivenEntry.{GivenEntry}
use Rattle.tstp_graph.specs.Graphs.{IsGraph}
use Rattle.derivation_check.specs.Claim.{default_word}
use Rattle.derivation_text.specs.Derivations.{IsDerivation, IsDerivationFault, denied_forms, places_of}
use Rattle.derivation_text.specs.Derivations as read
use Rattle.derivation_text.specs.Wants.{IsWant}
use Rattle.derivation_text.specs.declared.derivation.Derivation.{Derivation as Checked}
use Rattle.derivation_text.specs.declared.fault.DerivationFault.{DerivationFault}
use Rattle.derivation_text.proofs.OneDerivation.{derivation_wants}
use Rattle.derivation_items.specs.Items.{first_place}
use Rattle.derivation_items.specs.Typings.{typings_of}
use Rattle.derivation_items.specs.Words.{Text, printable_text}
use Rattle.refutation_lines.specs.declared.derivation.Derivation.{Derivation}
use Rattle.problem_proofs.specs.Found.{vocabulary_of}
use Rattle.tptp_commands.specs.Presented.{head, proof_text, szs_line}
use Rattle.presented_texts.specs.Presented.{SpellsSame}
use Rattle.derivation_order.specs.Graphs.{names_of}
use Rattle.derivation_order.proofs.Alike.{one_graph}
use Rattle.derivation_order.proofs.Found.{found_linked}
use Rattle.derivation_order.proofs.Graphed.{graph_of_lines}
use Rattle.derivation_sentences.proofs.Reading.{read_denote}
use Rattle.derivation_sentences.proofs.Telling.{forms_tell}
use Rattle.derivation_follows.specs.Cases.{IsReadAs}
use Rattle.writable_lines.proofs.Naming.{names_are}
use Rattle.writable_lines.proofs.Whole.{derivation_spelled, items_written}
use Rattle.proofs_are_verified.specs.Printed.{IsPrintedProof}

word_free : (conjecture : Bool) → list_all is_no_line_feed (default_word conjecture) ≡ true
word_free true = refl
word_free false = refl

-- the items are no longer than the text that presents them
items_short : (file status : Text) (items : List Item) → length (proof_text file status items) ≤ FILE_SIZE → length (canonical_text items) ≤ FILE_SIZE
items_short file status items short =
    let name = printable_text file in
    let tail = szs_line name (codes "% SZS output end CNFRefutation") in
    let outer = length-append (head name status) (canonical_text items ++ tail) in
    let inner = length-append (canonical_text items) tail in
    omega (arith, short, outer, inner)

module _ (v : Vocabulary) (given : List GivenEntry) (limit : ℕ) (file : List ℕ) (conjecture : Bool) (d : Derivation) (text : List ℕ) (p : IsPrintedProof v given limit file conjecture d text) where
  abbrev whole : Vocabulary
  whole = vocabulary_of v d

  spelled : SpellsSame text p.items
  spelled =
      let status = default_word conjecture in
      let short : length (proof_text file status p.items) ≤ FILE_SIZE = subst (λ (z : Text). length z ≤ FILE_SIZE) p.is p.short in
      let written = items_written v given file limit d p.items p.posed.few p.small p.posed.unambiguous p.posed.words p.posed.ready p.posed.names p.posed.listed p.found p.within in
      subst (λ (z : Text). SpellsSame z p.items) (sym p.is) (derivation_spelled file status p.items (word_free conjecture) p.named written (items_short file status p.items short))

  -- the derivation that is read
  pub record IsRead : Type 0 where
    pub checked : Checked
    pub is : IsDerivation text (names_of given) v checked whole
    pub as_items : IsReadAs given d.lines p.items checked

  pub is_read : IsRead
  is_read =
      let own = graph_of_lines file whole (length v.symbols) given (names_are given p.posed.names) d.lines (found_linked v given limit d p.found p.posed.few p.small) p.items p.within in
      let graph : IsGraph spelled.0 (names_of given) own.0 = one_graph p.items spelled.0 (sym spelled.1) (names_of given) own.0 own.1 in
      let lines = read_denote v given file limit d p.items spelled.0 p.posed.unambiguous p.posed.ready p.found p.within spelled.1 in
      record {
        checked = record { graph = own.0; names = read.names_of lines.0; places = places_of lines.0; forms = denied_forms lines.0 };
        is = (spelled.0, spelled.2, record { graph = graph; lines = lines.0; denote = lines.1; names = refl; places = refl; forms = refl });
        as_items = record { spelled = spelled.0; same = sym spelled.1; graph = graph; forms = forms_tell first_place (length (typings_of whole (length v.symbols))) lines.0 d.lines lines.2 };
      }

  pub derivation_read : (checked : Checked) × IsDerivation text (names_of given) v checked whole
  derivation_read = (is_read.checked, is_read.is)

  pub no_fault : (fault : DerivationFault) → IsDerivationFault text (names_of given) v fault → IsWant fault
  no_fault fault first = derivation_wants text (names_of given) v is_read.checked whole fault is_read.is first
