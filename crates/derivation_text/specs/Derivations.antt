-- What the text of a derivation is: a graph of lines, and what each line stands for (TPTP technical manual,
-- derivations).
use Rattle.std.specs.Prelude.{⊤, ◌≡◌, ◌⊎◌, ℕ, List, map, Ok, Err}
use Rattle.tptp_base.specs.declared.item.Item.{Item}
use Rattle.tptp_base.specs.declared.item.Role.{Role}
use Rattle.tptp_base.specs.declared.item.Role.TheVariants.{Conjecture}
use Rattle.tptp_base.specs.declared.name.Name.{Name}
use Rattle.tptp_base.specs.declared.place.Place.{Place}
use Rattle.fof_terms.specs.Vocabulary.{Vocabulary}
use Rattle.fof_terms.specs.declared.form.Form.{Form, Not}
use Rattle.sort_check.specs.declared.line.Line.{Line}
use Rattle.sort_check.specs.Texts.{denoted, Faults}
use Rattle.tstp_graph.specs.declared.shape.Graph.{Graph}
use Rattle.tstp_graph.specs.Graphs.{IsGraph, IsFault}
use Rattle.derivation_text.specs.declared.derivation.Derivation.{Derivation}
use Rattle.derivation_text.specs.declared.fault.DerivationFault.{DerivationFault}
use Rattle.derivation_text.specs.Texts.{RegionSpells, IsTextFault}
use Rattle.sort_check.specs.declared.line.TextKind.TheVariants as kind
use Rattle.derivation_text.specs.declared.fault.DerivationFault.TheVariants as fault

-- what a formula of this role stands for: a conjecture is denied, since a derivation refutes it
abbrev pub stands_for : Role → Form → Form
stands_for Conjecture a = Not a
stands_for _ a = a

abbrev pub denied_form : Line → Form
denied_form line = stands_for line.role line.form

abbrev pub denied_forms : List Line → List Form
denied_forms lines = map denied_form lines

abbrev pub names_of : List Line → List Name
names_of lines = map (λ (line : Line). line.name) lines

-- where the lines begin in the text
abbrev pub places_of : List Line → List Place
places_of lines = map (λ (line : Line). line.place) lines

-- The items are this derivation from given formulas of these names. They are over a vocabulary, and leave another
-- behind.
pub record AreDerivation (items : List Item) (given : List Name) (v : Vocabulary) (d : Derivation) (w : Vocabulary) : Type 0 where
  pub graph : IsGraph items given d.graph
  pub lines : List Line
  pub denote : denoted items v kind.Derivation ≡ Ok (lines, w)
  pub names : d.names ≡ names_of lines
  pub places : d.places ≡ places_of lines
  pub forms : d.forms ≡ denied_forms lines

-- Why items are no derivation: the first fault of their graph, or else the first fault against the rules of sorts.
abbrev pub IsItemsFault : List Item → List Name → Vocabulary → DerivationFault → Type 0
IsItemsFault items given v (fault.Lex lexed) = ⊥
IsItemsFault items given v (fault.Grammar parsed) = ⊥
IsItemsFault items given v (fault.Graph first) = IsFault items given first
IsItemsFault items given v (fault.Sort first) = (graph : Graph) × IsGraph items given graph × Faults (denoted items v kind.Derivation) first
IsItemsFault items given v fault.Memory = ⊤

-- the text is this derivation
abbrev pub IsDerivation : List ℕ → List Name → Vocabulary → Derivation → Vocabulary → Type 0
IsDerivation text given v d w = (items : List Item) × RegionSpells text items × AreDerivation items given v d w

-- the text is no derivation, and this is the first fault in it
abbrev pub IsDerivationFault : List ℕ → List Name → Vocabulary → DerivationFault → Type 0
IsDerivationFault text given v fault = IsTextFault text fault ⊎ ((items : List Item) × RegionSpells text items × IsItemsFault items given v fault)
