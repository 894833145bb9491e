-- What the text of a derivation is, or what is said of the first fault in it.
use Rattle.std.specs.Prelude.{◌≡◌, ◌⊎◌, ℕ, List, ◌++◌, codes}
use Rattle.tptp_base.specs.declared.name.Name.{Name}
use Rattle.tptp_base.specs.declared.place.Place.{Place}
use Rattle.canon_print.specs.Words.{name_text}
use Rattle.fof_terms.specs.Vocabulary.{Vocabulary}
use Rattle.sort_check.specs.declared.fault.SortFault.{SortFault}
use Rattle.tstp_graph.specs.declared.fault.GraphFault.{GraphFault}
use Rattle.derivation_text.specs.Derivations.{IsDerivation, IsDerivationFault}
use Rattle.derivation_text.specs.declared.derivation.Derivation.{Derivation}
use Rattle.derivation_text.specs.declared.fault.DerivationFault.{DerivationFault}
use Rattle.read_problems.specs.Denoted.{against_rule, in_line}
use Rattle.read_problems.specs.Ending.{Ending, says, over_limit}
use Rattle.read_problems.specs.Spelled.{said_at, SaysLexFault, SaysGrammarFault}
use Rattle.sort_check.specs.declared.fault.SortFault.TheVariants as sorted
use Rattle.tstp_graph.specs.declared.fault.GraphFault.TheVariants as graph
use Rattle.derivation_text.specs.declared.fault.DerivationFault.TheVariants as derived

-- what is said of the line of this name at the place
abbrev pub says_in : List ℕ → Place → Name → List ℕ → Ending
says_in file place name what = says 3 (said_at file place (in_line name what))

-- what is said of the first fault of a graph
abbrev pub SaysGraphFault : List ℕ → GraphFault → Ending → Type 0
SaysGraphFault file (graph.UnknownParent place name parent) ending =
    ending ≡ says_in file place name (codes "unknown parent " ++ name_text parent)
SaysGraphFault file (graph.DuplicateLine place name) ending =
    ending ≡ says_in file place name (codes "second line of this name")
SaysGraphFault file (graph.Cycle place name) ending = ending ≡ says_in file place name (codes "in a cycle")
SaysGraphFault file (graph.BadSource place name) ending = ending ≡ says_in file place name (codes "malformed source")
SaysGraphFault file (graph.Include place) ending =
    ending ≡ says 3 (said_at file place (codes "include in a derivation"))
SaysGraphFault file (graph.Limit limit) ending = ending ≡ over_limit file limit
SaysGraphFault file graph.Memory ending = ⊥

-- what is said of the first fault against the rules of sorts
abbrev pub SaysLineFault : List ℕ → SortFault → Ending → Type 0
SaysLineFault file (sorted.Line rule place name) ending = ending ≡ against_rule file rule place name
SaysLineFault file sorted.Memory ending = ⊥

-- what is said of the first fault of a derivation
abbrev pub SaysDerivationFault : List ℕ → DerivationFault → Ending → Type 0
SaysDerivationFault file (derived.Lex fault) ending = SaysLexFault file fault ending
SaysDerivationFault file (derived.Grammar fault) ending = SaysGrammarFault file fault ending
SaysDerivationFault file (derived.Graph fault) ending = SaysGraphFault file fault ending
SaysDerivationFault file (derived.Sort fault) ending = SaysLineFault file fault ending
SaysDerivationFault file derived.Memory ending = ⊥

-- The first fault of the text is said: that of its tokens, that of its items, that of its graph, or that against the
-- rules of sorts.
abbrev pub IsDerivationRefusal : List ℕ → List ℕ → List Name → Vocabulary → Ending → Type 0
IsDerivationRefusal file text given v ending =
    (fault : DerivationFault) × IsDerivationFault text given v fault × SaysDerivationFault file fault ending

-- The derivation that a text is goes on to the rest, or its first fault is said.
abbrev pub AfterDerivation : List ℕ → List ℕ → List Name → Vocabulary → (Derivation → Vocabulary → Ending → Type 0)
    → Ending → Type 0
AfterDerivation file text given v Rest ending =
    IsDerivationRefusal file text given v ending
    ⊎ ((d : Derivation) × (w : Vocabulary) × IsDerivation text given v d w × Rest d w ending)
