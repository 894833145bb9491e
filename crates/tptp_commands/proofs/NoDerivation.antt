-- An ending of status 0 says no fault of a derivation.
use Rattle.std.proofs.Common.{◌≡◌, ℕ, List}
use Rattle.sort_check.specs.declared.fault.SortFault.{SortFault}
use Rattle.sort_check.specs.declared.fault.SortFault.TheVariants as sorted
use Rattle.tstp_graph.specs.declared.fault.GraphFault.{GraphFault}
use Rattle.tstp_graph.specs.declared.fault.GraphFault.TheVariants as graph
use Rattle.derivation_text.specs.declared.fault.DerivationFault.{DerivationFault}
use Rattle.derivation_text.specs.declared.fault.DerivationFault.TheVariants as derived
use Rattle.tptp_commands.specs.Derived.{SaysDerivationFault, SaysGraphFault, SaysLineFault}
use Rattle.read_problems.specs.Ending.{Ending, says}
use Rattle.read_problems.proofs.NoRefusal.{no_rule, no_refusal, no_lex, no_grammar}

no_line : {T : Type 0} (file : List ℕ) (fault : SortFault) (ending : Ending) → ending.status ≡ 0 → SaysLineFault file fault ending → T
no_line file (sorted.Line r place name) ending zero says = no_rule ending r _ zero says
no_line file sorted.Memory ending zero says = absurd says

no_graph : {T : Type 0} (file : List ℕ) (fault : GraphFault) (ending : Ending) → ending.status ≡ 0 → SaysGraphFault file fault ending → T
no_graph file (graph.UnknownParent place name parent) ending zero says = no_refusal ending 2 _ zero says
no_graph file (graph.DuplicateLine place name) ending zero says = no_refusal ending 2 _ zero says
no_graph file (graph.Cycle place name) ending zero says = no_refusal ending 2 _ zero says
no_graph file (graph.BadSource place name) ending zero says = no_refusal ending 2 _ zero says
no_graph file (graph.Include place) ending zero says = no_refusal ending 2 _ zero says
no_graph file (graph.Limit limit) ending zero says = no_refusal ending 6 _ zero says
no_graph file graph.Memory ending zero says = absurd says

pub no_derivation : {T : Type 0} (file : List ℕ) (fault : DerivationFault) (ending : Ending) → ending.status ≡ 0 → SaysDerivationFault file fault ending → T
no_derivation file (derived.Lex fault) ending zero says = no_lex file fault ending zero says
no_derivation file (derived.Grammar fault) ending zero says = no_grammar file fault ending zero says
no_derivation file (derived.Graph fault) ending zero says = no_graph file fault ending zero says
no_derivation file (derived.Sort fault) ending zero says = no_line file fault ending zero says
no_derivation file derived.Memory ending zero says = absurd says
