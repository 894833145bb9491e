-- A fault of a problem of which something is said is the first.
use Rattle.std.proofs.Common.{◌≡◌, ℕ, ◌≤◌, ◌<◌, ◌^◌, List, Option, Err, sym, ◌∙◌, ap, arith}
use Rattle.tptp_base.specs.declared.item.Item.{Item}
use Rattle.tptp_base.specs.Store.{Files}
use Rattle.include_resolve.specs.declared.fault.IncludeFault.{IncludeFault}
use Rattle.include_resolve.specs.declared.fault.IncludeFault.TheVariants as included
use Rattle.include_resolve.specs.declared.problem.TheConstants.{TOTAL_SIZE}
use Rattle.include_resolve.specs.Resolved.{Resolves, Answers}
use Rattle.fof_terms.specs.Vocabulary.{Vocabulary}
use Rattle.sort_check.specs.declared.fault.SortFault.{SortFault}
use Rattle.sort_check.specs.declared.fault.SortFault.TheVariants as sorted
use Rattle.sort_check.specs.declared.line.Line.{Line}
use Rattle.sort_check.specs.declared.line.TextKind.TheVariants as kind
use Rattle.sort_check.specs.Texts.{denoted, Gives}
use Rattle.read_problems.specs.Denoted.{first_vocabulary, SaysIncludeFault, SaysSortFault}
use Rattle.read_problems.specs.Ending.{Ending}

-- ---- faults on the walk through the files

-- a fault of which something is said is one of the walk
pub said_resolves : (told : Option Files) (root : Option (List ℕ)) (file : List ℕ) (fault : IncludeFault) (ending : Ending) → Answers told root file (Err fault) → SaysIncludeFault fault ending → Resolves told root file (Err fault)
said_resolves told root file (included.Missing name) ending answers says = answers
said_resolves told root file (included.Cycle name) ending answers says = answers
said_resolves told root file (included.DeepInclude name) ending answers says = answers
said_resolves told root file (included.UnknownSelection name formula) ending answers says = answers
said_resolves told root file (included.Text name fault) ending answers says = answers
said_resolves told root file (included.Limit name limit) ending answers says = answers
said_resolves told root file included.Store ending answers says = absurd says
said_resolves told root file included.Memory ending answers says = absurd says

-- a fault against the rules of sorts of which something is said is that of the text
module _ (items : List Item) (v w : Vocabulary) (files : List (List ℕ)) (ending : Ending) where
  abbrev SaidFault : Type 0
  SaidFault = (fault : SortFault) × (denoted items first_vocabulary kind.Problem ≡ Err fault) × SaysSortFault files fault ending

  pub said_denotes : (fault : SortFault) → v ≡ first_vocabulary → Gives {A = List Line} (denoted items v kind.Problem) (Err fault) w → SaysSortFault files fault ending → SaidFault
  said_denotes (sorted.Line rule place name) is gives says = (sorted.Line rule place name, ap (λ (u : Vocabulary). denoted items u kind.Problem) (sym is) ∙ gives, says)
  said_denotes sorted.Memory is gives says = absurd says

-- a problem has fewer items than 2^32
pub few_items : (items read : ℕ) → items ≤ read → read ≤ TOTAL_SIZE → items < 2 ^ 32
few_items items read few fits = omega (arith, few, fits)
