-- What the parser answers.
use Rattle.std.specs.Prelude.{◌≡◌, Bool, true, false, List, Result, Ok, Err}
use Rattle.tptp_lexer.specs.declared.style.Style.{Style}
use Rattle.tptp_lexer.specs.declared.token.Token.{Token}
use Rattle.tptp_base.specs.declared.place.Place.{Place}
use Rattle.tptp_base.specs.declared.item.Item.{Item}
use Rattle.tptp_grammar.specs.declared.fault.GrammarFault.{GrammarFault}
use Rattle.tptp_grammar.specs.Solid.{Placed}
use Rattle.tptp_grammar.specs.Files.{SpellsWithin}
use Rattle.tptp_grammar.specs.Faults.{max_nesting, is_outside, IsImpossible, IsUnfinished, IsDeep}
use Rattle.tptp_grammar.specs.declared.fault.GrammarFault.TheVariants as fault

-- an impossible token is Profile exactly where it is of a part that is left out
abbrev pub IsImpossibleAs : Style → Bool → List Placed → Place → Type 0
IsImpossibleAs style outside tokens place = (token : Token) × (is_outside token ≡ outside) × IsImpossible style max_nesting tokens token place

abbrev pub FaultIs : Style → List Placed → Place → GrammarFault → Type 0
FaultIs style tokens end (fault.Token place) = IsImpossibleAs style false tokens place
FaultIs style tokens end (fault.Profile place) = IsImpossibleAs style true tokens place
FaultIs style tokens end (fault.End place) = (place ≡ end) × IsUnfinished style max_nesting tokens
FaultIs style tokens end (fault.Deep place) = IsDeep style max_nesting tokens place
FaultIs style tokens end fault.Memory = Unit {0}

-- what is read is spelled so, and a fault is the first one
abbrev pub Answers : Style → List Placed → Place → Result (List Item) GrammarFault → Type 0
Answers style tokens end (Ok items) = SpellsWithin style max_nesting items tokens
Answers style tokens end (Err f) = FaultIs style tokens end f

-- these items, unless memory ran out
abbrev pub IsRead : List Item → Result (List Item) GrammarFault → Type 0
IsRead items (Ok found) = found ≡ items
IsRead items (Err f) = f ≡ fault.Memory

abbrev pub FaultIsDeep : GrammarFault → Type 0
FaultIsDeep (fault.Deep place) = Unit {0}
FaultIsDeep fault.Memory = Unit {0}
FaultIsDeep _ = ⊥

-- refused as too deep, unless memory ran out
abbrev pub IsRefusedAsDeep : Result (List Item) GrammarFault → Type 0
IsRefusedAsDeep (Ok found) = ⊥
IsRefusedAsDeep (Err f) = FaultIsDeep f
