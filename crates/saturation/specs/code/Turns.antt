-- What a turn of a search does.
use Rattle.std.specs.Prelude.{ℕ, List, [], ◌∷◌, ◌++◌, ◌≡◌, Option, Bool}
use Rattle.fof_terms.specs.Vocabulary.{Vocabulary}
use Rattle.saturation.specs.declared.member.Member.{Member}
use Rattle.saturation.specs.declared.known.Known.{Known}
use Rattle.saturation.specs.Members.{clauses_of}
use Rattle.saturation.specs.code.Known.{IsKnown}
use Rattle.saturation.specs.code.Search.{IsMadeWith}
use Rattle.saturation.specs.code.Steps.{Sifts}

-- the next member comes last, with what is known of it, and this was made of it and the list
pub record Joins (v : Vocabulary) (whole : Bool) (next : Member) (list : List Member) (known : List Known)
    (new_list : List Member) (new_known : List Known) (made : List Member) : Type 0 where
  pub listed : new_list ≡ list ++ next ∷ []
  pub facts : Known
  pub beside : new_known ≡ known ++ facts ∷ []
  pub are_facts : IsKnown next.clause facts
  pub makes : IsMadeWith v whole (clauses_of list) next.clause made

-- and what was made was looked at, up to one that is empty
pub record TakesTurn (v : Vocabulary) (whole : Bool) (bound : ℕ) (next : Member) (list : List Member)
    (known : List Known) (queue heavy new_list : List Member) (new_known : List Known)
    (new_queue new_heavy : List Member) (empty : Option Member) : Type 0 where
  pub made : List Member
  pub joins : Joins v whole next list known new_list new_known made
  pub sifts : Sifts bound made queue heavy new_queue new_heavy empty
