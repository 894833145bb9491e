-- How the options stand in front of the other words.
use Rattle.std.specs.Prelude.{◌≡◌, ℕ, List, ◌∷◌, ◌++◌, codes, None, Some, IfSome}
use Rattle.std.specs.declared.option.Option.{Option}
use Rattle.tptp_commands.specs.Words.{Task, IsFileName, IsLimit, HasNames, root_words, limit_words, task_words}

-- another word comes first, or none
abbrev pub BeginOtherwise : List ℕ → List (List ℕ) → Type 0
BeginOtherwise word words = (rest : List (List ℕ)) → words ≡ word ∷ rest → ⊥

-- The words name this root, or none, and go on so.
pub record NameRoot (words : List (List ℕ)) (root : Option (List ℕ)) (rest : List (List ℕ)) : Type 0 where
  pub words_are : root_words root ++ rest ≡ words
  pub name : IfSome root IsFileName
  pub otherwise : root ≡ None → BeginOtherwise (codes "--root") words

-- The words begin as if they named a root, and name none.
pub record NameNoRoot (words : List (List ℕ)) : Type 0 where
  pub begun : BeginOtherwise (codes "--root") words → ⊥
  pub no_name : (folder : List ℕ) (rest : List (List ℕ)) → words ≡ codes "--root" ∷ folder ∷ rest
      → IsFileName folder → ⊥

-- The words name this limit, or none, and go on so.
pub record NameLimit (words : List (List ℕ)) (limit : Option ℕ) (rest : List (List ℕ)) : Type 0 where
  pub words_are : limit_words limit ++ rest ≡ words
  pub number : IfSome limit IsLimit
  pub otherwise : limit ≡ None → BeginOtherwise (codes "--limit") words

-- The words begin as if they named a limit, and name none.
pub record NameNoLimit (words : List (List ℕ)) : Type 0 where
  pub begun : BeginOtherwise (codes "--limit") words → ⊥
  pub no_number : (limit : ℕ) (rest : List (List ℕ)) → words ≡ limit_words (Some limit) ++ rest → IsLimit limit → ⊥

-- the words are those of no task
abbrev pub NameNoTask : List (List ℕ) → Type 0
NameNoTask words = (task : Task) → task_words task ≡ words → HasNames task → ⊥
