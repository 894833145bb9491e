-- The text of a proof that `prove` finds, and what `verify` asks of it.
use Rattle.std.specs.Prelude.{ℕ, ◌≡◌, ◌<◌, ◌≤◌, ◌^◌, Bool, List, Ok, length}
use Rattle.std.specs.declared.option.Option.{Option}
use Rattle.tptp_base.specs.Store.{Files}
use Rattle.tptp_base.specs.declared.item.Item.{Item}
use Rattle.tptp_base.specs.declared.read.TheConstants.{FILE_SIZE}
use Rattle.fof_terms.specs.Vocabulary.{Vocabulary}
use Rattle.include_resolve.specs.Resolved.{Resolves}
use Rattle.include_resolve.specs.declared.problem.Problem.{Problem}
use Rattle.sort_check.specs.Given.{given_entries}
use Rattle.sort_check.specs.Sorting.{AreGivenSorted}
use Rattle.sort_check.specs.Texts.{denoted}
use Rattle.sort_check.specs.declared.line.Line.{Line}
use Rattle.sort_check.specs.declared.line.TextKind.TheVariants as kind
use Rattle.read_problems.specs.Denoted.{first_vocabulary}
use Rattle.read_problems.specs.Sources.{conjecture_marks, has_conjecture}
use Rattle.derivation_check.specs.Claim.{default_word}
use Rattle.derivation_check.specs.Cases.{Asked}
use Rattle.problem_proofs.specs.Proved.{IsProved}
use Rattle.problem_proofs.specs.declared.proved.Proved.TheVariants.{Proof}
use Rattle.tptp_commands.specs.Presented.{proof_text}

-- The problem in the file, with all that it includes, denotes these lines over this vocabulary. What they give is few
-- formulas, closed and well-sorted, from which a proof is found under the limit. The text presents it, and is no longer
-- than a file may be.
pub record IsProofOf (told : Option Files) (root : Option (List ℕ)) (file : List ℕ) (limit : ℕ) (lines : List Line)
    (v : Vocabulary) (text : List ℕ) : Type 0 where
  pub whole : Problem
  pub resolves : Resolves told root file (Ok whole)
  pub denotes : denoted whole.items first_vocabulary kind.Problem ≡ Ok (lines, v)
  pub sorted : AreGivenSorted v (given_entries lines)
  pub few : length (given_entries lines) < 2 ^ 32
  pub small : limit < 2 ^ 32
  pub named : 0 < length file
  pub items : List Item
  pub proved : IsProved v (given_entries lines) file limit (Proof items)
  pub is : text ≡ proof_text file (default_word (has_conjecture lines)) items
  pub short : length text ≤ FILE_SIZE

-- the check of the text that `verify` makes, from what the lines of the problem give, with any limit of a search
pub record IsAskedOf (lines : List Line) (text : List ℕ) (asked : Asked) : Type 0 where
  pub output : asked.output ≡ text
  pub marks : asked.marks ≡ conjecture_marks lines
  pub conjecture : asked.has_conjecture ≡ has_conjecture lines
