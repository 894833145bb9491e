-- The text of a proof that is found, as private contracts say it.
use Rattle.std.specs.Prelude.{ℕ, ◌≡◌, ◌<◌, ◌^◌, Bool, List, length}
use Rattle.tptp_base.specs.declared.item.Item.{Item}
use Rattle.fof_terms.specs.Vocabulary.{Vocabulary}
use Rattle.sort_check.specs.declared.line.GivenEntry.{GivenEntry}
use Rattle.derivation_check.specs.Claim.{default_word}
use Rattle.problem_proofs.specs.Proved.{IsProved}
use Rattle.problem_proofs.specs.declared.proved.Proved.TheVariants.{Proof}
use Rattle.tptp_commands.specs.Presented.{proof_text}
use Rattle.proofs_are_verified.specs.Printed.{IsPosed}

-- From formulas that are posed a proof is found under the limit, as `prove` answers it. The text presents its items, as
-- a derivation from the problem in the file.
pub record IsProofText (v : Vocabulary) (given : List GivenEntry) (limit : ℕ) (file : List ℕ) (conjecture : Bool)
    (text : List ℕ) : Type 0 where
  pub posed : IsPosed v given
  pub small : limit < 2 ^ 32
  pub named : 0 < length file
  pub items : List Item
  pub proved : IsProved v given file limit (Proof items)
  pub is : text ≡ proof_text file (default_word conjecture) items
