-- A proof that is found and printed, and what is asked of the check of its text.
use Rattle.std.specs.Prelude.{ℕ, ◌≡◌, ◌<◌, ◌≤◌, ◌^◌, Bool, List, length}
use Rattle.std.specs.List.{All as Each}
use Rattle.tptp_base.specs.declared.item.Item.{Item}
use Rattle.tptp_base.specs.declared.read.TheConstants.{FILE_SIZE}
use Rattle.fof_terms.specs.Vocabulary.{Vocabulary}
use Rattle.kernel.specs.Statements.{Statements}
use Rattle.clause_rules.specs.Steps.{IsReady}
use Rattle.sort_check.specs.declared.line.GivenEntry.{GivenEntry}
use Rattle.prove_out.specs.Unambiguous.{IsUnambiguous}
use Rattle.printed_forms.specs.Words.{AreNamed, HasWords}
use Rattle.printed_forms.specs.Written.{AreGivenListed}
use Rattle.tptp_commands.specs.Presented.{proof_text}
use Rattle.derivation_check.specs.Claim.{default_word}
use Rattle.derivation_check.specs.Cases.{Asked}
use Rattle.refutation_lines.specs.declared.derivation.Derivation.{Derivation}
use Rattle.limited_items.specs.Limits.{AreWithin}
use Rattle.limited_items.specs.Premises.{HaveSmallPremises}
use Rattle.limited_items.specs.Sources.{forms_given}
use Rattle.problem_proofs.specs.Found.{IsFound, vocabulary_of}

-- The formulas that a problem gives, over its vocabulary: few, closed and well-sorted, with names that can be written
-- and no conjunction or disjunction of one member. The names of the vocabulary say what they mean, and have spellings.
pub record IsPosed (v : Vocabulary) (given : List GivenEntry) : Type 0 where
  pub few : length given < 2 ^ 64
  pub ready : Each (λ (g : GivenEntry). IsReady v g.form) given
  pub names : AreNamed given
  pub listed : AreGivenListed given
  pub unambiguous : IsUnambiguous v
  pub words : HasWords v

-- From them the derivation is found under the limit, as `prove` answers it. It is within the limits of derivations, and
-- its text presents its items, as a derivation from the problem in the file.
pub record IsPrintedProof (v : Vocabulary) (given : List GivenEntry) (limit : ℕ) (file : List ℕ) (conjecture : Bool)
    (d : Derivation) (text : List ℕ) : Type 0 where
  pub posed : IsPosed v given
  pub small : limit < 2 ^ 32
  pub found : IsFound v given limit d
  pub premises : HaveSmallPremises d.lines
  pub items : List Item
  pub within : AreWithin file (vocabulary_of v d) (length v.symbols) given d.lines items
  pub named : 0 < length file
  pub is : text ≡ proof_text file (default_word conjecture) items
  pub short : length text ≤ FILE_SIZE

-- The check is asked of this text, against these formulas; there is a mark for each at most.
pub record Asks (given : List GivenEntry) (conjecture : Bool) (text : List ℕ) (asked : Asked)
    (t : Statements) : Type 0 where
  pub output : asked.output ≡ text
  pub claim : asked.has_conjecture ≡ conjecture
  pub formulas : t.formulas ≡ forms_given given
  pub marks : length asked.marks ≤ length t.formulas
