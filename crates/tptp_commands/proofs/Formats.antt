-- How the text of a file that is formatted ends the command.
use Rattle.std.proofs.Common.{◌≡◌, ap, inl, inr, ℕ, ◌≤◌, List, length, Option, IfSome, Result, Ok, Err}
use Rattle.canon_print.specs.Canonical.{canonical_text}
use Rattle.tptp_base.specs.declared.item.Item.{Item}
use Rattle.tptp_base.specs.Store.{Files, HasFile}
use Rattle.tptp_base.specs.declared.read.TheConstants.{FILE_SIZE}
use Rattle.read_problems.specs.Answer.{ending_of}
use Rattle.read_problems.specs.Ending.{Ending, says}
use Rattle.tptp_commands.specs.Formatted.{EndsFormat, SaysText}
use Rattle.read_problems.specs.Spelled.{SpellsItems, IsTextRefusal}
use Rattle.read_problems.specs.Stop.{IfAnswer, IfRefused}
use Rattle.read_problems.specs.declared.refusals.TheConstants.{TOTAL_SIZE}
use Rattle.read_problems.specs.declared.stop.Answer.{Answer}
use Rattle.read_problems.specs.declared.stop.Halt.{Halt}
use Rattle.read_problems.specs.declared.stop.Halt.TheVariants.{Refused, Stopped}
use Rattle.read_problems.proofs.Stages.{after_read, if_told}

-- the canonical text of what the text spells is said
pub printed_said : (file text printed : List ℕ) → (items : List Item) × SpellsItems text items × (printed ≡ canonical_text items) → SaysText file text (says 0 printed)
printed_said file text printed (items, spells, is) = inr (items, spells, ap (λ out. says 0 out) is)

-- a refusal of the text is an answer
pub refusal_said : (T : Type 0) (halt : Halt) (file text : List ℕ) → IfRefused {T = T} (Err halt) (λ answer. IsTextRefusal file text (ending_of answer)) → IfAnswer (Err halt) (λ answer. SaysText file text (ending_of answer))
refusal_said T (Refused answer) file text refused = inl refused
refusal_said T (Stopped stop) file text refused = tt

pub refusal_is : (T : Type 0) (halt : Halt) (file text : List ℕ) → IfRefused {T = T} (Err halt) (λ answer. IsTextRefusal file text (ending_of answer)) → IfAnswer (Err halt) (λ answer. answer.status ≡ 3 → IsTextRefusal file text (ending_of answer))
refusal_is T (Refused answer) file text refused = λ three. refused
refusal_is T (Stopped stop) file text refused = tt

module _ (told : Option Files) (file text : List ℕ) (has : HasFile told file (λ bytes. bytes ≡ text)) (in_budget : length text ≤ TOTAL_SIZE) (in_limit : length text ≤ FILE_SIZE) where
  said_ends : (ending : Ending) → SaysText file text ending → IfSome told (λ files. EndsFormat files file ending)
  said_ends ending said = after_read told file TOTAL_SIZE text (λ files. SaysText file) ending has in_budget in_limit (if_told told said)

  -- what is said of the text of a file ends the command
  pub text_ends : (r : Result Answer Halt) → IfAnswer r (λ answer. SaysText file text (ending_of answer)) → IfAnswer r (λ answer. IfSome told (λ files. EndsFormat files file (ending_of answer)))
  text_ends (Ok answer) said = said_ends (ending_of answer) said
  text_ends (Err (Refused answer)) said = said_ends (ending_of answer) said
  text_ends (Err (Stopped stop)) said = tt
