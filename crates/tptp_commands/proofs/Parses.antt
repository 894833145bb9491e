-- How the command `parse` ends, by what it meets in turn.
use Rattle.std.proofs.Common.{◌≡◌, inl, inr, ℕ, Bool, List, Option, None, Some, IfSome, ◌∙◌, ap}
use Rattle.tptp_base.specs.Store.{Files}
use Rattle.read_problems.specs.declared.denotations.Denotation.{Denotation}
use Rattle.read_problems.specs.Denotations.{IsDenotation}
use Rattle.read_problems.specs.Denoted.{IsProblemRefusal}
use Rattle.read_problems.specs.Ending.{Ending}
use Rattle.tptp_commands.specs.Parsed.{EndsParse, counted}

-- ---- how the command ends

module _ (root : Option (List ℕ)) (file : List ℕ) (ending : Ending) where
  pub ends_refused : (told : Option Files) → IsProblemRefusal told root file ending → IfSome told (λ files. EndsParse files root file ending)
  ends_refused None refused = tt
  ends_refused (Some files) (inl refused) = inl refused
  ends_refused (Some files) (inr (problem, resolves, refused)) = inr (problem, resolves, inl refused)

  pub ends_denoted : (told : Option Files) (keeps : Bool) (d : Denotation) → IsDenotation told root file keeps d → ending ≡ counted d.formulas → IfSome told (λ files. EndsParse files root file ending)
  ends_denoted None keeps d is says = tt
  ends_denoted (Some files) keeps d is says = inr (is.whole, is.resolves, inr (is.lines, d.signature, is.denotes, says ∙ ap counted is.formulas))
