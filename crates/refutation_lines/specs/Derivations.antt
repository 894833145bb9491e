-- The derivation of a refutation: its functions and its lines.
use Rattle.std.specs.Prelude.{◌≡◌, Bool, List}
use Rattle.derivation_items.specs.Words.{Text}
use Rattle.given_parts.specs.Functions.{functions_from, used_existentials}
use Rattle.search_proofs.specs.Needed.{AreNeeded}
use Rattle.refutation_lines.specs.declared.derivation.Derivation.{Derivation}
use Rattle.refutation_lines.specs.declared.plan.Plan.{Plan}
use Rattle.refutation_lines.specs.Lines.{lines_of}
use Rattle.refutation_lines.specs.Plans.{Refutation, plan_of}

-- the functions are named by the prefix and their place, from 1
abbrev pub derivation_by : Refutation → Text → Plan → Derivation
derivation_by r prefix p = record { functions = functions_from prefix 1 (used_existentials p.used p.parts); lines = lines_of r p }

-- by the members that the refutation needs
pub record IsDerivationOf (r : Refutation) (prefix : Text) (d : Derivation) : Type 0 where
  pub needed : List Bool
  pub are : AreNeeded r.members r.last needed
  pub is : d ≡ derivation_by r prefix (plan_of r needed)
