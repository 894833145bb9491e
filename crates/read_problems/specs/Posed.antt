-- What a problem poses to a model.
use Rattle.std.specs.Prelude.{◌≡◌, ℕ, List, Ok}
use Rattle.std.specs.declared.option.Option.{Option}
use Rattle.tptp_base.specs.Store.{Files}
use Rattle.include_resolve.specs.declared.problem.Problem.{Problem}
use Rattle.include_resolve.specs.Resolved.{Resolves}
use Rattle.sort_check.specs.declared.line.Line.{Line}
use Rattle.sort_check.specs.Given.{given_entries}
use Rattle.sort_check.specs.Texts.{denoted}
use Rattle.read_problems.specs.Denoted.{first_vocabulary}
use Rattle.read_problems.specs.declared.posed.Posed.{Posed}
use Rattle.sort_check.specs.declared.line.TextKind.TheVariants as kind

-- The problem in the file denotes lines that give these formulas over the signature, and so many bytes were read.
pub record IsPosed (told : Option Files) (root : Option (List ℕ)) (file : List ℕ) (posed : Posed) : Type 0 where
  pub whole : Problem
  pub lines : List Line
  pub resolves : Resolves told root file (Ok whole)
  pub denotes : denoted whole.items first_vocabulary kind.Problem ≡ Ok (lines, posed.signature)
  pub gives : posed.given ≡ given_entries lines
  pub read : posed.read ≡ whole.read
