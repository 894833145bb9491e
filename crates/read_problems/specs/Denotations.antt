-- What the formulas of a problem denote that is read from a file, with all that it includes.
use Rattle.std.specs.Prelude.{◌≡◌, ℕ, Bool, List, count_by, Ok}
use Rattle.std.specs.declared.option.Option.{Option}
use Rattle.tptp_base.specs.Store.{Files}
use Rattle.include_resolve.specs.declared.problem.Problem.{Problem}
use Rattle.include_resolve.specs.Resolved.{Resolves}
use Rattle.sort_check.specs.declared.line.Line.{Line}
use Rattle.sort_check.specs.Texts.{denoted}
use Rattle.sort_check.specs.Turns.{kept}
use Rattle.tstp_graph.specs.Lines.{is_formula}
use Rattle.read_problems.specs.declared.denotations.Denotation.{Denotation}
use Rattle.read_problems.specs.Denoted.{first_vocabulary}
use Rattle.sort_check.specs.declared.line.TextKind.TheVariants as kind

-- The problem in the file denotes these lines over the signature, kept or not. So many of its items are formulas, and
-- so many bytes were read.
pub record IsDenotation (told : Option Files) (root : Option (List ℕ)) (file : List ℕ) (keeps : Bool) (d : Denotation) : Type 0 where
  pub whole : Problem
  pub lines : List Line
  pub resolves : Resolves told root file (Ok whole)
  pub denotes : denoted whole.items first_vocabulary kind.Problem ≡ Ok (lines, d.signature)
  pub kept_lines : d.lines ≡ kept keeps lines
  pub formulas : d.formulas ≡ count_by is_formula whole.items
  pub read : d.read ≡ whole.read
