-- What it is that a propositional step is decided.
use Rattle.std.specs.Prelude.{List, Option, Some, None}
use Rattle.fof_terms.specs.declared.form.Form.{Form}
use Rattle.clause_form.specs.Paths.{forms_of}
use Rattle.clause_form.specs.declared.path.Parent.{Parent}
use Rattle.derive_kit.specs.Derived.{IsDerivedFrom, numbers_of}
use Rattle.kernel.specs.Statements.{Statements}
use Rattle.kernel.specs.declared.entry.Entry.{Entry}
use Rattle.sat_step.specs.Propositional.{Entails, IsPropositionalStep}

-- the step is propositional, its parents entail its line, and the entries derive the line from them
pub record IsEntailed (t : Statements) (parents : List Parent) (line : Form) (entries : List Entry) : Type 0 where
  pub propositional : IsPropositionalStep (forms_of parents) line
  pub entailed : Entails (forms_of parents) line
  pub derived : IsDerivedFrom t (numbers_of parents) entries line

-- entries of a step that is propositional and entailed; none where it is not both
abbrev pub IsDecided : Statements → List Parent → Form → Option (List Entry) → Type 0
IsDecided t parents line None = IsPropositionalStep (forms_of parents) line → Entails (forms_of parents) line → ⊥
IsDecided t parents line (Some entries) = IsEntailed t parents line entries
