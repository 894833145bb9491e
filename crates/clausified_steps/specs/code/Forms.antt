-- A parent's normal form with functions in place of its existential variables.
use Rattle.std.specs.Prelude.{ℕ, ◌≡◌, true, List, Some, slice_get}
use Rattle.fof_terms.specs.declared.form.Form.{Form}
use Rattle.clause_form.specs.Norm.{norm_of}
use Rattle.clause_form.specs.declared.path.Parent.{Parent}
use Rattle.clause_rules.specs.Steps.{IsReady}
use Rattle.kernel.specs.Statements.{Statements}
use Rattle.skolem_fresh.specs.declared.just.Use.{Use}
use Rattle.skolem_fresh.specs.SkolemRule.{Skolemizes}

-- the parent is one of these
pub record IsAmong (parents : List Parent) (p : Parent) : Type 0 where
  pub place : ℕ
  pub there : slice_get parents place ≡ Some p

-- some formula has the normal form of the parent's with these functions
pub record IsGuessed (t : Statements) (p guess : Form) (uses : List Use) : Type 0 where
  pub norm : Form
  pub result : Form
  pub shown : Skolemizes t p guess norm result uses

-- the formula is the parent's normal form with these functions
pub record IsFormBy (t : Statements) (p : Form) (uses : List Use) (form : Form) : Type 0 where
  pub skolem : Skolemizes t p form (norm_of true p) form uses
  pub ready : IsReady t.vocabulary form
