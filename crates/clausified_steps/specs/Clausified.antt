-- Lines that take a parent's existential quantifiers away (clausification by Skolem functions, as in Nonnengart and
-- Weidenbach): they follow part by part from the parent's normal form with new functions in place of its existential
-- variables, and from the parents. The functions come in by entries, each of which says that a function chooses.
use Rattle.std.specs.Prelude.{ℕ, ◌≡◌, ◌+◌, true, List, [], ◌∷◌, ◌++◌, length, Some, slice_get}
use Rattle.std.specs.List.{AllByRecursion as Each}
use Rattle.fof_terms.specs.Occurs.{occurs_in}
use Rattle.fof_terms.specs.declared.form.Form.{Form}
use Rattle.clause_form.specs.Norm.{norm_of}
use Rattle.clause_form.specs.declared.path.Parent.{Parent}
use Rattle.derive_kit.specs.Derived.{IsDerivedFrom, numbers_of}
use Rattle.kernel.specs.Statements.{Statements}
use Rattle.kernel.specs.declared.entry.Entry.{Entry}
use Rattle.kernel.specs.declared.entry.Entry.TheVariants.{Lemma}
use Rattle.kernel.specs.declared.proof.Proof.{Proof}
use Rattle.norm_parts.specs.ByParts.{ByParts}
use Rattle.skolem_fresh.specs.declared.just.Use.{Use}
use Rattle.skolem_fresh.specs.SkolemRule.{Skolemizes}
use Rattle.skolem_proofs.specs.Choosing.{ChooseInTurn}

-- the formula as a parent, which stands behind the formulas of the theory and one for each of the functions
abbrev pub stated : Statements → List Use → Form → Parent
stated t uses form = record { number = length t.formulas + length uses; form = form }

-- The parent has a normal form with at least one existential quantifier, and the formula is that with these functions,
-- new to the theory, in place of the existential variables, as the rule `skolem` has it. Each of the functions occurs in
-- the line, and the line follows part by part from the formula and the parents.
pub record Clausifies (t : Statements) (parents : List Parent) (line : Form) (p : Parent) (form : Form) (uses : List Use) : Type 0 where
  pub skolem : Skolemizes t p.form form (norm_of true p.form) form uses
  pub occur : Each (λ (u : Use). occurs_in u.function line ≡ true) uses
  pub parts : ByParts t.vocabulary (stated t uses form ∷ parents) line

-- The entries derive such a line: for each of the functions, that of the outermost existential quantifier first, one by
-- which it chooses, then a lemma of the formula with the functions, and then one of the line.
pub record IsClausifiedBy (t : Statements) (parents : List Parent) (line : Form) (entries : List Entry) : Type 0 where
  pub place : ℕ
  pub parent : Parent
  pub form : Form
  pub uses : List Use
  pub there : slice_get parents place ≡ Some parent
  pub gives : Clausifies t parents line parent form uses
  pub choices : List Entry
  pub first : Proof
  pub last : Proof
  pub is : entries ≡ choices ++ (Lemma first ∷ Lemma last ∷ [])
  pub choose : ChooseInTurn uses choices
  pub derives : IsDerivedFrom t (numbers_of parents) entries line
