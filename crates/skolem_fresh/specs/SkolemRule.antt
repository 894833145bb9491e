-- The rule `skolem`: the line is, by its normal form, a parent's normal form with new functions in place of its
-- existential variables. A formula whose norm size is over 100,000 has no normal form here.
use Rattle.std.specs.Prelude.{ℕ, ◌≡◌, ◌<◌, true, List, [], ◌∷◌, ◌++◌, length, Some, slice_get}
use Rattle.fof_terms.specs.declared.term.Term.{Term}
use Rattle.fof_terms.specs.declared.form.Form.{Form, Atom, Eq, Not, And, Or, All, Ex}
use Rattle.fof_terms.specs.Instance.{instance_of}
use Rattle.fof_terms.specs.Vocabulary.{Vocabulary}
use Rattle.clause_form.specs.Norm.{norm_of, HasNorm}
use Rattle.kernel.specs.Statements.{Statements}
use Rattle.skolem_fresh.specs.declared.just.Use.{Use}
use Rattle.skolem_fresh.specs.Uses.{value_of, Fits, AreArguments, AreNew}

-- The function may take the place of the variable of this existential formula, which stands under universal quantifiers
-- over these sorts: its arguments are distinct variables of these, all that stand free in the formula among them.
pub record MayReplace (v : Vocabulary) (scope : List ℕ) (u : Use) (s : ℕ) (body : Form) : Type 0 where
  pub sort : u.sort ≡ s
  pub arguments : AreArguments u.variables (Ex s body)
  pub fits : Fits v scope u

mutual
  -- Under universal quantifiers over these sorts, the second formula is the first, a normal form, without its
  -- existential quantifiers: from the left and from the outermost on, the value of the next function stands for the
  -- variable of each.
  pub data IsSkolemized (v : Vocabulary) : List ℕ → List Use → Form → Form → Type 0 where
    an_atom : (scope : List ℕ) (p : ℕ) (ts : List Term) → IsSkolemized v scope [] (Atom p ts) (Atom p ts)
    an_equation : (scope : List ℕ) (l r : Term) → IsSkolemized v scope [] (Eq l r) (Eq l r)
    a_negation : (scope : List ℕ) (a : Form) → IsSkolemized v scope [] (Not a) (Not a)
    a_conjunction : (scope : List ℕ) (uses : List Use) (as_ bs : List Form) → AreSkolemized v scope uses as_ bs → IsSkolemized v scope uses (And as_) (And bs)
    a_disjunction : (scope : List ℕ) (uses : List Use) (as_ bs : List Form) → AreSkolemized v scope uses as_ bs → IsSkolemized v scope uses (Or as_) (Or bs)
    for_each : (scope : List ℕ) (uses : List Use) (s : ℕ) (a b : Form) → IsSkolemized v (s ∷ scope) uses a b → IsSkolemized v scope uses (All s a) (All s b)
    for_some : (scope : List ℕ) (u : Use) (uses : List Use) (s : ℕ) (a b : Form) → MayReplace v scope u s a → IsSkolemized v scope uses (instance_of a (value_of u)) b
        → IsSkolemized v scope (u ∷ uses) (Ex s a) b

  -- the same of each of the formulas
  pub data AreSkolemized (v : Vocabulary) : List ℕ → List Use → List Form → List Form → Type 0 where
    none : (scope : List ℕ) → AreSkolemized v scope [] [] []
    more : (scope : List ℕ) (first rest : List Use) (a b : Form) (as_ bs : List Form) → IsSkolemized v scope first a b → AreSkolemized v scope rest as_ bs
        → AreSkolemized v scope (first ++ rest) (a ∷ as_) (b ∷ bs)

-- the line's normal form is that of the parent's without its existential quantifiers, of which there is at least one
pub record Skolemizes (t : Statements) (parent line : Form) (norm result : Form) (uses : List Use) : Type 0 where
  pub of_parent : HasNorm parent norm
  pub some : 0 < length uses
  pub replaced : IsSkolemized t.vocabulary [] uses norm result
  pub new : AreNew t uses
  pub of_line : HasNorm line (norm_of true result)

-- the parent of that number, counted from 0, gives the line
abbrev pub IsSkolemOf : Statements → List Form → Form → ℕ → Type 0
IsSkolemOf t parents line i = (parent norm result : Form) × (uses : List Use) × (slice_get parents i ≡ Some parent) × Skolemizes t parent line norm result uses

abbrev pub IsSkolemStep : Statements → List Form → Form → Type 0
IsSkolemStep t parents line = (i : ℕ) × IsSkolemOf t parents line i
