-- The choice of functions of a line that take the places of a parent's existential variables: for each, from the left
-- and an outer one first, the first new symbol of the line that may stand for it.
use Rattle.std.specs.Prelude.{ℕ, ◌≡◌, ◌≤◌, true, List, [], ◌∷◌, ◌++◌, length, take, filter}
use Rattle.std.specs.List.{AllByRecursion as Each}
use Rattle.fof_terms.specs.declared.term.Term.{Term}
use Rattle.fof_terms.specs.declared.form.Form.{Form, Atom, Eq, Not, And, Or, Imp, Iff, All, Ex}
use Rattle.fof_terms.specs.Instance.{instance_of}
use Rattle.fof_terms.specs.Vocabulary.{Vocabulary}
use Rattle.skolem_fresh.specs.declared.just.Use.{Use}
use Rattle.skolem_fresh.specs.Uses.{value_of, Fits}
use Rattle.skolem_proofs.specs.Choosing.{AreOthers}
use Rattle.function_choices.specs.declared.atoms.Placed.{Placed}
use Rattle.function_choices.specs.Alike.{each_alike}
use Rattle.function_choices.specs.Arguments.{arguments_of}
use Rattle.function_choices.specs.Atoms.{atoms_at, stands_in}
use Rattle.function_choices.specs.Reading.{told}

-- the atoms of the body in which the variable of an existential quantifier over it stands
abbrev pub with_its_variable : Form → List Placed
with_its_variable body = filter (λ (p : Placed). stands_in p.depth p.atom) (atoms_at 0 body)

-- The symbol in place of the variable of an existential formula over the body, under n universal quantifiers, with its
-- arguments in the order that these atoms of a line tell, by the first eight atoms with the variable.
abbrev pub use_of : Vocabulary → List Placed → ℕ → ℕ → Form → ℕ → Use
use_of v atoms n s body f = record { function = f; variables = arguments_of v (told f (take 8 (with_its_variable body)) atoms) n body f; sort = s }

-- The symbol may stand for the variable of an existential formula under universal quantifiers over these sorts, of
-- which there are a hundred at most: it is a function whose sorts fit, it stands for no variable before, and with it
-- each of the first eight atoms with the variable is alike to one of these.
pub record MayStand (v : Vocabulary) (atoms : List Placed) (scope : List ℕ) (before : List Use) (s : ℕ) (body : Form) (f : ℕ) : Type 0 where
  pub few : length scope ≤ 100
  pub fits : Fits v scope (use_of v atoms (length scope) s body f)
  pub other : AreOthers f before
  pub alike : each_alike f (take 8 (with_its_variable body)) atoms ≡ true

-- the first of the symbols that may
pub record IsFirst (v : Vocabulary) (atoms : List Placed) (fs : List ℕ) (scope : List ℕ) (before : List Use) (s : ℕ) (body : Form) (f : ℕ) : Type 0 where
  pub front : List ℕ
  pub back : List ℕ
  pub is : fs ≡ front ++ f ∷ back
  pub none : Each (λ g. MayStand v atoms scope before s body g → ⊥) front
  pub may : MayStand v atoms scope before s body f

mutual
  -- Under universal quantifiers over these sorts, and after functions that stand for variables before, these functions
  -- are chosen for the formula, a normal form, and with them it is the last one.
  pub data IsChosen (v : Vocabulary) (atoms : List Placed) (fs : List ℕ) : List ℕ → List Use → Form → List Use → Form → Type 0 where
    an_atom : (scope : List ℕ) (before : List Use) (p : ℕ) (ts : List Term) → IsChosen v atoms fs scope before (Atom p ts) [] (Atom p ts)
    an_equation : (scope : List ℕ) (before : List Use) (l r : Term) → IsChosen v atoms fs scope before (Eq l r) [] (Eq l r)
    a_negation : (scope : List ℕ) (before : List Use) (a : Form) → IsChosen v atoms fs scope before (Not a) [] (Not a)
    a_conjunction : (scope : List ℕ) (before uses : List Use) (as_ bs : List Form) → AreChosen v atoms fs scope before as_ uses bs → IsChosen v atoms fs scope before (And as_) uses (And bs)
    a_disjunction : (scope : List ℕ) (before uses : List Use) (as_ bs : List Form) → AreChosen v atoms fs scope before as_ uses bs → IsChosen v atoms fs scope before (Or as_) uses (Or bs)
    for_each : (scope : List ℕ) (before uses : List Use) (s : ℕ) (a b : Form) → IsChosen v atoms fs (s ∷ scope) before a uses b → IsChosen v atoms fs scope before (All s a) uses (All s b)
    for_some : (scope : List ℕ) (before uses : List Use) (s : ℕ) (a b : Form) (f : ℕ) (u : Use) → u ≡ use_of v atoms (length scope) s a f → IsFirst v atoms fs scope before s a f
        → IsChosen v atoms fs scope (before ++ u ∷ []) (instance_of a (value_of u)) uses b → IsChosen v atoms fs scope before (Ex s a) (u ∷ uses) b

  -- the same of each of the formulas
  pub data AreChosen (v : Vocabulary) (atoms : List Placed) (fs : List ℕ) : List ℕ → List Use → List Form → List Use → List Form → Type 0 where
    none : (scope : List ℕ) (before : List Use) → AreChosen v atoms fs scope before [] [] []
    more : (scope : List ℕ) (before first rest : List Use) (a b : Form) (as_ bs : List Form) → IsChosen v atoms fs scope before a first b → AreChosen v atoms fs scope (before ++ first) as_ rest bs
        → AreChosen v atoms fs scope before (a ∷ as_) (first ++ rest) (b ∷ bs)

mutual
  -- There is no choice for the formula: it is no normal form, or none of the symbols may stand for the variable of an
  -- existential quantifier in it, after those that are chosen for the ones before.
  pub data IsRefused (v : Vocabulary) (atoms : List Placed) (fs : List ℕ) : List ℕ → List Use → Form → Type 0 where
    an_implication : (scope : List ℕ) (before : List Use) (a b : Form) → IsRefused v atoms fs scope before (Imp a b)
    an_equivalence : (scope : List ℕ) (before : List Use) (a b : Form) → IsRefused v atoms fs scope before (Iff a b)
    in_conjunction : (scope : List ℕ) (before : List Use) (as_ : List Form) → AreRefused v atoms fs scope before as_ → IsRefused v atoms fs scope before (And as_)
    in_disjunction : (scope : List ℕ) (before : List Use) (as_ : List Form) → AreRefused v atoms fs scope before as_ → IsRefused v atoms fs scope before (Or as_)
    under_each : (scope : List ℕ) (before : List Use) (s : ℕ) (a : Form) → IsRefused v atoms fs (s ∷ scope) before a → IsRefused v atoms fs scope before (All s a)
    no_function : (scope : List ℕ) (before : List Use) (s : ℕ) (a : Form) → Each (λ g. MayStand v atoms scope before s a g → ⊥) fs → IsRefused v atoms fs scope before (Ex s a)
    under_some : (scope : List ℕ) (before : List Use) (s : ℕ) (a : Form) (f : ℕ) (u : Use) → u ≡ use_of v atoms (length scope) s a f → IsFirst v atoms fs scope before s a f
        → IsRefused v atoms fs scope (before ++ u ∷ []) (instance_of a (value_of u)) → IsRefused v atoms fs scope before (Ex s a)

  -- for one of the formulas, after those before it
  pub data AreRefused (v : Vocabulary) (atoms : List Placed) (fs : List ℕ) : List ℕ → List Use → List Form → Type 0 where
    here : (scope : List ℕ) (before : List Use) (a : Form) (as_ : List Form) → IsRefused v atoms fs scope before a → AreRefused v atoms fs scope before (a ∷ as_)
    further : (scope : List ℕ) (before first : List Use) (a b : Form) (as_ : List Form) → IsChosen v atoms fs scope before a first b → AreRefused v atoms fs scope (before ++ first) as_ → AreRefused v atoms fs scope before (a ∷ as_)
