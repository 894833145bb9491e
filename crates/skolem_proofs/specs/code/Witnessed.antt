-- The proof that a normal form implies what it is with functions in place of its existential variables, and the entries
-- by which the functions come in.
use Rattle.std.specs.Prelude.{ℕ, ◌≡◌, ◌+◌, Bool, true, false, List, [], ◌∷◌, ◌++◌, length, map, Some, slice_get}
use Rattle.fof_terms.specs.declared.form.Form.{Form, And, Or, Imp, All, Ex}
use Rattle.fof_terms.specs.declared.term.Term.{Var}
use Rattle.fof_terms.specs.Instance.{instance_of}
use Rattle.fof_terms.specs.Sorts.{Sorted}
use Rattle.fof_terms.specs.Vocabulary.{Vocabulary}
use Rattle.kernel.specs.Proves.{Proves}
use Rattle.kernel.specs.Statements.{Statements}
use Rattle.kernel.specs.declared.entry.Entry.{Entry}
use Rattle.kernel.specs.declared.entry.Entry.TheVariants.{Choice}
use Rattle.kernel.specs.declared.proof.Proof.{Proof, Hyp, AndI, AndE, OrI, OrE, ImpI, ImpE, AllI, AllE}
use Rattle.derive_kit.specs.Instances.{IsInstance}
use Rattle.skolem_fresh.specs.declared.just.Use.{Use}
use Rattle.skolem_fresh.specs.Renamed.{renamed}
use Rattle.skolem_fresh.specs.SkolemRule.{MayReplace, IsSkolemized}
use Rattle.skolem_fresh.specs.Uses.{value_of}

-- what a member of the node becomes: by the member of that number of a conjunction, or by a case of a disjunction
abbrev pub arm : Bool → ℕ → Proof → Proof
arm true k p = ImpE p (AndE k (Hyp 0))
arm false k p = ImpE p (Hyp 0)

abbrev pub arms : Bool → ℕ → List Proof → List Proof
arms conj k [] = []
arms conj k (p ∷ ps) = arm conj k p ∷ arms conj (k + 1) ps

-- the disjunction by the member of its number that each proof shows
abbrev pub cases : List Form → ℕ → List Proof → List Proof
cases bs k [] = []
cases bs k (p ∷ ps) = OrI bs k p ∷ cases bs (k + 1) ps

-- the proof shows the right side of an implication whose left side the part shows, by the theory's formula of number n,
-- which says it for all arguments, and which is taken at these variables
abbrev pub StepShows : List ℕ → ℕ → Proof → Proof → Type 0
StepShows xs n part step = (t : Statements) (v : List ℕ) (h : List Form) (a b c : Form) → Sorted t.vocabulary v a → slice_get t.formulas n ≡ Some a → IsInstance t.vocabulary v a (map Var xs) (Imp b c) → Proves t v h part b → Proves t v h step c

mutual
  -- Under universal quantifiers over these sorts, the second formula is the first with the functions in place of its
  -- existential variables; these are the entries of the functions in turn, and this is the proof. The formulas that the
  -- entries add are numbered from n on.
  pub data IsWitnessed (v : Vocabulary) : List ℕ → ℕ → List Use → Form → Form → List Entry → Proof → Type 0 where
    itself : (scope : List ℕ) (n : ℕ) (a : Form) → IsSkolemized v scope [] a a → IsWitnessed v scope n [] a a [] (ImpI a (Hyp 0))
    a_conjunction : (scope : List ℕ) (n : ℕ) (uses : List Use) (as_ bs : List Form) (told : List Entry) (ps : List Proof) → AreWitnessed v scope n uses as_ bs told ps
        → IsWitnessed v scope n uses (And as_) (And bs) told (ImpI (And as_) (AndI (arms true 0 ps)))
    a_disjunction : (scope : List ℕ) (n : ℕ) (uses : List Use) (as_ bs : List Form) (told : List Entry) (ps : List Proof) → AreWitnessed v scope n uses as_ bs told ps
        → IsWitnessed v scope n uses (Or as_) (Or bs) told (ImpI (Or as_) (OrE (Or bs) (Hyp 0) (cases bs 0 (arms false 0 ps))))
    for_each : (scope : List ℕ) (n : ℕ) (uses : List Use) (s : ℕ) (a b : Form) (told : List Entry) (p : Proof) → IsWitnessed v (s ∷ scope) n uses a b told p
        → IsWitnessed v scope n uses (All s a) (All s b) told (ImpI (All s a) (AllI s (ImpE p (AllE (Var 0) (Hyp 0)))))
    for_some : (scope : List ℕ) (n : ℕ) (u : Use) (uses : List Use) (s : ℕ) (a b : Form) (told : List Entry) (step p : Proof) → MayReplace v scope u s a → StepShows u.variables n (Hyp 0) step
        → IsWitnessed v scope (n + 1) uses (instance_of a (value_of u)) b told p → IsWitnessed v scope n (u ∷ uses) (Ex s a) b (Choice u.function (renamed u.variables 1 a) ∷ told) (ImpI (Ex s a) (ImpE p step))

  -- the same of each of the formulas
  pub data AreWitnessed (v : Vocabulary) : List ℕ → ℕ → List Use → List Form → List Form → List Entry → List Proof → Type 0 where
    none : (scope : List ℕ) (n : ℕ) → AreWitnessed v scope n [] [] [] [] []
    more : (scope : List ℕ) (n : ℕ) (first rest : List Use) (a b : Form) (as_ bs : List Form) (told others : List Entry) (p : Proof) (ps : List Proof) → IsWitnessed v scope n first a b told p
        → AreWitnessed v scope (n + length told) rest as_ bs others ps → AreWitnessed v scope n (first ++ rest) (a ∷ as_) (b ∷ bs) (told ++ others) (p ∷ ps)
