-- What a justification of a split shows of the line, of what its names stand for, and of the parent that is covered.
use Rattle.std.specs.Prelude.{ℕ, ◌≡◌, ◌<◌, ◌≤◌, ◌+◌, List, [], ◌∷◌, ◌++◌, length, drop, get_or, slice_get, Some, refl}
use Rattle.std.specs.List.{AllByRecursion, All as Each}
use Rattle.std.proofs.Common.{ap, sym, subst, ◌∙◌, arith, append-nil}
use Rattle.std.proofs.lemmas.Option.{slice_get_within}
use Rattle.std.proofs.lemmas.List.Elements.{recursion_from_All, All-from_recursion}
use Rattle.fof_terms.specs.declared.term.Term.{Term}
use Rattle.fof_terms.specs.declared.form.Form.{Form}
use Rattle.fof_terms.specs.Vocabulary.{Vocabulary}
use Rattle.clause_form.specs.declared.clause.Clause.{Clause}
use Rattle.clause_form.specs.declared.path.Parent.{Parent}
use Rattle.clause_form.specs.ClauseView.{clause_of}
use Rattle.clause_form.specs.Covers.{scope_of, CoversBy}
use Rattle.clause_rules.specs.Steps.{AreReady, IsJoint, images_of_parents}
use Rattle.clause_rules.proofs.Firsts.{one_at, there_at}
use Rattle.kernel.specs.Statements.{Statements}
use Rattle.kernel.specs.Proves.{Proves}
use Rattle.kernel.specs.declared.proof.Proof.{Proof}
use Rattle.kernel.specs.declared.entry.Entry.TheVariants.{Lemma}
use Rattle.derive_kit.specs.Derived.{AreOfTheory, IsDerivedFrom, numbers_of}
use Rattle.derive_kit.proofs.DerivedFacts.{derived_by_lemma}
use Rattle.clause_proofs.specs.declared.opening.Opened.{Opened}
use Rattle.clause_proofs.specs.Bodies.{IsOpening}
use Rattle.clause_proofs.specs.code.Bodies.{IsReadyClause}
use Rattle.clause_proofs.specs.Refuting.{theory_of}
use Rattle.clause_proofs.specs.Shown.{ShowsLine}
use Rattle.clause_proofs.proofs.OneInstance.{one_joint_here}
use Rattle.clause_proofs.proofs.LineGoals.{opened_clause}
use Rattle.clause_proofs.proofs.ReadyParents.{parent_ready}
use Rattle.split_defs.specs.declared.stages.Stage.{Stage}
use Rattle.split_defs.specs.code.SplitProof.{AreNamed, stage_clauses}
use Rattle.split_defs.specs.SplitRule.{Names, SplitsAt, together, unfolded}
use Rattle.clause_form.specs.Paths.{forms_of}
use Rattle.split_defs.proofs.Contraries.{are_named, named_at}
use Rattle.split_defs.proofs.NamedParents.{as_many, form_at, form_back}
use Rattle.split_defs.proofs.OneClause.{at_start, past_all}

-- a lemma that shows the line wherever its parents stand
module _ (t u : Statements) where
  abbrev Own : Parent → Type 0
  Own p = slice_get t.formulas p.number ≡ Some p.form

  abbrev Here : Parent → Type 0
  Here p = slice_get u.formulas p.number ≡ Some p.form

  abbrev Kept : ℕ → Type 0
  Kept n = slice_get u.formulas n ≡ slice_get t.formulas n

  each_here : (parents : List Parent) → AllByRecursion Own parents → AllByRecursion Kept (numbers_of parents) → AllByRecursion Here parents
  each_here [] own kept = tt
  each_here (p ∷ parents) own kept = (kept.0 ∙ own.0, each_here parents own.1 kept.1)

  all_here : (parents : List Parent) → Each Own parents → Each Kept (numbers_of parents) → Each Here parents
  all_here parents own kept = All-from_recursion Here parents (each_here parents (recursion_from_All Own parents own) (recursion_from_All Kept (numbers_of parents) kept))

pub derived : (t : Statements) (parents : List Parent) (line : Form) (p : Proof) → AreOfTheory t parents → ShowsLine t.vocabulary parents line p → IsDerivedFrom t (numbers_of parents) (Lemma p ∷ []) line
derived t parents line p all shows =
    derived_by_lemma t (numbers_of parents) p line
    (λ u cited. subst (λ (w : Vocabulary). Proves (theory_of w u.formulas) [] [] p line) (sym cited.vocabulary) (shows u.formulas (all_here t u parents all cited.formulas)))

-- the line is opened, and each stage, and the parent
module _ (w : Vocabulary) (parents : List Parent) (line : Form) (n : ℕ) (names : List ℕ) (images : List Term) (e c : Clause) (ds : List Clause) (joint : IsJoint w (unfolded e ds) (scope_of c) images)
    (at : SplitsAt w (forms_of parents) line n names e c ds (scope_of c) (images_of_parents (unfolded e ds) images)) where
  pub parent_within : n < length parents
  parent_within = let lt = slice_get_within (forms_of parents) n at.form at.at in omega (arith, lt, as_many parents)

  module _ (p : Parent) (is : p ≡ get_or parents n p) where
    pub parent_there : slice_get parents n ≡ Some p
    parent_there = there_at parents n p parent_within is

    pub parent_clause : clause_of p.form ≡ Some c
    parent_clause = ap clause_of (one_at (forms_of parents) n p.form at.form (form_at parents n p parent_there) at.at) ∙ at.clause

    pub parent_opened : (o : Opened) → AreReady w parents → IsOpening p.form (Some o) → IsReadyClause w p.form o
    parent_opened o ready opening = record { ready = parent_ready w parents n p ready parent_there; opening = opening }

  module _ (o : Opened) (is : IsOpening line (Some o)) where
    same_line : o.clause ≡ e
    same_line = opened_clause line o e is at.line_clause

    pub named_here : AreNamed (forms_of parents) o.clause names ds
    named_here = subst (λ (x : Clause). AreNamed (forms_of parents) x names ds) (sym same_line) (are_named (forms_of parents) e (length (forms_of parents)) names ds at.named)

    module _ (stages : List Stage) (clauses : (fs : List Clause) → AreNamed (forms_of parents) o.clause names fs → stage_clauses stages ≡ o.clause ∷ fs) (p : Parent) (there : p ≡ get_or parents n p) (parent : Opened) (opening : IsOpening p.form (Some parent)) where
      whole_is : together (stage_clauses stages) ≡ unfolded e ds
      whole_is = ap together (clauses ds named_here ∙ ap (λ (x : Clause). x ∷ ds) same_line)

      parent_is : parent.clause ≡ c
      parent_is = opened_clause p.form parent c opening (parent_clause p there)

      pub joint_here : IsJoint w (together (stage_clauses stages)) (scope_of parent.clause) images
      joint_here = one_joint_here w images c (unfolded e ds) parent.clause (together (stage_clauses stages)) parent_is whole_is joint

      pub covers_there : CoversBy w (scope_of parent.clause) parent.clause.lits (together (stage_clauses stages)) (scope_of parent.clause) (images_of_parents (together (stage_clauses stages)) images)
      covers_there =
          let whole = together (stage_clauses stages) in
          subst (λ (x : Clause). CoversBy w (scope_of x) x.lits whole (scope_of x) (images_of_parents whole images)) (sym parent_is)
          (subst (λ (x : Clause). CoversBy w (scope_of c) c.lits x (scope_of c) (images_of_parents x images)) (sym whole_is) at.covers)

-- one stage for each number
pub start_clauses : (stages : List Stage) (s : Stage) (e : Clause) (ds : List Clause) → stages ≡ s ∷ [] → s.opened.clause ≡ e → stage_clauses stages ++ drop 0 ds ≡ e ∷ ds
start_clauses stages s e ds is f = ap (λ (ss : List Stage). stage_clauses ss ++ drop 0 ds) is ∙ ap (λ (c : Clause). c ∷ drop 0 ds) f ∙ ap (λ (cs : List Clause). e ∷ cs) (at_start ds)

counted : (forms : List Form) (e : Clause) (names : List ℕ) (ds : List Clause) → AreNamed forms e names ds → length ds ≡ length names
counted forms e [] [] all = refl
counted forms e [] (d ∷ ds) all = absurd all
counted forms e (n ∷ names) [] all = absurd all
counted forms e (n ∷ names) (d ∷ ds) all = omega (arith, counted forms e names ds all.1)

pub stages_end : (parents : List Parent) (e : Clause) (names : List ℕ) (ds cs whole : List Clause) (i : ℕ) → AreNamed (forms_of parents) e names ds → length names ≤ i → cs ++ drop i ds ≡ whole → cs ≡ whole
stages_end parents e names ds cs whole i all end h =
    let none : drop i ds ≡ [] = past_all ds i (omega (arith, counted (forms_of parents) e names ds all)) in
    sym (append-nil cs) ∙ ap (λ (xs : List Clause). cs ++ xs) (sym none) ∙ h

pub parent_named : (parents : List Parent) (e : Clause) (names : List ℕ) (ds : List Clause) (i n : ℕ) → AreNamed (forms_of parents) e names ds → i < length names → n ≡ get_or names i 0
    → (p : Parent) × (d : Clause) × (slice_get parents n ≡ Some p) × Names e p.form d × (drop i ds ≡ d ∷ drop (i + 1) ds)
parent_named parents e names ds i n all lt is =
    let r = named_at (forms_of parents) e names ds i n all lt is in
    let p = form_back parents n r.0 r.2 in
    (p.0, r.1, p.1, subst (λ (a : Form). Names e a r.1) (sym p.2) r.3, r.4)
