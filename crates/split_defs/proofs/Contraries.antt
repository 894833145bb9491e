-- Falsehood from the negation of the line and what one of its literals stands for.
use Rattle.std.specs.Prelude.{ℕ, ◌≡◌, ◌+◌, ◌<◌, ◌≤◌, List, [], ◌∷◌, ◌++◌, length, drop, get_or, slice_get, Some, refl}
use Rattle.std.proofs.Common.{ap, sym, subst, ◌∙◌, arith, inl, inr, zero, suc, add-one, append_assoc}
use Rattle.std.proofs.lemmas.List.{map-append}
use Rattle.fof_terms.specs.declared.form.Form.{Form, Atom, Iff, Not}
use Rattle.fof_terms.proofs.Moved.{closed_anywhere}
use Rattle.fof_terms.specs.Sorts.{Sorted}
use Rattle.fof_terms.proofs.Scoped.{not_sorted, sorted_of_iff}
use Rattle.fof_terms.proofs.Trees.{Iff-injective}
use Rattle.fof_terms.specs.Vocabulary.{Vocabulary}
use Rattle.clause_form.specs.declared.clause.Clause.{Clause}
use Rattle.clause_form.specs.declared.path.Parent.{Parent}
use Rattle.clause_form.specs.ClauseView.{clause_of, closed_by}
use Rattle.clause_form.specs.Reached.{around}
use Rattle.clause_rules.specs.Steps.{IsReady}
use Rattle.kernel.specs.Proves.{Proves}
use Rattle.kernel.proofs.Building.{by_line, by_hyp, by_not_e, by_iff_r}
use Rattle.kernel.specs.declared.proof.Proof.{Line, Hyp, NotE, IffR}
use Rattle.derive_kit.proofs.Around.{all_around}
use Rattle.clause_proofs.specs.declared.opening.Opened.{Opened}
use Rattle.clause_proofs.specs.Bodies.{HasClause, IsOpening}
use Rattle.clause_proofs.specs.code.Bodies.{IsReadyClause}
use Rattle.clause_proofs.specs.Closed.{all_tree}
use Rattle.clause_proofs.specs.Refuting.{theory_of, body, injected_tree}
use Rattle.clause_proofs.proofs.CoveredLiterals.{injected_shows}
use Rattle.clause_proofs.proofs.LineGoals.{few_sorts, opened_clause}
use Rattle.clause_proofs.proofs.ReadyParents.{full, of_theory, parent_at}
use Rattle.split_defs.specs.declared.stages.Stage.{Stage}
use Rattle.split_defs.specs.code.SplitProof.{AreNamed, RefutesClosed, IsStage, AreStages, stage_clauses, name_tree}
use Rattle.split_defs.specs.SplitRule.{AllName, Names, name_lit}
use Rattle.split_defs.proofs.Nesting.{closed_at, all_shown, under_around}

module _ (w : Vocabulary) (parents : List Parent) (line : Form) (o : Opened) (r : IsReadyClause w line o) where
  -- by the line itself
  pub line_refutes : RefutesClosed w parents line 1 line (NotE (Hyp 1) (Hyp 0))
  line_refutes formulas known v h sc few first denied =
      let t = theory_of w formulas in
      let there : Sorted w v line = closed_anywhere w v 2147483647 line sc (full w line r.ready) in
      by_not_e t v h (Hyp 1) (Hyp 0) line (by_hyp t v h 1 (Not line) (not_sorted w v 2147483647 line there) denied) (by_hyp t v h 0 line there first)

  pub line_stage : (s : Stage) → IsOpening line (Some s.opened) → s.form ≡ line → s.contrary ≡ NotE (Hyp 1) (Hyp 0) → IsStage w parents line 1 s
  line_stage s opening e f = record {
    has = subst (λ (a : Form). HasClause a s.opened.clause s.opened.is_or) (sym e) opening.1;
    ready = subst (IsReady w) (sym e) r.ready;
    refutes = subst (λ (a : Form). RefutesClosed w parents line 1 a s.contrary) (sym e) (subst (RefutesClosed w parents line 1 line) (sym f) line_refutes);
  }

  -- by a parent that says what the literal stands for
  module _ (p : Parent) (i : ℕ) (there : slice_get parents i ≡ Some p) (q : ℕ) (meaning : Form) (is : p.form ≡ Iff (Atom q []) meaning) (p_ready : IsReady w p.form) (place n : ℕ) (at : slice_get o.clause.lits place ≡ Some (name_lit q)) where
    m_ready : IsReady w meaning
    m_ready = (sorted_of_iff w [] 1000000000 (Atom q []) meaning (subst (IsReady w) is p_ready)).1

    pub name_refutes : RefutesClosed w parents line n meaning (name_tree o place p.number n)
    name_refutes formulas known v h sc few first denied =
        let t = theory_of w formulas in
        let sorts = o.clause.sorts in
        let goal = body o in
        let has = r.opening.1 in
        let room : length sorts ≤ 1000000000 = few_sorts w line o.clause o.is_or r.ready has in
        let line_there : Sorted w v line = closed_anywhere w v 2147483647 line sc (full w line r.ready) in
        let whole : Sorted w v (closed_by sorts goal) = subst (Sorted w v) has.is line_there in
        let inner : Sorted w (around sorts v) goal = under_around w sorts v goal (omega arith) whole in
        let hs = all_around sorts h in
        let vs = around sorts v in
        let form_there : Sorted w vs p.form = closed_anywhere w vs 2147483647 p.form inner.scope_fits (full w p.form p_ready) in
        let equal : Proves t vs hs (Line p.number) (Iff (Atom q []) meaning) = subst (λ (a : Form). Proves t vs hs (Line p.number) a) is (by_line t vs hs p.number p.form form_there (of_theory t parents i p known there)) in
        let own = by_hyp t vs hs 0 meaning (closed_anywhere w vs 2147483647 meaning inner.scope_fits (full w meaning m_ready)) (closed_at w sorts h 0 meaning m_ready first) in
        let name : Proves t vs hs (IffR (Line p.number) (Hyp 0)) (Atom q []) = by_iff_r t vs hs (Line p.number) (Hyp 0) (Atom q []) meaning equal own in
        let shown = injected_shows t vs hs o.is_or o.clause.lits place (name_lit q) (IffR (Line p.number) (Hyp 0)) has.alone inner at name in
        let all : Proves t v h (all_tree sorts (injected_tree o.is_or o.clause.lits place (IffR (Line p.number) (Hyp 0)))) line =
        subst (λ (a : Form). Proves t v h (all_tree sorts (injected_tree o.is_or o.clause.lits place (IffR (Line p.number) (Hyp 0)))) a) (sym has.is) (all_shown t sorts v h goal (injected_tree o.is_or o.clause.lits place (IffR (Line p.number) (Hyp 0))) (omega arith) whole shown) in
        by_not_e t v h (Hyp n) (all_tree sorts (injected_tree o.is_or o.clause.lits place (IffR (Line p.number) (Hyp 0)))) line (by_hyp t v h n (Not line) (not_sorted w v 2147483647 line line_there) denied) all

    pub name_stage : (s : Stage) → IsOpening meaning (Some s.opened) → s.form ≡ meaning → s.contrary ≡ name_tree o place p.number n → IsStage w parents line n s
    name_stage s opening e f = record {
      has = subst (λ (a : Form). HasClause a s.opened.clause s.opened.is_or) (sym e) opening.1;
      ready = subst (IsReady w) (sym e) m_ready;
      refutes = subst (λ (a : Form). RefutesClosed w parents line n a s.contrary) (sym e) (subst (RefutesClosed w parents line n meaning) (sym f) name_refutes);
    }

-- As code meets them: what the parent of a number says.
pub sides_are : (e d : Clause) (form name meaning : Form) (n : Names e form d) → form ≡ Iff name meaning → (name ≡ Atom n.name []) × (meaning ≡ n.meaning)
sides_are e d form name meaning n is = Iff-injective name meaning (Atom n.name []) n.meaning (sym is ∙ n.is)

-- a parent that says what a name stands for is an equivalence
pub is_equivalence : (parents : List Parent) (e : Clause) (a : ℕ) (r : Parent) → r ≡ get_or parents a r → (p : Parent) (d : Clause) → slice_get parents a ≡ Some p → Names e p.form d → ((name meaning : Form) → r.form ≡ Iff name meaning → ⊥) → ⊥
is_equivalence parents e a r read p d there n other = other (Atom n.name []) n.meaning (ap (λ (x : Parent). x.form) (parent_at parents a p r there read) ∙ n.is)

module _ (parents : List Parent) (e : Clause) (a : ℕ) (r : Parent) (read : r ≡ get_or parents a r) (name meaning : Form) (form : r.form ≡ Iff name meaning) (p : Parent) (d : Clause) (there : slice_get parents a ≡ Some p) (n : Names e p.form d) where
  same_parent : r ≡ p
  same_parent = parent_at parents a p r there read

  pub stage_there : slice_get parents a ≡ Some r
  stage_there = there ∙ ap Some (sym same_parent)

  stage_sides : (name ≡ Atom n.name []) × (meaning ≡ n.meaning)
  stage_sides = sides_are e d p.form name meaning n (ap (λ (x : Parent). x.form) (sym same_parent) ∙ form)

  pub stage_name : name ≡ Atom n.name []
  stage_name = stage_sides.0

  pub stage_is : r.form ≡ Iff (Atom n.name []) meaning
  stage_is = form ∙ ap (λ (x : Form). Iff x meaning) stage_name

  pub stage_clause : clause_of meaning ≡ Some d
  stage_clause = ap clause_of stage_sides.1 ∙ n.clause

  pub stage_opened : (o : Opened) → IsOpening meaning (Some o) → o.clause ≡ d
  stage_opened o opening = opened_clause meaning o d opening stage_clause

-- One stage more.
pub stages_more : (w : Vocabulary) (parents : List Parent) (line : Form) (n m : ℕ) (stages : List Stage) (s : Stage) → m ≡ n + length stages → AreStages w parents line n stages → IsStage w parents line m s → AreStages w parents line n (stages ++ s ∷ [])
stages_more w parents line n m [] s e all own = (let same : m ≡ n = omega arith in subst (λ (k : ℕ). IsStage w parents line k s) same own, tt)
stages_more w parents line n m (x ∷ stages) s e all own = (all.0, stages_more w parents line (n + 1) m stages s (omega arith) all.1 own)

pub clauses_more : (stages : List Stage) (s : Stage) (whole : List Clause) (ds : List Clause) (i : ℕ) (d : Clause) → s.opened.clause ≡ d → drop i ds ≡ d ∷ drop (i + 1) ds → stage_clauses stages ++ drop i ds ≡ whole → stage_clauses (stages ++ s ∷ []) ++ drop (i + 1) ds ≡ whole
clauses_more stages s whole ds i d e f before =
    ap (λ (cs : List Clause). cs ++ drop (i + 1) ds) (map-append (λ (x : Stage). x.opened.clause) stages (s ∷ []) ∙ ap (λ (c : Clause). stage_clauses stages ++ c ∷ []) e)
    ∙ append_assoc (stage_clauses stages) (d ∷ []) (drop (i + 1) ds) ∙ ap (λ (cs : List Clause). stage_clauses stages ++ cs) (sym f) ∙ before

-- what the number at a place names
pub named_at : (forms : List Form) (e : Clause) (names : List ℕ) (ds : List Clause) (i n : ℕ) → AreNamed forms e names ds → i < length names → n ≡ get_or names i 0
    → (form : Form) × (d : Clause) × (slice_get forms n ≡ Some form) × Names e form d × (drop i ds ≡ d ∷ drop (i + 1) ds)
named_at forms e [] ds i n all lt is = absurd (omega arith)
named_at forms e (m ∷ names) [] i n all lt is = absurd all
named_at forms e (m ∷ names) (d ∷ ds) zero n all lt is = (all.0.0, d, ap (slice_get forms) is ∙ all.0.1, all.0.2, refl)
named_at forms e (m ∷ names) (d ∷ ds) (suc i) n all lt is =
    let r = named_at forms e names ds i n all.1 (omega arith) is in
    (r.0, r.1, r.2, r.3, rw add-one (rw add-one at r.4))

-- those that say what names stand for, one by one
named_more : (forms : List Form) (e : Clause) (names : List ℕ) (ds : List Clause) (n : ℕ) (form : Form) (d : Clause) → AreNamed forms e names ds → slice_get forms n ≡ Some form → Names e form d → AreNamed forms e (names ++ n ∷ []) (ds ++ d ∷ [])
named_more forms e [] [] n form d all at own = ((form, at, own), tt)
named_more forms e [] (c ∷ ds) n form d all at own = absurd all
named_more forms e (m ∷ names) [] n form d all at own = absurd all
named_more forms e (m ∷ names) (c ∷ ds) n form d all at own = (all.0, named_more forms e names ds n form d all.1 at own)

pub are_named : (forms : List Form) (e : Clause) (i : ℕ) (names : List ℕ) (ds : List Clause) → AllName forms e i names ds → AreNamed forms e names ds
are_named forms e zero names ds h = subst (λ (ns : List ℕ). AreNamed forms e ns ds) (sym h.0) (subst (AreNamed forms e []) (sym h.1) tt)
are_named forms e (suc i) names ds (inl h) =
    subst (λ (ns : List ℕ). AreNamed forms e ns ds) (sym h.4.2) (subst (AreNamed forms e (h.4.0 ++ i ∷ [])) (sym h.4.3) (named_more forms e h.4.0 h.4.1 i h.0 h.1 (are_named forms e i h.4.0 h.4.1 h.4.4) h.2 h.3))
are_named forms e (suc i) names ds (inr h) = are_named forms e i names ds h.1
