-- Falsehood under the negations of several bodies, each over variables of its own, one inside the other.
use Rattle.std.specs.Prelude.{ℕ, ◌≡◌, ◌+◌, ◌≤◌, Bool, true, false, List, [], ◌∷◌, ◌++◌, length, map, reverse, slice_get, Some, refl}
use Rattle.std.specs.Option.{option_map}
use Rattle.std.proofs.Common.{ap, sym, subst, ◌∙◌, arith, append_assoc, length-append, add-one}
use Rattle.std.proofs.lemmas.List.{reverse-append, map-append}
use Rattle.std.proofs.lemmas.Option.{slice_get-map}
use Rattle.fof_terms.specs.declared.form.Form.{Form, Or, Not}
use Rattle.fof_terms.proofs.LiftingLaws.{closed_stays}
use Rattle.fof_terms.specs.Lift.{lifted}
use Rattle.fof_terms.proofs.LiftFacts.{lifted-Or, lifted-Not}
use Rattle.fof_terms.proofs.Moved.{closed_anywhere}
use Rattle.fof_terms.specs.Sorts.{IsScope, Sorted}
use Rattle.fof_terms.proofs.Scoped.{sorted_of_all}
use Rattle.fof_terms.specs.Vocabulary.{Vocabulary}
use Rattle.clause_form.specs.declared.clause.Lit.{Lit}
use Rattle.clause_form.specs.declared.path.Parent.{Parent}
use Rattle.clause_form.specs.ClauseView.{closed_by, form_of_lit}
use Rattle.clause_form.specs.Covers.{lit_apart}
use Rattle.clause_form.specs.Reached.{around}
use Rattle.clause_form.proofs.ReachedFacts.{around_length, lit_moved}
use Rattle.clause_rules.specs.Steps.{IsReady}
use Rattle.kernel.specs.Statements.{Statements}
use Rattle.kernel.specs.Proves.{Proves, over, all_over}
use Rattle.kernel.proofs.Building.{by_all_i, by_raa}
use Rattle.kernel.specs.Rules.{ProveEach}
use Rattle.kernel.specs.declared.proof.Proof.{Proof, Raa}
use Rattle.derive_kit.proofs.Built.{cut_shows}
use Rattle.derive_kit.specs.Derived.{AreOfTheory}
use Rattle.derive_kit.proofs.Around.{all_around, head_around, twice_form}
use Rattle.clause_proofs.specs.declared.opening.Opened.{Opened}
use Rattle.clause_proofs.specs.Bodies.{body_of}
use Rattle.clause_proofs.specs.Closed.{all_tree}
use Rattle.clause_proofs.specs.Refuting.{theory_of, body}
use Rattle.clause_proofs.proofs.ReadyParents.{full}
use Rattle.split_defs.specs.declared.stages.Stage.{Stage}
use Rattle.split_defs.specs.code.SplitProof.{AreStages, stage_clauses, nest_tree, goal_of, variables_in, EachRefutes, AllArms, DeniedAt}
use Rattle.split_defs.specs.SplitRule.{together}
use Rattle.split_defs.proofs.UnderAll.{turn}

-- hypotheses over further variables
one_form : (a b : Form) → Some a ≡ Some b → a ≡ b
one_form a b e = cc

nothing : (a : Form) → a ≡ lifted 0 0 a
nothing a = one_form a (lifted 0 0 a) (head_around [] [] a)

pub around_at : (sorts : List ℕ) (h : List Form) (n : ℕ) (a : Form) → slice_get h n ≡ Some a → slice_get (all_around sorts h) n ≡ Some (lifted (length sorts) 0 a)
around_at [] h n a e = e ∙ ap Some (nothing a)
around_at (s ∷ sorts) h n a e =
    around_at sorts (all_over h) n (over a) (slice_get-map (lifted 1 0) h n ∙ ap (option_map (lifted 1 0)) e) ∙ ap Some (twice_form (length sorts) 1 (length (s ∷ sorts)) (omega arith) a 0)

pub closed_same : (w : Vocabulary) (a : Form) (m : ℕ) → IsReady w a → lifted m 0 a ≡ a
closed_same w a m ready = closed_stays w m a [] 0 (omega arith) ready.fits

pub closed_at : (w : Vocabulary) (sorts : List ℕ) (h : List Form) (n : ℕ) (a : Form) → IsReady w a → slice_get h n ≡ Some a → slice_get (all_around sorts h) n ≡ Some a
closed_at w sorts h n a ready e = around_at sorts h n a e ∙ ap Some (closed_same w a (length sorts) ready)

pub denied_at : (w : Vocabulary) (sorts : List ℕ) (h : List Form) (n : ℕ) (a : Form) → IsReady w a → slice_get h n ≡ Some (Not a) → slice_get (all_around sorts h) n ≡ Some (Not a)
denied_at w sorts h n a ready e = around_at sorts h n (Not a) e ∙ ap Some (lifted-Not (length sorts) 0 a ∙ ap Not (closed_same w a (length sorts) ready))

-- one hypothesis more
pub one_further : (a b : Form) (h : List Form) (n : ℕ) → slice_get h n ≡ Some b → slice_get (a ∷ h) (n + 1) ≡ Some b
one_further a b h n e = rw add-one e

-- for all of the sorts, under any hypotheses
pub all_shown : (t : Statements) (sorts v : List ℕ) (h : List Form) (a : Form) (p : Proof) → length sorts + length v ≤ 2147483647 → Sorted t.vocabulary v (closed_by sorts a) → Proves t (around sorts v) (all_around sorts h) p a
    → Proves t v h (all_tree sorts p) (closed_by sorts a)
all_shown t [] v h a p room r shown = shown
all_shown t (s ∷ sorts) v h a p room r shown =
    by_all_i t v h s (closed_by sorts a) (all_tree sorts p) r
    (all_shown t sorts (s ∷ v) (all_over h) a p (omega arith) (sorted_of_all t.vocabulary v 2147483647 2147483647 s (closed_by sorts a) (omega arith) (omega arith) r) shown)

pub under_around : (w : Vocabulary) (sorts v : List ℕ) (a : Form) → length sorts + length v ≤ 2147483647 → Sorted w v (closed_by sorts a) → Sorted w (around sorts v) a
under_around w [] v a room r = r
under_around w (s ∷ sorts) v a room r = under_around w sorts (s ∷ v) a (omega arith) (sorted_of_all w v 2147483647 2147483647 s (closed_by sorts a) (omega arith) (omega arith) r)

-- the variables and the hypotheses of the inmost part
abbrev pub scope_in : List Stage → List ℕ → List ℕ
scope_in [] v = v
scope_in (s ∷ stages) v = scope_in stages (around s.opened.clause.sorts v)

abbrev pub hyps_in : List Stage → List Form → List Form
hyps_in [] h = h
hyps_in (s ∷ stages) h = hyps_in stages (Not (body s.opened) ∷ all_around s.opened.clause.sorts h)

around_is : (sorts scope : List ℕ) → around sorts scope ≡ reverse sorts ++ scope
around_is [] scope = refl
around_is (s ∷ sorts) scope = around_is sorts (s ∷ scope) ∙ sym (ap (λ (ss : List ℕ). ss ++ scope) (turn s sorts) ∙ append_assoc (reverse sorts) (s ∷ []) scope)

pub scope_is : (stages : List Stage) (v : List ℕ) → scope_in stages v ≡ reverse (together (stage_clauses stages)).sorts ++ v
scope_is [] v = refl
scope_is (s ∷ stages) v =
    let own = s.opened.clause.sorts in
    let rest = (together (stage_clauses stages)).sorts in
    scope_is stages (around own v) ∙ ap (λ (ss : List ℕ). reverse rest ++ ss) (around_is own v) ∙ sym (append_assoc (reverse rest) (reverse own) v)
    ∙ ap (λ (ss : List ℕ). ss ++ v) (sym (reverse-append own rest))

module _ (w : Vocabulary) (formulas : List Form) (parents : List Parent) (line : Form) (known : AreOfTheory (theory_of w formulas) parents) (ready : IsReady w line) where
  abbrev t : Statements
  t = theory_of w formulas

  pub nest_shown : (stages : List Stage) (n : ℕ) (v : List ℕ) (h : List Form) (p : Proof) → variables_in stages + length v ≤ 1000000000 → IsScope w v → slice_get h n ≡ Some (Not line) → AreStages w parents line (n + 1) stages
      → Proves t (scope_in stages v) (hyps_in stages h) p (Or []) → Proves t v h (nest_tree stages p) (Or [])
  nest_shown [] n v h p room sc at are shown = shown
  nest_shown (s ∷ stages) n v h p room sc at are shown =
      let sorts = s.opened.clause.sorts in
      let goal = body s.opened in
      let own = are.0 in
      let inner_hyps = all_around sorts h in
      let total : variables_in (s ∷ stages) ≡ length sorts + variables_in stages = length-append sorts (together (stage_clauses stages)).sorts in
      let size : length (around sorts v) ≡ length sorts + length v = around_length sorts v in
      let there : Sorted w v s.form = closed_anywhere w v 2147483647 s.form sc (full w s.form own.ready) in
      let whole : Sorted w v (closed_by sorts goal) = subst (Sorted w v) own.has.is there in
      let inner : Sorted w (around sorts v) goal = under_around w sorts v goal (omega arith) whole in
      let below = nest_shown stages (n + 1) (around sorts v) (Not goal ∷ inner_hyps) p (omega arith) inner.scope_fits (one_further (Not goal) (Not line) inner_hyps n (denied_at w sorts h n line ready at)) are.1 shown in
      let raa = by_raa t (around sorts v) inner_hyps goal (nest_tree stages p) inner below in
      let all : Proves t v h (all_tree sorts (Raa goal (nest_tree stages p))) (closed_by sorts goal) = all_shown t sorts v h goal (Raa goal (nest_tree stages p)) (omega arith) whole raa in
      let fact : Proves t v h (all_tree sorts (Raa goal (nest_tree stages p))) s.form = subst (λ (a : Form). Proves t v h (all_tree sorts (Raa goal (nest_tree stages p))) a) (sym own.has.is) all in
      cut_shows (all_tree sorts (Raa goal (nest_tree stages p))) s.contrary s.form t v h (Or []) fact
      (own.refutes formulas known v (s.form ∷ h) sc (omega arith) refl (one_further s.form (Not line) h n at))

-- The negations of all bodies are among the inmost hypotheses.
kept : (stages : List Stage) (h : List Form) (n : ℕ) (a : Form) → slice_get h n ≡ Some a → slice_get (hyps_in stages h) (n + length stages) ≡ Some (lifted (variables_in stages) 0 a)
kept [] h n a e = let same : n + 0 ≡ n = omega arith in rw same (e ∙ ap Some (nothing a))
kept (s ∷ stages) h n a e =
    let sorts = s.opened.clause.sorts in
    let total : variables_in (s ∷ stages) ≡ variables_in stages + length sorts = length-append sorts (together (stage_clauses stages)).sorts ∙ (omega arith) in
    let next = one_further (Not (body s.opened)) (lifted (length sorts) 0 a) (all_around sorts h) n (around_at sorts h n a e) in
    let index : n + length (s ∷ stages) ≡ n + 1 + length stages = omega arith in
    ap (slice_get (hyps_in (s ∷ stages) h)) index ∙ kept stages (Not (body s.opened) ∷ all_around sorts h) (n + 1) (lifted (length sorts) 0 a) next
    ∙ ap Some (twice_form (variables_in stages) (length sorts) (variables_in (s ∷ stages)) total a 0)

forms_lifted : (n : ℕ) (lits : List Lit) → map (lifted n 0) (map form_of_lit lits) ≡ map form_of_lit (map (lit_apart n) lits)
forms_lifted n [] = refl
forms_lifted n (l ∷ lits) = rw (lit_moved n 0 l, forms_lifted n lits) refl

body_lifted : (n : ℕ) (b : Bool) (lits : List Lit) → lifted n 0 (body_of b lits) ≡ body_of b (map (lit_apart n) lits)
body_lifted n true lits = lifted-Or n 0 (map form_of_lit lits) ∙ ap Or (forms_lifted n lits)
body_lifted n false [] = lifted-Or n 0 []
body_lifted n false (l ∷ lits) = sym (lit_moved n 0 l)

goal_denied : (o : Opened) (n : ℕ) → lifted n 0 (Not (body o)) ≡ Not (body (goal_of o n))
goal_denied o n = lifted-Not n 0 (body o) ∙ ap Not (body_lifted n o.is_or o.clause.lits)

pub all_denied : (stages : List Stage) (h : List Form) → DeniedAt (hyps_in stages h) stages
all_denied [] h = tt
all_denied (s ∷ stages) h =
    let first = Not (body s.opened) ∷ all_around s.opened.clause.sorts h in
    let same : 0 + length stages ≡ length stages = omega arith in (
      ap (slice_get (hyps_in stages first)) (sym same) ∙ kept stages first 0 (Not (body s.opened)) refl ∙ ap Some (goal_denied s.opened (variables_in stages)),
      all_denied stages first,
    )

-- The cases of the disjunction of all literals.
module _ (w : Vocabulary) (v : List ℕ) (formulas hs : List Form) where
  abbrev u : Statements
  u = theory_of w formulas

  each_shown : (n : ℕ) (g : Form) (lits : List Lit) (arms : List Proof) → EachRefutes w v (n + 1) g lits arms → slice_get hs n ≡ Some (Not g) → ProveEach u v hs arms (map form_of_lit lits) (Or [])
  each_shown n g [] [] each at = tt
  each_shown n g [] (p ∷ arms) each at = absurd each
  each_shown n g (l ∷ lits) [] each at = absurd each
  each_shown n g (l ∷ lits) (p ∷ arms) each at = (each.0 formulas (form_of_lit l ∷ hs) refl (one_further (form_of_lit l) (Not g) hs n at), each_shown n g lits arms each.1 at)

  both_shown : (as_ bs : List Form) (ps qs : List Proof) → ProveEach u v hs ps as_ (Or []) → ProveEach u v hs qs bs (Or []) → ProveEach u v hs (ps ++ qs) (as_ ++ bs) (Or [])
  both_shown [] bs [] qs h k = k
  both_shown [] bs (p ∷ ps) qs h k = absurd h
  both_shown (a ∷ as_) bs [] qs h k = absurd h
  both_shown (a ∷ as_) bs (p ∷ ps) qs h k = (h.0, both_shown as_ bs ps qs h.1 k)

  pub arms_shown : (stages : List Stage) (arms : List Proof) → AllArms w v stages arms → DeniedAt hs stages → ProveEach u v hs arms (map form_of_lit (together (stage_clauses stages)).lits) (Or [])
  arms_shown [] arms all denied = subst (λ (ps : List Proof). ProveEach u v hs ps [] (Or [])) (sym all) tt
  arms_shown (s ∷ stages) arms all denied =
      let own = map (lit_apart (variables_in stages)) s.opened.clause.lits in
      let rest = (together (stage_clauses stages)).lits in
      let goal = body (goal_of s.opened (variables_in stages)) in
      let first = each_shown (length stages) goal own all.0 all.3 denied.0 in
      let second = arms_shown stages all.1 all.4 denied.1 in
      subst (λ (ps : List Proof). ProveEach u v hs ps (map form_of_lit (own ++ rest)) (Or [])) (sym all.2)
      (subst (λ (as_ : List Form). ProveEach u v hs (all.0 ++ all.1) as_ (Or [])) (sym (map-append form_of_lit own rest)) (both_shown (map form_of_lit own) (map form_of_lit rest) all.0 all.1 first second))
