-- Equality factoring: two equations with one side in common.
use Rattle.std.specs.Prelude.{ℕ, ◌≡◌, ◌≢◌, ◌+◌, ◌<◌, if◌then◌else◌, Bool, true, false, List, [], ◌∷◌, ◌++◌, length, take, drop, reverse, slice_get, slice_set, Some, refl}
use Rattle.std.proofs.Common.{ap, sym, subst, ◌∙◌, arith, inl, inr, zero, suc, append-nil}
use Rattle.fof_terms.specs.declared.term.Term.{Term, Var}
use Rattle.fof_terms.specs.declared.form.Form.{Form, Eq, Not, Or}
use Rattle.fof_terms.specs.Vocabulary.{Vocabulary}
use Rattle.fof_terms.specs.Lift.{lifted_term}
use Rattle.fof_terms.specs.Instance.{instance_at, instance_term}
use Rattle.fof_terms.proofs.InstanceFacts.{instance_at-Eq}
use Rattle.fof_terms.proofs.LiftingLaws.{here, instance_of_lifted, below_or_above}
use Rattle.fof_terms.proofs.SortsFacts.{sort_of_term-Var}
use Rattle.fof_terms.specs.Sorts.{IsScope, Sorted}
use Rattle.fof_terms.proofs.Scoped.{eq_sorted, not_sorted, sorted_of_eq}
use Rattle.fof_terms.proofs.Walks.{lifted_sort}
use Rattle.clause_form.specs.declared.clause.AtomOf.TheVariants.{Eq as Equation}
use Rattle.clause_form.specs.declared.clause.Lit.{Lit}
use Rattle.clause_form.specs.declared.clause.Clause.{Clause}
use Rattle.clause_form.specs.ClauseView.{form_of_lit}
use Rattle.clause_form.specs.Covers.{negated, scope_of}
use Rattle.clause_rules.specs.EqFactorRule.{IsFactored, Factors}
use Rattle.clause_rules.specs.Steps.{IsJoint, images_of_parents, equation, unequal}
use Rattle.kernel.specs.Statements.{Statements}
use Rattle.kernel.specs.Proves.{Proves}
use Rattle.kernel.proofs.Building.{by_hyp, by_subst}
use Rattle.kernel.specs.declared.proof.Proof.{Proof, Hyp, Subst}
use Rattle.clause_proofs.specs.declared.opening.Opened.{Opened}
use Rattle.clause_proofs.specs.declared.premises.Premise.{Premise}
use Rattle.clause_proofs.specs.code.Bodies.{IsReadyClause}
use Rattle.clause_proofs.specs.Premises.{IsPremiseOf}
use Rattle.rule_proofs.specs.code.Factoring.{IsChained, IsFactoring, IsWritten, pick}
use Rattle.clause_proofs.specs.Refuting.{theory_of, IsDenial, Refutes, RefutesIn, IsSettled, AllSettled}
use Rattle.clause_proofs.specs.Turning.{IsTurned}
use Rattle.clause_proofs.specs.code.Refuting.{ShowsFrom}
use Rattle.clause_proofs.proofs.Peeling.{lifted_nothing}
use Rattle.clause_proofs.proofs.TurnedSides.{turned_shows}
use Rattle.clause_proofs.proofs.LineGoals.{Exist, both_exist, own_exist}
use Rattle.rule_proofs.proofs.Joints.{reach_is}
use Rattle.clause_proofs.proofs.OneInstance.{instances_here}

-- the terms of the equations, as they are written
pub sides_at : (flipped : Bool) (k : Lit) (side first l r : Term) → k ≡ equation flipped side first → k.atom ≡ Equation l r → (pick flipped l r ≡ side) × (pick flipped r l ≡ first)
sides_at true k side first l r e f = let both : Equation l r ≡ Equation first side = sym f ∙ ap (λ (x : Lit). x.atom) e in (cc, cc)
sides_at false k side first l r e f = let both : Equation l r ≡ Equation side first = sym f ∙ ap (λ (x : Lit). x.atom) e in (cc, cc)

pick_other : (flipped : Bool) (l r : Term) → pick flipped l r ≡ pick flipped l r
pick_other flipped l r = refl

pub factoring_at : (line : List Lit) (p o : Lit) (f g : Bool) (side first second l r x y a b c : Term) → IsFactoring line p o f g side first second → p.atom ≡ Equation l r → o.atom ≡ Equation x y → a ≡ pick f l r → b ≡ pick f r l → c ≡ pick g y x
    → IsFactoring line p o f g a b c
factoring_at line p o f g side first second l r x y a b c h ep eo ea eb ec =
    let one = sides_at f p side first l r h.pivot_is ep in
    let two = sides_at g o side second x y h.other_is eo in
    let sa : a ≡ side = ea ∙ one.0 in
    let sb : b ≡ first = eb ∙ one.1 in
    let sc : c ≡ second = ec ∙ two.1 in
    subst (λ (z : Term). IsFactoring line p o f g z b c) (sym sa) (subst (λ (z : Term). IsFactoring line p o f g side z c) (sym sb) (subst (λ (z : Term). IsFactoring line p o f g side first z) (sym sc) h))

equation_form : (flipped : Bool) (l r : Term) → form_of_lit (equation flipped l r) ≡ (if flipped then Eq r l else Eq l r)
equation_form true l r = refl
equation_form false l r = refl

hole_at : (x side : Term) → instance_at x 0 (Eq (lifted_term 1 0 side) (Var 0)) ≡ Eq side x
hole_at x side =
    let filled : instance_term x 0 (Var 0) ≡ x = here x 0 0 refl ∙ lifted_nothing x in
    let own : instance_term x 0 (lifted_term 1 0 side) ≡ side = instance_of_lifted x side 0 0 (omega arith) ∙ lifted_nothing side in
    instance_at-Eq x 0 (lifted_term 1 0 side) (Var 0) ∙ (rw (filled, own) refl)

one_lit : (k l : Lit) → Some k ≡ Some l → k ≡ l
one_lit k l e = cc

one_value : (x y : ℕ) → Some x ≡ Some y → x ≡ y
one_value x y e = cc

module _ (w : Vocabulary) (v : List ℕ) where
  pub turned_back : (l r : Term) → Sorted w v (Eq l r) → Sorted w v (Eq r l)
  turned_back l r s = let sides = sorted_of_eq w v 2147483647 l r s in eq_sorted w v 2147483647 s.scope_fits r l sides.0 sides.2 sides.1

  pub chained_shows : (fs h : List Form) (side first second : Term) (same own made : Proof) → length v < 2147483647 → Sorted w v (Eq side first) → IsChained w v side first same own made
      → Proves (theory_of w fs) v h same (Eq first second) → Proves (theory_of w fs) v h own (Eq side first) → Proves (theory_of w fs) v h made (Eq side second)
  chained_shows fs h side first second same own made room sorted (s, e, there, is) w1 w2 =
      let t = theory_of w fs in
      let hole = Eq (lifted_term 1 0 side) (Var 0) in
      let sides = sorted_of_eq w v 2147483647 side first sorted in
      let at : sides.0 ≡ s = one_value sides.0 s (sym sides.2 ∙ e) in
      let sc : IsScope w (s ∷ v) = record { few_variables = omega (arith, room); sorts_exist = (there, sorted.scope_fits.sorts_exist) } in
      let body : Sorted w (s ∷ v) hole = eq_sorted w (s ∷ v) 2147483647 sc (lifted_term 1 0 side) (Var 0) s (lifted_sort w (s ∷ []) v [] side ∙ sides.1 ∙ ap Some at) (rw sort_of_term-Var refl) in
      let fact : Proves t v h own (instance_at first 0 hole) = subst (λ (a : Form). Proves t v h own a) (sym (hole_at first side)) w2 in
      subst (λ (q : Proof). Proves t v h q (Eq side second)) (sym is) (subst (λ (a : Form). Proves t v h (Subst s hole same own) a) (hole_at second side) (by_subst t v h s hole same own first second body w1 e fact))

  pub read_turned : (l r : Term) (flipped : Bool) (own made : Proof) → flipped ≡ true → own ≡ Hyp 0 → length v < 2147483647 → Sorted w v (Eq l r) → IsTurned w v r own made → ShowsFrom w v 0 (form_of_lit (equation flipped l r)) (Eq l r) made
  read_turned l r flipped own made e is room sorted (s, es, there, tree) fs h at =
      let t = theory_of w fs in
      let back = turned_back l r sorted in
      let form : form_of_lit (equation flipped l r) ≡ Eq r l = ap (λ (b : Bool). form_of_lit (equation b l r)) e in
      let shown : Proves t v h own (Eq r l) = subst (λ (q : Proof). Proves t v h q (Eq r l)) (sym is) (by_hyp t v h 0 (Eq r l) back (at ∙ ap Some form)) in
      subst (λ (q : Proof). Proves t v h q (Eq l r)) (sym tree) (turned_shows w v fs h r l s own room back es there shown)

  pub read_straight : (l r : Term) (flipped : Bool) (own : Proof) → flipped ≡ false → own ≡ Hyp 0 → Sorted w v (Eq l r) → ShowsFrom w v 0 (form_of_lit (equation flipped l r)) (Eq l r) own
  read_straight l r flipped own e is sorted fs h at =
      let t = theory_of w fs in
      let form : form_of_lit (equation flipped l r) ≡ Eq l r = ap (λ (b : Bool). form_of_lit (equation b l r)) e in
      subst (λ (q : Proof). Proves t v h q (Eq l r)) (sym is) (by_hyp t v h 0 (Eq l r) sorted (at ∙ ap Some form))

  pub written_turned : (l r : Term) (flipped : Bool) (p made : Proof) → flipped ≡ true → length v < 2147483647 → Sorted w v (Eq l r) → IsTurned w v l p made → IsWritten w v l r flipped p made
  written_turned l r flipped p made e room sorted (s, es, there, tree) fs h shown =
      let t = theory_of w fs in
      let form : form_of_lit (equation flipped l r) ≡ Eq r l = ap (λ (b : Bool). form_of_lit (equation b l r)) e in
      subst (λ (a : Form). Proves t v h made a) (sym form) (subst (λ (q : Proof). Proves t v h q (Eq r l)) (sym tree) (turned_shows w v fs h l r s p room sorted es there shown))

  pub written_straight : (l r : Term) (flipped : Bool) (p : Proof) → flipped ≡ false → IsWritten w v l r flipped p p
  written_straight l r flipped p e fs h shown = let form : form_of_lit (equation flipped l r) ≡ Eq l r = ap (λ (b : Bool). form_of_lit (equation b l r)) e in subst (λ (a : Form). Proves (theory_of w fs) v h p a) (sym form) shown

  pub unequal_sorted : (side first second : Term) → Sorted w v (Eq side first) → Sorted w v (Eq side second) → Sorted w v (form_of_lit (unequal first second))
  unequal_sorted side first second s r =
      let one = sorted_of_eq w v 2147483647 side first s in
      let two = sorted_of_eq w v 2147483647 side second r in
      let same : two.0 ≡ one.0 = one_value two.0 one.0 (sym two.1 ∙ one.1) in
      not_sorted w v 2147483647 (Eq first second) (eq_sorted w v 2147483647 s.scope_fits first second one.0 one.2 (two.2 ∙ ap Some same))

  equation_sorted_of : (flipped : Bool) (l r : Term) → Sorted w v (form_of_lit (equation flipped l r)) → Sorted w v (Eq l r)
  equation_sorted_of true l r s = turned_back r l s
  equation_sorted_of false l r s = s

  pub lit_equation : (k : Lit) (flipped : Bool) (l r : Term) → k ≡ equation flipped l r → Sorted w v (form_of_lit k) → Sorted w v (Eq l r)
  lit_equation k flipped l r e s = equation_sorted_of flipped l r (subst (λ (x : Lit). Sorted w v (form_of_lit x)) e s)

  equation_sorted : (flipped : Bool) (l r : Term) → Sorted w v (Eq l r) → Sorted w v (form_of_lit (equation flipped l r))
  equation_sorted true l r s = turned_back l r s
  equation_sorted false l r s = s

  pub as_written : (k : Lit) (flipped : Bool) (l r : Term) → k ≡ equation flipped l r → Sorted w v (Eq l r) → Sorted w v (form_of_lit k)
  as_written k flipped l r e s = subst (λ (x : Lit). Sorted w v (form_of_lit x)) (sym e) (equation_sorted flipped l r s)

  -- the whole refutation
  pub linked_refutes : (g : Form) (f h_flipped : Bool) (side first second : Term) (other denied : Lit) (fact : Form) (none same own link whole rest p : Proof) → length v < 2147483647
      → Sorted w v (Eq side first) → Sorted w v (Eq side second) → denied ≡ unequal first second → other ≡ equation h_flipped side second → fact ≡ form_of_lit other
      → Refutes w v 2 g (form_of_lit denied) none → IsDenial denied none same → ShowsFrom w v 0 (form_of_lit (equation f side first)) (Eq side first) own → IsChained w v side first same own link
      → IsWritten w v side second h_flipped link whole → Refutes w v 2 g (form_of_lit other) rest
      → ((t : Statements) (v : List ℕ) (h : List Form) (a : Form) → Proves t v h whole fact → Proves t v (fact ∷ h) rest a → Proves t v h p a)
      → (formulas : List Form) → RefutesIn w v formulas g (form_of_lit (equation f side first)) p
  linked_refutes g f h_flipped side first second other denied fact none same own link whole rest p room s1 s2 ed eo ef ref den reads chain write two build formulas h =
      let t = theory_of w formulas in
      let pivot = form_of_lit (equation f side first) in
      let hs = pivot ∷ Not g ∷ h in
      let sd : Sorted w v (form_of_lit denied) = subst (λ (x : Lit). Sorted w v (form_of_lit x)) (sym ed) (unequal_sorted side first second s1 s2) in
      let opposite : form_of_lit (negated denied) ≡ Eq first second = ap (λ (x : Lit). form_of_lit (negated x)) ed in
      let equal : Proves t v hs same (Eq first second) = subst (λ (a : Form). Proves t v hs same a) opposite (den t v hs sd (ref formulas (form_of_lit denied ∷ hs) refl refl)) in
      let linked = chained_shows formulas hs side first second same own link room s1 chain equal (reads formulas hs refl) in
      let shown : Proves t v hs whole fact = subst (λ (a : Form). Proves t v hs whole a) (ap form_of_lit (sym eo) ∙ sym ef) (write formulas hs linked) in
      build t v hs (Or []) shown (two formulas (fact ∷ hs) (ap Some ef) refl)

-- what the factoring leaves
set_other : (xs : List Lit) (i n : ℕ) (x : Lit) → n ≢ i → slice_get (slice_set xs i x) n ≡ slice_get xs n
set_other [] i n x e = refl
set_other (y ∷ xs) zero zero x e = absurd (e refl)
set_other (y ∷ xs) zero (suc n) x e = refl
set_other (y ∷ xs) (suc i) zero x e = refl
set_other (y ∷ xs) (suc i) (suc n) x e = set_other xs i n x (λ same. e (ap (λ k. suc k) same))

set_here : (xs : List Lit) (i : ℕ) (x y : Lit) → slice_get xs i ≡ Some y → slice_get (slice_set xs i x) i ≡ Some x
set_here [] i x y e = cc
set_here (z ∷ xs) zero x y e = refl
set_here (z ∷ xs) (suc i) x y e = set_here xs i x y e

module _ (line lits : List Lit) (i : ℕ) (f : Bool) (j : ℕ) (g : Bool) (h : IsFactored line lits i f j g) where
  pub is_factoring : (p o : Lit) → p ≡ equation f h.side h.first → o ≡ equation g h.side h.second → IsFactoring line p o f g h.side h.first h.second
  is_factoring p o ep eo = record {
    pivot_is = ep;
    other_is = eo;
    unequal_covered = h.covered i (unequal h.first h.second) (set_here lits i (unequal h.first h.second) (equation f h.side h.first) h.first_there);
    other_covered = h.covered j o (set_other lits i j (unequal h.first h.second) (λ e. h.apart (sym e)) ∙ h.second_there ∙ ap Some (sym eo));
  }

  settled_here : (p : Lit) (n : ℕ) (k : Lit) → p ≡ equation f h.side h.first → slice_get lits n ≡ Some k → n ≡ i → IsSettled line (negated p) k
  settled_here p n k ep at same =
      let found : Some k ≡ Some (equation f h.side h.first) = sym at ∙ ap (slice_get lits) same ∙ h.first_there in
      let value : k ≡ p = one_lit k (equation f h.side h.first) found ∙ sym ep in
      inr (inl (ap negated value))

  settled_elsewhere : (p : Lit) (n : ℕ) (k : Lit) → slice_get lits n ≡ Some k → n ≢ i → IsSettled line (negated p) k
  settled_elsewhere p n k at other = inl (h.covered n k (set_other lits i n (unequal h.first h.second) other ∙ at))

  pub factor_settled : (p : Lit) → p ≡ equation f h.side h.first → AllSettled line (negated p) lits
  factor_settled p ep n k at =
      elim (below_or_above n i) [
        | inl lt ↦ settled_elsewhere p n k at (λ same. omega arith)
        | inr ge ↦
            elim (below_or_above i n) [
              | inl lt ↦ settled_elsewhere p n k at (λ same. omega arith)
              | inr le ↦ settled_here p n k ep at (omega arith)
            ]
      ]

-- the factoring of the instance
module _ (w : Vocabulary) (e : Clause) (images : List Term) (form : Form) (o : Opened) (r : IsReadyClause w form o) (joint : IsJoint w e (scope_of o.clause) images) (li : List Term) (eli : li ≡ take (length o.clause.sorts) (drop (length e.sorts) images))
    (number : ℕ) (lp : Premise) (hl : IsPremiseOf number o li lp) where
  pub factored_of : (i : ℕ) (f : Bool) (j : ℕ) (g : Bool) → Factors w o.clause e i f j g (scope_of o.clause) (images_of_parents e images) → IsFactored e.lits lp.lits i f j g
  factored_of i f j g fs = subst (λ (xs : List Lit). IsFactored e.lits xs i f j g) (instances_here w e images form o r joint li eli number lp hl) fs.factored

pub one_reach : (v own ls rs e c more : List ℕ) → v ≡ reverse own ++ more → more ≡ reverse ls ++ reverse rs → rs ≡ [] → own ≡ e → ls ≡ c → v ≡ reverse e ++ reverse c
one_reach v own ls rs e c more is m none f g = reach_is v own ls rs e c [] more is m f g none ∙ ap (λ (ss : List ℕ). reverse e ++ ss) (append-nil (reverse c))

pub one_exists : (w : Vocabulary) (form : Form) (o : Opened) (ls rs more : List ℕ) → IsReadyClause w form o → more ≡ reverse ls ++ reverse rs → rs ≡ [] → ls ≡ o.clause.sorts → Exist w more
one_exists w form o ls rs more r m none g =
    let all : Exist w (reverse o.clause.sorts ++ []) = both_exist w (reverse o.clause.sorts) [] (own_exist w form o.clause o.is_or r.ready r.opening.1) tt in
    subst (Exist w) (sym (m ∙ ap (λ (ss : List ℕ). reverse ss ++ reverse rs) g ∙ ap (λ (ss : List ℕ). reverse o.clause.sorts ++ reverse ss) none)) all

pub factors_here : (w : Vocabulary) (images : List Term) (c e x z : Clause) (i : ℕ) (p : Bool) (j : ℕ) (q : Bool) → x ≡ c → z ≡ e → Factors w c e i p j q (scope_of c) (images_of_parents e images)
    → Factors w x z i p j q (scope_of x) (images_of_parents z images)
factors_here w images c e x z i p j q f h r =
    subst (λ (k : Clause). Factors w x k i p j q (scope_of x) (images_of_parents k images)) (sym h) (subst (λ (k : Clause). Factors w k e i p j q (scope_of k) (images_of_parents e images)) (sym f) r)
