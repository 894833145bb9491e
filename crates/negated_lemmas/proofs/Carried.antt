-- Each node of a proof that is carried under one hypothesis more.
use Rattle.std.specs.Prelude.{ℕ, ◌≡◌, ◌+◌, ◌<◌, ◌≤◌, List, [], ◌∷◌, ◌++◌, length, take, slice_get, Some, refl}
use Rattle.std.proofs.Common.{sym, ap, subst, ◌∙◌, arith, zero, suc, get_or}
use Rattle.std.proofs.lemmas.List.{take_more}
use Rattle.fof_terms.specs.Vocabulary.{Vocabulary}
use Rattle.fof_terms.specs.declared.term.Term.{Term}
use Rattle.fof_terms.specs.declared.form.Form.{Form, Not, Imp}
use Rattle.fof_terms.specs.Sorts.{Sorted}
use Rattle.fof_terms.proofs.LiftingLaws.{closed_stays}
use Rattle.fof_terms.proofs.Moved.{closed_anywhere}
use Rattle.fof_terms.proofs.Scoped.{imp_sorted}
use Rattle.kernel.specs.Proves.{Proves, over, all_over}
use Rattle.kernel.specs.Rules.{ProveEach}
use Rattle.kernel.specs.code.Rules.{ProveAll}
use Rattle.kernel.proofs.Building.{by_line, by_hyp, by_imp_e}
use Rattle.kernel.proofs.RuleEquivalences.{Proves-Line, Proves-Hyp, Proves-AndI, Proves-AndE, Proves-OrI, Proves-OrE, Proves-ImpI, Proves-ImpE, Proves-NotI, Proves-NotE, Proves-Raa, Proves-IffI, Proves-IffL, Proves-IffR, Proves-AllI, Proves-AllE, Proves-ExI, Proves-ExE, Proves-Refl, Proves-Subst, Proves-Inhabit}
use Rattle.kernel.specs.declared.proof.Proof.{Proof, Line, Hyp, AndI, AndE, OrI, OrE, ImpI, ImpE, NotI, NotE, Raa, IffI, IffL, IffR, AllI, AllE, ExI, ExE, Refl, Subst, Inhabit}
use Rattle.negated_lemmas.specs.code.Carried.{Setting, carried_to, Carries, CarryEach}

-- a hypothesis keeps its number where one more stands behind all
kept_hypothesis : (h : List Form) (e a : Form) (i : ℕ) → slice_get h i ≡ Some a → slice_get (h ++ e ∷ []) i ≡ Some a
kept_hypothesis [] e a i at = cc
kept_hypothesis (b ∷ h) e a zero at = at
kept_hypothesis (b ∷ h) e a (suc i) at = kept_hypothesis h e a i at

last_hypothesis : (h : List Form) (e : Form) → slice_get (h ++ e ∷ []) (length h) ≡ Some e
last_hypothesis [] e = refl
last_hypothesis (b ∷ h) e = last_hypothesis h e

length_over : (h : List Form) → length (all_over h) ≡ length h
length_over [] = refl
length_over (a ∷ h) = ap suc (length_over h)

-- a closed hypothesis stays over one variable more
over_behind : (v : Vocabulary) (e : Form) → Sorted v [] e → (h : List Form) → all_over (h ++ e ∷ []) ≡ all_over h ++ e ∷ []
over_behind v e closed [] = ap (λ a. a ∷ []) (closed_stays v 1 e [] 0 (omega arith) closed.fits)
over_behind v e closed (a ∷ h) = ap (λ g. over a ∷ g) (over_behind v e closed h)

module _ (first depth : ℕ) where
  -- the hypotheses with the assumed one behind
  abbrev with_assumed : Setting first → List Form → List Form
  with_assumed s h = h ++ s.assumed ∷ []

  deeper_under : (h : List Form) (b : Form) → length h ≡ depth → length (b ∷ h) ≡ depth + 1
  deeper_under h b e = omega arith

  same_over : (h : List Form) → length h ≡ depth → length (all_over h) ≡ depth
  same_over h e = length_over h ∙ e

  -- what a part shows over one variable more
  part_over : (s : Setting first) (v : List ℕ) (sort : ℕ) (h : List Form) (p q : Proof) (a : Form) → Carries first depth p q → length h ≡ depth → Proves s.theory (sort ∷ v) (all_over h) p a
      → Proves (carried_to first s) (sort ∷ v) (all_over (with_assumed s h)) q a
  part_over s v sort h p q a c e w =
      subst (λ g. Proves (carried_to first s) (sort ∷ v) g q a) (sym (over_behind s.theory.vocabulary s.assumed s.closed h)) (c.shows s (sort ∷ v) (all_over h) a (same_over h e) w)

  pub line_before : (n : ℕ) → n < first → Carries first depth (Line n) (Line n)
  line_before n lt = record {
    shows = λ s v h a e w. let x = (Proves-Line s.theory v h n a).0 w in (Proves-Line (carried_to first s) v (with_assumed s h) n a).1 (x.0, s.before n a lt x.1);
  }

  pub line_behind : (n : ℕ) → first ≤ n → Carries first depth (Line n) (ImpE (Line n) (Hyp depth))
  line_behind n le = record {
    shows = λ s v h a e w.
        let x = (Proves-Line s.theory v h n a).0 w in
        let fits = closed_anywhere s.theory.vocabulary v 2147483647 s.assumed x.0.scope_fits s.closed in
        let there : slice_get (with_assumed s h) depth ≡ Some s.assumed = subst (λ d. slice_get (with_assumed s h) d ≡ Some s.assumed) e (last_hypothesis h s.assumed) in
        by_imp_e (carried_to first s) v (with_assumed s h) (Line n) (Hyp depth) s.assumed a
        (by_line (carried_to first s) v (with_assumed s h) n (Imp s.assumed a) (imp_sorted s.theory.vocabulary v 2147483647 s.assumed a fits x.0) (s.behind n a le x.1))
        (by_hyp (carried_to first s) v (with_assumed s h) depth s.assumed fits there);
  }

  pub hyp_carried : (n : ℕ) → Carries first depth (Hyp n) (Hyp n)
  hyp_carried n = record {
    shows = λ s v h a e w. let x = (Proves-Hyp s.theory v h n a).0 w in (Proves-Hyp (carried_to first s) v (with_assumed s h) n a).1 (x.0, kept_hypothesis h s.assumed a n x.1);
  }

  all_carried : (s : Setting first) (v : List ℕ) (h : List Form) (ps qs : List Proof) (as_ : List Form) → CarryEach first depth ps qs → length h ≡ depth → ProveAll s.theory v h ps as_
      → ProveAll (carried_to first s) v (with_assumed s h) qs as_
  all_carried s v h [] [] [] c e w = w
  all_carried s v h [] [] (a ∷ as_) c e w = absurd w
  all_carried s v h [] (q ∷ qs) as_ c e w = absurd c
  all_carried s v h (p ∷ ps) [] as_ c e w = absurd c
  all_carried s v h (p ∷ ps) (q ∷ qs) [] c e w = absurd w
  all_carried s v h (p ∷ ps) (q ∷ qs) (a ∷ as_) c e w = (c.0.shows s v h a e w.0, all_carried s v h ps qs as_ c.1 e w.1)

  pub and_i_carried : (ps qs : List Proof) → CarryEach first depth ps qs → Carries first depth (AndI ps) (AndI qs)
  and_i_carried ps qs c = record {
    shows = λ s v h a e w. let x = (Proves-AndI s.theory v h ps a).0 w in (Proves-AndI (carried_to first s) v (with_assumed s h) qs a).1 (x.0, (x.1.0, x.1.1, all_carried s v h ps qs x.1.0 c e x.1.2));
  }

  pub and_e_carried : (k : ℕ) (p q : Proof) → Carries first depth p q → Carries first depth (AndE k p) (AndE k q)
  and_e_carried k p q c = record {
    shows = λ s v h a e w. let x = (Proves-AndE s.theory v h k p a).0 w in (Proves-AndE (carried_to first s) v (with_assumed s h) k q a).1 (x.0, (x.1.0, c.shows s v h _ e x.1.1, x.1.2));
  }

  pub or_i_carried : (as_ : List Form) (k : ℕ) (p q : Proof) → Carries first depth p q → Carries first depth (OrI as_ k p) (OrI as_ k q)
  or_i_carried as_ k p q c = record {
    shows = λ s v h a e w. let x = (Proves-OrI s.theory v h as_ k p a).0 w in (Proves-OrI (carried_to first s) v (with_assumed s h) as_ k q a).1 (x.0, x.1, (x.2.0, x.2.1, c.shows s v h x.2.0 e x.2.2));
  }

  each_carried : (s : Setting first) (v : List ℕ) (h : List Form) (ps qs : List Proof) (as_ : List Form) (a : Form) → CarryEach first (depth + 1) ps qs → length h ≡ depth → ProveEach s.theory v h ps as_ a
      → ProveEach (carried_to first s) v (with_assumed s h) qs as_ a
  each_carried s v h [] [] [] a c e w = w
  each_carried s v h [] [] (b ∷ as_) a c e w = absurd w
  each_carried s v h [] (q ∷ qs) as_ a c e w = absurd c
  each_carried s v h (p ∷ ps) [] as_ a c e w = absurd c
  each_carried s v h (p ∷ ps) (q ∷ qs) [] a c e w = absurd w
  each_carried s v h (p ∷ ps) (q ∷ qs) (b ∷ as_) a c e w = (c.0.shows s v (b ∷ h) a (deeper_under h b e) w.0, each_carried s v h ps qs as_ a c.1 e w.1)

  pub or_e_carried : (g : Form) (p q : Proof) (ps qs : List Proof) → Carries first depth p q → CarryEach first (depth + 1) ps qs → Carries first depth (OrE g p ps) (OrE g q qs)
  or_e_carried g p q ps qs c d = record {
    shows = λ s v h a e w.
        let x = (Proves-OrE s.theory v h g p ps a).0 w in
        (Proves-OrE (carried_to first s) v (with_assumed s h) g q qs a).1 (x.0, x.1, (x.2.0, c.shows s v h _ e x.2.1, each_carried s v h ps qs x.2.0 a d e x.2.2));
  }

  pub imp_i_carried : (b : Form) (p q : Proof) → Carries first (depth + 1) p q → Carries first depth (ImpI b p) (ImpI b q)
  imp_i_carried b p q c = record {
    shows = λ s v h a e w.
        let x = (Proves-ImpI s.theory v h b p a).0 w in
        (Proves-ImpI (carried_to first s) v (with_assumed s h) b q a).1 (x.0, (x.1.0, x.1.1, c.shows s v (b ∷ h) x.1.0 (deeper_under h b e) x.1.2));
  }

  pub imp_e_carried : (p q r u : Proof) → Carries first depth p q → Carries first depth r u → Carries first depth (ImpE p r) (ImpE q u)
  imp_e_carried p q r u c d = record {
    shows = λ s v h a e w.
        let x = (Proves-ImpE s.theory v h p r a).0 w in
        (Proves-ImpE (carried_to first s) v (with_assumed s h) q u a).1 (x.0, (x.1.0, c.shows s v h _ e x.1.1, d.shows s v h x.1.0 e x.1.2));
  }

  pub not_i_carried : (b : Form) (p q : Proof) → Carries first (depth + 1) p q → Carries first depth (NotI b p) (NotI b q)
  not_i_carried b p q c = record {
    shows = λ s v h a e w.
        let x = (Proves-NotI s.theory v h b p a).0 w in
        (Proves-NotI (carried_to first s) v (with_assumed s h) b q a).1 (x.0, x.1, c.shows s v (b ∷ h) _ (deeper_under h b e) x.2);
  }

  pub not_e_carried : (p q r u : Proof) → Carries first depth p q → Carries first depth r u → Carries first depth (NotE p r) (NotE q u)
  not_e_carried p q r u c d = record {
    shows = λ s v h a e w.
        let x = (Proves-NotE s.theory v h p r a).0 w in
        (Proves-NotE (carried_to first s) v (with_assumed s h) q u a).1 (x.0, x.1, (x.2.0, c.shows s v h _ e x.2.1, d.shows s v h x.2.0 e x.2.2));
  }

  pub raa_carried : (g : Form) (p q : Proof) → Carries first (depth + 1) p q → Carries first depth (Raa g p) (Raa g q)
  raa_carried g p q c = record {
    shows = λ s v h a e w.
        let x = (Proves-Raa s.theory v h g p a).0 w in
        (Proves-Raa (carried_to first s) v (with_assumed s h) g q a).1 (x.0, x.1, c.shows s v (Not a ∷ h) _ (deeper_under h (Not a) e) x.2);
  }

  pub iff_i_carried : (b b' : Form) (p q r u : Proof) → Carries first (depth + 1) p q → Carries first (depth + 1) r u → Carries first depth (IffI b b' p r) (IffI b b' q u)
  iff_i_carried b b' p q r u c d = record {
    shows = λ s v h a e w.
        let x = (Proves-IffI s.theory v h b b' p r a).0 w in
        (Proves-IffI (carried_to first s) v (with_assumed s h) b b' q u a).1 (x.0, x.1, c.shows s v (b ∷ h) b' (deeper_under h b e) x.2, d.shows s v (b' ∷ h) b (deeper_under h b' e) x.3);
  }

  pub iff_l_carried : (p q r u : Proof) → Carries first depth p q → Carries first depth r u → Carries first depth (IffL p r) (IffL q u)
  iff_l_carried p q r u c d = record {
    shows = λ s v h a e w.
        let x = (Proves-IffL s.theory v h p r a).0 w in
        (Proves-IffL (carried_to first s) v (with_assumed s h) q u a).1 (x.0, (x.1.0, c.shows s v h _ e x.1.1, d.shows s v h x.1.0 e x.1.2));
  }

  pub iff_r_carried : (p q r u : Proof) → Carries first depth p q → Carries first depth r u → Carries first depth (IffR p r) (IffR q u)
  iff_r_carried p q r u c d = record {
    shows = λ s v h a e w.
        let x = (Proves-IffR s.theory v h p r a).0 w in
        (Proves-IffR (carried_to first s) v (with_assumed s h) q u a).1 (x.0, (x.1.0, c.shows s v h _ e x.1.1, d.shows s v h x.1.0 e x.1.2));
  }

  pub all_i_carried : (sort : ℕ) (p q : Proof) → Carries first depth p q → Carries first depth (AllI sort p) (AllI sort q)
  all_i_carried sort p q c = record {
    shows = λ s v h a e w.
        let x = (Proves-AllI s.theory v h sort p a).0 w in
        (Proves-AllI (carried_to first s) v (with_assumed s h) sort q a).1 (x.0, (x.1.0, x.1.1, part_over s v sort h p q x.1.0 c e x.1.2));
  }

  pub all_e_carried : (y : Term) (p q : Proof) → Carries first depth p q → Carries first depth (AllE y p) (AllE y q)
  all_e_carried y p q c = record {
    shows = λ s v h a e w.
        let x = (Proves-AllE s.theory v h y p a).0 w in
        (Proves-AllE (carried_to first s) v (with_assumed s h) y q a).1 (x.0, (x.1.0, x.1.1, c.shows s v h _ e x.1.2, x.1.3, x.1.4));
  }

  pub ex_i_carried : (sort : ℕ) (b : Form) (y : Term) (p q : Proof) → Carries first depth p q → Carries first depth (ExI sort b y p) (ExI sort b y q)
  ex_i_carried sort b y p q c = record {
    shows = λ s v h a e w.
        let x = (Proves-ExI s.theory v h sort b y p a).0 w in
        (Proves-ExI (carried_to first s) v (with_assumed s h) sort b y q a).1 (x.0, x.1, x.2, x.3, c.shows s v h _ e x.4);
  }

  pub ex_e_carried : (g : Form) (p q r u : Proof) → Carries first depth p q → Carries first (depth + 1) r u → Carries first depth (ExE g p r) (ExE g q u)
  ex_e_carried g p q r u c d = record {
    shows = λ s v h a e w.
        let x = (Proves-ExE s.theory v h g p r a).0 w in
        let y = x.2 in
        let here : length (y.1 ∷ all_over h) ≡ depth + 1 = deeper_under (all_over h) y.1 (same_over h e) in
        let rest : Proves (carried_to first s) (y.0 ∷ v) (y.1 ∷ all_over (with_assumed s h)) u (over a) =
        subst (λ k. Proves (carried_to first s) (y.0 ∷ v) (y.1 ∷ k) u (over a)) (sym (over_behind s.theory.vocabulary s.assumed s.closed h)) (d.shows s (y.0 ∷ v) (y.1 ∷ all_over h) (over a) here y.3) in
        (Proves-ExE (carried_to first s) v (with_assumed s h) g q u a).1 (x.0, x.1, (y.0, y.1, c.shows s v h _ e y.2, rest));
  }

  pub refl_carried : (y : Term) → Carries first depth (Refl y) (Refl y)
  refl_carried y = record {
    shows = λ s v h a e w. let x = (Proves-Refl s.theory v h y a).0 w in (Proves-Refl (carried_to first s) v (with_assumed s h) y a).1 x;
  }

  pub subst_carried : (sort : ℕ) (b : Form) (p q r u : Proof) → Carries first depth p q → Carries first depth r u → Carries first depth (Subst sort b p r) (Subst sort b q u)
  subst_carried sort b p q r u c d = record {
    shows = λ s v h a e w.
        let x = (Proves-Subst s.theory v h sort b p r a).0 w in
        let y = x.2 in
        (Proves-Subst (carried_to first s) v (with_assumed s h) sort b q u a).1 (x.0, x.1, (y.0, y.1, c.shows s v h _ e y.2, y.3, d.shows s v h _ e y.4, y.5));
  }

  pub inhabit_carried : (sort : ℕ) (g : Form) (p q : Proof) → Carries first depth p q → Carries first depth (Inhabit sort g p) (Inhabit sort g q)
  inhabit_carried sort g p q c = record {
    shows = λ s v h a e w.
        let x = (Proves-Inhabit s.theory v h sort g p a).0 w in
        (Proves-Inhabit (carried_to first s) v (with_assumed s h) sort g q a).1 (x.0, x.1, part_over s v sort h p q (over a) c e x.2);
  }

  -- one proof more
  pub one_more : (ps qs : List Proof) (p q : Proof) → CarryEach first depth ps qs → Carries first depth p q → CarryEach first depth (ps ++ p ∷ []) (qs ++ q ∷ [])
  one_more [] [] p q all c = (c, tt)
  one_more [] (y ∷ qs) p q all c = absurd all
  one_more (x ∷ ps) [] p q all c = absurd all
  one_more (x ∷ ps) (y ∷ qs) p q all c = (all.0, one_more ps qs p q all.1 c)

  pub each_more : (ps qs : List Proof) (i : ℕ) (p q : Proof) → i < length ps → p ≡ get_or ps i p → CarryEach first depth (take i ps) qs → Carries first depth p q
      → CarryEach first depth (take (i + 1) ps) (qs ++ q ∷ [])
  each_more ps qs i p q lt is all c = rw (take_more ps i p lt) (one_more (take i ps) qs (get_or ps i p) q all (subst (λ (x : Proof). Carries first depth x q) is c))
