-- What a node of the connectives concludes, from what its parts conclude.
use Rattle.std.specs.Prelude.{ℕ, ◌≡◌, List, [], Some, None, Option, slice_get, IsTrue, IfOk, Result, Ok, Err, false}
use Rattle.std.specs.List.{AllByRecursion}
use Rattle.std.proofs.Common.{ap, sym, subst, ◌∙◌}
use Rattle.fof_terms.specs.declared.form.Form.{Form, Not, And, Or, Imp, Iff}
use Rattle.fof_terms.specs.Sorts.{IsScope, Sorted}
use Rattle.fof_terms.proofs.Scoped.{member_of, sorted_of_not, sorted_of_imp, sorted_of_iff}
use Rattle.fof_terms.proofs.Moved.{closed_anywhere}
use Rattle.fof_terms.proofs.Trees.{And-injective, Not-injective, Imp-injective, Iff-injective}
use Rattle.kernel.specs.Statements.{Statements}
use Rattle.kernel.specs.Proves.{Proves}
use Rattle.kernel.proofs.RuleEquivalences.{Proves-Line, Proves-Hyp, Proves-AndE, Proves-OrI, Proves-ImpI, Proves-ImpE, Proves-NotI, Proves-NotE, Proves-IffI, Proves-IffL, Proves-IffR}
use Rattle.kernel.proofs.Building.{by_line, by_hyp, by_and_e, by_or_i, by_imp_i, by_imp_e, by_not_i, by_not_e, by_iff_i, by_iff_l, by_iff_r}
use Rattle.proof_check.specs.Concludes.{Concludes}
use Rattle.proof_check.specs.code.Concludes.{ConcludesUnder}
use Rattle.kernel.specs.declared.proof.Proof.{Proof, Line, Hyp, AndE, OrI, ImpI, ImpE, NotI, NotE, IffI, IffL, IffR}

-- what follows from what an answer has
pub ok_map : {X E : Type 0} {P Q : X → Type 0} (r : Result X E) → ((x : X) → P x → Q x) → IfOk r P → IfOk r Q
ok_map (Ok x) f p = f x p
ok_map (Err e) f p = p

pub not_true : IsTrue false → ⊥
not_true h = cc

pub some_same : {a b : Form} → Some a ≡ Some b → a ≡ b
some_same e = cc

module _ (t : Statements) (v : List ℕ) (h : List Form) where
  -- one formula alone is concluded
  pub only : (p : Proof) (shown : Option Form) (b c : Form) → Concludes t v h p shown → shown ≡ Some b → Proves t v h p c → b ≡ c
  only p shown b c cp e w = some_same (sym e ∙ (cp c).1 w)

  -- the answer that a proof concludes may be named otherwise
  pub renamed : (p : Proof) (r s : Option Form) → r ≡ s → Concludes t v h p s → Concludes t v h p r
  renamed p r s e c = subst (Concludes t v h p) (sym e) c

  pub line_some : (i : ℕ) (r : Option Form) (b : Form) → IsScope t.vocabulary v → Sorted t.vocabulary [] b → slice_get t.formulas i ≡ Some b → r ≡ Some b → Concludes t v h (Line i) r
  line_some i r b sc closed e er a = (
    λ x. subst (Proves t v h (Line i)) (some_same (sym er ∙ x)) (by_line t v h i b (closed_anywhere t.vocabulary v 2147483647 b sc closed) e),
    λ w. er ∙ sym e ∙ ((Proves-Line t v h i a).0 w).1,
  )

  pub line_none : (i : ℕ) → slice_get t.formulas i ≡ None → Concludes t v h (Line i) None
  line_none i e a = (λ x. cc, λ w. sym e ∙ ((Proves-Line t v h i a).0 w).1)

  pub hyp_shown : (i : ℕ) (r : Option Form) → AllByRecursion (Sorted t.vocabulary v) h → r ≡ slice_get h i → Concludes t v h (Hyp i) r
  hyp_shown i r each e a = (
    λ x. let at = sym e ∙ x in by_hyp t v h i a (member_of (Sorted t.vocabulary v) h i a each at) at,
    λ w. e ∙ ((Proves-Hyp t v h i a).0 w).1,
  )

  pub and_e_some : (k : ℕ) (p : Proof) (shown r : Option Form) (members : List Form) → Concludes t v h p shown → shown ≡ Some (And members) → r ≡ slice_get members k → Concludes t v h (AndE k p) r
  and_e_some k p shown r members cp e er a = (
    λ x. by_and_e t v h k p members a (sym er ∙ x) ((cp (And members)).0 e),
    λ w.
        let q = (Proves-AndE t v h k p a).0 w in
        let one : members ≡ q.1.0 = And-injective members q.1.0 (only p shown (And members) (And q.1.0) cp e q.1.1) in
        er ∙ subst (λ ms. slice_get ms k ≡ Some a) (sym one) q.1.2,
  )

  pub and_e_none : (k : ℕ) (p : Proof) (shown : Option Form) → Concludes t v h p shown → ((members : List Form) → shown ≡ Some (And members) → ⊥) → Concludes t v h (AndE k p) None
  and_e_none k p shown cp none a = (λ x. cc, λ w. let q = (Proves-AndE t v h k p a).0 w in absurd (none q.1.0 ((cp (And q.1.0)).1 q.1.1)))

  pub or_i_yes : (members : List Form) (k : ℕ) (p : Proof) (shown r : Option Form) → r ≡ Some (Or members) → Concludes t v h p shown → Sorted t.vocabulary v (Or members)
      → (b : Form) × (slice_get members k ≡ Some b) × (shown ≡ Some b) → Concludes t v h (OrI members k p) r
  or_i_yes members k p shown r er cp fits chosen a = (
    λ x. subst (Proves t v h (OrI members k p)) (some_same (sym er ∙ x)) (by_or_i t v h members k p chosen.0 fits chosen.1 ((cp chosen.0).0 chosen.2)),
    λ w. er ∙ ap Some (sym ((Proves-OrI t v h members k p a).0 w).1),
  )

  pub or_i_no : (members : List Form) (k : ℕ) (p : Proof) (shown : Option Form) → Concludes t v h p shown
      → (Sorted t.vocabulary v (Or members) → (b : Form) × (slice_get members k ≡ Some b) × (shown ≡ Some b) → ⊥) → Concludes t v h (OrI members k p) None
  or_i_no members k p shown cp none a = (
    λ x. cc,
    λ w. let q = (Proves-OrI t v h members k p a).0 w in absurd (none (subst (Sorted t.vocabulary v) q.1 q.0) (q.2.0, q.2.1, (cp q.2.0).1 q.2.2)),
  )

  pub imp_i_some : (b c : Form) (p : Proof) (shown r : Option Form) → ConcludesUnder t v h b p shown → shown ≡ Some c → r ≡ Some (Imp b c) → Concludes t v h (ImpI b p) r
  imp_i_some b c p shown r cu e er a = (
    λ x. let w = (cu c).0 e in subst (Proves t v h (ImpI b p)) (some_same (sym er ∙ x)) (by_imp_i t v h b c p w.0 w.1),
    λ w.
        let q = (Proves-ImpI t v h b p a).0 w in
        let left = (sorted_of_imp t.vocabulary v 2147483647 b q.1.0 (subst (Sorted t.vocabulary v) q.1.1 q.0)).0 in
        let one : c ≡ q.1.0 = some_same (sym e ∙ (cu q.1.0).1 (left, q.1.2)) in
        er ∙ ap Some (ap (Imp b) one ∙ sym q.1.1),
  )

  pub imp_i_none : (b : Form) (p : Proof) (shown : Option Form) → ConcludesUnder t v h b p shown → shown ≡ None → Concludes t v h (ImpI b p) None
  imp_i_none b p shown cu e a = (
    λ x. cc,
    λ w.
        let q = (Proves-ImpI t v h b p a).0 w in
        let left = (sorted_of_imp t.vocabulary v 2147483647 b q.1.0 (subst (Sorted t.vocabulary v) q.1.1 q.0)).0 in
        let both : None ≡ Some q.1.0 = sym e ∙ (cu q.1.0).1 (left, q.1.2) in
        cc,
  )

  pub imp_e_yes : (p q : Proof) (whole shown r : Option Form) (b c : Form) → Concludes t v h p whole → Concludes t v h q shown → whole ≡ Some (Imp b c) → shown ≡ Some b → r ≡ Some c
      → Concludes t v h (ImpE p q) r
  imp_e_yes p q whole shown r b c cp cq ew es er a = (
    λ x. subst (Proves t v h (ImpE p q)) (some_same (sym er ∙ x)) (by_imp_e t v h p q b c ((cp (Imp b c)).0 ew) ((cq b).0 es)),
    λ w. let g = ((Proves-ImpE t v h p q a).0 w).1 in er ∙ ap Some (Imp-injective b c g.0 a (only p whole (Imp b c) (Imp g.0 a) cp ew g.1)).1,
  )

  pub not_i_yes : (b : Form) (p : Proof) (shown r : Option Form) → ConcludesUnder t v h b p shown → shown ≡ Some (Or []) → r ≡ Some (Not b) → Concludes t v h (NotI b p) r
  not_i_yes b p shown r cu e er a = (
    λ x. let w = (cu (Or [])).0 e in subst (Proves t v h (NotI b p)) (some_same (sym er ∙ x)) (by_not_i t v h b p w.0 w.1),
    λ w. er ∙ ap Some (sym ((Proves-NotI t v h b p a).0 w).1),
  )

  pub not_i_no : (b : Form) (p : Proof) (shown : Option Form) → ConcludesUnder t v h b p shown → (shown ≡ Some (Or []) → ⊥) → Concludes t v h (NotI b p) None
  not_i_no b p shown cu none a = (
    λ x. cc,
    λ w.
        let q = (Proves-NotI t v h b p a).0 w in
        absurd (none ((cu (Or [])).1 (sorted_of_not t.vocabulary v 2147483647 b (subst (Sorted t.vocabulary v) q.1 q.0), q.2))),
  )

  pub not_e_yes : (n p : Proof) (denied shown r : Option Form) (b : Form) → Concludes t v h n denied → Concludes t v h p shown → denied ≡ Some (Not b) → shown ≡ Some b → r ≡ Some (Or [])
      → Concludes t v h (NotE n p) r
  not_e_yes n p denied shown r b cn cp en ep er a = (
    λ x. subst (Proves t v h (NotE n p)) (some_same (sym er ∙ x)) (by_not_e t v h n p b ((cn (Not b)).0 en) ((cp b).0 ep)),
    λ w. er ∙ ap Some (sym ((Proves-NotE t v h n p a).0 w).1),
  )

  pub not_e_no : (n p : Proof) (denied shown : Option Form) (b : Form) → Concludes t v h n denied → Concludes t v h p shown → denied ≡ Some (Not b) → (shown ≡ Some b → ⊥) → Concludes t v h (NotE n p) None
  not_e_no n p denied shown b cn cp en none a = (
    λ x. cc,
    λ w.
        let g = ((Proves-NotE t v h n p a).0 w).2 in
        let one = Not-injective b g.0 (only n denied (Not b) (Not g.0) cn en g.1) in
        absurd (none ((cp g.0).1 g.2 ∙ ap Some (sym one))),
  )

  pub not_e_none : (n p : Proof) (denied : Option Form) → Concludes t v h n denied → ((b : Form) → denied ≡ Some (Not b) → ⊥) → Concludes t v h (NotE n p) None
  not_e_none n p denied cn none a = (λ x. cc, λ w. let g = ((Proves-NotE t v h n p a).0 w).2 in absurd (none g.0 ((cn (Not g.0)).1 g.1)))

  pub iff_i_yes : (b c : Form) (p q : Proof) (forth back r : Option Form) → ConcludesUnder t v h b p forth → ConcludesUnder t v h c q back → forth ≡ Some c → back ≡ Some b → r ≡ Some (Iff b c)
      → Concludes t v h (IffI b c p q) r
  iff_i_yes b c p q forth back r cp cq ef eb er a = (
    λ x. subst (Proves t v h (IffI b c p q)) (some_same (sym er ∙ x)) (by_iff_i t v h b c p q ((cp c).0 ef).1 ((cq b).0 eb).1),
    λ w. er ∙ ap Some (sym ((Proves-IffI t v h b c p q a).0 w).1),
  )

  pub iff_i_no : (b c : Form) (p q : Proof) (forth back : Option Form) → ConcludesUnder t v h b p forth → ConcludesUnder t v h c q back → (forth ≡ Some c → back ≡ Some b → ⊥)
      → Concludes t v h (IffI b c p q) None
  iff_i_no b c p q forth back cp cq none a = (
    λ x. cc,
    λ w.
        let g = (Proves-IffI t v h b c p q a).0 w in
        let sides = sorted_of_iff t.vocabulary v 2147483647 b c (subst (Sorted t.vocabulary v) g.1 g.0) in
        absurd (none ((cp c).1 (sides.0, g.2)) ((cq b).1 (sides.1, g.3))),
  )

  pub iff_l_yes : (p q : Proof) (whole shown r : Option Form) (b c : Form) → Concludes t v h p whole → Concludes t v h q shown → whole ≡ Some (Iff b c) → shown ≡ Some b → r ≡ Some c
      → Concludes t v h (IffL p q) r
  iff_l_yes p q whole shown r b c cp cq ew es er a = (
    λ x. subst (Proves t v h (IffL p q)) (some_same (sym er ∙ x)) (by_iff_l t v h p q b c ((cp (Iff b c)).0 ew) ((cq b).0 es)),
    λ w. let g = ((Proves-IffL t v h p q a).0 w).1 in er ∙ ap Some (Iff-injective b c g.0 a (only p whole (Iff b c) (Iff g.0 a) cp ew g.1)).1,
  )

  pub iff_r_yes : (p q : Proof) (whole shown r : Option Form) (b c : Form) → Concludes t v h p whole → Concludes t v h q shown → whole ≡ Some (Iff b c) → shown ≡ Some c → r ≡ Some b
      → Concludes t v h (IffR p q) r
  iff_r_yes p q whole shown r b c cp cq ew es er a = (
    λ x. subst (Proves t v h (IffR p q)) (some_same (sym er ∙ x)) (by_iff_r t v h p q b c ((cp (Iff b c)).0 ew) ((cq c).0 es)),
    λ w. let g = ((Proves-IffR t v h p q a).0 w).1 in er ∙ ap Some (Iff-injective b c a g.0 (only p whole (Iff b c) (Iff a g.0) cp ew g.1)).0,
  )

  pub imp_e_no : (p q : Proof) (whole shown : Option Form) → Concludes t v h p whole → Concludes t v h q shown → ((b c : Form) × (whole ≡ Some (Imp b c)) × (shown ≡ Some b) → ⊥) → Concludes t v h (ImpE p q) None
  imp_e_no p q whole shown cp cq none a = (
    λ x. cc,
    λ w. let g = ((Proves-ImpE t v h p q a).0 w).1 in absurd (none (g.0, a, (cp (Imp g.0 a)).1 g.1, (cq g.0).1 g.2)),
  )

  pub iff_l_no : (p q : Proof) (whole shown : Option Form) → Concludes t v h p whole → Concludes t v h q shown → ((b c : Form) × (whole ≡ Some (Iff b c)) × (shown ≡ Some b) → ⊥) → Concludes t v h (IffL p q) None
  iff_l_no p q whole shown cp cq none a = (
    λ x. cc,
    λ w. let g = ((Proves-IffL t v h p q a).0 w).1 in absurd (none (g.0, a, (cp (Iff g.0 a)).1 g.1, (cq g.0).1 g.2)),
  )

  pub iff_r_no : (p q : Proof) (whole shown : Option Form) → Concludes t v h p whole → Concludes t v h q shown → ((b c : Form) × (whole ≡ Some (Iff b c)) × (shown ≡ Some c) → ⊥) → Concludes t v h (IffR p q) None
  iff_r_no p q whole shown cp cq none a = (
    λ x. cc,
    λ w. let g = ((Proves-IffR t v h p q a).0 w).1 in absurd (none (a, g.0, (cp (Iff a g.0)).1 g.1, (cq g.0).1 g.2)),
  )
