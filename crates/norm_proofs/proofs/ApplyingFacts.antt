-- Lemmas on what specs/code/Applying defines.
use Rattle.std.specs.Prelude.{ℕ, ◌==◌, ◌≡◌, Bool, true, false, List, ◌∷◌, Some, refl}
use Rattle.std.proofs.Common.{arith, ap, sym, ◌∙◌}
use Rattle.std.proofs.lemmas.Bool.Decides.{nat_tests}
use Rattle.fof_terms.specs.declared.term.Term.{Term}
use Rattle.fof_terms.specs.declared.form.Form.{Form, Imp}
use Rattle.fof_terms.proofs.Trees.{Imp-injective}
use Rattle.kernel.specs.Statements.{Statements}
use Rattle.kernel.specs.Proves.{Proves}
use Rattle.kernel.proofs.Building.{by_imp_e}
use Rattle.kernel.proofs.RuleEquivalences.{Proves-Hyp, Proves-ImpI}
use Rattle.kernel.specs.declared.proof.Proof.{Proof, Line, Hyp, AndI, AndE, OrI, OrE, ImpI, ImpE, NotI, NotE, Raa, IffI, IffL, IffR, AllI, AllE, ExI, ExE, Refl, Subst, Inhabit}
use Rattle.kernel.specs.declared.proof.Proof.TheOpen as proof
use Rattle.kernel.specs.declared.proof.Proof.TheVariants.{rolls-Hyp, rolls-ImpI}
use Rattle.kernel.specs.declared.proof.Proof.TheViews.{roll-Proof, out-Proof, roll-out-Proof, outs-Line, outs-Hyp, outs-AndI, outs-AndE, outs-OrI, outs-OrE, outs-ImpI, outs-ImpE, outs-NotI, outs-NotE, outs-Raa, outs-IffI, outs-IffL, outs-IffR, outs-AllI, outs-AllE, outs-ExI, outs-ExE, outs-Refl, outs-Subst, outs-Inhabit}
use Rattle.norm_proofs.specs.code.Applying.{is_first_in, is_first, is_itself_in, is_itself, applied}

pub is_first-Line : (i : ℕ) → is_first (Line i) ≡ false
unfolding is_first
is_first-Line i = rw (outs-Line i) refl

pub is_first-Hyp : (i : ℕ) → is_first (Hyp i) ≡ (i == 0)
unfolding is_first
is_first-Hyp i = rw (outs-Hyp i) refl

pub is_first-AndI : (ps : List Proof) → is_first (AndI ps) ≡ false
unfolding is_first
is_first-AndI ps = rw (outs-AndI ps) refl

pub is_first-AndE : (k : ℕ) (p : Proof) → is_first (AndE k p) ≡ false
unfolding is_first
is_first-AndE k p = rw (outs-AndE k p) refl

pub is_first-OrI : (as_ : List Form) (k : ℕ) (p : Proof) → is_first (OrI as_ k p) ≡ false
unfolding is_first
is_first-OrI as_ k p = rw (outs-OrI as_ k p) refl

pub is_first-OrE : (a : Form) (p : Proof) (ps : List Proof) → is_first (OrE a p ps) ≡ false
unfolding is_first
is_first-OrE a p ps = rw (outs-OrE a p ps) refl

pub is_first-ImpI : (a : Form) (p : Proof) → is_first (ImpI a p) ≡ false
unfolding is_first
is_first-ImpI a p = rw (outs-ImpI a p) refl

pub is_first-ImpE : (p q : Proof) → is_first (ImpE p q) ≡ false
unfolding is_first
is_first-ImpE p q = rw (outs-ImpE p q) refl

pub is_first-NotI : (a : Form) (p : Proof) → is_first (NotI a p) ≡ false
unfolding is_first
is_first-NotI a p = rw (outs-NotI a p) refl

pub is_first-NotE : (p q : Proof) → is_first (NotE p q) ≡ false
unfolding is_first
is_first-NotE p q = rw (outs-NotE p q) refl

pub is_first-Raa : (a : Form) (p : Proof) → is_first (Raa a p) ≡ false
unfolding is_first
is_first-Raa a p = rw (outs-Raa a p) refl

pub is_first-IffI : (a b : Form) (p q : Proof) → is_first (IffI a b p q) ≡ false
unfolding is_first
is_first-IffI a b p q = rw (outs-IffI a b p q) refl

pub is_first-IffL : (p q : Proof) → is_first (IffL p q) ≡ false
unfolding is_first
is_first-IffL p q = rw (outs-IffL p q) refl

pub is_first-IffR : (p q : Proof) → is_first (IffR p q) ≡ false
unfolding is_first
is_first-IffR p q = rw (outs-IffR p q) refl

pub is_first-AllI : (s : ℕ) (p : Proof) → is_first (AllI s p) ≡ false
unfolding is_first
is_first-AllI s p = rw (outs-AllI s p) refl

pub is_first-AllE : (x : Term) (p : Proof) → is_first (AllE x p) ≡ false
unfolding is_first
is_first-AllE x p = rw (outs-AllE x p) refl

pub is_first-ExI : (s : ℕ) (a : Form) (x : Term) (p : Proof) → is_first (ExI s a x p) ≡ false
unfolding is_first
is_first-ExI s a x p = rw (outs-ExI s a x p) refl

pub is_first-ExE : (a : Form) (p q : Proof) → is_first (ExE a p q) ≡ false
unfolding is_first
is_first-ExE a p q = rw (outs-ExE a p q) refl

pub is_first-Refl : (x : Term) → is_first (Refl x) ≡ false
unfolding is_first
is_first-Refl x = rw (outs-Refl x) refl

pub is_first-Subst : (s : ℕ) (a : Form) (p q : Proof) → is_first (Subst s a p q) ≡ false
unfolding is_first
is_first-Subst s a p q = rw (outs-Subst s a p q) refl

pub is_first-Inhabit : (s : ℕ) (a : Form) (p : Proof) → is_first (Inhabit s a p) ≡ false
unfolding is_first
is_first-Inhabit s a p = rw (outs-Inhabit s a p) refl

pub ruleset is_first_equations = (is_first-Line, is_first-Hyp, is_first-AndI, is_first-AndE, is_first-OrI, is_first-OrE, is_first-ImpI, is_first-ImpE, is_first-NotI, is_first-NotE, is_first-Raa, is_first-IffI, is_first-IffL, is_first-IffR, is_first-AllI, is_first-AllE, is_first-ExI, is_first-ExE, is_first-Refl, is_first-Subst, is_first-Inhabit)

pub is_itself-Line : (i : ℕ) → is_itself (Line i) ≡ false
unfolding is_itself
is_itself-Line i = rw (outs-Line i) refl

pub is_itself-Hyp : (i : ℕ) → is_itself (Hyp i) ≡ false
unfolding is_itself
is_itself-Hyp i = rw (outs-Hyp i) refl

pub is_itself-AndI : (ps : List Proof) → is_itself (AndI ps) ≡ false
unfolding is_itself
is_itself-AndI ps = rw (outs-AndI ps) refl

pub is_itself-AndE : (k : ℕ) (p : Proof) → is_itself (AndE k p) ≡ false
unfolding is_itself
is_itself-AndE k p = rw (outs-AndE k p) refl

pub is_itself-OrI : (as_ : List Form) (k : ℕ) (p : Proof) → is_itself (OrI as_ k p) ≡ false
unfolding is_itself
is_itself-OrI as_ k p = rw (outs-OrI as_ k p) refl

pub is_itself-OrE : (a : Form) (p : Proof) (ps : List Proof) → is_itself (OrE a p ps) ≡ false
unfolding is_itself
is_itself-OrE a p ps = rw (outs-OrE a p ps) refl

pub is_itself-ImpI : (a : Form) (p : Proof) → is_itself (ImpI a p) ≡ (is_first p)
unfolding is_itself
is_itself-ImpI a p = rw (outs-ImpI a p) refl

pub is_itself-ImpE : (p q : Proof) → is_itself (ImpE p q) ≡ false
unfolding is_itself
is_itself-ImpE p q = rw (outs-ImpE p q) refl

pub is_itself-NotI : (a : Form) (p : Proof) → is_itself (NotI a p) ≡ false
unfolding is_itself
is_itself-NotI a p = rw (outs-NotI a p) refl

pub is_itself-NotE : (p q : Proof) → is_itself (NotE p q) ≡ false
unfolding is_itself
is_itself-NotE p q = rw (outs-NotE p q) refl

pub is_itself-Raa : (a : Form) (p : Proof) → is_itself (Raa a p) ≡ false
unfolding is_itself
is_itself-Raa a p = rw (outs-Raa a p) refl

pub is_itself-IffI : (a b : Form) (p q : Proof) → is_itself (IffI a b p q) ≡ false
unfolding is_itself
is_itself-IffI a b p q = rw (outs-IffI a b p q) refl

pub is_itself-IffL : (p q : Proof) → is_itself (IffL p q) ≡ false
unfolding is_itself
is_itself-IffL p q = rw (outs-IffL p q) refl

pub is_itself-IffR : (p q : Proof) → is_itself (IffR p q) ≡ false
unfolding is_itself
is_itself-IffR p q = rw (outs-IffR p q) refl

pub is_itself-AllI : (s : ℕ) (p : Proof) → is_itself (AllI s p) ≡ false
unfolding is_itself
is_itself-AllI s p = rw (outs-AllI s p) refl

pub is_itself-AllE : (x : Term) (p : Proof) → is_itself (AllE x p) ≡ false
unfolding is_itself
is_itself-AllE x p = rw (outs-AllE x p) refl

pub is_itself-ExI : (s : ℕ) (a : Form) (x : Term) (p : Proof) → is_itself (ExI s a x p) ≡ false
unfolding is_itself
is_itself-ExI s a x p = rw (outs-ExI s a x p) refl

pub is_itself-ExE : (a : Form) (p q : Proof) → is_itself (ExE a p q) ≡ false
unfolding is_itself
is_itself-ExE a p q = rw (outs-ExE a p q) refl

pub is_itself-Refl : (x : Term) → is_itself (Refl x) ≡ false
unfolding is_itself
is_itself-Refl x = rw (outs-Refl x) refl

pub is_itself-Subst : (s : ℕ) (a : Form) (p q : Proof) → is_itself (Subst s a p q) ≡ false
unfolding is_itself
is_itself-Subst s a p q = rw (outs-Subst s a p q) refl

pub is_itself-Inhabit : (s : ℕ) (a : Form) (p : Proof) → is_itself (Inhabit s a p) ≡ false
unfolding is_itself
is_itself-Inhabit s a p = rw (outs-Inhabit s a p) refl

pub ruleset is_itself_equations = (is_itself-Line, is_itself-Hyp, is_itself-AndI, is_itself-AndE, is_itself-OrI, is_itself-OrE, is_itself-ImpI, is_itself-ImpE, is_itself-NotI, is_itself-NotE, is_itself-Raa, is_itself-IffI, is_itself-IffL, is_itself-IffR, is_itself-AllI, is_itself-AllE, is_itself-ExI, is_itself-ExE, is_itself-Refl, is_itself-Subst, is_itself-Inhabit)

-- the trees of which they hold
no : {X : Type 0} → false ≡ true → X
no e = absurd (let never : false ≡ true = e in cc)

first_zero : (k : ℕ) → (k == 0) ≡ true → k ≡ 0
first_zero k e = grind (arith, nat_tests)

first_layer : (x : Proof) (l : proof.Proof-F Proof) → out-Proof x ≡ l → is_first_in l ≡ true → x ≡ Hyp 0
first_layer x (proof.Line i) e h = no h
first_layer x (proof.Hyp k) e h = sym (roll-out-Proof x) ∙ ap roll-Proof e ∙ rolls-Hyp k ∙ ap Hyp (first_zero k h)
first_layer x (proof.AndI ps) e h = no h
first_layer x (proof.AndE k p) e h = no h
first_layer x (proof.OrI as_ k p) e h = no h
first_layer x (proof.OrE a p ps) e h = no h
first_layer x (proof.ImpI a p) e h = no h
first_layer x (proof.ImpE p q) e h = no h
first_layer x (proof.NotI a p) e h = no h
first_layer x (proof.NotE p q) e h = no h
first_layer x (proof.Raa a p) e h = no h
first_layer x (proof.IffI a b p q) e h = no h
first_layer x (proof.IffL p q) e h = no h
first_layer x (proof.IffR p q) e h = no h
first_layer x (proof.AllI s p) e h = no h
first_layer x (proof.AllE y p) e h = no h
first_layer x (proof.ExI s a y p) e h = no h
first_layer x (proof.ExE a p q) e h = no h
first_layer x (proof.Refl y) e h = no h
first_layer x (proof.Subst s a p q) e h = no h
first_layer x (proof.Inhabit s a p) e h = no h

first_is : (x : Proof) → is_first x ≡ true → x ≡ Hyp 0
unfolding is_first
first_is x h = first_layer x (out-Proof x) refl h

itself_layer : (x : Proof) (l : proof.Proof-F Proof) → out-Proof x ≡ l → is_itself_in l ≡ true → (a : Form) × (x ≡ ImpI a (Hyp 0))
itself_layer x (proof.Line i) e h = no h
itself_layer x (proof.Hyp i) e h = no h
itself_layer x (proof.AndI ps) e h = no h
itself_layer x (proof.AndE k p) e h = no h
itself_layer x (proof.OrI as_ k p) e h = no h
itself_layer x (proof.OrE a p ps) e h = no h
itself_layer x (proof.ImpI a p) e h = (a, sym (roll-out-Proof x) ∙ ap roll-Proof e ∙ rolls-ImpI a p ∙ ap (ImpI a) (first_is p h))
itself_layer x (proof.ImpE p q) e h = no h
itself_layer x (proof.NotI a p) e h = no h
itself_layer x (proof.NotE p q) e h = no h
itself_layer x (proof.Raa a p) e h = no h
itself_layer x (proof.IffI a b p q) e h = no h
itself_layer x (proof.IffL p q) e h = no h
itself_layer x (proof.IffR p q) e h = no h
itself_layer x (proof.AllI s p) e h = no h
itself_layer x (proof.AllE y p) e h = no h
itself_layer x (proof.ExI s a y p) e h = no h
itself_layer x (proof.ExE a p q) e h = no h
itself_layer x (proof.Refl y) e h = no h
itself_layer x (proof.Subst s a p q) e h = no h
itself_layer x (proof.Inhabit s a p) e h = no h

itself_is : (x : Proof) → is_itself x ≡ true → (a : Form) × (x ≡ ImpI a (Hyp 0))
unfolding is_itself
itself_is x h = itself_layer x (out-Proof x) refl h

-- both sides of what such a proof shows are one formula
pub same_sides : (t : Statements) (v : List ℕ) (h : List Form) (p : Proof) (a b : Form) → is_itself p ≡ true → Proves t v h p (Imp a b) → a ≡ b
same_sides t v h p a b is w =
    let found = itself_is p is in
    let whole = (Proves-ImpI t v h found.0 (Hyp 0) (Imp a b)).0 (rw found.1 at w) in
    let own = (Proves-Hyp t v (found.0 ∷ h) 0 whole.1.0).0 whole.1.2 in
    let same : found.0 ≡ whole.1.0 = let e : Some found.0 ≡ Some whole.1.0 = own.1 in cc in
    let sides = Imp-injective a b found.0 whole.1.0 whole.1.1 in
    sides.0 ∙ same ∙ sym sides.1

pub applied_itself : (p q : Proof) → is_itself p ≡ true → applied p q ≡ q
unfolding applied
applied_itself p q is = rw is refl

pub applied_other : (p q : Proof) → is_itself p ≡ false → applied p q ≡ ImpE p q
unfolding applied
applied_other p q is = rw is refl

by_case : (t : Statements) (v : List ℕ) (h : List Form) (p q : Proof) (a b : Form) (c : Bool) → is_itself p ≡ c → Proves t v h p (Imp a b) → Proves t v h q a → Proves t v h (applied p q) b
by_case t v h p q a b true is w z = rw (applied_itself p q is) (rw (same_sides t v h p a b is w) at z)
by_case t v h p q a b false is w z = rw (applied_other p q is) (by_imp_e t v h p q a b w z)

pub by_applied : (t : Statements) (v : List ℕ) (h : List Form) (p q : Proof) (a b : Form) → Proves t v h p (Imp a b) → Proves t v h q a → Proves t v h (applied p q) b
by_applied t v h p q a b w z = by_case t v h p q a b (is_itself p) refl w z
