-- Quantified formulas, and their negations, by what is shown of their bodies.
use Rattle.std.specs.Prelude.{ℕ, Bool, true, false, []}
use Rattle.fof_terms.specs.declared.term.Term.{Var}
use Rattle.fof_terms.specs.declared.form.Form.{Form, Not, Or, All, Ex}
use Rattle.fof_terms.specs.Lift.{lifted}
use Rattle.norm_proofs.specs.code.Applying.{applied}
use Rattle.kernel.specs.declared.proof.Proof.{Proof, Hyp, ImpI, NotI, NotE, Raa, AllI, AllE, ExI, ExE, Inhabit}

-- the body at the nearest variable, and that there is one by it
abbrev pub at_variable : Proof → Proof
at_variable p = AllE (Var 0) p

abbrev pub by_variable : ℕ → Form → Proof → Proof
by_variable s b p = ExI s (lifted 1 1 b) (Var 0) p

-- All (first true) or Ex of that sort over the body a, or under minus its negation, to the quantifier over the body's
-- normal form b, or back
abbrev pub bound_tree : Bool → Bool → Bool → ℕ → Form → Form → Proof → Proof
bound_tree true true true s a b q = ImpI (All s a) (AllI s (applied q (at_variable (Hyp 0))))
bound_tree true true false s a b q = ImpI (All s b) (AllI s (applied q (at_variable (Hyp 0))))
bound_tree false true true s a b q = ImpI (Ex s a) (ExE (Ex s b) (Hyp 0) (by_variable s b (applied q (Hyp 0))))
bound_tree false true false s a b q = ImpI (Ex s b) (ExE (Ex s a) (Hyp 0) (by_variable s a (applied q (Hyp 0))))
bound_tree true false true s a b q = ImpI (Not (All s a)) (Raa (Ex s b) (NotE (Hyp 1) (AllI s (Raa a (NotE (Hyp 1) (by_variable s b (applied q (Hyp 0))))))))
bound_tree true false false s a b q = ImpI (Ex s b) (NotI (All s a) (ExE (Or []) (Hyp 1) (NotE (applied q (Hyp 0)) (at_variable (Hyp 1)))))
bound_tree false false true s a b q = ImpI (Not (Ex s a)) (AllI s (applied q (NotI a (NotE (Hyp 1) (by_variable s a (Hyp 0))))))
bound_tree false false false s a b q = ImpI (All s b) (NotI (Ex s a) (ExE (Or []) (Hyp 0) (NotE (applied q (at_variable (Hyp 2))) (Hyp 0))))

-- All or Ex over the body b, in which the variable doesn't stand, to the body c without the variable, or back
abbrev pub dropped_tree : Bool → Bool → ℕ → Form → Form → Proof
dropped_tree true true s b c = ImpI (All s b) (Inhabit s c (at_variable (Hyp 0)))
dropped_tree true false s b c = ImpI c (AllI s (Hyp 0))
dropped_tree false true s b c = ImpI (Ex s b) (ExE c (Hyp 0) (Hyp 0))
dropped_tree false false s b c = ImpI c (Inhabit s (Ex s b) (by_variable s b (Hyp 0)))
