-- A proof shows one formula at most.
use Rattle.std.specs.Prelude.{ℕ, ◌≡◌, List, [], ◌∷◌, slice_get, Some, refl}
use Rattle.std.proofs.Common.{sym, ◌∙◌, ap}
use Rattle.fof_terms.specs.declared.form.Form.{Form, Eq, And, Imp, Iff, All}
use Rattle.fof_terms.specs.Instance.{instance_at}
use Rattle.fof_terms.proofs.Trees.{And-injective, Imp-injective, Iff-injective, All-injective, Eq-injective}
use Rattle.kernel.specs.Statements.{Statements}
use Rattle.kernel.specs.Proves.{Proves, ProvesAll, all_over}
use Rattle.kernel.specs.declared.proof.Proof.{Row_of-Proof, AndI', AndE', OrI', OrE', ImpI', ImpE', NotI', NotE', Raa', IffI', IffL', IffR', AllI', AllE', ExI', ExE', Refl, Subst', Inhabit', end_of-Proof, more_of-Proof}
use Rattle.kernel.specs.declared.proof.Proof.{Proof, Line, Hyp}

some_same : {X : Type 0} {a b : X} → Some a ≡ Some b → a ≡ b
some_same e = cc

member_same : (k : ℕ) (as_ bs : List Form) (a b : Form) → as_ ≡ bs → slice_get as_ k ≡ Some a → slice_get bs k ≡ Some b → a ≡ b
member_same k as_ bs a b same x y = some_same (sym x ∙ ap (λ forms. slice_get forms k) same ∙ y)

module _ (t : Statements) where
  mutual
    unfolding Proves ProvesAll

    pub one_shown : (v : List ℕ) (h : List Form) (p : Proof) (a b : Form) → Proves t v h p a → Proves t v h p b → a ≡ b
    one_shown v h (Line i) a b x y = some_same (sym x.1 ∙ y.1)
    one_shown v h (Hyp i) a b x y = some_same (sym x.1 ∙ y.1)
    one_shown v h (AndI' u ps) a b x y = x.1.1 ∙ ap And (one_row v h ps x.1.0 y.1.0 x.1.2 y.1.2) ∙ sym y.1.1
    one_shown v h (AndE' k u (more_of-Proof p end_of-Proof)) a b x y = member_same k x.1.0 y.1.0 a b (And-injective x.1.0 y.1.0 (one_shown v h p (And x.1.0) (And y.1.0) x.1.1 y.1.1)) x.1.2 y.1.2
    one_shown v h (OrI' as_ k u (more_of-Proof p end_of-Proof)) a b x y = x.1 ∙ sym y.1
    one_shown v h (OrE' goal u (more_of-Proof p end_of-Proof) w qs) a b x y = x.1 ∙ sym y.1
    one_shown v h (ImpI' c u (more_of-Proof p end_of-Proof)) a b x y = x.1.1 ∙ ap (Imp c) (one_shown v (c ∷ h) p x.1.0 y.1.0 x.1.2 y.1.2) ∙ sym y.1.1
    one_shown v h (ImpE' u (more_of-Proof p end_of-Proof) w (more_of-Proof q end_of-Proof)) a b x y = (Imp-injective x.1.0 a y.1.0 b (one_shown v h p (Imp x.1.0 a) (Imp y.1.0 b) x.1.1 y.1.1)).1
    one_shown v h (NotI' c u (more_of-Proof p end_of-Proof)) a b x y = x.1 ∙ sym y.1
    one_shown v h (NotE' u (more_of-Proof p end_of-Proof) w (more_of-Proof q end_of-Proof)) a b x y = x.1 ∙ sym y.1
    one_shown v h (Raa' goal u (more_of-Proof p end_of-Proof)) a b x y = x.1 ∙ sym y.1
    one_shown v h (IffI' c d u (more_of-Proof p end_of-Proof) w (more_of-Proof q end_of-Proof)) a b x y = x.1 ∙ sym y.1
    one_shown v h (IffL' u (more_of-Proof p end_of-Proof) w (more_of-Proof q end_of-Proof)) a b x y = (Iff-injective x.1.0 a y.1.0 b (one_shown v h p (Iff x.1.0 a) (Iff y.1.0 b) x.1.1 y.1.1)).1
    one_shown v h (IffR' u (more_of-Proof p end_of-Proof) w (more_of-Proof q end_of-Proof)) a b x y = (Iff-injective a x.1.0 b y.1.0 (one_shown v h p (Iff a x.1.0) (Iff b y.1.0) x.1.1 y.1.1)).0
    one_shown v h (AllI' s u (more_of-Proof p end_of-Proof)) a b x y = x.1.1 ∙ ap (All s) (one_shown (s ∷ v) (all_over h) p x.1.0 y.1.0 x.1.2 y.1.2) ∙ sym y.1.1
    one_shown v h (AllE' z u (more_of-Proof p end_of-Proof)) a b x y =
        x.1.4 ∙ ap (instance_at z 0) (All-injective x.1.0 y.1.0 x.1.1 y.1.1 (one_shown v h p (All x.1.0 x.1.1) (All y.1.0 y.1.1) x.1.2 y.1.2)).1 ∙ sym y.1.4
    one_shown v h (ExI' s c z u (more_of-Proof p end_of-Proof)) a b x y = x.1 ∙ sym y.1
    one_shown v h (ExE' goal u (more_of-Proof p end_of-Proof) w (more_of-Proof q end_of-Proof)) a b x y = x.1 ∙ sym y.1
    one_shown v h (Refl z) a b x y = x.1 ∙ sym y.1
    one_shown v h (Subst' s c u (more_of-Proof p end_of-Proof) w (more_of-Proof q end_of-Proof)) a b x y =
        x.2.5 ∙ ap (λ r. instance_at r 0 c) (Eq-injective x.2.0 x.2.1 y.2.0 y.2.1 (one_shown v h p (Eq x.2.0 x.2.1) (Eq y.2.0 y.2.1) x.2.2 y.2.2)).1 ∙ sym y.2.5
    one_shown v h (Inhabit' s goal u (more_of-Proof p end_of-Proof)) a b x y = x.1 ∙ sym y.1

    one_row : {n : _} (v : List ℕ) (h : List Form) (row : Row_of-Proof n) (as_ bs : List Form) → ProvesAll t v h row as_ → ProvesAll t v h row bs → as_ ≡ bs
    one_row v h end_of-Proof [] [] x y = refl
    one_row v h end_of-Proof (a ∷ as_) bs x y = absurd x
    one_row v h end_of-Proof [] (b ∷ bs) x y = absurd y
    one_row v h (more_of-Proof p ps) [] bs x y = absurd x
    one_row v h (more_of-Proof p ps) (a ∷ as_) [] x y = absurd y
    one_row v h (more_of-Proof p ps) (a ∷ as_) (b ∷ bs) x y = let first = one_shown v h p a b x.0 y.0 in let rest = one_row v h ps as_ bs x.1 y.1 in ap (λ c. c ∷ as_) first ∙ ap (λ cs. b ∷ cs) rest
