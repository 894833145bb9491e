-- What is shown stays shown where formulas are added behind: to the theory, or to the outermost hypotheses.
use Rattle.std.specs.Prelude.{ℕ, ◌≡◌, List, [], ◌∷◌, slice_get, Some, Option, None, refl}
use Rattle.std.specs.Option.{option_map}
use Rattle.std.proofs.Common.{sym, ◌∙◌, ap, zero, suc}
use Rattle.std.proofs.lemmas.Option.{slice_get-map}
use Rattle.fof_terms.specs.declared.form.Form.{Form, Not}
use Rattle.fof_terms.specs.Lift.{lifted}
use Rattle.kernel.specs.Statements.{Statements}
use Rattle.kernel.specs.Proves.{Proves, ProvesAll, ProvesEach, all_over}
use Rattle.kernel.specs.declared.proof.Proof.{Row_of-Proof, AndI', AndE', OrI', OrE', ImpI', ImpE', NotI', NotE', Raa', IffI', IffL', IffR', AllI', AllE', ExI', ExE', Refl, Subst', Inhabit', end_of-Proof, more_of-Proof, Proof, Line, Hyp}

-- each formula stands at the same number
pub record Extends (h g : List Form) : Type 0 where
  pub same : (i : ℕ) (a : Form) → slice_get h i ≡ Some a → slice_get g i ≡ Some a

under : (h g : List Form) (b : Form) → Extends h g → Extends (b ∷ h) (b ∷ g)
under h g b e = record { same = both } where
  both : (i : ℕ) (a : Form) → slice_get (b ∷ h) i ≡ Some a → slice_get (b ∷ g) i ≡ Some a
  both zero a at = at
  both (suc i) a at = e.same i a at

found : (f : Form → Form) (r : Option Form) (a : Form) → option_map f r ≡ Some a → (b : Form) × (r ≡ Some b) × (f b ≡ a)
found f None a e = cc
found f (Some b) a e = (b, refl, cc)

lifted_both : (h g : List Form) → Extends h g → Extends (all_over h) (all_over g)
lifted_both h g e = record {
  same = λ i a at.
      let was = found (lifted 1 0) (slice_get h i) a (sym (slice_get-map (lifted 1 0) h i) ∙ at) in
      slice_get-map (lifted 1 0) g i ∙ ap (option_map (lifted 1 0)) (e.same i was.0 was.1) ∙ ap Some was.2;
}

module _ (t : Statements) (formulas : List Form) (longer : Extends t.formulas formulas) where
  mutual
    unfolding Proves ProvesAll ProvesEach

    pub stays_shown : (v : List ℕ) (h g : List Form) (p : Proof) (a : Form) → Extends h g → Proves t v h p a → Proves (record t { formulas = formulas }) v g p a
    stays_shown v h g (Line i) a e w = (w.0, longer.same i a w.1)
    stays_shown v h g (Hyp i) a e w = (w.0, e.same i a w.1)
    stays_shown v h g (AndI' u ps) a e w = (w.0, (w.1.0, w.1.1, all_stay v h g ps w.1.0 e w.1.2))
    stays_shown v h g (AndE' k u (more_of-Proof p end_of-Proof)) a e w = (w.0, (w.1.0, stays_shown v h g p _ e w.1.1, w.1.2))
    stays_shown v h g (OrI' as_ k u (more_of-Proof p end_of-Proof)) a e w = (w.0, w.1, (w.2.0, w.2.1, stays_shown v h g p _ e w.2.2))
    stays_shown v h g (OrE' goal u (more_of-Proof p end_of-Proof) x qs) a e w = (w.0, w.1, (w.2.0, stays_shown v h g p _ e w.2.1, each_stays v h g qs w.2.0 a e w.2.2))
    stays_shown v h g (ImpI' b u (more_of-Proof p end_of-Proof)) a e w = (w.0, (w.1.0, w.1.1, stays_shown v (b ∷ h) (b ∷ g) p _ (under h g b e) w.1.2))
    stays_shown v h g (ImpE' u (more_of-Proof p end_of-Proof) x (more_of-Proof q end_of-Proof)) a e w = (w.0, (w.1.0, stays_shown v h g p _ e w.1.1, stays_shown v h g q _ e w.1.2))
    stays_shown v h g (NotI' b u (more_of-Proof p end_of-Proof)) a e w = (w.0, w.1, stays_shown v (b ∷ h) (b ∷ g) p _ (under h g b e) w.2)
    stays_shown v h g (NotE' u (more_of-Proof p end_of-Proof) x (more_of-Proof q end_of-Proof)) a e w =
        (w.0, w.1, (w.2.0, stays_shown v h g p _ e w.2.1, stays_shown v h g q _ e w.2.2))
    stays_shown v h g (Raa' goal u (more_of-Proof p end_of-Proof)) a e w = (w.0, w.1, stays_shown v (Not a ∷ h) (Not a ∷ g) p _ (under h g (Not a) e) w.2)
    stays_shown v h g (IffI' b c u (more_of-Proof p end_of-Proof) x (more_of-Proof q end_of-Proof)) a e w =
        (w.0, w.1, stays_shown v (b ∷ h) (b ∷ g) p _ (under h g b e) w.2, stays_shown v (c ∷ h) (c ∷ g) q _ (under h g c e) w.3)
    stays_shown v h g (IffL' u (more_of-Proof p end_of-Proof) x (more_of-Proof q end_of-Proof)) a e w = (w.0, (w.1.0, stays_shown v h g p _ e w.1.1, stays_shown v h g q _ e w.1.2))
    stays_shown v h g (IffR' u (more_of-Proof p end_of-Proof) x (more_of-Proof q end_of-Proof)) a e w = (w.0, (w.1.0, stays_shown v h g p _ e w.1.1, stays_shown v h g q _ e w.1.2))
    stays_shown v h g (AllI' s u (more_of-Proof p end_of-Proof)) a e w = (w.0, (w.1.0, w.1.1, stays_shown (s ∷ v) (all_over h) (all_over g) p _ (lifted_both h g e) w.1.2))
    stays_shown v h g (AllE' x u (more_of-Proof p end_of-Proof)) a e w = (w.0, (w.1.0, w.1.1, stays_shown v h g p _ e w.1.2, w.1.3, w.1.4))
    stays_shown v h g (ExI' s b x u (more_of-Proof p end_of-Proof)) a e w = (w.0, w.1, w.2, w.3, stays_shown v h g p _ e w.4)
    stays_shown v h g (ExE' goal u (more_of-Proof p end_of-Proof) x (more_of-Proof q end_of-Proof)) a e w =
        (w.0, w.1, (w.2.0, w.2.1, stays_shown v h g p _ e w.2.2, stays_shown (w.2.0 ∷ v) (w.2.1 ∷ all_over h) (w.2.1 ∷ all_over g) q _ (under (all_over h) (all_over g) w.2.1 (lifted_both h g e)) w.2.3))
    stays_shown v h g (Refl x) a e w = w
    stays_shown v h g (Subst' s b u (more_of-Proof p end_of-Proof) x (more_of-Proof q end_of-Proof)) a e w =
        (w.0, w.1, (w.2.0, w.2.1, stays_shown v h g p _ e w.2.2, w.2.3, stays_shown v h g q _ e w.2.4, w.2.5))
    stays_shown v h g (Inhabit' s goal u (more_of-Proof p end_of-Proof)) a e w = (w.0, w.1, stays_shown (s ∷ v) (all_over h) (all_over g) p _ (lifted_both h g e) w.2)

    all_stay : {n : _} (v : List ℕ) (h g : List Form) (row : Row_of-Proof n) (bs : List Form) → Extends h g → ProvesAll t v h row bs → ProvesAll (record t { formulas = formulas }) v g row bs
    all_stay v h g end_of-Proof [] e w = w
    all_stay v h g end_of-Proof (b ∷ bs) e w = absurd w
    all_stay v h g (more_of-Proof p ps) [] e w = absurd w
    all_stay v h g (more_of-Proof p ps) (b ∷ bs) e w = (stays_shown v h g p b e w.0, all_stay v h g ps bs e w.1)

    each_stays : {n : _} (v : List ℕ) (h g : List Form) (row : Row_of-Proof n) (bs : List Form) (a : Form) → Extends h g → ProvesEach t v h row bs a
        → ProvesEach (record t { formulas = formulas }) v g row bs a
    each_stays v h g end_of-Proof [] a e w = w
    each_stays v h g end_of-Proof (b ∷ bs) a e w = absurd w
    each_stays v h g (more_of-Proof p ps) [] a e w = absurd w
    each_stays v h g (more_of-Proof p ps) (b ∷ bs) a e w = (stays_shown v (b ∷ h) (b ∷ g) p a (under h g b e) w.0, each_stays v h g ps bs a e w.1)
