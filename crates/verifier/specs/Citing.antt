-- Which formulas of a theory the entries of a log cite: those whose numbers stand behind `line` in their proofs.
use Rattle.std.specs.Prelude.{ℕ, ◌≡◌, ⊤, List}
use Rattle.std.specs.List.{AllByRecursion}
use Rattle.kernel.specs.declared.proof.Proof.{Proof, Line, Hyp, AndI', AndE', OrI', OrE', ImpI', ImpE', NotI', NotE'}
use Rattle.kernel.specs.declared.proof.Proof.{Raa', IffI', IffL', IffR', AllI', AllE', ExI', ExE', Refl, Subst'}
use Rattle.kernel.specs.declared.proof.Proof.{Inhabit', Row_of-Proof, end_of-Proof, more_of-Proof}
use Rattle.kernel.specs.declared.entry.Entry.{Entry}
use Rattle.kernel.specs.declared.entry.Entry.TheVariants.{Declare, Lemma, Name, Choice}

unfoldable mutual
  -- no node of the proof cites the formula of this number
  pub Spares : ℕ → Proof → Type 0
  Spares n (Line i) = i ≡ n → ⊥
  Spares n (Hyp i) = ⊤
  Spares n (AndI' u ps) = SparesAll n ps
  Spares n (AndE' k u (more_of-Proof p end_of-Proof)) = Spares n p
  Spares n (OrI' as_ k u (more_of-Proof p end_of-Proof)) = Spares n p
  Spares n (OrE' g u (more_of-Proof p end_of-Proof) w qs) = Spares n p × SparesAll n qs
  Spares n (ImpI' b u (more_of-Proof p end_of-Proof)) = Spares n p
  Spares n (ImpE' u (more_of-Proof p end_of-Proof) w (more_of-Proof q end_of-Proof)) = Spares n p × Spares n q
  Spares n (NotI' b u (more_of-Proof p end_of-Proof)) = Spares n p
  Spares n (NotE' u (more_of-Proof p end_of-Proof) w (more_of-Proof q end_of-Proof)) = Spares n p × Spares n q
  Spares n (Raa' g u (more_of-Proof p end_of-Proof)) = Spares n p
  Spares n (IffI' b c u (more_of-Proof p end_of-Proof) w (more_of-Proof q end_of-Proof)) = Spares n p × Spares n q
  Spares n (IffL' u (more_of-Proof p end_of-Proof) w (more_of-Proof q end_of-Proof)) = Spares n p × Spares n q
  Spares n (IffR' u (more_of-Proof p end_of-Proof) w (more_of-Proof q end_of-Proof)) = Spares n p × Spares n q
  Spares n (AllI' s u (more_of-Proof p end_of-Proof)) = Spares n p
  Spares n (AllE' x u (more_of-Proof p end_of-Proof)) = Spares n p
  Spares n (ExI' s b x u (more_of-Proof p end_of-Proof)) = Spares n p
  Spares n (ExE' g u (more_of-Proof p end_of-Proof) w (more_of-Proof q end_of-Proof)) = Spares n p × Spares n q
  Spares n (Refl x) = ⊤
  Spares n (Subst' s b u (more_of-Proof p end_of-Proof) w (more_of-Proof q end_of-Proof)) = Spares n p × Spares n q
  Spares n (Inhabit' s g u (more_of-Proof p end_of-Proof)) = Spares n p

  -- none of the proofs does
  pub SparesAll : {m : _} → ℕ → Row_of-Proof m → Type 0
  SparesAll n end_of-Proof = ⊤
  SparesAll n (more_of-Proof p ps) = Spares n p × SparesAll n ps

-- the entry does not cite the formula of this number
abbrev pub DoesNotCite : ℕ → Entry → Type 0
DoesNotCite n (Declare decl) = ⊤
DoesNotCite n (Lemma proof) = Spares n proof
DoesNotCite n (Name symbol body) = ⊤
DoesNotCite n (Choice symbol body) = ⊤

-- none of the entries does
abbrev pub DoNotCite : ℕ → List Entry → Type 0
DoNotCite n entries = AllByRecursion (DoesNotCite n) entries
