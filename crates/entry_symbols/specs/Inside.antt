-- Which formulas and terms stand inside proofs, and which symbols inside entries.
use Rattle.std.specs.Prelude.{ℕ, ◌≡◌, ⊤, false, List}
use Rattle.std.specs.List.{AllByRecursion}
use Rattle.fof_terms.specs.Occurs.{occurs_in, occurs_in_term}
use Rattle.fof_terms.specs.declared.term.Term.{Term}
use Rattle.fof_terms.specs.declared.form.Form.{Form}
use Rattle.kernel.specs.declared.proof.Proof.{Proof, Line, Hyp, AndI', AndE', OrI', OrE', ImpI', ImpE', NotI', NotE'}
use Rattle.kernel.specs.declared.proof.Proof.{Raa', IffI', IffL', IffR', AllI', AllE', ExI', ExE', Refl, Subst'}
use Rattle.kernel.specs.declared.proof.Proof.{Inhabit', Row_of-Proof, end_of-Proof, more_of-Proof}
use Rattle.kernel.specs.declared.entry.Entry.{Entry}
use Rattle.kernel.specs.declared.entry.Entry.TheVariants.{Declare, Lemma, Name, Choice}

unfoldable mutual
  -- each formula that a node of the proof states has the first property, and each term the second
  pub States : (Form → Type 0) → (Term → Type 0) → Proof → Type 0
  States F T (Line i) = ⊤
  States F T (Hyp i) = ⊤
  States F T (AndI' u ps) = AllState F T ps
  States F T (AndE' k u (more_of-Proof p end_of-Proof)) = States F T p
  States F T (OrI' as_ k u (more_of-Proof p end_of-Proof)) = AllByRecursion F as_ × States F T p
  States F T (OrE' g u (more_of-Proof p end_of-Proof) w qs) = F g × States F T p × AllState F T qs
  States F T (ImpI' b u (more_of-Proof p end_of-Proof)) = F b × States F T p
  States F T (ImpE' u (more_of-Proof p end_of-Proof) w (more_of-Proof q end_of-Proof)) = States F T p × States F T q
  States F T (NotI' b u (more_of-Proof p end_of-Proof)) = F b × States F T p
  States F T (NotE' u (more_of-Proof p end_of-Proof) w (more_of-Proof q end_of-Proof)) = States F T p × States F T q
  States F T (Raa' g u (more_of-Proof p end_of-Proof)) = F g × States F T p
  States F T (IffI' b c u (more_of-Proof p end_of-Proof) w (more_of-Proof q end_of-Proof)) = F b × F c × States F T p × States F T q
  States F T (IffL' u (more_of-Proof p end_of-Proof) w (more_of-Proof q end_of-Proof)) = States F T p × States F T q
  States F T (IffR' u (more_of-Proof p end_of-Proof) w (more_of-Proof q end_of-Proof)) = States F T p × States F T q
  States F T (AllI' s u (more_of-Proof p end_of-Proof)) = States F T p
  States F T (AllE' x u (more_of-Proof p end_of-Proof)) = T x × States F T p
  States F T (ExI' s b x u (more_of-Proof p end_of-Proof)) = F b × T x × States F T p
  States F T (ExE' g u (more_of-Proof p end_of-Proof) w (more_of-Proof q end_of-Proof)) = F g × States F T p × States F T q
  States F T (Refl x) = T x
  States F T (Subst' s b u (more_of-Proof p end_of-Proof) w (more_of-Proof q end_of-Proof)) = F b × States F T p × States F T q
  States F T (Inhabit' s g u (more_of-Proof p end_of-Proof)) = F g × States F T p

  -- so it is in each of the proofs
  pub AllState : {m : _} → (Form → Type 0) → (Term → Type 0) → Row_of-Proof m → Type 0
  AllState F T end_of-Proof = ⊤
  AllState F T (more_of-Proof p ps) = States F T p × AllState F T ps

-- the symbol stands in no formula and no term that a node of the proof states
abbrev pub Lacks : ℕ → Proof → Type 0
Lacks k p = States (λ a. occurs_in k a ≡ false) (λ x. occurs_in_term k x ≡ false) p

-- the symbol stands nowhere in the entry, which neither names it nor chooses for it; a declaration has sorts alone
abbrev pub DoesNotMention : ℕ → Entry → Type 0
DoesNotMention k (Declare decl) = ⊤
DoesNotMention k (Lemma p) = Lacks k p
DoesNotMention k (Name j a) = (j ≡ k → ⊥) × (occurs_in k a ≡ false)
DoesNotMention k (Choice j a) = (j ≡ k → ⊥) × (occurs_in k a ≡ false)

-- it stands in none of the entries
abbrev pub DoNotMention : ℕ → List Entry → Type 0
DoNotMention k entries = AllByRecursion (DoesNotMention k) entries

-- it stands in no formula that the entry tells of itself, and is not named by it; of what stands in proofs this says nothing
abbrev pub DoesNotTell : ℕ → Entry → Type 0
DoesNotTell k (Declare decl) = ⊤
DoesNotTell k (Lemma p) = ⊤
DoesNotTell k (Name j a) = (j ≡ k → ⊥) × (occurs_in k a ≡ false)
DoesNotTell k (Choice j a) = occurs_in k a ≡ false
