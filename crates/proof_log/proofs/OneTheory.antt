-- A proof shows one formula at most. So entries that are legal in turn make one theory at most of another, and what a check
-- answers of them is the only answer.
use Rattle.std.specs.Prelude.{ℕ, ◌≡◌, List, [], ◌∷◌, take, Some, Result, Ok, Err, OnOk, IfErr, refl}
use Rattle.std.proofs.Common.{zero, suc, inl, inr, sym, ◌∙◌, ap, subst}
use Rattle.fof_terms.specs.declared.signature.Symbol.{Symbol}
use Rattle.kernel.specs.Statements.{Statements, IsRefuted}
use Rattle.kernel.proofs.OneFormula.{one_shown}
use Rattle.kernel.specs.Entries.{Legal, After, Admits, Refutes, naming, choice, with_formula}
use Rattle.kernel.specs.declared.entry.Entry.{Entry}
use Rattle.kernel.specs.declared.entry.Entry.TheVariants.{Declare, Lemma, Name, Choice}
use Rattle.proof_log.specs.Checks.{IsFirstIllegal, IsNotRefuted, IsCheckFault, IsFaultedFor}
use Rattle.proof_log.specs.declared.checking.CheckFault.{CheckFault}
use Rattle.proof_log.specs.declared.checking.CheckFault.TheVariants as fault

some_same : {X : Type 0} {a b : X} → Some a ≡ Some b → a ≡ b
some_same e = cc

-- an entry makes one theory of another
pub one_after : (t : Statements) (e : Entry) (u w : Statements) → After t e u → After t e w → u ≡ w
one_after t (Declare decl) u w x y = x ∙ sym y
one_after t (Lemma p) u w x y = x.2 ∙ ap (with_formula t) (one_shown t [] [] p x.0 y.0 x.1 y.1) ∙ sym y.2
one_after t (Name k a) u w x y = x.2 ∙ ap (λ (s : Symbol). with_formula t (naming k s a)) (some_same (sym x.1 ∙ y.1)) ∙ sym y.2
one_after t (Choice k a) u w x y = x.2 ∙ ap (λ (s : Symbol). with_formula t (choice k s a)) (some_same (sym x.1 ∙ y.1)) ∙ sym y.2

-- entries make one theory of another
pub one_admitted : (t : Statements) (entries : List Entry) (u w : Statements) → Admits t entries u → Admits t entries w → u ≡ w
one_admitted t [] u w x y = x ∙ sym y
one_admitted t (e ∷ es) u w x y = one_admitted y.1.0 es u w (subst (λ next. Admits next es u) (one_after t e x.1.0 y.1.0 x.1.1 y.1.1) x.1.2) y.1.2

-- ---- one answer

-- the first of some entries is legal, if it is not the first that is not
head_legal : (t : Statements) (e : Entry) (es : List Entry) (n : ℕ) → IsFirstIllegal t (e ∷ es) (suc n) → Legal t e
head_legal t e es n first = first.before.0

head_illegal : (t : Statements) (e : Entry) (es : List Entry) → IsFirstIllegal t (e ∷ es) zero → Legal t e → ⊥
head_illegal t e es first legal =
    let same : e ≡ first.entry = some_same first.there in
    first.illegal (subst (λ (r : Statements). Legal r first.entry) (sym first.before) (subst (Legal t) same legal))

-- behind it, the number is one less
tail_illegal : (t u : Statements) (e : Entry) (es : List Entry) (n : ℕ) → After t e u → IsFirstIllegal t (e ∷ es) (suc n) → IsFirstIllegal u es n
tail_illegal t u e es n after first =
    let before = first.before in
    record {
      entry = first.entry;
      there = first.there;
      reached = first.reached;
      before = subst (λ (next : Statements). Admits next (take n es) first.reached) (one_after t e before.1.0 u before.1.1 after) before.1.2;
      illegal = first.illegal;
    }

no_entry : (t : Statements) (number : ℕ) → IsFirstIllegal t [] number → ⊥
no_entry t number first = let none = first.there in cc

-- where all entries are legal in turn, none is the first that is not
none_illegal : (t u : Statements) (es : List Entry) (number : ℕ) → Admits t es u → IsFirstIllegal t es number → ⊥
none_illegal t u [] number all first = no_entry t number first
none_illegal t u (e ∷ es) zero all first = head_illegal t e es first all.0
none_illegal t u (e ∷ es) (suc n) all first = none_illegal all.1.0 u es n all.1.2 (tail_illegal t all.1.0 e es n all.1.1 first)

refuted_not_illegal : (t : Statements) (es : List Entry) (number : ℕ) → Refutes t es → IsFirstIllegal t es number → ⊥
refuted_not_illegal t es number refutes first = none_illegal t refutes.0 es number refutes.1 first

unrefuted_not_illegal : (t : Statements) (es : List Entry) (number : ℕ) → IsNotRefuted t es → IsFirstIllegal t es number → ⊥
unrefuted_not_illegal t es number unrefuted first = none_illegal t unrefuted.reached es number unrefuted.all first

refuted_not_unrefuted : (t : Statements) (es : List Entry) → Refutes t es → IsNotRefuted t es → ⊥
refuted_not_unrefuted t es refutes unrefuted = unrefuted.kept_open (subst IsRefuted (one_admitted t es refutes.0 unrefuted.reached refutes.1 unrefuted.all) refutes.2)

-- one entry alone is the first that is not legal
one_illegal : (t : Statements) (es : List Entry) (k n : ℕ) → IsFirstIllegal t es k → IsFirstIllegal t es n → k ≡ n
one_illegal t [] k n x y = absurd (no_entry t k x)
one_illegal t (e ∷ es) zero zero x y = refl
one_illegal t (e ∷ es) zero (suc n) x y = absurd (head_illegal t e es x (head_legal t e es n y))
one_illegal t (e ∷ es) (suc k) zero x y = absurd (head_illegal t e es y (head_legal t e es k x))
one_illegal t (e ∷ es) (suc k) (suc n) x y = let next = x.before.1.0 in let after = x.before.1.1 in ap suc (one_illegal next es k n (tail_illegal t next e es k after x) (tail_illegal t next e es n after y))

module _ (t : Statements) (es : List Entry) where
  pub refuted_alone : (r : Result (Unit {0}) CheckFault) → IfErr r (λ e. IsCheckFault t es e) → Refutes t es → IfErr r (λ e. e ≡ fault.Memory)
  refuted_alone (Ok done) told refutes = tt
  refuted_alone (Err (fault.Illegal n)) told refutes = absurd (refuted_not_illegal t es n refutes told)
  refuted_alone (Err fault.NotRefuted) told refutes = absurd (refuted_not_unrefuted t es refutes told)
  refuted_alone (Err fault.Memory) told refutes = refl

  pub illegal_alone : (r : Result (Unit {0}) CheckFault) → OnOk r (Refutes t es) → IfErr r (λ e. IsCheckFault t es e) → (number : ℕ) → IsFirstIllegal t es number → IsFaultedFor (fault.Illegal number) r
  illegal_alone (Ok done) refutes told number first = refuted_not_illegal t es number refutes first
  illegal_alone (Err (fault.Illegal n)) refutes told number first = inl (ap fault.Illegal (one_illegal t es n number told first))
  illegal_alone (Err fault.NotRefuted) refutes told number first = absurd (unrefuted_not_illegal t es number told first)
  illegal_alone (Err fault.Memory) refutes told number first = inr refl

  pub unrefuted_alone : (r : Result (Unit {0}) CheckFault) → OnOk r (Refutes t es) → IfErr r (λ e. IsCheckFault t es e) → IsNotRefuted t es → IsFaultedFor fault.NotRefuted r
  unrefuted_alone (Ok done) refutes told unrefuted = refuted_not_unrefuted t es refutes unrefuted
  unrefuted_alone (Err (fault.Illegal n)) refutes told unrefuted = absurd (unrefuted_not_illegal t es n unrefuted told)
  unrefuted_alone (Err fault.NotRefuted) refutes told unrefuted = inl refl
  unrefuted_alone (Err fault.Memory) refutes told unrefuted = inr refl
