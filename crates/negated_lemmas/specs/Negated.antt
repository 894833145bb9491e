-- Facts that follow from the negation of a line: in a theory that has the negation and the facts as formulas, and in one
-- that has them as implications from the negation.
use Rattle.std.specs.Prelude.{ℕ, ◌≡◌, List, [], ◌∷◌, ◌++◌, length, map, slice_get, Some}
use Rattle.fof_terms.specs.declared.form.Form.{Form, Not, Imp, Or}
use Rattle.fof_terms.specs.Sorts.{Sorted}
use Rattle.kernel.specs.Statements.{Statements, IsRefuted}
use Rattle.kernel.specs.Proves.{Proves}
use Rattle.kernel.specs.Entries.{Admits}
use Rattle.kernel.specs.declared.proof.Proof.{Proof}
use Rattle.kernel.specs.declared.entry.Entry.{Entry}
use Rattle.kernel.specs.declared.entry.Entry.TheVariants.{Lemma}
use Rattle.derive_kit.specs.Derived.{with_formulas}

-- the theory with the line's negation, and then the facts
abbrev pub with_denied : Statements → Form → List Form → Statements
with_denied t line facts = with_formulas t (Not line ∷ facts)

-- that the line's negation implies itself and each of the facts
abbrev pub implied : Form → List Form → List Form
implied line facts = map (Imp (Not line)) (Not line ∷ facts)

-- the theory with these implications
abbrev pub with_implied : Statements → Form → List Form → Statements
with_implied t line facts = with_formulas t (implied line facts)

abbrev pub lemmas_by : List Proof → List Entry
lemmas_by proofs = map (λ (p : Proof). Lemma p) proofs

-- Wherever the first proof shows a fact by so many formulas, the line's negation and facts behind it, the second shows
-- that the negation implies the fact by the same formulas and the implications.
abbrev pub ShowsImplied : Form → ℕ → Proof → Proof → Type 0
ShowsImplied line first p q =
    (t : Statements) (facts : List Form) (a : Form) → length t.formulas ≡ first → Sorted t.vocabulary [] line → Proves (with_denied t line facts) [] [] p a
    → Proves (with_implied t line facts) [] [] q (Imp (Not line) a)

-- the proof shows the line wherever the formula of this number says that the line's negation implies falsehood
abbrev pub IsByFalsehood : Form → ℕ → Proof → Type 0
IsByFalsehood line number p = (t : Statements) → Sorted t.vocabulary [] line → slice_get t.formulas number ≡ Some (Imp (Not line) (Or [])) → Proves t [] [] p line

-- In the theory with the line's negation the proofs show these facts, each with those before it, and falsehood at last.
pub record ShowFalsehood (t : Statements) (line : Form) (proofs : List Proof) (facts : List Form) : Type 0 where
  pub legal : Admits (with_denied t line []) (lemmas_by proofs) (with_denied t line facts)
  pub refuted : IsRefuted (with_denied t line facts)

-- The entries are lemmas. Wherever the proofs show facts and falsehood at last in a theory of so many formulas with the
-- line's negation, the entries are legal in turn in the theory itself, and add the implications and then the line.
pub record ConcludeLine (line : Form) (first : ℕ) (proofs : List Proof) (entries : List Entry) : Type 0 where
  pub lemmas : List Proof
  pub last : Proof
  pub is : entries ≡ lemmas_by lemmas ++ Lemma last ∷ []
  pub adds : (t : Statements) (facts : List Form) → length t.formulas ≡ first → Sorted t.vocabulary [] line → ShowFalsehood t line proofs facts
      → Admits t entries (with_formulas t (implied line facts ++ line ∷ []))
