-- Formulas that entries add are well-sorted.
use Rattle.std.specs.Prelude.{ℕ, ◌≡◌, List, [], ◌∷◌, ◌++◌, Some, slice_get, refl}
use Rattle.std.specs.List.{AllByRecursion}
use Rattle.std.proofs.Common.{ap, sym, subst, ◌∙◌, append_assoc, append-nil}
use Rattle.std.proofs.lemmas.List.{append_cancel_left}
use Rattle.fof_terms.specs.Sorts.{Sorted}
use Rattle.fof_terms.specs.declared.form.Form.{Form}
use Rattle.fof_terms.specs.declared.signature.Symbol.{Symbol}
use Rattle.clause_learning.proofs.Members.{some_same}
use Rattle.derive_kit.specs.Derived.{with_formulas}
use Rattle.input_proofs.specs.Opened.{AreChoices}
use Rattle.kernel.specs.Entries.{Admits, choice, with_formula}
use Rattle.kernel.specs.Statements.{Statements}
use Rattle.kernel.specs.declared.entry.Entry.{Entry}
use Rattle.kernel.specs.declared.entry.Entry.TheVariants.{Declare, Lemma, Name, Choice}
use Rattle.kernel.specs.declared.proof.Proof.{Proof}
use Rattle.kernel.proofs.Building.{shown_sorted}
use Rattle.negated_lemmas.specs.Negated.{lemmas_by}

-- choices and lemmas alone
abbrev pub ArePlain : List Entry → Type 0
ArePlain [] = Unit {0}
ArePlain (Choice f a ∷ entries) = ArePlain entries
ArePlain (Lemma p ∷ entries) = ArePlain entries
ArePlain (Declare d ∷ entries) = ⊥
ArePlain (Name k a ∷ entries) = ⊥

pub plain_choices : (choices more : List Entry) → AreChoices choices → ArePlain more → ArePlain (choices ++ more)
plain_choices [] more h g = g
plain_choices (Choice f a ∷ choices) more h g = plain_choices choices more h g
plain_choices (Declare d ∷ choices) more h g = absurd h
plain_choices (Lemma p ∷ choices) more h g = absurd h
plain_choices (Name k a ∷ choices) more h g = absurd h

pub plain_lemmas : (ps : List Proof) (more : List Entry) → ArePlain more → ArePlain (lemmas_by ps ++ more)
plain_lemmas [] more g = g
plain_lemmas (p ∷ ps) more g = plain_lemmas ps more g

-- what the entries add
abbrev Adds : Statements → Statements → Type 0
Adds t u = (more : List Form) × (u ≡ with_formulas t more) × AllByRecursion (Sorted t.vocabulary []) more

one_more : (t next u : Statements) (a : Form) → next ≡ with_formula t a → Sorted t.vocabulary [] a → Adds next u → Adds t u
one_more t next u a e s h = (
  a ∷ h.0,
  h.1 ∙ (ap (λ (n : Statements). with_formulas n h.0) e ∙ ap (λ (fs : List Form). record t { formulas = fs }) (append_assoc t.formulas (a ∷ []) h.0)),
  (s, subst (λ (n : Statements). AllByRecursion (Sorted n.vocabulary []) h.0) e h.2),
)

admitted : (entries : List Entry) (t u : Statements) → ArePlain entries → Admits t entries u → Adds t u
admitted [] t u plain h = ([], h ∙ ap (λ (fs : List Form). record t { formulas = fs }) (sym (append-nil t.formulas)), tt)
admitted (Lemma p ∷ rest) t u plain h =
    let next = h.1.0 in
    let after = h.1.1 in
    one_more t next u after.0 after.2 (shown_sorted t [] [] p after.0 after.1) (admitted rest next u plain h.1.2)
admitted (Choice f a ∷ rest) t u plain h =
    let symbol = h.0.0 in
    let may = h.0.1 in
    let next = h.1.0 in
    let after = h.1.1 in
    let same : symbol ≡ after.0 = some_same (sym may.found ∙ after.1) in
    one_more t next u (choice f after.0 a) after.2 (subst (λ (x : Symbol). Sorted t.vocabulary [] (choice f x a)) same may.added) (admitted rest next u plain h.1.2)
admitted (Declare d ∷ rest) t u plain h = absurd plain
admitted (Name k a ∷ rest) t u plain h = absurd plain

pub added_sorted : (t : Statements) (entries : List Entry) (more : List Form) → ArePlain entries → Admits t entries (with_formulas t more) → AllByRecursion (Sorted t.vocabulary []) more
added_sorted t entries more plain h =
    let found = admitted entries t (with_formulas t more) plain h in
    let same : t.formulas ++ more ≡ t.formulas ++ found.0 = ap (λ (x : Statements). x.formulas) found.1 in
    subst (AllByRecursion (Sorted t.vocabulary [])) (sym (append_cancel_left t.formulas more found.0 same)) found.2
