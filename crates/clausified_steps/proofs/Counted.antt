-- How many formulas the entries add by which functions come in.
use Rattle.std.specs.Prelude.{◌≡◌, ◌+◌, List, [], ◌∷◌, ◌++◌, length}
use Rattle.std.proofs.Common.{ap, ◌∙◌, arith}
use Rattle.std.proofs.lemmas.List.{length-append}
use Rattle.fof_terms.specs.declared.form.Form.{Form}
use Rattle.kernel.specs.Statements.{Statements}
use Rattle.kernel.specs.Entries.{Admits, with_formula}
use Rattle.kernel.specs.declared.entry.Entry.{Entry}
use Rattle.kernel.specs.declared.entry.Entry.TheVariants.{Declare, Lemma, Name, Choice}
use Rattle.kernel.specs.declared.proof.Proof.{Proof}
use Rattle.skolem_fresh.specs.declared.just.Use.{Use}
use Rattle.skolem_proofs.specs.Choosing.{ChooseInTurn}

one_added : (t u : Statements) (a : Form) → u ≡ with_formula t a → length u.formulas ≡ length t.formulas + 1
one_added t u a e = ap (λ (x : Statements). length x.formulas) e ∙ length-append t.formulas (a ∷ [])

-- one for each function, and one more by a lemma
pub added_count : (t u : Statements) (uses : List Use) (choices : List Entry) (p : Proof) → ChooseInTurn uses choices → Admits t (choices ++ Lemma p ∷ []) u → length u.formulas ≡ length t.formulas + length uses + 1
added_count t u [] [] p c h =
    let next = h.1.0 in
    let one = one_added t next h.1.1.0 h.1.1.2 in
    let same : length u.formulas ≡ length next.formulas = ap (λ (x : Statements). length x.formulas) h.1.2 in
    omega arith
added_count t u [] (e ∷ choices) p c h = absurd c
added_count t u (x ∷ uses) [] p c h = absurd c
added_count t u (x ∷ uses) (Choice f a ∷ choices) p c h =
    let next = h.1.0 in
    let one = one_added t next _ h.1.1.2 in
    let more = added_count next u uses choices p c.1 h.1.2 in
    omega arith
added_count t u (x ∷ uses) (Declare d ∷ choices) p c h = absurd c
added_count t u (x ∷ uses) (Lemma q ∷ choices) p c h = absurd c
added_count t u (x ∷ uses) (Name k a ∷ choices) p c h = absurd c
