-- Implications from a formula of the step, or from a member of it, to its clauses, as long as the formula has no number.
use Rattle.std.specs.Prelude.{ℕ, ◌≡◌, ◌+◌, [], Option, Some, None}
use Rattle.fof_terms.specs.declared.form.Form.{Form}
use Rattle.fof_terms.specs.Sorts.{Sorted}
use Rattle.clause_form.specs.declared.clause.Clause.{Clause}
use Rattle.kernel.specs.Proves.{Proves}
use Rattle.kernel.specs.Statements.{Statements}
use Rattle.kernel.specs.declared.proof.Proof.{Proof, Line, ImpE, AndE}
use Rattle.input_proofs.specs.Formulas.{formula_of}
use Rattle.input_proofs.specs.declared.pending.Pending.{Pending}

-- the member of that number of what the proof shows, or the whole
abbrev pub part_of : Option ℕ → Proof → Proof
part_of None p = p
part_of (Some k) p = AndE k p

-- the clause, by a proof of its formula
abbrev pub cited_by : Pending → Proof → Proof
cited_by p whole = ImpE p.implication (part_of p.member whole)

-- where the formula is well-sorted and shown, so is the clause's formula
abbrev pub Implies : Form → Clause → Pending → Type 0
Implies a c p =
    (s : Statements) (whole : Proof) → Sorted s.vocabulary [] a → Proves s [] [] whole a → Proves s [] [] (cited_by p whole) (formula_of c)

-- the same of the formula of the fact of this number
abbrev pub IsPending : ℕ → Form → Clause → Pending → Type 0
IsPending fact a c p = (p.fact ≡ fact) × Implies a c p

-- the clause, by its formula, where the formulas stand from number n on
abbrev pub cited : ℕ → Pending → Proof
cited n p = cited_by p (Line (n + p.fact))
