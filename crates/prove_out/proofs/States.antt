-- Values behind as many bound variables, counted in another way.
use Rattle.std.proofs.Common.{◌≡◌, ℕ, List, Ok, ap}
use Rattle.fof_terms.specs.Vocabulary.{Vocabulary}
use Rattle.fof_terms.specs.declared.form.Form.{Form}
use Rattle.sort_check.specs.declared.fault.SortRule.{SortRule}
use Rattle.sort_check.specs.Outcomes.{Outcome}
use Rattle.sort_check.specs.Denotation.{State, FormOutcome}
use Rattle.prove_out.specs.code.Written.{state}

pub counted : (v : Vocabulary) (a : Form) (m n : ℕ) → m ≡ n → ◌≡◌ {A = FormOutcome} (Ok (a, state v m)) (Ok (a, state v n))
counted v a m n e = let answer : ℕ → FormOutcome = λ k. Ok (a, state v k) in ap answer e

pub all_counted : (v : Vocabulary) (as_ : List Form) (m n : ℕ) → m ≡ n → ◌≡◌ {A = Outcome SortRule State (List Form)} (Ok (as_, state v m)) (Ok (as_, state v n))
all_counted v as_ m n e = let answer : ℕ → Outcome SortRule State (List Form) = λ k. Ok (as_, state v k) in ap answer e
