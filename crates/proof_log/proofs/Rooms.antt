-- The readers of trees where there is room for one.
use Rattle.std.proofs.Common.{◌≡◌, ℕ, suc, ◌-◌, ◌<◌, List, sym, subst, Result, arith}
use Rattle.proof_log.specs.declared.stop.Stop.{Stop}
use Rattle.fof_terms.specs.declared.term.Term.{Term}
use Rattle.fof_terms.specs.declared.form.Form.{Form}
use Rattle.kernel.specs.declared.proof.Proof.{Proof}
use Rattle.proof_log.specs.code.Names.{term_name, form_name, proof_name, term_names, form_names, proof_names}
use Rattle.proof_log.specs.code.Outcomes.{Reads}
use Rattle.proof_log.specs.code.ReadWords.{head}
use Rattle.proof_log.specs.code.ReadTrees.{behind, term, term_by, form, form_by, proof, proof_by}

some_room : (room : ℕ) → 0 < room → room ≡ suc (room - 1)
some_room room pos = omega arith

pub term_room : (room : ℕ) → 0 < room → (ts : List ℕ) (r : Result Term Stop) (new : List ℕ) → Reads (behind (head term_name term_names) (term_by (term (room - 1))) ts) r new → Reads (term room ts) r new
unfolding term
term_room room pos ts r new h = subst (λ k. Reads (term k ts) r new) (sym (some_room room pos)) h

pub form_room : (room : ℕ) → 0 < room → (ts : List ℕ) (r : Result Form Stop) (new : List ℕ) → Reads (behind (head form_name form_names) (form_by (term (room - 1)) (form (room - 1))) ts) r new → Reads (form room ts) r new
unfolding form
form_room room pos ts r new h = subst (λ k. Reads (form k ts) r new) (sym (some_room room pos)) h

pub proof_room : (room : ℕ) → 0 < room → (ts : List ℕ) (r : Result Proof Stop) (new : List ℕ) → Reads (behind (head proof_name proof_names) (proof_by (term (room - 1)) (form (room - 1)) (proof (room - 1))) ts) r new → Reads (proof room ts) r new
unfolding proof
proof_room room pos ts r new h = subst (λ k. Reads (proof k ts) r new) (sym (some_room room pos)) h
