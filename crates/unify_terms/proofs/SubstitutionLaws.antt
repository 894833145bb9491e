-- Laws of instances under a substitution.
use Rattle.std.specs.Prelude.{ℕ, ◌≡◌}
use Rattle.std.proofs.Common.{ap, sym, ◌∙◌}
use Rattle.fof_terms.specs.declared.term.Term.{Term, Var}
use Rattle.fof_terms.proofs.Walks.{TermWalk, staying_term, both_terms, same_terms}
use Rattle.unify_terms.specs.Substitution.{applied}
use Rattle.unify_terms.proofs.SubstitutionFacts.{applied-Var, applied-App}

pub applying : (image : ℕ → Term) → TermWalk (applied image)
applying image = record { app = λ s ts. applied-App image s ts }

-- where each variable stands for itself, so does each term
pub applied_nothing : (t : Term) → applied Var t ≡ t
applied_nothing = same_terms (applied Var) (λ t. t) (applying Var) staying_term (applied-Var Var)

-- an instance of an instance is an instance
pub applied_twice : (first second : ℕ → Term) (t : Term) → applied second (applied first t) ≡ applied (λ k. applied second (first k)) t
applied_twice first second =
    same_terms (λ t. applied second (applied first t)) (applied (λ k. applied second (first k))) (both_terms (applied second) (applied first) (applying second) (applying first)) (applying (λ k. applied second (first k)))
    (λ k. ap (applied second) (applied-Var first k) ∙ sym (applied-Var (λ j. applied second (first j)) k))

-- substitutions that agree on variables agree
pub applied_same : (first second : ℕ → Term) → ((k : ℕ) → first k ≡ second k) → (t : Term) → applied first t ≡ applied second t
applied_same first second e = same_terms (applied first) (applied second) (applying first) (applying second) (λ k. applied-Var first k ∙ e k ∙ sym (applied-Var second k))
