-- Where some rule gives a line, it cannot be refuted that one is the first.
use Rattle.std.specs.Prelude.{ℕ, zero, suc, ◌<◌, List, [], ◌∷◌, refl}
use Rattle.std.proofs.Common.{arith, inl, inr}
use Rattle.fof_terms.specs.declared.form.Form.{Form}
use Rattle.kernel.specs.Statements.{Statements}
use Rattle.clause_form.specs.declared.path.Parent.{Parent}
use Rattle.elaborate.specs.ByRule.{Applies, GivesAlone, GivesFirst, GivesNowhere, IsFirst, IsFirstAlone}
use Rattle.elaborate.specs.declared.answer.Rule.{Rule}
use Rattle.derivation_follows.specs.Applied.{OneApplies, OneGivesAlone}
use Rattle.derivation_follows.specs.Sure.{IsSure}

pub first_sure : (rs : List Rule) (t : Statements) (parents : List Parent) (line : Form) → OneApplies rs t parents line → IsSure ((rule : Rule) × IsFirst rs t parents line rule)
first_sure [] t parents line h = absurd h
first_sure (r ∷ rs) t parents line h = λ none.
    let not_here : Applies t parents line r → ⊥ = λ here. none (r, inl (refl, here)) in
    elim h [
      | inl here ↦ not_here here
      | inr later ↦ first_sure rs t parents line later (λ first. none (first.0, inr (not_here, first.1)))
    ]

module _ (t : Statements) (candidates : List Parent) (line : Form) (rule : Rule) where
  -- some candidate before that number gives it, or none does
  least_below : (n i : ℕ) → i < n → GivesAlone t candidates line rule i → IsSure ((j : ℕ) × GivesFirst t candidates line rule j)
  least_below zero i lt gives = absurd (omega arith)
  least_below (suc n) i lt gives = λ none. none (i, (gives, λ j less earlier. least_below n j (omega arith) earlier none))

  pub least_sure : (i : ℕ) → GivesAlone t candidates line rule i → IsSure ((j : ℕ) × GivesFirst t candidates line rule j)
  least_sure i gives = least_below (suc i) i (omega arith) gives

pub first_alone_sure : (rs : List Rule) (t : Statements) (candidates : List Parent) (line : Form) → OneGivesAlone rs t candidates line → IsSure ((rule : Rule) × (i : ℕ) × IsFirstAlone rs t candidates line rule i)
first_alone_sure [] t candidates line h = absurd h
first_alone_sure (r ∷ rs) t candidates line h = λ none.
    let nowhere : GivesNowhere t candidates line r = λ j gives. least_sure t candidates line r j gives (λ first. none (r, first.0, inl (refl, first.1))) in
    elim h [
      | inl here ↦ nowhere here.0 here.1
      | inr later ↦ first_alone_sure rs t candidates line later (λ first. none (first.0, first.1, inr (nowhere, first.2)))
    ]
