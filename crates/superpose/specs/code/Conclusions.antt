-- What is left under a substitution, over as few variables as will do.
use Rattle.std.specs.Prelude.{ℕ, ◌<◌, ◌≤◌, ◌≡◌, List, length}
use Rattle.fof_terms.specs.declared.term.Term.{Term, Var}
use Rattle.fof_terms.specs.Vocabulary.{Vocabulary}
use Rattle.clause_form.specs.declared.clause.Lit.{Lit}
use Rattle.clause_form.specs.Images.{image, IsImages}
use Rattle.clause_form.specs.Covers.{scope_of, AreSorted}
use Rattle.clause_rules.specs.Steps.{instances}
use Rattle.unify_terms.specs.Substitution.{image_at}
use Rattle.superpose.specs.declared.made.Made.{Made}
use Rattle.superpose.specs.Drafts.{SortsExist}

-- The clause has the instances of what is left, with other names for the variables. Another substitution takes it back
-- to the instances.
pub record IsConclusion (scope : List ℕ) (images : List Term) (left : List Lit) (m : Made) : Type 0 where
  pub names : ℕ → Term
  pub back : ℕ → Term
  pub size : length m.subst ≡ length scope
  pub few : length m.clause.sorts ≤ 1000000000
  pub exist : (v : Vocabulary) → SortsExist v scope → SortsExist v m.clause.sorts
  pub variables : (k : ℕ) → (name : ℕ) × (names k ≡ Var name)
  pub named : (v : Vocabulary) → IsImages v scope (scope_of m.clause) names
  pub returns : (v : Vocabulary) → IsImages v (scope_of m.clause) scope back
  pub subst : (k : ℕ) → k < length scope → image_at m.subst k ≡ image names (image_at images k)
  pub lits : m.clause.lits ≡ instances (image_at m.subst) left
  pub again : (v : Vocabulary) → AreSorted v scope (instances (image_at images) left)
      → instances back (instances names (instances (image_at images) left)) ≡ instances (image_at images) left
