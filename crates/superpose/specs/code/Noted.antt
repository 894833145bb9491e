-- Which variables of an instance were noted.
use Rattle.std.specs.Prelude.{ℕ, ◌<◌, ◌≤◌, ◌≡◌, List, map}
use Rattle.std.specs.List.{Contains}
use Rattle.fof_terms.specs.declared.term.Term.{Term, Var}
use Rattle.clause_form.specs.declared.clause.AtomOf.{AtomOf}
use Rattle.clause_form.specs.declared.clause.Lit.{Lit}
use Rattle.clause_form.specs.Images.{image}
use Rattle.clause_form.specs.Covers.{at_terms, lit_image}
use Rattle.unify_terms.specs.Substitution.{image_at}

-- what was noted, and each variable that isn't below n, stands for itself
pub record IsFixed (n : ℕ) (noted : List ℕ) (s : ℕ → Term) : Type 0 where
  pub inside : (k : ℕ) → Contains noted k → s k ≡ Var k
  pub outside : (k : ℕ) → n ≤ k → s k ≡ Var k

-- More variables below n were noted. A substitution that fixes these has the property.
pub record IsNoted (n : ℕ) (old new : List ℕ) (P : (ℕ → Term) → Type 0) : Type 0 where
  pub more : (k : ℕ) → Contains old k → Contains new k
  pub within : ((k : ℕ) → Contains old k → k < n) → (k : ℕ) → Contains new k → k < n
  pub holds : (s : ℕ → Term) → IsFixed n new s → P s

-- the substitution leaves the term, or each of the terms, as it is
abbrev pub StaysWith : Term → (ℕ → Term) → Type 0
StaysWith t s = image s t ≡ t

abbrev pub AllStayWith : List Term → (ℕ → Term) → Type 0
AllStayWith ts s = map (image s) ts ≡ ts

-- the same of instances
abbrev pub InstanceStays : List Term → Term → (ℕ → Term) → Type 0
InstanceStays images t s = StaysWith (image (image_at images) t) s

abbrev pub InstancesStay : List Term → List Term → (ℕ → Term) → Type 0
InstancesStay images ts s = AllStayWith (map (image (image_at images)) ts) s

abbrev pub AtomInstanceStays : List Term → AtomOf → (ℕ → Term) → Type 0
AtomInstanceStays images a s = at_terms (image s) (at_terms (image (image_at images)) a)
    ≡ at_terms (image (image_at images)) a

abbrev pub LitInstancesStay : List Term → List Lit → (ℕ → Term) → Type 0
LitInstancesStay images lits s = map (lit_image s) (map (lit_image (image_at images)) lits)
    ≡ map (lit_image (image_at images)) lits
