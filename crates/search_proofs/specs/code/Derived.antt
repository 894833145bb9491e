-- Members that follow from earlier ones by a rule.
use Rattle.std.specs.Prelude.{ℕ, ◌≡◌, List, [], ◌∷◌, Some, slice_get, take}
use Rattle.fof_terms.specs.Vocabulary.{Vocabulary}
use Rattle.clause_form.specs.declared.clause.Clause.{Clause}
use Rattle.clause_form.specs.declared.path.Parent.{Parent}
use Rattle.clause_form.specs.ClauseView.{clause_of}
use Rattle.inference_proofs.specs.Inferred.{IsRuleStep}
use Rattle.input_proofs.specs.Formulas.{formula_of}
use Rattle.saturation.specs.Members.{clauses_of}
use Rattle.saturation.specs.declared.member.Member.{Member}
use Rattle.saturation.specs.declared.member.Origin.{Origin}
use Rattle.saturation.specs.declared.member.Origin.TheVariants.{Input, Inferred}
use Rattle.superpose.specs.Absent.{AreWithout}

-- The clause follows from two clauses of the list, which may be one and the same. No symbol is new.
pub record FollowsFrom (v : Vocabulary) (list : List Clause) (e : Clause) (a b : ℕ) : Type 0 where
  pub first : Clause
  pub second : Clause
  pub first_at : slice_get list a ≡ Some first
  pub second_at : slice_get list b ≡ Some second
  pub step :
      (p q : Parent) → clause_of p.form ≡ Some first → clause_of q.form ≡ Some second
      → IsRuleStep v (p ∷ q ∷ []) (formula_of e)
  pub no_new : (k : ℕ) → AreWithout k first.lits → AreWithout k second.lits → AreWithout k e.lits

-- the clause is the input that the origin names, or follows from the members that it names
abbrev pub Derives : Vocabulary → List Clause → List Clause → Clause → Origin → Type 0
Derives v inputs list e (Input i) = slice_get inputs i ≡ Some e
Derives v inputs list e (Inferred a b images) = FollowsFrom v list e a b

abbrev pub IsDerived : Vocabulary → List Clause → List Clause → Member → Type 0
IsDerived v inputs list m = Derives v inputs list m.clause m.origin

-- so is each member, by earlier members
abbrev pub AreDerived : Vocabulary → List Clause → List Member → Type 0
AreDerived v inputs list =
    (i : ℕ) (m : Member) → slice_get list i ≡ Some m → IsDerived v inputs (clauses_of (take i list)) m
