-- The rules look only at the symbols of a theory and at which of them are new to it.
use Rattle.std.specs.Prelude.{ℕ, ◌≡◌, List, [], ◌∷◌}
use Rattle.std.specs.List.{AllByRecursion as Each}
use Rattle.std.proofs.Common.{subst}
use Rattle.fof_terms.specs.declared.form.Form.{Form}
use Rattle.fof_terms.specs.Vocabulary.{Vocabulary}
use Rattle.kernel.specs.Statements.{Statements}
use Rattle.kernel.specs.Entries.{IsFresh}
use Rattle.skolem_fresh.specs.declared.just.Use.{Use}
use Rattle.skolem_fresh.specs.Uses.{Fits, AreNew}
use Rattle.skolem_fresh.specs.ChoiceRule.{MayChooseFor, IsChoiceStep}
use Rattle.skolem_fresh.specs.SkolemRule.{IsSkolemized, IsSkolemStep}

module _ (t u : Statements) (same : t.vocabulary ≡ u.vocabulary) (fresh : (k : ℕ) → IsFresh k t → IsFresh k u) where
  still_fresh : (uses : List Use) → Each (λ (x : Use). IsFresh x.function t) uses → Each (λ (x : Use). IsFresh x.function u) uses
  still_fresh [] h = tt
  still_fresh (x ∷ uses) h = (fresh x.function h.0, still_fresh uses h.1)

  still_new : (uses : List Use) → AreNew t uses → AreNew u uses
  still_new uses n = record { distinct = n.distinct; fresh = still_fresh uses n.fresh }

  still_choose : (scope : List ℕ) (left : Form) (uses : List Use) → MayChooseFor t scope left uses → MayChooseFor u scope left uses
  still_choose scope left uses m = record {
    variables = m.variables;
    same = m.same;
    arguments = m.arguments;
    fits = subst (λ v. Each (Fits v scope) uses) same m.fits;
    new = still_new uses m.new;
    absent = m.absent;
  }

  pub choice_alike : (line : Form) → IsChoiceStep t line → IsChoiceStep u line
  choice_alike line (sorts, left, right, k, uses, c) =
      (sorts, left, right, k, uses, record { is = c.is; some = c.some; opened = c.opened; may = still_choose _ left uses c.may })

  pub skolem_alike : (parents : List Form) (line : Form) → IsSkolemStep t parents line → IsSkolemStep u parents line
  skolem_alike parents line (i, (parent, norm, result, uses, at, s)) = (
    i,
    (
      parent,
      norm,
      result,
      uses,
      at,
      record {
        of_parent = s.of_parent;
        some = s.some;
        replaced = subst (λ v. IsSkolemized v [] uses norm result) same s.replaced;
        new = still_new uses s.new;
        of_line = s.of_line;
      },
    ),
  )
