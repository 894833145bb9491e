-- From a draft to the clause that is made: what each kind of inference has to show.
use Rattle.std.specs.Prelude.{ℕ, ◌≡◌, List, length, Option, Some, None}
use Rattle.std.specs.List.{AllByRecursion}
use Rattle.std.proofs.Common.{sym, subst}
use Rattle.fof_terms.specs.declared.term.Term.{Term}
use Rattle.fof_terms.specs.Vocabulary.{Vocabulary}
use Rattle.clause_form.specs.declared.clause.Lit.{Lit}
use Rattle.clause_form.specs.Images.{image, IsImages}
use Rattle.clause_form.specs.Covers.{AreSorted}
use Rattle.clause_rules.specs.Ways.{zip_pairs}
use Rattle.clause_rules.proofs.NeedSorts.{Found}
use Rattle.unify_terms.specs.declared.pair.Pair.{Pair}
use Rattle.unify_terms.specs.declared.scope.Scope.{Scope}
use Rattle.unify_terms.specs.Substitution.{image_at}
use Rattle.unify_terms.specs.Unifiers.{Unified, AreSorted as ArePairsSorted}
use Rattle.superpose.specs.declared.made.Made.{Made}
use Rattle.superpose.specs.Drafts.{Draft, SortsExist}
use Rattle.superpose.specs.Made.{IsBestAt}
use Rattle.superpose.specs.code.Conclusions.{IsConclusion}
use Rattle.superpose.proofs.Unifying.{Asks, pairs_sorted, most_general}
use Rattle.superpose.proofs.BestMade.{best_made, none_made}

-- the one draft at a place, and the terms that it asks to be made equal
pub record IsPosed (v : Vocabulary) (scope : List ℕ) (P : Draft → Type 0) (f : Draft) (ls rs : List Term) : Type 0 where
  pub is_draft : P f
  pub only : (g : Draft) → P g → g ≡ f
  pub asks : Asks f ls rs
  pub left_found : AllByRecursion (Found v scope) ls
  pub right_found : AllByRecursion (Found v scope) rs
  pub size : length ls ≡ length rs
  pub exist : SortsExist v scope
  pub left_sorted : (to : List ℕ) (s : ℕ → Term) → IsImages v scope to s → image s f.one ≡ image s f.other → AreSorted v scope f.left

-- the scope as code has it
pub record IsScope (scope : List ℕ) (given : Scope) : Type 0 where
  pub sorts : given.sorts ≡ scope
  pub rigid : given.rigid ≡ 0

module _ (v : Vocabulary) (scope : List ℕ) (P : Draft → Type 0) (f : Draft) (ls rs : List Term) (posed : IsPosed v scope P f ls rs) (given : Scope) (is : IsScope scope given) (pairs : List Pair) (pairs_are : pairs ≡ zip_pairs ls rs) where
  pub asked_sorted : ArePairsSorted v given.sorts pairs
  asked_sorted = subst (λ xs. ArePairsSorted v xs pairs) (sym is.sorts) (subst (ArePairsSorted v scope) (sym pairs_are) (pairs_sorted v scope ls rs posed.left_found posed.right_found))

  same_unified : (answer : Option (List Term)) → Unified v given.sorts given.rigid pairs answer → Unified v scope 0 (zip_pairs ls rs) answer
  same_unified answer u =
      subst (λ ps. Unified v scope 0 ps answer) pairs_are (subst (λ r. Unified v scope r pairs answer) is.rigid (subst (λ xs. Unified v xs given.rigid pairs answer) is.sorts u))

  pub none_best : Unified v given.sorts given.rigid pairs None → IsBestAt v scope P None
  none_best u =
      none_made v scope P ls rs posed.left_found posed.right_found (λ g p. subst (λ x. Asks x ls rs) (sym (posed.only g p)) posed.asks) (same_unified None u)

  module _ (images : List Term) (u : Unified v given.sorts given.rigid pairs (Some images)) where
    abbrev unified : Unified v scope 0 (zip_pairs ls rs) (Some images)
    unified = same_unified (Some images) u

    pub images_fit : length images ≡ length given.sorts
    images_fit = u.is_substitution.size

    pub some_best : (left : List Lit) (m : Made) → left ≡ f.left → IsConclusion given.sorts images left m → IsBestAt v scope P (Some m)
    some_best left m left_is con =
        let most = most_general v scope f ls rs posed.left_found posed.right_found posed.asks images posed.size unified in
        best_made v scope f ls rs posed.left_found posed.right_found posed.asks images posed.size unified left (sym left_is) posed.exist (posed.left_sorted scope (image_at images) most.images most.unified) m
        (subst (λ xs. IsConclusion xs images left m) is.sorts con) P posed.is_draft posed.only
