-- The variables and literals of a line and of its parents' clauses.
use Rattle.std.specs.Prelude.{ℕ, ◌≡◌, ◌+◌, ◌<◌, ◌≤◌, Bool, List, [], ◌∷◌, ◌++◌, length, reverse, slice_get, Some, refl}
use Rattle.std.specs.List.{AllByRecursion}
use Rattle.std.proofs.Common.{ap, sym, subst, ◌∙◌, arith, append-nil, inl}
use Rattle.fof_terms.specs.declared.form.Form.{Form}
use Rattle.std.specs.Borrow.{Bor}
use Rattle.fof_terms.specs.Vocabulary.{Vocabulary}
use Rattle.fof_terms.specs.Scope.{scope_sorts}
use Rattle.fof_terms.proofs.ScopeFacts.{scope_sorts-Outside}
use Rattle.fof_terms.specs.declared.sorting.Scope.{Outside}
use Rattle.fof_terms.specs.Sorts.{binder_depth, Sorted}
use Rattle.fof_terms.proofs.SortsFacts.{binder_depth-All}
use Rattle.clause_form.specs.declared.clause.Lit.{Lit}
use Rattle.clause_form.specs.declared.clause.Clause.{Clause}
use Rattle.clause_form.specs.ClauseView.{clause_of, closed_by}
use Rattle.clause_form.specs.Covers.{IsCovered, AreSorted}
use Rattle.clause_rules.specs.Steps.{IsReady}
use Rattle.clause_proofs.specs.declared.opening.Opened.{Opened}
use Rattle.clause_proofs.specs.Bodies.{body_of, HasClause, IsOpening}
use Rattle.clause_proofs.proofs.BodySorts.{under_closed, body_sorted}
use Rattle.clause_proofs.proofs.ReadyParents.{full}

pub closed_depth : (sorts : List ℕ) (a : Form) → length sorts ≤ binder_depth (closed_by sorts a)
closed_depth [] a = omega arith
closed_depth (s ∷ sorts) a = rw binder_depth-All (omega (arith, closed_depth sorts a))

pub few_sorts : (w : Vocabulary) (a : Form) (c : Clause) (b : Bool) → IsReady w a → HasClause a c b → length c.sorts ≤ 1000000000
few_sorts w a c b ready has = omega (arith, closed_depth c.sorts (body_of b c.lits), ap binder_depth has.is, ready.few_binders)

-- the sorts of a scope are there
abbrev pub Exist : Vocabulary → List ℕ → Type 0
Exist w scope = AllByRecursion (λ s. s < length w.sorts) scope

pub both_exist : (w : Vocabulary) (xs ys : List ℕ) → Exist w xs → Exist w ys → Exist w (xs ++ ys)
both_exist w [] ys a b = b
both_exist w (x ∷ xs) ys a b = (a.0, both_exist w xs ys a.1 b)

-- a clause's body over its own variables
pub own_body : (w : Vocabulary) (a : Form) (c : Clause) (b : Bool) → IsReady w a → HasClause a c b → Sorted w (reverse c.sorts) (body_of b c.lits)
own_body w a c b ready has =
    let inner = under_closed w c.sorts [] (body_of b c.lits) (omega (arith, few_sorts w a c b ready has)) (subst (Sorted w []) has.is (full w a ready)) in
    subst (λ (ss : List ℕ). Sorted w ss (body_of b c.lits)) (append-nil (reverse c.sorts)) inner

pub own_exist : (w : Vocabulary) (a : Form) (c : Clause) (b : Bool) → IsReady w a → HasClause a c b → Exist w (reverse c.sorts)
own_exist w a c b ready has = (own_body w a c b ready has).scope_fits.sorts_exist

pub own_lits : (w : Vocabulary) (a : Form) (c : Clause) (b : Bool) → IsReady w a → HasClause a c b → AreSorted w (reverse c.sorts) c.lits
own_lits w a c b ready has = body_sorted w (reverse c.sorts) b c.lits has.alone (own_body w a c b ready has)

-- a clause is opened as itself
pub opened_clause : (a : Form) (o : Opened) (c : Clause) → IsOpening a (Some o) → clause_of a ≡ Some c → o.clause ≡ c
opened_clause a o c is e = let both : Some o.clause ≡ Some c = sym is.0 ∙ e in cc

pub own_covered : (lits : List Lit) (i : ℕ) (l : Lit) → slice_get lits i ≡ Some l → IsCovered lits l
own_covered lits i l at = inl (i, l, at, inl refl)

-- the variables in reach
pub scope_is : (lent : Bor (List ℕ)) (sorts front more : List ℕ) → lent.now ≡ sorts → reverse sorts ≡ reverse front ++ more → scope_sorts (Outside lent) ≡ reverse front ++ more
scope_is lent sorts front more e f = scope_sorts-Outside lent ∙ ap reverse e ∙ f
