-- The goal of a well-sorted formula is well-sorted, and has few variables.
use Rattle.std.specs.Prelude.{ℕ, ◌≡◌, ◌+◌, ◌≤◌, true, nat_lt, List, [], ◌∷◌, length, map, sum, Option, Some, None, slice_get, refl}
use Rattle.std.specs.List.{AllByRecursion, list_all}
use Rattle.std.proofs.Common.{ap, sym, subst, ◌∙◌, arith, zero, suc, length-append}
use Rattle.fof_terms.specs.Vocabulary.{Vocabulary}
use Rattle.fof_terms.proofs.Induction.{form_induction}
use Rattle.fof_terms.proofs.LiftingLaws.{both, each_true}
use Rattle.fof_terms.specs.Sorts.{sort_of_term, is_sorted}
use Rattle.fof_terms.proofs.SortsFacts.{sort_of_term-Var, is_sorted-And, is_sorted-Or, is_sorted-All}
use Rattle.fof_terms.specs.declared.term.Term.{Term, Var}
use Rattle.fof_terms.specs.declared.form.Form.{Form, Atom, Eq, Not, And, Or, Imp, Iff, All, Ex}
use Rattle.clause_form.specs.declared.clause.Lit.{Lit}
use Rattle.clause_form.proofs.ClauseLaws.{atom_sorted}
use Rattle.clause_form.specs.ClauseView.{view_of}
use Rattle.clause_form.specs.Images.{image, IsImages}
use Rattle.clause_form.proofs.ImagesFacts.{image_sorted}
use Rattle.clause_form.specs.Paths.{plain}
use Rattle.clause_form.proofs.SizeLaws.{sum_cons}
use Rattle.clause_form.specs.Sizes.{norm_size_of}
use Rattle.clause_form.proofs.SizesFacts.{norm_size_of-And, norm_size_of-Or, norm_size_of-All}
use Rattle.unify_terms.specs.declared.goal.Goal.{Same}
use Rattle.unify_terms.specs.Goals.{goal_sorted}
use Rattle.unify_terms.proofs.GoalsFacts.{goal_sorted-All, goal_sorted-Any}
use Rattle.substitution_search.specs.CoverSearch.{Opening, sorts_of_all, goals_from, over, named, goal_of_lit, opening}
use Rattle.substitution_search.proofs.CoverSearchFacts.{opening-And, opening-Or, opening-All}
use Rattle.clause_rules.specs.Ways.{cover_ways}
use Rattle.rule_steps.proofs.ClauseSorts.{view_fits}
use Rattle.clause_rules.proofs.NeedSorts.{AllFit, cover_fits, sorted_fits, ways_sorted}
use Rattle.substitution_search.proofs.Openings.{IsLeaf, atom_leaf, eq_leaf, not_leaf, imp_leaf, iff_leaf, ex_leaf}
use Rattle.substitution_search.proofs.Placed.{Has, first_sort, after_first, has_first, has_second}
use Rattle.rule_steps.proofs.ReachedFits.{plain_is}

-- one name more is a variable of its sort
pub one_image : (v : Vocabulary) (scope whole : List ℕ) (s n : ℕ) (env : List Term) → slice_get whole n ≡ Some s → IsImages v scope whole (over env Var) → IsImages v (s ∷ scope) whole (over (Var n ∷ env) Var)
one_image v scope whole s n env at h = record { sorted = go } where
  go : (k r : ℕ) → slice_get (s ∷ scope) k ≡ Some r → sort_of_term v whole (over (Var n ∷ env) Var k) ≡ Some r
  go zero r e = let same : Some s ≡ Some r = e in rw sort_of_term-Var (at ∙ same)
  go (suc k) r e = h.sorted k r e

module _ (line : List Lit) where
  abbrev Few : Form → Type 0
  Few a = length (opening line a).sorts ≤ norm_size_of a

  few_leaf : (a : Form) → IsLeaf line a → Few a
  few_leaf a leaf = let none : length (opening line a).sorts ≡ 0 = ap (λ (o : Opening). length o.sorts) leaf.opened in omega arith

  few_all : (as_ : List Form) → AllByRecursion Few as_ → length (sorts_of_all (map (opening line) as_)) ≤ sum (map norm_size_of as_)
  few_all [] all = omega arith
  few_all (a ∷ as_) all =
      let total = length-append (opening line a).sorts (sorts_of_all (map (opening line) as_)) in
      let one = all.0 in
      let rest = few_all as_ all.1 in
      rw (sum_cons (norm_size_of a) (map norm_size_of as_)) (omega arith)

  -- there are no more universal quantifiers than the norm size
  pub few_sorts : (a : Form) → Few a
  few_sorts = form_induction Few (record {
    atom = λ p ts. few_leaf (Atom p ts) (atom_leaf line p ts);
    eq = λ l r. few_leaf (Eq l r) (eq_leaf line l r);
    not = λ a ih. few_leaf (Not a) (not_leaf line a);
    and = λ as_ all. let le = few_all as_ all in let is : length (opening line (And as_)).sorts ≡ length (sorts_of_all (map (opening line) as_)) = ap (λ (o : Opening). length o.sorts) (opening-And line as_) in let size = norm_size_of-And as_ in omega arith;
    or = λ as_ all. let le = few_all as_ all in let is : length (opening line (Or as_)).sorts ≡ length (sorts_of_all (map (opening line) as_)) = ap (λ (o : Opening). length o.sorts) (opening-Or line as_) in let size = norm_size_of-Or as_ in omega arith;
    imp = λ a b ih jh. few_leaf (Imp a b) (imp_leaf line a b);
    iff = λ a b ih jh. few_leaf (Iff a b) (iff_leaf line a b);
    all = λ s a ih. let le = ih in let is : length (opening line (All s a)).sorts ≡ suc (length (opening line a).sorts) = ap (λ (o : Opening). length o.sorts) (opening-All line s a) in let size = norm_size_of-All s a in omega arith;
    ex = λ s a ih. few_leaf (Ex s a) (ex_leaf line s a);
  })

module _ (v : Vocabulary) (whole : List ℕ) (line : List Lit) (line_fits : AllFit v whole line) where
  abbrev FitsBy : Form → Opening → Type 0
  FitsBy a o = (scope : List ℕ) (n : ℕ) (env : List Term) → is_sorted v scope a ≡ true → IsImages v scope whole (over env Var) → Has whole n o.sorts → goal_sorted v whole (o.goal n env) ≡ true

  abbrev pub GoalFits : Form → Type 0
  GoalFits a = FitsBy a (opening line a)

  lit_fits : (a : Form) (o : Option Lit) → plain (view_of a).lit ≡ o → (scope : List ℕ) (env : List Term) → is_sorted v scope a ≡ true → IsImages v scope whole (over env Var) → goal_sorted v whole (goal_of_lit line env o) ≡ true
  lit_fits a None is scope env h images = goal_sorted-Any v whole []
  lit_fits a (Some l) is scope env h images =
      let need = cover_ways line (named env l) in
      let atom = atom_sorted v scope whole (image (over env Var)) (λ u r e. image_sorted v scope whole (over env Var) images u r e) l.atom ((view_fits v a scope h).lit l (plain_is (view_of a).lit l is)) in
      goal_sorted-Any v whole (map Same need) ∙ ways_sorted v whole need ∙ cover_fits v whole line (named env l) line_fits (sorted_fits v whole (named env l).atom atom)

  leaf_fits : (a : Form) → IsLeaf line a → GoalFits a
  leaf_fits a leaf = subst (FitsBy a) (sym leaf.opened) (λ scope n env h images has. lit_fits a (plain (view_of a).lit) refl scope env h images)

  all_fit : (as_ : List Form) → AllByRecursion GoalFits as_ → (scope : List ℕ) (n : ℕ) (env : List Term) → AllByRecursion (λ a. is_sorted v scope a ≡ true) as_ → IsImages v scope whole (over env Var) → Has whole n (sorts_of_all (map (opening line) as_))
      → list_all (goal_sorted v whole) (goals_from (map (opening line) as_) n env) ≡ true
  all_fit [] all scope n env h images has = refl
  all_fit (a ∷ as_) all scope n env h images has =
      let o = opening line a in
      let ss = sorts_of_all (map (opening line) as_) in
      rw (all.0 scope n env h.0 images (has_first whole n o.sorts ss has), all_fit as_ all.1 scope (n + length o.sorts) env h.1 images (has_second whole n o.sorts ss has)) refl

  pub goal_fits : (a : Form) → GoalFits a
  goal_fits = form_induction GoalFits (record {
    atom = λ p ts. leaf_fits (Atom p ts) (atom_leaf line p ts);
    eq = λ l r. leaf_fits (Eq l r) (eq_leaf line l r);
    not = λ a ih. leaf_fits (Not a) (not_leaf line a);
    and = λ as_ all. subst (FitsBy (And as_)) (sym (opening-And line as_)) (λ scope n env h images has.
        goal_sorted-Any v whole (goals_from (map (opening line) as_) n env) ∙ all_fit as_ all scope n env (each_true (is_sorted v scope) as_ (rw is_sorted-And at h)) images has);
    or = λ as_ all. subst (FitsBy (Or as_)) (sym (opening-Or line as_)) (λ scope n env h images has.
        goal_sorted-All v whole (goals_from (map (opening line) as_) n env) ∙ all_fit as_ all scope n env (each_true (is_sorted v scope) as_ (rw is_sorted-Or at h)) images has);
    imp = λ a b ih jh. leaf_fits (Imp a b) (imp_leaf line a b);
    iff = λ a b ih jh. leaf_fits (Iff a b) (iff_leaf line a b);
    all = λ s a ih. subst (FitsBy (All s a)) (sym (opening-All line s a)) (λ scope n env h images has.
        let parts = both (nat_lt s (length v.sorts)) (is_sorted v (s ∷ scope) a) (rw is_sorted-All at h) in
        ih (s ∷ scope) (suc n) (Var n ∷ env) parts.1 (one_image v scope whole s n env (first_sort whole n s (opening line a).sorts has) images) (after_first whole n s (opening line a).sorts has));
    ex = λ s a ih. leaf_fits (Ex s a) (ex_leaf line s a);
  })
