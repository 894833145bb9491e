-- The path that choices take does not depend on the line.
use Rattle.std.specs.Prelude.{ℕ, ◌≡◌, List, [], ◌∷◌, length, map, slice_get, refl}
use Rattle.std.specs.List.{AllByRecursion}
use Rattle.std.proofs.Common.{ap, sym, ◌∙◌, zero, suc}
use Rattle.fof_terms.proofs.Induction.{form_induction}
use Rattle.fof_terms.specs.declared.term.Term.{Term, Var}
use Rattle.fof_terms.specs.declared.form.Form.{Form, Atom, Eq, Not, Imp, Iff, Ex}
use Rattle.clause_form.specs.declared.clause.Lit.{Lit}
use Rattle.substitution_search.specs.CoverSearch.{Taking, Taken, Opening, picked, take_at, with_choices, take_pick, first_taken, take_each, all_taken, within_taken, with_sort, opening}
use Rattle.substitution_search.proofs.CoverSearchFacts.{opening-And, opening-Or, opening-All}
use Rattle.rule_steps.proofs.Named.{alike}
use Rattle.substitution_search.proofs.Openings.{IsLeaf, atom_leaf, eq_leaf, not_leaf, imp_leaf, iff_leaf, ex_leaf}

module _ (line : List Lit) where
  abbrev Same : Form → Type 0
  Same a = (opening line a).take ≡ (opening [] a).take

  same_leaf : (a : Form) → IsLeaf line a → IsLeaf [] a → Same a
  same_leaf a h g = ap (λ (o : Opening). o.take) h.opened ∙ sym (ap (λ (o : Opening). o.take) g.opened)

  same_at : (as_ : List Form) → AllByRecursion Same as_ → (i k : ℕ) (env : List Term) (w : Taking) → take_at (slice_get (map (opening line) as_) i) k env w ≡ take_at (slice_get (map (opening []) as_) i) k env w
  same_at [] all i k env w = refl
  same_at (a ∷ as_) all zero k env w = ap (λ (t : List Term → Taking → Taken). picked k (t env w)) all.0
  same_at (a ∷ as_) all (suc i) k env w = same_at as_ all.1 i k env w

  same_pick : (as_ : List Form) → AllByRecursion Same as_ → (env : List Term) (w : Taking) (cs : List ℕ) → take_pick (map (opening line) as_) env w cs ≡ take_pick (map (opening []) as_) env w cs
  same_pick as_ all env w [] = refl
  same_pick as_ all env w (k ∷ cs) = same_at as_ all k k env (with_choices w cs)

  same_each : (as_ : List Form) → AllByRecursion Same as_ → (env : List Term) (w : Taking) → take_each (map (opening line) as_) env w ≡ take_each (map (opening []) as_) env w
  same_each [] all env w = refl
  same_each (a ∷ as_) all env w =
      ap (λ (t : List Term → Taking → Taken). first_taken (t env w) (take_each (map (opening line) as_) env (t env w).rest)) all.0 ∙ ap (first_taken ((opening [] a).take env w)) (same_each as_ all.1 env ((opening [] a).take env w).rest)

  pub same_take : (a : Form) → Same a
  same_take = form_induction Same (record {
    atom = λ p ts. same_leaf (Atom p ts) (atom_leaf line p ts) (atom_leaf [] p ts);
    eq = λ l r. same_leaf (Eq l r) (eq_leaf line l r) (eq_leaf [] l r);
    not = λ a ih. same_leaf (Not a) (not_leaf line a) (not_leaf [] a);
    and = λ as_ all. ap (λ (o : Opening). o.take) (opening-And line as_) ∙ alike _ _ (λ env. alike _ _ (λ w. same_pick as_ all env w w.choices)) ∙ sym (ap (λ (o : Opening). o.take) (opening-And [] as_));
    or = λ as_ all. ap (λ (o : Opening). o.take) (opening-Or line as_) ∙ alike _ _ (λ env. alike _ _ (λ w. ap all_taken (same_each as_ all env w))) ∙ sym (ap (λ (o : Opening). o.take) (opening-Or [] as_));
    imp = λ a b ih jh. same_leaf (Imp a b) (imp_leaf line a b) (imp_leaf [] a b);
    iff = λ a b ih jh. same_leaf (Iff a b) (iff_leaf line a b) (iff_leaf [] a b);
    all = λ s a ih. ap (λ (o : Opening). o.take) (opening-All line s a) ∙ ap {B = List Term → Taking → Taken} (λ (t : List Term → Taking → Taken) (env : List Term) (w : Taking). within_taken (t (Var (length w.sorts) ∷ env) (with_sort w s))) ih ∙ sym (ap (λ (o : Opening). o.take) (opening-All [] s a));
    ex = λ s a ih. same_leaf (Ex s a) (ex_leaf line s a) (ex_leaf [] s a);
  })
