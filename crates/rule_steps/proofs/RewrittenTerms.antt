-- The ways in which terms are rewritten, and what is well-sorted behind them.
use Rattle.std.specs.Prelude.{ℕ, true, ◌≡◌, ◌≢◌, List, [], ◌∷◌, map, slice_get, Option, Some, refl}
use Rattle.std.specs.List.{AllByRecursion}
use Rattle.std.proofs.Common.{ap, sym, subst, ◌∙◌, inl, inr, ◌⊎◌}
use Rattle.fof_terms.specs.Vocabulary.{Vocabulary}
use Rattle.fof_terms.proofs.Induction.{term_induction}
use Rattle.fof_terms.proofs.LiftingLaws.{applied_found}
use Rattle.fof_terms.proofs.Walks.{TermWalk}
use Rattle.fof_terms.specs.Sorts.{applied, holds_of, one_sort, sort_of_term}
use Rattle.fof_terms.proofs.SortsFacts.{sort_of_term-Var, sort_of_term-App}
use Rattle.fof_terms.specs.declared.term.Term.{Term, Var, App}
use Rattle.fof_terms.specs.declared.term.Term.TheViews.{out-Term, outs-Var, outs-App}
use Rattle.clause_form.specs.declared.clause.AtomOf.{AtomOf}
use Rattle.clause_form.specs.declared.clause.AtomOf.TheVariants.{Pred, Eq, True, False}
use Rattle.clause_form.specs.declared.clause.Lit.{Lit}
use Rattle.clause_form.specs.Covers.{at_terms, in_lit, is_sorted_atom}
use Rattle.clause_rules.specs.RewriteRule.{IsRewritten, AreRewritten, IsAtomRewritten, AreLitsRewritten, all_of_it, a_variable, inside}
use Rattle.clause_rules.proofs.NeedSorts.{Found, Fits, sorted_fits}
use Rattle.clause_rules.proofs.Rewritten.{none_of, first_of}
use Rattle.fof_terms.specs.declared.term.Term.TheOpen as term

-- the three ways
abbrev pub Ways : Term → Term → Term → Term → Type 0
Ways u w t s =
    ((t ≡ u) × (s ≡ w)) ⊎ (((k : ℕ) × (Var k ≢ u) × (t ≡ Var k) × (s ≡ Var k)) ⊎ ((f : ℕ) × (ts : List Term) × (us : List Term) × (App f ts ≢ u) × (t ≡ App f ts) × (s ≡ App f us) × AreRewritten u w ts us))

ways : (u w t s : Term) → IsRewritten u w t s → Ways u w t s
ways u w t s all_of_it = inl (refl, refl)
ways u w t s (a_variable k n) = inr (inl (k, n, refl, refl))
ways u w t s (inside f ts us n h) = inr (inr (f, ts, us, n, refl, refl, h))

no_app : (k f : ℕ) (ts : List Term) → Var k ≡ App f ts → ⊥
no_app k f ts e = let layers : term.Var k ≡ term.App f ts = sym (outs-Var k) ∙ ap out-Term e ∙ outs-App f ts in cc

same_app : (f g : ℕ) (ts us : List Term) → App f ts ≡ App g us → (f ≡ g) × (ts ≡ us)
same_app f g ts us e = let layers : term.App f ts ≡ term.App g us = sym (outs-App f ts) ∙ ap out-Term e ∙ outs-App g us in (cc, cc)

var_way : (u w : Term) (k : ℕ) (s : Term) → IsRewritten u w (Var k) s → ((Var k ≡ u) × (s ≡ w)) ⊎ ((Var k ≢ u) × (s ≡ Var k))
var_way u w k s h = elim (ways u w (Var k) s h) [
  | inl e ↦ inl e
  | inr e ↦ elim e [
    | inl a ↦ inr (subst (λ t. t ≢ u) (sym a.2) a.1, a.3 ∙ sym a.2)
    | inr b ↦ absurd (no_app k b.0 b.1 b.4)
  ]
]

app_way : (u w : Term) (f : ℕ) (ts : List Term) (s : Term) → IsRewritten u w (App f ts) s → ((App f ts ≡ u) × (s ≡ w)) ⊎ ((us : List Term) × (App f ts ≢ u) × (s ≡ App f us) × AreRewritten u w ts us)
app_way u w f ts s h = elim (ways u w (App f ts) s h) [
  | inl e ↦ inl e
  | inr e ↦ elim e [
    | inl a ↦ absurd (no_app a.0 f ts (sym a.2))
    | inr b ↦
        let same = same_app f b.0 ts b.1 b.4 in
        inr (b.2, subst (λ t. t ≢ u) (sym b.4) b.3, b.5 ∙ ap (λ g. App g b.2) (sym same.0), subst (λ xs. AreRewritten u w xs b.2) (sym same.1) b.6)
  ]
]

-- sorts stay
module _ (v : Vocabulary) (scope : List ℕ) (u w : Term) (same : sort_of_term v scope w ≡ sort_of_term v scope u) where
  abbrev sort : Term → Option ℕ
  sort = sort_of_term v scope

  abbrev Kept : Term → Type 0
  Kept t = (s : Term) → IsRewritten u w t s → sort s ≡ sort t

  all_kept : (ts : List Term) → AllByRecursion Kept ts → (us : List Term) → AreRewritten u w ts us → map sort us ≡ map sort ts
  all_kept [] all us h = ap (map sort) (none_of u w us h)
  all_kept (t ∷ ts) all us h =
      let f = first_of u w t ts us h in
      ap (map sort) f.2 ∙ ap (λ x. x ∷ map sort f.1) (all.0 f.0 f.3) ∙ ap (λ xs. sort t ∷ xs) (all_kept ts all.1 f.1 f.4)

  pub term_kept : (t : Term) → Kept t
  term_kept = term_induction Kept (record {
    var = λ k s h. elim (var_way u w k s h) [
      | inl e ↦ ap sort e.1 ∙ same ∙ ap sort (sym e.0)
      | inr e ↦ ap sort e.1
    ];
    app = λ f ts all s h. elim (app_way u w f ts s h) [
      | inl e ↦ ap sort e.1 ∙ same ∙ ap sort (sym e.0)
      | inr e ↦ ap sort e.2 ∙ sort_of_term-App v scope f e.0 ∙ ap (applied (slice_get v.symbols f)) (all_kept ts all e.0 e.3) ∙ sym (sort_of_term-App v scope f ts)
    ];
  })

  every_kept : (ts : List Term) → AllByRecursion Kept ts
  every_kept [] = tt
  every_kept (t ∷ ts) = (term_kept t, every_kept ts)

  atom_kept : (a b : AtomOf) → IsAtomRewritten u w a b → is_sorted_atom v scope a ≡ true → is_sorted_atom v scope b ≡ true
  atom_kept (Pred p ts) b h e = ap (is_sorted_atom v scope) h.2 ∙ ap (holds_of (slice_get v.symbols p)) (all_kept ts (every_kept ts) h.0 h.1) ∙ e
  atom_kept (Eq l r) b h e = ap (is_sorted_atom v scope) h.4 ∙ ap (λ x. one_sort x (sort h.1)) (term_kept l h.0 h.2) ∙ ap (one_sort (sort l)) (term_kept r h.1 h.3) ∙ e
  atom_kept True b h e = ap (is_sorted_atom v scope) h
  atom_kept False b h e = ap (is_sorted_atom v scope) h

  pub lits_kept : (lits ms : List Lit) → AreLitsRewritten u w lits ms → AllByRecursion (λ (l : Lit). is_sorted_atom v scope l.atom ≡ true) lits → AllByRecursion (λ (l : Lit). is_sorted_atom v scope l.atom ≡ true) ms
  lits_kept [] ms h all = subst (AllByRecursion (λ (l : Lit). is_sorted_atom v scope l.atom ≡ true)) (sym h) tt
  lits_kept (k ∷ lits) ms h all =
      subst (AllByRecursion (λ (l : Lit). is_sorted_atom v scope l.atom ≡ true)) (sym h.2) (atom_kept k.atom h.0.atom h.4 all.0, lits_kept lits h.1 h.5 all.1)

-- what is written in place of a term under a change of terms that fixes the variables
module _ (v : Vocabulary) (scope : List ℕ) (u w x : Term) (f : Term → Term) (walk : TermWalk f) (new : x ≡ f w) (fixed : (k r : ℕ) → slice_get scope k ≡ Some r → f (Var k) ≡ Var k) where
  abbrev Same : Term → Type 0
  Same t = Found v scope t → (s q : Term) → IsRewritten u w t s → IsRewritten u x t q → q ≡ f s

  all_same : (ts : List Term) → AllByRecursion Same ts → AllByRecursion (Found v scope) ts → (ss qs : List Term) → AreRewritten u w ts ss → AreRewritten u x ts qs → qs ≡ map f ss
  all_same [] all found ss qs h g = none_of u x qs g ∙ ap (map f) (sym (none_of u w ss h))
  all_same (t ∷ ts) all found ss qs h g =
      let a = first_of u w t ts ss h in
      let b = first_of u x t ts qs g in
      b.2 ∙ ap (λ y. y ∷ b.1) (all.0 found.0 a.0 b.0 a.3 b.3) ∙ ap (λ ys. f a.0 ∷ ys) (all_same ts all.1 found.1 a.1 b.1 a.4 b.4) ∙ ap (map f) (sym a.2)

  pub term_same : (t : Term) → Same t
  term_same = term_induction Same (record {
    var = λ k found s q h g. elim (var_way u w k s h) [
      | inl a ↦ elim (var_way u x k q g) [
        | inl b ↦ b.1 ∙ new ∙ ap f (sym a.1)
        | inr b ↦ absurd (b.0 a.0)
      ]
      | inr a ↦ elim (var_way u x k q g) [
        | inl b ↦ absurd (a.0 b.0)
        | inr b ↦ b.1 ∙ sym (fixed k found.0 (sym (sort_of_term-Var v scope k) ∙ found.1)) ∙ ap f (sym a.1)
      ]
    ];
    app = λ p ts all found s q h g. elim (app_way u w p ts s h) [
      | inl a ↦ elim (app_way u x p ts q g) [
        | inl b ↦ b.1 ∙ new ∙ ap f (sym a.1)
        | inr b ↦ absurd (b.1 a.0)
      ]
      | inr a ↦ elim (app_way u x p ts q g) [
        | inl b ↦ absurd (a.1 b.0)
        | inr b ↦
            let each = applied_found (sort_of_term v scope) ts (slice_get v.symbols p) found.0 (sym (sort_of_term-App v scope p ts) ∙ found.1) in
            b.2 ∙ ap (App p) (all_same ts all each a.0 b.0 a.3 b.3) ∙ sym (walk.app p a.0) ∙ ap f (sym a.2)
      ]
    ];
  })

  every_same : (ts : List Term) → AllByRecursion Same ts
  every_same [] = tt
  every_same (t ∷ ts) = (term_same t, every_same ts)

  atom_same : (a b c : AtomOf) → Fits v scope a → IsAtomRewritten u w a b → IsAtomRewritten u x a c → c ≡ at_terms f b
  atom_same (Pred p ts) b c fit h g = g.2 ∙ ap (Pred p) (all_same ts (every_same ts) fit h.0 g.0 h.1 g.1) ∙ ap (at_terms f) (sym h.2)
  atom_same (Eq l r) b c fit h g = g.4 ∙ ap (λ y. Eq y g.1) (term_same l fit.0 h.0 g.0 h.2 g.2) ∙ ap (Eq (f h.0)) (term_same r fit.1 h.1 g.1 h.3 g.3) ∙ ap (at_terms f) (sym h.4)
  atom_same True b c fit h g = g ∙ ap (at_terms f) (sym h)
  atom_same False b c fit h g = g ∙ ap (at_terms f) (sym h)

  pub lits_same : (lits ms ns : List Lit) → AllByRecursion (λ (l : Lit). is_sorted_atom v scope l.atom ≡ true) lits → AreLitsRewritten u w lits ms → AreLitsRewritten u x lits ns → ns ≡ map (in_lit f) ms
  lits_same [] ms ns all h g = g ∙ ap (map (in_lit f)) (sym h)
  lits_same (k ∷ lits) ms ns all h g =
      let atoms = atom_same k.atom h.0.atom g.0.atom (sorted_fits v scope k.atom all.0) h.4 g.4 in
      let one : g.0 ≡ in_lit f h.0 = lit_is g.0 (in_lit f h.0) (g.3 ∙ sym h.3) atoms in
      g.2 ∙ ap (λ y. y ∷ g.1) one ∙ ap (λ ys. in_lit f h.0 ∷ ys) (lits_same lits h.1 g.1 all.1 h.5 g.5) ∙ ap (map (in_lit f)) (sym h.2) where
        lit_is : (a b : Lit) → a.positive ≡ b.positive → a.atom ≡ b.atom → a ≡ b
        lit_is a b e d = ap (λ g. record { positive = g; atom = a.atom }) e ∙ ap (λ (x : AtomOf). record { positive = b.positive; atom = x }) d
