-- Conclusions have no symbol that their premises lack.
use Rattle.std.specs.Prelude.{ℕ, ◌+◌, ◌<◌, ◌≡◌, ◌==◌, Bool, true, false, List, [], ◌∷◌, length, map, remove, take, drop, Some, slice_get, slice_set, refl}
use Rattle.std.specs.List.{AllByRecursion, list_any}
use Rattle.std.proofs.Common.{ap, sym, subst, ◌∙◌, inl, inr, arith, zero, suc}
use Rattle.std.proofs.lemmas.List.{get_or_past}
use Rattle.std.proofs.lemmas.List.Elements.{All-append, All-take, All-drop, All-set, All-cons, All-nil, All-map, All-weaker, All-from_recursion}
use Rattle.std.proofs.lemmas.Option.{slice_get_within, get_or_from_slice_get}
use Rattle.fof_terms.specs.declared.term.Term.{Term, Var, App}
use Rattle.fof_terms.specs.Lift.{lifted_term}
use Rattle.fof_terms.specs.Occurs.{occurs_in_term}
use Rattle.fof_terms.proofs.Induction.{term_induction}
use Rattle.fof_terms.proofs.LiftFacts.{lifted_term-App}
use Rattle.fof_terms.proofs.LiftingLaws.{below_or_above, moves}
use Rattle.fof_terms.proofs.OccursFacts.{occurs_in_term-Var, occurs_in_term-App}
use Rattle.fof_terms.proofs.Scoped.{member_of}
use Rattle.clause_form.specs.declared.clause.AtomOf.{AtomOf}
use Rattle.clause_form.specs.declared.clause.AtomOf.TheVariants.{Pred, Eq, True, False}
use Rattle.clause_form.specs.declared.clause.Lit.{Lit}
use Rattle.clause_form.specs.declared.clause.Clause.{Clause}
use Rattle.clause_form.specs.Covers.{at_terms, lit_apart, lit_image}
use Rattle.clause_form.specs.Images.{image}
use Rattle.clause_rules.specs.Places.{args_of, term_at, put_at, with_args, args_of_atom, sides_of, atom_with_args, lit_term_at, lit_put_at}
use Rattle.clause_rules.specs.Steps.{apart_from, instances, equation, unequal}
use Rattle.clause_rules.specs.code.PlaceSearch.{go_on, below, set_on, put_below}
use Rattle.clause_rules.proofs.PlaceLaws.{args_of-App, with_args-App, term_below, put_is_below, shape_of, found_on}
use Rattle.clause_order.specs.Weights.{as_term}
use Rattle.unify_terms.specs.Substitution.{image_at}
use Rattle.superpose.specs.Absent.{stands_in_atom, AreWithout, IsNotInDraft}
use Rattle.superpose.specs.Drafts.{Draft}
use Rattle.superpose.specs.Inferences.{ResolvesAt, SuperposesAt, FactorsAt, ResolvesEquationAt, FactorsEquationsAt, IsDraftOfOne, IsDraftOfTwo}
use Rattle.superpose.proofs.Wiped.{neither, both_false, none_has, none_mapped, each_lacks, image_lacks, met}

module _ (k : ℕ) where
  abbrev Lacks : Term → Type 0
  Lacks t = occurs_in_term k t ≡ false

  abbrev AllLack : List Term → Type 0
  AllLack = AllByRecursion Lacks

  abbrev AtomLacks : AtomOf → Type 0
  AtomLacks a = stands_in_atom k a ≡ false

  abbrev LitLacks : Lit → Type 0
  LitLacks l = stands_in_atom k l.atom ≡ false

  -- the arguments of an atom, and other ones
  args_lack : (a : AtomOf) → AtomLacks a → AllLack (args_of_atom a)
  args_lack (Pred p ts) h = each_lacks (occurs_in_term k) ts (neither (p == k) (list_any (occurs_in_term k) ts) h).1
  args_lack (Eq l r) h = let parts = neither (occurs_in_term k l) (occurs_in_term k r) h in (parts.0, (parts.1, tt))
  args_lack True h = tt
  args_lack False h = tt

  sides_lack : (ts : List Term) → AllLack ts → AtomLacks (sides_of ts)
  sides_lack [] h = refl
  sides_lack (l ∷ []) h = refl
  sides_lack (l ∷ r ∷ ts) h = both_false (occurs_in_term k l) (occurs_in_term k r) h.0 h.1.0

  with_lacks : (a : AtomOf) (ts : List Term) → AtomLacks a → AllLack ts → AtomLacks (atom_with_args a ts)
  with_lacks (Pred p us) ts h all = both_false (p == k) (list_any (occurs_in_term k) ts) (neither (p == k) (list_any (occurs_in_term k) us) h).0 (none_has (occurs_in_term k) ts all)
  with_lacks (Eq l r) ts h all = sides_lack ts all
  with_lacks True ts h all = refl
  with_lacks False ts h all = refl

  -- a change of terms that brings in no symbol
  all_keep : (f : Term → Term) → ((t : Term) → Lacks t → Lacks (f t)) → (ts : List Term) → AllLack ts → AllByRecursion (λ t. Lacks (f t)) ts
  all_keep f h [] all = tt
  all_keep f h (t ∷ ts) all = (h t all.0, all_keep f h ts all.1)

  atom_keeps : (f : Term → Term) → ((t : Term) → Lacks t → Lacks (f t)) → (a : AtomOf) → AtomLacks a → AtomLacks (at_terms f a)
  atom_keeps f h (Pred p ts) none =
      let parts = neither (p == k) (list_any (occurs_in_term k) ts) none in
      both_false (p == k) (list_any (occurs_in_term k) (map f ts)) parts.0 (none_mapped (occurs_in_term k) f ts (all_keep f h ts (each_lacks (occurs_in_term k) ts parts.1)))
  atom_keeps f h (Eq l r) none =
      let parts = neither (occurs_in_term k l) (occurs_in_term k r) none in
      both_false (occurs_in_term k (f l)) (occurs_in_term k (f r)) (h l parts.0) (h r parts.1)
  atom_keeps f h True none = refl
  atom_keeps f h False none = refl

  pub instances_lack : (s : ℕ → Term) → ((x : ℕ) → Lacks (s x)) → (lits : List Lit) → AreWithout k lits → AreWithout k (instances s lits)
  instances_lack s each lits h =
      All-map LitLacks (lit_image s) lits (All-weaker LitLacks (λ l. LitLacks (lit_image s l)) (λ l none. atom_keeps (image s) (image_lacks k s each) l.atom none) lits h)

  lifted_lacks : (n : ℕ) (t : Term) → Lacks t → Lacks (lifted_term n 0 t)
  lifted_lacks n = term_induction _ (record {
    var = λ j none. ap (occurs_in_term k) (moves n 0 j (omega arith)) ∙ occurs_in_term-Var k (j + n);
    app = λ f ts all none.
        let parts = neither (f == k) (list_any (occurs_in_term k) ts) (sym (occurs_in_term-App k f ts) ∙ none) in
        ap (occurs_in_term k) (lifted_term-App n 0 f ts) ∙ occurs_in_term-App k f (map (lifted_term n 0) ts)
        ∙ both_false (f == k) (list_any (occurs_in_term k) (map (lifted_term n 0) ts)) parts.0
        (none_mapped (occurs_in_term k) (lifted_term n 0) ts (met Lacks (λ t. Lacks (lifted_term n 0 t)) ts all (each_lacks (occurs_in_term k) ts parts.1)));
  })

  apart_lack : (c : Clause) (lits : List Lit) → AreWithout k lits → AreWithout k (apart_from c lits)
  apart_lack c lits h =
      All-map LitLacks (lit_apart (length c.sorts)) lits
      (All-weaker LitLacks (λ l. LitLacks (lit_apart (length c.sorts) l)) (λ l none. atom_keeps (lifted_term (length c.sorts) 0) (lifted_lacks (length c.sorts)) l.atom none) lits h)

  rest_lacks : (lits : List Lit) (i : ℕ) → AreWithout k lits → AreWithout k (remove lits i)
  rest_lacks lits i h = All-append LitLacks (take i lits) (drop (suc i) lits) (All-take LitLacks i lits h) (All-drop LitLacks (suc i) lits h)

  lit_lacks : (lits : List Lit) (i : ℕ) (l : Lit) → AreWithout k lits → slice_get lits i ≡ Some l → LitLacks l
  lit_lacks lits i l h e = subst LitLacks (get_or_from_slice_get lits i l l e) (h i l (slice_get_within lits i l e))

  -- a term below one, and one with another term below it
  set_lacks : (ts : List Term) (n : ℕ) (u : Term) → AllLack ts → Lacks u → AllLack (slice_set ts n u)
  set_lacks [] n u h e = tt
  set_lacks (t ∷ ts) zero u h e = (e, h.1)
  set_lacks (t ∷ ts) (suc n) u h e = (h.0, set_lacks ts n u h.1 e)

  args_of_app : (f : ℕ) (ts : List Term) → Lacks (App f ts) → (f == k ≡ false) × AllLack ts
  args_of_app f ts h =
      let parts = neither (f == k) (list_any (occurs_in_term k) ts) (sym (occurs_in_term-App k f ts) ∙ h) in
      (parts.0, each_lacks (occurs_in_term k) ts parts.1)

  below_lacks : (steps : List ℕ) (t u : Term) → below steps t ≡ Some u → Lacks t → Lacks u
  below_lacks [] t u e h = let is : t ≡ u = cc in subst Lacks is h
  below_lacks (n ∷ steps) t u e h =
      let s = shape_of t n steps u e in
      let args : args_of t ≡ s.1 = ap args_of s.2 ∙ args_of-App s.0 s.1 in
      let at = found_on (slice_get s.1 n) steps u (sym (ap (λ (ts : List Term). go_on (below steps) (slice_get ts n)) args) ∙ e) in
      below_lacks steps at.0 u at.2 (member_of Lacks s.1 n at.0 (args_of_app s.0 s.1 (subst Lacks s.2 h)).1 at.1)

  at_lacks : (place : List ℕ) (ts : List Term) (u : Term) → term_at place ts ≡ Some u → AllLack ts → Lacks u
  at_lacks [] ts u e h = cc
  at_lacks (n ∷ steps) ts u e h =
      let at = found_on (slice_get ts n) steps u (sym (term_below steps n ts) ∙ e) in
      below_lacks steps at.0 u at.2 (member_of Lacks ts n at.0 h at.1)

  module _ (u r : Term) (new : Lacks r) where
    put_below_lacks : (steps : List ℕ) (t : Term) → below steps t ≡ Some u → Lacks t → Lacks (put_below steps r t)
    put_below_lacks [] t e h = new
    put_below_lacks (n ∷ steps) t e h =
        let s = shape_of t n steps u e in
        let args : args_of t ≡ s.1 = ap args_of s.2 ∙ args_of-App s.0 s.1 in
        let at = found_on (slice_get s.1 n) steps u (sym (ap (λ (ts : List Term). go_on (below steps) (slice_get ts n)) args) ∙ e) in
        let made : put_below (n ∷ steps) r t ≡ App s.0 (slice_set s.1 n (put_below steps r at.0)) =
        ap (λ (ts : List Term). with_args t (set_on (put_below steps r) (slice_get ts n) n ts)) args ∙ ap (λ o. with_args t (set_on (put_below steps r) o n s.1)) at.1 ∙ ap (λ y. with_args y (slice_set s.1 n (put_below steps r at.0))) s.2 ∙ with_args-App s.0 s.1 (slice_set s.1 n (put_below steps r at.0)) in
        let parts = args_of_app s.0 s.1 (subst Lacks s.2 h) in
        let rest = set_lacks s.1 n (put_below steps r at.0) parts.1 (put_below_lacks steps at.0 at.2 (member_of Lacks s.1 n at.0 parts.1 at.1)) in
        ap (occurs_in_term k) made ∙ occurs_in_term-App k s.0 (slice_set s.1 n (put_below steps r at.0))
        ∙ both_false (s.0 == k) (list_any (occurs_in_term k) (slice_set s.1 n (put_below steps r at.0))) parts.0 (none_has (occurs_in_term k) (slice_set s.1 n (put_below steps r at.0)) rest)

    put_at_lacks : (place : List ℕ) (ts : List Term) → term_at place ts ≡ Some u → AllLack ts → AllLack (put_at place r ts)
    put_at_lacks [] ts e h = h
    put_at_lacks (n ∷ steps) ts e h =
        let at = found_on (slice_get ts n) steps u (sym (term_below steps n ts) ∙ e) in
        subst AllLack (sym (put_is_below steps n r ts ∙ ap (λ o. set_on (put_below steps r) o n ts) at.1))
        (set_lacks ts n (put_below steps r at.0) h (put_below_lacks steps at.0 at.2 (member_of Lacks ts n at.0 h at.1)))

    put_lacks : (place : List ℕ) (l : Lit) → lit_term_at place l ≡ Some u → LitLacks l → LitLacks (lit_put_at place r l)
    put_lacks place l e h = with_lacks l.atom (put_at place r (args_of_atom l.atom)) h (put_at_lacks place (args_of_atom l.atom) e (args_lack l.atom h))

  equation_lacks : (flipped : Bool) (l r : Term) → LitLacks (equation flipped l r) → Lacks l × Lacks r
  equation_lacks false l r h = neither (occurs_in_term k l) (occurs_in_term k r) h
  equation_lacks true l r h = let parts = neither (occurs_in_term k r) (occurs_in_term k l) h in (parts.1, parts.0)

  -- an atom read as a term has its arguments below its head
  term_shape : (a : AtomOf) → (head : ℕ) × (as_term a ≡ App head (args_of_atom a))
  term_shape (Pred p ts) = (p + 3, refl)
  term_shape (Eq l r) = (2, refl)
  term_shape True = (1, refl)
  term_shape False = (0, refl)

  module _ (c d : Clause) (f : Draft) (first : AreWithout k c.lits) where
    resolved : (i j : ℕ) → AreWithout k d.lits → ResolvesAt c d i j f → IsNotInDraft k f
    resolved i j second p =
        let apart = apart_lack c d.lits second in
        record {
          pair = inl (
            ap (occurs_in_term k) p.one ∙ occurs_in_term-App k p.p p.ts ∙ lit_lacks c.lits i (record { positive = true; atom = Pred p.p p.ts }) first p.here,
            ap (occurs_in_term k) p.other ∙ occurs_in_term-App k p.p p.us ∙ lit_lacks (apart_from c d.lits) j (record { positive = false; atom = Pred p.p p.us }) apart p.there,
          );
          left = subst (AreWithout k) (sym p.left) (All-append LitLacks (remove c.lits i) (remove (apart_from c d.lits) j) (rest_lacks c.lits i first) (rest_lacks (apart_from c d.lits) j apart));
        }

    superposed : (i : ℕ) (flipped : Bool) (j : ℕ) (place : List ℕ) → AreWithout k d.lits → SuperposesAt c d i flipped j place f → IsNotInDraft k f
    superposed i flipped j place second p =
        let apart = apart_lack c d.lits second in
        let sides = equation_lacks flipped p.l p.r (lit_lacks c.lits i (equation flipped p.l p.r) first p.here) in
        let target = lit_lacks (apart_from c d.lits) j p.target apart p.there in
        let part = at_lacks place (args_of_atom p.target.atom) (App p.g p.args) p.stands (args_lack p.target.atom target) in
        let put = put_lacks (App p.g p.args) p.r sides.1 place p.target p.stands target in
        record {
          pair = inl (ap (occurs_in_term k) p.one ∙ sides.0, ap (occurs_in_term k) p.other ∙ part);
          left = subst (AreWithout k) (sym p.left)
              (All-append LitLacks (remove c.lits i) (slice_set (apart_from c d.lits) j (lit_put_at place p.r p.target)) (rest_lacks c.lits i first)
              (All-set LitLacks (apart_from c d.lits) j (lit_put_at place p.r p.target) put apart));
        }

    factored : (i j : ℕ) → FactorsAt c i j f → IsNotInDraft k f
    factored i j p =
        let one = term_shape p.a in
        let other = term_shape p.b in
        record {
          pair = inr (record {
            head = one.0;
            args = args_of_atom p.a;
            other_head = other.0;
            other_args = args_of_atom p.b;
            is = p.one ∙ one.1;
            other_is = p.other ∙ other.1;
            absent = All-from_recursion Lacks (args_of_atom p.a) (args_lack p.a (lit_lacks c.lits i (record { positive = true; atom = p.a }) first p.here));
            other_absent = All-from_recursion Lacks (args_of_atom p.b) (args_lack p.b (lit_lacks c.lits j (record { positive = true; atom = p.b }) first p.there));
          });
          left = subst (AreWithout k) (sym p.left) (rest_lacks c.lits j first);
        }

    equation_resolved : (i : ℕ) → ResolvesEquationAt c i f → IsNotInDraft k f
    equation_resolved i p =
        let sides = neither (occurs_in_term k p.s) (occurs_in_term k p.t) (lit_lacks c.lits i (unequal p.s p.t) first p.here) in
        record {
          pair = inl (ap (occurs_in_term k) p.one ∙ sides.0, ap (occurs_in_term k) p.other ∙ sides.1);
          left = subst (AreWithout k) (sym p.left) (rest_lacks c.lits i first);
        }

    equations_factored : (i : ℕ) (first_flipped : Bool) (j : ℕ) (second_flipped : Bool) → FactorsEquationsAt c i first_flipped j second_flipped f → IsNotInDraft k f
    equations_factored i first_flipped j second_flipped p =
        let one = equation_lacks first_flipped p.s p.t (lit_lacks c.lits i (equation first_flipped p.s p.t) first p.here) in
        let other = equation_lacks second_flipped p.u p.w (lit_lacks c.lits j (equation second_flipped p.u p.w) first p.there) in
        record {
          pair = inl (ap (occurs_in_term k) p.one ∙ one.0, ap (occurs_in_term k) p.other ∙ other.0);
          left = subst (AreWithout k) (sym p.left)
              (All-append LitLacks (remove c.lits i) (unequal p.t p.w ∷ []) (rest_lacks c.lits i first)
              (All-cons LitLacks (unequal p.t p.w) [] (both_false (occurs_in_term k p.t) (occurs_in_term k p.w) one.1 other.1) (All-nil LitLacks)));
        }

    pub draft_of_two_lacks : AreWithout k d.lits → IsDraftOfTwo c d f → IsNotInDraft k f
    draft_of_two_lacks second (inl p) = resolved p.i p.j second p.at
    draft_of_two_lacks second (inr p) = superposed p.i p.flipped p.j p.place second p.at

    pub draft_of_one_lacks : IsDraftOfOne c f → IsNotInDraft k f
    draft_of_one_lacks (inl p) = factored p.i p.j p.at
    draft_of_one_lacks (inr (inl p)) = equation_resolved p.i p.at
    draft_of_one_lacks (inr (inr p)) = equations_factored p.i p.first_flipped p.j p.second_flipped p.at

-- a list of images each of which lacks the symbol, or is past the end of the scope
pub images_lack : (k : ℕ) (scope : List ℕ) (images : List Term) → length images ≡ length scope → ((x : ℕ) → x < length scope → occurs_in_term k (image_at images x) ≡ false)
    → (x : ℕ) → occurs_in_term k (image_at images x) ≡ false
images_lack k scope images size h x =
    elim (below_or_above x (length scope)) [
      | inl within ↦ h x within
      | inr past ↦ ap (occurs_in_term k) (get_or_past images x (Var x) (omega (arith, size))) ∙ occurs_in_term-Var k x
    ]
