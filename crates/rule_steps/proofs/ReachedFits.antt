-- The clause that a path reaches in a well-sorted formula is well-sorted, and has no more variables than the formula's
-- norm size.
use Rattle.std.specs.Prelude.{ℕ, ◌≡◌, ◌≤◌, Bool, true, false, nat_lt, List, [], ◌∷◌, ◌++◌, length, map, reverse, sum, if◌then◌else◌, Option, Some, None, slice_get, refl}
use Rattle.std.specs.List.{AllByRecursion}
use Rattle.std.specs.Option.{option_map}
use Rattle.std.proofs.Common.{ap, sym, subst, ◌∙◌, arith, zero, suc, append_assoc, length-append}
use Rattle.std.proofs.lemmas.List.{reverse-append, length-reverse}
use Rattle.std.proofs.lemmas.List.Elements.{All-append, All-cons, All-nil}
use Rattle.fof_terms.specs.Vocabulary.{Vocabulary}
use Rattle.fof_terms.proofs.Induction.{form_induction}
use Rattle.fof_terms.proofs.LiftingLaws.{both, each_true}
use Rattle.fof_terms.specs.Lift.{lifted_term}
use Rattle.fof_terms.proofs.Scoped.{member_of}
use Rattle.fof_terms.specs.Sorts.{sort_of_term, is_sorted}
use Rattle.fof_terms.proofs.SortsFacts.{is_sorted-And, is_sorted-Or, is_sorted-All}
use Rattle.fof_terms.proofs.Walks.{lifted_sort}
use Rattle.fof_terms.specs.declared.form.Form.{Form, Atom, Eq, Not, And, Or, Imp, Iff, All, Ex}
use Rattle.fof_terms.specs.declared.form.Form.TheViews.{out-Form, outs-And, outs-Or, outs-All}
use Rattle.clause_form.specs.declared.path.Path.{Path, Leaf}
use Rattle.clause_form.specs.declared.clause.Lit.{Lit}
use Rattle.clause_form.specs.declared.clause.Clause.{Clause}
use Rattle.clause_form.proofs.ClauseLaws.{lits_sorted}
use Rattle.clause_form.specs.ClauseView.{view_of, alone_lit, open_clause, within}
use Rattle.clause_form.specs.Covers.{in_lit, is_sorted_atom, AreSorted}
use Rattle.clause_form.specs.Paths.{plain, is_plain, reached, all_beside, each_reaches, at_member, pick_in, each_in, under_in}
use Rattle.clause_form.proofs.SizeLaws.{sum_cons}
use Rattle.clause_form.specs.Sizes.{norm_size_of}
use Rattle.clause_form.proofs.SizesFacts.{norm_size_of-And, norm_size_of-Or, norm_size_of-All}
use Rattle.rule_steps.proofs.ClauseSorts.{view_fits}
use Rattle.clause_rules.proofs.ListPlaces.{nothing_there, mapped, more_parts, reverse_cons}
use Rattle.substitution_search.proofs.Openings.{no_pick, no_each, no_under, IsLeafLayer, and_no_lit, or_no_lit, all_no_lit, atom_leaf, eq_leaf, not_leaf, imp_leaf, iff_leaf, ex_leaf}
use Rattle.substitution_search.proofs.PathCases.{path_cases, reached-Leaf, reached-Pick, reached-Each, reached-Under}

abbrev pub Both : (Form → Clause → Type 0) → List Form → List Clause → Type 0
Both P [] [] = Unit {0}
Both P [] (c ∷ cs) = ⊥
Both P (a ∷ as_) [] = ⊥
Both P (a ∷ as_) (c ∷ cs) = P a c × Both P as_ cs

-- a proof for each way to reach a clause
pub record ReachCases (P : Form → Clause → Type 0) : Type 0 where
  pub lit : (a : Form) (l : Lit) → plain (view_of a).lit ≡ Some l → P a (open_clause (l ∷ []))
  pub pick : (as_ : List Form) (k : ℕ) (a : Form) (c : Clause) → slice_get as_ k ≡ Some a → P a c → P (And as_) c
  pub each : (as_ : List Form) (cs : List Clause) → Both P as_ cs → P (Or as_) (all_beside cs)
  pub under : (s : ℕ) (a : Form) (c : Clause) → P a c → P (All s a) (within s c)

module _ (P : Form → Clause → Type 0) (cases : ReachCases P) where
  abbrev Along : Form → Path → Type 0
  Along a p = (c : Clause) → reached p a ≡ Some c → P a c

  abbrev Goal : Form → Type 0
  Goal a = (p : Path) → Along a p

  by_lit : (a : Form) (l : Option Lit) (c : Clause) → plain (view_of a).lit ≡ l → option_map open_clause (option_map alone_lit l) ≡ Some c → P a c
  by_lit a None c at is = absurd (let x = is in cc)
  by_lit a (Some l) c at is = let same : open_clause (l ∷ []) ≡ c = cc in subst (P a) same (cases.lit a l at)

  on_leaf : (a : Form) → IsLeafLayer (out-Form a) → Goal a
  on_leaf a leaf =
      path_cases (Along a) (record {
        leaf = λ c is. by_lit a (plain (view_of a).lit) c refl (sym (reached-Leaf a) ∙ is);
        pick = λ k p c is. absurd (nothing_there _ c (reached-Pick k p a ∙ no_pick k (reached p) (out-Form a) leaf) is);
        each = λ ps c is. absurd (nothing_there _ c (reached-Each ps a ∙ no_each (map reached ps) (out-Form a) leaf) is);
        under = λ p c is. absurd (nothing_there _ c (reached-Under p a ∙ no_under (reached p) (out-Form a) leaf) is);
      })

  no_leaf : (a : Form) (c : Clause) → plain (view_of a).lit ≡ None → reached Leaf a ≡ Some c → ⊥
  no_leaf a c none is = nothing_there _ c (reached-Leaf a ∙ ap (λ (o : Option Lit). option_map open_clause (option_map alone_lit o)) none) is

  at_place : (o : Option Form) (p : Path) (c : Clause) → at_member (reached p) o ≡ Some c → (a : Form) × (o ≡ Some a) × (reached p a ≡ Some c)
  at_place None p c is = absurd (let x = is in cc)
  at_place (Some a) p c is = (a, refl, is)

  on_and : (as_ : List Form) → AllByRecursion Goal as_ → Goal (And as_)
  on_and as_ all =
      path_cases (Along (And as_)) (record {
        leaf = λ c is. absurd (no_leaf (And as_) c (and_no_lit as_) is);
        pick = λ k p c is.
            let m = at_place (slice_get as_ k) p c (sym (reached-Pick k p (And as_) ∙ ap (pick_in k (reached p)) (outs-And as_)) ∙ is) in
            cases.pick as_ k m.0 c m.1 (member_of Goal as_ k m.0 all m.1 p c m.2);
        each = λ ps c is. absurd (nothing_there _ c (reached-Each ps (And as_) ∙ ap (each_in (map reached ps)) (outs-And as_)) is);
        under = λ p c is. absurd (nothing_there _ c (reached-Under p (And as_) ∙ ap (under_in (reached p)) (outs-And as_)) is);
      })

  both_hold : (as_ : List Form) → AllByRecursion Goal as_ → (ps : List Path) (cs : List Clause) → each_reaches (map reached ps) as_ ≡ Some cs → Both P as_ cs
  both_hold [] all [] cs is = let same : [] ≡ cs = cc in subst (Both P []) same tt
  both_hold [] all (p ∷ ps) cs is = absurd (let x = is in cc)
  both_hold (a ∷ as_) all [] cs is = absurd (let x = is in cc)
  both_hold (a ∷ as_) all (p ∷ ps) cs is =
      let m = more_parts (reached p a) (each_reaches (map reached ps) as_) cs is in
      subst (Both P (a ∷ as_)) m.4 (all.0 p m.0 m.2, both_hold as_ all.1 ps m.1 m.3)

  on_or : (as_ : List Form) → AllByRecursion Goal as_ → Goal (Or as_)
  on_or as_ all =
      path_cases (Along (Or as_)) (record {
        leaf = λ c is. absurd (no_leaf (Or as_) c (or_no_lit as_) is);
        pick = λ k p c is. absurd (nothing_there _ c (reached-Pick k p (Or as_) ∙ ap (pick_in k (reached p)) (outs-Or as_)) is);
        each = λ ps c is.
            let m = mapped all_beside (each_reaches (map reached ps) as_) c (sym (reached-Each ps (Or as_) ∙ ap (each_in (map reached ps)) (outs-Or as_)) ∙ is) in
            subst (P (Or as_)) m.2 (cases.each as_ m.0 (both_hold as_ all ps m.0 m.1));
        under = λ p c is. absurd (nothing_there _ c (reached-Under p (Or as_) ∙ ap (under_in (reached p)) (outs-Or as_)) is);
      })

  on_all : (s : ℕ) (a : Form) → Goal a → Goal (All s a)
  on_all s a ih =
      path_cases (Along (All s a)) (record {
        leaf = λ c is. absurd (no_leaf (All s a) c (all_no_lit s a) is);
        pick = λ k p c is. absurd (nothing_there _ c (reached-Pick k p (All s a) ∙ ap (pick_in k (reached p)) (outs-All s a)) is);
        each = λ ps c is. absurd (nothing_there _ c (reached-Each ps (All s a) ∙ ap (each_in (map reached ps)) (outs-All s a)) is);
        under = λ p c is.
            let m = mapped (within s) (reached p a) c (sym (reached-Under p (All s a) ∙ ap (under_in (reached p)) (outs-All s a)) ∙ is) in
            subst (P (All s a)) m.2 (cases.under s a m.0 (ih p m.0 m.1));
      })

  pub reach_induction : (a : Form) (p : Path) (c : Clause) → reached p a ≡ Some c → P a c
  reach_induction = form_induction Goal (record {
    atom = λ p ts. on_leaf (Atom p ts) (atom_leaf [] p ts).layer;
    eq = λ l r. on_leaf (Eq l r) (eq_leaf [] l r).layer;
    not = λ a ih. on_leaf (Not a) (not_leaf [] a).layer;
    and = on_and;
    or = on_or;
    imp = λ a b ih jh. on_leaf (Imp a b) (imp_leaf [] a b).layer;
    iff = λ a b ih jh. on_leaf (Iff a b) (iff_leaf [] a b).layer;
    all = on_all;
    ex = λ s a ih. on_leaf (Ex s a) (ex_leaf [] s a).layer;
  })

size_at : (as_ : List Form) (k : ℕ) (a : Form) → slice_get as_ k ≡ Some a → norm_size_of a ≤ sum (map norm_size_of as_)
size_at [] k a e = cc
size_at (b ∷ as_) zero a e = let same : b ≡ a = cc in let is = ap norm_size_of same in rw (sum_cons (norm_size_of b) (map norm_size_of as_)) (omega arith)
size_at (b ∷ as_) (suc k) a e = let rest = size_at as_ k a e in rw (sum_cons (norm_size_of b) (map norm_size_of as_)) (omega arith)

pub plain_is : (o : Option Lit) (l : Lit) → plain o ≡ Some l → o ≡ Some l
plain_is None l e = cc
plain_is (Some k) l e = go (is_plain k.atom) e where
  go : (b : Bool) → (if b then Some k else None) ≡ Some l → Some k ≡ Some l
  go true h = h
  go false h = cc

module _ (v : Vocabulary) where
  pub record FitsOver (scope : List ℕ) (size : ℕ) (c : Clause) : Type 0 where
    pub sorted : AreSorted v (reverse c.sorts ++ scope) c.lits
    pub few : length c.sorts ≤ size

  abbrev Fits : Form → Clause → Type 0
  Fits a c = (scope : List ℕ) → is_sorted v scope a ≡ true → FitsOver scope (norm_size_of a) c

  beside_sorted : (c d : Clause) (scope : List ℕ) → AreSorted v (reverse c.sorts ++ scope) c.lits → AreSorted v (reverse d.sorts ++ scope) d.lits
      → AreSorted v (reverse (c.sorts ++ d.sorts) ++ scope) (map (in_lit (lifted_term (length d.sorts) 0)) c.lits ++ map (in_lit (lifted_term (length c.sorts) (length d.sorts))) d.lits)
  beside_sorted c d scope h g =
      let target = reverse d.sorts ++ (reverse c.sorts ++ scope) in
      let is : target ≡ reverse (c.sorts ++ d.sorts) ++ scope = sym (ap (λ ss. ss ++ scope) (reverse-append c.sorts d.sorts) ∙ append_assoc (reverse d.sorts) (reverse c.sorts) scope) in
      let first = lits_sorted v (reverse c.sorts ++ scope) target (lifted_term (length d.sorts) 0)
      (λ u r e. ap (λ m. sort_of_term v target (lifted_term m 0 u)) (sym (length-reverse d.sorts)) ∙ lifted_sort v (reverse d.sorts) (reverse c.sorts ++ scope) [] u ∙ e) c.lits h in
      let second = lits_sorted v (reverse d.sorts ++ scope) target (lifted_term (length c.sorts) (length d.sorts))
      (λ u r e. ap (λ m. sort_of_term v target (lifted_term m (length d.sorts) u)) (sym (length-reverse c.sorts)) ∙ ap (λ m. sort_of_term v target (lifted_term (length (reverse c.sorts)) m u)) (sym (length-reverse d.sorts)) ∙ lifted_sort v (reverse c.sorts) scope (reverse d.sorts) u ∙ e) d.lits g in
      subst (λ ss. AreSorted v ss (map (in_lit (lifted_term (length d.sorts) 0)) c.lits ++ map (in_lit (lifted_term (length c.sorts) (length d.sorts))) d.lits)) is
      (record { fits = All-append (λ (l : Lit). is_sorted_atom v target l.atom ≡ true) _ _ first.fits second.fits })

  each_fits : (as_ : List Form) (cs : List Clause) → Both Fits as_ cs → (scope : List ℕ) → AllByRecursion (λ a. is_sorted v scope a ≡ true) as_ → FitsOver scope (sum (map norm_size_of as_)) (all_beside cs)
  each_fits [] [] both scope h = record { sorted = record { fits = All-nil (λ (l : Lit). is_sorted_atom v scope l.atom ≡ true) }; few = omega arith }
  each_fits [] (c ∷ cs) both scope h = absurd both
  each_fits (a ∷ as_) [] both scope h = absurd both
  each_fits (a ∷ as_) (c ∷ cs) both scope h =
      let here = both.0 scope h.0 in
      let there = each_fits as_ cs both.1 scope h.1 in
      let total = length-append c.sorts (all_beside cs).sorts in
      let one = here.few in
      let two = there.few in
      record {
        sorted = beside_sorted c (all_beside cs) scope here.sorted there.sorted;
        few = rw (sum_cons (norm_size_of a) (map norm_size_of as_)) (omega arith);
      }

  pub reached_fits : (a : Form) (p : Path) (c : Clause) → reached p a ≡ Some c → Fits a c
  reached_fits = reach_induction Fits (record {
    lit = λ a l is scope h. record {
      sorted = record { fits = All-cons (λ (k : Lit). is_sorted_atom v scope k.atom ≡ true) l [] ((view_fits v a scope h).lit l (plain_is (view_of a).lit l is)) (All-nil (λ (k : Lit). is_sorted_atom v scope k.atom ≡ true)) };
      few = omega arith;
    };
    pick = λ as_ k a c at ih scope h.
        let here = ih scope (member_of (λ a. is_sorted v scope a ≡ true) as_ k a (each_true (is_sorted v scope) as_ (rw is_sorted-And at h)) at) in
        let le = size_at as_ k a at in
        let one = here.few in
        let size = norm_size_of-And as_ in
        record { sorted = here.sorted; few = omega arith };
    each = λ as_ cs ih scope h.
        let all = each_fits as_ cs ih scope (each_true (is_sorted v scope) as_ (rw is_sorted-Or at h)) in
        let one = all.few in
        let size = norm_size_of-Or as_ in
        record { sorted = all.sorted; few = omega arith };
    under = λ s a c ih scope h.
        let parts = both (nat_lt s (length v.sorts)) (is_sorted v (s ∷ scope) a) (rw is_sorted-All at h) in
        let here = ih (s ∷ scope) parts.1 in
        let is : reverse c.sorts ++ (s ∷ scope) ≡ reverse (s ∷ c.sorts) ++ scope = sym (ap (λ ss. ss ++ scope) (reverse_cons s c.sorts) ∙ append_assoc (reverse c.sorts) (s ∷ []) scope) in
        let one = here.few in
        let size = norm_size_of-All s a in
        record { sorted = subst (λ ss. AreSorted v ss c.lits) is here.sorted; few = omega arith };
  })
