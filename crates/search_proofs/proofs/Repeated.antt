-- A step by a rule stays one where literals that stand twice are left out.
use Rattle.std.specs.Prelude.{ℕ, ◌≡◌, ◌≢◌, ◌⊎◌, Bool, List, [], ◌∷◌, ◌++◌, length, map, remove, Some, slice_get, slice_set, refl}
use Rattle.std.proofs.Common.{ap, sym, subst, ◌∙◌, arith, zero, suc, inl, inr}
use Rattle.std.proofs.lemmas.Bool.{cases_eq}
use Rattle.fof_terms.specs.declared.term.Term.{Term}
use Rattle.fof_terms.specs.declared.form.Form.{Form}
use Rattle.fof_terms.specs.Vocabulary.{Vocabulary}
use Rattle.clause_form.specs.declared.clause.Lit.{Lit}
use Rattle.clause_form.specs.declared.clause.Clause.{Clause}
use Rattle.clause_form.specs.declared.path.Parent.{Parent}
use Rattle.clause_form.specs.ClauseView.{clause_of}
use Rattle.clause_form.specs.Covers.{lit_apart, lit_image, scope_of, Covers, CoversBy, IsCovered}
use Rattle.clause_rules.proofs.ListPlaces.{get_lifted}
use Rattle.clause_rules.specs.EqFactorRule.{Factors, IsFactored}
use Rattle.clause_rules.specs.ParamodulationRule.{IsParamodulant, Paramodulates}
use Rattle.clause_rules.specs.Places.{lit_put_at}
use Rattle.clause_rules.specs.ResolutionRule.{IsResolvent, ResolvesTo}
use Rattle.clause_rules.specs.Steps.{apart_from, equation, instances, unequal, AreCovered, IsClauseAt}
use Rattle.inference_proofs.specs.Inferred.{IsRuleStep}
use Rattle.inference_proofs.proofs.Kept.{Has, has_before, has_behind, has_split, has_image, image_from, kept_other, changed_or}
use Rattle.search_proofs.specs.code.Repeats.{AreOnce}

-- The second list has the literal at place i of the first one, and what it has at other places, the first one has at
-- places other than i.
pub record IsStandIn (lits made : List Lit) (i : ℕ) (l : Lit) : Type 0 where
  pub place : ℕ
  pub there : slice_get made place ≡ Some l
  pub others : (n : ℕ) (k : Lit) → slice_get made n ≡ Some k → n ≢ place → (m : ℕ) × (slice_get lits m ≡ Some k) × (m ≢ i)

pub record Keeps (lits made : List Lit) : Type 0 where
  pub each : (i : ℕ) (l : Lit) → slice_get lits i ≡ Some l → IsStandIn lits made i l
  pub none : (l : Lit) → Has made l → Has lits l

pub once_keeps : (lits made : List Lit) → AreOnce lits made → Keeps lits made
once_keeps lits made o = record {
  each = λ i l at.
      let h = o.all l (i, at) in
      record {
        place = h.0;
        there = h.1;
        others = λ n k f other.
            let g = o.none k (n, f) in (
              g.0,
              g.1,
              λ same.
                  let both : Some k ≡ Some l = sym g.1 ∙ (ap (slice_get lits) same ∙ at) in
                  let is : k ≡ l = cc in
                  other (o.once n h.0 l (f ∙ ap Some is) h.1),
            );
      };
  none = o.none;
}

pub same_keeps : (lits : List Lit) → Keeps lits lits
same_keeps lits = record {
  each = λ i l at. record { place = i; there = at; others = λ n k f other. (n, f, other) };
  none = λ l h. h;
}

all_kept : (lits made : List Lit) → Keeps lits made → (l : Lit) → Has lits l → Has made l
all_kept lits made k l h = let s = k.each h.0 l h.1 in (s.place, s.there)

-- images of literals
module _ (f : Lit → Lit) (lits made : List Lit) where
  image_stands : (i : ℕ) (l : Lit) → IsStandIn lits made i l → IsStandIn (map f lits) (map f made) i (f l)
  image_stands i l s = record {
    place = s.place;
    there = get_lifted f made s.place l s.there;
    others = λ n k e other.
        let from = image_from f made k n e in
        let m = s.others n from.0 from.1 other in
        (m.0, get_lifted f lits m.0 from.0 m.1 ∙ ap Some from.2, m.2);
  }

  image_keeps : Keeps lits made → Keeps (map f lits) (map f made)
  image_keeps k = record {
    each = λ i y at.
        let from = image_from f lits y i at in
        subst (IsStandIn (map f lits) (map f made) i) from.2 (image_stands i from.0 (k.each i from.0 from.1));
    none = λ y h.
        let from = image_from f made y h.0 h.1 in
        subst (Has (map f lits)) from.2 (has_image f lits from.0 (k.none from.0 (h.0, from.1)));
  }

-- places in lists
removed_other : {X : Type 0} (xs : List X) (i n : ℕ) (x : X) → slice_get (remove xs i) n ≡ Some x → (m : ℕ) × (slice_get xs m ≡ Some x) × (m ≢ i)
removed_other [] zero n x e = cc
removed_other [] (suc i) n x e = cc
removed_other (z ∷ xs) zero n x e = (suc n, e, λ same. absurd (omega arith))
removed_other (z ∷ xs) (suc i) zero x e = (0, e, λ same. absurd (omega arith))
removed_other (z ∷ xs) (suc i) (suc n) x e =
    let rest = removed_other xs i n x e in
    (suc rest.0, rest.1, λ same. rest.2 (let less : rest.0 ≡ i = omega arith in less))

set_here : {X : Type 0} (xs : List X) (i : ℕ) (x y : X) → slice_get xs i ≡ Some y → slice_get (slice_set xs i x) i ≡ Some x
set_here [] i x y e = cc
set_here (z ∷ xs) zero x y e = refl
set_here (z ∷ xs) (suc i) x y e = set_here xs i x y e

set_other : {X : Type 0} (xs : List X) (i m : ℕ) (x y : X) → slice_get xs m ≡ Some y → m ≢ i → slice_get (slice_set xs i x) m ≡ Some y
set_other [] i m x y e other = cc
set_other (z ∷ xs) zero zero x y e other = absurd (other refl)
set_other (z ∷ xs) zero (suc m) x y e other = e
set_other (z ∷ xs) (suc i) zero x y e other = e
set_other (z ∷ xs) (suc i) (suc m) x y e other = set_other xs i m x y e (λ same. other (ap (λ k. suc k) same))

-- what stands at other places
module _ (lits made : List Lit) (i : ℕ) (l : Lit) (s : IsStandIn lits made i l) where
  removed_kept : (k : Lit) → Has (remove made s.place) k → Has (remove lits i) k
  removed_kept k h =
      let m = removed_other made s.place h.0 k h.1 in
      let o = s.others m.0 k m.1 m.2 in
      kept_other lits i o.0 k (λ same. o.2 (sym same)) o.1

  changed_kept : slice_get lits i ≡ Some l → (x k : Lit) → Has (slice_set made s.place x) k → Has (slice_set lits i x) k
  changed_kept at x k h = elim (changed_or made s.place x h.0 k h.1) [
    | inl same ↦ (i, set_here lits i x l at ∙ ap Some (sym same))
    | inr g ↦
        let m = removed_other made s.place g.0 k g.1 in
        let o = s.others m.0 k m.1 m.2 in
        (o.0, set_other lits i o.0 x k o.1 o.2)
  ]

-- literals that a line covers
module _ (line made : List Lit) (all : (l : Lit) → Has line l → Has made l) where
  covered_in : (k : Lit) → IsCovered line k → IsCovered made k
  covered_in k (inl (i, l, at, same)) = let h = all l (i, at) in inl (h.0, l, h.1, same)
  covered_in k (inr a) = inr a

  all_with : (p l : Lit) → Has (line ++ p ∷ []) l → Has (made ++ p ∷ []) l
  all_with p l h = elim (has_split line (p ∷ []) l h.0 h.1) [
    | inl g ↦ has_before made (p ∷ []) l (all l g)
    | inr g ↦ has_behind made (p ∷ []) l g
  ]

covered_less : (line made lits fewer : List Lit) → ((l : Lit) → Has line l → Has made l) → ((l : Lit) → Has fewer l → Has lits l) → AreCovered line lits → AreCovered made fewer
covered_less line made lits fewer all none c n k at = let h = none k (n, at) in covered_in line made all k (c h.0 k h.1)

-- what each rule asks of instances
module _ (line made : List Lit) (all : (l : Lit) → Has line l → Has made l) (left fewer right others : List Lit) (kl : Keeps left fewer) (kr : Keeps right others) where
  resolvent_kept : (i j : ℕ) → IsResolvent line left right i j → (x y : ℕ) × IsResolvent made fewer others x y
  resolvent_kept i j r =
      let a = kl.each i r.pivot r.in_left in
      let b = kr.each j r.opposite r.in_right in (
        a.place,
        b.place,
        record {
          pivot = r.pivot;
          opposite = r.opposite;
          in_left = a.there;
          in_right = b.there;
          complementary = r.complementary;
          left_covered = covered_less (line ++ r.pivot ∷ []) (made ++ r.pivot ∷ []) left fewer (all_with line made all r.pivot) kl.none r.left_covered;
          right_covered = covered_less (line ++ r.opposite ∷ []) (made ++ r.opposite ∷ []) right others (all_with line made all r.opposite) kr.none r.right_covered;
        },
      )

  paramodulant_kept : (i : ℕ) (place : List ℕ) (j : ℕ) (flipped : Bool) (p : IsParamodulant line left right i place j flipped) (c : Lit) → c ≡ p.changed → (a : IsStandIn left fewer i c) (b : IsStandIn right others j (equation flipped p.left p.right))
      → IsParamodulant made fewer others a.place place b.place flipped
  paramodulant_kept i place j flipped p c is a b = record {
    changed = p.changed;
    left = p.left;
    right = p.right;
    in_into = a.there ∙ ap Some is;
    in_from = b.there;
    stands = p.stands;
    covered = λ n k at.
        let new = lit_put_at place p.right p.changed in
        let before : Has (slice_set left i new ++ remove right j) k =
        elim (has_split (slice_set fewer a.place new) (remove others b.place) k n at) [
          | inl h ↦ has_before (slice_set left i new) (remove right j) k (changed_kept left fewer i c a (p.in_into ∙ ap Some (sym is)) new k h)
          | inr h ↦ has_behind (slice_set left i new) (remove right j) k (removed_kept right others j (equation flipped p.left p.right) b k h)
        ] in
        covered_in line made all k (p.covered before.0 k before.1);
  }

  factored_kept : (i : ℕ) (first_flipped : Bool) (j : ℕ) (second_flipped : Bool) → IsFactored line left i first_flipped j second_flipped → ((x y : ℕ) × IsFactored made fewer x first_flipped y second_flipped) ⊎ AreCovered made fewer
  factored_kept i first_flipped j second_flipped f =
      let one = equation first_flipped f.side f.first in
      let two = equation second_flipped f.side f.second in
      let new = unequal f.first f.second in
      let a = kl.each i one f.first_there in
      let b = kl.each j two f.second_there in
      elim (cases_eq a.place b.place) [
        | inl e ↦ inr (λ n l at.
            let h = kl.none l (n, at) in
            let both : Some one ≡ Some two = sym a.there ∙ (ap (slice_get fewer) e ∙ b.there) in
            let second : IsCovered line two = f.covered j two (set_other left i j new two f.second_there (λ s. f.apart (sym s))) in
            elim (cases_eq h.0 i) [
              | inl same ↦
                  let first : Some l ≡ Some one = sym h.1 ∙ (ap (slice_get left) same ∙ f.first_there) in
                  let is : two ≡ l = cc in
                  covered_in line made all l (subst (IsCovered line) is second)
              | inr other ↦ covered_in line made all l (f.covered h.0 l (set_other left i h.0 new l h.1 other))
            ])
        | inr apart ↦ inl (
          a.place,
          b.place,
          record {
            side = f.side;
            first = f.first;
            second = f.second;
            apart = apart;
            first_there = a.there;
            second_there = b.there;
            covered = λ n l at.
                let h = changed_kept left fewer i one a f.first_there new l (n, at) in
                covered_in line made all l (f.covered h.0 l h.1);
          },
        )
      ]

-- the clause with these literals
abbrev pub with_lits : Clause → List Lit → Clause
with_lits c lits = record { sorts = c.sorts; lits = lits }

-- what each rule asks of clauses
module _ (v : Vocabulary) (e : Clause) (le : List Lit) (ke : Keeps e.lits le) where
  abbrev stay : (l : Lit) → Has e.lits l → Has le l
  stay = all_kept e.lits le ke

  resolves_kept : (c d : Clause) (lc ld : List Lit) → Keeps c.lits lc → Keeps d.lits ld → (i j : ℕ) (more : List ℕ) (s : ℕ → Term) → ResolvesTo v c d e i j more s
      → (x y : ℕ) × ResolvesTo v (with_lits c lc) (with_lits d ld) (with_lits e le) x y more s
  resolves_kept c d lc ld kc kd i j more s r =
      let left = image_keeps (lit_image s) c.lits lc kc in
      let right = image_keeps (lit_image s) (apart_from c d.lits) (apart_from c ld) (image_keeps (lit_apart (length c.sorts)) d.lits ld kd) in
      let kept = resolvent_kept e.lits le stay (instances s c.lits) (instances s lc) (instances s (apart_from c d.lits)) (instances s (apart_from c ld)) left right i j r.resolvent in
      (kept.0, kept.1, record { images = r.images; resolvent = kept.2 })

  paramodulates_kept : (c d : Clause) (lc ld : List Lit) → Keeps c.lits lc → Keeps d.lits ld → (i : ℕ) (place : List ℕ) (j : ℕ) (flipped : Bool) (more : List ℕ) (s : ℕ → Term) → Paramodulates v c d e i place j flipped more s
      → (x y : ℕ) × Paramodulates v (with_lits c lc) (with_lits d ld) (with_lits e le) x place y flipped more s
  unfolding image_stands
  paramodulates_kept c d lc ld kc kd i place j flipped more s r =
      let h = r.place_of in
      let p = r.paramodulant in
      let own = kc.each i h.lit h.there in
      let into = image_stands (lit_image s) c.lits lc i h.lit own in
      let left = image_keeps (lit_image s) c.lits lc kc in
      let right = image_keeps (lit_image s) (apart_from c d.lits) (apart_from c ld) (image_keeps (lit_apart (length c.sorts)) d.lits ld kd) in
      let from = right.each j (equation flipped p.left p.right) p.in_from in
      let both : Some (lit_image s h.lit) ≡ Some p.changed = sym (get_lifted (lit_image s) c.lits i h.lit h.there) ∙ p.in_into in
      let is : lit_image s h.lit ≡ p.changed = cc in (
        own.place,
        from.place,
        record {
          images = r.images;
          place_of = record { lit = h.lit; term = h.term; there = own.there; stands = h.stands };
          paramodulant =
              paramodulant_kept e.lits le stay (instances s c.lits) (instances s lc) (instances s (apart_from c d.lits)) (instances s (apart_from c ld)) left right i place j flipped p (lit_image s h.lit) is into from;
        },
      )

  factors_kept : (c : Clause) (lc : List Lit) → Keeps c.lits lc → (i : ℕ) (first_flipped : Bool) (j : ℕ) (second_flipped : Bool) (more : List ℕ) (s : ℕ → Term) → Factors v c e i first_flipped j second_flipped more s
      → ((x y : ℕ) × Factors v (with_lits c lc) (with_lits e le) x first_flipped y second_flipped more s) ⊎ CoversBy v (scope_of c) lc (with_lits e le) more s
  factors_kept c lc kc i first_flipped j second_flipped more s r =
      let own = image_keeps (lit_image s) c.lits lc kc in
      elim (factored_kept e.lits le stay (instances s c.lits) (instances s lc) (instances s c.lits) (instances s lc) own own i first_flipped j second_flipped r.factored) [
        | inl h ↦ inl (h.0, h.1, record { images = r.images; factored = h.2 })
        | inr h ↦ inr (record { images = r.images; covered = λ n k at. h n (lit_image s k) (get_lifted (lit_image s) lc n k at) })
      ]

  covers_kept : (c : Clause) (lc : List Lit) → Keeps c.lits lc → Covers v c e → Covers v (with_lits c lc) (with_lits e le)
  covers_kept c lc kc (more, s, r) = (
    more,
    s,
    record {
      images = r.images;
      covered = λ n k at. let h = kc.none k (n, at) in covered_in e.lits le stay (lit_image s k) (r.covered h.0 k h.1);
    },
  )

-- what each rule asks of two parents and a line
module _ (v : Vocabulary) (p q p_too q_too : Parent) (line line_too : Form) (c d e : Clause) (lc ld le : List Lit) (kc : Keeps c.lits lc) (kd : Keeps d.lits ld) (ke : Keeps e.lits le)
    (pc : clause_of p.form ≡ Some c) (qd : clause_of q.form ≡ Some d) (is : clause_of line ≡ Some e)
    (pc_too : clause_of p_too.form ≡ Some (with_lits c lc)) (qd_too : clause_of q_too.form ≡ Some (with_lits d ld)) (is_too : clause_of line_too ≡ Some (with_lits e le)) where
  at_parent : (a : ℕ) (x : Clause) → IsClauseAt (p ∷ q ∷ []) a x → (lx : List Lit) × Keeps x.lits lx × IsClauseAt (p_too ∷ q_too ∷ []) a (with_lits x lx)
  at_parent zero x at =
      let both : Some (clause_of p.form) ≡ Some (Some x) = at in
      let same : c ≡ x = cc in
      subst (λ (y : Clause). (lx : List Lit) × Keeps y.lits lx × IsClauseAt (p_too ∷ q_too ∷ []) 0 (with_lits y lx)) same (lc, kc, ap Some pc_too)
  at_parent (suc zero) x at =
      let both : Some (clause_of q.form) ≡ Some (Some x) = at in
      let same : d ≡ x = cc in
      subst (λ (y : Clause). (lx : List Lit) × Keeps y.lits lx × IsClauseAt (p_too ∷ q_too ∷ []) 1 (with_lits y lx)) same (ld, kd, ap Some qd_too)
  at_parent (suc (suc a)) x at = cc

  one_line : (x : Clause) → clause_of line ≡ Some x → x ≡ e
  one_line x at = let both : Some x ≡ Some e = sym at ∙ is in cc

  pub step_kept : IsRuleStep v (p ∷ q ∷ []) line → IsRuleStep v (p_too ∷ q_too ∷ []) line_too
  step_kept (inl (a, b, i, j, left, right, x, more, s, at)) =
      let l = at_parent a left at.left_clause in
      let r = at_parent b right at.right_clause in
      let own = subst (λ (y : Clause). ResolvesTo v left right y i j more s) (one_line x at.line_clause) at.resolves in
      let kept = resolves_kept v e le ke left right l.0 r.0 l.1 r.1 i j more s own in
      inl (a, b, kept.0, kept.1, with_lits left l.0, with_lits right r.0, with_lits e le, more, s, record { line_clause = is_too; left_clause = l.2; right_clause = r.2; resolves = kept.2 })
  step_kept (inr (inl (a, b, i, place, j, flipped, into, from, x, more, s, at))) =
      let l = at_parent a into at.into_clause in
      let r = at_parent b from at.from_clause in
      let own = subst (λ (y : Clause). Paramodulates v into from y i place j flipped more s) (one_line x at.line_clause) at.paramodulates in
      let kept = paramodulates_kept v e le ke into from l.0 r.0 l.1 r.1 i place j flipped more s own in
      inr (inl (a, b, kept.0, place, kept.1, flipped, with_lits into l.0, with_lits from r.0, with_lits e le, more, s, record { line_clause = is_too; into_clause = l.2; from_clause = r.2; paramodulates = kept.2 }))
  step_kept (inr (inr (inl (a, i, first_flipped, j, second_flipped, x, y, more, s, at)))) =
      let l = at_parent a x at.parent_clause in
      let own = subst (λ (z : Clause). Factors v x z i first_flipped j second_flipped more s) (one_line y at.line_clause) at.factors in
      elim (factors_kept v e le ke x l.0 l.1 i first_flipped j second_flipped more s own) [
        | inl h ↦ inr (inr (inl (a, h.0, first_flipped, h.1, second_flipped, with_lits x l.0, with_lits e le, more, s, record { line_clause = is_too; parent_clause = l.2; factors = h.2 })))
        | inr h ↦ inr (inr (inr (record { a = a; clause = with_lits x l.0; line_lits = with_lits e le; parent_clause = l.2; line_clause = is_too; covers = (more, s, h) })))
      ]
  step_kept (inr (inr (inr h))) =
      let l = at_parent h.a h.clause h.parent_clause in
      let own = subst (λ (z : Clause). Covers v h.clause z) (one_line h.line_lits h.line_clause) h.covers in
      inr (inr (inr (record { a = h.a; clause = with_lits h.clause l.0; line_lits = with_lits e le; parent_clause = l.2; line_clause = is_too; covers = covers_kept v e le ke h.clause l.0 l.1 own })))
