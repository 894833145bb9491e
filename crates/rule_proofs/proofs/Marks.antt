-- What the rules that rewrite a term say of marked literals.
use Rattle.std.specs.Prelude.{ℕ, ◌≡◌, ◌≢◌, ◌+◌, ◌<◌, ◌≤◌, nat_lt, if◌then◌else◌, Bool, true, false, List, [], ◌∷◌, ◌++◌, length, map, take, drop, remove, slice_get, slice_set, Option, Some, None, refl}
use Rattle.std.specs.List.{AllByRecursion}
use Rattle.std.proofs.Common.{ap, sym, subst, ◌∙◌, arith, inl, inr, zero, suc, length-append}
use Rattle.std.proofs.lemmas.Bool.{lt-ltb, le-ltb}
use Rattle.std.proofs.lemmas.List.Elements.{recursion_from_All, All-from_recursion}
use Rattle.std.proofs.lemmas.Option.{slice_get_within}
use Rattle.fof_terms.specs.declared.term.Term.{Term, Var, App}
use Rattle.fof_terms.specs.Vocabulary.{Vocabulary}
use Rattle.fof_terms.proofs.LiftingLaws.{below_or_above}
use Rattle.fof_terms.proofs.Scoped.{member_of}
use Rattle.fof_terms.specs.Sorts.{sort_of_term}
use Rattle.fof_terms.proofs.SortsFacts.{sort_of_term-Var}
use Rattle.clause_form.specs.declared.clause.AtomOf.{AtomOf}
use Rattle.clause_form.specs.declared.clause.AtomOf.TheVariants.{Pred, Eq as Equation, True, False}
use Rattle.clause_form.specs.declared.clause.Lit.{Lit}
use Rattle.clause_form.specs.Covers.{in_lit, lit_image, negated, is_sorted_atom, AreSorted}
use Rattle.clause_form.specs.Images.{image, IsImages}
use Rattle.clause_form.proofs.ImagesFacts.{image-Var, image_image, image_sorted, AgreeOn}
use Rattle.clause_form.proofs.ClauseLaws.{get_image, lits_agree, sorted_more}
use Rattle.unify_terms.specs.Substitution.{image_at}
use Rattle.clause_rules.specs.ParamodulationRule.{HasPlace, IsParamodulant}
use Rattle.clause_rules.specs.Places.{args_of, with_args, term_at, put_at, args_of_atom, atom_with_args, sides_of, lit_term_at, lit_put_at}
use Rattle.clause_rules.specs.code.PlaceSearch.{go_on, below, set_on, put_below}
use Rattle.clause_rules.specs.RewriteRule.{IsRewritten, AreRewritten, IsAtomRewritten, AreLitsRewritten, StandsIn, all_of_it, a_variable, inside, none, more}
use Rattle.clause_rules.specs.Steps.{AreCovered, equation}
use Rattle.clause_rules.proofs.Equations.{map_set}
use Rattle.clause_rules.proofs.JointImages.{sorted_further}
use Rattle.clause_rules.proofs.PlaceLaws.{args_of-App, with_args-App, term_below, put_is_below, shape_of, found_on, lit_at_walk, lit_put_walk}
use Rattle.clause_rules.proofs.PlaceSorts.{replaced_fits, term_found}
use Rattle.rule_steps.proofs.RewrittenTerms.{lits_kept, lits_same as rewritten_same}
use Rattle.clause_proofs.specs.Refuting.{AllSettled, IsSettled}
use Rattle.rule_proofs.specs.code.Rewriting.{filled, IsMarked, IsRewriting, AreInstances}
use Rattle.clause_proofs.proofs.Peeling.{imaging, lits_twice, lits_same, get_front, get_last, slice_last}

-- what stands at a place, put there again
set_again : {X : Type 0} (xs : List X) (n : ℕ) (x : X) → slice_get xs n ≡ Some x → slice_set xs n x ≡ xs
set_again [] n x e = refl
set_again (y ∷ xs) zero x e = let same : y ≡ x = cc in ap (λ z. z ∷ xs) (sym same)
set_again (y ∷ xs) (suc n) x e = ap (λ zs. y ∷ zs) (set_again xs n x e)

below_again : (steps : List ℕ) (t u : Term) → below steps t ≡ Some u → put_below steps u t ≡ t
below_again [] t u e = let same : t ≡ u = cc in sym same
below_again (n ∷ steps) t u e =
    let s = shape_of t n steps u e in
    let args : args_of t ≡ s.1 = ap args_of s.2 ∙ args_of-App s.0 s.1 in
    let at = found_on (slice_get s.1 n) steps u (sym (ap (λ (ts : List Term). go_on (below steps) (slice_get ts n)) args) ∙ e) in
    ap (λ (ts : List Term). with_args t (set_on (put_below steps u) (slice_get ts n) n ts)) args ∙ ap (λ o. with_args t (set_on (put_below steps u) o n s.1)) at.1
    ∙ ap (λ (y : Term). with_args t (slice_set s.1 n y)) (below_again steps at.0 u at.2) ∙ ap (with_args t) (set_again s.1 n at.0 at.1) ∙ ap (λ (y : Term). with_args y s.1) s.2 ∙ with_args-App s.0 s.1 s.1 ∙ sym s.2

at_again : (place : List ℕ) (ts : List Term) (u : Term) → term_at place ts ≡ Some u → put_at place u ts ≡ ts
at_again [] ts u e = refl
at_again (n ∷ steps) ts u e =
    let at = found_on (slice_get ts n) steps u (sym (term_below steps n ts) ∙ e) in
    put_is_below steps n u ts ∙ ap (λ o. set_on (put_below steps u) o n ts) at.1 ∙ ap (slice_set ts n) (below_again steps at.0 u at.2) ∙ set_again ts n at.0 at.1

own_args : (a : AtomOf) → atom_with_args a (args_of_atom a) ≡ a
own_args (Pred p ts) = refl
own_args (Equation l r) = refl
own_args True = refl
own_args False = refl

put_again : (place : List ℕ) (k : Lit) (u : Term) → lit_term_at place k ≡ Some u → lit_put_at place u k ≡ k
put_again place k u e = ap (λ (a : AtomOf). record { positive = k.positive; atom = a }) (ap (atom_with_args k.atom) (at_again place (args_of_atom k.atom) u e) ∙ own_args k.atom)

-- places in lists
in_front : {X : Type 0} (xs ys : List X) (i : ℕ) (x : X) → slice_get xs i ≡ Some x → slice_get (xs ++ ys) i ≡ Some x
in_front [] ys i x e = cc
in_front (y ∷ xs) ys zero x e = e
in_front (y ∷ xs) ys (suc i) x e = in_front xs ys i x e

abbrev Has : {X : Type 0} → List X → X → Type 0
Has xs x = (i : ℕ) × (slice_get xs i ≡ Some x)

has_behind : {X : Type 0} (xs ys : List X) (x : X) → Has ys x → Has (xs ++ ys) x
has_behind [] ys x h = h
has_behind (y ∷ xs) ys x h = let rest = has_behind xs ys x h in (suc rest.0, rest.1)

not_removed : {X : Type 0} (xs : List X) (j n : ℕ) (x : X) → slice_get xs n ≡ Some x → n ≢ j → Has (remove xs j) x
not_removed [] j n x e other = cc
not_removed (y ∷ xs) zero zero x e other = absurd (other refl)
not_removed (y ∷ xs) zero (suc n) x e other = (n, e)
not_removed (y ∷ xs) (suc j) zero x e other = (0, e)
not_removed (y ∷ xs) (suc j) (suc n) x e other = let rest = not_removed xs j n x e (λ same. other (ap (λ k. suc k) same)) in (suc rest.0, rest.1)

set_member : (lits : List Lit) (w : Vocabulary) (scope : List ℕ) (i : ℕ) (k : Lit) → is_sorted_atom w scope k.atom ≡ true → AllByRecursion (λ (l : Lit). is_sorted_atom w scope l.atom ≡ true) lits → AllByRecursion (λ (l : Lit). is_sorted_atom w scope l.atom ≡ true) (slice_set lits i k)
set_member [] w scope i k e all = tt
set_member (l ∷ lits) w scope zero k e all = (e, all.1)
set_member (l ∷ lits) w scope (suc i) k e all = (all.0, set_member lits w scope i k e all.1)

one_lit : (k l : Lit) → Some k ≡ Some l → k ≡ l
one_lit k l e = cc

one_term : (t u : Term) → Some t ≡ Some u → t ≡ u
one_term t u e = cc

-- the mark, behind the variables of these sorts, and their images
module _ (w : Vocabulary) (v : List ℕ) (images : List Term) (lits old : List Lit) (inst : AreInstances w v images lits old) where
  abbrev Each : List ℕ → Lit → Type 0
  Each scope l = is_sorted_atom w scope l.atom ≡ true

  each_sorted : AllByRecursion (Each inst.sorts) lits
  each_sorted = recursion_from_All (Each inst.sorts) lits inst.sorted.fits

  module _ (u : Term) (s : ℕ) (us : sort_of_term w inst.sorts u ≡ Some s) where
    abbrev wide : List ℕ
    wide = inst.sorts ++ s ∷ []

    each_wide : AllByRecursion (Each wide) lits
    each_wide = recursion_from_All (Each wide) lits (sorted_further w inst.sorts (s ∷ []) lits inst.sorted).fits

    mark_sort : sort_of_term w wide (Var (length images)) ≡ sort_of_term w wide u
    mark_sort = sort_of_term-Var w wide (length images) ∙ slice_last inst.sorts s (length images) inst.size ∙ sym (sorted_more w inst.sorts (s ∷ []) u s us)

    pub image_sort : sort_of_term w v (image (image_at images) u) ≡ Some s
    image_sort = image_sorted w inst.sorts v (image_at images) inst.images_sorted u s us

    pub marked_is : (marked : List Lit) (left : Term) → left ≡ image (image_at images) u → AreSorted w wide marked → IsMarked w v images marked left
    marked_is marked left is sorted = record { sorts = inst.sorts; sort = s; left_sort = ap (sort_of_term w v) is ∙ image_sort; size = inst.size; images_sorted = inst.images_sorted; sorted = sorted }

    -- at one place
    module _ (i : ℕ) (place : List ℕ) (k : Lit) (at : slice_get lits i ≡ Some k) (stands : lit_term_at place k ≡ Some u) (marked : List Lit) (is : marked ≡ slice_set lits i (lit_put_at place (Var (length images)) k)) where
      pub place_sorted : AreSorted w wide marked
      place_sorted =
          let fits : is_sorted_atom w wide k.atom ≡ true = member_of (Each wide) lits i k each_wide at in
          let new = replaced_fits w wide u (Var (length images)) mark_sort k place stands fits in
          subst (AreSorted w wide) (sym is) (record { fits = All-from_recursion (Each wide) (slice_set lits i (lit_put_at place (Var (length images)) k)) (set_member lits w wide i (lit_put_at place (Var (length images)) k) new each_wide) })

      module _ (y : Term) where
        abbrev rho : Term → Term
        rho = image (image_at (images ++ y ∷ []))

        stay : AgreeOn inst.sorts (image_at (images ++ y ∷ [])) (image_at images)
        stay = record { same = λ n r e. get_front images (y ∷ []) n (Var n) (let within = slice_get_within inst.sorts n r e in let size = inst.size in omega (arith, within, size)) }

        lits_stay : map (in_lit rho) lits ≡ old
        lits_stay = lits_agree w inst.sorts (image_at (images ++ y ∷ [])) (image_at images) stay lits inst.sorted ∙ sym inst.are

        pub place_filled : (c : Lit) → slice_get old i ≡ Some c → filled images marked y ≡ slice_set old i (lit_put_at place y c)
        place_filled c here =
            let one : in_lit rho k ≡ c = one_lit (in_lit rho k) c (sym (get_image (image_at (images ++ y ∷ [])) lits i k at) ∙ ap (λ (ls : List Lit). slice_get ls i) lits_stay ∙ here) in
            let mark : rho (Var (length images)) ≡ y = image-Var (image_at (images ++ y ∷ [])) (length images) ∙ get_last images y (Var (length images)) (length images) refl in
            ap (map (in_lit rho)) is ∙ map_set (in_lit rho) lits i (lit_put_at place (Var (length images)) k)
            ∙ ap (slice_set (map (in_lit rho) lits) i) (lit_put_walk rho (imaging (image_at (images ++ y ∷ []))) place k u (Var (length images)) stands ∙ ap (λ (t : Term). lit_put_at place t (in_lit rho k)) mark ∙ ap (lit_put_at place y) one)
            ∙ ap (λ (ls : List Lit). slice_set ls i (lit_put_at place y c)) lits_stay

  -- a paramodulant
  module _ (line from : List Lit) (i : ℕ) (place : List ℕ) (j : ℕ) (flipped : Bool) (p : IsParamodulant line old from i place j flipped) (h : HasPlace lits i place) (marked : List Lit) (is : marked ≡ slice_set lits i (lit_put_at place (Var (length images)) h.lit)) where
    found : (s : ℕ) × (sort_of_term w inst.sorts h.term ≡ Some s)
    found = term_found w inst.sorts h.lit place h.term h.stands (member_of (Each inst.sorts) lits i h.lit each_sorted h.there)

    changed_is : lit_image (image_at images) h.lit ≡ p.changed
    changed_is = one_lit (lit_image (image_at images) h.lit) p.changed (sym (get_image (image_at images) lits i h.lit h.there) ∙ ap (λ (ls : List Lit). slice_get ls i) (sym inst.are) ∙ p.in_into)

    left_is : p.left ≡ image (image_at images) h.term
    left_is = one_term p.left (image (image_at images) h.term) (sym p.stands ∙ ap (lit_term_at place) (sym changed_is) ∙ lit_at_walk (image (image_at images)) (imaging (image_at images)) place h.lit h.term h.stands)

    fills : (y : Term) → filled images marked y ≡ slice_set old i (lit_put_at place y p.changed)
    fills y = place_filled h.term found.0 found.1 i place h.lit h.there h.stands marked is y p.changed p.in_into

    pub paramodulant_rewrites : (e : Lit) → e ≡ equation flipped p.left p.right → IsRewriting w v line images marked old e flipped
    paramodulant_rewrites e same = record {
      left = p.left;
      right = p.right;
      is_equation = same;
      is_marked = marked_is h.term found.0 found.1 marked p.left left_is (place_sorted h.term found.0 found.1 i place h.lit h.there h.stands marked is);
      before = sym (fills p.left ∙ ap (slice_set old i) (put_again place p.changed p.left p.stands) ∙ set_again old i p.changed p.in_into);
      covered = subst (AreCovered line) (sym (fills p.right)) (λ n k at. p.covered n k (in_front (slice_set old i (lit_put_at place p.right p.changed)) (remove from j) n k at));
    }

  -- each occurrence of a term
  module _ (target new : Term) (rewritten marked : List Lit) (stands : StandsIn target lits) (all : AreLitsRewritten target (Var (length images)) lits marked) (made : AreLitsRewritten target new lits rewritten) (s : ℕ → Term) (extends : (k : ℕ) → k < length images → s k ≡ image_at images k) where
    pub target_found : (r : ℕ) × (sort_of_term w inst.sorts target ≡ Some r)
    target_found = term_found w inst.sorts stands.2 stands.1 target stands.4 (member_of (Each inst.sorts) lits stands.0 stands.2 each_sorted stands.3)

    pub all_sorted : AreSorted w (inst.sorts ++ target_found.0 ∷ []) marked
    all_sorted =
        let scope = inst.sorts ++ target_found.0 ∷ [] in
        record { fits = All-from_recursion (Each scope) marked (lits_kept w scope target (Var (length images)) (mark_sort target target_found.0 target_found.1) lits marked all (each_wide target target_found.0 target_found.1)) }

    -- the mark as the new term, and each variable as itself
    abbrev named : ℕ → Term
    named k = if nat_lt k (length images) then Var k else new

    named_front : (k : ℕ) → k < length images → named k ≡ Var k
    named_front k h = rw (lt-ltb k (length images) h) refl

    named_last : (k : ℕ) → length images ≤ k → named k ≡ new
    named_last k h = rw (le-ltb k (length images) h) refl

    fixed : (k r : ℕ) → slice_get inst.sorts k ≡ Some r → image named (Var k) ≡ Var k
    fixed k r e = image-Var named k ∙ named_front k (let within = slice_get_within inst.sorts k r e in let size = inst.size in omega (arith, within, size))

    is_named : rewritten ≡ map (lit_image named) marked
    is_named = rewritten_same w inst.sorts target (Var (length images)) new (image named) (imaging named) (sym (image-Var named (length images) ∙ named_last (length images) (omega arith))) fixed lits marked rewritten each_sorted all made

    agrees : AgreeOn (inst.sorts ++ target_found.0 ∷ []) (λ k. image s (named k)) (image_at (images ++ image s new ∷ []))
    agrees = record {
      same = λ k r e. elim (below_or_above k (length images)) [
        | inl b ↦ ap (image s) (named_front k b) ∙ image-Var s k ∙ extends k b ∙ sym (get_front images (image s new ∷ []) k (Var k) b)
        | inr b ↦
            let size = inst.size in
            let within = slice_get_within (inst.sorts ++ target_found.0 ∷ []) k r e in
            let whole = length-append inst.sorts (target_found.0 ∷ []) in
            let at : k ≡ length images = omega (arith, within, whole, size, b) in
            ap (image s) (named_last k b) ∙ sym (get_last images (image s new) (Var k) k at)
      ];
    }

    pub all_filled : filled images marked (image s new) ≡ map (lit_image s) rewritten
    all_filled =
        sym
        (ap (map (lit_image s)) is_named ∙ lits_twice (image s) (image named) marked ∙ lits_same (λ u. image s (image named u)) (image (λ k. image s (named k))) (image_image s named) marked
        ∙ lits_agree w (inst.sorts ++ target_found.0 ∷ []) (λ k. image s (named k)) (image_at (images ++ image s new ∷ [])) agrees marked all_sorted)

-- a term that gives way to itself
mutual
  itself : (u w t s : Term) → IsRewritten u w t s → IsRewritten u u t t
  itself u w t s all_of_it = all_of_it
  itself u w t s (a_variable k n) = a_variable k n
  itself u w t s (inside f ts us n h) = inside f ts ts n (themselves u w ts us h)

  themselves : (u w : Term) (ts us : List Term) → AreRewritten u w ts us → AreRewritten u u ts ts
  themselves u w ts us none = none
  themselves u w ts us (more t s xs ys h g) = more t t xs xs (itself u w t s h) (themselves u w xs ys g)

atom_itself : (u w : Term) (a b : AtomOf) → IsAtomRewritten u w a b → IsAtomRewritten u u a a
atom_itself u w (Pred p ts) b h = (ts, themselves u w ts h.0 h.1, refl)
atom_itself u w (Equation l r) b h = (l, r, itself u w l h.0 h.2, itself u w r h.1 h.3, refl)
atom_itself u w True b h = refl
atom_itself u w False b h = refl

pub lits_itself : (u w : Term) (lits made : List Lit) → AreLitsRewritten u w lits made → AreLitsRewritten u u lits lits
lits_itself u w [] made h = refl
lits_itself u w (k ∷ lits) made h = (k, lits, refl, refl, atom_itself u w k.atom h.0.atom h.4, lits_itself u w lits h.1 h.5)

-- the other literals of the clause that has the equation
pub from_settled : (line old from : List Lit) (i : ℕ) (place : List ℕ) (j : ℕ) (flipped : Bool) (p : IsParamodulant line old from i place j flipped) (e : Lit) → e ≡ equation flipped p.left p.right → AllSettled line (negated e) from
from_settled line old from i place j flipped p e same n k at =
    elim (below_or_above n j) [
      | inl lt ↦ elsewhere (λ is. omega arith)
      | inr ge ↦
          elim (below_or_above j n) [
            | inl lt ↦ elsewhere (λ is. omega arith)
            | inr le ↦
                let is : n ≡ j = omega arith in
                let value : k ≡ e = one_lit k e (sym at ∙ ap (slice_get from) is ∙ p.in_from ∙ ap Some (sym same)) in
                inr (inl (ap negated value))
          ]
    ] where
      elsewhere : n ≢ j → IsSettled line (negated e) k
      elsewhere other =
          let there = has_behind (slice_set old i (lit_put_at place p.right p.changed)) (remove from j) k (not_removed from j n k at other) in
          inl (p.covered there.0 k there.1)

-- the mark as code has it
pub marks_here : (images : List Term) (lits : List Lit) (i : ℕ) (place : List ℕ) (h : HasPlace lits i place) (marked lent : List Lit) (mark : ℕ) → lent ≡ marked → mark ≡ length images → ((k : Lit) → slice_get lits i ≡ Some k → marked ≡ slice_set lits i (lit_put_at place (Var mark) k))
    → lent ≡ slice_set lits i (lit_put_at place (Var (length images)) h.lit)
marks_here images lits i place h marked lent mark same size made = same ∙ made h.lit h.there ∙ ap (λ (n : ℕ). slice_set lits i (lit_put_at place (Var n) h.lit)) size
