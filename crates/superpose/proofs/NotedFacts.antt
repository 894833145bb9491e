-- Variables that are noted, and the substitutions that fix them.
use Rattle.std.specs.Prelude.{ℕ, ◌+◌, ◌<◌, ◌≤◌, ◌≡◌, Bool, true, false, List, [], ◌∷◌, ◌++◌, map, take, drop, remove, length, get_or, Option, Some, None, MatchOption, slice_get, refl}
use Rattle.std.specs.List.{Contains}
use Rattle.std.specs.Option.{is_some}
use Rattle.std.proofs.Common.{ap, sym, subst, ◌∙◌, arith, inl, inr, zero, suc, add-one}
use Rattle.std.proofs.lemmas.List.{take_more, map-append}
use Rattle.std.proofs.lemmas.Option.{get_or_from_slice_get}
use Rattle.std.proofs.lemmas.List.Elements.{Contains-push, Contains-push_cases, Contains-append_left}
use Rattle.fof_terms.specs.declared.term.Term.{Term, Var, App}
use Rattle.clause_form.specs.declared.clause.AtomOf.{AtomOf}
use Rattle.clause_form.specs.declared.clause.AtomOf.TheVariants.{Pred, Eq, True, False}
use Rattle.clause_form.specs.declared.clause.Lit.{Lit}
use Rattle.clause_form.specs.Covers.{lit_image}
use Rattle.clause_form.specs.Images.{image}
use Rattle.clause_form.proofs.ImagesFacts.{image-Var, image-App}
use Rattle.unify_terms.specs.Substitution.{image_at}
use Rattle.superpose.specs.code.Named.{IsMissing}
use Rattle.superpose.specs.code.Noted.{IsFixed, IsNoted, StaysWith, AllStayWith, InstanceStays, InstancesStay, AtomInstanceStays, LitInstancesStay}

module _ (n : ℕ) where
  -- nothing new was noted
  pub noted_same : (noted : List ℕ) (P : (ℕ → Term) → Type 0) → ((s : ℕ → Term) → IsFixed n noted s → P s) → IsNoted n noted noted P
  noted_same noted P h = record { more = λ k g. g; within = λ g. g; holds = h }

  pub noted_as : (old new : List ℕ) (P Q : (ℕ → Term) → Type 0) → ((s : ℕ → Term) → P s → Q s) → IsNoted n old new P → IsNoted n old new Q
  noted_as old new P Q f h = record { more = h.more; within = h.within; holds = λ s g. f s (h.holds s g) }

  fixed_before : (old new : List ℕ) → ((k : ℕ) → Contains old k → Contains new k) → (s : ℕ → Term) → IsFixed n new s → IsFixed n old s
  fixed_before old new more s h = record { inside = λ k g. h.inside k (more k g); outside = h.outside }

  pub noted_then : (old mid new : List ℕ) (P Q R : (ℕ → Term) → Type 0) → ((s : ℕ → Term) → P s → Q s → R s) → IsNoted n old mid P → IsNoted n mid new Q → IsNoted n old new R
  noted_then old mid new P Q R f h g = record {
    more = λ k i. g.more k (h.more k i);
    within = λ i. g.within (h.within i);
    holds = λ s i. f s (h.holds s (fixed_before mid new g.more s i)) (g.holds s i);
  }

  pub noted_past : (variable : ℕ) (noted : List ℕ) → n ≤ variable → IsNoted n noted noted (λ s. s variable ≡ Var variable)
  noted_past variable noted h = noted_same noted (λ s. s variable ≡ Var variable) (λ s g. g.outside variable h)

  pub noted_there : (variable : ℕ) (noted : List ℕ) → Contains noted variable → IsNoted n noted noted (λ s. s variable ≡ Var variable)
  noted_there variable noted h = noted_same noted (λ s. s variable ≡ Var variable) (λ s g. g.inside variable h)

  pub noted_one : (variable : ℕ) (old new : List ℕ) → variable < n → new ≡ old ++ variable ∷ [] → IsNoted n old new (λ s. s variable ≡ Var variable)
  noted_one variable old new h is = record {
    more = λ k g. subst (λ (xs : List ℕ). Contains xs k) (sym is) (Contains-append_left old (variable ∷ []) k g);
    within = λ all k g. elim (Contains-push_cases old variable k (subst (λ (xs : List ℕ). Contains xs k) is g)) [ inl a ↦ all k a | inr a ↦ subst (λ x. x < n) a h ];
    holds = λ s g. g.inside variable (subst (λ (xs : List ℕ). Contains xs variable) (sym is) (Contains-push old variable));
  }

-- a place at which the number stands
pub stands_in : (xs : List ℕ) (i x : ℕ) → slice_get xs i ≡ Some x → Contains xs x
stands_in [] i x e = cc
stands_in (y ∷ xs) zero x e = let same : y ≡ x = cc in (0, omega arith, same)
stands_in (y ∷ xs) (suc i) x e = let h = stands_in xs i x e in let lt = h.1 in (suc h.0, omega arith, h.2)

pub found_place : (xs : List ℕ) (x : ℕ) (o : Option ℕ) (b : Bool) → MatchOption o (IsMissing xs x) (λ i. slice_get xs i ≡ Some x) → b ≡ is_some o → b ≡ true → Contains xs x
found_place xs x None b h is e = let no : false ≡ true = sym is ∙ e in cc
found_place xs x (Some i) b h is e = stands_in xs i x h

-- terms under a substitution that leaves them
pub var_stays : (t : Term) (k : ℕ) (s : ℕ → Term) → t ≡ Var k → s k ≡ Var k → StaysWith t s
var_stays t k s is e = ap (image s) is ∙ image-Var s k ∙ e ∙ sym is

pub app_stays : (t : Term) (f : ℕ) (ts us : List Term) (s : ℕ → Term) → t ≡ App f ts → us ≡ ts → AllStayWith us s → StaysWith t s
app_stays t f ts us s is same e = ap (image s) is ∙ image-App s f ts ∙ ap (App f) (subst (λ xs. map (image s) xs ≡ xs) same e) ∙ sym is

pub stays_with : {X : Type 0} (g : X → X) (ys zs : List X) (y : X) → zs ≡ ys ++ y ∷ [] → map g ys ≡ ys → g y ≡ y → map g zs ≡ zs
stays_with g ys zs y is e h = ap (map g) is ∙ map-append g ys (y ∷ []) ∙ ap (λ xs. xs ++ g y ∷ []) e ∙ ap (λ x. ys ++ x ∷ []) h ∙ sym is

next_taken : {X : Type 0} (xs : List X) (i : ℕ) (x : X) → i < length xs → x ≡ get_or xs i x → take (i + 1) xs ≡ take i xs ++ x ∷ []
next_taken xs i x h is = take_more xs i x h ∙ ap (λ y. take i xs ++ y ∷ []) (sym is)

-- one term more
pub term_more : (ts : List Term) (i : ℕ) (t : Term) (s : ℕ → Term) → i < length ts → t ≡ get_or ts i t → AllStayWith (take i ts) s → StaysWith t s → AllStayWith (take (i + 1) ts) s
term_more ts i t s h is e g = stays_with (image s) (take i ts) (take (i + 1) ts) t (next_taken ts i t h is) e g

pub instance_more : (images ts : List Term) (i : ℕ) (t : Term) (s : ℕ → Term) → i < length ts → t ≡ get_or ts i t → InstancesStay images (take i ts) s → InstanceStays images t s → InstancesStay images (take (i + 1) ts) s
instance_more images ts i t s h is e g =
    let one = image (image_at images) in
    stays_with (image s) (map one (take i ts)) (map one (take (i + 1) ts)) (one t) (ap (map one) (next_taken ts i t h is) ∙ map-append one (take i ts) (t ∷ [])) e g

pub lit_more : (images : List Term) (lits : List Lit) (i : ℕ) (l : Lit) (s : ℕ → Term) → i < length lits → l ≡ get_or lits i l → LitInstancesStay images (take i lits) s → AtomInstanceStays images l.atom s
    → LitInstancesStay images (take (i + 1) lits) s
lit_more images lits i l s h is e g =
    let one = lit_image (image_at images) in
    stays_with (lit_image s) (map one (take i lits)) (map one (take (i + 1) lits)) (one l) (ap (map one) (next_taken lits i l h is) ∙ map-append one (take i lits) (l ∷ []))
    e (ap (λ (a : AtomOf). record { positive = l.positive; atom = a }) g)

-- the literals but one, and the rest
both_stay : (images : List Term) (first second : List Lit) (s : ℕ → Term) → LitInstancesStay images first s → LitInstancesStay images second s → LitInstancesStay images (first ++ second) s
both_stay images first second s e h =
    let one = lit_image (image_at images) in
    ap (map (lit_image s)) (map-append one first second) ∙ map-append (lit_image s) (map one first) (map one second) ∙ ap (λ xs. xs ++ map (lit_image s) (map one second)) e ∙ ap (λ xs. map one first ++ xs) h
    ∙ sym (map-append one first second)

pub noted_left : (n : ℕ) (old front back new : List ℕ) (images : List Term) (lits rest : List Lit) (at : ℕ) → IsNoted n old front (LitInstancesStay images (take at lits)) → IsNoted n front back (LitInstancesStay images (drop (at + 1) lits))
    → IsNoted n back new (LitInstancesStay images rest) → IsNoted n old new (LitInstancesStay images (remove lits at ++ rest))
noted_left n old front back new images lits rest at h g f =
    let kept : IsNoted n old back (LitInstancesStay images (remove lits at)) =
    noted_then n old front back (LitInstancesStay images (take at lits)) (LitInstancesStay images (drop (at + 1) lits)) (LitInstancesStay images (remove lits at))
    (λ s x y. both_stay images (take at lits) (drop (suc at) lits) s x (rw add-one at y)) h g in
    noted_then n old back new (LitInstancesStay images (remove lits at)) (LitInstancesStay images rest) (LitInstancesStay images (remove lits at ++ rest)) (λ s. both_stay images (remove lits at) rest s) kept f

-- instances
pub given_image : (images : List Term) (t : Term) (k : ℕ) (u : Term) (s : ℕ → Term) → t ≡ Var k → slice_get images k ≡ Some u → StaysWith u s → InstanceStays images t s
given_image images t k u s is at e = let same : image (image_at images) t ≡ u = ap (image (image_at images)) is ∙ image-Var (image_at images) k ∙ get_or_from_slice_get images k u (Var k) at in subst (λ x. StaysWith x s) (sym same) e

pub no_image : (images : List Term) (t : Term) (k : ℕ) (s : ℕ → Term) → t ≡ Var k → slice_get images k ≡ None → s k ≡ Var k → InstanceStays images t s
no_image images t k s is at e =
    let same : image (image_at images) t ≡ Var k = ap (image (image_at images)) is ∙ image-Var (image_at images) k ∙ past images k (Var k) at in
    subst (λ x. StaysWith x s) (sym same) (image-Var s k ∙ e) where
      past : (xs : List Term) (k : ℕ) (d : Term) → slice_get xs k ≡ None → get_or xs k d ≡ d
      past [] k d h = refl
      past (x ∷ xs) zero d h = cc
      past (x ∷ xs) (suc k) d h = past xs k d h

pub app_image : (images : List Term) (t : Term) (f : ℕ) (ts us : List Term) (s : ℕ → Term) → t ≡ App f ts → us ≡ ts → InstancesStay images us s → InstanceStays images t s
app_image images t f ts us s is same e =
    app_stays (image (image_at images) t) f (map (image (image_at images)) ts) (map (image (image_at images)) us) s (ap (image (image_at images)) is ∙ image-App (image_at images) f ts) (ap (map (image (image_at images))) same) e

pub pred_image : (images : List Term) (a : AtomOf) (p : ℕ) (ts us : List Term) (s : ℕ → Term) → a ≡ Pred p ts → us ≡ ts → InstancesStay images us s → AtomInstanceStays images a s
pred_image images a p ts us s is same e = subst (λ x. AtomInstanceStays images x s) (sym is) (ap (Pred p) (subst (λ xs. InstancesStay images xs s) same e))

pub eq_image : (images : List Term) (a : AtomOf) (l r : Term) (s : ℕ → Term) → a ≡ Eq l r → InstanceStays images l s → InstanceStays images r s → AtomInstanceStays images a s
eq_image images a l r s is e h = subst (λ x. AtomInstanceStays images x s) (sym is) (rw (e, h) refl)

pub truth_image : (images : List Term) (a : AtomOf) (s : ℕ → Term) → a ≡ True → AtomInstanceStays images a s
truth_image images a s is = subst (λ x. AtomInstanceStays images x s) (sym is) refl

pub falsehood_image : (images : List Term) (a : AtomOf) (s : ℕ → Term) → a ≡ False → AtomInstanceStays images a s
falsehood_image images a s is = subst (λ x. AtomInstanceStays images x s) (sym is) refl
