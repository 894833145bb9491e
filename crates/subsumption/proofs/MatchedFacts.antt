-- Lemmas on terms that are matched.
use Rattle.std.proofs.Common.{ℕ, ◌≡◌, ◌+◌, ◌<◌, List, [], ◌∷◌, length, map, take, get_or, Option, Some, None, refl, sym, ap, subst, ◌∙◌, zero, suc, arith, Bool, true, false, not, IfOk, OnOk}
use Rattle.std.specs.Prelude.{slice_get, Result, Ok, Err}
use Rattle.std.proofs.lemmas.Bool.{eqb-true}
use Rattle.std.specs.List.{All as Each, AllByRecursion}
use Rattle.std.proofs.lemmas.Option.{slice_get_within, slice_get-get_or}
use Rattle.std.proofs.lemmas.List.Elements.{All-from_recursion}
use Rattle.fof_terms.specs.declared.term.Term.{Term, Var, App}
use Rattle.fof_terms.specs.declared.term.Term.TheViews.{out-Term, outs-Var, outs-App}
use Rattle.fof_terms.specs.Vocabulary.{Vocabulary}
use Rattle.fof_terms.specs.Sorts.{is_sort, are_sorts, applied, made_by, sort_of_term}
use Rattle.fof_terms.specs.declared.signature.Symbol.{Symbol}
use Rattle.fof_terms.specs.declared.signature.Kind.{Kind}
use Rattle.fof_terms.specs.declared.signature.Kind.TheVariants.{Function, Predicate}
use Rattle.fof_terms.proofs.SortsFacts.{sort_of_term-Var, sort_of_term-App}
use Rattle.fof_terms.proofs.LiftingLaws.{applied_found, both}
use Rattle.clause_form.specs.Images.{image}
use Rattle.clause_form.proofs.ImagesFacts.{image-Var, image-App}
use Rattle.subsumption.specs.declared.bindings.Bindings.{Bindings}
use Rattle.subsumption.specs.code.Bound.{IsOver, Adds}
use Rattle.subsumption.specs.code.Matched.{IsMatched, IsWithin, KeepsSort, KeepsSorts}
use Rattle.subsumption.proofs.BoundFacts.{over_itself, over_then, adds_none}
use Rattle.fof_terms.specs.declared.term.Term.TheOpen as term

pub apps : (f g : ℕ) (ts us : List Term) → App f ts ≡ App g us → (f ≡ g) × (ts ≡ us)
apps f g ts us e = let layers : term.App f ts ≡ term.App g us = sym (outs-App f ts) ∙ ap out-Term e ∙ outs-App g us in (cc, cc)

pub no_variable : (f k : ℕ) (ts : List Term) → App f ts ≡ Var k → ⊥
no_variable f k ts e = let layers : term.App f ts ≡ term.Var k = sym (outs-App f ts) ∙ ap out-Term e ∙ outs-Var k in cc

-- the same property in other words
pub matched_as : (old new : Bindings) (P Q : (ℕ → Term) → Type 0) → ((s : ℕ → Term) → P s → Q s) → ((s : ℕ → Term) → Q s → P s) → (b : Bool) → IsMatched old new P b → IsMatched old new Q b
matched_as old new P Q to from true h = record { forth = λ s g. let p = h.forth s g in (p.0, to s p.1); back = λ s g q. h.back s g (from s q) }
matched_as old new P Q to from false h = λ s g q. h s g (from s q)

-- what follows from what an answer has
pub ok_as : {X E : Type 0} {P Q : X → Type 0} (r : Result X E) → ((x : X) → P x → Q x) → IfOk r P → IfOk r Q
ok_as (Ok x) f p = f x p
ok_as (Err e) f p = p

pub on_ok : {X E : Type 0} {P Q : Type 0} (r : Result X E) → (P → Q) → OnOk r P → OnOk r Q
on_ok (Ok x) f p = f p
on_ok (Err e) f p = p

pub is_false : (b : Bool) → not b ≡ true → b ≡ false
is_false true e = cc
is_false false e = refl

pub is_true : (b : Bool) → not b ≡ false → b ≡ true
is_true true e = refl
is_true false e = cc

-- a variable
pub matched_variable : (old new : Bindings) (k : ℕ) (t u : Term) → t ≡ Var k → (b : Bool) → IsMatched old new (λ s. s k ≡ u) b → IsMatched old new (λ s. image s t ≡ u) b
matched_variable old new k t u is = matched_as old new (λ s. s k ≡ u) (λ s. image s t ≡ u) (λ s e. ap (image s) is ∙ image-Var s k ∙ e) (λ s e. sym (ap (image s) is ∙ image-Var s k) ∙ e)

pub variable_within : (n k : ℕ) (t : Term) → t ≡ Var k → IsWithin n t → k < n
variable_within n k t is h =
    let there : slice_get h.scope k ≡ Some h.sort = sym (sort_of_term-Var h.vocabulary h.scope k) ∙ ap (sort_of_term h.vocabulary h.scope) (sym is) ∙ h.sorted in
    subst (λ m. k < m) h.size (slice_get_within h.scope k h.sort there)

-- the arguments of a term
pub each_within : (v : Vocabulary) (scope : List ℕ) (n : ℕ) → length scope ≡ n → (ts : List Term) → AllByRecursion (λ t. (r : ℕ) × (sort_of_term v scope t ≡ Some r)) ts → AllByRecursion (IsWithin n) ts
each_within v scope n size [] h = tt
each_within v scope n size (t ∷ ts) h = (record { vocabulary = v; scope = scope; sort = h.0.0; size = size; sorted = h.0.1 }, each_within v scope n size ts h.1)

pub args_within : (n f : ℕ) (ts : List Term) (t : Term) → t ≡ App f ts → IsWithin n t → Each (IsWithin n) ts
args_within n f ts t is h =
    let all = applied_found (sort_of_term h.vocabulary h.scope) ts (slice_get h.vocabulary.symbols f) h.sort (sym (sort_of_term-App h.vocabulary h.scope f ts) ∙ ap (sort_of_term h.vocabulary h.scope) (sym is) ∙ h.sorted) in
    All-from_recursion (IsWithin n) ts (each_within h.vocabulary h.scope n h.size ts all)

-- terms of one symbol
image_app : (s : ℕ → Term) (f : ℕ) (ts : List Term) (t : Term) → t ≡ App f ts → image s t ≡ App f (map (image s) ts)
image_app s f ts t is = ap (image s) is ∙ image-App s f ts

pub to_args : (t u : Term) (f g : ℕ) (ts us : List Term) → t ≡ App f ts → u ≡ App g us → (s : ℕ → Term) → image s t ≡ u → (f ≡ g) × (map (image s) ts ≡ us)
to_args t u f g ts us is be s e = apps f g (map (image s) ts) us (sym (image_app s f ts t is) ∙ e ∙ be)

pub from_args : (t u : Term) (f g : ℕ) (ts us : List Term) → t ≡ App f ts → u ≡ App g us → f ≡ g → (s : ℕ → Term) → map (image s) ts ≡ us → image s t ≡ u
from_args t u f g ts us is be same s e = image_app s f ts t is ∙ ap (App f) e ∙ ap (λ h. App h us) same ∙ sym be

pub matched_args : (old new : Bindings) (t u : Term) (f g : ℕ) (ts us : List Term) → t ≡ App f ts → u ≡ App g us → f ≡ g → (b : Bool) → IsMatched old new (λ s. map (image s) ts ≡ us) b → IsMatched old new (λ s. image s t ≡ u) b
matched_args old new t u f g ts us is be same = matched_as old new (λ s. map (image s) ts ≡ us) (λ s. image s t ≡ u) (from_args t u f g ts us is be same) (λ s e. (to_args t u f g ts us is be s e).1)

pub keeps_variable : (old new : Bindings) (k : ℕ) (t u : Term) → t ≡ Var k → KeepsSort old new (Var k) u → KeepsSort old new t u
keeps_variable old new k t u is keeps = subst (λ x. KeepsSort old new x u) (sym is) keeps

-- an element that was read stands at its place
pub there_at : {X : Type 0} (xs : List X) (i : ℕ) (x : X) → i < length xs → x ≡ get_or xs i x → slice_get xs i ≡ Some x
there_at xs i x h is = slice_get-get_or xs i x h ∙ ap Some (sym is)

-- terms that are none
pub never_variable : (t u : Term) (f k : ℕ) (ts : List Term) → t ≡ App f ts → u ≡ Var k → (s : ℕ → Term) → image s t ≡ u → ⊥
never_variable t u f k ts is be s e = no_variable f k (map (image s) ts) (sym (image_app s f ts t is) ∙ e ∙ be)

made : (k : Kind) (fits : Bool) (result r : ℕ) → made_by k fits result ≡ Some r → fits ≡ true
made Function true result r e = refl
made Function false result r e = cc
made Predicate fits result r e = cc

-- the sorts of the arguments, which the symbol settles
pub fitting : (o : Option Symbol) (found : List (Option ℕ)) (r : ℕ) → applied o found ≡ Some r → (x : Symbol) × (o ≡ Some x) × (are_sorts found x.args ≡ true)
fitting None found r e = cc
fitting (Some x) found r e = (x, refl, made x.kind (are_sorts found x.args) x.result r e)

pub keeps_args : (old new : Bindings) (t u : Term) (f g : ℕ) (ts us : List Term) → t ≡ App f ts → u ≡ App g us → f ≡ g → KeepsSorts old new ts us → KeepsSort old new t u
keeps_args old new t u f g ts us is be same keeps = λ v scope target r e d table.
    let one = fitting (slice_get v.symbols f) (map (sort_of_term v scope) ts) r (sym (sort_of_term-App v scope f ts) ∙ ap (sort_of_term v scope) (sym is) ∙ e) in
    let two = fitting (slice_get v.symbols g) (map (sort_of_term v target) us) r (sym (sort_of_term-App v target g us) ∙ ap (sort_of_term v target) (sym be) ∙ d) in
    let symbols : Some one.0 ≡ Some two.0 = sym one.1 ∙ ap (slice_get v.symbols) same ∙ two.1 in
    let they : one.0 ≡ two.0 = cc in
    keeps v scope target one.0.args one.2 (subst (λ (x : Symbol). are_sorts (map (sort_of_term v target) us) x.args ≡ true) (sym they) two.2) table

-- the first so many terms were matched
pub record AreMatching (old new : Bindings) (ts us : List Term) (i : ℕ) : Type 0 where
  pub over : IsOver old new
  pub adds : Adds old new (λ s. map (image s) (take i ts) ≡ take i us)
  pub sorted : KeepsSorts old new ts us

pub none_matching : (b : Bindings) (ts us : List Term) → AreMatching b b ts us 0
none_matching b ts us = record { over = over_itself b; adds = adds_none b _ (λ s h. refl); sorted = λ v scope target sorts e d table. table }

sort_is : (o : Option ℕ) (r : ℕ) → is_sort o r ≡ true → o ≡ Some r
sort_is None r e = cc
sort_is (Some x) r e = ap Some (eqb-true x r e)

-- the sorts at one place
pub sorts_at : {X : Type 0} (f : X → Option ℕ) (xs : List X) (sorts : List ℕ) (i : ℕ) (x : X) → slice_get xs i ≡ Some x → are_sorts (map f xs) sorts ≡ true → (r : ℕ) × (slice_get sorts i ≡ Some r) × (f x ≡ Some r)
sorts_at f [] sorts i x e h = cc
sorts_at f (y ∷ xs) [] i x e h = cc
sorts_at f (y ∷ xs) (r ∷ sorts) zero x e h = let same : y ≡ x = cc in (r, refl, subst (λ z. f z ≡ Some r) same (sort_is (f y) r (both _ _ h).0))
sorts_at f (y ∷ xs) (r ∷ sorts) (suc i) x e h = sorts_at f xs sorts i x e (both _ _ h).1

keeps_one : (old mid new : Bindings) (ts us : List Term) (i : ℕ) (t u : Term) → slice_get ts i ≡ Some t → slice_get us i ≡ Some u → KeepsSorts old mid ts us → KeepsSort mid new t u → KeepsSorts old new ts us
keeps_one old mid new ts us i t u at there h g = λ v scope target sorts e d table.
    let one = sorts_at (sort_of_term v scope) ts sorts i t at e in
    let two = sorts_at (sort_of_term v target) us sorts i u there d in
    let same : Some two.0 ≡ Some one.0 = sym two.1 ∙ one.1 in
    g v scope target one.0 one.2 (two.2 ∙ same) (h v scope target sorts e d table)

-- one more term at the end
more_same : (s : ℕ → Term) (ts us : List Term) (i : ℕ) (t u : Term) → slice_get ts i ≡ Some t → slice_get us i ≡ Some u → map (image s) (take i ts) ≡ take i us → image s t ≡ u → map (image s) (take (i + 1) ts) ≡ take (i + 1) us
more_same s [] us i t u e d h g = cc
more_same s (x ∷ ts) [] i t u e d h g = cc
more_same s (x ∷ ts) (y ∷ us) zero t u e d h g =
    let one : x ≡ t = cc in
    let two : y ≡ u = cc in
    let same : image s x ≡ y = ap (image s) one ∙ g ∙ sym two in
    ap (λ z. z ∷ []) same
more_same s (x ∷ ts) (y ∷ us) (suc i) t u e d h g =
    let head : image s x ≡ y = cc in
    let tails : map (image s) (take i ts) ≡ take i us = cc in
    let rest = more_same s ts us i t u e d tails g in
    let n : suc i + 1 ≡ suc (i + 1) = omega arith in
    rw n (rw (head, rest) refl)

less_same : (s : ℕ → Term) (ts us : List Term) (i : ℕ) (t u : Term) → slice_get ts i ≡ Some t → slice_get us i ≡ Some u → map (image s) (take (i + 1) ts) ≡ take (i + 1) us → (map (image s) (take i ts) ≡ take i us) × (image s t ≡ u)
less_same s [] us i t u e d h = cc
less_same s (x ∷ ts) [] i t u e d h = cc
less_same s (x ∷ ts) (y ∷ us) zero t u e d h =
    let one : x ≡ t = cc in
    let two : y ≡ u = cc in
    let same : image s x ≡ y = cc in
    (refl, ap (image s) (sym one) ∙ same ∙ two)
less_same s (x ∷ ts) (y ∷ us) (suc i) t u e d h =
    let n : suc i + 1 ≡ suc (i + 1) = omega arith in
    let whole : map (image s) (take (suc (i + 1)) (x ∷ ts)) ≡ take (suc (i + 1)) (y ∷ us) = subst (λ m. map (image s) (take m (x ∷ ts)) ≡ take m (y ∷ us)) n h in
    let head : image s x ≡ y = cc in
    let tails : map (image s) (take (i + 1) ts) ≡ take (i + 1) us = cc in
    let rest = less_same s ts us i t u e d tails in
    (rw (head, rest.0) refl, rest.1)

-- an element that two equal lists have at one place
pub all_at : (s : ℕ → Term) (ts us : List Term) (i : ℕ) (t u : Term) → slice_get ts i ≡ Some t → slice_get us i ≡ Some u → map (image s) ts ≡ us → (map (image s) (take i ts) ≡ take i us) × (image s t ≡ u)
all_at s [] us i t u e d h = cc
all_at s (x ∷ ts) [] i t u e d h = cc
all_at s (x ∷ ts) (y ∷ us) zero t u e d h =
    let one : x ≡ t = cc in
    let two : y ≡ u = cc in
    let same : image s x ≡ y = cc in
    (refl, ap (image s) (sym one) ∙ same ∙ two)
all_at s (x ∷ ts) (y ∷ us) (suc i) t u e d h =
    let head : image s x ≡ y = cc in
    let tails : map (image s) ts ≡ us = cc in
    let rest = all_at s ts us i t u e d tails in
    (rw (head, rest.0) refl, rest.1)

module _ (old mid new : Bindings) (ts us : List Term) (i : ℕ) (t u : Term) (at : slice_get ts i ≡ Some t) (there : slice_get us i ≡ Some u) (h : AreMatching old mid ts us i) where
  pub one_more_matches : IsOver mid new → IsMatched mid new (λ s. image s t ≡ u) true → KeepsSort mid new t u → AreMatching old new ts us (i + 1)
  one_more_matches over adds keeps = record {
    over = over_then old mid new h.over over;
    adds = record {
      forth = λ s g.
          let last = adds.forth s g in
          let first = h.adds.forth s last.0 in
          (first.0, more_same s ts us i t u at there first.1 last.1);
      back = λ s g e.
          let parts = less_same s ts us i t u at there e in
          adds.back s (h.adds.back s g parts.0) parts.1;
    };
    sorted = keeps_one old mid new ts us i t u at there h.sorted keeps;
  }

  pub one_never_matches : IsMatched mid new (λ s. image s t ≡ u) false → IsMatched old new (λ s. map (image s) ts ≡ us) false
  one_never_matches never = λ s g e.
      let parts = all_at s ts us i t u at there e in
      never s (h.adds.back s g parts.0) parts.1

  pub more_match : (b : Bool) → b ≡ true → IsOver mid new → IsMatched mid new (λ s. image s t ≡ u) b → KeepsSort mid new t u → AreMatching old new ts us (i + 1)
  more_match b is over adds keeps = one_more_matches over (subst (IsMatched mid new (λ s. image s t ≡ u)) is adds) keeps

  pub never_match : (b : Bool) → b ≡ false → IsMatched mid new (λ s. image s t ≡ u) b → IsMatched old new (λ s. map (image s) ts ≡ us) false
  never_match b is never = one_never_matches (subst (IsMatched mid new (λ s. image s t ≡ u)) is never)

  pub over_with_one : IsOver mid new → IsOver old new
  over_with_one over = over_then old mid new h.over over

  pub keeps_with_one : KeepsSort mid new t u → KeepsSorts old new ts us
  keeps_with_one keeps = keeps_one old mid new ts us i t u at there h.sorted keeps

-- what follows from all that an answer has
pub ok_all : {X E : Type 0} {A B : Type 0} {P Q : X → Type 0} (r : Result X E) → OnOk r A → OnOk r B → IfOk r P → (A → B → (x : X) → P x → Q x) → IfOk r Q
ok_all (Ok x) a b p f = f a b x p
ok_all (Err e) a b p f = p
