-- Keys of terms under changes of their variables.
use Rattle.std.specs.Prelude.{ℕ, ◌≡◌, ◌+◌, ◌⊎◌, List, [], ◌∷◌, map, slice_get, Option, Some, None, Bool, true, false}
use Rattle.std.specs.Prelude.{not, ◌==◌, nat_lt, if◌then◌else◌, refl}
use Rattle.std.specs.Option.{option_map}
use Rattle.std.proofs.Common.{ap, sym, subst, ◌∙◌, inl, inr, arith}
use Rattle.std.proofs.lemmas.Bool.Decides.{nat_tests}
use Rattle.std.proofs.lemmas.Option.{slice_get-map}
use Rattle.fof_terms.proofs.Induction.{term_induction}
use Rattle.fof_terms.specs.declared.term.Term.{Term, Var, App}
use Rattle.fof_terms.specs.declared.term.Term.TheViews.{out-Term, outs-Var, outs-App}
use Rattle.fof_terms.specs.Lift.{lifted_term}
use Rattle.fof_terms.proofs.LiftFacts.{lifted_term-Var, lifted_term-App}
use Rattle.clause_form.specs.Images.{image}
use Rattle.clause_form.proofs.ImagesFacts.{image-App}
use Rattle.clause_index.specs.declared.keys.Key.{Key}
use Rattle.clause_index.specs.declared.keys.Key.TheVariants.{Head, Open}
use Rattle.clause_index.specs.Keys.{key_of_layer, argument_of_layer, subterm_at, key_of, key_at, keys_of, clash}
use Rattle.clause_index.specs.Keys.{do_clash}

argument-Var : (k n : ℕ) → argument_of_layer (out-Term (Var k)) n ≡ None
argument-Var k n = ap (λ y. argument_of_layer y n) (outs-Var k)

argument-App : (f : ℕ) (ts : List Term) (n : ℕ) → argument_of_layer (out-Term (App f ts)) n ≡ slice_get ts n
argument-App f ts n = ap (λ y. argument_of_layer y n) (outs-App f ts)

key-Var : (k : ℕ) → key_of (Some (Var k)) ≡ Open
key-Var k = ap key_of_layer (outs-Var k)

key-App : (f : ℕ) (ts : List Term) → key_of (Some (App f ts)) ≡ Head f
key-App f ts = ap key_of_layer (outs-App f ts)

-- below what isn't there is nothing
nothing_below : (place : List ℕ) → subterm_at place None ≡ None
nothing_below [] = refl
nothing_below (n ∷ place) = refl

-- the one key is open, or it is the other
abbrev pub MayBecome : Key → Key → Type 0
MayBecome k l = (k ≡ Open) ⊎ (l ≡ k)

module _ (g : Term → Term) (same_head : (f : ℕ) (ts : List Term) → g (App f ts) ≡ App f (map g ts)) where
  argument_after : (f : ℕ) (ts : List Term) (n : ℕ) → argument_of_layer (out-Term (g (App f ts))) n ≡ option_map g
      (slice_get ts n)
  argument_after f ts n = ap (λ t. argument_of_layer (out-Term t) n) (same_head f ts) ∙ argument-App f (map g ts) n
      ∙ slice_get-map g ts n

  head_after : (t : Term) → MayBecome (key_of (Some t)) (key_of (Some (g t)))
  head_after = term_induction _ (record {
    var = λ k. inl (key-Var k);
    app = λ f ts all. inr (ap (λ t. key_of (Some t)) (same_head f ts) ∙ key-App f (map g ts) ∙ sym (key-App f ts));
  })

  -- what stands at a place of the changed term is what stood there, unless that was open
  pub key_after : (place : List ℕ) (t : Term) → MayBecome (key_at place t) (key_at place (g t))
  key_after [] t = head_after t
  key_after (n ∷ place) t = term_induction (λ w. MayBecome (key_at (n ∷ place) w) (key_at (n ∷ place) (g w))) (record {
    var = λ k. inl (ap (λ o. key_of (subterm_at place o)) (argument-Var k n) ∙ ap key_of (nothing_below place));
    app = λ f ts all.
        let old : key_at (n ∷ place) (App f ts) ≡ key_of (subterm_at place (slice_get ts n)) = ap
        (λ o. key_of (subterm_at place o)) (argument-App f ts n) in
        let new : key_at (n ∷ place) (g (App f ts)) ≡ key_of (subterm_at place (option_map g (slice_get ts n))) = ap
        (λ o. key_of (subterm_at place o)) (argument_after f ts n) in
        rw (old, new) (go (key_after place) (slice_get ts n));
  }) t where
    go : ((u : Term) → MayBecome (key_at place u) (key_at place (g u))) → (o : Option Term) → MayBecome
        (key_of (subterm_at place o)) (key_of (subterm_at place (option_map g o)))
    go h None = inl (ap key_of (nothing_below place))
    go h (Some u) = h u

same_symbol : (f g : ℕ) → f ≡ g → not (f == g) ≡ false
same_symbol f g e = grind (arith, nat_tests)

-- two keys that may become one don't clash
no_clash : (k l m : Key) → MayBecome k m → MayBecome l m → clash k l ≡ false
no_clash Open l m a b = refl
no_clash (Head f) Open m a b = refl
no_clash (Head f) (Head g) m (inl e) b = cc
no_clash (Head f) (Head g) m (inr e) (inl d) = cc
no_clash (Head f) (Head g) m (inr e) (inr d) = let same : Head f ≡ Head g = sym e ∙ d in same_symbol f g cc

pub equal_no_clash : (s r : ℕ → Term) (t u : Term) → image s t ≡ image r u → do_clash (keys_of t) (keys_of u) ≡ false
equal_no_clash s r t u e =
    rw (at [], at (0 ∷ []), at (1 ∷ []), at (0 ∷ 0 ∷ []), at (0 ∷ 1 ∷ []), at (1 ∷ 0 ∷ [])) refl where
      at : (place : List ℕ) → clash (key_at place t) (key_at place u) ≡ false
      at place = no_clash (key_at place t) (key_at place u) (key_at place (image s t))
          (key_after (image s) (image-App s) place t)
          (subst (λ w. MayBecome (key_at place u) (key_at place w)) (sym e) (key_after (image r) (image-App r) place u))

-- what is moved keeps its keys
moved_open : (by from : ℕ) (k : ℕ) → key_of (Some (lifted_term by from (Var k))) ≡ Open
moved_open by from k = ap (λ t. key_of (Some t)) (lifted_term-Var by from k) ∙ go (nat_lt k from) where
  go : (b : Bool) → key_of (Some (if b then Var k else Var (k + by))) ≡ Open
  go true = key-Var k
  go false = key-Var (k + by)

moved_argument : (by from k n : ℕ) → argument_of_layer (out-Term (lifted_term by from (Var k))) n ≡ None
moved_argument by from k n = ap (λ t. argument_of_layer (out-Term t) n) (lifted_term-Var by from k) ∙ go
    (nat_lt k from) where
      go : (b : Bool) → argument_of_layer (out-Term (if b then Var k else Var (k + by))) n ≡ None
      go true = argument-Var k n
      go false = argument-Var (k + by) n

module _ (by from : ℕ) where
  moved_head : (t : Term) → key_of (Some (lifted_term by from t)) ≡ key_of (Some t)
  moved_head = term_induction _ (record {
    var = λ k. moved_open by from k ∙ sym (key-Var k);
    app = λ f ts all. ap (λ t. key_of (Some t)) (lifted_term-App by from f ts) ∙ key-App f _ ∙ sym (key-App f ts);
  })

  key_moved : (place : List ℕ) (t : Term) → key_at place (lifted_term by from t) ≡ key_at place t
  key_moved [] t = moved_head t
  key_moved (n ∷ place) t = term_induction (λ w. key_at (n ∷ place) (lifted_term by from w) ≡ key_at (n ∷ place) w)
      (record {
        var = λ k. ap (λ o. key_of (subterm_at place o)) (moved_argument by from k n ∙ sym (argument-Var k n));
        app = λ f ts all.
            ap (λ o. key_of (subterm_at place o)) (argument_after (lifted_term by from) (lifted_term-App by from) f ts n)
            ∙ go (key_moved place) (slice_get ts n)
            ∙ sym (ap (λ o. key_of (subterm_at place o)) (argument-App f ts n));
      }) t where
        go : ((u : Term) → key_at place (lifted_term by from u) ≡ key_at place u) → (o : Option Term)
            → key_of (subterm_at place (option_map (lifted_term by from) o)) ≡ key_of (subterm_at place o)
        go h None = refl
        go h (Some u) = h u

  pub keys_moved : (t : Term) → keys_of (lifted_term by from t) ≡ keys_of t
  keys_moved t = rw (
    key_moved [] t,
    key_moved (0 ∷ []) t,
    key_moved (1 ∷ []) t,
    key_moved (0 ∷ 0 ∷ []) t,
    key_moved
        (0 ∷ 1 ∷ []) t,
    key_moved (1 ∷ 0 ∷ []) t,
  ) refl
