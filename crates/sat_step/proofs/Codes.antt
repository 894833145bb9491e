-- Atoms of one code are the same.
use Rattle.std.proofs.Common.{◌≡◌, ℕ, List, [], ◌∷◌, ◌++◌, length, map, flat_map, refl, sym, ap, ◌∙◌, arith, append_assoc, append-nil}
use Rattle.std.specs.List.{AllByRecursion}
use Rattle.std.proofs.lemmas.List.{length-map}
use Rattle.fof_terms.specs.declared.term.Term.{Term, Var, App}
use Rattle.fof_terms.proofs.Trees.{fold-Var, fold-App}
use Rattle.fof_terms.proofs.Induction.{term_induction}
use Rattle.clause_form.specs.declared.clause.AtomOf.{AtomOf}
use Rattle.clause_form.specs.declared.clause.AtomOf.TheVariants.{Pred, Eq, True, False}
use Rattle.sat_step.specs.Codes.{joined, term_code_step, term_code, code_of}

-- lists that are the same begin with the same
head_same : (m n : ℕ) (xs ys : List ℕ) → m ∷ xs ≡ n ∷ ys → m ≡ n
head_same m n xs ys e = ap head e
  where
    head : List ℕ → ℕ
    head [] = 0
    head (x ∷ rest) = x

joined_codes : (f : Term → List ℕ) (ts : List Term) → joined (map f ts) ≡ flat_map f ts
joined_codes f [] = refl
joined_codes f (t ∷ ts) = ap (λ (cs : List ℕ). f t ++ cs) (joined_codes f ts)

pub code-Var : (k : ℕ) → term_code (Var k) ≡ 0 ∷ k ∷ []
unfolding term_code
code-Var k = fold-Var (List ℕ) term_code_step k

pub code-App : (f : ℕ) (ts : List Term) → term_code (App f ts) ≡ 1 ∷ f ∷ length ts ∷ flat_map term_code ts
unfolding term_code
code-App f ts =
    fold-App (List ℕ) term_code_step f ts ∙ ap (λ (n : ℕ). 1 ∷ f ∷ n ∷ joined (map term_code ts)) (length-map ts term_code)
    ∙ ap (λ (cs : List ℕ). 1 ∷ f ∷ length ts ∷ cs) (joined_codes term_code ts)

-- the code tells the term, and what stands behind it
abbrev Tells : Term → Type 0
Tells t = (u : Term) (r s : List ℕ) → term_code t ++ r ≡ term_code u ++ s → (t ≡ u) × (r ≡ s)

tells_all : (ts : List Term) → AllByRecursion Tells ts → (us : List Term) (r s : List ℕ) → length ts ≡ length us → flat_map term_code ts ++ r ≡ flat_map term_code us ++ s → (ts ≡ us) × (r ≡ s)
tells_all [] h [] r s n e = (refl, e)
tells_all [] h (u ∷ us) r s n e = absurd (omega (arith, n))
tells_all (t ∷ ts) h [] r s n e = absurd (omega (arith, n))
tells_all (t ∷ ts) h (u ∷ us) r s n e =
    let turned : term_code t ++ (flat_map term_code ts ++ r) ≡ term_code u ++ (flat_map term_code us ++ s)
    = sym (append_assoc (term_code t) (flat_map term_code ts) r) ∙ e ∙ append_assoc (term_code u) (flat_map term_code us) s in
    let first = h.0 u (flat_map term_code ts ++ r) (flat_map term_code us ++ s) turned in
    let many : length ts ≡ length us = omega (arith, n) in
    let rest = tells_all ts h.1 us r s many first.1 in
    (ap (λ (v : Term). v ∷ ts) first.0 ∙ ap (λ (vs : List Term). u ∷ vs) rest.0, rest.1)

var_tells : (k : ℕ) → Tells (Var k)
var_tells k u r s = term_induction (λ (u : Term). term_code (Var k) ++ r ≡ term_code u ++ s → (Var k ≡ u) × (r ≡ s)) (record {
  var = λ j e.
      let both : 0 ∷ k ∷ r ≡ 0 ∷ j ∷ s = ap (λ (c : List ℕ). c ++ r) (sym (code-Var k)) ∙ e ∙ ap (λ (c : List ℕ). c ++ s) (code-Var j) in
      let same : k ≡ j = cc in
      let rest : r ≡ s = cc in
      (ap (λ (i : ℕ). Var i) same, rest);
  app = λ f ts _ e.
      let both : 0 ∷ k ∷ r ≡ 1 ∷ f ∷ length ts ∷ (flat_map term_code ts ++ s) = ap (λ (c : List ℕ). c ++ r) (sym (code-Var k)) ∙ e ∙ ap (λ (c : List ℕ). c ++ s) (code-App f ts) in
      absurd (omega (arith, head_same 0 1 _ _ both));
}) u

app_tells : (f : ℕ) (ts : List Term) → AllByRecursion Tells ts → Tells (App f ts)
app_tells f ts h u r s = term_induction (λ (u : Term). term_code (App f ts) ++ r ≡ term_code u ++ s → (App f ts ≡ u) × (r ≡ s)) (record {
  var = λ j e.
      let both : 1 ∷ f ∷ length ts ∷ (flat_map term_code ts ++ r) ≡ 0 ∷ j ∷ s = ap (λ (c : List ℕ). c ++ r) (sym (code-App f ts)) ∙ e ∙ ap (λ (c : List ℕ). c ++ s) (code-Var j) in
      absurd (omega (arith, head_same 1 0 _ _ both));
  app = λ g us _ e.
      let both : 1 ∷ f ∷ length ts ∷ (flat_map term_code ts ++ r) ≡ 1 ∷ g ∷ length us ∷ (flat_map term_code us ++ s)
      = ap (λ (c : List ℕ). c ++ r) (sym (code-App f ts)) ∙ e ∙ ap (λ (c : List ℕ). c ++ s) (code-App g us) in
      let symbol : f ≡ g = cc in
      let many : length ts ≡ length us = cc in
      let codes : flat_map term_code ts ++ r ≡ flat_map term_code us ++ s = cc in
      let rest = tells_all ts h us r s many codes in
      (ap (λ (i : ℕ). App i ts) symbol ∙ ap (λ (vs : List Term). App g vs) rest.0, rest.1);
}) u

pub term_tells : (t : Term) → Tells t
term_tells t = term_induction Tells (record { var = var_tells; app = app_tells }) t

all_tell : (ts : List Term) → AllByRecursion Tells ts
all_tell [] = tt
all_tell (t ∷ ts) = (term_tells t, all_tell ts)

terms_same : (ts us : List Term) → length ts ≡ length us → flat_map term_code ts ≡ flat_map term_code us → ts ≡ us
terms_same ts us n e = (tells_all ts (all_tell ts) us [] [] n (append-nil (flat_map term_code ts) ∙ e ∙ sym (append-nil (flat_map term_code us)))).0

eq_same : (s t u v : Term) → term_code s ++ term_code t ≡ term_code u ++ term_code v → Eq s t ≡ Eq u v
eq_same s t u v e =
    let first = term_tells s u (term_code t) (term_code v) e in
    let second = term_tells t v [] [] (append-nil (term_code t) ∙ first.1 ∙ sym (append-nil (term_code v))) in
    ap (λ (w : Term). Eq w t) first.0 ∙ ap (λ (w : Term). Eq u w) second.0

pub atom_same : (a b : AtomOf) → code_of a ≡ code_of b → a ≡ b
atom_same (Pred p ts) (Pred q us) e =
    let both : 0 ∷ p ∷ length ts ∷ flat_map term_code ts ≡ 0 ∷ q ∷ length us ∷ flat_map term_code us = e in
    let symbol : p ≡ q = cc in
    let many : length ts ≡ length us = cc in
    let codes : flat_map term_code ts ≡ flat_map term_code us = cc in
    ap (λ (i : ℕ). Pred i ts) symbol ∙ ap (λ (vs : List Term). Pred q vs) (terms_same ts us many codes)
atom_same (Pred p ts) (Eq u v) e = let both : 0 ∷ p ∷ length ts ∷ flat_map term_code ts ≡ 1 ∷ (term_code u ++ term_code v) = e in absurd (omega (arith, head_same 0 1 _ _ both))
atom_same (Pred p ts) True e = let both : 0 ∷ p ∷ length ts ∷ flat_map term_code ts ≡ 2 ∷ [] = e in absurd (omega (arith, head_same 0 2 _ _ both))
atom_same (Pred p ts) False e = let both : 0 ∷ p ∷ length ts ∷ flat_map term_code ts ≡ 3 ∷ [] = e in absurd (omega (arith, head_same 0 3 _ _ both))
atom_same (Eq s t) (Pred q us) e = let both : 1 ∷ (term_code s ++ term_code t) ≡ 0 ∷ q ∷ length us ∷ flat_map term_code us = e in absurd (omega (arith, head_same 1 0 _ _ both))
atom_same (Eq s t) (Eq u v) e = let both : 1 ∷ (term_code s ++ term_code t) ≡ 1 ∷ (term_code u ++ term_code v) = e in let rest : term_code s ++ term_code t ≡ term_code u ++ term_code v = cc in eq_same s t u v rest
atom_same (Eq s t) True e = let both : 1 ∷ (term_code s ++ term_code t) ≡ 2 ∷ [] = e in absurd (omega (arith, head_same 1 2 _ _ both))
atom_same (Eq s t) False e = let both : 1 ∷ (term_code s ++ term_code t) ≡ 3 ∷ [] = e in absurd (omega (arith, head_same 1 3 _ _ both))
atom_same True (Pred q us) e = let both : 2 ∷ [] ≡ 0 ∷ q ∷ length us ∷ flat_map term_code us = e in absurd (omega (arith, head_same 2 0 _ _ both))
atom_same True (Eq u v) e = let both : 2 ∷ [] ≡ 1 ∷ (term_code u ++ term_code v) = e in absurd (omega (arith, head_same 2 1 _ _ both))
atom_same True True e = refl
atom_same True False e = let both : 2 ∷ [] ≡ 3 ∷ [] = e in absurd (omega (arith, head_same 2 3 _ _ both))
atom_same False (Pred q us) e = let both : 3 ∷ [] ≡ 0 ∷ q ∷ length us ∷ flat_map term_code us = e in absurd (omega (arith, head_same 3 0 _ _ both))
atom_same False (Eq u v) e = let both : 3 ∷ [] ≡ 1 ∷ (term_code u ++ term_code v) = e in absurd (omega (arith, head_same 3 1 _ _ both))
atom_same False True e = let both : 3 ∷ [] ≡ 2 ∷ [] = e in absurd (omega (arith, head_same 3 2 _ _ both))
atom_same False False e = refl

-- ---- how keys are put together

pub var_put : (key one two : List ℕ) (t : Term) (k : ℕ) → one ≡ key ++ 0 ∷ [] → two ≡ one ++ k ∷ [] → t ≡ Var k → two ≡ key ++ term_code t
var_put key one two t k e f is =
    f ∙ ap (λ (xs : List ℕ). xs ++ k ∷ []) e ∙ append_assoc key (0 ∷ []) (k ∷ []) ∙ ap (λ (c : List ℕ). key ++ c) (sym (code-Var k)) ∙ ap (λ (u : Term). key ++ term_code u) (sym is)

pub app_put : (key one two three four : List ℕ) (t : Term) (f n : ℕ) (ts us : List Term) → one ≡ key ++ 1 ∷ [] → two ≡ one ++ f ∷ [] → n ≡ length ts → three ≡ two ++ n ∷ [] → us ≡ ts → four ≡ three ++ flat_map term_code us → t ≡ App f ts
    → four ≡ key ++ term_code t
app_put key one two three four t f n ts us e1 e2 many e3 same e4 is =
    e4 ∙ ap (λ (vs : List Term). three ++ flat_map term_code vs) same
    ∙ ap (λ (xs : List ℕ). xs ++ flat_map term_code ts) (e3 ∙ ap (λ (xs : List ℕ). xs ++ n ∷ []) (e2 ∙ ap (λ (xs : List ℕ). xs ++ f ∷ []) e1))
    ∙ ap (λ (xs : List ℕ). xs ++ flat_map term_code ts) (append_assoc (key ++ 1 ∷ []) (f ∷ []) (n ∷ []) ∙ append_assoc key (1 ∷ []) (f ∷ n ∷ []))
    ∙ append_assoc key (1 ∷ f ∷ n ∷ []) (flat_map term_code ts)
    ∙ ap (λ (m : ℕ). key ++ 1 ∷ f ∷ m ∷ flat_map term_code ts) many
    ∙ ap (λ (c : List ℕ). key ++ c) (sym (code-App f ts)) ∙ ap (λ (u : Term). key ++ term_code u) (sym is)
