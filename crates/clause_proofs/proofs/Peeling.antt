-- Instances of the body of nested quantifiers, one term after the other, the first for the outermost variable.
use Rattle.std.specs.Prelude.{ℕ, ◌≡◌, ◌+◌, ◌<◌, Bool, true, false, List, [], ◌∷◌, ◌++◌, length, map, reverse, get_or, slice_get, Some, refl}
use Rattle.std.specs.List.{AllByRecursion}
use Rattle.std.proofs.Common.{ap, sym, subst, ◌∙◌, arith, zero, suc, add-one, inl, inr}
use Rattle.std.proofs.lemmas.Simd.{map-map}
use Rattle.std.proofs.lemmas.List.{reverse-append, length-reverse}
use Rattle.std.proofs.lemmas.Option.{slice_get_within}
use Rattle.fof_terms.specs.declared.term.Term.{Term, Var, App}
use Rattle.fof_terms.specs.declared.form.Form.{Form, Or, All}
use Rattle.fof_terms.specs.Vocabulary.{Vocabulary}
use Rattle.fof_terms.specs.Lift.{lifted_term}
use Rattle.fof_terms.specs.Instance.{instance_term, instance_at}
use Rattle.fof_terms.proofs.InstanceFacts.{instance_at-Atom, instance_at-Eq, instance_at-Not, instance_at-And, instance_at-Or, instance_at-All}
use Rattle.fof_terms.proofs.LiftingLaws.{moves, here, smaller, instance_of_lifted, below_or_above}
use Rattle.fof_terms.specs.Sorts.{sort_of_term}
use Rattle.fof_terms.proofs.Walks.{TermWalk, staying_term, lifting_term, placing_term, both_terms, same_terms}
use Rattle.clause_form.specs.declared.clause.AtomOf.{AtomOf}
use Rattle.clause_form.specs.declared.clause.AtomOf.TheVariants.{Pred, Eq as Equation, True, False}
use Rattle.clause_form.specs.declared.clause.Lit.{Lit}
use Rattle.clause_form.specs.Norm.{signed}
use Rattle.clause_form.specs.ClauseView.{form_of_atom, form_of_lit, closed_by}
use Rattle.clause_form.specs.Covers.{at_terms, in_lit, lit_image, AreSorted}
use Rattle.clause_form.specs.Images.{image, IsImages}
use Rattle.clause_form.proofs.ImagesFacts.{image-Var, image-App, AgreeOn}
use Rattle.clause_form.proofs.ClauseLaws.{lits_agree, lits_themselves}
use Rattle.unify_terms.specs.Substitution.{image_at}
use Rattle.kernel.specs.Statements.{Statements}
use Rattle.kernel.specs.Proves.{Proves}
use Rattle.kernel.specs.declared.proof.Proof.{Proof}
use Rattle.derive_kit.specs.Instances.{IsInstance}
use Rattle.clause_proofs.specs.Bodies.{body_of}

-- places in lists
pub get_front : {X : Type 0} (xs ys : List X) (k : ℕ) (d : X) → k < length xs → get_or (xs ++ ys) k d ≡ get_or xs k d
get_front [] ys k d h = absurd (omega arith)
get_front (x ∷ xs) ys zero d h = refl
get_front (x ∷ xs) ys (suc k) d h = get_front xs ys k d (omega arith)

pub get_last : {X : Type 0} (xs : List X) (y d : X) (k : ℕ) → k ≡ length xs → get_or (xs ++ y ∷ []) k d ≡ y
get_last [] y d zero e = refl
get_last [] y d (suc k) e = absurd (omega arith)
get_last (x ∷ xs) y d zero e = absurd (omega arith)
get_last (x ∷ xs) y d (suc k) e = get_last xs y d k (omega arith)

pub slice_front : (xs ys : List ℕ) (k r : ℕ) → slice_get xs k ≡ Some r → slice_get (xs ++ ys) k ≡ Some r
slice_front [] ys k r e = cc
slice_front (x ∷ xs) ys zero r e = e
slice_front (x ∷ xs) ys (suc k) r e = slice_front xs ys k r e

pub slice_last : (xs : List ℕ) (y k : ℕ) → k ≡ length xs → slice_get (xs ++ y ∷ []) k ≡ Some y
slice_last [] y zero e = refl
slice_last [] y (suc k) e = absurd (omega arith)
slice_last (x ∷ xs) y zero e = absurd (omega arith)
slice_last (x ∷ xs) y (suc k) e = slice_last xs y k (omega arith)

turn : {X : Type 0} (x : X) (xs : List X) → reverse (x ∷ xs) ≡ reverse xs ++ x ∷ []
turn x xs = reverse-append (x ∷ []) xs

-- the terms in place of the outermost variables
abbrev pub peeled : List Term → Term → Term
peeled [] = λ u. u
peeled (x ∷ xs) = λ u. peeled xs (instance_term x (length xs) u)

abbrev pub peeled_form : List Term → Form → Form
peeled_form [] = λ a. a
peeled_form (x ∷ xs) = λ a. peeled_form xs (instance_at x (length xs) a)

same_place : (k : ℕ) → k + 0 ≡ k
same_place k = omega arith

pub lifted_nothing : (t : Term) → lifted_term 0 0 t ≡ t
lifted_nothing = same_terms (lifted_term 0 0) (λ t. t) (lifting_term 0 0) staying_term (λ k. moves 0 0 k (omega arith) ∙ ap Var (same_place k))

peeling : (xs : List Term) → TermWalk (peeled xs)
peeling [] = staying_term
peeling (x ∷ xs) = both_terms (peeled xs) (instance_term x (length xs)) (peeling xs) (placing_term x (length xs))

peeled_lifted : (xs : List Term) (t : Term) → peeled xs (lifted_term (length xs) 0 t) ≡ t
peeled_lifted [] t = lifted_nothing t
peeled_lifted (x ∷ xs) t =
    let inner : instance_term x (length xs) (lifted_term (suc (length xs)) 0 t) ≡ lifted_term (length xs) 0 t = rw add-one at (instance_of_lifted x t (length xs) (length xs) (omega arith)) in
    ap (peeled xs) inner ∙ peeled_lifted xs t

pub peeled_var : (xs : List Term) (k : ℕ) → k < length xs → peeled xs (Var k) ≡ get_or (reverse xs) k (Var k)
peeled_var [] k h = absurd (omega arith)
peeled_var (x ∷ xs) k h =
    elim (below_or_above k (length xs)) [
      | inl b ↦
          ap (peeled xs) (smaller x (length xs) k b) ∙ peeled_var xs k b ∙ sym (ap (λ (ys : List Term). get_or ys k (Var k)) (turn x xs) ∙ get_front (reverse xs) (x ∷ []) k (Var k) (omega (arith, length-reverse xs)))
      | inr b ↦
          let at : k ≡ length xs = omega arith in
          ap (peeled xs) (here x (length xs) k at) ∙ peeled_lifted xs x ∙ sym (ap (λ (ys : List Term). get_or ys k (Var k)) (turn x xs) ∙ get_last (reverse xs) x (Var k) k (omega (arith, length-reverse xs)))
    ]

pub imaging : (s : ℕ → Term) → TermWalk (image s)
imaging s = record { app = λ f ts. image-App s f ts }

peeled_image : (xs : List Term) (u : Term) → peeled xs u ≡ image (λ k. peeled xs (Var k)) u
peeled_image xs = same_terms (peeled xs) (image (λ k. peeled xs (Var k))) (peeling xs) (imaging (λ k. peeled xs (Var k))) (λ k. sym (image-Var (λ j. peeled xs (Var j)) k))

-- of literals and of bodies
at_terms_twice : (f g : Term → Term) (a : AtomOf) → at_terms f (at_terms g a) ≡ at_terms (λ u. f (g u)) a
at_terms_twice f g (Pred p ts) = ap (Pred p) (map-map f g ts)
at_terms_twice f g (Equation l r) = refl
at_terms_twice f g True = refl
at_terms_twice f g False = refl

pub lits_twice : (f g : Term → Term) (lits : List Lit) → map (in_lit f) (map (in_lit g) lits) ≡ map (in_lit (λ u. f (g u))) lits
lits_twice f g [] = refl
lits_twice f g (l ∷ lits) = rw (at_terms_twice f g l.atom, lits_twice f g lits) refl

at_terms_agree : (f g : Term → Term) → ((u : Term) → f u ≡ g u) → (a : AtomOf) → at_terms f a ≡ at_terms g a
at_terms_agree f g e (Pred p ts) = ap (Pred p) (each_agrees ts) where
  each_agrees : (ts : List Term) → map f ts ≡ map g ts
  each_agrees [] = refl
  each_agrees (t ∷ ts) = rw (e t, each_agrees ts) refl
at_terms_agree f g e (Equation l r) = rw (e l, e r) refl
at_terms_agree f g e True = refl
at_terms_agree f g e False = refl

pub lits_same : (f g : Term → Term) → ((u : Term) → f u ≡ g u) → (lits : List Lit) → map (in_lit f) lits ≡ map (in_lit g) lits
lits_same f g e [] = refl
lits_same f g e (l ∷ lits) = rw (at_terms_agree f g e l.atom, lits_same f g e lits) refl

module _ (x : Term) (d : ℕ) where
  instance_atom : (a : AtomOf) → instance_at x d (form_of_atom a) ≡ form_of_atom (at_terms (instance_term x d) a)
  instance_atom (Pred p ts) = instance_at-Atom x d p ts
  instance_atom (Equation l r) = instance_at-Eq x d l r
  instance_atom True = instance_at-And x d []
  instance_atom False = instance_at-Or x d []

  instance_signed : (g : Bool) (a : AtomOf) → instance_at x d (signed g (form_of_atom a)) ≡ signed g (form_of_atom (at_terms (instance_term x d) a))
  instance_signed true a = instance_atom a
  instance_signed false a = rw (instance_at-Not, instance_atom a) refl

  instance_lits : (lits : List Lit) → map (instance_at x d) (map form_of_lit lits) ≡ map form_of_lit (map (in_lit (instance_term x d)) lits)
  instance_lits [] = refl
  instance_lits (l ∷ lits) = rw (instance_signed l.positive l.atom, instance_lits lits) refl

  pub instance_body : (b : Bool) (lits : List Lit) → instance_at x d (body_of b lits) ≡ body_of b (map (in_lit (instance_term x d)) lits)
  instance_body true lits = instance_at-Or x d (map form_of_lit lits) ∙ ap Or (instance_lits lits)
  instance_body false [] = instance_at-Or x d []
  instance_body false (l ∷ lits) = instance_signed l.positive l.atom

pub peeled_body : (xs : List Term) (b : Bool) (lits : List Lit) → peeled_form xs (body_of b lits) ≡ body_of b (map (in_lit (peeled xs)) lits)
peeled_body [] b lits = sym (ap (body_of b) (lits_themselves (λ u. u) (λ u. refl) lits))
peeled_body (x ∷ xs) b lits =
    ap (peeled_form xs) (instance_body x (length xs) b lits) ∙ peeled_body xs b (map (in_lit (instance_term x (length xs))) lits) ∙ ap (body_of b) (lits_twice (peeled xs) (instance_term x (length xs)) lits)

-- the terms have these sorts
abbrev FitAll : Vocabulary → List ℕ → List ℕ → List Term → Type 0
FitAll w v [] [] = Unit {0}
FitAll w v [] (x ∷ xs) = ⊥
FitAll w v (s ∷ sorts) [] = ⊥
FitAll w v (s ∷ sorts) (x ∷ xs) = (sort_of_term w v x ≡ Some s) × FitAll w v sorts xs

closed_instance : (x : Term) (sorts : List ℕ) (a : Form) (d e : ℕ) → e ≡ d + length sorts → instance_at x d (closed_by sorts a) ≡ closed_by sorts (instance_at x e a)
closed_instance x [] a d e same = ap (λ (n : ℕ). instance_at x n a) (let back : d ≡ e = omega arith in back)
closed_instance x (s ∷ sorts) a d e same = instance_at-All x d s (closed_by sorts a) ∙ ap (All s) (closed_instance x sorts a (d + 1) e (omega arith))

as_many : (w : Vocabulary) (v sorts : List ℕ) (xs : List Term) → FitAll w v sorts xs → length xs ≡ length sorts
as_many w v [] [] f = refl
as_many w v [] (x ∷ xs) f = absurd f
as_many w v (s ∷ sorts) [] f = absurd f
as_many w v (s ∷ sorts) (x ∷ xs) f = ap (λ n. suc n) (as_many w v sorts xs f.1)

is_instance : (w : Vocabulary) (v sorts : List ℕ) (xs : List Term) (a : Form) → FitAll w v sorts xs → IsInstance w v (closed_by sorts a) xs (peeled_form xs a)
is_instance w v [] [] a f = refl
is_instance w v [] (x ∷ xs) a f = absurd f
is_instance w v (s ∷ sorts) [] a f = absurd f
is_instance w v (s ∷ sorts) (x ∷ xs) a f =
    let here : instance_at x 0 (closed_by sorts a) ≡ closed_by sorts (instance_at x (length xs) a) = closed_instance x sorts a 0 (length xs) (omega (arith, as_many w v sorts xs f.1)) in
    (s, closed_by sorts a, refl, f.0, subst (λ (b : Form). IsInstance w v b xs (peeled_form (x ∷ xs) a)) (sym here) (is_instance w v sorts xs (instance_at x (length xs) a) f.1))

-- the terms, the outermost first, have the sorts where the images do
fit_all : (w : Vocabulary) (v sorts : List ℕ) (xs : List Term) → length xs ≡ length sorts → ((k r : ℕ) → slice_get (reverse sorts) k ≡ Some r → sort_of_term w v (get_or (reverse xs) k (Var k)) ≡ Some r) → FitAll w v sorts xs
fit_all w v [] [] e h = tt
fit_all w v [] (x ∷ xs) e h = absurd (omega arith)
fit_all w v (s ∷ sorts) [] e h = absurd (omega arith)
fit_all w v (s ∷ sorts) (x ∷ xs) e h =
    let n = length sorts in
    let outermost : slice_get (reverse (s ∷ sorts)) n ≡ Some s = ap (λ (ys : List ℕ). slice_get ys n) (turn s sorts) ∙ slice_last (reverse sorts) s n (omega (arith, length-reverse sorts)) in
    let its_own : get_or (reverse (x ∷ xs)) n (Var n) ≡ x = ap (λ (ys : List Term). get_or ys n (Var n)) (turn x xs) ∙ get_last (reverse xs) x (Var n) n (omega (arith, length-reverse xs)) in (
      ap (sort_of_term w v) (sym its_own) ∙ h n s outermost,
      fit_all w v sorts xs (omega arith) (λ k r f.
          let within : k < length (reverse sorts) = slice_get_within (reverse sorts) k r f in
          let there : slice_get (reverse (s ∷ sorts)) k ≡ Some r = ap (λ (ys : List ℕ). slice_get ys k) (turn s sorts) ∙ slice_front (reverse sorts) (s ∷ []) k r f in
          let one : get_or (reverse (x ∷ xs)) k (Var k) ≡ get_or (reverse xs) k (Var k) = ap (λ (ys : List Term). get_or ys k (Var k)) (turn x xs) ∙ get_front (reverse xs) (x ∷ []) k (Var k) (omega (arith, length-reverse xs, length-reverse sorts)) in
          ap (sort_of_term w v) (sym one) ∙ h k r there),
    )

-- the instance of a clause's body at images of its variables, given the outermost first
pub instance_shown : (t : Statements) (v : List ℕ) (h : List Form) (sorts : List ℕ) (b : Bool) (lits : List Lit) (xs images : List Term) (p made : Proof) → images ≡ reverse xs → length xs ≡ length sorts
    → IsImages t.vocabulary (reverse sorts) v (image_at images) → AreSorted t.vocabulary (reverse sorts) lits
    → ((a c : Form) → IsInstance t.vocabulary v a xs c → Proves t v h p a → Proves t v h made c)
    → Proves t v h p (closed_by sorts (body_of b lits)) → Proves t v h made (body_of b (map (lit_image (image_at images)) lits))
instance_shown t v h sorts b lits xs images p made back size are sorted build shown =
    let fits : FitAll t.vocabulary v sorts xs = fit_all t.vocabulary v sorts xs size (λ k r e. subst (λ (ys : List Term). sort_of_term t.vocabulary v (get_or ys k (Var k)) ≡ Some r) back (are.sorted k r e)) in
    let agree : AgreeOn (reverse sorts) (λ k. peeled xs (Var k)) (image_at images) = record {
      same = λ k r e. peeled_var xs k (omega (arith, slice_get_within (reverse sorts) k r e, length-reverse sorts)) ∙ ap (λ (ys : List Term). get_or ys k (Var k)) (sym back);
    } in
    let same : map (in_lit (peeled xs)) lits ≡ map (lit_image (image_at images)) lits =
    lits_same (peeled xs) (image (λ k. peeled xs (Var k))) (peeled_image xs) lits ∙ lits_agree t.vocabulary (reverse sorts) (λ k. peeled xs (Var k)) (image_at images) agree lits sorted in
    subst (λ (c : Form). Proves t v h made c) (peeled_body xs b lits ∙ ap (body_of b) same) (build (closed_by sorts (body_of b lits)) (peeled_form xs (body_of b lits)) (is_instance t.vocabulary v sorts xs (body_of b lits) fits) shown)
