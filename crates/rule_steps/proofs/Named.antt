-- Images of variables that come from a list and then from another function, and what they make of two clauses beside
-- each other.
use Rattle.std.specs.Prelude.{ℕ, ◌≡◌, ◌+◌, ◌-◌, ◌<◌, List, [], ◌∷◌, ◌++◌, length, map, refl}
use Rattle.std.proofs.Common.{ap, sym, ◌∙◌, arith, zero, suc, inl, inr}
use Rattle.fof_terms.specs.declared.term.Term.{Term, Var}
use Rattle.fof_terms.proofs.LiftingLaws.{below_or_above, stays, moves}
use Rattle.fof_terms.specs.Lift.{lifted_term}
use Rattle.fof_terms.proofs.Walks.{same_terms, both_terms, lifting_term}
use Rattle.clause_form.specs.declared.clause.Lit.{Lit}
use Rattle.clause_form.specs.declared.clause.Clause.{Clause}
use Rattle.clause_form.specs.Covers.{in_lit, lit_image}
use Rattle.clause_form.specs.Images.{image}
use Rattle.clause_form.proofs.ImagesFacts.{image-Var, image_image, image_of_lifted}
use Rattle.clause_form.specs.Paths.{beside}
use Rattle.substitution_search.specs.CoverSearch.{over, down}
use Rattle.clause_rules.proofs.LitImages.{imaging, lits_twice, lit_twice}

-- functions that agree everywhere are the same
pub alike : {X Y : Type 0} (f g : X → Y) → ((x : X) → f x ≡ g x) → f ≡ g
alike f g h = λ i x. h x i

over_both : (xs ys : List Term) (s : ℕ → Term) (k : ℕ) → over (xs ++ ys) s k ≡ over xs (over ys s) k
over_both [] ys s k = refl
over_both (x ∷ xs) ys s zero = refl
over_both (x ∷ xs) ys s (suc k) = over_both xs ys s k

-- two lists, one after the other
pub over_two : (xs ys : List Term) (s : ℕ → Term) → over (xs ++ ys) s ≡ over xs (over ys s)
over_two xs ys s = alike (over (xs ++ ys) s) (over xs (over ys s)) (over_both xs ys s)

over_past : (xs : List Term) (s : ℕ → Term) (k n : ℕ) → n ≡ length xs → over xs s (k + n) ≡ s k
over_past [] s k n e = ap s (omega (arith, e))
over_past (x ∷ xs) s k zero e = absurd (omega (arith, e))
over_past (x ∷ xs) s k (suc n) e = let one : k + suc n ≡ suc (k + n) = omega arith in ap (over (x ∷ xs) s) one ∙ over_past xs s k n (omega (arith, e))

over_within : (xs : List Term) (s t : ℕ → Term) (k : ℕ) → k < length xs → over xs s k ≡ over xs t k
over_within [] s t k h = absurd (omega arith)
over_within (x ∷ xs) s t zero h = refl
over_within (x ∷ xs) s t (suc k) h = over_within xs s t k (omega arith)

over_at : (xs : List Term) (s : ℕ → Term) (k j n : ℕ) → n ≡ length xs → j ≡ k + n → over xs s j ≡ s k
over_at xs s k j n e f = ap (over xs s) f ∙ over_past xs s k n e

-- the nearer variables are images of their own
nearer : (xs : List Term) (s : ℕ → Term) (n : ℕ) (t : Term) → n ≡ length xs → image (over xs s) (lifted_term n 0 t) ≡ image s t
nearer xs s n t e = image_of_lifted (over xs s) n t ∙ ap (λ f. image f t) (alike (λ k. over xs s (k + n)) s (λ k. over_past xs s k n e))

-- variables between the nearer and the farther ones
between_var : (xs ys : List Term) (s : ℕ → Term) (m n : ℕ) → m ≡ length ys → n ≡ length xs → (k : ℕ) → image (over xs (over ys s)) (lifted_term m n (Var k)) ≡ image (over xs s) (Var k)
between_var xs ys s m n e f k =
    elim (below_or_above k n) [
      | inl h ↦ rw (stays m n k h, image-Var, image-Var) (over_within xs (over ys s) s k (omega (arith, f)))
      | inr h ↦ rw (moves m n k h, image-Var, image-Var) (over_at xs (over ys s) (k + m - n) (k + m) n f (omega arith) ∙ over_at ys s (k - n) (k + m - n) m e (omega arith) ∙ sym (over_at xs s (k - n) k n f (omega arith)))
    ]

between : (xs ys : List Term) (s : ℕ → Term) (m n : ℕ) → m ≡ length ys → n ≡ length xs → (t : Term) → image (over xs (over ys s)) (lifted_term m n t) ≡ image (over xs s) t
between xs ys s m n e f = same_terms _ _ (both_terms _ _ (imaging (over xs (over ys s))) (lifting_term m n)) (imaging (over xs s)) (between_var xs ys s m n e f)

map_both : {X Y : Type 0} (f : X → Y) (xs ys : List X) → map f (xs ++ ys) ≡ map f xs ++ map f ys
map_both f [] ys = refl
map_both f (x ∷ xs) ys = ap (λ zs. f x ∷ zs) (map_both f xs ys)

-- the literals of two clauses beside each other
pub beside_images : (c d : Clause) (xs ys : List Term) (s : ℕ → Term) → length xs ≡ length c.sorts → length ys ≡ length d.sorts
    → map (lit_image (over (ys ++ xs) s)) (beside c d).lits ≡ map (lit_image (over xs s)) c.lits ++ map (lit_image (over ys s)) d.lits
beside_images c d xs ys s e f =
    ap (λ g. map (lit_image g) (beside c d).lits) (over_two ys xs s)
    ∙ map_both (lit_image (over ys (over xs s))) (map (in_lit (lifted_term (length d.sorts) 0)) c.lits) (map (in_lit (lifted_term (length c.sorts) (length d.sorts))) d.lits)
    ∙ ap (λ ls. ls ++ map (lit_image (over ys (over xs s))) (map (in_lit (lifted_term (length c.sorts) (length d.sorts))) d.lits))
    (lits_twice (image (over ys (over xs s))) (lifted_term (length d.sorts) 0) (image (over xs s)) (λ t. nearer ys (over xs s) (length d.sorts) t (sym f)) c.lits)
    ∙ ap (λ ls. map (lit_image (over xs s)) c.lits ++ ls)
    (lits_twice (image (over ys (over xs s))) (lifted_term (length c.sorts) (length d.sorts)) (image (over ys s)) (between ys xs s (length c.sorts) (length d.sorts) (sym e) (sym f)) d.lits)

-- one image after another, of a literal
pub named_image : (t s : ℕ → Term) (l : Lit) → lit_image t (lit_image s l) ≡ lit_image (λ k. image t (s k)) l
named_image t s l = lit_twice (image t) (image s) (image (λ k. image t (s k))) (image_image t s) l

-- a name more
pub one_name : (f : Term → Term) (x : Term) (env : List Term) → (λ k. f (over (x ∷ env) Var k)) ≡ over (f x ∷ []) (λ k. f (over env Var k))
one_name f x env = alike (λ k. f (over (x ∷ env) Var k)) (over (f x ∷ []) (λ k. f (over env Var k))) at_each where
  at_each : (k : ℕ) → f (over (x ∷ env) Var k) ≡ over (f x ∷ []) (λ k. f (over env Var k)) k
  at_each zero = refl
  at_each (suc k) = refl

pub down_length : (m n : ℕ) → length (down m n) ≡ n
down_length m zero = refl
down_length m (suc n) = ap (λ k. suc k) (down_length m n)

pub down_both : (m n j : ℕ) → down m (n + j) ≡ down (m + n) j ++ down m n
down_both m n zero = let e : n + 0 ≡ n = omega arith in rw e refl
down_both m n (suc j) =
    let e : n + suc j ≡ suc (n + j) = omega arith in
    let f : m + (n + j) ≡ m + n + j = omega arith in
    ap (down m) e ∙ ap (λ k. Var k ∷ down m (n + j)) f ∙ ap (λ xs. Var (m + n + j) ∷ xs) (down_both m n j)
