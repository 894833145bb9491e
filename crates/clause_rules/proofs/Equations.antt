-- Positive equations, as they are read, and their instances.
use Rattle.std.specs.Prelude.{ℕ, ◌≡◌, Bool, true, false, List, [], ◌∷◌, map, slice_set, refl}
use Rattle.std.proofs.Common.{ap, zero, suc}
use Rattle.fof_terms.specs.declared.term.Term.{Term}
use Rattle.clause_form.specs.declared.clause.AtomOf.{AtomOf}
use Rattle.clause_form.specs.declared.clause.AtomOf.TheVariants.{Pred, Eq, True, False}
use Rattle.clause_form.specs.declared.clause.Lit.{Lit}
use Rattle.clause_form.specs.Covers.{in_lit}
use Rattle.clause_rules.specs.Steps.{equation}

-- the instance of an equation
pub equation_image : (f : Term → Term) (flipped : Bool) (l r : Term) → in_lit f (equation flipped l r) ≡ equation flipped (f l) (f r)
equation_image f false l r = refl
equation_image f true l r = refl

-- a literal whose instance is an equation is one
parts_false : (f : Term → Term) (g : Bool) (a : AtomOf) (x y : Term) → in_lit f (record { positive = g; atom = a }) ≡ equation false x y → (l r : Term) × (record { positive = g; atom = a } ≡ equation false l r) × (f l ≡ x) × (f r ≡ y)
parts_false f g (Pred p ts) x y e = absurd (let atoms = ap (λ (l : Lit). l.atom) e in cc)
parts_false f g (Eq l r) x y e = let sign : g ≡ true = ap (λ (k : Lit). k.positive) e in let atoms : Eq (f l) (f r) ≡ Eq x y = ap (λ (k : Lit). k.atom) e in (l, r, ap (λ b. record { positive = b; atom = Eq l r }) sign, cc, cc)
parts_false f g True x y e = absurd (let atoms = ap (λ (l : Lit). l.atom) e in cc)
parts_false f g False x y e = absurd (let atoms = ap (λ (l : Lit). l.atom) e in cc)

parts_true : (f : Term → Term) (g : Bool) (a : AtomOf) (x y : Term) → in_lit f (record { positive = g; atom = a }) ≡ equation true x y → (l r : Term) × (record { positive = g; atom = a } ≡ equation true l r) × (f l ≡ x) × (f r ≡ y)
parts_true f g (Pred p ts) x y e = absurd (let atoms = ap (λ (l : Lit). l.atom) e in cc)
parts_true f g (Eq l r) x y e = let sign : g ≡ true = ap (λ (k : Lit). k.positive) e in let atoms : Eq (f l) (f r) ≡ Eq y x = ap (λ (k : Lit). k.atom) e in (r, l, ap (λ b. record { positive = b; atom = Eq l r }) sign, cc, cc)
parts_true f g True x y e = absurd (let atoms = ap (λ (l : Lit). l.atom) e in cc)
parts_true f g False x y e = absurd (let atoms = ap (λ (l : Lit). l.atom) e in cc)

pub equation_parts : (f : Term → Term) (k : Lit) (flipped : Bool) (x y : Term) → in_lit f k ≡ equation flipped x y → (l r : Term) × (k ≡ equation flipped l r) × (f l ≡ x) × (f r ≡ y)
equation_parts f k false x y e = parts_false f k.positive k.atom x y e
equation_parts f k true x y e = parts_true f k.positive k.atom x y e

-- the sides of an equation are determined
pub same_sides : (flipped : Bool) (l r x y : Term) → equation flipped l r ≡ equation flipped x y → (l ≡ x) × (r ≡ y)
same_sides false l r x y e = let atoms : Eq l r ≡ Eq x y = ap (λ (k : Lit). k.atom) e in (cc, cc)
same_sides true l r x y e = let atoms : Eq r l ≡ Eq y x = ap (λ (k : Lit). k.atom) e in (cc, cc)

-- a list with one literal changed, under a change of all
pub map_set : {X Y : Type 0} (f : X → Y) (xs : List X) (i : ℕ) (x : X) → map f (slice_set xs i x) ≡ slice_set (map f xs) i (f x)
map_set f [] i x = refl
map_set f (y ∷ xs) zero x = refl
map_set f (y ∷ xs) (suc i) x = ap (λ zs. f y ∷ zs) (map_set f xs i x)
