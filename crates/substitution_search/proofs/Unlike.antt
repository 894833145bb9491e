-- Terms and atoms no instances of which are the same, as code finds them.
use Rattle.std.specs.Prelude.{ℕ, ◌≡◌, Bool, true, false, List, [], ◌∷◌, length, map, not, Some, slice_get, refl}
use Rattle.std.proofs.Common.{ap, sym, subst, ◌∙◌, zero, suc, inl, inr}
use Rattle.std.proofs.lemmas.Bool.{eq-eqb}
use Rattle.std.proofs.lemmas.List.{length-map}
use Rattle.fof_terms.specs.declared.term.Term.{Term, Var, App}
use Rattle.fof_terms.specs.declared.term.Term.TheViews.{out-Term, outs-Var, outs-App}
use Rattle.clause_form.specs.declared.clause.AtomOf.{AtomOf}
use Rattle.clause_form.specs.declared.clause.AtomOf.TheVariants.{Pred, Eq, True, False}
use Rattle.clause_form.specs.Covers.{at_terms, IsSameAtom}
use Rattle.clause_form.specs.Images.{image}
use Rattle.clause_form.proofs.ImagesFacts.{image-App}
use Rattle.substitution_search.specs.code.Heads.{is_same_head}
use Rattle.substitution_search.specs.Screens.{Stays, NeverEqual}
use Rattle.substitution_search.specs.code.Screens.{NeverEquals, NeverSame}
use Rattle.fof_terms.specs.declared.term.Term.TheOpen as term

apps : (f g : ℕ) (ts us : List Term) → App f ts ≡ App g us → (f ≡ g) × (ts ≡ us)
apps f g ts us e = let layers : term.App f ts ≡ term.App g us = sym (outs-App f ts) ∙ ap out-Term e ∙ outs-App g us in (cc, cc)

module _ (is_line : Bool) (t u : Term) (f : ℕ) (ts : List Term) (is : t ≡ App f ts) where
  pub never_fixed : (k : ℕ) → u ≡ Var k → is_line ≡ true → NeverEqual is_line t u
  never_fixed k e line = λ s r h same.
      let whole : App f (map (image s) ts) ≡ Var k = sym (image-App s f ts) ∙ ap (image s) (sym is) ∙ same ∙ h.stays line u ∙ e in
      let layers : term.App f (map (image s) ts) ≡ term.Var k = sym (outs-App f (map (image s) ts)) ∙ ap out-Term whole ∙ outs-Var k in
      cc

  module _ (g : ℕ) (us : List Term) (e : u ≡ App g us) where
    both : (s r : ℕ → Term) → image s t ≡ image r u → (f ≡ g) × (map (image s) ts ≡ map (image r) us)
    both s r same = apps f g (map (image s) ts) (map (image r) us) (sym (image-App s f ts) ∙ ap (image s) (sym is) ∙ same ∙ ap (image r) e ∙ image-App r g us)

    pub never_heads : (f ≡ g → ⊥) → NeverEqual is_line t u
    never_heads other = λ s r h same. other (both s r same).0

    pub never_args : NeverEquals is_line ts us → NeverEqual is_line t u
    never_args never = λ s r h same. never s r h (both s r same).1

pub never_sizes : (is_line : Bool) (ts us : List Term) → (length ts ≡ length us → ⊥) → NeverEquals is_line ts us
never_sizes is_line ts us other = λ s r h same. other (sym (length-map ts (image s)) ∙ ap length same ∙ length-map us (image r))

pub never_at : (is_line : Bool) (ts us : List Term) (i : ℕ) (x y : Term) → slice_get ts i ≡ Some x → slice_get us i ≡ Some y → NeverEqual is_line x y → NeverEquals is_line ts us
never_at is_line [] us i x y e f never = cc
never_at is_line (t ∷ ts) [] i x y e f never = cc
never_at is_line (t ∷ ts) (u ∷ us) zero x y e f never = λ s r st same.
    let one : t ≡ x = cc in
    let two : u ≡ y = cc in
    let heads : image s t ≡ image r u = cc in
    never s r st (ap (image s) (sym one) ∙ heads ∙ ap (image r) two)
never_at is_line (t ∷ ts) (u ∷ us) (suc i) x y e f never = λ s r st same. never_at is_line ts us i x y e f never s r st (let tails : map (image s) ts ≡ map (image r) us = cc in tails)

-- as code lends them
pub never_lent : (is_line : Bool) (ts us lent others : List Term) → lent ≡ ts → others ≡ us → NeverEquals is_line lent others → NeverEquals is_line ts us
never_lent is_line ts us lent others e f never = subst (λ xs. NeverEquals is_line xs us) e (subst (λ ys. NeverEquals is_line lent ys) f never)

pub yes_of : (b : Bool) → not b ≡ false → b ≡ true
yes_of true e = refl
yes_of false e = cc

-- atoms whose heads differ
pub same_heads : (f g : Term → Term) (a b : AtomOf) → IsSameAtom (at_terms f a) (at_terms g b) → is_same_head a b ≡ true
same_heads f g (Pred p ts) (Pred q us) (inl e) = let same : p ≡ q = cc in eq-eqb p q same
same_heads f g (Pred p ts) (Pred q us) (inr e) = let same : p ≡ q = cc in eq-eqb p q same
same_heads f g (Pred p ts) (Eq c d) (inl e) = cc
same_heads f g (Pred p ts) (Eq c d) (inr e) = cc
same_heads f g (Pred p ts) True (inl e) = cc
same_heads f g (Pred p ts) True (inr e) = cc
same_heads f g (Pred p ts) False (inl e) = cc
same_heads f g (Pred p ts) False (inr e) = cc
same_heads f g (Eq l r) (Pred q us) (inl e) = cc
same_heads f g (Eq l r) (Pred q us) (inr e) = cc
same_heads f g (Eq l r) (Eq c d) h = refl
same_heads f g (Eq l r) True (inl e) = cc
same_heads f g (Eq l r) True (inr e) = cc
same_heads f g (Eq l r) False (inl e) = cc
same_heads f g (Eq l r) False (inr e) = cc
same_heads f g True (Pred q us) (inl e) = cc
same_heads f g True (Pred q us) (inr e) = cc
same_heads f g True (Eq c d) (inl e) = cc
same_heads f g True (Eq c d) (inr e) = cc
same_heads f g True True h = refl
same_heads f g True False (inl e) = cc
same_heads f g True False (inr e) = cc
same_heads f g False (Pred q us) (inl e) = cc
same_heads f g False (Pred q us) (inr e) = cc
same_heads f g False (Eq c d) (inl e) = cc
same_heads f g False (Eq c d) (inr e) = cc
same_heads f g False True (inl e) = cc
same_heads f g False True (inr e) = cc
same_heads f g False False h = refl

pub never_same_heads : (is_line : Bool) (a b : AtomOf) → is_same_head a b ≡ false → NeverSame is_line a b
never_same_heads is_line a b e = λ s r st h. let yes = same_heads (image s) (image r) a b h in cc

same_args : (p q : ℕ) (ts us : List Term) → IsSameAtom (Pred p ts) (Pred q us) → ts ≡ us
same_args p q ts us (inl e) = cc
same_args p q ts us (inr e) = cc

pub never_same_args : (is_line : Bool) (a b : AtomOf) (p q : ℕ) (ts us : List Term) → a ≡ Pred p ts → b ≡ Pred q us → NeverEquals is_line ts us → NeverSame is_line a b
never_same_args is_line a b p q ts us e f never =
    subst (λ x. NeverSame is_line x b) (sym e) (subst (λ y. NeverSame is_line (Pred p ts) y) (sym f) (λ s r st h. never s r st (same_args p q (map (image s) ts) (map (image r) us) h)))

pub never_same_sides : (is_line : Bool) (a b : AtomOf) (l r t u : Term) → a ≡ Eq l r → b ≡ Eq t u → NeverSame is_line (Eq l r) (Eq t u) → NeverSame is_line a b
never_same_sides is_line a b l r t u e f never = subst (λ x. NeverSame is_line x b) (sym e) (subst (λ y. NeverSame is_line (Eq l r) y) (sym f) never)

-- two pairs of terms never become the same together
abbrev pub NeverBoth : Bool → Term → Term → Term → Term → Type 0
NeverBoth is_line t u v w = (s r : ℕ → Term) → Stays is_line r → image s t ≡ image r u → image s v ≡ image r w → ⊥

pub never_sides : (is_line : Bool) (l r t u : Term) → NeverBoth is_line l t r u → NeverBoth is_line r t l u → NeverSame is_line (Eq l r) (Eq t u)
never_sides is_line l r t u one two = λ s q st h.
    elim h [
      | inl e ↦ let first : image s l ≡ image q t = cc in let second : image s r ≡ image q u = cc in one s q st first second
      | inr e ↦ let first : image s r ≡ image q t = cc in let second : image s l ≡ image q u = cc in two s q st first second
    ]
