-- What two atoms ask to be made equal.
use Rattle.std.specs.Prelude.{ℕ, ◌+◌, ◌≡◌, true, List, [], ◌∷◌, map, None, refl}
use Rattle.std.specs.List.{AllByRecursion}
use Rattle.std.proofs.Common.{ap, sym, ◌∙◌, arith}
use Rattle.fof_terms.specs.declared.term.Term.{Term, App}
use Rattle.fof_terms.specs.declared.term.Term.TheViews.{out-Term, outs-App}
use Rattle.fof_terms.specs.Vocabulary.{Vocabulary}
use Rattle.clause_form.specs.declared.clause.AtomOf.{AtomOf}
use Rattle.clause_form.specs.declared.clause.AtomOf.TheVariants.{Pred, Eq, True, False}
use Rattle.clause_form.specs.Covers.{at_terms, is_sorted_atom}
use Rattle.clause_form.specs.Images.{image}
use Rattle.clause_form.proofs.ImagesFacts.{image-App}
use Rattle.clause_rules.specs.Places.{args_of_atom, args_of}
use Rattle.clause_rules.proofs.PlaceLaws.{args_of-App}
use Rattle.clause_order.specs.Weights.{as_term}
use Rattle.clause_rules.proofs.NeedSorts.{Found, sorted_fits}
use Rattle.unify_terms.specs.declared.pair.Pair.{Pair}
use Rattle.superpose.specs.Drafts.{Draft}
use Rattle.superpose.specs.code.Pairs.{ArePairsOf, IsPairing}
use Rattle.superpose.proofs.Unifying.{Asks, AreSame}
use Rattle.fof_terms.specs.declared.term.Term.TheOpen as term

pub same_args : (f g : ℕ) (ts us : List Term) → App f ts ≡ App g us → ts ≡ us
same_args f g ts us e = sym (args_of-App f ts) ∙ ap args_of e ∙ args_of-App g us

head_of_layer : term.Term-F Term → ℕ
head_of_layer (term.Var k) = 0
head_of_layer (term.App f ts) = f

pub same_head : (f g : ℕ) (ts us : List Term) → App f ts ≡ App g us → f ≡ g
same_head f g ts us e = let layers : term.App f ts ≡ term.App g us = sym (outs-App f ts) ∙ ap out-Term e ∙ outs-App g us in cc

pub image_as_term : (s : ℕ → Term) (a : AtomOf) → image s (as_term a) ≡ as_term (at_terms (image s) a)
image_as_term s (Pred p ts) = image-App s (p + 3) ts
image_as_term s (Eq l r) = image-App s 2 (l ∷ r ∷ [])
image_as_term s True = image-App s 1 []
image_as_term s False = image-App s 0 []

pub as_term_injective : (a b : AtomOf) → as_term a ≡ as_term b → a ≡ b
as_term_injective (Pred p ts) (Pred q us) e =
    let head = same_head (p + 3) (q + 3) ts us e in
    let same : p ≡ q = omega arith in
    ap (λ n. Pred n ts) same ∙ ap (Pred q) (same_args (p + 3) (q + 3) ts us e)
as_term_injective (Pred p ts) (Eq l r) e = let h = same_head (p + 3) 2 ts (l ∷ r ∷ []) e in absurd (omega arith)
as_term_injective (Pred p ts) True e = let h = same_head (p + 3) 1 ts [] e in absurd (omega arith)
as_term_injective (Pred p ts) False e = let h = same_head (p + 3) 0 ts [] e in absurd (omega arith)
as_term_injective (Eq l r) (Pred q us) e = let h = same_head 2 (q + 3) (l ∷ r ∷ []) us e in absurd (omega arith)
as_term_injective (Eq l r) (Eq m n) e = let h = same_args 2 2 (l ∷ r ∷ []) (m ∷ n ∷ []) e in let a : l ≡ m = cc in let b : r ≡ n = cc in ap (λ t. Eq t r) a ∙ ap (Eq m) b
as_term_injective (Eq l r) True e = let h = same_head 2 1 (l ∷ r ∷ []) [] e in absurd (omega arith)
as_term_injective (Eq l r) False e = let h = same_head 2 0 (l ∷ r ∷ []) [] e in absurd (omega arith)
as_term_injective True (Pred q us) e = let h = same_head 1 (q + 3) [] us e in absurd (omega arith)
as_term_injective True (Eq m n) e = let h = same_head 1 2 [] (m ∷ n ∷ []) e in absurd (omega arith)
as_term_injective True True e = refl
as_term_injective True False e = let h = same_head 1 0 [] [] e in absurd (omega arith)
as_term_injective False (Pred q us) e = let h = same_head 0 (q + 3) [] us e in absurd (omega arith)
as_term_injective False (Eq m n) e = let h = same_head 0 2 [] (m ∷ n ∷ []) e in absurd (omega arith)
as_term_injective False True e = let h = same_head 0 1 [] [] e in absurd (omega arith)
as_term_injective False False e = refl

-- the arguments of an atom's instance
pub args_image : (s : ℕ → Term) (a : AtomOf) → args_of_atom (at_terms (image s) a) ≡ map (image s) (args_of_atom a)
args_image s (Pred p ts) = refl
args_image s (Eq l r) = refl
args_image s True = refl
args_image s False = refl

pub args_same : (s : ℕ → Term) (a b : AtomOf) → at_terms (image s) a ≡ at_terms (image s) b → AreSame s (args_of_atom a) (args_of_atom b)
args_same s a b e = sym (args_image s a) ∙ ap args_of_atom e ∙ args_image s b

-- each argument of a well-sorted atom has a sort
pub args_found : (v : Vocabulary) (scope : List ℕ) (a : AtomOf) → is_sorted_atom v scope a ≡ true → AllByRecursion (Found v scope) (args_of_atom a)
args_found v scope (Pred p ts) h = sorted_fits v scope (Pred p ts) h
args_found v scope (Eq l r) h = let both = sorted_fits v scope (Eq l r) h in (both.0, (both.1, tt))
args_found v scope True h = tt
args_found v scope False h = tt

-- a draft that asks for two atoms
pub asks_atoms : (f : Draft) (a b : AtomOf) (pairs : List Pair) → f.one ≡ as_term a → f.other ≡ as_term b → IsPairing a b pairs → Asks f (args_of_atom a) (args_of_atom b)
asks_atoms f a b pairs one other p = record {
  forth = λ s e. args_same s a b (as_term_injective _ _ (sym (image_as_term s a) ∙ ap (image s) (sym one) ∙ e ∙ ap (image s) other ∙ image_as_term s b));
  back = λ s e. ap (image s) one ∙ image_as_term s a ∙ ap as_term (p.enough s e) ∙ sym (image_as_term s b) ∙ ap (image s) (sym other);
}

pub never_atoms : (f : Draft) (a b : AtomOf) → f.one ≡ as_term a → f.other ≡ as_term b → ArePairsOf a b None → (s : ℕ → Term) → image s f.one ≡ image s f.other → ⊥
never_atoms f a b one other none s e = none s (as_term_injective _ _ (sym (image_as_term s a) ∙ ap (image s) (sym one) ∙ e ∙ ap (image s) other ∙ image_as_term s b))

-- for atoms of one predicate
pub asks_predicate : (f : Draft) (p : ℕ) (ts us : List Term) → f.one ≡ App p ts → f.other ≡ App p us → Asks f ts us
asks_predicate f p ts us one other = record {
  forth = λ s e. same_args p p (map (image s) ts) (map (image s) us) (sym (image-App s p ts) ∙ ap (image s) (sym one) ∙ e ∙ ap (image s) other ∙ image-App s p us);
  back = λ s e. ap (image s) one ∙ image-App s p ts ∙ ap (App p) e ∙ sym (image-App s p us) ∙ ap (image s) (sym other);
}

-- for two terms
pub asks_terms : (f : Draft) (t u : Term) → f.one ≡ t → f.other ≡ u → Asks f (t ∷ []) (u ∷ [])
asks_terms f t u one other = record {
  forth = λ s e. ap (λ x. x ∷ []) (ap (image s) (sym one) ∙ e ∙ ap (image s) other);
  back = λ s e. ap (image s) one ∙ (let heads : image s t ∷ [] ≡ image s u ∷ [] = e in cc) ∙ ap (image s) (sym other);
}
