-- What it is to replace each occurrence of a term.
use Rattle.std.specs.Prelude.{ℕ, ◌≡◌, ◌+◌, ◌<◌, List, [], ◌∷◌, ◌++◌, length, take, get_or, refl}
use Rattle.std.proofs.Common.{ap, sym, subst, ◌∙◌, add-one}
use Rattle.fof_terms.specs.declared.term.Term.{Term, Var, App}
use Rattle.clause_form.specs.declared.clause.Lit.{Lit}
use Rattle.clause_rules.specs.RewriteRule.{IsRewritten, AreRewritten, IsAtomRewritten, AreLitsRewritten, all_of_it, a_variable, inside, none, more}
use Rattle.clause_rules.proofs.TakenLists.{taken_snoc}

pub none_of : (u w : Term) (us : List Term) → AreRewritten u w [] us → us ≡ []
none_of u w us h = go [] us h refl where
  go : (ts us : List Term) → AreRewritten u w ts us → ts ≡ [] → us ≡ []
  go ts us none e = refl
  go ts us (more t s ts' us' h g) e = cc

pub first_of : (u w t : Term) (ts us : List Term) → AreRewritten u w (t ∷ ts) us → (s : Term) × (ss : List Term) × (us ≡ s ∷ ss) × IsRewritten u w t s × AreRewritten u w ts ss
first_of u w t ts us h = go (t ∷ ts) us h refl where
  go : (xs us : List Term) → AreRewritten u w xs us → xs ≡ t ∷ ts → (s : Term) × (ss : List Term) × (us ≡ s ∷ ss) × IsRewritten u w t s × AreRewritten u w ts ss
  go xs us none e = cc
  go xs us (more t' s ts' us' h g) e =
      let first : t' ≡ t = cc in
      let rest : ts' ≡ ts = cc in
      (s, us', refl, subst (λ x. IsRewritten u w x s) first h, subst (λ xs. AreRewritten u w xs us') rest g)

-- one term more, and one literal more
rewritten_snoc : (u w : Term) (ts us : List Term) (t s : Term) → AreRewritten u w ts us → IsRewritten u w t s → AreRewritten u w (ts ++ t ∷ []) (us ++ s ∷ [])
rewritten_snoc u w [] us t s h g = subst (λ xs. AreRewritten u w (t ∷ []) (xs ++ s ∷ [])) (sym (none_of u w us h)) (more t s [] [] g none)
rewritten_snoc u w (x ∷ ts) us t s h g =
    let f = first_of u w x ts us h in
    subst (λ xs. AreRewritten u w (x ∷ (ts ++ t ∷ [])) (xs ++ s ∷ [])) (sym f.2) (more x f.0 (ts ++ t ∷ []) (f.1 ++ s ∷ []) f.3 (rewritten_snoc u w ts f.1 t s f.4 g))

pub rewritten_more : (u w : Term) (ts made made' : List Term) (i : ℕ) (t s : Term) → i < length ts → t ≡ get_or ts i t → AreRewritten u w (take i ts) made → IsRewritten u w t s → made' ≡ made ++ s ∷ [] → AreRewritten u w (take (i + 1) ts) made'
rewritten_more u w ts made made' i t s h e so step m =
    let next : take (i + 1) ts ≡ take i ts ++ t ∷ [] = (rw add-one refl) ∙ taken_snoc ts i t h e in
    subst (AreRewritten u w (take (i + 1) ts)) (sym m) (subst (λ xs. AreRewritten u w xs (made ++ s ∷ [])) (sym next) (rewritten_snoc u w (take i ts) made t s so step))

lits_snoc : (u w : Term) (ls ms : List Lit) (l m : Lit) → AreLitsRewritten u w ls ms → m.positive ≡ l.positive → IsAtomRewritten u w l.atom m.atom → AreLitsRewritten u w (ls ++ l ∷ []) (ms ++ m ∷ [])
lits_snoc u w [] ms l m h e g = (m, [], ap (λ (xs : List Lit). xs ++ m ∷ []) h, e, g, refl)
lits_snoc u w (k ∷ ls) ms l m h e g = (h.0, h.1 ++ m ∷ [], ap (λ (xs : List Lit). xs ++ m ∷ []) h.2, h.3, h.4, lits_snoc u w ls h.1 l m h.5 e g)

pub lits_more : (u w : Term) (ls made made' : List Lit) (i : ℕ) (l m : Lit) → i < length ls → l ≡ get_or ls i l → AreLitsRewritten u w (take i ls) made → m.positive ≡ l.positive → IsAtomRewritten u w l.atom m.atom → made' ≡ made ++ m ∷ [] → AreLitsRewritten u w (take (i + 1) ls) made'
lits_more u w ls made made' i l m h e so g step is =
    let next : take (i + 1) ls ≡ take i ls ++ l ∷ [] = (rw add-one refl) ∙ taken_snoc ls i l h e in
    subst (AreLitsRewritten u w (take (i + 1) ls)) (sym is) (subst (λ xs. AreLitsRewritten u w xs (made ++ m ∷ [])) (sym next) (lits_snoc u w (take i ls) made l m so g step))

-- a term that is not the one, and the one itself
pub at_itself : (u w t s : Term) → t ≡ u → s ≡ w → IsRewritten u w t s
at_itself u w t s e f = subst (λ x. IsRewritten u w x s) (sym e) (subst (IsRewritten u w u) (sym f) all_of_it)

pub at_variable : (u w t : Term) (k : ℕ) → (t ≡ u → ⊥) → t ≡ Var k → IsRewritten u w t (Var k)
at_variable u w t k no_ e = subst (λ x. IsRewritten u w x (Var k)) (sym e) (a_variable k (λ f. no_ (e ∙ f)))

pub at_inside : (u w t : Term) (f : ℕ) (ts lent us : List Term) → (t ≡ u → ⊥) → t ≡ App f ts → lent ≡ ts → AreRewritten u w lent us → IsRewritten u w t (App f us)
at_inside u w t f ts lent us no_ e same h = subst (λ x. IsRewritten u w x (App f us)) (sym e) (inside f ts us (λ g. no_ (e ∙ g)) (subst (λ xs. AreRewritten u w xs us) same h))
