-- A symbol that is not in a formula is not in its normal form.
use Rattle.std.specs.Prelude.{ℕ, ◌≡◌, ◌&&◌, Bool, true, false, not, List, [], ◌∷◌, map, refl}
use Rattle.std.specs.List.{AllByRecursion as Each, list_any}
use Rattle.std.proofs.Common.{sym, subst, ◌∙◌, inl, inr, ◌⊎◌}
use Rattle.fof_terms.specs.declared.term.Term.{Var}
use Rattle.fof_terms.specs.declared.form.Form.{Form}
use Rattle.fof_terms.proofs.Induction.{form_induction}
use Rattle.fof_terms.specs.Occurs.{occurs_in, occurs_in_term}
use Rattle.fof_terms.proofs.OccursFacts.{occurs_in_term-Var, occurs_in-Not, occurs_in-And, occurs_in-Or, occurs_in-Imp, occurs_in-Iff, occurs_in-All, occurs_in-Ex}
use Rattle.fof_terms.specs.Variables.{has_variable}
use Rattle.clause_form.proofs.Joined.{Memberwise, join_keeps}
use Rattle.clause_form.specs.Norm.{signed, node, join, quantifier, quantified, norm_of}
use Rattle.clause_form.proofs.NormFacts.{quantified-kept, quantified-dropped, norm_of-Atom, norm_of-Eq, norm_of-Not, norm_of-And, norm_of-Or, norm_of-Imp, norm_of-Iff, norm_of-All, norm_of-Ex}
use Rattle.skolem_fresh.proofs.Entering.{neither, both_false, no_and}
use Rattle.skolem_fresh.proofs.Occurring.{instance_occurs}

either : (b : Bool) → (b ≡ true) ⊎ (b ≡ false)
either true = inl refl
either false = inr refl

pub none_has : {X : Type 0} (f : X → Bool) (xs : List X) → Each (λ x. f x ≡ false) xs → list_any f xs ≡ false
none_has f [] h = refl
none_has f (x ∷ xs) h = both_false (f x) (list_any f xs) h.0 (none_has f xs h.1)

pub each_lacks : {X : Type 0} (f : X → Bool) (xs : List X) → list_any f xs ≡ false → Each (λ x. f x ≡ false) xs
each_lacks f [] h = tt
each_lacks f (x ∷ xs) h = let parts = neither (f x) (list_any f xs) h in (parts.0, each_lacks f xs parts.1)

module _ (k : ℕ) where
  abbrev pub Lacks : Form → Type 0
  Lacks a = occurs_in k a ≡ false

  lacking_nodes : Memberwise Lacks
  lacking_nodes = record { make = make; take = take } where
    make : (g : Bool) (as_ : List Form) → Each Lacks as_ → Lacks (node g as_)
    make true as_ h = occurs_in-And k as_ ∙ none_has (occurs_in k) as_ h
    make false as_ h = occurs_in-Or k as_ ∙ none_has (occurs_in k) as_ h

    take : (g : Bool) (as_ : List Form) → Lacks (node g as_) → Each Lacks as_
    take true as_ h = each_lacks (occurs_in k) as_ (sym (occurs_in-And k as_) ∙ h)
    take false as_ h = each_lacks (occurs_in k) as_ (sym (occurs_in-Or k as_) ∙ h)

  signed_lacks : (g : Bool) (a : Form) → Lacks a → Lacks (signed g a)
  signed_lacks true a h = h
  signed_lacks false a h = occurs_in-Not k a ∙ h

  quantifier_lacks : (g : Bool) (s : ℕ) (a : Form) → Lacks a → Lacks (quantifier g s a)
  quantifier_lacks true s a h = occurs_in-All k s a ∙ h
  quantifier_lacks false s a h = occurs_in-Ex k s a ∙ h

  quantified_lacks : (g : Bool) (s : ℕ) (a : Form) → Lacks a → Lacks (quantified g s a)
  quantified_lacks g s a h =
      elim (either (has_variable 0 a)) [
        | inl e ↦ subst Lacks (sym (quantified-kept g s a e)) (quantifier_lacks g s a h)
        | inr e ↦
            subst Lacks (sym (quantified-dropped g s a e))
            (instance_occurs k (Var 0) a 0 ∙ both_false (occurs_in k a) (has_variable 0 a && occurs_in_term k (Var 0)) h (no_and (has_variable 0 a) (occurs_in_term k (Var 0)) (occurs_in_term-Var k 0)))
      ]

  abbrev Kept : Form → Type 0
  Kept a = (g : Bool) → Lacks a → Lacks (norm_of g a)

  all_kept : (g : Bool) (as_ : List Form) → Each Kept as_ → Each Lacks as_ → Each Lacks (map (norm_of g) as_)
  all_kept g [] all h = tt
  all_kept g (a ∷ as_) all h = (all.0 g h.0, all_kept g as_ all.1 h.1)

  join_lacks : (g : Bool) (as_ : List Form) → Each Lacks as_ → Lacks (join g as_)
  join_lacks g as_ h = join_keeps Lacks lacking_nodes g as_ h

  pub norm_lacks : (a : Form) → Kept a
  norm_lacks = form_induction Kept (record {
    atom = λ p ts g h. subst Lacks (sym (norm_of-Atom g p ts)) (signed_lacks g _ h);
    eq = λ l r g h. subst Lacks (sym (norm_of-Eq g l r)) (signed_lacks g _ h);
    not = λ a ih g h. subst Lacks (sym (norm_of-Not g a)) (ih (not g) (sym (occurs_in-Not k a) ∙ h));
    and = λ as_ all g h. subst Lacks (sym (norm_of-And g as_)) (join_lacks g (map (norm_of g) as_) (all_kept g as_ all (each_lacks (occurs_in k) as_ (sym (occurs_in-And k as_) ∙ h))));
    or = λ as_ all g h. subst Lacks (sym (norm_of-Or g as_)) (join_lacks (not g) (map (norm_of g) as_) (all_kept g as_ all (each_lacks (occurs_in k) as_ (sym (occurs_in-Or k as_) ∙ h))));
    imp = λ a b ih jh g h.
        let parts = neither (occurs_in k a) (occurs_in k b) (sym (occurs_in-Imp k a b) ∙ h) in
        subst Lacks (sym (norm_of-Imp g a b)) (join_lacks (not g) (norm_of (not g) a ∷ norm_of g b ∷ []) (ih (not g) parts.0, (jh g parts.1, tt)));
    iff = λ a b ih jh g h.
        let parts = neither (occurs_in k a) (occurs_in k b) (sym (occurs_in-Iff k a b) ∙ h) in
        let xs = norm_of (not g) a ∷ norm_of g b ∷ [] in
        let ys = norm_of g a ∷ norm_of (not g) b ∷ [] in
        let first = join_lacks (not g) xs (ih (not g) parts.0, (jh g parts.1, tt)) in
        let second = join_lacks (not g) ys (ih g parts.0, (jh (not g) parts.1, tt)) in
        subst Lacks (sym (norm_of-Iff g a b)) (join_lacks g (join (not g) xs ∷ join (not g) ys ∷ []) (first, (second, tt)));
    all = λ s a ih g h. subst Lacks (sym (norm_of-All g s a)) (quantified_lacks g s (norm_of g a) (ih g (sym (occurs_in-All k s a) ∙ h)));
    ex = λ s a ih g h. subst Lacks (sym (norm_of-Ex g s a)) (quantified_lacks (not g) s (norm_of g a) (ih g (sym (occurs_in-Ex k s a) ∙ h)));
  })
