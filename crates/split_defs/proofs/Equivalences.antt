-- What relates a head to its meaning follows from their equivalence.
use Rattle.std.proofs.Common.{ℕ, ◌≡◌, Bool, true, false, List, ◌∷◌, refl, sym, subst, ◌∙◌, inl, inr}
use Rattle.std.specs.Prelude.{Result, IfOk}
use Rattle.fof_terms.proofs.Trees.{Imp-injective, Iff-injective}
use Rattle.fof_terms.proofs.Scoped.{sorted_of_iff}
use Rattle.fof_terms.specs.declared.form.Form.{Form, Imp, Iff}
use Rattle.kernel.specs.Statements.{Statements}
use Rattle.kernel.specs.Proves.{Proves}
use Rattle.kernel.proofs.Building.{shown_sorted, by_imp_i, by_imp_e, by_iff_i, by_iff_l, by_iff_r}
use Rattle.kernel.specs.declared.proof.Proof.{Proof, Hyp, ImpI, IffI, IffL, IffR}
use Rattle.derive_kit.proofs.Built.{ok_map}
use Rattle.derive_kit.proofs.Members.{first, second}
use Rattle.split_defs.specs.DefinitionRule.{Relates}
use Rattle.split_defs.specs.code.DefinitionSearch.{RelatesBy}
use Rattle.split_defs.specs.code.Trees.{turned_tree, forth_tree, back_tree}
use Rattle.split_defs.proofs.DefinitionEnds.{imp_not_iff}

module _ (t : Statements) (v : List ℕ) (h : List Form) (l r : Form) (p : Proof) where
  turned_shows : Proves t v h p (Iff r l) → Proves t v h (turned_tree l r p) (Iff l r)
  turned_shows w =
      let s = shown_sorted t v h p (Iff r l) w in
      let parts = sorted_of_iff t.vocabulary v 2147483647 r l s in
      let h1 = Iff r l ∷ h in
      let to = by_iff_r t v (l ∷ h1) (Hyp 1) (Hyp 0) r l (second t v h l (Iff r l) s) (first t v h1 l parts.1) in
      let from = by_iff_l t v (r ∷ h1) (Hyp 1) (Hyp 0) r l (second t v h r (Iff r l) s) (first t v h1 r parts.0) in
      let rest = by_iff_i t v h1 l r (IffR (Hyp 1) (Hyp 0)) (IffL (Hyp 1) (Hyp 0)) to from in
      by_imp_e t v h (ImpI (Iff r l) (IffI l r (IffR (Hyp 1) (Hyp 0)) (IffL (Hyp 1) (Hyp 0)))) p (Iff r l) (Iff l r) (by_imp_i t v h (Iff r l) (Iff l r) (IffI l r (IffR (Hyp 1) (Hyp 0)) (IffL (Hyp 1) (Hyp 0))) s rest) w

  forth_shows : Proves t v h p (Iff l r) → Proves t v h (forth_tree l r p) (Imp l r)
  forth_shows w =
      let s = shown_sorted t v h p (Iff l r) w in
      let parts = sorted_of_iff t.vocabulary v 2147483647 l r s in
      let h1 = Iff l r ∷ h in
      let to = by_iff_l t v (l ∷ h1) (Hyp 1) (Hyp 0) l r (second t v h l (Iff l r) s) (first t v h1 l parts.0) in
      let rest = by_imp_i t v h1 l r (IffL (Hyp 1) (Hyp 0)) parts.0 to in
      by_imp_e t v h (ImpI (Iff l r) (ImpI l (IffL (Hyp 1) (Hyp 0)))) p (Iff l r) (Imp l r) (by_imp_i t v h (Iff l r) (Imp l r) (ImpI l (IffL (Hyp 1) (Hyp 0))) s rest) w

  back_shows : Proves t v h p (Iff r l) → Proves t v h (back_tree l r p) (Imp l r)
  back_shows w =
      let s = shown_sorted t v h p (Iff r l) w in
      let parts = sorted_of_iff t.vocabulary v 2147483647 r l s in
      let h1 = Iff r l ∷ h in
      let to = by_iff_r t v (l ∷ h1) (Hyp 1) (Hyp 0) r l (second t v h l (Iff r l) s) (first t v h1 l parts.1) in
      let rest = by_imp_i t v h1 l r (IffR (Hyp 1) (Hyp 0)) parts.1 to in
      by_imp_e t v h (ImpI (Iff r l) (ImpI l (IffR (Hyp 1) (Hyp 0)))) p (Iff r l) (Imp l r) (by_imp_i t v h (Iff r l) (Imp l r) (ImpI l (IffR (Hyp 1) (Hyp 0))) s rest) w

-- what relates a head to its meaning is an equivalence or an implication
pub is_relation : (is_first : Bool) (head a body : Form) → Relates is_first head a body → ((l r : Form) → body ≡ Iff l r → ⊥) → ((l r : Form) → body ≡ Imp l r → ⊥) → ⊥
is_relation true head a body (inl e) iff imp = iff head a e
is_relation true head a body (inr e) iff imp = imp head a e
is_relation false head a body (inl e) iff imp = iff a head e
is_relation false head a body (inr e) iff imp = imp a head e

shown_as : (t : Statements) (v : List ℕ) (h : List Form) (p : Proof) (a b : Form) → a ≡ b → Proves t v h p a → Proves t v h p b
shown_as t v h p a b e w = subst (λ (x : Form). Proves t v h p x) e w

iff_of : (a b c d : Form) → a ≡ c → b ≡ d → Iff a b ≡ Iff c d
iff_of a b c d e f = rw (e, f) refl

pub iff_first : (body l r : Form) (fact : Proof) → body ≡ Iff l r → RelatesBy true body fact fact
iff_first body l r fact e t v h head a (inl f) w = shown_as t v h fact (Iff head a) body (sym f) w
iff_first body l r fact e t v h head a (inr f) w = absurd (imp_not_iff head a l r (sym f ∙ e))

pub iff_second : (body l r : Form) (fact made : Proof) → body ≡ Iff l r → made ≡ turned_tree l r fact → RelatesBy false body fact made
iff_second body l r fact made e is t v h head a (inl f) w =
    let same = Iff-injective l r a head (sym e ∙ f) in
    let w' : Proves t v h fact (Iff r l) = shown_as t v h fact (Iff head a) (Iff r l) (iff_of head a r l (sym same.1) (sym same.0)) w in
    shown_as t v h made (Iff l r) body (sym e) (subst (λ (q : Proof). Proves t v h q (Iff l r)) (sym is) (turned_shows t v h l r fact w'))
iff_second body l r fact made e is t v h head a (inr f) w = absurd (imp_not_iff a head l r (sym f ∙ e))

pub imp_first : (body l r : Form) (fact made : Proof) → body ≡ Imp l r → made ≡ forth_tree l r fact → RelatesBy true body fact made
imp_first body l r fact made e is t v h head a (inl f) w = absurd (imp_not_iff l r head a (sym e ∙ f))
imp_first body l r fact made e is t v h head a (inr f) w =
    let same = Imp-injective l r head a (sym e ∙ f) in
    let w' : Proves t v h fact (Iff l r) = shown_as t v h fact (Iff head a) (Iff l r) (iff_of head a l r (sym same.0) (sym same.1)) w in
    shown_as t v h made (Imp l r) body (sym e) (subst (λ (q : Proof). Proves t v h q (Imp l r)) (sym is) (forth_shows t v h l r fact w'))

pub imp_second : (body l r : Form) (fact made : Proof) → body ≡ Imp l r → made ≡ back_tree l r fact → RelatesBy false body fact made
imp_second body l r fact made e is t v h head a (inl f) w = absurd (imp_not_iff l r a head (sym e ∙ f))
imp_second body l r fact made e is t v h head a (inr f) w =
    let same = Imp-injective l r a head (sym e ∙ f) in
    let w' : Proves t v h fact (Iff r l) = shown_as t v h fact (Iff head a) (Iff r l) (iff_of head a r l (sym same.1) (sym same.0)) w in
    shown_as t v h made (Imp l r) body (sym e) (subst (λ (q : Proof). Proves t v h q (Imp l r)) (sym is) (back_shows t v h l r fact w'))

-- as the code meets it
imp_of : (a b c d : Form) → a ≡ c → b ≡ d → Imp a b ≡ Imp c d
imp_of a b c d e f = rw (e, f) refl

module _ {E : Type 0} (o : Result Proof E) (body left right l r : Form) (fact : Proof) (is_first : Bool) (el : l ≡ left) (er : r ≡ right) where
  pub iff_turned : body ≡ Iff left right → is_first ≡ false → IfOk o (λ made. made ≡ turned_tree l r fact) → IfOk o (RelatesBy is_first body fact)
  iff_turned e second_is h =
      subst (λ (b : Bool). IfOk o (RelatesBy b body fact)) (sym second_is) (ok_map o (λ made is. iff_second body l r fact made (e ∙ iff_of left right l r (sym el) (sym er)) is) h)

  pub imp_forth : body ≡ Imp left right → is_first ≡ true → IfOk o (λ made. made ≡ forth_tree l r fact) → IfOk o (RelatesBy is_first body fact)
  imp_forth e first_is h =
      subst (λ (b : Bool). IfOk o (RelatesBy b body fact)) (sym first_is) (ok_map o (λ made is. imp_first body l r fact made (e ∙ imp_of left right l r (sym el) (sym er)) is) h)

  pub imp_back : body ≡ Imp left right → is_first ≡ false → IfOk o (λ made. made ≡ back_tree l r fact) → IfOk o (RelatesBy is_first body fact)
  imp_back e second_is h =
      subst (λ (b : Bool). IfOk o (RelatesBy b body fact)) (sym second_is) (ok_map o (λ made is. imp_second body l r fact made (e ∙ imp_of left right l r (sym el) (sym er)) is) h)
