-- A normal form with functions in place of its existential variables is loose, and so its normal form has its clauses.
use Rattle.std.specs.Prelude.{ℕ, suc, ◌≡◌, ◌+◌, ◌||◌, Bool, true, false, List, [], ◌∷◌, map, refl}
use Rattle.std.specs.List.{AllByRecursion, list_any}
use Rattle.std.proofs.Common.{ap, sym, subst, ◌∙◌, arith, eq-eqb, inl, inr}
use Rattle.std.proofs.lemmas.Bool.{eqb-true, or_left, or_right}
use Rattle.fof_terms.specs.declared.form.Form.{Form, Not}
use Rattle.fof_terms.specs.declared.term.Term.{Term, Var, App}
use Rattle.fof_terms.specs.Lift.{lifted_term}
use Rattle.fof_terms.specs.Variables.{has_in_term, has_variable}
use Rattle.fof_terms.proofs.Induction.{form_induction, term_induction}
use Rattle.fof_terms.proofs.LiftingLaws.{moves}
use Rattle.fof_terms.proofs.VariablesFacts.{has_in_term-App, has_in_term-Var, has_variable-All, has_variable-And, has_variable-Atom, has_variable-Eq, has_variable-Ex, has_variable-Iff, has_variable-Imp, has_variable-Not, has_variable-Or}
use Rattle.clause_form.specs.Clauses.{clauses_in, in_turn, skolem_made, skolemized, under_all, under_ex, variables}
use Rattle.clause_form.specs.Images.{image}
use Rattle.clause_form.specs.Norm.{node, norm_of}
use Rattle.clause_form.proofs.ImagesFacts.{image-App, image-Var}
use Rattle.step_clauses.proofs.SkolemizingFacts.{made-All, made-And, made-Atom, made-Eq, made-Ex, made-Iff, made-Imp, made-Not, made-Or}
use Rattle.flat_form.proofs.Own.{IsOwn, Stands, own, own_iff, own_imp, own_in, own_node, own_quantifier, own-All, own-And, own-Ex, own-Iff, own-Imp, own-Not, own-Or}
use Rattle.flat_form.proofs.OwnNorms.{norm_own}
use Rattle.printed_steps.proofs.Terms.{either}
use Rattle.skolemized_lines.proofs.Loose.{AreLoose, IsFilled, IsLoose, a_denied_atom, a_denied_equation, a_node, an_atom, an_equation, for_each, loose_kept, more, none, standing_filled}

-- ---- variables that stay

abbrev Stays : (ℕ → Term) → ℕ → ℕ → Term → Type 0
Stays s k j t = has_in_term k t ≡ true → has_in_term j (image s t) ≡ true

any_image : (s : ℕ → Term) (k j : ℕ) (ts : List Term) → AllByRecursion (Stays s k j) ts → list_any (has_in_term k) ts ≡ true → list_any (has_in_term j) (map (image s) ts) ≡ true
any_image s k j [] all h = h
any_image s k j (t ∷ ts) all h = elim (either (has_in_term k t) (list_any (has_in_term k) ts) h) [
  | inl one ↦ or_left (has_in_term j (image s t)) (list_any (has_in_term j) (map (image s) ts)) (all.0 one)
  | inr others ↦ or_right (has_in_term j (image s t)) (list_any (has_in_term j) (map (image s) ts)) (any_image s k j ts all.1 others)
]

in_image : (s : ℕ → Term) (k j : ℕ) → s k ≡ Var j → (t : Term) → Stays s k j t
in_image s k j e = term_induction (Stays s k j) (record {
  var = λ i h.
      let same : i ≡ k = eqb-true i k (sym (has_in_term-Var k i) ∙ h) in
      ap (has_in_term j) (image-Var s i ∙ ap s same ∙ e) ∙ has_in_term-Var j j ∙ eq-eqb j j refl;
  app = λ f ts all h. ap (has_in_term j) (image-App s f ts) ∙ has_in_term-App j f (map (image s) ts) ∙ any_image s k j ts all (sym (has_in_term-App k f ts) ∙ h);
})

each_image : (s : ℕ → Term) (k j : ℕ) → s k ≡ Var j → (ts : List Term) → AllByRecursion (Stays s k j) ts
each_image s k j e [] = tt
each_image s k j e (t ∷ ts) = (in_image s k j e t, each_image s k j e ts)

any_in_image : (s : ℕ → Term) (k j : ℕ) → s k ≡ Var j → (ts : List Term) → list_any (has_in_term k) ts ≡ true → list_any (has_in_term j) (map (image s) ts) ≡ true
any_in_image s k j e ts h = any_image s k j ts (each_image s k j e ts) h

one_of_two : (a b c d : Bool) → (a ≡ true → c ≡ true) → (b ≡ true → d ≡ true) → (a || b) ≡ true → (c || d) ≡ true
one_of_two a b c d f g h = elim (either a b h) [
  | inl one ↦ or_left c d (f one)
  | inr other ↦ or_right c d (g other)
]

raised : (s : ℕ → Term) (k j : ℕ) → s k ≡ Var j → under_all s (k + 1) ≡ Var (j + 1)
raised s k j e = let same : k + 1 ≡ suc k = omega arith in ap (under_all s) same ∙ ap (lifted_term 1 0) e ∙ moves 1 0 j (omega arith)

passed : (t : Term) (s : ℕ → Term) (k j : ℕ) → s k ≡ Var j → under_ex t s (k + 1) ≡ Var j
passed t s k j e = let same : k + 1 ≡ suc k = omega arith in ap (under_ex t s) same ∙ e

-- a variable that a variable stands for stays in the formula
abbrev KeepsVariable : Form → Type 0
KeepsVariable a = (k j next n : ℕ) (s : ℕ → Term) → s k ≡ Var j → has_variable k a ≡ true → has_variable j (skolem_made a next n s).0 ≡ true

each_variable : (as_ : List Form) → AllByRecursion KeepsVariable as_ → (k j next n : ℕ) (s : ℕ → Term) → s k ≡ Var j → list_any (has_variable k) as_ ≡ true → list_any (has_variable j) (in_turn (map skolem_made as_) next n s).0 ≡ true
each_variable [] all k j next n s e h = h
each_variable (a ∷ as_) all k j next n s e h =
    one_of_two (has_variable k a) (list_any (has_variable k) as_) (has_variable j (skolem_made a next n s).0) (list_any (has_variable j) (in_turn (map skolem_made as_) (skolem_made a next n s).1 n s).0)
    (all.0 k j next n s e) (each_variable as_ all.1 k j (skolem_made a next n s).1 n s e) h

keeps_variable : (a : Form) → KeepsVariable a
keeps_variable = form_induction KeepsVariable (record {
  atom = λ p ts k j next n s e h. ap (λ (x : Form × ℕ). has_variable j x.0) (made-Atom p ts next n s) ∙ has_variable-Atom j p (map (image s) ts) ∙ any_in_image s k j e ts (sym (has_variable-Atom k p ts) ∙ h);
  eq = λ l r k j next n s e h.
      ap (λ (x : Form × ℕ). has_variable j x.0) (made-Eq l r next n s) ∙ has_variable-Eq j (image s l) (image s r)
      ∙ one_of_two (has_in_term k l) (has_in_term k r) (has_in_term j (image s l)) (has_in_term j (image s r)) (in_image s k j e l) (in_image s k j e r) (sym (has_variable-Eq k l r) ∙ h);
  not = λ a ih k j next n s e h. ap (λ (x : Form × ℕ). has_variable j x.0) (made-Not a next n s) ∙ has_variable-Not j (skolem_made a next n s).0 ∙ ih k j next n s e (sym (has_variable-Not k a) ∙ h);
  and = λ as_ all k j next n s e h.
      ap (λ (x : Form × ℕ). has_variable j x.0) (made-And as_ next n s) ∙ has_variable-And j (in_turn (map skolem_made as_) next n s).0 ∙ each_variable as_ all k j next n s e (sym (has_variable-And k as_) ∙ h);
  or = λ as_ all k j next n s e h.
      ap (λ (x : Form × ℕ). has_variable j x.0) (made-Or as_ next n s) ∙ has_variable-Or j (in_turn (map skolem_made as_) next n s).0 ∙ each_variable as_ all k j next n s e (sym (has_variable-Or k as_) ∙ h);
  imp = λ a b ih jh k j next n s e h.
      ap (λ (x : Form × ℕ). has_variable j x.0) (made-Imp a b next n s) ∙ has_variable-Imp j (skolem_made a next n s).0 (skolem_made b (skolem_made a next n s).1 n s).0
      ∙ one_of_two (has_variable k a) (has_variable k b) (has_variable j (skolem_made a next n s).0) (has_variable j (skolem_made b (skolem_made a next n s).1 n s).0) (ih k j next n s e) (jh k j (skolem_made a next n s).1 n s e) (sym (has_variable-Imp k a b) ∙ h);
  iff = λ a b ih jh k j next n s e h.
      ap (λ (x : Form × ℕ). has_variable j x.0) (made-Iff a b next n s) ∙ has_variable-Iff j (skolem_made a next n s).0 (skolem_made b (skolem_made a next n s).1 n s).0
      ∙ one_of_two (has_variable k a) (has_variable k b) (has_variable j (skolem_made a next n s).0) (has_variable j (skolem_made b (skolem_made a next n s).1 n s).0) (ih k j next n s e) (jh k j (skolem_made a next n s).1 n s e) (sym (has_variable-Iff k a b) ∙ h);
  all = λ q a ih k j next n s e h.
      ap (λ (x : Form × ℕ). has_variable j x.0) (made-All q a next n s) ∙ has_variable-All j q (skolem_made a next (n + 1) (under_all s)).0
      ∙ ih (k + 1) (j + 1) next (n + 1) (under_all s) (raised s k j e) (sym (has_variable-All k q a) ∙ h);
  ex = λ q a ih k j next n s e h.
      ap (λ (x : Form × ℕ). has_variable j x.0) (made-Ex q a next n s)
      ∙ ih (k + 1) j (next + 1) n (under_ex (App next (variables n)) s) (passed (App next (variables n)) s k j e) (sym (has_variable-Ex k q a) ∙ h);
})

-- ---- what is made is loose

no_variable : (g : Bool) (k : ℕ) → has_variable k (node g []) ≡ false
no_variable true k = has_variable-And k []
no_variable false k = has_variable-Or k []

bound_filled : (a : Form) → has_variable 0 a ≡ true → IsFilled a
bound_filled a h g e = let clash : true ≡ false = sym h ∙ ap (has_variable 0) e ∙ no_variable g 0 in cc

abbrev IsDenied : Form → Type 0
IsDenied a = (own a).atomic ≡ true → (next n : ℕ) (s : ℕ → Term) → IsLoose (Not (skolem_made a next n s).0)

denied_loose : (a : Form) → IsDenied a
denied_loose = form_induction IsDenied (record {
  atom = λ p ts h next n s. subst (λ (x : Form × ℕ). IsLoose (Not x.0)) (sym (made-Atom p ts next n s)) (a_denied_atom p (map (image s) ts));
  eq = λ l r h next n s. subst (λ (x : Form × ℕ). IsLoose (Not x.0)) (sym (made-Eq l r next n s)) (a_denied_equation (image s l) (image s r));
  not = λ a ih h next n s. absurd (let never : false ≡ true = rw (own-Not a) at h in cc);
  and = λ as_ all h next n s. absurd (let never : false ≡ true = rw (own-And as_) at h in cc);
  or = λ as_ all h next n s. absurd (let never : false ≡ true = rw (own-Or as_) at h in cc);
  imp = λ a b ih jh h next n s. absurd (let never : false ≡ true = rw (own-Imp a b) at h in cc);
  iff = λ a b ih jh h next n s. absurd (let never : false ≡ true = rw (own-Iff a b) at h in cc);
  all = λ q a ih h next n s. absurd (let never : false ≡ true = rw (own-All q a) at h in cc);
  ex = λ q a ih h next n s. absurd (let never : false ≡ true = rw (own-Ex q a) at h in cc);
})

abbrev MakesLoose : Form → Type 0
MakesLoose a = IsOwn a → IsFilled a → (next n : ℕ) (s : ℕ → Term) → IsLoose (skolem_made a next n s).0

turn_loose : (g : Bool) (as_ : List Form) → AllByRecursion MakesLoose as_ → AllByRecursion IsOwn as_ → AllByRecursion (Stands g) as_ → (next n : ℕ) (s : ℕ → Term) → AreLoose (in_turn (map skolem_made as_) next n s).0
turn_loose g [] all own stand next n s = none
turn_loose g (a ∷ as_) all own stand next n s =
    more (skolem_made a next n s).0 (in_turn (map skolem_made as_) (skolem_made a next n s).1 n s).0 (all.0 own.0 (standing_filled g a (own.0, stand.0)) next n s)
    (turn_loose g as_ all.1 own.1 stand.1 (skolem_made a next n s).1 n s)

node_loose : (g : Bool) (as_ : List Form) → AllByRecursion MakesLoose as_ → IsOwn (node g as_) → IsFilled (node g as_) → (next n : ℕ) (s : ℕ → Term) → IsLoose (node g (in_turn (map skolem_made as_) next n s).0)
node_loose g [] all own filled next n s = absurd (filled g refl)
node_loose g (a ∷ as_) all own filled next n s =
    let m = own_node g (a ∷ as_) own in
    a_node g (skolem_made a next n s).0 (in_turn (map skolem_made as_) (skolem_made a next n s).1 n s).0 (turn_loose g (a ∷ as_) all m.own m.stand next n s)

makes_loose : (a : Form) → MakesLoose a
makes_loose = form_induction MakesLoose (record {
  atom = λ p ts own filled next n s. subst (λ (x : Form × ℕ). IsLoose x.0) (sym (made-Atom p ts next n s)) (an_atom p (map (image s) ts));
  eq = λ l r own filled next n s. subst (λ (x : Form × ℕ). IsLoose x.0) (sym (made-Eq l r next n s)) (an_equation (image s l) (image s r));
  not = λ a ih own filled next n s. subst (λ (x : Form × ℕ). IsLoose x.0) (sym (made-Not a next n s)) (denied_loose a (ap own_in (sym (own-Not a)) ∙ own) next n s);
  and = λ as_ all own filled next n s. subst (λ (x : Form × ℕ). IsLoose x.0) (sym (made-And as_ next n s)) (node_loose true as_ all own filled next n s);
  or = λ as_ all own filled next n s. subst (λ (x : Form × ℕ). IsLoose x.0) (sym (made-Or as_ next n s)) (node_loose false as_ all own filled next n s);
  imp = λ a b ih jh own filled next n s. absurd (own_imp a b own);
  iff = λ a b ih jh own filled next n s. absurd (own_iff a b own);
  all = λ q a ih own filled next n s.
      let parts = own_quantifier true q a own in
      subst (λ (x : Form × ℕ). IsLoose x.0) (sym (made-All q a next n s))
      (for_each q (skolem_made a next (n + 1) (under_all s)).0 (keeps_variable a 0 0 next (n + 1) (under_all s) refl parts.1) (ih parts.0 (bound_filled a parts.1) next (n + 1) (under_all s)));
  ex = λ q a ih own filled next n s.
      let parts = own_quantifier false q a own in
      subst (λ (x : Form × ℕ). IsLoose x.0) (sym (made-Ex q a next n s)) (ih parts.0 (bound_filled a parts.1) (next + 1) n (under_ex (App next (variables n)) s));
})

-- the normal form of what is made has its clauses
pub made_clauses : (a : Form) (next : ℕ) → IsFilled (norm_of true a) → clauses_in (norm_of true (skolemized (norm_of true a) next)) ≡ clauses_in (skolemized (norm_of true a) next)
made_clauses a next filled = (loose_kept (skolemized (norm_of true a) next) (makes_loose (norm_of true a) (norm_own a true) filled next 0 Var)).clauses
