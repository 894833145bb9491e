-- A formula with images of its variables: its instances, and its sorts.
use Rattle.std.specs.Prelude.{ℕ, ◌≡◌, ◌+◌, nat_lt, true, List, [], ◌∷◌, length, map, refl}
use Rattle.std.specs.List.{AllByRecursion, list_all}
use Rattle.std.proofs.Common.{ap, ◌∙◌, arith, zero, suc}
use Rattle.std.proofs.Math.Path.{fun_ext}
use Rattle.std.proofs.lemmas.Simd.{map-map}
use Rattle.fof_terms.proofs.Induction.{term_induction, form_induction}
use Rattle.fof_terms.proofs.Trees.{fold-Atom, fold-Eq, fold-Not, fold-And, fold-Or, fold-Imp, fold-Iff, fold-All, fold-Ex}
use Rattle.fof_terms.specs.Lift.{lifted_term}
use Rattle.fof_terms.specs.Instance.{instance_term, instance_at, instance_of}
use Rattle.fof_terms.proofs.InstanceFacts.{instance_term-App, instance_at-Atom, instance_at-Eq, instance_at-Not, instance_at-And, instance_at-Or, instance_at-Imp, instance_at-Iff, instance_at-All, instance_at-Ex}
use Rattle.fof_terms.proofs.LiftingLaws.{both, here, smaller, moves, instance_of_lifted, lifted_instance}
use Rattle.fof_terms.specs.Sorts.{is_sorted}
use Rattle.fof_terms.proofs.SortsFacts.{is_sorted-Atom, is_sorted-Eq, is_sorted-Not, is_sorted-And, is_sorted-Or, is_sorted-Imp, is_sorted-Iff, is_sorted-All, is_sorted-Ex}
use Rattle.fof_terms.specs.Vocabulary.{Vocabulary}
use Rattle.fof_terms.specs.declared.term.Term.{Term, Var, App}
use Rattle.fof_terms.specs.declared.form.Form.{Form, Atom, Eq, Not, And, Or, Imp, Iff, All, Ex}
use Rattle.fof_terms.specs.declared.form.Form.TheFolds.{fold-Form}
use Rattle.clause_form.specs.Clauses.{under_all, under_ex}
use Rattle.clause_form.specs.Images.{image, IsImages}
use Rattle.clause_form.proofs.ImagesFacts.{image-Var, image-App}
use Rattle.step_clauses.proofs.SkolemizingFacts.{lifted_none}
use Rattle.step_clauses.proofs.SkolemSorts.{images_under_all, atom_fits, equation_fits}
use Rattle.fof_terms.specs.declared.form.Form.TheOpen as form

-- The formula with images of its variables.
abbrev pub put_step : form.Form-F ((ℕ → Term) → Form) → (ℕ → Term) → Form
put_step (form.Atom p ts) s = Atom p (map (image s) ts)
put_step (form.Eq l r) s = Eq (image s l) (image s r)
put_step (form.Not a) s = Not (a s)
put_step (form.And as_) s = And (map (λ (a : (ℕ → Term) → Form). a s) as_)
put_step (form.Or as_) s = Or (map (λ (a : (ℕ → Term) → Form). a s) as_)
put_step (form.Imp a b) s = Imp (a s) (b s)
put_step (form.Iff a b) s = Iff (a s) (b s)
put_step (form.All q a) s = All q (a (under_all s))
put_step (form.Ex q a) s = Ex q (a (under_all s))

unfoldable pub put : Form → (ℕ → Term) → Form
put = fold-Form ((ℕ → Term) → Form) put_step

pub put-Atom : (p : ℕ) (ts : List Term) (s : ℕ → Term) → put (Atom p ts) s ≡ Atom p (map (image s) ts)
unfolding put
put-Atom p ts s = ap (λ (g : (ℕ → Term) → Form). g s) (fold-Atom ((ℕ → Term) → Form) put_step p ts)

pub put-Eq : (l r : Term) (s : ℕ → Term) → put (Eq l r) s ≡ Eq (image s l) (image s r)
unfolding put
put-Eq l r s = ap (λ (g : (ℕ → Term) → Form). g s) (fold-Eq ((ℕ → Term) → Form) put_step l r)

pub put-Not : (a : Form) (s : ℕ → Term) → put (Not a) s ≡ Not (put a s)
unfolding put
put-Not a s = ap (λ (g : (ℕ → Term) → Form). g s) (fold-Not ((ℕ → Term) → Form) put_step a)

pub put-And : (as_ : List Form) (s : ℕ → Term) → put (And as_) s ≡ And (map (λ (a : Form). put a s) as_)
unfolding put
put-And as_ s = ap (λ (g : (ℕ → Term) → Form). g s) (fold-And ((ℕ → Term) → Form) put_step as_) ∙ ap And (map-map (λ (g : (ℕ → Term) → Form). g s) (fold-Form ((ℕ → Term) → Form) put_step) as_)

pub put-Or : (as_ : List Form) (s : ℕ → Term) → put (Or as_) s ≡ Or (map (λ (a : Form). put a s) as_)
unfolding put
put-Or as_ s = ap (λ (g : (ℕ → Term) → Form). g s) (fold-Or ((ℕ → Term) → Form) put_step as_) ∙ ap Or (map-map (λ (g : (ℕ → Term) → Form). g s) (fold-Form ((ℕ → Term) → Form) put_step) as_)

pub put-Imp : (a b : Form) (s : ℕ → Term) → put (Imp a b) s ≡ Imp (put a s) (put b s)
unfolding put
put-Imp a b s = ap (λ (g : (ℕ → Term) → Form). g s) (fold-Imp ((ℕ → Term) → Form) put_step a b)

pub put-Iff : (a b : Form) (s : ℕ → Term) → put (Iff a b) s ≡ Iff (put a s) (put b s)
unfolding put
put-Iff a b s = ap (λ (g : (ℕ → Term) → Form). g s) (fold-Iff ((ℕ → Term) → Form) put_step a b)

pub put-All : (q : ℕ) (a : Form) (s : ℕ → Term) → put (All q a) s ≡ All q (put a (under_all s))
unfolding put
put-All q a s = ap (λ (g : (ℕ → Term) → Form). g s) (fold-All ((ℕ → Term) → Form) put_step q a)

pub put-Ex : (q : ℕ) (a : Form) (s : ℕ → Term) → put (Ex q a) s ≡ Ex q (put a (under_all s))
unfolding put
put-Ex q a s = ap (λ (g : (ℕ → Term) → Form). g s) (fold-Ex ((ℕ → Term) → Form) put_step q a)

agree : {X Y : Type 0} (f g : X → Y) (xs : List X) → AllByRecursion (λ x. f x ≡ g x) xs → map f xs ≡ map g xs
agree f g [] e = refl
agree f g (x ∷ xs) e = rw (e.0, agree f g xs e.1) refl

agree_all : {X Y : Type 0} (f g : X → Y) (xs : List X) → ((x : X) → f x ≡ g x) → map f xs ≡ map g xs
agree_all f g [] e = refl
agree_all f g (x ∷ xs) e = rw (e x, agree_all f g xs e) refl

-- An instance of a formula with images.
module _ (t : Term) where
  abbrev Instances : ℕ → (ℕ → Term) → (ℕ → Term) → Type 0
  Instances d s r = (k : ℕ) → instance_term t d (s k) ≡ r k

  under : (d : ℕ) (s r : ℕ → Term) → Instances d s r → Instances (d + 1) (under_all s) (under_all r)
  under d s r e zero = smaller t (d + 1) 0 (omega arith)
  under d s r e (suc k) = lifted_instance t d 1 (d + 1) (omega arith) (s k) ∙ ap (lifted_term 1 0) (e k)

  term_put : (d : ℕ) (s r : ℕ → Term) → Instances d s r → (u : Term) → instance_term t d (image s u) ≡ image r u
  term_put d s r e = term_induction _ (record {
    var = λ k. simp image-Var (e k);
    app = λ f ts all. simp (image-App, instance_term-App, map-map) (ap (App f) (agree _ _ ts all));
  })

  abbrev Put : Form → Type 0
  Put a = (d : ℕ) (s r : ℕ → Term) → Instances d s r → instance_at t d (put a s) ≡ put a r

  all_put : (as_ : List Form) → AllByRecursion Put as_ → (d : ℕ) (s r : ℕ → Term) → Instances d s r → map (instance_at t d) (map (λ (a : Form). put a s) as_) ≡ map (λ (a : Form). put a r) as_
  all_put [] all d s r e = refl
  all_put (a ∷ as_) all d s r e = rw (all.0 d s r e, all_put as_ all.1 d s r e) refl

  instance_put : (a : Form) → Put a
  instance_put = form_induction Put (record {
    atom = λ p ts d s r e. rw (put-Atom, put-Atom, instance_at-Atom, map-map) (ap (Atom p) (agree_all (λ (u : Term). instance_term t d (image s u)) (image r) ts (term_put d s r e)));
    eq = λ l u d s r e. rw (put-Eq, put-Eq, instance_at-Eq, term_put d s r e l, term_put d s r e u) refl;
    not = λ a ih d s r e. rw (put-Not, put-Not, instance_at-Not, ih d s r e) refl;
    and = λ as_ all d s r e. rw (put-And, put-And, instance_at-And, all_put as_ all d s r e) refl;
    or = λ as_ all d s r e. rw (put-Or, put-Or, instance_at-Or, all_put as_ all d s r e) refl;
    imp = λ a b ih jh d s r e. rw (put-Imp, put-Imp, instance_at-Imp, ih d s r e, jh d s r e) refl;
    iff = λ a b ih jh d s r e. rw (put-Iff, put-Iff, instance_at-Iff, ih d s r e, jh d s r e) refl;
    all = λ q a ih d s r e. rw (put-All, put-All, instance_at-All, ih (d + 1) (under_all s) (under_all r) (under d s r e)) refl;
    ex = λ q a ih d s r e. rw (put-Ex, put-Ex, instance_at-Ex, ih (d + 1) (under_all s) (under_all r) (under d s r e)) refl;
  })

value_put : (t : Term) (s : ℕ → Term) → Instances t 0 (under_all s) (under_ex t s)
value_put t s zero = here t 0 0 refl ∙ lifted_none t
value_put t s (suc k) = instance_of_lifted t (s k) 0 0 (omega arith) ∙ lifted_none (s k)

-- the body of an existential formula with the value in place of its variable
pub body_put : (a : Form) (t : Term) (s : ℕ → Term) → instance_of (put a (under_all s)) t ≡ put a (under_ex t s)
body_put a t s = instance_put t a 0 (under_all s) (under_ex t s) (value_put t s)

-- Sorts.
module _ (w : Vocabulary) where
  abbrev PutFits : Form → Type 0
  PutFits a = (from to : List ℕ) (s : ℕ → Term) → IsImages w from to s → is_sorted w from a ≡ true → is_sorted w to (put a s) ≡ true

  all_put_fit : (as_ : List Form) → AllByRecursion PutFits as_ → (from to : List ℕ) (s : ℕ → Term) → IsImages w from to s → list_all (is_sorted w from) as_ ≡ true → list_all (is_sorted w to) (map (λ (a : Form). put a s) as_) ≡ true
  all_put_fit [] all from to s h e = refl
  all_put_fit (a ∷ as_) all from to s h e =
      let parts = both (is_sorted w from a) (list_all (is_sorted w from) as_) e in
      rw (all.0 from to s h parts.0, all_put_fit as_ all.1 from to s h parts.1) refl

  pub put_fits : (a : Form) → PutFits a
  put_fits = form_induction PutFits (record {
    atom = λ p ts from to s h e. rw (put-Atom, is_sorted-Atom) (atom_fits w p ts from to s h (rw is_sorted-Atom at e));
    eq = λ l r from to s h e. rw (put-Eq, is_sorted-Eq) (equation_fits w l r from to s h (rw is_sorted-Eq at e));
    not = λ a ih from to s h e. rw (put-Not, is_sorted-Not) (ih from to s h (rw is_sorted-Not at e));
    and = λ as_ all from to s h e. rw (put-And, is_sorted-And) (all_put_fit as_ all from to s h (rw is_sorted-And at e));
    or = λ as_ all from to s h e. rw (put-Or, is_sorted-Or) (all_put_fit as_ all from to s h (rw is_sorted-Or at e));
    imp = λ a b ih jh from to s h e.
        let parts = both (is_sorted w from a) (is_sorted w from b) (rw is_sorted-Imp at e) in
        rw (put-Imp, is_sorted-Imp, ih from to s h parts.0, jh from to s h parts.1) refl;
    iff = λ a b ih jh from to s h e.
        let parts = both (is_sorted w from a) (is_sorted w from b) (rw is_sorted-Iff at e) in
        rw (put-Iff, is_sorted-Iff, ih from to s h parts.0, jh from to s h parts.1) refl;
    all = λ q a ih from to s h e.
        let parts = both (nat_lt q (length w.sorts)) (is_sorted w (q ∷ from) a) (rw is_sorted-All at e) in
        let inner = ih (q ∷ from) (q ∷ to) (under_all s) (images_under_all w from to s h q) parts.1 in
        rw (put-All, is_sorted-All, parts.0, inner) refl;
    ex = λ q a ih from to s h e.
        let parts = both (nat_lt q (length w.sorts)) (is_sorted w (q ∷ from) a) (rw is_sorted-Ex at e) in
        let inner = ih (q ∷ from) (q ∷ to) (under_all s) (images_under_all w from to s h q) parts.1 in
        rw (put-Ex, is_sorted-Ex, parts.0, inner) refl;
  })

-- Where variables stand for themselves, a formula is itself.
under_itself : under_all Var ≡ Var
under_itself = fun_ext each_itself where
  each_itself : (k : ℕ) → under_all Var k ≡ Var k
  each_itself zero = refl
  each_itself (suc k) = let same : k + 1 ≡ suc k = omega arith in moves 1 0 k (omega arith) ∙ ap Var same

term_itself : (t : Term) → image Var t ≡ t
term_itself = term_induction _ (record {
  var = λ k. image-Var Var k;
  app = λ f ts all. rw image-App (ap (App f) (all_same ts all));
}) where
  all_same : (ts : List Term) → AllByRecursion (λ t. image Var t ≡ t) ts → map (image Var) ts ≡ ts
  all_same [] all = refl
  all_same (t ∷ ts) all = rw (all.0, all_same ts all.1) refl

terms_themselves : (ts : List Term) → map (image Var) ts ≡ ts
terms_themselves [] = refl
terms_themselves (t ∷ ts) = rw (term_itself t, terms_themselves ts) refl

forms_themselves : (as_ : List Form) → AllByRecursion (λ a. put a Var ≡ a) as_ → map (λ (a : Form). put a Var) as_ ≡ as_
forms_themselves [] all = refl
forms_themselves (a ∷ as_) all = rw (all.0, forms_themselves as_ all.1) refl

pub itself : (a : Form) → put a Var ≡ a
itself = form_induction _ (record {
  atom = λ p ts. put-Atom p ts Var ∙ ap (Atom p) (terms_themselves ts);
  eq = λ l r. put-Eq l r Var ∙ (rw (term_itself l, term_itself r) refl);
  not = λ a ih. put-Not a Var ∙ ap Not ih;
  and = λ as_ all. put-And as_ Var ∙ ap And (forms_themselves as_ all);
  or = λ as_ all. put-Or as_ Var ∙ ap Or (forms_themselves as_ all);
  imp = λ a b ih jh. put-Imp a b Var ∙ (rw (ih, jh) refl);
  iff = λ a b ih jh. put-Iff a b Var ∙ (rw (ih, jh) refl);
  all = λ q a ih. put-All q a Var ∙ ap (λ (s : ℕ → Term). All q (put a s)) under_itself ∙ ap (All q) ih;
  ex = λ q a ih. put-Ex q a Var ∙ ap (λ (s : ℕ → Term). Ex q (put a s)) under_itself ∙ ap (Ex q) ih;
})
