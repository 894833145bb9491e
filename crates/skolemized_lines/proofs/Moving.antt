-- The clauses of a normal form with functions in place of its existential variables, where these functions have other
-- numbers.
use Rattle.std.specs.Prelude.{ℕ, zero, suc, ◌≡◌, ◌+◌, ◌<◌, ◌||◌, ◌==◌, Bool, true, false, List, [], ◌∷◌, ◌++◌, length, map, sum, Option, Some, None, refl}
use Rattle.std.specs.List.{AllByRecursion, list_any}
use Rattle.std.specs.Option.{option_map}
use Rattle.std.proofs.Common.{ap, sym, ◌∙◌, arith, inl, inr}
use Rattle.std.proofs.lemmas.List.{map-append}
use Rattle.std.proofs.lemmas.List.Concat.{flat_map-cons}
use Rattle.fof_terms.specs.declared.form.Form.{Form, Atom, Eq, Not}
use Rattle.fof_terms.specs.declared.term.Term.{Term, Var, App}
use Rattle.fof_terms.specs.Lift.{lifted_term}
use Rattle.fof_terms.specs.Occurs.{occurs_in, occurs_in_term}
use Rattle.fof_terms.proofs.Induction.{form_induction, term_induction}
use Rattle.fof_terms.proofs.LiftFacts.{lifted_term-App}
use Rattle.fof_terms.proofs.LiftingLaws.{below_or_above, moves, stays}
use Rattle.fof_terms.proofs.OccursFacts.{occurs_in-All, occurs_in-And, occurs_in-Atom, occurs_in-Eq, occurs_in-Ex, occurs_in-Not, occurs_in-Or}
use Rattle.std.proofs.lemmas.Simd.{map-map}
use Rattle.clause_form.specs.declared.clause.AtomOf.{AtomOf}
use Rattle.clause_form.specs.declared.clause.Clause.{Clause}
use Rattle.clause_form.specs.declared.clause.Lit.{Lit}
use Rattle.clause_form.specs.ClauseView.{denied, within}
use Rattle.clause_form.specs.Clauses.{Clausal, clausal, clausal_of, clauses_in, in_turn, lone_clauses, skolem_made, skolemized, under_all, under_ex, variables}
use Rattle.clause_form.specs.Covers.{at_terms, in_lit}
use Rattle.clause_form.specs.Images.{image}
use Rattle.clause_form.specs.Norm.{node}
use Rattle.clause_form.specs.Paths.{beside}
use Rattle.clause_form.proofs.BesideFacts.{lits_twice, same_lits}
use Rattle.clause_form.proofs.ClausesFacts.{clausal-All, clausal-Atom, clausal-Eq, clausal-Iff, clausal-Imp, clausal-Not}
use Rattle.clause_form.proofs.ImagesFacts.{agree, image-App, image-Var}
use Rattle.clause_form.proofs.SizeLaws.{sum_cons}
use Rattle.printed_clauses.specs.Renumbered.{renumbered, renumbered_clause}
use Rattle.printed_clauses.proofs.RenumberedFacts.{renumbered-App, renumbered-Var}
use Rattle.printed_steps.proofs.Terms.{IsGood, AreGood, args_good, agree_where, head_good, or_true, terms_same}
use Rattle.step_clauses.specs.code.Counts.{some_count}
use Rattle.step_clauses.proofs.ExistentialsFacts.{some_count-All, some_count-And, some_count-Ex, some_count-Not, some_count-Or}
use Rattle.step_clauses.proofs.SkolemizingFacts.{goes, made-All, made-And, made-Atom, made-Eq, made-Ex, made-Iff, made-Imp, made-Not, made-Or}
use Rattle.skolemized_lines.proofs.Merging.{merged, merged_all, node_clausal, pairs}

module _ (number : ℕ → ℕ) where
  abbrev new_term : Term → Term
  new_term = renumbered number

  abbrev new_clause : Clause → Clause
  new_clause = renumbered_clause number

  -- ---- terms

  lift_new : (by from : ℕ) (t : Term) → lifted_term by from (new_term t) ≡ new_term (lifted_term by from t)
  lift_new by from = term_induction _ (record {
    var = λ k. ap (lifted_term by from) (renumbered-Var number k) ∙ elim (below_or_above k from) [
      | inl h ↦ stays by from k h ∙ sym (ap new_term (stays by from k h) ∙ renumbered-Var number k)
      | inr h ↦ moves by from k h ∙ sym (ap new_term (moves by from k h) ∙ renumbered-Var number (k + by))
    ];
    app = λ f ts all.
        ap (lifted_term by from) (renumbered-App number f ts) ∙ lifted_term-App by from (number f) (map new_term ts)
        ∙ ap (App (number f)) (map-map (lifted_term by from) new_term ts ∙ agree (λ t. lifted_term by from (new_term t)) (λ t. new_term (lifted_term by from t)) ts all ∙ sym (map-map new_term (lifted_term by from) ts))
        ∙ sym (renumbered-App number f (map (lifted_term by from) ts)) ∙ ap new_term (sym (lifted_term-App by from f ts));
  })

  abbrev Keeps : ℕ → Type 0
  Keeps f = number f ≡ f

  -- images of variables, and what these become
  abbrev BecomesAll : (ℕ → Term) → (ℕ → Term) → Type 0
  BecomesAll s u = (k : ℕ) → u k ≡ new_term (s k)

  term_becomes : (s u : ℕ → Term) → BecomesAll s u → (t : Term) → IsGood occurs_in_term Keeps t → image u t ≡ new_term (image s t)
  term_becomes s u e = term_induction (λ t. IsGood occurs_in_term Keeps t → image u t ≡ new_term (image s t)) (record {
    var = λ k h. image-Var u k ∙ e k ∙ ap new_term (sym (image-Var s k));
    app = λ f ts all h.
        image-App u f ts
        ∙ ap (App f) (agree_where (IsGood occurs_in_term Keeps) (image u) (λ t. new_term (image s t)) ts all (args_good Keeps f ts h) ∙ sym (map-map new_term (image s) ts))
        ∙ ap (λ g. App g (map new_term (map (image s) ts))) (sym (head_good Keeps f ts h))
        ∙ sym (renumbered-App number f (map (image s) ts)) ∙ ap new_term (sym (image-App s f ts));
  })

  terms_become : (s u : ℕ → Term) → BecomesAll s u → (ts : List Term) → AreGood occurs_in_term Keeps ts → map (image u) ts ≡ map new_term (map (image s) ts)
  terms_become s u e ts h = terms_same occurs_in_term Keeps (image u) (λ t. new_term (image s t)) (term_becomes s u e) ts h ∙ sym (map-map new_term (image s) ts)

  under_all_becomes : (s u : ℕ → Term) → BecomesAll s u → BecomesAll (under_all s) (under_all u)
  under_all_becomes s u e zero = sym (renumbered-Var number 0)
  under_all_becomes s u e (suc k) = ap (lifted_term 1 0) (e k) ∙ lift_new 1 0 (s k)

  variables_stay : (n : ℕ) → map new_term (variables n) ≡ variables n
  variables_stay zero = refl
  variables_stay (suc n) = rw (renumbered-Var number n, variables_stay n) refl

  under_ex_becomes : (s u : ℕ → Term) (f g n : ℕ) → number f ≡ g → BecomesAll s u → BecomesAll (under_ex (App f (variables n)) s) (under_ex (App g (variables n)) u)
  under_ex_becomes s u f g n is e zero = ap (λ h. App h (variables n)) (sym is) ∙ ap (App (number f)) (sym (variables_stay n)) ∙ sym (renumbered-App number f (variables n))
  under_ex_becomes s u f g n is e (suc k) = e k

  -- ---- clauses

  beside_new : (c d : Clause) → beside (new_clause c) (new_clause d) ≡ new_clause (beside c d)
  beside_new c d =
      ap (λ (ls : List Lit). record { sorts = c.sorts ++ d.sorts; lits = ls })
      (ap (λ (ls : List Lit). ls ++ map (in_lit (lifted_term (length c.sorts) (length d.sorts))) (map (in_lit new_term) d.lits)) (lift_lits (length d.sorts) 0 c.lits)
      ∙ ap (λ (ls : List Lit). map (in_lit new_term) (map (in_lit (lifted_term (length d.sorts) 0)) c.lits) ++ ls) (lift_lits (length c.sorts) (length d.sorts) d.lits)
      ∙ sym (map-append (in_lit new_term) (map (in_lit (lifted_term (length d.sorts) 0)) c.lits) (map (in_lit (lifted_term (length c.sorts) (length d.sorts))) d.lits)))
    where
      lift_lits : (by from : ℕ) (lits : List Lit) → map (in_lit (lifted_term by from)) (map (in_lit new_term) lits) ≡ map (in_lit new_term) (map (in_lit (lifted_term by from)) lits)
      lift_lits by from lits =
          lits_twice (lifted_term by from) new_term lits ∙ same_lits (λ t. lifted_term by from (new_term t)) (λ t. new_term (lifted_term by from t)) (lift_new by from) lits ∙ sym (lits_twice new_term (lifted_term by from) lits)

  one_new : (c : Clause) (ds : List Clause) → map (beside (new_clause c)) (map new_clause ds) ≡ map new_clause (map (beside c) ds)
  one_new c [] = refl
  one_new c (d ∷ ds) = rw (beside_new c d, one_new c ds) refl

  pairs_new : (cs ds : List Clause) → pairs (map new_clause cs) (map new_clause ds) ≡ map new_clause (pairs cs ds)
  pairs_new [] ds = refl
  pairs_new (c ∷ cs) ds =
      flat_map-cons (λ (x : Clause). map (beside x) (map new_clause ds)) (new_clause c) (map new_clause cs)
      ∙ ap (λ (xs : List Clause). xs ++ pairs (map new_clause cs) (map new_clause ds)) (one_new c ds)
      ∙ ap (λ (xs : List Clause). map new_clause (map (beside c) ds) ++ xs) (pairs_new cs ds)
      ∙ sym (map-append new_clause (map (beside c) ds) (pairs cs ds))
      ∙ ap (map new_clause) (sym (flat_map-cons (λ (x : Clause). map (beside x) ds) c cs))

  merged_new : (g : Bool) (cs ds : List Clause) → merged g (map new_clause cs) (map new_clause ds) ≡ map new_clause (merged g cs ds)
  merged_new true cs ds = sym (map-append new_clause cs ds)
  merged_new false cs ds = pairs_new cs ds

  none_new : (g : Bool) → merged_all g [] ≡ map new_clause (merged_all g [])
  none_new true = refl
  none_new false = refl

  merged_all_new : (g : Bool) (lists : List (List Clause)) → merged_all g (map (map new_clause) lists) ≡ map new_clause (merged_all g lists)
  merged_all_new g [] = none_new g
  merged_all_new g (cs ∷ lists) = ap (merged g (map new_clause cs)) (merged_all_new g lists) ∙ merged_new g cs (merged_all g lists)

  -- ---- what is made

  abbrev new_clausal : Clausal → Clausal
  new_clausal x = record { atom = option_map (at_terms new_term) x.atom; clauses = map new_clause x.clauses }

  -- the functions of a number and those behind it stand for those of another
  abbrev Shifts : ℕ → ℕ → ℕ → Type 0
  Shifts next other count = (j : ℕ) → j < count → number (next + j) ≡ other + j

  abbrev IsKept : Form → Type 0
  IsKept a = (f : ℕ) → occurs_in f a ≡ true → Keeps f

  abbrev AreKept : List Form → Type 0
  AreKept as_ = (f : ℕ) → list_any (occurs_in f) as_ ≡ true → Keeps f

  abbrev Becomes : Form → Type 0
  Becomes a =
      IsKept a → (next other n : ℕ) (s u : ℕ → Term) → Shifts next other (some_count a) → BecomesAll s u
      → clausal (skolem_made a other n u).0 ≡ new_clausal (clausal (skolem_made a next n s).0)

  atom_becomes : (p : ℕ) (ts : List Term) → Becomes (Atom p ts)
  atom_becomes p ts kept next other n s u shifts e =
      let good : AreGood occurs_in_term Keeps ts = λ f h. kept f (occurs_in-Atom f p ts ∙ ap (λ (b : Bool). (p == f) || b) h ∙ or_true (p == f)) in
      ap (λ (x : Form × ℕ). clausal x.0) (made-Atom p ts other n u) ∙ ap (λ (us : List Term). clausal (Atom p us)) (terms_become s u e ts good) ∙ clausal-Atom p (map new_term (map (image s) ts))
      ∙ sym (ap (λ (x : Form × ℕ). new_clausal (clausal x.0)) (made-Atom p ts next n s) ∙ ap new_clausal (clausal-Atom p (map (image s) ts)))

  eq_becomes : (l r : Term) → Becomes (Eq l r)
  eq_becomes l r kept next other n s u shifts e =
      let left : image u l ≡ new_term (image s l) = term_becomes s u e l (λ f h. kept f (occurs_in-Eq f l r ∙ ap (λ (b : Bool). b || occurs_in_term f r) h)) in
      let right : image u r ≡ new_term (image s r) = term_becomes s u e r (λ f h. kept f (occurs_in-Eq f l r ∙ ap (λ (b : Bool). occurs_in_term f l || b) h ∙ or_true (occurs_in_term f l))) in
      ap (λ (x : Form × ℕ). clausal x.0) (made-Eq l r other n u) ∙ ap (λ (t : Term). clausal (Eq t (image u r))) left ∙ ap (λ (t : Term). clausal (Eq (new_term (image s l)) t)) right
      ∙ clausal-Eq (new_term (image s l)) (new_term (image s r))
      ∙ sym (ap (λ (x : Form × ℕ). new_clausal (clausal x.0)) (made-Eq l r next n s) ∙ ap new_clausal (clausal-Eq (image s l) (image s r)))

  denied_new : (o : Option AtomOf) → clausal_of (lone_clauses (option_map denied (option_map (at_terms new_term) o))) ≡ new_clausal (clausal_of (lone_clauses (option_map denied o)))
  denied_new None = refl
  denied_new (Some a) = refl

  not_becomes : (a : Form) → Becomes a → Becomes (Not a)
  not_becomes a ih kept next other n s u shifts e =
      let inner = ih (λ f h. kept f (occurs_in-Not f a ∙ h)) next other n s u (λ j lt. shifts j (let same = some_count-Not a in omega (arith, same, lt))) e in
      ap (λ (x : Form × ℕ). clausal x.0) (made-Not a other n u) ∙ clausal-Not (skolem_made a other n u).0
      ∙ ap (λ (x : Clausal). clausal_of (lone_clauses (option_map denied x.atom))) inner ∙ denied_new (clausal (skolem_made a next n s).0).atom
      ∙ sym (ap (λ (x : Form × ℕ). new_clausal (clausal x.0)) (made-Not a next n s) ∙ ap new_clausal (clausal-Not (skolem_made a next n s).0))

  turn_becomes : (as_ : List Form) → AllByRecursion Becomes as_ → AreKept as_ → (next other n : ℕ) (s u : ℕ → Term) → Shifts next other (sum (map some_count as_)) → BecomesAll s u
      → map clauses_in (in_turn (map skolem_made as_) other n u).0 ≡ map (map new_clause) (map clauses_in (in_turn (map skolem_made as_) next n s).0)
  turn_becomes [] all kept next other n s u shifts e = refl
  turn_becomes (a ∷ as_) all kept next other n s u shifts e =
      let count = sum_cons (some_count a) (map some_count as_) in
      let far : (skolem_made a next n s).1 ≡ next + some_count a = goes a next n s in
      let far_other : (skolem_made a other n u).1 ≡ other + some_count a = goes a other n u in
      let first = all.0 (λ f h. kept f (ap (λ (b : Bool). b || list_any (occurs_in f) as_) h)) next other n s u (λ j lt. shifts j (omega (arith, count, lt))) e in
      let later : Shifts (skolem_made a next n s).1 (skolem_made a other n u).1 (sum (map some_count as_)) = λ j lt.
      let same : (skolem_made a next n s).1 + j ≡ next + (some_count a + j) = omega (arith, far) in
      let same_other : other + (some_count a + j) ≡ (skolem_made a other n u).1 + j = omega (arith, far_other) in
      ap number same ∙ shifts (some_count a + j) (omega (arith, count, lt)) ∙ same_other
      in
      let rest = turn_becomes as_ all.1 (λ f h. kept f (ap (λ (b : Bool). occurs_in f a || b) h ∙ or_true (occurs_in f a))) (skolem_made a next n s).1 (skolem_made a other n u).1 n s u later e in
      ap (λ (x : Clausal). x.clauses ∷ map clauses_in (in_turn (map skolem_made as_) (skolem_made a other n u).1 n u).0) first
      ∙ ap (λ (ls : List (List Clause)). map new_clause (clauses_in (skolem_made a next n s).0) ∷ ls) rest

  node_becomes : (g : Bool) (as_ : List Form) → AllByRecursion Becomes as_ → AreKept as_ → (next other n : ℕ) (s u : ℕ → Term) → Shifts next other (sum (map some_count as_)) → BecomesAll s u
      → clausal (node g (in_turn (map skolem_made as_) other n u).0) ≡ new_clausal (clausal (node g (in_turn (map skolem_made as_) next n s).0))
  node_becomes g as_ all kept next other n s u shifts e =
      let made : List Form = (in_turn (map skolem_made as_) next n s).0 in
      node_clausal g (in_turn (map skolem_made as_) other n u).0
      ∙ ap (λ (ls : List (List Clause)). clausal_of (merged_all g ls)) (turn_becomes as_ all kept next other n s u shifts e)
      ∙ ap clausal_of (merged_all_new g (map clauses_in made)) ∙ ap new_clausal (sym (node_clausal g made))

  within_new : (q : ℕ) (cs : List Clause) → map (within q) (map new_clause cs) ≡ map new_clause (map (within q) cs)
  within_new q [] = refl
  within_new q (c ∷ cs) = ap (λ (ds : List Clause). within q (new_clause c) ∷ ds) (within_new q cs)

  becomes : (a : Form) → Becomes a
  becomes = form_induction Becomes (record {
    atom = atom_becomes;
    eq = eq_becomes;
    not = not_becomes;
    and = λ as_ all kept next other n s u shifts e.
        ap (λ (x : Form × ℕ). clausal x.0) (made-And as_ other n u)
        ∙ node_becomes true as_ all (λ f h. kept f (occurs_in-And f as_ ∙ h)) next other n s u (λ j lt. shifts j (let same = some_count-And as_ in omega (arith, same, lt))) e
        ∙ sym (ap (λ (x : Form × ℕ). new_clausal (clausal x.0)) (made-And as_ next n s));
    or = λ as_ all kept next other n s u shifts e.
        ap (λ (x : Form × ℕ). clausal x.0) (made-Or as_ other n u)
        ∙ node_becomes false as_ all (λ f h. kept f (occurs_in-Or f as_ ∙ h)) next other n s u (λ j lt. shifts j (let same = some_count-Or as_ in omega (arith, same, lt))) e
        ∙ sym (ap (λ (x : Form × ℕ). new_clausal (clausal x.0)) (made-Or as_ next n s));
    imp = λ a b ih jh kept next other n s u shifts e.
        ap (λ (x : Form × ℕ). clausal x.0) (made-Imp a b other n u) ∙ clausal-Imp (skolem_made a other n u).0 (skolem_made b (skolem_made a other n u).1 n u).0
        ∙ sym (ap (λ (x : Form × ℕ). new_clausal (clausal x.0)) (made-Imp a b next n s) ∙ ap new_clausal (clausal-Imp (skolem_made a next n s).0 (skolem_made b (skolem_made a next n s).1 n s).0));
    iff = λ a b ih jh kept next other n s u shifts e.
        ap (λ (x : Form × ℕ). clausal x.0) (made-Iff a b other n u) ∙ clausal-Iff (skolem_made a other n u).0 (skolem_made b (skolem_made a other n u).1 n u).0
        ∙ sym (ap (λ (x : Form × ℕ). new_clausal (clausal x.0)) (made-Iff a b next n s) ∙ ap new_clausal (clausal-Iff (skolem_made a next n s).0 (skolem_made b (skolem_made a next n s).1 n s).0));
    all = λ q a ih kept next other n s u shifts e.
        let inner = ih (λ f h. kept f (occurs_in-All f q a ∙ h)) next other (n + 1) (under_all s) (under_all u) (λ j lt. shifts j (let same = some_count-All q a in omega (arith, same, lt))) (under_all_becomes s u e) in
        ap (λ (x : Form × ℕ). clausal x.0) (made-All q a other n u) ∙ clausal-All q (skolem_made a other (n + 1) (under_all u)).0
        ∙ ap (λ (x : Clausal). clausal_of (map (within q) x.clauses)) inner ∙ ap clausal_of (within_new q (clauses_in (skolem_made a next (n + 1) (under_all s)).0))
        ∙ sym (ap (λ (x : Form × ℕ). new_clausal (clausal x.0)) (made-All q a next n s) ∙ ap new_clausal (clausal-All q (skolem_made a next (n + 1) (under_all s)).0));
    ex = λ q a ih kept next other n s u shifts e.
        let count = some_count-Ex q a in
        let here : number next ≡ other = (let same : next ≡ next + 0 = omega arith in ap number same) ∙ shifts 0 (omega (arith, count)) ∙ (omega arith) in
        let later : Shifts (next + 1) (other + 1) (some_count a) = λ j lt.
        let same : next + 1 + j ≡ next + (1 + j) = omega arith in
        ap number same ∙ shifts (1 + j) (omega (arith, count, lt)) ∙ (omega arith)
        in
        ap (λ (x : Form × ℕ). clausal x.0) (made-Ex q a other n u)
        ∙ ih (λ f h. kept f (occurs_in-Ex f q a ∙ h)) (next + 1) (other + 1) n (under_ex (App next (variables n)) s) (under_ex (App other (variables n)) u) later (under_ex_becomes s u next other n here e)
        ∙ sym (ap (λ (x : Form × ℕ). new_clausal (clausal x.0)) (made-Ex q a next n s));
  })

  -- the clauses that are made with other numbers are the renumbered ones
  pub clauses_become : (a : Form) (next other : ℕ) → ((f : ℕ) → occurs_in f a ≡ true → number f ≡ f) → ((j : ℕ) → j < some_count a → number (next + j) ≡ other + j)
      → clauses_in (skolemized a other) ≡ map (renumbered_clause number) (clauses_in (skolemized a next))
  clauses_become a next other kept shifts = ap (λ (x : Clausal). x.clauses) (becomes a kept next other 0 Var Var shifts (λ k. sym (renumbered-Var number k)))
