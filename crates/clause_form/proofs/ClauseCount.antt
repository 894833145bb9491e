-- How many clauses a formula has.
use Rattle.std.specs.Prelude.{ℕ, ◌+◌, ◌*◌, ◌≡◌, true, false, List, [], ◌∷◌, length, map, flat_map, sum, refl}
use Rattle.std.specs.List.{AllByRecursion}
use Rattle.std.specs.Option.{option_map}
use Rattle.std.proofs.Common.{ap, sym, ◌∙◌, arith}
use Rattle.std.proofs.Math.Nat.{suc-mul}
use Rattle.std.proofs.lemmas.List.{length-append, length-map}
use Rattle.std.proofs.lemmas.List.Concat.{flat_map-cons}
use Rattle.fof_terms.proofs.Induction.{form_induction}
use Rattle.fof_terms.specs.declared.term.Term.{Term, Var, App}
use Rattle.fof_terms.specs.declared.form.Form.{Form, Atom, Eq, Not, And, Or, All, Ex}
use Rattle.clause_form.specs.declared.clause.Clause.{Clause}
use Rattle.clause_form.specs.ClauseView.{denied, within}
use Rattle.clause_form.specs.Images.{image}
use Rattle.clause_form.specs.Norm.{norm_of}
use Rattle.clause_form.proofs.NormShape.{Shape, shape, IsNormal, all_normal, and_normal, or_normal, norm_is_normal, shape-Not, shape-And, shape-Or, shape-Imp, shape-Iff, shape-All, shape-Ex}
use Rattle.clause_form.specs.Paths.{all_beside}
use Rattle.clause_form.specs.Sizes.{product, clause_count_of}
use Rattle.clause_form.proofs.SizesFacts.{clause_count_of-Atom, clause_count_of-Eq, clause_count_of-Not, clause_count_of-And, clause_count_of-Or, clause_count_of-All, clause_count_of-Ex}
use Rattle.clause_form.proofs.SizeLaws.{sum_cons}
use Rattle.clause_form.specs.Clauses.{variables, under_all, under_ex, Maker, in_turn, skolem_made, choices, joined_lists, Clausal, lone_clauses, clausal, clauses_in, clauses_of}
use Rattle.clause_form.proofs.ClausesFacts.{skolem_made-Atom, skolem_made-Eq, skolem_made-Not, skolem_made-And, skolem_made-Or, skolem_made-All, skolem_made-Ex, clausal-Atom, clausal-Eq, clausal-Not, clausal-And, clausal-Or, clausal-All}

-- the formula made in that state
abbrev made : Form → ℕ → ℕ → (ℕ → Term) → Form
made a next n s = (skolem_made a next n s).0

made_by : (a : Form) (m : Maker) → skolem_made a ≡ m → (next n : ℕ) (s : ℕ → Term) → made a next n s ≡ (m next n s).0
made_by a m e next n s = ap (λ (x : Maker). (x next n s).0) e

number : (a b : Form) (c : Clausal) → a ≡ b → clausal b ≡ c → length (clauses_in a) ≡ length c.clauses
number a b c e f = ap (λ (x : Form). length (clauses_in x)) e ∙ ap (λ (x : Clausal). length x.clauses) f

abbrev Counted : Form → Type 0
Counted a = IsNormal a → (next n : ℕ) (s : ℕ → Term) → length (clauses_in (made a next n s)) ≡ clause_count_of a

-- A denied atom or equation is one clause.
one_denied : (a : Form) → (shape a).atomic ≡ true → (next n : ℕ) (s : ℕ → Term) → length (lone_clauses (option_map denied (clausal (made a next n s)).atom)) ≡ 1
one_denied = form_induction _ (record {
  atom = λ p ts e next n s. ap (λ (x : Form). length (lone_clauses (option_map denied (clausal x).atom))) (made_by (Atom p ts) _ (skolem_made-Atom p ts) next n s) ∙ ap (λ (x : Clausal). length (lone_clauses (option_map denied x.atom))) (clausal-Atom p (map (image s) ts));
  eq = λ l r e next n s. ap (λ (x : Form). length (lone_clauses (option_map denied (clausal x).atom))) (made_by (Eq l r) _ (skolem_made-Eq l r) next n s) ∙ ap (λ (x : Clausal). length (lone_clauses (option_map denied x.atom))) (clausal-Eq (image s l) (image s r));
  not = λ a ih e next n s. let never : false ≡ true = ap (λ (x : Shape). x.atomic) (sym (shape-Not a)) ∙ e in cc;
  and = λ as_ all e next n s. let never : false ≡ true = ap (λ (x : Shape). x.atomic) (sym (shape-And as_)) ∙ e in cc;
  or = λ as_ all e next n s. let never : false ≡ true = ap (λ (x : Shape). x.atomic) (sym (shape-Or as_)) ∙ e in cc;
  imp = λ a b ih jh e next n s. let never : false ≡ true = ap (λ (x : Shape). x.atomic) (sym (shape-Imp a b)) ∙ e in cc;
  iff = λ a b ih jh e next n s. let never : false ≡ true = ap (λ (x : Shape). x.atomic) (sym (shape-Iff a b)) ∙ e in cc;
  all = λ q a ih e next n s. let never : false ≡ true = ap (λ (x : Shape). x.atomic) (sym (shape-All q a)) ∙ e in cc;
  ex = λ q a ih e next n s. let never : false ≡ true = ap (λ (x : Shape). x.atomic) (sym (shape-Ex q a)) ∙ e in cc;
})

abbrev lists_of : List Form → List (List Clause)
lists_of as_ = map (λ (x : Clausal). x.clauses) (map clausal as_)

and_counted : (as_ : List Form) → AllByRecursion Counted as_ → AllByRecursion IsNormal as_ → (next n : ℕ) (s : ℕ → Term)
    → length (joined_lists (lists_of (in_turn (map skolem_made as_) next n s).0)) ≡ sum (map clause_count_of as_)
and_counted [] all h next n s = refl
and_counted (a ∷ as_) all h next n s =
    let rest = and_counted as_ all.1 h.1 (skolem_made a next n s).1 n s in
    let own = all.0 h.0 next n s in
    rw (length-append (clauses_in (made a next n s)) (joined_lists (lists_of (in_turn (map skolem_made as_) (skolem_made a next n s).1 n s).0)), sum_cons (clause_count_of a) (map clause_count_of as_), own, rest) refl

pairs : (xs : List Clause) (rests : List (List Clause)) → length (flat_map (λ x. map (λ rest. x ∷ rest) rests) xs) ≡ length xs * length rests
pairs [] rests = omega arith
pairs (x ∷ xs) rests =
    let one : length (map (λ (rest : List Clause). x ∷ rest) rests) ≡ length rests = length-map rests (λ (rest : List Clause). x ∷ rest) in
    let more = suc-mul (length xs) (length rests) in
    rw (flat_map-cons, length-append, one, pairs xs rests, more) (omega arith)

or_counted : (as_ : List Form) → AllByRecursion Counted as_ → AllByRecursion IsNormal as_ → (next n : ℕ) (s : ℕ → Term)
    → length (choices (lists_of (in_turn (map skolem_made as_) next n s).0)) ≡ product (map clause_count_of as_)
or_counted [] all h next n s = refl
or_counted (a ∷ as_) all h next n s =
    let rest = or_counted as_ all.1 h.1 (skolem_made a next n s).1 n s in
    let own = all.0 h.0 next n s in
    pairs (clauses_in (made a next n s)) (choices (lists_of (in_turn (map skolem_made as_) (skolem_made a next n s).1 n s).0)) ∙ (rw (own, rest) refl)

counted : (a : Form) → Counted a
counted = form_induction Counted (record {
  atom = λ p ts h next n s. number _ _ _ (made_by (Atom p ts) _ (skolem_made-Atom p ts) next n s) (clausal-Atom p (map (image s) ts)) ∙ sym (clause_count_of-Atom p ts);
  eq = λ l r h next n s. number _ _ _ (made_by (Eq l r) _ (skolem_made-Eq l r) next n s) (clausal-Eq (image s l) (image s r)) ∙ sym (clause_count_of-Eq l r);
  not = λ a ih h next n s. number _ _ _ (made_by (Not a) _ (skolem_made-Not a) next n s) (clausal-Not (made a next n s)) ∙ one_denied a (ap (λ (x : Shape). x.normal) (sym (shape-Not a)) ∙ h) next n s ∙ sym (clause_count_of-Not a);
  and = λ as_ all h next n s.
      number _ _ _ (made_by (And as_) _ (skolem_made-And as_) next n s) (clausal-And (in_turn (map skolem_made as_) next n s).0) ∙ and_counted as_ all (all_normal as_ (sym (and_normal as_) ∙ h)) next n s ∙ sym (clause_count_of-And as_);
  or = λ as_ all h next n s.
      number _ _ _ (made_by (Or as_) _ (skolem_made-Or as_) next n s) (clausal-Or (in_turn (map skolem_made as_) next n s).0)
      ∙ length-map (choices (lists_of (in_turn (map skolem_made as_) next n s).0)) all_beside ∙ or_counted as_ all (all_normal as_ (sym (or_normal as_) ∙ h)) next n s ∙ sym (clause_count_of-Or as_);
  imp = λ a b ih jh h next n s. let never : false ≡ true = ap (λ (x : Shape). x.normal) (sym (shape-Imp a b)) ∙ h in cc;
  iff = λ a b ih jh h next n s. let never : false ≡ true = ap (λ (x : Shape). x.normal) (sym (shape-Iff a b)) ∙ h in cc;
  all = λ q a ih h next n s.
      number _ _ _ (made_by (All q a) _ (skolem_made-All q a) next n s) (clausal-All q (made a next (n + 1) (under_all s)))
      ∙ length-map (clauses_in (made a next (n + 1) (under_all s))) (within q) ∙ ih (ap (λ (x : Shape). x.normal) (sym (shape-All q a)) ∙ h) next (n + 1) (under_all s) ∙ sym (clause_count_of-All q a);
  ex = λ q a ih h next n s.
      ap (λ (x : Form). length (clauses_in x)) (made_by (Ex q a) _ (skolem_made-Ex q a) next n s) ∙ ih (ap (λ (x : Shape). x.normal) (sym (shape-Ex q a)) ∙ h) (next + 1) n (under_ex (App next (variables n)) s) ∙ sym (clause_count_of-Ex q a);
})

-- a formula has as many clauses as its normal form counts
pub clauses_counted : (a : Form) (next : ℕ) → length (clauses_of a next) ≡ clause_count_of (norm_of true a)
clauses_counted a next = counted (norm_of true a) (norm_is_normal a true) next 0 Var
