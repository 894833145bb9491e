-- Lemmas on what specs/code/Bound defines, and on the words of Skolem functions.
use Rattle.std.specs.Prelude.{ℕ, ◌≡◌, ◌+◌, ◌-◌, ◌≤◌, ◌<◌, List, [], ◌∷◌, ◌++◌, length, map, sum, max, take, get_or, refl}
use Rattle.std.specs.List.{AllByRecursion}
use Rattle.std.specs.Borrow.{Bor}
use Rattle.std.proofs.Common.{ap, sym, subst, ◌∙◌, arith, zero, suc, add-one}
use Rattle.std.proofs.lemmas.List.{append-nil, take_more}
use Rattle.fof_terms.proofs.Induction.{term_induction, form_induction}
use Rattle.fof_terms.proofs.Lists.{below_sum}
use Rattle.fof_terms.specs.Sorts.{binder_depth}
use Rattle.fof_terms.proofs.SortsFacts.{binder_depth-Not, binder_depth-And, binder_depth-Or, binder_depth-Imp, binder_depth-Iff, binder_depth-All, binder_depth-Ex}
use Rattle.fof_terms.specs.Lift.{greatest, lifted_term}
use Rattle.fof_terms.proofs.LiftFacts.{lifted_term-App}
use Rattle.fof_terms.proofs.LiftingLaws.{moves, lift_twice}
use Rattle.fof_terms.specs.declared.term.Term.{Term, Var, App}
use Rattle.fof_terms.specs.declared.form.Form.{Form, Atom, Eq, Not, And, Or, Imp, Iff, All, Ex}
use Rattle.clause_form.proofs.SizeLaws.{sum_cons}
use Rattle.clause_form.specs.Clauses.{variables, under_all, under_ex, Maker, in_turn, skolem_made, skolemized}
use Rattle.clause_form.proofs.ClausesFacts.{skolem_made-Atom, skolem_made-Eq, skolem_made-Not, skolem_made-And, skolem_made-Or, skolem_made-Imp, skolem_made-Iff, skolem_made-All, skolem_made-Ex}
use Rattle.clause_form.specs.Images.{image}
use Rattle.clause_form.proofs.ImagesFacts.{image-Var, image-App}
use Rattle.step_clauses.specs.declared.skolemizing.Bound.{Bound, Outside as outside, Universal as universal, Existential as existential}
use Rattle.step_clauses.specs.declared.skolemizing.Bound.TheOpen.{Outside, Universal, Existential}
use Rattle.step_clauses.specs.declared.skolemizing.Bound.TheViews.{roll-Bound}
use Rattle.step_clauses.specs.declared.skolemizing.Bound.TheFolds.{fold-roll-Bound}
use denote.Hole.Carrier.{roll}
use Rattle.step_clauses.specs.code.Bound.{Held, held_step, held, count_in, terms_in}
use Rattle.step_clauses.specs.code.Counts.{some_count}
use Rattle.step_clauses.proofs.WaysFacts.{one_further}
use Rattle.step_clauses.proofs.ExistentialsFacts.{some_count-Atom, some_count-Eq, some_count-Not, some_count-And, some_count-Or, some_count-Imp, some_count-Iff, some_count-All, some_count-Ex}

held-Outside : held outside ≡ record { count = 0; terms = Var }
unfolding held roll-Bound roll
held-Outside = fold-roll-Bound Held held_step Outside

held-Universal : (outer : Bor Bound) → held (universal outer) ≡ record { count = (held outer.now).count + 1; terms = under_all (held outer.now).terms }
unfolding held roll-Bound roll
held-Universal outer = fold-roll-Bound Held held_step (Universal outer)

held-Existential : (f : ℕ) (outer : Bor Bound) → held (existential f outer) ≡ record { count = (held outer.now).count; terms = under_ex (App f (variables (held outer.now).count)) (held outer.now).terms }
unfolding held roll-Bound roll
held-Existential f outer = fold-roll-Bound Held held_step (Existential f outer)

pub count_in-Outside : count_in outside ≡ 0
unfolding count_in
count_in-Outside = ap (λ (h : Held). h.count) held-Outside

pub count_in-Universal : (outer : Bor Bound) → count_in (universal outer) ≡ count_in outer.now + 1
unfolding count_in
count_in-Universal outer = ap (λ (h : Held). h.count) (held-Universal outer)

pub count_in-Existential : (f : ℕ) (outer : Bor Bound) → count_in (existential f outer) ≡ count_in outer.now
unfolding count_in
count_in-Existential f outer = ap (λ (h : Held). h.count) (held-Existential f outer)

pub terms_in-Outside : terms_in outside ≡ Var
unfolding terms_in
terms_in-Outside = ap (λ (h : Held). h.terms) held-Outside

pub terms_in-Universal : (outer : Bor Bound) → terms_in (universal outer) ≡ under_all (terms_in outer.now)
unfolding terms_in
terms_in-Universal outer = ap (λ (h : Held). h.terms) (held-Universal outer)

pub terms_in-Existential : (f : ℕ) (outer : Bor Bound) → terms_in (existential f outer) ≡ under_ex (App f (variables (count_in outer.now))) (terms_in outer.now)
unfolding count_in terms_in
terms_in-Existential f outer = ap (λ (h : Held). h.terms) (held-Existential f outer)

pub ruleset held_equations = (count_in-Outside, count_in-Universal, count_in-Existential, terms_in-Outside, terms_in-Universal, terms_in-Existential)

pub ruleset image_equations = (image-Var, image-App)

pub made-Atom : (p : ℕ) (ts : List Term) (next n : ℕ) (s : ℕ → Term) → skolem_made (Atom p ts) next n s ≡ (Atom p (map (image s) ts), next)
made-Atom p ts next n s = ap (λ (m : Maker). m next n s) (skolem_made-Atom p ts)

pub made-Eq : (l r : Term) (next n : ℕ) (s : ℕ → Term) → skolem_made (Eq l r) next n s ≡ (Eq (image s l) (image s r), next)
made-Eq l r next n s = ap (λ (m : Maker). m next n s) (skolem_made-Eq l r)

pub made-Not : (a : Form) (next n : ℕ) (s : ℕ → Term) → skolem_made (Not a) next n s ≡ (Not (skolem_made a next n s).0, (skolem_made a next n s).1)
made-Not a next n s = ap (λ (m : Maker). m next n s) (skolem_made-Not a)

pub made-And : (as_ : List Form) (next n : ℕ) (s : ℕ → Term) → skolem_made (And as_) next n s ≡ (And (in_turn (map skolem_made as_) next n s).0, (in_turn (map skolem_made as_) next n s).1)
made-And as_ next n s = ap (λ (m : Maker). m next n s) (skolem_made-And as_)

pub made-Or : (as_ : List Form) (next n : ℕ) (s : ℕ → Term) → skolem_made (Or as_) next n s ≡ (Or (in_turn (map skolem_made as_) next n s).0, (in_turn (map skolem_made as_) next n s).1)
made-Or as_ next n s = ap (λ (m : Maker). m next n s) (skolem_made-Or as_)

pub made-Imp : (a b : Form) (next n : ℕ) (s : ℕ → Term) → skolem_made (Imp a b) next n s ≡ (Imp (skolem_made a next n s).0 (skolem_made b (skolem_made a next n s).1 n s).0, (skolem_made b (skolem_made a next n s).1 n s).1)
made-Imp a b next n s = ap (λ (m : Maker). m next n s) (skolem_made-Imp a b)

pub made-Iff : (a b : Form) (next n : ℕ) (s : ℕ → Term) → skolem_made (Iff a b) next n s ≡ (Iff (skolem_made a next n s).0 (skolem_made b (skolem_made a next n s).1 n s).0, (skolem_made b (skolem_made a next n s).1 n s).1)
made-Iff a b next n s = ap (λ (m : Maker). m next n s) (skolem_made-Iff a b)

pub made-All : (q : ℕ) (a : Form) (next n : ℕ) (s : ℕ → Term) → skolem_made (All q a) next n s ≡ (All q (skolem_made a next (n + 1) (under_all s)).0, (skolem_made a next (n + 1) (under_all s)).1)
made-All q a next n s = ap (λ (m : Maker). m next n s) (skolem_made-All q a)

pub made-Ex : (q : ℕ) (a : Form) (next n : ℕ) (s : ℕ → Term) → skolem_made (Ex q a) next n s ≡ skolem_made a (next + 1) n (under_ex (App next (variables n)) s)
made-Ex q a next n s = ap (λ (m : Maker). m next n s) (skolem_made-Ex q a)

pub ruleset skolemize_equations =
    (made-Atom, made-Eq, made-Not, made-And, made-Or, made-Imp, made-Iff, made-All, made-Ex, some_count-Atom, some_count-Eq, some_count-Not, some_count-And, some_count-Or, some_count-Imp, some_count-Iff, some_count-All, some_count-Ex, count_in-Outside, count_in-Universal, count_in-Existential, terms_in-Outside, terms_in-Universal, terms_in-Existential)

-- How far the numbers of new symbols go.
abbrev Goes : Form → Type 0
Goes a = (next n : ℕ) (s : ℕ → Term) → (skolem_made a next n s).1 ≡ next + some_count a

all_go : (as_ : List Form) → AllByRecursion Goes as_ → (next n : ℕ) (s : ℕ → Term) → (in_turn (map skolem_made as_) next n s).1 ≡ next + sum (map some_count as_)
all_go [] all next n s = omega arith
all_go (a ∷ as_) all next n s =
    let here = all.0 next n s in
    let rest = all_go as_ all.1 (skolem_made a next n s).1 n s in
    let more = sum_cons (some_count a) (map some_count as_) in
    omega (arith, here, rest, more)

pub goes : (a : Form) → Goes a
goes = form_induction Goes (record {
  atom = λ p ts next n s. rw (made-Atom, some_count-Atom) (omega arith);
  eq = λ l r next n s. rw (made-Eq, some_count-Eq) (omega arith);
  not = λ a ih next n s. rw (made-Not, some_count-Not) (ih next n s);
  and = λ as_ all next n s. rw (made-And, some_count-And) (all_go as_ all next n s);
  or = λ as_ all next n s. rw (made-Or, some_count-Or) (all_go as_ all next n s);
  imp = λ a b ih jh next n s.
      let first = ih next n s in
      let second = jh (skolem_made a next n s).1 n s in
      rw (made-Imp, some_count-Imp) (omega (arith, first, second));
  iff = λ a b ih jh next n s.
      let first = ih next n s in
      let second = jh (skolem_made a next n s).1 n s in
      rw (made-Iff, some_count-Iff) (omega (arith, first, second));
  all = λ q a ih next n s. rw (made-All, some_count-All) (ih next (n + 1) (under_all s));
  ex = λ q a ih next n s.
      let inner = ih (next + 1) n (under_ex (App next (variables n)) s) in
      rw (made-Ex, some_count-Ex) (omega (arith, inner));
})

each_goes : (as_ : List Form) → AllByRecursion Goes as_
each_goes [] = tt
each_goes (a ∷ as_) = (goes a, each_goes as_)

pub turn_goes : (as_ : List Form) (next n : ℕ) (s : ℕ → Term) → (in_turn (map skolem_made as_) next n s).1 ≡ next + sum (map some_count as_)
turn_goes as_ = all_go as_ (each_goes as_)

-- one formula more
turn_longer : (as_ : List Form) (x : Form) (next n : ℕ) (s : ℕ → Term)
    → (in_turn (map skolem_made (as_ ++ x ∷ [])) next n s).0 ≡ (in_turn (map skolem_made as_) next n s).0 ++ (skolem_made x (in_turn (map skolem_made as_) next n s).1 n s).0 ∷ []
turn_longer [] x next n s = refl
turn_longer (a ∷ as_) x next n s = ap (λ (rest : List Form). (skolem_made a next n s).0 ∷ rest) (turn_longer as_ x (skolem_made a next n s).1 n s)

pub turn_more : (as_ : List Form) (i : ℕ) (x made : Form) (before after : List Form) (next number n : ℕ) (s : ℕ → Term) → i < length as_ → x ≡ get_or as_ i x → number ≡ next + sum (map some_count (take i as_))
    → before ≡ (in_turn (map skolem_made (take i as_)) next n s).0 → made ≡ (skolem_made x number n s).0 → after ≡ before ++ made ∷ [] → after ≡ (in_turn (map skolem_made (take (i + 1) as_)) next n s).0
turn_more as_ i x made before after next number n s lt is en eb em ea =
    let longer = turn_longer (take i as_) x next n s in
    let goes_to = turn_goes (take i as_) next n s in
    let more : take (i + 1) as_ ≡ take i as_ ++ x ∷ [] = take_more as_ i x lt ∙ ap (λ (y : Form). take i as_ ++ y ∷ []) (sym is) in
    let whole : (in_turn (map skolem_made (take (i + 1) as_)) next n s).0 ≡ (in_turn (map skolem_made (take i as_)) next n s).0 ++ (skolem_made x number n s).0 ∷ [] =
    ap (λ (l : List Form). (in_turn (map skolem_made l) next n s).0) more ∙ longer ∙ (rw (goes_to ∙ sym en) refl) in
    ea ∙ (rw (eb, em) (sym whole))

pub count_more : (as_ : List Form) (i : ℕ) (x : Form) → i < length as_ → x ≡ get_or as_ i x → sum (map some_count (take (i + 1) as_)) ≡ sum (map some_count (take i as_)) + some_count x
count_more [] i x lt is = absurd (omega arith)
count_more (a ∷ as_) zero x lt is =
    let same : x ≡ a = is in
    let first = sum_cons (some_count a) [] in
    rw (same) (omega (arith, first))
count_more (a ∷ as_) (suc i) x lt is =
    let rest : sum (map some_count (take (i + 1) as_)) ≡ sum (map some_count (take i as_)) + some_count x = count_more as_ i x (omega arith) is in
    let rest' : sum (map some_count (take (suc i) as_)) ≡ sum (map some_count (take i as_)) + some_count x = rw add-one at rest in
    let first = sum_cons (some_count a) (map some_count (take (suc i) as_)) in
    let second = sum_cons (some_count a) (map some_count (take i as_)) in
    rw add-one (omega (arith, rest', first, second))

pub count_within : (as_ : List Form) (i : ℕ) → sum (map some_count (take i as_)) ≤ sum (map some_count as_)
count_within [] zero = omega arith
count_within [] (suc i) = omega arith
count_within (a ∷ as_) zero = omega arith
count_within (a ∷ as_) (suc i) =
    let rest = count_within as_ i in
    let first = sum_cons (some_count a) (map some_count (take i as_)) in
    let second = sum_cons (some_count a) (map some_count as_) in
    omega (arith, rest, first, second)

-- the number of the next new symbol stays within bounds
pub next_within : (as_ : List Form) (i : ℕ) (x : Form) (b next number : ℕ) → i < length as_ → x ≡ get_or as_ i x → next + sum (map some_count as_) < b → number ≡ next + sum (map some_count (take i as_)) → number + some_count x < b
next_within as_ i x b next number lt is room e =
    let more = count_more as_ i x lt is in
    let within = count_within as_ (i + 1) in
    omega (arith, more, within)

-- Terms for variables.
some_less : (d : ℕ) → (d ≡ 0 → ⊥) → suc (d - 1) ≡ d
some_less d some = omega arith

pub further_out : (t : Term) (n : ℕ) → lifted_term (n + 1) 0 t ≡ lifted_term n 0 (lifted_term 1 0 t)
further_out t n = sym (lift_twice n 1 (n + 1) refl t)

pub nearest_moved : (f : ℕ) (ts made : List Term) (n : ℕ) → made ≡ map (lifted_term n 0) ts → App f made ≡ lifted_term n 0 (App f ts)
nearest_moved f ts made n e = rw (lifted_term-App, e) refl

pub one_moved : (k n : ℕ) → lifted_term n 0 (Var k) ≡ Var (k + n)
one_moved k n = moves n 0 k (omega arith)

-- What stands for a variable, kind by kind of the nearest quantifier.
module _ (b : Bound) (d n : ℕ) (made : Term) where
  pub outside_all : b ≡ outside → made ≡ Var (d + n) → made ≡ lifted_term n 0 (terms_in b d)
  outside_all eb em = em ∙ sym (one_moved d n) ∙ ap (λ (s : ℕ → Term). lifted_term n 0 (s d)) (sym terms_in-Outside ∙ ap terms_in (sym eb))

  module _ (outer : Bor Bound) where
    pub first_universal : b ≡ universal outer → d ≡ 0 → made ≡ Var n → made ≡ lifted_term n 0 (terms_in b d)
    first_universal eb ed em =
        let here : terms_in b d ≡ Var 0 = ap (λ (x : Bound). terms_in x d) eb ∙ ap (λ (s : ℕ → Term). s d) (terms_in-Universal outer) ∙ ap (under_all (terms_in outer.now)) ed in
        let same : 0 + n ≡ n = omega arith in
        em ∙ sym (ap (lifted_term n 0) here ∙ one_moved 0 n ∙ ap Var same)

    pub next_universal : b ≡ universal outer → (d ≡ 0 → ⊥) → made ≡ lifted_term (n + 1) 0 (terms_in outer.now (d - 1)) → made ≡ lifted_term n 0 (terms_in b d)
    next_universal eb some em =
        let down : suc (d - 1) ≡ d = some_less d some in
        let here : terms_in b d ≡ lifted_term 1 0 (terms_in outer.now (d - 1)) = ap (λ (x : Bound). terms_in x d) eb ∙ ap (λ (s : ℕ → Term). s d) (terms_in-Universal outer) ∙ ap (under_all (terms_in outer.now)) (sym down) in
        em ∙ further_out (terms_in outer.now (d - 1)) n ∙ sym (ap (lifted_term n 0) here)

    pub first_existential : (f : ℕ) (args : List Term) → b ≡ existential f outer → d ≡ 0 → args ≡ map (lifted_term n 0) (variables (count_in outer.now)) → made ≡ App f args → made ≡ lifted_term n 0 (terms_in b d)
    first_existential f args eb ed ea em =
        let here : terms_in b d ≡ App f (variables (count_in outer.now)) = ap (λ (x : Bound). terms_in x d) eb ∙ ap (λ (s : ℕ → Term). s d) (terms_in-Existential f outer) ∙ ap (under_ex (App f (variables (count_in outer.now))) (terms_in outer.now)) ed in
        em ∙ nearest_moved f (variables (count_in outer.now)) args n ea ∙ sym (ap (lifted_term n 0) here)

    pub next_existential : (f : ℕ) → b ≡ existential f outer → (d ≡ 0 → ⊥) → made ≡ lifted_term n 0 (terms_in outer.now (d - 1)) → made ≡ lifted_term n 0 (terms_in b d)
    next_existential f eb some em =
        let down : suc (d - 1) ≡ d = some_less d some in
        let here : terms_in b d ≡ terms_in outer.now (d - 1) = ap (λ (x : Bound). terms_in x d) eb ∙ ap (λ (s : ℕ → Term). s d) (terms_in-Existential f outer) ∙ ap (under_ex (App f (variables (count_in outer.now))) (terms_in outer.now)) (sym down) in
        em ∙ sym (ap (lifted_term n 0) here)

-- The nearest variables, counted down.
pub variables_down : (n left : ℕ) (made new whole : List Term) → whole ≡ made ++ map (lifted_term n 0) (variables left) → 0 < left → new ≡ made ++ Var (left - 1 + n) ∷ [] → whole ≡ new ++ map (lifted_term n 0) (variables (left - 1))
variables_down n zero made new whole e some en = absurd (omega arith)
variables_down n (suc k) made new whole e some en =
    let down : suc k - 1 ≡ k = omega arith in
    let last : new ≡ made ++ Var (k + n) ∷ [] = en ∙ ap (λ (m : ℕ). made ++ Var (m + n) ∷ []) down in
    let rest = map (lifted_term n 0) (variables k) in
    e ∙ ap (λ (t : Term). made ++ t ∷ rest) (one_moved k n) ∙ sym (one_further made (Var (k + n)) rest) ∙ ap (λ (l : List Term). l ++ rest) (sym last) ∙ ap (λ (m : ℕ). new ++ map (lifted_term n 0) (variables m)) (sym down)

pub variables_done : (n left : ℕ) (made whole : List Term) → whole ≡ made ++ map (lifted_term n 0) (variables left) → left ≡ 0 → made ≡ whole
variables_done n left made whole e none = sym (e ∙ ap (λ (m : ℕ). made ++ map (lifted_term n 0) (variables m)) none ∙ append-nil made)

-- a term that is lifted by nothing
map_same : (ts : List Term) → map (λ (u : Term). u) ts ≡ ts
map_same [] = refl
map_same (u ∷ ts) = ap (λ (rest : List Term). u ∷ rest) (map_same ts)

agree : {X Y : Type 0} (f g : X → Y) (xs : List X) → AllByRecursion (λ x. f x ≡ g x) xs → map f xs ≡ map g xs
agree f g [] e = refl
agree f g (x ∷ xs) e = rw (e.0, agree f g xs e.1) refl

pub lifted_none : (t : Term) → lifted_term 0 0 t ≡ t
lifted_none = term_induction _ (record {
  var = λ k. let same : k + 0 ≡ k = omega arith in moves 0 0 k (omega arith) ∙ ap Var same;
  app = λ f ts all. lifted_term-App 0 0 f ts ∙ ap (App f) (agree (lifted_term 0 0) (λ (u : Term). u) ts all ∙ map_same ts);
})

pub var_image : (b : Bound) (t : Term) (d : ℕ) → t ≡ Var d → lifted_term 0 0 (terms_in b d) ≡ image (terms_in b) t
var_image b t d is = lifted_none (terms_in b d) ∙ sym (ap (image (terms_in b)) is ∙ image-Var (terms_in b) d)

pub whole_made : (a : Form) (next : ℕ) → (skolem_made a next (count_in outside) (terms_in outside)).0 ≡ skolemized a next
whole_made a next = ap (λ (n : ℕ). (skolem_made a next n (terms_in outside)).0) count_in-Outside ∙ ap (λ (s : ℕ → Term). (skolem_made a next 0 s).0) terms_in-Outside

-- Room for parts.
module _ (form : Form) (next n b : ℕ) (numbers : next + some_count form < b) (depth : n + binder_depth form < b) where
  pub not_room : (body b0 : Form) → form ≡ Not b0 → body ≡ b0 → (next + some_count body < b) × (n + binder_depth body < b)
  not_room body b0 is eb =
      let count : some_count form ≡ some_count body = ap some_count (is ∙ ap Not (sym eb)) ∙ some_count-Not body in
      let deep : binder_depth form ≡ binder_depth body = ap binder_depth (is ∙ ap Not (sym eb)) ∙ binder_depth-Not body in
      (omega (arith, numbers, count), omega (arith, depth, deep))

  pub and_room : (members m0 : List Form) → form ≡ And m0 → members ≡ m0 → (next + sum (map some_count members) < b) × (n + greatest (map binder_depth members) < b)
  and_room members m0 is em =
      let count : some_count form ≡ sum (map some_count members) = ap some_count (is ∙ ap And (sym em)) ∙ some_count-And members in
      let deep : binder_depth form ≡ greatest (map binder_depth members) = ap binder_depth (is ∙ ap And (sym em)) ∙ binder_depth-And members in
      (omega (arith, numbers, count), omega (arith, depth, deep))

  pub or_room : (members m0 : List Form) → form ≡ Or m0 → members ≡ m0 → (next + sum (map some_count members) < b) × (n + greatest (map binder_depth members) < b)
  or_room members m0 is em =
      let count : some_count form ≡ sum (map some_count members) = ap some_count (is ∙ ap Or (sym em)) ∙ some_count-Or members in
      let deep : binder_depth form ≡ greatest (map binder_depth members) = ap binder_depth (is ∙ ap Or (sym em)) ∙ binder_depth-Or members in
      (omega (arith, numbers, count), omega (arith, depth, deep))

  pub imp_room : (l r l0 r0 : Form) → form ≡ Imp l0 r0 → l ≡ l0 → r ≡ r0 → ((next + some_count l < b) × (n + binder_depth l < b)) × ((mid : ℕ) → mid ≡ next + some_count l → (mid + some_count r < b) × (n + binder_depth r < b))
  imp_room l r l0 r0 is el er =
      let whole : form ≡ Imp l r = is ∙ (rw (el, er) refl) in
      let count : some_count form ≡ some_count l + some_count r = ap some_count whole ∙ some_count-Imp l r in
      let deep : binder_depth form ≡ max (binder_depth l) (binder_depth r) = ap binder_depth whole ∙ binder_depth-Imp l r in
      ((omega (arith, numbers, count), omega (arith, depth, deep)), λ mid em. (omega (arith, numbers, count, em), omega (arith, depth, deep)))

  pub iff_room : (l r l0 r0 : Form) → form ≡ Iff l0 r0 → l ≡ l0 → r ≡ r0 → ((next + some_count l < b) × (n + binder_depth l < b)) × ((mid : ℕ) → mid ≡ next + some_count l → (mid + some_count r < b) × (n + binder_depth r < b))
  iff_room l r l0 r0 is el er =
      let whole : form ≡ Iff l r = is ∙ (rw (el, er) refl) in
      let count : some_count form ≡ some_count l + some_count r = ap some_count whole ∙ some_count-Iff l r in
      let deep : binder_depth form ≡ max (binder_depth l) (binder_depth r) = ap binder_depth whole ∙ binder_depth-Iff l r in
      ((omega (arith, numbers, count), omega (arith, depth, deep)), λ mid em. (omega (arith, numbers, count, em), omega (arith, depth, deep)))

  pub all_room : (s : ℕ) (body b0 : Form) (m : ℕ) → form ≡ All s b0 → body ≡ b0 → m ≡ n + 1 → (next + some_count body < b) × (m + binder_depth body < b)
  all_room s body b0 m is eb em =
      let count : some_count form ≡ some_count body = ap some_count (is ∙ ap (All s) (sym eb)) ∙ some_count-All s body in
      let deep : binder_depth form ≡ binder_depth body + 1 = ap binder_depth (is ∙ ap (All s) (sym eb)) ∙ binder_depth-All s body in
      (omega (arith, numbers, count), omega (arith, depth, deep, em))

  pub ex_room : (s : ℕ) (body b0 : Form) (m : ℕ) → form ≡ Ex s b0 → body ≡ b0 → m ≡ n → (next + 1 + some_count body < b) × (m + binder_depth body < b)
  ex_room s body b0 m is eb em =
      let count : some_count form ≡ 1 + some_count body = ap some_count (is ∙ ap (Ex s) (sym eb)) ∙ some_count-Ex s body in
      let deep : binder_depth form ≡ binder_depth body + 1 = ap binder_depth (is ∙ ap (Ex s) (sym eb)) ∙ binder_depth-Ex s body in
      (omega (arith, numbers, count), omega (arith, depth, deep, em))

pub depth_within : (as_ : List Form) (i : ℕ) (x : Form) (n b : ℕ) → i < length as_ → x ≡ get_or as_ i x → n + greatest (map binder_depth as_) < b → n + binder_depth x < b
depth_within as_ i x n b lt is h = let here : n + binder_depth (get_or as_ i x) < b = below_sum binder_depth n b as_ h i x lt in subst (λ (y : Form). n + binder_depth y < b) (sym is) here

-- What is made of two parts.
module _ (l r l0 r0 x y form : Form) (next mid n : ℕ) (s : ℕ → Term) (el : l ≡ l0) (er : r ≡ r0) (ex_ : x ≡ (skolem_made l next n s).0) (em : mid ≡ next + some_count l) (ey : y ≡ (skolem_made r mid n s).0) where
  second_made : y ≡ (skolem_made r (skolem_made l next n s).1 n s).0
  second_made = ey ∙ ap (λ (k : ℕ). (skolem_made r k n s).0) (em ∙ sym (goes l next n s))

  pub imp_made : form ≡ Imp l0 r0 → Imp x y ≡ (skolem_made form next n s).0
  imp_made is =
      let whole : form ≡ Imp l r = is ∙ (rw (el, er) refl) in
      ap (λ (z : Form). Imp z y) ex_ ∙ ap (λ (z : Form). Imp (skolem_made l next n s).0 z) second_made ∙ sym (ap (λ (z : Form). (skolem_made z next n s).0) whole ∙ ap (λ (z : Form × ℕ). z.0) (made-Imp l r next n s))

  pub iff_made : form ≡ Iff l0 r0 → Iff x y ≡ (skolem_made form next n s).0
  iff_made is =
      let whole : form ≡ Iff l r = is ∙ (rw (el, er) refl) in
      ap (λ (z : Form). Iff z y) ex_ ∙ ap (λ (z : Form). Iff (skolem_made l next n s).0 z) second_made ∙ sym (ap (λ (z : Form). (skolem_made z next n s).0) whole ∙ ap (λ (z : Form × ℕ). z.0) (made-Iff l r next n s))
