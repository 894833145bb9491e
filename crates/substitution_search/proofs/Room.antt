-- The variables that are opened or taken are no more than the norm size, and so have numbers of their type.
use Rattle.std.specs.Prelude.{ℕ, ◌≡◌, ◌+◌, ◌<◌, ◌≤◌, ◌^◌, List, [], ◌∷◌, ◌++◌, length, map, sum, take, get_or, Some, slice_get, refl}
use Rattle.std.specs.List.{AllByRecursion}
use Rattle.std.proofs.Common.{ap, sym, subst, ◌∙◌, arith, zero, suc, length-append}
use Rattle.fof_terms.specs.declared.term.Term.{Term, Var}
use Rattle.fof_terms.specs.declared.form.Form.{Form, Atom, Eq, Not, And, Or, Imp, Iff, All, Ex}
use Rattle.fof_terms.proofs.Induction.{form_induction}
use Rattle.clause_form.specs.declared.clause.Lit.{Lit}
use Rattle.clause_form.specs.Sizes.{norm_size_of}
use Rattle.clause_form.proofs.SizesFacts.{norm_size_of-And, norm_size_of-Or, norm_size_of-All}
use Rattle.clause_form.proofs.SizeLaws.{sum_cons, few_by_size}
use Rattle.unify_terms.specs.declared.goal.Goal.{Goal}
use Rattle.substitution_search.specs.declared.taking.Taking.{Taking as State}
use Rattle.substitution_search.specs.code.Taken.{state_of}
use Rattle.substitution_search.specs.CoverSearch.{Taking, Opening, near, opening, sorts_of_all, take_pick, take_each, take_at, with_choices, with_sort}
use Rattle.substitution_search.proofs.CoverSearchFacts.{opening-And, opening-Or, opening-All}
use Rattle.substitution_search.proofs.Opened.{OpenedSoFar}
use Rattle.substitution_search.proofs.Openings.{IsLeaf, atom_leaf, eq_leaf, not_leaf, imp_leaf, iff_leaf, ex_leaf}
use Rattle.substitution_search.proofs.TakenSoFar.{TakenSoFar}

-- What is opened.
module _ (line : List Lit) where
  pub and_room : (form : Form) (members seen : List Form) (n : ℕ) → form ≡ And members → seen ≡ members → n + length (opening line form).sorts ≤ 2 ^ 32 → n + length (sorts_of_all (map (opening line) seen)) ≤ 2 ^ 32
  and_room form members seen n is same few =
      let sorts : length (opening line form).sorts ≡ length (sorts_of_all (map (opening line) members)) = ap (λ (o : Opening). length o.sorts) (ap (opening line) is ∙ opening-And line members) in
      let all : length (sorts_of_all (map (opening line) seen)) ≡ length (sorts_of_all (map (opening line) members)) = ap (λ ms. length (sorts_of_all (map (opening line) ms))) same in
      omega (arith, sorts, all, few)

  pub or_room : (form : Form) (members seen : List Form) (n : ℕ) → form ≡ Or members → seen ≡ members → n + length (opening line form).sorts ≤ 2 ^ 32 → n + length (sorts_of_all (map (opening line) seen)) ≤ 2 ^ 32
  or_room form members seen n is same few =
      let sorts : length (opening line form).sorts ≡ length (sorts_of_all (map (opening line) members)) = ap (λ (o : Opening). length o.sorts) (ap (opening line) is ∙ opening-Or line members) in
      let all : length (sorts_of_all (map (opening line) seen)) ≡ length (sorts_of_all (map (opening line) members)) = ap (λ ms. length (sorts_of_all (map (opening line) ms))) same in
      omega (arith, sorts, all, few)

  -- the quantifier's own variable has a number, and there is room for those within
  pub under_room : (form body inner : Form) (s : ℕ) (sorts more : List ℕ) → form ≡ All s body → inner ≡ body → more ≡ sorts ++ s ∷ [] → length sorts + length (opening line form).sorts ≤ 2 ^ 32 → length more + length (opening line inner).sorts ≤ 2 ^ 32
  under_room form body inner s sorts more is got pushed few =
      let all : length (opening line form).sorts ≡ suc (length (opening line body).sorts) = ap (λ (o : Opening). length o.sorts) (ap (opening line) is ∙ opening-All line s body) in
      let here : length (opening line inner).sorts ≡ length (opening line body).sorts = ap (λ b. length (opening line b).sorts) got in
      let size : length more ≡ length sorts + 1 = ap length pushed ∙ length-append sorts (s ∷ []) in
      omega (arith, all, here, size, few)

  pub own_room : (form body : Form) (s n : ℕ) → form ≡ All s body → n + length (opening line form).sorts ≤ 2 ^ 32 → n < 2 ^ 32
  own_room form body s n is few =
      let all : length (opening line form).sorts ≡ suc (length (opening line body).sorts) = ap (λ (o : Opening). length o.sorts) (ap (opening line) is ∙ opening-All line s body) in
      omega (arith, all, few)

  sorts_within : (forms : List Form) (i : ℕ) (form : Form) → i < length forms → form ≡ get_or forms i form → length (sorts_of_all (map (opening line) (take i forms))) + length (opening line form).sorts ≤ length (sorts_of_all (map (opening line) forms))
  sorts_within [] i form lt e = absurd (omega (arith, lt))
  sorts_within (f ∷ forms) zero form lt e =
      let same : length (opening line form).sorts ≡ length (opening line f).sorts = ap (λ b. length (opening line b).sorts) e in
      let all = length-append (opening line f).sorts (sorts_of_all (map (opening line) forms)) in
      omega (arith, same, all)
  sorts_within (f ∷ forms) (suc i) form lt e =
      let rest = sorts_within forms i form (omega (arith, lt)) e in
      let all = length-append (opening line f).sorts (sorts_of_all (map (opening line) forms)) in
      let some = length-append (opening line f).sorts (sorts_of_all (map (opening line) (take i forms))) in
      omega (arith, rest, all, some)

  pub member_room : (forms : List Form) (i : ℕ) (before names : List ℕ) (goals : List Goal) (sorts now : List ℕ) (form : Form) → i < length forms → form ≡ get_or forms i form → OpenedSoFar line forms i before names goals sorts now
      → length before + length (sorts_of_all (map (opening line) forms)) ≤ 2 ^ 32 → length sorts + length (opening line form).sorts ≤ 2 ^ 32
  member_room forms i before names goals sorts now form lt e so few =
      let within = sorts_within forms i form lt e in
      let count : length sorts ≡ length before + length (sorts_of_all (map (opening line) (take i forms))) = ap length so.sorts_are ∙ length-append before (sorts_of_all (map (opening line) (take i forms))) in
      omega (arith, within, count, few)

-- What is taken.
abbrev Grows : Form → Type 0
Grows a = (env : List Term) (w : Taking) → length ((opening [] a).take env w).rest.sorts ≤ length w.sorts + norm_size_of a

leaf_grows : (a : Form) → IsLeaf [] a → Grows a
leaf_grows a leaf env w =
    let same : length ((opening [] a).take env w).rest.sorts ≡ length w.sorts = ap (λ (o : Opening). length (o.take env w).rest.sorts) leaf.opened in
    omega (arith, same)

at_grows : (as_ : List Form) → AllByRecursion Grows as_ → (k n : ℕ) (env : List Term) (w : Taking) → length (take_at (slice_get (map (opening []) as_) k) n env w).rest.sorts ≤ length w.sorts + sum (map norm_size_of as_)
at_grows [] all k n env w = omega arith
at_grows (a ∷ as_) all zero n env w = let one = all.0 env w in rw (sum_cons (norm_size_of a) (map norm_size_of as_)) (omega (arith, one))
at_grows (a ∷ as_) all (suc k) n env w = let rest = at_grows as_ all.1 k n env w in rw (sum_cons (norm_size_of a) (map norm_size_of as_)) (omega (arith, rest))

pick_grows : (as_ : List Form) → AllByRecursion Grows as_ → (env : List Term) (w : Taking) (choices : List ℕ) → length (take_pick (map (opening []) as_) env w choices).rest.sorts ≤ length w.sorts + sum (map norm_size_of as_)
pick_grows as_ all env w [] = omega arith
pick_grows as_ all env w (k ∷ choices) = at_grows as_ all k k env (with_choices w choices)

each_grows : (as_ : List Form) → AllByRecursion Grows as_ → (env : List Term) (w : Taking) → length (take_each (map (opening []) as_) env w).rest.sorts ≤ length w.sorts + sum (map norm_size_of as_)
each_grows [] all env w = omega arith
each_grows (a ∷ as_) all env w =
    let one = all.0 env w in
    let rest = each_grows as_ all.1 env ((opening [] a).take env w).rest in
    rw (sum_cons (norm_size_of a) (map norm_size_of as_)) (omega (arith, one, rest))

-- a path goes through no more universal quantifiers than the norm size
pub grows : (a : Form) → Grows a
grows = form_induction Grows (record {
  atom = λ p ts. leaf_grows (Atom p ts) (atom_leaf [] p ts);
  eq = λ l r. leaf_grows (Eq l r) (eq_leaf [] l r);
  not = λ a ih. leaf_grows (Not a) (not_leaf [] a);
  and = λ as_ all env w.
      let is : length ((opening [] (And as_)).take env w).rest.sorts ≡ length (take_pick (map (opening []) as_) env w w.choices).rest.sorts = ap (λ (o : Opening). length (o.take env w).rest.sorts) (opening-And [] as_) in
      let le = pick_grows as_ all env w w.choices in
      let size = norm_size_of-And as_ in
      omega (arith, is, le, size);
  or = λ as_ all env w.
      let is : length ((opening [] (Or as_)).take env w).rest.sorts ≡ length (take_each (map (opening []) as_) env w).rest.sorts = ap (λ (o : Opening). length (o.take env w).rest.sorts) (opening-Or [] as_) in
      let le = each_grows as_ all env w in
      let size = norm_size_of-Or as_ in
      omega (arith, is, le, size);
  imp = λ a b ih jh. leaf_grows (Imp a b) (imp_leaf [] a b);
  iff = λ a b ih jh. leaf_grows (Iff a b) (iff_leaf [] a b);
  all = λ s a ih env w.
      let inner = (opening [] a).take (Var (length w.sorts) ∷ env) (with_sort w s) in
      let is : length ((opening [] (All s a)).take env w).rest.sorts ≡ length inner.rest.sorts = ap (λ (o : Opening). length (o.take env w).rest.sorts) (opening-All [] s a) in
      let le = ih (Var (length w.sorts) ∷ env) (with_sort w s) in
      let more = length-append w.sorts (s ∷ []) in
      let size = norm_size_of-All s a in
      omega (arith, is, le, more, size);
  ex = λ s a ih. leaf_grows (Ex s a) (ex_leaf [] s a);
})

pub members_of_and : (form : Form) (members seen : List Form) (n : ℕ) → form ≡ And members → seen ≡ members → n + norm_size_of form ≤ 2 ^ 32 → n + sum (map norm_size_of seen) ≤ 2 ^ 32
members_of_and form members seen n is same few =
    let size : norm_size_of form ≡ 1 + sum (map norm_size_of members) = ap norm_size_of is ∙ norm_size_of-And members in
    let all : sum (map norm_size_of seen) ≡ sum (map norm_size_of members) = ap (λ ms. sum (map norm_size_of ms)) same in
    omega (arith, size, all, few)

pub members_of_or : (form : Form) (members seen : List Form) (n : ℕ) → form ≡ Or members → seen ≡ members → n + norm_size_of form ≤ 2 ^ 32 → n + sum (map norm_size_of seen) ≤ 2 ^ 32
members_of_or form members seen n is same few =
    let size : norm_size_of form ≡ 1 + sum (map norm_size_of members) = ap norm_size_of is ∙ norm_size_of-Or members in
    let all : sum (map norm_size_of seen) ≡ sum (map norm_size_of members) = ap (λ ms. sum (map norm_size_of ms)) same in
    omega (arith, size, all, few)

pub under_taken_room : (form body inner : Form) (s : ℕ) (sorts more : List ℕ) → form ≡ All s body → inner ≡ body → more ≡ sorts ++ s ∷ [] → length sorts + norm_size_of form ≤ 2 ^ 32 → length more + norm_size_of inner ≤ 2 ^ 32
under_taken_room form body inner s sorts more is got pushed few =
    let size : norm_size_of form ≡ 1 + norm_size_of body = ap norm_size_of is ∙ norm_size_of-All s body in
    let here : norm_size_of inner ≡ norm_size_of body = ap norm_size_of got in
    let count : length more ≡ length sorts + 1 = ap length pushed ∙ length-append sorts (s ∷ []) in
    omega (arith, size, here, count, few)

pub own_taken_room : (form body : Form) (s n : ℕ) → form ≡ All s body → n + norm_size_of form ≤ 2 ^ 32 → n < 2 ^ 32
own_taken_room form body s n is few =
    let size : norm_size_of form ≡ 1 + norm_size_of body = ap norm_size_of is ∙ norm_size_of-All s body in
    omega (arith, size, few)

sizes_within : (forms : List Form) (i : ℕ) (form : Form) → i < length forms → form ≡ get_or forms i form → sum (map norm_size_of (take i forms)) + norm_size_of form ≤ sum (map norm_size_of forms)
sizes_within [] i form lt e = absurd (omega (arith, lt))
sizes_within (f ∷ forms) zero form lt e =
    let same : norm_size_of form ≡ norm_size_of f = ap norm_size_of e in
    rw (sum_cons (norm_size_of f) (map norm_size_of forms)) (omega (arith, same))
sizes_within (f ∷ forms) (suc i) form lt e =
    let rest = sizes_within forms i form (omega (arith, lt)) e in
    let some = sum_cons (norm_size_of f) (map norm_size_of (take i forms)) in
    let all = sum_cons (norm_size_of f) (map norm_size_of forms) in
    omega (arith, rest, some, all)

-- a member that is picked has room, and its place has a number
pub picked_room : (members : List Form) (choice n : ℕ) (member : Form) → choice < length members → member ≡ get_or members choice member → n + sum (map norm_size_of members) ≤ 2 ^ 32 → n + norm_size_of member ≤ 2 ^ 32
picked_room members choice n member lt e few = let within = sizes_within members choice member lt e in omega (arith, within, few)

pub place_room : (members : List Form) (choice n : ℕ) → choice < length members → n + sum (map norm_size_of members) ≤ 2 ^ 32 → choice < 2 ^ 32
place_room members choice n lt few = let count = few_by_size members in omega (arith, lt, count, few)

all_grow : (as_ : List Form) → AllByRecursion Grows as_
all_grow [] = tt
all_grow (a ∷ as_) = (grows a, all_grow as_)

pub next_room : (members : List Form) (i : ℕ) (before : State) (names : List ℕ) (now : State) (left : List ℕ) (member : Form) → i < length members → member ≡ get_or members i member
    → state_of now ≡ (take_each (map (opening []) (take i members)) (near names) (state_of before)).rest → length before.sorts + sum (map norm_size_of members) ≤ 2 ^ 32 → length now.sorts + norm_size_of member ≤ 2 ^ 32
next_room members i before names now left member lt e state few =
    let within = sizes_within members i member lt e in
    let sorts : length now.sorts ≡ length (take_each (map (opening []) (take i members)) (near names) (state_of before)).rest.sorts = ap (λ (w : Taking). length w.sorts) state in
    let le = each_grows (take i members) (all_grow (take i members)) (near names) (state_of before) in
    omega (arith, within, sorts, le, few)

-- all that a path goes through has a number
pub taken_room : (form : Form) (env : List Term) (before now : State) → before.sorts ≡ [] → state_of now ≡ ((opening [] form).take env (state_of before)).rest → norm_size_of form ≤ 2 ^ 32 → length now.sorts ≤ 2 ^ 32
taken_room form env before now none state few =
    let sorts : length now.sorts ≡ length ((opening [] form).take env (state_of before)).rest.sorts = ap (λ (w : Taking). length w.sorts) state in
    let le = grows form env (state_of before) in
    let zero_sorts : length before.sorts ≡ 0 = ap length none in
    omega (arith, sorts, le, zero_sorts, few)
