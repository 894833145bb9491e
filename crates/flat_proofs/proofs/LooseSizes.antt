-- What is pulled out of a formula has the size of the formula, also in the order of the variables.
use Rattle.std.specs.Prelude.{ℕ, ◌≡◌, ◌+◌, ◌≤◌, Bool, true, false, List, [], ◌∷◌, length, map, sum, refl}
use Rattle.std.specs.List.{AllByRecursion}
use Rattle.std.proofs.Common.{ap, sym, ◌∙◌, arith, length-append}
use Rattle.std.proofs.lemmas.List.{length-map}
use Rattle.fof_terms.specs.declared.term.Term.{Term}
use Rattle.fof_terms.specs.declared.form.Form.{Form, Atom, Eq, Not, And, Or, Imp, Iff, All, Ex}
use Rattle.fof_terms.specs.Lift.{lifted}
use Rattle.fof_terms.specs.Sorts.{binder_depth}
use Rattle.fof_terms.proofs.Induction.{form_induction}
use Rattle.fof_terms.proofs.Walks.{FormWalk, lifting}
use Rattle.clause_form.specs.ClauseView.{closed_by}
use Rattle.clause_form.specs.Norm.{node}
use Rattle.clause_form.specs.Sizes.{norm_size_of}
use Rattle.clause_form.proofs.SizesFacts.{norm_size_of-Atom, norm_size_of-Eq, norm_size_of-Not, norm_size_of-And, norm_size_of-Or, norm_size_of-Imp, norm_size_of-Iff, norm_size_of-All, norm_size_of-Ex}
use Rattle.clause_form.proofs.SizeLaws.{sum_cons, depth_within_size}
use Rattle.flat_form.specs.Flat.{Pulled, kept, sorts_of, bodies_of, pulled, order_of, new_number, sort_of}
use Rattle.flat_form.specs.Renumbered.{renumbered}
use Rattle.flat_form.proofs.Order.{order_few}
use Rattle.flat_form.proofs.Renumbering.{renumbering}
use Rattle.flat_proofs.specs.code.Loose.{loose, closed_of}
use Rattle.flat_proofs.specs.code.Permuting.{turned_by, loose_flat}
use Rattle.flat_proofs.proofs.LooseFacts.{loose-Atom, loose-Eq, kept-Not, kept-Imp, kept-Iff, kept-Ex, node_sorts, node_body, all_sorts, all_body, loose_sorts, list_sorts}

-- the formulas' quantifiers and bodies have at most d binders inside each other
abbrev pub Bounded : ℕ → List Form → Type 0
Bounded d = AllByRecursion (λ a. binder_depth (closed_of (loose a)) ≤ d)

-- new variables
module _ (f : ℕ → Term → Term) (g : ℕ → Form → Form) (w : FormWalk f g) where
  abbrev Stays : Form → Type 0
  Stays a = (d : ℕ) → norm_size_of (g d a) ≡ norm_size_of a

  sizes : (d : ℕ) (as_ : List Form) → AllByRecursion Stays as_ → sum (map norm_size_of (map (g d) as_)) ≡ sum (map norm_size_of as_)
  sizes d [] all = refl
  sizes d (a ∷ as_) all =
      rw (sum_cons (norm_size_of (g d a)) (map norm_size_of (map (g d) as_)), sum_cons (norm_size_of a) (map norm_size_of as_), all.0 d, sizes d as_ all.1) refl

  pub same_size : (a : Form) → Stays a
  same_size = form_induction _ (record {
    atom = λ p ts d. rw (w.atom, norm_size_of-Atom, norm_size_of-Atom) refl;
    eq = λ l r d. rw (w.eq, norm_size_of-Eq, norm_size_of-Eq) refl;
    not = λ a ih d. rw (w.not, norm_size_of-Not, norm_size_of-Not) (ih d);
    and = λ as_ all d. rw (w.and, norm_size_of-And, norm_size_of-And) (ap (λ n. 1 + n) (sizes d as_ all));
    or = λ as_ all d. rw (w.or, norm_size_of-Or, norm_size_of-Or) (ap (λ n. 1 + n) (sizes d as_ all));
    imp = λ a b ih jh d. rw (w.imp, norm_size_of-Imp, norm_size_of-Imp, ih d, jh d) refl;
    iff = λ a b ih jh d. rw (w.iff, norm_size_of-Iff, norm_size_of-Iff, ih d, jh d) refl;
    all = λ s a ih d. rw (w.all, norm_size_of-All, norm_size_of-All, ih (d + 1)) refl;
    ex = λ s a ih d. rw (w.ex, norm_size_of-Ex, norm_size_of-Ex, ih (d + 1)) refl;
  })

size_lifted : (by n : ℕ) (a : Form) → norm_size_of (lifted by n a) ≡ norm_size_of a
size_lifted by n a = let same : n + 0 ≡ n = omega arith in (rw same at (same_size _ _ (lifting by (λ d. n + d) (λ d. omega arith)) a 0))

pub size_closed : (sorts : List ℕ) (a : Form) → norm_size_of (closed_by sorts a) ≡ length sorts + norm_size_of a
size_closed [] a = omega arith
size_closed (s ∷ sorts) a = let rest = size_closed sorts a in let one = norm_size_of-All s (closed_by sorts a) in omega arith

-- what is pulled out
abbrev Keeps : Form → Type 0
Keeps a = norm_size_of (closed_of (loose a)) ≡ norm_size_of a

bodies_size : (f : ℕ) (as_ : List Form) → AllByRecursion Keeps as_ → sum (map norm_size_of (bodies_of f (map loose as_))) + length (sorts_of (map loose as_)) ≡ sum (map norm_size_of as_)
bodies_size f [] all = refl
bodies_size f (a ∷ as_) all =
    let p = loose a in
    let ps = map loose as_ in
    let n = length p.sorts in
    let b = lifted f n p.body in
    let rest = bodies_size (f + n) as_ all.1 in
    let one : norm_size_of (lifted (length (sorts_of ps)) 0 b) ≡ norm_size_of p.body = size_lifted (length (sorts_of ps)) 0 b ∙ size_lifted f n p.body in
    let whole = size_closed p.sorts p.body in
    let same : norm_size_of (closed_of p) ≡ norm_size_of a = all.0 in
    let count = length-append p.sorts (sorts_of ps) in
    rw (sum_cons (norm_size_of (lifted (length (sorts_of ps)) 0 b)) (map norm_size_of (bodies_of (f + n) ps)), sum_cons (norm_size_of a) (map norm_size_of as_)) (omega arith)

size_node : (g : Bool) (as_ : List Form) → norm_size_of (node g as_) ≡ 1 + sum (map norm_size_of as_)
size_node true as_ = norm_size_of-And as_
size_node false as_ = norm_size_of-Or as_

keep_node : (g : Bool) (as_ : List Form) → AllByRecursion Keeps as_ → Keeps (node g as_)
keep_node g as_ all =
    let ps = map loose as_ in
    let bodies = bodies_size 0 as_ all in
    let inner = size_node g (bodies_of 0 ps) in
    let outer = size_node g as_ in
    let closing = size_closed (sorts_of ps) (node g (bodies_of 0 ps)) in
    rw (node_sorts g as_, node_body g as_) (omega arith)

keep_kept : (a : Form) → loose a ≡ kept a → Keeps a
keep_kept a e = ap (λ (p : Pulled). norm_size_of (closed_of p)) e

pub loose_size : (a : Form) → Keeps a
loose_size = form_induction _ (record {
  atom = λ p ts. keep_kept (Atom p ts) (loose-Atom p ts);
  eq = λ l r. keep_kept (Eq l r) (loose-Eq l r);
  not = λ a ih. keep_kept (Not a) (kept-Not a);
  and = λ as_ all. keep_node true as_ all;
  or = λ as_ all. keep_node false as_ all;
  imp = λ a b ih jh. keep_kept (Imp a b) (kept-Imp a b);
  iff = λ a b ih jh. keep_kept (Iff a b) (kept-Iff a b);
  all = λ s a ih.
      let whole : closed_of (loose (All s a)) ≡ All s (closed_of (loose a)) = ap (λ xs. closed_by xs (loose (All s a)).body) (all_sorts s a) ∙ ap (λ b. All s (closed_by (loose a).sorts b)) (all_body s a) in
      ap norm_size_of whole ∙ (norm_size_of-All s (closed_of (loose a)) ∙ (ap (λ n. 1 + n) ih ∙ sym (norm_size_of-All s a)));
  ex = λ s a ih. keep_kept (Ex s a) (kept-Ex s a);
})

pub loose_depth : (a : Form) → binder_depth (closed_of (loose a)) ≤ norm_size_of a
loose_depth a = let same = loose_size a in omega (arith, depth_within_size (closed_of (loose a)))

pub loose_count : (a : Form) → length (loose a).sorts + norm_size_of (loose a).body ≡ norm_size_of a
loose_count a = sym (size_closed (loose a).sorts (loose a).body) ∙ loose_size a

-- the members of a node
pub bounded : (n : ℕ) (as_ : List Form) → sum (map norm_size_of as_) ≤ n → Bounded n as_
bounded n [] le = tt
bounded n (a ∷ as_) le =
    let le' : norm_size_of a + sum (map norm_size_of as_) ≤ n = rw (sum_cons (norm_size_of a) (map norm_size_of as_)) at le in
    (omega (arith, loose_depth a), bounded n as_ (omega arith))

pub node_bounded : (g : Bool) (as_ : List Form) → Bounded (norm_size_of (node g as_)) as_
node_bounded g as_ = let same = size_node g as_ in bounded (norm_size_of (node g as_)) as_ (omega arith)

pub node_count : (g : Bool) (as_ : List Form) → length (sorts_of (map loose as_)) ≤ norm_size_of (node g as_)
node_count g as_ = let same = ap length (node_sorts g as_) in omega (arith, loose_count (node g as_))

-- in the order of the variables
size_turned : (order sorts : List ℕ) (u : Form) → norm_size_of (turned_by order sorts u) ≡ length order + norm_size_of u
size_turned order sorts u =
    let n = length sorts in
    let moved = same_size _ _ (renumbering (new_number order n)) u 0 in
    let count = length-map order (sort_of sorts) in
    size_closed (map (sort_of sorts) order) (renumbered (new_number order n) 0 u) ∙ omega arith

pub loose_flat_small : (a : Form) → norm_size_of (loose_flat a) ≤ norm_size_of a
loose_flat_small a =
    let p = pulled a in
    let n = length p.sorts in
    let same = ap length (loose_sorts a) in
    omega (arith, size_turned (order_of n p.body) p.sorts (loose a).body, order_few n p.body, loose_count a)
