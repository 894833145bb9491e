-- Functions that take the places of existential variables stand in what is made; and that is no larger.
use Rattle.std.specs.Prelude.{ℕ, ◌≡◌, ◌+◌, ◌<◌, ◌≤◌, ◌==◌, ◌||◌, ◌&&◌, nat_lt, Bool, true, false, List, [], ◌∷◌, ◌++◌, length, map, flat_map, sum, Some, refl}
use Rattle.std.specs.List.{AllByRecursion as Each, list_any, list_all}
use Rattle.std.proofs.Common.{ap, sym, subst, ◌∙◌, arith, inl, inr, ◌⊎◌}
use Rattle.std.proofs.lemmas.Bool.Decides.{nat_tests}
use Rattle.std.proofs.lemmas.List.{append-nil}
use Rattle.fof_terms.specs.declared.term.Term.{Term}
use Rattle.fof_terms.specs.declared.form.Form.{Form, And, Or, All}
use Rattle.fof_terms.proofs.Induction.{form_induction}
use Rattle.fof_terms.specs.Instance.{instance_of, instance_at, instance_term}
use Rattle.fof_terms.specs.Occurs.{occurs_in, occurs_in_term}
use Rattle.fof_terms.proofs.OccursFacts.{occurs_in-Atom, occurs_in-Eq, occurs_in-Not, occurs_in-And, occurs_in-Or, occurs_in-Imp, occurs_in-Iff, occurs_in-All, occurs_in-Ex}
use Rattle.fof_terms.specs.Variables.{has_in_term, has_variable}
use Rattle.fof_terms.specs.Vocabulary.{Vocabulary}
use Rattle.fof_terms.proofs.LiftingLaws.{both}
use Rattle.fof_terms.specs.Sorts.{is_sorted}
use Rattle.fof_terms.proofs.SortsFacts.{is_sorted-And, is_sorted-Or, is_sorted-All, is_sorted-Ex}
use Rattle.fof_terms.proofs.Walks.{placing, instance_fits}
use Rattle.clause_form.specs.Norm.{norm_of, HasNorm}
use Rattle.clause_form.proofs.SizeLaws.{sum_cons}
use Rattle.clause_form.specs.Sizes.{norm_size_of}
use Rattle.clause_form.proofs.SizesFacts.{norm_size_of-And, norm_size_of-Or, norm_size_of-All, norm_size_of-Ex}
use Rattle.skolem_fresh.specs.declared.just.Use.{Use}
use Rattle.skolem_fresh.specs.declared.leaves.Leaf.{Leaf}
use Rattle.skolem_fresh.specs.code.Leaves.{leaf, leaves_of}
use Rattle.skolem_fresh.proofs.LeavesFacts.{leaves_of-Atom, leaves_of-Eq, leaves_of-Not, leaves_of-And, leaves_of-Or, leaves_of-Imp, leaves_of-Iff, leaves_of-All, leaves_of-Ex}
use Rattle.skolem_fresh.specs.SkolemRule.{IsSkolemized, AreSkolemized, an_atom, an_equation, a_negation, a_conjunction, a_disjunction, for_each, for_some, none, more}
use Rattle.skolem_fresh.specs.code.Solid.{IsSolid, AreSolid}
use Rattle.skolem_fresh.specs.Uses.{value_of}
use Rattle.skolem_fresh.proofs.Entering.{neither, both_false, value_occurs}
use Rattle.skolem_fresh.proofs.Freely.{one_of}
use Rattle.skolem_fresh.proofs.LeafLaws.{changed, deeper, stands, walk_leaves, deeper_leaves, stands_in, any_append, any_of_map, any_flat}
use Rattle.skolem_fresh.proofs.Occurring.{instance_term_occurs}
use Rattle.skolem_fresh.proofs.SkolemSteps.{is_solid, terms_of}
use Rattle.skolem_fresh.proofs.SolidLaws.{node_solid, some_solid, quantifier_solid, first_solid, instance_solid}
use Rattle.skolem_fresh.proofs.WalkCode.{instance_size}
use Rattle.skolem_proofs.specs.Choosing.{AreOthers}
use Rattle.skolem_proofs.proofs.Lacking.{norm_lacks}

or_left : (a b : Bool) → a ≡ true → (a || b) ≡ true
or_left a b e = rw e refl

or_right : (a b : Bool) → b ≡ true → (a || b) ≡ true
or_right true b e = refl
or_right false b e = e

-- where each that has the one, when it is changed, has the other
any_where : {X Y : Type 0} (p : X → Bool) (q : Y → Bool) (f : X → Y) (xs : List X) → ((x : X) → p x ≡ true → q (f x) ≡ true) → list_any p xs ≡ true → list_any q (map f xs) ≡ true
any_where p q f [] h e = cc
any_where p q f (x ∷ xs) h e =
    elim (one_of (p x) (list_any p xs) e) [
      | inl one ↦ or_left (q (f x)) (list_any q (map f xs)) (h x one)
      | inr one ↦ or_right (q (f x)) (list_any q (map f xs)) (any_where p q f xs h one)
    ]

-- the symbol stands in the term
abbrev in_leaf : ℕ → Leaf → Bool
in_leaf k l = occurs_in_term k l.term

-- the symbol stands in one of the formula's terms
abbrev stands_under : ℕ → ℕ → Form → Bool
stands_under k d a = list_any (in_leaf k) (leaves_of d a)

abbrev pub in_terms : ℕ → Form → Bool
in_terms k a = stands_under k 0 a

one_deeper : (k d : ℕ) (a : Form) → stands_under k (d + 1) a ≡ stands_under k d a
one_deeper k d a = ap (list_any (in_leaf k)) (deeper_leaves a d) ∙ any_of_map (in_leaf k) deeper (leaves_of d a)

in_all : (k s : ℕ) (a : Form) → in_terms k (All s a) ≡ in_terms k a
in_all k s a = ap (list_any (in_leaf k)) (leaves_of-All 0 s a) ∙ one_deeper k 0 a

any_of_flat : (k : ℕ) (as_ : List Form) → list_any (in_terms k) as_ ≡ list_any (in_leaf k) (flat_map (leaves_of 0) as_)
any_of_flat k as_ = any_flat (in_terms k) (in_leaf k) (leaves_of 0) as_ (same as_) where
  same : (xs : List Form) → Each (λ a. in_terms k a ≡ list_any (in_leaf k) (leaves_of 0 a)) xs
  same [] = tt
  same (x ∷ xs) = (refl, same xs)

in_and : (k : ℕ) (as_ : List Form) → in_terms k (And as_) ≡ list_any (in_terms k) as_
in_and k as_ = ap (list_any (in_leaf k)) (leaves_of-And 0 as_) ∙ sym (any_of_flat k as_)

in_or : (k : ℕ) (as_ : List Form) → in_terms k (Or as_) ≡ list_any (in_terms k) as_
in_or k as_ = ap (list_any (in_leaf k)) (leaves_of-Or 0 as_) ∙ sym (any_of_flat k as_)

-- An instance has what the formula has, and what the term has where the variable stands.
module _ (k : ℕ) (x : Term) (a : Form) where
  instance_terms : in_terms k (instance_of a x) ≡ list_any (in_leaf k) (map (changed (instance_term x)) (leaves_of 0 a))
  instance_terms = ap (list_any (in_leaf k)) (walk_leaves (instance_term x) (instance_at x) (placing x (λ d. d) (λ d. refl)) a 0)

  pub still_in : in_terms k a ≡ true → in_terms k (instance_of a x) ≡ true
  still_in e =
      instance_terms
      ∙ any_where (in_leaf k) (in_leaf k) (changed (instance_term x)) (leaves_of 0 a)
      (λ l h. instance_term_occurs k x l.depth l.term ∙ or_left (occurs_in_term k l.term) (has_in_term l.depth l.term && occurs_in_term k x) h) e

  pub comes_in : has_variable 0 a ≡ true → occurs_in_term k x ≡ true → in_terms k (instance_of a x) ≡ true
  comes_in e on_ =
      instance_terms
      ∙ any_where (stands 0) (in_leaf k) (changed (instance_term x)) (leaves_of 0 a)
      (λ l h. instance_term_occurs k x l.depth l.term ∙ or_right (occurs_in_term k l.term) (has_in_term l.depth l.term && occurs_in_term k x) (both_in l h)) (sym (stands_in a (0, 0)) ∙ e) where
        both_in : (l : Leaf) → stands 0 l ≡ true → (has_in_term l.depth l.term && occurs_in_term k x) ≡ true
        both_in l h =
            let same : 0 + l.depth ≡ l.depth = omega arith in
            let here : has_in_term l.depth l.term ≡ true = subst (λ d. has_in_term d l.term ≡ true) same h in
            rw (here, on_) refl

-- What the functions make of a formula.
module _ (v : Vocabulary) where
  mutual
    -- terms keep their symbols
    terms_kept : (k : ℕ) (scope : List ℕ) (uses : List Use) (a b : Form) → IsSkolemized v scope uses a b → in_terms k a ≡ true → in_terms k b ≡ true
    terms_kept k scope uses a b (an_atom sc p ts) e = e
    terms_kept k scope uses a b (an_equation sc l r) e = e
    terms_kept k scope uses a b (a_negation sc c) e = e
    terms_kept k scope uses a b (a_conjunction sc us as_ bs h) e = in_and k bs ∙ any_kept k scope us as_ bs h (sym (in_and k as_) ∙ e)
    terms_kept k scope uses a b (a_disjunction sc us as_ bs h) e = in_or k bs ∙ any_kept k scope us as_ bs h (sym (in_or k as_) ∙ e)
    terms_kept k scope uses a b (for_each sc us s c d h) e = in_all k s d ∙ terms_kept k (s ∷ scope) us c d h (sym (in_all k s c) ∙ e)
    terms_kept k scope uses a b (for_some sc u rest s c d m h) e =
        let inside : in_terms k c ≡ true = sym (ap (list_any (in_leaf k)) (leaves_of-Ex 0 s c) ∙ one_deeper k 0 c) ∙ e in
        terms_kept k scope rest (instance_of c (value_of u)) d h (still_in k (value_of u) c inside)

    any_kept : (k : ℕ) (scope : List ℕ) (uses : List Use) (as_ bs : List Form) → AreSkolemized v scope uses as_ bs → list_any (in_terms k) as_ ≡ true → list_any (in_terms k) bs ≡ true
    any_kept k scope uses as_ bs (none sc) e = e
    any_kept k scope uses as_ bs (more sc first rest a b cs ds h g) e =
        elim (one_of (in_terms k a) (list_any (in_terms k) cs) e) [
          | inl one ↦ or_left (in_terms k b) (list_any (in_terms k) ds) (terms_kept k scope first a b h one)
          | inr one ↦ or_right (in_terms k b) (list_any (in_terms k) ds) (any_kept k scope rest cs ds g one)
        ]

  abbrev pub StandIn : Form → List Use → Type 0
  StandIn b uses = Each (λ (u : Use). in_terms u.function b ≡ true) uses

  abbrev StandAmong : List Form → List Use → Type 0
  StandAmong bs uses = Each (λ (u : Use). list_any (in_terms u.function) bs ≡ true) uses

  among_more : (b : Form) (bs : List Form) (uses : List Use) → StandAmong bs uses → StandAmong (b ∷ bs) uses
  among_more b bs [] h = tt
  among_more b bs (u ∷ uses) h = (or_right (in_terms u.function b) (list_any (in_terms u.function) bs) h.0, among_more b bs uses h.1)

  among_both : (b : Form) (bs : List Form) (first rest : List Use) → StandIn b first → StandAmong bs rest → StandAmong (b ∷ bs) (first ++ rest)
  among_both b bs [] rest h g = among_more b bs rest g
  among_both b bs (u ∷ first) rest h g = (or_left (in_terms u.function b) (list_any (in_terms u.function) bs) h.0, among_both b bs first rest h.1 g)

  in_conjunction : (bs : List Form) (uses : List Use) → StandAmong bs uses → StandIn (And bs) uses
  in_conjunction bs [] h = tt
  in_conjunction bs (u ∷ uses) h = (in_and u.function bs ∙ h.0, in_conjunction bs uses h.1)

  in_disjunction : (bs : List Form) (uses : List Use) → StandAmong bs uses → StandIn (Or bs) uses
  in_disjunction bs [] h = tt
  in_disjunction bs (u ∷ uses) h = (in_or u.function bs ∙ h.0, in_disjunction bs uses h.1)

  in_quantified : (s : ℕ) (b : Form) (uses : List Use) → StandIn b uses → StandIn (All s b) uses
  in_quantified s b [] h = tt
  in_quantified s b (u ∷ uses) h = (in_all u.function s b ∙ h.0, in_quantified s b uses h.1)

  same_number : (k : ℕ) → (k == k) ≡ true
  same_number k = grind (arith, nat_tests)

  mutual
    -- the functions stand in what is made of a solid formula
    pub all_stand : (scope : List ℕ) (uses : List Use) (a b : Form) → IsSkolemized v scope uses a b → IsSolid a → StandIn b uses
    all_stand scope uses a b (an_atom sc p ts) s = tt
    all_stand scope uses a b (an_equation sc l r) s = tt
    all_stand scope uses a b (a_negation sc c) s = tt
    all_stand scope uses a b (a_conjunction sc us as_ bs h) s = in_conjunction bs us (stand_among scope us as_ bs h (some_solid as_ (node_solid true as_ s)))
    all_stand scope uses a b (a_disjunction sc us as_ bs h) s = in_disjunction bs us (stand_among scope us as_ bs h (some_solid as_ (node_solid false as_ s)))
    all_stand scope uses a b (for_each sc us s c d h) g = in_quantified s d us (all_stand (s ∷ scope) us c d h (quantifier_solid true s c g).1)
    all_stand scope uses a b (for_some sc u rest s c d m h) g =
        let parts = quantifier_solid false s c g in
        let on_ : occurs_in_term u.function (value_of u) ≡ true = value_occurs u.function u.function u.variables ∙ same_number u.function in (
          terms_kept u.function scope rest (instance_of c (value_of u)) d h (comes_in u.function (value_of u) c parts.0 on_),
          all_stand scope rest (instance_of c (value_of u)) d h (instance_solid (value_of u) c 0 parts.1),
        )

    stand_among : (scope : List ℕ) (uses : List Use) (as_ bs : List Form) → AreSkolemized v scope uses as_ bs → AreSolid as_ → StandAmong bs uses
    stand_among scope uses as_ bs (none sc) s = tt
    stand_among scope uses as_ bs (more sc first rest a b cs ds h g) s =
        let parts = first_solid a cs s in
        among_both b ds first rest (all_stand scope first a b h parts.0) (stand_among scope rest cs ds g parts.1)

  two_true : (a b : Bool) → a ≡ true → b ≡ true → (a && b) ≡ true
  two_true a b e f = rw (e, f) refl

  mutual
    -- what is made is well-sorted
    pub fits_kept : (scope : List ℕ) (uses : List Use) (a b : Form) → IsSkolemized v scope uses a b → is_sorted v scope a ≡ true → is_sorted v scope b ≡ true
    fits_kept scope uses a b (an_atom sc p ts) e = e
    fits_kept scope uses a b (an_equation sc l r) e = e
    fits_kept scope uses a b (a_negation sc c) e = e
    fits_kept scope uses a b (a_conjunction sc us as_ bs h) e = is_sorted-And v sc bs ∙ all_fit sc us as_ bs h (sym (is_sorted-And v sc as_) ∙ e)
    fits_kept scope uses a b (a_disjunction sc us as_ bs h) e = is_sorted-Or v sc bs ∙ all_fit sc us as_ bs h (sym (is_sorted-Or v sc as_) ∙ e)
    fits_kept scope uses a b (for_each sc us s c d h) e =
        let parts = both (nat_lt s (length v.sorts)) (is_sorted v (s ∷ sc) c) (sym (is_sorted-All v sc s c) ∙ e) in
        is_sorted-All v sc s d ∙ two_true (nat_lt s (length v.sorts)) (is_sorted v (s ∷ sc) d) parts.0 (fits_kept (s ∷ sc) us c d h parts.1)
    fits_kept scope uses a b (for_some sc u rest s c d m h) e =
        let parts = both (nat_lt s (length v.sorts)) (is_sorted v (s ∷ sc) c) (sym (is_sorted-Ex v sc s c) ∙ e) in
        let next : is_sorted v sc (instance_of c (value_of u)) ≡ true = instance_fits v (value_of u) s sc (m.fits ∙ ap Some m.sort) c [] ∙ parts.1 in
        fits_kept sc rest (instance_of c (value_of u)) d h next

    all_fit : (scope : List ℕ) (uses : List Use) (as_ bs : List Form) → AreSkolemized v scope uses as_ bs → list_all (is_sorted v scope) as_ ≡ true → list_all (is_sorted v scope) bs ≡ true
    all_fit scope uses as_ bs (none sc) e = e
    all_fit scope uses as_ bs (more sc first rest a b cs ds h g) e =
        let parts = both (is_sorted v sc a) (list_all (is_sorted v sc) cs) e in
        two_true (is_sorted v sc b) (list_all (is_sorted v sc) ds) (fits_kept sc first a b h parts.0) (all_fit sc rest cs ds g parts.1)

  mutual
    -- what is made is no larger
    pub no_larger : (scope : List ℕ) (uses : List Use) (a b : Form) → IsSkolemized v scope uses a b → norm_size_of b ≤ norm_size_of a
    no_larger scope uses a b (an_atom sc p ts) = omega arith
    no_larger scope uses a b (an_equation sc l r) = omega arith
    no_larger scope uses a b (a_negation sc c) = omega arith
    no_larger scope uses a b (a_conjunction sc us as_ bs h) = let inner = sums_no_larger scope us as_ bs h in rw (norm_size_of-And as_, norm_size_of-And bs) (omega arith)
    no_larger scope uses a b (a_disjunction sc us as_ bs h) = let inner = sums_no_larger scope us as_ bs h in rw (norm_size_of-Or as_, norm_size_of-Or bs) (omega arith)
    no_larger scope uses a b (for_each sc us s c d h) = let inner = no_larger (s ∷ scope) us c d h in rw (norm_size_of-All s c, norm_size_of-All s d) (omega arith)
    no_larger scope uses a b (for_some sc u rest s c d m h) =
        let inner = no_larger scope rest (instance_of c (value_of u)) d h in
        let same = instance_size (value_of u) c in
        rw (norm_size_of-Ex s c) (omega arith)

    sums_no_larger : (scope : List ℕ) (uses : List Use) (as_ bs : List Form) → AreSkolemized v scope uses as_ bs → sum (map norm_size_of bs) ≤ sum (map norm_size_of as_)
    sums_no_larger scope uses as_ bs (none sc) = omega arith
    sums_no_larger scope uses as_ bs (more sc first rest a b cs ds h g) =
        let one = no_larger scope first a b h in
        let others = sums_no_larger scope rest cs ds g in
        rw (sum_cons (norm_size_of a) (map norm_size_of cs), sum_cons (norm_size_of b) (map norm_size_of ds)) (omega arith)

-- What stands in a term stands in the formula.
all_off : (k d : ℕ) (ts : List Term) → list_any (occurs_in_term k) ts ≡ false → list_any (in_leaf k) (map (leaf d) ts) ≡ false
all_off k d ts h = any_of_map (in_leaf k) (leaf d) ts ∙ h

module _ (k : ℕ) where
  abbrev Off : Form → Type 0
  Off a = (d : ℕ) → occurs_in k a ≡ false → stands_under k d a ≡ false

  each_off : (d : ℕ) (as_ : List Form) → Each Off as_ → list_any (occurs_in k) as_ ≡ false → list_any (in_leaf k) (flat_map (leaves_of d) as_) ≡ false
  each_off d as_ all h = sym (any_flat (stands_under k d) (in_leaf k) (leaves_of d) as_ (same as_)) ∙ go as_ all h where
    same : (xs : List Form) → Each (λ a. stands_under k d a ≡ list_any (in_leaf k) (leaves_of d a)) xs
    same [] = tt
    same (x ∷ xs) = (refl, same xs)

    go : (xs : List Form) → Each Off xs → list_any (occurs_in k) xs ≡ false → list_any (stands_under k d) xs ≡ false
    go [] a h = refl
    go (x ∷ xs) a h = let parts = neither (occurs_in k x) (list_any (occurs_in k) xs) h in both_false (stands_under k d x) (list_any (stands_under k d) xs) (a.0 d parts.0) (go xs a.1 parts.1)

  two_off : (d : ℕ) (a b : Form) → stands_under k d a ≡ false → stands_under k d b ≡ false → list_any (in_leaf k) (leaves_of d a ++ leaves_of d b) ≡ false
  two_off d a b e f = any_append (in_leaf k) (leaves_of d a) (leaves_of d b) ∙ both_false (stands_under k d a) (stands_under k d b) e f

  pub terms_off : (a : Form) → Off a
  terms_off = form_induction Off (record {
    atom = λ p ts d h. ap (list_any (in_leaf k)) (leaves_of-Atom d p ts) ∙ all_off k d ts (neither (p == k) (list_any (occurs_in_term k) ts) (sym (occurs_in-Atom k p ts) ∙ h)).1;
    eq = λ l r d h.
        let parts = neither (occurs_in_term k l) (occurs_in_term k r) (sym (occurs_in-Eq k l r) ∙ h) in
        ap (list_any (in_leaf k)) (leaves_of-Eq d l r) ∙ both_false (occurs_in_term k l) (occurs_in_term k r || false) parts.0 (both_false (occurs_in_term k r) false parts.1 refl);
    not = λ a ih d h. ap (list_any (in_leaf k)) (leaves_of-Not d a) ∙ ih d (sym (occurs_in-Not k a) ∙ h);
    and = λ as_ all d h. ap (list_any (in_leaf k)) (leaves_of-And d as_) ∙ each_off d as_ all (sym (occurs_in-And k as_) ∙ h);
    or = λ as_ all d h. ap (list_any (in_leaf k)) (leaves_of-Or d as_) ∙ each_off d as_ all (sym (occurs_in-Or k as_) ∙ h);
    imp = λ a b ih jh d h.
        let parts = neither (occurs_in k a) (occurs_in k b) (sym (occurs_in-Imp k a b) ∙ h) in
        ap (list_any (in_leaf k)) (leaves_of-Imp d a b) ∙ two_off d a b (ih d parts.0) (jh d parts.1);
    iff = λ a b ih jh d h.
        let parts = neither (occurs_in k a) (occurs_in k b) (sym (occurs_in-Iff k a b) ∙ h) in
        ap (list_any (in_leaf k)) (leaves_of-Iff d a b) ∙ two_off d a b (ih d parts.0) (jh d parts.1);
    all = λ s a ih d h. ap (list_any (in_leaf k)) (leaves_of-All d s a) ∙ ih (d + 1) (sym (occurs_in-All k s a) ∙ h);
    ex = λ s a ih d h. ap (list_any (in_leaf k)) (leaves_of-Ex d s a) ∙ ih (d + 1) (sym (occurs_in-Ex k s a) ∙ h);
  })

-- A symbol that the line lacks is none of its functions.
module _ (v : Vocabulary) (parent norm result line : Form) (uses : List Use) (has : HasNorm parent norm) (some : 0 < length uses) (h : IsSkolemized v [] uses norm result) (same : HasNorm line (norm_of true result)) (k : ℕ)
    (off : occurs_in k line ≡ false) where
  off_result : in_terms k result ≡ false
  off_result =
      let made = norm_of true result in
      let lacks : occurs_in k made ≡ false = ap (occurs_in k) (sym same.same) ∙ norm_lacks k line true off in
      let leaves : leaves_of 0 made ≡ leaves_of 0 result = terms_of v parent norm result uses has some h made refl ∙ append-nil (leaves_of 0 result) in
      ap (list_any (in_leaf k)) (sym leaves) ∙ terms_off k made 0 lacks

  either : (b : Bool) → (b ≡ true) ⊎ (b ≡ false)
  either true = inl refl
  either false = inr refl

  not_this : (us : List Use) → StandIn v result us → AreOthers k us
  not_this [] s = tt
  not_this (u ∷ us) s = (
    elim (either (u.function == k)) [
      | inl on_ ↦
          let one : u.function ≡ k = grind (arith, nat_tests) in
          let never : true ≡ false = sym (subst (λ j. in_terms j result ≡ true) one s.0) ∙ off_result in
          cc
      | inr e ↦ e
    ],
    not_this us s.1,
  )

  pub are_others : AreOthers k uses
  are_others = not_this uses (all_stand v [] uses norm result h (is_solid v parent norm result uses has some h))
