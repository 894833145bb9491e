-- Lines that a parent gives, with new functions in place of its existential variables.
use Rattle.std.specs.Prelude.{ℕ, ◌≡◌, ◌+◌, ◌<◌, ◌≤◌, ◌^◌, MatchOption, Bool, true, false, IsTrue, ◌↔◌, List, [], ◌∷◌, ◌++◌, length, get_or, slice_get, Option, Some, None, refl}
use Rattle.std.specs.List.{AllByRecursion as Each, All as Every, list_any}
use Rattle.std.proofs.Common.{ap, sym, subst, ◌∙◌, arith, inl, inr}
use Rattle.std.specs.Option.{option_map}
use Rattle.std.proofs.lemmas.List.{append-nil, length-map}
use Rattle.std.proofs.lemmas.Option.{slice_get-map, slice_get-get_or, slice_get_within}
use borrow.Author.Count.{below_more}
use Rattle.fof_terms.specs.declared.form.Form.{Form}
use Rattle.fof_terms.specs.Occurs.{occurs_in}
use Rattle.fof_terms.specs.Sorts.{SortedTo, binder_depth}
use Rattle.fof_terms.specs.Vocabulary.{Vocabulary}
use Rattle.clause_form.specs.Norm.{node, norm_of, HasNorm}
use Rattle.clause_form.proofs.NormSorts.{norm_depth}
use Rattle.clause_form.specs.Sizes.{norm_size_of}
use Rattle.clause_form.specs.declared.path.Parent.{Parent}
use Rattle.kernel.specs.Entries.{IsFresh}
use Rattle.kernel.specs.Statements.{Statements}
use Rattle.skolem_fresh.specs.declared.just.Use.{Use}
use Rattle.skolem_fresh.specs.declared.just.SkolemJust.{SkolemJust}
use Rattle.skolem_fresh.specs.declared.just.SkolemJust.TheVariants.{Skolem}
use Rattle.skolem_fresh.specs.declared.leaves.Leaf.{Leaf}
use Rattle.skolem_fresh.specs.Choosing.{IsWithin}
use Rattle.skolem_fresh.specs.Justified.{ShowsSkolem}
use Rattle.skolem_fresh.specs.code.Leaves.{leaves_of}
use Rattle.clause_form.specs.Paths.{forms_of}
use Rattle.skolem_fresh.specs.SkolemRule.{IsSkolemized, Skolemizes, IsSkolemOf, IsSkolemStep}
use Rattle.skolem_fresh.specs.code.Skolemizing.{IsWalked, IsWalkedTo, Gives, IsGiven}
use Rattle.skolem_fresh.specs.code.Solid.{IsSolid}
use Rattle.skolem_fresh.specs.Uses.{AreNew}
use Rattle.skolem_fresh.proofs.Chosen.{not_true, is_true}
use Rattle.skolem_fresh.proofs.LoopsRead.{has_none}
use Rattle.clause_form.proofs.NormFits.{norm_fits}
use Rattle.skolem_fresh.proofs.Normed.{norm_done, norm_stays}
use Rattle.skolem_fresh.proofs.Skolemized.{solid_kept, depth_kept}
use Rattle.skolem_fresh.proofs.WalkCode.{each_at}
use Rattle.skolem_fresh.proofs.Walking.{node_in, none_of}

-- the normal form of what is well-sorted has room
pub norm_within : (v : Vocabulary) (a made : Form) → SortedTo 1000000000 v [] a → HasNorm a made → IsWithin v [] made
norm_within v a made s h =
    let deep = norm_depth a true in
    let few : binder_depth a ≤ 1000000000 = s.few_binders in
    let same : binder_depth (norm_of true a) ≡ binder_depth made = ap binder_depth h.same in
    record {
      room = omega arith;
      sorted = record {
        scope_fits = s.scope_fits;
        few_binders = omega arith;
        fits = rw h.same at (norm_fits v a true [] s.fits);
      };
    }

-- a normal form in which functions took the place of variables is solid
module _ (v : Vocabulary) (parent norm result : Form) (uses : List Use) (has : HasNorm parent norm) (some : 0 < length uses) (h : IsSkolemized v [] uses norm result) where
  no_uses : (g : Bool) → norm ≡ node g [] → ⊥
  no_uses g e =
      let n = node_in v g [] uses [] result (subst (λ a. IsSkolemized v [] uses a result) e h) in
      let empty : uses ≡ [] = (none_of v [] uses n.0 n.2).0 in
      let many : length uses ≡ 0 = ap length empty in
      omega arith

  pub is_solid : IsSolid norm
  is_solid =
      elim (norm_done parent true) [
        | inl k ↦ absurd (no_uses k.0 (sym has.same ∙ k.1))
        | inr s ↦ subst IsSolid has.same s
      ]

  pub terms_of : (made : Form) → made ≡ norm_of true result → leaves_of 0 made ≡ leaves_of 0 result ++ []
  terms_of made e = ap (leaves_of 0) e ∙ (norm_stays result (solid_kept v [] uses norm result h is_solid)).1 0 ∙ sym (append-nil (leaves_of 0 result))

one_norm : (a norm own : Form) → HasNorm a norm → HasNorm a own → norm ≡ own
one_norm a norm own h k = sym h.same ∙ k.same

module _ (t : Statements) (parent made own : Form) (leaves left : List Leaf) (has : HasNorm parent own) (of_made : leaves ≡ leaves_of 0 made) where
  module _ (norm result : Form) (uses : List Use) (g : Gives t parent made norm result uses) where
    replaced_own : IsSkolemized t.vocabulary [] uses own result
    replaced_own = subst (λ a. IsSkolemized t.vocabulary [] uses a result) (one_norm parent norm own g.of_parent has) g.replaced

    own_solid : IsSolid own
    own_solid = is_solid t.vocabulary parent own result uses has g.some replaced_own

    own_terms : leaves ≡ leaves_of 0 result ++ []
    own_terms = of_made ∙ terms_of t.vocabulary parent own result uses has g.some replaced_own made g.same

    as_walked : (v : Vocabulary) (b : Form) (new : List Use) → v ≡ t.vocabulary → IsWalkedTo v [] own b leaves left [] new → (uses ≡ new) × (result ≡ b)
    as_walked v b new e w =
        let d = w.alone own_solid uses result [] (subst (λ x. IsSkolemized x [] uses own result) (sym e) replaced_own) own_terms in
        (d.0 ∙ sym w.gained, d.1)

  pub none_walked : (v : Vocabulary) (new : List Use) → v ≡ t.vocabulary → IsWalked v [] own leaves left [] new None → IsGiven t parent made None
  none_walked v new e w norm result uses g =
      w (own_solid norm result uses g) uses result [] (subst (λ x. IsSkolemized x [] uses own result) (sym e) (replaced_own norm result uses g)) (own_terms norm result uses g)

  module _ (v : Vocabulary) (b : Form) (new : List Use) (e : v ≡ t.vocabulary) (w : IsWalkedTo v [] own b leaves left [] new) where
    pub none_there : length new ≡ 0 → IsGiven t parent made None
    none_there empty norm result uses g =
        let same : length uses ≡ length new = ap length (as_walked norm result uses g v b new e w).0 in
        let some = g.some in
        omega arith

    pub not_new : (AreNew t new → ⊥) → IsGiven t parent made None
    not_new off norm result uses g = off (subst (AreNew t) (as_walked norm result uses g v b new e w).0 g.new)

    pub another_norm : (norm_of true b ≡ made → ⊥) → IsGiven t parent made None
    another_norm off norm result uses g = off (sym (g.same ∙ ap (norm_of true) (as_walked norm result uses g v b new e w).1))

    pub all_given : 0 < length new → AreNew t new → norm_of true b ≡ made → IsGiven t parent made (Some new)
    all_given some fresh same = (
      own,
      b,
      record {
        of_parent = has;
        some = some;
        replaced = subst (λ x. IsSkolemized x [] new own b) e (subst (λ us. IsSkolemized v [] us own b) (sym w.gained) w.is);
        new = fresh;
        same = sym same;
      },
    )

    pub result_depth : binder_depth b ≤ binder_depth own
    result_depth = depth_kept v [] w.functions own b w.is

pub too_wide : (t : Statements) (parent made : Form) → 100000 < norm_size_of parent → IsGiven t parent made None
too_wide t parent made wide norm result uses g = let small = g.of_parent.small in omega arith

pub gives_line : (t : Statements) (parent line made norm result : Form) (uses : List Use) → HasNorm line made → Gives t parent made norm result uses → Skolemizes t parent line norm result uses
gives_line t parent line made norm result uses h g = record {
  of_parent = g.of_parent;
  some = g.some;
  replaced = g.replaced;
  new = g.new;
  of_line = record { small = h.small; same = h.same ∙ g.same };
}

pub line_given : (t : Statements) (parent line made norm result : Form) (uses : List Use) → HasNorm line made → Skolemizes t parent line norm result uses → Gives t parent made norm result uses
line_given t parent line made norm result uses h s = record {
  of_parent = s.of_parent;
  some = s.some;
  replaced = s.replaced;
  new = s.new;
  same = sym h.same ∙ s.of_line.same;
}

-- As code meets it.
pub has_norm : (P : Type 0) (a own got : Form) (x : Option Form) → x ≡ Some own → got ≡ own → MatchOption x P (HasNorm a) → HasNorm a got
has_norm P a own got None e eg m = cc
has_norm P a own got (Some made) e eg m = let same : made ≡ own = cc in subst (HasNorm a) (same ∙ sym eg) m

pub is_wide : (P : Type 0) (a : Form) (x : Option Form) → x ≡ None → MatchOption x P (HasNorm a) → P
is_wide P a None e m = m
is_wide P a (Some made) e m = cc

some_there : (uses : List Use) (b : Bool) → b ≡ false → (IsTrue b ↔ (uses ≡ [])) → 0 < length uses
some_there [] b off test = let on_ : IsTrue b = test.1 refl in cc
some_there (u ∷ uses) b off test = omega arith

module _ (t : Statements) (parent made own : Form) (leaves : List Leaf) (has : HasNorm parent own) (of_made : leaves ≡ leaves_of 0 made) (v : Vocabulary) (ev : v ≡ t.vocabulary) (start new : List Use) (es : start ≡ []) (found : Option Form)
    (w : (left : List Leaf) × IsWalked v [] own leaves left start new found) where
  from_start : (answer : Option Form) → found ≡ answer → IsWalked v [] own leaves w.0 [] new answer
  from_start answer e = subst (λ us. IsWalked v [] own leaves w.0 us new answer) es (subst (IsWalked v [] own leaves w.0 start new) e w.1)

  pub code_none : found ≡ None → IsGiven t parent made None
  code_none e = none_walked t parent made own leaves w.0 has of_made v new ev (from_start None e)

  module _ (whole : Form) (ew : found ≡ Some whole) where
    pub code_empty : (b : Bool) → b ≡ true → (IsTrue b ↔ (new ≡ [])) → IsGiven t parent made None
    code_empty b on_ test = none_there t parent made own leaves w.0 has of_made v whole new ev (from_start (Some whole) ew) (ap length (is_true b (new ≡ []) on_ test))

    pub code_old : (slice : List Use) (b : Bool) → slice ≡ new → b ≡ false → (IsTrue b ↔ AreNew t slice) → IsGiven t parent made None
    code_old slice b e off test = not_new t parent made own leaves w.0 has of_made v whole new ev (from_start (Some whole) ew) (λ n. not_true b (AreNew t slice) off test (subst (AreNew t) (sym e) n))

    pub code_other : (normed : Form) (b : Bool) → normed ≡ norm_of true whole → b ≡ false → (IsTrue b ↔ (normed ≡ made)) → IsGiven t parent made None
    code_other normed b en off test = another_norm t parent made own leaves w.0 has of_made v whole new ev (from_start (Some whole) ew) (λ e. not_true b (normed ≡ made) off test (en ∙ e))

    pub code_given : (slice : List Use) (normed : Form) (b d f : Bool) → b ≡ false → (IsTrue b ↔ (new ≡ [])) → slice ≡ new → d ≡ true → (IsTrue d ↔ AreNew t slice) → normed ≡ norm_of true whole → f ≡ true → (IsTrue f ↔ (normed ≡ made))
        → IsGiven t parent made (Some new)
    code_given slice normed b d f off empty e on_ test en same check =
        all_given t parent made own leaves w.0 has of_made v whole new ev (from_start (Some whole) ew) (some_there new b off empty) (subst (AreNew t) e (is_true d (AreNew t slice) on_ test)) (sym en ∙ is_true f (normed ≡ made) same check)

    pub code_depth : SortedTo 1000000000 t.vocabulary [] parent → binder_depth whole < 2 ^ 32
    code_depth s =
        let inside = result_depth t parent made own leaves w.0 has of_made v whole new ev (from_start (Some whole) ew) in
        let room = (norm_within t.vocabulary parent own s has).room in
        omega arith

-- Among the parents.
module _ (t : Statements) (parents : List Parent) (line made : Form) (has : HasNorm line made) where
  abbrev pub NotAt : ℕ → Type 0
  NotAt i = IsSkolemOf t (forms_of parents) line i → ⊥

  module _ (i : ℕ) (parent : Parent) (lt : i < length parents) (is : parent ≡ get_or parents i parent) where
    form_at : slice_get (forms_of parents) i ≡ Some parent.form
    form_at = slice_get-map (λ (p : Parent). p.form) parents i ∙ ap (option_map (λ (p : Parent). p.form)) (slice_get-get_or parents i parent lt) ∙ ap (λ (p : Parent). Some p.form) (sym is)

    same_form : (a b : Form) (x : Option Form) → x ≡ Some a → x ≡ Some b → a ≡ b
    same_form a b x e f = cc

    pub not_at : (found : Option (List Use)) → found ≡ None → IsGiven t parent.form made found → NotAt i
    not_at found e g s =
        let same : s.0 ≡ parent.form = same_form s.0 parent.form (slice_get (forms_of parents) i) s.4 form_at in
        let g' : IsGiven t parent.form made None = subst (IsGiven t parent.form made) e g in
        g' s.1 s.2 s.3 (subst (λ a. Gives t a made s.1 s.2 s.3) same (line_given t s.0 line made s.1 s.2 s.3 has s.5))

    pub shown_at : (found : Option (List Use)) (uses : List Use) (just : SkolemJust) → found ≡ Some uses → IsGiven t parent.form made found → just ≡ Skolem i uses → ShowsSkolem t (forms_of parents) line just
    shown_at found uses just e g is =
        let g' : IsGiven t parent.form made (Some uses) = subst (IsGiven t parent.form made) e g in
        subst (ShowsSkolem t (forms_of parents) line) (sym is) (parent.form, g'.0, g'.1, form_at, gives_line t parent.form line made g'.0 g'.1 uses has g'.2)

  pub one_more_not : (i : ℕ) → ((j : ℕ) → j < i → NotAt j) → NotAt i → (j : ℕ) → j < i + 1 → NotAt j
  one_more_not i before here = below_more NotAt i before here

  pub none_at_all : (i : ℕ) → length parents ≤ i → ((j : ℕ) → j < i → NotAt j) → IsSkolemStep t (forms_of parents) line → ⊥
  none_at_all i le before s =
      let lt : s.0 < length (forms_of parents) = slice_get_within (forms_of parents) s.0 s.1.0 s.1.4 in
      let same : length (forms_of parents) ≡ length parents = length-map parents (λ (p : Parent). p.form) in
      before s.0 (omega arith) s.1

pub no_norm : (t : Statements) (parents : List Form) (line : Form) → 100000 < norm_size_of line → IsSkolemStep t parents line → ⊥
no_norm t parents line wide s = let small = s.1.5.of_line.small in omega arith

-- a function that stands in a formula of the theory
pub used_stops : (t : Statements) (uses : List Use) (i : ℕ) (u : Use) (b : Bool) → i < length uses → u ≡ get_or uses i u → b ≡ true → b ≡ list_any (occurs_in u.function) t.formulas → Each (λ (w : Use). IsFresh w.function t) uses → ⊥
used_stops t uses i u b lt is on_ e h =
    let fresh : IsFresh u.function t = each_at (λ (w : Use). IsFresh w.function t) uses i u h lt is in
    let off : list_any (occurs_in u.function) t.formulas ≡ false = has_none (occurs_in u.function) t.formulas fresh in
    cc

-- each parent is well-sorted
pub parent_at : (v : Vocabulary) (parents : List Parent) (i : ℕ) (p : Parent) → Every (λ (q : Parent). SortedTo 1000000000 v [] q.form) parents → i < length parents → p ≡ get_or parents i p → SortedTo 1000000000 v [] p.form
parent_at v parents i p h lt is = subst (λ (q : Parent). SortedTo 1000000000 v [] q.form) (sym is) (h i p lt)

pub line_depth : (v : Vocabulary) (a made : Form) → SortedTo 1000000000 v [] a → HasNorm a made → 0 + binder_depth made < 2 ^ 32
line_depth v a made s h = let room = (norm_within v a made s h).room in omega arith
