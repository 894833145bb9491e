-- Lines that say of functions that they choose.
use Rattle.std.specs.Prelude.{ℕ, ◌≡◌, ◌+◌, ◌-◌, ◌<◌, ◌≤◌, ◌==◌, Bool, true, false, IsTrue, ◌↔◌, nat_eq, List, [], ◌∷◌, ◌++◌, length, reverse, Option, Some, None, get_or, slice_get, refl}
use Rattle.std.specs.List.{AllByRecursion as Each, IsDistinct}
use Rattle.std.proofs.Common.{ap, sym, subst, ◌∙◌, arith, append_assoc}
use Rattle.std.proofs.lemmas.List.{reverse-append, append-nil}
use Rattle.fof_terms.specs.declared.form.Form.{Form, Imp, All}
use Rattle.fof_terms.specs.declared.form.Form.TheOpen as form
use Rattle.fof_terms.specs.declared.form.Form.TheViews.{out-Form, outs-All, outs-Imp}
use Rattle.fof_terms.specs.Vocabulary.{Vocabulary}
use Rattle.fof_terms.proofs.Trees.{All-injective, Imp-injective}
use Rattle.fof_terms.specs.Occurs.{occurs_in}
use Rattle.fof_terms.specs.Sorts.{SortedTo, binder_depth}
use Rattle.fof_terms.proofs.SortsFacts.{binder_depth-Imp, binder_depth-All}
use Rattle.fof_terms.proofs.Scoped.{raised, sorted_of_imp, sorted_of_all}
use Rattle.kernel.specs.Statements.{Statements}
use Rattle.kernel.specs.Entries.{for_all, IsFresh}
use Rattle.skolem_fresh.specs.declared.just.Use.{Use}
use Rattle.skolem_fresh.specs.code.Leading.{leading}
use Rattle.skolem_fresh.specs.code.Only.{only_has}
use Rattle.skolem_fresh.specs.Uses.{functions_of, Fits, AreArguments}
use Rattle.skolem_fresh.specs.ChoiceRule.{IsOpened, MayChooseFor, Chooses, IsChoiceStep}
use Rattle.skolem_fresh.specs.Choosing.{IsWithin}
use Rattle.skolem_fresh.specs.code.Choosing.{IsRead, IsChosen, ChoosesUnder, IsChosenUnder, IsFree, MayChooseIfFit}
use Rattle.skolem_fresh.proofs.Distinct.{among_contains, contains_among}
use Rattle.skolem_fresh.proofs.Freely.{only_form_has, form_only}
use Rattle.skolem_fresh.proofs.Opened.{leading_opened}

-- parts that have room
module _ (v : Vocabulary) (scope : List ℕ) where
  pub imp_room : (l r : Form) → IsWithin v scope (Imp l r) → (binder_depth l + length scope ≤ 1000000000) × (binder_depth r + length scope ≤ 1000000000)
  imp_room l r w = let room : binder_depth (Imp l r) + length scope ≤ 1000000000 = w.room in let room' = (rw binder_depth-Imp at room) in (omega (arith, room'), omega (arith, room'))

  pub within_left : (l r : Form) → IsWithin v scope (Imp l r) → IsWithin v scope l
  within_left l r w = record { room = (imp_room l r w).0; sorted = (sorted_of_imp v scope 2147483647 l r w.sorted).0 }

  pub within_all : (s : ℕ) (a : Form) → IsWithin v scope (All s a) → IsWithin v (s ∷ scope) a
  within_all s a w =
      let room : binder_depth (All s a) + length scope ≤ 1000000000 = w.room in
      let room' : binder_depth a + 1 + length scope ≤ 1000000000 = rw binder_depth-All at room in
      record { room = omega arith; sorted = sorted_of_all v scope 2147483647 2147483647 s a (omega arith) (omega arith) w.sorted }

pub within_start : (v : Vocabulary) (a : Form) → SortedTo 1000000000 v [] a → IsWithin v [] a
within_start v a s = record { room = omega (arith, s.few_binders); sorted = raised v [] 1000000000 2147483647 a (omega arith) s }

-- a test that fails
pub not_true : (b : Bool) (P : Type 0) → b ≡ false → (IsTrue b ↔ P) → P → ⊥
not_true b P e h p = let t : IsTrue b = h.1 p in cc

pub is_true : (b : Bool) (P : Type 0) → b ≡ true → (IsTrue b ↔ P) → P
is_true b P e h = h.0 e

-- functions that may choose
all_free : (t : Statements) (left : Form) (xs : List ℕ) (uses : List Use) → Each (IsFree t left xs) uses → AreArguments xs left
    → Each (λ (u : Use). u.variables ≡ xs) uses × Each (λ (u : Use). AreArguments u.variables left) uses × Each (λ (u : Use). IsFresh u.function t) uses × Each (λ (u : Use). occurs_in u.function left ≡ false) uses
all_free t left xs [] h a = (tt, tt, tt, tt)
all_free t left xs (u ∷ uses) h a =
    let rest = all_free t left xs uses h.1 a in
    let first : AreArguments u.variables left = rw h.0.same a in
    ((h.0.same, rest.0), (first, rest.1), (h.0.fresh, rest.2), (h.0.absent, rest.3))

all_are : (t : Statements) (left : Form) (xs ys : List ℕ) (uses : List Use) → ys ≡ xs → Each (λ (u : Use). u.variables ≡ ys) uses → Each (λ (u : Use). IsFresh u.function t) uses → Each (λ (u : Use). occurs_in u.function left ≡ false) uses → Each (IsFree t left xs) uses
all_are t left xs ys [] e h f g = tt
all_are t left xs ys (u ∷ uses) e h f g = (record { same = h.0 ∙ e; fresh = f.0; absent = g.0 }, all_are t left xs ys uses e h.1 f.1 g.1)

pub only_arguments : (xs : List ℕ) (left : Form) → IsDistinct nat_eq xs → only_has xs 0 left ≡ true → AreArguments xs left
only_arguments xs left d o = record {
  distinct = d;
  all_free = λ k h. let same : k + 0 ≡ k = omega arith in among_contains xs k (only_form_has xs left (0, k) o (rw same h));
}

pub arguments_only : (xs : List ℕ) (left : Form) → AreArguments xs left → only_has xs 0 left ≡ true
arguments_only xs left a = form_only xs left 0 (λ k h. let same : k + 0 ≡ k = omega arith in contains_among xs k (a.all_free k (rw same at h)))

module _ (t : Statements) (left : Form) where
  pub no_functions : (functions : List ℕ) (uses : List Use) → functions ≡ functions_of uses → (IsDistinct nat_eq functions → ⊥) → MayChooseIfFit t left uses → ⊥
  no_functions functions uses e off m = off (rw e m.new.distinct)

  pub none_choose : (uses : List Use) → uses ≡ [] → MayChooseIfFit t left uses
  unfolding IsDistinct
  none_choose uses e = rw e (record { variables = []; same = tt; arguments = tt; new = record { distinct = tt; fresh = tt }; absent = tt })

  module _ (functions : List ℕ) (uses : List Use) (u : Use) (e : functions ≡ functions_of uses) (first : slice_get uses 0 ≡ Some u) where
    pub not_free : (Each (IsFree t left u.variables) uses → ⊥) → MayChooseIfFit t left uses → ⊥
    not_free off m = off (all_are t left u.variables m.variables uses (sym (same_first uses first m.same)) m.same m.new.fresh m.absent) where
      same_first : (us : List Use) → slice_get us 0 ≡ Some u → Each (λ (w : Use). w.variables ≡ m.variables) us → u.variables ≡ m.variables
      same_first [] f h = cc
      same_first (w ∷ us) f h = let is : w ≡ u = cc in ap (λ (x : Use). x.variables) (sym is) ∙ h.0

    first_arguments : (us : List Use) → slice_get us 0 ≡ Some u → Each (λ (w : Use). AreArguments w.variables left) us → AreArguments u.variables left
    first_arguments [] f h = cc
    first_arguments (w ∷ us) f h = let is : w ≡ u = cc in subst (λ (x : Use). AreArguments x.variables left) is h.0

    pub not_arguments : (IsDistinct nat_eq u.variables → only_has u.variables 0 left ≡ true → ⊥) → MayChooseIfFit t left uses → ⊥
    not_arguments off m = let a = first_arguments uses first m.arguments in off a.distinct (arguments_only u.variables left a)

    pub all_choose : IsDistinct nat_eq functions → Each (IsFree t left u.variables) uses → IsDistinct nat_eq u.variables → only_has u.variables 0 left ≡ true → MayChooseIfFit t left uses
    all_choose d free xs only =
        let parts = all_free t left u.variables uses free (only_arguments u.variables left xs only) in
        record { variables = u.variables; same = parts.0; arguments = parts.1; new = record { distinct = rw (sym e) d; fresh = parts.2 }; absent = parts.3 }

-- the search's answers
module _ (t : Statements) (scope : List ℕ) (left right : Form) where
  with_fits : (uses : List Use) → MayChooseIfFit t left uses → Each (Fits t.vocabulary scope) uses → MayChooseFor t scope left uses
  with_fits uses m f = record { variables = m.variables; same = m.same; arguments = m.arguments; fits = f; new = m.new; absent = m.absent }

  without_fits : (uses : List Use) → MayChooseFor t scope left uses → MayChooseIfFit t left uses
  without_fits uses m = record { variables = m.variables; same = m.same; arguments = m.arguments; new = m.new; absent = m.absent }

  pub too_few : (before after : ℕ) → before ≡ leading left → after ≡ leading right → before ≤ after → IsChosen t scope left right None
  too_few before after e f le k uses some o m = let total = leading_opened k uses left right o in absurd (omega arith)

  module _ (before after : ℕ) (e : before ≡ leading left) (f : after ≡ leading right) where
    that_many : (k : ℕ) (uses : List Use) → IsOpened k uses left right → k ≡ before - after
    that_many k uses o = let total = leading_opened k uses left right o in omega arith

    pub none_chosen : (v : Vocabulary) (old new : List Use) (answer : Bool) → v ≡ t.vocabulary → answer ≡ false → IsRead v scope (before - after) left right old new answer → IsChosen t scope left right None
    none_chosen v old new answer ev off r k uses some o m =
        let o' : IsOpened (before - after) uses left right = subst (λ n. IsOpened n uses left right) (that_many k uses o) o in
        let on_ : answer ≡ true = (r.complete uses o' (rw ev m.fits)).0 in
        cc

    pub not_chosen : (v : Vocabulary) (old new : List Use) (answer : Bool) → v ≡ t.vocabulary → old ≡ [] → (MayChooseIfFit t left new → ⊥) → IsRead v scope (before - after) left right old new answer → IsChosen t scope left right None
    not_chosen v old new answer ev eo off r k uses some o m =
        let o' : IsOpened (before - after) uses left right = subst (λ n. IsOpened n uses left right) (that_many k uses o) o in
        let same : new ≡ uses = (r.complete uses o' (rw ev m.fits)).1 ∙ ap (λ (us : List Use). us ++ uses) eo in
        off (rw same (without_fits uses m))

    pub is_chosen : (v : Vocabulary) (old new : List Use) (answer : Bool) → v ≡ t.vocabulary → old ≡ [] → after < before → answer ≡ true → MayChooseIfFit t left new → IsRead v scope (before - after) left right old new answer
        → IsChosen t scope left right (Some new)
    is_chosen v old new answer ev eo lt on_ m r =
        let all = r.sound on_ in
        let same : new ≡ all.0 = all.1 ∙ ap (λ (us : List Use). us ++ all.0) eo in
        let fits : Each (Fits t.vocabulary scope) new = rw (sym ev, same) all.3 in
        let opened : IsOpened (before - after) new left right = rw same all.2 in
        (before - after, omega arith, opened, with_fits new m fits)

-- under a quantifier more
pub scope_under : (s : ℕ) (sorts scope : List ℕ) → reverse (s ∷ sorts) ++ scope ≡ reverse sorts ++ s ∷ scope
scope_under s sorts scope = ap (λ (ss : List ℕ). ss ++ scope) (reverse-append (s ∷ []) sorts) ∙ append_assoc (reverse sorts) (s ∷ []) scope

pub never_both : (s : ℕ) (a l r : Form) → All s a ≡ Imp l r → ⊥
never_both s a l r e = let layers : form.All s a ≡ form.Imp l r = sym (outs-All s a) ∙ ap out-Form e ∙ outs-Imp l r in cc

-- a line over some sorts is universal, or an implication
pub line_kinds : (line l r : Form) → ((s : ℕ) (a : Form) → line ≡ All s a → ⊥) → ((a b : Form) → line ≡ Imp a b → ⊥) → (sorts : List ℕ) → line ≡ for_all sorts (Imp l r) → ⊥
line_kinds line l r no_all no_imp [] is = no_imp l r is
line_kinds line l r no_all no_imp (s ∷ sorts) is = no_all s (for_all sorts (Imp l r)) is

module _ (t : Statements) (scope : List ℕ) (line : Form) where
  pub other_kind : ((s : ℕ) (a : Form) → line ≡ All s a → ⊥) → ((a b : Form) → line ≡ Imp a b → ⊥) → IsChosenUnder t scope line None
  other_kind no_all no_imp sorts left right k uses c = line_kinds line left right no_all no_imp sorts c.is

  not_under : (s : ℕ) (body : Form) → line ≡ All s body → IsChosenUnder t (s ∷ scope) body None → (left right : Form) (k : ℕ) (uses : List Use) (sorts : List ℕ) → ChoosesUnder t scope line sorts left right k uses → ⊥
  not_under s body is h left right k uses [] c = never_both s body left right (sym is ∙ c.is)
  not_under s body is h left right k uses (r ∷ ss) c =
      let same = All-injective s r body (for_all ss (Imp left right)) (sym is ∙ c.is) in
      let scopes : reverse (r ∷ ss) ++ scope ≡ reverse ss ++ s ∷ scope = scope_under r ss scope ∙ ap (λ x. reverse ss ++ x ∷ scope) (sym same.0) in
      h ss left right k uses (record { is = same.1; some = c.some; opened = c.opened; may = subst (λ sc. MayChooseFor t sc left uses) scopes c.may })

  pub under_all : (s : ℕ) (body : Form) (answer : Option (List Use)) → line ≡ All s body → IsChosenUnder t (s ∷ scope) body answer → IsChosenUnder t scope line answer
  under_all s body None is h = λ sorts left right k uses c. not_under s body is h left right k uses sorts c
  under_all s body (Some uses) is h =
      let c = h.4 in
      (s ∷ h.0, h.1, h.2, h.3, record { is = is ∙ ap (All s) c.is; some = c.some; opened = c.opened; may = subst (λ sc. MayChooseFor t sc h.1 uses) (sym (scope_under s h.0 scope)) c.may })

  not_at : (l r : Form) → line ≡ Imp l r → IsChosen t scope l r None → (left right : Form) (k : ℕ) (uses : List Use) (sorts : List ℕ) → ChoosesUnder t scope line sorts left right k uses → ⊥
  not_at l r is h left right k uses [] c =
      let same = Imp-injective l r left right (sym is ∙ c.is) in
      h k uses c.some (rw (same.0, same.1) c.opened) (rw same.0 c.may)
  not_at l r is h left right k uses (s ∷ ss) c = never_both s (for_all ss (Imp left right)) l r (sym c.is ∙ is)

  pub at_imp : (l r : Form) (answer : Option (List Use)) → line ≡ Imp l r → IsChosen t scope l r answer → IsChosenUnder t scope line answer
  at_imp l r None is h = λ sorts left right k uses c. not_at l r is h left right k uses sorts c
  at_imp l r (Some uses) is h = ([], l, r, h.0, record { is = is; some = h.1; opened = h.2; may = h.3 })

-- a line that stands under no quantifiers
pub none_at_all : (t : Statements) (line : Form) → IsChosenUnder t [] line None → IsChoiceStep t line → ⊥
none_at_all t line h c =
    let d = c.5 in
    h c.0 c.1 c.2 c.3 c.4 (record { is = d.is; some = d.some; opened = d.opened; may = subst (λ sc. MayChooseFor t sc c.1 c.4) (sym (append-nil (reverse c.0))) d.may })

pub some_at_all : (t : Statements) (line : Form) (uses : List Use) → IsChosenUnder t [] line (Some uses) → (sorts : List ℕ) × (left right : Form) × (k : ℕ) × Chooses t line sorts left right k uses
some_at_all t line uses h =
    let d = h.4 in
    (h.0, h.1, h.2, h.3, record { is = d.is; some = d.some; opened = d.opened; may = subst (λ sc. MayChooseFor t sc h.1 uses) (append-nil (reverse h.0)) d.may })

-- as code begins
pub start_within : (v : Vocabulary) (a : Form) (scope : List ℕ) → scope ≡ [] → SortedTo 1000000000 v [] a → IsWithin v scope a
start_within v a scope e s = subst (λ sc. IsWithin v sc a) (sym e) (within_start v a s)

pub start_none : (t : Statements) (line : Form) (scope : List ℕ) (answer : Option (List Use)) → scope ≡ [] → answer ≡ None → IsChosenUnder t scope line answer → IsChoiceStep t line → ⊥
start_none t line scope answer e f h = none_at_all t line (subst (λ sc. IsChosenUnder t sc line None) e (subst (IsChosenUnder t scope line) f h))

pub start_some : (t : Statements) (line : Form) (scope : List ℕ) (answer : Option (List Use)) (uses : List Use) → scope ≡ [] → answer ≡ Some uses → IsChosenUnder t scope line answer
    → (sorts : List ℕ) × (left right : Form) × (k : ℕ) × Chooses t line sorts left right k uses
start_some t line scope answer uses e f h = some_at_all t line uses (subst (λ sc. IsChosenUnder t sc line (Some uses)) e (subst (IsChosenUnder t scope line) f h))

-- As code meets them.
pub code_within : (v : Vocabulary) (scope sc : List ℕ) (line body b0 : Form) (s : ℕ) → sc ≡ s ∷ scope → line ≡ All s b0 → body ≡ b0 → IsWithin v scope line → IsWithin v sc body
code_within v scope sc line body b0 s es is eb w = rw (es, eb) (within_all v scope s b0 (subst (IsWithin v scope) is w))

pub code_all : (t : Statements) (scope sc : List ℕ) (line body b0 : Form) (s : ℕ) (answer : Option (List Use)) → sc ≡ s ∷ scope → line ≡ All s b0 → body ≡ b0 → IsChosenUnder t sc body answer → IsChosenUnder t scope line answer
code_all t scope sc line body b0 s answer es is eb h =
    under_all t scope line s body answer (is ∙ ap (All s) (sym eb)) (subst (λ x. IsChosenUnder t x body answer) es h)

pub code_imp : (t : Statements) (scope : List ℕ) (line l0 r0 l r : Form) (answer : Option (List Use)) → line ≡ Imp l0 r0 → l ≡ l0 → r ≡ r0 → IsChosen t scope l r answer → IsChosenUnder t scope line answer
code_imp t scope line l0 r0 l r answer is el er h =
    let at : line ≡ Imp l r = is ∙ (rw (el, er) refl) in
    at_imp t scope line l r answer at h

pub vocabulary_within : (v w : Vocabulary) (scope : List ℕ) (a : Form) → w ≡ v → IsWithin v scope a → IsWithin w scope a
vocabulary_within v w scope a e h = subst (λ x. IsWithin x scope a) (sym e) h

-- the tests of functions that fit, together
pub may_choose_by : (t : Statements) (left : Form) (functions : List ℕ) (uses : List Use) (u : Use) (xs : List ℕ) (only : Bool) → functions ≡ functions_of uses → slice_get uses 0 ≡ Some u → xs ≡ u.variables
    → (b : Bool) → b ≡ true → (IsTrue b ↔ IsDistinct nat_eq functions) → (d : Bool) → d ≡ true → (IsTrue d ↔ Each (IsFree t left xs) uses) → (e : Bool) → e ≡ true → (IsTrue e ↔ IsDistinct nat_eq xs) → only ≡ only_has xs 0 left
    → (IsTrue only → MayChooseIfFit t left uses) × (MayChooseIfFit t left uses → IsTrue only)
may_choose_by t left functions uses u xs only ef first ex b eb hb d ed hd e ee he is = (
  λ h.
      let xs_distinct : IsDistinct nat_eq u.variables = subst (IsDistinct nat_eq) ex (he.0 ee) in
      let free : Each (IsFree t left u.variables) uses = subst (λ ys. Each (IsFree t left ys) uses) ex (hd.0 ed) in
      let only' : only_has u.variables 0 left ≡ true = ap (λ ys. only_has ys 0 left) (sym ex) ∙ sym is ∙ h in
      all_choose t left functions uses u ef first (hb.0 eb) free xs_distinct only',
  λ m.
      let a = first_arguments t left functions uses u ef first uses first m.arguments in
      is ∙ ap (λ ys. only_has ys 0 left) ex ∙ arguments_only u.variables left a,
)

pub first_of_some : (uses : List Use) (u : Use) (b : Bool) → b ≡ false → b ≡ (length uses == 0) → u ≡ get_or uses 0 u → slice_get uses 0 ≡ Some u
first_of_some [] u b e h is = let never : false ≡ true = sym e ∙ h in cc
first_of_some (w ∷ uses) u b e h is = ap Some (sym is)
