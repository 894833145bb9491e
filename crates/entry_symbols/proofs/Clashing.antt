-- A symbol that two vocabularies do not have as one kind stands in nothing that is well-sorted over both.
use Rattle.std.specs.Prelude.{ℕ, ◌≡◌, ◌==◌, ◌||◌, ◌&&◌, nat_lt, Bool, true, false, List, [], ◌∷◌, length, map, Option, None, Some, slice_get, refl}
use Rattle.std.specs.List.{AllByRecursion, list_any, list_all}
use Rattle.std.proofs.Common.{ap, sym, ◌∙◌}
use Rattle.std.proofs.lemmas.Bool.{eqb-true}
use Rattle.fof_terms.specs.declared.term.Term.{Term}
use Rattle.fof_terms.specs.declared.form.Form.{Form}
use Rattle.fof_terms.specs.declared.signature.Symbol.{Symbol}
use Rattle.fof_terms.specs.declared.signature.Kind.{Kind}
use Rattle.fof_terms.specs.declared.signature.Kind.TheVariants.{Function, Predicate}
use Rattle.fof_terms.specs.Vocabulary.{Vocabulary}
use Rattle.fof_terms.specs.Occurs.{occurs_in, occurs_in_term}
use Rattle.fof_terms.specs.Sorts.{made_by, stated_by, are_sorts, applied, holds_of, sort_of_term, is_sorted}
use Rattle.fof_terms.proofs.Induction.{term_induction, form_induction}
use Rattle.fof_terms.proofs.LiftingLaws.{both, one_found, applied_found, holds_found}
use Rattle.fof_terms.proofs.OccursFacts.{occurs_in_term-Var, occurs_in_term-App, occurs_in-Atom, occurs_in-Eq, occurs_in-Not, occurs_in-And, occurs_in-Or, occurs_in-Imp, occurs_in-Iff, occurs_in-All, occurs_in-Ex}
use Rattle.fof_terms.proofs.SortsFacts.{sort_of_term-App, is_sorted-Atom, is_sorted-Eq, is_sorted-Not, is_sorted-And, is_sorted-Or, is_sorted-Imp, is_sorted-Iff, is_sorted-All, is_sorted-Ex}

-- the two are not both there as symbols of one kind
abbrev pub Clash : Option Symbol → Option Symbol → Type 0
Clash here there = (s r : Symbol) → here ≡ Some s → there ≡ Some r → s.kind ≡ r.kind → ⊥

made_function : (k : Kind) (fits : Bool) (result x : ℕ) → made_by k fits result ≡ Some x → k ≡ Function
made_function Function fits result x e = refl
made_function Predicate fits result x e = absurd (cc)

applied_function : (o : Option Symbol) (found : List (Option ℕ)) (x : ℕ) → applied o found ≡ Some x → (s : Symbol) × (o ≡ Some s) × (s.kind ≡ Function)
applied_function None found x e = absurd (cc)
applied_function (Some s) found x e = (s, refl, made_function s.kind (are_sorts found s.args) s.result x e)

stated_predicate : (k : Kind) (fits : Bool) → stated_by k fits ≡ true → k ≡ Predicate
stated_predicate Function fits e = absurd (cc)
stated_predicate Predicate fits e = refl

holds_predicate : (o : Option Symbol) (found : List (Option ℕ)) → holds_of o found ≡ true → (s : Symbol) × (o ≡ Some s) × (s.kind ≡ Predicate)
holds_predicate None found e = absurd (cc)
holds_predicate (Some s) found e = (s, refl, stated_predicate s.kind (are_sorts found s.args) e)

pub none_of_two : (a b : Bool) → a ≡ false → b ≡ false → (a || b) ≡ false
none_of_two a b ea eb = rw (ea, eb) refl

-- what does not hold is false
pub not_true : (b : Bool) → (b ≡ true → ⊥) → b ≡ false
not_true true never = absurd (never refl)
not_true false never = refl

module _ (v w : Vocabulary) (k : ℕ) (clash : Clash (slice_get v.symbols k) (slice_get w.symbols k)) where
  other_function : (f : ℕ) (found more : List (Option ℕ)) (x y : ℕ) → applied (slice_get v.symbols f) found ≡ Some x → applied (slice_get w.symbols f) more ≡ Some y → (f == k) ≡ false
  other_function f found more x y e g = not_true (f == k) (λ is.
      let same : f ≡ k = eqb-true f k is in
      let here = applied_function (slice_get v.symbols f) found x e in
      let there = applied_function (slice_get w.symbols f) more y g in
      clash here.0 there.0 (ap (slice_get v.symbols) (sym same) ∙ here.1) (ap (slice_get w.symbols) (sym same) ∙ there.1) (here.2 ∙ sym there.2))

  other_predicate : (p : ℕ) (found more : List (Option ℕ)) → holds_of (slice_get v.symbols p) found ≡ true → holds_of (slice_get w.symbols p) more ≡ true → (p == k) ≡ false
  other_predicate p found more e g = not_true (p == k) (λ is.
      let same : p ≡ k = eqb-true p k is in
      let here = holds_predicate (slice_get v.symbols p) found e in
      let there = holds_predicate (slice_get w.symbols p) more g in
      clash here.0 there.0 (ap (slice_get v.symbols) (sym same) ∙ here.1) (ap (slice_get w.symbols) (sym same) ∙ there.1) (here.2 ∙ sym there.2))

  module _ (one other : List ℕ) where
    abbrev LacksBoth : Term → Type 0
    LacksBoth t = (x y : ℕ) → sort_of_term v one t ≡ Some x → sort_of_term w other t ≡ Some y → occurs_in_term k t ≡ false

    none_of : (ts : List Term) → AllByRecursion LacksBoth ts → AllByRecursion (λ t. (s : ℕ) × (sort_of_term v one t ≡ Some s)) ts → AllByRecursion (λ t. (s : ℕ) × (sort_of_term w other t ≡ Some s)) ts
        → list_any (occurs_in_term k) ts ≡ false
    none_of [] all here there = refl
    none_of (t ∷ ts) all here there = none_of_two (occurs_in_term k t) (list_any (occurs_in_term k) ts) (all.0 here.0.0 there.0.0 here.0.1 there.0.1) (none_of ts all.1 here.1 there.1)

    pub term_lacks : (t : Term) → LacksBoth t
    term_lacks = term_induction LacksBoth (record {
      var = λ j x y e g. occurs_in_term-Var k j;
      app = λ f ts all x y e g.
          let here : applied (slice_get v.symbols f) (map (sort_of_term v one) ts) ≡ Some x = rw sort_of_term-App at e in
          let there : applied (slice_get w.symbols f) (map (sort_of_term w other) ts) ≡ Some y = rw sort_of_term-App at g in
          occurs_in_term-App k f ts
          ∙ none_of_two (f == k) (list_any (occurs_in_term k) ts)
          (other_function f (map (sort_of_term v one) ts) (map (sort_of_term w other) ts) x y here there)
          (none_of ts all (applied_found (sort_of_term v one) ts (slice_get v.symbols f) x here) (applied_found (sort_of_term w other) ts (slice_get w.symbols f) y there));
    })

    all_lack : (ts : List Term) → AllByRecursion LacksBoth ts
    all_lack [] = tt
    all_lack (t ∷ ts) = (term_lacks t, all_lack ts)

  abbrev FitsNeither : Form → Type 0
  FitsNeither a = (one other : List ℕ) → is_sorted v one a ≡ true → is_sorted w other a ≡ true → occurs_in k a ≡ false

  none_in : (one other : List ℕ) (as_ : List Form) → AllByRecursion FitsNeither as_ → list_all (is_sorted v one) as_ ≡ true → list_all (is_sorted w other) as_ ≡ true → list_any (occurs_in k) as_ ≡ false
  none_in one other [] all e g = refl
  none_in one other (a ∷ as_) all e g =
      let here = both (is_sorted v one a) (list_all (is_sorted v one) as_) e in
      let there = both (is_sorted w other a) (list_all (is_sorted w other) as_) g in
      none_of_two (occurs_in k a) (list_any (occurs_in k) as_) (all.0 one other here.0 there.0) (none_in one other as_ all.1 here.1 there.1)

  neither_of : (a b : Form) → FitsNeither a → FitsNeither b → (one other : List ℕ) → is_sorted v one a && is_sorted v one b ≡ true → is_sorted w other a && is_sorted w other b ≡ true → (occurs_in k a || occurs_in k b) ≡ false
  neither_of a b ih jh one other e g =
      let here = both (is_sorted v one a) (is_sorted v one b) e in
      let there = both (is_sorted w other a) (is_sorted w other b) g in
      none_of_two (occurs_in k a) (occurs_in k b) (ih one other here.0 there.0) (jh one other here.1 there.1)

  pub form_lacks : (a : Form) → FitsNeither a
  form_lacks = form_induction FitsNeither (record {
    atom = λ p ts one other e g.
        let here : holds_of (slice_get v.symbols p) (map (sort_of_term v one) ts) ≡ true = rw is_sorted-Atom at e in
        let there : holds_of (slice_get w.symbols p) (map (sort_of_term w other) ts) ≡ true = rw is_sorted-Atom at g in
        occurs_in-Atom k p ts
        ∙ none_of_two (p == k) (list_any (occurs_in_term k) ts)
        (other_predicate p (map (sort_of_term v one) ts) (map (sort_of_term w other) ts) here there)
        (none_of one other ts (all_lack one other ts) (holds_found (sort_of_term v one) ts (slice_get v.symbols p) here) (holds_found (sort_of_term w other) ts (slice_get w.symbols p) there));
    eq = λ l r one other e g.
        let here = one_found (sort_of_term v one l) (sort_of_term v one r) (rw is_sorted-Eq at e) in
        let there = one_found (sort_of_term w other l) (sort_of_term w other r) (rw is_sorted-Eq at g) in
        occurs_in-Eq k l r
        ∙ none_of_two (occurs_in_term k l) (occurs_in_term k r)
        (term_lacks one other l here.0.0 there.0.0 here.0.1 there.0.1)
        (term_lacks one other r here.1.0 there.1.0 here.1.1 there.1.1);
    not = λ a ih one other e g. occurs_in-Not k a ∙ ih one other (rw is_sorted-Not at e) (rw is_sorted-Not at g);
    and = λ as_ all one other e g. occurs_in-And k as_ ∙ none_in one other as_ all (rw is_sorted-And at e) (rw is_sorted-And at g);
    or = λ as_ all one other e g. occurs_in-Or k as_ ∙ none_in one other as_ all (rw is_sorted-Or at e) (rw is_sorted-Or at g);
    imp = λ a b ih jh one other e g. occurs_in-Imp k a b ∙ neither_of a b ih jh one other (rw is_sorted-Imp at e) (rw is_sorted-Imp at g);
    iff = λ a b ih jh one other e g. occurs_in-Iff k a b ∙ neither_of a b ih jh one other (rw is_sorted-Iff at e) (rw is_sorted-Iff at g);
    all = λ s a ih one other e g.
        let here = both (nat_lt s (length v.sorts)) (is_sorted v (s ∷ one) a) (rw is_sorted-All at e) in
        let there = both (nat_lt s (length w.sorts)) (is_sorted w (s ∷ other) a) (rw is_sorted-All at g) in
        occurs_in-All k s a ∙ ih (s ∷ one) (s ∷ other) here.1 there.1;
    ex = λ s a ih one other e g.
        let here = both (nat_lt s (length v.sorts)) (is_sorted v (s ∷ one) a) (rw is_sorted-Ex at e) in
        let there = both (nat_lt s (length w.sorts)) (is_sorted w (s ∷ other) a) (rw is_sorted-Ex at g) in
        occurs_in-Ex k s a ∙ ih (s ∷ one) (s ∷ other) here.1 there.1;
  })
