-- Items describe one interpretation or have a fault.
use Rattle.std.proofs.Common.{◌≡◌, ℕ, zero, suc, ◌+◌, ◌<◌, ◌==◌, not, Bool, true, false, List, [], ◌∷◌, ◌++◌, length, get_or, Option, Some, None, Result, Ok, Err, refl, sym, ◌∙◌, ap, subst, arith, ⊎_elim, append_assoc, inl, inr, nat_lt}
use Rattle.std.specs.Prelude.{slice_get, filter}
use Rattle.std.specs.List.{list_any, AllByRecursion}
use Rattle.std.proofs.Math.Path.{fun_ext}
use Rattle.std.proofs.lemmas.Bool.{cases_Bool}
use Rattle.std.proofs.lemmas.Bool.Decides.{nat_tests}
use Rattle.std.proofs.lemmas.Option.{slice_get_within}
use Rattle.std.proofs.lemmas.List.Quantifiers.{position-Some}
use Rattle.std.specs.Str.{bytes_eq}
use Rattle.tptp_base.specs.declared.item.Item.{Item}
use Rattle.fof_terms.specs.Vocabulary.{Vocabulary, found_symbol}
use Rattle.fof_terms.specs.declared.signature.Symbol.{Symbol}
use Rattle.fi_model.specs.declared.fault.ModelFault.{ModelFault}
use Rattle.fi_model.specs.declared.rows.Row.{Row}
use Rattle.fi_model.specs.declared.sentence.Domain.{Domain}
use Rattle.fi_model.specs.declared.sentence.Element.{Element}
use Rattle.fi_model.specs.declared.sentence.Entry.{Entry}
use Rattle.fi_model.specs.declared.sentence.Sentence.{Sentence}
use Rattle.fi_model.specs.declared.sentence.What.{What}
use Rattle.fi_model.specs.Faults.{IsModelFault, HaveDomains, HaveRows, IsDomainFault, is_taken, is_wrong, first_wrong, first_double, IsFirstLacking}
use Rattle.fi_model.specs.Interpretations.{Interpretation}
use Rattle.fi_model.specs.Models.{sort_number, is_of, names, domains, IsDomain, AreDomains, place, both, places, value_place, kind_of, row, alone, row_of, row_at, entry_rows, entries_rows, says_rows, rows_then, rows, is_at, are_places, takes, AreValues, ModelOf}
use Rattle.fi_model.specs.Sentences.{Text, sentences}
use Rattle.fi_model.proofs.DomainFacts.{number_within, own_sort}
use Rattle.fi_model.proofs.RowFacts.{at_own}
use Rattle.fi_model.specs.declared.fault.ModelFault.TheVariants as fault
use Rattle.fi_model.specs.declared.sentence.What.TheVariants as says

-- ---- one interpretation

same_lists : {X : Type 0} (xs ys : List X) → length xs ≡ length ys → ((i : ℕ) → i < length xs → slice_get xs i ≡ slice_get ys i) → xs ≡ ys
same_lists [] [] e h = refl
same_lists [] (y ∷ ys) e h = absurd (omega (arith, e))
same_lists (x ∷ xs) [] e h = absurd (omega (arith, e))
same_lists (x ∷ xs) (y ∷ ys) e h =
    let first : Some x ≡ Some y = h 0 (omega arith) in
    let rest = same_lists xs ys (omega (arith, e)) (λ i lt. h (suc i) (omega (arith, lt))) in
    cc

one_domain : (v : Vocabulary) (stated : List Domain) (a b : List (List Text)) → AreDomains v stated a → AreDomains v stated b → a ≡ b
one_domain v stated a b p q = same_lists a b (p.each_sort ∙ sym q.each_sort) (λ i lt.
    let lt' : i < length v.sorts = omega (arith, p.each_sort) in
    let one = p.one i lt' in
    let other = q.one i lt' in
    let same : one.0 ∷ [] ≡ other.0 ∷ [] = sym one.1 ∙ other.1 in
    let same' : one.0 ≡ other.0 = cc in
    one.2 ∙ ap (λ (d : Domain). Some (names d)) same' ∙ sym other.2)

one_value : (v : Vocabulary) (found : List Row) (m n : Interpretation) → m.domains ≡ n.domains → AreValues v found m → AreValues v found n → (symbol : ℕ) (args : List ℕ) → m.value symbol args ≡ n.value symbol args
one_value v found m n same a b symbol args = by (takes v m.domains symbol args) refl
  where
    by : (t : Bool) → takes v m.domains symbol args ≡ t → m.value symbol args ≡ n.value symbol args
    by true is =
        let is' : takes v n.domains symbol args ≡ true = rw same at is in
        let one = a.one symbol args is in
        let other = b.one symbol args is' in
        let rows_same : one.0 ∷ [] ≡ other.0 ∷ [] = sym one.1 ∙ other.1 in
        let same' : one.0 ≡ other.0 = cc in
        one.2 ∙ ap (λ (r : Row). r.value) same' ∙ sym other.2
    by false is =
        let is' : takes v n.domains symbol args ≡ false = rw same at is in
        a.elsewhere symbol args is ∙ sym (b.elsewhere symbol args is')

ok_is : {X E : Type 0} {r : Result X E} {x y : X} → r ≡ Ok x → r ≡ Ok y → x ≡ y
ok_is first second = cc

ok_err : {X E : Type 0} {r : Result X E} {x : X} {e : E} → r ≡ Ok x → r ≡ Err e → ⊥
ok_err first second = cc

some_none : {X : Type 0} {o : Option X} {x : X} → o ≡ Some x → o ≡ None → ⊥
some_none first second = cc

abbrev make : List (List Text) → (ℕ → List ℕ → ℕ) → Interpretation
make d w = record { domains = d; value = w }

pub one_model : (items : List Item) (v : Vocabulary) (m n : Interpretation) → ModelOf items v m → ModelOf items v n → m ≡ n
one_model items v m n p q =
    let said' : p.said ≡ q.said = ok_is p.is_said q.is_said in
    let elements : m.domains ≡ n.domains = one_domain v (domains p.said) m.domains n.domains p.domains_are (rw (← said') at q.domains_are) in
    let q_rows : rows v m.domains 0 p.said ≡ Ok q.found = ap (λ (ds : List (List Text)). rows v ds 0 p.said) elements ∙ (ap (λ (ss : List Sentence). rows v n.domains 0 ss) said' ∙ q.rows_are) in
    let found' : p.found ≡ q.found = ok_is p.rows_are q_rows in
    let values : m.value ≡ n.value = fun_ext (λ symbol. fun_ext (λ args. one_value v p.found m n elements p.values (rw (← found') at q.values) symbol args)) in
    both_same m.domains n.domains m.value n.value elements values
  where
    both_same : (a b : List (List Text)) (f g : ℕ → List ℕ → ℕ) → a ≡ b → f ≡ g → make a f ≡ make b g
    both_same a b f g e h = ap (λ (d : List (List Text)). make d f) e ∙ ap (λ (w : ℕ → List ℕ → ℕ). make b w) h

-- ---- no fault

some_left : {X : Type 0} (p : X → Bool) (front back : List X) (x : X) → p x ≡ true → filter p (front ++ x ∷ back) ≡ [] → ⊥
some_left p [] back x is e = let some : x ∷ filter p back ≡ [] = rw is at e in cc
some_left p (z ∷ front) back x is e =
    ⊎_elim
    (λ here. let some : z ∷ filter p (front ++ x ∷ back) ≡ [] = rw here at e in cc)
    (λ no_one. let later : filter p (front ++ x ∷ back) ≡ [] = rw no_one at e in some_left p front back x is later)
    (cases_Bool (p z))

two_of : {X : Type 0} (p : X → Bool) (front back : List X) (x : X) → list_any p front ≡ true → p x ≡ true → (y : X) → filter p (front ++ x ∷ back) ≡ y ∷ [] → ⊥
two_of p [] back x any is y e = cc
two_of p (z ∷ front) back x any is y e =
    ⊎_elim
    (λ here.
    let one : z ∷ filter p (front ++ x ∷ back) ≡ y ∷ [] = rw here at e in
    let none : filter p (front ++ x ∷ back) ≡ [] = cc in
    some_left p front back x is none)
    (λ no_one.
    let any' : list_any p front ≡ true = rw no_one at any in
    let later : filter p (front ++ x ∷ back) ≡ y ∷ [] = rw no_one at e in
    two_of p front back x any' is y later)
    (cases_Bool (p z))

any_one : {X : Type 0} (p : X → Bool) (xs : List X) (x : X) → filter p xs ≡ x ∷ [] → list_any p xs ≡ true
any_one p [] x e = cc
any_one p (y ∷ xs) x e =
    ⊎_elim
    (λ is. rw is refl)
    (λ n. let later : filter p xs ≡ x ∷ [] = rw n at e in rw n (any_one p xs x later))
    (cases_Bool (p y))

module _ (v : Vocabulary) (some : 0 < length v.sorts) (stated : List Domain) (elements : List (List Text)) (are : AreDomains v stated elements) where
  not_taken : (front back : List Domain) (d : Domain) → stated ≡ front ++ d ∷ back → (o : Option ℕ) → sort_number v d.sort ≡ o → is_taken v front o ≡ false
  not_taken front back d is None number = refl
  not_taken front back d is (Some s) number =
      ⊎_elim
      (λ any.
      let one = are.one s (number_within v some d.sort s number) in
      let own : is_of v s d ≡ true = own_sort v s d number in
      absurd (two_of (is_of v s) front back d any own one.0 (subst (λ (ds : List Domain). filter (is_of v s) ds ≡ one.0 ∷ []) is one.1)))
      (λ none. none)
      (cases_Bool (list_any (is_of v s) front))

  -- a good domain that is the only one of its sort is not wrong
  good_one : (front back : List Domain) (d : Domain) → stated ≡ front ++ d ∷ back → IsDomain v d → is_wrong v front d ≡ false
  good_one front back d is good =
      let filled : (length (names d) == 0) ≡ false = not_zero (length (names d)) good.some in
      rw (good.known, not_taken front back d is (sort_number v d.sort) refl, filled, good.distinct) refl
    where
      not_zero : (n : ℕ) → 0 < n → (n == 0) ≡ false
      not_zero zero h = absurd (omega arith)
      not_zero (suc n) h = grind (arith, nat_tests)

  none_wrong : (front ds : List Domain) → stated ≡ front ++ ds → AllByRecursion (IsDomain v) ds → first_wrong v front ds ≡ None
  none_wrong front [] is good = refl
  none_wrong front (d ∷ ds) is good = rw (good_one front ds d is good.0) (none_wrong (front ++ d ∷ []) ds (is ∙ sym (append_assoc front (d ∷ []) ds)) good.1)

  pub no_domain_fault : (name : Text) → IsDomainFault v stated name → ⊥
  no_domain_fault name (inl (d, wrong, is)) = some_none wrong (none_wrong [] stated refl are.good)
  no_domain_fault name (inr (none, w)) =
      let one = are.one w.sort (slice_get_within v.sorts w.sort name w.is) in
      let any : list_any (is_of v w.sort) stated ≡ true = any_one (is_of v w.sort) stated one.0 one.1 in
      let lacks : not true ≡ true = rw any at w.lacks in
      cc

-- ---- rows are of elements that their symbols take

both_parts : {X Y Z : Type 0} (f : X → Y → Z) (o : Option X) (p : Option Y) (z : Z) → both f o p ≡ Some z → (x : X) × (y : Y) × (o ≡ Some x) × (p ≡ Some y) × (z ≡ f x y)
both_parts f None p z e = cc
both_parts f (Some x) None z e = cc
both_parts f (Some x) (Some y) z e = (x, y, refl, refl, cc)

module _ (v : Vocabulary) (elements : List (List Text)) where
  placed : (sorts : List ℕ) (es : List Element) (xs : List ℕ) → places elements sorts es ≡ Some xs → are_places elements sorts xs ≡ true
  placed [] [] xs e = let none : xs ≡ [] = cc in rw none refl
  placed [] (d ∷ es) xs e = cc
  placed (s ∷ sorts) [] xs e = cc
  placed (s ∷ sorts) (d ∷ es) xs e =
      let p = both_parts (λ x ys. x ∷ ys) (place elements s d.name) (places elements sorts es) xs e in
      let within = (position-Some (bytes_eq d.name) (get_or elements s []) p.0 [] p.2).0 in
      let small : nat_lt p.0 (length (get_or elements s [])) ≡ true = grind (arith, nat_tests, within) in
      rw (p.4, small) (placed sorts es p.1 p.3)

  abbrev IsTaken : Row → Type 0
  IsTaken r = takes v elements r.symbol r.args ≡ true

  both_taken : (xs ys : List Row) → AllByRecursion IsTaken xs → AllByRecursion IsTaken ys → AllByRecursion IsTaken (xs ++ ys)
  both_taken [] ys a b = b
  both_taken (x ∷ xs) ys a b = (a.0, both_taken xs ys a.1 b)

  entry_taken : (at : ℕ) (e : Entry) (rs : List Row) → entry_rows v elements at e ≡ Some rs → AllByRecursion IsTaken rs
  entry_taken at e rs h = by (found_symbol v e.name (kind_of e.value) (length e.args)) h
    where
      of_symbol : (k : ℕ) (o : Option Symbol) → slice_get v.symbols k ≡ o → row_of elements at e k o ≡ Some rs → AllByRecursion IsTaken rs
      of_symbol k None is g = let none : rs ≡ [] = cc in rw none tt
      of_symbol k (Some s) is g =
          let p = both_parts (λ args value. alone (row at k args value)) (places elements s.args e.args) (value_place elements s.result e.value) rs g in
          let fits : takes v elements k p.0 ≡ true = rw is (placed s.args e.args p.0 p.2) in
          rw p.4 (fits, tt)

      by : (o : Option ℕ) → row_at v elements at e o ≡ Some rs → AllByRecursion IsTaken rs
      by None g = let none : rs ≡ [] = cc in rw none tt
      by (Some k) g = of_symbol k (slice_get v.symbols k) refl g

  entries_taken : (at : ℕ) (es : List Entry) (rs : List Row) → entries_rows v elements at es ≡ Some rs → AllByRecursion IsTaken rs
  entries_taken at [] rs h = let none : rs ≡ [] = cc in rw none tt
  entries_taken at (e ∷ es) rs h =
      let p = both_parts (λ xs ys. xs ++ ys) (entry_rows v elements at e) (entries_rows v elements at es) rs h in
      rw p.4 (both_taken p.0 p.1 (entry_taken at e p.0 p.2) (entries_taken at es p.1 p.3))

  says_taken : (at : ℕ) (w : What) (rs : List Row) → says_rows v elements at w ≡ Some rs → AllByRecursion IsTaken rs
  says_taken at (says.Domain d) rs h = let none : rs ≡ [] = cc in rw none tt
  says_taken at (says.Entries es) rs h = entries_taken at es rs h

  rows_taken : (at : ℕ) (said : List Sentence) (found : List Row) → rows v elements at said ≡ Ok found → AllByRecursion IsTaken found
  rows_taken at [] found h = let none : found ≡ [] = cc in rw none tt
  rows_taken at (s ∷ said) found h = by (says_rows v elements at s.what) refl (rows v elements (at + 1) said) refl (rows_taken (at + 1) said) h
    where
      by : (o : Option (List Row)) → says_rows v elements at s.what ≡ o → (r : Result (List Row) ℕ) → rows v elements (at + 1) said ≡ r → ((more : List Row) → rows v elements (at + 1) said ≡ Ok more → AllByRecursion IsTaken more)
          → rows_then at o r ≡ Ok found → AllByRecursion IsTaken found
      by None is r later rest g = cc
      by (Some rs) is (Err other) later rest g = cc
      by (Some rs) is (Ok more) later rest g =
          let same : found ≡ rs ++ more = cc in
          rw same (both_taken rs more (says_taken at s.what rs is) (rest more later))

own_row : (r : Row) → is_at r.symbol r.args r ≡ true
own_row r = at_own r

module _ (v : Vocabulary) (found : List Row) (m : Interpretation) (values : AreValues v found m) where
  none_double : (before rs : List Row) → found ≡ before ++ rs → AllByRecursion (λ (r : Row). takes v m.domains r.symbol r.args ≡ true) rs → first_double before rs ≡ None
  none_double before [] is taken = refl
  none_double before (r ∷ rs) is taken =
      let rest = none_double (before ++ r ∷ []) rs (is ∙ sym (append_assoc before (r ∷ []) rs)) taken.1 in
      ⊎_elim
      (λ any.
      let one = values.one r.symbol r.args taken.0 in
      absurd (two_of (is_at r.symbol r.args) before rs r any (own_row r) one.0 (subst (λ (xs : List Row). filter (is_at r.symbol r.args) xs ≡ one.0 ∷ []) is one.1)))
      (λ none. rw none rest)
      (cases_Bool (list_any (is_at r.symbol r.args) before))

  no_lack : (name : Text) → IsFirstLacking v m.domains found name → ⊥
  no_lack name l =
      let one = values.one l.symbol l.lacks.args l.lacks.taken in
      let any : list_any (is_at l.symbol l.lacks.args) found ≡ true = any_one (is_at l.symbol l.lacks.args) found one.0 one.1 in
      let none = l.lacks.none in
      cc

-- ---- the whole

module _ (items : List Item) (v : Vocabulary) (some : 0 < length v.sorts) (m : Interpretation) (h : ModelOf items v m) where
  same_said : (said : List Sentence) → sentences items ≡ Ok said → said ≡ h.said
  same_said said e = ok_is e h.is_said

  same_elements : (said : List Sentence) (elements : List (List Text)) → HaveDomains items v said elements → (said ≡ h.said) × (elements ≡ m.domains)
  same_elements said elements g =
      let one = same_said said g.is_said in
      (one, one_domain v (domains h.said) elements m.domains (subst (λ (ss : List Sentence). AreDomains v (domains ss) elements) one g.are) h.domains_are)

  same_rows : (said : List Sentence) (elements : List (List Text)) (found : List Row) → HaveRows items v said elements found → (elements ≡ m.domains) × (found ≡ h.found)
  same_rows said elements found g =
      let one = same_elements said elements g.good in
      let g_rows : rows v m.domains 0 h.said ≡ Ok found = sym (ap (λ (ds : List (List Text)). rows v ds 0 said) one.1 ∙ ap (λ (ss : List Sentence). rows v m.domains 0 ss) one.0) ∙ g.rows_are in
      (one.1, ok_is g_rows h.rows_are)

  pub no_fault : (f : ModelFault) → IsModelFault items v f → f ≡ fault.Memory
  no_fault (fault.Shape place) e = absurd (ok_err h.is_said e)
  no_fault (fault.Domain name) (said, is, d) = absurd (no_domain_fault v some (domains h.said) m.domains h.domains_are name (subst (λ (ss : List Sentence). IsDomainFault v (domains ss) name) (same_said said is) d))
  no_fault (fault.Element place name) (said, elements, g, (at, wrong, is)) =
      let one = same_elements said elements g in
      let wrong' : rows v m.domains 0 h.said ≡ Err at = sym (ap (λ (ds : List (List Text)). rows v ds 0 said) one.1 ∙ ap (λ (ss : List Sentence). rows v m.domains 0 ss) one.0) ∙ wrong in
      absurd (ok_err h.rows_are wrong')
  no_fault (fault.Double place name) (said, elements, found, g, (at, double, is)) =
      let one = same_rows said elements found g in
      let none = none_double v h.found m h.values [] h.found refl (rows_taken v m.domains 0 h.said h.found h.rows_are) in
      absurd (some_none (subst (λ (rs : List Row). first_double [] rs ≡ Some at) one.1 double) none)
  no_fault (fault.Missing name) (said, elements, found, g, single, l) =
      let one = same_rows said elements found g in
      absurd (no_lack v h.found m h.values name (subst (λ (rs : List Row). IsFirstLacking v m.domains rs name) one.1 (subst (λ (ds : List (List Text)). IsFirstLacking v ds found name) one.0 l)))
  no_fault fault.Memory h' = refl
