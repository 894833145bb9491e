-- How the model is put together.
use Rattle.std.proofs.Common.{◌≡◌, ℕ, zero, suc, ◌+◌, ◌<◌, ◌≤◌, ◌&&◌, nat_lt, Bool, true, false, List, [], ◌∷◌, ◌++◌, length, map, get_or, Option, Some, None, Result, Ok, Err, refl, sym, ◌∙◌, ap, subst, arith, ⊎_elim}
use Rattle.std.specs.Prelude.{slice_get, filter}
use Rattle.std.specs.List.{list_any, All, AllByRecursion}
use Rattle.std.proofs.lemmas.Option.{slice_get_past}
use Rattle.std.proofs.lemmas.Bool.{cases_Bool}
use Rattle.std.proofs.lemmas.List.Elements.{All-nil, All-cons, All-append}
use Rattle.tptp_base.specs.declared.item.Item.{Item}
use Rattle.fof_terms.specs.Vocabulary.{Vocabulary, found_symbol}
use Rattle.fof_terms.specs.declared.signature.Symbol.{Symbol}
use Rattle.fi_model.specs.declared.fault.ModelFault.{ModelFault}
use Rattle.fi_model.specs.declared.model.FiniteModel.{FiniteModel}
use Rattle.fi_model.specs.declared.rows.Row.{Row}
use Rattle.fi_model.specs.declared.sentence.Domain.{Domain}
use Rattle.fi_model.specs.declared.sentence.Entry.{Entry}
use Rattle.fi_model.specs.declared.sentence.Sentence.{Sentence}
use Rattle.fi_model.specs.declared.sentence.What.{What}
use Rattle.fi_model.specs.declared.table.Table.{Table}
use Rattle.fi_model.specs.Cells.{are_within, cell}
use Rattle.fi_model.specs.code.Shapes.{RefusesShape}
use Rattle.fi_model.specs.Faults.{IsModelFault, HaveDomains, HaveRows, first_double, Lacks, IsFirstLacking}
use Rattle.fi_model.specs.Interpretations.{size}
use Rattle.fi_model.specs.Models.{domains, names, is_of, IsDomain, AreDomains, both, places, value_place, kind_of, row, alone, row_of, row_at, entry_rows, entries_rows, says_rows, rows_then, rows, is_at, are_places, takes_at, AreValues, ModelOf}
use Rattle.fi_model.specs.Sentences.{Text, sentences}
use Rattle.fi_model.specs.Tables.{table_value, value_in, interpretation}
use Rattle.fi_model.specs.code.Adding.{entry_of, told, IsTable, AreTables, IsFirstUntold, IsMissing, IsElement, IsDoubleAt, AreOf}
use Rattle.fi_model.specs.code.Slots.{IsOfDomains}
use Rattle.fi_model.proofs.CellFacts.{listed_at, listed_lacks}
use Rattle.fi_model.proofs.RowFacts.{told_one, told_none}
use Rattle.fi_model.specs.declared.fault.ModelFault.TheVariants as fault
use Rattle.fi_model.specs.declared.sentence.What.TheVariants as says

-- elements of these sorts are there in tables of their sizes
pub places_within : (elements : List (List Text)) (sorts args : List ℕ) → are_places elements sorts args ≡ are_within (map (size elements) sorts) args
places_within elements [] [] = refl
places_within elements [] (x ∷ xs) = refl
places_within elements (s ∷ sorts) [] = refl
places_within elements (s ∷ sorts) (x ∷ xs) = ap (λ b. nat_lt x (size elements s) && b) (places_within elements sorts xs)

none_past : {X : Type 0} (xs : List X) (i : ℕ) → slice_get xs i ≡ None → length xs ≤ i
none_past [] i e = omega arith
none_past (x ∷ xs) zero e = cc
none_past (x ∷ xs) (suc i) e = omega (arith, none_past xs i e)

row_there : (symbol : ℕ) (args : List ℕ) (rs : List Row) (r : Row) → filter (is_at symbol args) rs ≡ r ∷ [] → list_any (is_at symbol args) rs ≡ true
row_there symbol args [] r e = cc
row_there symbol args (q ∷ rs) r e =
    ⊎_elim
    (λ y. rw y refl)
    (λ n. let later : filter (is_at symbol args) rs ≡ r ∷ [] = rw n at e in rw n (row_there symbol args rs r later))
    (cases_Bool (is_at symbol args q))

module _ (v : Vocabulary) (elements : List (List Text)) (found : List Row) (single : first_double [] found ≡ None) where
  -- the table of a symbol gives what the only row says
  table_one : (symbol : ℕ) (s : Symbol) (t : Table) → IsTable (told (map entry_of found)) elements symbol s t → (args : List ℕ) → are_places elements s.args args ≡ true
      → (r : Row) × (filter (is_at symbol args) found ≡ r ∷ []) × (table_value t args ≡ r.value)
  table_one symbol s t is args fits =
      let within : are_within t.sizes args ≡ true = rw is.sizes (sym (places_within elements s.args args) ∙ fits) in
      let value = listed_at (told (map entry_of found)) t.sizes (symbol ∷ []) t.values is.values args within in
      let row = told_one symbol args [] found (get_or t.values (cell t.sizes args) 0) single value in
      (row.0, row.1, rw within row.2)

  table_elsewhere : (symbol : ℕ) (s : Symbol) (t : Table) → IsTable (told (map entry_of found)) elements symbol s t → (args : List ℕ) → are_places elements s.args args ≡ false → table_value t args ≡ 0
  table_elsewhere symbol s t is args fits =
      let within : are_within t.sizes args ≡ false = rw is.sizes (sym (places_within elements s.args args) ∙ fits) in
      rw within refl

  module _ (m : FiniteModel) (same : m.domains ≡ elements) (are : AreTables v (told (map entry_of found)) elements m.tables) (all : length m.tables ≡ length v.symbols) where
    -- what a symbol is, and its table
    at_symbol : (symbol : ℕ) (P : Option Symbol → Option Table → Type 0) → ((s : Symbol) (t : Table) → IsTable (told (map entry_of found)) elements symbol s t → P (Some s) (Some t)) → P None None
        → P (slice_get v.symbols symbol) (slice_get m.tables symbol)
    at_symbol symbol P some none = by (slice_get m.tables symbol) refl
      where
        by : (o : Option Table) → slice_get m.tables symbol ≡ o → P (slice_get v.symbols symbol) o
        by (Some t) is = let e = are.each symbol t is in subst (λ (q : Option Symbol). P q (Some t)) (sym e.1) (some e.0 t e.2)
        by None is = subst (λ (q : Option Symbol). P q None) (sym (slice_get_past v.symbols symbol (omega (arith, all, none_past m.tables symbol is)))) none

    pub values_are : AreValues v found (interpretation m)
    values_are = record {
      one = λ symbol args.
          at_symbol symbol
          (λ o q. takes_at m.domains o args ≡ true → (r : Row) × (filter (is_at symbol args) found ≡ r ∷ []) × (value_in q args ≡ r.value))
          (λ s t is fits. table_one symbol s t is args (rw (← same) fits))
          (λ fits. cc);
      elsewhere = λ symbol args.
          at_symbol symbol
          (λ o q. takes_at m.domains o args ≡ false → value_in q args ≡ 0)
          (λ s t is fits. table_elsewhere symbol s t is args (rw (← same) fits))
          (λ fits. refl);
    }

-- ---- what the steps rest on

module _ (n at : ℕ) (lt : at < n) where
  abbrev Below : Row → Type 0
  Below r = r.at < n

  row_of_below : (elements : List (List Text)) (e : Entry) (symbol : ℕ) (o : Option Symbol) (rs : List Row) → row_of elements at e symbol o ≡ Some rs → All Below rs
  row_of_below elements e symbol None rs is = let none : [] ≡ rs = cc in subst (All Below) none (All-nil Below)
  row_of_below elements e symbol (Some s) rs is = by (places elements s.args e.args) (value_place elements s.result e.value) is
    where
      by : (a : Option (List ℕ)) (b : Option ℕ) → both (λ args value. alone (row at symbol args value)) a b ≡ Some rs → All Below rs
      by None b h = cc
      by (Some args) None h = cc
      by (Some args) (Some value) h = let one : alone (row at symbol args value) ≡ rs = cc in subst (All Below) one (All-cons Below (row at symbol args value) [] lt (All-nil Below))

  entry_below : (v : Vocabulary) (elements : List (List Text)) (e : Entry) (o : Option ℕ) (rs : List Row) → row_at v elements at e o ≡ Some rs → All Below rs
  entry_below v elements e None rs is = let none : [] ≡ rs = cc in subst (All Below) none (All-nil Below)
  entry_below v elements e (Some symbol) rs is = row_of_below elements e symbol (slice_get v.symbols symbol) rs is

  entries_below : (v : Vocabulary) (elements : List (List Text)) (es : List Entry) (rs : List Row) → entries_rows v elements at es ≡ Some rs → All Below rs
  entries_below v elements [] rs is = let none : [] ≡ rs = cc in subst (All Below) none (All-nil Below)
  entries_below v elements (e ∷ es) rs is =
      by (entry_rows v elements at e) (entries_rows v elements at es) (entry_below v elements e (found_symbol v e.name (kind_of e.value) (length e.args))) (entries_below v elements es) is
    where
      by : (a b : Option (List Row)) → ((qs : List Row) → a ≡ Some qs → All Below qs) → ((qs : List Row) → b ≡ Some qs → All Below qs) → both (λ xs ys. xs ++ ys) a b ≡ Some rs → All Below rs
      by None b f g h = cc
      by (Some xs) None f g h = cc
      by (Some xs) (Some ys) f g h = let all : xs ++ ys ≡ rs = cc in subst (All Below) all (All-append Below xs ys (f xs refl) (g ys refl))

  says_below : (v : Vocabulary) (elements : List (List Text)) (w : What) (rs : List Row) → says_rows v elements at w ≡ Some rs → All Below rs
  says_below v elements (says.Domain d) rs is = let none : [] ≡ rs = cc in subst (All Below) none (All-nil Below)
  says_below v elements (says.Entries es) rs is = entries_below v elements es rs is

rows_below : (v : Vocabulary) (elements : List (List Text)) (n at : ℕ) (said : List Sentence) (found : List Row) → at + length said ≡ n → rows v elements at said ≡ Ok found → All (λ (r : Row). r.at < n) found
rows_below v elements n at [] found len is = let none : [] ≡ found = cc in subst (All (λ (r : Row). r.at < n)) none (All-nil (λ (r : Row). r.at < n))
rows_below v elements n at (s ∷ ss) found len is =
    let lt : at < n = omega (arith, len) in
    by (says_rows v elements at s.what) (rows v elements (at + 1) ss) (says_below n at lt v elements s.what) (λ more e. rows_below v elements n (at + 1) ss more (omega (arith, len)) e) is
  where
    by : (a : Option (List Row)) (b : Result (List Row) ℕ) → ((qs : List Row) → a ≡ Some qs → All (λ (r : Row). r.at < n) qs) → ((qs : List Row) → b ≡ Ok qs → All (λ (r : Row). r.at < n) qs) → rows_then at a b ≡ Ok found → All (λ (r : Row). r.at < n) found
    by None b f g h = cc
    by (Some xs) (Err other) f g h = cc
    by (Some xs) (Ok ys) f g h = let all : xs ++ ys ≡ found = cc in subst (All (λ (r : Row). r.at < n)) all (All-append (λ (r : Row). r.at < n) xs ys (f xs refl) (g ys refl))

-- each row is of one of the sentences
pub are_of : (v : Vocabulary) (elements : List (List Text)) (said : List Sentence) (found : List Row) → rows v elements 0 said ≡ Ok found → AreOf found said
are_of v elements said found is = rows_below v elements (length said) 0 said found (omega arith) is

one_kept : (P : Domain → Type 0) (p : Domain → Bool) (ds : List Domain) (d : Domain) (rest : List Domain) → AllByRecursion P ds → filter p ds ≡ d ∷ rest → P d
one_kept P p [] d rest all e = cc
one_kept P p (x ∷ ds) d rest all e =
    ⊎_elim
    (λ y. let here : x ∷ filter p ds ≡ d ∷ rest = rw y at e in let same : x ≡ d = cc in subst P same all.0)
    (λ n. let later : filter p ds ≡ d ∷ rest = rw n at e in one_kept P p ds d rest all.1 later)
    (cases_Bool (p x))

each_some : (elements : List (List Text)) → ((s : ℕ) → s < length elements → (es : List Text) × (slice_get elements s ≡ Some es) × (0 < length es)) → AllByRecursion (λ (es : List Text). 0 < length es) elements
each_some [] f = tt
each_some (es ∷ elements) f =
    let first = f 0 (omega arith) in
    let same : first.0 ≡ es = cc first.1 in
    (subst (λ (xs : List Text). 0 < length xs) same first.2, each_some elements (λ s lt. f (suc s) (omega arith)))

-- each sort has elements
pub domains_some : (v : Vocabulary) (stated : List Domain) (elements : List (List Text)) → AreDomains v stated elements → AllByRecursion (λ (es : List Text). 0 < length es) elements
domains_some v stated elements are =
    each_some elements
    (λ s lt.
    let of = are.one s (omega (arith, lt, are.each_sort)) in
    (names of.0, of.2, (one_kept (IsDomain v) (is_of v s) stated of.0 [] are.good of.1).some))

-- ---- what is read

pub model_is : (items : List Item) (v : Vocabulary) (said : List Sentence) (elements : List (List Text)) (found : List Row) (index : List (List ℕ × ℕ)) (tables : List Table) (m : FiniteModel)
    → sentences items ≡ Ok said → AreDomains v (domains said) elements → rows v elements 0 said ≡ Ok found → first_double [] found ≡ None → index ≡ map entry_of found
    → AreTables v (told index) elements tables → length tables ≡ length v.symbols → m.domains ≡ elements → m.tables ≡ tables → ModelOf items v (interpretation m)
model_is items v said elements found index tables m s d r single is are all same_domains same_tables = record {
  said = said;
  is_said = s;
  domains_are = rw same_domains d;
  found = found;
  rows_are = rw same_domains r;
  values = values_are v elements found single m same_domains (rw (same_tables, sym is) are) (rw same_tables all);
}

pub shape_is : (items : List Item) (v : Vocabulary) (f : ModelFault) → RefusesShape (sentences items) f → IsModelFault items v f
shape_is items v (fault.Shape place) h = h
shape_is items v (fault.Domain name) h = absurd h
shape_is items v (fault.Element place name) h = absurd h
shape_is items v (fault.Double place name) h = absurd h
shape_is items v (fault.Missing name) h = absurd h
shape_is items v fault.Memory h = tt

pub domain_is : (items : List Item) (v : Vocabulary) (said : List Sentence) (f : ModelFault) → sentences items ≡ Ok said → IsOfDomains v (domains said) f → IsModelFault items v f
domain_is items v said (fault.Shape place) s h = absurd h
domain_is items v said (fault.Domain name) s h = (said, s, h)
domain_is items v said (fault.Element place name) s h = absurd h
domain_is items v said (fault.Double place name) s h = absurd h
domain_is items v said (fault.Missing name) s h = absurd h
domain_is items v said fault.Memory s h = tt

have_domains : (items : List Item) (v : Vocabulary) (said : List Sentence) (elements : List (List Text)) → sentences items ≡ Ok said → AreDomains v (domains said) elements → HaveDomains items v said elements
have_domains items v said elements s d = record { is_said = s; are = d }

have_rows : (items : List Item) (v : Vocabulary) (said : List Sentence) (elements : List (List Text)) (found : List Row) → sentences items ≡ Ok said → AreDomains v (domains said) elements → rows v elements 0 said ≡ Ok found → HaveRows items v said elements found
have_rows items v said elements found s d r = record { good = record { is_said = s; are = d }; rows_are = r }

pub element_is : (items : List Item) (v : Vocabulary) (said : List Sentence) (elements : List (List Text)) (f : ModelFault) → sentences items ≡ Ok said → AreDomains v (domains said) elements → IsElement said (rows v elements 0 said) f → IsModelFault items v f
element_is items v said elements f s d h = by (rows v elements 0 said) refl f h
  where
    by : (r : Result (List Row) ℕ) → rows v elements 0 said ≡ r → (g : ModelFault) → IsElement said r g → IsModelFault items v g
    by (Ok found) is g k = rw k tt
    by (Err at) is (fault.Shape place) k = absurd k
    by (Err at) is (fault.Domain name) k = absurd k
    by (Err at) is (fault.Element place name) k = (said, elements, have_domains items v said elements s d, (at, is, k))
    by (Err at) is (fault.Double place name) k = absurd k
    by (Err at) is (fault.Missing name) k = absurd k
    by (Err at) is fault.Memory k = tt

pub double_is : (items : List Item) (v : Vocabulary) (said : List Sentence) (elements : List (List Text)) (found : List Row) (f : ModelFault)
    → sentences items ≡ Ok said → AreDomains v (domains said) elements → rows v elements 0 said ≡ Ok found → IsDoubleAt said (first_double [] found) f → IsModelFault items v f
double_is items v said elements found (fault.Shape place) s d r h = absurd h
double_is items v said elements found (fault.Domain name) s d r h = absurd h
double_is items v said elements found (fault.Element place name) s d r h = absurd h
double_is items v said elements found (fault.Double place name) s d r h = (said, elements, found, have_rows items v said elements found s d r, h)
double_is items v said elements found (fault.Missing name) s d r h = absurd h
double_is items v said elements found fault.Memory s d r h = tt

-- the first symbol that lacks a value lacks a row
first_lacking : (v : Vocabulary) (elements : List (List Text)) (found : List Row) (name : Text) → first_double [] found ≡ None → IsFirstUntold v (told (map entry_of found)) elements name → IsFirstLacking v elements found name
first_lacking v elements found name single u =
    let lack = listed_lacks (told (map entry_of found)) (map (size elements) u.s.args) (length u.tables ∷ []) u.lacks in
    record {
      symbol = length u.tables;
      s = u.s;
      is = u.is;
      is_name = u.is_name;
      lacks = record {
        args = lack.0;
        taken = rw u.is (places_within elements u.s.args lack.0 ∙ lack.1);
        none = told_none (length u.tables) lack.0 found lack.2;
      };
      first = λ k lt l. not_lacking k lt l;
    }
  where
    not_lacking : (k : ℕ) → k < length u.tables → Lacks v elements found k → ⊥
    not_lacking k lt l = at (slice_get u.tables k) refl
      where
        at : (o : Option Table) → slice_get u.tables k ≡ o → ⊥
        at None is = let past = none_past u.tables k is in absurd (omega arith)
        at (Some t) is =
            let e = u.are.each k t is in
            let fits : are_places elements e.0.args l.args ≡ true = rw e.1 at l.taken in
            let row = table_one v elements found single k e.0 t e.2 l.args fits in
            let some = row_there k l.args found row.0 row.1 in
            cc

pub missing_is : (items : List Item) (v : Vocabulary) (said : List Sentence) (elements : List (List Text)) (found : List Row) (index : List (List ℕ × ℕ)) (f : ModelFault)
    → sentences items ≡ Ok said → AreDomains v (domains said) elements → rows v elements 0 said ≡ Ok found → first_double [] found ≡ None → index ≡ map entry_of found
    → IsMissing v (told index) elements f → IsModelFault items v f
missing_is items v said elements found index (fault.Shape place) s d r single is h = absurd h
missing_is items v said elements found index (fault.Domain name) s d r single is h = absurd h
missing_is items v said elements found index (fault.Element place name) s d r single is h = absurd h
missing_is items v said elements found index (fault.Double place name) s d r single is h = absurd h
missing_is items v said elements found index (fault.Missing name) s d r single is h =
    (said, elements, found, have_rows items v said elements found s d r, single, first_lacking v elements found name single (rw is at h))
missing_is items v said elements found index fault.Memory s d r single is h = tt
