-- How the values of tables are listed one by one.
use Rattle.std.proofs.Common.{◌≡◌, ℕ, zero, suc, ◌+◌, ◌*◌, ◌<◌, ◌≤◌, nat_lt, Bool, true, false, List, [], ◌∷◌, ◌++◌, length, map, take, drop, get_or, Option, Some, None, refl, sym, ◌∙◌, ap, subst, append_assoc, arith, add-one, ⊎_elim}
use Rattle.std.specs.Prelude.{slice_get, not, IsSome}
use Rattle.std.specs.Option.{option_to_list}
use Rattle.std.specs.List.{AllByRecursion, list_any}
use Rattle.std.proofs.lemmas.Bool.{cases_Bool}
use Rattle.std.proofs.lemmas.Bool.Decides.{nat_tests}
use Rattle.std.proofs.lemmas.Option.{slice_get_read, slice_get_within}
use Rattle.std.proofs.lemmas.List.{append-nil, take_all, map-append, length-append, same_from_push}
use Rattle.fof_terms.specs.Vocabulary.{Vocabulary}
use Rattle.fof_terms.specs.declared.signature.Symbol.{Symbol}
use Rattle.fi_model.specs.declared.fault.ModelFault.{ModelFault}
use Rattle.fi_model.specs.declared.rows.Row.{Row}
use Rattle.fi_model.specs.declared.sentence.Sentence.{Sentence}
use Rattle.fi_model.specs.declared.table.Table.{Table}
use Rattle.fi_model.specs.Cells.{cells}
use Rattle.fi_model.specs.Faults.{first_double}
use Rattle.fi_model.specs.Interpretations.{size}
use Rattle.fi_model.specs.Models.{both}
use Rattle.fi_model.specs.Sentences.{Text}
use Rattle.fi_model.specs.code.Adding.{Adds, entry_of, key_of, under, joined_below, listed, IsTable, AreTables, IsNoValue, IsMissing, IsDoubleOf, IsDoubleAt, AreOf}
use Rattle.fi_model.proofs.CellFacts.{listed_length}
use Rattle.fi_model.proofs.RowFacts.{double_at, single_more}
use Rattle.fi_model.specs.declared.fault.ModelFault.TheVariants as fault

-- ---- lists that are added

adds_true : {X : Type 0} (o : Option (List X)) (old new : List X) → Adds o old true new → (xs : List X) × (o ≡ Some xs) × (new ≡ old ++ xs)
adds_true None old new a = absurd a
adds_true (Some xs) old new a = (xs, refl, a)

adds_false : {X : Type 0} (o : Option (List X)) (old new : List X) → Adds o old false new → o ≡ None
adds_false None old new a = refl
adds_false (Some xs) old new a = absurd a

adds_some : {X : Type 0} (o : Option (List X)) (xs old new : List X) → o ≡ Some xs → new ≡ old ++ xs → Adds o old true new
adds_some o xs old new e is = rw e is

adds_none : {X : Type 0} (o : Option (List X)) (old new : List X) → o ≡ None → Adds o old false new
adds_none o old new e = rw e tt

both_nothing : {X Y Z : Type 0} (f : X → Y → Z) (o : Option X) → both f o None ≡ None
both_nothing f None = refl
both_nothing f (Some x) = refl

-- ---- numbers in turn

below_next : (f : ℕ → Option (List ℕ)) (x : ℕ) (vs ws : List ℕ) → joined_below x f ≡ Some vs → f x ≡ Some ws → joined_below (x + 1) f ≡ Some (vs ++ ws)
below_next f x vs ws e g = rw (add-one, e, g) refl

below_stops : (f : ℕ → Option (List ℕ)) (n x : ℕ) → x < n → f x ≡ None → joined_below n f ≡ None
below_stops f zero x lt e = absurd (omega arith)
below_stops f (suc n) x lt e =
    ⊎_elim
    (λ y. rw (below_stops f n x (grind (arith, nat_tests, y)) e) refl)
    (λ no. let same : x ≡ n = grind (arith, nat_tests, no) in let here : f n ≡ None = rw (← same) e in rw here (both_nothing (λ xs ys. xs ++ ys) (joined_below n f)))
    (cases_Bool (nat_lt x n))

-- the values below a number stand behind those that were there
pub record Filling (f : ℕ → Option (List ℕ)) (x : ℕ) (old values : List ℕ) : Type 0 where
  pub added : List ℕ
  pub below : joined_below x f ≡ Some added
  pub is : values ≡ old ++ added

pub filling : (f : ℕ → Option (List ℕ)) (old : List ℕ) → Filling f 0 old old
filling f old = record { added = []; below = refl; is = sym (append-nil old) }

pub fills_more : (f : ℕ → Option (List ℕ)) (x : ℕ) (old values new : List ℕ) (full : Bool) → Filling f x old values → full ≡ true → Adds (f x) values full new → Filling f (x + 1) old new
fills_more f x old values new full h is a =
    let added = adds_true (f x) values new (rw is at a) in
    record {
      added = h.added ++ added.0;
      below = below_next f x h.added added.0 h.below added.1;
      is = added.2 ∙ ap (λ (xs : List ℕ). xs ++ added.0) h.is ∙ append_assoc old h.added added.0;
    }

pub fill_stops : (f : ℕ → Option (List ℕ)) (n x : ℕ) (old values new : List ℕ) (full : Bool) → x < n → full ≡ false → Adds (f x) values full new → Adds (joined_below n f) old false new
fill_stops f n x old values new full lt is a = adds_none (joined_below n f) old new (below_stops f n x lt (adds_false (f x) values new (rw is at a)))

pub filled : (f : ℕ → Option (List ℕ)) (n x : ℕ) (old values : List ℕ) → Filling f x old values → x ≡ n → Adds (joined_below n f) old true values
filled f n x old values h same = adds_some (joined_below n f) h.added old values (ap (λ (k : ℕ). joined_below k f) (sym same) ∙ h.below) h.is

-- a key that grew by an element
grown : (key at_key pushed : List ℕ) (x : ℕ) → at_key ≡ key → pushed ≡ at_key ++ x ∷ [] → pushed ≡ key ++ x ∷ []
grown key at_key pushed x same push = push ∙ ap (λ (ks : List ℕ). ks ++ x ∷ []) same

pub fill_next : (f : List ℕ → Option ℕ) (rest key at_key pushed : List ℕ) (x : ℕ) (old values new : List ℕ) (full : Bool) → Filling (λ y. listed f rest (key ++ y ∷ [])) x old values → full ≡ true → at_key ≡ key → pushed ≡ at_key ++ x ∷ []
    → Adds (listed f rest pushed) values full new → Filling (λ y. listed f rest (key ++ y ∷ [])) (x + 1) old new
fill_next f rest key at_key pushed x old values new full h is same push adds =
    fills_more (λ y. listed f rest (key ++ y ∷ [])) x old values new full h is (subst (λ (ks : List ℕ). Adds (listed f rest ks) values full new) (grown key at_key pushed x same push) adds)

pub fill_lacks : (f : List ℕ → Option ℕ) (sizes rest key at_key pushed : List ℕ) (n x : ℕ) (old values new : List ℕ) (full : Bool) → sizes ≡ n ∷ rest → x < n → full ≡ false → at_key ≡ key → pushed ≡ at_key ++ x ∷ []
    → Adds (listed f rest pushed) values full new → Adds (listed f sizes key) old false new
fill_lacks f sizes rest key at_key pushed n x old values new full sizes_are lt is same push adds =
    subst (λ (ns : List ℕ). Adds (listed f ns key) old false new) (sym sizes_are)
    (fill_stops (λ y. listed f rest (key ++ y ∷ [])) n x old values new full lt is (subst (λ (ks : List ℕ). Adds (listed f rest ks) values full new) (grown key at_key pushed x same push) adds))

popped_back : (key popped : List ℕ) (x : ℕ) (o : Option ℕ) → key ++ x ∷ [] ≡ popped ++ option_to_list o → IsSome o → popped ≡ key
popped_back key popped x None e some = cc
popped_back key popped x (Some y) e some = sym (same_from_push key popped x y e).0

-- the key is as it was
pub key_again : (key at_key pushed given popped : List ℕ) (x : ℕ) (o : Option ℕ) (len : ℕ) → at_key ≡ key → pushed ≡ at_key ++ x ∷ [] → given ≡ pushed → given ≡ popped ++ option_to_list o → len ≡ length given → (0 < len → IsSome o) → popped ≡ key
key_again key at_key pushed given popped x o len same push filled_key pop len_is some =
    let whole : given ≡ key ++ x ∷ [] = filled_key ∙ grown key at_key pushed x same push in
    let long : length given ≡ length key + 1 = ap length whole ∙ length-append key (x ∷ []) in
    popped_back key popped x o (sym whole ∙ pop) (some (omega (arith, len_is, long)))

-- ---- sizes

positive_product : (m n : ℕ) → 0 < m → 0 < n → 0 < m * n
positive_product zero n a b = absurd (omega arith)
positive_product (suc m) n a b = omega (arith, b)

size_at : (elements : List (List Text)) (s : ℕ) → AllByRecursion (λ (es : List Text). 0 < length es) elements → s < length elements → 0 < size elements s
size_at [] s all lt = absurd (omega arith)
size_at (es ∷ elements) zero all lt = all.0
size_at (es ∷ elements) (suc s) all lt = size_at elements s all.1 (omega arith)

pub cells_positive : (elements : List (List Text)) (sorts : List ℕ) → AllByRecursion (λ (es : List Text). 0 < length es) elements → AllByRecursion (λ s. s < length elements) sorts → 0 < cells (map (size elements) sorts)
cells_positive elements [] all there = omega arith
cells_positive elements (s ∷ sorts) all there = positive_product (size elements s) (cells (map (size elements) sorts)) (size_at elements s all there.0) (cells_positive elements sorts all there.1)

pub table_fits : (f : List ℕ → Option ℕ) (elements : List (List Text)) (sorts sizes key old vs : List ℕ) (full : Bool) → sizes ≡ map (size elements) sorts → old ≡ [] → Adds (listed f sizes key) old full vs → full ≡ true
    → AllByRecursion (λ (es : List Text). 0 < length es) elements → AllByRecursion (λ s. s < length elements) sorts → (length vs ≡ cells sizes) × (0 < length vs)
table_fits f elements sorts sizes key old vs full is none adds yes' all there =
    let added = adds_true (listed f sizes key) old vs (rw yes' at adds) in
    let same : vs ≡ added.0 = added.2 ∙ ap (λ (xs : List ℕ). xs ++ added.0) none in
    let len : length vs ≡ cells sizes = ap length same ∙ listed_length f sizes key added.0 added.1 in
    let some : 0 < cells sizes = subst (λ (ns : List ℕ). 0 < cells ns) (sym is) (cells_positive elements sorts all there) in
    (len, omega (arith, len, some))

-- ---- tables

module _ (v : Vocabulary) (f : List ℕ → Option ℕ) (elements : List (List Text)) where
  pub no_tables : AreTables v f elements []
  no_tables = record { each = λ symbol t e. cc }

  pub one_table_more : (tables : List Table) (s : Symbol) (t : Table) (number : ℕ) → length tables ≡ number → slice_get v.symbols number ≡ Some s → AreTables v f elements tables → IsTable f elements number s t → AreTables v f elements (tables ++ t ∷ [])
  one_table_more tables s t number len at are is = record { each = λ symbol u e. by symbol u e }
    where
      slice_front : (ts : List Table) (k : ℕ) → k < length ts → slice_get (ts ++ t ∷ []) k ≡ slice_get ts k
      slice_front [] k lt = absurd (omega arith)
      slice_front (a ∷ ts) zero lt = refl
      slice_front (a ∷ ts) (suc k) lt = slice_front ts k (omega arith)

      slice_last : (ts : List Table) → slice_get (ts ++ t ∷ []) (length ts) ≡ Some t
      slice_last [] = refl
      slice_last (a ∷ ts) = slice_last ts

      by : (symbol : ℕ) (u : Table) → slice_get (tables ++ t ∷ []) symbol ≡ Some u → (r : Symbol) × (slice_get v.symbols symbol ≡ Some r) × IsTable f elements symbol r u
      by symbol u e =
          ⊎_elim
          (λ y.
          let before : symbol < length tables = grind (arith, nat_tests, y) in
          are.each symbol u (sym (slice_front tables symbol before) ∙ e))
          (λ n.
          let within : symbol < length (tables ++ t ∷ []) = slice_get_within (tables ++ t ∷ []) symbol u e in
          let past : length tables ≤ symbol = grind (arith, nat_tests, n) in
          let same : symbol ≡ length tables = omega (arith, past, within, length-append tables (t ∷ [])) in
          let same' : symbol ≡ number = same ∙ len in
          let last : Some u ≡ Some t = sym (subst (λ (k : ℕ). slice_get (tables ++ t ∷ []) k ≡ Some u) same e) ∙ slice_last tables in
          let u_is : u ≡ t = cc in
          (s, subst (λ (k : ℕ). slice_get v.symbols k ≡ Some s) (sym same') at, subst (λ (w : Table). IsTable f elements symbol s w) (sym u_is) (subst (λ (k : ℕ). IsTable f elements k s t) (sym same') is)))
          (cases_Bool (nat_lt symbol (length tables)))

  pub untold : (tables : List Table) (s : Symbol) (number : ℕ) (g : ModelFault) → length tables ≡ number → slice_get v.symbols number ≡ Some s → AreTables v f elements tables → listed f (map (size elements) s.args) (number ∷ []) ≡ None → IsNoValue s g
      → IsMissing v f elements g
  untold tables s number (fault.Missing name) len at are none is =
      record { tables = tables; are = are; s = s; is = subst (λ (k : ℕ). slice_get v.symbols k ≡ Some s) (sym len) at; is_name = is; lacks = subst (λ (k : ℕ). listed f (map (size elements) s.args) (k ∷ []) ≡ None) (sym len) none }
  untold tables s number fault.Memory len at are none is = tt
  untold tables s number (fault.Shape p) len at are none is = absurd is
  untold tables s number (fault.Domain n) len at are none is = absurd is
  untold tables s number (fault.Element p n) len at are none is = absurd is
  untold tables s number (fault.Double p n) len at are none is = absurd is

-- ---- an index of rows

take_one_more : {X : Type 0} (xs : List X) (i : ℕ) (x : X) → i < length xs → x ≡ get_or xs i x → take (i + 1) xs ≡ take i xs ++ x ∷ []
take_one_more [] i x lt is = absurd (omega arith)
take_one_more (y ∷ xs) zero x lt is = rw is refl
take_one_more (y ∷ xs) (suc i) x lt is = let next : suc i + 1 ≡ suc (i + 1) = omega arith in rw next (ap (λ ys. y ∷ ys) (take_one_more xs i x (omega arith) is))

take_and_drop : {X : Type 0} (xs : List X) (i : ℕ) (x : X) → i < length xs → x ≡ get_or xs i x → xs ≡ take i xs ++ x ∷ drop (i + 1) xs
take_and_drop [] i x lt is = absurd (omega arith)
take_and_drop (y ∷ xs) zero x lt is = rw is refl
take_and_drop (y ∷ xs) (suc i) x lt is = let next : suc i + 1 ≡ suc (i + 1) = omega arith in rw next (ap (λ ys. y ∷ ys) (take_and_drop xs i x (omega arith) is))

-- the index has the entries of the first rows, no two of which are of one key
pub record Indexes (rows : List Row) (i : ℕ) (index : List (List ℕ × ℕ)) : Type 0 where
  pub is : index ≡ map entry_of (take i rows)
  pub single : first_double [] (take i rows) ≡ None

module _ (rows : List Row) (i : ℕ) (index : List (List ℕ × ℕ)) (r : Row) (lt : i < length rows) (at : r ≡ get_or rows i r) (h : Indexes rows i index) where
  pub indexes_more : (key : List ℕ) (added : Bool) (new : List (List ℕ × ℕ)) → key ≡ key_of r → added ≡ not (list_any (under key) index) → added ≡ true → new ≡ index ++ (key, r.value) ∷ [] → Indexes rows (i + 1) new
  indexes_more key added new key_is told fresh is =
      let none : list_any (under (key_of r)) (map entry_of (take i rows)) ≡ false = not_true (list_any (under (key_of r)) (map entry_of (take i rows))) (ap (λ (es : List (List ℕ × ℕ)). not (list_any (under (key_of r)) es)) (sym h.is) ∙ ap (λ (k : List ℕ). not (list_any (under k) index)) (sym key_is) ∙ sym told ∙ fresh) in
      record {
        is = is ∙ ap (λ (k : List ℕ). index ++ (k, r.value) ∷ []) key_is ∙ ap (λ (es : List (List ℕ × ℕ)). es ++ entry_of r ∷ []) h.is ∙ sym (map-append entry_of (take i rows) (r ∷ [])) ∙ ap (map entry_of) (sym (take_one_more rows i r lt at));
        single = ap (first_double []) (take_one_more rows i r lt at) ∙ single_more (take i rows) r h.single none;
      }
    where
      not_true : (b : Bool) → not b ≡ true → b ≡ false
      not_true true e = cc
      not_true false e = refl

  pub double_found : (key : List ℕ) (added : Bool) → key ≡ key_of r → added ≡ not (list_any (under key) index) → added ≡ false → first_double [] rows ≡ Some r.at
  double_found key added key_is told stale =
      let any : list_any (under (key_of r)) (map entry_of (take i rows)) ≡ true = not_false (list_any (under (key_of r)) (map entry_of (take i rows))) (ap (λ (es : List (List ℕ × ℕ)). not (list_any (under (key_of r)) es)) (sym h.is) ∙ ap (λ (k : List ℕ). not (list_any (under k) index)) (sym key_is) ∙ sym told ∙ stale) in
      ap (first_double []) (take_and_drop rows i r lt at) ∙ double_at (take i rows) r (drop (i + 1) rows) h.single any
    where
      not_false : (b : Bool) → not b ≡ false → b ≡ true
      not_false true e = refl
      not_false false e = cc

pub indexes_none : (rows : List Row) → Indexes rows 0 []
indexes_none rows = record { is = refl; single = refl }

pub indexes_all : (rows : List Row) (i : ℕ) (index : List (List ℕ × ℕ)) → length rows ≤ i → Indexes rows i index → (index ≡ map entry_of rows) × (first_double [] rows ≡ None)
indexes_all rows i index le h = (h.is ∙ ap (map entry_of) (take_all i rows le), sym (ap (first_double []) (take_all i rows le)) ∙ h.single)

double_said : (rows : List Row) (said : List Sentence) (r : Row) (s : Sentence) (f : ModelFault) → first_double [] rows ≡ Some r.at → slice_get said r.at ≡ Some s → IsDoubleOf s f → IsDoubleAt said (first_double [] rows) f
double_said rows said r s (fault.Double p n) double at is = (r.at, double, record { sentence = s; is = at; same_place = is.0; same_name = is.1 })
double_said rows said r s fault.Memory double at is = tt
double_said rows said r s (fault.Shape p) double at is = absurd is
double_said rows said r s (fault.Domain n) double at is = absurd is
double_said rows said r s (fault.Element p n) double at is = absurd is
double_said rows said r s (fault.Missing n) double at is = absurd is

-- the row at a number is of a key of one before, and this is the fault of its sentence
pub double_at_row : (rows : List Row) (said : List Sentence) (i : ℕ) (r : Row) (s : Sentence) (f : ModelFault) → i < length rows → r ≡ get_or rows i r → AreOf rows said → first_double [] rows ≡ Some r.at → s ≡ get_or said r.at s → IsDoubleOf s f
    → IsDoubleAt said (first_double [] rows) f
double_at_row rows said i r s f lt at are double is h =
    let within : r.at < length said = subst (λ (q : Row). q.at < length said) (sym at) (are i r lt) in
    double_said rows said r s f double (slice_get_read said (length said) r.at s refl within is) h
