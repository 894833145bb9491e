-- Which interpretation of a signature the sentences of a model describe (TPTP technical manual, finite
-- interpretations): each sort has one domain, and each symbol one value for each list of elements of its sorts.
use Rattle.std.specs.Prelude.{ℕ, ◌≡◌, ◌<◌, ◌+◌, ◌&&◌, ◌||◌, nat_eq, nat_lt, Bool, true, false, List, [], ◌∷◌}
use Rattle.std.specs.Prelude.{length, map, filter, position, slice_get, get_or, is_some, Option, Some, None, Result, Ok, Err, ◌++◌}
use Rattle.std.specs.List.{list_any, AllByRecursion}
use Rattle.std.specs.Str.{bytes_eq}
use Rattle.std.specs.Cmp.Lexicographic.{pointwise}
use Rattle.tptp_base.specs.declared.item.Item.{Item}
use Rattle.fof_terms.specs.Vocabulary.{Vocabulary, found_symbol, found_sort}
use Rattle.fof_terms.specs.Sorts.{is_sort}
use Rattle.fof_terms.specs.declared.signature.Symbol.{Symbol}
use Rattle.fof_terms.specs.declared.signature.Kind.{Kind}
use Rattle.fof_terms.specs.declared.signature.Kind.TheVariants.{Function, Predicate}
use Rattle.fi_model.specs.declared.rows.Row.{Row}
use Rattle.fi_model.specs.declared.sentence.Domain.{Domain}
use Rattle.fi_model.specs.declared.sentence.Element.{Element}
use Rattle.fi_model.specs.declared.sentence.Entry.{Entry}
use Rattle.fi_model.specs.declared.sentence.Sentence.{Sentence}
use Rattle.fi_model.specs.declared.sentence.Value.{Value}
use Rattle.fi_model.specs.declared.sentence.Value.TheVariants.{Element as OfFunction, Truth}
use Rattle.fi_model.specs.declared.sentence.What.{What}
use Rattle.fi_model.specs.Interpretations.{Interpretation, size}
use Rattle.fi_model.specs.Sentences.{Text, sentences}
use Rattle.fi_model.specs.declared.sentence.What.TheVariants as says

-- ---- domains

-- the number of the sort of that name; none names the sort of individuals
abbrev pub sort_number : Vocabulary → Option Text → Option ℕ
sort_number v None = Some 0
sort_number v (Some word) = found_sort v word

-- the domain is that of the sort
abbrev pub is_of : Vocabulary → ℕ → Domain → Bool
is_of v s d = is_sort (sort_number v d.sort) s

abbrev pub with_domain : What → List Domain → List Domain
with_domain (says.Domain d) ds = d ∷ ds
with_domain (says.Entries es) ds = ds

-- the domains that sentences state
abbrev pub domains : List Sentence → List Domain
domains [] = []
domains (s ∷ ss) = with_domain s.what (domains ss)

-- the names of the elements of a domain
abbrev pub names : Domain → List Text
names d = map (λ (e : Element). e.name) d.elements

-- one of these stands before itself, or in front of them all
abbrev pub again : List Text → List Text → Bool
again before [] = false
again before (x ∷ xs) = list_any (bytes_eq x) before || again (before ++ x ∷ []) xs

-- an element stands twice among these
abbrev pub repeats : List Text → Bool
repeats xs = again [] xs

-- The domain is that of a sort of the signature, and it has elements, each once.
pub record IsDomain (v : Vocabulary) (d : Domain) : Type 0 where
  pub known : is_some (sort_number v d.sort) ≡ true
  pub some : 0 < length (names d)
  pub distinct : repeats (names d) ≡ false

-- Each sort of the signature has exactly one of the domains, and these are its elements.
pub record AreDomains (v : Vocabulary) (stated : List Domain) (elements : List (List Text)) : Type 0 where
  pub good : AllByRecursion (IsDomain v) stated
  pub each_sort : length elements ≡ length v.sorts
  pub one : (s : ℕ) → s < length v.sorts → (d : Domain) × (filter (is_of v s) stated ≡ d ∷ []) × (slice_get elements s ≡ Some (names d))

-- ---- values

-- the place of the element in the domain of the sort
abbrev pub place : List (List Text) → ℕ → Text → Option ℕ
place elements sort name = position (bytes_eq name) (get_or elements sort [])

abbrev pub both : {X Y Z : Type 0} → (X → Y → Z) → Option X → Option Y → Option Z
both f None y = None
both f (Some x) None = None
both f (Some x) (Some y) = Some (f x y)

-- the place of each element in the domain of its sort
abbrev pub places : List (List Text) → List ℕ → List Element → Option (List ℕ)
places elements [] [] = Some []
places elements [] (e ∷ es) = None
places elements (s ∷ sorts) [] = None
places elements (s ∷ sorts) (e ∷ es) = both (λ x xs. x ∷ xs) (place elements s e.name) (places elements sorts es)

-- a function gives an element of its sort, and a predicate 1 where it holds
abbrev pub value_place : List (List Text) → ℕ → Value → Option ℕ
value_place elements sort (OfFunction e) = place elements sort e.name
value_place elements sort (Truth true) = Some 1
value_place elements sort (Truth false) = Some 0

abbrev pub kind_of : Value → Kind
kind_of (OfFunction e) = Function
kind_of (Truth b) = Predicate

-- a row at the sentence of that number
abbrev pub row : ℕ → ℕ → List ℕ → ℕ → Row
row at symbol args value = record { symbol = symbol; args = args; value = value; at = at }

abbrev pub alone : Row → List Row
alone r = r ∷ []

abbrev pub row_of : List (List Text) → ℕ → Entry → ℕ → Option Symbol → Option (List Row)
row_of elements at e symbol None = Some []
row_of elements at e symbol (Some s) = both (λ args value. alone (row at symbol args value)) (places elements s.args e.args) (value_place elements s.result e.value)

abbrev pub row_at : Vocabulary → List (List Text) → ℕ → Entry → Option ℕ → Option (List Row)
row_at v elements at e None = Some []
row_at v elements at e (Some symbol) = row_of elements at e symbol (slice_get v.symbols symbol)

-- The row of an entry, with elements by their places. An entry of a symbol that is not in the signature has no row, and
-- there is no answer where an element is not of the sort wanted.
abbrev pub entry_rows : Vocabulary → List (List Text) → ℕ → Entry → Option (List Row)
entry_rows v elements at e = row_at v elements at e (found_symbol v e.name (kind_of e.value) (length e.args))

abbrev pub entries_rows : Vocabulary → List (List Text) → ℕ → List Entry → Option (List Row)
entries_rows v elements at [] = Some []
entries_rows v elements at (e ∷ es) = both (λ rs more. rs ++ more) (entry_rows v elements at e) (entries_rows v elements at es)

abbrev pub says_rows : Vocabulary → List (List Text) → ℕ → What → Option (List Row)
says_rows v elements at (says.Domain d) = Some []
says_rows v elements at (says.Entries es) = entries_rows v elements at es

abbrev pub rows_then : ℕ → Option (List Row) → Result (List Row) ℕ → Result (List Row) ℕ
rows_then at None rest = Err at
rows_then at (Some rs) (Ok more) = Ok (rs ++ more)
rows_then at (Some rs) (Err other) = Err other

-- the rows of sentences, the first of which has that number; or the number of the first that has a wrong element
abbrev pub rows : Vocabulary → List (List Text) → ℕ → List Sentence → Result (List Row) ℕ
rows v elements at [] = Ok []
rows v elements at (s ∷ ss) = rows_then at (says_rows v elements at s.what) (rows v elements (at + 1) ss)

-- the row is one of the symbol at these elements
abbrev pub is_at : ℕ → List ℕ → Row → Bool
is_at symbol args r = nat_eq symbol r.symbol && pointwise nat_eq args r.args

-- the elements are of these sorts
abbrev pub are_places : List (List Text) → List ℕ → List ℕ → Bool
are_places elements [] [] = true
are_places elements [] (x ∷ xs) = false
are_places elements (s ∷ sorts) [] = false
are_places elements (s ∷ sorts) (x ∷ xs) = nat_lt x (size elements s) && are_places elements sorts xs

abbrev pub takes_at : List (List Text) → Option Symbol → List ℕ → Bool
takes_at elements None args = false
takes_at elements (Some s) args = are_places elements s.args args

-- the symbol takes these elements
abbrev pub takes : Vocabulary → List (List Text) → ℕ → List ℕ → Bool
takes v elements symbol args = takes_at elements (slice_get v.symbols symbol) args

-- ---- models

-- Each symbol has exactly one row at the elements that it takes, and gives what the row says; elsewhere it gives 0.
pub record AreValues (v : Vocabulary) (found : List Row) (m : Interpretation) : Type 0 where
  pub one : (symbol : ℕ) (args : List ℕ) → takes v m.domains symbol args ≡ true → (r : Row) × (filter (is_at symbol args) found ≡ r ∷ []) × (m.value symbol args ≡ r.value)
  pub elsewhere : (symbol : ℕ) (args : List ℕ) → takes v m.domains symbol args ≡ false → m.value symbol args ≡ 0

-- The items are comments and sentences, which describe this interpretation of the signature.
pub record ModelOf (items : List Item) (v : Vocabulary) (m : Interpretation) : Type 0 where
  pub said : List Sentence
  pub is_said : sentences items ≡ Ok said
  pub domains_are : AreDomains v (domains said) m.domains
  pub found : List Row
  pub rows_are : rows v m.domains 0 said ≡ Ok found
  pub values : AreValues v found m
