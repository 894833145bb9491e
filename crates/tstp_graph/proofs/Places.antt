-- The places of names, a name at a time.
use Rattle.std.proofs.Common.{◌≡◌, ℕ, suc, ◌+◌, ◌<◌, ◌≤◌, Bool, true, false, cond, List, [], ◌∷◌, ◌++◌, length, take, get_or, Option, None, Some, refl, sym, ◌∙◌, ap, subst, arith, length-append}
use Rattle.std.proofs.lemmas.List.{append-nil, take_more, take_all}
use Rattle.tptp_base.specs.declared.name.Name.{Name}
use Rattle.tptp_base.specs.declared.name.Name.TheVariants.{Word, Integer}
use Rattle.tptp_base.specs.declared.item.Annotated.{Annotated}
use Rattle.tptp_base.specs.declared.item.Item.{Item}
use Rattle.tstp_graph.specs.declared.names.TextTable.{TextTable}
use Rattle.tstp_graph.specs.declared.names.NameTable.{NameTable}
use Rattle.tstp_graph.specs.declared.scope.Scope.{Scope}
use Rattle.tstp_graph.specs.code.Meaning.{means_in}
use Rattle.tstp_graph.specs.Meaning.{means_of}
use Rattle.tstp_graph.specs.Tables.{same_name, places_from}
use Rattle.tstp_graph.specs.code.Tables.{found, found_text, Adds, Holds, IsAdded, IsEmpty}
use Rattle.tstp_graph.specs.Lines.{formula_of, with_formula_name, names_in}

-- the places of a name among these and one more
places_last : (number : ℕ) (names : List Name) (last name : Name) → places_from number (names ++ last ∷ []) name ≡ cond (same_name last name) (places_from number names name ++ (number + length names) ∷ []) (places_from number names name)
places_last number [] last name = by (same_name last name) refl
  where
    none : number ≡ number + 0
    none = omega arith

    by : (b : Bool) → same_name last name ≡ b → cond b (number ∷ []) [] ≡ cond b ((number + 0) ∷ []) []
    by true y = ap (λ n. n ∷ []) none
    by false n = refl
places_last number (here ∷ names) last name = by (same_name here name) (same_name last name) (places_last (number + 1) names last name)
  where
    more : number + 1 + length names ≡ number + suc (length names)
    more = omega arith

    by : (b d : Bool) → places_from (number + 1) (names ++ last ∷ []) name ≡ cond d (places_from (number + 1) names name ++ (number + 1 + length names) ∷ []) (places_from (number + 1) names name)
        → cond b (number ∷ places_from (number + 1) (names ++ last ∷ []) name) (places_from (number + 1) (names ++ last ∷ []) name)
        ≡ cond d (cond b (number ∷ places_from (number + 1) names name) (places_from (number + 1) names name) ++ (number + suc (length names)) ∷ []) (cond b (number ∷ places_from (number + 1) names name) (places_from (number + 1) names name))
    by true true is = ap (λ (l : List ℕ). number ∷ l) is ∙ ap (λ n. number ∷ (places_from (number + 1) names name ++ n ∷ [])) more
    by true false is = ap (λ (l : List ℕ). number ∷ l) is
    by false true is = is ∙ ap (λ n. places_from (number + 1) names name ++ n ∷ []) more
    by false false is = is

same_found : (old new : NameTable) → new.words ≡ old.words → new.integers ≡ old.integers → (name : Name) → found new name ≡ found old name
same_found old new words integers (Word text) = ap (λ (t : TextTable). found_text t text) words
same_found old new words integers (Integer text) = ap (λ (t : TextTable). found_text t text) integers

pub holds_none : (table : NameTable) → IsEmpty table.words → IsEmpty table.integers → table.count ≡ 0 → Holds table []
holds_none table words integers count = record { places = by; count = count }
  where
    by : (name : Name) → found table name ≡ []
    by (Word text) = words text
    by (Integer text) = integers text

pub added_none : (table : NameTable) → IsAdded table [] table
added_none table names holds = subst (Holds table) (sym (append-nil names)) holds

-- a table with one name more
pub added : (old new : NameTable) (name : Name) (place : ℕ) → place ≡ old.count → Adds old name place new → new.count ≡ old.count + 1 → IsAdded old (name ∷ []) new
added old new name place is adds count names holds = record {
  places = λ other. adds other ∙ by other (same_name name other) ∙ sym (places_last 0 names name other);
  count = omega (arith, count, holds.count, length-append names (name ∷ []));
}
  where
    here : place ≡ 0 + length names
    here = omega (arith, is, holds.count)

    by : (other : Name) (b : Bool) → cond b (found old other ++ place ∷ []) (found old other) ≡ cond b (places_from 0 names other ++ (0 + length names) ∷ []) (places_from 0 names other)
    by other true = ap (λ (l : List ℕ). l ++ place ∷ []) (holds.places other) ∙ ap (λ n. places_from 0 names other ++ n ∷ []) here
    by other false = holds.places other

pub added_with : (old mid new : NameTable) (name : Name) (place : ℕ) → new.words ≡ mid.words → new.integers ≡ mid.integers → place ≡ old.count → Adds old name place mid → new.count ≡ old.count + 1 → IsAdded old (name ∷ []) new
added_with old mid new name place words integers is adds count =
    added old new name place is (λ other. same_found mid new words integers other ∙ adds other) count

with_append : (formula : Option Annotated) (front back : List Name) → with_formula_name formula (front ++ back) ≡ with_formula_name formula front ++ back
with_append None front back = refl
with_append (Some formula) front back = refl

names_last : (is_type : Bool) (items : List Item) (last : Item) → names_in is_type (items ++ last ∷ []) ≡ names_in is_type items ++ with_formula_name (formula_of is_type last) []
names_last is_type [] last = refl
names_last is_type (item ∷ items) last =
    ap (with_formula_name (formula_of is_type item)) (names_last is_type items last) ∙ with_append (formula_of is_type item) (names_in is_type items) (with_formula_name (formula_of is_type last) [])

-- the names of one item more
pub names_more : (is_type : Bool) (items : List Item) (i : ℕ) (item : Item) → i < length items → item ≡ get_or items i item → names_in is_type (take i items) ++ with_formula_name (formula_of is_type item) [] ≡ names_in is_type (take (i + 1) items)
names_more is_type items i item lt is =
    sym (names_last is_type (take i items) item) ∙ ap (λ (x : Item). names_in is_type (take i items ++ x ∷ [])) is ∙ ap (names_in is_type) (sym (take_more items i item lt))

pub holds_more : (table : NameTable) (is_type : Bool) (items : List Item) (i : ℕ) (item : Item) → i < length items → item ≡ get_or items i item → Holds table (names_in is_type (take i items) ++ with_formula_name (formula_of is_type item) []) → Holds table (names_in is_type (take (i + 1) items))
holds_more table is_type items i item lt is holds = subst (Holds table) (names_more is_type items i item lt is) holds

pub holds_given : (table : NameTable) (names : List Name) (i : ℕ) (name : Name) → i < length names → name ≡ get_or names i name → Holds table (take i names ++ name ∷ []) → Holds table (take (i + 1) names)
holds_given table names i name lt is holds =
    subst (Holds table) (ap (λ (x : Name). take i names ++ x ∷ []) is ∙ sym (take_more names i name lt)) holds

pub holds_all : (table : NameTable) (names : List Name) (i : ℕ) → length names ≤ i → Holds table (take i names) → Holds table names
holds_all table names i all holds = subst (Holds table) (take_all i names all) holds

pub holds_items : (table : NameTable) (is_type : Bool) (items : List Item) (i : ℕ) → length items ≤ i → Holds table (names_in is_type (take i items)) → Holds table (names_in is_type items)
holds_items table is_type items i all holds = subst (λ (xs : List Item). Holds table (names_in is_type xs)) (take_all i items all) holds

-- tables that hold the names of a derivation tell what names mean
pub means_same : (scope : Scope) (items : List Item) (given : List Name) → Holds scope.lines (names_in false items) → Holds scope.types (names_in true items) → Holds scope.given given → means_in scope ≡ means_of items given
means_same scope items given lines types givens = λ i. record { lines = λ name. lines.places name i; types = λ name. types.places name i; given = λ name. givens.places name i }
