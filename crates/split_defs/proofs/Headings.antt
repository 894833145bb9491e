-- What the search for a definition finds at two sides.
use Rattle.std.proofs.Common.{ℕ, ◌≡◌, ◌<◌, ◌↔◌, ◌||◌, Bool, true, false, not, List, [], ◌∷◌, map, take, length, get_or, nat_eq, arith, zero, suc, refl, sym, ap, subst, ◌∙◌, Option, Some, None, slice_get}
use Rattle.std.specs.Prelude.{IsTrue}
use Rattle.std.specs.List.{list_any, All as Each, IsDistinct}
use Rattle.std.proofs.lemmas.List.{length-map}
use Rattle.fof_terms.specs.Occurs.{occurs_in, occurs_in_term}
use Rattle.fof_terms.specs.declared.signature.Symbol.{Symbol}
use Rattle.fof_terms.specs.declared.signature.Kind.{Kind}
use Rattle.fof_terms.specs.declared.signature.Kind.TheVariants.{Function, Predicate}
use Rattle.fof_terms.specs.declared.term.Term.{Term, Var, App}
use Rattle.fof_terms.specs.declared.term.Term.TheOpen as term
use Rattle.fof_terms.specs.declared.term.Term.TheViews.{out-Term, outs-App, outs-Var}
use Rattle.fof_terms.specs.declared.form.Form.{Form, Atom}
use Rattle.fof_terms.specs.declared.form.Form.TheOpen as form
use Rattle.fof_terms.specs.declared.form.Form.TheViews.{out-Form, outs-Atom}
use Rattle.indexmap.specs.IndexSet.{IndexSet}
use Rattle.kernel.specs.Statements.{Statements}
use Rattle.split_defs.specs.code.Arguments.{AreVariables, AreNames}
use Rattle.split_defs.specs.DefinitionRule.{IsNew, IsMeaning, IsValue}
use Rattle.split_defs.specs.code.DefinitionSearch.{Heads, Values, HeadsAt, ValuesAt, IsFoundSymbol}
use Rattle.split_defs.specs.code.Renaming.{renamed, renamed_term, speaks, speaks_in_term}
use Rattle.split_defs.proofs.Distinct.{comes_once}
use Rattle.split_defs.proofs.Spoken.{among_of_form, speaks_of_among, among_of_term, speaks_of_term}

pub Atom-injective : (p q : ℕ) (ts us : List Term) → Atom p ts ≡ Atom q us → (p ≡ q) × (ts ≡ us)
Atom-injective p q ts us e = let layers : form.Atom p ts ≡ form.Atom q us = sym (outs-Atom p ts) ∙ ap out-Form e ∙ outs-Atom q us in (cc, cc)

pub App-injective : (p q : ℕ) (ts us : List Term) → App p ts ≡ App q us → (p ≡ q) × (ts ≡ us)
App-injective p q ts us e = let layers : term.App p ts ≡ term.App q us = sym (outs-App p ts) ∙ ap out-Term e ∙ outs-App q us in (cc, cc)

pub same_variables : (xs ys : List ℕ) → map Var xs ≡ map Var ys → xs ≡ ys
same_variables [] [] e = refl
same_variables [] (y ∷ ys) e = cc
same_variables (x ∷ xs) [] e = cc
same_variables (x ∷ xs) (y ∷ ys) e =
    let first : Var x ≡ Var y = cc in
    let same : x ≡ y = cc in
    let more : map Var xs ≡ map Var ys = cc in
    rw (same, same_variables xs ys more) refl

-- no formula has the symbol
first : (a b : Bool) → a || b ≡ false → a ≡ false
first true b e = cc
first false b e = refl

rest : (a b : Bool) → a || b ≡ false → b ≡ false
rest true b e = cc
rest false b e = e

none_has : {X : Type 0} (f : X → Bool) (xs : List X) → list_any f xs ≡ false → Each (λ x. f x ≡ false) xs
none_has f [] e k d lt = absurd (omega arith)
none_has f (x ∷ xs) e zero d lt = first (f x) (list_any f xs) e
none_has f (x ∷ xs) e (suc k) d lt = none_has f xs (rest (f x) (list_any f xs) e) k d (omega arith)

has_none : {X : Type 0} (f : X → Bool) (xs : List X) → Each (λ x. f x ≡ false) xs → list_any f xs ≡ false
has_none f [] all = refl
has_none f (x ∷ xs) all = rw (all zero x (omega arith)) (has_none f xs (λ k d lt. all (suc k) d (omega arith)))

pub new_by : (t : Statements) (kind : Kind) (k : ℕ) (symbol : Symbol) (b : Bool) → slice_get t.vocabulary.symbols k ≡ Some symbol → symbol.kind ≡ kind → b ≡ list_any (occurs_in k) t.formulas
    → (IsTrue (not b) → IsNew t kind k) × (IsNew t kind k → IsTrue (not b))
new_by t kind k symbol true found is e = (λ h. absurd (let no : false ≡ true = h in cc), λ n. absurd (let no : true ≡ false = e ∙ has_none (occurs_in k) t.formulas n.fresh in cc))
new_by t kind k symbol false found is e = (λ h. record { symbol = symbol; found = found; is_kind = is; fresh = none_has (occurs_in k) t.formulas (sym e) }, λ n. refl)

not_both : (a b : Bool) → a ≡ not b → not a ≡ true → b ≡ true
not_both a true e f = refl
not_both a false e f = let is : a ≡ true = e in absurd (let no : false ≡ true = subst (λ (x : Bool). not x ≡ true) is f in cc)

-- Arguments that come twice, or are no variables.
pub comes_twice : (args : List Term) (keys : List ℕ) (i n : ℕ) (item : Term) (fresh has : Bool) → map Var keys ≡ take i args → i < length args → item ≡ get_or args i item → item ≡ Var n → fresh ≡ not has → has ≡ list_any (nat_eq n) keys → fresh ≡ false
    → (xs : List ℕ) → AreVariables args xs → ⊥
comes_twice args keys i n item fresh has front lt at is added has_is again xs v =
    let front' : map Var keys ≡ take i (map Var xs) = subst (λ (ts : List Term). map Var keys ≡ take i ts) v.are front in
    let lt' : i < length xs = omega (arith, subst (λ (ts : List Term). i < length ts) v.are lt, length-map xs Var) in
    let at' : get_or (map Var xs) i (Var n) ≡ Var n = subst (λ (ts : List Term). get_or ts i (Var n) ≡ Var n) v.are (sym (subst (λ (t : Term). t ≡ get_or args i t) is at)) in
    comes_once xs keys i n front' lt' at' v.distinct (sym has_is ∙ not_both fresh has added (ap not again))

get_var : (xs : List ℕ) (i : ℕ) (d : Term) → i < length xs → (x : ℕ) × (get_or (map Var xs) i d ≡ Var x)
get_var [] i d lt = absurd (omega arith)
get_var (x ∷ xs) zero d lt = (x, refl)
get_var (x ∷ xs) (suc i) d lt = get_var xs i d (omega arith)

no_variable : (f k : ℕ) (ts : List Term) → App f ts ≡ Var k → ⊥
no_variable f k ts e = let layers : term.App f ts ≡ term.Var k = sym (outs-App f ts) ∙ ap out-Term e ∙ outs-Var k in cc

pub has_other : (args : List Term) (i f : ℕ) (ts : List Term) (item : Term) → i < length args → item ≡ get_or args i item → item ≡ App f ts → (xs : List ℕ) → AreVariables args xs → ⊥
has_other args i f ts item lt at is xs v =
    let lt' : i < length xs = omega (arith, subst (λ (us : List Term). i < length us) v.are lt, length-map xs Var) in
    let at' : item ≡ get_or (map Var xs) i item = subst (λ (us : List Term). item ≡ get_or us i item) v.are at in
    let var = get_var xs i item lt' in
    no_variable f var.0 ts (sym is ∙ at' ∙ var.1)

module _ {S : Type 0} where
  names_at : (slice : List Term) (o : Option (IndexSet ℕ S)) (set : IndexSet ℕ S) → AreNames slice o → o ≡ Some set → AreVariables slice set.keys
  names_at slice o set names is = subst (λ (p : Option (IndexSet ℕ S)). AreNames slice p) is names

  pub headed_by : (t : Statements) (head a : Form) (k : ℕ) (args slice : List Term) (o : Option (IndexSet ℕ S)) (set : IndexSet ℕ S) (new occ spk : Bool) → head ≡ Atom k args → slice ≡ args → AreNames slice o → o ≡ Some set
      → (IsTrue new ↔ IsNew t Predicate k) → new ≡ true → occ ≡ occurs_in k a → occ ≡ false → spk ≡ speaks set.keys 0 a → spk ≡ true → Heads t head a k
  headed_by t head a k args slice o set new occ spk is same names some decides old occurs absent says said =
      let v = names_at slice o set names some in
      (decides.0 old, (set.keys, is ∙ ap (Atom k) (sym same ∙ v.are), record { distinct = v.distinct; absent = sym occurs ∙ absent; among = among_of_form set.keys a (sym says ∙ said) }))

  pub not_headed : (t : Statements) (head a : Form) (k : ℕ) (args slice : List Term) (o : Option (IndexSet ℕ S)) (set : IndexSet ℕ S) (spk : Bool) → head ≡ Atom k args → slice ≡ args → AreNames slice o → o ≡ Some set → spk ≡ speaks set.keys 0 a → spk ≡ false
      → (j : ℕ) → Heads t head a j → ⊥
  not_headed t head a k args slice o set spk is same names some says unsaid j h =
      let v = names_at slice o set names some in
      let parts = Atom-injective k j args (map Var h.1.0) (sym is ∙ h.1.1) in
      let keys : set.keys ≡ h.1.0 = same_variables set.keys h.1.0 (sym v.are ∙ same ∙ parts.1) in
      let yes : speaks set.keys 0 a ≡ true = subst (λ (xs : List ℕ). speaks xs 0 a ≡ true) (sym keys) (speaks_of_among h.1.0 a h.1.2.among) in
      let no : true ≡ false = sym yes ∙ sym says ∙ unsaid in
      cc

  pub valued_by : (t : Statements) (head u : Term) (k : ℕ) (args slice : List Term) (o : Option (IndexSet ℕ S)) (set : IndexSet ℕ S) (new occ spk : Bool) → head ≡ App k args → slice ≡ args → AreNames slice o → o ≡ Some set
      → (IsTrue new ↔ IsNew t Function k) → new ≡ true → occ ≡ occurs_in_term k u → occ ≡ false → spk ≡ speaks_in_term set.keys 0 u → spk ≡ true → Values t head u k
  valued_by t head u k args slice o set new occ spk is same names some decides old occurs absent says said =
      let v = names_at slice o set names some in
      (decides.0 old, (set.keys, is ∙ ap (App k) (sym same ∙ v.are), record { distinct = v.distinct; absent = sym occurs ∙ absent; among = among_of_term set.keys u (sym says ∙ said) }))

  pub not_valued : (t : Statements) (head u : Term) (k : ℕ) (args slice : List Term) (o : Option (IndexSet ℕ S)) (set : IndexSet ℕ S) (spk : Bool) → head ≡ App k args → slice ≡ args → AreNames slice o → o ≡ Some set → spk ≡ speaks_in_term set.keys 0 u → spk ≡ false
      → (j : ℕ) → Values t head u j → ⊥
  not_valued t head u k args slice o set spk is same names some says unsaid j h =
      let v = names_at slice o set names some in
      let parts = App-injective k j args (map Var h.1.0) (sym is ∙ h.1.1) in
      let keys : set.keys ≡ h.1.0 = same_variables set.keys h.1.0 (sym v.are ∙ same ∙ parts.1) in
      let yes : speaks_in_term set.keys 0 u ≡ true = subst (λ (xs : List ℕ). speaks_in_term xs 0 u ≡ true) (sym keys) (speaks_of_term h.1.0 u h.1.2.among) in
      let no : true ≡ false = sym yes ∙ sym says ∙ unsaid in
      cc

-- neither side is one
pub no_heads : (t : Statements) (l r : Form) (o p : Option ℕ) → o ≡ None → p ≡ None → IsFoundSymbol (Heads t l r) o → IsFoundSymbol (Heads t r l) p → (k : ℕ) (first : Bool) → HeadsAt t l r k first → ⊥
no_heads t l r o p eo ep ho hp k true h = let none : (j : ℕ) → Heads t l r j → ⊥ = subst (λ (x : Option ℕ). IsFoundSymbol (Heads t l r) x) eo ho in none k h
no_heads t l r o p eo ep ho hp k false h = let none : (j : ℕ) → Heads t r l j → ⊥ = subst (λ (x : Option ℕ). IsFoundSymbol (Heads t r l) x) ep hp in none k h

pub no_values : (t : Statements) (l r : Term) (o p : Option ℕ) → o ≡ None → p ≡ None → IsFoundSymbol (Values t l r) o → IsFoundSymbol (Values t r l) p → (k : ℕ) (first : Bool) → ValuesAt t l r k first → ⊥
no_values t l r o p eo ep ho hp k true h = let none : (j : ℕ) → Values t l r j → ⊥ = subst (λ (x : Option ℕ). IsFoundSymbol (Values t l r) x) eo ho in none k h
no_values t l r o p eo ep ho hp k false h = let none : (j : ℕ) → Values t r l j → ⊥ = subst (λ (x : Option ℕ). IsFoundSymbol (Values t r l) x) ep hp in none k h

-- Distinct variables have names.
pub have_names : {S : Type 0} (slice : List Term) (o : Option (IndexSet ℕ S)) → AreNames slice o → o ≡ None → (xs : List ℕ) → slice ≡ map Var xs → IsDistinct nat_eq xs → ⊥
have_names {S} slice o names none xs are distinct =
    let no : (ys : List ℕ) → AreVariables slice ys → ⊥ = subst (λ (p : Option (IndexSet ℕ S)). AreNames slice p) none names in
    no xs (record { are = are; distinct = distinct })

-- The variables that were found are those of the arguments.
module _ {S : Type 0} (slice : List Term) (o : Option (IndexSet ℕ S)) (set : IndexSet ℕ S) (names : AreNames slice o) (some : o ≡ Some set) where
  keys_are : (xs : List ℕ) → slice ≡ map Var xs → set.keys ≡ xs
  keys_are xs e = same_variables set.keys xs (sym (names_at slice o set names some).are ∙ e)

  pub over_speaks : (k : ℕ) (xs : List ℕ) (a : Form) → slice ≡ map Var xs → IsMeaning k xs a → speaks set.keys 0 a ≡ true
  over_speaks k xs a e m = subst (λ (ys : List ℕ). speaks ys 0 a ≡ true) (sym (keys_are xs e)) (speaks_of_among xs a m.among)

  pub over_same : (a own : Form) → own ≡ renamed set.keys 0 a → (xs : List ℕ) → slice ≡ map Var xs → own ≡ renamed xs 0 a
  over_same a own made xs e = made ∙ ap (λ (ys : List ℕ). renamed ys 0 a) (keys_are xs e)

  pub value_speaks_over : (k : ℕ) (xs : List ℕ) (u : Term) → slice ≡ map Var xs → IsValue k xs u → speaks_in_term set.keys 0 u ≡ true
  value_speaks_over k xs u e m = subst (λ (ys : List ℕ). speaks_in_term ys 0 u ≡ true) (sym (keys_are xs e)) (speaks_of_term xs u m.among)

  pub value_same : (u own : Term) → own ≡ renamed_term set.keys 0 u → (xs : List ℕ) → slice ≡ map Var xs → own ≡ renamed_term xs 0 u
  value_same u own made xs e = made ∙ ap (λ (ys : List ℕ). renamed_term ys 0 u) (keys_are xs e)
