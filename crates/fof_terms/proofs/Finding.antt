-- Directories tell the first symbol and the first sort of each name, also once there is one more.
use Rattle.std.proofs.Common.{◌≡◌, ℕ, ◌+◌, ◌<◌, ◌&&◌, ◌==◌, Bool, true, false, List, [], ◌∷◌, ◌++◌, length, drop, Option, Some, None, nat_eq, refl, sym, ◌∙◌, ap, ⊎_elim, arith}
use Rattle.std.specs.Option.{option_map, is_some}
use Rattle.std.specs.List.{position}
use Rattle.std.specs.Cmp.Lexicographic.{pointwise, bytes_decides}
use Rattle.std.proofs.lemmas.Bool.{cases_Bool}
use Rattle.std.proofs.lemmas.Bool.Decides.{nat_tests}
use Rattle.fof_terms.specs.declared.directory.Directory.{Directory}
use Rattle.fof_terms.specs.declared.signature.Symbol.{Symbol}
use Rattle.fof_terms.specs.declared.signature.Kind.{Kind}
use Rattle.fof_terms.specs.declared.signature.Kind.TheVariants.{Function, Predicate}
use Rattle.fof_terms.specs.Directory.{entered}
use Rattle.fof_terms.specs.code.Directory.{Enters}
use Rattle.fof_terms.specs.Found.{FindsSymbols, FindsSorts}
use Rattle.fof_terms.specs.Vocabulary.{is_kind, is_symbol}
use Rattle.fof_terms.proofs.Places.{position_known, position_missed, position_new}

first_true : (a b : Bool) → a && b ≡ true → a ≡ true
first_true true b e = refl
first_true false b e = cc

rest_true : (a b : Bool) → a && b ≡ true → b ≡ true
rest_true true b e = e
rest_true false b e = cc

same_count : (a b : ℕ) → a == b ≡ true → b ≡ a
same_count a b e = grind (arith, nat_tests)

-- what a test of a symbol tells of the name and the number of arguments
told_name : (name : List ℕ) (kind : Kind) (arity : ℕ) (s : Symbol) → is_symbol name kind arity s ≡ true → name ≡ s.name
told_name name kind arity s e = sym ((bytes_decides s.name name).0 (first_true (pointwise nat_eq s.name name) (is_kind s.kind kind && (length s.args == arity)) e))

told_count : (name : List ℕ) (kind : Kind) (arity : ℕ) (s : Symbol) → is_symbol name kind arity s ≡ true → arity ≡ length s.args
told_count name kind arity s e =
    same_count (length s.args) arity (rest_true (is_kind s.kind kind) (length s.args == arity) (rest_true (pointwise nat_eq s.name name) (is_kind s.kind kind && (length s.args == arity)) e))

cases_of : {P : Type 0} (b : Bool) → (b ≡ true → P) → (b ≡ false → P) → P
cases_of b t f = ⊎_elim t f (cases_Bool b)

module _ (symbols : List Symbol) (s : Symbol) (d : Directory) where
  -- a symbol that is known
  pub known_symbol : is_some (entered d s.name (length s.args)) ≡ true → FindsSymbols s.kind symbols d → FindsSymbols s.kind (symbols ++ s ∷ []) d
  known_symbol known finds = record {
    found = λ name arity. cases_of (is_symbol name s.kind arity s)
        (λ y.
        let at : entered d name arity ≡ entered d s.name (length s.args) = rw (told_name name s.kind arity s y, told_count name s.kind arity s y) refl in
        let there : is_some (position (is_symbol name s.kind arity) symbols) ≡ true = ap is_some (sym (finds.found name arity) ∙ at) ∙ known in
        finds.found name arity ∙ sym (position_known (is_symbol name s.kind arity) symbols s there))
        (λ n. finds.found name arity ∙ sym (position_missed (is_symbol name s.kind arity) symbols s n));
  }

  -- a symbol that is entered
  pub new_symbol : (e : Directory) → entered d s.name (length s.args) ≡ None → Enters d s.name (length s.args) (length symbols) e → FindsSymbols s.kind symbols d → FindsSymbols s.kind (symbols ++ s ∷ []) e
  new_symbol e absent enters finds = record {
    found = λ name arity. cases_of (is_symbol name s.kind arity s)
        (λ y.
        let at : entered e name arity ≡ entered e s.name (length s.args) = rw (told_name name s.kind arity s y, told_count name s.kind arity s y) refl in
        let was : entered d name arity ≡ entered d s.name (length s.args) = rw (told_name name s.kind arity s y, told_count name s.kind arity s y) refl in
        at ∙ (enters.here ∙ sym (position_new (is_symbol name s.kind arity) symbols s (sym (finds.found name arity) ∙ (was ∙ absent)) y)))
        (λ n.
        enters.elsewhere name arity (λ same count. same_fails name arity n same count)
        ∙ (finds.found name arity ∙ sym (position_missed (is_symbol name s.kind arity) symbols s n)));
  }
    where
      own_kind : (k : Kind) → is_kind k k ≡ true
      own_kind Function = refl
      own_kind Predicate = refl

      own_count : (n : ℕ) → n == n ≡ true
      own_count n = grind (arith, nat_tests)

      own : is_symbol s.name s.kind (length s.args) s ≡ true
      own = rw ((bytes_decides s.name s.name).1 refl, own_kind s.kind, own_count (length s.args)) refl

      same_fails : (name : List ℕ) (arity : ℕ) → is_symbol name s.kind arity s ≡ false → name ≡ s.name → arity ≡ length s.args → ⊥
      same_fails name arity n same count =
          let at : is_symbol name s.kind arity s ≡ is_symbol s.name s.kind (length s.args) s = rw (same, count) refl in
          let both : true ≡ false = sym own ∙ (sym at ∙ n) in
          cc

module _ (first : List ℕ) (rest : List (List ℕ)) (sort : List ℕ) (d : Directory) where
  pub known_sort : is_some (entered d sort 0) ≡ true → FindsSorts (first ∷ rest) d → FindsSorts ((first ∷ rest) ++ sort ∷ []) d
  known_sort known finds = record {
    found = λ name. cases_of (pointwise nat_eq sort name)
        (λ y.
        let at : entered d name 0 ≡ entered d sort 0 = ap (λ n. entered d n 0) (sym ((bytes_decides sort name).0 y)) in
        let there : is_some (position (λ s. pointwise nat_eq s name) rest) ≡ true = some_of (position (λ s. pointwise nat_eq s name) rest) (ap is_some (sym (finds.found name) ∙ at) ∙ known) in
        finds.found name ∙ ap (option_map (λ i. i + 1)) (sym (position_known (λ s. pointwise nat_eq s name) rest sort there)))
        (λ n. finds.found name ∙ ap (option_map (λ i. i + 1)) (sym (position_missed (λ s. pointwise nat_eq s name) rest sort n)));
  }
    where
      some_of : (o : Option ℕ) → is_some (option_map (λ i. i + 1) o) ≡ true → is_some o ≡ true
      some_of None e = e
      some_of (Some i) e = e

  pub new_sort : (e : Directory) (number : ℕ) → number ≡ length (first ∷ rest) → entered d sort 0 ≡ None → Enters d sort 0 number e → FindsSorts (first ∷ rest) d → FindsSorts ((first ∷ rest) ++ sort ∷ []) e
  new_sort e number is absent enters finds = record {
    found = λ name. cases_of (pointwise nat_eq sort name)
        (λ y.
        let same : name ≡ sort = sym ((bytes_decides sort name).0 y) in
        let none : position (λ s. pointwise nat_eq s name) rest ≡ None = none_of (position (λ s. pointwise nat_eq s name) rest) (sym (finds.found name) ∙ (ap (λ n. entered d n 0) same ∙ absent)) in
        let count : number ≡ length rest + 1 = omega (arith, is) in
        ap (λ n. entered e n 0) same ∙ (enters.here ∙ (ap Some count ∙ ap (option_map (λ i. i + 1)) (sym (position_new (λ s. pointwise nat_eq s name) rest sort none y)))))
        (λ n.
        enters.elsewhere name 0 (λ same count. fails name n same)
        ∙ (finds.found name ∙ ap (option_map (λ i. i + 1)) (sym (position_missed (λ s. pointwise nat_eq s name) rest sort n))));
  }
    where
      none_of : (o : Option ℕ) → option_map (λ i. i + 1) o ≡ None → o ≡ None
      none_of None e = refl
      none_of (Some i) e = cc

      fails : (name : List ℕ) → pointwise nat_eq sort name ≡ false → name ≡ sort → ⊥
      fails name n same =
          let both : true ≡ false = sym ((bytes_decides sort name).1 (sym same)) ∙ n in
          cc

none_from : {X : Type 0} (o : Option X) → is_some o ≡ false → o ≡ None
none_from None e = refl
none_from (Some x) e = cc

-- the same once a symbol was put behind the others
pub symbol_entered : (symbols : List Symbol) (s : Symbol) (d e : Directory) (name : List ℕ) (arity number : ℕ) → name ≡ s.name → arity ≡ length s.args → number ≡ length symbols
    → is_some (entered d s.name (length s.args)) ≡ false → Enters d name arity number e → FindsSymbols s.kind symbols d → FindsSymbols s.kind (symbols ++ s ∷ []) e
symbol_entered symbols s d e name arity number same count place absent enters finds = new_symbol symbols s d e (none_from (entered d s.name (length s.args)) absent) (rw (same, count, place) at enters) finds

-- the same once a sort was put behind the others
pub sort_known : (sorts : List (List ℕ)) (sort : List ℕ) (d : Directory) → 0 < length sorts → is_some (entered d sort 0) ≡ true → FindsSorts sorts d → FindsSorts (sorts ++ sort ∷ []) d
sort_known [] sort d some known finds = absurd (omega arith)
sort_known (first ∷ rest) sort d some known finds = known_sort first rest sort d known finds

pub sort_entered : (sorts : List (List ℕ)) (sort : List ℕ) (d e : Directory) (name : List ℕ) (number : ℕ) → 0 < length sorts → name ≡ sort → number ≡ length sorts → is_some (entered d sort 0) ≡ false → Enters d name 0 number e
    → FindsSorts sorts d → FindsSorts (sorts ++ sort ∷ []) e
sort_entered [] sort d e name number some same place absent enters finds = absurd (omega arith)
sort_entered (first ∷ rest) sort d e name number some same place absent enters finds = new_sort first rest sort d e number place (none_from (entered d sort 0) absent) (rw same at enters) finds
