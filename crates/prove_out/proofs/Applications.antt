-- What is written of a term denotes it.
use Rattle.std.proofs.Common.{◌≡◌, ℕ, zero, suc, ◌+◌, ◌-◌, ◌<◌, ◌^◌, Bool, true, false, cond, List, [], ◌∷◌, length, map, drop, slice_get, Option, Some, None, Ok, Err, refl, sym, ◌∙◌, ap, subst, arith, add-one}
use Rattle.std.proofs.lemmas.Bool.Decides.{nat_tests}
use Rattle.tptp_base.specs.declared.surface.STerm.{STerm}
use Rattle.tptp_base.specs.declared.surface.STerm.TheVariants as tm
use Rattle.fof_terms.specs.Vocabulary.{Vocabulary}
use Rattle.fof_terms.specs.Sorts.{is_sort, are_sorts, applied, made_by, sort_of_term}
use Rattle.fof_terms.specs.declared.signature.Symbol.{Symbol}
use Rattle.fof_terms.specs.declared.signature.Kind.{Kind}
use Rattle.fof_terms.specs.declared.signature.Kind.TheVariants.{Function, Predicate}
use Rattle.fof_terms.specs.declared.term.Term.{Term, Var, App}
use Rattle.fof_terms.proofs.LiftingLaws.{both}
use Rattle.fof_terms.proofs.SortsFacts.{sort_of_term-Var, sort_of_term-App}
use Rattle.sort_check.specs.declared.fault.SortRule.{SortRule}
use Rattle.sort_check.specs.declared.fault.SortRule.TheVariants.{WrongSort}
use Rattle.sort_check.specs.Outcomes.{Outcome, and_then, mapped, each}
use Rattle.sort_check.specs.Symbols.{Text, argument_at, argument_sort, result_at, result_sort}
use Rattle.sort_check.specs.Denotation.{Setting, TermOutcome, nearest, variable_at, fitting, argument, denoted_term}
use Rattle.sort_check.proofs.Equations.{new_function, denoted_term-Var}
use Rattle.sort_check.proofs.Parts.{app_ok}
use Rattle.sort_check.proofs.TermSorts.{wanted_sort}
use Rattle.prove_out.specs.Unambiguous.{IsUnambiguous}
use Rattle.prove_out.specs.Variables.{variable_name}
use Rattle.prove_out.specs.code.Named.{IsNameOf}
use Rattle.prove_out.specs.code.Written.{named_variables, WritesTerm, EachWritten}
use Rattle.prove_out.proofs.EachFacts.{each_length}
use Rattle.prove_out.proofs.Finding.{head_found}
use Rattle.prove_out.proofs.Scopes.{nearest_named}

-- what is written of a term is written of one that is equal to it
pub term_seen : (v : Vocabulary) (depth : ℕ) (s t : Term) (w : STerm) → t ≡ s → WritesTerm v depth s w → WritesTerm v depth t w
term_seen v depth s t w e h = subst (λ (x : Term). WritesTerm v depth x w) (sym e) h

-- ---- variables

pub var_written : (v : Vocabulary) (depth k : ℕ) (name : Text) → depth < 2 ^ 64 → name ≡ variable_name (depth - k - 1) → WritesTerm v depth (Var k) (tm.Var name)
var_written v depth k name few named = record { denotes = of_variable }
  where
    of_variable : IsUnambiguous v → (here : Setting) (sorts : List ℕ) (sort : ℕ) (asked : Option ℕ) → length sorts ≡ depth → sort_of_term v sorts (Var k) ≡ Some sort
        → denoted_term here (named_variables sorts) (tm.Var name) asked v ≡ Ok (record { term = Var k; sort = sort }, v)
    of_variable u here sorts sort asked len at =
        let found : slice_get sorts k ≡ Some sort = rw sort_of_term-Var at at in
        let less : length sorts < 2 ^ 64 = omega (arith, few, len) in
        let own : name ≡ variable_name (length sorts - k - 1) = named ∙ ap (λ n. variable_name (n - k - 1)) (sym len) in
        denoted_term-Var here (named_variables sorts) name asked v
        ∙ ap (λ (x : Text). variable_at here.outside (nearest (named_variables sorts) x) v) own
        ∙ ap (λ o. variable_at here.outside o v) (nearest_named sorts k sort less found)

-- ---- arguments

at_drop : (xs : List ℕ) (i x : ℕ) (more : List ℕ) → drop i xs ≡ x ∷ more → (slice_get xs i ≡ Some x) × (drop (i + 1) xs ≡ more)
at_drop [] zero x more e = (absurd (cc), absurd (cc))
at_drop [] (suc i) x more e = (absurd (cc), absurd (cc))
at_drop (y ∷ xs) zero x more e = (let same : y ≡ x = cc in ap Some same, cc)
at_drop (y ∷ xs) (suc i) x more e = let rest = at_drop xs i x more e in (rest.0, rw add-one (rw add-one at rest.1))

is_own : (s : ℕ) → is_sort (Some s) s ≡ true
is_own s = grind (arith, nat_tests)

module _ (v : Vocabulary) (depth : ℕ) (here : Setting) (sorts : List ℕ) (f : ℕ) (symbol : Symbol) (u : IsUnambiguous v) (len : length sorts ≡ depth) (at : slice_get v.symbols f ≡ Some symbol) where
  one_argument : (t : Term) (w : STerm) (place s : ℕ) → WritesTerm v depth t w → slice_get symbol.args place ≡ Some s → sort_of_term v sorts t ≡ Some s
      → argument f place (denoted_term here (named_variables sorts) w) v ≡ Ok (t, v)
  one_argument t w place s written wanted sort =
      let asked = argument_sort v f place in
      let asks : asked ≡ Some s = ap (λ o. argument_at o place) at ∙ wanted in
      let answer : Bool → Outcome SortRule Vocabulary Term = λ b. cond b (Ok (t, v)) (Err WrongSort) in
      let fits : is_sort asked s ≡ true = ap (λ o. is_sort o s) asks ∙ is_own s in
      ap (λ (o : TermOutcome). and_then o (fitting f place)) (written.denotes u here sorts s asked len sort)
      ∙ ap answer fits

  pub arguments_written : (ts : List Term) (ws : List STerm) (place : ℕ) → EachWritten (WritesTerm v depth) ts ws → are_sorts (map (sort_of_term v sorts) ts) (drop place symbol.args) ≡ true
      → each (λ p w. argument f p (denoted_term here (named_variables sorts) w)) place ws v ≡ Ok (ts, v)
  arguments_written [] [] place e fits = refl
  arguments_written [] (w ∷ ws) place e fits = absurd e
  arguments_written (t ∷ ts) [] place e fits = absurd e
  arguments_written (t ∷ ts) (w ∷ ws) place e fits = by (λ next. arguments_written ts ws (place + 1) e.1 next) (drop place symbol.args) refl fits
    where
      rest : ℕ → Vocabulary → Outcome SortRule Vocabulary (List Term)
      rest place' x = each (λ p y. argument f p (denoted_term here (named_variables sorts) y)) place' ws x

      by : (are_sorts (map (sort_of_term v sorts) ts) (drop (place + 1) symbol.args) ≡ true → rest (place + 1) v ≡ Ok (ts, v)) → (wanted : List ℕ) → drop place symbol.args ≡ wanted → are_sorts (sort_of_term v sorts t ∷ map (sort_of_term v sorts) ts) wanted ≡ true
          → and_then (argument f place (denoted_term here (named_variables sorts) w) v) (λ y x. mapped (λ ys. y ∷ ys) (rest (place + 1) x)) ≡ Ok (t ∷ ts, v)
      by later [] is fit = absurd (cc)
      by later (s ∷ more) is fit =
          let parts = both (is_sort (sort_of_term v sorts t) s) (are_sorts (map (sort_of_term v sorts) ts) more) fit in
          let there = at_drop symbol.args place s more is in
          let next : are_sorts (map (sort_of_term v sorts) ts) (drop (place + 1) symbol.args) ≡ true = ap (are_sorts (map (sort_of_term v sorts) ts)) there.1 ∙ parts.1 in
          ap (λ (o : Outcome SortRule Vocabulary Term). and_then o (λ y x. mapped (λ ys. y ∷ ys) (rest (place + 1) x))) (one_argument t w place s e.0 there.0 (wanted_sort (sort_of_term v sorts t) s parts.0))
          ∙ ap (mapped (λ ys. t ∷ ys)) (later next)

-- as many sorts as there are answers
pub fitting_length : (found : List (Option ℕ)) (wanted : List ℕ) → are_sorts found wanted ≡ true → length found ≡ length wanted
fitting_length [] [] e = refl
fitting_length [] (s ∷ wanted) e = absurd (cc)
fitting_length (r ∷ found) [] e = absurd (cc)
fitting_length (r ∷ found) (s ∷ wanted) e = ap suc (fitting_length found wanted (both (is_sort r s) (are_sorts found wanted) e).1)

length_map : {X Y : Type 0} (f : X → Y) (xs : List X) → length (map f xs) ≡ length xs
length_map f [] = refl
length_map f (x ∷ xs) = ap suc (length_map f xs)

-- what is written has as many arguments as the symbol
pub arity_written : (v : Vocabulary) (depth : ℕ) (sorts : List ℕ) (ts : List Term) (ws : List STerm) (wanted : List ℕ) → EachWritten (WritesTerm v depth) ts ws → are_sorts (map (sort_of_term v sorts) ts) wanted ≡ true → length ws ≡ length wanted
arity_written v depth sorts ts ws wanted e fits = each_length (WritesTerm v depth) ts ws e ∙ (sym (length_map (sort_of_term v sorts) ts) ∙ fitting_length (map (sort_of_term v sorts) ts) wanted fits)

-- ---- applications

is_made : (kind : Kind) (fits : Bool) (result sort : ℕ) → made_by kind fits result ≡ Some sort → (kind ≡ Function) × (fits ≡ true) × (result ≡ sort)
is_made Function true result sort e = (refl, refl, cc)
is_made Function false result sort e = absurd (cc)
is_made Predicate fits result sort e = absurd (cc)

pub app_written : (v : Vocabulary) (depth f : ℕ) (ts : List Term) (name : Text) (ws : List STerm) → IsNameOf (slice_get v.symbols f) name → EachWritten (WritesTerm v depth) ts ws → WritesTerm v depth (App f ts) (tm.App name ws)
app_written v depth f ts name ws named e = record { denotes = of_application }
  where
    of_symbol : IsUnambiguous v → (here : Setting) (sorts : List ℕ) (sort : ℕ) (asked : Option ℕ) → length sorts ≡ depth → (o : Option Symbol) → slice_get v.symbols f ≡ o → IsNameOf o name
        → applied o (map (sort_of_term v sorts) ts) ≡ Some sort → denoted_term here (named_variables sorts) (tm.App name ws) asked v ≡ Ok (record { term = App f ts; sort = sort }, v)
    of_symbol u here sorts sort asked len None at is k = absurd (cc)
    of_symbol u here sorts sort asked len (Some symbol) at is k =
        let scope = named_variables sorts in
        let made = is_made symbol.kind (are_sorts (map (sort_of_term v sorts) ts) symbol.args) symbol.result sort k in
        let arity = arity_written v depth sorts ts ws symbol.args e made.1 in
        let found = head_found v u here.declared name Function (length ws) (new_function here scope v name ws asked) f symbol at is (sym made.0) arity in
        let args = arguments_written v depth here sorts f symbol u len at ts ws 0 e made.1 in
        let result : sort ≡ result_sort v f = sym (ap result_at at ∙ made.2) in
        app_ok here scope (tm.App name ws) name name ws ws ws asked v v f refl refl refl refl found ts v sort result args

    of_application : IsUnambiguous v → (here : Setting) (sorts : List ℕ) (sort : ℕ) (asked : Option ℕ) → length sorts ≡ depth → sort_of_term v sorts (App f ts) ≡ Some sort
        → denoted_term here (named_variables sorts) (tm.App name ws) asked v ≡ Ok (record { term = App f ts; sort = sort }, v)
    of_application u here sorts sort asked len at = of_symbol u here sorts sort asked len (slice_get v.symbols f) refl named (rw sort_of_term-App at at)
