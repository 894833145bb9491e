-- What comes of a whole where it is known what comes of its parts.
use Rattle.std.proofs.Common.{◌≡◌, ℕ, ◌+◌, ◌==◌, ◌++◌, List, [], ◌∷◌, length, Option, Ok, Err, if◌then◌else◌, ◌≤◌, sym, ◌∙◌, ap, arith}
use Rattle.tptp_base.specs.declared.limit.LimitName.{LimitName}
use Rattle.tptp_base.specs.declared.limit.LimitName.TheVariants.{Symbols}
use Rattle.tptp_base.specs.declared.surface.STerm.{STerm}
use Rattle.tptp_base.specs.declared.surface.STerm.TheVariants as tm
use Rattle.tptp_base.specs.declared.surface.Surface.{Surface}
use Rattle.tptp_base.specs.declared.surface.Surface.TheVariants as fm
use Rattle.fof_terms.specs.Vocabulary.{Vocabulary}
use Rattle.fof_terms.specs.declared.signature.Symbol.{Symbol}
use Rattle.fof_terms.specs.declared.signature.Kind.TheVariants.{Function, Predicate}
use Rattle.fof_terms.specs.declared.term.Term.{Term, App}
use Rattle.fof_terms.specs.declared.form.Form.{Form, Atom, And, Or}
use Rattle.sort_check.specs.declared.fault.SortRule.{SortRule}
use Rattle.sort_check.specs.declared.fault.SortRule.TheVariants.{Limit}
use Rattle.sort_check.specs.declared.fault.Stop.{Stop}
use Rattle.sort_check.specs.declared.fault.Stop.TheVariants as stop
use Rattle.sort_check.specs.declared.scope.Variable.{Variable}
use Rattle.sort_check.specs.Outcomes.{Outcome, and_then, mapped, each}
use Rattle.sort_check.specs.code.Outcomes.{Stops}
use Rattle.sort_check.specs.code.Reach.{Reach}
use Rattle.sort_check.specs.Symbols.{Text, head, with_symbol, result_sort}
use Rattle.sort_check.specs.Denotation.{Setting, State, TermOutcome, argument, denoted_term, made, beside, atom, denoted_form}
use Rattle.sort_check.specs.code.Denotation.{setting}
use Rattle.sort_check.proofs.Equations.{new_function, new_predicate, denoted_term-App, denoted_form-And, denoted_form-Or}

pub full : (s : Symbol) (v : Vocabulary) (limit : LimitName) → limit ≡ Symbols → length v.symbols ≡ 16777216 → with_symbol s v ≡ Err (Limit limit)
full s v limit l e =
    let by : ℕ → Outcome SortRule Vocabulary ℕ = λ n. if n == 16777216 then Err (Limit Symbols) else Ok (length v.symbols, record v { symbols = v.symbols ++ s ∷ [] }) in
    let refuse : LimitName → Outcome SortRule Vocabulary ℕ = λ x. Err (Limit x) in
    ap by e ∙ ap refuse (sym l)

-- a fault stays a fault where it is that of a part
pub stops_as : {S T A B : Type 0} (o : Outcome SortRule S A) (whole : Outcome SortRule T B) → ((r : SortRule) → o ≡ Err r → whole ≡ Err r) → (e : Stop) → Stops o e → Stops whole e
stops_as o whole h (stop.Rule r) k = h r k
stops_as o whole h stop.Memory k = tt

abbrev pub arguments : Setting → List Variable → ℕ → List STerm → Vocabulary → Outcome SortRule Vocabulary (List Term)
arguments here scope g ts w = each (λ place t. argument g place (denoted_term here scope t)) 0 ts w

module _ (here : Setting) (scope : List Variable) (t : STerm) (f name : Text) (ts heads seen : List STerm) (asked : Option ℕ) (v w : Vocabulary) (g : ℕ) (is : t ≡ tm.App f ts) (name_is : name ≡ f) (heads_is : heads ≡ ts) (seen_is : seen ≡ ts)
    (found : head here.declared name Function (length heads) (new_function here scope v name heads asked) v ≡ Ok (g, w)) where
  app_is : denoted_term here scope t asked v ≡ mapped (made g (result_sort w g)) (arguments here scope g seen w)
  app_is =
      let after : Outcome SortRule Vocabulary ℕ → TermOutcome = λ o. and_then o (λ h u. mapped (made h (result_sort u h)) (arguments here scope h ts u)) in
      let at : Text → List STerm → TermOutcome = λ x xs. after (head here.declared x Function (length xs) (new_function here scope v x xs asked) v) in
      ap (λ (x : STerm). denoted_term here scope x asked v) is
      ∙ denoted_term-App here scope f ts asked v
      ∙ ap (λ (x : Text). at x ts) (sym name_is)
      ∙ ap (λ (xs : List STerm). at name xs) (sym heads_is)
      ∙ ap after found
      ∙ ap (λ (xs : List STerm). mapped (made g (result_sort w g)) (arguments here scope g xs w)) (sym seen_is)

  pub app_ok : (args : List Term) (u : Vocabulary) (sort : ℕ) → sort ≡ result_sort w g → arguments here scope g seen w ≡ Ok (args, u) → denoted_term here scope t asked v ≡ Ok (record { term = App g args; sort = sort }, u)
  app_ok args u sort sort_is e =
      let result : ℕ → TermOutcome = λ s. Ok (record { term = App g args; sort = s }, u) in
      app_is ∙ ap (mapped (made g (result_sort w g))) e ∙ ap result (sym sort_is)

  pub app_fails : (e : Stop) → Stops (arguments here scope g seen w) e → Stops (denoted_term here scope t asked v) e
  app_fails = stops_as (arguments here scope g seen w) (denoted_term here scope t asked v) (λ r k. app_is ∙ ap (mapped (made g (result_sort w g))) k)

module _ (here : Setting) (scope : List Variable) (p : Text) (ts : List STerm) (v w : Vocabulary) (g bound : ℕ) (found : head here.declared p Predicate (length ts) (new_predicate here scope v p ts) v ≡ Ok (g, w)) where
  atom_is : beside bound (atom here scope p ts v) ≡ beside bound (mapped (Atom g) (arguments here scope g ts w))
  atom_is =
      let after : Outcome SortRule Vocabulary ℕ → Outcome SortRule State Form = λ o. beside bound (and_then o (λ h u. mapped (Atom h) (arguments here scope h ts u))) in
      ap after found

  pub atom_ok : (args : List Term) (u : Vocabulary) → arguments here scope g ts w ≡ Ok (args, u) → beside bound (atom here scope p ts v) ≡ Ok (Atom g args, record { vocabulary = u; bound = bound })
  atom_ok args u e = atom_is ∙ ap (λ (o : Outcome SortRule Vocabulary (List Term)). beside bound (mapped (Atom g) o)) e

  pub atom_fails : (e : Stop) → Stops (arguments here scope g ts w) e → Stops (beside bound (atom here scope p ts v)) e
  atom_fails = stops_as (arguments here scope g ts w) (beside bound (atom here scope p ts v)) (λ r k. atom_is ∙ ap (λ (o : Outcome SortRule Vocabulary (List Term)). beside bound (mapped (Atom g) o)) k)

-- a formula in a scope in which only the count differs
pub same_scope : (declared : List Text) (old now : Reach) (a : Surface) (s : State) → now ≡ record old { bound = now.bound } → denoted_form (setting declared now) a now.variables s ≡ denoted_form (setting declared old) a old.variables s
same_scope declared old now a s kept = ap (λ (r : Reach). denoted_form (setting declared r) a r.variables s) kept

abbrev pub members : Setting → List Variable → List Surface → State → Outcome SortRule State (List Form)
members here scope as_ s = each (λ place a. denoted_form here a scope) 0 as_ s

module _ (here : Setting) (scope : List Variable) (s : State) (a : Surface) (as_ seen : List Surface) (seen_is : seen ≡ as_) where
  pub and_is : a ≡ fm.And as_ → denoted_form here a scope s ≡ mapped And (members here scope seen s)
  and_is is =
      ap (λ (x : Surface). denoted_form here x scope s) is ∙ denoted_form-And here scope s as_ ∙ ap (λ (xs : List Surface). mapped And (members here scope xs s)) (sym seen_is)

  pub or_is : a ≡ fm.Or as_ → denoted_form here a scope s ≡ mapped Or (members here scope seen s)
  or_is is =
      ap (λ (x : Surface). denoted_form here x scope s) is ∙ denoted_form-Or here scope s as_ ∙ ap (λ (xs : List Surface). mapped Or (members here scope xs s)) (sym seen_is)

pub open_room : (old new : Reach) (vs : List Variable) → length old.variables ≤ old.bound + 250 → new ≡ record old { bound = new.bound } → new.bound ≡ old.bound + length vs → length new.variables + length vs ≤ new.bound + 250
open_room old new vs few kept count = omega (arith, few, count, ap (λ (r : Reach). length r.variables) kept)
