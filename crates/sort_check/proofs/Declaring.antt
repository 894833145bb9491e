-- What the type lines declare, where it is known what comes of their parts.
use Rattle.std.proofs.Common.{◌≡◌, ℕ, ◌==◌, ◌++◌, List, [], ◌∷◌, length, Option, None, Ok, Err, if◌then◌else◌, sym, ◌∙◌, ap}
use Rattle.tptp_base.specs.declared.limit.LimitName.{LimitName}
use Rattle.tptp_base.specs.declared.limit.LimitName.TheVariants.{Sorts}
use Rattle.tptp_base.specs.declared.surface.SortName.{SortName}
use Rattle.tptp_base.specs.declared.item.Shape.{Shape}
use Rattle.tptp_base.specs.declared.item.Shape.TheVariants as shape
use Rattle.fof_terms.specs.Vocabulary.{Vocabulary, found_sort}
use Rattle.fof_terms.specs.declared.signature.Symbol.{Symbol}
use Rattle.sort_check.specs.declared.fault.SortRule.{SortRule}
use Rattle.sort_check.specs.declared.fault.SortRule.TheVariants.{Limit}
use Rattle.sort_check.specs.declared.fault.Stop.{Stop}
use Rattle.sort_check.specs.Outcomes.{Outcome, and_then}
use Rattle.sort_check.specs.code.Outcomes.{Stops}
use Rattle.sort_check.specs.Symbols.{Text, with_name}
use Rattle.sort_check.specs.Texts.{Declared, declared_sort, sort_at, symbol_named, declared_symbol, declaring, typed}
use Rattle.sort_check.proofs.Parts.{stops_as}

pub full_sorts : (word : Text) (v : Vocabulary) (limit : LimitName) → found_sort v word ≡ None → limit ≡ Sorts → length v.sorts ≡ 65536 → declared_sort word v ≡ Err (Limit limit)
full_sorts word v limit none l e =
    let at : Option ℕ → Outcome SortRule Vocabulary ℕ = λ o. sort_at word o v in
    let by : ℕ → Outcome SortRule Vocabulary ℕ = λ n. if n == 65536 then Err (Limit Sorts) else Ok (length v.sorts, record v { sorts = v.sorts ++ word ∷ [] }) in
    let refuse : LimitName → Outcome SortRule Vocabulary ℕ = λ x. Err (Limit x) in
    ap at none ∙ ap by e ∙ ap refuse (sym l)

pub sort_fails : (word : Text) (s : Shape) (v : Vocabulary) (names : List Text) → s ≡ shape.Sort → (seen : Text) → seen ≡ word → (e : Stop) → Stops (declared_sort seen v) e → Stops (typed word s (record { vocabulary = v; names = names })) e
sort_fails word s v names is seen seen_is =
    stops_as (declared_sort seen v) (typed word s (record { vocabulary = v; names = names }))
    (λ r k. ap (λ (x : Shape). typed word x (record { vocabulary = v; names = names })) is ∙ ap (λ (w : Text). declaring names (declared_sort w v)) (sym seen_is) ∙ ap (declaring names) k)

pub symbol_ok : (word : Text) (s : Shape) (args : List SortName) (result : SortName) (v w : Vocabulary) (names new : List Text) (symbol : Symbol) (n : ℕ) → s ≡ shape.Symbol args result → (seen : Text) → seen ≡ word → (args_seen : List SortName) → args_seen ≡ args
    → symbol_named seen args_seen result v ≡ Ok (symbol, v) → declared_symbol symbol v ≡ Ok (n, w) → new ≡ with_name word names → typed word s (record { vocabulary = v; names = names }) ≡ Ok (tt, record { vocabulary = w; names = new })
symbol_ok word s args result v w names new symbol n is seen seen_is args_seen args_is named declared new_is =
    let by : Outcome SortRule Vocabulary Symbol → Outcome SortRule Declared (Unit {0}) = λ o. declaring (with_name word names) (and_then o declared_symbol) in
    ap (λ (x : Shape). typed word x (record { vocabulary = v; names = names })) is
    ∙ ap (λ (x : Text). by (symbol_named x args result v)) (sym seen_is)
    ∙ ap (λ (xs : List SortName). by (symbol_named seen xs result v)) (sym args_is)
    ∙ ap by named
    ∙ ap (declaring (with_name word names)) declared
    ∙ ap (λ (ns : List Text). Ok (tt, record { vocabulary = w; names = ns })) (sym new_is)
