use Rattle.std.proofs.Common.{◌≡◌, ◌<◌, ◌∙◌, sym, ap, subst, map, length}
use Rattle.std.specs.List.{All}
use Rattle.sort_check.specs.Denotation.{known_sort}
use Rattle.sort_check.specs.Symbols.{place_sort}
use Rattle.sort_check.proofs.TermSorts.{new_symbol_fits}
use Rattle.sort_check.proofs.heads.new_symbol.Goals as goal

pub returns-clause-declared : goal.returns-clause-declared
returns-clause-declared c =
    let v = c.args.signature.now in
    let by_place = c.args.scope.now.by_place in
    let known = map (known_sort c.args.scope.now.variables v) c.args.args.now in
    let fits = new_symbol_fits by_place v c.args.name.now c.args.kind known c.args.asked c.sort_count-sorts.ensures.some in
    let result : c.place_sort.result ≡ place_sort by_place v c.args.asked = c.place_sort.ensures ∙ ap (λ b. place_sort b v c.args.asked) c.by_place.ensures in
    record {
      args = subst (All (λ a. a < length v.sorts)) (sym c.in_ok-args.ensures) fits.args;
      result = subst (λ r. r < length v.sorts) (sym result) fits.result;
    }
