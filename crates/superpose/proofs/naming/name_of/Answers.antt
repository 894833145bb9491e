use Rattle.std.proofs.Common.{List, ℕ, get_or, subst}
use Rattle.std.proofs.lemmas.Option.{slice_get-get_or}
use Rattle.clause_rules.proofs.Firsts.{ok_map}
use Rattle.superpose.specs.code.Named.{HasSortAt, IsMissing}
use Rattle.superpose.proofs.NamedFacts.{named_like, named_new}
use Rattle.superpose.proofs.naming.name_of.Goals as goal

pub returns : goal.returns
returns c =
    named_new c.args.scope.now c.args.kept.now c.push.new.self c.args.at c.in_ok-place.place c.len.result c.requires.at c.requires.within c.in_ok-push.ensures.ok c.len.ensures c.in_ok-place.ensures

pub returns-in-Some-place_of_sort : goal.returns-in-Some-place_of_sort
returns-in-Some-place_of_sort c =
    ok_map c.number-in-Some-place_of_sort.result
    (λ name is. named_like c.args.scope.now c.args.kept.now c.args.at c.in-Some-place_of_sort.place name (get_or c.args.scope.now c.args.at 0) c.requires.within
    (subst (λ (xs : List ℕ). IsMissing xs c.args.at) c.as_slice.ensures c.in_default.ensures)
    (slice_get-get_or c.args.scope.now c.args.at 0 c.requires.at)
    (subst (λ (xs : List ℕ). HasSortAt c.args.scope.now xs (get_or c.args.scope.now c.args.at 0) c.in-Some-place_of_sort.place) c.as_slice-2.ensures c.in-Some-place_of_sort.ensures) is)
    c.number-in-Some-place_of_sort.ensures
