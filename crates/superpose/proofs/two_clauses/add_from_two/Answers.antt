use Rattle.std.specs.Prelude.{ℕ}
use Rattle.std.proofs.Common.{subst, List}
use Rattle.std.proofs.lemmas.Result.{on_ok_weaker}
use Rattle.clause_rules.specs.Steps.{scope_of_both}
use Rattle.superpose.specs.declared.used.Side.{Side}
use Rattle.superpose.specs.declared.used.Spot.{Spot}
use Rattle.superpose.specs.Made.{Adds}
use Rattle.superpose.specs.code.Listed.{ResolvesAmong, SuperposesAmong}
use Rattle.superpose.proofs.Gathered.{all_from_two}
use Rattle.superpose.proofs.two_clauses.add_from_two.Goals as goal

pub returns : goal.returns
returns c =
    let v = c.args.sig.now in
    let scope = scope_of_both c.args.c.now c.args.d.now in
    let one = c.args.used_of_c.now in
    let other = c.args.used_of_d.now in
    let mid = c.add_resolved.new.made in
    let new = c.add_superposed.new.made in
    let resolved : Adds v scope (ResolvesAmong c.args.c.now c.args.d.now one.lits other.lits) c.args.made.now mid =
    subst (λ (numbers : List ℕ). Adds v scope (ResolvesAmong c.args.c.now c.args.d.now numbers other.lits) c.args.made.now mid) c.as_slice.ensures
    (subst (λ (numbers : List ℕ). Adds v scope (ResolvesAmong c.args.c.now c.args.d.now c.as_slice.result.now numbers) c.args.made.now mid) c.as_slice-2.ensures
    c.in_ok-add_resolved.ensures) in
    on_ok_weaker c.add_superposed.result (λ h.
    all_from_two v c.args.c.now c.args.d.now one other c.args.made.now mid new c.requires.used_of_c c.requires.used_of_d resolved
    (subst (λ (sides : List Side). Adds v scope (SuperposesAmong c.args.c.now c.args.d.now sides other.spots) mid new) c.as_slice-3.ensures
    (subst (λ (spots : List Spot). Adds v scope (SuperposesAmong c.args.c.now c.args.d.now c.as_slice-3.result.now spots) mid new) c.as_slice-4.ensures h)))
    c.add_superposed.ensures
