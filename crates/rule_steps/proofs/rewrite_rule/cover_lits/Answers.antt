use Rattle.std.proofs.Common.{ap, ◌∙◌, arith}
use Rattle.clause_form.specs.Covers.{scope_of}
use Rattle.clause_rules.specs.Steps.{scope_of_both}
use Rattle.clause_form.specs.Covers.{lit_apart}
use Rattle.std.proofs.Common.{map}
use Rattle.clause_rules.proofs.Firsts.{ok_map}
use Rattle.substitution_search.proofs.Narrowing.{covers_as}
use Rattle.rule_steps.proofs.RewriteCode.{reaches_over, sorts_joined, over_sorted, over_settled}
use Rattle.rule_steps.proofs.rewrite_rule.cover_lits.Goals as goal

pub apart-requires : goal.apart-requires
apart-requires c =
    let few = c.requires.line.few in
    let size = c.len-rigid.ensures in
    reaches_over c.args.search.now.sig.now c.args.into.now c.args.by.now c.args.lits.now c.len-rigid.result c.requires.into c.requires.by (omega arith) c.requires.lits

pub settle_covers-requires-clause-sorted : goal.settle_covers-requires-clause-sorted
settle_covers-requires-clause-sorted c =
    over_sorted c.args.search.now.sig.now c.args.search.now.line.now c.requires.line (scope_of_both c.args.into.now c.args.by.now) c.args.lits.now c.in_ok-moved.moved c.requires.lits (c.in_ok-moved.ensures ∙ ap (λ n. map (lit_apart n) c.args.lits.now) c.len-rigid.ensures)
    (record { sorts = c.append-2.new.self; rigid = c.len-rigid.result })
    (sorts_joined (scope_of c.args.search.now.line.now) (scope_of c.args.into.now) (scope_of c.args.by.now) c.in_ok-sorts.sorts c.in_ok-scope_of_clause.field-0 c.in_ok-scope_of_clause-2.field-0 c.append.new.self c.append-2.new.self c.in_ok-sorts.ensures c.in_ok-scope_of_clause.ensures c.in_ok-scope_of_clause-2.ensures c.in_ok-append.ensures c.in_ok-append-2.ensures)
    c.len-rigid.ensures _ (covers_as c.args.search.now.line.now.lits c.in_ok-moved.moved c.as_slice-2.result.now c.as_slice.result.now c.as_slice-2.ensures c.as_slice.ensures)

pub returns : goal.returns
returns c =
    ok_map c.settle_covers.result
    (over_settled c.args.search.now.sig.now c.args.search.now.line.now c.requires.line (scope_of_both c.args.into.now c.args.by.now) c.args.lits.now c.in_ok-moved.moved c.requires.lits (c.in_ok-moved.ensures ∙ ap (λ n. map (lit_apart n) c.args.lits.now) c.len-rigid.ensures)
    (record { sorts = c.append-2.new.self; rigid = c.len-rigid.result })
    (sorts_joined (scope_of c.args.search.now.line.now) (scope_of c.args.into.now) (scope_of c.args.by.now) c.in_ok-sorts.sorts c.in_ok-scope_of_clause.field-0 c.in_ok-scope_of_clause-2.field-0 c.append.new.self c.append-2.new.self c.in_ok-sorts.ensures c.in_ok-scope_of_clause.ensures c.in_ok-scope_of_clause-2.ensures c.in_ok-append.ensures c.in_ok-append-2.ensures)
    c.len-rigid.ensures _ (covers_as c.args.search.now.line.now.lits c.in_ok-moved.moved c.as_slice-2.result.now c.as_slice.result.now c.as_slice-2.ensures c.as_slice.ensures)) c.settle_covers.ensures
