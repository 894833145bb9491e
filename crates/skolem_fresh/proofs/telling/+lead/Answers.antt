use Rattle.std.proofs.Common.{rules, arith, sym, ap, refl, ◌≡◌, ◌∙◌, ◌-◌, length, take, drop}
use Rattle.fof_terms.specs.declared.form.Form.TheViews.{the_lemmas}
use Rattle.skolem_fresh.specs.Renamed.{renamed}
use Rattle.skolem_fresh.proofs.Opened.{on_ok}
use Rattle.skolem_fresh.proofs.Leading.{opens_some, lead_some, lead_first, lead_room, lead_reaches, lead_unused, lead_value, lead_few, lead_used, led_unused, led_used}
use Rattle.skolem_fresh.proofs.telling.+lead.Goals as goal

pub unreachable-requires : goal.unreachable-requires
unreachable-requires t c = opens_some c.args.count c.args.uses.now c.args.form.now c.args.right.now c.if-count-eq0.false c.requires.2.opened c.in_default.not-Ex

pub has_variable-requires : goal.has_variable-requires
has_variable-requires t c = let room = lead_room c.args.count c.in-Ex.field-0 c.args.form.now c.get-body.result.now c.in-Ex.body c.args.right.now c.args.uses.now c.if-count-eq0.false c.in-Ex.is c.get-body.ensures c.requires.0 c.requires.1 c.requires.2 in omega arith

pub instantiate-requires : goal.instantiate-requires
instantiate-requires t c = lead_reaches c.args.count c.in-Ex.field-0 c.args.form.now c.get-body.result.now c.in-Ex.body c.args.right.now c.args.uses.now c.if-count-eq0.false c.in-Ex.is c.get-body.ensures c.requires.0 c.requires.1 c.requires.2

pub lead-requires : goal.lead-requires
lead-requires t c = (search (rules, the_lemmas), (c.requires.0, c.requires.1, lead_unused c.args.count c.in-Ex.field-0 c.args.form.now c.get-body.result.now c.in-Ex.body c.args.right.now c.args.uses.now c.if-count-eq0.false c.in-Ex.is c.get-body.ensures c.requires.0 c.requires.1 c.requires.2 c.get-then-not-has_variable.result.now (sym c.has_variable.ensures ∙ c.if-not-has_variable.true) (c.get-then-not-has_variable.ensures ∙ c.in_ok-next.ensures ∙ c.in_ok-instantiate.ensures)))

pub returns-then-not-has_variable : goal.returns-then-not-has_variable
returns-then-not-has_variable t c =
    on_ok c.lead.result
    (λ made p. led_unused c.args.count c.in-Ex.field-0 c.args.form.now c.get-body.result.now c.in-Ex.body c.args.right.now c.args.uses.now c.if-count-eq0.false c.in-Ex.is c.get-body.ensures c.args.first c.args.entries.now c.lead.new.entries c.args.part c.in_ok-part.part made c.get-then-not-has_variable.result.now c.in_ok-copy.field-0 c.in_ok-own.own (sym c.has_variable.ensures ∙ c.if-not-has_variable.true) (c.get-then-not-has_variable.ensures ∙ c.in_ok-next.ensures ∙ c.in_ok-instantiate.ensures)
    (c.in_ok-copy.ensures ∙ c.get.ensures ∙ sym c.get-then-not-has_variable.ensures) c.in_ok-own.ensures c.in_ok-part.ensures p)
    c.lead.ensures

pub bounds-uses-0 : goal.bounds-uses-0
bounds-uses-0 t c = lead_some c.args.count c.in-Ex.field-0 c.args.form.now c.get-body.result.now c.in-Ex.body c.args.right.now c.args.uses.now c.if-count-eq0.false c.in-Ex.is c.get-body.ensures c.requires.0 c.requires.1 c.requires.2 (sym c.has_variable.ensures ∙ c.if-not-has_variable.false)

pub rename-requires : goal.rename-requires
rename-requires t c =
    let room = lead_room c.args.count c.in-Ex.field-0 c.args.form.now c.get-body.result.now c.in-Ex.body c.args.right.now c.args.uses.now c.if-count-eq0.false c.in-Ex.is c.get-body.ensures c.requires.0 c.requires.1 c.requires.2 in
    let few = lead_few c.args.count c.in-Ex.field-0 c.args.form.now c.get-body.result.now c.in-Ex.body c.args.right.now c.args.uses.now c.if-count-eq0.false c.in-Ex.is c.get-body.ensures c.requires.0 c.requires.1 c.requires.2 c.index-uses-0.result (take (length c.args.uses.now - 1) (drop 1 c.args.uses.now)) (sym c.has_variable.ensures ∙ c.if-not-has_variable.false) (lead_first c.args.count c.in-Ex.field-0 c.args.form.now c.get-body.result.now c.in-Ex.body c.args.right.now c.args.uses.now c.if-count-eq0.false c.in-Ex.is c.get-body.ensures c.requires.0 c.requires.1 c.requires.2 (sym c.has_variable.ensures ∙ c.if-not-has_variable.false) c.index-uses-0.result c.index-uses-0.is) in
    let same : length c.as_slice.result.now ≡ length c.index-uses-0.result.variables = ap length c.as_slice.ensures in
    omega arith

pub next_of-requires : goal.next_of-requires
next_of-requires t c = lead_value c.args.count c.in-Ex.field-0 c.args.form.now c.get-body.result.now c.in-Ex.body c.args.right.now c.args.uses.now c.if-count-eq0.false c.in-Ex.is c.get-body.ensures c.requires.0 c.requires.1 c.requires.2 c.index-uses-0.result (take (length c.args.uses.now - 1) (drop 1 c.args.uses.now)) (sym c.has_variable.ensures ∙ c.if-not-has_variable.false) (lead_first c.args.count c.in-Ex.field-0 c.args.form.now c.get-body.result.now c.in-Ex.body c.args.right.now c.args.uses.now c.if-count-eq0.false c.in-Ex.is c.get-body.ensures c.requires.0 c.requires.1 c.requires.2 (sym c.has_variable.ensures ∙ c.if-not-has_variable.false) c.index-uses-0.result c.index-uses-0.is)

pub lead-requires-2 : goal.lead-requires-2
lead-requires-2 t c = (search (rules, the_lemmas), (c.requires.0, c.requires.1, lead_used c.args.count c.in-Ex.field-0 c.args.form.now c.get-body.result.now c.in-Ex.body c.args.right.now c.args.uses.now c.if-count-eq0.false c.in-Ex.is c.get-body.ensures c.requires.0 c.requires.1 c.requires.2 c.index-uses-0.result (take (length c.args.uses.now - 1) (drop 1 c.args.uses.now)) (sym c.has_variable.ensures ∙ c.if-not-has_variable.false) (lead_first c.args.count c.in-Ex.field-0 c.args.form.now c.get-body.result.now c.in-Ex.body c.args.right.now c.args.uses.now c.if-count-eq0.false c.in-Ex.is c.get-body.ensures c.requires.0 c.requires.1 c.requires.2 (sym c.has_variable.ensures ∙ c.if-not-has_variable.false) c.index-uses-0.result c.index-uses-0.is) c.get-2.result.now (c.get-2.ensures ∙ c.in_ok-next-2.ensures)))

pub returns : goal.returns
returns t c =
    on_ok c.lead-2.result
    (λ made p. led_used c.args.count c.in-Ex.field-0 c.args.form.now c.get-body.result.now c.in-Ex.body c.args.right.now c.args.uses.now c.if-count-eq0.false c.in-Ex.is c.get-body.ensures c.args.first c.args.entries.now c.lead-2.new.entries c.args.part c.in_ok-part-2.part made c.get-2.result.now c.index-uses-0.result (take (length c.args.uses.now - 1) (drop 1 c.args.uses.now)) c.in_ok-told.told c.push.new.self _ (sym c.has_variable.ensures ∙ c.if-not-has_variable.false) (lead_first c.args.count c.in-Ex.field-0 c.args.form.now c.get-body.result.now c.in-Ex.body c.args.right.now c.args.uses.now c.if-count-eq0.false c.in-Ex.is c.get-body.ensures c.requires.0 c.requires.1 c.requires.2 (sym c.has_variable.ensures ∙ c.if-not-has_variable.false) c.index-uses-0.result c.index-uses-0.is)
    (c.in_ok-told.ensures ∙ ap (λ xs. renamed xs 1 c.get-body.result.now) c.as_slice.ensures) c.in_ok-push.ensures.ok refl (c.get-2.ensures ∙ c.in_ok-next-2.ensures) c.in_ok-part-2.ensures p)
    c.lead-2.ensures
