use Rattle.std.proofs.Common.{ℕ, List, map, ap, subst, ◌∙◌}
use Rattle.fi_model.specs.Interpretations.{size}
use Rattle.fi_model.specs.code.Adding.{Adds, told, listed}
use Rattle.fi_model.proofs.FillFacts.{table_fits}
use Rattle.fi_model.proofs.tables.table_of.Goals as goal

pub invariant_of-result : goal.invariant_of-result
invariant_of-result c =
    let parts = table_fits (told c.args.index.now) c.args.domains.now c.args.symbol.now.args c.in_ok-sizes.sizes c.push.new.self.items c.new-values.result c.fill.new.values c.in_ok-full.full
    (c.in_ok-sizes.ensures ∙ ap (λ (sorts : List ℕ). map (size c.args.domains.now) sorts) c.as_slice.ensures)
    c.new-values.ensures
    (subst (λ (ns : List ℕ). Adds (listed (told c.args.index.now) ns c.push.new.self.items) c.new-values.result c.in_ok-full.full c.fill.new.values) c.as_slice-2.ensures c.in_ok-full.ensures.adds)
    c.if-full.true c.requires.some c.requires.sorts in
    record { full = parts.0; some = parts.1 }
