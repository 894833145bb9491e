use Rattle.std.proofs.Common.{rules, sym, ap, ◌∙◌, ◌∷◌}
use Rattle.fof_terms.specs.declared.form.Form.{All}
use Rattle.fof_terms.specs.declared.form.Form.TheViews.{the_lemmas}
use Rattle.skolem_fresh.proofs.Chosen.{line_kinds}
use Rattle.skolem_fresh.proofs.Opened.{on_ok}
use Rattle.skolem_fresh.proofs.WholeLines.{inner, shown_all, imp_depths, imp_less, imp_openable_at, shown_imp_at}
use Rattle.skolem_fresh.proofs.telling.+tell.Goals as goal

pub tell-requires : goal.tell-requires
tell-requires t c = (search (rules, the_lemmas), (c.requires.0, c.in-All.sort ∷ c.requires.1, inner c.requires.0 c.requires.1 c.args.line.now c.get.result.now c.in-All.sort c.args.uses.now (c.in-All.is ∙ ap (All c.in-All.sort) (sym c.get.ensures)) c.requires.2))

pub returns-in_ok-part-in-All : goal.returns-in_ok-part-in-All
returns-in_ok-part-in-All t c =
    on_ok c.all_i.result
    (λ made e. shown_all c.args.line.now c.get.result.now c.in-All.sort c.args.uses.now c.args.first c.args.entries.now c.tell.new.entries c.in_ok-part-in-All.part made (c.in-All.is ∙ ap (All c.in-All.sort) (sym c.get.ensures)) e c.in_ok-part-in-All.ensures)
    c.all_i.ensures

pub leading-before-requires : goal.leading-before-requires
leading-before-requires t c = (imp_depths c.args.line.now c.in-Imp.left c.in-Imp.right c.get-left.result.now c.get-right.result.now c.args.uses.now c.in-Imp.is c.get-left.ensures c.get-right.ensures c.requires.0 c.requires.1 c.requires.2).0

pub leading-after-requires : goal.leading-after-requires
leading-after-requires t c = (imp_depths c.args.line.now c.in-Imp.left c.in-Imp.right c.get-left.result.now c.get-right.result.now c.args.uses.now c.in-Imp.is c.get-left.ensures c.get-right.ensures c.requires.0 c.requires.1 c.requires.2).1

pub overflow_sub-before : goal.overflow_sub-before
overflow_sub-before t c = imp_less c.args.line.now c.in-Imp.left c.in-Imp.right c.get-left.result.now c.get-right.result.now c.args.uses.now c.in-Imp.is c.get-left.ensures c.get-right.ensures c.requires.0 c.requires.1 c.requires.2 c.leading-before.result c.leading-after.result c.leading-before.ensures.value c.leading-after.ensures.value

pub lead-requires : goal.lead-requires
lead-requires t c = (c.requires.0.vocabulary, c.requires.1, imp_openable_at c.args.line.now c.in-Imp.left c.in-Imp.right c.get-left.result.now c.get-right.result.now c.args.uses.now c.in-Imp.is c.get-left.ensures c.get-right.ensures c.requires.0 c.requires.1 c.requires.2 c.leading-before.result c.leading-after.result c.leading-before.ensures.value c.leading-after.ensures.value)

pub returns-in_ok-copy-in-Imp : goal.returns-in_ok-copy-in-Imp
returns-in_ok-copy-in-Imp t c =
    on_ok c.imp_i.result
    (λ made e. shown_imp_at c.args.line.now c.in-Imp.left c.in-Imp.right c.get-left.result.now c.get-right.result.now c.args.uses.now c.in-Imp.is c.get-left.ensures c.get-right.ensures c.leading-before.result c.leading-after.result c.leading-before.ensures.value c.leading-after.ensures.value c.args.first c.args.entries.now c.lead.new.entries c.in_ok-own-in-Imp.own c.in_ok-part-in-Imp.part made c.in_ok-copy-in-Imp.field-0 c.in_ok-own-in-Imp.ensures c.in_ok-copy-in-Imp.ensures e c.in_ok-part-in-Imp.ensures)
    c.imp_i.ensures

pub unreachable-requires : goal.unreachable-requires
unreachable-requires t c = let d = c.requires.2 in line_kinds c.args.line.now d.left d.right c.in_default.not-All c.in_default.not-Imp d.sorts d.chooses.is
