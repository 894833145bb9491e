use Rattle.std.proofs.Common.{◌∙◌, ap, sym}
use Rattle.std.specs.Prelude.{not}
use Rattle.clause_form.specs.Paths.{is_plain}
use Rattle.clause_form.specs.declared.clause.Lit.{Lit}
use Rattle.search_proofs.proofs.Forms.{one_alone, not_alone}
use Rattle.search_proofs.proofs.formula.has_or.Goals as goal

pub returns-then-lits-eq1 : goal.returns-then-lits-eq1
returns-then-lits-eq1 c =
    ap not (c.is_plain.ensures ∙ ap (λ (y : Lit). is_plain y.atom) (sym c.index-lits-0.is)) ∙ sym (one_alone c.args.lits.now c.index-lits-0.result c.if-lits-eq1.true c.index-lits-0.is)

pub returns : goal.returns
returns c = sym (not_alone c.args.lits.now c.if-lits-eq1.false)
