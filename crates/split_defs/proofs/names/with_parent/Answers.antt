use Rattle.std.proofs.Common.{subst, sym}
use Rattle.clause_form.specs.declared.path.Parent.{Parent}
use Rattle.derive_kit.proofs.Built.{ok_map}
use Rattle.clause_rules.proofs.Firsts.{there_at}
use Rattle.split_defs.specs.code.SplitSearch.{IsNamed}
use Rattle.clause_form.specs.Paths.{forms_of}
use Rattle.split_defs.proofs.NamedParents.{form_at, parent_named, parent_unnamed}
use Rattle.split_defs.proofs.names.with_parent.Goals as goal

pub returns-in-Some : goal.returns-in-Some
returns-in-Some c =
    ok_map c.with_clause.result
    (λ more e. parent_named (forms_of c.args.parents.now) c.args.line.now c.args.i c.index-parents-i.result.form
    (form_at c.args.parents.now c.args.i c.index-parents-i.result (there_at c.args.parents.now c.args.i c.index-parents-i.result c.requires.there c.index-parents-i.is)) c.in_ok-found.found c.in-Some.clause c.args.named more c.in-Some.is
    (subst (λ (p : Parent). IsNamed c.args.line.now p.form c.in_ok-found.found) (sym c.index-parents-i.is) c.in_ok-found.ensures) e c.requires.named)
    c.with_clause.ensures

pub returns-in-None : goal.returns-in-None
returns-in-None c =
    parent_unnamed (forms_of c.args.parents.now) c.args.line.now c.args.i c.index-parents-i.result.form
    (form_at c.args.parents.now c.args.i c.index-parents-i.result (there_at c.args.parents.now c.args.i c.index-parents-i.result c.requires.there c.index-parents-i.is)) c.in_ok-found.found c.args.named c.in-None.is
    (subst (λ (p : Parent). IsNamed c.args.line.now p.form c.in_ok-found.found) (sym c.index-parents-i.is) c.in_ok-found.ensures) c.requires.named
