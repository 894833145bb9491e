use Rattle.std.proofs.Common.{None, sym, subst, ℕ, length}
use Rattle.split_defs.specs.SplitRule.{AllName}
use Rattle.split_defs.specs.code.SplitSearch.{IsCoveredAmong}
use Rattle.clause_form.specs.Paths.{forms_of}
use Rattle.split_defs.proofs.NamedParents.{all_ready, as_many, named_fit}
use Rattle.split_defs.proofs.SplitEnds.{no_split_unnamed, no_split}
use Rattle.split_defs.proofs.split.split_clause.Goals as goal

pub returns-then-is_empty : goal.returns-then-is_empty
returns-then-is_empty c =
    no_split_unnamed c.args.sig.now (forms_of c.args.parents.now) c.args.line c.in_ok-named.named.numbers c.in_ok-named.named.clauses
    (subst (λ (n : ℕ). AllName (forms_of c.args.parents.now) c.args.line n c.in_ok-named.named.numbers c.in_ok-named.named.clauses) (sym (as_many c.args.parents.now)) c.in_ok-named.ensures)
    (c.is_empty.ensures.0 c.if-is_empty.true)

pub unfolded-requires : goal.unfolded-requires
unfolded-requires c =
    (c.requires.line, named_fit c.args.sig.now (forms_of c.args.parents.now) c.args.line (all_ready c.args.sig.now c.args.parents.now c.requires.ready) (length c.args.parents.now) c.in_ok-named.named.numbers c.in_ok-named.named.clauses c.in_ok-named.ensures)

pub returns-in-None : goal.returns-in-None
returns-in-None c =
    let none : IsCoveredAmong c.args.sig.now (forms_of c.args.parents.now) c.in_ok-whole.whole None = rw c.in-None.is at c.in_ok-parent.ensures in
    no_split c.args.sig.now (forms_of c.args.parents.now) c.args.line c.in_ok-named.named.numbers c.in_ok-named.named.clauses
    (subst (λ (n : ℕ). AllName (forms_of c.args.parents.now) c.args.line n c.in_ok-named.named.numbers c.in_ok-named.named.clauses) (sym (as_many c.args.parents.now)) c.in_ok-named.ensures)
    c.in_ok-whole.whole c.in_ok-whole.ensures.0 none
