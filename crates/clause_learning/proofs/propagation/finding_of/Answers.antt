use Rattle.std.proofs.Common.{List, option_copied, sym, ap, subst, ◌∙◌}
use Rattle.clause_learning.specs.declared.literal.Literal.{Literal}
use Rattle.clause_learning.specs.code.Trails.{clauses_of}
use Rattle.clause_learning.specs.code.States.{IsFound}
use Rattle.clause_learning.proofs.Members.{none_past}
use Rattle.clause_learning.proofs.propagation.finding_of.Goals as goal

pub unreachable-requires : goal.unreachable-requires
unreachable-requires c = none_past (clauses_of c.args.clauses.now) c.args.number (sym c.get.ensures ∙ ap option_copied c.in-None.is) c.requires

pub returns : goal.returns
returns c =
    (c.in-Some.clause.now, sym c.get.ensures ∙ ap option_copied c.in-Some.is, subst (λ (q : List Literal). IsFound c.args.trail.now.values q c.examine.result) c.as_slice.ensures c.examine.ensures)
