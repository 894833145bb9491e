use Rattle.clause_form.specs.ClauseView.{view_of}
use Rattle.clause_form.specs.Paths.{plain}
use Rattle.substitution_search.proofs.Unreached.{lit_told}
use Rattle.substitution_search.proofs.reaching.may_reach_leaf.Goals as goal

pub returns-in-Some : goal.returns-in-Some
returns-in-Some c = λ e. lit_told c.args.line.now c.in_ok-found.found (plain (view_of c.args.form.now).lit) c.in-Some.lit c.in-Some.is c.in_ok-found.ensures (c.may_be_covered.ensures e)
