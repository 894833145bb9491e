use Rattle.std.proofs.Common.{subst, sym}
use Rattle.search_proofs.specs.code.Wanting.{MarksInput}
use Rattle.search_proofs.proofs.WantedFacts.{input_marked}
use Rattle.search_proofs.proofs.wanting.mark_input.Goals as goal

pub set-requires : goal.set-requires
set-requires c = c.requires c.in-Input.number c.in-Input.is

pub returns-in-Input-clause-some : goal.returns-in-Input-clause-some
returns-in-Input-clause-some c = λ _. subst (MarksInput c.args.origin.now c.args.marks.now) (sym c.set.ensures) (input_marked c.args.origin.now c.in-Input.number c.args.marks.now c.in-Input.is (c.requires c.in-Input.number c.in-Input.is))
