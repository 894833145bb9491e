-- What members have in common as a group.
use Rattle.std.specs.Prelude.{List, map}
use Rattle.fof_terms.specs.declared.form.Form.{Form, And}
use Rattle.clause_form.specs.ClauseView.{closed_by}
use Rattle.flat_form.specs.Flat.{Pulled, sorts_of, bodies_of}
use Rattle.flat_proofs.specs.code.Loose.{closed_of}
use Rattle.flat_proofs.specs.declared.halving.Group.{Group}

-- all quantifiers over the conjunction of the bodies
abbrev pub full : List Pulled → Form
full ps = closed_by (sorts_of ps) (And (bodies_of 0 ps))

-- what is pulled out of the members
abbrev pub group_of : List Pulled → Group
group_of ps = record { sorts = sorts_of ps; bodies = bodies_of 0 ps; closed = map closed_of ps }
