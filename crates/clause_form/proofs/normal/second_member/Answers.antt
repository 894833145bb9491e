use Rattle.clause_form.proofs.NormCases.{joined_two}
use Rattle.clause_form.proofs.normal.second_member.Goals as goal

pub returns : goal.returns
returns c = λ first e. joined_two c.args.kind first c.args.form c.args.flat c.push_members.new.flat _ c.in_ok-push_members.ensures.ok c.join_flat.ensures e
