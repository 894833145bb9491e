use Rattle.std.proofs.Common.{ap}
use Rattle.std.proofs.lemmas.Option.{get_or_from_slice_get}
use Rattle.saturation.specs.declared.member.Member.{Member}
use Rattle.search_proofs.proofs.opposing.clause_at.Goals as goal

pub returns : goal.returns
returns c = λ m there. ap (λ (x : Member). x.clause) (get_or_from_slice_get c.args.members.now c.args.at m c.index-members-at.result there)
