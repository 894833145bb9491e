use Rattle.derive_kit.proofs.Built.{ok_map}
use Rattle.norm_proofs.proofs.RoutesFacts.{roomy_start, start_shows}
use Rattle.norm_proofs.proofs.paths.path_proof.Goals as goal

pub along-requires-clause-room : goal.along-requires-clause-room
along-requires-clause-room c = roomy_start c.args.norm.now c.requires.size c.requires.sorted

pub returns : goal.returns
returns c = ok_map c.along.result (λ made l. start_shows c.args.path.now c.args.norm.now made c.requires.size l) c.along.ensures
