use Rattle.derive_kit.proofs.Built.{ok_map}
use Rattle.norm_proofs.proofs.PlacedFacts.{placed_start, start_room}
use Rattle.norm_proofs.proofs.norms.norm_forth.Goals as goal

pub whole_step-requires-clause-placed : goal.whole_step-requires-clause-placed
whole_step-requires-clause-placed c = placed_start c.args.form.now c.requires.size c.requires.sorted

pub returns : goal.returns
returns c = ok_map c.whole_step.result (λ made l t v h few s. l t v h (start_room c.args.form.now v c.requires.size few) s) c.whole_step.ensures
