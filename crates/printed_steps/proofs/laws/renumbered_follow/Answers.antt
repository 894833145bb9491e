use Rattle.printed_steps.proofs.Renumbering.{cover_renumbered, eqfactor_renumbered, paramodulation_renumbered, resolution_renumbered}
use Rattle.printed_steps.proofs.laws.renumbered_follow.Goals as goal

pub returns-clause-resolution : goal.returns-clause-resolution
returns-clause-resolution c = λ v w number a b e ha hb he by. resolution_renumbered v w number a b e ha hb he by

pub returns-clause-paramodulation : goal.returns-clause-paramodulation
returns-clause-paramodulation c = λ v w number a b e ha hb he by. paramodulation_renumbered v w number a b e ha hb he by

pub returns-clause-eqfactor : goal.returns-clause-eqfactor
returns-clause-eqfactor c = λ v w number a e ha he by. eqfactor_renumbered v w number a e ha he by

pub returns-clause-cover : goal.returns-clause-cover
returns-clause-cover c = λ v w number a e ha he by. cover_renumbered v w number a e ha he by
