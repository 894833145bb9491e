use Rattle.printed_steps.proofs.Trimming.{cover_trimmed, eqfactor_trimmed, paramodulation_trimmed, resolution_trimmed}
use Rattle.printed_steps.proofs.laws.trimmed_follow.Goals as goal

pub returns-clause-resolution : goal.returns-clause-resolution
returns-clause-resolution c = λ v a b e ha hb he by. resolution_trimmed v a b e ha hb he by

pub returns-clause-paramodulation : goal.returns-clause-paramodulation
returns-clause-paramodulation c = λ v a b e ha hb he by. paramodulation_trimmed v a b e ha hb he by

pub returns-clause-eqfactor : goal.returns-clause-eqfactor
returns-clause-eqfactor c = λ v a e ha he by. eqfactor_trimmed v a e ha he by

pub returns-clause-cover : goal.returns-clause-cover
returns-clause-cover c = λ v a e ha he by. cover_trimmed v a e ha he by
