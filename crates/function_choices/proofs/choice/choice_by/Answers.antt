use Rattle.std.proofs.Common.{[]}
use Rattle.skolem_fresh.proofs.Chosen.{vocabulary_within}
use Rattle.skolem_fresh.proofs.SkolemSteps.{norm_within, has_norm}
use Rattle.function_choices.proofs.choice.choice_by.Goals as goal

pub choose_whole-requires : goal.choose_whole-requires
choose_whole-requires c =
    vocabulary_within c.args.theory.now.vocabulary c.signature-sig.result.now [] c.get.result.now c.signature-sig.ensures (norm_within c.args.theory.now.vocabulary c.args.parent.now c.get.result.now c.requires (has_norm _ c.args.parent.now c.in-Some.norm c.get.result.now c.in_ok-norm.field-0 c.in-Some.is c.get.ensures c.in_ok-norm.ensures))
