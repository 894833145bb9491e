use Rattle.std.proofs.Common.{ap, ◌∙◌, arith, true}
use Rattle.clause_form.specs.Sizes.{norm_size_of}
use Rattle.clause_form.proofs.NormSize.{norm_small}
use Rattle.derive_kit.proofs.Built.{ok_map}
use Rattle.norm_parts.proofs.Gathered.{line_by_each}
use Rattle.norm_parts.proofs.joining.line_of_parts.Goals as goal

pub norm_of_parts-requires : goal.norm_of_parts-requires
norm_of_parts-requires c = omega (arith, ap norm_size_of (c.get.ensures ∙ c.in_ok-norm.ensures ∙ c.in_ok-small_norm.ensures), norm_small c.args.line.now true, c.requires.small)

pub returns : goal.returns
returns c =
    ok_map c.line_of_norm.result (λ made f. line_by_each c.args.line.now c.get.result.now c.args.proofs c.in_ok-whole.whole made (c.get.ensures ∙ c.in_ok-norm.ensures ∙ c.in_ok-small_norm.ensures) c.in_ok-whole.ensures f) c.line_of_norm.ensures
