use Rattle.std.proofs.Common.{List, Bool, length, sym, ap, ◌∙◌}
use Rattle.given_parts.specs.declared.part.Part.{Part}
use Rattle.given_parts.specs.Functions.{functions_from, used_existentials}
use Rattle.refutation_lines.proofs.derivation.functions_in.Goals as goal

pub functions_of-requires : goal.functions_of-requires
functions_of-requires c = ap (λ (bs : List Bool). length bs) c.as_slice-used.ensures ∙ c.requires ∙ sym (ap (λ (ps : List Part). length ps) c.as_slice-parts.ensures)

pub returns : goal.returns
returns c =
    c.in_ok-functions_of.ensures
    ∙ ap (λ (bs : List Bool). functions_from c.args.prefix.now 1 (used_existentials bs c.as_slice-parts.result.now)) c.as_slice-used.ensures
    ∙ ap (λ (ps : List Part). functions_from c.args.prefix.now 1 (used_existentials c.args.plan.now.used ps)) c.as_slice-parts.ensures
