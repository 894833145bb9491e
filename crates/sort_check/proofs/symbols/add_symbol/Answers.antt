use Rattle.std.proofs.Common.{◌≡◌, Err}
use Rattle.fof_terms.specs.declared.signature.SigFault.TheVariants.{Limit}
use Rattle.sort_check.proofs.Keeping.{keeps_with_symbol}
use Rattle.sort_check.proofs.Parts.{full}
use Rattle.sort_check.proofs.symbols.add_symbol.Goals as goal

pub returns-in-Err-Limit-clause-value : goal.returns-in-Err-Limit-clause-value
returns-in-Err-Limit-clause-value c =
    let is : c.add.result ≡ Err (Limit c.in-Err-Limit.limit) = cc in
    let h = (c.add.ensures.limit c.in-Err-Limit.limit).0 is in
    full c.args.symbol c.args.signature.now c.in-Err-Limit.limit h.0 h.1

pub returns-in-Ok-clause-keeps : goal.returns-in-Ok-clause-keeps
returns-in-Ok-clause-keeps c = keeps_with_symbol c.args.signature.now c.add.new.self c.args.symbol c.requires c.in-Ok.ensures.added
