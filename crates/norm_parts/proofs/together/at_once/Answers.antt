use Rattle.std.proofs.Common.{arith}
use Rattle.fof_terms.proofs.ScopeFacts.{scope_sorts-Outside}
use Rattle.derive_kit.proofs.Built.{ok_map}
use Rattle.clause_proofs.proofs.ReadyParents.{full}
use Rattle.norm_parts.proofs.TogetherParts.{line_found}
use Rattle.norm_parts.proofs.together.at_once.Goals as goal

pub quantified-requires-clause-form : goal.quantified-requires-clause-form
quantified-requires-clause-form c = rw scope_sorts-Outside (full c.args.signature.now c.args.norm.now c.requires.norm)

pub quantified-requires-clause-room : goal.quantified-requires-clause-room
quantified-requires-clause-room c = rw scope_sorts-Outside (omega (arith, c.requires.norm.few_binders))

pub returns-in-Some-2 : goal.returns-in-Some-2
returns-in-Some-2 c = ok_map c.quantified.result (λ found shows. line_found c.args.signature.now c.args.parents.now c.args.norm.now _ found (scope_sorts-Outside _) shows) c.quantified.ensures
