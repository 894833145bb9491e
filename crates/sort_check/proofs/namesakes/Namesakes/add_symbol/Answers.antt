use Rattle.std.proofs.Common.{subst}
use Rattle.std.proofs.lemmas.Result.{on_ok_weaker}
use Rattle.sort_check.specs.declared.namesakes.Namesake.{Namesake}
use Rattle.sort_check.specs.code.Namesakes.{Puts}
use Rattle.sort_check.proofs.Alike.{knows_at}
use Rattle.sort_check.proofs.namesakes.Namesakes.add_symbol.Goals as goal

pub returns : goal.returns
returns c =
    on_ok_weaker c.put.result (λ puts. knows_at c.args.self.now c.put.new.self c.args.signature.now.symbols c.args.symbol.now c.args.number c.requires.at c.requires.known
    (subst (λ (e : Namesake). Puts c.args.self.now c.args.symbol.now.name e c.put.new.self) c.entry_of-entry.ensures (rw c.as_slice.ensures at puts))) c.put.ensures
