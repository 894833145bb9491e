use Rattle.sort_check.proofs.NameLists.{added}
use Rattle.sort_check.proofs.names.Names.add.Goals as goal

pub returns : goal.returns
returns c = added (λ k. k.items) c.args.name.now c.self.inside.known.keys c.insert.new.self.keys c.in_ok-name.name _ c.in_ok-insert.ensures.keys c.in_ok-name.ensures.items c.self.view_is
