use Rattle.std.proofs.Common.{List, ℕ, sym, subst}
use Rattle.clause_index.specs.declared.entry.Entry.{Entry}
use Rattle.clause_index.specs.Heads.{IsFiled}
use Rattle.clause_index.specs.code.Filing.{Puts}
use Rattle.clause_index.proofs.Filing.{filed_behind}
use Rattle.clause_index.proofs.index.file.Goals as goal

pub returns-in-Ok-clause-filed : goal.returns-in-Ok-clause-filed
returns-in-Ok-clause-filed c =
    subst (λ (es : List Entry). IsFiled c.args.entry.positive es c.put.new.self) (sym c.in_ok-push.ensures.ok)
    (filed_behind c.args.entries.now c.args.entry c.args.heads.now c.put.new.self c.requires.filed
    (subst (λ (n : ℕ). Puts c.args.heads.now c.args.entry.keys.whole n c.put.new.self) c.len-number.ensures
    c.in-Ok.ensures.ok))
