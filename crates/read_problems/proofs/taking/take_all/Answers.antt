use Rattle.std.proofs.Common.{Ok, List, sym, subst}
use Rattle.tptp_base.specs.declared.item.Item.{Item}
use Rattle.tptp_grammar.specs.Texts.{IsParsed}
use Rattle.read_problems.proofs.Takers.{turn_items, turn_keeps}
use Rattle.read_problems.proofs.taking.take_all.Goals as goal

pub returns-in-Ok-clause-parsed : goal.returns-in-Ok-clause-parsed
returns-in-Ok-clause-parsed c =
    let (items, spelled, is) = c.in-Ok.ensures.taken in
    subst (λ (list : List Item). IsParsed c.args.tokens.now (Ok list)) (sym (turn_items c.args.none.items c.parse_into.new.into.items items c.requires is)) spelled

pub returns-in-Ok-clause-keeps : goal.returns-in-Ok-clause-keeps
returns-in-Ok-clause-keeps c =
    let (items, spelled, is) = c.in-Ok.ensures.taken in
    turn_keeps c.args.none.items c.parse_into.new.into.items items c.requires is
