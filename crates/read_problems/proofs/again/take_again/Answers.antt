use Rattle.std.proofs.Common.{◌≡◌, IfSome, sym, ◌∙◌, ap, subst}
use Rattle.sort_check.specs.Turns.{TakenAgain, AreDenoted}
use Rattle.read_problems.proofs.Takers.{taken_whole}
use Rattle.read_problems.proofs.again.take_again.Goals as goal

pub finish-requires : goal.finish-requires
finish-requires c =
    let (items, spelled, is) = c.in_ok-parse_into.ensures.taken in
    let same = taken_whole c.args.tokens.now c.args.none c.parse_into.new.into.items items c.requires.none c.requires.parsed spelled is in
    ap (λ (t : TakenAgain). t.items) same ∙ sym (ap (λ (t : TakenAgain). t.whole) same)

pub returns-clause-denoted : goal.returns-clause-denoted
returns-clause-denoted c =
    let (items, spelled, is) = c.in_ok-parse_into.ensures.taken in
    let same = taken_whole c.args.tokens.now c.args.none c.parse_into.new.into.items items c.requires.none c.requires.parsed spelled is in
    subst (λ (t : TakenAgain). IfSome c.finish.result (λ found. AreDenoted (record { items = t.items; keeps = t.keeps }) found)) same c.finish.ensures
