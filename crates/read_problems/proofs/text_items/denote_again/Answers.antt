use Rattle.std.proofs.Common.{Option, IfSome, subst}
use Rattle.sort_check.specs.Turns.{Taken, AreDenoted}
use Rattle.read_problems.proofs.Told.{Found, text_told, text_refused}
use Rattle.read_problems.proofs.text_items.denote_again.Goals as goal

pub returns-in-Ok-Some-clause-is : goal.returns-in-Ok-Some-clause-is
returns-in-Ok-Some-clause-is c =
    let taken : Taken = record { items = c.args.again.whole; keeps = c.args.again.keeps } in
    let denoted = subst (λ (found : Option Found). IfSome found (λ found. AreDenoted taken found)) c.in-Ok-Some.field-0-is c.in-Ok-Some.ensures.denoted in
    text_told c.in-Ok-Some.found taken.items taken.keeps c.args.formulas denoted c.args.text.now c.args.tokens.now c.requires.lexed c.requires.parsed c.requires.whole c.tell_alone.result c.requires.counted c.tell_alone.ensures.is

pub returns-in-Ok-Some-clause-refused : goal.returns-in-Ok-Some-clause-refused
returns-in-Ok-Some-clause-refused c =
    let taken : Taken = record { items = c.args.again.whole; keeps = c.args.again.keeps } in
    let denoted = subst (λ (found : Option Found). IfSome found (λ found. AreDenoted taken found)) c.in-Ok-Some.field-0-is c.in-Ok-Some.ensures.denoted in
    text_refused c.in-Ok-Some.found taken.items taken.keeps c.args.formulas denoted c.args.text.now c.args.tokens.now c.requires.lexed c.requires.parsed c.requires.whole c.args.file.now c.tell_alone.result c.tell_alone.ensures.refused
