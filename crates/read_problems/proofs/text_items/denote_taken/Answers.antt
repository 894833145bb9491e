use Rattle.read_problems.proofs.Told.{text_told, text_refused}
use Rattle.read_problems.proofs.text_items.denote_taken.Goals as goal

pub returns-in-Some-clause-is : goal.returns-in-Some-clause-is
returns-in-Some-clause-is c =
    text_told c.in-Some.found c.args.taken.items.items c.args.taken.items.keeps c.args.taken.formulas c.in-Some.ensures.denoted c.args.text.now c.args.tokens.now c.requires.lexed c.requires.parsed c.in-Some.ensures.whole c.tell_alone.result c.args.taken.counted c.tell_alone.ensures.is

pub returns-in-Some-clause-refused : goal.returns-in-Some-clause-refused
returns-in-Some-clause-refused c =
    text_refused c.in-Some.found c.args.taken.items.items c.args.taken.items.keeps c.args.taken.formulas c.in-Some.ensures.denoted c.args.text.now c.args.tokens.now c.requires.lexed c.requires.parsed c.in-Some.ensures.whole c.args.file.now c.tell_alone.result c.tell_alone.ensures.refused
