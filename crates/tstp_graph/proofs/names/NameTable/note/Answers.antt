use Rattle.std.proofs.Common.{refl}
use Rattle.tstp_graph.proofs.Texts.{adds_word_on, adds_integer_on}
use Rattle.tstp_graph.proofs.names.NameTable.note.Goals as goal

pub returns-in-Word-clause-adds : goal.returns-in-Word-clause-adds
returns-in-Word-clause-adds c =
    adds_word_on c.add.result c.args.self.now (record { words = c.add.new.self; integers = c.args.self.now.integers; count = c.args.self.now.count }) c.args.place c.args.name.now _ c.as_slice.result.now c.in-Word.is c.as_slice.ensures c.add.ensures refl

pub returns-in-Integer-clause-adds : goal.returns-in-Integer-clause-adds
returns-in-Integer-clause-adds c =
    adds_integer_on c.add-in-Integer.result c.args.self.now (record { words = c.args.self.now.words; integers = c.add-in-Integer.new.self; count = c.args.self.now.count }) c.args.place c.args.name.now _ c.as_slice-in-Integer.result.now c.in-Integer.is c.as_slice-in-Integer.ensures c.add-in-Integer.ensures refl
