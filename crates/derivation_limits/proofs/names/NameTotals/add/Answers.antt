use Rattle.std.proofs.Common.{refl}
use Rattle.derivation_limits.proofs.NamesFacts.{adds_word_on, adds_integer_on}
use Rattle.derivation_limits.proofs.names.NameTotals.add.Goals as goal

pub returns-in-Word : goal.returns-in-Word
returns-in-Word c =
    adds_word_on c.add.result c.args.self.now (record { words = c.add.new.self; integers = c.args.self.now.integers }) c.args.amount c.args.name.now _ c.as_slice.result.now c.in-Word.is c.as_slice.ensures c.add.ensures refl

pub returns-in-Integer : goal.returns-in-Integer
returns-in-Integer c =
    adds_integer_on c.add-in-Integer.result c.args.self.now (record { words = c.args.self.now.words; integers = c.add-in-Integer.new.self }) c.args.amount c.args.name.now _ c.as_slice-in-Integer.result.now c.in-Integer.is c.as_slice-in-Integer.ensures c.add-in-Integer.ensures refl
