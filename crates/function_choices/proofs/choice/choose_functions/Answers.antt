use Rattle.skolem_fresh.proofs.Opened.{on_ok}
use Rattle.function_choices.proofs.Chosen.{too_many, choice_ends}
use Rattle.function_choices.proofs.choice.choose_functions.Goals as goal

pub returns-then-len-gt-MAX_ATOMS : goal.returns-then-len-gt-MAX_ATOMS
returns-then-len-gt-MAX_ATOMS c = too_many c.args.theory.now c.args.parent.now c.args.line.now c.new-atoms.result c.push_atoms.new.atoms c.new-atoms.ensures c.in_ok-push_atoms.ensures c.len.result c.len.ensures c.if-len-gt-MAX_ATOMS.true

pub returns : goal.returns
returns c =
    on_ok c.choice_by.result
    (choice_ends c.args.theory.now c.args.parent.now c.args.line.now c.new-atoms.result c.push_atoms.new.atoms c.new-atoms.ensures c.in_ok-push_atoms.ensures c.as_slice-2.result.now c.as_slice-2.ensures c.in_ok-symbols.symbols c.as_slice.result.now c.as_slice.ensures c.in_ok-symbols.ensures)
    c.choice_by.ensures
