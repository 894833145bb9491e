use Rattle.read_problems.proofs.Told.{told_so, refuses_so}
use Rattle.read_problems.proofs.text_items.tell.Goals as goal

pub returns-in-Ok-clause-is : goal.returns-in-Ok-clause-is
returns-in-Ok-clause-is c = told_so c.args.found c.in-Ok.field-0 c.args.formulas c.args.size c.in-Ok.is

pub returns-in_ok-say_sort_fault-in-Err-clause-refused : goal.returns-in_ok-say_sort_fault-in-Err-clause-refused
returns-in_ok-say_sort_fault-in-Err-clause-refused c = refuses_so c.args.found c.in-Err.fault c.args.files.now c.in_ok-say_sort_fault-in-Err.field-0 c.in-Err.is c.in_ok-say_sort_fault-in-Err.ensures.said
