use Rattle.derive_kit.proofs.Built.{ok_map}
use Rattle.negated_lemmas.proofs.Carried.{line_before, line_behind}
use Rattle.negated_lemmas.proofs.nodes.line.Goals as goal

pub returns-then-number-first : goal.returns-then-number-first
returns-then-number-first c = rw c.in_ok-whole.ensures (line_before c.args.first c.args.depth c.args.number c.if-number-first.true)

pub returns-in_ok-own : goal.returns-in_ok-own
returns-in_ok-own c = ok_map c.imp_e.result (λ made e. rw e (rw (c.in_ok-whole.ensures, c.in_ok-own.ensures) (line_behind c.args.first c.args.depth c.args.number c.if-number-first.false))) c.imp_e.ensures
