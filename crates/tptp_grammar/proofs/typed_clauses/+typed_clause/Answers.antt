use Rattle.std.proofs.Common.{true, arith, ◌-◌}
use Rattle.first_fault.specs.code.Reading.{tail}
use Rattle.tptp_grammar.proofs.Nests.{reads_again, bracket_some, no_clause_deeper, some_clause_deeper}
use Rattle.tptp_grammar.specs.code.ReadTypedClauses as spec
use Rattle.tptp_grammar.proofs.typed_clauses.+typed_clause.Goals as goal

pub nested-returns-then-room-levels : goal.nested-returns-then-room-levels
nested-returns-then-room-levels t c = no_clause_deeper c.args.room c.args.levels c.args.tokens.now _ c.requires (omega arith)

pub nested-returns : goal.nested-returns
nested-returns t c =
    reads_again c.skip.new.self (tail c.args.tokens.now) c.skip.ensures (spec.typed_clause (c.args.room - c.args.levels)) _ c.typed_clause.result c.typed_clause.new.tokens
    (some_clause_deeper c.args.room c.args.levels c.args.tokens.now (tail c.args.tokens.now) c.requires (omega arith)) c.typed_clause.ensures

pub quantified-scope-requires : goal.quantified-scope-requires
quantified-scope-requires t c = (omega arith, bracket_some true c.args.room c.in_ok-names.names c.args.tokens.now c.bracket.new.tokens c.in_ok-names.ensures)
