-- The productions of clauses.
use Rattle.std.specs.Prelude.{ℕ, suc, List, ◌∷◌}
use Rattle.first_fault.specs.Rules.{Listed}
use Rattle.tptp_lexer.specs.declared.token.Token.TheVariants.{Mark as Sign}
use Rattle.tptp_base.specs.declared.surface.Surface.{Surface}
use Rattle.tptp_grammar.specs.Tokens.{Tokens}
use Rattle.tptp_grammar.specs.Terms.{IsAtom, IsInequation}
use Rattle.tptp_lexer.specs.declared.token.Mark.TheVariants as m
use Rattle.tptp_base.specs.declared.surface.Surface.TheVariants as fm

-- <cnf_literal> ::= <fof_atomic_formula> | ~ <fof_atomic_formula> | ~ (<fof_atomic_formula>) | <fof_infix_unary>
pub data IsLiteral : ℕ → Surface → Tokens → Tokens → Type 0 where
  positive : {d : ℕ} {f : Surface} {ts rest : Tokens} → IsAtom d f ts rest → IsLiteral d f ts rest
  unequal : {d : ℕ} {f : Surface} {ts rest : Tokens} → IsInequation d f ts rest → IsLiteral d f ts rest
  negative : {d : ℕ} {f : Surface} {ts rest : Tokens} → IsAtom (suc d) f ts rest → IsLiteral d (fm.Not f) ((Sign m.Tilde, suc d) ∷ ts) rest
  negative_in_parentheses : {d : ℕ} {f : Surface} {ts rest : Tokens} → IsAtom (suc (suc d)) f ts ((Sign m.Close, suc (suc d)) ∷ rest)
      → IsLiteral d (fm.Not f) ((Sign m.Tilde, suc d) ∷ (Sign m.Open, suc (suc d)) ∷ ts) rest

-- <cnf_formula> ::= <cnf_disjunction> | ( <cnf_formula> )
-- <cnf_disjunction> ::= <cnf_literal> | <cnf_disjunction> <vline> <cnf_literal>
pub data IsClause : ℕ → Surface → Tokens → Tokens → Type 0 where
  literal : {d : ℕ} {f : Surface} {ts rest : Tokens} → IsLiteral d f ts rest → IsClause d f ts rest
  literals : {d : ℕ} {f : Surface} {fs : List Surface} {ts mid rest : Tokens} → IsLiteral d f ts ((Sign m.Bar, d) ∷ mid) → Listed (Sign m.Bar) d (IsLiteral d) fs mid rest → IsClause d (fm.Or (f ∷ fs)) ts rest
  clause_in_parentheses : {d : ℕ} {f : Surface} {ts rest : Tokens} → IsClause (suc d) f ts ((Sign m.Close, suc d) ∷ rest) → IsClause d f ((Sign m.Open, suc d) ∷ ts) rest
