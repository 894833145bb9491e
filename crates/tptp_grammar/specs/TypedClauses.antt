-- The productions of typed clauses: clauses under quantifiers, whose variables may have sorts.
use Rattle.std.specs.Prelude.{ℕ, suc, true, List, ◌∷◌}
use Rattle.tptp_lexer.specs.declared.token.Token.TheVariants.{Mark as Sign}
use Rattle.tptp_base.specs.declared.surface.BoundVar.{BoundVar}
use Rattle.tptp_base.specs.declared.surface.Surface.{Surface}
use Rattle.tptp_grammar.specs.Tokens.{Tokens}
use Rattle.tptp_grammar.specs.Formulas.{AreBoundVariables, under}
use Rattle.tptp_grammar.specs.Clauses.{IsClause}
use Rattle.tptp_lexer.specs.declared.token.Mark.TheVariants as m
use Rattle.tptp_base.specs.declared.surface.Quant.TheVariants as q
use Rattle.tptp_base.specs.declared.surface.Surface.TheVariants as fm

-- <tcf_logic_formula> ::= <tcf_quantified_formula> | <cnf_formula>
-- <tcf_quantified_formula> ::= ! [<tff_variable_list>] : <tcf_logic_formula>
pub data IsTypedClause : ℕ → Surface → Tokens → Tokens → Type 0 where
  unquantified : {d : ℕ} {f : Surface} {ts rest : Tokens} → IsClause d f ts rest → IsTypedClause d f ts rest
  quantified_clause : {d : ℕ} {xs : List BoundVar} {f : Surface} {ts mid rest : Tokens} → AreBoundVariables true (suc d) xs ts ((Sign m.CloseList, suc d) ∷ (Sign m.Colon, under d xs) ∷ mid) → IsTypedClause (under d xs) f mid rest
      → IsTypedClause d (fm.Bind q.All xs f) ((Sign m.Bang, d) ∷ (Sign m.OpenList, suc d) ∷ ts) rest
