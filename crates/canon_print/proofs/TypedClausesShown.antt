-- The canonical text of typed clauses is cut into tokens that spell them.
use Rattle.std.proofs.Common.{◌≡◌, ℕ, suc, ◌≤◌, true, List, ◌∷◌, ◌++◌, map, codes, refl, sym, arith}
use Rattle.tptp_lexer.specs.declared.token.Token.TheVariants.{Mark as Sign}
use Rattle.tptp_lexer.specs.declared.token.Mark.TheVariants as m
use Rattle.tptp_base.specs.declared.surface.BoundVar.{BoundVar}
use Rattle.tptp_base.specs.declared.surface.Quant.TheVariants as q
use Rattle.tptp_base.specs.declared.surface.Surface.{Surface}
use Rattle.tptp_base.specs.declared.surface.Surface.TheVariants as fm
use Rattle.tptp_grammar.specs.Tokens.{Tokens}
use Rattle.tptp_grammar.specs.Terms as t
use Rattle.tptp_grammar.specs.Terms.{IsAtom}
use Rattle.tptp_grammar.specs.Formulas.{AreBoundVariables, under}
use Rattle.tptp_grammar.specs.Clauses as c
use Rattle.tptp_grammar.specs.Clauses.{IsLiteral, IsClause}
use Rattle.tptp_grammar.specs.TypedClauses as g
use Rattle.tptp_grammar.specs.TypedClauses.{IsTypedClause}
use Rattle.canon_print.specs.Words.{separated}
use Rattle.canon_print.specs.Canonical.{variable_text, quantifier_text, formula_text, typed_clause_text}
use Rattle.canon_print.proofs.Equations.{clause-True, clause-False, clause-Atom, clause-Eq, clause-Neq, clause-Not, clause-Or, clause-Bind}
use Rattle.canon_print.proofs.Lexed.{done, blank, join, sign, Given}
use Rattle.canon_print.proofs.Shows.{Shows, by_rule, by_text}
use Rattle.canon_print.proofs.FormulasShown.{under_less, variables_shown}
use Rattle.canon_print.proofs.ClausesShown.{clause_shown}

-- ---- a clause is written as ever

plain_atom : {d : ℕ} {f : Surface} {ts rest : Tokens} → IsAtom d f ts rest → typed_clause_text f ≡ formula_text f
plain_atom (t.truth e) = clause-True
plain_atom (t.falsehood e) = clause-False
plain_atom (t.predicate {f = w} {xs = xs} h) = clause-Atom w xs
plain_atom (t.equation {a = a} {b = b} h k) = clause-Eq a b

plain_literal : {d : ℕ} {f : Surface} {ts rest : Tokens} → IsLiteral d f ts rest → typed_clause_text f ≡ formula_text f
plain_literal (c.positive h) = plain_atom h
plain_literal (c.unequal (t.inequation {a = a} {b = b} h k)) = clause-Neq a b
plain_literal (c.negative {f = f} h) = clause-Not f
plain_literal (c.negative_in_parentheses {f = f} h) = clause-Not f

plain_clause : {d : ℕ} {f : Surface} {ts rest : Tokens} → IsClause d f ts rest → typed_clause_text f ≡ formula_text f
plain_clause (c.literal h) = plain_literal h
plain_clause (c.literals {f = f} {fs = fs} h k) = clause-Or (f ∷ fs)
plain_clause (c.clause_in_parentheses h) = plain_clause h

-- ---- quantifiers

quantified_shown : {limit d : ℕ} (xs : List BoundVar) (f : Surface) {mid rest : Tokens} → suc d ≤ limit
    → Shows limit (λ e. AreBoundVariables true e xs) (suc d) (separated (codes ",") (map variable_text xs)) ((Sign m.CloseList, suc d) ∷ (Sign m.Colon, under d xs) ∷ mid)
    → (Given limit mid → Shows limit (λ e. IsTypedClause e f) (under d xs) (typed_clause_text f) rest)
    → Shows limit (λ e. IsTypedClause e (fm.Bind q.All xs f)) d (quantifier_text q.All ++ (separated (codes ",") (map variable_text xs) ++ (codes "] : " ++ typed_clause_text f))) rest
quantified_shown {limit = limit} {d = d} xs f most variables next =
    let inner = next variables.left.2.2 in
    let deep : under d xs ≤ limit = variables.left.2.1 in
    let names = separated (codes ",") (map variable_text xs) in
    let tail = codes "] : " ++ typed_clause_text f in
    record {
      left = inner.left;
      prints = λ e le after ends more.
          let less : under e xs ≤ under d xs = under_less d e xs le in
          let p = inner.prints (under e xs) less after ends more in
          let v = variables.prints (suc e) (omega arith) (tail ++ after) refl ((Sign m.CloseList, suc e) ∷ (Sign m.Colon, under e xs) ∷ p.us) in
          record {
            us = (Sign m.Bang, e) ∷ (Sign m.OpenList, suc e) ∷ v.us;
            rule = g.quantified_clause v.rule p.rule;
            lexed = join (quantifier_text q.All) (names ++ tail) (sign m.Bang refl (omega arith) (blank refl (sign m.OpenList refl (omega arith) done)))
                (join names tail v.lexed (sign m.CloseList refl (omega arith) (blank refl (sign m.Colon refl (omega arith) (blank refl p.lexed)))));
          };
    }

pub typed_clause_shown : (limit : ℕ) {d : ℕ} {f : Surface} {ts rest : Tokens} → IsTypedClause d f ts rest → Given limit ts → Shows limit (λ e. IsTypedClause e f) d (typed_clause_text f) rest
typed_clause_shown limit (g.unquantified h) given = by_text (sym (plain_clause h)) (by_rule (λ e us more rule. g.unquantified rule) (clause_shown limit h given))
typed_clause_shown limit (g.quantified_clause {xs = xs} {f = f} h k) given =
    by_text (sym (clause-Bind q.All xs f)) (quantified_shown xs f given.2.1 (variables_shown limit true h given.2.2) (λ rest. typed_clause_shown limit k rest))
