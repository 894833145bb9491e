-- The productions of general terms.
use Rattle.std.specs.Prelude.{◌≡◌, ℕ, suc, true, false, List, [], ◌∷◌, Some, codes}
use Rattle.tptp_lexer.specs.declared.token.Token.{Token}
use Rattle.tptp_lexer.specs.declared.token.Token.TheVariants.{Upper, Dollar, Number, Distinct, Mark as Sign}
use Rattle.tptp_base.specs.declared.surface.STerm.{STerm}
use Rattle.tptp_base.specs.declared.surface.Surface.{Surface}
use Rattle.tptp_base.specs.declared.item.Lang.{Lang}
use Rattle.tptp_base.specs.declared.item.GTerm.{GTerm}
use Rattle.tptp_grammar.specs.Tokens.{Text, Tokens, word, embedded_text}
use Rattle.tptp_grammar.specs.Terms.{IsTerm}
use Rattle.tptp_grammar.specs.Formulas.{IsFormula}
use Rattle.tptp_grammar.specs.Clauses.{IsClause}
use Rattle.tptp_grammar.specs.TypedClauses.{IsTypedClause}
use Rattle.tptp_lexer.specs.declared.token.Mark.TheVariants as m
use Rattle.tptp_base.specs.declared.item.Lang.TheVariants as lang
use Rattle.tptp_base.specs.declared.item.GTerm.TheVariants as gt

-- the formula of a language
abbrev pub IsFormulaOf : Lang → ℕ → Surface → Tokens → Tokens → Type 0
IsFormulaOf lang.Cnf = IsClause
IsFormulaOf lang.Fof = IsFormula false
IsFormulaOf lang.Tff = IsFormula true
IsFormulaOf lang.Tcf = IsTypedClause

mutual
  -- <general_data> ::= <atomic_word> | <general_function> | <variable> | <number> | <distinct_object> | <formula_data>
  -- <general_function> ::= <atomic_word>(<general_terms>)
  -- <formula_data> ::= $tff(<tff_formula>) | $fof(<fof_formula>) | $cnf(<cnf_formula>) | $fot(<fof_term>)
  pub data IsGeneralData : ℕ → GTerm → Tokens → Tokens → Type 0 where
    general_word : {d : ℕ} {w : Token} {f : Text} {rest : Tokens} → word w ≡ Some f → IsGeneralData d (gt.Word f) ((w, d) ∷ rest) rest
    general_function : {d : ℕ} {w : Token} {f : Text} {xs : List GTerm} {ts rest : Tokens} → word w ≡ Some f → AreGeneralTerms (suc d) xs ts ((Sign m.Close, suc d) ∷ rest)
        → IsGeneralData d (gt.Func f xs) ((w, d) ∷ (Sign m.Open, suc d) ∷ ts) rest
    general_variable : {d : ℕ} {x : Text} {rest : Tokens} → IsGeneralData d (gt.Var x) ((Upper x, d) ∷ rest) rest
    number : {d : ℕ} {n : Text} {rest : Tokens} → IsGeneralData d (gt.Number n) ((Number n, d) ∷ rest) rest
    distinct_object : {d : ℕ} {x : Text} {rest : Tokens} → IsGeneralData d (gt.Distinct x) ((Distinct x, d) ∷ rest) rest
    formula_data : {d : ℕ} {w : Text} {l : Lang} {f : Surface} {ts rest : Tokens} → w ≡ embedded_text l → (l ≡ lang.Tcf → ⊥) → IsFormulaOf l (suc d) f ts ((Sign m.Close, suc d) ∷ rest)
        → IsGeneralData d (gt.Formula l f) ((Dollar w, d) ∷ (Sign m.Open, suc d) ∷ ts) rest
    term_data : {d : ℕ} {w : Text} {x : STerm} {ts rest : Tokens} → w ≡ codes "$fot" → IsTerm (suc d) x ts ((Sign m.Close, suc d) ∷ rest)
        → IsGeneralData d (gt.Term x) ((Dollar w, d) ∷ (Sign m.Open, suc d) ∷ ts) rest

  -- <general_term> ::= <general_data> | <general_data>:<general_term> | <general_list>
  pub data IsGeneralTerm : ℕ → GTerm → Tokens → Tokens → Type 0 where
    general_data : {d : ℕ} {x : GTerm} {ts rest : Tokens} → IsGeneralData d x ts rest → IsGeneralTerm d x ts rest
    pair : {d : ℕ} {x y : GTerm} {ts mid rest : Tokens} → IsGeneralData d x ts ((Sign m.Colon, suc d) ∷ mid) → IsGeneralTerm (suc d) y mid rest → IsGeneralTerm d (gt.Pair x y) ts rest
    general_list : {d : ℕ} {xs : List GTerm} {ts rest : Tokens} → IsGeneralList d xs ts rest → IsGeneralTerm d (gt.List xs) ts rest

  -- <general_list> ::= [] | [<general_terms>]
  pub data IsGeneralList : ℕ → List GTerm → Tokens → Tokens → Type 0 where
    empty_list : {d : ℕ} {rest : Tokens} → IsGeneralList d [] ((Sign m.OpenList, suc d) ∷ (Sign m.CloseList, suc d) ∷ rest) rest
    full_list : {d : ℕ} {xs : List GTerm} {ts rest : Tokens} → AreGeneralTerms (suc d) xs ts ((Sign m.CloseList, suc d) ∷ rest) → IsGeneralList d xs ((Sign m.OpenList, suc d) ∷ ts) rest

  -- <general_terms> ::= <general_term> | <general_term>,<general_terms>
  pub data AreGeneralTerms : ℕ → List GTerm → Tokens → Tokens → Type 0 where
    last_general : {d : ℕ} {x : GTerm} {ts rest : Tokens} → IsGeneralTerm d x ts rest → AreGeneralTerms d (x ∷ []) ts rest
    more_general : {d : ℕ} {x : GTerm} {xs : List GTerm} {ts mid rest : Tokens} → IsGeneralTerm d x ts ((Sign m.Comma, d) ∷ mid) → AreGeneralTerms d xs mid rest → AreGeneralTerms d (x ∷ xs) ts rest
