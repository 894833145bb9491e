-- The productions of formulas. Bound variables may have sorts in a typed formula alone.
use Rattle.std.specs.Prelude.{◌≡◌, ℕ, suc, Bool, true, List, [], ◌∷◌, Some, None}
use Rattle.first_fault.specs.Rules.{Listed}
use Rattle.tptp_lexer.specs.declared.token.Token.TheVariants.{Upper, Mark as Sign}
use Rattle.tptp_lexer.specs.declared.token.Mark.{Mark}
use Rattle.tptp_base.specs.declared.surface.SortName.{SortName}
use Rattle.tptp_base.specs.declared.surface.BoundVar.{BoundVar}
use Rattle.tptp_base.specs.declared.surface.BinOp.{BinOp}
use Rattle.tptp_base.specs.declared.surface.Quant.{Quant}
use Rattle.tptp_base.specs.declared.surface.Surface.{Surface}
use Rattle.tptp_grammar.specs.Tokens.{Text, Tokens, operator, quantifier}
use Rattle.tptp_grammar.specs.Terms.{IsAtom, IsInequation}
use Rattle.tptp_grammar.specs.Types.{IsArgumentSort}
use Rattle.tptp_lexer.specs.declared.token.Mark.TheVariants as m
use Rattle.tptp_base.specs.declared.surface.Surface.TheVariants as fm

-- <tff_variable> ::= <tff_typed_variable> | <variable>
-- <tff_typed_variable> ::= <variable> : <tff_atomic_type>
pub data IsBoundVariable (typed : Bool) : ℕ → BoundVar → Tokens → Tokens → Type 0 where
  untyped_variable : {d : ℕ} {x : Text} {rest : Tokens} → IsBoundVariable typed d (record { name = x; sort = None }) ((Upper x, d) ∷ rest) rest
  typed_variable : {d : ℕ} {x : Text} {s : SortName} {ts rest : Tokens} → typed ≡ true → IsArgumentSort d s ts rest
      → IsBoundVariable typed d (record { name = x; sort = Some s }) ((Upper x, d) ∷ (Sign m.Colon, d) ∷ ts) rest

-- <fof_variable_list> ::= <variable> | <variable>,<fof_variable_list>
abbrev pub AreBoundVariables : Bool → ℕ → List BoundVar → Tokens → Tokens → Type 0
AreBoundVariables typed d = Listed (Sign m.Comma) d (IsBoundVariable typed d)

-- the nesting under as many bound variables
abbrev pub under : ℕ → List BoundVar → ℕ
under d [] = d
under d (x ∷ xs) = suc (under d xs)

mutual
  -- <fof_unit_formula> ::= <fof_unitary_formula> | <fof_unary_formula>
  -- <fof_unary_formula> ::= ~ <fof_unit_formula> | <fof_infix_unary>
  -- <fof_unitary_formula> ::= <fof_quantified_formula> | <fof_atomic_formula> | (<fof_logic_formula>)
  -- <fof_quantified_formula> ::= <fof_quantifier> [<fof_variable_list>] : <fof_unit_formula>
  pub data IsUnit (typed : Bool) : ℕ → Surface → Tokens → Tokens → Type 0 where
    negation : {d : ℕ} {f : Surface} {ts rest : Tokens} → IsUnit typed (suc d) f ts rest → IsUnit typed d (fm.Not f) ((Sign m.Tilde, suc d) ∷ ts) rest
    parenthesis : {d : ℕ} {f : Surface} {ts rest : Tokens} → IsFormula typed (suc d) f ts ((Sign m.Close, suc d) ∷ rest) → IsUnit typed d f ((Sign m.Open, suc d) ∷ ts) rest
    quantified : {d : ℕ} {mark : Mark} {q : Quant} {xs : List BoundVar} {f : Surface} {ts mid rest : Tokens} → quantifier mark ≡ Some q
        → AreBoundVariables typed (suc d) xs ts ((Sign m.CloseList, suc d) ∷ (Sign m.Colon, under d xs) ∷ mid) → IsUnit typed (under d xs) f mid rest
        → IsUnit typed d (fm.Bind q xs f) ((Sign mark, d) ∷ (Sign m.OpenList, suc d) ∷ ts) rest
    atom : {d : ℕ} {f : Surface} {ts rest : Tokens} → IsAtom d f ts rest → IsUnit typed d f ts rest
    unequal : {d : ℕ} {f : Surface} {ts rest : Tokens} → IsInequation d f ts rest → IsUnit typed d f ts rest

  -- <fof_logic_formula> ::= <fof_binary_formula> | <fof_unit_formula>
  -- <fof_binary_formula> ::= <fof_binary_nonassoc> | <fof_binary_assoc>
  -- <fof_binary_nonassoc> ::= <fof_unit_formula> <nonassoc_connective> <fof_unit_formula>
  -- <fof_or_formula> ::= <fof_unit_formula> <vline> <fof_unit_formula> | <fof_or_formula> <vline> <fof_unit_formula>
  -- <fof_and_formula> ::= <fof_unit_formula> & <fof_unit_formula> | <fof_and_formula> & <fof_unit_formula>
  pub data IsFormula (typed : Bool) : ℕ → Surface → Tokens → Tokens → Type 0 where
    single : {d : ℕ} {f : Surface} {ts rest : Tokens} → IsUnit typed d f ts rest → IsFormula typed d f ts rest
    binary : {d : ℕ} {mark : Mark} {o : BinOp} {a b : Surface} {ts mid rest : Tokens} → operator mark ≡ Some o → IsUnit typed d a ts ((Sign mark, d) ∷ mid) → IsUnit typed d b mid rest
        → IsFormula typed d (fm.Binary o a b) ts rest
    disjunction : {d : ℕ} {a : Surface} {fs : List Surface} {ts mid rest : Tokens} → IsUnit typed d a ts ((Sign m.Bar, d) ∷ mid) → AreUnits typed m.Bar d fs mid rest → IsFormula typed d (fm.Or (a ∷ fs)) ts rest
    conjunction : {d : ℕ} {a : Surface} {fs : List Surface} {ts mid rest : Tokens} → IsUnit typed d a ts ((Sign m.Ampersand, d) ∷ mid) → AreUnits typed m.Ampersand d fs mid rest → IsFormula typed d (fm.And (a ∷ fs)) ts rest

  -- one or more units with the mark between them
  pub data AreUnits (typed : Bool) : Mark → ℕ → List Surface → Tokens → Tokens → Type 0 where
    last_unit : {mark : Mark} {d : ℕ} {x : Surface} {ts rest : Tokens} → IsUnit typed d x ts rest → AreUnits typed mark d (x ∷ []) ts rest
    more_units : {mark : Mark} {d : ℕ} {x : Surface} {xs : List Surface} {ts mid rest : Tokens} → IsUnit typed d x ts ((Sign mark, d) ∷ mid) → AreUnits typed mark d xs mid rest → AreUnits typed mark d (x ∷ xs) ts rest
