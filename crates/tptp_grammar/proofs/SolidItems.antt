-- No production has a comment among its tokens, and a dot only where it ends an item.
use Rattle.std.proofs.Common.{◌≡◌, Bool, true, false, not, ◌&&◌, ℕ, suc, List, [], ◌∷◌, Option, Some, refl}
use Rattle.first_fault.specs.Nesting.{Nested}
use Rattle.first_fault.specs.Rules.{Listed, last, more}
use Rattle.tptp_lexer.specs.declared.style.Style.{Style}
use Rattle.tptp_lexer.specs.declared.token.Token.{Token}
use Rattle.tptp_lexer.specs.declared.token.Token.TheVariants.{Lower, Quoted, Mark as Sign}
use Rattle.tptp_lexer.specs.declared.token.Mark.{Mark}
use Rattle.tptp_lexer.specs.declared.token.Mark.TheVariants as m
use Rattle.tptp_base.specs.declared.place.Place.{Place}
use Rattle.tptp_base.specs.declared.surface.STerm.{STerm}
use Rattle.tptp_base.specs.declared.surface.Surface.{Surface}
use Rattle.tptp_base.specs.declared.surface.SortName.{SortName}
use Rattle.tptp_base.specs.declared.surface.BoundVar.{BoundVar}
use Rattle.tptp_base.specs.declared.surface.BinOp.{BinOp}
use Rattle.tptp_base.specs.declared.surface.Quant.{Quant}
use Rattle.tptp_base.specs.declared.name.Name.{Name}
use Rattle.tptp_base.specs.declared.item.Lang.{Lang}
use Rattle.tptp_base.specs.declared.item.Lang.TheVariants as lang
use Rattle.tptp_base.specs.declared.item.Role.{Role}
use Rattle.tptp_base.specs.declared.item.Shape.{Shape}
use Rattle.tptp_base.specs.declared.item.Typing.{Typing}
use Rattle.tptp_base.specs.declared.item.Body.{Body}
use Rattle.tptp_base.specs.declared.item.GTerm.{GTerm}
use Rattle.tptp_base.specs.declared.item.Item.{Item}
use Rattle.tptp_grammar.specs.Tokens.{Text, Tokens, word, operator, quantifier}
use Rattle.tptp_lexer.specs.Dots.{is_comment, is_dot}
use Rattle.tptp_grammar.specs.Terms as t
use Rattle.tptp_grammar.specs.Terms.{IsTerm, IsApplied, AreTerms, IsAtom, IsInequation}
use Rattle.tptp_grammar.specs.Types as y
use Rattle.tptp_grammar.specs.Types.{IsArgumentSort, IsResultSort, IsMap, IsShape, IsTyping}
use Rattle.tptp_grammar.specs.Formulas as f
use Rattle.tptp_grammar.specs.Formulas.{IsBoundVariable, IsUnit, IsFormula, AreUnits}
use Rattle.tptp_grammar.specs.Clauses as c
use Rattle.tptp_grammar.specs.Clauses.{IsLiteral, IsClause}
use Rattle.tptp_grammar.specs.TypedClauses as q
use Rattle.tptp_grammar.specs.TypedClauses.{IsTypedClause}
use Rattle.tptp_grammar.specs.GeneralTerms as g
use Rattle.tptp_grammar.specs.GeneralTerms.{IsFormulaOf, IsGeneralData, IsGeneralTerm, IsGeneralList, AreGeneralTerms}
use Rattle.tptp_grammar.specs.Items as i
use Rattle.tptp_grammar.specs.Items.{IsName, IsBody, IsEnd, IsSelection, IsItem}

-- neither a comment nor a dot
abbrev pub is_clear : Token → Bool
is_clear u = not (is_comment u) && not (is_dot u)

clear_first : (a b : Bool) → not a && not b ≡ true → a ≡ false
clear_first true b e = cc
clear_first false b e = refl

clear_second : (a b : Bool) → not a && not b ≡ true → b ≡ false
clear_second true b e = cc
clear_second false true e = cc
clear_second false false e = refl

pub no_comment : (u : Token) → is_clear u ≡ true → is_comment u ≡ false
no_comment u e = clear_first (is_comment u) (is_dot u) e

pub no_dot : (u : Token) → is_clear u ≡ true → is_dot u ≡ false
no_dot u e = clear_second (is_comment u) (is_dot u) e

-- the tokens before the second list are clear
pub data ClearTo : Tokens → Tokens → Type 0 where
  none : {rest : Tokens} → ClearTo rest rest
  one : {u : Token} {n : ℕ} {ts rest : Tokens} → is_clear u ≡ true → ClearTo ts rest → ClearTo ((u, n) ∷ ts) rest

join : {ts mid rest : Tokens} → ClearTo ts mid → ClearTo mid rest → ClearTo ts rest
join none k = k
join (one e h) k = one e (join h k)

-- and a mark behind them
ends : {ts rest : Tokens} {mark : Mark} {n : ℕ} → ClearTo ts ((Sign mark, n) ∷ rest) → is_clear (Sign mark) ≡ true → ClearTo ts rest
ends h e = join h (one e none)

-- and what follows a mark
then : {ts mid rest : Tokens} {mark : Mark} {n : ℕ} → ClearTo ts ((Sign mark, n) ∷ mid) → is_clear (Sign mark) ≡ true → ClearTo mid rest → ClearTo ts rest
then h e k = join h (one e k)

of_word : (w : Token) (n : Text) → word w ≡ Some n → is_clear w ≡ true
of_word (Lower x) n e = refl
of_word (Quoted x) n e = refl
of_word w n e = cc

of_operator : (mark : Mark) (o : BinOp) → operator mark ≡ Some o → is_clear (Sign mark) ≡ true
of_operator m.Dot o e = cc
of_operator mark o e = refl

of_quantifier : (mark : Mark) (q : Quant) → quantifier mark ≡ Some q → is_clear (Sign mark) ≡ true
of_quantifier m.Dot q e = cc
of_quantifier mark q e = refl

mutual
  of_term : {d : ℕ} {x : STerm} {ts rest : Tokens} → IsTerm d x ts rest → ClearTo ts rest
  of_term t.variable = one refl none
  of_term (t.function h) = of_applied h

  of_applied : {d : ℕ} {n : Text} {xs : List STerm} {ts rest : Tokens} → IsApplied d n xs ts rest → ClearTo ts rest
  of_applied (t.constant {w = w} {f = n} e) = one (of_word w n e) none
  of_applied (t.application {w = w} {f = n} e h) = one (of_word w n e) (one refl (ends (of_terms h) refl))

  of_terms : {d : ℕ} {xs : List STerm} {ts rest : Tokens} → AreTerms d xs ts rest → ClearTo ts rest
  of_terms (t.last_term h) = of_term h
  of_terms (t.more_terms h k) = then (of_term h) refl (of_terms k)

of_atom : {d : ℕ} {x : Surface} {ts rest : Tokens} → IsAtom d x ts rest → ClearTo ts rest
of_atom (t.truth e) = one refl none
of_atom (t.falsehood e) = one refl none
of_atom (t.predicate h) = of_applied h
of_atom (t.equation h k) = then (of_term h) refl (of_term k)

of_inequation : {d : ℕ} {x : Surface} {ts rest : Tokens} → IsInequation d x ts rest → ClearTo ts rest
of_inequation (t.inequation h k) = then (of_term h) refl (of_term k)

of_argument_sort : {d : ℕ} {s : SortName} {ts rest : Tokens} → IsArgumentSort d s ts rest → ClearTo ts rest
of_argument_sort (y.named_sort {w = w} {s = n} e) = one (of_word w n e) none
of_argument_sort (y.individuals e) = one refl none

of_result_sort : {d : ℕ} {s : SortName} {ts rest : Tokens} → IsResultSort d s ts rest → ClearTo ts rest
of_result_sort (y.argument_sort h) = of_argument_sort h
of_result_sort (y.truth_values e) = one refl none

of_factors : {d : ℕ} {ss : List SortName} {ts rest : Tokens} → Listed (Sign m.Star) d (IsArgumentSort d) ss ts rest → ClearTo ts rest
of_factors (last h) = of_argument_sort h
of_factors (more h k) = then (of_argument_sort h) refl (of_factors k)

of_map : {d : ℕ} {s : Shape} {ts rest : Tokens} → IsMap d s ts rest → ClearTo ts rest
of_map (y.map_of_one h k) = then (of_argument_sort h) refl (of_result_sort k)
of_map (y.map_of_more h k l) = one refl (then (of_argument_sort h) refl (then (of_factors k) refl (one refl (of_result_sort l))))
of_map (y.map_in_parentheses h) = one refl (ends (of_map h) refl)

pub of_shape : {d : ℕ} {s : Shape} {ts rest : Tokens} → IsShape d s ts rest → ClearTo ts rest
of_shape (y.sort_of_sorts e) = one refl none
of_shape (y.sort_of_constant h) = of_result_sort h
of_shape (y.map h) = of_map h

of_typing : {d : ℕ} {s : Typing} {ts rest : Tokens} → IsTyping d s ts rest → ClearTo ts rest
of_typing (y.typing {w = w} {f = n} e h) = one (of_word w n e) (one refl (of_shape h))
of_typing (y.typing_in_parentheses h) = one refl (ends (of_typing h) refl)

of_variable : {typed : Bool} {d : ℕ} {x : BoundVar} {ts rest : Tokens} → IsBoundVariable typed d x ts rest → ClearTo ts rest
of_variable f.untyped_variable = one refl none
of_variable (f.typed_variable e h) = one refl (one refl (of_argument_sort h))

pub of_variables : {typed : Bool} {d : ℕ} {xs : List BoundVar} {ts rest : Tokens} → Listed (Sign m.Comma) d (IsBoundVariable typed d) xs ts rest → ClearTo ts rest
of_variables (last h) = of_variable h
of_variables (more h k) = then (of_variable h) refl (of_variables k)

mutual
  of_unit : {typed : Bool} {d : ℕ} {x : Surface} {ts rest : Tokens} → IsUnit typed d x ts rest → ClearTo ts rest
  of_unit (f.negation h) = one refl (of_unit h)
  of_unit (f.parenthesis h) = one refl (ends (of_formula h) refl)
  of_unit (f.quantified {mark = mark} {q = q} e h k) = one (of_quantifier mark q e) (one refl (then (of_variables h) refl (one refl (of_unit k))))
  of_unit (f.atom h) = of_atom h
  of_unit (f.unequal h) = of_inequation h

  of_formula : {typed : Bool} {d : ℕ} {x : Surface} {ts rest : Tokens} → IsFormula typed d x ts rest → ClearTo ts rest
  of_formula (f.single h) = of_unit h
  of_formula (f.binary {mark = mark} {o = o} e h k) = then (of_unit h) (of_operator mark o e) (of_unit k)
  of_formula (f.disjunction h k) = then (of_unit h) refl (of_units k refl)
  of_formula (f.conjunction h k) = then (of_unit h) refl (of_units k refl)

  of_units : {typed : Bool} {mark : Mark} {d : ℕ} {xs : List Surface} {ts rest : Tokens} → AreUnits typed mark d xs ts rest → is_clear (Sign mark) ≡ true → ClearTo ts rest
  of_units (f.last_unit h) e = of_unit h
  of_units (f.more_units h k) e = then (of_unit h) e (of_units k e)

of_literal : {d : ℕ} {x : Surface} {ts rest : Tokens} → IsLiteral d x ts rest → ClearTo ts rest
of_literal (c.positive h) = of_atom h
of_literal (c.unequal h) = of_inequation h
of_literal (c.negative h) = one refl (of_atom h)
of_literal (c.negative_in_parentheses h) = one refl (one refl (ends (of_atom h) refl))

of_literals : {d : ℕ} {xs : List Surface} {ts rest : Tokens} → Listed (Sign m.Bar) d (IsLiteral d) xs ts rest → ClearTo ts rest
of_literals (last h) = of_literal h
of_literals (more h k) = then (of_literal h) refl (of_literals k)

of_clause : {d : ℕ} {x : Surface} {ts rest : Tokens} → IsClause d x ts rest → ClearTo ts rest
of_clause (c.literal h) = of_literal h
of_clause (c.literals h k) = then (of_literal h) refl (of_literals k)
of_clause (c.clause_in_parentheses h) = one refl (ends (of_clause h) refl)

of_typed_clause : {d : ℕ} {x : Surface} {ts rest : Tokens} → IsTypedClause d x ts rest → ClearTo ts rest
of_typed_clause (q.unquantified h) = of_clause h
of_typed_clause (q.quantified_clause h k) = one refl (one refl (then (of_variables h) refl (one refl (of_typed_clause k))))

of_embedded : (l : Lang) (d : ℕ) (x : Surface) (ts rest : Tokens) → IsFormulaOf l d x ts rest → ClearTo ts rest
of_embedded lang.Cnf d x ts rest h = of_clause h
of_embedded lang.Fof d x ts rest h = of_formula h
of_embedded lang.Tff d x ts rest h = of_formula h
of_embedded lang.Tcf d x ts rest h = of_typed_clause h

mutual
  of_data : {d : ℕ} {x : GTerm} {ts rest : Tokens} → IsGeneralData d x ts rest → ClearTo ts rest
  of_data (g.general_word {w = w} {f = n} e) = one (of_word w n e) none
  of_data (g.general_function {w = w} {f = n} e h) = one (of_word w n e) (one refl (ends (of_generals h) refl))
  of_data g.general_variable = one refl none
  of_data g.number = one refl none
  of_data g.distinct_object = one refl none
  of_data (g.formula_data {d = d} {l = l} {f = x} {ts = ts} {rest = rest} e other h) = one refl (one refl (ends (of_embedded l (suc d) x ts ((Sign m.Close, suc d) ∷ rest) h) refl))
  of_data (g.term_data e h) = one refl (one refl (ends (of_term h) refl))

  pub of_general : {d : ℕ} {x : GTerm} {ts rest : Tokens} → IsGeneralTerm d x ts rest → ClearTo ts rest
  of_general (g.general_data h) = of_data h
  of_general (g.pair h k) = then (of_data h) refl (of_general k)
  of_general (g.general_list h) = of_list h

  pub of_list : {d : ℕ} {xs : List GTerm} {ts rest : Tokens} → IsGeneralList d xs ts rest → ClearTo ts rest
  of_list g.empty_list = one refl (one refl none)
  of_list (g.full_list h) = one refl (ends (of_generals h) refl)

  of_generals : {d : ℕ} {xs : List GTerm} {ts rest : Tokens} → AreGeneralTerms d xs ts rest → ClearTo ts rest
  of_generals (g.last_general h) = of_general h
  of_generals (g.more_general h k) = then (of_general h) refl (of_generals k)

pub of_name : {x : Name} {ts rest : Tokens} → IsName x ts rest → ClearTo ts rest
of_name (i.word_name {w = w} {n = n} e) = one (of_word w n e) none
of_name (i.integer_name e) = one refl none

pub of_names : {xs : List Name} {ts rest : Tokens} → Listed (Sign m.Comma) 0 IsName xs ts rest → ClearTo ts rest
of_names (last h) = of_name h
of_names (more h k) = then (of_name h) refl (of_names k)

pub of_body : {l : Lang} {r : Role} {b : Body} {ts rest : Tokens} → IsBody l r b ts rest → ClearTo ts rest
of_body (i.cnf_body h) = of_clause h
of_body (i.fof_body h) = of_formula h
of_body (i.tff_body e h) = of_formula h
of_body (i.tcf_body h) = of_typed_clause h
of_body (i.type_body h) = of_typing h

-- ---- an item ends with a dot

-- the tokens before the second list are clear, but for the last one, a dot
pub data DotTo : Tokens → Tokens → Type 0 where
  dot : {n : ℕ} {rest : Tokens} → DotTo ((Sign m.Dot, n) ∷ rest) rest
  earlier : {u : Token} {n : ℕ} {ts rest : Tokens} → is_clear u ≡ true → DotTo ts rest → DotTo ((u, n) ∷ ts) rest

to_dot : {ts mid rest : Tokens} → ClearTo ts mid → DotTo mid rest → DotTo ts rest
to_dot none k = k
to_dot (one e h) k = earlier e (to_dot h k)

pub of_end : {s : Option GTerm} {xs : Option (List GTerm)} {ts rest : Tokens} → IsEnd s xs ts rest → DotTo ts rest
of_end i.no_source = earlier refl dot
of_end (i.source h) = earlier refl (to_dot (of_general h) (earlier refl dot))
of_end (i.source_and_info h k) = earlier refl (to_dot (of_general h) (earlier refl (to_dot (of_list k) (earlier refl dot))))

pub of_selection : {xs : Option (List Name)} {ts rest : Tokens} → IsSelection xs ts rest → DotTo ts rest
of_selection i.whole_file = earlier refl dot
of_selection (i.selected h) = earlier refl (earlier refl (to_dot (of_names h) (earlier refl (earlier refl dot))))

-- behind an item's first token
pub of_item : {style : Style} {place : Place} {x : Item} {u : Nested Token} {ts rest : Tokens} → IsItem style place x (u ∷ ts) rest → DotTo ts rest
of_item (i.annotated e has h j k x) = earlier refl (to_dot (of_name h) (earlier refl (earlier refl (earlier refl (to_dot (of_body k) (of_end x))))))
of_item (i.include e h) = earlier refl (earlier refl (of_selection h))

-- none of the tokens is a comment
abbrev pub AreSolid : Tokens → Type 0
AreSolid [] = Unit {0}
AreSolid (u ∷ us) = (is_comment u.0 ≡ false) × AreSolid us

pub solid_to : {ts rest : Tokens} → DotTo ts rest → AreSolid rest → AreSolid ts
solid_to dot k = (refl, k)
solid_to (earlier {u = u} e h) k = (no_comment u e, solid_to h k)
