-- Items are no larger than what spells them: each member of a list, and each variable, has a token of its own.
use Rattle.std.proofs.Common.{ℕ, suc, ◌+◌, ◌≤◌, ◌<◌, Bool, List, [], ◌∷◌, length, map, Option, arith, length-append}
use Rattle.first_fault.specs.Rules.{Listed, last, more}
use Rattle.tptp_base.specs.declared.place.Place.{Place}
use Rattle.tptp_base.specs.declared.place.Region.{Region}
use Rattle.tptp_base.specs.declared.surface.STerm.{STerm}
use Rattle.tptp_base.specs.declared.surface.Surface.{Surface}
use Rattle.tptp_base.specs.declared.surface.SortName.{SortName}
use Rattle.tptp_base.specs.declared.surface.BoundVar.{BoundVar}
use Rattle.tptp_base.specs.declared.name.Name.{Name}
use Rattle.tptp_base.specs.declared.item.Lang.{Lang}
use Rattle.tptp_base.specs.declared.item.Lang.TheVariants as lang
use Rattle.tptp_base.specs.declared.item.Role.{Role}
use Rattle.tptp_base.specs.declared.item.Shape.{Shape}
use Rattle.tptp_base.specs.declared.item.Typing.{Typing}
use Rattle.tptp_base.specs.declared.item.Body.{Body}
use Rattle.tptp_base.specs.declared.item.GTerm.{GTerm}
use Rattle.tptp_base.specs.declared.item.Item.{Item}
use Rattle.tptp_base.specs.Sizes.{Size, small, one_variable, list_alone, both, list_of, size_of_term, size_of_form, size_of_general, size_of_shape, size_of_body, size_of_source, size_of_info, size_of_selection, size_of_item, size_of_items, IsWithin}
use Rattle.tptp_base.proofs.Sizing.{size-Var, size-App, size-True, size-False, size-Atom, size-Eq, size-Neq, size-Not, size-And, size-Or, size-Binary, size-Bind, size-Word, size-Func, size-general-Var, size-Number, size-Distinct, size-Formula, size-Term, size-List, size-Pair}
use Rattle.tptp_lexer.specs.declared.style.Style.{Style}
use Rattle.tptp_lexer.specs.declared.token.Mark.{Mark}
use Rattle.tptp_lexer.specs.declared.token.Mark.TheVariants as m
use Rattle.tptp_lexer.specs.declared.token.Token.{Token}
use Rattle.tptp_lexer.specs.declared.token.Token.TheVariants.{Mark as Sign}
use Rattle.tptp_lexer.specs.Answer.{part}
use Rattle.tptp_lexer.specs.Bytes.{Text as Bytes}
use Rattle.tptp_lexer.specs.Tokenized.{Cut, here, after_blank, after_token}
use Rattle.tptp_lexer.proofs.Sound.{spelled_some}
use Rattle.tptp_grammar.specs.Tokens.{Text, Tokens}
use Rattle.tptp_grammar.specs.Terms as t
use Rattle.tptp_grammar.specs.Terms.{IsTerm, IsApplied, AreTerms, IsAtom, IsInequation}
use Rattle.tptp_grammar.specs.Types as y
use Rattle.tptp_grammar.specs.Types.{IsArgumentSort, IsResultSort, IsMap, IsShape, IsTyping}
use Rattle.tptp_grammar.specs.Formulas as f
use Rattle.tptp_grammar.specs.Formulas.{IsBoundVariable, IsUnit, IsFormula, AreUnits}
use Rattle.tptp_grammar.specs.Clauses as c
use Rattle.tptp_grammar.specs.Clauses.{IsLiteral, IsClause}
use Rattle.tptp_grammar.specs.TypedClauses as q
use Rattle.tptp_grammar.specs.TypedClauses.{IsTypedClause}
use Rattle.tptp_grammar.specs.GeneralTerms as g
use Rattle.tptp_grammar.specs.GeneralTerms.{IsFormulaOf, IsGeneralData, IsGeneralTerm, IsGeneralList, AreGeneralTerms}
use Rattle.tptp_grammar.specs.Items as i
use Rattle.tptp_grammar.specs.Items.{IsName, IsBody, IsEnd, IsSelection, IsItem}
use Rattle.tptp_grammar.specs.Solid.{Placed}
use Rattle.tptp_grammar.specs.Files.{Through, last_token, dropped, token, IsFile, end_of_file, comment, input, Spells}
use Rattle.tptp_grammar.specs.Laws.{PartSpells}

-- ---- sizes and tokens

-- There is a token before the rest, and as many as the size has.
record Fits (size : Size) (ts rest : Tokens) : Type 0 where
  some : length rest < length ts
  longest : size.longest + length rest ≤ length ts
  variables : size.variables + length rest ≤ length ts

-- a token alone
word_small : {w : Token} {n : ℕ} {rest : Tokens} → Fits small ((w, n) ∷ rest) rest
word_small = record { some = omega arith; longest = omega arith; variables = omega arith }

word_variable : {w : Token} {n : ℕ} {rest : Tokens} → Fits one_variable ((w, n) ∷ rest) rest
word_variable = record { some = omega arith; longest = omega arith; variables = omega arith }

-- with a token before it
after : {w : Token} {n : ℕ} {s : Size} {ts rest : Tokens} → Fits s ts rest → Fits s ((w, n) ∷ ts) rest
after h = record { some = omega (arith, h.some); longest = omega (arith, h.longest); variables = omega (arith, h.variables) }

-- with a token behind it
before : {w : Token} {n : ℕ} {s : Size} {ts rest : Tokens} → Fits s ts ((w, n) ∷ rest) → Fits s ts rest
before h = record { some = omega (arith, h.some); longest = omega (arith, h.longest); variables = omega (arith, h.variables) }

beside : {a b : Size} {ts mid rest : Tokens} → Fits a ts mid → Fits b mid rest → Fits (both a b) ts rest
beside {a = a} {b = b} h k = record {
  some = omega (arith, h.some, k.some);
  longest = omega (arith, h.some, k.some, h.longest, k.longest);
  variables = omega (arith, h.variables, k.variables);
}

-- behind or before further tokens
then : {s r : Size} {ts mid rest : Tokens} → Fits s ts mid → Fits r mid rest → Fits s ts rest
then h k = record { some = omega (arith, h.some, k.some); longest = omega (arith, h.longest, k.some); variables = omega (arith, h.variables, k.some) }

behind : {s r : Size} {ts mid rest : Tokens} → Fits r ts mid → Fits s mid rest → Fits s ts rest
behind h k = record { some = omega (arith, h.some, k.some); longest = omega (arith, h.some, k.longest); variables = omega (arith, h.some, k.variables) }

-- beside what is small
with_small : {s : Size} {ts rest : Tokens} → Fits s ts rest → Fits (both s small) ts rest
with_small h = record { some = h.some; longest = omega (arith, h.longest); variables = omega (arith, h.variables) }

-- with nothing around it
tokens_small : {s : Size} {ts rest : Tokens} → Fits s ts rest → Fits small ts rest
tokens_small h = record { some = h.some; longest = omega (arith, h.some); variables = omega (arith, h.some) }

-- ---- lists

no_members : {w : Token} {n : ℕ} {rest : Tokens} → Fits (list_of []) ((w, n) ∷ rest) rest
no_members = record { some = omega arith; longest = omega arith; variables = omega arith }

last_member : {s : Size} {ts rest : Tokens} → Fits s ts rest → Fits (list_of (s ∷ [])) ts rest
last_member h = record { some = h.some; longest = omega (arith, h.some, h.longest); variables = omega (arith, h.variables) }

more_members : {w : Token} {n : ℕ} {s : Size} {ts mid rest : Tokens} (ss : List Size) → Fits s ts ((w, n) ∷ mid) → Fits (list_of ss) mid rest → Fits (list_of (s ∷ ss)) ts rest
more_members ss h k = record {
  some = omega (arith, h.some, k.some);
  longest = omega (arith, h.some, k.some, h.longest, k.longest);
  variables = omega (arith, h.variables, k.variables);
}

last_alone : {ts rest : Tokens} → Fits small ts rest → Fits (list_alone 1) ts rest
last_alone h = record { some = h.some; longest = omega (arith, h.some); variables = omega (arith, h.some) }

more_alone : {w : Token} {n k : ℕ} {ts mid rest : Tokens} → Fits small ts ((w, n) ∷ mid) → Fits (list_alone k) mid rest → Fits (list_alone (suc k)) ts rest
more_alone h k = record { some = omega (arith, h.some, k.some); longest = omega (arith, h.some, k.longest); variables = omega (arith, h.some, k.some) }

-- ---- terms and atoms

mutual
  of_term : {d : ℕ} {x : STerm} {ts rest : Tokens} → IsTerm d x ts rest → Fits (size_of_term x) ts rest
  of_term t.variable = rw size-Var word_variable
  of_term (t.function h) = rw size-App (of_applied h)

  of_applied : {d : ℕ} {n : Text} {xs : List STerm} {ts rest : Tokens} → IsApplied d n xs ts rest → Fits (list_of (map size_of_term xs)) ts rest
  of_applied (t.constant e) = no_members
  of_applied (t.application e h) = after (after (before (of_terms h)))

  of_terms : {d : ℕ} {xs : List STerm} {ts rest : Tokens} → AreTerms d xs ts rest → Fits (list_of (map size_of_term xs)) ts rest
  of_terms (t.last_term h) = last_member (of_term h)
  of_terms (t.more_terms {xs = xs} h k) = more_members (map size_of_term xs) (of_term h) (of_terms k)

of_atom : {d : ℕ} {a : Surface} {ts rest : Tokens} → IsAtom d a ts rest → Fits (size_of_form a) ts rest
of_atom (t.truth e) = rw size-True word_small
of_atom (t.falsehood e) = rw size-False word_small
of_atom (t.predicate h) = rw size-Atom (of_applied h)
of_atom (t.equation h k) = rw size-Eq (beside (before (of_term h)) (of_term k))

of_inequation : {d : ℕ} {a : Surface} {ts rest : Tokens} → IsInequation d a ts rest → Fits (size_of_form a) ts rest
of_inequation (t.inequation h k) = rw size-Neq (beside (before (of_term h)) (of_term k))

-- ---- sorts and type lines

of_argument_sort : {d : ℕ} {s : SortName} {ts rest : Tokens} → IsArgumentSort d s ts rest → Fits small ts rest
of_argument_sort (y.named_sort e) = word_small
of_argument_sort (y.individuals e) = word_small

of_result_sort : {d : ℕ} {s : SortName} {ts rest : Tokens} → IsResultSort d s ts rest → Fits small ts rest
of_result_sort (y.argument_sort h) = of_argument_sort h
of_result_sort (y.truth_values e) = word_small

of_sorts : {d : ℕ} {ss : List SortName} {ts rest : Tokens} → Listed (Sign m.Star) d (IsArgumentSort d) ss ts rest → Fits (list_alone (length ss)) ts rest
of_sorts (last h) = last_alone (of_argument_sort h)
of_sorts (more h k) = more_alone (of_argument_sort h) (of_sorts k)

of_map : {d : ℕ} {s : Shape} {ts rest : Tokens} → IsMap d s ts rest → Fits (size_of_shape s) ts rest
of_map (y.map_of_one h k) = then (last_alone (before (of_argument_sort h))) (of_result_sort k)
of_map (y.map_of_more h j k) = after (then (before (before (more_alone (of_argument_sort h) (of_sorts j)))) (of_result_sort k))
of_map (y.map_in_parentheses h) = after (before (of_map h))

of_shape : {d : ℕ} {s : Shape} {ts rest : Tokens} → IsShape d s ts rest → Fits (size_of_shape s) ts rest
of_shape (y.sort_of_sorts e) = word_small
of_shape (y.sort_of_constant h) = of_result_sort h
of_shape (y.map h) = of_map h

of_typing : {d : ℕ} {s : Typing} {ts rest : Tokens} → IsTyping d s ts rest → Fits (size_of_shape s.shape) ts rest
of_typing (y.typing e h) = after (after (of_shape h))
of_typing (y.typing_in_parentheses h) = after (before (of_typing h))

-- ---- formulas and clauses

of_variable : {typed : Bool} {d : ℕ} {x : BoundVar} {ts rest : Tokens} → IsBoundVariable typed d x ts rest → Fits one_variable ts rest
of_variable f.untyped_variable = word_variable
of_variable (f.typed_variable e h) = then word_variable (after (of_argument_sort h))

of_variables : {typed : Bool} {d : ℕ} {xs : List BoundVar} {ts rest : Tokens} → Listed (Sign m.Comma) d (IsBoundVariable typed d) xs ts rest → Fits (list_of (map (λ x. one_variable) xs)) ts rest
of_variables (last h) = last_member (of_variable h)
of_variables (more {xs = xs} h k) = more_members (map (λ x. one_variable) xs) (of_variable h) (of_variables k)

mutual
  of_unit : {typed : Bool} {d : ℕ} {a : Surface} {ts rest : Tokens} → IsUnit typed d a ts rest → Fits (size_of_form a) ts rest
  of_unit (f.negation h) = rw size-Not (after (of_unit h))
  of_unit (f.parenthesis h) = after (before (of_formula h))
  of_unit (f.quantified e h k) = rw size-Bind (after (after (beside (before (before (of_variables h))) (of_unit k))))
  of_unit (f.atom h) = of_atom h
  of_unit (f.unequal h) = of_inequation h

  of_formula : {typed : Bool} {d : ℕ} {a : Surface} {ts rest : Tokens} → IsFormula typed d a ts rest → Fits (size_of_form a) ts rest
  of_formula (f.single h) = of_unit h
  of_formula (f.binary e h k) = rw size-Binary (beside (before (of_unit h)) (of_unit k))
  of_formula (f.disjunction {fs = fs} h k) = rw size-Or (more_members (map size_of_form fs) (of_unit h) (of_units k))
  of_formula (f.conjunction {fs = fs} h k) = rw size-And (more_members (map size_of_form fs) (of_unit h) (of_units k))

  of_units : {typed : Bool} {mark : Mark} {d : ℕ} {as_ : List Surface} {ts rest : Tokens} → AreUnits typed mark d as_ ts rest → Fits (list_of (map size_of_form as_)) ts rest
  of_units (f.last_unit h) = last_member (of_unit h)
  of_units (f.more_units {xs = xs} h k) = more_members (map size_of_form xs) (of_unit h) (of_units k)

of_literal : {d : ℕ} {a : Surface} {ts rest : Tokens} → IsLiteral d a ts rest → Fits (size_of_form a) ts rest
of_literal (c.positive h) = of_atom h
of_literal (c.unequal h) = of_inequation h
of_literal (c.negative h) = rw size-Not (after (of_atom h))
of_literal (c.negative_in_parentheses h) = rw size-Not (after (after (before (of_atom h))))

of_literals : {d : ℕ} {as_ : List Surface} {ts rest : Tokens} → Listed (Sign m.Bar) d (IsLiteral d) as_ ts rest → Fits (list_of (map size_of_form as_)) ts rest
of_literals (last h) = last_member (of_literal h)
of_literals (more {xs = xs} h k) = more_members (map size_of_form xs) (of_literal h) (of_literals k)

of_clause : {d : ℕ} {a : Surface} {ts rest : Tokens} → IsClause d a ts rest → Fits (size_of_form a) ts rest
of_clause (c.literal h) = of_literal h
of_clause (c.literals {fs = fs} h k) = rw size-Or (more_members (map size_of_form fs) (of_literal h) (of_literals k))
of_clause (c.clause_in_parentheses h) = after (before (of_clause h))

of_typed_clause : {d : ℕ} {a : Surface} {ts rest : Tokens} → IsTypedClause d a ts rest → Fits (size_of_form a) ts rest
of_typed_clause (q.unquantified h) = of_clause h
of_typed_clause (q.quantified_clause h k) = rw size-Bind (after (after (beside (before (before (of_variables h))) (of_typed_clause k))))

-- ---- general terms

of_embedded : (l : Lang) (d : ℕ) (a : Surface) (ts rest : Tokens) → IsFormulaOf l d a ts rest → Fits (size_of_form a) ts rest
of_embedded lang.Cnf d a ts rest h = of_clause h
of_embedded lang.Fof d a ts rest h = of_formula h
of_embedded lang.Tff d a ts rest h = of_formula h
of_embedded lang.Tcf d a ts rest h = of_typed_clause h

mutual
  of_data : {d : ℕ} {x : GTerm} {ts rest : Tokens} → IsGeneralData d x ts rest → Fits (size_of_general x) ts rest
  of_data (g.general_word e) = rw size-Word word_small
  of_data (g.general_function e h) = rw size-Func (after (after (before (of_generals h))))
  of_data g.general_variable = rw size-general-Var word_variable
  of_data g.number = rw size-Number word_small
  of_data g.distinct_object = rw size-Distinct word_small
  of_data (g.formula_data {d = d} {l = l} {f = a} {ts = ts} {rest = rest} e other h) = rw size-Formula (after (after (before (of_embedded l (suc d) a ts ((Sign m.Close, suc d) ∷ rest) h))))
  of_data (g.term_data e h) = rw size-Term (after (after (before (of_term h))))

  of_general : {d : ℕ} {x : GTerm} {ts rest : Tokens} → IsGeneralTerm d x ts rest → Fits (size_of_general x) ts rest
  of_general (g.general_data h) = of_data h
  of_general (g.pair h k) = rw size-Pair (beside (before (of_data h)) (of_general k))
  of_general (g.general_list h) = rw size-List (of_list h)

  of_list : {d : ℕ} {xs : List GTerm} {ts rest : Tokens} → IsGeneralList d xs ts rest → Fits (list_of (map size_of_general xs)) ts rest
  of_list g.empty_list = after no_members
  of_list (g.full_list h) = after (before (of_generals h))

  of_generals : {d : ℕ} {xs : List GTerm} {ts rest : Tokens} → AreGeneralTerms d xs ts rest → Fits (list_of (map size_of_general xs)) ts rest
  of_generals (g.last_general h) = last_member (of_general h)
  of_generals (g.more_general {xs = xs} h k) = more_members (map size_of_general xs) (of_general h) (of_generals k)

-- ---- items

of_name : {x : Name} {ts rest : Tokens} → IsName x ts rest → Fits small ts rest
of_name (i.word_name e) = word_small
of_name (i.integer_name e) = word_small

of_names : {xs : List Name} {ts rest : Tokens} → Listed (Sign m.Comma) 0 IsName xs ts rest → Fits (list_alone (length xs)) ts rest
of_names (last h) = last_alone (of_name h)
of_names (more h k) = more_alone (of_name h) (of_names k)

of_body : {l : Lang} {r : Role} {b : Body} {ts rest : Tokens} → IsBody l r b ts rest → Fits (size_of_body b) ts rest
of_body (i.cnf_body h) = of_clause h
of_body (i.fof_body h) = of_formula h
of_body (i.tff_body e h) = of_formula h
of_body (i.tcf_body h) = of_typed_clause h
of_body (i.type_body h) = of_typing h

of_end : {s : Option GTerm} {xs : Option (List GTerm)} {ts rest : Tokens} → IsEnd s xs ts rest → Fits (both (size_of_source s) (size_of_info xs)) ts rest
of_end i.no_source = with_small (after word_small)
of_end (i.source h) = after (with_small (before (before (of_general h))))
of_end (i.source_and_info h k) = after (beside (before (of_general h)) (before (before (of_list k))))

of_selection : {xs : Option (List Name)} {ts rest : Tokens} → IsSelection xs ts rest → Fits (size_of_selection xs) ts rest
of_selection i.whole_file = after word_small
of_selection (i.selected h) = after (after (before (before (before (of_names h)))))

of_item : {style : Style} {place : Place} {x : Item} {ts rest : Tokens} → IsItem style place x ts rest → Fits (size_of_item x) ts rest
of_item (i.annotated e has h j k x) = after (after (behind (of_name h) (after (after (after (beside (of_body k) (of_end x)))))))
of_item (i.include e h) = after (after (after (of_selection h)))

-- ---- files

through_fewer : {ts rest : List Placed} {us mid : Tokens} → Through ts rest us mid → length us + length rest ≤ length ts + length mid
through_fewer (last_token h) = omega arith
through_fewer (dropped others) = let few = through_fewer others in omega (arith, few)
through_fewer (token h others) = let few = through_fewer others in omega (arith, few)

-- the size of a file's items: each has tokens of its own
file_within : {style : Style} {items : List Item} {ts : List Placed} {us : Tokens} → IsFile style items ts us → IsWithin (length ts) (size_of_items items)
file_within end_of_file = record { longest = omega arith; variables = omega arith }
file_within (comment {items = items} others) =
    let later = file_within others in
    record { longest = omega (arith, later.longest); variables = omega (arith, later.variables) }
file_within (input {i = x} {items = items} is through others) =
    let first = of_item is in
    let later = file_within others in
    let few = through_fewer through in
    record {
      longest = omega (arith, first.some, first.longest, later.longest, few);
      variables = omega (arith, first.variables, later.variables, few);
    }

pub tokens_within : (style : Style) (tokens : List Placed) (items : List Item) → Spells style items tokens → IsWithin (length tokens) (size_of_items items)
tokens_within style tokens items spells = file_within spells.1

-- ---- texts

pub cut_few : {T : Type 0} {style : Style} {item : Token → ℕ → T} {at end : ℕ} {text rest : Bytes} {items : List T} → Cut style item at text items end rest → length items ≤ length text
cut_few here = omega arith
cut_few (after_blank h others) = let few = cut_few others in omega (arith, few)
cut_few (after_token spelling {text = text} spelled longest others) =
    let few = cut_few others in
    let some = spelled_some spelled in
    omega (arith, few, some, length-append spelling text)

pub within_more : (n k : ℕ) (size : Size) → n ≤ k → IsWithin n size → IsWithin k size
within_more n k size le h = record { longest = omega (arith, le, h.longest); variables = omega (arith, le, h.variables) }

pub text_within : (style : Style) (file : ℕ) (text : Bytes) (region : Region) (items : List Item) → PartSpells style file text region items → IsWithin (length (part text region)) (size_of_items items)
text_within style file text region items (tokens, end, (k, cut, is), spells) =
    within_more (length tokens) (length (part text region)) (size_of_items items) (cut_few cut) (tokens_within style tokens items spells)
