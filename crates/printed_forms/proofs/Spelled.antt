-- What tokens spell has no list of one: the grammar has none.
use Rattle.std.specs.Prelude.{◌≡◌, ℕ, Bool, true, List, [], ◌∷◌, map, refl}
use Rattle.std.specs.List.{list_all}
use Rattle.std.proofs.Common.{◌∙◌}
use Rattle.std.proofs.lemmas.Bool.{and_from}
use Rattle.first_fault.specs.Rules.{Listed, last, more}
use Rattle.tptp_base.specs.declared.item.Body.{Body}
use Rattle.tptp_base.specs.declared.item.Item.{Item}
use Rattle.tptp_base.specs.declared.item.Lang.{Lang}
use Rattle.tptp_base.specs.declared.item.Role.{Role}
use Rattle.tptp_base.specs.declared.place.Place.{Place}
use Rattle.tptp_base.specs.declared.surface.Surface.{Surface}
use Rattle.tptp_lexer.specs.declared.style.Style.{Style}
use Rattle.tptp_lexer.specs.declared.token.Mark.{Mark}
use Rattle.tptp_lexer.specs.declared.token.Mark.TheVariants as m
use Rattle.tptp_lexer.specs.declared.token.Token.TheVariants.{Mark as Sign}
use Rattle.tptp_grammar.specs.Tokens.{Tokens}
use Rattle.tptp_grammar.specs.Terms as t
use Rattle.tptp_grammar.specs.Terms.{IsAtom, IsInequation}
use Rattle.tptp_grammar.specs.Formulas as f
use Rattle.tptp_grammar.specs.Formulas.{IsUnit, IsFormula, AreUnits}
use Rattle.tptp_grammar.specs.Clauses as c
use Rattle.tptp_grammar.specs.Clauses.{IsLiteral, IsClause}
use Rattle.tptp_grammar.specs.TypedClauses as q
use Rattle.tptp_grammar.specs.TypedClauses.{IsTypedClause}
use Rattle.tptp_grammar.specs.Items as i
use Rattle.tptp_grammar.specs.Items.{IsBody, IsItem}
use Rattle.tptp_grammar.specs.Solid.{Placed}
use Rattle.tptp_grammar.specs.Files.{IsFile, end_of_file, comment, input, Spells}
use Rattle.printed_forms.specs.Lists.{are_listed}
use Rattle.printed_forms.specs.Written.{writes_no_list_of_one, AreItemsListed, IsBodyListed, IsItemListed}
use Rattle.printed_forms.proofs.WrittenFacts.{writes-True, writes-False, writes-Atom, writes-Eq, writes-Neq, writes-Not, writes-And, writes-Or, writes-Binary, writes-Bind}

abbrev IsListed : Surface → Type 0
IsListed a = writes_no_list_of_one a ≡ true

-- each member of some list is, and the list has a member
record AreMembers (as_ : List Surface) : Type 0 where
  first : Surface
  others : List Surface
  are : as_ ≡ first ∷ others
  all : list_all (λ part. part) (map writes_no_list_of_one as_) ≡ true

one_member : (a : Surface) → IsListed a → AreMembers (a ∷ [])
one_member a is = record { first = a; others = []; are = refl; all = and_from (writes_no_list_of_one a) true is refl }

more_members : (a : Surface) (as_ : List Surface) → IsListed a → AreMembers as_ → AreMembers (a ∷ as_)
more_members a as_ is members = record { first = a; others = as_; are = refl; all = and_from (writes_no_list_of_one a) (list_all (λ part. part) (map writes_no_list_of_one as_)) is members.all }

-- a member before such a list
listed_before : (a : Surface) (as_ : List Surface) → IsListed a → AreMembers as_ → are_listed (map writes_no_list_of_one (a ∷ as_)) ≡ true
listed_before a [] is members = absurd (let clash : List.[] ≡ members.first ∷ members.others = members.are in cc)
listed_before a (b ∷ as_) is members = and_from (writes_no_list_of_one a) (list_all (λ part. part) (map writes_no_list_of_one (b ∷ as_))) is members.all

of_atom : {d : ℕ} {a : Surface} {ts rest : Tokens} → IsAtom d a ts rest → IsListed a
of_atom (t.truth e) = writes-True
of_atom (t.falsehood e) = writes-False
of_atom (t.predicate {f = word} {xs = xs} h) = writes-Atom word xs
of_atom (t.equation {a = a} {b = b} h k) = writes-Eq a b

of_inequation : {d : ℕ} {a : Surface} {ts rest : Tokens} → IsInequation d a ts rest → IsListed a
of_inequation (t.inequation {a = a} {b = b} h k) = writes-Neq a b

mutual
  of_unit : {typed : Bool} {d : ℕ} {a : Surface} {ts rest : Tokens} → IsUnit typed d a ts rest → IsListed a
  of_unit (f.negation {f = a} h) = writes-Not a ∙ of_unit h
  of_unit (f.parenthesis h) = of_formula h
  of_unit (f.quantified {q = quant} {xs = xs} {f = a} e h k) = writes-Bind quant xs a ∙ of_unit k
  of_unit (f.atom h) = of_atom h
  of_unit (f.unequal h) = of_inequation h

  of_formula : {typed : Bool} {d : ℕ} {a : Surface} {ts rest : Tokens} → IsFormula typed d a ts rest → IsListed a
  of_formula (f.single h) = of_unit h
  of_formula (f.binary {o = o} {a = a} {b = b} e h k) = writes-Binary o a b ∙ and_from (writes_no_list_of_one a) (writes_no_list_of_one b) (of_unit h) (of_unit k)
  of_formula (f.disjunction {a = a} {fs = fs} h k) = writes-Or (a ∷ fs) ∙ listed_before a fs (of_unit h) (of_units k)
  of_formula (f.conjunction {a = a} {fs = fs} h k) = writes-And (a ∷ fs) ∙ listed_before a fs (of_unit h) (of_units k)

  of_units : {typed : Bool} {mark : Mark} {d : ℕ} {as_ : List Surface} {ts rest : Tokens} → AreUnits typed mark d as_ ts rest → AreMembers as_
  of_units (f.last_unit {x = x} h) = one_member x (of_unit h)
  of_units (f.more_units {x = x} {xs = xs} h k) = more_members x xs (of_unit h) (of_units k)

of_literal : {d : ℕ} {a : Surface} {ts rest : Tokens} → IsLiteral d a ts rest → IsListed a
of_literal (c.positive h) = of_atom h
of_literal (c.unequal h) = of_inequation h
of_literal (c.negative {f = a} h) = writes-Not a ∙ of_atom h
of_literal (c.negative_in_parentheses {f = a} h) = writes-Not a ∙ of_atom h

of_literals : {d : ℕ} {as_ : List Surface} {ts rest : Tokens} → Listed (Sign m.Bar) d (IsLiteral d) as_ ts rest → AreMembers as_
of_literals (last {x = x} h) = one_member x (of_literal h)
of_literals (more {x = x} {xs = xs} h k) = more_members x xs (of_literal h) (of_literals k)

of_clause : {d : ℕ} {a : Surface} {ts rest : Tokens} → IsClause d a ts rest → IsListed a
of_clause (c.literal h) = of_literal h
of_clause (c.literals {f = a} {fs = fs} h k) = writes-Or (a ∷ fs) ∙ listed_before a fs (of_literal h) (of_literals k)
of_clause (c.clause_in_parentheses h) = of_clause h

of_typed_clause : {d : ℕ} {a : Surface} {ts rest : Tokens} → IsTypedClause d a ts rest → IsListed a
of_typed_clause (q.unquantified h) = of_clause h
of_typed_clause (q.quantified_clause {xs = xs} {f = a} h k) = writes-Bind _ xs a ∙ of_typed_clause k

of_body : {l : Lang} {r : Role} {b : Body} {ts rest : Tokens} → IsBody l r b ts rest → IsBodyListed b
of_body (i.cnf_body h) = of_clause h
of_body (i.fof_body h) = of_formula h
of_body (i.tff_body e h) = of_formula h
of_body (i.tcf_body h) = of_typed_clause h
of_body (i.type_body h) = tt

of_item : {style : Style} {place : Place} {x : Item} {ts rest : Tokens} → IsItem style place x ts rest → IsItemListed x
of_item (i.annotated e has h j k x) = of_body k
of_item (i.include e h) = tt

of_file : {style : Style} {items : List Item} {ts : List Placed} {us : Tokens} → IsFile style items ts us → AreItemsListed items
of_file end_of_file = tt
of_file (comment h) = (tt, of_file h)
of_file (input h through k) = (of_item h, of_file k)

pub spelled_listed : (style : Style) (items : List Item) (tokens : List Placed) → Spells style items tokens → AreItemsListed items
spelled_listed style items tokens spells = of_file spells.1
