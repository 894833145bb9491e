-- The names that items have are words among the tokens that spell them, and so they can be written between quotes.
use Rattle.std.proofs.Common.{◌≡◌, ℕ, Bool, List, [], ◌∷◌, map, Some, subst}
use Rattle.std.specs.List.{AllByRecursion}
use Rattle.first_fault.specs.Rules.{Listed, last, more}
use Rattle.first_fault.specs.Nesting.{Nested}
use Rattle.tptp_base.specs.declared.place.Place.{Place}
use Rattle.tptp_base.specs.declared.surface.STerm.{STerm}
use Rattle.tptp_base.specs.declared.surface.Surface.{Surface}
use Rattle.tptp_base.specs.declared.item.Lang.{Lang}
use Rattle.tptp_base.specs.declared.item.Role.{Role}
use Rattle.tptp_base.specs.declared.item.Typing.{Typing}
use Rattle.tptp_base.specs.declared.item.Body.{Body}
use Rattle.tptp_base.specs.declared.item.Item.{Item}
use Rattle.tptp_base.specs.Names.{Names, together, names_of_term, names_of_form, names_of_body, names_of_item, names_of_items}
use Rattle.tptp_base.specs.Quotable.{IsQuotable, AreQuotable}
use Rattle.tptp_base.proofs.Naming.{names-Var, names-App, names-True, names-False, names-Atom, names-Eq, names-Neq, names-Not, names-And, names-Or, names-Binary, names-Bind, quotable_both}
use Rattle.tptp_lexer.specs.declared.style.Style.{Style}
use Rattle.tptp_lexer.specs.declared.token.Mark.{Mark}
use Rattle.tptp_lexer.specs.declared.token.Mark.TheVariants as m
use Rattle.tptp_lexer.specs.declared.token.Token.{Token}
use Rattle.tptp_lexer.specs.declared.token.Token.TheVariants.{Lower, Quoted, Mark as Sign}
use Rattle.tptp_lexer.specs.Bytes.{Text as Bytes}
use Rattle.tptp_lexer.specs.Tokenized.{Cut, placed}
use Rattle.tptp_lexer.proofs.Nameable.{IsNameable, AreNameable, cut_nameable}
use Rattle.tptp_grammar.specs.Tokens.{Text, Tokens, word}
use Rattle.tptp_grammar.specs.Terms as t
use Rattle.tptp_grammar.specs.Terms.{IsTerm, IsApplied, AreTerms, IsAtom, IsInequation}
use Rattle.tptp_grammar.specs.Types as y
use Rattle.tptp_grammar.specs.Types.{IsTyping}
use Rattle.tptp_grammar.specs.Formulas as f
use Rattle.tptp_grammar.specs.Formulas.{IsUnit, IsFormula, AreUnits}
use Rattle.tptp_grammar.specs.Clauses as c
use Rattle.tptp_grammar.specs.Clauses.{IsLiteral, IsClause}
use Rattle.tptp_grammar.specs.TypedClauses as q
use Rattle.tptp_grammar.specs.TypedClauses.{IsTypedClause}
use Rattle.tptp_grammar.specs.Items as i
use Rattle.tptp_grammar.specs.Items.{IsBody, IsItem}
use Rattle.tptp_grammar.specs.Solid.{Placed}
use Rattle.tptp_grammar.specs.Files.{Through, last_token, dropped, token, IsFile, end_of_file, comment, input, Spells}
use Rattle.tptp_grammar.proofs.SolidItems.{ClearTo, none, one, DotTo, dot, earlier, of_shape, of_variables, of_name, of_end, of_selection}

-- ---- tokens

-- The words among the tokens can be written between quotes.
abbrev Words : Tokens → Type 0
Words tokens = AllByRecursion (λ (entry : Nested Token). IsNameable entry.0) tokens

-- the names of what is spelled can, and so can the words behind it
abbrev Spelt : Names → Tokens → Type 0
Spelt names rest = AreQuotable names × Words rest

behind : {ts rest : Tokens} → ClearTo ts rest → Words ts → Words rest
behind none all = all
behind (one clear h) all = behind h all.1

behind_dot : {ts rest : Tokens} → DotTo ts rest → Words ts → Words rest
behind_dot dot all = all.1
behind_dot (earlier clear h) all = behind_dot h all.1

word_quotable : (w : Token) (name : Text) → word w ≡ Some name → IsNameable w → IsQuotable name
word_quotable (Lower own) name e h = (let same : own ≡ name = cc in subst IsQuotable same h)
word_quotable (Quoted own) name e h = (let same : own ≡ name = cc in subst IsQuotable same h)
word_quotable w name e h = cc

-- ---- terms and atoms

mutual
  of_term : {d : ℕ} {x : STerm} {ts rest : Tokens} → IsTerm d x ts rest → Words ts → Spelt (names_of_term x) rest
  of_term t.variable all = (rw names-Var tt, all.1)
  of_term (t.function h) all = (let inner = of_applied h all in (rw names-App inner.0, inner.1))

  of_applied : {d : ℕ} {n : Text} {xs : List STerm} {ts rest : Tokens} → IsApplied d n xs ts rest → Words ts → Spelt (n ∷ together (map names_of_term xs)) rest
  of_applied (t.constant {w = w} {f = n} e) all = ((word_quotable w n e all.0, tt), all.1)
  of_applied (t.application {w = w} {f = n} e h) all = (let inner = of_terms h all.1.1 in ((word_quotable w n e all.0, inner.0), inner.1.1))

  of_terms : {d : ℕ} {xs : List STerm} {ts rest : Tokens} → AreTerms d xs ts rest → Words ts → Spelt (together (map names_of_term xs)) rest
  of_terms (t.last_term {x = x} h) all = (let first = of_term h all in (quotable_both (names_of_term x) [] first.0 tt, first.1))
  of_terms (t.more_terms {x = x} {xs = xs} h k) all =
      (let first = of_term h all in let others = of_terms k first.1.1 in (quotable_both (names_of_term x) (together (map names_of_term xs)) first.0 others.0, others.1))

of_atom : {d : ℕ} {a : Surface} {ts rest : Tokens} → IsAtom d a ts rest → Words ts → Spelt (names_of_form a) rest
of_atom (t.truth e) all = (rw names-True tt, all.1)
of_atom (t.falsehood e) all = (rw names-False tt, all.1)
of_atom (t.predicate h) all = (let inner = of_applied h all in (rw names-Atom inner.0, inner.1))
of_atom (t.equation {a = a} {b = b} h k) all =
    (let left = of_term h all in let right = of_term k left.1.1 in (rw names-Eq (quotable_both (names_of_term a) (names_of_term b) left.0 right.0), right.1))

of_inequation : {d : ℕ} {a : Surface} {ts rest : Tokens} → IsInequation d a ts rest → Words ts → Spelt (names_of_form a) rest
of_inequation (t.inequation {a = a} {b = b} h k) all =
    (let left = of_term h all in let right = of_term k left.1.1 in (rw names-Neq (quotable_both (names_of_term a) (names_of_term b) left.0 right.0), right.1))

-- ---- formulas and clauses

mutual
  of_unit : {typed : Bool} {d : ℕ} {a : Surface} {ts rest : Tokens} → IsUnit typed d a ts rest → Words ts → Spelt (names_of_form a) rest
  of_unit (f.negation h) all = (let inner = of_unit h all.1 in (rw names-Not inner.0, inner.1))
  of_unit (f.parenthesis h) all = (let inner = of_formula h all.1 in (inner.0, inner.1.1))
  of_unit (f.quantified e h k) all = (let inner = of_unit k (behind (of_variables h) all.1.1).1.1 in (rw names-Bind inner.0, inner.1))
  of_unit (f.atom h) all = of_atom h all
  of_unit (f.unequal h) all = of_inequation h all

  of_formula : {typed : Bool} {d : ℕ} {a : Surface} {ts rest : Tokens} → IsFormula typed d a ts rest → Words ts → Spelt (names_of_form a) rest
  of_formula (f.single h) all = of_unit h all
  of_formula (f.binary {a = a} {b = b} e h k) all =
      (let left = of_unit h all in let right = of_unit k left.1.1 in (rw names-Binary (quotable_both (names_of_form a) (names_of_form b) left.0 right.0), right.1))
  of_formula (f.disjunction {a = a} {fs = fs} h k) all =
      (let first = of_unit h all in let others = of_units k first.1.1 in (rw names-Or (quotable_both (names_of_form a) (together (map names_of_form fs)) first.0 others.0), others.1))
  of_formula (f.conjunction {a = a} {fs = fs} h k) all =
      (let first = of_unit h all in let others = of_units k first.1.1 in (rw names-And (quotable_both (names_of_form a) (together (map names_of_form fs)) first.0 others.0), others.1))

  of_units : {typed : Bool} {mark : Mark} {d : ℕ} {as_ : List Surface} {ts rest : Tokens} → AreUnits typed mark d as_ ts rest → Words ts → Spelt (together (map names_of_form as_)) rest
  of_units (f.last_unit {x = x} h) all = (let first = of_unit h all in (quotable_both (names_of_form x) [] first.0 tt, first.1))
  of_units (f.more_units {x = x} {xs = xs} h k) all =
      (let first = of_unit h all in let others = of_units k first.1.1 in (quotable_both (names_of_form x) (together (map names_of_form xs)) first.0 others.0, others.1))

of_literal : {d : ℕ} {a : Surface} {ts rest : Tokens} → IsLiteral d a ts rest → Words ts → Spelt (names_of_form a) rest
of_literal (c.positive h) all = of_atom h all
of_literal (c.unequal h) all = of_inequation h all
of_literal (c.negative h) all = (let inner = of_atom h all.1 in (rw names-Not inner.0, inner.1))
of_literal (c.negative_in_parentheses h) all = (let inner = of_atom h all.1.1 in (rw names-Not inner.0, inner.1.1))

of_literals : {d : ℕ} {as_ : List Surface} {ts rest : Tokens} → Listed (Sign m.Bar) d (IsLiteral d) as_ ts rest → Words ts → Spelt (together (map names_of_form as_)) rest
of_literals (last {x = x} h) all = (let first = of_literal h all in (quotable_both (names_of_form x) [] first.0 tt, first.1))
of_literals (more {x = x} {xs = xs} h k) all =
    (let first = of_literal h all in let others = of_literals k first.1.1 in (quotable_both (names_of_form x) (together (map names_of_form xs)) first.0 others.0, others.1))

of_clause : {d : ℕ} {a : Surface} {ts rest : Tokens} → IsClause d a ts rest → Words ts → Spelt (names_of_form a) rest
of_clause (c.literal h) all = of_literal h all
of_clause (c.literals {f = a} {fs = fs} h k) all =
    (let first = of_literal h all in let others = of_literals k first.1.1 in (rw names-Or (quotable_both (names_of_form a) (together (map names_of_form fs)) first.0 others.0), others.1))
of_clause (c.clause_in_parentheses h) all = (let inner = of_clause h all.1 in (inner.0, inner.1.1))

of_typed_clause : {d : ℕ} {a : Surface} {ts rest : Tokens} → IsTypedClause d a ts rest → Words ts → Spelt (names_of_form a) rest
of_typed_clause (q.unquantified h) all = of_clause h all
of_typed_clause (q.quantified_clause h k) all = (let inner = of_typed_clause k (behind (of_variables h) all.1.1).1.1 in (rw names-Bind inner.0, inner.1))

-- ---- items

of_typing : {d : ℕ} {s : Typing} {ts rest : Tokens} → IsTyping d s ts rest → Words ts → Spelt (s.name ∷ []) rest
of_typing (y.typing {w = w} {f = n} e h) all = ((word_quotable w n e all.0, tt), behind (of_shape h) all.1.1)
of_typing (y.typing_in_parentheses h) all = (let inner = of_typing h all.1 in (inner.0, inner.1.1))

of_body : {l : Lang} {r : Role} {b : Body} {ts rest : Tokens} → IsBody l r b ts rest → Words ts → Spelt (names_of_body b) rest
of_body (i.cnf_body h) all = of_clause h all
of_body (i.fof_body h) all = of_formula h all
of_body (i.tff_body e h) all = of_formula h all
of_body (i.tcf_body h) all = of_typed_clause h all
of_body (i.type_body h) all = of_typing h all

of_item : {style : Style} {place : Place} {x : Item} {ts rest : Tokens} → IsItem style place x ts rest → Words ts → Spelt (names_of_item x) rest
of_item (i.annotated e has h j k x) all = (let inner = of_body k (behind (of_name h) all.1.1).1.1.1 in (inner.0, behind_dot (of_end x) inner.1))
of_item (i.include e h) all = ((all.1.1.0, tt), behind_dot (of_selection h) all.1.1.1)

-- ---- files

-- tokens among comments
rest_nameable : {ts rest : List Placed} {us mid : Tokens} → Through ts rest us mid → AreNameable ts → AreNameable rest
rest_nameable (last_token solid) all = all.1
rest_nameable (dropped h) all = rest_nameable h all.1
rest_nameable (token solid h) all = rest_nameable h all.1

through_nameable : {ts rest : List Placed} {us mid : Tokens} → Through ts rest us mid → AreNameable ts → Words mid → Words us
through_nameable (last_token solid) all behind_ = (all.0, behind_)
through_nameable (dropped h) all behind_ = through_nameable h all.1 behind_
through_nameable (token solid h) all behind_ = (all.0, through_nameable h all.1 behind_)

file_nameable : {style : Style} {items : List Item} {ts : List Placed} {us : Tokens} → IsFile style items ts us → AreNameable ts → Words us
file_nameable end_of_file all = tt
file_nameable (comment h) all = file_nameable h all.1
file_nameable (input h through k) all = (all.0, through_nameable through all.1 (file_nameable k (rest_nameable through all.1)))

file_names : {style : Style} {items : List Item} {ts : List Placed} {us : Tokens} → IsFile style items ts us → Words us → AreQuotable (names_of_items items)
file_names end_of_file all = tt
file_names (comment h) all = file_names h all
file_names (input {i = x} {items = items} h through k) all =
    (let first = of_item h all in quotable_both (names_of_item x) (names_of_items items) first.0 (file_names k first.1))

-- The tokens of a part of a text spell items whose names can be written between quotes.
pub spelled_names : (style : Style) (file : ℕ) (whole : Bytes) (at : ℕ) (text : Bytes) (tokens : List Placed) (end : ℕ) (rest : Bytes) (items : List Item)
    → Cut style (placed file whole) at text tokens end rest → Spells style items tokens → AreQuotable (names_of_items items)
spelled_names style file whole at text tokens end rest items cut spells = file_names spells.1 (file_nameable spells.1 (cut_nameable style file whole cut))
