-- The productions of annotated formulas and includes.
use Rattle.std.specs.Prelude.{◌≡◌, true, false, List, ◌∷◌, Option, Some, None, codes}
use Rattle.first_fault.specs.Rules.{Listed}
use Rattle.tptp_lexer.specs.declared.style.Style.{Style}
use Rattle.tptp_lexer.specs.declared.token.Token.{Token}
use Rattle.tptp_lexer.specs.declared.token.Token.TheVariants.{Lower, Quoted, Number, Mark as Sign}
use Rattle.tptp_base.specs.Numerals.{is_integer}
use Rattle.tptp_base.specs.declared.place.Place.{Place}
use Rattle.tptp_base.specs.declared.surface.Surface.{Surface}
use Rattle.tptp_base.specs.declared.name.Name.{Name}
use Rattle.tptp_base.specs.declared.item.Lang.{Lang}
use Rattle.tptp_base.specs.declared.item.Role.{Role}
use Rattle.tptp_base.specs.declared.item.Typing.{Typing}
use Rattle.tptp_base.specs.declared.item.Body.{Body}
use Rattle.tptp_base.specs.declared.item.GTerm.{GTerm}
use Rattle.tptp_base.specs.declared.item.Item.{Item}
use Rattle.tptp_grammar.specs.Tokens.{Text, Tokens, word, lang_text, has_language, role_text}
use Rattle.tptp_grammar.specs.Formulas.{IsFormula}
use Rattle.tptp_grammar.specs.Clauses.{IsClause}
use Rattle.tptp_grammar.specs.TypedClauses.{IsTypedClause}
use Rattle.tptp_grammar.specs.Types.{IsTyping}
use Rattle.tptp_grammar.specs.GeneralTerms.{IsGeneralTerm, IsGeneralList}
use Rattle.tptp_lexer.specs.declared.token.Mark.TheVariants as m
use Rattle.tptp_base.specs.declared.name.Name.TheVariants as nm
use Rattle.tptp_base.specs.declared.item.Lang.TheVariants as lang
use Rattle.tptp_base.specs.declared.item.Role.TheVariants as role
use Rattle.tptp_base.specs.declared.item.Body.TheVariants as body
use Rattle.tptp_base.specs.declared.item.Item.TheVariants as item

-- <name> ::= <atomic_word> | <integer>
pub data IsName : Name → Tokens → Tokens → Type 0 where
  word_name : {w : Token} {n : Text} {rest : Tokens} → word w ≡ Some n → IsName (nm.Word n) ((w, 0) ∷ rest) rest
  integer_name : {n : Text} {rest : Tokens} → is_integer n ≡ true → IsName (nm.Integer n) ((Number n, 0) ∷ rest) rest

-- the body of a language and a role
pub data IsBody : Lang → Role → Body → Tokens → Tokens → Type 0 where
  cnf_body : {r : Role} {f : Surface} {ts rest : Tokens} → IsClause 0 f ts rest → IsBody lang.Cnf r (body.Logic f) ts rest
  fof_body : {r : Role} {f : Surface} {ts rest : Tokens} → IsFormula false 0 f ts rest → IsBody lang.Fof r (body.Logic f) ts rest
  tff_body : {r : Role} {f : Surface} {ts rest : Tokens} → (r ≡ role.Typing → ⊥) → IsFormula true 0 f ts rest → IsBody lang.Tff r (body.Logic f) ts rest
  tcf_body : {r : Role} {f : Surface} {ts rest : Tokens} → IsTypedClause 0 f ts rest → IsBody lang.Tcf r (body.Logic f) ts rest
  type_body : {t : Typing} {ts rest : Tokens} → IsTyping 0 t ts rest → IsBody lang.Tff role.Typing (body.Typing t) ts rest

-- <annotations> ::= ,<source><optional_info> | <null>, and the tokens that end an annotated formula
pub data IsEnd : Option GTerm → Option (List GTerm) → Tokens → Tokens → Type 0 where
  no_source : {rest : Tokens} → IsEnd None None ((Sign m.Close, 0) ∷ (Sign m.Dot, 0) ∷ rest) rest
  source : {s : GTerm} {ts rest : Tokens} → IsGeneralTerm 0 s ts ((Sign m.Close, 0) ∷ (Sign m.Dot, 0) ∷ rest) → IsEnd (Some s) None ((Sign m.Comma, 0) ∷ ts) rest
  source_and_info : {s : GTerm} {xs : List GTerm} {ts mid rest : Tokens} → IsGeneralTerm 0 s ts ((Sign m.Comma, 0) ∷ mid) → IsGeneralList 0 xs mid ((Sign m.Close, 0) ∷ (Sign m.Dot, 0) ∷ rest)
      → IsEnd (Some s) (Some xs) ((Sign m.Comma, 0) ∷ ts) rest

-- <formula_selection> ::= ,[<name_list>] | <null>, and the tokens that end an include
pub data IsSelection : Option (List Name) → Tokens → Tokens → Type 0 where
  whole_file : {rest : Tokens} → IsSelection None ((Sign m.Close, 0) ∷ (Sign m.Dot, 0) ∷ rest) rest
  selected : {ns : List Name} {ts rest : Tokens} → Listed (Sign m.Comma) 0 IsName ns ts ((Sign m.CloseList, 0) ∷ (Sign m.Close, 0) ∷ (Sign m.Dot, 0) ∷ rest)
      → IsSelection (Some ns) ((Sign m.Comma, 0) ∷ (Sign m.OpenList, 0) ∷ ts) rest

-- an item of a text of the style, whose first token stands at the place
pub data IsItem (style : Style) (place : Place) : Item → Tokens → Tokens → Type 0 where
  -- <annotated_formula> ::= <fof_annotated> | <tff_annotated> | <cnf_annotated> | <tcf_annotated>
  -- <fof_annotated> ::= fof(<name>,<formula_role>,<fof_formula><annotations>).
  annotated : {l : Lang} {r : Role} {w v : Text} {n : Name} {b : Body} {s : Option GTerm} {i : Option (List GTerm)} {ts mid end rest : Tokens} → w ≡ lang_text l → has_language style l ≡ true
      → IsName n ts ((Sign m.Comma, 0) ∷ (Lower v, 0) ∷ (Sign m.Comma, 0) ∷ mid) → v ≡ role_text r → IsBody l r b mid end → IsEnd s i end rest
      → IsItem style place (item.Formula (record { place = place; lang = l; name = n; role = r; body = b; source = s; info = i })) ((Lower w, 0) ∷ (Sign m.Open, 0) ∷ ts) rest
  -- <include> ::= include(<file_name><formula_selection>).
  include : {w f : Text} {ns : Option (List Name)} {ts rest : Tokens} → w ≡ codes "include" → IsSelection ns ts rest
      → IsItem style place (item.Include (record { place = place; file = f; names = ns })) ((Lower w, 0) ∷ (Sign m.Open, 0) ∷ (Quoted f, 0) ∷ ts) rest
