-- What the parser's functions for items compute. The number is the nesting that is left.
use Rattle.std.specs.Prelude.{ℕ, Bool, true, false, ◌&&◌, if◌then◌else◌, List, [], ◌∷◌, Option, Some, None, Ok, codes}
use Rattle.std.specs.Str.{bytes_eq}
use Rattle.first_fault.specs.code.Reading.{Reader, refuse, and_then, mapped, next, tail, expect, closed, opened}
use Rattle.first_fault.specs.code.Reading.{separated}
use Rattle.tptp_lexer.specs.declared.style.Style.{Style}
use Rattle.tptp_lexer.specs.declared.token.Token.{Token}
use Rattle.tptp_lexer.specs.declared.token.Token.TheVariants.{Lower, Quoted, Number, Mark as Sign}
use Rattle.tptp_base.specs.declared.place.Place.{Place}
use Rattle.tptp_base.specs.declared.name.Name.{Name}
use Rattle.tptp_base.specs.declared.item.Lang.{Lang}
use Rattle.tptp_base.specs.declared.item.Role.{Role}
use Rattle.tptp_base.specs.declared.item.Body.{Body}
use Rattle.tptp_base.specs.declared.item.GTerm.{GTerm}
use Rattle.tptp_base.specs.declared.item.Item.{Item}
use Rattle.tptp_grammar.specs.Tokens.{Text, lang_text, has_language, role_text}
use Rattle.tptp_base.specs.Numerals.{is_integer}
use Rattle.tptp_base.specs.Roles.{is_typing}
use Rattle.tptp_grammar.specs.code.ReadTerms.{is_mark}
use Rattle.tptp_grammar.specs.code.ReadTypes.{typing}
use Rattle.tptp_grammar.specs.code.ReadFormulas.{formula}
use Rattle.tptp_grammar.specs.code.ReadClauses.{clause}
use Rattle.tptp_grammar.specs.code.ReadTypedClauses.{typed_clause}
use Rattle.tptp_grammar.specs.code.ReadGeneral.{general, nesting}
use Rattle.tptp_lexer.specs.declared.token.Mark.TheVariants as m
use Rattle.tptp_base.specs.declared.name.Name.TheVariants as nm
use Rattle.tptp_base.specs.declared.item.Lang.TheVariants as lang
use Rattle.tptp_base.specs.declared.item.Role.TheVariants as rl
use Rattle.tptp_base.specs.declared.item.Body.TheVariants as bd
use Rattle.tptp_base.specs.declared.item.Item.TheVariants as it

-- ---- names, roles and languages

abbrev pub name_at : Option Token → Reader Token Name
name_at (Some (Lower n)) ts = Ok (nm.Word n, tail ts)
name_at (Some (Quoted n)) ts = Ok (nm.Word n, tail ts)
name_at (Some (Number n)) ts = if is_integer n then Ok (nm.Integer n, tail ts) else refuse ts
name_at _ ts = refuse ts

unfoldable pub name : Reader Token Name
name ts = name_at (next ts) ts

abbrev pub other_roles : List Role
other_roles = rl.Typing ∷ rl.FiDomain ∷ rl.FiFunctors ∷ rl.FiPredicates ∷ rl.Unknown ∷ []

abbrev pub proved_roles : List Role
proved_roles = rl.Theorem ∷ rl.Corollary ∷ rl.Conjecture ∷ rl.NegatedConjecture ∷ rl.Plain ∷ other_roles

abbrev pub all_roles : List Role
all_roles = rl.Axiom ∷ rl.Hypothesis ∷ rl.Definition ∷ rl.Assumption ∷ rl.Lemma ∷ proved_roles

abbrev pub role_among : List Role → Text → Option Role
role_among [] w = None
role_among (r ∷ rs) w = if bytes_eq w (role_text r) then Some r else role_among rs w

-- the role of a word
unfoldable pub role_of : Text → Option Role
role_of = role_among all_roles

abbrev pub given_role : Option Role → Reader Token Role
given_role (Some r) ts = Ok (r, tail ts)
given_role None ts = refuse ts

abbrev pub role_at : Option Token → Reader Token Role
role_at (Some (Lower w)) ts = given_role (role_of w) ts
role_at _ ts = refuse ts

unfoldable pub role : Reader Token Role
role ts = role_at (next ts) ts

-- the language of a word in a text of the style
unfoldable pub lang_of : Style → Text → Option Lang
lang_of style w =
    if bytes_eq w (lang_text lang.Cnf) then Some lang.Cnf
    else if bytes_eq w (lang_text lang.Fof) then Some lang.Fof
    else if bytes_eq w (lang_text lang.Tff) then Some lang.Tff
    else if has_language style lang.Tcf && bytes_eq w (lang_text lang.Tcf) then Some lang.Tcf
    else None

-- ---- what stands behind the role

abbrev pub body_of : Lang → Bool → ℕ → Reader Token Body
body_of lang.Cnf b room ts = mapped bd.Logic (clause room ts)
body_of lang.Fof b room ts = mapped bd.Logic (formula false room ts)
body_of lang.Tcf b room ts = mapped bd.Logic (typed_clause room ts)
body_of lang.Tff true room ts = mapped bd.Typing (typing room ts)
body_of lang.Tff false room ts = mapped bd.Logic (formula true room ts)

unfoldable pub body : Lang → Role → ℕ → Reader Token Body
body l r room = body_of l (is_typing r) room

-- the tokens that end an item, and its last part
unfoldable pub ended : {A : Type 0} → A → Reader Token A
ended x ts = mapped (λ _. x) (opened (is_mark m.Close) (expect (is_mark m.Dot)) ts)

abbrev pub Annotations : Type 0
Annotations = Option GTerm × Option (List GTerm)

abbrev pub info_at : ℕ → Option Token → Reader Token (List GTerm)
info_at room (Some (Sign m.OpenList)) ts = (nesting room).list ts
info_at room _ ts = refuse ts

unfoldable pub info : ℕ → Reader Token (List GTerm)
info room ts = info_at room (next ts) ts

abbrev pub no_info : GTerm → Annotations
no_info s = (Some s, None)

abbrev pub with_info : GTerm → List GTerm → Annotations
with_info s xs = (Some s, Some xs)

abbrev pub sourced_at : ℕ → GTerm → Option Token → Reader Token Annotations
sourced_at room s (Some (Sign m.Comma)) ts = and_then (info room (tail ts)) (λ xs. ended (with_info s xs))
sourced_at room s _ ts = ended (no_info s) ts

-- behind the source
unfoldable pub sourced : ℕ → GTerm → Reader Token Annotations
sourced room s ts = sourced_at room s (next ts) ts

abbrev pub no_annotations : Annotations
no_annotations = (None, None)

abbrev pub annotations_at : ℕ → Option Token → Reader Token Annotations
annotations_at room (Some (Sign m.Comma)) ts = and_then (general room (tail ts)) (sourced room)
annotations_at room _ ts = ended no_annotations ts

-- behind the body
unfoldable pub annotations : ℕ → Reader Token Annotations
annotations room ts = annotations_at room (next ts) ts

-- ---- items

abbrev pub annotated_of : Place → Lang → Name → Role → Body → Annotations → Item
annotated_of place l n r b a = it.Formula (record { place = place; lang = l; name = n; role = r; body = b; source = a.0; info = a.1 })

unfoldable pub finished : ℕ → Place → Lang → Name → Role → Body → Reader Token Item
finished room place l n r b ts = mapped (annotated_of place l n r b) (annotations room ts)

unfoldable pub bodied : ℕ → Place → Lang → Name → Role → Reader Token Item
bodied room place l n r ts = and_then (body l r room ts) (finished room place l n r)

unfoldable pub with_role : ℕ → Place → Lang → Name → Reader Token Item
with_role room place l n ts = and_then (role ts) (λ r. opened (is_mark m.Comma) (bodied room place l n r))

unfoldable pub named : ℕ → Place → Lang → Reader Token Item
named room place l ts = and_then (name ts) (λ n. opened (is_mark m.Comma) (with_role room place l n))

-- behind the language
unfoldable pub annotated : ℕ → Place → Lang → Reader Token Item
annotated room place l ts = opened (is_mark m.Open) (named room place l) ts

abbrev pub file_name_at : Option Token → Reader Token Text
file_name_at (Some (Quoted f)) ts = Ok (f, tail ts)
file_name_at _ ts = refuse ts

unfoldable pub file_name : Reader Token Text
file_name ts = file_name_at (next ts) ts

-- the selected names in their brackets
unfoldable pub name_list : Reader Token (List Name)
name_list ts = opened (is_mark m.OpenList) (closed (is_mark m.CloseList) (separated (is_mark m.Comma) name)) ts

abbrev pub selected : List Name → Reader Token (Option (List Name))
selected ns = ended (Some ns)

abbrev pub selection_at : Option Token → Reader Token (Option (List Name))
selection_at (Some (Sign m.Comma)) ts = and_then (name_list (tail ts)) selected
selection_at _ ts = ended None ts

-- behind the name of the file
unfoldable pub selection : Reader Token (Option (List Name))
selection ts = selection_at (next ts) ts

abbrev pub include_of : Place → Text → Option (List Name) → Item
include_of place f ns = it.Include (record { place = place; file = f; names = ns })

unfoldable pub from_file : Place → Text → Reader Token Item
from_file place f ts = mapped (include_of place f) (selection ts)

unfoldable pub included : Place → Reader Token Item
included place ts = and_then (file_name ts) (from_file place)

-- behind the word `include`
unfoldable pub include : Place → Reader Token Item
include place ts = opened (is_mark m.Open) (included place) ts

abbrev pub other_item : Place → Text → Reader Token Item
other_item place w ts = if bytes_eq w (codes "include") then include place (tail ts) else refuse ts

abbrev pub worded : ℕ → Place → Text → Option Lang → Reader Token Item
worded room place w (Some l) ts = annotated room place l (tail ts)
worded room place w None ts = other_item place w ts

abbrev pub item_at : Style → ℕ → Place → Option Token → Reader Token Item
item_at style room place (Some (Lower w)) ts = worded room place w (lang_of style w) ts
item_at style room place _ ts = refuse ts

unfoldable pub item : Style → ℕ → Place → Reader Token Item
item style room place ts = item_at style room place (next ts) ts
