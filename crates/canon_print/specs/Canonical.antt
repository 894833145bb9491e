-- The canonical text of items. It is a function of the items and knows nothing of a text that they came from. Each
-- part is spelled as the TPTP BNF allows; which of the spellings it takes is this project's choice.
use Rattle.std.specs.Prelude.{Bool, true, false, List, [], ◌∷◌, ◌++◌, map, codes, Option, Some, None}
use Rattle.std.specs.List.{flat_map}
use Rattle.tptp_base.specs.declared.name.Name.{Name}
use Rattle.tptp_base.specs.declared.surface.STerm.{STerm}
use Rattle.tptp_base.specs.declared.surface.STerm.TheFolds.{fold-STerm}
use Rattle.tptp_base.specs.declared.surface.SortName.{SortName}
use Rattle.tptp_base.specs.declared.surface.BoundVar.{BoundVar}
use Rattle.tptp_base.specs.declared.surface.BinOp.{BinOp}
use Rattle.tptp_base.specs.declared.surface.Quant.{Quant}
use Rattle.tptp_base.specs.declared.surface.Surface.{Surface}
use Rattle.tptp_base.specs.declared.surface.Surface.TheFolds.{fold-Surface}
use Rattle.tptp_base.specs.declared.item.Lang.{Lang}
use Rattle.tptp_base.specs.declared.item.Shape.{Shape}
use Rattle.tptp_base.specs.declared.item.Typing.{Typing}
use Rattle.tptp_base.specs.declared.item.Body.{Body}
use Rattle.tptp_base.specs.declared.item.GTerm.{GTerm}
use Rattle.tptp_base.specs.declared.item.GTerm.TheFolds.{fold-GTerm}
use Rattle.tptp_base.specs.declared.item.Annotated.{Annotated}
use Rattle.tptp_base.specs.declared.item.Include.{Include}
use Rattle.tptp_base.specs.declared.item.Item.{Item}
use Rattle.tptp_lexer.specs.Bytes.{Text}
use Rattle.tptp_lexer.specs.Quotes.{single_quote, double_quote}
use Rattle.tptp_grammar.specs.Tokens.{lang_text, embedded_text, role_text}
use Rattle.canon_print.specs.Words.{quoted, word_text, name_text, separated}
use Rattle.tptp_base.specs.declared.surface.STerm.TheOpen as tm
use Rattle.tptp_base.specs.declared.surface.SortName.TheVariants as sort
use Rattle.tptp_base.specs.declared.surface.BinOp.TheVariants as op
use Rattle.tptp_base.specs.declared.surface.Quant.TheVariants as q
use Rattle.tptp_base.specs.declared.surface.Surface.TheOpen as fm
use Rattle.tptp_base.specs.declared.item.Lang.TheVariants as lang
use Rattle.tptp_base.specs.declared.item.Shape.TheVariants as shape
use Rattle.tptp_base.specs.declared.item.Body.TheVariants as body
use Rattle.tptp_base.specs.declared.item.GTerm.TheOpen as gt
use Rattle.tptp_base.specs.declared.item.Item.TheVariants as item

-- ---- terms

-- a word, with its arguments in parentheses where it has any
abbrev pub applied_text : Text → List Text → Text
applied_text word [] = word_text word
applied_text word (part ∷ parts) = word_text word ++ (codes "(" ++ (separated (codes ",") (part ∷ parts) ++ codes ")"))

abbrev pub term_node : tm.STerm-F Text → Text
term_node (tm.Var name) = name
term_node (tm.App word parts) = applied_text word parts

-- <fof_term>
unfoldable pub term_text : STerm → Text
term_text = fold-STerm Text term_node

abbrev pub terms_text : List STerm → List Text
terms_text terms = map term_text terms

-- ---- sorts and type lines

abbrev pub sort_text : SortName → Text
sort_text sort.Individual = codes "$i"
sort_text sort.Truth = codes "$o"
sort_text (sort.Word word) = word_text word

-- <tff_top_level_type>: a product of sorts stands in parentheses
abbrev pub shape_text : Shape → Text
shape_text shape.Sort = codes "$tType"
shape_text (shape.Symbol [] result) = sort_text result
shape_text (shape.Symbol (one ∷ []) result) = sort_text one ++ (codes " > " ++ sort_text result)
shape_text (shape.Symbol (first ∷ second ∷ others) result) = codes "(" ++ (separated (codes " * ") (map sort_text (first ∷ second ∷ others)) ++ (codes ") > " ++ sort_text result))

-- <tff_atom_typing>
abbrev pub typing_text : Typing → Text
typing_text typing = word_text typing.name ++ (codes ": " ++ shape_text typing.shape)

-- ---- formulas

-- the sort of a bound variable, where it has one
abbrev pub bound_sort_text : Option SortName → Text
bound_sort_text None = []
bound_sort_text (Some s) = codes ": " ++ sort_text s

abbrev pub variable_text : BoundVar → Text
variable_text variable = variable.name ++ bound_sort_text variable.sort

abbrev pub operator_text : BinOp → Text
operator_text op.Imp = codes " => "
operator_text op.RevImp = codes " <= "
operator_text op.Iff = codes " <=> "
operator_text op.Xor = codes " <~> "
operator_text op.Nor = codes " ~| "
operator_text op.Nand = codes " ~& "

abbrev pub quantifier_text : Quant → Text
quantifier_text q.All = codes "! ["
quantifier_text q.Ex = codes "? ["

-- a formula's text, and whether it is an And, an Or or a Binary
abbrev pub Shown : Type 0
Shown = Bool × Text

abbrev pub opening : Bool → Text
opening true = codes "("
opening false = []

abbrev pub closing : Bool → Text
closing true = codes ")"
closing false = []

-- where the syntax wants a <fof_unit_formula>, such a formula stands in parentheses
abbrev pub as_unit : Shown → Text
as_unit shown = opening shown.0 ++ (shown.1 ++ closing shown.0)

-- the same of a formula by whether it is a <tcf_logic_formula>
abbrev pub Writing : Type 0
Writing = Bool → Shown

abbrev pub unit_of : Writing → Text
unit_of part = as_unit (part false)

-- what a quantifier binds is a unit, or again a <tcf_logic_formula>
abbrev pub bound_text : Bool → Writing → Text
bound_text true part = (part true).1
bound_text false part = unit_of part

abbrev pub formula_node : fm.Surface-F Writing → Writing
formula_node fm.True clause = (false, codes "$true")
formula_node fm.False clause = (false, codes "$false")
formula_node (fm.Atom word terms) clause = (false, applied_text word (terms_text terms))
formula_node (fm.Eq left right) clause = (false, term_text left ++ (codes " = " ++ term_text right))
formula_node (fm.Neq left right) clause = (false, term_text left ++ (codes " != " ++ term_text right))
formula_node (fm.Not part) clause = (false, codes "~ " ++ unit_of part)
formula_node (fm.And parts) clause = (true, separated (codes " & ") (map unit_of parts))
formula_node (fm.Or parts) clause = (true, separated (codes " | ") (map unit_of parts))
formula_node (fm.Binary operator left right) clause = (true, unit_of left ++ (operator_text operator ++ unit_of right))
formula_node (fm.Bind quantifier variables part) clause = (false, quantifier_text quantifier ++ (separated (codes ",") (map variable_text variables) ++ (codes "] : " ++ bound_text clause part)))

unfoldable pub written : Surface → Writing
written = fold-Surface Writing formula_node

abbrev pub shown : Surface → Shown
shown formula = written formula false

-- <fof_logic_formula>, <tff_logic_formula> or <cnf_formula>
abbrev pub formula_text : Surface → Text
formula_text formula = (shown formula).1

-- <tcf_logic_formula>: what its quantifiers bind has no parentheses, and so nests no deeper than it must
abbrev pub typed_clause_text : Surface → Text
typed_clause_text formula = (written formula true).1

-- the formula of a language
abbrev pub logic_text : Lang → Surface → Text
logic_text lang.Tcf formula = typed_clause_text formula
logic_text _ formula = formula_text formula

-- ---- general terms

-- <general_list>
abbrev pub list_text : List Text → Text
list_text parts = codes "[" ++ (separated (codes ",") parts ++ codes "]")

abbrev pub general_node : gt.GTerm-F Text → Text
general_node (gt.Word word) = word_text word
general_node (gt.Func word parts) = word_text word ++ (codes "(" ++ (separated (codes ",") parts ++ codes ")"))
general_node (gt.Var name) = name
general_node (gt.Number number) = number
general_node (gt.Distinct chars) = quoted double_quote chars
general_node (gt.Formula lang formula) = embedded_text lang ++ (codes "(" ++ (formula_text formula ++ codes ")"))
general_node (gt.Term term) = codes "$fot(" ++ (term_text term ++ codes ")")
general_node (gt.List parts) = list_text parts
general_node (gt.Pair left right) = left ++ (codes ":" ++ right)

-- <general_term>
unfoldable pub general_text : GTerm → Text
general_text = fold-GTerm Text general_node

-- ---- items

abbrev pub body_text : Lang → Body → Text
body_text l (body.Logic formula) = logic_text l formula
body_text l (body.Typing typing) = typing_text typing

-- the end of a line behind a comma, and the four blanks of the next line
abbrev pub next_line : Text
next_line = codes "," ++ (10 ∷ codes "    ")

-- the end of an item, with its line feed
abbrev pub item_end : Text
item_end = codes ")." ++ 10 ∷ []

-- <optional_info>
abbrev pub info_text : Option (List GTerm) → Text
info_text None = []
info_text (Some terms) = codes "," ++ list_text (map general_text terms)

-- <annotations>: the source on a line of its own, and the useful information behind it
abbrev pub annotations_text : Option GTerm → Option (List GTerm) → Text
annotations_text None info = []
annotations_text (Some source) info = next_line ++ (general_text source ++ info_text info)

-- the line of the language, name and role, and the blanks of the body's line
abbrev pub head_text : Annotated → Text
head_text a = lang_text a.lang ++ (codes "(" ++ (name_text a.name ++ (codes "," ++ (role_text a.role ++ next_line))))

-- <annotated_formula>
abbrev pub annotated_text : Annotated → Text
annotated_text a = head_text a ++ (body_text a.lang a.body ++ (annotations_text a.source a.info ++ item_end))

-- <formula_selection>
abbrev pub selection_text : Option (List Name) → Text
selection_text None = []
selection_text (Some names) = codes ",[" ++ (separated (codes ",") (map name_text names) ++ codes "]")

-- <include>: the name of the file is always quoted
abbrev pub include_text : Include → Text
include_text i = codes "include(" ++ (quoted single_quote i.file ++ (selection_text i.names ++ item_end))

abbrev pub item_text : Item → Text
item_text (item.Comment text) = text ++ 10 ∷ []
item_text (item.Formula annotated) = annotated_text annotated
item_text (item.Include include) = include_text include

-- the items one behind the other, with nothing between them
abbrev pub canonical_text : List Item → Text
canonical_text items = flat_map item_text items
