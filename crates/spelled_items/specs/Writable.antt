-- What a text can write in language tff (TPTP BNF): names, terms, formulas, type lines, and the sources of lines.
use Rattle.std.specs.Prelude.{◌≡◌, ◌≤◌, ◌&&◌, nat_lt, Bool, true, false, List, [], ◌∷◌, length, Option, Some, None}
use Rattle.std.specs.List.{list_all, AllByRecursion}
use Rattle.tptp_base.specs.Numerals.{is_integer}
use Rattle.tptp_base.specs.Quotable.{is_printable}
use Rattle.tptp_base.specs.declared.name.Name.{Name}
use Rattle.tptp_base.specs.declared.name.Name.TheVariants as name
use Rattle.tptp_base.specs.declared.surface.BoundVar.{BoundVar}
use Rattle.tptp_base.specs.declared.surface.SortName.{SortName}
use Rattle.tptp_base.specs.declared.surface.SortName.TheVariants as sort
use Rattle.tptp_base.specs.declared.surface.STerm.{STerm}
use Rattle.tptp_base.specs.declared.surface.STerm.TheFolds.{fold-STerm}
use Rattle.tptp_base.specs.declared.surface.STerm.TheOpen as tm
use Rattle.tptp_base.specs.declared.surface.Surface.{Surface}
use Rattle.tptp_base.specs.declared.surface.Surface.TheFolds.{fold-Surface}
use Rattle.tptp_base.specs.declared.surface.Surface.TheOpen as fm
use Rattle.tptp_base.specs.declared.item.Item.{Item}
use Rattle.tptp_base.specs.declared.item.Shape.{Shape}
use Rattle.tptp_base.specs.declared.item.Shape.TheVariants as shape
use Rattle.tptp_base.specs.declared.item.Typing.{Typing}
use Rattle.tptp_lexer.specs.Bytes.{is_upper_alpha, is_alpha_numeric}
use Rattle.derivation_items.specs.Items.{line_item_of}
use Rattle.derivation_items.specs.Words.{Text}
use Rattle.derivation_items.specs.declared.line.LineSource.{LineSource}
use Rattle.derivation_items.specs.declared.line.LineSource.TheVariants.{Given, Skolemized, ClauseOf, Inferred}
use Rattle.derivation_limits.specs.Nesting.{nesting_of}

-- ---- names

-- the characters of a <single_quoted>: some, and all printable
abbrev pub is_word : Text → Bool
is_word text = nat_lt 0 (length text) && list_all is_printable text

-- <upper_word>
abbrev pub is_variable : Text → Bool
is_variable [] = false
is_variable (first ∷ rest) = is_upper_alpha first && list_all is_alpha_numeric rest

-- <name>
abbrev pub is_name : Name → Bool
is_name (name.Word word) = is_word word
is_name (name.Integer number) = is_integer number

-- ---- terms

abbrev pub all_true : List Bool → Bool
all_true parts = list_all (λ part. part) parts

abbrev pub term_step : tm.STerm-F Bool → Bool
term_step (tm.Var name) = is_variable name
term_step (tm.App word parts) = is_word word && all_true parts

-- <fof_term>
unfoldable pub is_term : STerm → Bool
is_term = fold-STerm Bool term_step

-- ---- sorts and type lines

-- the sort of an argument or of a variable
abbrev pub is_argument_sort : SortName → Bool
is_argument_sort sort.Individual = true
is_argument_sort sort.Truth = false
is_argument_sort (sort.Word word) = is_word word

abbrev pub is_result_sort : SortName → Bool
is_result_sort sort.Individual = true
is_result_sort sort.Truth = true
is_result_sort (sort.Word word) = is_word word

-- <tff_top_level_type>
abbrev pub is_shape : Shape → Bool
is_shape shape.Sort = true
is_shape (shape.Symbol args result) = list_all is_argument_sort args && is_result_sort result

-- <tff_atom_typing>
abbrev pub is_typing : Typing → Bool
is_typing typing = is_word typing.name && is_shape typing.shape

-- ---- formulas

abbrev pub is_written_sort : Option SortName → Bool
is_written_sort None = true
is_written_sort (Some s) = is_argument_sort s

-- <tff_variable>
abbrev pub is_bound : BoundVar → Bool
is_bound x = is_variable x.name && is_written_sort x.sort

abbrev pub has_one : {X : Type 0} → List X → Bool
has_one [] = false
has_one (x ∷ xs) = true

abbrev pub has_two : {X : Type 0} → List X → Bool
has_two [] = false
has_two (x ∷ xs) = has_one xs

abbrev pub formula_step : fm.Surface-F Bool → Bool
formula_step fm.True = true
formula_step fm.False = true
formula_step (fm.Atom word terms) = is_word word && list_all is_term terms
formula_step (fm.Eq left right) = is_term left && is_term right
formula_step (fm.Neq left right) = is_term left && is_term right
formula_step (fm.Not part) = part
formula_step (fm.And parts) = has_two parts && all_true parts
formula_step (fm.Or parts) = has_two parts && all_true parts
formula_step (fm.Binary operator left right) = left && right
formula_step (fm.Bind quantifier variables part) = (has_one variables && list_all is_bound variables) && part

-- <tff_logic_formula>: a conjunction or a disjunction has two members at least, and a quantifier binds some variable
unfoldable pub is_formula : Surface → Bool
is_formula = fold-Surface Bool formula_step

-- ---- items of a derivation

-- <source>: the names that it has can be written
abbrev pub is_source : LineSource → Bool
is_source (Given name) = is_name name
is_source (Skolemized word) = is_word word
is_source (ClauseOf word) = is_word word
is_source (Inferred words) = list_all is_word words

-- The item is that of a line of this name, formula and source in a derivation from the problem of that file. A text can
-- write all of it, and the formula nests no deeper than it may.
pub record IsWritable (file : Text) (item : Item) : Type 0 where
  pub word : Text
  pub formula : Surface
  pub source : LineSource
  pub is : item ≡ line_item_of file word formula source
  pub has_word : is_word word ≡ true
  pub has_formula : is_formula formula ≡ true
  pub flat : nesting_of formula ≤ 250
  pub has_source : is_source source ≡ true

-- each of the items is so
abbrev pub AreWritable : Text → List Item → Type 0
AreWritable file items = AllByRecursion (IsWritable file) items
