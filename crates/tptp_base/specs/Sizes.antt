-- How large items are: how many members the longest list in them has, and how many variables they have: those that a
-- quantifier binds, and those in terms, each as often as it stands there.
use Rattle.std.specs.Prelude.{ℕ, ◌+◌, ◌≤◌, max, List, [], ◌∷◌, length, map, Option, Some, None}
use Rattle.tptp_base.specs.declared.surface.STerm.{STerm}
use Rattle.tptp_base.specs.declared.surface.STerm.TheFolds.{fold-STerm}
use Rattle.tptp_base.specs.declared.surface.Surface.{Surface}
use Rattle.tptp_base.specs.declared.surface.Surface.TheFolds.{fold-Surface}
use Rattle.tptp_base.specs.declared.item.Shape.{Shape}
use Rattle.tptp_base.specs.declared.item.Body.{Body}
use Rattle.tptp_base.specs.declared.item.GTerm.{GTerm}
use Rattle.tptp_base.specs.declared.item.GTerm.TheFolds.{fold-GTerm}
use Rattle.tptp_base.specs.declared.item.Item.{Item}
use Rattle.tptp_base.specs.declared.surface.STerm.TheOpen as st
use Rattle.tptp_base.specs.declared.surface.Surface.TheOpen as sf
use Rattle.tptp_base.specs.declared.item.Shape.TheVariants as shape
use Rattle.tptp_base.specs.declared.item.Body.TheVariants as body
use Rattle.tptp_base.specs.declared.item.GTerm.TheOpen as gt
use Rattle.tptp_base.specs.declared.item.Item.TheVariants as item

pub record Size : Type 0 where
  pub longest : ℕ
  pub variables : ℕ

-- without a list or a variable
abbrev pub small : Size
small = record { longest = 0; variables = 0 }

abbrev pub one_variable : Size
one_variable = record { longest = 0; variables = 1 }

-- a list of as many members, without what they are
abbrev pub list_alone : ℕ → Size
list_alone members = record { longest = members; variables = 0 }

abbrev pub both : Size → Size → Size
both first second = record {
  longest = max first.longest second.longest;
  variables = first.variables + second.variables;
}

abbrev pub all_of : List Size → Size
all_of [] = small
all_of (part ∷ parts) = both part (all_of parts)

-- a list with members of these sizes
abbrev pub list_of : List Size → Size
list_of parts = both (list_alone (length parts)) (all_of parts)

abbrev pub size_at : st.STerm-F Size → Size
size_at (st.Var name) = one_variable
size_at (st.App name args) = list_of args

unfoldable pub size_of_term : STerm → Size
size_of_term = fold-STerm Size size_at

abbrev pub size_in : sf.Surface-F Size → Size
size_in sf.True = small
size_in sf.False = small
size_in (sf.Atom name args) = list_of (map size_of_term args)
size_in (sf.Eq left right) = both (size_of_term left) (size_of_term right)
size_in (sf.Neq left right) = both (size_of_term left) (size_of_term right)
size_in (sf.Not part) = part
size_in (sf.And parts) = list_of parts
size_in (sf.Or parts) = list_of parts
size_in (sf.Binary operator left right) = both left right
size_in (sf.Bind quantifier variables part) = both (list_of (map (λ variable. one_variable) variables)) part

unfoldable pub size_of_form : Surface → Size
size_of_form = fold-Surface Size size_in

abbrev pub size_within : gt.GTerm-F Size → Size
size_within (gt.Word word) = small
size_within (gt.Func word parts) = list_of parts
size_within (gt.Var name) = one_variable
size_within (gt.Number number) = small
size_within (gt.Distinct chars) = small
size_within (gt.Formula lang form) = size_of_form form
size_within (gt.Term term) = size_of_term term
size_within (gt.List parts) = list_of parts
size_within (gt.Pair left right) = both left right

unfoldable pub size_of_general : GTerm → Size
size_of_general = fold-GTerm Size size_within

abbrev pub size_of_shape : Shape → Size
size_of_shape shape.Sort = small
size_of_shape (shape.Symbol sorts result) = list_alone (length sorts)

abbrev pub size_of_body : Body → Size
size_of_body (body.Logic form) = size_of_form form
size_of_body (body.Typing typing) = size_of_shape typing.shape

abbrev pub size_of_source : Option GTerm → Size
size_of_source None = small
size_of_source (Some source) = size_of_general source

abbrev pub size_of_info : Option (List GTerm) → Size
size_of_info None = small
size_of_info (Some terms) = list_of (map size_of_general terms)

abbrev pub size_of_selection : {X : Type 0} → Option (List X) → Size
size_of_selection None = small
size_of_selection (Some names) = list_alone (length names)

abbrev pub size_of_item : Item → Size
size_of_item (item.Comment text) = small
size_of_item (item.Formula line) =
    both (size_of_body line.body) (both (size_of_source line.source) (size_of_info line.info))
size_of_item (item.Include file) = size_of_selection file.names

abbrev pub size_of_items : List Item → Size
size_of_items items = list_of (map size_of_item items)

-- No list has more members, and there are no more variables.
pub record IsWithin (limit : ℕ) (size : Size) : Type 0 where
  pub longest : size.longest ≤ limit
  pub variables : size.variables ≤ limit
