-- The names that items have: those of symbols where they are applied, those of symbols and sorts where a type line
-- declares them, and those of files where they are included, in the order of the text.
use Rattle.std.specs.Prelude.{ℕ, List, [], ◌∷◌, ◌++◌, map}
use Rattle.std.specs.List.{flat_map}
use Rattle.tptp_base.specs.declared.surface.STerm.{STerm}
use Rattle.tptp_base.specs.declared.surface.STerm.TheOpen as st
use Rattle.tptp_base.specs.declared.surface.STerm.TheFolds.{fold-STerm}
use Rattle.tptp_base.specs.declared.surface.Surface.{Surface}
use Rattle.tptp_base.specs.declared.surface.Surface.TheOpen as sf
use Rattle.tptp_base.specs.declared.surface.Surface.TheFolds.{fold-Surface}
use Rattle.tptp_base.specs.declared.item.Body.{Body}
use Rattle.tptp_base.specs.declared.item.Body.TheVariants as body
use Rattle.tptp_base.specs.declared.item.Item.{Item}
use Rattle.tptp_base.specs.declared.item.Item.TheVariants as item

abbrev pub Names : Type 0
Names = List (List ℕ)

-- the names of some parts, from left to right
abbrev pub together : List Names → Names
together parts = flat_map (λ part. part) parts

abbrev pub names_at : st.STerm-F Names → Names
names_at (st.Var name) = []
names_at (st.App name args) = name ∷ together args

-- those of the functions in a term
unfoldable pub names_of_term : STerm → Names
names_of_term = fold-STerm Names names_at

abbrev pub names_in : sf.Surface-F Names → Names
names_in sf.True = []
names_in sf.False = []
names_in (sf.Atom name args) = name ∷ together (map names_of_term args)
names_in (sf.Eq left right) = names_of_term left ++ names_of_term right
names_in (sf.Neq left right) = names_of_term left ++ names_of_term right
names_in (sf.Not part) = part
names_in (sf.And parts) = together parts
names_in (sf.Or parts) = together parts
names_in (sf.Binary operator left right) = left ++ right
names_in (sf.Bind quantifier variables part) = part

-- those of the predicates and functions in a formula
unfoldable pub names_of_form : Surface → Names
names_of_form = fold-Surface Names names_in

abbrev pub names_of_body : Body → Names
names_of_body (body.Logic form) = names_of_form form
names_of_body (body.Typing typing) = typing.name ∷ []

abbrev pub names_of_item : Item → Names
names_of_item (item.Comment text) = []
names_of_item (item.Formula line) = names_of_body line.body
names_of_item (item.Include file) = file.file ∷ []

abbrev pub names_of_items : List Item → Names
names_of_items items = together (map names_of_item items)
