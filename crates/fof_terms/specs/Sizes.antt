-- How large formulas are: how many members the longest list in them has, and how many variables they bind.
use Rattle.std.specs.Prelude.{map}
use Rattle.tptp_base.specs.Sizes.{Size, small, one_variable, both, list_of}
use Rattle.fof_terms.specs.declared.term.Term.{Term}
use Rattle.fof_terms.specs.declared.term.Term.TheFolds.{fold-Term}
use Rattle.fof_terms.specs.declared.form.Form.{Form}
use Rattle.fof_terms.specs.declared.form.Form.TheFolds.{fold-Form}
use Rattle.fof_terms.specs.declared.term.Term.TheOpen as term
use Rattle.fof_terms.specs.declared.form.Form.TheOpen as form

abbrev pub term_size_step : term.Term-F Size → Size
term_size_step (term.Var k) = small
term_size_step (term.App f args) = list_of args

unfoldable pub term_size : Term → Size
term_size = fold-Term Size term_size_step

abbrev pub form_size_step : form.Form-F Size → Size
form_size_step (form.Atom p args) = list_of (map term_size args)
form_size_step (form.Eq left right) = both (term_size left) (term_size right)
form_size_step (form.Not part) = part
form_size_step (form.And parts) = list_of parts
form_size_step (form.Or parts) = list_of parts
form_size_step (form.Imp left right) = both left right
form_size_step (form.Iff left right) = both left right
form_size_step (form.All sort part) = both one_variable part
form_size_step (form.Ex sort part) = both one_variable part

unfoldable pub form_size : Form → Size
form_size = fold-Form Size form_size_step
