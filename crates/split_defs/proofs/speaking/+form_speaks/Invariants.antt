use Rattle.std.proofs.Common.{◌≡◌, take, true}
use Rattle.std.specs.List.{list_all}
use Rattle.split_defs.specs.code.Renaming.{speaks}
use Rattle.split_defs.proofs.speaking.+form_speaks.Given as goal

abbrev pub invariant-forms_speak-loop-form : goal.invariant-forms_speak-loop-form
invariant-forms_speak-loop-form l = list_all (speaks l.names.keys l.depth) (take l.form-index l.forms) ≡ true
