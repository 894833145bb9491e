-- Where lines come from, as a derivation says it (TPTP BNF, <source>): a formula of a file, or an inference record of a
-- rule, a status and parents.
use Rattle.std.specs.Prelude.{List, [], ◌∷◌, codes, map}
use Rattle.tptp_base.specs.declared.name.Name.{Name}
use Rattle.tptp_base.specs.declared.name.Name.TheVariants as name
use Rattle.tptp_base.specs.declared.item.GTerm.{GTerm}
use Rattle.tptp_base.specs.declared.item.GTerm.TheVariants as general
use Rattle.derivation_items.specs.declared.line.LineSource.{LineSource}
use Rattle.derivation_items.specs.declared.line.LineSource.TheVariants.{Given, Skolemized, ClauseOf, Inferred}
use Rattle.derivation_items.specs.Words.{Text}

abbrev pub name_term : Name → GTerm
name_term (name.Word word) = general.Word word
name_term (name.Integer number) = general.Number number

-- inference(RULE,[status(STATUS)],[PARENTS])
abbrev pub inference_term : Text → Text → List Text → GTerm
inference_term rule status parents = general.Func (codes "inference") (general.Word rule ∷ general.List (general.Func (codes "status") (general.Word status ∷ []) ∷ []) ∷ general.List (map general.Word parents) ∷ [])

-- the source of a line of a derivation from the problem of that file
abbrev pub source_term : Text → LineSource → GTerm
source_term file (Given name) = general.Func (codes "file") (general.Word file ∷ name_term name ∷ [])
source_term file (Skolemized line) = inference_term (codes "skolemize") (codes "esa") (line ∷ [])
source_term file (ClauseOf line) = inference_term (codes "clause") (codes "thm") (line ∷ [])
source_term file (Inferred lines) = inference_term (codes "infer") (codes "thm") lines
