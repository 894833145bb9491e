-- What private contracts say, beside the definitions of specs/LogText.
use Rattle.std.specs.Prelude.{ℕ, List, map}
use Rattle.fof_terms.specs.declared.term.Term.{Term}
use Rattle.fof_terms.specs.declared.form.Form.{Form}
use Rattle.proof_log.specs.Words.{text_of}
use Rattle.proof_log.specs.LogText.{term_words, list_text, form_text}

-- the text of a term
unfoldable pub term_text : Term → List ℕ
term_text t = text_of (term_words t)

abbrev pub terms_text : List Term → List ℕ
terms_text terms = list_text (map term_text terms)

abbrev pub forms_text : List Form → List ℕ
forms_text forms = list_text (map form_text forms)
