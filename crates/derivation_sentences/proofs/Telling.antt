-- The names and forms of what a derivation's items are read as.
use Rattle.std.proofs.Common.{◌≡◌, ℕ, ◌+◌, List, [], ◌∷◌, map, refl, sym, ◌∙◌, ap}
use Rattle.tptp_base.specs.declared.name.Name.{Name}
use Rattle.tptp_base.specs.declared.name.Name.TheVariants.{Word}
use Rattle.tptp_base.specs.declared.place.Place.{Place}
use Rattle.fof_terms.specs.declared.form.Form.{Form}
use Rattle.sort_check.specs.declared.line.Line.{Line}
use Rattle.derivation_items.specs.declared.line.ProofLine.{ProofLine}
use Rattle.derivation_text.specs.Derivations.{denied_form, denied_forms, names_of}
use Rattle.derivation_sentences.specs.Denoted.{denoted_lines, lines_at}

abbrev own_name : ProofLine → Name
own_name l = Word l.name

abbrev own_form : ProofLine → Form
own_form l = l.form

names_stay : (place : Place) (read : List Line) → names_of (lines_at place read) ≡ names_of read
names_stay place [] = refl
names_stay place (l ∷ read) = ap (λ (ns : List Name). l.name ∷ ns) (names_stay place read)

forms_stay : (place : Place) (read : List Line) → denied_forms (lines_at place read) ≡ denied_forms read
forms_stay place [] = refl
forms_stay place (l ∷ read) = ap (λ (as_ : List Form). denied_form l ∷ as_) (forms_stay place read)

names_are : (number : ℕ) (lines : List ProofLine) → names_of (denoted_lines number lines) ≡ map (λ (l : ProofLine). Word l.name) lines
names_are number [] = refl
names_are number (l ∷ lines) = ap (λ (ns : List Name). own_name l ∷ ns) (names_are (number + 1) lines)

forms_are : (number : ℕ) (lines : List ProofLine) → denied_forms (denoted_lines number lines) ≡ map (λ (l : ProofLine). l.form) lines
forms_are number [] = refl
forms_are number (l ∷ lines) = ap (λ (as_ : List Form). own_form l ∷ as_) (forms_are (number + 1) lines)

module _ (place : Place) (number : ℕ) (read : List Line) (lines : List ProofLine) (same : lines_at place read ≡ denoted_lines number lines) where
  pub names_tell : names_of read ≡ map (λ (l : ProofLine). Word l.name) lines
  names_tell = sym (names_stay place read) ∙ ap names_of same ∙ names_are number lines

  pub forms_tell : denied_forms read ≡ map (λ (l : ProofLine). l.form) lines
  forms_tell = sym (forms_stay place read) ∙ ap denied_forms same ∙ forms_are number lines
