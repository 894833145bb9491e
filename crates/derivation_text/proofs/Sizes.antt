-- The items and the formulas of a derivation are no larger than its text.
use Rattle.std.proofs.Common.{◌≡◌, ◌≤◌, ◌-◌, ℕ, List, [], ◌∷◌, length, map, refl, sym, subst, arith, slice_range, drop}
use Rattle.std.specs.Prelude.{max}
use Rattle.std.proofs.lemmas.List.{length-take, length-drop}
use Rattle.tptp_base.specs.declared.item.Item.{Item}
use Rattle.tptp_base.specs.declared.item.Role.{Role}
use Rattle.tptp_base.specs.declared.item.Role.TheVariants.{Conjecture}
use Rattle.tptp_base.specs.declared.name.Name.{Name}
use Rattle.tptp_base.specs.Sizes.{Size, IsWithin, list_of, size_of_items}
use Rattle.fof_terms.specs.Sizes.{form_size}
use Rattle.fof_terms.specs.Vocabulary.{Vocabulary}
use Rattle.fof_terms.specs.declared.form.Form.{Form}
use Rattle.fof_terms.proofs.SizeFacts.{form_size-Not}
use Rattle.sort_check.specs.declared.line.Line.{Line}
use Rattle.sort_check.specs.declared.line.TextKind.TheVariants as kind
use Rattle.sort_check.specs.Laws.{size_of_line}
use Rattle.sort_check.proofs.LineSizing.{text_fits}
use Rattle.tptp_grammar.proofs.SpelledSizes.{cut_few, tokens_within, within_more}
use Rattle.szs_report.specs.Region.{region_of}
use Rattle.derivation_text.specs.declared.derivation.Derivation.{Derivation}
use Rattle.derivation_text.specs.Derivations.{stands_for, denied_forms, IsDerivation}
use Rattle.derivation_text.specs.Texts.{RegionSpells}

part_fewer : (text : List ℕ) (from to : ℕ) → length (slice_range text from to) ≤ length text
part_fewer text from to = omega (arith, length-take (to - from) (drop from text), length-drop from text)

pub derivation_within : (text : List ℕ) (items : List Item) → RegionSpells text items → IsWithin (length text) (size_of_items items)
derivation_within text items spells =
    let (fits, same, (offset, cut, end)) = spells.lexed in
    let (us, file, within) = spells.parsed in
    let bytes = cut_few cut in
    within_more (length spells.tokens.items) (length text) (size_of_items items) (omega (arith, bytes, part_fewer text (region_of text).start (region_of text).end)) (tokens_within spells.tokens.style spells.tokens.items items (us, file))

-- ---- formulas

denied_size : (role : Role) (a : Form) → form_size (stands_for role a) ≡ form_size a
denied_size Conjecture a = form_size-Not a
denied_size other a = refl

sizes_of_forms : (lines : List Line) → map form_size (denied_forms lines) ≡ map size_of_line lines
sizes_of_forms [] = refl
sizes_of_forms (line ∷ lines) = (let first = denied_size line.role line.form in let rest = sizes_of_forms lines in cc)

pub forms_within : (text : List ℕ) (given : List Name) (v : Vocabulary) (d : Derivation) (w : Vocabulary) → IsDerivation text given v d w → IsWithin (max 2 (length text)) (list_of (map form_size d.forms))
forms_within text given v d w (items, spells, are) =
    let within = derivation_within text items spells in
    let fits = text_fits items v w kind.Derivation are.lines are.denote in
    subst (λ (fs : List Form). IsWithin (max 2 (length text)) (list_of (map form_size fs))) (sym are.forms)
    (subst (λ (ss : List Size). IsWithin (max 2 (length text)) (list_of ss)) (sym (sizes_of_forms are.lines))
    (record { longest = omega (arith, fits.longest, within.longest); variables = omega (arith, fits.variables, within.variables) }))
