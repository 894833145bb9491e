-- How the given formulas are found one by one.
use Rattle.std.proofs.Common.{◌≡◌, ℕ, ◌+◌, ◌<◌, ◌≤◌, List, [], ◌++◌, length, drop, get_or, Option, Some, None, refl, sym, ◌∙◌, ap, append_assoc}
use Rattle.std.proofs.lemmas.List.{append-nil, drop_all}
use Rattle.fof_terms.specs.declared.form.Form.{Form}
use Rattle.sort_check.specs.declared.line.Line.{Line}
use Rattle.sort_check.specs.declared.line.GivenEntry.{GivenEntry}
use Rattle.sort_check.specs.Given.{given_form, with_entry, given_entries}
use Rattle.sort_check.proofs.Loops.{at_member}

in_front : (l : Line) (o : Option Form) (rest : List GivenEntry) → with_entry l o rest ≡ with_entry l o [] ++ rest
in_front l (Some a) rest = refl
in_front l None rest = refl

pub given_turn : (lines : List Line) (i : ℕ) (l : Line) (entries more : List GivenEntry) → i < length lines → l ≡ get_or lines i l → given_entries lines ≡ entries ++ given_entries (drop i lines)
    → more ≡ entries ++ with_entry l (given_form l.role l.form) [] → given_entries lines ≡ more ++ given_entries (drop (i + 1) lines)
given_turn lines i l entries more lt is before added =
    let here = with_entry l (given_form l.role l.form) [] in
    let rest = given_entries (drop (i + 1) lines) in
    before
    ∙ ap (λ (ls : List Line). entries ++ given_entries ls) (at_member lines i l lt is)
    ∙ ap (λ (es : List GivenEntry). entries ++ es) (in_front l (given_form l.role l.form) rest)
    ∙ sym (append_assoc entries here rest)
    ∙ ap (λ (es : List GivenEntry). es ++ rest) (sym added)

pub given_end : (lines : List Line) (i : ℕ) (entries : List GivenEntry) → length lines ≤ i → given_entries lines ≡ entries ++ given_entries (drop i lines) → entries ≡ given_entries lines
given_end lines i entries le before = sym (before ∙ ap (λ (ls : List Line). entries ++ given_entries ls) (drop_all i lines le) ∙ append-nil entries)
