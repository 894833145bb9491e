-- The formulas that lines give, line by line from the last one.
use Rattle.std.proofs.Common.{◌≡◌, ℕ, suc, zero, ◌+◌, ◌≤◌, List, [], ◌∷◌, ◌++◌, map, reverse, length, Option, Some, None, refl, sym, ◌∙◌, ap, subst, append_assoc, arith}
use Rattle.std.proofs.lemmas.List.{append-nil, reverse-append, length-append}
use Rattle.tptp_base.specs.declared.item.Role.TheVariants as role
use Rattle.fof_terms.specs.declared.form.Form.{Form}
use Rattle.sort_check.specs.declared.line.Line.{Line}
use Rattle.sort_check.specs.declared.line.GivenEntry.{GivenEntry}
use Rattle.sort_check.specs.Given.{given_form, with_entry, given_entries}
use Rattle.read_problems.proofs.Givens.{forms_of}

-- the formulas of one line
abbrev Of : Line → List Form
Of l = forms_of (given_entries (l ∷ []))

in_front : (l : Line) (o : Option Form) (rest : List GivenEntry) → forms_of (with_entry l o rest) ≡ forms_of (with_entry l o []) ++ forms_of rest
in_front l (Some a) rest = refl
in_front l None rest = refl

-- a line behind others
behind : (lines : List Line) (l : Line) → forms_of (given_entries (lines ++ (l ∷ []))) ≡ forms_of (given_entries lines) ++ Of l
behind [] l = refl
behind (k ∷ lines) l =
    let o = given_form k.role k.form in
    in_front k o (given_entries (lines ++ (l ∷ [])))
    ∙ ap (λ fs. forms_of (with_entry k o []) ++ fs) (behind lines l)
    ∙ sym (append_assoc (forms_of (with_entry k o [])) (forms_of (given_entries lines)) (Of l))
    ∙ ap (λ fs. fs ++ Of l) (sym (in_front k o (given_entries lines)))

-- one formula at most is its own reverse
alone : (l : Line) (o : Option Form) → reverse (forms_of (with_entry l o [])) ≡ forms_of (with_entry l o [])
alone l (Some a) = refl
alone l None = refl

pub given_before : (lines all left : List Line) (l : Line) (forms more : List Form) → forms_of (given_entries all) ++ reverse forms ≡ forms_of (given_entries lines) → all ≡ left ++ (l ∷ []) → more ≡ forms ++ Of l
    → forms_of (given_entries left) ++ reverse more ≡ forms_of (given_entries lines)
given_before lines all left l forms more before is added =
    let given = forms_of (given_entries left) in
    ap (λ fs. given ++ reverse fs) added
    ∙ ap (λ fs. given ++ fs) (reverse-append forms (Of l) ∙ ap (λ fs. fs ++ reverse forms) (alone l (given_form l.role l.form)))
    ∙ sym (append_assoc given (Of l) (reverse forms))
    ∙ ap (λ fs. fs ++ reverse forms) (sym (behind left l))
    ∙ ap (λ ls. forms_of (given_entries ls) ++ reverse forms) (sym is)
    ∙ before

pub axiom_gives : (l : Line) → l.role ≡ role.Axiom → Of l ≡ l.form ∷ []
axiom_gives l is = ap (λ r. forms_of (with_entry l (given_form r l.form) [])) is

few : (l : Line) (o : Option Form) → length (with_entry l o []) ≤ 1
few l (Some a) = omega arith
few l None = omega arith

last_of : (l : Line) (o : Option Form) (entries : List GivenEntry) (e : GivenEntry) → with_entry l o [] ≡ entries ++ (e ∷ []) → forms_of (with_entry l o []) ≡ e.form ∷ []
last_of l o [] e is = ap forms_of is
last_of l o (x ∷ entries) e is =
    let many : length (with_entry l o []) ≡ suc (length (entries ++ (e ∷ []))) = ap length is in
    absurd (omega (arith, many, few l o, length-append entries (e ∷ [])))

-- the last formula of one line is all that it gives
pub one_given : (l : Line) (given entries : List GivenEntry) (e : GivenEntry) → given ≡ given_entries (l ∷ []) → given ≡ entries ++ (e ∷ []) → Of l ≡ e.form ∷ []
one_given l given entries e is last = last_of l (given_form l.role l.form) entries e (sym is ∙ last)

pub none_given : (l : Line) (given : List GivenEntry) → given ≡ given_entries (l ∷ []) → given ≡ [] → Of l ≡ []
none_given l given is none = ap forms_of (sym is ∙ none)
