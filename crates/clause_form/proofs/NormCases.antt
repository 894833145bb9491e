-- The normal forms of implications and equivalences, as code meets them.
use Rattle.std.specs.Prelude.{Bool, not, List, [], ◌∷◌, ◌++◌, ◌≡◌, refl}
use Rattle.std.proofs.Common.{ap, sym, ◌∙◌}
use Rattle.std.proofs.lemmas.List.{append-nil}
use Rattle.fof_terms.specs.declared.form.Form.{Form, Imp, Iff}
use Rattle.clause_form.specs.Norm.{members_of, joined_flat, join, norm_of}
use Rattle.clause_form.proofs.NormFacts.{norm_of-Imp, norm_of-Iff}

pub joined_two : (kind : Bool) (first second : Form) (flat flat' : List Form) (made : Form) → flat' ≡ flat ++ members_of kind second → made ≡ joined_flat kind flat' → flat ≡ members_of kind first
    → made ≡ join kind (first ∷ second ∷ [])
joined_two kind first second flat flat' made e m f =
    let nil : members_of kind second ++ [] ≡ members_of kind second = append-nil (members_of kind second) in
    m ∙ (rw (e, f, nil) refl)

-- a formula whose members were taken, joined with another
abbrev pub JoinsWith : Bool → List Form → Form → Form → Type 0
JoinsWith kind flat second made = (first : Form) → flat ≡ members_of kind first → made ≡ join kind (first ∷ second ∷ [])

pub imp_done : (g : Bool) (form l r l1 r1 first second : Form) (flat : List Form) (made : Form) → form ≡ Imp l r → l1 ≡ l → r1 ≡ r → first ≡ norm_of (not g) l1 → second ≡ norm_of g r1
    → flat ≡ members_of (not g) first → JoinsWith (not g) flat second made → made ≡ norm_of g form
imp_done g form l r l1 r1 first second flat made is el er e1 e2 ef f =
    let one : first ≡ norm_of (not g) l = e1 ∙ ap (norm_of (not g)) el in
    let two : second ≡ norm_of g r = e2 ∙ ap (norm_of g) er in
    f first ef ∙ (rw (is, one, two) (sym (norm_of-Imp g l r)))

pub iff_done : (g : Bool) (form l r l1 r1 l2 r2 first second third fourth forth back : Form) (flat flat' whole : List Form) (made : Form) → form ≡ Iff l r → l1 ≡ l → r1 ≡ r → l2 ≡ l → r2 ≡ r
    → first ≡ norm_of (not g) l1 → second ≡ norm_of g r1 → third ≡ norm_of g l2 → fourth ≡ norm_of (not g) r2
    → flat ≡ members_of (not g) first → JoinsWith (not g) flat second forth → whole ≡ members_of g forth
    → flat' ≡ members_of (not g) third → JoinsWith (not g) flat' fourth back → JoinsWith g whole back made → made ≡ norm_of g form
iff_done g form l r l1 r1 l2 r2 first second third fourth forth back flat flat' whole made is el er el' er' e1 e2 e3 e4 ef f ew ef' f' fw =
    let one : first ≡ norm_of (not g) l = e1 ∙ ap (norm_of (not g)) el in
    let two : second ≡ norm_of g r = e2 ∙ ap (norm_of g) er in
    let three : third ≡ norm_of g l = e3 ∙ ap (norm_of g) el' in
    let four : fourth ≡ norm_of (not g) r = e4 ∙ ap (norm_of (not g)) er' in
    let here : forth ≡ join (not g) (norm_of (not g) l ∷ norm_of g r ∷ []) = f first ef ∙ (rw (one, two) refl) in
    let there : back ≡ join (not g) (norm_of g l ∷ norm_of (not g) r ∷ []) = f' third ef' ∙ (rw (three, four) refl) in
    fw forth ew ∙ (rw (is, here, there) (sym (norm_of-Iff g l r)))
