-- Tests of marks and of texts.
use Rattle.std.proofs.Common.{◌≡◌, ℕ, ◌≤◌, ◌∷◌, Bool, true, false, Option, Some, None, refl, ap, rules}
use Rattle.std.proofs.lemmas.Slice.Eq.{bytes_eq-Decides}
use Rattle.std.specs.Str.{bytes_eq}
use denote.Enum.Bare.{same_true}
use Rattle.first_fault.specs.code.Reading.{Reader, closed, separated, opened}
use Rattle.first_fault.specs.Rules.{Rule, Listed}
use Rattle.first_fault.proofs.Good.{IsKind, Good, After, good_closed, good_opened}
use Rattle.first_fault.proofs.Separated.{Moves, sees_next, good_listed}
use Rattle.tptp_lexer.specs.contracts.token.Mark.{the_type}
use Rattle.tptp_lexer.specs.declared.token.Token.{Token}
use Rattle.tptp_lexer.specs.declared.token.Token.TheVariants.{Lower, Quoted, Upper, Dollar, System, Number, Distinct, Comment, Mark as Sign}
use Rattle.tptp_lexer.specs.declared.token.Mark.{Mark}
use Rattle.tptp_lexer.specs.declared.token.Mark.TheVariants as m
use Rattle.tptp_grammar.specs.Tokens.{Text}
use Rattle.tptp_grammar.specs.code.ReadTerms.{same_mark, is_mark}

mark_itself : (mark : Mark) → is_mark mark (Sign mark) ≡ true
unfolding same_mark
mark_itself = elim [ m.Open ↦ refl | _ ↦ refl ]

mark_only : (mark : Mark) (t : Token) → is_mark mark t ≡ true → t ≡ Sign mark
unfolding same_mark
mark_only mark (Sign other) e = ap Sign (same_true the_type (search rules) other mark e)
mark_only mark (Lower name) e = cc
mark_only mark (Upper name) e = cc
mark_only mark (Quoted name) e = cc
mark_only mark (Dollar name) e = cc
mark_only mark (System name) e = cc
mark_only mark (Number name) e = cc
mark_only mark (Distinct name) e = cc
mark_only mark (Comment name) e = cc

pub is_kind : (mark : Mark) → IsKind (is_mark mark) (Sign mark)
is_kind mark = record { itself = mark_itself mark; only = mark_only mark }

-- what is read, and then a mark
pub good_in : {A : Type 0} (mark : Mark) (limit level : ℕ) → level ≤ limit → (p : Reader Token A) (P : Rule Token A) (E F : Option Token → Bool) → E (Some (Sign mark)) ≡ true → Good limit p P E
    → Good limit (closed (is_mark mark) p) (λ v ts rest. P v ts ((Sign mark, level) ∷ rest)) F
good_in mark limit level fits p P E F ends good = good_closed (is_mark mark) (Sign mark) (is_kind mark) limit level fits p P E F ends good

-- a mark, and then what is read
pub good_behind : {A : Type 0} (mark : Mark) (limit level : ℕ) → level ≤ limit → (p : Reader Token A) (P : Rule Token A) (E : Option Token → Bool) → Good limit p P E
    → Good limit (opened (is_mark mark) p) (After (Sign mark) level (λ x. x) P) E
good_behind mark limit level fits p P E good = good_opened (is_mark mark) (Sign mark) (is_kind mark) limit level fits p P E good

abbrev pub sees_mark : Mark → Option Token → Bool
sees_mark mark = sees_next (is_mark mark)

-- one or more with a mark between them
pub good_list : {A : Type 0} (mark : Mark) (limit level : ℕ) → level ≤ limit → (p : Reader Token A) (P : Rule Token A) (E F : Option Token → Bool) → Good limit p P E → Moves P → E (Some (Sign mark)) ≡ true
    → ((h : Option Token) → F h ≡ true → (E h ≡ true) × (sees_mark mark h ≡ false)) → Good limit (separated (is_mark mark) p) (Listed (Sign mark) level P) F
good_list mark limit level fits p P E F good moves goes ends = good_listed (is_mark mark) (Sign mark) (is_kind mark) limit level fits p P E F good moves goes ends

pub text_is : (w text : Text) → bytes_eq w text ≡ true → w ≡ text
text_is w text e = (bytes_eq-Decides w text).0 e

pub is_text : (w text : Text) → w ≡ text → bytes_eq w text ≡ true
is_text w text e = (bytes_eq-Decides w text).1 e

-- ---- which next tokens end what was read

-- the closing marks
abbrev pub closes : Option Token → Bool
closes (Some (Sign m.Close)) = true
closes _ = false

abbrev pub closes_list : Option Token → Bool
closes_list (Some (Sign m.CloseList)) = true
closes_list _ = false

abbrev pub ends_term : Option Token → Bool
ends_term (Some (Sign m.Open)) = false
ends_term _ = true

-- an atom
abbrev pub ends_atom : Option Token → Bool
ends_atom (Some (Sign m.Open)) = false
ends_atom (Some (Sign m.Equal)) = false
ends_atom _ = true

-- an atom or an inequation, a unit and a literal
abbrev pub ends_unit : Option Token → Bool
ends_unit (Some (Sign m.Open)) = false
ends_unit (Some (Sign m.Equal)) = false
ends_unit (Some (Sign m.NotEqual)) = false
ends_unit _ = true

pub atom_ends_term : (h : Option Token) → ends_atom h ≡ true → ends_term h ≡ true
atom_ends_term (Some (Sign m.Open)) e = cc
atom_ends_term (Some (Sign m.Equal)) e = cc
atom_ends_term h e = refl

pub unit_ends_atom : (h : Option Token) → ends_unit h ≡ true → ends_atom h ≡ true
unit_ends_atom (Some (Sign m.Open)) e = cc
unit_ends_atom (Some (Sign m.Equal)) e = cc
unit_ends_atom (Some (Sign m.NotEqual)) e = cc
unit_ends_atom h e = refl

-- a literal
abbrev pub ends_literals : Option Token → Bool
ends_literals (Some (Sign m.Open)) = false
ends_literals (Some (Sign m.Equal)) = false
ends_literals (Some (Sign m.NotEqual)) = false
ends_literals (Some (Sign m.Bar)) = false
ends_literals _ = true

-- a formula
abbrev pub ends_formula : Option Token → Bool
ends_formula (Some (Sign m.Open)) = false
ends_formula (Some (Sign m.Equal)) = false
ends_formula (Some (Sign m.NotEqual)) = false
ends_formula (Some (Sign m.Imp)) = false
ends_formula (Some (Sign m.RevImp)) = false
ends_formula (Some (Sign m.Iff)) = false
ends_formula (Some (Sign m.Xor)) = false
ends_formula (Some (Sign m.Nor)) = false
ends_formula (Some (Sign m.Nand)) = false
ends_formula (Some (Sign m.Bar)) = false
ends_formula (Some (Sign m.Ampersand)) = false
ends_formula _ = true

pub literals_end_unit : (h : Option Token) → ends_literals h ≡ true → (ends_unit h ≡ true) × (sees_mark m.Bar h ≡ false)
unfolding same_mark
literals_end_unit None e = (refl, refl)
literals_end_unit (Some (Sign m.Open)) e = cc
literals_end_unit (Some (Sign m.Equal)) e = cc
literals_end_unit (Some (Sign m.NotEqual)) e = cc
literals_end_unit (Some (Sign m.Bar)) e = cc
literals_end_unit (Some t) e = (refl, refl)

-- the marks that join units
abbrev pub separates : Mark → Bool
separates m.Bar = true
separates m.Ampersand = true
separates _ = false

pub formula_ends_units : (mark : Mark) → separates mark ≡ true → (h : Option Token) → ends_formula h ≡ true → (ends_unit h ≡ true) × (sees_mark mark h ≡ false)
unfolding same_mark
formula_ends_units m.Bar s None e = (refl, refl)
formula_ends_units m.Bar s (Some (Sign m.Open)) e = cc
formula_ends_units m.Bar s (Some (Sign m.Equal)) e = cc
formula_ends_units m.Bar s (Some (Sign m.NotEqual)) e = cc
formula_ends_units m.Bar s (Some (Sign m.Bar)) e = cc
formula_ends_units m.Bar s (Some (Sign m.Imp)) e = cc
formula_ends_units m.Bar s (Some (Sign m.RevImp)) e = cc
formula_ends_units m.Bar s (Some (Sign m.Iff)) e = cc
formula_ends_units m.Bar s (Some (Sign m.Xor)) e = cc
formula_ends_units m.Bar s (Some (Sign m.Nor)) e = cc
formula_ends_units m.Bar s (Some (Sign m.Nand)) e = cc
formula_ends_units m.Bar s (Some (Sign m.Ampersand)) e = cc
formula_ends_units m.Bar s (Some t) e = (refl, refl)
formula_ends_units m.Ampersand s None e = (refl, refl)
formula_ends_units m.Ampersand s (Some (Sign m.Open)) e = cc
formula_ends_units m.Ampersand s (Some (Sign m.Equal)) e = cc
formula_ends_units m.Ampersand s (Some (Sign m.NotEqual)) e = cc
formula_ends_units m.Ampersand s (Some (Sign m.Bar)) e = cc
formula_ends_units m.Ampersand s (Some (Sign m.Imp)) e = cc
formula_ends_units m.Ampersand s (Some (Sign m.RevImp)) e = cc
formula_ends_units m.Ampersand s (Some (Sign m.Iff)) e = cc
formula_ends_units m.Ampersand s (Some (Sign m.Xor)) e = cc
formula_ends_units m.Ampersand s (Some (Sign m.Nor)) e = cc
formula_ends_units m.Ampersand s (Some (Sign m.Nand)) e = cc
formula_ends_units m.Ampersand s (Some (Sign m.Ampersand)) e = cc
formula_ends_units m.Ampersand s (Some t) e = (refl, refl)
formula_ends_units mark s h e = cc

pub formula_ends_unit : (h : Option Token) → ends_formula h ≡ true → ends_unit h ≡ true
formula_ends_unit h e = (formula_ends_units m.Bar refl h e).0
