-- What private contracts say, beside the definitions of specs/SplitSearch.
use Rattle.std.specs.Prelude.{ℕ, ◌≡◌, List, MatchOption, Option, Some, None, slice_get}
use Rattle.fof_terms.specs.declared.term.Term.{Term}
use Rattle.fof_terms.specs.declared.form.Form.{Form}
use Rattle.fof_terms.specs.Vocabulary.{Vocabulary}
use Rattle.clause_form.specs.declared.clause.Lit.{Lit}
use Rattle.clause_form.specs.declared.clause.Clause.{Clause}
use Rattle.clause_form.specs.ClauseView.{clause_of}
use Rattle.clause_form.specs.Covers.{scope_of, CoversBy, HasOne}
use Rattle.clause_rules.specs.Steps.{IsJoint, images_of_parents}
use Rattle.split_defs.specs.declared.just.SplitJust.{SplitJust}
use Rattle.split_defs.specs.declared.covering.Covered.{Covered}
use Rattle.split_defs.specs.SplitRule.{name_lit, Names, IsSplitStep}
use Rattle.split_defs.specs.SplitSearch.{ShowsSplit}

-- the place at which the name stands as a literal, or none
abbrev pub IsPlaceOfName : List Lit → ℕ → Option ℕ → Type 0
IsPlaceOfName lits q None = HasOne (λ l. l ≡ name_lit q) lits → ⊥
IsPlaceOfName lits q (Some i) = slice_get lits i ≡ Some (name_lit q)

-- the clause that a literal of the line stands for by the formula, or none
abbrev pub IsNamed : Clause → Form → Option Clause → Type 0
IsNamed line form None = (d : Clause) → Names line form d → ⊥
IsNamed line form (Some d) = Names line form d

-- the images cover the clause that the formula is by the other one
abbrev pub CoversForm : Vocabulary → Clause → Form → List Term → Type 0
CoversForm v whole form images =
    (c : Clause) × (clause_of form ≡ Some c) × IsJoint v whole (scope_of c) images × CoversBy v (scope_of c) c.lits whole (scope_of c) (images_of_parents whole images)

-- the formula is a clause that no substitution covers, or none
abbrev pub NoCover : Vocabulary → Clause → Form → Type 0
NoCover v whole form = (c : Clause) (more : List ℕ) (s : ℕ → Term) → clause_of form ≡ Some c → CoversBy v (scope_of c) c.lits whole more s → ⊥

-- images that cover it, or none where there are none
abbrev pub IsCovering : Vocabulary → Clause → Form → Option (List Term) → Type 0
IsCovering v whole form None = NoCover v whole form
IsCovering v whole form (Some images) = CoversForm v whole form images

-- the same of the parent of that number
abbrev pub NoCoverAt : Vocabulary → List Form → Clause → ℕ → Type 0
NoCoverAt v parents whole n = (form : Form) → slice_get parents n ≡ Some form → NoCover v whole form

-- a parent that is covered, or none where none is
abbrev pub IsCoveredAmong : Vocabulary → List Form → Clause → Option Covered → Type 0
IsCoveredAmong v parents whole None = (n : ℕ) → NoCoverAt v parents whole n
IsCoveredAmong v parents whole (Some found) = (form : Form) × (slice_get parents found.parent ≡ Some form) × CoversForm v whole form found.subst

-- a justification, or none where the rule doesn't hold
abbrev pub IsFoundSplit : Vocabulary → List Form → Form → Option SplitJust → Type 0
IsFoundSplit v parents line found = MatchOption found (IsSplitStep v parents line → ⊥) (ShowsSplit v parents line)

-- the same of a line that is the clause
abbrev pub IsFoundFor : Vocabulary → List Form → Clause → Option SplitJust → Type 0
IsFoundFor v parents e found = (line : Form) → clause_of line ≡ Some e → IsFoundSplit v parents line found
