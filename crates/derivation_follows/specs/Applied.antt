-- Lines of a derivation, each of which some rule gives. Which of the rules is the first that does is left open.
use Rattle.std.specs.Prelude.{ℕ, ◌≡◌, ◌⊎◌, ⊤, Bool, true, false, List, [], ◌∷◌, ◌++◌, Some}
use Rattle.fof_terms.specs.Vocabulary.{Vocabulary}
use Rattle.fof_terms.specs.declared.form.Form.{Form}
use Rattle.kernel.specs.Statements.{Statements}
use Rattle.clause_form.specs.declared.path.Parent.{Parent}
use Rattle.elaborate.specs.ByRule.{Applies, GivesAlone, leaf_rules, rules}
use Rattle.elaborate.specs.declared.answer.Rule.{Rule}
use Rattle.verifier.specs.Good.{cited_forms, so_far, without_numbers}
use Rattle.verifier.specs.Lines.{Derivation, IsLineAt, Line, candidates_of}

-- some rule of the list gives the line
abbrev pub OneApplies : List Rule → Statements → List Parent → Form → Type 0
OneApplies [] t parents line = ⊥
OneApplies (r ∷ rs) t parents line = Applies t parents line r ⊎ OneApplies rs t parents line

-- some rule of the list gives the line from some candidate alone
abbrev pub OneGivesAlone : List Rule → Statements → List Parent → Form → Type 0
OneGivesAlone [] t candidates line = ⊥
OneGivesAlone (r ∷ rs) t candidates line =
    ((i : ℕ) × GivesAlone t candidates line r i) ⊎ OneGivesAlone rs t candidates line

-- with what is so far, some rule of leaves, or of steps, gives the line from parents with these formulas
abbrev pub IsGivenAs : Bool → Statements → List Form → Bool → List Form → Form → Type 0
IsGivenAs true t given cited forms line =
    OneGivesAlone leaf_rules t (candidates_of given cited (without_numbers forms)) line
IsGivenAs false t given cited forms line = OneApplies rules t (without_numbers forms) line

-- with what is so far, some rule gives the line
abbrev pub IsGiven : Statements → Derivation → Line → Type 0
IsGiven t d line =
    (forms : List Form) × (cited_forms d.given d.forms line.node.parents ≡ Some forms)
    × IsGivenAs line.node.leaf t d.given line.node.cited forms line.form

-- behind lines with these formulas, some rule gives each of the lines at these places, one after another
abbrev pub AreGivenInTurn : Vocabulary → Derivation → List Form → List ℕ → Type 0
AreGivenInTurn v d earlier [] = ⊤
AreGivenInTurn v d earlier (place ∷ places) =
    (line : Line) × IsLineAt d place line × IsGiven (so_far v d.given earlier) d line
    × AreGivenInTurn v d (earlier ++ line.form ∷ []) places
