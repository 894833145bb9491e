-- What a derivation claims of its problem, in the words of the SZS ontology, and when a verified refutation justifies
-- it.
use Rattle.std.specs.Prelude.{◌≡◌, ⊤, ◌⊎◌, ℕ, Bool, true, false, List, codes, None, Some, if◌then◌else◌}
use Rattle.std.specs.declared.option.Option.{Option}
use Rattle.derivation_check.specs.declared.claiming.Claim.{Claim}

-- A refutation justifies the word: `Theorem` of a problem with a conjecture, `Unsatisfiable` of one without, and
-- `ContradictoryAxioms` of a problem with a conjecture, where no line cites a conjecture or a negated conjecture.
abbrev pub Justifies : List ℕ → Bool → Bool → Type 0
Justifies word has_conjecture cites_conjecture = ((word ≡ codes "Theorem") × (has_conjecture ≡ true))
    ⊎ (((word ≡ codes "Unsatisfiable") × (has_conjecture ≡ false))
    ⊎ ((word ≡ codes "ContradictoryAxioms") × (has_conjecture ≡ true) × (cites_conjecture ≡ false)))

abbrev pub JustifiesSome : Option (List ℕ) → Bool → Bool → Type 0
JustifiesSome None has_conjecture cites_conjecture = ⊤
JustifiesSome (Some word) has_conjecture cites_conjecture = Justifies word has_conjecture cites_conjecture

-- a refutation justifies the claim
abbrev pub IsJustified : Claim → Type 0
IsJustified claim = JustifiesSome claim.word claim.has_conjecture claim.cites_conjecture

-- the status of a derivation that claims nothing
abbrev pub default_word : Bool → List ℕ
default_word has_conjecture = if has_conjecture then codes "Theorem" else codes "Unsatisfiable"

abbrev pub word_or : Option (List ℕ) → Bool → List ℕ
word_or (Some word) has_conjecture = word
word_or None has_conjecture = default_word has_conjecture

-- the status that is printed for a justified claim
abbrev pub status_word : Claim → List ℕ
status_word claim = word_or claim.word claim.has_conjecture
