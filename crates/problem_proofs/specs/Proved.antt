-- What `prove` says of the formulas that a problem gives: the items of a derivation of falsehood from them, or how the
-- search for one ended without.
use Rattle.std.specs.Prelude.{ℕ, ◌≡◌, ◌⊎◌, true, List, length}
use Rattle.tptp_base.specs.declared.limit.LimitName.{LimitName}
use Rattle.tptp_base.specs.declared.limit.LimitName.TheVariants.{Symbols}
use Rattle.fof_terms.specs.Vocabulary.{Vocabulary}
use Rattle.sort_check.specs.declared.line.GivenEntry.{GivenEntry}
use Rattle.saturation.specs.Ends.{IsDry, IsFull, IsHeavy}
use Rattle.step_search.specs.Search.{HasList}
use Rattle.derivation_items.specs.Words.{Text}
use Rattle.refutation_lines.specs.declared.derivation.Derivation.{Derivation}
use Rattle.limited_items.specs.Limits.{AreWithin, IsOver}
use Rattle.limited_items.specs.Premises.{HaveSmallPremises}
use Rattle.problem_proofs.specs.Found.{IsFound, vocabulary_of}
use Rattle.problem_proofs.specs.Posed.{HasSymbols, falsehood, is_too_wide, parents_of}
use Rattle.problem_proofs.specs.declared.proved.Proved.{Proved}
use Rattle.problem_proofs.specs.declared.proved.Proved.TheVariants.{Proof, Open}
use Rattle.problem_proofs.specs.declared.proved.Why.TheVariants.{Dry, Full, Heavy, Wide}

-- a derivation is found, of which this holds
abbrev pub Finds : Vocabulary → List GivenEntry → ℕ → (Derivation → Type 0) → Type 0
Finds v given limit Holds = (d : Derivation) × IsFound v given limit d × Holds d

-- The items are those of a derivation within the limits. Dry, full and heavy are words for how a search of the clauses
-- ends under the limit. Wide says that the given formulas are too large for a search, or else that a derivation is found
-- some line of which is inferred from one line alone that has no normal form: no rule gives such a line.
abbrev pub IsProved : Vocabulary → List GivenEntry → Text → ℕ → Proved → Type 0
IsProved v given file limit (Proof items) = Finds v given limit (λ d. HaveSmallPremises d.lines × AreWithin file (vocabulary_of v d) (length v.symbols) given d.lines items)
IsProved v given file limit (Open Dry) = HasList v (parents_of given) falsehood (λ w inputs list. IsDry w inputs limit list)
IsProved v given file limit (Open Full) = HasList v (parents_of given) falsehood (λ w inputs list. IsFull w inputs limit list)
IsProved v given file limit (Open Heavy) = HasList v (parents_of given) falsehood (λ w inputs list. IsHeavy w inputs limit list)
IsProved v given file limit (Open Wide) = (is_too_wide v given ≡ true) ⊎ Finds v given limit (λ d. HaveSmallPremises d.lines → ⊥)

-- Of a limit: the given formulas may bring in too many symbols, or else a derivation is found that is over it.
abbrev pub MayBeOver : Vocabulary → List GivenEntry → ℕ → LimitName → Type 0
MayBeOver v given limit name =
    ((name ≡ Symbols) × (HasSymbols v given → ⊥)) ⊎ (HasSymbols v given × Finds v given limit (λ d. IsOver (vocabulary_of v d) (length v.symbols) given d.lines name))
