-- A derivation of falsehood from the formulas that a problem gives, by a refutation of their clauses (Bachmair and
-- Ganzinger, Resolution theorem proving).
use Rattle.std.specs.Prelude.{ℕ, ◌≡◌, false, List, ◌++◌, length}
use Rattle.fof_terms.specs.Vocabulary.{Vocabulary}
use Rattle.sort_check.specs.declared.line.GivenEntry.{GivenEntry}
use Rattle.saturation.specs.Ends.{IsRefuted}
use Rattle.saturation.specs.Members.{clauses_of}
use Rattle.saturation.specs.Origins.{AreMade, IsMade}
use Rattle.saturation.specs.declared.member.Member.{Member}
use Rattle.printed_clauses.specs.Prefixes.{IsPrefix, prefix_of}
use Rattle.refutation_lines.specs.Derivations.{IsDerivationOf}
use Rattle.refutation_lines.specs.Plans.{Refutation, refutation}
use Rattle.refutation_lines.specs.declared.derivation.Derivation.{Derivation}
use Rattle.problem_proofs.specs.Posed.{clauses_of_given, is_too_wide, with_functions}

-- members, and a further one, over the clauses of the given formulas
abbrev pub refutation_by : Vocabulary → List GivenEntry → List Member → Member → Refutation
refutation_by v given members last = refutation given (length v.symbols) (clauses_of_given v given) members last

-- A search under the limit ends with these members and the further one, which is empty. The derivation is theirs, and
-- no name of the vocabulary begins as those of its functions do.
pub record IsFound (v : Vocabulary) (given : List GivenEntry) (limit : ℕ) (d : Derivation) : Type 0 where
  pub members : List Member
  pub last : Member
  pub narrow : is_too_wide v given ≡ false
  pub refuted : IsRefuted (with_functions v given) (clauses_of_given v given) limit (clauses_of members) last.clause
  pub made : AreMade (with_functions v given) (clauses_of_given v given) members
  pub last_made : IsMade (with_functions v given) (clauses_of_given v given) (clauses_of members) last
  pub underscores : ℕ
  pub free : IsPrefix v underscores
  pub derivation : IsDerivationOf (refutation_by v given members last) (prefix_of underscores) d

-- the vocabulary of the derivation
abbrev pub vocabulary_of : Vocabulary → Derivation → Vocabulary
vocabulary_of v d = record v { symbols = v.symbols ++ d.functions }
