-- What the proof of a line by a rule is asked of, and what it says.
use Rattle.std.specs.Prelude.{List, []}
use Rattle.fof_terms.specs.declared.form.Form.{Form}
use Rattle.fof_terms.specs.Vocabulary.{Vocabulary}
use Rattle.clause_rules.specs.Answers.{ShapeRule, norm, cover, tautology, resolution, paramodulation, eqfactor, rewrite}
use Rattle.flat_form.specs.Flat.{HasFlat}
use Rattle.kernel.specs.Proves.{Proves}
use Rattle.kernel.specs.declared.proof.Proof.{Proof}
use Rattle.clause_proofs.specs.Refuting.{theory_of}

-- the rule goes by clauses alone, and by no flat or normal form
abbrev pub GoesByClauses : ShapeRule → Type 0
GoesByClauses norm = ⊥
GoesByClauses cover = ⊥
GoesByClauses tautology = Unit {0}
GoesByClauses resolution = Unit {0}
GoesByClauses paramodulation = Unit {0}
GoesByClauses eqfactor = Unit {0}
GoesByClauses rewrite = Unit {0}

-- with these symbols, the proof shows the line, whatever formulas hold
abbrev pub ShowsAlone : Vocabulary → Form → Proof → Type 0
ShowsAlone w line p = (formulas : List Form) → Proves (theory_of w formulas) [] [] p line

-- the formulas have one flat form
pub record AreAlike (a b : Form) : Type 0 where
  pub made : Form
  pub of_first : HasFlat a made
  pub of_second : HasFlat b made
