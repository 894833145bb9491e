-- The formula of a finding.
use Rattle.fof_terms.specs.declared.form.Form.{Form, Not, Imp, Iff}
use Rattle.proof_check.specs.declared.finding.Parts.{Parts}
use Rattle.proof_check.specs.declared.finding.Parts.TheVariants.{Given, Made, Negation, Implication, Towards, Equivalence}

-- what stands there, and what is made of it
abbrev pub formula : Parts → Form
formula (Given a) = a.now
formula (Made a) = a
formula (Negation a) = Not a.now
formula (Implication a b) = Imp a.now b.now
formula (Towards a b) = Imp a.now b
formula (Equivalence a b) = Iff a.now b.now
