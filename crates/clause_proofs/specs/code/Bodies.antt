-- What private contracts say, beside the definitions of specs/Bodies.
use Rattle.std.specs.Prelude.{Some}
use Rattle.fof_terms.specs.declared.form.Form.{Form}
use Rattle.clause_rules.specs.Steps.{IsReady}
use Rattle.fof_terms.specs.Vocabulary.{Vocabulary}
use Rattle.clause_proofs.specs.declared.opening.Opened.{Opened}
use Rattle.clause_proofs.specs.Bodies.{IsOpening}

-- the formula is ready for the rules and has the clause that is opened
pub record IsReadyClause (w : Vocabulary) (a : Form) (o : Opened) : Type 0 where
  pub ready : IsReady w a
  pub opening : IsOpening a (Some o)
