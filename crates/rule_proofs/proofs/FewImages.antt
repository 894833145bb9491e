-- The images of a clause's variables are no more than a formula that is ready has quantifiers.
use Rattle.std.specs.Prelude.{ℕ, ◌≡◌, ◌≤◌, List, length, take, drop}
use Rattle.std.proofs.Common.{ap, arith}
use Rattle.std.proofs.lemmas.List.{length-take}
use Rattle.fof_terms.specs.declared.term.Term.{Term}
use Rattle.fof_terms.specs.declared.form.Form.{Form}
use Rattle.fof_terms.specs.Vocabulary.{Vocabulary}
use Rattle.clause_proofs.specs.declared.opening.Opened.{Opened}
use Rattle.clause_proofs.specs.code.Bodies.{IsReadyClause}
use Rattle.clause_proofs.proofs.LineGoals.{few_sorts}

pub few_images : (w : Vocabulary) (form : Form) (o : Opened) (images part : List Term) (m : ℕ) → IsReadyClause w form o → part ≡ take (length o.clause.sorts) (drop m images) → length part ≤ 1000000000
few_images w form o images part m r is = omega (arith, ap length is, length-take (length o.clause.sorts) (drop m images), few_sorts w form o.clause o.is_or r.ready r.opening.1)
