use Rattle.std.proofs.Common.{length, None, ap, sym, subst, List, ◌∙◌}
use Rattle.std.proofs.lemmas.List.{length-replicate}
use Rattle.clause_learning.specs.declared.literal.Literal.{Literal}
use Rattle.clause_learning.specs.Valuations.{HasAtoms}
use Rattle.clause_learning.proofs.Turning.{fresh_state}
use Rattle.clause_learning.proofs.solver.Solver.new.Goals as goal

pub returns : goal.returns
returns c =
    let fresh = c.in_ok-new.ensures in
    let H : List (List Literal) → Type 0 = λ is. HasAtoms c.args.atoms is in
    record {
      state = fresh_state c.args.atoms (record { clauses = c.new.result; trail = c.in_ok-new.field-0; marks = c.in_ok-new-2.field-0; restarts = c.new-4.result }) (subst H (sym c.new.ensures.0) c.requires) c.new.ensures.1 fresh c.in_ok-new-2.ensures;
      inputs = c.new.ensures.0;
      many = ap length fresh.values ∙ length-replicate c.args.atoms None;
    }
