use Rattle.std.proofs.Common.{◌≡◌, ◌+◌, ◌<◌, ◌++◌, ◌∷◌, List, length, drop}
use Rattle.std.specs.Prelude.{◌^◌}
use Rattle.clause_form.specs.declared.clause.Clause.{Clause}
use Rattle.split_defs.specs.code.SplitProof.{AreNamed, AreStages, stage_clauses}
use Rattle.clause_form.specs.Paths.{forms_of}
use Rattle.split_defs.proofs.stages.all_stages.Given as goal

abbrev pub invariant-loop-i : goal.invariant-loop-i
invariant-loop-i l = record {
  are : AreStages l.sig l.parents l.form 1 l.stages;
  count : length l.stages ≡ l.i + 1;
  short : length l.stages < 2 ^ 32;
  clauses : (ds : List Clause) → AreNamed (forms_of l.parents) l.line.clause l.names ds → stage_clauses l.stages ++ drop l.i ds ≡ l.line.clause ∷ ds;
}
