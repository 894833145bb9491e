-- Two clauses over one list of variables with the line.
use Rattle.std.specs.Prelude.{◌≡◌, ◌++◌, length, map}
use Rattle.clause_form.specs.declared.clause.Clause.{Clause}
use Rattle.clause_form.specs.Covers.{lit_apart, scope_of}
use Rattle.clause_rules.specs.declared.joint.Joint.{Joint}
use Rattle.clause_rules.specs.Steps.{scope_of_both, apart_from}

pub record IsJoined (line left right : Clause) (joint : Joint) : Type 0 where
  pub sorts : joint.scope.sorts ≡ scope_of line ++ scope_of_both left right
  pub rigid : joint.scope.rigid ≡ length line.sorts
  pub left_lits : joint.left ≡ map (lit_apart (length line.sorts)) left.lits
  pub right_lits : joint.right ≡ map (lit_apart (length line.sorts)) (apart_from left right.lits)

-- one clause over one list of variables with the line
pub record IsJoinedOne (line c : Clause) (joint : Joint) : Type 0 where
  pub sorts : joint.scope.sorts ≡ scope_of line ++ scope_of c
  pub rigid : joint.scope.rigid ≡ length line.sorts
  pub lits : joint.left ≡ map (lit_apart (length line.sorts)) c.lits
