use Rattle.std.proofs.Common.{◌≡◌, map, take, nat_eq}
use Rattle.std.specs.List.{IsDistinct}
use Rattle.fof_terms.specs.declared.term.Term.{Var}
use Rattle.split_defs.proofs.arguments.names_of.Given as goal

abbrev pub invariant-loop-arg : goal.invariant-loop-arg
invariant-loop-arg l = record {
  front : map Var l.names.keys ≡ take l.arg-index l.args;
  distinct : IsDistinct nat_eq l.names.keys;
}
