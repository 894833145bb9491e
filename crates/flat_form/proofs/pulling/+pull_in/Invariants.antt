use Rattle.std.proofs.Common.{◌≡◌, ◌++◌, take, map, flat_map, length}
use Rattle.clause_form.specs.Norm.{members_of}
use Rattle.flat_form.specs.Flat.{pulled, sorts_of}
use Rattle.flat_form.proofs.Bodies.{placed_bodies}
use Rattle.flat_form.proofs.pulling.+pull_in.Given as goal

abbrev pub invariant-pull_node-loop-form : goal.invariant-pull_node-loop-form
invariant-pull_node-loop-form l = record {
  met : l.sorts ≡ l.fn.sorts ++ sorts_of (map pulled (take l.form-index l.forms));
  kept : l.places ≡ l.fn.places;
  joined : l.flat ≡ flat_map (members_of l.kind) (placed_bodies l.fn.places l.total (length l.fn.sorts) (map pulled (take l.form-index l.forms)));
}
