use Rattle.std.proofs.Common.{◌≡◌, drop}
use Rattle.skolem_fresh.specs.Renamed.{place_of}
use Rattle.skolem_fresh.proofs.renaming.place_of.Given as goal

abbrev pub invariant-loop-i : goal.invariant-loop-i
invariant-loop-i l = place_of (drop l.i l.variables) l.variable ≡ place_of l.variables l.variable
