use Rattle.std.proofs.Common.{◌≡◌, take, map}
use Rattle.clause_form.specs.Strip.{strip_of}
use Rattle.clause_form.proofs.stripping.+strip.Given as goal

abbrev pub invariant-strip_all-loop-form : goal.invariant-strip_all-loop-form
invariant-strip_all-loop-form l = l.made ≡ map strip_of (take l.form-index l.forms)
