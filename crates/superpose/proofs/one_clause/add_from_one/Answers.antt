use Rattle.std.specs.Prelude.{ℕ}
use Rattle.std.proofs.Common.{subst, List}
use Rattle.std.proofs.lemmas.Result.{on_ok_weaker}
use Rattle.clause_form.specs.Covers.{scope_of}
use Rattle.superpose.specs.Made.{Adds}
use Rattle.superpose.specs.code.Listed.{OfSome}
use Rattle.superpose.specs.code.Places.{FromLit}
use Rattle.superpose.proofs.Gathered.{all_from_one}
use Rattle.superpose.proofs.one_clause.add_from_one.Goals as goal

pub returns : goal.returns
returns c =
    on_ok_weaker c.add_from_lits.result (λ h.
    all_from_one c.args.sig.now c.args.c.now c.args.used.now c.args.made.now c.add_from_lits.new.made c.requires.used
    (subst (λ (numbers : List ℕ). Adds c.args.sig.now (scope_of c.args.c.now) (OfSome ℕ (FromLit c.args.c.now) numbers) c.args.made.now c.add_from_lits.new.made)
    c.as_slice.ensures h)) c.add_from_lits.ensures
