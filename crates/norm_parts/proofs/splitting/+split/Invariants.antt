use Rattle.std.proofs.Common.{◌≡◌, ◌++◌, take, map, flat_map}
use Rattle.clause_form.specs.ClauseView.{closed_by}
use Rattle.norm_parts.specs.Parts.{parts_of}
use Rattle.norm_parts.proofs.splitting.+split.Given as goal

abbrev pub invariant-split_all-loop-form : goal.invariant-split_all-loop-form
invariant-split_all-loop-form l = (l.made ≡ l.initial.made ++ map (closed_by l.initial.sorts) (flat_map parts_of (take l.form-index l.forms))) × (l.sorts ≡ l.initial.sorts)
