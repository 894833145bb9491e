-- The recursion along a path: what each of its steps shows.
use Rattle.std.specs.Prelude.{◌-◌, ◌≡◌, ◌≤◌, true, length, Some}
use Rattle.fof_terms.specs.declared.form.Form.{Form}
use Rattle.clause_form.specs.declared.path.Path.{Path}
use Rattle.clause_form.specs.declared.clause.Clause.{Clause}
use Rattle.clause_form.specs.ClauseView.{closed}
use Rattle.clause_form.specs.Paths.{reached}
use Rattle.clause_form.specs.Sizes.{norm_size_of}
use Rattle.kernel.specs.declared.proof.Proof.{Proof}
use Rattle.norm_proofs.specs.code.Steps.{Between}

-- the proof leads from the formula to the closed clause
abbrev pub Leads : Form → Proof → Clause → Type 0
Leads a made c = (length c.sorts ≤ norm_size_of a) × Between true (length c.sorts) made a (closed c)

-- the proof leads from the formula to the clause that the path reaches in it
pub record IsAlong (p : Path) (a : Form) (made : Proof) : Type 0 where
  pub leads : (c : Clause) → reached p a ≡ Some c → Leads a made c
