-- What is pulled out of the members of a node, as code has it.
use Rattle.std.specs.Prelude.{ℕ, ◌+◌, ◌≤◌, ◌<◌, List, length}
use Rattle.fof_terms.specs.declared.form.Form.{Form}
use Rattle.fof_terms.specs.Vocabulary.{Vocabulary}
use Rattle.fof_terms.specs.Sorts.{Sorted}
use Rattle.clause_form.specs.Sizes.{norm_size_of}
use Rattle.flat_form.specs.declared.pulling.Pulled.{Pulled as Made}
use Rattle.flat_form.specs.Flat.{Pulled, sorts_of}
use Rattle.flat_proofs.specs.code.Gathering.{AreClosed}

-- the sorts and the body, which stands for the formula itself too
abbrev pub seen : Made → Pulled
seen m = record { whole = m.body; sorts = m.sorts; body = m.body }

-- the same of what is pulled out
abbrev pub bare : Pulled → Pulled
bare p = record { whole = p.body; sorts = p.sorts; body = p.body }

-- the closed bodies are well-sorted in some scope, with room for the variables of all
pub record HaveRoom (ps : List Pulled) : Type 0 where
  pub vocabulary : Vocabulary
  pub scope : List ℕ
  pub depth : ℕ
  pub room : depth + length (sorts_of ps) + length scope ≤ 2147483647
  pub few : length (sorts_of ps) ≤ 100000
  pub members : length ps ≤ 100000
  pub closed : AreClosed vocabulary depth scope ps

-- as many variables as this stand within the formula's proofs at once
abbrev pub room_of : Form → ℕ
room_of a = norm_size_of a + norm_size_of a

-- the formula is well-sorted in some scope that has room for these variables
pub record IsSpacious (a : Form) : Type 0 where
  pub vocabulary : Vocabulary
  pub scope : List ℕ
  pub room : room_of a + length scope < 2147483647
  pub sorted : Sorted vocabulary scope a
