-- The greatest number that arises where the variables of an atom move.
use Rattle.std.specs.Prelude.{ℕ, map, max}
use Rattle.fof_terms.specs.Lift.{greatest, lift_term_reach}
use Rattle.clause_form.specs.declared.clause.AtomOf.{AtomOf}
use Rattle.clause_form.specs.declared.clause.AtomOf.TheVariants.{Pred, Eq, True, False}

abbrev pub atom_reach : ℕ → AtomOf → ℕ
atom_reach by (Pred p ts) = greatest (map (lift_term_reach by 0) ts)
atom_reach by (Eq l r) = max (lift_term_reach by 0 l) (lift_term_reach by 0 r)
atom_reach by True = 0
atom_reach by False = 0
