-- A cheap test: atoms with different heads have no instances that are the same.
use Rattle.std.specs.Prelude.{Bool, true, false, ◌==◌}
use Rattle.clause_form.specs.declared.clause.AtomOf.{AtomOf}
use Rattle.clause_form.specs.declared.clause.AtomOf.TheVariants.{Pred, Eq, True, False}

-- the atoms have one predicate, or both are equations, truth or falsehood
abbrev pub is_same_head : AtomOf → AtomOf → Bool
is_same_head (Pred p ts) (Pred q us) = p == q
is_same_head (Pred p ts) (Eq c d) = false
is_same_head (Pred p ts) True = false
is_same_head (Pred p ts) False = false
is_same_head (Eq a b) (Pred q us) = false
is_same_head (Eq a b) (Eq c d) = true
is_same_head (Eq a b) True = false
is_same_head (Eq a b) False = false
is_same_head True (Pred q us) = false
is_same_head True (Eq c d) = false
is_same_head True True = true
is_same_head True False = false
is_same_head False (Pred q us) = false
is_same_head False (Eq c d) = false
is_same_head False True = false
is_same_head False False = true
