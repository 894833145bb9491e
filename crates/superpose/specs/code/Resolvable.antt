-- Whether two literals are a positive and a negative one of the same predicate, which may have equal instances.
use Rattle.std.specs.Prelude.{ℕ, ◌≡◌, List}
use Rattle.fof_terms.specs.declared.term.Term.{Term}
use Rattle.clause_form.specs.declared.clause.AtomOf.TheVariants.{Pred}
use Rattle.clause_form.specs.declared.clause.Lit.{Lit}
use Rattle.clause_form.specs.ClauseView.{stated, denied}
use Rattle.superpose.specs.code.Apart.{NeverAllMeet}

abbrev pub NotResolvable : Lit → Lit → Type 0
NotResolvable k l =
    (p : ℕ) (ts us : List Term) → k ≡ stated (Pred p ts) → l ≡ denied (Pred p us) → NeverAllMeet ts us

abbrev pub AreResolvable : Lit → Lit → Type 0
AreResolvable k l = (p : ℕ) × (ts us : List Term) × (k ≡ stated (Pred p ts)) × (l ≡ denied (Pred p us))
