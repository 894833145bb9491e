-- What an inference asks and leaves before the substitution, and the clause that a substitution makes of it (as in
-- Bachmair and Ganzinger, Resolution theorem proving, where a conclusion is an instance of what the premises leave).
use Rattle.std.specs.Prelude.{ℕ, ◌<◌, ◌≡◌, List, length}
use Rattle.std.specs.List.{All as Each}
use Rattle.fof_terms.specs.declared.term.Term.{Term}
use Rattle.fof_terms.specs.Vocabulary.{Vocabulary}
use Rattle.clause_form.specs.declared.clause.Lit.{Lit}
use Rattle.clause_form.specs.declared.clause.Clause.{Clause}
use Rattle.clause_form.specs.Images.{image, IsImages}
use Rattle.clause_form.specs.Covers.{scope_of}
use Rattle.clause_rules.specs.Settled.{IsFit}
use Rattle.clause_rules.specs.Steps.{instances}

-- two terms that are to have equal instances, and the literals that are left
pub record Draft : Type 0 where
  pub one : Term
  pub other : Term
  pub left : List Lit

-- each sort is one of the vocabulary
abbrev pub SortsExist : Vocabulary → List ℕ → Type 0
SortsExist v sorts = Each (λ s. s < length v.sorts) sorts

-- the literals fit the clause's sorts, which exist and are few enough
pub record IsClause (v : Vocabulary) (c : Clause) : Type 0 where
  pub fit : IsFit v c
  pub exist : SortsExist v c.sorts

-- The substitution takes the variables of the scope to terms over the variables of the clause, and makes the two terms
-- of the draft equal. The clause has the instances of what the draft leaves.
pub record IsMadeBy (v : Vocabulary) (scope : List ℕ) (f : Draft) (e : Clause) (s : ℕ → Term) : Type 0 where
  pub exist : SortsExist v e.sorts
  pub images : IsImages v scope (scope_of e) s
  pub unified : image s f.one ≡ image s f.other
  pub same : e.lits ≡ instances s f.left
