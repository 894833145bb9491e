-- What the problem in a file gives is one.
use Rattle.std.proofs.Common.{◌≡◌, ℕ, List, [], Option, Some, Ok, Err, sym, ◌∙◌, ap, subst}
use Rattle.tptp_base.specs.declared.item.Item.{Item}
use Rattle.tptp_base.specs.Store.{Files}
use Rattle.fof_terms.specs.Vocabulary.{Vocabulary}
use Rattle.kernel.specs.Statements.{Statements}
use Rattle.include_resolve.specs.declared.fault.IncludeFault.{IncludeFault}
use Rattle.include_resolve.specs.declared.problem.Problem.{Problem}
use Rattle.include_resolve.specs.Parts.{Answer}
use Rattle.include_resolve.specs.Resolved.{Resolves}
use Rattle.include_resolve.proofs.OneAnswer.{one}
use Rattle.sort_check.specs.declared.fault.SortFault.{SortFault}
use Rattle.sort_check.specs.declared.line.Line.{Line}
use Rattle.sort_check.specs.declared.line.TextKind.TheVariants as kind
use Rattle.sort_check.specs.Outcomes.{Outcome}
use Rattle.sort_check.specs.Texts.{denoted}
use Rattle.read_problems.specs.Given.{given_theory, IsTheoryOf, IsGiven}
use Rattle.read_problems.specs.Denoted.{first_vocabulary}

-- ---- answers of one form

abbrev resolved : Problem → Answer
resolved problem = Ok problem

abbrev unresolved : IncludeFault → Answer
unresolved fault = Err fault

same_problem : (whole other : Problem) → resolved whole ≡ resolved other → whole ≡ other
same_problem whole other e = cc

same_fault : (fault other : IncludeFault) → unresolved fault ≡ unresolved other → fault ≡ other
same_fault fault other e = cc

no_problem : (fault : IncludeFault) (whole : Problem) → unresolved fault ≡ resolved whole → ⊥
no_problem fault whole e = cc

abbrev Denotation : Type 0
Denotation = Outcome SortFault Vocabulary (List Line)

abbrev meaning : List Line → Vocabulary → Denotation
meaning lines v = Ok (lines, v)

abbrev no_meaning : SortFault → Denotation
no_meaning fault = Err fault

abbrev lines_of : Denotation → List Line
lines_of (Ok p) = p.0
lines_of (Err fault) = []

abbrev vocabulary_or : Vocabulary → Denotation → Vocabulary
vocabulary_or v (Ok p) = p.1
vocabulary_or v (Err fault) = v

pub same_meaning : (lines others : List Line) (v w : Vocabulary) → meaning lines v ≡ meaning others w → (lines ≡ others) × (v ≡ w)
same_meaning lines others v w e = (ap lines_of e, ap (vocabulary_or v) e)

same_sort : (fault other : SortFault) → no_meaning fault ≡ no_meaning other → fault ≡ other
same_sort fault other e = cc

not_meant : (fault : SortFault) (lines : List Line) (v : Vocabulary) → no_meaning fault ≡ meaning lines v → ⊥
not_meant fault lines v e = cc

-- ---- what items denote

module _ (items : List Item) where
  abbrev Denotes : Denotation → Type 0
  Denotes answer = denoted items first_vocabulary kind.Problem ≡ answer

  pub one_meaning : (lines others : List Line) (v w : Vocabulary) → Denotes (Ok (lines, v)) → Denotes (Ok (others, w)) → (lines ≡ others) × (v ≡ w)
  one_meaning lines others v w h k = same_meaning lines others v w (sym h ∙ k)

  pub one_sort_fault : (fault other : SortFault) → Denotes (Err fault) → Denotes (Err other) → fault ≡ other
  one_sort_fault fault other h k = same_sort fault other (sym h ∙ k)

  pub no_sort_fault : (fault : SortFault) (lines : List Line) (v : Vocabulary) → Denotes (Err fault) → Denotes (Ok (lines, v)) → ⊥
  no_sort_fault fault lines v h k = not_meant fault lines v (sym h ∙ k)

-- ---- what the file gives

module _ (files : Files) (root : Option (List ℕ)) (file : List ℕ) where
  pub one_problem : (whole other : Problem) → Resolves (Some files) root file (Ok whole) → Resolves (Some files) root file (Ok other) → whole ≡ other
  one_problem whole other h k = same_problem whole other (one files root file (Ok whole) (Ok other) h k)

  pub one_include_fault : (fault other : IncludeFault) → Resolves (Some files) root file (Err fault) → Resolves (Some files) root file (Err other) → fault ≡ other
  one_include_fault fault other h k = same_fault fault other (one files root file (Err fault) (Err other) h k)

  pub no_include_fault : (fault : IncludeFault) (whole : Problem) → Resolves (Some files) root file (Err fault) → Resolves (Some files) root file (Ok whole) → ⊥
  no_include_fault fault whole h k = no_problem fault whole (one files root file (Err fault) (Ok whole) h k)

  one_theory : (whole : Problem) (t u : Statements) → IsTheoryOf whole t → IsTheoryOf whole u → t ≡ u
  one_theory whole t u (lines, v, denotes, is) (others, w, also, are) =
      let same = one_meaning whole.items lines others v w denotes also in
      is ∙ ap (λ (ls : List Line). given_theory ls v) same.0 ∙ ap (given_theory others) same.1 ∙ sym are

  pub one_given : (t u : Statements) (n m : ℕ) → IsGiven (Some files) root file t n → IsGiven (Some files) root file u m → (t ≡ u) × (n ≡ m)
  one_given t u n m (whole, resolves, is, read) (other, also, are, count) =
      let same : other ≡ whole = one_problem other whole also resolves in
      (one_theory whole t u is (subst (λ (p : Problem). IsTheoryOf p u) same are), read ∙ ap (λ (p : Problem). p.read) (sym same) ∙ sym count)
