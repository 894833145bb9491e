-- The command `verify` has one status and one text on out, unless the lines are run.
use Rattle.std.proofs.Common.{◌≡◌, ◌⊎◌, inl, inr, ℕ, ◌-◌, List, length, Option, None, Some, refl, sym, ◌∙◌, ap, subst}
use Rattle.tptp_base.specs.declared.name.Name.{Name}
use Rattle.tptp_base.specs.Store.{Files, file_at}
use Rattle.fof_terms.specs.Vocabulary.{Vocabulary}
use Rattle.include_resolve.specs.declared.fault.IncludeFault.{IncludeFault}
use Rattle.include_resolve.specs.declared.problem.Problem.{Problem}
use Rattle.sort_check.specs.declared.fault.SortFault.{SortFault}
use Rattle.sort_check.specs.declared.fault.SortFault.TheVariants as sorted
use Rattle.sort_check.specs.declared.line.Line.{Line}
use Rattle.tstp_graph.specs.declared.fault.GraphFault.{GraphFault}
use Rattle.tstp_graph.specs.declared.fault.GraphFault.TheVariants as graph
use Rattle.derivation_text.specs.declared.derivation.Derivation.{Derivation}
use Rattle.derivation_text.specs.declared.fault.DerivationFault.{DerivationFault}
use Rattle.derivation_text.specs.declared.fault.DerivationFault.TheVariants as derived
use Rattle.derivation_text.specs.Derivations.{IsDerivationFault}
use Rattle.derivation_text.specs.Wants.{IsWant}
use Rattle.derivation_text.proofs.OneDerivation.{one_derivation, one_first_fault, derivation_wants}
use Rattle.derivation_check.specs.Cases.{Asked}
use Rattle.kernel.specs.Statements.{Statements}
use Rattle.read_problems.specs.Given.{given_theory}
use Rattle.read_problems.specs.Denoted.{SaysSortFault, SaysIncludeFault, AfterDenoted}
use Rattle.tptp_commands.specs.Derived.{SaysGraphFault, SaysLineFault, SaysDerivationFault}
use Rattle.read_problems.specs.Ending.{Ending, AfterFile}
use Rattle.read_problems.specs.Sources.{given_names, conjecture_marks, has_conjecture}
use Rattle.read_problems.specs.Spelled.{SaysLexFault, SaysGrammarFault}
use Rattle.tptp_run.specs.Verifying.{AreOfRuns, EndsRun, EndsVerify, SaysDerivation, asked_by}
use Rattle.read_problems.specs.declared.refusals.TheConstants.{TOTAL_SIZE}
use Rattle.tptp_commands.proofs.OneEnding.{one_lex_said, one_grammar_said, one_include_said, one_sort_said}
use Rattle.tptp_commands.proofs.OneFormat.{over_or_not}
use Rattle.read_problems.proofs.OneProblem.{one_meaning, one_sort_fault, no_sort_fault, one_problem, one_include_fault, no_include_fault}

-- the same status, and the same text on out
abbrev pub SaySame : Ending → Ending → Type 0
SaySame a b = (a.status ≡ b.status) × (a.out ≡ b.out)

-- or both are endings of runs
abbrev pub SameOrRun : List ℕ → Ending → Ending → Type 0
SameOrRun file a b = SaySame a b ⊎ AreOfRuns file a b

pub as_same : (file : List ℕ) (a b : Ending) → a ≡ b → SameOrRun file a b
as_same file a b is = inl (ap (λ (e : Ending). e.status) is, ap (λ (e : Ending). e.out) is)

-- ---- the first fault of a derivation

-- of want of memory nothing is said
pub want_unsaid : {R : Type 0} (file : List ℕ) (fault : DerivationFault) (ending : Ending) → IsWant fault → SaysDerivationFault file fault ending → R
want_unsaid file (derived.Lex first) ending is says = absurd (subst (λ (f : _). SaysLexFault file f ending) is says)
want_unsaid file (derived.Grammar first) ending is says = absurd (subst (λ (f : _). SaysGrammarFault file f ending) is says)
want_unsaid file (derived.Graph first) ending is says = absurd (subst (λ (f : GraphFault). SaysGraphFault file f ending) is says)
want_unsaid file (derived.Sort first) ending is says = absurd (subst (λ (f : SortFault). SaysLineFault file f ending) is says)
want_unsaid file derived.Memory ending is says = absurd says

module _ (a b : Ending) where
  both_are : (said : Ending) → a ≡ said → b ≡ said → a ≡ b
  both_are said h k = h ∙ sym k

  one_graph_said : (file : List ℕ) (fault : GraphFault) → SaysGraphFault file fault a → SaysGraphFault file fault b → a ≡ b
  one_graph_said file (graph.UnknownParent place name parent) h k = both_are _ h k
  one_graph_said file (graph.DuplicateLine place name) h k = both_are _ h k
  one_graph_said file (graph.Cycle place name) h k = both_are _ h k
  one_graph_said file (graph.BadSource place name) h k = both_are _ h k
  one_graph_said file (graph.Include place) h k = both_are _ h k
  one_graph_said file (graph.Limit limit) h k = both_are _ h k
  one_graph_said file graph.Memory h k = absurd h

  one_line_said : (file : List ℕ) (fault : SortFault) → SaysLineFault file fault a → SaysLineFault file fault b → a ≡ b
  one_line_said file (sorted.Line rule place name) h k = both_are _ h k
  one_line_said file sorted.Memory h k = absurd h

  one_fault_said : (file : List ℕ) (fault : DerivationFault) → SaysDerivationFault file fault a → SaysDerivationFault file fault b → a ≡ b
  one_fault_said file (derived.Lex first) h k = one_lex_said a b file first h k
  one_fault_said file (derived.Grammar first) h k = one_grammar_said a b file first h k
  one_fault_said file (derived.Graph first) h k = one_graph_said file first h k
  one_fault_said file (derived.Sort first) h k = one_line_said file first h k
  one_fault_said file derived.Memory h k = absurd h

-- ---- what is said of a derivation

module _ (problem file : List ℕ) (limit : ℕ) (lines : List Line) (v : Vocabulary) (text : List ℕ) (a b : Ending) where
  abbrev asked : Asked
  asked = asked_by problem text (conjecture_marks lines) (has_conjecture lines) limit

  abbrev start : Statements
  start = given_theory lines v

  abbrev names : List Name
  names = given_names lines

  one_refusal : (fault other : DerivationFault) → IsDerivationFault text names v fault → IsDerivationFault text names v other → SaysDerivationFault file fault a → SaysDerivationFault file other b → SameOrRun file a b
  one_refusal fault other first also says said = elim (one_first_fault text names v fault other first also) [
    | inl wants ↦ want_unsaid file fault a wants says
    | inr (inl wants) ↦ want_unsaid file other b wants said
    | inr (inr same) ↦ as_same file a b (one_fault_said a b file fault says (subst (λ (f : DerivationFault). SaysDerivationFault file f b) (sym same) said))
  ]

  pub one_said : SaysDerivation problem file limit start names (conjecture_marks lines) (has_conjecture lines) text a → SaysDerivation problem file limit start names (conjecture_marks lines) (has_conjecture lines) text b → SameOrRun file a b
  one_said (inl (fault, first, says)) (inl (other, also, said)) = one_refusal fault other first also says said
  one_said (inl (fault, first, says)) (inr (d, w, is, ends)) = want_unsaid file fault a (derivation_wants text names v d w fault is first) says
  one_said (inr (d, w, is, ends)) (inl (fault, first, says)) = want_unsaid file fault b (derivation_wants text names v d w fault is first) says
  one_said (inr (d, w, is, ends)) (inr (e, x, also, rest)) =
      let same = one_derivation text names v e d x w also is in
      inr (record { asked = asked; theory = start; derivation = d; vocabulary = w; first = ends; second = subst (λ (o : Derivation). EndsRun asked file start o w b) same.0 (subst (λ (o : Vocabulary). EndsRun asked file start e o b) same.1 rest) })

-- ---- how `verify` ends

module _ (files : Files) (root : Option (List ℕ)) (limit : ℕ) (problem file : List ℕ) (a b : Ending) where
  abbrev Rest : Problem → List Line → Vocabulary → Ending → Type 0
  Rest whole lines v = AfterFile files file (TOTAL_SIZE - whole.read) (SaysDerivation problem file limit (given_theory lines v) (given_names lines) (conjecture_marks lines) (has_conjecture lines))

  one_rest : (whole : Problem) (lines : List Line) (v : Vocabulary) → Rest whole lines v a → Rest whole lines v b → SameOrRun file a b
  one_rest whole lines v h k = go (file_at files file) refl
    where
      go : (found : Option (List ℕ)) → file_at files file ≡ found → SameOrRun file a b
      go None is = as_same file a b (h.missing is ∙ sym (k.missing is))
      go (Some text) is = elim (over_or_not (TOTAL_SIZE - whole.read) (length text)) [
        | inl over ↦ as_same file a b (h.limit over.0 text is over.1 ∙ sym (k.limit over.0 text is over.1))
        | inr fits ↦ one_said problem file limit lines v text a b (h.read text is fits) (k.read text is fits)
      ]

  abbrev After : Problem → Ending → Type 0
  After whole = AfterDenoted whole (Rest whole)

  one_after : (whole : Problem) → After whole a → After whole b → SameOrRun file a b
  one_after whole (inl (fault, h, says)) (inl (other, k, said)) = as_same file a b (one_sort_said a b whole.files fault says (subst (λ (f : SortFault). SaysSortFault whole.files f b) (one_sort_fault whole.items other fault k h) said))
  one_after whole (inl (fault, h, says)) (inr (lines, v, k, rest)) = absurd (no_sort_fault whole.items fault lines v h k)
  one_after whole (inr (lines, v, h, rest)) (inl (fault, k, says)) = absurd (no_sort_fault whole.items fault lines v k h)
  one_after whole (inr (lines, v, h, rest)) (inr (others, w, k, also)) =
      let same = one_meaning whole.items others lines w v k h in
      one_rest whole lines v rest (subst (λ (ls : List Line). Rest whole ls v b) same.0 (subst (λ (x : Vocabulary). Rest whole others x b) same.1 also))

  pub one_verify : EndsVerify files root limit problem file a → EndsVerify files root limit problem file b → SameOrRun file a b
  one_verify (inl (fault, h, says)) (inl (other, k, said)) = as_same file a b (one_include_said a b fault says (subst (λ (f : IncludeFault). SaysIncludeFault f b) (one_include_fault files root problem other fault k h) said))
  one_verify (inl (fault, h, says)) (inr (whole, k, rest)) = absurd (no_include_fault files root problem fault whole h k)
  one_verify (inr (whole, h, rest)) (inl (fault, k, says)) = absurd (no_include_fault files root problem fault whole k h)
  one_verify (inr (whole, h, rest)) (inr (other, k, also)) = one_after whole rest (subst (λ (p : Problem). After p b) (one_problem files root problem other whole k h) also)
