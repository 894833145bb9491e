-- The answer to one line, and what is taken of it.
use Rattle.std.proofs.Common.{◌≡◌, ◌↔◌, ◌⊎◌, inl, inr, ℕ, ◌<◌, ◌≤◌, IsTrue, Bool, true, false, List, [], length, get_or, Option, None, Some, Result, IfOk, OnOk, refl, sym, ◌∙◌, ap, subst, arith}
use Rattle.std.specs.List.{All}
use Rattle.std.proofs.lemmas.Option.{slice_get-get_or}
use Rattle.std.proofs.lemmas.Result.{IfOk-weaker}
use Rattle.tptp_base.specs.Sink.{Takes}
use Rattle.tptp_base.proofs.Taken.{takes_nothing}
use Rattle.fof_terms.specs.declared.form.Form.{Form}
use Rattle.clause_form.specs.declared.path.Parent.{Parent}
use Rattle.kernel.specs.Statements.{Statements}
use Rattle.kernel.specs.Entries.{Admits}
use Rattle.kernel.specs.declared.entry.Entry.{Entry}
use Rattle.clause_form.specs.Paths.{forms_of}
use Rattle.elaborate.specs.Answers.{IsLeafAnswer, IsStepAnswer}
use Rattle.step_clauses.specs.Room.{HasRoom}
use Rattle.elaborate.specs.declared.answer.Rule.{Rule}
use Rattle.elaborate.specs.declared.answer.StepAnswer.{StepAnswer}
use Rattle.elaborate.specs.declared.answer.StepAnswer.TheVariants as step
use Rattle.tstp_graph.specs.declared.shape.Node.{Node}
use Rattle.verifier.specs.Lines.{Derivation, Line, IsLineAt, parents_of, sources_of}
use Rattle.verifier.specs.Logged.{CanAdmit}
use Rattle.verifier.specs.code.Numbered.{AreNumbered, Knows}
use Rattle.verifier.specs.Run.{Progress, AnswersFrom, AnswersLine, HasRoomAt, HasRoomFrom, IsAnswered, LacksRoom}
use Rattle.verifier.specs.code.Taking.{CanTake, TakesAnswer, RunsLine}
use Rattle.verifier.specs.declared.answer.LineAnswer.{LineAnswer}
use Rattle.verifier.specs.declared.answer.LineAnswer.TheVariants.{Accepted, Unverified, Skipped}
use Rattle.verifier.proofs.ClosedTheories.{admitted_closed}
use Rattle.verifier.proofs.Derived.{accepted_theory}
use Rattle.verifier.proofs.Knowing.{Stands, given_stand, knows_more, parents_stand}
use Rattle.proof_log.proofs.OneTheory.{one_admitted}

module _ {E : Type 0} (result : Result StepAnswer E) (t : Statements) (sources : List Parent) (form : Form) (limit : ℕ) where
  -- a leaf
  pub leaf_answers : (leaf cited : Bool) → leaf ≡ true → IfOk result (IsLeafAnswer t sources cited form limit) → IfOk result (AnswersFrom leaf t sources cited form limit)
  leaf_answers true cited is_leaf answers = answers
  leaf_answers false cited is_leaf answers = absurd (cc)

  -- a step
  pub step_answers : (leaf cited : Bool) → leaf ≡ false → IfOk result (IsStepAnswer t sources form limit) → IfOk result (AnswersFrom leaf t sources cited form limit)
  step_answers false cited is_step answers = answers
  step_answers true cited is_step answers = absurd (cc)

-- the entries of an answer can be admitted
pub can_admit : (t : Statements) (answer : StepAnswer) (rule : Rule) (cites : List ℕ) (entries : List Entry) → answer ≡ step.Accepted rule cites entries → CanTake t answer → CanAdmit t entries
can_admit t answer rule cites entries is can =
    let own : CanTake t (step.Accepted rule cites entries) = subst (CanTake t) is can in
    (own.0, own.1)

-- and what they make of the theory is not empty
pub took_some : (t u : Statements) (answer : StepAnswer) (rule : Rule) (cites : List ℕ) (entries : List Entry) → answer ≡ step.Accepted rule cites entries → CanTake t answer → Admits t entries u → 1 ≤ length u.formulas
took_some t u answer rule cites entries is can admits =
    let own : CanTake t (step.Accepted rule cites entries) = subst (CanTake t) is can in
    let same : u ≡ own.0 = one_admitted t entries u own.0 admits own.1 in
    omega (arith, own.2, ap (λ (x : Statements). length x.formulas) same)

-- ---- the formulas from which a line is to follow

-- given formulas, of a leaf that names none
pub given_sources : (leaf cited : Bool) (given parents : List Parent) → AreNumbered given → leaf ≡ true → cited ≡ false → given ≡ sources_of leaf (forms_of given) cited parents
given_sources true false given parents numbered is_leaf is_free = numbered
given_sources true true given parents numbered is_leaf is_free = absurd (cc)
given_sources false cited given parents numbered is_leaf is_free = absurd (cc)

-- and parents otherwise
pub parent_sources : (leaf cited : Bool) (given : List Form) (parents : List Parent) → (leaf ≡ false) ⊎ (cited ≡ true) → parents ≡ sources_of leaf given cited parents
parent_sources true true given parents is = refl
parent_sources true false given parents (inl is) = absurd (cc)
parent_sources true false given parents (inr is) = absurd (cc)
parent_sources false cited given parents is = refl

-- they stand in the theory
pub sources_stand : (d : Derivation) (p : Progress) (line : Line) (parents : List Parent) → Knows d p → parents_of d.given d.forms p.numbers line.node.parents ≡ Some parents → All (Stands p.theory) (sources_of line.node.leaf d.given line.node.cited parents)
sources_stand d p line parents knows known = by line.node.leaf line.node.cited
  where
    by : (leaf cited : Bool) → All (Stands p.theory) (sources_of leaf d.given cited parents)
    by true true = parents_stand d p knows line.node.parents parents known
    by true false = given_stand d p knows
    by false cited = parents_stand d p knows line.node.parents parents known

-- ---- room for a line

module _ (room : Bool) (symbols : ℕ) (t : Statements) (d : Derivation) (line : Line) (parents sources : List Parent) (count : symbols ≡ length t.vocabulary.symbols) (from : sources ≡ sources_of line.node.leaf d.given line.node.cited parents) (tells : IsTrue room ↔ HasRoom symbols (forms_of sources) line.form) where
  pub room_known : room ≡ true → HasRoomFrom (length t.vocabulary.symbols) d line parents
  room_known there = subst (λ (n : ℕ). HasRoom n (forms_of (sources_of line.node.leaf d.given line.node.cited parents)) line.form) count (subst (λ (ps : List Parent). HasRoom symbols (forms_of ps) line.form) from (tells.0 there))

  pub room_lacking : room ≡ false → HasRoomFrom (length t.vocabulary.symbols) d line parents → ⊥
  room_lacking none has =
      let there : room ≡ true = tells.1 (subst (λ (ps : List Parent). HasRoom symbols (forms_of ps) line.form) (sym from) (subst (λ (n : ℕ). HasRoom n (forms_of (sources_of line.node.leaf d.given line.node.cited parents)) line.form) (sym count) has)) in
      let wrong : true ≡ false = sym there ∙ none in
      cc

-- ---- a line at its place

-- a line with a parent that is not accepted
pub skips_line : (d : Derivation) (p : Progress) (place : ℕ) (line : Line) (found : Option (List Parent)) (log : Option (List ℕ)) → IsLineAt d place line → found ≡ parents_of d.given d.forms p.numbers line.node.parents → found ≡ None → RunsLine d p place Skipped p log log
skips_line d p place line found log there found_is none = record {
  line = line;
  there = there;
  room = subst (HasRoomAt p.theory d line) (sym none ∙ found_is) tt;
  entries = [];
  is = subst (λ (ps : Option (List Parent)). IsAnswered d p place line ps Skipped [] p) (sym none ∙ found_is) (refl, refl);
  taken = takes_nothing log;
  in_range = tt;
}

-- a line whose answer is taken
pub takes_line : (d : Derivation) (p : Progress) (place : ℕ) (line : Line) (parents : List Parent) (answer : StepAnswer) (said : LineAnswer) (new : Progress) (log_old log_new : Option (List ℕ)) → IsLineAt d place line → parents_of d.given d.forms p.numbers line.node.parents ≡ Some parents
    → HasRoomFrom (length p.theory.vocabulary.symbols) d line parents → AnswersLine p.theory d line parents answer → TakesAnswer answer p place said new log_old log_new → RunsLine d p place said new log_old log_new
takes_line d p place line parents (step.Accepted rule cites entries) said new log_old log_new there known room answers (said_is, admits, new_is, taken, fits) =
    let is : IsAnswered d p place line (Some parents) (Accepted rule cites) entries new = (answers, (new.theory, admits, new_is)) in
    record {
      line = line;
      there = there;
      room = subst (HasRoomAt p.theory d line) (sym known) room;
      entries = entries;
      is = subst (λ (ps : Option (List Parent)). IsAnswered d p place line ps said entries new) (sym known) (subst (λ (s : LineAnswer). IsAnswered d p place line (Some parents) s entries new) (sym said_is) is);
      taken = taken;
      in_range = fits;
    }
takes_line d p place line parents (step.Unverified reason) said new log_old log_new there known room answers (said_is, new_is, log_is) =
    let is : IsAnswered d p place line (Some parents) (Unverified reason) [] new = (answers, refl, new_is) in
    record {
      line = line;
      there = there;
      room = subst (HasRoomAt p.theory d line) (sym known) room;
      entries = [];
      is = subst (λ (ps : Option (List Parent)). IsAnswered d p place line ps said [] new) (sym known) (subst (λ (s : LineAnswer). IsAnswered d p place line (Some parents) s [] new) (sym said_is) is);
      taken = subst (λ (log : Option (List ℕ)). Takes log_old log []) (sym log_is) (takes_nothing log_old);
      in_range = tt;
    }

-- and what is known then
pub takes_knows : (d : Derivation) (p : Progress) (place : ℕ) (line : Line) (parents : List Parent) (answer : StepAnswer) (said : LineAnswer) (new : Progress) (log_old log_new : Option (List ℕ)) → IsLineAt d place line
    → AnswersLine p.theory d line parents answer → Knows d p → TakesAnswer answer p place said new log_old log_new → Knows d new
takes_knows d p place line parents (step.Accepted rule cites entries) said new log_old log_new there answers knows (said_is, admits, new_is, taken, fits) =
    subst (Knows d) (sym new_is)
    (knows_more d p knows place line.form new.theory there.form (admitted_closed p.theory entries new.theory admits knows.closed) (accepted_theory line.node.leaf p.theory new.theory d line.node.cited parents line.form rule cites entries answers admits))
takes_knows d p place line parents (step.Unverified reason) said new log_old log_new there answers knows (said_is, new_is, log_is) = subst (Knows d) (sym new_is) knows

-- the same of what a call answers
module _ {E : Type 0} (result : Result LineAnswer E) (d : Derivation) (p : Progress) (place : ℕ) (line : Line) (parents : List Parent) (answer : StepAnswer) (new : Progress) (log_old log_new : Option (List ℕ)) where
  pub call_takes : IsLineAt d place line → parents_of d.given d.forms p.numbers line.node.parents ≡ Some parents → HasRoomFrom (length p.theory.vocabulary.symbols) d line parents → AnswersLine p.theory d line parents answer → IfOk result (λ said. TakesAnswer answer p place said new log_old log_new) → IfOk result (λ said. RunsLine d p place said new log_old log_new)
  call_takes there known room answers takes =
      IfOk-weaker result (λ said. TakesAnswer answer p place said new log_old log_new) (λ said. RunsLine d p place said new log_old log_new)
      (λ said t. takes_line d p place line parents answer said new log_old log_new there known room answers t) takes

  pub call_knows : IsLineAt d place line → AnswersLine p.theory d line parents answer → Knows d p → IfOk result (λ said. TakesAnswer answer p place said new log_old log_new) → OnOk result (Knows d new)
  call_knows there answers knows takes =
      IfOk-weaker result (λ said. TakesAnswer answer p place said new log_old log_new) (λ said. Knows d new) (λ said t. takes_knows d p place line parents answer said new log_old log_new there answers knows t) takes

-- a line for which there is no room
pub lacks_room : (d : Derivation) (p : Progress) (place : ℕ) (line : Line) (parents : List Parent) → IsLineAt d place line → parents_of d.given d.forms p.numbers line.node.parents ≡ Some parents → (HasRoomFrom (length p.theory.vocabulary.symbols) d line parents → ⊥) → LacksRoom d p place
lacks_room d p place line parents there known lacks = record { line = line; there = there; lacks = λ room. lacks (subst (HasRoomAt p.theory d line) known room) }

-- the line at a place, by what is read there
pub line_at : (d : Derivation) (place : ℕ) (node : Node) (form : Form) → place < length d.nodes → length d.forms ≡ length d.nodes → IsLineAt d place (record { node = get_or d.nodes place node; form = get_or d.forms place form })
line_at d place node form within same = record {
  node = slice_get-get_or d.nodes place node within;
  form = slice_get-get_or d.forms place form (omega (arith, within, same));
}
