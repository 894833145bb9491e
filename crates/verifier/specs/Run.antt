-- What a run of a derivation is: each line, in an order in which it comes behind its parents, is skipped, or answered
-- in the theory so far, which takes the entries of the answer. A run stops at a line for which the symbols of the theory
-- leave no room: a search for it could bring in more than a signature has.
use Rattle.std.specs.Prelude.{⊤, ℕ, ◌≡◌, ◌-◌, Bool, true, false, List, [], ◌∷◌, ◌++◌, length, Option, None, Some}
use Rattle.std.specs.Prelude.{replicate, slice_get, slice_set}
use Rattle.fof_terms.specs.declared.form.Form.{Form}
use Rattle.clause_form.specs.Paths.{forms_of}
use Rattle.clause_form.specs.declared.path.Parent.{Parent}
use Rattle.kernel.specs.Statements.{Statements}
use Rattle.kernel.specs.Entries.{Admits}
use Rattle.kernel.specs.declared.entry.Entry.{Entry}
use Rattle.elaborate.specs.Answers.{IsStepAnswer, IsLeafAnswer}
use Rattle.elaborate.specs.declared.answer.StepAnswer.{StepAnswer}
use Rattle.step_clauses.specs.Room.{HasRoom}
use Rattle.verifier.specs.Lines.{Derivation, Line, IsLineAt, parents_of, sources_of}
use Rattle.verifier.specs.declared.answer.LineAnswer.{LineAnswer}
use Rattle.verifier.specs.declared.answer.LineAnswer.TheVariants.{Accepted, Unverified, Skipped}
use Rattle.elaborate.specs.declared.answer.StepAnswer.TheVariants as step

-- How far a derivation is run: the theory so far, and for each line, by its place in the text, the number of its
-- formula in that theory, if the line is accepted so far.
pub record Progress : Type 0 where
  pub theory : Statements
  pub numbers : List (Option ℕ)

-- the line at this place is accepted: its formula is the last of the theory
abbrev pub with_answered : Progress → ℕ → Statements → Progress
with_answered old place theory = record { theory = theory; numbers = slice_set old.numbers place (Some (length theory.formulas - 1)) }

-- in a theory, the answer to a leaf or to a step from these formulas, where a search keeps so many clauses at most
abbrev pub AnswersFrom : Bool → Statements → List Parent → Bool → Form → ℕ → StepAnswer → Type 0
AnswersFrom true t sources cited form limit answer = IsLeafAnswer t sources cited form limit answer
AnswersFrom false t sources cited form limit answer = IsStepAnswer t sources form limit answer

-- in a theory, the answer to a leaf or to a step that has these parents
abbrev pub AnswersKind : Bool → Statements → Derivation → Bool → List Parent → Form → StepAnswer → Type 0
AnswersKind is_leaf t d cited parents form answer = AnswersFrom is_leaf t (sources_of is_leaf d.given cited parents) cited form d.limit answer

-- in a theory, the answer to a line that has these parents
abbrev pub AnswersLine : Statements → Derivation → Line → List Parent → StepAnswer → Type 0
AnswersLine t d line parents answer = AnswersKind line.node.leaf t d line.node.cited parents line.form answer

-- The line at this place is answered, where these are its parents: it is skipped exactly where one of them is not
-- accepted.
abbrev pub IsAnswered : Derivation → Progress → ℕ → Line → Option (List Parent) → LineAnswer → List Entry → Progress → Type 0
IsAnswered d old place line None Skipped entries new = (entries ≡ []) × (new ≡ old)
IsAnswered d old place line None (Accepted rule cites) entries new = ⊥
IsAnswered d old place line None (Unverified reason) entries new = ⊥
IsAnswered d old place line (Some parents) Skipped entries new = ⊥
IsAnswered d old place line (Some parents) (Accepted rule cites) entries new =
    AnswersLine old.theory d line parents (step.Accepted rule cites entries) × ((theory : Statements) × Admits old.theory entries theory × (new ≡ with_answered old place theory))
IsAnswered d old place line (Some parents) (Unverified reason) entries new = AnswersLine old.theory d line parents (step.Unverified reason) × (entries ≡ []) × (new ≡ old)

-- beside so many symbols, there is room for those that a search for the line may bring in, by the formulas from which it
-- is to follow
abbrev pub HasRoomFrom : ℕ → Derivation → Line → List Parent → Type 0
HasRoomFrom symbols d line parents = HasRoom symbols (forms_of (sources_of line.node.leaf d.given line.node.cited parents)) line.form

-- the same in a theory; a line that is skipped needs no room
abbrev pub HasRoomAt : Statements → Derivation → Line → Option (List Parent) → Type 0
HasRoomAt t d line None = ⊤
HasRoomAt t d line (Some parents) = HasRoomFrom (length t.vocabulary.symbols) d line parents

-- The line at this place has its answer among these, which are in the order of the text.
pub record AnswersPlace (d : Derivation) (answers : List LineAnswer) (old : Progress) (place : ℕ) (entries : List Entry) (new : Progress) : Type 0 where
  pub line : Line
  pub there : IsLineAt d place line
  pub room : HasRoomAt old.theory d line (parents_of d.given d.forms old.numbers line.node.parents)
  pub answer : LineAnswer
  pub answer_there : slice_get answers place ≡ Some answer
  pub is : IsAnswered d old place line (parents_of d.given d.forms old.numbers line.node.parents) answer entries new

-- There is no room for the line at this place.
pub record LacksRoom (d : Derivation) (p : Progress) (place : ℕ) : Type 0 where
  pub line : Line
  pub there : IsLineAt d place line
  pub lacks : HasRoomAt p.theory d line (parents_of d.given d.forms p.numbers line.node.parents) → ⊥

-- the lines at these places are answered in order, with these entries
abbrev pub AreAnswered : Derivation → List LineAnswer → Progress → List ℕ → List Entry → Progress → Type 0
AreAnswered d answers old [] entries new = (entries ≡ []) × (new ≡ old)
AreAnswered d answers old (place ∷ places) entries new =
    (own : List Entry) × (mid : Progress) × AnswersPlace d answers old place own mid
    × ((later : List Entry) × (entries ≡ own ++ later) × AreAnswered d answers mid places later new)

-- before the first line
abbrev pub begun : Statements → Derivation → Progress
begun start d = record { theory = start; numbers = replicate (length d.nodes) None }

-- A run of the lines of a derivation from a theory, in this order: an answer for each line, in the order of the text,
-- the entries of all answers, and the theory behind them.
pub record IsRun (start : Statements) (d : Derivation) (order : List ℕ) (answers : List LineAnswer) (entries : List Entry) (end : Statements) : Type 0 where
  pub count : length answers ≡ length d.nodes
  pub numbers : List (Option ℕ)
  pub answered : AreAnswered d answers (begun start d) order entries (record { theory = end; numbers = numbers })

-- A run that stops at a line for which there is no room: the lines before it in the order are answered, with these
-- entries.
pub record IsStopped (start : Statements) (d : Derivation) (order : List ℕ) (place : ℕ) (entries : List Entry) (end : Statements) : Type 0 where
  pub before : List ℕ
  pub behind : List ℕ
  pub order_is : order ≡ before ++ place ∷ behind
  pub answers : List LineAnswer
  pub numbers : List (Option ℕ)
  pub answered : AreAnswered d answers (begun start d) before entries (record { theory = end; numbers = numbers })
  pub lacks : LacksRoom d (record { theory = end; numbers = numbers }) place
