-- The functions that a search brings in, in place of the existential variables of its formulas (Skolem's way to do
-- without them), and theories that have them.
use Rattle.std.specs.Prelude.{ℕ, ◌≡◌, ◌<◌, false, List, ◌++◌, length, map}
use Rattle.std.specs.List.{All as Each}
use Rattle.fof_terms.specs.Occurs.{occurs_in}
use Rattle.fof_terms.specs.Vocabulary.{Vocabulary}
use Rattle.fof_terms.specs.declared.form.Form.{Form}
use Rattle.fof_terms.specs.declared.signature.Symbol.{Symbol}
use Rattle.clause_form.specs.Paths.{forms_of}
use Rattle.clause_form.specs.declared.clause.Clause.{Clause}
use Rattle.clause_form.specs.declared.path.Parent.{Parent}
use Rattle.kernel.specs.Statements.{Statements}
use Rattle.kernel.specs.Entries.{IsFresh}
use Rattle.step_clauses.specs.declared.skolems.Skolem.{Skolem}
use Rattle.step_clauses.specs.Inputs.{search_input, search_symbols}

-- the functions of the step, numbered behind the symbols of the vocabulary
abbrev pub functions_of : Vocabulary → List Parent → Form → List Symbol
functions_of v parents line = map (λ (k : Skolem). k.symbol) (search_symbols (length v.symbols) (forms_of parents) line)

-- the vocabulary with them
abbrev pub searched_vocabulary : Vocabulary → List Parent → Form → Vocabulary
searched_vocabulary v parents line = record v { symbols = v.symbols ++ functions_of v parents line }

-- the clauses of the step, over that vocabulary
abbrev pub searched_clauses : Vocabulary → List Parent → Form → List Clause
searched_clauses v parents line = search_input (length v.symbols) (forms_of parents) line

-- the theory with the functions
abbrev pub with_functions : Statements → List Parent → Form → Statements
with_functions t parents line = record t { vocabulary = searched_vocabulary t.vocabulary parents line }

-- none of the formulas has a symbol of the theory's that stands neither in a formula of the theory nor in the line
abbrev pub SpeakOfKnown : Statements → Form → List Form → Type 0
SpeakOfKnown t line more = (k : ℕ) → k < length t.vocabulary.symbols → IsFresh k t → occurs_in k line ≡ false → Each (λ a. occurs_in k a ≡ false) more
