-- What a search brings into a theory: functions in place of existential variables (Skolem's way to do without them), and
-- entries that derive the line from its parents by a refutation of the clauses.
use Rattle.std.specs.Prelude.{◌≡◌, List, [], ◌∷◌, ◌++◌, map}
use Rattle.fof_terms.specs.declared.form.Form.{Form}
use Rattle.fof_terms.specs.declared.signature.Symbol.{Symbol}
use Rattle.clause_form.specs.declared.path.Parent.{Parent}
use Rattle.derive_kit.specs.Derived.{HasCited, numbers_of}
use Rattle.kernel.specs.Statements.{Statements}
use Rattle.kernel.specs.Entries.{Admits}
use Rattle.kernel.specs.declared.proof.Proof.{Proof}
use Rattle.kernel.specs.declared.entry.Decl.TheVariants.{Symbol as NewSymbol}
use Rattle.kernel.specs.declared.entry.Entry.{Entry}
use Rattle.kernel.specs.declared.entry.Entry.TheVariants.{Declare, Lemma}
use Rattle.input_proofs.specs.Functions.{functions_of, searched_vocabulary, SpeakOfKnown}

-- the theory with the functions and with more formulas
abbrev pub searched_theory : Statements → List Parent → Form → List Form → Statements
searched_theory t parents line more = record { vocabulary = searched_vocabulary t.vocabulary parents line; formulas = t.formulas ++ more }

-- declarations of these symbols, in turn
abbrev pub declare_all : List Symbol → List Entry
declare_all symbols = map (λ (symbol : Symbol). Declare (NewSymbol symbol)) symbols

-- the entries are legal in turn after the theory, and add the functions, some formulas, and then the line
pub record AddsSearched (t : Statements) (parents : List Parent) (entries : List Entry) (before : List Form) (line : Form) : Type 0 where
  pub legal : Admits t entries (searched_theory t parents line (before ++ line ∷ []))
  pub speak : SpeakOfKnown t line before

-- The entries declare the functions of the step, add some formulas, and then, by a lemma, the line, to the theory and to
-- each other that has the parents. So they need no formula of the theory but those, and speak of no symbols but those of
-- the parents and of the line, and the functions.
pub record IsSearchedFrom (t : Statements) (parents : List Parent) (entries : List Entry) (line : Form) : Type 0 where
  pub middle : List Entry
  pub last : Proof
  pub is : entries ≡ declare_all (functions_of t.vocabulary parents line) ++ (middle ++ Lemma last ∷ [])
  pub before : List Form
  pub adds : (u : Statements) → HasCited t (numbers_of parents) u → AddsSearched u parents entries before line
