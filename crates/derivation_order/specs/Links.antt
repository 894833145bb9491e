-- How the lines of a derivation name what they come from: each has a name of its own, copies a given formula or names
-- lines that stand before it (the TSTP part of the TPTP language, <source>).
use Rattle.std.specs.Prelude.{ℕ, ◌≡◌, ⊤, List, [], ◌∷◌, ◌++◌, Some, codes, slice_get, false}
use Rattle.std.specs.List.{Contains}
use Rattle.fof_terms.specs.declared.form.Form.{Form}
use Rattle.sort_check.specs.declared.line.GivenEntry.{GivenEntry}
use Rattle.tstp_graph.specs.Words.{is_unknown}
use Rattle.derivation_items.specs.Words.{Text, numbered_word}
use Rattle.derivation_items.specs.declared.line.LineSource.{LineSource}
use Rattle.derivation_items.specs.declared.line.LineSource.TheVariants.{Given, Skolemized, ClauseOf, Inferred}
use Rattle.derivation_items.specs.declared.line.ProofLine.{ProofLine}

-- this line stands at that place
abbrev pub StandsAt : List ProofLine → ℕ → ProofLine → Type 0
StandsAt lines k line = slice_get lines k ≡ Some line

-- the word is the name of one of the lines
abbrev pub IsNameIn : List ProofLine → Text → Type 0
IsNameIn lines word = (k : ℕ) × (line : ProofLine) × StandsAt lines k line × (line.name ≡ word)

-- each word is the name of one of the lines, and none stands twice
abbrev pub AreNamesIn : List ProofLine → List Text → Type 0
AreNamesIn lines [] = ⊤
AreNamesIn lines (word ∷ words) = IsNameIn lines word × (Contains words word → ⊥) × AreNamesIn lines words

-- no two lines have one name
abbrev pub DifferByName : List ProofLine → Type 0
DifferByName lines = (i j : ℕ) (a b : ProofLine) → StandsAt lines i a → StandsAt lines j b → a.name ≡ b.name → i ≡ j

-- no type line has the name, and it is not the word that says nothing of where a formula is from
pub record IsOfLine (name : Text) : Type 0 where
  pub no_type : (k : ℕ) → name ≡ numbered_word (codes "y") k → ⊥
  pub known : is_unknown name ≡ false

-- the formula is that of a given formula of the name
pub record IsCopy (given : List GivenEntry) (form : Form) (entry : GivenEntry) : Type 0 where
  pub at : ℕ
  pub there : slice_get given at ≡ Some entry
  pub same : form ≡ entry.form

-- a line with this formula and source, behind those lines, is from what its source names
abbrev pub IsFrom : List GivenEntry → List ProofLine → Form → LineSource → Type 0
IsFrom given earlier form (Given name) = (entry : GivenEntry) × IsCopy given form entry × (name ≡ entry.name)
IsFrom given earlier form (Skolemized word) = IsNameIn earlier word
IsFrom given earlier form (ClauseOf word) = IsNameIn earlier word
IsFrom given earlier form (Inferred words) = AreNamesIn earlier words

-- the line has a name that no line before it has, and is from what its source names
pub record IsLinked (given : List GivenEntry) (earlier : List ProofLine) (line : ProofLine) : Type 0 where
  pub new : IsNameIn earlier line.name → ⊥
  pub own : IsOfLine line.name
  pub from : IsFrom given earlier line.form line.source

-- of each of these lines, behind those, this holds with the lines before it
abbrev pub EachBehind : (List ProofLine → ProofLine → Type 0) → List ProofLine → List ProofLine → Type 0
EachBehind Holds earlier [] = ⊤
EachBehind Holds earlier (line ∷ lines) = Holds earlier line × EachBehind Holds (earlier ++ line ∷ []) lines

abbrev pub AreLinkedBehind : List GivenEntry → List ProofLine → List ProofLine → Type 0
AreLinkedBehind given = EachBehind (IsLinked given)

abbrev pub AreLinked : List GivenEntry → List ProofLine → Type 0
AreLinked given lines = AreLinkedBehind given [] lines
