-- Which symbols entries mention: those that are declared, and of these, where entries derive a line, those of what is
-- cited and of the line alone.
use Rattle.std.specs.Prelude.{ℕ, suc, ◌≡◌, ◌<◌, ◌≤◌, ⊤, false, List, [], ◌∷◌, length, Some, slice_get}
use Rattle.std.specs.List.{All as Each, AllByRecursion}
use Rattle.fof_terms.specs.Occurs.{occurs_in, occurs_in_term}
use Rattle.fof_terms.specs.declared.form.Form.{Form}
use Rattle.fof_terms.specs.Sorts.{Sorted}
use Rattle.kernel.specs.Statements.{Statements}
use Rattle.kernel.specs.Entries.{Admits, IsFresh}
use Rattle.kernel.specs.Proves.{Proves}
use Rattle.kernel.specs.declared.proof.Proof.{Proof}
use Rattle.kernel.specs.declared.entry.Decl.TheVariants.{Sort as NewSort, Symbol as NewSymbol}
use Rattle.kernel.specs.declared.entry.Entry.{Entry}
use Rattle.kernel.specs.declared.entry.Entry.TheVariants.{Declare, Lemma, Name, Choice}
use Rattle.unify_terms.specs.declared.pair.Pair.{Pair}
use Rattle.entry_symbols.specs.Inside.{DoesNotMention, DoNotMention}

-- how many symbols there are behind the entry
abbrev pub symbols_after : ℕ → Entry → ℕ
symbols_after n (Declare (NewSort name)) = n
symbols_after n (Declare (NewSymbol symbol)) = suc n
symbols_after n (Lemma p) = n
symbols_after n (Name k a) = n
symbols_after n (Choice k a) = n

-- where there are so many symbols before the entries, each entry mentions none but these and those that entries before it
-- declare
abbrev pub MentionDeclared : ℕ → List Entry → Type 0
MentionDeclared n [] = ⊤
MentionDeclared n (e ∷ es) = ((k : ℕ) → n ≤ k → DoesNotMention k e) × MentionDeclared (symbols_after n e) es

-- the symbol is one of the theory's that stands neither in a formula of these numbers nor in the line
pub record IsForeign (t : Statements) (cites : List ℕ) (line : Form) (k : ℕ) : Type 0 where
  pub declared : k < length t.vocabulary.symbols
  pub cited : Each (λ n. (a : Form) → slice_get t.formulas n ≡ Some a → occurs_in k a ≡ false) cites
  pub absent : occurs_in k line ≡ false

-- no symbol of the theory stands inside the entries but those of what is cited and of the line
abbrev pub SpeakInside : Statements → List ℕ → Form → List Entry → Type 0
SpeakInside t cites line entries = (k : ℕ) → IsForeign t cites line k → DoNotMention k entries

-- The theory u has the sorts of t, as many symbols and formulas, at these numbers the formulas that t has there, and each
-- symbol of these and of the line as t has it. Its other symbols may be of other kinds, arguments and results. A symbol
-- that is in no formula of t is in none of u.
pub record HasAlike (t : Statements) (cites : List ℕ) (line : Form) (u : Statements) : Type 0 where
  pub sorts : u.vocabulary.sorts ≡ t.vocabulary.sorts
  pub symbol_count : length u.vocabulary.symbols ≡ length t.vocabulary.symbols
  pub symbols : (k : ℕ) → (IsForeign t cites line k → ⊥) → slice_get u.vocabulary.symbols k ≡ slice_get t.vocabulary.symbols k
  pub count : length u.formulas ≡ length t.formulas
  pub formulas : Each (λ n. slice_get u.formulas n ≡ slice_get t.formulas n) cites
  pub fresh : (k : ℕ) → IsFresh k t → IsFresh k u

-- the entries are legal in turn after each such theory
abbrev pub AreLegalAlike : Statements → List ℕ → Form → List Entry → Type 0
AreLegalAlike t cites line entries = (u : Statements) → HasAlike t cites line u → (after : Statements) × Admits u entries after

-- Over any symbols and any hypotheses the proof shows the second formula where the first one is well-sorted, in a context
-- with room for its quantifiers.
abbrev pub IsShownWherever : Form → Form → Proof → Type 0
IsShownWherever a b p = (t : Statements) (v : List ℕ) (h : List Form) → length v ≤ 1000000000 → Sorted t.vocabulary v a → Proves t v h p b

-- the symbol stands in neither side of a pair
abbrev pub IsInNoPair : ℕ → List Pair → Type 0
IsInNoPair k pairs = AllByRecursion (λ (p : Pair). (occurs_in_term k p.left ≡ false) × (occurs_in_term k p.right ≡ false)) pairs
