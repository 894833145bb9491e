-- Lemmas on what specs/Derived defines.
use Rattle.std.specs.Prelude.{ℕ, ◌≡◌, false, List, [], ◌∷◌, ◌++◌, length, map, Some, slice_get}
use Rattle.std.specs.List.{All as Each}
use Rattle.std.proofs.Common.{refl}
use Rattle.std.proofs.lemmas.List.Elements.{All-weaker, All-from_recursion}
use Rattle.fof_terms.specs.Occurs.{occurs_in}
use Rattle.fof_terms.specs.declared.form.Form.{Form}
use Rattle.clause_form.specs.declared.path.Parent.{Parent}
use Rattle.kernel.specs.Statements.{Statements}
use Rattle.kernel.specs.Entries.{Admits, IsFresh, with_formula}
use Rattle.kernel.specs.Proves.{Proves}
use Rattle.kernel.specs.declared.proof.Proof.{Proof}
use Rattle.kernel.specs.declared.entry.Entry.{Entry}
use Rattle.kernel.specs.declared.entry.Entry.TheVariants.{Lemma}
use Rattle.derive_kit.specs.Derived.{HasCited, Adds, IsDerivedFrom}

pub has_its_own : (t : Statements) (cites : List ℕ) → HasCited t cites t
has_its_own t cites = record {
  vocabulary = refl;
  count = refl;
  formulas = All-weaker (λ n. Unit {0}) (λ n. slice_get t.formulas n ≡ slice_get t.formulas n) (λ n h. refl) cites _;
  fresh = λ k f. f;
}

-- the entries are legal in turn after the theory, and add some formulas and then the line
pub derived_adds : (t : Statements) (cites : List ℕ) (entries : List Entry) (line : Form) → (d : IsDerivedFrom t cites entries line) → Adds t entries d.before line
derived_adds t cites entries line d = d.adds t (has_its_own t cites)

-- one lemma alone that shows the line wherever what is cited stands
pub derived_by_lemma : (t : Statements) (cites : List ℕ) (p : Proof) (line : Form) → ((u : Statements) → HasCited t cites u → Proves u [] [] p line) → IsDerivedFrom t cites (Lemma p ∷ []) line
derived_by_lemma t cites p line shows = record {
  first = [];
  last = p;
  is = refl;
  before = [];
  adds = λ u h. record {
    legal = ((line, shows u h), (with_formula u line, (line, shows u h, refl), refl));
    speak = λ k fresh absent. All-from_recursion (λ a. occurs_in k a ≡ false) [] tt;
  };
}
