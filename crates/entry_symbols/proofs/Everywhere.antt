-- A proof that shows a formula wherever another one is well-sorted states no symbol but those of the other one.
use Rattle.std.specs.Prelude.{ℕ, ◌≡◌, ◌<◌, ◌≤◌, false, List, [], length, refl}
use Rattle.std.proofs.Common.{ap, ◌∙◌, ◌⊎◌, inl, inr}
use Rattle.fof_terms.specs.declared.form.Form.{Form}
use Rattle.fof_terms.specs.Occurs.{occurs_in}
use Rattle.fof_terms.specs.Sorts.{Sorted}
use Rattle.fof_terms.specs.Vocabulary.{Vocabulary}
use Rattle.fof_terms.proofs.LiftingLaws.{below_or_above}
use Rattle.kernel.specs.Statements.{Statements}
use Rattle.kernel.specs.Proves.{Proves}
use Rattle.kernel.specs.declared.proof.Proof.{Proof}
use Rattle.entry_symbols.specs.Inside.{Lacks}
use Rattle.entry_symbols.specs.Mentioned.{IsShownWherever}
use Rattle.entry_symbols.proofs.Alike.{known_clash, kinds_differ, turned, with_symbol}
use Rattle.entry_symbols.proofs.Declared.{none_there, symbol_at}
use Rattle.entry_symbols.proofs.Kept.{sorted_stays}
use Rattle.verifier.proofs.Slots.{has_value, set_elsewhere, set_here}
use Rattle.entry_symbols.proofs.Stating.{shown_lacks}

abbrev bare : Vocabulary → Statements
bare w = record { vocabulary = w; formulas = [] }

pub wherever_lacks : (w : Vocabulary) (v : List ℕ) (a b : Form) (p : Proof) (k : ℕ) → length v ≤ 1000000000 → Sorted w v a → IsShownWherever a b p → occurs_in k a ≡ false → Lacks k p
wherever_lacks w v a b p k few sorted shows absent = by (below_or_above k (length w.symbols))
  where
    here : Proves (bare w) v [] p b
    here = shows (bare w) v [] few sorted

    by : (k < length w.symbols) ⊎ (length w.symbols ≤ k) → Lacks k p
    by (inl known) =
        let own = has_value w.symbols k known in
        let other = with_symbol (bare w) k (turned own.0) in
        let fits = sorted_stays w other.vocabulary (λ j. j ≡ k) refl (λ j apart. set_elsewhere w.symbols k j (turned own.0) apart) v a (λ j same. ap (λ i. occurs_in i a) same ∙ absent) sorted in
        let clash = known_clash (symbol_at (bare w) k) (symbol_at other k) own.0 (turned own.0) own.1 (set_here w.symbols k (turned own.0) known) (kinds_differ own.0.kind) in
        shown_lacks (bare w) other k clash v v [] [] p b b here (shows other v [] few fits)
    by (inr behind) = shown_lacks (bare w) (bare w) k (none_there (bare w) k behind) v v [] [] p b b here here
