-- The formulas of names and choices are of the symbols that stand in what they add, and so of what is cited and of the
-- line: a formula of the theory that has a foreign symbol is not cited, and falsehood may stand in its place.
use Rattle.std.specs.Prelude.{ℕ, ◌≡◌, ◌==◌, Bool, true, false, if◌then◌else◌, List, [], ◌∷◌, ◌++◌, length, map, Option, None, Some, slice_get, refl}
use Rattle.std.specs.List.{All as Each, AllByRecursion, list_any}
use Rattle.std.specs.Option.{option_map}
use Rattle.std.proofs.Common.{ap, sym, ◌∙◌, eq-eqb}
use Rattle.std.proofs.lemmas.List.{length-map}
use Rattle.std.proofs.lemmas.List.Elements.{All-nil, All-cons, All-head, All-tail, All-append, All-weaker}
use Rattle.std.proofs.lemmas.Option.{slice_get-map}
use Rattle.fof_terms.specs.declared.form.Form.{Form, Atom, Or, Imp, Iff, Ex}
use Rattle.fof_terms.specs.declared.signature.Symbol.{Symbol}
use Rattle.fof_terms.specs.declared.term.Term.{App}
use Rattle.fof_terms.specs.Instance.{instance_of}
use Rattle.fof_terms.specs.Occurs.{occurs_in, occurs_in_term}
use Rattle.fof_terms.proofs.OccursFacts.{occurs_in-Atom, occurs_in-Or, occurs_in-Imp, occurs_in-Iff, occurs_in-Ex}
use Rattle.kernel.specs.Statements.{Statements}
use Rattle.kernel.specs.Entries.{Admits, After, IsFresh, variables, naming, choice}
use Rattle.kernel.specs.declared.entry.Entry.{Entry}
use Rattle.kernel.specs.declared.entry.Entry.TheVariants.{Declare, Lemma, Name, Choice}
use Rattle.derive_kit.specs.Derived.{HasCited, IsDerivedFrom, with_formulas}
use Rattle.entry_symbols.specs.Inside.{DoesNotTell}
use Rattle.entry_symbols.specs.Mentioned.{IsForeign}
use Rattle.skolem_fresh.proofs.Admitting.{for_all_occurs}
use Rattle.verifier.specs.Symbols.{IsAbsent}
use Rattle.verifier.proofs.Citing.{or_false}
use Rattle.verifier.proofs.Symbols.{all_one}
use Rattle.verifier.proofs.Slots.{comes_last, of_all}
use Rattle.verifier.proofs.Derived.{formula_stays}

naming_lacks : (k j : ℕ) (symbol : Symbol) (a : Form) → occurs_in k (naming j symbol a) ≡ false → (j ≡ k → ⊥) × (occurs_in k a ≡ false)
naming_lacks k j symbol a none =
    let head = Atom j (variables (length symbol.args)) in
    let sides = or_false (occurs_in k head) (occurs_in k a) (sym (occurs_in-Iff k head a) ∙ sym (for_all_occurs k symbol.args (Iff head a)) ∙ none) in
    let own = or_false (j == k) (list_any (occurs_in_term k) (variables (length symbol.args))) (sym (occurs_in-Atom k j (variables (length symbol.args))) ∙ sides.0) in
    (λ is. let one : true ≡ false = sym (eq-eqb j k is) ∙ own.0 in absurd (cc), sides.1)

choice_lacks : (k j : ℕ) (symbol : Symbol) (a : Form) → occurs_in k (choice j symbol a) ≡ false → occurs_in k a ≡ false
choice_lacks k j symbol a none =
    let value = instance_of a (App j (variables (length symbol.args))) in
    let sides = or_false (occurs_in k (Ex symbol.result a)) (occurs_in k value) (sym (occurs_in-Imp k (Ex symbol.result a) value) ∙ sym (for_all_occurs k symbol.args (Imp (Ex symbol.result a) value)) ∙ none) in
    sym (occurs_in-Ex k symbol.result a) ∙ sides.0

-- what an entry adds stands behind all of them
added_absent : (k : ℕ) (t next u : Statements) (es : List Entry) (a : Form) → next ≡ with_formulas t (a ∷ []) → Admits next es u → IsFresh k u → IsAbsent k a
added_absent k t next u es a is admits fresh =
    let at : slice_get next.formulas (length t.formulas) ≡ Some a = ap (λ (x : Statements). slice_get x.formulas (length t.formulas)) is ∙ comes_last t.formulas a in
    of_all (IsAbsent k) u.formulas (length t.formulas) a fresh (formula_stays next es u (length t.formulas) a admits at)

entry_tells : (k : ℕ) (t next u : Statements) (e : Entry) (es : List Entry) → After t e next → Admits next es u → IsFresh k u → DoesNotTell k e
entry_tells k t next u (Declare decl) es after admits fresh = tt
entry_tells k t next u (Lemma p) es after admits fresh = tt
entry_tells k t next u (Name j a) es after admits fresh = naming_lacks k j after.0 a (added_absent k t next u es (naming j after.0 a) after.2 admits fresh)
entry_tells k t next u (Choice j a) es after admits fresh = choice_lacks k j after.0 a (added_absent k t next u es (choice j after.0 a) after.2 admits fresh)

-- where a symbol is in no formula behind the entries
pub entries_tell : (k : ℕ) (t u : Statements) (es : List Entry) → Admits t es u → IsFresh k u → AllByRecursion (DoesNotTell k) es
entries_tell k t u [] admits fresh = tt
entries_tell k t u (e ∷ es) admits fresh = (entry_tells k t admits.1.0 u e es admits.1.1 admits.1.2 fresh, entries_tell k admits.1.0 u es admits.1.2 fresh)

-- ---- falsehood in place of what has the symbol

abbrev wiped : ℕ → Form → Form
wiped k a = if occurs_in k a then Or [] else a

chosen_absent : (k : ℕ) (b : Bool) (a : Form) → occurs_in k a ≡ b → IsAbsent k (if b then Or [] else a)
chosen_absent k true a is = occurs_in-Or k []
chosen_absent k false a is = is

wiped_absent : (k : ℕ) (a : Form) → IsAbsent k (wiped k a)
wiped_absent k a = chosen_absent k (occurs_in k a) a refl

wiped_same : (k : ℕ) (a : Form) → IsAbsent k a → wiped k a ≡ a
wiped_same k a none = ap (λ (b : Bool). if b then Or [] else a) none

chosen_keeps : (j : ℕ) (b : Bool) (a : Form) → IsAbsent j a → IsAbsent j (if b then Or [] else a)
chosen_keeps j true a none = occurs_in-Or j []
chosen_keeps j false a none = none

all_wiped : (P : Form → Type 0) (f : Form → Form) (as_ : List Form) → ((a : Form) → P (f a)) → Each P (map f as_)
all_wiped P f [] on = All-nil P
all_wiped P f (a ∷ as_) on = All-cons P (f a) (map f as_) (on a) (all_wiped P f as_ on)

all_kept : (P : Form → Type 0) (f : Form → Form) (as_ : List Form) → ((a : Form) → P a → P (f a)) → Each P as_ → Each P (map f as_)
all_kept P f [] on all = All-nil P
all_kept P f (a ∷ as_) on all = All-cons P (f a) (map f as_) (on a (All-head P a as_ all)) (all_kept P f as_ on (All-tail P a as_ all))

same_there : (k : ℕ) (o : Option Form) → ((a : Form) → o ≡ Some a → IsAbsent k a) → option_map (wiped k) o ≡ o
same_there k None none = refl
same_there k (Some a) none = ap Some (wiped_same k a (none a refl))

abbrev pub without : ℕ → Statements → Statements
without k t = record t { formulas = map (wiped k) t.formulas }

pub has_cited : (t : Statements) (cites : List ℕ) (line : Form) (k : ℕ) → IsForeign t cites line k → HasCited t cites (without k t)
has_cited t cites line k foreign = record {
  vocabulary = refl;
  count = length-map t.formulas (wiped k);
  formulas = All-weaker (λ n. (a : Form) → slice_get t.formulas n ≡ Some a → IsAbsent k a) (λ n. slice_get (map (wiped k) t.formulas) n ≡ slice_get t.formulas n)
      (λ n none. slice_get-map (wiped k) t.formulas n ∙ same_there k (slice_get t.formulas n) none) cites foreign.cited;
  fresh = λ j fresh. all_kept (IsAbsent j) (wiped k) t.formulas (λ a none. chosen_keeps j (occurs_in k a) a none) fresh;
}

pub without_fresh : (k : ℕ) (t : Statements) → IsFresh k (without k t)
without_fresh k t = all_wiped (IsAbsent k) (wiped k) t.formulas (wiped_absent k)

-- behind entries that add no formula with the symbol
pub still_fresh : (k : ℕ) (formulas before : List Form) (line : Form) → Each (IsAbsent k) formulas → Each (IsAbsent k) before → IsAbsent k line → Each (IsAbsent k) (formulas ++ (before ++ line ∷ []))
still_fresh k formulas before line first second last = All-append (IsAbsent k) formulas (before ++ line ∷ []) first (All-append (IsAbsent k) before (line ∷ []) second (all_one (IsAbsent k) line last))

-- entries that derive a line
pub derived_tell : (t : Statements) (cites : List ℕ) (es : List Entry) (line : Form) (k : ℕ) → IsDerivedFrom t cites es line → IsForeign t cites line k → AllByRecursion (DoesNotTell k) es
derived_tell t cites es line k derived foreign =
    let adds = derived.adds (without k t) (has_cited t cites line k foreign) in
    let before = adds.speak k (without_fresh k t) foreign.absent in
    entries_tell k (without k t) (with_formulas (without k t) (derived.before ++ line ∷ [])) es adds.legal (still_fresh k (without k t).formulas derived.before line (without_fresh k t) before foreign.absent)
