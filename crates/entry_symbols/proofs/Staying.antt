-- Entries that do not mention some symbols, and cite no hidden formula, stay legal where these are others.
use Rattle.std.specs.Prelude.{ℕ, zero, suc, ◌≡◌, ◌==◌, false, List, [], ◌∷◌, ◌++◌, length, reverse, Some, slice_get, refl}
use Rattle.std.specs.List.{list_any}
use Rattle.std.proofs.Common.{ap, sym, ◌∙◌, subst, arith, length-append, ◌⊎◌, inl, inr}
use Rattle.std.proofs.lemmas.List.Elements.{All-append}
use Rattle.std.proofs.lemmas.Bool.{eqb-true}
use Rattle.fof_terms.specs.declared.form.Form.{Form, Atom, Imp, Iff, Ex}
use Rattle.fof_terms.specs.declared.signature.Symbol.{Symbol}
use Rattle.fof_terms.specs.declared.term.Term.{Var, App}
use Rattle.fof_terms.specs.Vocabulary.{IsDeclared}
use Rattle.fof_terms.specs.Instance.{instance_of}
use Rattle.fof_terms.specs.Occurs.{occurs_in, occurs_in_term}
use Rattle.fof_terms.specs.Sorts.{Sorted}
use Rattle.fof_terms.proofs.OccursFacts.{occurs_in-Atom, occurs_in_term-App, occurs_in_term-Var}
use Rattle.kernel.specs.Statements.{Statements}
use Rattle.kernel.specs.Entries.{Admits, MayName, MayChoose, variables, naming, choice, declared, with_formula}
use Rattle.kernel.specs.declared.entry.Decl.TheVariants as decl
use Rattle.kernel.specs.declared.entry.Entry.{Entry}
use Rattle.kernel.specs.declared.entry.Entry.TheVariants.{Declare, Lemma, Name, Choice}
use Rattle.verifier.specs.Citing.{DoNotCite}
use Rattle.entry_symbols.specs.Inside.{DoNotMention}
use Rattle.entry_symbols.proofs.Clashing.{none_of_two, not_true}
use Rattle.entry_symbols.proofs.Free.{IsFree, free_none, free_iff, free_imp, free_ex, free_instance}
use Rattle.entry_symbols.proofs.Kept.{IsLike, shown_free, shown_stays, sorted_stays}
use Rattle.verifier.proofs.Symbols.{all_front, all_behind}
use Rattle.verifier.proofs.Slots.{comes_last, stays_behind}
use Rattle.skolem_fresh.proofs.Admitting.{for_all_occurs}

-- ---- lists that grow at their end

-- what is there was there, or is what was added
was_there : {X : Type 0} (xs : List X) (x : X) (i : ℕ) (y : X) → slice_get (xs ++ x ∷ []) i ≡ Some y → (slice_get xs i ≡ Some y) ⊎ ((i ≡ length xs) × (x ≡ y))
was_there [] x zero y at = inr (refl, cc)
was_there [] x (suc i) y at = absurd (cc)
was_there (z ∷ xs) x zero y at = inl at
was_there (z ∷ xs) x (suc i) y at = on (was_there xs x i y at)
  where
    on : (slice_get xs i ≡ Some y) ⊎ ((i ≡ length xs) × (x ≡ y)) → (slice_get (z ∷ xs) (suc i) ≡ Some y) ⊎ ((suc i ≡ length (z ∷ xs)) × (x ≡ y))
    on (inl there) = inl there
    on (inr (last, is)) = inr (ap suc last, is)

-- lists of one length that agree at a place agree there when both grow by one
both_grown : {X : Type 0} (xs ys : List X) (z : X) (k : ℕ) → length xs ≡ length ys → slice_get xs k ≡ slice_get ys k → slice_get (xs ++ z ∷ []) k ≡ slice_get (ys ++ z ∷ []) k
both_grown [] [] z k long is = refl
both_grown [] (y ∷ ys) z k long is = absurd (omega (arith, long))
both_grown (x ∷ xs) [] z k long is = absurd (omega (arith, long))
both_grown (x ∷ xs) (y ∷ ys) z zero long is = is
both_grown (x ∷ xs) (y ∷ ys) z (suc k) long is = both_grown xs ys z k (omega (arith, long)) is

one_longer : {X : Type 0} (xs ys : List X) (z w : X) → length xs ≡ length ys → length (xs ++ z ∷ []) ≡ length (ys ++ w ∷ [])
one_longer xs ys z w long = omega (arith, long, length-append xs (z ∷ []), length-append ys (w ∷ []))

-- ---- what names and choices add

variables_lack : (k n : ℕ) → list_any (occurs_in_term k) (variables n) ≡ false
variables_lack k zero = refl
variables_lack k (suc n) = none_of_two (occurs_in_term k (Var n)) (list_any (occurs_in_term k) (variables n)) (occurs_in_term-Var k n) (variables_lack k n)

module _ (K : ℕ → Type 0) (j : ℕ) (symbol : Symbol) (a : Form) (apart : (k : ℕ) → K k → j ≡ k → ⊥) (free : IsFree K a) where
  not_head : (k : ℕ) → K k → (j == k) ≡ false
  not_head k is = not_true (j == k) (λ same. apart k is (eqb-true j k same))

  naming_free : IsFree K (naming j symbol a)
  naming_free k is =
      let head : IsFree K (Atom j (variables (length symbol.args))) = λ i here. occurs_in-Atom i j (variables (length symbol.args)) ∙ none_of_two (j == i) (list_any (occurs_in_term i) (variables (length symbol.args))) (not_head i here) (variables_lack i (length symbol.args)) in
      for_all_occurs k symbol.args (Iff (Atom j (variables (length symbol.args))) a) ∙ free_iff K (Atom j (variables (length symbol.args))) a head free k is

  choice_free : IsFree K (choice j symbol a)
  choice_free k is =
      let value = App j (variables (length symbol.args)) in
      let lacks : (i : ℕ) → K i → occurs_in_term i value ≡ false = λ i here. occurs_in_term-App i j (variables (length symbol.args)) ∙ none_of_two (j == i) (list_any (occurs_in_term i) (variables (length symbol.args))) (not_head i here) (variables_lack i (length symbol.args)) in
      for_all_occurs k symbol.args (Imp (Ex symbol.result a) (instance_of a value)) ∙ free_imp K (Ex symbol.result a) (instance_of a value) (free_ex K symbol.result a free) (free_instance K value a lacks free) k is

-- ---- theories

module _ (K Hidden : ℕ → Type 0) where
  more_formulas : (t u : Statements) (a : Form) → IsLike t u K Hidden → IsFree K a → IsLike (with_formula t a) (with_formula u a) K Hidden
  more_formulas t u a like free = record {
    count = one_longer u.formulas t.formulas a a like.count;
    symbol_count = like.symbol_count;
    fresh = λ k fresh.
        All-append (λ b. occurs_in k b ≡ false) u.formulas (a ∷ []) (like.fresh k (all_front (λ b. occurs_in k b ≡ false) t.formulas (a ∷ []) fresh)) (all_behind (λ b. occurs_in k b ≡ false) t.formulas (a ∷ []) fresh);
    sorts = like.sorts;
    symbols = like.symbols;
    formulas = λ i b seen at. there i b seen (was_there t.formulas a i b at);
    free = λ i b seen at. is_free i b seen (was_there t.formulas a i b at);
  }
    where
      there : (i : ℕ) (b : Form) → (Hidden i → ⊥) → (slice_get t.formulas i ≡ Some b) ⊎ ((i ≡ length t.formulas) × (a ≡ b)) → slice_get (u.formulas ++ a ∷ []) i ≡ Some b
      there i b seen (inl at) = stays_behind u.formulas (a ∷ []) i b (like.formulas i b seen at)
      there i b seen (inr (last, is)) = ap (slice_get (u.formulas ++ a ∷ [])) (last ∙ sym like.count) ∙ comes_last u.formulas a ∙ ap Some is

      is_free : (i : ℕ) (b : Form) → (Hidden i → ⊥) → (slice_get t.formulas i ≡ Some b) ⊎ ((i ≡ length t.formulas) × (a ≡ b)) → IsFree K b
      is_free i b seen (inl at) = like.free i b seen at
      is_free i b seen (inr (last, is)) = subst (IsFree K) is free

  more_sorts : (t u : Statements) (name : List ℕ) → IsLike t u K Hidden → IsLike (declared t (decl.Sort name)) (declared u (decl.Sort name)) K Hidden
  more_sorts t u name like = record {
    count = like.count;
    symbol_count = like.symbol_count;
    fresh = like.fresh;
    sorts = one_longer u.vocabulary.sorts t.vocabulary.sorts name name like.sorts;
    symbols = like.symbols;
    formulas = like.formulas;
    free = like.free;
  }

  more_symbols : (t u : Statements) (symbol : Symbol) → IsLike t u K Hidden → IsLike (declared t (decl.Symbol symbol)) (declared u (decl.Symbol symbol)) K Hidden
  more_symbols t u symbol like = record {
    count = like.count;
    symbol_count = one_longer u.vocabulary.symbols t.vocabulary.symbols symbol symbol like.symbol_count;
    fresh = like.fresh;
    sorts = like.sorts;
    symbols = λ k other. both_grown u.vocabulary.symbols t.vocabulary.symbols symbol k like.symbol_count (like.symbols k other);
    formulas = like.formulas;
    free = like.free;
  }

  -- the second theory takes what the first one takes
  abbrev Takes : Statements → List Entry → Type 0
  Takes u es = (after : Statements) × Admits u es after

  on_from : (t u : Statements) (a : Form) (next : Statements) → next ≡ with_formula t a → IsLike t u K Hidden → IsFree K a → IsLike next (with_formula u a) K Hidden
  on_from t u a next is like free = subst (λ (x : Statements). IsLike x (with_formula u a) K Hidden) (sym is) (more_formulas t u a like free)

  kept : (t u : Statements) → IsLike t u K Hidden → (v : List ℕ) (a : Form) → IsFree K a → Sorted t.vocabulary v a → Sorted u.vocabulary v a
  kept t u like v a free s = sorted_stays t.vocabulary u.vocabulary K like.sorts like.symbols v a free s

  declared_few : (t u : Statements) (symbol : Symbol) → IsLike t u K Hidden → IsDeclared (length t.vocabulary.sorts) symbol → IsDeclared (length u.vocabulary.sorts) symbol
  declared_few t u symbol like is = subst (λ n. IsDeclared n symbol) (sym like.sorts) is

  named : (t u : Statements) (j : ℕ) (symbol : Symbol) (a : Form) → IsLike t u K Hidden → (K j → ⊥) → ((k : ℕ) → K k → j ≡ k → ⊥) → IsFree K a → MayName t j symbol a → MayName u j symbol a
  named t u j symbol a like other apart free may = record {
    found = like.symbols j other ∙ may.found;
    kind = may.kind;
    sorted = kept t u like (reverse symbol.args) a free may.sorted;
    fresh = like.fresh j may.fresh;
    absent = may.absent;
    added = kept t u like [] (naming j symbol a) (naming_free K j symbol a apart free) may.added;
  }

  chosen : (t u : Statements) (j : ℕ) (symbol : Symbol) (a : Form) → IsLike t u K Hidden → (K j → ⊥) → ((k : ℕ) → K k → j ≡ k → ⊥) → IsFree K a → MayChoose t j symbol a → MayChoose u j symbol a
  chosen t u j symbol a like other apart free may = record {
    found = like.symbols j other ∙ may.found;
    kind = may.kind;
    sorted = kept t u like (symbol.result ∷ reverse symbol.args) a free may.sorted;
    fresh = like.fresh j may.fresh;
    absent = may.absent;
    added = kept t u like [] (choice j symbol a) (choice_free K j symbol a apart free) may.added;
  }

  -- of an entry that tells of a symbol by a formula: the symbol is none of them, and the formula has none of them
  abbrev Told : ℕ → Form → Type 0
  Told j a = (K j → ⊥) × (((k : ℕ) → K k → j ≡ k → ⊥) × IsFree K a)

  told_of : (j : ℕ) (a : Form) (rest : ℕ → Type 0) → ((k : ℕ) → K k → ((j ≡ k → ⊥) × (occurs_in k a ≡ false)) × rest k) → Told j a
  told_of j a rest lack = (λ here. (lack j here).0.0 refl, (λ k here. (lack k here).0.0, λ k here. (lack k here).0.1))

  pub entries_stay : (t u : Statements) (es : List Entry) (after : Statements) → IsLike t u K Hidden → ((k : ℕ) → K k → DoNotMention k es) → ((n : ℕ) → Hidden n → DoNotCite n es) → Admits t es after → Takes u es
  entries_stay t u [] after like lack spare admits = (u, refl)
  entries_stay t u (Declare (decl.Sort name) ∷ es) after like lack spare (legal, (next, is, rest)) =
      let on = subst (λ (x : Statements). IsLike x (declared u (decl.Sort name)) K Hidden) (sym is) (more_sorts t u name like) in
      let later = entries_stay next (declared u (decl.Sort name)) es after on (λ k here. (lack k here).1) (λ n here. (spare n here).1) rest in
      (later.0, (omega (arith, legal, like.sorts), (declared u (decl.Sort name), refl, later.1)))
  entries_stay t u (Declare (decl.Symbol symbol) ∷ es) after like lack spare (legal, (next, is, rest)) =
      let on = subst (λ (x : Statements). IsLike x (declared u (decl.Symbol symbol)) K Hidden) (sym is) (more_symbols t u symbol like) in
      let later = entries_stay next (declared u (decl.Symbol symbol)) es after on (λ k here. (lack k here).1) (λ n here. (spare n here).1) rest in
      (later.0, ((omega (arith, legal.0, like.symbol_count), declared_few t u symbol like legal.1), (declared u (decl.Symbol symbol), refl, later.1)))
  entries_stay t u (Lemma p ∷ es) after like lack spare (legal, (next, (a, shows, is), rest)) =
      let free = shown_free t u K Hidden like [] [] p a (λ k here. (lack k here).0) (λ n here. (spare n here).0) (free_none K) shows in
      let own = shown_stays t u K Hidden like [] [] p a (λ k here. (lack k here).0) (λ n here. (spare n here).0) (free_none K) shows in
      let later = entries_stay next (with_formula u a) es after (on_from t u a next is like free) (λ k here. (lack k here).1) (λ n here. (spare n here).1) rest in
      (later.0, ((a, own), (with_formula u a, (a, own, refl), later.1)))
  entries_stay t u (Name j a ∷ es) after like lack spare (legal, (next, (symbol, found, is), rest)) =
      let told = told_of j a (λ k. DoNotMention k es) lack in
      let on = on_from t u (naming j symbol a) next is like (naming_free K j symbol a told.1.0 told.1.1) in
      let later = entries_stay next (with_formula u (naming j symbol a)) es after on (λ k here. (lack k here).1) (λ n here. (spare n here).1) rest in
      (later.0, ((legal.0, named t u j legal.0 a like told.0 told.1.0 told.1.1 legal.1), (with_formula u (naming j symbol a), (symbol, like.symbols j told.0 ∙ found, refl), later.1)))
  entries_stay t u (Choice j a ∷ es) after like lack spare (legal, (next, (symbol, found, is), rest)) =
      let told = told_of j a (λ k. DoNotMention k es) lack in
      let on = on_from t u (choice j symbol a) next is like (choice_free K j symbol a told.1.0 told.1.1) in
      let later = entries_stay next (with_formula u (choice j symbol a)) es after on (λ k here. (lack k here).1) (λ n here. (spare n here).1) rest in
      (later.0, ((legal.0, chosen t u j legal.0 a like told.0 told.1.0 told.1.1 legal.1), (with_formula u (choice j symbol a), (symbol, like.symbols j told.0 ∙ found, refl), later.1)))
