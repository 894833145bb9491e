-- Entries that are legal mention symbols that are declared alone.
use Rattle.std.specs.Prelude.{ℕ, suc, ◌≡◌, ◌≤◌, List, [], ◌∷◌, ◌++◌, length, Option, slice_get}
use Rattle.std.proofs.Common.{ap, sym, ◌∙◌, subst, arith, length-append}
use Rattle.std.proofs.lemmas.Option.{slice_get_within}
use Rattle.fof_terms.specs.declared.signature.Symbol.{Symbol}
use Rattle.kernel.specs.Statements.{Statements}
use Rattle.kernel.specs.Entries.{Admits, After, Legal}
use Rattle.kernel.specs.declared.entry.Decl.TheVariants as decl
use Rattle.kernel.specs.declared.entry.Entry.{Entry}
use Rattle.kernel.specs.declared.entry.Entry.TheVariants.{Declare, Lemma, Name, Choice}
use Rattle.entry_symbols.specs.Inside.{DoesNotMention}
use Rattle.entry_symbols.specs.Mentioned.{symbols_after, MentionDeclared}
use Rattle.entry_symbols.proofs.Clashing.{Clash, form_lacks}
use Rattle.entry_symbols.proofs.Stating.{shown_lacks}

abbrev pub symbol_at : Statements → ℕ → Option Symbol
symbol_at t k = slice_get t.vocabulary.symbols k

-- an entry that is legal in both theories does not mention such a symbol
pub legal_lacks : (t u : Statements) (k : ℕ) (e : Entry) → Clash (symbol_at t k) (symbol_at u k) → Legal t e → Legal u e → DoesNotMention k e
legal_lacks t u k (Declare decl) clash here there = tt
legal_lacks t u k (Lemma p) clash here there = shown_lacks t u k clash [] [] [] [] p here.0 there.0 here.1 there.1
legal_lacks t u k (Name j a) clash here there = (
  λ is. clash here.0 there.0 (ap (symbol_at t) (sym is) ∙ here.1.found) (ap (symbol_at u) (sym is) ∙ there.1.found) (here.1.kind ∙ sym there.1.kind),
  form_lacks t.vocabulary u.vocabulary k clash a _ _ here.1.sorted.fits there.1.sorted.fits,
)
legal_lacks t u k (Choice j a) clash here there = (
  λ is. clash here.0 there.0 (ap (symbol_at t) (sym is) ∙ here.1.found) (ap (symbol_at u) (sym is) ∙ there.1.found) (here.1.kind ∙ sym there.1.kind),
  form_lacks t.vocabulary u.vocabulary k clash a _ _ here.1.sorted.fits there.1.sorted.fits,
)

pub none_there : (t : Statements) (k : ℕ) → length t.vocabulary.symbols ≤ k → Clash (symbol_at t k) (symbol_at t k)
none_there t k behind = λ s r here there same. omega (arith, behind, slice_get_within t.vocabulary.symbols k s here)

-- how many symbols there are after an entry
counted : (t : Statements) (e : Entry) (u : Statements) → After t e u → length u.vocabulary.symbols ≡ symbols_after (length t.vocabulary.symbols) e
counted t (Declare (decl.Sort name)) u after = ap (λ (x : Statements). length x.vocabulary.symbols) after
counted t (Declare (decl.Symbol symbol)) u after =
    let one : length (t.vocabulary.symbols ++ symbol ∷ []) ≡ suc (length t.vocabulary.symbols) = omega (arith, length-append t.vocabulary.symbols (symbol ∷ [])) in
    ap (λ (x : Statements). length x.vocabulary.symbols) after ∙ one
counted t (Lemma p) u after = ap (λ (x : Statements). length x.vocabulary.symbols) after.2
counted t (Name j a) u after = ap (λ (x : Statements). length x.vocabulary.symbols) after.2
counted t (Choice j a) u after = ap (λ (x : Statements). length x.vocabulary.symbols) after.2

pub mention_declared : (t : Statements) (es : List Entry) (u : Statements) → Admits t es u → MentionDeclared (length t.vocabulary.symbols) es
mention_declared t [] u admits = tt
mention_declared t (e ∷ es) u admits = (
  λ k behind. legal_lacks t t k e (none_there t k behind) admits.0 admits.0,
  subst (λ n. MentionDeclared n es) (counted t e admits.1.0 admits.1.1) (mention_declared admits.1.0 es u admits.1.2),
)
