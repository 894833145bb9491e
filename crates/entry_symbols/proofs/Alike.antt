-- Entries that are legal whatever the foreign symbols are do not mention them: a symbol of the other kind shows it.
use Rattle.std.specs.Prelude.{ℕ, ◌≡◌, List, [], ◌∷◌, Option, Some, slice_get, refl}
use Rattle.std.proofs.Common.{ap, sym, ◌∙◌, subst}
use Rattle.std.proofs.Math.ListN.{set}
use Rattle.std.proofs.lemmas.List.{length-set}
use Rattle.std.proofs.lemmas.List.Elements.{All-weaker}
use Rattle.fof_terms.specs.declared.signature.Kind.{Kind}
use Rattle.fof_terms.specs.declared.signature.Kind.TheVariants.{Function, Predicate}
use Rattle.fof_terms.specs.declared.signature.Symbol.{Symbol}
use Rattle.fof_terms.specs.declared.form.Form.{Form}
use Rattle.kernel.specs.Statements.{Statements}
use Rattle.kernel.specs.Entries.{Admits, After}
use Rattle.kernel.specs.declared.entry.Decl.TheVariants as decl
use Rattle.kernel.specs.declared.entry.Entry.{Entry}
use Rattle.kernel.specs.declared.entry.Entry.TheVariants.{Declare, Lemma, Name, Choice}
use Rattle.entry_symbols.specs.Inside.{DoNotMention}
use Rattle.entry_symbols.specs.Mentioned.{IsForeign, SpeakInside, HasAlike, AreLegalAlike}
use Rattle.entry_symbols.proofs.Clashing.{Clash}
use Rattle.entry_symbols.proofs.Declared.{legal_lacks, symbol_at}
use Rattle.verifier.proofs.Slots.{has_value, set_elsewhere, set_here, stays_behind}

-- ---- a symbol stays what it is

pub symbol_stays : (t u : Statements) (e : Entry) (k : ℕ) (s : Symbol) → After t e u → symbol_at t k ≡ Some s → symbol_at u k ≡ Some s
symbol_stays t u (Declare (decl.Sort name)) k s after at = ap (λ (x : Statements). symbol_at x k) after ∙ at
symbol_stays t u (Declare (decl.Symbol symbol)) k s after at = ap (λ (x : Statements). symbol_at x k) after ∙ stays_behind t.vocabulary.symbols (symbol ∷ []) k s at
symbol_stays t u (Lemma p) k s after at = ap (λ (x : Statements). symbol_at x k) after.2 ∙ at
symbol_stays t u (Name j a) k s after at = ap (λ (x : Statements). symbol_at x k) after.2 ∙ at
symbol_stays t u (Choice j a) k s after at = ap (λ (x : Statements). symbol_at x k) after.2 ∙ at

of_one : {X : Type 0} (x y : X) → Some x ≡ Some y → x ≡ y
of_one x y is = cc

pub known_clash : (o p : Option Symbol) (s r : Symbol) → o ≡ Some s → p ≡ Some r → (s.kind ≡ r.kind → ⊥) → Clash o p
known_clash o p s r here there other = λ x y is at same. other (ap (λ (z : Symbol). z.kind) (of_one s x (sym here ∙ is)) ∙ same ∙ ap (λ (z : Symbol). z.kind) (of_one y r (sym at ∙ there)))

-- entries that are legal in turn in two theories that have the symbol as different kinds do not mention it
pub admitted_lack : (t u : Statements) (k : ℕ) (s r : Symbol) (es : List Entry) (after behind : Statements) → symbol_at t k ≡ Some s → symbol_at u k ≡ Some r → (s.kind ≡ r.kind → ⊥) → Admits t es after → Admits u es behind → DoNotMention k es
admitted_lack t u k s r [] after behind here there other one two = tt
admitted_lack t u k s r (e ∷ es) after behind here there other one two = (
  legal_lacks t u k e (known_clash (symbol_at t k) (symbol_at u k) s r here there other) one.0 two.0,
  admitted_lack one.1.0 two.1.0 k s r es after behind (symbol_stays t one.1.0 e k s one.1.1 here) (symbol_stays u two.1.0 e k r two.1.1 there) other one.1.2 two.1.2,
)

-- ---- a symbol of the other kind

abbrev pub other_kind : Kind → Kind
other_kind Function = Predicate
other_kind Predicate = Function

pub kinds_differ : (k : Kind) → k ≡ other_kind k → ⊥
kinds_differ Function is = absurd (cc)
kinds_differ Predicate is = absurd (cc)

abbrev pub turned : Symbol → Symbol
turned s = record s { kind = other_kind s.kind }

-- the theory with that symbol at the number
abbrev pub with_symbol : Statements → ℕ → Symbol → Statements
with_symbol t k s = record t { vocabulary = record t.vocabulary { symbols = set t.vocabulary.symbols k s } }

itself_alike : (t : Statements) (cites : List ℕ) (line : Form) → HasAlike t cites line t
itself_alike t cites line = record {
  sorts = refl;
  symbol_count = refl;
  symbols = λ k known. refl;
  count = refl;
  formulas = All-weaker (λ n. Unit {0}) (λ n. slice_get t.formulas n ≡ slice_get t.formulas n) (λ n h. refl) cites _;
  fresh = λ k fresh. fresh;
}

changed_alike : (t : Statements) (cites : List ℕ) (line : Form) (k : ℕ) (s : Symbol) → IsForeign t cites line k → HasAlike t cites line (with_symbol t k s)
changed_alike t cites line k s foreign = record {
  sorts = refl;
  symbol_count = length-set t.vocabulary.symbols k s;
  symbols = λ j known. set_elsewhere t.vocabulary.symbols k j s (λ same. known (subst (IsForeign t cites line) (sym same) foreign));
  count = refl;
  formulas = All-weaker (λ n. Unit {0}) (λ n. slice_get t.formulas n ≡ slice_get t.formulas n) (λ n h. refl) cites _;
  fresh = λ j fresh. fresh;
}

pub alike_speaks_inside : (t : Statements) (cites : List ℕ) (line : Form) (es : List Entry) → AreLegalAlike t cites line es → SpeakInside t cites line es
alike_speaks_inside t cites line es legal k foreign =
    let here = has_value t.vocabulary.symbols k foreign.declared in
    let own = legal t (itself_alike t cites line) in
    let other = legal (with_symbol t k (turned here.0)) (changed_alike t cites line k (turned here.0) foreign) in
    admitted_lack t (with_symbol t k (turned here.0)) k here.0 (turned here.0) es own.0 other.0 here.1
    (set_here t.vocabulary.symbols k (turned here.0) foreign.declared) (kinds_differ here.0.kind) own.1 other.1
