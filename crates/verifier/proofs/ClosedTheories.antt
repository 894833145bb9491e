-- The formulas of a theory stay closed and well-sorted under legal entries.
use Rattle.std.proofs.Common.{◌≡◌, List, [], ◌∷◌, slice_get, sym, subst, arith}
use Rattle.std.specs.List.{All}
use Rattle.std.proofs.lemmas.List.Elements.{All-nil, All-cons, All-append, All-weaker}
use Rattle.fof_terms.specs.Sorts.{Sorted}
use Rattle.fof_terms.specs.declared.form.Form.{Form}
use Rattle.fof_terms.specs.declared.signature.Symbol.{Symbol}
use Rattle.fof_terms.proofs.Scoped.{raised}
use Rattle.fof_terms.proofs.SortLawsFacts.{more_sorts_grow, more_symbols_grow}
use Rattle.clause_rules.specs.Steps.{IsReady}
use Rattle.kernel.specs.Statements.{Statements, AreClosed}
use Rattle.kernel.specs.Entries.{Legal, After, Admits, naming, choice, with_formula, declared}
use Rattle.kernel.specs.declared.entry.Entry.{Entry}
use Rattle.kernel.specs.declared.entry.Entry.TheVariants.{Declare, Lemma, Name, Choice}
use Rattle.kernel.specs.declared.entry.Decl.TheVariants as decl
use Rattle.proof_check.proofs.Added.{closed_grow}
use Rattle.kernel.proofs.Building.{shown_sorted}
use Rattle.verifier.proofs.Slots.{one_value}

-- what the rules may be asked about is closed
pub ready_closed : (t : Statements) → All (IsReady t.vocabulary) t.formulas → AreClosed t
ready_closed t ready = All-weaker (IsReady t.vocabulary) (Sorted t.vocabulary []) (λ a is. raised t.vocabulary [] 1000000000 2147483647 a (omega arith) is) t.formulas ready

-- one formula more
with_closed : (t u : Statements) (a : Form) → u ≡ with_formula t a → Sorted t.vocabulary [] a → AreClosed t → AreClosed u
with_closed t u a is sorted closed =
    subst AreClosed (sym is)
    (All-append (Sorted t.vocabulary []) t.formulas (a ∷ []) closed (All-cons (Sorted t.vocabulary []) a [] sorted (All-nil (Sorted t.vocabulary []))))

after_closed : (t u : Statements) (e : Entry) → Legal t e → After t e u → AreClosed t → AreClosed u
after_closed t u (Declare (decl.Sort name)) legal after closed = subst AreClosed (sym after) (closed_grow t.vocabulary (declared t (decl.Sort name)).vocabulary t.formulas (more_sorts_grow t.vocabulary name) closed)
after_closed t u (Declare (decl.Symbol symbol)) legal after closed = subst AreClosed (sym after) (closed_grow t.vocabulary (declared t (decl.Symbol symbol)).vocabulary t.formulas (more_symbols_grow t.vocabulary symbol) closed)
after_closed t u (Lemma p) legal (a, shows, is) closed = with_closed t u a is (shown_sorted t [] [] p a shows) closed
after_closed t u (Name k a) (symbol, may) (other, found, is) closed =
    let same : symbol ≡ other = one_value (slice_get t.vocabulary.symbols k) symbol other may.found found in
    with_closed t u (naming k other a) is (subst (λ (s : Symbol). Sorted t.vocabulary [] (naming k s a)) same may.added) closed
after_closed t u (Choice k a) (symbol, may) (other, found, is) closed =
    let same : symbol ≡ other = one_value (slice_get t.vocabulary.symbols k) symbol other may.found found in
    with_closed t u (choice k other a) is (subst (λ (s : Symbol). Sorted t.vocabulary [] (choice k s a)) same may.added) closed

pub admitted_closed : (t : Statements) (es : List Entry) (u : Statements) → Admits t es u → AreClosed t → AreClosed u
admitted_closed t [] u admits closed = subst AreClosed (sym admits) closed
admitted_closed t (e ∷ es) u (legal, (next, after, rest)) closed = admitted_closed next es u rest (after_closed t next e legal after closed)
