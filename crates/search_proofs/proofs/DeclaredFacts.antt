-- Declarations, one by one.
use Rattle.std.specs.Prelude.{ℕ, ◌≡◌, ◌+◌, List, [], ◌∷◌, ◌++◌, Some, slice_get}
use Rattle.std.proofs.Common.{sym, ap, ◌∙◌, take, append-nil}
use Rattle.std.proofs.lemmas.List.{append_assoc, map-append}
use Rattle.fof_terms.specs.declared.signature.Symbol.{Symbol}
use Rattle.kernel.specs.declared.entry.Decl.TheVariants.{Symbol as NewSymbol}
use Rattle.kernel.specs.declared.entry.Entry.{Entry}
use Rattle.kernel.specs.declared.entry.Entry.TheVariants.{Declare}
use Rattle.norm_proofs.proofs.Places.{take_more}
use Rattle.search_proofs.specs.Searched.{declare_all}

-- the first so many symbols are those in front, and the declared ones
abbrev pub IsDeclaredTo : List Symbol → ℕ → ℕ → List Entry → Type 0
IsDeclaredTo symbols known n entries = declare_all (take n symbols) ≡ declare_all (take known symbols) ++ entries

pub none_declared : (symbols : List Symbol) (known : ℕ) (entries : List Entry) → entries ≡ [] → IsDeclaredTo symbols known known entries
none_declared symbols known entries e = sym (ap (λ (es : List Entry). declare_all (take known symbols) ++ es) e ∙ append-nil (declare_all (take known symbols)))

pub one_declared : (symbols : List Symbol) (known n : ℕ) (s : Symbol) (entry : Entry) (entries more : List Entry) → slice_get symbols n ≡ Some s → entry ≡ Declare (NewSymbol s) → IsDeclaredTo symbols known n entries → more ≡ entries ++ entry ∷ []
    → IsDeclaredTo symbols known (n + 1) more
one_declared symbols known n s entry entries more at is e push =
    let front = declare_all (take known symbols) in
    let last = Declare (NewSymbol s) ∷ [] in
    let pushed : more ≡ entries ++ last = push ∙ ap (λ (x : Entry). entries ++ x ∷ []) is in
    ap declare_all (take_more symbols n s at) ∙ (map-append (λ (x : Symbol). Declare (NewSymbol x)) (take n symbols) (s ∷ []) ∙ (ap (λ (es : List Entry). es ++ last) e ∙ (append_assoc front entries last ∙ ap (λ (es : List Entry). front ++ es) (sym pushed))))
