-- What a derivation brings is declared in turn.
use Rattle.std.proofs.Common.{◌≡◌, ℕ, ◌+◌, ◌≤◌, List, [], ◌∷◌, ◌++◌, length, map, drop, refl, sym, ◌∙◌, ap, subst, arith, append_assoc, length-append}
use Rattle.std.proofs.Math.Seq.{drop-append_seam}
use Rattle.std.proofs.lemmas.List.{append-nil}
use Rattle.std.specs.List.{AllByRecursion}
use Rattle.fof_terms.specs.Vocabulary.{Vocabulary, IsDeclared}
use Rattle.fof_terms.specs.declared.form.Form.{Form}
use Rattle.fof_terms.specs.declared.signature.Symbol.{Symbol}
use Rattle.kernel.specs.Statements.{Statements}
use Rattle.kernel.specs.Entries.{Admits}
use Rattle.kernel.proofs.EntryLaws.{admits_append}
use Rattle.kernel.specs.declared.entry.Entry.{Entry}
use Rattle.kernel.specs.declared.entry.Entry.TheVariants.{Declare}
use Rattle.kernel.specs.declared.entry.Decl.TheVariants as decl
use Rattle.sort_check.specs.Sorting.{AreDeclared, Extends}
use Rattle.verifier.specs.Declarations.{declarations}
use Rattle.proof_log.proofs.OneTheory.{one_admitted}
use Rattle.derivation_check.specs.Cases.{widened}

abbrev with_sorts : List (List ℕ) → List Symbol → List Form → Statements
with_sorts sorts symbols formulas = record { vocabulary = record { sorts = sorts; symbols = symbols }; formulas = formulas }

sorts_admit : (front more : List (List ℕ)) (symbols : List Symbol) (formulas : List Form) → length front + length more ≤ 65536
    → Admits (with_sorts front symbols formulas) (map (λ name. Declare (decl.Sort name)) more) (with_sorts (front ++ more) symbols formulas)
sorts_admit front [] symbols formulas few = ap (λ (sorts : List (List ℕ)). with_sorts sorts symbols formulas) (append-nil front)
sorts_admit front (name ∷ more) symbols formulas few = (
  omega arith,
  (
    with_sorts (front ++ name ∷ []) symbols formulas,
    refl,
    subst (λ (sorts : List (List ℕ)). Admits (with_sorts (front ++ name ∷ []) symbols formulas) (map (λ n. Declare (decl.Sort n)) more) (with_sorts sorts symbols formulas))
        (append_assoc front (name ∷ []) more)
        (sorts_admit (front ++ name ∷ []) more symbols formulas (omega (arith, length-append front (name ∷ [])))),
  ),
)

symbols_admit : (sorts : List (List ℕ)) (front more : List Symbol) (formulas : List Form) → AllByRecursion (IsDeclared (length sorts)) more → length front + length more ≤ 16777216
    → Admits (with_sorts sorts front formulas) (map (λ symbol. Declare (decl.Symbol symbol)) more) (with_sorts sorts (front ++ more) formulas)
symbols_admit sorts front [] formulas declared few = ap (λ (symbols : List Symbol). with_sorts sorts symbols formulas) (append-nil front)
symbols_admit sorts front (s ∷ more) formulas declared few = (
  (omega arith, declared.0),
  (
    with_sorts sorts (front ++ s ∷ []) formulas,
    refl,
    subst (λ (symbols : List Symbol). Admits (with_sorts sorts (front ++ s ∷ []) formulas) (map (λ x. Declare (decl.Symbol x)) more) (with_sorts sorts symbols formulas))
        (append_assoc front (s ∷ []) more)
        (symbols_admit sorts (front ++ s ∷ []) more formulas declared.1 (omega (arith, length-append front (s ∷ [])))),
  ),
)

behind : {X : Type 0} (P : X → Type 0) (front more : List X) → AllByRecursion P (front ++ more) → AllByRecursion P more
behind P [] more all = all
behind P (x ∷ front) more all = behind P front more all.1

-- the declarations from one vocabulary to a longer one
pub declarations_admit : (v w : Vocabulary) (formulas : List Form) → Extends v w → length w.sorts ≤ 65536 → length w.symbols ≤ 16777216 → AreDeclared w → Admits (record { vocabulary = v; formulas = formulas }) (declarations v w) (record { vocabulary = w; formulas = formulas })
declarations_admit v w formulas extends most_sorts most_symbols known =
    let sorts : List (List ℕ) = extends.sorts.0 in
    let symbols : List Symbol = extends.symbols.0 in
    let sorts_are : drop (length v.sorts) w.sorts ≡ sorts = ap (λ (xs : List (List ℕ)). drop (length v.sorts) xs) extends.sorts.1 ∙ drop-append_seam v.sorts sorts in
    let symbols_are : drop (length v.symbols) w.symbols ≡ symbols = ap (λ (xs : List Symbol). drop (length v.symbols) xs) extends.symbols.1 ∙ drop-append_seam v.symbols symbols in
    let few_sorts : length v.sorts + length sorts ≤ 65536 = omega (arith, most_sorts, ap (λ (xs : List (List ℕ)). length xs) extends.sorts.1, length-append v.sorts sorts) in
    let few_symbols : length v.symbols + length symbols ≤ 16777216 = omega (arith, most_symbols, ap (λ (xs : List Symbol). length xs) extends.symbols.1, length-append v.symbols symbols) in
    let news : AllByRecursion (IsDeclared (length w.sorts)) symbols = behind (IsDeclared (length w.sorts)) v.symbols symbols (subst (AllByRecursion (IsDeclared (length w.sorts))) extends.symbols.1 known) in
    let first : Admits (with_sorts v.sorts v.symbols formulas) (map (λ name. Declare (decl.Sort name)) sorts) (with_sorts w.sorts v.symbols formulas) =
    subst (λ (xs : List (List ℕ)). Admits (with_sorts v.sorts v.symbols formulas) (map (λ name. Declare (decl.Sort name)) sorts) (with_sorts xs v.symbols formulas)) (sym extends.sorts.1) (sorts_admit v.sorts sorts v.symbols formulas few_sorts) in
    let second : Admits (with_sorts w.sorts v.symbols formulas) (map (λ symbol. Declare (decl.Symbol symbol)) symbols) (with_sorts w.sorts w.symbols formulas) =
    subst (λ (xs : List Symbol). Admits (with_sorts w.sorts v.symbols formulas) (map (λ symbol. Declare (decl.Symbol symbol)) symbols) (with_sorts w.sorts xs formulas)) (sym extends.symbols.1) (symbols_admit w.sorts v.symbols symbols formulas news few_symbols) in
    let both : Admits (with_sorts v.sorts v.symbols formulas) (map (λ name. Declare (decl.Sort name)) sorts ++ map (λ symbol. Declare (decl.Symbol symbol)) symbols) (with_sorts w.sorts w.symbols formulas) =
    admits_append (with_sorts v.sorts v.symbols formulas) (with_sorts w.sorts v.symbols formulas) (with_sorts w.sorts w.symbols formulas) (map (λ name. Declare (decl.Sort name)) sorts) (map (λ symbol. Declare (decl.Symbol symbol)) symbols) first second in
    let entries_are : map (λ name. Declare (decl.Sort name)) sorts ++ map (λ symbol. Declare (decl.Symbol symbol)) symbols ≡ declarations v w =
    ap (λ (xs : List (List ℕ)). map (λ name. Declare (decl.Sort name)) xs ++ map (λ symbol. Declare (decl.Symbol symbol)) symbols) (sym sorts_are)
    ∙ ap (λ (xs : List Symbol). map (λ name. Declare (decl.Sort name)) (drop (length v.sorts) w.sorts) ++ map (λ symbol. Declare (decl.Symbol symbol)) xs) (sym symbols_are) in
    subst (λ (es : List Entry). Admits (record { vocabulary = v; formulas = formulas }) es (record { vocabulary = w; formulas = formulas })) entries_are both

-- the theory behind the declarations has the longer vocabulary
pub declared_is : (t u : Statements) (w : Vocabulary) → Extends t.vocabulary w → length w.sorts ≤ 65536 → length w.symbols ≤ 16777216 → AreDeclared w → Admits t (declarations t.vocabulary w) u → u ≡ widened t w
declared_is t u w extends most_sorts most_symbols known admits = one_admitted t (declarations t.vocabulary w) u (widened t w) admits (declarations_admit t.vocabulary w t.formulas extends most_sorts most_symbols known)
