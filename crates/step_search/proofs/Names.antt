-- The names of a step's functions have a spelling between single quotes.
use Rattle.std.specs.Prelude.{ℕ, ◌≡◌, ◌+◌, ◌≤◌, ◌<◌, ◌^◌, ◌%◌, ◌&&◌, Bool, true, List, [], ◌∷◌, ◌++◌, codes, decimal, length, map, refl}
use Rattle.std.specs.List.{AllByRecursion, list_all}
use Rattle.std.proofs.Common.{ap, sym, subst, ◌∙◌, arith, inl, inr, ◌⊎◌}
use Rattle.std.proofs.lemmas.Bool.Decides.{nat_tests}
use Rattle.std.proofs.lemmas.Fmt.{decimal_by_steps}
use Rattle.std.proofs.lemmas.List.{length-append, length-map}
use Rattle.std.proofs.lemmas.List.Folds.{list_all-append}
use Rattle.std.proofs.lemmas.List.Sums.{AllPass-from_list_all}
use Rattle.tptp_base.specs.Quotable.{is_printable, IsQuotable}
use Rattle.fof_terms.specs.declared.form.Form.{Form}
use Rattle.fof_terms.specs.declared.signature.Kind.TheVariants.{Function}
use Rattle.fof_terms.specs.declared.signature.Symbol.{Symbol}
use Rattle.clause_form.specs.Paths.{forms_of}
use Rattle.clause_form.specs.declared.path.Parent.{Parent}
use Rattle.clause_form.specs.Norm.{norm_of}
use Rattle.kernel.specs.Entries.{Admits}
use Rattle.kernel.specs.Statements.{Statements}
use Rattle.kernel.specs.declared.entry.Decl.TheVariants as decl
use Rattle.kernel.specs.declared.entry.Entry.{Entry}
use Rattle.kernel.specs.declared.entry.Entry.TheVariants.{Declare}
use Rattle.input_proofs.specs.Functions.{functions_of}
use Rattle.step_clauses.specs.Existentials.{existentials}
use Rattle.step_clauses.specs.Inputs.{next_behind, new_symbols_from, search_symbols, step_forms}
use Rattle.step_clauses.specs.Skolems.{skolems_from, skolems_of}
use Rattle.step_clauses.specs.declared.existentials.Existential.{Existential}
use Rattle.step_clauses.specs.declared.skolems.Skolem.{Skolem}
use Rattle.step_search.proofs.ClauseSuits.{each_of_both, each_mapped}
use Rattle.step_search.proofs.FunctionSorts.{functions_count}

-- Names.
digit_printable : (n : ℕ) → n < 10 → is_printable (48 + n) ≡ true
digit_printable n h = grind (arith, nat_tests)

and_true : (a b : Bool) → a ≡ true → b ≡ true → (a && (b && true)) ≡ true
and_true a b ea eb = rw (ea, eb) refl

decimal_printable : (n : ℕ) → n < 2 ^ 64 → list_all is_printable (decimal n) ≡ true
decimal_printable n few =
    decimal_by_steps (λ (m : ℕ) (ds : List ℕ). list_all is_printable ds ≡ true) (λ m h. and_true true (is_printable (48 + m)) refl (digit_printable m h))
    (λ m ds h e.
    let last : is_printable (48 + m % 10) ≡ true = digit_printable (m % 10) (omega arith) in
    list_all-append is_printable ds ((48 + m % 10) ∷ []) ∙ and_true (list_all is_printable ds) (is_printable (48 + m % 10)) e last)
    n few

quotable : (k : ℕ) → k < 2 ^ 64 → IsQuotable (codes "sk" ++ decimal k)
quotable k few = record { some = omega arith; printable = AllPass-from_list_all is_printable (codes "sk" ++ decimal k) (decimal_printable k few) }

abbrev pub IsNamed : Symbol → Type 0
IsNamed s = IsQuotable s.name × (s.kind ≡ Function)

abbrev NamesOne : Skolem → Type 0
NamesOne k = IsNamed k.symbol

-- Functions.
skolems_named : (k : ℕ) (es : List Existential) → k + length es ≤ 2 ^ 64 → AllByRecursion NamesOne (skolems_from k es)
skolems_named k [] few = tt
skolems_named k (e ∷ es) few = ((quotable k (omega arith), refl), skolems_named (k + 1) es (omega arith))

forms_named : (next : ℕ) (forms : List Form) → next + length (new_symbols_from next forms) ≤ 2 ^ 64 → AllByRecursion NamesOne (new_symbols_from next forms)
forms_named next [] few = tt
forms_named next (a ∷ forms) few =
    let norm = norm_of true a in
    let many = functions_count next a forms in
    each_of_both NamesOne (skolems_of norm next) (new_symbols_from (next_behind next a) forms) (skolems_named next (existentials norm) (omega arith)) (forms_named (next_behind next a) forms (omega arith))

-- Where they are declared there is room for them.
abbrev declare : Symbol → Entry
declare s = Declare (decl.Symbol s)

room_declared : (t u : Statements) (s : Symbol) (symbols : List Symbol) (rest : List Entry) → Admits t (map declare (s ∷ symbols) ++ rest) u → length t.vocabulary.symbols + length (s ∷ symbols) ≤ 16777216
room_declared t u s [] rest admits = let below : length t.vocabulary.symbols < 16777216 = admits.0.0 in omega arith
room_declared t u s (r ∷ symbols) rest admits =
    let next = admits.1.0 in
    let more : length next.vocabulary.symbols ≡ length t.vocabulary.symbols + 1 = ap (λ (x : Statements). length x.vocabulary.symbols) admits.1.1 ∙ length-append t.vocabulary.symbols (s ∷ []) in
    let others = room_declared next u r symbols rest admits.1.2 in
    omega arith

none_or_room : (t u : Statements) (symbols : List Symbol) (rest : List Entry) → Admits t (map declare symbols ++ rest) u → (symbols ≡ []) ⊎ (length t.vocabulary.symbols + length symbols ≤ 16777216)
none_or_room t u [] rest admits = inl refl
none_or_room t u (s ∷ symbols) rest admits = inr (room_declared t u s symbols rest admits)

named_by_room : (count : ℕ) (symbols : List Symbol) → (count + length symbols ≤ 2 ^ 64 → AllByRecursion IsNamed symbols) → (symbols ≡ []) ⊎ (count + length symbols ≤ 16777216) → AllByRecursion IsNamed symbols
named_by_room count symbols named (inl none) = subst (AllByRecursion IsNamed) (sym none) tt
named_by_room count symbols named (inr few) = named (omega arith)

pub functions_quotable : (t u : Statements) (parents : List Parent) (line : Form) (rest : List Entry) → Admits t (map (λ s. Declare (decl.Symbol s)) (functions_of t.vocabulary parents line) ++ rest) u
    → AllByRecursion (λ s. IsQuotable s.name × (s.kind ≡ Function)) (functions_of t.vocabulary parents line)
functions_quotable t u parents line rest admits =
    let count = length t.vocabulary.symbols in
    let skolems = search_symbols count (forms_of parents) line in
    let same : length (functions_of t.vocabulary parents line) ≡ length skolems = length-map skolems (λ (k : Skolem). k.symbol) in
    named_by_room count (functions_of t.vocabulary parents line)
    (λ few. each_mapped IsNamed (λ (k : Skolem). k.symbol) skolems (forms_named count (step_forms (forms_of parents) line) (omega (arith, same, few)))) (none_or_room t u (functions_of t.vocabulary parents line) rest admits)
