-- The entries of a run declare nothing but the functions of its searches, whose names can be written, so they can be read
-- back from their text.
use Rattle.std.proofs.Common.{◌≡◌, ◌⊎◌, inl, inr, ℕ, ◌+◌, ◌≤◌, Bool, List, [], ◌∷◌, ◌++◌, length, map, Option, None, Some, refl, sym, ap, subst, arith, length-append}
use Rattle.std.specs.List.{AllByRecursion}
use Rattle.tptp_base.specs.Quotable.{IsQuotable}
use Rattle.fof_terms.specs.declared.signature.Kind.{Kind}
use Rattle.fof_terms.specs.declared.signature.Kind.TheVariants.{Function}
use Rattle.fof_terms.specs.declared.signature.Symbol.{Symbol}
use Rattle.fof_terms.specs.declared.form.Form.{Form}
use Rattle.clause_form.specs.declared.path.Parent.{Parent}
use Rattle.kernel.specs.Statements.{Statements}
use Rattle.kernel.specs.Entries.{Admits, After}
use Rattle.kernel.specs.declared.entry.Entry.{Entry}
use Rattle.kernel.specs.declared.entry.Entry.TheVariants.{Declare, Lemma, Name, Choice}
use Rattle.kernel.specs.declared.entry.Decl.{Decl}
use Rattle.kernel.specs.declared.entry.Decl.TheVariants as decl
use Rattle.proof_log.specs.Entries.{HasNoResult}
use Rattle.proof_log.proofs.EntriesFacts.{AreWritable}
use Rattle.derive_kit.proofs.DerivedFacts.{derived_adds}
use Rattle.derive_kit.specs.Derived.{IsDerivedFrom, numbers_of, with_formulas}
use Rattle.elaborate.specs.declared.answer.Rule.{Rule}
use Rattle.elaborate.specs.declared.answer.StepAnswer.TheVariants as step
use Rattle.input_proofs.specs.Functions.{functions_of}
use Rattle.search_proofs.specs.Searched.{IsSearchedFrom, searched_theory}
use Rattle.step_search.proofs.Names.{functions_quotable}
use Rattle.verifier.specs.declared.answer.Verdict.{Verdict}
use Rattle.verifier.specs.declared.answer.Verdict.TheVariants.{Failed, NoFalse, BadClaim, Verified}
use Rattle.verifier.specs.Closing.{Closes}
use Rattle.verifier.specs.Lines.{Derivation, Line, parents_of, sources_of}
use Rattle.verifier.specs.Run.{Progress, AnswersKind, IsAnswered, AreAnswered, IsRun, begun}
use Rattle.verifier.specs.declared.answer.LineAnswer.{LineAnswer}
use Rattle.verifier.specs.declared.answer.LineAnswer.TheVariants.{Accepted, Unverified, Skipped}
use Rattle.verifier.proofs.Derived.{ByARule, ByASearch, kind_ways, searched_adds}

pub writable_both : (first second : List Entry) → AreWritable first → AreWritable second → AreWritable (first ++ second)
writable_both [] second one two = two
writable_both (entry ∷ first) second one two = (one.0, writable_both first second one.1 two)

-- ---- entries that add no sort and no symbol

-- how many sorts and symbols there are
abbrev size : Statements → ℕ
size t = length t.vocabulary.sorts + length t.vocabulary.symbols

declared_more : (t u : Statements) (d : Decl) → After t (Declare d) u → size u ≡ size t + 1
declared_more t u (decl.Sort name) after = (let same = ap size after in omega (arith, same, length-append t.vocabulary.sorts (name ∷ [])))
declared_more t u (decl.Symbol symbol) after = (let same = ap size after in omega (arith, same, length-append t.vocabulary.symbols (symbol ∷ [])))

after_size : (t u : Statements) (e : Entry) → After t e u → size t ≤ size u
after_size t u (Declare d) after = omega (arith, declared_more t u d after)
after_size t u (Lemma p) after = omega (arith, ap size after.2)
after_size t u (Name k a) after = omega (arith, ap size after.2)
after_size t u (Choice k a) after = omega (arith, ap size after.2)

admits_size : (t u : Statements) (entries : List Entry) → Admits t entries u → size t ≤ size u
admits_size t u [] admits = omega (arith, ap size admits)
admits_size t u (e ∷ entries) admits = omega (arith, after_size t admits.1.0 e admits.1.1, admits_size admits.1.0 u entries admits.1.2)

no_more_writable : (t u : Statements) (entries : List Entry) → Admits t entries u → size u ≤ size t → AreWritable entries
no_more_writable t u [] admits few = tt
no_more_writable t u (Declare d ∷ entries) admits few = absurd (omega (arith, declared_more t admits.1.0 d admits.1.1, admits_size admits.1.0 u entries admits.1.2))
no_more_writable t u (Lemma p ∷ entries) admits few = (tt, no_more_writable admits.1.0 u entries admits.1.2 (omega (arith, after_size t admits.1.0 (Lemma p) admits.1.1)))
no_more_writable t u (Name k a ∷ entries) admits few = (tt, no_more_writable admits.1.0 u entries admits.1.2 (omega (arith, after_size t admits.1.0 (Name k a) admits.1.1)))
no_more_writable t u (Choice k a ∷ entries) admits few = (tt, no_more_writable admits.1.0 u entries admits.1.2 (omega (arith, after_size t admits.1.0 (Choice k a) admits.1.1)))

-- ---- the entries of a search

-- entries that are legal in turn are so in two parts
admits_parts : (t : Statements) (first second : List Entry) (u : Statements) → Admits t (first ++ second) u → (mid : Statements) × Admits t first mid × Admits mid second u
admits_parts t [] second u admits = (t, refl, admits)
admits_parts t (e ∷ first) second u (legal, (next, after, rest)) =
    let parts = admits_parts next first second u rest in
    (parts.0, (legal, (next, after, parts.1)), parts.2)

-- the declarations of functions, and how many symbols they add
abbrev functions : List Symbol → List Entry
functions symbols = map (λ symbol. Declare (decl.Symbol symbol)) symbols

no_result : (s : Symbol) → s.kind ≡ Function → HasNoResult s.kind s.result
no_result s is = subst (λ (kind : Kind). HasNoResult kind s.result) (sym is) tt

functions_writable : (symbols : List Symbol) → AllByRecursion (λ s. IsQuotable s.name × (s.kind ≡ Function)) symbols → AreWritable (functions symbols)
functions_writable [] all = tt
functions_writable (s ∷ symbols) all = ((all.0.0, no_result s all.0.1), functions_writable symbols all.1)

functions_size : (t u : Statements) (symbols : List Symbol) → Admits t (functions symbols) u → size u ≡ size t + length symbols
functions_size t u [] admits = omega (arith, ap size admits)
functions_size t u (s ∷ symbols) admits = omega (arith, declared_more t admits.1.0 (decl.Symbol s) admits.1.1, functions_size admits.1.0 u symbols admits.1.2)

searched_writable : (t : Statements) (sources : List Parent) (entries : List Entry) (line : Form) → IsSearchedFrom t sources entries line → AreWritable entries
searched_writable t sources entries line searched =
    let symbols = functions_of t.vocabulary sources line in
    let rest = searched.middle ++ Lemma searched.last ∷ [] in
    let u = searched_theory t sources line (searched.before ++ line ∷ []) in
    let legal : Admits t (functions symbols ++ rest) u = subst (λ (es : List Entry). Admits t es u) searched.is (searched_adds t sources entries line searched).legal in
    let parts = admits_parts t (functions symbols) rest u legal in
    let few : size u ≤ size parts.0 = omega (arith, functions_size t parts.0 symbols parts.1, length-append t.vocabulary.symbols symbols) in
    subst AreWritable (sym searched.is)
    (writable_both (functions symbols) rest (functions_writable symbols (functions_quotable t u sources line rest legal)) (no_more_writable parts.0 u rest parts.2 few))

-- ---- the entries of answers

derived_writable : (t : Statements) (cites : List ℕ) (entries : List Entry) (line : Form) → IsDerivedFrom t cites entries line → AreWritable entries
derived_writable t cites entries line derived = no_more_writable t (with_formulas t (derived.before ++ line ∷ [])) entries (derived_adds t cites entries line derived).legal (omega arith)

accepted_writable : (is_leaf : Bool) (t : Statements) (d : Derivation) (cited : Bool) (parents : List Parent) (form : Form) (rule : Rule) (cites : List ℕ) (entries : List Entry) → AnswersKind is_leaf t d cited parents form (step.Accepted rule cites entries) → AreWritable entries
accepted_writable is_leaf t d cited parents form rule cites entries answers = by (kind_ways is_leaf t d cited parents form rule cites entries answers)
  where
    found_writable : (sources : List Parent) → IsDerivedFrom t (numbers_of sources) entries form ⊎ IsSearchedFrom t sources entries form → AreWritable entries
    found_writable sources (inl derived) = derived_writable t (numbers_of sources) entries form derived
    found_writable sources (inr searched) = searched_writable t sources entries form searched

    by : ByARule is_leaf t d.given cited parents form rule cites entries ⊎ ByASearch is_leaf t d.given cited parents form rule cites entries → AreWritable entries
    by (inl ruled) = derived_writable t cites entries form ruled.derived
    by (inr found) = found_writable (sources_of is_leaf d.given cited parents) found.found

none_writable : (entries : List Entry) → entries ≡ [] → AreWritable entries
none_writable entries is = subst AreWritable (sym is) tt

answer_writable : (d : Derivation) (old : Progress) (place : ℕ) (line : Line) (parents : Option (List Parent)) (answer : LineAnswer) (entries : List Entry) (new : Progress) → IsAnswered d old place line parents answer entries new → AreWritable entries
answer_writable d old place line None Skipped entries new is = none_writable entries is.0
answer_writable d old place line None (Accepted rule cites) entries new is = absurd is
answer_writable d old place line None (Unverified reason) entries new is = absurd is
answer_writable d old place line (Some parents) Skipped entries new is = absurd is
answer_writable d old place line (Some parents) (Accepted rule cites) entries new is = accepted_writable line.node.leaf old.theory d line.node.cited parents line.form rule cites entries is.0
answer_writable d old place line (Some parents) (Unverified reason) entries new is = none_writable entries is.1

pub answers_writable : (d : Derivation) (answers : List LineAnswer) (old : Progress) (places : List ℕ) (entries : List Entry) (new : Progress) → AreAnswered d answers old places entries new → AreWritable entries
answers_writable d answers old [] entries new are = none_writable entries are.0
answers_writable d answers old (place ∷ places) entries new (own, mid, answered, (later, is, rest)) =
    subst AreWritable (sym is) (writable_both own later
    (answer_writable d old place answered.line (parents_of d.given d.forms old.numbers answered.line.node.parents) answered.answer own mid answered.is)
    (answers_writable d answers mid places later new rest))

pub run_writable : (start : Statements) (d : Derivation) (order : List ℕ) (answers : List LineAnswer) (entries : List Entry) (end : Statements) → IsRun start d order answers entries end → AreWritable entries
run_writable start d order answers entries end run = answers_writable d answers (begun start d) order entries (record { theory = end; numbers = run.numbers }) run.answered

-- and the last entries
pub last_writable : (verdict : Verdict) (forms : List Form) (numbers : List (Option ℕ)) (entries : List Entry) → Closes verdict forms numbers entries → AreWritable entries
last_writable (Verified word problem lines) forms numbers entries (number, last, is) = subst AreWritable (sym is) (tt, tt)
last_writable (Failed unverified skipped lines) forms numbers entries is = none_writable entries is
last_writable NoFalse forms numbers entries is = none_writable entries is
last_writable (BadClaim word) forms numbers entries is = none_writable entries is
