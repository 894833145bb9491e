-- The formulas of the lines of a text are closed and well-sorted.
use Rattle.std.proofs.Common.{◌≡◌, ℕ, ◌+◌, ◌<◌, ◌≤◌, ◌==◌, ◌||◌, ◌&&◌, Bool, true, false, cond, List, [], ◌∷◌, ◌++◌, length, map, take, Option, Some, None, Result, Ok, Err, IfOk, OnOk, refl, sym, ◌∙◌, subst, arith}
use Rattle.std.specs.List.{AllByRecursion, list_any}
use Rattle.std.proofs.lemmas.List.{length-map, length-take}
use Rattle.std.proofs.lemmas.List.Elements.{All-from_recursion}
use Rattle.tptp_base.specs.declared.limit.LimitName.TheVariants.{Symbols, Sorts}
use Rattle.tptp_base.specs.declared.surface.Surface.{Surface}
use Rattle.tptp_base.specs.declared.surface.SortName.{SortName}
use Rattle.tptp_base.specs.declared.surface.SortName.TheVariants as name
use Rattle.tptp_base.specs.declared.surface.Quant.TheVariants as q
use Rattle.tptp_base.specs.declared.item.Lang.{Lang}
use Rattle.tptp_base.specs.declared.item.Lang.TheVariants as lang
use Rattle.tptp_base.specs.declared.item.Shape.{Shape}
use Rattle.tptp_base.specs.declared.item.Shape.TheVariants as shape
use Rattle.tptp_base.specs.declared.item.Body.{Body}
use Rattle.tptp_base.specs.declared.item.Body.TheVariants as body
use Rattle.tptp_base.specs.declared.item.Annotated.{Annotated}
use Rattle.tptp_base.specs.declared.item.Item.{Item}
use Rattle.tptp_base.specs.declared.item.Item.TheVariants as it
use Rattle.fof_terms.specs.Vocabulary.{Vocabulary, IsDeclared, found_sort, found_symbol}
use Rattle.fof_terms.specs.Sorts.{is_sorted, binder_depth}
use Rattle.fof_terms.proofs.SortLawsFacts.{grown_sorted}
use Rattle.fof_terms.specs.declared.signature.Symbol.{Symbol}
use Rattle.fof_terms.specs.declared.form.Form.{Form}
use Rattle.sort_check.specs.declared.fault.SortRule.{SortRule}
use Rattle.sort_check.specs.declared.fault.SortRule.TheVariants.{FreeVariable, Variables, Redeclared, TwoConjectures, Limit}
use Rattle.sort_check.specs.declared.fault.SortFault.{SortFault}
use Rattle.sort_check.specs.declared.line.Line.{Line}
use Rattle.sort_check.specs.declared.line.TextKind.{TextKind}
use Rattle.sort_check.specs.declared.scope.Variable.{Variable}
use Rattle.sort_check.specs.Outcomes.{Outcome, and_then, mapped, each}
use Rattle.sort_check.specs.Symbols.{Text, named_sort, with_symbol, known, with_name}
use Rattle.sort_check.specs.Denotation.{State, denoted_form, closed, variables_of, each_once, clause_scope, without_count, outermost, sentence, clause, formula}
use Rattle.sort_check.specs.Texts.{Declared, sort_at, declared_sort, symbol_named, symbol_of, result_named, result_kind, differs, found_or_added, declared_symbol, declaring, typed, typed_body, at_line, type_item, type_lines, Reading, is_conjecture, is_single, line_of, reading, is_by_place, body_form, line_form, line, line_item, with_line, lines_from, only_vocabulary, denoted, Gives}
use Rattle.tptp_base.specs.Roles.{is_typing}
use Rattle.sort_check.specs.Sorting.{IsSentence, AreSorted, Extends}
use Rattle.sort_check.proofs.Stepping.{at_ok, then_ok, mapped_ok}
use Rattle.sort_check.proofs.TermSorts.{grows_not, grows_on, sort_added, symbol_added}
use Rattle.sort_check.proofs.FormSorts.{forms_fit, closed_fits, closed_depth, found_sort_below}

-- ---- the variables of a clause are individuals, and at most 250

pub record AreIndividuals (found : List Variable) : Type 0 where
  pub sorts : AllByRecursion (λ (x : Variable). x.sort ≡ 0) found
  pub few : length found ≤ 250

abbrev individual : Text → Variable
individual name = record { name = name; sort = 0 }

individuals : (names : List Text) → AllByRecursion (λ (x : Variable). x.sort ≡ 0) (map (λ name. record { name = name; sort = 0 }) names)
individuals [] = tt
individuals (name ∷ names) = (refl, individuals names)

scope_fits : (f : Surface) → AreIndividuals (clause_scope f)
scope_fits f = record {
  sorts = individuals (take 250 (each_once (variables_of f)));
  few = omega (arith, length-map (take 250 (each_once (variables_of f))) individual, length-take 250 (each_once (variables_of f)));
}

individuals_known : (v : Vocabulary) (found : List Variable) → 0 < length v.sorts → AllByRecursion (λ (x : Variable). x.sort ≡ 0) found → AllByRecursion (λ (x : Variable). x.sort < length v.sorts) found
individuals_known v [] some all = tt
individuals_known v (x ∷ found) some all = (omega (arith, some, all.0), individuals_known v found some all.1)

-- ---- whole formulas

-- The formula is closed and well-sorted, and the vocabulary only grew.
pub record IsWhole (v w : Vocabulary) (a : Form) : Type 0 where
  pub grows : Extends v w
  pub sorted : IsSentence w a

whole : (v w : Vocabulary) (a : Form) → Extends v w → binder_depth a ≤ 500 → is_sorted w [] a ≡ true → IsWhole v w a
whole v w a grows depth fits = record {
  grows = grows;
  sorted = record { scope_fits = record { few_variables = omega arith; sorts_exist = tt }; few_binders = omega (arith, depth); fits = fits };
}

pub counted_ok : (o : Outcome SortRule State Form) (a : Form) (w : Vocabulary) → without_count o ≡ Ok (a, w) → (t : State) × (o ≡ Ok (a, t)) × (t.vocabulary ≡ w)
counted_ok (Err x) a w e = absurd (cc)
counted_ok (Ok p) a w e = at_ok {E = SortRule} (λ b u. (t : State) × (◌≡◌ {A = Outcome SortRule State Form} (Ok p) (Ok (b, t))) × (t.vocabulary ≡ u)) p.0 a p.1.vocabulary w e (p.1, refl, refl)

sentence_fits : (by_place : Bool) (names : List Text) (f : Surface) (v w : Vocabulary) (a : Form) → 0 < length v.sorts → sentence by_place names f v ≡ Ok (a, w) → IsWhole v w a
sentence_fits by_place names f v w a some e =
    let here = outermost by_place names FreeVariable in
    let start : State = record { vocabulary = v; bound = 0 } in
    let inner = counted_ok (denoted_form here f [] start) a w e in
    let good = forms_fit f here [] start inner.0 a some inner.1 in
    let few : inner.0.bound ≤ 250 = good.few (omega arith) in
    subst (λ (u : Vocabulary). IsWhole v u a) inner.2 (whole v inner.0.vocabulary a good.grows (omega (arith, good.depth, few)) good.fits)

clause_fits : (by_place : Bool) (names : List Text) (f : Surface) (v w : Vocabulary) (a : Form) → 0 < length v.sorts → clause by_place names f v ≡ Ok (a, w) → IsWhole v w a
clause_fits by_place names f v w a some e =
    let here = outermost by_place names Variables in
    let start : State = record { vocabulary = v; bound = 0 } in
    let scope = clause_scope f in
    let vars = scope_fits f in
    let last = mapped_ok (closed q.All scope) (without_count (denoted_form here f scope start)) a w e in
    let inner = counted_ok (denoted_form here f scope start) last.0 w last.1 in
    let good = forms_fit f here scope start inner.0 last.0 some inner.1 in
    let few : inner.0.bound ≤ 250 = good.few (omega arith) in
    let deep : binder_depth (closed q.All scope last.0) ≤ 500 = omega (arith, closed_depth q.All scope last.0, good.depth, few, vars.few) in
    let known = individuals_known inner.0.vocabulary scope (omega (arith, some, good.grows.grows.more_sorts)) vars.sorts in
    let fits : is_sorted inner.0.vocabulary [] (closed q.All scope last.0) ≡ true = closed_fits q.All scope [] inner.0.vocabulary last.0 known good.fits in
    subst (λ (u : Vocabulary). IsWhole v u a) inner.2 (subst (IsWhole v inner.0.vocabulary) last.2 (whole v inner.0.vocabulary (closed q.All scope last.0) good.grows deep fits))

formula_fits : (by_place : Bool) (l : Lang) (names : List Text) (f : Surface) (v w : Vocabulary) (a : Form) → 0 < length v.sorts → formula by_place l names f v ≡ Ok (a, w) → IsWhole v w a
formula_fits by_place lang.Cnf names f v w a some e = clause_fits by_place names f v w a some e
formula_fits by_place lang.Fof names f v w a some e = sentence_fits by_place names f v w a some e
formula_fits by_place lang.Tff names f v w a some e = sentence_fits by_place names f v w a some e
formula_fits by_place lang.Tcf names f v w a some e = sentence_fits by_place names f v w a some e

-- ---- the lines of other roles

abbrev IsLineFit : Vocabulary → Option Line → Type 0
IsLineFit v None = Unit {0}
IsLineFit v (Some l) = IsSentence v l.form

-- What an item gives is well-sorted.
pub record IsItemFit (v w : Vocabulary) (found : Option Line) : Type 0 where
  pub grows : Extends v w
  pub fits : IsLineFit w found

abbrev ReadingOutcome : Type 0
ReadingOutcome = Outcome SortRule Reading Form

body_fits : (kind : TextKind) (names : List Text) (l : Annotated) (b : Body) (v w : Vocabulary) (a : Form) → 0 < length v.sorts → body_form kind names l b v ≡ Ok (a, w) → IsWhole v w a
body_fits kind names l (body.Logic f) v w a some e = formula_fits (is_by_place kind) l.lang names f v w a some e
body_fits kind names l (body.Typing t) v w a some e = absurd (cc)

pub reading_ok : (conjectured : Bool) (o : Outcome SortRule Vocabulary Form) (a : Form) (t : Reading) → reading conjectured o ≡ Ok (a, t) → o ≡ Ok (a, t.vocabulary)
reading_ok conjectured (Err x) a t e = absurd (cc)
reading_ok conjectured (Ok p) a t e = at_ok {E = SortRule} (λ b (u : Reading). ◌≡◌ {A = Outcome SortRule Vocabulary Form} (Ok p) (Ok (b, u.vocabulary))) p.0 a (record { vocabulary = p.1; conjectured = conjectured }) t e refl

line_form_fits : (kind : TextKind) (names : List Text) (l : Annotated) (s t : Reading) (a : Form) → 0 < length s.vocabulary.sorts → line_form kind names l s ≡ Ok (a, t) → IsWhole s.vocabulary t.vocabulary a
line_form_fits kind names l s t a some e = by (is_single kind && (is_conjecture l.role && s.conjectured)) e
  where
    by : (b : Bool) → cond b (Err TwoConjectures) (reading (is_conjecture l.role || s.conjectured) (body_form kind names l l.body s.vocabulary)) ≡ Ok (a, t) → IsWhole s.vocabulary t.vocabulary a
    by true k = absurd (cc)
    by false k = body_fits kind names l l.body s.vocabulary t.vocabulary a some (reading_ok (is_conjecture l.role || s.conjectured) (body_form kind names l l.body s.vocabulary) a t k)

pub at_line_ok : {S A : Type 0} (l : Annotated) (o : Outcome SortRule S A) (x : A) (t : S) → at_line l o ≡ Ok (x, t) → o ≡ Ok (x, t)
at_line_ok {S = S} {A = A} l (Ok p) x t e = at_ok {E = SortFault} (λ y u. ◌≡◌ {A = Outcome SortRule S A} (Ok p) (Ok (y, u))) p.0 x p.1 t e refl
at_line_ok l (Err r) x t e = absurd (cc)

line_fits : (kind : TextKind) (names : List Text) (number : ℕ) (l : Annotated) (s t : Reading) (found : Option Line) → 0 < length s.vocabulary.sorts → line kind names number l s ≡ Ok (found, t) → IsItemFit s.vocabulary t.vocabulary found
line_fits kind names number l s t found some e = by (is_typing l.role) e
  where
    nothing : IsItemFit s.vocabulary s.vocabulary None
    nothing = record { grows = grows_not s.vocabulary; fits = tt }

    by : (b : Bool) → ◌≡◌ {A = Outcome SortFault Reading (Option Line)} (cond b (Ok (None, s)) (at_line l (mapped (λ form. Some (line_of number l form)) (line_form kind names l s)))) (Ok (found, t)) → IsItemFit s.vocabulary t.vocabulary found
    by true k = at_ok {E = SortFault} (λ x (u : Reading). IsItemFit s.vocabulary u.vocabulary x) None found s t k nothing
    by false k =
        let some_line : Form → Option Line = λ form. Some (line_of number l form) in
        let inner = mapped_ok some_line (line_form kind names l s) found t (at_line_ok l (mapped some_line (line_form kind names l s)) found t k) in
        let good = line_form_fits kind names l s t inner.0 some inner.1 in
        subst (IsItemFit s.vocabulary t.vocabulary) inner.2 (record { grows = good.grows; fits = good.sorted })

item_fits : (kind : TextKind) (names : List Text) (number : ℕ) (i : Item) (s t : Reading) (found : Option Line) → 0 < length s.vocabulary.sorts → line_item kind names number i s ≡ Ok (found, t) → IsItemFit s.vocabulary t.vocabulary found
item_fits kind names number (it.Formula l) s t found some e = line_fits kind names number l s t found some e
item_fits kind names number (it.Comment text) s t found some e = at_ok {E = SortFault} (λ x (u : Reading). IsItemFit s.vocabulary u.vocabulary x) None found s t e (record { grows = grows_not s.vocabulary; fits = tt })
item_fits kind names number (it.Include i) s t found some e = at_ok {E = SortFault} (λ x (u : Reading). IsItemFit s.vocabulary u.vocabulary x) None found s t e (record { grows = grows_not s.vocabulary; fits = tt })

abbrev LinesFit : Vocabulary → List Line → Type 0
LinesFit v lines = AllByRecursion (λ (l : Line). IsSentence v l.form) lines

-- What items give is well-sorted.
pub record AreItemsFit (v w : Vocabulary) (lines : List Line) : Type 0 where
  pub grows : Extends v w
  pub fits : LinesFit w lines

with_fits : (v w : Vocabulary) → Extends v w → (found : Option Line) (lines : List Line) → IsLineFit v found → LinesFit w lines → LinesFit w (with_line found lines)
with_fits v w grows None lines one all = all
with_fits v w grows (Some l) lines one all = (grown_sorted v w grows.grows 500 [] l.form one, all)

lines_fit : (kind : TextKind) (names : List Text) (number : ℕ) (items : List Item) (s t : Reading) (lines : List Line) → 0 < length s.vocabulary.sorts → lines_from kind names number items s ≡ Ok (lines, t) → AreItemsFit s.vocabulary t.vocabulary lines
lines_fit kind names number [] s t lines some e = at_ok {E = SortFault} (λ (ls : List Line) (u : Reading). AreItemsFit s.vocabulary u.vocabulary ls) [] lines s t e (record { grows = grows_not s.vocabulary; fits = tt })
lines_fit kind names number (i ∷ items) s t lines some e =
    let parts = then_ok (line_item kind names number i s) (λ found u. mapped (with_line found) (lines_from kind names (number + 1) items u)) lines t e in
    let one = item_fits kind names number i s parts.1 parts.0 some parts.2 in
    let more = mapped_ok (with_line parts.0) (lines_from kind names (number + 1) items parts.1) lines t parts.3 in
    let rest = lines_fit kind names (number + 1) items parts.1 t more.0 (omega (arith, some, one.grows.grows.more_sorts)) more.1 in
    subst (AreItemsFit s.vocabulary t.vocabulary) more.2 (record {
      grows = grows_on s.vocabulary parts.1.vocabulary t.vocabulary one.grows rest.grows;
      fits = with_fits parts.1.vocabulary t.vocabulary rest.grows parts.0 more.0 one.fits rest.fits;
    })

-- ---- type lines

sort_grows : (word : Text) (o : Option ℕ) (v w : Vocabulary) (n : ℕ) → sort_at word o v ≡ Ok (n, w) → Extends v w
sort_grows word (Some number) v w n e = at_ok {E = SortRule} (λ (m : ℕ) u. Extends v u) number n v w e (grows_not v)
sort_grows word None v w n e = by (length v.sorts == 65536) e
  where
    by : (b : Bool) → ◌≡◌ {A = Outcome SortRule Vocabulary ℕ} (cond b (Err (Limit Sorts)) (Ok (length v.sorts, record v { sorts = v.sorts ++ word ∷ [] }))) (Ok (n, w)) → Extends v w
    by true k = absurd (cc)
    by false k = at_ok {E = SortRule} (λ (m : ℕ) u. Extends v u) (length v.sorts) n (record v { sorts = v.sorts ++ word ∷ [] }) w k (sort_added v word)

symbol_grows : (s : Symbol) (v w : Vocabulary) (n : ℕ) → (0 < length v.sorts → IsDeclared (length v.sorts) s) → with_symbol s v ≡ Ok (n, w) → Extends v w
symbol_grows s v w n fits e = by (length v.symbols == 16777216) e
  where
    by : (b : Bool) → ◌≡◌ {A = Outcome SortRule Vocabulary ℕ} (cond b (Err (Limit Symbols)) (Ok (length v.symbols, record v { symbols = v.symbols ++ s ∷ [] }))) (Ok (n, w)) → Extends v w
    by true k = absurd (cc)
    by false k = at_ok {E = SortRule} (λ (m : ℕ) u. Extends v u) (length v.symbols) n (record v { symbols = v.symbols ++ s ∷ [] }) w k (symbol_added v s fits)

declared_grows : (s : Symbol) (v w : Vocabulary) (n : ℕ) → (0 < length v.sorts → IsDeclared (length v.sorts) s) → declared_symbol s v ≡ Ok (n, w) → Extends v w
declared_grows s v w n fits e = by (list_any (differs s) v.symbols) e
  where
    at : (o : Option ℕ) → found_or_added s o v ≡ Ok (n, w) → Extends v w
    at (Some number) k = at_ok {E = SortRule} (λ (m : ℕ) u. Extends v u) number n v w k (grows_not v)
    at None k = symbol_grows s v w n fits k

    by : (b : Bool) → cond b (Err Redeclared) (found_or_added s (found_symbol v s.name s.kind (length s.args)) v) ≡ Ok (n, w) → Extends v w
    by true k = absurd (cc)
    by false k = at (found_symbol v s.name s.kind (length s.args)) k

-- sorts that are looked up leave the vocabulary as it is
pub named_same : (sort : SortName) (v w : Vocabulary) (n : ℕ) → named_sort sort v ≡ Ok (n, w) → w ≡ v
named_same name.Individual v w n e = at_ok {E = SortRule} (λ (m : ℕ) u. u ≡ v) 0 n v w e refl
named_same name.Truth v w n e = absurd (cc)
named_same (name.Word word) v w n e = by (found_sort v word) e
  where
    by : (o : Option ℕ) → known o v ≡ Ok (n, w) → w ≡ v
    by None k = absurd (cc)
    by (Some m) k = at_ok {E = SortRule} (λ (j : ℕ) u. u ≡ v) m n v w k refl

sorts_same : (args : List SortName) (place : ℕ) (v w : Vocabulary) (found : List ℕ) → each (λ p. named_sort) place args v ≡ Ok (found, w) → w ≡ v
sorts_same [] place v w found e = at_ok {E = SortRule} (λ (ns : List ℕ) u. u ≡ v) [] found v w e refl
sorts_same (arg ∷ args) place v w found e =
    let parts = then_ok (named_sort arg v) (λ y u. mapped (λ ys. y ∷ ys) (each (λ p. named_sort) (place + 1) args u)) found w e in
    let more = mapped_ok (λ (ys : List ℕ). parts.0 ∷ ys) (each (λ p. named_sort) (place + 1) args parts.1) found w parts.3 in
    sorts_same args (place + 1) parts.1 w more.0 more.1 ∙ named_same arg v parts.1 parts.0 parts.2

result_same : (sort : SortName) (v w : Vocabulary) (n : ℕ) → result_named sort v ≡ Ok (n, w) → w ≡ v
result_same name.Truth v w n e = at_ok {E = SortRule} (λ (m : ℕ) u. u ≡ v) 0 n v w e refl
result_same name.Individual v w n e = at_ok {E = SortRule} (λ (m : ℕ) u. u ≡ v) 0 n v w e refl
result_same (name.Word word) v w n e = named_same (name.Word word) v w n e

pub symbol_same : (word : Text) (args : List SortName) (result : SortName) (v w : Vocabulary) (s : Symbol) → symbol_named word args result v ≡ Ok (s, w) → w ≡ v
symbol_same word args result v w s e =
    let parts = then_ok (each (λ p. named_sort) 0 args v) (λ sorts u. mapped (symbol_of word (result_kind result) sorts) (result_named result u)) s w e in
    let inner = mapped_ok (symbol_of word (result_kind result) parts.0) (result_named result parts.1) s w parts.3 in
    result_same result parts.1 w inner.0 inner.1 ∙ sorts_same args 0 v parts.1 parts.0 parts.2

-- sorts that are looked up are there
named_there : (sort : SortName) (v w : Vocabulary) (n : ℕ) → 0 < length v.sorts → named_sort sort v ≡ Ok (n, w) → n < length v.sorts
named_there name.Individual v w n some e = at_ok {E = SortRule} (λ (m : ℕ) u. m < length v.sorts) 0 n v w e some
named_there name.Truth v w n some e = absurd (cc)
named_there (name.Word word) v w n some e = by (found_sort v word) refl e
  where
    by : (o : Option ℕ) → found_sort v word ≡ o → known o v ≡ Ok (n, w) → n < length v.sorts
    by None is k = absurd (cc)
    by (Some m) is k = at_ok {E = SortRule} (λ (j : ℕ) u. j < length v.sorts) m n v w k (found_sort_below v word m is)

sorts_there : (args : List SortName) (place : ℕ) (v w : Vocabulary) (found : List ℕ) → 0 < length v.sorts → each (λ p. named_sort) place args v ≡ Ok (found, w) → AllByRecursion (λ (a : ℕ). a < length v.sorts) found
sorts_there [] place v w found some e = at_ok {E = SortRule} (λ (ns : List ℕ) u. AllByRecursion (λ (a : ℕ). a < length v.sorts) ns) [] found v w e tt
sorts_there (arg ∷ args) place v w found some e =
    let parts = then_ok (named_sort arg v) (λ y u. mapped (λ ys. y ∷ ys) (each (λ p. named_sort) (place + 1) args u)) found w e in
    let more = mapped_ok (λ (ys : List ℕ). parts.0 ∷ ys) (each (λ p. named_sort) (place + 1) args parts.1) found w parts.3 in
    let same = named_same arg v parts.1 parts.0 parts.2 in
    let rest = sorts_there args (place + 1) parts.1 w more.0 (subst (λ (u : Vocabulary). 0 < length u.sorts) (sym same) some) more.1 in
    subst (AllByRecursion (λ (a : ℕ). a < length v.sorts)) more.2 (named_there arg v parts.1 parts.0 some parts.2, subst (λ (u : Vocabulary). AllByRecursion (λ (a : ℕ). a < length u.sorts) more.0) same rest)

result_there : (sort : SortName) (v w : Vocabulary) (n : ℕ) → 0 < length v.sorts → result_named sort v ≡ Ok (n, w) → n < length v.sorts
result_there name.Truth v w n some e = at_ok {E = SortRule} (λ (m : ℕ) u. m < length v.sorts) 0 n v w e some
result_there name.Individual v w n some e = at_ok {E = SortRule} (λ (m : ℕ) u. m < length v.sorts) 0 n v w e some
result_there (name.Word word) v w n some e = named_there (name.Word word) v w n some e

-- the sorts of a symbol that a type line declares are there
symbol_there : (word : Text) (args : List SortName) (result : SortName) (v w : Vocabulary) (s : Symbol) → symbol_named word args result v ≡ Ok (s, w) → 0 < length v.sorts → IsDeclared (length v.sorts) s
symbol_there word args result v w s e some =
    let parts = then_ok (each (λ p. named_sort) 0 args v) (λ sorts u. mapped (symbol_of word (result_kind result) sorts) (result_named result u)) s w e in
    let inner = mapped_ok (symbol_of word (result_kind result) parts.0) (result_named result parts.1) s w parts.3 in
    let same = sorts_same args 0 v parts.1 parts.0 parts.2 in
    let last : inner.0 < length parts.1.sorts = result_there result parts.1 w inner.0 (subst (λ (u : Vocabulary). 0 < length u.sorts) (sym same) some) inner.1 in
    subst (IsDeclared (length v.sorts)) inner.2 (record {
      args = All-from_recursion (λ (a : ℕ). a < length v.sorts) parts.0 (sorts_there args 0 v parts.1 parts.0 some parts.2);
      result = subst (λ (u : Vocabulary). inner.0 < length u.sorts) same last;
    })

fits_there : (word : Text) (args : List SortName) (result : SortName) (v w : Vocabulary) (s : Symbol) → symbol_named word args result v ≡ Ok (s, w) → 0 < length w.sorts → IsDeclared (length w.sorts) s
fits_there word args result v w s e some =
    let same = symbol_same word args result v w s e in
    subst (λ (u : Vocabulary). IsDeclared (length u.sorts) s) (sym same) (symbol_there word args result v w s e (subst (λ (u : Vocabulary). 0 < length u.sorts) same some))

pub declaring_ok : (names : List Text) (o : Outcome SortRule Vocabulary ℕ) (done : Unit {0}) (d : Declared) → declaring names o ≡ Ok (done, d) → (n : ℕ) × (o ≡ Ok (n, d.vocabulary))
declaring_ok names (Err x) done d e = absurd (cc)
declaring_ok names (Ok p) done d e = at_ok {E = SortRule} (λ (k : Unit {0}) (u : Declared). (n : ℕ) × (◌≡◌ {A = Outcome SortRule Vocabulary ℕ} (Ok p) (Ok (n, u.vocabulary)))) tt done (record { vocabulary = p.1; names = names }) d e (p.0, refl)

typed_grows : (word : Text) (s : Shape) (d e : Declared) (done : Unit {0}) → typed word s d ≡ Ok (done, e) → Extends d.vocabulary e.vocabulary
typed_grows word shape.Sort d e done k =
    let inner = declaring_ok d.names (declared_sort word d.vocabulary) done e k in
    sort_grows word (found_sort d.vocabulary word) d.vocabulary e.vocabulary inner.0 inner.1
typed_grows word (shape.Symbol args result) d e done k =
    let inner = declaring_ok (with_name word d.names) (and_then (symbol_named word args result d.vocabulary) declared_symbol) done e k in
    let parts = then_ok (symbol_named word args result d.vocabulary) declared_symbol inner.0 e.vocabulary inner.1 in
    subst (λ (u : Vocabulary). Extends u e.vocabulary) (symbol_same word args result d.vocabulary parts.1 parts.0 parts.2) (declared_grows parts.0 parts.1 e.vocabulary inner.0 (fits_there word args result d.vocabulary parts.1 parts.0 parts.2) parts.3)

body_grows : (b : Body) (d e : Declared) (done : Unit {0}) → typed_body b d ≡ Ok (done, e) → Extends d.vocabulary e.vocabulary
body_grows (body.Typing t) d e done k = typed_grows t.name t.shape d e done k
body_grows (body.Logic f) d e done k = absurd (cc)

type_item_grows : (i : Item) (d e : Declared) (done : Unit {0}) → type_item i d ≡ Ok (done, e) → Extends d.vocabulary e.vocabulary
type_item_grows (it.Comment text) d e done k = at_ok {E = SortFault} (λ (u : Unit {0}) (f : Declared). Extends d.vocabulary f.vocabulary) tt done d e k (grows_not d.vocabulary)
type_item_grows (it.Include i) d e done k = at_ok {E = SortFault} (λ (u : Unit {0}) (f : Declared). Extends d.vocabulary f.vocabulary) tt done d e k (grows_not d.vocabulary)
type_item_grows (it.Formula l) d e done k = by (is_typing l.role) k
  where
    by : (b : Bool) → ◌≡◌ {A = Outcome SortFault Declared (Unit {0})} (cond b (at_line l (typed_body l.body d)) (Ok (tt, d))) (Ok (done, e)) → Extends d.vocabulary e.vocabulary
    by true m = body_grows l.body d e done (at_line_ok l (typed_body l.body d) done e m)
    by false m = at_ok {E = SortFault} (λ (u : Unit {0}) (f : Declared). Extends d.vocabulary f.vocabulary) tt done d e m (grows_not d.vocabulary)

type_lines_grow : (items : List Item) (d e : Declared) (done : Unit {0}) → type_lines items d ≡ Ok (done, e) → Extends d.vocabulary e.vocabulary
type_lines_grow [] d e done k = at_ok {E = SortFault} (λ (u : Unit {0}) (f : Declared). Extends d.vocabulary f.vocabulary) tt done d e k (grows_not d.vocabulary)
type_lines_grow (i ∷ items) d e done k =
    let parts = then_ok (type_item i d) (λ u f. type_lines items f) done e k in
    grows_on d.vocabulary parts.1.vocabulary e.vocabulary (type_item_grows i d parts.1 parts.0 parts.2) (type_lines_grow items parts.1 e done parts.3)

-- ---- the whole text

pub only_ok : (o : Outcome SortFault Reading (List Line)) (lines : List Line) (w : Vocabulary) → only_vocabulary o ≡ Ok (lines, w) → (t : Reading) × (o ≡ Ok (lines, t)) × (t.vocabulary ≡ w)
only_ok (Err x) lines w e = absurd (cc)
only_ok (Ok p) lines w e = at_ok {E = SortFault} (λ ls u. (t : Reading) × (◌≡◌ {A = Outcome SortFault Reading (List Line)} (Ok p) (Ok (ls, t))) × (t.vocabulary ≡ u)) p.0 lines p.1.vocabulary w e (p.1, refl, refl)

-- the lines are closed and well-sorted in the vocabulary behind the text, which only grew
pub text_fits : (items : List Item) (v w : Vocabulary) (kind : TextKind) (lines : List Line) → 0 < length v.sorts → denoted items v kind ≡ Ok (lines, w) → Extends v w × AreSorted w lines
text_fits items v w kind lines some e =
    let start : Declared = record { vocabulary = v; names = [] } in
    let parts = then_ok (type_lines items start) (λ done d. only_vocabulary (lines_from kind d.names 0 items (record { vocabulary = d.vocabulary; conjectured = false }))) lines w e in
    let grew = type_lines_grow items start parts.1 parts.0 parts.2 in
    let inner = only_ok (lines_from kind parts.1.names 0 items (record { vocabulary = parts.1.vocabulary; conjectured = false })) lines w parts.3 in
    let good = lines_fit kind parts.1.names 0 items (record { vocabulary = parts.1.vocabulary; conjectured = false }) inner.0 lines (omega (arith, some, grew.grows.more_sorts)) inner.1 in
    subst (λ (u : Vocabulary). Extends v u × AreSorted u lines) inner.2
    (grows_on v parts.1.vocabulary inner.0.vocabulary grew good.grows, All-from_recursion (λ (l : Line). IsSentence inner.0.vocabulary l.form) lines good.fits)

pub text_extends : (items : List Item) (v w : Vocabulary) (kind : TextKind) (result : Result (List Line) SortFault) → 0 < length v.sorts → Gives (denoted items v kind) result w → OnOk result (Extends v w)
text_extends items v w kind (Ok lines) some given = (text_fits items v w kind lines some given).0
text_extends items v w kind (Err fault) some given = tt

pub text_sorted : (items : List Item) (v w : Vocabulary) (kind : TextKind) (result : Result (List Line) SortFault) → 0 < length v.sorts → Gives (denoted items v kind) result w → IfOk result (AreSorted w)
text_sorted items v w kind (Ok lines) some given = (text_fits items v w kind lines some given).1
text_sorted items v w kind (Err fault) some given = tt
