-- What entries do not cite: a formula of a theory is cited by nothing that stays legal where a formula stands in its
-- place that no proof can cite, since it is well-sorted in no scope.
use Rattle.std.proofs.Common.{◌≡◌, ◌⊎◌, inl, inr, ℕ, zero, suc, ◌<◌, ◌||◌, Bool, true, false, List, [], ◌∷◌, ◌++◌, length, map, Option, None, Some, slice_get, slice_set, refl, sym, ◌∙◌, ap, subst, arith}
use Rattle.std.specs.List.{All}
use Rattle.std.proofs.lemmas.List.{length-set}
use Rattle.std.proofs.lemmas.List.Elements.{All-nil, All-cons, All-head, All-tail, All-weaker}
use Rattle.std.proofs.lemmas.Option.{slice_get_within}
use Rattle.fof_terms.specs.Vocabulary.{Vocabulary}
use Rattle.fof_terms.proofs.OccursFacts.{occurs_in-Eq, occurs_in_term-Var}
use Rattle.fof_terms.specs.Sorts.{Sorted}
use Rattle.fof_terms.proofs.SortsFacts.{sort_of_term-Var}
use Rattle.fof_terms.proofs.Scoped.{sorted_of_eq}
use Rattle.fof_terms.specs.declared.term.Term.{Var}
use Rattle.fof_terms.specs.declared.form.Form.{Form, Eq, Not}
use Rattle.clause_form.specs.declared.path.Parent.{Parent}
use Rattle.kernel.specs.Statements.{Statements}
use Rattle.kernel.specs.Entries.{Admits, Legal}
use Rattle.kernel.specs.Proves.{Proves, ProvesAll, ProvesEach, all_over}
use Rattle.kernel.specs.declared.entry.Decl.{Decl}
use Rattle.kernel.specs.declared.entry.Entry.{Entry}
use Rattle.kernel.specs.declared.entry.Entry.TheVariants.{Declare, Lemma, Name, Choice}
use Rattle.kernel.specs.declared.proof.Proof.{Proof, Line as Cited, Hyp, AndI', AndE', OrI', OrE', ImpI', ImpE', NotI', NotE', Raa', IffI', IffL', IffR', AllI', AllE', ExI', ExE', Refl, Subst', Inhabit', Row_of-Proof, end_of-Proof, more_of-Proof}
use Rattle.derive_kit.specs.Derived.{HasCited, IsDerivedFrom, numbers_of}
use Rattle.elaborate.specs.declared.answer.Rule.{Rule}
use Rattle.elaborate.specs.declared.answer.StepAnswer.TheVariants as step
use Rattle.verifier.specs.declared.answer.Verdict.{Verdict}
use Rattle.verifier.specs.declared.answer.Verdict.TheVariants.{Failed, NoFalse, BadClaim, Verified}
use Rattle.verifier.specs.Citing.{Spares, SparesAll, DoesNotCite, DoNotCite}
use Rattle.verifier.specs.Marks.{is_marked, some_marked, answer_cites_marked, cites_marked}
use Rattle.verifier.specs.Closing.{Closes, IsFalseLine}
use Rattle.search_proofs.specs.Searched.{IsSearchedFrom}
use Rattle.verifier.specs.Lines.{Derivation, Line, parents_of, sources_of}
use Rattle.verifier.specs.Run.{Progress, AnswersLine, AreAnswered, IsAnswered, IsRun, begun}
use Rattle.verifier.specs.Symbols.{IsAbsent}
use Rattle.verifier.specs.declared.answer.LineAnswer.{LineAnswer}
use Rattle.verifier.specs.declared.answer.LineAnswer.TheVariants.{Accepted, Unverified, Skipped}
use Rattle.verifier.proofs.Derived.{ByARule, ByASearch, after_stays, formula_stays, kind_ways}
use Rattle.verifier.proofs.Numbers.{run_numbered}
use Rattle.verifier.proofs.Running.{place_admits}
use Rattle.verifier.proofs.Slots.{set_elsewhere, set_here, has_value}

of_one : {X : Type 0} (x y : X) → Some x ≡ Some y → x ≡ y
of_one x y is = cc

-- well-sorted in no scope, since no scope has so many variables
abbrev unsorted : Form
unsorted = Eq (Var 2147483647) (Var 2147483647)

never_sorted : (w : Vocabulary) (v : List ℕ) → Sorted w v unsorted → ⊥
never_sorted w v sorted =
    let sort = sorted_of_eq w v 2147483647 (Var 2147483647) (Var 2147483647) sorted in
    let at : slice_get v 2147483647 ≡ Some sort.0 = sym (sort_of_term-Var w v 2147483647) ∙ sort.1 in
    omega (arith, slice_get_within v 2147483647 sort.0 at, sorted.scope_fits.few_variables)

module _ (t : Statements) (n : ℕ) (there : slice_get t.formulas n ≡ Some unsorted) where
  mutual
    unfolding Proves ProvesAll ProvesEach Spares SparesAll

    -- what a proof shows with that formula at the number, it shows without citing it
    pub shown_spares : (v : List ℕ) (h : List Form) (p : Proof) (a : Form) → Proves t v h p a → Spares n p
    shown_spares v h (Cited i) a w = λ same. never_sorted t.vocabulary v (subst (Sorted t.vocabulary v) (of_one a unsorted (sym w.1 ∙ ap (slice_get t.formulas) same ∙ there)) w.0)
    shown_spares v h (Hyp i) a w = tt
    shown_spares v h (AndI' u ps) a w = all_spare v h ps w.1.0 w.1.2
    shown_spares v h (AndE' k u (more_of-Proof p end_of-Proof)) a w = shown_spares v h p _ w.1.1
    shown_spares v h (OrI' as_ k u (more_of-Proof p end_of-Proof)) a w = shown_spares v h p _ w.2.2
    shown_spares v h (OrE' goal u (more_of-Proof p end_of-Proof) x qs) a w = (shown_spares v h p _ w.2.1, each_spares v h qs w.2.0 a w.2.2)
    shown_spares v h (ImpI' b u (more_of-Proof p end_of-Proof)) a w = shown_spares v (b ∷ h) p _ w.1.2
    shown_spares v h (ImpE' u (more_of-Proof p end_of-Proof) x (more_of-Proof q end_of-Proof)) a w = (shown_spares v h p _ w.1.1, shown_spares v h q _ w.1.2)
    shown_spares v h (NotI' b u (more_of-Proof p end_of-Proof)) a w = shown_spares v (b ∷ h) p _ w.2
    shown_spares v h (NotE' u (more_of-Proof p end_of-Proof) x (more_of-Proof q end_of-Proof)) a w = (shown_spares v h p _ w.2.1, shown_spares v h q _ w.2.2)
    shown_spares v h (Raa' goal u (more_of-Proof p end_of-Proof)) a w = shown_spares v (Not a ∷ h) p _ w.2
    shown_spares v h (IffI' b c u (more_of-Proof p end_of-Proof) x (more_of-Proof q end_of-Proof)) a w = (shown_spares v (b ∷ h) p _ w.2, shown_spares v (c ∷ h) q _ w.3)
    shown_spares v h (IffL' u (more_of-Proof p end_of-Proof) x (more_of-Proof q end_of-Proof)) a w = (shown_spares v h p _ w.1.1, shown_spares v h q _ w.1.2)
    shown_spares v h (IffR' u (more_of-Proof p end_of-Proof) x (more_of-Proof q end_of-Proof)) a w = (shown_spares v h p _ w.1.1, shown_spares v h q _ w.1.2)
    shown_spares v h (AllI' s u (more_of-Proof p end_of-Proof)) a w = shown_spares (s ∷ v) (all_over h) p _ w.1.2
    shown_spares v h (AllE' x u (more_of-Proof p end_of-Proof)) a w = shown_spares v h p _ w.1.2
    shown_spares v h (ExI' s b x u (more_of-Proof p end_of-Proof)) a w = shown_spares v h p _ w.4
    shown_spares v h (ExE' goal u (more_of-Proof p end_of-Proof) x (more_of-Proof q end_of-Proof)) a w = (shown_spares v h p _ w.2.2, shown_spares (w.2.0 ∷ v) (w.2.1 ∷ all_over h) q _ w.2.3)
    shown_spares v h (Refl x) a w = tt
    shown_spares v h (Subst' s b u (more_of-Proof p end_of-Proof) x (more_of-Proof q end_of-Proof)) a w = (shown_spares v h p _ w.2.2, shown_spares v h q _ w.2.4)
    shown_spares v h (Inhabit' s goal u (more_of-Proof p end_of-Proof)) a w = shown_spares (s ∷ v) (all_over h) p _ w.2

    all_spare : {m : _} (v : List ℕ) (h : List Form) (row : Row_of-Proof m) (bs : List Form) → ProvesAll t v h row bs → SparesAll n row
    all_spare v h end_of-Proof [] w = tt
    all_spare v h end_of-Proof (b ∷ bs) w = absurd w
    all_spare v h (more_of-Proof p ps) [] w = absurd w
    all_spare v h (more_of-Proof p ps) (b ∷ bs) w = (shown_spares v h p b w.0, all_spare v h ps bs w.1)

    each_spares : {m : _} (v : List ℕ) (h : List Form) (row : Row_of-Proof m) (bs : List Form) (a : Form) → ProvesEach t v h row bs a → SparesAll n row
    each_spares v h end_of-Proof [] a w = tt
    each_spares v h end_of-Proof (b ∷ bs) a w = absurd w
    each_spares v h (more_of-Proof p ps) [] a w = absurd w
    each_spares v h (more_of-Proof p ps) (b ∷ bs) a w = (shown_spares v (b ∷ h) p a w.0, each_spares v h ps bs a w.1)

-- ---- entries

legal_spares : (t : Statements) (n : ℕ) (e : Entry) → slice_get t.formulas n ≡ Some unsorted → Legal t e → DoesNotCite n e
legal_spares t n (Declare decl) there legal = tt
legal_spares t n (Lemma p) there legal = shown_spares t n there [] [] p legal.0 legal.1
legal_spares t n (Name k a) there legal = tt
legal_spares t n (Choice k a) there legal = tt

admitted_spare : (t : Statements) (n : ℕ) (es : List Entry) (u : Statements) → slice_get t.formulas n ≡ Some unsorted → Admits t es u → DoNotCite n es
admitted_spare t n [] u there admits = tt
admitted_spare t n (e ∷ es) u there admits = (legal_spares t n e there admits.0, admitted_spare admits.1.0 n es u (after_stays t admits.1.0 e n unsorted admits.1.1 there) admits.1.2)

all_set : {X : Type 0} (P : X → Type 0) (xs : List X) (i : ℕ) (x : X) → All P xs → P x → All P (slice_set xs i x)
all_set P [] i x all here = all
all_set P (y ∷ xs) zero x all here = All-cons P x xs here (All-tail P y xs all)
all_set P (y ∷ xs) (suc i) x all here = All-cons P y (slice_set xs i x) (All-head P y xs all) (all_set P xs i x (All-tail P y xs all) here)

absent : (k : ℕ) → IsAbsent k unsorted
absent k = rw (occurs_in-Eq, occurs_in_term-Var) refl

-- the theory with that formula at the number
abbrev replaced : Statements → ℕ → Statements
replaced t n = record t { formulas = slice_set t.formulas n unsorted }

keeps_cited : (t : Statements) (n : ℕ) (cites : List ℕ) → All (λ cited. cited ≡ n → ⊥) cites → HasCited t cites (replaced t n)
keeps_cited t n cites apart = record {
  vocabulary = refl;
  count = length-set t.formulas n unsorted;
  formulas = All-weaker (λ cited. cited ≡ n → ⊥) (λ k. slice_get (slice_set t.formulas n unsorted) k ≡ slice_get t.formulas k) (λ k other. set_elsewhere t.formulas n k unsorted other) cites apart;
  fresh = λ k fresh. all_set (IsAbsent k) t.formulas n unsorted fresh (absent k);
}

-- entries that derive a line cite no formula of the theory but those that are said
pub derived_spare : (t : Statements) (cites : List ℕ) (entries : List Entry) (line : Form) (n : ℕ) → IsDerivedFrom t cites entries line → n < length t.formulas → All (λ cited. cited ≡ n → ⊥) cites → DoNotCite n entries
derived_spare t cites entries line n derived within apart = admitted_spare (replaced t n) n entries _ (set_here t.formulas n unsorted within) (derived.adds (replaced t n) (keeps_cited t n cites apart)).legal

-- so do those of a search
searched_spare : (t : Statements) (sources : List Parent) (entries : List Entry) (line : Form) (n : ℕ) → IsSearchedFrom t sources entries line → n < length t.formulas → All (λ cited. cited ≡ n → ⊥) (numbers_of sources) → DoNotCite n entries
searched_spare t sources entries line n searched within apart = admitted_spare (replaced t n) n entries _ (set_here t.formulas n unsorted within) (searched.adds (replaced t n) (keeps_cited t n (numbers_of sources) apart)).legal

-- and so those of an accepted line
pub line_spares : (t : Statements) (d : Derivation) (line : Line) (parents : List Parent) (rule : Rule) (cites : List ℕ) (entries : List Entry) (n : ℕ) → AnswersLine t d line parents (step.Accepted rule cites entries) → n < length t.formulas → All (λ cited. cited ≡ n → ⊥) cites → DoNotCite n entries
line_spares t d line parents rule cites entries n answers within apart = by (kind_ways line.node.leaf t d line.node.cited parents line.form rule cites entries answers)
  where
    found_spare : (sources : List Parent) → cites ≡ numbers_of sources → IsDerivedFrom t (numbers_of sources) entries line.form ⊎ IsSearchedFrom t sources entries line.form → DoNotCite n entries
    found_spare sources are (inl derived) = derived_spare t (numbers_of sources) entries line.form n derived within (subst (All (λ cited. cited ≡ n → ⊥)) are apart)
    found_spare sources are (inr searched) = searched_spare t sources entries line.form n searched within (subst (All (λ cited. cited ≡ n → ⊥)) are apart)

    by : ByARule line.node.leaf t d.given line.node.cited parents line.form rule cites entries ⊎ ByASearch line.node.leaf t d.given line.node.cited parents line.form rule cites entries → DoNotCite n entries
    by (inl ruled) = derived_spare t cites entries line.form n ruled.derived within apart
    by (inr found) = found_spare (sources_of line.node.leaf d.given line.node.cited parents) found.cites_are found.found

pub both_spare : (n : ℕ) (first second : List Entry) → DoNotCite n first → DoNotCite n second → DoNotCite n (first ++ second)
both_spare n [] second one two = two
both_spare n (entry ∷ first) second one two = (one.0, both_spare n first second one.1 two)

none_spare : (n : ℕ) (entries : List Entry) → entries ≡ [] → DoNotCite n entries
none_spare n entries is = subst (DoNotCite n) (sym is) tt

pub declarations_spare : {X : Type 0} (n : ℕ) (declares : X → Decl) (xs : List X) → DoNotCite n (map (λ x. Declare (declares x)) xs)
declarations_spare n declares [] = tt
declarations_spare n declares (x ∷ xs) = (tt, declarations_spare n declares xs)

-- ---- marks

pub or_false : (a b : Bool) → (a || b) ≡ false → (a ≡ false) × (b ≡ false)
or_false true b is = absurd (cc)
or_false false b is = (refl, is)

-- where none of the numbers is marked, a number that is marked is none of them
unmarked_apart : (marks : List Bool) (n : ℕ) (numbers : List ℕ) → is_marked marks n ≡ true → some_marked marks numbers ≡ false → All (λ cited. cited ≡ n → ⊥) numbers
unmarked_apart marks n [] marked none = All-nil (λ cited. cited ≡ n → ⊥)
unmarked_apart marks n (k ∷ numbers) marked none =
    let parts = or_false (is_marked marks k) (some_marked marks numbers) none in
    All-cons (λ cited. cited ≡ n → ⊥) k numbers (λ same. let both : true ≡ false = sym marked ∙ ap (is_marked marks) (sym same) ∙ parts.0 in cc) (unmarked_apart marks n numbers marked parts.1)

-- where no answer cites what is marked, none of them does
pub one_unmarked : (marks : List Bool) (answers : List LineAnswer) (k : ℕ) (a : LineAnswer) → cites_marked marks answers ≡ false → slice_get answers k ≡ Some a → answer_cites_marked marks a ≡ false
one_unmarked marks [] k a none at = absurd (cc)
one_unmarked marks (x ∷ answers) zero a none at = let same : x ≡ a = cc in ap (answer_cites_marked marks) (sym same) ∙ (or_false (answer_cites_marked marks x) (cites_marked marks answers) none).0
one_unmarked marks (x ∷ answers) (suc k) a none at = one_unmarked marks answers k a (or_false (answer_cites_marked marks x) (cites_marked marks answers) none).1 at

spares_line : (n number : ℕ) → (number ≡ n → ⊥) → DoesNotCite n (Lemma (Cited number))
unfolding Spares
spares_line n number apart = apart

-- ---- runs

module _ (d : Derivation) (marks : List Bool) (n : ℕ) (marked : is_marked marks n ≡ true) where
  -- the entries of an answer that cites nothing marked
  answer_spares : (old : Progress) (place : ℕ) (line : Line) (parents : Option (List Parent)) (answer : LineAnswer) (entries : List Entry) (new : Progress) → IsAnswered d old place line parents answer entries new → n < length old.theory.formulas → answer_cites_marked marks answer ≡ false → DoNotCite n entries
  answer_spares old place line None Skipped entries new is within none = none_spare n entries is.0
  answer_spares old place line None (Accepted rule cites) entries new is within none = absurd is
  answer_spares old place line None (Unverified reason) entries new is within none = absurd is
  answer_spares old place line (Some parents) Skipped entries new is within none = absurd is
  answer_spares old place line (Some parents) (Accepted rule cites) entries new is within none =
      line_spares old.theory d line parents rule cites entries n is.0 within (unmarked_apart marks n cites marked none)
  answer_spares old place line (Some parents) (Unverified reason) entries new is within none = none_spare n entries is.1

  module _ (answers : List LineAnswer) (none : cites_marked marks answers ≡ false) where
    answers_spare : (old : Progress) (places : List ℕ) (entries : List Entry) (new : Progress) → AreAnswered d answers old places entries new → n < length old.theory.formulas → DoNotCite n entries
    answers_spare old [] entries new are within = none_spare n entries are.0
    answers_spare old (place ∷ places) entries new (own, mid, a, (later, is, rest)) within =
        let here = has_value old.theory.formulas n within in
        let still : n < length mid.theory.formulas = slice_get_within mid.theory.formulas n here.0 (formula_stays old.theory own mid.theory n here.0 (place_admits d answers old place own mid a) here.1) in
        subst (DoNotCite n) (sym is)
        (both_spare n own later
        (answer_spares old place a.line (parents_of d.given d.forms old.numbers a.line.node.parents) a.answer own mid a.is within (one_unmarked marks answers place a.answer none a.answer_there))
        (answers_spare mid places later new rest still))

-- the entries of a run, and the last one, cite nothing that is given and marked, where no line cites it
pub run_spares : (start : Statements) (d : Derivation) (order : List ℕ) (answers : List LineAnswer) (entries : List Entry) (end : Statements) (verdict : Verdict) (last : List Entry) (marks : List Bool) (n : ℕ) → (run : IsRun start d order answers entries end) → Closes verdict d.forms run.numbers last
    → cites_marked marks answers ≡ false → n < length start.formulas → is_marked marks n ≡ true → DoNotCite n (entries ++ last)
run_spares start d order answers entries end verdict last marks n run closes none within marked =
    both_spare n entries last (answers_spare d marks n marked answers none (begun start d) order entries (record { theory = end; numbers = run.numbers }) run.answered within) (closing verdict closes)
  where
    apart : (number : ℕ) → IsFalseLine d.forms run.numbers number → number ≡ n → ⊥
    apart number line same = omega (arith, same, within, (run_numbered start d order answers entries end run).behind line.place number line.numbered)

    closing : (verdict : Verdict) → Closes verdict d.forms run.numbers last → DoNotCite n last
    closing (Verified word problem lines) (number, is_last, is) = subst (DoNotCite n) (sym is) (spares_line n number (apart number is_last.is), tt)
    closing (Failed unverified skipped lines) is = none_spare n last is
    closing NoFalse is = none_spare n last is
    closing (BadClaim word) is = none_spare n last is
