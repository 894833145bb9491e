-- The numbers of the lines that a run accepts: each has one, behind all formulas that the run began with, and its
-- formula stands there.
use Rattle.std.proofs.Common.{◌≡◌, ℕ, ◌+◌, ◌-◌, ◌<◌, ◌≤◌, ◌==◌, ◌||◌, ◌⊎◌, inl, inr, Bool, true, false, List, [], ◌∷◌, ◌++◌, length, Option, None, Some, slice_get, slice_set, replicate, refl, sym, ◌∙◌, ap, subst, arith, length-append}
use Rattle.std.proofs.lemmas.Bool.Decides.{nat_tests}
use Rattle.std.proofs.lemmas.List.{length-set, length-replicate}
use Rattle.std.proofs.lemmas.Option.{slice_get_within}
use Rattle.fof_terms.specs.declared.form.Form.{Form}
use Rattle.clause_form.specs.declared.path.Parent.{Parent}
use Rattle.kernel.specs.Statements.{Statements}
use Rattle.kernel.specs.declared.entry.Entry.{Entry}
use Rattle.tstp_graph.specs.Order.{is_taken}
use Rattle.verifier.specs.Lines.{Derivation, Line, LinesStand, IsLineAt, parents_of}
use Rattle.verifier.specs.Report.{AreAccepted}
use Rattle.verifier.specs.Run.{Progress, AreAnswered, IsAnswered, IsRun, begun, with_answered}
use Rattle.verifier.specs.declared.answer.LineAnswer.{LineAnswer}
use Rattle.verifier.specs.declared.answer.LineAnswer.TheVariants.{Accepted, Unverified, Skipped}
use Rattle.verifier.proofs.Counting.{IsAccepted, one_accepted}
use Rattle.verifier.proofs.Derived.{accepted_theory, gained_stays}
use Rattle.verifier.proofs.Slots.{set_here, set_elsewhere, set_cases, last_behind, one_value, in_replicate}
use Rattle.verifier.proofs.Symbols.{Gains}

-- ---- a line at a place is added

module _ (d : Derivation) (p : Progress) (place : ℕ) (form : Form) (u : Statements) (there : slice_get d.forms place ≡ Some form) (gains : Gains p.theory u form) where
  at_last : slice_get u.formulas (length u.formulas - 1) ≡ Some form
  at_last = subst (λ (fs : List Form). slice_get fs (length fs - 1) ≡ Some form) (sym gains.formulas) (last_behind p.theory.formulas gains.before form)

  longer : length p.theory.formulas + 1 ≤ length u.formulas
  longer = omega (arith, ap (λ (fs : List Form). length fs) gains.formulas, length-append p.theory.formulas (gains.before ++ form ∷ []), length-append gains.before (form ∷ []))

  -- all lines that have numbers stand there
  pub stand_more : LinesStand p.theory d.forms p.numbers → LinesStand u d.forms (slice_set p.numbers place (Some (length u.formulas - 1)))
  stand_more stand k n a number is = by (set_cases p.numbers place k (Some (length u.formulas - 1)) (Some n) number)
    where
      by : ((k ≡ place) × (Some n ≡ Some (length u.formulas - 1))) ⊎ (slice_get p.numbers k ≡ Some (Some n)) → slice_get u.formulas n ≡ Some a
      by (inl (here, said)) =
          let n_is : n ≡ length u.formulas - 1 = cc in
          let form_is : form ≡ a = one_value (slice_get d.forms place) form a there (ap (slice_get d.forms) (sym here) ∙ is) in
          ap (slice_get u.formulas) n_is ∙ at_last ∙ ap Some form_is
      by (inr before) = gained_stays p.theory u form n a gains (stand k n a before is)

-- ---- what is known of the numbers behind some lines

-- The theory has the first formulas, so many, and each number is behind these; the lines that have numbers stand there.
pub record IsNumbered (first : ℕ) (d : Derivation) (p : Progress) : Type 0 where
  pub long : first ≤ length p.theory.formulas
  pub behind : (place number : ℕ) → slice_get p.numbers place ≡ Some (Some number) → first ≤ number
  pub stand : LinesStand p.theory d.forms p.numbers
  pub count : length p.numbers ≡ length d.nodes

module _ (first : ℕ) (d : Derivation) where
  numbered_more : (p : Progress) (place : ℕ) (form : Form) (u : Statements) → slice_get d.forms place ≡ Some form → Gains p.theory u form → IsNumbered first d p → IsNumbered first d (with_answered p place u)
  numbered_more p place form u there gains before = record {
    long = omega (arith, before.long, longer d p place form u there gains);
    behind = λ k n number. by k n (set_cases p.numbers place k (Some (length u.formulas - 1)) (Some n) number);
    stand = stand_more d p place form u there gains before.stand;
    count = length-set p.numbers place (Some (length u.formulas - 1)) ∙ before.count;
  }
    where
      by : (k n : ℕ) → ((k ≡ place) × (Some n ≡ Some (length u.formulas - 1))) ⊎ (slice_get p.numbers k ≡ Some (Some n)) → first ≤ n
      by k n (inl (here, said)) = let n_is : n ≡ length u.formulas - 1 = cc in omega (arith, n_is, before.long, longer d p place form u there gains)
      by k n (inr number) = before.behind k n number

  pub answer_numbered : (old : Progress) (place : ℕ) (line : Line) (parents : Option (List Parent)) (answer : LineAnswer) (entries : List Entry) (new : Progress) → IsLineAt d place line → IsAnswered d old place line parents answer entries new → IsNumbered first d old → IsNumbered first d new
  answer_numbered old place line None Skipped entries new there is before = subst (IsNumbered first d) (sym is.1) before
  answer_numbered old place line None (Accepted rule cites) entries new there is before = absurd is
  answer_numbered old place line None (Unverified reason) entries new there is before = absurd is
  answer_numbered old place line (Some parents) Skipped entries new there is before = absurd is
  answer_numbered old place line (Some parents) (Accepted rule cites) entries new there (answers, (theory, admits, is)) before =
      subst (IsNumbered first d) (sym is)
      (numbered_more old place line.form theory there.form (accepted_theory line.node.leaf old.theory theory d line.node.cited parents line.form rule cites entries answers admits) before)
  answer_numbered old place line (Some parents) (Unverified reason) entries new there is before = subst (IsNumbered first d) (sym is.2) before

  pub answers_numbered : (answers : List LineAnswer) (old : Progress) (places : List ℕ) (entries : List Entry) (new : Progress) → AreAnswered d answers old places entries new → IsNumbered first d old → IsNumbered first d new
  answers_numbered answers old [] entries new are before = subst (IsNumbered first d) (sym are.1) before
  answers_numbered answers old (place ∷ places) entries new (own, mid, a, (later, is, rest)) before =
      answers_numbered answers mid places later new rest (answer_numbered old place a.line (parents_of d.given d.forms old.numbers a.line.node.parents) a.answer own mid a.there a.is before)

no_number : (count k n : ℕ) → slice_get (replicate count None) k ≡ Some (Some n) → ⊥
no_number count k n at = let e : Some n ≡ None = in_replicate count k None (Some n) at in cc

pub begun_numbered : (start : Statements) (d : Derivation) → IsNumbered (length start.formulas) d (begun start d)
begun_numbered start d = record {
  long = omega arith;
  behind = λ k n at. absurd (no_number (length d.nodes) k n at);
  stand = λ k n a at there. absurd (no_number (length d.nodes) k n at);
  count = length-replicate (length d.nodes) None;
}

-- behind a whole run
pub run_numbered : (start : Statements) (d : Derivation) (order : List ℕ) (answers : List LineAnswer) (entries : List Entry) (end : Statements) (run : IsRun start d order answers entries end) → IsNumbered (length start.formulas) d (record { theory = end; numbers = run.numbers })
run_numbered start d order answers entries end run = answers_numbered (length start.formulas) d answers (begun start d) order entries (record { theory = end; numbers = run.numbers }) run.answered (begun_numbered start d)

-- ---- each accepted line has a number

-- the line at this place has a number
abbrev pub HasNumber : Progress → ℕ → Type 0
HasNumber p place = (number : ℕ) × (slice_get p.numbers place ≡ Some (Some number))

set_has : (p : Progress) (place : ℕ) (theory : Statements) → place < length p.numbers → HasNumber (with_answered p place theory) place
set_has p place theory within = (length theory.formulas - 1, set_here p.numbers place (Some (length theory.formulas - 1)) within)

set_keeps : (p : Progress) (place k : ℕ) (theory : Statements) → place < length p.numbers → HasNumber p k → HasNumber (with_answered p place theory) k
set_keeps p place k theory within has = by (k == place) refl
  where
    by : (b : Bool) → (k == place) ≡ b → HasNumber (with_answered p place theory) k
    by true test = let same : place ≡ k = grind (arith, nat_tests) in subst (HasNumber (with_answered p place theory)) same (set_has p place theory within)
    by false test =
        let apart : k ≡ place → ⊥ = λ same. grind (arith, nat_tests) in
        (has.0, set_elsewhere p.numbers place k (Some (length theory.formulas - 1)) apart ∙ has.1)

module _ (d : Derivation) where
  answer_keeps : (old : Progress) (place : ℕ) (line : Line) (parents : Option (List Parent)) (answer : LineAnswer) (entries : List Entry) (new : Progress) (k : ℕ) → place < length old.numbers → IsAnswered d old place line parents answer entries new → HasNumber old k → HasNumber new k
  answer_keeps old place line None Skipped entries new k within is has = subst (λ (p : Progress). HasNumber p k) (sym is.1) has
  answer_keeps old place line None (Accepted rule cites) entries new k within is has = absurd is
  answer_keeps old place line None (Unverified reason) entries new k within is has = absurd is
  answer_keeps old place line (Some parents) Skipped entries new k within is has = absurd is
  answer_keeps old place line (Some parents) (Accepted rule cites) entries new k within (answers, (theory, admits, is)) has = subst (λ (p : Progress). HasNumber p k) (sym is) (set_keeps old place k theory within has)
  answer_keeps old place line (Some parents) (Unverified reason) entries new k within is has = subst (λ (p : Progress). HasNumber p k) (sym is.2) has

  answer_has : (old : Progress) (place : ℕ) (line : Line) (parents : Option (List Parent)) (answer : LineAnswer) (entries : List Entry) (new : Progress) → place < length old.numbers → IsAccepted answer → IsAnswered d old place line parents answer entries new → HasNumber new place
  answer_has old place line parents Skipped entries new within good is = absurd good
  answer_has old place line parents (Unverified reason) entries new within good is = absurd good
  answer_has old place line None (Accepted rule cites) entries new within good is = absurd is
  answer_has old place line (Some parents) (Accepted rule cites) entries new within good (answers, (theory, admits, is)) = subst (λ (p : Progress). HasNumber p place) (sym is) (set_has old place theory within)

  module _ (answers : List LineAnswer) where
    answers_keep : (old : Progress) (places : List ℕ) (entries : List Entry) (new : Progress) (k first : ℕ) → IsNumbered first d old → AreAnswered d answers old places entries new → HasNumber old k → HasNumber new k
    answers_keep old [] entries new k first so_far are has = subst (λ (p : Progress). HasNumber p k) (sym are.1) has
    answers_keep old (place ∷ places) entries new k first so_far (own, mid, a, (later, is, rest)) has =
        let parents = parents_of d.given d.forms old.numbers a.line.node.parents in
        let within : place < length old.numbers = omega (arith, so_far.count, slice_get_within d.nodes place a.line.node a.there.node) in
        answers_keep mid places later new k first (answer_numbered first d old place a.line parents a.answer own mid a.there a.is so_far) rest (answer_keeps old place a.line parents a.answer own mid k within a.is has)

    -- where all are accepted, each that is checked has one
    pub all_numbered : (old : Progress) (places : List ℕ) (entries : List Entry) (new : Progress) (k first : ℕ) → AreAccepted answers → IsNumbered first d old → AreAnswered d answers old places entries new → is_taken places k ≡ true → HasNumber new k
    all_numbered old [] entries new k first all so_far are taken = absurd (cc)
    all_numbered old (place ∷ places) entries new k first all so_far (own, mid, a, (later, is, rest)) taken =
        let parents = parents_of d.given d.forms old.numbers a.line.node.parents in
        let next = answer_numbered first d old place a.line parents a.answer own mid a.there a.is so_far in
        let within : place < length old.numbers = omega (arith, so_far.count, slice_get_within d.nodes place a.line.node a.there.node) in
        by (place == k) refl taken (all_numbered mid places later new k first all next rest)
        (answers_keep mid places later new k first next rest) (answer_has old place a.line parents a.answer own mid within (one_accepted answers place a.answer all a.answer_there) a.is)
      where
        by : (b : Bool) → (place == k) ≡ b → (b || is_taken places k) ≡ true → (is_taken places k ≡ true → HasNumber new k) → (HasNumber mid k → HasNumber new k) → HasNumber mid place → HasNumber new k
        by false test taken on keep here = on taken
        by true test taken on keep here = let same : place ≡ k = grind (arith, nat_tests) in keep (subst (HasNumber mid) same here)
