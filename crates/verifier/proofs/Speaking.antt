-- Which symbols stand in the theory behind a run.
use Rattle.std.proofs.Common.{◌≡◌, ◌↔◌, ℕ, ◌<◌, ◌==◌, ◌||◌, Bool, true, false, List, [], ◌∷◌, length, Option, None, Some, slice_get, refl, sym, ◌∙◌, ap, subst, arith}
use Rattle.std.specs.List.{All}
use Rattle.std.proofs.lemmas.Bool.Decides.{nat_tests}
use Rattle.kernel.specs.Statements.{Statements}
use Rattle.kernel.specs.Entries.{IsFresh}
use Rattle.kernel.specs.declared.entry.Entry.{Entry}
use Rattle.clause_form.specs.declared.path.Parent.{Parent}
use Rattle.elaborate.specs.declared.answer.Rule.{Rule}
use Rattle.tstp_graph.specs.Order.{is_taken}
use Rattle.verifier.specs.Lines.{Derivation, Line, parents_of}
use Rattle.verifier.specs.Run.{Progress, AreAnswered, IsAnswered, IsRun, begun}
use Rattle.verifier.specs.Symbols.{IsAbsent, IsInNoAccepted, IsUnusedIn}
use Rattle.verifier.specs.declared.answer.LineAnswer.{LineAnswer}
use Rattle.verifier.specs.declared.answer.LineAnswer.TheVariants.{Accepted, Unverified, Skipped}
use Rattle.verifier.proofs.Counting.{IsAccepted}
use Rattle.verifier.proofs.Derived.{accepted_theory}
use Rattle.verifier.proofs.Slots.{one_value}
use Rattle.verifier.proofs.Symbols.{gained_fresh, gained_still}

module _ (d : Derivation) (old : Progress) (place : ℕ) (line : Line) (entries : List Entry) (new : Progress) (k : ℕ) where
  -- what is new behind a line was new before it, and does not stand in the line if that is accepted
  answered_fresh : (parents : Option (List Parent)) (answer : LineAnswer) → IsAnswered d old place line parents answer entries new → IsFresh k new.theory → IsFresh k old.theory × (IsAccepted answer → IsAbsent k line.form)
  answered_fresh None Skipped is fresh = (subst (λ (p : Progress). IsFresh k p.theory) is.1 fresh, λ good. absurd good)
  answered_fresh None (Accepted rule cites) is fresh = absurd is
  answered_fresh None (Unverified reason) is fresh = absurd is
  answered_fresh (Some parents) Skipped is fresh = absurd is
  answered_fresh (Some parents) (Accepted rule cites) (answers, (theory, admits, is)) fresh =
      let parts =
      gained_fresh old.theory theory line.form k (accepted_theory line.node.leaf old.theory theory d line.node.cited parents line.form rule cites entries answers admits) (subst (λ (p : Progress). IsFresh k p.theory) is fresh) in
      (parts.0, λ good. parts.1)
  answered_fresh (Some parents) (Unverified reason) is fresh = (subst (λ (p : Progress). IsFresh k p.theory) is.2 fresh, λ good. absurd good)

  -- what was new before a line, and does not stand in it if it is accepted, is new behind it
  answered_still : (parents : Option (List Parent)) (answer : LineAnswer) → IsAnswered d old place line parents answer entries new → k < length old.theory.vocabulary.symbols → IsFresh k old.theory → (IsAccepted answer → IsAbsent k line.form) → IsFresh k new.theory
  answered_still None Skipped is known fresh absent = subst (λ (p : Progress). IsFresh k p.theory) (sym is.1) fresh
  answered_still None (Accepted rule cites) is known fresh absent = absurd is
  answered_still None (Unverified reason) is known fresh absent = absurd is
  answered_still (Some parents) Skipped is known fresh absent = absurd is
  answered_still (Some parents) (Accepted rule cites) (answers, (theory, admits, is)) known fresh absent =
      subst (λ (p : Progress). IsFresh k p.theory) (sym is)
      (gained_still old.theory theory line.form k known (accepted_theory line.node.leaf old.theory theory d line.node.cited parents line.form rule cites entries answers admits) fresh (absent tt))
  answered_still (Some parents) (Unverified reason) is known fresh absent = subst (λ (p : Progress). IsFresh k p.theory) (sym is.2) fresh

  -- no symbol of the theory is lost
  answered_known : (parents : Option (List Parent)) (answer : LineAnswer) → IsAnswered d old place line parents answer entries new → k < length old.theory.vocabulary.symbols → k < length new.theory.vocabulary.symbols
  answered_known None Skipped is known = subst (λ (p : Progress). k < length p.theory.vocabulary.symbols) (sym is.1) known
  answered_known None (Accepted rule cites) is known = absurd is
  answered_known None (Unverified reason) is known = absurd is
  answered_known (Some parents) Skipped is known = absurd is
  answered_known (Some parents) (Accepted rule cites) (answers, (theory, admits, is)) known =
      let gains = accepted_theory line.node.leaf old.theory theory d line.node.cited parents line.form rule cites entries answers admits in
      let longer : k < length theory.vocabulary.symbols = omega (arith, known, gains.longer) in
      subst (λ (p : Progress). k < length p.theory.vocabulary.symbols) (sym is) longer
  answered_known (Some parents) (Unverified reason) is known = subst (λ (p : Progress). k < length p.theory.vocabulary.symbols) (sym is.2) known

found_taken : (place : ℕ) (places : List ℕ) → is_taken (place ∷ places) place ≡ true
found_taken place places = by (place == place) refl
  where
    by : (b : Bool) → (place == place) ≡ b → (b || is_taken places place) ≡ true
    by true test = refl
    by false test = absurd (grind (arith, nat_tests))

taken_behind : (place q : ℕ) (places : List ℕ) → is_taken places q ≡ true → is_taken (place ∷ places) q ≡ true
taken_behind place q places taken = by (place == q)
  where
    by : (b : Bool) → (b || is_taken places q) ≡ true
    by true = refl
    by false = taken

accepted_as : (answer said : LineAnswer) → answer ≡ said → IsAccepted said → IsAccepted answer
accepted_as answer said is good = subst IsAccepted (sym is) good

-- the answer is that the line is accepted by some rule
rule_of : (answer : LineAnswer) → IsAccepted answer → (rule : Rule) × (cites : List ℕ) × (answer ≡ Accepted rule cites)
rule_of (Accepted rule cites) good = (rule, cites, refl)
rule_of (Unverified reason) good = absurd good
rule_of Skipped good = absurd good

-- what is new behind a run was new before it, and stands in none of its accepted lines
run_fresh : (d : Derivation) (answers : List LineAnswer) (old : Progress) (places : List ℕ) (entries : List Entry) (new : Progress) (k : ℕ) → AreAnswered d answers old places entries new → IsFresh k new.theory → IsFresh k old.theory × IsInNoAccepted k d.forms places answers
run_fresh d answers old [] entries new k are fresh = (subst (λ (p : Progress). IsFresh k p.theory) are.1 fresh, λ place a rule cites taken there answer. absurd (cc))
run_fresh d answers old (place ∷ places) entries new k (own, mid, a, (later, is, rest)) fresh =
    let behind = run_fresh d answers mid places later new k rest fresh in
    let here = answered_fresh d old place a.line own mid k (parents_of d.given d.forms old.numbers a.line.node.parents) a.answer a.is behind.0 in
    (here.0, absent here.1 behind.1)
  where
    absent : (IsAccepted a.answer → IsAbsent k a.line.form) → IsInNoAccepted k d.forms places answers → IsInNoAccepted k d.forms (place ∷ places) answers
    absent here behind q form rule cites taken there answer = by (place == q) refl taken
      where
        by : (b : Bool) → (place == q) ≡ b → (b || is_taken places q) ≡ true → IsAbsent k form
        by false test more = behind q form rule cites more there answer
        by true test more =
            let same : q ≡ place = grind (arith, nat_tests) in
            let form_is : a.line.form ≡ form = one_value (slice_get d.forms place) a.line.form form a.there.form (ap (slice_get d.forms) (sym same) ∙ there) in
            let said : a.answer ≡ Accepted rule cites = one_value (slice_get answers place) a.answer (Accepted rule cites) a.answer_there (ap (slice_get answers) (sym same) ∙ answer) in
            subst (IsAbsent k) form_is (here (accepted_as a.answer (Accepted rule cites) said tt))

-- what was new before a run, and stands in none of its accepted lines, is new behind it
run_still : (d : Derivation) (answers : List LineAnswer) (old : Progress) (places : List ℕ) (entries : List Entry) (new : Progress) (k : ℕ) → AreAnswered d answers old places entries new → k < length old.theory.vocabulary.symbols → IsFresh k old.theory → IsInNoAccepted k d.forms places answers → IsFresh k new.theory
run_still d answers old [] entries new k are known fresh absent = subst (λ (p : Progress). IsFresh k p.theory) (sym are.1) fresh
run_still d answers old (place ∷ places) entries new k (own, mid, a, (later, is, rest)) known fresh absent =
    run_still d answers mid places later new k rest
    (answered_known d old place a.line own mid k (parents_of d.given d.forms old.numbers a.line.node.parents) a.answer a.is known)
    (answered_still d old place a.line own mid k (parents_of d.given d.forms old.numbers a.line.node.parents) a.answer a.is known fresh here)
    (λ q form rule cites taken there answer. absent q form rule cites (taken_behind place q places taken) there answer)
  where
    here : IsAccepted a.answer → IsAbsent k a.line.form
    here good = let by = rule_of a.answer good in absent place a.line.form by.0 by.1 (found_taken place places) a.there.form (a.answer_there ∙ ap (λ (x : LineAnswer). Some x) by.2)

-- of the symbols that a run begins with, those of the theory behind it are those of what is given and of the accepted
-- lines
pub run_speaks : (start : Statements) (d : Derivation) (order : List ℕ) (answers : List LineAnswer) (entries : List Entry) (end : Statements) (k : ℕ) → start.formulas ≡ d.given → k < length start.vocabulary.symbols → IsRun start d order answers entries end → IsFresh k end ↔ IsUnusedIn k d order answers
run_speaks start d order answers entries end k given known run = (forth, back)
  where
    forth : IsFresh k end → IsUnusedIn k d order answers
    forth fresh = let parts = run_fresh d answers (begun start d) order entries (record { theory = end; numbers = run.numbers }) k run.answered fresh in (subst (All (IsAbsent k)) given parts.0, parts.1)

    back : IsUnusedIn k d order answers → IsFresh k end
    back unused = run_still d answers (begun start d) order entries (record { theory = end; numbers = run.numbers }) k run.answered known (subst (All (IsAbsent k)) (sym given) unused.0) unused.1
