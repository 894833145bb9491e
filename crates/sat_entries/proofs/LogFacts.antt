-- All clauses of a log as facts.
use Rattle.std.specs.Prelude.{ℕ, zero, suc, ◌≡◌, ◌+◌, ◌-◌, ◌<◌, ◌≤◌, ◌⊎◌, nat_lt, Bool, true, false, List, [], ◌∷◌, ◌++◌, length, map, take, Some, None, slice_get, get_or, refl}
use Rattle.std.specs.List.{Contains}
use Rattle.std.proofs.Common.{ap, sym, subst, ◌∙◌, arith, inl, inr, append_assoc, append-nil}
use Rattle.std.proofs.lemmas.Bool.Decides.{nat_tests}
use Rattle.std.proofs.Math.Seq.{take-length}
use Rattle.std.proofs.lemmas.List.{length-append, length-map, map-append, take_more}
use Rattle.std.proofs.lemmas.Option.{slice_get-get_or, slice_get_within}
use Rattle.fof_terms.specs.declared.form.Form.{Form}
use Rattle.clause_form.specs.declared.clause.AtomOf.{AtomOf}
use Rattle.clause_form.specs.declared.clause.Lit.{Lit}
use Rattle.chain_proofs.specs.Chains.{AreOver, AreStated, Derives}
use Rattle.chain_proofs.specs.Facts.{not_all_false}
use Rattle.chain_proofs.specs.declared.fact.Fact.{Fact}
use Rattle.clause_learning.specs.Refutations.{HasSame, IsDerived, IsLog, Resolves}
use Rattle.clause_learning.proofs.Members.{got_front, got_in, got_push, head_in, some_same, tail_in}
use Rattle.kernel.specs.declared.proof.Proof.{Proof}
use Rattle.sat_step.specs.Decisions.{entry_of, opposite}
use Rattle.sat_step.specs.declared.decision.Learned.{Learned}
use Rattle.search_proofs.specs.code.Facts.{AreShown, Setting, StandsAt, first_fact}
use Rattle.search_proofs.specs.code.Members.{ShowMore}
use Rattle.search_proofs.proofs.InTurn.{no_more, shown_twice, stands_on}
use Rattle.sat_entries.specs.code.Learning.{AreLearned, AreSorted, FactsHave, FactsStand, IsShown, IsStated}
use Rattle.sat_entries.specs.code.Naming.{IsNamed}

-- what is read from a list with one member more
pub got_push_cases : {X : Type 0} (xs : List X) (y : X) (k : ℕ) (x : X) → slice_get (xs ++ y ∷ []) k ≡ Some x → ((k < length xs) × (slice_get xs k ≡ Some x)) ⊎ ((k ≡ length xs) × (y ≡ x))
got_push_cases xs y k x at = by (nat_lt k (length xs)) refl
  where
    within : k < length xs + 1
    within = let lt = slice_get_within (xs ++ y ∷ []) k x at in let long = length-append xs (y ∷ []) in omega arith

    below : (a b : ℕ) → nat_lt a b ≡ true → a < b
    below a b e = grind (arith, nat_tests)

    not_below : (a b : ℕ) → nat_lt a b ≡ false → b ≤ a
    not_below a b e = grind (arith, nat_tests)

    by : (b : Bool) → nat_lt k (length xs) ≡ b → ((k < length xs) × (slice_get xs k ≡ Some x)) ⊎ ((k ≡ length xs) × (y ≡ x))
    by true e = let lt = below k (length xs) e in inl (lt, sym (got_front xs (y ∷ []) k lt) ∙ at)
    by false e =
        let le = not_below k (length xs) e in
        let lt = within in
        let last : k ≡ length xs = omega arith in
        inr (last, some_same (sym (got_push xs y) ∙ (ap (λ i. slice_get (xs ++ y ∷ []) i) (sym last) ∙ at)))

abbrev lits_of_facts : List Fact → List (List Lit)
lits_of_facts facts = map (λ (f : Fact). f.lits) facts

abbrev lits_of_log : List Learned → List (List Lit)
lits_of_log log = map (λ (e : Learned). e.lits) log

push_stated : (clauses : List (List Lit)) (facts : List Fact) (q : List Lit) (f : Fact) → length clauses ≡ length facts → AreStated clauses facts → HasSame q f.lits → AreStated (clauses ++ q ∷ []) (facts ++ f ∷ [])
push_stated clauses facts q f many all same k r at =
    elim (got_push_cases clauses q k r at) [
      | inl old ↦ let own = all k r old.1 in (own.0, got_front facts (f ∷ []) k (let lt = old.0 in omega arith) ∙ own.1, own.2)
      | inr new ↦ (
        f,
        ap (λ i. slice_get (facts ++ f ∷ []) i) (new.0 ∙ many) ∙ got_push facts f,
        subst (λ (ls : List Lit). HasSame ls f.lits) new.1 same,
      )
    ]

-- the facts of the first clauses, which state these
pub first_stated : (facts : List Fact) → AreStated (lits_of_facts facts) facts
first_stated [] k q at = absurd (let never : None ≡ Some q = at in cc)
first_stated (f ∷ facts) zero q at = (f, refl, let same : f.lits ≡ q = some_same at in subst (λ (ls : List Lit). HasSame ls f.lits) same (λ x. (λ e. e, λ e. e)))
first_stated (f ∷ facts) (suc k) q at = first_stated facts k q at

-- a clause of the log is derived from those before it
pub log_at : (clauses : List (List Lit)) (log : List Learned) (i : ℕ) (e : Learned) → IsLog opposite clauses (map entry_of log) → slice_get log i ≡ Some e → IsDerived opposite (clauses ++ lits_of_log (take i log)) e.from e.lits
log_at clauses [] i e h at = absurd (let never : None ≡ Some e = at in cc)
log_at clauses (d ∷ log) zero e h at =
    let same : d ≡ e = some_same at in
    subst (λ (cs : List (List Lit)). IsDerived opposite cs e.from e.lits) (sym (append-nil clauses)) (subst (λ (x : Learned). IsDerived opposite clauses x.from x.lits) same h.0)
log_at clauses (d ∷ log) (suc i) e h at =
    subst (λ (cs : List (List Lit)). IsDerived opposite cs e.from e.lits) (append_assoc clauses (d.lits ∷ []) (lits_of_log (take i log))) (log_at (clauses ++ d.lits ∷ []) log i e h.1 at)

-- atoms of what is derived are those of what it is derived from
module _ (atoms : List AtomOf) (clauses : List (List Lit)) where
  resolves_over : (p : List Lit) (from : List ℕ) (r : List Lit) → ((k : ℕ) (q : List Lit) → Contains from k → slice_get clauses k ≡ Some q → AreOver atoms q) → AreOver atoms p → Resolves opposite clauses p from r → AreOver atoms r
  resolves_over p [] r all own h x there = own x ((h x).0 there)
  resolves_over p (k ∷ from) r all own h x there = resolves_over h.2 from r (λ j q named at. all j q (tail_in k from j named) at) made h.5 x there
    where
      made : AreOver atoms h.2
      made y own_y = elim ((h.4.literals y).0 own_y) [ inl first ↦ own y first.0 | inr second ↦ all k h.1 (head_in k from) h.3 y second.0 ]

  derived_over : (from : List ℕ) (r : List Lit) → ((k : ℕ) (q : List Lit) → Contains from k → slice_get clauses k ≡ Some q → AreOver atoms q) → IsDerived opposite clauses from r → AreOver atoms r
  derived_over [] r all h = absurd h
  derived_over (k ∷ from) r all h = resolves_over h.0 from r (λ j q there at. all j q (tail_in k from j there) at) (all k h.0 (head_in k from) h.1) h.2

-- a number that the log names, or that of a learned clause
abbrev IsUsed : List Fact → List Learned → ℕ → Type 0
IsUsed facts log k = IsNamed log k ⊎ (length facts ≤ k)

-- the first clauses of the log are learned
pub record IsLearning (start : ℕ) (log : List Learned) (i : ℕ) (first facts : List Fact) (old new : List Proof) : Type 0 where
  pub stated : AreStated (lits_of_facts first ++ lits_of_log (take i log)) facts
  pub count : length facts ≡ length first + i
  pub shows : (s : Setting) (atoms : List AtomOf) → first_fact s ≡ start → AreSorted s atoms → FactsHave atoms first (IsNamed log) → (forms : List Form) → AreShown s old forms → FactsStand s forms first (IsNamed log)
      → (all : List Form) × ShowMore s (IsStated atoms) new forms all × FactsStand s all facts (IsUsed first log) × FactsHave atoms facts (IsUsed first log)

pub none_learned : (start : ℕ) (log : List Learned) (facts : List Fact) (old : List Proof) → IsLearning start log 0 facts facts old old
none_learned start log facts old = record {
  stated = subst (λ (cs : List (List Lit)). AreStated cs facts) (sym (append-nil (lits_of_facts facts))) (first_stated facts);
  count = omega arith;
  shows = λ s atoms starts sorts have forms shown stand. (
    forms,
    no_more s (IsStated atoms) old old forms shown refl,
    (λ k f used at. elim used [ inl named ↦ stand k f named at | inr late ↦ absurd (let lt = slice_get_within facts k f at in omega arith) ]),
    (λ k f used at. elim used [ inl named ↦ have k f named at | inr late ↦ absurd (let lt = slice_get_within facts k f at in omega arith) ]),
  );
}

module _ (start : ℕ) (log : List Learned) (i : ℕ) (first facts : List Fact) (old mid : List Proof) (h : IsLearning start log i first facts old mid) (is_log : IsLog opposite (lits_of_facts first) (map entry_of log)) (e : Learned) (lt : i < length log) (item : e ≡ get_or log i e) where
  at_log : slice_get log i ≡ Some e
  at_log = slice_get-get_or log i e lt ∙ ap (λ (d : Learned). Some d) (sym item)

  own_chain : IsDerived opposite (lits_of_facts first ++ lits_of_log (take i log)) e.from e.lits
  own_chain = log_at (lits_of_facts first) log i e is_log at_log

  pub may_show : (from : List ℕ) → from ≡ e.from → (lits : List Lit) → lits ≡ e.lits → Derives facts from lits
  may_show from from_is lits lits_is = subst (Derives facts from) (sym lits_is) (subst (λ (ks : List ℕ). Derives facts ks e.lits) (sym from_is) (record {
    clauses = lits_of_facts first ++ lits_of_log (take i log);
    derived = e.lits;
    stated = h.stated;
    chain = own_chain;
    within = λ x there. there;
  }))

  named_by : (k : ℕ) → Contains e.from k → IsNamed log k
  named_by k there = (e, got_in log i e at_log, there)

  same_count : length (lits_of_facts first ++ lits_of_log (take i log)) ≡ length facts
  same_count =
      let long = length-append (lits_of_facts first) (lits_of_log (take i log)) in
      let one = length-map first (λ (f : Fact). f.lits) in
      let two = length-map (take i log) (λ (d : Learned). d.lits) in
      let three = taken_count log i lt in
      let all = h.count in
      omega arith
    where
      taken_count : (xs : List Learned) (n : ℕ) → n < length xs → length (take n xs) ≡ n
      taken_count [] n less = absurd (omega arith)
      taken_count (x ∷ xs) zero less = refl
      taken_count (x ∷ xs) (suc n) less = ap suc (taken_count xs n (omega arith))

  pub learned_more : (from : List ℕ) → from ≡ e.from → (lits : List Lit) → lits ≡ e.lits → (fact : Fact) (more : List Fact) (new : List Proof) → IsShown start facts from lits mid new fact → more ≡ facts ++ fact ∷ [] → IsLearning start log (i + 1) first more old new
  learned_more from from_is lits lits_is fact more new shown more_is = subst (λ (fs : List Fact). IsLearning start log (i + 1) first fs old new) (sym more_is) (record {
    stated = subst (λ (cs : List (List Lit)). AreStated cs (facts ++ fact ∷ [])) longer (push_stated (lits_of_facts first ++ lits_of_log (take i log)) facts e.lits fact same_count h.stated (subst (λ (ls : List Lit). HasSame ls fact.lits) lits_is shown.same));
    count = let long = length-append facts (fact ∷ []) in let all = h.count in omega arith;
    shows = goes;
  }) where
    longer : (lits_of_facts first ++ lits_of_log (take i log)) ++ e.lits ∷ [] ≡ lits_of_facts first ++ lits_of_log (take (i + 1) log)
    longer =
        let one : take (i + 1) log ≡ take i log ++ e ∷ [] = take_more log i e lt ∙ ap (λ (d : Learned). take i log ++ d ∷ []) (sym item) in
        append_assoc (lits_of_facts first) (lits_of_log (take i log)) (e.lits ∷ [])
        ∙ ap (λ (cs : List (List Lit)). lits_of_facts first ++ cs) (sym (ap lits_of_log one ∙ map-append (λ (d : Learned). d.lits) (take i log) (e ∷ [])))

    goes : (s : Setting) (atoms : List AtomOf) → first_fact s ≡ start → AreSorted s atoms → FactsHave atoms first (IsNamed log) → (forms : List Form) → AreShown s old forms → FactsStand s forms first (IsNamed log)
        → (all : List Form) × ShowMore s (IsStated atoms) new forms all × FactsStand s all (facts ++ fact ∷ []) (IsUsed first log) × FactsHave atoms (facts ++ fact ∷ []) (IsUsed first log)
    goes s atoms starts sorts have forms was stand =
        let before = h.shows s atoms starts sorts have forms was stand in
        let in_from = λ (k : ℕ) (there : Contains from k). named_by k (subst (λ (ks : List ℕ). Contains ks k) from_is there) in
        let own : AreOver atoms lits = subst (AreOver atoms) (sym lits_is) (derived_over atoms (lits_of_facts first ++ lits_of_log (take i log)) e.from e.lits
        (λ k q there at x own_x. let f = h.stated k q at in before.3 k f.0 (inl (named_by k there)) f.1 x ((f.2 x).1 own_x)) own_chain) in
        let after = shown.shows s atoms starts sorts own (λ k f there at. before.3 k f (inl (in_from k there)) at) before.0 before.1.shown (λ k f there at. before.2 k f (inl (in_from k there)) at) in (
          after.0,
          shown_twice s (IsStated atoms) mid new forms before.0 after.0 before.1 after.1,
          (λ k f used at. elim (got_push_cases facts fact k f at) [
            | inl was_there ↦ stands_on s (IsStated atoms) new before.0 after.0 f.number (not_all_false f.lits) after.1 (before.2 k f used was_there.1)
            | inr new_one ↦ subst (λ (g : Fact). StandsAt s after.0 g.number (not_all_false g.lits)) new_one.1 after.2
          ]),
          (λ k f used at. elim (got_push_cases facts fact k f at) [
            | inl was_there ↦ before.3 k f used was_there.1
            | inr new_one ↦ subst (λ (g : Fact). AreOver atoms g.lits) new_one.1 (λ x there. own x ((shown.same x).0 there))
          ]),
        )

pub all_learned : (start : ℕ) (log : List Learned) (i : ℕ) (first facts : List Fact) (old new : List Proof) → IsLearning start log i first facts old new → length log ≤ i → i ≤ length log → AreLearned start log first facts old new
all_learned start log i first facts old new h le ge =
    let last : i ≡ length log = omega arith in
    let whole : take i log ≡ log = ap (λ n. take n log) last ∙ take-length log in
    record {
      stated = subst (λ (l : List Learned). AreStated (lits_of_facts first ++ lits_of_log l) facts) whole h.stated;
      count = h.count ∙ ap (λ n. length first + n) last;
      shows = λ s atoms starts sorts have forms shown stand.
          let found = h.shows s atoms starts sorts have forms shown stand in
          (found.0, found.1, λ k f late at. found.2 k f (inr late) at);
    }
