-- All facts of a refutation, falsehood at last.
use Rattle.std.specs.Prelude.{ℕ, zero, suc, ◌≡◌, ◌+◌, ◌-◌, ◌<◌, ◌≤◌, ◌⊎◌, Bool, List, [], ◌∷◌, ◌++◌, length, map, Option, Some, None, slice_get, get_or, refl}
use Rattle.std.specs.List.{Contains}
use Rattle.std.proofs.Common.{ap, sym, subst, ◌∙◌, arith, inl, inr, append_assoc}
use Rattle.std.proofs.lemmas.List.{length-append, length-map, map-append}
use Rattle.std.proofs.lemmas.Option.{slice_get-get_or, slice_get_within}
use Rattle.fof_terms.specs.Sorts.{Sorted}
use Rattle.fof_terms.specs.Vocabulary.{Vocabulary}
use Rattle.fof_terms.specs.declared.form.Form.{Form, Or}
use Rattle.clause_form.specs.declared.clause.AtomOf.{AtomOf}
use Rattle.clause_form.specs.declared.clause.Clause.{Clause}
use Rattle.clause_form.specs.declared.clause.Lit.{Lit}
use Rattle.chain_proofs.specs.Chains.{AreOver}
use Rattle.chain_proofs.specs.Facts.{all_false, not_all_false}
use Rattle.chain_proofs.specs.declared.fact.Fact.{Fact}
use Rattle.clause_learning.specs.Refutations.{Entry, HasSame, IsLog, IsRefutation}
use Rattle.clause_learning.proofs.Members.{got_push, head_in, nothing_in, some_same}
use Rattle.fof_terms.proofs.Scoped.{and_sorted, not_sorted}
use Rattle.kernel.specs.Proves.{Proves}
use Rattle.kernel.specs.Statements.{Statements}
use Rattle.kernel.specs.declared.proof.Proof.{Proof, AndI, Line, NotE}
use Rattle.kernel.proofs.Building.{by_and_i, by_line, by_not_e}
use Rattle.negated_lemmas.specs.Negated.{with_denied}
use Rattle.sat_step.specs.Decisions.{IsRefuted, entry_of, opposite}
use Rattle.sat_step.specs.declared.decision.Learned.{Learned}
use Rattle.search_proofs.specs.code.Facts.{AreShown, IsOf, Setting, StandsAt, first_fact}
use Rattle.search_proofs.specs.code.Members.{ShowFalsehoodLast, ShowMore}
use Rattle.search_proofs.specs.Placed.{numbers_from, there}
use Rattle.search_proofs.proofs.InTurn.{one_of, shown_as, shown_twice, stands_in}
use Rattle.sat_entries.specs.code.Inputs.{AreStatedInputs, WantedHave, WantedStand}
use Rattle.sat_entries.specs.code.Learning.{AreLearned, AreSorted, FactsHave, FactsStand, IsStated}
use Rattle.sat_entries.specs.code.Naming.{IsMarked, IsNamed}
use Rattle.sat_entries.specs.code.Refuting.{IsFalsehoodBy, IsLater, LeadToFalsehood, NamedAreMarked}
use Rattle.sat_entries.proofs.LearningFacts.{nothing_bound}

-- falsehood by the denial of nothing
pub falsehood_shows : (n : ℕ) → IsFalsehoodBy n (NotE (Line n) (AndI []))
falsehood_shows n t sorted at = by_not_e t [] [] (Line n) (AndI []) (all_false []) (by_line t [] [] n (not_all_false []) sorted at) (by_and_i t [] [] [] [] sorted.scope_fits tt)

-- the clause of a fact
clause_of_fact : (facts : List Fact) (clauses : List Clause) (k : ℕ) (f : Fact) → map (λ (g : Fact). g.lits) facts ≡ map (λ (c : Clause). c.lits) clauses → slice_get facts k ≡ Some f → (c : Clause) × (slice_get clauses k ≡ Some c) × (c.lits ≡ f.lits)
clause_of_fact [] clauses k f e at = absurd (let never : None ≡ Some f = at in cc)
clause_of_fact (g ∷ facts) [] k f e at = absurd (let never : g.lits ∷ map (λ (x : Fact). x.lits) facts ≡ [] = e in cc)
clause_of_fact (g ∷ facts) (c ∷ clauses) zero f e at =
    let same : g ≡ f = some_same at in
    let lits : g.lits ≡ c.lits = heads e in
    (c, refl, sym lits ∙ ap (λ (x : Fact). x.lits) same)
  where
    heads : {X : Type 0} {x y : X} {xs ys : List X} → x ∷ xs ≡ y ∷ ys → x ≡ y
    heads d = cc
clause_of_fact (g ∷ facts) (c ∷ clauses) (suc k) f e at = clause_of_fact facts clauses k f (tails e) at
  where
    tails : {X : Type 0} {x y : X} {xs ys : List X} → x ∷ xs ≡ y ∷ ys → xs ≡ ys
    tails d = cc

-- the last clause of a refutation
lits_of_entries : (log : List Learned) → map (λ (e : Entry Lit). e.lits) (map entry_of log) ≡ map (λ (e : Learned). e.lits) log
lits_of_entries [] = refl
lits_of_entries (e ∷ log) = ap (λ (ls : List (List Lit)). e.lits ∷ ls) (lits_of_entries log)

no_literal : (lits : List Lit) → HasSame [] lits → lits ≡ []
no_literal [] h = refl
no_literal (l ∷ lits) h = absurd (nothing_in l ((h l).0 (head_in l lits)))

module _ (clauses : List Clause) (log : List Learned) (refuted : IsRefuted clauses log) where
  abbrev fronts : List (List Lit)
  fronts = map (λ (e : Entry Lit). e.lits) refuted.before

  log_lits : map (λ (e : Learned). e.lits) log ≡ fronts ++ [] ∷ []
  log_lits = sym (lits_of_entries log) ∙ (ap (map (λ (e : Entry Lit). e.lits)) refuted.last ∙ map-append (λ (e : Entry Lit). e.lits) refuted.before (record { from = refuted.from; lits = [] } ∷ []))

  pub log_count : length log ≡ length fronts + 1
  log_count = sym (length-map log (λ (e : Learned). e.lits)) ∙ (ap (λ (ls : List (List Lit)). length ls) log_lits ∙ length-append fronts ([] ∷ []))

  module _ (start : ℕ) (facts more : List Fact) (same : map (λ (f : Fact). f.lits) facts ≡ map (λ (c : Clause). c.lits) clauses) where
    -- the log over the facts of the clauses
    pub log_of_facts : IsLog opposite (map (λ (f : Fact). f.lits) facts) (map entry_of log)
    log_of_facts = subst (λ (ls : List (List Lit)). IsLog opposite ls (map entry_of log)) (sym same) refuted.steps

    module _ (old new : List Proof) (learned : AreLearned start log facts more old new) where
      pub some_fact : 0 < length more
      some_fact = let all = learned.count in let one = log_count in omega arith

      last_lits : (f : Fact) → slice_get more (length more - 1) ≡ Some f → f.lits ≡ []
      last_lits f at =
          let whole = map (λ (g : Fact). g.lits) facts ++ map (λ (e : Learned). e.lits) log in
          let front = map (λ (g : Fact). g.lits) facts ++ fronts in
          let ends : whole ≡ front ++ [] ∷ [] = ap (λ (ls : List (List Lit)). map (λ (g : Fact). g.lits) facts ++ ls) log_lits ∙ sym (append_assoc (map (λ (g : Fact). g.lits) facts) fronts ([] ∷ [])) in
          let long = length-append (map (λ (g : Fact). g.lits) facts) fronts in
          let many = length-map facts (λ (g : Fact). g.lits) in
          let all = learned.count in
          let one = log_count in
          let place : length front ≡ length more - 1 = omega arith in
          let there : slice_get whole (length more - 1) ≡ Some [] = ap (λ (ls : List (List Lit)). slice_get ls (length more - 1)) ends ∙ (ap (λ n. slice_get (front ++ [] ∷ []) n) (sym place) ∙ got_push front []) in
          let own = learned.stated (length more - 1) [] there in
          let is : own.0 ≡ f = some_same (sym own.1 ∙ at) in
          no_literal f.lits (subst (λ (g : Fact). HasSame [] g.lits) is own.2)

      module _ (wanted : List Bool) (numbers : List ℕ) (begun : List Proof) (stated : AreStatedInputs start clauses wanted numbers begun old facts) where
        pub leads : (opened : List Proof) (inputs : List (Option Proof)) (last : Fact) (p : Proof) (proofs : List Proof) → numbers ≡ numbers_from (start + length opened) inputs → begun ≡ opened ++ there inputs → last ≡ get_or more (length more - 1) last
            → IsFalsehoodBy last.number p → proofs ≡ new ++ p ∷ [] → LeadToFalsehood start opened inputs clauses wanted log proofs
        leads opened inputs last p proofs numbers_are begun_is last_is falsehood is marked s atoms starts sorts have forms shown stand =
            let first = stated.shows s atoms starts sorts have forms (subst (λ (ps : List Proof). AreShown s ps forms) (sym begun_is) shown) (subst (WantedStand s forms clauses wanted) (sym numbers_are) stand) in
            let named = λ (k : ℕ) (f : Fact) (name : IsNamed log k) (at : slice_get facts k ≡ Some f). (let c = clause_of_fact facts clauses k f same at in marked k name (slice_get_within clauses k c.0 c.1)) in
            let then = learned.shows s atoms starts sorts
            (λ k f name at. let c = clause_of_fact facts clauses k f same at in subst (AreOver atoms) c.2 (have k c.0 (named k f name at) c.1))
            first.0 first.1.shown (λ k f name at. first.2 k f (named k f name at) at) in
            let all = then.0 in
            let some = some_fact in
            let at : slice_get more (length more - 1) ≡ Some last = slice_get-get_or more (length more - 1) last (omega arith) ∙ ap (λ (f : Fact). Some f) (sym last_is) in
            let late : length facts ≤ length more - 1 = (let count = learned.count in let one = log_count in omega arith) in
            let stands : StandsAt s all last.number (not_all_false []) = subst (λ (ls : List Lit). StandsAt s all last.number (not_all_false ls)) (last_lits last at) (then.2 (length more - 1) last late at) in
            let closed : Sorted s.vocabulary [] (not_all_false []) = not_sorted s.vocabulary [] 2147483647 (all_false []) (and_sorted s.vocabulary [] 2147483647 (nothing_bound s atoms sorts) [] tt) in
            let step = λ (t : Statements) (of : IsOf s t). falsehood (with_denied t s.line all) (subst (λ (v : Vocabulary). Sorted v [] (not_all_false [])) (sym of.vocabulary) closed) (stands_in s all last.number (not_all_false []) t of stands) in
            let begins = shown_twice s (IsStated atoms) old new forms first.0 all first.1 then.1 in
            let turned = shown_as s (IsStated atoms) (IsLater atoms) (λ a m. inl m) new forms all begins in
            let ended = one_of s (IsLater atoms) new proofs all p (Or []) then.1.shown step (inr refl) is in
            record { facts = all ++ Or [] ∷ []; shown = shown_twice s (IsLater atoms) new proofs forms all (all ++ Or [] ∷ []) turned ended; rest = all; ends = refl }
