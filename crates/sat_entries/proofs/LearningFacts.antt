-- Clauses of a log as facts, each by the facts before it.
use Rattle.std.specs.Prelude.{ℕ, zero, suc, ◌≡◌, ◌+◌, ◌<◌, ◌≤◌, ◌⊎◌, nat_lt, Bool, true, false, not, List, [], ◌∷◌, ◌++◌, length, map, take, Some, None, slice_get, get_or, refl}
use Rattle.std.specs.List.{AllByRecursion, Contains}
use Rattle.std.proofs.Common.{ap, sym, subst, ◌∙◌, arith, inl, inr, append_assoc, append-nil}
use Rattle.std.proofs.lemmas.Bool.Decides.{nat_tests}
use Rattle.std.proofs.lemmas.List.{length-append}
use Rattle.fof_terms.specs.Sorts.{IsScope, Sorted}
use Rattle.fof_terms.specs.Vocabulary.{Vocabulary}
use Rattle.fof_terms.specs.declared.form.Form.{Form}
use Rattle.fof_terms.proofs.Scoped.{and_sorted, not_sorted}
use Rattle.clause_form.specs.ClauseView.{form_of_atom}
use Rattle.clause_form.specs.Norm.{signed}
use Rattle.clause_form.specs.declared.clause.AtomOf.{AtomOf}
use Rattle.clause_form.specs.declared.clause.Lit.{Lit}
use Rattle.chain_proofs.specs.Chains.{AreOver, AreStated, Derives, HoldEach}
use Rattle.chain_proofs.specs.Facts.{Holds, all_false, denied_form, not_all_false}
use Rattle.chain_proofs.specs.Stretches.{EndsIn, IsStretch, IsStretchProof}
use Rattle.chain_proofs.specs.declared.fact.Fact.{Fact}
use Rattle.chain_proofs.specs.declared.stretching.Stretch.{Stretch}
use Rattle.clause_learning.specs.Refutations.{HasSame, IsDerived, IsLog, Resolves}
use Rattle.clause_learning.proofs.Members.{got_front, got_in, got_left, got_push, head_in, some_same, tail_in}
use Rattle.kernel.specs.Proves.{Proves}
use Rattle.kernel.specs.Statements.{Statements}
use Rattle.kernel.specs.declared.proof.Proof.{Proof}
use Rattle.negated_lemmas.specs.Negated.{with_denied}
use Rattle.sat_step.specs.Decisions.{entry_of, opposite}
use Rattle.sat_step.specs.declared.decision.Learned.{Learned}
use Rattle.search_proofs.specs.code.Facts.{AreShown, IsOf, Setting, StandsAt, first_fact}
use Rattle.search_proofs.specs.code.Members.{ShowMore}
use Rattle.search_proofs.proofs.InTurn.{one_of, shown_twice, stands_in, stands_last, stands_on, stands_still, no_more}
use Rattle.sat_entries.specs.code.Learning.{AreLearned, AreSorted, FactsHave, FactsStand, IsShown, IsStated}
use Rattle.sat_entries.specs.code.Naming.{IsNamed}

module _ (s : Setting) (atoms : List AtomOf) (sorts : AreSorted s atoms) where
  signed_sorted : (v : Vocabulary) (g : Bool) (a : Form) → Sorted v [] a → Sorted v [] (signed g a)
  signed_sorted v true a h = h
  signed_sorted v false a h = not_sorted v [] 2147483647 a h

  each_sorted : (lits : List Lit) → AreOver atoms lits → AllByRecursion (Sorted s.vocabulary []) (map denied_form lits)
  each_sorted [] own = tt
  each_sorted (l ∷ lits) own =
      (signed_sorted s.vocabulary (not l.positive) (form_of_atom l.atom) (sorts l.atom (own l (head_in l lits))), each_sorted lits (λ x there. own x (tail_in l lits x there)))

  pub nothing_bound : IsScope s.vocabulary []
  nothing_bound = record { few_variables = omega arith; sorts_exist = tt }

  pub all_sorted : (lits : List Lit) → AreOver atoms lits → Sorted s.vocabulary [] (all_false lits)
  all_sorted lits own = and_sorted s.vocabulary [] 2147483647 nothing_bound (map denied_form lits) (each_sorted lits own)

  module _ (t : Statements) (of : IsOf s t) (forms : List Form) where
    in_theory : (a : Form) → Sorted s.vocabulary [] a → Sorted t.vocabulary [] a
    in_theory a h = subst (λ (v : Vocabulary). Sorted v [] a) (sym of.vocabulary) h

    holds_here : (f : Fact) → AreOver atoms f.lits → StandsAt s forms f.number (not_all_false f.lits) → Holds (with_denied t s.line forms) f
    holds_here f own st = record {
      sorted = in_theory (not_all_false f.lits) (not_sorted s.vocabulary [] 2147483647 (all_false f.lits) (all_sorted f.lits own));
      there = stands_in s forms f.number (not_all_false f.lits) t of st;
    }

    -- a stretch is shown by the facts that stand
    pub stretch_shows : (facts : List Fact) (from : List ℕ) (lits : List Lit) (st : Stretch) (last : Fact) (p : Proof) → IsStretch facts from lits st → IsStretchProof st last p → AreOver atoms st.lits → FactsHave atoms facts (Contains from) → FactsStand s forms facts (Contains from)
        → AreOver atoms last.lits → StandsAt s forms last.number (not_all_false last.lits) → ((x : Lit) → Contains last.lits x → Contains st.known.lits x) → Proves (with_denied t s.line forms) [] [] p (not_all_false st.lits)
    stretch_shows facts from lits st last p is shows own have stand last_own last_stands all =
        let u = with_denied t s.line forms in
        let holds : HoldEach u facts from = λ k f named at. holds_here f (have k f named at) (stand k f named at) in
        let sorted = in_theory (all_false st.lits) (all_sorted st.lits own) in
        shows u sorted (is.leads u holds sorted) (holds_here last last_own last_stands) all

-- the literals of the stretch have the property
stretch_over : (atoms : List AtomOf) (lits own : List Lit) → HasSame lits own → AreOver atoms lits → AreOver atoms own
stretch_over atoms lits own same h x there = h x ((same x).0 there)

module _ (start : ℕ) (facts : List Fact) (from : List ℕ) (lits : List Lit) (st : Stretch) (is : IsStretch facts from lits st) where
  -- a walk that came to its end
  pub shown_at_once : (k : ℕ) (last : Fact) (p : Proof) (old new : List Proof) (fact : Fact) → st.last ≡ Some k → slice_get facts k ≡ Some last → IsStretchProof st last p → new ≡ old ++ p ∷ [] → fact.number ≡ start + length old → fact.lits ≡ st.lits
      → IsShown start facts from lits old new fact
  shown_at_once k last p old new fact ends_at at proves new_is number own_is = record {
    same = subst (HasSame lits) (sym own_is) is.same;
    shows = λ s atoms starts sorts own have forms shown stand.
        let mine = stretch_over atoms lits st.lits is.same own in
        let end = ends in
        let a = not_all_false st.lits in
        let step = λ (t : Statements) (of : IsOf s t). stretch_shows s atoms sorts t of forms facts from lits st last p is proves mine have stand (have k last end.0 at) (stand k last end.0 at) (end.2 last at) in (
          forms ++ a ∷ [],
          one_of s (IsStated atoms) old new forms p a shown step (st.lits, mine, refl) new_is,
          subst (λ (ls : List Lit). StandsAt s (forms ++ a ∷ []) fact.number (not_all_false ls)) (sym own_is) (stands_last s old forms fact.number a shown (number ∙ ap (λ n. n + length old) (sym starts))),
        );
  } where
    ends : Contains from k × (k < length facts) × ((f : Fact) → slice_get facts k ≡ Some f → (x : Lit) → Contains f.lits x → Contains st.known.lits x)
    ends = subst (EndsIn facts from st.known.lits st.left) ends_at is.ends

  -- the number of the last clause
  pub last_within : (k : ℕ) → st.last ≡ Some k → k < length facts
  last_within k ends_at = within (subst (EndsIn facts from st.known.lits st.left) ends_at is.ends)
    where
      within : EndsIn facts from st.known.lits st.left (Some k) → k < length facts
      within e = e.1

  -- and one that goes on
  module _ (open_is : st.last ≡ None) where
    open_ends : Derives facts st.left st.known.lits × ((k : ℕ) → Contains st.left k → Contains from k) × (length st.left < length from)
    open_ends = subst (EndsIn facts from st.known.lits st.left) open_is is.ends

    pub left_derives : (left : List ℕ) → left ≡ st.left → (known : List Lit) → known ≡ st.known.lits → Derives facts left known
    left_derives left left_is known known_is = subst (Derives facts left) (sym known_is) (subst (λ (ks : List ℕ). Derives facts ks st.known.lits) (sym left_is) open_ends.0)

    pub left_shorter : (left : List ℕ) → left ≡ st.left → length left < length from
    left_shorter left left_is = subst (λ (ks : List ℕ). length ks < length from) (sym left_is) open_ends.2

    pub shown_in_turn : (rest : Fact) (left : List ℕ) (known : List Lit) (p : Proof) (old mid new : List Proof) (fact : Fact) → left ≡ st.left → known ≡ st.known.lits → IsShown start facts left known old mid rest → IsStretchProof st rest p → new ≡ mid ++ p ∷ []
        → fact.number ≡ start + length mid → fact.lits ≡ st.lits → IsShown start facts from lits old new fact
    shown_in_turn rest left known p old mid new fact left_is known_is rest_shown proves new_is number own_is = record {
      same = subst (HasSame lits) (sym own_is) is.same;
      shows = λ s atoms starts sorts own have forms shown stand.
          let mine = stretch_over atoms lits st.lits is.same own in
          let known_own : AreOver atoms known = subst (AreOver atoms) (sym known_is) (is.over atoms mine have) in
          let in_from = λ (k : ℕ) (there : Contains left k). open_ends.1 k (subst (λ (ks : List ℕ). Contains ks k) left_is there) in
          let first = rest_shown.shows s atoms starts sorts known_own (λ k f there at. have k f (in_from k there) at) forms shown (λ k f there at. stand k f (in_from k there) at) in
          let all = first.0 in
          let more = first.1 in
          let a = not_all_false st.lits in
          let still = λ (k : ℕ) (f : Fact) (there : Contains from k) (at : slice_get facts k ≡ Some f). stands_on s (IsStated atoms) mid forms all f.number (not_all_false f.lits) more (stand k f there at) in
          let in_known = λ (x : Lit) (there : Contains rest.lits x). subst (λ (ls : List Lit). Contains ls x) known_is ((rest_shown.same x).0 there) in
          let step = λ (t : Statements) (of : IsOf s t). stretch_shows s atoms sorts t of all facts from lits st rest p is proves mine have still (stretch_over atoms known rest.lits rest_shown.same known_own) first.2 in_known in
          let last = one_of s (IsStated atoms) mid new all p a more.shown step (st.lits, mine, refl) new_is in (
            all ++ a ∷ [],
            shown_twice s (IsStated atoms) mid new forms all (all ++ a ∷ []) more last,
            subst (λ (ls : List Lit). StandsAt s (all ++ a ∷ []) fact.number (not_all_false ls)) (sym own_is) (stands_last s mid all fact.number a more.shown (number ∙ ap (λ n. n + length mid) (sym starts))),
          );
    }
