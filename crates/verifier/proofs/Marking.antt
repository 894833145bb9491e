-- What the lines of a good derivation cite by its text, and what the answers to them cite: the one is marked where the
-- other is.
use Rattle.std.proofs.Common.{◌≡◌, ℕ, zero, suc, ◌+◌, ◌<◌, ◌≤◌, ◌==◌, ◌||◌, inl, inr, nat_lt, Bool, true, false, List, [], ◌∷◌, ◌++◌, length, Option, None, Some, slice_get, refl, sym, ◌∙◌, ap, subst, arith}
use Rattle.std.specs.Prelude.{unwrap_or}
use Rattle.std.proofs.lemmas.Bool.Decides.{nat_tests}
use Rattle.std.proofs.lemmas.Option.{slice_get_within}
use Rattle.fof_terms.specs.Vocabulary.{Vocabulary}
use Rattle.fof_terms.specs.declared.form.Form.{Form}
use Rattle.clause_form.specs.declared.path.Parent.{Parent}
use Rattle.kernel.specs.Statements.{Statements}
use Rattle.kernel.specs.declared.entry.Entry.{Entry}
use Rattle.derive_kit.specs.Derived.{numbers_of}
use Rattle.elaborate.specs.ByRule.{GivesFirst, IsFirstAlone, leaf_rules}
use Rattle.elaborate.specs.declared.answer.Rule.{Rule}
use Rattle.tstp_graph.specs.declared.shape.Ref.{Ref}
use Rattle.tstp_graph.specs.declared.shape.Ref.TheVariants as ref
use Rattle.tstp_graph.specs.Order.{is_taken, TakesInTurn, first_left}
use Rattle.verifier.specs.Marks.{is_marked, some_marked, answer_cites_marked, cites_marked, is_marked_ref, some_marked_ref}
use Rattle.verifier.specs.Good.{without_numbers, so_far, cited_one, cited_by_leaf, FollowsAs, FollowInTurn, IsGood}
use Rattle.verifier.specs.Lines.{Derivation, Line, given_from, parent_of, parents_of, candidates_of}
use Rattle.verifier.specs.Run.{Progress, AreAnswered, IsAnswered, IsRun, begun}
use Rattle.verifier.specs.declared.answer.LineAnswer.{LineAnswer}
use Rattle.verifier.specs.declared.answer.LineAnswer.TheVariants.{Accepted, Unverified, Skipped}
use Rattle.verifier.proofs.Citing.{or_false}
use Rattle.verifier.proofs.Counting.{IsAccepted}
use Rattle.verifier.proofs.Derived.{IsRuled}
use Rattle.verifier.proofs.Goodness.{HaveForms, IsSound, begun_sound, candidates_alike, follows_ruled, forms_without_numbers, turn_accepted, turn_parents}
use Rattle.verifier.proofs.Knowing.{accepted_is, both_is, with_number_is}
use Rattle.verifier.proofs.Numbers.{IsNumbered, answer_numbered, begun_numbered}
use Rattle.verifier.proofs.Renumbering.{alone_alike_rule}
use Rattle.verifier.proofs.Slots.{one_value, has_value}
use Rattle.verifier.proofs.Symbols.{SameSymbols, other_way}
use Rattle.verifier.proofs.Turns.{turn_of, none_left}

past_end : {X : Type 0} (xs : List X) (k : ℕ) → length xs ≤ k → slice_get xs k ≡ None
past_end [] k le = refl
past_end (x ∷ xs) zero le = absurd (omega (arith, le))
past_end (x ∷ xs) (suc k) le = past_end xs k (omega (arith, le))

-- ---- the candidate from which a leaf follows is one

one_first : (t : Statements) (candidates : List Parent) (line : Form) (r : Rule) (i j : ℕ) → GivesFirst t candidates line r i → GivesFirst t candidates line r j → i ≡ j
one_first t candidates line r i j first second = by (nat_lt i j) (nat_lt j i) refl refl
  where
    by : (b c : Bool) → nat_lt i j ≡ b → nat_lt j i ≡ c → i ≡ j
    by true c less more = let lt : i < j = grind (arith, nat_tests) in absurd (second.1 i lt first.0)
    by false true less more = let lt : j < i = grind (arith, nat_tests) in absurd (first.1 j lt second.0)
    by false false less more = grind (arith, nat_tests)

one_alone : (rs : List Rule) (t : Statements) (candidates : List Parent) (line : Form) (r s : Rule) (i j : ℕ) → IsFirstAlone rs t candidates line r i → IsFirstAlone rs t candidates line s j → i ≡ j
one_alone [] t candidates line r s i j first second = absurd first
one_alone (q ∷ rs) t candidates line r s i j (inl (here, gives)) (inl (there, other)) = one_first t candidates line q i j gives other
one_alone (q ∷ rs) t candidates line r s i j (inl (here, gives)) (inr (none, rest)) = absurd (none i gives.0)
one_alone (q ∷ rs) t candidates line r s i j (inr (none, rest)) (inl (there, other)) = absurd (none j other.0)
one_alone (q ∷ rs) t candidates line r s i j (inr (none, rest)) (inr (nothing, more)) = one_alone rs t candidates line r s i j rest more

given_number : (number : ℕ) (forms : List Form) (i : ℕ) (c : Parent) → slice_get (given_from number forms) i ≡ Some c → c.number ≡ number + i
given_number number [] i c at = absurd (cc)
given_number number (form ∷ forms) zero c at = let same : record { number = number; form = form } ≡ c = cc in omega (arith, ap (λ (q : Parent). q.number) same)
given_number number (form ∷ forms) (suc i) c at = omega (arith, given_number (number + 1) forms i c at)

-- ---- what is marked of parents

module _ (marks : List Bool) (d : Derivation) (p : Progress) (short : length marks ≤ length d.given) (behind : (place number : ℕ) → slice_get p.numbers place ≡ Some (Some number) → length d.given ≤ number) where
  beyond : (number : ℕ) → length d.given ≤ number → is_marked marks number ≡ false
  beyond number le = ap (λ (o : Option Bool). unwrap_or o false) (past_end marks number (omega (arith, short, le)))

  parent_marked : (r : Ref) (q : Parent) → parent_of d.given d.forms p.numbers r ≡ Some q → is_marked marks q.number ≡ is_marked_ref marks r
  parent_marked (ref.Given place) q is = ap (is_marked marks) (with_number_is place (slice_get d.given place) q is).1
  parent_marked (ref.Line place) q is = beyond q.number (behind place q.number (accepted_is (slice_get p.numbers place) (slice_get d.forms place) q is).0)

  parents_marked : (rs : List Ref) (qs : List Parent) → parents_of d.given d.forms p.numbers rs ≡ Some qs → some_marked marks (numbers_of qs) ≡ some_marked_ref marks rs
  parents_marked [] qs is = let none : qs ≡ [] = cc in ap (λ (ps : List Parent). some_marked marks (numbers_of ps)) none
  parents_marked (r ∷ rs) qs is =
      let parts = both_is (parent_of d.given d.forms p.numbers r) (parents_of d.given d.forms p.numbers rs) qs is in
      ap (λ (ps : List Parent). some_marked marks (numbers_of ps)) parts.4
      ∙ ap (λ (b : Bool). b || some_marked marks (numbers_of parts.1)) (parent_marked r parts.0 parts.2)
      ∙ ap (λ (b : Bool). is_marked_ref marks r || b) (parents_marked rs parts.1 parts.3)

  -- the parent at a place is that of the line or given formula there
  parent_at : (rs : List Ref) (qs : List Parent) (i : ℕ) (c : Parent) → parents_of d.given d.forms p.numbers rs ≡ Some qs → slice_get qs i ≡ Some c → (r : Ref) × (slice_get rs i ≡ Some r) × (parent_of d.given d.forms p.numbers r ≡ Some c)
  parent_at [] qs i c is at =
      let none : qs ≡ [] = cc in
      let nowhere : slice_get [] i ≡ Some c = ap (λ (ps : List Parent). slice_get ps i) (sym none) ∙ at in
      absurd (cc)
  parent_at (r ∷ rs) qs i c is at =
      let parts = both_is (parent_of d.given d.forms p.numbers r) (parents_of d.given d.forms p.numbers rs) qs is in
      by parts.0 parts.1 i (ap (λ (ps : List Parent). slice_get ps i) (sym parts.4) ∙ at) parts.2 (λ j there. parent_at rs parts.1 j c parts.3 there)
    where
      by : (y : Parent) (zs : List Parent) (i : ℕ) → slice_get (y ∷ zs) i ≡ Some c → parent_of d.given d.forms p.numbers r ≡ Some y → ((j : ℕ) → slice_get zs j ≡ Some c → (s : Ref) × (slice_get rs j ≡ Some s) × (parent_of d.given d.forms p.numbers s ≡ Some c))
          → (s : Ref) × (slice_get (r ∷ rs) i ≡ Some s) × (parent_of d.given d.forms p.numbers s ≡ Some c)
      by y zs zero there here rest = (r, refl, here ∙ there)
      by y zs (suc j) there here rest = rest j there

  leaf_marked : (cited : Bool) (refs : List Ref) (parents : List Parent) (i : ℕ) (c : Parent) → parents_of d.given d.forms p.numbers refs ≡ Some parents → slice_get (candidates_of d.given cited parents) i ≡ Some c
      → some_marked marks (c.number ∷ []) ≡ some_marked_ref marks (cited_by_leaf cited refs i)
  leaf_marked true refs parents i c known at =
      let found = parent_at refs parents i c known at in
      ap (λ (b : Bool). b || false) (parent_marked found.0 c found.2) ∙ ap (λ (o : Option Ref). some_marked_ref marks (cited_one o)) (sym found.1)
  leaf_marked false refs parents i c known at =
      let same : c.number ≡ i = omega (arith, given_number 0 d.given i c at) in
      ap (λ (n : ℕ). is_marked marks n || false) same

  -- what the answer to a line cites is marked where what the line cites by the text is
  line_marked : (is_leaf : Bool) (u : Statements) (cited : Bool) (refs own : List Ref) (parents : List Parent) (forms : List Form) (form : Form) (rule : Rule) (cites : List ℕ) → SameSymbols u p.theory → HaveForms parents forms → parents_of d.given d.forms p.numbers refs ≡ Some parents
      → FollowsAs is_leaf u d.given cited refs forms form own → IsRuled is_leaf p.theory d.given cited parents form rule cites → some_marked marks cites ≡ some_marked_ref marks own
  line_marked false u cited refs own parents forms form rule cites same have known (r, follows, own_is) (by, cites_are) =
      ap (some_marked marks) cites_are ∙ parents_marked refs parents known ∙ ap (some_marked_ref marks) (sym own_is)
  line_marked true u cited refs own parents forms form rule cites same have known (r, i, follows, own_is) (j, c, there, leaf, cites_are) =
      let here : j ≡ i =
      one_alone leaf_rules p.theory (candidates_of d.given cited parents) form rule r j i leaf
      (alone_alike_rule leaf_rules u p.theory form r i (candidates_of d.given cited (without_numbers forms)) (candidates_of d.given cited parents) same (candidates_alike d.given cited (without_numbers forms) parents (forms_without_numbers forms ∙ sym have)) follows) in
      ap (some_marked marks) cites_are
      ∙ leaf_marked cited refs parents i c known (ap (slice_get (candidates_of d.given cited parents)) (sym here) ∙ there)
      ∙ ap (some_marked_ref marks) (sym own_is)

-- ---- what is marked of a run

pub answered_marked : (marks : List Bool) (d : Derivation) (old : Progress) (place : ℕ) (line : Line) (u : Statements) (own : List Ref) (parents : List Parent) (forms : List Form) (answer : LineAnswer) (entries : List Entry) (new : Progress) → length marks ≤ length d.given → IsNumbered (length d.given) d old → SameSymbols u old.theory → HaveForms parents forms
    → parents_of d.given d.forms old.numbers line.node.parents ≡ Some parents → FollowsAs line.node.leaf u d.given line.node.cited line.node.parents forms line.form own → IsAccepted answer → IsAnswered d old place line (Some parents) answer entries new → answer_cites_marked marks answer ≡ some_marked_ref marks own
answered_marked marks d old place line u own parents forms Skipped entries new short numbered same have known follows good is = absurd good
answered_marked marks d old place line u own parents forms (Unverified reason) entries new short numbered same have known follows good is = absurd good
answered_marked marks d old place line u own parents forms (Accepted rule cites) entries new short numbered same have known follows good is =
    line_marked marks d old short numbered.behind line.node.leaf u line.node.cited line.node.parents own parents forms line.form rule cites same have known follows
    (follows_ruled line.node.leaf old.theory u d line.node.cited line.node.parents own parents forms line.form rule cites entries same have follows is.0).ruled

marked_parts : (marks : List Bool) (xs ys : List Ref) → some_marked_ref marks (xs ++ ys) ≡ false → (some_marked_ref marks xs ≡ false) × (some_marked_ref marks ys ≡ false)
marked_parts marks [] ys none = (refl, none)
marked_parts marks (x ∷ xs) ys none =
    let parts = or_false (is_marked_ref marks x) (some_marked_ref marks (xs ++ ys)) none in
    let rest = marked_parts marks xs ys parts.1 in
    (ap (λ (b : Bool). b || some_marked_ref marks xs) parts.0 ∙ rest.0, rest.1)

pub unmarked_both : (marks : List Bool) (xs ys : List Ref) → some_marked_ref marks xs ≡ false → some_marked_ref marks ys ≡ false → some_marked_ref marks (xs ++ ys) ≡ false
unmarked_both marks [] ys none nothing = nothing
unmarked_both marks (x ∷ xs) ys none nothing =
    let parts = or_false (is_marked_ref marks x) (some_marked_ref marks xs) none in
    ap (λ (b : Bool). b || some_marked_ref marks (xs ++ ys)) parts.0 ∙ unmarked_both marks xs ys parts.1 nothing

-- where nothing is marked that lines cite by their texts, no answer cites what is marked
later_unmarked : (marks : List Bool) (v : Vocabulary) (d : Derivation) (answers : List LineAnswer) (taken : List ℕ) (earlier : List Form) (old : Progress) (places : List ℕ) (entries : List Entry) (new : Progress) (k : ℕ) (cites : List Ref) → length marks ≤ length d.given → FollowInTurn v d earlier places cites → IsSound v d taken earlier old → IsNumbered (length d.given) d old
    → TakesInTurn d.nodes taken places → AreAnswered d answers old places entries new → some_marked_ref marks cites ≡ false → is_taken places k ≡ true → (a : LineAnswer) × (slice_get answers k ≡ Some a) × (answer_cites_marked marks a ≡ false)
later_unmarked marks v d answers taken earlier old [] entries new k cites short follow sound numbered turns are none is = absurd (cc)
later_unmarked marks v d answers taken earlier old (place ∷ places) entries new k cites short (line, line_cites, later_cites, there, cites_are, follows, follow) sound numbered turns (own, mid, a, (later, entries_are, rest)) none is =
    let turn = turn_of d.nodes taken place turns.0 in
    let here = turn_accepted v d answers taken earlier old place own mid line line_cites there follows sound turn a in
    let found = turn_parents v d answers taken earlier old place own mid line line_cites there follows sound turn a in
    let parts = marked_parts marks line_cites later_cites (ap (some_marked_ref marks) (sym cites_are) ∙ none) in
    let marked = answered_marked marks d old place line (so_far v d.given earlier) line_cites found.parents follows.0 a.answer own mid short numbered (other_way old.theory (so_far v d.given earlier) sound.same) found.have found.known follows.2 here.0 found.is in
    by (place == k) refl is (a.answer, a.answer_there, marked ∙ parts.0)
    (later_unmarked marks v d answers (taken ++ place ∷ []) (earlier ++ line.form ∷ []) mid places later new k later_cites short follow here.1
    (answer_numbered (length d.given) d old place a.line (parents_of d.given d.forms old.numbers a.line.node.parents) a.answer own mid a.there a.is numbered) turns.1 rest parts.1)
  where
    by : (b : Bool) → (place == k) ≡ b → (b || is_taken places k) ≡ true → ((a : LineAnswer) × (slice_get answers place ≡ Some a) × (answer_cites_marked marks a ≡ false)) → (is_taken places k ≡ true → (a : LineAnswer) × (slice_get answers k ≡ Some a) × (answer_cites_marked marks a ≡ false))
        → (a : LineAnswer) × (slice_get answers k ≡ Some a) × (answer_cites_marked marks a ≡ false)
    by false test is first on = on is
    by true test is first on = let same : place ≡ k = grind (arith, nat_tests) in (first.0, ap (slice_get answers) (sym same) ∙ first.1, first.2)

all_unmarked : (marks : List Bool) (answers : List LineAnswer) → ((k : ℕ) (a : LineAnswer) → slice_get answers k ≡ Some a → answer_cites_marked marks a ≡ false) → cites_marked marks answers ≡ false
all_unmarked marks [] each = refl
all_unmarked marks (a ∷ answers) each = ap (λ (b : Bool). b || cites_marked marks answers) (each 0 a refl) ∙ all_unmarked marks answers (λ k x at. each (suc k) x at)

-- the same of a good derivation
pub good_unmarked : (start : Statements) (d : Derivation) (order : List ℕ) (cites : List Ref) (answers : List LineAnswer) (entries : List Entry) (end : Statements) (marks : List Bool) → start.formulas ≡ d.given → IsGood start.vocabulary d order cites → TakesInTurn d.nodes [] order → first_left (is_taken order) 0 d.nodes ≡ None
    → IsRun start d order answers entries end → length marks ≤ length d.given → some_marked_ref marks cites ≡ false → cites_marked marks answers ≡ false
good_unmarked start d order cites answers entries end marks given good turns all run short none = all_unmarked marks answers each
  where
    numbered : IsNumbered (length d.given) d (begun start d)
    numbered = subst (λ (fs : List Form). IsNumbered (length fs) d (begun start d)) given (begun_numbered start d)

    each : (k : ℕ) (a : LineAnswer) → slice_get answers k ≡ Some a → answer_cites_marked marks a ≡ false
    each k a at =
        let node = has_value d.nodes k (omega (arith, run.count, slice_get_within answers k a at)) in
        let zero_more : 0 + k ≡ k = omega arith in
        let taken : is_taken order k ≡ true = ap (is_taken order) (sym zero_more) ∙ none_left (is_taken order) 0 d.nodes k node.0 all node.1 in
        let found = later_unmarked marks start.vocabulary d answers [] [] (begun start d) order entries (record { theory = end; numbers = run.numbers }) k cites short good.each (begun_sound start d given) numbered turns run.answered none taken in
        ap (answer_cites_marked marks) (one_value (slice_get answers k) a found.0 at found.1) ∙ found.2
