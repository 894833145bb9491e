-- A derivation whose lines are all accepted is good: so the premise that it is good asks no more than is found.
use Rattle.std.proofs.Common.{◌≡◌, ◌⊎◌, inl, inr, ℕ, ◌≤◌, Bool, true, false, List, [], ◌∷◌, ◌++◌, length, Option, None, Some, slice_get, refl, sym, ◌∙◌, ap, subst}
use Rattle.std.proofs.lemmas.Option.{slice_get_within}
use Rattle.fof_terms.specs.Vocabulary.{Vocabulary}
use Rattle.fof_terms.specs.declared.form.Form.{Form}
use Rattle.clause_form.specs.Paths.{forms_of}
use Rattle.clause_form.specs.declared.path.Parent.{Parent}
use Rattle.kernel.specs.Statements.{Statements}
use Rattle.kernel.specs.declared.entry.Entry.{Entry}
use Rattle.elaborate.specs.ByRule.{rules, leaf_rules}
use Rattle.elaborate.specs.declared.answer.Rule.{Rule}
use Rattle.elaborate.specs.declared.answer.Rule.TheVariants.{Search, Sat}
use Rattle.elaborate.specs.declared.answer.StepAnswer.TheVariants as step
use Rattle.tstp_graph.specs.declared.shape.Ref.{Ref}
use Rattle.tstp_graph.specs.declared.shape.Ref.TheVariants as ref
use Rattle.verifier.specs.Marks.{answer_cites_marked, cites_marked, some_marked_ref}
use Rattle.verifier.specs.Good.{cited_form, cited_forms, without_numbers, so_far, cited_by_leaf, FollowsAs, Follows, FollowInTurn, IsGood}
use Rattle.verifier.specs.Lines.{Derivation, Line, IsLineAt, parent_of, parents_of, candidates_of}
use Rattle.verifier.specs.Report.{AreAccepted, HasFalse}
use Rattle.verifier.specs.Unsearched.{AreUnsearched, IsUnsearched}
use Rattle.verifier.specs.Run.{Progress, AnswersKind, AreAnswered, IsAnswered, IsRun, begun}
use Rattle.verifier.specs.declared.answer.LineAnswer.{LineAnswer}
use Rattle.verifier.specs.declared.answer.LineAnswer.TheVariants.{Accepted, Unverified, Skipped}
use Rattle.verifier.proofs.Citing.{one_unmarked}
use Rattle.verifier.proofs.Counting.{IsAccepted, one_accepted}
use Rattle.verifier.proofs.Derived.{ByARule, ByASearch, IsRuled, kind_ways}
use Rattle.verifier.proofs.Goodness.{IsSound, accepts, begun_sound, candidates_alike, forms_without_numbers}
use Rattle.verifier.proofs.Knowing.{accepted_is, both_is, with_number_is}
use Rattle.verifier.proofs.Marking.{answered_marked, unmarked_both}
use Rattle.verifier.proofs.Numbers.{IsNumbered, answer_numbered, begun_numbered}
use Rattle.verifier.proofs.Renumbering.{first_alike_rule, alone_alike_rule}
use Rattle.verifier.proofs.Symbols.{SameSymbols, other_way}

parent_form : (d : Derivation) (numbers : List (Option ℕ)) (r : Ref) (q : Parent) → parent_of d.given d.forms numbers r ≡ Some q → cited_form d.given d.forms r ≡ Some q.form
parent_form d numbers (ref.Given place) q is = (with_number_is place (slice_get d.given place) q is).0
parent_form d numbers (ref.Line place) q is = (accepted_is (slice_get numbers place) (slice_get d.forms place) q is).1

pub parents_forms : (d : Derivation) (numbers : List (Option ℕ)) (rs : List Ref) (qs : List Parent) → parents_of d.given d.forms numbers rs ≡ Some qs → cited_forms d.given d.forms rs ≡ Some (forms_of qs)
parents_forms d numbers [] qs is = let none : qs ≡ [] = cc in ap (λ (ps : List Parent). Some (forms_of ps)) (sym none)
parents_forms d numbers (r ∷ rs) qs is =
    let parts = both_is (parent_of d.given d.forms numbers r) (parents_of d.given d.forms numbers rs) qs is in
    rw (parent_form d numbers r parts.0 parts.2, parents_forms d numbers rs parts.1 parts.3) (ap (λ (ps : List Parent). Some (forms_of ps)) (sym parts.4))

-- what a line that is accepted by a rule cites by its text, and that it follows so
pub kind_follows : (is_leaf : Bool) (t u : Statements) (given : List Form) (cited : Bool) (refs : List Ref) (parents : List Parent) (form : Form) (rule : Rule) (cites : List ℕ) → SameSymbols t u → IsRuled is_leaf t given cited parents form rule cites
    → (own : List Ref) × FollowsAs is_leaf u given cited refs (forms_of parents) form own
kind_follows false t u given cited refs parents form rule cites same (by, cites_are) =
    (refs, (rule, first_alike_rule rules t u form rule parents (without_numbers (forms_of parents)) same (sym (forms_without_numbers (forms_of parents))) by, refl))
kind_follows true t u given cited refs parents form rule cites same (i, c, there, leaf, cites_are) = (
  cited_by_leaf cited refs i,
  (
    rule,
    i,
    alone_alike_rule leaf_rules t u form rule i (candidates_of given cited parents) (candidates_of given cited (without_numbers (forms_of parents))) same
        (candidates_alike given cited parents (without_numbers (forms_of parents)) (sym (forms_without_numbers (forms_of parents)))) leaf,
    refl,
  ),
)

-- a line that is accepted, and neither by a search nor by a decision, is accepted by a rule
pub not_searched : (is_leaf : Bool) (t : Statements) (d : Derivation) (cited : Bool) (parents : List Parent) (form : Form) (rule : Rule) (cites : List ℕ) (entries : List Entry) → IsUnsearched (Accepted rule cites) → AnswersKind is_leaf t d cited parents form (step.Accepted rule cites entries)
    → ByARule is_leaf t d.given cited parents form rule cites entries
not_searched is_leaf t d cited parents form rule cites entries direct answers = by (kind_ways is_leaf t d cited parents form rule cites entries answers)
  where
    neither : (rule ≡ Search) ⊎ (rule ≡ Sat) → ⊥
    neither (inl is) = direct.0 is
    neither (inr is) = direct.1 is

    by : ByARule is_leaf t d.given cited parents form rule cites entries ⊎ ByASearch is_leaf t d.given cited parents form rule cites entries → ByARule is_leaf t d.given cited parents form rule cites entries
    by (inl ruled) = ruled
    by (inr found) = absurd (neither found.rule_is)

-- A line that is accepted follows, and what it cites by its text is marked where what the answer cites is.
record IsFollowed (v : Vocabulary) (d : Derivation) (taken : List ℕ) (earlier : List Form) (place : ℕ) (line : Line) (answer : LineAnswer) (new : Progress) : Type 0 where
  cites : List Ref
  follows : Follows (so_far v d.given earlier) d line cites
  sound : IsSound v d (taken ++ place ∷ []) (earlier ++ line.form ∷ []) new
  marked : (marks : List Bool) → length marks ≤ length d.given → answer_cites_marked marks answer ≡ some_marked_ref marks cites

module _ (v : Vocabulary) (d : Derivation) (taken : List ℕ) (earlier : List Form) (old : Progress) (place : ℕ) (line : Line) (entries : List Entry) (new : Progress) (there : IsLineAt d place line) (sound : IsSound v d taken earlier old) (numbered : IsNumbered (length d.given) d old) where
  answer_follows : (parents : Option (List Parent)) (answer : LineAnswer) → parents_of d.given d.forms old.numbers line.node.parents ≡ parents → IsAccepted answer → IsUnsearched answer → IsAnswered d old place line parents answer entries new → IsFollowed v d taken earlier place line answer new
  answer_follows parents Skipped known good direct is = absurd good
  answer_follows parents (Unverified reason) known good direct is = absurd good
  answer_follows None (Accepted rule cites) known good direct is = absurd is
  answer_follows (Some parents) (Accepted rule cites) known good direct is =
      let u = so_far v d.given earlier in
      let forms = forms_of parents in
      let ruled = not_searched line.node.leaf old.theory d line.node.cited parents line.form rule cites entries direct is.0 in
      let follows = kind_follows line.node.leaf old.theory u d.given line.node.cited line.node.parents parents line.form rule cites sound.same ruled.ruled in
      record {
        cites = follows.0;
        follows = (forms, parents_forms d old.numbers line.node.parents parents known, follows.1);
        sound = (accepts v d taken earlier old place line parents forms follows.0 (Accepted rule cites) entries new sound (slice_get_within d.nodes place line.node there.node) refl follows.1 is).1;
        marked = λ marks short. answered_marked marks d old place line u follows.0 parents forms (Accepted rule cites) entries new short numbered (other_way old.theory u sound.same) refl known follows.1 tt is;
      }

-- the lines of a run follow in turn
record AreFollowed (v : Vocabulary) (d : Derivation) (earlier : List Form) (places : List ℕ) (answers : List LineAnswer) : Type 0 where
  cites : List Ref
  follow : FollowInTurn v d earlier places cites
  unmarked : (marks : List Bool) → length marks ≤ length d.given → cites_marked marks answers ≡ false → some_marked_ref marks cites ≡ false

answers_follow : (v : Vocabulary) (d : Derivation) (answers : List LineAnswer) (taken : List ℕ) (earlier : List Form) (old : Progress) (places : List ℕ) (entries : List Entry) (new : Progress) → IsSound v d taken earlier old → IsNumbered (length d.given) d old → AreAccepted answers → AreUnsearched answers → AreAnswered d answers old places entries new → AreFollowed v d earlier places answers
answers_follow v d answers taken earlier old [] entries new sound numbered all direct are = record { cites = []; follow = refl; unmarked = λ marks short none. refl }
answers_follow v d answers taken earlier old (place ∷ places) entries new sound numbered all direct (own, mid, a, (later, is, rest)) =
    let parents = parents_of d.given d.forms old.numbers a.line.node.parents in
    let here = answer_follows v d taken earlier old place a.line own mid a.there sound numbered parents a.answer refl (one_accepted answers place a.answer all a.answer_there) (direct place a.answer a.answer_there) a.is in
    let behind = answers_follow v d answers (taken ++ place ∷ []) (earlier ++ a.line.form ∷ []) mid places later new here.sound (answer_numbered (length d.given) d old place a.line parents a.answer own mid a.there a.is numbered) all direct rest in
    record {
      cites = here.cites ++ behind.cites;
      follow = (a.line, here.cites, behind.cites, a.there, refl, here.follows, behind.follow);
      unmarked = λ marks short none. unmarked_both marks here.cites behind.cites (sym (here.marked marks short) ∙ one_unmarked marks answers place a.answer none a.answer_there) (behind.unmarked marks short none);
    }

-- the derivation is good, and cites what is marked only where an answer does
pub accepted_good : (start : Statements) (d : Derivation) (order : List ℕ) (answers : List LineAnswer) (entries : List Entry) (end : Statements) → start.formulas ≡ d.given → IsRun start d order answers entries end → AreAccepted answers → AreUnsearched answers → HasFalse d.forms
    → (cites : List Ref) × IsGood start.vocabulary d order cites × ((marks : List Bool) → length marks ≤ length d.given → cites_marked marks answers ≡ false → some_marked_ref marks cites ≡ false)
accepted_good start d order answers entries end given run all direct ends =
    let numbered = subst (λ (fs : List Form). IsNumbered (length fs) d (begun start d)) given (begun_numbered start d) in
    let found = answers_follow start.vocabulary d answers [] [] (begun start d) order entries (record { theory = end; numbers = run.numbers }) (begun_sound start d given) numbered all direct run.answered in
    (found.cites, record { each = found.follow; ends = ends }, found.unmarked)
