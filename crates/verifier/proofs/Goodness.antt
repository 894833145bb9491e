-- A run of a good derivation accepts each line.
use Rattle.std.proofs.Common.{◌≡◌, ◌⊎◌, ℕ, ◌+◌, ◌-◌, ◌<◌, inl, inr, ◌==◌, ◌||◌, Bool, true, false, List, [], ◌∷◌, ◌++◌, length, map, Option, None, Some, slice_get, slice_set, refl, sym, ◌∙◌, ap, subst, arith}
use Rattle.std.specs.List.{list_all}
use Rattle.std.proofs.lemmas.Bool.Decides.{nat_tests}
use Rattle.std.proofs.lemmas.List.{append-nil, length-set, length-replicate}
use Rattle.std.proofs.lemmas.Option.{slice_get_within}
use Rattle.fof_terms.specs.Vocabulary.{Vocabulary}
use Rattle.fof_terms.specs.declared.form.Form.{Form}
use Rattle.clause_form.specs.declared.path.Parent.{Parent}
use Rattle.kernel.specs.Statements.{Statements}
use Rattle.kernel.specs.declared.entry.Entry.{Entry}
use Rattle.elaborate.specs.ByRule.{IsFirst, IsNone, IsFirstAlone, IsNoneAlone, rules, leaf_rules}
use Rattle.elaborate.specs.declared.answer.Rule.{Rule}
use Rattle.elaborate.specs.declared.answer.Reason.{Reason}
use Rattle.elaborate.specs.declared.answer.StepAnswer.TheVariants as step
use Rattle.tstp_graph.specs.declared.shape.Ref.{Ref}
use Rattle.tstp_graph.specs.declared.shape.Ref.TheVariants as ref
use Rattle.tstp_graph.specs.declared.shape.Node.{Node}
use Rattle.tstp_graph.specs.Order.{is_taken, is_done, TakesInTurn, first_left}
use Rattle.verifier.specs.Good.{cited_form, cited_forms, without_numbers, so_far, FollowsAs, Follows, FollowInTurn, IsGood}
use Rattle.verifier.specs.Lines.{Derivation, Line, IsLineAt, numbered, parent_of, parents_of, candidates_of}
use Rattle.verifier.specs.Report.{AreAccepted}
use Rattle.verifier.specs.Run.{Progress, AnswersKind, AnswersPlace, AreAnswered, IsAnswered, IsRun, begun}
use Rattle.verifier.specs.declared.answer.LineAnswer.{LineAnswer}
use Rattle.verifier.specs.declared.answer.LineAnswer.TheVariants.{Accepted, Unverified, Skipped}
use Rattle.verifier.proofs.Counting.{IsAccepted, all_accepted}
use Rattle.verifier.proofs.Derived.{ByARule, ByASearch, IsUnruled, kind_unruled, kind_ways, ruled_theory}
use Rattle.verifier.proofs.Knowing.{both_is}
use Rattle.verifier.proofs.Renumbering.{Alike, first_alike_rule, alone_alike_rule}
use Rattle.verifier.proofs.Slots.{set_here, set_elsewhere, one_value, has_value}
use Rattle.verifier.proofs.Symbols.{SameSymbols, same_symbols, other_way, gained_same}
use Rattle.verifier.proofs.Turns.{HasTurn, turn_of, taken_more, none_left, both_true}

-- a rule that is the first to hold, and no rule that holds
first_or_none : (rs : List Rule) (t : Statements) (parents : List Parent) (line : Form) (rule : Rule) → IsFirst rs t parents line rule → IsNone rs t parents line → ⊥
first_or_none [] t parents line rule first none = first
first_or_none (r ∷ rs) t parents line rule (inl (same, holds)) none = none.0 holds
first_or_none (r ∷ rs) t parents line rule (inr (fails, rest)) none = first_or_none rs t parents line rule rest none.1

alone_or_none : (rs : List Rule) (t : Statements) (candidates : List Parent) (line : Form) (rule : Rule) (i : ℕ) → IsFirstAlone rs t candidates line rule i → IsNoneAlone rs t candidates line → ⊥
alone_or_none [] t candidates line rule i first none = first
alone_or_none (r ∷ rs) t candidates line rule i (inl (same, gives)) none = none.0 i gives.0
alone_or_none (r ∷ rs) t candidates line rule i (inr (fails, rest)) none = alone_or_none rs t candidates line rule i rest none.1

-- the parents have these formulas
abbrev pub HaveForms : List Parent → List Form → Type 0
HaveForms parents forms = map (λ (p : Parent). p.form) parents ≡ forms

pub forms_without_numbers : (forms : List Form) → HaveForms (without_numbers forms) forms
forms_without_numbers [] = refl
forms_without_numbers (form ∷ forms) = ap (λ (fs : List Form). form ∷ fs) (forms_without_numbers forms)

pub candidates_alike : (given : List Form) (cited : Bool) (ps qs : List Parent) → Alike ps qs → Alike (candidates_of given cited ps) (candidates_of given cited qs)
candidates_alike given true ps qs same = same
candidates_alike given false ps qs same = refl

-- a line that follows by the texts has a rule in a theory with the same symbols
pub never_unruled : (is_leaf : Bool) (t u : Statements) (given : List Form) (cited : Bool) (refs cites : List Ref) (parents : List Parent) (forms : List Form) (form : Form) → SameSymbols u t → HaveForms parents forms → FollowsAs is_leaf u given cited refs forms form cites → IsUnruled is_leaf t given cited parents form → ⊥
never_unruled is_leaf t u given cited refs cites parents forms form same have = by is_leaf
  where
    alike : Alike (without_numbers forms) parents
    alike = forms_without_numbers forms ∙ sym have

    by : (is_leaf : Bool) → FollowsAs is_leaf u given cited refs forms form cites → IsUnruled is_leaf t given cited parents form → ⊥
    by true (rule, i, follows, is) none =
        alone_or_none leaf_rules t (candidates_of given cited parents) form rule i
        (alone_alike_rule leaf_rules u t form rule i (candidates_of given cited (without_numbers forms)) (candidates_of given cited parents) same (candidates_alike given cited (without_numbers forms) parents alike) follows) none
    by false (rule, follows, is) none = first_or_none rules t parents form rule (first_alike_rule rules u t form rule (without_numbers forms) parents same alike follows) none

-- so it is not unverified
pub never_unverified : (is_leaf : Bool) (t u : Statements) (d : Derivation) (cited : Bool) (refs cites : List Ref) (parents : List Parent) (forms : List Form) (form : Form) (reason : Reason) → SameSymbols u t → HaveForms parents forms → FollowsAs is_leaf u d.given cited refs forms form cites → AnswersKind is_leaf t d cited parents form (step.Unverified reason) → ⊥
never_unverified is_leaf t u d cited refs cites parents forms form reason same have follows answers =
    never_unruled is_leaf t u d.given cited refs cites parents forms form same have follows (kind_unruled is_leaf t d cited parents form reason answers)

-- and is accepted by a rule
pub follows_ruled : (is_leaf : Bool) (t u : Statements) (d : Derivation) (cited : Bool) (refs own : List Ref) (parents : List Parent) (forms : List Form) (form : Form) (rule : Rule) (cites : List ℕ) (entries : List Entry) → SameSymbols u t → HaveForms parents forms → FollowsAs is_leaf u d.given cited refs forms form own
    → AnswersKind is_leaf t d cited parents form (step.Accepted rule cites entries) → ByARule is_leaf t d.given cited parents form rule cites entries
follows_ruled is_leaf t u d cited refs own parents forms form rule cites entries same have follows answers = by (kind_ways is_leaf t d cited parents form rule cites entries answers)
  where
    by : ByARule is_leaf t d.given cited parents form rule cites entries ⊎ ByASearch is_leaf t d.given cited parents form rule cites entries → ByARule is_leaf t d.given cited parents form rule cites entries
    by (inl ruled) = ruled
    by (inr found) = absurd (never_unruled is_leaf t u d.given cited refs own parents forms form same have follows found.unruled)

-- What is known of a run of a good derivation: the lines that are taken have numbers, and the theory has the symbols of
-- what is given and of the lines so far.
pub record IsSound (v : Vocabulary) (d : Derivation) (taken : List ℕ) (earlier : List Form) (p : Progress) : Type 0 where
  pub same : SameSymbols p.theory (so_far v d.given earlier)
  pub count : length p.numbers ≡ length d.nodes
  pub numbers : (k : ℕ) → is_taken taken k ≡ true → (n : ℕ) × (slice_get p.numbers k ≡ Some (Some n))

-- a parent that is given or taken
found_parent : (v : Vocabulary) (d : Derivation) (taken : List ℕ) (earlier : List Form) (p : Progress) (r : Ref) (form : Form) → IsSound v d taken earlier p → is_done (is_taken taken) r ≡ true → cited_form d.given d.forms r ≡ Some form → (n : ℕ) × (parent_of d.given d.forms p.numbers r ≡ Some (numbered n form))
found_parent v d taken earlier p (ref.Given place) form sound done is = (place, rw is refl)
found_parent v d taken earlier p (ref.Line place) form sound done is = let number = sound.numbers place done in (number.0, rw (number.1, is) refl)

-- the parents of a line that has its turn
pub found_parents : (v : Vocabulary) (d : Derivation) (taken : List ℕ) (earlier : List Form) (p : Progress) (rs : List Ref) (forms : List Form) → IsSound v d taken earlier p → list_all (is_done (is_taken taken)) rs ≡ true → cited_forms d.given d.forms rs ≡ Some forms → (parents : List Parent) × (parents_of d.given d.forms p.numbers rs ≡ Some parents) × HaveForms parents forms
found_parents v d taken earlier p [] forms sound done is = ([], refl, cc)
found_parents v d taken earlier p (r ∷ rs) forms sound done is =
    let parts = both_is (cited_form d.given d.forms r) (cited_forms d.given d.forms rs) forms is in
    let dones = both_true (is_done (is_taken taken) r) (list_all (is_done (is_taken taken)) rs) done in
    let first = found_parent v d taken earlier p r parts.0 sound dones.0 parts.2 in
    let rest = found_parents v d taken earlier p rs parts.1 sound dones.1 parts.3 in (
      numbered first.0 parts.0 ∷ rest.0,
      rw (first.1, rest.1) refl,
      ap (λ (fs : List Form). parts.0 ∷ fs) rest.2 ∙ sym parts.4,
    )

-- a line that follows from the parents that it has is accepted, and is taken then
pub accepts : (v : Vocabulary) (d : Derivation) (taken : List ℕ) (earlier : List Form) (old : Progress) (place : ℕ) (line : Line) (parents : List Parent) (forms : List Form) (cites : List Ref) (answer : LineAnswer) (entries : List Entry) (new : Progress) → IsSound v d taken earlier old → place < length d.nodes
    → HaveForms parents forms → FollowsAs line.node.leaf (so_far v d.given earlier) d.given line.node.cited line.node.parents forms line.form cites → IsAnswered d old place line (Some parents) answer entries new → IsAccepted answer × IsSound v d (taken ++ place ∷ []) (earlier ++ line.form ∷ []) new
accepts v d taken earlier old place line parents forms cited Skipped entries new sound within have follows is = absurd is
accepts v d taken earlier old place line parents forms cited (Unverified reason) entries new sound within have follows is =
    absurd (never_unverified line.node.leaf old.theory (so_far v d.given earlier) d line.node.cited line.node.parents cited parents forms line.form reason (other_way old.theory (so_far v d.given earlier) sound.same) have follows is.0)
accepts v d taken earlier old place line parents forms cited (Accepted rule cites) entries new sound within have follows (answers, (theory, admits, is)) = (
  tt,
  subst (IsSound v d (taken ++ place ∷ []) (earlier ++ line.form ∷ [])) (sym is) (record {
    same = gained_same v d.given earlier old.theory theory line.form sound.same (ruled_theory old.theory theory cites entries line.form ruled.derived admits);
    count = length-set old.numbers place (Some (length theory.formulas - 1)) ∙ sound.count;
    numbers = numbers;
  }),
)
  where
    ruled : ByARule line.node.leaf old.theory d.given line.node.cited parents line.form rule cites entries
    ruled = follows_ruled line.node.leaf old.theory (so_far v d.given earlier) d line.node.cited line.node.parents cited parents forms line.form rule cites entries (other_way old.theory (so_far v d.given earlier) sound.same) have follows answers

    numbers : (k : ℕ) → is_taken (taken ++ place ∷ []) k ≡ true → (n : ℕ) × (slice_get (slice_set old.numbers place (Some (length theory.formulas - 1))) k ≡ Some (Some n))
    numbers k is_now = by (k == place) refl
      where
        by : (b : Bool) → (k == place) ≡ b → (n : ℕ) × (slice_get (slice_set old.numbers place (Some (length theory.formulas - 1))) k ≡ Some (Some n))
        by true test =
            let same : k ≡ place = grind (arith, nat_tests) in
            (length theory.formulas - 1, ap (slice_get (slice_set old.numbers place (Some (length theory.formulas - 1)))) same ∙ set_here old.numbers place (Some (length theory.formulas - 1)) (omega (arith, within, sound.count)))
        by false test =
            let apart : k ≡ place → ⊥ = λ same. grind (arith, nat_tests) in
            let before = sound.numbers k (taken_more taken place k is_now apart) in
            (before.0, set_elsewhere old.numbers place k (Some (length theory.formulas - 1)) apart ∙ before.1)

abbrev line_of : Node → Form → Line
line_of node form = record { node = node; form = form }

-- one line stands at a place
pub same_line : (d : Derivation) (place : ℕ) (l m : Line) → IsLineAt d place l → IsLineAt d place m → l ≡ m
same_line d place l m first second =
    ap (λ (n : Node). line_of n l.form) (one_value (slice_get d.nodes place) l.node m.node first.node second.node)
    ∙ ap (λ (f : Form). line_of m.node f) (one_value (slice_get d.forms place) l.form m.form first.form second.form)

-- The line that has its turn has all its parents, and the answer is to the line with them.
pub record TurnParents (d : Derivation) (old : Progress) (place : ℕ) (entries : List Entry) (new : Progress) (line : Line) (forms : List Form) (answer : LineAnswer) : Type 0 where
  pub parents : List Parent
  pub known : parents_of d.given d.forms old.numbers line.node.parents ≡ Some parents
  pub have : HaveForms parents forms
  pub is : IsAnswered d old place line (Some parents) answer entries new

pub turn_parents : (v : Vocabulary) (d : Derivation) (answers : List LineAnswer) (taken : List ℕ) (earlier : List Form) (old : Progress) (place : ℕ) (entries : List Entry) (new : Progress) (line : Line) (cites : List Ref) → IsLineAt d place line → (follows : Follows (so_far v d.given earlier) d line cites) → IsSound v d taken earlier old → HasTurn d.nodes taken place
    → (a : AnswersPlace d answers old place entries new) → TurnParents d old place entries new line follows.0 a.answer
turn_parents v d answers taken earlier old place entries new line cites there follows sound turn a =
    let same : turn.node ≡ line.node = one_value (slice_get d.nodes place) turn.node line.node turn.there there.node in
    let done : list_all (is_done (is_taken taken)) line.node.parents ≡ true = subst (λ (n : Node). list_all (is_done (is_taken taken)) n.parents ≡ true) same turn.behind in
    let parents = found_parents v d taken earlier old line.node.parents follows.0 sound done follows.1 in
    let here : IsAnswered d old place line (parents_of d.given d.forms old.numbers line.node.parents) a.answer entries new =
    subst (λ (l : Line). IsAnswered d old place l (parents_of d.given d.forms old.numbers l.node.parents) a.answer entries new) (same_line d place a.line line a.there there) a.is in
    record {
      parents = parents.0;
      known = parents.1;
      have = parents.2;
      is = subst (λ (ps : Option (List Parent)). IsAnswered d old place line ps a.answer entries new) parents.1 here;
    }

-- the line that has its turn, and follows, is accepted
pub turn_accepted : (v : Vocabulary) (d : Derivation) (answers : List LineAnswer) (taken : List ℕ) (earlier : List Form) (old : Progress) (place : ℕ) (entries : List Entry) (new : Progress) (line : Line) (cites : List Ref) → IsLineAt d place line → Follows (so_far v d.given earlier) d line cites → IsSound v d taken earlier old → HasTurn d.nodes taken place
    → (a : AnswersPlace d answers old place entries new) → IsAccepted a.answer × IsSound v d (taken ++ place ∷ []) (earlier ++ line.form ∷ []) new
turn_accepted v d answers taken earlier old place entries new line cites there follows sound turn a =
    let found = turn_parents v d answers taken earlier old place entries new line cites there follows sound turn a in
    accepts v d taken earlier old place line found.parents follows.0 cites a.answer entries new sound (slice_get_within d.nodes place turn.node turn.there) found.have follows.2 found.is

-- each line that has its turn later is accepted
later_accepted : (v : Vocabulary) (d : Derivation) (answers : List LineAnswer) (taken : List ℕ) (earlier : List Form) (old : Progress) (places : List ℕ) (entries : List Entry) (new : Progress) (k : ℕ) (cites : List Ref) → FollowInTurn v d earlier places cites → IsSound v d taken earlier old → TakesInTurn d.nodes taken places
    → AreAnswered d answers old places entries new → is_taken places k ≡ true → (a : LineAnswer) × (slice_get answers k ≡ Some a) × IsAccepted a
later_accepted v d answers taken earlier old [] entries new k cites follow sound turns are is = absurd (cc)
later_accepted v d answers taken earlier old (place ∷ places) entries new k cites (line, line_cites, later_cites, there, cites_are, follows, follow) sound turns (own, mid, a, (later, entries_are, rest)) is =
    let here = turn_accepted v d answers taken earlier old place own mid line line_cites there follows sound (turn_of d.nodes taken place turns.0) a in
    by (place == k) refl is (a.answer, a.answer_there, here.0) (later_accepted v d answers (taken ++ place ∷ []) (earlier ++ line.form ∷ []) mid places later new k later_cites follow here.1 turns.1 rest)
  where
    by : (b : Bool) → (place == k) ≡ b → (b || is_taken places k) ≡ true → ((a : LineAnswer) × (slice_get answers place ≡ Some a) × IsAccepted a) → (is_taken places k ≡ true → (a : LineAnswer) × (slice_get answers k ≡ Some a) × IsAccepted a) → (a : LineAnswer) × (slice_get answers k ≡ Some a) × IsAccepted a
    by false test is first on = on is
    by true test is first on = let same : place ≡ k = grind (arith, nat_tests) in (first.0, ap (slice_get answers) (sym same) ∙ first.1, first.2)

-- before the first line
pub begun_sound : (start : Statements) (d : Derivation) → start.formulas ≡ d.given → IsSound start.vocabulary d [] [] (begun start d)
begun_sound start d given = record { same = begins; count = length-replicate (length d.nodes) None; numbers = λ k is. absurd (cc) }
  where
    begins : SameSymbols start (so_far start.vocabulary d.given [])
    begins = subst (λ (fs : List Form). SameSymbols start (record { vocabulary = start.vocabulary; formulas = fs })) (given ∙ sym (append-nil d.given)) (same_symbols start)

-- a good derivation is accepted whole
pub good_accepted : (start : Statements) (d : Derivation) (order : List ℕ) (cites : List Ref) (answers : List LineAnswer) (entries : List Entry) (end : Statements) → start.formulas ≡ d.given → IsGood start.vocabulary d order cites → TakesInTurn d.nodes [] order → first_left (is_taken order) 0 d.nodes ≡ None
    → IsRun start d order answers entries end → AreAccepted answers
good_accepted start d order cites answers entries end given good turns all run = all_accepted answers each
  where
    sound : IsSound start.vocabulary d [] [] (begun start d)
    sound = begun_sound start d given

    each : (k : ℕ) (a : LineAnswer) → slice_get answers k ≡ Some a → IsAccepted a
    each k a at =
        let node = has_value d.nodes k (omega (arith, run.count, slice_get_within answers k a at)) in
        let zero_more : 0 + k ≡ k = omega arith in
        let taken : is_taken order k ≡ true = ap (is_taken order) (sym zero_more) ∙ none_left (is_taken order) 0 d.nodes k node.0 all node.1 in
        let found = later_accepted start.vocabulary d answers [] [] (begun start d) order entries (record { theory = end; numbers = run.numbers }) k cites good.each sound turns run.answered taken in
        subst IsAccepted (one_value (slice_get answers k) found.0 a found.1 at) found.2
