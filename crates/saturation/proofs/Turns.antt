-- The turns of a search, and its answers.
use Rattle.std.specs.Prelude.{ℕ, ◌+◌, ◌<◌, ◌≤◌, List, [], ◌∷◌, ◌++◌, ◌≡◌, map, Some, None, length, Bool, false, Option, MatchOption, refl}
use Rattle.std.specs.List.{All as Each, AllByRecursion}
use Rattle.std.proofs.Common.{ap, sym, subst, ◌∙◌, arith, inl, inr}
use Rattle.std.proofs.lemmas.List.Elements.{All-push, All-weaker, All-nil, All-contains, recursion_from_All}
use Rattle.std.proofs.lemmas.List.{length-map, length-append, map-append, take-append-le, take_at}
use Rattle.fof_terms.specs.Vocabulary.{Vocabulary}
use Rattle.fof_terms.specs.Lift.{greatest}
use Rattle.clause_form.specs.declared.clause.Clause.{Clause}
use Rattle.clause_index.specs.declared.entry.Entry.{Entry}
use Rattle.saturation.specs.declared.member.Member.{Member}
use Rattle.saturation.specs.declared.known.Known.{Known}
use Rattle.saturation.specs.declared.outcome.Outcome.TheVariants.{Refuted, Dry, Full, Heavy}
use Rattle.clause_order.specs.Weights.{clause_weight}
use Rattle.superpose.specs.Drafts.{IsClause}
use Rattle.saturation.specs.Lists.{bound_of, IsCoveredIn}
use Rattle.saturation.specs.Members.{clauses_of}
use Rattle.saturation.specs.Origins.{IsMade, NamesOne}
use Rattle.saturation.specs.code.Entered.{AreEntered}
use Rattle.saturation.specs.code.Known.{AreKnown, IsKnown}
use Rattle.saturation.specs.code.Search.{IsUnderWay, IsMadeWith, IsFound, IsQueued, IsTooHeavy, AreKept}
use Rattle.saturation.specs.code.Steps.{Sifts, IsNext, AreCoveredIn, AnswersAs}
use Rattle.saturation.specs.code.Turns.{TakesTurn}
use Rattle.saturation.proofs.Lists.{got_pushed, each_of, to_mapped}
use Rattle.saturation.specs.code.Given.{AreGiven}
use Rattle.saturation.proofs.Passing.{IsTurning}
use Rattle.saturation.proofs.Givens.{given_under_way}
use Rattle.saturation.proofs.UnderWay.{found_offered, waits, after_member, full_at, dry_at, heavy_at, full_by_heavy}

count : (list : List Member) → length (clauses_of list) ≡ length list
count list = length-map list (λ (m : Member). m.clause)

pub clauses_then : (list longer : List Member) (x : Member) → longer ≡ list ++ x ∷ [] → clauses_of longer ≡ clauses_of list ++ x.clause ∷ []
clauses_then list longer x is = ap clauses_of is ∙ map-append (λ (m : Member). m.clause) list (x ∷ [])

-- a member that was found is kept
kept_push : (v : Vocabulary) (whole : Bool) (inputs : List Clause) (list : List Member) (x : Member) → AreKept v whole inputs list → IsFound v whole inputs (clauses_of list) x → AreKept v whole inputs (list ++ x ∷ [])
kept_push v whole inputs list x h found = record {
  made = λ i m e.
      elim (got_pushed list x i m e) [
        | inl k ↦
            let within : i ≤ length list = let a = k.0 in omega arith in
            subst (λ (ms : List Member). IsMade v inputs (clauses_of ms) m) (sym (take-append-le i list (x ∷ []) within)) (h.made i m k.1)
        | inr k ↦
            subst (λ (ms : List Member). IsMade v inputs (clauses_of ms) m) (sym (take_at list (x ∷ []) i (sym k.0)))
            (subst (λ (y : Member). IsMade v inputs (clauses_of list) y) (sym k.1) found.made)
      ];
  alone = λ blind. All-push (λ m. NamesOne m.origin) list x (h.alone blind) (found.alone blind);
}

pub kept_then : (v : Vocabulary) (whole : Bool) (inputs : List Clause) (list longer : List Member) (x : Member) → longer ≡ list ++ x ∷ [] → AreKept v whole inputs list → IsFound v whole inputs (clauses_of list) x
    → AreKept v whole inputs longer
kept_then v whole inputs list longer x is h found = subst (AreKept v whole inputs) (sym is) (kept_push v whole inputs list x h found)

known_push : (list : List Clause) (known : List Known) (c : Clause) (k : Known) → AreKnown list known → IsKnown c k → AreKnown (list ++ c ∷ []) (known ++ k ∷ [])
known_push list known c k h is = record {
  many = let a = h.many in simp length-append (omega arith);
  each = λ i d l e f.
      elim (got_pushed list c i d e) [
        | inl m ↦
            elim (got_pushed known k i l f) [
              | inl n ↦ h.each i d l m.1 n.1
              | inr n ↦ let a = h.many in let b = m.0 in let d = n.0 in absurd (omega arith)
            ]
        | inr m ↦
            elim (got_pushed known k i l f) [
              | inl n ↦ let a = h.many in let b = m.0 in let d = n.0 in absurd (omega arith)
              | inr n ↦ subst (λ y. IsKnown y l) (sym m.1) (subst (λ y. IsKnown c y) (sym n.1) is)
            ]
      ];
}

known_then : (list longer : List Member) (known more : List Known) (x : Member) (k : Known) → longer ≡ list ++ x ∷ [] → more ≡ known ++ k ∷ [] → AreKnown (clauses_of list) known → IsKnown x.clause k
    → AreKnown (clauses_of longer) more
known_then list longer known more x k is also h fact =
    subst (λ (cs : List Clause). AreKnown cs more) (sym (clauses_then list longer x is))
    (subst (λ (ks : List Known). AreKnown (clauses_of list ++ x.clause ∷ []) ks) (sym also) (known_push (clauses_of list) known x.clause k h fact))

-- the terms of one clause more were entered
pub entered_then : (list longer : List Member) (x : Member) (literals terms : List Entry) → longer ≡ list ++ x ∷ []
    → AreEntered (clauses_of list ++ x.clause ∷ []) literals terms → AreEntered (clauses_of longer) literals terms
entered_then list longer x literals terms is h = subst (λ (cs : List Clause). AreEntered cs literals terms) (sym (clauses_then list longer x is)) h

-- what the next member is, at the list that was lent
pub next_as : (v : Vocabulary) (whole : Bool) (inputs : List Clause) (list lent queue rest heavy : List Member) (r answer : Option Member) → lent ≡ list → IsUnderWay v whole inputs (clauses_of list) [] queue heavy
    → ((whole : Bool) (inputs : List Clause) (heavy : List Member) → IsUnderWay v whole inputs (clauses_of lent) [] queue heavy → IsNext v whole inputs (clauses_of lent) rest heavy r)
    → r ≡ answer → IsNext v whole inputs (clauses_of list) rest heavy answer
next_as v whole inputs list lent queue rest heavy r answer same h next is =
    subst (IsNext v whole inputs (clauses_of list) rest heavy) is
    (subst (λ (l : List Member). IsNext v whole inputs (clauses_of l) rest heavy r) same (next whole inputs heavy (subst (λ (l : List Member). IsUnderWay v whole inputs (clauses_of l) [] queue heavy) (sym same) h)))

pub next_found : (v : Vocabulary) (whole : Bool) (inputs list : List Clause) (rest heavy : List Member) (x : Member) → IsNext v whole inputs list rest heavy (Some x) → IsFound v whole inputs list x
next_found v whole inputs list rest heavy x next = (waits v whole inputs list next.0 rest heavy x next.1 next.2).found

-- one member more, with what was made of it
joined : (v : Vocabulary) (whole : Bool) (inputs : List Clause) (list longer rest heavy made : List Member) (x : Member) (w : Bool) → longer ≡ list ++ x ∷ [] → w ≡ whole → IsNext v whole inputs (clauses_of list) rest heavy (Some x)
    → IsMadeWith v w (clauses_of list) x.clause made → IsUnderWay v whole inputs (clauses_of longer) made rest heavy
joined v whole inputs list longer rest heavy made x w more is next makes =
    let here : IsMadeWith v whole (clauses_of list) x.clause made = subst (λ b. IsMadeWith v b (clauses_of list) x.clause made) is makes in
    subst (λ (cs : List Clause). IsUnderWay v whole inputs cs made rest heavy) (sym (clauses_then list longer x more))
    (after_member v whole inputs (clauses_of list) next.0 rest heavy x next.1 next.2 next.3 made here)

pub sift_none : (v : Vocabulary) (whole : Bool) (inputs list : List Clause) (todo queue heavy new_queue new_heavy : List Member) (bound : ℕ) (r : Option Member) → Sifts bound todo queue heavy new_queue new_heavy r → r ≡ None
    → bound ≡ bound_of inputs → IsUnderWay v whole inputs list todo queue heavy → IsUnderWay v whole inputs list [] new_queue new_heavy
sift_none v whole inputs list todo queue heavy new_queue new_heavy bound r sifts none b h =
    subst (λ r. MatchOption r (IsUnderWay v whole inputs list [] new_queue new_heavy) (λ e. IsFound v whole inputs list e × (e.clause.lits ≡ []))) none (sifts v whole inputs list b h)

pub sift_some : (v : Vocabulary) (whole : Bool) (inputs list : List Clause) (todo queue heavy new_queue new_heavy : List Member) (bound : ℕ) (r : Option Member) (e : Member) → Sifts bound todo queue heavy new_queue new_heavy r → r ≡ Some e
    → bound ≡ bound_of inputs → IsUnderWay v whole inputs list todo queue heavy → IsFound v whole inputs list e × (e.clause.lits ≡ [])
sift_some v whole inputs list todo queue heavy new_queue new_heavy bound r e sifts some b h =
    subst (λ r. MatchOption r (IsUnderWay v whole inputs list [] new_queue new_heavy) (λ e. IsFound v whole inputs list e × (e.clause.lits ≡ []))) some (sifts v whole inputs list b h)

-- the members are clauses
members_fit : (v : Vocabulary) (list : List Member) → Each (IsClause v) (clauses_of list) → Each (λ m. IsClause v m.clause) list
members_fit v list all = each_of (λ m. IsClause v m.clause) list (λ m there. All-contains (IsClause v) (clauses_of list) m.clause all (to_mapped (λ (x : Member). x.clause) list m there))

-- the answers
pub answers_refuted : (v : Vocabulary) (whole : Bool) (inputs : List Clause) (limit : ℕ) (list todo queue heavy : List Member) (e : Member) → length list ≤ limit → AreKept v whole inputs list
    → IsUnderWay v whole inputs (clauses_of list) todo queue heavy → IsFound v whole inputs (clauses_of list) e × (e.clause.lits ≡ []) → AnswersAs v whole inputs limit (Refuted list e)
answers_refuted v whole inputs limit list todo queue heavy e within kept h found = record {
  keeps = within;
  origins = (kept.made, found.0.made);
  fit = (members_fit v list h.members, found.0.clause);
  ends = λ is. record {
    within = let n = count list in omega arith;
    lightest = h.lightest is;
    offered = found_offered v whole inputs (clauses_of list) e found.0;
    is_empty = found.1;
  };
  alone = λ blind. (kept.alone blind, found.0.alone blind);
}

pub answers_dry : (v : Vocabulary) (whole : Bool) (inputs : List Clause) (limit : ℕ) (list heavy : List Member) → length list ≤ limit → AreKept v whole inputs list → IsUnderWay v whole inputs (clauses_of list) [] [] heavy
    → Each (λ m. IsCoveredIn v (clauses_of list) m.clause) heavy → AnswersAs v whole inputs limit (Dry list)
answers_dry v whole inputs limit list heavy within kept h covered = record {
  keeps = within;
  origins = kept.made;
  fit = members_fit v list h.members;
  ends = λ is. dry_at v whole inputs (clauses_of list) heavy h is limit (let n = count list in omega arith) covered;
  alone = kept.alone;
}

pub answers_heavy : (v : Vocabulary) (whole : Bool) (inputs : List Clause) (limit : ℕ) (list heavy : List Member) → length list < limit → AreKept v whole inputs list → IsUnderWay v whole inputs (clauses_of list) [] [] heavy
    → AreCoveredIn v (clauses_of list) heavy false → AnswersAs v whole inputs limit (Heavy list)
answers_heavy v whole inputs limit list heavy within kept h w = record {
  keeps = omega arith;
  origins = kept.made;
  fit = members_fit v list h.members;
  ends = λ is. heavy_at v whole inputs (clauses_of list) heavy h is w.0 w.1 w.2 limit (let n = count list in omega arith);
  alone = kept.alone;
}

pub answers_full : (v : Vocabulary) (whole : Bool) (inputs : List Clause) (limit : ℕ) (list heavy : List Member) → length list ≡ limit → AreKept v whole inputs list → IsUnderWay v whole inputs (clauses_of list) [] [] heavy
    → AreCoveredIn v (clauses_of list) heavy false → AnswersAs v whole inputs limit (Full list)
answers_full v whole inputs limit list heavy full kept h w = record {
  keeps = full;
  origins = kept.made;
  fit = members_fit v list h.members;
  ends = λ is. full_by_heavy v whole inputs (clauses_of list) heavy h is w.0 w.1 w.2 limit (count list ∙ full);
  alone = kept.alone;
}

pub answers_full_next : (v : Vocabulary) (whole : Bool) (inputs : List Clause) (limit : ℕ) (list rest heavy : List Member) (x : Member) → length list ≡ limit → AreKept v whole inputs list
    → IsNext v whole inputs (clauses_of list) rest heavy (Some x) → AnswersAs v whole inputs limit (Full list)
answers_full_next v whole inputs limit list rest heavy x full kept next = record {
  keeps = full;
  origins = kept.made;
  fit = members_fit v list next.1.members;
  ends = λ is. full_at v whole inputs (clauses_of list) next.0 rest heavy x next.1 next.2 is next.3 limit (count list ∙ full);
  alone = kept.alone;
}

-- the first turn, and one more
pub first_turn : (v : Vocabulary) (whole : Bool) (inputs : List Clause) (limit : ℕ) (list : List Member) (known : List Known) (queue heavy : List Member) → list ≡ [] → known ≡ [] → IsUnderWay v whole inputs [] [] queue heavy
    → IsTurning v whole inputs limit list known queue heavy
first_turn v whole inputs limit list known queue heavy none also h =
    let start : IsTurning v whole inputs limit [] [] queue heavy = record {
      within = omega arith;
      under_way = h;
      kept = record { made = λ i m e. cc; alone = λ blind. All-nil (λ m. NamesOne m.origin) };
      facts = record { many = refl; each = λ i c k e f. cc };
    } in
    subst (λ (ms : List Member). IsTurning v whole inputs limit ms known queue heavy) (sym none) (subst (λ (ks : List Known). IsTurning v whole inputs limit [] ks queue heavy) (sym also) start)

module _ (v : Vocabulary) (whole : Bool) (inputs : List Clause) (limit : ℕ) (list : List Member) (known : List Known) (queue heavy : List Member) (turn : IsTurning v whole inputs limit list known queue heavy) (rest : List Member)
    (x : Member) (next : IsNext v whole inputs (clauses_of list) rest heavy (Some x)) (room : length list < limit) (bound : ℕ) (is_bound : bound ≡ bound_of inputs) (w : Bool) (flag : w ≡ whole) (longer : List Member)
    (more_known : List Known) (new_queue new_heavy : List Member) (r : Option Member) (taken : TakesTurn v w bound x list known rest heavy longer more_known new_queue new_heavy r) where
  under_way_then : IsUnderWay v whole inputs (clauses_of longer) taken.made rest heavy
  under_way_then = joined v whole inputs list longer rest heavy taken.made x w taken.joins.listed flag next taken.joins.makes

  kept_now : AreKept v whole inputs longer
  kept_now = kept_then v whole inputs list longer x taken.joins.listed turn.kept (next_found v whole inputs (clauses_of list) rest heavy x next)

  within_now : length longer ≤ limit
  within_now = let n : length longer ≡ length list + 1 = ap length taken.joins.listed ∙ length-append list (x ∷ []) in omega arith

  pub next_turn : r ≡ None → IsTurning v whole inputs limit longer more_known new_queue new_heavy
  next_turn none = record {
    within = within_now;
    under_way = sift_none v whole inputs (clauses_of longer) taken.made rest heavy new_queue new_heavy bound r taken.sifts none is_bound under_way_then;
    kept = kept_now;
    facts = known_then list longer known more_known x taken.joins.facts taken.joins.listed taken.joins.beside turn.facts taken.joins.are_facts;
  }

  pub refuted_turn : (e : Member) → r ≡ Some e → AnswersAs v whole inputs limit (Refuted longer e)
  refuted_turn e some =
      answers_refuted v whole inputs limit longer taken.made rest heavy e within_now kept_now under_way_then
      (sift_some v whole inputs (clauses_of longer) taken.made rest heavy new_queue new_heavy bound r e taken.sifts some is_bound under_way_then)

-- what is asked of the members and of what waits
pub queue_clauses : (v : Vocabulary) (whole : Bool) (inputs list : List Clause) (todo queue heavy : List Member) → IsUnderWay v whole inputs list todo queue heavy → Each (λ m. IsClause v m.clause) queue
queue_clauses v whole inputs list todo queue heavy h = All-weaker (IsQueued v whole inputs list) (λ m. IsClause v m.clause) (λ m q. q.found.clause) queue h.queued

pub heavy_clauses : (v : Vocabulary) (whole : Bool) (inputs list : List Clause) (todo queue heavy : List Member) → IsUnderWay v whole inputs list todo queue heavy → Each (λ m. IsClause v m.clause) heavy
heavy_clauses v whole inputs list todo queue heavy h = All-weaker (IsTooHeavy v whole inputs list) (λ m. IsClause v m.clause) (λ m q. q.found.clause) heavy h.too_heavy

pub lent_clauses : (v : Vocabulary) (list lent : List Member) → lent ≡ list → Each (IsClause v) (clauses_of list) → Each (IsClause v) (clauses_of lent)
lent_clauses v list lent same h = subst (λ (l : List Member). Each (IsClause v) (clauses_of l)) (sym same) h

pub lent_known : (list lent : List Member) (known facts : List Known) → lent ≡ list → facts ≡ known → AreKnown (clauses_of list) known → AreKnown (clauses_of lent) facts
lent_known list lent known facts same also h =
    subst (λ (l : List Member). AreKnown (clauses_of l) facts) (sym same) (subst (λ (ks : List Known). AreKnown (clauses_of list) ks) (sym also) h)

greatest_below : (clauses : List Clause) (n : ℕ) → AllByRecursion (λ c. clause_weight c ≤ n) clauses → greatest (map clause_weight clauses) ≤ n
greatest_below [] n all = omega arith
greatest_below (c ∷ clauses) n all = let here = all.0 in let rest = greatest_below clauses n all.1 in omega arith

pub greatest_within : (clauses : List Clause) (n : ℕ) → Each (λ c. clause_weight c ≤ n) clauses → greatest (map clause_weight clauses) ≤ n
greatest_within clauses n all = greatest_below clauses n (recursion_from_All (λ c. clause_weight c ≤ n) clauses all)

-- the search begins with the inputs to be looked at
pub start_as : (v : Vocabulary) (whole : Bool) (inputs : List Clause) (todo queue heavy : List Member) → AreGiven inputs todo → Each (IsClause v) inputs → queue ≡ [] → heavy ≡ []
    → IsUnderWay v whole inputs [] todo queue heavy
start_as v whole inputs todo queue heavy given clauses none also =
    subst (λ (q : List Member). IsUnderWay v whole inputs [] todo q heavy) (sym none)
    (subst (λ (q : List Member). IsUnderWay v whole inputs [] todo [] q) (sym also) (given_under_way v whole inputs todo given clauses))

pub refuted_at_start : (v : Vocabulary) (whole : Bool) (inputs : List Clause) (limit : ℕ) (list todo queue heavy : List Member) (e : Member) → list ≡ [] → IsUnderWay v whole inputs [] todo queue heavy
    → IsFound v whole inputs [] e × (e.clause.lits ≡ []) → AnswersAs v whole inputs limit (Refuted list e)
refuted_at_start v whole inputs limit list todo queue heavy e none h found =
    let kept : AreKept v whole inputs [] = record { made = λ i m f. cc; alone = λ blind. All-nil (λ m. NamesOne m.origin) } in
    subst (λ (ms : List Member). AnswersAs v whole inputs limit (Refuted ms e)) (sym none)
    (answers_refuted v whole inputs limit [] todo queue heavy e (omega arith) kept h found)
