-- All that follows with one clause more, over whole indexes and over blind ones.
use Rattle.std.specs.Prelude.{ℕ, ◌+◌, ◌<◌, ◌≤◌, Bool, true, false, List, [], ◌∷◌, ◌++◌, ◌≡◌, ◌⊎◌, length, slice_get, Some, refl}
use Rattle.std.specs.List.{Contains}
use Rattle.std.proofs.Common.{ap, sym, subst, ◌∙◌, arith, inl, inr, zero, suc, get_or}
use Rattle.std.proofs.lemmas.List.Elements.{Contains-push_cases}
use Rattle.std.specs.Option.{option_map}
use Rattle.std.proofs.lemmas.Option.{slice_get-get_or, slice_get-map, slice_get_within}
use Rattle.fof_terms.specs.declared.term.Term.{Term}
use Rattle.fof_terms.specs.Vocabulary.{Vocabulary}
use Rattle.clause_form.specs.declared.clause.Clause.{Clause}
use Rattle.clause_index.specs.declared.entry.Entry.{Entry}
use Rattle.superpose.specs.Inferences.{IsInference, InfersFromOne, InfersFromTwo}
use Rattle.saturation.specs.declared.member.Member.{Member}
use Rattle.saturation.specs.declared.member.Origin.{Origin}
use Rattle.saturation.specs.declared.offers.Offer.{Offer}
use Rattle.saturation.specs.Members.{clauses_of}
use Rattle.saturation.specs.Origins.{Makes, NamesOne}
use Rattle.saturation.specs.code.Entered.{AreEntered}
use Rattle.saturation.specs.code.Marked.{IsMarked}
use Rattle.saturation.specs.code.Named.{FollowsOne, FollowsTwo, FollowFromOne, FollowIf, FollowMarked}
use Rattle.saturation.specs.code.Search.{IsInstanceOfOne, IsFound, IsMadeWith}
use Rattle.saturation.proofs.Passing.{AreOffered, FollowSoFar}
use Rattle.saturation.proofs.Lists.{no_member, each_of, got_append}
use Rattle.saturation.proofs.Ruled.{no_into, no_from}

bool_at : (xs : List Bool) (i : ℕ) → i < length xs → (slice_get xs i ≡ Some true) ⊎ (slice_get xs i ≡ Some false)
bool_at [] i h = absurd (omega arith)
bool_at (true ∷ xs) zero h = inl refl
bool_at (false ∷ xs) zero h = inr refl
bool_at (x ∷ xs) (suc i) h = bool_at xs i (omega arith)

place_of : {X : Type 0} (xs : List X) (x : X) → Contains xs x → (i : ℕ) × (slice_get xs i ≡ Some x)
place_of xs x h = (h.0, slice_get-get_or xs h.0 x h.1 ∙ ap Some h.2)

last_at : {X : Type 0} (xs : List X) (x : X) → slice_get (xs ++ x ∷ []) (length xs) ≡ Some x
last_at [] x = refl
last_at (y ∷ xs) x = last_at xs x

instance_kept : (v : Vocabulary) (old new : List Member) (e : Clause) → ((m : Member) → Contains old m → Contains new m) → IsInstanceOfOne v old e → IsInstanceOfOne v new e
instance_kept v old new e kept h = (h.0, kept h.0 h.1, h.2)

-- what follows is found
found_one : (v : Vocabulary) (whole : Bool) (inputs list : List Clause) (c : Clause) (a : ℕ) (m : Member) → slice_get list a ≡ Some c → FollowsOne v c a m → IsFound v whole inputs list m
found_one v whole inputs list c a m at h = record {
  made = subst (λ (o : Origin). Makes v inputs list m.clause o) (sym h.origin) (inr (record { premise = c; premise_at = at; twice = refl; each = h.each; infers = h.infers; no_new = h.no_new }));
  clause = h.clause;
  alone = λ blind. subst NamesOne (sym h.origin) refl;
}

found_two : (v : Vocabulary) (whole : Bool) (inputs list : List Clause) (c d : Clause) (a b : ℕ) (m : Member) → slice_get list a ≡ Some c → slice_get list b ≡ Some d → (whole ≡ false → a ≡ b) → FollowsTwo v c d a b m
    → IsFound v whole inputs list m
found_two v whole inputs list c d a b m at also same h = record {
  made = subst (λ (o : Origin). Makes v inputs list m.clause o) (sym h.origin) (inl (record { first = c; second = d; first_at = at; second_at = also; each = h.each; infers = h.infers; no_new = h.no_new }));
  clause = h.clause;
  alone = λ blind. subst NamesOne (sym h.origin) (same blind);
}

module _ (v : Vocabulary) (whole : Bool) (list : List Clause) (last : Clause) (n : ℕ) (literals terms : List Offer) (literal_entries term_entries : List Entry) (into from : List Bool) (none one two three : List Member)
    (number : n ≡ length list) (empty : none ≡ []) (alone : FollowFromOne v last n none one) (own : FollowIf true v last last n n one two) (others : FollowMarked v list last n into from two three)
    (into_marked : IsMarked whole (length list) true literals terms literal_entries term_entries into) (from_marked : IsMarked whole (length list) false literals terms literal_entries term_entries from)
    (offered : AreOffered last.lits literals terms) (entered : whole ≡ true → AreEntered list literal_entries term_entries) where
  last_here : slice_get (list ++ last ∷ []) n ≡ Some last
  last_here = subst (λ k. slice_get (list ++ last ∷ []) k ≡ Some last) (sym number) (last_at list last)

  found_each : (inputs : List Clause) (m : Member) → Contains three m → IsFound v whole inputs (list ++ last ∷ []) m
  found_each inputs m there =
      elim (others.others m there) [
        | inl second ↦
            elim (own.others m second) [
              | inl first ↦
                  elim (alone.others m first) [
                    | inl start ↦ absurd (no_member m (subst (λ (ms : List Member). Contains ms m) empty start))
                    | inr h ↦ found_one v whole inputs (list ++ last ∷ []) last n m last_here h
                  ]
              | inr h ↦ found_two v whole inputs (list ++ last ∷ []) last last n n m last_here last_here (λ blind. refl) h.1
            ]
        | inr h ↦
            let there_too : slice_get (list ++ last ∷ []) h.0 ≡ Some h.1 = got_append list (last ∷ []) h.0 h.1 h.2 in
            elim h.3 [
              | inl k ↦ found_two v whole inputs (list ++ last ∷ []) last h.1 n h.0 m last_here there_too (λ blind. absurd (into_marked.blind blind h.0 k.0)) k.1
              | inr k ↦ found_two v whole inputs (list ++ last ∷ []) h.1 last h.0 n m there_too last_here (λ blind. absurd (from_marked.blind blind h.0 k.0)) k.1
            ]
      ]

  within_into : (i : ℕ) (c : Clause) → slice_get list i ≡ Some c → i < length into
  within_into i c at = let a = slice_get_within list i c at in let b = into_marked.many in omega arith

  within_from : (i : ℕ) (c : Clause) → slice_get list i ≡ Some c → i < length from
  within_from i c at = let a = slice_get_within list i c at in let b = from_marked.many in omega arith

  all_into : whole ≡ true → (c : Clause) → Contains list c → (e : Clause) (s : ℕ → Term) → InfersFromTwo v last c e s → IsInstanceOfOne v three e
  all_into is c there e s infers =
      let at = place_of list c there in
      elim (bool_at into at.0 (within_into at.0 c at.1)) [
        | inl marked ↦ others.into_all at.0 c at.1 marked e s infers
        | inr unmarked ↦
            absurd (no_into v last c e s at.0 literals terms literal_entries term_entries offered ((entered is).each at.0 c at.1) (into_marked.literals_out is at.0 unmarked) (into_marked.terms_out is at.0 unmarked) infers)
      ]

  all_from : whole ≡ true → (c : Clause) → Contains list c → (e : Clause) (s : ℕ → Term) → InfersFromTwo v c last e s → IsInstanceOfOne v three e
  all_from is c there e s infers =
      let at = place_of list c there in
      elim (bool_at from at.0 (within_from at.0 c at.1)) [
        | inl marked ↦ others.from_all at.0 c at.1 marked e s infers
        | inr unmarked ↦
            absurd (no_from v last c e s at.0 literals terms literal_entries term_entries offered ((entered is).each at.0 c at.1) (from_marked.literals_out is at.0 unmarked) (from_marked.terms_out is at.0 unmarked) infers)
      ]

  all_own : (e : Clause) (s : ℕ → Term) → InfersFromTwo v last last e s → IsInstanceOfOne v three e
  all_own e s infers = instance_kept v two three e others.kept (own.all refl e s infers)

  all_alone : (e : Clause) (s : ℕ → Term) → InfersFromOne v last e s → IsInstanceOfOne v three e
  all_alone e s infers = instance_kept v one three e (λ m c. others.kept m (own.kept m c)) (alone.all e s infers)

  all_made : whole ≡ true → (e : Clause) → IsInference v (list ++ last ∷ []) e → IsInference v list e ⊎ IsInstanceOfOne v three e
  all_made is e (inl h) =
      elim (Contains-push_cases list last h.0 h.3) [
        | inl a ↦
            elim (Contains-push_cases list last h.1 h.4) [
              | inl b ↦ inl (inl (h.0, h.1, h.2, a, b, h.5))
              | inr b ↦ inr (all_from is h.0 a e h.2 (subst (λ (x : Clause). InfersFromTwo v h.0 x e h.2) (sym b) h.5))
            ]
        | inr a ↦
            let first : InfersFromTwo v last h.1 e h.2 = subst (λ (x : Clause). InfersFromTwo v x h.1 e h.2) (sym a) h.5 in
            elim (Contains-push_cases list last h.1 h.4) [
              | inl b ↦ inr (all_into is h.1 b e h.2 first)
              | inr b ↦ inr (all_own e h.2 (subst (λ (x : Clause). InfersFromTwo v last x e h.2) (sym b) first))
            ]
      ]
  all_made is e (inr h) =
      elim (Contains-push_cases list last h.0 h.2) [
        | inl a ↦ inl (inr (h.0, h.1, a, h.3))
        | inr a ↦ inr (all_alone e h.1 (subst (λ (x : Clause). InfersFromOne v x e h.1) (sym a) h.3))
      ]

  pub made_with : IsMadeWith v whole list last three
  made_with = record { each = λ inputs. each_of (IsFound v whole inputs (list ++ last ∷ [])) three (found_each inputs); all = all_made }

-- the marked clauses of the list, one by one
pub so_far_start : (v : Vocabulary) (list : List Clause) (last : Clause) (n : ℕ) (into from : List Bool) (old : List Member) → FollowSoFar 0 v list last n into from old old
so_far_start v list last n into from old = record {
  kept = λ m h. h;
  others = λ m h. inl h;
  into_all = λ i c h at marked e s infers. absurd (omega arith);
  from_all = λ i c h at marked e s infers. absurd (omega arith);
}

pub so_far_end : (at : ℕ) (v : Vocabulary) (list : List Clause) (last : Clause) (n : ℕ) (into from : List Bool) (old new : List Member) → length list ≤ at → FollowSoFar at v list last n into from old new
    → FollowMarked v list last n into from old new
so_far_end at v list last n into from old new over h = record {
  kept = h.kept;
  others = h.others;
  into_all = λ i c there marked e s infers. h.into_all i c (let a = slice_get_within list i c there in omega arith) there marked e s infers;
  from_all = λ i c there marked e s infers. h.from_all i c (let a = slice_get_within list i c there in omega arith) there marked e s infers;
}

below_or_at : (i n : ℕ) → i < n + 1 → (i < n) ⊎ (i ≡ n)
below_or_at i n h = grind arith

got_same : {X : Type 0} (o : X) (p : X) → Some o ≡ Some p → o ≡ p
got_same o p e = cc

pub so_far_more : (at : ℕ) (v : Vocabulary) (list : List Clause) (last c : Clause) (n : ℕ) (into from : List Bool) (into_it from_it : Bool) (old mid next new : List Member) → slice_get list at ≡ Some c
    → slice_get into at ≡ Some into_it → slice_get from at ≡ Some from_it → FollowSoFar at v list last n into from old mid → FollowIf into_it v last c n at mid next → FollowIf from_it v c last at n next new
    → FollowSoFar (at + 1) v list last n into from old new
so_far_more at v list last c n into from into_it from_it old mid next new there into_is from_is h one two = record {
  kept = λ m k. two.kept m (one.kept m (h.kept m k));
  others = λ m k.
      elim (two.others m k) [
        | inl k' ↦
            elim (one.others m k') [
              | inl k'' ↦ h.others m k''
              | inr f ↦ inr (at, c, there, inl (into_is ∙ ap Some f.0, f.1))
            ]
        | inr f ↦ inr (at, c, there, inr (from_is ∙ ap Some f.0, f.1))
      ];
  into_all = λ i d below is marked e s infers.
      elim (below_or_at i at below) [
        | inl less ↦ instance_kept v mid new e (λ m k. two.kept m (one.kept m k)) (h.into_all i d less is marked e s infers)
        | inr same ↦
            let its : d ≡ c = got_same d c (sym is ∙ ap (slice_get list) same ∙ there) in
            let wanted : into_it ≡ true = got_same into_it true (sym into_is ∙ ap (slice_get into) (sym same) ∙ marked) in
            instance_kept v next new e two.kept (one.all wanted e s (subst (λ (x : Clause). InfersFromTwo v last x e s) its infers))
      ];
  from_all = λ i d below is marked e s infers.
      elim (below_or_at i at below) [
        | inl less ↦ instance_kept v mid new e (λ m k. two.kept m (one.kept m k)) (h.from_all i d less is marked e s infers)
        | inr same ↦
            let its : d ≡ c = got_same d c (sym is ∙ ap (slice_get list) same ∙ there) in
            let wanted : from_it ≡ true = got_same from_it true (sym from_is ∙ ap (slice_get from) (sym same) ∙ marked) in
            two.all wanted e s (subst (λ (x : Clause). InfersFromTwo v x last e s) its infers)
      ];
}

-- one member of the list more, marked or not
pub marked_more : (v : Vocabulary) (list : List Member) (d : Member) (at k : ℕ) (last : Clause) (n : ℕ) (into from : List Bool) (old mid next new : List Member) → at < length list → length into ≡ length list → length from ≡ length list
    → k ≡ at → FollowSoFar at v (clauses_of list) last n into from old mid → FollowIf (get_or into at false) v last (get_or list at d).clause n k mid next
    → FollowIf (get_or from at false) v (get_or list at d).clause last k n next new → FollowSoFar (at + 1) v (clauses_of list) last n into from old new
marked_more v list d at k last n into from old mid next new within many count is h one two =
    let c = (get_or list at d).clause in
    let here : slice_get (clauses_of list) at ≡ Some c = slice_get-map (λ (m : Member). m.clause) list at ∙ ap (option_map (λ (m : Member). m.clause)) (slice_get-get_or list at d within) in
    let into_it : slice_get into at ≡ Some (get_or into at false) = slice_get-get_or into at false (omega arith) in
    let from_it : slice_get from at ≡ Some (get_or from at false) = slice_get-get_or from at false (omega arith) in
    so_far_more at v (clauses_of list) last c n into from (get_or into at false) (get_or from at false) old mid next new here into_it from_it h
    (subst (λ j. FollowIf (get_or into at false) v last c n j mid next) is one) (subst (λ j. FollowIf (get_or from at false) v c last j n next new) is two)
