-- What was made, as members with origins.
use Rattle.std.specs.Prelude.{ℕ, List, [], ◌∷◌, ◌++◌, ◌≡◌, Bool, true, refl}
use Rattle.std.specs.List.{Contains}
use Rattle.std.proofs.Common.{sym, subst, inl, inr}
use Rattle.std.proofs.lemmas.List.Elements.{Contains-append_left, Contains-push, Contains-push_cases}
use Rattle.fof_terms.specs.Vocabulary.{Vocabulary}
use Rattle.clause_form.specs.declared.clause.Clause.{Clause}
use Rattle.clause_form.specs.Covers.{scope_of}
use Rattle.clause_rules.specs.Steps.{scope_of_both}
use Rattle.superpose.specs.declared.made.Made.{Made}
use Rattle.superpose.proofs.Speaking.{draft_of_one_lacks, draft_of_two_lacks}
use Rattle.superpose.specs.Made.{IsMadeFrom, AddsFromOne, AddsFromTwo}
use Rattle.superpose.specs.Inferences.{IsDraftOfOne, IsDraftOfTwo}
use Rattle.saturation.specs.declared.member.Member.{Member}
use Rattle.saturation.specs.code.Named.{named, AreNamed, FollowsOne, FollowsTwo, FollowFromOne, FollowIf}
use Rattle.saturation.proofs.Passing.{IsNaming}
use Rattle.saturation.proofs.Lists.{no_member}

pub naming_start : (made : List Made) (a b : ℕ) (old : List Member) → IsNaming made made a b old old
naming_start made a b old = record { kept = λ m h. h; among = λ x h. h; there = λ x h. inl h; others = λ m h. inl h }

pub naming_more : (all left rest : List Made) (x : Made) (a b : ℕ) (old mid new : List Member) → IsNaming all left a b old mid → left ≡ rest ++ x ∷ [] → new ≡ mid ++ named a b x ∷ [] → IsNaming all rest a b old new
naming_more all left rest x a b old mid new h is more =
    let last : Contains all x = h.among x (subst (λ (xs : List Made). Contains xs x) (sym is) (Contains-push rest x)) in
    let after : IsNaming all rest a b old (mid ++ named a b x ∷ []) = record {
      kept = λ m c. Contains-append_left mid (named a b x ∷ []) m (h.kept m c);
      among = λ y c. h.among y (subst (λ (xs : List Made). Contains xs y) (sym is) (Contains-append_left rest (x ∷ []) y c));
      there = λ y c.
          elim (h.there y c) [
            | inl k ↦
                elim (Contains-push_cases rest x y (subst (λ (xs : List Made). Contains xs y) is k)) [
                  | inl r ↦ inl r
                  | inr same ↦ inr (subst (λ (z : Made). Contains (mid ++ named a b x ∷ []) (named a b z)) same (Contains-push mid (named a b x)))
                ]
            | inr k ↦ inr (Contains-append_left mid (named a b x ∷ []) (named a b y) k)
          ];
      others = λ m c.
          elim (Contains-push_cases mid (named a b x) m c) [
            | inl k ↦ h.others m k
            | inr same ↦ inr (x, last, sym same)
          ];
    } in
    subst (IsNaming all rest a b old) (sym more) after

pub naming_end : (all left : List Made) (a b : ℕ) (old new : List Member) → IsNaming all left a b old new → left ≡ [] → AreNamed all a b old new
naming_end all left a b old new h none = record {
  kept = h.kept;
  there = λ x c. elim (h.there x c) [ inl k ↦ absurd (no_member x (subst (λ (xs : List Made). Contains xs x) none k)) | inr k ↦ k ];
  others = h.others;
}

follows_one : (v : Vocabulary) (c : Clause) (a : ℕ) (x : Made) → IsMadeFrom v (scope_of c) (IsDraftOfOne c) x → FollowsOne v c a (named a a x)
follows_one v c a x h = record {
  images = x.subst;
  origin = refl;
  each = h.size;
  infers = (h.draft, h.is_draft, h.made);
  no_new = λ k none. h.no_new k (draft_of_one_lacks k c c h.draft none h.is_draft);
  clause = h.clause;
}

follows_two : (v : Vocabulary) (c d : Clause) (a b : ℕ) (x : Made) → IsMadeFrom v (scope_of_both c d) (IsDraftOfTwo c d) x → FollowsTwo v c d a b (named a b x)
follows_two v c d a b x h = record {
  images = x.subst;
  origin = refl;
  each = h.size;
  infers = (h.draft, h.is_draft, h.made);
  no_new = λ k none also. h.no_new k (draft_of_two_lacks k c d h.draft none also h.is_draft);
  clause = h.clause;
}

-- those that were made of one clause
pub alone_from : (v : Vocabulary) (c : Clause) (a : ℕ) (none made : List Made) (old new : List Member) → none ≡ [] → AddsFromOne v c none made → AreNamed made a a old new → FollowFromOne v c a old new
alone_from v c a none made old new empty adds h = record {
  kept = h.kept;
  others = λ m there.
      elim (h.others m there) [
        | inl k ↦ inl k
        | inr k ↦
            elim (adds.each k.0 k.1) [
              | inl before ↦ absurd (no_member k.0 (subst (λ (xs : List Made). Contains xs k.0) empty before))
              | inr from ↦ inr (subst (FollowsOne v c a) (sym k.2) (follows_one v c a k.0 from))
            ]
      ];
  all = λ e s infers.
      let best = adds.whole infers.0 infers.1 e s infers.2 in
      (named a a best.0, h.there best.0 best.1, best.2);
}

-- those that were made of two
pub pair_from : (v : Vocabulary) (wanted : Bool) (c d : Clause) (a b : ℕ) (none made : List Made) (old new : List Member) → wanted ≡ true → none ≡ [] → AddsFromTwo v c d none made → AreNamed made a b old new
    → FollowIf wanted v c d a b old new
pair_from v wanted c d a b none made old new told empty adds h = record {
  kept = h.kept;
  others = λ m there.
      elim (h.others m there) [
        | inl k ↦ inl k
        | inr k ↦
            elim (adds.each k.0 k.1) [
              | inl before ↦ absurd (no_member k.0 (subst (λ (xs : List Made). Contains xs k.0) empty before))
              | inr from ↦ inr (told, subst (FollowsTwo v c d a b) (sym k.2) (follows_two v c d a b k.0 from))
            ]
      ];
  all = λ w e s infers.
      let best = adds.whole infers.0 infers.1 e s infers.2 in
      (named a b best.0, h.there best.0 best.1, best.2);
}
