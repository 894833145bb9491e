-- From places that are found to a substitution and back.
use Rattle.std.proofs.Common.{ℕ, ◌≡◌, ◌+◌, ◌<◌, List, [], ◌∷◌, ◌++◌, length, replicate, get_or, Option, Some, None, refl, sym, ap, subst, ◌∙◌, zero, suc, arith, Bool, true, false, IsTrue, ◌↔◌}
use Rattle.std.specs.Prelude.{slice_get}
use Rattle.std.proofs.lemmas.List.{length-reverse, length-replicate}
use Rattle.std.proofs.lemmas.Option.{slice_get_within}
use Rattle.fof_terms.specs.declared.term.Term.{Term, Var}
use Rattle.fof_terms.specs.Vocabulary.{Vocabulary}
use Rattle.fof_terms.specs.Sorts.{sort_of_term}
use Rattle.fof_terms.proofs.SortsFacts.{sort_of_term-Var}
use Rattle.clause_form.specs.declared.clause.Lit.{Lit}
use Rattle.clause_form.specs.Images.{IsImages}
use Rattle.clause_form.specs.Covers.{scope_of}
use Rattle.clause_form.proofs.ClauseLaws.{sorted_more}
use Rattle.subsumption.specs.Subsumes.{Subsumes}
use Rattle.subsumption.specs.declared.bindings.Bindings.{Bindings}
use Rattle.subsumption.specs.declared.task.Task.{Task}
use Rattle.subsumption.specs.code.Bound.{images_of, Agrees, AreOfSorts}
use Rattle.subsumption.specs.code.Matched.{IsTable}
use Rattle.subsumption.specs.code.Placed.{HasPlaces, HasNone, IsPlaced, Anywhere}

-- the image that a variable has, or what it has without one
image_or : Option Term → Term → Term
image_or (Some t) d = t
image_or None d = d

-- variables that are not bound go past those of the clause
filled : List (Option Term) → ℕ → ℕ → Term
filled images n k = image_or (get_or images k None) (Var (n + k))

filled_agrees : (images : List (Option Term)) (n : ℕ) → Agrees (filled images n) images
unfolding filled image_or
filled_agrees images n = record { same = λ k t e. ap (λ o. image_or o (Var (n + k))) e }

get_after : (xs more : List ℕ) (j : ℕ) → slice_get (xs ++ more) (length xs + j) ≡ slice_get more j
get_after [] more j = let same : 0 + j ≡ j = omega arith in rw same refl
get_after (x ∷ xs) more j = let same : suc (length xs) + j ≡ suc (length xs + j) = omega arith in rw same (get_after xs more j)

module _ (v : Vocabulary) (scope target : List ℕ) (images : List (Option Term)) (h : AreOfSorts v scope target images) where
  filled_sort : (k r : ℕ) (o : Option Term) → get_or images k None ≡ o → slice_get scope k ≡ Some r → sort_of_term v (target ++ scope) (image_or o (Var (length target + k))) ≡ Some r
  unfolding image_or
  filled_sort k r (Some t) e at =
      let is = h.sorted k t e in
      let same : Some is.0 ≡ Some r = sym is.1 ∙ sort_of_term-Var v scope k ∙ at in
      sorted_more v target scope t r (is.2 ∙ same)
  filled_sort k r None e at = sort_of_term-Var v (target ++ scope) (length target + k) ∙ get_after target scope k ∙ at

  filled_images : IsImages v scope (target ++ scope) (filled images (length target))
  unfolding filled
  filled_images = record { sorted = λ k r at. filled_sort k r (get_or images k None) refl at }

never_replicated : (n k : ℕ) (t : Term) → get_or (replicate n None) k None ≡ Some t → ⊥
never_replicated zero k t e = cc
never_replicated (suc n) zero t e = cc
never_replicated (suc n) (suc k) t e = never_replicated n k t e

replicated_free : (n i : ℕ) → i < n → slice_get (replicate n false) i ≡ Some false
replicated_free zero i h = absurd (omega arith)
replicated_free (suc n) zero h = refl
replicated_free (suc n) (suc i) h = replicated_free n i (omega arith)

-- a table in which nothing is bound
pub empty_table : (task : Task) (b : Bindings) (n : ℕ) → n ≡ length task.member.now.sorts → images_of b ≡ replicate n None → IsTable task b
empty_table task b n is none = record {
  size = ap length none ∙ length-replicate n None ∙ is ∙ sym (length-reverse task.member.now.sorts);
  sorted = record { sorted = λ k t e. absurd (never_replicated n k t (subst (λ xs. get_or xs k None ≡ Some t) none e)) };
}

there_is : (lits : List Lit) (i : ℕ) → i < length lits → (k : Lit) × (slice_get lits i ≡ Some k)
there_is [] i h = absurd (omega arith)
there_is (k ∷ lits) zero h = (k, refl)
there_is (k ∷ lits) (suc i) h = there_is lits i (omega arith)

module _ (task : Task) (old new : Bindings) (taken left : List Bool) where
  -- places that were found
  subsumed_by_places : HasPlaces task old new taken 0 → Subsumes task.signature.now task.member.now task.clause.now
  subsumed_by_places found =
      let v = task.signature.now in
      let target : List ℕ = scope_of task.clause.now in
      let s : ℕ → Term = filled (images_of new) (length target) in
      let placed = (found.places s (filled_agrees (images_of new) (length target))).1 in (
        scope_of task.member.now,
        s,
        found.at,
        record {
          images = filled_images v (scope_of task.member.now) target (images_of new) found.table.sorted;
          stands = λ i k e. placed.stands i k (omega arith) e;
          apart = λ i j lt lt' same. placed.apart i j (omega arith) lt (omega arith) lt' same;
        },
      )

  -- none were
  not_without_places : (n m : ℕ) → images_of old ≡ replicate n None → taken ≡ replicate m false → m ≡ length task.clause.now.lits → HasNone task old new taken left 0 Anywhere → Subsumes task.signature.now task.member.now task.clause.now → ⊥
  not_without_places n m none free size fails h =
      fails.none h.0 h.1 h.2 h.3.images (record { same = λ k t e. absurd (never_replicated n k t (subst (λ xs. get_or xs k None ≡ Some t) none e)) })
      (record {
        stands = λ i k le e. h.3.stands i k e;
        free = λ i le lt.
            let k = there_is task.member.now.lits i lt in
            let stands = h.3.stands i k.0 k.1 in
            let within = slice_get_within task.clause.now.lits (h.2 i) stands.0 stands.1 in
            subst (λ xs. slice_get xs (h.2 i) ≡ Some false) (sym free) (replicated_free m (h.2 i) (omega arith));
        apart = λ i j le lt le' lt' same. h.3.apart i j lt lt' same;
      })
      tt

  pub decided : (n m : ℕ) → images_of old ≡ replicate n None → taken ≡ replicate m false → m ≡ length task.clause.now.lits → (b : Bool) → IsPlaced task old new taken left 0 Anywhere b
      → IsTrue b ↔ Subsumes task.signature.now task.member.now task.clause.now
  decided n m none free size true found = (λ yes. subsumed_by_places found, λ h. refl)
  decided n m none free size false fails = (λ yes. absurd (let never : IsTrue false = yes in cc), λ h. absurd (not_without_places n m none free size fails h))

-- a test that answers no
pub told_not : {P : Type 0} → (P → ⊥) → IsTrue false ↔ P
told_not never = (λ yes. absurd (let wrong : IsTrue false = yes in cc), λ h. absurd (never h))
