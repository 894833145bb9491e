-- Closed bodies, and their bodies over the variables of all.
use Rattle.std.specs.Prelude.{ℕ, ◌≡◌, ◌+◌, ◌<◌, ◌≤◌, List, [], ◌∷◌, ◌++◌, length}
use Rattle.std.specs.List.{AllByRecursion}
use Rattle.std.proofs.Common.{ap, sym, subst, ◌∙◌, arith, length-append}
use Rattle.fof_terms.specs.declared.form.Form.{Form, All}
use Rattle.fof_terms.specs.Vocabulary.{Vocabulary}
use Rattle.fof_terms.specs.Lift.{lifted}
use Rattle.fof_terms.proofs.LiftFacts.{lifted-All}
use Rattle.fof_terms.specs.Sorts.{IsScope, SortedTo, binder_depth}
use Rattle.fof_terms.proofs.Scoped.{sorted_of_all}
use Rattle.fof_terms.proofs.Walks.{same_depth, lifting}
use Rattle.clause_form.specs.ClauseView.{closed_by}
use Rattle.clause_form.specs.Reached.{around}
use Rattle.clause_form.proofs.ReachedFacts.{around_append, fits_moved}
use Rattle.flat_form.specs.Flat.{Pulled, sorts_of, bodies_of}
use Rattle.flat_form.proofs.Renumbering.{itself, lift_number, lift_below, lift_above, lift_is}
use Rattle.fof_terms.proofs.LiftingLaws.{below_or_above}
use Rattle.std.proofs.Common.{inl, inr}
use Rattle.flat_proofs.specs.code.Gathering.{AreClosed}

-- a lift by nothing
nothing_number : (n k : ℕ) → lift_number 0 n k ≡ k
nothing_number n k =
    elim (below_or_above k n) [
      | inl h ↦ lift_below 0 n k h
      | inr h ↦ lift_above 0 n k h ∙ (omega arith)
    ]

pub nothing : (n : ℕ) (a : Form) → lifted 0 n a ≡ a
nothing n a = lift_is 0 n a ∙ itself (lift_number 0 n) (nothing_number n) a 0

-- a lift goes through quantifiers
pub closed_lifted : (f k : ℕ) (sorts : List ℕ) (a : Form) → lifted f k (closed_by sorts a) ≡ closed_by sorts (lifted f (k + length sorts) a)
closed_lifted f k [] a = ap (λ n. lifted f n a) (let same : k ≡ k + 0 = omega arith in same)
closed_lifted f k (s ∷ sorts) a =
    lifted-All f k s (closed_by sorts a)
    ∙ ap (All s) (closed_lifted f (k + 1) sorts a ∙ ap (λ n. closed_by sorts (lifted f n a)) (let same : k + 1 + length sorts ≡ k + length (s ∷ sorts) = omega arith in same))

-- what is around a scope holds of both
around_parts : (P : ℕ → Type 0) (sorts v : List ℕ) → AllByRecursion P (around sorts v) → AllByRecursion P sorts × AllByRecursion P v
around_parts P [] v all = (tt, all)
around_parts P (s ∷ sorts) v all = let parts = around_parts P sorts (s ∷ v) all in ((parts.1.0, parts.0), parts.1.1)

module _ (w : Vocabulary) (d : ℕ) where
  -- the body of a closed formula
  pub opened : (sorts v : List ℕ) (a : Form) → length sorts + length v ≤ 2147483647 → SortedTo d w v (closed_by sorts a) → SortedTo d w (around sorts v) a
  opened [] v a room r = r
  opened (s ∷ sorts) v a room r = opened sorts (s ∷ v) a (omega arith) (sorted_of_all w v d d s (closed_by sorts a) (omega arith) (omega arith) r)

  pub opened_sorts : (sorts v : List ℕ) (a : Form) → length sorts + length v ≤ 2147483647 → SortedTo d w v (closed_by sorts a) → AllByRecursion (λ s. s < length w.sorts) sorts
  opened_sorts sorts v a room r = (around_parts (λ s. s < length w.sorts) sorts v (opened sorts v a room r).scope_fits.sorts_exist).0

  pub depth_lifted : (by n : ℕ) (a : Form) → binder_depth (lifted by n a) ≡ binder_depth a
  depth_lifted by n a = let same : n + 0 ≡ n = omega arith in (rw same at (same_depth _ _ (lifting by (λ d. n + d) (λ d. omega arith)) a 0))

  -- a body with variables nearer and further out
  pub body_moved : (later own earlier v : List ℕ) (a : Form) → IsScope w (around later (around own (around earlier v))) → SortedTo d w (around own v) a
      → SortedTo d w (around later (around own (around earlier v))) (lifted (length later) 0 (lifted (length earlier) (length own) a))
  body_moved later own earlier v a sc r = record {
    scope_fits = sc;
    few_binders = rw (depth_lifted (length later) 0 (lifted (length earlier) (length own) a), depth_lifted (length earlier) (length own) a) r.few_binders;
    fits = fits_moved w later own earlier v a ∙ r.fits;
  }

  pub body_further : (own earlier v : List ℕ) (a : Form) → IsScope w (around own (around earlier v)) → SortedTo d w (around own v) a → SortedTo d w (around own (around earlier v)) (lifted (length earlier) (length own) a)
  body_further own earlier v a sc r =
      subst (λ b. SortedTo d w (around own (around earlier v)) b) (nothing 0 (lifted (length earlier) (length own) a)) (body_moved [] own earlier v a sc r)

  joined : (xs ys : List ℕ) → AllByRecursion (λ s. s < length w.sorts) xs → AllByRecursion (λ s. s < length w.sorts) ys → AllByRecursion (λ s. s < length w.sorts) (xs ++ ys)
  joined [] ys h k = k
  joined (x ∷ xs) ys h k = (h.0, joined xs ys h.1 k)

  pub all_sorts_exist : (v : List ℕ) (ps : List Pulled) → length (sorts_of ps) + length v ≤ 2147483647 → AreClosed w d v ps → AllByRecursion (λ s. s < length w.sorts) (sorts_of ps)
  all_sorts_exist v [] room all = tt
  all_sorts_exist v (p ∷ ps) room all =
      let e = length-append p.sorts (sorts_of ps) in
      joined p.sorts (sorts_of ps) (opened_sorts p.sorts v p.body (omega arith) all.0) (all_sorts_exist v ps (omega arith) all.1)

  -- and so are the bodies over the variables of all
  pub bodies_sorted : (v before : List ℕ) (ps : List Pulled) → length (sorts_of ps) + length v ≤ 2147483647 → IsScope w (around (sorts_of ps) (around before v)) → AreClosed w d v ps
      → AllByRecursion (SortedTo d w (around (sorts_of ps) (around before v))) (bodies_of (length before) ps)
  bodies_sorted v before [] room sc all = tt
  bodies_sorted v before (p ∷ ps) room sc all =
      let later = sorts_of ps in
      let e = length-append p.sorts later in
      let one : around (p.sorts ++ later) (around before v) ≡ around later (around p.sorts (around before v)) = around_append p.sorts later (around before v) in
      let two : around later (around (before ++ p.sorts) v) ≡ around later (around p.sorts (around before v)) = ap (around later) (around_append before p.sorts v) in
      let count : length (before ++ p.sorts) ≡ length before + length p.sorts = length-append before p.sorts in
      let body = opened p.sorts v p.body (omega arith) all.0 in
      let rest = bodies_sorted v (before ++ p.sorts) ps (omega arith) (subst (IsScope w) (one ∙ sym two) sc) all.1 in
      let rest_here = subst (λ n. AllByRecursion (SortedTo d w (around later (around (before ++ p.sorts) v))) (bodies_of n ps)) count rest in
      let whole : around (p.sorts ++ later) (around before v) ≡ around later (around (before ++ p.sorts) v) = one ∙ sym two in (
        subst (λ ss. SortedTo d w ss (lifted (length later) 0 (lifted (length before) (length p.sorts) p.body))) (sym one) (body_moved later p.sorts before v p.body (subst (IsScope w) one sc) body),
        subst (λ ss. AllByRecursion (SortedTo d w ss) (bodies_of (length before + length p.sorts) ps)) (sym whole) rest_here,
      )
