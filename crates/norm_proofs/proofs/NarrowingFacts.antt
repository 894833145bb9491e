-- Members of conjunctions under universal quantifiers.
use Rattle.std.specs.Prelude.{ℕ, ◌+◌, ◌-◌, ◌<◌, ◌≤◌, ◌≡◌, get_or, List, [], ◌∷◌, ◌++◌, length, slice_get, Some, true, refl}
use Rattle.std.proofs.Common.{ap, sym, subst, ◌∙◌, arith}
use Rattle.fof_terms.specs.declared.form.Form.{Form, And, All}
use Rattle.fof_terms.specs.Vocabulary.{Vocabulary}
use Rattle.fof_terms.specs.Lift.{lifted}
use Rattle.fof_terms.specs.Sorts.{binder_depth, SortedTo}
use Rattle.fof_terms.proofs.SortsFacts.{binder_depth-All}
use Rattle.fof_terms.proofs.LiftingLaws.{closed_stays}
use Rattle.fof_terms.proofs.Moved.{closed_anywhere}
use Rattle.fof_terms.proofs.Scoped.{raised, member_of, all_sorted, sorted_of_and, sorted_of_all}
use Rattle.fof_terms.proofs.Walks.{lifting, staying, same_forms}
use Rattle.clause_form.specs.ClauseView.{closed_by}
use Rattle.clause_form.specs.Sizes.{norm_size_of}
use Rattle.clause_form.proofs.SizesFacts.{norm_size_of-All}
use Rattle.clause_form.specs.Reached.{around}
use Rattle.clause_form.proofs.ReachedFacts.{around_length}
use Rattle.clause_form.proofs.BesideFacts.{lift_nothing}
use Rattle.kernel.specs.Proves.{Proves}
use Rattle.kernel.proofs.Building.{by_and_e}
use Rattle.kernel.specs.declared.proof.Proof.{Proof, AndE}
use Rattle.derive_kit.proofs.Around.{all_around}
use Rattle.norm_proofs.specs.Narrowing.{LeadsTo}
use Rattle.norm_proofs.specs.code.Narrowing.{picked_tree}
use Rattle.norm_proofs.specs.Numbering.{near}
use Rattle.norm_proofs.proofs.NormsFacts.{small_member}
use Rattle.norm_proofs.proofs.Places.{at_index}
use Rattle.norm_proofs.proofs.NumberingFacts.{by_general, stand_between, near_shows}

nothing : (a : Form) (d : ℕ) → lifted 0 d a ≡ a
nothing = same_forms _ _ _ _ (lifting 0 (λ d. d) (λ d. refl)) staying lift_nothing

-- a member under the quantifiers, and what stands under them
module _ (w : Vocabulary) where
  member_sorted : (sorts v : List ℕ) (ms : List Form) (k : ℕ) (m : Form) (d : ℕ) → length sorts + length v ≤ 2147483647 → slice_get ms k ≡ Some m → SortedTo d w v (closed_by sorts (And ms)) → SortedTo d w v (closed_by sorts m)
  member_sorted [] v ms k m d room e r = member_of (SortedTo d w v) ms k m (sorted_of_and w v d ms r) e
  member_sorted (s ∷ sorts) v ms k m d room e r =
      let inner = sorted_of_all w v d (d - 1) s (closed_by sorts (And ms)) (omega arith) (omega arith) r in
      let few : binder_depth (closed_by sorts (And ms)) + 1 ≤ d = rw binder_depth-All at r.few_binders in
      raised w v (d - 1 + 1) d (All s (closed_by sorts m)) (omega arith) (all_sorted w v (d - 1) s (closed_by sorts m) (member_sorted sorts (s ∷ v) ms k m (d - 1) (omega arith) e inner))

  under_sorted : (sorts v : List ℕ) (b : Form) (d : ℕ) → length sorts + length v ≤ 2147483647 → SortedTo d w v (closed_by sorts b) → SortedTo (d - length sorts) w (around sorts v) b
  under_sorted [] v b d room r = raised w v d (d - 0) b (omega arith) r
  under_sorted (s ∷ sorts) v b d room r =
      raised w (around sorts (s ∷ v)) (d - 1 - length sorts) (d - length (s ∷ sorts)) b (omega arith)
      (under_sorted sorts (s ∷ v) b (d - 1) (omega arith) (sorted_of_all w v d (d - 1) s (closed_by sorts b) (omega arith) (omega arith) r))

member_size : (sorts : List ℕ) (ms : List Form) (k : ℕ) (m : Form) → slice_get ms k ≡ Some m → norm_size_of (closed_by sorts m) ≤ norm_size_of (closed_by sorts (And ms))
member_size [] ms k m e = small_member true ms k m e
member_size (s ∷ sorts) ms k m e = let rest = member_size sorts ms k m e in rw (norm_size_of-All s (closed_by sorts m), norm_size_of-All s (closed_by sorts (And ms))) (omega arith)

pub leads_to_member : (few : ℕ) (sorts : List ℕ) (ms : List Form) (k : ℕ) (m : Form) (p : Proof) → length sorts ≤ 100000 → slice_get ms k ≡ Some m
    → LeadsTo few (closed_by sorts (And ms)) p (few + length sorts) (closed_by sorts m) (picked_tree sorts k p)
leads_to_member few sorts ms k m p small e = record {
  smaller = member_size sorts ms k m e;
  sorted = λ w d le r. member_sorted w sorts [] ms k m d (omega arith) e r;
  shows = λ t d n le r shows v h sc room.
      let w = t.vocabulary in
      let count = length sorts in
      let closed = member_sorted w sorts [] ms k m d (omega arith) e r in
      let here = closed_anywhere w v d (closed_by sorts m) sc closed in
      let inside = under_sorted w sorts v m d (omega arith) here in
      let scope = around sorts v in
      let hs = all_around sorts h in
      let long = around_length sorts v in
      let own = shows scope hs inside.scope_fits (omega arith) in
      let same : lifted 0 0 (closed_by sorts (And ms)) ≡ closed_by sorts (And ms) = nothing (closed_by sorts (And ms)) 0 in
      let stays : lifted (0 + count) 0 (closed_by sorts (And ms)) ≡ closed_by sorts (And ms) = closed_stays w (0 + count) (closed_by sorts (And ms)) [] 0 (omega arith) r.fits in
      let both : lifted (0 + count) 0 (lifted 0 0 (closed_by sorts (And ms))) ≡ closed_by sorts (And ms) = ap (lifted (0 + count) 0) same ∙ stays in
      let there = near_shows t scope hs 0 0 sorts 0 (And ms) p (stand_between [] sorts v) (subst (λ (x : Form). Proves t scope hs p x) (sym both) own) in
      let back : lifted 0 0 (lifted 0 (0 + count) (And ms)) ≡ And ms = nothing (lifted 0 (0 + count) (And ms)) 0 ∙ nothing (And ms) (0 + count) in
      by_general t (d - count) sorts v h (AndE k (near 0 count p)) m (omega arith) inside
      (by_and_e t scope hs k (near 0 count p) ms m e (subst (λ (x : Form). Proves t scope hs (near 0 count p) x) back there));
}

pub leads_to_itself : (few : ℕ) (a : Form) (p : Proof) → LeadsTo few a p few a p
leads_to_itself few a p = record { smaller = omega arith; sorted = λ w d le r. r; shows = λ t d n le r shows. shows }

pub leads_on : (x y z : ℕ) (a b c : Form) (p q r : Proof) → LeadsTo x a p y b q → LeadsTo y b q z c r → LeadsTo x a p z c r
leads_on x y z a b c p q r one two = record {
  smaller = omega (arith, one.smaller, two.smaller);
  sorted = λ w d le s. two.sorted w d le (one.sorted w d le s);
  shows = λ t d n le s shows. two.shows t d n le (one.sorted t.vocabulary d le s) (one.shows t d n le s shows);
}

-- one more quantifier
pub closed_more : (sorts : List ℕ) (s : ℕ) (b : Form) → closed_by (sorts ++ s ∷ []) b ≡ closed_by sorts (All s b)
closed_more [] s b = refl
closed_more (r ∷ sorts) s b = ap (All r) (closed_more sorts s b)

-- As code meets them.
pub under_leads : (more : ℕ) (sorts pushed : List ℕ) (s : ℕ) (a body inner : Form) (p : Proof) (z : ℕ) (c : Form) (r : Proof) → a ≡ All s body → inner ≡ body → pushed ≡ sorts ++ s ∷ [] → LeadsTo more (closed_by pushed inner) p z c r
    → LeadsTo more (closed_by sorts a) p z c r
under_leads more sorts pushed s a body inner p z c r ea ei ep l =
    let same : closed_by pushed inner ≡ closed_by sorts a = ap (λ (ss : List ℕ). closed_by ss inner) ep ∙ closed_more sorts s inner ∙ ap (λ (x : Form). closed_by sorts (All s x)) ei ∙ ap (closed_by sorts) (sym ea) in
    subst (λ (x : Form). LeadsTo more x p z c r) same l

pub member_leads : (more after : ℕ) (sorts lent : List ℕ) (ms lents : List Form) (k : ℕ) (a m : Form) (p q : Proof) (z : ℕ) (c : Form) (r : Proof) → a ≡ And ms → lents ≡ ms → k < length lents → m ≡ get_or lents k m → lent ≡ sorts → length sorts ≤ 100000
    → after ≡ more + length sorts → q ≡ picked_tree lent k p → LeadsTo after (closed_by sorts m) q z c r → LeadsTo more (closed_by sorts a) p z c r
member_leads more after sorts lent ms lents k a m p q z c r ea el lt is es few en eq l =
    let at : slice_get ms k ≡ Some m = subst (λ (xs : List Form). slice_get xs k ≡ Some m) el (at_index lents k m lt is) in
    let one = leads_to_member more sorts ms k m p few at in
    let tree : q ≡ picked_tree sorts k p = eq ∙ ap (λ (ss : List ℕ). picked_tree ss k p) es in
    let two : LeadsTo (more + length sorts) (closed_by sorts m) (picked_tree sorts k p) z c r = subst (λ (x : Proof). LeadsTo (more + length sorts) (closed_by sorts m) x z c r) tree (subst (λ (n : ℕ). LeadsTo n (closed_by sorts m) q z c r) en l) in
    subst (λ (x : Form). LeadsTo more (closed_by sorts x) p z c r) (sym ea) (leads_on more (more + length sorts) z (closed_by sorts (And ms)) (closed_by sorts m) c p (picked_tree sorts k p) r one two)

pub kept_leads : (more z : ℕ) (a c : Form) (p r : Proof) → c ≡ a → r ≡ p → z ≡ more → LeadsTo more a p z c r
kept_leads more z a c p r ec er ez = rw (ec, er, ez) (leads_to_itself more a p)

pub closed_popped : (rest sorts : List ℕ) (s : ℕ) (b made c : Form) → sorts ≡ rest ++ s ∷ [] → made ≡ All s b → closed_by sorts b ≡ c → closed_by rest made ≡ c
closed_popped rest sorts s b made c es em e = ap (closed_by rest) em ∙ sym (closed_more rest s b) ∙ ap (λ (ss : List ℕ). closed_by ss b) (sym es) ∙ e
