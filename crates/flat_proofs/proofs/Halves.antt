-- Half by half, by all quantifiers over a conjunction of bodies, the conjunction of the closed bodies.
use Rattle.std.specs.Prelude.{ℕ, zero, suc, ◌≡◌, ◌+◌, ◌<◌, ◌≤◌, ◌^◌, Bool, true, false, List, [], ◌∷◌, ◌++◌, length, map, take, drop, Some, slice_get, refl}
use Rattle.std.specs.List.{AllByRecursion}
use Rattle.std.proofs.Common.{ap, sym, subst, ◌∙◌, arith, length-append, inl, inr}
use Rattle.std.proofs.lemmas.List.{map-append, length-map, take-append-drop}
use Rattle.fof_terms.specs.declared.term.Term.{Var}
use Rattle.fof_terms.specs.declared.form.Form.{Form, Not, And, Or, Imp}
use Rattle.fof_terms.specs.Lift.{lifted, lifted_term, lift_reach}
use Rattle.fof_terms.proofs.LiftFacts.{lifted-And, lifted-Or, lifted-Not, lift_reach-Or}
use Rattle.fof_terms.proofs.LiftingLaws.{below_or_above, stays, moves}
use Rattle.fof_terms.proofs.Walks.{both_terms, both_walks, lifting_term, lifting, same_terms, same_forms}
use Rattle.fof_terms.specs.Sorts.{IsScope, SortedTo, Sorted}
use Rattle.fof_terms.proofs.Scoped.{raised, and_sorted, not_sorted}
use Rattle.clause_form.specs.ClauseView.{closed_by}
use Rattle.clause_form.specs.Reached.{around}
use Rattle.clause_form.proofs.ReachedFacts.{around_append}
use Rattle.kernel.specs.Statements.{Statements}
use Rattle.kernel.specs.Proves.{Proves}
use Rattle.kernel.specs.code.Rules.{ProveAll}
use Rattle.kernel.proofs.Building.{shown_sorted, by_hyp, by_and_i, by_and_e, by_imp_i, by_imp_e, by_not_e, by_raa}
use Rattle.kernel.specs.declared.proof.Proof.{Proof, Hyp, AndI, ImpI, ImpE, NotE}
use Rattle.derive_kit.proofs.Around.{twice_form, all_around, head_around}
use Rattle.derive_kit.proofs.Built.{cut_shows}
use Rattle.derive_kit.proofs.Members.{first, second}
use Rattle.norm_proofs.specs.Numbering.{general, near}
use Rattle.norm_proofs.proofs.NumberingFacts.{by_general, around_sorted}
use Rattle.flat_form.specs.declared.pulling.Pulled.{Pulled as Made}
use Rattle.flat_form.specs.Flat.{Pulled, sorts_of, bodies_of}
use Rattle.flat_proofs.specs.code.Gathering.{AreClosed, inhabited, gather_tree}
use Rattle.flat_proofs.specs.code.Halving.{picks, segment, freed, front_tree, rear_tree, both_tree, joined_tree, Gathers}
use Rattle.flat_proofs.proofs.Grouped.{full, group_of}
use Rattle.flat_proofs.specs.code.Loose.{closed_of}
use Rattle.flat_proofs.specs.declared.halving.Group.{Group}
use Rattle.flat_proofs.specs.code.Members.{seen, HaveRoom}
use Rattle.flat_proofs.proofs.Opened.{closed_lifted, bodies_sorted}
use Rattle.flat_proofs.proofs.GatherFacts.{by_inhabited, all_shows, ListedFrom, listed_first, listed_rest, listed_all}
use Rattle.flat_proofs.proofs.Gathered.{sc_all, body_here, whole_here, gather_shows}
use Rattle.flat_proofs.proofs.Refuting.{around_one, sorts_append, bodies_count}

-- lists of two parts
front_get : {X : Type 0} (xs ys : List X) (j : ℕ) (x : X) → slice_get xs j ≡ Some x → slice_get (xs ++ ys) j ≡ Some x
front_get [] ys j x e = cc
front_get (y ∷ xs) ys zero x e = e
front_get (y ∷ xs) ys (suc j) x e = front_get xs ys j x e

listed_front : {X : Type 0} (xs ys : List X) → ListedFrom (xs ++ ys) 0 xs
listed_front xs ys j x e = let same : 0 + j ≡ j = omega arith in rw same (front_get xs ys j x e)

listed_rear : {X : Type 0} (xs ys : List X) → ListedFrom (xs ++ ys) (length xs) ys
listed_rear [] ys j x e = let same : 0 + j ≡ j = omega arith in rw same e
listed_rear (y ∷ xs) ys j x e = let same : length (y ∷ xs) + j ≡ suc (length xs + j) = omega arith in rw same (listed_rear xs ys j x e)

both_parts : {X : Type 0} (P : X → Type 0) (xs ys : List X) → AllByRecursion P (xs ++ ys) → AllByRecursion P xs × AllByRecursion P ys
both_parts P [] ys all = (tt, all)
both_parts P (x ∷ xs) ys all = let parts = both_parts P xs ys all.1 in ((all.0, parts.0), parts.1)

-- Bodies over further variables.
past_var : (e f n l d k : ℕ) → lifted_term e (f + n + l + d) (lifted_term l d (lifted_term f (n + d) (Var k))) ≡ lifted_term l d (lifted_term (f + e) (n + d) (Var k))
past_var e f n l d k =
    elim (below_or_above k (n + d)) [
      | inl h ↦
          elim (below_or_above k d) [
            | inl g ↦ rw (stays f (n + d) k h, stays (f + e) (n + d) k h, stays l d k g) (stays e (f + n + l + d) k (omega arith))
            | inr g ↦ rw (stays f (n + d) k h, stays (f + e) (n + d) k h, moves l d k g) (stays e (f + n + l + d) (k + l) (omega arith))
          ]
      | inr h ↦
          let same : k + f + l + e ≡ k + (f + e) + l = omega arith in
          rw (moves f (n + d) k h, moves (f + e) (n + d) k h, moves l d (k + f) (omega arith), moves l d (k + (f + e)) (omega arith)) (moves e (f + n + l + d) (k + f + l) (omega arith) ∙ ap Var same)
    ]

past_form : (e f n l : ℕ) (a : Form) (d : ℕ) → lifted e (f + n + l + d) (lifted l d (lifted f (n + d) a)) ≡ lifted l d (lifted (f + e) (n + d) a)
past_form e f n l =
    same_forms _ _ _ _
    (both_walks _ _ _ _ (lifting e (λ d. f + n + l + d) (λ d. omega arith)) (both_walks _ _ _ _ (lifting l (λ d. d) (λ d. refl)) (lifting f (λ d. n + d) (λ d. omega arith))))
    (both_walks _ _ _ _ (lifting l (λ d. d) (λ d. refl)) (lifting (f + e) (λ d. n + d) (λ d. omega arith)))
    (λ d. same_terms _ _ (both_terms _ _ (lifting_term e (f + n + l + d)) (both_terms _ _ (lifting_term l d) (lifting_term f (n + d)))) (both_terms _ _ (lifting_term l d) (lifting_term (f + e) (n + d))) (past_var e f n l d))

bodies_past : (e f : ℕ) (ps : List Pulled) (m : ℕ) → m ≡ f + length (sorts_of ps) → map (lifted e m) (bodies_of f ps) ≡ bodies_of (f + e) ps
bodies_past e f [] m is = refl
bodies_past e f (p ∷ ps) m is =
    let n = length p.sorts in
    let l = length (sorts_of ps) in
    let len = length-append p.sorts (sorts_of ps) in
    let far : m ≡ f + n + l + 0 = omega arith in
    let none : n + 0 ≡ n = omega arith in
    let past : lifted e (f + n + l + 0) (lifted l 0 (lifted f n p.body)) ≡ lifted l 0 (lifted (f + e) n p.body) = rw none at (past_form e f n l p.body 0) in
    let here : lifted e m (lifted l 0 (lifted f n p.body)) ≡ lifted l 0 (lifted (f + e) n p.body) = ap (λ (k : ℕ). lifted e k (lifted l 0 (lifted f n p.body))) far ∙ past in
    let swap : f + n + e ≡ f + e + n = omega arith in
    let rest : map (lifted e m) (bodies_of (f + n) ps) ≡ bodies_of (f + e + n) ps = bodies_past e (f + n) ps m (omega arith) ∙ ap (λ (k : ℕ). bodies_of k ps) swap in
    ap (λ (b : Form). b ∷ map (lifted e m) (bodies_of (f + n) ps)) here ∙ ap (λ (bs : List Form). lifted l 0 (lifted (f + e) n p.body) ∷ bs) rest

bodies_append : (f : ℕ) (qs ps : List Pulled) → bodies_of f (qs ++ ps) ≡ map (lifted (length (sorts_of ps)) 0) (bodies_of f qs) ++ bodies_of (f + length (sorts_of qs)) ps
bodies_append f [] ps = let none : f ≡ f + 0 = omega arith in ap (λ (m : ℕ). bodies_of m ps) none
bodies_append f (q ∷ qs) ps =
    let x = lifted f (length q.sorts) q.body in
    let n = length (sorts_of ps) in
    let count : length (sorts_of (qs ++ ps)) ≡ n + length (sorts_of qs) = ap length (sorts_append qs ps) ∙ (length-append (sorts_of qs) (sorts_of ps) ∙ (omega arith)) in
    let head : lifted (length (sorts_of (qs ++ ps))) 0 x ≡ lifted n 0 (lifted (length (sorts_of qs)) 0 x) = sym (twice_form n (length (sorts_of qs)) (length (sorts_of (qs ++ ps))) count x 0) in
    let sum : f + length q.sorts + length (sorts_of qs) ≡ f + length (q.sorts ++ sorts_of qs) = let e = length-append q.sorts (sorts_of qs) in omega arith in
    ap (λ b. b ∷ bodies_of (f + length q.sorts) (qs ++ ps)) head
    ∙ ap (λ bs. lifted n 0 (lifted (length (sorts_of qs)) 0 x) ∷ bs) (bodies_append (f + length q.sorts) qs ps ∙ ap (λ m. map (lifted n 0) (bodies_of (f + length q.sorts) qs) ++ bodies_of m ps) sum)

-- members of a conjunction at hand
picks_show : (t : Statements) (v : List ℕ) (h : List Form) (i : ℕ) (whole as_ : List Form) (k : ℕ) → ListedFrom whole k as_ → Proves t v h (Hyp i) (And whole) → ProveAll t v h (picks i k (length as_)) as_
picks_show t v h i whole [] k l w = tt
picks_show t v h i whole (a ∷ as_) k l w = (by_and_e t v h k (Hyp i) whole a (listed_first whole k a as_ l) w, picks_show t v h i whole as_ (k + 1) (listed_rest whole k a as_ l) w)

prove_both : (t : Statements) (v : List ℕ) (h : List Form) (ps qs : List Proof) (as_ bs : List Form) → ProveAll t v h ps as_ → ProveAll t v h qs bs → ProveAll t v h (ps ++ qs) (as_ ++ bs)
prove_both t v h [] qs [] bs one two = two
prove_both t v h [] qs (a ∷ as_) bs one two = absurd one
prove_both t v h (p ∷ ps) qs [] bs one two = absurd one
prove_both t v h (p ∷ ps) qs (a ∷ as_) bs one two = (one.0, prove_both t v h ps qs as_ bs one.1 two)

both_shows : (t : Statements) (v : List ℕ) (h : List Form) (cl cr : List Form) (p q : Proof) → Proves t v h p (And cl) → Proves t v h q (And cr) → Proves t v h (ImpE (ImpE (both_tree cl cr) p) q) (And (cl ++ cr))
both_shows t v h cl cr p q one two =
    let sl = shown_sorted t v h p (And cl) one in
    let sr = shown_sorted t v h q (And cr) two in
    let hyps = And cr ∷ And cl ∷ h in
    let front = picks_show t v hyps 1 cl cl 0 (listed_all cl) (second t v h (And cr) (And cl) sl) in
    let rear = picks_show t v hyps 0 cr cr 0 (listed_all cr) (first t v (And cl ∷ h) (And cr) sr) in
    let arms = picks 1 0 (length cl) ++ picks 0 0 (length cr) in
    let all = by_and_i t v hyps arms (cl ++ cr) sl.scope_fits (prove_both t v hyps (picks 1 0 (length cl)) (picks 0 0 (length cr)) cl cr front rear) in
    let inner = by_imp_i t v (And cl ∷ h) (And cr) (And (cl ++ cr)) (AndI arms) sr all in
    let outer = by_imp_i t v h (And cl) (Imp (And cr) (And (cl ++ cr))) (ImpI (And cr) (AndI arms)) sl inner in
    by_imp_e t v h (ImpE (both_tree cl cr) p) q (And cr) (And (cl ++ cr)) (by_imp_e t v h (both_tree cl cr) p (And cl) (Imp (And cr) (And (cl ++ cr))) outer one) two

-- what is shown over variables of which the formula doesn't speak
freed_shows : (t : Statements) (sorts v : List ℕ) (h : List Form) (g : Form) (p : Proof) → IsScope t.vocabulary (around sorts v) → Sorted t.vocabulary v g
    → Proves t (around sorts v) (all_around sorts (Not g ∷ h)) p (lifted (length sorts) 0 g) → Proves t v h (freed sorts g p) g
freed_shows t sorts v h g p sc s w =
    let scope = around sorts v in
    let n = length sorts in
    let hyps = all_around sorts (Not g ∷ h) in
    let denial = around_sorted t.vocabulary sorts v (Not g) sc (not_sorted t.vocabulary v 2147483647 g s) in
    let hyp : Proves t scope hyps (Hyp 0) (lifted n 0 (Not g)) = by_hyp t scope hyps 0 (lifted n 0 (Not g)) denial (head_around sorts h (Not g)) in
    let against = subst (λ (a : Form). Proves t scope hyps (Hyp 0) a) (lifted-Not n 0 g) hyp in
    let clash = by_not_e t scope hyps (Hyp 0) p (lifted n 0 g) against w in
    let none : Or [] ≡ lifted n 0 (Or []) = sym (lifted-Or n 0 []) in
    let absurdity = by_inhabited t sorts v (Not g ∷ h) (Or []) (NotE (Hyp 0) p) (subst (λ (a : Form). Proves t scope hyps (NotE (Hyp 0) p) a) none clash) in
    by_raa t v h g (inhabited sorts (Or []) (NotE (Hyp 0) p)) s absurdity

-- some of the bodies at their variables
segment_shows : (t : Statements) (all v : List ℕ) (hyps bs as_ : List Form) (k : ℕ) → slice_get hyps 1 ≡ Some (lifted (length all) 0 (closed_by all (And bs))) → IsScope t.vocabulary (around all v)
    → Sorted t.vocabulary v (closed_by all (And bs)) → ListedFrom bs k as_ → Proves t (around all v) hyps (segment bs (length all) k (length as_)) (And as_)
segment_shows t all v hyps bs as_ k there sc s l =
    let scope = around all v in
    let n = length all in
    let whole = closed_by all (And bs) in
    let hyp : Proves t scope hyps (Hyp 1) (lifted n 0 whole) = by_hyp t scope hyps 1 (lifted n 0 whole) (around_sorted t.vocabulary all v whole sc s) there in
    let shown = all_shows t all v hyps (And bs) (Hyp 1) hyp in
    let sorted = shown_sorted t scope hyps (near 0 n (Hyp 1)) (And bs) shown in
    let arms = picks_show t scope (And bs ∷ hyps) 0 bs as_ k l (first t scope hyps (And bs) sorted) in
    cut_shows (near 0 n (Hyp 1)) (AndI (picks 0 k (length as_))) (And bs) t scope hyps (And as_) shown (by_and_i t scope (And bs ∷ hyps) (picks 0 k (length as_)) as_ sc arms)

module _ (t : Statements) (v : List ℕ) (d : ℕ) (h : List Form) (sc : IsScope t.vocabulary v) (ls rs : List Pulled) (room : d + length (sorts_of (ls ++ rs)) + length v ≤ 2147483647)
    (closed : AreClosed t.vocabulary d v (ls ++ rs)) where
  count : length (sorts_of (ls ++ rs)) ≡ length (sorts_of ls) + length (sorts_of rs)
  count = ap length (sorts_append ls rs) ∙ length-append (sorts_of ls) (sorts_of rs)

  halves : AreClosed t.vocabulary d v ls × AreClosed t.vocabulary d v rs
  halves = both_parts (λ p. SortedTo d t.vocabulary v (closed_of p)) ls rs closed

  room_front : d + length (sorts_of ls) + length v ≤ 2147483647
  room_front = let e = count in omega arith

  room_rear : d + length (sorts_of rs) + length v ≤ 2147483647
  room_rear = let e = count in omega arith

  sc_front : IsScope t.vocabulary (around (sorts_of ls) v)
  sc_front = sc_all t v d h sc ls room_front halves.0

  sc_here : IsScope t.vocabulary (around (sorts_of (ls ++ rs)) v)
  sc_here = sc_all t v d h sc (ls ++ rs) room closed

  scope_is : around (sorts_of (ls ++ rs)) v ≡ around (sorts_of rs) (around (sorts_of ls) v)
  scope_is = ap (λ ss. around ss v) (sorts_append ls rs) ∙ around_append (sorts_of ls) (sorts_of rs) v

  sc_both : IsScope t.vocabulary (around (sorts_of rs) (around (sorts_of ls) v))
  sc_both = subst (IsScope t.vocabulary) scope_is sc_here

  whole_sorted : Sorted t.vocabulary v (full (ls ++ rs))
  whole_sorted = whole_here t v d h sc (ls ++ rs) room closed true

  twice : (a : Form) → lifted (length (sorts_of rs)) 0 (lifted (length (sorts_of ls)) 0 a) ≡ lifted (length (sorts_of (ls ++ rs))) 0 a
  twice a = twice_form (length (sorts_of rs)) (length (sorts_of ls)) (length (sorts_of (ls ++ rs))) (let e = count in omega arith) a 0

  -- the segment, where all over the bodies is a hypothesis
  part_shows : (hyps as_ : List Form) (k : ℕ) → slice_get hyps 1 ≡ Some (lifted (length (sorts_of rs)) 0 (lifted (length (sorts_of ls)) 0 (full (ls ++ rs)))) → ListedFrom (bodies_of 0 (ls ++ rs)) k as_
      → Proves t (around (sorts_of rs) (around (sorts_of ls) v)) hyps (segment (bodies_of 0 (ls ++ rs)) (length (sorts_of ls) + length (sorts_of rs)) k (length as_)) (And as_)
  part_shows hyps as_ k at l =
      let bs = bodies_of 0 (ls ++ rs) in
      let shown = segment_shows t (sorts_of (ls ++ rs)) v hyps bs as_ k (at ∙ ap Some (twice (full (ls ++ rs)))) sc_here whole_sorted l in
      let here = subst (λ (ss : List ℕ). Proves t ss hyps (segment bs (length (sorts_of (ls ++ rs))) k (length as_)) (And as_)) scope_is shown in
      subst (λ (c : ℕ). Proves t (around (sorts_of rs) (around (sorts_of ls) v)) hyps (segment bs c k (length as_)) (And as_)) count here

  front_shows : Proves t v (full (ls ++ rs) ∷ h) (front_tree (sorts_of ls) (sorts_of rs) (bodies_of 0 ls) (bodies_of 0 (ls ++ rs))) (full ls)
  front_shows =
      let whole = full (ls ++ rs) in
      let l = sorts_of ls in
      let r = sorts_of rs in
      let bl = bodies_of 0 ls in
      let bs = bodies_of 0 (ls ++ rs) in
      let far = around l v in
      let outer = all_around l (whole ∷ h) in
      let hyps = all_around r (Not (And bl) ∷ outer) in
      let as_ = map (lifted (length r) 0) bl in
      let given : hyps ≡ lifted (length r) 0 (Not (And bl)) ∷ lifted (length r) 0 (lifted (length l) 0 whole) ∷ all_around r (all_around l h) =
      around_one r (Not (And bl)) outer ∙ ap (λ hs. lifted (length r) 0 (Not (And bl)) ∷ hs) (ap (all_around r) (around_one l whole h) ∙ around_one r (lifted (length l) 0 whole) (all_around l h)) in
      let listed : ListedFrom bs 0 as_ = subst (λ (xs : List Form). ListedFrom xs 0 as_) (sym (bodies_append 0 ls rs)) (listed_front as_ (bodies_of (0 + length l) rs)) in
      let shown = part_shows hyps as_ 0 (ap (λ (hs : List Form). slice_get hs 1) given) listed in
      let counted = subst (λ (c : ℕ). Proves t (around r far) hyps (segment bs (length l + length r) 0 c) (And as_)) (length-map bl (lifted (length r) 0)) shown in
      let seg = segment bs (length l + length r) 0 (length bl) in
      let moved = subst (λ (a : Form). Proves t (around r far) hyps seg a) (sym (lifted-And (length r) 0 bl)) counted in
      let body : SortedTo d t.vocabulary far (And bl) = body_here t v d h sc ls room_front halves.0 true in
      let inner = freed_shows t r far outer (And bl) seg sc_both (raised t.vocabulary far d 2147483647 (And bl) (omega (arith, room)) body) moved in
      by_general t d l v (whole ∷ h) (freed r (And bl) seg) (And bl) (omega (arith, room_front)) body inner

  rear_shows : Proves t v (full (ls ++ rs) ∷ h) (rear_tree (sorts_of ls) (sorts_of rs) (bodies_of 0 ls) (bodies_of 0 rs) (bodies_of 0 (ls ++ rs))) (full rs)
  rear_shows =
      let whole = full (ls ++ rs) in
      let l = sorts_of ls in
      let r = sorts_of rs in
      let n = length l in
      let bl = bodies_of 0 ls in
      let br = bodies_of 0 rs in
      let bs = bodies_of 0 (ls ++ rs) in
      let far = around l v in
      let outer = all_around l (Not (full rs) ∷ whole ∷ h) in
      let hyps = all_around r outer in
      let as_ = bodies_of n rs in
      let denial = lifted n 0 (Not (full rs)) in
      let given : hyps ≡ lifted (length r) 0 denial ∷ lifted (length r) 0 (lifted n 0 whole) ∷ all_around r (all_around l h) =
      ap (all_around r) (around_one l (Not (full rs)) (whole ∷ h) ∙ ap (λ hs. denial ∷ hs) (around_one l whole h))
      ∙ (around_one r denial (lifted n 0 whole ∷ all_around l h) ∙ ap (λ hs. lifted (length r) 0 denial ∷ hs) (around_one r (lifted n 0 whole) (all_around l h))) in
      let none : 0 + n ≡ n = omega arith in
      let front = map (lifted (length r) 0) bl in
      let split : front ++ as_ ≡ bs = sym (bodies_append 0 ls rs ∙ ap (λ (k : ℕ). front ++ bodies_of k rs) none) in
      let listed : ListedFrom bs (length bl) as_ =
      subst (λ (xs : List Form). ListedFrom xs (length bl) as_) split (subst (λ (k : ℕ). ListedFrom (front ++ as_) k as_) (length-map bl (lifted (length r) 0)) (listed_rear front as_)) in
      let shown = part_shows hyps as_ (length bl) (ap (λ (hs : List Form). slice_get hs 1) given) listed in
      let counted = subst (λ (c : ℕ). Proves t (around r far) hyps (segment bs (n + length r) (length bl) c) (And as_)) (bodies_count n rs ∙ sym (bodies_count 0 rs)) shown in
      let seg = segment bs (n + length r) (length bl) (length br) in
      let bodies = and_sorted t.vocabulary (around r far) d sc_both as_ (bodies_sorted t.vocabulary d v l rs (omega (arith, room_rear)) sc_both halves.1) in
      let all = by_general t d r far outer seg (And as_) (omega (arith, room_rear)) bodies counted in
      let past : map (lifted n (0 + length r)) br ≡ as_ = bodies_past n 0 rs (0 + length r) refl ∙ ap (λ (k : ℕ). bodies_of k rs) none in
      let closed_is : closed_by r (And as_) ≡ lifted n 0 (full rs) = sym (closed_lifted n 0 r (And br) ∙ ap (closed_by r) (lifted-And n (0 + length r) br ∙ ap And past)) in
      freed_shows t l v (whole ∷ h) (full rs) (general r seg) sc_front (whole_here t v d h sc rs room_rear halves.1 true) (subst (λ (a : Form). Proves t far outer (general r seg) a) closed_is all)

  halves_show : (p q : Proof) → Gathers true false ls p → Gathers true false rs q → Proves t v h (joined_tree (group_of (ls ++ rs)) (group_of ls) (group_of rs) p q) (Imp (full (ls ++ rs)) (And (map closed_of (ls ++ rs))))
  halves_show p q gp gq =
      let whole = full (ls ++ rs) in
      let hyps = whole ∷ h in
      let front = front_tree (sorts_of ls) (sorts_of rs) (bodies_of 0 ls) (bodies_of 0 (ls ++ rs)) in
      let rear = rear_tree (sorts_of ls) (sorts_of rs) (bodies_of 0 ls) (bodies_of 0 rs) (bodies_of 0 (ls ++ rs)) in
      let cl = map closed_of ls in
      let cr = map closed_of rs in
      let one = by_imp_e t v hyps p front (full ls) (And cl) (gp t v d hyps sc room_front halves.0) front_shows in
      let two = by_imp_e t v hyps q rear (full rs) (And cr) (gq t v d hyps sc room_rear halves.1) rear_shows in
      let inner = ImpE (ImpE (both_tree cl cr) (ImpE p front)) (ImpE q rear) in
      let both = both_shows t v hyps cl cr (ImpE p front) (ImpE q rear) one two in
      by_imp_i t v h whole (And (map closed_of (ls ++ rs))) inner whole_sorted (subst (λ (cs : List Form). Proves t v hyps inner (And cs)) (sym (map-append closed_of ls rs)) both)

halves_gather : (ps ls rs : List Pulled) → ps ≡ ls ++ rs → (p q : Proof) → Gathers true false ls p → Gathers true false rs q → Gathers true false ps (joined_tree (group_of ps) (group_of ls) (group_of rs) p q)
halves_gather ps ls rs is p q gp gq =
    let here : Gathers true false (ls ++ rs) (joined_tree (group_of (ls ++ rs)) (group_of ls) (group_of rs) p q) = λ t v d h sc room closed. halves_show t v d h sc ls rs room closed p q gp gq in
    subst (λ (xs : List Pulled). Gathers true false xs (joined_tree (group_of xs) (group_of ls) (group_of rs) p q)) (sym is) here

-- at once
pub tree_gathers : (kind forth : Bool) (ps : List Pulled) (made : Proof) → made ≡ gather_tree kind forth ps → Gathers kind forth ps made
tree_gathers kind forth ps made e = λ t v d h sc room closed. rw e (gather_shows t v d h sc ps room closed kind forth)

pub forth_gathers : (kind forth : Bool) (ps : List Pulled) (made : Proof) → forth ≡ true → made ≡ gather_tree kind true ps → Gathers kind forth ps made
forth_gathers kind forth ps made holds e = tree_gathers kind forth ps made (rw holds e)

pub back_gathers : (kind forth : Bool) (ps : List Pulled) (made : Proof) → forth ≡ false → made ≡ gather_tree kind false ps → Gathers kind forth ps made
back_gathers kind forth ps made fails e = tree_gathers kind forth ps made (rw fails e)

pub and_gathers : (kind forth : Bool) (ps : List Pulled) (made : Proof) → kind ≡ true → forth ≡ false → Gathers true false ps made → Gathers kind forth ps made
and_gathers kind forth ps made holds fails w = rw (holds, fails) w

-- falsehood may be lifted
pub empty_reach : (by : ℕ) → lift_reach by 0 (Or []) < 2 ^ 32
empty_reach by = rw (lift_reach-Or by 0 []) (omega arith)

-- members in two parts, as code has them
module _ (ms : List Made) (i : ℕ) (ls rs : List Made) (el : ls ≡ take i ms) (er : rs ≡ drop i ms) where
  seen_parts : map seen ms ≡ map seen ls ++ map seen rs
  seen_parts = ap (map seen) (sym (take-append-drop i ms)) ∙ (map-append seen (take i ms) (drop i ms) ∙ (rw (el, er) refl))

  rooms : HaveRoom (map seen ms) → HaveRoom (map seen ls) × HaveRoom (map seen rs)
  rooms r =
      let front = map seen ls in
      let rear = map seen rs in
      let sorts : length (sorts_of (map seen ms)) ≡ length (sorts_of front) + length (sorts_of rear) =
      ap (λ (ps : List Pulled). length (sorts_of ps)) seen_parts ∙ (ap length (sorts_append front rear) ∙ length-append (sorts_of front) (sorts_of rear)) in
      let members : length (map seen ms) ≡ length front + length rear = ap length seen_parts ∙ length-append front rear in
      let closed = both_parts (λ p. SortedTo r.depth r.vocabulary r.scope (closed_of p)) front rear (subst (AreClosed r.vocabulary r.depth r.scope) seen_parts r.closed) in (
        record {
          vocabulary = r.vocabulary;
          scope = r.scope;
          depth = r.depth;
          room = omega (arith, r.room);
          few = omega (arith, r.few);
          members = omega (arith, r.members);
          closed = closed.0;
        },
        record {
          vocabulary = r.vocabulary;
          scope = r.scope;
          depth = r.depth;
          room = omega (arith, r.room);
          few = omega (arith, r.few);
          members = omega (arith, r.members);
          closed = closed.1;
        },
      )

  pub front_room : HaveRoom (map seen ms) → HaveRoom (map seen ls)
  front_room r = (rooms r).0

  pub rear_room : HaveRoom (map seen ms) → HaveRoom (map seen rs)
  rear_room r = (rooms r).1

  pub few_sorts : HaveRoom (map seen ms) → (one two : List ℕ) → one ≡ sorts_of (map seen ls) → two ≡ sorts_of (map seen rs) → length one + length two ≤ 100000
  few_sorts r one two e f =
      let whole = ap (λ (ps : List Pulled). length (sorts_of ps)) seen_parts ∙ (ap length (sorts_append (map seen ls) (map seen rs)) ∙ length-append (sorts_of (map seen ls)) (sorts_of (map seen rs))) in
      rw (e, f) (omega (arith, r.few))

  few_parts : HaveRoom (map seen ms) → length (map seen ls) + length (map seen rs) ≤ 100000
  few_parts r = let whole = ap length seen_parts ∙ length-append (map seen ls) (map seen rs) in omega (arith, r.members)

  pub few_bodies : HaveRoom (map seen ms) → (one two : List Form) → one ≡ bodies_of 0 (map seen ls) → two ≡ bodies_of 0 (map seen rs) → length one + length two ≤ 100000
  few_bodies r one two e f = rw (e, f, bodies_count 0 (map seen ls), bodies_count 0 (map seen rs)) (few_parts r)

  pub few_closed : HaveRoom (map seen ms) → (one two : List Form) → one ≡ map closed_of (map seen ls) → two ≡ map closed_of (map seen rs) → length one + length two ≤ 100000
  few_closed r one two e f = rw (e, f, length-map (map seen ls) closed_of, length-map (map seen rs) closed_of) (few_parts r)

  pub halved_gathers : (g l r : Group) (p q made : Proof) → g.sorts ≡ sorts_of (map seen ms) → g.bodies ≡ bodies_of 0 (map seen ms) → l.sorts ≡ sorts_of (map seen ls) → l.bodies ≡ bodies_of 0 (map seen ls) → l.closed ≡ map closed_of (map seen ls)
      → r.sorts ≡ sorts_of (map seen rs) → r.bodies ≡ bodies_of 0 (map seen rs) → r.closed ≡ map closed_of (map seen rs) → Gathers true false (map seen ls) p → Gathers true false (map seen rs) q → made ≡ joined_tree g l r p q → Gathers true false (map seen ms) made
  halved_gathers g l r p q made gs gb as_ ab ac bs bb bc gp gq e =
      let same : made ≡ joined_tree (group_of (map seen ms)) (group_of (map seen ls)) (group_of (map seen rs)) p q = rw (e, gs, gb, as_, ab, ac, bs, bb, bc) refl in
      subst (Gathers true false (map seen ms)) (sym same) (halves_gather (map seen ms) (map seen ls) (map seen rs) seen_parts p q gp gq)
