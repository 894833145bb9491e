-- Back, to a disjunction: all closed bodies are denied, one after the other, and so are the bodies at variables of their own.
use Rattle.std.specs.Prelude.{ℕ, suc, ◌≡◌, ◌+◌, ◌<◌, ◌≤◌, List, [], ◌∷◌, ◌++◌, length, map, Some, slice_get, refl}
use Rattle.std.specs.List.{AllByRecursion}
use Rattle.std.proofs.Common.{ap, sym, subst, ◌∙◌, arith, length-append, append_assoc}
use Rattle.std.proofs.lemmas.List.{append-nil}
use Rattle.fof_terms.specs.declared.form.Form.{Form, Not, Or}
use Rattle.fof_terms.specs.Lift.{lifted}
use Rattle.fof_terms.proofs.LiftFacts.{lifted-Or, lifted-Not}
use Rattle.fof_terms.specs.Sorts.{IsScope, SortedTo, Sorted}
use Rattle.fof_terms.proofs.Scoped.{raised, or_sorted, not_sorted}
use Rattle.clause_form.specs.ClauseView.{closed_by}
use Rattle.clause_form.specs.Reached.{around}
use Rattle.clause_form.proofs.ReachedFacts.{around_append, around_length}
use Rattle.kernel.specs.Statements.{Statements}
use Rattle.kernel.specs.Proves.{Proves, over, all_over}
use Rattle.kernel.specs.Rules.{ProveEach}
use Rattle.kernel.proofs.Building.{by_hyp, by_or_i, by_or_e, by_not_e, by_raa}
use Rattle.kernel.specs.declared.proof.Proof.{Hyp, OrI, OrE, Raa}
use Rattle.derive_kit.proofs.Members.{first}
use Rattle.derive_kit.proofs.Around.{twice_form, all_around}
use Rattle.norm_proofs.specs.Numbering.{general, near}
use Rattle.norm_proofs.proofs.NumberingFacts.{by_general, around_sorted, around_scope}
use Rattle.flat_form.specs.Flat.{Pulled, sorts_of, bodies_of}
use Rattle.flat_proofs.specs.code.Loose.{closed_of}
use Rattle.flat_proofs.specs.code.Gathering.{AreClosed, clashes, refuted}
use Rattle.flat_proofs.proofs.Opened.{nothing, closed_lifted, opened, body_further}
use Rattle.flat_proofs.proofs.GatherFacts.{all_shows, listed_map, parts_of}

-- the negations of the formulas as hypotheses, that of the last formula first
abbrev pub denied : List Form → List Form → List Form
denied [] rest = rest
denied (b ∷ bs) rest = denied bs (Not b ∷ rest)

denied_append : (xs ys rest : List Form) → denied (xs ++ ys) rest ≡ denied ys (denied xs rest)
denied_append [] ys rest = refl
denied_append (x ∷ xs) ys rest = denied_append xs ys (Not x ∷ rest)

behind : (bs rest : List Form) (j : ℕ) → slice_get (denied bs rest) (length bs + j) ≡ slice_get rest j
behind [] rest j = ap (slice_get rest) (let same : 0 + j ≡ j = omega arith in same)
behind (b ∷ bs) rest j = ap (slice_get (denied bs (Not b ∷ rest))) (let same : length (b ∷ bs) + j ≡ length bs + suc j = omega arith in same) ∙ behind bs (Not b ∷ rest) (suc j)

right_behind : (bs : List Form) (a : Form) (rest : List Form) → slice_get (denied bs (a ∷ rest)) (length bs) ≡ Some a
right_behind bs a rest = ap (slice_get (denied bs (a ∷ rest))) (let same : length bs ≡ length bs + 0 = omega arith in same) ∙ behind bs (a ∷ rest) 0

pub around_one : (sorts : List ℕ) (a : Form) (h : List Form) → all_around sorts (a ∷ h) ≡ lifted (length sorts) 0 a ∷ all_around sorts h
around_one [] a h = ap (λ b. b ∷ h) (sym (nothing 0 a))
around_one (s ∷ sorts) a h =
    around_one sorts (over a) (all_over h) ∙ ap (λ b. b ∷ all_around sorts (all_over h)) (twice_form (length sorts) 1 (length (s ∷ sorts)) (omega arith) a 0)

around_denied : (sorts : List ℕ) (bs rest : List Form) → all_around sorts (denied bs rest) ≡ denied (map (lifted (length sorts) 0) bs) (all_around sorts rest)
around_denied sorts [] rest = refl
around_denied sorts (b ∷ bs) rest =
    around_denied sorts bs (Not b ∷ rest)
    ∙ ap (denied (map (lifted (length sorts) 0) bs)) (around_one sorts (Not b) rest ∙ ap (λ a. a ∷ all_around sorts rest) (lifted-Not (length sorts) 0 b))

pub sorts_append : (qs ps : List Pulled) → sorts_of (qs ++ ps) ≡ sorts_of qs ++ sorts_of ps
sorts_append [] ps = refl
sorts_append (q ∷ qs) ps = ap (λ xs. q.sorts ++ xs) (sorts_append qs ps) ∙ sym (append_assoc q.sorts (sorts_of qs) (sorts_of ps))

sorts_end : (qs : List Pulled) (p : Pulled) → sorts_of (qs ++ p ∷ []) ≡ sorts_of qs ++ p.sorts
sorts_end qs p = sorts_append qs (p ∷ []) ∙ ap (λ xs. sorts_of qs ++ xs) (append-nil p.sorts)

bodies_end : (f : ℕ) (qs : List Pulled) (p : Pulled)
    → bodies_of f (qs ++ p ∷ []) ≡ map (lifted (length p.sorts) 0) (bodies_of f qs) ++ lifted (f + length (sorts_of qs)) (length p.sorts) p.body ∷ []
bodies_end f [] p =
    let none : f ≡ f + 0 = omega arith in
    ap (λ b. b ∷ []) (nothing 0 (lifted f (length p.sorts) p.body) ∙ ap (λ m. lifted m (length p.sorts) p.body) none)
bodies_end f (q ∷ qs) p =
    let x = lifted f (length q.sorts) q.body in
    let n = length p.sorts in
    let count : length (sorts_of (qs ++ p ∷ [])) ≡ n + length (sorts_of qs) = ap length (sorts_end qs p) ∙ (length-append (sorts_of qs) p.sorts ∙ (omega arith)) in
    let head : lifted (length (sorts_of (qs ++ p ∷ []))) 0 x ≡ lifted n 0 (lifted (length (sorts_of qs)) 0 x) = sym (twice_form n (length (sorts_of qs)) (length (sorts_of (qs ++ p ∷ []))) count x 0) in
    let sum : f + length q.sorts + length (sorts_of qs) ≡ f + length (q.sorts ++ sorts_of qs) = let e = length-append q.sorts (sorts_of qs) in omega arith in
    ap (λ b. b ∷ bodies_of (f + length q.sorts) (qs ++ p ∷ [])) head
    ∙ ap (λ bs. lifted n 0 (lifted (length (sorts_of qs)) 0 x) ∷ bs) (bodies_end (f + length q.sorts) qs p ∙ ap (λ m. map (lifted n 0) (bodies_of (f + length q.sorts) qs) ++ lifted m n p.body ∷ []) sum)

pub bodies_count : (f : ℕ) (qs : List Pulled) → length (bodies_of f qs) ≡ length qs
bodies_count f [] = refl
bodies_count f (q ∷ qs) = ap suc (bodies_count (f + length q.sorts) qs)

at_end : {X Y : Type 0} (f : X → Y) (qs : List X) (p : X) (ps : List X) → slice_get (map f (qs ++ p ∷ ps)) (length qs) ≡ Some (f p)
at_end f [] p ps = refl
at_end f (q ∷ qs) p ps = at_end f qs p ps

-- each body against its negation
module _ (t : Statements) (scope : List ℕ) (sc : IsScope t.vocabulary scope) where
  clash_each : (done bs rest hyps : List Form) → hyps ≡ denied (done ++ bs) rest → AllByRecursion (Sorted t.vocabulary scope) bs → ProveEach t scope hyps (clashes (length bs)) bs (Or [])
  clash_each done [] rest hyps is s = tt
  clash_each done (b ∷ bs) rest hyps is s =
      let there : slice_get hyps (length bs) ≡ Some (Not b) = ap (λ hs. slice_get hs (length bs)) (is ∙ denied_append done (b ∷ bs) rest) ∙ right_behind bs (Not b) (denied done rest) in
      let next : hyps ≡ denied ((done ++ b ∷ []) ++ bs) rest = is ∙ ap (λ xs. denied xs rest) (sym (append_assoc done (b ∷ []) bs)) in (
        by_not_e t scope (b ∷ hyps) (Hyp (suc (length bs))) (Hyp 0) b (by_hyp t scope (b ∷ hyps) (suc (length bs)) (Not b) (not_sorted t.vocabulary scope 2147483647 b s.0) there) (first t scope hyps b s.0),
        clash_each (done ++ b ∷ []) bs rest hyps next s.1,
      )

module _ (t : Statements) (v : List ℕ) (d : ℕ) (sc : IsScope t.vocabulary v) (whole : List Pulled) (room : d + length (sorts_of whole) + length v ≤ 2147483647)
    (exist : AllByRecursion (λ s. s < length t.vocabulary.sorts) (sorts_of whole)) (sorted_bodies : AllByRecursion (Sorted t.vocabulary (around (sorts_of whole) v)) (bodies_of 0 whole))
    (sorted_all : Sorted t.vocabulary v (closed_by (sorts_of whole) (Or (bodies_of 0 whole)))) (sorted_node : Sorted t.vocabulary v (Or (map closed_of whole))) where
  -- the hypotheses over f variables
  abbrev Hypotheses : ℕ → List Pulled → List Form → List Form
  Hypotheses f qs rest = denied (bodies_of 0 qs) (lifted f 0 (Not (Or (map closed_of whole))) ∷ lifted f 0 (closed_by (sorts_of whole) (Or (bodies_of 0 whole))) ∷ rest)

  next_given : (own : List ℕ) (p : Pulled) (f : ℕ) (qs : List Pulled) (hyps rest : List Form) → own ≡ p.sorts → f ≡ length (sorts_of qs) → hyps ≡ Hypotheses f qs rest
      → Not (lifted f (length p.sorts) p.body) ∷ all_around own hyps ≡ Hypotheses (f + length p.sorts) (qs ++ p ∷ []) (all_around own rest)
  next_given own p f qs hyps rest is far given =
      let n = length p.sorts in
      let denial = Not (Or (map closed_of whole)) in
      let full = closed_by (sorts_of whole) (Or (bodies_of 0 whole)) in
      let g = lifted f n p.body in
      let size : length own ≡ n = ap length is in
      let two : (a : Form) → lifted (length own) 0 (lifted f 0 a) ≡ lifted (f + n) 0 a = λ a. twice_form (length own) f (f + n) (omega arith) a 0 in
      let rest_moved : all_around own (lifted f 0 denial ∷ lifted f 0 full ∷ rest) ≡ lifted (f + n) 0 denial ∷ lifted (f + n) 0 full ∷ all_around own rest =
      around_one own (lifted f 0 denial) (lifted f 0 full ∷ rest) ∙ (ap (λ hs. lifted (length own) 0 (lifted f 0 denial) ∷ hs) (around_one own (lifted f 0 full) rest) ∙ (rw (two denial, two full) refl)) in
      let lists : map (lifted (length own) 0) (bodies_of 0 qs) ≡ map (lifted n 0) (bodies_of 0 qs) = ap (λ m. map (lifted m 0) (bodies_of 0 qs)) size in
      let ended : bodies_of 0 (qs ++ p ∷ []) ≡ map (lifted n 0) (bodies_of 0 qs) ++ g ∷ [] =
      bodies_end 0 qs p ∙ ap (λ m. map (lifted n 0) (bodies_of 0 qs) ++ lifted m n p.body ∷ []) (let same : 0 + length (sorts_of qs) ≡ f = omega arith in same) in
      let R = lifted (f + n) 0 denial ∷ lifted (f + n) 0 full ∷ all_around own rest in
      ap (λ hs. Not g ∷ hs) (ap (all_around own) given ∙ (around_denied own (bodies_of 0 qs) (lifted f 0 denial ∷ lifted f 0 full ∷ rest) ∙ (rw (lists, rest_moved) refl)))
      ∙ sym (ap (λ bs. denied bs R) ended ∙ denied_append (map (lifted n 0) (bodies_of 0 qs)) (g ∷ []) R)

  pub refuted_shows : (ps qs : List Pulled) (i f : ℕ) (scope : List ℕ) (hyps rest : List Form) → whole ≡ qs ++ ps → i ≡ length qs → f ≡ length (sorts_of qs) → scope ≡ around (sorts_of qs) v → hyps ≡ Hypotheses f qs rest
      → AreClosed t.vocabulary d v ps → Proves t scope hyps (refuted (map closed_of whole) i f ps) (Or [])
  refuted_shows [] qs i f scope hyps rest is count far at given closed =
      let same : whole ≡ qs = is ∙ append-nil qs in
      let all = sorts_of whole in
      let bs = bodies_of 0 whole in
      let scope_is : scope ≡ around all v = at ∙ ap (λ xs. around (sorts_of xs) v) (sym same) in
      let len : f ≡ length all = far ∙ ap (λ xs. length (sorts_of xs)) (sym same) in
      let counted : i ≡ length bs = count ∙ (ap length (sym same) ∙ sym (bodies_count 0 whole)) in
      let full = closed_by all (Or bs) in
      let sc_all = around_scope t.vocabulary all v (omega arith) exist sc in
      let given_here : hyps ≡ denied bs (lifted f 0 (Not (Or (map closed_of whole))) ∷ lifted f 0 full ∷ rest) = given ∙ ap (λ xs. denied (bodies_of 0 xs) (lifted f 0 (Not (Or (map closed_of whole))) ∷ lifted f 0 full ∷ rest)) (sym same) in
      let next : i + 1 ≡ length bs + 1 = omega arith in
      let there : slice_get hyps (i + 1) ≡ Some (lifted (length all) 0 full) =
      ap (λ hs. slice_get hs (i + 1)) given_here ∙ (ap (slice_get (denied bs (lifted f 0 (Not (Or (map closed_of whole))) ∷ lifted f 0 full ∷ rest))) next ∙ (behind bs (lifted f 0 (Not (Or (map closed_of whole))) ∷ lifted f 0 full ∷ rest) 1 ∙ ap (λ m. Some (lifted m 0 full)) len)) in
      let hyp : Proves t (around all v) hyps (Hyp (i + 1)) (lifted (length all) 0 full) = by_hyp t (around all v) hyps (i + 1) (lifted (length all) 0 full) (around_sorted t.vocabulary all v full sc_all sorted_all) there in
      let shown = all_shows t all v hyps (Or bs) (Hyp (i + 1)) hyp in
      let arms = clash_each t (around all v) sc_all [] bs (lifted f 0 (Not (Or (map closed_of whole))) ∷ lifted f 0 full ∷ rest) hyps given_here sorted_bodies in
      let none = or_sorted t.vocabulary (around all v) 2147483647 sc_all [] tt in
      let last = by_or_e t (around all v) hyps (Or []) (near 0 (length all) (Hyp (i + 1))) (clashes (length bs)) bs none shown arms in
      let by_count = subst (λ (m : ℕ). Proves t (around all v) hyps (OrE (Or []) (near 0 (length all) (Hyp (i + 1))) (clashes m)) (Or [])) (sym counted) last in
      let by_len = subst (λ (m : ℕ). Proves t (around all v) hyps (OrE (Or []) (near 0 m (Hyp (i + 1))) (clashes i)) (Or [])) (sym len) by_count in
      subst (λ (ss : List ℕ). Proves t ss hyps (OrE (Or []) (near 0 f (Hyp (i + 1))) (clashes i)) (Or [])) (sym scope_is) by_len
  refuted_shows (p ∷ ps) qs i f scope hyps rest is count far at given closed =
      let own = p.sorts in
      let n = length own in
      let cs = map closed_of whole in
      let before = sorts_of qs in
      let denial = Not (Or cs) in
      let full = closed_by (sorts_of whole) (Or (bodies_of 0 whole)) in
      let g = lifted f n p.body in
      let all_is : sorts_of whole ≡ before ++ (own ++ sorts_of ps) = ap sorts_of is ∙ sorts_append qs (p ∷ ps) in
      let len = ap length all_is ∙ length-append before (own ++ sorts_of ps) in
      let len_own = length-append own (sorts_of ps) in
      let parts = parts_of (λ s. s < length t.vocabulary.sorts) before (own ++ sorts_of ps) (subst (AllByRecursion (λ s. s < length t.vocabulary.sorts)) all_is exist) in
      let own_parts = parts_of (λ s. s < length t.vocabulary.sorts) own (sorts_of ps) parts.1 in
      let sc_before = around_scope t.vocabulary before v (omega arith) parts.0 sc in
      let sc_scope = subst (IsScope t.vocabulary) (sym at) sc_before in
      let long : length scope ≡ length before + length v = ap length at ∙ around_length before v in
      let sc_own = around_scope t.vocabulary own (around before v) (omega (arith, around_length before v)) own_parts.0 sc_before in
      let moved : lifted f 0 denial ≡ Not (Or (map (lifted f 0) cs)) = lifted-Not f 0 (Or cs) ∙ ap Not (lifted-Or f 0 cs) in
      let sorted_denial : Sorted t.vocabulary (around before v) (lifted (length before) 0 denial) = around_sorted t.vocabulary before v denial sc_before (not_sorted t.vocabulary v 2147483647 (Or cs) sorted_node) in
      let sorted_or : Sorted t.vocabulary (around before v) (lifted (length before) 0 (Or cs)) = around_sorted t.vocabulary before v (Or cs) sc_before sorted_node in
      let sorted_here = subst (λ (m : ℕ). Sorted t.vocabulary (around before v) (lifted m 0 denial)) (sym far) sorted_denial in
      let or_here = subst (λ (m : ℕ). Sorted t.vocabulary (around before v) (lifted m 0 (Or cs))) (sym far) sorted_or in
      let or_moved : Sorted t.vocabulary scope (Or (map (lifted f 0) cs)) = subst (λ (ss : List ℕ). Sorted t.vocabulary ss (Or (map (lifted f 0) cs))) (sym at) (subst (Sorted t.vocabulary (around before v)) (lifted-Or f 0 cs) or_here) in
      let there : slice_get hyps i ≡ Some (lifted f 0 denial) =
      ap (λ hs. slice_get hs i) given ∙ (ap (slice_get (Hypotheses f qs rest)) (count ∙ sym (bodies_count 0 qs)) ∙ right_behind (bodies_of 0 qs) (lifted f 0 denial) (lifted f 0 full ∷ rest)) in
      let hyp = by_hyp t scope hyps i (lifted f 0 denial) (subst (λ (ss : List ℕ). Sorted t.vocabulary ss (lifted f 0 denial)) (sym at) sorted_here) there in
      let against = subst (λ (a : Form). Proves t scope hyps (Hyp i) a) moved hyp in
      let member : slice_get cs i ≡ Some (closed_of p) = ap (λ xs. slice_get (map closed_of xs) i) is ∙ (ap (slice_get (map closed_of (qs ++ p ∷ ps))) count ∙ at_end closed_of qs p ps) in
      let body_here = opened t.vocabulary d own v p.body (omega arith) closed.0 in
      let body_there = body_further t.vocabulary d own before v p.body sc_own body_here in
      let sorted_g : SortedTo d t.vocabulary (around own scope) g =
      subst (λ (ss : List ℕ). SortedTo d t.vocabulary (around own ss) g) (sym at) (subst (λ (m : ℕ). SortedTo d t.vocabulary (around own (around before v)) (lifted m n p.body)) (sym far) body_there) in
      let next_hyps : Not g ∷ all_around own hyps ≡ Hypotheses (f + n) (qs ++ p ∷ []) (all_around own rest) = next_given own p f qs hyps rest refl far given in
      let next_scope : around own scope ≡ around (sorts_of (qs ++ p ∷ [])) v = ap (around own) at ∙ (sym (around_append before own v) ∙ ap (λ ss. around ss v) (sym (sorts_end qs p))) in
      let next_far : f + n ≡ length (sorts_of (qs ++ p ∷ [])) = sym (ap length (sorts_end qs p) ∙ (length-append before own ∙ ap (λ m. m + n) (sym far))) in
      let next_count : i + 1 ≡ length (qs ++ p ∷ []) = sym (length-append qs (p ∷ []) ∙ ap (λ m. m + 1) (sym count)) in
      let inner = refuted_shows ps (qs ++ p ∷ []) (i + 1) (f + n) (around own scope) (Not g ∷ all_around own hyps) (all_around own rest) (is ∙ sym (append_assoc qs (p ∷ []) ps)) next_count next_far next_scope next_hyps closed.1 in
      let body = by_raa t (around own scope) (all_around own hyps) g (refuted cs (i + 1) (f + n) ps) (raised t.vocabulary (around own scope) d 2147483647 g (omega arith) sorted_g) inner in
      let general_shown = by_general t d own scope hyps (Raa g (refuted cs (i + 1) (f + n) ps)) g (omega arith) sorted_g body in
      let none : 0 + n ≡ n = omega arith in
      let closed_is : closed_by own g ≡ lifted f 0 (closed_of p) = sym (closed_lifted f 0 own p.body ∙ ap (λ m. closed_by own (lifted f m p.body)) none) in
      let arm = subst (λ (a : Form). Proves t scope hyps (general own (Raa g (refuted cs (i + 1) (f + n) ps))) a) closed_is general_shown in
      by_not_e t scope hyps (Hyp i) (OrI (map (lifted f 0) cs) i (general own (Raa g (refuted cs (i + 1) (f + n) ps)))) (Or (map (lifted f 0) cs)) against
      (by_or_i t scope hyps (map (lifted f 0) cs) i (general own (Raa g (refuted cs (i + 1) (f + n) ps))) (lifted f 0 (closed_of p)) or_moved (listed_map (lifted f 0) cs i (closed_of p) member) arm)
