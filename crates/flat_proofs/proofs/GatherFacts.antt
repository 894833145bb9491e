-- Between a node of closed bodies and the quantifiers of all over the node of the bodies.
use Rattle.std.specs.Prelude.{ℕ, suc, ◌≡◌, ◌+◌, ◌<◌, ◌≤◌, List, [], ◌∷◌, ◌++◌, length, map, Some, slice_get, refl}
use Rattle.std.specs.List.{AllByRecursion}
use Rattle.std.specs.Option.{option_map}
use Rattle.std.proofs.Common.{ap, sym, subst, ◌∙◌, arith, length-append, append_assoc}
use Rattle.std.proofs.lemmas.Option.{slice_get-map}
use Rattle.fof_terms.specs.declared.form.Form.{Form, And, Or}
use Rattle.fof_terms.specs.Lift.{lifted}
use Rattle.fof_terms.specs.Sorts.{IsScope, Sorted}
use Rattle.clause_form.specs.ClauseView.{closed_by}
use Rattle.clause_form.specs.Reached.{around}
use Rattle.clause_form.proofs.ReachedFacts.{around_append, around_length}
use Rattle.kernel.specs.Statements.{Statements}
use Rattle.kernel.specs.Proves.{Proves, over, all_over}
use Rattle.kernel.specs.code.Rules.{ProveAll}
use Rattle.kernel.specs.Rules.{ProveEach}
use Rattle.kernel.proofs.Building.{by_hyp, by_and_e, by_or_i, by_inhabit}
use Rattle.kernel.specs.declared.proof.Proof.{Proof, Hyp, AndE}
use Rattle.derive_kit.proofs.Members.{first}
use Rattle.derive_kit.proofs.Around.{twice_form, all_around, head_around}
use Rattle.norm_proofs.specs.Numbering.{general, near}
use Rattle.norm_proofs.proofs.NumberingFacts.{by_general, StandAt, stand_between, near_shows, around_sorted, around_scope}
use Rattle.flat_form.specs.Flat.{Pulled, sorts_of, bodies_of}
use Rattle.flat_proofs.specs.code.Loose.{closed_of}
use Rattle.flat_proofs.specs.code.Gathering.{AreClosed, inhabited, and_arms, or_arms, back_arms}
use Rattle.flat_proofs.proofs.Opened.{nothing, closed_lifted, opened, body_further}

-- what is proved over variables of these sorts is proved without them
pub by_inhabited : (t : Statements) (sorts v : List ℕ) (h : List Form) (g : Form) (p : Proof) → Proves t (around sorts v) (all_around sorts h) p (lifted (length sorts) 0 g) → Proves t v h (inhabited sorts g p) g
by_inhabited t [] v h g p w = subst (λ (a : Form). Proves t v h p a) (nothing 0 g) w
by_inhabited t (s ∷ sorts) v h g p w =
    let same : lifted (length (s ∷ sorts)) 0 g ≡ lifted (length sorts) 0 (over g) = sym (twice_form (length sorts) 1 (length (s ∷ sorts)) (omega arith) g 0) in
    by_inhabit t v h s g (inhabited sorts (over g) p) (by_inhabited t sorts (s ∷ v) (all_over h) (over g) p (subst (λ (a : Form). Proves t (around sorts (s ∷ v)) (all_around sorts (all_over h)) p a) same w))

around_both : (xs ys : List ℕ) (h : List Form) → all_around (xs ++ ys) h ≡ all_around ys (all_around xs h)
around_both [] ys h = refl
around_both (x ∷ xs) ys h = around_both xs ys (all_over h)

-- a closed body, lifted over all variables, at its own
own_shows : (t : Statements) (scope : List ℕ) (h : List Form) (p : Pulled) (q : Proof) (e f n : ℕ) → n ≡ e + length p.sorts + f → StandAt scope e p.sorts
    → Proves t scope h q (lifted n 0 (closed_of p)) → Proves t scope h (near e (length p.sorts) q) (lifted e 0 (lifted f (length p.sorts) p.body))
own_shows t scope h p q e f n is at w =
    let split : lifted n 0 (closed_of p) ≡ lifted (e + length p.sorts) 0 (lifted f 0 (closed_of p)) = sym (twice_form (e + length p.sorts) f n is (closed_of p) 0) in
    let none : 0 + length p.sorts ≡ length p.sorts = omega arith in
    rw none at (near_shows t scope h e f p.sorts 0 p.body q at (subst (λ (a : Form). Proves t scope h q a) split w))

-- all over a body, lifted over their variables, at these
pub all_shows : (t : Statements) (sorts v : List ℕ) (h : List Form) (a : Form) (q : Proof) → Proves t (around sorts v) h q (lifted (length sorts) 0 (closed_by sorts a))
    → Proves t (around sorts v) h (near 0 (length sorts) q) a
all_shows t sorts v h a q w =
    let scope = around sorts v in
    let n = length sorts in
    let zero_more : 0 + n ≡ n = omega arith in
    let before : lifted n 0 (closed_by sorts a) ≡ lifted (0 + n) 0 (lifted 0 0 (closed_by sorts a)) = ap (lifted n 0) (sym (nothing 0 (closed_by sorts a))) ∙ ap (λ m. lifted m 0 (lifted 0 0 (closed_by sorts a))) (sym zero_more) in
    let shown = near_shows t scope h 0 0 sorts 0 a q (stand_between [] sorts v) (subst (λ (b : Form). Proves t scope h q b) before w) in
    subst (λ (b : Form). Proves t scope h (near 0 n q) b) (nothing 0 (lifted 0 (0 + n) a) ∙ nothing (0 + n) a) shown

-- the formulas of a list from a number on
abbrev pub ListedFrom : {X : Type 0} → List X → ℕ → List X → Type 0
ListedFrom {X} whole k xs = (j : ℕ) (x : X) → slice_get xs j ≡ Some x → slice_get whole (k + j) ≡ Some x

pub listed_first : {X : Type 0} (whole : List X) (k : ℕ) (x : X) (xs : List X) → ListedFrom whole k (x ∷ xs) → slice_get whole k ≡ Some x
listed_first whole k x xs l = let same : k + 0 ≡ k = omega arith in rw same at (l 0 x refl)

pub listed_rest : {X : Type 0} (whole : List X) (k : ℕ) (x : X) (xs : List X) → ListedFrom whole k (x ∷ xs) → ListedFrom whole (k + 1) xs
listed_rest whole k x xs l j y e = let same : k + suc j ≡ k + 1 + j = omega arith in rw same at (l (suc j) y e)

pub listed_all : {X : Type 0} (xs : List X) → ListedFrom xs 0 xs
listed_all xs j x e = let same : 0 + j ≡ j = omega arith in rw same e

pub listed_map : {X Y : Type 0} (f : X → Y) (whole : List X) (k : ℕ) (x : X) → slice_get whole k ≡ Some x → slice_get (map f whole) k ≡ Some (f x)
listed_map f whole k x e = slice_get-map f whole k ∙ ap (option_map f) e

-- one scope for all: that of the bodies from one on, behind those before
scope_next : (before own later v : List ℕ) → around (own ++ later) (around before v) ≡ around later (around (before ++ own) v)
scope_next before own later v = around_append own later (around before v) ∙ ap (around later) (sym (around_append before own v))

-- Forth: in the scope of all, with the closed bodies lifted over all variables.
module _ (t : Statements) (v : List ℕ) (n : ℕ) (h : List Form) where
  pub and_shows : (whole ps : List Pulled) (before : List ℕ) (k : ℕ) (scope : List ℕ) → scope ≡ around (sorts_of ps) (around before v) → n ≡ length before + length (sorts_of ps) → ListedFrom whole k ps
      → Proves t scope h (Hyp 0) (And (map (lifted n 0) (map closed_of whole))) → ProveAll t scope h (and_arms k ps) (bodies_of (length before) ps)
  and_shows whole [] before k scope is count l w = tt
  and_shows whole (p ∷ ps) before k scope is count l w =
      let later = sorts_of ps in
      let len = length-append p.sorts later in
      let at : StandAt scope (length later) p.sorts = subst (λ ss. StandAt ss (length later) p.sorts) (sym (is ∙ around_append p.sorts later (around before v))) (stand_between later p.sorts (around before v)) in
      let there = listed_map (lifted n 0) (map closed_of whole) k (closed_of p) (listed_map closed_of whole k p (listed_first whole k p ps l)) in
      let member = by_and_e t scope h k (Hyp 0) (map (lifted n 0) (map closed_of whole)) (lifted n 0 (closed_of p)) there w in
      let more : length (before ++ p.sorts) ≡ length before + length p.sorts = length-append before p.sorts in
      let rest = and_shows whole ps (before ++ p.sorts) (k + 1) scope (is ∙ scope_next before p.sorts later v) (omega arith) (listed_rest whole k p ps l) w in
      (own_shows t scope h p (AndE k (Hyp 0)) (length later) (length before) n (omega arith) at member, subst (λ m. ProveAll t scope h (and_arms (k + 1) ps) (bodies_of m ps)) more rest)

  pub or_shows : (bs : List Form) (ps : List Pulled) (before : List ℕ) (k : ℕ) (scope : List ℕ) → scope ≡ around (sorts_of ps) (around before v) → n ≡ length before + length (sorts_of ps)
      → Sorted t.vocabulary scope (Or bs) → AllByRecursion (λ p. Sorted t.vocabulary scope (lifted n 0 (closed_of p))) ps → ListedFrom bs k (bodies_of (length before) ps)
      → ProveEach t scope h (or_arms bs k ps) (map (lifted n 0) (map closed_of ps)) (Or bs)
  or_shows bs [] before k scope is count so all l = tt
  or_shows bs (p ∷ ps) before k scope is count so all l =
      let later = sorts_of ps in
      let len = length-append p.sorts later in
      let b = lifted (length later) 0 (lifted (length before) (length p.sorts) p.body) in
      let at : StandAt scope (length later) p.sorts = subst (λ ss. StandAt ss (length later) p.sorts) (sym (is ∙ around_append p.sorts later (around before v))) (stand_between later p.sorts (around before v)) in
      let own = own_shows t scope (lifted n 0 (closed_of p) ∷ h) p (Hyp 0) (length later) (length before) n (omega arith) at (first t scope h (lifted n 0 (closed_of p)) all.0) in
      let more : length before + length p.sorts ≡ length (before ++ p.sorts) = sym (length-append before p.sorts) in
      let there = listed_rest bs k b (bodies_of (length before + length p.sorts) ps) l in
      let rest = or_shows bs ps (before ++ p.sorts) (k + 1) scope (is ∙ scope_next before p.sorts later v) (omega arith) so all.1 (subst (λ m. ListedFrom bs (k + 1) (bodies_of m ps)) more there) in
      (by_or_i t scope (lifted n 0 (closed_of p) ∷ h) bs k (near (length later) (length p.sorts) (Hyp 0)) b so (listed_first bs k b (bodies_of (length before + length p.sorts) ps) l) own, rest)

-- Back, to a conjunction: each closed body, by all over the conjunction of the bodies.
pub parts_of : (P : ℕ → Type 0) (xs ys : List ℕ) → AllByRecursion P (xs ++ ys) → AllByRecursion P xs × AllByRecursion P ys
parts_of P [] ys all = (tt, all)
parts_of P (x ∷ xs) ys all = let parts = parts_of P xs ys all.1 in ((all.0, parts.0), parts.1)

module _ (t : Statements) (v : List ℕ) (d : ℕ) (h : List Form) (sc : IsScope t.vocabulary v) (all : List ℕ) (room : d + length all + length v ≤ 2147483647) (exist : AllByRecursion (λ s. s < length t.vocabulary.sorts) all) where
  scope_all : IsScope t.vocabulary (around all v)
  scope_all = around_scope t.vocabulary all v (omega arith) exist sc

  pub back_shows : (bs : List Form) (ps : List Pulled) (before : List ℕ) (k : ℕ) → before ++ sorts_of ps ≡ all → AreClosed t.vocabulary d v ps → ListedFrom bs k (bodies_of (length before) ps)
      → Sorted t.vocabulary v (closed_by all (And bs)) → ProveAll t v (closed_by all (And bs) ∷ h) (back_arms before k ps) (map closed_of ps)
  back_shows bs [] before k is closed l s = tt
  back_shows bs (p ∷ ps) before k is closed l s =
      let own = p.sorts in
      let later = sorts_of ps in
      let f = length before in
      let n = length own in
      let whole = closed_by all (And bs) in
      let h1 = whole ∷ h in
      let g = lifted f n p.body in
      let b = lifted (length later) 0 g in
      let len = ap length (sym is) ∙ length-append before (own ++ later) in
      let len_own = length-append own later in
      let parts = parts_of (λ s. s < length t.vocabulary.sorts) before (own ++ later) (subst (AllByRecursion (λ s. s < length t.vocabulary.sorts)) (sym is) exist) in
      let own_parts = parts_of (λ s. s < length t.vocabulary.sorts) own later parts.1 in
      let sc_before = around_scope t.vocabulary before v (omega arith) parts.0 sc in
      let far = around before v in
      let sc_own = around_scope t.vocabulary own far (omega (arith, around_length before v)) own_parts.0 sc_before in
      let hyp : Proves t (around all v) (all_around all h1) (Hyp 0) (lifted (length all) 0 whole) = by_hyp t (around all v) (all_around all h1) 0 (lifted (length all) 0 whole) (around_sorted t.vocabulary all v whole scope_all s) (head_around all h whole) in
      let member = by_and_e t (around all v) (all_around all h1) k (near 0 (length all) (Hyp 0)) bs b (listed_first bs k b (bodies_of (f + n) ps) l) (all_shows t all v (all_around all h1) (And bs) (Hyp 0) hyp) in
      let scope_is : around all v ≡ around later (around own far) = ap (λ ss. around ss v) (sym is) ∙ (around_append before (own ++ later) v ∙ around_append own later far) in
      let hyps_are : all_around all h1 ≡ all_around later (all_around own (all_around before h1)) = ap (λ ss. all_around ss h1) (sym is) ∙ (around_both before (own ++ later) h1 ∙ around_both own later (all_around before h1)) in
      let count : length all ≡ length (before ++ (own ++ later)) = ap length (sym is) in
      let q = AndE k (near 0 (length (before ++ (own ++ later))) (Hyp 0)) in
      let one = subst (λ (m : ℕ). Proves t (around all v) (all_around all h1) (AndE k (near 0 m (Hyp 0))) b) count member in
      let two = subst (λ (ss : List ℕ). Proves t ss (all_around all h1) q b) scope_is one in
      let three = subst (λ (gs : List Form). Proves t (around later (around own far)) gs q b) hyps_are two in
      let inner = by_inhabited t later (around own far) (all_around own (all_around before h1)) g q three in
      let sorted_g = body_further t.vocabulary d own before v p.body sc_own (opened t.vocabulary d own v p.body (omega arith) closed.0) in
      let general_shown = by_general t d own far (all_around before h1) (inhabited later g q) g (omega arith) sorted_g inner in
      let none : 0 + n ≡ n = omega arith in
      let closed_is : closed_by own g ≡ lifted f 0 (closed_of p) = sym (closed_lifted f 0 own p.body ∙ ap (λ m. closed_by own (lifted f m p.body)) none) in
      let outer = by_inhabited t before v h1 (closed_of p) (general own (inhabited later g q)) (subst (λ (a : Form). Proves t far (all_around before h1) (general own (inhabited later g q)) a) closed_is general_shown) in
      let more : f + n ≡ length (before ++ own) = sym (length-append before own) in
      let rest = back_shows bs ps (before ++ own) (k + 1) (append_assoc before own later ∙ is) closed.1 (subst (λ m. ListedFrom bs (k + 1) (bodies_of m ps)) more (listed_rest bs k b (bodies_of (f + n) ps) l)) s in
      (outer, rest)
