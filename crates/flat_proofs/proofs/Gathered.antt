-- The proofs between a node of closed bodies and all over the node of the bodies, kind by kind.
use Rattle.std.specs.Prelude.{ℕ, ◌≡◌, ◌+◌, ◌<◌, ◌≤◌, Bool, true, false, List, [], ◌∷◌, length, map, refl}
use Rattle.std.specs.List.{AllByRecursion}
use Rattle.std.proofs.Common.{subst, arith}
use Rattle.fof_terms.specs.declared.form.Form.{Form, Not, And, Or}
use Rattle.fof_terms.specs.Lift.{lifted}
use Rattle.fof_terms.proofs.LiftFacts.{lifted-And, lifted-Or}
use Rattle.fof_terms.specs.Sorts.{IsScope, SortedTo, Sorted}
use Rattle.fof_terms.proofs.Scoped.{raised, and_sorted, or_sorted}
use Rattle.clause_form.specs.ClauseView.{closed_by}
use Rattle.clause_form.specs.Norm.{node}
use Rattle.clause_form.specs.Reached.{around}
use Rattle.kernel.specs.Statements.{Statements}
use Rattle.kernel.specs.Proves.{Proves}
use Rattle.kernel.proofs.Building.{by_hyp, by_and_i, by_or_e, by_imp_i, by_raa}
use Rattle.kernel.specs.declared.proof.Proof.{Hyp, AndI, OrE}
use Rattle.derive_kit.proofs.Around.{all_around, head_around}
use Rattle.norm_proofs.specs.Numbering.{general}
use Rattle.norm_proofs.specs.code.Steps.{aimed}
use Rattle.norm_proofs.proofs.NumberingFacts.{closed_sorted, by_general, around_sorted, around_scope}
use Rattle.flat_form.specs.Flat.{Pulled, sorts_of, bodies_of}
use Rattle.flat_proofs.specs.code.Loose.{closed_of}
use Rattle.flat_proofs.specs.code.Gathering.{AreClosed, and_arms, or_arms, back_arms, refuted, gather_tree}
use Rattle.flat_proofs.proofs.Opened.{nothing, all_sorts_exist, bodies_sorted}
use Rattle.flat_proofs.proofs.GatherFacts.{listed_all, and_shows, or_shows, back_shows}
use Rattle.flat_proofs.proofs.Refuting.{refuted_shows}

module _ (t : Statements) (v : List ℕ) (d : ℕ) (h : List Form) (sc : IsScope t.vocabulary v) (ps : List Pulled) (room : d + length (sorts_of ps) + length v ≤ 2147483647) (closed : AreClosed t.vocabulary d v ps) where
  exist : AllByRecursion (λ s. s < length t.vocabulary.sorts) (sorts_of ps)
  exist = all_sorts_exist t.vocabulary d v ps (omega arith) closed

  pub sc_all : IsScope t.vocabulary (around (sorts_of ps) v)
  sc_all = around_scope t.vocabulary (sorts_of ps) v (omega arith) exist sc

  bodies : AllByRecursion (SortedTo d t.vocabulary (around (sorts_of ps) v)) (bodies_of 0 ps)
  bodies = bodies_sorted t.vocabulary d v [] ps (omega arith) sc_all closed

  fully : (scope : List ℕ) (as_ : List Form) → AllByRecursion (SortedTo d t.vocabulary scope) as_ → AllByRecursion (Sorted t.vocabulary scope) as_
  fully scope [] all = tt
  fully scope (a ∷ as_) all = (raised t.vocabulary scope d 2147483647 a (omega arith) all.0, fully scope as_ all.1)

  closed_list : (qs : List Pulled) → AreClosed t.vocabulary d v qs → AllByRecursion (Sorted t.vocabulary v) (map closed_of qs)
  closed_list [] all = tt
  closed_list (q ∷ qs) all = (raised t.vocabulary v d 2147483647 (closed_of q) (omega arith) all.0, closed_list qs all.1)

  lifted_list : (qs : List Pulled) → AreClosed t.vocabulary d v qs → AllByRecursion (λ q. Sorted t.vocabulary (around (sorts_of ps) v) (lifted (length (sorts_of ps)) 0 (closed_of q))) qs
  lifted_list [] all = tt
  lifted_list (q ∷ qs) all =
      (around_sorted t.vocabulary (sorts_of ps) v (closed_of q) sc_all (raised t.vocabulary v d 2147483647 (closed_of q) (omega arith) all.0), lifted_list qs all.1)

  node_here : (kind : Bool) → Sorted t.vocabulary v (node kind (map closed_of ps))
  node_here true = and_sorted t.vocabulary v 2147483647 sc (map closed_of ps) (closed_list ps closed)
  node_here false = or_sorted t.vocabulary v 2147483647 sc (map closed_of ps) (closed_list ps closed)

  pub body_here : (kind : Bool) → SortedTo d t.vocabulary (around (sorts_of ps) v) (node kind (bodies_of 0 ps))
  body_here true = and_sorted t.vocabulary (around (sorts_of ps) v) d sc_all (bodies_of 0 ps) bodies
  body_here false = or_sorted t.vocabulary (around (sorts_of ps) v) d sc_all (bodies_of 0 ps) bodies

  pub whole_here : (kind : Bool) → Sorted t.vocabulary v (closed_by (sorts_of ps) (node kind (bodies_of 0 ps)))
  whole_here kind =
      raised t.vocabulary v (d + length (sorts_of ps)) 2147483647 (closed_by (sorts_of ps) (node kind (bodies_of 0 ps))) (omega arith)
      (closed_sorted t.vocabulary d (sorts_of ps) v (node kind (bodies_of 0 ps)) (body_here kind))

  -- the node, lifted over the variables of all
  node_hyp : (kind : Bool) → Proves t (around (sorts_of ps) v) (all_around (sorts_of ps) (node kind (map closed_of ps) ∷ h)) (Hyp 0) (lifted (length (sorts_of ps)) 0 (node kind (map closed_of ps)))
  node_hyp kind =
      by_hyp t (around (sorts_of ps) v) (all_around (sorts_of ps) (node kind (map closed_of ps) ∷ h)) 0 (lifted (length (sorts_of ps)) 0 (node kind (map closed_of ps)))
      (around_sorted t.vocabulary (sorts_of ps) v (node kind (map closed_of ps)) sc_all (node_here kind)) (head_around (sorts_of ps) h (node kind (map closed_of ps)))

  pub gather_shows : (kind forth : Bool) → Proves t v h (gather_tree kind forth ps) (aimed forth (node kind (map closed_of ps)) (closed_by (sorts_of ps) (node kind (bodies_of 0 ps))))
  gather_shows true true =
      let all = sorts_of ps in
      let bs = bodies_of 0 ps in
      let cs = map closed_of ps in
      let scope = around all v in
      let hyps = all_around all (And cs ∷ h) in
      let n = length all in
      let hyp = subst (λ (a : Form). Proves t scope hyps (Hyp 0) a) (lifted-And n 0 cs) (node_hyp true) in
      let arms = and_shows t v n hyps ps ps [] 0 scope refl (omega arith) (listed_all ps) hyp in
      by_imp_i t v h (And cs) (closed_by all (And bs)) (general all (AndI (and_arms 0 ps))) (node_here true)
      (by_general t d all v (And cs ∷ h) (AndI (and_arms 0 ps)) (And bs) (omega arith) (body_here true) (by_and_i t scope hyps (and_arms 0 ps) bs sc_all arms))
  gather_shows false true =
      let all = sorts_of ps in
      let bs = bodies_of 0 ps in
      let cs = map closed_of ps in
      let scope = around all v in
      let hyps = all_around all (Or cs ∷ h) in
      let n = length all in
      let so = raised t.vocabulary scope d 2147483647 (Or bs) (omega arith) (body_here false) in
      let hyp = subst (λ (a : Form). Proves t scope hyps (Hyp 0) a) (lifted-Or n 0 cs) (node_hyp false) in
      let arms = or_shows t v n hyps bs ps [] 0 scope refl (omega arith) so (lifted_list ps closed) (listed_all bs) in
      by_imp_i t v h (Or cs) (closed_by all (Or bs)) (general all (OrE (Or bs) (Hyp 0) (or_arms bs 0 ps))) (node_here false)
      (by_general t d all v (Or cs ∷ h) (OrE (Or bs) (Hyp 0) (or_arms bs 0 ps)) (Or bs) (omega arith) (body_here false) (by_or_e t scope hyps (Or bs) (Hyp 0) (or_arms bs 0 ps) (map (lifted n 0) cs) so hyp arms))
  gather_shows true false =
      let all = sorts_of ps in
      let bs = bodies_of 0 ps in
      let cs = map closed_of ps in
      by_imp_i t v h (closed_by all (And bs)) (And cs) (AndI (back_arms [] 0 ps)) (whole_here true)
      (by_and_i t v (closed_by all (And bs) ∷ h) (back_arms [] 0 ps) cs sc (back_shows t v d h sc all room exist bs ps [] 0 refl closed (listed_all bs) (whole_here true)))
  gather_shows false false =
      let all = sorts_of ps in
      let bs = bodies_of 0 ps in
      let cs = map closed_of ps in
      let full = closed_by all (Or bs) in
      let start : Not (Or cs) ∷ full ∷ h ≡ lifted 0 0 (Not (Or cs)) ∷ lifted 0 0 full ∷ h = rw (nothing 0 (Not (Or cs)), nothing 0 full) refl in
      by_imp_i t v h full (Or cs) _ (whole_here false)
      (by_raa t v (full ∷ h) (Or cs) (refuted cs 0 0 ps) (node_here false)
      (refuted_shows t v d sc ps room exist (fully (around all v) bs bodies) (whole_here false) (node_here false) ps [] 0 0 v (Not (Or cs) ∷ full ∷ h) h refl refl refl refl start closed))
