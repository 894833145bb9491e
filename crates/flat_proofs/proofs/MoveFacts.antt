-- Lemmas on what specs/code/Moving defines.
use Rattle.std.specs.Prelude.{ℕ, ◌≡◌, ◌+◌, ◌<◌, ◌≤◌, Bool, true, false, List, [], ◌∷◌, length, map, refl}
use Rattle.std.specs.List.{AllByRecursion}
use Rattle.std.proofs.Common.{ap, sym, subst, ◌∙◌, arith}
use Rattle.fof_terms.specs.declared.term.Term.{Var}
use Rattle.fof_terms.specs.declared.form.Form.{Form, And, Or, Imp, All}
use Rattle.fof_terms.specs.Lift.{lifted}
use Rattle.fof_terms.proofs.LiftFacts.{lifted-All}
use Rattle.fof_terms.specs.Sorts.{IsScope, Sorted, binder_depth}
use Rattle.fof_terms.proofs.Scoped.{raised, sorted_of_and, sorted_of_or, sorted_of_all, and_sorted, or_sorted, all_sorted}
use Rattle.clause_form.specs.ClauseView.{closed_by}
use Rattle.clause_form.specs.Norm.{node}
use Rattle.kernel.specs.Statements.{Statements}
use Rattle.kernel.specs.Proves.{Proves, over, all_over}
use Rattle.kernel.specs.code.Rules.{ProveAll}
use Rattle.kernel.specs.Rules.{ProveEach}
use Rattle.kernel.proofs.Building.{over_sorted, by_hyp, by_and_i, by_and_e, by_or_i, by_or_e, by_imp_i, by_imp_e, by_all_i, by_all_e_here}
use Rattle.kernel.specs.declared.proof.Proof.{Proof, Hyp, AndE, ImpI, ImpE, AllI, AllE}
use Rattle.derive_kit.proofs.Members.{first}
use Rattle.norm_proofs.specs.code.Steps.{Between, aimed, chain_tree}
use Rattle.norm_proofs.proofs.StepsFacts.{other_sorted}
use Rattle.flat_form.specs.Flat.{Pulled, kept, sorts_of, bodies_of}
use Rattle.flat_proofs.specs.code.Gathering.{AreClosed, gather_tree}
use Rattle.flat_proofs.specs.code.Loose.{loose, closed_of}
use Rattle.flat_proofs.specs.code.Moving.{and_links, or_links, linked, link_tree, IsMoved, AreMoved}
use Rattle.flat_proofs.proofs.Gathered.{gather_shows}
use Rattle.flat_proofs.proofs.GatherFacts.{ListedFrom, listed_first, listed_rest, listed_all}
use Rattle.flat_proofs.proofs.LooseSizes.{Bounded}
use Rattle.flat_proofs.proofs.LooseFacts.{node_sorts, node_body, all_sorts, all_body}

-- under a universal quantifier
abbrev pub under_all : ℕ → Form → Proof → Proof
under_all s from p = ImpI (All s from) (AllI s (ImpE p (AllE (Var 0) (Hyp 0))))

abbrev pub under_tree : Bool → ℕ → Form → Form → Proof → Proof
under_tree true s a c p = under_all s a p
under_tree false s a c p = under_all s c p

-- each part shows, under all hypotheses, that the first formula implies the second
abbrev Imply : Statements → List ℕ → List Form → List Form → List Proof → Type 0
Imply t v [] [] [] = Unit {0}
Imply t v [] [] (p ∷ ps) = ⊥
Imply t v [] (b ∷ bs) ps = ⊥
Imply t v (a ∷ as_) [] ps = ⊥
Imply t v (a ∷ as_) (b ∷ bs) [] = ⊥
Imply t v (a ∷ as_) (b ∷ bs) (p ∷ ps) = ((h : List Form) → Proves t v h p (Imp a b)) × Imply t v as_ bs ps

module _ (t : Statements) (v : List ℕ) (h : List Form) where
  and_each : (whole : List Form) (k : ℕ) (from to : List Form) (ps : List Proof) → ListedFrom whole k from → Proves t v h (Hyp 0) (And whole) → Imply t v from to ps → ProveAll t v h (and_links k ps) to
  and_each whole k [] [] [] l w i = tt
  and_each whole k [] [] (p ∷ ps) l w i = absurd i
  and_each whole k [] (b ∷ bs) ps l w i = absurd i
  and_each whole k (a ∷ as_) [] ps l w i = absurd i
  and_each whole k (a ∷ as_) (b ∷ bs) [] l w i = absurd i
  and_each whole k (a ∷ as_) (b ∷ bs) (p ∷ ps) l w i =
      (by_imp_e t v h p (AndE k (Hyp 0)) a b (i.0 h) (by_and_e t v h k (Hyp 0) whole a (listed_first whole k a as_ l) w), and_each whole (k + 1) as_ bs ps (listed_rest whole k a as_ l) w i.1)

  or_each : (whole : List Form) (k : ℕ) (from to : List Form) (ps : List Proof) → ListedFrom whole k to → Sorted t.vocabulary v (Or whole) → AllByRecursion (Sorted t.vocabulary v) from → Imply t v from to ps → ProveEach t v h (or_links whole k ps) from (Or whole)
  or_each whole k [] [] [] l so s i = tt
  or_each whole k [] [] (p ∷ ps) l so s i = absurd i
  or_each whole k [] (b ∷ bs) ps l so s i = absurd i
  or_each whole k (a ∷ as_) [] ps l so s i = absurd i
  or_each whole k (a ∷ as_) (b ∷ bs) [] l so s i = absurd i
  or_each whole k (a ∷ as_) (b ∷ bs) (p ∷ ps) l so s i =
      (by_or_i t v (a ∷ h) whole k (ImpE p (Hyp 0)) b so (listed_first whole k b bs l) (by_imp_e t v (a ∷ h) p (Hyp 0) a b (i.0 (a ∷ h)) (first t v h a s.0)), or_each whole (k + 1) as_ bs ps (listed_rest whole k b bs l) so s.1 i.1)

-- the nodes, where all is well-sorted
linked_shows : (t : Statements) (v : List ℕ) (h : List Form) (kind : Bool) (from to : List Form) (ps : List Proof) → IsScope t.vocabulary v → AllByRecursion (Sorted t.vocabulary v) from → AllByRecursion (Sorted t.vocabulary v) to
    → Imply t v from to ps → Proves t v h (linked kind from to ps) (Imp (node kind from) (node kind to))
linked_shows t v h true from to ps sc sf st i =
    let sa = and_sorted t.vocabulary v 2147483647 sc from sf in
    by_imp_i t v h (And from) (And to) _ sa (by_and_i t v (And from ∷ h) (and_links 0 ps) to sc (and_each t v (And from ∷ h) from 0 from to ps (listed_all from) (first t v h (And from) sa) i))
linked_shows t v h false from to ps sc sf st i =
    let sa = or_sorted t.vocabulary v 2147483647 sc from sf in
    let so = or_sorted t.vocabulary v 2147483647 sc to st in
    by_imp_i t v h (Or from) (Or to) _ sa (by_or_e t v (Or from ∷ h) (Or to) (Hyp 0) (or_links to 0 ps) from so (first t v h (Or from) sa) (or_each t v (Or from ∷ h) to 0 from to ps (listed_all to) so sf i))

-- the members of a node
module _ (t : Statements) (v : List ℕ) (n : ℕ) (room : n + length v < 2147483647) where
  pub closed_sorted : (forth : Bool) (as_ : List Form) (ps : List Proof) → AreMoved forth n as_ ps → AllByRecursion (Sorted t.vocabulary v) as_ → AllByRecursion (Sorted t.vocabulary v) (map closed_of (map loose as_))
  closed_sorted forth [] [] m s = tt
  closed_sorted forth [] (p ∷ ps) m s = absurd m
  closed_sorted forth (a ∷ as_) [] m s = absurd m
  closed_sorted forth (a ∷ as_) (p ∷ ps) m s = (other_sorted forth n p a (closed_of (loose a)) m.0 t v room s.0, closed_sorted forth as_ ps m.1 s.1)

  imply_forth : (as_ : List Form) (ps : List Proof) → AreMoved true n as_ ps → AllByRecursion (Sorted t.vocabulary v) as_ → Imply t v as_ (map closed_of (map loose as_)) ps
  imply_forth [] [] m s = tt
  imply_forth [] (p ∷ ps) m s = absurd m
  imply_forth (a ∷ as_) [] m s = absurd m
  imply_forth (a ∷ as_) (p ∷ ps) m s = (λ g. m.0 t v g room s.0, imply_forth as_ ps m.1 s.1)

  imply_back : (as_ : List Form) (ps : List Proof) → AreMoved false n as_ ps → AllByRecursion (Sorted t.vocabulary v) as_ → Imply t v (map closed_of (map loose as_)) as_ ps
  imply_back [] [] m s = tt
  imply_back [] (p ∷ ps) m s = absurd m
  imply_back (a ∷ as_) [] m s = absurd m
  imply_back (a ∷ as_) (p ∷ ps) m s = (λ g. m.0 t v g room s.0, imply_back as_ ps m.1 s.1)

pub members_sorted : (kind : Bool) (as_ : List Form) (t : Statements) (v : List ℕ) → Sorted t.vocabulary v (node kind as_) → AllByRecursion (Sorted t.vocabulary v) as_
members_sorted true as_ t v s = sorted_of_and t.vocabulary v 2147483647 as_ s
members_sorted false as_ t v s = sorted_of_or t.vocabulary v 2147483647 as_ s

pub link_shows : (kind forth : Bool) (n : ℕ) (as_ : List Form) (ps : List Proof) → AreMoved forth n as_ ps
    → Between forth n (link_tree kind forth as_ (map closed_of (map loose as_)) ps) (node kind as_) (node kind (map closed_of (map loose as_)))
link_shows kind true n as_ ps m t v h room s =
    let sa = members_sorted kind as_ t v s in
    linked_shows t v h kind as_ (map closed_of (map loose as_)) ps s.scope_fits sa (closed_sorted t v n room true as_ ps m sa) (imply_forth t v n room as_ ps m sa)
link_shows kind false n as_ ps m t v h room s =
    let sa = members_sorted kind as_ t v s in
    linked_shows t v h kind (map closed_of (map loose as_)) as_ ps s.scope_fits (closed_sorted t v n room false as_ ps m sa) sa (imply_back t v n room as_ ps m sa)

pub closed_within : (t : Statements) (v : List ℕ) (d : ℕ) (as_ : List Form) → Bounded d as_ → AllByRecursion (Sorted t.vocabulary v) (map closed_of (map loose as_)) → AreClosed t.vocabulary d v (map loose as_)
closed_within t v d [] b s = tt
closed_within t v d (a ∷ as_) b s = (record { scope_fits = s.0.scope_fits; few_binders = b.0; fits = s.0.fits }, closed_within t v d as_ b.1 s.1)

pub gather_between : (kind forth : Bool) (d n : ℕ) (as_ : List Form) → Bounded d as_ → d + length (sorts_of (map loose as_)) ≤ n
    → Between forth n (gather_tree kind forth (map loose as_)) (node kind (map closed_of (map loose as_))) (closed_of (loose (node kind as_)))
gather_between kind forth d n as_ bounded le t v h room s =
    let ps = map loose as_ in
    let closed = closed_within t v d as_ bounded (members_sorted kind (map closed_of ps) t v s) in
    let same : closed_by (sorts_of ps) (node kind (bodies_of 0 ps)) ≡ closed_of (loose (node kind as_)) =
    ap (λ xs. closed_by xs (node kind (bodies_of 0 ps))) (sym (node_sorts kind as_)) ∙ ap (closed_by (loose (node kind as_)).sorts) (sym (node_body kind as_)) in
    subst (λ (c : Form). Proves t v h (gather_tree kind forth ps) (aimed forth (node kind (map closed_of ps)) c)) same (gather_shows t v d h s.scope_fits ps (omega arith) closed kind forth)

-- one after the other
chain_shows : (forth : Bool) (n : ℕ) (p q : Proof) (a b c : Form) → Between forth n p a b → Between forth n q b c → Between forth n (chain_tree forth a c p q) a c
chain_shows true n p q a b c lp lq t v h room s =
    let sb = other_sorted true n p a b lp t v room s in
    let h1 = a ∷ h in
    by_imp_i t v h a c _ s (by_imp_e t v h1 q _ b c (lq t v h1 room sb) (by_imp_e t v h1 p (Hyp 0) a b (lp t v h1 room s) (first t v h a s)))
chain_shows false n p q a b c lp lq t v h room s =
    let sb = other_sorted false n p a b lp t v room s in
    let sc = other_sorted false n q b c lq t v room sb in
    let h1 = c ∷ h in
    by_imp_i t v h c a _ sc (by_imp_e t v h1 p _ b a (lp t v h1 room s) (by_imp_e t v h1 q (Hyp 0) c b (lq t v h1 room sb) (first t v h c sc)))

pub node_moved : (kind forth : Bool) (d n : ℕ) (as_ : List Form) (ps : List Proof) → AreMoved forth n as_ ps → Bounded d as_ → d + length (sorts_of (map loose as_)) ≤ n
    → IsMoved forth n (node kind as_) (chain_tree forth (node kind as_) (closed_of (loose (node kind as_))) (link_tree kind forth as_ (map closed_of (map loose as_)) ps) (gather_tree kind forth (map loose as_)))
node_moved kind forth d n as_ ps m bounded le =
    chain_shows forth n (link_tree kind forth as_ (map closed_of (map loose as_)) ps) (gather_tree kind forth (map loose as_)) (node kind as_) (node kind (map closed_of (map loose as_))) (closed_of (loose (node kind as_)))
    (link_shows kind forth n as_ ps m) (gather_between kind forth d n as_ bounded le)

-- a formula that is kept
pub kept_moved : (forth : Bool) (n : ℕ) (a : Form) (p : Proof) → loose a ≡ kept a → Between forth n p a a → IsMoved forth n a p
kept_moved forth n a p is w = subst (λ (q : Pulled). Between forth n p a (closed_of q)) (sym is) w

-- a universal quantifier
all_implies : (t : Statements) (v : List ℕ) (h : List Form) (s : ℕ) (a b : Form) (p : Proof) → length v + 1 < 2147483647 → Sorted t.vocabulary v (All s a) → Sorted t.vocabulary v (All s b) → ((g : List Form) → Proves t (s ∷ v) g p (Imp a b))
    → Proves t v h (under_all s a p) (Imp (All s a) (All s b))
all_implies t v h s a b p room sa sb w =
    let body : Sorted t.vocabulary (s ∷ v) a = raised t.vocabulary (s ∷ v) 2147483646 2147483647 a (omega arith) (sorted_of_all t.vocabulary v 2147483647 2147483646 s a (omega arith) (omega arith) sa) in
    let h1 = All s a ∷ h in
    let moved : over (All s a) ≡ All s (lifted 1 1 a) = lifted-All 1 0 s a in
    let hyp : Proves t (s ∷ v) (all_over h1) (Hyp 0) (over (All s a)) = by_hyp t (s ∷ v) (all_over h1) 0 (over (All s a)) (over_sorted t v s (All s a) body.scope_fits sa) refl in
    by_imp_i t v h (All s a) (All s b) _ sa
    (by_all_i t v h1 s b _ sb
    (by_imp_e t (s ∷ v) (all_over h1) p (AllE (Var 0) (Hyp 0)) a b (w (all_over h1)) (by_all_e_here t v (all_over h1) s a (Hyp 0) body (subst (λ (c : Form). Proves t (s ∷ v) (all_over h1) (Hyp 0) c) moved hyp))))

pub all_moved : (forth : Bool) (n s : ℕ) (a : Form) (p : Proof) → IsMoved forth n a p → binder_depth (closed_of (loose a)) ≤ 2147483646 → IsMoved forth (n + 1) (All s a) (under_tree forth s a (closed_of (loose a)) p)
all_moved forth n s a p m few t v h room sa =
    let c = closed_of (loose a) in
    let whole : closed_of (loose (All s a)) ≡ All s c = ap (λ xs. closed_by xs (loose (All s a)).body) (all_sorts s a) ∙ ap (λ b. All s (closed_by (loose a).sorts b)) (all_body s a) in
    let body : Sorted t.vocabulary (s ∷ v) a = raised t.vocabulary (s ∷ v) 2147483646 2147483647 a (omega arith) (sorted_of_all t.vocabulary v 2147483647 2147483646 s a (omega arith) (omega arith) sa) in
    let other = other_sorted forth n p a c m t (s ∷ v) (omega arith) body in
    let sb : Sorted t.vocabulary v (All s c) = raised t.vocabulary v (2147483646 + 1) 2147483647 (All s c) (omega arith) (all_sorted t.vocabulary v 2147483646 s c (record { scope_fits = other.scope_fits; few_binders = few; fits = other.fits })) in
    subst (λ (b : Form). Proves t v h (under_tree forth s a c p) (aimed forth (All s a) b)) (sym whole) (by_way forth t v h s a c p (omega arith) sa sb (λ g. m t (s ∷ v) g (omega arith) body))
  where
    by_way : (forth : Bool) (t : Statements) (v : List ℕ) (h : List Form) (s : ℕ) (a c : Form) (p : Proof) → length v + 1 < 2147483647 → Sorted t.vocabulary v (All s a) → Sorted t.vocabulary v (All s c)
        → ((g : List Form) → Proves t (s ∷ v) g p (aimed forth a c)) → Proves t v h (under_tree forth s a c p) (aimed forth (All s a) (All s c))
    by_way true t v h s a c p room sa sc w = all_implies t v h s a c p room sa sc w
    by_way false t v h s a c p room sa sc w = all_implies t v h s c a p room sc sa w
