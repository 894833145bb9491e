-- Lemmas on what specs/code/Alongside defines.
use Rattle.std.specs.Prelude.{ℕ, ◌+◌, ◌≡◌, ◌<◌, Bool, true, false, List, [], ◌∷◌, ◌++◌, length, map, Some, slice_get, refl}
use Rattle.std.specs.Option.{option_map}
use Rattle.std.proofs.Common.{ap, sym, subst, ◌∙◌, arith, zero, suc}
use Rattle.std.proofs.lemmas.Option.{slice_get-map}
use Rattle.std.proofs.lemmas.List.{length-map, length-append}
use Rattle.fof_terms.specs.declared.term.Term.{Var}
use Rattle.fof_terms.specs.declared.form.Form.{Form, And, Or, Imp, All}
use Rattle.fof_terms.specs.Vocabulary.{Vocabulary}
use Rattle.fof_terms.specs.Lift.{greatest, lifted}
use Rattle.fof_terms.proofs.LiftFacts.{lifted-All}
use Rattle.fof_terms.specs.Sorts.{binder_depth, SortedTo, Sorted}
use Rattle.fof_terms.proofs.SortsFacts.{binder_depth-Atom, binder_depth-Eq, binder_depth-Not, binder_depth-And, binder_depth-Or, binder_depth-All}
use Rattle.fof_terms.proofs.Scoped.{raised, member_of, all_sorted, sorted_of_and, sorted_of_or, sorted_of_all}
use Rattle.clause_form.specs.declared.clause.AtomOf.{AtomOf}
use Rattle.clause_form.specs.declared.clause.AtomOf.TheVariants.{Pred, Eq as Equation, True, False}
use Rattle.clause_form.specs.declared.clause.Lit.{Lit}
use Rattle.clause_form.specs.declared.clause.Clause.{Clause}
use Rattle.clause_form.specs.ClauseView.{form_of_atom, form_of_lit, form_of_lits, closed_by, closed, within}
use Rattle.clause_form.specs.Covers.{in_lit}
use Rattle.clause_form.specs.Norm.{alone, signed}
use Rattle.clause_form.specs.code.Beside.{moved}
use Rattle.clause_form.specs.Beside.{all_sorts}
use Rattle.clause_form.proofs.BesideFacts.{Rest, part_lits}
use Rattle.clause_form.specs.Reached.{around, Suits}
use Rattle.clause_form.proofs.ReachedFacts.{around_append, whole_moved}
use Rattle.kernel.specs.Statements.{Statements}
use Rattle.kernel.specs.Proves.{Proves, over, all_over}
use Rattle.kernel.proofs.Building.{shown_sorted, over_sorted, by_hyp, by_imp_i, by_imp_e, by_and_e, by_or_i, by_or_e, by_all_i, by_all_e_here}
use Rattle.kernel.specs.declared.proof.Proof.{Proof, Hyp, AndE, OrE, ImpI, ImpE, AllI, AllE}
use Rattle.norm_proofs.specs.code.Steps.{Between}
use Rattle.derive_kit.proofs.Members.{first, right_sorted}
use Rattle.norm_proofs.specs.code.Joining.{numbered}
use Rattle.norm_proofs.specs.code.Applying.{applied, is_itself}
use Rattle.norm_proofs.proofs.ApplyingFacts.{same_sides, by_applied}
use Rattle.norm_proofs.proofs.JoiningFacts.{numbered_each}
use Rattle.norm_proofs.specs.code.Links.{PartsFrom}
use Rattle.norm_proofs.proofs.LinksFacts.{each_own}
use Rattle.derive_kit.proofs.Around.{twice_form, all_around, head_around}
use Rattle.norm_proofs.proofs.NumberingFacts.{closed_sorted, by_general, StandAt, stand_between, near_shows, around_sorted, around_scope}
use Rattle.norm_proofs.specs.Numbering.{near}
use Rattle.norm_proofs.specs.code.Alongside.{chosen, by_segment, widened, member_tree, pick_tree, under_tree, ArmAt}

abbrev pub each_tree : List Form → Clause → List Proof → Proof
each_tree as_ whole arms = ImpI (Or as_) (OrE (closed whole) (Hyp 0) arms)

-- Literals have no quantifiers.
no_binder : (a : AtomOf) → binder_depth (form_of_atom a) ≡ 0
no_binder (Pred p ts) = binder_depth-Atom p ts
no_binder (Equation l r) = binder_depth-Eq l r
no_binder True = binder_depth-And []
no_binder False = binder_depth-Or []

no_binders : (g : Bool) (a : AtomOf) → binder_depth (signed g (form_of_atom a)) ≡ 0
no_binders true a = no_binder a
no_binders false a = binder_depth-Not (form_of_atom a) ∙ no_binder a

none_in : (lits : List Lit) → greatest (map binder_depth (map form_of_lit lits)) ≡ 0
none_in [] = refl
none_in (l ∷ lits) = rw (no_binders l.positive l.atom, none_in lits) refl

lits_depth : (lits : List Lit) → binder_depth (form_of_lits lits) ≡ 0
lits_depth [] = binder_depth-Or []
lits_depth (l ∷ []) = no_binders l.positive l.atom
lits_depth (l ∷ k ∷ lits) = binder_depth-Or (map form_of_lit (l ∷ k ∷ lits)) ∙ none_in (l ∷ k ∷ lits)

closed_depth : (sorts : List ℕ) (b : Form) → binder_depth (closed_by sorts b) ≡ length sorts + binder_depth b
closed_depth [] b = omega arith
closed_depth (s ∷ sorts) b = let rest = closed_depth sorts b in rw binder_depth-All (omega arith)

joined_lits : (lits : List Lit) → form_of_lits lits ≡ alone false (map form_of_lit lits)
joined_lits [] = refl
joined_lits (l ∷ []) = refl
joined_lits (l ∷ k ∷ lits) = refl

-- a literal of the list of formulas
map_place : (lits : List Lit) (j : ℕ) (a : Form) → slice_get (map form_of_lit lits) j ≡ Some a → (l : Lit) × (slice_get lits j ≡ Some l) × (a ≡ form_of_lit l)
map_place [] j a e = cc
map_place (l ∷ lits) zero a e = (l, refl, cc)
map_place (l ∷ lits) (suc j) a e = map_place lits j a e

place_map : {X Y : Type 0} (f : X → Y) (xs : List X) (j : ℕ) (x : X) → slice_get xs j ≡ Some x → slice_get (map f xs) j ≡ Some (f x)
place_map f xs j x e = slice_get-map f xs j ∙ ap (option_map f) e

lit_place : (g : Lit → Lit) (lits : List Lit) (j : ℕ) (l : Lit) → slice_get (map g lits) j ≡ Some l → (k : Lit) × (slice_get lits j ≡ Some k) × (l ≡ g k)
lit_place g [] j l e = cc
lit_place g (x ∷ lits) zero l e = (x, refl, cc)
lit_place g (x ∷ lits) (suc j) l e = lit_place g lits j l e

chosen_shows : (t : Statements) (v : List ℕ) (h as_ : List Form) (k : ℕ) (a : Form) (p : Proof) → Sorted t.vocabulary v (alone false as_) → slice_get as_ k ≡ Some a → Proves t v h p a → Proves t v h (chosen as_ k p) (alone false as_)
chosen_shows t v h [] k a p s e w = cc
chosen_shows t v h (b ∷ []) zero a p s e w = let same : b ≡ a = cc in rw same w
chosen_shows t v h (b ∷ []) (suc k) a p s e w = cc
chosen_shows t v h (b ∷ d ∷ as_) k a p s e w = by_or_i t v h (b ∷ d ∷ as_) k p a s e w

-- some of the formulas stand among the others from number k on
segment_shows : (t : Statements) (v : List ℕ) (h as_ : List Form) (k : ℕ) (ms : List Form) (p : Proof) → Sorted t.vocabulary v (alone false as_) → ((j : ℕ) (a : Form) → slice_get ms j ≡ Some a → slice_get as_ (k + j) ≡ Some a)
    → Proves t v h p (alone false ms) → Proves t v h (by_segment as_ k (length ms) p) (alone false as_)
segment_shows t v h as_ k [] p s at w = by_or_e t v h (alone false as_) p [] [] s w tt
segment_shows t v h as_ k (a ∷ []) p s at w =
    let same : k + 0 ≡ k = omega arith in
    chosen_shows t v h as_ k a p s (subst (λ n. slice_get as_ n ≡ Some a) same (at 0 a refl)) w
segment_shows t v h as_ k (a ∷ b ∷ ms) p s at w =
    let each = sorted_of_or t.vocabulary v 2147483647 (a ∷ b ∷ ms) (shown_sorted t v h p (Or (a ∷ b ∷ ms)) w) in
    by_or_e t v h (alone false as_) p (numbered (λ j. chosen as_ j (Hyp 0)) k (length (a ∷ b ∷ ms))) (a ∷ b ∷ ms) s w
    (numbered_each t v h (λ j. chosen as_ j (Hyp 0)) (alone false as_) k (a ∷ b ∷ ms)
    (λ j x e. chosen_shows t v (x ∷ h) as_ (k + j) x (Hyp 0) s (at j x e) (first t v h x (member_of (Sorted t.vocabulary v) (a ∷ b ∷ ms) j x each e))))

member_place : (whole : Clause) (f k : ℕ) (c : Clause) (cs : List Clause) → Rest whole f k (c ∷ cs) → (j : ℕ) (a : Form)
    → slice_get (map form_of_lit (map (in_lit (moved (length (all_sorts cs)) f (length c.sorts))) c.lits)) j ≡ Some a → slice_get (map form_of_lit whole.lits) (k + j) ≡ Some a
member_place whole f k c cs r j a e =
    let g = in_lit (moved (length (all_sorts cs)) f (length c.sorts)) in
    let one = map_place (map g c.lits) j a e in
    let two = lit_place g c.lits j one.0 one.1 in
    place_map form_of_lit whole.lits (k + j) (g two.0) (part_lits whole f k c cs r j two.0 two.1) ∙ ap Some (ap form_of_lit (sym two.2) ∙ sym one.2)

-- the arm of a disjunction's member that leads to one of the clauses beside each other
pub member_shows : (t : Statements) (v : List ℕ) (h : List Form) (whole : Clause) (f k : ℕ) (c : Clause) (cs : List Clause) → Rest whole f k (c ∷ cs) → (a : Form) (q : Proof) → length whole.sorts + length v < 2147483647
    → SortedTo 0 t.vocabulary (around whole.sorts v) (form_of_lits whole.lits) → Sorted t.vocabulary v a → ((g : List Form) → Proves t v g q (Imp a (closed c)))
    → Proves t v (a ∷ h) (member_tree whole c (map form_of_lit whole.lits) (length (all_sorts cs)) k q) (closed whole)
member_shows t v h whole f k c cs r a q room gs sa w =
    let later = all_sorts cs in
    let e = length later in
    let n = length c.sorts in
    let g = in_lit (moved e f n) in
    let as_ = map form_of_lit whole.lits in
    let ms = map form_of_lit (map g c.lits) in
    let scope = around whole.sorts v in
    let hs = all_around whole.sorts (closed c ∷ a ∷ h) in
    let sc : Sorted t.vocabulary v (closed c) = right_sorted t v [] q a (closed c) (w []) in
    let same_scope : scope ≡ around later (around c.sorts (around r.earlier v)) =
    ap (λ (ss : List ℕ). around ss v) r.sorts ∙ around_append r.earlier (c.sorts ++ later) v ∙ around_append c.sorts later (around r.earlier v) in
    let outer : length (r.earlier ++ (c.sorts ++ later)) ≡ length r.earlier + length (c.sorts ++ later) = length-append r.earlier (c.sorts ++ later) in
    let inner : length (c.sorts ++ later) ≡ n + e = length-append c.sorts later in
    let all : length whole.sorts ≡ length (r.earlier ++ (c.sorts ++ later)) = ap (λ (ss : List ℕ). length ss) r.sorts in
    let count : length r.earlier ≡ f = r.count in
    let total : length whole.sorts ≡ e + n + f = omega arith in
    let hyp : Proves t scope hs (Hyp 0) (lifted (length whole.sorts) 0 (closed c)) =
    by_hyp t scope hs 0 (lifted (length whole.sorts) 0 (closed c)) (around_sorted t.vocabulary whole.sorts v (closed c) gs.scope_fits sc) (head_around whole.sorts (a ∷ h) (closed c)) in
    let turned : lifted (length whole.sorts) 0 (closed c) ≡ lifted (e + n) 0 (lifted f 0 (closed c)) = sym (twice_form (e + n) f (length whole.sorts) total (closed c) 0) in
    let at : StandAt scope e c.sorts = subst (λ (ss : List ℕ). StandAt ss e c.sorts) (sym same_scope) (stand_between later c.sorts (around r.earlier v)) in
    let inst = near_shows t scope hs e f c.sorts 0 (form_of_lits c.lits) (Hyp 0) at (subst (λ (x : Form). Proves t scope hs (Hyp 0) x) turned hyp) in
    let plus : 0 + n ≡ n = omega arith in
    let part : lifted e 0 (lifted f (0 + n) (form_of_lits c.lits)) ≡ alone false ms =
    ap (λ (m : ℕ). lifted e 0 (lifted f m (form_of_lits c.lits))) plus ∙ sym (whole_moved e f n c.lits) ∙ joined_lits (map g c.lits) in
    let one : length ms ≡ length (map g c.lits) = length-map (map g c.lits) form_of_lit in
    let many : length ms ≡ length c.lits = one ∙ length-map c.lits g in
    let goal : form_of_lits whole.lits ≡ alone false as_ = joined_lits whole.lits in
    let sorted : Sorted t.vocabulary scope (alone false as_) = subst (λ (x : Form). Sorted t.vocabulary scope x) goal (raised t.vocabulary scope 0 2147483647 (form_of_lits whole.lits) (omega arith) gs) in
    let segment = segment_shows t scope hs as_ k ms (near e n (Hyp 0)) sorted (member_place whole f k c cs r) (subst (λ (x : Form). Proves t scope hs (near e n (Hyp 0)) x) part inst) in
    let body : Proves t scope hs (by_segment as_ k (length c.lits) (near e n (Hyp 0))) (form_of_lits whole.lits) =
    subst (λ (m : ℕ). Proves t scope hs (by_segment as_ k m (near e n (Hyp 0))) (form_of_lits whole.lits)) many
    (subst (λ (x : Form). Proves t scope hs (by_segment as_ k (length ms) (near e n (Hyp 0))) x) (sym goal) segment) in
    let wide = by_general t 0 whole.sorts v (closed c ∷ a ∷ h) (by_segment as_ k (length c.lits) (near e n (Hyp 0))) (form_of_lits whole.lits) (omega arith) gs body in
    by_imp_e t v (a ∷ h) (ImpI (closed c) (widened whole.sorts as_ e n k (length c.lits))) (applied q (Hyp 0)) (closed c) (closed whole)
    (by_imp_i t v (a ∷ h) (closed c) (closed whole) (widened whole.sorts as_ e n k (length c.lits)) sc wide)
    (by_applied t v (a ∷ h) q (Hyp 0) a (closed c) (w (a ∷ h)) (first t v h a sa))

-- the clause that is reached is well-sorted where the formula is
lits_sorted : (w : Vocabulary) (v : List ℕ) (a : Form) (c : Clause) → Suits a c → length c.sorts + length v < 2147483647 → Sorted w v a → SortedTo 0 w (around c.sorts v) (form_of_lits c.lits)
lits_sorted w v a c suits room s = record {
  scope_fits = around_scope w c.sorts v (omega arith) (suits.sorts w v s.fits) s.scope_fits;
  few_binders = rw lits_depth (omega arith);
  fits = suits.fits w v s.fits;
}

whole_sorted : (w : Vocabulary) (v : List ℕ) (c : Clause) → length c.sorts + length v < 2147483647 → SortedTo 0 w (around c.sorts v) (form_of_lits c.lits) → Sorted w v (closed c)
whole_sorted w v c room s = raised w v (0 + length c.sorts) 2147483647 (closed c) (omega arith) (closed_sorted w 0 c.sorts v (form_of_lits c.lits) s)

pub each_shows : (as_ : List Form) (whole : Clause) (arms : List Proof) → Suits (Or as_) whole → PartsFrom (ArmAt whole as_) 0 as_ arms → Between true (length whole.sorts) (each_tree as_ whole arms) (Or as_) (closed whole)
each_shows as_ whole arms suits parts t v h room s =
    let gs = lits_sorted t.vocabulary v (Or as_) whole suits room s in
    let sw = whole_sorted t.vocabulary v whole room gs in
    let each = sorted_of_or t.vocabulary v 2147483647 as_ s in
    let h1 = Or as_ ∷ h in
    by_imp_i t v h (Or as_) (closed whole) (OrE (closed whole) (Hyp 0) arms) s
    (by_or_e t v h1 (closed whole) (Hyp 0) arms as_ sw (first t v h (Or as_) s)
    (each_own (ArmAt whole as_) t v h1 (closed whole) (λ k a p arm. arm.1 t v h1 room gs (member_of (Sorted t.vocabulary v) as_ k a each arm.0)) as_ arms parts))

pub pick_shows : (n k : ℕ) (as_ : List Form) (a b : Form) (q : Proof) → slice_get as_ k ≡ Some a → Between true n q a b → Between true n (pick_tree as_ k q) (And as_) b
pick_shows n k as_ a b q e l t v h room s =
    let each = sorted_of_and t.vocabulary v 2147483647 as_ s in
    let h1 = And as_ ∷ h in
    by_imp_i t v h (And as_) b (applied q (AndE k (Hyp 0))) s
    (by_applied t v h1 q (AndE k (Hyp 0)) a b (l t v h1 room (member_of (Sorted t.vocabulary v) as_ k a each e)) (by_and_e t v h1 k (Hyp 0) as_ a e (first t v h (And as_) s)))

pub under_itself : (s : ℕ) (a : Form) (q : Proof) → is_itself q ≡ true → under_tree s a q ≡ ImpI (All s a) (Hyp 0)
unfolding under_tree
under_itself s a q is = rw is refl

pub under_other : (s : ℕ) (a : Form) (q : Proof) → is_itself q ≡ false → under_tree s a q ≡ ImpI (All s a) (AllI s (ImpE q (AllE (Var 0) (Hyp 0))))
unfolding under_tree
under_other s a q is = rw is refl

under_by : (s : ℕ) (a : Form) (c : Clause) (q : Proof) (b : Bool) → is_itself q ≡ b → Between true (length c.sorts) q a (closed c) → Between true (length (s ∷ c.sorts)) (under_tree s a q) (All s a) (closed (within s c))
under_by s a c q true is l t v h room r =
    let sa = raised t.vocabulary (s ∷ v) 2147483646 2147483647 a (omega arith) (sorted_of_all t.vocabulary v 2147483647 2147483646 s a (omega arith) (omega arith) r) in
    let same : a ≡ closed c = same_sides t (s ∷ v) h q a (closed c) is (l t (s ∷ v) h (omega arith) sa) in
    rw (under_itself s a q is) (subst (λ (x : Form). Proves t v h (ImpI (All s a) (Hyp 0)) (Imp (All s a) (All s x))) same (by_imp_i t v h (All s a) (All s a) (Hyp 0) r (first t v h (All s a) r)))
under_by s a c q false is l t v h room r =
    let sa = raised t.vocabulary (s ∷ v) 2147483646 2147483647 a (omega arith) (sorted_of_all t.vocabulary v 2147483647 2147483646 s a (omega arith) (omega arith) r) in
    let h1 = All s a ∷ h in
    let hs = all_over h1 in
    let w = l t (s ∷ v) hs (omega arith) sa in
    let sc : Sorted t.vocabulary (s ∷ v) (closed c) = right_sorted t (s ∷ v) hs q a (closed c) w in
    let depth : binder_depth (closed c) ≡ length c.sorts + binder_depth (form_of_lits c.lits) = closed_depth c.sorts (form_of_lits c.lits) in
    let none : binder_depth (form_of_lits c.lits) ≡ 0 = lits_depth c.lits in
    let few : SortedTo 2147483646 t.vocabulary (s ∷ v) (closed c) = record { scope_fits = sc.scope_fits; few_binders = omega arith; fits = sc.fits } in
    let sw : Sorted t.vocabulary v (All s (closed c)) = all_sorted t.vocabulary v 2147483646 s (closed c) few in
    let own : Proves t (s ∷ v) hs (Hyp 0) (over (All s a)) = first t (s ∷ v) (all_over h) (over (All s a)) (over_sorted t v s (All s a) sa.scope_fits r) in
    rw (under_other s a q is)
    (by_imp_i t v h (All s a) (All s (closed c)) (AllI s (ImpE q (AllE (Var 0) (Hyp 0)))) r
    (by_all_i t v h1 s (closed c) (ImpE q (AllE (Var 0) (Hyp 0))) sw
    (by_imp_e t (s ∷ v) hs q (AllE (Var 0) (Hyp 0)) a (closed c) w (by_all_e_here t v hs s a (Hyp 0) sa (subst (λ (x : Form). Proves t (s ∷ v) hs (Hyp 0) x) (lifted-All 1 0 s a) own)))))

pub under_shows : (s : ℕ) (a : Form) (c : Clause) (q : Proof) → Between true (length c.sorts) q a (closed c) → Between true (length (s ∷ c.sorts)) (under_tree s a q) (All s a) (closed (within s c))
under_shows s a c q l = under_by s a c q (is_itself q) refl l
