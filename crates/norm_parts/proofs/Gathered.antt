-- A normal form by the conjunction of its parts.
use Rattle.std.specs.Prelude.{ℕ, ◌≡◌, ◌+◌, ◌-◌, ◌<◌, ◌≤◌, true, List, [], ◌∷◌, ◌++◌, length, map, flat_map, take, drop, get_or, Some, slice_get, refl}
use Rattle.std.specs.List.{AllByRecursion}
use Rattle.std.proofs.Common.{ap, sym, subst, ◌∙◌, arith, append-nil, zero, suc}
use Rattle.std.proofs.lemmas.List.{length-append, length-map, take_all, take_more}
use Rattle.std.proofs.lemmas.Grind.{flat_map-append}
use Rattle.std.proofs.lemmas.List.Folds.{length-flat_map-take}
use Rattle.std.proofs.lemmas.Option.{slice_get_within}
use Rattle.fof_terms.specs.declared.form.Form.{Form, And, All, Imp}
use Rattle.fof_terms.specs.Lift.{lifted}
use Rattle.fof_terms.specs.Sorts.{SortedTo, Sorted}
use Rattle.fof_terms.proofs.SortsFacts.{binder_depth-All}
use Rattle.fof_terms.proofs.Scoped.{raised, member_of, and_sorted, sorted_of_and, sorted_of_all}
use Rattle.fof_terms.proofs.LiftingLaws.{closed_stays}
use Rattle.fof_terms.proofs.Moved.{closed_anywhere}
use Rattle.clause_form.specs.ClauseView.{closed_by}
use Rattle.clause_form.specs.Norm.{norm_of}
use Rattle.clause_form.proofs.NormFits.{norm_fits}
use Rattle.clause_form.proofs.NormSorts.{norm_depth}
use Rattle.clause_form.specs.Reached.{around}
use Rattle.clause_form.specs.Sizes.{norm_size_of}
use Rattle.clause_form.proofs.ReachedFacts.{around_length, around_append}
use Rattle.clause_form.proofs.SizeLaws.{depth_within_size}
use Rattle.kernel.specs.Statements.{Statements}
use Rattle.kernel.specs.Proves.{Proves, over, all_over}
use Rattle.kernel.specs.code.Rules.{ProveAll}
use Rattle.kernel.specs.declared.proof.Proof.{Proof, Hyp, AndI, AndE, AllI}
use Rattle.kernel.proofs.Building.{shown_sorted, by_hyp, by_and_i, by_and_e, by_all_i}
use Rattle.derive_kit.proofs.Around.{head_around}
use Rattle.norm_proofs.specs.code.Joining.{Stands}
use Rattle.norm_proofs.specs.Numbering.{near}
use Rattle.norm_proofs.proofs.JoiningFacts.{gather_nested}
use Rattle.norm_proofs.proofs.NumberingFacts.{stand_between, near_shows}
use Rattle.clause_rules.proofs.ListPlaces.{before, get_lifted}
use Rattle.norm_parts.specs.Parts.{parts_of}
use Rattle.norm_parts.specs.Shown.{ShowEach}
use Rattle.norm_parts.specs.code.Gathering.{leaf_tree, Stand, IsUnder, IsGathered, IsMember, AreGathered, picked_tree}
use Rattle.norm_parts.proofs.PartsFacts.{parts_of-And, parts_of-All}
use Rattle.norm_parts.proofs.ClosedParts.{closed_further}

-- Lists in pieces.
get_taken : {X : Type 0} (xs : List X) (n i : ℕ) (x : X) → i < n → slice_get xs i ≡ Some x → slice_get (take n xs) i ≡ Some x
get_taken xs zero i x lt e = absurd (omega arith)
get_taken [] (suc n) i x lt e = cc
get_taken (y ∷ xs) (suc n) zero x lt e = e
get_taken (y ∷ xs) (suc n) (suc i) x lt e = get_taken xs n i x (omega arith) e

taken_get : {X : Type 0} (xs : List X) (n i : ℕ) (x : X) → slice_get (take n xs) i ≡ Some x → (i < n) × (slice_get xs i ≡ Some x)
taken_get xs zero i x e = cc
taken_get [] (suc n) i x e = cc
taken_get (y ∷ xs) (suc n) zero x e = (omega arith, e)
taken_get (y ∷ xs) (suc n) (suc i) x e = let rest = taken_get xs n i x e in (omega (arith, rest.0), rest.1)

get_dropped : {X : Type 0} (xs : List X) (n i : ℕ) → slice_get (drop n xs) i ≡ slice_get xs (n + i)
get_dropped xs zero i = let same : i ≡ 0 + i = omega arith in ap (slice_get xs) same
get_dropped [] (suc n) i = refl
get_dropped (y ∷ xs) (suc n) i = let same : suc (n + i) ≡ suc n + i = omega arith in get_dropped xs n i ∙ ap (slice_get (y ∷ xs)) same

get_below : {X : Type 0} (xs : List X) (i : ℕ) → i < length xs → (x : X) × (slice_get xs i ≡ Some x)
get_below [] i lt = absurd (omega arith)
get_below (x ∷ xs) zero lt = (x, refl)
get_below (x ∷ xs) (suc i) lt = get_below xs i (omega arith)

each_standing : {X : Type 0} (P : X → Type 0) (xs : List X) (first : ℕ) (ys : List X) → AllByRecursion P xs → ((i : ℕ) (y : X) → slice_get ys i ≡ Some y → slice_get xs (first + i) ≡ Some y) → AllByRecursion P ys
each_standing P xs first [] all at = tt
each_standing P xs first (y ∷ ys) all at =
    (member_of P xs (first + 0) y all (at 0 y refl), each_standing P xs (first + 1) ys all (λ i z e. let same : first + 1 + i ≡ first + suc i = omega arith in ap (slice_get xs) same ∙ at (suc i) z e))

first_of_both : {X : Type 0} (P : X → Type 0) (xs ys : List X) → AllByRecursion P (xs ++ ys) → AllByRecursion P xs
first_of_both P [] ys h = tt
first_of_both P (x ∷ xs) ys h = (h.0, first_of_both P xs ys h.1)

second_of_both : {X : Type 0} (P : X → Type 0) (xs ys : List X) → AllByRecursion P (xs ++ ys) → AllByRecursion P ys
second_of_both P [] ys h = h
second_of_both P (x ∷ xs) ys h = second_of_both P xs ys h.1

get_behind : {X : Type 0} (xs ys : List X) (i : ℕ) → slice_get (xs ++ ys) (length xs + i) ≡ slice_get ys i
get_behind [] ys i = let same : 0 + i ≡ i = omega arith in ap (slice_get ys) same
get_behind (x ∷ xs) ys i = let same : length (x ∷ xs) + i ≡ suc (length xs + i) = omega arith in ap (slice_get (x ∷ (xs ++ ys))) same ∙ get_behind xs ys i

stand_first : (whole : List Form) (first : ℕ) (sorts : List ℕ) (xs ys : List Form) → Stand whole first sorts (xs ++ ys) → Stand whole first sorts xs
stand_first whole first sorts xs ys h i p at = h i p (before xs ys i p at)

stand_second : (whole : List Form) (first next : ℕ) (sorts : List ℕ) (xs ys : List Form) → next ≡ first + length xs → Stand whole first sorts (xs ++ ys) → Stand whole next sorts ys
stand_second whole first next sorts xs ys e h i p at =
    let same : next + i ≡ first + (length xs + i) = omega arith in
    ap (slice_get whole) same ∙ h (length xs + i) p (get_behind xs ys i ∙ at)

stand_further : (whole : List Form) (first : ℕ) (sorts : List ℕ) (s : ℕ) (a : Form) → Stand whole first sorts (parts_of (All s a)) → Stand whole first (sorts ++ s ∷ []) (parts_of a)
stand_further whole first sorts s a h i p at =
    h i (All s p) (ap (λ (xs : List Form). slice_get xs i) (parts_of-All s a) ∙ get_lifted (All s) (parts_of a) i p at) ∙ ap Some (sym (closed_further sorts s p))

prove_more : (t : Statements) (v : List ℕ) (h : List Form) (ps : List Proof) (as_ : List Form) (p : Proof) (a : Form) → ProveAll t v h ps as_ → Proves t v h p a → ProveAll t v h (ps ++ p ∷ []) (as_ ++ a ∷ [])
prove_more t v h [] [] p a all one = (one, tt)
prove_more t v h [] (b ∷ as_) p a all one = absurd all
prove_more t v h (q ∷ ps) [] p a all one = absurd all
prove_more t v h (q ∷ ps) (b ∷ as_) p a all one = (all.0, prove_more t v h ps as_ p a all.1 one)

-- the list up to there has the same
stand_taken : (whole : List Form) (count : ℕ) (sorts : List ℕ) (ps : List Form) → count ≡ length ps → Stand whole 0 sorts ps → Stand (take count whole) 0 sorts ps
stand_taken whole count sorts ps e h i p at = get_taken whole count (0 + i) (closed_by sorts p) (omega (arith, slice_get_within ps i p at)) (h i p at)

-- and from there on
stand_dropped : (whole : List Form) (first : ℕ) (sorts : List ℕ) (ps : List Form) → Stand whole first sorts ps → Stand (drop first whole) 0 sorts ps
stand_dropped whole first sorts ps h i p at = get_dropped whole first (0 + i) ∙ ap (slice_get whole) (let same : first + (0 + i) ≡ first + i = omega arith in same) ∙ h i p at

-- what stands at the same places of both
in_both : (whole rest : List Form) (first count : ℕ) (sorts : List ℕ) (ps : List Form) → count ≡ length ps → Stand whole first sorts ps → Stand rest first sorts ps → (i : ℕ) (q : Form) → slice_get (take count (drop first rest)) i ≡ Some q
    → slice_get whole (first + i) ≡ Some q
in_both whole rest first count sorts ps e here there i q at =
    let taken = taken_get (drop first rest) count i q at in
    let part : (p : Form) × (slice_get ps i ≡ Some p) = get_below ps i (omega (arith, taken.0, e)) in
    let same : Some (closed_by sorts part.0) ≡ Some q = sym (there i part.0 part.1) ∙ sym (get_dropped rest first i) ∙ taken.1 in
    here i part.0 part.1 ∙ same

-- A conjunction by its members.
and_gathered : (as_ : List Form) (depth : ℕ) (rest : List Form) (ps : List Proof) (count : ℕ) → AreGathered as_ depth rest ps count → IsGathered (And as_) depth rest (AndI ps) count
and_gathered as_ depth rest ps count all = record {
  counted = all.counted ∙ ap length (sym (parts_of-And as_));
  shows = λ t sorts h under few room sorted stand.
      let here : Stand rest 0 sorts (flat_map parts_of as_) = subst (Stand rest 0 sorts) (parts_of-And as_) stand in
      by_and_i t (around sorts []) (And (take count rest) ∷ h) ps as_ sorted.scope_fits
      (all.shows t (take count rest) sorts h under few room (sorted_of_and t.vocabulary (around sorts []) few as_ sorted) (stand_taken rest count sorts (flat_map parts_of as_) all.counted here) here);
}

pub gathered_and : (form : Form) (as_ lent : List Form) (depth : ℕ) (rest : List Form) (ps : List Proof) (made : Proof) (count : ℕ) → form ≡ And as_ → lent ≡ as_ → made ≡ AndI ps → AreGathered lent depth rest ps count → IsGathered form depth rest made count
gathered_and form as_ lent depth rest ps made count is same e all =
    subst (λ (x : Form). IsGathered x depth rest made count) (sym is)
    (subst (λ (p : Proof). IsGathered (And as_) depth rest p count) (sym e) (and_gathered as_ depth rest ps count (subst (λ (xs : List Form). AreGathered xs depth rest ps count) same all)))

-- what a proof shows of all hypotheses behind the conjunction, brought under the quantifier or not
abbrev pub IsBrought : List Form → Proof → Proof → Type 0
IsBrought own part made = (t : Statements) (v : List ℕ) (h : List Form) (a : Form) → Sorted t.vocabulary v (And own) → ((g : List Form) → Proves t v (And own ∷ g) part a) → Proves t v (And own ∷ h) made a

-- what the proof shows where the other two show their parts of it
abbrev pub Cuts : Proof → Form → Proof → Proof → Type 0
Cuts lemma fact rest made = (t : Statements) (v : List ℕ) (h : List Form) (a : Form) → Proves t v h lemma fact → Proves t v (fact ∷ h) rest a → Proves t v h made a

pub brought_cut : (own copied : List Form) (all part made : Proof) → all ≡ Hyp 0 → copied ≡ own → Cuts all (And copied) part made → IsBrought own part made
brought_cut own copied all part made e same cuts t v h a sorted shown =
    let whole : Proves t v (And own ∷ h) all (And copied) = subst (λ (xs : List Form). Proves t v (And own ∷ h) all (And xs)) (sym same) (subst (λ (p : Proof). Proves t v (And own ∷ h) p (And own)) (sym e) (by_hyp t v (And own ∷ h) 0 (And own) sorted refl)) in
    cuts t v (And own ∷ h) a whole (subst (λ (xs : List Form). Proves t v (And xs ∷ And own ∷ h) part a) (sym same) (shown (And own ∷ h)))

-- A universal quantifier by its body.
module _ (s : ℕ) (a : Form) (depth : ℕ) (rest : List Form) (p q : Proof) (count : ℕ) (one : IsGathered a (depth + 1) rest p count) (brought : IsBrought (take count rest) p q) where
  all_shows : (t : Statements) (sorts : List ℕ) (h : List Form) → IsUnder t (take count rest) depth sorts → (few : ℕ) → few + length sorts ≤ 2147483646 → SortedTo few t.vocabulary (around sorts []) (All s a) → Stand rest 0 sorts (parts_of (All s a))
      → Proves t (around sorts []) (And (take count rest) ∷ h) (AllI s q) (All s a)
  all_shows t sorts h under few room sorted stand =
      let v = around sorts [] in
      let own = And (take count rest) in
      let longer = sorts ++ s ∷ [] in
      let size : length v ≡ length sorts + 0 = around_length sorts [] in
      let size_more : length longer ≡ length sorts + 1 = length-append sorts (s ∷ []) in
      let least : 1 ≤ few = omega (arith, binder_depth-All s a, sorted.few_binders) in
      let scope : around longer [] ≡ s ∷ v = around_append sorts (s ∷ []) [] in
      let inner : SortedTo (few - 1) t.vocabulary (s ∷ v) a = sorted_of_all t.vocabulary v few (few - 1) s a (omega arith) (omega arith) sorted in
      let fixed : over own ≡ own = closed_stays t.vocabulary 1 own [] 0 (omega arith) under.closed.fits in
      let body : (g : List Form) → Proves t (s ∷ v) (own ∷ g) p a = λ g.
      subst (λ (ss : List ℕ). Proves t ss (own ∷ g) p a) scope
      (one.shows t longer g (record { closed = under.closed; many = size_more ∙ ap (λ (n : ℕ). n + 1) under.many }) (few - 1) (omega arith) (subst (λ (ss : List ℕ). SortedTo (few - 1) t.vocabulary ss a) (sym scope) inner) (stand_further rest 0 sorts s a stand)) in
      let closed : Sorted t.vocabulary (s ∷ v) own = closed_anywhere t.vocabulary (s ∷ v) 2147483647 own inner.scope_fits under.closed in
      let under_all : Proves t (s ∷ v) (all_over (own ∷ h)) q a = subst (λ (x : Form). Proves t (s ∷ v) (x ∷ all_over h) q a) (sym fixed) (brought t (s ∷ v) (all_over h) a closed body) in
      by_all_i t v (own ∷ h) s a q (raised t.vocabulary v few 2147483647 (All s a) (omega arith) sorted) under_all

  all_gathered : IsGathered (All s a) depth rest (AllI s q) count
  all_gathered = record { counted = one.counted ∙ (sym (length-map (parts_of a) (All s)) ∙ ap length (sym (parts_of-All s a))); shows = all_shows }

pub gathered_all : (form : Form) (s : ℕ) (body lent : Form) (depth inner : ℕ) (rest own : List Form) (p q made : Proof) (count : ℕ) → form ≡ All s body → lent ≡ body → inner ≡ depth + 1 → own ≡ take count rest → made ≡ AllI s q → IsGathered lent inner rest p count
    → IsBrought own p q → IsGathered form depth rest made count
gathered_all form s body lent depth inner rest own p q made count is same deeper part e one brought =
    let one' : IsGathered body (depth + 1) rest p count = subst (λ (n : ℕ). IsGathered body n rest p count) deeper (subst (λ (x : Form). IsGathered x inner rest p count) same one) in
    let brought' : IsBrought (take count rest) p q = subst (λ (xs : List Form). IsBrought xs p q) part brought in
    subst (λ (x : Form). IsGathered x depth rest made count) (sym is) (subst (λ (x : Proof). IsGathered (All s body) depth rest x count) (sym e) (all_gathered s body depth rest p q count one' brought'))

-- A part itself.
module _ (a : Form) (depth first : ℕ) (one : parts_of a ≡ a ∷ []) where
  leaf_shows : (t : Statements) (whole : List Form) (sorts : List ℕ) (h : List Form) → IsUnder t whole depth sorts → (few : ℕ) → few + length sorts ≤ 2147483646 → SortedTo few t.vocabulary (around sorts []) a → Stand whole first sorts (parts_of a)
      → Proves t (around sorts []) (And whole ∷ h) (leaf_tree depth first) a
  leaf_shows t whole sorts h under few room sorted stand =
      let v = around sorts [] in
      let c = closed_by sorts a in
      let size : length v ≡ length sorts + 0 = around_length sorts [] in
      let place : first ≡ first + 0 = omega arith in
      let there : slice_get whole first ≡ Some c = ap (slice_get whole) place ∙ stand 0 a (ap (λ (xs : List Form). slice_get xs 0) one) in
      let closed : Sorted t.vocabulary [] c = member_of (Sorted t.vocabulary []) whole first c (sorted_of_and t.vocabulary [] 2147483647 whole under.closed) there in
      let all : Proves t v (And whole ∷ h) (Hyp 0) (And whole) = by_hyp t v (And whole ∷ h) 0 (And whole) (closed_anywhere t.vocabulary v 2147483647 (And whole) sorted.scope_fits under.closed) refl in
      let own : Proves t v (And whole ∷ h) (AndE first (Hyp 0)) c = by_and_e t v (And whole ∷ h) first (Hyp 0) whole c there all in
      let fixed : lifted (0 + length sorts) 0 (lifted 0 0 c) ≡ c =
      ap (lifted (0 + length sorts) 0) (closed_stays t.vocabulary 0 c [] 0 (omega arith) closed.fits) ∙ closed_stays t.vocabulary (0 + length sorts) c [] 0 (omega arith) closed.fits in
      let nothing : Some a ≡ Some (lifted 0 0 a) = head_around [] [] a in
      let same : lifted 0 0 a ≡ a = cc in
      let back : lifted 0 0 (lifted 0 (0 + length sorts) a) ≡ a = ap (lifted 0 0) (closed_stays t.vocabulary 0 a v (0 + length sorts) (omega arith) sorted.fits) ∙ same in
      let instance : Proves t v (And whole ∷ h) (near 0 (length sorts) (AndE first (Hyp 0))) (lifted 0 0 (lifted 0 (0 + length sorts) a)) =
      near_shows t v (And whole ∷ h) 0 0 sorts 0 a (AndE first (Hyp 0)) (stand_between [] sorts []) (subst (λ (x : Form). Proves t v (And whole ∷ h) (AndE first (Hyp 0)) x) (sym fixed) own) in
      subst (λ (n : ℕ). Proves t v (And whole ∷ h) (near 0 n (AndE first (Hyp 0))) a) under.many (subst (λ (x : Form). Proves t v (And whole ∷ h) (near 0 (length sorts) (AndE first (Hyp 0))) x) back instance)

pub gathered_leaf : (form : Form) (depth : ℕ) (rest : List Form) (made : Proof) → parts_of form ≡ form ∷ [] → made ≡ leaf_tree depth 0 → IsGathered form depth rest made 1
gathered_leaf form depth rest made one e =
    subst (λ (p : Proof). IsGathered form depth rest p 1) (sym e)
    (record {
      counted = ap length (sym one);
      shows = λ t sorts h under few room sorted stand. leaf_shows form depth 0 one t (take 1 rest) sorts h under few room sorted (stand_taken rest 1 sorts (parts_of form) (ap length (sym one)) stand);
    })

pub member_leaf : (form : Form) (depth : ℕ) (rest : List Form) (first number : ℕ) (made : Proof) → parts_of form ≡ form ∷ [] → number ≡ first → made ≡ leaf_tree depth number → IsMember form depth rest first made
member_leaf form depth rest first number made one same e =
    subst (λ (p : Proof). IsMember form depth rest first p) (sym (e ∙ ap (leaf_tree depth) same))
    (record { shows = λ t whole sorts h under few room sorted stand there. leaf_shows form depth first one t whole sorts h under few room sorted stand })

-- what a proof shows of a conjunction, by one of more
abbrev pub IsNarrowed : List Form → ℕ → Proof → Proof → Type 0
IsNarrowed own first part made = (t : Statements) (v : List ℕ) (h : List Form) (a : Form) → Proves t v h (picked_tree first (length own)) (And own) → Proves t v (And own ∷ h) part a → Proves t v h made a

pub narrowed_cut : (own copied : List Form) (first count : ℕ) (all part made : Proof) → all ≡ picked_tree first count → count ≡ length own → copied ≡ own → Cuts all (And copied) part made → IsNarrowed own first part made
narrowed_cut own copied first count all part made e many same cuts t v h a picked shown =
    let whole : Proves t v h all (And copied) = subst (λ (xs : List Form). Proves t v h all (And xs)) (sym same) (subst (λ (p : Proof). Proves t v h p (And own)) (sym (e ∙ ap (picked_tree first) many)) picked) in
    cuts t v h a whole (subst (λ (xs : List Form). Proves t v (And xs ∷ h) part a) (sym same) shown)

module _ (form : Form) (depth : ℕ) (rest : List Form) (first count : ℕ) (p made : Proof) (one : IsGathered form depth (drop first rest) p count) (narrowed : IsNarrowed (take count (drop first rest)) first p made) where
  narrowed_shows : (t : Statements) (whole : List Form) (sorts : List ℕ) (h : List Form) → IsUnder t whole depth sorts → (few : ℕ) → few + length sorts ≤ 2147483646 → SortedTo few t.vocabulary (around sorts []) form → Stand whole first sorts (parts_of form)
      → Stand rest first sorts (parts_of form) → Proves t (around sorts []) (And whole ∷ h) made form
  narrowed_shows t whole sorts h under few room sorted here there =
      let v = around sorts [] in
      let own = take count (drop first rest) in
      let stands : Stands whole first own = in_both whole rest first count sorts (parts_of form) one.counted here there in
      let closed : Sorted t.vocabulary v (And whole) = closed_anywhere t.vocabulary v 2147483647 (And whole) sorted.scope_fits under.closed in
      let each : AllByRecursion (Sorted t.vocabulary []) own = each_standing (Sorted t.vocabulary []) whole first own (sorted_of_and t.vocabulary [] 2147483647 whole under.closed) stands in
      let own_closed : Sorted t.vocabulary [] (And own) = and_sorted t.vocabulary [] 2147483647 under.closed.scope_fits own each in
      narrowed t v (And whole ∷ h) form ((gather_nested true whole first (And own) own stands refl t v h closed).0)
      (one.shows t sorts (And whole ∷ h) (record { closed = own_closed; many = under.many }) few room sorted (stand_dropped rest first sorts (parts_of form) there))

pub member_narrowed : (form : Form) (depth : ℕ) (rest own : List Form) (first count : ℕ) (p made : Proof) → own ≡ take count (drop first rest) → IsGathered form depth (drop first rest) p count → IsNarrowed own first p made → IsMember form depth rest first made
member_narrowed form depth rest own first count p made e one narrowed = record { shows = narrowed_shows form depth rest first count p made one (subst (λ (xs : List Form). IsNarrowed xs first p made) e narrowed) }

-- Several formulas.
pub gathered_none : (depth : ℕ) (rest : List Form) (ps : List Proof) → ps ≡ [] → AreGathered [] depth rest ps 0
gathered_none depth rest ps e = subst (λ (qs : List Proof). AreGathered [] depth rest qs 0) (sym e) (record { counted = refl; shows = λ t whole sorts h under few room sorted stand there. tt })

gathered_more : (as_ : List Form) (depth : ℕ) (rest : List Form) (count : ℕ) (ps : List Proof) (p : Proof) (a : Form) → AreGathered as_ depth rest ps count → IsMember a depth rest count p
    → AreGathered (as_ ++ a ∷ []) depth rest (ps ++ p ∷ []) (count + length (parts_of a))
gathered_more as_ depth rest count ps p a all one =
    let own : flat_map parts_of (a ∷ []) ≡ parts_of a = append-nil (parts_of a) in
    let both : flat_map parts_of (as_ ++ a ∷ []) ≡ flat_map parts_of as_ ++ parts_of a = flat_map-append parts_of as_ (a ∷ []) ∙ ap (λ (xs : List Form). flat_map parts_of as_ ++ xs) own in
    let size : length (flat_map parts_of (as_ ++ a ∷ [])) ≡ length (flat_map parts_of as_) + length (parts_of a) = ap length both ∙ length-append (flat_map parts_of as_) (parts_of a) in
    record {
      counted = omega (arith, size, all.counted);
      shows = λ t whole sorts h under few room sorted stand there.
          let stand' : Stand whole 0 sorts (flat_map parts_of as_ ++ parts_of a) = subst (Stand whole 0 sorts) both stand in
          let there' : Stand rest 0 sorts (flat_map parts_of as_ ++ parts_of a) = subst (Stand rest 0 sorts) both there in
          let place : count ≡ 0 + length (flat_map parts_of as_) = omega (arith, all.counted) in
          prove_more t (around sorts []) (And whole ∷ h) ps as_ p a
          (all.shows t whole sorts h under few room (first_of_both (SortedTo few t.vocabulary (around sorts [])) as_ (a ∷ []) sorted) (stand_first whole 0 sorts (flat_map parts_of as_) (parts_of a) stand') (stand_first rest 0 sorts (flat_map parts_of as_) (parts_of a) there'))
          (one.shows t whole sorts h under few room (second_of_both (SortedTo few t.vocabulary (around sorts [])) as_ (a ∷ []) sorted).0 (stand_second whole 0 count sorts (flat_map parts_of as_) (parts_of a) place stand') (stand_second rest 0 count sorts (flat_map parts_of as_) (parts_of a) place there'));
    }

pub gathered_next : (forms : List Form) (i : ℕ) (a : Form) (depth : ℕ) (rest : List Form) (count more next : ℕ) (ps qs : List Proof) (p q : Proof) → i < length forms → a ≡ get_or forms i a → AreGathered (take i forms) depth rest ps count → IsMember a depth rest count p
    → more ≡ length (parts_of a) → next ≡ count + more → q ≡ p → qs ≡ ps ++ q ∷ [] → AreGathered (take (i + 1) forms) depth rest qs next
gathered_next forms i a depth rest count more next ps qs p q lt is all one size sum e f =
    let longer : take (i + 1) forms ≡ take i forms ++ a ∷ [] = take_more forms i a lt ∙ ap (λ (x : Form). take i forms ++ x ∷ []) (sym is) in
    let made : qs ≡ ps ++ p ∷ [] = f ∙ ap (λ (x : Proof). ps ++ x ∷ []) e in
    let counted : next ≡ count + length (parts_of a) = sum ∙ ap (λ (n : ℕ). count + n) size in
    subst (λ (xs : List Form). AreGathered xs depth rest qs next) (sym longer)
    (subst (λ (rs : List Proof). AreGathered (take i forms ++ a ∷ []) depth rest rs next) (sym made) (subst (AreGathered (take i forms ++ a ∷ []) depth rest (ps ++ p ∷ [])) (sym counted) (gathered_more (take i forms) depth rest count ps p a all one)))

pub gathered_last : (forms : List Form) (i depth : ℕ) (rest : List Form) (ps : List Proof) (count : ℕ) → length forms ≤ i → AreGathered (take i forms) depth rest ps count → AreGathered forms depth rest ps count
gathered_last forms i depth rest ps count le all = subst (λ (xs : List Form). AreGathered xs depth rest ps count) (take_all i forms le) all

-- the parts of the next of the formulas stand within those of all
pub next_within : (forms : List Form) (i : ℕ) (a : Form) (depth : ℕ) (rest : List Form) (ps : List Proof) (count : ℕ) → i < length forms → a ≡ get_or forms i a → AreGathered (take i forms) depth rest ps count → length (flat_map parts_of forms) ≤ length rest
    → count + length (parts_of a) ≤ length rest
next_within forms i a depth rest ps count lt is all le =
    let few = length-flat_map-take parts_of forms i a lt in
    let same : length (parts_of (get_or forms i a)) ≡ length (parts_of a) = ap (λ (x : Form). length (parts_of x)) (sym is) in
    omega (arith, few, same, all.counted)

pub and_within : (form : Form) (as_ lent rest : List Form) → form ≡ And as_ → lent ≡ as_ → length (parts_of form) ≤ length rest → length (flat_map parts_of lent) ≤ length rest
and_within form as_ lent rest is same le =
    let e : parts_of form ≡ flat_map parts_of lent = ap parts_of is ∙ parts_of-And as_ ∙ ap (flat_map parts_of) (sym same) in
    omega (arith, ap length e)

pub all_within : (form : Form) (s : ℕ) (body lent : Form) (rest : List Form) → form ≡ All s body → lent ≡ body → length (parts_of form) ≤ length rest → length (parts_of lent) ≤ length rest
all_within form s body lent rest is same le =
    let e : parts_of form ≡ map (All s) (parts_of lent) = ap parts_of is ∙ parts_of-All s body ∙ ap (λ (x : Form). map (All s) (parts_of x)) (sym same) in
    omega (arith, ap length e, length-map (parts_of lent) (All s))

pub part_all : (form : Form) (s : ℕ) (body lent : Form) → form ≡ All s body → lent ≡ body → parts_of lent ≡ lent ∷ [] → parts_of form ≡ form ∷ []
part_all form s body lent is same one =
    ap parts_of is ∙ parts_of-All s body ∙ ap (λ (x : Form). map (All s) (parts_of x)) (sym same) ∙ ap (map (All s)) one ∙ ap (λ (x : Form). All s x ∷ []) same ∙ ap (λ (x : Form). x ∷ []) (sym is)

-- The normal form, and the line.
each_shown : (t : Statements) (h : List Form) (ps : List Proof) (as_ : List Form) → ShowEach t h ps as_ → ProveAll t [] h ps as_
each_shown t h [] [] w = tt
each_shown t h [] (a ∷ as_) w = absurd w
each_shown t h (p ∷ ps) [] w = absurd w
each_shown t h (p ∷ ps) (a ∷ as_) w = (w.0, each_shown t h ps as_ w.1)

-- the closed formula by proofs of its parts
abbrev pub ByEach : Form → List Proof → Proof → Type 0
ByEach norm proofs made = (t : Statements) (h : List Form) → Sorted t.vocabulary [] norm → ShowEach t h proofs (parts_of norm) → Proves t [] h made norm

pub norm_by_each : (norm : Form) (members : List Form) (proofs : List Proof) (all part made : Proof) (count : ℕ) → norm_size_of norm ≤ 100000 → members ≡ parts_of norm → all ≡ AndI proofs → IsGathered norm 0 members part count → Cuts all (And members) part made → ByEach norm proofs made
norm_by_each norm members proofs all part made count small are e one cuts t h sorted each =
    let shown : ProveAll t [] h proofs members = subst (ProveAll t [] h proofs) (sym are) (each_shown t h proofs (parts_of norm) each) in
    let both : Proves t [] h (AndI proofs) (And members) = by_and_i t [] h proofs members sorted.scope_fits shown in
    let whole : Proves t [] h all (And members) = subst (λ (p : Proof). Proves t [] h p (And members)) (sym e) both in
    let few : SortedTo 100000 t.vocabulary [] norm = record { scope_fits = sorted.scope_fits; few_binders = omega (arith, small, depth_within_size norm); fits = sorted.fits } in
    let stand : Stand members 0 [] (parts_of norm) = λ i p at. let same : 0 + i ≡ i = omega arith in ap (slice_get members) same ∙ ap (λ (xs : List Form). slice_get xs i) are ∙ at in
    let own : take count members ≡ members = take_all count members (omega (arith, one.counted, ap length are)) in
    let closed : Sorted t.vocabulary [] (And (take count members)) = subst (λ (xs : List Form). Sorted t.vocabulary [] (And xs)) (sym own) (shown_sorted t [] h (AndI proofs) (And members) both) in
    cuts t [] h norm whole (subst (λ (xs : List Form). Proves t [] (And xs ∷ h) part norm) own (one.shows t [] h (record { closed = closed; many = refl }) 100000 (omega arith) few stand))

-- the implication of one formula by the other, in each context
abbrev pub Back : Form → Proof → Type 0
Back line back = (t : Statements) (v : List ℕ) (h : List Form) → length v ≤ 1000000000 → Sorted t.vocabulary v line → Proves t v h back (Imp (norm_of true line) line)

abbrev pub Applies : Proof → Proof → Proof → Type 0
Applies implication part made = (t : Statements) (v : List ℕ) (h : List Form) (a b : Form) → Proves t v h implication (Imp a b) → Proves t v h part a → Proves t v h made b

-- the line by its normal form
abbrev pub ByNorm : Form → Proof → Proof → Type 0
ByNorm line whole made = (t : Statements) (h : List Form) → Sorted t.vocabulary [] line → Proves t [] h whole (norm_of true line) → Proves t [] h made line

pub line_by_norm : (line : Form) (back whole made : Proof) → Back line back → Applies back whole made → ByNorm line whole made
line_by_norm line back whole made implies apply t h sorted shown = apply t [] h (norm_of true line) line (implies t [] h (omega arith) sorted) shown

pub line_by_each : (line norm : Form) (proofs : List Proof) (whole made : Proof) → norm ≡ norm_of true line → ByEach norm proofs whole → ByNorm line whole made
    → (t : Statements) (h : List Form) → Sorted t.vocabulary [] line → ShowEach t h proofs (parts_of (norm_of true line)) → Proves t [] h made line
line_by_each line norm proofs whole made is by from t h sorted each =
    let closed : Sorted t.vocabulary [] (norm_of true line) = record {
      scope_fits = sorted.scope_fits;
      few_binders = omega (arith, norm_depth line true, sorted.few_binders);
      fits = norm_fits t.vocabulary line true [] sorted.fits;
    } in
    let by_whole : ByEach (norm_of true line) proofs whole = subst (λ (x : Form). ByEach x proofs whole) is by in
    from t h sorted (by_whole t h closed each)
