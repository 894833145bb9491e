-- Members of a conjunction by what is shared, as code meets them.
use Rattle.std.specs.Prelude.{ℕ, ◌≡◌, ◌+◌, ◌-◌, ◌<◌, ◌≤◌, ◌^◌, true, List, [], ◌∷◌, ◌++◌, length, take, get_or, Option, Some, None, IfSome, slice_get, refl}
use Rattle.std.specs.List.{AllByRecursion}
use Rattle.std.proofs.Common.{ap, sym, subst, ◌∙◌, arith}
use Rattle.std.proofs.lemmas.List.{take_all, take_more}
use Rattle.fof_terms.specs.declared.form.Form.{Form, And, All, Imp}
use Rattle.fof_terms.specs.Lift.{lifted, lift_reach}
use Rattle.fof_terms.specs.Sorts.{IsScope, Sorted, SortedTo, binder_depth}
use Rattle.fof_terms.specs.Vocabulary.{Vocabulary}
use Rattle.fof_terms.proofs.Moved.{closed_anywhere}
use Rattle.fof_terms.proofs.Scoped.{member_of, and_sorted, sorted_of_all, sorted_of_and}
use Rattle.fof_terms.proofs.SortsFacts.{binder_depth-All}
use Rattle.clause_form.specs.declared.path.Parent.{Parent}
use Rattle.clause_form.specs.Norm.{norm_of, HasNorm}
use Rattle.clause_form.specs.Sizes.{norm_size_of}
use Rattle.kernel.specs.Statements.{Statements}
use Rattle.kernel.specs.Proves.{Proves, over, all_over}
use Rattle.kernel.specs.code.Rules.{ProveAll}
use Rattle.kernel.specs.declared.proof.Proof.{Proof, Line, Hyp, AndI, AndE, AllI}
use Rattle.kernel.proofs.Building.{by_hyp, by_line, by_and_i, by_and_e, by_all_i, over_sorted}
use Rattle.derive_kit.specs.Derived.{AreOfTheory}
use Rattle.clause_rules.specs.Steps.{AreReady, IsReady}
use Rattle.clause_rules.proofs.Firsts.{there_at}
use Rattle.clause_proofs.specs.Refuting.{theory_of}
use Rattle.clause_proofs.specs.Shown.{ShowsLine}
use Rattle.clause_proofs.proofs.ReadyParents.{full, of_theory, parent_ready}
use Rattle.cover_proofs.proofs.CoverLines.{norm_shown, parent_shown}
use Rattle.cover_proofs.proofs.NormLines.{Applies, Forth}
use Rattle.norm_parts.specs.code.Instances.{IsNext, Reaches}
use Rattle.norm_parts.specs.code.Together.{IsSource, ShowsHere, ShowsUnder, ShowMembers, ShowsFrom}
use Rattle.norm_parts.specs.declared.instances.Shown.{Shown}

-- what the proof shows where the other two show their parts of it
abbrev pub CutsAt : Proof → Form → Proof → Proof → Type 0
CutsAt lemma fact rest made = (t : Statements) (v : List ℕ) (h : List Form) (a : Form) → Proves t v h lemma fact → Proves t v (fact ∷ h) rest a → Proves t v h made a

-- what holds of what was found
pub some_map : {X : Type 0} {P Q : X → Type 0} (found : Option X) → ((x : X) → P x → Q x) → IfSome found P → IfSome found Q
some_map None f h = tt
some_map (Some x) f h = f x h

-- Under one quantifier more.
module _ (w : Vocabulary) (v : List ℕ) (form : Form) (s : ℕ) (b lent : Form) (is : form ≡ All s b) (same : lent ≡ b) where
  deeper : binder_depth form ≡ binder_depth lent + 1
  deeper = ap binder_depth is ∙ binder_depth-All s b ∙ ap (λ (a : Form). binder_depth a + 1) (sym same)

  pub inner_room : length v + binder_depth form ≤ 1000000000 → length (s ∷ v) + binder_depth lent ≤ 1000000000
  inner_room room = omega (arith, deeper)

  pub inner_sorted : length v + binder_depth form ≤ 1000000000 → Sorted w v form → Sorted w (s ∷ v) lent
  inner_sorted room r = subst (Sorted w (s ∷ v)) (sym same) (sorted_of_all w v 2147483647 2147483647 s b (omega arith) (omega arith) (subst (Sorted w v) is r))

  whole_sorted : Sorted w v form → Sorted w v (All s lent)
  whole_sorted r = subst (λ (a : Form). Sorted w v (All s a)) (sym same) (subst (Sorted w v) is r)

  whole_is : All s lent ≡ form
  whole_is = ap (All s) same ∙ sym is

  pub here_all : (parents : List Parent) (p made : Proof) → Sorted w v form → made ≡ AllI s p → ShowsHere w parents (s ∷ v) lent p → ShowsHere w parents v form made
  here_all parents p made r e shows = λ formulas h all.
      let t = theory_of w formulas in
      let by : Proves t v h (AllI s p) (All s lent) = by_all_i t v h s lent p (whole_sorted r) (shows formulas (all_over h) all) in
      subst (λ (a : Form). Proves t v h made a) whole_is (subst (λ (q : Proof). Proves t v h q (All s lent)) (sym e) by)

  pub from_all : (shared moved : Form) (p made : Proof) → Sorted w v form → moved ≡ over shared → made ≡ AllI s p → ShowsFrom w (s ∷ v) moved lent p → ShowsFrom w v shared form made
  from_all shared moved p made r up e shows = λ formulas h.
      let t = theory_of w formulas in
      let under : Proves t (s ∷ v) (over shared ∷ all_over h) p lent = subst (λ (a : Form). Proves t (s ∷ v) (a ∷ all_over h) p lent) up (shows formulas (all_over h)) in
      let by : Proves t v (shared ∷ h) (AllI s p) (All s lent) = by_all_i t v (shared ∷ h) s lent p (whole_sorted r) under in
      subst (λ (a : Form). Proves t v (shared ∷ h) made a) whole_is (subst (λ (q : Proof). Proves t v (shared ∷ h) q (All s lent)) (sym e) by)

  pub moved_sorted : (shared moved : Form) → length v + binder_depth form ≤ 1000000000 → Sorted w v form → Sorted w v shared → moved ≡ over shared → Sorted w (s ∷ v) moved
  moved_sorted shared moved room r rs up = subst (Sorted w (s ∷ v)) (sym up) (over_sorted (theory_of w []) v s shared (inner_sorted room r).scope_fits rs)

-- The parent that is opened.
pub source_from : (w : Vocabulary) (parents : List Parent) (k : ℕ) (parent : Parent) (norm : Form) (line forth made : Proof) (shown : Shown) → AreReady w parents → k < length parents → parent ≡ get_or parents k parent → HasNorm parent.form norm → line ≡ Line parent.number
    → Forth parent.form forth → Applies forth line made → shown.form ≡ norm → shown.part ≡ made → IsSource w parents shown
source_from w parents k parent norm line forth made shown ready lt is has own f apply form part =
    let there = there_at parents k parent lt is in
    let here : IsReady w parent.form = parent_ready w parents k parent ready there in
    let fact = norm_shown 1000000000 w parent parent.form line forth made (omega arith) (full w parent.form here) f apply (parent_shown 1000000000 w parent line own here) in
    let same : norm_of true parent.form ≡ shown.form = has.same ∙ sym form in
    record {
      sorted = subst (Sorted w []) same fact.sorted;
      shows = λ formulas all v h sc few.
          let t = theory_of w formulas in
          subst (λ (a : Form). Proves t v h shown.part a) same
          (subst (λ (q : Proof). Proves t v h q (norm_of true parent.form)) (sym part) (fact.shows formulas (of_theory t parents k parent all there) v h sc few));
    }

pub source_anywhere : (w : Vocabulary) (parents : List Parent) (v : List ℕ) (shown : Shown) → IsScope w v → IsSource w parents shown → Sorted w v shown.form
source_anywhere w parents v shown sc source = closed_anywhere w v 2147483647 shown.form sc source.sorted

-- what the parent says at the variables in reach, and the conjunction by it
pub here_by_shared : (w : Vocabulary) (parents : List Parent) (v : List ℕ) (source shared : Shown) (goal : Form) (made : Proof) → IsScope w v → length v ≤ 1000000000 → IsSource w parents source → IsNext w v source shared
    → ((formulas h : List Form) → AreOfTheory (theory_of w formulas) parents → Proves (theory_of w formulas) v h shared.part shared.form → Proves (theory_of w formulas) v h made goal) → ShowsHere w parents v goal made
here_by_shared w parents v source shared goal made sc few from next by = λ formulas h all. by formulas h all (next.leads formulas h (from.shows formulas all v h sc few))

-- Several members.
members_append : (w : Vocabulary) (parents : List Parent) (v : List ℕ) (shared : Form) (as_ : List Form) (ps : List Proof) (a : Form) (p : Proof) → ShowMembers w parents v shared as_ ps → ShowsUnder w parents v shared a p
    → ShowMembers w parents v shared (as_ ++ a ∷ []) (ps ++ p ∷ [])
members_append w parents v shared [] [] a p h one = (one, tt)
members_append w parents v shared [] (q ∷ ps) a p h one = absurd h
members_append w parents v shared (b ∷ as_) [] a p h one = absurd h
members_append w parents v shared (b ∷ as_) (q ∷ ps) a p h one = (h.0, members_append w parents v shared as_ ps a p h.1 one)

pub members_next : (w : Vocabulary) (parents : List Parent) (v : List ℕ) (shared : Form) (members : List Form) (i : ℕ) (a : Form) (ps more : List Proof) (p q : Proof) → i < length members → a ≡ get_or members i a → ShowMembers w parents v shared (take i members) ps
    → ShowsUnder w parents v shared a p → q ≡ p → more ≡ ps ++ q ∷ [] → ShowMembers w parents v shared (take (i + 1) members) more
members_next w parents v shared members i a ps more p q lt is h one same e =
    let longer : take (i + 1) members ≡ take i members ++ a ∷ [] = take_more members i a lt ∙ ap (λ (x : Form). take i members ++ x ∷ []) (sym is) in
    let made : more ≡ ps ++ p ∷ [] = e ∙ ap (λ (x : Proof). ps ++ x ∷ []) same in
    subst (λ (xs : List Form). ShowMembers w parents v shared xs more) (sym longer) (subst (ShowMembers w parents v shared (take i members ++ a ∷ [])) (sym made) (members_append w parents v shared (take i members) ps a p h one))

pub members_last : (w : Vocabulary) (parents : List Parent) (v : List ℕ) (shared : Form) (members : List Form) (i : ℕ) (ps : List Proof) → length members ≤ i → ShowMembers w parents v shared (take i members) ps → ShowMembers w parents v shared members ps
members_last w parents v shared members i ps le h = subst (λ (xs : List Form). ShowMembers w parents v shared xs ps) (take_all i members le) h

members_prove : (w : Vocabulary) (parents : List Parent) (v : List ℕ) (shared : Form) (as_ : List Form) (ps : List Proof) (formulas h : List Form) → AreOfTheory (theory_of w formulas) parents → ShowMembers w parents v shared as_ ps
    → ProveAll (theory_of w formulas) v (shared ∷ h) ps as_
members_prove w parents v shared [] [] formulas h all each = tt
members_prove w parents v shared [] (p ∷ ps) formulas h all each = absurd each
members_prove w parents v shared (a ∷ as_) [] formulas h all each = absurd each
members_prove w parents v shared (a ∷ as_) (p ∷ ps) formulas h all each = (each.0 formulas h all, members_prove w parents v shared as_ ps formulas h all each.1)

pub shared_cut : (w : Vocabulary) (parents : List Parent) (v : List ℕ) (shared : Shown) (form fact : Form) (members : List Form) (proofs : List Proof) (part all made : Proof) → IsScope w v → form ≡ shared.form → fact ≡ shared.form → part ≡ shared.part → all ≡ AndI proofs
    → ShowMembers w parents v form members proofs → CutsAt part fact all made
    → (formulas h : List Form) → AreOfTheory (theory_of w formulas) parents → Proves (theory_of w formulas) v h shared.part shared.form → Proves (theory_of w formulas) v h made (And members)
shared_cut w parents v shared form fact members proofs part all made sc own copy from e each cuts formulas h known shows =
    let t = theory_of w formulas in
    let rest : ProveAll t v (shared.form ∷ h) proofs members = members_prove w parents v shared.form members proofs formulas h known (subst (λ (a : Form). ShowMembers w parents v a members proofs) own each) in
    let under : Proves t v (shared.form ∷ h) all (And members) = subst (λ (q : Proof). Proves t v (shared.form ∷ h) q (And members)) (sym e) (by_and_i t v (shared.form ∷ h) proofs members sc rest) in
    let whole : Proves t v h part shared.form = subst (λ (q : Proof). Proves t v h q shared.form) (sym from) shows in
    cuts t v h (And members) (subst (λ (a : Form). Proves t v h part a) (sym copy) whole) (subst (λ (a : Form). Proves t v (a ∷ h) all (And members)) (sym copy) under)

pub members_sorted : (w : Vocabulary) (v : List ℕ) (members : List Form) → Sorted w v (And members) → AllByRecursion (Sorted w v) members
members_sorted w v members r = sorted_of_and w v 2147483647 members r

pub member_room : (w : Vocabulary) (v : List ℕ) (members : List Form) (i : ℕ) (a : Form) → i < length members → a ≡ get_or members i a → AllByRecursion (Sorted w v) members → binder_depth a ≤ binder_depth (And members)
member_room w v members i a lt is all =
    let at = there_at members i a lt is in
    let one = member_of (Sorted w v) members i a all at in
    let most = binder_depth (And members) in
    let whole = and_sorted w v 2147483647 one.scope_fits members all in
    let exact : SortedTo most w v (And members) = record { scope_fits = whole.scope_fits; few_binders = omega arith; fits = whole.fits } in
    (member_of (SortedTo most w v) members i a (sorted_of_and w v most members exact) at).few_binders

-- One member.
pub by_one : (w : Vocabulary) (parents : List Parent) (v : List ℕ) (shared : Form) (ms lent : List Form) (k : ℕ) (m form fact member : Form) (own rest made first : Proof) → Sorted w v shared → shared ≡ And ms → lent ≡ ms → slice_get lent k ≡ Some m → form ≡ m → fact ≡ m → first ≡ Hyp 0
    → own ≡ AndE k first → ShowsFrom w v form member rest → CutsAt own fact rest made → ShowsUnder w parents v shared member made
by_one w parents v shared ms lent k m form fact member own rest made first r is same at copy again zeroth e from cuts = λ formulas h all.
    let t = theory_of w formulas in
    let hs = shared ∷ h in
    let there : slice_get ms k ≡ Some m = ap (λ (xs : List Form). slice_get xs k) (sym same) ∙ at in
    let whole : Proves t v hs (Hyp 0) (And ms) = subst (λ (a : Form). Proves t v hs (Hyp 0) a) is (by_hyp t v hs 0 shared r refl) in
    let one : Proves t v hs (AndE k (Hyp 0)) m = by_and_e t v hs k (Hyp 0) ms m there whole in
    let own_shows : Proves t v hs own m = subst (λ (q : Proof). Proves t v hs q m) (sym (e ∙ ap (AndE k) zeroth)) one in
    let under : Proves t v (m ∷ hs) rest member = subst (λ (a : Form). Proves t v (a ∷ hs) rest member) copy (from formulas hs) in
    cuts t v hs member (subst (λ (a : Form). Proves t v hs own a) (sym again) own_shows) (subst (λ (a : Form). Proves t v (a ∷ hs) rest member) (sym again) under)

pub one_sorted : (w : Vocabulary) (v : List ℕ) (shared : Form) (ms lent : List Form) (k : ℕ) (m form : Form) → Sorted w v shared → shared ≡ And ms → lent ≡ ms → slice_get lent k ≡ Some m → form ≡ m → Sorted w v form
one_sorted w v shared ms lent k m form r is same at copy =
    subst (Sorted w v) (sym copy) (member_of (Sorted w v) ms k m (sorted_of_and w v 2147483647 ms (subst (Sorted w v) is r)) (ap (λ (xs : List Form). slice_get xs k) (sym same) ∙ at))

-- by the formula as hypothesis 0
pub from_literals : (w : Vocabulary) (v : List ℕ) (form goal : Form) (shown made : Shown) (p : Proof) → Sorted w v goal → Sorted w v form → shown.form ≡ form → shown.part ≡ Hyp 0 → IsNext w v shown made → Reaches made goal p → ShowsFrom w v form goal p
from_literals w v form goal shown made p sg sf own first next reaches = λ formulas h.
    let t = theory_of w formulas in
    let hs = form ∷ h in
    let start : Proves t v hs shown.part shown.form =
    subst (λ (a : Form). Proves t v hs shown.part a) (sym own) (subst (λ (q : Proof). Proves t v hs q form) (sym first) (by_hyp t v hs 0 form sf refl)) in
    reaches t v hs sg (next.leads formulas hs start)

-- by another parent
pub under_other : (w : Vocabulary) (parents : List Parent) (v : List ℕ) (shared member : Form) (k : ℕ) (parent : Parent) (shown made : Shown) (p : Proof) → AreReady w parents → k < length parents → parent ≡ get_or parents k parent → Sorted w v member → shown.form ≡ parent.form
    → shown.part ≡ Line parent.number → IsNext w v shown made → Reaches made member p → ShowsUnder w parents v shared member p
under_other w parents v shared member k parent shown made p ready lt is sg own line next reaches = λ formulas h all.
    let t = theory_of w formulas in
    let hs = shared ∷ h in
    let there = there_at parents k parent lt is in
    let here = closed_anywhere w v 2147483647 parent.form sg.scope_fits (full w parent.form (parent_ready w parents k parent ready there)) in
    let by : Proves t v hs (Line parent.number) parent.form = by_line t v hs parent.number parent.form here (of_theory t parents k parent all there) in
    let start : Proves t v hs shown.part shown.form = subst (λ (a : Form). Proves t v hs shown.part a) (sym own) (subst (λ (q : Proof). Proves t v hs q parent.form) (sym line) by) in
    reaches t v hs sg (next.leads formulas hs start)

pub other_sorted : (w : Vocabulary) (parents : List Parent) (v : List ℕ) (k : ℕ) (parent : Parent) (form : Form) → AreReady w parents → k < length parents → parent ≡ get_or parents k parent → IsScope w v → form ≡ parent.form → Sorted w v form
other_sorted w parents v k parent form ready lt is sc own =
    subst (Sorted w v) (sym own) (closed_anywhere w v 2147483647 parent.form sc (full w parent.form (parent_ready w parents k parent ready (there_at parents k parent lt is))))

-- the whole line
pub line_here : (w : Vocabulary) (parents : List Parent) (norm : Form) (v : List ℕ) (p : Proof) → v ≡ [] → ShowsHere w parents v norm p → ShowsLine w parents norm p
line_here w parents norm v p none shows = λ formulas all. subst (λ (ss : List ℕ). Proves (theory_of w formulas) ss [] p norm) none (shows formulas [] all)

pub line_found : (w : Vocabulary) (parents : List Parent) (norm : Form) (v : List ℕ) (found : Option Proof) → v ≡ [] → IfSome found (ShowsHere w parents v norm) → IfSome found (ShowsLine w parents norm)
line_found w parents norm v None none shows = tt
line_found w parents norm v (Some p) none shows = line_here w parents norm v p none shows
