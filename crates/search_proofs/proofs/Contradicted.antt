-- A clause whose literals have no variables, their opposites, and what is needed for these.
use Rattle.std.specs.Prelude.{ℕ, ◌≡◌, ◌⊎◌, ◌+◌, ◌<◌, ◌≤◌, Bool, true, not, List, [], ◌∷◌, ◌++◌, length, take, get_or, Option, Some, None, slice_get, slice_set, refl}
use Rattle.std.specs.List.{All as Each, AllZip, AllByRecursion}
use Rattle.std.proofs.Common.{ap, sym, subst, ◌∙◌, arith, inl, inr, zero, suc}
use Rattle.std.proofs.lemmas.List.{take_more}
use Rattle.std.proofs.lemmas.List.Elements.{All-from_recursion}
use Rattle.std.proofs.lemmas.Slice.Zip.{all_zipped_more}
use Rattle.std.proofs.lemmas.Option.{slice_get_within, slice_get-get_or}
use Rattle.fof_terms.specs.Sorts.{Sorted}
use Rattle.fof_terms.specs.Vocabulary.{Vocabulary}
use Rattle.fof_terms.specs.declared.form.Form.{Form}
use Rattle.fof_terms.specs.declared.term.Term.{Term}
use Rattle.clause_form.specs.declared.clause.AtomOf.{AtomOf}
use Rattle.clause_form.specs.declared.clause.AtomOf.TheVariants.{Pred}
use Rattle.clause_form.specs.declared.clause.Clause.{Clause}
use Rattle.clause_form.specs.declared.clause.Lit.{Lit}
use Rattle.clause_form.specs.Covers.{AreComplementary, negated, turned, turned_atom}
use Rattle.clause_form.specs.Paths.{is_plain}
use Rattle.clause_proofs.specs.Bodies.{body_of}
use Rattle.saturation.specs.declared.member.Member.{Member}
use Rattle.search_proofs.specs.Needed.{IsMarked}
use Rattle.search_proofs.specs.code.Contradictions.{AreNeededFor, Contradicts, ContradictsIn, IsAlone, IsClosed, IsListed, IsOpposite, IsPlainly, NamedBy, Suffice}
use Rattle.search_proofs.specs.code.Ended.{IsSound}
use Rattle.search_proofs.specs.code.Marks.{IsSweptFrom, IsUnmarked, MarksAll, NameMarked}
use Rattle.search_proofs.specs.declared.contradicting.Contradiction.{Contradiction}
use Rattle.search_proofs.proofs.Passing.{member_there}
use Rattle.search_proofs.proofs.Sweeping.{set_count, set_here, set_keeps}

-- Lists.
pub one_long : {X : Type 0} (xs : List X) (x : X) → length xs ≡ 1 → x ≡ get_or xs 0 x → xs ≡ x ∷ []
one_long [] x e is = absurd (omega arith)
one_long (y ∷ []) x e is = ap (λ z. z ∷ []) (sym is)
one_long (y ∷ z ∷ xs) x e is = absurd (omega arith)

pub whole_front : {X : Type 0} (xs : List X) (n : ℕ) → length xs ≤ n → take n xs ≡ xs
whole_front [] zero le = refl
whole_front [] (suc n) le = refl
whole_front (x ∷ xs) zero le = absurd (omega arith)
whole_front (x ∷ xs) (suc n) le = ap (λ ys. x ∷ ys) (whole_front xs n (omega arith))

pub zip_long : {X Y : Type 0} (R : X → Y → Type 0) (xs : List X) (ys : List Y) → AllZip R xs ys → length ys ≡ length xs
zip_long R [] [] all = refl
zip_long R [] (y ∷ ys) all = absurd all
zip_long R (x ∷ xs) [] all = absurd all
zip_long R (x ∷ xs) (y ∷ ys) all = ap suc (zip_long R xs ys all.1)

-- each number of the list has a literal of which its member is the opposite
listed_there : (members : List Member) (lits : List Lit) (places : List ℕ) (k i : ℕ) → AllZip (IsOpposite members) lits places → slice_get places k ≡ Some i → i < length members
listed_there members [] [] k i all at = cc
listed_there members [] (p ∷ places) k i all at = absurd all
listed_there members (l ∷ lits) [] k i all at = absurd all
listed_there members (l ∷ lits) (p ∷ places) zero i all at = let same : p ≡ i = cc in let here = slice_get_within members p all.0.member all.0.there in subst (λ n. n < length members) same here
listed_there members (l ∷ lits) (p ∷ places) (suc k) i all at = listed_there members lits places k i all.1 at

pub clause_within : (members : List Member) (c : Contradiction) → Contradicts members c → c.clause < length members
clause_within members c h = slice_get_within members c.clause h.member h.there

pub listed_within : (members : List Member) (c : Contradiction) → Contradicts members c → (i : ℕ) → IsListed c.opposites i → i < length members
listed_within members c h i at = listed_there members h.member.clause.lits c.opposites at.0 i h.opposed at.1

-- What is found.
pub found_opposite : (members : List Member) (at : ℕ) (m : Member) (l : Lit) → at < length members → m ≡ get_or members at m → IsAlone (negated l) m.clause.lits → IsOpposite members l at
found_opposite members at m l lt is unit = record { member = m; there = member_there members at m lt is; unit = unit }

-- relations of two lists, of which the one is walked
pub zip_more : {X Y : Type 0} (R : X → Y → Type 0) (xs : List X) (k : ℕ) (x : X) (ys new : List Y) (y : Y) → k < length xs → x ≡ get_or xs k x → AllZip R (take k xs) ys → R x y → new ≡ ys ++ y ∷ [] → AllZip R (take (k + 1) xs) new
zip_more R xs k x ys new y lt is all own new_is =
    let longer = ap (λ d. take k xs ++ d ∷ []) is ∙ sym (take_more xs k x lt) in
    subst (AllZip R (take (k + 1) xs)) (sym new_is) (subst (λ zs. AllZip R zs (ys ++ y ∷ [])) longer (all_zipped_more R (take k xs) ys x y all own))

pub zip_done : {X Y : Type 0} (R : X → Y → Type 0) (xs : List X) (k : ℕ) (ys : List Y) → length xs ≤ k → AllZip R (take k xs) ys → AllZip R xs ys
zip_done R xs k ys le all = subst (λ zs. AllZip R zs ys) (whole_front xs k le) all

pub denied_predicate : (k l : Lit) (q : ℕ) (ts : List Term) → k.atom ≡ Pred q ts → AreComplementary k l → IsPlainly (negated k) l
denied_predicate k l q ts is (inl e) = record { same = sym e; plain = ap is_plain is }
denied_predicate k l q ts is (inr e) =
    let unturned : turned (negated k) ≡ negated k = ap (λ (a : AtomOf). record { positive = not k.positive; atom = a }) (ap turned_atom is ∙ sym is) in
    record { same = sym e ∙ unturned; plain = ap is_plain is }

pub alone_of : (lits : List Lit) (l k : Lit) → length lits ≡ 1 → l ≡ get_or lits 0 l → IsPlainly k l → IsAlone k lits
alone_of lits l k one is h = record { same = one_long lits l one is ∙ ap (λ (x : Lit). x ∷ []) h.same; plain = h.plain }

pub closed_longer : (v : Vocabulary) (lits lent : List Lit) (body : Form) (most : ℕ) → lent ≡ lits → body ≡ body_of true lent → most < length lent → Sorted v [] body → IsClosed v lits × (most < length lits)
closed_longer v lits lent body most lent_is body_is lt sorted = (
  subst (Sorted v []) (body_is ∙ ap (body_of true) lent_is) sorted,
  subst (λ (ls : List Lit). most < length ls) lent_is lt,
)

-- Marks of all that a contradiction needs.
pub marked_none : (places : List ℕ) (marks : List Bool) → MarksAll (take 0 places) marks marks
marked_none places marks = record { count = refl; kept = λ i m. m; marked = λ k i at. absurd (nowhere k i at) } where
  nowhere : (k i : ℕ) → slice_get (take 0 places) k ≡ Some i → ⊥
  nowhere k i at = cc

pub place_fits : (places : List ℕ) (k i : ℕ) (old marks : List Bool) → k < length places → i ≡ get_or places k 0 → ((j : ℕ) → IsListed places j → j < length old) → MarksAll (take k places) old marks → i < length marks
place_fits places k i old marks lt is fits so = let within = fits i (k, slice_get-get_or places k 0 lt ∙ ap Some (sym is)) in omega (arith, so.count)

pub marked_more : (places : List ℕ) (k i : ℕ) (old marks new : List Bool) → k < length places → i ≡ get_or places k 0 → i < length marks → MarksAll (take k places) old marks → new ≡ slice_set marks i true → MarksAll (take (k + 1) places) old new
marked_more places k i old marks new lt is within so e =
    let longer : take k places ++ i ∷ [] ≡ take (k + 1) places = ap (λ d. take k places ++ d ∷ []) is ∙ sym (take_more places k 0 lt) in
    subst (λ (ms : List Bool). MarksAll (take (k + 1) places) old ms) (sym e) (subst (λ (ps : List ℕ). MarksAll ps old (slice_set marks i true)) longer (record {
      count = set_count marks i ∙ so.count;
      kept = λ j m. set_keeps marks i j (so.kept j m);
      marked = λ n j at. elim (split (take k places) n j at) [
        | inl before ↦ set_keeps marks i j (so.marked n j before)
        | inr same ↦ subst (λ x. IsMarked (slice_set marks i true) x) same (set_here marks i within)
      ];
    })) where
      split : (ps : List ℕ) (n j : ℕ) → slice_get (ps ++ i ∷ []) n ≡ Some j → (slice_get ps n ≡ Some j) ⊎ (i ≡ j)
      split [] zero j at = inr cc
      split [] (suc n) j at = cc
      split (p ∷ ps) zero j at = inl at
      split (p ∷ ps) (suc n) j at = split ps n j at

pub marked_done : (places : List ℕ) (k : ℕ) (old new : List Bool) → length places ≤ k → MarksAll (take k places) old new → MarksAll places old new
marked_done places k old new le so = subst (λ (ps : List ℕ). MarksAll ps old new) (whole_front places k le) so

pub needed_for : (members : List Member) (c : Contradiction) (lent : List ℕ) (none first all marks : List Bool) → Contradicts members c → lent ≡ c.opposites → IsUnmarked (length members) none → first ≡ slice_set none c.clause true → MarksAll lent first all
    → IsSweptFrom members all marks → AreNeededFor members c marks
needed_for members c lent none first all marks h lent_is u first_is m s = record {
  count = s.count ∙ (m.count ∙ (ap (λ (bs : List Bool). length bs) first_is ∙ (set_count none c.clause ∙ u.count)));
  named = λ i names. s.kept i (mark i names);
  of_each = s.of_each;
} where
  within : c.clause < length none
  within = let lt = clause_within members c h in omega (arith, u.count)

  own : IsMarked first c.clause
  own = subst (λ (bs : List Bool). IsMarked bs c.clause) (sym first_is) (set_here none c.clause within)

  mark : (i : ℕ) → NamedBy c i → IsMarked all i
  mark i (inl e) = m.kept i (subst (IsMarked first) (sym e) own)
  mark i (inr at) = m.marked at.0 i (ap (λ (ps : List ℕ). slice_get ps at.0) lent_is ∙ at.1)

module _ (v : Vocabulary) (members : List Member) (last : Member) where
  pub enough_count : (found : Option Contradiction) (marks : List Bool) → Suffice v members last found marks → length marks ≡ length members
  enough_count None marks h = h.count
  enough_count (Some c) marks h = h.1.count

  pub enough_names : (found : Option Contradiction) (marks : List Bool) → Suffice v members last found marks → NameMarked members marks
  enough_names None marks h = h.of_each
  enough_names (Some c) marks h = h.1.of_each

  pub enough_sound : (found : Option Contradiction) (marks : List Bool) → Suffice v members last found marks → IsSound members found
  enough_sound None marks h = tt
  enough_sound (Some c) marks h = h.0.found

-- what the calls need
pub places_long : (members : List Member) (c : Contradiction) (h : Contradicts members c) (clause : Clause) (lits : List Lit) (places : List ℕ) → ((m : Member) → slice_get members c.clause ≡ Some m → clause ≡ m.clause) → lits ≡ clause.lits → places ≡ c.opposites → length places ≡ length lits
places_long members c h clause lits places clause_is lits_is places_are =
    ap (λ (ps : List ℕ). length ps) places_are ∙ (zip_long (IsOpposite members) h.member.clause.lits c.opposites h.opposed ∙ ap (λ (ls : List Lit). length ls) (sym (lits_is ∙ ap (λ (x : Clause). x.lits) (clause_is h.member h.there))))

pub places_within : (members : List Member) (c : Contradiction) (h : Contradicts members c) (count : ℕ) (places : List ℕ) → count ≡ length members → places ≡ c.opposites → Each (λ i. i < count) places
places_within members c h count places size are = subst (Each (λ i. i < count)) (sym are) (All-from_recursion (λ i. i < count) c.opposites (some c.opposites (λ k i at. let lt = listed_within members c h i (k, at) in omega arith))) where
  some : (ps : List ℕ) → ((k i : ℕ) → slice_get ps k ≡ Some i → i < count) → AllByRecursion (λ i. i < count) ps
  some [] f = tt
  some (p ∷ ps) f = (f 0 p refl, some ps (λ k i at. f (suc k) i at))

pub lits_opposed : (members : List Member) (c : Contradiction) (h : Contradicts members c) (clause : Clause) (lits : List Lit) (places : List ℕ) → ((m : Member) → slice_get members c.clause ≡ Some m → clause ≡ m.clause) → lits ≡ clause.lits → places ≡ c.opposites → AllZip (IsOpposite members) lits places
lits_opposed members c h clause lits places clause_is lits_is places_are =
    subst (λ (ls : List Lit). AllZip (IsOpposite members) ls places) (sym (lits_is ∙ ap (λ (x : Clause). x.lits) (clause_is h.member h.there))) (subst (AllZip (IsOpposite members) h.member.clause.lits) (sym places_are) h.opposed)

pub long_contradiction : (v : Vocabulary) (members : List Member) (at : ℕ) (m : Member) (lits : List Lit) (places : List ℕ) → at < length members → m ≡ get_or members at m → IsClosed v m.clause.lits × (2 < length m.clause.lits) → lits ≡ m.clause.lits → AllZip (IsOpposite members) lits places
    → ContradictsIn v members (record { clause = at; opposites = places })
long_contradiction v members at m lits places lt is long lits_is all = record {
  found = record {
    member = m;
    there = member_there members at m lt is;
    long = let more = long.1 in omega arith;
    opposed = subst (λ (ls : List Lit). AllZip (IsOpposite members) ls places) lits_is all;
  };
  closed = long.0;
}
