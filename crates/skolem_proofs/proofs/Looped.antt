-- The formulas of a node, one after another, as code meets them.
use Rattle.std.specs.Prelude.{ℕ, ◌≡◌, ◌+◌, ◌<◌, ◌≤◌, ◌^◌, Bool, true, List, [], ◌∷◌, ◌++◌, length, map, sum, take, drop, get_or, Some, slice_get, refl}
use Rattle.std.specs.List.{remove}
use Rattle.std.proofs.Common.{ap, sym, subst, ◌∙◌, arith, append_assoc, zero, suc, add-one}
use Rattle.std.proofs.lemmas.List.{append-nil, length-append}
use Rattle.fof_terms.specs.declared.form.Form.{Form}
use Rattle.fof_terms.specs.Vocabulary.{Vocabulary}
use Rattle.clause_form.specs.Sizes.{norm_size_of}
use Rattle.kernel.specs.declared.entry.Entry.{Entry}
use Rattle.kernel.specs.declared.proof.Proof.{Proof, OrI}
use Rattle.skolem_fresh.specs.declared.just.Use.{Use}
use Rattle.skolem_fresh.specs.Choosing.{IsWithin}
use Rattle.skolem_fresh.specs.SkolemRule.{IsSkolemized, AreSkolemized}
use Rattle.skolem_fresh.proofs.WalkCode.{taken_snoc, one_size, each_at}
use Rattle.skolem_fresh.proofs.Walking.{first_of}
use Rattle.skolem_proofs.specs.code.Witnessed.{arm, arms, cases, IsWitnessed, AreWitnessed, none, more}
use Rattle.skolem_proofs.specs.code.Witnessing.{Goes, MayGo, Went, AllGo, MayAllGo, WentSoFar}
use Rattle.clause_form.proofs.SizesFacts.{norm_size_of-And}
use Rattle.norm_proofs.proofs.NormsFacts.{few_members}
use Rattle.skolem_proofs.proofs.Walked.{proofs_length, each_arm}

-- One formula after another.
pub arms_more : (conj : Bool) (ps : List Proof) (p : Proof) (k : ℕ) → arms conj k (ps ++ p ∷ []) ≡ arms conj k ps ++ arm conj (k + length ps) p ∷ []
arms_more conj [] p k = let same : k ≡ k + 0 = omega arith in ap (λ j. arm conj j p ∷ []) same
arms_more conj (q ∷ ps) p k =
    let same : k + 1 + length ps ≡ k + suc (length ps) = omega arith in
    ap (λ rest. arm conj k q ∷ rest) (arms_more conj ps p (k + 1) ∙ ap (λ j. arms conj (k + 1) ps ++ arm conj j p ∷ []) same)

one_more : (v : Vocabulary) (scope : List ℕ) (n m : ℕ) (us ws : List Use) (as_ bs : List Form) (c d : Form) (told others : List Entry) (ps : List Proof) (p : Proof) → AreWitnessed v scope n us as_ bs told ps → m ≡ n + length told
    → IsWitnessed v scope m ws c d others p → AreWitnessed v scope n (us ++ ws) (as_ ++ c ∷ []) (bs ++ d ∷ []) (told ++ others) (ps ++ p ∷ [])
one_more v scope n m us ws as_ bs c d told others ps p (none sc k) em h =
    let same : m ≡ k = em ∙ (let none : k + 0 ≡ k = omega arith in none) in
    let here : IsWitnessed v sc k ws c d others p = subst (λ j. IsWitnessed v sc j ws c d others p) same h in
    let alone : AreWitnessed v sc k (ws ++ []) (c ∷ []) (d ∷ []) (others ++ []) (p ∷ []) = more sc k ws [] c d [] [] others [] p [] here (none sc (k + length others)) in
    subst (λ us. AreWitnessed v sc k us (c ∷ []) (d ∷ []) others (p ∷ [])) (append-nil ws) (subst (λ es. AreWitnessed v sc k (ws ++ []) (c ∷ []) (d ∷ []) es (p ∷ [])) (append-nil others) alone)
one_more v scope n m us ws as_ bs c d told others ps p (more sc k first rest a b cs ds ts os q qs h hs) em g =
    let count = length-append ts os in
    let same : m ≡ k + length ts + length os = omega arith in
    let inner = one_more v sc (k + length ts) m rest ws cs ds c d os others qs p hs same g in
    let whole = more sc k first (rest ++ ws) a b (cs ++ c ∷ []) (ds ++ d ∷ []) ts (os ++ others) q (qs ++ p ∷ []) h inner in
    subst (λ us. AreWitnessed v sc k us (a ∷ (cs ++ c ∷ [])) (b ∷ (ds ++ d ∷ [])) ((ts ++ os) ++ others) (q ∷ (qs ++ p ∷ []))) (sym (append_assoc first rest ws))
    (subst (λ es. AreWitnessed v sc k (first ++ (rest ++ ws)) (a ∷ (cs ++ c ∷ [])) (b ∷ (ds ++ d ∷ [])) es (q ∷ (qs ++ p ∷ []))) (sym (append_assoc ts os others)) whole)

pub starts : (conj : Bool) (as_ : List Form) (uses : List Use) (first : ℕ) (entries : List Entry) (forms : List Form) (parts : List Proof) → forms ≡ [] → parts ≡ []
    → (v : Vocabulary) (scope : List ℕ) (g : AllGo v scope as_ (drop (length entries) uses)) → WentSoFar v scope conj (take 0 as_) (drop 0 as_) g.taken g.after (drop (length entries) uses) g.results (first + length entries) entries entries forms parts
starts conj as_ uses first entries forms parts ef ep v scope g = record {
  told = [];
  gained = sym (append-nil entries);
  before = [];
  behind = g.taken;
  uses = refl;
  more = g.results;
  same = rw ef refl;
  proofs = [];
  arms = ep;
  are = subst (λ fs. AreWitnessed v scope (first + length entries) [] [] fs [] []) (sym ef) (none scope (first + length entries));
  go = g.are;
  rest = g.parts;
}

-- the next of the formulas
module _ (conj : Bool) (as_ : List Form) (i : ℕ) (a : Form) (lt : i < length as_) (is : a ≡ get_or as_ i a) (v : Vocabulary) (scope : List ℕ) (taken after : List Use) (results : List Form) (uses : List Use) (n : ℕ) (old mid : List Entry) (forms : List Form) (parts : List Proof)
    (s : WentSoFar v scope conj (take i as_) (drop i as_) taken after (drop (length mid) uses) results n old mid forms parts) where
  split_at : {X : Type 0} (xs : List X) (k : ℕ) (x : X) → k < length xs → x ≡ get_or xs k x → drop k xs ≡ x ∷ drop (suc k) xs
  split_at [] k x h e = absurd (omega arith)
  split_at (y ∷ xs) zero x h e = ap (λ z. z ∷ xs) (sym e)
  split_at (y ∷ xs) (suc k) x h e = split_at xs k x (omega arith) e

  abbrev tail : List Form
  tail = drop (i + 1) as_

  next_in : (us ws : List Use) × (b : Form) × (bs : List Form) × (s.behind ≡ us ++ ws) × (s.more ≡ b ∷ bs) × IsSkolemized v scope us a b × AreSkolemized v scope ws tail bs
  next_in = first_of v scope s.behind a tail s.more (subst (λ xs. AreSkolemized v scope s.behind xs s.more) (split_at as_ i a lt is ∙ ap (λ k. a ∷ drop k as_) one_further) s.go) where
    one_further : suc i ≡ i + 1
    one_further = omega arith

  pub one_goes : Goes v scope a (drop (length mid) uses)
  one_goes = record {
    taken = next_in.0;
    after = next_in.1 ++ after;
    result = next_in.2;
    parts = s.rest ∙ ap (λ (us : List Use). us ++ after) next_in.4 ∙ append_assoc next_in.0 next_in.1 after;
    is = next_in.6;
  }

  pub goes_on : (new : List Entry) (form : Form) (part : Proof) (forms' : List Form) (parts' : List Proof) (number : ℕ) (made : Proof) → forms' ≡ forms ++ form ∷ [] → parts' ≡ parts ++ made ∷ [] → made ≡ arm conj number part → number ≡ i
      → (m : ℕ) → m ≡ n + length s.told → Went v scope a (drop (length mid) uses) (drop (length new) uses) one_goes m mid new form part
      → WentSoFar v scope conj (take (i + 1) as_) (drop (i + 1) as_) taken after (drop (length new) uses) results n old new forms' parts'
  unfolding next_in one_goes
  goes_on new form part forms' parts' number made ef ep ea en m em w =
      let many : length s.proofs ≡ i = (proofs_length v scope n s.before (take i as_) forms s.told s.proofs s.are).0 ∙ (proofs_length v scope n s.before (take i as_) forms s.told s.proofs s.are).1 ∙ taken_length as_ i lt in
      let place : 0 + length s.proofs ≡ i = omega arith in
      let same_arm : made ≡ arm conj (0 + length s.proofs) part = ea ∙ ap (λ k. arm conj k part) (en ∙ sym place) in
      let done : take (i + 1) as_ ≡ take i as_ ++ a ∷ [] = (rw add-one refl) ∙ taken_snoc as_ i a lt is in
      let all = one_more v scope n m s.before next_in.0 (take i as_) forms a form s.told w.told s.proofs part s.are em w.is in
      record {
        told = s.told ++ w.told;
        gained = w.gained ∙ ap (λ (es : List Entry). es ++ w.told) s.gained ∙ append_assoc old s.told w.told;
        before = s.before ++ next_in.0;
        behind = next_in.1;
        uses = s.uses ∙ ap (λ (us : List Use). s.before ++ us) next_in.4 ∙ sym (append_assoc s.before next_in.0 next_in.1);
        more = next_in.3;
        same = s.same ∙ ap (λ (cs : List Form). forms ++ cs) next_in.5 ∙ ap (λ (c : Form). forms ++ (c ∷ next_in.3)) (sym w.same) ∙ sym (append_assoc forms (form ∷ []) next_in.3) ∙ ap (λ (cs : List Form). cs ++ next_in.3) (sym ef);
        proofs = s.proofs ++ part ∷ [];
        arms = ep ∙ ap (λ (ps : List Proof). ps ++ made ∷ []) s.arms ∙ ap (λ (p : Proof). arms conj 0 s.proofs ++ p ∷ []) same_arm ∙ sym (arms_more conj s.proofs part 0);
        are = subst (λ xs. AreWitnessed v scope n (s.before ++ next_in.0) xs forms' (s.told ++ w.told) (s.proofs ++ part ∷ [])) (sym done)
            (subst (λ fs. AreWitnessed v scope n (s.before ++ next_in.0) (take i as_ ++ a ∷ []) fs (s.told ++ w.told) (s.proofs ++ part ∷ [])) (sym ef) all);
        go = next_in.7;
        rest = w.rest;
      } where
        taken_length : {X : Type 0} (xs : List X) (k : ℕ) → k < length xs → length (take k xs) ≡ k
        taken_length [] k h = absurd (omega arith)
        taken_length (x ∷ xs) zero h = refl
        taken_length (x ∷ xs) (suc k) h = ap suc (taken_length xs k (omega arith))

-- the number of the next entry's formula
pub numbered_on : (first : ℕ) (old mid told : List Entry) → mid ≡ old ++ told → first + length mid ≡ first + length old + length told
numbered_on first old mid told e = let many : length mid ≡ length old + length told = ap length e ∙ length-append old told in omega arith

-- the last of them
pub ends : (conj : Bool) (as_ : List Form) (i : ℕ) → length as_ ≤ i → (v : Vocabulary) (scope : List ℕ) (taken after left : List Use) (results : List Form) (n : ℕ) (old new : List Entry) (forms : List Form) (parts : List Proof)
    → WentSoFar v scope conj (take i as_) (drop i as_) taken after left results n old new forms parts → WentSoFar v scope conj as_ [] taken after left results n old new forms parts
ends conj as_ i le v scope taken after left results n old new forms parts s =
    subst (λ xs. WentSoFar v scope conj xs [] taken after left results n old new forms parts) (all_taken as_ i le)
    (subst (λ xs. WentSoFar v scope conj (take i as_) xs taken after left results n old new forms parts) (none_left as_ i le) s) where
      all_taken : {X : Type 0} (xs : List X) (k : ℕ) → length xs ≤ k → take k xs ≡ xs
      all_taken [] zero h = refl
      all_taken [] (suc k) h = refl
      all_taken (x ∷ xs) zero h = absurd (omega arith)
      all_taken (x ∷ xs) (suc k) h = ap (λ ys. x ∷ ys) (all_taken xs k (omega arith))

      none_left : {X : Type 0} (xs : List X) (k : ℕ) → length xs ≤ k → drop k xs ≡ []
      none_left [] zero h = refl
      none_left [] (suc k) h = refl
      none_left (x ∷ xs) zero h = absurd (omega arith)
      none_left (x ∷ xs) (suc k) h = none_left xs k (omega arith)

-- one of formulas that may all go on
pub one_may : (as_ : List Form) (i : ℕ) (a : Form) (v : Vocabulary) (scope : List ℕ) (start us : List Use) → i < length as_ → a ≡ get_or as_ i a → MayAllGo v scope as_ start → Goes v scope a us → MayGo v scope a us
one_may as_ i a v scope start us lt is m g =
    let small = one_size as_ i a lt is in
    record { small = omega (arith, m.small); within = each_at (IsWithin v scope) as_ i a m.within lt is; goes = g }

-- The cases of a disjunction, one after another.
cases_more : (bs : List Form) (ps : List Proof) (p : Proof) (k : ℕ) → cases bs k (ps ++ p ∷ []) ≡ cases bs k ps ++ OrI bs (k + length ps) p ∷ []
cases_more bs [] p k = let same : k ≡ k + 0 = omega arith in ap (λ j. OrI bs j p ∷ []) same
cases_more bs (q ∷ ps) p k =
    let same : k + 1 + length ps ≡ k + suc (length ps) = omega arith in
    ap (λ rest. OrI bs k q ∷ rest) (cases_more bs ps p (k + 1) ∙ ap (λ j. cases bs (k + 1) ps ++ OrI bs j p ∷ []) same)

first_of_left : (left left' tail : List Proof) (p q : Proof) → left ≡ q ∷ tail → slice_get left 0 ≡ Some p → left' ≡ remove left 0 → (p ≡ q) × (left' ≡ tail)
first_of_left [] left' tail p q e at is = cc
first_of_left (x ∷ xs) left' tail p q e at is =
    let one : x ≡ p = cc in
    let two : x ≡ q = cc in
    let rest : xs ≡ tail = cc in
    (sym one ∙ two, is ∙ rest)

pub cases_next : (bs : List Form) (parts left left' made made' : List Proof) (i number : ℕ) (p case : Proof) → i < length parts → left ≡ drop i parts → slice_get left 0 ≡ Some p → left' ≡ remove left 0 → made ≡ cases bs 0 (take i parts) → case ≡ OrI bs number p → number ≡ i
    → made' ≡ made ++ case ∷ [] → (made' ≡ cases bs 0 (take (i + 1) parts)) × (left' ≡ drop (i + 1) parts)
cases_next bs parts left left' made made' i number p case lt el at er em ec en e =
    let s = split_place parts i lt in
    let further : suc i ≡ i + 1 = omega arith in
    let f = first_of_left left left' (drop (suc i) parts) p s.0 (el ∙ s.1) at er in
    let none : 0 + length (take i parts) ≡ length (take i parts) = omega arith in
    let place : 0 + length (take i parts) ≡ i = none ∙ s.3 in
    let one : case ≡ OrI bs (0 + length (take i parts)) s.0 = ec ∙ ap (λ k. OrI bs k p) (en ∙ sym place) ∙ ap (OrI bs (0 + length (take i parts))) f.0 in
    let whole = cases_more bs (take i parts) s.0 0 in
    (e ∙ ap (λ ps. ps ++ case ∷ []) em ∙ ap (λ q. cases bs 0 (take i parts) ++ q ∷ []) one ∙ sym whole ∙ ap (cases bs 0) (sym s.2) ∙ ap (λ k. cases bs 0 (take k parts)) further, f.1 ∙ ap (λ k. drop k parts) further) where
      split_place : (xs : List Proof) (k : ℕ) → k < length xs → (x : Proof) × (drop k xs ≡ x ∷ drop (suc k) xs) × (take (suc k) xs ≡ take k xs ++ x ∷ []) × (length (take k xs) ≡ k)
      split_place [] k h = absurd (omega arith)
      split_place (y ∷ xs) zero h = (y, refl, refl, refl)
      split_place (y ∷ xs) (suc k) h = let r = split_place xs k (omega arith) in (r.0, r.1, ap (λ ys. y ∷ ys) r.2, ap suc r.3)

pub cases_done : (bs : List Form) (parts made : List Proof) (i n : ℕ) → n ≤ i → length parts ≡ n → made ≡ cases bs 0 (take i parts) → made ≡ cases bs 0 parts
cases_done bs parts made i n le many e = e ∙ ap (cases bs 0) (all parts i (omega arith)) where
  all : (xs : List Proof) (k : ℕ) → length xs ≤ k → take k xs ≡ xs
  all [] zero h = refl
  all [] (suc k) h = refl
  all (x ∷ xs) zero h = absurd (omega arith)
  all (x ∷ xs) (suc k) h = ap (λ ys. x ∷ ys) (all xs k (omega arith))

-- there are few formulas, and as many arms as results
few_members_of : (as_ : List Form) → 1 + sum (map norm_size_of as_) ≤ 100000 → length as_ ≤ 100000
few_members_of as_ small = let few = few_members true as_ in let same = norm_size_of-And as_ in omega arith

pub few_there : (v : Vocabulary) (scope : List ℕ) (as_ : List Form) (us : List Use) (i : ℕ) → i < length as_ → MayAllGo v scope as_ us → i < 2 ^ 32
few_there v scope as_ us i lt m = let few = few_members_of as_ m.small in omega arith

pub few_results : (v : Vocabulary) (scope : List ℕ) (conj : Bool) (as_ : List Form) (us left : List Use) (n : ℕ) (old new : List Entry) (forms slice : List Form) (parts : List Proof) → slice ≡ forms → (m : MayAllGo v scope as_ us)
    → WentSoFar v scope conj as_ [] m.go.taken m.go.after left m.go.results n old new forms parts → (length slice < 2 ^ 32) × (length parts ≡ length slice)
few_results v scope conj as_ us left n old new forms slice parts es m s =
    let many = each_arm v scope conj as_ us left n old new forms parts m.go s in
    let few = few_members_of as_ m.small in
    let same : length slice ≡ length forms = ap length es in
    (omega (arith, many.1), many.0 ∙ sym same)
