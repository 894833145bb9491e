-- Falsehood by a clause whose literals have no variables, and their opposites.
use Rattle.std.specs.Prelude.{ℕ, ◌≡◌, ◌+◌, ◌<◌, ◌≤◌, Bool, true, false, not, List, [], ◌∷◌, ◌++◌, length, map, reverse, take, get_or, Some, slice_get, refl}
use Rattle.std.specs.List.{AllByRecursion, AllZip}
use Rattle.std.proofs.Common.{ap, sym, subst, ◌∙◌, arith, inl, inr, length-append, zero, suc}
use Rattle.std.proofs.lemmas.List.{length-reverse}
use Rattle.std.proofs.lemmas.List.Elements.{recursion_from_All}
use Rattle.std.proofs.lemmas.Option.{slice_get_within, slice_get-get_or}
use Rattle.fof_terms.specs.Sorts.{IsScope, Sorted}
use Rattle.fof_terms.specs.declared.form.Form.{Form, Or, Not}
use Rattle.fof_terms.proofs.LiftingLaws.{closed_stays}
use Rattle.fof_terms.proofs.Moved.{closed_anywhere}
use Rattle.fof_terms.proofs.Scoped.{or_sorted, sorted_of_or}
use Rattle.clause_form.specs.ClauseView.{form_of_atom, form_of_lit}
use Rattle.clause_form.specs.Covers.{negated, scope_of}
use Rattle.clause_form.specs.Norm.{signed}
use Rattle.clause_form.specs.declared.clause.Clause.{Clause}
use Rattle.clause_form.specs.declared.clause.Lit.{Lit}
use Rattle.clause_proofs.specs.Bodies.{body_of}
use Rattle.clause_proofs.specs.Closed.{inhabit_tree}
use Rattle.clause_proofs.proofs.ClosedLines.{inhabited}
use Rattle.input_proofs.specs.Formulas.{has_or}
use Rattle.kernel.specs.Proves.{Proves, all_over}
use Rattle.kernel.specs.Rules.{ProveEach}
use Rattle.kernel.specs.Statements.{Statements}
use Rattle.kernel.specs.declared.proof.Proof.{Proof, Hyp}
use Rattle.kernel.proofs.Building.{by_hyp, by_not_e}
use Rattle.saturation.specs.declared.member.Member.{Member}
use Rattle.superpose.specs.Drafts.{IsClause}
use Rattle.superpose.proofs.ConclusionFacts.{all_reversed}
use Rattle.search_proofs.specs.code.Bodies.{body_in, ShowsBodyOf}
use Rattle.search_proofs.specs.code.Clashes.{AreArms, clash_tree, IsArm, IsArmBy, IsNarrow}
use Rattle.search_proofs.specs.code.Contradictions.{IsAlone, IsByContradiction, IsListed, IsOpposite, Stands}
use Rattle.search_proofs.specs.declared.contradicting.Contradiction.{Contradiction}
use Rattle.search_proofs.proofs.Contradicted.{zip_done, zip_more}

-- Bodies and scopes.
long_body : (lits : List Lit) → 1 < length lits → body_of (has_or lits) lits ≡ Or (map form_of_lit lits)
long_body [] lt = absurd (omega arith)
long_body (l ∷ []) lt = absurd (omega arith)
long_body (l ∷ k ∷ lits) lt = refl

alone_body : (k : Lit) (c : Clause) → IsAlone k c.lits → body_in c ≡ form_of_lit k
alone_body k c alone = ap (λ (lits : List Lit). body_of (has_or lits) lits) alone.same ∙ ap (λ (b : Bool). body_of (not b) (k ∷ [])) alone.plain

both : (P : ℕ → Type 0) (xs ys : List ℕ) → AllByRecursion P xs → AllByRecursion P ys → AllByRecursion P (xs ++ ys)
both P [] ys front back = back
both P (x ∷ xs) ys front back = (front.0, both P xs ys front.1 back)

scope_with : (t : Statements) (c : Clause) (v : List ℕ) → IsClause t.vocabulary c → IsNarrow t v → IsScope t.vocabulary (scope_of c ++ v)
scope_with t c v own narrow =
    let P = λ (s : ℕ). s < length t.vocabulary.sorts in
    let few = own.fit.few in
    let rest = narrow.few in
    let whole = length-append (reverse c.sorts) v in
    let same = length-reverse c.sorts in
    record {
      few_variables = omega arith;
      sorts_exist = both P (reverse c.sorts) v (recursion_from_All P (reverse c.sorts) (all_reversed P c.sorts own.exist)) narrow.scope.sorts_exist;
    }

-- by a literal and its opposite
clash_shows : (t : Statements) (v : List ℕ) (h : List Form) (l : Lit) (p : Proof) → Sorted t.vocabulary v (form_of_lit l) → Proves t v (form_of_lit l ∷ h) p (form_of_lit (negated l)) → Proves t v (form_of_lit l ∷ h) (clash_tree l.positive p) (Or [])
clash_shows t v h l p own shown = by l.positive refl where
  by : (b : Bool) → l.positive ≡ b → Proves t v (form_of_lit l ∷ h) (clash_tree b p) (Or [])
  by true e =
      let a = form_of_atom l.atom in
      let lit : form_of_lit l ≡ a = ap (λ (b : Bool). signed b a) e in
      let opposite : form_of_lit (negated l) ≡ Not a = ap (λ (b : Bool). signed (not b) a) e in
      by_not_e t v (form_of_lit l ∷ h) p (Hyp 0) a (subst (λ (b : Form). Proves t v (form_of_lit l ∷ h) p b) opposite shown) (by_hyp t v (form_of_lit l ∷ h) 0 a (subst (Sorted t.vocabulary v) lit own) (ap Some lit))
  by false e =
      let a = form_of_atom l.atom in
      let lit : form_of_lit l ≡ Not a = ap (λ (b : Bool). signed b a) e in
      let opposite : form_of_lit (negated l) ≡ a = ap (λ (b : Bool). signed (not b) a) e in
      by_not_e t v (form_of_lit l ∷ h) (Hyp 0) p a (by_hyp t v (form_of_lit l ∷ h) 0 (Not a) (subst (Sorted t.vocabulary v) lit own) (ap Some lit)) (subst (λ (b : Form). Proves t v (form_of_lit l ∷ h) p b) opposite shown)

-- the same where the opposite comes over variables of its own
pub arm_shows : (number : ℕ) (c : Clause) (l : Lit) (sorts : List ℕ) (body falsehood made : Proof) → ShowsBodyOf number c body → falsehood ≡ clash_tree l.positive body → sorts ≡ c.sorts → made ≡ inhabit_tree (reverse sorts) falsehood → IsArm number c l made
arm_shows number c l sorts body falsehood made shows falsehood_is sorts_are made_is alone t own stands v narrow sorted =
    let h = form_of_lit l ∷ [] in
    let inner = scope_of c ++ v in
    let scope = scope_with t c v own narrow in
    let stays : all_over h ≡ h = ap (λ (b : Form). b ∷ []) (closed_stays t.vocabulary 1 (form_of_lit l) [] 0 (omega arith) sorted.fits) in
    let there = closed_anywhere t.vocabulary inner 2147483647 (form_of_lit l) scope sorted in
    let opposite = subst (λ (b : Form). Proves t inner h body b) (alone_body (negated l) c alone) (shows t stands v h scope) in
    let clashes = clash_shows t inner [] l body there opposite in
    let tree : made ≡ inhabit_tree (scope_of c) (clash_tree l.positive body) = made_is ∙ (ap (λ (ss : List ℕ). inhabit_tree (reverse ss) falsehood) sorts_are ∙ ap (inhabit_tree (scope_of c)) falsehood_is) in
    subst (λ (q : Proof). Proves t v h q (Or [])) (sym tree) (inhabited t h stays (scope_of c) v (clash_tree l.positive body) clashes)

-- An arm for each literal.
number_there : (members : List Member) (numbers : List ℕ) → length numbers ≡ length members → (i : ℕ) (m : Member) → slice_get members i ≡ Some m → slice_get numbers i ≡ Some (get_or numbers i 0)
number_there members numbers size i m at = slice_get-get_or numbers i 0 (let lt = slice_get_within members i m at in omega (arith, size))

zip_within : {X Y : Type 0} (R : X → Y → Type 0) (xs : List X) (ys : List Y) (k : ℕ) → AllZip R xs ys → k < length xs → k < length ys
zip_within R [] ys k all lt = absurd (omega arith)
zip_within R (x ∷ xs) [] k all lt = absurd all
zip_within R (x ∷ xs) (y ∷ ys) zero all lt = omega arith
zip_within R (x ∷ xs) (y ∷ ys) (suc k) all lt = let rest = zip_within R xs ys k all.1 (omega arith) in omega arith

pub zip_at : {X Y : Type 0} (R : X → Y → Type 0) (xs : List X) (ys : List Y) (k : ℕ) (x : X) (y : Y) → AllZip R xs ys → slice_get xs k ≡ Some x → slice_get ys k ≡ Some y → R x y
zip_at R [] ys k x y all own other = cc
zip_at R (u ∷ xs) [] k x y all own other = absurd all
zip_at R (u ∷ xs) (z ∷ ys) zero x y all own other = let one : u ≡ x = cc in let two : z ≡ y = cc in subst (λ a. R a y) one (subst (λ b. R u b) two all.0)
zip_at R (u ∷ xs) (z ∷ ys) (suc k) x y all own other = zip_at R xs ys k x y all.1 own other

-- by the member at the literal's place
arm_by : (members : List Member) (numbers : List ℕ) (lits : List Lit) (places : List ℕ) (k i n : ℕ) (l : Lit) (c : Clause) (p : Proof) → AllZip (IsOpposite members) lits places → length numbers ≡ length members → k < length lits → l ≡ get_or lits k l → i ≡ get_or places k 0
    → ((m : Member) → slice_get members i ≡ Some m → c ≡ m.clause) → n ≡ get_or numbers i 0 → IsArm n c l p → IsArmBy members numbers places l p
arm_by members numbers lits places k i n l c p all size lt l_is i_is clause_is n_is arm t stand v narrow sorted =
    let listed : slice_get places k ≡ Some i = slice_get-get_or places k 0 (zip_within (IsOpposite members) lits places k all lt) ∙ ap Some (sym i_is) in
    let literal : slice_get lits k ≡ Some l = slice_get-get_or lits k l lt ∙ ap Some (sym l_is) in
    let own = zip_at (IsOpposite members) lits places k l i all literal listed in
    let m = own.member in
    let here = stand i (k, listed) m (get_or numbers i 0) own.there (number_there members numbers size i m own.there) in
    let arm_here : IsArm (get_or numbers i 0) m.clause l p = subst (λ (x : ℕ). IsArm x m.clause l p) n_is (subst (λ (x : Clause). IsArm n x l p) (clause_is m own.there) arm) in
    arm_here own.unit t here.0 here.1 v narrow sorted

pub arms_more : (members : List Member) (numbers : List ℕ) (lits : List Lit) (places : List ℕ) (k i n : ℕ) (l : Lit) (c : Clause) (p q : Proof) (arms new : List Proof) → AllZip (IsOpposite members) lits places → length numbers ≡ length members → k < length lits → l ≡ get_or lits k l → i ≡ get_or places k 0
    → ((m : Member) → slice_get members i ≡ Some m → c ≡ m.clause) → n ≡ get_or numbers i 0 → IsArm n c l p → q ≡ p → AreArms members numbers places (take k lits) arms → new ≡ arms ++ q ∷ [] → AreArms members numbers places (take (k + 1) lits) new
arms_more members numbers lits places k i n l c p q arms new all size lt l_is i_is clause_is n_is arm q_is so new_is =
    let own : IsArmBy members numbers places l q = subst (IsArmBy members numbers places l) (sym q_is) (arm_by members numbers lits places k i n l c p all size lt l_is i_is clause_is n_is arm) in
    zip_more (IsArmBy members numbers places) lits k l arms new q lt l_is so own new_is

pub arms_done : (members : List Member) (numbers places : List ℕ) (lits : List Lit) (k : ℕ) (arms : List Proof) → length lits ≤ k → AreArms members numbers places (take k lits) arms → AreArms members numbers places lits arms
arms_done members numbers places lits k arms le so = zip_done (IsArmBy members numbers places) lits k arms le so

arms_show : (members : List Member) (numbers places : List ℕ) (t : Statements) → ((i : ℕ) → IsListed places i → Stands t members numbers i) → (v : List ℕ) → IsNarrow t v → (lits : List Lit) (arms : List Proof) → AreArms members numbers places lits arms
    → AllByRecursion (Sorted t.vocabulary []) (map form_of_lit lits) → ProveEach t v [] arms (map form_of_lit lits) (Or [])
arms_show members numbers places t stand v narrow [] [] all sorted = tt
arms_show members numbers places t stand v narrow [] (p ∷ arms) all sorted = absurd all
arms_show members numbers places t stand v narrow (l ∷ lits) [] all sorted = absurd all
arms_show members numbers places t stand v narrow (l ∷ lits) (p ∷ arms) all sorted = (all.0 t stand v narrow sorted.0, arms_show members numbers places t stand v narrow lits arms all.1 sorted.1)

-- Falsehood by a contradiction.
pub contradiction_shows : (members : List Member) (numbers : List ℕ) (c : Contradiction) → length numbers ≡ length members → (clause : Clause) (lits : List Lit) (places sorts : List ℕ) (n : ℕ) (arms : List Proof) (choice falsehood made : Proof) (g : Form)
    → ((m : Member) → slice_get members c.clause ≡ Some m → clause ≡ m.clause) → lits ≡ clause.lits → places ≡ c.opposites → sorts ≡ clause.sorts → AreArms members numbers places lits arms → n ≡ get_or numbers c.clause 0 → ShowsBodyOf n clause choice → g ≡ Or []
    → ((t : Statements) (v : List ℕ) (hs as_ : List Form) → Sorted t.vocabulary v g → Proves t v hs choice (Or as_) → ProveEach t v hs arms as_ g → Proves t v hs falsehood g) → made ≡ inhabit_tree (reverse sorts) falsehood → IsByContradiction members numbers c made
contradiction_shows members numbers c size clause lits places sorts n arms choice falsehood made g clause_is lits_is places_are sorts_are arm n_is chooses g_is by made_is t closed stand =
    let m = closed.found.member in
    let same = clause_is m closed.found.there in
    let number = get_or numbers c.clause 0 in
    let here = stand c.clause (inl refl) m number closed.found.there (number_there members numbers size c.clause m closed.found.there) in
    let nothing : IsNarrow t [] = record { few = omega arith; scope = record { few_variables = omega arith; sorts_exist = tt } } in
    let scope = scope_with t m.clause [] here.0 nothing in
    let v = scope_of m.clause ++ [] in
    let few = here.0.fit.few in
    let long = length-append (reverse m.clause.sorts) [] in
    let reversed = length-reverse m.clause.sorts in
    let narrow : IsNarrow t v = record { few = omega arith; scope = scope } in
    let chooses_here : ShowsBodyOf number m.clause choice = subst (λ (x : ℕ). ShowsBodyOf x m.clause choice) n_is (subst (λ (x : Clause). ShowsBodyOf n x choice) same chooses) in
    let forms = map form_of_lit m.clause.lits in
    let chosen : Proves t v [] choice (Or forms) = subst (λ (b : Form). Proves t v [] choice b) (long_body m.clause.lits closed.found.long) (chooses_here t here.1 [] [] scope) in
    let lits_same : lits ≡ m.clause.lits = lits_is ∙ ap (λ (x : Clause). x.lits) same in
    let arms_here : AreArms members numbers c.opposites m.clause.lits arms = subst (λ (ls : List Lit). AreArms members numbers c.opposites ls arms) lits_same (subst (λ (ps : List ℕ). AreArms members numbers ps lits arms) places_are arm) in
    let each = sorted_of_or t.vocabulary [] 2147483647 forms closed.closed in
    let show = arms_show members numbers c.opposites t (λ i at. stand i (inr at)) v narrow m.clause.lits arms arms_here each in
    let false_sorted : Sorted t.vocabulary v (Or []) = or_sorted t.vocabulary v 2147483647 scope [] tt in
    let shown : Proves t v [] falsehood (Or []) = subst (λ (b : Form). Proves t v [] falsehood b) g_is (by t v [] forms (subst (Sorted t.vocabulary v) (sym g_is) false_sorted) chosen (subst (λ (b : Form). ProveEach t v [] arms forms b) (sym g_is) show)) in
    let tree : made ≡ inhabit_tree (scope_of m.clause) falsehood = made_is ∙ ap (λ (ss : List ℕ). inhabit_tree (reverse ss) falsehood) (sorts_are ∙ ap (λ (x : Clause). x.sorts) same) in
    subst (λ (q : Proof). Proves t [] [] q (Or [])) (sym tree) (inhabited t [] refl (scope_of m.clause) [] falsehood shown)
