-- The walk through a formula, as code meets its steps.
use Rattle.std.specs.Prelude.{ℕ, ◌≡◌, ◌+◌, ◌<◌, ◌^◌, Bool, true, false, List, [], ◌∷◌, ◌++◌, length, map, sum, drop, get_or, Some, slice_get, Result, Ok, Err, IfOk, refl}
use Rattle.std.proofs.Common.{ap, sym, subst, ◌∙◌, arith, append_assoc, zero, suc}
use Rattle.std.proofs.lemmas.List.{append-nil, length-append}
use Rattle.fof_terms.specs.declared.term.Term.{Term}
use Rattle.fof_terms.specs.declared.form.Form.{Form, And, Or, Imp, Iff, All, Ex}
use Rattle.fof_terms.specs.declared.form.Form.TheViews.{outs-Imp, outs-Iff}
use Rattle.fof_terms.specs.Instance.{instance_of, instance_reach}
use Rattle.fof_terms.specs.Sorts.{binder_depth}
use Rattle.fof_terms.specs.Vocabulary.{Vocabulary}
use Rattle.clause_form.specs.Norm.{node}
use Rattle.clause_form.specs.Sizes.{norm_size_of}
use Rattle.clause_form.proofs.SizesFacts.{norm_size_of-All, norm_size_of-Ex}
use Rattle.kernel.specs.declared.entry.Entry.{Entry}
use Rattle.kernel.specs.declared.entry.Entry.TheVariants.{Choice}
use Rattle.kernel.specs.declared.proof.Proof.{Proof, Hyp, AndI, OrE, ImpI, ImpE, AllI, AllE}
use Rattle.fof_terms.specs.declared.term.Term.{Var}
use Rattle.skolem_fresh.specs.declared.just.Use.{Use}
use Rattle.skolem_fresh.specs.Choosing.{IsWithin}
use Rattle.skolem_fresh.specs.Renamed.{renamed}
use Rattle.skolem_fresh.specs.SkolemRule.{MayReplace, IsSkolemized}
use Rattle.skolem_fresh.specs.Uses.{value_of}
use Rattle.skolem_fresh.proofs.Chosen.{within_all}
use Rattle.skolem_fresh.proofs.Opened.{body_room, within_value, value_reaches}
use Rattle.skolem_fresh.proofs.Skolemized.{SkolemizedIn, skolemized_in}
use Rattle.skolem_fresh.proofs.WalkCode.{node_size, members_within, instance_size}
use Rattle.skolem_fresh.proofs.Walking.{none_of, node_in, all_in, some_in}
use Rattle.skolem_fresh.proofs.WholeLines.{few_variables}
use Rattle.skolem_proofs.specs.code.Existentials.{has_existential}
use Rattle.skolem_proofs.specs.code.Witnessed.{arms, cases, StepShows, IsWitnessed, AreWitnessed, itself, a_conjunction, a_disjunction, for_each, for_some, none, more}
use Rattle.skolem_proofs.specs.code.Witnessing.{Goes, MayGo, Went, AllGo, MayAllGo, WentSoFar}
use Rattle.skolem_proofs.proofs.ExistentialFacts.{stays}

-- the first of what is left of a list
pub first_left : {X : Type 0} (xs : List X) (k : ℕ) (x : X) (tail : List X) → drop k xs ≡ x ∷ tail → (k < length xs) × (slice_get xs k ≡ Some x) × (drop (suc k) xs ≡ tail)
first_left [] zero x tail e = cc
first_left [] (suc k) x tail e = cc
first_left (y ∷ xs) zero x tail e =
    let same : y ≡ x = cc in
    let rest : xs ≡ tail = cc in
    (omega arith, ap Some same, rest)
first_left (y ∷ xs) (suc k) x tail e = let r = first_left xs k x tail e in (omega (arith, r.0), r.1, r.2)

pub read_at : {X : Type 0} (xs : List X) (k : ℕ) (x y : X) → slice_get xs k ≡ Some x → y ≡ get_or xs k y → y ≡ x
read_at [] k x y e f = cc
read_at (z ∷ xs) zero x y e f = let same : z ≡ x = cc in f ∙ same
read_at (z ∷ xs) (suc k) x y e f = read_at xs k x y e f

-- what is made, by equal parts
as_made : (v : Vocabulary) (scope : List ℕ) (us : List Use) (n : ℕ) (a b form result : Form) (told : List Entry) (part tree : Proof) → a ≡ b → form ≡ result → part ≡ tree → IsWitnessed v scope n us b result told tree → IsWitnessed v scope n us a form told part
as_made v scope us n a b form result told part tree e f g w =
    subst (λ c. IsWitnessed v scope n us c form told part) (sym e) (subst (λ c. IsWitnessed v scope n us b c told part) (sym f) (subst (λ p. IsWitnessed v scope n us b result told p) (sym g) w))

-- What has no existential variables.
module _ (a : Form) (v : Vocabulary) (scope : List ℕ) (us : List Use) (g : Goes v scope a us) (n : ℕ) (old : List Entry) (form : Form) (part : Proof) (ef : form ≡ a) (ep : part ≡ ImpI a (Hyp 0)) where
  pub plain_went : has_existential a ≡ false → Went v scope a us us g n old old form part
  plain_went off =
      let only = stays v scope g.taken a g.result g.is off in
      let own : IsSkolemized v scope [] a a = subst (λ c. IsSkolemized v scope [] a c) only.1 (subst (λ ws. IsSkolemized v scope ws a g.result) only.0 g.is) in
      record {
        told = [];
        gained = sym (append-nil old);
        is = subst (λ ws. IsWitnessed v scope n ws a form [] part) (sym only.0) (subst (λ c. IsWitnessed v scope n [] a c [] part) (sym ef) (subst (λ p. IsWitnessed v scope n [] a a [] p) (sym ep) (itself scope n a own)));
        same = ef ∙ sym only.1;
        rest = g.parts ∙ ap (λ (ws : List Use). ws ++ g.after) only.0;
      }

-- It is neither an implication nor an equivalence.
module _ (a : Form) (v : Vocabulary) (scope : List ℕ) (us : List Use) (g : Goes v scope a us) (l r : Form) where
  at_form : (b : Form) → a ≡ b → IsSkolemized v scope g.taken b g.result
  at_form b e = subst (λ c. IsSkolemized v scope g.taken c g.result) e g.is

  pub no_implication : a ≡ Imp l r → ⊥
  no_implication e = subst (λ y. SkolemizedIn v scope g.taken y (Imp l r) g.result) (outs-Imp l r) (skolemized_in v scope g.taken (Imp l r) g.result (at_form (Imp l r) e))

  pub no_equivalence : a ≡ Iff l r → ⊥
  no_equivalence e = subst (λ y. SkolemizedIn v scope g.taken y (Iff l r) g.result) (outs-Iff l r) (skolemized_in v scope g.taken (Iff l r) g.result (at_form (Iff l r) e))

-- A node.
module _ (conj : Bool) (a : Form) (members m0 : List Form) (is : a ≡ node conj m0) (em : members ≡ m0) where
  node_is : a ≡ node conj members
  node_is = is ∙ ap (node conj) (sym em)

  module _ (v : Vocabulary) (scope : List ℕ) (us : List Use) where
    pub members_go : Goes v scope a us → AllGo v scope members us
    members_go g =
        let in_ = node_in v conj scope g.taken members g.result (subst (λ b. IsSkolemized v scope g.taken b g.result) node_is g.is) in
        record { taken = g.taken; after = g.after; results = in_.0; parts = g.parts; are = in_.2 }

    pub members_may : MayGo v scope a us → MayAllGo v scope members us
    members_may m =
        let size : norm_size_of a ≡ 1 + sum (map norm_size_of members) = node_size conj a members m0 is em in
        record { small = omega (arith, m.small); within = members_within v scope conj a members m0 is em m.within; go = members_go m.goes }

-- when all of some formulas are done
pub record WentAll (v : Vocabulary) (scope : List ℕ) (conj : Bool) (as_ : List Form) (us left : List Use) (g : AllGo v scope as_ us) (n : ℕ) (old new : List Entry) (forms : List Form) (parts : List Proof) : Type 0 where
  pub told : List Entry
  pub gained : new ≡ old ++ told
  pub proofs : List Proof
  pub arms : parts ≡ arms conj 0 proofs
  pub are : AreWitnessed v scope n g.taken as_ forms told proofs
  pub same : forms ≡ g.results
  pub rest : left ≡ g.after

pub went_all : (v : Vocabulary) (scope : List ℕ) (conj : Bool) (as_ : List Form) (us left : List Use) (g : AllGo v scope as_ us) (n : ℕ) (old new : List Entry) (forms : List Form) (parts : List Proof)
    → WentSoFar v scope conj as_ [] g.taken g.after left g.results n old new forms parts → WentAll v scope conj as_ us left g n old new forms parts
went_all v scope conj as_ us left g n old new forms parts s =
    let none = none_of v scope s.behind s.more s.go in
    let all : g.taken ≡ s.before = s.uses ∙ ap (λ (ws : List Use). s.before ++ ws) none.0 ∙ append-nil s.before in
    record {
      told = s.told;
      gained = s.gained;
      proofs = s.proofs;
      arms = s.arms;
      are = subst (λ ws. AreWitnessed v scope n ws as_ forms s.told s.proofs) (sym all) s.are;
      same = sym (s.same ∙ ap (λ (cs : List Form). forms ++ cs) none.1 ∙ append-nil forms);
      rest = s.rest ∙ ap (λ (ws : List Use). ws ++ g.after) none.0;
    }

module _ (a : Form) (members m0 : List Form) (em : members ≡ m0) (v : Vocabulary) (scope : List ℕ) (us left : List Use) (g : Goes v scope a us) (n : ℕ) (old new : List Entry) (forms : List Form) (parts : List Proof) (form : Form) (part : Proof) where
  pub conjunction_went : (is : a ≡ And m0) → form ≡ And forms → part ≡ ImpI (And members) (AndI parts)
      → ((x : AllGo v scope members us) → WentSoFar v scope true members [] x.taken x.after left x.results n old new forms parts) → Went v scope a us left g n old new form part
  conjunction_went is ef ep all =
      let whole : a ≡ And members = node_is true a members m0 is em in
      let in_ = node_in v true scope g.taken members g.result (subst (λ b. IsSkolemized v scope g.taken b g.result) whole g.is) in
      let x : AllGo v scope members us = record { taken = g.taken; after = g.after; results = in_.0; parts = g.parts; are = in_.2 } in
      let w = went_all v scope true members us left x n old new forms parts (all x) in
      let made : IsWitnessed v scope n g.taken (And members) (And forms) w.told (ImpI (And members) (AndI (arms true 0 w.proofs))) = a_conjunction scope n g.taken members forms w.told w.proofs w.are in
      let tree : part ≡ ImpI (And members) (AndI (arms true 0 w.proofs)) = ep ∙ ap (λ ps. ImpI (And members) (AndI ps)) w.arms in
      record {
        told = w.told;
        gained = w.gained;
        is = as_made v scope g.taken n a (And members) form (And forms) w.told part (ImpI (And members) (AndI (arms true 0 w.proofs))) whole ef tree made;
        same = ef ∙ ap And w.same ∙ sym in_.1;
        rest = w.rest;
      }

  pub disjunction_went : (is : a ≡ Or m0) → form ≡ Or forms → part ≡ ImpI (Or members) (OrE (Or forms) (Hyp 0) (cases forms 0 parts))
      → ((x : AllGo v scope members us) → WentSoFar v scope false members [] x.taken x.after left x.results n old new forms parts) → Went v scope a us left g n old new form part
  disjunction_went is ef ep all =
      let whole : a ≡ Or members = node_is false a members m0 is em in
      let in_ = node_in v false scope g.taken members g.result (subst (λ b. IsSkolemized v scope g.taken b g.result) whole g.is) in
      let x : AllGo v scope members us = record { taken = g.taken; after = g.after; results = in_.0; parts = g.parts; are = in_.2 } in
      let w = went_all v scope false members us left x n old new forms parts (all x) in
      let made : IsWitnessed v scope n g.taken (Or members) (Or forms) w.told (ImpI (Or members) (OrE (Or forms) (Hyp 0) (cases forms 0 (arms false 0 w.proofs)))) =
      a_disjunction scope n g.taken members forms w.told w.proofs w.are in
      let tree : part ≡ ImpI (Or members) (OrE (Or forms) (Hyp 0) (cases forms 0 (arms false 0 w.proofs))) = ep ∙ ap (λ ps. ImpI (Or members) (OrE (Or forms) (Hyp 0) (cases forms 0 ps))) w.arms in
      record {
        told = w.told;
        gained = w.gained;
        is = as_made v scope g.taken n a (Or members) form (Or forms) w.told part (ImpI (Or members) (OrE (Or forms) (Hyp 0) (cases forms 0 (arms false 0 w.proofs)))) whole ef tree made;
        same = ef ∙ ap Or w.same ∙ sym in_.1;
        rest = w.rest;
      }

-- there are as many arms as formulas
arms_length : (conj : Bool) (k : ℕ) (ps : List Proof) → length (arms conj k ps) ≡ length ps
arms_length conj k [] = refl
arms_length conj k (p ∷ ps) = ap suc (arms_length conj (k + 1) ps)

pub proofs_length : (v : Vocabulary) (scope : List ℕ) (n : ℕ) (uses : List Use) (as_ bs : List Form) (told : List Entry) (ps : List Proof) → AreWitnessed v scope n uses as_ bs told ps → (length ps ≡ length bs) × (length bs ≡ length as_)
proofs_length v scope n uses as_ bs told ps (none sc m) = (refl, refl)
proofs_length v scope n uses as_ bs told ps (more sc m first rest c d cs ds ts os p qs w ws) =
    let others = proofs_length v sc (m + length ts) rest cs ds os qs ws in
    (ap suc others.0, ap suc others.1)

pub each_arm : (v : Vocabulary) (scope : List ℕ) (conj : Bool) (as_ : List Form) (us left : List Use) (n : ℕ) (old new : List Entry) (forms : List Form) (parts : List Proof) → (x : AllGo v scope as_ us)
    → WentSoFar v scope conj as_ [] x.taken x.after left x.results n old new forms parts → (length parts ≡ length forms) × (length forms ≡ length as_)
each_arm v scope conj as_ us left n old new forms parts x s =
    let count = proofs_length v scope n s.before as_ forms s.told s.proofs s.are in
    let each : length parts ≡ length s.proofs = ap length s.arms ∙ arms_length conj 0 s.proofs in
    (each ∙ count.0, count.1)

-- A universal quantifier.
module _ (a body b0 : Form) (s : ℕ) (is : a ≡ All s b0) (eb : body ≡ b0) (v : Vocabulary) (scope : List ℕ) (us : List Use) where
  all_is : a ≡ All s body
  all_is = is ∙ ap (All s) (sym eb)

  under_in : (g : Goes v scope a us) → (d : Form) × (g.result ≡ All s d) × IsSkolemized v (s ∷ scope) g.taken body d
  under_in g = all_in v scope g.taken s body g.result (subst (λ b. IsSkolemized v scope g.taken b g.result) all_is g.is)

  under_goes : Goes v scope a us → Goes v (s ∷ scope) body us
  under_goes g = let in_ = under_in g in record { taken = g.taken; after = g.after; result = in_.0; parts = g.parts; is = in_.2 }

  pub under_may : MayGo v scope a us → MayGo v (s ∷ scope) body us
  under_may m =
      let size : norm_size_of a ≡ 1 + norm_size_of body = ap norm_size_of all_is ∙ norm_size_of-All s body in
      record { small = omega (arith, m.small); within = within_all v scope s body (subst (IsWithin v scope) all_is m.within); goes = under_goes m.goes }

  pub all_went : (left : List Use) (g : Goes v scope a us) (n : ℕ) (old new : List Entry) (inner form : Form) (inside part : Proof) → form ≡ All s inner → part ≡ ImpI (All s body) (AllI s (ImpE inside (AllE (Var 0) (Hyp 0))))
      → ((x : Goes v (s ∷ scope) body us) → Went v (s ∷ scope) body us left x n old new inner inside) → Went v scope a us left g n old new form part
  all_went left g n old new inner form inside part ef ep all =
      let in_ = under_in g in
      let x : Goes v (s ∷ scope) body us = record { taken = g.taken; after = g.after; result = in_.0; parts = g.parts; is = in_.2 } in
      let w = all x in
      let made : IsWitnessed v scope n g.taken (All s body) (All s inner) w.told (ImpI (All s body) (AllI s (ImpE inside (AllE (Var 0) (Hyp 0))))) = for_each scope n g.taken s body inner w.told inside w.is in
      record {
        told = w.told;
        gained = w.gained;
        is = as_made v scope g.taken n a (All s body) form (All s inner) w.told part (ImpI (All s body) (AllI s (ImpE inside (AllE (Var 0) (Hyp 0))))) all_is ef ep made;
        same = ef ∙ ap (All s) w.same ∙ sym in_.1;
        rest = w.rest;
      }

-- An existential quantifier.
module _ (body : Form) (s : ℕ) (v : Vocabulary) (scope : List ℕ) (uses : List Use) (old : List Entry) where
  abbrev here : List Use
  here = drop (length old) uses

  record At (g : Goes v scope (Ex s body) here) : Type 0 where
    use_ : Use
    others : List Use
    first : g.taken ≡ use_ ∷ others
    may : MayReplace v scope use_ s body
    goes : IsSkolemized v scope others (instance_of body (value_of use_)) g.result
    within : length old < length uses
    at : slice_get uses (length old) ≡ Some use_
    left : drop (length old + 1) uses ≡ others ++ g.after

  at_use : (g : Goes v scope (Ex s body) here) → At g
  at_use g =
      let in_ = some_in v scope g.taken s body g.result g.is in
      let whole : here ≡ in_.0 ∷ (in_.1 ++ g.after) = g.parts ∙ ap (λ (ws : List Use). ws ++ g.after) in_.2 in
      let f = first_left uses (length old) in_.0 (in_.1 ++ g.after) whole in
      let one_further : suc (length old) ≡ length old + 1 = omega arith in
      record { use_ = in_.0; others = in_.1; first = in_.2; may = in_.3; goes = in_.4; within = f.0; at = f.1; left = subst (λ k. drop k uses ≡ in_.1 ++ g.after) one_further f.2 }

  pub there_is : (g : Goes v scope (Ex s body) here) → length old < length uses
  there_is g = (at_use g).within

  module _ (chosen : Use) (is_chosen : chosen ≡ get_or uses (length old) chosen) where
    its_use : (g : Goes v scope (Ex s body) here) → chosen ≡ (at_use g).use_
    its_use g = read_at uses (length old) (at_use g).use_ chosen (at_use g).at is_chosen

    its_place : (g : Goes v scope (Ex s body) here) → MayReplace v scope chosen s body
    its_place g = subst (λ u. MayReplace v scope u s body) (sym (its_use g)) (at_use g).may

    pub its_reach : (m : MayGo v scope (Ex s body) here) → instance_reach (value_of chosen) 0 body < 2 ^ 32
    its_reach m = let may = its_place m.goes in value_reaches v scope s body m.within (value_of chosen) (may.fits ∙ ap Some may.sort)

    pub its_room : (m : MayGo v scope (Ex s body) here) → 1 + binder_depth body + length chosen.variables < 2 ^ 32
    its_room m =
        let may = its_place m.goes in
        let room = body_room v scope s body m.within in
        let few = (few_variables v scope (Ex s body) (chosen ∷ []) (omega (arith, m.within.room)) (may.fits, tt) (may.arguments, tt)).0 in
        omega arith

    module _ (next : Form) (is_next : next ≡ instance_of body (value_of chosen)) (mid : List Entry) (told_here : Form) (is_told : told_here ≡ renamed chosen.variables 1 body) (is_mid : mid ≡ old ++ Choice chosen.function told_here ∷ []) where
      count : length mid ≡ length old + 1
      count = ap length is_mid ∙ length-append old (Choice chosen.function told_here ∷ [])

      next_goes : (g : Goes v scope (Ex s body) here) → Goes v scope next (drop (length mid) uses)
      next_goes g =
          let a = at_use g in
          let form : instance_of body (value_of a.use_) ≡ next = ap (λ (u : Use). instance_of body (value_of u)) (sym (its_use g)) ∙ sym is_next in
          record {
            taken = a.others;
            after = g.after;
            result = g.result;
            parts = ap (λ k. drop k uses) count ∙ a.left;
            is = subst (λ b. IsSkolemized v scope a.others b g.result) form a.goes;
          }

      pub next_may : (m : MayGo v scope (Ex s body) here) → MayGo v scope next (drop (length mid) uses)
      next_may m =
          let may = its_place m.goes in
          let size : norm_size_of next ≡ norm_size_of body = ap norm_size_of is_next ∙ instance_size (value_of chosen) body in
          let whole = norm_size_of-Ex s body in
          record {
            small = omega (arith, m.small);
            within = subst (IsWithin v scope) (sym is_next) (within_value v scope s body m.within (value_of chosen) (may.fits ∙ ap Some may.sort));
            goes = next_goes m.goes;
          }

      pub some_went : (g : Goes v scope (Ex s body) here) (first number : ℕ) (new : List Entry) (form : Form) (inside step part : Proof) → number ≡ first + length old → StepShows chosen.variables number (Hyp 0) step → part ≡ ImpI (Ex s body) (ImpE inside step)
          → ((x : Goes v scope next (drop (length mid) uses)) → Went v scope next (drop (length mid) uses) (drop (length new) uses) x (first + length mid) mid new form inside)
          → Went v scope (Ex s body) here (drop (length new) uses) g (first + length old) old new form part
      unfolding next_goes
      some_went g first number new form inside step part en shows ep all =
          let a = at_use g in
          let x = next_goes g in
          let w = all (next_goes g) in
          let same : first + length mid ≡ first + length old + 1 = omega (arith, count) in
          let inner : IsWitnessed v scope (first + length old + 1) a.others (instance_of body (value_of chosen)) form w.told inside =
          subst (λ b. IsWitnessed v scope (first + length old + 1) a.others b form w.told inside) is_next (subst (λ k. IsWitnessed v scope k a.others next form w.told inside) same w.is) in
          let steps : StepShows chosen.variables (first + length old) (Hyp 0) step = subst (λ k. StepShows chosen.variables k (Hyp 0) step) en shows in
          let made : IsWitnessed v scope (first + length old) (chosen ∷ a.others) (Ex s body) form (Choice chosen.function (renamed chosen.variables 1 body) ∷ w.told) (ImpI (Ex s body) (ImpE inside step)) =
          for_some scope (first + length old) chosen a.others s body form w.told step inside (its_place g) steps inner in
          let uses_are : chosen ∷ a.others ≡ g.taken = ap (λ (u : Use). u ∷ a.others) (its_use g) ∙ sym a.first in
          let first_told : Choice chosen.function told_here ≡ Choice chosen.function (renamed chosen.variables 1 body) = ap (Choice chosen.function) is_told in
          record {
            told = Choice chosen.function (renamed chosen.variables 1 body) ∷ w.told;
            gained = w.gained ∙ ap (λ (es : List Entry). es ++ w.told) is_mid ∙ append_assoc old (Choice chosen.function told_here ∷ []) w.told ∙ ap (λ (e : Entry). old ++ (e ∷ w.told)) first_told;
            is = subst (λ us. IsWitnessed v scope (first + length old) us (Ex s body) form (Choice chosen.function (renamed chosen.variables 1 body) ∷ w.told) part) uses_are
                (subst (λ p. IsWitnessed v scope (first + length old) (chosen ∷ a.others) (Ex s body) form (Choice chosen.function (renamed chosen.variables 1 body) ∷ w.told) p) (sym ep) made);
            same = w.same;
            rest = w.rest;
          }

-- what an answer has by two clauses
pub ok_both : {X E : Type 0} {P Q R : X → Type 0} (r : Result X E) → ((x : X) → P x → Q x → R x) → IfOk r P → IfOk r Q → IfOk r R
ok_both (Ok x) f p q = f x p q
ok_both (Err e) f p q = p

-- an existential formula, as code takes it apart
module _ (a body b0 : Form) (s : ℕ) (is : a ≡ Ex s b0) (eb : body ≡ b0) where
  some_is : a ≡ Ex s body
  some_is = is ∙ ap (Ex s) (sym eb)

  pub some_size : norm_size_of a ≡ 1 + norm_size_of body
  some_size = ap norm_size_of some_is ∙ norm_size_of-Ex s body

  pub some_may : (v : Vocabulary) (scope : List ℕ) (us : List Use) → MayGo v scope a us → MayGo v scope (Ex s body) us
  some_may v scope us m = subst (λ b. MayGo v scope b us) some_is m
