-- Where a paramodulation has no place, no equation or no terms that meet, and the places and equations that are tried.
use Rattle.std.specs.Prelude.{ℕ, Bool, true, false, ◌≡◌, ◌+◌, List, [], ◌∷◌, ◌++◌, length, Option, Some, None, slice_get}
use Rattle.std.proofs.Common.{ap, sym, subst, ◌∙◌, arith, zero, suc}
use Rattle.fof_terms.specs.Vocabulary.{Vocabulary}
use Rattle.fof_terms.specs.declared.term.Term.{Term}
use Rattle.fof_terms.specs.Lift.{lifted_term}
use Rattle.fof_terms.proofs.Walks.{lifting_term}
use Rattle.clause_form.specs.declared.clause.Lit.{Lit}
use Rattle.clause_form.specs.declared.clause.Clause.{Clause}
use Rattle.clause_form.specs.declared.path.Parent.{Parent}
use Rattle.clause_form.proofs.ClauseLaws.{get_image}
use Rattle.clause_form.specs.ClauseView.{clause_of}
use Rattle.clause_form.specs.Covers.{lit_apart, lit_image}
use Rattle.clause_form.specs.Images.{image}
use Rattle.clause_form.proofs.ImagesFacts.{image_of_lifted}
use Rattle.fof_terms.specs.declared.form.Form.{Form}
use Rattle.clause_rules.specs.declared.joint.Joint.{Joint}
use Rattle.clause_rules.specs.declared.just.Just.{Just}
use Rattle.clause_rules.specs.declared.just.Just.TheVariants.{Paramodulation}
use Rattle.rule_steps.specs.declared.sites.Reading.{Reading}
use Rattle.clause_rules.specs.Answers.{IsAnswer, paramodulation, rule_of}
use Rattle.clause_rules.specs.JointClauses.{IsJoined}
use Rattle.clause_rules.specs.Justified.{Shows}
use Rattle.clause_rules.specs.ParamodulationRule.{HasPlace, Paramodulates}
use Rattle.rule_steps.specs.code.ParamodulationSearch.{sites_of_places, sites_of_lits, sites_of_slot, sites_from, readings_of_atom, readings_of_lits, readings_of_slot, readings_from, HasSpot, HasEquation, FoundInClauses}
use Rattle.clause_rules.specs.Places.{lit_term_at}
use Rattle.clause_rules.specs.PlaceSearch.{places_of}
use Rattle.substitution_search.specs.Screens.{NeverEqual}
use Rattle.clause_rules.specs.Steps.{equation, instances, apart_from, clauses_of}
use Rattle.clause_rules.proofs.Equations.{equation_image, equation_parts, same_sides}
use Rattle.clause_rules.proofs.ListPlaces.{get_lifted, get_of_map}
use Rattle.clause_rules.proofs.Firsts.{one_at}
use Rattle.clause_rules.proofs.LitImages.{imaging}
use Rattle.clause_rules.proofs.PlaceLaws.{lit_at_walk, place_listed}
use Rattle.substitution_search.proofs.Uncovered.{no_line}

module _ (v : Vocabulary) (into from line : Clause) (i j : ℕ) (place : List ℕ) (flipped : Bool) (more : List ℕ) (s : ℕ → Term) (h : Paramodulates v into from line i place j flipped more s) where
  pub no_spot : HasSpot into.lits i place None → ⊥
  no_spot none = none h.place_of.lit h.place_of.term h.place_of.there h.place_of.stands

  -- the equation of the clause
  pub from_equation : (l r : Term) × (slice_get from.lits j ≡ Some (equation flipped l r))
  from_equation =
      let m = get_of_map (lit_image s) (apart_from into from.lits) j (equation flipped h.paramodulant.left h.paramodulant.right) h.paramodulant.in_from in
      let one = equation_parts (image s) m.0 flipped h.paramodulant.left h.paramodulant.right m.2 in
      let n = get_of_map (lit_apart (length into.sorts)) from.lits j m.0 m.1 in
      let two = equation_parts (lifted_term (length into.sorts) 0) n.0 flipped one.0 one.1 (n.2 ∙ one.2) in
      (two.0, two.1, n.1 ∙ ap Some two.2)

  pub no_equation : HasEquation from.lits j flipped None → ⊥
  no_equation none = none from_equation.0 from_equation.1 from_equation.2

  pub no_heads : (k : Lit) (u l r : Term) → slice_get into.lits i ≡ Some k → lit_term_at place k ≡ Some u → slice_get from.lits j ≡ Some (equation flipped l r) → NeverEqual false u l → ⊥
  no_heads k u l r at there over never =
      let p = h.paramodulant in
      let changed : p.changed ≡ lit_image s k = one_at (instances s into.lits) i p.changed (lit_image s k) p.in_into (get_image s into.lits i k at) in
      let stands : Some (image s u) ≡ Some p.left = sym (lit_at_walk (image s) (imaging s) place k u there) ∙ ap (lit_term_at place) (sym changed) ∙ p.stands in
      let left : image s u ≡ p.left = cc in
      let lift = lifted_term (length into.sorts) 0 in
      let apart : slice_get (apart_from into from.lits) j ≡ Some (equation flipped (lift l) (lift r)) = get_lifted (lit_apart (length into.sorts)) from.lits j (equation flipped l r) over ∙ ap Some (equation_image lift flipped l r) in
      let there_ : slice_get (instances s (apart_from into from.lits)) j ≡ Some (equation flipped (image s (lift l)) (image s (lift r))) = get_image s (apart_from into from.lits) j (equation flipped (lift l) (lift r)) apart ∙ ap Some (equation_image (image s) flipped (lift l) (lift r)) in
      let sides = same_sides flipped p.left p.right (image s (lift l)) (image s (lift r)) (one_at (instances s (apart_from into from.lits)) j (equation flipped p.left p.right) (equation flipped (image s (lift l)) (image s (lift r))) p.in_from there_) in
      never s (λ m. s (m + length into.sorts)) (no_line (λ m. s (m + length into.sorts))) (left ∙ sides.0 ∙ image_of_lifted s (length into.sorts) l)

  module _ (joint : Joint) (joined : IsJoined line into from joint) where
    pub no_joint_spot : HasSpot joint.left i place None → ⊥
    no_joint_spot none =
        none (lit_apart (length line.sorts) h.place_of.lit) (lifted_term (length line.sorts) 0 h.place_of.term) (ap (λ (ks : List Lit). slice_get ks i) joined.left_lits ∙ get_lifted (lit_apart (length line.sorts)) into.lits i h.place_of.lit h.place_of.there)
        (lit_at_walk (lifted_term (length line.sorts) 0) (lifting_term (length line.sorts) 0) place h.place_of.lit h.place_of.term h.place_of.stands)

    pub no_joint_equation : HasEquation joint.right j flipped None → ⊥
    no_joint_equation none =
        let e = from_equation in
        let one = lifted_term (length into.sorts) 0 in
        let two = lifted_term (length line.sorts) 0 in
        let apart : slice_get (apart_from into from.lits) j ≡ Some (equation flipped (one e.0) (one e.1)) = get_lifted (lit_apart (length into.sorts)) from.lits j (equation flipped e.0 e.1) e.2 ∙ ap Some (equation_image one flipped e.0 e.1) in
        none (two (one e.0)) (two (one e.1)) (ap (λ (ks : List Lit). slice_get ks j) joined.right_lits ∙ get_lifted (lit_apart (length line.sorts)) (apart_from into from.lits) j (equation flipped (one e.0) (one e.1)) apart ∙ ap Some (equation_image two flipped (one e.0) (one e.1)))

-- What is listed.
abbrev Lists : {X : Type 0} → List X → X → Type 0
Lists xs x = (m : ℕ) × (slice_get xs m ≡ Some x)

lists_at : {X : Type 0} (xs ys : List X) (x : X) (m : ℕ) → slice_get xs m ≡ Some x → Lists (xs ++ ys) x
lists_at [] ys x m e = cc
lists_at (y ∷ xs) ys x zero e = (0, e)
lists_at (y ∷ xs) ys x (suc m) e = let rest = lists_at xs ys x m e in (suc rest.0, rest.1)

lists_before : {X : Type 0} (xs ys : List X) (x : X) → Lists xs x → Lists (xs ++ ys) x
lists_before xs ys x h = lists_at xs ys x h.0 h.1

lists_behind : {X : Type 0} (xs ys : List X) (x : X) → Lists ys x → Lists (xs ++ ys) x
lists_behind [] ys x h = h
lists_behind (y ∷ xs) ys x h = let rest = lists_behind xs ys x h in (suc rest.0, rest.1)

pub site_in_places : (a i : ℕ) (places : List (List ℕ)) (n : ℕ) (p : List ℕ) → slice_get places n ≡ Some p → Lists (sites_of_places a i places) (record { clause = a; lit = i; at = p })
site_in_places a i [] n p e = cc
site_in_places a i (q ∷ places) zero p e = let same : q ≡ p = cc in (0, ap (λ x. Some (record { clause = a; lit = i; at = x })) same)
site_in_places a i (q ∷ places) (suc n) p e = let rest = site_in_places a i places n p e in (suc rest.0, rest.1)

site_in_lits : (a m : ℕ) (lits : List Lit) (i : ℕ) (k : Lit) (p : List ℕ) → slice_get lits i ≡ Some k → Lists (places_of k) p → Lists (sites_of_lits a m lits) (record { clause = a; lit = m + i; at = p })
site_in_lits a m [] i k p e h = cc
site_in_lits a m (l ∷ lits) zero k p e h =
    let same : l ≡ k = cc in
    let n : m ≡ m + 0 = omega arith in
    lists_before (sites_of_places a m (places_of l)) (sites_of_lits a (suc m) lits) (record { clause = a; lit = m + 0; at = p })
    (subst (λ x. Lists (sites_of_places a m (places_of l)) (record { clause = a; lit = x; at = p })) n (site_in_places a m (places_of l) h.0 p (ap (λ (x : Lit). slice_get (places_of x) h.0) same ∙ h.1)))
site_in_lits a m (l ∷ lits) (suc i) k p e h =
    let n : suc m + i ≡ m + suc i = omega arith in
    lists_behind (sites_of_places a m (places_of l)) (sites_of_lits a (suc m) lits) (record { clause = a; lit = m + suc i; at = p })
    (subst (λ x. Lists (sites_of_lits a (suc m) lits) (record { clause = a; lit = x; at = p })) n (site_in_lits a (suc m) lits i k p e h))

site_in_clauses : (b : ℕ) (clauses : List (Option Clause)) (a : ℕ) (c : Clause) (i : ℕ) (p : List ℕ) → slice_get clauses a ≡ Some (Some c) → ((n : ℕ) → Lists (sites_of_lits n 0 c.lits) (record { clause = n; lit = i; at = p })) → Lists (sites_from b clauses) (record { clause = b + a; lit = i; at = p })
site_in_clauses b [] a c i p e h = cc
site_in_clauses b (slot ∷ clauses) zero c i p e h =
    let same : slot ≡ Some c = cc in
    let n : b ≡ b + 0 = omega arith in
    lists_before (sites_of_slot b slot) (sites_from (suc b) clauses) (record { clause = b + 0; lit = i; at = p })
    (subst (λ x. Lists (sites_of_slot b slot) (record { clause = x; lit = i; at = p })) n (subst (λ o. Lists (sites_of_slot b o) (record { clause = b; lit = i; at = p })) (sym same) (h b)))
site_in_clauses b (slot ∷ clauses) (suc a) c i p e h =
    let n : suc b + a ≡ b + suc a = omega arith in
    lists_behind (sites_of_slot b slot) (sites_from (suc b) clauses) (record { clause = b + suc a; lit = i; at = p })
    (subst (λ x. Lists (sites_from (suc b) clauses) (record { clause = x; lit = i; at = p })) n (site_in_clauses (suc b) clauses a c i p e h))

pub site_listed : (clauses : List (Option Clause)) (a : ℕ) (c : Clause) (i : ℕ) (place : List ℕ) → slice_get clauses a ≡ Some (Some c) → HasPlace c.lits i place → Lists (sites_from 0 clauses) (record { clause = a; lit = i; at = place })
site_listed clauses a c i place e h =
    let n : 0 + a ≡ a = omega arith in
    let m : 0 + i ≡ i = omega arith in
    subst (λ x. Lists (sites_from 0 clauses) (record { clause = x; lit = i; at = place })) n
    (site_in_clauses 0 clauses a c i place e (λ b. subst (λ x. Lists (sites_of_lits b 0 c.lits) (record { clause = b; lit = x; at = place })) m (site_in_lits b 0 c.lits i h.lit place h.there (place_listed h.lit place h.term h.stands))))

reading_in_atom : (b j : ℕ) (k : Lit) (flipped : Bool) (l r : Term) → k ≡ equation flipped l r → Lists (readings_of_atom b j k.positive k.atom) (record { clause = b; lit = j; flipped = flipped })
reading_in_atom b j k false l r e = (0, ap (λ (x : Lit). slice_get (readings_of_atom b j x.positive x.atom) 0) e)
reading_in_atom b j k true l r e = (1, ap (λ (x : Lit). slice_get (readings_of_atom b j x.positive x.atom) 1) e)

reading_in_lits : (b m : ℕ) (lits : List Lit) (j : ℕ) (flipped : Bool) (l r : Term) → slice_get lits j ≡ Some (equation flipped l r) → Lists (readings_of_lits b m lits) (record { clause = b; lit = m + j; flipped = flipped })
reading_in_lits b m [] j flipped l r e = cc
reading_in_lits b m (k ∷ lits) zero flipped l r e =
    let same : k ≡ equation flipped l r = cc in
    let n : m ≡ m + 0 = omega arith in
    lists_before (readings_of_atom b m k.positive k.atom) (readings_of_lits b (suc m) lits) (record { clause = b; lit = m + 0; flipped = flipped })
    (subst (λ x. Lists (readings_of_atom b m k.positive k.atom) (record { clause = b; lit = x; flipped = flipped })) n (reading_in_atom b m k flipped l r same))
reading_in_lits b m (k ∷ lits) (suc j) flipped l r e =
    let n : suc m + j ≡ m + suc j = omega arith in
    lists_behind (readings_of_atom b m k.positive k.atom) (readings_of_lits b (suc m) lits) (record { clause = b; lit = m + suc j; flipped = flipped })
    (subst (λ x. Lists (readings_of_lits b (suc m) lits) (record { clause = b; lit = x; flipped = flipped })) n (reading_in_lits b (suc m) lits j flipped l r e))

reading_in_clauses : (b : ℕ) (clauses : List (Option Clause)) (a : ℕ) (c : Clause) (j : ℕ) (flipped : Bool) → slice_get clauses a ≡ Some (Some c) → ((n : ℕ) → Lists (readings_of_lits n 0 c.lits) (record { clause = n; lit = j; flipped = flipped })) → Lists (readings_from b clauses) (record { clause = b + a; lit = j; flipped = flipped })
reading_in_clauses b [] a c j flipped e h = cc
reading_in_clauses b (slot ∷ clauses) zero c j flipped e h =
    let same : slot ≡ Some c = cc in
    let n : b ≡ b + 0 = omega arith in
    lists_before (readings_of_slot b slot) (readings_from (suc b) clauses) (record { clause = b + 0; lit = j; flipped = flipped })
    (subst (λ x. Lists (readings_of_slot b slot) (record { clause = x; lit = j; flipped = flipped })) n (subst (λ o. Lists (readings_of_slot b o) (record { clause = b; lit = j; flipped = flipped })) (sym same) (h b)))
reading_in_clauses b (slot ∷ clauses) (suc a) c j flipped e h =
    let n : suc b + a ≡ b + suc a = omega arith in
    lists_behind (readings_of_slot b slot) (readings_from (suc b) clauses) (record { clause = b + suc a; lit = j; flipped = flipped })
    (subst (λ x. Lists (readings_from (suc b) clauses) (record { clause = x; lit = j; flipped = flipped })) n (reading_in_clauses (suc b) clauses a c j flipped e h))

pub reading_listed : (clauses : List (Option Clause)) (b : ℕ) (c : Clause) (j : ℕ) (flipped : Bool) (l r : Term) → slice_get clauses b ≡ Some (Some c) → slice_get c.lits j ≡ Some (equation flipped l r) → Lists (readings_from 0 clauses) (record { clause = b; lit = j; flipped = flipped })
reading_listed clauses b c j flipped l r e at =
    let n : 0 + b ≡ b = omega arith in
    let m : 0 + j ≡ j = omega arith in
    subst (λ x. Lists (readings_from 0 clauses) (record { clause = x; lit = j; flipped = flipped })) n
    (reading_in_clauses 0 clauses b c j flipped e (λ a. subst (λ x. Lists (readings_of_lits a 0 c.lits) (record { clause = a; lit = x; flipped = flipped })) m (reading_in_lits a 0 c.lits j flipped l r at)))

module _ (v : Vocabulary) (clauses : List (Option Clause)) (line : Clause) where
  -- nothing was found with any of the readings
  pub none_nowhere : (readings : List Reading) → readings ≡ readings_from 0 clauses → FoundInClauses v clauses readings line None → (a b i : ℕ) (place : List ℕ) (j : ℕ) (flipped : Bool) (into from : Clause) (more : List ℕ) (s : ℕ → Term) → slice_get clauses a ≡ Some (Some into)
      → slice_get clauses b ≡ Some (Some from) → Paramodulates v into from line i place j flipped more s → ⊥
  none_nowhere readings f none a b i place j flipped into from more s there here h =
      let eq = from_equation v into from line i j place flipped more s h in
      let reading = reading_listed clauses b from j flipped eq.0 eq.1 here eq.2 in
      none a i place reading.0 (record { clause = b; lit = j; flipped = flipped }) (ap (λ (xs : List Reading). slice_get xs reading.0) f ∙ reading.1) into from there here more s h

-- the answer from what was found at the places
pub paramodulation_answer : (v : Vocabulary) (parents : List Parent) (form : Form) (line : Clause) (clauses : List (Option Clause)) (readings : List Reading) → clause_of form ≡ Some line → clauses ≡ clauses_of parents → readings ≡ readings_from 0 clauses → (found : Option Just)
    → FoundInClauses v clauses readings line found → IsAnswer v parents form paramodulation found
paramodulation_answer v parents form line clauses readings is same read None none = λ h.
    let at = h.11 in
    let e : h.8 ≡ line = let f = at.line_clause in cc in
    none_nowhere v clauses line readings read none h.0 h.1 h.2 h.3 h.4 h.5 h.6 h.7 h.9 h.10 (ap (λ (cs : List (Option Clause)). slice_get cs h.0) same ∙ at.into_clause) (ap (λ (cs : List (Option Clause)). slice_get cs h.1) same ∙ at.from_clause)
    (subst (λ (x : Clause). Paramodulates v h.6 h.7 x h.2 h.3 h.4 h.5 h.9 h.10) e at.paramodulates)
paramodulation_answer v parents form line clauses readings is same read (Some just) w =
    let x = w.shown in
    let shows : Shows v parents form (Paramodulation w.site.clause w.reading.clause w.site.lit w.site.at w.reading.lit w.reading.flipped w.images) = (
      x.into,
      x.from,
      line,
      x.joint,
      record {
        line_clause = is;
        into_clause = ap (λ (cs : List (Option Clause)). slice_get cs w.site.clause) (sym same) ∙ x.into_there;
        from_clause = ap (λ (cs : List (Option Clause)). slice_get cs w.reading.clause) (sym same) ∙ x.from_there;
        paramodulates = x.paramodulates;
      },
    ) in
    (ap rule_of w.is, subst (Shows v parents form) (sym w.is) shows)

-- nothing is found where no equation is read
pub no_readings : (v : Vocabulary) (clauses : List (Option Clause)) (readings : List Reading) (line : Clause) → readings ≡ [] → FoundInClauses v clauses readings line None
no_readings v clauses readings line empty = λ a i place k reading e. let none : slice_get [] k ≡ Some reading = ap (λ (rs : List Reading). slice_get rs k) (sym empty) ∙ e in absurd (nothing k reading none) where
  nothing : (k : ℕ) (reading : Reading) → slice_get [] k ≡ Some reading → ⊥
  nothing k reading e = cc
