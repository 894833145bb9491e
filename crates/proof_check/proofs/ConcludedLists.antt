-- What a node concludes whose parts stand in a list, under a hypothesis or over a variable.
use Rattle.std.specs.Prelude.{ℕ, ◌≡◌, ◌↔◌, ◌+◌, ◌-◌, ◌<◌, ◌≤◌, ◌^◌, List, [], ◌∷◌, ◌++◌, Some, None, Option, refl, length, drop, map, reverse, Bool, IsTrue}
use Rattle.std.specs.List.{AllByRecursion, All}
use Rattle.std.proofs.Common.{ap, sym, subst, ◌∙◌, arith, get_or, zero, suc, add-one}
use Rattle.std.proofs.lemmas.List.{length-reverse}
use Rattle.fof_terms.specs.Vocabulary.{Vocabulary}
use Rattle.fof_terms.specs.declared.form.Form.{Form, Not, And, Or}
use Rattle.fof_terms.specs.Sorts.{IsScope, Sorted}
use Rattle.fof_terms.proofs.Scoped.{not_sorted, sorted_of_or}
use Rattle.fof_terms.proofs.Moved.{lifted_over}
use Rattle.fof_terms.specs.Lift.{lifted, lift_reach}
use Rattle.fof_terms.proofs.Reaches.{lift_fits}
use Rattle.fof_terms.proofs.Trees.{Or-injective}
use Rattle.kernel.specs.Statements.{Statements}
use Rattle.kernel.specs.Proves.{Proves, all_over}
use Rattle.kernel.specs.code.Rules.{ProveAll}
use Rattle.kernel.specs.Rules.{ProveEach}
use Rattle.kernel.proofs.RuleEquivalences.{Proves-AndI, Proves-OrE, Proves-Raa}
use Rattle.kernel.proofs.Building.{shown_sorted, by_and_i, by_or_e, by_raa}
use Rattle.proof_check.specs.Concludes.{Concludes, IsContext}
use Rattle.proof_check.specs.code.Concludes.{ConcludesUnder, Kept, EachUnder, IsReach}
use Rattle.kernel.specs.declared.proof.Proof.{Proof, AndI, OrE, Raa}
use Rattle.proof_check.proofs.Concluded.{some_same, only}

-- what is in reach further inside
pub reach_under : (v : Vocabulary) (scope : List ℕ) (h : List Form) (room crossed : ℕ) (b : Form) → IsReach v scope h room crossed → Sorted v scope b → IsReach v scope (b ∷ h) room crossed
reach_under v scope h room crossed b r s = record { scope_fits = r.scope_fits; room_left = r.room_left; few_crossed = r.few_crossed; hyps_sorted = (s, r.hyps_sorted) }

all_lifted : (v : Vocabulary) (scope : List ℕ) (s : ℕ) (h : List Form) → IsScope v (s ∷ scope) → AllByRecursion (Sorted v scope) h → AllByRecursion (Sorted v (s ∷ scope)) (map (lifted 1 0) h)
all_lifted v scope s [] sc all = tt
all_lifted v scope s (a ∷ h) sc all = (lifted_over v scope 2147483647 s a sc all.0, all_lifted v scope s h sc all.1)

scope_over : (v : Vocabulary) (scope : List ℕ) (h : List Form) (room crossed s : ℕ) → IsReach v scope h room crossed → (0 < room) × (s < length v.sorts) → IsScope v (s ∷ scope)
scope_over v scope h room crossed s r has = record { few_variables = omega (arith, r.room_left, has.0); sorts_exist = (has.1, r.scope_fits.sorts_exist) }

pub reach_over : (v : Vocabulary) (scope : List ℕ) (h : List Form) (room crossed s : ℕ) → IsReach v scope h room crossed → (0 < room) × (s < length v.sorts) → IsReach v (s ∷ scope) (all_over h) (room - 1) (crossed + 1)
reach_over v scope h room crossed s r has = record {
  scope_fits = scope_over v scope h room crossed s r has;
  room_left = omega (arith, r.room_left, has.0);
  few_crossed = omega (arith, r.few_crossed);
  hyps_sorted = all_lifted v scope s h (scope_over v scope h room crossed s r has) r.hyps_sorted;
}

by_recursion : {X : Type 0} (P : X → Type 0) (xs : List X) → All P xs → AllByRecursion P xs
by_recursion P [] all = tt
by_recursion P (x ∷ xs) all = (all zero x (omega arith), by_recursion P xs (λ i d lt. all (suc i) d (omega arith)))

pub context_reach : (v : Vocabulary) (sorts : List ℕ) (hyps : List Form) → IsContext v (reverse sorts) (reverse hyps) → IsReach v (reverse sorts) (reverse hyps) (2147483647 - length sorts) 0
context_reach v sorts hyps r =
    let same : length (reverse sorts) ≡ length sorts = length-reverse sorts in
    record { scope_fits = r.scope_fits; room_left = omega (arith, same, r.scope_fits.few_variables); few_crossed = omega arith; hyps_sorted = by_recursion (Sorted v (reverse sorts)) (reverse hyps) r.hyps_sorted }

each_lifts : (v : Vocabulary) (scope : List ℕ) (h : List Form) → AllByRecursion (Sorted v scope) h → AllByRecursion (λ a. lift_reach 1 0 a < 2 ^ 32) h
each_lifts v scope [] all = tt
each_lifts v scope (a ∷ h) all = (lift_fits v scope a all.0, each_lifts v scope h all.1)

pub reach_lifts : (v : Vocabulary) (scope : List ℕ) (h : List Form) (room crossed : ℕ) → IsReach v scope h room crossed → AllByRecursion (λ a. lift_reach 1 0 a < 2 ^ 32) h
reach_lifts v scope h room crossed r = each_lifts v scope h r.hyps_sorted

pub reach_few : (v : Vocabulary) (scope : List ℕ) (h : List Form) (room crossed : ℕ) → IsReach v scope h room crossed → crossed < 2 ^ 32
reach_few v scope h room crossed r = omega (arith, r.few_crossed, r.scope_fits.few_variables)

module _ (t : Statements) (v : List ℕ) (h : List Form) where
  pub shown_fits : (p : Proof) (shown : Option Form) → Concludes t v h p shown → (a : Form) → shown ≡ Some a → Sorted t.vocabulary v a
  shown_fits p shown co a e = shown_sorted t v h p a ((co a).0 e)

  pub under_yes : (b : Form) (p : Proof) (r : Option Form) → Sorted t.vocabulary v b → Concludes t v (b ∷ h) p r → ConcludesUnder t v h b p r
  under_yes b p r fits co a = (λ x. (fits, (co a).0 x), λ w. (co a).1 w.1)

  pub under_no : (b : Form) (p : Proof) → (Sorted t.vocabulary v b → ⊥) → ConcludesUnder t v h b p None
  under_no b p none a = (λ x. cc, λ w. absurd (none w.0))

  pub over_no : (s room : ℕ) (p : Proof) → length v + room ≡ 2147483647 → ((0 < room) × (s < length t.vocabulary.sorts) → ⊥) → Concludes t (s ∷ v) h p None
  over_no s room p left none a = (
    λ x. cc,
    λ w. let scope = (shown_sorted t (s ∷ v) h p a w).scope_fits in absurd (none (omega (arith, left, scope.few_variables), scope.sorts_exist.0)),
  )

  pub over_under_no : (s room : ℕ) (b : Form) (p : Proof) → length v + room ≡ 2147483647 → ((0 < room) × (s < length t.vocabulary.sorts) → ⊥) → ConcludesUnder t (s ∷ v) h b p None
  over_under_no s room b p left none a = (
    λ x. cc,
    λ w. let scope = w.0.scope_fits in absurd (none (omega (arith, left, scope.few_variables), scope.sorts_exist.0)),
  )

  pub and_i_some : (ps : List Proof) (found : Option (List Form)) (r : Option Form) (forms : List Form) → IsScope t.vocabulary v → ((as_ : List Form) → (found ≡ Some as_) ↔ ProveAll t v h ps as_)
      → found ≡ Some forms → r ≡ Some (And forms) → Concludes t v h (AndI ps) r
  and_i_some ps found r forms sc all e er a = (
    λ x. subst (Proves t v h (AndI ps)) (some_same (sym er ∙ x)) (by_and_i t v h ps forms sc ((all forms).0 e)),
    λ w.
        let g = ((Proves-AndI t v h ps a).0 w).1 in
        let both : Some forms ≡ Some g.0 = sym e ∙ (all g.0).1 g.2 in
        let one : forms ≡ g.0 = cc in
        er ∙ ap Some (ap And one ∙ sym g.1),
  )

  pub and_i_none : (ps : List Proof) (found : Option (List Form)) → ((as_ : List Form) → (found ≡ Some as_) ↔ ProveAll t v h ps as_) → found ≡ None → Concludes t v h (AndI ps) None
  and_i_none ps found all e a = (
    λ x. cc,
    λ w.
        let g = ((Proves-AndI t v h ps a).0 w).1 in
        let both : None ≡ Some g.0 = sym e ∙ (all g.0).1 g.2 in
        cc,
  )

  shown_each : (goal : Form) (ps : List Proof) (bs : List Form) → EachUnder t v h goal ps bs → ProveEach t v h ps bs goal
  shown_each goal [] [] e = e
  shown_each goal [] (b ∷ bs) e = absurd e
  shown_each goal (p ∷ ps) [] e = absurd e
  shown_each goal (p ∷ ps) (b ∷ bs) e = (e.0.1, shown_each goal ps bs e.1)

  under_each : (goal : Form) (ps : List Proof) (bs : List Form) → AllByRecursion (Sorted t.vocabulary v) bs → ProveEach t v h ps bs goal → EachUnder t v h goal ps bs
  under_each goal [] [] all e = e
  under_each goal [] (b ∷ bs) all e = absurd e
  under_each goal (p ∷ ps) [] all e = absurd e
  under_each goal (p ∷ ps) (b ∷ bs) all e = ((all.0, e.0), under_each goal ps bs all.1 e.1)

  pub or_e_some : (goal : Form) (p : Proof) (cases : List Proof) (members : List Form) (shown : Option Form) (holds : Bool) (r : Option Form) → shown ≡ Some (Or members)
      → (IsTrue holds ↔ EachUnder t v h goal cases members) → Kept t v goal holds r → Concludes t v h p shown → Concludes t v h (OrE goal p cases) r
  or_e_some goal p cases members shown holds r e test keep cp a = (
    λ x.
        let k = (keep a).0 x in
        subst (Proves t v h (OrE goal p cases)) (sym k.0) (by_or_e t v h goal p cases members k.2 ((cp (Or members)).0 e) (shown_each goal cases members (test.0 k.1))),
    λ w.
        let g = (Proves-OrE t v h goal p cases a).0 w in
        let one : members ≡ g.2.0 = Or-injective members g.2.0 (only t v h p shown (Or members) (Or g.2.0) cp e g.2.1) in
        let sorted = sorted_of_or t.vocabulary v 2147483647 members (shown_fits p shown cp (Or members) e) in
        let each : ProveEach t v h cases members goal = subst (ProveEach t v h cases members) g.1 (subst (λ ms. ProveEach t v h cases ms a) (sym one) g.2.2) in
        (keep a).1 (g.1, test.1 (under_each goal cases members sorted each), subst (Sorted t.vocabulary v) g.1 g.0),
  )

  pub or_e_none : (goal : Form) (p : Proof) (cases : List Proof) (shown : Option Form) → Concludes t v h p shown → ((members : List Form) → shown ≡ Some (Or members) → ⊥) → Concludes t v h (OrE goal p cases) None
  or_e_none goal p cases shown cp none a = (λ x. cc, λ w. let g = ((Proves-OrE t v h goal p cases a).0 w).2 in absurd (none g.0 ((cp (Or g.0)).1 g.1)))

  pub raa_shown : (goal : Form) (p : Proof) (shown : Option Form) (holds : Bool) (r : Option Form) → ConcludesUnder t v h (Not goal) p shown → (IsTrue holds ↔ (shown ≡ Some (Or []))) → Kept t v goal holds r
      → Concludes t v h (Raa goal p) r
  raa_shown goal p shown holds r cu test keep a = (
    λ x.
        let k = (keep a).0 x in
        subst (Proves t v h (Raa goal p)) (sym k.0) (by_raa t v h goal p k.2 ((cu (Or [])).0 (test.0 k.1)).1),
    λ w.
        let g = (Proves-Raa t v h goal p a).0 w in
        let fits = subst (Sorted t.vocabulary v) g.1 g.0 in
        (keep a).1 (g.1, test.1 ((cu (Or [])).1 (not_sorted t.vocabulary v 2147483647 goal fits, subst (λ b. Proves t v (Not b ∷ h) p (Or [])) g.1 g.2)), fits),
  )

nothing_left : {X : Type 0} (xs : List X) (i : ℕ) → length xs ≤ i → drop i xs ≡ []
nothing_left [] zero le = refl
nothing_left [] (suc i) le = refl
nothing_left (x ∷ xs) zero le = absurd (omega arith)
nothing_left (x ∷ xs) (suc i) le = nothing_left xs i (omega arith)

-- lists of proofs beside lists of formulas
module _ (t : Statements) (v : List ℕ) (h : List Form) (goal : Form) where
  pub each_length : (cases : List Proof) (members : List Form) → EachUnder t v h goal cases members → length cases ≡ length members
  each_length [] [] e = refl
  each_length [] (m ∷ members) e = absurd e
  each_length (p ∷ cases) [] e = absurd e
  each_length (p ∷ cases) (m ∷ members) e = ap suc (each_length cases members e.1)

  pub each_at : (cases : List Proof) (members : List Form) (i : ℕ) (q : Proof) (b : Form) → i < length cases → i < length members
      → EachUnder t v h goal (drop i cases) (drop i members)
      ↔ ((Sorted t.vocabulary v (get_or members i b) × Proves t v (get_or members i b ∷ h) (get_or cases i q) goal) × EachUnder t v h goal (drop (i + 1) cases) (drop (i + 1) members))
  each_at [] members i q b k l = absurd (omega arith)
  each_at (p ∷ cases) [] i q b k l = absurd (omega arith)
  each_at (p ∷ cases) (m ∷ members) zero q b k l = (λ x. x, λ x. x)
  each_at (p ∷ cases) (m ∷ members) (suc i) q b k l =
      let here = each_at cases members i q b (omega arith) (omega arith) in
      let here' : EachUnder t v h goal (drop i cases) (drop i members)
      ↔ ((Sorted t.vocabulary v (get_or members i b) × Proves t v (get_or members i b ∷ h) (get_or cases i q) goal) × EachUnder t v h goal (drop (suc i) cases) (drop (suc i) members)) = rw (add-one) at here in
      rw add-one here'

  pub each_end : (cases : List Proof) (members : List Form) (i : ℕ) → length cases ≤ i → length members ≤ i → EachUnder t v h goal (drop i cases) (drop i members)
  each_end cases members i k l = rw (nothing_left cases i k, nothing_left members i l) tt

module _ (t : Statements) (v : List ℕ) (h : List Form) where
  abbrev pub AllFound : List Proof → List Form → Type 0
  AllFound ps forms = (as_ : List Form) → (forms ≡ as_) ↔ ProveAll t v h ps as_

  pub found_none : AllFound [] []
  found_none [] = (λ e. tt, λ w. refl)
  found_none (a ∷ as_) = (λ e. cc, λ w. absurd w)

  one_more : (ps : List Proof) (as_ : List Form) (p : Proof) (b : Form) → ProveAll t v h ps as_ → Proves t v h p b → ProveAll t v h (ps ++ p ∷ []) (as_ ++ b ∷ [])
  one_more [] [] p b w z = (z, tt)
  one_more [] (a ∷ as_) p b w z = absurd w
  one_more (q ∷ ps) [] p b w z = absurd w
  one_more (q ∷ ps) (a ∷ as_) p b w z = (w.0, one_more ps as_ p b w.1 z)

  one_less : (ps : List Proof) (cs : List Form) (p : Proof) → ProveAll t v h (ps ++ p ∷ []) cs → (as_ : List Form) × (b : Form) × (cs ≡ as_ ++ b ∷ []) × ProveAll t v h ps as_ × Proves t v h p b
  one_less [] [] p w = absurd w
  one_less [] (c ∷ []) p w = ([], c, refl, tt, w.0)
  one_less [] (c ∷ (d ∷ cs)) p w = absurd w.1
  one_less (q ∷ ps) [] p w = absurd w
  one_less (q ∷ ps) (c ∷ cs) p w = let rest = one_less ps cs p w.1 in (c ∷ rest.0, rest.1, ap (λ xs. c ∷ xs) rest.2, (w.0, rest.3), rest.4)

  pub found_more : (ps : List Proof) (forms : List Form) (p : Proof) (shown : Option Form) (b : Form) → AllFound ps forms → Concludes t v h p shown → shown ≡ Some b → AllFound (ps ++ p ∷ []) (forms ++ b ∷ [])
  found_more ps forms p shown b all co e cs = (
    λ same. subst (ProveAll t v h (ps ++ p ∷ [])) same (one_more ps forms p b ((all forms).0 refl) ((co b).0 e)),
    λ w.
        let parts = one_less ps cs p w in
        let front : forms ≡ parts.0 = (all parts.0).1 parts.3 in
        let last : b ≡ parts.1 = some_same (sym e ∙ (co parts.1).1 parts.4) in
        ap (λ xs. xs ++ b ∷ []) front ∙ (ap (λ c. parts.0 ++ c ∷ []) last ∙ sym parts.2),
  )

  pub found_at : (ps : List Proof) (i : ℕ) (d : Proof) (as_ : List Form) → i < length ps → ProveAll t v h ps as_ → (b : Form) × Proves t v h (get_or ps i d) b
  found_at [] i d as_ lt w = absurd (omega arith)
  found_at (p ∷ ps) i d [] lt w = absurd w
  found_at (p ∷ ps) zero d (a ∷ as_) lt w = (a, w.0)
  found_at (p ∷ ps) (suc i) d (a ∷ as_) lt w = found_at ps i d as_ (omega arith) w.1

  pub found_missing : (ps : List Proof) (i : ℕ) (d : Proof) (p : Proof) (shown : Option Form) → i < length ps → get_or ps i d ≡ p → Concludes t v h p shown → shown ≡ None → (as_ : List Form) → ProveAll t v h ps as_ → ⊥
  found_missing ps i d p shown lt same co e as_ w =
      let here = found_at ps i d as_ lt w in
      let both : None ≡ Some here.0 = sym e ∙ (co here.0).1 (subst (λ q. Proves t v h q here.0) same here.1) in
      cc

  pub found_all : (ps : List Proof) (forms : List Form) → AllFound ps forms → (as_ : List Form) → (Some forms ≡ Some as_) ↔ ProveAll t v h ps as_
  found_all ps forms all as_ = (λ e. (all as_).0 (cc), λ w. ap Some ((all as_).1 w))
