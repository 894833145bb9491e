-- Formulas on a way through quantifiers and conjunctions, and goals by their literals, as code meets them.
use Rattle.std.specs.Prelude.{ℕ, ◌≡◌, ◌+◌, ◌-◌, ◌<◌, ◌≤◌, ◌^◌, List, [], ◌∷◌, ◌++◌, length, take, get_or, Some, slice_get, refl}
use Rattle.std.specs.List.{AllByRecursion}
use Rattle.std.proofs.Common.{ap, sym, subst, ◌∙◌, arith}
use Rattle.std.proofs.lemmas.List.{take_all, take_more}
use Rattle.fof_terms.specs.declared.form.Form.{Form, And, Or, All}
use Rattle.fof_terms.specs.declared.term.Term.{Term}
use Rattle.fof_terms.specs.Instance.{instance_at, instance_reach}
use Rattle.fof_terms.specs.Sorts.{Sorted, sort_of_term, binder_depth}
use Rattle.fof_terms.specs.Vocabulary.{Vocabulary}
use Rattle.fof_terms.proofs.MoreReaches.{instance_reach_fits}
use Rattle.fof_terms.proofs.Moved.{instance_sorted}
use Rattle.fof_terms.proofs.Scoped.{member_of, sorted_of_and, sorted_of_or}
use Rattle.fof_terms.proofs.SortsFacts.{binder_depth-All}
use Rattle.kernel.specs.Statements.{Statements}
use Rattle.kernel.specs.Proves.{Proves}
use Rattle.kernel.specs.Rules.{ProveEach}
use Rattle.kernel.specs.declared.proof.Proof.{Proof, Hyp, AndE, OrI, AllE}
use Rattle.kernel.proofs.Building.{shown_sorted, by_hyp, by_and_e, by_or_i, by_all_e}
use Rattle.clause_proofs.specs.Refuting.{theory_of}
use Rattle.norm_parts.specs.code.Instances.{IsNext, Reaches, IsArm, AreArms}
use Rattle.norm_parts.specs.declared.instances.Shown.{Shown}

module _ (w : Vocabulary) (v : List ℕ) where
  pub next_itself : (s : Shown) → Sorted w v s.form → IsNext w v s s
  next_itself s sorted = record { sorted = sorted; leads = λ formulas h p. p }

  pub next_then : (a b c : Shown) → IsNext w v a b → IsNext w v b c → IsNext w v a c
  next_then a b c f g = record { sorted = g.sorted; leads = λ formulas h p. g.leads formulas h (f.leads formulas h p) }

  -- at a term
  pub next_instance : (old new : Shown) (s : ℕ) (b : Form) (x : Term) → Sorted w v old.form → old.form ≡ All s b → sort_of_term w v x ≡ Some s → new.form ≡ instance_at x 0 b → new.part ≡ AllE x old.part → IsNext w v old new
  next_instance old new s b x sorted is fits form part = record {
    sorted = subst (Sorted w v) (sym form) (instance_sorted w v 2147483647 s b x fits (subst (Sorted w v) is sorted));
    leads = λ formulas h p.
        let t = theory_of w formulas in
        let own : Proves t v h old.part (All s b) = subst (λ (a : Form). Proves t v h old.part a) is p in
        subst (λ (a : Form). Proves t v h new.part a) (sym form) (subst (λ (q : Proof). Proves t v h q (instance_at x 0 b)) (sym part) (by_all_e t v h x old.part s b fits own));
  }

  pub instance_room : (form : Form) (s : ℕ) (b lent : Form) (x : Term) → Sorted w v form → form ≡ All s b → lent ≡ b → sort_of_term w v x ≡ Some s → instance_reach x 0 lent < 2 ^ 32
  instance_room form s b lent x sorted is same fits =
      let r = subst (Sorted w v) is sorted in
      let few : binder_depth b + 1 ≤ 2147483647 = rw binder_depth-All at r.few_binders in
      subst (λ (a : Form). instance_reach x 0 a < 2 ^ 32) (sym same) (instance_reach_fits w v x s b fits r.scope_fits.few_variables (omega arith))

  -- a member
  pub next_member : (old new : Shown) (ms : List Form) (k : ℕ) (m : Form) → Sorted w v old.form → old.form ≡ And ms → slice_get ms k ≡ Some m → new.form ≡ m → new.part ≡ AndE k old.part → IsNext w v old new
  next_member old new ms k m sorted is at form part = record {
    sorted = subst (Sorted w v) (sym form) (member_of (Sorted w v) ms k m (sorted_of_and w v 2147483647 ms (subst (Sorted w v) is sorted)) at);
    leads = λ formulas h p.
        let t = theory_of w formulas in
        let own : Proves t v h old.part (And ms) = subst (λ (a : Form). Proves t v h old.part a) is p in
        subst (λ (a : Form). Proves t v h new.part a) (sym form) (subst (λ (q : Proof). Proves t v h q m) (sym part) (by_and_e t v h k old.part ms m at own));
  }

-- the goal itself as hypothesis 0
pub arm_itself : (goal literal : Form) (p : Proof) → literal ≡ goal → p ≡ Hyp 0 → IsArm goal literal p
arm_itself goal literal p same is = λ t v h sl sg.
    subst (λ (a : Form). Proves t v (literal ∷ h) p a) same (subst (λ (q : Proof). Proves t v (literal ∷ h) q literal) (sym is) (by_hyp t v (literal ∷ h) 0 literal sl refl))

-- a member of the goal
pub arm_member : (goal literal : Form) (ms lent copied : List Form) (place number : ℕ) (own p : Proof) → goal ≡ Or ms → lent ≡ ms → copied ≡ lent → slice_get lent place ≡ Some literal → number ≡ place → own ≡ Hyp 0 → p ≡ OrI copied number own → IsArm goal literal p
arm_member goal literal ms lent copied place number own p is same copy at here first e = λ t v h sl sg.
    let all : copied ≡ ms = copy ∙ same in
    let whole : Or copied ≡ goal = ap Or all ∙ sym is in
    let there : slice_get copied number ≡ Some literal = ap (slice_get copied) here ∙ ap (λ (xs : List Form). slice_get xs place) copy ∙ at in
    let hs = literal ∷ h in
    let by : Proves t v hs own literal = subst (λ (q : Proof). Proves t v hs q literal) (sym first) (by_hyp t v hs 0 literal sl refl) in
    let made : Proves t v hs (OrI copied number own) (Or copied) = by_or_i t v hs copied number own literal (subst (Sorted t.vocabulary v) (sym whole) sg) there by in
    subst (λ (a : Form). Proves t v hs p a) whole (subst (λ (q : Proof). Proves t v hs q (Or copied)) (sym e) made)

-- each of the literals, as far as a loop has come
arms_append : (goal : Form) (bs : List Form) (ps : List Proof) (b : Form) (p : Proof) → AreArms goal bs ps → IsArm goal b p → AreArms goal (bs ++ b ∷ []) (ps ++ p ∷ [])
arms_append goal [] [] b p h one = (one, tt)
arms_append goal [] (q ∷ ps) b p h one = absurd h
arms_append goal (a ∷ bs) [] b p h one = absurd h
arms_append goal (a ∷ bs) (q ∷ ps) b p h one = (h.0, arms_append goal bs ps b p h.1 one)

pub arms_next : (goal : Form) (literals : List Form) (i : ℕ) (b : Form) (ps more : List Proof) (p q : Proof) → i < length literals → b ≡ get_or literals i b → AreArms goal (take i literals) ps → IsArm goal b p → q ≡ p → more ≡ ps ++ q ∷ []
    → AreArms goal (take (i + 1) literals) more
arms_next goal literals i b ps more p q lt is h one same e =
    let longer : take (i + 1) literals ≡ take i literals ++ b ∷ [] = take_more literals i b lt ∙ ap (λ (x : Form). take i literals ++ x ∷ []) (sym is) in
    let made : more ≡ ps ++ p ∷ [] = e ∙ ap (λ (x : Proof). ps ++ x ∷ []) same in
    subst (λ (xs : List Form). AreArms goal xs more) (sym longer) (subst (AreArms goal (take i literals ++ b ∷ [])) (sym made) (arms_append goal (take i literals) ps b p h one))

pub arms_last : (goal : Form) (literals : List Form) (i : ℕ) (ps : List Proof) → length literals ≤ i → AreArms goal (take i literals) ps → AreArms goal literals ps
arms_last goal literals i ps le h = subst (λ (xs : List Form). AreArms goal xs ps) (take_all i literals le) h

arms_prove : (goal : Form) (bs : List Form) (ps : List Proof) → AreArms goal bs ps → (t : Statements) (v : List ℕ) (h : List Form) → AllByRecursion (Sorted t.vocabulary v) bs → Sorted t.vocabulary v goal → ProveEach t v h ps bs goal
arms_prove goal [] [] arms t v h all sg = tt
arms_prove goal [] (p ∷ ps) arms t v h all sg = absurd arms
arms_prove goal (b ∷ bs) [] arms t v h all sg = absurd arms
arms_prove goal (b ∷ bs) (p ∷ ps) arms t v h all sg = (arms.0 t v h all.0 sg, arms_prove goal bs ps arms.1 t v h all.1 sg)

-- The goal, by a formula that is shown.
pub reach_itself : (shown : Shown) (goal form : Form) (p : Proof) → form ≡ shown.form → form ≡ goal → p ≡ shown.part → Reaches shown goal p
reach_itself shown goal form p own same is = λ t v h sg by.
    subst (λ (a : Form). Proves t v h p a) (sym own ∙ same) (subst (λ (q : Proof). Proves t v h q shown.form) (sym is) by)

-- what the proof shows by a disjunction and an arm for each of its members
abbrev pub IsByCases : Proof → List Proof → Form → Proof → Type 0
IsByCases choice arms goal p = (t : Statements) (v : List ℕ) (h as_ : List Form) → Sorted t.vocabulary v goal → Proves t v h choice (Or as_) → ProveEach t v h arms as_ goal → Proves t v h p goal

pub reach_cases : (shown : Shown) (goal copied form : Form) (bs lent : List Form) (arms : List Proof) (part p : Proof) → form ≡ shown.form → form ≡ Or bs → lent ≡ bs → copied ≡ goal → part ≡ shown.part → AreArms goal lent arms → IsByCases part arms copied p
    → Reaches shown goal p
reach_cases shown goal copied form bs lent arms part p own is same copy from each by = λ t v h sg shows.
    let whole : Proves t v h part (Or bs) = subst (λ (a : Form). Proves t v h part a) (sym own ∙ is) (subst (λ (q : Proof). Proves t v h q shown.form) (sym from) shows) in
    let all : AllByRecursion (Sorted t.vocabulary v) bs = sorted_of_or t.vocabulary v 2147483647 bs (shown_sorted t v h part (Or bs) whole) in
    let arms' : ProveEach t v h arms bs goal = arms_prove goal bs arms (subst (λ (xs : List Form). AreArms goal xs arms) same each) t v h all sg in
    subst (λ (a : Form). Proves t v h p a) copy
    (by t v h bs (subst (Sorted t.vocabulary v) (sym copy) sg) whole (subst (λ (a : Form). ProveEach t v h arms bs a) (sym copy) arms'))

pub reach_arm : (shown : Shown) (goal form fact : Form) (arm part p : Proof) → form ≡ shown.form → fact ≡ form → part ≡ shown.part → IsArm goal form arm
    → ((t : Statements) (v : List ℕ) (h : List Form) (a : Form) → Proves t v h part fact → Proves t v (fact ∷ h) arm a → Proves t v h p a) → Reaches shown goal p
reach_arm shown goal form fact arm part p own same from one cuts = λ t v h sg shows.
    let whole : Proves t v h part form = subst (λ (a : Form). Proves t v h part a) (sym own) (subst (λ (q : Proof). Proves t v h q shown.form) (sym from) shows) in
    let under : Proves t v (form ∷ h) arm goal = one t v h (shown_sorted t v h part form whole) sg in
    cuts t v h goal (subst (λ (a : Form). Proves t v h part a) (sym same) whole) (subst (λ (a : Form). Proves t v (a ∷ h) arm goal) (sym same) under)
