-- Lemmas on what specs/Room defines.
use Rattle.std.specs.Prelude.{ℕ, ◌+◌, ◌-◌, ◌≡◌, ◌<◌, ◌≤◌, ◌^◌, Bool, true, false, List, [], ◌∷◌, ◌++◌, length, map, take, drop, get_or, slice_get, Some, refl}
use Rattle.std.specs.List.{AllByRecursion}
use Rattle.std.proofs.Common.{ap, sym, subst, ◌∙◌, arith, zero, suc, append_assoc, add-one, inl, inr}
use Rattle.std.proofs.Math.Seq.{drop-cons}
use Rattle.std.proofs.lemmas.Bool.Decides.{nat_tests}
use Rattle.std.proofs.lemmas.Option.{slice_get_within}
use Rattle.std.proofs.lemmas.Simd.{map-map}
use Rattle.std.proofs.lemmas.List.{append-nil, length-append}
use Rattle.fof_terms.specs.Vocabulary.{Vocabulary}
use Rattle.fof_terms.proofs.Induction.{term_induction}
use Rattle.fof_terms.proofs.LiftingLaws.{below_or_above, stays, moves, each_true, one_found, applied_found, holds_found}
use Rattle.fof_terms.specs.Lift.{greatest, lifted_term, lifted, lift_term_reach, lift_reach}
use Rattle.fof_terms.proofs.LiftFacts.{lifted_term-Var, lifted_term-App, lifted-Atom, lifted-Eq, lifted-Not, lifted-And, lifted-Or, lift_term_reach-Var, lift_term_reach-App, lift_reach-Atom, lift_reach-Eq, lift_reach-Not, lift_reach-And, lift_reach-Or}
use Rattle.fof_terms.specs.Sorts.{sort_of_term, is_sorted}
use Rattle.fof_terms.proofs.SortsFacts.{sort_of_term-Var, sort_of_term-App, is_sorted-Atom, is_sorted-Eq, is_sorted-Not}
use Rattle.fof_terms.specs.declared.term.Term.{Term, Var, App}
use Rattle.fof_terms.specs.declared.form.Form.{Form}
use Rattle.clause_form.specs.declared.clause.AtomOf.{AtomOf}
use Rattle.clause_form.specs.declared.clause.AtomOf.TheVariants.{Pred, Eq as Equation, True, False}
use Rattle.clause_form.specs.declared.clause.Lit.{Lit}
use Rattle.clause_form.specs.declared.clause.Clause.{Clause}
use Rattle.clause_form.specs.Norm.{signed}
use Rattle.clause_form.specs.ClauseView.{form_of_atom, form_of_lit, form_of_lits}
use Rattle.clause_form.specs.Covers.{in_lit}
use Rattle.clause_form.specs.Paths.{all_beside}
use Rattle.clause_form.specs.code.Beside.{moved, segments}
use Rattle.clause_form.specs.Beside.{all_sorts}
use Rattle.clause_form.proofs.BesideFacts.{lit_twice, clause_with, beside_is}
use Rattle.clause_form.proofs.ReachedFacts.{lit_moved, around_length, members_fit}
use Rattle.clause_form.specs.Reached.{around, FitOver}
use Rattle.clause_form.specs.code.Room.{MovesWithin}
use Rattle.clause_form.specs.Room.{AreOver}

pub ruleset reach_rules = (lift_reach-Atom, lift_reach-Eq)

same_reach : (by n : ℕ) (g : Bool) (a : Form) → lift_reach by n (signed g a) ≡ lift_reach by n a
same_reach by n true a = refl
same_reach by n false a = lift_reach-Not by n a

signed_reach : (by n : ℕ) (l : Lit) → lift_reach by n (form_of_lit l) ≡ lift_reach by n (form_of_atom l.atom)
signed_reach by n l = same_reach by n l.positive (form_of_atom l.atom)

pub lit_reach : (by n : ℕ) (l : Lit) → lift_reach by n (form_of_lit l) < 2 ^ 32 → lift_reach by n (form_of_atom l.atom) < 2 ^ 32
lit_reach by n l h = rw (signed_reach by n l) at h

-- a number for each term, which is that of some variable in it
module _ (w : Vocabulary) (scope : List ℕ) (bound : ℕ) (r : Term → ℕ) (app : (f : ℕ) (ts : List Term) → r (App f ts) ≡ greatest (map r ts)) (var : (k : ℕ) → k < length scope → r (Var k) ≤ bound) where
  abbrev HasSort : Term → Type 0
  HasSort t = (s : ℕ) × (sort_of_term w scope t ≡ Some s)

  most : (ts : List Term) → AllByRecursion (λ t. HasSort t → r t ≤ bound) ts → AllByRecursion HasSort ts → greatest (map r ts) ≤ bound
  most [] all h = omega arith
  most (t ∷ ts) all h = omega (arith, all.0 h.0, most ts all.1 h.1)

  pub term_bound : (t : Term) → HasSort t → r t ≤ bound
  term_bound = term_induction _ (record {
    var = λ k h. var k (slice_get_within scope k h.0 (rw sort_of_term-Var at h.1));
    app = λ f ts all h. rw app (most ts all (applied_found (sort_of_term w scope) ts (slice_get w.symbols f) h.0 (rw sort_of_term-App at h.1)));
  })

  pub terms_bound : (ts : List Term) → AllByRecursion HasSort ts → greatest (map r ts) ≤ bound
  terms_bound [] h = omega arith
  terms_bound (t ∷ ts) h = omega (arith, term_bound t h.0, terms_bound ts h.1)

-- literals that are lifted over variables of their own, and again
module _ (w : Vocabulary) (scope : List ℕ) (e f n : ℕ) where
  first_var : (k : ℕ) → k < length scope → lift_term_reach f n (Var k) ≤ length scope + f
  first_var k h = rw lift_term_reach-Var (grind (arith, nat_tests))

  second_var : (k : ℕ) → k < length scope → lift_term_reach e 0 (lifted_term f n (Var k)) ≤ length scope + f + e
  second_var k h =
      elim (below_or_above k n) [
        | inl g ↦ rw (stays f n k g, lift_term_reach-Var) (grind (arith, nat_tests))
        | inr g ↦ rw (moves f n k g, lift_term_reach-Var) (grind (arith, nat_tests))
      ]

  second_app : (s : ℕ) (ts : List Term) → lift_term_reach e 0 (lifted_term f n (App s ts)) ≡ greatest (map (λ t. lift_term_reach e 0 (lifted_term f n t)) ts)
  second_app s ts = rw (lifted_term-App, lift_term_reach-App, map-map) refl

  abbrev First : Term → ℕ
  First = lift_term_reach f n

  abbrev Second : Term → ℕ
  Second t = lift_term_reach e 0 (lifted_term f n t)

  atom_reaches : (a : AtomOf) → is_sorted w scope (form_of_atom a) ≡ true → (lift_reach f n (form_of_atom a) ≤ length scope + f) × (lift_reach e 0 (lifted f n (form_of_atom a)) ≤ length scope + f + e)
  atom_reaches (Pred p ts) fits =
      let each = holds_found (sort_of_term w scope) ts (slice_get w.symbols p) (rw is_sorted-Atom at fits) in (
        rw lift_reach-Atom (terms_bound w scope (length scope + f) First (lift_term_reach-App f n) first_var ts each),
        rw (lifted-Atom, lift_reach-Atom, map-map) (terms_bound w scope (length scope + f + e) Second second_app second_var ts each),
      )
  atom_reaches (Equation l r) fits =
      let sides = one_found (sort_of_term w scope l) (sort_of_term w scope r) (rw is_sorted-Eq at fits) in (
        rw lift_reach-Eq (omega (arith, term_bound w scope (length scope + f) First (lift_term_reach-App f n) first_var l sides.0, term_bound w scope (length scope + f) First (lift_term_reach-App f n) first_var r sides.1)),
        rw (lifted-Eq, lift_reach-Eq)
            (omega (arith, term_bound w scope (length scope + f + e) Second second_app second_var l sides.0, term_bound w scope (length scope + f + e) Second second_app second_var r sides.1)),
      )
  atom_reaches True fits = (rw lift_reach-And (omega arith), rw (lifted-And, lift_reach-And) (omega arith))
  atom_reaches False fits = (rw lift_reach-Or (omega arith), rw (lifted-Or, lift_reach-Or) (omega arith))

  signed_reaches : (g : Bool) (a : AtomOf) → is_sorted w scope (signed g (form_of_atom a)) ≡ true → (lift_reach f n (signed g (form_of_atom a)) ≤ length scope + f) × (lift_reach e 0 (lifted f n (signed g (form_of_atom a))) ≤ length scope + f + e)
  signed_reaches true a fits = atom_reaches a fits
  signed_reaches false a fits =
      let inner = atom_reaches a (rw is_sorted-Not at fits) in
      (rw lift_reach-Not inner.0, rw (lifted-Not, lift_reach-Not) inner.1)

  lits_reach : length scope + f + e < 2 ^ 32 → (lits : List Lit) → AllByRecursion (λ a. is_sorted w scope a ≡ true) (map form_of_lit lits) → AllByRecursion (λ (l : Lit). MovesWithin e f n (form_of_lit l)) lits
  lits_reach room [] all = tt
  lits_reach room (l ∷ lits) all =
      let own = signed_reaches l.positive l.atom all.0 in
      ((omega arith, omega arith), lits_reach room lits all.1)

  pub all_reach : length scope + f + e < 2 ^ 32 → (lits : List Lit) → is_sorted w scope (form_of_lits lits) ≡ true → AllByRecursion (λ (l : Lit). MovesWithin e f n (form_of_lit l)) lits
  all_reach room lits fits = lits_reach room lits (each_true (is_sorted w scope) (map form_of_lit lits) (members_fit w scope lits ∙ fits))

-- Clauses one by one.
pub sorts_more : (cs : List Clause) (i : ℕ) (c : Clause) → i < length cs → c ≡ get_or cs i c → all_sorts (take (i + 1) cs) ≡ all_sorts (take i cs) ++ c.sorts
sorts_more [] i c lt is = absurd (omega arith)
sorts_more (d ∷ cs) zero c lt is = rw is (append-nil d.sorts)
sorts_more (d ∷ cs) (suc i) c lt is =
    let next : suc i + 1 ≡ suc (i + 1) = omega arith in
    rw (next, sorts_more cs i c (omega arith) is) (sym (append_assoc d.sorts (all_sorts (take i cs)) c.sorts))

pub from_here : (cs : List Clause) (i : ℕ) (c : Clause) → i < length cs → c ≡ get_or cs i c → drop i cs ≡ c ∷ drop (i + 1) cs
from_here cs i c lt is = drop-cons cs i c lt ∙ (rw (sym is, add-one) refl)

-- the segments up to a clause, and with it
abbrev pub Segmented : List Clause → ℕ → ℕ → List Clause → List Lit → Type 0
Segmented cs total before rest lits = (before + length (all_sorts rest) ≡ total) × (lits ++ segments before rest ≡ segments 0 cs)

pub segment_next : (cs : List Clause) (total before : ℕ) (rest : List Clause) (lits more : List Lit) (c : Clause) (after : ℕ) → before + length c.sorts + after ≡ total
    → more ≡ lits ++ map (in_lit (moved after before (length c.sorts))) c.lits → Segmented cs total before (c ∷ rest) lits → Segmented cs total (before + length c.sorts) rest more
segment_next cs total before rest lits more c after e em s =
    let count : length (c.sorts ++ all_sorts rest) ≡ length c.sorts + length (all_sorts rest) = length-append c.sorts (all_sorts rest) in
    let same : after ≡ length (all_sorts rest) = omega (arith, s.0, count, e) in (
      omega (arith, s.0, count),
      rw (em, same) (append_assoc lits (map (in_lit (moved (length (all_sorts rest)) before (length c.sorts))) c.lits) (segments (before + length c.sorts) rest) ∙ s.1),
    )

pub room_for : (cs : List Clause) (i : ℕ) (c : Clause) (total before : ℕ) (lits : List Lit) → drop i cs ≡ c ∷ drop (i + 1) cs → Segmented cs total before (drop i cs) lits
    → before + length c.sorts + (total - before - length c.sorts) ≡ total
room_for cs i c total before lits e s =
    let s' : Segmented cs total before (c ∷ drop (i + 1) cs) lits = subst (λ (rest : List Clause). Segmented cs total before rest lits) e s in
    let count : length (c.sorts ++ all_sorts (drop (i + 1) cs)) ≡ length c.sorts + length (all_sorts (drop (i + 1) cs)) = length-append c.sorts (all_sorts (drop (i + 1) cs)) in
    omega (arith, s'.0, count)

member_room : (cs : List Clause) (i : ℕ) (c : Clause) → i < length cs → c ≡ get_or cs i c → (w : Vocabulary) (scope : List ℕ) → FitOver w scope cs → is_sorted w (around c.sorts scope) (form_of_lits c.lits) ≡ true
member_room [] i c lt is w scope all = absurd (omega arith)
member_room (d ∷ cs) zero c lt is w scope all = rw is all.0
member_room (d ∷ cs) (suc i) c lt is w scope all = member_room cs i c (omega arith) is w scope all.1

pub member_moves : (cs : List Clause) (i : ℕ) (c : Clause) (after before total : ℕ) → i < length cs → c ≡ get_or cs i c → before + length c.sorts + after ≡ total → total ≡ length (all_sorts cs) → AreOver cs
    → AllByRecursion (λ (l : Lit). MovesWithin after before (length c.sorts) (form_of_lit l)) c.lits
member_moves cs i c after before total lt is e et o =
    let count = around_length c.sorts o.scope in
    let room : length (around c.sorts o.scope) + before + after < 2 ^ 32 = omega (arith, o.room, count, e, et) in
    all_reach o.vocabulary (around c.sorts o.scope) after before (length c.sorts) room c.lits (member_room cs i c lt is o.vocabulary o.scope o.fits)

-- As code meets them.
pub second_reach : (e f n : ℕ) (l inner : Lit) → inner ≡ in_lit (lifted_term f n) l → MovesWithin e f n (form_of_lit l) → lift_reach e 0 (form_of_lit inner) < 2 ^ 32
second_reach e f n l inner is m = rw (is, lit_moved f n l) m.1

pub moved_twice : (e f n : ℕ) (l inner made : Lit) → inner ≡ in_lit (lifted_term f n) l → made ≡ in_lit (lifted_term e 0) inner → made ≡ in_lit (moved e f n) l
moved_twice e f n l inner made is em = em ∙ ap (in_lit (lifted_term e 0)) is ∙ lit_twice (lifted_term e 0) (lifted_term f n) l

pub parts_beside : (cs : List Clause) (ss : List ℕ) (ls : List Lit) → ss ≡ all_sorts cs → ls ≡ segments 0 cs → clause_with ss ls ≡ all_beside cs
parts_beside cs ss ls e f = rw (e, f) (sym (beside_is cs))

pub segment_here : (cs : List Clause) (i : ℕ) (c : Clause) (total before : ℕ) (lits more own : List Lit) (n : ℕ) → drop i cs ≡ c ∷ drop (i + 1) cs → n ≡ length c.sorts → own ≡ c.lits
    → more ≡ lits ++ map (in_lit (moved (total - before - n) before n)) own → Segmented cs total before (drop i cs) lits → Segmented cs total (before + n) (drop (i + 1) cs) more
segment_here cs i c total before lits more own n e en eo em s =
    let s' : Segmented cs total before (c ∷ drop (i + 1) cs) lits = subst (λ (rest : List Clause). Segmented cs total before rest lits) e s in
    let em' : more ≡ lits ++ map (in_lit (moved (total - before - length c.sorts) before (length c.sorts))) c.lits = rw (en, eo) at em in
    rw en (segment_next cs total before (drop (i + 1) cs) lits more c (total - before - length c.sorts) (room_for cs i c total before lits e s) em' s')
