-- The proof between a formula and its flat form, as code puts it together.
use Rattle.std.specs.Prelude.{ℕ, ◌≡◌, ◌+◌, ◌<◌, ◌≤◌, ◌^◌, Bool, true, false, List, [], length, nat_eq, Option, Some, None, refl}
use Rattle.std.specs.List.{list_any}
use Rattle.std.proofs.Common.{ap, sym, subst, ◌∙◌, arith}
use Rattle.fof_terms.specs.declared.form.Form.{Form, Imp}
use Rattle.fof_terms.specs.Sorts.{Sorted, binder_depth}
use Rattle.clause_form.specs.ClauseView.{closed_by}
use Rattle.clause_form.specs.Norm.{norm_of}
use Rattle.clause_form.specs.Sizes.{norm_size_of}
use Rattle.clause_form.proofs.NormSize.{norm_small}
use Rattle.clause_form.proofs.SizeLaws.{depth_within_size}
use Rattle.kernel.specs.Statements.{Statements}
use Rattle.kernel.specs.Proves.{Proves}
use Rattle.kernel.specs.declared.proof.Proof.{Proof}
use Rattle.norm_proofs.specs.Placed.{SortedSomewhere}
use Rattle.norm_proofs.specs.code.Steps.{Between}
use Rattle.flat_form.specs.Flat.{pulled, pull_reach, order_of, flattened, flat_of}
use Rattle.flat_form.proofs.Depths.{body_depth}
use Rattle.flat_form.proofs.OwnNorms.{own_fixed, norm_own, own_of_norm}
use Rattle.flat_form.proofs.Reach.{pull_room}
use Rattle.flat_proofs.specs.code.Leading.{Leads}
use Rattle.flat_proofs.specs.code.Loose.{loose, closed_of}
use Rattle.flat_proofs.specs.code.Members.{room_of, IsSpacious}
use Rattle.flat_proofs.specs.code.Moving.{IsLed}
use Rattle.flat_proofs.specs.code.Permuting.{turned_by, loose_flat}
use Rattle.flat_proofs.proofs.LeadFacts.{leads_sorted, leads_roomier}
use Rattle.flat_proofs.proofs.LooseFacts.{loose_sorts}
use Rattle.flat_proofs.proofs.LooseFlat.{norm_of_loose}
use Rattle.flat_proofs.proofs.LooseSizes.{loose_depth, loose_count, loose_flat_small}
use Rattle.flat_proofs.proofs.Occurrence.{all_in_order}

pub start_spacious : (a : Form) → norm_size_of a ≤ 100000 → SortedSomewhere a → IsSpacious a
start_spacious a le s = record { vocabulary = s.0; scope = s.1; room = omega (arith, le, s.2); sorted = s.3 }

-- the formula that another leads to is well-sorted somewhere too
pub led_somewhere : (forth : Bool) (part : Option Proof) (a b c : Form) → Leads forth 1147483646 part a b → c ≡ b → SortedSomewhere a → SortedSomewhere c
led_somewhere forth part a b c l e s =
    let t : Statements = record { vocabulary = s.0; formulas = [] } in
    rw e (s.0, s.1, s.2, leads_sorted forth 1147483646 part a b l t s.1 (omega (arith, s.2)) s.3)

-- the normal form
pub norm_fits : (a norm : Form) → norm ≡ norm_of true a → norm_size_of a ≤ 100000 → norm_size_of norm ≤ 100000
norm_fits a norm e le = rw e (omega (arith, norm_small a true))

pub norm_normal : (a norm : Form) → norm ≡ norm_of true a → norm_of true norm ≡ norm
norm_normal a norm e = rw e (own_fixed (norm_of true a) (norm_own a true))

pub norm_room : (a : Form) → norm_size_of a ≤ 100000 → binder_depth a < 2 ^ 32
norm_room a le = omega (arith, depth_within_size a)

pub flat_is : (a norm flat : Form) → norm ≡ norm_of true a → flat ≡ flattened norm → flat ≡ flat_of a
flat_is a norm flat e f = f ∙ ap flattened e

-- room for what is pulled out
pub room_somewhere : (a : Form) → norm_size_of a ≤ 100000 → SortedSomewhere a → pull_reach a < 2 ^ 32
room_somewhere a le s = pull_room s.0 s.1 a s.2 s.3.fits le

module _ (a body : Form) (sorts : List ℕ) (small : norm_size_of a ≤ 100000) (es : sorts ≡ (loose a).sorts) where
  pub few_sorts : length sorts ≤ 100000
  few_sorts = let same = ap length es in omega (arith, loose_count a)

  pub loose_depths : body ≡ (loose a).body → binder_depth body < 2147483648
  loose_depths e = let same = ap binder_depth e in omega (arith, depth_within_size (loose a).body, loose_count a)

  pub pulled_depths : body ≡ (pulled a).body → binder_depth body < 2147483648
  pulled_depths e = let same = ap binder_depth e in omega (arith, body_depth a, depth_within_size a)

  pub all_stand : norm_of true a ≡ a → body ≡ (pulled a).body → (k : ℕ) → k < length sorts → list_any (nat_eq k) (order_of (length sorts) body) ≡ true
  all_stand own e k lt =
      let same : sorts ≡ (pulled a).sorts = es ∙ loose_sorts a in
      let lt' : k < length (pulled a).sorts = subst (λ (ss : List ℕ). k < length ss) same lt in
      rw (same, e) (all_in_order a (own_of_norm a own) k lt')

-- the loose form
module _ (a : Form) (sorts : List ℕ) (loose_body flat_body form : Form) (es : sorts ≡ (loose a).sorts) (el : loose_body ≡ (loose a).body) (ef : flat_body ≡ (pulled a).body) where
  pub loose_form : form ≡ turned_by (order_of (length sorts) flat_body) sorts loose_body → form ≡ loose_flat a
  loose_form e = let same : sorts ≡ (pulled a).sorts = es ∙ loose_sorts a in e ∙ rw (same, el, ef) refl

  pub loose_start : (forth : Bool) (part : Option Proof) → norm_size_of a ≤ 100000 → IsLed forth a part → Leads forth 1147483646 part a (closed_by sorts loose_body)
  loose_start forth part le l =
      let same : closed_of (loose a) ≡ closed_by sorts loose_body = ap (λ (ss : List ℕ). closed_by ss (loose a).body) (sym es) ∙ ap (closed_by sorts) (sym el) in
      subst (λ (c : Form). Leads forth 1147483646 part a c) same (leads_roomier forth (room_of a) 1147483646 part a (closed_of (loose a)) (omega arith) l)

  pub loose_room : norm_size_of a ≤ 100000 → binder_depth loose_body + length sorts ≤ 1147483646
  loose_room le =
      let one = ap binder_depth el in
      let two = ap length es in
      omega (arith, depth_within_size (loose a).body, loose_count a)

pub loose_fits : (a form : Form) → form ≡ loose_flat a → norm_size_of a ≤ 100000 → norm_size_of form ≤ 100000
loose_fits a form e le = rw e (omega (arith, loose_flat_small a))

pub loose_norm_is : (a form flat : Form) → norm_of true a ≡ a → form ≡ loose_flat a → flat ≡ flattened a → flat ≡ norm_of true form
loose_norm_is a form flat own e f = rw (e, f) (sym (norm_of_loose a (own_of_norm a own)))

-- the parts, as code puts them together
pub part_forth : (forth : Bool) (a : Form) (made : Proof) → forth ≡ true → ((t : Statements) (v : List ℕ) (h : List Form) → length v ≤ 1000000000 → Sorted t.vocabulary v a → Proves t v h made (Imp a (norm_of true a)))
    → Between forth 1147483646 made a (norm_of true a)
part_forth true a made holds l t v h room s = l t v h (omega arith) s
part_forth false a made holds l t v h room s = absurd (let never : false ≡ true = holds in cc)

pub part_back : (forth : Bool) (a : Form) (made : Proof) → forth ≡ false → ((t : Statements) (v : List ℕ) (h : List Form) → length v ≤ 1000000000 → Sorted t.vocabulary v a → Proves t v h made (Imp (norm_of true a) a))
    → Between forth 1147483646 made a (norm_of true a)
part_back true a made holds l t v h room s = absurd (let never : true ≡ false = holds in cc)
part_back false a made holds l t v h room s = l t v h (omega arith) s

pub norm_leads : (forth : Bool) (a norm : Form) (p : Proof) → norm ≡ norm_of true a → Between forth 1147483646 p a (norm_of true a) → Between forth 1147483646 p a norm
norm_leads forth a norm p e l = subst (λ (b : Form). Between forth 1147483646 p a b) (sym e) l

-- two steps, one after the other
abbrev pub Chains : Bool → Option Proof → Option Proof → Option Proof → Form → Form → Type 0
Chains forth before after made a c = (n : ℕ) (middle : Form) → Leads forth n before a middle → Leads forth n after middle c → Leads forth n made a c

pub whole_leads : (forth : Bool) (a norm again flat flat_now : Form) (first part whole : Option Proof) (made : Proof) → norm ≡ norm_of true a → again ≡ norm → flat ≡ flattened again → flat_now ≡ flat → Leads forth 1147483646 first a norm
    → Leads forth 1147483646 part again flat → Chains forth first part whole a flat_now → ((f : Bool) (n : ℕ) (b : Form) → Leads f n whole a b → Between f n made a b) → Between forth 1147483646 made a (flat_of a)
whole_leads forth a norm again flat flat_now first part whole made en ea ef el led step chain last =
    let step' : Leads forth 1147483646 part norm flat_now = subst (λ (b : Form). Leads forth 1147483646 part b flat_now) ea (subst (λ (c : Form). Leads forth 1147483646 part again c) (sym el) step) in
    let shown = last forth 1147483646 flat_now (chain 1147483646 norm led step') in
    let flat_is_of : flat_now ≡ flat_of a = el ∙ (ef ∙ ap flattened (ea ∙ en)) in
    subst (λ (c : Form). Between forth 1147483646 made a c) flat_is_of shown

pub step_leads : (forth : Bool) (a loose_form loose_now form form_now form_last : Form) (part last made : Option Proof) → loose_form ≡ loose_flat a → loose_now ≡ loose_form → form_now ≡ form → form_last ≡ form → Leads forth 1147483646 part a (loose_flat a)
    → Leads forth 1147483646 last loose_now form_now → Chains forth part last made a form_last → Leads forth 1147483646 made a form
step_leads forth a loose_form loose_now form form_now form_last part last made el en ef eg led step chain =
    let middle : loose_now ≡ loose_flat a = en ∙ el in
    let step' : Leads forth 1147483646 last (loose_flat a) form_last = subst (λ (b : Form). Leads forth 1147483646 last b form_last) middle (subst (λ (c : Form). Leads forth 1147483646 last loose_now c) (ef ∙ sym eg) step) in
    subst (λ (c : Form). Leads forth 1147483646 made a c) eg (chain 1147483646 (loose_flat a) led step')

pub loosened_leads : (a : Form) (sorts : List ℕ) (loose_body flat_body form : Form) → sorts ≡ (loose a).sorts → loose_body ≡ (loose a).body → flat_body ≡ (pulled a).body → (forth : Bool) (form_now : Form) (part turn made : Option Proof) → norm_size_of a ≤ 100000
    → form ≡ turned_by (order_of (length sorts) flat_body) sorts loose_body → form_now ≡ form → IsLed forth a part → ((n : ℕ) → binder_depth loose_body + length sorts ≤ n → Leads forth n turn (closed_by sorts loose_body) form)
    → Chains forth part turn made a form_now → Leads forth 1147483646 made a (loose_flat a)
loosened_leads a sorts loose_body flat_body form es el ef forth form_now part turn made le et en led turns chain =
    let start = loose_start a sorts loose_body flat_body form es el ef forth part le led in
    let next = turns 1147483646 (loose_room a sorts loose_body flat_body form es el ef le) in
    let next' : Leads forth 1147483646 turn (closed_by sorts loose_body) form_now = subst (λ (c : Form). Leads forth 1147483646 turn (closed_by sorts loose_body) c) (sym en) next in
    let whole = chain 1147483646 (closed_by sorts loose_body) start next' in
    subst (λ (c : Form). Leads forth 1147483646 made a c) (en ∙ loose_form a sorts loose_body flat_body form es el ef et) whole
