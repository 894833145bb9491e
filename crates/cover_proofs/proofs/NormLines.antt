-- Lines whose flat form is that of a parent.
use Rattle.std.specs.Prelude.{ℕ, ◌≡◌, ◌<◌, ◌≤◌, true, List, [], length, Some, slice_get, get_or}
use Rattle.std.proofs.Common.{ap, sym, subst, ◌∙◌, arith}
use Rattle.fof_terms.specs.declared.form.Form.{Form, Imp}
use Rattle.fof_terms.specs.Vocabulary.{Vocabulary}
use Rattle.fof_terms.specs.Sorts.{Sorted}
use Rattle.clause_form.specs.declared.path.Parent.{Parent}
use Rattle.clause_form.specs.Norm.{norm_of}
use Rattle.clause_rules.specs.NormRule.{HasLinesFlat}
use Rattle.clause_proofs.proofs.BodySorts.{placed}
use Rattle.clause_rules.specs.Steps.{IsReady}
use Rattle.kernel.specs.Statements.{Statements}
use Rattle.kernel.specs.Proves.{Proves}
use Rattle.kernel.proofs.Building.{by_line}
use Rattle.kernel.specs.declared.proof.Proof.{Proof, Line}
use Rattle.rule_proofs.specs.ByRule.{AreAlike}
use Rattle.clause_proofs.specs.Refuting.{theory_of}
use Rattle.flat_form.specs.Flat.{flat_of, HasFlat}
use Rattle.cover_proofs.specs.code.Facts.{LeadsOn}
use Rattle.clause_proofs.proofs.ReadyParents.{parent_at, full}

-- wherever the formula c is well-sorted, the proof shows that a implies b
abbrev pub Leads : Form → Form → Form → Proof → Type 0
Leads c a b p = (t : Statements) (v : List ℕ) (h : List Form) → length v ≤ 1000000000 → Sorted t.vocabulary v c → Proves t v h p (Imp a b)

abbrev pub Forth : Form → Proof → Type 0
Forth a p = Leads a a (norm_of true a) p

-- an implication that is applied to what a part shows
abbrev pub Applies : Proof → Proof → Proof → Type 0
Applies forth own made = (t : Statements) (v : List ℕ) (h : List Form) (a b : Form) → Proves t v h forth (Imp a b) → Proves t v h own a → Proves t v h made b

-- from one formula through a middle one to another
module _ (a middle middle' b : Form) (own forth half back made : Proof) (same : middle ≡ middle') where
  pub through : Leads a a middle forth → Leads b middle' b back → Applies forth own half → Applies back half made → LeadsOn a b own made
  through f g one two t sorted_a sorted_b shown =
      let there = one t [] [] a middle (f t [] [] (omega arith) sorted_a) shown in
      two t [] [] middle' b (g t [] [] (omega arith) sorted_b) (subst (λ (x : Form). Proves t [] [] half x) same there)

-- flat forms that are one
pub one_flat : (a b : Form) → AreAlike a b → flat_of a ≡ flat_of b
one_flat a b alike = alike.of_first.same ∙ sym alike.of_second.same

-- the line, by a proof that leads on to it from the parent's
pub line_shown : (w : Vocabulary) (line : Form) (parent : Parent) (own made : Proof) → own ≡ Line parent.number → IsReady w parent.form → IsReady w line → LeadsOn parent.form line own made
    → (formulas : List Form) → slice_get formulas parent.number ≡ Some parent.form → Proves (theory_of w formulas) [] [] made line
line_shown w line parent own made is ready line_ready leads formulas known =
    let t = theory_of w formulas in
    let sorted = full w parent.form ready in
    leads t sorted (full w line line_ready) (rw is (by_line t [] [] parent.number parent.form sorted known))

-- a parent that is the line itself
pub itself_shown : (w : Vocabulary) (line : Form) (parent : Parent) (own : Proof) → own ≡ Line parent.number → IsReady w parent.form → parent.form ≡ line
    → (formulas : List Form) → slice_get formulas parent.number ≡ Some parent.form → Proves (theory_of w formulas) [] [] own line
itself_shown w line parent own is ready same formulas known = rw (is, sym same) (by_line (theory_of w formulas) [] [] parent.number parent.form (full w parent.form ready) known)

pub itself_alike : (parents : List Parent) (line : Form) (a k : ℕ) (r : Parent) → HasLinesFlat parents line a → k < length parents → r ≡ get_or parents k r → r.form ≡ line → HasLinesFlat parents line k
itself_alike parents line a k r has lt is same = record {
  made = has.made;
  of_line = has.of_line;
  of_parent = record { parent = r; there = placed parents k r lt is; alike = subst (λ (x : Form). HasFlat x has.made) (sym same) has.of_line };
}

-- the parent of that number has the line's flat form
pub alike_at : (parents : List Parent) (line : Form) (a : ℕ) (r : Parent) → HasLinesFlat parents line a → r ≡ get_or parents a r → AreAlike r.form line
alike_at parents line a r has is =
    let same = parent_at parents a has.of_parent.parent r has.of_parent.there is in
    record { made = has.made; of_first = subst (λ (q : Parent). HasFlat q.form has.made) (sym same) has.of_parent.alike; of_second = has.of_line }

pub norm_there : (parents : List Parent) (line : Form) (a : ℕ) (r : Parent) → HasLinesFlat parents line a → r ≡ get_or parents a r → slice_get parents a ≡ Some r
norm_there parents line a r has is = has.of_parent.there ∙ ap Some (sym (parent_at parents a has.of_parent.parent r has.of_parent.there is))
