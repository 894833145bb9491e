-- The rules may be asked about the normal form of a formula, and about its parts, where they may be asked about the
-- formula.
use Rattle.std.specs.Prelude.{ℕ, ◌≡◌, ◌+◌, ◌-◌, ◌≤◌, true, List, [], ◌∷◌, ◌++◌, length, map, flat_map, slice_get}
use Rattle.std.specs.List.{AllByRecursion}
use Rattle.std.proofs.Common.{ap, sym, subst, ◌∙◌, arith}
use Rattle.fof_terms.specs.Vocabulary.{Vocabulary}
use Rattle.fof_terms.specs.declared.form.Form.{Form, All}
use Rattle.fof_terms.specs.Sorts.{SortedTo, Sorted}
use Rattle.fof_terms.proofs.Induction.{form_induction}
use Rattle.fof_terms.proofs.Scoped.{raised, member_of, sorted_of_and, sorted_of_all, all_sorted}
use Rattle.fof_terms.proofs.SortsFacts.{binder_depth-All}
use Rattle.clause_form.specs.Norm.{norm_of, HasNorm}
use Rattle.clause_form.proofs.NormFits.{norm_fits}
use Rattle.clause_form.proofs.NormSorts.{norm_depth}
use Rattle.clause_rules.specs.Steps.{IsReady}
use Rattle.clause_rules.proofs.Readiness.{sorted_by}
use Rattle.norm_parts.specs.Parts.{parts_of}
use Rattle.norm_parts.specs.code.Known.{EachReady}
use Rattle.norm_parts.proofs.PartsFacts.{parts_of-Atom, parts_of-Eq, parts_of-Not, parts_of-And, parts_of-Or, parts_of-Imp, parts_of-Iff, parts_of-All, parts_of-Ex}

pub norm_ready : (v : Vocabulary) (a made : Form) → made ≡ norm_of true a → IsReady v a → IsReady v made
norm_ready v a made e r =
    subst (IsReady v) (sym e) (record { scope_fits = r.scope_fits; few_binders = omega (arith, norm_depth a true, r.few_binders); fits = norm_fits v a true [] r.fits })

pub norm_sorted : (v : Vocabulary) (a norm got : Form) → HasNorm a norm → got ≡ norm → IsReady v a → Sorted v [] got
norm_sorted v a norm got has same r = sorted_by v got (norm_ready v a got (same ∙ sym has.same) r)

all_both : {X : Type 0} (P : X → Type 0) (xs ys : List X) → AllByRecursion P xs → AllByRecursion P ys → AllByRecursion P (xs ++ ys)
all_both P [] ys h g = g
all_both P (x ∷ xs) ys h g = (h.0, all_both P xs ys h.1 g)

module _ (v : Vocabulary) where
  abbrev PartsSorted : Form → Type 0
  PartsSorted a = (n : ℕ) (scope : List ℕ) → n + length scope ≤ 2147483646 → SortedTo n v scope a → AllByRecursion (SortedTo n v scope) (parts_of a)

  itself : (a : Form) → parts_of a ≡ a ∷ [] → PartsSorted a
  itself a e n scope room s = subst (AllByRecursion (SortedTo n v scope)) (sym e) (s, tt)

  each_part : (as_ : List Form) → AllByRecursion PartsSorted as_ → (n : ℕ) (scope : List ℕ) → n + length scope ≤ 2147483646 → AllByRecursion (SortedTo n v scope) as_ → AllByRecursion (SortedTo n v scope) (flat_map parts_of as_)
  each_part [] all n scope room s = tt
  each_part (a ∷ as_) all n scope room s = all_both (SortedTo n v scope) (parts_of a) (flat_map parts_of as_) (all.0 n scope room s.0) (each_part as_ all.1 n scope room s.1)

  quantified_each : (n m s : ℕ) (scope : List ℕ) (as_ : List Form) → n ≡ m + 1 → AllByRecursion (SortedTo m v (s ∷ scope)) as_ → AllByRecursion (SortedTo n v scope) (map (All s) as_)
  quantified_each n m s scope [] e all = tt
  quantified_each n m s scope (a ∷ as_) e all = (raised v scope (m + 1) n (All s a) (omega arith) (all_sorted v scope m s a all.0), quantified_each n m s scope as_ e all.1)

  quantified_parts : (s : ℕ) (a : Form) → PartsSorted a → PartsSorted (All s a)
  quantified_parts s a ih n scope room r =
      let least : 1 ≤ n = omega (arith, binder_depth-All s a, r.few_binders) in
      let inner : SortedTo (n - 1) v (s ∷ scope) a = sorted_of_all v scope n (n - 1) s a (omega arith) (omega arith) r in
      let room' : n - 1 + length (s ∷ scope) ≤ 2147483646 = omega arith in
      subst (AllByRecursion (SortedTo n v scope)) (sym (parts_of-All s a)) (quantified_each n (n - 1) s scope (parts_of a) (omega arith) (ih (n - 1) (s ∷ scope) room' inner))

  parts_sorted : (a : Form) → PartsSorted a
  parts_sorted = form_induction PartsSorted (record {
    atom = λ p ts. itself _ (parts_of-Atom p ts);
    eq = λ l r. itself _ (parts_of-Eq l r);
    not = λ a ih. itself _ (parts_of-Not a);
    and = λ as_ all n scope room s. subst (AllByRecursion (SortedTo n v scope)) (sym (parts_of-And as_)) (each_part as_ all n scope room (sorted_of_and v scope n as_ s));
    or = λ as_ all. itself _ (parts_of-Or as_);
    imp = λ a b ih jh. itself _ (parts_of-Imp a b);
    iff = λ a b ih jh. itself _ (parts_of-Iff a b);
    all = quantified_parts;
    ex = λ s a ih. itself _ (parts_of-Ex s a);
  })

  pub each_ready : (line norm : Form) (members lent : List Form) → IsReady v line → norm ≡ norm_of true line → members ≡ parts_of norm → lent ≡ members → EachReady v lent
  each_ready line norm members lent ready is are same =
      let all = parts_sorted norm 1000000000 [] (omega arith) (norm_ready v line norm is ready) in
      λ k part at. member_of (IsReady v) (parts_of norm) k part all (ap (λ (xs : List Form). slice_get xs k) (sym (same ∙ are)) ∙ at)
