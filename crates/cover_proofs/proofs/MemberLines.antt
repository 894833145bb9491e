-- Formulas that a parent implies, on the way of a path.
use Rattle.std.specs.Prelude.{ℕ, ◌+◌, ◌-◌, ◌≡◌, ◌≤◌, true, List, [], ◌∷◌, Some, slice_get}
use Rattle.std.proofs.Common.{arith, subst, zero, suc}
use Rattle.std.proofs.lemmas.List.Elements.{All-from_recursion}
use Rattle.fof_terms.specs.declared.form.Form.{Form}
use Rattle.fof_terms.specs.Vocabulary.{Vocabulary}
use Rattle.fof_terms.specs.Sorts.{Sorted}
use Rattle.clause_form.specs.declared.path.Parent.{Parent}
use Rattle.clause_form.specs.Norm.{norm_of}
use Rattle.clause_form.specs.Sizes.{norm_size_of}
use Rattle.clause_form.proofs.NormSorts.{norm_depth}
use Rattle.clause_rules.specs.Steps.{AreReady, IsReady}
use Rattle.kernel.specs.Proves.{Proves}
use Rattle.kernel.specs.declared.proof.Proof.{Proof}
use Rattle.clause_proofs.specs.Refuting.{theory_of}
use Rattle.clause_proofs.proofs.ReadyParents.{full}
use Rattle.norm_proofs.specs.Narrowing.{ShowsEverywhere, LeadsTo}
use Rattle.cover_proofs.specs.code.Facts.{IsFact, IsFactUpTo, ShowsByParent}

module _ (w : Vocabulary) (parent : Parent) (a : Form) (p : Proof) (more : ℕ) (b : Form) (q : Proof) (leads : LeadsTo 0 a p more b q) (ready : IsReady w a) where
  pub led_ready : IsReady w b
  led_ready = leads.sorted w 1000000000 (omega arith) ready

  pub led_small : norm_size_of a ≤ 100000 → norm_size_of b ≤ 100000
  led_small small = omega (arith, leads.smaller)

  -- over fewer variables
  pub led_fact : (n m : ℕ) → m + more ≤ n → n ≤ 2147483647 → IsFactUpTo n w parent a p → IsFactUpTo m w parent b q
  led_fact n m le few fact = record {
    sorted = full w b led_ready;
    shows = λ formulas there v h sc short.
        let own : ShowsEverywhere (theory_of w formulas) (2147483647 - n + 0) a p = λ u g s room. fact.shows formulas there u g s (omega arith) in
        leads.shows (theory_of w formulas) 1000000000 (2147483647 - n) (omega arith) ready own v h sc (omega arith);
  }

-- the normal form of a formula that is ready
pub norm_ready : (w : Vocabulary) (a : Form) → IsReady w a → Sorted w [] (norm_of true a) → IsReady w (norm_of true a)
norm_ready w a ready s = record { scope_fits = s.scope_fits; few_binders = omega (arith, norm_depth a true, ready.few_binders); fits = s.fits }

-- what is found in the normal form of a formula
pub found_in : (w : Vocabulary) (parent : Parent) (a norm b : Form) (part own q : Proof) (more : ℕ) → IsReady w a → IsFactUpTo 1000000000 w parent a part → norm ≡ norm_of true a
    → ((n : ℕ) → n ≤ 1000000000 → IsFactUpTo n w parent a part → IsFactUpTo n w parent (norm_of true a) own) → LeadsTo 0 norm own more b q → more ≤ 2000000 → IsReady w b × IsFact w parent b q
found_in w parent a norm b part own q more ready fact is made leads few =
    let there = made 1000000000 (omega arith) fact in
    let leads' : LeadsTo 0 (norm_of true a) own more b q = subst (λ (x : Form). LeadsTo 0 x own more b q) is leads in
    let norm_is_ready = norm_ready w a ready there.sorted in
    (led_ready w parent (norm_of true a) own more b q leads' norm_is_ready, led_fact w parent (norm_of true a) own more b q leads' norm_is_ready 1000000000 900000000 (omega arith) (omega arith) there)

-- what is shown wherever the parent is
pub fact_shows : (n : ℕ) (w : Vocabulary) (parent : Parent) (a line : Form) (p : Proof) → a ≡ line → IsFactUpTo n w parent a p → ShowsByParent w parent line p
fact_shows n w parent a line p same fact formulas there = subst (λ (x : Form). Proves (theory_of w formulas) [] [] p x) same (fact.shows formulas there [] [] fact.sorted.scope_fits (omega arith))

-- one formula alone
pub lone_ready : (w : Vocabulary) (cited : List Parent) (p : Parent) → cited ≡ p ∷ [] → IsReady w p.form → AreReady w cited
lone_ready w cited p is ready = rw is (All-from_recursion (λ (q : Parent). IsReady w q.form) (p ∷ []) (ready, tt))

pub lone_there : (cited : List Parent) (p q : Parent) (k : ℕ) → cited ≡ p ∷ [] → slice_get cited k ≡ Some q → q ≡ p
lone_there cited p q zero is at = let there : slice_get (p ∷ []) 0 ≡ Some q = rw is at at in cc
lone_there cited p q (suc k) is at = let there : slice_get (p ∷ []) (suc k) ≡ Some q = rw is at at in cc
