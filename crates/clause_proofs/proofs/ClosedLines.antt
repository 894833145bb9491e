-- From a proof over the variables of a line and further ones to a proof of the line.
use Rattle.std.specs.Prelude.{ℕ, ◌≡◌, ◌+◌, ◌<◌, ◌≤◌, List, [], ◌∷◌, ◌++◌, length, map, reverse, slice_get, Some, refl}
use Rattle.std.proofs.Common.{ap, sym, subst, ◌∙◌, arith, append_assoc, append-nil, length-append}
use Rattle.std.proofs.lemmas.List.{reverse-append, length-reverse}
use Rattle.fof_terms.specs.declared.form.Form.{Form, Or, Not, All}
use Rattle.fof_terms.specs.Lift.{lifted}
use Rattle.fof_terms.proofs.LiftFacts.{lifted-Or, lifted-Not}
use Rattle.fof_terms.proofs.LiftingLaws.{closed_stays}
use Rattle.fof_terms.proofs.Moved.{closed_anywhere}
use Rattle.fof_terms.specs.Vocabulary.{Vocabulary}
use Rattle.fof_terms.specs.Sorts.{IsScope, SortedTo, Sorted}
use Rattle.fof_terms.proofs.Scoped.{sorted_of_all, not_sorted}
use Rattle.clause_form.specs.ClauseView.{closed_by}
use Rattle.kernel.specs.Statements.{Statements}
use Rattle.kernel.specs.Proves.{Proves, over, all_over}
use Rattle.kernel.proofs.Building.{by_hyp, by_raa, by_not_e, by_all_i, by_inhabit}
use Rattle.kernel.specs.declared.proof.Proof.{Proof, Hyp, Raa, NotE, AllI, Inhabit}
use Rattle.clause_proofs.specs.Closed.{all_tree, inhabit_tree, whole_tree}

module _ (t : Statements) (h : List Form) (stays : all_over h ≡ h) where
  -- for all of the sorts
  all_shown : (sorts v : List ℕ) (a : Form) (p : Proof) → length sorts + length v ≤ 2147483647 → Sorted t.vocabulary v (closed_by sorts a) → Proves t (reverse sorts ++ v) h p a
      → Proves t v h (all_tree sorts p) (closed_by sorts a)
  all_shown [] v a p room r shown = shown
  all_shown (s ∷ sorts) v a p room r shown =
      let moved : reverse (s ∷ sorts) ++ v ≡ reverse sorts ++ (s ∷ v) = ap (λ (ss : List ℕ). ss ++ v) (reverse-append (s ∷ []) sorts) ∙ append_assoc (reverse sorts) (s ∷ []) v in
      let inner = all_shown sorts (s ∷ v) a p (omega arith) (sorted_of_all t.vocabulary v 2147483647 2147483647 s (closed_by sorts a) (omega arith) (omega arith) r) (subst (λ (ss : List ℕ). Proves t ss h p a) moved shown) in
      by_all_i t v h s (closed_by sorts a) (all_tree sorts p) r (subst (λ (g : List Form). Proves t (s ∷ v) g (all_tree sorts p) (closed_by sorts a)) (sym stays) inner)

  -- without the further variables
  pub inhabited : (more v : List ℕ) (p : Proof) → Proves t (more ++ v) h p (Or []) → Proves t v h (inhabit_tree more p) (Or [])
  inhabited [] v p shown = shown
  inhabited (s ∷ more) v p shown =
      let none : over (Or []) ≡ Or [] = lifted-Or 1 0 [] in
      inhabited more v (Inhabit s (Or []) p) (by_inhabit t (more ++ v) h s (Or []) p (subst (λ (g : List Form). Proves t (s ∷ (more ++ v)) g p (over (Or []))) (sym stays) (subst (λ (b : Form). Proves t (s ∷ (more ++ v)) h p b) (sym none) shown)))

pub whole_shown : (t : Statements) (line : Form) (sorts more : List ℕ) (a : Form) (p : Proof) → line ≡ closed_by sorts a → length sorts + length more ≤ 2147483647 → Sorted t.vocabulary [] line → IsScope t.vocabulary more
    → Proves t (reverse sorts ++ more) (Not line ∷ []) p a → Proves t [] [] (whole_tree line sorts more p) line
whole_shown t line sorts more a p is room r scope shown =
    let h = Not line ∷ [] in
    let denied = not_sorted t.vocabulary [] 2147483647 line r in
    let stays : all_over h ≡ h = ap (λ (b : Form). b ∷ []) (closed_stays t.vocabulary 1 (Not line) [] 0 (omega arith) denied.fits) in
    let there = closed_anywhere t.vocabulary more 2147483647 line scope r in
    let all : Proves t more h (all_tree sorts p) line = subst (λ (b : Form). Proves t more h (all_tree sorts p) b) (sym is) (all_shown t h stays sorts more a p room (subst (λ (b : Form). Sorted t.vocabulary more b) is there) shown) in
    let none = by_not_e t more h (Hyp 0) (all_tree sorts p) line (by_hyp t more h 0 (Not line) (not_sorted t.vocabulary more 2147483647 line there) refl) all in
    let whole : Proves t (more ++ []) h (NotE (Hyp 0) (all_tree sorts p)) (Or []) = subst (λ (ss : List ℕ). Proves t ss h (NotE (Hyp 0) (all_tree sorts p)) (Or [])) (sym (append-nil more)) none in
    by_raa t [] [] line _ r (inhabited t h stays more [] (NotE (Hyp 0) (all_tree sorts p)) whole)
