-- Falsehood from the closed empty clause.
use Rattle.std.specs.Prelude.{ℕ, true, ◌≡◌, List, [], ◌++◌, reverse, refl}
use Rattle.std.proofs.Common.{sym, subst, arith}
use Rattle.std.proofs.lemmas.List.Elements.{All-from_recursion}
use Rattle.fof_terms.specs.declared.form.Form.{Or}
use Rattle.clause_form.specs.Covers.{is_sorted_atom}
use Rattle.clause_form.specs.declared.clause.Clause.{Clause}
use Rattle.clause_form.specs.declared.clause.Lit.{Lit}
use Rattle.kernel.specs.Proves.{Proves}
use Rattle.kernel.specs.declared.proof.Proof.{Proof}
use Rattle.clause_proofs.specs.Closed.{inhabit_tree}
use Rattle.clause_proofs.proofs.BodySorts.{under_closed}
use Rattle.clause_proofs.proofs.LineGoals.{closed_depth}
use Rattle.clause_proofs.proofs.ClosedLines.{inhabited}
use Rattle.search_proofs.specs.Falsehood.{IsFalsehoodBy}
use Rattle.search_proofs.specs.code.Bodies.{empty_over, ShowsBodyOf, StandsAs}

pub falsehood_shown : (number : ℕ) (sorts : List ℕ) (empty : Clause) (p made : Proof) → empty ≡ empty_over sorts → ShowsBodyOf number empty p → made ≡ inhabit_tree (reverse sorts) p → IsFalsehoodBy number sorts made
falsehood_shown number sorts empty p made is shows e t fits at =
    let w = t.vocabulary in
    let own : ShowsBodyOf number (empty_over sorts) p = subst (λ (c : Clause). ShowsBodyOf number c p) is shows in
    let inner = under_closed w sorts [] (Or []) (omega (arith, closed_depth sorts (Or []), fits.few_binders)) fits in
    let stands : StandsAs t number (empty_over sorts) = record {
      sorted = fits;
      lits_sorted = record { fits = All-from_recursion (λ (l : Lit). is_sorted_atom w (reverse sorts) l.atom ≡ true) [] tt };
      there = at;
    } in
    let part : Proves t (reverse sorts ++ []) [] p (Or []) = own t stands [] [] inner.scope_fits in
    subst (λ (q : Proof). Proves t [] [] q (Or [])) (sym e) (inhabited t [] refl (reverse sorts) [] p part)
