-- Where no substitution covers all literals of a clause but one.
use Rattle.std.specs.Prelude.{ℕ, ◌≡◌, ◌≢◌, ◌≤◌, true, List, [], ◌∷◌, length, remove, reverse, Option, Some, None, slice_get}
use Rattle.std.specs.List.{AllByRecursion}
use Rattle.std.proofs.Common.{sym, subst, arith, zero, suc}
use Rattle.std.proofs.lemmas.List.Elements.{All-from_recursion, recursion_from_All}
use Rattle.fof_terms.specs.Vocabulary.{Vocabulary}
use Rattle.fof_terms.specs.declared.term.Term.{Term}
use Rattle.clause_form.specs.declared.clause.Clause.{Clause}
use Rattle.clause_form.specs.declared.clause.Lit.{Lit}
use Rattle.clause_form.specs.Covers.{lit_image, scope_of, is_sorted_atom, IsCovered, CoversBy}
use Rattle.rule_steps.specs.code.Beside.{NeverBeside}
use Rattle.substitution_search.specs.Screens.{NeverOthers}
use Rattle.clause_rules.specs.Settled.{IsFit, Settles}
use Rattle.rule_steps.proofs.Changing.{kept}
use Rattle.clause_rules.proofs.ListPlaces.{get_of_map}

-- an element that is left stood at another place
pub left_over : {X : Type 0} (xs : List X) (i m : ℕ) (y : X) → slice_get (remove xs i) m ≡ Some y → (n : ℕ) × (n ≢ i) × (slice_get xs n ≡ Some y)
left_over [] zero m y e = cc
left_over [] (suc i) m y e = cc
left_over (x ∷ xs) zero m y e = (suc m, λ h. omega arith, e)
left_over (x ∷ xs) (suc i) zero y e = (0, λ h. omega arith, e)
left_over (x ∷ xs) (suc i) (suc m) y e = let rest = left_over xs i m y e in (suc rest.0, λ h. rest.1 (omega arith), rest.2)

rest_all : {X : Type 0} (P : X → Type 0) (xs : List X) (i : ℕ) → AllByRecursion P xs → AllByRecursion P (remove xs i)
rest_all P [] zero h = tt
rest_all P [] (suc i) h = tt
rest_all P (x ∷ xs) zero h = h.1
rest_all P (x ∷ xs) (suc i) h = (h.0, rest_all P xs i h.1)

module _ (v : Vocabulary) (line c : Clause) (i : ℕ) where
  pub never_screened : NeverOthers line.lits c.lits i → NeverBeside v line c i
  never_screened never = λ more s h.
      never s (λ m k other e.
      let l = get_of_map (lit_image s) c.lits m k e in
      let n = kept c.lits i m l.0 other l.1 in
      subst (IsCovered line.lits) l.2 (h.covered n.0 l.0 n.1))

  module _ (rest : Clause) (sorts : rest.sorts ≡ c.sorts) (lits : rest.lits ≡ remove c.lits i) where
    pub rest_fits : IsFit v c → IsFit v rest
    rest_fits fit =
        let P : List ℕ → Lit → Type 0 = λ scope l. is_sorted_atom v scope l.atom ≡ true in
        let all = rest_all (P (scope_of c)) c.lits i (recursion_from_All (P (scope_of c)) c.lits fit.sorted.fits) in
        let there = subst (λ ls. AllByRecursion (P (scope_of c)) ls) (sym lits) all in
        record {
          sorted = record { fits = All-from_recursion (P (scope_of rest)) rest.lits (subst (λ ss. AllByRecursion (P (reverse ss)) rest.lits) (sym sorts) there) };
          few = subst (λ ss. length ss ≤ 1000000000) (sym sorts) fit.few;
        }

    pub never_settled : (found : Option (List Term)) → found ≡ None → Settles v line (scope_of rest) (CoversBy v (scope_of rest) rest.lits line) found → NeverBeside v line c i
    never_settled None e none = λ more s h.
        none more s (subst (λ ls. CoversBy v (scope_of rest) ls line more s) (sym lits) (subst (λ ss. CoversBy v (reverse ss) (remove c.lits i) line more s) (sym sorts) h))
    never_settled (Some found) e none = cc
