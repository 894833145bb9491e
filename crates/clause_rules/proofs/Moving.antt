-- Literals that are moved past other variables.
use Rattle.std.specs.Prelude.{ℕ, ◌≡◌, ◌+◌, ◌<◌, ◌≤◌, ◌^◌, true, List, [], ◌∷◌, ◌++◌, length, map, Some, slice_get}
use Rattle.std.specs.List.{All as Each, AllByRecursion}
use Rattle.std.proofs.Common.{ap, sym, ◌∙◌, arith}
use Rattle.std.proofs.lemmas.List.{length-reverse}
use Rattle.std.proofs.lemmas.List.Elements.{All-weaker}
use Rattle.fof_terms.specs.Vocabulary.{Vocabulary}
use Rattle.fof_terms.specs.declared.term.Term.{Term}
use Rattle.fof_terms.proofs.LiftingLaws.{holds_found, one_found, lift_twice}
use Rattle.fof_terms.specs.Lift.{greatest, lifted_term, lift_term_reach}
use Rattle.fof_terms.proofs.MoreReaches.{own_reach}
use Rattle.fof_terms.specs.Sorts.{sort_of_term}
use Rattle.clause_form.specs.declared.clause.AtomOf.{AtomOf}
use Rattle.clause_form.specs.declared.clause.AtomOf.TheVariants.{Pred, Eq, True, False}
use Rattle.clause_form.specs.declared.clause.Lit.{Lit}
use Rattle.clause_form.specs.declared.clause.Clause.{Clause}
use Rattle.clause_form.specs.Covers.{lit_apart, scope_of, is_sorted_atom}
use Rattle.clause_rules.specs.Reach.{atom_reach}
use Rattle.clause_rules.specs.declared.joint.Joint.{Joint}
use Rattle.clause_rules.specs.JointClauses.{IsJoined}
use Rattle.clause_rules.specs.Settled.{IsFit}
use Rattle.clause_rules.specs.Steps.{scope_of_both}
use Rattle.clause_rules.proofs.LitImages.{lits_twice}

module _ (v : Vocabulary) (scope : List ℕ) (by : ℕ) where
  terms_reach : (ts : List Term) → AllByRecursion (λ t. (s : ℕ) × (sort_of_term v scope t ≡ Some s)) ts → greatest (map (lift_term_reach by 0) ts) ≤ length scope + by
  terms_reach [] h = omega arith
  terms_reach (t ∷ ts) h = omega (arith, own_reach v scope by t h.0, terms_reach ts h.1)

  pub reach_of : (a : AtomOf) → is_sorted_atom v scope a ≡ true → atom_reach by a ≤ length scope + by
  reach_of (Pred p ts) e = terms_reach ts (holds_found (sort_of_term v scope) ts (slice_get v.symbols p) e)
  reach_of (Eq l r) e =
      let sides = one_found (sort_of_term v scope l) (sort_of_term v scope r) e in
      omega (arith, own_reach v scope by l sides.0, own_reach v scope by r sides.1)
  reach_of True e = omega arith
  reach_of False e = omega arith

pub reaches_fit : (v : Vocabulary) (c : Clause) (by : ℕ) → IsFit v c → by ≤ 2000000000 → Each (λ (l : Lit). atom_reach by l.atom < 2 ^ 32) c.lits
reaches_fit v c by fit few =
    All-weaker (λ (l : Lit). is_sorted_atom v (scope_of c) l.atom ≡ true) (λ (l : Lit). atom_reach by l.atom < 2 ^ 32)
    (λ l e. let reach = reach_of v (scope_of c) by l.atom e in let size = length-reverse c.sorts in let small = fit.few in omega arith) c.lits fit.sorted.fits

-- two moves are one
pub moved_twice : (n m k : ℕ) (lits : List Lit) → k ≡ n + m → map (lit_apart k) lits ≡ map (lit_apart n) (map (lit_apart m) lits)
moved_twice n m k lits e = sym (lits_twice (lifted_term n 0) (lifted_term m 0) (lifted_term k 0) (lift_twice n m k e) lits)

-- two clauses over one scope with the line, as code makes them
pub joined_is : (line left right : Clause) (joint : Joint) (shift further : ℕ) → shift ≡ length line.sorts → further ≡ shift + length left.sorts → joint.scope.sorts ≡ scope_of line ++ scope_of_both left right → joint.scope.rigid ≡ shift
    → joint.left ≡ map (lit_apart shift) left.lits → joint.right ≡ map (lit_apart further) right.lits → IsJoined line left right joint
joined_is line left right joint shift further e f sorts rigid first second = record {
  sorts = sorts;
  rigid = rigid ∙ e;
  left_lits = first ∙ ap (λ n. map (lit_apart n) left.lits) e;
  right_lits = second ∙ moved_twice (length line.sorts) (length left.sorts) further right.lits (f ∙ ap (λ n. n + length left.sorts) e);
}
