-- Clauses as one are well-sorted, and how they come together one by one.
use Rattle.std.specs.Prelude.{ℕ, ◌≡◌, ◌<◌, ◌≤◌, ◌+◌, true, List, [], ◌∷◌, ◌++◌, length, map, reverse, get_or, drop, refl}
use Rattle.std.specs.List.{AllByRecursion}
use Rattle.std.proofs.Common.{sym, subst, ap, ◌∙◌, arith, append-nil, append_assoc, length-append, zero, suc, add-one}
use Rattle.std.proofs.Math.Seq.{drop-cons}
use Rattle.std.proofs.lemmas.List.{reverse-append, length-reverse}
use Rattle.std.proofs.lemmas.List.Elements.{All-append, All-nil}
use Rattle.fof_terms.specs.Vocabulary.{Vocabulary}
use Rattle.clause_form.specs.declared.clause.Lit.{Lit}
use Rattle.clause_form.specs.declared.clause.Clause.{Clause}
use Rattle.clause_form.specs.Covers.{scope_of, lit_apart, is_sorted_atom, AreSorted}
use Rattle.clause_rules.specs.Settled.{IsFit}
use Rattle.clause_rules.proofs.JointImages.{sorted_further, sorted_apart}
use Rattle.split_defs.specs.SplitRule.{together}

module _ (v : Vocabulary) where
  pub together_sorted : (cs : List Clause) → AllByRecursion (IsFit v) cs → AreSorted v (scope_of (together cs)) (together cs).lits
  together_sorted [] all = record { fits = All-nil (λ (l : Lit). is_sorted_atom v [] l.atom ≡ true) }
  together_sorted (c ∷ cs) all =
      let rest = together cs in
      let both = scope_of rest ++ scope_of c in
      let is : both ≡ reverse (c.sorts ++ rest.sorts) = sym (reverse-append c.sorts rest.sorts) in
      let first = sorted_apart v (scope_of rest) (scope_of c) (length rest.sorts) c.lits (sym (length-reverse rest.sorts)) all.0.sorted in
      let second = sorted_further v (scope_of rest) (scope_of c) rest.lits (together_sorted cs all.1) in
      subst (λ (ss : List ℕ). AreSorted v ss (together (c ∷ cs)).lits) is
      (record { fits = All-append (λ (l : Lit). is_sorted_atom v both l.atom ≡ true) (map (lit_apart (length rest.sorts)) c.lits) rest.lits first.fits second.fits })

  pub together_fit : (cs : List Clause) (whole : Clause) → AllByRecursion (IsFit v) cs → whole ≡ together cs → length whole.sorts ≤ 1000000000 → IsFit v whole
  together_fit cs whole all is few = record { sorted = subst (λ (c : Clause). AreSorted v (scope_of c) c.lits) (sym is) (together_sorted cs all); few = few }

-- one clause more
pub from_here : {X : Type 0} (cs : List X) (i : ℕ) (c : X) → i < length cs → c ≡ get_or cs i c → drop i cs ≡ c ∷ drop (i + 1) cs
from_here cs i c lt is = drop-cons cs i c lt ∙ (rw (sym is, add-one) refl)

pub past_all : {X : Type 0} (cs : List X) (i : ℕ) → length cs ≤ i → drop i cs ≡ []
past_all [] zero le = refl
past_all [] (suc i) le = refl
past_all (c ∷ cs) zero le = absurd (omega arith)
past_all (c ∷ cs) (suc i) le = past_all cs i (omega arith)

pub at_start : {X : Type 0} (cs : List X) → drop 0 cs ≡ cs
at_start [] = refl
at_start (c ∷ cs) = refl

module _ (cs : List Clause) (i : ℕ) (c : Clause) (here : drop i cs ≡ c ∷ drop (i + 1) cs) where
  next_sorts : (together (drop i cs)).sorts ≡ c.sorts ++ (together (drop (i + 1) cs)).sorts
  next_sorts = ap (λ (ds : List Clause). (together ds).sorts) here

  next_lits : (together (drop i cs)).lits ≡ map (lit_apart (length (together (drop (i + 1) cs)).sorts)) c.lits ++ (together (drop (i + 1) cs)).lits
  next_lits = ap (λ (ds : List Clause). (together ds).lits) here

  pub more_sorts : (sorts made : List ℕ) → made ≡ sorts ++ c.sorts → sorts ++ (together (drop i cs)).sorts ≡ (together cs).sorts → made ++ (together (drop (i + 1) cs)).sorts ≡ (together cs).sorts
  more_sorts sorts made is before =
      ap (λ (ss : List ℕ). ss ++ (together (drop (i + 1) cs)).sorts) is ∙ append_assoc sorts c.sorts (together (drop (i + 1) cs)).sorts
      ∙ ap (λ (ss : List ℕ). sorts ++ ss) (sym next_sorts) ∙ before

  pub left_sorts : (left : ℕ) → left ≡ length (together (drop i cs)).sorts → left ≡ length c.sorts + length (together (drop (i + 1) cs)).sorts
  left_sorts left is = is ∙ ap (λ (ss : List ℕ). length ss) next_sorts ∙ length-append c.sorts (together (drop (i + 1) cs)).sorts

  pub more_lits : (lits made own : List Lit) (n : ℕ) → n ≡ length (together (drop (i + 1) cs)).sorts → own ≡ map (lit_apart n) c.lits → made ≡ lits ++ own → lits ++ (together (drop i cs)).lits ≡ (together cs).lits
      → made ++ (together (drop (i + 1) cs)).lits ≡ (together cs).lits
  more_lits lits made own n count is e before =
      let here_lits : own ≡ map (lit_apart (length (together (drop (i + 1) cs)).sorts)) c.lits = is ∙ ap (λ (k : ℕ). map (lit_apart k) c.lits) count in
      ap (λ (ls : List Lit). ls ++ (together (drop (i + 1) cs)).lits) (e ∙ ap (λ (ls : List Lit). lits ++ ls) here_lits)
      ∙ append_assoc lits (map (lit_apart (length (together (drop (i + 1) cs)).sorts)) c.lits) (together (drop (i + 1) cs)).lits
      ∙ ap (λ (ls : List Lit). lits ++ ls) (sym next_lits) ∙ before

module _ (cs : List Clause) (i : ℕ) (end : length cs ≤ i) where
  pub all_sorts : (sorts : List ℕ) → sorts ++ (together (drop i cs)).sorts ≡ (together cs).sorts → sorts ≡ (together cs).sorts
  all_sorts sorts h = sym (append-nil sorts) ∙ ap (λ (ds : List Clause). sorts ++ (together ds).sorts) (sym (past_all cs i end)) ∙ h

  pub all_lits : (lits : List Lit) → lits ++ (together (drop i cs)).lits ≡ (together cs).lits → lits ≡ (together cs).lits
  all_lits lits h = sym (append-nil lits) ∙ ap (λ (ds : List Clause). lits ++ (together ds).lits) (sym (past_all cs i end)) ∙ h
