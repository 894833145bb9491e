-- Clauses that are known, as code gathers them.
use Rattle.std.specs.Prelude.{ℕ, ◌≡◌, ◌<◌, ◌≤◌, List, [], ◌∷◌, ◌++◌, length, get_or, Option, Some, None, IfSome, slice_get}
use Rattle.std.proofs.Common.{ap, sym, subst, ◌∙◌, ◌⊎◌, inl, inr, zero, suc}
use Rattle.fof_terms.specs.Vocabulary.{Vocabulary}
use Rattle.fof_terms.specs.declared.form.Form.{Form}
use Rattle.fof_terms.specs.declared.term.Term.{Term}
use Rattle.fof_terms.specs.Sorts.{Sorted}
use Rattle.clause_form.specs.declared.clause.Clause.{Clause}
use Rattle.clause_form.specs.declared.path.Parent.{Parent}
use Rattle.clause_form.specs.Covers.{scope_of, CoversBy}
use Rattle.clause_form.specs.Found.{IsRoomy}
use Rattle.clause_form.specs.Norm.{HasNorm}
use Rattle.clause_form.specs.Paths.{reached}
use Rattle.clause_form.specs.Sizes.{norm_size_of}
use Rattle.clause_rules.specs.Settled.{IsFit, Settles}
use Rattle.clause_rules.proofs.Firsts.{there_at}
use Rattle.rule_steps.proofs.CoverEnds.{norm_is_roomy, path_fits}
use Rattle.norm_parts.specs.declared.candidates.Candidate.{Candidate}
use Rattle.norm_parts.specs.declared.candidates.Chosen.{Chosen}
use Rattle.norm_parts.specs.code.Candidates.{IsCandidate, AreAdded, AreFitting, CoversClause, IsChosen}
use Rattle.norm_parts.specs.code.Known.{AreKnown}

-- what stands in a list with one item more
in_more : {X : Type 0} (xs : List X) (x : X) (k : ℕ) (y : X) → slice_get (xs ++ x ∷ []) k ≡ Some y → ((j : ℕ) × (slice_get xs j ≡ Some y)) ⊎ (x ≡ y)
in_more [] x zero y e = inr cc
in_more [] x (suc k) y e = cc
in_more (z ∷ xs) x zero y e = inl (zero, e)
in_more (z ∷ xs) x (suc k) y e =
    elim (in_more xs x k y e) [
      | inl w ↦ inl (suc w.0, w.1)
      | inr s ↦ inr s
    ]

module _ (v : Vocabulary) (source : ℕ) (a : Form) where
  pub added_none : (old : List Candidate) → AreAdded v source a old old
  added_none old = λ c k at. inl (k, at)

  pub added_then : (old mid new : List Candidate) → AreAdded v source a old mid → AreAdded v source a mid new → AreAdded v source a old new
  added_then old mid new f g = λ c k at.
      elim (g c k at) [
        | inl w ↦ f c w.0 w.1
        | inr h ↦ inr h
      ]

  pub roomy : norm_size_of a ≤ 100000 → Sorted v [] a → IsRoomy a
  roomy small sorted = norm_is_roomy v a small sorted.fits

  pub added_one : norm_size_of a ≤ 100000 → Sorted v [] a → (old new : List Candidate) (c : Candidate) (found : Option Clause) (clause : Clause) → found ≡ reached c.path a → found ≡ Some clause → c.source ≡ source → c.clause ≡ clause
      → new ≡ old ++ c ∷ [] → AreAdded v source a old new
  added_one small sorted old new c found clause is some from same e = λ d k at.
      let reaches : reached c.path a ≡ Some c.clause = sym is ∙ some ∙ ap Some (sym same) in
      elim (in_more old c k d (ap (λ (xs : List Candidate). slice_get xs k) (sym e) ∙ at)) [
        | inl w ↦ inl w
        | inr s ↦
            inr (ap (λ (x : Candidate). x.source) (sym s) ∙ from, subst (IsCandidate v a) s (record { reaches = reaches; fit = path_fits v a small sorted.fits c.path c.clause reaches }))
      ]

module _ (v : Vocabulary) where
  pub fits_at : (candidates : List Candidate) (k : ℕ) (c : Candidate) → AreFitting v candidates → k < length candidates → c ≡ get_or candidates k c → IsFit v c.clause
  fits_at candidates k c all lt is = all c k (there_at candidates k c lt is)

  pub chosen_at : (candidates : List Candidate) (line : Clause) (k : ℕ) (c : Candidate) (chosen : Chosen) (images : List Term) → k < length candidates → c ≡ get_or candidates k c → chosen.at ≡ k → chosen.subst ≡ images → CoversClause v c.clause line images
      → IsChosen v candidates line chosen
  chosen_at candidates line k c chosen images lt is at same covers =
      (c, ap (slice_get candidates) at ∙ there_at candidates k c lt is, subst (CoversClause v c.clause line) (sym same) covers)

  pub covered_so : (c line : Clause) (found : Option (List Term)) → Settles v line (scope_of c) (CoversBy v (scope_of c) c.lits line) found → IfSome found (CoversClause v c line)
  covered_so c line None h = tt
  covered_so c line (Some images) h = h

  module _ (parents : List Parent) where
    pub known_none : (known : List Candidate) → known ≡ [] → AreKnown v parents known
    known_none known e = λ c k at. let none : None ≡ Some c = ap (λ (xs : List Candidate). slice_get xs k) (sym e) ∙ at in cc

    pub known_fit : (known : List Candidate) → AreKnown v parents known → AreFitting v known
    known_fit known h = λ c k at. (h c k at).reached.fit

    pub known_more : (at : ℕ) (parent : Parent) (norm got : Form) (old new : List Candidate) → at < length parents → parent ≡ get_or parents at parent → HasNorm parent.form norm → got ≡ norm → AreAdded v at got old new → AreKnown v parents old
        → AreKnown v parents new
    known_more at parent norm got old new lt is has same added known = λ c k e.
        elim (added c k e) [
          | inl w ↦ known c w.0 w.1
          | inr h ↦
              record {
                parent = parent;
                there = ap (slice_get parents) h.0 ∙ there_at parents at parent lt is;
                small = has.small;
                reached = subst (λ (x : Form). IsCandidate v x c) (same ∙ sym has.same) h.1;
              }
        ]
