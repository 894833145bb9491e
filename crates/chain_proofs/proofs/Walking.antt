-- A walk over the clauses that a further one was made from.
use Rattle.std.specs.Prelude.{ℕ, ◌≡◌, ◌+◌, ◌<◌, ◌≤◌, ◌⊎◌, List, [], ◌∷◌, ◌++◌, length, Option, Some, None, slice_get, get_or, refl}
use Rattle.std.specs.List.{Contains}
use Rattle.std.proofs.Common.{ap, sym, subst, ◌∙◌, arith, inl, inr, take}
use Rattle.std.proofs.lemmas.List.{length-append, take_more}
use Rattle.std.proofs.lemmas.List.Elements.{Contains-append_left, Contains-push, Contains-push_cases}
use Rattle.fof_terms.specs.Sorts.{Sorted}
use Rattle.clause_form.specs.declared.clause.AtomOf.{AtomOf}
use Rattle.clause_form.specs.declared.clause.Lit.{Lit}
use Rattle.clause_learning.specs.Refutations.{HasSame}
use Rattle.clause_learning.proofs.Members.{some_same}
use Rattle.kernel.specs.Statements.{Statements}
use Rattle.sat_step.specs.Decisions.{opposite}
use Rattle.chain_proofs.specs.Chains.{AreOver, Derives, FactsAreOver, HoldEach}
use Rattle.chain_proofs.specs.Facts.{all_false}
use Rattle.chain_proofs.specs.Known.{AreKept}
use Rattle.chain_proofs.specs.Stretches.{EndsIn, IsStretch, LeadTo}
use Rattle.chain_proofs.specs.code.Walks.{IsAdvanced, IsMissing, IsWalk, LacksOnly}
use Rattle.chain_proofs.specs.declared.fact.Fact.{Fact}
use Rattle.chain_proofs.specs.declared.known.Known.{Known}
use Rattle.chain_proofs.specs.declared.stretching.Step.{Step}
use Rattle.chain_proofs.specs.declared.stretching.Walk.{Walk}
use Rattle.chain_proofs.proofs.Chaining.{goes_on, only, within_facts}
use Rattle.chain_proofs.proofs.Literals.{opposite_twice}
use Rattle.chain_proofs.proofs.Stepping.{no_step}

-- the first steps of a walk, and what is left to walk over
pub record IsWalked (facts : List Fact) (from : List ℕ) (first known : List Lit) (left : List ℕ) (steps : List Step) : Type 0 where
  pub derives : Derives facts left known
  pub named : (k : ℕ) → Contains left k → Contains from k
  pub fewer : length left ≤ length from
  pub leads : (t : Statements) → HoldEach t facts from → Sorted t.vocabulary [] (all_false first) → LeadTo t first steps known
  pub over : (atoms : List AtomOf) → AreOver atoms first → FactsAreOver atoms facts from → AreOver atoms known

-- no literal that is not known so far
pub none_missing : (known lits : List Lit) (i : ℕ) (l : Lit) → i < length lits → l ≡ get_or lits i l → Contains known l → ((x : Lit) → Contains (take i lits) x → Contains known x) → (x : Lit) → Contains (take (i + 1) lits) x → Contains known x
none_missing known lits i l lt is own all x there =
    let longer : take (i + 1) lits ≡ take i lits ++ l ∷ [] = take_more lits i l lt ∙ ap (λ (d : Lit). take i lits ++ d ∷ []) (sym is) in
    elim (Contains-push_cases (take i lits) l x (subst (λ (ls : List Lit). Contains ls x) longer there)) [
      | inl before ↦ all x before
      | inr same ↦ subst (Contains known) same own
    ]

-- before the walk
pub unwalked : (facts : List Fact) (from : List ℕ) (first : List Lit) (steps : List Step) → steps ≡ [] → Derives facts from first → IsWalked facts from first first from steps
unwalked facts from first steps none d = record {
  derives = d;
  named = λ k there. there;
  fewer = omega arith;
  leads = λ t holds sorted. subst (λ (ss : List Step). LeadTo t first ss first) (sym none) (no_step t first);
  over = λ atoms own facts_own. own;
}

module _ (facts : List Fact) (from : List ℕ) (first known : List Lit) (left rest : List ℕ) (steps : List Step) (k : ℕ) (w : IsWalked facts from first known left steps) (is : left ≡ rest ++ k ∷ []) where
  here : Derives facts (rest ++ k ∷ []) known
  here = subst (λ (ks : List ℕ). Derives facts ks known) is w.derives

  named_here : Contains from k
  named_here = w.named k (subst (λ (ks : List ℕ). Contains ks k) (sym is) (Contains-push rest k))

  pub number_within : k < length facts
  number_within = within_facts facts rest k known here

  shorter : length rest + 1 ≡ length left
  shorter = sym (ap (λ (ks : List ℕ). length ks) is ∙ length-append rest (k ∷ []))

  module _ (f : Fact) (at : slice_get facts k ≡ Some f) where
    -- the walk is at its end
    pub ended : ((x : Lit) → Contains f.lits x → Contains known x) → (final : Walk) → final ≡ record { steps = steps; last = Some k } → IsWalk facts from first known rest final
    ended all final final_is = subst (IsWalk facts from first known rest) (sym final_is) (record {
      leads = w.leads;
      over = w.over;
      ends = (named_here, number_within, λ g there x own. all x (subst (λ (e : Fact). Contains e.lits x) (some_same (sym there ∙ at)) own));
    })

    module _ (l : Lit) (missing : IsMissing known f.lits (Some l)) where
      pub lacks : LacksOnly known f.lits l
      lacks x own off = only facts rest k known here f at missing.0 missing.1 missing.2 x own off ∙ (sym (opposite_twice missing.0) ∙ ap opposite (sym missing.3))

      has : Contains f.lits (opposite l)
      has = subst (Contains f.lits) (sym (opposite_twice missing.0) ∙ ap opposite (sym missing.3)) missing.1

      -- one step further
      pub walked_on : (base : ℕ) (new : List Lit) (more : List Step) → base ≡ length first → IsAdvanced base f l known steps new more → IsWalked facts from first new rest more
      walked_on base new more base_is a = record {
        derives = goes_on facts rest k known here f at missing.0 missing.1 missing.2 new kept (subst (Contains new) missing.3 added);
        named = λ j there. w.named j (subst (λ (ks : List ℕ). Contains ks j) (sym is) (Contains-append_left rest (k ∷ []) j there));
        fewer = let le = w.fewer in let one = shorter in omega arith;
        leads = λ t holds sorted. a.leads t first (sym base_is) sorted (holds k f named_here at) has lacks (w.leads t holds sorted);
        over = λ atoms own facts_own x there. own_of atoms own facts_own x there;
      } where
        kept : (x : Lit) → Contains known x → Contains new x
        kept x there = elim a.lits [ inl e ↦ subst (λ (ls : List Lit). Contains ls x) (sym e) (Contains-append_left known (l ∷ []) x there) | inr e ↦ subst (λ (ls : List Lit). Contains ls x) (sym e.0) there ]

        added : Contains new l
        added = elim a.lits [ inl e ↦ subst (λ (ls : List Lit). Contains ls l) (sym e) (Contains-push known l) | inr e ↦ subst (λ (ls : List Lit). Contains ls l) (sym e.0) e.1 ]

        own_of : (atoms : List AtomOf) → AreOver atoms first → FactsAreOver atoms facts from → (x : Lit) → Contains new x → Contains atoms x.atom
        own_of atoms own facts_own x there =
            elim a.lits [
              | inl e ↦ elim (Contains-push_cases known l x (subst (λ (ls : List Lit). Contains ls x) e there)) [
                | inl was ↦ w.over atoms own facts_own x was
                | inr same ↦ subst (λ (z : Lit). Contains atoms z.atom) (sym missing.3 ∙ same) (facts_own k f named_here at missing.0 missing.1)
              ]
              | inr e ↦ w.over atoms own facts_own x (subst (λ (ls : List Lit). Contains ls x) e.0 there)
            ]

-- the walk is to go on
pub goes_further : (facts : List Fact) (from : List ℕ) (first known : List Lit) (left rest : List ℕ) (steps : List Step) (k : ℕ) (final : Walk) → IsWalked facts from first known rest steps → length left ≤ length from → left ≡ rest ++ k ∷ []
    → final ≡ record { steps = steps; last = None } → IsWalk facts from first known rest final
goes_further facts from first known left rest steps k final w fewer is final_is = subst (IsWalk facts from first known rest) (sym final_is) (record {
  leads = w.leads;
  over = w.over;
  ends = (w.derives, w.named, let long = ap (λ (ks : List ℕ). length ks) is ∙ length-append rest (k ∷ []) in omega arith);
})

-- a walk over no clause does not come to its end otherwise
pub nothing_left : (facts : List Fact) (from : List ℕ) (first known : List Lit) (left rest : List ℕ) (steps : List Step) (final : Walk) → IsWalked facts from first known left steps → left ≡ [] → IsWalk facts from first known rest final
nothing_left facts from first known left rest steps final w none = absurd (never (subst (λ (ks : List ℕ). Derives facts ks known) none w.derives)) where
  never : Derives facts [] known → ⊥
  never d = d.chain

-- the whole of a walk
pub stretched : (facts : List Fact) (from : List ℕ) (lits first own : List Lit) (known : Known) (left : List ℕ) (w : Walk) → HasSame lits first → own ≡ first → AreKept known → IsWalk facts from first known.lits left w
    → IsStretch facts from lits (record { lits = own; known = known; steps = w.steps; left = left; last = w.last })
stretched facts from lits first own known left w same own_is kept walk =
    subst (λ (ls : List Lit). IsStretch facts from lits (record { lits = ls; known = known; steps = w.steps; left = left; last = w.last })) (sym own_is) (record {
      same = same;
      kept = kept;
      leads = walk.leads;
      over = walk.over;
      ends = walk.ends;
    })
