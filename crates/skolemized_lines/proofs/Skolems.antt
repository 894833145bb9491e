-- A normal form with the functions of a derivation in place of its existential variables, as the rule `skolem` has it.
use Rattle.std.specs.Prelude.{ℕ, suc, ◌≡◌, ◌+◌, ◌<◌, ◌≤◌, nat_eq, Bool, true, false, List, [], ◌∷◌, length, map, get_or, Some, slice_get, refl}
use Rattle.std.specs.List.{AllByRecursion, IsDistinct}
use Rattle.std.proofs.Common.{ap, sym, ◌∙◌, arith}
use Rattle.std.proofs.lemmas.Bool.{ne_eqb}
use Rattle.std.proofs.lemmas.Map.Keys.{IsDistinct-cons}
use Rattle.fof_terms.specs.declared.form.Form.{Form}
use Rattle.fof_terms.specs.declared.term.Term.{Term}
use Rattle.fof_terms.specs.Occurs.{occurs_in}
use Rattle.fof_terms.specs.Sorts.{sort_of_term}
use Rattle.fof_terms.specs.Vocabulary.{Vocabulary}
use Rattle.fof_terms.proofs.SortLawsFacts.{grown_fits}
use Rattle.clause_form.specs.Clauses.{skolemized}
use Rattle.clause_form.specs.Norm.{norm_of}
use Rattle.clause_form.specs.Sizes.{norm_size_of}
use Rattle.clause_form.proofs.NormFits.{norm_fits}
use Rattle.clause_form.proofs.NormSize.{norm_small}
use Rattle.clause_rules.specs.Steps.{IsReady}
use Rattle.derivation_items.specs.Words.{Text}
use Rattle.given_parts.specs.Numbers.{firsts_from}
use Rattle.given_parts.specs.Parts.{parts_of}
use Rattle.kernel.specs.Entries.{IsFresh}
use Rattle.kernel.specs.Statements.{Statements}
use Rattle.skolem_fresh.specs.declared.just.Use.{Use}
use Rattle.skolem_fresh.specs.SkolemRule.{AreSkolemized, IsSkolemized, Skolemizes, a_conjunction, a_disjunction, a_negation, an_atom, an_equation, for_each, for_some, more, none}
use Rattle.skolem_fresh.specs.Uses.{functions_of, value_of}
use Rattle.skolem_fresh.proofs.Distinct.{distinct_none}
use Rattle.skolem_proofs.specs.Choosing.{AreOthers}
use Rattle.skolem_proofs.proofs.Others.{made_lacks}
use Rattle.skolem_proofs.proofs.Standing.{no_larger}
use Rattle.sort_check.specs.declared.line.GivenEntry.{GivenEntry}
use Rattle.step_clauses.specs.declared.existentials.Existential.{Existential}
use Rattle.step_clauses.specs.Skolems.{skolems_from, use_of}
use Rattle.step_clauses.proofs.Placed.{skolemized_is}
use Rattle.derivation_sentences.proofs.Alike.{term_alike}
use Rattle.derivation_sentences.proofs.Linked.{ex_of}
use Rattle.derivation_sentences.proofs.Skolems.{named, named_alike, named_grows, part_known, renamed}

-- ---- over a vocabulary that gives all terms the same sorts

module _ (v w : Vocabulary) (alike : (scope : List ℕ) (t : Term) → sort_of_term v scope t ≡ sort_of_term w scope t) where
  mutual
    over_other : (scope : List ℕ) (uses : List Use) (a b : Form) → IsSkolemized v scope uses a b → IsSkolemized w scope uses a b
    over_other scope uses a b (an_atom sc p ts) = an_atom sc p ts
    over_other scope uses a b (an_equation sc l r) = an_equation sc l r
    over_other scope uses a b (a_negation sc c) = a_negation sc c
    over_other scope uses a b (a_conjunction sc us as_ bs h) = a_conjunction sc us as_ bs (all_over sc us as_ bs h)
    over_other scope uses a b (a_disjunction sc us as_ bs h) = a_disjunction sc us as_ bs (all_over sc us as_ bs h)
    over_other scope uses a b (for_each sc us s c d h) = for_each sc us s c d (over_other (s ∷ sc) us c d h)
    over_other scope uses a b (for_some sc u rest s c d may h) =
        for_some sc u rest s c d (record { sort = may.sort; arguments = may.arguments; fits = sym (alike sc (value_of u)) ∙ may.fits }) (over_other sc rest _ d h)

    all_over : (scope : List ℕ) (uses : List Use) (as_ bs : List Form) → AreSkolemized v scope uses as_ bs → AreSkolemized w scope uses as_ bs
    all_over scope uses as_ bs (none sc) = none sc
    all_over scope uses as_ bs (more sc first rest a b cs ds h g) = more sc first rest a b cs ds (over_other sc first a b h) (all_over sc rest cs ds g)

-- ---- functions of one number after another

abbrev pub uses_from : ℕ → List Existential → List Use
uses_from k places = map use_of (skolems_from k places)

later_apart : (k m : ℕ) (places : List Existential) → k < m → AllByRecursion (λ (f : ℕ). nat_eq k f ≡ false) (functions_of (uses_from m places))
later_apart k m [] lt = tt
later_apart k m (e ∷ places) lt = (ne_eqb k m (λ same. omega arith), later_apart k (m + 1) places (omega arith))

functions_distinct : (k : ℕ) (places : List Existential) → IsDistinct nat_eq (functions_of (uses_from k places))
functions_distinct k [] = distinct_none
functions_distinct k (e ∷ places) = IsDistinct-cons nat_eq k (functions_of (uses_from (k + 1) places)) (later_apart k (k + 1) places (omega arith)) (functions_distinct (k + 1) places)

functions_fresh : (t : Statements) (k : ℕ) (places : List Existential) → ((f : ℕ) → k ≤ f → IsFresh f t) → AllByRecursion (λ (u : Use). IsFresh u.function t) (uses_from k places)
functions_fresh t k [] new = tt
functions_fresh t k (e ∷ places) new = (new k (omega arith), functions_fresh t (k + 1) places (λ f le. new f (omega arith)))

functions_other : (f k : ℕ) (places : List Existential) → k + length places ≤ f → AreOthers f (uses_from k places)
functions_other f k [] le = tt
functions_other f k (e ∷ places) le = (ne_eqb k f (λ same. omega arith), functions_other f (k + 1) places (omega arith))

uses_count : (k : ℕ) (places : List Existential) → length (uses_from k places) ≡ length places
uses_count k [] = refl
uses_count k (e ∷ places) = ap suc (uses_count (k + 1) places)

-- ---- a part of a derivation

module _ (v : Vocabulary) (given : List GivenEntry) (used : List Bool) (prefix : Text) (q : ℕ) (g : GivenEntry) (ready : IsReady v g.form) (marked : slice_get used q ≡ Some true) (at : slice_get given q ≡ Some g) where
  abbrev first : ℕ
  first = get_or (firsts_from (length v.symbols) used (parts_of given)) q 0

  abbrev norm : Form
  norm = norm_of true g.form

  abbrev w : Vocabulary
  w = renamed v given used prefix

  replaced : IsSkolemized w [] (uses_from first (ex_of g)) norm (skolemized norm first)
  replaced =
      over_other (named v given used prefix) w (term_alike (named v given used prefix) w refl (named_alike v given used prefix)) [] (uses_from first (ex_of g)) norm (skolemized norm first)
      (skolemized_is (named v given used prefix) g.form true first (part_known v given used prefix q g marked at)
      (grown_fits v (named v given used prefix) (named_grows v given used prefix) norm [] (norm_fits v g.form true [] ready.fits)))

  -- it lacks each symbol that stands behind its functions
  pub skolem_lacks : (f : ℕ) → first + length (ex_of g) ≤ f → occurs_in f norm ≡ false → occurs_in f (skolemized norm first) ≡ false
  skolem_lacks f le off = made_lacks f w [] (uses_from first (ex_of g)) norm (skolemized norm first) replaced off (functions_other f first (ex_of g) le)

  module _ (small : norm_size_of g.form ≤ 100000) where
    pub skolem_small : norm_size_of (skolemized norm first) ≤ 100000
    skolem_small =
        let less = no_larger w [] (uses_from first (ex_of g)) norm (skolemized norm first) replaced in
        let few = norm_small g.form true in
        omega (arith, less, few, small)

    pub skolem_step : (formulas : List Form) → 0 < length (ex_of g) → ((f : ℕ) → first ≤ f → IsFresh f (record { vocabulary = w; formulas = formulas }))
        → Skolemizes (record { vocabulary = w; formulas = formulas }) g.form (skolemized norm first) norm (skolemized norm first) (uses_from first (ex_of g))
    skolem_step formulas some new = record {
      of_parent = record { small = small; same = refl };
      some = let count = uses_count first (ex_of g) in omega (arith, count, some);
      replaced = replaced;
      new = record { distinct = functions_distinct first (ex_of g); fresh = functions_fresh (record { vocabulary = w; formulas = formulas }) first (ex_of g) new };
      of_line = record { small = skolem_small; same = refl };
    }
