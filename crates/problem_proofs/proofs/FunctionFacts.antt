-- The functions of a derivation: their sorts are there, and they are no more than the existential quantifiers of its
-- parts.
use Rattle.std.specs.Prelude.{ℕ, ◌≡◌, ◌+◌, ◌≤◌, ◌<◌, Bool, true, false, if◌then◌else◌, List, [], ◌∷◌, ◌++◌, length, map, refl}
use Rattle.std.specs.List.{All as Each, AllByRecursion}
use Rattle.std.proofs.Common.{ap, arith, suc}
use Rattle.std.proofs.lemmas.List.{length-append}
use Rattle.std.proofs.lemmas.List.Elements.{All-from_recursion}
use Rattle.fof_terms.specs.Sorts.{SortedTo}
use Rattle.fof_terms.specs.Vocabulary.{IsDeclared, Vocabulary}
use Rattle.clause_form.proofs.SizeLaws.{sum_cons}
use Rattle.clause_form.specs.Norm.{norm_of}
use Rattle.clause_rules.specs.Steps.{IsReady}
use Rattle.derivation_items.specs.Words.{Text}
use Rattle.sort_check.specs.declared.line.GivenEntry.{GivenEntry}
use Rattle.step_clauses.specs.Inputs.{new_symbols_from, next_behind}
use Rattle.step_clauses.specs.Skolems.{skolems_from, skolems_of}
use Rattle.step_clauses.specs.declared.existentials.Existential.{Existential}
use Rattle.step_clauses.specs.declared.skolems.Skolem.{Skolem}
use Rattle.step_search.proofs.ClauseSuits.{each_mapped, each_of_both}
use Rattle.step_search.proofs.FunctionSorts.{functions_declared}
use Rattle.given_parts.specs.Chosen.{chosen_from}
use Rattle.given_parts.specs.Functions.{functions_from, used_existentials}
use Rattle.given_parts.specs.Parts.{ex_count_of, ex_counts, part_of, parts_of as parts_of_given}
use Rattle.given_parts.specs.declared.part.Part.{Part}
use Rattle.problem_proofs.proofs.PosedFacts.{formulas}

parted : {X : Type 0} (P : X → Type 0) (xs ys : List X) → AllByRecursion P (xs ++ ys) → AllByRecursion P xs × AllByRecursion P ys
parted P [] ys all = (tt, all)
parted P (x ∷ xs) ys all = let rest = parted P xs ys all.1 in ((all.0, rest.0), rest.1)

abbrev existentials_of : ℕ → Part → List Existential
existentials_of k p = p.existentials

-- ---- sorts

module _ (sorts : ℕ) where
  abbrev HasSorts : Existential → Type 0
  HasSorts e = Each (λ (s : ℕ). s < sorts) e.around × (e.sort < sorts)

  abbrev HasDeclared : Skolem → Type 0
  HasDeclared k = IsDeclared sorts k.symbol

  abbrev PartFits : Part → Type 0
  PartFits p = AllByRecursion HasSorts p.existentials

  have_sorts : (k : ℕ) (es : List Existential) → AllByRecursion HasDeclared (skolems_from k es) → AllByRecursion HasSorts es
  have_sorts k [] all = tt
  have_sorts k (e ∷ es) all = ((all.0.args, all.0.result), have_sorts (k + 1) es all.1)

  parts_fit : (next : ℕ) (given : List GivenEntry) → AllByRecursion HasDeclared (new_symbols_from next (formulas given)) → AllByRecursion PartFits (parts_of_given given)
  parts_fit next [] all = tt
  parts_fit next (g ∷ given) all =
      let both = parted HasDeclared (skolems_of (norm_of true g.form) next) (new_symbols_from (next_behind next g.form) (formulas given)) all in
      (have_sorts next (part_of g.form).existentials both.0, parts_fit (next_behind next g.form) given both.1)

  one_chosen : (b : Bool) (p : Part) → PartFits p → AllByRecursion HasSorts (if b then p.existentials else [])
  one_chosen true p fits = fits
  one_chosen false p fits = tt

  chosen_fit : (k : ℕ) (used : List Bool) (parts : List Part) → AllByRecursion PartFits parts → AllByRecursion HasSorts (chosen_from k existentials_of used parts)
  chosen_fit k [] parts all = tt
  chosen_fit k (b ∷ used) [] all = tt
  chosen_fit k (b ∷ used) (p ∷ parts) all = each_of_both HasSorts (if b then p.existentials else []) (chosen_from (k + 1) existentials_of used parts) (one_chosen b p all.0) (chosen_fit (k + 1) used parts all.1)

  functions_fit : (prefix : Text) (k : ℕ) (es : List Existential) → AllByRecursion HasSorts es → AllByRecursion (IsDeclared sorts) (functions_from prefix k es)
  functions_fit prefix k [] all = tt
  functions_fit prefix k (e ∷ es) all = (record { args = all.0.0; result = all.0.1 }, functions_fit prefix (k + 1) es all.1)

formulas_ready : (v : Vocabulary) (given : List GivenEntry) → AllByRecursion (λ (g : GivenEntry). IsReady v g.form) given → AllByRecursion (SortedTo 1000000000 v []) (formulas given)
formulas_ready v given all = each_mapped (SortedTo 1000000000 v []) (λ (g : GivenEntry). g.form) given all

pub functions_declare : (v : Vocabulary) (given : List GivenEntry) (used : List Bool) (prefix : Text) → AllByRecursion (λ (g : GivenEntry). IsReady v g.form) given
    → Each (IsDeclared (length v.sorts)) (functions_from prefix 1 (used_existentials used (parts_of_given given)))
functions_declare v given used prefix all =
    let sorts = length v.sorts in
    let fit = parts_fit sorts (length v.symbols) given (functions_declared v (length v.symbols) (formulas given) (formulas_ready v given all)) in
    All-from_recursion (IsDeclared sorts) (functions_from prefix 1 (used_existentials used (parts_of_given given)))
    (functions_fit sorts prefix 1 (used_existentials used (parts_of_given given)) (chosen_fit sorts 0 used (parts_of_given given) fit))

-- ---- numbers

as_many : (prefix : Text) (k : ℕ) (es : List Existential) → length (functions_from prefix k es) ≡ length es
as_many prefix k [] = refl
as_many prefix k (e ∷ es) = ap suc (as_many prefix (k + 1) es)

no_more_of_one : (b : Bool) (p : Part) → length (if b then p.existentials else []) ≤ ex_count_of p
no_more_of_one true p = omega arith
no_more_of_one false p = omega arith

no_more_chosen : (k : ℕ) (used : List Bool) (parts : List Part) → length (chosen_from k existentials_of used parts) ≤ ex_counts parts
no_more_chosen k [] parts = omega arith
no_more_chosen k (b ∷ used) [] = omega arith
no_more_chosen k (b ∷ used) (p ∷ parts) =
    let one = no_more_of_one b p in
    let rest = no_more_chosen (k + 1) used parts in
    let joined = length-append (if b then p.existentials else []) (chosen_from (k + 1) existentials_of used parts) in
    let whole = sum_cons (ex_count_of p) (map ex_count_of parts) in
    omega (arith, one, rest, joined, whole)

pub no_more_functions : (prefix : Text) (used : List Bool) (parts : List Part) → length (functions_from prefix 1 (used_existentials used parts)) ≤ ex_counts parts
no_more_functions prefix used parts =
    let count = as_many prefix 1 (used_existentials used parts) in
    let few = no_more_chosen 0 used parts in
    omega arith
