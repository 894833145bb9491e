-- The formulas that a problem gives, as those of a step to falsehood: they are ready, the negation of falsehood has no
-- clauses, and there is room for the functions of a derivation.
use Rattle.std.specs.Prelude.{ℕ, ◌≡◌, ◌+◌, ◌≤◌, ◌<◌, ◌^◌, true, false, List, [], ◌∷◌, ◌++◌, length, map, refl}
use Rattle.std.specs.List.{All as Each}
use Rattle.std.proofs.Common.{ap, ◌∙◌, arith}
use Rattle.std.proofs.lemmas.List.Elements.{All-from_recursion, recursion_from_All}
use Rattle.fof_terms.proofs.SortsFacts.{binder_depth-Or, is_sorted-Or}
use Rattle.fof_terms.specs.Sorts.{binder_depth}
use Rattle.fof_terms.specs.Vocabulary.{Vocabulary}
use Rattle.fof_terms.specs.declared.form.Form.{Form, And, Not}
use Rattle.fof_terms.specs.declared.term.Term.{Var}
use Rattle.clause_form.proofs.ClausesFacts.{clausal-And, skolem_made-And}
use Rattle.clause_form.proofs.NormFacts.{norm_of-Not, norm_of-Or}
use Rattle.clause_form.proofs.SizeLaws.{sum_cons}
use Rattle.clause_form.specs.Clauses.{Clausal, Maker, clauses_in, clauses_of, skolemized}
use Rattle.clause_form.specs.Norm.{joined_flat, norm_of}
use Rattle.clause_form.specs.Paths.{forms_of}
use Rattle.clause_form.specs.declared.clause.Clause.{Clause}
use Rattle.clause_form.specs.declared.path.Parent.{Parent}
use Rattle.clause_rules.specs.Steps.{AreReady, IsReady}
use Rattle.sort_check.specs.declared.line.GivenEntry.{GivenEntry}
use Rattle.step_clauses.specs.Inputs.{clauses_from, new_symbols_from, next_behind, step_forms}
use Rattle.step_search.proofs.ClauseSuits.{each_mapped}
use Rattle.step_search.proofs.FunctionSorts.{functions_count}
use Rattle.step_search.proofs.Inputs.{functions_fit}
use Rattle.given_parts.specs.Parts.{ex_count_of, ex_counts, part_of, parts_of as parts_of_given}
use Rattle.problem_proofs.specs.Posed.{HasSymbols, clauses_of_given, falsehood, is_too_wide, parent_of, parents_of}

abbrev pub formulas : List GivenEntry → List Form
formulas given = map (λ (g : GivenEntry). g.form) given

pub formulas_are : (given : List GivenEntry) → forms_of (parents_of given) ≡ formulas given
formulas_are [] = refl
formulas_are (g ∷ given) = ap (λ (as_ : List Form). g.form ∷ as_) (formulas_are given)

-- ---- they are ready

pub parents_ready : (v : Vocabulary) (given : List GivenEntry) → Each (λ (g : GivenEntry). IsReady v g.form) given → AreReady v (parents_of given)
parents_ready v given ready =
    All-from_recursion (λ (p : Parent). IsReady v p.form) (parents_of given) (each_mapped (λ (p : Parent). IsReady v p.form) parent_of given (recursion_from_All (λ (g : GivenEntry). IsReady v g.form) given ready))

pub falsehood_ready : (v : Vocabulary) → IsReady v falsehood
falsehood_ready v = record {
  scope_fits = record { few_variables = omega arith; sorts_exist = tt };
  few_binders = let none : binder_depth falsehood ≡ 0 = binder_depth-Or [] in omega arith;
  fits = is_sorted-Or v [] [];
}

pub shallow : (v : Vocabulary) (given : List GivenEntry) → Each (λ (g : GivenEntry). IsReady v g.form) given → Each (λ (g : GivenEntry). binder_depth g.form < 2 ^ 32) given
shallow v given ready k g lt = let few = (ready k g lt).few_binders in omega arith

-- ---- their clauses

truth_is : norm_of true (Not falsehood) ≡ And []
unfolding joined_flat
truth_is = norm_of-Not true falsehood ∙ norm_of-Or false []

nothing_made : (next : ℕ) → skolemized (And []) next ≡ And []
nothing_made next = ap (λ (m : Maker). (m next 0 Var).0) (skolem_made-And [])

no_clauses : (next : ℕ) → clauses_of (Not falsehood) next ≡ []
no_clauses next = ap (λ (a : Form). clauses_in (skolemized a next)) truth_is ∙ ap clauses_in (nothing_made next) ∙ ap (λ (c : Clausal). c.clauses) (clausal-And [])

clauses_alone : (next : ℕ) (forms : List Form) → clauses_from next (step_forms forms falsehood) ≡ clauses_from next forms
clauses_alone next [] = ap (λ (cs : List Clause). cs ++ []) (no_clauses next)
clauses_alone next (a ∷ forms) = ap (λ (cs : List Clause). clauses_of a next ++ cs) (clauses_alone (next_behind next a) forms)

pub clauses_are : (v : Vocabulary) (given : List GivenEntry) → clauses_of_given v given ≡ clauses_from (length v.symbols) (formulas given)
clauses_are v given = clauses_alone (length v.symbols) (forms_of (parents_of given)) ∙ ap (clauses_from (length v.symbols)) (formulas_are given)

-- ---- room for functions

counts_within : (next : ℕ) (given : List GivenEntry) (line : Form) → ex_counts (parts_of_given given) ≤ length (new_symbols_from next (step_forms (forms_of (parents_of given)) line))
counts_within next [] line = omega arith
counts_within next (g ∷ given) line =
    let rest = counts_within (next_behind next g.form) given line in
    let made = functions_count next g.form (step_forms (forms_of (parents_of given)) line) in
    let whole = sum_cons (ex_count_of (part_of g.form)) (map ex_count_of (parts_of_given given)) in
    omega (arith, rest, made, whole)

pub counts_fit : (v : Vocabulary) (given : List GivenEntry) → Each (λ (g : GivenEntry). IsReady v g.form) given → is_too_wide v given ≡ false → HasSymbols v given → length v.symbols + ex_counts (parts_of_given given) ≤ 16777216
counts_fit v given ready narrow room =
    let fit = functions_fit v (parents_of given) falsehood (parents_ready v given ready) (falsehood_ready v) narrow room in
    let within = counts_within (length v.symbols) given falsehood in
    omega arith
