-- What terms and formulas denote (TPTP technical manual, quantification and connectives): trees in which a bound
-- variable is the number of binders between it and its own.
use Rattle.std.specs.Prelude.{ℕ, ◌+◌, ◌==◌, ◌++◌, Bool, not, if◌then◌else◌, List, [], ◌∷◌, length, map, take, Option, Some}
use Rattle.std.specs.Prelude.{None, Ok, Err}
use Rattle.std.specs.List.{filter, flat_map}
use Rattle.std.specs.Str.{bytes_eq}
use Rattle.tptp_base.specs.declared.surface.STerm.{STerm}
use Rattle.tptp_base.specs.declared.surface.STerm.TheFolds.{fold-STerm}
use Rattle.tptp_base.specs.declared.surface.Surface.{Surface}
use Rattle.tptp_base.specs.declared.surface.Surface.TheFolds.{fold-Surface}
use Rattle.tptp_base.specs.declared.surface.BoundVar.{BoundVar}
use Rattle.tptp_base.specs.declared.surface.SortName.{SortName}
use Rattle.tptp_base.specs.declared.surface.BinOp.{BinOp}
use Rattle.tptp_base.specs.declared.surface.Quant.{Quant}
use Rattle.tptp_base.specs.declared.item.Lang.{Lang}
use Rattle.fof_terms.specs.Vocabulary.{Vocabulary, found_symbol}
use Rattle.fof_terms.specs.Sorts.{is_sort}
use Rattle.fof_terms.specs.declared.signature.Kind.TheVariants.{Function, Predicate}
use Rattle.fof_terms.specs.declared.term.Term.{Term, Var, App}
use Rattle.fof_terms.specs.declared.form.Form.{Form, Atom, Eq, Not, And, Or, Imp, Iff, All, Ex}
use Rattle.sort_check.specs.declared.fault.SortRule.{SortRule}
use Rattle.sort_check.specs.declared.fault.SortRule.TheVariants.{FreeVariable, WrongSort, Variables}
use Rattle.sort_check.specs.declared.scope.Variable.{Variable}
use Rattle.sort_check.specs.declared.terms.Sorted.{Sorted}
use Rattle.sort_check.specs.Outcomes.{Outcome, and_then, mapped, each}
use Rattle.sort_check.specs.Symbols.{Text, new_symbol, head, argument_sort, result_sort, named_sort}
use Rattle.tptp_base.specs.declared.surface.STerm.TheOpen as st
use Rattle.tptp_base.specs.declared.surface.Surface.TheOpen as sf
use Rattle.tptp_base.specs.declared.surface.BinOp.TheVariants as op
use Rattle.tptp_base.specs.declared.surface.Quant.TheVariants as q
use Rattle.tptp_base.specs.declared.item.Lang.TheVariants as lang

-- ---- variables in scope, the outermost first

abbrev pub or_else : {A : Type 0} → Option A → Option A → Option A
or_else (Some x) other = Some x
or_else None other = other

-- the innermost variable of that name: the number of binders within its own, and its sort
abbrev pub nearest : List Variable → Text → Option (ℕ × ℕ)
nearest [] name = None
nearest (x ∷ inner) name = or_else (nearest inner name) (if bytes_eq x.name name then Some (length inner, x.sort) else None)

-- the names that the type lines declare, the fault of a variable that is not in scope, and whether a new symbol has the
-- sorts of its place
pub record Setting : Type 0 where
  pub declared : List Text
  pub outside : SortRule
  pub by_place : Bool

-- ---- terms, with their sorts

abbrev pub TermOutcome : Type 0
TermOutcome = Outcome SortRule Vocabulary Sorted

-- what a term denotes at a place that asks for this sort, or for none
abbrev pub Denoting : Type 0
Denoting = Option ℕ → Vocabulary → TermOutcome

-- that, and the sort of the term as far as it is known before it is walked
pub record Walk : Type 0 where
  pub known : Vocabulary → Option ℕ
  pub denotes : Setting → Denoting

abbrev pub variable_at : SortRule → Option (ℕ × ℕ) → Vocabulary → TermOutcome
variable_at outside (Some found) v = Ok (record { term = Var found.0; sort = found.1 }, v)
variable_at outside None v = Err outside

-- the sort of a variable, and of an application of a symbol that is there
abbrev pub variable_known : Option (ℕ × ℕ) → Option ℕ
variable_known (Some found) = Some found.1
variable_known None = None

abbrev pub application_known : Vocabulary → Option ℕ → Option ℕ
application_known v (Some symbol) = Some (result_sort v symbol)
application_known v None = None

abbrev pub fitting : ℕ → ℕ → Sorted → Vocabulary → Outcome SortRule Vocabulary Term
fitting symbol place t v = if is_sort (argument_sort v symbol place) t.sort then Ok (t.term, v) else Err WrongSort

-- an argument: first its inside, at a place that asks for the symbol's sort there, and then its sort
abbrev pub argument : ℕ → ℕ → Denoting → Vocabulary → Outcome SortRule Vocabulary Term
argument symbol place t v = and_then (t (argument_sort v symbol place) v) (fitting symbol place)

abbrev pub made : ℕ → ℕ → List Term → Sorted
made symbol sort args = record { term = App symbol args; sort = sort }

-- a new symbol is made of what is known of its arguments before they are walked
abbrev pub term_step : List Variable → st.STerm-F Walk → Walk
term_step scope (st.Var name) = record {
  known = λ v. variable_known (nearest scope name);
  denotes = λ here asked v. variable_at here.outside (nearest scope name) v;
}
term_step scope (st.App name args) = record {
  known = λ v. application_known v (found_symbol v name Function (length args));
  denotes = λ here asked v.
      and_then (head here.declared name Function (length args) (new_symbol here.by_place v name Function (map (λ (t : Walk). t.known v) args) asked) v)
      (λ f w. mapped (made f (result_sort w f)) (each (λ place (t : Walk). argument f place (t.denotes here)) 0 args w));
}

unfoldable pub walked : List Variable → STerm → Walk
walked scope = fold-STerm Walk (term_step scope)

abbrev pub denoted_term : Setting → List Variable → STerm → Denoting
denoted_term here scope t = (walked scope t).denotes here

abbrev pub known_sort : List Variable → Vocabulary → STerm → Option ℕ
known_sort scope v t = (walked scope t).known v

-- ---- formulas

-- the vocabulary, and the bound variables of the formula so far
pub record State : Type 0 where
  pub vocabulary : Vocabulary
  pub bound : ℕ

abbrev pub FormOutcome : Type 0
FormOutcome = Outcome SortRule State Form

-- beside so many bound variables
abbrev pub beside : {A : Type 0} → ℕ → Outcome SortRule Vocabulary A → Outcome SortRule State A
beside n (Ok p) = Ok (p.0, record { vocabulary = p.1; bound = n })
beside n (Err e) = Err e

abbrev pub atom : Setting → List Variable → Text → List STerm → Vocabulary → Outcome SortRule Vocabulary Form
atom here scope name args v =
    and_then (head here.declared name Predicate (length args) (new_symbol here.by_place v name Predicate (map (known_sort scope v) args) None) v)
    (λ p w. mapped (Atom p) (each (λ place t. argument p place (denoted_term here scope t)) 0 args w))

abbrev pub equal : Sorted → Sorted → Vocabulary → Outcome SortRule Vocabulary Form
equal l r v = if l.sort == r.sort then Ok (Eq l.term r.term, v) else Err WrongSort

-- An equation: both sides, then their sorts. Each side's place asks for the sort of the other, as far as it is known.
abbrev pub equation : Setting → List Variable → STerm → STerm → Vocabulary → Outcome SortRule Vocabulary Form
equation here scope l r v =
    and_then (denoted_term here scope l (known_sort scope v r) v) (λ x w. and_then (denoted_term here scope r (Some x.sort) w) (equal x))

-- a connective between two formulas, in the order of the text
abbrev pub joined : BinOp → Form → Form → Form
joined op.Imp a b = Imp a b
joined op.RevImp a b = Imp b a
joined op.Iff a b = Iff a b
joined op.Xor a b = Not (Iff a b)
joined op.Nor a b = Not (Or (a ∷ b ∷ []))
joined op.Nand a b = Not (And (a ∷ b ∷ []))

-- an untyped variable is an individual
abbrev pub variable_sort : Option SortName → Vocabulary → Outcome SortRule Vocabulary ℕ
variable_sort None v = Ok (0, v)
variable_sort (Some name) v = named_sort name v

-- a bound variable: first the count, then its sort
abbrev pub bound_variable : BoundVar → State → Outcome SortRule State Variable
bound_variable x s =
    if s.bound == 250 then Err Variables
    else mapped (λ sort. record { name = x.name; sort = sort }) (beside (s.bound + 1) (variable_sort x.sort s.vocabulary))

abbrev pub quantified : Quant → ℕ → Form → Form
quantified q.All sort a = All sort a
quantified q.Ex sort a = Ex sort a

-- one quantifier for each variable, the first outermost
abbrev pub closed : Quant → List Variable → Form → Form
closed quant [] a = a
closed quant (x ∷ xs) a = quantified quant x.sort (closed quant xs a)

abbrev pub Meaning : Type 0
Meaning = List Variable → State → FormOutcome

-- what is bound: first the variables, then the body under them
abbrev pub bind : Quant → List BoundVar → Meaning → Meaning
bind quant xs a scope s = and_then (each (λ place. bound_variable) 0 xs s) (λ vs t. mapped (closed quant vs) (a (scope ++ vs) t))

abbrev pub form_step : Setting → sf.Surface-F Meaning → Meaning
form_step here sf.True scope s = Ok (And [], s)
form_step here sf.False scope s = Ok (Or [], s)
form_step here (sf.Atom name args) scope s = beside s.bound (atom here scope name args s.vocabulary)
form_step here (sf.Eq l r) scope s = beside s.bound (equation here scope l r s.vocabulary)
form_step here (sf.Neq l r) scope s = mapped Not (beside s.bound (equation here scope l r s.vocabulary))
form_step here (sf.Not a) scope s = mapped Not (a scope s)
form_step here (sf.And as_) scope s = mapped And (each (λ place a. a scope) 0 as_ s)
form_step here (sf.Or as_) scope s = mapped Or (each (λ place a. a scope) 0 as_ s)
form_step here (sf.Binary op a b) scope s = and_then (a scope s) (λ x t. mapped (joined op x) (b scope t))
form_step here (sf.Bind quant xs a) scope s = bind quant xs a scope s

unfoldable pub denoted_form : Setting → Surface → Meaning
denoted_form here = fold-Surface Meaning (form_step here)

-- ---- clauses: their variables are bound in front, in the order in which they first appear

-- the variables of a term, each as often as it occurs
abbrev pub variables_step : st.STerm-F (List Text) → List Text
variables_step (st.Var name) = name ∷ []
variables_step (st.App name args) = flat_map (λ names. names) args

unfoldable pub variables_of_term : STerm → List Text
variables_of_term = fold-STerm (List Text) variables_step

abbrev pub form_variables_step : sf.Surface-F (List Text) → List Text
form_variables_step sf.True = []
form_variables_step sf.False = []
form_variables_step (sf.Atom name args) = flat_map variables_of_term args
form_variables_step (sf.Eq l r) = variables_of_term l ++ variables_of_term r
form_variables_step (sf.Neq l r) = variables_of_term l ++ variables_of_term r
form_variables_step (sf.Not a) = a
form_variables_step (sf.And as_) = flat_map (λ names. names) as_
form_variables_step (sf.Or as_) = flat_map (λ names. names) as_
form_variables_step (sf.Binary op a b) = a ++ b
form_variables_step (sf.Bind quant xs a) = a

unfoldable pub variables_of : Surface → List Text
variables_of = fold-Surface (List Text) form_variables_step

-- each once, where it first appears
abbrev pub each_once : List Text → List Text
each_once [] = []
each_once (name ∷ names) = name ∷ filter (λ other. not (bytes_eq name other)) (each_once names)

-- the first 250 variables of a clause, which are individuals
abbrev pub clause_scope : Surface → List Variable
clause_scope a = map (λ name. record { name = name; sort = 0 }) (take 250 (each_once (variables_of a)))

-- ---- whole formulas

abbrev pub without_count : Outcome SortRule State Form → Outcome SortRule Vocabulary Form
without_count (Ok p) = Ok (p.0, p.1.vocabulary)
without_count (Err e) = Err e

-- where a formula stands
abbrev pub outermost : Bool → List Text → SortRule → Setting
outermost by_place declared outside = record { declared = declared; outside = outside; by_place = by_place }

-- a formula of FOF, TFF or TCF binds its variables itself
abbrev pub sentence : Bool → List Text → Surface → Vocabulary → Outcome SortRule Vocabulary Form
sentence by_place declared a v = without_count (denoted_form (outermost by_place declared FreeVariable) a [] (record { vocabulary = v; bound = 0 }))

-- a variable of a clause that is not among its first 250 is one too many
abbrev pub clause : Bool → List Text → Surface → Vocabulary → Outcome SortRule Vocabulary Form
clause by_place declared a v =
    let scope = clause_scope a in
    mapped (closed q.All scope) (without_count (denoted_form (outermost by_place declared Variables) a scope (record { vocabulary = v; bound = 0 })))

-- the formula of a language, in which a new symbol has the sorts of its place or is one of individuals
abbrev pub formula : Bool → Lang → List Text → Surface → Vocabulary → Outcome SortRule Vocabulary Form
formula by_place lang.Cnf declared a v = clause by_place declared a v
formula by_place lang.Fof declared a v = sentence by_place declared a v
formula by_place lang.Tff declared a v = sentence by_place declared a v
formula by_place lang.Tcf declared a v = sentence by_place declared a v
