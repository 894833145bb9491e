-- What a match tells of a function's arguments. The term of the function stands in the place of variable k, which is
-- existential, and the universal variables around it are counted from k + 1 on.
use Rattle.std.specs.Prelude.{ℕ, ◌-◌, ◌==◌, ◌&&◌, nat_lt, Bool, false, List, [], ◌∷◌, map, find, take, Option, Some, None}
use Rattle.std.specs.Option.{option_map, option_or}
use Rattle.fof_terms.specs.declared.term.Term.{Term}
use Rattle.fof_terms.specs.declared.term.Term.TheViews.{out-Term}
use Rattle.function_choices.specs.declared.matched.Matched.{Matched}
use Rattle.function_choices.specs.Matched.{args_of}
use Rattle.fof_terms.specs.declared.term.Term.TheOpen as term

abbrev pub same_in : term.Term-F Term → term.Term-F Term → Bool
same_in (term.Var i) (term.Var j) = i == j
same_in _ _ = false

-- both are the same variable
unfoldable pub is_same_variable : Term → Term → Bool
is_same_variable t u = same_in (out-Term t) (out-Term u)

-- the first universal variable in the place of which the argument stands, which is a variable
abbrev pub universal : ℕ → List Matched → Term → Option ℕ
universal k ms t = option_map (λ (m : Matched). m.variable - k - 1) (find (λ (m : Matched). nat_lt k m.variable && is_same_variable m.term t) ms)

abbrev pub args_matched : Option Matched → List Term
args_matched None = []
args_matched (Some m) = args_of m.term

-- which universal variable each argument of the function's term is, where this is told, of a hundred at most
abbrev pub tells : ℕ → List Matched → List (Option ℕ)
tells k ms = map (universal k ms) (take 100 (args_matched (find (λ (m : Matched). m.variable == k) ms)))

-- of each argument what the first tells, and else the second
abbrev pub either : List (Option ℕ) → List (Option ℕ) → List (Option ℕ)
either [] bs = bs
either (a ∷ as_) [] = a ∷ as_
either (a ∷ as_) (b ∷ bs) = option_or a b ∷ either as_ bs
