-- The names of bound variables: each is `X` and the number of the binders around its own. And lists that are not empty,
-- as the TPTP language has them.
use Rattle.std.specs.Prelude.{ℕ, ◌+◌, ◌&&◌, ◌++◌, Bool, true, false, List, [], ◌∷◌, length, codes, decimal}
use Rattle.std.specs.List.{list_all}
use Rattle.std.specs.Option.{is_some}
use Rattle.std.specs.Str.{bytes_eq}
use Rattle.tptp_base.specs.declared.surface.BoundVar.{BoundVar}
use Rattle.tptp_base.specs.declared.surface.Surface.{Surface}
use Rattle.tptp_base.specs.declared.surface.Surface.TheFolds.{fold-Surface}
use Rattle.tptp_base.specs.declared.surface.Surface.TheOpen as sf
use Rattle.sort_check.specs.Symbols.{Text}

-- the variable of the binder of that number, counted from the outside
abbrev pub variable_name : ℕ → Text
variable_name k = codes "X" ++ decimal k

-- the variables have these names, numbered from k on, and their sorts are written
abbrev pub are_numbered : ℕ → List BoundVar → Bool
are_numbered k [] = true
are_numbered k (x ∷ xs) = (bytes_eq x.name (variable_name k) && is_some x.sort) && are_numbered (k + 1) xs

abbrev pub has_some : {X : Type 0} → List X → Bool
has_some [] = false
has_some (x ∷ xs) = true

abbrev pub numbered_step : sf.Surface-F (ℕ → Bool) → ℕ → Bool
numbered_step sf.True k = true
numbered_step sf.False k = true
numbered_step (sf.Atom name args) k = true
numbered_step (sf.Eq l r) k = true
numbered_step (sf.Neq l r) k = true
numbered_step (sf.Not a) k = a k
numbered_step (sf.And as_) k = has_some as_ && list_all (λ a. a k) as_
numbered_step (sf.Or as_) k = has_some as_ && list_all (λ a. a k) as_
numbered_step (sf.Binary op a b) k = a k && b k
numbered_step (sf.Bind quant xs a) k = has_some xs && (are_numbered k xs && a (k + length xs))

-- Under k binders, each binder of the formula has this name, and its sort is written. Each quantifier binds a variable,
-- and each conjunction and each disjunction has a member.
unfoldable pub is_numbered : ℕ → Surface → Bool
is_numbered k a = fold-Surface (ℕ → Bool) numbered_step a k
