-- Directories: numbers that stand under names and numbers of arguments.
use Rattle.std.specs.Prelude.{ℕ, List, Option, nat_eq}
use Rattle.std.specs.Option.{option_and_then}
use Rattle.std.specs.Cmp.Lexicographic.{pointwise}
use Rattle.indexmap.specs.IndexMap.{get, get_by}
use Rattle.fof_terms.specs.declared.directory.Directory.{Directory}

-- the number under the name and the number of arguments
unfoldable pub entered : Directory → List ℕ → ℕ → Option ℕ
entered d name arity = option_and_then (λ part. get_by (λ k. pointwise nat_eq name k.items) part) (get nat_eq d.parts arity)
