-- The names under which the file of an include is looked for, as the TPTP technical manual has them: in the folder of
-- the file that includes it, and then in a folder that was given.
use Rattle.std.specs.Prelude.{ℕ, ◌-◌, ◌==◌, Bool, false, not, if◌then◌else◌, List, [], ◌∷◌, ◌++◌, length, take, codes}
use Rattle.std.specs.Prelude.{None, Some}
use Rattle.std.specs.declared.option.Option.{Option}
use Rattle.std.specs.List.{suffix_len, list_any}
use Rattle.std.specs.Str.{bytes_eq}

abbrev pub Text : Type 0
Text = List ℕ

-- `/`
abbrev pub slash : ℕ
slash = 47

abbrev pub is_no_slash : ℕ → Bool
is_no_slash byte = not (byte == slash)

-- a name through its last `/`, or nothing where it has none
abbrev pub directory : Text → Text
directory name = take (length name - suffix_len is_no_slash name) name

-- whether a name begins with `/`
abbrev pub is_absolute : Text → Bool
is_absolute [] = false
is_absolute (byte ∷ rest) = byte == slash

-- the root, `/` and the name, where a root is given
abbrev pub rooted : Option Text → Text → List Text
rooted None name = []
rooted (Some root) name = (root ++ (codes "/" ++ name)) ∷ []

-- The names that are tried in turn for a name that is written in the file `from`. None of them is changed further: `.`
-- and `..` are names like others.
abbrev pub tried_names : Text → Option Text → Text → List Text
tried_names from root name = if is_absolute name then name ∷ [] else (directory from ++ name) ∷ rooted root name

-- whether one of the files is of this name
abbrev pub is_on : List Text → Text → Bool
is_on path name = list_any (λ other. bytes_eq other name) path
