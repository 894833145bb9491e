-- Which faults are the first ones of a list of tokens.
use Rattle.std.specs.Prelude.{◌≡◌, ℕ, ◌<◌, Bool, true, false, ◌||◌, not, List, [], ◌∷◌, ◌++◌, codes}
use Rattle.std.specs.Str.{bytes_eq}
use Rattle.first_fault.specs.Nesting.{plain, Within}
use Rattle.tptp_lexer.specs.declared.style.Style.{Style}
use Rattle.tptp_lexer.specs.declared.token.Token.{Token}
use Rattle.tptp_lexer.specs.declared.token.Token.TheVariants.{Lower, Dollar, System, Number, Distinct}
use Rattle.tptp_base.specs.declared.place.Place.{Place}
use Rattle.tptp_base.specs.declared.item.Item.{Item}
use Rattle.tptp_grammar.specs.Tokens.{Text, Tokens}
use Rattle.tptp_grammar.specs.Files.{IsFile, Spells, IsPossible, IsPossibleWithin}
use Rattle.tptp_grammar.specs.Solid.{Placed, solid}

-- how deep a text may nest
abbrev pub max_nesting : ℕ
max_nesting = 250

-- the words that begin with `$` and are of the language
abbrev pub is_defined_word : Text → Bool
is_defined_word w = bytes_eq w (codes "$true") || bytes_eq w (codes "$false") || bytes_eq w (codes "$i") || bytes_eq w (codes "$o") || bytes_eq w (codes "$tType")

-- the languages that are left out, of problems at least
abbrev pub is_other_language : Text → Bool
is_other_language w = bytes_eq w (codes "thf") || bytes_eq w (codes "tcf") || bytes_eq w (codes "tpi")

-- the tokens that belong to parts of TPTP that are left out
abbrev pub is_outside : Token → Bool
is_outside (Number n) = true
is_outside (Distinct x) = true
is_outside (System w) = true
is_outside (Dollar w) = not (is_defined_word w)
is_outside (Lower w) = is_other_language w
is_outside _ = false

-- The first token such that no spelled text begins with the tokens through it; those before it are within the limit.
pub record IsImpossible (style : Style) (limit : ℕ) (tokens : List Placed) (token : Token) (place : Place) : Type 0 where
  pub front : List Placed
  pub rest : List Placed
  pub text : tokens ≡ front ++ ((token, place) ∷ rest)
  pub possible : IsPossibleWithin style limit front
  pub impossible : IsPossible style (front ++ ((token, place) ∷ [])) → ⊥

-- Some spelled text begins with all tokens, within the limit, and they spell none themselves.
pub record IsUnfinished (style : Style) (limit : ℕ) (tokens : List Placed) : Type 0 where
  pub possible : IsPossibleWithin style limit tokens
  pub nothing : (items : List Item) → Spells style items tokens → ⊥

-- In a spelled text that begins with the tokens through this one it is the first that is nested deeper than the limit.
pub record IsDeep (style : Style) (limit : ℕ) (tokens : List Placed) (place : Place) : Type 0 where
  pub front : List Placed
  pub token : Token
  pub rest : List Placed
  pub text : tokens ≡ front ++ ((token, place) ∷ rest)
  pub more : List Placed
  pub items : List Item
  pub before : Tokens
  pub level : ℕ
  pub later : Tokens
  pub spells : IsFile style items (front ++ ((token, place) ∷ more)) (before ++ ((token, level) ∷ later))
  pub same : plain before ≡ solid front
  pub within : Within limit before
  pub deep : limit < level
