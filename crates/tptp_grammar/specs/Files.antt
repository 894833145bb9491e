-- What the tokens of a file spell: comments between items are items, comments inside an item are dropped.
use Rattle.std.specs.Prelude.{◌≡◌, ℕ, false, List, [], ◌∷◌, ◌++◌}
use Rattle.first_fault.specs.Nesting.{plain, Within}
use Rattle.tptp_lexer.specs.declared.style.Style.{Style}
use Rattle.tptp_lexer.specs.declared.token.Token.{Token}
use Rattle.tptp_lexer.specs.declared.token.Token.TheVariants.{Comment}
use Rattle.tptp_base.specs.declared.place.Place.{Place}
use Rattle.tptp_base.specs.declared.item.Item.{Item}
use Rattle.tptp_grammar.specs.Tokens.{Text, Tokens}
use Rattle.tptp_grammar.specs.Items.{IsItem}
use Rattle.tptp_grammar.specs.Solid.{Placed, solid}
use Rattle.tptp_lexer.specs.Dots.{is_comment}
use Rattle.tptp_base.specs.declared.item.Item.TheVariants as item

-- The first list, without its comments and through a token that is none, is the third list through its last token
-- before the fourth. The second list is what follows that token.
pub data Through : List Placed → List Placed → Tokens → Tokens → Type 0 where
  last_token : {t : Token} {place : Place} {n : ℕ} {rest : List Placed} {mid : Tokens} → is_comment t ≡ false → Through ((t, place) ∷ rest) rest ((t, n) ∷ mid) mid
  dropped : {text : Text} {place : Place} {ts rest : List Placed} {us mid : Tokens} → Through ts rest us mid → Through ((Comment text, place) ∷ ts) rest us mid
  token : {t : Token} {place : Place} {n : ℕ} {ts rest : List Placed} {us mid : Tokens} → is_comment t ≡ false → Through ts rest us mid → Through ((t, place) ∷ ts) rest ((t, n) ∷ us) mid

-- <TPTP_file> ::= <TPTP_input>*, of a text of the style, where <TPTP_input> ::= <annotated_formula> | <include>, and comments.
-- The last list has the tokens that are no comments, with their nesting.
pub data IsFile (style : Style) : List Item → List Placed → Tokens → Type 0 where
  end_of_file : IsFile style [] [] []
  comment : {text : Text} {place : Place} {items : List Item} {rest : List Placed} {us : Tokens} → IsFile style items rest us → IsFile style (item.Comment text ∷ items) ((Comment text, place) ∷ rest) us
  input : {i : Item} {t : Token} {place : Place} {n : ℕ} {items : List Item} {ts rest : List Placed} {us mid : Tokens} → IsItem style place i ((t, n) ∷ us) mid → Through ts rest us mid → IsFile style items rest mid
      → IsFile style (i ∷ items) ((t, place) ∷ ts) ((t, n) ∷ us)

-- the tokens of a text of the style are these items
abbrev pub Spells : Style → List Item → List Placed → Type 0
Spells style items tokens = (us : Tokens) × IsFile style items tokens us

-- and none of them is nested deeper than the limit
abbrev pub SpellsWithin : Style → ℕ → List Item → List Placed → Type 0
SpellsWithin style limit items tokens = (us : Tokens) × IsFile style items tokens us × Within limit us

-- some items are spelled by a list that begins so
abbrev pub IsPossible : Style → List Placed → Type 0
IsPossible style tokens = (more : List Placed) × (items : List Item) × Spells style items (tokens ++ more)

-- and in their text none of these tokens is nested deeper than the limit
pub record IsPossibleWithin (style : Style) (limit : ℕ) (tokens : List Placed) : Type 0 where
  pub more : List Placed
  pub items : List Item
  pub before : Tokens
  pub later : Tokens
  pub spells : IsFile style items (tokens ++ more) (before ++ later)
  pub same : plain before ≡ solid tokens
  pub within : Within limit before
