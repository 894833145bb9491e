-- Tokens that follow one another.
use Rattle.std.proofs.Common.{◌≡◌, ℕ, ◌+◌, ◌≤◌, Bool, true, false, List, [], ◌∷◌, ◌++◌, length, Option, Some, refl, ap, subst, ◌∙◌, sym, arith}
use Rattle.std.proofs.lemmas.List.{map-append}
use Rattle.tptp_base.specs.declared.place.Place.{Place}
use Rattle.tptp_base.specs.Place.{place_of}
use Rattle.tptp_lexer.specs.declared.lexeme.Lexeme.{Lexeme}
use Rattle.tptp_lexer.specs.declared.token.Token.{Token}
use Rattle.tptp_lexer.specs.declared.token.Token.TheVariants as t
use Rattle.tptp_lexer.specs.Bytes.{Text}
use Rattle.tptp_lexer.specs.Words.{as_word, as_words}
use Rattle.tptp_lexer.specs.Lexemes.{Follow, IsPlaced, ahead, spelling, taken, item_of, items_of, token_of}
use Rattle.tptp_lexer.specs.code.Step.{found}

-- from an earlier offset
pub follow_from : (from mid to : ℕ) (list : List Lexeme) → from ≤ mid → Follow mid list to → Follow from list to
follow_from from mid to [] earlier h = omega arith
follow_from from mid to (lexeme ∷ list) earlier h = (let k = h.0 in omega arith, h.1)

pub follow_join : (from mid to : ℕ) (list more : List Lexeme) → Follow from list mid → Follow mid more to → Follow from (list ++ more) to
follow_join from mid to [] more h k = follow_from from mid to more h k
follow_join from mid to (lexeme ∷ list) more h k = (h.0, follow_join (lexeme.at + lexeme.len) mid to list more h.1 k)

-- up to a later offset
pub follow_on : (from mid to : ℕ) (list : List Lexeme) → mid ≤ to → Follow from list mid → Follow from list to
follow_on from mid to [] later h = omega arith
follow_on from mid to (lexeme ∷ list) later h = (h.0, follow_on (lexeme.at + lexeme.len) mid to list later h.1)

-- what follows ends behind where it begins
pub follow_within : (from to : ℕ) (list : List Lexeme) → Follow from list to → from ≤ to
follow_within from to [] h = h
follow_within from to (lexeme ∷ list) h = let k = follow_within (lexeme.at + lexeme.len) to list h.1 in let e = h.0 in omega arith

-- ---- the first of them, and the others

module _ (text : Text) (start : Place) (lexeme : Lexeme) (list : List Lexeme) (h : IsPlaced text start (lexeme ∷ list)) where
  pub first_later : start.offset ≤ lexeme.at
  first_later = h.follow.0

  pub first_within : lexeme.at + lexeme.len ≤ length text
  first_within = follow_within (lexeme.at + lexeme.len) (length text) list h.follow.1

  -- the others, behind the same place
  pub rest_placed : (new : List Lexeme) → list ≡ new → IsPlaced text start new
  rest_placed new same = let later = h.follow.0 in record {
    is_place = h.is_place;
    follow = subst (λ (x : List Lexeme). Follow start.offset x (length text)) same (follow_from start.offset (lexeme.at + lexeme.len) (length text) list (omega arith) h.follow.1);
  }

-- the next one, where there is one
pub next_within : (text : Text) (start : Place) (next : Option Lexeme) (lexeme : Lexeme) (list : List Lexeme) → next ≡ Some lexeme → IsPlaced text start (ahead next list) → lexeme.at + lexeme.len ≤ length text
next_within text start next lexeme list is h = first_within text start lexeme list (subst (λ n. IsPlaced text start (ahead n list)) is h)

-- tokens behind a place of the text
pub placed_on : (file : ℕ) (text : Text) (place : Place) (at : ℕ) (list : List Lexeme) → place ≡ place_of file text at → Follow at list (length text) → IsPlaced text place list
placed_on file text place at list is h =
    let offset : place.offset ≡ at = ap (λ (p : Place). p.offset) is in
    let same : place.file ≡ file = ap (λ (p : Place). p.file) is in
    record {
      is_place = subst (λ f. place ≡ place_of f text place.offset) (sym same) (is ∙ ap (place_of file text) (sym offset));
      follow = subst (λ n. Follow n list (length text)) (sym offset) h;
    }

-- and those behind the first one, behind its place
pub placed_first : (text : Text) (start place : Place) (lexeme : Lexeme) (list new : List Lexeme) → IsPlaced text start (lexeme ∷ list) → place ≡ place_of start.file text lexeme.at → list ≡ new → IsPlaced text place new
placed_first text start place lexeme list new h is same =
    placed_on start.file text place lexeme.at new is (subst (λ (x : List Lexeme). Follow lexeme.at x (length text)) same (follow_from lexeme.at (lexeme.at + lexeme.len) (length text) list (omega arith) h.follow.1))

-- ---- tokens that are taken as words

-- a token that is not taken as a word is itself
not_taken : (token : Token) → taken false token ≡ token
not_taken (t.Lower text) = refl
not_taken (t.Quoted text) = refl
not_taken (t.Upper text) = refl
not_taken (t.Dollar text) = refl
not_taken (t.System text) = refl
not_taken (t.Number text) = refl
not_taken (t.Distinct text) = refl
not_taken (t.Comment text) = refl
not_taken (t.Mark mark) = refl

-- a token that may be taken as a word, taken as a word
word_of_taken : (words : Bool) (token : Token) → as_word (taken words token) ≡ taken true token
word_of_taken words (t.Lower text) = refl
word_of_taken words (t.Quoted text) = refl
word_of_taken words (t.Upper text) = refl
word_of_taken words (t.Dollar text) = refl
word_of_taken words (t.System text) = refl
word_of_taken words (t.Number text) = refl
word_of_taken true (t.Distinct text) = refl
word_of_taken false (t.Distinct text) = refl
word_of_taken words (t.Comment text) = refl
word_of_taken words (t.Mark mark) = refl

pub found_join : (file : ℕ) (text : Text) (list more : List Lexeme) → found file text (list ++ more) ≡ found file text list ++ found file text more
found_join file text list more = map-append (item_of false file text) list more

pub found_taken : (file : ℕ) (text : Text) (lexeme : Lexeme) → found file text (lexeme ∷ []) ≡ (token_of lexeme.kind (spelling text lexeme), place_of file text lexeme.at) ∷ []
found_taken file text lexeme = ap (λ (token : Token). (token, place_of file text lexeme.at) ∷ []) (not_taken (token_of lexeme.kind (spelling text lexeme)))

-- the tokens with words in place of distinct objects
pub words_taken : (words : Bool) (file : ℕ) (text : Text) (list : List Lexeme) → items_of true file text list ≡ as_words (items_of words file text list)
words_taken words file text [] = refl
words_taken words file text (lexeme ∷ list) =
    ap (λ (token : Token). (token, place_of file text lexeme.at) ∷ items_of true file text list) (sym (word_of_taken words (token_of lexeme.kind (spelling text lexeme))))
    ∙ ap (λ (items : List (Token × Place)). (as_word (taken words (token_of lexeme.kind (spelling text lexeme))), place_of file text lexeme.at) ∷ items) (words_taken words file text list)
