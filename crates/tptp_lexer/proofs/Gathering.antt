-- Tokens that are taken one by one, through a dot.
use Rattle.std.proofs.Common.{◌≡◌, Bool, true, false, if◌then◌else◌, List, [], ◌∷◌, ◌++◌, refl, sym, ap, subst, ◌∙◌, append-nil, append_assoc}
use Rattle.tptp_base.specs.declared.place.Place.{Place}
use Rattle.tptp_base.specs.Place.{place_of}
use Rattle.tptp_lexer.specs.declared.lexeme.Lexeme.{Lexeme}
use Rattle.tptp_lexer.specs.declared.token.Token.{Token}
use Rattle.tptp_lexer.specs.declared.scan.Kind.{Kind}
use Rattle.tptp_lexer.specs.declared.scan.Kind.TheVariants as k
use Rattle.tptp_lexer.specs.declared.token.Token.TheVariants as t
use Rattle.tptp_lexer.specs.declared.token.Token.TheVariants.{Mark as Sign}
use Rattle.tptp_lexer.specs.declared.token.Mark.TheVariants as m
use Rattle.tptp_lexer.specs.Bytes.{Text}
use Rattle.tptp_lexer.specs.Dots.{is_comment, is_dot, through_dot, behind_dot}
use Rattle.tptp_lexer.specs.Lexemes.{items_of, spelling, taken, token_of}
use Rattle.tptp_lexer.specs.code.Gathered.{Gathered, kept}
use Rattle.tptp_lexer.proofs.Following.{rest_placed}

dot_only : (token : Token) → is_dot token ≡ true → is_comment token ≡ false
dot_only (Sign m.Dot) is = refl
dot_only (Sign mark) is = refl
dot_only token is = cc

-- the token of a kind is a dot or not, however it is spelled
pub dot_by_kind : (words : Bool) (kind : Kind) (text : Text) → is_dot (token_of kind []) ≡ is_dot (taken words (token_of kind text))
dot_by_kind words k.Lower text = refl
dot_by_kind words k.Quoted text = refl
dot_by_kind words k.Upper text = refl
dot_by_kind words k.Dollar text = refl
dot_by_kind words k.System text = refl
dot_by_kind words k.Number text = refl
dot_by_kind true k.Distinct text = refl
dot_by_kind false k.Distinct text = refl
dot_by_kind words k.Comment text = refl
dot_by_kind words (k.Mark mark) text = refl

-- a distinct object joins
pub object_joins : (words : Bool) (text : Text) (before : List Token) → before ++ taken words (t.Distinct text) ∷ [] ≡ kept (taken words (t.Distinct text)) before
object_joins true text before = refl
object_joins false text before = refl

abbrev Items : Type 0
Items = List (Token × Place)

-- the last token joins
last_joins : (token : Token) (place : Place) (rest : Items) (before : List Token) → is_dot token ≡ true → kept token before ≡ before ++ through_dot ((token, place) ∷ rest)
last_joins token place rest before is =
    let none = dot_only token is in
    ap (λ b. if b then before else before ++ token ∷ []) none
    ∙ sym (ap (λ b. before ++ (if b then through_dot rest else (if is_dot token then token ∷ [] else token ∷ through_dot rest))) none ∙ ap (λ b. before ++ (if b then token ∷ [] else token ∷ through_dot rest)) is)

-- another token joins before those behind it
joins_by : (comment : Bool) (token : Token) (place : Place) (rest : Items) (before : List Token) → is_comment token ≡ comment → is_dot token ≡ false
    → kept token before ++ through_dot rest ≡ before ++ through_dot ((token, place) ∷ rest)
joins_by true token place rest before e is =
    ap (λ b. (if b then before else before ++ token ∷ []) ++ through_dot rest) e
    ∙ sym (ap (λ b. before ++ (if b then through_dot rest else (if is_dot token then token ∷ [] else token ∷ through_dot rest))) e)
joins_by false token place rest before e is =
    ap (λ b. (if b then before else before ++ token ∷ []) ++ through_dot rest) e ∙ append_assoc before (token ∷ []) (through_dot rest)
    ∙ sym (ap (λ b. before ++ (if b then through_dot rest else (if is_dot token then token ∷ [] else token ∷ through_dot rest))) e ∙ ap (λ b. before ++ (if b then token ∷ [] else token ∷ through_dot rest)) is)

module _ (words : Bool) (text : Text) where
  none_gathered : (tokens : List Token) → Gathered words text [] [] tokens tokens
  none_gathered tokens = record { taken = λ file. sym (append-nil tokens); others = λ file. refl; placed = λ start h. h }

  -- where nothing is found
  pub end_gathered : (list : List Lexeme) (tokens : List Token) → list ≡ [] → Gathered words text list list tokens tokens
  end_gathered list tokens none = subst (λ l. Gathered words text l l tokens tokens) (sym none) (none_gathered tokens)

  pub gathered_as : (list other left : List Lexeme) (before after : List Token) → list ≡ other → Gathered words text other left before after → Gathered words text list left before after
  gathered_as list other left before after same g = subst (λ l. Gathered words text l left before after) (sym same) g

  module _ (lexeme : Lexeme) (list : List Lexeme) (token : Token) (is : token ≡ taken words (token_of lexeme.kind (spelling text lexeme))) (before : List Token) where
    -- a dot
    pub last_gathered : (after : List Token) → is_dot token ≡ true → after ≡ kept token before → Gathered words text (lexeme ∷ list) list before after
    last_gathered after dot e =
        let this = sym is in
        let yes = ap is_dot this ∙ dot in
        let of = taken words (token_of lexeme.kind (spelling text lexeme)) in
        record {
          taken = λ file. e ∙ ap (λ t. kept t before) is ∙ last_joins of (place_of file text lexeme.at) (items_of words file text list) before yes;
          others = λ file. ap (λ b. if b then items_of words file text list else behind_dot (items_of words file text list)) yes;
          placed = λ start h. rest_placed text start lexeme list h list refl;
        }

    -- another token, before those behind it
    pub more_gathered : (left : List Lexeme) (mid after : List Token) → is_dot token ≡ false → mid ≡ kept token before → Gathered words text list left mid after → Gathered words text (lexeme ∷ list) left before after
    more_gathered left mid after dot e g =
        let no = ap is_dot (sym is) ∙ dot in
        let of = taken words (token_of lexeme.kind (spelling text lexeme)) in
        record {
          taken = λ file. g.taken file ∙ ap (λ l. l ++ through_dot (items_of words file text list)) (e ∙ ap (λ t. kept t before) is) ∙ joins_by (is_comment of) of (place_of file text lexeme.at) (items_of words file text list) before refl no;
          others = λ file. ap (λ b. if b then items_of words file text list else behind_dot (items_of words file text list)) no ∙ g.others file;
          placed = λ start h. g.placed start (rest_placed text start lexeme list h list refl);
        }
