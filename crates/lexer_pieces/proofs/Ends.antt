-- Texts that are cut to their end, or to something open.
use Rattle.std.specs.Prelude.{ℕ, ◌≡◌, ◌+◌, ◌≤◌, [], ◌∷◌, ◌++◌, drop, take, length, refl}
use Rattle.std.proofs.Common.{ap, sym, ◌∙◌, subst, arith, append_assoc, length-append, ◌⊎◌, inl, inr}
use Rattle.std.proofs.lemmas.List.{append-nil, drop_at, length-take-le, take-append-drop}
use Rattle.tptp_base.specs.declared.place.Place.{Place}
use Rattle.tptp_lexer.specs.declared.scan.Front.{Front}
use Rattle.tptp_lexer.specs.declared.scan.Front.TheVariants.{Blanks, Token as Found, Open, Nothing}
use Rattle.tptp_lexer.specs.declared.scan.Kind.{Kind}
use Rattle.tptp_lexer.specs.declared.style.Style.{Style}
use Rattle.tptp_lexer.specs.declared.token.Token.{Token}
use Rattle.tptp_lexer.specs.Answer.{IsOpen}
use Rattle.tptp_lexer.specs.Bytes.{Text}
use Rattle.tptp_lexer.specs.Lexemes.{token_of}
use Rattle.tptp_lexer.specs.Scan.{front_of}
use Rattle.tptp_lexer.specs.Spelled.{Spelled, IsLongest}
use Rattle.tptp_lexer.specs.Tokenized.{Cut, here, after_token, placed}
use Rattle.tptp_lexer.proofs.Cuts.{found_longest, cut_join, blanks_cut}
use Rattle.tptp_lexer.proofs.Fronts.{Reached, reached}
use Rattle.lexer_pieces.specs.Reached.{IsCut}
use Rattle.lexer_pieces.proofs.Parting.{parted}
use Rattle.lexer_pieces.proofs.Growing.{says_of}

-- The text is cut to its end, or to something open, wherever it stands.
abbrev pub Ends : Style → Text → Type 0
Ends style text = (at : ℕ) → (end : ℕ) × (last : Text) × IsCut style text at end last × ((last ≡ []) ⊎ IsOpen last)

-- ---- one step

module _ (style : Style) (text more : Text) (some : 1 ≤ length text) where
  pub blanks_on : (len : ℕ) → front_of style text ≡ Blanks len → (at : ℕ) → IsCut style (text ++ more) at (at + len) (drop len text ++ more)
  blanks_on len e at file all =
      let says = says_of style text (Blanks len) some e in
      let blanks = take len text in
      let later = drop len text ++ more in
      let whole : blanks ++ later ≡ text ++ more = sym (append_assoc blanks (drop len text) more) ∙ ap (λ z. z ++ more) (take-append-drop len text) in
      let cut = blanks_cut style (placed file all) at blanks later says.0 in
      ([], subst (λ n. Cut style (placed file all) at (text ++ more) [] (at + n) later) (length-take-le len text says.2) (subst (λ z. Cut style (placed file all) at z [] (at + length blanks) later) whole cut))

  pub token_on : (kind : Kind) (len : ℕ) → front_of style text ≡ Found kind len → IsLongest style len (text ++ more) → (at : ℕ) → IsCut style (text ++ more) at (at + len) (drop len text ++ more)
  token_on kind len e longest at file all =
      let (spelling, rest, spelled, same, long) = says_of style text (Found kind len) some e in
      let whole : text ++ more ≡ spelling ++ (rest ++ more) = ap (λ z. z ++ more) same ∙ append_assoc spelling rest more in
      let behind : drop len text ≡ rest = ap (drop len) same ∙ drop_at spelling rest len long in
      let most : IsLongest style (length spelling) (spelling ++ (rest ++ more)) = subst (IsLongest style (length spelling)) whole (subst (λ n. IsLongest style n (text ++ more)) (sym long) longest) in
      let item : Token × Place = placed file all (token_of kind spelling) at in
      let cut : Cut style (placed file all) at (spelling ++ (rest ++ more)) (item ∷ []) (at + length spelling) (rest ++ more) = after_token spelling spelled most here in (
        item ∷ [],
        subst (λ r. Cut style (placed file all) at (text ++ more) (item ∷ []) (at + len) (r ++ more)) (sym behind)
            (subst (λ n. Cut style (placed file all) at (text ++ more) (item ∷ []) (at + n) (rest ++ more)) long
            (subst (λ z. Cut style (placed file all) at z (item ∷ []) (at + length spelling) (rest ++ more)) (sym whole) cut)),
      )

  -- behind a token that stays the longest, what ends goes on to its end
  pub ends_by : (kind : Kind) (len : ℕ) → front_of style text ≡ Found kind len → IsLongest style len (text ++ more) → Ends style (drop len text ++ more) → Ends style (text ++ more)
  ends_by kind len e longest ends at =
      let (end, last, cut, is) = ends (at + len) in
      (end, last, joined end last cut, is)
    where
      joined : (end : ℕ) (last : Text) → IsCut style (drop len text ++ more) (at + len) end last → IsCut style (text ++ more) at end last
      joined end last cut file all =
          let (front, first) = token_on kind len e longest at file all in
          let (behind, second) = cut file all in
          (front ++ behind, cut_join style (placed file all) first second)

-- ---- texts that end

pub ends_here : (style : Style) → Ends style []
ends_here style at = (at, [], λ file all. ([], here), inl refl)

pub ends_open : (style : Style) (text : Text) → IsOpen text → Ends style text
ends_open style text o at = (at, text, λ file all. ([], here), inr o)

-- a token, and what ends behind it
pub ends_behind : (style : Style) (text : Text) (kind : Kind) (len : ℕ) → 1 ≤ length text → front_of style text ≡ Found kind len → Ends style (drop len text) → Ends style text
ends_behind style text kind len some e ends =
    let longest : IsLongest style len (text ++ []) = subst (IsLongest style len) (sym (append-nil text)) (found_longest style text kind len e) in
    subst (Ends style) (append-nil text) (ends_by style text [] some kind len e longest (subst (Ends style) (sym (append-nil (drop len text))) ends))

-- one byte more: the whole is a token then, or the front stays what it was
module _ (style : Style) (text : Text) (some : 1 ≤ length text) (kind : Kind) (len : ℕ) (found : front_of style text ≡ Found kind len) (one : ℕ) where
  abbrev pub whole : Text
  whole = text ++ one ∷ []

  whole_some : 1 ≤ length whole
  whole_some = omega (arith, some, length-append text (one ∷ []))

  -- the token at the front of the text is one at the front of the whole
  front_reached : (spelling : Text) × Reached (token_of kind spelling) spelling (front_of style whole)
  front_reached =
      let (spelling, rest, spelled, same, long) = says_of style text (Found kind len) some found in
      let is : whole ≡ spelling ++ (rest ++ one ∷ []) = ap (λ z. z ++ one ∷ []) same ∙ append_assoc spelling rest (one ∷ []) in
      (spelling, subst (λ z. Reached (token_of kind spelling) spelling (front_of style z)) (sym is) (reached spelled (rest ++ one ∷ [])))

  ends_from : (front : Front) → front_of style whole ≡ front → Reached (token_of kind front_reached.0) front_reached.0 front → Ends style (drop len text ++ one ∷ []) → Ends style whole
  ends_from (Blanks n) e h ends = absurd h
  ends_from Open e h ends = absurd h
  ends_from Nothing e h ends = absurd h
  ends_from (Found other n) e h ends =
      let (spelling, rest, spelled, same, long) = says_of style whole (Found other n) whole_some e in
      by spelling rest spelled same long
    where
      shorter : n ≤ len → Ends style whole
      shorter less = ends_by style text (one ∷ []) some kind len found (λ o s r sp eq. (let le = found_longest style whole other n e o s r sp eq in omega (arith, le, less))) ends

      by : (spelling rest : Text) → Spelled style (token_of other spelling) spelling → whole ≡ spelling ++ rest → length spelling ≡ n → Ends style whole
      by spelling [] spelled same long =
          let none : drop n whole ≡ [] = ap (drop n) same ∙ drop_at spelling [] n long in
          ends_behind style whole other n whole_some e (subst (Ends style) (sym none) (ends_here style))
      by spelling (x ∷ xs) spelled same long = elim (parted text (one ∷ []) spelling (x ∷ xs) same) [
        | inl (later, front, behind) ↦ (let none : length later ≡ 0 = omega (arith, ap length behind, length-append later (x ∷ xs)) in shorter (inside later front none))
        | inr (left, front, one', behind) ↦ (let le = found_longest style text kind len found (token_of other spelling) spelling left spelled front in shorter (omega (arith, le, long)))
      ]
        where
          inside : (later : Text) → spelling ≡ text ++ later → length later ≡ 0 → n ≤ len
          inside [] front none = let le = found_longest style text kind len found (token_of other spelling) spelling [] spelled (sym (append-nil text) ∙ sym front ∙ sym (append-nil spelling)) in omega (arith, le, long)
          inside (y ∷ ys) front none = absurd (omega (arith, none))

  pub one_more : Ends style (drop len text ++ one ∷ []) → Ends style whole
  one_more ends = ends_from (front_of style whole) refl front_reached.1 ends
