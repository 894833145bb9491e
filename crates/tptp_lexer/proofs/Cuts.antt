-- Cuts of a text into blanks and tokens: how they go on, that there is one, and that there is only one.
use Rattle.std.proofs.Common.{◌≡◌, ℕ, zero, suc, ◌+◌, ◌≤◌, true, List, [], ◌∷◌, ◌++◌, length, take, Option, Some, None, ◌⊎◌, inl, inr, refl, sym, ap, subst, ◌∙◌, arith, length-append}
use Rattle.std.proofs.lemmas.Bool.{and_parts}
use Rattle.std.specs.List.{list_all}
use Rattle.tptp_lexer.specs.declared.scan.Front.{Front}
use Rattle.tptp_lexer.specs.declared.scan.Front.TheVariants.{Blanks, Token as Found, Open, Nothing}
use Rattle.tptp_lexer.specs.declared.style.Style.{Style}
use Rattle.tptp_lexer.specs.declared.token.Token.{Token}
use Rattle.tptp_lexer.specs.Answer.{IsOpen, BeginsBlank, BeginsNothing}
use Rattle.tptp_lexer.specs.Bytes.{Text, is_blank}
use Rattle.tptp_lexer.specs.Lexemes.{token_of}
use Rattle.tptp_lexer.specs.Scan.{front_of}
use Rattle.tptp_lexer.specs.Spelled.{Spelled, IsLongest, BeginsToken}
use Rattle.tptp_lexer.specs.Tokenized.{Cut, here, after_blank, after_token}
use Rattle.tptp_lexer.proofs.Runs.{same_front}
use Rattle.tptp_lexer.proofs.Fronts.{Reached, reached, front-blank}
use Rattle.tptp_lexer.proofs.Sound.{SaysFront, front_says, spelled_some, opened, nothing_begins}

-- ---- what is found is the longest token

longest_by : (token : Token) (spelling : Text) (front : Front) (len : ℕ) → Reached token spelling front → (kind : _) → front ≡ Found kind len → length spelling ≤ len
longest_by token spelling (Found some n) len h kind e = (let same : n ≡ len = cc in omega (arith, h.0))
longest_by token spelling (Blanks n) len h kind e = absurd h
longest_by token spelling Open len h kind e = absurd h
longest_by token spelling Nothing len h kind e = absurd h

pub found_longest : (style : Style) (text : Text) (kind : _) (len : ℕ) → front_of style text ≡ Found kind len → IsLongest style len text
found_longest style text kind len e = λ other spelling rest spelled same. longest_by other spelling (front_of style (spelling ++ rest)) len (reached spelled rest) kind (ap (front_of style) (sym same) ∙ e)

-- ---- at one place stands one token

-- what the front makes of a spelling
abbrev made : Front → Text → Option Token
made (Found kind len) spelling = Some (token_of kind spelling)
made _ spelling = None

made_by : (style : Style) (text : Text) (token : Token) (spelling : Text) (front : Front) → Reached token spelling front → SaysFront style text front → IsLongest style (length spelling) text → Some token ≡ made front spelling
made_by style text token spelling (Found kind len) (most, is) (found, rest, spelled, same, long) longest =
    let le : length found ≤ length spelling = longest (token_of kind found) found rest spelled same in
    ap Some (sym (is (omega arith)))
made_by style text token spelling (Blanks len) h says longest = absurd h
made_by style text token spelling Open h says longest = absurd h
made_by style text token spelling Nothing h says longest = absurd h

-- a token that begins at a place, by the first byte
made_is : (style : Style) (token : Token) (spelling rest text : Text) → Spelled style token spelling → text ≡ spelling ++ rest → IsLongest style (length spelling) text → Some token ≡ made (front_of style text) spelling
made_is style token spelling rest [] spelled same longest = absurd (let some = spelled_some spelled in omega (arith, length-append spelling rest, ap length same))
made_is style token spelling rest (byte ∷ text) spelled same longest =
    made_by style (byte ∷ text) token spelling (front_of style (byte ∷ text)) (subst (λ z. Reached token spelling (front_of style z)) (sym same) (reached spelled rest)) (front_says style byte text) longest

pub same_token : (style : Style) (token other : Token) (spelling spelled_so rest after text : Text) → Spelled style token spelling → Spelled style other spelled_so → text ≡ spelling ++ rest → text ≡ spelled_so ++ after
    → IsLongest style (length spelling) text → IsLongest style (length spelled_so) text → (spelling ≡ spelled_so) × (rest ≡ after) × (token ≡ other)
same_token style token other s u rest after text h k e f longest also =
    let low = longest other u after k f in
    let high = also token s rest h e in
    let front = same_front s u rest after (sym e ∙ f) (omega arith) in
    let mine = made_is style token s rest text h e longest in
    let yours = made_is style other u after text k f also in
    let both : Some token ≡ Some other = mine ∙ ap (made (front_of style text)) front.0 ∙ sym yours in
    (front.0, front.1, (cc))

-- ---- where no blank and no token begins

abbrev pub IsStuck : Style → Text → Type 0
IsStuck style text = (BeginsBlank text → ⊥) × (BeginsToken style text → ⊥)

pub stuck_end : (style : Style) → IsStuck style []
stuck_end style = (
  λ (byte, rest, h, same). (cc),
  λ (token, spelling, rest, spelled, same). (let some = spelled_some spelled in absurd (omega (arith, length-append spelling rest, ap length same))),
)

pub stuck_nothing : (style : Style) (text : Text) → BeginsNothing style text → IsStuck style text
stuck_nothing style text h = (h.no_blank, h.no_token)

not_open : (token : Token) (spelling : Text) (front : Front) → Reached token spelling front → front ≡ Open → ⊥
not_open token spelling (Found kind len) h e = cc
not_open token spelling (Blanks len) h e = h
not_open token spelling Open h e = h
not_open token spelling Nothing h e = h

not_blanks : (token : Token) (spelling : Text) (front : Front) (len : ℕ) → Reached token spelling front → front ≡ Blanks len → ⊥
not_blanks token spelling (Found kind n) len h e = cc
not_blanks token spelling (Blanks n) len h e = h
not_blanks token spelling Open len h e = h
not_blanks token spelling Nothing len h e = h

pub stuck_open : (style : Style) (text : Text) → IsOpen text → IsStuck style text
stuck_open style text o = (
  λ (byte, rest, h, same). (let found = front-blank style byte rest h in let all = ap (front_of style) same in let is = opened style text o in cc),
  λ (token, spelling, rest, spelled, same). not_open token spelling (front_of style (spelling ++ rest)) (reached spelled rest) (ap (front_of style) (sym same) ∙ opened style text o),
)

-- a token begins with no blank
no_blank_token : (style : Style) (byte : ℕ) (rest after spelling : Text) (token : Token) → is_blank byte ≡ true → Spelled style token spelling → byte ∷ rest ≡ spelling ++ after → ⊥
no_blank_token style byte rest after spelling token h spelled same =
    not_blanks token spelling (front_of style (spelling ++ after)) _ (reached spelled after) (ap (front_of style) (sym same) ∙ front-blank style byte rest h)

-- ---- one cut

module _ {T : Type 0} (style : Style) (item : Token → ℕ → T) where
  -- where two cuts of a text lead
  abbrev pub SameCut : List T → List T → ℕ → ℕ → Text → Text → Type 0
  SameCut xs ys end last rest after = (xs ≡ ys) × (end ≡ last) × (rest ≡ after)

  pub same_cut : {at end last : ℕ} {text other rest after : Text} {xs ys : List T} → Cut style item at text xs end rest → Cut style item at other ys last after → text ≡ other → IsStuck style rest → IsStuck style after → SameCut xs ys end last rest after
  same_cut here here e stuck also = (refl, refl, e)
  same_cut here (after_blank {byte = byte} {text = text} h more) e stuck also = absurd (stuck.0 (byte, text, h, e))
  same_cut here (after_token spelling {text = text} {token = token} spelled longest more) e stuck also = absurd (stuck.1 (token, spelling, text, spelled, e))
  same_cut (after_blank {byte = byte} {text = text} h more) here e stuck also = absurd (also.0 (byte, text, h, sym e))
  same_cut (after_blank {byte = byte} {text = text} h more) (after_blank {byte = other} {text = others} k rest) e stuck also =
      let tails : text ≡ others = cc in same_cut more rest tails stuck also
  same_cut (after_blank {byte = byte} {text = text} h more) (after_token spelling {text = others} {token = token} spelled longest rest) e stuck also = absurd (no_blank_token style byte text others spelling token h spelled e)
  same_cut (after_token spelling {text = text} {token = token} spelled longest more) here e stuck also = absurd (also.1 (token, spelling, text, spelled, sym e))
  same_cut (after_token spelling {text = text} {token = token} spelled longest more) (after_blank {byte = byte} {text = others} k rest) e stuck also = absurd (no_blank_token style byte others text spelling token k spelled (sym e))
  same_cut {at = at} (after_token {end = end} spelling {text = text} {rest = later} {token = token} {items = items} spelled longest more) (after_token other {text = others} {token = token'} {items = items'} k also_longest rest) e stuck also =
      let (same, tails, tokens) = same_token style token token' spelling other text others (spelling ++ text) spelled k refl e longest (subst (IsLongest style (length other)) (sym e) also_longest) in
      let (lists, ends, rests) = same_cut (subst (λ n. Cut style item n text items end later) (ap (λ s. at + length s) same) more) rest tails stuck also in
      ((let heads : item token at ≡ item token' at = ap (λ x. item x at) tokens in cc), ends, rests)

  -- ---- cuts go on

  pub cut_join : {at mid end : ℕ} {text later rest : Text} {xs ys : List T} → Cut style item at text xs mid later → Cut style item mid later ys end rest → Cut style item at text (xs ++ ys) end rest
  cut_join here next = next
  cut_join (after_blank h more) next = after_blank h (cut_join more next)
  cut_join (after_token spelling spelled longest more) next = after_token spelling spelled longest (cut_join more next)

  pub blanks_cut : (at : ℕ) (blanks rest : Text) → list_all is_blank blanks ≡ true → Cut style item at (blanks ++ rest) [] (at + length blanks) rest
  blanks_cut at [] rest h = subst (λ n. Cut style item at rest [] n rest) (omega arith) here
  blanks_cut at (byte ∷ blanks) rest h =
      let parts = and_parts (is_blank byte) (list_all is_blank blanks) h in
      let more = blanks_cut (at + 1) blanks rest parts.1 in
      after_blank parts.0 (subst (λ n. Cut style item (at + 1) (blanks ++ rest) [] n rest) (omega arith) more)

  -- ---- every text has one

  -- how a cut ends
  abbrev pub IsEnd : Text → Type 0
  IsEnd rest = (rest ≡ []) ⊎ (BeginsNothing style rest ⊎ IsOpen rest)

  abbrev pub IsCut : ℕ → Text → Type 0
  IsCut at text = (items : List T) × (end : ℕ) × (rest : Text) × Cut style item at text items end rest × IsEnd rest

  cut_by : (fuel at byte : ℕ) (text : Text) → length (byte ∷ text) ≤ suc fuel → ((k : ℕ) (later : Text) → length later ≤ fuel → IsCut k later) → (front : Front) → front_of style (byte ∷ text) ≡ front → SaysFront style (byte ∷ text) front → IsCut at (byte ∷ text)
  cut_by fuel at byte text short again (Found kind len) e (spelling, rest, spelled, same, long) =
      let some = spelled_some spelled in
      let (items, end, last, cut, ends) = again (at + length spelling) rest (omega (arith, length-append spelling rest, ap length same)) in
      let longest : IsLongest style (length spelling) (byte ∷ text) = subst (λ n. IsLongest style n (byte ∷ text)) (sym long) (found_longest style (byte ∷ text) kind len e) in
      let all : Cut style item at (spelling ++ rest) (item (token_of kind spelling) at ∷ items) end last = after_token spelling spelled (subst (IsLongest style (length spelling)) same longest) cut in
      (item (token_of kind spelling) at ∷ items, end, last, subst (λ z. Cut style item at z (item (token_of kind spelling) at ∷ items) end last) (sym same) all, ends)
  cut_by fuel at byte text short again (Blanks len) e (all, some, fits) =
      let (items, end, last, cut, ends) = again (at + 1) text (omega arith) in
      (items, end, last, after_blank (first_blank len all some) cut, ends)
    where
      first_blank : (n : ℕ) → list_all is_blank (take n (byte ∷ text)) ≡ true → 1 ≤ n → is_blank byte ≡ true
      first_blank zero h some = absurd (omega arith)
      first_blank (suc n) h some = (and_parts (is_blank byte) (list_all is_blank (take n text)) h).0
  cut_by fuel at byte text short again Open e says = ([], at, byte ∷ text, here, inr (inr says))
  cut_by fuel at byte text short again Nothing e says = ([], at, byte ∷ text, here, inr (inl (nothing_begins style byte text e)))

  pub cut_on : (fuel at : ℕ) (text : Text) → length text ≤ fuel → IsCut at text
  cut_on fuel at [] short = ([], at, [], here, inl refl)
  cut_on zero at (byte ∷ text) short = absurd (omega arith)
  cut_on (suc fuel) at (byte ∷ text) short = cut_by fuel at byte text short (λ k later h. cut_on fuel k later h) (front_of style (byte ∷ text)) refl (front_says style byte text)
