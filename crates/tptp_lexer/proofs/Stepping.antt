-- What one step of the lexer adds, and how far the steps have come.
use Rattle.std.proofs.Common.{◌≡◌, ℕ, ◌+◌, ◌-◌, ◌<◌, ◌≤◌, List, [], ◌∷◌, ◌++◌, length, take, drop, slice_range, false, zero, suc, refl, sym, ap, subst, ◌∙◌, arith, Result, append-nil, append_assoc, length-take, length-drop, length-append, take-append-drop, Ok, Err}
use Rattle.std.proofs.lemmas.List.{drop-take, drop-drop, drop_at, take_at, length-take-le, take-take}
use Rattle.std.specs.Result.{IsErrAnd}
use Rattle.tptp_base.specs.declared.place.Place.{Place}
use Rattle.tptp_base.specs.declared.place.Region.{Region}
use Rattle.tptp_base.specs.declared.read.TheConstants.{FILE_SIZE}
use Rattle.tptp_base.specs.Place.{place_of}
use Rattle.tptp_lexer.specs.declared.fault.LexFault.{LexFault}
use Rattle.tptp_lexer.specs.declared.fault.LexFault.TheVariants.{Byte, Unfinished, Limit, Memory}
use Rattle.tptp_lexer.specs.declared.lexeme.Lexeme.{Lexeme}
use Rattle.tptp_lexer.specs.declared.scan.Front.{Front}
use Rattle.tptp_lexer.specs.declared.scan.Front.TheVariants.{Blanks, Token as Found, Open, Nothing}
use Rattle.tptp_lexer.specs.declared.scan.Kind.{Kind}
use Rattle.tptp_lexer.specs.declared.style.Style.{Style}
use Rattle.tptp_lexer.specs.declared.token.Token.{Token}
use Rattle.tptp_lexer.specs.declared.token.Tokens.{Tokens}
use Rattle.tptp_lexer.specs.Answer.{IsOpen, BeginsNothing, part, Answers}
use Rattle.tptp_lexer.specs.Bytes.{Text}
use Rattle.tptp_lexer.specs.Lexemes.{Follow, items_of, spelling, IsPlaced, token_of, go_by, found_in, lexemes}
use Rattle.tptp_lexer.specs.Scan.{front_of}
use Rattle.tptp_lexer.specs.Spelled.{IsLongest}
use Rattle.tptp_lexer.specs.code.Step.{found, Takes, Stepped}
use Rattle.tptp_lexer.specs.Tokenized.{Cut, here, after_token, placed}
use Rattle.tptp_lexer.proofs.Sound.{SaysFront, front_says, spelled_some, nothing_begins}
use Rattle.tptp_lexer.proofs.Cuts.{found_longest, blanks_cut, cut_join}
use Rattle.tptp_lexer.proofs.Following.{follow_join, follow_on, found_join, found_taken, placed_on}

-- ---- what is found in a text that goes on

says_of : (style : Style) (text : Text) → 0 < length text → SaysFront style text (front_of style text)
says_of style [] some = absurd (omega arith)
says_of style (byte ∷ text) some = front_says style byte text

says_at : (style : Style) (text : Text) (front : Front) → 0 < length text → front_of style text ≡ front → SaysFront style text front
says_at style text front some e = subst (SaysFront style text) e (says_of style text some)

pub blanks_fit : (style : Style) (text : Text) (len : ℕ) → 0 < length text → front_of style text ≡ Blanks len → (1 ≤ len) × (len ≤ length text)
blanks_fit style text len some e = let says = says_at style text (Blanks len) some e in (says.1, says.2)

pub found_fits : (style : Style) (text : Text) (kind : Kind) (len : ℕ) → 0 < length text → front_of style text ≡ Found kind len → (1 ≤ len) × (len ≤ length text)
found_fits style text kind len some e =
    let (spelling, rest, spelled, same, long) = says_at style text (Found kind len) some e in
    (let least = spelled_some spelled in omega arith, omega (arith, length-append spelling rest, ap length same))

pub open_found : (style : Style) (text : Text) → 0 < length text → front_of style text ≡ Open → IsOpen text
open_found style text some e = says_at style text Open some e

pub nothing_found : (style : Style) (text : Text) → 0 < length text → front_of style text ≡ Nothing → BeginsNothing style text
nothing_found style [] some e = absurd (omega arith)
nothing_found style (byte ∷ text) some e = nothing_begins style byte text e

-- ---- parts of a text

pub range_length : (text : Text) (from to : ℕ) → to ≤ length text → length (slice_range text from to) ≡ to - from
range_length text from to h = omega (arith, length-take (to - from) (drop from text), length-drop from text)

range_later : (text : Text) (from to len : ℕ) → from + len ≤ to → drop len (slice_range text from to) ≡ slice_range text (from + len) to
range_later text from to len h =
    let count : to - from ≡ len + (to - (from + len)) = omega arith in
    ap (λ n. drop len (take n (drop from text))) count ∙ drop-take len (to - (from + len)) (drop from text) ∙ ap (take (to - (from + len))) (drop-drop len from text)

spelling_is : (text : Text) (at len end : ℕ) → at + len ≤ end → slice_range text at (at + len) ≡ take len (slice_range text at end)
spelling_is text at len end h =
    let count : at + len - at ≡ len = omega arith in
    ap (λ n. take n (drop at text)) count ∙ sym (take-take len (end - at) (drop at text) (omega arith))

-- ---- what is found further on

go_same : (style : Style) (text : Text) (at : ℕ) (again other : ℕ → List Lexeme) → 0 < length text → ((len : ℕ) → 1 ≤ len → again len ≡ other len) → (front : Front) → front_of style text ≡ front → go_by at front again ≡ go_by at front other
go_same style text at again other some same (Blanks len) e = same len (blanks_fit style text len some e).0
go_same style text at again other some same (Found kind len) e = ap (λ (l : List Lexeme). record { kind = kind; len = len; at = at } ∷ l) (same len (found_fits style text kind len some e).0)
go_same style text at again other some same Open e = refl
go_same style text at again other some same Nothing e = refl

-- more steps find no more
enough : (style : Style) (n m at : ℕ) (text : Text) → length text ≤ n → length text ≤ m → found_in style n at text ≡ found_in style m at text
enough style zero zero at text h k = refl
enough style zero (suc m) at [] h k = refl
enough style zero (suc m) at (byte ∷ text) h k = absurd (omega (arith, h))
enough style (suc n) zero at [] h k = refl
enough style (suc n) zero at (byte ∷ text) h k = absurd (omega (arith, k))
enough style (suc n) (suc m) at [] h k = refl
enough style (suc n) (suc m) at (byte ∷ text) h k =
    go_same style (byte ∷ text) at (λ len. found_in style n (at + len) (drop len (byte ∷ text))) (λ len. found_in style m (at + len) (drop len (byte ∷ text))) (omega arith)
    (λ len some. enough style n m (at + len) (drop len (byte ∷ text)) (omega (arith, h, length-drop len (byte ∷ text))) (omega (arith, k, length-drop len (byte ∷ text)))) (front_of style (byte ∷ text)) refl

found_next : (style : Style) (at : ℕ) (text : Text) → 0 < length text
    → found_in style (length text) at text ≡ go_by at (front_of style text) (λ len. found_in style (length (drop len text)) (at + len) (drop len text))
found_next style at [] some = absurd (omega arith)
found_next style at (byte ∷ text) some =
    go_same style (byte ∷ text) at (λ len. found_in style (length text) (at + len) (drop len (byte ∷ text))) (λ len. found_in style (length (drop len (byte ∷ text))) (at + len) (drop len (byte ∷ text))) (omega arith)
    (λ len one. enough style (length text) (length (drop len (byte ∷ text))) (at + len) (drop len (byte ∷ text)) (omega (arith, length-drop len (byte ∷ text))) (omega arith)) (front_of style (byte ∷ text)) refl

pub none_left : (style : Style) (text : Text) (end at : ℕ) → end ≤ at → lexemes style text end at ≡ []
unfolding lexemes
none_left style text end at last = let none : end - at ≡ 0 = omega arith in ap (λ n. found_in style (length (take n (drop at text))) at (take n (drop at text))) none

module _ (style : Style) (file : ℕ) (text : Text) (end at : ℕ) (before : at < end) (within : end ≤ length text) where
  rest_some : 0 < length (slice_range text at end)
  rest_some = omega (arith, range_length text at end within)

  pub opens : front_of style (slice_range text at end) ≡ Open → IsOpen (slice_range text at end)
  opens e = open_found style (slice_range text at end) rest_some e

  pub begins_none : front_of style (slice_range text at end) ≡ Nothing → BeginsNothing style (slice_range text at end)
  begins_none e = nothing_found style (slice_range text at end) rest_some e

  pub blanks_within : (len : ℕ) → front_of style (slice_range text at end) ≡ Blanks len → at + len ≤ end
  blanks_within len e = let fits = blanks_fit style (slice_range text at end) len rest_some e in omega (arith, range_length text at end within)

  pub token_within : (kind : Kind) (len : ℕ) → front_of style (slice_range text at end) ≡ Found kind len → at + len ≤ end
  token_within kind len e = let fits = found_fits style (slice_range text at end) kind len rest_some e in omega (arith, range_length text at end within)

  -- what is found at the offset, and further on
  scanned_by : (front : Front) → front_of style (slice_range text at end) ≡ front
      → lexemes style text end at ≡ go_by at front (λ len. found_in style (length (drop len (slice_range text at end))) (at + len) (drop len (slice_range text at end)))
  unfolding lexemes
  scanned_by front e = found_next style at (slice_range text at end) rest_some ∙ ap (λ f. go_by at f (λ len. found_in style (length (drop len (slice_range text at end))) (at + len) (drop len (slice_range text at end)))) e

  later_is : (len : ℕ) → at + len ≤ end → found_in style (length (drop len (slice_range text at end))) (at + len) (drop len (slice_range text at end)) ≡ lexemes style text end (at + len)
  unfolding lexemes
  later_is len h = ap (λ z. found_in style (length z) (at + len) z) (range_later text at end len h)

  pub blanks_scanned : (len : ℕ) → front_of style (slice_range text at end) ≡ Blanks len → lexemes style text end at ≡ lexemes style text end (at + len)
  blanks_scanned len e = scanned_by (Blanks len) e ∙ later_is len (blanks_within len e)

  pub token_scanned : (kind : Kind) (len : ℕ) → front_of style (slice_range text at end) ≡ Found kind len → lexemes style text end at ≡ record { kind = kind; len = len; at = at } ∷ lexemes style text end (at + len)
  token_scanned kind len e = scanned_by (Found kind len) e ∙ ap (λ (l : List Lexeme). record { kind = kind; len = len; at = at } ∷ l) (later_is len (token_within kind len e))

  pub open_scanned : front_of style (slice_range text at end) ≡ Open → lexemes style text end at ≡ []
  open_scanned e = scanned_by Open e

  pub nothing_scanned : front_of style (slice_range text at end) ≡ Nothing → lexemes style text end at ≡ []
  nothing_scanned e = scanned_by Nothing e

  -- what was passed over leads to the later offset
  leads_by : (len : ℕ) (more : List Lexeme) → 1 ≤ len → len ≤ length (slice_range text at end) → lexemes style text end at ≡ more ++ lexemes style text end (at + len) → Follow at more (at + len)
      → Cut style (placed file text) at (slice_range text at end) (found file text more) (at + len) (drop len (slice_range text at end)) → Takes style file text end at (at + len)
  leads_by len more some fits scanned follow cut =
      let long = range_length text at end within in
      record {
        more = more;
        scanned = scanned;
        cut = subst (Cut style (placed file text) at (slice_range text at end) (found file text more) (at + len)) (range_later text at end len (omega arith)) cut;
        follow = follow;
        moves = omega arith;
        within = omega arith;
      }

  pub blanks_taken : (len : ℕ) → front_of style (slice_range text at end) ≡ Blanks len → Takes style file text end at (at + len)
  blanks_taken len e =
      let says = says_at style (slice_range text at end) (Blanks len) rest_some e in
      let blanks = take len (slice_range text at end) in
      let later = drop len (slice_range text at end) in
      let cut = blanks_cut style (placed file text) at blanks later says.0 in
      let long : length blanks ≡ len = length-take-le len (slice_range text at end) says.2 in
      leads_by len [] says.1 says.2 (blanks_scanned len e) (omega arith)
      (subst (λ n. Cut style (placed file text) at (slice_range text at end) [] (at + n) later) long
      (subst (λ z. Cut style (placed file text) at z [] (at + length blanks) later) (take-append-drop len (slice_range text at end)) cut))

  pub token_taken : (kind : Kind) (len : ℕ) → front_of style (slice_range text at end) ≡ Found kind len → Takes style file text end at (at + len)
  token_taken kind len e =
      let z = slice_range text at end in
      let (spelled_so, later, spelled, same, long) = says_at style z (Found kind len) rest_some e in
      let fits = found_fits style z kind len rest_some e in
      let front : take len z ≡ spelled_so = ap (take len) same ∙ take_at spelled_so later len long in
      let behind : drop len z ≡ later = ap (drop len) same ∙ drop_at spelled_so later len long in
      let longest : IsLongest style (length spelled_so) z = subst (λ n. IsLongest style n z) (sym long) (found_longest style z kind len e) in
      let item : Token × Place = (token_of kind spelled_so, place_of file text at) in
      let cut : Cut style (placed file text) at (spelled_so ++ later) (item ∷ []) (at + length spelled_so) later = after_token spelled_so spelled (subst (IsLongest style (length spelled_so)) same longest) here in
      let lexeme : Lexeme = record { kind = kind; len = len; at = at } in
      let is : slice_range text at (at + len) ≡ spelled_so = spelling_is text at len end (token_within kind len e) ∙ front in
      let taken_is : found file text (lexeme ∷ []) ≡ item ∷ [] = found_taken file text lexeme ∙ ap (λ (s : Text). (token_of kind s, place_of file text at) ∷ []) is in
      leads_by len (lexeme ∷ []) fits.0 fits.1 (token_scanned kind len e) (omega arith, omega arith)
      (subst (λ (x : List (Token × Place)). Cut style (placed file text) at z x (at + len) (drop len z)) (sym taken_is)
      (subst (λ r. Cut style (placed file text) at z (item ∷ []) (at + len) r) (sym behind)
      (subst (λ n. Cut style (placed file text) at z (item ∷ []) (at + n) later) long
      (subst (λ s. Cut style (placed file text) at s (item ∷ []) (at + length spelled_so) later) (sym same) cut))))

-- ---- how far the steps have come

pub record HasReached (file : ℕ) (text : Text) (region : Region) (style : Style) (at : ℕ) : Type 0 where
  pub list : List Lexeme
  pub behind : region.start ≤ at
  pub within : at ≤ region.end
  pub scanned : lexemes style text region.end region.start ≡ list ++ lexemes style text region.end at
  pub follow : Follow region.start list at
  pub cut : Cut style (placed file text) region.start (part text region) (found file text list) at (slice_range text at region.end)

module _ (file : ℕ) (text : Text) (region : Region) (style : Style) where
  pub start : region.start ≤ region.end → HasReached file text region style region.start
  start ordered = record { list = []; behind = omega arith; within = ordered; scanned = refl; follow = omega arith; cut = here }

  pub go : (at next : ℕ) → HasReached file text region style at → Takes style file text region.end at next → HasReached file text region style next
  go at next h t =
      let joined = cut_join style (placed file text) h.cut t.cut in
      let same : found file text h.list ++ found file text t.more ≡ found file text (h.list ++ t.more) = sym (found_join file text h.list t.more) in
      record {
        list = h.list ++ t.more;
        behind = (let a = h.behind in let b = t.moves in omega arith);
        within = t.within;
        scanned = h.scanned ∙ ap (λ l. h.list ++ l) t.scanned ∙ sym (append_assoc h.list t.more (lexemes style text region.end next));
        follow = follow_join region.start at next h.list t.more h.follow t.follow;
        cut = subst (λ (x : List (Token × Place)). Cut style (placed file text) region.start (part text region) x next (slice_range text next region.end)) same joined;
      }

  module _ (at : ℕ) (h : HasReached file text region style at) where
    pub fault : region.end - region.start ≤ FILE_SIZE → (reason : LexFault) → Stepped style file text region.end at (Err reason) → Answers file text region style (Err reason)
    fault fits Memory s = tt
    fault fits (Limit limit) s = absurd s
    fault fits (Byte place) (same, begins) = (fits, found file text h.list, slice_range text at region.end, (at, h.cut, same), begins)
    fault fits (Unfinished place) (same, opens) = (fits, found file text h.list, slice_range text at region.end, (at, h.cut, same), opens)

    -- a fault that is handed on is the answer
    pub failed : region.end - region.start ≤ FILE_SIZE → (result : Result Tokens LexFault) (reason : LexFault) → IsErrAnd result (λ e. e ≡ reason) → Stepped style file text region.end at (Err reason) → Answers file text region style result
    failed fits (Ok tokens) reason is s = absurd is
    failed fits (Err e) reason is s = subst (λ (r : LexFault). Answers file text region style (Err r)) (sym is) (fault fits reason s)

    -- where the steps have come to the end
    module _ (last : region.end ≤ at) (first : Place) (is : first ≡ place_of file text region.start) where
      offset_is : first.offset ≡ region.start
      offset_is = ap (λ (p : Place). p.offset) is

      -- all is found
      all_found : lexemes style text region.end first.offset ≡ h.list
      all_found = ap (lexemes style text region.end) offset_is ∙ h.scanned ∙ ap (λ l. h.list ++ l) (none_left style text region.end at last) ∙ append-nil h.list

      -- the tokens are placed behind the region's place
      pub placed_list : region.end ≤ length text → IsPlaced text first (lexemes style text region.end first.offset)
      placed_list ended =
          let w = h.within in
          subst (IsPlaced text first) (sym all_found) (placed_on file text first region.start h.list is (follow_on region.start at (length text) h.list (omega arith) h.follow))

      -- the tokens and the end, made from the region's place, are the answer
      pub answered : region.end - region.start ≤ FILE_SIZE → (items : List (Token × Place)) → items ≡ items_of false first.file text (lexemes style text region.end first.offset) → (end : Place) → end ≡ place_of first.file text at
          → Answers file text region style (Ok (record { items = items; end = end; style = style }))
      answered fits items e end f =
          let same : first.file ≡ file = ap (λ (p : Place). p.file) is in
          let none : region.end - at ≡ 0 = omega arith in
          let empty : slice_range text at region.end ≡ [] = ap (λ n. take n (drop at text)) none in
          let cut = subst (λ r. Cut style (placed file text) region.start (part text region) (found file text h.list) at r) empty h.cut in
          let all : items ≡ found file text h.list = e ∙ ap (λ n. items_of false n text (lexemes style text region.end first.offset)) same ∙ ap (items_of false file text) all_found in
          (fits, refl, (at, subst (λ (x : List (Token × Place)). Cut style (placed file text) region.start (part text region) x at []) (sym all) cut, f ∙ ap (λ n. place_of n text at) same))
