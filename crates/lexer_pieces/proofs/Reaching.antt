-- How far a text stays cut as it is, and where it stops.
use Rattle.std.specs.Prelude.{ℕ, ◌≡◌, ◌+◌, ◌-◌, ◌≤◌, List, [], ◌∷◌, ◌++◌, drop, take, length, refl}
use Rattle.std.proofs.Common.{ap, sym, ◌∙◌, subst, arith, append_assoc, length-append, length-drop, drop-drop, count_by, ◌⊎◌, inl, inr, zero, suc}
use Rattle.std.proofs.lemmas.List.{take_all}
use Rattle.tptp_base.specs.declared.place.Place.{Place}
use Rattle.tptp_base.specs.Place.{place_of, is_line_feed, is_no_line_feed}
use Rattle.std.specs.List.{suffix_len}
use Rattle.tptp_lexer.specs.declared.style.Style.{Style}
use Rattle.tptp_lexer.specs.declared.token.Token.{Token}
use Rattle.tptp_lexer.specs.Answer.{BeginsNothing, IsOpen, part, whole}
use Rattle.tptp_lexer.specs.Bytes.{Text}
use Rattle.tptp_lexer.specs.Tokenized.{Cut, here, placed}
use Rattle.tptp_lexer.proofs.Cuts.{IsStuck, stuck_end, stuck_nothing, stuck_open, same_cut, cut_join}
use Rattle.lexer_pieces.specs.Pieces.{StopsAnyway}
use Rattle.lexer_pieces.specs.code.Settling.{Settles}
use Rattle.lexer_pieces.specs.Reached.{IsCut, IsReached}
use Rattle.lexer_pieces.specs.declared.settle.Settled.TheVariants.{On, Stops}

-- ---- a text that goes on

-- the part from an offset on, up to the end
pub part_all : (text : Text) (at : ℕ) → take (length text - at) (drop at text) ≡ drop at text
part_all text at = take_all (length text - at) (drop at text) (omega (arith, length-drop at text))

drop_front : (text more : Text) (at : ℕ) → at ≤ length text → drop at (text ++ more) ≡ drop at text ++ more
drop_front text more zero h = refl
drop_front [] more (suc at) h = absurd (omega arith)
drop_front (x ∷ xs) more (suc at) h = drop_front xs more at (omega arith)

take_front : (text more : Text) (at : ℕ) → at ≤ length text → take at (text ++ more) ≡ take at text
take_front text more zero h = refl
take_front [] more (suc at) h = absurd (omega arith)
take_front (x ∷ xs) more (suc at) h = ap (λ z. x ∷ z) (take_front xs more at (omega arith))

pub nothing_reached : (style : Style) → IsReached style [] 0
nothing_reached style = (omega arith, λ more file all. ([], here))

pub reached_more : (style : Style) (text piece : Text) (at : ℕ) → IsReached style text at → IsReached style (text ++ piece) at
reached_more style text piece at (fits, cut) = (omega (arith, fits, length-append text piece), λ more file all. on more file all (cut (piece ++ more) file all))
  where
    on : (more : Text) (file : ℕ) (all : Text) → (items : List (Token × Place)) × Cut style (placed file all) 0 (text ++ (piece ++ more)) items at (drop at text ++ (piece ++ more)) → (items : List (Token × Place)) × Cut style (placed file all) 0 ((text ++ piece) ++ more) items at (drop at (text ++ piece) ++ more)
    on more file all (items, is) =
        let rest : drop at text ++ (piece ++ more) ≡ drop at (text ++ piece) ++ more = sym (append_assoc (drop at text) piece more) ∙ ap (λ z. z ++ more) (sym (drop_front text piece at fits)) in (
          items,
          subst (λ r. Cut style (placed file all) 0 ((text ++ piece) ++ more) items at r) rest
              (subst (λ z. Cut style (placed file all) 0 z items at (drop at text ++ (piece ++ more))) (sym (append_assoc text piece more)) is),
        )

module _ (style : Style) (text : Text) (at : ℕ) (is : IsReached style text at) where
  pub reached_next : (len : ℕ) → Settles style (drop at text) (On len) → IsReached style text (at + len)
  reached_next len (some, fits, goes) =
      let long : at + len ≤ length text = (let below = is.0 in omega (arith, below, fits, length-drop at text)) in
      (long, λ more file all. on more file all (is.1 more file all) (goes at more file all))
    where
      on : (more : Text) (file : ℕ) (all : Text) → (items : List (Token × Place)) × Cut style (placed file all) 0 (text ++ more) items at (drop at text ++ more)
          → (items : List (Token × Place)) × Cut style (placed file all) at (drop at text ++ more) items (at + len) (drop len (drop at text) ++ more)
          → (items : List (Token × Place)) × Cut style (placed file all) 0 (text ++ more) items (at + len) (drop (at + len) text ++ more)
      on more file all (front, first) (behind, second) =
          let rest : drop len (drop at text) ≡ drop (at + len) text = drop-drop len at text ∙ ap (λ n. drop n text) (omega arith) in
          (front ++ behind, subst (λ r. Cut style (placed file all) 0 (text ++ more) (front ++ behind) (at + len) (r ++ more)) rest (cut_join style (placed file all) first second))

  place_same : (file : ℕ) (more : Text) → place_of file text at ≡ place_of file (text ++ more) at
  place_same file more = ap by (sym (take_front text more at is.0))
    where
      by : Text → Place
      by z = record { file = file; offset = at; line = count_by is_line_feed z + 1; column = suffix_len is_no_line_feed z + 1 }

  pub stops_anyway : Settles style (drop at text) Stops → (file : ℕ) → StopsAnyway file style text (place_of file text at)
  stops_anyway begins file more =
      let (items, cut) = is.1 more file (text ++ more) in
      let all : text ++ more ≡ part (text ++ more) (whole (text ++ more)) = sym (take_all (length (text ++ more) - 0) (text ++ more) (omega arith)) in
      (items, drop at text ++ more, (at, subst (λ z. Cut style (placed file (text ++ more)) 0 z items at (drop at text ++ more)) all cut, place_same file more), begins more)

  -- where it may end, it does not stop anyway
  abbrev MayEnd : Type 0
  MayEnd = (more : Text) × ((from : ℕ) → (end : ℕ) × (last : Text) × IsCut style (drop at text ++ more) from end last × ((last ≡ []) ⊎ IsOpen last))

  ends_or_stops : (last rest : Text) → last ≡ rest → (last ≡ []) ⊎ IsOpen last → BeginsNothing style rest → ⊥
  ends_or_stops last rest same (inl none) begins = begins.goes_on (sym same ∙ none)
  ends_or_stops last rest same (inr o) begins = begins.no_open (subst IsOpen same o)

  stuck_last : (last : Text) → (last ≡ []) ⊎ IsOpen last → IsStuck style last
  stuck_last last (inl none) = subst (IsStuck style) (sym none) (stuck_end style)
  stuck_last last (inr o) = stuck_open style last o

  pub goes_on : MayEnd → (file : ℕ) (place : Place) → StopsAnyway file style text place → ⊥
  goes_on (more, ends) file place stops =
      let (items, rest, (to, led, placed_there), begins) = stops more in
      let (end, last, cut, is_end) = ends at in
      let (front, first) = is.1 more file (text ++ more) in
      let (behind, second) = cut file (text ++ more) in
      let joined = cut_join style (placed file (text ++ more)) first second in
      let all : text ++ more ≡ part (text ++ more) (whole (text ++ more)) = sym (take_all (length (text ++ more) - 0) (text ++ more) (omega arith)) in
      let same = same_cut style (placed file (text ++ more)) joined led all (stuck_last last is_end) (stuck_nothing style rest begins) in
      ends_or_stops last rest same.2 is_end begins

-- at the end of the text it may stop
pub ends_there : (style : Style) (text : Text) (at : ℕ) → IsReached style text at → length text ≤ at → (file : ℕ) (place : Place) → StopsAnyway file style text place → ⊥
ends_there style text at is last = goes_on style text at is ([], λ from. (from, drop at text ++ [], λ file all. ([], here), inl none))
  where
    empty : (z : Text) → length z ≡ 0 → z ++ [] ≡ []
    empty [] h = refl
    empty (x ∷ xs) h = absurd (omega (arith, h))

    none : drop at text ++ [] ≡ []
    none = empty (drop at text) (omega (arith, length-drop at text, last))
