-- The canonical texts of items that are spelled, one behind the other in a longer text, are cut into tokens that spell
-- them.
use Rattle.std.proofs.Common.{◌≡◌, ◌⊎◌, inl, inr, ℕ, suc, ◌+◌, true, false, List, [], ◌∷◌, ◌++◌, length, map, codes, refl, sym, ◌∙◌, subst, ap, arith, length-append}
use Rattle.std.specs.List.{AllByRecursion}
use Rattle.std.proofs.lemmas.Bool.{and_parts}
use Rattle.tptp_base.specs.declared.item.Item.{Item}
use Rattle.tptp_base.specs.declared.item.Item.TheVariants as item
use Rattle.tptp_base.specs.declared.place.Place.{Place}
use Rattle.tptp_base.specs.Place.{place_of}
use Rattle.tptp_lexer.specs.declared.style.Style.{Style}
use Rattle.tptp_lexer.specs.declared.style.Style.TheVariants.{Derivation}
use Rattle.tptp_lexer.specs.declared.token.Token.{Token}
use Rattle.tptp_lexer.specs.declared.token.Token.TheVariants.{Lower, Mark as Sign}
use Rattle.tptp_lexer.specs.declared.token.Mark.TheVariants as m
use Rattle.tptp_lexer.specs.Bytes.{Text}
use Rattle.tptp_lexer.specs.Spelled.{lower_word, mark}
use Rattle.tptp_lexer.specs.Tokenized.{Cut, here, after_blank, after_token, placed}
use Rattle.tptp_grammar.specs.Faults.{max_nesting}
use Rattle.tptp_grammar.specs.Solid.{Placed}
use Rattle.tptp_grammar.specs.Tokens.{Tokens}
use Rattle.tptp_grammar.specs.Files as g
use Rattle.tptp_grammar.specs.Files.{Through}
use Rattle.canon_print.specs.Words.{is_lower_word}
use Rattle.canon_print.specs.Canonical.{item_text, canonical_text}
use Rattle.canon_print.specs.RoundTrip.{at_place, first_place}
use Rattle.canon_print.proofs.Longest.{longest_lower, longest_mark}
use Rattle.canon_print.proofs.Lexed.{LexedTo, done, blank, token}
use Rattle.canon_print.proofs.FilesShown.{CutTo, FileShown}
use Rattle.canon_print.proofs.ItemsShown.{ItemPrinted, item_shown}
use Rattle.spelled_items.proofs.ItemsSpelled.{ItemSpelled}

-- the tokens lead through, or there are none
abbrev Leads : List Placed → List Placed → Tokens → Tokens → Type 0
Leads ts rest us mid = ((ts ≡ rest) × (us ≡ mid)) ⊎ Through ts rest us mid

-- a token before them, by what the token alone and before others leads through
leads_on : {t : Token} {place : Place} {n : ℕ} {ts rest : List Placed} {us mid : Tokens} → ((left : List Placed) (later : Tokens) → Through ((t, place) ∷ left) left ((t, n) ∷ later) later)
    → (Through ts rest us mid → Through ((t, place) ∷ ts) rest ((t, n) ∷ us) mid) → Leads ts rest us mid → Through ((t, place) ∷ ts) rest ((t, n) ∷ us) mid
leads_on {t} {place} {n} {ts} {rest} {us} {mid} alone before (inl same) =
    subst (λ (z : List Placed). Through ((t, place) ∷ z) rest ((t, n) ∷ us) mid) (sym same.0) (subst (λ (v : Tokens). Through ((t, place) ∷ rest) rest ((t, n) ∷ v) mid) (sym same.1) (alone rest mid))
leads_on alone before (inr through) = before through

-- from printed tokens to a cut
cut_on : (style : Style) (limit file : ℕ) (whole : Text) {after : Text} {mid : Tokens} {text : Text} {us : Tokens} → LexedTo limit after mid text us → (at stop : ℕ) → stop + length text ≡ at + length after → (tokens : List Placed) (end : ℕ)
    → Cut style (placed file whole) at after tokens end [] → CutTo style limit file whole stop text us mid tokens end
cut_on style limit file whole {after = after} done at stop e tokens end cut = record {
  all = tokens;
  cut = (let same : at ≡ stop = omega arith in subst (λ (n : ℕ). Cut style (placed file whole) n after tokens end []) same cut);
  leads = inl (refl, refl);
  within = λ within. within;
}
cut_on style limit file whole (blank h lexed) at stop e tokens end cut = (let inner = cut_on style limit file whole lexed at (stop + 1) (omega arith) tokens end cut in
    record { all = inner.all; cut = after_blank h inner.cut; leads = inner.leads; within = inner.within })
cut_on style limit file whole (token spelling {text = text} {t = t} solid spelled longest fits lexed) at stop e tokens end cut =
    let inner = cut_on style limit file whole lexed at (stop + length spelling) (omega (arith, length-append spelling text)) tokens end cut in
    record { all = (t, place_of file whole stop) ∷ inner.all; cut = after_token spelling (spelled style) (longest style) inner.cut; leads = inr (leads_on (λ left later. g.last_token solid) (λ through. g.token solid through) inner.leads); within = λ within. (fits, inner.within within) }

-- the first place of an item that stands at another place
place_gone : (place : Place) (i : Item) → at_place first_place (at_place place i) ≡ at_place first_place i
place_gone place (item.Comment text) = refl
place_gone place (item.Formula formula) = refl
place_gone place (item.Include include) = refl

first_cut : (style : Style) (file : ℕ) (whole name inner : Text) (at : ℕ) (tokens : List Placed) (end : ℕ) → is_lower_word name ≡ true → Cut style (placed file whole) (at + length name) (40 ∷ inner) tokens end []
    → Cut style (placed file whole) at (name ++ 40 ∷ inner) ((Lower name, place_of file whole at) ∷ tokens) end []
first_cut style file whole [] inner at tokens end is cut = absurd (let clash : false ≡ true = is in cc)
first_cut style file whole (first ∷ word) inner at tokens end is cut =
    let both = and_parts _ _ is in
    after_token (first ∷ word) (lower_word both.0 both.1) (longest_lower style first word (40 ∷ inner) both.0 both.1 refl) cut

item_then : (style : Style) (limit file : ℕ) (whole : Text) (i : Item) (items : List Item) (at : ℕ) (rest : FileShown style limit file whole items (at + length (item_text i))) → ItemPrinted style limit i (canonical_text items) rest.us → FileShown style limit file whole (i ∷ items) at
item_then style limit file whole i items at rest printed =
    let place = place_of file whole at in
    let long : length (item_text i) + length (canonical_text items) ≡ length printed.name + suc (length printed.inner) =
    sym (length-append (item_text i) (canonical_text items)) ∙ ap length printed.is_text ∙ length-append printed.name (40 ∷ printed.inner) in
    let more = cut_on style limit file whole printed.lexed (at + length (item_text i)) (at + length printed.name + 1) (omega arith) rest.tokens rest.end rest.cut in
    let open_cut : Cut style (placed file whole) (at + length printed.name) (40 ∷ printed.inner) ((Sign m.Open, place_of file whole (at + length printed.name)) ∷ more.all) rest.end [] = after_token (codes "(") (mark m.Open) (longest_mark style m.Open printed.inner refl) more.cut in
    record {
      again = at_place place i ∷ rest.again;
      same = ap (λ (first : Item). first ∷ map (at_place first_place) rest.again) (place_gone place i) ∙ ap (λ (others : List Item). at_place first_place i ∷ others) rest.same;
      tokens = (Lower printed.name, place) ∷ (Sign m.Open, place_of file whole (at + length printed.name)) ∷ more.all;
      us = (Lower printed.name, 0) ∷ (Sign m.Open, 0) ∷ printed.us;
      end = rest.end;
      spells = g.input (printed.rule place) (leads_on (λ left later. g.last_token refl) (λ through. g.token refl through) more.leads) rest.spells;
      within = (omega arith, (omega arith, more.within rest.within));
      cut = subst (λ (z : Text). Cut style (placed file whole) at z ((Lower printed.name, place) ∷ (Sign m.Open, place_of file whole (at + length printed.name)) ∷ more.all) rest.end []) (sym printed.is_text)
          (first_cut style file whole printed.name printed.inner at ((Sign m.Open, place_of file whole (at + length printed.name)) ∷ more.all) rest.end printed.is_lower open_cut);
    }

-- in the text of a file, from a place on
pub items_cut : (file : ℕ) (whole : Text) (items : List Item) → AllByRecursion ItemSpelled items → (at : ℕ) → FileShown Derivation max_nesting file whole items at
items_cut file whole [] all at = record { again = []; same = refl; tokens = []; us = []; end = at; spells = g.end_of_file; within = tt; cut = here }
items_cut file whole (i ∷ items) all at =
    let rest = items_cut file whole items all.1 (at + length (item_text i)) in
    let spelled = all.0 [] tt in
    let shown = item_shown Derivation max_nesting spelled.rule spelled.given in
    item_then Derivation max_nesting file whole i items at rest (shown.prints (canonical_text items) rest.us)
