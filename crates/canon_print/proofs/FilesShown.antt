-- The canonical text of a file's items is cut into tokens that spell them again.
use Rattle.std.proofs.Common.{◌≡◌, ℕ, suc, ◌+◌, true, false, List, [], ◌∷◌, ◌++◌, length, map, codes, ◌⊎◌, inl, inr, refl, sym, subst, ◌∙◌, ap, arith, append_assoc, length-append}
use Rattle.std.proofs.lemmas.Bool.{and_parts}
use Rattle.first_fault.specs.Nesting.{Within}
use Rattle.tptp_lexer.specs.declared.style.Style.{Style}
use Rattle.tptp_lexer.specs.declared.token.Token.{Token}
use Rattle.tptp_lexer.specs.declared.token.Token.TheVariants.{Lower, Comment, Mark as Sign}
use Rattle.tptp_lexer.specs.declared.token.Mark.TheVariants as m
use Rattle.tptp_base.specs.declared.place.Place.{Place}
use Rattle.tptp_base.specs.Place.{place_of}
use Rattle.tptp_base.specs.declared.item.Item.{Item}
use Rattle.tptp_base.specs.declared.item.Item.TheVariants as item
use Rattle.tptp_lexer.specs.Bytes.{Text}
use Rattle.tptp_lexer.specs.Spelled.{Spelled, lower_word, upper_word, dollar_word, dollar_dollar_word, single_quoted, distinct_object, number, comment_line, comment_block, mark, IsLongest}
use Rattle.tptp_lexer.specs.Tokenized.{Cut, here, after_blank, after_token, placed}
use Rattle.tptp_grammar.specs.Solid.{Placed}
use Rattle.tptp_lexer.specs.Dots.{is_comment}
use Rattle.tptp_grammar.specs.Tokens.{Tokens}
use Rattle.tptp_grammar.specs.Files as g
use Rattle.tptp_grammar.specs.Files.{Through, IsFile, SpellsWithin}
use Rattle.canon_print.specs.Words.{is_lower_word}
use Rattle.canon_print.specs.Canonical.{item_text, canonical_text}
use Rattle.canon_print.specs.RoundTrip.{TextSpells, at_place, first_place, AreSame, SpellsAgain}
use Rattle.canon_print.proofs.Longest.{longest_lower, longest_mark, longest_line, longest_block}
use Rattle.canon_print.proofs.Lexed.{LexedTo, done, blank, token, Facts, facts_of, Given}
use Rattle.canon_print.proofs.ItemsShown.{ItemPrinted, item_shown}

-- ---- what the tokens of a text say

-- the text of a comment is its spelling, and the longest token before a line feed
abbrev IsCommentText : Style → Token → Type 0
IsCommentText style (Comment text) = Spelled style (Comment text) text × ((after : Text) → IsLongest style (length text) (text ++ 10 ∷ after))
IsCommentText style _ = Unit {0}

comment_text : (style : Style) {t : Token} {spelling : Text} → Spelled style t spelling → IsCommentText style t
comment_text style (lower_word h all) = tt
comment_text style (upper_word h all) = tt
comment_text style (dollar_word all) = tt
comment_text style (dollar_dollar_word all) = tt
comment_text style (single_quoted w) = tt
comment_text style (distinct_object w) = tt
comment_text style (number h) = tt
comment_text style (comment_line {first = first} {line = line} h all) = (comment_line h all, λ after. longest_line style first line after h all)
comment_text style (comment_block body clean) = (comment_block body clean, λ after. longest_block style body (10 ∷ after) clean)
comment_text style (mark s) = tt

abbrev AreSpelled : Style → List Placed → Type 0
AreSpelled style [] = Unit {0}
AreSpelled style (entry ∷ rest) = Facts entry.0 × IsCommentText style entry.0 × AreSpelled style rest

cut_spelled : (style : Style) (file : ℕ) (whole : Text) {at end : ℕ} {text rest : Text} {tokens : List Placed} → Cut style (placed file whole) at text tokens end rest → AreSpelled style tokens
cut_spelled style file whole here = tt
cut_spelled style file whole (after_blank h cut) = cut_spelled style file whole cut
cut_spelled style file whole (after_token spelling spelled longest cut) = (facts_of spelled, comment_text style spelled, cut_spelled style file whole cut)

-- the same of the tokens without comments
through_given : (style : Style) (limit : ℕ) {ts rest : List Placed} {us mid : Tokens} → Through ts rest us mid → AreSpelled style ts → Within limit us → AreSpelled style rest × Within limit mid × (Given limit mid → Given limit us)
through_given style limit (g.last_token solid) spelled within = (spelled.2, within.1, λ given. (spelled.0, within.0, given))
through_given style limit (g.dropped h) spelled within = through_given style limit h spelled.2 within
through_given style limit (g.token solid h) spelled within = (let inner = through_given style limit h spelled.2 within.1 in (inner.0, inner.1, λ given. (spelled.0, within.0, inner.2 given)))

file_given : (style : Style) (limit : ℕ) {items : List Item} {tokens : List Placed} {us : Tokens} → IsFile style items tokens us → AreSpelled style tokens → Within limit us → Given limit us
file_given style limit g.end_of_file spelled within = tt
file_given style limit (g.comment h) spelled within = file_given style limit h spelled.2 within
file_given style limit (g.input i h k) spelled within = (let inner = through_given style limit h spelled.2 within.1 in (spelled.0, within.0, inner.2 (file_given style limit k inner.0 inner.1)))

-- ---- from printed tokens to a cut

-- the tokens lead through, or there are none
abbrev Leads : List Placed → List Placed → Tokens → Tokens → Type 0
Leads ts rest us mid = ((ts ≡ rest) × (us ≡ mid)) ⊎ Through ts rest us mid

leads_on : {t : Token} {place : Place} {n : ℕ} {ts rest : List Placed} {us mid : Tokens} → is_comment t ≡ false → Leads ts rest us mid → Through ((t, place) ∷ ts) rest ((t, n) ∷ us) mid
leads_on {t} {place} {n} {ts} {rest} {us} {mid} solid (inl same) =
    subst (λ (z : List Placed). Through ((t, place) ∷ z) rest ((t, n) ∷ us) mid) (sym same.0) (subst (λ (v : Tokens). Through ((t, place) ∷ rest) rest ((t, n) ∷ v) mid) (sym same.1) (g.last_token solid))
leads_on solid (inr through) = g.token solid through

pub record CutTo (style : Style) (limit file : ℕ) (whole : Text) (at : ℕ) (text : Text) (us mid : Tokens) (tokens : List Placed) (end : ℕ) : Type 0 where
  pub all : List Placed
  pub cut : Cut style (placed file whole) at text all end []
  pub leads : Leads all tokens us mid
  pub within : Within limit mid → Within limit us

cut_to : (style : Style) (limit file : ℕ) (whole : Text) {after : Text} {mid : Tokens} {text : Text} {us : Tokens} → LexedTo limit after mid text us → (at stop : ℕ) → stop + length text ≡ at + length after → (tokens : List Placed) (end : ℕ)
    → Cut style (placed file whole) at after tokens end [] → CutTo style limit file whole stop text us mid tokens end
cut_to style limit file whole {after = after} done at stop e tokens end cut = record {
  all = tokens;
  cut = (let same : at ≡ stop = omega arith in subst (λ (n : ℕ). Cut style (placed file whole) n after tokens end []) same cut);
  leads = inl (refl, refl);
  within = λ within. within;
}
cut_to style limit file whole (blank h lexed) at stop e tokens end cut = (let inner = cut_to style limit file whole lexed at (stop + 1) (omega arith) tokens end cut in
    record { all = inner.all; cut = after_blank h inner.cut; leads = inner.leads; within = inner.within })
cut_to style limit file whole (token spelling {text = text} {t = t} solid spelled longest fits lexed) at stop e tokens end cut =
    let inner = cut_to style limit file whole lexed at (stop + length spelling) (omega (arith, length-append spelling text)) tokens end cut in
    record { all = (t, place_of file whole stop) ∷ inner.all; cut = after_token spelling (spelled style) (longest style) inner.cut; leads = inr (leads_on solid inner.leads); within = λ within. (fits, inner.within within) }

-- ---- files

pub record FileShown (style : Style) (limit file : ℕ) (whole : Text) (items : List Item) (at : ℕ) : Type 0 where
  pub again : List Item
  pub same : AreSame again items
  pub tokens : List Placed
  pub us : Tokens
  pub end : ℕ
  pub spells : IsFile style again tokens us
  pub within : Within limit us
  pub cut : Cut style (placed file whole) at (canonical_text items) tokens end []

-- the first place of an item that stands at another place
place_gone : (place : Place) (i : Item) → at_place first_place (at_place place i) ≡ at_place first_place i
place_gone place (item.Comment text) = refl
place_gone place (item.Formula formula) = refl
place_gone place (item.Include include) = refl

comment_before : (style : Style) (limit file : ℕ) (whole text : Text) (items : List Item) (at : ℕ) → IsCommentText style (Comment text) → FileShown style limit file whole items (at + length text + 1) → FileShown style limit file whole (item.Comment text ∷ items) at
comment_before style limit file whole text items at is rest = record {
  again = item.Comment text ∷ rest.again;
  same = ap (λ (others : List Item). item.Comment text ∷ others) rest.same;
  tokens = (Comment text, place_of file whole at) ∷ rest.tokens;
  us = rest.us;
  end = rest.end;
  spells = g.comment rest.spells;
  within = rest.within;
  cut = subst (λ (z : Text). Cut style (placed file whole) at z ((Comment text, place_of file whole at) ∷ rest.tokens) rest.end []) (sym (append_assoc text (10 ∷ []) (canonical_text items)))
      (after_token text is.0 (is.1 (canonical_text items)) (after_blank refl rest.cut));
}

lower_cut : (style : Style) (file : ℕ) (whole name inner : Text) (at : ℕ) (tokens : List Placed) (end : ℕ) → is_lower_word name ≡ true → Cut style (placed file whole) (at + length name) (40 ∷ inner) tokens end []
    → Cut style (placed file whole) at (name ++ 40 ∷ inner) ((Lower name, place_of file whole at) ∷ tokens) end []
lower_cut style file whole [] inner at tokens end is cut = absurd (let clash : false ≡ true = is in cc)
lower_cut style file whole (first ∷ word) inner at tokens end is cut =
    let both = and_parts _ _ is in
    after_token (first ∷ word) (lower_word both.0 both.1) (longest_lower style first word (40 ∷ inner) both.0 both.1 refl) cut

item_before : (style : Style) (limit file : ℕ) (whole : Text) (i : Item) (items : List Item) (at : ℕ) (rest : FileShown style limit file whole items (at + length (item_text i))) → ItemPrinted style limit i (canonical_text items) rest.us → FileShown style limit file whole (i ∷ items) at
item_before style limit file whole i items at rest printed =
    let place = place_of file whole at in
    let long : length (item_text i) + length (canonical_text items) ≡ length printed.name + suc (length printed.inner) =
    sym (length-append (item_text i) (canonical_text items)) ∙ ap length printed.is_text ∙ length-append printed.name (40 ∷ printed.inner) in
    let more = cut_to style limit file whole printed.lexed (at + length (item_text i)) (at + length printed.name + 1) (omega arith) rest.tokens rest.end rest.cut in
    let open_cut : Cut style (placed file whole) (at + length printed.name) (40 ∷ printed.inner) ((Sign m.Open, place_of file whole (at + length printed.name)) ∷ more.all) rest.end [] = after_token (codes "(") (mark m.Open) (longest_mark style m.Open printed.inner refl) more.cut in
    record {
      again = at_place place i ∷ rest.again;
      same = ap (λ (first : Item). first ∷ map (at_place first_place) rest.again) (place_gone place i) ∙ ap (λ (others : List Item). at_place first_place i ∷ others) rest.same;
      tokens = (Lower printed.name, place) ∷ (Sign m.Open, place_of file whole (at + length printed.name)) ∷ more.all;
      us = (Lower printed.name, 0) ∷ (Sign m.Open, 0) ∷ printed.us;
      end = rest.end;
      spells = g.input (printed.rule place) (leads_on refl more.leads) rest.spells;
      within = (omega arith, (omega arith, more.within rest.within));
      cut = subst (λ (z : Text). Cut style (placed file whole) at z ((Lower printed.name, place) ∷ (Sign m.Open, place_of file whole (at + length printed.name)) ∷ more.all) rest.end []) (sym printed.is_text)
          (lower_cut style file whole printed.name printed.inner at ((Sign m.Open, place_of file whole (at + length printed.name)) ∷ more.all) rest.end printed.is_lower open_cut);
    }

file_shown : (style : Style) (limit file : ℕ) (whole : Text) {items : List Item} {tokens : List Placed} {us : Tokens} → IsFile style items tokens us → AreSpelled style tokens → Within limit us → (at : ℕ) → FileShown style limit file whole items at
file_shown style limit file whole g.end_of_file spelled within at = record { again = []; same = refl; tokens = []; us = []; end = at; spells = g.end_of_file; within = tt; cut = here }
file_shown style limit file whole (g.comment {text = text} {items = items} h) spelled within at = comment_before style limit file whole text items at spelled.1 (file_shown style limit file whole h spelled.2 within (at + length text + 1))
file_shown style limit file whole (g.input {i = i} {items = items} rule through h) spelled within at =
    let inner = through_given style limit through spelled.2 within.1 in
    let rest = file_shown style limit file whole h inner.0 inner.1 (at + length (item_text i)) in
    let shown = item_shown style limit rule (spelled.0, within.0, inner.2 (file_given style limit h inner.0 inner.1)) in
    item_before style limit file whole i items at rest (shown.prints (canonical_text items) rest.us)

-- What some text spells, its canonical text spells again, and nests no deeper.
pub read_again : (style : Style) (file limit : ℕ) (items : List Item) (text : Text) → TextSpells style file limit items text → SpellsAgain style file limit items (canonical_text items)
read_again style file limit items text (tokens, end, cut, (us, spells, within)) =
    let shown = file_shown style limit file (canonical_text items) spells (cut_spelled style file text cut) within 0 in
    (shown.again, shown.same, (shown.tokens, shown.end, shown.cut, (shown.us, shown.spells, shown.within)))

-- ---- places are not printed

print_anywhere : (place : Place) (i : Item) → item_text (at_place place i) ≡ item_text i
print_anywhere place (item.Comment text) = refl
print_anywhere place (item.Formula formula) = refl
print_anywhere place (item.Include include) = refl

placed_text : (items : List Item) → canonical_text (map (at_place first_place) items) ≡ canonical_text items
placed_text [] = refl
placed_text (i ∷ items) = ap (λ (z : Text). z ++ canonical_text (map (at_place first_place) items)) (print_anywhere first_place i) ∙ ap (λ (z : Text). item_text i ++ z) (placed_text items)

-- The same items have one canonical text.
pub same_text : (items others : List Item) → AreSame items others → canonical_text items ≡ canonical_text others
same_text items others same = sym (placed_text items) ∙ ap (λ (is : List Item). canonical_text is) same ∙ placed_text others
