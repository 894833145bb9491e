-- What the reader of all tokens answers: the items that are spelled, or the first fault.
use Rattle.std.proofs.Common.{◌≡◌, true, false, if◌then◌else◌, ℕ, zero, suc, ◌-◌, List, [], ◌∷◌, ◌++◌, length, Ok, Err, ◌⊎◌, inl, inr, refl, sym, ◌∙◌, ap, subst, length-append, arith}
use Rattle.first_fault.specs.Nesting.{plain, Within, FirstOver}
use Rattle.first_fault.proofs.NestingFacts.{WithinTo, done, before}
use Rattle.first_fault.specs.code.Reading.{Cause, TooDeep}
use Rattle.first_fault.proofs.Exact.{plain-append}
use Rattle.first_fault.proofs.Found.{Found, over_join}
use Rattle.first_fault.proofs.Separated.{length-plain}
use Rattle.tptp_lexer.specs.declared.style.Style.{Style}
use Rattle.tptp_lexer.specs.declared.token.Token.{Token}
use Rattle.tptp_lexer.specs.declared.token.Token.TheVariants.{Comment}
use Rattle.tptp_base.specs.declared.place.Place.{Place}
use Rattle.tptp_base.specs.declared.item.Item.{Item}
use Rattle.tptp_base.specs.declared.item.Item.TheVariants as it
use Rattle.tptp_grammar.specs.Tokens.{Text, Tokens}
use Rattle.tptp_grammar.specs.Items as g
use Rattle.tptp_grammar.specs.Items.{IsItem}
use Rattle.tptp_grammar.specs.Solid.{Placed, solid}
use Rattle.tptp_lexer.specs.Dots.{is_comment}
use Rattle.tptp_grammar.specs.Files.{Through, last_token, dropped, token, IsFile, end_of_file, comment, input}
use Rattle.tptp_grammar.specs.code.ReadItems.{item}
use Rattle.tptp_grammar.specs.code.ReadFile.{with_item, followed, file_from, file}
use Rattle.tptp_grammar.proofs.ExactItems.{good_item}

-- ---- lists without their comments

pub solid_kept : (t : Token) (place : Place) (rest : List Placed) → is_comment t ≡ false → solid ((t, place) ∷ rest) ≡ t ∷ solid rest
solid_kept t place rest e = ap (λ b. if b then solid rest else t ∷ solid rest) e

pub solid_dropped : (t : Token) (place : Place) (rest : List Placed) → is_comment t ≡ true → solid ((t, place) ∷ rest) ≡ solid rest
solid_dropped t place rest e = ap (λ b. if b then solid rest else t ∷ solid rest) e

-- a list whose tokens but comments are these, and that ends with the last of them
pub data Ends : List Placed → Tokens → Type 0 where
  ends_here : {t : Token} {place : Place} {n : ℕ} → is_comment t ≡ false → Ends ((t, place) ∷ []) ((t, n) ∷ [])
  ends_drop : {t : Token} {place : Place} {fr : List Placed} {us : Tokens} → is_comment t ≡ true → Ends fr us → Ends ((t, place) ∷ fr) us
  ends_keep : {t : Token} {place : Place} {n : ℕ} {fr : List Placed} {us : Tokens} → is_comment t ≡ false → Ends fr us → Ends ((t, place) ∷ fr) ((t, n) ∷ us)

pub comment_text : (t : Token) → is_comment t ≡ true → (text : Text) × (t ≡ Comment text)
comment_text (Comment text) e = (text, refl)
comment_text t e = cc

pub through_drop : (t : Token) (place : Place) (ts rest : List Placed) (us mid : Tokens) → is_comment t ≡ true → Through ts rest us mid → Through ((t, place) ∷ ts) rest us mid
through_drop t place ts rest us mid e h = let c = comment_text t e in subst (λ u. Through ((u, place) ∷ ts) rest us mid) (sym c.1) (dropped h)

pub through_of : {fr : List Placed} {us : Tokens} → Ends fr us → (x : List Placed) (mid : Tokens) → Through (fr ++ x) x (us ++ mid) mid
through_of (ends_here e) x mid = last_token e
through_of (ends_drop {t = t} {place = place} {fr = fr} {us = us} e h) x mid = through_drop t place (fr ++ x) x (us ++ mid) mid e (through_of h x mid)
through_of (ends_keep e h) x mid = token e (through_of h x mid)

-- a list through a token, taken apart
record Cut (ts rest : List Placed) (us mid : Tokens) : Type 0 where
  fr : List Placed
  taken : Tokens
  text : ts ≡ fr ++ rest
  tokens : us ≡ taken ++ mid
  ends : Ends fr taken

cut_of : {ts rest : List Placed} {us mid : Tokens} → Through ts rest us mid → Cut ts rest us mid
cut_of (last_token {t = t} {place = place} {n = n} e) = record { fr = (t, place) ∷ []; taken = (t, n) ∷ []; text = refl; tokens = refl; ends = ends_here e }
cut_of (dropped {text = text} {place = place} h) =
    let c = cut_of h in record { fr = (Comment text, place) ∷ c.fr; taken = c.taken; text = ap (λ l. (Comment text, place) ∷ l) c.text; tokens = c.tokens; ends = ends_drop refl c.ends }
cut_of (token {t = t} {place = place} {n = n} e h) =
    let c = cut_of h in record { fr = (t, place) ∷ c.fr; taken = (t, n) ∷ c.taken; text = ap (λ l. (t, place) ∷ l) c.text; tokens = ap (λ l. (t, n) ∷ l) c.tokens; ends = ends_keep e c.ends }

pub solid_ends : {fr : List Placed} {us : Tokens} → Ends fr us → (x : List Placed) → solid (fr ++ x) ≡ plain us ++ solid x
solid_ends (ends_here {t = t} {place = place} e) x = solid_kept t place x e
solid_ends (ends_drop {t = t} {place = place} {fr = fr} e h) x = solid_dropped t place (fr ++ x) e ∙ solid_ends h x
solid_ends (ends_keep {t = t} {place = place} {fr = fr} e h) x = solid_kept t place (fr ++ x) e ∙ ap (λ l. t ∷ l) (solid_ends h x)

module _ (style : Style) (room : ℕ) where
  -- what is left of an item is passed over
  skip_drop : (left : ℕ) (t : Token) (place : Place) (rest : List Placed) → is_comment t ≡ true → file_from style room (suc left) ((t, place) ∷ rest) ≡ file_from style room (suc left) rest
  skip_drop left t place rest e = ap (λ b. file_from style room (if b then suc left else left) rest) e

  skip_keep : (left : ℕ) (t : Token) (place : Place) (rest : List Placed) → is_comment t ≡ false → file_from style room (suc left) ((t, place) ∷ rest) ≡ file_from style room left rest
  skip_keep left t place rest e = ap (λ b. file_from style room (if b then suc left else left) rest) e

  some_taken : {fr : List Placed} {us : Tokens} → Ends fr us → (n : ℕ) × (length us ≡ suc n)
  some_taken (ends_here e) = (0, refl)
  some_taken (ends_drop e h) = some_taken h
  some_taken (ends_keep {us = us} e h) = (length us, refl)

  skip_ends : {fr : List Placed} {us : Tokens} → Ends fr us → (x : List Placed) → file_from style room (length us) (fr ++ x) ≡ file_from style room zero x
  skip_ends (ends_here {t = t} {place = place} e) x = skip_keep 0 t place x e
  skip_ends (ends_drop {t = t} {place = place} {fr = fr} {us = us} e h) x =
      let n = some_taken h in
      ap (λ k. file_from style room k ((t, place) ∷ (fr ++ x))) n.1 ∙ skip_drop n.0 t place (fr ++ x) e ∙ ap (λ k. file_from style room k (fr ++ x)) (sym n.1) ∙ skip_ends h x
  skip_ends (ends_keep {t = t} {place = place} {fr = fr} {us = us} e h) x = skip_keep (length us) t place (fr ++ x) e ∙ skip_ends h x

  -- from a token between items on
  pub started_item : (t : Token) (place : Place) (rest : List Placed) → is_comment t ≡ false → file style room ((t, place) ∷ rest) ≡ followed (item style room place (t ∷ solid rest)) (λ left. file_from style room left rest) (length (solid rest))
  unfolding file
  started_item (Comment text) place rest e = cc
  started_item t place rest e = refl

  pub started_comment : (text : Text) (place : Place) (rest : List Placed) → file style room ((Comment text, place) ∷ rest) ≡ with_item (it.Comment text) (file style room rest)
  unfolding file
  started_comment text place rest = refl

  -- an item that is read, and what follows it
  pub item_read : (t : Token) (place : Place) (fr x : List Placed) (us : Tokens) (i : Item) → is_comment t ≡ false → Ends fr us → item style room place (t ∷ solid (fr ++ x)) ≡ Ok (i, solid x) → file style room ((t, place) ∷ (fr ++ x)) ≡ with_item i (file style room x)
  unfolding file
  item_read t place fr x us i e h k =
      let size : length (solid (fr ++ x)) - length (solid x) ≡ length us = omega (arith, ap length (solid_ends h x), length-append (plain us) (solid x), length-plain us) in
      started_item t place (fr ++ x) e ∙ ap (λ o. followed o (λ left. file_from style room left (fr ++ x)) (length (solid (fr ++ x)))) k
      ∙ ap (λ n. with_item i (file_from style room n (fr ++ x))) size ∙ ap (with_item i) (skip_ends h x)

  pub item_fails : (t : Token) (place : Place) (rest : List Placed) (f : Cause × List Token) → is_comment t ≡ false → item style room place (t ∷ solid rest) ≡ Err f → file style room ((t, place) ∷ rest) ≡ Err f
  item_fails t place rest f e k = started_item t place rest e ∙ ap (λ o. followed o (λ left. file_from style room left rest) (length (solid rest))) k

-- ---- what is spelled is found

-- an item begins with a word
pub first_solid : {style : Style} {place : Place} {i : Item} {t : Token} {n : ℕ} {us mid : Tokens} → IsItem style place i ((t, n) ∷ us) mid → is_comment t ≡ false
first_solid (g.annotated e has h j k x) = refl
first_solid (g.include e h) = refl

pub solid_file : {style : Style} {items : List Item} {raw : List Placed} {us : Tokens} → IsFile style items raw us → solid raw ≡ plain us
solid_file end_of_file = refl
solid_file (comment h) = solid_file h
solid_file (input {t = t} {place = place} {ts = ts} {rest = rest} {us = us} {mid = mid} i thr h) =
    let c = cut_of thr in
    solid_kept t place ts (first_solid i) ∙ ap (λ l. t ∷ l) (ap solid c.text ∙ solid_ends c.ends rest ∙ ap (λ l. plain c.taken ++ l) (solid_file h) ∙ sym (plain-append c.taken mid) ∙ ap plain (sym c.tokens))

abbrev pub FoundFile : Style → ℕ → List Item → List Placed → Tokens → Type 0
FoundFile style room items raw us = (Within room us × (file style room raw ≡ Ok items)) ⊎ ((over : Tokens) × FirstOver room us over × (file style room raw ≡ Err (TooDeep, plain over)))

pub all_within : {limit : ℕ} {ts rest : Tokens} → WithinTo limit ts rest → Within limit rest → Within limit ts
all_within done k = k
all_within (before le h) k = (le, all_within h k)

module _ (style : Style) (room : ℕ) where
  found_comment : (text : Text) (place : Place) (items : List Item) (rest : List Placed) (us : Tokens) → FoundFile style room items rest us → FoundFile style room (it.Comment text ∷ items) ((Comment text, place) ∷ rest) us
  found_comment text place items rest us (inl (h, k)) = inl (h, started_comment style room text place rest ∙ ap (with_item (it.Comment text)) k)
  found_comment text place items rest us (inr (over, h, k)) = inr (over, h, started_comment style room text place rest ∙ ap (with_item (it.Comment text)) k)

  module _ (i : Item) (t : Token) (place : Place) (n : ℕ) (items : List Item) (ts rest : List Placed) (us mid : Tokens) (derived : IsItem style place i ((t, n) ∷ us) mid) (thr : Through ts rest us mid) (h : IsFile style items rest mid) where
    whole_solid : t ∷ solid ts ≡ plain ((t, n) ∷ us)
    whole_solid = sym (solid_kept t place ts (first_solid derived)) ∙ solid_file (input derived thr h)

    found_rest : item style room place (plain ((t, n) ∷ us)) ≡ Ok (i, plain mid) → file style room ((t, place) ∷ ts) ≡ with_item i (file style room rest)
    found_rest k =
        let c = cut_of thr in
        let at : item style room place (t ∷ solid (c.fr ++ rest)) ≡ Ok (i, solid rest) = ap (λ l. item style room place (t ∷ solid l)) (sym c.text) ∙ ap (item style room place) whole_solid ∙ k ∙ ap (λ l. Ok (i, l)) (sym (solid_file h)) in
        ap (λ l. file style room ((t, place) ∷ l)) c.text ∙ item_read style room t place c.fr rest c.taken i (first_solid derived) c.ends at

    found_input : Found room (item style room place) i ((t, n) ∷ us) mid → FoundFile style room items rest mid → FoundFile style room (i ∷ items) ((t, place) ∷ ts) ((t, n) ∷ us)
    found_input (inl (w, k)) (inl (v, l)) = inl (all_within w v, found_rest k ∙ ap (with_item i) l)
    found_input (inl (w, k)) (inr (over, v, l)) = inr (over, over_join w v, found_rest k ∙ ap (with_item i) l)
    found_input (inr (over, w, k)) second = inr (over, w, item_fails style room t place ts (TooDeep, plain over) (first_solid derived) (ap (item style room place) whole_solid ∙ k))

  pub found_file : {items : List Item} {raw : List Placed} {us : Tokens} → IsFile style items raw us → FoundFile style room items raw us
  unfolding file
  found_file end_of_file = inl (tt, refl)
  found_file (comment {text = text} {place = place} {items = items} {rest = rest} {us = us} h) = found_comment text place items rest us (found_file h)
  found_file (input {i = i} {t = t} {place = place} {n = n} {items = items} {ts = ts} {rest = rest} {us = us} {mid = mid} derived thr h) =
      found_input i t place n items ts rest us mid derived thr h ((good_item style room room (omega arith) place).found i ((t, n) ∷ us) mid derived refl) (found_file h)
