-- Tokens among comments: where the tokens that were read stand in the list that has comments between them.
use Rattle.std.proofs.Common.{◌≡◌, Bool, true, false, ℕ, List, [], ◌∷◌, ◌++◌, refl, sym, ◌∙◌, ap, subst}
use Rattle.first_fault.specs.Nesting.{Nested, plain}
use Rattle.tptp_lexer.specs.declared.style.Style.{Style}
use Rattle.tptp_lexer.specs.declared.token.Token.{Token}
use Rattle.tptp_lexer.specs.declared.token.Token.TheVariants.{Comment}
use Rattle.tptp_base.specs.declared.place.Place.{Place}
use Rattle.tptp_base.specs.declared.item.Item.{Item}
use Rattle.tptp_base.specs.declared.item.Item.TheVariants as it
use Rattle.tptp_grammar.specs.Tokens.{Tokens}
use Rattle.tptp_grammar.specs.Items as g
use Rattle.tptp_grammar.specs.Items.{IsItem}
use Rattle.tptp_grammar.specs.Solid.{Placed, solid}
use Rattle.tptp_lexer.specs.Dots.{is_comment}
use Rattle.tptp_grammar.specs.Files.{Through, last_token, token, IsFile, end_of_file, comment, input}
use Rattle.tptp_grammar.proofs.Solids.{BeginsSolid}
use Rattle.tptp_grammar.proofs.SolidItems.{AreSolid}
use Rattle.tptp_grammar.proofs.ExactFile.{Ends, ends_here, ends_drop, ends_keep, comment_text, solid_kept, solid_dropped, through_drop}

-- ---- tokens between comments

-- a list whose tokens but comments are these
pub data Holds : List Placed → Tokens → Type 0 where
  holds_none : Holds [] []
  holds_drop : {t : Token} {place : Place} {fr : List Placed} {us : Tokens} → is_comment t ≡ true → Holds fr us → Holds ((t, place) ∷ fr) us
  holds_keep : {t : Token} {place : Place} {n : ℕ} {fr : List Placed} {us : Tokens} → is_comment t ≡ false → Holds fr us → Holds ((t, place) ∷ fr) ((t, n) ∷ us)

pub holds_both : {fr x : List Placed} {us vs : Tokens} → Holds fr us → Holds x vs → Holds (fr ++ x) (us ++ vs)
holds_both holds_none k = k
holds_both (holds_drop e h) k = holds_drop e (holds_both h k)
holds_both (holds_keep e h) k = holds_keep e (holds_both h k)

pub solid_holds : {fr : List Placed} {us : Tokens} → Holds fr us → (x : List Placed) → solid (fr ++ x) ≡ plain us ++ solid x
solid_holds holds_none x = refl
solid_holds (holds_drop {t = t} {place = place} {fr = fr} e h) x = solid_dropped t place (fr ++ x) e ∙ solid_holds h x
solid_holds (holds_keep {t = t} {place = place} {fr = fr} e h) x = solid_kept t place (fr ++ x) e ∙ ap (λ l. t ∷ l) (solid_holds h x)

-- the tokens, all at one place
unfoldable pub placed : Place → Tokens → List Placed
placed place [] = []
placed place (u ∷ us) = (u.0, place) ∷ placed place us

pub holds_placed : (place : Place) (ts : Tokens) → AreSolid ts → Holds (placed place ts) ts
unfolding placed
holds_placed place [] h = holds_none
holds_placed place ((u, n) ∷ us) h = holds_keep h.0 (holds_placed place us h.1)

-- comments are a file
data Remarks : List Placed → Type 0 where
  no_remark : Remarks []
  remark : {t : Token} {place : Place} {rest : List Placed} → is_comment t ≡ true → Remarks rest → Remarks ((t, place) ∷ rest)

record Rest (style : Style) (raw : List Placed) : Type 0 where
  items : List Item
  spells : IsFile style items raw []

remark_file : (style : Style) (t : Token) (place : Place) (rest : List Placed) (items : List Item) → is_comment t ≡ true → IsFile style items rest [] → Rest style ((t, place) ∷ rest)
remark_file style t place rest items e h =
    let c = comment_text t e in
    let here : Rest style ((Comment c.0, place) ∷ rest) = record { items = it.Comment c.0 ∷ items; spells = comment h } in subst (λ u. Rest style ((u, place) ∷ rest)) (sym c.1) here

rest_of : {style : Style} {raw : List Placed} → Remarks raw → Rest style raw
rest_of no_remark = record { items = []; spells = end_of_file }
rest_of {style = style} (remark {t = t} {place = place} {rest = rest} e h) = let r = rest_of {style = style} h in remark_file style t place rest r.items e r.spells

-- the list through its last token
record Last (raw : List Placed) (us : Tokens) : Type 0 where
  rest : List Placed
  through : Through raw rest us []
  others : Remarks rest

remarks_of : {fr : List Placed} {us : Tokens} → Holds fr us → us ≡ [] → Remarks fr
remarks_of holds_none e = no_remark
remarks_of (holds_drop e h) k = remark e (remarks_of h k)
remarks_of (holds_keep e h) k = cc

last_of_keep : {fr : List Placed} (t : Token) (place : Place) (n : ℕ) (us : Tokens) → is_comment t ≡ false → Holds fr us → ((u : Nested Token) (more : Tokens) → us ≡ u ∷ more → Last fr us) → (vs : Tokens) → us ≡ vs → Last ((t, place) ∷ fr) ((t, n) ∷ us)
last_of_keep {fr = fr} t place n us e h again [] k = subst (λ l. Last ((t, place) ∷ fr) ((t, n) ∷ l)) (sym k) (record { rest = fr; through = last_token e; others = remarks_of h k })
last_of_keep t place n us e h again (u ∷ more) k = let l = again u more k in record { rest = l.rest; through = token e l.through; others = l.others }

last_of : {fr : List Placed} {us : Tokens} → Holds fr us → (u : Nested Token) (more : Tokens) → us ≡ u ∷ more → Last fr us
last_of holds_none u more k = cc
last_of (holds_drop {t = t} {place = place} {fr = fr} {us = us} e h) u more k = let l = last_of h u more k in record { rest = l.rest; through = through_drop t place fr l.rest us [] e l.through; others = l.others }
last_of (holds_keep {t = t} {place = place} {n = n} {fr = fr} {us = us} e h) u more k = last_of_keep t place n us e h (last_of h) us refl

-- an item has a second token
pub record Second (us : Tokens) : Type 0 where
  pub head : Nested Token
  pub more : Tokens
  pub is : us ≡ head ∷ more

tail_of : Tokens → Tokens
tail_of [] = []
tail_of (t ∷ ts) = ts

pub second_of : {style : Style} {place : Place} {i : Item} {ts rest : Tokens} → IsItem style place i ts rest → (t : Nested Token) (us : Tokens) → ts ≡ t ∷ us → Second us
unfolding tail_of
second_of (g.annotated {ts = ts} e has h j k x) t us is = record { head = _; more = ts; is = sym (ap tail_of is) }
second_of (g.include {f = f} {ts = ts} e h) t us is = record { head = _; more = _; is = sym (ap tail_of is) }

-- the item, and the comments behind it
pub record Whole (style : Style) (raw : List Placed) (us : Tokens) : Type 0 where
  pub items : List Item
  pub spells : IsFile style items raw us

pub whole_of : (style : Style) (place : Place) (i : Item) (t : Token) (n : ℕ) (raw : List Placed) (us : Tokens) → IsItem style place i ((t, n) ∷ us) [] → Holds raw us → Whole style ((t, place) ∷ raw) ((t, n) ∷ us)
whole_of style place i t n raw us h k =
    let s = second_of h (t, n) us refl in
    let l = last_of k s.head s.more s.is in
    let r = rest_of {style = style} l.others in
    record { items = i ∷ r.items; spells = input h l.through r.spells }

-- ---- what was read, found among the comments

-- the tokens before the rest, through the last of them
pub record Taken (raw : List Placed) (us : Tokens) (left : List Token) : Type 0 where
  pub fr : List Placed
  pub rest : List Placed
  pub text : raw ≡ fr ++ rest
  pub ends : Ends fr us
  pub left_is : solid rest ≡ left

-- the tokens before the rest, and the comments behind them
pub record Passed (raw : List Placed) (us : Tokens) (left : List Token) : Type 0 where
  pub fr : List Placed
  pub rest : List Placed
  pub text : raw ≡ fr ++ rest
  pub holds : Holds fr us
  pub begins : BeginsSolid rest
  pub left_is : solid rest ≡ left

module _ (left : List Token) where
  -- at a token that is no comment
  taken_keep : (t : Token) (place : Place) (raw : List Placed) (n : ℕ) (us : Tokens) → is_comment t ≡ false → solid raw ≡ plain us ++ left → ((u : Nested Token) (more : Tokens) → us ≡ u ∷ more → Taken raw us left) → (vs : Tokens) → us ≡ vs → Taken ((t, place) ∷ raw) ((t, n) ∷ us) left
  taken_keep t place raw n us e k again [] is =
      subst (λ l. Taken ((t, place) ∷ raw) ((t, n) ∷ l) left) (sym is) (record { fr = (t, place) ∷ []; rest = raw; text = refl; ends = ends_here e; left_is = subst (λ l. solid raw ≡ plain l ++ left) is k })
  taken_keep t place raw n us e k again (u ∷ more) is = let r = again u more is in record { fr = (t, place) ∷ r.fr; rest = r.rest; text = ap (λ l. (t, place) ∷ l) r.text; ends = ends_keep e r.ends; left_is = r.left_is }

  taken_at : (b : Bool) (t : Token) (place : Place) (raw : List Placed) (u : Nested Token) (us : Tokens) → is_comment t ≡ b → solid ((t, place) ∷ raw) ≡ u.0 ∷ (plain us ++ left)
      → ((v : Nested Token) (vs : Tokens) → solid raw ≡ v.0 ∷ (plain vs ++ left) → Taken raw (v ∷ vs) left) → Taken ((t, place) ∷ raw) (u ∷ us) left
  taken_at true t place raw u us e k again =
      let r = again u us (sym (solid_dropped t place raw e) ∙ k) in record { fr = (t, place) ∷ r.fr; rest = r.rest; text = ap (λ l. (t, place) ∷ l) r.text; ends = ends_drop e r.ends; left_is = r.left_is }
  taken_at false t place raw u us e k again =
      let both : t ∷ solid raw ≡ u.0 ∷ (plain us ++ left) = sym (solid_kept t place raw e) ∙ k in
      let same : t ≡ u.0 = cc in
      let others : solid raw ≡ plain us ++ left = cc in
      subst (λ v. Taken ((t, place) ∷ raw) ((v, u.1) ∷ us) left) same (taken_keep t place raw u.1 us e others (λ v vs is. subst (λ l. Taken raw l left) (sym is) (again v vs (others ∙ ap (λ l. plain l ++ left) is))) us refl)

  pub taken : (raw : List Placed) (u : Nested Token) (us : Tokens) → solid raw ≡ u.0 ∷ (plain us ++ left) → Taken raw (u ∷ us) left
  taken [] u us e = cc
  taken (entry ∷ raw) u us e = taken_at (is_comment entry.0) entry.0 entry.1 raw u us refl e (λ v vs k. taken raw v vs k)

  passed_drop : (t : Token) (place : Place) (raw : List Placed) (us : Tokens) → is_comment t ≡ true → Passed raw us left → Passed ((t, place) ∷ raw) us left
  passed_drop t place raw us e r = record { fr = (t, place) ∷ r.fr; rest = r.rest; text = ap (λ l. (t, place) ∷ l) r.text; holds = holds_drop e r.holds; begins = r.begins; left_is = r.left_is }

  passed_at : (b : Bool) (t : Token) (place : Place) (raw : List Placed) (us : Tokens) → is_comment t ≡ b → solid ((t, place) ∷ raw) ≡ plain us ++ left → ((vs : Tokens) → solid raw ≡ plain vs ++ left → Passed raw vs left) → Passed ((t, place) ∷ raw) us left
  passed_at true t place raw us e k again = passed_drop t place raw us e (again us (sym (solid_dropped t place raw e) ∙ k))
  passed_at false t place raw [] e k again = record { fr = []; rest = (t, place) ∷ raw; text = refl; holds = holds_none; begins = e; left_is = k }
  passed_at false t place raw (u ∷ us) e k again =
      let both : t ∷ solid raw ≡ u.0 ∷ (plain us ++ left) = sym (solid_kept t place raw e) ∙ k in
      let same : t ≡ u.0 = cc in
      let others : solid raw ≡ plain us ++ left = cc in
      let r = again us others in
      let here : Passed ((t, place) ∷ raw) ((t, u.1) ∷ us) left = record { fr = (t, place) ∷ r.fr; rest = r.rest; text = ap (λ l. (t, place) ∷ l) r.text; holds = holds_keep e r.holds; begins = r.begins; left_is = r.left_is } in
      subst (λ v. Passed ((t, place) ∷ raw) ((v, u.1) ∷ us) left) same here

  passed_end : (us : Tokens) → [] ≡ plain us ++ left → Passed [] us left
  passed_end [] k = record { fr = []; rest = []; text = refl; holds = holds_none; begins = tt; left_is = k }
  passed_end (u ∷ us) k = cc

  pub passed : (raw : List Placed) (us : Tokens) → solid raw ≡ plain us ++ left → Passed raw us left
  passed [] us e = passed_end us e
  passed (entry ∷ raw) us e = passed_at (is_comment entry.0) entry.0 entry.1 raw us refl e (λ vs k. passed raw vs k)
