-- An item's tokens end with its first dot, so that it is read from the tokens through a dot as from all.
use Rattle.std.proofs.Common.{◌≡◌, Bool, true, false, if◌then◌else◌, ℕ, ◌≤◌, List, [], ◌∷◌, ◌++◌, length, Ok, Err, inl, inr, refl, sym, ◌∙◌, ap, subst, append_assoc, append-nil, length-append, arith}
use Rattle.first_fault.specs.Nesting.{Nested, plain, Within}
use Rattle.first_fault.specs.code.Reading.{Cause, Outcome, next}
use Rattle.first_fault.proofs.Exact.{Exact, IsRead, IsFault, plain-append, within-append}
use Rattle.first_fault.proofs.Found.{Found}
use Rattle.tptp_lexer.specs.declared.style.Style.{Style}
use Rattle.tptp_lexer.specs.declared.token.Token.{Token}
use Rattle.tptp_lexer.specs.declared.token.Token.TheVariants.{Mark as Sign}
use Rattle.tptp_lexer.specs.declared.token.Mark.TheVariants as m
use Rattle.tptp_base.specs.declared.place.Place.{Place}
use Rattle.tptp_base.specs.declared.item.Item.{Item}
use Rattle.tptp_grammar.specs.Tokens.{Tokens}
use Rattle.tptp_grammar.specs.Items.{IsItem}
use Rattle.tptp_grammar.specs.Solid.{Placed, solid}
use Rattle.tptp_lexer.specs.Dots.{is_comment, is_dot, through_dot, behind_dot}
use Rattle.tptp_grammar.specs.code.ReadItems.{item}
use Rattle.tptp_grammar.specs.code.ReadFile.{with_item, file}
use Rattle.tptp_grammar.proofs.SolidItems.{DotTo, dot, earlier, no_dot, of_item}
use Rattle.tptp_grammar.proofs.ExactItems.{good_item}
use Rattle.tptp_grammar.proofs.ExactFile.{Ends, ends_here, ends_drop, ends_keep, comment_text, solid_kept, solid_dropped, item_read}
use Rattle.tptp_grammar.proofs.FirstFaults.{some_item}
use Rattle.tptp_grammar.proofs.Overs.{not_over}

-- ---- the tokens through a dot, and those behind it

dot_no_comment : (t : Token) → is_comment t ≡ true → is_dot t ≡ false
dot_no_comment t e = let c = comment_text t e in ap is_dot c.1

through_by : (b d : Bool) (t : Token) (place : Place) (rest : List Placed) → is_comment t ≡ b → is_dot t ≡ d
    → through_dot ((t, place) ∷ rest) ≡ (if b then through_dot rest else (if d then t ∷ [] else t ∷ through_dot rest))
through_by b d t place rest e k = ap (λ c. if c then through_dot rest else (if is_dot t then t ∷ [] else t ∷ through_dot rest)) e ∙ ap (λ c. if b then through_dot rest else (if c then t ∷ [] else t ∷ through_dot rest)) k

behind_by : (d : Bool) (t : Token) (place : Place) (rest : List Placed) → is_dot t ≡ d → behind_dot ((t, place) ∷ rest) ≡ (if d then rest else behind_dot rest)
behind_by d t place rest k = ap (λ c. if c then rest else behind_dot rest) k

split_at : (b d : Bool) (t : Token) (place : Place) (rest : List Placed) → is_comment t ≡ b → is_dot t ≡ d → solid rest ≡ through_dot rest ++ solid (behind_dot rest)
    → solid ((t, place) ∷ rest) ≡ through_dot ((t, place) ∷ rest) ++ solid (behind_dot ((t, place) ∷ rest))
split_at true d t place rest e k h =
    let none = dot_no_comment t e in
    solid_dropped t place rest e ∙ h ∙ sym (ap (λ l. l ++ solid (behind_dot ((t, place) ∷ rest))) (through_by true d t place rest e k) ∙ ap (λ l. through_dot rest ++ solid l) (behind_by false t place rest none))
split_at false true t place rest e k h =
    solid_kept t place rest e ∙ sym (ap (λ l. l ++ solid (behind_dot ((t, place) ∷ rest))) (through_by false true t place rest e k) ∙ ap (λ l. t ∷ solid l) (behind_by true t place rest k))
split_at false false t place rest e k h =
    solid_kept t place rest e ∙ ap (λ l. t ∷ l) h ∙ sym (ap (λ l. l ++ solid (behind_dot ((t, place) ∷ rest))) (through_by false false t place rest e k) ∙ ap (λ l. t ∷ (through_dot rest ++ solid l)) (behind_by false t place rest k))

pub solid_split : (ts : List Placed) → solid ts ≡ through_dot ts ++ solid (behind_dot ts)
solid_split [] = refl
solid_split (entry ∷ rest) = split_at (is_comment entry.0) (is_dot entry.0) entry.0 entry.1 rest refl refl (solid_split rest)

-- what stands before what follows the dot
behind_at : (d : Bool) (entry : Placed) (rest : List Placed) → is_dot entry.0 ≡ d → (front : List Placed) × (rest ≡ front ++ behind_dot rest) → (front : List Placed) × (entry ∷ rest ≡ front ++ behind_dot (entry ∷ rest))
behind_at true entry rest k again = (entry ∷ [], ap (λ l. entry ∷ l) (sym (behind_by true entry.0 entry.1 rest k)))
behind_at false entry rest k (front, is) = (entry ∷ front, ap (λ l. entry ∷ l) (is ∙ ap (λ l. front ++ l) (sym (behind_by false entry.0 entry.1 rest k))))

pub behind_split : (ts : List Placed) → (front : List Placed) × (ts ≡ front ++ behind_dot ts)
behind_split [] = ([], refl)
behind_split (entry ∷ rest) = behind_at (is_dot entry.0) entry rest refl (behind_split rest)

-- ---- an item ends with a dot

dot_split : {ts rest : Tokens} → DotTo ts rest → (front : Tokens) × (n : ℕ) × (ts ≡ front ++ ((Sign m.Dot, n) ∷ rest))
dot_split (dot {n = n}) = ([], n, refl)
dot_split (earlier {u = u} {n = k} e h) = let (front, n, is) = dot_split h in ((u, k) ∷ front, n, ap (λ l. (u, k) ∷ l) is)

-- ---- tokens through a dot end with it

record Dotted (ts : List Placed) (left : List Token) : Type 0 where
  front : List Placed
  taken : Tokens
  no_more : left ≡ []
  text : ts ≡ front ++ behind_dot ts
  ends : Ends front taken

dotted_last : (t : Token) (xs left : List Token) → t ∷ [] ≡ xs ++ (Sign m.Dot ∷ left) → left ≡ []
dotted_last t [] left e = cc
dotted_last t (x ∷ []) left e = cc
dotted_last t (x ∷ y ∷ xs) left e = cc

dotted_at : (b d : Bool) (t : Token) (place : Place) (ts : List Placed) (left : List Token) → is_comment t ≡ b → is_dot t ≡ d → ((ys : List Token) → through_dot ts ≡ ys ++ (Sign m.Dot ∷ left) → Dotted ts left)
    → (xs : List Token) → through_dot ((t, place) ∷ ts) ≡ xs ++ (Sign m.Dot ∷ left) → Dotted ((t, place) ∷ ts) left
dotted_at true d t place ts left e k again xs is =
    let r = again xs (sym (through_by true d t place ts e k) ∙ is) in
    let more = behind_by false t place ts (dot_no_comment t e) in
    record { front = (t, place) ∷ r.front; taken = r.taken; no_more = r.no_more; text = ap (λ l. (t, place) ∷ l) (r.text ∙ ap (λ l. r.front ++ l) (sym more)); ends = ends_drop e r.ends }
dotted_at false true t place ts left e k again xs is =
    let more = behind_by true t place ts k in
    record { front = (t, place) ∷ []; taken = (t, 0) ∷ []; no_more = dotted_last t xs left (sym (through_by false true t place ts e k) ∙ is); text = ap (λ l. (t, place) ∷ l) (sym more); ends = ends_here e }
dotted_at false false t place ts left e k again [] is =
    let both : t ∷ through_dot ts ≡ Sign m.Dot ∷ left = sym (through_by false false t place ts e k) ∙ is in
    let same : t ≡ Sign m.Dot = cc in
    let yes : is_dot t ≡ true = ap is_dot same in
    cc
dotted_at false false t place ts left e k again (x ∷ xs) is =
    let both : t ∷ through_dot ts ≡ x ∷ (xs ++ (Sign m.Dot ∷ left)) = sym (through_by false false t place ts e k) ∙ is in
    let others : through_dot ts ≡ xs ++ (Sign m.Dot ∷ left) = cc in
    let r = again xs others in
    let more = behind_by false t place ts k in
    record { front = (t, place) ∷ r.front; taken = (t, 0) ∷ r.taken; no_more = r.no_more; text = ap (λ l. (t, place) ∷ l) (r.text ∙ ap (λ l. r.front ++ l) (sym more)); ends = ends_keep e r.ends }

dotted : (ts : List Placed) (left xs : List Token) → through_dot ts ≡ xs ++ (Sign m.Dot ∷ left) → Dotted ts left
dotted [] left [] is = cc
dotted [] left (x ∷ xs) is = cc
dotted (entry ∷ ts) left xs is = dotted_at (is_comment entry.0) (is_dot entry.0) entry.0 entry.1 ts left refl refl (λ ys k. dotted ts left ys k) xs is

-- ---- where tokens go on behind the dot, it is the last one through it

data Closed : List Token → Type 0 where
  dot_here : Closed (Sign m.Dot ∷ [])
  dot_later : {t : Token} {ts : List Token} → is_dot t ≡ false → Closed ts → Closed (t ∷ ts)

dot_alone : (t : Token) → is_dot t ≡ true → Closed (t ∷ [])
dot_alone (Sign m.Dot) e = dot_here
dot_alone t e = cc

closed_at : (b d : Bool) (t : Token) (place : Place) (ts : List Placed) → is_comment t ≡ b → is_dot t ≡ d → ((behind_dot ts ≡ [] → ⊥) → Closed (through_dot ts)) → (behind_dot ((t, place) ∷ ts) ≡ [] → ⊥) → Closed (through_dot ((t, place) ∷ ts))
closed_at true d t place ts e k again more =
    let same = behind_by false t place ts (dot_no_comment t e) in
    subst Closed (sym (through_by true d t place ts e k)) (again (λ none. more (same ∙ none)))
closed_at false true t place ts e k again more = subst Closed (sym (through_by false true t place ts e k)) (dot_alone t k)
closed_at false false t place ts e k again more =
    let same = behind_by false t place ts k in
    subst Closed (sym (through_by false false t place ts e k)) (dot_later k (again (λ none. more (same ∙ none))))

through_closed : (ts : List Placed) → (behind_dot ts ≡ [] → ⊥) → Closed (through_dot ts)
through_closed [] more = absurd (more refl)
through_closed (entry ∷ ts) more = closed_at (is_comment entry.0) (is_dot entry.0) entry.0 entry.1 ts refl refl (λ k. through_closed ts k) more

no_tokens : (us : Tokens) → plain us ≡ [] → us ≡ []
no_tokens [] e = refl
no_tokens (u ∷ us) e = cc

-- what follows these tokens follows their dot
dot_last : {ts rest : Tokens} {xs : List Token} → DotTo ts rest → Closed xs → (us more : Tokens) → ts ≡ us ++ more → plain us ≡ xs → more ≡ rest
dot_last h dot_here [] more is same = cc
dot_last h (dot_later e k) [] more is same = cc
dot_last (dot {n = n} {rest = rest}) dot_here (u ∷ us) more is same =
    let none : us ≡ [] = no_tokens us (let others : plain us ≡ [] = cc in others) in
    let whole : rest ≡ us ++ more = cc in
    sym (whole ∙ ap (λ l. l ++ more) none)
dot_last (dot {n = n} {rest = rest}) (dot_later {t = t} e k) (u ∷ us) more is same =
    let head : (Sign m.Dot, n) ≡ u = cc in
    let first : u.0 ≡ t = cc in
    let this : Sign m.Dot ≡ t = ap (λ (v : Nested Token). v.0) head ∙ first in
    let yes : true ≡ is_dot t = ap is_dot this in
    absurd (let wrong : true ≡ false = yes ∙ e in cc)
dot_last (earlier {u = v} {n = n} e h) dot_here (u ∷ us) more is same =
    let head : (v, n) ≡ u = cc in
    let first : u.0 ≡ Sign m.Dot = cc in
    let this : v ≡ Sign m.Dot = ap (λ (w : Nested Token). w.0) head ∙ first in
    let yes : is_dot v ≡ true = ap is_dot this in
    absurd (let wrong : true ≡ false = sym yes ∙ no_dot v e in cc)
dot_last (earlier {ts = vs} e h) (dot_later {ts = ys} k c) (u ∷ us) more is same =
    let whole : vs ≡ us ++ more = cc in
    let others : plain us ≡ ys = cc in
    dot_last h c us more whole others

-- ---- what follows the dot

levelled : List Token → Tokens
levelled [] = []
levelled (t ∷ ts) = (t, 0) ∷ levelled ts

plain_levelled : (ts : List Token) → plain (levelled ts) ≡ ts
unfolding levelled
plain_levelled [] = refl
plain_levelled (t ∷ ts) = ap (λ l. t ∷ l) (plain_levelled ts)

within_levelled : (room : ℕ) (ts : List Token) → Within room (levelled ts)
unfolding levelled
within_levelled room [] = tt
within_levelled room (t ∷ ts) = (omega arith, within_levelled room ts)

module _ (style : Style) (room : ℕ) (t : Token) (place : Place) (ts : List Placed) where
  abbrev Longer : Item → Type 0
  Longer value = item style room place (t ∷ solid ts) ≡ Ok (value, solid (behind_dot ts))

  longer : (value : Item) (us : Tokens) → Within room us → t ∷ through_dot ts ≡ plain us → ((after : Tokens) → IsItem style place value (us ++ after) after) → Longer value
  longer value us within text spells =
      let after = levelled (solid (behind_dot ts)) in
      let same : plain after ≡ solid (behind_dot ts) = plain_levelled (solid (behind_dot ts)) in
      let whole : plain (us ++ after) ≡ t ∷ solid ts = plain-append us after ∙ ap (λ l. l ++ plain after) (sym text) ∙ ap (λ l. t ∷ (through_dot ts ++ l)) same ∙ ap (λ l. t ∷ l) (sym (solid_split ts)) in
      let found : Found room (item style room place) value (us ++ after) after = (good_item style room room (omega arith) place).found value (us ++ after) after (spells after) refl in
      elim found [
        | inl h ↦ ap (item style room place) (sym whole) ∙ h.1 ∙ ap (λ l. Ok (value, l)) same
        | inr h ↦ absurd (not_over h.1 (within-append room us after within (within_levelled room (solid (behind_dot ts)))))
      ]

  module _ (kept : is_comment t ≡ false) where
    by_front : (value : Item) (left : List Token) (front : Tokens) → Within room front → t ∷ through_dot ts ≡ plain front ++ left → ((after : Tokens) → IsItem style place value (front ++ after) after)
        → file style room ((t, place) ∷ ts) ≡ with_item value (file style room (behind_dot ts))
    by_front value left [] within text spells = absurd (some_item (spells []) refl)
    by_front value left (u ∷ us) within text spells =
        let others : through_dot ts ≡ plain us ++ left = cc in
        let (front, n, is) = dot_split (of_item (spells [])) in
        let last : plain us ≡ plain front ++ (Sign m.Dot ∷ []) = ap plain (sym (append-nil us) ∙ is) ∙ plain-append front ((Sign m.Dot, n) ∷ []) in
        let c = dotted ts left (plain front) (others ∙ ap (λ l. l ++ left) last ∙ append_assoc (plain front) (Sign m.Dot ∷ []) left) in
        let short : t ∷ through_dot ts ≡ plain (u ∷ us) = text ∙ ap (λ l. plain (u ∷ us) ++ l) c.no_more ∙ append-nil (plain (u ∷ us)) in
        let long = longer value (u ∷ us) within short spells in
        ap (λ l. file style room ((t, place) ∷ l)) c.text ∙ item_read style room t place c.front (behind_dot ts) c.taken value kept c.ends (ap (λ l. item style room place (t ∷ solid l)) (sym c.text) ∙ long)

    -- an item that is read
    pub read_through : (value : Item) (left : List Token) → item style room place (t ∷ through_dot ts) ≡ Ok (value, left) → file style room ((t, place) ∷ ts) ≡ with_item value (file style room (behind_dot ts))
    read_through value left e =
        let h : IsRead (item style room place) (IsItem style place) room value (t ∷ through_dot ts) left =
        subst (Exact (item style room place) (IsItem style place) room (t ∷ through_dot ts)) e ((good_item style room room (omega arith) place).exact (t ∷ through_dot ts)) in
        by_front value left h.front h.within h.text h.spells

  stopped_at : (cause : Cause) (left : List Token) → item style room place (t ∷ through_dot ts) ≡ Err (cause, left) → IsFault (item style room place) (IsItem style place) room cause (t ∷ through_dot ts) left
  stopped_at cause left e = subst (Exact (item style room place) (IsItem style place) room (t ∷ through_dot ts)) e ((good_item style room room (omega arith) place).exact (t ∷ through_dot ts))

  -- an item that ends with these tokens is read
  not_closed : (value : Item) (front : Tokens) (on : Tokens → Tokens) → Within room front → t ∷ through_dot ts ≡ plain front → ((after : Tokens) → IsItem style place value (front ++ on after) after) → Closed (through_dot ts)
      → (cause : Cause) (left : List Token) → item style room place (t ∷ through_dot ts) ≡ Err (cause, left) → ⊥
  not_closed value [] on within text spells k cause left e = cc
  not_closed value (u ∷ us) on within text spells k cause left e =
      let others : plain us ≡ through_dot ts = cc in
      let last : on [] ≡ [] = dot_last (of_item (spells [])) k us (on []) refl others in
      let whole : IsItem style place value ((u ∷ us) ++ []) [] = subst (λ (l : Tokens). IsItem style place value ((u ∷ us) ++ l) []) last (spells []) in
      let all : plain ((u ∷ us) ++ []) ≡ t ∷ through_dot ts = ap plain (append-nil (u ∷ us)) ∙ sym text in
      let found : Found room (item style room place) value ((u ∷ us) ++ []) [] = (good_item style room room (omega arith) place).found value ((u ∷ us) ++ []) [] whole refl in
      elim found [
        | inl h ↦ (let same : ◌≡◌ {A = Outcome Token Item} (Ok (value, [])) (Err (cause, left)) = sym h.1 ∙ ap (item style room place) all ∙ e in cc)
        | inr h ↦ not_over h.1 (within-append room (u ∷ us) [] within tt)
      ]

  none_behind : (later : List Placed) → behind_dot ts ≡ later → ((behind_dot ts ≡ [] → ⊥) → ⊥) → behind_dot ts ≡ []
  none_behind [] is k = is
  none_behind (entry ∷ later) is k = absurd (k (λ none. (let wrong : entry ∷ later ≡ [] = sym is ∙ none in cc)))

  -- a reader stops before these tokens end, unless all tokens end there
  last_behind : (cause : Cause) (left : List Token) → item style room place (t ∷ through_dot ts) ≡ Err (cause, left) → left ≡ [] → behind_dot ts ≡ []
  last_behind cause left e none =
      let h = stopped_at cause left e in
      let text : t ∷ through_dot ts ≡ plain h.front = h.text ∙ ap (λ l. plain h.front ++ l) none ∙ append-nil (plain h.front) in
      none_behind (behind_dot ts) refl (λ more. not_closed h.value h.front h.on h.within text h.spells (through_closed ts more) cause left e)

  next_longer : (left : List Token) → (left ≡ [] → behind_dot ts ≡ []) → next (left ++ solid (behind_dot ts)) ≡ next left
  next_longer [] last = ap (λ l. next (solid l)) (last refl)
  next_longer (u ∷ left) last = refl

  -- an item that is not read
  pub fails_through : (cause : Cause) (left : List Token) → item style room place (t ∷ through_dot ts) ≡ Err (cause, left) → item style room place (t ∷ solid ts) ≡ Err (cause, left ++ solid (behind_dot ts))
  fails_through cause left e =
      let h = stopped_at cause left e in
      let whole : t ∷ solid ts ≡ plain h.front ++ (left ++ solid (behind_dot ts)) =
      ap (λ l. t ∷ l) (solid_split ts) ∙ ap (λ l. l ++ solid (behind_dot ts)) h.text ∙ append_assoc (plain h.front) left (solid (behind_dot ts)) in
      ap (item style room place) whole ∙ h.again (left ++ solid (behind_dot ts)) (next_longer left (last_behind cause left e))

  pub left_fits : (cause : Cause) (left : List Token) → item style room place (t ∷ through_dot ts) ≡ Err (cause, left) → length left ≤ length (t ∷ through_dot ts)
  left_fits cause left e = let h = stopped_at cause left e in omega (arith, ap length h.text, length-append (plain h.front) left)

-- the list gets shorter
pub behind_shorter : (ts : List Placed) → length (behind_dot ts) ≤ length ts
behind_shorter ts = let (front, is) = behind_split ts in omega (arith, ap length is, length-append front (behind_dot ts))
