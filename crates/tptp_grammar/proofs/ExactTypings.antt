-- The readers of shapes and type lines are exact and find all that is derived.
use Rattle.std.proofs.Common.{◌≡◌, Bool, true, false, ℕ, zero, suc, ◌+◌, ◌≤◌, List, [], ◌∷◌, Option, Some, Ok, inl, refl, sym, ap, subst, codes, arith}
use Rattle.std.specs.Str.{bytes_eq}
use Rattle.first_fault.specs.Nesting.{plain}
use Rattle.first_fault.proofs.NestingFacts.{done, before}
use Rattle.first_fault.specs.code.Reading.{Reader, next, closed, opened}
use Rattle.first_fault.proofs.Exact.{Exact, Inhabited, exact_done, exact_stop, exact_token}
use Rattle.first_fault.proofs.Found.{Found, found_as}
use Rattle.first_fault.proofs.Good.{Good, GoodAt, After, after, Both, both, widen, alike, good_both, good_choice, good_map, behind_token, over_token, unmapped, always}
use Rattle.tptp_lexer.specs.declared.token.Token.{Token}
use Rattle.tptp_lexer.specs.declared.token.Token.TheVariants.{Lower, Quoted, Dollar, Mark as Sign}
use Rattle.tptp_lexer.specs.declared.token.Mark.TheVariants as m
use Rattle.tptp_base.specs.declared.surface.SortName.{SortName}
use Rattle.tptp_base.specs.declared.surface.SortName.TheVariants as sort
use Rattle.tptp_base.specs.declared.item.Shape.{Shape}
use Rattle.tptp_base.specs.declared.item.Shape.TheVariants as sh
use Rattle.tptp_base.specs.declared.item.Typing.{Typing}
use Rattle.tptp_grammar.specs.Tokens.{Text, Tokens, word}
use Rattle.tptp_grammar.specs.Types as g
use Rattle.tptp_grammar.specs.Types.{IsArgumentSort, IsShape, IsTyping}
use Rattle.tptp_grammar.specs.code.ReadTerms.{is_mark}
use Rattle.tptp_grammar.specs.code.ReadTypes.{argument_sort, map_from, map_open, after_sort_at, after_sort, from_sort, shape_at, shape, typing_of, typed, typing_at, typing_by, typing_open, typing}
use Rattle.tptp_grammar.proofs.Marks.{text_is, good_in, good_behind}
use Rattle.tptp_grammar.proofs.ExactSorts.{MapFrom, OpenMap, SortHead, arrow, good_argument_sort, good_map_from, good_map_open, head_of_sort, in_map, in_product, individual, lower, of_open, quoted}

-- ---- shapes

abbrev pub ends_shape : Option Token → Bool
ends_shape (Some (Sign m.Greater)) = false
ends_shape _ = true

data AfterSort (d : ℕ) (a : SortName) : Shape → Tokens → Tokens → Type 0 where
  to_map : {s : Shape} {ts rest : Tokens} → MapFrom d (a ∷ []) s ts rest → AfterSort d a s ts rest
  alone : {rest : Tokens} → AfterSort d a (sh.Symbol [] a) rest rest

join_shape : (d : ℕ) (s : Shape) (ts rest : Tokens) → Both (IsArgumentSort d) (AfterSort d) s ts rest → IsShape d s ts rest
join_shape d s ts rest (both h (to_map (arrow k))) = g.map (g.map_of_one h k)
join_shape d s ts rest (both h alone) = g.sort_of_constant (g.argument_sort h)

some_shape : (d : ℕ) → Inhabited (IsShape d)
some_shape d = record { value = sh.Symbol [] (sort.Word []); text = λ rest. (Lower [], d) ∷ rest; spells = λ rest. g.sort_of_constant (g.argument_sort (g.named_sort refl)) }

module _ (d limit : ℕ) (fits : d ≤ limit) (a : SortName) where
  exact_after_sort : (ts : List Token) → Exact (after_sort_at a (next ts)) (AfterSort d a) limit ts (after_sort_at a (next ts) ts)
  exact_after_sort (Sign m.Greater ∷ ts) = widen (map_from (a ∷ [])) (MapFrom d (a ∷ [])) (AfterSort d a) limit (λ s us rest h. to_map h) (Sign m.Greater ∷ ts) (map_from (a ∷ []) (Sign m.Greater ∷ ts)) ((good_map_from d limit fits (a ∷ [])).exact (Sign m.Greater ∷ ts))
  exact_after_sort ts = exact_done (after_sort_at a (next ts)) (AfterSort d a) limit ts (sh.Symbol [] a) (λ rest. alone) (λ other e. refl)

  after_sort_ends : (h : Option Token) → ends_shape h ≡ true → (ts : List Token) → after_sort_at a h ts ≡ Ok (sh.Symbol [] a, ts)
  after_sort_ends (Some (Sign m.Greater)) e ts = cc
  after_sort_ends h e ts = refl

  found_after_sort : (s : Shape) (ts rest : Tokens) → AfterSort d a s ts rest → ends_shape (next (plain rest)) ≡ true → Found limit (after_sort_at a (next (plain ts))) s ts rest
  found_after_sort s ts rest (to_map (arrow {mid = mid} h)) e = (good_map_from d limit fits (a ∷ [])).found s ((Sign m.Greater, d) ∷ mid) rest (arrow h) refl
  found_after_sort s ts rest alone e = inl (done, after_sort_ends (next (plain rest)) e (plain rest))

  good_after_sort : Good limit (after_sort a) (AfterSort d a) ends_shape
  unfolding after_sort
  good_after_sort = good_choice limit (after_sort a) (after_sort_at a) (AfterSort d a) ends_shape (λ us. refl) exact_after_sort found_after_sort (record { value = sh.Symbol [] a; text = λ rest. rest; spells = λ rest. alone })

sorts_read : (room : ℕ) (w : Text) → w ≡ codes "$tType" → (us : List Token) → shape_at room (Some (Dollar w)) (Dollar w ∷ us) ≡ Ok (sh.Sort, us)
sorts_read room w e us = subst (λ v. shape_at room (Some (Dollar v)) (Dollar w ∷ us) ≡ Ok (sh.Sort, us)) (sym e) refl

truths_read : (room : ℕ) (w : Text) → w ≡ codes "$o" → (us : List Token) → shape_at room (Some (Dollar w)) (Dollar w ∷ us) ≡ Ok (sh.Symbol [] sort.Truth, us)
truths_read room w e us = subst (λ v. shape_at room (Some (Dollar v)) (Dollar w ∷ us) ≡ Ok (sh.Symbol [] sort.Truth, us)) (sym e) refl

shape_individual : (room : ℕ) (w : Text) → w ≡ codes "$i" → (us : List Token) → shape_at room (Some (Dollar w)) us ≡ from_sort us
shape_individual room w e us = subst (λ v. shape_at room (Some (Dollar v)) us ≡ from_sort us) (sym e) refl

shape_dollar : (room : ℕ) (w : Text) → bytes_eq w (codes "$tType") ≡ false → bytes_eq w (codes "$o") ≡ false → (us : List Token) → shape_at room (Some (Dollar w)) us ≡ from_sort us
shape_dollar room w first second us = rw (first, second) refl

module _ (room d limit : ℕ) (e : limit ≡ d + room) where
  good_from_sort : Good limit from_sort (Both (IsArgumentSort d) (AfterSort d)) ends_shape
  good_from_sort = good_both limit argument_sort after_sort (IsArgumentSort d) (AfterSort d) always ends_shape (λ x v mid rest h k. refl) (good_argument_sort d limit (omega arith)) (λ a can. good_after_sort d limit (omega arith) a)

  exact_shape_dollar : (w : Text) (b c : Bool) → bytes_eq w (codes "$tType") ≡ b → bytes_eq w (codes "$o") ≡ c → (ts : List Token) → Exact (shape_at room (Some (Dollar w))) (IsShape d) limit (Dollar w ∷ ts) (shape_at room (Some (Dollar w)) (Dollar w ∷ ts))
  exact_shape_dollar w true c k l ts =
      let is = text_is w (codes "$tType") k in
      subst (Exact (shape_at room (Some (Dollar w))) (IsShape d) limit (Dollar w ∷ ts)) (sym (sorts_read room w is ts))
      (exact_token (shape_at room (Some (Dollar w))) (IsShape d) limit (Dollar w) d sh.Sort (omega arith) (λ rest. g.sort_of_sorts is) (sorts_read room w is) ts)
  exact_shape_dollar w false true k l ts =
      let is = text_is w (codes "$o") l in
      subst (Exact (shape_at room (Some (Dollar w))) (IsShape d) limit (Dollar w ∷ ts)) (sym (truths_read room w is ts))
      (exact_token (shape_at room (Some (Dollar w))) (IsShape d) limit (Dollar w) d (sh.Symbol [] sort.Truth) (omega arith) (λ rest. g.sort_of_constant (g.truth_values is)) (truths_read room w is) ts)
  exact_shape_dollar w false false k l ts =
      alike (shape_at room (Some (Dollar w))) from_sort (Both (IsArgumentSort d) (AfterSort d)) (IsShape d) limit (shape_dollar room w k l) (join_shape d) (Dollar w ∷ ts) (good_from_sort.exact (Dollar w ∷ ts))

  exact_shape : (ts : List Token) → Exact (shape_at room (next ts)) (IsShape d) limit ts (shape_at room (next ts) ts)
  exact_shape (Sign m.Open ∷ ts) = widen (map_open room) (OpenMap d) (IsShape d) limit (λ s us rest h. g.map (of_open d s us rest h)) (Sign m.Open ∷ ts) (map_open room (Sign m.Open ∷ ts)) ((good_map_open room d limit e).exact ts)
  exact_shape (Dollar w ∷ ts) = exact_shape_dollar w (bytes_eq w (codes "$tType")) (bytes_eq w (codes "$o")) refl refl ts
  exact_shape ts = widen from_sort (Both (IsArgumentSort d) (AfterSort d)) (IsShape d) limit (join_shape d) ts (from_sort ts) (good_from_sort.exact ts)

  shape_by : {h : Option Token} → SortHead h → (ts : List Token) → shape_at room h ts ≡ from_sort ts
  shape_by lower ts = refl
  shape_by quoted ts = refl
  shape_by (individual {w = w} is) ts = shape_individual room w is ts

  found_shape : (s : Shape) (ts rest : Tokens) → IsShape d s ts rest → ends_shape (next (plain rest)) ≡ true → Found limit (shape_at room (next (plain ts))) s ts rest
  found_shape s ts rest (g.sort_of_sorts {w = w} is) k = inl (before (omega arith) done, sorts_read room w is (plain rest))
  found_shape s ts rest (g.sort_of_constant (g.argument_sort h)) k =
      found_as limit (shape_at room (next (plain ts))) from_sort s ts rest (shape_by (head_of_sort h) (plain ts)) (good_from_sort.found s ts rest (both h alone) k)
  found_shape s ts rest (g.sort_of_constant (g.truth_values {w = w} is)) k = inl (before (omega arith) done, truths_read room w is (plain rest))
  found_shape s ts rest (g.map (g.map_of_one h l)) k =
      found_as limit (shape_at room (next (plain ts))) from_sort s ts rest (shape_by (head_of_sort h) (plain ts)) (good_from_sort.found s ts rest (both h (to_map (arrow l))) k)
  found_shape s ts rest (g.map (g.map_of_more h l n)) k = (good_map_open room d limit e).found s ts rest (after (in_product h l n)) refl
  found_shape s ts rest (g.map (g.map_in_parentheses h)) k = (good_map_open room d limit e).found s ts rest (after (in_map h)) refl

  good_shape : Good limit (shape room) (IsShape d) ends_shape
  unfolding shape
  good_shape = good_choice limit (shape room) (shape_at room) (IsShape d) ends_shape (λ us. refl) exact_shape found_shape (some_shape d)

-- ---- type lines

data Typed (d : ℕ) (f : Text) : Typing → Tokens → Tokens → Type 0 where
  typed_as : {s : Shape} {mid rest : Tokens} → IsShape d s mid rest → Typed d f (typing_of f s) ((Sign m.Colon, d) ∷ mid) rest

typed_join : (d : ℕ) (f : Text) (s : Shape) (ts rest : Tokens) → After (Sign m.Colon) d (λ x. x) (IsShape d) s ts rest → Typed d f (typing_of f s) ts rest
typed_join d f s ts rest (after h) = typed_as h

typed_split : (d : ℕ) (f : Text) (t : Typing) (ts rest : Tokens) → Typed d f t ts rest → (s : Shape) × After (Sign m.Colon) d (λ (x : Shape). x) (IsShape d) s ts rest × (typing_of f s ≡ t)
typed_split d f t ts rest (typed_as {s = s} h) = (s, after h, refl)

good_typed : (room d limit : ℕ) → limit ≡ d + room → (f : Text) → Good limit (typed room f) (Typed d f) ends_shape
unfolding typed
good_typed room d limit e f =
    good_map limit (opened (is_mark m.Colon) (shape room)) (typed room f) (After (Sign m.Colon) d (λ x. x) (IsShape d)) (Typed d f) ends_shape (typing_of f) (λ ts. refl)
    (good_behind m.Colon limit d (omega arith) (shape room) (IsShape d) ends_shape (good_shape room d limit e)) (typed_join d f) (typed_split d f)

-- behind and from the opening parenthesis
abbrev EnclosedTyping : ℕ → Typing → Tokens → Tokens → Type 0
EnclosedTyping d t ts rest = IsTyping (suc d) t ts ((Sign m.Close, suc d) ∷ rest)

abbrev OpenTyping : ℕ → Typing → Tokens → Tokens → Type 0
OpenTyping d = After (Sign m.Open) (suc d) (λ x. x) (EnclosedTyping d)

of_open_typing : (d : ℕ) (t : Typing) (ts rest : Tokens) → OpenTyping d t ts rest → IsTyping d t ts rest
of_open_typing d t ts rest (after h) = g.typing_in_parentheses h

of_typed : (d : ℕ) (w : Token) (f : Text) → word w ≡ Some f → (t : Typing) (ts rest : Tokens) → After w d (λ x. x) (Typed d f) t ts rest → IsTyping d t ts rest
of_typed d w f e t ts rest (after (typed_as h)) = g.typing e h

some_typing : (d : ℕ) → Inhabited (IsTyping d)
some_typing d = record { value = typing_of [] sh.Sort; text = λ rest. (Lower [], d) ∷ (Sign m.Colon, d) ∷ (Dollar (codes "$tType"), d) ∷ rest; spells = λ rest. g.typing refl (g.sort_of_sorts refl) }

module _ (room d limit : ℕ) (e : limit ≡ d + room) (nested : Reader Token Typing) (good : GoodAt limit (Sign m.Open) nested (OpenTyping d) always) where
  typing_word : (w : Token) (f : Text) → word w ≡ Some f → (us : List Token) → typing_at room nested (Some w) (w ∷ us) ≡ typed room f us
  typing_word (Lower x) f k us = let same : x ≡ f = cc in ap (λ n. typed room n us) same
  typing_word (Quoted x) f k us = let same : x ≡ f = cc in ap (λ n. typed room n us) same
  typing_word w f k us = cc

  named : (w : Token) (f : Text) → word w ≡ Some f → GoodAt limit w (typing_at room nested (Some w)) (After w d (λ x. x) (Typed d f)) ends_shape
  named w f k = behind_token limit w d (typing_at room nested (Some w)) (λ x. x) (Typed d f) ends_shape (typed room f) (omega arith) (good_typed room d limit e f) (λ us. unmapped _ _ (typing_word w f k us))

  exact_named : (w : Token) (f : Text) → word w ≡ Some f → (ts : List Token) → Exact (typing_at room nested (Some w)) (IsTyping d) limit (w ∷ ts) (typing_at room nested (Some w) (w ∷ ts))
  exact_named w f k ts = widen (typing_at room nested (Some w)) (After w d (λ x. x) (Typed d f)) (IsTyping d) limit (of_typed d w f k) (w ∷ ts) (typing_at room nested (Some w) (w ∷ ts)) ((named w f k).exact ts)

  exact_typing : (ts : List Token) → Exact (typing_at room nested (next ts)) (IsTyping d) limit ts (typing_at room nested (next ts) ts)
  exact_typing (Sign m.Open ∷ ts) = widen nested (OpenTyping d) (IsTyping d) limit (of_open_typing d) (Sign m.Open ∷ ts) (nested (Sign m.Open ∷ ts)) (good.exact ts)
  exact_typing (Lower x ∷ ts) = exact_named (Lower x) x refl ts
  exact_typing (Quoted x ∷ ts) = exact_named (Quoted x) x refl ts
  exact_typing ts = exact_stop (typing_at room nested (next ts)) (IsTyping d) limit ts (some_typing d) (λ other k. refl)

  found_typing : (t : Typing) (ts rest : Tokens) → IsTyping d t ts rest → ends_shape (next (plain rest)) ≡ true → Found limit (typing_at room nested (next (plain ts))) t ts rest
  found_typing t ts rest (g.typing {w = w} {f = f} is h) k = (named w f is).found t ts rest (after (typed_as h)) k
  found_typing t ts rest (g.typing_in_parentheses h) k = good.found t ts rest (after h) refl

  good_typing_by : Good limit (typing_by room nested) (IsTyping d) ends_shape
  unfolding typing_by
  good_typing_by = good_choice limit (typing_by room nested) (typing_at room nested) (IsTyping d) ends_shape (λ us. refl) exact_typing found_typing (some_typing d)

good_typing_open : (room d limit : ℕ) → limit ≡ d + room → GoodAt limit (Sign m.Open) (typing_open room) (OpenTyping d) always
unfolding typing_open
good_typing_open zero d limit e = over_token limit (Sign m.Open) (suc d) (typing_open zero) (λ x. x) (EnclosedTyping d) always (omega arith)
    (record { value = typing_of [] sh.Sort; text = λ rest. (Lower [], suc d) ∷ (Sign m.Colon, suc d) ∷ (Dollar (codes "$tType"), suc d) ∷ (Sign m.Close, suc d) ∷ rest; spells = λ rest. g.typing refl (g.sort_of_sorts refl) }) (λ us. refl)
good_typing_open (suc room) d limit e =
    behind_token limit (Sign m.Open) (suc d) (typing_open (suc room)) (λ x. x) (EnclosedTyping d) always (closed (is_mark m.Close) (typing_by room (typing_open room))) (omega arith)
    (good_in m.Close limit (suc d) (omega arith) (typing_by room (typing_open room)) (IsTyping (suc d)) ends_shape always refl
    (good_typing_by room (suc d) limit (omega arith) (typing_open room) (good_typing_open room (suc d) limit (omega arith))))
    (λ us. unmapped _ _ refl)

pub good_typing : (room d limit : ℕ) → limit ≡ d + room → Good limit (typing room) (IsTyping d) ends_shape
unfolding typing
good_typing room d limit e = good_typing_by room d limit e (typing_open room) (good_typing_open room d limit e)
