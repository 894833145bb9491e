-- The readers of annotated formulas, includes and items are exact and find all that is derived.
use Rattle.std.proofs.Common.{◌≡◌, Bool, true, false, ◌&&◌, if◌then◌else◌, ℕ, ◌+◌, List, [], ◌∷◌, Option, Some, None, Err, inl, refl, sym, ◌∙◌, ap, subst, codes, arith}
use Rattle.std.specs.Str.{bytes_eq}
use Rattle.first_fault.specs.Nesting.{plain}
use Rattle.first_fault.proofs.NestingFacts.{done, before}
use Rattle.first_fault.specs.code.Reading.{Unexpected, and_then, next, closed, opened, separated}
use Rattle.first_fault.specs.Rules.{Listed}
use Rattle.first_fault.proofs.Exact.{Exact, Inhabited, exact_stop, exact_token}
use Rattle.first_fault.proofs.Found.{Found}
use Rattle.first_fault.proofs.Good.{Good, GoodAt, After, after, Both, both, widen, good_as, good_both, good_choice, good_map, behind_token, unmapped, always}
use Rattle.tptp_lexer.specs.declared.style.Style.{Style}
use Rattle.tptp_lexer.specs.declared.style.Style.TheVariants.{Problem, Derivation}
use Rattle.tptp_lexer.specs.declared.token.Token.{Token}
use Rattle.tptp_lexer.specs.declared.token.Token.TheVariants.{Lower, Quoted, Mark as Sign}
use Rattle.tptp_lexer.specs.declared.token.Mark.TheVariants as m
use Rattle.tptp_base.specs.declared.place.Place.{Place}
use Rattle.tptp_base.specs.declared.name.Name.{Name}
use Rattle.tptp_base.specs.declared.item.Lang.{Lang}
use Rattle.tptp_base.specs.declared.item.Lang.TheVariants as lang
use Rattle.tptp_base.specs.declared.item.Role.{Role}
use Rattle.tptp_base.specs.declared.item.Body.{Body}
use Rattle.tptp_base.specs.declared.item.Item.{Item}
use Rattle.tptp_grammar.specs.Tokens.{Text, Tokens, lang_text, has_language}
use Rattle.tptp_grammar.specs.Items as g
use Rattle.tptp_grammar.specs.Items.{IsName, IsBody, IsSelection, IsItem}
use Rattle.tptp_grammar.specs.code.ReadTerms.{is_mark, same_mark}
use Rattle.tptp_grammar.specs.code.ReadItems.{name, role, lang_of, body, ended, Annotations, annotations, annotated_of, finished, bodied, with_role, named, annotated, file_name_at, file_name, name_list, selected, selection_at, selection, include_of, from_file, included, include, worded, item_at, item}
use Rattle.tptp_grammar.proofs.Marks.{text_is, closes_list, sees_mark, good_in, good_behind, good_list}
use Rattle.tptp_grammar.proofs.ExactNames.{IsRole, good_name, good_role, moves_name, role_word}
use Rattle.tptp_grammar.proofs.ExactAnnotations.{Ended, IsAnnotations, and_source, ended_so, ends_body, good_annotations, good_body, good_ended, of_annotations, some_ended, to_annotations, without_source}

-- ---- annotated formulas

data Finished (place : Place) (l : Lang) (n : Name) (r : Role) (b : Body) : Item → Tokens → Tokens → Type 0 where
  finish : {v : Annotations} {ts rest : Tokens} → IsAnnotations v ts rest → Finished place l n r b (annotated_of place l n r b v) ts rest

abbrev Bodied : Place → Lang → Name → Role → Item → Tokens → Tokens → Type 0
Bodied place l n r = Both (IsBody l r) (Finished place l n r)

abbrev Commaed : (Item → Tokens → Tokens → Type 0) → Item → Tokens → Tokens → Type 0
Commaed P = After (Sign m.Comma) 0 (λ (x : Item). x) P

abbrev Roled : Place → Lang → Name → Item → Tokens → Tokens → Type 0
Roled place l n = Both IsRole (λ r. Commaed (Bodied place l n r))

abbrev Named : Place → Lang → Item → Tokens → Tokens → Type 0
Named place l = Both IsName (λ n. Commaed (Roled place l n))

abbrev Annotated_from : Place → Lang → Item → Tokens → Tokens → Type 0
Annotated_from place l = After (Sign m.Open) 0 (λ (x : Item). x) (Named place l)

finish_split : (place : Place) (l : Lang) (n : Name) (r : Role) (b : Body) (v : Item) (ts rest : Tokens) → Finished place l n r b v ts rest → (a : Annotations) × IsAnnotations a ts rest × (annotated_of place l n r b a ≡ v)
finish_split place l n r b v ts rest (finish {v = a} h) = (a, h, refl)

annotations_link : (v : Annotations) (ts rest : Tokens) → IsAnnotations v ts rest → ends_body (next (plain ts)) ≡ true
annotations_link v ts rest (without_source ended_so) = refl
annotations_link v ts rest (and_source (after h)) = refl

finished_link : (place : Place) (l : Lang) (n : Name) (r : Role) (b : Body) (v : Item) (ts rest : Tokens) → Finished place l n r b v ts rest → ends_body (next (plain ts)) ≡ true
finished_link place l n r b v ts rest (finish {v = a} h) = annotations_link a ts rest h

module _ (room limit : ℕ) (e : limit ≡ 0 + room) (place : Place) (l : Lang) where
  good_finished : (n : Name) (r : Role) (b : Body) → Good limit (finished room place l n r b) (Finished place l n r b) always
  unfolding finished
  good_finished n r b = good_map limit (annotations room) (finished room place l n r b) IsAnnotations (Finished place l n r b) always (annotated_of place l n r b) (λ ts. refl) (good_annotations room limit e) (λ a ts rest h. finish h) (finish_split place l n r b)

  good_bodied : (n : Name) (r : Role) → Good limit (bodied room place l n r) (Bodied place l n r) always
  unfolding bodied
  good_bodied n r = good_both limit (body l r room) (finished room place l n r) (IsBody l r) (Finished place l n r) ends_body always (λ b v mid rest h k. finished_link place l n r b v mid rest h) (good_body l r room limit e) (λ b can. good_finished n r b)

  good_with_role : (n : Name) → Good limit (with_role room place l n) (Roled place l n) always
  unfolding with_role
  good_with_role n = good_both limit role (λ r. opened (is_mark m.Comma) (bodied room place l n r)) IsRole (λ r. Commaed (Bodied place l n r)) always always (λ r v mid rest h k. refl) (good_role limit)
      (λ r can. good_behind m.Comma limit 0 (omega arith) (bodied room place l n r) (Bodied place l n r) always (good_bodied n r))

  good_named : Good limit (named room place l) (Named place l) always
  unfolding named
  good_named = good_both limit name (λ n. opened (is_mark m.Comma) (with_role room place l n)) IsName (λ n. Commaed (Roled place l n)) always always (λ n v mid rest h k. refl) (good_name limit)
      (λ n can. good_behind m.Comma limit 0 (omega arith) (with_role room place l n) (Roled place l n) always (good_with_role n))

  good_annotated : Good limit (annotated room place l) (Annotated_from place l) always
  unfolding annotated
  good_annotated = good_behind m.Open limit 0 (omega arith) (named room place l) (Named place l) always good_named

-- from the parts to the item
module _ (style : Style) {place : Place} {l : Lang} {w : Text} (e : w ≡ lang_text l) (has : has_language style l ≡ true) where
  of_finished : {n : Name} {r : Role} {b : Body} {v : Item} {ts us mid end rest : Tokens} → IsName n ts ((Sign m.Comma, 0) ∷ us) → IsRole r us ((Sign m.Comma, 0) ∷ mid) → IsBody l r b mid end → Finished place l n r b v end rest
      → IsItem style place v ((Lower w, 0) ∷ (Sign m.Open, 0) ∷ ts) rest
  of_finished h (role_word i) k (finish x) = g.annotated e has h i k (of_annotations x)

  of_bodied : {n : Name} {r : Role} {v : Item} {ts us mid rest : Tokens} → IsName n ts ((Sign m.Comma, 0) ∷ us) → IsRole r us ((Sign m.Comma, 0) ∷ mid) → Bodied place l n r v mid rest → IsItem style place v ((Lower w, 0) ∷ (Sign m.Open, 0) ∷ ts) rest
  of_bodied h i (both k x) = of_finished h i k x

  of_second : {n : Name} {r : Role} {v : Item} {ts us mid rest : Tokens} → IsName n ts ((Sign m.Comma, 0) ∷ us) → IsRole r us mid → Commaed (Bodied place l n r) v mid rest → IsItem style place v ((Lower w, 0) ∷ (Sign m.Open, 0) ∷ ts) rest
  of_second h i (after k) = of_bodied h i k

  of_roled : {n : Name} {v : Item} {ts us rest : Tokens} → IsName n ts ((Sign m.Comma, 0) ∷ us) → Roled place l n v us rest → IsItem style place v ((Lower w, 0) ∷ (Sign m.Open, 0) ∷ ts) rest
  of_roled h (both i k) = of_second h i k

  of_first : {n : Name} {v : Item} {ts mid rest : Tokens} → IsName n ts mid → Commaed (Roled place l n) v mid rest → IsItem style place v ((Lower w, 0) ∷ (Sign m.Open, 0) ∷ ts) rest
  of_first h (after k) = of_roled h k

  of_named : {v : Item} {ts rest : Tokens} → Named place l v ts rest → IsItem style place v ((Lower w, 0) ∷ (Sign m.Open, 0) ∷ ts) rest
  of_named (both h k) = of_first h k

  of_annotated : {v : Item} {ts rest : Tokens} → Annotated_from place l v ts rest → IsItem style place v ((Lower w, 0) ∷ ts) rest
  of_annotated (after h) = of_named h

  of_lang : (v : Item) (ts rest : Tokens) → After (Lower w) 0 (λ x. x) (Annotated_from place l) v ts rest → IsItem style place v ts rest
  of_lang v ts rest (after h) = of_annotated h

-- ---- includes

data IsFileName : Text → Tokens → Tokens → Type 0 where
  quoted_name : {f : Text} {rest : Tokens} → IsFileName f ((Quoted f, 0) ∷ rest) rest

some_file_name : Inhabited IsFileName
some_file_name = record { value = []; text = λ rest. (Quoted [], 0) ∷ rest; spells = λ rest. quoted_name }

abbrev NamesIn : List Name → Tokens → Tokens → Type 0
NamesIn ns ts rest = Listed (Sign m.Comma) 0 IsName ns ts ((Sign m.CloseList, 0) ∷ rest)

abbrev NameList : List Name → Tokens → Tokens → Type 0
NameList = After (Sign m.OpenList) 0 (λ ns. ns) NamesIn

abbrev Selected : Option (List Name) → Tokens → Tokens → Type 0
Selected = Both NameList (λ ns. Ended (Some ns))

data IsSelected : Option (List Name) → Tokens → Tokens → Type 0 where
  whole : {v : Option (List Name)} {ts rest : Tokens} → Ended None v ts rest → IsSelected v ts rest
  part : {v : Option (List Name)} {ts rest : Tokens} → After (Sign m.Comma) 0 (λ x. x) Selected v ts rest → IsSelected v ts rest

of_part : {ns : List Name} {v : Option (List Name)} {us mid rest : Tokens} → Listed (Sign m.Comma) 0 IsName ns us ((Sign m.CloseList, 0) ∷ mid) → Ended (Some ns) v mid rest → IsSelection v ((Sign m.Comma, 0) ∷ (Sign m.OpenList, 0) ∷ us) rest
of_part h ended_so = g.selected h

of_name_list : {ns : List Name} {v : Option (List Name)} {ts mid rest : Tokens} → NameList ns ts mid → Ended (Some ns) v mid rest → IsSelection v ((Sign m.Comma, 0) ∷ ts) rest
of_name_list (after h) k = of_part h k

of_both : {v : Option (List Name)} {ts rest : Tokens} → Selected v ts rest → IsSelection v ((Sign m.Comma, 0) ∷ ts) rest
of_both (both h k) = of_name_list h k

of_selected : (v : Option (List Name)) (ts rest : Tokens) → IsSelected v ts rest → IsSelection v ts rest
of_selected v ts rest (whole ended_so) = g.whole_file
of_selected v ts rest (part (after h)) = of_both h

to_selected : (v : Option (List Name)) (ts rest : Tokens) → IsSelection v ts rest → IsSelected v ts rest
to_selected v ts rest g.whole_file = whole ended_so
to_selected v ts rest (g.selected h) = part (after (both (after h) ended_so))

closed_names : (h : Option Token) → closes_list h ≡ true → (always h ≡ true) × (sees_mark m.Comma h ≡ false)
unfolding same_mark
closed_names (Some (Sign m.CloseList)) e = (refl, refl)
closed_names h e = cc

data FromFile (place : Place) (f : Text) : Item → Tokens → Tokens → Type 0 where
  from : {ns : Option (List Name)} {ts rest : Tokens} → IsSelection ns ts rest → FromFile place f (include_of place f ns) ts rest

from_split : (place : Place) (f : Text) (v : Item) (ts rest : Tokens) → FromFile place f v ts rest → (ns : Option (List Name)) × IsSelection ns ts rest × (include_of place f ns ≡ v)
from_split place f v ts rest (from {ns = ns} h) = (ns, h, refl)

module _ (limit : ℕ) where
  exact_file_name : (ts : List Token) → Exact (file_name_at (next ts)) IsFileName limit ts (file_name_at (next ts) ts)
  exact_file_name (Quoted f ∷ ts) = exact_token (file_name_at (Some (Quoted f))) IsFileName limit (Quoted f) 0 f (omega arith) (λ rest. quoted_name) (λ us. refl) ts
  exact_file_name ts = exact_stop (file_name_at (next ts)) IsFileName limit ts some_file_name (λ other e. refl)

  found_file_name : (f : Text) (ts rest : Tokens) → IsFileName f ts rest → Found limit (file_name_at (next (plain ts))) f ts rest
  found_file_name f ts rest quoted_name = inl (before (omega arith) done, refl)

  good_file_name : Good limit file_name IsFileName always
  unfolding file_name
  good_file_name = good_choice limit file_name file_name_at IsFileName always (λ us. refl) exact_file_name (λ f ts rest h e. found_file_name f ts rest h) some_file_name

  good_name_list : Good limit name_list NameList always
  unfolding name_list
  good_name_list =
      good_behind m.OpenList limit 0 (omega arith) (closed (is_mark m.CloseList) (separated (is_mark m.Comma) name)) NamesIn always
      (good_in m.CloseList limit 0 (omega arith) (separated (is_mark m.Comma) name) (Listed (Sign m.Comma) 0 IsName) closes_list always refl
      (good_list m.Comma limit 0 (omega arith) name IsName always closes_list (good_name limit) (λ x ts rest h. moves_name h) refl closed_names))

  part_comma : GoodAt limit (Sign m.Comma) (selection_at (Some (Sign m.Comma))) (After (Sign m.Comma) 0 (λ x. x) Selected) always
  part_comma = behind_token limit (Sign m.Comma) 0 (selection_at (Some (Sign m.Comma))) (λ x. x) Selected always (λ ts. and_then (name_list ts) selected) (omega arith)
      (good_both limit name_list selected NameList (λ ns. Ended (Some ns)) always always (λ x v mid rest h k. refl) good_name_list (λ ns can. good_ended limit (Some ns))) (λ us. unmapped _ _ refl)

  exact_selection : (ts : List Token) → Exact (selection_at (next ts)) IsSelected limit ts (selection_at (next ts) ts)
  exact_selection (Sign m.Comma ∷ ts) = widen (selection_at (Some (Sign m.Comma))) (After (Sign m.Comma) 0 (λ x. x) Selected) IsSelected limit (λ v us rest h. part h) (Sign m.Comma ∷ ts) (selection_at (Some (Sign m.Comma)) (Sign m.Comma ∷ ts)) (part_comma.exact ts)
  exact_selection ts = widen (ended None) (Ended None) IsSelected limit (λ v us rest h. whole h) ts (ended None ts) ((good_ended limit None).exact ts)

  found_selection : (v : Option (List Name)) (ts rest : Tokens) → IsSelected v ts rest → Found limit (selection_at (next (plain ts))) v ts rest
  found_selection v ts rest (whole ended_so) = (good_ended limit None).found v ts rest ended_so refl
  found_selection v ts rest (part (after h)) = part_comma.found v ts rest (after h) refl

  good_selection : Good limit selection IsSelection always
  unfolding selection some_ended
  good_selection =
      good_as limit selection IsSelected IsSelection always always
      (good_choice limit selection selection_at IsSelected always (λ us. refl) exact_selection (λ v ts rest h k. found_selection v ts rest h) (record { value = None; text = (some_ended {A = Option (List Name)} None).text; spells = λ rest. whole ended_so }))
      of_selected to_selected (λ h e. e)

  module _ (place : Place) where
    good_from_file : (f : Text) → Good limit (from_file place f) (FromFile place f) always
    unfolding from_file
    good_from_file f = good_map limit selection (from_file place f) IsSelection (FromFile place f) always (include_of place f) (λ ts. refl) good_selection (λ ns ts rest h. from h) (from_split place f)

    good_included : Good limit (included place) (Both IsFileName (FromFile place)) always
    unfolding included
    good_included = good_both limit file_name (from_file place) IsFileName (FromFile place) always always (λ f v mid rest h k. refl) good_file_name (λ f can. good_from_file f)

    good_include : Good limit (include place) (After (Sign m.Open) 0 (λ x. x) (Both IsFileName (FromFile place))) always
    unfolding include
    good_include = good_behind m.Open limit 0 (omega arith) (included place) (Both IsFileName (FromFile place)) always good_included

of_from : {style : Style} {place : Place} {w f : Text} {v : Item} {ts mid rest : Tokens} → w ≡ codes "include" → IsFileName f ts mid → FromFile place f v mid rest → IsItem style place v ((Lower w, 0) ∷ (Sign m.Open, 0) ∷ ts) rest
of_from e quoted_name (from h) = g.include e h

of_file : {style : Style} {place : Place} {w : Text} {v : Item} {ts rest : Tokens} → w ≡ codes "include" → Both IsFileName (FromFile place) v ts rest → IsItem style place v ((Lower w, 0) ∷ (Sign m.Open, 0) ∷ ts) rest
of_file e (both h k) = of_from e h k

of_include_open : {style : Style} {place : Place} {w : Text} {v : Item} {ts rest : Tokens} → w ≡ codes "include" → After (Sign m.Open) 0 (λ x. x) (Both IsFileName (FromFile place)) v ts rest → IsItem style place v ((Lower w, 0) ∷ ts) rest
of_include_open e (after h) = of_file e h

of_include : {style : Style} {place : Place} {w : Text} → w ≡ codes "include" → (v : Item) (ts rest : Tokens) → After (Lower w) 0 (λ x. x) (After (Sign m.Open) 0 (λ x. x) (Both IsFileName (FromFile place))) v ts rest → IsItem style place v ts rest
of_include e v ts rest (after h) = of_include_open e h

-- ---- items

-- the language of a word, by the tests for each
abbrev lang_tests : Bool → Bool → Bool → Bool → Option Lang
lang_tests a b c d = if a then Some lang.Cnf else if b then Some lang.Fof else if c then Some lang.Tff else if d then Some lang.Tcf else None

abbrev IsLang : Style → Text → Lang → Type 0
IsLang style w l = (w ≡ lang_text l) × (has_language style l ≡ true)

typed_by : (style : Style) (w : Text) (h b : Bool) → has_language style lang.Tcf ≡ h → bytes_eq w (lang_text lang.Tcf) ≡ b → (h && b) ≡ true → IsLang style w lang.Tcf
typed_by style w true true i j e = (text_is w (lang_text lang.Tcf) j, i)
typed_by style w true false i j e = cc
typed_by style w false b i j e = cc

has_cnf : (style : Style) → has_language style lang.Cnf ≡ true
has_cnf Problem = refl
has_cnf Derivation = refl

has_fof : (style : Style) → has_language style lang.Fof ≡ true
has_fof Problem = refl
has_fof Derivation = refl

has_tff : (style : Style) → has_language style lang.Tff ≡ true
has_tff Problem = refl
has_tff Derivation = refl

lang_by : (style : Style) (w : Text) (a b c d : Bool) → bytes_eq w (lang_text lang.Cnf) ≡ a → bytes_eq w (lang_text lang.Fof) ≡ b → bytes_eq w (lang_text lang.Tff) ≡ c → (has_language style lang.Tcf && bytes_eq w (lang_text lang.Tcf)) ≡ d
    → (l : Lang) → lang_tests a b c d ≡ Some l → IsLang style w l
lang_by style w true b c d i j k x l e = let same : lang.Cnf ≡ l = cc in subst (IsLang style w) same (text_is w (lang_text lang.Cnf) i, has_cnf style)
lang_by style w false true c d i j k x l e = let same : lang.Fof ≡ l = cc in subst (IsLang style w) same (text_is w (lang_text lang.Fof) j, has_fof style)
lang_by style w false false true d i j k x l e = let same : lang.Tff ≡ l = cc in subst (IsLang style w) same (text_is w (lang_text lang.Tff) k, has_tff style)
lang_by style w false false false true i j k x l e =
    let same : lang.Tcf ≡ l = cc in subst (IsLang style w) same (typed_by style w (has_language style lang.Tcf) (bytes_eq w (lang_text lang.Tcf)) refl refl x)
lang_by style w false false false false i j k x l e = cc

lang_is : (style : Style) (w : Text) (l : Lang) → lang_of style w ≡ Some l → IsLang style w l
unfolding lang_of
lang_is style w l e =
    lang_by style w (bytes_eq w (lang_text lang.Cnf)) (bytes_eq w (lang_text lang.Fof)) (bytes_eq w (lang_text lang.Tff)) (has_language style lang.Tcf && bytes_eq w (lang_text lang.Tcf)) refl refl refl refl l e

is_lang_text : (style : Style) (l : Lang) → has_language style l ≡ true → lang_of style (lang_text l) ≡ Some l
unfolding lang_of
is_lang_text style lang.Cnf h = refl
is_lang_text style lang.Fof h = refl
is_lang_text style lang.Tff h = refl
is_lang_text Derivation lang.Tcf h = refl
is_lang_text Problem lang.Tcf h = cc

is_lang : (style : Style) (w : Text) (l : Lang) → w ≡ lang_text l → has_language style l ≡ true → lang_of style w ≡ Some l
is_lang style w l e h = ap (lang_of style) e ∙ is_lang_text style l h

-- an include is no formula of a language
include_is_none : (style : Style) → lang_of style (codes "include") ≡ None
unfolding lang_of
include_is_none Problem = refl
include_is_none Derivation = refl

module _ (style : Style) (room : ℕ) (place : Place) (w : Text) where
  lang_word : (l : Lang) → lang_of style w ≡ Some l → (us : List Token) → item_at style room place (Some (Lower w)) (Lower w ∷ us) ≡ annotated room place l us
  lang_word l e us = ap (λ o. worded room place w o (Lower w ∷ us)) e

  include_word : w ≡ codes "include" → (us : List Token) → item_at style room place (Some (Lower w)) (Lower w ∷ us) ≡ include place us
  include_word e us =
      subst (λ v. worded room place v (lang_of style v) (Lower w ∷ us) ≡ include place us) (sym e) (ap (λ o. worded room place (codes "include") o (Lower w ∷ us)) (include_is_none style))

  other_word : lang_of style w ≡ None → bytes_eq w (codes "include") ≡ false → (us : List Token) → item_at style room place (Some (Lower w)) us ≡ Err (Unexpected, us)
  other_word e k us = ap (λ o. worded room place w o us) e ∙ rw k refl

some_item : (style : Style) (place : Place) → Inhabited (IsItem style place)
some_item style place = record {
  value = include_of place [] None;
  text = λ rest. (Lower (codes "include"), 0) ∷ (Sign m.Open, 0) ∷ (Quoted [], 0) ∷ (Sign m.Close, 0) ∷ (Sign m.Dot, 0) ∷ rest;
  spells = λ rest. g.include refl g.whole_file;
}

module _ (style : Style) (room limit : ℕ) (e : limit ≡ 0 + room) (place : Place) where
  at_lang : (w : Text) (l : Lang) → lang_of style w ≡ Some l → GoodAt limit (Lower w) (item_at style room place (Some (Lower w))) (After (Lower w) 0 (λ x. x) (Annotated_from place l)) always
  at_lang w l is = behind_token limit (Lower w) 0 (item_at style room place (Some (Lower w))) (λ x. x) (Annotated_from place l) always (annotated room place l) (omega arith) (good_annotated room limit e place l) (λ us. unmapped _ _ (lang_word style room place w l is us))

  at_include : (w : Text) → w ≡ codes "include" → GoodAt limit (Lower w) (item_at style room place (Some (Lower w))) (After (Lower w) 0 (λ x. x) (After (Sign m.Open) 0 (λ x. x) (Both IsFileName (FromFile place)))) always
  at_include w is = behind_token limit (Lower w) 0 (item_at style room place (Some (Lower w))) (λ x. x) (After (Sign m.Open) 0 (λ x. x) (Both IsFileName (FromFile place))) always (include place) (omega arith) (good_include limit place) (λ us. unmapped _ _ (include_word style room place w is us))

  exact_other : (w : Text) (b : Bool) → lang_of style w ≡ None → bytes_eq w (codes "include") ≡ b → (ts : List Token) → Exact (item_at style room place (Some (Lower w))) (IsItem style place) limit (Lower w ∷ ts) (item_at style room place (Some (Lower w)) (Lower w ∷ ts))
  exact_other w true i k ts =
      let is = text_is w (codes "include") k in
      widen (item_at style room place (Some (Lower w))) (After (Lower w) 0 (λ x. x) (After (Sign m.Open) 0 (λ x. x) (Both IsFileName (FromFile place)))) (IsItem style place) limit (of_include is) (Lower w ∷ ts) (item_at style room place (Some (Lower w)) (Lower w ∷ ts)) ((at_include w is).exact ts)
  exact_other w false i k ts =
      subst (Exact (item_at style room place (Some (Lower w))) (IsItem style place) limit (Lower w ∷ ts)) (sym (other_word style room place w i k (Lower w ∷ ts)))
      (exact_stop (item_at style room place (Some (Lower w))) (IsItem style place) limit (Lower w ∷ ts) (some_item style place) (λ other n. other_word style room place w i k other))

  exact_word : (w : Text) (o : Option Lang) → lang_of style w ≡ o → (ts : List Token) → Exact (item_at style room place (Some (Lower w))) (IsItem style place) limit (Lower w ∷ ts) (item_at style room place (Some (Lower w)) (Lower w ∷ ts))
  exact_word w (Some l) is ts =
      widen (item_at style room place (Some (Lower w))) (After (Lower w) 0 (λ x. x) (Annotated_from place l)) (IsItem style place) limit (let known = lang_is style w l is in of_lang style known.0 known.1) (Lower w ∷ ts) (item_at style room place (Some (Lower w)) (Lower w ∷ ts)) ((at_lang w l is).exact ts)
  exact_word w None is ts = exact_other w (bytes_eq w (codes "include")) is refl ts

  exact_item : (ts : List Token) → Exact (item_at style room place (next ts)) (IsItem style place) limit ts (item_at style room place (next ts) ts)
  exact_item (Lower w ∷ ts) = exact_word w (lang_of style w) refl ts
  exact_item ts = exact_stop (item_at style room place (next ts)) (IsItem style place) limit ts (some_item style place) (λ other k. refl)

  found_item : (v : Item) (ts rest : Tokens) → IsItem style place v ts rest → Found limit (item_at style room place (next (plain ts))) v ts rest
  found_item v ts rest (g.annotated {l = l} {w = w} i has h j k x) =
      (at_lang w l (is_lang style w l i has)).found v ts rest (after (after (both h (after (both (role_word j) (after (both k (finish (to_annotations x))))))))) refl
  found_item v ts rest (g.include {w = w} i h) = (at_include w i).found v ts rest (after (after (both quoted_name (from h)))) refl

  pub good_item : Good limit (item style room place) (IsItem style place) always
  unfolding item
  good_item = good_choice limit (item style room place) (item_at style room place) (IsItem style place) always (λ us. refl) exact_item (λ v ts rest h k. found_item v ts rest h) (some_item style place)
