-- The readers of general terms are exact and find all that is derived.
use Rattle.std.proofs.Common.{◌≡◌, Bool, true, false, ℕ, zero, suc, ◌+◌, ◌≤◌, ◌<◌, List, [], ◌∷◌, length, Option, Some, Ok, inl, refl, ap, arith}
use Rattle.first_fault.specs.Nesting.{plain}
use Rattle.first_fault.proofs.NestingFacts.{done, before}
use Rattle.first_fault.specs.code.Reading.{Reader, and_then, next, closed, separated}
use Rattle.first_fault.specs.Rules.{Listed, last, more}
use Rattle.first_fault.proofs.Exact.{Exact, Inhabited, exact_map, exact_done, exact_stop, exact_token}
use Rattle.first_fault.proofs.Found.{Found, found_as, found_map}
use Rattle.first_fault.proofs.Good.{Good, GoodAt, After, after, Both, both, widen, good_as, good_both, good_choice, behind_token, over_token, unmapped, always}
use Rattle.tptp_lexer.specs.declared.token.Token.{Token}
use Rattle.tptp_lexer.specs.declared.token.Token.TheVariants.{Lower, Quoted, Upper, Dollar, Number, Distinct, Mark as Sign}
use Rattle.tptp_lexer.specs.declared.token.Mark.TheVariants as m
use Rattle.tptp_base.specs.declared.surface.Surface.{Surface}
use Rattle.tptp_base.specs.declared.item.Lang.{Lang}
use Rattle.tptp_base.specs.declared.item.Lang.TheVariants as lang
use Rattle.tptp_base.specs.declared.item.GTerm.{GTerm}
use Rattle.tptp_base.specs.declared.item.GTerm.TheVariants as gt
use Rattle.tptp_grammar.specs.Tokens.{Text, Tokens, word}
use Rattle.tptp_grammar.specs.GeneralTerms as g
use Rattle.tptp_grammar.specs.GeneralTerms.{IsFormulaOf, IsGeneralData, IsGeneralTerm, IsGeneralList, AreGeneralTerms}
use Rattle.tptp_grammar.specs.code.ReadTerms.{is_mark, same_mark}
use Rattle.tptp_grammar.specs.code.ReadGeneral.{embedded, Nesting, general_applied_at, general_applied, general_data_at, general_data_by, paired_at, paired, general_at, general_by, listed_at, listed, nesting, general}
use Rattle.tptp_grammar.proofs.Marks.{closes, closes_list, sees_mark, good_in, good_list}
use Rattle.tptp_grammar.proofs.ExactTerms.{moves_term}
use Rattle.tptp_grammar.proofs.ExactFormulas.{moves_formula}
use Rattle.tptp_grammar.proofs.ExactClauses.{moves_clause}
use Rattle.tptp_grammar.proofs.ExactTypedClauses.{moves_typed_clause}
use Rattle.tptp_grammar.proofs.ExactEmbedded.{at_formula, at_term, exact_embedding, is_embedded, some_data}

-- ---- each takes a token

moves_formula_of : (l : Lang) (d : ℕ) (x : Surface) (ts rest : Tokens) → IsFormulaOf l d x ts rest → length rest < length ts
moves_formula_of lang.Cnf d x ts rest h = moves_clause h
moves_formula_of lang.Fof d x ts rest h = moves_formula h
moves_formula_of lang.Tff d x ts rest h = moves_formula h
moves_formula_of lang.Tcf d x ts rest h = moves_typed_clause h

mutual
  moves_data : {d : ℕ} {x : GTerm} {ts rest : Tokens} → IsGeneralData d x ts rest → length rest < length ts
  moves_data (g.general_word e) = omega arith
  moves_data (g.general_function e h) = omega (arith, moves_generals h)
  moves_data g.general_variable = omega arith
  moves_data g.number = omega arith
  moves_data g.distinct_object = omega arith
  moves_data (g.formula_data {d = d} {l = l} {f = x} {ts = us} {rest = rest} e other h) = omega (arith, moves_formula_of l (suc d) x us ((Sign m.Close, suc d) ∷ rest) h)
  moves_data (g.term_data e h) = omega (arith, moves_term h)

  pub moves_general : {d : ℕ} {x : GTerm} {ts rest : Tokens} → IsGeneralTerm d x ts rest → length rest < length ts
  moves_general (g.general_data h) = moves_data h
  moves_general (g.pair h k) = omega (arith, moves_data h, moves_general k)
  moves_general (g.general_list g.empty_list) = omega arith
  moves_general (g.general_list (g.full_list h)) = omega (arith, moves_generals h)

  moves_generals : {d : ℕ} {xs : List GTerm} {ts rest : Tokens} → AreGeneralTerms d xs ts rest → length rest < length ts
  moves_generals (g.last_general h) = moves_general h
  moves_generals (g.more_general h k) = omega (arith, moves_general h, moves_generals k)

-- ---- general terms

abbrev pub ends_data : Option Token → Bool
ends_data (Some (Sign m.Open)) = false
ends_data _ = true

abbrev pub ends_general : Option Token → Bool
ends_general (Some (Sign m.Open)) = false
ends_general (Some (Sign m.Colon)) = false
ends_general _ = true

general_ends_data : (h : Option Token) → ends_general h ≡ true → ends_data h ≡ true
general_ends_data (Some (Sign m.Open)) e = cc
general_ends_data (Some (Sign m.Colon)) e = cc
general_ends_data h e = refl

abbrev EnclosedGeneral : ℕ → List GTerm → Tokens → Tokens → Type 0
EnclosedGeneral d xs ts rest = AreGeneralTerms (suc d) xs ts ((Sign m.Close, suc d) ∷ rest)

abbrev OpenGeneral : ℕ → List GTerm → Tokens → Tokens → Type 0
OpenGeneral d = After (Sign m.Open) (suc d) (λ xs. xs) (EnclosedGeneral d)

-- behind the opening bracket
pub data InList (d : ℕ) : List GTerm → Tokens → Tokens → Type 0 where
  none_listed : {rest : Tokens} → InList d [] ((Sign m.CloseList, suc d) ∷ rest) rest
  some_listed : {xs : List GTerm} {ts rest : Tokens} → AreGeneralTerms (suc d) xs ts ((Sign m.CloseList, suc d) ∷ rest) → InList d xs ts rest

abbrev pub OpenGeneralList : ℕ → List GTerm → Tokens → Tokens → Type 0
OpenGeneralList d = After (Sign m.OpenList) (suc d) (λ xs. xs) (InList d)

pub of_open_list : (d : ℕ) (xs : List GTerm) (ts rest : Tokens) → OpenGeneralList d xs ts rest → IsGeneralList d xs ts rest
of_open_list d xs ts rest (after none_listed) = g.empty_list
of_open_list d xs ts rest (after (some_listed h)) = g.full_list h

pub to_open_list : (d : ℕ) (xs : List GTerm) (ts rest : Tokens) → IsGeneralList d xs ts rest → OpenGeneralList d xs ts rest
to_open_list d xs ts rest g.empty_list = after none_listed
to_open_list d xs ts rest (g.full_list h) = after (some_listed h)

abbrev IsPair : ℕ → GTerm → GTerm → Tokens → Tokens → Type 0
IsPair d x = After (Sign m.Colon) (suc d) (gt.Pair x) (IsGeneralTerm (suc d))

-- the readers that begin with a token that nests
pub record GoodNesting (limit d : ℕ) (n : Nesting) : Type 0 where
  pub arguments : GoodAt limit (Sign m.Open) n.arguments (OpenGeneral d) always
  pub list : GoodAt limit (Sign m.OpenList) n.list (OpenGeneralList d) always
  pub pair : (x : GTerm) → GoodAt limit (Sign m.Colon) (n.pair x) (IsPair d x) ends_general

data FollowsWord (d : ℕ) (f : Text) : GTerm → Tokens → Tokens → Type 0 where
  alone : {rest : Tokens} → FollowsWord d f (gt.Word f) rest rest
  with_arguments : {xs : List GTerm} {ts rest : Tokens} → OpenGeneral d xs ts rest → FollowsWord d f (gt.Func f xs) ts rest

of_word : (d : ℕ) (w : Token) (f : Text) → word w ≡ Some f → (x : GTerm) (ts rest : Tokens) → After w d (λ y. y) (FollowsWord d f) x ts rest → IsGeneralData d x ts rest
of_word d w f e x ts rest (after alone) = g.general_word e
of_word d w f e x ts rest (after (with_arguments (after h))) = g.general_function e h

data Paired (d : ℕ) (x : GTerm) : GTerm → Tokens → Tokens → Type 0 where
  unpaired : {rest : Tokens} → Paired d x x rest rest
  with_pair : {y : GTerm} {ts rest : Tokens} → IsPair d x y ts rest → Paired d x y ts rest

join_parts : {d : ℕ} {x y : GTerm} {ts mid rest : Tokens} → IsGeneralData d x ts mid → Paired d x y mid rest → IsGeneralTerm d y ts rest
join_parts h unpaired = g.general_data h
join_parts h (with_pair (after k)) = g.pair h k

join_paired : (d : ℕ) (y : GTerm) (ts rest : Tokens) → Both (IsGeneralData d) (Paired d) y ts rest → IsGeneralTerm d y ts rest
join_paired d y ts rest (both h k) = join_parts h k

paired_link : (d : ℕ) (x y : GTerm) (mid rest : Tokens) → Paired d x y mid rest → ends_general (next (plain rest)) ≡ true → ends_data (next (plain mid)) ≡ true
paired_link d x y mid rest unpaired e = general_ends_data (next (plain rest)) e
paired_link d x y mid rest (with_pair (after k)) e = refl

-- what a general term begins with
data DataHead : Option Token → Type 0 where
  lower : {x : Text} → DataHead (Some (Lower x))
  quoted : {x : Text} → DataHead (Some (Quoted x))
  upper : {x : Text} → DataHead (Some (Upper x))
  number : {x : Text} → DataHead (Some (Number x))
  distinct : {x : Text} → DataHead (Some (Distinct x))
  dollar : {x : Text} → DataHead (Some (Dollar x))

head_of_word : (w : Token) (f : Text) → word w ≡ Some f → DataHead (Some w)
head_of_word (Lower x) f e = lower
head_of_word (Quoted x) f e = quoted
head_of_word w f e = cc

head_of_data : {d : ℕ} {x : GTerm} {ts rest : Tokens} → IsGeneralData d x ts rest → DataHead (next (plain ts))
head_of_data (g.general_word {w = w} {f = f} e) = head_of_word w f e
head_of_data (g.general_function {w = w} {f = f} e h) = head_of_word w f e
head_of_data g.general_variable = upper
head_of_data g.number = number
head_of_data g.distinct_object = distinct
head_of_data (g.formula_data e other h) = dollar
head_of_data (g.term_data e h) = dollar

-- it begins with no closing bracket
data GeneralHead : Option Token → Type 0 where
  data_head : {h : Option Token} → DataHead h → GeneralHead h
  bracket : GeneralHead (Some (Sign m.OpenList))

head_of_general : {d : ℕ} {x : GTerm} {ts rest : Tokens} → IsGeneralTerm d x ts rest → GeneralHead (next (plain ts))
head_of_general (g.general_data h) = data_head (head_of_data h)
head_of_general (g.pair h k) = data_head (head_of_data h)
head_of_general (g.general_list g.empty_list) = bracket
head_of_general (g.general_list (g.full_list h)) = bracket

head_of_generals : {d : ℕ} {xs : List GTerm} {ts rest : Tokens} → AreGeneralTerms d xs ts rest → GeneralHead (next (plain ts))
head_of_generals (g.last_general h) = head_of_general h
head_of_generals (g.more_general h k) = head_of_general h

module _ (room d limit : ℕ) (e : limit ≡ d + room) (n : Nesting) (good : GoodNesting limit d n) where
  exact_applied : (f : Text) (ts : List Token) → Exact (general_applied_at n f (next ts)) (FollowsWord d f) limit ts (general_applied_at n f (next ts) ts)
  exact_applied f (Sign m.Open ∷ ts) =
      exact_map n.arguments (general_applied_at n f (Some (Sign m.Open))) (OpenGeneral d) (FollowsWord d f) limit (gt.Func f) (λ xs us rest h. with_arguments h) (λ us. refl) (Sign m.Open ∷ ts) (n.arguments (Sign m.Open ∷ ts)) (good.arguments.exact ts)
  exact_applied f ts = exact_done (general_applied_at n f (next ts)) (FollowsWord d f) limit ts (gt.Word f) (λ rest. alone) (λ other k. refl)

  applied_ends : (f : Text) (h : Option Token) → ends_data h ≡ true → (ts : List Token) → general_applied_at n f h ts ≡ Ok (gt.Word f, ts)
  applied_ends f (Some (Sign m.Open)) k ts = cc
  applied_ends f h k ts = refl

  found_applied : (f : Text) (x : GTerm) (ts rest : Tokens) → FollowsWord d f x ts rest → ends_data (next (plain rest)) ≡ true → Found limit (general_applied_at n f (next (plain ts))) x ts rest
  found_applied f x ts rest alone k = inl (done, applied_ends f (next (plain rest)) k (plain rest))
  found_applied f x ts rest (with_arguments {xs = xs} (after {ts = us} h)) k =
      found_map limit n.arguments (general_applied_at n f (Some (Sign m.Open))) (gt.Func f) xs ((Sign m.Open, suc d) ∷ us) rest refl (good.arguments.found xs ((Sign m.Open, suc d) ∷ us) rest (after h) refl)

  good_applied : (f : Text) → Good limit (general_applied n f) (FollowsWord d f) ends_data
  unfolding general_applied
  good_applied f = good_choice limit (general_applied n f) (general_applied_at n f) (FollowsWord d f) ends_data (λ us. refl) (exact_applied f) (found_applied f) (record { value = gt.Word f; text = λ rest. rest; spells = λ rest. alone })

  word_same : (w : Token) (f : Text) → word w ≡ Some f → (us : List Token) → general_data_at room n (Some w) (w ∷ us) ≡ general_applied n f us
  word_same (Lower x) f k us = let same : x ≡ f = cc in ap (λ y. general_applied n y us) same
  word_same (Quoted x) f k us = let same : x ≡ f = cc in ap (λ y. general_applied n y us) same
  word_same w f k us = cc

  at_word : (w : Token) (f : Text) → word w ≡ Some f → GoodAt limit w (general_data_at room n (Some w)) (After w d (λ y. y) (FollowsWord d f)) ends_data
  at_word w f k = behind_token limit w d (general_data_at room n (Some w)) (λ y. y) (FollowsWord d f) ends_data (general_applied n f) (omega arith) (good_applied f) (λ us. unmapped _ _ (word_same w f k us))

  exact_word : (w : Token) (f : Text) → word w ≡ Some f → (ts : List Token) → Exact (general_data_at room n (Some w)) (IsGeneralData d) limit (w ∷ ts) (general_data_at room n (Some w) (w ∷ ts))
  exact_word w f k ts = widen (general_data_at room n (Some w)) (After w d (λ y. y) (FollowsWord d f)) (IsGeneralData d) limit (of_word d w f k) (w ∷ ts) (general_data_at room n (Some w) (w ∷ ts)) ((at_word w f k).exact ts)

  exact_data : (ts : List Token) → Exact (general_data_at room n (next ts)) (IsGeneralData d) limit ts (general_data_at room n (next ts) ts)
  exact_data (Lower x ∷ ts) = exact_word (Lower x) x refl ts
  exact_data (Quoted x ∷ ts) = exact_word (Quoted x) x refl ts
  exact_data (Upper x ∷ ts) = exact_token (general_data_at room n (Some (Upper x))) (IsGeneralData d) limit (Upper x) d (gt.Var x) (omega arith) (λ rest. g.general_variable) (λ us. refl) ts
  exact_data (Number x ∷ ts) = exact_token (general_data_at room n (Some (Number x))) (IsGeneralData d) limit (Number x) d (gt.Number x) (omega arith) (λ rest. g.number) (λ us. refl) ts
  exact_data (Distinct x ∷ ts) = exact_token (general_data_at room n (Some (Distinct x))) (IsGeneralData d) limit (Distinct x) d (gt.Distinct x) (omega arith) (λ rest. g.distinct_object) (λ us. refl) ts
  exact_data (Dollar w ∷ ts) = exact_embedding room d limit e w (embedded w) refl ts
  exact_data ts = exact_stop (general_data_at room n (next ts)) (IsGeneralData d) limit ts (some_data d) (λ other k. refl)

  found_data : (x : GTerm) (ts rest : Tokens) → IsGeneralData d x ts rest → ends_data (next (plain rest)) ≡ true → Found limit (general_data_at room n (next (plain ts))) x ts rest
  found_data x ts rest (g.general_word {w = w} {f = f} i) k = (at_word w f i).found x ts rest (after alone) k
  found_data x ts rest (g.general_function {w = w} {f = f} i h) k = (at_word w f i).found x ts rest (after (with_arguments (after h))) k
  found_data x ts rest g.general_variable k = inl (before (omega arith) done, refl)
  found_data x ts rest g.number k = inl (before (omega arith) done, refl)
  found_data x ts rest g.distinct_object k = inl (before (omega arith) done, refl)
  found_data x ts rest (g.formula_data {w = w} {l = l} i other h) k = (at_formula room d limit e w l (is_embedded w l i other)).found x ts rest (after (after h)) refl
  found_data x ts rest (g.term_data {w = w} i h) k = (at_term room d limit e w i).found x ts rest (after (after h)) refl

  good_data : Good limit (general_data_by room n) (IsGeneralData d) ends_data
  unfolding general_data_by
  good_data = good_choice limit (general_data_by room n) (general_data_at room n) (IsGeneralData d) ends_data (λ us. refl) exact_data found_data (some_data d)

  exact_paired : (x : GTerm) (ts : List Token) → Exact (paired_at n x (next ts)) (Paired d x) limit ts (paired_at n x (next ts) ts)
  exact_paired x (Sign m.Colon ∷ ts) = widen (n.pair x) (IsPair d x) (Paired d x) limit (λ y us rest h. with_pair h) (Sign m.Colon ∷ ts) (n.pair x (Sign m.Colon ∷ ts)) ((good.pair x).exact ts)
  exact_paired x ts = exact_done (paired_at n x (next ts)) (Paired d x) limit ts x (λ rest. unpaired) (λ other k. refl)

  paired_ends : (x : GTerm) (h : Option Token) → ends_general h ≡ true → (ts : List Token) → paired_at n x h ts ≡ Ok (x, ts)
  paired_ends x (Some (Sign m.Colon)) k ts = cc
  paired_ends x h k ts = refl

  found_paired : (x y : GTerm) (ts rest : Tokens) → Paired d x y ts rest → ends_general (next (plain rest)) ≡ true → Found limit (paired_at n x (next (plain ts))) y ts rest
  found_paired x y ts rest unpaired k = inl (done, paired_ends x (next (plain rest)) k (plain rest))
  found_paired x y ts rest (with_pair (after h)) k = (good.pair x).found y ts rest (after h) k

  good_paired : (x : GTerm) → Good limit (paired n x) (Paired d x) ends_general
  unfolding paired
  good_paired x = good_choice limit (paired n x) (paired_at n x) (Paired d x) ends_general (λ us. refl) (exact_paired x) (found_paired x) (record { value = x; text = λ rest. rest; spells = λ rest. unpaired })

  abbrev from_data : Reader Token GTerm
  from_data ts = and_then (general_data_by room n ts) (paired n)

  good_from_data : Good limit from_data (Both (IsGeneralData d) (Paired d)) ends_general
  good_from_data = good_both limit (general_data_by room n) (paired n) (IsGeneralData d) (Paired d) ends_data ends_general (paired_link d) good_data (λ x can. good_paired x)

  exact_general : (ts : List Token) → Exact (general_at room n (next ts)) (IsGeneralTerm d) limit ts (general_at room n (next ts) ts)
  exact_general (Sign m.OpenList ∷ ts) =
      exact_map n.list (general_at room n (Some (Sign m.OpenList))) (OpenGeneralList d) (IsGeneralTerm d) limit gt.List (λ xs us rest h. g.general_list (of_open_list d xs us rest h)) (λ us. refl) (Sign m.OpenList ∷ ts) (n.list (Sign m.OpenList ∷ ts)) (good.list.exact ts)
  exact_general ts = widen from_data (Both (IsGeneralData d) (Paired d)) (IsGeneralTerm d) limit (join_paired d) ts (from_data ts) (good_from_data.exact ts)

  general_by_head : {h : Option Token} → DataHead h → (ts : List Token) → general_at room n h ts ≡ from_data ts
  general_by_head lower ts = refl
  general_by_head quoted ts = refl
  general_by_head upper ts = refl
  general_by_head number ts = refl
  general_by_head distinct ts = refl
  general_by_head dollar ts = refl

  found_list : (xs : List GTerm) (ts rest : Tokens) → OpenGeneralList d xs ts rest → Found limit (general_at room n (next (plain ts))) (gt.List xs) ts rest
  found_list xs ts rest (after {ts = us} h) =
      found_map limit n.list (general_at room n (Some (Sign m.OpenList))) gt.List xs ((Sign m.OpenList, suc d) ∷ us) rest refl (good.list.found xs ((Sign m.OpenList, suc d) ∷ us) rest (after h) refl)

  found_general : (x : GTerm) (ts rest : Tokens) → IsGeneralTerm d x ts rest → ends_general (next (plain rest)) ≡ true → Found limit (general_at room n (next (plain ts))) x ts rest
  found_general x ts rest (g.general_data h) k = found_as limit (general_at room n (next (plain ts))) from_data x ts rest (general_by_head (head_of_data h) (plain ts)) (good_from_data.found x ts rest (both h unpaired) k)
  found_general x ts rest (g.pair h i) k = found_as limit (general_at room n (next (plain ts))) from_data x ts rest (general_by_head (head_of_data h) (plain ts)) (good_from_data.found x ts rest (both h (with_pair (after i))) k)
  found_general x ts rest (g.general_list {xs = xs} h) k = found_list xs ts rest (to_open_list d xs ts rest h)

  good_general_by : Good limit (general_by room n) (IsGeneralTerm d) ends_general
  unfolding general_by
  good_general_by = good_choice limit (general_by room n) (general_at room n) (IsGeneralTerm d) ends_general (λ us. refl) exact_general found_general
      (record { value = (some_data d).value; text = (some_data d).text; spells = λ rest. g.general_data ((some_data d).spells rest) })

-- ---- what nests

generals_of : {d : ℕ} {xs : List GTerm} {ts rest : Tokens} → Listed (Sign m.Comma) d (IsGeneralTerm d) xs ts rest → AreGeneralTerms d xs ts rest
generals_of (last h) = g.last_general h
generals_of (more h k) = g.more_general h (generals_of k)

of_generals : {d : ℕ} {xs : List GTerm} {ts rest : Tokens} → AreGeneralTerms d xs ts rest → Listed (Sign m.Comma) d (IsGeneralTerm d) xs ts rest
of_generals (g.last_general h) = last h
of_generals (g.more_general h k) = more h (of_generals k)

closed_general : (h : Option Token) → closes h ≡ true → (ends_general h ≡ true) × (sees_mark m.Comma h ≡ false)
unfolding same_mark
closed_general (Some (Sign m.Close)) e = (refl, refl)
closed_general h e = cc

closed_list_general : (h : Option Token) → closes_list h ≡ true → (ends_general h ≡ true) × (sees_mark m.Comma h ≡ false)
unfolding same_mark
closed_list_general (Some (Sign m.CloseList)) e = (refl, refl)
closed_list_general h e = cc

some_in_list : (d : ℕ) → Inhabited (InList d)
some_in_list d = record { value = []; text = λ rest. (Sign m.CloseList, suc d) ∷ rest; spells = λ rest. none_listed }

some_enclosed : (d : ℕ) → Inhabited (EnclosedGeneral d)
some_enclosed d = record { value = gt.Var [] ∷ []; text = λ rest. (Upper [], suc d) ∷ (Sign m.Close, suc d) ∷ rest; spells = λ rest. g.last_general (g.general_data g.general_variable) }

some_general : (d : ℕ) → Inhabited (IsGeneralTerm d)
some_general d = record { value = gt.Var []; text = λ rest. (Upper [], d) ∷ rest; spells = λ rest. g.general_data g.general_variable }

module _ (d limit : ℕ) (fits : suc d ≤ limit) (p : Reader Token GTerm) (good : Good limit p (IsGeneralTerm (suc d)) ends_general) where
  good_list_to : (E : Option Token → Bool) → E (Some (Sign m.Comma)) ≡ false → ((h : Option Token) → E h ≡ true → (ends_general h ≡ true) × (sees_mark m.Comma h ≡ false)) → Good limit (separated (is_mark m.Comma) p) (AreGeneralTerms (suc d)) E
  good_list_to E i ends =
      good_as limit (separated (is_mark m.Comma) p) (Listed (Sign m.Comma) (suc d) (IsGeneralTerm (suc d))) (AreGeneralTerms (suc d)) E E
      (good_list m.Comma limit (suc d) fits p (IsGeneralTerm (suc d)) ends_general E good (λ x ts rest h. moves_general h) refl ends)
      (λ xs ts rest h. generals_of h) (λ xs ts rest h. of_generals h) (λ h e. e)

  good_enclosed : Good limit (closed (is_mark m.Close) (separated (is_mark m.Comma) p)) (EnclosedGeneral d) always
  good_enclosed = good_in m.Close limit (suc d) fits (separated (is_mark m.Comma) p) (AreGeneralTerms (suc d)) closes always refl (good_list_to closes refl closed_general)

  abbrev FullList : List GTerm → Tokens → Tokens → Type 0
  FullList xs ts rest = AreGeneralTerms (suc d) xs ts ((Sign m.CloseList, suc d) ∷ rest)

  good_full : Good limit (closed (is_mark m.CloseList) (separated (is_mark m.Comma) p)) FullList always
  good_full = good_in m.CloseList limit (suc d) fits (separated (is_mark m.Comma) p) (AreGeneralTerms (suc d)) closes_list always refl (good_list_to closes_list refl closed_list_general)

  exact_listed : (ts : List Token) → Exact (listed_at p (next ts)) (InList d) limit ts (listed_at p (next ts) ts)
  exact_listed (Sign m.CloseList ∷ ts) = exact_token (listed_at p (Some (Sign m.CloseList))) (InList d) limit (Sign m.CloseList) (suc d) [] fits (λ rest. none_listed) (λ us. refl) ts
  exact_listed ts = widen (closed (is_mark m.CloseList) (separated (is_mark m.Comma) p)) FullList (InList d) limit (λ xs us rest h. some_listed h) ts (closed (is_mark m.CloseList) (separated (is_mark m.Comma) p) ts) (good_full.exact ts)

  listed_by : {h : Option Token} → GeneralHead h → (ts : List Token) → listed_at p h ts ≡ closed (is_mark m.CloseList) (separated (is_mark m.Comma) p) ts
  listed_by (data_head lower) ts = refl
  listed_by (data_head quoted) ts = refl
  listed_by (data_head upper) ts = refl
  listed_by (data_head number) ts = refl
  listed_by (data_head distinct) ts = refl
  listed_by (data_head dollar) ts = refl
  listed_by bracket ts = refl

  found_listed : (xs : List GTerm) (ts rest : Tokens) → InList d xs ts rest → Found limit (listed_at p (next (plain ts))) xs ts rest
  found_listed xs ts rest none_listed = inl (before fits done, refl)
  found_listed xs ts rest (some_listed h) =
      found_as limit (listed_at p (next (plain ts))) (closed (is_mark m.CloseList) (separated (is_mark m.Comma) p)) xs ts rest (listed_by (head_of_generals h) (plain ts)) (good_full.found xs ts rest h refl)

  good_listed : Good limit (listed p) (InList d) always
  unfolding listed
  good_listed = good_choice limit (listed p) (listed_at p) (InList d) always (λ us. refl) exact_listed (λ xs ts rest h e. found_listed xs ts rest h) (some_in_list d)

pub good_nesting : (room d limit : ℕ) → limit ≡ d + room → GoodNesting limit d (nesting room)
unfolding nesting
good_nesting zero d limit e = record {
  arguments = over_token limit (Sign m.Open) (suc d) (nesting zero).arguments (λ xs. xs) (EnclosedGeneral d) always (omega arith) (some_enclosed d) (λ us. refl);
  list = over_token limit (Sign m.OpenList) (suc d) (nesting zero).list (λ xs. xs) (InList d) always (omega arith) (some_in_list d) (λ us. refl);
  pair = λ x. over_token limit (Sign m.Colon) (suc d) ((nesting zero).pair x) (gt.Pair x) (IsGeneralTerm (suc d)) ends_general (omega arith) (some_general (suc d)) (λ us. refl);
}
good_nesting (suc room) d limit e =
    let inner = good_general_by room (suc d) limit (omega arith) (nesting room) (good_nesting room (suc d) limit (omega arith)) in record {
      arguments = behind_token limit (Sign m.Open) (suc d) (nesting (suc room)).arguments (λ xs. xs) (EnclosedGeneral d) always (closed (is_mark m.Close) (separated (is_mark m.Comma) (general_by room (nesting room)))) (omega arith)
          (good_enclosed d limit (omega arith) (general_by room (nesting room)) inner) (λ us. unmapped _ _ refl);
      list = behind_token limit (Sign m.OpenList) (suc d) (nesting (suc room)).list (λ xs. xs) (InList d) always (listed (general_by room (nesting room))) (omega arith)
          (good_listed d limit (omega arith) (general_by room (nesting room)) inner) (λ us. unmapped _ _ refl);
      pair = λ x. behind_token limit (Sign m.Colon) (suc d) ((nesting (suc room)).pair x) (gt.Pair x) (IsGeneralTerm (suc d)) ends_general (general_by room (nesting room)) (omega arith) inner (λ us. refl);
    }

pub good_general : (room d limit : ℕ) → limit ≡ d + room → Good limit (general room) (IsGeneralTerm d) ends_general
unfolding general
good_general room d limit e = good_general_by room d limit e (nesting room) (good_nesting room d limit e)
