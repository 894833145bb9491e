-- The readers of sorts and maps are exact and find all that is derived.
use Rattle.std.proofs.Common.{◌≡◌, Bool, true, false, ℕ, zero, suc, ◌+◌, ◌≤◌, ◌<◌, List, [], ◌∷◌, length, Option, Some, Ok, Err, inl, refl, sym, ap, subst, codes, arith}
use Rattle.std.specs.Str.{bytes_eq}
use Rattle.first_fault.specs.Nesting.{plain}
use Rattle.first_fault.proofs.NestingFacts.{done, before}
use Rattle.first_fault.specs.code.Reading.{Unexpected, Reader, and_then, next, closed, opened, separated}
use Rattle.first_fault.specs.Rules.{Listed}
use Rattle.first_fault.proofs.Exact.{Exact, Inhabited, exact_stop, exact_token}
use Rattle.first_fault.proofs.Found.{Found, found_as}
use Rattle.first_fault.proofs.Good.{Good, GoodAt, After, after, Both, both, widen, alike, good_both, good_choice, good_map, behind_token, over_token, unmapped, always}
use Rattle.tptp_lexer.specs.declared.token.Token.{Token}
use Rattle.tptp_lexer.specs.declared.token.Token.TheVariants.{Lower, Quoted, Dollar, Mark as Sign}
use Rattle.tptp_lexer.specs.declared.token.Mark.TheVariants as m
use Rattle.tptp_base.specs.declared.surface.SortName.{SortName}
use Rattle.tptp_base.specs.declared.surface.SortName.TheVariants as sort
use Rattle.tptp_base.specs.declared.item.Shape.{Shape}
use Rattle.tptp_base.specs.declared.item.Shape.TheVariants as sh
use Rattle.tptp_grammar.specs.Tokens.{Text, Tokens, word}
use Rattle.tptp_grammar.specs.Types as g
use Rattle.tptp_grammar.specs.Types.{IsArgumentSort, IsResultSort, IsMap}
use Rattle.tptp_grammar.specs.code.ReadTerms.{is_mark, same_mark}
use Rattle.tptp_grammar.specs.code.ReadTypes.{argument_sort_at, argument_sort, result_sort_at, result_sort, map_from, inside_from_at, inside_from, inside_at, inside, mapping_at, mapping_by, map_open}
use Rattle.tptp_grammar.proofs.Marks.{text_is, closes, sees_mark, good_in, good_behind, good_list}

-- ---- sorts

pub moves_argument_sort : {d : ℕ} {s : SortName} {ts rest : Tokens} → IsArgumentSort d s ts rest → length rest < length ts
moves_argument_sort (g.named_sort e) = omega arith
moves_argument_sort (g.individuals e) = omega arith

pub some_argument_sort : (d : ℕ) → Inhabited (IsArgumentSort d)
some_argument_sort d = record { value = sort.Word []; text = λ rest. (Lower [], d) ∷ rest; spells = λ rest. g.named_sort refl }

some_result_sort : (d : ℕ) → Inhabited (IsResultSort d)
some_result_sort d = record { value = sort.Word []; text = λ rest. (Lower [], d) ∷ rest; spells = λ rest. g.argument_sort (g.named_sort refl) }

named_read : (w : Token) (s : Text) → word w ≡ Some s → (us : List Token) → argument_sort (w ∷ us) ≡ Ok (sort.Word s, us)
unfolding argument_sort
named_read (Lower x) s e us = let same : x ≡ s = cc in ap (λ n. Ok (sort.Word n, us)) same
named_read (Quoted x) s e us = let same : x ≡ s = cc in ap (λ n. Ok (sort.Word n, us)) same
named_read w s e us = cc

individuals_read : (w : Text) → w ≡ codes "$i" → (us : List Token) → argument_sort_at (Some (Dollar w)) (Dollar w ∷ us) ≡ Ok (sort.Individual, us)
individuals_read w e us = subst (λ v. argument_sort_at (Some (Dollar v)) (Dollar w ∷ us) ≡ Ok (sort.Individual, us)) (sym e) refl

no_individuals : (w : Text) → bytes_eq w (codes "$i") ≡ false → (us : List Token) → argument_sort_at (Some (Dollar w)) us ≡ Err (Unexpected, us)
no_individuals w e us = rw e refl

truth_read : (w : Text) → w ≡ codes "$o" → (us : List Token) → result_sort_at (Some (Dollar w)) (Dollar w ∷ us) ≡ Ok (sort.Truth, us)
truth_read w e us = subst (λ v. result_sort_at (Some (Dollar v)) (Dollar w ∷ us) ≡ Ok (sort.Truth, us)) (sym e) refl

no_truth : (w : Text) → bytes_eq w (codes "$o") ≡ false → (us : List Token) → result_sort_at (Some (Dollar w)) us ≡ argument_sort us
no_truth w e us = rw e refl

module _ (d limit : ℕ) (fits : d ≤ limit) where
  exact_dollar : (w : Text) (b : Bool) → bytes_eq w (codes "$i") ≡ b → (ts : List Token) → Exact (argument_sort_at (Some (Dollar w))) (IsArgumentSort d) limit (Dollar w ∷ ts) (argument_sort_at (Some (Dollar w)) (Dollar w ∷ ts))
  exact_dollar w true e ts =
      let is = text_is w (codes "$i") e in
      subst (Exact (argument_sort_at (Some (Dollar w))) (IsArgumentSort d) limit (Dollar w ∷ ts)) (sym (individuals_read w is ts))
      (exact_token (argument_sort_at (Some (Dollar w))) (IsArgumentSort d) limit (Dollar w) d sort.Individual fits (λ rest. g.individuals is) (individuals_read w is) ts)
  exact_dollar w false e ts =
      subst (Exact (argument_sort_at (Some (Dollar w))) (IsArgumentSort d) limit (Dollar w ∷ ts)) (sym (no_individuals w e (Dollar w ∷ ts)))
      (exact_stop (argument_sort_at (Some (Dollar w))) (IsArgumentSort d) limit (Dollar w ∷ ts) (some_argument_sort d) (λ other n. no_individuals w e other))

  exact_argument_sort : (ts : List Token) → Exact (argument_sort_at (next ts)) (IsArgumentSort d) limit ts (argument_sort_at (next ts) ts)
  exact_argument_sort (Lower x ∷ ts) = exact_token (argument_sort_at (Some (Lower x))) (IsArgumentSort d) limit (Lower x) d (sort.Word x) fits (λ rest. g.named_sort refl) (λ us. refl) ts
  exact_argument_sort (Quoted x ∷ ts) = exact_token (argument_sort_at (Some (Quoted x))) (IsArgumentSort d) limit (Quoted x) d (sort.Word x) fits (λ rest. g.named_sort refl) (λ us. refl) ts
  exact_argument_sort (Dollar w ∷ ts) = exact_dollar w (bytes_eq w (codes "$i")) refl ts
  exact_argument_sort ts = exact_stop (argument_sort_at (next ts)) (IsArgumentSort d) limit ts (some_argument_sort d) (λ other e. refl)

  found_argument_sort : (s : SortName) (ts rest : Tokens) → IsArgumentSort d s ts rest → Found limit (argument_sort_at (next (plain ts))) s ts rest
  unfolding argument_sort
  found_argument_sort s ts rest (g.named_sort {w = w} {s = x} e) = inl (before fits done, named_read w x e (plain rest))
  found_argument_sort s ts rest (g.individuals {w = w} e) = inl (before fits done, individuals_read w e (plain rest))

  pub good_argument_sort : Good limit argument_sort (IsArgumentSort d) always
  unfolding argument_sort
  good_argument_sort = good_choice limit argument_sort argument_sort_at (IsArgumentSort d) always (λ us. refl) exact_argument_sort (λ s ts rest h e. found_argument_sort s ts rest h) (some_argument_sort d)

  exact_result_dollar : (w : Text) (b : Bool) → bytes_eq w (codes "$o") ≡ b → (ts : List Token) → Exact (result_sort_at (Some (Dollar w))) (IsResultSort d) limit (Dollar w ∷ ts) (result_sort_at (Some (Dollar w)) (Dollar w ∷ ts))
  exact_result_dollar w true e ts =
      let is = text_is w (codes "$o") e in
      subst (Exact (result_sort_at (Some (Dollar w))) (IsResultSort d) limit (Dollar w ∷ ts)) (sym (truth_read w is ts))
      (exact_token (result_sort_at (Some (Dollar w))) (IsResultSort d) limit (Dollar w) d sort.Truth fits (λ rest. g.truth_values is) (truth_read w is) ts)
  exact_result_dollar w false e ts =
      alike (result_sort_at (Some (Dollar w))) argument_sort (IsArgumentSort d) (IsResultSort d) limit (no_truth w e) (λ s us rest h. g.argument_sort h) (Dollar w ∷ ts) (good_argument_sort.exact (Dollar w ∷ ts))

  exact_result_sort : (ts : List Token) → Exact (result_sort_at (next ts)) (IsResultSort d) limit ts (result_sort_at (next ts) ts)
  exact_result_sort (Dollar w ∷ ts) = exact_result_dollar w (bytes_eq w (codes "$o")) refl ts
  exact_result_sort ts = widen argument_sort (IsArgumentSort d) (IsResultSort d) limit (λ s us rest h. g.argument_sort h) ts (argument_sort ts) (good_argument_sort.exact ts)

  result_named : (w : Token) (s : Text) → word w ≡ Some s → (us : List Token) → result_sort_at (Some w) us ≡ argument_sort us
  result_named (Lower x) s e us = refl
  result_named (Quoted x) s e us = refl
  result_named w s e us = cc

  result_individuals : (w : Text) → w ≡ codes "$i" → (us : List Token) → result_sort_at (Some (Dollar w)) us ≡ argument_sort us
  result_individuals w e us = subst (λ v. result_sort_at (Some (Dollar v)) us ≡ argument_sort us) (sym e) refl

  result_as : (s : SortName) (ts rest : Tokens) → IsArgumentSort d s ts rest → result_sort_at (next (plain ts)) (plain ts) ≡ argument_sort (plain ts)
  result_as s ts rest (g.named_sort {w = w} {s = x} e) = result_named w x e (w ∷ plain rest)
  result_as s ts rest (g.individuals {w = w} e) = result_individuals w e (Dollar w ∷ plain rest)

  found_result_sort : (s : SortName) (ts rest : Tokens) → IsResultSort d s ts rest → Found limit (result_sort_at (next (plain ts))) s ts rest
  found_result_sort s ts rest (g.argument_sort h) = found_as limit (result_sort_at (next (plain ts))) argument_sort s ts rest (result_as s ts rest h) (good_argument_sort.found s ts rest h refl)
  found_result_sort s ts rest (g.truth_values {w = w} e) = inl (before fits done, truth_read w e (plain rest))

  pub good_result_sort : Good limit result_sort (IsResultSort d) always
  unfolding result_sort
  good_result_sort = good_choice limit result_sort result_sort_at (IsResultSort d) always (λ us. refl) exact_result_sort (λ s ts rest h e. found_result_sort s ts rest h) (some_result_sort d)

-- ---- maps

pub data MapFrom (d : ℕ) (sorts : List SortName) : Shape → Tokens → Tokens → Type 0 where
  arrow : {r : SortName} {mid rest : Tokens} → IsResultSort d r mid rest → MapFrom d sorts (sh.Symbol sorts r) ((Sign m.Greater, d) ∷ mid) rest

arrow_join : (d : ℕ) (sorts : List SortName) (r : SortName) (ts rest : Tokens) → After (Sign m.Greater) d (λ x. x) (IsResultSort d) r ts rest → MapFrom d sorts (sh.Symbol sorts r) ts rest
arrow_join d sorts r ts rest (after h) = arrow h

arrow_split : (d : ℕ) (sorts : List SortName) (s : Shape) (ts rest : Tokens) → MapFrom d sorts s ts rest → (r : SortName) × After (Sign m.Greater) d (λ (x : SortName). x) (IsResultSort d) r ts rest × (sh.Symbol sorts r ≡ s)
arrow_split d sorts s ts rest (arrow {r = r} h) = (r, after h, refl)

pub good_map_from : (d limit : ℕ) → d ≤ limit → (sorts : List SortName) → Good limit (map_from sorts) (MapFrom d sorts) always
unfolding map_from
good_map_from d limit fits sorts =
    good_map limit (opened (is_mark m.Greater) result_sort) (map_from sorts) (After (Sign m.Greater) d (λ x. x) (IsResultSort d)) (MapFrom d sorts) always (sh.Symbol sorts) (λ ts. refl)
    (good_behind m.Greater limit d fits result_sort (IsResultSort d) always (good_result_sort d limit fits)) (arrow_join d sorts) (arrow_split d sorts)

-- the further sorts up to the closing parenthesis
abbrev Factors : ℕ → List SortName → Tokens → Tokens → Type 0
Factors d others ts rest = Listed (Sign m.Star) (suc d) (IsArgumentSort (suc d)) others ts ((Sign m.Close, suc d) ∷ rest)

abbrev MapOf : ℕ → SortName → List SortName → Shape → Tokens → Tokens → Type 0
MapOf d a others = MapFrom d (a ∷ others)

data InsideFrom (d : ℕ) (a : SortName) : Shape → Tokens → Tokens → Type 0 where
  product : {s : Shape} {ts rest : Tokens} → After (Sign m.Star) (suc d) (λ x. x) (Both (Factors d) (MapOf d a)) s ts rest → InsideFrom d a s ts rest
  unary : {s : Shape} {ts rest : Tokens} → MapFrom (suc d) (a ∷ []) s ts ((Sign m.Close, suc d) ∷ rest) → InsideFrom d a s ts rest

-- behind the opening parenthesis of a map
pub data Inside (d : ℕ) : Shape → Tokens → Tokens → Type 0 where
  in_map : {s : Shape} {ts rest : Tokens} → IsMap (suc d) s ts ((Sign m.Close, suc d) ∷ rest) → Inside d s ts rest
  in_product : {a r : SortName} {others : List SortName} {ts mid end rest : Tokens} → IsArgumentSort (suc d) a ts ((Sign m.Star, suc d) ∷ mid)
      → Listed (Sign m.Star) (suc d) (IsArgumentSort (suc d)) others mid ((Sign m.Close, suc d) ∷ (Sign m.Greater, d) ∷ end) → IsResultSort d r end rest → Inside d (sh.Symbol (a ∷ others) r) ts rest

abbrev pub OpenMap : ℕ → Shape → Tokens → Tokens → Type 0
OpenMap d = After (Sign m.Open) (suc d) (λ x. x) (Inside d)

-- what the sort before it makes of a map
join_inside : (d : ℕ) (s : Shape) (ts rest : Tokens) → Both (IsArgumentSort (suc d)) (InsideFrom d) s ts rest → Inside d s ts rest
join_inside d s ts rest (both h (product (after (both k (arrow l))))) = in_product h k l
join_inside d s ts rest (both h (unary (arrow k))) = in_map (g.map_of_one h k)

pub of_open : (d : ℕ) (s : Shape) (ts rest : Tokens) → OpenMap d s ts rest → IsMap d s ts rest
of_open d s ts rest (after (in_map h)) = g.map_in_parentheses h
of_open d s ts rest (after (in_product h k l)) = g.map_of_more h k l

of_unary : (d : ℕ) (s : Shape) (ts rest : Tokens) → Both (IsArgumentSort d) (λ a. MapFrom d (a ∷ [])) s ts rest → IsMap d s ts rest
of_unary d s ts rest (both h (arrow k)) = g.map_of_one h k

some_map : (d : ℕ) → Inhabited (IsMap d)
some_map d = record { value = sh.Symbol (sort.Word [] ∷ []) (sort.Word []); text = λ rest. (Lower [], d) ∷ (Sign m.Greater, d) ∷ (Lower [], d) ∷ rest; spells = λ rest. g.map_of_one (g.named_sort refl) (g.argument_sort (g.named_sort refl)) }

some_inside : (d : ℕ) → Inhabited (Inside d)
some_inside d = record {
  value = sh.Symbol (sort.Word [] ∷ []) (sort.Word []);
  text = λ rest. (Lower [], suc d) ∷ (Sign m.Greater, suc d) ∷ (Lower [], suc d) ∷ (Sign m.Close, suc d) ∷ rest;
  spells = λ rest. in_map (g.map_of_one (g.named_sort refl) (g.argument_sort (g.named_sort refl)));
}

closed_factors : (h : Option Token) → closes h ≡ true → (always h ≡ true) × (sees_mark m.Star h ≡ false)
unfolding same_mark
closed_factors (Some (Sign m.Close)) e = (refl, refl)
closed_factors h e = cc

module _ (d limit : ℕ) (fits : suc d ≤ limit) (a : SortName) where
  good_factors : Good limit (closed (is_mark m.Close) (separated (is_mark m.Star) argument_sort)) (Factors d) always
  good_factors =
      good_in m.Close limit (suc d) fits (separated (is_mark m.Star) argument_sort) (Listed (Sign m.Star) (suc d) (IsArgumentSort (suc d))) closes always refl
      (good_list m.Star limit (suc d) fits argument_sort (IsArgumentSort (suc d)) always closes (good_argument_sort (suc d) limit fits) (λ x ts rest h. moves_argument_sort h) refl closed_factors)

  abbrev factors : Reader Token Shape
  factors ts = and_then (closed (is_mark m.Close) (separated (is_mark m.Star) argument_sort) ts) (λ others. map_from (a ∷ others))

  star : GoodAt limit (Sign m.Star) (inside_from_at a (Some (Sign m.Star))) (After (Sign m.Star) (suc d) (λ x. x) (Both (Factors d) (MapOf d a))) always
  star = behind_token limit (Sign m.Star) (suc d) (inside_from_at a (Some (Sign m.Star))) (λ x. x) (Both (Factors d) (MapOf d a)) always factors fits
      (good_both limit (closed (is_mark m.Close) (separated (is_mark m.Star) argument_sort)) (λ others. map_from (a ∷ others)) (Factors d) (MapOf d a) always always (λ x v mid rest h e. refl) good_factors (λ others can. good_map_from d limit (omega arith) (a ∷ others)))
      (λ us. unmapped _ _ refl)

  abbrev Unary : Shape → Tokens → Tokens → Type 0
  Unary s ts rest = MapFrom (suc d) (a ∷ []) s ts ((Sign m.Close, suc d) ∷ rest)

  good_unary : Good limit (closed (is_mark m.Close) (map_from (a ∷ []))) Unary always
  good_unary = good_in m.Close limit (suc d) fits (map_from (a ∷ [])) (MapFrom (suc d) (a ∷ [])) always always refl (good_map_from (suc d) limit fits (a ∷ []))

  exact_inside_from : (ts : List Token) → Exact (inside_from_at a (next ts)) (InsideFrom d a) limit ts (inside_from_at a (next ts) ts)
  exact_inside_from (Sign m.Star ∷ ts) =
      widen (inside_from_at a (Some (Sign m.Star))) (After (Sign m.Star) (suc d) (λ x. x) (Both (Factors d) (MapOf d a))) (InsideFrom d a) limit (λ s us rest h. product h) (Sign m.Star ∷ ts) (inside_from_at a (Some (Sign m.Star)) (Sign m.Star ∷ ts)) (star.exact ts)
  exact_inside_from ts = widen (closed (is_mark m.Close) (map_from (a ∷ []))) Unary (InsideFrom d a) limit (λ s us rest h. unary h) ts (closed (is_mark m.Close) (map_from (a ∷ [])) ts) (good_unary.exact ts)

  found_inside_from : (s : Shape) (ts rest : Tokens) → InsideFrom d a s ts rest → Found limit (inside_from_at a (next (plain ts))) s ts rest
  found_inside_from s ts rest (product (after {ts = us} h)) = star.found s ((Sign m.Star, suc d) ∷ us) rest (after h) refl
  found_inside_from s ts rest (unary (arrow {mid = mid} h)) = good_unary.found s ((Sign m.Greater, suc d) ∷ mid) rest (arrow h) refl

  good_inside_from : Good limit (inside_from a) (InsideFrom d a) always
  unfolding inside_from
  good_inside_from = good_choice limit (inside_from a) (inside_from_at a) (InsideFrom d a) always (λ us. refl) exact_inside_from (λ s ts rest h e. found_inside_from s ts rest h)
      (record { value = good_unary.some.value; text = good_unary.some.text; spells = λ rest. unary (good_unary.some.spells rest) })

-- what a sort begins with
pub data SortHead : Option Token → Type 0 where
  lower : {x : Text} → SortHead (Some (Lower x))
  quoted : {x : Text} → SortHead (Some (Quoted x))
  individual : {w : Text} → w ≡ codes "$i" → SortHead (Some (Dollar w))

sort_word : (w : Token) (s : Text) → word w ≡ Some s → SortHead (Some w)
sort_word (Lower x) s e = lower
sort_word (Quoted x) s e = quoted
sort_word w s e = cc

pub head_of_sort : {d : ℕ} {s : SortName} {ts rest : Tokens} → IsArgumentSort d s ts rest → SortHead (next (plain ts))
head_of_sort (g.named_sort {w = w} {s = x} e) = sort_word w x e
head_of_sort (g.individuals e) = individual e

module _ (d limit : ℕ) (fits : suc d ≤ limit) (mapping : Reader Token Shape) (good : Good limit mapping (IsMap (suc d)) always) where
  abbrev Nested_map : Shape → Tokens → Tokens → Type 0
  Nested_map s ts rest = IsMap (suc d) s ts ((Sign m.Close, suc d) ∷ rest)

  good_nested : Good limit (closed (is_mark m.Close) mapping) Nested_map always
  good_nested = good_in m.Close limit (suc d) fits mapping (IsMap (suc d)) always always refl good

  abbrev sort_first : Reader Token Shape
  sort_first ts = and_then (argument_sort ts) inside_from

  good_sort_first : Good limit sort_first (Both (IsArgumentSort (suc d)) (InsideFrom d)) always
  good_sort_first = good_both limit argument_sort inside_from (IsArgumentSort (suc d)) (InsideFrom d) always always (λ x v mid rest h e. refl) (good_argument_sort (suc d) limit fits) (λ a can. good_inside_from d limit fits a)

  exact_inside : (ts : List Token) → Exact (inside_at mapping (next ts)) (Inside d) limit ts (inside_at mapping (next ts) ts)
  exact_inside (Sign m.Open ∷ ts) = widen (closed (is_mark m.Close) mapping) Nested_map (Inside d) limit (λ s us rest h. in_map h) (Sign m.Open ∷ ts) (closed (is_mark m.Close) mapping (Sign m.Open ∷ ts)) (good_nested.exact (Sign m.Open ∷ ts))
  exact_inside ts = widen sort_first (Both (IsArgumentSort (suc d)) (InsideFrom d)) (Inside d) limit (join_inside d) ts (sort_first ts) (good_sort_first.exact ts)

  inside_by : {h : Option Token} → SortHead h → (ts : List Token) → inside_at mapping h ts ≡ sort_first ts
  inside_by lower ts = refl
  inside_by quoted ts = refl
  inside_by (individual e) ts = refl

  found_inside : (s : Shape) (ts rest : Tokens) → Inside d s ts rest → Found limit (inside_at mapping (next (plain ts))) s ts rest
  found_inside s ts rest (in_map (g.map_of_one h k)) =
      found_as limit (inside_at mapping (next (plain ts))) sort_first s ts rest (inside_by (head_of_sort h) (plain ts)) (good_sort_first.found s ts rest (both h (unary (arrow k))) refl)
  found_inside s ts rest (in_map (g.map_of_more h k l)) = good_nested.found s ts rest (g.map_of_more h k l) refl
  found_inside s ts rest (in_map (g.map_in_parentheses h)) = good_nested.found s ts rest (g.map_in_parentheses h) refl
  found_inside s ts rest (in_product h k l) =
      found_as limit (inside_at mapping (next (plain ts))) sort_first s ts rest (inside_by (head_of_sort h) (plain ts)) (good_sort_first.found s ts rest (both h (product (after (both k (arrow l))))) refl)

  good_inside : Good limit (inside mapping) (Inside d) always
  unfolding inside
  good_inside = good_choice limit (inside mapping) (inside_at mapping) (Inside d) always (λ us. refl) exact_inside (λ s ts rest h e. found_inside s ts rest h) (some_inside d)

module _ (d limit : ℕ) (fits : d ≤ limit) (nested : Reader Token Shape) (good : GoodAt limit (Sign m.Open) nested (OpenMap d) always) where
  abbrev unary_map : Reader Token Shape
  unary_map ts = and_then (argument_sort ts) (λ a. map_from (a ∷ []))

  good_unary_map : Good limit unary_map (Both (IsArgumentSort d) (λ a. MapFrom d (a ∷ []))) always
  good_unary_map = good_both limit argument_sort (λ a. map_from (a ∷ [])) (IsArgumentSort d) (λ a. MapFrom d (a ∷ [])) always always (λ x v mid rest h e. refl) (good_argument_sort d limit fits) (λ a can. good_map_from d limit fits (a ∷ []))

  exact_mapping : (ts : List Token) → Exact (mapping_at nested (next ts)) (IsMap d) limit ts (mapping_at nested (next ts) ts)
  exact_mapping (Sign m.Open ∷ ts) = widen nested (OpenMap d) (IsMap d) limit (of_open d) (Sign m.Open ∷ ts) (nested (Sign m.Open ∷ ts)) (good.exact ts)
  exact_mapping ts = widen unary_map (Both (IsArgumentSort d) (λ a. MapFrom d (a ∷ []))) (IsMap d) limit (of_unary d) ts (unary_map ts) (good_unary_map.exact ts)

  mapping_by_head : {h : Option Token} → SortHead h → (ts : List Token) → mapping_at nested h ts ≡ unary_map ts
  mapping_by_head lower ts = refl
  mapping_by_head quoted ts = refl
  mapping_by_head (individual e) ts = refl

  found_mapping : (s : Shape) (ts rest : Tokens) → IsMap d s ts rest → Found limit (mapping_at nested (next (plain ts))) s ts rest
  found_mapping s ts rest (g.map_of_one h k) =
      found_as limit (mapping_at nested (next (plain ts))) unary_map s ts rest (mapping_by_head (head_of_sort h) (plain ts)) (good_unary_map.found s ts rest (both h (arrow k)) refl)
  found_mapping s ts rest (g.map_of_more h k l) = good.found s ts rest (after (in_product h k l)) refl
  found_mapping s ts rest (g.map_in_parentheses h) = good.found s ts rest (after (in_map h)) refl

  good_mapping_by : Good limit (mapping_by nested) (IsMap d) always
  unfolding mapping_by
  good_mapping_by = good_choice limit (mapping_by nested) (mapping_at nested) (IsMap d) always (λ us. refl) exact_mapping (λ s ts rest h e. found_mapping s ts rest h) (some_map d)

pub good_map_open : (room d limit : ℕ) → limit ≡ d + room → GoodAt limit (Sign m.Open) (map_open room) (OpenMap d) always
unfolding map_open
good_map_open zero d limit e = over_token limit (Sign m.Open) (suc d) (map_open zero) (λ x. x) (Inside d) always (omega arith) (some_inside d) (λ us. refl)
good_map_open (suc room) d limit e =
    behind_token limit (Sign m.Open) (suc d) (map_open (suc room)) (λ x. x) (Inside d) always (inside (mapping_by (map_open room))) (omega arith)
    (good_inside d limit (omega arith) (mapping_by (map_open room)) (good_mapping_by (suc d) limit (omega arith) (map_open room) (good_map_open room (suc d) limit (omega arith))))
    (λ us. unmapped _ _ refl)
