-- The canonical text of sorts and type lines is cut into tokens that spell them.
use Rattle.std.proofs.Common.{◌≡◌, ℕ, suc, ◌≤◌, List, [], ◌∷◌, ◌++◌, map, codes, refl, arith}
use Rattle.first_fault.specs.Rules.{Listed, last, more}
use Rattle.tptp_lexer.specs.declared.token.Token.TheVariants.{Dollar, Mark as Sign}
use Rattle.tptp_lexer.specs.declared.token.Mark.TheVariants as m
use Rattle.tptp_base.specs.declared.surface.SortName.{SortName}
use Rattle.tptp_base.specs.declared.item.Shape.{Shape}
use Rattle.tptp_base.specs.declared.item.Shape.TheVariants as shape
use Rattle.tptp_base.specs.declared.item.Typing.{Typing}
use Rattle.tptp_lexer.specs.Bytes.{Text}
use Rattle.tptp_grammar.specs.Tokens.{Tokens}
use Rattle.tptp_grammar.specs.Types as g
use Rattle.tptp_grammar.specs.Types.{IsArgumentSort, IsResultSort, IsMap, IsShape, IsTyping}
use Rattle.canon_print.specs.Words.{word_text, separated}
use Rattle.canon_print.specs.Canonical.{sort_text, shape_text, typing_text}
use Rattle.canon_print.proofs.Lexed.{blank, join, sign, Given, word_facts, print_word, print_dollar}
use Rattle.canon_print.proofs.Shows.{Prints, Shows, by_rule, by_text, two, star, greater, shows_listed}

pub argument_sort_shown : (limit : ℕ) {d : ℕ} {s : SortName} {ts rest : Tokens} → IsArgumentSort d s ts rest → Given limit ts → Shows limit (λ e. IsArgumentSort e s) d (sort_text s) rest
argument_sort_shown limit (g.named_sort {d = d} {w = w} {s = s} is) given = record {
  left = given.2;
  prints = λ e le after ends more.
      let p = print_word limit e s after more (word_facts w s is given.0) ends (let fits : d ≤ limit = given.1 in omega arith) in
      record { us = (p.w, e) ∷ more; rule = g.named_sort p.is_word; lexed = p.lexed };
}
argument_sort_shown limit (g.individuals {d = d} is) given = record {
  left = given.2;
  prints = λ e le after ends more. record { us = (Dollar (codes "$i"), e) ∷ more; rule = g.individuals refl; lexed = print_dollar limit e 105 [] after more refl refl ends (let fits : d ≤ limit = given.1 in omega arith) };
}

pub result_sort_shown : (limit : ℕ) {d : ℕ} {s : SortName} {ts rest : Tokens} → IsResultSort d s ts rest → Given limit ts → Shows limit (λ e. IsResultSort e s) d (sort_text s) rest
result_sort_shown limit (g.argument_sort h) given = by_rule (λ e us more rule. g.argument_sort rule) (argument_sort_shown limit h given)
result_sort_shown limit (g.truth_values {d = d} is) given = record {
  left = given.2;
  prints = λ e le after ends more. record { us = (Dollar (codes "$o"), e) ∷ more; rule = g.truth_values refl; lexed = print_dollar limit e 111 [] after more refl refl ends (let fits : d ≤ limit = given.1 in omega arith) };
}

lower_level : {limit d : ℕ} {R : ℕ → Tokens → Tokens → Type 0} {text : Text} → Prints limit R (suc d) text → Prints limit R d text
lower_level prints = λ e le after ends more. prints e (omega arith) after ends more

map_text : (a r : SortName) {others : List SortName} {d : ℕ} {ts rest : Tokens} → Listed (Sign m.Star) d (IsArgumentSort d) others ts rest
    → codes "(" ++ (separated (codes " * ") (map sort_text (a ∷ others)) ++ (codes ") > " ++ sort_text r)) ≡ shape_text (shape.Symbol (a ∷ others) r)
map_text a r (last h) = refl
map_text a r (more h k) = refl

later_sorts : {others : List SortName} {d : ℕ} {ts rest : Tokens} (a : SortName) → Listed (Sign m.Star) d (IsArgumentSort d) others ts rest
    → sort_text a ++ (codes " * " ++ separated (codes " * ") (map sort_text others)) ≡ separated (codes " * ") (map sort_text (a ∷ others))
later_sorts a (last h) = refl
later_sorts a (more h k) = refl

-- a first sort and others
abbrev AreSorts : SortName → List SortName → ℕ → Tokens → Tokens → Type 0
AreSorts a others e us rest = (mid : Tokens) × IsArgumentSort e a us ((Sign m.Star, e) ∷ mid) × Listed (Sign m.Star) e (IsArgumentSort e) others mid rest

product_shown : (limit : ℕ) {d : ℕ} {a : SortName} {others : List SortName} {ts mid rest : Tokens} → IsArgumentSort d a ts ((Sign m.Star, d) ∷ mid) → Listed (Sign m.Star) d (IsArgumentSort d) others mid rest → Given limit ts
    → Shows limit (AreSorts a others) d (separated (codes " * ") (map sort_text (a ∷ others))) rest
product_shown limit {a = a} h k given =
    by_text (later_sorts a k) (two star (λ e us ts more first second. (ts, first, second)) (argument_sort_shown limit h given) (λ rest. shows_listed IsArgumentSort sort_text star (λ x ts more rule also. argument_sort_shown limit rule also) k rest))

map_shown : (limit : ℕ) {d : ℕ} {s : Shape} {ts rest : Tokens} → IsMap d s ts rest → Given limit ts → Shows limit (λ e. IsMap e s) d (shape_text s) rest
map_shown limit (g.map_of_one {a = a} {r = r} h k) given = two greater (λ e us ts more first second. g.map_of_one first second) (argument_sort_shown limit h given) (λ rest. result_sort_shown limit k rest)
map_shown limit (g.map_of_more {d = d} {a = a} {r = r} {others = others} {rest = rest} h k last_sort) given =
    let most : suc d ≤ limit = given.1 in
    let product = product_shown limit h k given.2 in
    let result = result_sort_shown limit last_sort product.left.2.2 in
    let sorts = separated (codes " * ") (map sort_text (a ∷ others)) in
    let tail = codes ") > " ++ sort_text r in
    by_text (map_text a r k) (record {
      left = result.left;
      prints = λ e le after ends more.
          let fits : suc e ≤ limit = omega arith in
          let fit : e ≤ limit = omega arith in
          let p = result.prints e le after ends more in
          let s = product.prints (suc e) (omega arith) (tail ++ after) refl ((Sign m.Close, suc e) ∷ (Sign m.Greater, e) ∷ p.us) in
          record {
            us = (Sign m.Open, suc e) ∷ s.us;
            rule = (let (mid, first, second) = s.rule in g.map_of_more first second p.rule);
            lexed = sign m.Open refl fits (join sorts tail s.lexed (sign m.Close refl fits (blank refl (sign m.Greater refl fit (blank refl p.lexed)))));
          };
    })
map_shown limit (g.map_in_parentheses h) given = (let inner = map_shown limit h given.2 in record { left = inner.left.2; prints = lower_level inner.prints })

shape_shown : (limit : ℕ) {d : ℕ} {s : Shape} {ts rest : Tokens} → IsShape d s ts rest → Given limit ts → Shows limit (λ e. IsShape e s) d (shape_text s) rest
shape_shown limit (g.sort_of_sorts {d = d} is) given = record {
  left = given.2;
  prints = λ e le after ends more. record { us = (Dollar (codes "$tType"), e) ∷ more; rule = g.sort_of_sorts refl; lexed = print_dollar limit e 116 (codes "Type") after more refl refl ends (let fits : d ≤ limit = given.1 in omega arith) };
}
shape_shown limit (g.sort_of_constant h) given = by_rule (λ e us more rule. g.sort_of_constant rule) (result_sort_shown limit h given)
shape_shown limit (g.map h) given = by_rule (λ e us more rule. g.map rule) (map_shown limit h given)

pub typing_shown : (limit : ℕ) {d : ℕ} {t : Typing} {ts rest : Tokens} → IsTyping d t ts rest → Given limit ts → Shows limit (λ e. IsTyping e t) d (typing_text t) rest
typing_shown limit (g.typing {d = d} {w = w} {f = f} {s = s} is h) given =
    let fits : d ≤ limit = given.1 in
    let inner = shape_shown limit h given.2.2 in
    let tail = codes ": " ++ shape_text s in
    record {
      left = inner.left;
      prints = λ e le after ends more.
          let second = inner.prints e le after ends more in
          let p = print_word limit e f (tail ++ after) ((Sign m.Colon, e) ∷ second.us) (word_facts w f is given.0) refl (omega arith) in
          record { us = (p.w, e) ∷ (Sign m.Colon, e) ∷ second.us; rule = g.typing p.is_word second.rule; lexed = join (word_text f) tail p.lexed (sign m.Colon refl (omega arith) (blank refl second.lexed)) };
    }
typing_shown limit (g.typing_in_parentheses h) given = (let inner = typing_shown limit h given.2 in record { left = inner.left.2; prints = lower_level inner.prints })
