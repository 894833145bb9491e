-- The readers of terms are exact and find all that is derived.
use Rattle.std.proofs.Common.{◌≡◌, true, false, ℕ, zero, suc, ◌+◌, ◌≤◌, ◌<◌, List, [], ◌∷◌, length, Option, Some, Ok, inl, refl, ap, arith}
use Rattle.first_fault.specs.Nesting.{plain}
use Rattle.first_fault.proofs.NestingFacts.{done, before}
use Rattle.first_fault.specs.code.Reading.{Reader, closed, separated, next}
use Rattle.first_fault.specs.Rules.{Listed, last, more}
use Rattle.first_fault.proofs.Exact.{Exact, Inhabited, exact_map, exact_done, exact_stop, exact_token}
use Rattle.first_fault.proofs.Found.{Found, found_map}
use Rattle.first_fault.proofs.Good.{Good, GoodAt, After, after, widen, behind_token, over_token, unmapped, good_as, good_choice, always}
use Rattle.tptp_lexer.specs.declared.token.Token.{Token}
use Rattle.tptp_lexer.specs.declared.token.Token.TheVariants.{Lower, Quoted, Upper, Mark as Sign}
use Rattle.tptp_lexer.specs.declared.token.Mark.TheVariants as m
use Rattle.tptp_base.specs.declared.surface.STerm.{STerm}
use Rattle.tptp_base.specs.declared.surface.STerm.TheVariants as tm
use Rattle.tptp_grammar.specs.Tokens.{Text, Tokens, word}
use Rattle.tptp_grammar.specs.Terms as g
use Rattle.tptp_grammar.specs.Terms.{IsTerm, IsApplied, AreTerms}
use Rattle.tptp_grammar.specs.code.ReadTerms.{is_mark, same_mark, applied_at, applied, term_at, term_by, arguments, term}
use Rattle.tptp_grammar.proofs.Marks.{ends_term, closes, sees_mark, good_in, good_list}

-- ---- each takes a token

mutual
  pub moves_term : {d : ℕ} {x : STerm} {ts rest : Tokens} → IsTerm d x ts rest → length rest < length ts
  moves_term g.variable = omega arith
  moves_term (g.function h) = moves_applied h

  pub moves_applied : {d : ℕ} {f : Text} {xs : List STerm} {ts rest : Tokens} → IsApplied d f xs ts rest → length rest < length ts
  moves_applied (g.constant e) = omega arith
  moves_applied (g.application e h) = omega (arith, moves_terms h)

  moves_terms : {d : ℕ} {xs : List STerm} {ts rest : Tokens} → AreTerms d xs ts rest → length rest < length ts
  moves_terms (g.last_term h) = moves_term h
  moves_terms (g.more_terms h k) = omega (arith, moves_term h, moves_terms k)

-- ---- a list of terms as a list

terms_of : {d : ℕ} {xs : List STerm} {ts rest : Tokens} → Listed (Sign m.Comma) d (IsTerm d) xs ts rest → AreTerms d xs ts rest
terms_of (last h) = g.last_term h
terms_of (more h k) = g.more_terms h (terms_of k)

of_terms : {d : ℕ} {xs : List STerm} {ts rest : Tokens} → AreTerms d xs ts rest → Listed (Sign m.Comma) d (IsTerm d) xs ts rest
of_terms (g.last_term h) = last h
of_terms (g.more_terms h k) = more h (of_terms k)

-- ---- what the readers take

-- arguments behind and from their opening parenthesis on
abbrev pub Enclosed : ℕ → List STerm → Tokens → Tokens → Type 0
Enclosed d xs ts rest = AreTerms (suc d) xs ts ((Sign m.Close, suc d) ∷ rest)

abbrev pub Arguments : ℕ → List STerm → Tokens → Tokens → Type 0
Arguments d = After (Sign m.Open) (suc d) (λ xs. xs) (Enclosed d)

-- what may follow a word
data Follows (d : ℕ) (f : Text) : STerm → Tokens → Tokens → Type 0 where
  alone : {rest : Tokens} → Follows d f (tm.App f []) rest rest
  with_arguments : {xs : List STerm} {ts rest : Tokens} → Arguments d xs ts rest → Follows d f (tm.App f xs) ts rest

applied_by : {d : ℕ} {w : Token} {f : Text} {v : STerm} {ts rest : Tokens} → word w ≡ Some f → Follows d f v ts rest → IsTerm d v ((w, d) ∷ ts) rest
applied_by e alone = g.function (g.constant e)
applied_by e (with_arguments (after h)) = g.function (g.application e h)

by_word : (arguments : Reader Token (List STerm)) (w : Token) (f : Text) → word w ≡ Some f → (us : List Token) → term_at arguments (Some w) (w ∷ us) ≡ applied arguments f us
by_word arguments (Lower name) f e us = let same : name ≡ f = cc in ap (λ n. applied arguments n us) same
by_word arguments (Quoted name) f e us = let same : name ≡ f = cc in ap (λ n. applied arguments n us) same
by_word arguments w f e us = cc

module _ (limit d : ℕ) (fits : d ≤ limit) (args : Reader Token (List STerm)) (good_args : GoodAt limit (Sign m.Open) args (Arguments d) always) where
  exact_applied : (f : Text) (ts : List Token) → Exact (applied_at args f (next ts)) (Follows d f) limit ts (applied_at args f (next ts) ts)
  exact_applied f (Sign m.Open ∷ ts) =
      exact_map args (applied_at args f (Some (Sign m.Open))) (Arguments d) (Follows d f) limit (tm.App f) (λ xs us rest h. with_arguments h) (λ us. refl) (Sign m.Open ∷ ts) (args (Sign m.Open ∷ ts)) (good_args.exact ts)
  exact_applied f ts = exact_done (applied_at args f (next ts)) (Follows d f) limit ts (tm.App f []) (λ rest. alone) (λ other e. refl)

  applied_ends : (f : Text) (h : Option Token) → ends_term h ≡ true → (ts : List Token) → applied_at args f h ts ≡ Ok (tm.App f [], ts)
  applied_ends f (Some (Sign m.Open)) e ts = cc
  applied_ends f h e ts = refl

  found_applied : (f : Text) (x : STerm) (ts rest : Tokens) → Follows d f x ts rest → ends_term (next (plain rest)) ≡ true → Found limit (applied_at args f (next (plain ts))) x ts rest
  found_applied f x ts rest alone e = inl (done, applied_ends f (next (plain rest)) e (plain rest))
  found_applied f x ts rest (with_arguments {xs = xs} (after {ts = us} h)) e =
      found_map limit args (applied_at args f (Some (Sign m.Open))) (tm.App f) xs ((Sign m.Open, suc d) ∷ us) rest refl (good_args.found xs ((Sign m.Open, suc d) ∷ us) rest (after h) refl)

  good_applied : (f : Text) → Good limit (applied args f) (Follows d f) ends_term
  unfolding applied
  good_applied f = good_choice limit (applied args f) (applied_at args f) (Follows d f) ends_term (λ us. refl) (exact_applied f) (found_applied f) (record { value = tm.App f []; text = λ rest. rest; spells = λ rest. alone })

  word_term : (w : Token) (f : Text) → word w ≡ Some f → GoodAt limit w (term_at args (Some w)) (After w d (λ x. x) (Follows d f)) ends_term
  word_term w f e = behind_token limit w d (term_at args (Some w)) (λ x. x) (Follows d f) ends_term (applied args f) fits (good_applied f) (λ us. unmapped _ _ (by_word args w f e us))

  of_word : (w : Token) (f : Text) → word w ≡ Some f → (x : STerm) (ts rest : Tokens) → After w d (λ x. x) (Follows d f) x ts rest → IsTerm d x ts rest
  of_word w f e x ts rest (after h) = applied_by e h

  exact_word : (w : Token) (f : Text) → word w ≡ Some f → (ts : List Token) → Exact (term_at args (Some w)) (IsTerm d) limit (w ∷ ts) (term_at args (Some w) (w ∷ ts))
  exact_word w f e ts = widen (term_at args (Some w)) (After w d (λ x. x) (Follows d f)) (IsTerm d) limit (of_word w f e) (w ∷ ts) (term_at args (Some w) (w ∷ ts)) ((word_term w f e).exact ts)

  pub some_term : Inhabited (IsTerm d)
  some_term = record { value = tm.Var []; text = λ rest. (Upper [], d) ∷ rest; spells = λ rest. g.variable }

  exact_term : (ts : List Token) → Exact (term_at args (next ts)) (IsTerm d) limit ts (term_at args (next ts) ts)
  exact_term (Upper name ∷ ts) = exact_token (term_at args (Some (Upper name))) (IsTerm d) limit (Upper name) d (tm.Var name) fits (λ rest. g.variable) (λ us. refl) ts
  exact_term (Lower name ∷ ts) = exact_word (Lower name) name refl ts
  exact_term (Quoted name ∷ ts) = exact_word (Quoted name) name refl ts
  exact_term ts = exact_stop (term_at args (next ts)) (IsTerm d) limit ts some_term (λ other e. refl)

  found_function : (f : Text) (xs : List STerm) (ts rest : Tokens) → IsApplied d f xs ts rest → ends_term (next (plain rest)) ≡ true → Found limit (term_at args (next (plain ts))) (tm.App f xs) ts rest
  found_function f xs ts rest (g.constant {w = w} e) ends = (word_term w f e).found (tm.App f []) ts rest (after alone) ends
  found_function f xs ts rest (g.application {w = w} e h) ends = (word_term w f e).found (tm.App f xs) ts rest (after (with_arguments (after h))) ends

  found_term : (x : STerm) (ts rest : Tokens) → IsTerm d x ts rest → ends_term (next (plain rest)) ≡ true → Found limit (term_at args (next (plain ts))) x ts rest
  found_term x ts rest g.variable ends = inl (before fits done, refl)
  found_term x ts rest (g.function {f = f} {xs = xs} h) ends = found_function f xs ts rest h ends

  good_term_by : Good limit (term_by args) (IsTerm d) ends_term
  unfolding term_by
  good_term_by = good_choice limit (term_by args) (term_at args) (IsTerm d) ends_term (λ us. refl) exact_term found_term some_term

closed_terms : (h : Option Token) → closes h ≡ true → (ends_term h ≡ true) × (sees_mark m.Comma h ≡ false)
unfolding same_mark
closed_terms (Some (Sign m.Close)) e = (refl, refl)
closed_terms h e = cc

-- the terms up to the closing parenthesis
good_enclosed : (limit d : ℕ) → suc d ≤ limit → (p : Reader Token STerm) → Good limit p (IsTerm (suc d)) ends_term → Good limit (closed (is_mark m.Close) (separated (is_mark m.Comma) p)) (Enclosed d) always
good_enclosed limit d fits p good =
    good_in m.Close limit (suc d) fits (separated (is_mark m.Comma) p) (AreTerms (suc d)) closes always refl
    (good_as limit (separated (is_mark m.Comma) p) (Listed (Sign m.Comma) (suc d) (IsTerm (suc d))) (AreTerms (suc d)) closes closes
    (good_list m.Comma limit (suc d) fits p (IsTerm (suc d)) ends_term closes good (λ x ts rest h. moves_term h) refl closed_terms)
    (λ xs ts rest h. terms_of h) (λ xs ts rest h. of_terms h) (λ h e. e))

some_enclosed : (d : ℕ) → Inhabited (Enclosed d)
some_enclosed d = record { value = tm.Var [] ∷ []; text = λ rest. (Upper [], suc d) ∷ (Sign m.Close, suc d) ∷ rest; spells = λ rest. g.last_term g.variable }

pub good_arguments : (room d limit : ℕ) → limit ≡ d + room → GoodAt limit (Sign m.Open) (arguments room) (Arguments d) always
unfolding arguments
good_arguments zero d limit e = over_token limit (Sign m.Open) (suc d) (arguments zero) (λ xs. xs) (Enclosed d) always (omega arith) (some_enclosed d) (λ us. refl)
good_arguments (suc room) d limit e =
    behind_token limit (Sign m.Open) (suc d) (arguments (suc room)) (λ xs. xs) (Enclosed d) always (closed (is_mark m.Close) (separated (is_mark m.Comma) (term_by (arguments room)))) (omega arith)
    (good_enclosed limit d (omega arith) (term_by (arguments room)) (good_term_by limit (suc d) (omega arith) (arguments room) (good_arguments room (suc d) limit (omega arith))))
    (λ us. unmapped _ _ refl)

pub good_term : (room d limit : ℕ) → limit ≡ d + room → Good limit (term room) (IsTerm d) ends_term
unfolding term
good_term room d limit e = good_term_by limit d (omega arith) (arguments room) (good_arguments room d limit e)
