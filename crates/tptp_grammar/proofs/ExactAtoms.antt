-- The readers of atoms and inequations are exact and find all that is derived.
use Rattle.std.proofs.Common.{◌≡◌, Bool, true, false, ℕ, ◌+◌, ◌≤◌, ◌<◌, List, [], ◌∷◌, length, Option, Some, Ok, Err, inl, refl, sym, ◌∙◌, ap, subst, codes, arith}
use Rattle.std.specs.Str.{bytes_eq}
use Rattle.first_fault.specs.Nesting.{plain}
use Rattle.first_fault.proofs.NestingFacts.{done, before}
use Rattle.first_fault.specs.code.Reading.{Unexpected, Reader, and_then, next}
use Rattle.first_fault.proofs.Exact.{Exact, Inhabited, exact_after, exact_done, exact_stop, exact_token}
use Rattle.first_fault.proofs.Found.{Found, found_as, found_after}
use Rattle.first_fault.proofs.Good.{Good, Both, both, widen, good_both, good_choice}
use Rattle.tptp_lexer.specs.declared.token.Token.{Token}
use Rattle.tptp_lexer.specs.declared.token.Token.TheVariants.{Lower, Quoted, Upper, Dollar, Mark as Sign}
use Rattle.tptp_lexer.specs.declared.token.Mark.TheVariants as m
use Rattle.tptp_base.specs.declared.surface.STerm.{STerm, out-STerm}
use Rattle.tptp_base.specs.declared.surface.STerm.TheViews.{roll-STerm, roll-out-STerm}
use Rattle.tptp_base.specs.declared.surface.STerm.TheOpen.{STerm-F}
use Rattle.tptp_base.specs.declared.surface.STerm.TheVariants as tm
use Rattle.tptp_base.specs.declared.surface.Surface.{Surface}
use Rattle.tptp_base.specs.declared.surface.Surface.TheVariants as fm
use Rattle.tptp_grammar.specs.Tokens.{Text, Tokens, word}
use Rattle.tptp_grammar.specs.Terms as g
use Rattle.tptp_grammar.specs.Terms.{IsTerm, IsApplied, IsAtom, IsInequation}
use Rattle.tptp_grammar.specs.code.ReadTerms.{term, atom_of, equated_at, equated, compared_at, compared, constant, atom_at, atom, basic_at, basic}
use Rattle.tptp_grammar.proofs.Marks.{text_is, ends_term, ends_atom, ends_unit, atom_ends_term, unit_ends_atom}
use Rattle.tptp_grammar.proofs.ExactTerms.{moves_term, moves_applied, good_term}

-- an atom or an inequation
pub data IsBasic (d : ℕ) : Surface → Tokens → Tokens → Type 0 where
  of_atom : {f : Surface} {ts rest : Tokens} → IsAtom d f ts rest → IsBasic d f ts rest
  of_inequation : {f : Surface} {ts rest : Tokens} → IsInequation d f ts rest → IsBasic d f ts rest

pub moves_atom : {d : ℕ} {f : Surface} {ts rest : Tokens} → IsAtom d f ts rest → length rest < length ts
moves_atom (g.truth e) = omega arith
moves_atom (g.falsehood e) = omega arith
moves_atom (g.predicate h) = moves_applied h
moves_atom (g.equation h k) = omega (arith, moves_term h, moves_term k)

pub moves_inequation : {d : ℕ} {f : Surface} {ts rest : Tokens} → IsInequation d f ts rest → length rest < length ts
moves_inequation (g.inequation h k) = omega (arith, moves_term h, moves_term k)

pub some_atom : (d : ℕ) → Inhabited (IsAtom d)
some_atom d = record { value = fm.Atom [] []; text = λ rest. (Lower [], d) ∷ rest; spells = λ rest. g.predicate (g.constant refl) }

pub some_basic : (d : ℕ) → Inhabited (IsBasic d)
some_basic d = record { value = fm.Atom [] []; text = λ rest. (Lower [], d) ∷ rest; spells = λ rest. of_atom (g.predicate (g.constant refl)) }

-- ---- what a term and an atom begin with

pub data TermHead : Option Token → Type 0 where
  upper : {x : Text} → TermHead (Some (Upper x))
  lower : {x : Text} → TermHead (Some (Lower x))
  quoted : {x : Text} → TermHead (Some (Quoted x))

pub data BasicHead : Option Token → Type 0 where
  term_head : {h : Option Token} → TermHead h → BasicHead h
  dollar : {w : Text} → BasicHead (Some (Dollar w))

pub word_head : (w : Token) (f : Text) → word w ≡ Some f → TermHead (Some w)
word_head (Lower x) f e = lower
word_head (Quoted x) f e = quoted
word_head w f e = cc

pub applied_head : {d : ℕ} {f : Text} {xs : List STerm} {ts rest : Tokens} → IsApplied d f xs ts rest → TermHead (next (plain ts))
applied_head (g.constant {w = w} {f = f} e) = word_head w f e
applied_head (g.application {w = w} {f = f} e h) = word_head w f e

pub head_of_term : {d : ℕ} {x : STerm} {ts rest : Tokens} → IsTerm d x ts rest → TermHead (next (plain ts))
head_of_term g.variable = upper
head_of_term (g.function h) = applied_head h

pub head_of_atom : {d : ℕ} {f : Surface} {ts rest : Tokens} → IsAtom d f ts rest → BasicHead (next (plain ts))
head_of_atom (g.truth e) = dollar
head_of_atom (g.falsehood e) = dollar
head_of_atom (g.predicate h) = term_head (applied_head h)
head_of_atom (g.equation h k) = term_head (head_of_term h)

pub head_of_inequation : {d : ℕ} {f : Surface} {ts rest : Tokens} → IsInequation d f ts rest → BasicHead (next (plain ts))
head_of_inequation (g.inequation h k) = term_head (head_of_term h)

pub head_of_basic : {d : ℕ} {f : Surface} {ts rest : Tokens} → IsBasic d f ts rest → BasicHead (next (plain ts))
head_of_basic (of_atom h) = head_of_atom h
head_of_basic (of_inequation h) = head_of_inequation h

-- ---- behind a term

data Equated (d : ℕ) (a : STerm) : Surface → Tokens → Tokens → Type 0 where
  equal : {b : STerm} {mid rest : Tokens} → IsTerm d b mid rest → Equated d a (fm.Eq a b) ((Sign m.Equal, d) ∷ mid) rest
  holds : {f : Text} {xs : List STerm} {rest : Tokens} → a ≡ tm.App f xs → Equated d a (fm.Atom f xs) rest rest

data Compared (d : ℕ) (a : STerm) : Surface → Tokens → Tokens → Type 0 where
  not_equal : {b : STerm} {mid rest : Tokens} → IsTerm d b mid rest → Compared d a (fm.Neq a b) ((Sign m.NotEqual, d) ∷ mid) rest
  is_equated : {f : Surface} {ts rest : Tokens} → Equated d a f ts rest → Compared d a f ts rest

parts : {d : ℕ} {x : STerm} {f : Text} {xs : List STerm} {ts rest : Tokens} → x ≡ tm.App f xs → IsTerm d x ts rest → IsApplied d f xs ts rest
parts {f = f} {xs = xs} e (g.variable {name = name}) =
    let out : STerm-F.Var name ≡ STerm-F.App f xs = sym (tm.outs-Var name) ∙ ap out-STerm e ∙ tm.outs-App f xs in cc
parts {d = d} {f = f} {xs = xs} {ts = ts} {rest = rest} e (g.function {f = k} {xs = ys} h) =
    let out : STerm-F.App k ys ≡ STerm-F.App f xs = sym (tm.outs-App k ys) ∙ ap out-STerm e ∙ tm.outs-App f xs in
    let name : k ≡ f = cc in
    let args : ys ≡ xs = cc in
    subst (λ zs. IsApplied d f zs ts rest) args (subst (λ j. IsApplied d j ys ts rest) name h)

parts_of : {d : ℕ} {f : Text} {xs : List STerm} {ts rest : Tokens} → (x : STerm) → x ≡ tm.App f xs → IsTerm d x ts rest → IsApplied d f xs ts rest
parts_of x e h = parts e h

join_equated : {d : ℕ} {a : STerm} {v : Surface} {ts mid rest : Tokens} → IsTerm d a ts mid → Equated d a v mid rest → IsAtom d v ts rest
join_equated h (equal k) = g.equation h k
join_equated {a = a} h (holds e) = g.predicate (parts_of a e h)

join_compared : {d : ℕ} {a : STerm} {v : Surface} {ts mid rest : Tokens} → IsTerm d a ts mid → Compared d a v mid rest → IsBasic d v ts rest
join_compared h (not_equal k) = of_inequation (g.inequation h k)
join_compared h (is_equated k) = of_atom (join_equated h k)

atom_from : {d : ℕ} (v : Surface) (ts rest : Tokens) → Both (IsTerm d) (Equated d) v ts rest → IsAtom d v ts rest
atom_from v ts rest (both h k) = join_equated h k

basic_from : {d : ℕ} (v : Surface) (ts rest : Tokens) → Both (IsTerm d) (Compared d) v ts rest → IsBasic d v ts rest
basic_from v ts rest (both h k) = join_compared h k

equated_link : (d : ℕ) (a : STerm) (v : Surface) (mid rest : Tokens) → Equated d a v mid rest → ends_atom (next (plain rest)) ≡ true → ends_term (next (plain mid)) ≡ true
equated_link d a v mid rest (equal k) e = refl
equated_link d a v mid rest (holds is) e = atom_ends_term (next (plain rest)) e

compared_link : (d : ℕ) (a : STerm) (v : Surface) (mid rest : Tokens) → Compared d a v mid rest → ends_unit (next (plain rest)) ≡ true → ends_term (next (plain mid)) ≡ true
compared_link d a v mid rest (not_equal k) e = refl
compared_link d a v mid rest (is_equated k) e = equated_link d a v mid rest k (unit_ends_atom (next (plain rest)) e)

module _ (room d limit : ℕ) (e : limit ≡ d + room) (a : STerm) where
  some_equated : Inhabited (Equated d a)
  some_equated = record { value = fm.Eq a (tm.Var []); text = λ rest. (Sign m.Equal, d) ∷ (Upper [], d) ∷ rest; spells = λ rest. equal g.variable }

  exact_atom_of : (x : STerm-F STerm) → out-STerm a ≡ x → (p : Reader Token Surface) (ts : List Token) → ((other : List Token) → next other ≡ next ts → p other ≡ atom_of (out-STerm a) other) → Exact p (Equated d a) limit ts (atom_of x ts)
  exact_atom_of (STerm-F.App f xs) is p ts near =
      exact_done p (Equated d a) limit ts (fm.Atom f xs) (λ rest. holds (sym (roll-out-STerm a) ∙ ap roll-STerm is ∙ tm.rolls-App f xs)) (λ other k. near other k ∙ ap (λ y. atom_of y other) is)
  exact_atom_of (STerm-F.Var x) is p ts near = exact_stop p (Equated d a) limit ts some_equated (λ other k. near other k ∙ ap (λ y. atom_of y other) is)

  exact_equated : (ts : List Token) → Exact (equated_at room a (next ts)) (Equated d a) limit ts (equated_at room a (next ts) ts)
  exact_equated (Sign m.Equal ∷ ts) = exact_after (Sign m.Equal) (equated_at room a (Some (Sign m.Equal))) (term room) (IsTerm d) (Equated d a) limit d (fm.Eq a) (omega arith) (λ x us rest h. equal h) (λ us. refl)
      ts (term room ts) ((good_term room d limit e).exact ts)
  exact_equated ts = exact_atom_of (out-STerm a) refl (equated_at room a (next ts)) ts (λ other k. refl)

  equated_ends : (h : Option Token) → ends_atom h ≡ true → (ts : List Token) → equated_at room a h ts ≡ atom_of (out-STerm a) ts
  equated_ends (Some (Sign m.Equal)) k ts = cc
  equated_ends h k ts = refl

  atom_read : (f : Text) (xs : List STerm) → a ≡ tm.App f xs → (ts : List Token) → atom_of (out-STerm a) ts ≡ Ok (fm.Atom f xs, ts)
  atom_read f xs is ts = ap (λ x. atom_of (out-STerm x) ts) is ∙ ap (λ x. atom_of x ts) (tm.outs-App f xs)

  found_equated : (v : Surface) (ts rest : Tokens) → Equated d a v ts rest → ends_atom (next (plain rest)) ≡ true → Found limit (equated_at room a (next (plain ts))) v ts rest
  found_equated v ts rest (equal {b = b} {mid = mid} h) k =
      found_after limit (term room) (equated_at room a (Some (Sign m.Equal))) (fm.Eq a) b (Sign m.Equal) d mid rest (omega arith) refl ((good_term room d limit e).found b mid rest h (atom_ends_term (next (plain rest)) k))
  found_equated v ts rest (holds {f = f} {xs = xs} is) k = inl (done, equated_ends (next (plain rest)) k (plain rest) ∙ atom_read f xs is (plain rest))

  good_equated : Good limit (equated room a) (Equated d a) ends_atom
  unfolding equated
  good_equated = good_choice limit (equated room a) (equated_at room a) (Equated d a) ends_atom (λ us. refl) exact_equated found_equated some_equated

  as_compared : (v : Surface) (ts rest : Tokens) → Equated d a v ts rest → Compared d a v ts rest
  as_compared v ts rest h = is_equated h

  exact_compared : (ts : List Token) → Exact (compared_at room a (next ts)) (Compared d a) limit ts (compared_at room a (next ts) ts)
  exact_compared (Sign m.NotEqual ∷ ts) = exact_after (Sign m.NotEqual) (compared_at room a (Some (Sign m.NotEqual))) (term room) (IsTerm d) (Compared d a) limit d (fm.Neq a) (omega arith) (λ x us rest h. not_equal h) (λ us. refl)
      ts (term room ts) ((good_term room d limit e).exact ts)
  exact_compared ts = widen (equated room a) (Equated d a) (Compared d a) limit as_compared ts (equated room a ts) (good_equated.exact ts)

  compared_ends : (h : Option Token) → ends_unit h ≡ true → (ts : List Token) → compared_at room a h ts ≡ equated room a ts
  compared_ends (Some (Sign m.NotEqual)) k ts = cc
  compared_ends h k ts = refl

  compared_as : (v : Surface) (ts rest : Tokens) → Equated d a v ts rest → ends_unit (next (plain rest)) ≡ true → compared_at room a (next (plain ts)) (plain ts) ≡ equated room a (plain ts)
  compared_as v ts rest (equal k) ends = refl
  compared_as v ts rest (holds is) ends = compared_ends (next (plain rest)) ends (plain rest)

  found_compared : (v : Surface) (ts rest : Tokens) → Compared d a v ts rest → ends_unit (next (plain rest)) ≡ true → Found limit (compared_at room a (next (plain ts))) v ts rest
  found_compared v ts rest (not_equal {b = b} {mid = mid} h) k =
      found_after limit (term room) (compared_at room a (Some (Sign m.NotEqual))) (fm.Neq a) b (Sign m.NotEqual) d mid rest (omega arith) refl
      ((good_term room d limit e).found b mid rest h (atom_ends_term (next (plain rest)) (unit_ends_atom (next (plain rest)) k)))
  found_compared v ts rest (is_equated h) k =
      found_as limit (compared_at room a (next (plain ts))) (equated room a) v ts rest (compared_as v ts rest h k) (good_equated.found v ts rest h (unit_ends_atom (next (plain rest)) k))

  good_compared : Good limit (compared room a) (Compared d a) ends_unit
  unfolding compared
  good_compared = good_choice limit (compared room a) (compared_at room a) (Compared d a) ends_unit (λ us. refl) exact_compared found_compared (record { value = some_equated.value; text = some_equated.text; spells = λ rest. is_equated (some_equated.spells rest) })

-- ---- $true and $false

constant_true : (w : Text) → w ≡ codes "$true" → (us : List Token) → constant w (Dollar w ∷ us) ≡ Ok (fm.True, us)
unfolding constant
constant_true w e us = subst (λ v. constant v (Dollar w ∷ us) ≡ Ok (fm.True, us)) (sym e) refl

constant_false : (w : Text) → w ≡ codes "$false" → (us : List Token) → constant w (Dollar w ∷ us) ≡ Ok (fm.False, us)
unfolding constant
constant_false w e us = subst (λ v. constant v (Dollar w ∷ us) ≡ Ok (fm.False, us)) (sym e) refl

constant_none : (w : Text) → bytes_eq w (codes "$true") ≡ false → bytes_eq w (codes "$false") ≡ false → (us : List Token) → constant w us ≡ Err (Unexpected, us)
unfolding constant
constant_none w first second us = rw (first, second) refl

module _ (d limit : ℕ) (fits : d ≤ limit) where
  exact_by : (w : Text) (b c : Bool) → bytes_eq w (codes "$true") ≡ b → bytes_eq w (codes "$false") ≡ c → (ts : List Token) → Exact (constant w) (IsAtom d) limit (Dollar w ∷ ts) (constant w (Dollar w ∷ ts))
  exact_by w true c e k ts =
      let is = text_is w (codes "$true") e in
      subst (Exact (constant w) (IsAtom d) limit (Dollar w ∷ ts)) (sym (constant_true w is ts)) (exact_token (constant w) (IsAtom d) limit (Dollar w) d fm.True fits (λ rest. g.truth is) (constant_true w is) ts)
  exact_by w false true e k ts =
      let is = text_is w (codes "$false") k in
      subst (Exact (constant w) (IsAtom d) limit (Dollar w ∷ ts)) (sym (constant_false w is ts)) (exact_token (constant w) (IsAtom d) limit (Dollar w) d fm.False fits (λ rest. g.falsehood is) (constant_false w is) ts)
  exact_by w false false e k ts =
      subst (Exact (constant w) (IsAtom d) limit (Dollar w ∷ ts)) (sym (constant_none w e k (Dollar w ∷ ts)))
      (exact_stop (constant w) (IsAtom d) limit (Dollar w ∷ ts) (some_atom d) (λ other n. constant_none w e k other))

  exact_constant : (w : Text) (ts : List Token) → Exact (constant w) (IsAtom d) limit (Dollar w ∷ ts) (constant w (Dollar w ∷ ts))
  exact_constant w ts = exact_by w (bytes_eq w (codes "$true")) (bytes_eq w (codes "$false")) refl refl ts

-- ---- atoms

module _ (room d limit : ℕ) (e : limit ≡ d + room) where
  abbrev atom_term : Reader Token Surface
  atom_term ts = and_then (term room ts) (equated room)

  abbrev basic_term : Reader Token Surface
  basic_term ts = and_then (term room ts) (compared room)

  good_atom_term : Good limit atom_term (Both (IsTerm d) (Equated d)) ends_atom
  good_atom_term = good_both limit (term room) (equated room) (IsTerm d) (Equated d) ends_term ends_atom (equated_link d) (good_term room d limit e) (λ a can. good_equated room d limit e a)

  good_basic_term : Good limit basic_term (Both (IsTerm d) (Compared d)) ends_unit
  good_basic_term = good_both limit (term room) (compared room) (IsTerm d) (Compared d) ends_term ends_unit (compared_link d) (good_term room d limit e) (λ a can. good_compared room d limit e a)

  exact_atom : (ts : List Token) → Exact (atom_at room (next ts)) (IsAtom d) limit ts (atom_at room (next ts) ts)
  exact_atom (Dollar w ∷ ts) = exact_constant d limit (omega arith) w ts
  exact_atom ts = widen atom_term (Both (IsTerm d) (Equated d)) (IsAtom d) limit atom_from ts (atom_term ts) (good_atom_term.exact ts)

  exact_basic : (ts : List Token) → Exact (basic_at room (next ts)) (IsBasic d) limit ts (basic_at room (next ts) ts)
  exact_basic (Dollar w ∷ ts) = widen (constant w) (IsAtom d) (IsBasic d) limit (λ x us rest h. of_atom h) (Dollar w ∷ ts) (constant w (Dollar w ∷ ts)) (exact_constant d limit (omega arith) w ts)
  exact_basic ts = widen basic_term (Both (IsTerm d) (Compared d)) (IsBasic d) limit basic_from ts (basic_term ts) (good_basic_term.exact ts)

  atom_by : {h : Option Token} → TermHead h → (ts : List Token) → atom_at room h ts ≡ atom_term ts
  atom_by upper ts = refl
  atom_by lower ts = refl
  atom_by quoted ts = refl

  basic_by : {h : Option Token} → TermHead h → (ts : List Token) → basic_at room h ts ≡ basic_term ts
  basic_by upper ts = refl
  basic_by lower ts = refl
  basic_by quoted ts = refl

  found_atom : (v : Surface) (ts rest : Tokens) → IsAtom d v ts rest → ends_atom (next (plain rest)) ≡ true → Found limit (atom_at room (next (plain ts))) v ts rest
  found_atom v ts rest (g.truth {w = w} is) k = inl (before (omega arith) done, constant_true w is (plain rest))
  found_atom v ts rest (g.falsehood {w = w} is) k = inl (before (omega arith) done, constant_false w is (plain rest))
  found_atom v ts rest (g.predicate h) k =
      found_as limit (atom_at room (next (plain ts))) atom_term v ts rest (atom_by (applied_head h) (plain ts)) (good_atom_term.found v ts rest (both (g.function h) (holds refl)) k)
  found_atom v ts rest (g.equation h i) k =
      found_as limit (atom_at room (next (plain ts))) atom_term v ts rest (atom_by (head_of_term h) (plain ts)) (good_atom_term.found v ts rest (both h (equal i)) k)

  pub good_atom : Good limit (atom room) (IsAtom d) ends_atom
  unfolding atom
  good_atom = good_choice limit (atom room) (atom_at room) (IsAtom d) ends_atom (λ us. refl) exact_atom found_atom (some_atom d)

  found_basic : (v : Surface) (ts rest : Tokens) → IsBasic d v ts rest → ends_unit (next (plain rest)) ≡ true → Found limit (basic_at room (next (plain ts))) v ts rest
  found_basic v ts rest (of_atom (g.truth {w = w} is)) k = inl (before (omega arith) done, constant_true w is (plain rest))
  found_basic v ts rest (of_atom (g.falsehood {w = w} is)) k = inl (before (omega arith) done, constant_false w is (plain rest))
  found_basic v ts rest (of_atom (g.predicate h)) k =
      found_as limit (basic_at room (next (plain ts))) basic_term v ts rest (basic_by (applied_head h) (plain ts)) (good_basic_term.found v ts rest (both (g.function h) (is_equated (holds refl))) k)
  found_basic v ts rest (of_atom (g.equation h i)) k =
      found_as limit (basic_at room (next (plain ts))) basic_term v ts rest (basic_by (head_of_term h) (plain ts)) (good_basic_term.found v ts rest (both h (is_equated (equal i))) k)
  found_basic v ts rest (of_inequation (g.inequation h i)) k =
      found_as limit (basic_at room (next (plain ts))) basic_term v ts rest (basic_by (head_of_term h) (plain ts)) (good_basic_term.found v ts rest (both h (not_equal i)) k)

  pub good_basic : Good limit (basic room) (IsBasic d) ends_unit
  unfolding basic
  good_basic = good_choice limit (basic room) (basic_at room) (IsBasic d) ends_unit (λ us. refl) exact_basic found_basic (some_basic d)
