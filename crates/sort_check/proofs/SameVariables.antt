-- The variables that the code notes are the first 250 of a clause, as specs/Denotation says.
use Rattle.std.proofs.Common.{◌≡◌, ◌<◌, ◌≤◌, ◌==◌, ◌||◌, ◌&&◌, Bool, true, false, not, cond, nat_le, List, [], ◌∷◌, ◌++◌, length, map, take, refl, sym, ◌∙◌, ap, arith, append_assoc, length-append}
use Rattle.std.specs.List.{AllByRecursion, list_any, filter, flat_map}
use Rattle.std.specs.Str.{bytes_eq}
use Rattle.std.specs.Cmp.Lexicographic.{bytes_decides}
use Rattle.std.proofs.lemmas.List.{append-nil, length-map, map-append, take_all, take-append-le, length-take-le}
use Rattle.std.proofs.lemmas.List.Elements.{filter_agree}
use Rattle.std.proofs.lemmas.Bool.Decides.{nat_tests}
use Rattle.tptp_base.specs.declared.surface.STerm.{STerm}
use Rattle.tptp_base.specs.declared.surface.Surface.{Surface}
use Rattle.sort_check.specs.declared.scope.Variable.{Variable}
use Rattle.sort_check.specs.Symbols.{Text}
use Rattle.sort_check.specs.Denotation.{variables_step, variables_of_term, form_variables_step, variables_of, each_once, clause_scope}
use Rattle.sort_check.specs.code.Variables.{noted, in_turn}
use Rattle.sort_check.specs.code.Variables as code
use Rattle.sort_check.proofs.Equations.{fold-Var, fold-App, fold-True, fold-False, fold-Atom, fold-Eq, fold-Neq, fold-Not, fold-And, fold-Or, fold-Binary, fold-Bind}
use Rattle.sort_check.proofs.VariableEquations as coded
use Rattle.sort_check.proofs.Inducing.{term_induction, form_induction}
use Rattle.tptp_base.specs.declared.surface.STerm.TheVariants as tm
use Rattle.tptp_base.specs.declared.surface.Surface.TheVariants as fm

abbrev variable : Text → Variable
variable name = record { name = name; sort = 0 }

-- the first 250 of these, as variables
abbrev first : List Text → List Variable
first names = map variable (take 250 names)

-- ---- names that are noted one by one, without a limit

abbrev is_there : List Text → Text → Bool
is_there names name = list_any (λ other. bytes_eq other name) names

abbrev with_one : Text → List Text → List Text
with_one name names = cond (is_there names name) names (names ++ name ∷ [])

abbrev with_all : List Text → List Text → List Text
with_all [] names = names
with_all (name ∷ more) names = with_all more (with_one name names)

with_both : (xs ys names : List Text) → with_all (xs ++ ys) names ≡ with_all ys (with_all xs names)
with_both [] ys names = refl
with_both (x ∷ xs) ys names = with_both xs ys (with_one x names)

any_variable : (names : List Text) (name : Text) → list_any (λ (x : Variable). bytes_eq x.name name) (map variable names) ≡ is_there names name
any_variable [] name = refl
any_variable (x ∷ names) name = ap (λ b. bytes_eq x name || b) (any_variable names name)

-- one more name, where 250 are there already
full_step : (name : Text) (names : List Text) → 250 ≤ length names → noted name (first names) ≡ first (with_one name names)
full_step name names le = by (list_any (λ (x : Variable). bytes_eq x.name name) (first names)) (length (first names) == 250) full ∙ sym (same (is_there names name))
  where
    count : length (first names) ≡ 250
    count = length-map (take 250 names) variable ∙ length-take-le 250 names le

    full : (length (first names) == 250) ≡ true
    full = grind (arith, nat_tests, count)

    by : (a b : Bool) → b ≡ true → cond (a || b) (first names) (first names ++ variable name ∷ []) ≡ first names
    by true b e = refl
    by false true e = refl
    by false false e = absurd (cc)

    same : (b : Bool) → first (cond b names (names ++ name ∷ [])) ≡ first names
    same true = refl
    same false = ap (map variable) (take-append-le 250 names (name ∷ []) le)

-- one more name, where there is room
open_step : (name : Text) (names : List Text) → length names < 250 → noted name (first names) ≡ first (with_one name names)
open_step name names lt =
    ap (noted name) (all_first names few) ∙ by (is_there names name) (list_any (λ (x : Variable). bytes_eq x.name name) (map variable names)) (length (map variable names) == 250) (any_variable names name) room
  where
    few : length names ≤ 250
    few = omega (arith, lt)

    all_first : (ns : List Text) → length ns ≤ 250 → first ns ≡ map variable ns
    all_first ns le = ap (map variable) (take_all 250 ns le)

    count : length (map variable names) ≡ length names
    count = length-map names variable

    room : (length (map variable names) == 250) ≡ false
    room = grind (arith, nat_tests, count, lt)

    longer : length (names ++ name ∷ []) ≤ 250
    longer = omega (arith, lt, length-append names (name ∷ []))

    by : (b a f : Bool) → a ≡ b → f ≡ false → cond (a || f) (map variable names) (map variable names ++ variable name ∷ []) ≡ first (cond b names (names ++ name ∷ []))
    by b a true e off = absurd (cc)
    by true false false e off = absurd (cc)
    by false true false e off = absurd (cc)
    by true true false e off = sym (all_first names few)
    by false false false e off = sym (all_first (names ++ name ∷ []) longer ∙ map-append variable names (name ∷ []))

noted_first : (name : Text) (names : List Text) → noted name (first names) ≡ first (with_one name names)
noted_first name names = by (nat_le 250 (length names)) refl
  where
    by : (b : Bool) → nat_le 250 (length names) ≡ b → noted name (first names) ≡ first (with_one name names)
    by true e = full_step name names (grind (arith, nat_tests, e))
    by false e = open_step name names (grind (arith, nat_tests, e))

-- ---- terms and formulas

-- what is noted, from any names on, is the first of what occurs
abbrev Notes : (List Variable → List Variable) → List Text → Type 0
Notes f found = (names : List Text) → f (first names) ≡ first (with_all found names)

both_note : (f g : List Variable → List Variable) (xs ys : List Text) → Notes f xs → Notes g ys → Notes (λ vs. g (f vs)) (xs ++ ys)
both_note f g xs ys one two names = ap g (one names) ∙ two (with_all xs names) ∙ ap first (sym (with_both xs ys names))

turns_note : {X : Type 0} (f : X → List Variable → List Variable) (found : X → List Text) (xs : List X) → AllByRecursion (λ x. Notes (f x) (found x)) xs → Notes (in_turn (map f xs)) (flat_map found xs)
turns_note f found [] each names = refl
turns_note f found (x ∷ xs) each names = both_note (f x) (in_turn (map f xs)) (found x) (flat_map found xs) each.0 (turns_note f found xs each.1) names

flat_all : {X : Type 0} (f : X → List Text) (xs : List X) → flat_map (λ (names : List Text). names) (map f xs) ≡ flat_map f xs
flat_all f [] = refl
flat_all f (x ∷ xs) = ap (λ (l : List Text). f x ++ l) (flat_all f xs)

-- the same of other names that are equal
notes_as : (f g : List Variable → List Variable) (xs ys : List Text) → f ≡ g → xs ≡ ys → Notes g ys → Notes f xs
notes_as f g xs ys same is notes names = ap (λ (h : List Variable → List Variable). h (first names)) same ∙ notes names ∙ ap (λ (l : List Text). first (with_all l names)) (sym is)

abbrev TermNotes : STerm → Type 0
TermNotes t = Notes (code.variables_of_term t) (variables_of_term t)

term_notes : (t : STerm) → TermNotes t
unfolding variables_of_term
term_notes = term_induction TermNotes (record {
  var = λ name. notes_as (code.variables_of_term (tm.Var name)) (noted name) (variables_of_term (tm.Var name)) (name ∷ []) (λ i found. coded.of_term-Var found name i) (fold-Var (List Text) variables_step name) (noted_first name);
  app = λ f ts each.
      notes_as (code.variables_of_term (tm.App f ts)) (in_turn (map code.variables_of_term ts)) (variables_of_term (tm.App f ts)) (flat_map variables_of_term ts) (λ i found. coded.of_term-App found f ts i)
      (fold-App (List Text) variables_step f ts ∙ flat_all variables_of_term ts) (turns_note code.variables_of_term variables_of_term ts each);
})

terms_note : (ts : List STerm) → AllByRecursion TermNotes ts
terms_note [] = tt
terms_note (t ∷ ts) = (term_notes t, terms_note ts)

abbrev FormNotes : Surface → Type 0
FormNotes a = Notes (code.variables_of a) (variables_of a)

pair_notes : (l r : STerm) → Notes (λ vs. code.variables_of_term r (code.variables_of_term l vs)) (variables_of_term l ++ variables_of_term r)
pair_notes l r = both_note (code.variables_of_term l) (code.variables_of_term r) (variables_of_term l) (variables_of_term r) (term_notes l) (term_notes r)

form_notes : (a : Surface) → FormNotes a
unfolding variables_of
form_notes = form_induction FormNotes (record {
  truth = notes_as (code.variables_of fm.True) (λ vs. vs) (variables_of fm.True) [] (λ i found. coded.of-True found i) (fold-True (List Text) form_variables_step) (λ names. refl);
  falsity = notes_as (code.variables_of fm.False) (λ vs. vs) (variables_of fm.False) [] (λ i found. coded.of-False found i) (fold-False (List Text) form_variables_step) (λ names. refl);
  atom = λ p ts.
      notes_as (code.variables_of (fm.Atom p ts)) (in_turn (map code.variables_of_term ts)) (variables_of (fm.Atom p ts)) (flat_map variables_of_term ts) (λ i found. coded.of-Atom found p ts i)
      (fold-Atom (List Text) form_variables_step p ts) (turns_note code.variables_of_term variables_of_term ts (terms_note ts));
  eq = λ l r.
      notes_as (code.variables_of (fm.Eq l r)) (λ vs. code.variables_of_term r (code.variables_of_term l vs)) (variables_of (fm.Eq l r)) (variables_of_term l ++ variables_of_term r) (λ i found. coded.of-Eq found l r i)
      (fold-Eq (List Text) form_variables_step l r) (pair_notes l r);
  neq = λ l r.
      notes_as (code.variables_of (fm.Neq l r)) (λ vs. code.variables_of_term r (code.variables_of_term l vs)) (variables_of (fm.Neq l r)) (variables_of_term l ++ variables_of_term r) (λ i found. coded.of-Neq found l r i)
      (fold-Neq (List Text) form_variables_step l r) (pair_notes l r);
  not = λ a one. notes_as (code.variables_of (fm.Not a)) (code.variables_of a) (variables_of (fm.Not a)) (variables_of a) (λ i found. coded.of-Not found a i) (fold-Not (List Text) form_variables_step a) one;
  and = λ as_ each.
      notes_as (code.variables_of (fm.And as_)) (in_turn (map code.variables_of as_)) (variables_of (fm.And as_)) (flat_map variables_of as_) (λ i found. coded.of-And found as_ i)
      (fold-And (List Text) form_variables_step as_ ∙ flat_all variables_of as_) (turns_note code.variables_of variables_of as_ each);
  or = λ as_ each.
      notes_as (code.variables_of (fm.Or as_)) (in_turn (map code.variables_of as_)) (variables_of (fm.Or as_)) (flat_map variables_of as_) (λ i found. coded.of-Or found as_ i)
      (fold-Or (List Text) form_variables_step as_ ∙ flat_all variables_of as_) (turns_note code.variables_of variables_of as_ each);
  binary = λ op a b one two.
      notes_as (code.variables_of (fm.Binary op a b)) (λ vs. code.variables_of b (code.variables_of a vs)) (variables_of (fm.Binary op a b)) (variables_of a ++ variables_of b) (λ i found. coded.of-Binary found op a b i)
      (fold-Binary (List Text) form_variables_step op a b) (both_note (code.variables_of a) (code.variables_of b) (variables_of a) (variables_of b) one two);
  bind = λ quant xs a one.
      notes_as (code.variables_of (fm.Bind quant xs a)) (code.variables_of a) (variables_of (fm.Bind quant xs a)) (variables_of a) (λ i found. coded.of-Bind found quant xs a i) (fold-Bind (List Text) form_variables_step quant xs a) one;
})

-- ---- each once

abbrev absent : List Text → Text → Bool
absent names other = not (is_there names other)

abbrev apart : Text → Text → Bool
apart name other = not (bytes_eq name other)

filter_both : (p q : Text → Bool) (xs : List Text) → filter p (filter q xs) ≡ filter (λ x. q x && p x) xs
filter_both p q [] = refl
filter_both p q (x ∷ xs) = by (q x) (p x) refl (filter_both p q xs)
  where
    by : (b c : Bool) → p x ≡ c → filter p (filter q xs) ≡ filter (λ y. q y && p y) xs → filter p (cond b (x ∷ filter q xs) (filter q xs)) ≡ cond (b && p x) (x ∷ filter (λ y. q y && p y) xs) (filter (λ y. q y && p y) xs)
    by true c e is = ap (λ (l : List Text). cond (p x) (x ∷ l) l) is
    by false c e is = is

filter_whole : (xs : List Text) → filter (λ x. true) xs ≡ xs
filter_whole [] = refl
filter_whole (x ∷ xs) = ap (λ (l : List Text). x ∷ l) (filter_whole xs)

there_last : (names : List Text) (last other : Text) → is_there (names ++ last ∷ []) other ≡ (is_there names other || bytes_eq last other)
there_last [] last other = by (bytes_eq last other)
  where
    by : (b : Bool) → (b || false) ≡ b
    by true = refl
    by false = refl
there_last (name ∷ names) last other = by (bytes_eq name other) (there_last names last other)
  where
    by : (b : Bool) → is_there (names ++ last ∷ []) other ≡ (is_there names other || bytes_eq last other) → (b || is_there (names ++ last ∷ []) other) ≡ ((b || is_there names other) || bytes_eq last other)
    by true is = refl
    by false is = is

-- beside names that hold this one it need not be looked for
known_apart : (names : List Text) (name : Text) → is_there names name ≡ true → (other : Text) → absent names other ≡ (apart name other && absent names other)
known_apart names name there other = by (bytes_eq name other) refl
  where
    by : (b : Bool) → bytes_eq name other ≡ b → absent names other ≡ (not b && absent names other)
    by true e = ap (absent names) (sym ((bytes_decides name other).0 e)) ∙ ap not there
    by false e = refl

new_apart : (names : List Text) (name other : Text) → absent (names ++ name ∷ []) other ≡ (apart name other && absent names other)
new_apart names name other = ap not (there_last names name other) ∙ by (is_there names other) (bytes_eq name other)
  where
    by : (a b : Bool) → not (a || b) ≡ (not b && not a)
    by true true = refl
    by true false = refl
    by false true = refl
    by false false = refl

all_once : (xs names : List Text) → with_all xs names ≡ names ++ filter (absent names) (each_once xs)
all_once [] names = sym (append-nil names)
all_once (x ∷ xs) names = by (is_there names x) refl (λ more. all_once xs more)
  where
    by : (b : Bool) → is_there names x ≡ b → ((more : List Text) → with_all xs more ≡ more ++ filter (absent more) (each_once xs))
        → with_all xs (cond b names (names ++ x ∷ [])) ≡ names ++ cond (not b) (x ∷ filter (absent names) (filter (apart x) (each_once xs))) (filter (absent names) (filter (apart x) (each_once xs)))
    by true e rest =
        rest names
        ∙ ap (λ (l : List Text). names ++ l)
        (filter_agree (absent names) (λ y. apart x y && absent names y) (known_apart names x e) (each_once xs) ∙ sym (filter_both (absent names) (apart x) (each_once xs)))
    by false e rest =
        rest (names ++ x ∷ [])
        ∙ append_assoc names (x ∷ []) (filter (absent (names ++ x ∷ [])) (each_once xs))
        ∙ ap (λ (l : List Text). names ++ x ∷ l)
        (filter_agree (absent (names ++ x ∷ [])) (λ y. apart x y && absent names y) (new_apart names x) (each_once xs) ∙ sym (filter_both (absent names) (apart x) (each_once xs)))

-- the variables that the code notes in a clause are those in its scope
pub same_scope : (a : Surface) → code.variables_of a [] ≡ clause_scope a
same_scope a = form_notes a [] ∙ ap first (all_once (variables_of a) [] ∙ filter_whole (each_once (variables_of a)))
