-- What is written is read again.
use Rattle.std.specs.Prelude.{ℕ, ◌+◌, ◌*◌, ◌-◌, ◌/◌, ◌%◌, ◌<◌, ◌≤◌, ◌≡◌, ◌⊎◌, Bool, true, false, List, [], ◌∷◌, ◌++◌, Option, Some, take, length, get_or, refl}
use Rattle.std.specs.List.{AllByRecursion, fold}
use Rattle.std.proofs.Common.{ap, sym, ◌∙◌, arith, suc, inl, inr, append_assoc}
use Rattle.std.proofs.lemmas.Bool.{cases_lt}
use Rattle.std.proofs.lemmas.List.{append-nil, take_more}
use Rattle.std.proofs.lemmas.List.Sums.{fold-append}
use Rattle.std.proofs.lemmas.Nat.{div-add-mod'}
use Rattle.fof_terms.specs.declared.term.Term.{Term, App}
use Rattle.fof_terms.proofs.Induction.{term_induction}
use Rattle.clause_form.specs.declared.clause.AtomOf.{AtomOf}
use Rattle.clause_form.specs.declared.clause.AtomOf.TheVariants.{Pred, Eq, True, False}
use Rattle.clause_form.specs.declared.clause.Lit.{Lit}
use Rattle.clause_form.specs.declared.clause.Clause.{Clause}
use Rattle.packed_clauses.specs.declared.building.Begun.{Begun}
use Rattle.packed_clauses.specs.declared.building.Builder.{Builder}
use Rattle.packed_clauses.specs.declared.piece.Kind.{Kind}
use Rattle.packed_clauses.specs.declared.piece.Kind.TheVariants.{Sort, Variable, Open, Close, Predicate, Equation, Truth, Falsehood}
use Rattle.packed_clauses.specs.declared.reading.Reader.{Reader}
use Rattle.packed_clauses.specs.Reading.{kind_at}
use Rattle.packed_clauses.specs.code.Spelling.{code, digits, spelled_piece, spelled_term, spelled_terms, spelled_atom, spelled_sorts, spelled_lits, spelled_clause}
use Rattle.packed_clauses.specs.Reading.{nothing, with_term, ended, built, between, digit_read, taken, read_from, clause_read, terms_read}
use Rattle.packed_clauses.proofs.Spelled.{spelled-Var, spelled-App, one_digit, are_two_digits, are_five_digits}

-- a piece in the midst of its number
abbrev midst : Builder → Kind → ℕ → Reader
midst b k n = record { kind = Some k; number = n; builder = b }

-- a digit that goes on
goes_on : (b : Builder) (k : Kind) (n d : ℕ) → taken (midst b k n) (128 + d) ≡ midst b k (n * 128 + d)
goes_on b k n d = let past : 128 + d - 127 ≡ suc d = omega arith in ap (digit_read b k n (128 + d)) past

-- the last digit
ends : (b : Builder) (k : Kind) (n d : ℕ) → d < 128 → taken (midst b k n) d ≡ between (built b k (n * 128 + d))
ends b k n d h = let past : d - 127 ≡ 0 = omega arith in ap (digit_read b k n d) past

below : (n : ℕ) → n % 128 < 128
below n = omega arith

last_read : (b : Builder) (k : Kind) (n : ℕ) → taken (midst b k (n / 128)) (n % 128) ≡ between (built b k n)
last_read b k n = ends b k (n / 128) (n % 128) (below n) ∙ ap (λ x. between (built b k x)) (div-add-mod' n 128)

next_read : (b : Builder) (k : Kind) (n : ℕ) → taken (midst b k (n / 128)) (128 + n % 128) ≡ midst b k n
next_read b k n = goes_on b k (n / 128) (n % 128) ∙ ap (midst b k) (div-add-mod' n 128)

none_before : (n : ℕ) → 0 * 128 + n ≡ n
none_before n = omega arith

first_read : (b : Builder) (k : Kind) (n : ℕ) → taken (midst b k 0) (128 + n) ≡ midst b k n
first_read b k n = goes_on b k 0 n ∙ ap (midst b k) (none_before n)

-- the digits of a number
digits_read : (b : Builder) (k : Kind) (n : ℕ) → fold taken (midst b k 0) (digits n) ≡ between (built b k n)
digits_read b k n = by_size (cases_lt n 128) where
  by_more : 128 ≤ n → (n < 16384) ⊎ (16384 ≤ n) → fold taken (midst b k 0) (digits n) ≡ between (built b k n)
  by_more h (inl g) =
      ap (fold taken (midst b k 0)) (are_two_digits n h g)
      ∙ ap (λ r. taken r (n % 128)) (first_read b k (n / 128))
      ∙ last_read b k n
  by_more h (inr g) =
      let second = n / 128 in
      let third = n / 128 / 128 in
      let fourth = n / 128 / 128 / 128 in
      ap (fold taken (midst b k 0)) (are_five_digits n g)
      ∙ ap (λ r. fold taken r ((128 + fourth % 128) ∷ (128 + third % 128) ∷ (128 + second % 128) ∷ n % 128 ∷ [])) (first_read b k (fourth / 128))
      ∙ ap (λ r. fold taken r ((128 + third % 128) ∷ (128 + second % 128) ∷ n % 128 ∷ [])) (next_read b k fourth)
      ∙ ap (λ r. fold taken r ((128 + second % 128) ∷ n % 128 ∷ [])) (next_read b k third)
      ∙ ap (λ r. fold taken r (n % 128 ∷ [])) (next_read b k second)
      ∙ last_read b k n

  by_size : (n < 128) ⊎ (128 ≤ n) → fold taken (midst b k 0) (digits n) ≡ between (built b k n)
  by_size (inl h) = ap (fold taken (midst b k 0)) (one_digit n h) ∙ ends b k 0 n h ∙ ap (λ x. between (built b k x)) (none_before n)
  by_size (inr h) = by_more h (cases_lt n 16384)

kind_again : (k : Kind) → kind_at (code k) ≡ Some k
kind_again Sort = refl
kind_again Variable = refl
kind_again Open = refl
kind_again Close = refl
kind_again (Predicate true) = refl
kind_again (Predicate false) = refl
kind_again (Equation true) = refl
kind_again (Equation false) = refl
kind_again (Truth true) = refl
kind_again (Truth false) = refl
kind_again (Falsehood true) = refl
kind_again (Falsehood false) = refl

piece_read : (b : Builder) (k : Kind) (n : ℕ) → fold taken (between b) (spelled_piece k n) ≡ between (built b k n)
piece_read b k n =
    ap (λ (o : Option Kind). fold taken (record { kind = o; number = 0; builder = b }) (digits n)) (kind_again k)
    ∙ digits_read b k n

-- what is read first and then
then : (b mid end : Builder) (xs ys : List ℕ) → fold taken (between b) xs ≡ between mid → fold taken (between mid) ys ≡ between end → fold taken (between b) (xs ++ ys) ≡ between end
then b mid end xs ys e h = fold-append taken (between b) xs ys ∙ ap (λ (r : Reader). fold taken r ys) e ∙ h

-- with these terms more
abbrev with_terms : Builder → List Term → Builder
with_terms b ts = record { sorts = b.sorts; lits = b.lits; begun = b.begun; terms = b.terms ++ ts }

abbrev IsRead : Term → Type 0
IsRead t = (b : Builder) → fold taken (between b) (spelled_term t) ≡ between (with_term b t)

no_terms : (b : Builder) → with_terms b [] ≡ b
no_terms b = ap (λ (ts : List Term). with_all b ts) (append-nil b.terms) where
  with_all : Builder → List Term → Builder
  with_all b ts = record { sorts = b.sorts; lits = b.lits; begun = b.begun; terms = ts }

more_terms : (b : Builder) (t : Term) (ts : List Term) → with_terms (with_term b t) ts ≡ with_terms b (t ∷ ts)
more_terms b t ts = ap (λ (us : List Term). with_all b us) (append_assoc b.terms (t ∷ []) ts) where
  with_all : Builder → List Term → Builder
  with_all b ts = record { sorts = b.sorts; lits = b.lits; begun = b.begun; terms = ts }

all_read : (ts : List Term) → AllByRecursion IsRead ts → (b : Builder) → fold taken (between b) (spelled_terms ts) ≡ between (with_terms b ts)
all_read [] h b = ap between (sym (no_terms b))
all_read (t ∷ ts) h b =
    then b (with_term b t) (with_terms b (t ∷ ts)) (spelled_term t) (spelled_terms ts) (h.0 b)
    (all_read ts h.1 (with_term b t) ∙ ap between (more_terms b t ts))

-- the last that has begun ends
last_ended : (os : List Begun) (o : Begun) (ts : List Term) → ended (os ++ o ∷ []) ts ≡ (os, o.before ++ App o.symbol ts ∷ [])
last_ended [] o ts = refl
last_ended (p ∷ []) o ts = refl
last_ended (p ∷ q ∷ os) o ts = ap (λ (r : List Begun × List Term). (p ∷ r.0, r.1)) (last_ended (q ∷ os) o ts)

pub built_ended : (b : Builder) (os : List Begun) (o : Begun) → b.begun ≡ os ++ o ∷ [] → built b Close 0 ≡ record { sorts = b.sorts; lits = b.lits; begun = os; terms = o.before ++ App o.symbol b.terms ∷ [] }
built_ended b os o is =
    ap (λ (r : List Begun × List Term). of_rest b r) (ap (λ (ps : List Begun). ended ps b.terms) is ∙ last_ended os o b.terms) where
      of_rest : Builder → List Begun × List Term → Builder
      of_rest b r = record { sorts = b.sorts; lits = b.lits; begun = r.0; terms = r.1 }

-- with others that have begun, and other terms
abbrev with_rest : Builder → List Begun → List Term → Builder
with_rest b os ts = record { sorts = b.sorts; lits = b.lits; begun = os; terms = ts }

pub ended_with : (b : Builder) (os : List Begun) (o : Begun) (ts : List Term) → b.begun ≡ os ++ o ∷ [] → ts ≡ o.before ++ App o.symbol b.terms ∷ [] → with_rest b os ts ≡ built b Close 0
ended_with b os o ts is same = ap (with_rest b os) same ∙ sym (built_ended b os o is)

closed_again : (b : Builder) (f : ℕ) (ts : List Term) → built (with_terms (built b Open f) ts) Close 0 ≡ with_term b (App f ts)
closed_again b f ts = built_ended (with_terms (built b Open f) ts) b.begun (record { symbol = f; before = b.terms }) refl

term_read : (t : Term) → IsRead t
term_read = term_induction IsRead (record {
  var = λ k b. ap (fold taken (between b)) (spelled-Var k) ∙ piece_read b Variable k;
  app = λ f ts all b.
      let inside = built b Open f in
      let full = with_terms inside ts in
      ap (fold taken (between b)) (spelled-App f ts)
      ∙ then b full (with_term b (App f ts)) (spelled_piece Open f ++ spelled_terms ts) (spelled_piece Close 0)
      (then b inside full (spelled_piece Open f) (spelled_terms ts) (piece_read b Open f) (all_read ts all inside))
      (piece_read full Close 0 ∙ ap between (closed_again b f ts));
})

each_read : (ts : List Term) → AllByRecursion IsRead ts
each_read [] = tt
each_read (t ∷ ts) = (term_read t, each_read ts)

terms_again : (ts : List Term) (b : Builder) → fold taken (between b) (spelled_terms ts) ≡ between (with_terms b ts)
terms_again ts b = all_read ts (each_read ts) b

-- what is built of whole sorts and literals
abbrev whole : List ℕ → List Lit → Builder
whole sorts lits = record { sorts = sorts; lits = lits; begun = []; terms = [] }

atom_read : (sorts : List ℕ) (lits : List Lit) (s : Bool) (a : AtomOf) → fold taken (between (whole sorts lits)) (spelled_atom s a) ≡ between (whole sorts (lits ++ record { positive = s; atom = a } ∷ []))
atom_read sorts lits s (Pred p ts) =
    then (whole sorts lits) (with_terms (whole sorts lits) ts) (whole sorts (lits ++ record { positive = s; atom = Pred p ts } ∷ [])) (spelled_terms ts) (spelled_piece (Predicate s) p) (terms_again ts (whole sorts lits))
    (piece_read (with_terms (whole sorts lits) ts) (Predicate s) p)
atom_read sorts lits s (Eq l r) =
    let one = with_term (whole sorts lits) l in
    let two = with_term one r in
    let end = whole sorts (lits ++ record { positive = s; atom = Eq l r } ∷ []) in
    then (whole sorts lits) two end (spelled_term l ++ spelled_term r) (spelled_piece (Equation s) 0)
    (then (whole sorts lits) one two (spelled_term l) (spelled_term r) (term_read l (whole sorts lits)) (term_read r one)) (piece_read two (Equation s) 0)
atom_read sorts lits s True = piece_read (whole sorts lits) (Truth s) 0
atom_read sorts lits s False = piece_read (whole sorts lits) (Falsehood s) 0

lits_read : (sorts : List ℕ) (before lits : List Lit) → fold taken (between (whole sorts before)) (spelled_lits lits) ≡ between (whole sorts (before ++ lits))
lits_read sorts before [] = ap (λ (ls : List Lit). between (whole sorts ls)) (sym (append-nil before))
lits_read sorts before (l ∷ lits) =
    then (whole sorts before) (whole sorts (before ++ l ∷ [])) (whole sorts (before ++ l ∷ lits)) (spelled_atom l.positive l.atom) (spelled_lits lits) (atom_read sorts before l.positive l.atom)
    (lits_read sorts (before ++ l ∷ []) lits ∙ ap (λ (ls : List Lit). between (whole sorts ls)) (append_assoc before (l ∷ []) lits))

sorts_read : (before sorts : List ℕ) → fold taken (between (whole before [])) (spelled_sorts sorts) ≡ between (whole (before ++ sorts) [])
sorts_read before [] = ap (λ (ss : List ℕ). between (whole ss [])) (sym (append-nil before))
sorts_read before (s ∷ sorts) =
    then (whole before []) (whole (before ++ s ∷ []) []) (whole (before ++ s ∷ sorts) []) (spelled_piece Sort s) (spelled_sorts sorts) (piece_read (whole before []) Sort s)
    (sorts_read (before ++ s ∷ []) sorts ∙ ap (λ (ss : List ℕ). between (whole ss [])) (append_assoc before (s ∷ []) sorts))

pub clause_again : (c : Clause) → clause_read (spelled_clause c) ≡ c
unfolding read_from
clause_again c =
    ap (λ (r : Reader). of_reader r)
    (then nothing (whole c.sorts []) (whole c.sorts c.lits) (spelled_sorts c.sorts) (spelled_lits c.lits) (sorts_read [] c.sorts) (lits_read c.sorts [] c.lits)) where
      of_reader : Reader → Clause
      of_reader r = record { sorts = r.builder.sorts; lits = r.builder.lits }

-- the same as the code has it
pub packed_again : (c : Clause) (none bytes slice kept : List ℕ) → none ≡ [] → bytes ≡ none ++ spelled_clause c → slice ≡ bytes → kept ≡ slice → clause_read kept ≡ c
packed_again c none bytes slice kept empty written lent copied =
    ap clause_read (copied ∙ lent ∙ written ∙ ap (λ (xs : List ℕ). xs ++ spelled_clause c) empty) ∙ clause_again c

pub terms_are_again : (ts : List Term) → terms_read (spelled_terms ts) ≡ ts
unfolding read_from
terms_are_again ts = ap (λ (r : Reader). r.builder.terms) (terms_again ts nothing)

-- one byte more
pub read_more : (bytes : List ℕ) (i d : ℕ) → i < length bytes → read_from (take (i + 1) bytes) ≡ taken (read_from (take i bytes)) (get_or bytes i d)
unfolding read_from
read_more bytes i d h =
    ap (fold taken (between nothing)) (take_more bytes i d h)
    ∙ fold-append taken (between nothing) (take i bytes) (get_or bytes i d ∷ [])

pub read_none : read_from [] ≡ between nothing
unfolding read_from
read_none = refl
