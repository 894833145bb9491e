-- The reader of quoted names is exact and finds each of them.
use Rattle.std.proofs.Common.{◌≡◌, Bool, true, false, ℕ, ◌<◌, List, [], ◌∷◌, ◌++◌, length, Ok, Err, inl, refl, sym, ◌∙◌, ap, subst, arith}
use Rattle.std.specs.Prelude.{if◌then◌else◌, ◌==◌, ◌&&◌}
use Rattle.std.specs.List.{flat_map, list_all}
use Rattle.std.proofs.lemmas.Bool.Decides.{nat_tests}
use Rattle.std.proofs.lemmas.List.Sums.{AllPass-from_list_all, list_all-from_AllPass}
use Rattle.first_fault.specs.Nesting.{Nested, plain}
use Rattle.first_fault.specs.code.Reading.{Unexpected, Reader, Outcome, mapped, opened}
use Rattle.first_fault.specs.Rules.{Rule}
use Rattle.first_fault.proofs.Exact.{Exact, Inhabited, exact_stop, exact_after, exact_token, mapped_same, by_next, by_end}
use Rattle.first_fault.proofs.Found.{Found}
use Rattle.first_fault.proofs.Good.{Good, After, after, good_opened, good_as, always}
use Rattle.proof_log.specs.Words.{at_level}
use Rattle.tptp_base.specs.Quotable.{is_printable, IsQuotable}
use Rattle.proof_log.specs.Entries.{is_special, escaped}
use Rattle.proof_log.specs.Entries as entries
use Rattle.proof_log.specs.code.ReadWords.{is_byte}
use Rattle.proof_log.specs.code.ReadEntries.{characters, some_characters, quoted}
use Rattle.proof_log.proofs.Spelling.{within_level, plain-on}
use Rattle.proof_log.proofs.NumberReader.{is_kind}

-- the characters and the quote behind them
abbrev inside : List ℕ → List ℕ
inside n = flat_map escaped n ++ 39 ∷ []

abbrev Inside : Rule ℕ (List ℕ)
Inside n ts rest = (ts ≡ at_level 0 (inside n) ++ rest) × (list_all is_printable n ≡ true)

-- the first character has a backslash in front of it
abbrev Escaped : Rule ℕ (List ℕ)
Escaped n ts rest = (c : ℕ) × (m : List ℕ) × (n ≡ c ∷ m) × (is_special c ≡ true) × (ts ≡ (c, 0) ∷ (at_level 0 (inside m) ++ rest)) × (list_all is_printable m ≡ true)

-- there is a character
abbrev Some_inside : Rule ℕ (List ℕ)
Some_inside n ts rest = Inside n ts rest × (0 < length n)

special_prints : (c : ℕ) → is_special c ≡ true → is_printable c ≡ true
special_prints c e = grind (arith, nat_tests)

plain_char : (c : ℕ) → (c == 39) ≡ false → (c == 92) ≡ false → is_special c ≡ false
plain_char c e k = grind (arith, nat_tests)

in_front : (c : ℕ) (m : List ℕ) (t : Bool) → is_special c ≡ t → inside (c ∷ m) ≡ (if t then 92 ∷ c ∷ inside m else c ∷ inside m)
in_front c m true e = ap (λ t. (let r : List ℕ = if t then 92 ∷ c ∷ [] else c ∷ [] in (r ++ flat_map escaped m) ++ 39 ∷ [])) e
in_front c m false e = ap (λ t. (let r : List ℕ = if t then 92 ∷ c ∷ [] else c ∷ [] in (r ++ flat_map escaped m) ++ 39 ∷ [])) e

all_print : (c : ℕ) (m : List ℕ) → is_printable c ≡ true → list_all is_printable m ≡ true → list_all is_printable (c ∷ m) ≡ true
all_print c m e k = ap (λ t. t && list_all is_printable m) e ∙ k

of_escaped : (n : List ℕ) (ts rest : List (Nested ℕ)) → Escaped n ts rest → Some_inside n ((92, 0) ∷ ts) rest
of_escaped n ts rest h =
    let one : Some_inside (h.0 ∷ h.1) ((92, 0) ∷ ts) rest =
    ((ap (λ l. (92, 0) ∷ l) h.4 ∙ ap (λ l. at_level 0 l ++ rest) (sym (in_front h.0 h.1 true h.3)), all_print h.0 h.1 (special_prints h.0 h.3) h.5), omega arith) in
    subst (λ m. Some_inside m ((92, 0) ∷ ts) rest) (sym h.2) one

of_plain : (c : ℕ) → (c == 39) ≡ false → (c == 92) ≡ false → is_printable c ≡ true → (m : List ℕ) (ts rest : List (Nested ℕ)) → Inside m ts rest → Some_inside (c ∷ m) ((c, 0) ∷ ts) rest
of_plain c e k p m ts rest h = ((ap (λ l. (c, 0) ∷ l) h.0 ∙ ap (λ l. at_level 0 l ++ rest) (sym (in_front c m false (plain_char c e k))), all_print c m p h.1), omega arith)

of_quote : (b : ℕ) → (b == 39) ≡ true → (more : List (Nested ℕ)) → Inside [] ((b, 0) ∷ more) more
of_quote b e more = let is : b ≡ 39 = grind (arith, nat_tests) in (ap (λ c. (c, 0) ∷ more) is, refl)

of_special : (c : ℕ) → is_special c ≡ true → (m : List ℕ) (ts rest : List (Nested ℕ)) → Inside m ts rest → Escaped (c ∷ m) ((c, 0) ∷ ts) rest
of_special c e m ts rest h = (c, m, refl, e, ap (λ l. (c, 0) ∷ l) h.0, h.1)

some_within : Inhabited Inside
some_within = record { value = []; text = λ more. (39, 0) ∷ more; spells = λ more. (refl, refl) }

some_escaped : Inhabited Escaped
some_escaped = record { value = 39 ∷ []; text = λ more. (39, 0) ∷ (39, 0) ∷ more; spells = λ more. of_special 39 refl [] ((39, 0) ∷ more) more (refl, refl) }

some_characters_there : Inhabited Some_inside
some_characters_there = record { value = 65 ∷ []; text = λ more. (65, 0) ∷ (39, 0) ∷ more; spells = λ more. of_plain 65 refl refl refl [] ((39, 0) ∷ more) more (refl, refl) }

abbrev escape_step : ℕ → List ℕ → Bool → Outcome ℕ (List ℕ)
escape_step b ts t = if t then mapped (λ n. b ∷ n) (characters false ts) else Err (Unexpected, b ∷ ts)

-- a step, with what it answers at a quote
abbrev step : Outcome ℕ (List ℕ) → ℕ → List ℕ → Bool → Bool → Bool → Outcome ℕ (List ℕ)
step at_quote b ts quote escape print = if quote then at_quote else if escape then characters true ts else if print then mapped (λ n. b ∷ n) (characters false ts) else Err (Unexpected, b ∷ ts)

module _ (limit : ℕ) where
  abbrev Both : List ℕ → Type 0
  Both ts = Exact (characters false) Inside limit ts (characters false ts) × Exact (characters true) Escaped limit ts (characters true ts)

  -- what a reader that does such a step answers where no quote stands next
  exact_step : (p : Reader ℕ (List ℕ)) (P : Rule ℕ (List ℕ)) (quote_at : ℕ → List ℕ → Outcome ℕ (List ℕ)) → ((b : ℕ) (ts : List ℕ) → p (b ∷ ts) ≡ step (quote_at b ts) b ts (b == 39) (b == 92) (is_printable b))
      → ((n : List ℕ) (ts rest : List (Nested ℕ)) → Some_inside n ts rest → P n ts rest) → Inhabited P
      → (b : ℕ) (ts : List ℕ) → Both ts → (b == 39) ≡ false → (escape print : Bool) → (b == 92) ≡ escape → is_printable b ≡ print → Exact p P limit (b ∷ ts) (step (quote_at b ts) b ts false escape print)
  exact_step p P quote_at same wide some b ts ih unquoted true print k l =
      let is : b ≡ 92 = grind (arith, nat_tests) in
      subst (Exact p P limit (b ∷ ts)) (mapped_same (characters true ts))
      (exact_after b p (characters true) Escaped P limit 0 (λ n. n) (omega arith)
      (λ n us rest h. wide n ((b, 0) ∷ us) rest (subst (λ c. Some_inside n ((c, 0) ∷ us) rest) (sym is) (of_escaped n us rest h)))
      (λ us. same b us ∙ ap (λ q. step (quote_at b us) b us q (b == 92) (is_printable b)) unquoted ∙ ap (λ e. step (quote_at b us) b us false e (is_printable b)) k ∙ sym (mapped_same (characters true us)))
      ts (characters true ts) ih.1)
  exact_step p P quote_at same wide some b ts ih unquoted false true k l =
      exact_after b p (characters false) Inside P limit 0 (λ n. b ∷ n) (omega arith)
      (λ n us rest h. wide (b ∷ n) ((b, 0) ∷ us) rest (of_plain b unquoted k l n us rest h))
      (λ us. same b us ∙ ap (λ q. step (quote_at b us) b us q (b == 92) (is_printable b)) unquoted ∙ ap (λ e. step (quote_at b us) b us false e (is_printable b)) k ∙ ap (λ r. step (quote_at b us) b us false false r) l)
      ts (characters false ts) ih.0
  exact_step p P quote_at same wide some b ts ih unquoted false false k l =
      exact_stop p P limit (b ∷ ts) some
      (λ other n. by_next b (λ o. p o ≡ Err (Unexpected, o))
      (λ us. same b us ∙ ap (λ q. step (quote_at b us) b us q (b == 92) (is_printable b)) unquoted ∙ ap (λ e. step (quote_at b us) b us false e (is_printable b)) k ∙ ap (λ r. step (quote_at b us) b us false false r) l) other n)

  exact_inside : (b : ℕ) (ts : List ℕ) → Both ts → (quote : Bool) → (b == 39) ≡ quote → Exact (characters false) Inside limit (b ∷ ts) (step (Ok ([], ts)) b ts quote (b == 92) (is_printable b))
  exact_inside b ts ih true e = exact_token (characters false) Inside limit b 0 [] (omega arith) (of_quote b e) (λ us. ap (λ q. step (Ok ([], us)) b us q (b == 92) (is_printable b)) e) ts
  exact_inside b ts ih false e = exact_step (characters false) Inside (λ c us. Ok ([], us)) (λ c us. refl) (λ n us rest h. h.0) some_within b ts ih e (b == 92) (is_printable b) refl refl

  exact_escaped : (b : ℕ) (ts : List ℕ) → Both ts → (t : Bool) → is_special b ≡ t → Exact (characters true) Escaped limit (b ∷ ts) (escape_step b ts t)
  exact_escaped b ts ih true e = exact_after b (characters true) (characters false) Inside Escaped limit 0 (λ n. b ∷ n) (omega arith) (of_special b e) (λ us. ap (escape_step b us) e) ts (characters false ts) ih.0
  exact_escaped b ts ih false e = exact_stop (characters true) Escaped limit (b ∷ ts) some_escaped (λ other n. by_next b (λ o. characters true o ≡ Err (Unexpected, o)) (λ us. ap (escape_step b us) e) other n)

  exact_both : (ts : List ℕ) → Both ts
  exact_both [] = (
    exact_stop (characters false) Inside limit [] some_within (λ other n. by_end (λ o. characters false o ≡ Err (Unexpected, o)) refl other n),
    exact_stop (characters true) Escaped limit [] some_escaped (λ other n. by_end (λ o. characters true o ≡ Err (Unexpected, o)) refl other n),
  )
  exact_both (b ∷ ts) = let ih = exact_both ts in (exact_inside b ts ih (b == 39) refl, exact_escaped b ts ih (is_special b) refl)

  exact_first : (b : ℕ) (ts : List ℕ) (quote : Bool) → (b == 39) ≡ quote → Exact some_characters Some_inside limit (b ∷ ts) (step (Err (Unexpected, b ∷ ts)) b ts quote (b == 92) (is_printable b))
  exact_first b ts true e =
      exact_stop some_characters Some_inside limit (b ∷ ts) some_characters_there (λ other n. by_next b (λ o. some_characters o ≡ Err (Unexpected, o)) (λ us. ap (λ q. step (Err (Unexpected, b ∷ us)) b us q (b == 92) (is_printable b)) e) other n)
  exact_first b ts false e = exact_step some_characters Some_inside (λ c us. Err (Unexpected, c ∷ us)) (λ c us. refl) (λ n us rest h. h) some_characters_there b ts (exact_both ts) e (b == 92) (is_printable b) refl refl

  exact_some : (ts : List ℕ) → Exact some_characters Some_inside limit ts (some_characters ts)
  exact_some [] = exact_stop some_characters Some_inside limit [] some_characters_there (λ other n. by_end (λ o. some_characters o ≡ Err (Unexpected, o)) refl other n)
  exact_some (b ∷ ts) = exact_first b ts (b == 39) refl

-- ---- each name is found

abbrev steps : ℕ → List ℕ → Bool → Bool → Bool → Outcome ℕ (List ℕ)
steps b ts quote escape print = step (Ok ([], ts)) b ts quote escape print

plain_test : (c : ℕ) → is_special c ≡ false → ((c == 39) ≡ false) × ((c == 92) ≡ false)
plain_test c e = (grind (arith, nat_tests), grind (arith, nat_tests))

first_prints : (x y : Bool) → (x && y) ≡ true → (x ≡ true) × (y ≡ true)
first_prints true y e = (refl, e)
first_prints false y e = cc

abbrev Reads_on : List ℕ → Type 0
Reads_on m = (r : List ℕ) → characters false (inside m ++ r) ≡ Ok (m, r)

read_char : (c : ℕ) (m : List ℕ) (t : Bool) → is_special c ≡ t → is_printable c ≡ true → Reads_on m → (r : List ℕ) → characters false ((if t then 92 ∷ c ∷ inside m else c ∷ inside m) ++ r) ≡ Ok (c ∷ m, r)
read_char c m true e p ih r = ap (escape_step c (inside m ++ r)) e ∙ ap (mapped (λ n. c ∷ n)) (ih r)
read_char c m false e p ih r =
    let tests = plain_test c e in
    ap (λ q. steps c (inside m ++ r) q (c == 92) (is_printable c)) tests.0 ∙ ap (λ q. steps c (inside m ++ r) false q (is_printable c)) tests.1 ∙ ap (steps c (inside m ++ r) false false) p
    ∙ ap (mapped (λ n. c ∷ n)) (ih r)

read_inside : (n : List ℕ) → list_all is_printable n ≡ true → Reads_on n
read_inside [] e r = refl
read_inside (c ∷ m) e r =
    let parts = first_prints (is_printable c) (list_all is_printable m) e in
    ap (λ l. characters false (l ++ r)) (in_front c m (is_special c) refl) ∙ read_char c m (is_special c) refl parts.0 (read_inside m parts.1) r

-- where a character stands next, the first step is the same
abbrev first_steps : ℕ → List ℕ → Bool → Outcome ℕ (List ℕ)
first_steps b ts quote = step (Err (Unexpected, b ∷ ts)) b ts quote (b == 92) (is_printable b)

same_steps : (c : ℕ) (m : List ℕ) (t : Bool) → is_special c ≡ t → (r : List ℕ) → some_characters ((if t then 92 ∷ c ∷ inside m else c ∷ inside m) ++ r) ≡ characters false ((if t then 92 ∷ c ∷ inside m else c ∷ inside m) ++ r)
same_steps c m true e r = refl
same_steps c m false e r =
    let tests = plain_test c e in ap (first_steps c (inside m ++ r)) tests.0 ∙ sym (ap (λ q. steps c (inside m ++ r) q (c == 92) (is_printable c)) tests.0)

read_some : (c : ℕ) (m : List ℕ) → list_all is_printable (c ∷ m) ≡ true → (r : List ℕ) → some_characters (inside (c ∷ m) ++ r) ≡ Ok (c ∷ m, r)
read_some c m e r =
    let same = in_front c m (is_special c) refl in
    subst (λ l. some_characters (l ++ r) ≡ characters false (l ++ r)) (sym same) (same_steps c m (is_special c) refl r) ∙ read_inside (c ∷ m) e r

found_some : (limit : ℕ) (n : List ℕ) (ts rest : List (Nested ℕ)) → Some_inside n ts rest → Found limit some_characters n ts rest
found_some limit [] ts rest h = absurd (let pos : 0 < 0 = h.1 in omega arith)
found_some limit (c ∷ m) ts rest h =
    subst (λ us. Found limit some_characters (c ∷ m) us rest) (sym h.0.0)
    (inl (within_level limit 0 (omega arith) (inside (c ∷ m)) rest, ap some_characters (plain-on 0 (inside (c ∷ m)) rest) ∙ read_some c m h.0.1 (plain rest)))

good_some : (limit : ℕ) → Good limit some_characters Some_inside always
good_some limit = record { exact = exact_some limit; found = λ n ts rest h e. found_some limit n ts rest h; some = some_characters_there }

-- ---- with the blank and the quote in front

-- a quoted name
abbrev pub Quoted : Rule ℕ (List ℕ)
Quoted n ts rest = (ts ≡ at_level 0 (32 ∷ entries.quoted n) ++ rest) × IsQuotable n

abbrev Behind_quote : Rule ℕ (List ℕ)
Behind_quote = After 39 0 (λ n. n) Some_inside

abbrev Behind_blank : Rule ℕ (List ℕ)
Behind_blank = After 32 0 (λ n. n) Behind_quote

to_quoted_at : (n : List ℕ) (ts rest : List (Nested ℕ)) → Behind_quote n ts rest → Quoted n ((32, 0) ∷ ts) rest
to_quoted_at n ts rest (after {ts = us} h) = (ap (λ l. (32, 0) ∷ (39, 0) ∷ l) h.0.0, record { some = h.1; printable = AllPass-from_list_all is_printable n h.0.1 })

to_quoted : (n : List ℕ) (ts rest : List (Nested ℕ)) → Behind_blank n ts rest → Quoted n ts rest
to_quoted n ts rest (after {ts = us} h) = to_quoted_at n us rest h

of_quoted : (n : List ℕ) (ts rest : List (Nested ℕ)) → Quoted n ts rest → Behind_blank n ts rest
of_quoted n ts rest h =
    subst (λ us. Behind_blank n us rest) (sym h.0) (after (after ((refl, list_all-from_AllPass is_printable n h.1.printable), h.1.some)))

pub good_quoted : (limit : ℕ) → Good limit quoted Quoted always
unfolding quoted
good_quoted limit =
    good_as limit quoted Behind_blank Quoted always always
    (good_opened (is_byte 32) 32 (is_kind 32) limit 0 (omega arith) (opened (is_byte 39) some_characters) Behind_quote always
    (good_opened (is_byte 39) 39 (is_kind 39) limit 0 (omega arith) some_characters Some_inside always (good_some limit)))
    to_quoted of_quoted (λ h e. e)
