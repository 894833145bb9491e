-- The reader of logs is exact and finds each log.
use Rattle.std.proofs.Common.{◌≡◌, ℕ, zero, suc, ◌<◌, ◌≤◌, List, [], ◌∷◌, ◌++◌, length, Ok, Err, ◌⊎◌, inl, inr, refl, sym, ◌∙◌, ap, subst, append_assoc, append-nil, length-append, arith}
use Rattle.std.specs.List.{flat_map}
use Rattle.first_fault.specs.Nesting.{Nested, plain, Within, FirstOver}
use Rattle.first_fault.proofs.NestingFacts.{WithinTo, done}
use Rattle.first_fault.specs.code.Reading.{Cause, TooDeep, Outcome, next}
use Rattle.first_fault.proofs.Exact.{Exact, IsRead, IsFault, Over, plain-append, within-append}
use Rattle.first_fault.proofs.Found.{Found, within_join, over_join}
use Rattle.first_fault.proofs.Separated.{length-plain}
use Rattle.kernel.specs.declared.entry.Entry.{Entry}
use Rattle.kernel.specs.declared.entry.Entry.TheVariants.{Declare, Lemma, Name, Choice}
use Rattle.proof_log.specs.Entries.{AreLogged, nested_entry}
use Rattle.proof_log.specs.code.ReadEntries.{entry}
use Rattle.proof_log.proofs.WholeReader.{LogOutcome, with_entry, followed, entries_from, entries}
use Rattle.proof_log.proofs.EntryReader.{Line, good_entry}

-- the lines of entries
abbrev pub lines : List Entry → List (Nested ℕ)
lines es = flat_map nested_entry es

some_line : (e : Entry) → 0 < length (nested_entry e)
some_line (Declare decl) = omega arith
some_line (Lemma p) = omega arith
some_line (Name k a) = omega arith
some_line (Choice k a) = omega arith

pub starts_line : (e : Entry) → (b : Nested ℕ) × (more : List (Nested ℕ)) × (nested_entry e ≡ b ∷ more)
starts_line (Declare decl) = (_, _, refl)
starts_line (Lemma p) = (_, _, refl)
starts_line (Name k a) = (_, _, refl)
starts_line (Choice k a) = (_, _, refl)

pub plain_on : (xs ys : List (Nested ℕ)) (rest : List ℕ) → plain (xs ++ ys) ++ rest ≡ plain xs ++ (plain ys ++ rest)
plain_on xs ys rest = ap (λ l. l ++ rest) (plain-append xs ys) ∙ append_assoc (plain xs) (plain ys) rest

module _ (limit : ℕ) where
  -- what was read of an entry is its line
  front_is : (e : Entry) (ts rest : List ℕ) → (h : IsRead (entry limit) Line limit e ts rest) → h.front ≡ nested_entry e
  front_is e ts rest h = sym (append-nil h.front) ∙ (h.spells []).0 ∙ append-nil (nested_entry e)

  pub moves : (e : Entry) (ts rest : List ℕ) → IsRead (entry limit) Line limit e ts rest → length rest < length ts
  moves e ts rest h =
      omega (arith, some_line e, ap length (front_is e ts rest h), length-plain h.front, ap length h.text, length-append (plain h.front) rest)

  stable_at : (n m : ℕ) (ts : List ℕ) (o : Outcome ℕ Entry) → Exact (entry limit) Line limit ts o → length ts ≤ suc n → length ts ≤ suc m
      → ((us : List ℕ) → length us ≤ n → length us ≤ m → entries_from n limit us ≡ entries_from m limit us) → followed o (entries_from n limit) ≡ followed o (entries_from m limit)
  stable_at n m ts (Ok r) h a b ih = let lt = moves r.0 ts r.1 h in ap (with_entry r.0) (ih r.1 (omega (arith, lt)) (omega (arith, lt)))
  stable_at n m ts (Err f) h a b ih = refl

  stable : (n m : ℕ) (ts : List ℕ) → length ts ≤ n → length ts ≤ m → entries_from n limit ts ≡ entries_from m limit ts
  stable n m [] a b = refl
  stable zero m (c ∷ ts) a b = absurd (omega arith)
  stable (suc n) zero (c ∷ ts) a b = absurd (omega arith)
  stable (suc n) (suc m) (c ∷ ts) a b = stable_at n m (c ∷ ts) (entry limit (c ∷ ts)) ((good_entry limit).exact (c ∷ ts)) a b (λ us p q. stable n m us p q)

  again_at : (n : ℕ) (ts : List ℕ) (o : Outcome ℕ Entry) → Exact (entry limit) Line limit ts o → length ts ≤ suc n → followed o (entries_from n limit) ≡ followed o (entries limit)
  unfolding entries
  again_at n ts (Ok r) h a = let lt = moves r.0 ts r.1 h in ap (with_entry r.0) (stable n (length r.1) r.1 (omega (arith, lt)) (omega arith))
  again_at n ts (Err f) h a = refl

  -- an entry, and then the others
  pub unrolled : (c : ℕ) (ts : List ℕ) → entries limit (c ∷ ts) ≡ followed (entry limit (c ∷ ts)) (entries limit)
  unfolding entries
  unrolled c ts = again_at (length ts) (c ∷ ts) (entry limit (c ∷ ts)) ((good_entry limit).exact (c ∷ ts)) (omega arith)

  pub no_entries : entries limit [] ≡ Ok []
  unfolding entries
  no_entries = refl

  -- ---- exactness

  pub record IsReadWhole (es : List Entry) (ts : List ℕ) : Type 0 where
    pub logged : AreLogged es
    pub within : Within limit (lines es)
    pub text : ts ≡ plain (lines es)

  -- what was read before a fault, and entries that go on from there
  pub record IsLogFault (cause : Cause) (ts rest : List ℕ) : Type 0 where
    pub front : List (Nested ℕ)
    pub within : Within limit front
    pub text : ts ≡ plain front ++ rest
    pub es : List Entry
    pub logged : AreLogged es
    pub on : List (Nested ℕ) → List (Nested ℕ)
    pub spells : lines es ≡ front ++ on []
    pub over : Over cause limit rest on
    pub again : (other : List ℕ) → next other ≡ next rest → entries limit (plain front ++ other) ≡ Err (cause, other)

  abbrev pub ExactLog : List ℕ → LogOutcome → Type 0
  ExactLog ts (Ok es) = IsReadWhole es ts
  ExactLog ts (Err f) = IsLogFault f.0 ts f.1

  -- a fault in the entry that is read
  unroll_front : (cause : Cause) (front : List ℕ) (other : List ℕ) → entry limit (front ++ other) ≡ Err (cause, other) → (b : ℕ) × (more : List ℕ) × (front ++ other ≡ b ∷ more) → entries limit (front ++ other) ≡ Err (cause, other)
  unroll_front cause front other e k =
      ap (entries limit) k.2 ∙ unrolled k.0 k.1 ∙ ap (λ o. followed o (entries limit)) (ap (entry limit) (sym k.2) ∙ e)

  begins_at : (front : List ℕ) (other rest : List ℕ) (c : ℕ) (ts : List ℕ) → c ∷ ts ≡ front ++ rest → next other ≡ next rest → (b : ℕ) × (more : List ℕ) × (front ++ other ≡ b ∷ more)
  begins_at (b ∷ front) other rest c ts e k = (b, front ++ other, refl)
  begins_at [] (b ∷ other) rest c ts e k = (b, other, refl)
  begins_at [] [] [] c ts e k = cc
  begins_at [] [] (b ∷ rest) c ts e k = cc

  at_once : (cause : Cause) (c : ℕ) (ts rest : List ℕ) → IsFault (entry limit) Line limit cause (c ∷ ts) rest → IsLogFault cause (c ∷ ts) rest
  at_once cause c ts rest h = record {
    front = h.front;
    within = h.within;
    text = h.text;
    es = h.value ∷ [];
    logged = ((h.spells []).1, tt);
    on = h.on;
    spells = sym (h.spells []).0;
    over = h.over;
    again = λ other k. unroll_front cause (plain h.front) other (h.again other k) (begins_at (plain h.front) other rest c ts h.text k);
  }

  next_on : (xs other rest : List ℕ) → next other ≡ next rest → next (xs ++ other) ≡ next (xs ++ rest)
  next_on [] other rest e = e
  next_on (x ∷ xs) other rest e = refl

  first_of : (e : Entry) (us : List ℕ) → (b : ℕ) × (more : List ℕ) × (plain (nested_entry e) ++ us ≡ b ∷ more)
  first_of e us = let s = starts_line e in (s.0.0, plain s.1 ++ us, ap (λ l. plain l ++ us) s.2)

  -- an entry that is read, in front of others
  pub in_front : (e : Entry) (us : List ℕ) → entry limit (plain (nested_entry e) ++ us) ≡ Ok (e, us) → entries limit (plain (nested_entry e) ++ us) ≡ with_entry e (entries limit us)
  in_front e us k =
      let f = first_of e us in
      ap (entries limit) f.2 ∙ unrolled f.0 f.1 ∙ ap (λ o. followed o (entries limit)) (ap (entry limit) (sym f.2) ∙ k)

  read_line : (e : Entry) (ts rest : List ℕ) → IsRead (entry limit) Line limit e ts rest → (us : List ℕ) → next us ≡ next rest → entry limit (plain (nested_entry e) ++ us) ≡ Ok (e, us)
  read_line e ts rest h us k = subst (λ l. entry limit (plain l ++ us) ≡ Ok (e, us)) (front_is e ts rest h) (h.again us k)

  pub line_text : (e : Entry) (ts rest : List ℕ) → IsRead (entry limit) Line limit e ts rest → ts ≡ plain (nested_entry e) ++ rest
  line_text e ts rest h = h.text ∙ ap (λ l. plain l ++ rest) (front_is e ts rest h)

  pub line_within : (e : Entry) (ts rest : List ℕ) → IsRead (entry limit) Line limit e ts rest → Within limit (nested_entry e)
  line_within e ts rest h = subst (Within limit) (front_is e ts rest h) h.within

  with_line : (e : Entry) (ts rest : List ℕ) → IsRead (entry limit) Line limit e ts rest → (o : LogOutcome) → ExactLog rest o → ExactLog ts (with_entry e o)
  with_line e ts rest h (Ok es) k = record {
    logged = ((h.spells []).1, k.logged);
    within = within-append limit (nested_entry e) (lines es) (line_within e ts rest h) k.within;
    text = line_text e ts rest h ∙ ap (λ l. plain (nested_entry e) ++ l) k.text ∙ sym (plain-append (nested_entry e) (lines es));
  }
  with_line e ts rest h (Err f) k = record {
    front = nested_entry e ++ k.front;
    within = within-append limit (nested_entry e) k.front (line_within e ts rest h) k.within;
    text = line_text e ts rest h ∙ ap (λ l. plain (nested_entry e) ++ l) k.text ∙ sym (plain_on (nested_entry e) k.front f.1);
    es = e ∷ k.es;
    logged = ((h.spells []).1, k.logged);
    on = k.on;
    spells = ap (λ l. nested_entry e ++ l) k.spells ∙ sym (append_assoc (nested_entry e) k.front (k.on []));
    over = k.over;
    again = λ other same.
        ap (entries limit) (plain_on (nested_entry e) k.front other)
        ∙ in_front e (plain k.front ++ other) (read_line e ts rest h (plain k.front ++ other) (next_on (plain k.front) other f.1 same ∙ ap next (sym k.text)))
        ∙ ap (with_entry e) (k.again other same);
  }

  exact_at : (n : ℕ) (c : ℕ) (ts : List ℕ) (o : Outcome ℕ Entry) → Exact (entry limit) Line limit (c ∷ ts) o → length (c ∷ ts) ≤ suc n → ((us : List ℕ) → length us ≤ n → ExactLog us (entries limit us)) → ExactLog (c ∷ ts) (followed o (entries limit))
  exact_at n c ts (Ok r) h le ih = let lt = moves r.0 (c ∷ ts) r.1 h in with_line r.0 (c ∷ ts) r.1 h (entries limit r.1) (ih r.1 (omega (arith, lt)))
  exact_at n c ts (Err f) h le ih = at_once f.0 c ts f.1 h

  exact_within : (n : ℕ) (ts : List ℕ) → length ts ≤ n → ExactLog ts (entries limit ts)
  exact_within n [] le = subst (ExactLog []) (sym no_entries) (record { logged = tt; within = tt; text = refl })
  exact_within zero (c ∷ ts) le = absurd (omega arith)
  exact_within (suc n) (c ∷ ts) le = subst (ExactLog (c ∷ ts)) (sym (unrolled c ts)) (exact_at n c ts (entry limit (c ∷ ts)) ((good_entry limit).exact (c ∷ ts)) le (λ us l. exact_within n us l))

  pub exact_entries : (ts : List ℕ) → ExactLog ts (entries limit ts)
  exact_entries ts = exact_within (length ts) ts (omega arith)

  -- ---- all entries are found

  abbrev pub FoundAll : List Entry → Type 0
  FoundAll es = (WithinTo limit (lines es) [] × (entries limit (plain (lines es)) ≡ Ok es)) ⊎ ((over : List (Nested ℕ)) × FirstOver limit (lines es) over × (entries limit (plain (lines es)) ≡ Err (TooDeep, plain over)))

  found_on : (e : Entry) (es : List Entry) → Found limit (entry limit) e (lines (e ∷ es)) (lines es) → FoundAll es → FoundAll (e ∷ es)
  found_on e es (inl (h, k)) (inl (i, l)) =
      inl (
        within_join h i,
        ap (entries limit) (plain-append (nested_entry e) (lines es)) ∙ in_front e (plain (lines es)) (ap (entry limit) (sym (plain-append (nested_entry e) (lines es))) ∙ k) ∙ ap (with_entry e) l,
      )
  found_on e es (inl (h, k)) (inr (over, i, l)) =
      inr (
        over,
        over_join h i,
        ap (entries limit) (plain-append (nested_entry e) (lines es)) ∙ in_front e (plain (lines es)) (ap (entry limit) (sym (plain-append (nested_entry e) (lines es))) ∙ k) ∙ ap (with_entry e) l,
      )
  found_on e es (inr (over, h, k)) rest =
      let f = first_of e (plain (lines es)) in
      let is : plain (lines (e ∷ es)) ≡ f.0 ∷ f.1 = plain-append (nested_entry e) (lines es) ∙ f.2 in
      inr (over, h, ap (entries limit) is ∙ unrolled f.0 f.1 ∙ ap (λ o. followed o (entries limit)) (ap (entry limit) (sym is) ∙ k))

  pub found_entries : (es : List Entry) → AreLogged es → FoundAll es
  found_entries [] h = inl (done, no_entries)
  found_entries (e ∷ es) h = found_on e es ((good_entry limit).found e (lines (e ∷ es)) (lines es) (refl, h.0) refl) (found_entries es h.1)
