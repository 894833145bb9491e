-- The reader of a whole log: its first line, and its entries.
use Rattle.std.proofs.Common.{◌≡◌, ℕ, List, [], ◌∷◌, ◌++◌, Some, Ok, Err, ◌⊎◌, inl, inr, refl, sym, ◌∙◌, ap, subst, append_assoc, append-nil, arith}
use Rattle.first_fault.specs.Nesting.{Nested, plain, Within, FirstOver}
use Rattle.first_fault.proofs.NestingFacts.{WithinTo}
use Rattle.first_fault.specs.code.Reading.{Cause, Unexpected, TooDeep, Outcome, next}
use Rattle.first_fault.proofs.Exact.{Exact, IsRead, IsFault, Over, plain-append, within-append}
use Rattle.first_fault.proofs.Found.{within_join, over_join}
use Rattle.first_fault.proofs.Good.{Good, always}
use Rattle.kernel.specs.declared.entry.Entry.{Entry}
use Rattle.proof_log.specs.declared.name.LogVersion.{LogVersion}
use Rattle.proof_log.specs.declared.name.LogVersion.TheVariants as version
use Rattle.proof_log.specs.declared.write.TheConstants.{HEADER}
use Rattle.proof_log.specs.Words.{at_level}
use Rattle.proof_log.specs.Entries.{AreLogged, nested_log}
use Rattle.proof_log.specs.code.Names.{version_line}
use Rattle.proof_log.specs.code.ReadWords.{find, name}
use Rattle.proof_log.proofs.WholeReader.{versions, LogOutcome, entries, behind_version, log}
use Rattle.proof_log.proofs.Spelling.{plain-level, all_within, within_level}
use Rattle.proof_log.proofs.NameReader.{Named, read_name, good_name}
use Rattle.proof_log.proofs.LogReader.{lines, ExactLog, exact_entries, FoundAll, found_entries, plain_on}

abbrev pub head : List (Nested ℕ)
head = at_level 0 HEADER.now

found_version : (w : LogVersion) (r : List ℕ) → find version_line versions (version_line w ++ r) ≡ Some w
found_version version.One r = refl

-- what was read before a fault, and a log that goes on from there
pub record IsWholeFault (limit : ℕ) (cause : Cause) (ts rest : List ℕ) : Type 0 where
  pub front : List (Nested ℕ)
  pub within : Within limit front
  pub text : ts ≡ plain front ++ rest
  pub es : List Entry
  pub logged : AreLogged es
  pub later : List (Nested ℕ)
  pub spells : nested_log es ≡ front ++ later
  pub over : Over cause limit rest (λ more. later)
  pub again : (other : List ℕ) → next other ≡ next rest → log limit (plain front ++ other) ≡ Err (cause, other)

pub record IsWholeLog (limit : ℕ) (es : List Entry) (ts : List ℕ) : Type 0 where
  pub logged : AreLogged es
  pub within : Within limit (nested_log es)
  pub text : ts ≡ plain (nested_log es)

abbrev pub ExactWhole : ℕ → List ℕ → LogOutcome → Type 0
ExactWhole limit ts (Ok es) = IsWholeLog limit es ts
ExactWhole limit ts (Err f) = IsWholeFault limit f.0 ts f.1

here_over : (cause : Cause) (limit : ℕ) (rest : List ℕ) (on : List (Nested ℕ) → List (Nested ℕ)) → Over cause limit rest on → Over cause limit rest (λ more. on [])
here_over Unexpected limit rest on h = tt
here_over TooDeep limit rest on h = record {
  token = h.token;
  level = h.level;
  others = h.others;
  later = λ more. h.later [];
  deep = h.deep;
  is = h.is;
  begins = λ more. h.begins [];
}

module _ (limit : ℕ) where
  pub good_version : Good limit (name version_line versions) (Named version_line 0) always
  good_version = good_name version_line versions version.One found_version limit 0 (omega arith)

  abbrev Version : LogVersion → List ℕ → List ℕ → Type 0
  Version v ts rest = IsRead (name version_line versions) (Named version_line 0) limit v ts rest

  only_line : (v : LogVersion) → version_line v ≡ HEADER.now
  only_line version.One = refl

  front_is : (v : LogVersion) (ts rest : List ℕ) → (h : Version v ts rest) → h.front ≡ head
  front_is v ts rest h = sym (append-nil h.front) ∙ h.spells [] ∙ append-nil (at_level 0 (version_line v)) ∙ ap (at_level 0) (only_line v)

  pub begun : (v : LogVersion) (ts rest : List ℕ) → Version v ts rest → ts ≡ plain head ++ rest
  begun v ts rest h = h.text ∙ ap (λ l. plain l ++ rest) (front_is v ts rest h)

  behind : (v : LogVersion) (ts rest us : List ℕ) → Version v ts rest → next us ≡ next rest → log limit (plain head ++ us) ≡ entries limit us
  unfolding log
  behind v ts rest us h e = ap (behind_version limit) (subst (λ l. name version_line versions (plain l ++ us) ≡ Ok (v, us)) (front_is v ts rest h) (h.again us e))

  pub head_within : Within limit head
  head_within = all_within limit 0 (omega arith) HEADER.now

  pub whole_log : (es : List Entry) → nested_log es ≡ head ++ lines es
  unfolding nested_log
  whole_log es = refl

  next_on : (xs other rest : List ℕ) → next other ≡ next rest → next (xs ++ other) ≡ next (xs ++ rest)
  next_on [] other rest e = e
  next_on (x ∷ xs) other rest e = refl

  with_head : (v : LogVersion) (ts rest : List ℕ) → Version v ts rest → (o : LogOutcome) → ExactLog limit rest o → ExactWhole limit ts o
  with_head v ts rest h (Ok es) k = record {
    logged = k.logged;
    within = subst (Within limit) (sym (whole_log es)) (within-append limit head (lines es) head_within k.within);
    text = begun v ts rest h ∙ ap (λ l. plain head ++ l) k.text ∙ sym (plain-append head (lines es)) ∙ ap plain (sym (whole_log es));
  }
  with_head v ts rest h (Err f) k = record {
    front = head ++ k.front;
    within = within-append limit head k.front head_within k.within;
    text = begun v ts rest h ∙ ap (λ l. plain head ++ l) k.text ∙ sym (plain_on head k.front f.1);
    es = k.es;
    logged = k.logged;
    later = k.on [];
    spells = whole_log k.es ∙ ap (λ l. head ++ l) k.spells ∙ sym (append_assoc head k.front (k.on []));
    over = here_over f.0 limit f.1 k.on k.over;
    again = λ other same.
        ap (log limit) (plain_on head k.front other) ∙ behind v ts rest (plain k.front ++ other) h (next_on (plain k.front) other f.1 same ∙ ap next (sym k.text)) ∙ k.again other same;
  }

  in_head : (ts rest : List ℕ) (cause : Cause) → IsFault (name version_line versions) (Named version_line 0) limit cause ts rest → IsWholeFault limit cause ts rest
  unfolding log
  in_head ts rest cause h = record {
    front = h.front;
    within = h.within;
    text = h.text;
    es = [];
    logged = tt;
    later = h.on [];
    spells = whole_log [] ∙ ap (λ l. at_level 0 l ++ []) (sym (only_line h.value)) ∙ sym (h.spells []);
    over = here_over cause limit rest h.on h.over;
    again = λ other same. ap (behind_version limit) (h.again other same);
  }

  exact_by : (ts : List ℕ) (o : Outcome ℕ LogVersion) → Exact (name version_line versions) (Named version_line 0) limit ts o → ExactWhole limit ts (behind_version limit o)
  exact_by ts (Ok r) h = with_head r.0 ts r.1 h (entries limit r.1) (exact_entries limit r.1)
  exact_by ts (Err f) h = in_head ts f.1 f.0 h

  pub exact_log : (ts : List ℕ) → ExactWhole limit ts (log limit ts)
  unfolding log
  exact_log ts = exact_by ts (name version_line versions ts) (good_version.exact ts)

  -- ---- each log is found

  abbrev pub FoundLog : List Entry → Type 0
  FoundLog es = (WithinTo limit (nested_log es) [] × (log limit (plain (nested_log es)) ≡ Ok es)) ⊎ ((over : List (Nested ℕ)) × FirstOver limit (nested_log es) over × (log limit (plain (nested_log es)) ≡ Err (TooDeep, plain over)))

  read_version : (us : List ℕ) → name version_line versions (plain head ++ us) ≡ Ok (version.One, us)
  read_version us = ap (λ l. name version_line versions (l ++ us)) (plain-level 0 HEADER.now) ∙ read_name version_line versions version.One found_version limit 0 version.One us

  pub read_head : (us : List ℕ) → log limit (plain head ++ us) ≡ entries limit us
  unfolding log
  read_head us = ap (behind_version limit) (read_version us)

  found_by : (es : List Entry) → FoundAll limit es → FoundLog es
  found_by es (inl (h, k)) =
      inl (
        subst (λ l. WithinTo limit l []) (sym (whole_log es)) (within_join (within_level limit 0 (omega arith) HEADER.now (lines es)) h),
        ap (log limit) (ap plain (whole_log es) ∙ plain-append head (lines es)) ∙ read_head (plain (lines es)) ∙ k,
      )
  found_by es (inr (over, h, k)) =
      inr (
        over,
        subst (λ l. FirstOver limit l over) (sym (whole_log es)) (over_join (within_level limit 0 (omega arith) HEADER.now (lines es)) h),
        ap (log limit) (ap plain (whole_log es) ∙ plain-append head (lines es)) ∙ read_head (plain (lines es)) ∙ k,
      )

  pub found_log : (es : List Entry) → AreLogged es → FoundLog es
  found_log es h = found_by es (found_entries limit es h)
