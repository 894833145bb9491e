-- A log that is read an entry at a time: each step goes on from the entries that were read.
use Rattle.std.proofs.Common.{◌≡◌, ℕ, ◌-◌, ◌<◌, ◌≤◌, List, [], ◌∷◌, ◌++◌, length, Ok, Err, refl, sym, ◌∙◌, ap, subst, append_assoc, append-nil, length-append, arith}
use Rattle.std.specs.List.{flat_map}
use Rattle.std.proofs.lemmas.List.Concat.{flat_map-append}
use Rattle.first_fault.specs.Nesting.{Nested, plain, Within}
use Rattle.first_fault.specs.code.Reading.{Cause}
use Rattle.first_fault.proofs.Exact.{Exact, IsRead, plain-append, within-append}
use Rattle.kernel.specs.declared.entry.Entry.{Entry}
use Rattle.proof_log.specs.declared.name.LogVersion.{LogVersion}
use Rattle.proof_log.specs.declared.reader.LogFault.{LogFault}
use Rattle.proof_log.specs.declared.stop.Stop.{Stop}
use Rattle.proof_log.specs.declared.stop.Stop.TheVariants as stop
use Rattle.proof_log.specs.declared.write.TheConstants.{HEADER}
use Rattle.proof_log.specs.Words.{at_level}
use Rattle.proof_log.specs.Entries.{IsLogged, AreLogged, entry_text, log_text, nested_entry, nested_log}
use Rattle.proof_log.specs.Answers.{IsLogOf, Tells}
use Rattle.proof_log.specs.Reading.{Reading, HasRead}
use Rattle.proof_log.specs.code.Names.{version_line}
use Rattle.proof_log.specs.code.Outcomes.{Fails}
use Rattle.proof_log.specs.code.Answers.{fault_of}
use Rattle.proof_log.specs.code.ReadWords.{name}
use Rattle.proof_log.specs.code.ReadEntries.{entry}
use Rattle.proof_log.proofs.WholeReader.{FailsEntries, versions, LogOutcome, entries, with_entry, followed, behind_version, log}
use Rattle.proof_log.proofs.Spelling.{plain-level, all_within}
use Rattle.proof_log.proofs.NameReader.{Named}
use Rattle.proof_log.proofs.EntryReader.{Line, good_entry}
use Rattle.proof_log.proofs.LogReader.{lines, starts_line, unrolled, plain_on, in_front, line_text, line_within}
use Rattle.proof_log.proofs.LogWhole.{head, whole_log, head_within, good_version, begun, read_head}
use Rattle.proof_log.proofs.LogLaws.{entry_plain, log_plain, within_second, read_one}
use Rattle.proof_log.proofs.LogAnswers.{log_tells}

-- entries in front of what is read
abbrev before : List Entry → LogOutcome → LogOutcome
before es (Ok fs) = Ok (es ++ fs)
before es (Err f) = Err f

nothing_before : (o : LogOutcome) → o ≡ before [] o
nothing_before (Ok es) = refl
nothing_before (Err f) = refl

one_before : (e : Entry) (es : List Entry) (o : LogOutcome) → with_entry e (before es o) ≡ before (e ∷ es) o
one_before e es (Ok fs) = refl
one_before e es (Err f) = refl

logged_append : (es fs : List Entry) → AreLogged es → AreLogged fs → AreLogged (es ++ fs)
logged_append [] fs h k = k
logged_append (e ∷ es) fs h k = (h.0, logged_append es fs h.1 k)

text_append : (es fs : List Entry) → log_text (es ++ fs) ≡ log_text es ++ flat_map entry_text fs
unfolding log_text
text_append es fs = ap (λ l. HEADER.now ++ l) (flat_map-append entry_text es fs) ∙ sym (append_assoc HEADER.now (flat_map entry_text es) (flat_map entry_text fs))

nested_append : (es fs : List Entry) → nested_log (es ++ fs) ≡ nested_log es ++ lines fs
unfolding nested_log
nested_append es fs = ap (λ l. at_level 0 HEADER.now ++ l) (flat_map-append nested_entry es fs) ∙ sym (append_assoc (at_level 0 HEADER.now) (lines es) (lines fs))

some_text : (e : Entry) → 0 < length (entry_text e)
some_text e = let s = starts_line e in let is : plain (nested_entry e) ≡ s.0.0 ∷ plain s.1 = ap plain s.2 in omega (arith, ap length is, ap length (entry_plain e))

-- behind an entry, less is left
pub shorter : (e : Entry) (xs ys : List ℕ) → xs ≡ entry_text e ++ ys → length ys < length xs
shorter e xs ys is = omega (arith, some_text e, ap length is, length-append (entry_text e) ys)

module _ (limit : ℕ) where
  read_line : (e : Entry) (us : List ℕ) → IsLogged e → Within limit (nested_entry e) → entry limit (plain (nested_entry e) ++ us) ≡ Ok (e, us)
  read_line e us logged w =
      let is : plain (nested_entry e ++ at_level 0 us) ≡ plain (nested_entry e) ++ us = plain-append (nested_entry e) (at_level 0 us) ∙ ap (λ l. plain (nested_entry e) ++ l) (plain-level 0 us) in
      ap (entry limit) (sym is) ∙ read_one limit e (at_level 0 us) logged (within-append limit (nested_entry e) (at_level 0 us) w (all_within limit 0 (omega arith) us)) ∙ ap (λ l. Ok (e, l)) (plain-level 0 us)

  after_lines : (es : List Entry) (us : List ℕ) → AreLogged es → Within limit (lines es) → entries limit (plain (lines es) ++ us) ≡ before es (entries limit us)
  after_lines [] us h w = nothing_before (entries limit us)
  after_lines (e ∷ es) us h w =
      ap (entries limit) (plain_on (nested_entry e) (lines es) us)
      ∙ in_front limit e (plain (lines es) ++ us) (read_line e (plain (lines es) ++ us) h.0 (within_of_first e es w))
      ∙ ap (with_entry e) (after_lines es us h.1 (within_second limit (nested_entry e) (lines es) w))
      ∙ one_before e es (entries limit us)
    where
      within_first : (xs ys : List (Nested ℕ)) → Within limit (xs ++ ys) → Within limit xs
      within_first [] ys h = tt
      within_first (x ∷ xs) ys h = (h.0, within_first xs ys h.1)

      within_of_first : (e : Entry) (es : List Entry) → Within limit (nested_entry e ++ lines es) → Within limit (nested_entry e)
      within_of_first e es w = within_first (nested_entry e) (lines es) w

  -- what reading the whole text gives is what reading the rest gives, behind the entries that were read
  kept : (es : List Entry) (old : Reading) → HasRead limit es old → log limit old.text ≡ before es (entries limit old.rest)
  kept es old h =
      let whole : plain (nested_log es) ≡ plain head ++ plain (lines es) = ap plain (whole_log limit es) ∙ plain-append head (lines es) in
      let is : old.text ≡ plain head ++ (plain (lines es) ++ old.rest) = sym h.is ∙ ap (λ l. l ++ old.rest) (sym (log_plain es) ∙ whole) ∙ append_assoc (plain head) (plain (lines es)) old.rest in
      ap (log limit) is ∙ read_head limit (plain (lines es) ++ old.rest)
      ∙ after_lines es old.rest h.logged (within_second limit head (lines es) (subst (Within limit) (whole_log limit es) h.within))

  -- ---- the steps

  pub at_end : (es : List Entry) (old : Reading) → HasRead limit es old → length old.rest ≡ 0 → IsLogOf limit old.text es
  at_end es old h none = record { logged = h.logged; is = sym (append-nil (log_text es)) ∙ ap (λ l. log_text es ++ l) (sym (nothing old.rest none)) ∙ h.is; within = h.within }
    where
      nothing : (xs : List ℕ) → length xs ≡ 0 → xs ≡ []
      nothing [] e = refl
      nothing (x ∷ xs) e = absurd (omega (arith, e))

  one_read : (es : List Entry) (old : Reading) (e : Entry) (rest : List ℕ) → HasRead limit es old → IsRead (entry limit) Line limit e old.rest rest → HasRead limit (es ++ (e ∷ [])) (record { text = old.text; rest = rest })
  one_read es old e rest h r =
      let line : old.rest ≡ entry_text e ++ rest = line_text limit e old.rest rest r ∙ ap (λ l. l ++ rest) (entry_plain e) in
      let one : flat_map entry_text (e ∷ []) ≡ entry_text e = append-nil (entry_text e) in
      let lone : lines (e ∷ []) ≡ nested_entry e = append-nil (nested_entry e) in
      record {
        logged = logged_append es (e ∷ []) h.logged ((r.spells []).1, tt);
        is = ap (λ l. l ++ rest) (text_append es (e ∷ []) ∙ ap (λ l. log_text es ++ l) one) ∙ append_assoc (log_text es) (entry_text e) rest ∙ ap (λ l. log_text es ++ l) (sym line) ∙ h.is;
        within = subst (Within limit) (sym (nested_append es (e ∷ []) ∙ ap (λ l. nested_log es ++ l) lone)) (within-append limit (nested_log es) (nested_entry e) h.within (line_within limit e old.rest rest r));
      }

  pub one_more : (es : List Entry) (old : Reading) (e : Entry) (rest : List ℕ) → HasRead limit es old → entry limit old.rest ≡ Ok (e, rest) → HasRead limit (es ++ (e ∷ [])) (record { text = old.text; rest = rest })
  one_more es old e rest h k = one_read es old e rest h (subst (Exact (entry limit) Line limit old.rest) k ((good_entry limit).exact old.rest))

  fails_from : (es : List Entry) (ts : List ℕ) (f : Cause × List ℕ) → 0 < length ts → entry limit ts ≡ Err f → before es (entries limit ts) ≡ Err f
  fails_from es [] f some h = absurd (omega arith)
  fails_from es (c ∷ ts) f some h = ap (before es) (unrolled limit c ts ∙ ap (λ o. followed o (entries limit)) h)

  fails : (es : List Entry) (old : Reading) → HasRead limit es old → 0 < length old.rest → (why : Stop) (new : List ℕ) → Fails (entry limit old.rest) why new → FailsEntries (log limit old.text) why new
  fails es old h some stop.Memory new k = tt
  fails es old h some stop.Unexpected new k = kept es old h ∙ fails_from es old.rest _ some k
  fails es old h some stop.TooDeep new k = kept es old h ∙ fails_from es old.rest _ some k

  pub no_more : (es : List Entry) (old : Reading) → HasRead limit es old → 0 < length old.rest → (why : Stop) (new : List ℕ) → Fails (entry limit old.rest) why new → Tells limit old.text (fault_of why (length old.text - length new))
  no_more es old h some why new k = log_tells limit old.text why new (fails es old h some why new k)

  -- ---- the first line

  pub first_read : (text : List ℕ) (v : LogVersion) (rest : List ℕ) → name version_line versions text ≡ Ok (v, rest) → HasRead limit [] (record { text = text; rest = rest })
  first_read text v rest k =
      let r = subst (Exact (name version_line versions) (Named version_line 0) limit text) k ((good_version limit).exact text) in
      let alone : nested_log [] ≡ head = whole_log limit [] ∙ append-nil head in
      record {
        logged = tt;
        is = ap (λ l. l ++ rest) (sym (log_plain []) ∙ ap plain alone) ∙ sym (begun limit v text rest r);
        within = subst (Within limit) (sym alone) (head_within limit);
      }

  first_fails : (text : List ℕ) (why : Stop) (new : List ℕ) → Fails (name version_line versions text) why new → FailsEntries (log limit text) why new
  unfolding log
  first_fails text stop.Memory new k = tt
  first_fails text stop.Unexpected new k = ap (behind_version limit) k
  first_fails text stop.TooDeep new k = ap (behind_version limit) k

  pub no_first : (text : List ℕ) (why : Stop) (new : List ℕ) → Fails (name version_line versions text) why new → Tells limit text (fault_of why (length text - length new))
  no_first text why new k = log_tells limit text why new (first_fails text why new k)

  -- ---- lengths

  pub one_line : (ts : List ℕ) (e : Entry) (rest : List ℕ) → entry limit ts ≡ Ok (e, rest) → ts ≡ entry_text e ++ rest
  one_line ts e rest k = line_text limit e ts rest (subst (Exact (entry limit) Line limit ts) k ((good_entry limit).exact ts)) ∙ ap (λ l. l ++ rest) (entry_plain e)

  texts_long : (es : List Entry) → length es ≤ length (flat_map entry_text es)
  texts_long [] = omega arith
  texts_long (e ∷ es) = omega (arith, some_text e, texts_long es, length-append (entry_text e) (flat_map entry_text es))

  -- a text has as many bytes as entries
  pub entries_fit : (es : List Entry) (log : Reading) → HasRead limit es log → length es ≤ length log.text
  unfolding log_text
  entries_fit es log h = omega (arith, texts_long es, ap length h.is, length-append (log_text es) log.rest, length-append HEADER.now (flat_map entry_text es))

  -- and so has the text of a log
  pub log_long : (text : List ℕ) (es : List Entry) → IsLogOf limit text es → length es ≤ length text
  log_long text es h = entries_fit es (record { text = text; rest = [] }) (record { logged = h.logged; is = append-nil (log_text es) ∙ h.is; within = h.within })

  -- ---- to the end

  -- the same text, of which more was read
  abbrev pub KeptRest : Reading → Reading → Type 0
  KeptRest first now = (now.text ≡ first.text) × ((es : List Entry) → HasRead limit es first → (others : List Entry) × HasRead limit (es ++ others) now)

  pub rest_first : (first : Reading) → KeptRest first first
  rest_first first = (refl, λ es h. ([], subst (λ l. HasRead limit l first) (sym (append-nil es)) h))

  one_behind : (es others : List Entry) (e : Entry) (new : Reading) → HasRead limit ((es ++ others) ++ (e ∷ [])) new → (more : List Entry) × HasRead limit (es ++ more) new
  one_behind es others e new h = (others ++ (e ∷ []), subst (λ l. HasRead limit l new) (append_assoc es others (e ∷ [])) h)

  pub rest_more : (first now new : Reading) (e : Entry) → KeptRest first now → new.text ≡ now.text → ((es : List Entry) → HasRead limit es now → HasRead limit (es ++ (e ∷ [])) new) → KeptRest first new
  rest_more first now new e kept same on = (same ∙ kept.0, λ es h. let k = kept.1 es h in one_behind es k.0 e new (on (es ++ k.0) k.1))

  pub rest_end : (first now : Reading) → KeptRest first now → ((es : List Entry) → HasRead limit es now → IsLogOf limit now.text es) → (es : List Entry) → HasRead limit es first → (others : List Entry) × IsLogOf limit first.text (es ++ others)
  rest_end first now kept ends es h = let k = kept.1 es h in (k.0, subst (λ l. IsLogOf limit l (es ++ k.0)) kept.0 (ends (es ++ k.0) k.1))

  pub rest_fails : (first now : Reading) (f : LogFault) → KeptRest first now → ((es : List Entry) → HasRead limit es now → Tells limit now.text f) → (es : List Entry) → HasRead limit es first → Tells limit first.text f
  rest_fails first now f kept fault es h = let k = kept.1 es h in subst (λ l. Tells limit l f) kept.0 (fault (es ++ k.0) k.1)
