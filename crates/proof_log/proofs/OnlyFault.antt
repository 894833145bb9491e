-- A text that has a first fault is refused for that fault and no other.
use Rattle.std.proofs.Common.{◌≡◌, ℕ, zero, suc, ◌-◌, ◌<◌, ◌≤◌, List, [], ◌∷◌, ◌++◌, length, take, Ok, Err, inl, inr, refl, sym, ◌∙◌, ap, subst, append_assoc, length-append, arith}
use Rattle.first_fault.specs.Nesting.{Nested, plain, Within}
use Rattle.first_fault.specs.code.Reading.{Cause, Unexpected, TooDeep}
use Rattle.first_fault.proofs.Exact.{plain-append}
use Rattle.first_fault.proofs.Separated.{length-plain}
use Rattle.kernel.specs.declared.entry.Entry.{Entry}
use Rattle.proof_log.specs.Entries.{AreLogged, log_text, nested_log}
use Rattle.proof_log.specs.Logs.{BeginsLog, IsFirstFault, IsFirstDeep}
use Rattle.proof_log.proofs.WholeReader.{LogOutcome, log}
use Rattle.proof_log.proofs.LogLaws.{log_plain, within_second}
use Rattle.proof_log.proofs.LogWhole.{IsWholeFault, IsWholeLog, ExactWhole, exact_log, FoundLog, found_log}
use Rattle.proof_log.proofs.Offsets.{agree, common, same_front, over_is, over_length, offset_is, first_fault}

-- the text of a log that begins so
begun : (front : List (Nested ℕ)) (h : BeginsLog front) → log_text h.entries ≡ plain front ++ plain h.later
begun front h = sym (log_plain h.entries) ∙ ap plain h.is ∙ plain-append front h.later

-- two offsets are equal where neither is beyond the other
by_order : (n offset : ℕ) {m : ℕ} → m ≡ n → (suc offset ≤ n → ⊥) → (suc n ≤ offset → ⊥) → m ≡ offset
by_order zero zero e first second = e
by_order zero (suc offset) e first second = absurd (second (omega arith))
by_order (suc n) zero e first second = absurd (first (omega arith))
by_order (suc n) (suc offset) e first second = e ∙ ap suc (by_order n offset refl (λ h. first (omega (arith, h))) (λ h. second (omega (arith, h))))

neither : (n offset : ℕ) → (offset ≤ n → ⊥) → (suc n ≤ offset → ⊥) → ⊥
neither n zero first second = first (omega arith)
neither zero (suc offset) first second = second (omega arith)
neither (suc n) (suc offset) first second = neither n offset (λ h. first (omega (arith, h))) (λ h. second (omega (arith, h)))

abbrev rest_or : LogOutcome → List ℕ
rest_or (Ok es) = []
rest_or (Err f) = f.1

rest_of : {c d : Cause} {xs ys : List ℕ} → ◌≡◌ {A = LogOutcome} (Err (c, xs)) (Err (d, ys)) → xs ≡ ys
rest_of e = ap rest_or e

module _ (limit : ℕ) where
  -- the log is refused at this place, whatever follows
  abbrev pub Refused : List ℕ → ℕ → Cause → Type 0
  Refused text offset cause = (rest : List ℕ) × (log limit text ≡ Err (cause, rest)) × (length text - length rest ≡ offset)

  too_deep_inside : (front later : List (Nested ℕ)) (byte level : ℕ) → limit < level → Within limit (front ++ ((byte, level) ∷ later)) → ⊥
  too_deep_inside front later byte level deep w = let at = within_second limit front ((byte, level) ∷ later) w in omega (arith, at.0)

  whole_of : (es : List Entry) (ts : List ℕ) → log limit ts ≡ Ok es → IsWholeLog limit es ts
  whole_of es ts e = subst (ExactWhole limit ts) e (exact_log limit ts)

  fault_of : (ts rest : List ℕ) → log limit ts ≡ Err (TooDeep, rest) → IsWholeFault limit TooDeep ts rest
  fault_of ts rest e = subst (ExactWhole limit ts) e (exact_log limit ts)

  deep_found : (es : List Entry) (front later : List (Nested ℕ)) (byte level : ℕ) → nested_log es ≡ front ++ ((byte, level) ∷ later) → Within limit front → limit < level → FoundLog limit es → log limit (plain (nested_log es)) ≡ Err (TooDeep, byte ∷ plain later)
  deep_found es front later byte level e w deep (inl (h, k)) =
      absurd (too_deep_inside front later byte level deep (subst (Within limit) e (whole_of es (plain (nested_log es)) k).within))
  deep_found es front later byte level e w deep (inr (over, h, k)) = k ∙ ap (λ l. Err (TooDeep, plain l)) (over_is h front later byte level e w deep)

  -- whatever follows the first byte of the tree
  deep_again : (es : List Entry) (front later : List (Nested ℕ)) (byte level : ℕ) → AreLogged es → nested_log es ≡ front ++ ((byte, level) ∷ later) → Within limit front → limit < level → (rest : List ℕ) → log limit (plain front ++ byte ∷ rest) ≡ Err (TooDeep, byte ∷ rest)
  deep_again es front later byte level logged e w deep rest =
      let found = deep_found es front later byte level e w deep (found_log limit es logged) in
      let fault = fault_of (plain (nested_log es)) (byte ∷ plain later) found in
      let same : plain fault.front ≡ plain front = same_front (plain fault.front) (plain front) (byte ∷ plain later) (sym fault.text ∙ ap plain e ∙ plain-append front ((byte, level) ∷ later)) in
      ap (λ l. log limit (l ++ byte ∷ rest)) (sym same) ∙ fault.again (byte ∷ rest) refl

  behind_offset : (front : List (Nested ℕ)) (text rest : List ℕ) (offset : ℕ) → length front ≡ offset → text ≡ plain front ++ rest → length text - length rest ≡ offset
  behind_offset front text rest offset at is = sym (offset_is limit front text rest is) ∙ at

  pub deep_only : (text : List ℕ) (offset : ℕ) → IsFirstDeep limit text offset → Refused text offset TooDeep
  deep_only text offset h =
      let whole : nested_log h.begins.entries ≡ h.front ++ ((h.byte, h.level) ∷ h.begins.later) = h.begins.is ∙ append_assoc h.front ((h.byte, h.level) ∷ []) h.begins.later in (
        h.byte ∷ h.rest,
        ap (log limit) h.is ∙ deep_again h.begins.entries h.front h.begins.later h.byte h.level h.begins.logged whole h.within h.deep h.rest,
        behind_offset h.front text (h.byte ∷ h.rest) offset h.at h.is,
      )

  -- ---- the first fault of the text

  -- a log that begins as the text does, further than through the offset, can't be
  beyond : (text rest : List ℕ) (offset : ℕ) (front : List (Nested ℕ)) → IsFirstFault limit text offset → text ≡ plain front ++ rest → (es : List Entry) → AreLogged es → (later : List ℕ) → log_text es ≡ plain front ++ later → suc offset ≤ length front → ⊥
  beyond text rest offset front h is es logged later e far =
      h.through es logged (ap (take (suc offset)) e ∙ common (suc offset) (plain front) later rest (omega (arith, length-plain front)) ∙ ap (take (suc offset)) (sym is))

  no_log : (text : List ℕ) (offset : ℕ) → IsFirstFault limit text offset → (es : List Entry) → IsWholeLog limit es text → ⊥
  no_log text offset h es w = h.through es w.logged (ap (take (suc offset)) (sym (log_plain es) ∙ sym w.text))

  -- the fault that is found stands at the offset
  same_offset : (text rest : List ℕ) (offset : ℕ) → IsFirstFault limit text offset → (w : IsWholeFault limit Unexpected text rest) → length text - length rest ≡ offset
  same_offset text rest offset h w = by_order (length w.front) offset (behind_offset w.front text rest (length w.front) refl w.text)
      (λ far. beyond text rest offset w.front h w.text w.es w.logged (plain w.later) (begun w.front (record { entries = w.es; logged = w.logged; later = w.later; is = w.spells })) far)
      (λ far. beyond text h.rest (length text - length rest) h.front (first_fault limit text rest w) h.is h.begins.entries h.begins.logged (plain h.begins.later) (begun h.front h.begins) (omega (arith, far, h.at, behind_offset w.front text rest (length w.front) refl w.text)))

  -- no tree before the offset is nested too deep
  not_deep_by : (text rest : List ℕ) (offset : ℕ) (h : IsFirstFault limit text offset) → (w : IsWholeFault limit TooDeep text rest) → suc (length w.front) ≤ length h.front → (x : List ℕ) → log_text h.begins.entries ≡ plain w.front ++ x → log limit (log_text h.begins.entries) ≡ Err (TooDeep, x) → FoundLog limit h.begins.entries → ⊥
  not_deep_by text rest offset h w far x is refused (inl (_, k)) = let never : ◌≡◌ {A = LogOutcome} (Err (TooDeep, x)) (Ok h.begins.entries) = sym refused ∙ ap (log limit) (sym (log_plain h.begins.entries)) ∙ k in cc
  not_deep_by text rest offset h w far x is refused (inr (over, o, k)) =
      let same : ◌≡◌ {A = LogOutcome} (Err (TooDeep, x)) (Err (TooDeep, plain over)) = sym refused ∙ ap (log limit) (sym (log_plain h.begins.entries)) ∙ k in
      let lengths : length x ≡ length over = ap length (rest_of same) ∙ length-plain over in
      let short : length over ≤ length h.begins.later = over_length o h.front h.begins.later h.begins.is h.within in
      let whole = begun h.front h.begins in
      omega (arith, far, lengths, short, ap length is, ap length whole, length-append (plain w.front) x, length-append (plain h.front) (plain h.begins.later), length-plain w.front, length-plain h.front, length-plain h.begins.later)

  not_before : (text rest : List ℕ) (offset : ℕ) (h : IsFirstFault limit text offset) → (w : IsWholeFault limit TooDeep text rest) → suc (length w.front) ≤ length h.front → ⊥
  not_before text rest offset h w far =
      let through : take (suc (length (plain w.front))) (log_text h.begins.entries) ≡ take (suc (length (plain w.front))) (plain w.front ++ rest) =
      ap (take (suc (length (plain w.front)))) (begun h.front h.begins) ∙ common (suc (length (plain w.front))) (plain h.front) (plain h.begins.later) h.rest (omega (arith, far, length-plain w.front, length-plain h.front)) ∙ ap (take (suc (length (plain w.front)))) (sym h.is ∙ w.text) in
      let x = agree (plain w.front) rest (log_text h.begins.entries) through in
      not_deep_by text rest offset h w far x.0 x.1 (ap (log limit) x.1 ∙ w.again x.0 x.2) (found_log limit h.begins.entries h.begins.logged)

  -- a log goes on with the first byte of a deep tree
  not_behind : (text rest : List ℕ) (offset : ℕ) (h : IsFirstFault limit text offset) → (w : IsWholeFault limit TooDeep text rest) → offset ≤ length w.front → ⊥
  not_behind text rest offset h w le =
      let o = w.over in
      let longer : List (Nested ℕ) = w.front ++ ((o.token, o.level) ∷ []) in
      let begins : BeginsLog longer = record { entries = w.es; logged = w.logged; later = o.later []; is = w.spells ∙ ap (λ l. w.front ++ l) (o.begins []) ∙ sym (append_assoc w.front ((o.token, o.level) ∷ []) (o.later [])) } in
      let is : text ≡ plain longer ++ o.others = w.text ∙ ap (λ l. plain w.front ++ l) o.is ∙ sym (append_assoc (plain w.front) (o.token ∷ []) o.others) ∙ ap (λ l. l ++ o.others) (sym (plain-append w.front ((o.token, o.level) ∷ []))) in
      beyond text o.others offset longer h is w.es w.logged (plain (o.later [])) (begun longer begins) (omega (arith, le, length-append w.front ((o.token, o.level) ∷ [])))

  by_outcome : (text : List ℕ) (offset : ℕ) → IsFirstFault limit text offset → (o : LogOutcome) → log limit text ≡ o → ExactWhole limit text o → Refused text offset Unexpected
  by_outcome text offset h (Ok es) e w = absurd (no_log text offset h es w)
  by_outcome text offset h (Err (Unexpected, rest)) e w = (rest, e, same_offset text rest offset h w)
  by_outcome text offset h (Err (TooDeep, rest)) e w = absurd (neither (length w.front) offset (λ le. not_behind text rest offset h w le) (λ far. not_before text rest offset h w (omega (arith, far, h.at))))

  pub fault_only : (text : List ℕ) (offset : ℕ) → IsFirstFault limit text offset → Refused text offset Unexpected
  fault_only text offset h = by_outcome text offset h (log limit text) refl (exact_log limit text)
