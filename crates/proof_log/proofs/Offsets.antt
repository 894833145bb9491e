-- The faults of a log at their offsets.
use Rattle.std.proofs.Common.{◌≡◌, ℕ, suc, ◌-◌, ◌<◌, ◌≤◌, List, [], ◌∷◌, ◌++◌, length, take, Some, Ok, Err, inl, inr, refl, sym, ◌∙◌, ap, append_assoc, length-append, arith}
use Rattle.std.proofs.lemmas.List.{take-append-le}
use Rattle.std.proofs.Math.Seq.{take-append_seam}
use Rattle.first_fault.specs.Nesting.{Nested, plain, Within, FirstOver, here, behind}
use Rattle.first_fault.specs.code.Reading.{Cause, Unexpected, TooDeep, next}
use Rattle.first_fault.proofs.Separated.{length-plain}
use Rattle.kernel.specs.declared.entry.Entry.{Entry}
use Rattle.proof_log.specs.Entries.{AreLogged, log_text, nested_log}
use Rattle.proof_log.specs.Logs.{IsFirstFault, IsFirstDeep}
use Rattle.proof_log.proofs.WholeReader.{LogOutcome, log}
use Rattle.proof_log.proofs.LogLaws.{log_plain}
use Rattle.proof_log.proofs.LogWhole.{IsWholeFault, FoundLog, found_log}

-- ---- texts that begin alike

alike_first : (text rest : List ℕ) → take 1 text ≡ take 1 rest → next text ≡ next rest
alike_first [] [] e = refl
alike_first [] (b ∷ rest) e = cc
alike_first (a ∷ text) [] e = cc
alike_first (a ∷ text) (b ∷ rest) e = let same : a ≡ b = cc in ap Some same

first_alike : (text rest : List ℕ) → next text ≡ next rest → take 1 text ≡ take 1 rest
first_alike [] [] e = refl
first_alike [] (b ∷ rest) e = cc
first_alike (a ∷ text) [] e = cc
first_alike (a ∷ text) (b ∷ rest) e = let same : a ≡ b = cc in ap (λ x. x ∷ []) same

-- a text that begins as another does, through the byte behind the front
pub agree : (front rest text : List ℕ) → take (suc (length front)) text ≡ take (suc (length front)) (front ++ rest) → (w : List ℕ) × (text ≡ front ++ w) × (next w ≡ next rest)
agree [] rest text e = (text, refl, alike_first text rest e)
agree (b ∷ front) rest [] e = cc
agree (b ∷ front) rest (c ∷ text) e =
    let same : c ≡ b = cc in
    let later : take (suc (length front)) text ≡ take (suc (length front)) (front ++ rest) = cc in
    let w = agree front rest text later in (w.0, ap (λ l. c ∷ l) w.1 ∙ ap (λ x. x ∷ (front ++ w.0)) same, w.2)

pub agree_back : (front w rest : List ℕ) → next w ≡ next rest → take (suc (length front)) (front ++ w) ≡ take (suc (length front)) (front ++ rest)
agree_back [] w rest e = first_alike w rest e
agree_back (b ∷ front) w rest e = ap (λ l. b ∷ l) (agree_back front w rest e)

-- what texts with one front have in common
pub common : (n : ℕ) (front xs ys : List ℕ) → n ≤ length front → take n (front ++ xs) ≡ take n (front ++ ys)
common n front xs ys le = take-append-le n front xs le ∙ sym (take-append-le n front ys le)

pub same_front : (xs ys zs : List ℕ) → xs ++ zs ≡ ys ++ zs → xs ≡ ys
same_front xs ys zs e =
    let n : length xs ≡ length ys = omega (arith, ap length e, length-append xs zs, length-append ys zs) in
    sym (take-append_seam xs zs) ∙ ap (take (length xs)) e ∙ ap (λ k. take k (ys ++ zs)) n ∙ take-append_seam ys zs

-- ---- the first token over the limit

abbrev level_of : List (Nested ℕ) → ℕ
level_of [] = 0
level_of (x ∷ rest) = x.1

abbrev behind_first : List (Nested ℕ) → List (Nested ℕ)
behind_first [] = []
behind_first (x ∷ rest) = rest

pub over_is : {limit : ℕ} {ts over : List (Nested ℕ)} → FirstOver limit ts over → (front later : List (Nested ℕ)) (byte level : ℕ) → ts ≡ front ++ ((byte, level) ∷ later) → Within limit front → limit < level → over ≡ (byte, level) ∷ later
over_is (here lt) [] later byte level e w deep = e
over_is (here lt) (x ∷ front) later byte level e w deep = absurd (omega (arith, lt, w.0, ap level_of e))
over_is (behind le k) [] later byte level e w deep = absurd (omega (arith, le, deep, ap level_of e))
over_is (behind le k) (x ∷ front) later byte level e w deep = over_is k front later byte level (ap behind_first e) w.1 deep

pub over_length : {limit : ℕ} {ts over : List (Nested ℕ)} → FirstOver limit ts over → (front later : List (Nested ℕ)) → ts ≡ front ++ later → Within limit front → length over ≤ length later
over_length (here lt) [] later e w = omega (arith, ap length e)
over_length (here lt) (x ∷ front) later e w = absurd (omega (arith, lt, w.0, ap level_of e))
over_length (behind le k) [] later e w = let shorter = over_length k [] (behind_first later) (ap behind_first e) tt in omega (arith, shorter, ap length e, ap length (ap behind_first e))
over_length (behind le k) (x ∷ front) later e w = over_length k front later (ap behind_first e) w.1

abbrev cause_of : LogOutcome → Cause
cause_of (Ok es) = Unexpected
cause_of (Err f) = f.0

module _ (limit : ℕ) where
  -- ---- what a fault tells

  pub offset_is : (front : List (Nested ℕ)) (ts rest : List ℕ) → ts ≡ plain front ++ rest → length front ≡ length ts - length rest
  offset_is front ts rest e = omega (arith, ap length e, length-append (plain front) rest, length-plain front)

  pub never_unexpected : (es : List Entry) (w : List ℕ) → FoundLog limit es → log limit (plain (nested_log es)) ≡ Err (Unexpected, w) → ⊥
  never_unexpected es w (inl h) e = cc
  never_unexpected es w (inr (over, h, k)) e = let two : ◌≡◌ {A = LogOutcome} (Err (TooDeep, plain over)) (Err (Unexpected, w)) = sym k ∙ e in let causes : TooDeep ≡ Unexpected = ap cause_of two in cc

  through_fault : (ts rest : List ℕ) (h : IsWholeFault limit Unexpected ts rest) (es : List Entry) → AreLogged es → take (suc (length (plain h.front))) (log_text es) ≡ take (suc (length (plain h.front))) (plain h.front ++ rest) → ⊥
  through_fault ts rest h es logged e =
      let w = agree (plain h.front) rest (log_text es) e in
      never_unexpected es w.0 (found_log limit es logged) (ap (log limit) (log_plain es ∙ w.1) ∙ h.again w.0 w.2)

  pub first_fault : (ts rest : List ℕ) → IsWholeFault limit Unexpected ts rest → IsFirstFault limit ts (length ts - length rest)
  first_fault ts rest h =
      let at = offset_is h.front ts rest h.text in
      let same : length (plain h.front) ≡ length ts - length rest = length-plain h.front ∙ at in record {
        front = h.front;
        begins = record { entries = h.es; logged = h.logged; later = h.later; is = h.spells };
        within = h.within;
        at = at;
        rest = rest;
        is = h.text;
        through = λ es logged e. through_fault ts rest h es logged (ap (λ n. take (suc n) (log_text es)) same ∙ e ∙ ap (λ n. take (suc n) ts) (sym same) ∙ ap (take (suc (length (plain h.front)))) h.text);
      }

  pub first_deep : (ts rest : List ℕ) → IsWholeFault limit TooDeep ts rest → IsFirstDeep limit ts (length ts - length rest)
  first_deep ts rest h =
      let o = h.over in record {
        front = h.front;
        byte = o.token;
        level = o.level;
        begins = record { entries = h.es; logged = h.logged; later = o.later []; is = h.spells ∙ ap (λ l. h.front ++ l) (o.begins []) ∙ sym (append_assoc h.front ((o.token, o.level) ∷ []) (o.later [])) };
        within = h.within;
        deep = o.deep;
        at = offset_is h.front ts rest h.text;
        rest = o.others;
        is = h.text ∙ ap (λ l. plain h.front ++ l) o.is;
      }
