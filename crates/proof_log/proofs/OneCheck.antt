-- What a check of the text of a log answers is the only answer, but for want of memory; and what it tells of the entries.
use Rattle.std.proofs.Common.{◌≡◌, ℕ, ◌+◌, ◌≤◌, List, [], ◌∷◌, ◌++◌, length, take, Some, Result, Ok, Err, inl, inr, refl, sym, ◌∙◌, ap, subst, append_assoc, length-append, arith}
use Rattle.std.specs.List.{slice_get}
use Rattle.std.proofs.lemmas.List.{take_at}
use Rattle.tptp_base.specs.declared.read.TheConstants.{FILE_SIZE}
use Rattle.kernel.specs.Statements.{Statements, IsRefuted}
use Rattle.kernel.specs.Entries.{Legal, After, Admits, Refutes}
use Rattle.kernel.specs.declared.entry.Entry.{Entry}
use Rattle.proof_log.specs.Logs.{IsFirstFault, IsFirstDeep}
use Rattle.proof_log.specs.Answers.{IsLogOf, Tells}
use Rattle.proof_log.specs.Rejected.{rejected}
use Rattle.proof_log.specs.Reading.{Reading, HasRead}
use Rattle.proof_log.specs.Checks.{IsFirstIllegal, IsNotRefuted}
use Rattle.proof_log.specs.LogChecks.{IsLogWith, IsCheckOf, LeavesOf, HasTaken, IsCheckedAs, IsRejectedFor}
use Rattle.proof_log.specs.declared.reader.LogFault.{LogFault}
use Rattle.proof_log.specs.declared.reader.LogFault.TheVariants as log_fault
use Rattle.proof_log.specs.declared.log_check.LogCheckFault.{LogCheckFault}
use Rattle.proof_log.specs.declared.log_check.LogCheckFault.TheVariants as fault
use Rattle.proof_log.proofs.LogLaws.{one_log}
use Rattle.proof_log.proofs.LogAnswers.{no_first_fault, no_first_deep}
use Rattle.proof_log.proofs.Steps.{entries_fit}
use Rattle.kernel.proofs.EntryLaws.{admits_more}
use Rattle.proof_log.proofs.OneAnswer.{one_fault, one_deep, not_both}

module _ (limit : ℕ) (t : Statements) (text : List ℕ) where
  same_entries : (p : List Entry → Type 0) (es fs : List Entry) → IsLogOf limit text es → IsLogOf limit text fs → p es → p fs
  same_entries p es fs x y h = subst p (one_log es fs x.logged y.logged (x.is ∙ sym y.is)) h

  pub checked_alone : (r : Result ℕ LogCheckFault) → IsCheckOf limit t text r → (entries : List Entry) → IsLogOf limit text entries → length text ≤ FILE_SIZE → IsCheckedAs t entries r
  checked_alone (Ok count) h entries is small = same_entries (λ es. Refutes t es × (count ≡ length es)) h.0 entries h.1 is h.2
  checked_alone (Err (fault.Text k)) h entries is small = absurd (no_first_fault limit text entries k is h)
  checked_alone (Err (fault.Deep k)) h entries is small = absurd (no_first_deep limit text entries k is h)
  checked_alone (Err fault.Limit) h entries is small = absurd (omega (arith, h, small))
  checked_alone (Err (fault.Illegal number)) h entries is small = same_entries (λ es. IsFirstIllegal t es number) h.0 entries h.1 is h.2
  checked_alone (Err fault.NotRefuted) h entries is small = same_entries (IsNotRefuted t) h.0 entries h.1 is h.2
  checked_alone (Err fault.Memory) h entries is small = refl

  pub text_alone : (r : Result ℕ LogCheckFault) → IsCheckOf limit t text r → (offset : ℕ) → IsFirstFault limit text offset → length text ≤ FILE_SIZE → IsRejectedFor (fault.Text offset) r
  text_alone (Ok count) h offset first small = no_first_fault limit text h.0 offset h.1 first
  text_alone (Err (fault.Text k)) h offset first small = inl (ap fault.Text (one_fault limit text k offset h first))
  text_alone (Err (fault.Deep k)) h offset first small = absurd (not_both limit text offset k first h)
  text_alone (Err fault.Limit) h offset first small = absurd (omega (arith, h, small))
  text_alone (Err (fault.Illegal number)) h offset first small = absurd (no_first_fault limit text h.0 offset h.1 first)
  text_alone (Err fault.NotRefuted) h offset first small = absurd (no_first_fault limit text h.0 offset h.1 first)
  text_alone (Err fault.Memory) h offset first small = inr refl

  pub deep_alone : (r : Result ℕ LogCheckFault) → IsCheckOf limit t text r → (offset : ℕ) → IsFirstDeep limit text offset → length text ≤ FILE_SIZE → IsRejectedFor (fault.Deep offset) r
  deep_alone (Ok count) h offset first small = no_first_deep limit text h.0 offset h.1 first
  deep_alone (Err (fault.Text k)) h offset first small = absurd (not_both limit text k offset h first)
  deep_alone (Err (fault.Deep k)) h offset first small = inl (ap fault.Deep (one_deep limit text k offset h first))
  deep_alone (Err fault.Limit) h offset first small = absurd (omega (arith, h, small))
  deep_alone (Err (fault.Illegal number)) h offset first small = absurd (no_first_deep limit text h.0 offset h.1 first)
  deep_alone (Err fault.NotRefuted) h offset first small = absurd (no_first_deep limit text h.0 offset h.1 first)
  deep_alone (Err fault.Memory) h offset first small = inr refl

  -- ---- entry by entry

  -- the entries that were read and admitted
  pub record HasAdmitted (log : Reading) (u : Statements) (count : ℕ) : Type 0 where
    pub entries : List Entry
    pub read : HasRead limit entries log
    pub same : log.text ≡ text
    pub admits : Admits t entries u
    pub counted : count ≡ length entries

  pub taken : (log : Reading) (u : Statements) (count : ℕ) → HasAdmitted log u count → HasTaken limit t text u
  taken log u count h = inr (h.entries, log, h.read, h.same, h.admits)

  member_at : (es : List Entry) (e : Entry) (fs : List Entry) → slice_get ((es ++ (e ∷ [])) ++ fs) (length es) ≡ Some e
  member_at [] e fs = refl
  member_at (x ∷ es) e fs = member_at es e fs

  -- the first entry that is not legal, in front of others
  pub first_illegal : (es : List Entry) (e : Entry) (fs : List Entry) (u : Statements) (count : ℕ) → count ≡ length es → Admits t es u → (Legal u e → ⊥) → IsFirstIllegal t ((es ++ (e ∷ [])) ++ fs) count
  first_illegal es e fs u count counted admits illegal =
      let front : take count ((es ++ (e ∷ [])) ++ fs) ≡ es = ap (take count) (append_assoc es (e ∷ []) fs) ∙ take_at es (e ∷ fs) count (sym counted) in
      record {
        entry = e;
        there = ap (slice_get ((es ++ (e ∷ [])) ++ fs)) counted ∙ member_at es e fs;
        reached = u;
        before = subst (λ l. Admits t l u) (sym front) admits;
        illegal = illegal;
      }

  -- ---- the loop

  -- reading goes on to this place
  abbrev On : Reading → Entry → Reading → Type 0
  On log e new = (es : List Entry) → HasRead limit es log → HasRead limit (es ++ (e ∷ [])) new

  -- the text ends here
  abbrev Ends : Reading → Type 0
  Ends log = (es : List Entry) → HasRead limit es log → IsLogOf limit log.text es

  pub admitted_first : (log : Reading) → HasRead limit [] log → log.text ≡ text → HasAdmitted log t 0
  admitted_first log read same = record { entries = []; read = read; same = same; admits = refl; counted = refl }

  pub admitted_more : (log new : Reading) (u w : Statements) (count : ℕ) (e : Entry) → HasAdmitted log u count → new.text ≡ log.text → On log e new → Legal u e → After u e w → HasAdmitted new w (count + 1)
  admitted_more log new u w count e h same on legal after = record {
    entries = h.entries ++ (e ∷ []);
    read = on h.entries h.read;
    same = same ∙ h.same;
    admits = admits_more t u w h.entries e h.admits legal after;
    counted = omega (arith, h.counted, length-append h.entries (e ∷ []));
  }

  pub count_fits : (log new : Reading) (u : Statements) (count : ℕ) (e : Entry) → HasAdmitted log u count → new.text ≡ log.text → On log e new → count + 1 ≤ length text
  count_fits log new u count e h same on =
      omega (arith, h.counted, length-append h.entries (e ∷ []), entries_fit limit (h.entries ++ (e ∷ [])) new (on h.entries h.read), ap length (same ∙ h.same))

  is_whole : (log : Reading) (u : Statements) (count : ℕ) (h : HasAdmitted log u count) → Ends log → IsLogOf limit text h.entries
  is_whole log u count h ends = subst (λ l. IsLogOf limit l h.entries) h.same (ends h.entries h.read)

  pub all_admitted : (log : Reading) (u : Statements) (count : ℕ) → HasAdmitted log u count → Ends log → IsLogWith limit text (λ es. Admits t es u)
  all_admitted log u count h ends = (h.entries, is_whole log u count h ends, h.admits)

  pub refuted_here : (log : Reading) (u : Statements) (count : ℕ) → HasAdmitted log u count → Ends log → IsRefuted u → IsLogWith limit text (λ es. Refutes t es × (count ≡ length es))
  refuted_here log u count h ends refuted = (h.entries, is_whole log u count h ends, ((u, h.admits, refuted), h.counted))

  pub unrefuted_here : (log : Reading) (u : Statements) (count : ℕ) → HasAdmitted log u count → Ends log → (IsRefuted u → ⊥) → IsLogWith limit text (IsNotRefuted t)
  unrefuted_here log u count h ends unrefuted = (h.entries, is_whole log u count h ends, record { reached = u; all = h.admits; kept_open = unrefuted })

  pub fault_here : (log : Reading) (u : Statements) (count : ℕ) (f : LogFault) → HasAdmitted log u count → ((es : List Entry) → HasRead limit es log → Tells limit log.text f) → Tells limit text f
  fault_here log u count f h fault = subst (λ l. Tells limit l f) h.same (fault h.entries h.read)

  pub rejected_is : (f : LogFault) → Tells limit text f → IsCheckOf limit t text (Err (rejected f))
  rejected_is (log_fault.Text k) h = h
  rejected_is (log_fault.Deep k) h = h
  rejected_is log_fault.Limit h = h
  rejected_is log_fault.Memory h = tt

  pub rejected_leaves : (f : LogFault) (u : Statements) → HasTaken limit t text u → LeavesOf limit t text (Err (rejected f)) u
  rejected_leaves (log_fault.Text k) u h = h
  rejected_leaves (log_fault.Deep k) u h = h
  rejected_leaves log_fault.Limit u h = h
  rejected_leaves log_fault.Memory u h = h

  pub rejected_limit : (f : LogFault) → rejected f ≡ fault.Limit → f ≡ log_fault.Limit
  rejected_limit (log_fault.Text k) e = cc
  rejected_limit (log_fault.Deep k) e = cc
  rejected_limit log_fault.Limit e = refl
  rejected_limit log_fault.Memory e = cc

  -- the text goes on as a log behind an entry that is not legal
  abbrev Goes : Reading → Type 0
  Goes new = (es : List Entry) → HasRead limit es new → (others : List Entry) × IsLogOf limit new.text (es ++ others)

  pub illegal_here : (log new : Reading) (u : Statements) (count : ℕ) (e : Entry) → HasAdmitted log u count → new.text ≡ log.text → On log e new → Goes new → (Legal u e → ⊥) → IsLogWith limit text (λ es. IsFirstIllegal t es count)
  illegal_here log new u count e h same on goes illegal =
      let k = goes (h.entries ++ (e ∷ [])) (on h.entries h.read) in
      ((h.entries ++ (e ∷ [])) ++ k.0, subst (λ l. IsLogOf limit l ((h.entries ++ (e ∷ [])) ++ k.0)) (same ∙ h.same) k.1, first_illegal h.entries e k.0 u count h.counted h.admits illegal)

  pub illegal_leaves : (log new : Reading) (u : Statements) (count : ℕ) (e : Entry) → HasAdmitted log u count → new.text ≡ log.text → On log e new → Goes new → IsLogWith limit text (λ es. Admits t (take count es) u)
  illegal_leaves log new u count e h same on goes =
      let k = goes (h.entries ++ (e ∷ [])) (on h.entries h.read) in
      let front : take count ((h.entries ++ (e ∷ [])) ++ k.0) ≡ h.entries = ap (take count) (append_assoc h.entries (e ∷ []) k.0) ∙ take_at h.entries (e ∷ k.0) count (sym h.counted) in
      ((h.entries ++ (e ∷ [])) ++ k.0, subst (λ l. IsLogOf limit l ((h.entries ++ (e ∷ [])) ++ k.0)) (same ∙ h.same) k.1, subst (λ l. Admits t l u) (sym front) h.admits)
