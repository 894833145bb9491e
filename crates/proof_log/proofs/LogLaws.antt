-- Logs with one text are one log, and where a log is the beginning of another its entries are the first of the other.
use Rattle.std.proofs.Common.{◌≡◌, ℕ, ◌+◌, ◌≤◌, List, [], ◌∷◌, ◌++◌, length, drop, Ok, Err, inl, inr, refl, sym, ◌∙◌, ap, subst, append_assoc, arith}
use Rattle.std.specs.Prelude.{decimal}
use Rattle.std.specs.List.{flat_map}
use Rattle.std.proofs.Math.Seq.{drop-append_seam}
use Rattle.first_fault.specs.Nesting.{Nested, plain, Within, FirstOver, here, behind}
use Rattle.first_fault.specs.code.Reading.{Outcome}
use Rattle.first_fault.proofs.Exact.{plain-append}
use Rattle.first_fault.proofs.Found.{Found}
use Rattle.kernel.specs.declared.entry.Entry.{Entry}
use Rattle.kernel.specs.declared.entry.Entry.TheVariants.{Declare, Lemma, Name, Choice}
use Rattle.proof_log.specs.Words.{small, at_level, nested, word}
use Rattle.proof_log.specs.LogText.{form_words, form_text, proof_words, proof_text}
use Rattle.proof_log.specs.Entries.{entry_text, log_text, IsLogged, AreLogged, nested_entry, nested_log}
use Rattle.proof_log.specs.declared.write.TheConstants.{HEADER}
use Rattle.proof_log.specs.code.ReadEntries.{entry}
use Rattle.proof_log.proofs.WholeReader.{LogOutcome, entries}
use Rattle.proof_log.proofs.Spelling.{plain-level, plain-nested}
use Rattle.proof_log.proofs.EntryReader.{good_entry}
use Rattle.proof_log.proofs.LogReader.{lines, starts_line, FoundAll, found_entries}

-- ---- texts

plain_line : (ws : List ℕ) (us : List (Nested ℕ)) → plain us ≡ ws → plain (us ++ at_level 0 (10 ∷ [])) ≡ ws ++ 10 ∷ []
plain_line ws us e = plain-append us ((10, 0) ∷ []) ∙ ap (λ l. l ++ 10 ∷ []) e

pub entry_plain : (e : Entry) → plain (nested_entry e) ≡ entry_text e
unfolding proof_text form_text
entry_plain (Declare decl) = plain-level 0 (entry_text (Declare decl))
entry_plain (Lemma p) = ap (λ l. 76 ∷ l) (plain_line (proof_text p) (nested 0 (proof_words p)) (plain-nested 0 (proof_words p)))
entry_plain (Name k a) = ap (λ l. 78 ∷ l) (plain_line (word (decimal k) ++ form_text a) (nested 0 (small k ∷ form_words a)) (plain-nested 0 (small k ∷ form_words a)) ∙ append_assoc (word (decimal k)) (form_text a) (10 ∷ []))
entry_plain (Choice k a) = ap (λ l. 67 ∷ l) (plain_line (word (decimal k) ++ form_text a) (nested 0 (small k ∷ form_words a)) (plain-nested 0 (small k ∷ form_words a)) ∙ append_assoc (word (decimal k)) (form_text a) (10 ∷ []))

pub lines_plain : (es : List Entry) → plain (lines es) ≡ flat_map entry_text es
lines_plain [] = refl
lines_plain (e ∷ es) = plain-append (nested_entry e) (lines es) ∙ ap (λ l. l ++ plain (lines es)) (entry_plain e) ∙ ap (λ l. entry_text e ++ l) (lines_plain es)

-- the text of a log is that of its bytes with their nesting
pub log_plain : (es : List Entry) → plain (nested_log es) ≡ log_text es
unfolding nested_log log_text
log_plain es = plain-append (at_level 0 HEADER.now) (lines es) ∙ ap (λ l. l ++ plain (lines es)) (plain-level 0 HEADER.now) ∙ ap (λ l. HEADER.now ++ l) (lines_plain es)

-- ---- a limit that is great enough

wider : (limit more : ℕ) (ts : List (Nested ℕ)) → limit ≤ more → Within limit ts → Within more ts
wider limit more [] le h = tt
wider limit more (t ∷ ts) le h = (omega (arith, h.0), wider limit more ts le h.1)

pub some_limit : (ts : List (Nested ℕ)) → (limit : ℕ) × Within limit ts
some_limit [] = (0, tt)
some_limit (t ∷ ts) = let s = some_limit ts in (t.1 + s.0, (omega arith, wider s.0 (t.1 + s.0) ts (omega arith) s.1))

pub within_first : (limit : ℕ) (xs ys : List (Nested ℕ)) → Within limit (xs ++ ys) → Within limit xs
within_first limit [] ys h = tt
within_first limit (x ∷ xs) ys h = (h.0, within_first limit xs ys h.1)

pub within_second : (limit : ℕ) (xs ys : List (Nested ℕ)) → Within limit (xs ++ ys) → Within limit ys
within_second limit [] ys h = h
within_second limit (x ∷ xs) ys h = within_second limit xs ys h.1

pub never_over : {limit : ℕ} {ts over : List (Nested ℕ)} → Within limit ts → FirstOver limit ts over → ⊥
never_over h (here lt) = omega (arith, h.0)
never_over h (behind le k) = never_over h.1 k

-- ---- the laws

read_all_by : (limit : ℕ) (es : List Entry) → Within limit (lines es) → FoundAll limit es → entries limit (plain (lines es)) ≡ Ok es
read_all_by limit es w (inl h) = h.1
read_all_by limit es w (inr h) = absurd (never_over w h.1)

pub read_all : (limit : ℕ) (es : List Entry) → AreLogged es → Within limit (lines es) → entries limit (plain (lines es)) ≡ Ok es
read_all limit es logged w = read_all_by limit es w (found_entries limit es logged)

same_value : (es fs : List Entry) → ◌≡◌ {A = LogOutcome} (Ok es) (Ok fs) → es ≡ fs
same_value es fs e = cc

same_lines : (es fs : List Entry) → AreLogged es → AreLogged fs → plain (lines es) ≡ plain (lines fs) → es ≡ fs
same_lines es fs h k e =
    let bound = some_limit (lines es ++ lines fs) in
    same_value es fs
    (sym (read_all bound.0 es h (within_first bound.0 (lines es) (lines fs) bound.1)) ∙ ap (entries bound.0) e ∙ read_all bound.0 fs k (within_second bound.0 (lines es) (lines fs) bound.1))

header_off : (xs ys : List ℕ) → HEADER.now ++ xs ≡ HEADER.now ++ ys → xs ≡ ys
header_off xs ys e = sym (drop-append_seam HEADER.now xs) ∙ ap (drop (length HEADER.now)) e ∙ drop-append_seam HEADER.now ys

-- one text is the text of one list of entries
pub one_log : (es fs : List Entry) → AreLogged es → AreLogged fs → log_text es ≡ log_text fs → es ≡ fs
unfolding log_text
one_log es fs h k e = same_lines es fs h k (lines_plain es ∙ header_off (flat_map entry_text es) (flat_map entry_text fs) e ∙ sym (lines_plain fs))

read_one_by : (limit : ℕ) (e : Entry) (rest : List (Nested ℕ)) → Within limit (nested_entry e ++ rest) → Found limit (entry limit) e (nested_entry e ++ rest) rest → entry limit (plain (nested_entry e ++ rest)) ≡ Ok (e, plain rest)
read_one_by limit e rest w (inl h) = h.1
read_one_by limit e rest w (inr h) = absurd (never_over w h.1)

pub read_one : (limit : ℕ) (e : Entry) (rest : List (Nested ℕ)) → IsLogged e → Within limit (nested_entry e ++ rest) → entry limit (plain (nested_entry e ++ rest)) ≡ Ok (e, plain rest)
read_one limit e rest logged w = read_one_by limit e rest w ((good_entry limit).found e (nested_entry e ++ rest) rest (refl, logged) refl)

abbrev first_or : Entry → Outcome ℕ Entry → Entry
first_or d (Ok r) = r.0
first_or d (Err f) = d

abbrev second_or : List ℕ → Outcome ℕ Entry → List ℕ
second_or d (Ok r) = r.1
second_or d (Err f) = d

not_empty : (e : Entry) (rest : List (Nested ℕ)) → plain (nested_entry e ++ rest) ≡ [] → ⊥
not_empty e rest h = let s = starts_line e in let is : plain (nested_entry e ++ rest) ≡ s.0.0 ∷ plain (s.1 ++ rest) = ap (λ l. plain (l ++ rest)) s.2 in cc

-- the first entries of a list
abbrev pub Begin : List Entry → List Entry → Type 0
Begin es fs = (others : List Entry) × (fs ≡ es ++ others)

prefix_on : (limit : ℕ) (more : List (Nested ℕ)) (es fs : List Entry) → AreLogged es → AreLogged fs → Within limit (lines es ++ more) → Within limit (lines fs) → plain (lines es ++ more) ≡ plain (lines fs) → Begin es fs
prefix_on limit more [] fs h k w v e = (fs, refl)
prefix_on limit more (d ∷ es) [] h k w v e = absurd (let never : plain (nested_entry d ++ (lines es ++ more)) ≡ [] = ap plain (sym (append_assoc (nested_entry d) (lines es) more)) ∙ e in not_empty d (lines es ++ more) never)
prefix_on limit more (d ∷ es) (f ∷ fs) h k w v e =
    let regrouped = append_assoc (nested_entry d) (lines es) more in
    let within : Within limit (nested_entry d ++ (lines es ++ more)) = subst (Within limit) regrouped w in
    let same : plain (nested_entry d ++ (lines es ++ more)) ≡ plain (nested_entry f ++ lines fs) = ap plain (sym regrouped) ∙ e in
    let both = sym (read_one limit d (lines es ++ more) h.0 within) ∙ ap (entry limit) same ∙ read_one limit f (lines fs) k.0 v in
    let first : d ≡ f = ap (first_or d) both in
    let later : plain (lines es ++ more) ≡ plain (lines fs) = ap (second_or []) both in
    let rest = prefix_on limit more es fs h.1 k.1 (within_second limit (nested_entry d) (lines es ++ more) within) (within_second limit (nested_entry f) (lines fs) v) later in
    (rest.0, ap (λ l. f ∷ l) rest.1 ∙ ap (λ x. x ∷ (es ++ rest.0)) (sym first))

-- where a log begins another, its entries are the first of the other
pub prefix_log : (es fs : List Entry) (more : List ℕ) → AreLogged es → AreLogged fs → log_text es ++ more ≡ log_text fs → Begin es fs
unfolding log_text
prefix_log es fs more h k e =
    let bound = some_limit ((lines es ++ at_level 0 more) ++ lines fs) in
    let w = within_first bound.0 (lines es ++ at_level 0 more) (lines fs) bound.1 in
    let v = within_second bound.0 (lines es ++ at_level 0 more) (lines fs) bound.1 in
    let texts : flat_map entry_text es ++ more ≡ flat_map entry_text fs = header_off (flat_map entry_text es ++ more) (flat_map entry_text fs) (sym (append_assoc HEADER.now (flat_map entry_text es) more) ∙ e) in
    let same : plain (lines es ++ at_level 0 more) ≡ plain (lines fs) =
    plain-append (lines es) (at_level 0 more) ∙ ap (λ l. l ++ plain (at_level 0 more)) (lines_plain es) ∙ ap (λ l. flat_map entry_text es ++ l) (plain-level 0 more) ∙ texts ∙ sym (lines_plain fs) in
    prefix_on bound.0 (at_level 0 more) es fs h k w v same
