-- The word that the text of a proof claims.
use Rattle.std.specs.Prelude.{◌≡◌, Bool, true, false, List, [], ◌∷◌, ◌++◌, Some, codes, refl}
use Rattle.std.proofs.Common.{ap, ◌∙◌, append_assoc}
use Rattle.tptp_base.specs.Quotable.{is_printable}
use Rattle.tptp_base.specs.declared.item.Item.{Item}
use Rattle.canon_print.specs.Canonical.{canonical_text}
use Rattle.szs_report.specs.Lines.{lines_before, lines_from_first, lines_of}
use Rattle.szs_report.specs.Marks.{fits}
use Rattle.szs_report.specs.Region.{claim_in, claim_of, word_of}
use Rattle.szs_report.specs.declared.line.LineKind.TheVariants.{Status}
use Rattle.derivation_items.specs.Words.{Text, printable_text}
use Rattle.tptp_commands.specs.Presented.{proof_text, szs_line}
use Rattle.derivation_check.specs.Claim.{default_word}
use Rattle.derivation_check.specs.Cases.{claimed, word_at}
use Rattle.spelled_items.proofs.Whole.{all_printable}
use Rattle.presented_texts.proofs.Feeds.{Free, free_of, joined, said}
use Rattle.presented_texts.proofs.Regions.{first_line}

-- the first line, without its end
abbrev first : Bool → Text → Text
first conjecture name = (codes "% SZS status " ++ default_word conjecture) ++ (codes " for " ++ name)

is_status : (conjecture : Bool) (name : Text) → fits Status (first conjecture name ++ 10 ∷ []) ≡ true
unfolding fits
is_status true name = refl
is_status false name = refl

word_free : (conjecture : Bool) → Free (default_word conjecture)
word_free true = said (codes "Theorem") refl
word_free false = said (codes "Unsatisfiable") refl

first_free : (conjecture : Bool) (name : Text) → Free name → Free (first conjecture name)
first_free conjecture name free = joined (joined (said (codes "% SZS status ") refl) (word_free conjecture)) (joined (said (codes " for ") refl) free)

-- ---- the first line that passes is the first

nothing_before : (test : Text → Bool) (line : Text) (lines : List Text) → test line ≡ true → lines_before test (line ∷ lines) ≡ []
nothing_before test line lines passes = rw passes refl

all_from : (test : Text → Bool) (line : Text) (lines : List Text) → test line ≡ true → lines_from_first test (line ∷ lines) ≡ line ∷ lines
all_from test line lines passes = rw passes refl

claim_first : (conjecture : Bool) (name rest : Text) → Free name → claim_of (first conjecture name ++ 10 ∷ rest) ≡ Some (word_of 0 (first conjecture name ++ 10 ∷ []))
claim_first conjecture name rest free =
    let text = first conjecture name ++ 10 ∷ rest in
    let line = first conjecture name ++ 10 ∷ [] in
    let cut : lines_of text ≡ line ∷ lines_of rest = first_line (first conjecture name) rest (first_free conjecture name free).all in
    let passes = is_status conjecture name in
    ap (λ (ls : List Text). claim_in ls (lines_from_first (fits Status) (lines_of text))) (ap (lines_before (fits Status)) cut ∙ nothing_before (fits Status) line (lines_of rest) passes)
    ∙ ap (claim_in []) (ap (lines_from_first (fits Status)) cut ∙ all_from (fits Status) line (lines_of rest) passes)

word_stands : (conjecture : Bool) (name rest : Text) → word_at (first conjecture name ++ 10 ∷ rest) (Some (word_of 0 (first conjecture name ++ 10 ∷ []))) ≡ Some (default_word conjecture)
word_stands true name rest = refl
word_stands false name rest = refl

-- ---- the text

flat : (word behind name begin rest : Text) → ((word ++ (behind ++ (name ++ 10 ∷ []))) ++ begin) ++ rest ≡ (word ++ (behind ++ name)) ++ 10 ∷ (begin ++ rest)
flat word behind name begin rest = simp append_assoc

pub claims_word : (file : Text) (conjecture : Bool) (items : List Item) → claimed (proof_text file (default_word conjecture) items) ≡ Some (default_word conjecture)
claims_word file conjecture items =
    let name = printable_text file in
    let begin = szs_line name (codes "% SZS output start CNFRefutation") in
    let rest = canonical_text items ++ szs_line name (codes "% SZS output end CNFRefutation") in
    let free : Free name = free_of is_printable refl name (all_printable file) in
    let text : proof_text file (default_word conjecture) items ≡ first conjecture name ++ 10 ∷ (begin ++ rest) = flat (codes "% SZS status " ++ default_word conjecture) (codes " for ") name begin rest in
    ap claimed text ∙ ap (word_at (first conjecture name ++ 10 ∷ (begin ++ rest))) (claim_first conjecture name (begin ++ rest) free) ∙ word_stands conjecture name (begin ++ rest)
