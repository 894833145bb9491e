-- Answers of which the same is said have one report.
use Rattle.std.proofs.Common.{◌≡◌, ℕ, List, [], ◌∷◌, ◌++◌, map, refl, sym, ◌∙◌, ap}
use Rattle.tptp_base.specs.declared.name.Name.{Name}
use Rattle.canon_print.specs.Words.{name_text}
use Rattle.szs_report.specs.Report.{text_line}
use Rattle.verifier.specs.Report.{said_of}
use Rattle.verifier.specs.declared.answer.LineAnswer.{LineAnswer}
use Rattle.verifier.specs.declared.answer.LineAnswer.TheVariants.{Accepted, Unverified, Skipped}
use Rattle.verifier.specs.declared.answer.Verdict.{Verdict}
use Rattle.derivation_check.proofs.OneVerdict.{first_said}
use Rattle.derivation_check.specs.Report.{answer_text, line_text, lines_text, report_text, verdict_text}

-- what is printed of an answer is what is said of it
answer_said : (a : LineAnswer) → answer_text a ≡ answer_text (said_of a)
answer_said (Accepted rule cites) = refl
answer_said (Unverified reason) = refl
answer_said Skipped = refl

one_answer : (a b : LineAnswer) → said_of a ≡ said_of b → answer_text a ≡ answer_text b
one_answer a b same = answer_said a ∙ ap (λ (x : LineAnswer). answer_text x) same ∙ sym (answer_said b)

one_line : (name : Name) (a b : LineAnswer) → answer_text a ≡ answer_text b → line_text name a ≡ line_text name b
one_line name a b same = ap (λ (text : List ℕ). name_text name ++ (32 ∷ text_line text)) same

one_lines : (names : List Name) (answers others : List LineAnswer) → map said_of answers ≡ map said_of others → lines_text names answers ≡ lines_text names others
one_lines [] answers others same = refl
one_lines (name ∷ names) [] [] same = refl
one_lines (name ∷ names) [] (b ∷ others) same = absurd (cc)
one_lines (name ∷ names) (a ∷ answers) [] same = absurd (cc)
one_lines (name ∷ names) (a ∷ answers) (b ∷ others) same =
    let parts = first_said (said_of a) (said_of b) (map said_of answers) (map said_of others) same in
    ap (λ (text : List ℕ). text ++ lines_text names answers) (one_line name a b (one_answer a b parts.0)) ∙ ap (λ (text : List ℕ). line_text name b ++ text) (one_lines names answers others parts.1)

pub same_report : (names : List Name) (answers others : List LineAnswer) (v w : Verdict) → map said_of answers ≡ map said_of others → v ≡ w → report_text names answers v ≡ report_text names others w
same_report names answers others v w same is = ap (λ (x : Verdict). lines_text names answers ++ verdict_text x) is ∙ ap (λ (text : List ℕ). text ++ verdict_text w) (one_lines names answers others same)
