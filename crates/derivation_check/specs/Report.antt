-- What the report on a derivation says, its status in the words of the SZS ontology: a line for each line of the
-- derivation, with the printed name of the rule or of the reason, and closing lines.
use Rattle.std.specs.Prelude.{ℕ, List, [], ◌∷◌, ◌++◌, codes, decimal}
use Rattle.canon_print.specs.Words.{name_text}
use Rattle.tptp_base.specs.declared.name.Name.{Name}
use Rattle.elaborate.specs.declared.answer.Rule.{Rule}
use Rattle.elaborate.specs.declared.answer.Rule.TheVariants.{Norm, Cover, Tautology, Resolution, Paramodulation}
use Rattle.elaborate.specs.declared.answer.Rule.TheVariants.{EqFactor, Rewrite, Split, Skolem, Definition, Choice, Search, Sat}
use Rattle.elaborate.specs.declared.answer.Reason.{Reason}
use Rattle.elaborate.specs.declared.answer.Reason.TheVariants.{Dry, Full, Heavy, Wide, Leaf}
use Rattle.szs_report.specs.Report.{text_line}
use Rattle.verifier.specs.declared.answer.LineAnswer.{LineAnswer}
use Rattle.verifier.specs.declared.answer.LineAnswer.TheVariants.{Accepted, Unverified, Skipped}
use Rattle.verifier.specs.declared.answer.Verdict.{Verdict}
use Rattle.verifier.specs.declared.answer.Verdict.TheVariants.{Failed, NoFalse, BadClaim, Verified}

-- the printed name of a rule
abbrev pub rule_name : Rule → List ℕ
rule_name Norm = codes "norm"
rule_name Cover = codes "cover"
rule_name Tautology = codes "tautology"
rule_name Resolution = codes "resolution"
rule_name Paramodulation = codes "paramodulation"
rule_name EqFactor = codes "eqfactor"
rule_name Rewrite = codes "rewrite"
rule_name Split = codes "split"
rule_name Skolem = codes "skolem"
rule_name Definition = codes "definition"
rule_name Choice = codes "choice"
rule_name Search = codes "search"
rule_name Sat = codes "sat"

-- the printed name of a reason
abbrev pub reason_name : Reason → List ℕ
reason_name Dry = codes "dry"
reason_name Full = codes "full"
reason_name Heavy = codes "heavy"
reason_name Wide = codes "wide"
reason_name Leaf = codes "leaf"

-- what is printed of an answer
abbrev pub answer_text : LineAnswer → List ℕ
answer_text (Accepted rule cites) = codes "ok " ++ rule_name rule
answer_text (Unverified reason) = codes "unverified " ++ reason_name reason
answer_text Skipped = codes "skipped"

-- what is printed of one line: its name and its answer
abbrev pub line_text : Name → LineAnswer → List ℕ
line_text name answer = name_text name ++ (32 ∷ text_line (answer_text answer))

-- what is printed of the lines of these names, in the order of the text
abbrev pub lines_text : List Name → List LineAnswer → List ℕ
lines_text [] answers = []
lines_text (name ∷ names) [] = []
lines_text (name ∷ names) (answer ∷ answers) = line_text name answer ++ lines_text names answers

-- the closing lines
abbrev pub verdict_text : Verdict → List ℕ
verdict_text (Failed unverified skipped lines) =
    codes "not verified: " ++ (decimal unverified ++ (codes " unverified, " ++ (decimal skipped ++ (codes " skipped of " ++ (decimal lines ++ text_line (codes " lines"))))))
verdict_text NoFalse = text_line (codes "not verified: no line is $false")
verdict_text (BadClaim claim) = codes "not verified: claim " ++ (claim ++ text_line (codes " is not justified"))
verdict_text (Verified status problem lines) =
    codes "% SZS status " ++ (status ++ (codes " for " ++ (problem ++ (10 ∷ (codes "verified: " ++ (decimal lines ++ text_line (codes " lines")))))))

-- the whole report
abbrev pub report_text : List Name → List LineAnswer → Verdict → List ℕ
report_text names answers verdict = lines_text names answers ++ verdict_text verdict
