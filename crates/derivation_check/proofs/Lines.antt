-- What a sink takes of the lines of a report, one after the other, and of all.
use Rattle.std.proofs.Common.{◌≡◌, ℕ, suc, ◌<◌, ◌≤◌, ◌+◌, List, [], ◌∷◌, ◌++◌, length, drop, get_or, Option, None, Some, sym, ◌∙◌, ap, add-one, drop-cons}
use Rattle.std.proofs.lemmas.List.{drop_all}
use Rattle.std.specs.Io.KnownBytes.{append_known}
use Rattle.tptp_base.specs.Sink.{Takes}
use Rattle.tptp_base.specs.declared.name.Name.{Name}
use Rattle.tptp_base.proofs.Taken.{append_known-append, takes_nothing}
use Rattle.verifier.specs.declared.answer.LineAnswer.{LineAnswer}
use Rattle.derivation_check.specs.Report.{line_text, lines_text}

-- the first of what is left
here : {A : Type 0} (xs : List A) (i : ℕ) (x : A) → i < length xs → x ≡ get_or xs i x → drop i xs ≡ x ∷ drop (i + 1) xs
here {A} xs i x lt is = rw add-one (drop-cons xs i x lt ∙ ap (λ (y : A). y ∷ drop (suc i) xs) (sym is))

-- what is left begins with this line
line_here : (names : List Name) (answers : List LineAnswer) (place : ℕ) (name : Name) (answer : LineAnswer) → place < length names → place < length answers → name ≡ get_or names place name → answer ≡ get_or answers place answer
    → lines_text (drop place names) (drop place answers) ≡ line_text name answer ++ lines_text (drop (place + 1) names) (drop (place + 1) answers)
line_here names answers place name answer some also named answered =
    ap (λ (ns : List Name). lines_text ns (drop place answers)) (here names place name some named)
    ∙ ap (λ (rest : List LineAnswer). lines_text (name ∷ drop (place + 1) names) rest) (here answers place answer also answered)

module _ (first : Option (List ℕ)) (names : List Name) (answers : List LineAnswer) where
  -- a line more
  pub line_more : (mid new : Option (List ℕ)) (place : ℕ) (name : Name) (answer : LineAnswer) → place < length names → place < length answers → name ≡ get_or names place name → answer ≡ get_or answers place answer
      → append_known mid (lines_text (drop place names) (drop place answers)) ≡ append_known first (lines_text names answers) → Takes mid new (line_text name answer)
      → append_known new (lines_text (drop (place + 1) names) (drop (place + 1) answers)) ≡ append_known first (lines_text names answers)
  line_more mid new place name answer some also named answered all taken =
      let rest = lines_text (drop (place + 1) names) (drop (place + 1) answers) in
      ap (λ (o : Option (List ℕ)). append_known o rest) taken
      ∙ append_known-append mid (line_text name answer) rest
      ∙ ap (append_known mid) (sym (line_here names answers place name answer some also named answered))
      ∙ all

  -- no line is left
  pub lines_done : (last : Option (List ℕ)) (place : ℕ) → length names ≤ place → append_known last (lines_text (drop place names) (drop place answers)) ≡ append_known first (lines_text names answers) → Takes first last (lines_text names answers)
  lines_done last place none all =
      takes_nothing last ∙ ap (λ (ns : List Name). append_known last (lines_text ns (drop place answers))) (sym (drop_all place names none)) ∙ all

-- ---- all that a sink of its own has taken

some_is : (a b : List ℕ) → Some a ≡ Some b → a ≡ b
some_is a b e = cc

-- a copy of what the sink has taken is the text
pub copied : (copy bytes text : List ℕ) (before after : Option (List ℕ)) → copy ≡ bytes → before ≡ Some [] → Takes before after text → after ≡ Some bytes → copy ≡ text
copied copy bytes text before after is empty taken are = is ∙ sym (some_is text bytes (sym (taken_is before empty taken) ∙ are))
  where
    taken_is : (o : Option (List ℕ)) → o ≡ Some [] → Takes o after text → after ≡ Some text
    taken_is None e t = absurd cc
    taken_is (Some front) e t = t ∙ ap (λ (f : List ℕ). Some (f ++ text)) (some_is front [] e)
