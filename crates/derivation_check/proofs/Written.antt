-- What a sink takes of a report that is written in pieces, the last of which may be refused.
use Rattle.std.proofs.Common.{ℕ, List, [], ◌∷◌, ◌++◌, Option, Result, Ok, Err, OnOk, OnErr}
use Rattle.tptp_base.specs.Sink.{Takes, TakesPrefix}
use Rattle.tptp_base.proofs.Taken.{takes_both, takes_then_prefix, prefix_of_more}

-- ---- two texts

pub both_taken : {T E : Type 0} (result : Result T E) (old mid new : Option (List ℕ)) (first second : List ℕ) → Takes old mid first → OnOk result (Takes mid new second) → OnOk result (Takes old new (first ++ second))
both_taken (Ok value) old mid new first second one two = takes_both old mid new first second one two
both_taken (Err error) old mid new first second one two = tt

pub second_refused : {T E : Type 0} (result : Result T E) (old mid new : Option (List ℕ)) (first second : List ℕ) → Takes old mid first → OnErr result (TakesPrefix mid new second) → OnErr result (TakesPrefix old new (first ++ second))
second_refused (Ok value) old mid new first second one two = tt
second_refused (Err error) old mid new first second one two = takes_then_prefix old mid new first second one two

-- ---- a line: its name, a blank, the answer, and a line feed

abbrev line : List ℕ → List ℕ → List ℕ
line name answer = name ++ (32 ∷ (answer ++ 10 ∷ []))

pub blank_refused : (old mid new : Option (List ℕ)) (name answer : List ℕ) → Takes old mid name → TakesPrefix mid new (32 ∷ []) → TakesPrefix old new (line name answer)
blank_refused old mid new name answer first prefix =
    takes_then_prefix old mid new name (32 ∷ (answer ++ 10 ∷ [])) first (prefix_of_more mid new (32 ∷ []) (answer ++ 10 ∷ []) prefix)

module _ (old one two : Option (List ℕ)) (name : List ℕ) (named : Takes old one name) (blank : Takes one two (32 ∷ [])) where
  pub answer_refused : (new : Option (List ℕ)) (answer : List ℕ) → TakesPrefix two new answer → TakesPrefix old new (line name answer)
  answer_refused new answer prefix =
      takes_then_prefix old one new name (32 ∷ (answer ++ 10 ∷ [])) named
      (takes_then_prefix one two new (32 ∷ []) (answer ++ 10 ∷ []) blank (prefix_of_more two new answer (10 ∷ []) prefix))

  module _ (three : Option (List ℕ)) (answer : List ℕ) (answered : Takes two three answer) where
    pub end_refused : {T E : Type 0} (result : Result T E) (new : Option (List ℕ)) → OnErr result (TakesPrefix three new (10 ∷ [])) → OnErr result (TakesPrefix old new (line name answer))
    end_refused (Ok value) new prefix = tt
    end_refused (Err error) new prefix =
        takes_then_prefix old one new name (32 ∷ (answer ++ 10 ∷ [])) named
        (takes_then_prefix one two new (32 ∷ []) (answer ++ 10 ∷ []) blank (takes_then_prefix two three new answer (10 ∷ []) answered prefix))

    pub line_taken : {T E : Type 0} (result : Result T E) (new : Option (List ℕ)) → OnOk result (Takes three new (10 ∷ [])) → OnOk result (Takes old new (line name answer))
    line_taken (Ok value) new end =
        takes_both old one new name (32 ∷ (answer ++ 10 ∷ [])) named
        (takes_both one two new (32 ∷ []) (answer ++ 10 ∷ []) blank (takes_both two three new answer (10 ∷ []) answered end))
    line_taken (Err error) new end = tt
