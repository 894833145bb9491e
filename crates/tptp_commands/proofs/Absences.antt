-- Status 3 of a command comes with an absence in the store, or says another fault than a missing file.
use Rattle.std.proofs.Common.{◌≡◌, ◌⊎◌, inl, inr, ℕ, ◌≤◌, List, Option, Result, Ok, Err, ap, subst, arith}
use Rattle.tptp_base.specs.Count.{Rose}
use Rattle.tptp_base.specs.declared.name.Name.{Name}
use Rattle.tptp_base.specs.Store.{Files, HasFile}
use Rattle.fof_terms.specs.Vocabulary.{Vocabulary}
use Rattle.read_problems.specs.Answer.{ending_of}
use Rattle.tptp_commands.specs.Derived.{IsDerivationRefusal}
use Rattle.read_problems.specs.Ending.{Ending}
use Rattle.read_problems.specs.OtherFaults.{SaysProblemFault}
use Rattle.tptp_commands.specs.OtherFaults.{SaysFileFault, SaysLinesFault, SaysDerivedFault}
use Rattle.tptp_commands.specs.Parsed.{counted}
use Rattle.read_problems.specs.Sources.{IsSource, given_names}
use Rattle.read_problems.specs.Spelled.{IsTextRefusal}
use Rattle.read_problems.specs.Stop.{IfAnswer, IfRefused}
use Rattle.read_problems.specs.declared.sources.Source.{Source}
use Rattle.read_problems.specs.declared.stop.Answer.{Answer}
use Rattle.read_problems.specs.declared.stop.Halt.{Halt}
use Rattle.read_problems.specs.declared.stop.Halt.TheVariants.{Refused, Stopped}
use Rattle.read_problems.proofs.Absences.{rose_since}

-- ---- answers

-- where a step refuses, its caller answers so
pub refused_so : (T : Type 0) (halt : Halt) (P Q : Answer → Type 0) → ((answer : Answer) → P answer → Q answer) → IfRefused {T = T} (Err halt) P → IfAnswer (Err halt) (λ answer. answer.status ≡ 3 → Q answer)
refused_so T (Refused answer) P Q so refused = λ three. so answer refused
refused_so T (Stopped stop) P Q so refused = tt

pub answered_so : (r : Result Answer Halt) (P Q : Answer → Type 0) → ((answer : Answer) → P answer → Q answer) → IfAnswer r (λ answer. answer.status ≡ 3 → P answer) → IfAnswer r (λ answer. answer.status ≡ 3 → Q answer)
answered_so (Ok answer) P Q so given = λ three. so answer (given three)
answered_so (Err (Refused answer)) P Q so given = λ three. so answer (given three)
answered_so (Err (Stopped stop)) P Q so given = tt

-- the same where the step tells what its status 3 means
pub refused_three : (T : Type 0) (halt : Halt) (P Q : Answer → Type 0) → ((answer : Answer) → P answer → Q answer) → IfRefused {T = T} (Err halt) (λ answer. answer.status ≡ 3 → P answer) → IfAnswer (Err halt) (λ answer. answer.status ≡ 3 → Q answer)
refused_three T (Refused answer) P Q so refused = λ three. so answer (refused three)
refused_three T (Stopped stop) P Q so refused = tt

-- the text of a file that is formatted
pub file_said : (R : Type 0) (told : Option Files) (file text : List ℕ) (r : Result Answer Halt) → HasFile told file (λ bytes. bytes ≡ text) → IfAnswer r (λ answer. answer.status ≡ 3 → IsTextRefusal file text (ending_of answer))
    → IfAnswer r (λ answer. answer.status ≡ 3 → R ⊎ SaysFileFault told file (ending_of answer))
file_said R told file text r has refused = answered_so r (λ answer. IsTextRefusal file text (ending_of answer)) (λ answer. R ⊎ SaysFileFault told file (ending_of answer)) (λ answer h. inr (text, has, h)) refused

-- ---- other statuses are no 3

pub counted_said : (R : Type 0) (told : Option Files) (root : Option (List ℕ)) (file : List ℕ) (answer : Answer) (count : ℕ) → ending_of answer ≡ counted count → answer.status ≡ 3 → R ⊎ SaysProblemFault told root file (ending_of answer)
counted_said R told root file answer count is three = absurd (omega (arith, three, ap (λ (e : Ending). e.status) is))

pub read_said : (before after status : ℕ) → (status ≡ 0) ⊎ (status ≡ 1) → status ≡ 3 → Rose before after
read_said before after status (inl is) three = absurd (omega (arith, three, is))
read_said before after status (inr is) three = absurd (omega (arith, three, is))

-- ---- what is said of a derivation

-- the text of a derivation, which is that of its file
pub text_said : (R : Type 0) (told : Option Files) (file text : List ℕ) (given : List Name) (v : Vocabulary) (ending : Ending) → HasFile told file (λ bytes. bytes ≡ text) → IsDerivationRefusal file text given v ending → R ⊎ SaysLinesFault told file given v ending
text_said R told file text given v ending has refused = inr (text, has, refused)

module _ (told : Option Files) (root : Option (List ℕ)) (problem file : List ℕ) (source : Source) (is : IsSource told root problem source) (a b c : ℕ) (le : a ≤ b) where
  -- what is said of it, behind the problem
  pub derived_said : (later : Option Files) (ending : Ending) → later ≡ told → Rose b c ⊎ SaysLinesFault later file source.names source.signature ending → Rose a c ⊎ (SaysProblemFault told root problem ending ⊎ SaysDerivedFault told root problem file ending)
  derived_said later ending same (inl rose) = inl (rose_since a b c le rose)
  derived_said later ending same (inr said) = inr (inr (from is))
    where
      from : IsSource told root problem source → SaysDerivedFault told root problem file ending
      from (whole, resolves, (lines, v, denotes, gives, read)) =
          let in_told : SaysLinesFault told file source.names source.signature ending = subst (λ (files : Option Files). SaysLinesFault files file source.names source.signature ending) same said in
          let named : SaysLinesFault told file (given_names lines) source.signature ending = subst (λ (names : List Name). SaysLinesFault told file names source.signature ending) gives.names in_told in
          (whole, lines, v, resolves, denotes, subst (λ (u : Vocabulary). SaysLinesFault told file (given_names lines) u ending) gives.signature named)

-- the problem is refused, and with it the derivation
pub problem_refused_so : (R : Type 0) (told : Option Files) (root : Option (List ℕ)) (problem file : List ℕ) (T : Type 0) (halt : Halt) → IfRefused {T = T} (Err halt) (λ answer. R ⊎ SaysProblemFault told root problem (ending_of answer))
    → IfAnswer (Err halt) (λ answer. answer.status ≡ 3 → R ⊎ (SaysProblemFault told root problem (ending_of answer) ⊎ SaysDerivedFault told root problem file (ending_of answer)))
problem_refused_so R told root problem file T halt refused =
    refused_so T halt (λ answer. R ⊎ SaysProblemFault told root problem (ending_of answer)) (λ answer. R ⊎ (SaysProblemFault told root problem (ending_of answer) ⊎ SaysDerivedFault told root problem file (ending_of answer))) (λ answer. so (ending_of answer)) refused
  where
    so : (ending : Ending) → R ⊎ SaysProblemFault told root problem ending → R ⊎ (SaysProblemFault told root problem ending ⊎ SaysDerivedFault told root problem file ending)
    so ending (inl rose) = inl rose
    so ending (inr said) = inr (inl said)
