use Rattle.std.proofs.Common.{◌≡◌, ◌⊎◌, ◌≤◌, ℕ, List, Option, length, sym, subst}
use Rattle.tptp_base.specs.Count.{Rose}
use Rattle.tptp_base.specs.Store.{Files, HasFile}
use Rattle.tptp_base.specs.declared.read.TheConstants.{FILE_SIZE}
use Rattle.include_resolve.specs.declared.problem.TheConstants.{TOTAL_SIZE}
use Rattle.read_problems.specs.Answer.{ending_of}
use Rattle.read_problems.specs.code.Turns.{IsOfText, IsRefusalOfText}
use Rattle.read_problems.specs.declared.denotations.Denotation.{Denotation}
use Rattle.read_problems.specs.Denotations.{IsDenotation}
use Rattle.read_problems.specs.Denoted.{IsProblemRefusal}
use Rattle.read_problems.specs.Ending.{IsUnread}
use Rattle.read_problems.specs.OtherFaults.{SaysProblemFault}
use Rattle.read_problems.proofs.InTurn.{text_denoted, text_refused, text_absent, unread_refused, unread_absent}
use Rattle.read_problems.proofs.Answered.{refused_on, refused_both, refused_so, found_so}
use Rattle.read_problems.proofs.denotations.read_in_turn.Goals as goal

abbrev Bytes : Type 0
Bytes = List ℕ

-- what holds of a text holds of the slice that it is lent as
has_slice : (told : Option Files) (file text slice : Bytes) → slice ≡ text → HasFile told file (λ bytes. bytes ≡ text) → HasFile told file (λ bytes. bytes ≡ slice)
has_slice told file text slice is has = subst (λ (t : Bytes). HasFile told file (λ bytes. bytes ≡ t)) (sym is) has

no_longer : (limit : ℕ) (text slice : Bytes) → slice ≡ text → length text ≤ limit → length slice ≤ limit
no_longer limit text slice is few = subst (λ (t : Bytes). length t ≤ limit) (sym is) few

pub returns-in-Ok-clause-is : goal.returns-in-Ok-clause-is
returns-in-Ok-clause-is g c =
    let told = g.S.Store.files c.args.store.now in
    let file : Bytes = c.args.file.now in
    let slice : Bytes = c.as_slice.result.now in
    let text : Bytes = c.in-Ok.text in
    found_so Denotation c.denote_text.result (λ d. IsOfText slice c.args.keeps d) (λ d. (root : Option Bytes) → IsDenotation told root file c.args.keeps d)
    (λ d is root.
    text_denoted told root file slice (has_slice told file text slice c.as_slice.ensures c.in-Ok.ensures.whole) (no_longer FILE_SIZE text slice c.as_slice.ensures c.in-Ok.ensures.in_limit) (no_longer TOTAL_SIZE text slice c.as_slice.ensures c.in-Ok.ensures.in_budget) c.args.keeps d is)
    c.denote_text.ensures.is

pub returns-in-Ok-clause-refused : goal.returns-in-Ok-clause-refused
returns-in-Ok-clause-refused g c =
    let told = g.S.Store.files c.args.store.now in
    let file : Bytes = c.args.file.now in
    let slice : Bytes = c.as_slice.result.now in
    let text : Bytes = c.in-Ok.text in
    refused_so (Option Denotation) c.denote_text.result (λ answer. IsRefusalOfText file slice (ending_of answer)) (λ answer. (root : Option Bytes) → IsProblemRefusal told root file (ending_of answer))
    (λ answer is root.
    text_refused told root file slice (has_slice told file text slice c.as_slice.ensures c.in-Ok.ensures.whole) (no_longer FILE_SIZE text slice c.as_slice.ensures c.in-Ok.ensures.in_limit) (no_longer TOTAL_SIZE text slice c.as_slice.ensures c.in-Ok.ensures.in_budget) (ending_of answer) is)
    c.denote_text.ensures.refused

pub returns-in-Ok-clause-absence : goal.returns-in-Ok-clause-absence
returns-in-Ok-clause-absence g c =
    let told = g.S.Store.files c.args.store.now in
    let rose = Rose (g.S.Store.absents c.args.store.now) (g.S.Store.absents c.read_text.new.store) in
    let file : Bytes = c.args.file.now in
    let slice : Bytes = c.as_slice.result.now in
    let text : Bytes = c.in-Ok.text in
    refused_so (Option Denotation) c.denote_text.result (λ answer. IsRefusalOfText file slice (ending_of answer)) (λ answer. (root : Option Bytes) → rose ⊎ SaysProblemFault told root file (ending_of answer))
    (λ answer is root.
    text_absent told root file slice (has_slice told file text slice c.as_slice.ensures c.in-Ok.ensures.whole) (no_longer FILE_SIZE text slice c.as_slice.ensures c.in-Ok.ensures.in_limit) (no_longer TOTAL_SIZE text slice c.as_slice.ensures c.in-Ok.ensures.in_budget) (ending_of answer) rose is)
    c.denote_text.ensures.refused

pub returns-in-Err-clause-refused : goal.returns-in-Err-clause-refused
returns-in-Err-clause-refused g c =
    let told = g.S.Store.files c.args.store.now in
    let file : Bytes = c.args.file.now in
    refused_on Bytes (Option Denotation) c.in-Err.halt (λ answer. IsUnread told file TOTAL_SIZE (ending_of answer)) (λ answer. (root : Option Bytes) → IsProblemRefusal told root file (ending_of answer))
    (λ answer is root. unread_refused told root file (ending_of answer) is)
    c.in-Err.ensures.said

pub returns-in-Err-clause-absence : goal.returns-in-Err-clause-absence
returns-in-Err-clause-absence g c =
    let told = g.S.Store.files c.args.store.now in
    let rose = Rose (g.S.Store.absents c.args.store.now) (g.S.Store.absents c.read_text.new.store) in
    let file : Bytes = c.args.file.now in
    refused_both Bytes (Option Denotation) c.in-Err.halt (λ answer. IsUnread told file TOTAL_SIZE (ending_of answer)) (λ answer. answer.status ≡ 3 → rose) (λ answer. (root : Option Bytes) → rose ⊎ SaysProblemFault told root file (ending_of answer))
    (λ answer is rises root. unread_absent told root file (ending_of answer) rose rises is)
    c.in-Err.ensures.said c.in-Err.ensures.missing
