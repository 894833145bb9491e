use Rattle.std.proofs.Common.{rules, ◌≡◌, ◌∙◌, Some}
use Rattle.std.specs.Prelude.{slice_get}
use Rattle.fof_terms.specs.declared.form.Form.{And}
use Rattle.proof_check.proofs.Concluded.{ok_map, and_e_some, and_e_none}
use Rattle.proof_check.proofs.rules.conjunct.Goals as goal

pub returns-in-Some-And : goal.returns-in-Some-And
returns-in-Some-And c =
    let shown : c.args.shown.now ≡ Some (And c.in-Some-And.members) = search (rules, c.in-Some-And.ensures, c.in-Some-And.is, c.in-Some-And.field-0-is) in
    let member : c.given.result ≡ slice_get c.in-Some-And.members c.args.member = search (rules, c.given.ensures, c.at.ensures, c.as_slice.ensures, c.in-Some-And.members-is) in
    λ t v h p cp. and_e_some t v h c.args.member p c.args.shown.now c.given.result c.in-Some-And.members cp shown member

pub returns-in-Some : goal.returns-in-Some
returns-in-Some c = ok_map c.copied.result (λ r e t v h p cp. and_e_some t v h c.args.member p c.args.shown.now r c.in-Some.members.now cp c.in-Some.ensures.some (e ∙ c.at-in-Some.ensures)) c.copied.ensures

pub returns-in-None : goal.returns-in-None
returns-in-None c = λ t v h p cp. and_e_none t v h c.args.member p c.args.shown.now cp c.in-None.ensures.none
