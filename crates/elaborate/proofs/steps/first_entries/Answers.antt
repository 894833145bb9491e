use Rattle.std.proofs.Common.{[], inl, inr, refl}
use Rattle.derive_kit.specs.Derived.{numbers_of}
use Rattle.elaborate.specs.ByRule.{Applies}
use Rattle.elaborate.specs.declared.answer.Rule.TheVariants.{Split, Skolem, Definition, Choice}
use Rattle.elaborate.proofs.StepAnswers.{by_none, by_some, derived_is, derived_weaker}
use Rattle.elaborate.proofs.steps.first_entries.Goals as goal

pub returns-in-Some : goal.returns-in-Some
returns-in-Some c =
    let h = by_some c.args.theory.now (numbers_of c.args.parents.now) c.args.line.now (Applies c.args.theory.now c.args.parents.now c.args.line.now Split) c.in_ok-entries.field-0 c.in-Some.entries c.in-Some.is c.in_ok-entries.ensures in
    derived_is c.args.theory.now c.args.parents.now c.args.line.now c.derived_by.result Split c.in-Some.entries c.derived_by.ensures (inl (refl, h.0)) h.1

pub returns-in-Some-2 : goal.returns-in-Some-2
returns-in-Some-2 c =
    let h = by_some c.args.theory.now (numbers_of c.args.parents.now) c.args.line.now (Applies c.args.theory.now c.args.parents.now c.args.line.now Skolem) c.in_ok-entries-2.field-0 c.in-Some-2.entries c.in-Some-2.is c.in_ok-entries-2.ensures in
    derived_is c.args.theory.now c.args.parents.now c.args.line.now c.derived_by-in-Some-2.result Skolem c.in-Some-2.entries c.derived_by-in-Some-2.ensures (inr (by_none c.args.theory.now (numbers_of c.args.parents.now) c.args.line.now (Applies c.args.theory.now c.args.parents.now c.args.line.now Split) c.in_ok-entries.field-0 c.in_default.is c.in_ok-entries.ensures, inl (refl, h.0))) h.1

pub returns-in-Some-3 : goal.returns-in-Some-3
returns-in-Some-3 c =
    let h = by_some c.args.theory.now [] c.args.line.now (Applies c.args.theory.now c.args.parents.now c.args.line.now Definition) c.in_ok-entries-3.field-0 c.in-Some-3.entries c.in-Some-3.is c.in_ok-entries-3.ensures in
    derived_is c.args.theory.now c.args.parents.now c.args.line.now c.derived_by-in-Some-3.result Definition c.in-Some-3.entries c.derived_by-in-Some-3.ensures (inr (by_none c.args.theory.now (numbers_of c.args.parents.now) c.args.line.now (Applies c.args.theory.now c.args.parents.now c.args.line.now Split) c.in_ok-entries.field-0 c.in_default.is c.in_ok-entries.ensures, inr (by_none c.args.theory.now (numbers_of c.args.parents.now) c.args.line.now (Applies c.args.theory.now c.args.parents.now c.args.line.now Skolem) c.in_ok-entries-2.field-0 c.in_default-2.is c.in_ok-entries-2.ensures, inl (refl, h.0)))) (derived_weaker c.args.theory.now (numbers_of c.args.parents.now) c.in-Some-3.entries c.args.line.now h.1)

pub returns-in-Some-4 : goal.returns-in-Some-4
returns-in-Some-4 c =
    let h = by_some c.args.theory.now [] c.args.line.now (Applies c.args.theory.now c.args.parents.now c.args.line.now Choice) c.in_ok-entries-4.field-0 c.in-Some-4.entries c.in-Some-4.is c.in_ok-entries-4.ensures in
    derived_is c.args.theory.now c.args.parents.now c.args.line.now c.derived_by-in-Some-4.result Choice c.in-Some-4.entries c.derived_by-in-Some-4.ensures (inr (by_none c.args.theory.now (numbers_of c.args.parents.now) c.args.line.now (Applies c.args.theory.now c.args.parents.now c.args.line.now Split) c.in_ok-entries.field-0 c.in_default.is c.in_ok-entries.ensures, inr (by_none c.args.theory.now (numbers_of c.args.parents.now) c.args.line.now (Applies c.args.theory.now c.args.parents.now c.args.line.now Skolem) c.in_ok-entries-2.field-0 c.in_default-2.is c.in_ok-entries-2.ensures, inr (by_none c.args.theory.now [] c.args.line.now (Applies c.args.theory.now c.args.parents.now c.args.line.now Definition) c.in_ok-entries-3.field-0 c.in_default-3.is c.in_ok-entries-3.ensures, inl (refl, h.0))))) (derived_weaker c.args.theory.now (numbers_of c.args.parents.now) c.in-Some-4.entries c.args.line.now h.1)

pub returns : goal.returns
returns c = (by_none c.args.theory.now (numbers_of c.args.parents.now) c.args.line.now (Applies c.args.theory.now c.args.parents.now c.args.line.now Split) c.in_ok-entries.field-0 c.in_default.is c.in_ok-entries.ensures, (by_none c.args.theory.now (numbers_of c.args.parents.now) c.args.line.now (Applies c.args.theory.now c.args.parents.now c.args.line.now Skolem) c.in_ok-entries-2.field-0 c.in_default-2.is c.in_ok-entries-2.ensures, (by_none c.args.theory.now [] c.args.line.now (Applies c.args.theory.now c.args.parents.now c.args.line.now Definition) c.in_ok-entries-3.field-0 c.in_default-3.is c.in_ok-entries-3.ensures, (by_none c.args.theory.now [] c.args.line.now (Applies c.args.theory.now c.args.parents.now c.args.line.now Choice) c.in_ok-entries-4.field-0 c.in_default-4.is c.in_ok-entries-4.ensures, tt))))
