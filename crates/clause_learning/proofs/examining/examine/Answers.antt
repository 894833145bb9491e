use Rattle.std.proofs.Common.{◌≡◌, ◌+◌, rules, List, Option, None, is_some, false, take, get_or, sym, subst, ◌∙◌}
use Rattle.clause_learning.specs.declared.literal.Literal.{Literal}
use Rattle.std.proofs.lemmas.List.Elements.{Contains-get_or}
use Rattle.clause_learning.proofs.Marking.{IsScanned, scanned_none, scanned_false, scanned_free, scanned_broken, scanned_forced, fails_by, not_failing, not_failing_free, beq_same, beq_differ, none_of, taken_all, read_again}
use Rattle.clause_learning.proofs.examining.examine.Goals.{in-Some+else-value-lit, in-None+else-is_some}
use Rattle.clause_learning.proofs.examining.examine.Goals as goal

nothing : Literal
nothing = record { atom = 0; positive = false }

pub loop-lit-init : goal.loop-lit-init
loop-lit-init c = scanned_none c.args.trail.now.values

pub loop-lit-preserved : goal.loop-lit-preserved
unfolding nothing
loop-lit-preserved c =
    let values = c.args.trail.now.values in
    let lits = c.args.lits.now in
    let i = c.loop-lit.lit-index in
    let x : Literal = get_or lits i nothing in
    let P : Option Literal → Type 0 = λ o. IsScanned values (take (i + 1) lits) o in
    elim c.match-value.branch [
      | in-Some+else-value-lit w ↦
          subst P (sym w.open-is) (scanned_false values lits i x c.loop-lit-test.true (read_again lits i nothing c.loop-lit-test.true) c.loop-lit.open c.loop-lit.invariant
          (fails_by values x w.in-Some.value (sym c.value.ensures ∙ w.in-Some.is) (beq_differ w.in-Some.value.positive x.positive w.if-value-lit.false)))
      | in-None+else-is_some w ↦
          let off : is_some c.loop-lit.open ≡ false = first_of (cc, search rules) in
          let none : c.loop-lit.open ≡ None = none_of c.loop-lit.open off in
          let Q : Option Literal → Type 0 = λ o. IsScanned values (take i lits) o in
          subst P (sym w.open-is) (scanned_free values lits i x c.loop-lit-test.true (read_again lits i nothing c.loop-lit-test.true) (subst Q none c.loop-lit.invariant) (sym c.value.ensures ∙ w.in-None.is))
    ]

pub returns-then-value-lit : goal.returns-then-value-lit
unfolding nothing
returns-then-value-lit c =
    let lits = c.args.lits.now in
    let i = c.loop-lit.lit-index in
    let x : Literal = get_or lits i nothing in
    (x, Contains-get_or lits i nothing c.loop-lit-test.true, not_failing c.args.trail.now.values x c.in-Some.value (sym c.value.ensures ∙ c.in-Some.is) (beq_same c.in-Some.value.positive x.positive c.if-value-lit.true))

pub returns-then-is_some : goal.returns-then-is_some
unfolding nothing
returns-then-is_some c =
    let lits = c.args.lits.now in
    let i = c.loop-lit.lit-index in
    let x : Literal = get_or lits i nothing in
    (x, Contains-get_or lits i nothing c.loop-lit-test.true, not_failing_free c.args.trail.now.values x (sym c.value.ensures ∙ c.in-None.is))

pub returns-in-Some-open : goal.returns-in-Some-open
returns-in-Some-open c =
    let values = c.args.trail.now.values in
    let P : List Literal → Type 0 = λ ls. IsScanned values ls c.loop-lit.open in
    let Q : Option Literal → Type 0 = λ o. IsScanned values c.args.lits.now o in
    scanned_forced values c.args.lits.now c.in-Some-open.lit (subst Q c.in-Some-open.is (subst P (taken_all c.args.lits.now c.loop-lit.lit-index c.loop-lit-test.false) c.loop-lit.invariant))

pub returns-in-None-open : goal.returns-in-None-open
returns-in-None-open c =
    let values = c.args.trail.now.values in
    let P : List Literal → Type 0 = λ ls. IsScanned values ls c.loop-lit.open in
    let Q : Option Literal → Type 0 = λ o. IsScanned values c.args.lits.now o in
    scanned_broken values c.args.lits.now (subst Q c.in-None-open.is (subst P (taken_all c.args.lits.now c.loop-lit.lit-index c.loop-lit-test.false) c.loop-lit.invariant))
