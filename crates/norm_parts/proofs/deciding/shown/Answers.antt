use Rattle.std.proofs.Common.{sym, ◌∙◌, refl}
use Rattle.clause_rules.proofs.Firsts.{holds}
use Rattle.derive_kit.proofs.Built.{ok_map}
use Rattle.rule_steps.proofs.ResolutionLoops.{form_fits}
use Rattle.norm_parts.proofs.DecidedParts.{no_clause, shown_trivial, found_so}
use Rattle.norm_parts.proofs.Known.{known_fit}
use Rattle.norm_parts.proofs.deciding.shown.Goals as goal

pub returns-in_default : goal.returns-in_default
returns-in_default c = no_clause c.args.signature.now c.args.parents.now c.args.part.now (sym c.in_ok-clause.ensures ∙ c.in_default.is)

pub returns-then-trivial : goal.returns-then-trivial
returns-then-trivial c = shown_trivial c.args.signature.now c.args.parents.now c.args.part.now c.in-Some.clause _ (sym c.in_ok-clause.ensures ∙ c.in-Some.is) (holds c.is_trivial-trivial.result _ c.if-trivial.true c.is_trivial-trivial.ensures) refl

pub first_covered-requires-clause-candidates : goal.first_covered-requires-clause-candidates
first_covered-requires-clause-candidates c = known_fit c.args.signature.now c.args.parents.now c.args.known.now c.requires.known

pub first_covered-requires-clause-line : goal.first_covered-requires-clause-line
first_covered-requires-clause-line c = form_fits c.args.signature.now c.args.part.now c.requires.part c.in-Some.clause (sym c.in_ok-clause.ensures ∙ c.in-Some.is)

pub returns : goal.returns
returns c =
    ok_map c.covered.result (found_so c.args.signature.now c.args.parents.now c.args.part.now c.in-Some.clause c.is_trivial-trivial.result (sym c.in_ok-clause.ensures ∙ c.in-Some.is) c.if-trivial.false c.is_trivial-trivial.ensures) c.covered.ensures
