use Rattle.std.proofs.Common.{None, Some, refl, sym, subst, ◌∙◌}
use Rattle.clause_rules.specs.Answers.{cover, tautology}
use Rattle.clause_rules.specs.declared.just.Just.TheVariants.{Tautology}
use Rattle.rule_steps.specs.code.SlotFits.{AllFit}
use Rattle.clause_rules.proofs.Firsts.{ok_map}
use Rattle.rule_steps.proofs.CoverEnds.{cover_answer}
use Rattle.rule_steps.proofs.FirstRule.{extend, first, is_no_trivial_line, is_trivial_line}
use Rattle.rule_steps.proofs.ResolutionLoops.{parents_fit}
use Rattle.rule_steps.proofs.recognising.by_clause.Goals as goal

pub returns-in-Some : goal.returns-in-Some
returns-in-Some c = λ form is below.
    first c.args.sig.now c.args.parents.now form cover c.in_ok-cover.cover c.in-Some.just c.in-Some.is (cover_answer c.args.sig.now c.args.parents.now form c.args.line.now is c.in_ok-cover.cover c.in_ok-cover.ensures) below

pub returns-then-is_trivial : goal.returns-then-is_trivial
returns-then-is_trivial c = λ form is below.
    first c.args.sig.now c.args.parents.now form tautology (Some Tautology) Tautology refl (is_trivial_line c.args.sig.now c.args.parents.now form c.args.line.now is c.is_trivial.result c.is_trivial.ensures c.if-is_trivial.true)
    (extend c.args.sig.now c.args.parents.now form cover c.in_ok-cover.cover c.in_default.is (cover_answer c.args.sig.now c.args.parents.now form c.args.line.now is c.in_ok-cover.cover c.in_ok-cover.ensures) below)

pub among_clauses-requires-clause-clauses : goal.among_clauses-requires-clause-clauses
among_clauses-requires-clause-clauses c = subst (AllFit c.args.sig.now) (sym (c.as_slice.ensures ∙ c.in_ok-clauses.ensures)) (parents_fit c.args.sig.now c.args.parents.now c.requires.parents)

pub returns : goal.returns
returns c =
    ok_map c.among_clauses.result
    (λ answer told form is below.
    told c.args.parents.now (c.as_slice.ensures ∙ c.in_ok-clauses.ensures) form is
    (extend c.args.sig.now c.args.parents.now form tautology None refl (is_no_trivial_line c.args.sig.now c.args.parents.now form c.args.line.now is c.is_trivial.result c.is_trivial.ensures c.if-is_trivial.false)
    (extend c.args.sig.now c.args.parents.now form cover c.in_ok-cover.cover c.in_default.is (cover_answer c.args.sig.now c.args.parents.now form c.args.line.now is c.in_ok-cover.cover c.in_ok-cover.ensures) below)))
    c.among_clauses.ensures
