use Rattle.std.proofs.Common.{◌++◌, ◌∷◌, [], ℕ, option_copied, List, length, sym, ap, subst, ◌∙◌}
use Rattle.clause_learning.specs.declared.literal.Literal.{Literal}
use Rattle.clause_learning.specs.code.Trails.{clauses_of}
use Rattle.clause_learning.specs.code.Cuts.{IsFreeAt, AreUnmarkedFrom}
use Rattle.clause_learning.specs.Valuations.{HasAtoms}
use Rattle.std.specs.List.{Contains}
use Rattle.clause_learning.proofs.Members.{got_in}
use Rattle.clause_learning.proofs.Holding.{held_over, passed_resolved, justified_there}
use Rattle.clause_learning.proofs.Cutting.{free_last, unmarked_last, free_before}
use Rattle.clause_learning.proofs.analysis.pass.Goals as goal

pub resolve-requires : goal.resolve-requires
resolve-requires c =
    let clauses = clauses_of c.args.clauses.now in
    let within : HasAtoms (length c.args.marks.now.marks) clauses = c.requires in
    let got = sym c.get.ensures ∙ ap option_copied c.in-Some-get.is in
    λ x there. within c.in-Some-get.clause.now (got_in clauses c.in-Some.number c.in-Some-get.clause.now got) x (subst (λ (ls : List Literal). Contains ls x) c.as_slice.ensures there)

pub returns-then-not-has-clause-passed : goal.returns-then-not-has-clause-passed
returns-then-not-has-clause-passed c = λ just held.
    held_over (clauses_of c.args.clauses.now) c.args.from.now c.args.marks.now c.args.trail.now.values c.args.step.literal held (sym c.has.ensures ∙ c.if-not-has.true)

pub returns-in_default-clause-passed : goal.returns-in_default-clause-passed
returns-in_default-clause-passed c = λ just held.
    let steps = c.args.trail.now.steps in
    let P : ℕ → Type 0 = λ k. IsFreeAt (steps ++ c.args.step ∷ []) k × AreUnmarkedFrom steps c.args.marks.now k in
    let both = subst P (sym c.len.ensures) (free_last steps c.args.step c.in_default.is, unmarked_last steps c.args.marks.now) in
    (held, sym c.has.ensures ∙ c.if-not-has.false, both.0, both.1)

pub returns-in-Some-cut_at_last-clause-passed : goal.returns-in-Some-cut_at_last-clause-passed
returns-in-Some-cut_at_last-clause-passed c = λ just held.
    let cut = c.in-Some-cut_at_last.ensures in
    (held, sym c.has.ensures ∙ c.if-not-has.false, free_before c.args.trail.now.steps c.args.step c.in-Some-cut_at_last.keep cut.free, cut.unmarked)

pub returns-in_ok-resolve-clause-passed : goal.returns-in_ok-resolve-clause-passed
returns-in_ok-resolve-clause-passed c = λ just held.
    passed_resolved (clauses_of c.args.clauses.now) c.args.from.now c.resolve.new.from c.args.marks.now c.resolve.new.marks c.args.trail.now.values c.args.step.literal c.args.step.reason c.in-Some.number c.in-Some-get.clause.now
    c.as_slice.result.now c.in-Some.is just (sym c.get.ensures ∙ ap option_copied c.in-Some-get.is) c.as_slice.ensures c.in_ok-resolve.ensures.marks c.in_ok-resolve.ensures.from (sym c.has.ensures ∙ c.if-not-has.false) held

pub returns-in_default-get-clause-passed : goal.returns-in_default-get-clause-passed
returns-in_default-get-clause-passed c = λ just held.
    absurd (justified_there (clauses_of c.args.clauses.now) c.args.trail.now.values c.args.step.literal c.args.step.reason c.in-Some.number c.in-Some.is just (sym c.get.ensures ∙ ap option_copied c.in_default-get.is))
