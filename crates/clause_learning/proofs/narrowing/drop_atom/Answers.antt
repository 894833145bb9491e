use Rattle.std.proofs.Common.{option_copied, List, length, sym, ap, subst, ◌∙◌}
use Rattle.std.specs.List.{Contains}
use Rattle.clause_learning.specs.declared.literal.Literal.{Literal}
use Rattle.clause_learning.specs.Valuations.{HasAtoms}
use Rattle.clause_learning.specs.code.Trails.{clauses_of}
use Rattle.clause_learning.proofs.Members.{got_in}
use Rattle.clause_learning.proofs.Dropping.{dropped}
use Rattle.clause_learning.proofs.narrowing.drop_atom.Goals as goal

pub resolve-requires : goal.resolve-requires
resolve-requires c =
    let clauses = clauses_of c.args.clauses.now in
    let within : HasAtoms (length c.args.marks.now.marks) clauses = c.requires.within in
    let got = sym c.get.ensures ∙ ap option_copied c.in-Some-get.is in
    λ x there. within c.in-Some-get.clause.now (got_in clauses c.in-Some-reason.number c.in-Some-get.clause.now got) x (subst (λ (ls : List Literal). Contains ls x) c.as_slice-lits.ensures there)

pub returns-then-are_before-clause-stopped : goal.returns-then-are_before-clause-stopped
returns-then-are_before-clause-stopped c =
    dropped (clauses_of c.args.clauses.now) c.args.from.now c.resolve.new.from c.args.marks.now c.resolve.new.marks c.args.trail.now c.args.stop c.in-Some.ensures.0 c.in-Some.step c.in-Some-reason.number c.in-Some-get.clause.now c.as_slice-lits.result.now
    c.requires.stopped c.in-Some.ensures.1 c.in-Some-reason.is (sym c.get.ensures ∙ ap option_copied c.in-Some-get.is) c.as_slice-lits.ensures (sym c.has.ensures ∙ c.if-has.true) (c.are_before.ensures c.if-are_before.true) c.in_ok-resolve.ensures.marks c.in_ok-resolve.ensures.from
