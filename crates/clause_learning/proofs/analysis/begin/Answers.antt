use Rattle.std.proofs.Common.{option_copied, List, sym, ap, subst, ◌∙◌}
use Rattle.clause_learning.specs.declared.literal.Literal.{Literal}
use Rattle.clause_learning.specs.code.Trails.{clauses_of}
use Rattle.std.specs.List.{Contains}
use Rattle.clause_learning.proofs.Members.{got_in, none_some}
use Rattle.clause_learning.proofs.Holding.{begun_some}
use Rattle.clause_learning.proofs.analysis.begin.Goals.{in-Some+in_ok-mark_all, in_default}
use Rattle.clause_learning.proofs.analysis.begin.Goals as goal

pub mark_all-requires : goal.mark_all-requires
mark_all-requires c =
    let clauses = clauses_of c.args.clauses.now in
    let got = sym c.get.ensures ∙ ap option_copied c.in-Some.is in
    λ x there. c.requires c.in-Some.clause.now (got_in clauses c.args.number c.in-Some.clause.now got) x (subst (λ (ls : List Literal). Contains ls x) c.as_slice.ensures there)

pub returns-clause-begun : goal.returns-clause-begun
returns-clause-begun c = λ values atoms none clear listed conflict.
    let clauses = clauses_of c.args.clauses.now in
    elim c.match-get.branch [
      | in-Some+in_ok-mark_all w ↦
          begun_some clauses c.args.number w.in-Some.clause.now w.as_slice.result.now c.args.from.now c.push.new.self c.args.marks.now w.mark_all.new.self c.match-get.marks values atoms
          (sym c.get.ensures ∙ ap option_copied w.in-Some.is) w.as_slice.ensures w.in_ok-mark_all.ensures w.marks-is c.in_ok-push.ensures.ok none clear listed conflict
      | in_default w ↦ absurd (none_some conflict.0 (sym (sym c.get.ensures ∙ ap option_copied w.in_default.is) ∙ conflict.1))
    ]
