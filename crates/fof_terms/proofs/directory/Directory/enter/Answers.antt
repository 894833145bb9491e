use Rattle.std.proofs.Common.{rules, ◌∙◌}
use Rattle.fof_terms.specs.Directory.{entered}
use Rattle.fof_terms.proofs.Entered.{on_err, part_there, no_part, part_same, part_here, part_elsewhere, told_same, told_as}
use Rattle.fof_terms.proofs.directory.Directory.enter.Goals as goal

pub returns-in_err-insert-in-Some-clause-err : goal.returns-in_err-insert-in-Some-clause-err
unfolding entered
returns-in_err-insert-in-Some-clause-err c =
    on_err c.from_residual.result (record {
      same = part_same (λ k. k.items) c.args.self.now.parts (c.get_mut.follows.lender c.insert.new.self) c.in-Some.part.now c.insert.new.self c.args.arity
          (part_there (λ k. k.items) c.args.self.now.parts c.in-Some.part.now c.args.arity c.in-Some.ensures.value)
          ((c.get_mut.follows.holds c.insert.new.self).3 (search rules)).0
          c.in_err-insert-in-Some.ensures.err;
    })

pub returns-in_err-insert-in-None-2-clause-err : goal.returns-in_err-insert-in-None-2-clause-err
unfolding entered
returns-in_err-insert-in-None-2-clause-err c =
    on_err c.from_residual-in_err-insert-in-None-2.result (record {
      same = λ name count.
          told_same (λ k. k.items) c.get_mut.follows.lender-at-none c.insert-in-None-2.new.self c.in_err-insert-in-None-2.ensures.err name count
          ∙ told_as (λ k. k.items) c.get_mut.follows.lender-at-none c.args.self.now.parts c.get_mut.follows.holds-at-none name count;
    })

pub returns-in_ok-insert-in-Some-clause-ok : goal.returns-in_ok-insert-in-Some-clause-ok
unfolding entered
returns-in_ok-insert-in-Some-clause-ok c = record {
  here = part_here (λ k. k.items) c.args.self.now.parts (c.get_mut.follows.lender c.insert.new.self) c.in-Some.part.now c.insert.new.self c.args.arity c.args.name c.args.number
      ((c.get_mut.follows.holds c.insert.new.self).3 (search rules)).0
      c.in_ok-insert-in-Some.ensures.updates;
  elsewhere = part_elsewhere (λ k. k.items) c.args.self.now.parts (c.get_mut.follows.lender c.insert.new.self) c.in-Some.part.now c.insert.new.self c.args.arity c.args.name c.args.number
      (part_there (λ k. k.items) c.args.self.now.parts c.in-Some.part.now c.args.arity c.in-Some.ensures.value)
      ((c.get_mut.follows.holds c.insert.new.self).3 (search rules)).0
      c.in_ok-insert-in-Some.ensures.updates;
}

pub returns-in_ok-insert-in-None-2-clause-ok : goal.returns-in_ok-insert-in-None-2-clause-ok
unfolding entered
returns-in_ok-insert-in-None-2-clause-ok c = record {
  here = part_here (λ k. k.items) c.get_mut.follows.lender-at-none c.insert-in-None-2.new.self c.new-part.result c.insert-in-None.new.self c.args.arity c.args.name c.args.number
      c.in_ok-insert-in-None-2.ensures.updates.0
      c.in_ok-insert-in-None.ensures.updates;
  elsewhere = λ other count ne.
      part_elsewhere (λ k. k.items) c.get_mut.follows.lender-at-none c.insert-in-None-2.new.self c.new-part.result c.insert-in-None.new.self c.args.arity c.args.name c.args.number
      (λ name.
      told_as (λ k. k.items) c.get_mut.follows.lender-at-none c.args.self.now.parts c.get_mut.follows.holds-at-none name c.args.arity
      ∙ no_part (λ k. k.items) c.args.self.now.parts c.new-part.result c.args.arity c.in-None.ensures.value c.new-part.ensures.empty name)
      c.in_ok-insert-in-None-2.ensures.updates.0
      c.in_ok-insert-in-None.ensures.updates
      other count ne
      ∙ told_as (λ k. k.items) c.get_mut.follows.lender-at-none c.args.self.now.parts c.get_mut.follows.holds-at-none other count;
}
