use Rattle.std.proofs.Common.{◌∙◌, sym, ap, nat_eq}
use Rattle.std.specs.Option.{option_and_then}
use Rattle.std.specs.Cmp.Lexicographic.{pointwise}
use Rattle.indexmap.specs.IndexMap.{get_by}
use Rattle.fof_terms.specs.Directory.{entered}
use Rattle.fof_terms.proofs.Entered.{part_there}
use Rattle.fof_terms.proofs.directory.Directory.find.Goals as goal

pub returns-in-Some : goal.returns-in-Some
unfolding entered
returns-in-Some c =
    c.copied.ensures ∙ (c.get-in-Some.ensures.value ∙ sym (part_there (λ k. k.items) c.args.self.now.parts c.in-Some.part.now c.args.arity c.in-Some.ensures.value c.args.name.now))

pub returns-in-None : goal.returns-in-None
unfolding entered
returns-in-None c = ap (option_and_then (λ part. get_by (λ k. pointwise nat_eq c.args.name.now k.items) part)) c.in-None.ensures.value
