use Rattle.std.proofs.Common.{◌≡◌, true, false, subst, sym, ◌∙◌}
use Rattle.std.specs.Option.{is_some}
use Rattle.fof_terms.specs.Directory.{entered}
use Rattle.fof_terms.specs.Found.{FindsSorts}
use Rattle.fof_terms.proofs.Finding.{sort_known, sort_entered}
use Rattle.fof_terms.proofs.signature.put_sort.Goals as goal

pub returns-then-is_some-clause-finds : goal.returns-then-is_some-clause-finds
returns-then-is_some-clause-finds c =
    let known : is_some (entered c.args.directory.now c.args.name 0) ≡ true = cc in
    subst (λ sorts. FindsSorts sorts c.args.directory.now) (sym c.in_ok-push.ensures.ok) (sort_known c.args.sorts.now c.args.name c.args.directory.now c.requires.some known c.requires.finds)

pub returns-in-Ok-clause-finds : goal.returns-in-Ok-clause-finds
returns-in-Ok-clause-finds c =
    let absent : is_some (entered c.args.directory.now c.args.name 0) ≡ false = cc in
    subst (λ sorts. FindsSorts sorts c.enter.new.self) (sym c.in_ok-push-2.ensures.ok)
    (sort_entered c.args.sorts.now c.args.name c.args.directory.now c.enter.new.self c.in_ok-key.key.items c.len-number.result c.requires.some (c.in_ok-key.ensures.items ∙ c.as_slice-2.ensures) c.len-number.ensures absent c.in-Ok.ensures.ok c.requires.finds)
