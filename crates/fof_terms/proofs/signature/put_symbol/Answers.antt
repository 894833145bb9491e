use Rattle.std.proofs.Common.{◌≡◌, true, false, length, subst, sym, ◌∙◌}
use Rattle.std.specs.Option.{is_some}
use Rattle.fof_terms.specs.Directory.{entered}
use Rattle.fof_terms.specs.Found.{FindsSymbols}
use Rattle.fof_terms.proofs.Finding.{known_symbol, symbol_entered}
use Rattle.fof_terms.proofs.signature.put_symbol.Goals as goal

pub returns-then-is_some-clause-finds : goal.returns-then-is_some-clause-finds
returns-then-is_some-clause-finds c =
    let known : is_some (entered c.args.directory.now c.args.symbol.name (length c.args.symbol.args)) ≡ true = cc in
    subst (λ symbols. FindsSymbols c.args.symbol.kind symbols c.args.directory.now) (sym c.in_ok-push.ensures.ok) (known_symbol c.args.symbols.now c.args.symbol c.args.directory.now known c.requires.finds)

pub returns-in-Ok-clause-finds : goal.returns-in-Ok-clause-finds
returns-in-Ok-clause-finds c =
    let absent : is_some (entered c.args.directory.now c.args.symbol.name (length c.args.symbol.args)) ≡ false = cc in
    subst (λ symbols. FindsSymbols c.args.symbol.kind symbols c.enter.new.self) (sym c.in_ok-push-2.ensures.ok)
    (symbol_entered c.args.symbols.now c.args.symbol c.args.directory.now c.enter.new.self c.in_ok-key.key.items c.len-arity.result c.len-number.result (c.in_ok-key.ensures.items ∙ c.as_slice-2.ensures) c.len-arity.ensures c.len-number.ensures absent c.in-Ok.ensures.ok c.requires.finds)
