use Rattle.std.proofs.Common.{◌≡◌, ◌||◌, true, false, slice_get, sym, ◌∙◌, ap, subst}
use Rattle.sort_check.specs.Namesakes.{IsKnown}
use Rattle.sort_check.specs.code.Texts.{other_at}
use Rattle.sort_check.proofs.Alike.{first_differs}
use Rattle.sort_check.proofs.namesakes.Namesakes.is_elsewise.Goals as goal

pub returns-then-is_mixed : goal.returns-then-is_mixed
returns-then-is_mixed c =
    let entry = c.in-Some.field-0 in
    let known = subst (IsKnown c.as_slice.result.now c.args.signature.now.symbols) (sym c.in-Some.ensures) (c.requires c.as_slice.result.now) in
    let all = first_differs c.as_slice.result.now c.args.symbol.now c.args.signature.now.symbols entry c.as_slice.ensures known in
    let mixed : entry.is_mixed ≡ true = c.if-is_mixed.true in
    mixed ∙ ap (λ b. b || other_at c.args.symbol.now (slice_get c.args.signature.now.symbols entry.first)) (sym mixed) ∙ all

pub returns-else-is_mixed : goal.returns-else-is_mixed
returns-else-is_mixed c =
    let entry = c.in-Some.field-0 in
    let known = subst (IsKnown c.as_slice.result.now c.args.signature.now.symbols) (sym c.in-Some.ensures) (c.requires c.as_slice.result.now) in
    let all = first_differs c.as_slice.result.now c.args.symbol.now c.args.signature.now.symbols entry c.as_slice.ensures known in
    let alone : entry.is_mixed ≡ false = c.if-is_mixed.false in
    c.is_other.ensures ∙ ap (λ b. b || other_at c.args.symbol.now (slice_get c.args.signature.now.symbols entry.first)) (sym alone) ∙ all
