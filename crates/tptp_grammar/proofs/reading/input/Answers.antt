use Rattle.std.proofs.Common.{◌≡◌, List, [], ◌∷◌, ◌++◌, ◌∙◌, sym, ap, subst, length}
use Rattle.tptp_lexer.specs.declared.token.Token.{Token}
use Rattle.tptp_grammar.specs.Faults.{max_nesting}
use Rattle.tptp_lexer.specs.Dots.{through_dot}
use Rattle.tptp_grammar.specs.code.Outcomes.{Fails}
use Rattle.tptp_grammar.specs.code.ReadItems as items
use Rattle.tptp_grammar.proofs.Whole.{refuses}
use Rattle.tptp_grammar.proofs.reading.input.Goals as goal

-- the tokens that the reader is given
given : (t : Token) (more empty kept all slice view : List Token) → view ≡ slice → slice ≡ all → all ≡ kept ++ more → kept ≡ empty ++ t ∷ [] → empty ≡ [] → view ≡ t ∷ more
given t more empty kept all slice view is same gathered pushed none = is ∙ same ∙ gathered ∙ ap (λ l. l ++ more) (pushed ∙ ap (λ l. l ++ t ∷ []) none)

pub returns-in-Ok-clause-ok : goal.returns-in-Ok-clause-ok
returns-in-Ok-clause-ok c =
    let is = given c.args.first (through_dot c.args.rest.now) _ _ _ _ c.new-cursor.result c.new-cursor.ensures c.as_slice.ensures.value c.in_ok-take_through_dot.ensures.ok c.in_ok-push.ensures.items c.clear.ensures.items in
    (c.in_ok-take_through_dot.ensures.rest, c.item.new.tokens, ap (items.item c.args.style max_nesting c.args.place) (sym is) ∙ c.in-Ok.ensures)

pub returns-in-Err-clause-err : goal.returns-in-Err-clause-err
returns-in-Err-clause-err c =
    let is = given c.args.first (through_dot c.args.rest.now) _ _ _ _ c.new-cursor.result c.new-cursor.ensures c.as_slice.ensures.value c.in_ok-take_through_dot.ensures.ok c.in_ok-push.ensures.items c.clear.ensures.items in
    refuses c.args.style c.args.first c.args.place c.args.rest.now c.item.new.tokens c.len-given.result c.left.result c.saturating_sub-taken.result
    (c.len-given.ensures ∙ sym c.as_slice.ensures.len ∙ ap length (sym c.new-cursor.ensures ∙ is)) c.left.ensures c.saturating_sub-taken.ensures
    c.in-Err.stop (subst (λ ts. Fails (items.item c.args.style max_nesting c.args.place ts) c.in-Err.stop c.item.new.tokens) is c.in-Err.ensures)
