use Rattle.read_problems.proofs.spelled.print_text.Goals as goal

pub returns-in-Ok-clause-printed : goal.returns-in-Ok-clause-printed
returns-in-Ok-clause-printed c =
    let (items, parsed, is) = c.in-Ok.ensures.text in (items, record { tokens = c.in_ok-tokens.tokens; lexed = c.in_ok-tokens.ensures.lexed; parsed = parsed }, is)
