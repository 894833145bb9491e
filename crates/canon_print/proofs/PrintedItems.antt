-- Items that are printed one by one as they are read.
use Rattle.std.proofs.Common.{◌≡◌, ℕ, List, [], ◌++◌, Ok, ◌∙◌, ap}
use Rattle.tptp_base.specs.declared.item.Item.{Item}
use Rattle.tptp_lexer.specs.declared.token.Tokens.{Tokens}
use Rattle.tptp_grammar.specs.Texts.{IsParsed}
use Rattle.canon_print.specs.Canonical.{canonical_text}

pub all_printed : (tokens : Tokens) (old new text : List ℕ) → old ≡ [] → text ≡ new → (items : List Item) × IsParsed tokens (Ok items) × (new ≡ old ++ canonical_text items) → (items : List Item) × IsParsed tokens (Ok items) × (text ≡ canonical_text items)
all_printed tokens old new text none is (items, parsed, printed) = (items, parsed, is ∙ printed ∙ ap (λ l. l ++ canonical_text items) none)
