-- What a derivation brings to a signature it names.
use Rattle.std.proofs.Common.{ℕ, List, [], subst}
use Rattle.tptp_base.specs.declared.name.Name.{Name}
use Rattle.tptp_lexer.specs.declared.style.Style.{Style}
use Rattle.tptp_lexer.specs.declared.style.Style.TheVariants.{Derivation as Lexed}
use Rattle.tptp_lexer.specs.Answer.{part}
use Rattle.tptp_grammar.specs.Files.{IsFile}
use Rattle.tptp_grammar.proofs.SpelledNames.{spelled_names}
use Rattle.fof_terms.specs.Vocabulary.{Vocabulary}
use Rattle.sort_check.specs.declared.line.TextKind.TheVariants as kind
use Rattle.sort_check.specs.Bringing.{Brings}
use Rattle.sort_check.proofs.LineBringing.{text_brings}
use Rattle.szs_report.specs.Region.{region_of}
use Rattle.derivation_text.specs.declared.derivation.Derivation.{Derivation}
use Rattle.derivation_text.specs.Derivations.{IsDerivation}

pub derivation_brings : (text : List ℕ) (given : List Name) (v : Vocabulary) (d : Derivation) (w : Vocabulary) → IsDerivation text given v d w → Brings v w
derivation_brings text given v d w (items, spells, are) =
    let region = region_of text in
    let cut = spells.lexed.2 in
    let names = spelled_names Lexed 0 text region.start (part text region) spells.tokens.items cut.0 [] items cut.1 (spells.parsed.0, subst (λ (style : Style). IsFile style items spells.tokens.items spells.parsed.0) spells.lexed.1 spells.parsed.1) in
    text_brings items v w kind.Derivation are.lines names are.denote
