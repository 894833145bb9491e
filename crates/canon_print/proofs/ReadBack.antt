-- What some text spells, `tokens` and `parse` read from the canonical text again.
use Rattle.std.proofs.Common.{◌≡◌, ℕ, ◌≤◌, ◌-◌, List, [], length, Result, Ok, Err, inl, inr, refl, sym, subst, arith}
use Rattle.std.proofs.lemmas.List.{take_all}
use Rattle.tptp_base.specs.declared.item.Item.{Item}
use Rattle.tptp_base.specs.declared.read.TheConstants.{FILE_SIZE}
use Rattle.tptp_base.specs.Place.{place_of}
use Rattle.tptp_lexer.specs.declared.fault.LexFault.{LexFault}
use Rattle.tptp_lexer.specs.declared.style.Style.{Style}
use Rattle.tptp_lexer.specs.declared.token.Tokens.{Tokens}
use Rattle.tptp_lexer.specs.Answer as lexer
use Rattle.tptp_lexer.specs.Bytes.{Text}
use Rattle.tptp_lexer.specs.Tokenized.{Cut, placed}
use Rattle.tptp_lexer.proofs.Answering as answering
use Rattle.tptp_grammar.specs.declared.fault.GrammarFault.{GrammarFault}
use Rattle.tptp_grammar.specs.Answers as grammar
use Rattle.tptp_grammar.specs.Faults.{max_nesting}
use Rattle.tptp_grammar.specs.Laws as laws
use Rattle.tptp_grammar.proofs.OneAnswer as parsing
use Rattle.canon_print.specs.Canonical.{canonical_text}
use Rattle.canon_print.specs.RoundTrip.{AreSame, TextSpells, ParsesAs, ReadsAs}
use Rattle.tptp_lexer.specs.Answer.{whole}
use Rattle.canon_print.proofs.FilesShown.{read_again}

-- a text is all of itself
whole_part : (text : Text) → lexer.part text (whole text) ≡ text
whole_part text = take_all (length text - 0) text (omega arith)

-- the answer of `parse`, where these items are one
parsed : (items again : List Item) → AreSame again items → (result : Result (List Item) GrammarFault) → laws.IsOne (Ok again) result → ParsesAs items result
parsed items again same result (inl e) = subst (ParsesAs items) e same
parsed items again same result (inr (inl e)) = cc
parsed items again same result (inr (inr e)) = subst (ParsesAs items) (sym e) tt

-- the answer of `tokens`, where these tokens are one
cut_as : (items : List Item) (tokens : Tokens) → ReadsAs items (Ok tokens) → (answer : Result Tokens LexFault) → lexer.IsOne (Ok tokens) answer → ReadsAs items answer
cut_as items tokens reads answer (inl e) = subst (ReadsAs items) e reads
cut_as items tokens reads answer (inr (inl e)) = cc
cut_as items tokens reads answer (inr (inr e)) = subst (ReadsAs items) (sym e) tt

pub reads_back : (style : Style) (file : ℕ) (items : List Item) (text : Text) (answer : Result Tokens LexFault) → TextSpells style file max_nesting items text → length (canonical_text items) ≤ FILE_SIZE
    → lexer.Answers file (canonical_text items) (whole (canonical_text items)) style answer → ReadsAs items answer
reads_back style file items text answer spelled fits h =
    let printed = canonical_text items in
    let (again, same, (cut_tokens, offset, cut, spells)) = read_again style file max_nesting items text spelled in
    let tokens : Tokens = record { items = cut_tokens; end = place_of file printed offset; style = style } in
    let fitting : length printed - 0 ≤ FILE_SIZE = omega arith in
    let is : lexer.Answers file printed (whole printed) style (Ok tokens) = (fitting, refl, (offset, subst (λ (z : Text). Cut style (placed file printed) 0 z cut_tokens offset []) (sym (whole_part printed)) cut, refl)) in
    let all : ReadsAs items (Ok tokens) = λ result k. parsed items again same result (parsing.one style cut_tokens (place_of file printed offset) (Ok again) result spells k) in
    cut_as items tokens all answer (answering.one file printed (whole printed) style (Ok tokens) answer is h)
