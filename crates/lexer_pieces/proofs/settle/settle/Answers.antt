use Rattle.std.specs.Prelude.{ℕ, ◌≡◌, ◌-◌, ◌≤◌, Bool, take, drop, length}
use Rattle.tptp_lexer.specs.declared.scan.Kind.{Kind}
use Rattle.tptp_lexer.specs.Bytes.{Text}
use Rattle.std.proofs.Common.{ap, sym, ◌∙◌}
use Rattle.lexer_pieces.specs.code.Settling.{is_settled}
use Rattle.lexer_pieces.proofs.Reaching.{part_all}
use Rattle.lexer_pieces.proofs.Ends.{blanks_on, token_on}
use Rattle.lexer_pieces.proofs.Growing.{found_fits, says_of, settled_longest}
use Rattle.lexer_pieces.proofs.Stopping.{nothing_anyway}
use Rattle.lexer_pieces.proofs.Waiting.{open_ends, start_ends, unsettled_ends}
use Rattle.tptp_lexer.specs.declared.scan.Front.TheVariants.{Blanks, Open}
use Rattle.lexer_pieces.proofs.settle.settle.Goals as goal

-- the token lies within the text
fits : (c : goal.In-Token) → c.in-Token.len ≤ length c.args.text.now
fits c = (found_fits c.args.style c.args.text.now c.in-Token.kind c.in-Token.len c.requires (sym c.in-Token.ensures)).1

pub slice_bounds-is_settled-start : goal.slice_bounds-is_settled-start
slice_bounds-is_settled-start c = fits c

pub slice_bounds-is_settled-count : goal.slice_bounds-is_settled-count
slice_bounds-is_settled-count c = fits c

-- whether it is settled, as it is told
settled : (kind : Kind) (text : Text) (len : ℕ) (told : Bool) → told ≡ is_settled kind (take (length text - len) (drop len text)) → is_settled kind (drop len text) ≡ told
settled kind text len told is = ap (is_settled kind) (sym (part_all text len)) ∙ sym is

pub returns-in-Blanks : goal.returns-in-Blanks
returns-in-Blanks c =
    let e = sym c.in-Blanks.ensures in
    let says = says_of c.args.style c.args.text.now (Blanks c.in-Blanks.len) c.requires e in
    (says.1, says.2, λ at more. blanks_on c.args.style c.args.text.now more c.requires c.in-Blanks.len e at)

pub returns-then-is_settled : goal.returns-then-is_settled
returns-then-is_settled c =
    let e = sym c.in-Token.ensures in
    let within = found_fits c.args.style c.args.text.now c.in-Token.kind c.in-Token.len c.requires e in
    (within.0, within.1, λ at more. token_on c.args.style c.args.text.now more c.requires c.in-Token.kind c.in-Token.len e (settled_longest c.args.style c.args.text.now more c.in-Token.kind c.in-Token.len c.requires e (settled c.in-Token.kind c.args.text.now c.in-Token.len c.is_settled.result c.is_settled.ensures ∙ c.if-is_settled.true)) at)

pub returns-else-is_settled : goal.returns-else-is_settled
returns-else-is_settled c =
    unsettled_ends c.args.style c.args.text.now c.requires c.in-Token.kind c.in-Token.len (sym c.in-Token.ensures) (settled c.in-Token.kind c.args.text.now c.in-Token.len c.is_settled.result c.is_settled.ensures ∙ c.if-is_settled.false)

pub returns-in-Open : goal.returns-in-Open
returns-in-Open c = open_ends c.args.style c.args.text.now (says_of c.args.style c.args.text.now Open c.requires (sym c.in-Open.ensures))

pub returns-then-may_grow : goal.returns-then-may_grow
returns-then-may_grow c = start_ends c.args.style c.args.text.now (sym c.may_grow.ensures ∙ c.if-may_grow.true)

pub returns-else-may_grow : goal.returns-else-may_grow
returns-else-may_grow c = λ more. nothing_anyway c.args.style c.args.text.now c.requires (sym c.in-Nothing.ensures) (sym c.may_grow.ensures ∙ c.if-may_grow.false) more
