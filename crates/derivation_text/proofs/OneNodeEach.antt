-- A derivation has a node for each of its lines.
use Rattle.std.proofs.Common.{◌≡◌, ℕ, ◌+◌, Bool, true, false, cond, List, [], ◌∷◌, length, Option, Some, None, Ok, Err, refl, sym, ◌∙◌, ap, arith}
use Rattle.std.specs.Bool.{beq}
use Rattle.tptp_base.specs.declared.name.Name.{Name}
use Rattle.tptp_base.specs.Roles.{is_typing}
use Rattle.tptp_base.specs.declared.item.Annotated.{Annotated}
use Rattle.tptp_base.specs.declared.item.Item.{Item}
use Rattle.tptp_base.specs.declared.item.Item.TheVariants as it
use Rattle.fof_terms.specs.Vocabulary.{Vocabulary}
use Rattle.fof_terms.specs.declared.form.Form.{Form}
use Rattle.sort_check.specs.declared.fault.SortRule.{SortRule}
use Rattle.sort_check.specs.declared.fault.SortFault.{SortFault}
use Rattle.sort_check.specs.declared.line.Line.{Line}
use Rattle.sort_check.specs.declared.line.TextKind.{TextKind}
use Rattle.sort_check.specs.Outcomes.{Outcome, mapped}
use Rattle.sort_check.specs.Symbols.{Text}
use Rattle.sort_check.specs.Texts.{Declared, Reading, at_line, line_of, line_form, line_item, with_line, lines_from, type_lines, only_vocabulary, denoted}
use Rattle.sort_check.proofs.Stepping.{at_ok, then_ok, mapped_ok}
use Rattle.tstp_graph.specs.declared.shape.Node.{Node}
use Rattle.tstp_graph.specs.Lines.{formula_of, with_formula_name, names_in}
use Rattle.tstp_graph.specs.Meaning.{Means}
use Rattle.tstp_graph.specs.Nodes.{nodes_of}
use Rattle.tstp_graph.proofs.OneNodeEach.{one_node_each}

abbrev pub has : {X : Type 0} → Option X → Bool
has None = false
has (Some x) = true

-- ---- a formula that is a line denotes something

some_line : ℕ → Annotated → Form → Option Line
some_line number a form = Some (line_of number a form)

at_has : (number : ℕ) (a : Annotated) (o : Outcome SortRule Reading Form) (found : Option Line) (t : Reading) → at_line a (mapped (λ form. Some (line_of number a form)) o) ≡ Ok (found, t) → has found ≡ true
at_has number a (Ok p) found t e = at_ok {E = SortFault} (λ (x : Option Line) (u : Reading). has x ≡ true) (Some (line_of number a p.0)) found p.1 t e refl
at_has number a (Err rule) found t e = absurd cc

none_has : (s t : Reading) (found : Option Line) → ◌≡◌ {A = Outcome SortFault Reading (Option Line)} (Ok (None, s)) (Ok (found, t)) → has found ≡ false
none_has s t found e = at_ok {E = SortFault} (λ (x : Option Line) (u : Reading). has x ≡ false) None found s t e refl

-- an item is a line of the derivation exactly where it gives one
alike : (kind : TextKind) (names : List Text) (place : ℕ) (i : Item) (s t : Reading) (found : Option Line) → line_item kind names place i s ≡ Ok (found, t) → has (formula_of false i) ≡ has found
alike kind names place (it.Comment text) s t found k = sym (none_has s t found k)
alike kind names place (it.Include i) s t found k = sym (none_has s t found k)
alike kind names place (it.Formula a) s t found k = by (is_typing a.role) k
  where
    by : (b : Bool) → ◌≡◌ {A = Outcome SortFault Reading (Option Line)} (cond b (Ok (None, s)) (at_line a (mapped (λ form. Some (line_of place a form)) (line_form kind names a s)))) (Ok (found, t)) → has (cond (beq b false) (Some a) None) ≡ has found
    by true k = sym (none_has s t found k)
    by false k = sym (at_has place a (line_form kind names a s) found t k)

-- ---- as many nodes as lines

no_lines : (s t : Reading) (lines : List Line) → ◌≡◌ {A = Outcome SortFault Reading (List Line)} (Ok ([], s)) (Ok (lines, t)) → length lines ≡ 0
no_lines s t lines e = at_ok {E = SortFault} (λ (xs : List Line) (u : Reading). length xs ≡ 0) [] lines s t e refl

line_counts : (found : Option Line) (lines : List Line) → has found ≡ true → length (with_line found lines) ≡ length lines + 1
line_counts (Some l) lines e = omega arith
line_counts None lines e = absurd cc

no_line_counts : (found : Option Line) (lines : List Line) → has found ≡ false → length (with_line found lines) ≡ length lines
no_line_counts (Some l) lines e = absurd cc
no_line_counts None lines e = refl

one_more : (line : Option Annotated) (found : Option Line) (names : List Name) (lines : List Line) → has line ≡ has found → length names ≡ length lines → length (with_formula_name line names) ≡ length (with_line found lines)
one_more None found names lines same count = count ∙ sym (no_line_counts found lines (sym same))
one_more (Some a) found names lines same count = omega (arith, count, line_counts found lines (sym same))

counted : (kind : TextKind) (names : List Text) (place : ℕ) (items : List Item) (s t : Reading) (lines : List Line) → lines_from kind names place items s ≡ Ok (lines, t) → length (names_in false items) ≡ length lines
counted kind names place [] s t lines k = sym (no_lines s t lines k)
counted kind names place (i ∷ items) s t lines k =
    let parts = then_ok (line_item kind names place i s) (λ found u. mapped (with_line found) (lines_from kind names (place + 1) items u)) lines t k in
    let rest = mapped_ok (with_line parts.0) (lines_from kind names (place + 1) items parts.1) lines t parts.3 in
    one_more (formula_of false i) parts.0 (names_in false items) rest.0 (alike kind names place i s parts.1 parts.0 parts.2) (counted kind names (place + 1) items parts.1 t rest.0 rest.1) ∙ ap length rest.2

only_ok : (o : Outcome SortFault Reading (List Line)) (lines : List Line) (w : Vocabulary) → only_vocabulary o ≡ Ok (lines, w) → (t : Reading) × (o ≡ Ok (lines, t))
only_ok (Err x) lines w e = absurd cc
only_ok (Ok p) lines w e = at_ok {E = SortFault} (λ (ls : List Line) (u : Vocabulary). (t : Reading) × (◌≡◌ {A = Outcome SortFault Reading (List Line)} (Ok p) (Ok (ls, t)))) p.0 lines p.1.vocabulary w e (p.1, refl)

pub as_many : (means : Means) (kind : TextKind) (items : List Item) (v w : Vocabulary) (nodes : List Node) (lines : List Line)
    → nodes_of means items ≡ Ok nodes → denoted items v kind ≡ Ok (lines, w) → length nodes ≡ length lines
as_many means kind items v w nodes lines e k =
    let start : Declared = record { vocabulary = v; names = [] } in
    let parts = then_ok (type_lines items start) (λ done d. only_vocabulary (lines_from kind d.names 0 items (record { vocabulary = d.vocabulary; conjectured = false }))) lines w k in
    let begun : Reading = record { vocabulary = parts.1.vocabulary; conjectured = false } in
    let inner = only_ok (lines_from kind parts.1.names 0 items begun) lines w parts.3 in
    one_node_each means [] 0 items nodes e ∙ counted kind parts.1.names 0 items begun inner.0 lines inner.1
