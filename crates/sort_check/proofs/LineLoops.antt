-- How the items of a text are taken one by one.
use Rattle.std.proofs.Common.{◌≡◌, ℕ, ◌+◌, ◌<◌, ◌≤◌, List, [], ◌∷◌, ◌++◌, length, drop, get_or, Option, Some, None, Ok, Err, refl, sym, ◌∙◌, ap, append_assoc}
use Rattle.std.proofs.lemmas.List.{append-nil, drop_all}
use Rattle.tptp_base.specs.declared.item.Item.{Item}
use Rattle.sort_check.specs.declared.fault.SortFault.{SortFault}
use Rattle.sort_check.specs.declared.line.Line.{Line}
use Rattle.sort_check.specs.declared.line.TextKind.{TextKind}
use Rattle.sort_check.specs.Outcomes.{Outcome, and_then, mapped}
use Rattle.sort_check.specs.Symbols.{Text}
use Rattle.sort_check.specs.Texts.{Declared, Reading, type_item, type_lines, line_item, with_line, lines_from}
use Rattle.sort_check.proofs.Loops.{at_member}

-- the type lines so far are taken
pub record TypesSoFar (items : List Item) (start : Declared) (i : ℕ) (d : Declared) : Type 0 where
  pub so_far : type_lines items start ≡ type_lines (drop i items) d

module _ (items : List Item) (start : Declared) (i : ℕ) (d : Declared) (x : Item) (lt : i < length items) (is : x ≡ get_or items i x) (before : TypesSoFar items start i d) where
  types_turning : type_lines items start ≡ and_then (type_item x d) (λ done e. type_lines (drop (i + 1) items) e)
  types_turning = before.so_far ∙ ap (λ (xs : List Item). type_lines xs d) (at_member items i x lt is)

  pub types_turn : (done : Unit {0}) (e : Declared) → type_item x d ≡ Ok (done, e) → TypesSoFar items start (i + 1) e
  types_turn done e k = record {
    so_far = types_turning ∙ ap (λ (o : Outcome SortFault Declared (Unit {0})). and_then o (λ done e. type_lines (drop (i + 1) items) e)) k;
  }

  pub types_fail : (f : SortFault) → type_item x d ≡ Err f → type_lines items start ≡ Err f
  types_fail f k = types_turning ∙ ap (λ (o : Outcome SortFault Declared (Unit {0})). and_then o (λ done e. type_lines (drop (i + 1) items) e)) k

pub types_end : (items : List Item) (start : Declared) (i : ℕ) (d : Declared) → length items ≤ i → TypesSoFar items start i d → type_lines items start ≡ Ok (tt, d)
types_end items start i d le before = before.so_far ∙ ap (λ (xs : List Item). type_lines xs d) (drop_all i items le)

abbrev pub behind : List Line → Outcome SortFault Reading (List Line) → Outcome SortFault Reading (List Line)
behind found o = mapped (λ ls. found ++ ls) o

behind_none : (o : Outcome SortFault Reading (List Line)) → o ≡ behind [] o
behind_none (Ok p) = refl
behind_none (Err e) = refl

behind_more : (found : List Line) (line : Option Line) (o : Outcome SortFault Reading (List Line)) → behind found (mapped (with_line line) o) ≡ behind (found ++ with_line line []) o
behind_more found (Some l) (Ok p) = ap (λ (ls : List Line). Ok (ls, p.1)) (sym (append_assoc found (l ∷ []) p.0))
behind_more found None (Ok p) = ap (λ (ls : List Line). Ok (ls ++ p.0, p.1)) (sym (append-nil found))
behind_more found line (Err e) = refl

module _ (kind : TextKind) (names : List Text) (items : List Item) (start : Reading) where
  -- the lines so far are found
  pub record LinesSoFar (found : List Line) (i : ℕ) (s : Reading) : Type 0 where
    pub lines_so_far : lines_from kind names 0 items start ≡ behind found (lines_from kind names i (drop i items) s)

  pub lines_start : LinesSoFar [] 0 start
  lines_start = record { lines_so_far = behind_none (lines_from kind names 0 items start) }

  module _ (found : List Line) (i : ℕ) (s : Reading) (x : Item) (lt : i < length items) (is : x ≡ get_or items i x) (before : LinesSoFar found i s) where
    lines_turning : lines_from kind names 0 items start ≡ behind found (and_then (line_item kind names i x s) (λ line t. mapped (with_line line) (lines_from kind names (i + 1) (drop (i + 1) items) t)))
    lines_turning = before.lines_so_far ∙ ap (λ (xs : List Item). behind found (lines_from kind names i xs s)) (at_member items i x lt is)

    pub lines_turn : (line : Option Line) (t : Reading) (more : List Line) → line_item kind names i x s ≡ Ok (line, t) → more ≡ found ++ with_line line [] → LinesSoFar more (i + 1) t
    lines_turn line t more k added = record {
      lines_so_far = lines_turning
          ∙ ap (λ (o : Outcome SortFault Reading (Option Line)). behind found (and_then o (λ line t. mapped (with_line line) (lines_from kind names (i + 1) (drop (i + 1) items) t)))) k
          ∙ behind_more found line (lines_from kind names (i + 1) (drop (i + 1) items) t)
          ∙ ap (λ (ls : List Line). behind ls (lines_from kind names (i + 1) (drop (i + 1) items) t)) (sym added);
    }

    pub lines_fail : (f : SortFault) → line_item kind names i x s ≡ Err f → lines_from kind names 0 items start ≡ Err f
    lines_fail f k = lines_turning ∙ ap (λ (o : Outcome SortFault Reading (Option Line)). behind found (and_then o (λ line t. mapped (with_line line) (lines_from kind names (i + 1) (drop (i + 1) items) t)))) k

  pub lines_end : (found : List Line) (i : ℕ) (s : Reading) → length items ≤ i → LinesSoFar found i s → lines_from kind names 0 items start ≡ Ok (found, s)
  lines_end found i s le before =
      before.lines_so_far
      ∙ ap (λ (xs : List Item). behind found (lines_from kind names i xs s)) (drop_all i items le)
      ∙ ap (λ (ls : List Line). Ok (ls, s)) (append-nil found)
