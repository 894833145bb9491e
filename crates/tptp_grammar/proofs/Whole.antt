-- All tokens: what the parser's loop keeps, and what its answers say.
use Rattle.std.proofs.Common.{◌≡◌, Bool, true, false, if◌then◌else◌, ℕ, zero, suc, ◌+◌, ◌-◌, ◌≤◌, List, [], ◌∷◌, ◌++◌, length, Option, Some, Ok, Err, inl, inr, refl, sym, ◌∙◌, ap, subst, append_assoc, append-nil, length-append, arith}
use Rattle.first_fault.specs.Nesting.{plain, Within, FirstOver}
use Rattle.first_fault.specs.code.Reading.{Cause, Unexpected, TooDeep, next}
use Rattle.tptp_lexer.specs.declared.style.Style.{Style}
use Rattle.tptp_lexer.specs.declared.token.Token.{Token}
use Rattle.tptp_lexer.specs.declared.token.Token.TheVariants.{Comment}
use Rattle.tptp_base.specs.declared.place.Place.{Place}
use Rattle.tptp_base.specs.declared.item.Item.{Item}
use Rattle.tptp_base.specs.declared.item.Item.TheVariants as it
use Rattle.tptp_grammar.specs.declared.stop.Stop.{Stop}
use Rattle.tptp_grammar.specs.declared.stop.Stop.TheVariants as stop
use Rattle.tptp_grammar.specs.declared.fault.GrammarFault.TheVariants as fault
use Rattle.tptp_grammar.specs.Tokens.{Tokens}
use Rattle.tptp_grammar.specs.Solid.{Placed, is_remark, solid}
use Rattle.tptp_lexer.specs.Dots.{is_comment, through_dot, behind_dot}
use Rattle.tptp_grammar.specs.Files.{IsFile, Spells, SpellsWithin, IsPossible, IsPossibleWithin}
use Rattle.tptp_grammar.specs.Faults.{max_nesting, is_outside, IsImpossible, IsUnfinished, IsDeep}
use Rattle.tptp_grammar.specs.code.Dots.{entry_behind}
use Rattle.tptp_grammar.specs.code.Outcomes.{Fails}
use Rattle.tptp_grammar.specs.code.ReadItems.{item}
use Rattle.tptp_grammar.specs.code.ReadFile.{FileOutcome, with_item, file, items_of}
use Rattle.tptp_grammar.specs.Answers as a
use Rattle.tptp_grammar.specs.code.Answers as a_code
use Rattle.tptp_grammar.proofs.Solids.{BeginsSolid}
use Rattle.tptp_grammar.proofs.Dots.{solid_split, behind_split, read_through, fails_through, left_fits}
use Rattle.tptp_grammar.proofs.Overs.{not_over}
use Rattle.tptp_grammar.proofs.ExactFile.{solid_kept, solid_dropped, comment_text, found_file, started_comment, item_fails}
use Rattle.tptp_grammar.proofs.FirstFaults.{FileFault, FileSays, file_says}

-- ---- what the loop keeps

abbrev pub with_items : List Item → FileOutcome → FileOutcome
with_items found (Ok items) = Ok (found ++ items)
with_items found (Err f) = Err f

with_none : (o : FileOutcome) → with_items [] o ≡ o
with_none (Ok items) = refl
with_none (Err f) = refl

with_one_more : (found : List Item) (i : Item) (o : FileOutcome) → with_items found (with_item i o) ≡ with_items (found ++ (i ∷ [])) o
with_one_more found i (Ok items) = ap Ok (sym (append_assoc found (i ∷ []) items))
with_one_more found i (Err f) = refl

-- the items so far, and what is still to be read, are the whole
pub record Kept (style : Style) (all : List Placed) (found : List Item) (ts : List Placed) : Type 0 where
  pub before : List Placed
  pub text : all ≡ before ++ ts
  pub read : file style max_nesting all ≡ with_items found (file style max_nesting ts)

pub kept_first : (style : Style) (all : List Placed) → Kept style all [] all
kept_first style all = record { before = []; text = refl; read = sym (with_none (file style max_nesting all)) }

no_more : (style : Style) → file style max_nesting [] ≡ Ok []
unfolding file
no_more style = refl

pub kept_last : (style : Style) (all : List Placed) (found : List Item) (ts : List Placed) → ts ≡ [] → Kept style all found ts → file style max_nesting all ≡ Ok found
kept_last style all found ts is h = h.read ∙ ap (λ l. with_items found (file style max_nesting l)) is ∙ ap (with_items found) (no_more style) ∙ ap Ok (append-nil found)

starts_item : (style : Style) (t : Token) (place : Place) (rest : List Placed) (i : Item) (new : List Placed) → is_comment t ≡ false → a_code.Starts style t place rest i new → a_code.ItemRead style t place rest i new
starts_item style (Comment text) place rest i new e h = cc
starts_item style t place rest i new e h = h

pub fails_item : (style : Style) (t : Token) (place : Place) (rest : List Placed) (s : Stop) (taken : ℕ) → is_comment t ≡ false → a_code.StartFails style t place rest s taken → a_code.Refuses style t place rest s taken
fails_item style (Comment text) place rest s taken e h = cc
fails_item style t place rest s taken e h = h

module _ (style : Style) (all : List Placed) (found : List Item) (t : Token) (place : Place) (ts us : List Placed) (is : us ≡ (t, place) ∷ ts) (h : Kept style all found us) where
  whole : file style max_nesting all ≡ with_items found (file style max_nesting ((t, place) ∷ ts))
  whole = h.read ∙ ap (λ l. with_items found (file style max_nesting l)) is

  -- behind so much of what is still to be read
  goes_on : (i : Item) (front new : List Placed) → ts ≡ front ++ new → file style max_nesting ((t, place) ∷ ts) ≡ with_item i (file style max_nesting new) → Kept style all (found ++ (i ∷ [])) new
  goes_on i front new text e = record {
    before = h.before ++ ((t, place) ∷ front);
    text = h.text ∙ ap (λ l. h.before ++ l) (is ∙ ap (λ l. (t, place) ∷ l) text) ∙ sym (append_assoc h.before ((t, place) ∷ front) new);
    read = whole ∙ ap (with_items found) e ∙ with_one_more found i (file style max_nesting new);
  }

  start_at : (b : Bool) → is_comment t ≡ b → (i : Item) (new : List Placed) → a_code.Starts style t place ts i new → Kept style all (found ++ (i ∷ [])) new
  start_at true e i new k =
      let c = comment_text t e in
      let s : (i ≡ it.Comment c.0) × (new ≡ ts) = subst (λ u. a_code.Starts style u place ts i new) c.1 k in
      let one : file style max_nesting ((t, place) ∷ ts) ≡ with_item i (file style max_nesting ts) =
      ap (λ u. file style max_nesting ((u, place) ∷ ts)) c.1 ∙ started_comment style max_nesting c.0 place ts ∙ ap (λ j. with_item j (file style max_nesting ts)) (sym s.0) in
      subst (Kept style all (found ++ (i ∷ []))) (sym s.1) (goes_on i [] ts refl one)
  start_at false e i new k =
      let (last, left, read) = starts_item style t place ts i new e k in
      let (front, text) = behind_split ts in
      subst (Kept style all (found ++ (i ∷ []))) (sym last) (goes_on i front (behind_dot ts) text (read_through style max_nesting t place ts e i left read))

  -- between items
  pub kept_start : (i : Item) (new : List Placed) → a_code.Starts style t place ts i new → Kept style all (found ++ (i ∷ [])) new
  kept_start i new k = start_at (is_comment t) refl i new k

-- what a reader says that stops among the tokens that it was given
module _ (style : Style) (t : Token) (place : Place) (ts : List Placed) (left : List Token) (given size taken : ℕ) (all : given ≡ length (t ∷ through_dot ts)) (rest : size ≡ length left) (count : taken ≡ given - size) where
  pub refuses : (reason : Stop) → Fails (item style max_nesting place (t ∷ through_dot ts)) reason left → a_code.Refuses style t place ts reason taken
  refuses stop.Memory k = inl refl
  refuses stop.Unexpected k = let fits = left_fits style max_nesting t place ts Unexpected left k in inr (record { left = left; fails = k; count = omega (arith, fits, count, all, rest) })
  refuses stop.TooDeep k = let fits = left_fits style max_nesting t place ts TooDeep left k in inr (record { left = left; fails = k; count = omega (arith, fits, count, all, rest) })

-- ---- where the fault stands

entry_dropped : (count : ℕ) (entry : Placed) (rest : List Placed) → is_remark entry ≡ true → entry_behind count (entry ∷ rest) ≡ entry_behind count rest
entry_dropped zero entry rest e = ap (λ b. if b then entry_behind zero rest else Some entry) e
entry_dropped (suc count) entry rest e = ap (λ b. entry_behind (if b then suc count else count) rest) e

entry_passed : (count : ℕ) (entry : Placed) (rest : List Placed) → is_remark entry ≡ false → entry_behind (suc count) (entry ∷ rest) ≡ entry_behind count rest
entry_passed count entry rest e = ap (λ b. entry_behind (if b then suc count else count) rest) e

entry_here : (rest : List Placed) → BeginsSolid rest → entry_behind zero rest ≡ next rest
entry_here [] h = refl
entry_here (entry ∷ rest) h = ap (λ b. if b then entry_behind zero rest else Some entry) h

-- behind more tokens
later_at : (b : Bool) (entry : Placed) (front rest : List Placed) (count : ℕ) → is_remark entry ≡ b → entry_behind (length (solid front) + count) (front ++ rest) ≡ entry_behind count rest
    → entry_behind (length (solid (entry ∷ front)) + count) (entry ∷ (front ++ rest)) ≡ entry_behind count rest
later_at true entry front rest count e h =
    ap (λ n. entry_behind (n + count) (entry ∷ (front ++ rest))) (ap length (solid_dropped entry.0 entry.1 front e)) ∙ entry_dropped (length (solid front) + count) entry (front ++ rest) e ∙ h
later_at false entry front rest count e h =
    let more : length (solid (entry ∷ front)) + count ≡ suc (length (solid front) + count) = omega (arith, ap length (solid_kept entry.0 entry.1 front e)) in
    ap (λ n. entry_behind n (entry ∷ (front ++ rest))) more ∙ entry_passed (length (solid front) + count) entry (front ++ rest) e ∙ h

entry_later : (front rest : List Placed) (count : ℕ) → entry_behind (length (solid front) + count) (front ++ rest) ≡ entry_behind count rest
entry_later [] rest count = let none : 0 + count ≡ count = omega arith in ap (λ n. entry_behind n rest) none
entry_later (entry ∷ front) rest count = later_at (is_remark entry) entry front rest count refl (entry_later front rest count)

both_at : (b : Bool) (entry : Placed) (front rest : List Placed) → is_remark entry ≡ b → solid (front ++ rest) ≡ solid front ++ solid rest → solid (entry ∷ (front ++ rest)) ≡ solid (entry ∷ front) ++ solid rest
both_at true entry front rest e h = solid_dropped entry.0 entry.1 (front ++ rest) e ∙ h ∙ ap (λ l. l ++ solid rest) (sym (solid_dropped entry.0 entry.1 front e))
both_at false entry front rest e h = solid_kept entry.0 entry.1 (front ++ rest) e ∙ ap (λ l. entry.0 ∷ l) h ∙ ap (λ l. l ++ solid rest) (sym (solid_kept entry.0 entry.1 front e))

solid_both : (front rest : List Placed) → solid (front ++ rest) ≡ solid front ++ solid rest
solid_both [] rest = refl
solid_both (entry ∷ front) rest = both_at (is_remark entry) entry front rest refl (solid_both front rest)

solid_length : (front rest : List Placed) → length (solid (front ++ rest)) ≡ length (solid front) + length (solid rest)
solid_length front rest = ap length (solid_both front rest) ∙ length-append (solid front) (solid rest)

pub solid_longer : (front rest : List Placed) → length (solid rest) ≤ length (solid (front ++ rest))
solid_longer front rest = omega (arith, solid_length front rest)

-- ---- what the answers say

-- all tokens are not read, and these are left, unless memory runs out
abbrev pub Stopped : FileOutcome → Stop → List Token → Type 0
Stopped outcome stop.Memory left = Unit {0}
Stopped outcome stop.Unexpected left = outcome ≡ Err (Unexpected, left)
Stopped outcome stop.TooDeep left = outcome ≡ Err (TooDeep, left)

abbrev pub cause_of : FileOutcome → Cause
cause_of (Ok items) = Unexpected
cause_of (Err f) = f.0

module _ (style : Style) (room : ℕ) (items : List Item) (raw : List Placed) (us : Tokens) (d : IsFile style items raw us) where
  spelled_not_unexpected : (rest : List Token) → file style room raw ≡ Err (Unexpected, rest) → ⊥
  spelled_not_unexpected rest e = elim (found_file style room d) [
    | inl h ↦ (let same : ◌≡◌ {A = FileOutcome} (Ok items) (Err (Unexpected, rest)) = sym h.1 ∙ e in cc)
    | inr h ↦ (let same : ◌≡◌ {A = FileOutcome} (Err (TooDeep, plain h.0)) (Err (Unexpected, rest)) = sym h.2 ∙ e in let causes : TooDeep ≡ Unexpected = ap cause_of same in cc)
  ]

  pub within_read : Within room us → file style room raw ≡ Ok items
  within_read w = elim (found_file style room d) [ inl h ↦ h.1 | inr h ↦ absurd (not_over h.1 w) ]

  pub deep_refused : (over : Tokens) → FirstOver room us over → (rest : Tokens) × (file style room raw ≡ Err (TooDeep, plain rest))
  deep_refused over k = elim (found_file style room d) [ inl h ↦ absurd (not_over k h.0) | inr h ↦ (h.0, h.2) ]

pub ok_says : (style : Style) (raw : List Placed) (found : List Item) → file style max_nesting raw ≡ Ok found → SpellsWithin style max_nesting found raw
ok_says style raw found e = subst (FileSays style max_nesting raw) e (file_says style max_nesting raw)

module _ (style : Style) (raw : List Placed) (end : Place) where
  module _ (left : List Token) (e : file style max_nesting raw ≡ Err (Unexpected, left)) (h : FileFault style max_nesting raw Unexpected left) where
    possible_front : IsPossibleWithin style max_nesting h.front
    possible_front = record { more = h.more; items = h.items; before = h.seen; later = h.later; spells = h.spells; same = h.same; within = h.within }

    impossible_after : (x : Placed) (others : List Placed) → h.rest ≡ x ∷ others → IsPossible style (h.front ++ (x ∷ [])) → ⊥
    impossible_after x others is p =
        let again = h.again (x ∷ p.0) (sym (ap next is)) in
        let same : file style max_nesting ((h.front ++ (x ∷ [])) ++ p.0) ≡ Err (Unexpected, solid (x ∷ p.0)) = ap (file style max_nesting) (append_assoc h.front (x ∷ []) p.0) ∙ again in
        spelled_not_unexpected style max_nesting p.1 ((h.front ++ (x ∷ [])) ++ p.0) p.2.0 p.2.1 (solid (x ∷ p.0)) same

    token_by : (x : Placed) (others : List Placed) → h.rest ≡ x ∷ others → IsImpossible style max_nesting raw x.0 x.1
    token_by x others is = record { front = h.front; rest = others; text = h.text ∙ ap (λ l. h.front ++ l) is; possible = possible_front; impossible = impossible_after x others is }

    outside_by : (x : Placed) (others : List Placed) → h.rest ≡ x ∷ others → (b : Bool) → is_outside x.0 ≡ b → a.FaultIs style raw end (if b then fault.Profile x.1 else fault.Token x.1)
    outside_by x others is true k = (x.0, k, token_by x others is)
    outside_by x others is false k = (x.0, k, token_by x others is)

    end_by : h.rest ≡ [] → IsUnfinished style max_nesting raw
    end_by is =
        let whole : raw ≡ h.front = h.text ∙ ap (λ l. h.front ++ l) is ∙ append-nil h.front in
        record { possible = subst (IsPossibleWithin style max_nesting) (sym whole) possible_front; nothing = λ items s. spelled_not_unexpected style max_nesting items raw s.0 s.1 left e }

    unexpected_by : (rest : List Placed) → h.rest ≡ rest → a.FaultIs style raw end (a_code.refusal_at (next rest) end)
    unexpected_by [] is = (refl, end_by is)
    unexpected_by (x ∷ others) is = outside_by x others is (is_outside x.0) refl

  deep_by : (left : List Token) → (h : FileFault style max_nesting raw TooDeep left) → a.FaultIs style raw end (a_code.depth_at (next h.rest) end)
  deep_by left h =
      let o = h.over in
      let deep : IsDeep style max_nesting raw o.place = record {
        front = h.front;
        token = o.token;
        rest = o.others;
        text = h.text ∙ ap (λ l. h.front ++ l) o.rest_is;
        more = o.others_more;
        items = h.items;
        before = h.seen;
        level = o.level;
        later = o.others_later;
        spells = subst (λ l. IsFile style h.items (h.front ++ ((o.token, o.place) ∷ o.others_more)) (h.seen ++ l)) o.later_is (subst (λ l. IsFile style h.items (h.front ++ l) (h.seen ++ h.later)) o.more_is h.spells);
        same = h.same;
        within = h.within;
        deep = o.deep;
      } in
      subst (λ r. a.FaultIs style raw end (a_code.depth_at (next r) end)) (sym o.rest_is) deep

  -- where a part of the tokens leads to the fault
  entry_is : (cause : Cause) (left : List Token) (before ts : List Placed) (taken : ℕ) → raw ≡ before ++ ts → taken + length left ≡ length (solid ts) → (h : FileFault style max_nesting raw cause left) → entry_behind taken ts ≡ next h.rest
  entry_is cause left before ts taken text count h =
      let both : length (solid before) + length (solid ts) ≡ length (solid h.front) + length (solid h.rest) = sym (solid_length before ts) ∙ ap (λ l. length (solid l)) (sym text ∙ h.text) ∙ solid_length h.front h.rest in
      let same : length (solid before) + taken ≡ length (solid h.front) + 0 = omega (arith, both, count, ap length h.left_is) in
      sym (entry_later before ts taken) ∙ ap (entry_behind (length (solid before) + taken)) (sym text ∙ h.text) ∙ ap (λ n. entry_behind n (h.front ++ h.rest)) same ∙ entry_later h.front h.rest 0 ∙ entry_here h.rest h.begins

  pub fault_says : (s : Stop) (left : List Token) (before ts : List Placed) (taken : ℕ) → raw ≡ before ++ ts → taken + length left ≡ length (solid ts) → Stopped (file style max_nesting raw) s left
      → a.FaultIs style raw end (a_code.fault_of s (entry_behind taken ts) end)
  fault_says stop.Memory left before ts taken text count h = tt
  fault_says stop.Unexpected left before ts taken text count e =
      let f : FileFault style max_nesting raw Unexpected left = subst (FileSays style max_nesting raw) e (file_says style max_nesting raw) in
      subst (λ o. a.FaultIs style raw end (a_code.refusal_at o end)) (sym (entry_is Unexpected left before ts taken text count f)) (unexpected_by left e f f.rest refl)
  fault_says stop.TooDeep left before ts taken text count e =
      let f : FileFault style max_nesting raw TooDeep left = subst (FileSays style max_nesting raw) e (file_says style max_nesting raw) in
      subst (λ o. a.FaultIs style raw end (a_code.depth_at o end)) (sym (entry_is TooDeep left before ts taken text count f)) (deep_by left f)

  -- no more tokens are left than there are
  pub left_within : (cause : Cause) (left : List Token) → file style max_nesting raw ≡ Err (cause, left) → length left ≤ length (solid raw)
  left_within cause left e =
      let f : FileFault style max_nesting raw cause left = subst (FileSays style max_nesting raw) e (file_says style max_nesting raw) in
      omega (arith, ap length f.left_is, ap (λ l. length (solid l)) f.text, solid_length f.front f.rest)

module _ (style : Style) (all : List Placed) (end : Place) (found : List Item) (t : Token) (place : Place) (ts us : List Placed) (is : us ≡ (t, place) ∷ ts) (h : Kept style all found us) where
  pub file_stops : is_comment t ≡ false → (s : Stop) (left : List Token) → Fails (item style max_nesting place (t ∷ through_dot ts)) s left → Stopped (file style max_nesting all) s (left ++ solid (behind_dot ts))
  file_stops e stop.Memory left k = tt
  file_stops e stop.Unexpected left k = whole style all found t place ts us is h ∙ ap (with_items found) (item_fails style max_nesting t place ts (Unexpected, left ++ solid (behind_dot ts)) e (fails_through style max_nesting t place ts Unexpected left k))
  file_stops e stop.TooDeep left k = whole style all found t place ts us is h ∙ ap (with_items found) (item_fails style max_nesting t place ts (TooDeep, left ++ solid (behind_dot ts)) e (fails_through style max_nesting t place ts TooDeep left k))

  item_stops : is_comment t ≡ false → (s : Stop) (taken : ℕ) → a_code.ItemFails style t place ts s taken → a.FaultIs style all end (a_code.fault_of s (entry_behind taken us) end)
  item_stops e s taken k =
      let whole_item : solid us ≡ t ∷ (through_dot ts ++ solid (behind_dot ts)) = ap solid is ∙ solid_kept t place ts e ∙ ap (λ l. t ∷ l) (solid_split ts) in
      let count = k.count in
      fault_says style all end s (k.left ++ solid (behind_dot ts)) h.before us taken h.text
      (omega (arith, count, ap length whole_item, length-append (through_dot ts) (solid (behind_dot ts)), length-append k.left (solid (behind_dot ts))))
      (file_stops e s k.left k.fails)

  no_memory : (s : Stop) (o : Option Placed) → s ≡ stop.Memory → a.FaultIs style all end (a_code.fault_of s o end)
  no_memory s o e = subst (λ q. a.FaultIs style all end (a_code.fault_of q o end)) (sym e) tt

  refused_at : is_comment t ≡ false → (s : Stop) (taken : ℕ) → a_code.Refuses style t place ts s taken → a.FaultIs style all end (a_code.fault_of s (entry_behind taken us) end)
  refused_at e s taken (inl k) = no_memory s (entry_behind taken us) k
  refused_at e s taken (inr k) = item_stops e s taken k

  stop_at : (b : Bool) → is_comment t ≡ b → (s : Stop) (taken : ℕ) → a_code.StartFails style t place ts s taken → a.FaultIs style all end (a_code.fault_of s (entry_behind taken us) end)
  stop_at true e s taken k = let c = comment_text t e in no_memory s (entry_behind taken us) (subst (λ u. a_code.StartFails style u place ts s taken) c.1 k)
  stop_at false e s taken k = refused_at e s taken (fails_item style t place ts s taken e k)

  -- the fault of an item that is not read is the fault of the whole
  pub stops : (s : Stop) (taken : ℕ) → a_code.StartFails style t place ts s taken → a.FaultIs style all end (a_code.fault_of s (entry_behind taken us) end)
  stops s taken k = stop_at (is_comment t) refl s taken k

-- ---- the tokens spell at most one list

deepest : Tokens → ℕ
deepest [] = 0
deepest (t ∷ ts) = t.1 + deepest ts

within_more : (m n : ℕ) (ts : Tokens) → m ≤ n → Within m ts → Within n ts
within_more m n [] le h = tt
within_more m n (t ∷ ts) le h = (omega (arith, h.0), within_more m n ts le h.1)

within_deepest : (ts : Tokens) → Within (deepest ts) ts
unfolding deepest
within_deepest [] = tt
within_deepest (t ∷ ts) = (omega arith, within_more (deepest ts) (t.1 + deepest ts) ts (omega arith) (within_deepest ts))

pub one_list : (style : Style) (raw : List Placed) (first second : List Item) → Spells style first raw → Spells style second raw → first ≡ second
one_list style raw first second s t =
    let room = deepest s.0 + deepest t.0 in
    let here = within_read style room first raw s.0 s.1 (within_more (deepest s.0) room s.0 (omega arith) (within_deepest s.0)) in
    let there = within_read style room second raw t.0 t.1 (within_more (deepest t.0) room t.0 (omega arith) (within_deepest t.0)) in
    (let same : ◌≡◌ {A = FileOutcome} (Ok first) (Ok second) = sym here ∙ there in ap items_of same)
