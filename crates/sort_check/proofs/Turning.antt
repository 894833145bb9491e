-- What items denote when a further one is taken behind them.
use Rattle.std.proofs.Common.{◌≡◌, ℕ, ◌+◌, ◌≤◌, length-append, Bool, true, false, not, cond, List, [], ◌∷◌, ◌++◌, length, take, Option, Some, None, Ok, Err, refl, sym, ◌∙◌, ap, subst, arith}
use Rattle.std.proofs.Math.Seq.{take-append_seam}
use Rattle.tptp_base.specs.declared.item.Item.{Item}
use Rattle.tptp_base.specs.declared.item.Item.TheVariants as it
use Rattle.tptp_base.specs.Roles.{is_typing}
use Rattle.fof_terms.specs.Vocabulary.{Vocabulary, IsVocabulary}
use Rattle.fof_terms.specs.declared.signature.Symbol.{Symbol}
use Rattle.sort_check.specs.declared.fault.SortFault.{SortFault}
use Rattle.sort_check.specs.declared.front.Extent.{Extent}
use Rattle.sort_check.specs.declared.line.Line.{Line}
use Rattle.sort_check.specs.declared.line.TextKind.TheVariants.{Problem}
use Rattle.sort_check.specs.declared.namesakes.Namesakes.{Namesakes}
use Rattle.sort_check.specs.declared.progress.Progress.{Progress}
use Rattle.sort_check.specs.code.Fronts.{front}
use Rattle.sort_check.specs.Namesakes.{Knows}
use Rattle.sort_check.specs.Outcomes.{Outcome, and_then, mapped}
use Rattle.sort_check.specs.Sorting.{GoesOn, Extends}
use Rattle.sort_check.specs.Symbols.{Text}
use Rattle.sort_check.specs.Texts.{Declared, Reading, at_line, type_item, type_lines, line_form, line_of, line_item, with_line, lines_from, only_vocabulary, denoted}
use Rattle.sort_check.specs.Turns.{first, kept, is_include, HaveNoInclude, AreDenoted}
use Rattle.sort_check.specs.Stages.{begin, behind_types, GiveNoLine, AreTyped, AreTypes, AreBehind, AreRead, IsRead, AreLines, AreMistyped, AreReadAgain}
use Rattle.sort_check.specs.code.Turns.{is_type_item, is_line_item}
use Rattle.sort_check.proofs.TermSorts.{grows_not, grows_on}

-- ---- type lines

abbrev Typing : Type 0
Typing = Outcome SortFault Declared (Unit {0})

typed_last : (o : Typing) → and_then o (λ done e. type_lines [] e) ≡ o
typed_last (Ok p) = refl
typed_last (Err f) = refl

typed_on : (items : List Item) (x : Item) → ((d : Declared) → type_lines (items ++ x ∷ []) d ≡ and_then (type_lines items d) (λ done e. type_item x e))
    → (o : Typing) → and_then o (λ done e. type_lines (items ++ x ∷ []) e) ≡ and_then (and_then o (λ done e. type_lines items e)) (λ done e. type_item x e)
typed_on items x more (Ok p) = more p.1
typed_on items x more (Err f) = refl

types_more : (items : List Item) (x : Item) (d : Declared) → type_lines (items ++ x ∷ []) d ≡ and_then (type_lines items d) (λ done e. type_item x e)
types_more [] x d = typed_last (type_item x d)
types_more (i ∷ items) x d = typed_on items x (types_more items x) (type_item i d)

types_go : (items : List Item) (x : Item) (e f : Declared) → type_lines items begin ≡ Ok (tt, e) → type_item x e ≡ Ok (tt, f) → type_lines (items ++ x ∷ []) begin ≡ Ok (tt, f)
types_go items x e f k m = types_more items x begin ∙ ap (λ (o : Typing). and_then o (λ done d. type_item x d)) k ∙ m

types_stop : (items : List Item) (x : Item) (e : Declared) (f : SortFault) → type_lines items begin ≡ Ok (tt, e) → type_item x e ≡ Err f → type_lines (items ++ x ∷ []) begin ≡ Err f
types_stop items x e f k m = types_more items x begin ∙ ap (λ (o : Typing). and_then o (λ done d. type_item x d)) k ∙ m

types_stay : (items : List Item) (x : Item) (f : SortFault) → type_lines items begin ≡ Err f → type_lines (items ++ x ∷ []) begin ≡ Err f
types_stay items x f k = types_more items x begin ∙ ap (λ (o : Typing). and_then o (λ done d. type_item x d)) k

-- an item that is no type line declares nothing
types_none : (x : Item) (d : Declared) → is_type_item x ≡ false → type_item x d ≡ Ok (tt, d)
types_none (it.Comment text) d not_so = refl
types_none (it.Include i) d not_so = refl
types_none (it.Formula a) d not_so = rw not_so refl

-- ---- the other lines

abbrev Found : Type 0
Found = Outcome SortFault Reading (Option Line)

abbrev Lines : Type 0
Lines = Outcome SortFault Reading (List Line)

in_front : (f : Option Line) (ls more : List Line) → with_line f (ls ++ more) ≡ with_line f ls ++ more
in_front (Some l) ls more = refl
in_front None ls more = refl

abbrev behind : List Line → Found → Lines
behind found o = mapped (λ line. found ++ with_line line []) o

behind_front : (f : Option Line) (found : List Line) (o : Found) → mapped (with_line f) (behind found o) ≡ behind (with_line f found) o
behind_front f found (Ok p) = ap (λ (ls : List Line). Ok (ls, p.1)) (in_front f found (with_line p.0 []))
behind_front f found (Err e) = refl

module _ (names : List Text) (x : Item) where
  abbrev last : ℕ → Lines → Lines
  last m o = and_then o (λ found t. behind found (line_item Problem names m x t))

  abbrev IsMore : ℕ → List Item → Type 0
  IsMore n items = (s : Reading) → lines_from Problem names n (items ++ x ∷ []) s ≡ last (n + length items) (lines_from Problem names n items s)

  none_yet : (n : ℕ) (o : Found) → and_then o (λ found t. mapped (with_line found) (lines_from Problem names (n + 1) [] t)) ≡ behind [] o
  none_yet n (Ok p) = refl
  none_yet n (Err e) = refl

  front_last : (m : ℕ) (f : Option Line) (o : Lines) → mapped (with_line f) (last m o) ≡ last m (mapped (with_line f) o)
  front_last m f (Ok p) = behind_front f p.0 (line_item Problem names m x p.1)
  front_last m f (Err e) = refl

  lines_on : (n : ℕ) (items : List Item) (m : ℕ) → m ≡ n + 1 + length items → IsMore (n + 1) items → (o : Found)
      → and_then o (λ found t. mapped (with_line found) (lines_from Problem names (n + 1) (items ++ x ∷ []) t)) ≡ last m (and_then o (λ found t. mapped (with_line found) (lines_from Problem names (n + 1) items t)))
  lines_on n items m same more (Ok p) =
      ap (mapped (with_line p.0)) (more p.1 ∙ ap (λ (k : ℕ). last k (lines_from Problem names (n + 1) items p.1)) (sym same))
      ∙ front_last m p.0 (lines_from Problem names (n + 1) items p.1)
  lines_on n items m same more (Err e) = refl

  lines_more : (n : ℕ) (items : List Item) → IsMore n items
  lines_more n [] s = none_yet n (line_item Problem names n x s) ∙ ap (λ (k : ℕ). behind [] (line_item Problem names k x s)) (let same : n ≡ n + length {A = Item} [] = omega arith in same)
  lines_more n (i ∷ items) s = lines_on n items (n + length (i ∷ items)) (omega arith) (lines_more (n + 1) items) (line_item Problem names n i s)

  -- from the first item on
  lines_all : (items : List Item) (s : Reading) → lines_from Problem names 0 (items ++ x ∷ []) s ≡ last (length items) (lines_from Problem names 0 items s)
  lines_all items s = lines_more 0 items s ∙ ap (λ (k : ℕ). last k (lines_from Problem names 0 items s)) (omega arith)

  lines_go : (items : List Item) (s t u : Reading) (found : List Line) (line : Option Line) → lines_from Problem names 0 items s ≡ Ok (found, t) → line_item Problem names (length items) x t ≡ Ok (line, u)
      → lines_from Problem names 0 (items ++ x ∷ []) s ≡ Ok (found ++ with_line line [], u)
  lines_go items s t u found line k m = lines_all items s ∙ ap (last (length items)) k ∙ ap (behind found) m

  lines_stop : (items : List Item) (s t : Reading) (found : List Line) (f : SortFault) → lines_from Problem names 0 items s ≡ Ok (found, t) → line_item Problem names (length items) x t ≡ Err f
      → lines_from Problem names 0 (items ++ x ∷ []) s ≡ Err f
  lines_stop items s t found f k m = lines_all items s ∙ ap (last (length items)) k ∙ ap (behind found) m

  lines_stay : (items : List Item) (s : Reading) (f : SortFault) → lines_from Problem names 0 items s ≡ Err f → lines_from Problem names 0 (items ++ x ∷ []) s ≡ Err f
  lines_stay items s f k = lines_all items s ∙ ap (last (length items)) k

-- an item that is no other formula gives no line
line_none : (names : List Text) (n : ℕ) (x : Item) (s : Reading) → is_line_item x ≡ false → line_item Problem names n x s ≡ Ok (None, s)
line_none names n (it.Comment text) s not_so = refl
line_none names n (it.Include i) s not_so = refl
line_none names n (it.Formula a) s not_so = by (is_typing a.role) not_so
  where
    by : (b : Bool) → not b ≡ false → ◌≡◌ {A = Found} (cond b (Ok (None, s)) (at_line a (mapped (λ form. Some (line_of n a form)) (line_form Problem names a s)))) (Ok (None, s))
    by true k = refl
    by false k = absurd (cc)

none_more : (items : List Item) (x : Item) → is_line_item x ≡ false → GiveNoLine items → GiveNoLine (items ++ x ∷ [])
none_more items x not_so none names n s =
    lines_more names x n items s ∙ ap (last names x (n + length items)) (none names n s) ∙ ap (behind []) (line_none names (n + length items) x s not_so)

-- a formula that is no type line
no_type : (x : Item) → is_line_item x ≡ true → is_type_item x ≡ false
no_type (it.Comment text) is = refl
no_type (it.Include i) is = refl
no_type (it.Formula a) is = by (is_typing a.role) is
  where
    by : (b : Bool) → not b ≡ true → b ≡ false
    by true k = absurd (cc)
    by false k = refl

-- ---- includes

whole_more : (items : List Item) (x : Item) → is_include x ≡ false → HaveNoInclude items → HaveNoInclude (items ++ x ∷ [])
whole_more [] x not_so whole = (not_so, tt)
whole_more (i ∷ items) x not_so whole = (whole.0, whole_more items x not_so whole.1)

-- ---- lines that are kept

kept_none : (keeps : Bool) → kept keeps [] ≡ []
kept_none true = refl
kept_none false = refl

kept_more : (keeps : Bool) (found more : List Line) → kept keeps found ++ kept keeps more ≡ kept keeps (found ++ more)
kept_more true found more = refl
kept_more false found more = refl

longer : (items : List Item) (x : Item) → length items + 1 ≡ length (items ++ x ∷ [])
longer items x = omega (arith, length-append items (x ∷ []))

-- ---- stages

pub begins : (p : Progress) (namesakes : Namesakes) → p.signature ≡ first → p.names ≡ [] → p.lines ≡ [] → p.conjectured ≡ false → p.number ≡ 0 → Knows namesakes p.signature.symbols → AreTypes [] p namesakes
begins p namesakes signature names lines conjectured number knows = record {
  typed = record { types = rw signature (rw names refl); knows = knows; whole = tt };
  no_line = λ names n s. refl;
  lines = lines;
  conjectured = conjectured;
  counted = number;
}

-- no formula is read yet
none_read : (items : List Item) (p : Progress) (namesakes : Namesakes) → AreTypes items p namesakes → AreRead p.signature items p
none_read items p namesakes so = record {
  found = [];
  reads = so.no_line p.names 0 (behind_types p.signature) ∙ ap (λ (b : Bool). Ok ([], record { vocabulary = p.signature; conjectured = b })) (sym so.conjectured);
  lines = so.lines ∙ sym (kept_none p.keeps);
  counted = so.counted;
}

pub lines_begin : (items : List Item) (p : Progress) (e : Extent) (namesakes : Namesakes) → AreTypes items p namesakes → IsVocabulary p.signature → e.sorts ≡ length p.signature.sorts → e.symbols ≡ length p.signature.symbols
    → AreLines items (record p { typed = e }) None
lines_begin items p e namesakes so vocabulary sorts symbols = record {
  behind = record { typed = p.signature; types = so.typed.types; vocabulary = vocabulary; more = grows_not p.signature; sorts = sorts; symbols = symbols; whole = so.typed.whole };
  read = let r = none_read items p namesakes so in record { found = r.found; reads = r.reads; lines = r.lines; counted = r.counted };
}

-- ---- type lines, in front and behind formulas

module _ (items : List Item) (x : Item) (p : Progress) (before : Namesakes) (so : AreTyped items p before) (whole : is_include x ≡ false) where
  pub declaration_goes : (q : Progress) (after : Namesakes) → type_item x (record { vocabulary = p.signature; names = p.names }) ≡ Ok (tt, record { vocabulary = q.signature; names = q.names })
      → Knows after q.signature.symbols → AreTyped (items ++ x ∷ []) q after
  declaration_goes q after k knows = record {
    types = types_go items x (record { vocabulary = p.signature; names = p.names }) (record { vocabulary = q.signature; names = q.names }) so.types k;
    knows = knows;
    whole = whole_more items x whole so.whole;
  }

  pub declaration_fails : (f : SortFault) → type_item x (record { vocabulary = p.signature; names = p.names }) ≡ Err f → AreMistyped (items ++ x ∷ []) f
  declaration_fails f k = record {
    types = types_stop items x (record { vocabulary = p.signature; names = p.names }) f so.types k;
    whole = whole_more items x whole so.whole;
  }

pub typing_goes : (items : List Item) (x : Item) (p n : Progress) (before after : Namesakes) → AreTypes items p before → is_line_item x ≡ false → AreTyped (items ++ x ∷ []) n after
    → n ≡ record p { signature = n.signature; names = n.names } → AreTypes (items ++ x ∷ []) (record n { number = n.number + 1 }) after
typing_goes items x p n before after so not_so typed same = record {
  typed = record { types = typed.types; knows = typed.knows; whole = typed.whole };
  no_line = none_more items x not_so so.no_line;
  lines = ap (λ (r : Progress). r.lines) same ∙ so.lines;
  conjectured = ap (λ (r : Progress). r.conjectured) same ∙ so.conjectured;
  counted = ap (λ (r : Progress). r.number + 1) same ∙ ap (λ (m : ℕ). m + 1) so.counted ∙ longer items x;
}

pub mistyped_stays : (items : List Item) (x : Item) (f : SortFault) → AreMistyped items f → is_include x ≡ false → AreMistyped (items ++ x ∷ []) f
mistyped_stays items x f so whole = record { types = types_stay items x f so.types; whole = whole_more items x whole so.whole }

taken_front : {X : Type 0} (front whole : List X) → GoesOn front whole → take (length front) whole ≡ front
taken_front front whole more = ap (take (length front)) more.1 ∙ take-append_seam front more.0

pair_is : {a b c d : ℕ} → a ≡ c → b ≡ d → ◌≡◌ {A = ℕ × ℕ} (a, b) (c, d)
pair_is {a} {b} {c} {d} one two = ap (λ (x : ℕ). (x, b)) one ∙ ap (λ (y : ℕ). (c, y)) two

-- What the type lines declared stands in front.
module _ (items : List Item) (p : Progress) (so : AreBehind items p) where
  pub sorts_in_front : p.typed.sorts ≤ length p.signature.sorts
  sorts_in_front = omega (arith, so.sorts, ap (λ (xs : List Text). length xs) so.more.sorts.1, length-append so.typed.sorts so.more.sorts.0)

  pub symbols_in_front : p.typed.symbols ≤ length p.signature.symbols
  symbols_in_front = omega (arith, so.symbols, ap (λ (xs : List Symbol). length xs) so.more.symbols.1, length-append so.typed.symbols so.more.symbols.0)

  front_is : front p.typed p.signature ≡ so.typed
  front_is =
      ap (λ (e : ℕ × ℕ). record { sorts = take e.0 p.signature.sorts; symbols = take e.1 p.signature.symbols }) (pair_is so.sorts so.symbols)
      ∙ ap (λ (xs : List Text). record { sorts = xs; symbols = take (length so.typed.symbols) p.signature.symbols }) (taken_front so.typed.sorts p.signature.sorts so.more.sorts)
      ∙ ap (λ (xs : List Symbol). record { sorts = so.typed.sorts; symbols = xs }) (taken_front so.typed.symbols p.signature.symbols so.more.symbols)

  pub front_whole : IsVocabulary (front p.typed p.signature)
  front_whole = subst IsVocabulary (sym front_is) so.vocabulary

  pub late_begins : (q : Progress) (namesakes : Namesakes) → q.signature ≡ front p.typed p.signature → q.names ≡ p.names → Knows namesakes q.signature.symbols → AreTyped items q namesakes
  late_begins q namesakes signature names knows = record {
    types = so.types ∙ ap (λ (v : Vocabulary). Ok (tt, record { vocabulary = v; names = p.names })) (sym (signature ∙ front_is)) ∙ ap (λ (ns : List Text). Ok (tt, record { vocabulary = q.signature; names = ns })) (sym names);
    knows = knows;
    whole = so.whole;
  }

-- ---- formulas

module _ (typed : Vocabulary) (items : List Item) (x : Item) (p q : Progress) (so : AreRead typed items p) (names : q.names ≡ p.names) where
  pub read_goes : (found : Option Line) → line_item Problem p.names p.number x (record { vocabulary = p.signature; conjectured = p.conjectured }) ≡ Ok (found, record { vocabulary = q.signature; conjectured = q.conjectured })
      → q.keeps ≡ p.keeps → q.lines ≡ p.lines ++ kept p.keeps (with_line found []) → q.number ≡ p.number + 1 → AreRead typed (items ++ x ∷ []) q
  read_goes found k keeps lines counted = record {
    found = so.found ++ with_line found [];
    reads = ap (λ (ns : List Text). lines_from Problem ns 0 (items ++ x ∷ []) (behind_types typed)) names
        ∙ lines_go p.names x items (behind_types typed) (record { vocabulary = p.signature; conjectured = p.conjectured }) (record { vocabulary = q.signature; conjectured = q.conjectured }) so.found found so.reads
        (ap (λ (n : ℕ). line_item Problem p.names n x (record { vocabulary = p.signature; conjectured = p.conjectured })) (sym so.counted) ∙ k);
    lines = lines ∙ ap (λ (ls : List Line). ls ++ kept p.keeps (with_line found [])) so.lines ∙ kept_more p.keeps so.found (with_line found []) ∙ ap (λ (b : Bool). kept b (so.found ++ with_line found [])) (sym keeps);
    counted = counted ∙ ap (λ (n : ℕ). n + 1) so.counted ∙ longer items x;
  }

  pub read_fails : (f : SortFault) → line_item Problem p.names p.number x (record { vocabulary = p.signature; conjectured = p.conjectured }) ≡ Err f → IsRead typed (items ++ x ∷ []) q (Some f)
  read_fails f k = ap (λ (ns : List Text). lines_from Problem ns 0 (items ++ x ∷ []) (behind_types typed)) names
      ∙ lines_stop p.names x items (behind_types typed) (record { vocabulary = p.signature; conjectured = p.conjectured }) so.found f so.reads
      (ap (λ (n : ℕ). line_item Problem p.names n x (record { vocabulary = p.signature; conjectured = p.conjectured })) (sym so.counted) ∙ k)

-- behind a fault
read_stays : (typed : Vocabulary) (items : List Item) (x : Item) (p : Progress) (f : SortFault) → IsRead typed items p (Some f) → IsRead typed (items ++ x ∷ []) p (Some f)
read_stays typed items x p f so = lines_stay p.names x items (behind_types typed) f so

-- One more item is read, whatever was declared.
abbrev pub ReadsOn : Item → Progress → Progress → Option SortFault → Type 0
ReadsOn x p q f = (typed : Vocabulary) (items : List Item) → AreRead typed items p → IsRead typed (items ++ x ∷ []) q f

module _ (items : List Item) (x : Item) (p q : Progress) (not_so : is_type_item x ≡ false) (whole : is_include x ≡ false) where
  behind_goes : AreBehind items p → q.names ≡ p.names → q.typed ≡ p.typed → Extends p.signature q.signature → AreBehind (items ++ x ∷ []) q
  behind_goes so names typed more = record {
    typed = so.typed;
    types = types_go items x (record { vocabulary = so.typed; names = p.names }) (record { vocabulary = so.typed; names = q.names }) so.types
        (types_none x (record { vocabulary = so.typed; names = p.names }) not_so ∙ ap (λ (ns : List Text). Ok (tt, record { vocabulary = so.typed; names = ns })) (sym names));
    vocabulary = so.vocabulary;
    more = grows_on so.typed p.signature q.signature so.more more;
    sorts = ap (λ (e : Extent). e.sorts) typed ∙ so.sorts;
    symbols = ap (λ (e : Extent). e.symbols) typed ∙ so.symbols;
    whole = whole_more items x whole so.whole;
  }

  pub formula_taken : (f : Option SortFault) → AreLines items p None → q.names ≡ p.names → q.typed ≡ p.typed → Extends p.signature q.signature → ReadsOn x p q f → AreLines (items ++ x ∷ []) q f
  unfolding behind_goes
  formula_taken f so names typed more reads = record { behind = behind_goes so.behind names typed more; read = reads so.behind.typed items so.read }

pub faulty_stays : (items : List Item) (x : Item) (p : Progress) (f : SortFault) → AreLines items p (Some f) → is_type_item x ≡ false → is_include x ≡ false → AreLines (items ++ x ∷ []) p (Some f)
unfolding behind_goes
faulty_stays items x p f so not_so whole = record {
  behind = behind_goes items x p p not_so whole so.behind refl refl (grows_not p.signature);
  read = read_stays so.behind.typed items x p f so.read;
}

pub line_is_no_type : (x : Item) → is_line_item x ≡ true → is_type_item x ≡ false
line_is_no_type x is = no_type x is

-- ---- items that are taken again

pub again_begins : (whole : List Item) (p : Progress) → type_lines whole begin ≡ Ok (tt, record { vocabulary = p.signature; names = p.names }) → p.conjectured ≡ false → p.number ≡ 0 → p.lines ≡ [] → AreReadAgain whole [] p None
again_begins whole p types conjectured number lines = record {
  typed = p.signature;
  types = types;
  read = record {
    found = [];
    reads = ap (λ (b : Bool). Ok ([], record { vocabulary = p.signature; conjectured = b })) (sym conjectured);
    lines = lines ∙ sym (kept_none p.keeps);
    counted = number;
  };
}

pub again_goes : (whole items : List Item) (x : Item) (p q : Progress) (f : Option SortFault) → AreReadAgain whole items p None → q.names ≡ p.names → ReadsOn x p q f → AreReadAgain whole (items ++ x ∷ []) q f
again_goes whole items x p q f so names reads = record {
  typed = so.typed;
  types = so.types ∙ ap (λ (ns : List Text). Ok (tt, record { vocabulary = so.typed; names = ns })) (sym names);
  read = reads so.typed items so.read;
}

pub again_stays : (whole items : List Item) (x : Item) (p : Progress) (f : SortFault) → AreReadAgain whole items p (Some f) → AreReadAgain whole (items ++ x ∷ []) p (Some f)
again_stays whole items x p f so = record { typed = so.typed; types = so.types; read = read_stays so.typed items x p f so.read }

-- ---- at the end

abbrev rest : List Item → Unit {0} → Declared → Outcome SortFault Vocabulary (List Line)
rest items done d = only_vocabulary (lines_from Problem d.names 0 items (behind_types d.vocabulary))

pub again_denotes : (items : List Item) (p : Progress) → AreReadAgain items items p None → AreDenoted (record { items = items; keeps = p.keeps }) (Ok (record { lines = p.lines; signature = p.signature }))
again_denotes items p so = (so.read.found, ap (λ (o : Typing). and_then o (rest items)) so.types ∙ ap only_vocabulary so.read.reads, so.read.lines)

pub again_refused : (items : List Item) (p : Progress) (f : SortFault) → AreReadAgain items items p (Some f) → denoted items first Problem ≡ Err f
again_refused items p f so = ap (λ (o : Typing). and_then o (rest items)) so.types ∙ ap only_vocabulary so.read

read_at_once : (items : List Item) (p : Progress) (f : Option SortFault) → AreLines items p f → AreReadAgain items items p f
read_at_once items p f so = record { typed = so.behind.typed; types = so.behind.types; read = so.read }

pub lines_denote : (items : List Item) (p : Progress) → AreLines items p None → AreDenoted (record { items = items; keeps = p.keeps }) (Ok (record { lines = p.lines; signature = p.signature }))
lines_denote items p so = again_denotes items p (read_at_once items p None so)

pub types_denote : (items : List Item) (p : Progress) (namesakes : Namesakes) → AreTypes items p namesakes → AreDenoted (record { items = items; keeps = p.keeps }) (Ok (record { lines = p.lines; signature = p.signature }))
types_denote items p namesakes so = again_denotes items p (record { typed = p.signature; types = so.typed.types; read = none_read items p namesakes so })

pub mistyped_denote : (items : List Item) (f : SortFault) → AreMistyped items f → denoted items first Problem ≡ Err f
mistyped_denote items f so = ap (λ (o : Typing). and_then o (rest items)) so.types

pub faulty_denote : (items : List Item) (p : Progress) (f : SortFault) → AreLines items p (Some f) → denoted items first Problem ≡ Err f
faulty_denote items p f so = again_refused items p f (read_at_once items p (Some f) so)
