-- Items have one answer.
use Rattle.std.proofs.Common.{◌≡◌, ℕ, ◌+◌, Bool, true, false, if◌then◌else◌, List, [], ◌∷◌, Option, Some, None, Ok, Err, inl, inr, refl, sym, ◌∙◌, ap}
use Rattle.tptp_base.specs.declared.item.Annotated.{Annotated}
use Rattle.tptp_base.specs.declared.item.Item.{Item}
use Rattle.tptp_base.specs.declared.item.Item.TheVariants as it
use Rattle.fof_terms.specs.Vocabulary.{Vocabulary}
use Rattle.fof_terms.specs.declared.form.Form.{Form}
use Rattle.sort_check.specs.declared.fault.SortRule.{SortRule}
use Rattle.sort_check.specs.declared.fault.SortFault.{SortFault}
use Rattle.sort_check.specs.declared.fault.SortFault.TheVariants as fault
use Rattle.sort_check.specs.declared.line.Line.{Line}
use Rattle.sort_check.specs.declared.line.TextKind.{TextKind}
use Rattle.sort_check.specs.Outcomes.{Outcome, and_then, mapped}
use Rattle.sort_check.specs.Symbols.{Text}
use Rattle.sort_check.specs.Laws.{Answer, IsOne, HaveAnswer}
use Rattle.sort_check.specs.Texts.{Declared, Reading, Gives, at_line, type_item, type_lines, typed_body, line_form, line_of, line_item, lines_from, with_line, only_vocabulary, denoted}
use Rattle.tptp_base.specs.Roles.{is_typing}

-- ---- there is one

-- a fault names a line
abbrev IsTold : {S A : Type 0} → Outcome SortFault S A → Type 0
IsTold (Ok p) = Unit {0}
IsTold (Err (fault.Line rule place named)) = Unit {0}
IsTold (Err fault.Memory) = ⊥

told_then : {S R A B : Type 0} (o : Outcome SortFault S A) (f : A → S → Outcome SortFault R B) → IsTold o → ((x : A) (s : S) → IsTold (f x s)) → IsTold (and_then o f)
told_then (Ok p) f h k = k p.0 p.1
told_then (Err (fault.Line rule place named)) f h k = tt
told_then (Err fault.Memory) f h k = h

told_map : {S A B : Type 0} (f : A → B) (o : Outcome SortFault S A) → IsTold o → IsTold (mapped f o)
told_map f (Ok p) h = tt
told_map f (Err (fault.Line rule place named)) h = tt
told_map f (Err fault.Memory) h = h

told_line : {S A : Type 0} (a : Annotated) (o : Outcome SortRule S A) → IsTold (at_line a o)
told_line a (Ok p) = tt
told_line a (Err rule) = tt

told_if : {S A : Type 0} (b : Bool) (first second : Outcome SortFault S A) → IsTold first → IsTold second → IsTold (let o : Outcome SortFault S A = if b then first else second in o)
told_if true first second h k = h
told_if false first second h k = k

told_type : (i : Item) (d : Declared) → IsTold (type_item i d)
told_type (it.Formula a) d = told_if (is_typing a.role) (at_line a (typed_body a.body d)) (Ok (tt, d)) (told_line a (typed_body a.body d)) tt
told_type (it.Comment text) d = tt
told_type (it.Include i) d = tt

told_types : (items : List Item) (d : Declared) → IsTold (type_lines items d)
told_types [] d = tt
told_types (i ∷ is) d = told_then (type_item i d) (λ done e. type_lines is e) (told_type i d) (λ done e. told_types is e)

told_item : (kind : TextKind) (names : List Text) (number : ℕ) (i : Item) (s : Reading) → IsTold (line_item kind names number i s)
told_item kind names number (it.Formula a) s =
    let found : Outcome SortRule Reading (Option Line) = mapped (λ (form : Form). Some (line_of number a form)) (line_form kind names a s) in
    told_if (is_typing a.role) (Ok (None, s)) (at_line a found) tt (told_line a found)
told_item kind names number (it.Comment text) s = tt
told_item kind names number (it.Include i) s = tt

told_lines : (kind : TextKind) (names : List Text) (number : ℕ) (items : List Item) (s : Reading) → IsTold (lines_from kind names number items s)
told_lines kind names number [] s = tt
told_lines kind names number (i ∷ is) s =
    told_then (line_item kind names number i s) (λ found t. mapped (with_line found) (lines_from kind names (number + 1) is t)) (told_item kind names number i s)
    (λ found t. told_map (with_line found) (lines_from kind names (number + 1) is t) (told_lines kind names (number + 1) is t))

told_only : (o : Outcome SortFault Reading (List Line)) → IsTold o → IsTold (only_vocabulary o)
told_only (Ok p) h = tt
told_only (Err (fault.Line rule place named)) h = tt
told_only (Err fault.Memory) h = h

abbrev after_types : List Item → TextKind → Unit {0} → Declared → Outcome SortFault Vocabulary (List Line)
after_types items kind done d = only_vocabulary (lines_from kind d.names 0 items (record { vocabulary = d.vocabulary; conjectured = false }))

told : (items : List Item) (v : Vocabulary) (kind : TextKind) → IsTold (denoted items v kind)
told items v kind =
    told_then (type_lines items (record { vocabulary = v; names = [] })) (after_types items kind) (told_types items (record { vocabulary = v; names = [] }))
    (λ done d. told_only (lines_from kind d.names 0 items (record { vocabulary = d.vocabulary; conjectured = false })) (told_lines kind d.names 0 items (record { vocabulary = d.vocabulary; conjectured = false })))

by_outcome : (items : List Item) (v : Vocabulary) (kind : TextKind) (o : Outcome SortFault Vocabulary (List Line)) → denoted items v kind ≡ o → IsTold o → HaveAnswer items v kind
by_outcome items v kind (Ok p) e h = (Ok p.0, p.1, λ never. (cc), e)
by_outcome items v kind (Err (fault.Line rule place named)) e h = (Err (fault.Line rule place named), v, λ never. (cc), e)
by_outcome items v kind (Err fault.Memory) e h = absurd h

pub some : (items : List Item) (v : Vocabulary) (kind : TextKind) → HaveAnswer items v kind
some items v kind = by_outcome items v kind (denoted items v kind) refl (told items v kind)

-- ---- and only one

abbrev meant : List Line → Vocabulary → Outcome SortFault Vocabulary (List Line)
meant lines v = Ok (lines, v)

abbrev unmeant : SortFault → Outcome SortFault Vocabulary (List Line)
unmeant f = Err f

abbrev lines_or : Outcome SortFault Vocabulary (List Line) → List Line
lines_or (Ok p) = p.0
lines_or (Err f) = []

abbrev vocabulary_or : Vocabulary → Outcome SortFault Vocabulary (List Line) → Vocabulary
vocabulary_or v (Ok p) = p.1
vocabulary_or v (Err f) = v

same_meaning : (lines others : List Line) (v w : Vocabulary) → meant lines v ≡ meant others w → (lines ≡ others) × (v ≡ w)
same_meaning lines others v w e = (ap lines_or e, ap (vocabulary_or v) e)

same_fault : (f g : SortFault) → unmeant f ≡ unmeant g → f ≡ g
same_fault f g e = cc

not_both : {R : Type 0} (lines : List Line) (v : Vocabulary) (f : SortFault) → meant lines v ≡ unmeant f → R
not_both lines v f e = absurd cc

one_of : (o : Outcome SortFault Vocabulary (List Line)) (answer other : Answer) (new later : Vocabulary) → Gives o answer new → Gives o other later → IsOne answer new other later
one_of o (Err fault.Memory) other new later h k = inr (inl refl)
one_of o (Ok lines) (Err fault.Memory) new later h k = inr (inr refl)
one_of o (Err (fault.Line rule place named)) (Err fault.Memory) new later h k = inr (inr refl)
one_of o (Ok lines) (Ok others) new later h k = inl (same_meaning lines others new later (sym h ∙ k))
one_of o (Ok lines) (Err (fault.Line rule place named)) new later h k = not_both lines new (fault.Line rule place named) (sym h ∙ k)
one_of o (Err (fault.Line rule place named)) (Ok others) new later h k = not_both others later (fault.Line rule place named) (sym k ∙ h)
one_of o (Err (fault.Line rule place named)) (Err (fault.Line other there called)) new later h k = inl (same_fault (fault.Line rule place named) (fault.Line other there called) (sym h ∙ k))

pub one : (items : List Item) (v : Vocabulary) (kind : TextKind) (answer other : Answer) (new later : Vocabulary) → Gives (denoted items v kind) answer new → Gives (denoted items v kind) other later → IsOne answer new other later
one items v kind answer other new later h k = one_of (denoted items v kind) answer other new later h k
