-- Parents are gathered one at a time, and items go on one at a time.
use Rattle.std.proofs.Common.{◌≡◌, ℕ, ◌+◌, ◌<◌, ◌≤◌, ◌==◌, ◌&&◌, ◌||◌, Bool, true, false, not, cond, List, [], ◌∷◌, ◌++◌, length, drop, get_or, Option, None, Result, Ok, Err, refl, sym, ◌∙◌, ap, subst, arith}
use Rattle.std.specs.List.{list_any}
use Rattle.std.proofs.lemmas.List.{drop_all}
use Rattle.std.proofs.lemmas.Bool.Decides.{nat_tests}
use Rattle.tptp_base.specs.declared.name.Name.{Name}
use Rattle.tptp_base.specs.declared.item.Annotated.{Annotated}
use Rattle.tptp_base.specs.declared.item.Item.{Item}
use Rattle.tstp_graph.specs.declared.shape.Ref.{Ref}
use Rattle.tstp_graph.specs.declared.shape.Ref.TheVariants.{Line, Given}
use Rattle.tstp_graph.specs.declared.shape.Node.{Node}
use Rattle.tstp_graph.specs.declared.cite.Cite.{Cite}
use Rattle.tstp_graph.specs.declared.refs.Marks.{Marks}
use Rattle.tstp_graph.specs.declared.fault.GraphFault.{GraphFault}
use Rattle.tstp_graph.specs.Meaning.{Means, same_ref, with_ref, with_refs, meaning, is_known, cite_name}
use Rattle.tstp_graph.specs.code.Meaning.{resolved}
use Rattle.tstp_graph.specs.code.RefSets.{noted, Notes, AreMembers}
use Rattle.tstp_graph.specs.code.Nodes.{is_first, resolved_line, read_line, line_answer, item_answer, go_on, nodes_from}
use Rattle.tstp_graph.specs.code.Nodes.{IsStep}
use Rattle.tstp_graph.specs.code.Outcomes.{Yields}
use Rattle.tstp_graph.specs.code.Sources.{source_of}
use Rattle.tptp_base.specs.Roles.{is_typing}
use Rattle.tstp_graph.specs.declared.cite.Reading.{Reading}
use Rattle.tstp_graph.specs.declared.fault.GraphFault.TheVariants.{DuplicateLine, BadSource}
use Rattle.tptp_base.specs.declared.item.Item.TheVariants as item
use Rattle.tstp_graph.proofs.Readers.{drop_here}

any_last : {X : Type 0} (p : X → Bool) (xs : List X) (x : X) → list_any p (xs ++ x ∷ []) ≡ (list_any p xs || p x)
any_last p [] x = by (p x)
  where
    by : (b : Bool) → (b || false) ≡ (false || b)
    by true = refl
    by false = refl
any_last p (y ∷ xs) x = by (p y) (any_last p xs x)
  where
    by : (b : Bool) → list_any p (xs ++ x ∷ []) ≡ (list_any p xs || p x) → (b || list_any p (xs ++ x ∷ [])) ≡ ((b || list_any p xs) || p x)
    by true is = refl
    by false is = is

same_back : (a b : ℕ) → (a == b) ≡ (b == a)
same_back a b = grind (arith, nat_tests)

ref_back : (a b : Ref) → same_ref a b ≡ same_ref b a
ref_back (Line a) (Line b) = same_back a b
ref_back (Line a) (Given b) = refl
ref_back (Given a) (Line b) = refl
ref_back (Given a) (Given b) = same_back a b

same_number : (a b : ℕ) → (a == b) ≡ true → a ≡ b
same_number a b e = grind (arith, nat_tests)

ref_is : (a b : Ref) → same_ref a b ≡ true → a ≡ b
ref_is (Line a) (Line b) e = ap Line (same_number a b e)
ref_is (Line a) (Given b) e = absurd (cc)
ref_is (Given a) (Line b) e = absurd (cc)
ref_is (Given a) (Given b) e = ap Given (same_number a b e)

either : (a b : Bool) → cond b true a ≡ (a || b)
either true true = refl
either true false = refl
either false true = refl
either false false = refl

-- a new parent
pub members_new : (old new : Marks) (refs : List Ref) (ref : Ref) → AreMembers old refs → Notes old ref new → AreMembers new (refs ++ ref ∷ [])
members_new old new refs ref members notes other =
    notes other
    ∙ ap (λ b. cond b true (noted old other)) (ref_back ref other)
    ∙ ap (λ a. cond (same_ref other ref) true a) (members other)
    ∙ either (list_any (same_ref other) refs) (same_ref other ref)
    ∙ sym (any_last (same_ref other) refs ref)

-- a parent that is there
pub members_old : (old new : Marks) (refs : List Ref) (ref : Ref) → AreMembers old refs → Notes old ref new → noted old ref ≡ true → AreMembers new refs
members_old old new refs ref members notes there other = notes other ∙ by (same_ref ref other) refl ∙ members other
  where
    by : (b : Bool) → same_ref ref other ≡ b → cond b true (noted old other) ≡ noted old other
    by true e = sym there ∙ ap (noted old) (ref_is ref other e)
    by false e = refl

pub with_new : (marks : Marks) (refs : List Ref) (ref : Ref) → AreMembers marks refs → noted marks ref ≡ false → refs ++ ref ∷ [] ≡ with_ref refs ref
with_new marks refs ref members new = rw (sym (members ref) ∙ new) refl

pub with_old : (marks : Marks) (refs : List Ref) (ref : Ref) → AreMembers marks refs → noted marks ref ≡ true → refs ≡ with_ref refs ref
with_old marks refs ref members old = rw (sym (members ref) ∙ old) refl

pub refs_more : (begun refs next parents : List Ref) (i : ℕ) (parent : Ref) → i < length parents → parent ≡ get_or parents i parent → with_refs begun parents ≡ with_refs refs (drop i parents) → next ≡ with_ref refs parent → with_refs begun parents ≡ with_refs next (drop (i + 1) parents)
refs_more begun refs next parents i parent lt is so_far more =
    so_far ∙ ap (with_refs refs) (drop_here parents i parent lt is) ∙ ap (λ (l : List Ref). with_refs l (drop (i + 1) parents)) (sym more)

pub refs_all : (begun refs parents : List Ref) (i : ℕ) → length parents ≤ i → with_refs begun parents ≡ with_refs refs (drop i parents) → refs ≡ with_refs begun parents
refs_all begun refs parents i all so_far = sym (so_far ∙ ap (with_refs refs) (drop_all i parents all))

-- one parent more is resolved
pub resolved_more : (is_strict : Bool) (means : Means) (refs next : List Ref) (cites : List Cite) (i : ℕ) (cite : Cite) → i < length cites → cite ≡ get_or cites i cite → (is_strict && not (is_known means cite)) ≡ false
    → resolved is_strict means [] cites ≡ resolved is_strict means refs (drop i cites) → next ≡ with_refs refs (meaning means cite) → resolved is_strict means [] cites ≡ resolved is_strict means next (drop (i + 1) cites)
resolved_more is_strict means refs next cites i cite lt is known so_far more =
    so_far ∙ ap (resolved is_strict means refs) (drop_here cites i cite lt is) ∙ step (is_strict && not (is_known means cite)) known
    ∙ ap (λ (l : List Ref). resolved is_strict means l (drop (i + 1) cites)) (sym more)
  where
    step : (b : Bool) → b ≡ false → cond b (Err (cite_name cite)) (resolved is_strict means (with_refs refs (meaning means cite)) (drop (i + 1) cites)) ≡ resolved is_strict means (with_refs refs (meaning means cite)) (drop (i + 1) cites)
    step true e = absurd (cc)
    step false e = refl

pub resolved_missing : (is_strict : Bool) (means : Means) (refs : List Ref) (cites : List Cite) (i : ℕ) (cite : Cite) (name : Name) → i < length cites → cite ≡ get_or cites i cite → (is_strict && not (is_known means cite)) ≡ true
    → resolved is_strict means [] cites ≡ resolved is_strict means refs (drop i cites) → name ≡ cite_name cite → Err name ≡ resolved is_strict means [] cites
resolved_missing is_strict means refs cites i cite name lt is missing so_far same =
    ap Err same ∙ sym (so_far ∙ ap (resolved is_strict means refs) (drop_here cites i cite lt is) ∙ step (is_strict && not (is_known means cite)) missing)
  where
    step : (b : Bool) → b ≡ true → cond b (Err (cite_name cite)) (resolved is_strict means (with_refs refs (meaning means cite)) (drop (i + 1) cites)) ≡ Err (cite_name cite)
    step true e = refl
    step false e = absurd (cc)

pub resolved_all : (is_strict : Bool) (means : Means) (refs : List Ref) (cites : List Cite) (i : ℕ) → length cites ≤ i → resolved is_strict means [] cites ≡ resolved is_strict means refs (drop i cites) → Ok refs ≡ resolved is_strict means [] cites
resolved_all is_strict means refs cites i all so_far = sym (so_far ∙ ap (resolved is_strict means refs) (drop_all i cites all))

-- one item more
pub nodes_more : (means : Means) (items : List Item) (at : ℕ) (item : Item) (nodes next : List Node) → at < length items → item ≡ get_or items at item
    → nodes_from means 0 items [] ≡ nodes_from means at (drop at items) nodes → IsStep (item_answer means at (length nodes) item) nodes next → nodes_from means 0 items [] ≡ nodes_from means (at + 1) (drop (at + 1) items) next
nodes_more means items at item nodes next lt is so_far step =
    so_far ∙ ap (λ (l : List Item). nodes_from means at l nodes) (drop_here items at item lt is) ∙ step (nodes_from means (at + 1) (drop (at + 1) items))

pub nodes_fault : (means : Means) (items : List Item) (at : ℕ) (item : Item) (nodes : List Node) (fault : GraphFault) → at < length items → item ≡ get_or items at item
    → nodes_from means 0 items [] ≡ nodes_from means at (drop at items) nodes → item_answer means at (length nodes) item ≡ Err fault → nodes_from means 0 items [] ≡ Err fault
nodes_fault means items at item nodes fault lt is so_far faulty =
    so_far ∙ ap (λ (l : List Item). nodes_from means at l nodes) (drop_here items at item lt is) ∙ ap (λ (a : Result (Option Node) GraphFault). go_on a (nodes_from means (at + 1) (drop (at + 1) items)) nodes) faulty

pub nodes_all : (means : Means) (items : List Item) (at : ℕ) (nodes : List Node) → length items ≤ at → nodes_from means 0 items [] ≡ nodes_from means at (drop at items) nodes → nodes_from means 0 items [] ≡ Ok nodes
nodes_all means items at nodes all so_far = so_far ∙ ap (λ (l : List Item). nodes_from means at l nodes) (drop_all at items all)

yields_same : {T : Type 0} (a b : Result T GraphFault) (r : Result T GraphFault) → a ≡ b → Yields b r → Yields a r
yields_same {T = T} a b r e yields = subst (λ (w : Result T GraphFault). Yields w r) (sym e) yields

read_as : (means : Means) (at : ℕ) (formula : Annotated) (source : Reading) (gives : List Cite) (parents : Result (List Ref) Name) → source.is_good ≡ true → gives ≡ source.gives → parents ≡ resolved source.is_step means [] gives → read_line means at formula source ≡ resolved_line at formula source.is_step parents
read_as means at formula source gives parents good given is =
    by source.is_good good ∙ ap (resolved_line at formula source.is_step) (sym (is ∙ ap (resolved source.is_step means []) given))
  where
    by : (b : Bool) → b ≡ true → cond b (resolved_line at formula source.is_step (resolved source.is_step means [] source.gives)) (Err (BadSource formula.place formula.name)) ≡ resolved_line at formula source.is_step (resolved source.is_step means [] source.gives)
    by true e = refl
    by false e = absurd (cc)

pub line_resolves : (means : Means) (at number : ℕ) (formula : Annotated) (source : Reading) (places : List ℕ) (gives : List Cite) (parents : Result (List Ref) Name) (r : Result (Option Node) GraphFault) → places ≡ means.lines formula.name → is_first places number ≡ true → source ≡ source_of formula.source
    → source.is_good ≡ true → gives ≡ source.gives → parents ≡ resolved source.is_step means [] gives → Yields (resolved_line at formula source.is_step parents) r → Yields (line_answer means at number formula) r
line_resolves means at number formula source places gives parents r found first read good given is yields =
    yields_same (line_answer means at number formula) (resolved_line at formula source.is_step parents) r
    (by (is_first (means.lines formula.name) number) (ap (λ (l : List ℕ). is_first l number) (sym found) ∙ first) ∙ ap (read_line means at formula) (sym read) ∙ read_as means at formula source gives parents good given is) yields
  where
    by : (b : Bool) → b ≡ true → cond b (read_line means at formula (source_of formula.source)) (Err (DuplicateLine formula.place formula.name)) ≡ read_line means at formula (source_of formula.source)
    by true e = refl
    by false e = absurd (cc)

pub item_resolves : (means : Means) (at number : ℕ) (here : Item) (formula got : Annotated) (r : Result (Option Node) GraphFault) → here ≡ item.Formula formula → got ≡ formula → is_typing got.role ≡ false → Yields (line_answer means at number got) r → Yields (item_answer means at number here) r
item_resolves means at number here formula got r is same line yields =
    yields_same (item_answer means at number here) (line_answer means at number got) r (ap (item_answer means at number) (is ∙ ap item.Formula (sym same)) ∙ by (is_typing got.role) line) yields
  where
    by : (b : Bool) → b ≡ false → cond b (Ok None) (line_answer means at number got) ≡ line_answer means at number got
    by true e = absurd (cc)
    by false e = refl

pub not_false_is : (b : Bool) → not b ≡ false → b ≡ true
not_false_is true e = refl
not_false_is false e = absurd (cc)
