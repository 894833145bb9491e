-- The formulas that nodes refer to are those that sources name.
use Rattle.std.specs.Prelude.{ℕ, zero, suc, ◌≡◌, ◌<◌, ◌+◌, Bool, true, false, if◌then◌else◌, List, [], ◌∷◌, ◌++◌, length, map, take, Option, Some, slice_get, refl}
use Rattle.std.specs.List.{AllZip, filter, flat_map}
use Rattle.std.specs.Option.{option_map}
use Rattle.std.specs.Str.{bytes_eq}
use Rattle.std.proofs.Common.{ap, sym, subst, ◌∙◌, arith, inl, inr, append_assoc}
use Rattle.std.proofs.lemmas.Bool.{cases_Bool, cases_order, cond-true, cond-false, false_from_ne_true}
use Rattle.std.proofs.lemmas.List.{append-nil, length-append}
use Rattle.std.proofs.lemmas.Option.{slice_get-map}
use Rattle.std.proofs.lemmas.Slice.Eq.{bytes_eq-Decides}
use Rattle.fof_terms.specs.declared.form.Form.{Form}
use Rattle.clause_form.specs.Paths.{forms_of}
use Rattle.sort_check.specs.declared.line.GivenEntry.{GivenEntry}
use Rattle.tptp_base.specs.declared.name.Name.{Name}
use Rattle.tptp_base.specs.declared.name.Name.TheVariants as name
use Rattle.tstp_graph.specs.declared.shape.Graph.{Graph}
use Rattle.tstp_graph.specs.declared.shape.Node.{Node}
use Rattle.tstp_graph.specs.declared.shape.Ref.{Ref}
use Rattle.tstp_graph.specs.declared.shape.Ref.TheVariants as ref
use Rattle.tstp_graph.specs.Meaning.{is_some_ref}
use Rattle.tstp_graph.specs.Tables.{places, places_from, same_name}
use Rattle.verifier.specs.Good.{cited_form, cited_forms, without_numbers}
use Rattle.verifier.specs.Lines.{both, candidates_of, given_from, sources_of}
use Rattle.limited_items.specs.Sources.{candidates, forms_given, given_named, is_unknown, lines_named, source_forms}
use Rattle.derivation_items.specs.Words.{Text}
use Rattle.derivation_items.specs.declared.line.LineSource.{LineSource}
use Rattle.derivation_items.specs.declared.line.LineSource.TheVariants.{Given, Skolemized, ClauseOf, Inferred}
use Rattle.derivation_items.specs.declared.line.ProofLine.{ProofLine}
use Rattle.derivation_order.specs.Cited.{HasSources, forms_in}
use Rattle.derivation_order.specs.Graphs.{AreNodesFrom, IsGraphOf, IsNodeOf, RefersTo, names_of, refs_named}
use Rattle.derivation_order.specs.Links.{AreLinked, AreNamesIn, DifferByName, IsFrom, IsLinked, IsNameIn}
use Rattle.derivation_order.proofs.Behind.{each_at}
use Rattle.derivation_order.proofs.Chosen.{at_taken, taken_at}
use Rattle.derivation_order.proofs.Naming.{one_name}

-- ---- names differ

pub is_linked : (given : List GivenEntry) (lines : List ProofLine) (k : ℕ) (line : ProofLine) → AreLinked given lines → slice_get lines k ≡ Some line → IsLinked given (take k lines) line
is_linked given lines k line h e = each_at (IsLinked given) lines k line h e

not_again : (given : List GivenEntry) (lines : List ProofLine) → AreLinked given lines → (i j : ℕ) (a b : ProofLine) → slice_get lines i ≡ Some a → slice_get lines j ≡ Some b → a.name ≡ b.name → i < j → ⊥
not_again given lines h i j a b at_i at_j same lt = (is_linked given lines j b h at_j).new (i, a, at_taken j lines i a lt at_i, same)

pub differ : (given : List GivenEntry) (lines : List ProofLine) → AreLinked given lines → DifferByName lines
differ given lines h i j a b at_i at_j same =
    elim (cases_order i j) [
      | inl e ↦ e
      | inr apart ↦ elim apart [
        | inl less ↦ absurd (not_again given lines h i j a b at_i at_j same less)
        | inr more ↦ absurd (not_again given lines h j i b a at_j at_i (sym same) more)
      ]
    ]

-- ---- one element

filter_none : {X : Type 0} (p : X → Bool) (xs : List X) → ((i : ℕ) (y : X) → slice_get xs i ≡ Some y → p y ≡ true → ⊥) → filter p xs ≡ []
filter_none p [] none = refl
filter_none p (x ∷ xs) none = cond-false (p x) (x ∷ filter p xs) (filter p xs) (false_from_ne_true (p x) (none 0 x refl)) ∙ filter_none p xs (λ i y e. none (suc i) y e)

filter_one : {X : Type 0} (p : X → Bool) (xs : List X) (j : ℕ) (x : X) → slice_get xs j ≡ Some x → p x ≡ true → ((i : ℕ) (y : X) → slice_get xs i ≡ Some y → p y ≡ true → i ≡ j) → filter p xs ≡ x ∷ []
filter_one {X} p [] j x e is only = cc
filter_one {X} p (z ∷ xs) zero x e is only =
    let same : z ≡ x = cc in
    cond-true (p z) (z ∷ filter p xs) (filter p xs) (ap p same ∙ is) ∙ ap (λ (ys : List X). z ∷ ys) (filter_none p xs (λ i y f g. let none = only (suc i) y f g in omega arith)) ∙ ap (λ (y : X). y ∷ []) same
filter_one {X} p (z ∷ xs) (suc j) x e is only =
    cond-false (p z) (z ∷ filter p xs) (filter p xs) (false_from_ne_true (p z) (λ f. let none = only 0 z refl f in omega arith)) ∙ filter_one p xs j x e is (λ i y f g. let same = only (suc i) y f g in omega arith)

-- ---- lines that are named

module _ (given : List GivenEntry) (lines : List ProofLine) (linked : AreLinked given lines) (k : ℕ) where
  -- a line before that number is the only one of its name
  pub named_form : (word : Text) (at : ℕ) (line : ProofLine) → slice_get (take k lines) at ≡ Some line → line.name ≡ word → lines_named (take k lines) word ≡ line.form ∷ []
  named_form word at line e is =
      let yes : bytes_eq line.name word ≡ true = (bytes_eq-Decides line.name word).1 is in
      ap forms_in (filter_one (λ (l : ProofLine). bytes_eq l.name word) (take k lines) at line e yes (λ i y g h.
      differ given lines linked i at y line (taken_at k lines i y g).1 (taken_at k lines at line e).1 ((bytes_eq-Decides y.name word).0 h ∙ sym is)))

  form_at : (at : ℕ) (line : ProofLine) → slice_get lines at ≡ Some line → slice_get (forms_in lines) at ≡ Some line.form
  form_at at line e = slice_get-map (λ (l : ProofLine). l.form) lines at ∙ ap (option_map (λ (l : ProofLine). l.form)) e

  same_at : (i j : ℕ) (a b : ProofLine) → i ≡ j → slice_get lines i ≡ Some a → slice_get lines j ≡ Some b → a ≡ b
  same_at i j a b e f g = let both_are : Some a ≡ Some b = sym f ∙ ap (slice_get lines) e ∙ g in cc

  cited_line : (word : Text) (r : Ref) → IsNameIn (take k lines) word → RefersTo lines word r → (form : Form) × (cited_form (forms_given given) (forms_in lines) r ≡ Some form) × (lines_named (take k lines) word ≡ form ∷ [])
  cited_line word r h to =
      let there = (taken_at k lines h.0 h.1 h.2).1 in
      let same : to.0 ≡ h.0 = differ given lines linked to.0 h.0 to.1 h.1 to.2 there (to.3 ∙ sym h.3) in
      let line : to.1 ≡ h.1 = same_at to.0 h.0 to.1 h.1 same to.2 there in (
        to.1.form,
        ap (cited_form (forms_given given) (forms_in lines)) to.4 ∙ form_at to.0 to.1 to.2,
        named_form word h.0 h.1 h.2 h.3 ∙ ap (λ (l : ProofLine). l.form ∷ []) (sym line),
      )

  cited_lines : (words : List Text) (refs : List Ref) → AreNamesIn (take k lines) words → AllZip (RefersTo lines) words refs → cited_forms (forms_given given) (forms_in lines) refs ≡ Some (flat_map (lines_named (take k lines)) words)
  cited_lines [] [] names z = refl
  cited_lines [] (r ∷ refs) names z = absurd z
  cited_lines (word ∷ words) [] names z = absurd z
  cited_lines (word ∷ words) (r ∷ refs) names z =
      let one = cited_line word r names.0 z.0 in
      ap (λ (o : Option Form). both o (cited_forms (forms_given given) (forms_in lines) refs)) one.1
      ∙ ap (both (Some one.0)) (cited_lines words refs names.2 z.1)
      ∙ ap (λ (fs : List Form). Some (fs ++ flat_map (lines_named (take k lines)) words)) (sym one.2)

-- ---- given formulas that are named

forms_joined : (front gs : List GivenEntry) → forms_given (front ++ gs) ≡ forms_given front ++ forms_given gs
forms_joined [] gs = refl
forms_joined (g ∷ front) gs = ap (λ (fs : List Form). g.form ∷ fs) (forms_joined front gs)

form_here : (front : List GivenEntry) (g : GivenEntry) (gs : List GivenEntry) → slice_get (forms_given (front ++ g ∷ gs)) (length front) ≡ Some g.form
form_here [] g gs = refl
form_here (x ∷ front) g gs = form_here front g gs

module _ (forms : List Form) (one : Name) (front : List GivenEntry) (g : GivenEntry) (gs : List GivenEntry) where
  abbrev AreCitedFrom : ℕ → List GivenEntry → Type 0
  AreCitedFrom n es = cited_forms (forms_given es) forms (map ref.Given (places_from n (names_of gs) one)) ≡ Some (given_named gs one)

  cited_either : (b : Bool) → AreCitedFrom (length front + 1) (front ++ g ∷ gs)
      → cited_forms (forms_given (front ++ g ∷ gs)) forms (map ref.Given (if b then length front ∷ places_from (length front + 1) (names_of gs) one else places_from (length front + 1) (names_of gs) one))
      ≡ Some (forms_given (if b then g ∷ filter (λ (x : GivenEntry). same_name x.name one) gs else filter (λ (x : GivenEntry). same_name x.name one) gs))
  cited_either true there =
      ap (λ (o : Option Form). both o (cited_forms (forms_given (front ++ g ∷ gs)) forms (map ref.Given (places_from (length front + 1) (names_of gs) one)))) (form_here front g gs)
      ∙ ap (both (Some g.form)) there
  cited_either false there = there

  cited_more : AreCitedFrom (length (front ++ g ∷ [])) ((front ++ g ∷ []) ++ gs) → cited_forms (forms_given (front ++ g ∷ gs)) forms (map ref.Given (places_from (length front) (names_of (g ∷ gs)) one)) ≡ Some (given_named (g ∷ gs) one)
  cited_more rest =
      let long : length (front ++ g ∷ []) ≡ length front + 1 = length-append front (g ∷ []) in
      cited_either (same_name g.name one) (subst (λ (n : ℕ). AreCitedFrom n (front ++ g ∷ gs)) long (subst (AreCitedFrom (length (front ++ g ∷ []))) (append_assoc front (g ∷ []) gs) rest))

cited_given : (forms : List Form) (one : Name) (front gs : List GivenEntry) → cited_forms (forms_given (front ++ gs)) forms (map ref.Given (places_from (length front) (names_of gs) one)) ≡ Some (given_named gs one)
cited_given forms one front [] = refl
cited_given forms one front (g ∷ gs) = cited_more forms one front g gs (cited_given forms one (front ++ g ∷ []) gs)

numbers_dropped : (n : ℕ) (forms : List Form) → forms_of (given_from n forms) ≡ forms
numbers_dropped n [] = refl
numbers_dropped n (form ∷ forms) = ap (λ (fs : List Form). form ∷ fs) (numbers_dropped (n + 1) forms)

pub unnumbered : (forms : List Form) → forms_of (without_numbers forms) ≡ forms
unnumbered [] = refl
unnumbered (form ∷ forms) = ap (λ (fs : List Form). form ∷ fs) (unnumbered forms)

same_name_again : (one : Name) → same_name one one ≡ true
same_name_again (name.Word word) = (bytes_eq-Decides word word).1 refl
same_name_again (name.Integer number) = (bytes_eq-Decides number number).1 refl

-- a given formula of the name has a place
some_place : (gs : List GivenEntry) (n at : ℕ) (g : GivenEntry) → slice_get gs at ≡ Some g → is_some_ref (map ref.Given (places_from n (names_of gs) g.name)) ≡ true
some_place [] n at g e = cc
some_place (x ∷ gs) n zero g e =
    let same : x ≡ g = cc in
    ap (λ (b : Bool). is_some_ref (map ref.Given (if b then n ∷ places_from (n + 1) (names_of gs) g.name else places_from (n + 1) (names_of gs) g.name))) (ap (λ (y : GivenEntry). same_name y.name g.name) same ∙ same_name_again g.name)
some_place (x ∷ gs) n (suc at) g e = by (same_name x.name g.name) (some_place gs (n + 1) at g e)
  where
    by : (b : Bool) → is_some_ref (map ref.Given (places_from (n + 1) (names_of gs) g.name)) ≡ true → is_some_ref (map ref.Given (if b then n ∷ places_from (n + 1) (names_of gs) g.name else places_from (n + 1) (names_of gs) g.name)) ≡ true
    by true rest = refl
    by false rest = rest

-- of a line that copies a given formula
record LeafSources (given : List GivenEntry) (forms : List Form) (one : Name) : Type 0 where
  own : List Form
  cited : cited_forms (forms_given given) forms (refs_named given one) ≡ Some own
  sources : forms_of (candidates_of (forms_given given) (is_some_ref (refs_named given one)) (without_numbers own)) ≡ candidates given one

leaf_sources : (given : List GivenEntry) (forms : List Form) (at : ℕ) (g : GivenEntry) → slice_get given at ≡ Some g → LeafSources given forms g.name
leaf_sources given forms at g there =
    elim (cases_Bool (is_unknown g.name)) [
      | inl unknown ↦
          let none : refs_named given g.name ≡ [] = ap (λ (b : Bool). if b then [] else map ref.Given (places (names_of given) g.name)) unknown in
          record {
            own = [];
            cited = ap (cited_forms (forms_given given) forms) none;
            sources =
                ap (λ (rs : List Ref). forms_of (candidates_of (forms_given given) (is_some_ref rs) (without_numbers []))) none ∙ numbers_dropped 0 (forms_given given)
                ∙ ap (λ (b : Bool). if b then forms_given given else given_named given g.name) (sym unknown);
          }
      | inr known ↦
          let are : refs_named given g.name ≡ map ref.Given (places (names_of given) g.name) = ap (λ (b : Bool). if b then [] else map ref.Given (places (names_of given) g.name)) known in
          let some : is_some_ref (refs_named given g.name) ≡ true = ap is_some_ref are ∙ some_place given 0 at g there in
          record {
            own = given_named given g.name;
            cited = ap (cited_forms (forms_given given) forms) are ∙ cited_given forms g.name [] given;
            sources =
                ap (λ (b : Bool). forms_of (candidates_of (forms_given given) b (without_numbers (given_named given g.name)))) some ∙ unnumbered (given_named given g.name)
                ∙ ap (λ (b : Bool). if b then forms_given given else given_named given g.name) (sym known);
          }
    ]

-- ---- the sources of a line

node_at : (given : List GivenEntry) (all : List ProofLine) (n : ℕ) (lines : List ProofLine) (nodes : List Node) (k : ℕ) (line : ProofLine) → AreNodesFrom given all n lines nodes → slice_get lines k ≡ Some line
    → (node : Node) × (item : ℕ) × (slice_get nodes k ≡ Some node) × IsNodeOf given all item line.source node
node_at given all n [] nodes k line h e = cc
node_at given all n (l ∷ lines) nodes zero line h e =
    let same : l ≡ line = cc in
    (h.0, n, ap (λ (ns : List Node). slice_get ns 0) h.2, subst (λ (x : ProofLine). IsNodeOf given all n x.source h.0) same h.3)
node_at given all n (l ∷ lines) nodes (suc k) line h e =
    let rest = node_at given all (n + 1) lines h.1 k line h.4 e in
    (rest.0, rest.1, ap (λ (ns : List Node). slice_get ns (suc k)) h.2 ∙ rest.2, rest.3)

module _ (given : List GivenEntry) (lines : List ProofLine) (linked : AreLinked given lines) (k : ℕ) where
  -- what a node refers to
  record AreSources (source : LineSource) (node : Node) : Type 0 where
    forms : List Form
    cited : cited_forms (forms_given given) (forms_in lines) node.parents ≡ Some forms
    sources : forms_of (sources_of node.leaf (forms_given given) node.cited (without_numbers forms)) ≡ source_forms given (take k lines) source

  step_sources : (source : LineSource) (node : Node) (words : List Text) → node.leaf ≡ false → source_forms given (take k lines) source ≡ flat_map (lines_named (take k lines)) words → AreNamesIn (take k lines) words
      → AllZip (RefersTo lines) words node.parents → AreSources source node
  step_sources source node words leaf are names to =
      let fs = flat_map (lines_named (take k lines)) words in
      record {
        forms = fs;
        cited = cited_lines given lines linked k words node.parents names to;
        sources = ap (λ (b : Bool). forms_of (sources_of b (forms_given given) node.cited (without_numbers fs))) leaf ∙ unnumbered fs ∙ sym are;
      }

  sources_by : (form : Form) (source : LineSource) (node : Node) (item : ℕ) → IsFrom given (take k lines) form source → IsNodeOf given lines item source node → AreSources source node
  sources_by form (Given one) node item from is =
      let own = subst (LeafSources given (forms_in lines)) (sym from.2) (leaf_sources given (forms_in lines) from.1.at from.0 from.1.there) in
      record {
        forms = own.own;
        cited = ap (cited_forms (forms_given given) (forms_in lines)) is.parents ∙ own.cited;
        sources =
            ap (λ (b : Bool). forms_of (sources_of b (forms_given given) node.cited (without_numbers own.own))) is.leaf
            ∙ ap (λ (b : Bool). forms_of (candidates_of (forms_given given) b (without_numbers own.own))) (is.cited ∙ ap is_some_ref is.parents) ∙ own.sources;
      }
  sources_by form (Skolemized word) node item from is = step_sources (Skolemized word) node (word ∷ []) is.leaf (sym (append-nil (lines_named (take k lines) word))) (one_name (take k lines) word from) is.parents
  sources_by form (ClauseOf word) node item from is = step_sources (ClauseOf word) node (word ∷ []) is.leaf (sym (append-nil (lines_named (take k lines) word))) (one_name (take k lines) word from) is.parents
  sources_by form (Inferred words) node item from is = step_sources (Inferred words) node words is.leaf refl from is.parents

  pub sources_at : (types : ℕ) (graph : Graph) → IsGraphOf given types lines graph → (line : ProofLine) → slice_get lines k ≡ Some line → HasSources given lines graph k line
  sources_at types graph g line at =
      let one = node_at given lines types lines graph.nodes k line g.nodes at in
      let own = sources_by line.form line.source one.0 one.1 (is_linked given lines k line linked at).from one.3 in
      record { node = one.0; there = one.2; leaf = one.3.leaf; forms = own.forms; cited = own.cited; sources = own.sources }
