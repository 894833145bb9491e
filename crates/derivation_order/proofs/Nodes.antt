-- The nodes of lines that are linked.
use Rattle.std.specs.Prelude.{ℕ, zero, suc, ◌≡◌, ◌<◌, ◌≤◌, ◌+◌, ◌==◌, ◌||◌, Bool, true, false, if◌then◌else◌, List, [], ◌∷◌, ◌++◌, length, map, Some, None, slice_get, codes, refl}
use Rattle.std.specs.List.{AllByRecursion, AllZip, Contains, flat_map, list_any}
use Rattle.std.specs.Str.{bytes_eq}
use Rattle.std.proofs.Common.{ap, sym, subst, ◌∙◌, arith, inl, inr, append_assoc}
use Rattle.std.proofs.lemmas.Bool.{cases_Bool, cond-true, cond-false, false_from_ne_true, ne_eqb, or_from, or_left, or_right}
use Rattle.std.proofs.lemmas.List.{append-nil}
use Rattle.std.proofs.lemmas.List.Folds.{list_any-append}
use Rattle.std.proofs.lemmas.List.Elements.{Contains-append_left, Contains-append_right, Contains-push}
use Rattle.std.proofs.lemmas.Option.{slice_get_within}
use Rattle.std.proofs.lemmas.Slice.Eq.{bytes_eq-Decides}
use Rattle.inference_proofs.proofs.Kept.{get_first}
use Rattle.sort_check.specs.declared.line.GivenEntry.{GivenEntry}
use Rattle.tptp_base.specs.declared.name.Name.{Name}
use Rattle.tptp_base.specs.declared.name.Name.TheVariants as name
use Rattle.tstp_graph.specs.declared.cite.Cite.TheVariants.{Filed}
use Rattle.tstp_graph.specs.declared.shape.Ref.{Ref}
use Rattle.tstp_graph.specs.declared.shape.Ref.TheVariants as ref
use Rattle.tstp_graph.specs.Meaning.{Means, first_unknown, is_known, is_some_place, meaning, named_refs, line_or_given, parents, same_ref, with_refs}
use Rattle.tstp_graph.specs.Sources.{cited}
use Rattle.tstp_graph.specs.Tables.{places, places_from, same_name}
use Rattle.derivation_items.specs.Words.{Text}
use Rattle.derivation_items.specs.declared.line.ProofLine.{ProofLine}
use Rattle.derivation_order.specs.Graphs.{RefersTo, names_of, refs_named}
use Rattle.derivation_order.specs.Links.{AreNamesIn, IsNameIn}
use Rattle.derivation_order.proofs.Order.{IsBefore}
use Rattle.derivation_order.proofs.Sourced.{named}

-- ---- places of names

abbrev pub word_name : ProofLine → Name
word_name line = name.Word line.name

abbrev pub word_names : List ProofLine → List Name
word_names lines = map word_name lines

pub other_text : (a b : Text) → (a ≡ b → ⊥) → bytes_eq a b ≡ false
other_text a b apart = false_from_ne_true (bytes_eq a b) (λ e. apart ((bytes_eq-Decides a b).0 e))

-- the first place of a line of the name
pub record IsFirstAt (lines : List ProofLine) (rest : List Name) (n : ℕ) (word : Text) : Type 0 where
  pub at : ℕ
  pub line : ProofLine
  pub there : slice_get lines at ≡ Some line
  pub named : line.name ≡ word
  pub more : List ℕ
  pub are : places_from n (word_names lines ++ rest) (name.Word word) ≡ (n + at) ∷ more

first_place : (lines : List ProofLine) (rest : List Name) (n : ℕ) (word : Text) → IsNameIn lines word → IsFirstAt lines rest n word
first_place [] rest n word h = let at = h.2 in cc
first_place (l ∷ lines) rest n word h =
    elim (cases_Bool (bytes_eq l.name word)) [
      | inl same ↦
          let here : n ≡ n + 0 = omega arith in
          record {
            at = 0;
            line = l;
            there = refl;
            named = (bytes_eq-Decides l.name word).0 same;
            more = places_from (n + 1) (word_names lines ++ rest) (name.Word word);
            are =
                cond-true (bytes_eq l.name word) (n ∷ places_from (n + 1) (word_names lines ++ rest) (name.Word word)) (places_from (n + 1) (word_names lines ++ rest) (name.Word word)) same
                ∙ ap (λ (k : ℕ). k ∷ places_from (n + 1) (word_names lines ++ rest) (name.Word word)) here;
          }
      | inr other ↦
          let next = first_place lines rest (n + 1) word (later h.0 h.1 h.2 h.3 other) in
          let on : n + 1 + next.at ≡ n + suc next.at = omega arith in
          record {
            at = suc next.at;
            line = next.line;
            there = next.there;
            named = next.named;
            more = next.more;
            are =
                cond-false (bytes_eq l.name word) (n ∷ places_from (n + 1) (word_names lines ++ rest) (name.Word word)) (places_from (n + 1) (word_names lines ++ rest) (name.Word word)) other
                ∙ next.are
                ∙ ap (λ (k : ℕ). k ∷ next.more) on;
          }
    ]
  where
    later : (k : ℕ) (x : ProofLine) → slice_get (l ∷ lines) k ≡ Some x → x.name ≡ word → bytes_eq l.name word ≡ false → IsNameIn lines word
    later zero x e same other =
        let one : l ≡ x = cc in
        let yes : bytes_eq l.name word ≡ true = (bytes_eq-Decides l.name word).1 (ap (λ (y : ProofLine). y.name) one ∙ same) in
        absurd (cc)
    later (suc k) x e same other = (k, x, e, same)

-- a name that none of the lines has
pub fresh_name : (lines : List ProofLine) (word : Text) → (IsNameIn lines word → ⊥) → list_any (λ (n : Name). same_name n (name.Word word)) (word_names lines) ≡ false
fresh_name [] word new = refl
fresh_name (l ∷ lines) word new =
    or_from (bytes_eq l.name word) (list_any (λ (n : Name). same_name n (name.Word word)) (word_names lines)) (other_text l.name word (λ e. new (0, l, refl, e))) (fresh_name lines word (λ h. new (suc h.0, h.1, h.2, h.3)))

-- ---- given formulas that are named

places_least : (names : List Name) (n : ℕ) (one : Name) → AllByRecursion (λ (k : ℕ). n ≤ k) (places_from n names one)
places_least [] n one = tt
places_least (x ∷ names) n one = by (same_name x one) (weaker (places_from (n + 1) names one) (places_least names (n + 1) one))
  where
    weaker : (ks : List ℕ) → AllByRecursion (λ (k : ℕ). n + 1 ≤ k) ks → AllByRecursion (λ (k : ℕ). n ≤ k) ks
    weaker [] h = tt
    weaker (k ∷ ks) h = let le = h.0 in (omega arith, weaker ks h.1)

    by : (b : Bool) → AllByRecursion (λ (k : ℕ). n ≤ k) (places_from (n + 1) names one) → AllByRecursion (λ (k : ℕ). n ≤ k) (if b then n ∷ places_from (n + 1) names one else places_from (n + 1) names one)
    by true rest = (omega arith, rest)
    by false rest = rest

-- the references are to given formulas before that number
abbrev Below : ℕ → Ref → Type 0
Below n (ref.Line k) = ⊥
Below n (ref.Given k) = k < n

not_there : (n : ℕ) (refs : List Ref) → AllByRecursion (Below n) refs → list_any (same_ref (ref.Given n)) refs ≡ false
not_there n [] h = refl
not_there n (ref.Line k ∷ refs) h = absurd h.0
not_there n (ref.Given k ∷ refs) h = let lt = h.0 in or_from (n == k) (list_any (same_ref (ref.Given n)) refs) (ne_eqb n k (λ e. omega arith)) (not_there n refs h.1)

below_more : (n : ℕ) (refs : List Ref) → AllByRecursion (Below n) refs → AllByRecursion (Below (n + 1)) refs
below_more n [] h = tt
below_more n (ref.Line k ∷ refs) h = absurd h.0
below_more n (ref.Given k ∷ refs) h = let lt = h.0 in (omega arith, below_more n refs h.1)

below_push : (n : ℕ) (refs : List Ref) → AllByRecursion (Below n) refs → AllByRecursion (Below (n + 1)) (refs ++ ref.Given n ∷ [])
below_push n [] h = (omega arith, tt)
below_push n (ref.Line k ∷ refs) h = absurd h.0
below_push n (ref.Given k ∷ refs) h = let lt = h.0 in (omega arith, below_push n refs h.1)

given_refs : (names : List Name) (n : ℕ) (one : Name) (refs : List Ref) → AllByRecursion (Below n) refs → with_refs refs (map ref.Given (places_from n names one)) ≡ refs ++ map ref.Given (places_from n names one)
given_refs [] n one refs h = sym (append-nil refs)
given_refs (x ∷ names) n one refs h =
    by (same_name x one) (given_refs names (n + 1) one refs (below_more n refs h)) (given_refs names (n + 1) one (refs ++ ref.Given n ∷ []) (below_push n refs h))
  where
    rest : List Ref
    rest = map ref.Given (places_from (n + 1) names one)

    by : (b : Bool) → with_refs refs (map ref.Given (places_from (n + 1) names one)) ≡ refs ++ map ref.Given (places_from (n + 1) names one)
        → with_refs (refs ++ ref.Given n ∷ []) (map ref.Given (places_from (n + 1) names one)) ≡ (refs ++ ref.Given n ∷ []) ++ map ref.Given (places_from (n + 1) names one)
        → with_refs refs (map ref.Given (if b then n ∷ places_from (n + 1) names one else places_from (n + 1) names one)) ≡ refs ++ map ref.Given (if b then n ∷ places_from (n + 1) names one else places_from (n + 1) names one)
    by true skip take =
        ap (λ (x : Bool). with_refs (if x then refs else refs ++ ref.Given n ∷ []) (map ref.Given (places_from (n + 1) names one))) (not_there n refs h)
        ∙ take
        ∙ append_assoc refs (ref.Given n ∷ []) (map ref.Given (places_from (n + 1) names one))
    by false skip take = skip

-- ---- joined lists

pub map_joined : (xs ys : List ProofLine) → word_names (xs ++ ys) ≡ word_names xs ++ word_names ys
map_joined [] ys = refl
map_joined (x ∷ xs) ys = ap (λ (ns : List Name). word_name x ∷ ns) (map_joined xs ys)

any_pushed : (r : Ref) (refs : List Ref) (last : Ref) → list_any (same_ref r) refs ≡ false → same_ref r last ≡ false → list_any (same_ref r) (refs ++ last ∷ []) ≡ false
any_pushed r refs last e f =
    list_any-append (same_ref r) refs (last ∷ []) ∙ or_from (list_any (same_ref r) refs) (same_ref r last || false) e (or_from (same_ref r last) false f refl)

same_line_in : (all : List ProofLine) (k j : ℕ) (x y : ProofLine) → k ≡ j → slice_get all k ≡ Some x → slice_get all j ≡ Some y → x ≡ y
same_line_in all k j x y e f g = let both : Some x ≡ Some y = sym f ∙ ap (slice_get all) e ∙ g in cc

filed : (given : List GivenEntry) (means : Means) → means.given ≡ places (names_of given) → (n : Name) → parents means (Filed n ∷ []) ≡ map ref.Given (places (names_of given) n)
filed given means mean n =
    ap (λ (f : Name → List ℕ). with_refs [] (map ref.Given (f n) ++ [])) mean
    ∙ ap (with_refs []) (append-nil (map ref.Given (places (names_of given) n)))
    ∙ given_refs (names_of given) 0 n [] tt

-- ---- what sources mean

module _ (given : List GivenEntry) (means : Means) (all : List ProofLine) (lines_mean : means.lines ≡ places (word_names all)) (given_mean : means.given ≡ places (names_of given)) where
  pub filed_refs : (n : Name) → parents means (cited Filed n) ≡ refs_named given n
  filed_refs (name.Word word) = by (bytes_eq word (codes "unknown"))
    where
      by : (b : Bool) → parents means (if b then [] else Filed (name.Word word) ∷ []) ≡ (if b then [] else map ref.Given (places (names_of given) (name.Word word)))
      by true = refl
      by false = filed given means given_mean (name.Word word)
  filed_refs (name.Integer number) = filed given means given_mean (name.Integer number)

  -- the line of a word
  pub record IsMeant (earlier : List ProofLine) (word : Text) : Type 0 where
    pub at : ℕ
    pub line : ProofLine
    pub there : slice_get earlier at ≡ Some line
    pub is_named : line.name ≡ word
    pub means_it : meaning means (named word) ≡ ref.Line at ∷ []
    pub is_known_so : is_known means (named word) ≡ true

  pub meant : (earlier rest : List ProofLine) (word : Text) → all ≡ earlier ++ rest → (means.types (name.Word word) ≡ []) → IsNameIn earlier word → IsMeant earlier word
  meant earlier rest word whole no_type h =
      let first = first_place earlier (word_names rest) 0 word h in
      let same : 0 + first.at ≡ first.at = omega arith in
      let lines : means.lines (name.Word word) ≡ first.at ∷ first.more =
      ap (λ (f : Name → List ℕ). f (name.Word word)) lines_mean
      ∙ ap (λ (ls : List ProofLine). places (word_names ls) (name.Word word)) whole
      ∙ ap (λ (ns : List Name). places ns (name.Word word)) (map_joined earlier rest)
      ∙ first.are
      ∙ ap (λ (k : ℕ). k ∷ first.more) same in
      record {
        at = first.at;
        line = first.line;
        there = first.there;
        is_named = first.named;
        means_it =
            ap (λ (ts : List ℕ). named_refs ts (means.lines (name.Word word)) (means.given (name.Word word))) no_type ∙ ap (λ (ls : List ℕ). line_or_given ls (means.given (name.Word word))) lines;
        is_known_so =
            or_right (is_some_place (means.types (name.Word word))) (is_some_place (means.lines (name.Word word)) || is_some_place (means.given (name.Word word)))
            (or_left (is_some_place (means.lines (name.Word word))) (is_some_place (means.given (name.Word word))) (ap is_some_place lines));
      }

  -- the references to some words, behind others
  pub record AreMeant (earlier : List ProofLine) (words : List Text) (begun : List Ref) : Type 0 where
    pub refs : List Ref
    pub are : with_refs begun (flat_map (meaning means) (map named words)) ≡ begun ++ refs
    pub refer : AllZip (RefersTo all) words refs
    pub before : AllByRecursion (IsBefore (length earlier)) refs
    pub none_unknown : first_unknown means (map named words) ≡ None

  -- no word is that of a line which is referred to
  abbrev AreApart : List Text → List Ref → Type 0
  AreApart words begun = (word : Text) → Contains words word → (k : ℕ) (line : ProofLine) → slice_get all k ≡ Some line → line.name ≡ word → list_any (same_ref (ref.Line k)) begun ≡ false

  pub all_meant : (earlier rest : List ProofLine) → all ≡ earlier ++ rest → (words : List Text) (begun : List Ref) → AreNamesIn earlier words → ((word : Text) → Contains words word → means.types (name.Word word) ≡ []) → AreApart words begun
      → AreMeant earlier words begun
  all_meant earlier rest whole [] begun names no_types apart = record { refs = []; are = sym (append-nil begun); refer = tt; before = tt; none_unknown = refl }
  all_meant earlier rest whole (word ∷ words) begun names no_types apart =
      let head_in : Contains (word ∷ words) word = Contains-append_left (word ∷ []) words word (Contains-push [] word) in
      let one = meant earlier rest word whole (no_types word head_in) names.0 in
      let there : slice_get all one.at ≡ Some one.line = ap (λ (ls : List ProofLine). slice_get ls one.at) whole ∙ get_first earlier rest one.at one.line one.there in
      let new : list_any (same_ref (ref.Line one.at)) begun ≡ false = apart word head_in one.at one.line there one.is_named in
      let tail = all_meant earlier rest whole words (begun ++ ref.Line one.at ∷ []) names.2 (λ w h. no_types w (Contains-append_right (word ∷ []) words w h))
      (λ w h k line at is. any_pushed (ref.Line k) begun (ref.Line one.at) (apart w (Contains-append_right (word ∷ []) words w h) k line at is)
      (ne_eqb k one.at (λ e. names.1 (subst (Contains words) (sym is ∙ ap (λ (l : ProofLine). l.name) (same_line_in all k one.at line one.line e at there) ∙ one.is_named) h)))) in
      record {
        refs = ref.Line one.at ∷ tail.refs;
        are =
            ap (λ (rs : List Ref). with_refs begun (rs ++ flat_map (meaning means) (map named words))) one.means_it
            ∙ ap (λ (b : Bool). with_refs (if b then begun else begun ++ ref.Line one.at ∷ []) (flat_map (meaning means) (map named words))) new
            ∙ tail.are
            ∙ append_assoc begun (ref.Line one.at ∷ []) tail.refs;
        refer = ((one.at, one.line, there, one.is_named, refl), tail.refer);
        before = (slice_get_within earlier one.at one.line one.there, tail.before);
        none_unknown = cond-true (is_known means (named word)) (first_unknown means (map named words)) (Some (name.Word word)) one.is_known_so ∙ tail.none_unknown;
      }
