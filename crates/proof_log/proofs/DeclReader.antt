-- The reader of declarations is exact and finds each of them.
use Rattle.std.proofs.Common.{◌≡◌, Bool, true, ℕ, List, [], ◌∷◌, ◌++◌, length, map, Option, Some, refl, sym, ◌∙◌, ap, subst, append_assoc, arith, lit≤}
use Rattle.std.specs.Prelude.{decimal}
use Rattle.std.specs.List.{flat_map}
use Rattle.std.proofs.lemmas.List.{length-map}
use Rattle.first_fault.specs.Nesting.{Nested, plain}
use Rattle.first_fault.specs.code.Reading.{Reader, mapped, next}
use Rattle.first_fault.specs.Rules.{Rule}
use Rattle.first_fault.proofs.Good.{Good, After, after, good_then, good_map, good_as, good_opened, Parts, always}
use Rattle.fof_terms.specs.declared.signature.Kind.{Kind}
use Rattle.fof_terms.specs.declared.signature.Kind.TheVariants.{Function, Predicate}
use Rattle.fof_terms.specs.declared.signature.Symbol.{Symbol}
use Rattle.kernel.specs.declared.entry.Decl.{Decl}
use Rattle.kernel.specs.declared.entry.Decl.TheVariants.{Sort, Symbol as SymbolOf}
use Rattle.kernel.specs.declared.entry.Entry.TheVariants.{Declare}
use Rattle.proof_log.specs.declared.name.DeclName.{DeclName}
use Rattle.proof_log.specs.declared.name.DeclName.TheVariants as d
use Rattle.proof_log.specs.Words.{Word, word, at_level, nested}
use Rattle.proof_log.specs.LogText.{number as number_text, numbers_text}
use Rattle.tptp_base.specs.Quotable.{IsQuotable}
use Rattle.proof_log.specs.Entries.{quoted as quoted_text, symbol_text, decl_text, HasNoResult, IsWritableDecl, IsSmall, AreSmall, AreNumbersInRange}
use Rattle.proof_log.specs.code.Names.{decl_name, decl_names}
use Rattle.proof_log.specs.code.ReadWords.{is_byte, find, number, listed, both, name, head}
use Rattle.proof_log.specs.code.ReadEntries.{quoted, function_of, predicate_of, decl_by, declaration}
use Rattle.proof_log.proofs.Spelling.{Spell, ends, ends_before, level-append}
use Rattle.proof_log.proofs.NumberReader.{is_kind, one_number, small_good}
use Rattle.proof_log.proofs.ListReader.{members, list_words, good_list}
use Rattle.proof_log.proofs.NameReader.{Named, good_name}
use Rattle.proof_log.proofs.QuotedReader.{Quoted, good_quoted}

-- ---- lists of numbers

abbrev small_one : ℕ → List Word
small_one = one_number 4294967295

members_level : (ns : List ℕ) → nested 0 (members small_one ns) ≡ at_level 0 (flat_map (λ part. part) (map number_text ns))
members_level [] = refl
members_level (m ∷ ns) = ap (λ l. (32, 0) ∷ (at_level 0 (decimal m) ++ l)) (members_level ns) ∙ ap (λ l. (32, 0) ∷ l) (sym (level-append 0 (decimal m) (flat_map (λ part. part) (map number_text ns))))

numbers_level : (ns : List ℕ) → nested 0 (list_words small_one ns) ≡ at_level 0 (numbers_text ns)
numbers_level ns =
    ap (λ k. (32, 0) ∷ (at_level 0 (decimal k) ++ nested 0 (members small_one ns))) (length-map ns small_one ∙ sym (length-map ns number_text))
    ∙ ap (λ l. (32, 0) ∷ (at_level 0 (decimal (length (map number_text ns))) ++ l)) (members_level ns)
    ∙ ap (λ l. (32, 0) ∷ l) (sym (level-append 0 (decimal (length (map number_text ns))) (flat_map (λ part. part) (map number_text ns))))

-- ---- two parts of any kind

abbrev Two : {A B : Type 0} → Rule ℕ A → Rule ℕ B → Rule ℕ (A × B)
Two P Q v ts rest = (mid : List (Nested ℕ)) × P v.0 ts mid × Q v.1 mid rest

module _ {A B : Type 0} (limit : ℕ) (p : Reader ℕ A) (q : Reader ℕ B) (P : Rule ℕ A) (Q : Rule ℕ B) (E F : Option ℕ → Bool) where
  abbrev Second : A → Rule ℕ (A × B)
  Second x v ts rest = (v.0 ≡ x) × Q v.1 ts rest

  second : Good limit q Q F → (x : A) → Good limit (λ ts. mapped (λ y. (x, y)) (q ts)) (Second x) F
  second good x = good_map limit q (λ ts. mapped (λ y. (x, y)) (q ts)) Q (Second x) F (λ y. (x, y)) (λ ts. refl) good (λ y ts rest h. (refl, h)) (λ v ts rest h. (v.1, h.1, ap (λ a. (a, v.1)) (sym h.0)))

  good_two : Good limit p P E → Good limit q Q F → ((y : B) (mid rest : List (Nested ℕ)) → Q y mid rest → F (next (plain rest)) ≡ true → E (next (plain mid)) ≡ true) → Good limit (both p q) (Two P Q) F
  good_two first good link =
      good_then limit p (λ x ts. mapped (λ y. (x, y)) (q ts)) P Second (Two P Q) E F first (λ x can. second good x) (λ x v ts mid rest h k. (mid, subst (λ a. P a ts mid) (sym k.0) h, k.1))
      (λ v ts rest h e. record { value = v.0; mid = h.0; first = h.1; second = (refl, h.2); ends = link v.1 h.0 rest h.2 e })

-- ---- declarations

abbrev kind_head : Kind → DeclName
kind_head Function = d.Function
kind_head Predicate = d.Predicate

abbrev kind_rest : Kind → List ℕ → List ℕ → ℕ → List ℕ
kind_rest Function name args result = word (quoted_text name) ++ (numbers_text args ++ number_text result)
kind_rest Predicate name args result = word (quoted_text name) ++ numbers_text args

abbrev decl_head : Decl → DeclName
decl_head (Sort name) = d.Sort
decl_head (SymbolOf symbol) = kind_head symbol.kind

abbrev decl_rest : Decl → List ℕ
decl_rest (Sort name) = word (quoted_text name)
decl_rest (SymbolOf symbol) = kind_rest symbol.kind symbol.name symbol.args symbol.result

kind_parts : (kind : Kind) (name args : List ℕ) (result : ℕ) → symbol_text kind name args result ≡ word (decl_name (kind_head kind)) ++ kind_rest kind name args result
kind_parts Function name args result = refl
kind_parts Predicate name args result = refl

decl_parts : (decl : Decl) → decl_text decl ≡ word (decl_name (decl_head decl)) ++ decl_rest decl
decl_parts (Sort name) = refl
decl_parts (SymbolOf symbol) = kind_parts symbol.kind symbol.name symbol.args symbol.result

abbrev pub IsReadable : Decl → Type 0
IsReadable decl = IsWritableDecl decl × AreNumbersInRange (Declare decl)

abbrev pub DeclSays : Rule ℕ Decl
DeclSays decl ts rest = (ts ≡ at_level 0 (decl_text decl) ++ rest) × IsReadable decl

abbrev DeclBy : DeclName → Rule ℕ Decl
DeclBy w decl ts rest = (decl_head decl ≡ w) × (ts ≡ at_level 0 (decl_rest decl) ++ rest) × IsReadable decl

level_on : (xs ys : List ℕ) (rest : List (Nested ℕ)) → at_level 0 (xs ++ ys) ++ rest ≡ at_level 0 xs ++ (at_level 0 ys ++ rest)
level_on xs ys rest = ap (λ l. l ++ rest) (level-append 0 xs ys) ∙ append_assoc (at_level 0 xs) (at_level 0 ys) rest

abbrev Numbers : Rule ℕ (List ℕ)
Numbers = Spell (list_words small_one) 0

abbrev One : Rule ℕ ℕ
One = Spell small_one 0

numbers_say : (ns : List ℕ) (ts rest : List (Nested ℕ)) → Numbers ns ts rest → ts ≡ at_level 0 (numbers_text ns) ++ rest
numbers_say ns ts rest h = h.0 ∙ ap (λ l. l ++ rest) (numbers_level ns)

one_say : (m : ℕ) (rest : List (Nested ℕ)) → nested 0 (small_one m) ++ rest ≡ at_level 0 (number_text m) ++ rest
one_say m rest = append_assoc ((32, 0) ∷ at_level 0 (decimal m)) [] rest

link_numbers : (ns : List ℕ) (mid rest : List (Nested ℕ)) → Numbers ns mid rest → ends (next (plain rest)) ≡ true → ends (next (plain mid)) ≡ true
link_numbers ns mid rest h e = subst (λ l. ends (next (plain l)) ≡ true) (sym h.0) (ends_before 0 (list_words small_one ns) rest e)

link_one : (m : ℕ) (mid rest : List (Nested ℕ)) → One m mid rest → ends (next (plain rest)) ≡ true → ends (next (plain mid)) ≡ true
link_one m mid rest h e = subst (λ l. ends (next (plain l)) ≡ true) (sym h.0) (ends_before 0 (small_one m) rest e)

-- what a function's declaration has behind its name
abbrev Typed : Rule ℕ (List ℕ × ℕ)
Typed = Two Numbers One

abbrev FunctionParts : Rule ℕ (List ℕ × (List ℕ × ℕ))
FunctionParts = Two Quoted Typed

abbrev PredicateParts : Rule ℕ (List ℕ × List ℕ)
PredicateParts = Two Quoted Numbers

join_function : (v : List ℕ × (List ℕ × ℕ)) (ts rest : List (Nested ℕ)) → FunctionParts v ts rest → DeclBy d.Function (function_of v) ts rest
join_function v ts rest h =
    let args = numbers_say v.1.0 h.0 h.2.0 h.2.1 in (
      refl,
      h.1.0 ∙ ap (λ l. at_level 0 (word (quoted_text v.0)) ++ l) (args ∙ ap (λ l. at_level 0 (numbers_text v.1.0) ++ l) (h.2.2.0 ∙ one_say v.1.1 rest) ∙ sym (level_on (numbers_text v.1.0) (number_text v.1.1) rest))
          ∙ sym (level_on (word (quoted_text v.0)) (numbers_text v.1.0 ++ number_text v.1.1) rest),
      ((h.1.1, tt), (h.2.1.1, h.2.2.1.0)),
    )

join_predicate : (v : List ℕ × List ℕ) (ts rest : List (Nested ℕ)) → PredicateParts v ts rest → DeclBy d.Predicate (predicate_of v) ts rest
join_predicate v ts rest h = (
  refl,
  h.1.0 ∙ ap (λ l. at_level 0 (word (quoted_text v.0)) ++ l) (numbers_say v.1 h.0 rest h.2) ∙ sym (level_on (word (quoted_text v.0)) (numbers_text v.1) rest),
  ((h.1.1, refl), (h.2.1, lit≤ tt)),
)

abbrev with_kind : Symbol → Kind → Decl
with_kind symbol kind = SymbolOf (record { name = symbol.name; kind = kind; args = symbol.args; result = symbol.result })

function_kind : (kind : Kind) → kind_head kind ≡ d.Function → kind ≡ Function
function_kind Function e = refl
function_kind Predicate e = cc

predicate_kind : (kind : Kind) → kind_head kind ≡ d.Predicate → kind ≡ Predicate
predicate_kind Predicate e = refl
predicate_kind Function e = cc

function_says : (name args : List ℕ) (result : ℕ) (ts rest : List (Nested ℕ)) → ts ≡ at_level 0 (kind_rest Function name args result) ++ rest → IsQuotable name → AreSmall args → IsSmall result → FunctionParts (name, (args, result)) ts rest
function_says name args result ts rest h named small_args small_result =
    let words = nested 0 (list_words small_one args) ++ (nested 0 (small_one result) ++ rest) in (
      words,
      (
        h ∙ level_on (word (quoted_text name)) (numbers_text args ++ number_text result) rest
            ∙ ap (λ l. at_level 0 (word (quoted_text name)) ++ l) (level_on (numbers_text args) (number_text result) rest
            ∙ ap (λ l. at_level 0 (numbers_text args) ++ l) (sym (one_say result rest)) ∙ ap (λ l. l ++ (nested 0 (small_one result) ++ rest)) (sym (numbers_level args))),
        named,
      ),
      (nested 0 (small_one result) ++ rest, (refl, small_args), (refl, (small_result, tt))),
    )

predicate_says : (name args : List ℕ) (result : ℕ) (ts rest : List (Nested ℕ)) → ts ≡ at_level 0 (kind_rest Predicate name args result) ++ rest → IsQuotable name → AreSmall args → PredicateParts (name, args) ts rest
predicate_says name args result ts rest h named small_args = (
  nested 0 (list_words small_one args) ++ rest,
  (h ∙ level_on (word (quoted_text name)) (numbers_text args) rest ∙ ap (λ l. at_level 0 (word (quoted_text name)) ++ (l ++ rest)) (sym (numbers_level args)), named),
  (refl, small_args),
)

not_sort : (kind : Kind) → kind_head kind ≡ d.Sort → ⊥
not_sort Function e = cc
not_sort Predicate e = cc

split_sort : (decl : Decl) (ts rest : List (Nested ℕ)) → DeclBy d.Sort decl ts rest → (v : List ℕ) × Quoted v ts rest × (Sort v ≡ decl)
split_sort (Sort name) ts rest h = (name, (h.1, h.2.0), refl)
split_sort (SymbolOf symbol) ts rest h = absurd (not_sort symbol.kind h.0)

split_function : (decl : Decl) (ts rest : List (Nested ℕ)) → DeclBy d.Function decl ts rest → (v : List ℕ × (List ℕ × ℕ)) × FunctionParts v ts rest × (function_of v ≡ decl)
split_function (Sort name) ts rest h = let e = h.0 in cc
split_function (SymbolOf symbol) ts rest h =
    let is = function_kind symbol.kind h.0 in (
      (symbol.name, (symbol.args, symbol.result)),
      function_says symbol.name symbol.args symbol.result ts rest (h.1 ∙ ap (λ k. at_level 0 (kind_rest k symbol.name symbol.args symbol.result) ++ rest) is) h.2.0.0 h.2.1.0 h.2.1.1,
      ap (with_kind symbol) (sym is),
    )

split_predicate : (decl : Decl) (ts rest : List (Nested ℕ)) → DeclBy d.Predicate decl ts rest → (v : List ℕ × List ℕ) × PredicateParts v ts rest × (predicate_of v ≡ decl)
split_predicate (Sort name) ts rest h = let e = h.0 in cc
split_predicate (SymbolOf symbol) ts rest h =
    let is = predicate_kind symbol.kind h.0 in
    let none : symbol.result ≡ 0 = subst (λ k. HasNoResult k symbol.result) is h.2.0.1 in (
      (symbol.name, symbol.args),
      predicate_says symbol.name symbol.args symbol.result ts rest (h.1 ∙ ap (λ k. at_level 0 (kind_rest k symbol.name symbol.args symbol.result) ++ rest) is) h.2.0.0 h.2.1.0,
      ap (λ r. SymbolOf (record { name = symbol.name; kind = Predicate; args = symbol.args; result = r })) (sym none) ∙ ap (with_kind symbol) (sym is),
    )

decl_found : (w : DeclName) (r : List ℕ) → find decl_name decl_names (decl_name w ++ r) ≡ Some w
decl_found d.Sort r = refl
decl_found d.Function r = refl
decl_found d.Predicate r = refl

module _ (limit : ℕ) where
  numbers : Good limit (listed (number 4294967295)) Numbers ends
  numbers = good_list small_one limit 0 (number 4294967295) (small_good 0)

  quoted_before : Good limit quoted Quoted ends
  quoted_before = good_as limit quoted Quoted Quoted always ends (good_quoted limit) (λ n ts rest h. h) (λ n ts rest h. h) (λ h e. refl)

  decl_good_by : (w : DeclName) → Good limit (decl_by w) (DeclBy w) ends
  decl_good_by d.Sort = good_map limit quoted (decl_by d.Sort) Quoted (DeclBy d.Sort) ends Sort (λ ts. refl) quoted_before (λ v ts rest h. (refl, h.0, (h.1, tt))) split_sort
  decl_good_by d.Function =
      good_map limit (both quoted (both (listed (number 4294967295)) (number 4294967295))) (decl_by d.Function) FunctionParts (DeclBy d.Function) ends function_of (λ ts. refl)
      (good_two limit quoted (both (listed (number 4294967295)) (number 4294967295)) Quoted Typed always ends (good_quoted limit)
      (good_two limit (listed (number 4294967295)) (number 4294967295) Numbers One ends ends numbers (small_good 0) link_one) (λ v mid rest h e. refl))
      join_function split_function
  decl_good_by d.Predicate =
      good_map limit (both quoted (listed (number 4294967295))) (decl_by d.Predicate) PredicateParts (DeclBy d.Predicate) ends predicate_of (λ ts. refl)
      (good_two limit quoted (listed (number 4294967295)) Quoted Numbers always ends (good_quoted limit) numbers (λ v mid rest h e. refl)) join_predicate split_predicate

  abbrev DeclHead : Rule ℕ DeclName
  DeclHead = After 32 0 (λ w. w) (Named decl_name 0)

  decl_text_on : (decl : Decl) (rest : List (Nested ℕ)) → at_level 0 (decl_text decl) ++ rest ≡ (32, 0) ∷ (at_level 0 (decl_name (decl_head decl)) ++ (at_level 0 (decl_rest decl) ++ rest))
  decl_text_on decl rest = ap (λ l. at_level 0 l ++ rest) (decl_parts decl) ∙ level_on (word (decl_name (decl_head decl))) (decl_rest decl) rest

  decl_joined : (decl : Decl) (us mid rest : List (Nested ℕ)) → us ≡ at_level 0 (decl_name (decl_head decl)) ++ mid → mid ≡ at_level 0 (decl_rest decl) ++ rest → (32, 0) ∷ us ≡ at_level 0 (decl_text decl) ++ rest
  decl_joined decl us mid rest h k = ap (λ l. (32, 0) ∷ l) (h ∙ ap (λ l. at_level 0 (decl_name (decl_head decl)) ++ l) k) ∙ sym (decl_text_on decl rest)

  decl_join : (w : DeclName) (decl : Decl) (ts mid rest : List (Nested ℕ)) → DeclHead w ts mid → DeclBy w decl mid rest → DeclSays decl ts rest
  decl_join w decl ts mid rest (after {ts = us} h) k = (decl_joined decl us mid rest (h ∙ ap (λ v. at_level 0 (decl_name v) ++ mid) (sym k.0)) k.1, k.2)

  decl_split : (decl : Decl) (ts rest : List (Nested ℕ)) → DeclSays decl ts rest → Parts DeclHead DeclBy always decl ts rest
  decl_split decl ts rest h = record {
    value = decl_head decl;
    mid = at_level 0 (decl_rest decl) ++ rest;
    first = subst (λ us. DeclHead (decl_head decl) us (at_level 0 (decl_rest decl) ++ rest)) (sym (h.0 ∙ decl_text_on decl rest)) (after refl);
    second = (refl, refl, h.1);
    ends = refl;
  }

  pub good_declaration : Good limit declaration DeclSays ends
  unfolding declaration head
  good_declaration =
      good_then limit (head decl_name decl_names) decl_by DeclHead DeclBy DeclSays always ends
      (good_opened (is_byte 32) 32 (is_kind 32) limit 0 (omega arith) (name decl_name decl_names) (Named decl_name 0) always (good_name decl_name decl_names d.Sort decl_found limit 0 (omega arith)))
      (λ w can. decl_good_by w) decl_join (λ decl ts rest h e. decl_split decl ts rest h)
