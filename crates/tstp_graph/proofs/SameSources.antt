-- The code reads sources as specs/Sources says.
use Rattle.std.specs.Prelude.{is_some, nat_le}
use Rattle.std.proofs.Common.{◌≡◌, ℕ, suc, ◌==◌, ◌||◌, length, Bool, true, false, not, cond, List, [], ◌∷◌, ◌++◌, ◌&&◌, map, Option, None, Some, refl, sym, ◌∙◌, ap, subst, arith}
use Rattle.std.proofs.lemmas.Bool.Decides.{nat_tests}
use Rattle.std.specs.List.{AllByRecursion}
use Rattle.std.specs.Option.{option_map, option_map_or}
use Rattle.tptp_base.specs.declared.name.Name.{Name}
use Rattle.tptp_base.specs.declared.name.Name.TheVariants as name
use Rattle.tptp_base.specs.declared.item.GTerm.{GTerm, Word, Func, Number, List as Members, Pair}
use Rattle.tptp_base.specs.declared.item.GTerm.TheBlock.{hidden-the_row-GTerm-0, hidden-the_row-GTerm-1}
use Rattle.tptp_base.specs.declared.item.GTerm.TheViews.{roll-GTerm}
use Rattle.tptp_base.specs.declared.item.GTerm.TheFolds.{ind-GTerm, map-GTerm}
use denote.Hole.Carrier.{roll, hidden}
use Rattle.tstp_graph.specs.declared.cite.Cite.{Cite}
use Rattle.tstp_graph.specs.declared.cite.Cite.TheVariants.{Named, Filed}
use Rattle.tstp_graph.specs.declared.cite.Reading.{Reading}
use Rattle.tstp_graph.specs.declared.word.RecordKind.{RecordKind}
use Rattle.tstp_graph.specs.declared.word.RecordKind.TheVariants.{Inference, Introduced, File, Theory, Other}
use Rattle.tstp_graph.specs.Sources.{name_of, cited, is_list, both, member, members, listed, of_record, is_step_record, Source, source_of}
use Rattle.tstp_graph.specs.Words.{is_unknown, record_kind}
use Rattle.tptp_base.specs.Numerals.{is_integer}
use Rattle.tstp_graph.specs.code.Sources.{nothing, named, word_reading, number_reading, list_reading, pair_reading, record_reading, filed, reading}
use Rattle.tptp_base.specs.declared.item.GTerm.TheVariants as term
use Rattle.tptp_base.specs.declared.item.GTerm.TheOpen as open_term
use Rattle.tstp_graph.specs.code.Sources as code
use Rattle.tstp_graph.proofs.Readings.{reading-Word, reading-Func, reading-Var, reading-Number, reading-Distinct, reading-Formula, reading-Term, reading-List, reading-Pair}

-- what a term gives, where it is well formed
abbrev pub as_member : Reading → Option (List Cite)
as_member r = cond r.is_good (Some r.gives) None

-- the source, where it is well formed
abbrev pub as_source : Reading → Option Source
as_source r = cond r.is_good (Some (record { is_step = r.is_step; gives = r.gives })) None

-- the term is read as this
record Reads (t : GTerm) (r : Reading) : Type 0 where
  good : member t ≡ as_member r
  list : is_list t ≡ r.is_list
  members : listed t ≡ cond (r.is_list && r.is_good) (Some r.gives) None
  name : name_of t ≡ r.name
  source : source_of (Some t) ≡ as_source (cond r.is_read r nothing)

abbrev IsRead : GTerm → Type 0
IsRead t = Reads t (reading t)

both_as : (a b : Bool) (x y : List Cite) → both (cond a (Some x) None) (cond b (Some y) None) ≡ cond (a && b) (Some (x ++ y)) None
both_as true true x y = refl
both_as true false x y = refl
both_as false b x y = refl

step_as : (s g : Bool) (x : List Cite) → ◌≡◌ {A = Option Source} (option_map (λ cites. record { is_step = s; gives = cites }) (cond g (Some x) None)) (cond g (Some (record { is_step = s; gives = x })) None)
step_as s true x = refl
step_as s false x = refl

within : (x y : Bool) (o : Option (List Cite)) → cond x (cond y o None) None ≡ cond (x && y) o None
within true y o = refl
within false y o = refl

not_three : (n : ℕ) → (suc (suc (suc (suc n))) == 3) ≡ false
not_three n = grind (arith, nat_tests)

over_two : (n : ℕ) → nat_le (suc (suc (suc n))) 2 ≡ false
over_two n = grind (arith, nat_tests)

not_one : (n : ℕ) → (suc (suc (suc n)) == 1) ≡ false
not_one n = grind (arith, nat_tests)

not_two : (n : ℕ) → (suc (suc (suc n)) == 2) ≡ false
not_two n = grind (arith, nat_tests)

unlike : (b : Bool) (o : Option (List Cite)) → b ≡ false → None ≡ cond b o None
unlike true o e = absurd (cc)
unlike false o e = refl

and_false : (a b : Bool) → a ≡ false → (a && b) ≡ false
and_false true b e = absurd (cc)
and_false false b e = refl

or_false : (a b : Bool) → a ≡ false → b ≡ false → (a || b) ≡ false
or_false true b e f = absurd (cc)
or_false false b e f = f

-- what some terms give
all_read : (ts : List GTerm) → AllByRecursion IsRead ts → members (hidden-the_row-GTerm-0 ts) ≡ as_member (list_reading (map reading ts))
unfolding member hidden-the_row-GTerm-0 hidden
all_read [] each = refl
all_read (t ∷ ts) each =
    ap (λ o. both o (members (hidden-the_row-GTerm-0 ts))) each.0.good ∙ ap (both (as_member (reading t))) (all_read ts each.1)
    ∙ both_as (reading t).is_good (list_reading (map reading ts)).is_good (reading t).gives (list_reading (map reading ts)).gives

file_as : (o : Option Name) → option_map (cited Filed) o ≡ cond (is_some o) (Some (filed o)) None
file_as None = refl
file_as (Some (name.Word word)) = refl
file_as (Some (name.Integer number)) = refl

record_read : (kind : RecordKind) (args : List GTerm) → AllByRecursion IsRead args → of_record kind (hidden-the_row-GTerm-0 args) ≡ as_member (record_reading kind (map reading args))
unfolding member hidden-the_row-GTerm-0 hidden
record_read Inference [] each = refl
record_read Inference (a ∷ []) each = refl
record_read Inference (a ∷ b ∷ []) each = refl
record_read Inference (a ∷ b ∷ c ∷ []) each =
    ap (λ l. cond l (listed c) None) each.1.0.list ∙ ap (λ o. cond (reading b).is_list o None) each.1.1.0.members
    ∙ within (reading b).is_list ((reading c).is_list && (reading c).is_good) (Some (reading c).gives)
record_read Inference (a ∷ b ∷ c ∷ d ∷ more) each = unlike _ (Some (reading c).gives) (and_false _ _ (and_false _ _ (not_three (length (map reading more)))))
record_read Introduced [] each = refl
record_read Introduced (a ∷ []) each = refl
record_read Introduced (a ∷ b ∷ []) each = refl
record_read Introduced (a ∷ b ∷ c ∷ []) each = each.1.1.0.members
record_read Introduced (a ∷ b ∷ c ∷ d ∷ more) each =
    unlike _ (Some (reading c).gives) (or_false _ _ (over_two (suc (length (map reading more)))) (and_false _ _ (not_three (length (map reading more)))))
record_read File [] each = refl
record_read File (a ∷ []) each = refl
record_read File (a ∷ b ∷ []) each = ap (option_map (cited Filed)) each.1.0.name ∙ file_as (reading b).name
record_read File (a ∷ b ∷ c ∷ more) each =
    unlike _ (Some (filed (reading b).name)) (or_false _ _ (not_one (length (map reading more))) (and_false _ _ (not_two (length (map reading more)))))
record_read Theory args each = refl
record_read Other args each = refl

-- a name other than a word, and a word other than `unknown`
word_reads : (word : List ℕ) → Reads (term.Word word) (word_reading word)
unfolding member
word_reads word = by (is_unknown word) refl
  where
    leaf : Reading
    leaf = record nothing { name = Some (name.Word word) }

    cites : List Cite
    cites = Named (name.Word word) ∷ []

    gives : Bool → List Cite
    gives b = cond b [] cites

    by : (b : Bool) → is_unknown word ≡ b → Reads (term.Word word) (cond b leaf (named (name.Word word)))
    by true e = record { good = ap (λ b. Some (gives b)) e; list = refl; members = refl; name = refl; source = ap (λ b. Some (record { is_step = not b; gives = gives b })) e }
    by false e = record { good = ap (λ b. Some (gives b)) e; list = refl; members = refl; name = refl; source = ap (λ b. Some (record { is_step = not b; gives = gives b })) e }

number_reads : (number : List ℕ) → Reads (term.Number number) (number_reading number)
unfolding member
number_reads number = by (is_integer number) refl
  where
    named_if : Bool → Option Name
    named_if b = cond b (Some (name.Integer number)) None

    gives : Bool → List Cite
    gives b = option_map_or (cited Named) (named_if b) []

    by : (b : Bool) → is_integer number ≡ b → Reads (term.Number number) (cond b (named (name.Integer number)) nothing)
    by true e = record { good = ap (λ b. Some (gives b)) e; list = refl; members = refl; name = ap named_if e; source = ap (λ b. Some (record { is_step = b; gives = gives b })) e }
    by false e = record { good = ap (λ b. Some (gives b)) e; list = refl; members = refl; name = ap named_if e; source = ap (λ b. Some (record { is_step = b; gives = gives b })) e }

record_reads : (word : List ℕ) (args : List GTerm) → AllByRecursion IsRead args → Reads (term.Func word args) (record_reading (record_kind word) (map reading args))
unfolding member hidden-the_row-GTerm-0 hidden
record_reads word args each =
    let r = record_reading (record_kind word) (map reading args) in
    let good : of_record (record_kind word) (hidden-the_row-GTerm-0 args) ≡ as_member r = record_read (record_kind word) args each in
    record {
      good = good;
      list = refl;
      members = refl;
      name = refl;
      source = ap (option_map (λ cites. record { is_step = is_step_record (record_kind word); gives = cites })) good ∙ step_as (is_step_record (record_kind word)) r.is_good r.gives;
    }

list_reads : (terms : List GTerm) → AllByRecursion IsRead terms → Reads (term.List terms) (list_reading (map reading terms))
unfolding member hidden-the_row-GTerm-0 hidden
list_reads terms each =
    let r = list_reading (map reading terms) in
    let good : members (hidden-the_row-GTerm-0 terms) ≡ as_member r = all_read terms each in
    record {
      good = good;
      list = refl;
      members = good;
      name = refl;
      source = ap (option_map (λ cites. record { is_step = true; gives = cites })) good ∙ step_as true r.is_good r.gives;
    }

pair_reads : (left right : GTerm) → IsRead left → Reads (term.Pair left right) (pair_reading (reading left))
unfolding member hidden-the_row-GTerm-1 hidden
pair_reads left right is = record { good = is.good; list = refl; members = refl; name = refl; source = refl }

as_read : (t : GTerm) (r : Reading) → reading t ≡ r → Reads t r → IsRead t
as_read t r e reads = subst (Reads t) (sym e) reads

each_read : (es : List ((t : GTerm) × IsRead t)) → AllByRecursion IsRead (map (λ e. e.0) es)
each_read [] = tt
each_read (e ∷ es) = (e.1, each_read es)

layer_read : (y : open_term.GTerm-F ((t : GTerm) × IsRead t)) → IsRead (roll-GTerm (map-GTerm ((t : GTerm) × IsRead t) GTerm (λ e. e.0) y))
unfolding member roll-GTerm roll
layer_read (open_term.Word word) = as_read (term.Word word) (word_reading word) (reading-Word word) (word_reads word)
layer_read (open_term.Func word es) =
    let args = map (λ (e : (t : GTerm) × IsRead t). e.0) es in
    as_read (term.Func word args) (record_reading (record_kind word) (map reading args)) (reading-Func word args) (record_reads word args (each_read es))
layer_read (open_term.Var x) = as_read (term.Var x) nothing (reading-Var x) (record { good = refl; list = refl; members = refl; name = refl; source = refl })
layer_read (open_term.Number number) = as_read (term.Number number) (number_reading number) (reading-Number number) (number_reads number)
layer_read (open_term.Distinct text) = as_read (term.Distinct text) nothing (reading-Distinct text) (record { good = refl; list = refl; members = refl; name = refl; source = refl })
layer_read (open_term.Formula lang formula) = as_read (term.Formula lang formula) nothing (reading-Formula lang formula) (record { good = refl; list = refl; members = refl; name = refl; source = refl })
layer_read (open_term.Term t) = as_read (term.Term t) nothing (reading-Term t) (record { good = refl; list = refl; members = refl; name = refl; source = refl })
layer_read (open_term.List es) =
    let terms = map (λ (e : (t : GTerm) × IsRead t). e.0) es in
    as_read (term.List terms) (list_reading (map reading terms)) (reading-List terms) (list_reads terms (each_read es))
layer_read (open_term.Pair e f) = as_read (term.Pair e.0 f.0) (pair_reading (reading e.0)) (reading-Pair e.0 f.0) (pair_reads e.0 f.0 e.1)

is_read : (t : GTerm) → IsRead t
is_read = ind-GTerm IsRead (λ x y is. subst (λ z. IsRead (roll-GTerm z)) is (layer_read y))

-- the source of a line is the one that the code reads
pub same_source : (source : Option GTerm) → source_of source ≡ as_source (code.source_of source)
same_source None = refl
same_source (Some t) = (is_read t).source
