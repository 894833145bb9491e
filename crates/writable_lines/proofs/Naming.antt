-- The names of lines, those in their sources, and those of the functions of a derivation that is found can be written.
use Rattle.std.specs.Prelude.{ℕ, zero, suc, ◌≡◌, ◌<◌, ◌≤◌, ◌+◌, ◌^◌, Bool, true, false, if◌then◌else◌, List, [], ◌∷◌, ◌++◌, length, get_or, replicate, codes, take, Some, slice_get, refl}
use Rattle.std.specs.List.{AllByRecursion, list_all}
use Rattle.std.proofs.Common.{ap, sym, subst, ◌∙◌, arith}
use Rattle.std.proofs.lemmas.Bool.{and_from, and_parts}
use Rattle.std.proofs.lemmas.List.{length-append, length-map}
use Rattle.std.proofs.lemmas.List.FromFn.{length-map-range_with_len}
use Rattle.std.proofs.lemmas.List.Sums.{AllPass-from_list_all}
use Rattle.std.proofs.lemmas.Option.{slice_get_within}
use Rattle.tptp_base.specs.Quotable.{is_printable, IsQuotable}
use Rattle.tptp_base.specs.declared.name.Name.{Name}
use Rattle.tptp_base.specs.declared.name.Name.TheVariants as name
use Rattle.fof_terms.specs.Vocabulary.{Vocabulary}
use Rattle.fof_terms.specs.declared.form.Form.{Form}
use Rattle.fof_terms.specs.declared.signature.Symbol.{Symbol}
use Rattle.clause_form.specs.declared.clause.Clause.{Clause}
use Rattle.saturation.specs.declared.member.Member.{Member}
use Rattle.saturation.specs.declared.member.Origin.{Origin}
use Rattle.saturation.specs.declared.member.Origin.TheVariants.{Input, Inferred}
use Rattle.sort_check.specs.declared.line.GivenEntry.{GivenEntry}
use Rattle.printed_clauses.specs.Prefixes.{prefix_of}
use Rattle.printed_forms.specs.Words.{AreNamed, HasSpelling, HasWords}
use Rattle.derivation_items.specs.Words.{Text, numbered_word}
use Rattle.derivation_items.specs.declared.line.LineSource.{LineSource}
use Rattle.derivation_items.specs.declared.line.LineSource.TheVariants as sources
use Rattle.derivation_items.specs.declared.line.ProofLine.{ProofLine}
use Rattle.step_clauses.specs.declared.existentials.Existential.{Existential}
use Rattle.given_parts.specs.Chosen.{chosen_from}
use Rattle.given_parts.specs.Functions.{functions_from, used_existentials}
use Rattle.given_parts.specs.Parts.{part_of, parts_of}
use Rattle.given_parts.specs.declared.part.Part.{Part}
use Rattle.refutation_lines.specs.Lines.{given_lines, inferred_lines, input_lines, last_line, lines_of, lines_of_member, skolem_line, skolem_lines}
use Rattle.refutation_lines.specs.Names.{has_some}
use Rattle.refutation_lines.specs.Needs.{prints_input}
use Rattle.refutation_lines.specs.Places.{is_inferred}
use Rattle.refutation_lines.specs.Plans.{Refutation, places_in, plan_of, printed_in, ranks_in, used_in}
use Rattle.refutation_lines.specs.declared.derivation.Derivation.{Derivation}
use Rattle.refutation_lines.specs.declared.plan.Plan.{Plan}
use Rattle.step_search.proofs.ClauseSuits.{each_of_both}
use Rattle.problem_proofs.specs.Found.{IsFound, refutation_by, vocabulary_of}
use Rattle.derivation_order.specs.Graphs.{AreNames, IsName}
use Rattle.derivation_order.specs.Links.{AreLinked, AreNamesIn, IsFrom, IsNameIn}
use Rattle.derivation_order.proofs.Chosen.{taken_at}
use Rattle.derivation_order.proofs.Cited.{is_linked}
use Rattle.derivation_order.proofs.Found.{found_linked, is_sound, lines_are}
use Rattle.derivation_order.proofs.Marked.{IsSound}
use Rattle.derivation_order.proofs.Ranks.{place_within, rank_within}
use Rattle.derivation_sentences.proofs.Owned.{one_of_all}
use Rattle.spelled_items.specs.Writable.{is_name, is_source, is_word}
use Rattle.spelled_items.proofs.TypeLines.{quotable_word}
use Rattle.spelled_items.proofs.Whole.{numbered_is_word}
use Rattle.unambiguous_names.proofs.Whole.{as_many}
use Rattle.writable_lines.specs.Written.{HasNames, HaveNames}
use Rattle.writable_lines.proofs.Each.{each_chosen, each_of}

-- ---- names of lines

abbrev IsLineNamed : ProofLine → Type 0
IsLineNamed l = is_word l.name ≡ true

module _ (r : Refutation) (needed : List Bool) (s : IsSound r needed) where
  abbrev plan : Plan
  plan = plan_of r needed

  printed_long : length (printed_in r needed) ≡ length r.inputs
  printed_long = length-map-range_with_len (prints_input needed r.members) 0 (length r.inputs)

  given_named : (k : ℕ) (g : GivenEntry) → slice_get r.given k ≡ Some g → AllByRecursion IsLineNamed (given_lines (0 + k) g)
  given_named k g at =
      let fits = slice_get_within r.given k g at in
      let few = s.few_given in
      (numbered_is_word (codes "f") (0 + k) refl (omega arith), tt)

  skolem_named : (k : ℕ) (q : Part) → slice_get (parts_of r.given) k ≡ Some q → AllByRecursion IsLineNamed (skolem_lines plan.numbers.firsts (0 + k) q)
  skolem_named k q at = by (has_some q.existentials)
    where
      few : 0 + k < 2 ^ 64
      few = omega (arith, slice_get_within (parts_of r.given) k q at, length-map r.given (λ (g : GivenEntry). part_of g.form), s.few_given)

      by : (b : Bool) → AllByRecursion IsLineNamed (if b then skolem_line plan.numbers.firsts (0 + k) q ∷ [] else [])
      by true = (numbered_is_word (codes "s") (0 + k) refl few, tt)
      by false = tt

  rank_fits : (i : ℕ) → i ≤ length r.inputs → get_or (ranks_in r needed) i 0 < 2 ^ 64
  rank_fits i le = let long = printed_long in omega (arith, (rank_within 0 (printed_in r needed) i (omega (arith, long, le))).1, le, s.few_clauses)

  input_named : (k : ℕ) (c : Clause) → slice_get r.inputs k ≡ Some c → AllByRecursion IsLineNamed (input_lines plan (0 + k) c)
  input_named k c at =
      let same : k ≡ 0 + k = omega arith in
      let fits = slice_get_within r.inputs k c at in
      let few : get_or (ranks_in r needed) k 0 < 2 ^ 64 = rank_fits k (omega arith) in
      (numbered_is_word (codes "c") (get_or (ranks_in r needed) (0 + k) 0) refl (subst (λ (n : ℕ). get_or (ranks_in r needed) n 0 < 2 ^ 64) same few), tt)

  place_fits : (j : ℕ) (m : Member) → slice_get r.members j ≡ Some m → is_inferred m.origin ≡ true → get_or (places_in r needed) j 0 < 2 ^ 64
  place_fits j m at inferred =
      let long : length needed ≡ length r.members = s.are.count in
      let fits = slice_get_within r.members j m at in
      let start = (rank_within 0 (printed_in r needed) (length r.inputs) (omega (arith, printed_long))).1 in
      let most = (place_within (ranks_in r needed) (get_or (ranks_in r needed) (length r.inputs) 0) needed r.members j m (omega (arith, long, fits)) at inferred).1 in
      omega (arith, start, most, fits, s.few_clauses)

  member_named : (k : ℕ) (m : Member) → slice_get r.members k ≡ Some m → AllByRecursion IsLineNamed (inferred_lines plan (0 + k) m)
  member_named k m at = by m.origin refl
    where
      few : is_inferred m.origin ≡ true → get_or (places_in r needed) (0 + k) 0 < 2 ^ 64
      few inferred = let same : k ≡ 0 + k = omega arith in subst (λ (n : ℕ). get_or (places_in r needed) n 0 < 2 ^ 64) same (place_fits k m at inferred)

      by : (o : Origin) → m.origin ≡ o → AllByRecursion IsLineNamed (lines_of_member plan (0 + k) m.clause o)
      by (Input n) is = tt
      by (Inferred a b images) is = (numbered_is_word (codes "c") (get_or (places_in r needed) (0 + k) 0) refl (few (ap is_inferred is)), tt)

  all_named : AllByRecursion IsLineNamed (lines_of r plan)
  all_named =
      let first = each_chosen IsLineNamed given_lines 0 plan.used r.given given_named in
      let second = each_chosen IsLineNamed (skolem_lines plan.numbers.firsts) 0 plan.used (parts_of r.given) skolem_named in
      let third = each_chosen IsLineNamed (input_lines plan) 0 plan.printed r.inputs input_named in
      let fourth = each_chosen IsLineNamed (inferred_lines plan) 0 plan.needed r.members member_named in
      let front = chosen_from 0 given_lines plan.used r.given in
      let skolems = chosen_from 0 (skolem_lines plan.numbers.firsts) plan.used (parts_of r.given) in
      let inputs = chosen_from 0 (input_lines plan) plan.printed r.inputs in
      let members = chosen_from 0 (inferred_lines plan) plan.needed r.members in
      each_of_both IsLineNamed (front ++ skolems ++ inputs ++ members) (last_line plan r.last.origin ∷ [])
      (each_of_both IsLineNamed (front ++ skolems ++ inputs) members (each_of_both IsLineNamed (front ++ skolems) inputs (each_of_both IsLineNamed front skolems first second) third) fourth)
      (refl, tt)

-- ---- sources

spelled_name : (n : Name) → HasSpelling n → is_name n ≡ true
spelled_name (name.Word word) is = quotable_word word is
spelled_name (name.Integer number) is = is

own_name : (n : Name) → HasSpelling n → IsName n
own_name (name.Word word) is = tt
own_name (name.Integer number) is = is

pub names_are : (given : List GivenEntry) → AreNamed given → AreNames given
names_are given named k entry at = own_name entry.name (one_of_all (λ (g : GivenEntry). HasSpelling g.name) given k entry named at)

-- lines that are linked, whose names can be written
module _ (given : List GivenEntry) (lines : List ProofLine) (named : AllByRecursion IsLineNamed lines) (entries : AreNamed given) where
  word_there : (n : ℕ) (word : Text) → IsNameIn (take n lines) word → is_word word ≡ true
  word_there n word there =
      let own = taken_at n lines there.0 there.1 there.2 in
      subst (λ (w : Text). is_word w ≡ true) there.3 (one_of_all IsLineNamed lines there.0 there.1 named own.1)

  words_there : (n : ℕ) (words : List Text) → AreNamesIn (take n lines) words → list_all is_word words ≡ true
  words_there n [] there = refl
  words_there n (word ∷ words) there = and_from (is_word word) (list_all is_word words) (word_there n word there.0) (words_there n words there.2)

  source_there : (n : ℕ) (form : Form) (source : LineSource) → IsFrom given (take n lines) form source → is_source source ≡ true
  source_there n form (sources.Given own) from =
      let entry = one_of_all (λ (g : GivenEntry). HasSpelling g.name) given from.1.at from.0 entries from.1.there in
      subst (λ (x : Name). is_name x ≡ true) (sym from.2) (spelled_name from.0.name entry)
  source_there n form (sources.Skolemized word) from = word_there n word from
  source_there n form (sources.ClauseOf word) from = word_there n word from
  source_there n form (sources.Inferred words) from = words_there n words from

  sources_there : AreLinked given lines → HaveNames lines
  sources_there linked = each_of HasNames lines (λ k line at. record {
    word = one_of_all IsLineNamed lines k line named at;
    source = source_there k line.form line.source (is_linked given lines k line linked at).from;
  })

pub lines_named : (v : Vocabulary) (given : List GivenEntry) (limit : ℕ) (d : Derivation) → length given < 2 ^ 64 → limit < 2 ^ 32 → AreNamed given → IsFound v given limit d → HaveNames d.lines
lines_named v given limit d few small entries found =
    let r = refutation_by v given found.members found.last in
    let named = all_named r found.derivation.needed (is_sound v given limit d found few small) in
    sources_there given d.lines (subst (AllByRecursion IsLineNamed) (sym (lines_are v given limit d found)) named) entries (found_linked v given limit d found few small)

-- ---- functions

underscores_printable : (n : ℕ) → list_all is_printable (replicate n 95) ≡ true
underscores_printable zero = refl
underscores_printable (suc n) = and_from (is_printable 95) (list_all is_printable (replicate n 95)) refl (underscores_printable n)

prefix_printable : (n : ℕ) → list_all is_printable (prefix_of n) ≡ true
prefix_printable n = underscores_printable n

word_quotable : (word : Text) → is_word word ≡ true → 0 < length word → IsQuotable word
word_quotable word is some = record { some = some; printable = AllPass-from_list_all is_printable word (and_parts _ (list_all is_printable word) is).1 }

abbrev IsSymbolNamed : Symbol → Type 0
IsSymbolNamed s = IsQuotable s.name

functions_named : (n k : ℕ) (es : List Existential) → k + length es ≤ 2 ^ 64 → AllByRecursion IsSymbolNamed (functions_from (prefix_of n) k es)
functions_named n k [] few = tt
functions_named n k (e ∷ es) few =
    let below : k < 2 ^ 64 = omega arith in
    (word_quotable (numbered_word (prefix_of n) k) (numbered_is_word (prefix_of n) k (prefix_printable n) below) (omega arith), functions_named n (k + 1) es (omega arith))

pub derivation_words : (v : Vocabulary) (given : List GivenEntry) (limit : ℕ) (d : Derivation) → HasWords v → IsFound v given limit d → length (vocabulary_of v d).symbols ≤ 16777216 → HasWords (vocabulary_of v d)
derivation_words v given limit d has found few =
    let r = refutation_by v given found.members found.last in
    let es : List Existential = used_existentials (used_in r found.derivation.needed) (parts_of given) in
    let are : d.functions ≡ functions_from (prefix_of found.underscores) 1 es = ap (λ (e : Derivation). e.functions) found.derivation.is in
    let count = length-append v.symbols d.functions in
    let same = ap (λ (symbols : List Symbol). length symbols) are ∙ as_many (prefix_of found.underscores) 1 es in
    let named = subst (AllByRecursion IsSymbolNamed) (sym are) (functions_named found.underscores 1 es (omega (arith, few, count, same))) in
    record { symbols = each_of_both IsSymbolNamed v.symbols d.functions has.symbols named; sorts = has.sorts }
