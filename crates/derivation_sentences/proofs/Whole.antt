-- The items of a derivation denote its lines.
use Rattle.std.proofs.Common.{◌≡◌, ℕ, suc, ◌+◌, ◌≤◌, true, false, List, [], ◌∷◌, ◌++◌, length, map, drop, Ok, sym, ◌∙◌, ap, subst, arith}
use Rattle.std.specs.List.{All as Each, AllByRecursion}
use Rattle.std.proofs.Math.Seq.{drop-append_seam}
use Rattle.std.proofs.lemmas.List.{append_assoc, length-append}
use Rattle.std.proofs.lemmas.List.Elements.{recursion_from_All}
use Rattle.tptp_base.specs.declared.item.Item.{Item}
use Rattle.tptp_base.specs.declared.item.Typing.{Typing}
use Rattle.fof_terms.specs.Sorts.{is_sorted}
use Rattle.fof_terms.specs.Vocabulary.{IsDeclared, Vocabulary}
use Rattle.fof_terms.specs.declared.signature.Symbol.{Symbol}
use Rattle.clause_rules.specs.Steps.{IsReady}
use Rattle.sort_check.specs.declared.line.GivenEntry.{GivenEntry}
use Rattle.sort_check.specs.declared.line.TextKind.TheVariants as kind
use Rattle.sort_check.specs.Symbols.{Text}
use Rattle.sort_check.specs.Texts.{Declared, denoted, type_lines}
use Rattle.prove_out.specs.Unambiguous.{IsUnambiguous}
use Rattle.printed_clauses.specs.Prefixes.{prefix_of}
use Rattle.derivation_items.specs.Items.{typing_item, typing_items}
use Rattle.derivation_items.specs.Typings.{function_typing, sort_typing, typings_of}
use Rattle.derivation_items.specs.declared.line.ProofLine.{ProofLine}
use Rattle.given_parts.specs.Functions.{functions_from}
use Rattle.refutation_lines.specs.declared.derivation.Derivation.{Derivation}
use Rattle.limited_items.specs.Printed.{ArePrinted}
use Rattle.problem_proofs.specs.Found.{IsFound, vocabulary_of}
use Rattle.problem_proofs.proofs.Finding.{functions_known}
use Rattle.unambiguous_names.proofs.Fresh.{free_from}
use Rattle.unambiguous_names.proofs.Whole.{as_many, derivation_is, functions_are, used_by}
use Rattle.derivation_sentences.specs.Denoted.{denoted_lines}
use Rattle.derivation_sentences.proofs.Typing.{functions_typed, sorts_there, sorts_typed, types_both}
use Rattle.derivation_sentences.proofs.Denoting.{all_lines, behind_types, no_types, whole_denotes}

-- type lines of two lists
pub items_both : (k : ℕ) (xs ys : List Typing) → typing_items k (xs ++ ys) ≡ typing_items k xs ++ typing_items (k + length xs) ys
items_both k [] ys = let same : k ≡ k + 0 = omega arith in ap (λ (n : ℕ). typing_items n ys) same
items_both k (x ∷ xs) ys =
    let same : k + 1 + length xs ≡ k + suc (length xs) = omega arith in
    ap (λ (l : List Item). typing_item k x ∷ l) (items_both (k + 1) xs ys ∙ ap (λ (n : ℕ). typing_items (k + 1) xs ++ typing_items n ys) same)

module _ (v : Vocabulary) (given : List GivenEntry) (limit : ℕ) (d : Derivation) (u : IsUnambiguous v) (ready : Each (λ (g : GivenEntry). IsReady v g.form) given) (found : IsFound v given limit d) (few : length (vocabulary_of v d).symbols ≤ 16777216) where
  abbrev whole : Vocabulary
  whole = vocabulary_of v d

  abbrev sort_lines : List Typing
  sort_lines = map sort_typing (drop 1 v.sorts)

  abbrev function_lines : List Typing
  function_lines = map (function_typing whole) d.functions

  -- the type lines of the functions, behind those of the sorts
  functions_in : (j : ℕ) → (new : List Text) × (type_lines (typing_items j function_lines) (record { vocabulary = v; names = [] }) ≡ Ok (tt, record { vocabulary = whole; names = new }))
  functions_in j =
      let prefix = prefix_of found.underscores in
      let es = used_by v given limit d u found in
      let are : d.functions ≡ functions_from prefix 1 es = functions_are v given limit d u found in
      let count = length-append v.symbols d.functions in
      let same = ap (λ (symbols : List Symbol). length symbols) are ∙ as_many prefix 1 es in
      let known = recursion_from_All (IsDeclared (length v.sorts)) (functions_from prefix 1 es) (subst (Each (IsDeclared (length v.sorts))) are (functions_known v given limit d found ready)) in
      let typed = functions_typed v whole.symbols prefix es v.symbols 1 j [] (omega (arith, few, count, same)) (omega (arith, few, count, same)) (free_from prefix v 1 found.free.free) u known in
      (typed.0, subst (λ (fs : List Symbol). type_lines (typing_items j (map (function_typing whole) fs)) (record { vocabulary = v; names = [] }) ≡ Ok (tt, record { vocabulary = record v { symbols = v.symbols ++ fs }; names = typed.0 })) (sym are) typed.1)

  typings_are : typings_of whole (length v.symbols) ≡ sort_lines ++ function_lines
  typings_are = ap (λ (fs : List Symbol). sort_lines ++ map (function_typing whole) fs) (drop-append_seam v.symbols d.functions)

  types_in : (rest : List Item) → type_lines rest (record { vocabulary = whole; names = (functions_in (0 + length sort_lines)).0 }) ≡ Ok (tt, record { vocabulary = whole; names = (functions_in (0 + length sort_lines)).0 })
      → type_lines (typing_items 0 (typings_of whole (length v.symbols)) ++ rest) (record { vocabulary = v; names = [] }) ≡ Ok (tt, record { vocabulary = whole; names = (functions_in (0 + length sort_lines)).0 })
  types_in rest last =
      let start : Declared = record { vocabulary = v; names = [] } in
      let end : Declared = record { vocabulary = whole; names = (functions_in (0 + length sort_lines)).0 } in
      let first_items : List Item = typing_items 0 sort_lines in
      let second_items : List Item = typing_items (0 + length sort_lines) function_lines in
      let split : typing_items 0 (typings_of whole (length v.symbols)) ++ rest ≡ first_items ++ (second_items ++ rest) =
      ap (λ (ts : List Typing). typing_items 0 ts ++ rest) typings_are ∙ ap (λ (is : List Item). is ++ rest) (items_both 0 sort_lines function_lines) ∙ append_assoc first_items second_items rest
      in
      ap (λ (is : List Item). type_lines is start) split
      ∙ types_both first_items (second_items ++ rest) start start (sorts_typed (drop 1 v.sorts) 0 start (sorts_there v u))
      ∙ types_both second_items rest start end (functions_in (0 + length sort_lines)).1
      ∙ last

  pub items_denote : (file : Text) (lines : List ProofLine) (items : List Item) → AllByRecursion (λ (l : ProofLine). is_sorted (vocabulary_of v d) [] l.form ≡ true) lines → ArePrinted file (vocabulary_of v d) (length v.symbols) lines items
      → denoted items v kind.Derivation ≡ Ok (denoted_lines (length (typings_of (vocabulary_of v d) (length v.symbols))) lines, vocabulary_of v d)
  items_denote file lines items fit printed =
      let ts : List Typing = typings_of whole (length v.symbols) in
      let names : List Text = (functions_in (0 + length sort_lines)).0 in
      let rest : List Item = printed.of_lines in
      let unambiguous = derivation_is v given limit d u found few in
      let types = types_in rest (no_types file whole lines rest (record { vocabulary = whole; names = names }) printed.each) in
      let there = behind_types names ts 0 0 rest (record { vocabulary = whole; conjectured = false }) ∙ all_lines file whole unambiguous names lines rest (0 + length ts) fit printed.each in
      let number : 0 + length ts ≡ length ts = omega arith in
      subst (λ (is : List Item). denoted is v kind.Derivation ≡ Ok (denoted_lines (length ts) lines, whole)) (sym printed.are)
      (subst (λ (n : ℕ). denoted (typing_items 0 ts ++ rest) v kind.Derivation ≡ Ok (denoted_lines n lines, whole)) number
      (whole_denotes (typing_items 0 ts ++ rest) v whole names (denoted_lines (0 + length ts) lines) types there))
