-- What a text denotes, and a derivation that is found, leave a vocabulary whose names say what they mean.
use Rattle.std.proofs.Common.{◌≡◌, ℕ, zero, suc, ◌+◌, ◌<◌, ◌≤◌, ◌^◌, List, [], ◌∷◌, ◌++◌, length, slice_get, Some, None, Ok, refl, sym, ◌∙◌, ap, subst, arith}
use Rattle.std.proofs.lemmas.List.{length-append}
use Rattle.std.proofs.lemmas.Option.{slice_get_within}
use Rattle.tptp_base.specs.declared.item.Item.{Item}
use Rattle.fof_terms.specs.Vocabulary.{Vocabulary}
use Rattle.fof_terms.specs.declared.signature.Symbol.{Symbol}
use Rattle.sort_check.specs.Symbols.{Text}
use Rattle.sort_check.specs.Texts.{denoted}
use Rattle.sort_check.specs.declared.line.Line.{Line}
use Rattle.sort_check.specs.declared.line.GivenEntry.{GivenEntry}
use Rattle.sort_check.specs.declared.line.TextKind.{TextKind}
use Rattle.prove_out.specs.Unambiguous.{IsUnambiguous}
use Rattle.printed_clauses.specs.Prefixes.{prefix_of}
use Rattle.step_clauses.specs.declared.existentials.Existential.{Existential}
use Rattle.given_parts.specs.Functions.{functions_from, used_existentials}
use Rattle.given_parts.specs.Parts.{parts_of}
use Rattle.refutation_lines.specs.Plans.{used_in}
use Rattle.refutation_lines.specs.declared.derivation.Derivation.{Derivation}
use Rattle.problem_proofs.specs.Found.{IsFound, refutation_by, vocabulary_of}
use Rattle.unambiguous_names.proofs.Names.{Keeps, keeps}
use Rattle.unambiguous_names.proofs.Lines.{text_steps}
use Rattle.unambiguous_names.proofs.Fresh.{free_from, functions_keep}

pub text_keeps : (items : List Item) (v w : Vocabulary) (kind : TextKind) (lines : List Line) → denoted items v kind ≡ Ok (lines, w) → IsUnambiguous v → IsUnambiguous w
text_keeps items v w kind lines e = text_steps Keeps keeps items v w kind lines e

-- where there is one sort at most and no symbol
pub none_named : (v : Vocabulary) → length v.sorts ≤ 1 → v.symbols ≡ [] → IsUnambiguous v
none_named v few none = record { symbols = symbols; sorts = sorts }
  where
    symbols : (i j : ℕ) (s t : Symbol) → slice_get v.symbols i ≡ Some s → slice_get v.symbols j ≡ Some t → s.name ≡ t.name → s.kind ≡ t.kind → length s.args ≡ length t.args → i ≡ j
    symbols i j s t at other named of_kind count = let absent : None ≡ Some s = ap (λ (l : List Symbol). slice_get l i) (sym none) ∙ at in cc

    sorts : (i j : ℕ) (name : Text) → 0 < i → 0 < j → slice_get v.sorts i ≡ Some name → slice_get v.sorts j ≡ Some name → i ≡ j
    sorts i j name first second at other = omega (arith, slice_get_within v.sorts i name at, slice_get_within v.sorts j name other)

-- ---- a derivation

pub as_many : (prefix : Text) (k : ℕ) (es : List Existential) → length (functions_from prefix k es) ≡ length es
as_many prefix k [] = refl
as_many prefix k (e ∷ es) = ap suc (as_many prefix (k + 1) es)

module _ (v : Vocabulary) (given : List GivenEntry) (limit : ℕ) (d : Derivation) (u : IsUnambiguous v) (found : IsFound v given limit d) where
  abbrev pub used_by : List Existential
  used_by = used_existentials (used_in (refutation_by v given found.members found.last) found.derivation.needed) (parts_of given)

  pub functions_are : d.functions ≡ functions_from (prefix_of found.underscores) 1 used_by
  functions_are = ap (λ (e : Derivation). e.functions) found.derivation.is

  pub derivation_is : length (vocabulary_of v d).symbols ≤ 16777216 → IsUnambiguous (vocabulary_of v d)
  derivation_is few =
      let prefix = prefix_of found.underscores in
      let count = length-append v.symbols d.functions in
      let same = ap (λ (symbols : List Symbol). length symbols) functions_are ∙ as_many prefix 1 used_by in
      let room : 1 + length used_by ≤ 2 ^ 64 = omega arith in
      let whole = functions_keep prefix used_by v 1 room (free_from prefix v 1 found.free.free) u in
      subst (λ (symbols : List Symbol). IsUnambiguous (record v { symbols = v.symbols ++ symbols })) (sym functions_are) whole
