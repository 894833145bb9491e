-- What the sources of lines are read as.
use Rattle.std.specs.Prelude.{◌≡◌, Bool, true, false, List, [], ◌∷◌, map, Some, None, codes, if◌then◌else◌, refl}
use Rattle.std.specs.List.{AllByRecursion}
use Rattle.std.specs.Option.{option_map}
use Rattle.std.proofs.Common.{ap, ◌∙◌}
use Rattle.tptp_base.specs.declared.name.Name.{Name}
use Rattle.tptp_base.specs.declared.name.Name.TheVariants as name
use Rattle.tptp_base.specs.declared.item.GTerm.TheVariants as general
use Rattle.tptp_base.specs.declared.item.GTerm.TheBlock.{hidden-the_row-GTerm-0}
use denote.Hole.Carrier.{hidden}
use Rattle.tstp_graph.specs.declared.cite.Cite.{Cite}
use Rattle.tstp_graph.specs.declared.cite.Cite.TheVariants.{Named, Filed}
use Rattle.tstp_graph.specs.Sources.{both, cited, member, members, source_of}
use Rattle.tstp_graph.specs.Words.{is_unknown, record_kind}
use Rattle.derivation_items.specs.Sources.{inference_term, name_term}
use Rattle.derivation_items.specs.Words.{Text}
use Rattle.derivation_order.specs.Graphs.{IsName}

abbrev pub named : Text → Cite
named word = Named (name.Word word)

abbrev pub IsKnownWord : Text → Type 0
IsKnownWord word = is_unknown word ≡ false

one_cited : (word : Text) → IsKnownWord word → cited Named (name.Word word) ≡ named word ∷ []
one_cited word known = ap (λ (b : Bool). if b then [] else named word ∷ []) known

words_cited : (words : List Text) → AllByRecursion IsKnownWord words → members (hidden-the_row-GTerm-0 (map general.Word words)) ≡ Some (map named words)
unfolding member hidden-the_row-GTerm-0 hidden
words_cited [] h = refl
words_cited (word ∷ words) h =
    ap (λ (c : List Cite). both (Some c) (members (hidden-the_row-GTerm-0 (map general.Word words)))) (one_cited word h.0) ∙ ap (both (Some (named word ∷ []))) (words_cited words h.1)

pub inference_read : (rule status : Text) (words : List Text) → AllByRecursion IsKnownWord words → source_of (Some (inference_term rule status words)) ≡ Some (record { is_step = true; gives = map named words })
unfolding member hidden-the_row-GTerm-0 hidden record_kind
inference_read rule status words h = ap (option_map (λ (c : List Cite). record { is_step = true; gives = c })) (words_cited words h)

pub file_read : (file : Text) (n : Name) → IsName n → source_of (Some (general.Func (codes "file") (general.Word file ∷ name_term n ∷ []))) ≡ Some (record { is_step = false; gives = cited Filed n })
unfolding member hidden-the_row-GTerm-0 hidden record_kind
file_read file (name.Word word) is = refl
file_read file (name.Integer number) is = ap (λ (b : Bool). option_map (λ (c : List Cite). record { is_step = false; gives = c }) (option_map (cited Filed) (if b then Some (name.Integer number) else None))) is
