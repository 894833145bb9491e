-- What a derivation is made of.
use Rattle.std.specs.List.{All}
use Rattle.std.proofs.Common.{◌≡◌, ℕ, List, [], ◌∷◌, length, map, Result, Ok, Err, IfOk, refl, sym, ◌∙◌, ap, subst}
use Rattle.std.proofs.lemmas.List.{length-map}
use Rattle.std.proofs.lemmas.List.Elements.{All-nil, All-cons, All-head, All-tail}
use Rattle.tptp_base.specs.declared.item.Item.{Item}
use Rattle.tptp_base.specs.declared.item.Role.{Role}
use Rattle.tptp_base.specs.declared.item.Role.TheVariants.{Conjecture}
use Rattle.tptp_base.specs.declared.memory.Memory.{Memory}
use Rattle.tptp_base.specs.declared.name.Name.{Name}
use Rattle.fof_terms.specs.Vocabulary.{Vocabulary}
use Rattle.fof_terms.proofs.Scoped.{not_sorted}
use Rattle.fof_terms.specs.declared.form.Form.{Form}
use Rattle.sort_check.specs.declared.line.Line.{Line}
use Rattle.sort_check.specs.declared.line.TextKind.TheVariants as kind
use Rattle.sort_check.specs.Sorting.{AreSorted, IsSentence}
use Rattle.sort_check.specs.Texts.{denoted}
use Rattle.tstp_graph.specs.declared.shape.Graph.{Graph}
use Rattle.tstp_graph.specs.Graphs.{IsGraph}
use Rattle.tstp_graph.specs.Meaning.{means_of}
use Rattle.derivation_text.specs.declared.derivation.Derivation.{Derivation}
use Rattle.derivation_text.specs.Derivations.{AreDerivation, stands_for, denied_form, denied_forms, names_of, places_of}
use Rattle.derivation_text.proofs.OneNodeEach.{as_many}

stands_sorted : (v : Vocabulary) (role : Role) (a : Form) → IsSentence v a → IsSentence v (stands_for role a)
stands_sorted v Conjecture a good = not_sorted v [] 500 a good
stands_sorted v other a good = good

forms_sorted : (v : Vocabulary) (lines : List Line) → AreSorted v lines → All (IsSentence v) (denied_forms lines)
forms_sorted v [] all = All-nil (IsSentence v)
forms_sorted v (l ∷ lines) all =
    All-cons (IsSentence v) (denied_form l) (denied_forms lines) (stands_sorted v l.role l.form (All-head (λ (l : Line). IsSentence v l.form) l lines all)) (forms_sorted v lines (All-tail (λ (l : Line). IsSentence v l.form) l lines all))

module _ (items : List Item) (given : List Name) (v w : Vocabulary) (graph : Graph) (lines : List Line) (is_graph : IsGraph items given graph) (denotes : denoted items v kind.Derivation ≡ Ok (lines, w)) where
  pub are_derivation : (d : Derivation) → d.graph ≡ graph → d.names ≡ names_of lines → d.places ≡ places_of lines → d.forms ≡ denied_forms lines → AreDerivation items given v d w
  are_derivation d graph_is names_are places_are forms_are = record { graph = subst (IsGraph items given) (sym graph_is) is_graph; lines = lines; denote = denotes; names = names_are; places = places_are; forms = forms_are }

  count : length graph.nodes ≡ length lines
  count = as_many (means_of items given) kind.Derivation items v w graph.nodes lines is_graph.is_graph.nodes denotes

  pub each_form : (d : Derivation) → d.graph ≡ graph → d.forms ≡ denied_forms lines → length d.forms ≡ length d.graph.nodes
  each_form d graph_is forms_are = ap length forms_are ∙ length-map lines denied_form ∙ sym count ∙ ap (λ (g : Graph). length g.nodes) (sym graph_is)

  pub each_name : (d : Derivation) → d.graph ≡ graph → d.names ≡ names_of lines → length d.names ≡ length d.graph.nodes
  each_name d graph_is names_are = ap length names_are ∙ length-map lines (λ (l : Line). l.name) ∙ sym count ∙ ap (λ (g : Graph). length g.nodes) (sym graph_is)

  pub each_place : (d : Derivation) → d.graph ≡ graph → d.places ≡ places_of lines → length d.places ≡ length d.graph.nodes
  each_place d graph_is places_are = ap length places_are ∙ length-map lines (λ (l : Line). l.place) ∙ sym count ∙ ap (λ (g : Graph). length g.nodes) (sym graph_is)

pub are_sentences : (v : Vocabulary) (lines : List Line) (d : Derivation) → AreSorted v lines → d.forms ≡ denied_forms lines → All (IsSentence v) d.forms
are_sentences v lines d all forms_are = subst (All (IsSentence v)) (sym forms_are) (forms_sorted v lines all)
