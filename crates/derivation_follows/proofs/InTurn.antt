-- Linked lines, the steps of which rules give, are given in turn.
use Rattle.std.specs.Prelude.{ℕ, zero, suc, ◌≡◌, ◌≤◌, ◌+◌, Bool, true, false, if◌then◌else◌, List, [], ◌∷◌, ◌++◌, length, take, Some, slice_get, refl}
use Rattle.std.specs.List.{filter, range_with_len}
use Rattle.std.specs.Option.{option_map}
use Rattle.std.proofs.Common.{ap, sym, subst, ◌∙◌, arith, inl}
use Rattle.std.proofs.lemmas.List.{map-append}
use Rattle.std.proofs.lemmas.Option.{slice_get-map}
use Rattle.std.proofs.lemmas.Slice.Eq.{bytes_eq-Decides}
use Rattle.inference_proofs.proofs.Kept.{Has, has_image, image_from}
use Rattle.fof_terms.specs.Vocabulary.{Vocabulary}
use Rattle.fof_terms.specs.declared.form.Form.{Form}
use Rattle.flat_form.specs.Flat.{HasFlat, flat_of}
use Rattle.clause_form.specs.Paths.{forms_of}
use Rattle.clause_form.specs.Sizes.{norm_size_of}
use Rattle.clause_form.specs.declared.path.Parent.{Parent}
use Rattle.clause_rules.specs.NormRule.{IsNormStep}
use Rattle.elaborate.specs.ByRule.{leaf_rules, rules}
use Rattle.kernel.specs.Statements.{Statements}
use Rattle.sort_check.specs.declared.line.GivenEntry.{GivenEntry}
use Rattle.tptp_base.specs.declared.name.Name.{Name}
use Rattle.tptp_base.specs.declared.name.Name.TheVariants as name
use Rattle.tstp_graph.specs.declared.shape.Graph.{Graph}
use Rattle.tstp_graph.specs.Tables.{same_name}
use Rattle.verifier.specs.Good.{so_far, without_numbers}
use Rattle.verifier.specs.Lines.{candidates_of, sources_of}
use Rattle.limited_items.specs.Sources.{candidates, forms_given, given_named, is_unknown, source_forms}
use Rattle.derivation_items.specs.declared.line.LineSource.{LineSource}
use Rattle.derivation_items.specs.declared.line.LineSource.TheVariants.{Given, Skolemized, ClauseOf, Inferred}
use Rattle.derivation_items.specs.declared.line.ProofLine.{ProofLine}
use Rattle.derivation_order.specs.Cited.{HasSources, derivation_by, forms_in}
use Rattle.derivation_order.specs.Graphs.{IsGraphOf, is_given}
use Rattle.derivation_order.specs.Links.{AreLinked, IsFrom}
use Rattle.derivation_order.proofs.Chosen.{something_at}
use Rattle.derivation_order.proofs.Cited.{is_linked, sources_at, unnumbered}
use Rattle.derivation_follows.specs.Applied.{AreGivenInTurn, IsGivenAs, OneApplies, OneGivesAlone}
use Rattle.derivation_follows.specs.Stepping.{StepsApply}

-- ---- a copy

-- a formula follows from itself by `norm`
pub copy_by_norm : (a : Form) (p : Parent) → p.form ≡ a → norm_size_of a ≤ 100000 → IsNormStep (p ∷ []) a
copy_by_norm a p same small = (
  0,
  record {
    made = flat_of a;
    of_line = record { small = small; same = refl };
    of_parent = record { parent = p; there = refl; alike = subst (λ (b : Form). HasFlat b (flat_of a)) (sym same) (record { small = small; same = refl }) };
  },
)

same_again : (one : Name) → same_name one one ≡ true
same_again (name.Word word) = (bytes_eq-Decides word word).1 refl
same_again (name.Integer number) = (bytes_eq-Decides number number).1 refl

kept : (gs : List GivenEntry) (at : ℕ) (g : GivenEntry) → slice_get gs at ≡ Some g → Has (filter (λ (x : GivenEntry). same_name x.name g.name) gs) g
kept [] at g e = cc
kept (x ∷ gs) zero g e =
    let same : x ≡ g = cc in
    let yes : same_name x.name g.name ≡ true = ap (λ (y : GivenEntry). same_name y.name g.name) same ∙ same_again g.name in
    (0, ap (λ (b : Bool). slice_get (if b then x ∷ filter (λ (y : GivenEntry). same_name y.name g.name) gs else filter (λ (y : GivenEntry). same_name y.name g.name) gs) 0) yes ∙ ap Some same)
kept (x ∷ gs) (suc at) g e = by (same_name x.name g.name) (kept gs at g e)
  where
    by : (b : Bool) → Has (filter (λ (y : GivenEntry). same_name y.name g.name) gs) g → Has (if b then x ∷ filter (λ (y : GivenEntry). same_name y.name g.name) gs else filter (λ (y : GivenEntry). same_name y.name g.name) gs) g
    by true h = (suc h.0, h.1)
    by false h = h

-- a given formula is a candidate of its name
its_candidate : (given : List GivenEntry) (at : ℕ) (g : GivenEntry) → slice_get given at ≡ Some g → Has (candidates given g.name) g.form
its_candidate given at g there = by (is_unknown g.name)
  where
    by : (b : Bool) → Has (if b then forms_given given else given_named given g.name) g.form
    by true = has_image (λ (x : GivenEntry). x.form) given g (at, there)
    by false = has_image (λ (x : GivenEntry). x.form) (filter (λ (x : GivenEntry). same_name x.name g.name) given) g (kept given at g there)

leaf_given : (t : Statements) (ps : List Parent) (a : Form) → Has (forms_of ps) a → norm_size_of a ≤ 100000 → OneGivesAlone leaf_rules t ps a
leaf_given t ps a h small =
    let p = image_from (λ (x : Parent). x.form) ps a h.0 h.1 in
    inl (h.0, (p.0, p.1, copy_by_norm a p.0 p.2 small))

-- ---- in turn

taken_more : {X : Type 0} (xs : List X) (k : ℕ) (x : X) → slice_get xs k ≡ Some x → take (k + 1) xs ≡ take k xs ++ x ∷ []
taken_more {X} [] k x e = cc
taken_more {X} (y ∷ xs) zero x e = let same : y ≡ x = cc in ap (λ (z : X). z ∷ []) same
taken_more {X} (y ∷ xs) (suc k) x e = let on : suc k + 1 ≡ suc (k + 1) = omega arith in ap (λ (n : ℕ). take n (y ∷ xs)) on ∙ ap (λ (zs : List X). y ∷ zs) (taken_more xs k x e)

module _ (w : Vocabulary) (given : List GivenEntry) (lines : List ProofLine) (linked : AreLinked given lines) (types : ℕ) (graph : Graph) (is : IsGraphOf given types lines graph) (limit : ℕ)
    (small : (k : ℕ) (g : GivenEntry) → slice_get given k ≡ Some g → norm_size_of g.form ≤ 100000) (steps : StepsApply w given lines) where
  given_as : (k : ℕ) (form : Form) (source : LineSource) → IsFrom given (take k lines) form source → (leaf cited : Bool) (forms : List Form) → leaf ≡ is_given source
      → forms_of (sources_of leaf (forms_given given) cited (without_numbers forms)) ≡ source_forms given (take k lines) source
      → (is_given source ≡ false → OneApplies rules (so_far w (forms_given given) (forms_in (take k lines))) (without_numbers (source_forms given (take k lines) source)) form)
      → IsGivenAs leaf (so_far w (forms_given given) (forms_in (take k lines))) (forms_given given) cited forms form
  given_as k form (Given one) from true cited forms e sources step =
      let copy = from.1 in
      let own : Has (candidates given one) form = subst (λ (n : Name). Has (candidates given n) form) (sym from.2) (subst (Has (candidates given from.0.name)) (sym copy.same) (its_candidate given copy.at from.0 copy.there)) in
      let few : norm_size_of form ≤ 100000 = subst (λ (a : Form). norm_size_of a ≤ 100000) (sym copy.same) (small copy.at from.0 copy.there) in
      leaf_given (so_far w (forms_given given) (forms_in (take k lines))) (candidates_of (forms_given given) cited (without_numbers forms)) form (subst (λ (fs : List Form). Has fs form) (sym sources) own) few
  given_as k form (Given one) from false cited forms e sources step = absurd (cc)
  given_as k form (Skolemized word) from true cited forms e sources step = absurd (cc)
  given_as k form (ClauseOf word) from true cited forms e sources step = absurd (cc)
  given_as k form (Inferred words) from true cited forms e sources step = absurd (cc)
  given_as k form (Skolemized word) from false cited forms e sources step =
      subst (λ (fs : List Form). OneApplies rules (so_far w (forms_given given) (forms_in (take k lines))) (without_numbers fs) form) (sym sources ∙ unnumbered forms) (step refl)
  given_as k form (ClauseOf word) from false cited forms e sources step =
      subst (λ (fs : List Form). OneApplies rules (so_far w (forms_given given) (forms_in (take k lines))) (without_numbers fs) form) (sym sources ∙ unnumbered forms) (step refl)
  given_as k form (Inferred words) from false cited forms e sources step =
      subst (λ (fs : List Form). OneApplies rules (so_far w (forms_given given) (forms_in (take k lines))) (without_numbers fs) form) (sym sources ∙ unnumbered forms) (step refl)

  from_line : (k n : ℕ) → k + n ≡ length lines → AreGivenInTurn w (derivation_by given lines graph limit) (forms_in (take k lines)) (range_with_len k n)
  from_line k zero e = tt
  from_line k (suc n) e =
      let own = something_at lines k (omega arith) in
      let line = own.0 in
      let s : HasSources given lines graph k line = sources_at given lines linked k types graph is line own.1 in
      let form : slice_get (forms_in lines) k ≡ Some line.form = slice_get-map (λ (l : ProofLine). l.form) lines k ∙ ap (option_map (λ (l : ProofLine). l.form)) own.1 in
      let more : forms_in (take (k + 1) lines) ≡ forms_in (take k lines) ++ line.form ∷ [] = ap forms_in (taken_more lines k line own.1) ∙ map-append (λ (l : ProofLine). l.form) (take k lines) (line ∷ []) in (
        record { node = s.node; form = line.form },
        record { node = s.there; form = form },
        (s.forms, s.cited, given_as k line.form line.source (is_linked given lines k line linked own.1).from s.node.leaf s.node.cited s.forms s.leaf s.sources (steps k line own.1)),
        subst (λ (fs : List Form). AreGivenInTurn w (derivation_by given lines graph limit) fs (range_with_len (k + 1) n)) more (from_line (k + 1) n (omega arith)),
      )

  pub in_turn : AreGivenInTurn w (derivation_by given lines graph limit) [] graph.order
  in_turn = subst (λ (ns : List ℕ). AreGivenInTurn w (derivation_by given lines graph limit) [] ns) (sym is.order) (from_line 0 (length lines) (omega arith))
