-- Proofs of the parts, as code makes them.
use Rattle.std.specs.Prelude.{ℕ, ◌≡◌, ◌+◌, ◌<◌, ◌≤◌, true, List, [], ◌∷◌, ◌++◌, length, take, get_or, Some, slice_get, refl}
use Rattle.std.proofs.Common.{ap, sym, subst, ◌∙◌, ◌⊎◌, inl, inr, arith, zero, suc}
use Rattle.std.proofs.lemmas.List.{take_all, take_more}
use Rattle.fof_terms.specs.Vocabulary.{Vocabulary}
use Rattle.fof_terms.specs.Sorts.{Sorted}
use Rattle.fof_terms.specs.declared.form.Form.{Form}
use Rattle.fof_terms.specs.declared.term.Term.{Term}
use Rattle.clause_form.specs.declared.path.Parent.{Parent}
use Rattle.clause_form.specs.declared.path.Path.{Path}
use Rattle.clause_form.specs.Norm.{norm_of}
use Rattle.kernel.specs.Statements.{Statements}
use Rattle.kernel.specs.Proves.{Proves}
use Rattle.kernel.specs.declared.proof.Proof.{Proof}
use Rattle.derive_kit.specs.Derived.{AreOfTheory}
use Rattle.clause_proofs.specs.Refuting.{theory_of}
use Rattle.clause_proofs.specs.Shown.{ShowsLine}
use Rattle.clause_proofs.proofs.ReadyParents.{full}
use Rattle.clause_rules.specs.declared.just.Just.{Just}
use Rattle.clause_rules.specs.declared.just.Just.TheVariants.{Norm, Cover, Tautology, Resolution, Paramodulation, EqFactor, Rewrite}
use Rattle.clause_rules.specs.Answers.{ShapeRule, norm, cover, tautology, resolution, paramodulation, eqfactor, rewrite}
use Rattle.clause_rules.specs.Steps.{IsReady}
use Rattle.clause_rules.specs.TautologyRule.{IsTautologyStep}
use Rattle.clause_rules.proofs.Firsts.{there_at}
use Rattle.norm_parts.specs.ByParts.{IsShownPart, AreShownParts}
use Rattle.norm_parts.specs.Parts.{parts_of}
use Rattle.norm_parts.specs.Shown.{ShowEach}
use Rattle.norm_parts.specs.code.Known.{ShowLines}

neither_rule : (rule : ShapeRule) → (rule ≡ tautology → ⊥) → (rule ≡ cover → ⊥) → (rule ≡ tautology) ⊎ (rule ≡ cover) → ⊥
neither_rule rule first second (inl e) = first e
neither_rule rule first second (inr e) = second e

module _ (w : Vocabulary) (parents : List Parent) where
  -- Several parts.
  pub so_many : (parts : List Form) (justs : List Just) → AreShownParts w parents parts justs → length parts ≡ length justs
  so_many [] [] h = refl
  so_many [] (just ∷ justs) h = absurd h
  so_many (part ∷ parts) [] h = absurd h
  so_many (part ∷ parts) (just ∷ justs) h = ap suc (so_many parts justs h.1)

  part_there : (parts : List Form) (justs : List Just) (k : ℕ) (part : Form) (just : Just) → AreShownParts w parents parts justs → slice_get parts k ≡ Some part → slice_get justs k ≡ Some just → IsShownPart w parents part just
  part_there [] justs k part just h e f = cc
  part_there (p ∷ parts) [] k part just h e f = absurd h
  part_there (p ∷ parts) (j ∷ justs) zero part just h e f =
      let first : p ≡ part = cc in
      let own : j ≡ just = cc in
      subst (λ (x : Form). IsShownPart w parents x just) first (subst (IsShownPart w parents p) own h.0)
  part_there (p ∷ parts) (j ∷ justs) (suc k) part just h e f = part_there parts justs k part just h.1 e f

  pub part_at : (parts : List Form) (justs : List Just) (k : ℕ) (part : Form) (just : Just) → AreShownParts w parents parts justs → k < length parts → part ≡ get_or parts k part → just ≡ get_or justs k just → IsShownPart w parents part just
  part_at parts justs k part just h lt is own =
      part_there parts justs k part just h (there_at parts k part lt is) (there_at justs k just (omega (arith, so_many parts justs h)) own)

  line_more : (ps : List Proof) (as_ : List Form) (p : Proof) (a : Form) → ShowLines w parents ps as_ → ShowsLine w parents a p → ShowLines w parents (ps ++ p ∷ []) (as_ ++ a ∷ [])
  line_more [] [] p a h one = (one, tt)
  line_more [] (b ∷ as_) p a h one = absurd h
  line_more (q ∷ ps) [] p a h one = absurd h
  line_more (q ∷ ps) (b ∷ as_) p a h one = (h.0, line_more ps as_ p a h.1 one)

  pub lines_next : (members : List Form) (i : ℕ) (a : Form) (ps more : List Proof) (p q : Proof) → i < length members → a ≡ get_or members i a → ShowLines w parents ps (take i members) → ShowsLine w parents a p → q ≡ p → more ≡ ps ++ q ∷ []
      → ShowLines w parents more (take (i + 1) members)
  lines_next members i a ps more p q lt is h one same e =
      let longer : take (i + 1) members ≡ take i members ++ a ∷ [] = take_more members i a lt ∙ ap (λ (x : Form). take i members ++ x ∷ []) (sym is) in
      let made : more ≡ ps ++ p ∷ [] = e ∙ ap (λ (x : Proof). ps ++ x ∷ []) same in
      subst (ShowLines w parents more) (sym longer) (subst (λ (xs : List Proof). ShowLines w parents xs (take i members ++ a ∷ [])) (sym made) (line_more ps (take i members) p a h one))

  pub lines_last : (members : List Form) (i : ℕ) (ps : List Proof) → length members ≤ i → ShowLines w parents ps (take i members) → ShowLines w parents ps members
  lines_last members i ps le h = subst (ShowLines w parents ps) (take_all i members le) h

  each_in : (formulas : List Form) → AreOfTheory (theory_of w formulas) parents → (ps : List Proof) (as_ : List Form) → ShowLines w parents ps as_ → ShowEach (theory_of w formulas) [] ps as_
  each_in formulas all [] [] h = tt
  each_in formulas all [] (a ∷ as_) h = absurd h
  each_in formulas all (p ∷ ps) [] h = absurd h
  each_in formulas all (p ∷ ps) (a ∷ as_) h = (h.0 formulas all, each_in formulas all ps as_ h.1)

  pub shown_here : (line norm : Form) (members lent : List Form) (justs : List Just) → norm ≡ norm_of true line → members ≡ parts_of norm → lent ≡ members → AreShownParts w parents (parts_of (norm_of true line)) justs → AreShownParts w parents lent justs
  shown_here line normal members lent justs is are same shown = subst (λ (ps : List Form). AreShownParts w parents ps justs) (sym (same ∙ are ∙ ap parts_of is)) shown

  -- the line by proofs of its parts
  pub line_shown : (line norm : Form) (members lent : List Form) (proofs : List Proof) (made : Proof) → IsReady w line → norm ≡ norm_of true line → members ≡ parts_of norm → lent ≡ members → ShowLines w parents proofs lent
      → ((t : Statements) (h : List Form) → Sorted t.vocabulary [] line → ShowEach t h proofs (parts_of (norm_of true line)) → Proves t [] h made line) → ShowsLine w parents line made
  line_shown line normal members lent proofs made ready is are same shown by = λ formulas all.
      let parts : lent ≡ parts_of (norm_of true line) = same ∙ are ∙ ap parts_of is in
      by (theory_of w formulas) [] (full w line ready) (each_in formulas all proofs (parts_of (norm_of true line)) (subst (ShowLines w parents proofs) parts shown))

  -- the line by its normal form
  pub line_by_whole : (line norm : Form) (whole made : Proof) → IsReady w line → norm ≡ norm_of true line → ShowsLine w parents norm whole
      → ((t : Statements) (h : List Form) → Sorted t.vocabulary [] line → Proves t [] h whole (norm_of true line) → Proves t [] h made line) → ShowsLine w parents line made
  line_by_whole line normal whole made ready is shown by = λ formulas all.
      by (theory_of w formulas) [] (full w line ready) (subst (λ (x : Form). Proves (theory_of w formulas) [] [] whole x) is (shown formulas all))

  -- One part.
  pub is_tautology : (part : Form) (just : Just) → IsShownPart w parents part just → ((a : ℕ) (path : Path) (images : List Term) → just ≡ Cover a path images → ⊥) → IsTautologyStep part
  is_tautology part (Cover a path images) h other = absurd (other a path images refl)
  is_tautology part Tautology h other = h.0
  is_tautology part (Norm a) h other = absurd (neither_rule norm (λ e. let never : norm ≡ tautology = e in cc) (λ e. let never : norm ≡ cover = e in cc) h.1)
  is_tautology part (Resolution a b i j images) h other = absurd (neither_rule resolution (λ e. let never : resolution ≡ tautology = e in cc) (λ e. let never : resolution ≡ cover = e in cc) h.1)
  is_tautology part (Paramodulation a b i place j flipped images) h other = absurd (neither_rule paramodulation (λ e. let never : paramodulation ≡ tautology = e in cc) (λ e. let never : paramodulation ≡ cover = e in cc) h.1)
  is_tautology part (EqFactor a i f j g images) h other = absurd (neither_rule eqfactor (λ e. let never : eqfactor ≡ tautology = e in cc) (λ e. let never : eqfactor ≡ cover = e in cc) h.1)
  is_tautology part (Rewrite a b target flipped by_images images) h other = absurd (neither_rule rewrite (λ e. let never : rewrite ≡ tautology = e in cc) (λ e. let never : rewrite ≡ cover = e in cc) h.1)
