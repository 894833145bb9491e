-- The entries of accepted lines.
use Rattle.std.proofs.Common.{◌≡◌, ◌⊎◌, inl, inr, ◌↔◌, ℕ, List, [], ◌∷◌, ◌++◌, length, sym, subst}
use Rattle.std.specs.List.{AllByRecursion}
use Rattle.fof_terms.specs.declared.form.Form.{Form}
use Rattle.clause_form.specs.declared.path.Parent.{Parent}
use Rattle.kernel.specs.Statements.{Statements}
use Rattle.kernel.specs.declared.entry.Entry.{Entry}
use Rattle.derive_kit.specs.Derived.{IsDerivedFrom, numbers_of, with_formulas}
use Rattle.elaborate.specs.declared.answer.Rule.{Rule}
use Rattle.elaborate.specs.declared.answer.StepAnswer.TheVariants as step
use Rattle.search_proofs.specs.Searched.{IsSearchedFrom, searched_theory}
use Rattle.verifier.specs.Lines.{Derivation, Line, sources_of}
use Rattle.verifier.specs.Run.{AnswersLine, IsRun, begun}
use Rattle.verifier.specs.declared.answer.LineAnswer.{LineAnswer}
use Rattle.verifier.proofs.Citing.{line_spares}
use Rattle.verifier.proofs.Derived.{ByARule, ByASearch, kind_ways}
use Rattle.verifier.proofs.Running.{answers_admit}
use Rattle.entry_symbols.specs.Inside.{DoesNotTell}
use Rattle.entry_symbols.specs.Mentioned.{IsForeign, MentionDeclared, SpeakInside, AreLegalAlike}
use Rattle.entry_symbols.proofs.Alike.{alike_speaks_inside}
use Rattle.entry_symbols.proofs.Declared.{mention_declared}
use Rattle.entry_symbols.proofs.Telling.{derived_tell, entries_tell, has_cited, still_fresh, without, without_fresh}
use Rattle.entry_symbols.proofs.Whole.{AreLegalWith, inside_is_alike}

-- entries of a search
searched_tell : (t : Statements) (sources : List Parent) (es : List Entry) (line : Form) (k : ℕ) → IsSearchedFrom t sources es line → IsForeign t (numbers_of sources) line k → AllByRecursion (DoesNotTell k) es
searched_tell t sources es line k searched foreign =
    let adds = searched.adds (without k t) (has_cited t (numbers_of sources) line k foreign) in
    let before = adds.speak k foreign.declared (without_fresh k t) foreign.absent in
    entries_tell k (without k t) (searched_theory (without k t) sources line (searched.before ++ line ∷ [])) es adds.legal
    (still_fresh k (without k t).formulas searched.before line (without_fresh k t) before foreign.absent)

derived_legal : (t : Statements) (cites : List ℕ) (es : List Entry) (line : Form) → IsDerivedFrom t cites es line → AreLegalWith t cites es
derived_legal t cites es line derived u has = (with_formulas u (derived.before ++ line ∷ []), (derived.adds u has).legal)

searched_legal : (t : Statements) (sources : List Parent) (es : List Entry) (line : Form) → IsSearchedFrom t sources es line → AreLegalWith t (numbers_of sources) es
searched_legal t sources es line searched u has = (searched_theory u sources line (searched.before ++ line ∷ []), (searched.adds u has).legal)

module _ (t : Statements) (d : Derivation) (line : Line) (parents : List Parent) (rule : Rule) (cites : List ℕ) (es : List Entry) (answers : AnswersLine t d line parents (step.Accepted rule cites es)) where
  -- what holds where entries derive a line from what is cited, or a search does, holds of those of the line
  of_ways : (P : List ℕ → Type 0) → ((numbers : List ℕ) → IsDerivedFrom t numbers es line.form → P numbers) → ((sources : List Parent) → IsSearchedFrom t sources es line.form → P (numbers_of sources)) → P cites
  of_ways P by_rule by_search = by (kind_ways line.node.leaf t d line.node.cited parents line.form rule cites es answers)
    where
      found : (sources : List Parent) → cites ≡ numbers_of sources → IsDerivedFrom t (numbers_of sources) es line.form ⊎ IsSearchedFrom t sources es line.form → P cites
      found sources are (inl derived) = subst P (sym are) (by_rule (numbers_of sources) derived)
      found sources are (inr searched) = subst P (sym are) (by_search sources searched)

      by : ByARule line.node.leaf t d.given line.node.cited parents line.form rule cites es ⊎ ByASearch line.node.leaf t d.given line.node.cited parents line.form rule cites es → P cites
      by (inl ruled) = by_rule cites ruled.derived
      by (inr given) = found (sources_of line.node.leaf d.given line.node.cited parents) given.cites_are given.found

  pub line_tells : (k : ℕ) → IsForeign t cites line.form k → AllByRecursion (DoesNotTell k) es
  line_tells k = of_ways (λ numbers. IsForeign t numbers line.form k → AllByRecursion (DoesNotTell k) es)
      (λ numbers derived. derived_tell t numbers es line.form k derived)
      (λ sources searched. searched_tell t sources es line.form k searched)

  legal_with : AreLegalWith t cites es
  legal_with = of_ways (λ numbers. AreLegalWith t numbers es) (λ numbers derived. derived_legal t numbers es line.form derived) (λ sources searched. searched_legal t sources es line.form searched)

  pub line_alike : AreLegalAlike t cites line.form es ↔ SpeakInside t cites line.form es
  line_alike = (
    alike_speaks_inside t cites line.form es,
    inside_is_alike t cites line.form es legal_with (λ n within apart. line_spares t d line parents rule cites es n answers within apart),
  )

pub run_mentions : (start : Statements) (d : Derivation) (order : List ℕ) (answers : List LineAnswer) (entries : List Entry) (end : Statements) → IsRun start d order answers entries end → MentionDeclared (length start.vocabulary.symbols) entries
run_mentions start d order answers entries end run = mention_declared start entries end (answers_admit d answers (begun start d) order entries (record { theory = end; numbers = run.numbers }) run.answered)
