-- The search for a paramodulation, as code makes it.
use Rattle.std.specs.Prelude.{ℕ, Bool, true, false, ◌≡◌, ◌↔◌, ◌<◌, ◌≤◌, IsTrue, List, ◌++◌, length, remove, reverse, Option, Some, None, Result, IfOk, slice_get, slice_set, refl}
use Rattle.std.specs.Option.{MatchOption, option_eq}
use Rattle.std.proofs.Common.{ap, sym, subst, ◌∙◌, arith, eqb, inl, inr}
use Rattle.std.proofs.lemmas.Bool.Decides.{eqb_tells}
use Rattle.std.proofs.lemmas.List.{reverse-reverse}
use Rattle.fof_terms.specs.Vocabulary.{Vocabulary}
use Rattle.fof_terms.specs.declared.term.Term.{Term}
use Rattle.clause_form.specs.declared.clause.Lit.{Lit}
use Rattle.clause_form.specs.declared.clause.Clause.{Clause}
use Rattle.clause_rules.specs.declared.just.Just.{Just}
use Rattle.clause_rules.specs.declared.just.Just.TheVariants.{Paramodulation}
use Rattle.rule_steps.specs.declared.sides.Sides.{Sides}
use Rattle.rule_steps.specs.declared.sites.Reading.{Reading}
use Rattle.rule_steps.specs.declared.sites.Site.{Site}
use Rattle.rule_steps.specs.declared.sites.Spot.{Spot}
use Rattle.clause_rules.specs.ParamodulationRule.{Paramodulates}
use Rattle.rule_steps.specs.code.ParamodulationSearch.{HasSpot, HasEquation, HasClause, ShowsAtSite, NoneAtSite, TriedAtSite, ShowsParamodulation}
use Rattle.clause_rules.specs.Settled.{Settles}
use Rattle.clause_rules.specs.Steps.{scope_of_both}
use Rattle.clause_rules.proofs.Firsts.{ok_map}

-- the same of lists that were lent
pub spot_as : (lits lent : List Lit) (place given : List ℕ) (i : ℕ) (o : Option Spot) → lent ≡ lits → given ≡ place → HasSpot lent i given o → HasSpot lits i place o
spot_as lits lent place given i o e f h = subst (λ ls. HasSpot ls i place o) e (subst (λ ps. HasSpot lent i ps o) f h)

pub equation_as : (lits lent : List Lit) (j : ℕ) (flipped : Bool) (o : Option Sides) → lent ≡ lits → HasEquation lent j flipped o → HasEquation lits j flipped o
equation_as lits lent j flipped o e h = subst (λ ls. HasEquation ls j flipped o) e h

option_told : (a b : Option ℕ) → IsTrue (option_eq eqb a b) ↔ (a ≡ b)
option_told None None = (λ t. refl, λ e. refl)
option_told None (Some y) = (λ t. absurd (let f = t in cc), λ e. absurd (let f = e in cc))
option_told (Some x) None = (λ t. absurd (let f = t in cc), λ e. absurd (let f = e in cc))
option_told (Some x) (Some y) =
    elim (eqb_tells x y) [
      | inl e ↦ (λ t. ap Some e.1, λ s. e.0)
      | inr e ↦ (λ t. absurd (let f : true ≡ false = sym t ∙ e.0 in cc), λ s. absurd (e.1 (let f = s in cc)))
    ]

pub one_sort_told : (eq : Bool) (a b x y : Option ℕ) → eq ≡ option_eq eqb a b → a ≡ x → b ≡ y → IsTrue eq ↔ (x ≡ y)
one_sort_told eq a b x y h e f =
    let told = option_told a b in
    (λ t. sym e ∙ told.0 (subst IsTrue h t) ∙ f, λ s. subst IsTrue (sym h) (told.1 (e ∙ s ∙ sym f)))

pub turned_back : (sorts lent given list : List ℕ) → given ≡ sorts → list ≡ reverse given → lent ≡ list → reverse lent ≡ sorts
turned_back sorts lent given list e f g = ap reverse (g ∙ f ∙ ap reverse e) ∙ reverse-reverse sorts

-- the literals of a paramodulation, as code makes them
pub paramodulated_is : (into from copied set_ copied2 others appended : List Lit) (i j : ℕ) (k changed : Lit) → copied ≡ into → changed ≡ k → set_ ≡ slice_set copied i changed → copied2 ≡ from → others ≡ remove copied2 j → appended ≡ set_ ++ others → appended ≡ slice_set into i k ++ remove from j
paramodulated_is into from copied set_ copied2 others appended i j k changed c ch st c2 ot ap_ = ap_ ∙ ap (λ ks. ks ++ others) (st ∙ ap (λ ks. slice_set ks i changed) c ∙ ap (slice_set into i) ch) ∙ ap (λ ks. slice_set into i k ++ ks) (ot ∙ ap (λ ks. remove ks j) c2)

module _ (v : Vocabulary) (clauses : List (Option Clause)) (line : Clause) (site : Site) (reading : Reading) where
  -- the answer from what was settled
  pub tried : (into from : Clause) → slice_get clauses site.clause ≡ Some (Some into) → slice_get clauses reading.clause ≡ Some (Some from) → (found : Option (List Term))
      → Settles v line (scope_of_both into from) (Paramodulates v into from line site.lit site.at reading.lit reading.flipped) found → TriedAtSite v clauses line site reading found
  tried into from there here None none = λ other others e f more s h.
      let a : other ≡ into = let g : Some (Some other) ≡ Some (Some into) = sym e ∙ there in cc in
      let b : others ≡ from = let g : Some (Some others) ≡ Some (Some from) = sym f ∙ here in cc in
      none more s (subst (λ (x : Clause). Paramodulates v into x line site.lit site.at reading.lit reading.flipped more s) b (subst (λ (x : Clause). Paramodulates v x others line site.lit site.at reading.lit reading.flipped more s) a h))
  tried into from there here (Some images) shown = record { into = into; from = from; into_there = there; from_there = here; joint = shown.0; paramodulates = shown.1 }

  pub no_from : HasClause clauses reading.clause None → NoneAtSite v clauses line site reading
  no_from none = λ into from e f more s h. none from f

  pub no_into : HasClause clauses site.clause None → NoneAtSite v clauses line site reading
  no_into none = λ into from e f more s h. none into e

module _ (v : Vocabulary) (clauses : List (Option Clause)) (line : Clause) (site : Site) (reading : Reading) where
  pub none_with : (found : Option (List Term)) → found ≡ None → TriedAtSite v clauses line site reading found → NoneAtSite v clauses line site reading
  none_with None e none = none
  none_with (Some images) e shown = absurd (let g = e in cc)

  pub shown_with : {E : Type 0} (found : Option (List Term)) (images : List Term) (r : Result (Option Just) E) → found ≡ Some images → TriedAtSite v clauses line site reading found
      → IfOk r (λ just. just ≡ Some (Paramodulation site.clause reading.clause site.lit site.at reading.lit reading.flipped images)) → IfOk r (λ just. MatchOption just (NoneAtSite v clauses line site reading) (ShowsParamodulation v clauses line))
  shown_with None images r e shown h = absurd (let g = e in cc)
  shown_with (Some found) images r e shown h =
      let same : found ≡ images = cc in
      let whole : ShowsParamodulation v clauses line (Paramodulation site.clause reading.clause site.lit site.at reading.lit reading.flipped images) = record { site = site; reading = reading; images = images; is = refl; shown = subst (ShowsAtSite v clauses line site reading) same shown } in
      ok_map r (λ just is. subst (λ o. MatchOption o (NoneAtSite v clauses line site reading) (ShowsParamodulation v clauses line)) (sym is) whole) h
