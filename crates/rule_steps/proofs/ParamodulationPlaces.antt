-- Where no place of a literal, of a clause or of all clauses gives a paramodulation.
use Rattle.std.specs.Prelude.{ℕ, Bool, ◌≡◌, ◌<◌, ◌≤◌, List, length, remove, Option, Some, None, slice_get, slice_set}
use Rattle.std.proofs.Common.{ap, sym, subst, ◌∙◌, arith}
use Rattle.std.proofs.lemmas.Option.{slice_get_within}
use Rattle.fof_terms.specs.Vocabulary.{Vocabulary}
use Rattle.fof_terms.specs.declared.term.Term.{Term}
use Rattle.clause_form.proofs.ClauseLaws.{get_image}
use Rattle.clause_form.specs.declared.clause.Clause.{Clause}
use Rattle.clause_form.specs.declared.clause.Lit.{Lit}
use Rattle.clause_form.specs.Covers.{lit_image, scope_of}
use Rattle.clause_rules.specs.declared.just.Just.{Just}
use Rattle.rule_steps.specs.declared.sites.Reading.{Reading}
use Rattle.rule_steps.specs.declared.sites.Site.{Site}
use Rattle.clause_rules.specs.ParamodulationRule.{HasPlace, Paramodulates}
use Rattle.rule_steps.specs.code.ParamodulationSearch.{sites_of_places, FoundAtSites, FoundAtLit, FoundInClause, FoundInClauses}
use Rattle.clause_rules.specs.Places.{lit_put_at, lit_term_at}
use Rattle.clause_rules.specs.PlaceSearch.{places_of}
use Rattle.rule_steps.specs.code.Beside.{NeverBeside}
use Rattle.clause_rules.specs.Steps.{apart_from, instances}
use Rattle.rule_steps.proofs.LeftOver.{left_over}
use Rattle.clause_rules.proofs.ListPlaces.{before}
use Rattle.rule_steps.proofs.Changing.{set_other}
use Rattle.clause_rules.proofs.Firsts.{one_at}
use Rattle.rule_steps.proofs.ParamodulationEnds.{site_in_places}
use Rattle.clause_rules.proofs.PlaceLaws.{place_listed}

-- a paramodulation covers all literals but the one that it changes
never_placed : (v : Vocabulary) (line into from : Clause) (i : ℕ) → NeverBeside v line into i → (place : List ℕ) (j : ℕ) (flipped : Bool) (more : List ℕ) (s : ℕ → Term) → Paramodulates v into from line i place j flipped more s → ⊥
never_placed v line into from i never place j flipped more s h =
    let p = h.paramodulant in
    let changed = lit_put_at place p.right p.changed in
    never more s
    (record {
      images = record { sorted = λ k r e. h.images.sorted k r (before (scope_of into) (scope_of from) k r e) };
      covered = λ m k e.
          let one = left_over into.lits i m k e in
          p.covered one.0 (lit_image s k)
          (before (slice_set (instances s into.lits) i changed) (remove (instances s (apart_from into from.lits)) j) one.0 (lit_image s k) (set_other (instances s into.lits) i one.0 changed (lit_image s k) one.1 (get_image s into.lits one.0 k one.2)));
    })

module _ (v : Vocabulary) (clauses : List (Option Clause)) (readings : List Reading) (line : Clause) where
  module _ (a : ℕ) where
    pub no_clause : slice_get clauses a ≡ Some None → FoundInClause v clauses readings line a None
    no_clause at = λ i place k reading e other from there here more s h. let none : Some None ≡ Some (Some other) = sym at ∙ there in cc

    module _ (into : Clause) (at : slice_get clauses a ≡ Some (Some into)) where
      same_clause : (other : Clause) → slice_get clauses a ≡ Some (Some other) → other ≡ into
      same_clause other e = let both : Some (Some other) ≡ Some (Some into) = sym e ∙ at in cc

      pub closed_lit : (i : ℕ) → NeverBeside v line into i → FoundAtLit v clauses readings line a i None
      closed_lit i never = λ place k reading e other from there here more s h.
          never_placed v line into from i never place reading.lit reading.flipped more s (subst (λ (x : Clause). Paramodulates v x from line i place reading.lit reading.flipped more s) (same_clause other there) h)

      -- all places of the literal were tried
      pub open_lit : (i : ℕ) (k : Lit) (sites : List Site) → slice_get into.lits i ≡ Some k → sites ≡ sites_of_places a i (places_of k) → (found : Option Just) → FoundAtSites v clauses sites readings line found → FoundAtLit v clauses readings line a i found
      open_lit i k sites own is None none = λ place n reading e other from there here more s h.
          let has : HasPlace into.lits i place = subst (λ (x : Clause). HasPlace x.lits i place) (same_clause other there) h.place_of in
          let same : has.lit ≡ k = one_at into.lits i has.lit k has.there own in
          let listed = place_listed k place has.term (subst (λ (x : Lit). lit_term_at place x ≡ Some has.term) same has.stands) in
          let site = site_in_places a i (places_of k) listed.0 place listed.1 in
          none site.0 (record { clause = a; lit = i; at = place }) (ap (λ (xs : List Site). slice_get xs site.0) is ∙ site.1) n reading e other from there here more s h
      open_lit i k sites own is (Some just) w = w

      pub no_lit_past : (n : ℕ) → length into.lits ≤ n → ((i : ℕ) → i < n → FoundAtLit v clauses readings line a i None) → FoundInClause v clauses readings line a None
      no_lit_past n h none = λ i place k reading e other from there here more s p.
          let has : HasPlace into.lits i place = subst (λ (x : Clause). HasPlace x.lits i place) (same_clause other there) p.place_of in
          let lt = slice_get_within into.lits i has.lit has.there in
          none i (omega arith) place k reading e other from there here more s p

  pub no_clause_past : (n : ℕ) → length clauses ≤ n → ((a : ℕ) → a < n → FoundInClause v clauses readings line a None) → FoundInClauses v clauses readings line None
  no_clause_past n h none = λ a i place k reading e other from there here more s p.
      let lt = slice_get_within clauses a (Some other) there in
      none a (omega arith) i place k reading e other from there here more s p
