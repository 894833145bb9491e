-- Where no factoring, paramodulation or rewriting is found, since literals that stay as they are cannot be covered.
use Rattle.std.specs.Prelude.{ℕ, Bool, true, ◌≡◌, ◌≢◌, ◌+◌, ◌<◌, ◌≤◌, nat_lt, if◌then◌else◌, List, [], ◌∷◌, length, map, remove, Option, Some, None, slice_get, slice_set, refl}
use Rattle.std.proofs.Common.{ap, sym, subst, ◌∙◌, arith, zero, suc}
use Rattle.std.proofs.lemmas.Bool.{lt-ltb, le-ltb}
use Rattle.std.proofs.lemmas.List.{length-reverse}
use Rattle.std.proofs.lemmas.List.Elements.{recursion_from_All}
use Rattle.std.proofs.lemmas.Option.{slice_get_within}
use Rattle.fof_terms.specs.declared.term.Term.{Term, Var}
use Rattle.fof_terms.specs.Vocabulary.{Vocabulary}
use Rattle.clause_form.proofs.ClauseLaws.{get_image, lits_agree}
use Rattle.clause_form.specs.declared.clause.Clause.{Clause}
use Rattle.clause_form.specs.declared.clause.Lit.{Lit}
use Rattle.clause_form.specs.Covers.{lit_image, scope_of, is_sorted_atom, IsCovered}
use Rattle.clause_form.specs.Images.{image}
use Rattle.clause_form.proofs.ImagesFacts.{image-Var, image_image, AgreeOn}
use Rattle.rule_steps.specs.declared.sites.Reading.{Reading}
use Rattle.rule_steps.specs.declared.sites.Site.{Site}
use Rattle.rule_steps.specs.code.EqFactorSearch.{NoneFrom}
use Rattle.clause_rules.specs.ParamodulationRule.{Paramodulates}
use Rattle.rule_steps.specs.code.ParamodulationSearch.{HasClause, NeverAt, NoneAtSite}
use Rattle.clause_rules.specs.Places.{lit_put_at, lit_term_at}
use Rattle.clause_rules.specs.RewriteRule.{AreLitsRewritten}
use Rattle.rule_steps.specs.code.RewriteSearch.{NeverRewritten}
use Rattle.substitution_search.specs.Screens.{NeverAll, NeverCovered, NeverOthers}
use Rattle.rule_steps.specs.code.SlotFits.{AllFit}
use Rattle.clause_rules.specs.Settled.{IsFit}
use Rattle.clause_rules.specs.Steps.{apart_from, instances}
use Rattle.clause_rules.proofs.Firsts.{one_at}
use Rattle.clause_rules.proofs.LitImages.{imaging, images_apart, lits_twice}
use Rattle.clause_rules.proofs.PlaceLaws.{lit_put_walk}
use Rattle.rule_steps.proofs.RewrittenTerms.{lits_same}
use Rattle.clause_rules.proofs.ListPlaces.{before, behind, get_of_map}

-- elements of a list of which one was changed or left out
pub set_other : {X : Type 0} (xs : List X) (i m : ℕ) (x y : X) → m ≢ i → slice_get xs m ≡ Some y → slice_get (slice_set xs i x) m ≡ Some y
set_other [] i m x y other e = cc
set_other (z ∷ xs) zero zero x y other e = absurd (other refl)
set_other (z ∷ xs) zero (suc m) x y other e = e
set_other (z ∷ xs) (suc i) zero x y other e = e
set_other (z ∷ xs) (suc i) (suc m) x y other e = set_other xs i m x y (λ h. other (ap (λ k. suc k) h)) e

set_same : {X : Type 0} (xs : List X) (i : ℕ) (x y : X) → slice_get xs i ≡ Some y → slice_get (slice_set xs i x) i ≡ Some x
set_same [] i x y e = cc
set_same (z ∷ xs) zero x y e = refl
set_same (z ∷ xs) (suc i) x y e = set_same xs i x y e

pub kept : {X : Type 0} (xs : List X) (j m : ℕ) (y : X) → m ≢ j → slice_get xs m ≡ Some y → (n : ℕ) × (slice_get (remove xs j) n ≡ Some y)
kept [] j m y other e = cc
kept (x ∷ xs) zero zero y other e = absurd (other refl)
kept (x ∷ xs) zero (suc m) y other e = (m, e)
kept (x ∷ xs) (suc j) zero y other e = (0, e)
kept (x ∷ xs) (suc j) (suc m) y other e = let rest = kept xs j m y (λ h. other (ap (λ k. suc k) h)) e in (suc rest.0, rest.1)

pub never_factored : (v : Vocabulary) (c line : Clause) (i : ℕ) → NeverOthers line.lits c.lits i → NoneFrom v c line i
never_factored v c line i never = λ j f g more s h. never s (λ m k other e. h.factored.covered m k (set_other (instances s c.lits) i m _ k other e))

pub never_from : (v : Vocabulary) (into from line : Clause) (i : ℕ) (place : List ℕ) (j : ℕ) (flipped : Bool) → NeverOthers line.lits from.lits j → (more : List ℕ) (s : ℕ → Term) → Paramodulates v into from line i place j flipped more s → ⊥
never_from v into from line i place j flipped never more s h =
    never (λ k. s (k + length into.sorts))
    (λ m k other e.
    let there : slice_get (instances s (apart_from into from.lits)) m ≡ Some k = ap (λ (ks : List Lit). slice_get ks m) (images_apart s (length into.sorts) from.lits) ∙ e in
    let one = kept (instances s (apart_from into from.lits)) j m k other there in
    let all = behind (slice_set (instances s into.lits) i (lit_put_at place h.paramodulant.right h.paramodulant.changed)) (remove (instances s (apart_from into from.lits)) j) one.0 k one.1 in
    h.paramodulant.covered all.0 k all.1)

-- all variables from that number on get another image
abbrev with_hole : ℕ → Term → (ℕ → Term) → ℕ → Term
with_hole n u s k = if nat_lt k n then s k else u

module _ (v : Vocabulary) (c : Clause) (fit : IsFit v c) (s : ℕ → Term) (u : Term) where
  agrees : AgreeOn (scope_of c) s (with_hole (length c.sorts) u s)
  agrees = record { same = λ k r e. let lt = slice_get_within (scope_of c) k r e in let size = length-reverse c.sorts in sym (other_image k (omega arith)) } where
    other_image : (k : ℕ) → k < length c.sorts → with_hole (length c.sorts) u s k ≡ s k
    other_image k h = rw (lt-ltb k (length c.sorts) h) refl

  at_hole : with_hole (length c.sorts) u s (length c.sorts) ≡ u
  at_hole = rw (le-ltb (length c.sorts) (length c.sorts) (omega arith)) refl

pub never_hole : (line into : Clause) (site : Site) (k : Lit) → slice_get into.lits site.lit ≡ Some k → NeverCovered line.lits (lit_put_at site.at (Var (length into.sorts)) k) → NeverAt line into site
never_hole line into site k at never = λ v fit from j flipped more s h.
    let p = h.paramodulant in
    let r = with_hole (length into.sorts) p.right s in
    let same : map (lit_image s) into.lits ≡ map (lit_image r) into.lits = lits_agree v (scope_of into) s r (agrees v into fit s p.right) into.lits fit.sorted in
    let changed : p.changed ≡ lit_image r k = one_at (instances r into.lits) site.lit p.changed (lit_image r k) (ap (λ (ks : List Lit). slice_get ks site.lit) (sym same) ∙ p.in_into) (get_image r into.lits site.lit k at) in
    let own : h.place_of.lit ≡ k = one_at into.lits site.lit h.place_of.lit k h.place_of.there at in
    let hole : image r (Var (length into.sorts)) ≡ p.right = image-Var r (length into.sorts) ∙ at_hole v into fit s p.right in
    let walked : lit_image r (lit_put_at site.at (Var (length into.sorts)) k) ≡ lit_put_at site.at p.right p.changed =
    lit_put_walk (image r) (imaging r) site.at k h.place_of.term (Var (length into.sorts)) (subst (λ (x : Lit). lit_term_at site.at x ≡ Some h.place_of.term) own h.place_of.stands) ∙ ap (λ (x : Term). lit_put_at site.at x (lit_image r k)) hole ∙ ap (lit_put_at site.at p.right) (sym changed) in
    never r (subst (IsCovered line.lits) (sym walked) (p.covered site.lit (lit_put_at site.at p.right p.changed) (before (slice_set (instances s into.lits) site.lit (lit_put_at site.at p.right p.changed)) (remove (instances s (apart_from into from.lits)) j) site.lit (lit_put_at site.at p.right p.changed) (set_same (instances s into.lits) site.lit (lit_put_at site.at p.right p.changed) p.changed p.in_into))))

-- the same, as code has the literal and the place
pub never_open : (line into : Clause) (site : Site) (k changed : Lit) (n : ℕ) (place : List ℕ) (lent : List Lit) → slice_get into.lits site.lit ≡ Some k → changed ≡ lit_put_at place (Var n) k → place ≡ site.at → n ≡ length into.sorts → lent ≡ line.lits → NeverCovered lent changed → NeverAt line into site
never_open line into site k changed n place lent at is same size lines never =
    let hole : changed ≡ lit_put_at site.at (Var (length into.sorts)) k = is ∙ ap (λ p. lit_put_at p (Var n) k) same ∙ ap (λ m. lit_put_at site.at (Var m) k) size in
    never_hole line into site k at (subst (NeverCovered line.lits) hole (subst (λ ls. NeverCovered ls changed) lines never))

-- the term of the clause gives way to another one: a variable that the clause has not can stand for it
pub never_rewritten : (line into : Clause) (target : Term) (holes : List Lit) → AreLitsRewritten target (Var (length into.sorts)) into.lits holes → NeverAll line.lits holes → NeverRewritten line into target
never_rewritten line into target holes rewritten never = λ v fit by flipped further r more s h.
    let new = image r h.right in
    let fill = with_hole (length into.sorts) new Var in
    let filled : h.rewritten ≡ map (lit_image fill) holes =
    lits_same v (scope_of into) target (Var (length into.sorts)) new (image fill) (imaging fill) (sym (image-Var fill (length into.sorts) ∙ at_hole v into fit Var new))
    (λ k q e. image-Var fill k ∙ sym ((agrees v into fit Var new).same k q e)) into.lits holes h.rewritten (recursion_from_All (λ (l : Lit). is_sorted_atom v (scope_of into) l.atom ≡ true) into.lits fit.sorted.fits) rewritten h.all_rewritten in
    let twice : map (lit_image s) h.rewritten ≡ map (lit_image (λ k. image s (fill k))) holes = ap (map (lit_image s)) filled ∙ lits_twice (image s) (image fill) (image (λ k. image s (fill k))) (image_image s fill) holes in
    never (λ k. image s (fill k))
    (λ m k e.
    let found = get_of_map (lit_image s) h.rewritten m k (ap (λ (ks : List Lit). slice_get ks m) twice ∙ e) in
    subst (IsCovered line.lits) found.2 (h.covers.covered m found.0 found.1))

-- a site whose clause is known
module _ (v : Vocabulary) (clauses : List (Option Clause)) (line : Clause) (site : Site) where
  pub closed_site : (into : Clause) → AllFit v clauses → slice_get clauses site.clause ≡ Some (Some into) → NeverAt line into site → (reading : Reading) → NoneAtSite v clauses line site reading
  closed_site into fit at never = λ reading other from there here more s h.
      let same : other ≡ into = let both : Some (Some other) ≡ Some (Some into) = sym there ∙ at in cc in
      never v (fit site.clause (Some into) at into refl) from reading.lit reading.flipped more s (subst (λ (x : Clause). Paramodulates v x from line site.lit site.at reading.lit reading.flipped more s) same h)

  pub no_site : HasClause clauses site.clause None → (reading : Reading) → NoneAtSite v clauses line site reading
  no_site none = λ reading other from there. absurd (none other there)

pub few_of : (v : Vocabulary) (clauses : List (Option Clause)) (a : ℕ) (c : Clause) → AllFit v clauses → slice_get clauses a ≡ Some (Some c) → length c.sorts ≤ 1000000000
few_of v clauses a c fit at = (fit a (Some c) at c refl).few
