-- How far the search for a paramodulation has come.
use Rattle.std.specs.Prelude.{ℕ, suc, Bool, true, false, ◌≡◌, List, [], ◌∷◌, ◌++◌, Option, Some, None, slice_get}
use Rattle.fof_terms.specs.Vocabulary.{Vocabulary}
use Rattle.fof_terms.specs.declared.term.Term.{Term}
use Rattle.clause_form.specs.declared.clause.AtomOf.{AtomOf}
use Rattle.clause_form.specs.declared.clause.AtomOf.TheVariants.{Pred, Eq, True, False}
use Rattle.clause_form.specs.declared.clause.Lit.{Lit}
use Rattle.clause_form.specs.declared.clause.Clause.{Clause}
use Rattle.clause_rules.specs.declared.just.Just.{Just}
use Rattle.clause_rules.specs.declared.just.Just.TheVariants.{Paramodulation}
use Rattle.rule_steps.specs.declared.sides.Sides.{Sides}
use Rattle.rule_steps.specs.declared.sites.Reading.{Reading}
use Rattle.rule_steps.specs.declared.sites.Site.{Site}
use Rattle.rule_steps.specs.declared.sites.Spot.{Spot}
use Rattle.clause_rules.specs.ParamodulationRule.{Paramodulates}
use Rattle.clause_rules.specs.Places.{lit_term_at}
use Rattle.clause_rules.specs.PlaceSearch.{places_of}
use Rattle.clause_rules.specs.Settled.{IsFit}
use Rattle.rule_steps.specs.code.SiteSearch.{FoundAmong, FoundWith}
use Rattle.clause_rules.specs.Steps.{scope_of_both, equation, IsJoint, images_of_parents}

-- no paramodulation changes the clause at this place
abbrev pub NeverAt : Clause → Clause → Site → Type 0
NeverAt line into site = (v : Vocabulary) → IsFit v into → (from : Clause) (j : ℕ) (flipped : Bool) (more : List ℕ) (s : ℕ → Term) → Paramodulates v into from line site.lit site.at j flipped more s → ⊥

-- what each element gives with its number, the first being n
abbrev pub indexed : {X Y : Type 0} → (ℕ → X → List Y) → ℕ → List X → List Y
indexed f n [] = []
indexed f n (x ∷ xs) = f n x ++ indexed f (suc n) xs

-- All places of the clauses, and all equations, as they are read.
abbrev pub sites_of_places : ℕ → ℕ → List (List ℕ) → List Site
sites_of_places a i [] = []
sites_of_places a i (p ∷ places) = record { clause = a; lit = i; at = p } ∷ sites_of_places a i places

abbrev pub sites_of_lits : ℕ → ℕ → List Lit → List Site
sites_of_lits a = indexed (λ i (k : Lit). sites_of_places a i (places_of k))

abbrev pub sites_of_slot : ℕ → Option Clause → List Site
sites_of_slot a None = []
sites_of_slot a (Some c) = sites_of_lits a 0 c.lits

abbrev pub sites_from : ℕ → List (Option Clause) → List Site
sites_from = indexed sites_of_slot

abbrev pub readings_of_atom : ℕ → ℕ → Bool → AtomOf → List Reading
readings_of_atom b j true (Eq l r) = record { clause = b; lit = j; flipped = false } ∷ record { clause = b; lit = j; flipped = true } ∷ []
readings_of_atom b j false (Eq l r) = []
readings_of_atom b j positive (Pred p ts) = []
readings_of_atom b j positive True = []
readings_of_atom b j positive False = []

abbrev pub readings_of_lits : ℕ → ℕ → List Lit → List Reading
readings_of_lits b = indexed (λ j (k : Lit). readings_of_atom b j k.positive k.atom)

abbrev pub readings_of_slot : ℕ → Option Clause → List Reading
readings_of_slot b None = []
readings_of_slot b (Some c) = readings_of_lits b 0 c.lits

abbrev pub readings_from : ℕ → List (Option Clause) → List Reading
readings_from = indexed readings_of_slot

-- the literal of that number with the term at the place, if it has one there
abbrev pub HasSpot : List Lit → ℕ → List ℕ → Option Spot → Type 0
HasSpot lits i place None = (k : Lit) (u : Term) → slice_get lits i ≡ Some k → lit_term_at place k ≡ Some u → ⊥
HasSpot lits i place (Some spot) = (slice_get lits i ≡ Some spot.lit.now) × (lit_term_at place spot.lit.now ≡ Some spot.term.now)

-- the sides of the literal of that number, if it is a positive equation
abbrev pub HasEquation : List Lit → ℕ → Bool → Option Sides → Type 0
HasEquation lits j flipped None = (l r : Term) → slice_get lits j ≡ Some (equation flipped l r) → ⊥
HasEquation lits j flipped (Some sides) = slice_get lits j ≡ Some (equation flipped sides.left.now sides.right.now)

-- the clause of that number, if it is one
abbrev pub HasClause : List (Option Clause) → ℕ → Option Clause → Type 0
HasClause clauses a None = (c : Clause) → slice_get clauses a ≡ Some (Some c) → ⊥
HasClause clauses a (Some c) = slice_get clauses a ≡ Some (Some c)

-- the images show the paramodulation at this site with this reading
pub record ShowsAtSite (v : Vocabulary) (clauses : List (Option Clause)) (line : Clause) (site : Site) (reading : Reading) (images : List Term) : Type 0 where
  pub into : Clause
  pub from : Clause
  pub into_there : slice_get clauses site.clause ≡ Some (Some into)
  pub from_there : slice_get clauses reading.clause ≡ Some (Some from)
  pub joint : IsJoint v line (scope_of_both into from) images
  pub paramodulates : Paramodulates v into from line site.lit site.at reading.lit reading.flipped (scope_of_both into from) (images_of_parents line images)

abbrev pub NoneAtSite : Vocabulary → List (Option Clause) → Clause → Site → Reading → Type 0
NoneAtSite v clauses line site reading =
    (into from : Clause) → slice_get clauses site.clause ≡ Some (Some into) → slice_get clauses reading.clause ≡ Some (Some from) → (more : List ℕ) (s : ℕ → Term) → Paramodulates v into from line site.lit site.at reading.lit reading.flipped more s → ⊥

abbrev pub TriedAtSite : Vocabulary → List (Option Clause) → Clause → Site → Reading → Option (List Term) → Type 0
TriedAtSite v clauses line site reading None = NoneAtSite v clauses line site reading
TriedAtSite v clauses line site reading (Some images) = ShowsAtSite v clauses line site reading images

pub record ShowsParamodulation (v : Vocabulary) (clauses : List (Option Clause)) (line : Clause) (just : Just) : Type 0 where
  pub site : Site
  pub reading : Reading
  pub images : List Term
  pub is : just ≡ Paramodulation site.clause reading.clause site.lit site.at reading.lit reading.flipped images
  pub shown : ShowsAtSite v clauses line site reading images

abbrev pub FoundAtSite : Vocabulary → List (Option Clause) → List Reading → Clause → Site → Option Just → Type 0
FoundAtSite v clauses readings line = FoundWith (NoneAtSite v clauses line) (ShowsParamodulation v clauses line) readings

abbrev pub FoundAtSites : Vocabulary → List (Option Clause) → List Site → List Reading → Clause → Option Just → Type 0
FoundAtSites v clauses sites readings line = FoundAmong (NoneAtSite v clauses line) (ShowsParamodulation v clauses line) sites readings

-- at the places of literal i of clause a, at those of clause a, and at those of all clauses
abbrev pub FoundAtLit : Vocabulary → List (Option Clause) → List Reading → Clause → ℕ → ℕ → Option Just → Type 0
FoundAtLit v clauses readings line a i None = (place : List ℕ) → FoundAtSite v clauses readings line (record { clause = a; lit = i; at = place }) None
FoundAtLit v clauses readings line a i (Some just) = ShowsParamodulation v clauses line just

abbrev pub FoundInClause : Vocabulary → List (Option Clause) → List Reading → Clause → ℕ → Option Just → Type 0
FoundInClause v clauses readings line a None = (i : ℕ) → FoundAtLit v clauses readings line a i None
FoundInClause v clauses readings line a (Some just) = ShowsParamodulation v clauses line just

abbrev pub FoundInClauses : Vocabulary → List (Option Clause) → List Reading → Clause → Option Just → Type 0
FoundInClauses v clauses readings line None = (a : ℕ) → FoundInClause v clauses readings line a None
FoundInClauses v clauses readings line (Some just) = ShowsParamodulation v clauses line just
