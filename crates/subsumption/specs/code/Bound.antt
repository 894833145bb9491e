-- What the variables of a member are bound to, and what a matching adds to that.
use Rattle.std.specs.Prelude.{ℕ, ◌≡◌, List, [], ◌∷◌, ◌++◌, length, map, get_or, Option, Some, None}
use Rattle.std.specs.Option.{option_map}
use Rattle.std.proofs.Math.ListN.{set}
use Rattle.fof_terms.specs.declared.term.Term.{Term, Var}
use Rattle.fof_terms.specs.Vocabulary.{Vocabulary}
use Rattle.fof_terms.specs.Sorts.{sort_of_term}
use Rattle.subsumption.specs.declared.bindings.Bindings.{Bindings}

-- the image of each variable that is bound
abbrev pub images_of : Bindings → List (Option Term)
images_of b = map (option_map (λ r. r.now)) b.images.items

-- the variables that are bound, the last one last
abbrev pub trail_of : Bindings → List ℕ
trail_of b = b.trail.items

-- the images without those of these variables
abbrev pub cleared : List ℕ → List (Option Term) → List (Option Term)
cleared [] images = images
cleared (k ∷ ks) images = set (cleared ks images) k None

-- the substitution takes each variable that is bound to its image
pub record Agrees (s : ℕ → Term) (images : List (Option Term)) : Type 0 where
  pub same : (k : ℕ) (t : Term) → get_or images k None ≡ Some t → s k ≡ t

-- the images have the sorts of their variables
pub record AreOfSorts (v : Vocabulary) (scope target : List ℕ) (images : List (Option Term)) : Type 0 where
  pub sorted : (k : ℕ) (t : Term) → get_or images k None ≡ Some t → (r : ℕ) × (sort_of_term v scope (Var k) ≡ Some r) × (sort_of_term v target t ≡ Some r)

-- some variables were bound; without them all stands as before
pub record IsOver (old new : Bindings) : Type 0 where
  pub added : List ℕ
  pub trail : trail_of new ≡ trail_of old ++ added
  pub images : cleared added (images_of new) ≡ images_of old
  pub size : length (images_of new) ≡ length (images_of old)

-- the substitutions that agree are those from before that have the property
pub record Adds (old new : Bindings) (P : (ℕ → Term) → Type 0) : Type 0 where
  pub forth : (s : ℕ → Term) → Agrees s (images_of new) → Agrees s (images_of old) × P s
  pub back : (s : ℕ → Term) → Agrees s (images_of old) → P s → Agrees s (images_of new)

-- what is bound is as before
pub record IsBack (old new : Bindings) : Type 0 where
  pub images : images_of new ≡ images_of old
  pub trail : trail_of new ≡ trail_of old

-- all variables were let go but the first so many that were bound
pub record IsUndone (old new : Bindings) (count : ℕ) : Type 0 where
  pub gone : List ℕ
  pub trail : trail_of old ≡ trail_of new ++ gone
  pub images : images_of new ≡ cleared gone (images_of old)
  pub size : length (trail_of new) ≡ count
