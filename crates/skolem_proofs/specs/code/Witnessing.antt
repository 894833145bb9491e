-- What the walk through a formula, with functions for its existential variables, needs and ends with.
use Rattle.std.specs.Prelude.{ℕ, ◌≡◌, ◌+◌, ◌≤◌, Bool, List, [], ◌++◌, length, drop, map, sum}
use Rattle.std.specs.List.{AllByRecursion as Each}
use Rattle.fof_terms.specs.declared.form.Form.{Form}
use Rattle.fof_terms.specs.Vocabulary.{Vocabulary}
use Rattle.clause_form.specs.Sizes.{norm_size_of}
use Rattle.kernel.specs.declared.entry.Entry.{Entry}
use Rattle.kernel.specs.declared.proof.Proof.{Proof}
use Rattle.skolem_fresh.specs.declared.just.Use.{Use}
use Rattle.skolem_fresh.specs.Choosing.{IsWithin}
use Rattle.skolem_fresh.specs.SkolemRule.{IsSkolemized, AreSkolemized}
use Rattle.skolem_proofs.specs.declared.witnessing.Witnessed.{Witnessed}
use Rattle.skolem_proofs.specs.code.Witnessed.{IsWitnessed, AreWitnessed, arms}

-- the first of the functions take the places of the formula's existential variables
pub record Goes (v : Vocabulary) (scope : List ℕ) (a : Form) (us : List Use) : Type 0 where
  pub taken : List Use
  pub after : List Use
  pub result : Form
  pub parts : us ≡ taken ++ after
  pub is : IsSkolemized v scope taken a result

-- and the formula has room
pub record MayGo (v : Vocabulary) (scope : List ℕ) (a : Form) (us : List Use) : Type 0 where
  pub small : norm_size_of a ≤ 100000
  pub within : IsWithin v scope a
  pub goes : Goes v scope a us

-- the entries that were gained, and what was made
pub record Went (v : Vocabulary) (scope : List ℕ) (a : Form) (us left : List Use) (g : Goes v scope a us) (n : ℕ) (old new : List Entry) (form : Form) (part : Proof) : Type 0 where
  pub told : List Entry
  pub gained : new ≡ old ++ told
  pub is : IsWitnessed v scope n g.taken a form told part
  pub same : form ≡ g.result
  pub rest : left ≡ g.after

abbrev pub IsGone : Form → List Use → ℕ → List Entry → List Entry → Witnessed → Type 0
IsGone a uses first old new made =
    (v : Vocabulary) (scope : List ℕ) (g : Goes v scope a (drop (length old) uses)) → Went v scope a (drop (length old) uses) (drop (length new) uses) g (first + length old) old new made.form made.part

-- the same of each of some formulas
pub record AllGo (v : Vocabulary) (scope : List ℕ) (as_ : List Form) (us : List Use) : Type 0 where
  pub taken : List Use
  pub after : List Use
  pub results : List Form
  pub parts : us ≡ taken ++ after
  pub are : AreSkolemized v scope taken as_ results

pub record MayAllGo (v : Vocabulary) (scope : List ℕ) (as_ : List Form) (us : List Use) : Type 0 where
  pub small : 1 + sum (map norm_size_of as_) ≤ 100000
  pub within : Each (IsWithin v scope) as_
  pub go : AllGo v scope as_ us

-- So far: of the formulas some are done, and the others may go on.
pub record WentSoFar (v : Vocabulary) (scope : List ℕ) (conj : Bool) (done others : List Form) (taken after left : List Use) (results : List Form) (n : ℕ) (old new : List Entry) (forms : List Form) (parts : List Proof) : Type 0 where
  pub told : List Entry
  pub gained : new ≡ old ++ told
  pub before : List Use
  pub behind : List Use
  pub uses : taken ≡ before ++ behind
  pub more : List Form
  pub same : results ≡ forms ++ more
  pub proofs : List Proof
  pub arms : parts ≡ arms conj 0 proofs
  pub are : AreWitnessed v scope n before done forms told proofs
  pub go : AreSkolemized v scope behind others more
  pub rest : left ≡ behind ++ after

abbrev pub AreGoneSoFar : Bool → List Form → List Form → List Form → List Use → ℕ → List Entry → List Entry → List Form → List Proof → Type 0
AreGoneSoFar conj as_ done others uses first old new forms parts =
    (v : Vocabulary) (scope : List ℕ) (g : AllGo v scope as_ (drop (length old) uses))
    → WentSoFar v scope conj done others g.taken g.after (drop (length new) uses) g.results (first + length old) old new forms parts

abbrev pub AreGone : Bool → List Form → List Use → ℕ → List Entry → List Entry → List Form → List Proof → Type 0
AreGone conj as_ uses first old new forms parts = AreGoneSoFar conj as_ as_ [] uses first old new forms parts
