-- The rule `rewrite` (demodulation): a parent is one equation, an instance of one of its sides stands in another
-- parent, and each occurrence of that term gives way to the same instance of the other side.
use Rattle.std.specs.Prelude.{ℕ, Bool, ◌≡◌, ◌≢◌, List, [], ◌∷◌, ◌++◌, Some, slice_get}
use Rattle.fof_terms.specs.declared.term.Term.{Term, Var, App}
use Rattle.fof_terms.specs.declared.form.Form.{Form}
use Rattle.fof_terms.specs.Vocabulary.{Vocabulary}
use Rattle.clause_form.specs.declared.path.Parent.{Parent}
use Rattle.clause_form.specs.declared.clause.AtomOf.{AtomOf}
use Rattle.clause_form.specs.declared.clause.AtomOf.TheVariants.{Pred, Eq, True, False}
use Rattle.clause_form.specs.declared.clause.Lit.{Lit}
use Rattle.clause_form.specs.declared.clause.Clause.{Clause}
use Rattle.clause_form.specs.ClauseView.{clause_of}
use Rattle.clause_form.specs.Covers.{scope_of, CoversBy}
use Rattle.clause_form.specs.Images.{image, IsImages}
use Rattle.clause_rules.specs.Places.{lit_term_at}
use Rattle.clause_rules.specs.Steps.{IsClauseAt, equation}

mutual
  -- the second term is the first with w in place of each occurrence of u
  pub data IsRewritten (u w : Term) : Term → Term → Type 0 where
    all_of_it : IsRewritten u w u w
    a_variable : (k : ℕ) → Var k ≢ u → IsRewritten u w (Var k) (Var k)
    inside : (f : ℕ) (ts us : List Term) → App f ts ≢ u → AreRewritten u w ts us → IsRewritten u w (App f ts) (App f us)

  pub data AreRewritten (u w : Term) : List Term → List Term → Type 0 where
    none : AreRewritten u w [] []
    more : (t s : Term) (ts us : List Term) → IsRewritten u w t s → AreRewritten u w ts us → AreRewritten u w (t ∷ ts) (s ∷ us)

-- the same in an atom
abbrev pub IsAtomRewritten : Term → Term → AtomOf → AtomOf → Type 0
IsAtomRewritten u w (Pred p ts) b = (us : List Term) × AreRewritten u w ts us × (b ≡ Pred p us)
IsAtomRewritten u w (Eq l r) b = (s t : Term) × IsRewritten u w l s × IsRewritten u w r t × (b ≡ Eq s t)
IsAtomRewritten u w True b = b ≡ True
IsAtomRewritten u w False b = b ≡ False

-- the same in each literal of a clause
abbrev pub AreLitsRewritten : Term → Term → List Lit → List Lit → Type 0
AreLitsRewritten u w [] new = new ≡ []
AreLitsRewritten u w (k ∷ old) new = (l : Lit) × (ls : List Lit) × (new ≡ l ∷ ls) × (l.positive ≡ k.positive) × IsAtomRewritten u w k.atom l.atom × AreLitsRewritten u w old ls

-- the term stands at some place of some literal
abbrev pub StandsIn : Term → List Lit → Type 0
StandsIn u lits = (i : ℕ) × (place : List ℕ) × (k : Lit) × (slice_get lits i ≡ Some k) × (lit_term_at place k ≡ Some u)

-- By the first substitution, from the equation's variables to those of the clause and further ones, the left side of
-- the equation is the target, which stands in the clause. The clause with the right side in place of each occurrence of
-- the target has an instance, under the second substitution, all of whose literals are covered by the line.
pub record Rewrites (v : Vocabulary) (into by line : Clause) (target : Term) (flipped : Bool) (further : List ℕ) (r : ℕ → Term) (more : List ℕ) (s : ℕ → Term) : Type 0 where
  pub left : Term
  pub right : Term
  pub is_equation : by.lits ≡ equation flipped left right ∷ []
  pub by_images : IsImages v (scope_of by) (scope_of into ++ further) r
  pub matched : image r left ≡ target
  pub stands : StandsIn target into.lits
  pub rewritten : List Lit
  pub all_rewritten : AreLitsRewritten target (image r right) into.lits rewritten
  pub covers : CoversBy v (scope_of into ++ further) rewritten line more s

-- two parents, of these numbers, are the clause and the equation; one parent may be both
pub record RewritesAt (v : Vocabulary) (parents : List Parent) (line : Form) (a b : ℕ) (target : Term) (flipped : Bool) (into by e : Clause) (further : List ℕ) (r : ℕ → Term) (more : List ℕ) (s : ℕ → Term) : Type 0 where
  pub line_clause : clause_of line ≡ Some e
  pub into_clause : IsClauseAt parents a into
  pub by_clause : IsClauseAt parents b by
  pub rewrites : Rewrites v into by e target flipped further r more s

abbrev pub IsRewriteStep : Vocabulary → List Parent → Form → Type 0
IsRewriteStep v parents line = (a b : ℕ) × (target : Term) × (flipped : Bool) × (into by e : Clause) × (further : List ℕ) × (r : ℕ → Term) × (more : List ℕ) × (s : ℕ → Term) × RewritesAt v parents line a b target flipped into by e further r more s
