-- What a decision of the clauses of a propositional step says of the step.
use Rattle.std.specs.Prelude.{◌&&◌, ◌||◌, if◌then◌else◌, flat_map}
use Rattle.std.proofs.Common.{◌≡◌, ℕ, eqb, Bool, true, false, not, List, [], ◌∷◌, map, Contains, refl, sym, ap, ◌∙◌, subst, inl, inr}
use Rattle.std.specs.List.{list_all, list_any}
use Rattle.std.proofs.lemmas.Bool.{eqb-true, eq-eqb, false≢true, false_from_ne_true}
use Rattle.std.proofs.lemmas.List.Elements.{Contains-append_cases, Contains-append_left, Contains-append_right, Contains-push, Contains-push_cases}
use Rattle.fof_terms.specs.declared.form.Form.{Form}
use Rattle.fof_terms.proofs.LiftingLaws.{both}
use Rattle.clause_form.specs.declared.clause.AtomOf.{AtomOf}
use Rattle.clause_form.specs.declared.clause.Lit.{Lit}
use Rattle.clause_form.specs.declared.clause.Clause.{Clause}
use Rattle.clause_form.specs.Clauses.{clauses_in}
use Rattle.clause_form.specs.Norm.{norm_of}
use Rattle.clause_form.proofs.NormShape.{IsNormal, norm_is_normal}
use Rattle.clause_learning.proofs.Members.{nothing_in, in_cons, head_in, tail_in}
use Rattle.sat_step.specs.declared.decision.Learned.{Learned}
use Rattle.sat_step.specs.declared.decision.Decision.{Decision}
use Rattle.sat_step.specs.declared.decision.Decision.TheVariants.{Refuted, Valuation as Satisfied}
use Rattle.sat_step.specs.Decisions.{opposite, HasSign, Satisfies, entry_of, IsRefuted, IsDecision, positive_atoms}
use Rattle.sat_step.specs.Propositional.{Valuation, is_true, lit_is_true, clause_is_true, step_norms, IsPropositionalStep, Entails, propositional_clauses, DecidesStep}
use Rattle.sat_step.specs.Codes.{code_of}
use Rattle.sat_step.proofs.Codes.{atom_same}
use Rattle.sat_step.proofs.Renaming.{in_map, map_in}
use Rattle.sat_step.proofs.Sound.{refuted_not_true}
use Rattle.sat_step.proofs.Truth.{each_read}

-- ---- lists

any_more : {X : Type 0} (p : X → Bool) (x : X) (xs : List X) (b : Bool) → p x ≡ b → (list_any p xs ≡ true → (y : X) × Contains xs y × (p y ≡ true)) → list_any p (x ∷ xs) ≡ true
    → (y : X) × Contains (x ∷ xs) y × (p y ≡ true)
any_more p x xs true h rest e = (x, head_in x xs, h)
any_more p x xs false h rest e =
    let one = rest (sym (ap (λ (b : Bool). b || list_any p xs) h) ∙ e) in
    (one.0, tail_in x xs one.0 one.1, one.2)

any_true : {X : Type 0} (p : X → Bool) (xs : List X) → list_any p xs ≡ true → (x : X) × Contains xs x × (p x ≡ true)
any_true p [] e = absurd (false≢true e)
any_true p (x ∷ xs) e = any_more p x xs (p x) refl (any_true p xs) e

or_right : (b : Bool) → (b || true) ≡ true
or_right true = refl
or_right false = refl

any_from : {X : Type 0} (p : X → Bool) (xs : List X) (x : X) → Contains xs x → p x ≡ true → list_any p xs ≡ true
any_from p [] x there h = absurd (nothing_in x there)
any_from p (y ∷ xs) x there h =
    elim (in_cons y xs x there) [
      | inl e ↦ ap (λ (b : Bool). b || list_any p xs) (ap p e ∙ h)
      | inr rest ↦ ap (λ (b : Bool). p y || b) (any_from p xs x rest h) ∙ or_right (p y)
    ]

all_true : {X : Type 0} (p : X → Bool) (xs : List X) → list_all p xs ≡ true → (x : X) → Contains xs x → p x ≡ true
all_true p [] e x there = absurd (nothing_in x there)
all_true p (y ∷ xs) e x there =
    let parts = both (p y) (list_all p xs) e in
    elim (in_cons y xs x there) [
      | inl same ↦ ap p (sym same) ∙ parts.0
      | inr rest ↦ all_true p xs parts.1 x rest
    ]

all_from : {X : Type 0} (p : X → Bool) (xs : List X) → ((x : X) → Contains xs x → p x ≡ true) → list_all p xs ≡ true
all_from p [] h = refl
all_from p (x ∷ xs) h =
    ap (λ (b : Bool). b && list_all p xs) (h x (head_in x xs)) ∙ all_from p xs (λ y there. h y (tail_in x xs y there))

in_flat : {X Y : Type 0} (f : X → List Y) (xs : List X) (y : Y) → Contains (flat_map f xs) y → (x : X) × Contains xs x × Contains (f x) y
in_flat f [] y h = absurd (nothing_in y h)
in_flat f (x ∷ xs) y h =
    elim (Contains-append_cases (f x) (flat_map f xs) y h) [
      | inl here ↦ (x, head_in x xs, here)
      | inr rest ↦ let one = in_flat f xs y rest in (one.0, tail_in x xs one.0 one.1, one.2)
    ]

flat_in : {X Y : Type 0} (f : X → List Y) (xs : List X) (x : X) (y : Y) → Contains xs x → Contains (f x) y → Contains (flat_map f xs) y
flat_in f [] x y there h = absurd (nothing_in x there)
flat_in {X} f (z ∷ xs) x y there h =
    elim (in_cons z xs x there) [
      | inl e ↦ Contains-append_left (f z) (flat_map f xs) y (subst (λ (w : X). Contains (f w) y) (sym e) h)
      | inr rest ↦ Contains-append_right (f z) (flat_map f xs) y (flat_in f xs x y rest h)
    ]

-- ---- the step's normal forms

norms_normal : (parents : List Form) (line a : Form) → Contains (step_norms parents line) a → IsNormal a
norms_normal parents line a there =
    elim (Contains-push_cases (map (norm_of true) parents) (norm_of false line) a there) [
      | inl old ↦ let one = in_map (norm_of true) parents a old in subst IsNormal one.2 (norm_is_normal one.0 true)
      | inr e ↦ subst IsNormal e (norm_is_normal line false)
    ]

module _ (parents : List Form) (line : Form) (plain : IsPropositionalStep parents line) (v : Valuation) where
  norm_truth : (a : Form) → Contains (step_norms parents line) a → is_true v a ≡ list_all (clause_is_true v) (clauses_in a)
  norm_truth a there = (each_read v a).truth (norms_normal parents line a there) (plain a there)

  -- where the normal forms are true, so are the clauses
  clauses_true : ((a : Form) → Contains (step_norms parents line) a → is_true v a ≡ true) → (c : Clause) → Contains (propositional_clauses parents line) c → clause_is_true v c ≡ true
  clauses_true h c there =
      let one = in_flat clauses_in (step_norms parents line) c there in
      all_true (clause_is_true v) (clauses_in one.0) (sym (norm_truth one.0 one.1) ∙ h one.0 one.1) c one.2

  -- and the other way round
  norms_true : ((c : Clause) → Contains (propositional_clauses parents line) c → clause_is_true v c ≡ true) → (a : Form) → Contains (step_norms parents line) a → is_true v a ≡ true
  norms_true h a there =
      norm_truth a there ∙ all_from (clause_is_true v) (clauses_in a) (λ c on. h c (flat_in clauses_in (step_norms parents line) a c there on))

  -- all normal forms, from those of the parents and that of the line's negation
  norms_from : ((a : Form) → Contains parents a → is_true v (norm_of true a) ≡ true) → is_true v (norm_of false line) ≡ true → (a : Form) → Contains (step_norms parents line) a → is_true v a ≡ true
  norms_from h l a there =
      elim (Contains-push_cases (map (norm_of true) parents) (norm_of false line) a there) [
        | inl old ↦ let one = in_map (norm_of true) parents a old in ap (is_true v) (sym one.2) ∙ h one.0 one.1
        | inr e ↦ ap (is_true v) (sym e) ∙ l
      ]

-- ---- a refutation

clash : (s b : Bool) → (if s then b else not b) ≡ true → (if not s then b else not b) ≡ true → ⊥
clash true true h g = false≢true g
clash true false h g = false≢true h
clash false true h g = false≢true h
clash false false h g = false≢true g

refuted_entails : (parents : List Form) (line : Form) → IsPropositionalStep parents line → (log : List Learned) → IsRefuted (propositional_clauses parents line) log → Entails parents line
refuted_entails parents line plain log refuted v h = false_from_ne_true (is_true v (norm_of false line)) never
  where
    all : is_true v (norm_of false line) ≡ true → (lits : List Lit) → Contains (map (λ (c : Clause). c.lits) (propositional_clauses parents line)) lits → (l : Lit) × Contains lits l × (lit_is_true v l ≡ true)
    all l lits there =
        let one = in_map (λ (c : Clause). c.lits) (propositional_clauses parents line) lits there in
        let true' = clauses_true parents line plain v (norms_from parents line plain v h l) one.0 one.1 in
        subst (λ (ls : List Lit). (x : Lit) × Contains ls x × (lit_is_true v x ≡ true)) one.2 (any_true (lit_is_true v) one.0.lits true')

    never : is_true v (norm_of false line) ≡ true → ⊥
    never l =
        refuted_not_true opposite (λ x. lit_is_true v x ≡ true) (λ x t f. clash x.positive (v x.atom) t f) (map (λ c. c.lits) (propositional_clauses parents line)) (map entry_of log) refuted (all l)

-- ---- a valuation

same_code : List ℕ → List ℕ → Bool
same_code [] [] = true
same_code [] (y ∷ ys) = false
same_code (x ∷ xs) [] = false
same_code (x ∷ xs) (y ∷ ys) = eqb x y && same_code xs ys

code_same : (xs ys : List ℕ) → same_code xs ys ≡ true → xs ≡ ys
unfolding same_code
code_same [] [] e = refl
code_same [] (y ∷ ys) e = absurd (false≢true e)
code_same (x ∷ xs) [] e = absurd (false≢true e)
code_same (x ∷ xs) (y ∷ ys) e =
    let parts = both (eqb x y) (same_code xs ys) e in
    ap (λ (z : ℕ). z ∷ xs) (eqb-true x y parts.0) ∙ ap (λ (zs : List ℕ). y ∷ zs) (code_same xs ys parts.1)

code_itself : (xs : List ℕ) → same_code xs xs ≡ true
unfolding same_code
code_itself [] = refl
code_itself (x ∷ xs) = ap (λ (b : Bool). b && same_code xs xs) (eq-eqb x x refl) ∙ code_itself xs

-- the valuation that makes these atoms true
valuation_of : List AtomOf → Valuation
valuation_of atoms a = list_any (λ (b : AtomOf). same_code (code_of b) (code_of a)) atoms

true_in : (atoms : List AtomOf) (a : AtomOf) → Contains atoms a → valuation_of atoms a ≡ true
unfolding valuation_of
true_in atoms a there = any_from (λ (b : AtomOf). same_code (code_of b) (code_of a)) atoms a there (code_itself (code_of a))

in_true : (atoms : List AtomOf) (a : AtomOf) → valuation_of atoms a ≡ true → Contains atoms a
unfolding valuation_of
in_true atoms a e =
    let one = any_true (λ (b : AtomOf). same_code (code_of b) (code_of a)) atoms e in
    subst (Contains atoms) (atom_same one.0 a (code_same (code_of one.0) (code_of a) one.2)) one.1

sign_true : (atoms : List AtomOf) (l : Lit) (s : Bool) → HasSign s atoms l.atom → (if s then valuation_of atoms l.atom else not (valuation_of atoms l.atom)) ≡ true
sign_true atoms l true h = true_in atoms l.atom h
sign_true atoms l false h = ap not (false_from_ne_true (valuation_of atoms l.atom) (λ e. h (in_true atoms l.atom e)))

satisfied_not_entails : (parents : List Form) (line : Form) → IsPropositionalStep parents line → (atoms : List AtomOf) → Satisfies atoms (propositional_clauses parents line) → Entails parents line → ⊥
satisfied_not_entails parents line plain atoms sat entails =
    false≢true (sym (entails (valuation_of atoms) (λ a there. norms (norm_of true a) (Contains-append_left (map (norm_of true) parents) (norm_of false line ∷ []) (norm_of true a) (map_in (norm_of true) parents a there))))
    ∙ norms (norm_of false line) (Contains-push (map (norm_of true) parents) (norm_of false line)))
  where
    norms : (a : Form) → Contains (step_norms parents line) a → is_true (valuation_of atoms) a ≡ true
    norms = norms_true parents line plain (valuation_of atoms) (λ c there.
        let one = sat c there in any_from (lit_is_true (valuation_of atoms)) c.lits one.0 one.1 (sign_true atoms one.0 one.0.positive one.2))

pub decides : (parents : List Form) (line : Form) (d : Decision) → IsPropositionalStep parents line → IsDecision (propositional_clauses parents line) d → DecidesStep parents line d
decides parents line (Refuted log) plain h = refuted_entails parents line plain log h
decides parents line (Satisfied lits) plain h = satisfied_not_entails parents line plain (positive_atoms lits) h
