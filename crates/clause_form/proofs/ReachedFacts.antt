-- Lemmas on what specs/Reached defines.
use Rattle.std.specs.Prelude.{ℕ, ◌+◌, ◌≡◌, ◌<◌, ◌≤◌, ◌&&◌, nat_lt, Bool, true, false, List, [], ◌∷◌, ◌++◌, length, map, sum, Some, slice_get, refl}
use Rattle.std.specs.List.{AllByRecursion, list_all}
use Rattle.std.proofs.Common.{ap, sym, subst, ◌∙◌, arith, zero, suc, append_assoc}
use Rattle.std.proofs.lemmas.Bool.Decides.{nat_tests}
use Rattle.std.proofs.lemmas.List.{map-append, length-append, length-map}
use Rattle.std.proofs.lemmas.List.Folds.{list_all-append}
use Rattle.fof_terms.specs.Vocabulary.{Vocabulary}
use Rattle.fof_terms.proofs.LiftingLaws.{both, each_true}
use Rattle.fof_terms.specs.Lift.{lifted, lifted_term}
use Rattle.fof_terms.proofs.LiftFacts.{lifted-Atom, lifted-Eq, lifted-Not, lifted-And, lifted-Or}
use Rattle.fof_terms.specs.Sorts.{is_sorted}
use Rattle.fof_terms.proofs.SortsFacts.{is_sorted-And, is_sorted-Or, is_sorted-All}
use Rattle.fof_terms.proofs.Scoped.{member_of}
use Rattle.fof_terms.proofs.Walks.{lifted_fits}
use Rattle.fof_terms.specs.declared.form.Form.{Form, Not, And, Or, All}
use Rattle.clause_form.specs.declared.clause.AtomOf.{AtomOf}
use Rattle.clause_form.specs.declared.clause.AtomOf.TheVariants.{Pred, Eq as Equation, True, False}
use Rattle.clause_form.specs.declared.clause.Lit.{Lit}
use Rattle.clause_form.specs.declared.clause.Clause.{Clause}
use Rattle.clause_form.specs.Norm.{signed}
use Rattle.clause_form.specs.ClauseView.{form_of_atom, form_of_lit, form_of_lits, within}
use Rattle.clause_form.specs.Covers.{at_terms, in_lit}
use Rattle.clause_form.specs.Paths.{all_beside}
use Rattle.clause_form.specs.Sizes.{norm_size_of}
use Rattle.clause_form.proofs.SizesFacts.{norm_size_of-And, norm_size_of-Or, norm_size_of-All}
use Rattle.clause_form.proofs.SizeLaws.{sum_cons}
use Rattle.clause_form.specs.code.Beside.{moved, segments}
use Rattle.clause_form.specs.Beside.{all_sorts}
use Rattle.clause_form.proofs.BesideFacts.{lits_twice, beside_is, clause_with}
use Rattle.clause_form.specs.Reached.{around, FitOver, Suits, EachSuits}

-- The formulas of literals whose terms are lifted.
atom_moved : (by n : ℕ) (a : AtomOf) → form_of_atom (at_terms (lifted_term by n) a) ≡ lifted by n (form_of_atom a)
atom_moved by n (Pred p ts) = sym (lifted-Atom by n p ts)
atom_moved by n (Equation l r) = sym (lifted-Eq by n l r)
atom_moved by n True = rw lifted-And refl
atom_moved by n False = rw lifted-Or refl

signed_moved : (by n : ℕ) (g : Bool) (a b : Form) → a ≡ lifted by n b → signed g a ≡ lifted by n (signed g b)
signed_moved by n true a b e = e
signed_moved by n false a b e = rw lifted-Not (ap Not e)

pub lit_moved : (by n : ℕ) (l : Lit) → form_of_lit (in_lit (lifted_term by n) l) ≡ lifted by n (form_of_lit l)
lit_moved by n l = signed_moved by n l.positive (form_of_atom (at_terms (lifted_term by n) l.atom)) (form_of_atom l.atom) (atom_moved by n l.atom)

forms_moved : (by n : ℕ) (lits : List Lit) → map form_of_lit (map (in_lit (lifted_term by n)) lits) ≡ map (lifted by n) (map form_of_lit lits)
forms_moved by n [] = refl
forms_moved by n (l ∷ lits) = rw (lit_moved by n l, forms_moved by n lits) refl

lits_moved : (by n : ℕ) (lits : List Lit) → form_of_lits (map (in_lit (lifted_term by n)) lits) ≡ lifted by n (form_of_lits lits)
lits_moved by n [] = rw lifted-Or refl
lits_moved by n (l ∷ []) = lit_moved by n l
lits_moved by n (l ∷ k ∷ lits) = rw lifted-Or (ap Or (forms_moved by n (l ∷ k ∷ lits)))

pub whole_moved : (e f n : ℕ) (lits : List Lit) → form_of_lits (map (in_lit (moved e f n)) lits) ≡ lifted e 0 (lifted f n (form_of_lits lits))
whole_moved e f n lits =
    ap form_of_lits (sym (lits_twice (lifted_term e 0) (lifted_term f n) lits)) ∙ lits_moved e 0 (map (in_lit (lifted_term f n)) lits) ∙ ap (lifted e 0) (lits_moved f n lits)

-- Scopes within quantifiers.
pub around_front : (sorts scope : List ℕ) → around sorts scope ≡ around sorts [] ++ scope
around_front [] scope = refl
around_front (s ∷ sorts) scope =
    around_front sorts (s ∷ scope) ∙ sym (append_assoc (around sorts []) (s ∷ []) scope) ∙ ap (λ (ss : List ℕ). ss ++ scope) (sym (around_front sorts (s ∷ [])))

pub around_length : (sorts scope : List ℕ) → length (around sorts scope) ≡ length sorts + length scope
around_length [] scope = omega arith
around_length (s ∷ sorts) scope = let rest = around_length sorts (s ∷ scope) in omega arith

pub around_append : (xs ys scope : List ℕ) → around (xs ++ ys) scope ≡ around ys (around xs scope)
around_append [] ys scope = refl
around_append (x ∷ xs) ys scope = around_append xs ys (x ∷ scope)

front_length : (sorts : List ℕ) → length (around sorts []) ≡ length sorts
front_length sorts = around_length sorts [] ∙ (omega arith)

module _ (w : Vocabulary) where
  -- a formula over further variables
  pub fits_over : (new scope : List ℕ) (a : Form) → is_sorted w (around new scope) (lifted (length new) 0 a) ≡ is_sorted w scope a
  fits_over new scope a =
      subst (λ (ss : List ℕ). is_sorted w ss (lifted (length new) 0 a) ≡ is_sorted w scope a) (sym (around_front new scope))
      (subst (λ (n : ℕ). is_sorted w (around new [] ++ scope) (lifted n 0 a) ≡ is_sorted w scope a) (front_length new) (lifted_fits w (around new []) scope a []))

  -- a formula within quantifiers, with variables further out
  fits_between : (own new scope : List ℕ) (a : Form) → is_sorted w (around own (around new scope)) (lifted (length new) (length own) a) ≡ is_sorted w (around own scope) a
  fits_between own new scope a =
      let far : around own (around new scope) ≡ around own [] ++ (around new [] ++ scope) = around_front own (around new scope) ∙ ap (λ (ss : List ℕ). around own [] ++ ss) (around_front new scope) in
      subst (λ (ss : List ℕ). is_sorted w ss (lifted (length new) (length own) a) ≡ is_sorted w (around own scope) a) (sym far)
      (subst (λ (ss : List ℕ). is_sorted w (around own [] ++ (around new [] ++ scope)) (lifted (length new) (length own) a) ≡ is_sorted w ss a) (sym (around_front own scope))
      (subst (λ (n : ℕ). is_sorted w (around own [] ++ (around new [] ++ scope)) (lifted n (length own) a) ≡ is_sorted w (around own [] ++ scope) a) (front_length new)
      (subst (λ (n : ℕ). is_sorted w (around own [] ++ (around new [] ++ scope)) (lifted (length (around new [])) n a) ≡ is_sorted w (around own [] ++ scope) a) (front_length own)
      (lifted_fits w (around new []) scope a (around own [])))))

  pub fits_moved : (later own earlier scope : List ℕ) (a : Form)
      → is_sorted w (around later (around own (around earlier scope))) (lifted (length later) 0 (lifted (length earlier) (length own) a)) ≡ is_sorted w (around own scope) a
  fits_moved later own earlier scope a = fits_over later (around own (around earlier scope)) (lifted (length earlier) (length own) a) ∙ fits_between own earlier scope a

  and_true : (b : Bool) → b && true ≡ b
  and_true true = refl
  and_true false = refl

  pub members_fit : (scope : List ℕ) (lits : List Lit) → list_all (is_sorted w scope) (map form_of_lit lits) ≡ is_sorted w scope (form_of_lits lits)
  members_fit scope [] = rw is_sorted-Or refl
  members_fit scope (l ∷ []) = and_true (is_sorted w scope (form_of_lit l))
  members_fit scope (l ∷ k ∷ lits) = rw is_sorted-Or refl

  -- the literals of clauses beside each other
  segments_fit : (scope : List ℕ) (cs : List Clause) → FitOver w scope cs → (earlier : List ℕ) (f : ℕ) → f ≡ length earlier
      → list_all (is_sorted w (around (all_sorts cs) (around earlier scope))) (map form_of_lit (segments f cs)) ≡ true
  segments_fit scope [] all earlier f e = refl
  segments_fit scope (c ∷ cs) all earlier f e =
      let later = all_sorts cs in
      let g = moved (length later) f (length c.sorts) in
      let far = around later (around c.sorts (around earlier scope)) in
      let one : list_all (is_sorted w far) (map form_of_lit (map (in_lit g) c.lits)) ≡ true =
      members_fit far (map (in_lit g) c.lits) ∙ ap (is_sorted w far) (whole_moved (length later) f (length c.sorts) c.lits)
      ∙ ap (λ (n : ℕ). is_sorted w far (lifted (length later) 0 (lifted n (length c.sorts) (form_of_lits c.lits)))) e
      ∙ fits_moved later c.sorts earlier scope (form_of_lits c.lits) ∙ all.0 in
      let count : f + length c.sorts ≡ length (earlier ++ c.sorts) = ap (λ (n : ℕ). n + length c.sorts) e ∙ sym (length-append earlier c.sorts) in
      let rest = segments_fit scope cs all.1 (earlier ++ c.sorts) (f + length c.sorts) count in
      let two : list_all (is_sorted w far) (map form_of_lit (segments (f + length c.sorts) cs)) ≡ true =
      subst (λ (ss : List ℕ). list_all (is_sorted w (around later ss)) (map form_of_lit (segments (f + length c.sorts) cs)) ≡ true) (around_append earlier c.sorts scope) rest in
      subst (λ (ss : List ℕ). list_all (is_sorted w ss) (map form_of_lit (map (in_lit g) c.lits ++ segments (f + length c.sorts) cs)) ≡ true) (sym (around_append c.sorts later (around earlier scope)))
      (rw (map-append, list_all-append, one, two) refl)

  pub beside_fits : (scope : List ℕ) (cs : List Clause) → FitOver w scope cs → is_sorted w (around (all_sorts cs) scope) (form_of_lits (segments 0 cs)) ≡ true
  beside_fits scope cs all = sym (members_fit (around (all_sorts cs) scope) (segments 0 cs)) ∙ segments_fit scope cs all [] 0 refl

pub member_size : (as_ : List Form) (k : ℕ) (a : Form) → slice_get as_ k ≡ Some a → norm_size_of a ≤ sum (map norm_size_of as_)
member_size [] k a e = cc
member_size (b ∷ as_) zero a e = let same : b ≡ a = cc in rw (sum_cons (norm_size_of b) (map norm_size_of as_), same) (omega arith)
member_size (b ∷ as_) (suc k) a e = rw (sum_cons (norm_size_of b) (map norm_size_of as_)) (omega (arith, member_size as_ k a e))

pub suits_and : (as_ : List Form) (k : ℕ) (a : Form) (c : Clause) → slice_get as_ k ≡ Some a → Suits a c → Suits (And as_) c
suits_and as_ k a c e s =
    let member : (w : Vocabulary) (v : List ℕ) → is_sorted w v (And as_) ≡ true → is_sorted w v a ≡ true =
    λ w v fits. member_of (λ b. is_sorted w v b ≡ true) as_ k a (each_true (is_sorted w v) as_ (rw is_sorted-And at fits)) e in
    record {
      small = rw norm_size_of-And (omega (arith, member_size as_ k a e, s.small));
      sorts = λ w v fits. s.sorts w v (member w v fits);
      fits = λ w v fits. s.fits w v (member w v fits);
    }

less_true : (a b : ℕ) → nat_lt a b ≡ true → a < b
less_true a b e = grind (arith, nat_tests)

pub suits_all : (s : ℕ) (a : Form) (c : Clause) → Suits a c → Suits (All s a) (within s c)
suits_all s a c r = record {
  small = rw norm_size_of-All (omega (arith, r.small));
  sorts = λ w v fits.
      let parts = both (nat_lt s (length w.sorts)) (is_sorted w (s ∷ v) a) (rw is_sorted-All at fits) in
      (less_true s (length w.sorts) parts.0, r.sorts w (s ∷ v) parts.1);
  fits = λ w v fits.
      let parts = both (nat_lt s (length w.sorts)) (is_sorted w (s ∷ v) a) (rw is_sorted-All at fits) in
      r.fits w (s ∷ v) parts.1;
}

pub segments_size : (as_ : List Form) (cs : List Clause) → EachSuits as_ cs → (f : ℕ) → length (all_sorts cs) + length (segments f cs) ≤ sum (map norm_size_of as_)
segments_size [] [] all f = omega arith
segments_size [] (c ∷ cs) all f = absurd all
segments_size (a ∷ as_) [] all f = absurd all
segments_size (a ∷ as_) (c ∷ cs) all f =
    let g = in_lit (moved (length (all_sorts cs)) f (length c.sorts)) in
    let rest = segments_size as_ cs all.1 (f + length c.sorts) in
    let own = all.0.small in
    let many : length (map g c.lits) ≡ length c.lits = length-map c.lits g in
    rw (sum_cons (norm_size_of a) (map norm_size_of as_), length-append c.sorts (all_sorts cs), length-append (map g c.lits) (segments (f + length c.sorts) cs), many) (omega arith)

both_exist : (xs ys : List ℕ) (w : Vocabulary) → AllByRecursion (λ s. s < length w.sorts) xs → AllByRecursion (λ s. s < length w.sorts) ys → AllByRecursion (λ s. s < length w.sorts) (xs ++ ys)
both_exist [] ys w all rest = rest
both_exist (x ∷ xs) ys w all rest = (all.0, both_exist xs ys w all.1 rest)

pub sorts_exist : (as_ : List Form) (cs : List Clause) → EachSuits as_ cs → (w : Vocabulary) (v : List ℕ) → AllByRecursion (λ a. is_sorted w v a ≡ true) as_ → AllByRecursion (λ s. s < length w.sorts) (all_sorts cs)
sorts_exist [] [] all w v fits = tt
sorts_exist [] (c ∷ cs) all w v fits = absurd all
sorts_exist (a ∷ as_) [] all w v fits = absurd all
sorts_exist (a ∷ as_) (c ∷ cs) all w v fits = both_exist c.sorts (all_sorts cs) w (all.0.sorts w v fits.0) (sorts_exist as_ cs all.1 w v fits.1)

pub each_fits : (as_ : List Form) (cs : List Clause) → EachSuits as_ cs → (w : Vocabulary) (v : List ℕ) → AllByRecursion (λ a. is_sorted w v a ≡ true) as_ → FitOver w v cs
each_fits [] [] all w v fits = tt
each_fits [] (c ∷ cs) all w v fits = absurd all
each_fits (a ∷ as_) [] all w v fits = absurd all
each_fits (a ∷ as_) (c ∷ cs) all w v fits = (all.0.fits w v fits.0, each_fits as_ cs all.1 w v fits.1)

suits_segments : (as_ : List Form) (cs : List Clause) → EachSuits as_ cs → Suits (Or as_) (clause_with (all_sorts cs) (segments 0 cs))
suits_segments as_ cs all = record {
  small = rw norm_size_of-Or (omega (arith, segments_size as_ cs all 0));
  sorts = λ w v fits. sorts_exist as_ cs all w v (each_true (is_sorted w v) as_ (rw is_sorted-Or at fits));
  fits = λ w v fits. beside_fits w v cs (each_fits as_ cs all w v (each_true (is_sorted w v) as_ (rw is_sorted-Or at fits)));
}

pub suits_or : (as_ : List Form) (cs : List Clause) → EachSuits as_ cs → Suits (Or as_) (all_beside cs)
suits_or as_ cs all = rw (beside_is cs) (suits_segments as_ cs all)
