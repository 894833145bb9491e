-- From what is decided of numbered clauses to what is decided of clauses.
use Rattle.std.proofs.Common.{◌≡◌, ℕ, zero, suc, ◌+◌, ◌<◌, ◌≤◌, Bool, true, false, List, [], ◌∷◌, ◌++◌, length, map, take, get_or, Some, slice_get, Contains, refl, sym, ap, ◌∙◌, subst, inl, inr, arith}
use Rattle.std.specs.List.{AllZip}
use Rattle.std.proofs.lemmas.Bool.{false≢true}
use Rattle.std.proofs.lemmas.List.{take_more, length-take-le}
use Rattle.std.proofs.lemmas.Option.{slice_get_within, get_or_from_slice_get, slice_get-get_or}
use Rattle.clause_form.specs.declared.clause.AtomOf.{AtomOf}
use Rattle.clause_form.specs.declared.clause.AtomOf.TheVariants.{False}
use Rattle.clause_form.specs.declared.clause.Lit.{Lit}
use Rattle.clause_form.specs.declared.clause.Clause.{Clause}
use Rattle.clause_learning.specs.declared.literal.Literal.{Literal}
use Rattle.clause_learning.specs.declared.clauses.Learned.{Learned as Step}
use Rattle.clause_learning.specs.Literals.{complement}
use Rattle.clause_learning.specs.Refutations.{Entry, IsRefutation}
use Rattle.clause_learning.specs.Valuations.{HasAtoms, IsModel, entry_of as step_entry}
use Rattle.clause_learning.proofs.Trailing.{lit_same}
use Rattle.clause_learning.proofs.Members.{nothing_in, in_cons, head_in, tail_in}
use Rattle.sat_step.specs.declared.numbering.Numbered.{Numbered}
use Rattle.sat_step.specs.Decisions.{opposite, HasSign, Satisfies, entry_of, IsRefuted, positive_atoms}
use Rattle.sat_step.specs.code.Atoms.{AreDistinct}
use Rattle.sat_step.specs.code.Numbers.{IsRead, IsReadClause, IsNumbered, read_lit, read_learned, sign_lits}
use Rattle.sat_step.proofs.Renaming.{renamed, refutation_renamed}

-- ---- what numbered clauses stand for

read_same : (atoms : List AtomOf) (xs : List Literal) (ls : List Lit) → IsReadClause atoms xs ls → map (read_lit atoms) xs ≡ ls
read_same atoms [] [] h = refl
read_same atoms [] (l ∷ ls) h = absurd h
read_same atoms (x ∷ xs) [] h = absurd h
read_same atoms (x ∷ xs) (l ∷ ls) h =
    let rest = read_same atoms xs ls h.1 in
    let atom : get_or atoms x.atom False ≡ l.atom = get_or_from_slice_get atoms x.atom l.atom False h.0.atom in
    let made : Bool → AtomOf → Lit = λ s a. record { positive = s; atom = a } in
    let one : read_lit atoms x ≡ l = ap (λ (s : Bool). made s (get_or atoms x.atom False)) h.0.sign ∙ ap (λ (a : AtomOf). made l.positive a) atom in
    ap (λ (m : Lit). m ∷ map (read_lit atoms) xs) one ∙ ap (λ (ms : List Lit). l ∷ ms) rest

abbrev Reads : List AtomOf → List Literal → Clause → Type 0
Reads atoms xs c = IsReadClause atoms xs c.lits

clauses_same : (atoms : List AtomOf) (xss : List (List Literal)) (clauses : List Clause) → AllZip (Reads atoms) xss clauses → map (map (read_lit atoms)) xss ≡ map (λ c. c.lits) clauses
clauses_same atoms [] [] h = refl
clauses_same atoms [] (c ∷ clauses) h = absurd h
clauses_same atoms (xs ∷ xss) [] h = absurd h
clauses_same atoms (xs ∷ xss) (c ∷ clauses) h =
    ap (λ (ls : List Lit). ls ∷ map (map (read_lit atoms)) xss) (read_same atoms xs c.lits h.0) ∙ ap (λ (lss : List (List Lit)). c.lits ∷ lss) (clauses_same atoms xss clauses h.1)

lits_within : (atoms : List AtomOf) (xs : List Literal) (ls : List Lit) → IsReadClause atoms xs ls → (x : Literal) → Contains xs x → x.atom < length atoms
lits_within atoms [] ls h x there = absurd (nothing_in x there)
lits_within atoms (y ∷ xs) [] h x there = absurd h
lits_within atoms (y ∷ xs) (l ∷ ls) h x there =
    elim (in_cons y xs x there) [
      | inl e ↦ subst (λ (z : Literal). z.atom < length atoms) e (slice_get_within atoms y.atom l.atom h.0.atom)
      | inr rest ↦ lits_within atoms xs ls h.1 x rest
    ]

clauses_within : (atoms : List AtomOf) (xss : List (List Literal)) (clauses : List Clause) → AllZip (Reads atoms) xss clauses → HasAtoms (length atoms) xss
clauses_within atoms [] clauses h c there = absurd (nothing_in c there)
clauses_within atoms (xs ∷ xss) [] h c there = absurd h
clauses_within atoms (xs ∷ xss) (d ∷ clauses) h c there =
    elim (in_cons xs xss c there) [
      | inl e ↦ subst (λ (ys : List Literal). (x : Literal) → Contains ys x → x.atom < length atoms) e (lits_within atoms xs d.lits h.0)
      | inr rest ↦ clauses_within atoms xss clauses h.1 c rest
    ]

-- the numbered clauses have only atoms that are there
pub numbered_within : (clauses : List Clause) (n : Numbered) → IsNumbered clauses n → HasAtoms (length n.atoms) n.clauses
numbered_within clauses n h = clauses_within n.atoms n.clauses clauses h.read

-- ---- refutations

entries_same : (atoms : List AtomOf) (log : List Step) → map (renamed (read_lit atoms)) (map step_entry log) ≡ map entry_of (map (read_learned atoms) log)
entries_same atoms [] = refl
entries_same atoms (s ∷ log) = ap (λ (es : List (Entry Lit)). entry_of (read_learned atoms s) ∷ es) (entries_same atoms log)

module _ (clauses : List Clause) (n : Numbered) (h : IsNumbered clauses n) (log : List Step) (r : IsRefutation complement n.clauses (map step_entry log)) where
  Known : Literal → Type 0
  Known x = x.atom < length n.atoms

  once : (x y : Literal) → x.atom < length n.atoms → y.atom < length n.atoms → read_lit n.atoms x ≡ read_lit n.atoms y → x ≡ y
  once x y kx ky e =
      let atoms : get_or n.atoms x.atom False ≡ get_or n.atoms y.atom False = ap (λ (l : Lit). l.atom) e in
      let signs : x.positive ≡ y.positive = ap (λ (l : Lit). l.positive) e in
      let at : slice_get n.atoms x.atom ≡ Some (get_or n.atoms y.atom False) = slice_get-get_or n.atoms x.atom False kx ∙ ap (λ (a : AtomOf). Some a) atoms in
      let same : x.atom ≡ y.atom = h.distinct x.atom y.atom (get_or n.atoms y.atom False) at (slice_get-get_or n.atoms y.atom False ky) in
      lit_same x y same signs

  pub refuted_read : IsRefuted clauses (map (read_learned n.atoms) log)
  refuted_read =
      let R : List (List Lit) → Type 0 = λ cs. IsRefutation opposite cs (map entry_of (map (read_learned n.atoms) log)) in
      let S : List (Entry Lit) → Type 0 = λ es. IsRefutation opposite (map (map (read_lit n.atoms)) n.clauses) es in
      subst R (clauses_same n.atoms n.clauses clauses h.read) (subst S (entries_same n.atoms log)
      (refutation_renamed (read_lit n.atoms) complement opposite (λ x. x.atom < length n.atoms) (λ x. refl) once (λ x k. k) n.clauses (numbered_within clauses n h) (map step_entry log) r))

-- ---- valuations

sign_true : (atoms : List AtomOf) (signs : List Bool) (k i : ℕ) (a : AtomOf) → slice_get atoms (k + i) ≡ Some a → get_or signs i false ≡ true → Contains (positive_atoms (sign_lits atoms k signs)) a
sign_true atoms [] k i a at s = absurd (false≢true s)
sign_true atoms (true ∷ signs) k zero a at s =
    let here : k + 0 ≡ k = omega arith in
    let same : get_or atoms k False ≡ a = get_or_from_slice_get atoms k a False (ap (λ (n : ℕ). slice_get atoms n) (sym here) ∙ at) in
    subst (Contains (get_or atoms k False ∷ positive_atoms (sign_lits atoms (suc k) signs))) same (head_in (get_or atoms k False) (positive_atoms (sign_lits atoms (suc k) signs)))
sign_true atoms (false ∷ signs) k zero a at s = absurd (false≢true s)
sign_true atoms (true ∷ signs) k (suc i) a at s =
    let on : suc k + i ≡ k + suc i = omega arith in
    tail_in (get_or atoms k False) (positive_atoms (sign_lits atoms (suc k) signs)) a (sign_true atoms signs (suc k) i a (ap (λ (n : ℕ). slice_get atoms n) on ∙ at) s)
sign_true atoms (false ∷ signs) k (suc i) a at s =
    let on : suc k + i ≡ k + suc i = omega arith in
    sign_true atoms signs (suc k) i a (ap (λ (n : ℕ). slice_get atoms n) on ∙ at) s

abbrev HasTrueSign : List AtomOf → ℕ → List Bool → AtomOf → Type 0
HasTrueSign atoms k signs a = (i : ℕ) × (slice_get atoms (k + i) ≡ Some a) × (get_or signs i false ≡ true)

sign_later : (atoms : List AtomOf) (signs : List Bool) (k : ℕ) (s : Bool) (a : AtomOf) → HasTrueSign atoms (suc k) signs a → HasTrueSign atoms k (s ∷ signs) a
sign_later atoms signs k s a one =
    let on : k + suc one.0 ≡ suc k + one.0 = omega arith in
    (suc one.0, ap (λ (n : ℕ). slice_get atoms n) on ∙ one.1, one.2)

sign_only : (atoms : List AtomOf) (signs : List Bool) (k : ℕ) (a : AtomOf) → k + length signs ≤ length atoms → Contains (positive_atoms (sign_lits atoms k signs)) a → HasTrueSign atoms k signs a
sign_only atoms [] k a within there = absurd (nothing_in a there)
sign_only atoms (true ∷ signs) k a within there =
    elim (in_cons (get_or atoms k False) (positive_atoms (sign_lits atoms (suc k) signs)) a there) [
      | inl e ↦
          let here : k + 0 ≡ k = omega arith in
          let lt : k < length atoms = omega (arith, within) in
          (0, ap (λ (n : ℕ). slice_get atoms n) here ∙ slice_get-get_or atoms k False lt ∙ ap (λ (c : AtomOf). Some c) e, refl)
      | inr rest ↦ sign_later atoms signs k true a (sign_only atoms signs (suc k) a (omega (arith, within)) rest)
    ]
sign_only atoms (false ∷ signs) k a within there = sign_later atoms signs k false a (sign_only atoms signs (suc k) a (omega (arith, within)) there)

-- one sign more
pub signs_more : (atoms : List AtomOf) (k : ℕ) (signs : List Bool) (s : Bool) → sign_lits atoms k (signs ++ s ∷ []) ≡ sign_lits atoms k signs ++ record { positive = s; atom = get_or atoms (k + length signs) False } ∷ []
signs_more atoms k [] s =
    let here : k ≡ k + 0 = omega arith in
    ap (λ (n : ℕ). record { positive = s; atom = get_or atoms n False } ∷ []) here
signs_more atoms k (t ∷ signs) s =
    let on : suc k + length signs ≡ k + suc (length signs) = omega arith in
    ap (λ (ls : List Lit). record { positive = t; atom = get_or atoms k False } ∷ ls)
    (signs_more atoms (suc k) signs s ∙ ap (λ (n : ℕ). sign_lits atoms (suc k) signs ++ record { positive = s; atom = get_or atoms n False } ∷ []) on)

-- the literal that a numbered one stands for
stands_for : (atoms : List AtomOf) (xs : List Literal) (ls : List Lit) → IsReadClause atoms xs ls → (x : Literal) → Contains xs x → (l : Lit) × Contains ls l × IsRead atoms x l
stands_for atoms [] ls h x there = absurd (nothing_in x there)
stands_for atoms (y ∷ xs) [] h x there = absurd h
stands_for atoms (y ∷ xs) (l ∷ ls) h x there =
    elim (in_cons y xs x there) [
      | inl e ↦ (l, head_in l ls, subst (λ (z : Literal). IsRead atoms z l) e h.0)
      | inr rest ↦ let one = stands_for atoms xs ls h.1 x rest in (one.0, tail_in l ls one.0 one.1, one.2)
    ]

-- the numbered clause that stands for a clause
numbered_of : (atoms : List AtomOf) (xss : List (List Literal)) (clauses : List Clause) → AllZip (Reads atoms) xss clauses → (c : Clause) → Contains clauses c → (xs : List Literal) × Contains xss xs × IsReadClause atoms xs c.lits
numbered_of atoms xss [] h c there = absurd (nothing_in c there)
numbered_of atoms [] (d ∷ clauses) h c there = absurd h
numbered_of atoms (xs ∷ xss) (d ∷ clauses) h c there =
    elim (in_cons d clauses c there) [
      | inl e ↦ (xs, head_in xs xss, subst (λ (b : Clause). IsReadClause atoms xs b.lits) e h.0)
      | inr rest ↦ let one = numbered_of atoms xss clauses h.1 c rest in (one.0, tail_in xs xss one.0 one.1, one.2)
    ]

pub signs_next : (atoms : List AtomOf) (signs : List Bool) (i : ℕ) (lits new : List Lit) (a : AtomOf) → i < length signs → lits ≡ sign_lits atoms 0 (take i signs) → a ≡ get_or atoms i False
    → new ≡ lits ++ record { positive = get_or signs i false; atom = a } ∷ [] → new ≡ sign_lits atoms 0 (take (i + 1) signs)
signs_next atoms signs i lits new a within so_far at is =
    let many : length (take i signs) ≡ i = length-take-le i signs (omega arith) in
    let here : i ≡ 0 + length (take i signs) = omega (arith, many) in
    let made : ℕ → Lit = λ n. record { positive = get_or signs i false; atom = get_or atoms n False } in
    is ∙ ap (λ (b : AtomOf). lits ++ record { positive = get_or signs i false; atom = b } ∷ []) at ∙ ap (λ (ls : List Lit). ls ++ made i ∷ []) so_far
    ∙ ap (λ (n : ℕ). sign_lits atoms 0 (take i signs) ++ made n ∷ []) here ∙ sym (signs_more atoms 0 (take i signs) (get_or signs i false))
    ∙ ap (λ (ss : List Bool). sign_lits atoms 0 ss) (sym (take_more signs i false within))

has_sign : (atoms : List AtomOf) (signs : List Bool) → length signs ≡ length atoms → AreDistinct atoms → (k : ℕ) (a : AtomOf) → slice_get atoms k ≡ Some a → (s : Bool) → get_or signs k false ≡ s → HasSign s (positive_atoms (sign_lits atoms 0 signs)) a
has_sign atoms signs many apart k a at true is = let here : 0 + k ≡ k = omega arith in sign_true atoms signs 0 k a (ap (λ (n : ℕ). slice_get atoms n) here ∙ at) is
has_sign atoms signs many apart k a at false is = λ there.
    let one = sign_only atoms signs 0 a (omega (arith, many)) there in
    let here : 0 + one.0 ≡ one.0 = omega arith in
    let same : k ≡ one.0 = apart k one.0 a at (ap (λ (n : ℕ). slice_get atoms n) (sym here) ∙ one.1) in
    false≢true (sym is ∙ ap (λ (i : ℕ). get_or signs i false) same ∙ one.2)

pub model_satisfies : (clauses : List Clause) (n : Numbered) (signs : List Bool) → IsNumbered clauses n → IsModel (length n.atoms) n.clauses signs → Satisfies (positive_atoms (sign_lits n.atoms 0 signs)) clauses
model_satisfies clauses n signs h m c there =
    let xs = numbered_of n.atoms n.clauses clauses h.read c there in
    let x = m.all xs.0 xs.1 in
    let l = stands_for n.atoms xs.0 c.lits xs.2 x.0 x.1 in
    (l.0, l.1, has_sign n.atoms signs m.many h.distinct x.0.atom l.0.atom l.2.atom l.0.positive (x.2 ∙ l.2.sign))
