-- The numbers of atoms.
use Rattle.std.proofs.Common.{◌≡◌, ℕ, zero, suc, ◌+◌, ◌<◌, not, Bool, true, false, if◌then◌else◌, List, [], ◌∷◌, ◌++◌, length, map, take, get_or, Option, Some, None, slice_get, Contains, ◌⊎◌, refl, sym, ap, ◌∙◌, subst, inl, inr, append_assoc, append-nil}
use Rattle.std.specs.List.{AllZip, list_any}
use Rattle.std.specs.Option.{option_map}
use Rattle.std.proofs.lemmas.Bool.{false≢true, not-true, not-false, or_left, or_right}
use Rattle.std.proofs.lemmas.Option.{slice_get-map}
use Rattle.std.proofs.lemmas.List.{map-append, take_more}
use Rattle.std.proofs.lemmas.Slice.Zip.{all_zipped_more}
use Rattle.clause_form.specs.declared.clause.AtomOf.{AtomOf}
use Rattle.clause_form.specs.declared.clause.Lit.{Lit}
use Rattle.clause_form.specs.declared.clause.Clause.{Clause}
use Rattle.clause_learning.specs.declared.literal.Literal.{Literal}
use Rattle.clause_learning.proofs.Members.{nothing_in, in_cons, got_left, got_in}
use Rattle.sat_step.specs.Codes.{code_of}
use Rattle.sat_step.specs.code.Atoms.{AreDistinct, IsPrefix}
use Rattle.sat_step.specs.code.Numbers.{IsRead, IsReadClause}
use Rattle.sat_step.proofs.Codes.{atom_same}
use Rattle.sat_step.proofs.Renaming.{in_map}

-- what is read from a longer list stands in the old one or is the last
pub got_push_cases : (atoms : List AtomOf) (b : AtomOf) (i : ℕ) (a : AtomOf) → slice_get (atoms ++ b ∷ []) i ≡ Some a → (slice_get atoms i ≡ Some a) ⊎ ((i ≡ length atoms) × (b ≡ a))
got_push_cases [] b zero a e = inr (refl, let one : Some b ≡ Some a = e in cc)
got_push_cases [] b (suc i) a e = absurd (let never : None ≡ Some a = e in cc)
got_push_cases (c ∷ atoms) b zero a e = inl e
got_push_cases (c ∷ atoms) b (suc i) a e =
    elim (got_push_cases atoms b i a e) [ inl old ↦ inl old | inr new ↦ inr (ap suc new.0, new.1) ]

-- a further atom, which is none of these
pub distinct_more : (atoms : List AtomOf) (b : AtomOf) → AreDistinct atoms → (Contains (map code_of atoms) (code_of b) → ⊥) → AreDistinct (atoms ++ b ∷ [])
distinct_more atoms b h never i j a ei ej =
    elim (got_push_cases atoms b i a ei) [
      | inl oi ↦ elim (got_push_cases atoms b j a ej) [
        | inl oj ↦ h i j a oi oj
        | inr nj ↦ absurd (other i oi nj.1)
      ]
      | inr ni ↦ elim (got_push_cases atoms b j a ej) [
        | inl oj ↦ absurd (other j oj ni.1)
        | inr nj ↦ ni.0 ∙ sym nj.0
      ]
    ]
  where
    other : (k : ℕ) → slice_get atoms k ≡ Some a → b ≡ a → ⊥
    other k at same =
        never (got_in (map code_of atoms) k (code_of b) (slice_get-map code_of atoms k ∙ ap (option_map code_of) at ∙ ap (λ (c : AtomOf). Some (code_of c)) (sym same)))

-- the atom at a number whose code is this
pub atom_at : (atoms : List AtomOf) (n : ℕ) (a : AtomOf) → slice_get (map code_of atoms) n ≡ Some (code_of a) → slice_get atoms n ≡ Some a
atom_at atoms n a e = by (slice_get atoms n) refl (sym (slice_get-map code_of atoms n) ∙ e)
  where
    by : (o : Option AtomOf) → slice_get atoms n ≡ o → option_map code_of (slice_get atoms n) ≡ Some (code_of a) → slice_get atoms n ≡ Some a
    by None at same = absurd (let never : None ≡ Some (code_of a) = ap (option_map code_of) (sym at) ∙ same in cc)
    by (Some b) at same =
        let two : Some (code_of b) ≡ Some (code_of a) = ap (option_map code_of) (sym at) ∙ same in
        let codes : code_of b ≡ code_of a = cc in
        at ∙ ap (λ (c : AtomOf). Some c) (atom_same b a codes)

-- ---- lists with more behind them

pub prefix_same : (atoms : List AtomOf) → IsPrefix atoms atoms
prefix_same atoms = ([], sym (append-nil atoms))

pub prefix_then : (a b c : List AtomOf) → IsPrefix a b → IsPrefix b c → IsPrefix a c
prefix_then a b c f g = (f.0 ++ g.0, g.1 ∙ ap (λ (xs : List AtomOf). xs ++ g.0) f.1 ∙ append_assoc a f.0 g.0)

read_on : (old new : List AtomOf) → IsPrefix old new → (x : Literal) (l : Lit) → IsRead old x l → IsRead new x l
read_on old new p x l h = record {
  sign = h.sign;
  atom = ap (λ (xs : List AtomOf). slice_get xs x.atom) p.1 ∙ got_left old p.0 x.atom l.atom h.atom;
}

pub read_all_on : (old new : List AtomOf) → IsPrefix old new → (xs : List Literal) (ls : List Lit) → IsReadClause old xs ls → IsReadClause new xs ls
read_all_on old new p [] [] h = h
read_all_on old new p [] (l ∷ ls) h = h
read_all_on old new p (x ∷ xs) [] h = h
read_all_on old new p (x ∷ xs) (l ∷ ls) h = (read_on old new p x l h.0, read_all_on old new p xs ls h.1)

-- ---- a table

any_true : {K : Type 0} (p : K → Bool) (ks : List K) (k : K) → Contains ks k → p k ≡ true → list_any p ks ≡ true
any_true p [] k there h = absurd (nothing_in k there)
any_true p (x ∷ ks) k there h =
    elim (in_cons x ks k there) [
      | inl e ↦ or_left (p x) (list_any p ks) (ap p e ∙ h)
      | inr rest ↦ or_right (p x) (list_any p ks) (any_true p ks k rest h)
    ]

-- keys with these texts, where keys of one text are the same
module _ {K : Type 0} (text : K → List ℕ) (eq : K → K → Bool) (knows : (a b : K) → text a ≡ text b → eq a b ≡ true) where
  -- where a key is new, its text is
  text_new : (ks : List K) (k : K) → list_any (eq k) ks ≡ false → Contains (map text ks) (text k) → ⊥
  text_new ks k none there =
      let one = in_map text ks (text k) there in
      false≢true (sym none ∙ any_true (eq k) ks one.0 one.1 (knows k one.0 (sym one.2)))

  -- a key that was there
  pub kept_keys : (ks new : List K) (k : K) (is_new : Bool) (atoms : List AtomOf) → is_new ≡ not (list_any (eq k) ks) → is_new ≡ false → new ≡ (if list_any (eq k) ks then ks else ks ++ k ∷ []) → map text ks ≡ map code_of atoms
      → map text new ≡ map code_of atoms
  kept_keys ks new k is_new atoms added old is codes =
      let there : list_any (eq k) ks ≡ true = not-false (list_any (eq k) ks) (sym added ∙ old) in
      ap (map text) (is ∙ ap (λ (b : Bool). if b then ks else ks ++ k ∷ []) there) ∙ codes

  -- a new key, and its atom
  pub more_keys : (ks new : List K) (k : K) (is_new : Bool) (atoms : List AtomOf) (a : AtomOf) → is_new ≡ not (list_any (eq k) ks) → is_new ≡ true → new ≡ (if list_any (eq k) ks then ks else ks ++ k ∷ []) → map text ks ≡ map code_of atoms
      → text k ≡ code_of a → AreDistinct atoms → (map text new ≡ map code_of (atoms ++ a ∷ [])) × AreDistinct (atoms ++ a ∷ [])
  more_keys ks new k is_new atoms a added fresh is codes here apart =
      let none : list_any (eq k) ks ≡ false = not-true (list_any (eq k) ks) (sym added ∙ fresh) in (
        ap (map text) (is ∙ ap (λ (b : Bool). if b then ks else ks ++ k ∷ []) none) ∙ map-append text ks (k ∷ []) ∙ ap (λ (cs : List (List ℕ)). cs ++ text k ∷ []) codes ∙ ap (λ (c : List ℕ). map code_of atoms ++ c ∷ []) here
            ∙ sym (map-append code_of atoms (a ∷ [])),
        distinct_more atoms a apart (λ there. text_new ks k none (subst (λ (cs : List (List ℕ)). Contains cs (text k)) (sym codes) (subst (Contains (map code_of atoms)) (sym here) there))),
      )

  -- the atom at the number of its key
  pub found_at : (new : List K) (k : K) (n : ℕ) (atoms : List AtomOf) (a : AtomOf) → ((x y : K) → eq x y ≡ true → text x ≡ text y) → map text new ≡ map code_of atoms → text k ≡ code_of a
      → ((j : K) × (slice_get new n ≡ Some j) × (eq k j ≡ true)) → slice_get atoms n ≡ Some a
  found_at new k n atoms a tells codes here stored =
      let at : slice_get (map text new) n ≡ Some (text stored.0) = slice_get-map text new n ∙ ap (option_map text) stored.1 in
      atom_at atoms n a (ap (λ (cs : List (List ℕ)). slice_get cs n) (sym codes) ∙ at ∙ ap (λ (c : List ℕ). Some c) (sym (tells k stored.0 stored.2) ∙ here))

-- ---- clauses that are numbered

pub read_more : (old new : List AtomOf) (xs : List Literal) (ls : List Lit) (i : ℕ) (l : Lit) (x : Literal) → i < length ls → l ≡ get_or ls i l → IsPrefix old new → IsReadClause old xs (take i ls) → x.positive ≡ l.positive → slice_get new x.atom ≡ Some l.atom
    → IsReadClause new (xs ++ x ∷ []) (take (i + 1) ls)
read_more old new xs ls i l x within is prefix h sign at =
    let R : Literal → Lit → Type 0 = IsRead new in
    let one : IsRead new x l = record { sign = sign; atom = at } in
    let longer : take i ls ++ l ∷ [] ≡ take (i + 1) ls = ap (λ (d : Lit). take i ls ++ d ∷ []) is ∙ sym (take_more ls i l within) in
    subst (AllZip R (xs ++ x ∷ [])) longer (all_zipped_more R xs (take i ls) x l (read_all_on old new prefix xs (take i ls) h) one)

clauses_on : (old new : List AtomOf) → IsPrefix old new → (xss : List (List Literal)) (cs : List Clause) → AllZip (λ xs c. IsReadClause old xs c.lits) xss cs → AllZip (λ xs c. IsReadClause new xs c.lits) xss cs
clauses_on old new p [] [] h = h
clauses_on old new p [] (c ∷ cs) h = h
clauses_on old new p (xs ∷ xss) [] h = h
clauses_on old new p (xs ∷ xss) (c ∷ cs) h = (read_all_on old new p xs c.lits h.0, clauses_on old new p xss cs h.1)

pub clauses_more : (old new : List AtomOf) (xss : List (List Literal)) (cs : List Clause) (i : ℕ) (c : Clause) (lent : List Lit) (xs : List Literal) → i < length cs → c ≡ get_or cs i c → lent ≡ c.lits → IsPrefix old new
    → AllZip (λ xs c. IsReadClause old xs c.lits) xss (take i cs) → IsReadClause new xs lent → AllZip (λ xs c. IsReadClause new xs c.lits) (xss ++ xs ∷ []) (take (i + 1) cs)
clauses_more old new xss cs i c lent xs within is same prefix h here =
    let R : List Literal → Clause → Type 0 = λ xs c. IsReadClause new xs c.lits in
    let longer : take i cs ++ c ∷ [] ≡ take (i + 1) cs = ap (λ (d : Clause). take i cs ++ d ∷ []) is ∙ sym (take_more cs i c within) in
    subst (AllZip R (xss ++ xs ∷ [])) longer (all_zipped_more R xss (take i cs) xs c (clauses_on old new prefix xss (take i cs) h) (subst (IsReadClause new xs) same here))
