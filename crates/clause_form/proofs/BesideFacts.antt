-- Lemmas on what specs/Beside defines.
use Rattle.std.specs.Prelude.{ℕ, ◌+◌, ◌≡◌, List, [], ◌∷◌, ◌++◌, length, map, slice_get, Some, refl}
use Rattle.std.specs.Option.{option_map}
use Rattle.std.proofs.Common.{ap, sym, subst, ◌∙◌, arith, inl, inr, zero, suc, append_assoc}
use Rattle.std.proofs.lemmas.Simd.{map-map}
use Rattle.std.proofs.lemmas.List.{map-append, length-append, length-map}
use Rattle.std.proofs.lemmas.Option.{slice_get-map}
use Rattle.fof_terms.specs.declared.term.Term.{Term, Var}
use Rattle.fof_terms.specs.Lift.{lifted_term}
use Rattle.fof_terms.proofs.LiftingLaws.{below_or_above, stays, moves, lift_lift}
use Rattle.fof_terms.proofs.Walks.{same_terms, both_terms, lifting_term, staying_term}
use Rattle.clause_form.specs.declared.clause.AtomOf.{AtomOf}
use Rattle.clause_form.specs.declared.clause.AtomOf.TheVariants.{Pred, Eq, True, False}
use Rattle.clause_form.specs.declared.clause.Lit.{Lit}
use Rattle.clause_form.specs.declared.clause.Clause.{Clause}
use Rattle.clause_form.specs.Covers.{at_terms, in_lit}
use Rattle.clause_form.proofs.ClauseLaws.{lits_themselves}
use Rattle.clause_form.specs.Paths.{all_beside}
use Rattle.clause_form.specs.code.Beside.{moved, segments}
use Rattle.clause_form.specs.Beside.{all_sorts}

-- Terms that are lifted twice, or by nothing.
further_var : (f c r m total k : ℕ) → m ≡ r + c → total ≡ c + f → lifted_term f m (lifted_term c r (Var k)) ≡ lifted_term total r (Var k)
further_var f c r m total k em et =
    elim (below_or_above k r) [
      | inl h ↦ rw (stays c r k h, stays total r k h) (stays f m k (omega arith))
      | inr h ↦
          let same : k + c + f ≡ k + total = omega arith in
          rw (moves c r k h, moves total r k h) (moves f m (k + c) (omega arith) ∙ ap Var same)
    ]

pub lift_further : (f c r m total : ℕ) → m ≡ r + c → total ≡ c + f → (t : Term) → lifted_term f m (lifted_term c r t) ≡ lifted_term total r t
lift_further f c r m total em et = same_terms _ _ (both_terms _ _ (lifting_term f m) (lifting_term c r)) (lifting_term total r) (λ k. further_var f c r m total k em et)

nothing_var : (n k : ℕ) → lifted_term 0 n (Var k) ≡ Var k
nothing_var n k =
    elim (below_or_above k n) [
      | inl h ↦ stays 0 n k h
      | inr h ↦ let same : k + 0 ≡ k = omega arith in moves 0 n k h ∙ ap Var same
    ]

pub lift_nothing : (n : ℕ) (t : Term) → lifted_term 0 n t ≡ t
lift_nothing n = same_terms _ _ (lifting_term 0 n) staying_term (nothing_var n)

-- Literals under two changes of their terms, or equal ones.
atom_twice : (f g : Term → Term) (a : AtomOf) → at_terms f (at_terms g a) ≡ at_terms (λ t. f (g t)) a
atom_twice f g (Pred p ts) = ap (Pred p) (map-map f g ts)
atom_twice f g (Eq l r) = refl
atom_twice f g True = refl
atom_twice f g False = refl

pub lit_twice : (f g : Term → Term) (l : Lit) → in_lit f (in_lit g l) ≡ in_lit (λ t. f (g t)) l
lit_twice f g l = ap (λ (a : AtomOf). record { positive = l.positive; atom = a }) (atom_twice f g l.atom)

pub lits_twice : (f g : Term → Term) (lits : List Lit) → map (in_lit f) (map (in_lit g) lits) ≡ map (in_lit (λ t. f (g t))) lits
lits_twice f g [] = refl
lits_twice f g (l ∷ lits) = rw (atom_twice f g l.atom, lits_twice f g lits) refl

same_list : (f g : Term → Term) → ((t : Term) → f t ≡ g t) → (ts : List Term) → map f ts ≡ map g ts
same_list f g e [] = refl
same_list f g e (t ∷ ts) = rw (e t, same_list f g e ts) refl

same_atom : (f g : Term → Term) → ((t : Term) → f t ≡ g t) → (a : AtomOf) → at_terms f a ≡ at_terms g a
same_atom f g e (Pred p ts) = ap (Pred p) (same_list f g e ts)
same_atom f g e (Eq l r) = rw (e l, e r) refl
same_atom f g e True = refl
same_atom f g e False = refl

pub same_lits : (f g : Term → Term) → ((t : Term) → f t ≡ g t) → (lits : List Lit) → map (in_lit f) lits ≡ map (in_lit g) lits
same_lits f g e [] = refl
same_lits f g e (l ∷ lits) = rw (same_atom f g e l.atom, same_lits f g e lits) refl

abbrev pub clause_with : List ℕ → List Lit → Clause
clause_with sorts lits = record { sorts = sorts; lits = lits }

pub beside_sorts : (cs : List Clause) → (all_beside cs).sorts ≡ all_sorts cs
beside_sorts [] = refl
beside_sorts (c ∷ cs) = ap (λ (ss : List ℕ). c.sorts ++ ss) (beside_sorts cs)

behind_two : (f n r m : ℕ) → m ≡ r + n → (xs ys : List Lit)
    → map (in_lit (lifted_term f m)) (map (in_lit (lifted_term r 0)) xs ++ map (in_lit (lifted_term n r)) ys) ≡ map (in_lit (moved r f n)) xs ++ map (in_lit (lifted_term (f + n) r)) ys
behind_two f n r m e xs ys =
    let one : map (in_lit (lifted_term f m)) (map (in_lit (lifted_term r 0)) xs) ≡ map (in_lit (moved r f n)) xs =
    lits_twice (lifted_term f m) (lifted_term r 0) xs ∙ same_lits (λ t. lifted_term f m (lifted_term r 0 t)) (moved r f n) (lift_lift f r n m e) xs in
    let two : map (in_lit (lifted_term f m)) (map (in_lit (lifted_term n r)) ys) ≡ map (in_lit (lifted_term (f + n) r)) ys =
    lits_twice (lifted_term f m) (lifted_term n r) ys ∙ same_lits (λ t. lifted_term f m (lifted_term n r t)) (lifted_term (f + n) r) (lift_further f n r m (f + n) e (omega arith)) ys in
    map-append (in_lit (lifted_term f m)) (map (in_lit (lifted_term r 0)) xs) (map (in_lit (lifted_term n r)) ys) ∙ (rw (one, two) refl)

-- the literals of clauses beside each other, with f variables further out
pub behind : (f : ℕ) (cs : List Clause) → map (in_lit (lifted_term f (length (all_sorts cs)))) (all_beside cs).lits ≡ segments f cs
behind f [] = refl
behind f (c ∷ cs) =
    let m : length (c.sorts ++ all_sorts cs) ≡ length (all_sorts cs) + length c.sorts = length-append c.sorts (all_sorts cs) ∙ (omega arith) in
    subst
    (λ (ss : List ℕ). map (in_lit (lifted_term f (length (c.sorts ++ all_sorts cs)))) (map (in_lit (lifted_term (length ss) 0)) c.lits ++ map (in_lit (lifted_term (length c.sorts) (length ss))) (all_beside cs).lits) ≡ segments f (c ∷ cs))
    (sym (beside_sorts cs))
    (behind_two f (length c.sorts) (length (all_sorts cs)) (length (c.sorts ++ all_sorts cs)) m c.lits (all_beside cs).lits
    ∙ ap (λ (ls : List Lit). map (in_lit (moved (length (all_sorts cs)) f (length c.sorts))) c.lits ++ ls) (behind (f + length c.sorts) cs))

pub beside_lits : (cs : List Clause) → (all_beside cs).lits ≡ segments 0 cs
beside_lits cs = sym (lits_themselves (lifted_term 0 (length (all_sorts cs))) (lift_nothing (length (all_sorts cs))) (all_beside cs).lits) ∙ behind 0 cs

with_parts : (c : Clause) (ss : List ℕ) (ls : List Lit) → c.sorts ≡ ss → c.lits ≡ ls → c ≡ clause_with ss ls
with_parts c ss ls e f = rw (sym e, sym f) refl

-- the clauses beside each other, all at once
pub beside_is : (cs : List Clause) → all_beside cs ≡ clause_with (all_sorts cs) (segments 0 cs)
beside_is cs = with_parts (all_beside cs) (all_sorts cs) (segments 0 cs) (beside_sorts cs) (beside_lits cs)

-- Places in two lists, one behind the other.
pub in_first : {X : Type 0} (xs ys : List X) (j : ℕ) (x : X) → slice_get xs j ≡ Some x → slice_get (xs ++ ys) j ≡ Some x
in_first [] ys j x e = cc
in_first (y ∷ xs) ys zero x e = e
in_first (y ∷ xs) ys (suc j) x e = in_first xs ys j x e

pub in_second : {X : Type 0} (xs ys : List X) (j n : ℕ) (x : X) → n ≡ length xs + j → slice_get ys j ≡ Some x → slice_get (xs ++ ys) n ≡ Some x
in_second [] ys j n x at e = let same : n ≡ j = omega arith in rw same e
in_second (y ∷ xs) ys j zero x at e = absurd (omega arith)
in_second (y ∷ xs) ys j (suc n) x at e = in_second xs ys j n x (omega arith) e

-- of the whole clause the last of the clauses beside each other: f variables stand further out, k literals before
pub record Rest (whole : Clause) (f k : ℕ) (cs : List Clause) : Type 0 where
  pub earlier : List ℕ
  pub count : length earlier ≡ f
  pub sorts : whole.sorts ≡ earlier ++ all_sorts cs
  pub lits : (j : ℕ) (l : Lit) → slice_get (segments f cs) j ≡ Some l → slice_get whole.lits (k + j) ≡ Some l
  pub size : k + length (segments f cs) ≡ length whole.lits

pub rest_start : (cs : List Clause) → Rest (all_beside cs) 0 0 cs
rest_start cs = record {
  earlier = [];
  count = refl;
  sorts = beside_sorts cs;
  lits = λ j l e. let same : 0 + j ≡ j = omega arith in rw same (subst (λ (ls : List Lit). slice_get ls j ≡ Some l) (sym (beside_lits cs)) e);
  size = let same = ap (λ (ls : List Lit). length ls) (beside_lits cs) in omega (arith, same);
}

module _ (whole : Clause) (f k : ℕ) (c : Clause) (cs : List Clause) (r : Rest whole f k (c ∷ cs)) where
  -- where the first of them stands
  pub part_lits : (j : ℕ) (l : Lit) → slice_get c.lits j ≡ Some l → slice_get whole.lits (k + j) ≡ Some (in_lit (moved (length (all_sorts cs)) f (length c.sorts)) l)
  part_lits j l e =
      let g = in_lit (moved (length (all_sorts cs)) f (length c.sorts)) in
      r.lits j (g l) (in_first (map g c.lits) (segments (f + length c.sorts) cs) j (g l) (slice_get-map g c.lits j ∙ ap (option_map g) e))

  pub rest_next : Rest whole (f + length c.sorts) (k + length c.lits) cs
  rest_next = record {
    earlier = r.earlier ++ c.sorts;
    count = length-append r.earlier c.sorts ∙ ap (λ n. n + length c.sorts) r.count;
    sorts = r.sorts ∙ sym (append_assoc r.earlier c.sorts (all_sorts cs));
    lits = λ j l e.
        let g = in_lit (moved (length (all_sorts cs)) f (length c.sorts)) in
        let many : length (map g c.lits) ≡ length c.lits = length-map c.lits g in
        let same : k + (length c.lits + j) ≡ k + length c.lits + j = omega arith in
        subst (λ n. slice_get whole.lits n ≡ Some l) same (r.lits (length c.lits + j) l (in_second (map g c.lits) (segments (f + length c.sorts) cs) j (length c.lits + j) l (omega (arith, many)) e));
    size =
        let g = in_lit (moved (length (all_sorts cs)) f (length c.sorts)) in
        let many : length (map g c.lits) ≡ length c.lits = length-map c.lits g in
        let both : length (map g c.lits ++ segments (f + length c.sorts) cs) ≡ length (map g c.lits) + length (segments (f + length c.sorts) cs) = length-append (map g c.lits) (segments (f + length c.sorts) cs) in
        omega (arith, r.size, many, both);
  }
