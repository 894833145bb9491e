-- Lemmas on what specs/code/Links defines.
use Rattle.std.specs.Prelude.{ℕ, Bool, true, false, ◌+◌, ◌<◌, ◌≡◌, length, map, take, get_or, List, [], ◌∷◌, ◌++◌, Some, slice_get, refl}
use Rattle.std.specs.Option.{option_map}
use Rattle.std.specs.List.{AllByRecursion}
use Rattle.std.proofs.Common.{arith, ap, ◌∙◌, zero, suc}
use Rattle.std.proofs.lemmas.Option.{slice_get-map}
use Rattle.fof_terms.specs.declared.form.Form.{Form, Not, And, Or}
use Rattle.fof_terms.specs.Sorts.{Sorted, IsScope}
use Rattle.fof_terms.proofs.Scoped.{member_of, not_sorted, sorted_of_not, and_sorted, or_sorted, sorted_of_and, sorted_of_or}
use Rattle.clause_form.specs.Norm.{signed, node, norm_of}
use Rattle.kernel.specs.Statements.{Statements}
use Rattle.kernel.specs.Proves.{Proves}
use Rattle.kernel.specs.code.Rules.{ProveAll}
use Rattle.kernel.specs.Rules.{ProveEach}
use Rattle.kernel.proofs.Building.{by_imp_i, by_not_i, by_not_e, by_raa, by_or_i, by_or_e, by_and_i, by_and_e}
use Rattle.kernel.specs.declared.proof.Proof.{Proof, Hyp}
use Rattle.norm_proofs.specs.code.Steps.{Between}
use Rattle.derive_kit.proofs.Members.{first, second, third}
use Rattle.norm_proofs.proofs.ApplyingFacts.{by_applied}
use Rattle.norm_proofs.proofs.StepsFacts.{other_sorted}
use Rattle.norm_proofs.specs.code.Links.{kind_of, link_tree, PartsFrom, Arm, Arms}

-- one more
more_from : (P : ℕ → Form → Proof → Type 0) (as_ : List Form) (ps : List Proof) (p : Proof) (k i : ℕ) (d : Form) → i < length as_ → PartsFrom P k (take i as_) ps → P (k + i) (get_or as_ i d) p
    → PartsFrom P k (take (i + 1) as_) (ps ++ p ∷ [])
more_from P [] ps p k i d lt all w = absurd (omega arith)
more_from P (a ∷ as_) [] p k zero d lt all w = let same : k + 0 ≡ k = omega arith in (rw same at w, tt)
more_from P (a ∷ as_) (q ∷ ps) p k zero d lt all w = absurd all
more_from P (a ∷ as_) [] p k (suc i) d lt all w = absurd all
more_from P (a ∷ as_) (q ∷ ps) p k (suc i) d lt all w =
    let same : suc i + 1 ≡ suc (i + 1) = omega arith in
    let at_k : k + suc i ≡ k + 1 + i = omega arith in
    rw same (all.0, more_from P as_ ps p (k + 1) i d (omega arith) all.1 (rw at_k at w))

pub parts_more : (P : ℕ → Form → Proof → Type 0) (as_ : List Form) (ps : List Proof) (p : Proof) (i : ℕ) (d : Form) → i < length as_ → PartsFrom P 0 (take i as_) ps → P i (get_or as_ i d) p
    → PartsFrom P 0 (take (i + 1) as_) (ps ++ p ∷ [])
parts_more P as_ ps p i d lt all w = more_from P as_ ps p 0 i d lt all (let same : 0 + i ≡ i = omega arith in rw same w)

-- what each part shows
module _ (P : ℕ → Form → Proof → Type 0) (f : Form → Form) (t : Statements) (v : List ℕ) (h : List Form) where
  pub all_parts : ((k : ℕ) (a : Form) (p : Proof) → P k a p → Proves t v h p (f a)) → (k : ℕ) (as_ : List Form) (ps : List Proof) → PartsFrom P k as_ ps → ProveAll t v h ps (map f as_)
  all_parts each k [] [] parts = tt
  all_parts each k [] (p ∷ ps) parts = absurd parts
  all_parts each k (a ∷ as_) [] parts = absurd parts
  all_parts each k (a ∷ as_) (p ∷ ps) parts = (each k a p parts.0, all_parts each (k + 1) as_ ps parts.1)

  pub each_part : (c : Form) → ((k : ℕ) (a : Form) (p : Proof) → P k a p → Proves t v (f a ∷ h) p c) → (k : ℕ) (as_ : List Form) (ps : List Proof) → PartsFrom P k as_ ps
      → ProveEach t v h ps (map f as_) c
  each_part c each k [] [] parts = tt
  each_part c each k [] (p ∷ ps) parts = absurd parts
  each_part c each k (a ∷ as_) [] parts = absurd parts
  each_part c each k (a ∷ as_) (p ∷ ps) parts = (each k a p parts.0, each_part c each (k + 1) as_ ps parts.1)

map_itself : {X : Type 0} (xs : List X) → map (λ x. x) xs ≡ xs
map_itself [] = refl
map_itself (x ∷ xs) = ap (λ ys. x ∷ ys) (map_itself xs)

all_own : (P : ℕ → Form → Proof → Type 0) (t : Statements) (v : List ℕ) (h : List Form) → ((k : ℕ) (a : Form) (p : Proof) → P k a p → Proves t v h p a) → (as_ : List Form) (ps : List Proof) → PartsFrom P 0 as_ ps
    → ProveAll t v h ps as_
all_own P t v h each as_ ps parts = rw (map_itself as_) at (all_parts P (λ a. a) t v h each 0 as_ ps parts)

pub each_own : (P : ℕ → Form → Proof → Type 0) (t : Statements) (v : List ℕ) (h : List Form) (c : Form) → ((k : ℕ) (a : Form) (p : Proof) → P k a p → Proves t v (a ∷ h) p c) → (as_ : List Form) (ps : List Proof) → PartsFrom P 0 as_ ps
    → ProveEach t v h ps as_ c
each_own P t v h c each as_ ps parts = rw (map_itself as_) at (each_part P (λ a. a) t v h c each 0 as_ ps parts)

pub signed_sorted : (t : Statements) (v : List ℕ) (g : Bool) (a : Form) → Sorted t.vocabulary v a → Sorted t.vocabulary v (signed g a)
signed_sorted t v true a s = s
signed_sorted t v false a s = not_sorted t.vocabulary v 2147483647 a s

-- the normal forms are well-sorted where the formulas are
norms_sorted : (conj g forth : Bool) (n : ℕ) (xs : List Form) (t : Statements) (v : List ℕ) → n + length v < 2147483647 → (k : ℕ) (as_ : List Form) (ps : List Proof) → PartsFrom (Arm conj g forth n xs) k as_ ps
    → AllByRecursion (Sorted t.vocabulary v) as_ → AllByRecursion (Sorted t.vocabulary v) (map (norm_of g) as_)
norms_sorted conj g forth n xs t v room k [] [] parts all = tt
norms_sorted conj g forth n xs t v room k [] (p ∷ ps) parts all = absurd parts
norms_sorted conj g forth n xs t v room k (a ∷ as_) [] parts all = absurd parts
norms_sorted conj g forth n xs t v room k (a ∷ as_) (p ∷ ps) parts all =
    let arm = parts.0.1 in
    (other_sorted forth n arm.0 (signed g a) (norm_of g a) arm.2 t v room (signed_sorted t v g a all.0), norms_sorted conj g forth n xs t v room (k + 1) as_ ps parts.1 all.1)

norm_at : (g : Bool) (xs : List Form) (k : ℕ) (a : Form) → slice_get xs k ≡ Some a → slice_get (map (norm_of g) xs) k ≡ Some (norm_of g a)
norm_at g xs k a e = slice_get-map (norm_of g) xs k ∙ ap (option_map (norm_of g)) e

-- the arms
module _ (n : ℕ) (xs : List Form) (t : Statements) (v : List ℕ) (room : n + length v < 2147483647) (sx : AllByRecursion (Sorted t.vocabulary v) xs) (sc : IsScope t.vocabulary v) where
  at_place : (k : ℕ) (a : Form) → slice_get xs k ≡ Some a → Sorted t.vocabulary v a
  at_place k a e = member_of (Sorted t.vocabulary v) xs k a sx e

  and_x : Sorted t.vocabulary v (And xs)
  and_x = and_sorted t.vocabulary v 2147483647 sc xs sx

  or_x : Sorted t.vocabulary v (Or xs)
  or_x = or_sorted t.vocabulary v 2147483647 sc xs sx

  module _ (g : Bool) (sy : AllByRecursion (Sorted t.vocabulary v) (map (norm_of g) xs)) where
    and_y : Sorted t.vocabulary v (And (map (norm_of g) xs))
    and_y = and_sorted t.vocabulary v 2147483647 sc (map (norm_of g) xs) sy

    or_y : Sorted t.vocabulary v (Or (map (norm_of g) xs))
    or_y = or_sorted t.vocabulary v 2147483647 sc (map (norm_of g) xs) sy

    norm_place : (k : ℕ) (a : Form) → slice_get xs k ≡ Some a → Sorted t.vocabulary v (norm_of g a)
    norm_place k a e = member_of (Sorted t.vocabulary v) (map (norm_of g) xs) k (norm_of g a) sy (norm_at g xs k a e)

  module _ (h : List Form) (sy : AllByRecursion (Sorted t.vocabulary v) (map (norm_of true) xs)) where
    and_forth : (k : ℕ) (a : Form) (p : Proof) → Arm true true true n xs k a p → Proves t v (And xs ∷ h) p (norm_of true a)
    and_forth k a p arm =
        let q = arm.1.0 in
        let h1 = And xs ∷ h in
        rw arm.1.1 (by_applied t v h1 q _ a (norm_of true a) (arm.1.2 t v h1 room (at_place k a arm.0)) (by_and_e t v h1 k (Hyp 0) xs a arm.0 (first t v h (And xs) and_x)))

    and_back : (k : ℕ) (a : Form) (p : Proof) → Arm true true false n xs k a p → Proves t v (And (map (norm_of true) xs) ∷ h) p a
    and_back k a p arm =
        let q = arm.1.0 in
        let ys = map (norm_of true) xs in
        let h1 = And ys ∷ h in
        rw arm.1.1
        (by_applied t v h1 q _ (norm_of true a) a (arm.1.2 t v h1 room (at_place k a arm.0)) (by_and_e t v h1 k (Hyp 0) ys (norm_of true a) (norm_at true xs k a arm.0) (first t v h (And ys) (and_y true sy))))

    or_forth : (k : ℕ) (a : Form) (p : Proof) → Arm false true true n xs k a p → Proves t v (a ∷ h) p (Or (map (norm_of true) xs))
    or_forth k a p arm =
        let q = arm.1.0 in
        let h1 = a ∷ h in
        let sa = at_place k a arm.0 in
        rw arm.1.1 (by_or_i t v h1 (map (norm_of true) xs) k _ (norm_of true a) (or_y true sy) (norm_at true xs k a arm.0) (by_applied t v h1 q (Hyp 0) a (norm_of true a) (arm.1.2 t v h1 room sa) (first t v h a sa)))

    or_back : (k : ℕ) (a : Form) (p : Proof) → Arm false true false n xs k a p → Proves t v (norm_of true a ∷ h) p (Or xs)
    or_back k a p arm =
        let q = arm.1.0 in
        let h1 = norm_of true a ∷ h in
        rw arm.1.1 (by_or_i t v h1 xs k _ a or_x arm.0 (by_applied t v h1 q (Hyp 0) (norm_of true a) a (arm.1.2 t v h1 room (at_place k a arm.0)) (first t v h (norm_of true a) (norm_place true sy k a arm.0))))

  module _ (h : List Form) (sy : AllByRecursion (Sorted t.vocabulary v) (map (norm_of false) xs)) where
    not_and_forth : (k : ℕ) (a : Form) (p : Proof) → Arm true false true n xs k a p → Proves t v (Not (Or (map (norm_of false) xs)) ∷ h) p a
    not_and_forth k a p arm =
        let q = arm.1.0 in
        let ys = map (norm_of false) xs in
        let sa = at_place k a arm.0 in
        let sna = not_sorted t.vocabulary v 2147483647 a sa in
        let sn = not_sorted t.vocabulary v 2147483647 (Or ys) (or_y false sy) in
        let h1 = Not (Or ys) ∷ h in
        let h2 = Not a ∷ h1 in
        rw arm.1.1
        (by_raa t v h1 a _ sa
        (by_not_e t v h2 (Hyp 1) _ (Or ys) (second t v h (Not a) (Not (Or ys)) sn)
        (by_or_i t v h2 ys k _ (norm_of false a) (or_y false sy) (norm_at false xs k a arm.0) (by_applied t v h2 q (Hyp 0) (Not a) (norm_of false a) (arm.1.2 t v h2 room sna) (first t v h1 (Not a) sna)))))

    not_and_back : (k : ℕ) (a : Form) (p : Proof) → Arm true false false n xs k a p → Proves t v (norm_of false a ∷ And xs ∷ h) p (Or [])
    not_and_back k a p arm =
        let q = arm.1.0 in
        let sna = not_sorted t.vocabulary v 2147483647 a (at_place k a arm.0) in
        let h1 = norm_of false a ∷ And xs ∷ h in
        rw arm.1.1
        (by_not_e t v h1 _ _ a (by_applied t v h1 q (Hyp 0) (norm_of false a) (Not a) (arm.1.2 t v h1 room sna) (first t v (And xs ∷ h) (norm_of false a) (norm_place false sy k a arm.0)))
        (by_and_e t v h1 k (Hyp 1) xs a arm.0 (second t v h (norm_of false a) (And xs) and_x)))

    not_or_forth : (k : ℕ) (a : Form) (p : Proof) → Arm false false true n xs k a p → Proves t v (Not (Or xs) ∷ h) p (norm_of false a)
    not_or_forth k a p arm =
        let q = arm.1.0 in
        let sa = at_place k a arm.0 in
        let sn = not_sorted t.vocabulary v 2147483647 (Or xs) or_x in
        let h1 = Not (Or xs) ∷ h in
        rw arm.1.1
        (by_applied t v h1 q _ (Not a) (norm_of false a) (arm.1.2 t v h1 room (not_sorted t.vocabulary v 2147483647 a sa))
        (by_not_i t v h1 a _ sa (by_not_e t v (a ∷ h1) (Hyp 1) _ (Or xs) (second t v h a (Not (Or xs)) sn) (by_or_i t v (a ∷ h1) xs k (Hyp 0) a or_x arm.0 (first t v h1 a sa)))))

    not_or_back : (k : ℕ) (a : Form) (p : Proof) → Arm false false false n xs k a p → Proves t v (a ∷ Or xs ∷ And (map (norm_of false) xs) ∷ h) p (Or [])
    not_or_back k a p arm =
        let q = arm.1.0 in
        let ys = map (norm_of false) xs in
        let sa = at_place k a arm.0 in
        let h1 = a ∷ Or xs ∷ And ys ∷ h in
        rw arm.1.1
        (by_not_e t v h1 _ (Hyp 0) a
        (by_applied t v h1 q _ (norm_of false a) (Not a) (arm.1.2 t v h1 room (not_sorted t.vocabulary v 2147483647 a sa)) (by_and_e t v h1 k (Hyp 2) ys (norm_of false a) (norm_at false xs k a arm.0) (third t v h a (Or xs) (And ys) (and_y false sy))))
        (first t v (Or xs ∷ And ys ∷ h) a sa))

-- the whole
module _ (n : ℕ) (xs : List Form) (ps : List Proof) where
  pub link_shows : (conj g forth : Bool) → Arms conj g forth n xs xs ps → Between forth n (link_tree conj g forth xs (map (norm_of g) xs) ps) (signed g (node conj xs)) (node (kind_of conj g) (map (norm_of g) xs))
  link_shows true true true arms t v h room s =
      let ys = map (norm_of true) xs in
      let sx = sorted_of_and t.vocabulary v 2147483647 xs s in
      let sy = norms_sorted true true true n xs t v room 0 xs ps arms sx in
      by_imp_i t v h (And xs) (And ys) _ s (by_and_i t v (And xs ∷ h) ps ys s.scope_fits (all_parts _ (norm_of true) t v (And xs ∷ h) (and_forth n xs t v room sx s.scope_fits h sy) 0 xs ps arms))
  link_shows true true false arms t v h room s =
      let ys = map (norm_of true) xs in
      let sx = sorted_of_and t.vocabulary v 2147483647 xs s in
      let sy = norms_sorted true true false n xs t v room 0 xs ps arms sx in
      by_imp_i t v h (And ys) (And xs) _ (and_sorted t.vocabulary v 2147483647 s.scope_fits ys sy)
      (by_and_i t v (And ys ∷ h) ps xs s.scope_fits (all_own _ t v (And ys ∷ h) (and_back n xs t v room sx s.scope_fits h sy) xs ps arms))
  link_shows false true true arms t v h room s =
      let ys = map (norm_of true) xs in
      let sx = sorted_of_or t.vocabulary v 2147483647 xs s in
      let sy = norms_sorted false true true n xs t v room 0 xs ps arms sx in
      let so = or_sorted t.vocabulary v 2147483647 s.scope_fits ys sy in
      let h1 = Or xs ∷ h in
      by_imp_i t v h (Or xs) (Or ys) _ s (by_or_e t v h1 (Or ys) (Hyp 0) ps xs so (first t v h (Or xs) s) (each_own _ t v h1 (Or ys) (or_forth n xs t v room sx s.scope_fits h1 sy) xs ps arms))
  link_shows false true false arms t v h room s =
      let ys = map (norm_of true) xs in
      let sx = sorted_of_or t.vocabulary v 2147483647 xs s in
      let sy = norms_sorted false true false n xs t v room 0 xs ps arms sx in
      let so = or_sorted t.vocabulary v 2147483647 s.scope_fits ys sy in
      let h1 = Or ys ∷ h in
      by_imp_i t v h (Or ys) (Or xs) _ so
      (by_or_e t v h1 (Or xs) (Hyp 0) ps ys s (first t v h (Or ys) so) (each_part _ (norm_of true) t v h1 (Or xs) (or_back n xs t v room sx s.scope_fits h1 sy) 0 xs ps arms))
  link_shows true false true arms t v h room s =
      let ys = map (norm_of false) xs in
      let sa = sorted_of_not t.vocabulary v 2147483647 (And xs) s in
      let sx = sorted_of_and t.vocabulary v 2147483647 xs sa in
      let sy = norms_sorted true false true n xs t v room 0 xs ps arms sx in
      let so = or_sorted t.vocabulary v 2147483647 s.scope_fits ys sy in
      let h1 = Not (And xs) ∷ h in
      let h2 = Not (Or ys) ∷ h1 in
      by_imp_i t v h (Not (And xs)) (Or ys) _ s
      (by_raa t v h1 (Or ys) _ so
      (by_not_e t v h2 (Hyp 1) _ (And xs) (second t v h (Not (Or ys)) (Not (And xs)) s) (by_and_i t v h2 ps xs s.scope_fits (all_own _ t v h2 (not_and_forth n xs t v room sx s.scope_fits h1 sy) xs ps arms))))
  link_shows true false false arms t v h room s =
      let ys = map (norm_of false) xs in
      let sa = sorted_of_not t.vocabulary v 2147483647 (And xs) s in
      let sx = sorted_of_and t.vocabulary v 2147483647 xs sa in
      let sy = norms_sorted true false false n xs t v room 0 xs ps arms sx in
      let so = or_sorted t.vocabulary v 2147483647 s.scope_fits ys sy in
      let none = or_sorted t.vocabulary v 2147483647 s.scope_fits [] tt in
      let h2 = And xs ∷ Or ys ∷ h in
      by_imp_i t v h (Or ys) (Not (And xs)) _ so
      (by_not_i t v (Or ys ∷ h) (And xs) _ sa
      (by_or_e t v h2 (Or []) (Hyp 1) ps ys none (second t v h (And xs) (Or ys) so) (each_part _ (norm_of false) t v h2 (Or []) (not_and_back n xs t v room sx s.scope_fits (Or ys ∷ h) sy) 0 xs ps arms)))
  link_shows false false true arms t v h room s =
      let ys = map (norm_of false) xs in
      let sa = sorted_of_not t.vocabulary v 2147483647 (Or xs) s in
      let sx = sorted_of_or t.vocabulary v 2147483647 xs sa in
      let sy = norms_sorted false false true n xs t v room 0 xs ps arms sx in
      let h1 = Not (Or xs) ∷ h in
      by_imp_i t v h (Not (Or xs)) (And ys) _ s (by_and_i t v h1 ps ys s.scope_fits (all_parts _ (norm_of false) t v h1 (not_or_forth n xs t v room sx s.scope_fits h sy) 0 xs ps arms))
  link_shows false false false arms t v h room s =
      let ys = map (norm_of false) xs in
      let sa = sorted_of_not t.vocabulary v 2147483647 (Or xs) s in
      let sx = sorted_of_or t.vocabulary v 2147483647 xs sa in
      let sy = norms_sorted false false false n xs t v room 0 xs ps arms sx in
      let sc = and_sorted t.vocabulary v 2147483647 s.scope_fits ys sy in
      let none = or_sorted t.vocabulary v 2147483647 s.scope_fits [] tt in
      let h2 = Or xs ∷ And ys ∷ h in
      by_imp_i t v h (And ys) (Not (Or xs)) _ sc
      (by_not_i t v (And ys ∷ h) (Or xs) _ sa
      (by_or_e t v h2 (Or []) (Hyp 0) ps xs none (first t v (And ys ∷ h) (Or xs) sa) (each_own _ t v h2 (Or []) (not_or_back n xs t v room sx s.scope_fits h sy) xs ps arms)))
