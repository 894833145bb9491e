-- What directories tell once a part of one was written.
use Rattle.std.proofs.Common.{◌≡◌, ℕ, Bool, true, false, cond, List, [], Option, Some, None, Result, Ok, Err, OnErr, nat_eq, refl, sym, ◌∙◌, ap, subst, ⊎_elim, arith}
use Rattle.std.specs.Option.{option_and_then}
use Rattle.std.specs.Cmp.Lexicographic.{pointwise, bytes_decides, nat_list_eq_equiv}
use Rattle.std.specs.Map.{lookup, IsKeyTest, AreApart, KeepsOthers}
use Rattle.std.proofs.lemmas.Bool.{cases_Bool, cond-true, cond-false}
use Rattle.std.proofs.lemmas.Bool.Decides.{nat_tests}
use Rattle.indexmap.specs.IndexMap.{IndexMap, get, get_by, UpdatesBy}

same_number : (a b : ℕ) → nat_eq a b ≡ true → b ≡ a
same_number a b e = grind (arith, nat_tests)

own_number : (a : ℕ) → nat_eq a a ≡ true
own_number a = grind (arith, nat_tests)

apart : (name other third : List ℕ) → pointwise nat_eq name other ≡ false → pointwise nat_eq name third ≡ true → pointwise nat_eq other third ≡ false
apart name other third n y = nat_list_eq_equiv.symm other third ∙ sym (nat_list_eq_equiv.congr name third other y) ∙ n

differ : (name other : List ℕ) → (other ≡ name → ⊥) → pointwise nat_eq name other ≡ false
differ name other ne = ⊎_elim (λ y. absurd (ne (sym ((bytes_decides name other).0 y)))) (λ n. n) (cases_Bool (pointwise nat_eq name other))

-- what holds after each answer holds after an error
pub on_err : {X E P : Type 0} (r : Result X E) → P → OnErr r P
on_err (Ok x) p = tt
on_err (Err e) p = p

module _ {K : Type 0} (text : K → List ℕ) where
  abbrev told : List ℕ → K → Bool
  told name k = pointwise nat_eq name (text k)

  abbrev same_key : K → K → Bool
  same_key a b = pointwise nat_eq (text a) (text b)

  others : (key : K) (old new : List (K × ℕ)) → KeepsOthers same_key (same_key key) old new → (name : List ℕ) → pointwise nat_eq (text key) name ≡ false → lookup (told name) new ≡ lookup (told name) old
  unfolding KeepsOthers
  others key old new keeps name e = keeps (told name) (λ x y. nat_list_eq_equiv.congr name (text x) (text y)) (λ k. apart (text key) name (text k) e)

  abbrev told_part : {S : Type 0} → List ℕ → Option (IndexMap K ℕ S) → Option ℕ
  told_part name = option_and_then (λ part. get_by (told name) part)

  part_told : {S : Type 0} (name : List ℕ) (q : IndexMap K ℕ S) (b : Bool) (r : Option (IndexMap K ℕ S)) → told_part name (cond b (Some q) r) ≡ cond b (get_by (told name) q) (told_part name r)
  part_told name q true r = refl
  part_told name q false r = refl

  module _ {S T : Type 0} where
    abbrev pub told_by : IndexMap ℕ (IndexMap K ℕ S) T → List ℕ → ℕ → Option ℕ
    told_by m name arity = told_part name (get nat_eq m arity)

    module _ (m n : IndexMap ℕ (IndexMap K ℕ S) T) (p q : IndexMap K ℕ S) (arity : ℕ) where
      -- where a part was written, the others tell what they told
      after_part : ((c : ℕ) → get nat_eq n c ≡ cond (nat_eq arity c) (Some q) (get nat_eq m c)) → (name : List ℕ) (c : ℕ) → told_by n name c ≡ cond (nat_eq arity c) (get_by (told name) q) (told_by m name c)
      after_part written name c = ap (told_part name) (written c) ∙ part_told name q (nat_eq arity c) (get nat_eq m c)

      pub part_same : ((name : List ℕ) → told_by m name arity ≡ get_by (told name) p) → ((c : ℕ) → get nat_eq n c ≡ cond (nat_eq arity c) (Some q) (get nat_eq m c)) → q.entries ≡ p.entries
          → (name : List ℕ) (c : ℕ) → told_by n name c ≡ told_by m name c
      part_same was written same name c =
          after_part written name c ∙
          ⊎_elim
          (λ y. cond-true (nat_eq arity c) _ _ y ∙ (ap (lookup (told name)) same ∙ (sym (was name) ∙ ap (told_by m name) (sym (same_number arity c y)))))
          (λ f. cond-false (nat_eq arity c) _ _ f)
          (cases_Bool (nat_eq arity c))

      module _ (key : K) (number : ℕ) where
        pub part_here : ((c : ℕ) → get nat_eq n c ≡ cond (nat_eq arity c) (Some q) (get nat_eq m c)) → UpdatesBy same_key (same_key key) p q (Some number) → told_by n (text key) arity ≡ Some number
        part_here written updates = after_part written (text key) arity ∙ (cond-true (nat_eq arity arity) _ _ (own_number arity) ∙ updates.1)

        pub part_elsewhere : ((name : List ℕ) → told_by m name arity ≡ get_by (told name) p) → ((c : ℕ) → get nat_eq n c ≡ cond (nat_eq arity c) (Some q) (get nat_eq m c)) → UpdatesBy same_key (same_key key) p q (Some number)
            → (other : List ℕ) (c : ℕ) → (other ≡ text key → c ≡ arity → ⊥) → told_by n other c ≡ told_by m other c
        part_elsewhere was written updates other c ne =
            after_part written other c ∙
            ⊎_elim
            (λ y.
            let at : c ≡ arity = same_number arity c y in
            let apart : pointwise nat_eq (text key) other ≡ false = differ (text key) other (λ e. ne e at) in
            cond-true (nat_eq arity c) _ _ y ∙ (others key p.entries q.entries updates.3 other apart ∙ (sym (was other) ∙ ap (told_by m other) (sym at))))
            (λ f. cond-false (nat_eq arity c) _ _ f)
            (cases_Bool (nat_eq arity c))

    -- a part that is there, and one that isn't
    pub part_there : (m : IndexMap ℕ (IndexMap K ℕ S) T) (p : IndexMap K ℕ S) (arity : ℕ) → Some p ≡ get nat_eq m arity → (name : List ℕ) → told_by m name arity ≡ get_by (told name) p
    part_there m p arity e name = ap (told_part name) (sym e)

    pub no_part : (m : IndexMap ℕ (IndexMap K ℕ S) T) (p : IndexMap K ℕ S) (arity : ℕ) → None ≡ get nat_eq m arity → p.entries ≡ [] → (name : List ℕ) → told_by m name arity ≡ get_by (told name) p
    no_part m p arity e empty name = ap (told_part name) (sym e) ∙ ap (lookup (told name)) (sym empty)

    pub told_same : (m n : IndexMap ℕ (IndexMap K ℕ S) T) → n.entries ≡ m.entries → (name : List ℕ) (c : ℕ) → told_by n name c ≡ told_by m name c
    told_same m n e name c = ap (λ es. told_part name (lookup (nat_eq c) es)) e

    pub told_none : (m : IndexMap ℕ (IndexMap K ℕ S) T) → m.entries ≡ [] → (name : List ℕ) (c : ℕ) → told_by m name c ≡ None
    told_none m e name c = ap (λ es. told_part name (lookup (nat_eq c) es)) e

    pub told_as : (m n : IndexMap ℕ (IndexMap K ℕ S) T) → m ≡ n → (name : List ℕ) (c : ℕ) → told_by m name c ≡ told_by n name c
    told_as m n e name c = ap (λ (o : IndexMap ℕ (IndexMap K ℕ S) T). told_by o name c) e
