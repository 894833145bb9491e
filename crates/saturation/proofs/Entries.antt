-- What waits in a queue, by its entries.
use Rattle.std.specs.Prelude.{ℕ, ◌+◌, ◌<◌, ◌≤◌, List, [], ◌∷◌, ◌≡◌, ◌⊎◌, map, refl}
use Rattle.std.specs.List.{Contains, All as Each, AllByRecursion}
use Rattle.std.specs.declared.cmp.Ordering.{Ordering}
use Rattle.std.specs.declared.cmp.Ordering.TheVariants.{Less, Equal, Greater}
use Rattle.std.specs.Ordering.{nat_cmp, ordering_then, match_ordering}
use Rattle.std.specs.BTreeMap.{insert_entry}
use Rattle.std.proofs.Common.{ap, sym, subst, ◌∙◌, arith, inl, inr, zero, suc}
use Rattle.std.proofs.lemmas.List.Elements.{All-contains, All-weaker, recursion_from_All}
use Rattle.saturation.specs.declared.member.Member.{Member}
use Rattle.clause_order.specs.Weights.{clause_weight}
use Rattle.saturation.specs.code.Search.{HasJoined, IsTaken}
use Rattle.saturation.specs.code.Waiting.{IsEntry, AreWaiting}
use Rattle.saturation.proofs.Lists.{no_member, each_of, from_mapped, to_mapped}

abbrev by_key : ℕ × ℕ → ℕ × ℕ → Ordering
by_key a b = ordering_then (nat_cmp a.0 b.0) (nat_cmp a.1 b.1)

-- members of a list with a head
here : {X : Type 0} (x : X) (xs : List X) → Contains (x ∷ xs) x
here x xs = (0, omega arith, refl)

there : {X : Type 0} (x : X) (xs : List X) (y : X) → Contains xs y → Contains (x ∷ xs) y
there x xs y h = (suc h.0, let a = h.1 in omega arith, h.2)

one_of : {X : Type 0} (x : X) (xs : List X) (y : X) → Contains (x ∷ xs) y → (y ≡ x) ⊎ Contains xs y
one_of x xs y (zero, h, is) = inl (sym is)
one_of x xs y (suc k, h, is) = inr (k, omega arith, is)

-- an entry came to others
record HasEntry (old new : List ((ℕ × ℕ) × Member)) (x : (ℕ × ℕ) × Member) : Type 0 where
  pub new_there : Contains new x
  pub kept : (e : (ℕ × ℕ) × Member) → Contains old e → Contains new e
  pub others : (e : (ℕ × ℕ) × Member) → Contains new e → Contains old e ⊎ (e ≡ x)

not_equal : (n m : ℕ) → n < m → nat_cmp m n ≡ Equal → ⊥
not_equal n m h e = grind (arith, e)

second : (o p : Ordering) → ordering_then o p ≡ Equal → (p ≡ Equal → ⊥) → ⊥
second Less p e h = cc
second Equal p e h = h e
second Greater p e h = cc

other_key : (a b : ℕ × ℕ) → b.1 < a.1 → by_key a b ≡ Equal → ⊥
other_key a b h e = second (nat_cmp a.0 b.0) (nat_cmp a.1 b.1) e (not_equal b.1 a.1 h)

inserted_at : (o : Ordering) (k : ℕ × ℕ) (x : Member) (e : (ℕ × ℕ) × Member) (es more : List ((ℕ × ℕ) × Member)) → (o ≡ Equal → ⊥) → HasEntry es more (k, x)
    → HasEntry (e ∷ es) (match_ordering o ((k, x) ∷ e ∷ es) ((e.0, x) ∷ es) (e ∷ more)) (k, x)
inserted_at Less k x e es more apart h = record {
  new_there = here (k, x) (e ∷ es);
  kept = λ d c. there (k, x) (e ∷ es) d c;
  others = λ d c. elim (one_of (k, x) (e ∷ es) d c) [ inl a ↦ inr a | inr a ↦ inl a ];
}
inserted_at Equal k x e es more apart h = absurd (apart refl)
inserted_at Greater k x e es more apart h = record {
  new_there = there e more (k, x) h.new_there;
  kept = λ d c. elim (one_of e es d c) [ inl a ↦ subst (Contains (e ∷ more)) (sym a) (here e more) | inr a ↦ there e more d (h.kept d a) ];
  others = λ d c. elim (one_of e more d c) [
    | inl a ↦ inl (subst (Contains (e ∷ es)) (sym a) (here e es))
    | inr a ↦ elim (h.others d a) [ inl b ↦ inl (there e es d b) | inr b ↦ inr b ]
  ];
}

inserted : (k : ℕ × ℕ) (x : Member) (es : List ((ℕ × ℕ) × Member)) → AllByRecursion (λ e. e.0.1 < k.1) es → HasEntry es (insert_entry by_key es k x) (k, x)
inserted k x [] below = record {
  new_there = here (k, x) [];
  kept = λ d c. absurd (no_member d c);
  others = λ d c. elim (one_of (k, x) [] d c) [ inl a ↦ inr a | inr a ↦ absurd (no_member d a) ];
}
inserted k x (e ∷ es) below = inserted_at (by_key k e.0) k x e es (insert_entry by_key es k x) (other_key k e.0 below.0) (inserted k x es below.1)

joined_from : (old new : List ((ℕ × ℕ) × Member)) (x : (ℕ × ℕ) × Member) → HasEntry old new x → HasJoined (map (λ e. e.1) old) (map (λ e. e.1) new) x.1
joined_from old new x h = record {
  there = to_mapped (λ (e : (ℕ × ℕ) × Member). e.1) new x h.new_there;
  kept = λ m c.
      let at = from_mapped (λ (e : (ℕ × ℕ) × Member). e.1) old m c in
      subst (Contains (map (λ e. e.1) new)) at.2 (to_mapped (λ (e : (ℕ × ℕ) × Member). e.1) new at.0 (h.kept at.0 at.1));
  others = λ m c.
      let at = from_mapped (λ (e : (ℕ × ℕ) × Member). e.1) new m c in
      elim (h.others at.0 at.1) [
        | inl a ↦ inl (subst (Contains (map (λ e. e.1) old)) at.2 (to_mapped (λ (e : (ℕ × ℕ) × Member). e.1) old at.0 a))
        | inr a ↦ inr (sym at.2 ∙ ap (λ (e : (ℕ × ℕ) × Member). e.1) a)
      ];
}

entries_below : (es : List ((ℕ × ℕ) × Member)) (next : ℕ) → AreWaiting es next → AllByRecursion (λ e. e.0.1 < next) es
entries_below es next h = recursion_from_All (λ (e : (ℕ × ℕ) × Member). e.0.1 < next) es (All-weaker (IsEntry next) (λ (e : (ℕ × ℕ) × Member). e.0.1 < next) (λ e i. i.number) es h)

-- one more waits
pub joined_by : (es new : List ((ℕ × ℕ) × Member)) (weight next : ℕ) (x : Member) → new ≡ insert_entry by_key es (weight, next) x → AreWaiting es next
    → HasJoined (map (λ e. e.1) es) (map (λ e. e.1) new) x
joined_by es new weight next x is h =
    subst (λ (ys : List ((ℕ × ℕ) × Member)). HasJoined (map (λ e. e.1) es) (map (λ e. e.1) ys) x) (sym is)
    (joined_from es (insert_entry by_key es (weight, next) x) ((weight, next), x) (inserted (weight, next) x es (entries_below es next h)))

pub waiting_with : (es new : List ((ℕ × ℕ) × Member)) (weight next : ℕ) (x : Member) → new ≡ insert_entry by_key es (weight, next) x → weight ≡ clause_weight x.clause → AreWaiting es next
    → AreWaiting new (next + 1)
waiting_with es new weight next x is weighs h =
    let all = inserted (weight, next) x es (entries_below es next h) in
    let later : (e : (ℕ × ℕ) × Member) → IsEntry next e → IsEntry (next + 1) e = λ e i. record { weight = i.weight; number = let a = i.number in omega arith } in
    subst (λ (ys : List ((ℕ × ℕ) × Member)). AreWaiting ys (next + 1)) (sym is)
    (each_of (IsEntry (next + 1)) (insert_entry by_key es (weight, next) x) (λ e c. elim (all.others e c) [
      | inl a ↦ later e (All-contains (IsEntry next) es e h a)
      | inr a ↦ subst (IsEntry (next + 1)) (sym a) (record { weight = weighs; number = omega arith })
    ]))

-- the first was taken
pub waiting_rest : (es rest : List ((ℕ × ℕ) × Member)) (x : (ℕ × ℕ) × Member) (next : ℕ) → es ≡ x ∷ rest → AreWaiting es next → AreWaiting rest next
waiting_rest es rest x next is h =
    each_of (IsEntry next) rest (λ e c. All-contains (IsEntry next) es e h (subst (λ (ys : List ((ℕ × ℕ) × Member)). Contains ys e) (sym is) (there x rest e c)))

less_or_same : (a b : ℕ) (o : Ordering) → ordering_then (nat_cmp a b) o ≡ Less → a ≤ b
less_or_same a b o e = grind (arith, e)

taken_head : (x : (ℕ × ℕ) × Member) (rest : List ((ℕ × ℕ) × Member)) (next : ℕ) → AreWaiting (x ∷ rest) next → ((e : (ℕ × ℕ) × Member) → Contains rest e → by_key x.0 e.0 ≡ Less)
    → IsTaken (map (λ e. e.1) (x ∷ rest)) (map (λ e. e.1) rest) x.1
taken_head x rest next h above = record {
  there = here x.1 (map (λ e. e.1) rest);
  others = λ m c. one_of x.1 (map (λ e. e.1) rest) m c;
  no_new = λ m c. there x.1 (map (λ e. e.1) rest) m c;
  least = λ m c.
      elim (one_of x.1 (map (λ e. e.1) rest) m c) [
        | inl a ↦ subst (λ (y : Member). clause_weight x.1.clause ≤ clause_weight y.clause) (sym a) (omega arith)
        | inr a ↦
            let at = from_mapped (λ (e : (ℕ × ℕ) × Member). e.1) rest m a in
            let mine = (All-contains (IsEntry next) (x ∷ rest) x h (here x rest)).weight in
            let its = (All-contains (IsEntry next) (x ∷ rest) at.0 h (there x rest at.0 at.1)).weight in
            let low = less_or_same x.0.0 at.0.0.0 (nat_cmp x.0.1 at.0.0.1) (above at.0 at.1) in
            subst (λ (y : Member). clause_weight x.1.clause ≤ clause_weight y.clause) at.2 (omega arith)
      ];
  fewer = omega arith;
}

pub taken_by : (es rest : List ((ℕ × ℕ) × Member)) (x : (ℕ × ℕ) × Member) (next : ℕ) → es ≡ x ∷ rest → AreWaiting es next → Each (λ k. by_key x.0 k ≡ Less) (map (λ e. e.0) rest)
    → IsTaken (map (λ e. e.1) es) (map (λ e. e.1) rest) x.1
taken_by es rest x next is h above =
    subst (λ (ys : List ((ℕ × ℕ) × Member)). IsTaken (map (λ e. e.1) ys) (map (λ e. e.1) rest) x.1) (sym is)
    (taken_head x rest next (subst (λ (ys : List ((ℕ × ℕ) × Member)). AreWaiting ys next) is h)
    (λ e c. All-contains (λ k. by_key x.0 k ≡ Less) (map (λ e. e.0) rest) e.0 above (to_mapped (λ (e : (ℕ × ℕ) × Member). e.0) rest e c)))
