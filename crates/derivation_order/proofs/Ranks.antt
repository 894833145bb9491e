-- Ranks and places rise.
use Rattle.std.specs.Prelude.{ℕ, zero, suc, ◌≡◌, ◌<◌, ◌≤◌, ◌+◌, ◌&&◌, Bool, true, false, List, [], ◌∷◌, length, get_or, Some, slice_get, refl}
use Rattle.std.proofs.Common.{ap, ◌∙◌, arith}
use Rattle.saturation.specs.declared.member.Member.{Member}
use Rattle.saturation.specs.declared.member.Origin.{Origin}
use Rattle.saturation.specs.declared.member.Origin.TheVariants.{Input, Inferred}
use Rattle.refutation_lines.specs.Places.{behind, ranks_from, is_inferred, place_of, places_from}

-- at least so much, and at most so much
abbrev pub IsBetween : ℕ → ℕ → ℕ → Type 0
IsBetween least most n = (least ≤ n) × (n ≤ most)

behind_within : (k : ℕ) (b : Bool) → IsBetween k (k + 1) (behind k b)
behind_within k true = (omega arith, omega arith)
behind_within k false = (omega arith, omega arith)

behind_true : (k : ℕ) (b : Bool) → b ≡ true → k < behind k b
behind_true k true e = omega arith
behind_true k false e = absurd (cc)

-- what lies one place further behind
further : (k i n : ℕ) (b : Bool) → IsBetween (behind k b) (behind k b + i) n → IsBetween k (k + suc i) n
further k i n b h = let one = behind_within k b in (omega (arith, one.0, h.0), omega (arith, one.1, h.1))

pub rank_within : (k : ℕ) (marks : List Bool) (i : ℕ) → i ≤ length marks → IsBetween k (k + i) (get_or (ranks_from k marks) i 0)
rank_within k [] zero le = (omega arith, omega arith)
rank_within k [] (suc i) le = absurd (omega arith)
rank_within k (b ∷ marks) zero le = (omega arith, omega arith)
rank_within k (b ∷ marks) (suc i) le = further k i (get_or (ranks_from (behind k b) marks) i 0) b (rank_within (behind k b) marks i (omega arith))

pub rank_less : (k : ℕ) (marks : List Bool) (j i : ℕ) → slice_get marks j ≡ Some true → j < i → i ≤ length marks → get_or (ranks_from k marks) j 0 < get_or (ranks_from k marks) i 0
rank_less k [] j i marked lt le = cc
rank_less k (b ∷ marks) j zero marked lt le = absurd (omega arith)
rank_less k (b ∷ marks) zero (suc i) marked lt le =
    let on : b ≡ true = cc in
    let one = behind_true k b on in
    let rest = (rank_within (behind k b) marks i (omega arith)).0 in
    omega arith
rank_less k (b ∷ marks) (suc j) (suc i) marked lt le = rank_less (behind k b) marks j i marked (omega arith) (omega arith)

-- Of members, there is a mark for each of which.
module _ (ranks : List ℕ) where
  place_here : (k : ℕ) (o : Origin) → is_inferred o ≡ true → place_of ranks k o ≡ k
  place_here k (Input i) e = absurd (cc)
  place_here k (Inferred a b images) e = refl

  more_marked : (k : ℕ) (o : Origin) (b : Bool) → is_inferred o ≡ true → b ≡ true → k < behind k (is_inferred o && b)
  more_marked k o b e f = behind_true k (is_inferred o && b) (ap (λ (x : Bool). x && b) e ∙ f)

  pub place_within : (k : ℕ) (needed : List Bool) (members : List Member) (j : ℕ) (m : Member) → j < length needed → slice_get members j ≡ Some m → is_inferred m.origin ≡ true → IsBetween k (k + j) (get_or (places_from ranks k needed members) j 0)
  place_within k [] members j m lt there e = absurd (omega arith)
  place_within k (b ∷ needed) [] j m lt there e = cc
  place_within k (b ∷ needed) (n ∷ members) zero m lt there e =
      let same : n ≡ m = cc in
      let here : place_of ranks k n.origin ≡ k = ap (λ (x : Member). place_of ranks k x.origin) same ∙ place_here k m.origin e in
      (omega arith, omega arith)
  place_within k (b ∷ needed) (n ∷ members) (suc j) m lt there e =
      let later = behind k (is_inferred n.origin && b) in
      further k j (get_or (places_from ranks later needed members) j 0) (is_inferred n.origin && b) (place_within later needed members j m (omega arith) there e)

  pub place_less : (k : ℕ) (needed : List Bool) (members : List Member) (i j : ℕ) (x m : Member) → slice_get needed i ≡ Some true → slice_get members i ≡ Some x → is_inferred x.origin ≡ true → i < j → j < length needed
      → slice_get members j ≡ Some m → is_inferred m.origin ≡ true → get_or (places_from ranks k needed members) i 0 < get_or (places_from ranks k needed members) j 0
  place_less k [] members i j x m marked at_x own lt fits at_m e = cc
  place_less k (b ∷ needed) [] i j x m marked at_x own lt fits at_m e = cc
  place_less k (b ∷ needed) (n ∷ members) i zero x m marked at_x own lt fits at_m e = absurd (omega arith)
  place_less k (b ∷ needed) (n ∷ members) zero (suc j) x m marked at_x own lt fits at_m e =
      let same : n ≡ x = cc in
      let on : b ≡ true = cc in
      let inferred : is_inferred n.origin ≡ true = ap (λ (y : Member). is_inferred y.origin) same ∙ own in
      let here : place_of ranks k n.origin ≡ k = place_here k n.origin inferred in
      let one = more_marked k n.origin b inferred on in
      let rest = (place_within (behind k (is_inferred n.origin && b)) needed members j m (omega arith) at_m e).0 in
      omega arith
  place_less k (b ∷ needed) (n ∷ members) (suc i) (suc j) x m marked at_x own lt fits at_m e =
      place_less (behind k (is_inferred n.origin && b)) needed members i j x m marked at_x own (omega arith) (omega arith) at_m e

  pub place_input : (k : ℕ) (needed : List Bool) (members : List Member) (j n : ℕ) (m : Member) → j < length needed → slice_get members j ≡ Some m → m.origin ≡ Input n → get_or (places_from ranks k needed members) j 0 ≡ get_or ranks n 0
  place_input k [] members j n m lt there e = absurd (omega arith)
  place_input k (b ∷ needed) [] j n m lt there e = cc
  place_input k (b ∷ needed) (x ∷ members) zero n m lt there e = let same : x ≡ m = cc in ap (λ (y : Member). place_of ranks k y.origin) same ∙ ap (place_of ranks k) e
  place_input k (b ∷ needed) (x ∷ members) (suc j) n m lt there e = place_input (behind k (is_inferred x.origin && b)) needed members j n m (omega arith) there e
