-- How the order grows: a number is marked, and goes behind those that are taken.
use Rattle.std.proofs.Common.{◌≡◌, ℕ, zero, suc, ◌+◌, ◌<◌, ◌≤◌, ◌==◌, ◌||◌, Bool, true, false, not, cond, List, [], ◌∷◌, ◌++◌, length, drop, slice_get, drop-cons, add-one, Option, None, Some, refl, sym, ◌∙◌, ap, arith, append_assoc}
use Rattle.std.specs.List.{list_any}
use Rattle.std.proofs.Math.ListN.{set}
use Rattle.std.proofs.lemmas.List.{append-nil, drop_all}
use Rattle.std.proofs.lemmas.Bool.Decides.{nat_tests}
use Rattle.tstp_graph.specs.declared.shape.Node.{Node}
use Rattle.tstp_graph.specs.Order.{is_taken, is_ready, first_ready, TakesInTurn, IsOrder, first_left}
use Rattle.tstp_graph.specs.code.Flags.{flag_at}

pub any_last : {X : Type 0} (p : X → Bool) (xs : List X) (x : X) → list_any p (xs ++ x ∷ []) ≡ (list_any p xs || p x)
any_last p [] x = by (p x)
  where
    by : (b : Bool) → (b || false) ≡ (false || b)
    by true = refl
    by false = refl
any_last p (y ∷ xs) x = by (p y) (any_last p xs x)
  where
    by : (b : Bool) → list_any p (xs ++ x ∷ []) ≡ (list_any p xs || p x) → (b || list_any p (xs ++ x ∷ [])) ≡ ((b || list_any p xs) || p x)
    by true is = refl
    by false is = is

-- the order with one more
pub takes_last : (nodes : List Node) (taken order : List ℕ) (x : ℕ) → TakesInTurn nodes taken order → first_ready (is_taken (taken ++ order)) 0 nodes ≡ Some x → TakesInTurn nodes taken (order ++ x ∷ [])
takes_last nodes taken [] x turns is = (ap (λ (t : List ℕ). first_ready (is_taken t) 0 nodes) (sym (append-nil taken)) ∙ is, tt)
takes_last nodes taken (number ∷ order) x turns is =
    (turns.0, takes_last nodes (taken ++ number ∷ []) order x turns.1 (ap (λ (t : List ℕ). first_ready (is_taken t) 0 nodes) (append_assoc taken (number ∷ []) order) ∙ is))

skipped : (b : Bool) (n : ℕ) (o : Option ℕ) → b ≡ false → cond b (Some n) o ≡ o
skipped true n o e = absurd (cc)
skipped false n o e = refl

-- the first that is ready
pub first_is : (taken : ℕ → Bool) (nodes : List Node) (number place : ℕ) (node : Node) → slice_get nodes place ≡ Some node → is_ready taken (number + place) node ≡ true
    → ((k : ℕ) (other : Node) → k < place → slice_get nodes k ≡ Some other → is_ready taken (number + k) other ≡ false) → first_ready taken number nodes ≡ Some (number + place)
first_is taken [] number place node at ready before = absurd (cc)
first_is taken (first ∷ nodes) number zero node at ready before =
    let same : number + 0 ≡ number = omega arith in
    let one : node ≡ first = cc in
    chosen (is_ready taken number first) number (number + 0) (first_ready taken (number + 1) nodes) (sym (ap (is_ready taken number) one) ∙ ap (λ n. is_ready taken n node) (sym same) ∙ ready) (sym same)
  where
    chosen : (b : Bool) (n m : ℕ) (o : Option ℕ) → b ≡ true → n ≡ m → cond b (Some n) o ≡ Some m
    chosen true n m o e same = ap Some same
    chosen false n m o e same = absurd (cc)
first_is taken (first ∷ nodes) number (suc place) node at ready before =
    let same : number + 0 ≡ number = omega arith in
    let on : number + suc place ≡ number + 1 + place = omega arith in
    let here : is_ready taken number first ≡ false = ap (λ n. is_ready taken n first) (sym same) ∙ before 0 first (omega arith) refl in
    skipped (is_ready taken number first) number (first_ready taken (number + 1) nodes) here
    ∙ first_is taken nodes (number + 1) place node at (ap (λ n. is_ready taken n node) (sym on) ∙ ready) (λ k other lt is. (let next : number + 1 + k ≡ number + suc k = omega arith in ap (λ n. is_ready taken n other) next) ∙ before (suc k) other (omega (arith, lt)) is)
    ∙ ap Some (sym on)

-- or none
pub first_none : (taken : ℕ → Bool) (nodes : List Node) (number : ℕ) → ((k : ℕ) (node : Node) → slice_get nodes k ≡ Some node → is_ready taken (number + k) node ≡ false) → first_ready taken number nodes ≡ None
first_none taken [] number none = refl
first_none taken (first ∷ nodes) number none =
    let same : number + 0 ≡ number = omega arith in
    let here : is_ready taken number first ≡ false = ap (λ n. is_ready taken n first) (sym same) ∙ none 0 first refl in
    skipped (is_ready taken number first) number (first_ready taken (number + 1) nodes) here
    ∙ first_none taken nodes (number + 1) (λ k node is. (let next : number + 1 + k ≡ number + suc k = omega arith in ap (λ n. is_ready taken n node) next) ∙ none (suc k) node is)

-- what is taken, with one more
abbrev pub TakesOne : (ℕ → Bool) → ℕ → (ℕ → Bool) → Type 0
TakesOne old x new = (k : ℕ) → new k ≡ (old k || (x == k))

pub not_true : (b : Bool) → not b ≡ true → b ≡ false
not_true true e = absurd (cc)
not_true false e = refl

pub same_number : (x k : ℕ) → (x == k) ≡ false → x ≡ k → ⊥
same_number x k e same = grind (arith, nat_tests)

-- the marks are those of the order
abbrev pub Marks : List Bool → List ℕ → Type 0
Marks flags order = (k : ℕ) → flag_at flags k ≡ is_taken order k

pub as_one : (flags : List Bool) (order : List ℕ) → Marks flags order → flag_at flags ≡ is_taken order
as_one flags order marks = λ i. λ k. marks k i

-- how many nodes are not taken
abbrev pub left : List Bool → ℕ
left [] = 0
left (flag ∷ flags) = cond flag 0 1 + left flags

pub left_falls : (flags : List Bool) (x : ℕ) → x < length flags → flag_at flags x ≡ false → left (set flags x true) < left flags
left_falls [] x lt is = absurd (omega (arith, lt))
left_falls (flag ∷ flags) zero lt is = rw is (omega arith)
left_falls (flag ∷ flags) (suc x) lt is = omega (arith, left_falls flags x (omega (arith, lt)) is)

set_here : (flags : List Bool) (x : ℕ) → x < length flags → flag_at (set flags x true) x ≡ true
set_here [] x lt = absurd (omega (arith, lt))
set_here (flag ∷ flags) zero lt = refl
set_here (flag ∷ flags) (suc x) lt = set_here flags x (omega (arith, lt))

set_other : (flags : List Bool) (x k : ℕ) → (x ≡ k → ⊥) → flag_at (set flags x true) k ≡ flag_at flags k
set_other [] x k other = refl
set_other (flag ∷ flags) zero zero other = absurd (other refl)
set_other (flag ∷ flags) zero (suc k) other = refl
set_other (flag ∷ flags) (suc x) zero other = refl
set_other (flag ∷ flags) (suc x) (suc k) other = set_other flags x k (λ e. other (ap suc e))

pub is_number : (x k : ℕ) → (x == k) ≡ true → x ≡ k
is_number x k e = grind (arith, nat_tests)

pub flag_set : (flags : List Bool) (x k : ℕ) → x < length flags → flag_at (set flags x true) k ≡ (flag_at flags k || (x == k))
flag_set flags x k lt = by (x == k) refl
  where
    or_true : (b : Bool) → true ≡ (b || true)
    or_true true = refl
    or_true false = refl

    or_no : (b : Bool) → b ≡ (b || false)
    or_no true = refl
    or_no false = refl

    by : (b : Bool) → (x == k) ≡ b → flag_at (set flags x true) k ≡ (flag_at flags k || (x == k))
    by true e = ap (flag_at (set flags x true)) (sym (is_number x k e)) ∙ set_here flags x lt ∙ or_true (flag_at flags k) ∙ ap (λ b. flag_at flags k || b) (sym e)
    by false e = set_other flags x k (same_number x k e) ∙ or_no (flag_at flags k) ∙ ap (λ b. flag_at flags k || b) (sym e)

-- one more mark
pub marks_more : (flags : List Bool) (order : List ℕ) (x : ℕ) → x < length flags → Marks flags order → Marks (set flags x true) (order ++ x ∷ [])
marks_more flags order x lt marks k =
    flag_set flags x k lt ∙ ap (λ b. b || (x == k)) (marks k) ∙ sym (any_last (λ one. one == k) order x)

-- The order so far, with the nodes that it takes marked.
pub record SoFar (nodes : List Node) (flags : List Bool) (order : List ℕ) : Type 0 where
  pub in_turn : TakesInTurn nodes [] order
  pub marks : Marks flags order

pub begins : (nodes : List Node) (flags : List Bool) → ((k : ℕ) → flag_at flags k ≡ false) → SoFar nodes flags []
begins nodes flags none = record { in_turn = tt; marks = none }

-- what is the first by the marks is the first behind the order
pub by_order : (nodes : List Node) (flags : List Bool) (order : List ℕ) (found : Option ℕ) → SoFar nodes flags order → first_ready (flag_at flags) 0 nodes ≡ found → first_ready (is_taken order) 0 nodes ≡ found
by_order nodes flags order found so_far is = ap (λ (t : ℕ → Bool). first_ready t 0 nodes) (sym (as_one flags order so_far.marks)) ∙ is

pub goes_on : (nodes : List Node) (flags next_flags : List Bool) (order next_order : List ℕ) (x : ℕ) → SoFar nodes flags order → x < length flags → first_ready (flag_at flags) 0 nodes ≡ Some x
    → next_flags ≡ set flags x true → next_order ≡ order ++ x ∷ [] → SoFar nodes next_flags next_order
goes_on nodes flags next_flags order next_order x so_far within is flags_are order_is = rw (flags_are, order_is) (record {
  in_turn = takes_last nodes [] order x so_far.in_turn (by_order nodes flags order (Some x) so_far is);
  marks = marks_more flags order x within so_far.marks;
})

pub ends : (nodes : List Node) (flags : List Bool) (order : List ℕ) → SoFar nodes flags order → first_ready (flag_at flags) 0 nodes ≡ None → IsOrder nodes order
ends nodes flags order so_far is = record { in_turn = so_far.in_turn; until_none = by_order nodes flags order None so_far is }

pub left_is : (nodes : List Node) (flags : List Bool) (order : List ℕ) (number : Option ℕ) → SoFar nodes flags order → number ≡ first_left (flag_at flags) 0 nodes → number ≡ first_left (is_taken order) 0 nodes
left_is nodes flags order number so_far is = is ∙ ap (λ (t : ℕ → Bool). first_left t 0 nodes) (as_one flags order so_far.marks)

pub left_here : (taken : ℕ → Bool) (nodes : List Node) (number : ℕ) → number < length nodes → taken number ≡ false → first_left taken 0 nodes ≡ first_left taken number (drop number nodes) → Some number ≡ first_left taken 0 nodes
left_here taken [] number lt waits so_far = absurd (omega (arith, lt))
left_here taken (first ∷ nodes) number lt waits so_far =
    sym (so_far ∙ ap (first_left taken number) (drop-cons (first ∷ nodes) number first lt) ∙ step (taken number) waits)
  where
    step : (b : Bool) → b ≡ false → cond b (first_left taken (number + 1) (drop (suc number) (first ∷ nodes))) (Some number) ≡ Some number
    step true e = absurd (cc)
    step false e = refl

pub left_later : (taken : ℕ → Bool) (nodes : List Node) (number : ℕ) → number < length nodes → taken number ≡ true → first_left taken 0 nodes ≡ first_left taken number (drop number nodes) → first_left taken 0 nodes ≡ first_left taken (number + 1) (drop (number + 1) nodes)
left_later taken [] number lt done so_far = absurd (omega (arith, lt))
left_later taken (first ∷ nodes) number lt done so_far =
    so_far ∙ ap (first_left taken number) (drop-cons (first ∷ nodes) number first lt) ∙ step (taken number) done ∙ ap (λ n. first_left taken (number + 1) (drop n (first ∷ nodes))) (sym (add-one number))
  where
    step : (b : Bool) → b ≡ true → cond b (first_left taken (number + 1) (drop (suc number) (first ∷ nodes))) (Some number) ≡ first_left taken (number + 1) (drop (suc number) (first ∷ nodes))
    step true e = refl
    step false e = absurd (cc)

pub left_none : (taken : ℕ → Bool) (nodes : List Node) (number : ℕ) → length nodes ≤ number → first_left taken 0 nodes ≡ first_left taken number (drop number nodes) → None ≡ first_left taken 0 nodes
left_none taken nodes number all so_far = sym (so_far ∙ ap (first_left taken number) (drop_all number nodes all))

-- one flag more
pub no_flag : (flags : List Bool) → ((k : ℕ) → flag_at flags k ≡ false) → (k : ℕ) → flag_at (flags ++ false ∷ []) k ≡ false
no_flag [] none zero = refl
no_flag [] none (suc k) = refl
no_flag (flag ∷ flags) none zero = none 0
no_flag (flag ∷ flags) none (suc k) = no_flag flags (λ j. none (suc j)) k

pub not_true_is : (b : Bool) → not b ≡ true → b ≡ false
not_true_is b e = not_true b e

pub not_false_is : (b : Bool) → not b ≡ false → b ≡ true
not_false_is true e = refl
not_false_is false e = absurd (cc)

left_in : (taken : ℕ → Bool) (number : ℕ) (nodes : List Node) (k : ℕ) → first_left taken number nodes ≡ Some k → k < number + length nodes
left_in taken number [] k e = absurd (cc)
left_in taken number (node ∷ nodes) k e = by (taken number) e (left_in taken (number + 1) nodes k)
  where
    by : (b : Bool) → cond b (first_left taken (number + 1) nodes) (Some number) ≡ Some k → (first_left taken (number + 1) nodes ≡ Some k → k < number + 1 + length nodes) → k < number + suc (length nodes)
    by true e rest = omega (arith, rest e)
    by false e rest = let same : number ≡ k = cc in omega (arith, same)

pub left_within : (nodes : List Node) (order : List ℕ) (left : Option ℕ) (k : ℕ) → left ≡ first_left (is_taken order) 0 nodes → left ≡ Some k → k < length nodes
left_within nodes order left k is some = omega (arith, left_in (is_taken order) 0 nodes k (sym is ∙ some))
