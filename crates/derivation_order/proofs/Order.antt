-- Lines whose parents stand before them are checked in their own order.
use Rattle.std.specs.Prelude.{ℕ, zero, suc, ◌≡◌, ◌<◌, ◌≤◌, ◌+◌, ◌==◌, ⊤, not, Bool, true, false, List, [], ◌∷◌, ◌++◌, length, Some, None, slice_get, refl}
use Rattle.std.specs.List.{AllByRecursion, list_any, list_all, range_with_len}
use Rattle.std.proofs.Common.{ap, sym, subst, ◌∙◌, arith, eq-eqb, inl, inr}
use Rattle.std.proofs.lemmas.Bool.{ne_eqb, or_from, or_left, or_right, and_from, and_left, not_from_true, not_from_false, cond-true, cases_eq}
use Rattle.std.proofs.lemmas.Option.{slice_get_within, slice_get-get_or}
use Rattle.tstp_graph.specs.declared.shape.Node.{Node}
use Rattle.tstp_graph.specs.declared.shape.Ref.{Ref}
use Rattle.tstp_graph.specs.declared.shape.Ref.TheVariants as ref
use Rattle.tstp_graph.specs.Order.{IsOrder, TakesInTurn, first_left, first_ready, is_done, is_ready, is_taken}
use Rattle.tstp_graph.proofs.Orders.{first_is, first_none}

-- a parent that is a line stands before that number
abbrev pub IsBefore : ℕ → Ref → Type 0
IsBefore k (ref.Line number) = number < k
IsBefore k (ref.Given number) = ⊤

-- of nodes that are numbered from that number on, each parent stands before its node
abbrev pub AreBefore : ℕ → List Node → Type 0
AreBefore k [] = ⊤
AreBefore k (node ∷ nodes) = AllByRecursion (IsBefore k) node.parents × AreBefore (k + 1) nodes

before_at : (k : ℕ) (nodes : List Node) (j : ℕ) (node : Node) → AreBefore k nodes → slice_get nodes j ≡ Some node → AllByRecursion (IsBefore (k + j)) node.parents
before_at k [] j node h e = cc
before_at k (n ∷ nodes) zero node h e =
    let here : k ≡ k + 0 = omega arith in
    let same : n ≡ node = cc in
    subst (λ (x : Node). AllByRecursion (IsBefore (k + 0)) x.parents) same (subst (λ (i : ℕ). AllByRecursion (IsBefore i) n.parents) here h.0)
before_at k (n ∷ nodes) (suc j) node h e =
    let there : k + 1 + j ≡ k + suc j = omega arith in
    subst (λ (i : ℕ). AllByRecursion (IsBefore i) node.parents) there (before_at (k + 1) nodes j node h.1 e)

-- ---- what is taken

in_range : (a n k : ℕ) → a ≤ k → k < a + n → list_any (λ one. one == k) (range_with_len a n) ≡ true
in_range a zero k le lt = absurd (omega arith)
in_range a (suc n) k le lt =
    elim (cases_eq a k) [
      | inl same ↦ or_left (a == k) (list_any (λ one. one == k) (range_with_len (a + 1) n)) (eq-eqb a k same)
      | inr apart ↦ or_right (a == k) (list_any (λ one. one == k) (range_with_len (a + 1) n)) (in_range (a + 1) n k (omega arith) (omega arith))
    ]

past_range : (a n k : ℕ) → a + n ≤ k → list_any (λ one. one == k) (range_with_len a n) ≡ false
past_range a zero k le = refl
past_range a (suc n) k le = or_from (a == k) (list_any (λ one. one == k) (range_with_len (a + 1) n)) (ne_eqb a k (λ e. omega arith)) (past_range (a + 1) n k (omega arith))

taken : (n k : ℕ) → k < n → is_taken (range_with_len 0 n) k ≡ true
taken n k lt = in_range 0 n k (omega arith) (omega arith)

not_taken : (n k : ℕ) → n ≤ k → is_taken (range_with_len 0 n) k ≡ false
not_taken n k le = past_range 0 n k (omega arith)

done_all : (n : ℕ) (refs : List Ref) → AllByRecursion (IsBefore n) refs → list_all (is_done (is_taken (range_with_len 0 n))) refs ≡ true
done_all n [] h = refl
done_all n (ref.Line number ∷ refs) h = and_from (is_taken (range_with_len 0 n) number) (list_all (is_done (is_taken (range_with_len 0 n))) refs) (taken n number h.0) (done_all n refs h.1)
done_all n (ref.Given number ∷ refs) h = done_all n refs h.1

range_more : (a n : ℕ) → range_with_len a n ++ (a + n) ∷ [] ≡ range_with_len a (n + 1)
range_more a zero =
    let same : a + 0 ≡ a = omega arith in
    let one : 0 + 1 ≡ 1 = omega arith in
    ap (λ (x : ℕ). x ∷ []) same
range_more a (suc n) =
    let on : a + suc n ≡ a + 1 + n = omega arith in
    let more : suc n + 1 ≡ suc (n + 1) = omega arith in
    ap (λ (x : ℕ). a ∷ (range_with_len (a + 1) n ++ x ∷ [])) on ∙ ap (λ (xs : List ℕ). a ∷ xs) (range_more (a + 1) n) ∙ ap (range_with_len a) (sym more)

module _ (nodes : List Node) (h : AreBefore 0 nodes) where
  ready_at : (k : ℕ) (node : Node) → slice_get nodes k ≡ Some node → is_ready (is_taken (range_with_len 0 k)) (0 + k) node ≡ true
  ready_at k node at =
      let same : 0 + k ≡ k = omega arith in
      and_from (not (is_taken (range_with_len 0 k) (0 + k))) (list_all (is_done (is_taken (range_with_len 0 k))) node.parents)
      (not_from_false (is_taken (range_with_len 0 k) (0 + k)) (not_taken k (0 + k) (omega arith)))
      (done_all k node.parents (subst (λ (i : ℕ). AllByRecursion (IsBefore i) node.parents) same (before_at 0 nodes k node h at)))

  ready_not : (n k : ℕ) (node : Node) → k < n → is_ready (is_taken (range_with_len 0 n)) (0 + k) node ≡ false
  ready_not n k node lt =
      and_left (not (is_taken (range_with_len 0 n) (0 + k))) (list_all (is_done (is_taken (range_with_len 0 n))) node.parents)
      (not_from_true (is_taken (range_with_len 0 n) (0 + k)) (taken n (0 + k) (omega arith)))

  next_is : (k : ℕ) → k < length nodes → first_ready (is_taken (range_with_len 0 k)) 0 nodes ≡ Some k
  next_is k lt =
      let none : Node = record { item = 0; leaf = false; cited = false; parents = [] } in
      let node = slice_get-get_or nodes k none lt in
      let same : 0 + k ≡ k = omega arith in
      first_is (is_taken (range_with_len 0 k)) nodes 0 k _ node (ready_at k _ node) (λ j other less is. ready_not k j other less) ∙ ap Some same

  in_turn : (k n : ℕ) → k + n ≡ length nodes → TakesInTurn nodes (range_with_len 0 k) (range_with_len k n)
  in_turn k zero e = tt
  in_turn k (suc n) e =
      let same : 0 + k ≡ k = omega arith in
      let more : range_with_len 0 k ++ k ∷ [] ≡ range_with_len 0 (k + 1) = ap (λ (x : ℕ). range_with_len 0 k ++ x ∷ []) (sym same) ∙ range_more 0 k in
      (next_is k (omega arith), subst (λ (t : List ℕ). TakesInTurn nodes t (range_with_len (k + 1) n)) (sym more) (in_turn (k + 1) n (omega arith)))

  pub in_order_of_lines : IsOrder nodes (range_with_len 0 (length nodes))
  in_order_of_lines = record {
    in_turn = in_turn 0 (length nodes) (omega arith);
    until_none = first_none (is_taken (range_with_len 0 (length nodes))) nodes 0 (λ k node at. ready_not (length nodes) k node (slice_get_within nodes k node at));
  }

all_left : (test : ℕ → Bool) (number : ℕ) (nodes : List Node) → ((k : ℕ) → k < length nodes → test (number + k) ≡ true) → first_left test number nodes ≡ None
all_left test number [] each = refl
all_left test number (node ∷ nodes) each =
    let same : number + 0 ≡ number = omega arith in
    cond-true (test number) (first_left test (number + 1) nodes) (Some number) (ap test (sym same) ∙ each 0 (omega arith))
    ∙ all_left test (number + 1) nodes (λ k lt. let on : number + 1 + k ≡ number + suc k = omega arith in ap test on ∙ each (suc k) (omega arith))

pub none_left : (nodes : List Node) → first_left (is_taken (range_with_len 0 (length nodes))) 0 nodes ≡ None
none_left nodes = all_left (is_taken (range_with_len 0 (length nodes))) 0 nodes (λ k lt. taken (length nodes) (0 + k) (omega arith))
