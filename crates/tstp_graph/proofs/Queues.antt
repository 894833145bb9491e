-- How the queue of the nodes that are not taken changes.
use Rattle.std.proofs.Common.{◌≡◌, ◌⊎◌, inl, inr, ℕ, ◌+◌, ◌<◌, ◌≤◌, ◌==◌, ◌||◌, Bool, true, false, not, cond, List, [], ◌∷◌, length, take, slice_get, None, Some, refl, sym, ◌∙◌, ap, arith}
use Rattle.std.specs.List.{list_any, list_all, All}
use Rattle.std.specs.Ordering.{nat_cmp, is_eq}
use Rattle.std.specs.Cmp.{unsigned_tied}
use Rattle.std.specs.BTreeSet.{BTreeSet, contains, IsEmpty, IsLowerBound, Updates}
use Rattle.std.proofs.lemmas.Map.Keys.{le_from_not_gt}
use Rattle.std.proofs.lemmas.Option.{slice_get_within}
use Rattle.std.proofs.lemmas.List.Elements.{All-weaker}
use Rattle.std.proofs.lemmas.Bool.{and_parts, and_from}
use Rattle.tstp_graph.specs.declared.shape.Ref.{Ref}
use Rattle.tstp_graph.specs.declared.shape.Ref.TheVariants.{Line, Given}
use Rattle.tstp_graph.specs.declared.shape.Node.{Node}
use Rattle.tstp_graph.specs.declared.queue.Waiter.{Waiter}
use Rattle.tstp_graph.specs.Order.{is_done, is_ready, first_ready}
use Rattle.tstp_graph.specs.code.Flags.{flag_at, cites}
use Rattle.tstp_graph.specs.code.Queue.{waiters_of, has_number, no_number, IsLoose, IsWaiter, IsFree, Waits, IsQueue}
use Rattle.std.proofs.Math.ListN.{set}
use Rattle.tstp_graph.proofs.Orders.{flag_set, left, left_falls, TakesOne, not_true_is, is_number, first_is, first_none}

pub never_both : (b : Bool) → b ≡ true → b ≡ false → ⊥
never_both b t f = cc

refuted : (b : Bool) → (b ≡ true → ⊥) → b ≡ false
refuted true never = absurd (never refl)
refuted false never = refl

pub as_false : (b : Bool) → b ≡ false → not b ≡ true
as_false b e = rw e refl

-- a set of numbers with one more, or one less
pub has_after : (old new : BTreeSet ℕ) (x : ℕ) (b : Bool) → Updates nat_cmp old new x b → (k : ℕ) → contains nat_cmp new k ≡ cond (x == k) b (contains nat_cmp old k)
has_after old new x b updates k = updates.0 k ∙ ap (λ (c : Bool). cond c b (contains nat_cmp old k)) (unsigned_tied x k)

pub kept_other : (old new : BTreeSet ℕ) (x : ℕ) (b : Bool) → Updates nat_cmp old new x b → (k : ℕ) → (x == k) ≡ false → contains nat_cmp new k ≡ contains nat_cmp old k
kept_other old new x b updates k other = has_after old new x b updates k ∙ ap (λ (c : Bool). cond c b (contains nat_cmp old k)) other

pub at_itself : (old new : BTreeSet ℕ) (x : ℕ) (b : Bool) → Updates nat_cmp old new x b → (k : ℕ) → (x == k) ≡ true → contains nat_cmp new k ≡ b
at_itself old new x b updates k same = has_after old new x b updates k ∙ ap (λ (c : Bool). cond c b (contains nat_cmp old k)) same

-- a cited line of parents that are all taken is taken
pub cited_done : (taken : ℕ → Bool) (parents : List Ref) (line : ℕ) → list_all (is_done taken) parents ≡ true → cites parents line ≡ true → taken line ≡ true
cited_done taken [] line done cited = absurd (cc)
cited_done taken (Given given ∷ parents) line done cited = cited_done taken parents line done cited
cited_done taken (Line other ∷ parents) line done cited =
    let dones = and_parts (taken other) (list_all (is_done taken) parents) done in
    by (line == other) refl dones.0 (cited_done taken parents line dones.1) cited
  where
    by : (b : Bool) → (line == other) ≡ b → taken other ≡ true → (cites parents line ≡ true → taken line ≡ true) → (b || cites parents line) ≡ true → taken line ≡ true
    by true same is rest either = ap taken (is_number line other same) ∙ is
    by false same is rest either = rest either

-- what is taken stays taken
abbrev pub Grows : (ℕ → Bool) → (ℕ → Bool) → Type 0
Grows old new = (k : ℕ) → old k ≡ true → new k ≡ true

pub done_more : (old new : ℕ → Bool) → Grows old new → (parents : List Ref) → list_all (is_done old) parents ≡ true → list_all (is_done new) parents ≡ true
done_more old new grows [] done = refl
done_more old new grows (parent ∷ parents) done =
    let dones = and_parts (is_done old parent) (list_all (is_done old) parents) done in
    and_from (is_done new parent) (list_all (is_done new) parents) (one parent dones.0) (done_more old new grows parents dones.1)
  where
    one : (p : Ref) → is_done old p ≡ true → is_done new p ≡ true
    one (Line number) e = grows number e
    one (Given number) e = refl

grown : (old new : ℕ → Bool) (x : ℕ) → TakesOne old x new → Grows old new
grown old new x one k is = one k ∙ ap (λ b. b || (x == k)) is

-- a number that is not taken with one more is another, and was not taken
not_taken : (old new : ℕ → Bool) (x k : ℕ) → TakesOne old x new → new k ≡ false → (old k ≡ false) × ((x == k) ≡ false)
not_taken old new x k one is = by (old k) (x == k) (sym (one k) ∙ is)
  where
    by : (a b : Bool) → (a || b) ≡ false → (a ≡ false) × (b ≡ false)
    by false b e = (refl, e)
    by true b e = absurd (cc)

still_left : (old new : ℕ → Bool) (x k : ℕ) → TakesOne old x new → old k ≡ false → (x == k) ≡ false → new k ≡ false
still_left old new x k one is other = one k ∙ ap (λ b. b || (x == k)) is ∙ other

-- a node that is ready does not wait for a line that is not taken
not_itself : (nodes : List Node) (taken : ℕ → Bool) (x line : ℕ) (waiter : Waiter) → IsFree nodes taken x → IsWaiter nodes taken line waiter → taken line ≡ false → (x == waiter.number) ≡ false
not_itself nodes taken x line waiter free waits left = refuted (x == waiter.number) (λ same.
    let one : free.node ≡ waits.loose.node = cc (sym free.at ∙ ap (slice_get nodes) (is_number x waiter.number same) ∙ waits.loose.at) in
    let done : list_all (is_done taken) free.node.parents ≡ true = (and_parts (not (taken x)) (list_all (is_done taken) free.node.parents) free.ready).1 in
    never_both (taken line) (cited_done taken waits.loose.node.parents line (ap (λ (n : Node). list_all (is_done taken) n.parents) (sym one) ∙ done) waits.cited) left)

-- a node that waits is not ready
unready : (nodes : List Node) (taken : ℕ → Bool) (waiting : List (List Waiter)) (k : ℕ) (node : Node) → Waits nodes taken waiting k → slice_get nodes k ≡ Some node → is_ready taken k node ≡ true → ⊥
unready nodes taken waiting k node waits at ready =
    let one : node ≡ waits.node = cc (sym at ∙ waits.at) in
    let done : list_all (is_done taken) node.parents ≡ true = (and_parts (not (taken k)) (list_all (is_done taken) node.parents) ready).1 in
    never_both (taken waits.line) (cited_done taken waits.node.parents waits.line (ap (λ (n : Node). list_all (is_done taken) n.parents) (sym one) ∙ done) waits.cited) waits.left

-- a node that is ready is among those that are
pub is_queued : (nodes : List Node) (taken : ℕ → Bool) (ready : BTreeSet ℕ) (waiting : List (List Waiter)) (k : ℕ) (node : Node) → IsQueue nodes taken no_number ready waiting → slice_get nodes k ≡ Some node → is_ready taken k node ≡ true → contains nat_cmp ready k ≡ true
is_queued nodes taken ready waiting k node queue at is =
    by (queue.placed k (slice_get_within nodes k node at) (not_true_is (taken k) (and_parts (not (taken k)) (list_all (is_done taken) node.parents) is).0))
  where
    by : (false ≡ true) ⊎ ((contains nat_cmp ready k ≡ true) ⊎ Waits nodes taken waiting k) → contains nat_cmp ready k ≡ true
    by (inl e) = absurd (cc)
    by (inr (inl e)) = e
    by (inr (inr waits)) = absurd (unready nodes taken waiting k node waits at is)

-- the first of those that are ready is the first that is ready
pub first_of_queue : (nodes : List Node) (taken : ℕ → Bool) (ready : BTreeSet ℕ) (waiting : List (List Waiter)) (x : ℕ) → IsQueue nodes taken no_number ready waiting → contains nat_cmp ready x ≡ true → IsLowerBound nat_cmp ready x → first_ready taken 0 nodes ≡ Some x
first_of_queue nodes taken ready waiting x queue has least =
    let free = queue.free x has in
    let from : 0 + x ≡ x = omega arith in
    first_is taken nodes 0 x free.node free.at (ap (λ n. is_ready taken n free.node) from ∙ free.ready) before ∙ ap Some from
  where
    before : (k : ℕ) (other : Node) → k < x → slice_get nodes k ≡ Some other → is_ready taken (0 + k) other ≡ false
    before k other lt at = (let from : 0 + k ≡ k = omega arith in ap (λ n. is_ready taken n other) from) ∙ refuted (is_ready taken k other) (λ is.
        let le : x ≤ k = le_from_not_gt x k (least k (is_queued nodes taken ready waiting k other queue at is)) in omega (arith, le, lt))

-- where none is among those that are ready, none is ready
pub none_of_queue : (nodes : List Node) (taken : ℕ → Bool) (ready : BTreeSet ℕ) (waiting : List (List Waiter)) → IsQueue nodes taken no_number ready waiting → IsEmpty ready → first_ready taken 0 nodes ≡ None
none_of_queue nodes taken ready waiting queue empty = first_none taken nodes 0 (λ k node at. refuted (is_ready taken (0 + k) node) (λ is.
    let from : 0 + k ≡ k = omega arith in
    let has : contains nat_cmp ready k ≡ true = is_queued nodes taken ready waiting k node queue at (ap (λ n. is_ready taken n node) (sym from) ∙ is) in
    let none : contains nat_cmp ready k ≡ false = ap (λ (keys : List ℕ). list_any (λ (one : ℕ). is_eq (nat_cmp k one)) keys) empty in
    never_both (contains nat_cmp ready k) has none))

-- what waits for the node that is taken is loose
loose_more : (nodes : List Node) (old new : ℕ → Bool) (x line : ℕ) (waiter : Waiter) → TakesOne old x new → IsFree nodes old x → old line ≡ false → IsWaiter nodes old line waiter → IsWaiter nodes new line waiter
loose_more nodes old new x line waiter one free left waits = record {
  loose = record {
    within = waits.loose.within;
    node = waits.loose.node;
    at = waits.loose.at;
    before = done_more old new (grown old new x one) (take waiter.place waits.loose.node.parents) waits.loose.before;
    left = still_left old new x waiter.number one waits.loose.left (not_itself nodes old x line waiter free waits left);
  };
  cited = waits.cited;
}

pub loose_after : (nodes : List Node) (old new : ℕ → Bool) (ready : BTreeSet ℕ) (waiting : List (List Waiter)) (x : ℕ) → IsQueue nodes old no_number ready waiting → contains nat_cmp ready x ≡ true → TakesOne old x new → All (IsLoose nodes new) (waiters_of waiting x)
loose_after nodes old new ready waiting x queue has one =
    let free = queue.free x has in
    let left : old x ≡ false = not_true_is (old x) (and_parts (not (old x)) (list_all (is_done old) free.node.parents) free.ready).0 in
    All-weaker (IsWaiter nodes old x) (IsLoose nodes new) (λ waiter waits. (loose_more nodes old new x x waiter one free left waits).loose) (waiters_of waiting x) (queue.waits x left)

-- when a node is taken, those that wait for it are pending
pub taken_after : (nodes : List Node) (old new : ℕ → Bool) (ready next : BTreeSet ℕ) (waiting : List (List Waiter)) (x : ℕ) → IsQueue nodes old no_number ready waiting → contains nat_cmp ready x ≡ true → Updates nat_cmp ready next x false → TakesOne old x new
    → IsQueue nodes new (has_number (waiters_of waiting x)) next waiting
taken_after nodes old new ready next waiting x queue has updates one = record {
  len = queue.len;
  free = λ k in_next. by_free k in_next (x == k) refl;
  waits = λ line left. let parts = not_taken old new x line one left in
      All-weaker (IsWaiter nodes old line) (IsWaiter nodes new line) (λ waiter waits. loose_more nodes old new x line waiter one (queue.free x has) parts.0 waits) (waiters_of waiting line) (queue.waits line parts.0);
  placed = λ k within left. let parts = not_taken old new x k one left in by_place k parts.1 (queue.placed k within parts.0);
}
  where
    by_free : (k : ℕ) → contains nat_cmp next k ≡ true → (b : Bool) → (x == k) ≡ b → IsFree nodes new k
    by_free k in_next true same = absurd (never_both (contains nat_cmp next k) in_next (at_itself ready next x false updates k same))
    by_free k in_next false other =
        let free = queue.free k (sym (kept_other ready next x false updates k other) ∙ in_next) in
        let parts = and_parts (not (old k)) (list_all (is_done old) free.node.parents) free.ready in
        record {
          node = free.node;
          within = free.within;
          at = free.at;
          ready = and_from (not (new k)) (list_all (is_done new) free.node.parents) (as_false (new k) (still_left old new x k one (not_true_is (old k) parts.0) other)) (done_more old new (grown old new x one) free.node.parents parts.1);
        }

    by_line : (k : ℕ) (waits : Waits nodes old waiting k) (b : Bool) → (x == waits.line) ≡ b → (has_number (waiters_of waiting x) k ≡ true) ⊎ ((contains nat_cmp next k ≡ true) ⊎ Waits nodes new waiting k)
    by_line k waits true same =
        let here : waits.line ≡ x = sym (is_number x waits.line same) in
        inl (ap (λ l. has_number (waiters_of waiting l) k) (sym here) ∙ waits.listed (omega (arith, here, (queue.free x has).within)))
    by_line k waits false other = inr (inr (record {
      node = waits.node;
      at = waits.at;
      line = waits.line;
      cited = waits.cited;
      left = still_left old new x waits.line one waits.left other;
      listed = waits.listed;
    }))

    by_place : (k : ℕ) → (x == k) ≡ false → (false ≡ true) ⊎ ((contains nat_cmp ready k ≡ true) ⊎ Waits nodes old waiting k) → (has_number (waiters_of waiting x) k ≡ true) ⊎ ((contains nat_cmp next k ≡ true) ⊎ Waits nodes new waiting k)
    by_place k other (inl e) = absurd (cc)
    by_place k other (inr (inl e)) = inr (inl (kept_other ready next x false updates k other ∙ e))
    by_place k other (inr (inr waits)) = by_line k waits (x == waits.line) refl

-- the same, for values that are equal to these
pub taken_flags : (flags next : List Bool) (x : ℕ) → x < length flags → next ≡ set flags x true → TakesOne (flag_at flags) x (flag_at next)
taken_flags flags next x within is k = ap (λ (f : List Bool). flag_at f k) is ∙ flag_set flags x k within

pub within_flags : (nodes : List Node) (flags : List Bool) (ready : BTreeSet ℕ) (waiting : List (List Waiter)) (x : ℕ) → length flags ≡ length nodes → IsQueue nodes (flag_at flags) no_number ready waiting → contains nat_cmp ready x ≡ true → x < length flags
within_flags nodes flags ready waiting x len queue has = omega (arith, (queue.free x has).within, len)

pub loose_after_with : (nodes : List Node) (flags next : List Bool) (ready : BTreeSet ℕ) (waiting next_waiting : List (List Waiter)) (x : ℕ) → length flags ≡ length nodes → IsQueue nodes (flag_at flags) no_number ready waiting → contains nat_cmp ready x ≡ true → next ≡ set flags x true → next_waiting ≡ waiting
    → All (IsLoose nodes (flag_at next)) (waiters_of next_waiting x)
loose_after_with nodes flags next ready waiting next_waiting x len queue has is same = rw same (
    loose_after nodes (flag_at flags) (flag_at next) ready waiting x queue has (taken_flags flags next x (within_flags nodes flags ready waiting x len queue has) is))

pub taken_after_with : (nodes : List Node) (flags next : List Bool) (ready next_ready : BTreeSet ℕ) (waiting next_waiting : List (List Waiter)) (x : ℕ) → length flags ≡ length nodes → IsQueue nodes (flag_at flags) no_number ready waiting → contains nat_cmp ready x ≡ true → Updates nat_cmp ready next_ready x false
    → next ≡ set flags x true → next_waiting ≡ waiting → IsQueue nodes (flag_at next) (has_number (waiters_of next_waiting x)) next_ready next_waiting
taken_after_with nodes flags next ready next_ready waiting next_waiting x len queue has updates is same = rw same (
    taken_after nodes (flag_at flags) (flag_at next) ready next_ready waiting x queue has updates (taken_flags flags next x (within_flags nodes flags ready waiting x len queue has) is))

-- fewer nodes are left
pub fewer_left : (nodes : List Node) (flags : List Bool) (ready : BTreeSet ℕ) (waiting : List (List Waiter)) (x : ℕ) → length flags ≡ length nodes → IsQueue nodes (flag_at flags) no_number ready waiting → contains nat_cmp ready x ≡ true → left (set flags x true) < left flags
fewer_left nodes flags ready waiting x len queue has =
    let free = queue.free x has in
    left_falls flags x (within_flags nodes flags ready waiting x len queue has) (not_true_is (flag_at flags x) (and_parts (not (flag_at flags x)) (list_all (is_done (flag_at flags)) free.node.parents) free.ready).0)
