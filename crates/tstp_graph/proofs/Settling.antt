-- How a node that is not taken is settled: it is ready, or it waits for a parent.
use Rattle.std.proofs.Common.{◌≡◌, ◌⊎◌, inl, inr, ℕ, ◌+◌, ◌<◌, ◌≤◌, ◌==◌, nat_lt, ◌||◌, Bool, true, false, not, List, [], ◌∷◌, length, take, drop, get_or, slice_get, Some, refl, sym, ◌∙◌, ap, subst, arith, add-one, drop-cons}
use Rattle.std.proofs.Math.ListN.{set}
use Rattle.std.proofs.lemmas.List.{drop_all, length-set, get_or-set_other}
use Rattle.std.specs.List.{list_any, list_all, All}
use Rattle.std.specs.Ordering.{nat_cmp, is_eq}
use Rattle.std.specs.BTreeSet.{BTreeSet, contains, IsEmpty, Updates}
use Rattle.std.proofs.lemmas.Option.{slice_get_within, slice_get-get_or}
use Rattle.std.proofs.lemmas.List.Elements.{All-push, All-nil}
use Rattle.std.proofs.lemmas.Bool.{and_from, cases_lt}
use Rattle.std.proofs.lemmas.Bool.Decides.{nat_tests}
use Rattle.tstp_graph.specs.declared.shape.Node.{Node}
use Rattle.tstp_graph.specs.declared.queue.Waiter.{Waiter}
use Rattle.tstp_graph.specs.declared.queue.Missing.{Missing}
use Rattle.tstp_graph.specs.Order.{is_done}
use Rattle.tstp_graph.specs.code.Queue.{waiters_of, has_number, no_number, with_number, IsMissing, IsLoose, IsWaiter, IsFree, Waits, IsQueue, Settles, AddsWaiter}
use Rattle.tstp_graph.proofs.Orders.{any_last, is_number, same_number}
use Rattle.tstp_graph.proofs.Queues.{never_both, as_false, kept_other, at_itself}

-- the node that the code reads
pub node_read : (nodes : List Node) (i : ℕ) (other node : Node) → slice_get nodes i ≡ Some node → node ≡ get_or nodes i other
node_read nodes i other node at = cc (sym at ∙ slice_get-get_or nodes i other (slice_get_within nodes i node at))

either_one : (a b : Bool) → (a || b) ≡ true → (a ≡ true) ⊎ (b ≡ true)
either_one true b e = inl refl
either_one false b e = inr e

-- it is ready
pub settled_ready : (nodes : List Node) (taken : ℕ → Bool) (ready next : BTreeSet ℕ) (waiting : List (List Waiter)) (waiter : Waiter) (loose : IsLoose nodes taken waiter) → list_all (is_done taken) loose.node.parents ≡ true → Updates nat_cmp ready next waiter.number true
    → Settles nodes taken waiter.number ready waiting next waiting
settled_ready nodes taken ready next waiting waiter loose done updates pending queue = record {
  len = queue.len;
  free = λ k has. by_free k has (waiter.number == k) refl;
  waits = queue.waits;
  placed = λ k within left. by_place k (waiter.number == k) refl (queue.placed k within left);
}
  where
    by_free : (k : ℕ) → contains nat_cmp next k ≡ true → (b : Bool) → (waiter.number == k) ≡ b → IsFree nodes taken k
    by_free k has true same =
        let is : waiter.number ≡ k = is_number waiter.number k same in
        subst (IsFree nodes taken) is (record {
          node = loose.node;
          within = loose.within;
          at = loose.at;
          ready = and_from (not (taken waiter.number)) (list_all (is_done taken) loose.node.parents) (as_false (taken waiter.number) loose.left) done;
        })
    by_free k has false other = queue.free k (sym (kept_other ready next waiter.number true updates k other) ∙ has)

    by_place : (k : ℕ) (b : Bool) → (waiter.number == k) ≡ b → (with_number waiter.number pending k ≡ true) ⊎ ((contains nat_cmp ready k ≡ true) ⊎ Waits nodes taken waiting k) → (pending k ≡ true) ⊎ ((contains nat_cmp next k ≡ true) ⊎ Waits nodes taken waiting k)
    by_place k true same place = inr (inl (at_itself ready next waiter.number true updates k same))
    by_place k false other (inl e) = inl (sym (ap (λ b. b || pending k) other) ∙ e)
    by_place k false other (inr (inl has)) = inr (inl (kept_other ready next waiter.number true updates k other ∙ has))
    by_place k false other (inr (inr waits)) = inr (inr waits)

pub settled_ready_with : (nodes : List Node) (taken : ℕ → Bool) (ready next : BTreeSet ℕ) (waiting next_waiting : List (List Waiter)) (waiter : Waiter) (other : Node) → IsLoose nodes taken waiter → list_all (is_done taken) (get_or nodes waiter.number other).parents ≡ true
    → Updates nat_cmp ready next waiter.number true → next_waiting ≡ waiting → Settles nodes taken waiter.number ready waiting next next_waiting
settled_ready_with nodes taken ready next waiting next_waiting waiter other loose done updates same = rw same (
    settled_ready nodes taken ready next waiting waiter loose (ap (λ (n : Node). list_all (is_done taken) n.parents) (node_read nodes waiter.number other loose.node loose.at) ∙ done) updates)

-- it waits
pub settled_waits : (nodes : List Node) (taken : ℕ → Bool) (ready : BTreeSet ℕ) (waiting next : List (List Waiter)) (waiter later : Waiter) (missing : Missing) (loose : IsLoose nodes taken waiter) → IsMissing loose.node.parents taken missing → later.number ≡ waiter.number → later.place ≡ missing.place
    → AddsWaiter waiting missing.line later next → Settles nodes taken waiter.number ready waiting ready next
settled_waits nodes taken ready waiting next waiter later missing loose found number_is place_is adds pending queue = record {
  len = adds.len ∙ queue.len;
  free = queue.free;
  waits = λ line left. by_line line left (line == missing.line) refl;
  placed = λ k within left. by_place k (queue.placed k within left);
}
  where
    is_waiter : IsWaiter nodes taken missing.line later
    is_waiter = record {
      loose = record {
        within = omega (arith, loose.within, number_is);
        node = loose.node;
        at = ap (slice_get nodes) number_is ∙ loose.at;
        before = ap (λ n. list_all (is_done taken) (take n loose.node.parents)) place_is ∙ found.before;
        left = ap taken number_is ∙ loose.left;
      };
      cited = found.cited;
    }

    at_line : (length waiting ≤ missing.line) ⊎ (missing.line < length waiting) → All (IsWaiter nodes taken missing.line) (waiters_of waiting missing.line) → All (IsWaiter nodes taken missing.line) (waiters_of next missing.line)
    at_line (inl past) all = subst (All (IsWaiter nodes taken missing.line)) (sym (adds.absent past)) (All-nil (IsWaiter nodes taken missing.line))
    at_line (inr within) all = subst (All (IsWaiter nodes taken missing.line)) (sym (adds.here within)) (All-push (IsWaiter nodes taken missing.line) (waiters_of waiting missing.line) later all is_waiter)

    flipped : (length waiting ≤ missing.line) ⊎ (missing.line < length waiting)
    flipped = by (cases_lt missing.line (length waiting))
      where
        by : (missing.line < length waiting) ⊎ (length waiting ≤ missing.line) → (length waiting ≤ missing.line) ⊎ (missing.line < length waiting)
        by (inl lt) = inr lt
        by (inr le) = inl le

    by_line : (line : ℕ) → taken line ≡ false → (b : Bool) → (line == missing.line) ≡ b → All (IsWaiter nodes taken line) (waiters_of next line)
    by_line line left true same =
        let is : line ≡ missing.line = is_number line missing.line same in
        subst (λ l. All (IsWaiter nodes taken l) (waiters_of next l)) (sym is) (at_line flipped (queue.waits missing.line found.left))
    by_line line left false other = subst (All (IsWaiter nodes taken line)) (sym (adds.others line (same_number line missing.line other))) (queue.waits line left)

    or_true : (b : Bool) → (b || true) ≡ true
    or_true true = refl
    or_true false = refl

    or_left : (a b : Bool) → a ≡ true → (a || b) ≡ true
    or_left true b e = refl
    or_left false b e = absurd (cc)

    equal : (k : ℕ) → (k == k) ≡ true
    equal k = grind (arith, nat_tests)

    listed_last : (k : ℕ) → waiter.number ≡ k → missing.line < length waiting → has_number (waiters_of next missing.line) k ≡ true
    listed_last k is within =
        ap (λ (w : List Waiter). has_number w k) (adds.here within)
        ∙ any_last (λ (w : Waiter). w.number == k) (waiters_of waiting missing.line) later
        ∙ ap (λ b. has_number (waiters_of waiting missing.line) k || b) (ap (λ n. n == k) (number_is ∙ is) ∙ equal k)
        ∙ or_true (has_number (waiters_of waiting missing.line) k)

    still_listed : (line k : ℕ) → line < length waiting → has_number (waiters_of waiting line) k ≡ true → (b : Bool) → (line == missing.line) ≡ b → has_number (waiters_of next line) k ≡ true
    still_listed line k within has true same =
        let is : line ≡ missing.line = is_number line missing.line same in
        ap (λ l. has_number (waiters_of next l) k) is
        ∙ ap (λ (w : List Waiter). has_number w k) (adds.here (omega (arith, within, is)))
        ∙ any_last (λ (w : Waiter). w.number == k) (waiters_of waiting missing.line) later
        ∙ or_left (has_number (waiters_of waiting missing.line) k) (later.number == k) (ap (λ l. has_number (waiters_of waiting l) k) (sym is) ∙ has)
    still_listed line k within has false other = ap (λ (w : List Waiter). has_number w k) (adds.others line (same_number line missing.line other)) ∙ has

    by_pending : (k : ℕ) → (waiter.number == k) ≡ true → Waits nodes taken next k
    by_pending k same =
        let is : waiter.number ≡ k = is_number waiter.number k same in
        record {
          node = loose.node;
          at = ap (slice_get nodes) (sym is) ∙ loose.at;
          line = missing.line;
          cited = found.cited;
          left = found.left;
          listed = λ within. listed_last k is (omega (arith, within, queue.len));
        }

    by_place : (k : ℕ) → (with_number waiter.number pending k ≡ true) ⊎ ((contains nat_cmp ready k ≡ true) ⊎ Waits nodes taken waiting k) → (pending k ≡ true) ⊎ ((contains nat_cmp ready k ≡ true) ⊎ Waits nodes taken next k)
    by_place k (inl e) = by (either_one (waiter.number == k) (pending k) e)
      where
        by : ((waiter.number == k) ≡ true) ⊎ (pending k ≡ true) → (pending k ≡ true) ⊎ ((contains nat_cmp ready k ≡ true) ⊎ Waits nodes taken next k)
        by (inl same) = inr (inr (by_pending k same))
        by (inr is) = inl is
    by_place k (inr (inl has)) = inr (inl has)
    by_place k (inr (inr waits)) = inr (inr (record {
      node = waits.node;
      at = waits.at;
      line = waits.line;
      cited = waits.cited;
      left = waits.left;
      listed = λ within. still_listed waits.line k (omega (arith, within, queue.len)) (waits.listed within) (waits.line == missing.line) refl;
    }))

pub settled_waits_with : (nodes : List Node) (taken : ℕ → Bool) (ready next_ready : BTreeSet ℕ) (waiting next : List (List Waiter)) (waiter later : Waiter) (missing : Missing) (other : Node) → IsLoose nodes taken waiter → IsMissing (get_or nodes waiter.number other).parents taken missing
    → later.number ≡ waiter.number → later.place ≡ missing.place → AddsWaiter waiting missing.line later next → next_ready ≡ ready → Settles nodes taken waiter.number ready waiting next_ready next
settled_waits_with nodes taken ready next_ready waiting next waiter later missing other loose found number_is place_is adds same = rw same (
    settled_waits nodes taken ready waiting next waiter later missing loose (subst (λ (n : Node). IsMissing n.parents taken missing) (sym (node_read nodes waiter.number other loose.node loose.at)) found) number_is place_is adds)

-- fewer are pending
pub pending_fewer : (nodes : List Node) (taken old new : ℕ → Bool) (ready : BTreeSet ℕ) (waiting : List (List Waiter)) → ((k : ℕ) → k < length nodes → old k ≡ true → new k ≡ true) → IsQueue nodes taken old ready waiting → IsQueue nodes taken new ready waiting
pending_fewer nodes taken old new ready waiting weaker queue = record {
  len = queue.len;
  free = queue.free;
  waits = queue.waits;
  placed = λ k within left. by k within (queue.placed k within left);
}
  where
    by : (k : ℕ) → k < length nodes → (old k ≡ true) ⊎ ((contains nat_cmp ready k ≡ true) ⊎ Waits nodes taken waiting k) → (new k ≡ true) ⊎ ((contains nat_cmp ready k ≡ true) ⊎ Waits nodes taken waiting k)
    by k within (inl e) = inl (weaker k within e)
    by k within (inr rest) = inr rest

-- the nodes from a number on
abbrev pub from_number : ℕ → ℕ → Bool
from_number from number = not (nat_lt number from)

-- the nodes that waited for a line which is taken are taken out
pub freed : (nodes : List Node) (taken pending : ℕ → Bool) (ready : BTreeSet ℕ) (waiting next : List (List Waiter)) (line : ℕ) → taken line ≡ true → next ≡ set waiting line [] → IsQueue nodes taken pending ready waiting → IsQueue nodes taken pending ready next
freed nodes taken pending ready waiting next line done is queue = rw is (record {
  len = length-set waiting line [] ∙ queue.len;
  free = queue.free;
  waits = λ other left. subst (All (IsWaiter nodes taken other)) (sym (apart other left)) (queue.waits other left);
  placed = λ k within left. by k (queue.placed k within left);
})
  where
    apart : (other : ℕ) → taken other ≡ false → waiters_of (set waiting line []) other ≡ waiters_of waiting other
    apart other left = get_or-set_other waiting line other [] [] (λ same. never_both (taken other) (ap taken same ∙ done) left)

    by : (k : ℕ) → (pending k ≡ true) ⊎ ((contains nat_cmp ready k ≡ true) ⊎ Waits nodes taken waiting k) → (pending k ≡ true) ⊎ ((contains nat_cmp ready k ≡ true) ⊎ Waits nodes taken (set waiting line []) k)
    by k (inl e) = inl e
    by k (inr (inl e)) = inr (inl e)
    by k (inr (inr waits)) = inr (inr (record {
      node = waits.node;
      at = waits.at;
      line = waits.line;
      cited = waits.cited;
      left = waits.left;
      listed = λ within. ap (λ (w : List Waiter). has_number w k) (apart waits.line waits.left) ∙ waits.listed within;
    }))

-- one of those that are pending is settled
pub settled_here : (nodes : List Node) (taken : ℕ → Bool) (ready next_ready : BTreeSet ℕ) (waiting next : List (List Waiter)) (waiters : List Waiter) (i : ℕ) (other : Waiter) → i < length waiters → IsQueue nodes taken (has_number (drop i waiters)) ready waiting
    → Settles nodes taken (get_or waiters i other).number ready waiting next_ready next → IsQueue nodes taken (has_number (drop (i + 1) waiters)) next_ready next
settled_here nodes taken ready next_ready waiting next waiters i other lt queue settles =
    let first : drop i waiters ≡ get_or waiters i other ∷ drop (i + 1) waiters = rw add-one (drop-cons waiters i other lt) in
    settles (has_number (drop (i + 1) waiters)) (subst (λ (w : List Waiter). IsQueue nodes taken (has_number w) ready waiting) first queue)

-- none is pending at the end
pub settled_all : (nodes : List Node) (taken : ℕ → Bool) (ready : BTreeSet ℕ) (waiting : List (List Waiter)) (waiters : List Waiter) (i : ℕ) → length waiters ≤ i → IsQueue nodes taken (has_number (drop i waiters)) ready waiting → IsQueue nodes taken no_number ready waiting
settled_all nodes taken ready waiting waiters i all queue = subst (λ (w : List Waiter). IsQueue nodes taken (has_number w) ready waiting) (drop_all i waiters all) queue

-- nodes of which none is settled
pub queue_begins : (nodes : List Node) (taken : ℕ → Bool) (ready : BTreeSet ℕ) (waiting : List (List Waiter)) → IsEmpty ready → ((line : ℕ) → waiters_of waiting line ≡ []) → length waiting ≡ length nodes → IsQueue nodes taken (from_number 0) ready waiting
queue_begins nodes taken ready waiting empty none len = record {
  len = len;
  free = λ k has. absurd (never_both (contains nat_cmp ready k) has (ap (λ (keys : List ℕ). list_any (λ (one : ℕ). is_eq (nat_cmp k one)) keys) empty));
  waits = λ line left. subst (All (IsWaiter nodes taken line)) (sym (none line)) (All-nil (IsWaiter nodes taken line));
  placed = λ k within left. inl (later k);
}
  where
    later : (k : ℕ) → from_number 0 k ≡ true
    later k = grind (arith, nat_tests)

-- the next of the nodes is settled
pub settled_next : (nodes : List Node) (taken : ℕ → Bool) (ready next_ready : BTreeSet ℕ) (waiting next : List (List Waiter)) (number : ℕ) → IsQueue nodes taken (from_number number) ready waiting → Settles nodes taken number ready waiting next_ready next → IsQueue nodes taken (from_number (number + 1)) next_ready next
settled_next nodes taken ready next_ready waiting next number queue settles =
    settles (from_number (number + 1)) (pending_fewer nodes taken (from_number number) (with_number number (from_number (number + 1))) ready waiting (λ k within is. one k is) queue)
  where
    one : (k : ℕ) → from_number number k ≡ true → with_number number (from_number (number + 1)) k ≡ true
    one k is = grind (arith, nat_tests)

pub settled_nodes : (nodes : List Node) (taken : ℕ → Bool) (ready : BTreeSet ℕ) (waiting : List (List Waiter)) (number : ℕ) → length nodes ≤ number → IsQueue nodes taken (from_number number) ready waiting → IsQueue nodes taken no_number ready waiting
settled_nodes nodes taken ready waiting number all queue = pending_fewer nodes taken (from_number number) no_number ready waiting (λ k within is. absurd (past k within is)) queue
  where
    past : (k : ℕ) → k < length nodes → from_number number k ≡ true → ⊥
    past k within is = let low : k < number = omega (arith, within, all) in grind (arith, nat_tests)

-- a node that is not taken is loose before its first parent
pub loose_first : (nodes : List Node) (taken : ℕ → Bool) (waiter : Waiter) → waiter.number < length nodes → waiter.place ≡ 0 → taken waiter.number ≡ false → IsLoose nodes taken waiter
loose_first [] taken waiter within first left = absurd (omega (arith, within))
loose_first (one ∷ nodes) taken waiter within first left =
    let node = get_or (one ∷ nodes) waiter.number one in
    record {
      within = within;
      node = node;
      at = slice_get-get_or (one ∷ nodes) waiter.number one within;
      before = ap (λ n. list_all (is_done taken) (take n node.parents)) first;
      left = left;
    }
