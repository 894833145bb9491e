-- Partitions of nodes into labelled classes, each with a node that stands for it.
use Rattle.std.specs.Prelude.{ℕ, ◌≡◌, ◌<◌, List, [], ◌∷◌, ◌++◌, length, map, get_or}
use Rattle.std.proofs.Math.ListN.{set}
use Rattle.unify_terms.specs.declared.partition.Partition.{Partition}
use Rattle.unify_terms.specs.code.Classes.{class_of}
use Rattle.unify_terms.specs.code.Order.{Among}

-- the node that stands for the class of each node
abbrev pub classes_of : Partition → List ℕ
classes_of p = map (class_of p.heads.items) p.labels.items

-- the nodes with a label
abbrev pub members_of : List (List ℕ) → ℕ → List ℕ
members_of members l = get_or members l []

-- labels, the node that stands for the class of each label, and the members of each label fit
pub record AreLabels (labels heads : List ℕ) (members : List (List ℕ)) : Type 0 where
  pub head_count : length heads ≡ length labels
  pub member_count : length members ≡ length labels
  pub within : (i : ℕ) → i < length labels → class_of labels i < length labels
  pub heads_within : (i : ℕ) → i < length labels → class_of heads (class_of labels i) < length labels
  pub own : (i : ℕ) → i < length labels → class_of labels (class_of heads (class_of labels i)) ≡ class_of labels i
  pub listed : (i : ℕ) → i < length labels → Among i (members_of members (class_of labels i))
  pub all : (l i : ℕ) → Among i (members_of members l) → (i < length labels) × (class_of labels i ≡ l)

abbrev pub IsPartition : Partition → Type 0
IsPartition p = AreLabels p.labels.items p.heads.items p.members.items

-- the labels with one label for the members of a list
abbrev pub relabelled : List ℕ → ℕ → List ℕ → List ℕ
relabelled labels to [] = labels
relabelled labels to (m ∷ ms) = relabelled (set labels m to) to ms

-- one class went into the other, which `head` stands for from then on
pub record Merged (old new : Partition) (small big head : ℕ) : Type 0 where
  pub labels : new.labels.items ≡ relabelled old.labels.items big (members_of old.members.items small)
  pub heads : new.heads.items ≡ set old.heads.items big head
  pub count : length new.members.items ≡ length old.members.items
  pub members : (l : ℕ) → members_of new.members.items l ≡ members_of (set (set old.members.items small []) big (members_of old.members.items big ++ members_of old.members.items small)) l
