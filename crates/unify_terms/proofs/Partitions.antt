-- Partitions whose classes are joined.
use Rattle.std.proofs.Common.{ℕ, ◌+◌, ◌≡◌, ◌≢◌, ◌<◌, ◌≤◌, ◌++◌, List, [], ◌∷◌, length, map, drop, get_or, refl, sym, ap, subst, ◌∙◌, arith, zero, suc, add-one, ◌⊎◌, inl, inr}
use Rattle.std.proofs.Math.ListN.{set}
use Rattle.std.proofs.lemmas.List.{get_or-map, get_or_past, length-map, length-set, drop_all}
use Rattle.std.proofs.lemmas.Grind.{same_number_lists}
use Rattle.unify_terms.specs.code.Graph.{Below}
use Rattle.unify_terms.specs.code.Classes.{moved, class_of}
use Rattle.unify_terms.specs.code.Order.{Among}
use Rattle.unify_terms.specs.code.Partition.{members_of, AreLabels, relabelled}
use Rattle.unify_terms.proofs.Making.{set_at}
use Rattle.unify_terms.proofs.Pairs.{moved_cases, any_default}

cases : (a b : ℕ) → (a ≡ b) ⊎ (a ≢ b)
cases a b = grind arith

below_or_past : (k n : ℕ) → (k < n) ⊎ (n ≤ k)
below_or_past k n = grind arith

among_left : (i : ℕ) (xs ys : List ℕ) → Among i xs → Among i (xs ++ ys)
among_left i [] ys a = absurd a
among_left i (x ∷ xs) ys (inl e) = inl e
among_left i (x ∷ xs) ys (inr a) = inr (among_left i xs ys a)

among_right : (i : ℕ) (xs ys : List ℕ) → Among i ys → Among i (xs ++ ys)
among_right i [] ys a = a
among_right i (x ∷ xs) ys a = inr (among_right i xs ys a)

among_either : (i : ℕ) (xs ys : List ℕ) → Among i (xs ++ ys) → Among i xs ⊎ Among i ys
among_either i [] ys a = inr a
among_either i (x ∷ xs) ys (inl e) = inl (inl e)
among_either i (x ∷ xs) ys (inr a) = elim (among_either i xs ys a) [
  | inl b ↦ inl (inr b)
  | inr b ↦ inr b
]

pub below_members : (labels heads : List ℕ) (members : List (List ℕ)) → AreLabels labels heads members → (l : ℕ) → Below (length labels) (members_of members l)
below_members labels heads members p l = all_below (members_of members l) (λ m a. (p.all l m a).0)
  where
    all_below : (xs : List ℕ) → ((m : ℕ) → Among m xs → m < length labels) → Below (length labels) xs
    all_below [] h = tt
    all_below (x ∷ xs) h = (h x (inl refl), all_below xs (λ m a. h m (inr a)))

-- the labels by size, in the words of the code
pub sides_of : (labels : List ℕ) (from to left right : ℕ) (by_size : ℕ × ℕ) → from < length labels → to < length labels → left ≡ get_or labels from left → right ≡ get_or labels to right → (by_size ≡ (left, right)) ⊎ (by_size ≡ (right, left))
    → ((by_size.0 ≡ class_of labels from) × (by_size.1 ≡ class_of labels to)) ⊎ ((by_size.0 ≡ class_of labels to) × (by_size.1 ≡ class_of labels from))
sides_of labels from to left right by_size h k l r either =
    let left_is = l ∙ any_default labels from left 0 h in
    let right_is = r ∙ any_default labels to right 0 k in
    elim either [
      | inl e ↦ inl (ap (λ q. q.0) e ∙ left_is, ap (λ q. q.1) e ∙ right_is)
      | inr e ↦ inr (ap (λ q. q.0) e ∙ right_is, ap (λ q. q.1) e ∙ left_is)
    ]

-- each node alone
pub alone_labels : (n : ℕ) (labels heads : List ℕ) (members : List (List ℕ)) → length labels ≡ n → length heads ≡ n → length members ≡ n → ((i : ℕ) → i < n → class_of labels i ≡ i) → ((i : ℕ) → i < n → class_of heads i ≡ i)
    → ((i : ℕ) → i < n → members_of members i ≡ i ∷ []) → AreLabels labels heads members
alone_labels n labels heads members ls hs ms label head member = record {
  head_count = hs ∙ sym ls;
  member_count = ms ∙ sym ls;
  within = λ i h. let e = label i (omega arith) in omega arith;
  heads_within = λ i h. let e = ap (class_of heads) (label i (omega arith)) ∙ head i (omega arith) in omega arith;
  own = λ i h. ap (class_of labels) (ap (class_of heads) (label i (omega arith)) ∙ head i (omega arith));
  listed = λ i h. subst (Among i) (sym (ap (members_of members) (label i (omega arith)) ∙ member i (omega arith))) (inl refl);
  all = λ l i a. elim (below_or_past l n) [
    | inl low ↦ elim (subst (Among i) (member l low) a) as (λ s. (i < length labels) × (class_of labels i ≡ l)) [
      | inl e ↦ (omega arith, label i (omega arith) ∙ e)
      | inr b ↦ absurd b
    ]
    | inr past ↦ absurd (subst (Among i) (get_or_past members l [] (omega arith)) a)
  ];
}

pub head_is : (labels heads : List ℕ) (i : ℕ) → i < length labels → class_of (map (class_of heads) labels) i ≡ class_of heads (class_of labels i)
head_is labels heads i h = get_or-map (class_of heads) labels i 0 0 h

-- a turn of the loop that writes labels
pub relabel_turn : (labels : List ℕ) (to : ℕ) (ms : List ℕ) (i : ℕ) → i < length ms → relabelled labels to (drop i ms) ≡ relabelled (set labels (get_or ms i 0) to) to (drop (i + 1) ms)
relabel_turn labels to [] i h = absurd (omega arith)
relabel_turn labels to (m ∷ ms) zero h = refl
relabel_turn labels to (m ∷ ms) (suc i) h =
    let rest : relabelled labels to (drop i ms) ≡ relabelled (set labels (get_or ms i 0) to) to (drop (i + 1) ms) = relabel_turn labels to ms i (omega arith) in
    rw add-one (rw add-one at rest)

pub relabel_end : (labels : List ℕ) (to : ℕ) (ms : List ℕ) (i : ℕ) → length ms ≤ i → relabelled labels to (drop i ms) ≡ labels
relabel_end labels to ms i h = ap (relabelled labels to) (drop_all i ms h)

relabelled_length : (labels : List ℕ) (to : ℕ) (ms : List ℕ) → length (relabelled labels to ms) ≡ length labels
relabelled_length labels to [] = refl
relabelled_length labels to (m ∷ ms) = relabelled_length (set labels m to) to ms ∙ length-set labels m to

-- what the labels are then
relabelled_at : (labels : List ℕ) (to : ℕ) (ms : List ℕ) (i : ℕ) → ((m : ℕ) → Among m ms → m < length labels)
    → (Among i ms × (class_of (relabelled labels to ms) i ≡ to)) ⊎ ((Among i ms → ⊥) × (class_of (relabelled labels to ms) i ≡ class_of labels i))
relabelled_at labels to [] i below = inr (λ a. a, refl)
relabelled_at labels to (m ∷ ms) i below = elim (relabelled_at (set labels m to) to ms i (λ k a. let h = below k (inr a) in let e = length-set labels m to in omega arith)) [
  | inl p ↦ inl (inr p.0, p.1)
  | inr p ↦ elim (set_at labels m i to 0 (below m (inl refl))) [
    | inl q ↦ inl (inl q.0, p.1 ∙ q.1)
    | inr q ↦ inr (λ a. elsewhere p.0 q.0 a, p.1 ∙ q.1)
  ]
]
  where
    elsewhere : (Among i ms → ⊥) → i ≢ m → Among i (m ∷ ms) → ⊥
    elsewhere none ne (inl e) = ne e
    elsewhere none ne (inr a) = none a

module _ (labels heads : List ℕ) (members : List (List ℕ)) (p : AreLabels labels heads members) (from to small big : ℕ) (from_in : from < length labels) (to_in : to < length labels)
    (from_head : class_of heads (class_of labels from) ≡ from) (to_head : class_of heads (class_of labels to) ≡ to) (ne : from ≢ to)
    (sides : ((small ≡ class_of labels from) × (big ≡ class_of labels to)) ⊎ ((small ≡ class_of labels to) × (big ≡ class_of labels from))) where
  labels_differ : class_of labels from ≢ class_of labels to
  labels_differ e = ne (sym from_head ∙ ap (class_of heads) e ∙ to_head)

  pub small_big : small ≢ big
  small_big e = elim sides [
    | inl q ↦ labels_differ (sym q.0 ∙ e ∙ q.1)
    | inr q ↦ labels_differ (sym q.1 ∙ sym e ∙ q.0)
  ]

  pub small_in : small < length labels
  small_in = elim sides [
    | inl q ↦ subst (λ k. k < length labels) (sym q.0) (p.within from from_in)
    | inr q ↦ subst (λ k. k < length labels) (sym q.0) (p.within to to_in)
  ]

  pub big_in : big < length labels
  big_in = elim sides [
    | inl q ↦ subst (λ k. k < length labels) (sym q.1) (p.within to to_in)
    | inr q ↦ subst (λ k. k < length labels) (sym q.1) (p.within from from_in)
  ]

  to_label : (class_of labels to ≡ small) ⊎ (class_of labels to ≡ big)
  to_label = elim sides [
    | inl q ↦ inr (sym q.1)
    | inr q ↦ inl (sym q.0)
  ]

  from_label : (class_of labels from ≡ small) ⊎ (class_of labels from ≡ big)
  from_label = elim sides [
    | inl q ↦ inl (sym q.0)
    | inr q ↦ inr (sym q.1)
  ]

  -- both labels stand for one of the two nodes, which goes to `to`
  moved_to : (l : ℕ) → (l ≡ small) ⊎ (l ≡ big) → moved from to (class_of heads l) ≡ to
  moved_to l either = elim (moved_cases from to (class_of heads l)) [
    | inl q ↦ q.1
    | inr q ↦ q.1 ∙ elim (which l either) [
      | inl e ↦ absurd (q.0 (ap (class_of heads) e ∙ from_head))
      | inr e ↦ ap (class_of heads) e ∙ to_head
    ]
  ]
    where
      which : (l : ℕ) → (l ≡ small) ⊎ (l ≡ big) → (l ≡ class_of labels from) ⊎ (l ≡ class_of labels to)
      which l (inl e) = elim sides [
        | inl q ↦ inl (e ∙ q.0)
        | inr q ↦ inr (e ∙ q.0)
      ]
      which l (inr e) = elim sides [
        | inl q ↦ inr (e ∙ q.1)
        | inr q ↦ inl (e ∙ q.1)
      ]

  module _ (new_labels new_heads : List ℕ) (new_members : List (List ℕ)) (count : length new_members ≡ length members) (labels_are : new_labels ≡ relabelled labels big (members_of members small)) (heads_are : new_heads ≡ set heads big to)
      (members_are : (l : ℕ) → members_of new_members l ≡ members_of (set (set members small []) big (members_of members big ++ members_of members small)) l) where
    same_length : length new_labels ≡ length labels
    same_length = ap length labels_are ∙ relabelled_length labels big (members_of members small)

    label : (i : ℕ) → i < length labels → ((class_of labels i ≡ small) × (class_of new_labels i ≡ big)) ⊎ ((class_of labels i ≢ small) × (class_of new_labels i ≡ class_of labels i))
    label i h = elim (relabelled_at labels big (members_of members small) i (λ m a. (p.all small m a).0)) [
      | inl q ↦ inl ((p.all small i q.0).1, ap (λ ls. class_of ls i) labels_are ∙ q.1)
      | inr q ↦ inr (λ e. q.0 (subst (λ l. Among i (members_of members l)) e (p.listed i h)), ap (λ ls. class_of ls i) labels_are ∙ q.1)
    ]

    head : (l : ℕ) → ((l ≡ big) × (class_of new_heads l ≡ to)) ⊎ ((l ≢ big) × (class_of new_heads l ≡ class_of heads l))
    head l = elim (set_at heads big l to 0 (let b = big_in in let e = p.head_count in omega arith)) [
      | inl q ↦ inl (q.0, ap (λ hs. class_of hs l) heads_are ∙ q.1)
      | inr q ↦ inr (q.0, ap (λ hs. class_of hs l) heads_are ∙ q.1)
    ]

    member : (l : ℕ) → ((l ≡ big) × (members_of new_members l ≡ members_of members big ++ members_of members small)) ⊎ ((l ≢ big) × (((l ≡ small) × (members_of new_members l ≡ [])) ⊎ ((l ≢ small) × (members_of new_members l ≡ members_of members l))))
    member l = elim (set_at (set members small []) big l (members_of members big ++ members_of members small) [] (let b = big_in in let e = p.member_count in let d = length-set members small [] in omega arith)) [
      | inl q ↦ inl (q.0, members_are l ∙ q.1)
      | inr q ↦ inr (
        q.0,
        elim (set_at members small l [] [] (let b = small_in in let e = p.member_count in omega arith)) [
          | inl r ↦ inl (r.0, members_are l ∙ q.1 ∙ r.1)
          | inr r ↦ inr (r.0, members_are l ∙ q.1 ∙ r.1)
        ],
      )
    ]

    -- the label `big` has the node `to`
    to_new : class_of new_labels to ≡ big
    to_new = elim (label to to_in) [
      | inl q ↦ q.1
      | inr q ↦ q.1 ∙ elim to_label [
        | inl e ↦ absurd (q.0 e)
        | inr e ↦ e
      ]
    ]

    -- a node's new label is that of the joined class, or another one that stays
    fate : (i : ℕ) → i < length labels → ((class_of new_labels i ≡ big) × ((class_of labels i ≡ small) ⊎ (class_of labels i ≡ big))) ⊎ ((class_of new_labels i ≡ class_of labels i) × (class_of labels i ≢ small) × (class_of labels i ≢ big))
    fate i h = elim (label i h) [
      | inl q ↦ inl (q.1, inl q.0)
      | inr q ↦ elim (cases (class_of labels i) big) [
        | inl e ↦ inl (q.1 ∙ e, inr e)
        | inr other ↦ inr (q.1, q.0, other)
      ]
    ]

    big_head : class_of new_heads big ≡ to
    big_head = elim (head big) [
      | inl q ↦ q.1
      | inr q ↦ absurd (q.0 refl)
    ]

    other_head : (l : ℕ) → l ≢ big → class_of new_heads l ≡ class_of heads l
    other_head l other = elim (head l) [
      | inl q ↦ absurd (other q.0)
      | inr q ↦ q.1
    ]

    -- the node that stands for a node's class
    new_head : (i : ℕ) → i < length labels → class_of new_heads (class_of new_labels i) ≡ moved from to (class_of heads (class_of labels i))
    new_head i h = elim (fate i h) [
      | inl q ↦ ap (class_of new_heads) q.0 ∙ big_head ∙ sym (moved_to (class_of labels i) q.1)
      | inr q ↦ ap (class_of new_heads) q.0 ∙ other_head (class_of labels i) q.2 ∙ elim (moved_cases from to (class_of heads (class_of labels i))) [
        | inl r ↦ absurd (elsewhere i h q.1 q.2 r.0)
        | inr r ↦ sym r.1
      ]
    ]
      where
        elsewhere : (i : ℕ) → i < length labels → class_of labels i ≢ small → class_of labels i ≢ big → class_of heads (class_of labels i) ≡ from → ⊥
        elsewhere i h no_small no_big e =
            let same : class_of labels i ≡ class_of labels from = sym (p.own i h) ∙ ap (class_of labels) e in
            elim from_label [
              | inl s ↦ no_small (same ∙ s)
              | inr b ↦ no_big (same ∙ b)
            ]

    pub joined_classes : map (class_of new_heads) new_labels ≡ map (moved from to) (map (class_of heads) labels)
    joined_classes =
        same_number_lists _ _ (length-map new_labels (class_of new_heads) ∙ same_length ∙ sym (length-map labels (class_of heads)) ∙ sym (length-map (map (class_of heads) labels) (moved from to))) (λ k h.
        let size = length-map new_labels (class_of new_heads) in
        let within : k < length labels = let e = same_length in omega arith in
        let within' : k < length (map (class_of heads) labels) = let e = length-map labels (class_of heads) in omega arith in
        head_is new_labels new_heads k (let e = same_length in omega arith) ∙ new_head k within ∙ sym (ap (moved from to) (head_is labels heads k within)) ∙ sym (get_or-map (moved from to) (map (class_of heads) labels) k 0 0 within'))

    pub joined_labels : AreLabels new_labels new_heads new_members
    joined_labels = record {
      head_count = ap length heads_are ∙ length-set heads big to ∙ p.head_count ∙ sym same_length;
      member_count = count ∙ p.member_count ∙ sym same_length;
      within = λ i h. elim (fate i (old i h)) [
        | inl q ↦ let e = q.0 in let b = big_in in let s = same_length in omega arith
        | inr q ↦ let e = q.0 in let b = p.within i (old i h) in let s = same_length in omega arith
      ];
      heads_within = λ i h. elim (fate i (old i h)) [
        | inl q ↦ let e = ap (class_of new_heads) q.0 ∙ big_head in let s = same_length in omega arith
        | inr q ↦ let e = ap (class_of new_heads) q.0 ∙ other_head (class_of labels i) q.2 in let b = p.heads_within i (old i h) in let s = same_length in omega arith
      ];
      own = λ i h. elim (fate i (old i h)) [
        | inl q ↦ ap (class_of new_labels) (ap (class_of new_heads) q.0 ∙ big_head) ∙ to_new ∙ sym q.0
        | inr q ↦ ap (class_of new_labels) (ap (class_of new_heads) q.0 ∙ other_head (class_of labels i) q.2) ∙ stays (class_of heads (class_of labels i)) (p.heads_within i (old i h)) (class_of labels i) (p.own i (old i h)) q.1 ∙ sym q.0
      ];
      listed = λ i h. elim (fate i (old i h)) [
        | inl q ↦ subst (λ l. Among i (members_of new_members l)) (sym q.0) (subst (Among i) (sym big_members) (both i (old i h) q.1))
        | inr q ↦ subst (λ l. Among i (members_of new_members l)) (sym q.0) (subst (Among i) (sym (other_members (class_of labels i) q.1 q.2)) (p.listed i (old i h)))
      ];
      all = λ l i a. elim (member l) [
        | inl q ↦ elim (among_either i (members_of members big) (members_of members small) (subst (Among i) q.1 a)) [
          | inl b ↦ joined_member i l q.0 (p.all big i b).0 (inr (p.all big i b).1)
          | inr b ↦ joined_member i l q.0 (p.all small i b).0 (inl (p.all small i b).1)
        ]
        | inr q ↦ elim q.1 [
          | inl r ↦ absurd (subst (Among i) r.1 a)
          | inr r ↦ other_member i l r.0 (p.all l i (subst (Among i) r.1 a))
        ]
      ];
    }
      where
        old : (i : ℕ) → i < length new_labels → i < length labels
        old i h = let s = same_length in omega arith

        stays : (j : ℕ) → j < length labels → (l : ℕ) → class_of labels j ≡ l → l ≢ small → class_of new_labels j ≡ l
        stays j h l e no_small = elim (label j h) [
          | inl q ↦ absurd (no_small (sym e ∙ q.0))
          | inr q ↦ q.1 ∙ e
        ]

        big_members : members_of new_members big ≡ members_of members big ++ members_of members small
        big_members = elim (member big) [
          | inl q ↦ q.1
          | inr q ↦ absurd (q.0 refl)
        ]

        other_members : (l : ℕ) → l ≢ small → l ≢ big → members_of new_members l ≡ members_of members l
        other_members l no_small no_big = elim (member l) [
          | inl q ↦ absurd (no_big q.0)
          | inr q ↦ elim q.1 [
            | inl r ↦ absurd (no_small r.0)
            | inr r ↦ r.1
          ]
        ]

        both : (i : ℕ) → i < length labels → (class_of labels i ≡ small) ⊎ (class_of labels i ≡ big) → Among i (members_of members big ++ members_of members small)
        both i h (inl e) = among_right i (members_of members big) (members_of members small) (subst (λ l. Among i (members_of members l)) e (p.listed i h))
        both i h (inr e) = among_left i (members_of members big) (members_of members small) (subst (λ l. Among i (members_of members l)) e (p.listed i h))

        joined_member : (i l : ℕ) → l ≡ big → i < length labels → (class_of labels i ≡ small) ⊎ (class_of labels i ≡ big) → (i < length new_labels) × (class_of new_labels i ≡ l)
        joined_member i l e h either = (
          let s = same_length in omega arith,
          elim (fate i h) [
            | inl q ↦ q.0 ∙ sym e
            | inr q ↦ elim either [
              | inl s ↦ absurd (q.1 s)
              | inr b ↦ absurd (q.2 b)
            ]
          ],
        )

        other_member : (i l : ℕ) → l ≢ small → (i < length labels) × (class_of labels i ≡ l) → (i < length new_labels) × (class_of new_labels i ≡ l)
        other_member i l no_small q = (let h = q.0 in let s = same_length in omega arith, stays i q.0 l q.1 no_small)
