-- The steps of a search, and what it may end with.
use Rattle.std.specs.Prelude.{ℕ, ◌<◌, ◌≤◌, List, [], ◌∷◌, ◌++◌, ◌≡◌, ◌⊎◌, map, length, take, Bool, true}
use Rattle.std.specs.List.{Contains, All as Each, AllByRecursion}
use Rattle.std.proofs.Common.{sym, subst, ◌∙◌, arith, inl, inr}
use Rattle.std.proofs.lemmas.List.Elements.{All-from_recursion, All-contains, All-weaker, All-push, All-nil, Contains-append_left, Contains-push, Contains-push_cases}
use Rattle.std.proofs.lemmas.List.{take-append-le, take_at}
use Rattle.fof_terms.specs.Vocabulary.{Vocabulary}
use Rattle.fof_terms.specs.Lift.{greatest}
use Rattle.clause_form.specs.declared.clause.Lit.{Lit}
use Rattle.clause_form.specs.declared.clause.Clause.{Clause}
use Rattle.clause_form.specs.Covers.{IsTrivial, IsInstance, scope_of, AreSorted}
use Rattle.clause_form.proofs.ClauseLaws.{trivial_image, empty_instance, instance_itself}
use Rattle.saturation.specs.declared.member.Member.{Member}
use Rattle.saturation.specs.declared.member.Origin.{Origin}
use Rattle.saturation.specs.declared.member.Origin.TheVariants.{Input, Inferred}
use Rattle.clause_order.specs.Weights.{clause_weight}
use Rattle.superpose.specs.Drafts.{IsClause}
use Rattle.superpose.specs.Inferences.{IsInference}
use Rattle.saturation.specs.Lists.{bound_of, IsOffered, IsCoveredIn, IsDone, IsLightest, IsLightestFirst, IsQuiet}
use Rattle.saturation.specs.Ends.{IsDry, IsFull, IsHeavy}
use Rattle.saturation.specs.Origins.{Makes}
use Rattle.saturation.specs.code.Search.{IsInstanceOfOne, IsMadeWith, IsFound, IsQueued, IsTooHeavy, IsSettled, IsUnderWay, IsTaken}
use Rattle.saturation.proofs.Lists.{no_member, each_of, got_pushed, got_member, got_append}
use Rattle.clause_order.proofs.WeightLaws.{instance_weighs as weight_of_instance}
use Rattle.subsumption.proofs.SubsumesFacts.{subsumes_instance, instance_subsumed as subsumes_its_instance}

-- what its origin makes is offered
pub made_offered : (v : Vocabulary) (inputs list : List Clause) (e : Clause) (o : Origin) → Makes v inputs list e o → IsOffered v inputs list e
made_offered v inputs list e (Input i) h = inl (got_member inputs i e h)
made_offered v inputs list e (Inferred a b images) (inl h) = inr (inl (h.first, h.second, _, got_member list a h.first h.first_at, got_member list b h.second h.second_at, h.infers))
made_offered v inputs list e (Inferred a b images) (inr h) = inr (inr (h.premise, _, got_member list a h.premise h.premise_at, h.infers))

pub made_more : (v : Vocabulary) (inputs list more : List Clause) (e : Clause) (o : Origin) → Makes v inputs list e o → Makes v inputs (list ++ more) e o
made_more v inputs list more e (Input i) h = h
made_more v inputs list more e (Inferred a b images) (inl h) = inl (record {
  first = h.first;
  second = h.second;
  first_at = got_append list more a h.first h.first_at;
  second_at = got_append list more b h.second h.second_at;
  each = h.each;
  infers = h.infers;
  no_new = h.no_new;
})
made_more v inputs list more e (Inferred a b images) (inr h) = inr (record {
  premise = h.premise;
  premise_at = got_append list more a h.premise h.premise_at;
  twice = h.twice;
  each = h.each;
  infers = h.infers;
  no_new = h.no_new;
})

pub found_offered : (v : Vocabulary) (whole : Bool) (inputs list : List Clause) (m : Member) → IsFound v whole inputs list m → IsOffered v inputs list m.clause
found_offered v whole inputs list m h = made_offered v inputs list m.clause m.origin h.made

-- more members offer and cover more
infers_more : (v : Vocabulary) (list more : List Clause) (e : Clause) → IsInference v list e → IsInference v (list ++ more) e
infers_more v list more e (inl h) = inl (h.0, h.1, h.2, Contains-append_left list more h.0 h.3, Contains-append_left list more h.1 h.4, h.5)
infers_more v list more e (inr h) = inr (h.0, h.1, Contains-append_left list more h.0 h.2, h.3)

done_more : (v : Vocabulary) (list more : List Clause) (e : Clause) → IsDone v list e → IsDone v (list ++ more) e
done_more v list more e (inl h) = inl h
done_more v list more e (inr h) = inr (h.0, Contains-append_left list more h.0 h.1, h.2)

found_more : (v : Vocabulary) (whole : Bool) (inputs list more : List Clause) (m : Member) → IsFound v whole inputs list m → IsFound v whole inputs (list ++ more) m
found_more v whole inputs list more m h = record { made = made_more v inputs list more m.clause m.origin h.made; clause = h.clause; alone = h.alone }

-- what is done is so for each instance
done_instance : (v : Vocabulary) (list : List Clause) (c e : Clause) → AreSorted v (scope_of c) c.lits → IsInstance v c e → IsDone v list c → IsDone v list e
done_instance v list c e sorted is (inl h) = inl (subst (λ (ls : List Lit). IsTrivial ls) (sym is.1.same) (trivial_image is.0 c.lits h))
done_instance v list c e sorted is (inr h) = inr (h.0, h.1, subsumes_instance v h.0 c e sorted is h.2)

not_empty_instance : (v : Vocabulary) (c e : Clause) → IsInstance v c e → (c.lits ≡ [] → ⊥) → e.lits ≡ [] → ⊥
not_empty_instance v c e is full empty = full (empty_instance is.0 c.lits (sym is.1.same ∙ empty))

-- a queue with further clauses knows more
settled_more : (v : Vocabulary) (list : List Clause) (queue heavy queue' heavy' : List Member) (e : Clause) → ((m : Member) → Contains queue m → Contains queue' m)
    → ((m : Member) → Contains heavy m → Contains heavy' m) → IsSettled v list queue heavy e → IsSettled v list queue' heavy' e
settled_more v list queue heavy queue' heavy' e more over h = record {
  not_empty = h.not_empty;
  known = elim h.known [
    | inl d ↦ inl d
    | inr w ↦ inr (elim w [
      | inl q ↦ inl (q.0, more q.0 q.1, q.2)
      | inr q ↦ inr (q.0, over q.0 q.1, q.2)
    ])
  ];
}

-- the search begins with the inputs to be looked at
pub under_way_at_start : (v : Vocabulary) (whole : Bool) (inputs : List Clause) (todo : List Member) → Each (IsFound v whole inputs []) todo
    → ((e : Clause) → Contains inputs e → (m : Member) × Contains todo m × (m.clause ≡ e)) → IsUnderWay v whole inputs [] todo [] []
under_way_at_start v whole inputs todo found all = record {
  members = All-nil (IsClause v);
  todo_found = found;
  queued = All-nil (IsQueued v whole inputs []);
  too_heavy = All-nil (IsTooHeavy v whole inputs []);
  lightest = λ is i m e. cc;
  settled = λ is e offered. elim offered [
    | inl h ↦ let m = all e h in inr (m.0, m.1, subst (λ y. IsInstance v m.0.clause y) m.2 (instance_itself v m.0.clause))
    | inr h ↦ elim h [ inl g ↦ absurd (no_member g.0 g.3) | inr g ↦ absurd (no_member g.0 g.2) ]
  ];
}

-- one of those that are to be looked at goes where it belongs
module _ (v : Vocabulary) (whole : Bool) (inputs list : List Clause) (todo queue heavy : List Member) (x : Member) (h : IsUnderWay v whole inputs list (todo ++ x ∷ []) queue heavy) where
  pub found_last : IsFound v whole inputs list x
  found_last = All-contains (IsFound v whole inputs list) (todo ++ x ∷ []) x h.todo_found (Contains-push todo x)

  todo_left : Each (IsFound v whole inputs list) todo
  todo_left = each_of (IsFound v whole inputs list) todo (λ y c. All-contains (IsFound v whole inputs list) (todo ++ x ∷ []) y h.todo_found (Contains-append_left todo (x ∷ []) y c))

  -- what was known stays known, and instances of x are settled by what x is
  settled_after : (queue' heavy' : List Member) → ((m : Member) → Contains queue m → Contains queue' m) → ((m : Member) → Contains heavy m → Contains heavy' m)
      → ((e : Clause) → IsInstance v x.clause e → IsSettled v list queue' heavy' e)
      → whole ≡ true → (e : Clause) → IsOffered v inputs list e → IsSettled v list queue' heavy' e ⊎ IsInstanceOfOne v todo e
  settled_after queue' heavy' more over here is e offered =
      elim (h.settled is e offered) [
        | inl k ↦ inl (settled_more v list queue heavy queue' heavy' e more over k)
        | inr k ↦
            elim (Contains-push_cases todo x k.0 k.1) [
              | inl c ↦ inr (k.0, c, k.2)
              | inr same ↦ inl (here e (subst (λ (y : Member). IsInstance v y.clause e) (sym same) k.2))
            ]
      ]

  pub after_trivial : (x.clause.lits ≡ [] → ⊥) → IsTrivial x.clause.lits → IsUnderWay v whole inputs list todo queue heavy
  after_trivial full trivial = record {
    members = h.members;
    todo_found = todo_left;
    queued = h.queued;
    too_heavy = h.too_heavy;
    lightest = h.lightest;
    settled = settled_after queue heavy (λ m c. c) (λ m c. c) (λ e is. record {
      not_empty = not_empty_instance v x.clause e is full;
      known = inl (done_instance v list x.clause e found_last.clause.fit.sorted is (inl trivial));
    });
  }

  -- an equal clause waits
  pub after_known : (y : Member) → Contains queue y → y.clause ≡ x.clause → (x.clause.lits ≡ [] → ⊥) → IsUnderWay v whole inputs list todo queue heavy
  after_known y there same full = record {
    members = h.members;
    todo_found = todo_left;
    queued = h.queued;
    too_heavy = h.too_heavy;
    lightest = h.lightest;
    settled = settled_after queue heavy (λ m c. c) (λ m c. c)
        (λ e is. record { not_empty = not_empty_instance v x.clause e is full; known = inr (inl (y, there, subst (λ (c : Clause). IsInstance v c e) (sym same) is)) });
  }

  pub after_queued : (queue' : List Member) → ((m : Member) → Contains queue m → Contains queue' m) → Contains queue' x → ((m : Member) → Contains queue' m → Contains queue m ⊎ (m ≡ x))
      → (x.clause.lits ≡ [] → ⊥) → (IsTrivial x.clause.lits → ⊥) → clause_weight x.clause ≤ bound_of inputs → IsUnderWay v whole inputs list todo queue' heavy
  after_queued queue' more there others full open_ light = record {
    members = h.members;
    todo_found = todo_left;
    queued = each_of (IsQueued v whole inputs list) queue' (λ m c. elim (others m c) [
      | inl old ↦ All-contains (IsQueued v whole inputs list) queue m h.queued old
      | inr same ↦ subst (IsQueued v whole inputs list) (sym same) (record { found = found_last; light = light; not_trivial = open_ })
    ]);
    too_heavy = h.too_heavy;
    lightest = h.lightest;
    settled = settled_after queue' heavy more (λ m c. c) (λ e is. record { not_empty = not_empty_instance v x.clause e is full; known = inr (inl (x, there, is)) });
  }

  pub after_too_heavy : (x.clause.lits ≡ [] → ⊥) → (IsTrivial x.clause.lits → ⊥) → bound_of inputs < clause_weight x.clause → IsUnderWay v whole inputs list todo queue (heavy ++ x ∷ [])
  after_too_heavy full open_ over = record {
    members = h.members;
    todo_found = todo_left;
    queued = h.queued;
    too_heavy = All-push (IsTooHeavy v whole inputs list) heavy x h.too_heavy (record { found = found_last; heavy = over; not_trivial = open_ });
    lightest = h.lightest;
    settled = settled_after queue (heavy ++ x ∷ []) (λ m c. c) (λ m c. Contains-append_left heavy (x ∷ []) m c)
        (λ e is. record { not_empty = not_empty_instance v x.clause e is full; known = inr (inr (x, Contains-push heavy x, is)) });
  }

-- the lightest that waits is dropped where a member covers it, and else it becomes a member
module _ (v : Vocabulary) (whole : Bool) (inputs list : List Clause) (queue rest heavy : List Member) (x : Member) (h : IsUnderWay v whole inputs list [] queue heavy) (taken : IsTaken queue rest x) where
  pub waits : IsQueued v whole inputs list x
  waits = All-contains (IsQueued v whole inputs list) queue x h.queued taken.there

  others_wait : Each (IsQueued v whole inputs list) rest
  others_wait = each_of (IsQueued v whole inputs list) rest (λ y c. All-contains (IsQueued v whole inputs list) queue y h.queued (taken.no_new y c))

  settled_now : whole ≡ true → (e : Clause) → IsOffered v inputs list e → IsSettled v list queue heavy e
  settled_now is e offered = elim (h.settled is e offered) [ inl k ↦ k | inr k ↦ absurd (no_member k.0 k.1) ]

  pub after_covered : IsCoveredIn v list x.clause → IsUnderWay v whole inputs list [] rest heavy
  after_covered covered = record {
    members = h.members;
    todo_found = All-nil (IsFound v whole inputs list);
    queued = others_wait;
    too_heavy = h.too_heavy;
    lightest = h.lightest;
    settled = λ is e offered.
        let k = settled_now is e offered in
        inl (record {
          not_empty = k.not_empty;
          known = elim k.known [
            | inl d ↦ inl d
            | inr w ↦
                elim w [
                  | inl q ↦
                      elim (taken.others q.0 q.1) [
                        | inl same ↦ inl (done_instance v list x.clause e waits.found.clause.fit.sorted (subst (λ (y : Member). IsInstance v y.clause e) same q.2) (inr covered))
                        | inr c ↦ inr (inl (q.0, c, q.2))
                      ]
                  | inr q ↦ inr (inr q)
                ]
          ];
        });
  }

  is_lightest : whole ≡ true → (IsCoveredIn v list x.clause → ⊥) → IsLightest v inputs list x.clause
  is_lightest is uncovered = record {
    is_open = record {
      offered = found_offered v whole inputs list x waits.found;
      undone = λ d. elim d [ inl t ↦ waits.not_trivial t | inr c ↦ uncovered c ];
      light = waits.light;
    };
    least = λ e open_.
        let k = settled_now is e open_.offered in
        elim k.known [
          | inl d ↦ absurd (open_.undone d)
          | inr w ↦
              elim w [
                | inl q ↦ let a = taken.least q.0 q.1 in let b = weight_of_instance v q.0.clause e q.2 in omega arith
                | inr q ↦
                    let a = (All-contains (IsTooHeavy v whole inputs list) heavy q.0 h.too_heavy q.1).heavy in
                    let b = weight_of_instance v q.0.clause e q.2 in
                    let c = open_.light in
                    absurd (omega arith)
              ]
        ];
  }

  lightest_then : whole ≡ true → (IsCoveredIn v list x.clause → ⊥) → IsLightestFirst v inputs (list ++ x.clause ∷ [])
  lightest_then is uncovered i m e =
      elim (got_pushed list x.clause i m e) [
        | inl k ↦
            let within : i ≤ length list = let a = k.0 in omega arith in
            subst (λ (ls : List Clause). IsLightest v inputs ls m) (sym (take-append-le i list (x.clause ∷ []) within)) (h.lightest is i m k.1)
        | inr k ↦
            let all : take i (list ++ x.clause ∷ []) ≡ list = take_at list (x.clause ∷ []) i (sym k.0) in
            subst (λ (ls : List Clause). IsLightest v inputs ls m) (sym all) (subst (λ y. IsLightest v inputs list y) (sym k.1) (is_lightest is uncovered))
      ]

  settled_then : (e : Clause) → IsSettled v list queue heavy e → IsSettled v (list ++ x.clause ∷ []) rest heavy e
  settled_then e k = record {
    not_empty = k.not_empty;
    known = elim k.known [
      | inl d ↦ inl (done_more v list (x.clause ∷ []) e d)
      | inr w ↦
          elim w [
            | inl q ↦
                elim (taken.others q.0 q.1) [
                  | inl same ↦ inl (inr (x.clause, Contains-push list x.clause, subsumes_its_instance v x.clause e (subst (λ (y : Member). IsInstance v y.clause e) same q.2)))
                  | inr c ↦ inr (inl (q.0, c, q.2))
                ]
            | inr q ↦ inr (inr q)
          ]
    ];
  }

  pub after_member : (IsCoveredIn v list x.clause → ⊥) → (made : List Member) → IsMadeWith v whole list x.clause made → IsUnderWay v whole inputs (list ++ x.clause ∷ []) made rest heavy
  after_member uncovered made makes = record {
    members = All-push (IsClause v) list x.clause h.members waits.found.clause;
    todo_found = makes.each inputs;
    queued = All-weaker (IsQueued v whole inputs list) (IsQueued v whole inputs (list ++ x.clause ∷ []))
        (λ m q. record { found = found_more v whole inputs list (x.clause ∷ []) m q.found; light = q.light; not_trivial = q.not_trivial }) rest others_wait;
    too_heavy = All-weaker (IsTooHeavy v whole inputs list) (IsTooHeavy v whole inputs (list ++ x.clause ∷ []))
        (λ m q. record { found = found_more v whole inputs list (x.clause ∷ []) m q.found; heavy = q.heavy; not_trivial = q.not_trivial }) heavy h.too_heavy;
    lightest = λ is. lightest_then is uncovered;
    settled = λ is e offered. elim offered [
      | inl input ↦ inl (settled_then e (settled_now is e (inl input)))
      | inr infers ↦
          elim (makes.all is e infers) [
            | inl old ↦ inl (settled_then e (settled_now is e (inr old)))
            | inr new ↦ inr new
          ]
    ];
  }

  -- an uncovered clause that waits shows that the list isn't closed
  pub full_at : whole ≡ true → (IsCoveredIn v list x.clause → ⊥) → (limit : ℕ) → length list ≡ limit → IsFull v inputs limit list
  full_at is uncovered limit full = record {
    full = full;
    lightest = h.lightest is;
    quiet = λ e offered. (settled_now is e offered).not_empty;
    not_closed = λ closed. elim (closed x.clause (found_offered v whole inputs list x waits.found)) [ inl t ↦ waits.not_trivial t | inr c ↦ uncovered c ];
  }

-- an input isn't too heavy
each_below : (inputs : List Clause) (n : ℕ) → greatest (map clause_weight inputs) ≤ n → AllByRecursion (λ c. clause_weight c ≤ n) inputs
each_below [] n h = tt
each_below (c ∷ inputs) n h = (omega arith, each_below inputs n (omega arith))

below_greatest : (inputs : List Clause) (e : Clause) → Contains inputs e → clause_weight e ≤ greatest (map clause_weight inputs)
below_greatest inputs e h = All-contains (λ c. clause_weight c ≤ greatest (map clause_weight inputs)) inputs e (All-from_recursion (λ c. clause_weight c ≤ greatest (map clause_weight inputs)) inputs (each_below inputs (greatest (map clause_weight inputs)) (omega arith))) h

-- where nothing waits the search ends by what is too heavy
module _ (v : Vocabulary) (whole : Bool) (inputs list : List Clause) (heavy : List Member) (h : IsUnderWay v whole inputs list [] [] heavy) (is : whole ≡ true) where
  done_or_heavy : (e : Clause) → IsOffered v inputs list e → IsDone v list e ⊎ IsInstanceOfOne v heavy e
  done_or_heavy e offered =
      elim (h.settled is e offered) [
        | inl k ↦ elim k.known [ inl d ↦ inl d | inr w ↦ elim w [ inl q ↦ absurd (no_member q.0 q.1) | inr q ↦ inr q ] ]
        | inr k ↦ absurd (no_member k.0 k.1)
      ]

  quiet_now : IsQuiet v inputs list
  quiet_now e offered =
      elim (h.settled is e offered) [
        | inl k ↦ k.not_empty
        | inr k ↦ absurd (no_member k.0 k.1)
      ]

  pub dry_at : (limit : ℕ) → length list ≤ limit → Each (λ m. IsCoveredIn v list m.clause) heavy → IsDry v inputs limit list
  dry_at limit within covered = record {
    within = within;
    lightest = h.lightest is;
    quiet = quiet_now;
    closed = λ e offered. elim (done_or_heavy e offered) [
      | inl d ↦ d
      | inr q ↦ done_instance v list q.0.clause e (All-contains (IsTooHeavy v whole inputs list) heavy q.0 h.too_heavy q.1).found.clause.fit.sorted q.2
          (inr (All-contains (λ m. IsCoveredIn v list m.clause) heavy q.0 covered q.1))
    ];
  }

  module _ (x : Member) (there : Contains heavy x) (uncovered : IsCoveredIn v list x.clause → ⊥) where
    too_heavy_one : IsTooHeavy v whole inputs list x
    too_heavy_one = All-contains (IsTooHeavy v whole inputs list) heavy x h.too_heavy there

    undone_one : IsDone v list x.clause → ⊥
    undone_one d = elim d [ inl t ↦ too_heavy_one.not_trivial t | inr c ↦ uncovered c ]

    pub full_by_heavy : (limit : ℕ) → length list ≡ limit → IsFull v inputs limit list
    full_by_heavy limit full = record {
      full = full;
      lightest = h.lightest is;
      quiet = quiet_now;
      not_closed = λ closed. undone_one (closed x.clause (found_offered v whole inputs list x too_heavy_one.found));
    }

    inferred_one : IsInference v list x.clause
    inferred_one =
        elim (found_offered v whole inputs list x too_heavy_one.found) [
          | inl input ↦ let a = below_greatest inputs x.clause input in let b = too_heavy_one.heavy in absurd (omega arith)
          | inr infers ↦ infers
        ]

    pub heavy_at : (limit : ℕ) → length list < limit → IsHeavy v inputs limit list
    heavy_at limit within = record {
      within = within;
      lightest = h.lightest is;
      quiet = quiet_now;
      heavy = (x.clause, inferred_one, too_heavy_one.heavy, undone_one);
      others = λ e offered. elim (done_or_heavy e offered) [
        | inl d ↦ inl d
        | inr q ↦
            let a = (All-contains (IsTooHeavy v whole inputs list) heavy q.0 h.too_heavy q.1).heavy in
            let b = weight_of_instance v q.0.clause e q.2 in
            inr (omega arith)
      ];
    }

-- what was taken, and what is left, is of the same kind
pub taken_one : (P : Member → Type 0) (old new : List Member) (x : Member) → IsTaken old new x → Each P old → P x
taken_one P old new x taken all = All-contains P old x all taken.there

pub taken_rest : (P : Member → Type 0) (old new : List Member) (x : Member) → IsTaken old new x → Each P old → Each P new
taken_rest P old new x taken all = each_of P new (λ y c. All-contains P old y all (taken.no_new y c))
