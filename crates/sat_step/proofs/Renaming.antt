-- A refutation over other literals.
use Rattle.std.proofs.Common.{◌≡◌, ℕ, List, [], ◌∷◌, ◌++◌, map, Some, slice_get, Contains, sym, ap, ◌∙◌, subst, inl, inr}
use Rattle.std.specs.Option.{option_map}
use Rattle.std.proofs.lemmas.List.{map-append}
use Rattle.std.proofs.lemmas.Option.{slice_get-map}
use Rattle.std.proofs.lemmas.List.Elements.{Contains-push_cases}
use Rattle.clause_learning.specs.Refutations.{HasSame, IsResolvent, Resolves, IsDerived, Entry, IsLog, IsRefutation}
use Rattle.clause_learning.proofs.Members.{nothing_in, in_cons, head_in, tail_in, got_in}

module _ {X Y : Type 0} (f : X → Y) where
  pub in_map : (xs : List X) (y : Y) → Contains (map f xs) y → (x : X) × Contains xs x × (f x ≡ y)
  in_map [] y h = absurd (nothing_in y h)
  in_map (x ∷ xs) y h =
      elim (in_cons (f x) (map f xs) y h) [
        | inl e ↦ (x, head_in x xs, e)
        | inr rest ↦ let one = in_map xs y rest in (one.0, tail_in x xs one.0 one.1, one.2)
      ]

  pub map_in : (xs : List X) (x : X) → Contains xs x → Contains (map f xs) (f x)
  map_in [] x h = absurd (nothing_in x h)
  map_in (z ∷ xs) x h =
      elim (in_cons z xs x h) [
        | inl e ↦ subst (λ (w : X). Contains (f z ∷ map f xs) (f w)) e (head_in (f z) (map f xs))
        | inr rest ↦ tail_in (f z) (map f xs) (f x) (map_in xs x rest)
      ]

  -- the entry with its literals renamed
  abbrev pub renamed : Entry X → Entry Y
  renamed e = record { from = e.from; lits = map f e.lits }

module _ {X Y : Type 0} (f : X → Y) (opp : X → X) (opposite : Y → Y) (Known : X → Type 0) (turns : (x : X) → f (opp x) ≡ opposite (f x)) (once : (x y : X) → Known x → Known y → f x ≡ f y → x ≡ y) (stays : (x : X) → Known x → Known (opp x)) where
  -- each literal is known
  abbrev pub AllKnown : List X → Type 0
  AllKnown c = (x : X) → Contains c x → Known x

  same_renamed : (p r : List X) → HasSame p r → HasSame (map f p) (map f r)
  same_renamed p r h = λ y. (
    λ there. let one = in_map f r y there in subst (Contains (map f p)) one.2 (map_in f p one.0 ((h one.0).0 one.1)),
    λ there. let one = in_map f p y there in subst (Contains (map f r)) one.2 (map_in f r one.0 ((h one.0).1 one.1)),
  )

  same_known : (p r : List X) → HasSame p r → AllKnown p → AllKnown r
  same_known p r h k x there = k x ((h x).0 there)

  resolvent_known : (l : X) (p q r : List X) → IsResolvent opp l p q r → AllKnown p → AllKnown q → AllKnown r
  resolvent_known l p q r h kp kq x there = elim ((h.literals x).0 there) [ inl a ↦ kp x a.0 | inr b ↦ kq x b.0 ]

  resolvent_renamed : (l : X) (p q r : List X) → IsResolvent opp l p q r → AllKnown p → AllKnown q → IsResolvent opposite (f l) (map f p) (map f q) (map f r)
  resolvent_renamed l p q r h kp kq = record {
    first = map_in f p l h.first;
    second = subst (Contains (map f q)) (turns l) (map_in f q (opp l) h.second);
    alone = λ y there other.
        let one = in_map f p y there in
        let two = in_map f q (opposite y) other in
        let same : two.0 ≡ opp one.0 = once two.0 (opp one.0) (kq two.0 two.1) (stays one.0 (kp one.0 one.1)) (two.2 ∙ ap opposite (sym one.2) ∙ sym (turns one.0)) in
        sym one.2 ∙ ap f (h.alone one.0 one.1 (subst (Contains q) same two.1));
    literals = λ y. (
      λ there.
          let one = in_map f r y there in
          elim ((h.literals one.0).0 one.1) [
            | inl a ↦ inl (subst (Contains (map f p)) one.2 (map_in f p one.0 a.0), λ e. a.1 (once one.0 l (kp one.0 a.0) (kp l h.first) (one.2 ∙ e)))
            | inr b ↦ inr (subst (Contains (map f q)) one.2 (map_in f q one.0 b.0), λ e. b.1 (once one.0 (opp l) (kq one.0 b.0) (kq (opp l) h.second) (one.2 ∙ e ∙ sym (turns l))))
          ],
      λ either. elim either [
        | inl a ↦
            let one = in_map f p y a.0 in
            subst (Contains (map f r)) one.2 (map_in f r one.0 ((h.literals one.0).1 (inl (one.1, λ e. a.1 (sym one.2 ∙ ap f e)))))
        | inr b ↦
            let one = in_map f q y b.0 in
            subst (Contains (map f r)) one.2 (map_in f r one.0 ((h.literals one.0).1 (inr (one.1, λ e. b.1 (sym one.2 ∙ ap f e ∙ turns l)))))
      ],
    );
  }

  got_renamed : (clauses : List (List X)) (k : ℕ) (q : List X) → slice_get clauses k ≡ Some q → slice_get (map (map f) clauses) k ≡ Some (map f q)
  got_renamed clauses k q e = slice_get-map (map f) clauses k ∙ ap (option_map (map f)) e

  module _ (clauses : List (List X)) (known : (c : List X) → Contains clauses c → AllKnown c) where
    resolves_renamed : (p : List X) (from : List ℕ) (r : List X) → AllKnown p → Resolves opp clauses p from r → Resolves opposite (map (map f) clauses) (map f p) from (map f r) × AllKnown r
    resolves_renamed p [] r kp h = (same_renamed p r h, same_known p r h kp)
    resolves_renamed p (k ∷ from) r kp h =
        let kq = known h.1 (got_in clauses k h.1 h.3) in
        let rest = resolves_renamed h.2 from r (resolvent_known h.0 p h.1 h.2 h.4 kp kq) h.5 in
        ((f h.0, map f h.1, map f h.2, got_renamed clauses k h.1 h.3, resolvent_renamed h.0 p h.1 h.2 h.4 kp kq, rest.0), rest.1)

    derived_renamed : (from : List ℕ) (r : List X) → IsDerived opp clauses from r → IsDerived opposite (map (map f) clauses) from (map f r) × AllKnown r
    derived_renamed [] r h = absurd h
    derived_renamed (k ∷ from) r h =
        let rest = resolves_renamed h.0 from r (known h.0 (got_in clauses k h.0 h.1)) h.2 in
        ((map f h.0, got_renamed clauses k h.0 h.1, rest.0), rest.1)

  log_renamed : (clauses : List (List X)) → ((c : List X) → Contains clauses c → AllKnown c) → (log : List (Entry X)) → IsLog opp clauses log
      → IsLog opposite (map (map f) clauses) (map (renamed f) log) × ((e : Entry X) → Contains log e → AllKnown e.lits)
  log_renamed clauses known [] h = (tt, λ e there. absurd (nothing_in e there))
  log_renamed clauses known (d ∷ log) h =
      let first = derived_renamed clauses known d.from d.lits h.0 in
      let more : (c : List X) → Contains (clauses ++ d.lits ∷ []) c → AllKnown c = λ c on.
      elim (Contains-push_cases clauses d.lits c on) [ inl old ↦ known c old | inr same ↦ subst AllKnown same first.1 ] in
      let rest = log_renamed (clauses ++ d.lits ∷ []) more log h.1 in
      let L : List (List Y) → Type 0 = λ cs. IsLog opposite cs (map (renamed f) log) in (
        (first.0, subst L (map-append (map f) clauses (d.lits ∷ [])) rest.0),
        λ e there. elim (in_cons d log e there) [ inl same ↦ subst (λ (g : Entry X). AllKnown g.lits) same first.1 | inr on ↦ rest.1 e on ],
      )

  -- a refutation, with its literals renamed
  pub refutation_renamed : (clauses : List (List X)) → ((c : List X) → Contains clauses c → AllKnown c) → (log : List (Entry X)) → IsRefutation opp clauses log
      → IsRefutation opposite (map (map f) clauses) (map (renamed f) log)
  refutation_renamed clauses known log h = record {
    steps = (log_renamed clauses known log h.steps).0;
    before = map (renamed f) h.before;
    from = h.from;
    last = ap (map (renamed f)) h.last ∙ map-append (renamed f) h.before (record { from = h.from; lits = [] } ∷ []);
  }

  -- the literals of a log are known
  pub refutation_known : (clauses : List (List X)) → ((c : List X) → Contains clauses c → AllKnown c) → (log : List (Entry X)) → IsRefutation opp clauses log → (e : Entry X) → Contains log e → AllKnown e.lits
  refutation_known clauses known log h = (log_renamed clauses known log h.steps).1
