-- What is pulled out of members, as far as a loop has come.
use Rattle.std.specs.Prelude.{ℕ, zero, suc, true, ◌≡◌, ◌+◌, ◌-◌, ◌<◌, ◌≤◌, ◌^◌, List, [], ◌∷◌, ◌++◌, length, map, take, drop, get_or, Some, slice_get, refl}
use Rattle.std.specs.List.{AllByRecursion}
use Rattle.std.proofs.Common.{ap, sym, subst, ◌∙◌, arith, length-append, append_assoc}
use Rattle.std.proofs.lemmas.List.{drop_more, drop_all, append-nil, map-append, length-map}
use Rattle.fof_terms.specs.declared.form.Form.{Form}
use Rattle.fof_terms.specs.Lift.{lifted, lift_reach, greatest}
use Rattle.fof_terms.specs.Sorts.{SortedTo, is_sorted, binder_depth}
use Rattle.fof_terms.proofs.Scoped.{member_of}
use Rattle.clause_form.specs.ClauseView.{closed_by}
use Rattle.clause_form.specs.Reached.{around}
use Rattle.clause_form.proofs.ReachedFacts.{around_length, fits_moved}
use Rattle.flat_form.specs.declared.pulling.Pulled.{Pulled as Made}
use Rattle.flat_form.specs.Flat.{Pulled, sorts_of, bodies_of}
use Rattle.flat_form.proofs.Lists.{take_next, take_end}
use Rattle.flat_form.proofs.Places.{down, length-down}
use Rattle.flat_form.proofs.Reach.{far_reach}
use Rattle.norm_proofs.proofs.Places.{at_index}
use Rattle.flat_proofs.specs.code.Gathering.{AreClosed}
use Rattle.flat_proofs.specs.code.Loose.{loose, closed_of}
use Rattle.flat_proofs.specs.code.Members.{seen, bare, HaveRoom}
use Rattle.flat_proofs.proofs.GatherFacts.{listed_map}
use Rattle.flat_proofs.proofs.Opened.{nothing, opened, depth_lifted}

-- one item more of a list that a loop makes
pub onward : {X : Type 0} (made rest whole : List X) (x : X) → made ++ (x ∷ rest) ≡ whole → (made ++ x ∷ []) ++ rest ≡ whole
onward made rest whole x e = append_assoc made (x ∷ []) rest ∙ e

pub carried : {X : Type 0} (more old rest whole : List X) → more ≡ old → old ++ rest ≡ whole → more ++ rest ≡ whole
carried more old rest whole e h = ap (λ xs. xs ++ rest) e ∙ h

-- no item is left
pub finished : {X Y : Type 0} (f : List X → List Y) (made whole : List Y) (xs : List X) (i : ℕ) → length xs ≤ i → f [] ≡ [] → made ++ f (drop i xs) ≡ whole → made ≡ whole
finished f made whole xs i le none e = sym (append-nil made) ∙ (ap (λ ys. made ++ ys) (sym none ∙ ap f (sym (drop_all i xs le))) ∙ e)

own_within : (ps : List Pulled) (k : ℕ) (p : Pulled) → slice_get ps k ≡ Some p → length p.sorts ≤ length (sorts_of ps)
own_within [] k p e = cc
own_within (q ∷ ps) zero p e =
    let same : q ≡ p = cc in
    let count = length-append q.sorts (sorts_of ps) in
    let le : length q.sorts ≤ length (q.sorts ++ sorts_of ps) = omega arith in
    subst (λ (r : Pulled). length r.sorts ≤ length (q.sorts ++ sorts_of ps)) same le
own_within (q ∷ ps) (suc k) p e = let count = length-append q.sorts (sorts_of ps) in omega (arith, own_within ps k p e)

-- those from one on have no more sorts than all
pub left_within : (ms : List Made) (k : ℕ) → length (sorts_of (map seen (drop k ms))) ≤ length (sorts_of (map seen ms))
left_within ms zero = omega arith
left_within [] (suc k) = omega arith
left_within (m ∷ ms) (suc k) = let count = length-append m.sorts (sorts_of (map seen ms)) in omega (arith, left_within ms k)

-- a member, as code meets it
module _ (ms : List Made) (i : ℕ) (m : Made) (lt : i < length ms) (is : m ≡ get_or ms i m) where
  pub left_next : map seen (drop i ms) ≡ seen m ∷ map seen (drop (i + 1) ms)
  left_next = ap (map seen) (drop_more ms i m lt ∙ ap (λ x. x ∷ drop (i + 1) ms) (sym is))

  pub seen_at : slice_get (map seen ms) i ≡ Some (seen m)
  seen_at = listed_map seen ms i m (at_index ms i m lt is)

  pub left_count : length (sorts_of (map seen (drop i ms))) ≡ length m.sorts + length (sorts_of (map seen (drop (i + 1) ms)))
  left_count = ap (λ ps. length (sorts_of ps)) left_next ∙ length-append m.sorts (sorts_of (map seen (drop (i + 1) ms)))

  pub own_count : length m.sorts ≤ length (sorts_of (map seen ms))
  own_count = own_within (map seen ms) i (seen m) seen_at

  module _ (r : HaveRoom (map seen ms)) where
    own_closed : SortedTo r.depth r.vocabulary r.scope (closed_by m.sorts m.body)
    own_closed = member_of (λ p. SortedTo r.depth r.vocabulary r.scope (closed_of p)) (map seen ms) i (seen m) r.closed seen_at

    pub own_few : length m.sorts ≤ 100000
    own_few = omega (arith, own_count, r.few)

    pub closed_reach : (by : ℕ) → by ≤ 100000 → lift_reach by 0 (closed_by m.sorts m.body) < 2 ^ 32
    closed_reach by le = omega (arith, far_reach r.vocabulary by (closed_by m.sorts m.body) r.scope 0 (omega arith) own_closed.fits, own_closed.few_binders, r.room)

    own_body : SortedTo r.depth r.vocabulary (around m.sorts r.scope) m.body
    own_body = opened r.vocabulary r.depth m.sorts r.scope m.body (omega (arith, own_count, r.room)) own_closed

    pub body_reach : (f : ℕ) → f ≤ 100000 → lift_reach f (length m.sorts) m.body < 2 ^ 32
    body_reach f le =
        let count = around_length m.sorts r.scope in
        omega (arith, far_reach r.vocabulary f m.body (around m.sorts r.scope) (length m.sorts) (omega arith) own_body.fits, own_body.few_binders, own_count, r.room)

    pub body_depth : binder_depth m.body ≤ r.depth
    body_depth = own_body.few_binders

    pub twice_reach : (f by : ℕ) → f ≤ 100000 → by ≤ 100000 → lift_reach by 0 (lifted f (length m.sorts) m.body) < 2 ^ 32
    twice_reach f by le few =
        let earlier = down f in
        let n = length m.sorts in
        let scope = around m.sorts (around earlier r.scope) in
        let a = lifted f n m.body in
        let len : length earlier ≡ f = length-down f in
        let fits : is_sorted r.vocabulary scope (lifted (length earlier) n m.body) ≡ true =
        ap (is_sorted r.vocabulary scope) (sym (nothing 0 (lifted (length earlier) n m.body))) ∙ (fits_moved r.vocabulary [] m.sorts earlier r.scope m.body ∙ own_body.fits) in
        let fits' : is_sorted r.vocabulary scope a ≡ true = subst (λ k. is_sorted r.vocabulary scope (lifted k n m.body) ≡ true) len fits in
        let one = around_length m.sorts (around earlier r.scope) in
        let two = around_length earlier r.scope in
        let depth = depth_lifted r.vocabulary r.depth f n m.body in
        omega (arith, far_reach r.vocabulary by a scope 0 (omega arith) fits', own_body.few_binders, own_count, r.room)

-- the closed formulas of all
pub closed_here : (ms : List Made) (i : ℕ) (m : Made) (c : Form) (cs : List Form) → i < length ms → m ≡ get_or ms i m → cs ≡ map closed_of (map seen ms) → c ≡ get_or cs i c → c ≡ closed_of (seen m)
closed_here [] i m c cs lt is all at = absurd (omega arith)
closed_here (x ∷ ms) zero m c cs lt is all at =
    let here : c ≡ closed_of (seen x) = at ∙ ap (λ (ys : List Form). get_or ys 0 c) all in
    here ∙ ap (λ y. closed_of (seen y)) (sym is)
closed_here (x ∷ ms) (suc i) m c cs lt is all at = closed_here ms i m c (map closed_of (map seen ms)) (omega arith) is refl (at ∙ ap (λ (ys : List Form). get_or ys (suc i) c) all)

pub closed_more : (ms : List Made) (i : ℕ) (m : Made) (made more : List Form) (c : Form) → i < length ms → m ≡ get_or ms i m → more ≡ made ++ c ∷ [] → c ≡ closed_of (seen m) → made ≡ map closed_of (map seen (take i ms))
    → more ≡ map closed_of (map seen (take (i + 1) ms))
closed_more ms i m made more c lt is em ec e =
    let next : take (i + 1) ms ≡ take i ms ++ m ∷ [] = take_next ms i m lt ∙ ap (λ (x : Made). take i ms ++ x ∷ []) (sym is) in
    let after : map closed_of (map seen (take (i + 1) ms)) ≡ map closed_of (map seen (take i ms)) ++ closed_of (seen m) ∷ [] =
    ap (λ (xs : List Made). map closed_of (map seen xs)) next ∙ (ap (map closed_of) (map-append seen (take i ms) (m ∷ [])) ∙ map-append closed_of (map seen (take i ms)) (seen m ∷ [])) in
    em ∙ (ap (λ (cs : List Form). cs ++ c ∷ []) e ∙ (ap (λ (b : Form). map closed_of (map seen (take i ms)) ++ b ∷ []) ec ∙ sym after))

pub closed_end : (ms : List Made) (i : ℕ) (made : List Form) → length ms ≤ i → made ≡ map closed_of (map seen (take i ms)) → made ≡ map closed_of (map seen ms)
closed_end ms i made le e = e ∙ ap (λ (xs : List Made). map closed_of (map seen xs)) (take_end ms i le)

-- each of these may be lifted
each_lifts : (by : ℕ) (ps : List Pulled) (r : HaveRoom ps) → by ≤ 100000 → (qs : List Pulled) → AreClosed r.vocabulary r.depth r.scope qs → greatest (map (lift_reach by 0) (map closed_of qs)) < 2 ^ 32
each_lifts by ps r le [] all = omega arith
each_lifts by ps r le (q ∷ qs) all = omega (arith, far_reach r.vocabulary by (closed_of q) r.scope 0 (omega arith) all.0.fits, all.0.few_binders, r.room, each_lifts by ps r le qs all.1)

pub closed_lift : (by : ℕ) (ps : List Pulled) (cs : List Form) → HaveRoom ps → cs ≡ map closed_of ps → by ≤ 100000 → greatest (map (lift_reach by 0) cs) < 2 ^ 32
closed_lift by ps cs r is le = rw is (each_lifts by ps r le ps r.closed)

-- members and what is pulled out of the formulas
pub sorts_bare : (ps : List Pulled) → sorts_of (map bare ps) ≡ sorts_of ps
sorts_bare [] = refl
sorts_bare (p ∷ ps) = ap (λ ss. p.sorts ++ ss) (sorts_bare ps)

pub bodies_bare : (f : ℕ) (ps : List Pulled) → bodies_of f (map bare ps) ≡ bodies_of f ps
bodies_bare f [] = refl
bodies_bare f (p ∷ ps) = rw (sorts_bare ps, bodies_bare (f + length p.sorts) ps) refl

pub closed_bare : (ps : List Pulled) → map closed_of (map bare ps) ≡ map closed_of ps
closed_bare [] = refl
closed_bare (p ∷ ps) = ap (λ cs. closed_of p ∷ cs) (closed_bare ps)

pub closed_count : (ms : List Made) (cs : List Form) → cs ≡ map closed_of (map seen ms) → length cs ≡ length ms
closed_count ms cs e = ap length e ∙ (length-map (map seen ms) closed_of ∙ length-map ms seen)

pub seen_count : (ms : List Made) → length (map seen ms) ≡ length ms
seen_count ms = length-map ms seen

-- so many sorts of its own
pub len_here : (ms : List Made) (i n : ℕ) (m : Made) → m ≡ get_or ms i m → n ≡ length (get_or ms i m).sorts → n ≡ length m.sorts
len_here ms i n m is e = e ∙ ap (λ (x : Made). length x.sorts) (sym is)
