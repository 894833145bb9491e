-- Lemmas on what variables are bound to.
use Rattle.std.proofs.Common.{ℕ, ◌≡◌, ◌<◌, ◌≤◌, List, [], ◌∷◌, ◌++◌, length, map, replicate, get_or, IsTrue, ◌↔◌, Option, Some, None, refl, sym, ap, subst, ◌∙◌, zero, suc, inl, inr, arith, append_assoc, append-nil, Bool, true, false}
use Rattle.std.specs.Option.{option_map}
use Rattle.std.specs.Borrow.{Bor}
use Rattle.std.proofs.Math.ListN.{set, take, drop}
use Rattle.std.proofs.Math.Seq.{take-append_seam}
use Rattle.std.specs.List.{refill}
use Rattle.std.proofs.lemmas.List.{length-set, get_or-set_same, get_or-set_other, get_or-map, map-set, length-map}
use Rattle.std.proofs.lemmas.Bool.{cases_eq}
use Rattle.fof_terms.specs.declared.term.Term.{Term, Var}
use Rattle.fof_terms.specs.Vocabulary.{Vocabulary}
use Rattle.fof_terms.specs.Sorts.{sort_of_term}
use Rattle.subsumption.specs.declared.bindings.Bindings.{Bindings}
use Rattle.subsumption.specs.code.Bound.{images_of, trail_of, cleared, Agrees, AreOfSorts, IsOver, Adds, IsBack, IsUndone}
use Rattle.subsumption.specs.code.Matched.{IsMatched, KeepsSort}

-- what is set stands there, all else as before
pub set_past : {X : Type 0} (xs : List X) (i : ℕ) (x : X) → length xs ≤ i → set xs i x ≡ xs
set_past [] i x h = refl
set_past (y ∷ xs) zero x h = absurd (omega arith)
set_past (y ∷ xs) (suc i) x h = ap (λ ys. y ∷ ys) (set_past xs i x (omega arith))

pub set_back : (xs : List (Option Term)) (k : ℕ) (x : Option Term) → get_or xs k None ≡ None → set (set xs k x) k None ≡ xs
set_back [] k x e = refl
set_back (y ∷ xs) zero x e = ap (λ z. z ∷ xs) (sym e)
set_back (y ∷ xs) (suc k) x e = ap (λ ys. y ∷ ys) (set_back xs k x e)

pub cleared_append : (a b : List ℕ) (images : List (Option Term)) → cleared (a ++ b) images ≡ cleared a (cleared b images)
cleared_append [] b images = refl
cleared_append (k ∷ a) b images = ap (λ xs. set xs k None) (cleared_append a b images)

pub over_itself : (b : Bindings) → IsOver b b
over_itself b = record { added = []; trail = sym (append-nil (trail_of b)); images = refl; size = refl }

pub over_then : (a b c : Bindings) → IsOver a b → IsOver b c → IsOver a c
over_then a b c h g = record {
  added = h.added ++ g.added;
  trail = g.trail ∙ ap (λ xs. xs ++ g.added) h.trail ∙ append_assoc (trail_of a) h.added g.added;
  images = cleared_append h.added g.added (images_of c) ∙ ap (cleared h.added) g.images ∙ h.images;
  size = g.size ∙ h.size;
}

-- an image as it was read from a lent list
pub image_lent : (b : Bindings) (lent : List (Option (Bor Term))) (k : ℕ) (d o : Option (Bor Term)) → k < length (images_of b) → lent ≡ b.images.items → get_or lent k d ≡ o
    → get_or (images_of b) k None ≡ option_map (λ r. r.now) o
image_lent b lent k d o h same e =
    let within : k < length b.images.items = subst (λ n. k < n) (length-map b.images.items (option_map (λ r. r.now))) h in
    get_or-map (option_map (λ r. r.now)) b.images.items k d None within ∙ ap (option_map (λ r. r.now)) (ap (λ xs. get_or xs k d) (sym same) ∙ e)

refill_same : {X : Type 0} (xs ws : List X) → length ws ≡ length xs → refill (length xs) xs ws ≡ ws
refill_same xs ws e = ap (λ n. take n (ws ++ drop (length ws) xs)) (sym e) ∙ take-append_seam ws (drop (length ws) xs)

-- and as it was written to one
pub image_written : (items lent : List (Option (Bor Term))) (k : ℕ) (o : Option (Bor Term)) → lent ≡ items
    → map (option_map (λ r. r.now)) (refill (length items) items (set lent k o)) ≡ set (map (option_map (λ r. r.now)) items) k (option_map (λ r. r.now) o)
image_written items lent k o same =
    ap (λ xs. map (option_map (λ r. r.now)) (refill (length items) items (set xs k o))) same ∙ ap (map (option_map (λ r. r.now))) (refill_same items (set items k o) (length-set items k o))
    ∙ map-set (option_map (λ r. r.now)) items k o

-- a variable that was free is bound
pub over_one : (old new : Bindings) (k : ℕ) (t : Term) → get_or (images_of old) k None ≡ None → images_of new ≡ set (images_of old) k (Some t) → trail_of new ≡ trail_of old ++ k ∷ [] → IsOver old new
over_one old new k t free is trail = record {
  added = k ∷ [];
  trail = trail;
  images = ap (λ xs. set xs k None) is ∙ set_back (images_of old) k (Some t) free;
  size = ap length is ∙ length-set (images_of old) k (Some t);
}

agrees_before : (s : ℕ → Term) (xs : List (Option Term)) (k : ℕ) (t : Term) → get_or xs k None ≡ None → Agrees s (set xs k (Some t)) → Agrees s xs
agrees_before s xs k t free h = record {
  same = λ j u e. elim (cases_eq j k) [
    | inl is ↦ let there : get_or xs k None ≡ Some u = subst (λ i. get_or xs i None ≡ Some u) is e in cc
    | inr other ↦ h.same j u (get_or-set_other xs k j (Some t) None other ∙ e)
  ];
}

agrees_after : (s : ℕ → Term) (xs : List (Option Term)) (k : ℕ) (t : Term) → k < length xs → Agrees s xs → s k ≡ t → Agrees s (set xs k (Some t))
agrees_after s xs k t within h is = record {
  same = λ j u e. elim (cases_eq j k) [
    | inl there ↦
        let at : get_or (set xs k (Some t)) k None ≡ Some u = subst (λ i. get_or (set xs k (Some t)) i None ≡ Some u) there e in
        let now : Some t ≡ Some u = sym (get_or-set_same xs k (Some t) None within) ∙ at in
        let same : t ≡ u = cc in
        ap s there ∙ is ∙ same
    | inr other ↦ h.same j u (sym (get_or-set_other xs k j (Some t) None other) ∙ e)
  ];
}

pub adds_one : (old new : Bindings) (k : ℕ) (t : Term) → k < length (images_of old) → get_or (images_of old) k None ≡ None → images_of new ≡ set (images_of old) k (Some t) → Adds old new (λ s. s k ≡ t)
adds_one old new k t within free is = record {
  forth = λ s h.
      let g : Agrees s (set (images_of old) k (Some t)) = subst (Agrees s) is h in
      (agrees_before s (images_of old) k t free g, g.same k t (get_or-set_same (images_of old) k (Some t) None within));
  back = λ s h e. subst (Agrees s) (sym is) (agrees_after s (images_of old) k t within h e);
}

-- a variable that is bound already
pub adds_none : (b : Bindings) (P : (ℕ → Term) → Type 0) → ((s : ℕ → Term) → Agrees s (images_of b) → P s) → Adds b b P
adds_none b P h = record { forth = λ s g. (g, h s g); back = λ s g e. g }

pub bound_sorted : (v : Vocabulary) (scope target : List ℕ) (xs : List (Option Term)) (k : ℕ) (t : Term) (r : ℕ) → sort_of_term v scope (Var k) ≡ Some r → sort_of_term v target t ≡ Some r
    → k < length xs → AreOfSorts v scope target xs → AreOfSorts v scope target (set xs k (Some t))
bound_sorted v scope target xs k t r var term within h = record {
  sorted = λ j u e. elim (cases_eq j k) [
    | inl there ↦
        let at : get_or (set xs k (Some t)) k None ≡ Some u = subst (λ i. get_or (set xs k (Some t)) i None ≡ Some u) there e in
        let now : Some t ≡ Some u = sym (get_or-set_same xs k (Some t) None within) ∙ at in
        let same : t ≡ u = cc in
        (r, subst (λ i. sort_of_term v scope (Var i) ≡ Some r) (sym there) var, subst (λ x. sort_of_term v target x ≡ Some r) same term)
    | inr other ↦ h.sorted j u (sym (get_or-set_other xs k j (Some t) None other) ∙ e)
  ];
}

-- a list that is in two parts in two ways
pub same_parts : {X : Type 0} (a b c d : List X) → a ++ b ≡ c ++ d → length a ≡ length c → (a ≡ c) × (b ≡ d)
same_parts [] b [] d e n = (refl, e)
same_parts [] b (x ∷ c) d e n = absurd (omega arith)
same_parts (x ∷ a) b [] d e n = absurd (omega arith)
same_parts (x ∷ a) b (y ∷ c) d e n =
    let head : x ≡ y = cc in
    let tail : a ++ b ≡ c ++ d = cc in
    let rest = same_parts a b c d tail (omega arith) in
    (rw (head, rest.0) refl, rest.1)

-- what was bound since is let go
pub undone_back : (old mid new : Bindings) (count : ℕ) → count ≡ length (trail_of old) → IsOver old mid → IsUndone mid new count → IsBack old new
undone_back old mid new count is over undone =
    let parts = same_parts (trail_of new) undone.gone (trail_of old) over.added (sym undone.trail ∙ over.trail) (undone.size ∙ is) in
    record {
      images = undone.images ∙ ap (λ xs. cleared xs (images_of mid)) parts.1 ∙ over.images;
      trail = parts.0;
    }

-- a variable that is bound already has that image or not
pub bound_already : (b : Bindings) (k : ℕ) (t u : Term) (same : Bool) → get_or (images_of b) k None ≡ Some t → (IsTrue same ↔ (t ≡ u)) → IsMatched b b (λ s. s k ≡ u) same
bound_already b k t u true there is = adds_none b (λ s. s k ≡ u) (λ s h. h.same k t there ∙ is.0 refl)
bound_already b k t u false there is = λ s h e. let yes : IsTrue false = is.1 (sym (h.same k t there) ∙ e) in cc

-- where nothing is bound
map_none : (n : ℕ) → map (option_map (λ (r : Bor Term). r.now)) (replicate n None) ≡ replicate n None
map_none zero = refl
map_none (suc n) = ap (λ xs. None ∷ xs) (map_none n)

pub none_bound : (items : List (Option (Bor Term))) (n : ℕ) → items ≡ replicate n None → map (option_map (λ r. r.now)) items ≡ replicate n None
none_bound items n e = ap (map (option_map (λ r. r.now))) e ∙ map_none n

-- the images keep their sorts
pub keeps_all : (b : Bindings) (k : ℕ) (t : Term) → KeepsSort b b (Var k) t
keeps_all b k t = λ v scope target r e d table. table

pub keeps_bound : (old new : Bindings) (k : ℕ) (t : Term) → k < length (images_of old) → images_of new ≡ set (images_of old) k (Some t) → KeepsSort old new (Var k) t
keeps_bound old new k t within is = λ v scope target r e d table. subst (AreOfSorts v scope target) (sym is) (bound_sorted v scope target (images_of old) k t r e d within table)
