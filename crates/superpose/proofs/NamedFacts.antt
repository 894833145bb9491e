-- New numbers of variables.
use Rattle.std.specs.Prelude.{ℕ, ◌+◌, ◌<◌, ◌≡◌, List, [], ◌∷◌, ◌++◌, length, get_or, Some, slice_get, refl}
use Rattle.std.specs.List.{All as Each, Contains}
use Rattle.std.proofs.Common.{ap, sym, subst, ◌∙◌, arith, zero, suc, append_assoc, append-nil, below_more}
use Rattle.std.proofs.lemmas.List.{length-append}
use Rattle.std.proofs.lemmas.List.Elements.{All-append, All-cons, All-nil, Contains-append_left}
use Rattle.fof_terms.specs.declared.term.Term.{Term, Var}
use Rattle.unify_terms.specs.Substitution.{image_at}
use Rattle.superpose.specs.code.Named.{HasSortAt, HasName, IsGrown, IsNameOf, IsNamedBy, AreNamed, IsMissing}

pub get_in_front : (xs more : List ℕ) (i x : ℕ) → slice_get xs i ≡ Some x → slice_get (xs ++ more) i ≡ Some x
get_in_front [] more i x e = cc
get_in_front (y ∷ xs) more zero x e = e
get_in_front (y ∷ xs) more (suc i) x e = get_in_front xs more i x e

pub get_pushed : (xs : List ℕ) (i x : ℕ) → i ≡ length xs → slice_get (xs ++ x ∷ []) i ≡ Some x
get_pushed [] zero x e = refl
get_pushed [] (suc i) x e = absurd (omega arith)
get_pushed (y ∷ xs) zero x e = absurd (omega arith)
get_pushed (y ∷ xs) (suc i) x e = get_pushed xs i x (omega arith)

module _ (scope : List ℕ) where
  pub grown_same : (kept : List ℕ) → Each (λ k. k < length scope) kept → IsGrown scope kept kept
  grown_same kept h = record { more = []; is = sym (append-nil kept); within = h }

  pub grown_then : (old mid new : List ℕ) → IsGrown scope old mid → IsGrown scope mid new → IsGrown scope old new
  grown_then old mid new h g = record { more = h.more ++ g.more; is = g.is ∙ ap (λ xs. xs ++ g.more) h.is ∙ append_assoc old h.more g.more; within = g.within }

  grown_one : (old new : List ℕ) (k : ℕ) → k < length scope → Each (λ j. j < length scope) old → new ≡ old ++ k ∷ [] → IsGrown scope old new
  grown_one old new k h all is = record {
    more = k ∷ [];
    is = is;
    within = subst (Each (λ j. j < length scope)) (sym is) (All-append (λ j. j < length scope) old (k ∷ []) all (All-cons (λ j. j < length scope) k [] h (All-nil (λ j. j < length scope))));
  }

  pub name_grows : (first old new : List ℕ) (k name : ℕ) → IsGrown scope old new → HasName scope first old k name → HasName scope first new k name
  name_grows first old new k name g h = record {
    means = h.means;
    there = subst (λ xs. slice_get xs name ≡ Some h.means) (sym g.is) (get_in_front old g.more name h.means h.there);
    like = h.like;
    own = h.own;
  }

  -- the variable stands in the list
  pub named_here : (kept : List ℕ) (k place name : ℕ) → Each (λ j. j < length scope) kept → slice_get kept place ≡ Some k → name ≡ place → IsNameOf scope kept kept k name
  named_here kept k place name all at is = record {
    grown = grown_same kept all;
    has_name = record { means = k; there = ap (slice_get kept) is ∙ at; like = refl; own = λ h. refl };
  }

  -- one of its sort does
  pub named_like : (kept : List ℕ) (k place name : ℕ) (sort : ℕ) → Each (λ j. j < length scope) kept → IsMissing kept k → slice_get scope k ≡ Some sort → HasSortAt scope kept sort place → name ≡ place → IsNameOf scope kept kept k name
  named_like kept k place name sort all missing is at same = record {
    grown = grown_same kept all;
    has_name = record { means = at.variable; there = ap (slice_get kept) same ∙ at.there; like = at.has_sort ∙ sym is; own = λ h. absurd (missing h) };
  }

  -- it is added
  pub named_new : (old new : List ℕ) (k name size : ℕ) → k < length scope → Each (λ j. j < length scope) old → new ≡ old ++ k ∷ [] → size ≡ length old → name ≡ size → IsNameOf scope old new k name
  named_new old new k name size h all is e same = record {
    grown = grown_one old new k h all is;
    has_name = record { means = k; there = ap (λ xs. slice_get xs name) is ∙ get_pushed old name k (same ∙ e); like = refl; own = λ g. refl };
  }

  pub first_named : (kept : List ℕ) → Each (λ k. k < length scope) kept → AreNamed scope kept kept 0 []
  first_named kept all = record { grown = grown_same kept all; size = refl; named = λ k h. absurd (omega (arith, h)) }

  image_pushed : (images : List Term) (t : Term) (k : ℕ) → k ≡ length images → image_at (images ++ t ∷ []) k ≡ t
  image_pushed images t k e = at_end images k (Var k) e where
    at_end : (xs : List Term) (k : ℕ) (d : Term) → k ≡ length xs → get_or (xs ++ t ∷ []) k d ≡ t
    at_end [] zero d h = refl
    at_end [] (suc k) d h = absurd (omega arith)
    at_end (x ∷ xs) zero d h = absurd (omega arith)
    at_end (x ∷ xs) (suc k) d h = at_end xs k d (omega arith)

  image_before : (images : List Term) (t : Term) (k : ℕ) → k < length images → image_at (images ++ t ∷ []) k ≡ image_at images k
  image_before images t k h = in_front images k (Var k) h where
    in_front : (xs : List Term) (k : ℕ) (d : Term) → k < length xs → get_or (xs ++ t ∷ []) k d ≡ get_or xs k d
    in_front [] k d h = absurd (omega arith)
    in_front (x ∷ xs) zero d h = refl
    in_front (x ∷ xs) (suc k) d h = in_front xs k d (omega arith)

  -- one variable more
  pub named_more : (first old new : List ℕ) (n : ℕ) (images images' : List Term) (name : ℕ) → AreNamed scope first old n images → IsNameOf scope old new n name → images' ≡ images ++ Var name ∷ [] → AreNamed scope first new (n + 1) images'
  named_more first old new n images images' name h g is = record {
    grown = grown_then first old new h.grown g.grown;
    size = ap length is ∙ length-append images (Var name ∷ []) ∙ ap (λ m. m + 1) h.size;
    named = below_more _ n before here;
  } where
    before : (k : ℕ) → k < n → IsNamedBy scope first new k (image_at images' k)
    before k lt =
        let p = h.named k lt in
        let within : k < length images = subst (λ m. k < m) (sym h.size) lt in
        record { name = p.name; is = ap (λ xs. image_at xs k) is ∙ image_before images (Var name) k within ∙ p.is; has_name = name_grows first old new k p.name g.grown p.has_name }

    own_name : Contains first n → g.has_name.means ≡ n
    own_name has = g.has_name.own (subst (λ xs. Contains xs n) (sym h.grown.is) (Contains-append_left first h.grown.more n has))

    here : IsNamedBy scope first new n (image_at images' n)
    here = record {
      name = name;
      is = ap (λ xs. image_at xs n) is ∙ image_pushed images (Var name) n (sym h.size);
      has_name = record { means = g.has_name.means; there = g.has_name.there; like = g.has_name.like; own = own_name };
    }
