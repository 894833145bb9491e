-- Lists of made clauses that grow by what was found at places.
use Rattle.std.specs.Prelude.{ℕ, ◌+◌, ◌<◌, ◌≡◌, ◌⊎◌, List, [], ◌∷◌, ◌++◌, Option, Some, None}
use Rattle.std.specs.List.{Contains}
use Rattle.std.specs.Option.{option_to_list}
use Rattle.std.proofs.Common.{sym, subst, ◌∙◌, arith, inl, inr, append-nil}
use Rattle.std.proofs.lemmas.List.Elements.{Contains-push, Contains-push_cases, Contains-append_left}
use Rattle.fof_terms.specs.Vocabulary.{Vocabulary}
use Rattle.superpose.specs.declared.made.Made.{Made}
use Rattle.superpose.specs.Drafts.{Draft}
use Rattle.superpose.specs.Made.{IsMadeFrom, IsBestAt, IsSettledBy, Adds}

module _ (v : Vocabulary) (scope : List ℕ) where
  made_as : (P Q : Draft → Type 0) → ((f : Draft) → P f → Q f) → (m : Made) → IsMadeFrom v scope P m → IsMadeFrom v scope Q m
  made_as P Q h m p = record { draft = p.draft; is_draft = h p.draft p.is_draft; made = p.made; clause = p.clause; size = p.size; no_new = p.no_new }

  -- there is no such draft
  pub adds_none : (P : Draft → Type 0) (list : List Made) → ((f : Draft) → P f → ⊥) → Adds v scope P list list
  adds_none P list h = record { kept = λ m g. g; each = λ m g. inl g; whole = λ f p. absurd (h f p) }

  -- the best clause was added, if there is one
  pub adds_found : (P : Draft → Type 0) (old new : List Made) (found : Option Made) → IsBestAt v scope P found → new ≡ old ++ option_to_list found → Adds v scope P old new
  adds_found P old new None best is =
      let same : new ≡ old = is ∙ append-nil old in
      record {
        kept = λ m h. subst (λ (xs : List Made). Contains xs m) (sym same) h;
        each = λ m h. inl (subst (λ (xs : List Made). Contains xs m) same h);
        whole = λ f p e s made. absurd (best f e s p made);
      }
  adds_found P old new (Some m) best is = record {
    kept = λ x h. subst (λ (xs : List Made). Contains xs x) (sym is) (Contains-append_left old (m ∷ []) x h);
    each = λ x h. elim (Contains-push_cases old m x (subst (λ (xs : List Made). Contains xs x) is h)) [ inl a ↦ inl a | inr a ↦ inr (subst (IsMadeFrom v scope P) a best.0) ];
    whole = λ f p e s made. (m, subst (λ (xs : List Made). Contains xs m) (sym is) (Contains-push old m), best.1 f e s p made);
  }

  pub adds_as : (P Q : Draft → Type 0) (old new : List Made) → ((f : Draft) → P f → Q f) → ((f : Draft) → Q f → P f) → Adds v scope P old new → Adds v scope Q old new
  adds_as P Q old new forth back h = record {
    kept = h.kept;
    each = λ m g. elim (h.each m g) [ inl a ↦ inl a | inr a ↦ inr (made_as P Q forth m a) ];
    whole = λ f q. h.whole f (back f q);
  }

  still_settled : (f : Draft) (mid new : List Made) → ((m : Made) → Contains mid m → Contains new m) → IsSettledBy v scope f mid → IsSettledBy v scope f new
  still_settled f mid new more h e s made = let found = h e s made in (found.0, more found.0 found.1, found.2)

  -- the drafts of two sorts, one after the other
  pub adds_both : (P Q : Draft → Type 0) (old mid new : List Made) → Adds v scope P old mid → Adds v scope Q mid new → Adds v scope (λ f. P f ⊎ Q f) old new
  adds_both P Q old mid new h g = record {
    kept = λ m k. g.kept m (h.kept m k);
    each = λ m k. elim (g.each m k) [
      | inl a ↦ elim (h.each m a) [ inl b ↦ inl b | inr b ↦ inr (made_as P (λ f. P f ⊎ Q f) (λ f p. inl p) m b) ]
      | inr a ↦ inr (made_as Q (λ f. P f ⊎ Q f) (λ f q. inr q) m a)
    ];
    whole = λ f p. elim p [ inl a ↦ still_settled f mid new g.kept (h.whole f a) | inr a ↦ g.whole f a ];
  }

  -- one number more
  pub adds_next : (P : ℕ → Draft → Type 0) (n : ℕ) (old mid new : List Made) → Adds v scope (λ f. (i : ℕ) × (i < n) × P i f) old mid → Adds v scope (P n) mid new → Adds v scope (λ f. (i : ℕ) × (i < n + 1) × P i f) old new
  adds_next P n old mid new h g =
      adds_as (λ f. ((i : ℕ) × (i < n) × P i f) ⊎ P n f) (λ f. (i : ℕ) × (i < n + 1) × P i f) old new
      (λ f p. elim p [ inl a ↦ (a.0, (let lt = a.1 in omega arith), a.2) | inr a ↦ (n, omega arith, a) ])
      (λ f p. elim (split p.0 p.1) [ inl lt ↦ inl (p.0, lt, p.2) | inr same ↦ inr (subst (λ i. P i f) same p.2) ])
      (adds_both (λ f. (i : ℕ) × (i < n) × P i f) (P n) old mid new h g) where
        split : (i : ℕ) → i < n + 1 → (i < n) ⊎ (i ≡ n)
        split i lt = grind arith

  pub adds_start : (P : ℕ → Draft → Type 0) (list : List Made) → Adds v scope (λ f. (i : ℕ) × (i < 0) × P i f) list list
  adds_start P list = adds_none (λ f. (i : ℕ) × (i < 0) × P i f) list (λ f p. let lt = p.1 in absurd (omega arith))
