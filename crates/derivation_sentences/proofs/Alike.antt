-- Vocabularies that differ in the names of their symbols alone sort the same formulas.
use Rattle.std.specs.Prelude.{ℕ, ◌≡◌, ◌&&◌, nat_lt, Bool, List, [], ◌∷◌, length, map, Option, Some, None, slice_get, refl, ⊤}
use Rattle.std.specs.List.{AllByRecursion, list_all}
use Rattle.std.proofs.Common.{ap, sym, ◌∙◌}
use Rattle.fof_terms.specs.declared.signature.Kind.{Kind}
use Rattle.fof_terms.specs.declared.signature.Symbol.{Symbol}
use Rattle.fof_terms.specs.declared.term.Term.{Term}
use Rattle.fof_terms.specs.declared.form.Form.{Form}
use Rattle.fof_terms.specs.Sorts.{applied, are_sorts, holds_of, is_sorted, made_by, one_sort, sort_of_term, stated_by}
use Rattle.fof_terms.specs.Vocabulary.{Vocabulary}
use Rattle.fof_terms.proofs.Induction.{form_induction, term_induction}
use Rattle.fof_terms.proofs.SortsFacts.{sort_of_term-Var, sort_of_term-App, is_sorted-Atom, is_sorted-Eq, is_sorted-Not, is_sorted-And, is_sorted-Or, is_sorted-Imp, is_sorted-Iff, is_sorted-All, is_sorted-Ex}

-- Both have the same kind and the same sorts.
pub record IsLike (s t : Symbol) : Type 0 where
  pub kind : s.kind ≡ t.kind
  pub args : s.args ≡ t.args
  pub result : s.result ≡ t.result

abbrev pub AreLike : Option Symbol → Option Symbol → Type 0
AreLike None None = ⊤
AreLike None (Some t) = ⊥
AreLike (Some s) None = ⊥
AreLike (Some s) (Some t) = IsLike s t

applied_like : (o p : Option Symbol) (found : List (Option ℕ)) → AreLike o p → applied o found ≡ applied p found
applied_like None None found like = refl
applied_like None (Some t) found like = absurd like
applied_like (Some s) None found like = absurd like
applied_like (Some s) (Some t) found like =
    ap (λ (k : Kind). made_by k (are_sorts found s.args) s.result) like.kind ∙ ap (λ (a : List ℕ). made_by t.kind (are_sorts found a) s.result) like.args
    ∙ ap (made_by t.kind (are_sorts found t.args)) like.result

holds_like : (o p : Option Symbol) (found : List (Option ℕ)) → AreLike o p → holds_of o found ≡ holds_of p found
holds_like None None found like = refl
holds_like None (Some t) found like = absurd like
holds_like (Some s) None found like = absurd like
holds_like (Some s) (Some t) found like = ap (λ (k : Kind). stated_by k (are_sorts found s.args)) like.kind ∙ ap (λ (a : List ℕ). stated_by t.kind (are_sorts found a)) like.args

module _ (v w : Vocabulary) (sorts : length v.sorts ≡ length w.sorts) (like : (k : ℕ) → AreLike (slice_get v.symbols k) (slice_get w.symbols k)) where
  abbrev pub TermAlike : List ℕ → Term → Type 0
  TermAlike scope t = sort_of_term v scope t ≡ sort_of_term w scope t

  maps_alike : (scope : List ℕ) (ts : List Term) → AllByRecursion (TermAlike scope) ts → map (sort_of_term v scope) ts ≡ map (sort_of_term w scope) ts
  maps_alike scope [] all = refl
  maps_alike scope (t ∷ ts) all = ap (λ (o : Option ℕ). o ∷ map (sort_of_term v scope) ts) all.0 ∙ ap (λ (os : List (Option ℕ)). sort_of_term w scope t ∷ os) (maps_alike scope ts all.1)

  pub term_alike : (scope : List ℕ) (t : Term) → TermAlike scope t
  term_alike scope = term_induction (TermAlike scope) (record {
    var = λ k. sort_of_term-Var v scope k ∙ sym (sort_of_term-Var w scope k);
    app = λ f ts all.
        sort_of_term-App v scope f ts ∙ applied_like (slice_get v.symbols f) (slice_get w.symbols f) (map (sort_of_term v scope) ts) (like f) ∙ ap (applied (slice_get w.symbols f)) (maps_alike scope ts all) ∙ sym (sort_of_term-App w scope f ts);
  })

  all_terms : (scope : List ℕ) (ts : List Term) → AllByRecursion (TermAlike scope) ts
  all_terms scope [] = tt
  all_terms scope (t ∷ ts) = (term_alike scope t, all_terms scope ts)

  abbrev FormAlike : Form → Type 0
  FormAlike a = (scope : List ℕ) → is_sorted v scope a ≡ is_sorted w scope a

  members_alike : (as_ : List Form) (scope : List ℕ) → AllByRecursion FormAlike as_ → list_all (is_sorted v scope) as_ ≡ list_all (is_sorted w scope) as_
  members_alike [] scope all = refl
  members_alike (a ∷ as_) scope all = ap (λ (b : Bool). b && list_all (is_sorted v scope) as_) (all.0 scope) ∙ ap (λ (b : Bool). is_sorted w scope a && b) (members_alike as_ scope all.1)

  both_alike : (a b : Form) (scope : List ℕ) → FormAlike a → FormAlike b → (is_sorted v scope a && is_sorted v scope b) ≡ (is_sorted w scope a && is_sorted w scope b)
  both_alike a b scope one two = ap (λ (c : Bool). c && is_sorted v scope b) (one scope) ∙ ap (λ (c : Bool). is_sorted w scope a && c) (two scope)

  under_alike : (s : ℕ) (a : Form) (scope : List ℕ) → FormAlike a → (nat_lt s (length v.sorts) && is_sorted v (s ∷ scope) a) ≡ (nat_lt s (length w.sorts) && is_sorted w (s ∷ scope) a)
  under_alike s a scope one = ap (λ (n : ℕ). nat_lt s n && is_sorted v (s ∷ scope) a) sorts ∙ ap (λ (b : Bool). nat_lt s (length w.sorts) && b) (one (s ∷ scope))

  pub form_alike : (a : Form) → FormAlike a
  form_alike = form_induction FormAlike (record {
    atom = λ p ts scope.
        is_sorted-Atom v scope p ts ∙ holds_like (slice_get v.symbols p) (slice_get w.symbols p) (map (sort_of_term v scope) ts) (like p) ∙ ap (holds_of (slice_get w.symbols p)) (maps_alike scope ts (all_terms scope ts)) ∙ sym (is_sorted-Atom w scope p ts);
    eq = λ l r scope.
        is_sorted-Eq v scope l r ∙ ap (λ (o : Option ℕ). one_sort o (sort_of_term v scope r)) (term_alike scope l) ∙ ap (one_sort (sort_of_term w scope l)) (term_alike scope r) ∙ sym (is_sorted-Eq w scope l r);
    not = λ a one scope. is_sorted-Not v scope a ∙ one scope ∙ sym (is_sorted-Not w scope a);
    and = λ as_ all scope. is_sorted-And v scope as_ ∙ members_alike as_ scope all ∙ sym (is_sorted-And w scope as_);
    or = λ as_ all scope. is_sorted-Or v scope as_ ∙ members_alike as_ scope all ∙ sym (is_sorted-Or w scope as_);
    imp = λ a b one two scope. is_sorted-Imp v scope a b ∙ both_alike a b scope one two ∙ sym (is_sorted-Imp w scope a b);
    iff = λ a b one two scope. is_sorted-Iff v scope a b ∙ both_alike a b scope one two ∙ sym (is_sorted-Iff w scope a b);
    all = λ s a one scope. is_sorted-All v scope s a ∙ under_alike s a scope one ∙ sym (is_sorted-All w scope s a);
    ex = λ s a one scope. is_sorted-Ex v scope s a ∙ under_alike s a scope one ∙ sym (is_sorted-Ex w scope s a);
  })
