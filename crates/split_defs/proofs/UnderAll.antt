-- Formulas under universal quantifiers: their sorts, their instances and their proofs.
use Rattle.std.proofs.Common.{ℕ, ◌≡◌, ◌≤◌, ◌+◌, List, [], ◌∷◌, ◌++◌, map, length, reverse, arith, suc, refl, sym, ap, subst, ◌∙◌, append_assoc, slice_get, Some}
use Rattle.std.specs.Prelude.{Result, IfOk}
use Rattle.std.proofs.lemmas.List.{reverse-append}
use Rattle.fof_terms.specs.Vocabulary.{Vocabulary}
use Rattle.fof_terms.specs.declared.term.Term.{Term, Var}
use Rattle.fof_terms.specs.declared.form.Form.{Form, All}
use Rattle.fof_terms.specs.Instance.{instance_at}
use Rattle.fof_terms.proofs.InstanceFacts.{instance_at-All}
use Rattle.fof_terms.specs.Sorts.{sort_of_term, binder_depth}
use Rattle.fof_terms.proofs.SortsFacts.{sort_of_term-Var, binder_depth-All}
use Rattle.fof_terms.specs.Sorts.{SortedTo, Sorted}
use Rattle.fof_terms.proofs.Scoped.{raised, all_sorted, sorted_of_all}
use Rattle.fof_terms.proofs.Trees.{All-injective}
use Rattle.kernel.specs.Statements.{Statements}
use Rattle.kernel.specs.Proves.{Proves}
use Rattle.kernel.proofs.Building.{by_all_i}
use Rattle.kernel.specs.Entries.{for_all}
use Rattle.kernel.specs.declared.proof.Proof.{Proof, AllI}
use Rattle.derive_kit.proofs.Built.{ok_map}
use Rattle.derive_kit.specs.Instances.{IsInstance}
use Rattle.split_defs.specs.code.DefinitionSearch.{IsBody}
use Rattle.clause_proofs.specs.Closed.{all_tree}
use Rattle.split_defs.proofs.Filling.{filled}

pub turn : {X : Type 0} (x : X) (xs : List X) → reverse (x ∷ xs) ≡ reverse xs ++ x ∷ []
turn x xs = reverse-append (x ∷ []) xs

beside : (s : ℕ) (sorts scope : List ℕ) → reverse (s ∷ sorts) ++ scope ≡ reverse sorts ++ s ∷ scope
beside s sorts scope = ap (λ (xs : List ℕ). xs ++ scope) (turn s sorts) ∙ append_assoc (reverse sorts) (s ∷ []) scope

-- what stands under the quantifiers is well-sorted over their variables, and back
module _ (v : Vocabulary) where
  pub opened : (sorts scope : List ℕ) (n m : ℕ) (b : Form) → n ≤ m + length sorts → length sorts + length scope ≤ 2147483647 → SortedTo n v scope (for_all sorts b) → SortedTo m v (reverse sorts ++ scope) b
  opened [] scope n m b le room r = raised v scope n m b (omega arith) r
  opened (s ∷ sorts) scope n m b le room r =
      let inner : SortedTo (m + length sorts) v (s ∷ scope) (for_all sorts b) = sorted_of_all v scope n (m + length sorts) s (for_all sorts b) (omega arith) (omega arith) r in
      subst (λ (x : List ℕ). SortedTo m v x b) (sym (beside s sorts scope)) (opened sorts (s ∷ scope) (m + length sorts) m b (omega arith) (omega arith) inner)

  pub closed_over : (sorts scope : List ℕ) (n : ℕ) (b : Form) → SortedTo n v (reverse sorts ++ scope) b → SortedTo (n + length sorts) v scope (for_all sorts b)
  closed_over [] scope n b r = raised v scope n (n + 0) b (omega arith) r
  closed_over (s ∷ sorts) scope n b r =
      let inner : SortedTo (n + length sorts) v (s ∷ scope) (for_all sorts b) = closed_over sorts (s ∷ scope) n b (subst (λ (x : List ℕ). SortedTo n v x b) (beside s sorts scope) r) in
      raised v scope (n + length sorts + 1) (n + suc (length sorts)) (All s (for_all sorts b)) (omega arith) (all_sorted v scope (n + length sorts) s (for_all sorts b) inner)

pub depth_is : (sorts : List ℕ) (b : Form) → binder_depth (for_all sorts b) ≡ length sorts + binder_depth b
depth_is [] b = omega arith
depth_is (s ∷ sorts) b = rw binder_depth-All (omega (arith, depth_is sorts b))

-- a proof under the quantifiers is one of the whole
pub all_shown : (t : Statements) (sorts scope : List ℕ) (b : Form) (p : Proof) → length sorts + length scope ≤ 2147483647 → Sorted t.vocabulary scope (for_all sorts b) → Proves t (reverse sorts ++ scope) [] p b → Proves t scope [] (all_tree sorts p) (for_all sorts b)
all_shown t [] scope b p room r w = w
all_shown t (s ∷ sorts) scope b p room r w =
    let inner : Sorted t.vocabulary (s ∷ scope) (for_all sorts b) = sorted_of_all t.vocabulary scope 2147483647 2147483647 s (for_all sorts b) (omega arith) (omega arith) r in
    by_all_i t scope [] s (for_all sorts b) (all_tree sorts p) r (all_shown t sorts (s ∷ scope) b p (omega arith) inner (subst (λ (x : List ℕ). Proves t x [] p b) (beside s sorts scope) w))

-- there is one way to take the quantifiers off
pub one_body : (form b c : Form) (ss : List ℕ) (i : IsBody form b) → form ≡ for_all ss c → ((s : ℕ) (a : Form) → c ≡ All s a → ⊥) → (i.sorts ≡ ss) × (b ≡ c)
one_body form b c ss i e inmost = same i.sorts ss (sym i.is ∙ e) where
  same : (rs ss : List ℕ) → for_all rs b ≡ for_all ss c → (rs ≡ ss) × (b ≡ c)
  same [] [] f = (refl, f)
  same [] (s ∷ ss) f = absurd (i.inmost s (for_all ss c) f)
  same (r ∷ rs) [] f = absurd (inmost r (for_all rs b) (sym f))
  same (r ∷ rs) (s ∷ ss) f =
      let parts = All-injective r s (for_all rs b) (for_all ss c) f in
      let rest = same rs ss parts.1 in
      (rw (parts.0, rest.0) refl, rest.1)

-- The arguments have the sorts of the variables.
abbrev pub HaveSorts : List ℕ → List ℕ → List ℕ → Type 0
HaveSorts scope [] [] = Unit {0}
HaveSorts scope [] (x ∷ xs) = ⊥
HaveSorts scope (s ∷ args) [] = ⊥
HaveSorts scope (s ∷ args) (x ∷ xs) = (slice_get scope x ≡ Some s) × HaveSorts scope args xs

pub as_many : (scope args xs : List ℕ) → HaveSorts scope args xs → length xs ≡ length args
as_many scope [] [] h = refl
as_many scope [] (x ∷ xs) h = absurd h
as_many scope (s ∷ args) [] h = absurd h
as_many scope (s ∷ args) (x ∷ xs) h = ap (λ n. suc n) (as_many scope args xs h.1)

all_instance : (x : Term) (sorts : List ℕ) (a : Form) (d e : ℕ) → e ≡ d + length sorts → instance_at x d (for_all sorts a) ≡ for_all sorts (instance_at x e a)
all_instance x [] a d e same = ap (λ (n : ℕ). instance_at x n a) (let back : d ≡ e = omega arith in back)
all_instance x (s ∷ sorts) a d e same = instance_at-All x d s (for_all sorts a) ∙ ap (All s) (all_instance x sorts a (d + 1) e (omega arith))

-- the instance at the variables has them in the places of the arguments
pub filled_instance : (w : Vocabulary) (v args xs : List ℕ) (b : Form) → HaveSorts v args xs → IsInstance w v (for_all args b) (map Var xs) (filled xs 0 b)
filled_instance w v [] [] b h = refl
filled_instance w v [] (x ∷ xs) b h = absurd h
filled_instance w v (s ∷ args) [] b h = absurd h
filled_instance w v (s ∷ args) (x ∷ xs) b h =
    let here : instance_at (Var x) 0 (for_all args b) ≡ for_all args (instance_at (Var x) (length xs + 0) b) = all_instance (Var x) args b 0 (length xs + 0) (omega (arith, as_many v args xs h.1)) in
    let sort : sort_of_term w v (Var x) ≡ Some s = rw sort_of_term-Var h.0 in
    (s, for_all args b, refl, sort, subst (λ (c : Form). IsInstance w v c (map Var xs) (filled (x ∷ xs) 0 b)) (sym here) (filled_instance w v args xs (instance_at (Var x) (length xs + 0) b) h.1))

-- The proof of a line, quantifier by quantifier.
under_at : (line inner own b : Form) (s : ℕ) (part made node : Proof) (sorts : List ℕ) → line ≡ for_all sorts b → ((q : ℕ) (a : Form) → b ≡ All q a → ⊥) → line ≡ All s own → inner ≡ own → ((c : Form) (i : IsBody inner c) → made ≡ all_tree i.sorts part) → node ≡ AllI s made
    → node ≡ all_tree sorts part
under_at line inner own b s part made node [] is inmost e same f em = absurd (inmost s own (sym is ∙ e))
under_at line inner own b s part made node (q ∷ rs) is inmost e same f em =
    let parts = All-injective q s (for_all rs b) own (sym is ∙ e) in
    let i : IsBody inner b = record { sorts = rs; is = same ∙ sym parts.1; inmost = inmost } in
    em ∙ ap (AllI s) (f b i) ∙ ap (λ (j : ℕ). AllI j (all_tree rs part)) (sym parts.0)

pub under_more : {E : Type 0} (r : Result Proof E) (line inner own : Form) (s : ℕ) (part made : Proof) → line ≡ All s own → inner ≡ own → ((c : Form) (i : IsBody inner c) → made ≡ all_tree i.sorts part) → IfOk r (λ node. node ≡ AllI s made)
    → IfOk r (λ node. (b : Form) (i : IsBody line b) → node ≡ all_tree i.sorts part)
under_more r line inner own s part made e same f h = ok_map r (λ node em b i. under_at line inner own b s part made node i.sorts i.is i.inmost e same f em) h

under_end : (line b : Form) (part : Proof) (sorts : List ℕ) → line ≡ for_all sorts b → ((s : ℕ) (a : Form) → line ≡ All s a → ⊥) → part ≡ all_tree sorts part
under_end line b part [] is other = refl
under_end line b part (q ∷ rs) is other = absurd (other q (for_all rs b) is)

pub under_none : (line : Form) (part : Proof) → ((s : ℕ) (a : Form) → line ≡ All s a → ⊥) → (b : Form) (i : IsBody line b) → part ≡ all_tree i.sorts part
under_none line part other b i = under_end line b part i.sorts i.is other
