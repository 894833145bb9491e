-- Lemmas on what specs/code/Settled defines.
use Rattle.std.specs.Prelude.{ℕ, Bool, true, false, not, ◌≡◌, ◌||◌, length, List, [], ◌∷◌, Some, refl, slice_get}
use Rattle.std.specs.List.{list_any}
use Rattle.std.proofs.Common.{◌∙◌, zero, suc, ap}
use Rattle.fof_terms.specs.declared.form.Form.{Form, And, Or}
use Rattle.fof_terms.proofs.Scoped.{and_sorted, or_sorted, sorted_of_and, sorted_of_or}
use Rattle.clause_form.specs.Norm.{node, ends, alone, joined_flat}
use Rattle.clause_form.proofs.NormFacts.{joined_flat-ended, joined_flat-alone}
use Rattle.clause_form.proofs.Joined.{ends_case}
use Rattle.kernel.proofs.Building.{by_and_i, by_and_e, by_or_i, by_or_e, by_imp_i}
use Rattle.kernel.specs.declared.proof.Proof.{Proof, Hyp, AndI, AndE, OrI, OrE, ImpI}
use Rattle.norm_proofs.specs.code.Steps.{Between}
use Rattle.derive_kit.proofs.Members.{first}
use Rattle.norm_proofs.proofs.StepsFacts.{same_shows}
use Rattle.norm_proofs.specs.code.Settled.{ended_tree, alone_tree}

or_true : (b : Bool) → (b || true) ≡ true
or_true true = refl
or_true false = refl

any_at : (f : Form → Bool) (xs : List Form) (k : ℕ) (a : Form) → slice_get xs k ≡ Some a → f a ≡ true → list_any f xs ≡ true
any_at f [] k a e is = cc
any_at f (x ∷ xs) zero a e is = let same : x ≡ a = cc in rw (same, is) refl
any_at f (x ∷ xs) (suc k) a e is = rw (any_at f xs k a e is) (or_true (f x))

ended_is : (kind : Bool) (flat : List Form) (k : ℕ) (a : Form) → slice_get flat k ≡ Some a → ends kind a ≡ true → slice_get flat k ≡ Some (node (not kind) [])
ended_is kind flat k a e is = e ∙ ap Some (ends_case kind a is)

ended_flat : (kind forth : Bool) (n : ℕ) (flat : List Form) (k : ℕ) → slice_get flat k ≡ Some (node (not kind) []) → Between forth n (ended_tree kind forth flat k) (node kind flat) (node (not kind) [])
ended_flat true true n flat k e t v h room s = by_imp_i t v h (And flat) (Or []) _ s (by_and_e t v (And flat ∷ h) k (Hyp 0) flat (Or []) e (first t v h (And flat) s))
ended_flat true false n flat k e t v h room s =
    let none = or_sorted t.vocabulary v 2147483647 s.scope_fits [] tt in
    by_imp_i t v h (Or []) (And flat) _ none (by_or_e t v (Or [] ∷ h) (And flat) (Hyp 0) [] [] s (first t v h (Or []) none) tt)
ended_flat false true n flat k e t v h room s = by_imp_i t v h (Or flat) (And []) _ s (by_and_i t v (Or flat ∷ h) [] [] s.scope_fits tt)
ended_flat false false n flat k e t v h room s =
    let all = and_sorted t.vocabulary v 2147483647 s.scope_fits [] tt in
    by_imp_i t v h (And []) (Or flat) _ all (by_or_i t v (And [] ∷ h) flat k (Hyp 0) (And []) s e (first t v h (And []) all))

alone_flat : (kind forth : Bool) (n : ℕ) (a : Form) → Between forth n (alone_tree kind forth a) (node kind (a ∷ [])) a
alone_flat true true n a t v h room s = by_imp_i t v h (And (a ∷ [])) a _ s (by_and_e t v (And (a ∷ []) ∷ h) 0 (Hyp 0) (a ∷ []) a refl (first t v h (And (a ∷ [])) s))
alone_flat true false n a t v h room s =
    let sa = (sorted_of_and t.vocabulary v 2147483647 (a ∷ []) s).0 in
    by_imp_i t v h a (And (a ∷ [])) _ sa (by_and_i t v (a ∷ h) (Hyp 0 ∷ []) (a ∷ []) s.scope_fits (first t v h a sa, tt))
alone_flat false true n a t v h room s =
    let sa = (sorted_of_or t.vocabulary v 2147483647 (a ∷ []) s).0 in
    let h1 = Or (a ∷ []) ∷ h in
    by_imp_i t v h (Or (a ∷ [])) a _ s (by_or_e t v h1 a (Hyp 0) (Hyp 0 ∷ []) (a ∷ []) sa (first t v h (Or (a ∷ [])) s) (first t v h1 a sa, tt))
alone_flat false false n a t v h room s =
    let sa = (sorted_of_or t.vocabulary v 2147483647 (a ∷ []) s).0 in
    by_imp_i t v h a (Or (a ∷ [])) _ sa (by_or_i t v (a ∷ h) (a ∷ []) 0 (Hyp 0) a s refl (first t v h a sa))

pub ended_shows : (kind forth : Bool) (n : ℕ) (flat : List Form) (k : ℕ) (a : Form) → slice_get flat k ≡ Some a → ends kind a ≡ true → Between forth n (ended_tree kind forth flat k) (node kind flat) (joined_flat kind flat)
ended_shows kind forth n flat k a e is = rw (joined_flat-ended kind flat (any_at (ends kind) flat k a e is)) (ended_flat kind forth n flat k (ended_is kind flat k a e is))

pub alone_shows : (kind forth : Bool) (n : ℕ) (flat : List Form) (a : Form) → list_any (ends kind) flat ≡ false → flat ≡ a ∷ [] → Between forth n (alone_tree kind forth a) (node kind flat) (joined_flat kind flat)
alone_shows kind forth n flat a e is = rw (joined_flat-alone kind flat e) (rw is (alone_flat kind forth n a))

pub several : (kind : Bool) (flat : List Form) → (length flat ≡ 1 → ⊥) → alone kind flat ≡ node kind flat
several kind [] other = refl
several kind (a ∷ []) other = absurd (other refl)
several kind (a ∷ b ∷ as_) other = refl

pub kept_shows : (kind forth : Bool) (n : ℕ) (flat : List Form) → list_any (ends kind) flat ≡ false → (length flat ≡ 1 → ⊥) → Between forth n (ImpI (node kind flat) (Hyp 0)) (node kind flat) (joined_flat kind flat)
kept_shows kind forth n flat e other = rw (joined_flat-alone kind flat e, several kind flat other) (same_shows forth n (node kind flat))
