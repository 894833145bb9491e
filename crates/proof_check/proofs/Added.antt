-- Variables and binders for the arguments of a symbol.
use Rattle.std.specs.Prelude.{ℕ, ◌≡◌, ◌+◌, ◌-◌, ◌<◌, ◌≤◌, ◌^◌, List, [], ◌∷◌, ◌++◌, length, drop, map, refl, Bool, true, ◌||◌, Option, Some, None, Result, Ok, Err, OnOk, IsErrOf, IsErrAnd}
use Rattle.std.specs.List.{All, list_any}
use Rattle.std.proofs.Common.{arith, get_or, zero, suc, sym, ap, ◌∙◌, false}
use Rattle.fof_terms.specs.Vocabulary.{Vocabulary}
use Rattle.fof_terms.specs.declared.term.Term.{Term, Var, App}
use Rattle.fof_terms.specs.declared.form.Form.{Form, All as Every}
use Rattle.fof_terms.specs.Lift.{greatest, lift_term_reach}
use Rattle.fof_terms.proofs.LiftFacts.{lift_term_reach-Var, lift_term_reach-App}
use Rattle.fof_terms.specs.Instance.{instance_reach}
use Rattle.fof_terms.specs.Sorts.{Sorted, binder_depth}
use Rattle.fof_terms.proofs.MoreReaches.{any_reach}
use Rattle.fof_terms.specs.SortLaws.{Grows}
use Rattle.fof_terms.proofs.SortLawsFacts.{grown_sorted}
use Rattle.tptp_base.specs.declared.limit.LimitName.{LimitName}
use Rattle.fof_terms.specs.declared.signature.SigFault.{SigFault}
use Rattle.fof_terms.specs.declared.signature.SigFault.TheVariants.{Limit, Memory as no_room}
use Rattle.proof_check.specs.declared.fault.AdmitFault.{AdmitFault}
use Rattle.proof_check.specs.declared.fault.AdmitFault.TheVariants.{Illegal}
use Rattle.proof_check.specs.Faults.{admit_fault}
use Rattle.kernel.specs.Entries.{for_all, variables}

variables_step : (count i : ℕ) → i < count → variables (count - i) ≡ Var (count - 1 - i) ∷ variables (count - (i + 1))
variables_step count i lt =
    let more : count - i ≡ suc (count - (i + 1)) = omega arith in
    let same : count - 1 - i ≡ count - (i + 1) = omega arith in
    rw (more, same) refl

append_more : {X : Type 0} (xs : List X) (x : X) (ys : List X) → (xs ++ x ∷ []) ++ ys ≡ xs ++ x ∷ ys
append_more [] x ys = refl
append_more (y ∷ xs) x ys = ap (λ zs. y ∷ zs) (append_more xs x ys)

pub variables_more : (terms : List Term) (count i : ℕ) → i < count → terms ++ variables (count - i) ≡ variables count → (terms ++ Var (count - 1 - i) ∷ []) ++ variables (count - (i + 1)) ≡ variables count
variables_more terms count i lt e =
    append_more terms (Var (count - 1 - i)) (variables (count - (i + 1))) ∙ (ap (λ vs. terms ++ vs) (sym (variables_step count i lt)) ∙ e)

drop_at : {X : Type 0} (xs : List X) (k : ℕ) (d : X) → k < length xs → drop k xs ≡ get_or xs k d ∷ drop (suc k) xs
drop_at [] k d lt = absurd (omega arith)
drop_at (x ∷ xs) zero d lt = refl
drop_at (x ∷ xs) (suc k) d lt = drop_at xs k d (omega arith)

pub for_all_more : (sorts : List ℕ) (i d : ℕ) (body whole : Form) → i < length sorts → whole ≡ for_all (drop (length sorts - i) sorts) body
    → Every (get_or sorts (length sorts - 1 - i) d) whole ≡ for_all (drop (length sorts - (i + 1)) sorts) body
for_all_more sorts i d body whole lt e =
    let place : length sorts - 1 - i ≡ length sorts - (i + 1) = omega arith in
    let next : length sorts - i ≡ suc (length sorts - (i + 1)) = omega arith in
    let first = drop_at sorts (length sorts - (i + 1)) d (omega arith) in
    rw (first, place, e, next) refl

nothing_left : {X : Type 0} (xs : List X) → drop (length xs) xs ≡ []
nothing_left [] = refl
nothing_left (x ∷ xs) = nothing_left xs

pub for_all_none : (sorts : List ℕ) (body : Form) → body ≡ for_all (drop (length sorts) sorts) body
for_all_none sorts body = rw (nothing_left sorts) refl

-- the distances in the arguments, lifted
arguments_reach : (d n k : ℕ) → k ≤ n → greatest (map (lift_term_reach d 0) (variables k)) ≤ n + d
arguments_reach d n zero le = omega arith
arguments_reach d n (suc k) le =
    let here : lift_term_reach d 0 (Var k) ≤ n + d = rw lift_term_reach-Var (grind arith) in
    omega (arith, here, arguments_reach d n k (omega arith))

pub value_reach : (k n : ℕ) (a : Form) → n ≤ 2147483647 → binder_depth a ≤ 2147483647 → instance_reach (App k (variables n)) 0 a < 2 ^ 32
value_reach k n a few shallow = omega (arith, any_reach (App k (variables n)) n (λ d. rw lift_term_reach-App (arguments_reach d n n (omega arith))) a 0)

-- closed formulas stay closed and well-sorted over more sorts and symbols
pub closed_grow : (v w : Vocabulary) (forms : List Form) → Grows v w → All (Sorted v []) forms → All (Sorted w []) forms
closed_grow v w forms g all k d lt = grown_sorted v w g 2147483647 [] (get_or forms k d) (all k d lt)

first : (a b : Bool) → a || b ≡ false → a ≡ false
first true b e = cc
first false b e = refl

rest : (a b : Bool) → a || b ≡ false → b ≡ false
rest true b e = cc
rest false b e = e

-- what no member has, none has
pub none_has : {X : Type 0} (f : X → Bool) (xs : List X) → list_any f xs ≡ false → All (λ x. f x ≡ false) xs
none_has f [] e k d lt = absurd (omega arith)
none_has f (x ∷ xs) e zero d lt = first (f x) (list_any f xs) e
none_has f (x ∷ xs) e (suc k) d lt = none_has f xs (rest (f x) (list_any f xs) e) k d (omega arith)

pub has_none : {X : Type 0} (f : X → Bool) (xs : List X) → All (λ x. f x ≡ false) xs → list_any f xs ≡ false
has_none f [] all = refl
has_none f (x ∷ xs) all = rw (all zero x (omega arith)) (has_none f xs (λ k d lt. all (suc k) d (omega arith)))

pub used_not_fresh : {X : Type 0} (f : X → Bool) (xs : List X) → true ≡ list_any f xs → All (λ x. f x ≡ false) xs → ⊥
used_not_fresh f xs e all = let both : true ≡ false = e ∙ has_none f xs all in cc

pub none_some : (r : Option Form) (a : Form) → r ≡ None → r ≡ Some a → ⊥
none_some r a e f = cc

-- what follows from what holds after an answer
pub on_ok : {X E : Type 0} {P Q : Type 0} (r : Result X E) → (P → Q) → OnOk r P → OnOk r Q
on_ok (Ok x) f p = f p
on_ok (Err e) f p = p

-- a declaration that was refused as illegal was past a limit
pub past_limit : {X : Type 0} (r : Result X AdmitFault) (fault : SigFault) → IsErrAnd r (λ e. e ≡ admit_fault fault) → IsErrOf r Illegal → (limit : LimitName) × (fault ≡ Limit limit)
past_limit (Ok x) fault w e = cc
past_limit (Err f) (Limit limit) w e = (limit, refl)
past_limit (Err f) no_room w e = cc
