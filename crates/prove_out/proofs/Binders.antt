-- What is written of a formula under a quantifier denotes it, and its binders are numbered.
use Rattle.std.proofs.Common.{◌≡◌, ℕ, ◌+◌, ◌≤◌, ◌<◌, nat_lt, Bool, true, false, cond, List, [], ◌∷◌, ◌++◌, length, Ok, Err, refl, sym, ◌∙◌, ap, subst, arith, append_assoc, Result, IfOk}
use Rattle.std.specs.Prelude.{◌&&◌, ◌==◌}
use Rattle.std.proofs.lemmas.Bool.Decides.{nat_tests}
use Rattle.tptp_base.specs.Sizes.{Size}
use Rattle.tptp_base.specs.declared.memory.Memory.{Memory}
use Rattle.tptp_base.specs.declared.surface.BoundVar.{BoundVar}
use Rattle.tptp_base.specs.declared.surface.Quant.{Quant}
use Rattle.tptp_base.specs.declared.surface.Quant.TheVariants as q
use Rattle.tptp_base.specs.declared.surface.Surface.{Surface}
use Rattle.tptp_base.specs.declared.surface.Surface.TheVariants as fm
use Rattle.fof_terms.specs.Vocabulary.{Vocabulary}
use Rattle.fof_terms.specs.Sorts.{is_sorted}
use Rattle.fof_terms.specs.declared.form.Form.{Form}
use Rattle.fof_terms.proofs.LiftingLaws.{both}
use Rattle.fof_terms.proofs.SizeFacts.{form_size-All, form_size-Ex}
use Rattle.fof_terms.proofs.SortsFacts.{is_sorted-All, is_sorted-Ex}
use Rattle.sort_check.specs.declared.fault.SortRule.{SortRule}
use Rattle.sort_check.specs.declared.fault.SortRule.TheVariants.{Variables}
use Rattle.sort_check.specs.declared.scope.Variable.{Variable}
use Rattle.sort_check.specs.Outcomes.{Outcome, and_then, mapped, each}
use Rattle.sort_check.specs.Denotation.{Setting, Meaning, bind, State, FormOutcome, beside, variable_sort, bound_variable, quantified, closed, denoted_form}
use Rattle.sort_check.proofs.Equations.{denoted_form-Bind}
use Rattle.prove_out.specs.Unambiguous.{IsUnambiguous}
use Rattle.prove_out.specs.Denoting.{bound_count}
use Rattle.prove_out.specs.Variables.{variable_name, has_some, is_numbered, are_numbered}
use Rattle.prove_out.specs.code.Named.{variable_of}
use Rattle.prove_out.specs.code.Written.{named_variables, state, WritesForm, WritesBehind}
use Rattle.prove_out.proofs.Finding.{sort_named}
use Rattle.prove_out.proofs.NumberedFacts.{is_numbered-Bind}
use Rattle.prove_out.proofs.Scopes.{same_name}
use Rattle.prove_out.proofs.States.{counted}

-- the variable that is bound
abbrev pub opened : ℕ → ℕ → Variable
opened binder sort = record { name = variable_name binder; sort = sort }

not_full : (n : ℕ) → n < 250 → n == 250 ≡ false
not_full n lt = grind (arith, nat_tests)

variable_denotes : (v : Vocabulary) → IsUnambiguous v → (binder sort bound : ℕ) → sort < length v.sorts → bound < 250 → bound_variable (variable_of v sort binder) (state v bound) ≡ Ok (opened binder sort, state v (bound + 1))
variable_denotes v u binder sort bound there few =
    let x = variable_of v sort binder in
    let made : ℕ → Variable = λ s. record { name = x.name; sort = s } in
    let sorted : Outcome SortRule Vocabulary ℕ → Outcome SortRule State Variable = λ o. mapped made (beside (bound + 1) o) in
    let answer : Bool → Outcome SortRule State Variable = λ b. cond b (Err Variables) (sorted (variable_sort x.sort v)) in
    ap answer (not_full bound few) ∙ ap sorted (sort_named v u sort there)

-- the sort of a quantifier, and its body
sorted_under : (quant : Quant) (v : Vocabulary) (sorts : List ℕ) (sort : ℕ) (a : Form) → is_sorted v sorts (quantified quant sort a) ≡ true → (nat_lt sort (length v.sorts) ≡ true) × (is_sorted v (sort ∷ sorts) a ≡ true)
sorted_under q.All v sorts sort a fits = both (nat_lt sort (length v.sorts)) (is_sorted v (sort ∷ sorts) a) (rw is_sorted-All at fits)
sorted_under q.Ex v sorts sort a fits = both (nat_lt sort (length v.sorts)) (is_sorted v (sort ∷ sorts) a) (rw is_sorted-Ex at fits)

binds_one_more : (quant : Quant) (sort : ℕ) (a : Form) → bound_count (quantified quant sort a) ≡ 1 + bound_count a
binds_one_more q.All sort a = ap (λ (z : Size). z.variables) (form_size-All sort a)
binds_one_more q.Ex sort a = ap (λ (z : Size). z.variables) (form_size-Ex sort a)

is_there : (m n : ℕ) → nat_lt m n ≡ true → m < n
is_there m n e = grind (arith, nat_tests)

pub binder_written : (v : Vocabulary) (depth : ℕ) (quant : Quant) (sort : ℕ) (a : Form) (w : Surface) → WritesForm v (depth + 1) a w → WritesForm v depth (quantified quant sort a) (fm.Bind quant (variable_of v sort depth ∷ []) w)
binder_written v depth quant sort a w part = record { denotes = of_binder; numbered = numbers }
  where
    numbers : is_numbered depth (fm.Bind quant (variable_of v sort depth ∷ []) w) ≡ true
    numbers = is_numbered-Bind depth quant (variable_of v sort depth ∷ []) w ∙ rw (same_name depth, part.numbered) refl

    of_binder : IsUnambiguous v → (here : Setting) (sorts : List ℕ) (bound : ℕ) → length sorts ≡ depth → is_sorted v sorts (quantified quant sort a) ≡ true → bound + bound_count (quantified quant sort a) ≤ 250
        → denoted_form here (fm.Bind quant (variable_of v sort depth ∷ []) w) (named_variables sorts) (state v bound) ≡ Ok (quantified quant sort a, state v (bound + bound_count (quantified quant sort a)))
    of_binder u here sorts bound len fits few =
        let scope = named_variables sorts in
        let xs : List BoundVar = variable_of v sort depth ∷ [] in
        let parts = sorted_under quant v sorts sort a fits in
        let one = binds_one_more quant sort a in
        let body : List Variable → State → FormOutcome = λ vs t. mapped (closed quant vs) (denoted_form here w (scope ++ vs) t) in
        let inner : scope ++ opened depth sort ∷ [] ≡ named_variables (sort ∷ sorts) = ap (λ n. scope ++ opened n sort ∷ []) (sym len) in
        let alone : Variable → State → Outcome SortRule State (List Variable) = λ y t. mapped (λ ys. y ∷ ys) (Ok ([], t)) in
        let opens : each (λ place. bound_variable) 0 xs (state v bound) ≡ Ok (opened depth sort ∷ [], state v (bound + 1)) =
        ap (λ (o : Outcome SortRule State Variable). and_then o alone) (variable_denotes v u depth sort bound (is_there sort (length v.sorts) parts.0) (omega (arith, few, one))) in
        denoted_form-Bind here scope (state v bound) quant xs w
        ∙ ap (λ (o : Outcome SortRule State (List Variable)). and_then o body) opens
        ∙ ap (λ (x : List Variable). mapped (closed quant (opened depth sort ∷ [])) (denoted_form here w x (state v (bound + 1)))) inner
        ∙ ap (mapped (closed quant (opened depth sort ∷ []))) (part.denotes u here (sort ∷ sorts) (bound + 1) (omega (arith, len)) parts.1 (omega (arith, few, one)))
        ∙ counted v (quantified quant sort a) (bound + 1 + bound_count a) (bound + bound_count (quantified quant sort a)) (omega (arith, one))

-- ---- several binders, written as one

-- the place of a variable says nothing of it
anywhere : (i j : ℕ) (xs : List BoundVar) (s : State) → each (λ place. bound_variable) i xs s ≡ each (λ place. bound_variable) j xs s
anywhere i j [] s = refl
anywhere i j (x ∷ xs) s = by (anywhere (i + 1) (j + 1) xs) (bound_variable x s)
  where
    rest : ℕ → Variable → State → Outcome SortRule State (List Variable)
    rest k y t = mapped (λ ys. y ∷ ys) (each (λ place. bound_variable) (k + 1) xs t)

    by : ((t : State) → each (λ place. bound_variable) (i + 1) xs t ≡ each (λ place. bound_variable) (j + 1) xs t) → (o : Outcome SortRule State Variable) → and_then o (rest i) ≡ and_then o (rest j)
    by later (Ok p) = ap (mapped (λ ys. p.0 ∷ ys)) (later p.1)
    by later (Err e) = refl

mapped_twice : (f g : Form → Form) (o : FormOutcome) → mapped (λ a. g (f a)) o ≡ mapped g (mapped f o)
mapped_twice f g (Ok p) = refl
mapped_twice f g (Err e) = refl

-- a binder of one variable more
one_more : (quant : Quant) (x : BoundVar) (xs : List BoundVar) (a : Meaning) (scope : List Variable) (s t : State) (y : Variable) → bound_variable x s ≡ Ok (y, t) → bind quant (x ∷ xs) a scope s ≡ mapped (quantified quant y.sort) (bind quant xs a (scope ++ y ∷ []) t)
one_more quant x xs a scope s t y opens =
    let rest : ℕ → Outcome SortRule State (List Variable) = λ k. each (λ place. bound_variable) k xs t in
    let body : List Variable → State → FormOutcome = λ vs u. mapped (closed quant vs) (a (scope ++ vs) u) in
    let add : Outcome SortRule State (List Variable) → Outcome SortRule State (List Variable) = λ o. mapped (λ ys. y ∷ ys) o in
    let first : Outcome SortRule State Variable → FormOutcome = λ o. and_then (and_then o (λ z u. mapped (λ ys. z ∷ ys) (each (λ place. bound_variable) 1 xs u))) body in
    ap first opens ∙ ap (λ (o : Outcome SortRule State (List Variable)). and_then (add o) body) (anywhere 1 0 xs t) ∙ by (rest 0)
  where
    joined_scope : (vs : List Variable) → scope ++ (y ∷ vs) ≡ (scope ++ y ∷ []) ++ vs
    joined_scope vs = sym (append_assoc scope (y ∷ []) vs)

    by : (o : Outcome SortRule State (List Variable)) → and_then (mapped (λ ys. y ∷ ys) o) (λ vs u. mapped (closed quant vs) (a (scope ++ vs) u))
        ≡ mapped (quantified quant y.sort) (and_then o (λ vs u. mapped (closed quant vs) (a ((scope ++ y ∷ []) ++ vs) u)))
    by (Ok p) =
        ap (λ (vs : List Variable). mapped (closed quant (y ∷ p.0)) (a vs p.1)) (joined_scope p.0)
        ∙ mapped_twice (closed quant p.0) (quantified quant y.sort) (a ((scope ++ y ∷ []) ++ p.0) p.1)
    by (Err e) = refl

more_written : (v : Vocabulary) (depth : ℕ) (quant : Quant) (sort : ℕ) (a : Form) (more : List BoundVar) (w : Surface) → WritesForm v (depth + 1) a (fm.Bind quant more w) → WritesForm v depth (quantified quant sort a) (fm.Bind quant (variable_of v sort depth ∷ more) w)
more_written v depth quant sort a more w part = record { denotes = of_binders; numbered = numbers }
  where
    numbers : is_numbered depth (fm.Bind quant (variable_of v sort depth ∷ more) w) ≡ true
    numbers =
        let next : depth + length (variable_of v sort depth ∷ more) ≡ depth + 1 + length more = omega arith in
        let inner : are_numbered (depth + 1) more && is_numbered (depth + 1 + length more) w ≡ true = (both (has_some more) (are_numbered (depth + 1) more && is_numbered (depth + 1 + length more) w) (sym (is_numbered-Bind (depth + 1) quant more w) ∙ part.numbered)).1 in
        is_numbered-Bind depth quant (variable_of v sort depth ∷ more) w
        ∙ ap (λ n. are_numbered depth (variable_of v sort depth ∷ more) && is_numbered n w) next
        ∙ ap (λ b. ((b && true) && are_numbered (depth + 1) more) && is_numbered (depth + 1 + length more) w) (same_name depth)
        ∙ inner

    of_binders : IsUnambiguous v → (here : Setting) (sorts : List ℕ) (bound : ℕ) → length sorts ≡ depth → is_sorted v sorts (quantified quant sort a) ≡ true → bound + bound_count (quantified quant sort a) ≤ 250
        → denoted_form here (fm.Bind quant (variable_of v sort depth ∷ more) w) (named_variables sorts) (state v bound) ≡ Ok (quantified quant sort a, state v (bound + bound_count (quantified quant sort a)))
    of_binders u here sorts bound len fits few =
        let scope = named_variables sorts in
        let parts = sorted_under quant v sorts sort a fits in
        let one = binds_one_more quant sort a in
        let opens = variable_denotes v u depth sort bound (is_there sort (length v.sorts) parts.0) (omega (arith, few, one)) in
        let inner : scope ++ opened depth sort ∷ [] ≡ named_variables (sort ∷ sorts) = ap (λ n. scope ++ opened n sort ∷ []) (sym len) in
        denoted_form-Bind here scope (state v bound) quant (variable_of v sort depth ∷ more) w
        ∙ one_more quant (variable_of v sort depth) more (denoted_form here w) scope (state v bound) (state v (bound + 1)) (opened depth sort) opens
        ∙ ap (λ (y : List Variable). mapped (quantified quant sort) (bind quant more (denoted_form here w) y (state v (bound + 1)))) inner
        ∙ ap (mapped (quantified quant sort)) (sym (denoted_form-Bind here (named_variables (sort ∷ sorts)) (state v (bound + 1)) quant more w))
        ∙ ap (mapped (quantified quant sort)) (part.denotes u here (sort ∷ sorts) (bound + 1) (omega (arith, len)) parts.1 (omega (arith, few, one)))
        ∙ counted v (quantified quant sort a) (bound + 1 + bound_count a) (bound + bound_count (quantified quant sort a)) (omega (arith, one))

-- ---- behind the variables of binders around

module _ (v : Vocabulary) (depth inside : ℕ) (quant : Quant) (sort : ℕ) (around variables : List BoundVar) (x : BoundVar) (next : inside ≡ depth + 1) (list : variables ≡ around ++ x ∷ []) (is : x ≡ variable_of v sort depth) where
  all_of_them : variables ≡ around ++ variable_of v sort depth ∷ []
  all_of_them = list ∙ ap (λ (y : BoundVar). around ++ y ∷ []) is

  -- the last one
  pub last_binder : (l : List BoundVar) (a : Form) (w : Surface) → l ≡ variables → WritesForm v inside a w → WritesBehind v depth quant around (quantified quant sort a) (fm.Bind quant l w)
  last_binder l a w same part = record {
    more = variable_of v sort depth ∷ [];
    inner = w;
    is = ap (λ (xs : List BoundVar). fm.Bind quant xs w) (same ∙ all_of_them);
    writes = binder_written v depth quant sort a w (subst (λ n. WritesForm v n a w) next part);
  }

  behind_more : (a b : Form) (w : Surface) → b ≡ a → WritesBehind v inside quant variables a w → WritesBehind v depth quant around (quantified quant sort b) w
  behind_more a b w same part =
      let longer : variables ++ part.more ≡ around ++ (variable_of v sort depth ∷ part.more) = ap (λ (l : List BoundVar). l ++ part.more) all_of_them ∙ append_assoc around (variable_of v sort depth ∷ []) part.more in
      let whole : WritesForm v depth (quantified quant sort a) (fm.Bind quant (variable_of v sort depth ∷ part.more) part.inner) = more_written v depth quant sort a part.more part.inner (subst (λ n. WritesForm v n a (fm.Bind quant part.more part.inner)) next part.writes) in
      record {
        more = variable_of v sort depth ∷ part.more;
        inner = part.inner;
        is = part.is ∙ ap (λ (l : List BoundVar). fm.Bind quant l part.inner) longer;
        writes = subst (λ (y : Form). WritesForm v depth (quantified quant sort y) (fm.Bind quant (variable_of v sort depth ∷ part.more) part.inner)) (sym same) whole;
      }

  -- a further one
  pub next_binder : (a b : Form) (r : Result Surface Memory) → b ≡ a → IfOk r (λ w. WritesBehind v inside quant variables a w) → IfOk r (λ w. WritesBehind v depth quant around (quantified quant sort b) w)
  next_binder a b (Ok w) same part = behind_more a b w same part
  next_binder a b (Err e) same part = part

alone : (v : Vocabulary) (depth : ℕ) (quant : Quant) (a b : Form) (around : List BoundVar) (w : Surface) → around ≡ [] → b ≡ a → WritesBehind v depth quant around a w → WritesForm v depth b w
alone v depth quant a b around w none same part =
    let plain : w ≡ fm.Bind quant part.more part.inner = part.is ∙ ap (λ (l : List BoundVar). fm.Bind quant (l ++ part.more) part.inner) none in
    subst (λ (y : Form). WritesForm v depth y w) (sym same) (subst (λ (z : Surface). WritesForm v depth a z) (sym plain) part.writes)

-- the outermost one
pub first_binder : (v : Vocabulary) (depth : ℕ) (quant : Quant) (a b : Form) (around : List BoundVar) (r : Result Surface Memory) → around ≡ [] → b ≡ a → IfOk r (λ w. WritesBehind v depth quant around a w) → IfOk r (λ w. WritesForm v depth b w)
first_binder v depth quant a b around (Ok w) none same part = alone v depth quant a b around w none same part
first_binder v depth quant a b around (Err e) none same part = part
