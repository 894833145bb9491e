-- The entries of functions that choose: legal in turn, and what they add.
use Rattle.std.specs.Prelude.{ℕ, ◌≡◌, ◌+◌, ◌<◌, ◌≤◌, ◌||◌, ◌&&◌, ◌==◌, Bool, true, false, nat_eq, List, [], ◌∷◌, ◌++◌, length, map, slice_get, Option, Some, None, refl}
use Rattle.std.specs.List.{AllByRecursion as Each, All as Every, IsDistinct}
use Rattle.std.proofs.Common.{ap, sym, subst, ◌∙◌, arith, append_assoc, ◌⊎◌, inl, inr, zero, suc}
use Rattle.std.proofs.lemmas.Bool.Decides.{nat_tests}
use Rattle.std.proofs.lemmas.List.{append-nil}
use Rattle.std.proofs.lemmas.List.Elements.{All-push, All-nil, All-cons}
use Rattle.std.proofs.lemmas.Map.Keys.{IsDistinct-head, IsDistinct-tail}
use Rattle.fof_terms.specs.declared.term.Term.{Term, Var, App}
use Rattle.fof_terms.specs.declared.form.Form.{Form, Imp, Ex}
use Rattle.fof_terms.specs.declared.signature.Symbol.{Symbol}
use Rattle.fof_terms.specs.Vocabulary.{Vocabulary}
use Rattle.fof_terms.proofs.Trees.{Ex-injective}
use Rattle.fof_terms.specs.Instance.{instance_of, instance_at}
use Rattle.fof_terms.specs.Occurs.{occurs_in, occurs_in_term}
use Rattle.fof_terms.proofs.OccursFacts.{occurs_in-Imp, occurs_in-Ex, occurs_in_term-App, occurs_in_term-Var, list_any-map}
use Rattle.fof_terms.specs.Variables.{has_variable}
use Rattle.fof_terms.specs.Sorts.{Sorted}
use Rattle.std.specs.List.{list_any}
use Rattle.kernel.specs.Statements.{Statements}
use Rattle.kernel.specs.Entries.{for_all, variables, choice, IsFresh, MayChoose, Admits, with_formula}
use Rattle.kernel.specs.declared.entry.Entry.{Entry}
use Rattle.kernel.specs.declared.entry.Entry.TheVariants.{Declare, Lemma, Name, Choice}
use Rattle.derive_kit.specs.Derived.{with_formulas}
use Rattle.skolem_fresh.specs.declared.just.Use.{Use}
use Rattle.skolem_fresh.specs.Renamed.{renamed}
use Rattle.skolem_fresh.specs.Uses.{value, value_of, functions_of, Fits}
use Rattle.skolem_fresh.specs.ChoiceRule.{IsOpened}
use Rattle.skolem_fresh.specs.Choosing.{IsWithin}
use Rattle.skolem_fresh.specs.Entered.{added_by, formulas_told, Enters}
use Rattle.skolem_fresh.specs.code.Told.{AreTold, IsOpenable}
use Rattle.skolem_fresh.specs.Told.{AddedFrom}
use Rattle.skolem_fresh.proofs.Openable.{open_used, open_unused, opened_used, only_body, few_all}
use Rattle.skolem_fresh.proofs.Occurring.{instance_occurs}
use Rattle.skolem_fresh.proofs.Admitting.{symbol, at_symbol, choice_sorted, may_choose, renamed_occurs, for_all_occurs}

-- The symbols of values and of what is added.
no_var_occurs : (k : ℕ) (xs : List ℕ) → list_any (occurs_in_term k) (map Var xs) ≡ false
no_var_occurs k [] = refl
no_var_occurs k (x ∷ xs) = rw (occurs_in_term-Var k x, no_var_occurs k xs) refl

no_own_occurs : (k n : ℕ) → list_any (occurs_in_term k) (variables n) ≡ false
no_own_occurs k zero = refl
no_own_occurs k (suc n) = rw (occurs_in_term-Var k n, no_own_occurs k n) refl

or_false : (a : Bool) → (a || false) ≡ a
or_false true = refl
or_false false = refl

pub value_occurs : (k f : ℕ) (xs : List ℕ) → occurs_in_term k (value f xs) ≡ (f == k)
value_occurs k f xs = rw (occurs_in_term-App, no_var_occurs k xs) (or_false (f == k))

pub neither : (a b : Bool) → (a || b) ≡ false → (a ≡ false) × (b ≡ false)
neither true b e = cc
neither false b e = (refl, e)

pub both_false : (a b : Bool) → a ≡ false → b ≡ false → (a || b) ≡ false
both_false a b e f = rw (e, f) refl

pub no_and : (b c : Bool) → c ≡ false → (b && c) ≡ false
no_and true c e = e
no_and false c e = refl

pub choice_occurs : (k f : ℕ) (symbol : Symbol) (a : Form) → (f == k) ≡ false → occurs_in k a ≡ false → occurs_in k (choice f symbol a) ≡ false
choice_occurs k f symbol a other off =
    let x = App f (variables (length symbol.args)) in
    let value : occurs_in_term k x ≡ false = occurs_in_term-App k f (variables (length symbol.args)) ∙ both_false (f == k) (list_any (occurs_in_term k) (variables (length symbol.args))) other (no_own_occurs k (length symbol.args)) in
    let instance : occurs_in k (instance_of a x) ≡ false = instance_occurs k x a 0 ∙ both_false (occurs_in k a) (has_variable 0 a && occurs_in_term k x) off (no_and (has_variable 0 a) (occurs_in_term k x) value) in
    for_all_occurs k symbol.args (Imp (Ex symbol.result a) (instance_of a x))
    ∙ occurs_in-Imp k (Ex symbol.result a) (instance_of a x)
    ∙ both_false (occurs_in k (Ex symbol.result a)) (occurs_in k (instance_of a x)) (occurs_in-Ex k symbol.result a ∙ off) instance

-- Functions that are still to come are new to what has come.
other_number : (f k : ℕ) → nat_eq f k ≡ false → (f == k) ≡ false
other_number f k e = e

abbrev pub AllFresh : Statements → List Use → Type 0
AllFresh w uses = Each (λ (u : Use). IsFresh u.function w) uses

abbrev pub AllAbsent : Form → List Use → Type 0
AllAbsent a uses = Each (λ (u : Use). occurs_in u.function a ≡ false) uses

pub fresh_after : (w : Statements) (f : ℕ) (a : Form) (symbol : Symbol) (uses : List Use) → Each (λ y. nat_eq f y ≡ false) (functions_of uses) → AllFresh w uses → AllAbsent a uses → AllFresh (with_formula w (choice f symbol a)) uses
fresh_after w f a symbol [] apart fresh absent = tt
fresh_after w f a symbol (u ∷ uses) apart fresh absent =
    (All-push (λ b. occurs_in u.function b ≡ false) w.formulas (choice f symbol a) fresh.0 (choice_occurs u.function f symbol a apart.0 absent.0), fresh_after w f a symbol uses apart.1 fresh.1 absent.1)

pub absent_told : (xs : List ℕ) (a : Form) (uses : List Use) → AllAbsent a uses → AllAbsent (renamed xs 1 a) uses
absent_told xs a [] h = tt
absent_told xs a (u ∷ uses) h = (renamed_occurs u.function xs a 1 ∙ h.0, absent_told xs a uses h.1)

pub absent_body : (s : ℕ) (a : Form) (uses : List Use) → AllAbsent (Ex s a) uses → AllAbsent a uses
absent_body s a [] h = tt
absent_body s a (u ∷ uses) h = (sym (occurs_in-Ex u.function s a) ∙ h.0, absent_body s a uses h.1)

pub absent_value : (f : ℕ) (xs : List ℕ) (a : Form) (uses : List Use) → Each (λ y. nat_eq f y ≡ false) (functions_of uses) → AllAbsent a uses → AllAbsent (instance_of a (value f xs)) uses
absent_value f xs a [] apart h = tt
absent_value f xs a (u ∷ uses) apart h =
    let x = value f xs in
    let none : occurs_in_term u.function x ≡ false = value_occurs u.function f xs ∙ apart.0 in
    (instance_occurs u.function x a 0 ∙ both_false (occurs_in u.function a) (has_variable 0 a && occurs_in_term u.function x) h.0 (no_and (has_variable 0 a) (occurs_in_term u.function x) none), absent_value f xs a uses apart.1 h.1)

absent_unused : (a : Form) (uses : List Use) → has_variable 0 a ≡ false → AllAbsent a uses → AllAbsent (instance_of a (Var 0)) uses
absent_unused a [] off h = tt
absent_unused a (u ∷ uses) off h =
    (instance_occurs u.function (Var 0) a 0 ∙ both_false (occurs_in u.function a) (has_variable 0 a && occurs_in_term u.function (Var 0)) h.0 (no_and (has_variable 0 a) (occurs_in_term u.function (Var 0)) (occurs_in_term-Var u.function 0)), absent_unused a uses off h.1)

-- what stands behind other formulas
pub behind : (pre post : List Form) (a : Form) (n : ℕ) → length pre ≡ n → slice_get (pre ++ a ∷ post) n ≡ Some a
behind [] post a zero e = refl
behind [] post a (suc n) e = absurd (omega arith)
behind (b ∷ pre) post a zero e = absurd (omega arith)
behind (b ∷ pre) post a (suc n) e = behind pre post a n (omega arith)

one_longer : (pre : List Form) (a : Form) (n : ℕ) → length pre ≡ n → length (pre ++ a ∷ []) ≡ suc n
one_longer [] a n e = let same : 0 ≡ n = e in rw (sym same) refl
one_longer (b ∷ pre) a zero e = absurd (omega arith)
one_longer (b ∷ pre) a (suc n) e = let rest = one_longer pre a n (omega arith) in omega arith

pub enters_none : (w : Statements) → Enters w []
enters_none w = record {
  admits = ap (λ (fs : List Form). record w { formulas = fs }) (append-nil w.formulas);
  stands = λ t e pre post f n g. tt;
}

module _ (w : Statements) (f : ℕ) (a : Form) (symbol : Symbol) (others : List Entry) (at : slice_get w.vocabulary.symbols f ≡ Some symbol) (may : MayChoose w f symbol a) (closed : Sorted w.vocabulary [] (choice f symbol a)) (rest : Enters (with_formula w (choice f symbol a)) others) where
  added_first : formulas_told w.vocabulary (Choice f a ∷ others) ≡ choice f symbol a ∷ formulas_told w.vocabulary others
  added_first = ap (λ r. added_by r f a (formulas_told w.vocabulary others)) at

  same_end : with_formulas (with_formula w (choice f symbol a)) (formulas_told w.vocabulary others) ≡ with_formulas w (formulas_told w.vocabulary (Choice f a ∷ others))
  same_end = ap (λ (fs : List Form). record w { formulas = fs }) (append_assoc w.formulas (choice f symbol a ∷ []) (formulas_told w.vocabulary others) ∙ ap (λ (fs : List Form). w.formulas ++ fs) (sym added_first))

  pub enters_more : Enters w (Choice f a ∷ others)
  enters_more = record {
    admits = ((symbol, may), (with_formula w (choice f symbol a), (symbol, at, refl), subst (Admits (with_formula w (choice f symbol a)) others) same_end rest.admits));
    stands = λ t e pre post g n many.
        let c = choice f symbol a in
        let all : t.formulas ≡ pre ++ (c ∷ (formulas_told w.vocabulary others ++ post)) = g ∙ ap (λ (fs : List Form). pre ++ (fs ++ post)) added_first in
        let next : t.formulas ≡ (pre ++ c ∷ []) ++ (formulas_told w.vocabulary others ++ post) = all ∙ sym (append_assoc pre (c ∷ []) (formulas_told w.vocabulary others ++ post)) in
        let here : slice_get t.formulas n ≡ Some c = ap (λ (fs : List Form). slice_get fs n) all ∙ behind pre (formulas_told w.vocabulary others ++ post) c n many in
        let found : slice_get t.vocabulary.symbols f ≡ Some symbol = ap (λ (v : Vocabulary). slice_get v.symbols f) e ∙ at in
        ((symbol, found, here, subst (λ v. Sorted v [] c) (sym e) closed), rest.stands t e (pre ++ c ∷ []) post next (suc n) (one_longer pre c n many));
  }

pub enter : (k : ℕ) (w : Statements) (scope : List ℕ) (uses : List Use) (form right : Form) (told : List Entry) → AreTold k uses form told → IsOpenable w.vocabulary scope k uses form right
    → IsDistinct nat_eq (functions_of uses) → AllFresh w uses → AllAbsent form uses → Enters w told
enter zero w scope uses form right told are o distinct fresh absent = subst (Enters w) (sym are) (enters_none w)
enter (suc k) w scope uses form right told are o distinct fresh absent =
    let s = are.0 in
    let body = are.1 in
    elim are.3 [
      | inl h ↦
          let u = h.1.0 in
          let rest = h.1.1 in
          let others = h.1.3.0 in
          let v = w.vocabulary in
          let inside : AllAbsent body uses = absent_body s body uses (subst (λ a. AllAbsent a uses) are.2 absent) in
          let inside' : AllAbsent body (u ∷ rest) = subst (AllAbsent body) h.1.2 inside in
          let fresh' : AllFresh w (u ∷ rest) = subst (AllFresh w) h.1.2 fresh in
          let distinct' : IsDistinct nat_eq (u.function ∷ functions_of rest) = subst (λ (us : List Use). IsDistinct nat_eq (functions_of us)) h.1.2 distinct in
          let apart = IsDistinct-head nat_eq u.function (functions_of rest) distinct' in
          let fits : Each (Fits v scope) (u ∷ rest) = subst (Each (Fits v scope)) h.1.2 o.fits in
          let within : IsWithin v scope (Ex s body) = subst (IsWithin v scope) are.2 o.within in
          let sort = (opened_used v scope k s form body right are.2 uses rest u h.1.2 h.0 o).0 in
          let few = few_all v scope k s form body right are.2 uses rest u h.1.2 h.0 o in
          let only = only_body v scope k s form body right are.2 uses rest u h.1.2 h.0 o in
          let told_here = renamed u.variables 1 body in
          let sign = symbol w scope s body u within fits.0 sort few.0 only in
          let next = with_formula w (choice u.function sign told_here) in
          let later = enter k next scope rest (instance_of body (value_of u)) right others h.1.3.2 (open_used v scope k s form body right are.2 uses rest u h.1.2 h.0 o) (IsDistinct-tail nat_eq u.function (functions_of rest) distinct')
          (fresh_after w u.function told_here sign rest apart fresh'.1 (absent_told u.variables body rest inside'.1)) (absent_value u.function u.variables body rest apart inside'.1) in
          subst (Enters w) (sym h.1.3.1)
          (enters_more w u.function told_here sign others (at_symbol w scope s body u within fits.0 sort few.0 only) (may_choose w scope s body u within fits.0 sort few.0 only fresh'.0 inside'.0) (choice_sorted w scope s body u within fits.0 sort few.0 only) later)
      | inr h ↦
          let inside : AllAbsent body uses = absent_body s body uses (subst (λ a. AllAbsent a uses) are.2 absent) in
          enter k w scope uses (instance_of body (Var 0)) right told h.1 (open_unused w.vocabulary scope k s form body right are.2 uses h.0 o) distinct fresh (absent_unused body uses h.0 inside)
    ]

-- What is added speaks of no symbol that the line lacks.
module _ (j : ℕ) where
  opened_lacks : (k : ℕ) (uses : List Use) (a right : Form) → IsOpened k uses a right → occurs_in j right ≡ false → occurs_in j a ≡ false
  opened_lacks zero uses a right o off = let same : right ≡ a = o.1 in subst (λ b. occurs_in j b ≡ false) same off
  opened_lacks (suc k) uses a right o off =
      let body = o.1 in
      let whole : occurs_in j a ≡ occurs_in j body = ap (occurs_in j) o.2 ∙ occurs_in-Ex j o.0 body in
      elim o.3 [
        | inl h ↦
            let x = value_of h.1.0 in
            let next : occurs_in j (instance_of body x) ≡ false = opened_lacks k h.1.1 (instance_of body x) right h.1.4 off in
            whole ∙ (neither (occurs_in j body) (has_variable 0 body && occurs_in_term j x) (sym (instance_occurs j x body 0) ∙ next)).0
        | inr h ↦
            let next : occurs_in j (instance_of body (Var 0)) ≡ false = opened_lacks k uses (instance_of body (Var 0)) right h.1 off in
            whole ∙ (neither (occurs_in j body) (has_variable 0 body && occurs_in_term j (Var 0)) (sym (instance_occurs j (Var 0) body 0) ∙ next)).0
      ]

  pub lacks_added : (v : Vocabulary) (f : ℕ) (a : Form) (r : Option Symbol) (rest : List Form) → (f == j) ≡ false → occurs_in j a ≡ false → Every (λ b. occurs_in j b ≡ false) rest → Every (λ b. occurs_in j b ≡ false) (added_by r f a rest)
  lacks_added v f a None rest other off h = h
  lacks_added v f a (Some symbol) rest other off h = All-cons (λ b. occurs_in j b ≡ false) (choice f symbol a) rest (choice_occurs j f symbol a other off) h

  pub told_lacks : (k : ℕ) (v : Vocabulary) (uses : List Use) (form right : Form) (told : List Entry) → AreTold k uses form told → IsOpened k uses form right → occurs_in j right ≡ false → Every (λ b. occurs_in j b ≡ false) (formulas_told v told)
  told_lacks zero v uses form right told are o off = subst (λ (es : List Entry). Every (λ b. occurs_in j b ≡ false) (formulas_told v es)) (sym are) (All-nil (λ b. occurs_in j b ≡ false))
  told_lacks (suc k) v uses form right told are o off =
      let same = Ex-injective o.0 are.0 o.1 are.1 (sym o.2 ∙ are.2) in
      let body = are.1 in
      elim are.3 [
        | inl h ↦
            elim o.3 [
              | inl g ↦
                  let u = h.1.0 in
                  let both : h.1.0 ∷ h.1.1 ≡ g.1.0 ∷ g.1.1 = sym h.1.2 ∙ g.1.2 in
                  let first : g.1.0 ≡ u = cc in
                  let others : g.1.1 ≡ h.1.1 = cc in
                  let x = value_of u in
                  let opened : IsOpened k h.1.1 (instance_of body x) right = rw (sym first, sym others, sym same.1) g.1.4 in
                  let next : occurs_in j (instance_of body x) ≡ false = opened_lacks k h.1.1 (instance_of body x) right opened off in
                  let parts = neither (occurs_in j body) (has_variable 0 body && occurs_in_term j x) (sym (instance_occurs j x body 0) ∙ next) in
                  let valued : occurs_in_term j x ≡ false = rw h.0 at parts.1 in
                  let other : (u.function == j) ≡ false = sym (value_occurs j u.function u.variables) ∙ valued in
                  subst (λ (es : List Entry). Every (λ b. occurs_in j b ≡ false) (formulas_told v es)) (sym h.1.3.1)
                  (lacks_added v u.function (renamed u.variables 1 body) (slice_get v.symbols u.function) (formulas_told v h.1.3.0) other (renamed_occurs j u.variables body 1 ∙ parts.0)
                  (told_lacks k v h.1.1 (instance_of body x) right h.1.3.0 h.1.3.2 opened off))
              | inr g ↦ let never : true ≡ false = sym h.0 ∙ ap (has_variable 0) (sym same.1) ∙ g.0 in cc
            ]
        | inr h ↦
            elim o.3 [
              | inl g ↦ let never : true ≡ false = sym g.0 ∙ ap (has_variable 0) same.1 ∙ h.0 in cc
              | inr g ↦ told_lacks k v uses (instance_of body (Var 0)) right told h.1 (subst (λ b. IsOpened k uses (instance_of b (Var 0)) right) same.1 g.1) off
            ]
      ]
