-- The steps by which functions that fit open a formula, and what each shows.
use Rattle.std.specs.Prelude.{ℕ, ◌≡◌, ◌+◌, ◌-◌, ◌<◌, ◌≤◌, ◌^◌, ◌||◌, ◌==◌, Bool, true, false, nat_eq, List, [], ◌∷◌, ◌++◌, length, map, reverse, drop, slice_get, Option, Some, None, refl}
use Rattle.std.specs.List.{AllByRecursion as Each, IsDistinct}
use Rattle.std.proofs.Common.{ap, sym, subst, ◌∙◌, arith, append_assoc, ◌⊎◌, inl, inr, zero, suc}
use Rattle.fof_terms.specs.declared.term.Term.{Term, Var, App}
use Rattle.fof_terms.specs.declared.form.Form.{Form, Imp, Ex, All}
use Rattle.fof_terms.specs.declared.signature.Symbol.{Symbol}
use Rattle.fof_terms.specs.declared.signature.Kind.{Kind}
use Rattle.fof_terms.specs.declared.signature.Kind.TheVariants.{Function, Predicate}
use Rattle.fof_terms.specs.Vocabulary.{Vocabulary}
use Rattle.fof_terms.proofs.Trees.{Ex-injective}
use Rattle.fof_terms.specs.Instance.{instance_of, instance_at, instance_reach}
use Rattle.fof_terms.proofs.InstanceFacts.{instance_at-Imp, instance_at-Ex}
use Rattle.fof_terms.specs.Lift.{lifted}
use Rattle.fof_terms.specs.Variables.{has_variable}
use Rattle.fof_terms.specs.Sorts.{Sorted, SortedTo, IsScope, are_sorts, made_by, applied, sort_of_term, binder_depth}
use Rattle.fof_terms.proofs.SortsFacts.{sort_of_term-App}
use Rattle.fof_terms.proofs.Moved.{closed_anywhere}
use Rattle.fof_terms.proofs.Unused.{unused_back}
use Rattle.kernel.specs.Statements.{Statements}
use Rattle.kernel.specs.Proves.{Proves, over, all_over}
use Rattle.kernel.proofs.Building.{by_line, by_hyp, by_imp_e, by_ex_e, shown_sorted}
use Rattle.kernel.specs.Entries.{for_all, variables, choice}
use Rattle.kernel.specs.declared.proof.Proof.{Proof, Hyp, ExE, ImpE, Line}
use Rattle.kernel.specs.declared.entry.Entry.{Entry}
use Rattle.kernel.specs.declared.entry.Entry.TheVariants.{Choice}
use Rattle.derive_kit.specs.Instances.{IsInstance}
use Rattle.skolem_fresh.specs.declared.just.Use.{Use}
use Rattle.skolem_fresh.specs.code.Only.{only_has}
use Rattle.skolem_fresh.proofs.OnlyFacts.{only_has-Ex}
use Rattle.skolem_fresh.specs.Renamed.{renamed}
use Rattle.skolem_fresh.specs.Uses.{value, value_of, Fits}
use Rattle.skolem_fresh.specs.ChoiceRule.{IsOpened}
use Rattle.skolem_fresh.specs.Choosing.{IsWithin}
use Rattle.skolem_fresh.specs.code.Told.{AreTold, IsOpenable, Leads, IsLed}
use Rattle.skolem_fresh.specs.Told.{AddedFrom}
use Rattle.skolem_fresh.proofs.Opened.{body_room, body_sorted, within_value, within_unused, value_reaches, unused_reaches}
use Rattle.skolem_fresh.proofs.OnlyLaws.{only_unused, only_value, value_only}
use Rattle.skolem_fresh.proofs.Argued.{sorts_at, args_length, put, put_term, putting, put_back, put_instance, put_value, all_instances}

-- what a term of a function says of the function
made_parts : (k : Kind) (b : Bool) (r s : ℕ) → made_by k b r ≡ Some s → (k ≡ Function) × (b ≡ true) × (r ≡ s)
made_parts Function true r s e = (refl, refl, cc)
made_parts Function false r s e = cc
made_parts Predicate b r s e = cc

fits_symbol : (r : Option Symbol) (found : List (Option ℕ)) (s : ℕ) → applied r found ≡ Some s → (symbol : Symbol) × (r ≡ Some symbol) × (symbol.kind ≡ Function) × (are_sorts found symbol.args ≡ true) × (symbol.result ≡ s)
fits_symbol None found s e = cc
fits_symbol (Some symbol) found s e = let parts = made_parts symbol.kind (are_sorts found symbol.args) symbol.result s e in (symbol, refl, parts.0, parts.1, parts.2)

pub use_symbol : (v : Vocabulary) (scope : List ℕ) (u : Use) → Fits v scope u
    → (symbol : Symbol) × (slice_get v.symbols u.function ≡ Some symbol) × (symbol.kind ≡ Function) × (are_sorts (sorts_at v scope u.variables) symbol.args ≡ true) × (symbol.result ≡ u.sort)
use_symbol v scope u f = fits_symbol (slice_get v.symbols u.function) (sorts_at v scope u.variables) u.sort (sym (sort_of_term-App v scope u.function (map Var u.variables)) ∙ f)

-- the first of the functions, and the others
pub first_use : (uses tail : List Use) (u : Use) → slice_get uses 0 ≡ Some u → tail ≡ drop 1 uses → uses ≡ u ∷ tail
first_use [] tail u e f = cc
first_use (w ∷ uses) tail u e f = let same : w ≡ u = cc in let rest : tail ≡ uses = f in rw (same, rest) refl

all_still_only : (uses : List Use) (xs : List ℕ) (a b : Form) → (only_has xs 0 a ≡ true → only_has xs 0 b ≡ true) → Each (λ (w : Use). w.variables ≡ xs) uses → Each (λ (w : Use). only_has w.variables 0 a ≡ true) uses → Each (λ (w : Use). only_has w.variables 0 b ≡ true) uses
all_still_only [] xs a b f same only = tt
all_still_only (w ∷ uses) xs a b f same only =
    let first : only_has w.variables 0 b ≡ true = rw same.0 (f (rw same.0 at only.0)) in
    (first, all_still_only uses xs a b f same.1 only.1)

module _ (v : Vocabulary) (scope : List ℕ) (k s : ℕ) (form body right : Form) (is : form ≡ Ex s body) where
  -- the formula is opened in one of two ways
  pub opened_ways : (uses : List Use) → IsOpened (suc k) uses form right
      → ((has_variable 0 body ≡ true) × ((u : Use) × (rest : List Use) × (uses ≡ u ∷ rest) × (u.sort ≡ s) × IsOpened k rest (instance_of body (value_of u)) right))
      ⊎ ((has_variable 0 body ≡ false) × IsOpened k uses (instance_of body (Var 0)) right)
  opened_ways uses o =
      let same = Ex-injective o.0 s o.1 body (sym o.2 ∙ is) in
      elim o.3 [
        | inl h ↦ inl (ap (has_variable 0) (sym same.1) ∙ h.0, (h.1.0, h.1.1, h.1.2, h.1.3 ∙ same.0, subst (λ b. IsOpened k h.1.1 (instance_of b (value_of h.1.0)) right) same.1 h.1.4))
        | inr h ↦ inr (ap (has_variable 0) (sym same.1) ∙ h.0, subst (λ b. IsOpened k uses (instance_of b (Var 0)) right) same.1 h.1)
      ]

  within_here : (uses : List Use) → IsOpenable v scope (suc k) uses form right → IsWithin v scope (Ex s body)
  within_here uses o = subst (IsWithin v scope) is o.within

  -- where the variable doesn't occur
  pub open_unused : (uses : List Use) → has_variable 0 body ≡ false → IsOpenable v scope (suc k) uses form right → IsOpenable v scope k uses (instance_of body (Var 0)) right
  open_unused uses off o = record {
    within = within_unused v scope s body (within_here uses o) off;
    opened = elim (opened_ways uses o.opened) [
      | inl h ↦ let never : true ≡ false = sym h.0 ∙ off in cc
      | inr h ↦ h.1
    ];
    fits = o.fits;
    few = o.few;
    variables = o.variables;
    same = o.same;
    only = all_still_only uses o.variables form (instance_of body (Var 0)) (λ h. only_unused o.variables s body off (rw is at h)) o.same o.only;
  }

  -- where it occurs
  module _ (uses rest : List Use) (u : Use) (parts : uses ≡ u ∷ rest) (on_ : has_variable 0 body ≡ true) (o : IsOpenable v scope (suc k) uses form right) where
    first_and_rest : (w : Use) (ws : List Use) → uses ≡ w ∷ ws → (w ≡ u) × (ws ≡ rest)
    first_and_rest w ws e = let both : w ∷ ws ≡ u ∷ rest = sym e ∙ parts in (cc, cc)

    pub opened_used : (u.sort ≡ s) × IsOpened k rest (instance_of body (value_of u)) right
    opened_used =
        elim (opened_ways uses o.opened) [
          | inl h ↦
              let same = first_and_rest h.1.0 h.1.1 h.1.2 in
              let sort : u.sort ≡ s = ap (λ (w : Use). w.sort) (sym same.0) ∙ h.1.3 in
              let opened : IsOpened k rest (instance_of body (value_of u)) right = rw (sym same.0, sym same.1) h.1.4 in
              (sort, opened)
          | inr h ↦ let never : true ≡ false = sym on_ ∙ h.0 in cc
        ]

    fits_all : Each (Fits v scope) (u ∷ rest)
    fits_all = subst (Each (Fits v scope)) parts o.fits

    pub fits_sort : sort_of_term v scope (value_of u) ≡ Some s
    fits_sort = fits_all.0 ∙ ap Some opened_used.0

    same_all : Each (λ (w : Use). w.variables ≡ o.variables) (u ∷ rest)
    same_all = subst (Each (λ (w : Use). w.variables ≡ o.variables)) parts o.same

    only_all : Each (λ (w : Use). only_has w.variables 0 form ≡ true) (u ∷ rest)
    only_all = subst (Each (λ (w : Use). only_has w.variables 0 form ≡ true)) parts o.only

    pub few_all : Each (λ (w : Use). length w.variables ≤ 1000000000) (u ∷ rest)
    few_all = subst (Each (λ (w : Use). length w.variables ≤ 1000000000)) parts o.few

    pub only_body : only_has u.variables 1 body ≡ true
    only_body = let whole : only_has u.variables 0 (Ex s body) ≡ true = rw is at only_all.0 in rw only_has-Ex at whole

    step_only : only_has o.variables 0 form ≡ true → only_has o.variables 0 (instance_of body (value_of u)) ≡ true
    step_only h =
        let whole : only_has o.variables 0 (Ex s body) ≡ true = rw is at h in
        let step : only_has o.variables 0 (instance_of body (value u.function o.variables)) ≡ true = only_value o.variables s u.function body (value_only u.function o.variables) whole in
        subst (λ xs. only_has o.variables 0 (instance_of body (value u.function xs)) ≡ true) (sym same_all.0) step

    pub open_used : IsOpenable v scope k rest (instance_of body (value_of u)) right
    open_used = record {
      within = within_value v scope s body (within_here uses o) (value_of u) fits_sort;
      opened = opened_used.1;
      fits = fits_all.1;
      few = few_all.1;
      variables = o.variables;
      same = same_all.1;
      only = all_still_only rest o.variables form (instance_of body (value_of u)) step_only same_all.1 only_all.1;
    }

-- What the formula of the entry shows at the variables.
module _ (v : Vocabulary) (scope : List ℕ) (s f : ℕ) (xs : List ℕ) (body : Form) (only : only_has xs 1 body ≡ true) (symbol : Symbol) (sorts : are_sorts (sorts_at v scope xs) symbol.args ≡ true) (result : symbol.result ≡ s) where
  put_choice : put xs 0 (Imp (Ex symbol.result (renamed xs 1 body)) (instance_of (renamed xs 1 body) (App f (variables (length symbol.args))))) ≡ Imp (Ex s body) (instance_of body (value f xs))
  put_choice =
      let w = putting xs in
      let back = put_back xs body 1 only in
      let many = args_length v scope xs symbol.args sorts in
      let left : put xs 0 (Ex symbol.result (renamed xs 1 body)) ≡ Ex s body = w.ex 0 symbol.result (renamed xs 1 body) ∙ (rw (result, back) refl) in
      let right : put xs 0 (instance_of (renamed xs 1 body) (App f (variables (length symbol.args)))) ≡ instance_of body (value f xs) =
      put_instance xs (App f (variables (length symbol.args))) (renamed xs 1 body) ∙ (rw (many, put_value xs f, back) refl) in
      w.imp 0 (Ex symbol.result (renamed xs 1 body)) (instance_of (renamed xs 1 body) (App f (variables (length symbol.args)))) ∙ (rw (left, right) refl)

  pub choice_instance : IsInstance v scope (choice f symbol (renamed xs 1 body)) (map Var xs) (Imp (Ex s body) (instance_of body (value f xs)))
  choice_instance =
      subst (IsInstance v scope (choice f symbol (renamed xs 1 body)) (map Var xs)) put_choice
      (all_instances v scope xs symbol.args (Imp (Ex symbol.result (renamed xs 1 body)) (instance_of (renamed xs 1 body) (App f (variables (length symbol.args))))) sorts)

pub same_symbol : (x y : Symbol) (r : Option Symbol) → r ≡ Some x → r ≡ Some y → x ≡ y
same_symbol x y r e f = cc

-- what the code's parts show
abbrev pub PartShows : List ℕ → ℕ → Proof → Proof → Type 0
PartShows xs n part made = (t : Statements) (v : List ℕ) (h : List Form) (a b c : Form) → Sorted t.vocabulary v a → slice_get t.formulas n ≡ Some a → IsInstance t.vocabulary v a (map Var xs) (Imp b c) → Proves t v h part b → Proves t v h made c

module _ (k s : ℕ) (form body right : Form) (is : form ≡ Ex s body) where
  pub unused_leads : (uses : List Use) (told : List Entry) (n : ℕ) (part step made : Proof) → has_variable 0 body ≡ false → step ≡ ExE (instance_of body (Var 0)) part (Hyp 0)
      → Leads k uses (instance_of body (Var 0)) right told n step made → Leads (suc k) uses form right told n part made
  unused_leads uses told n part step made off es l t v h o added shown =
      let next = open_unused t.vocabulary v k s form body right is uses off o in
      let shown' : Proves t v h part (Ex s body) = subst (Proves t v h part) is shown in
      let back : over (instance_of body (Var 0)) ≡ body = unused_back (Var 0) body 0 off in
      let sorted : Sorted t.vocabulary (s ∷ v) body = body_sorted t.vocabulary v s body (subst (IsWithin t.vocabulary v) is o.within) in
      let inner : Proves t (s ∷ v) (body ∷ all_over h) (Hyp 0) (over (instance_of body (Var 0))) = subst (Proves t (s ∷ v) (body ∷ all_over h) (Hyp 0)) (sym back) (by_hyp t (s ∷ v) (body ∷ all_over h) 0 body sorted refl) in
      let step' : Proves t v h step (instance_of body (Var 0)) = subst (λ p. Proves t v h p (instance_of body (Var 0))) (sym es) (by_ex_e t v h (instance_of body (Var 0)) part (Hyp 0) s body next.within.sorted shown' inner) in
      l t v h next added step'

  pub used_leads : (uses rest : List Use) (u : Use) (others : List Entry) (n : ℕ) (part step made : Proof) → uses ≡ u ∷ rest → has_variable 0 body ≡ true → PartShows u.variables n part step
      → Leads k rest (instance_of body (value_of u)) right others (n + 1) step made → Leads (suc k) uses form right (Choice u.function (renamed u.variables 1 body) ∷ others) n part made
  used_leads uses rest u others n part step made parts on_ shows l t v h o added shown =
      let next = open_used t.vocabulary v k s form body right is uses rest u parts on_ o in
      let sort = (opened_used t.vocabulary v k s form body right is uses rest u parts on_ o).0 in
      let symbol = use_symbol t.vocabulary v u (subst (Each (Fits t.vocabulary v)) parts o.fits).0 in
      let here = added.0 in
      let one : symbol.0 ≡ here.0 = same_symbol symbol.0 here.0 (slice_get t.vocabulary.symbols u.function) symbol.1 here.1 in
      let instance = choice_instance t.vocabulary v s u.function u.variables body (only_body t.vocabulary v k s form body right is uses rest u parts on_ o) symbol.0 symbol.3 (symbol.4 ∙ sort) in
      let at : slice_get t.formulas n ≡ Some (choice u.function symbol.0 (renamed u.variables 1 body)) = rw one here.2 in
      let closed : Sorted t.vocabulary [] (choice u.function symbol.0 (renamed u.variables 1 body)) = rw one here.3 in
      let shown' : Proves t v h part (Ex s body) = subst (Proves t v h part) is shown in
      let step' : Proves t v h step (instance_of body (value_of u)) =
      shows t v h (choice u.function symbol.0 (renamed u.variables 1 body)) (Ex s body) (instance_of body (value_of u)) (closed_anywhere t.vocabulary v 2147483647 _ o.within.sorted.scope_fits closed) at instance shown' in
      let more : suc n ≡ n + 1 = omega arith in
      l t v h next (subst (λ m. AddedFrom t m others) more added.1) step'
