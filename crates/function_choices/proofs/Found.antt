-- The first symbol that may stand for an existential variable, as code finds it.
use Rattle.std.specs.Prelude.{ℕ, suc, ◌≡◌, ◌+◌, ◌<◌, ◌≤◌, ◌^◌, true, List, [], ◌∷◌, ◌++◌, length, take, drop, get_or, slice_get, Option, Some, None, refl}
use Rattle.std.specs.List.{AllByRecursion as Each}
use Rattle.std.proofs.Common.{ap, sym, subst, ◌∙◌, add-one, arith}
use Rattle.std.proofs.lemmas.Option.{get_or_from_slice_get}
use Rattle.fof_terms.specs.declared.term.Term.{Term}
use Rattle.fof_terms.specs.declared.form.Form.{Form, Ex}
use Rattle.fof_terms.specs.Instance.{instance_reach}
use Rattle.fof_terms.specs.Sorts.{sort_of_term}
use Rattle.fof_terms.specs.Vocabulary.{Vocabulary}
use Rattle.skolem_fresh.specs.declared.just.Use.{Use}
use Rattle.skolem_fresh.specs.Choosing.{IsWithin}
use Rattle.skolem_fresh.specs.Uses.{value_of, Fits}
use Rattle.skolem_fresh.proofs.Opened.{value_reaches}
use Rattle.skolem_fresh.proofs.WalkCode.{taken_snoc, whole_from}
use Rattle.step_clauses.specs.Skolems.{nearest}
use Rattle.function_choices.specs.declared.atoms.Placed.{Placed}
use Rattle.function_choices.specs.Alike.{each_alike}
use Rattle.function_choices.specs.Arguments.{needed}
use Rattle.function_choices.specs.Choices.{use_of, with_its_variable, MayStand}
use Rattle.function_choices.specs.code.Walked.{applied, Serves, IsTried, IsFound}
use Rattle.function_choices.proofs.Offered.{each_snoc}

module _ (v : Vocabulary) (atoms : List Placed) (scope : List ℕ) (before : List Use) (s : ℕ) (body : Form) where
  abbrev No : ℕ → Type 0
  No g = MayStand v atoms scope before s body g → ⊥

  module _ (outer : ℕ) (eo : outer ≡ length scope) (few : outer ≤ 100) (all some : List ℕ) (ea : all ≡ nearest outer) (es : some ≡ needed outer body) (patterns : List Placed) (ep : patterns ≡ take 8 (with_its_variable body)) (f : ℕ) where
    abbrev own : Use
    own = applied v patterns atoms outer s all some f

    as_use : own ≡ use_of v atoms (length scope) s body f
    as_use =
        ap (λ (xs : List ℕ). applied v patterns atoms outer s xs some f) ea
        ∙ ap (λ (xs : List ℕ). applied v patterns atoms outer s (nearest outer) xs f) es
        ∙ ap (λ (ps : List Placed). applied v ps atoms outer s (nearest outer) (needed outer body) f) ep
        ∙ ap (λ n. use_of v atoms n s body f) eo

    serves : MayStand v atoms scope before s body f → Serves v patterns atoms scope before own
    serves m = (m.other, subst (Fits v scope) (sym as_use) m.fits, subst (λ (ps : List Placed). each_alike f ps atoms ≡ true) (sym ep) m.alike)

    may : Serves v patterns atoms scope before own → MayStand v atoms scope before s body f
    may h = record { few = (omega arith); fits = subst (Fits v scope) as_use h.1; other = h.0; alike = subst (λ (ps : List Placed). each_alike f ps atoms ≡ true) ep h.2 }

    module _ (fs : List ℕ) (i : ℕ) (lt : i < length fs) (there : slice_get fs i ≡ Some f) (none : Each No (take i fs)) (tried : Option Use) (h : IsTried v patterns atoms scope before own tried) where
      is : f ≡ get_or fs i f
      is = sym (get_or_from_slice_get fs i f f there)

      pub not_here : tried ≡ None → Each No (take (i + 1) fs)
      not_here e =
          let off : Serves v patterns atoms scope before own → ⊥ = subst (IsTried v patterns atoms scope before own) e h in
          let taken : take (i + 1) fs ≡ take i fs ++ f ∷ [] = (rw add-one refl) ∙ taken_snoc fs i f lt is in
          subst (Each No) (sym taken) (each_snoc No (take i fs) f none (λ m. off (serves m)))

      pub found_here : (u : Use) → tried ≡ Some u → IsFound v atoms fs scope before s body (Some u)
      found_here u e =
          let on_ : IsTried v patterns atoms scope before own (Some u) = subst (IsTried v patterns atoms scope before own) e h in
          (f, on_.0 ∙ as_use, record { front = take i fs; back = drop (suc i) fs; is = whole_from fs i f lt is; none = none; may = may on_.1 })

-- The body with the value of what was found.
module _ (v : Vocabulary) (atoms : List Placed) (fs scope : List ℕ) (slice before : List Use) (eb : slice ≡ before) (s : ℕ) (body : Form) (answer : Option Use) (h : IsFound v atoms fs scope slice s body answer) where
  at_before : IsFound v atoms fs scope before s body answer
  at_before = subst (λ us. IsFound v atoms fs scope us s body answer) eb h

  module _ (u : Use) (value : Term) (e : answer ≡ Some u) (ev : value ≡ value_of u) where
    found : IsFound v atoms fs scope before s body (Some u)
    found = subst (IsFound v atoms fs scope before s body) e at_before

    fits : sort_of_term v scope (value_of u) ≡ Some s
    fits = subst (λ (x : Use). sort_of_term v scope (value_of x) ≡ Some s) (sym found.1) found.2.may.fits

    pub reaches : IsWithin v scope (Ex s body) → instance_reach value 0 body < 2 ^ 32
    reaches w = value_reaches v scope s body w value (ap (sort_of_term v scope) ev ∙ fits)
