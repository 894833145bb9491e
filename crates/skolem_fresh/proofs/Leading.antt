-- The steps of the proof that functions lead to, as code makes them.
use Rattle.std.specs.Prelude.{ℕ, ◌≡◌, ◌+◌, ◌-◌, ◌<◌, ◌≤◌, ◌^◌, true, false, List, [], ◌∷◌, ◌++◌, length, map, take, drop, get_or, Some, refl}
use Rattle.std.proofs.Common.{ap, sym, subst, ◌∙◌, arith, append_assoc, inl, inr, zero, suc}
use Rattle.std.proofs.lemmas.List.{append-nil, take_all, take_rest}
use Rattle.std.proofs.lemmas.Option.{slice_get-get_or}
use Rattle.fof_terms.specs.declared.term.Term.{Var}
use Rattle.fof_terms.specs.declared.form.Form.{Form, Ex, Imp}
use Rattle.fof_terms.specs.Vocabulary.{Vocabulary}
use Rattle.fof_terms.specs.Instance.{instance_of, instance_at, instance_reach}
use Rattle.fof_terms.specs.Variables.{has_variable}
use Rattle.fof_terms.specs.Sorts.{binder_depth}
use Rattle.kernel.specs.Statements.{Statements}
use Rattle.kernel.specs.Proves.{Proves}
use Rattle.kernel.proofs.Building.{by_line, by_imp_e}
use Rattle.kernel.specs.declared.proof.Proof.{Proof, Hyp, ExE, ImpE, Line}
use Rattle.kernel.specs.declared.entry.Entry.{Entry}
use Rattle.kernel.specs.declared.entry.Entry.TheVariants.{Choice}
use Rattle.derive_kit.specs.Instances.{IsInstance}
use Rattle.fof_terms.specs.declared.term.Term.{Term}
use Rattle.skolem_fresh.specs.declared.just.Use.{Use}
use Rattle.skolem_fresh.specs.Renamed.{renamed}
use Rattle.skolem_fresh.specs.Uses.{value_of}
use Rattle.skolem_fresh.specs.ChoiceRule.{IsOpened}
use Rattle.skolem_fresh.specs.Choosing.{IsWithin}
use Rattle.skolem_fresh.specs.code.Told.{AreTold, IsOpenable, Leads, IsLed}
use Rattle.skolem_fresh.proofs.Opened.{body_room, value_reaches, unused_reaches, more_than_none}
use Rattle.skolem_fresh.proofs.Openable.{first_use, open_unused, open_used, opened_ways, fits_sort, few_all, PartShows, unused_leads, used_leads}

-- what is to be opened is existential
pub opens_some : (count : ℕ) (uses : List Use) (form right : Form) → (count ≡ 0 → ⊥) → IsOpened count uses form right → ((s : ℕ) (b : Form) → form ≡ Ex s b → ⊥) → ⊥
opens_some zero uses form right some o none = some refl
opens_some (suc k) uses form right some o none = none o.0 o.1 o.2

not_empty : (uses : List Use) → (uses ≡ [] → ⊥) → 0 < length uses
not_empty [] h = absurd (h refl)
not_empty (u ∷ uses) h = omega arith

-- nothing to open
pub led_none : (count : ℕ) (uses : List Use) (form right : Form) (n : ℕ) (part : Proof) (old : List Entry) → count ≡ 0 → IsLed count uses form right n part old old part
led_none count uses form right n part old e = subst (λ k. IsLed k uses form right n part old old part) (sym e) (record {
  told = [];
  gained = sym (append-nil old);
  are = refl;
  leads = λ t v h o added shown. subst (Proves t v h part) (sym o.opened.1) shown;
})

module _ (count s : ℕ) (form body b0 right : Form) (uses : List Use) (some : count ≡ 0 → ⊥) (is : form ≡ Ex s b0) (eb : body ≡ b0) where
  form_is : form ≡ Ex s body
  form_is = is ∙ ap (Ex s) (sym eb)

  counted : suc (count - 1) ≡ count
  counted = more_than_none count some

  module _ (v : Vocabulary) (scope : List ℕ) (o : IsOpenable v scope count uses form right) where
    again : IsOpenable v scope (suc (count - 1)) uses form right
    again = subst (λ k. IsOpenable v scope k uses form right) (sym counted) o

    within_body : IsWithin v scope (Ex s body)
    within_body = subst (IsWithin v scope) form_is o.within

    pub lead_room : binder_depth body + 1 + length scope ≤ 1000000000
    lead_room = body_room v scope s body within_body

    pub lead_reaches : instance_reach (Var 0) 0 body < 2 ^ 32
    lead_reaches = unused_reaches v scope s body within_body

    pub lead_unused : (next : Form) → has_variable 0 body ≡ false → next ≡ instance_of body (Var 0) → IsOpenable v scope (count - 1) uses next right
    lead_unused next off e = rw e (open_unused v scope (count - 1) s form body right form_is uses off again)

    module _ (u : Use) (tail : List Use) (on_ : has_variable 0 body ≡ true) (parts : uses ≡ u ∷ tail) where
      pub lead_value : instance_reach (value_of u) 0 body < 2 ^ 32
      lead_value = value_reaches v scope s body within_body (value_of u) (fits_sort v scope (count - 1) s form body right form_is uses tail u parts on_ again)

      pub lead_few : length u.variables ≤ 1000000000
      lead_few = (few_all v scope (count - 1) s form body right form_is uses tail u parts on_ again).0

      pub lead_used : (next : Form) → next ≡ instance_at (value_of u) 0 body → IsOpenable v scope (count - 1) tail next right
      lead_used next e = rw e (open_used v scope (count - 1) s form body right form_is uses tail u parts on_ again)

    -- there is a function where the variable occurs
    pub lead_some : has_variable 0 body ≡ true → 0 < length uses
    lead_some on_ = not_empty uses (λ e.
        elim (opened_ways v scope (count - 1) s form body right form_is uses again.opened) [
          | inl h ↦ let never : [] ≡ h.1.0 ∷ h.1.1 = sym e ∙ h.1.2 in cc
          | inr h ↦ let never : true ≡ false = sym on_ ∙ h.0 in cc
        ])

    pub lead_first : has_variable 0 body ≡ true → (u : Use) → u ≡ get_or uses 0 u → uses ≡ u ∷ take (length uses - 1) (drop 1 uses)
    lead_first on_ u is = first_use uses (take (length uses - 1) (drop 1 uses)) u (slice_get-get_or uses 0 u (lead_some on_) ∙ ap Some (sym is)) (take_rest uses 1)

  module _ (n : ℕ) (old new : List Entry) (part step made : Proof) (next : Form) where
    pub led_unused : (goal : Form) (own : Proof) → has_variable 0 body ≡ false → next ≡ instance_of body (Var 0) → goal ≡ next → own ≡ Hyp 0 → step ≡ ExE goal part own → IsLed (count - 1) uses next right n step old new made
        → IsLed count uses form right n part old new made
    led_unused goal own off en eg eo es p =
        let step_is : step ≡ ExE (instance_of body (Var 0)) part (Hyp 0) = es ∙ (rw (eg, en, eo) refl) in
        let rest_leads : Leads (count - 1) uses (instance_of body (Var 0)) right p.told n step made = subst (λ a. Leads (count - 1) uses a right p.told n step made) en p.leads in
        let rest_are : AreTold (count - 1) uses (instance_of body (Var 0)) p.told = subst (λ a. AreTold (count - 1) uses a p.told) en p.are in
        subst (λ k. IsLed k uses form right n part old new made) counted (record {
          told = p.told;
          gained = p.gained;
          are = (s, body, form_is, inr (off, rest_are));
          leads = unused_leads (count - 1) s form body right form_is uses p.told n part step made off step_is rest_leads;
        })

    pub led_used : (u : Use) (tail : List Use) (told : Form) (mid : List Entry) (after : ℕ) → has_variable 0 body ≡ true → uses ≡ u ∷ tail → told ≡ renamed u.variables 1 body → mid ≡ old ++ Choice u.function told ∷ [] → after ≡ n + 1
        → next ≡ instance_at (value_of u) 0 body → PartShows u.variables n part step → IsLed (count - 1) tail next right after step mid new made → IsLed count uses form right n part old new made
    led_used u tail told mid after on_ parts et em ea en shows p =
        let rest_leads : Leads (count - 1) tail (instance_of body (value_of u)) right p.told (n + 1) step made =
        subst (λ m. Leads (count - 1) tail (instance_of body (value_of u)) right p.told m step made) ea (subst (λ a. Leads (count - 1) tail a right p.told after step made) en p.leads) in
        let rest_are : AreTold (count - 1) tail (instance_of body (value_of u)) p.told = subst (λ a. AreTold (count - 1) tail a p.told) en p.are in
        let first : Choice u.function told ≡ Choice u.function (renamed u.variables 1 body) = ap (Choice u.function) et in
        let all : new ≡ old ++ (Choice u.function (renamed u.variables 1 body) ∷ p.told) =
        p.gained ∙ ap (λ (es : List Entry). es ++ p.told) em ∙ append_assoc old (Choice u.function told ∷ []) p.told ∙ ap (λ e. old ++ (e ∷ p.told)) first in
        subst (λ k. IsLed k uses form right n part old new made) counted (record {
          told = Choice u.function (renamed u.variables 1 body) ∷ p.told;
          gained = all;
          are = (s, body, form_is, inl (on_, (u, tail, parts, (p.told, refl, rest_are))));
          leads = used_leads (count - 1) s form body right form_is uses tail u p.told n part step made parts on_ shows rest_leads;
        })

-- the part that a function's formula shows
pub part_shows : (xs : List ℕ) (terms : List Term) (n : ℕ) (own instance part made : Proof) → terms ≡ map Var xs → own ≡ Line n
    → ((t : Statements) (v : List ℕ) (h : List Form) (a b : Form) → IsInstance t.vocabulary v a terms b → Proves t v h own a → Proves t v h instance b) → made ≡ ImpE instance part → PartShows xs n part made
part_shows xs terms n own instance part made et eo f em t v h a b c sorted at is shown =
    let whole : Proves t v h own a = subst (λ p. Proves t v h p a) (sym eo) (by_line t v h n a sorted at) in
    let is' : IsInstance t.vocabulary v a terms (Imp b c) = subst (λ (ts : List Term). IsInstance t.vocabulary v a ts (Imp b c)) (sym et) is in
    subst (λ p. Proves t v h p c) (sym em) (by_imp_e t v h instance part b c (f t v h a (Imp b c) is' whole) shown)

-- all of the terms
pub all_terms : (xs slice : List ℕ) (terms : List Term) (i : ℕ) → slice ≡ xs → terms ≡ map Var (take i xs) → length slice ≤ i → terms ≡ map Var xs
all_terms xs slice terms i es e le = e ∙ ap (map Var) (take_all i xs (subst (λ (ys : List ℕ). length ys ≤ i) es le))
