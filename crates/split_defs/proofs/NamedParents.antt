-- The parents that say what names stand for: there is one list of them, and the clauses are well-sorted.
use Rattle.std.specs.Prelude.{ℕ, ◌≡◌, ◌+◌, List, [], ◌∷◌, ◌++◌, length, Option, Some, None, slice_get, refl}
use Rattle.std.specs.List.{AllByRecursion}
use Rattle.std.specs.Option.{option_map}
use Rattle.std.proofs.Common.{sym, subst, ap, ◌∙◌, inl, inr, zero, suc, add-one}
use Rattle.std.proofs.lemmas.List.{length-map}
use Rattle.std.proofs.lemmas.List.Elements.{recursion_from_All}
use Rattle.std.proofs.lemmas.Option.{slice_get-map}
use Rattle.fof_terms.specs.declared.form.Form.{Form, Atom}
use Rattle.fof_terms.proofs.Scoped.{member_of, sorted_of_iff}
use Rattle.fof_terms.proofs.Trees.{Iff-injective}
use Rattle.fof_terms.specs.Vocabulary.{Vocabulary}
use Rattle.clause_form.specs.declared.clause.Clause.{Clause}
use Rattle.clause_form.specs.declared.path.Parent.{Parent}
use Rattle.clause_form.specs.ClauseView.{clause_of}
use Rattle.clause_rules.specs.Settled.{IsFit}
use Rattle.clause_rules.specs.Steps.{AreReady, IsReady}
use Rattle.clause_rules.proofs.Firsts.{one_at}
use Rattle.rule_steps.proofs.ResolutionLoops.{form_fits}
use Rattle.split_defs.specs.declared.names.Named.{Named}
use Rattle.split_defs.specs.SplitRule.{Names, AllName}
use Rattle.split_defs.specs.code.SplitSearch.{IsNamed}
use Rattle.clause_form.specs.Paths.{forms_of}

-- one clause is named
same_clause : (e d f : Clause) (a b : Form) → a ≡ b → Names e a d → Names e b f → d ≡ f
same_clause e d f a b is h g =
    let sides = Iff-injective (Atom h.name []) h.meaning (Atom g.name []) g.meaning (sym h.is ∙ is ∙ g.is) in
    let both : Some d ≡ Some f = sym h.clause ∙ ap clause_of sides.1 ∙ g.clause in
    cc

-- there is one list of the parents that say what names stand for
pub named_once : (parents : List Form) (e : Clause) (i : ℕ) (names others : List ℕ) (ds fs : List Clause) → AllName parents e i names ds → AllName parents e i others fs → (names ≡ others) × (ds ≡ fs)
named_once parents e zero names others ds fs h g = (h.0 ∙ sym g.0, h.1 ∙ sym g.1)
named_once parents e (suc i) names others ds fs (inl h) (inl g) =
    let same : h.0 ≡ g.0 = one_at parents i h.0 g.0 h.2 g.2 in
    let d : h.1 ≡ g.1 = same_clause e h.1 g.1 h.0 g.0 same h.3 g.3 in
    let rest = named_once parents e i h.4.0 g.4.0 h.4.1 g.4.1 h.4.4 g.4.4 in (
      h.4.2 ∙ ap (λ (ns : List ℕ). ns ++ i ∷ []) rest.0 ∙ sym g.4.2,
      h.4.3 ∙ ap (λ (cs : List Clause). cs ++ h.1 ∷ []) rest.1 ∙ ap (λ (c : Clause). g.4.1 ++ c ∷ []) d ∙ sym g.4.3,
    )
named_once parents e (suc i) names others ds fs (inl h) (inr g) = absurd (g.0 h.0 h.1 h.2 h.3)
named_once parents e (suc i) names others ds fs (inr h) (inl g) = absurd (h.0 g.0 g.1 g.2 g.3)
named_once parents e (suc i) names others ds fs (inr h) (inr g) = named_once parents e i names others ds fs h.1 g.1

-- what is named is well-sorted
pub and_one : {X : Type 0} (P : X → Type 0) (xs : List X) (x : X) → AllByRecursion P xs → P x → AllByRecursion P (xs ++ x ∷ [])
and_one P [] x all h = (h, tt)
and_one P (y ∷ xs) x all h = (all.0, and_one P xs x all.1 h)

-- what the forms of parents are
pub form_at : (parents : List Parent) (i : ℕ) (p : Parent) → slice_get parents i ≡ Some p → slice_get (forms_of parents) i ≡ Some p.form
form_at parents i p at = slice_get-map (λ (q : Parent). q.form) parents i ∙ ap (option_map (λ (q : Parent). q.form)) at

pub as_many : (parents : List Parent) → length (forms_of parents) ≡ length parents
as_many parents = length-map parents (λ (q : Parent). q.form)

module _ (v : Vocabulary) where
  -- the forms are ready where the parents are
  abbrev pub AllReady : List Form → Type 0
  AllReady forms = AllByRecursion (IsReady v) forms

  forms_ready : (parents : List Parent) → AllByRecursion (λ (p : Parent). IsReady v p.form) parents → AllReady (forms_of parents)
  forms_ready [] all = tt
  forms_ready (p ∷ parents) all = (all.0, forms_ready parents all.1)

  pub all_ready : (parents : List Parent) → AreReady v parents → AllReady (forms_of parents)
  all_ready parents ready = forms_ready parents (recursion_from_All (λ (p : Parent). IsReady v p.form) parents ready)

  pub meaning_ready : (e d : Clause) (a : Form) → IsReady v a → (n : Names e a d) → IsReady v n.meaning
  meaning_ready e d a ready n = (sorted_of_iff v [] 1000000000 (Atom n.name []) n.meaning (subst (IsReady v) n.is ready)).1

  name_fits : (e d : Clause) (a : Form) → IsReady v a → Names e a d → IsFit v d
  name_fits e d a ready n = form_fits v n.meaning (meaning_ready e d a ready n) d n.clause

  pub named_fit : (forms : List Form) (e : Clause) → AllReady forms → (i : ℕ) (names : List ℕ) (ds : List Clause) → AllName forms e i names ds → AllByRecursion (IsFit v) ds
  named_fit forms e ready zero names ds h = subst (AllByRecursion (IsFit v)) (sym h.1) tt
  named_fit forms e ready (suc i) names ds (inl h) =
      subst (AllByRecursion (IsFit v)) (sym h.4.3) (and_one (IsFit v) h.4.1 h.1 (named_fit forms e ready i h.4.0 h.4.1 h.4.4) (name_fits e h.1 h.0 (member_of (IsReady v) forms i h.0 ready h.2) h.3))
  named_fit forms e ready (suc i) names ds (inr h) = named_fit forms e ready i names ds h.1

-- As code meets them: one parent more.
module _ (forms : List Form) (e : Clause) (i : ℕ) (form : Form) (at : slice_get forms i ≡ Some form) where
  pub one_named : (d : Clause) (names : List ℕ) (ds : List Clause) → Names e form d → AllName forms e i names ds → AllName forms e (i + 1) (names ++ i ∷ []) (ds ++ d ∷ [])
  one_named d names ds n all = rw add-one (inl (form, d, at, n, (names, ds, refl, refl, all)))

  pub none_named : (names : List ℕ) (ds : List Clause) → ((d : Clause) → Names e form d → ⊥) → AllName forms e i names ds → AllName forms e (i + 1) names ds
  none_named names ds none all =
      rw add-one (inr ((λ a d there n. let same : form ≡ a = one_at forms i form a at there in none d (subst (λ (b : Form). Names e b d) (sym same) n)), all))

module _ (forms : List Form) (e : Clause) (i : ℕ) (form : Form) (at : slice_get forms i ≡ Some form) (found : Option Clause) where
  pub parent_named : (d : Clause) (named more : Named) → found ≡ Some d → IsNamed e form found → (more.numbers ≡ named.numbers ++ i ∷ []) × (more.clauses ≡ named.clauses ++ d ∷ []) → AllName forms e i named.numbers named.clauses
      → AllName forms e (i + 1) more.numbers more.clauses
  parent_named d named more is own e2 all =
      let names : IsNamed e form (Some d) = subst (IsNamed e form) is own in
      subst (λ (ns : List ℕ). AllName forms e (i + 1) ns more.clauses) (sym e2.0) (subst (AllName forms e (i + 1) (named.numbers ++ i ∷ [])) (sym e2.1) (one_named forms e i form at d named.numbers named.clauses names all))

  pub parent_unnamed : (named : Named) → found ≡ None → IsNamed e form found → AllName forms e i named.numbers named.clauses → AllName forms e (i + 1) named.numbers named.clauses
  parent_unnamed named is own all = none_named forms e i form at named.numbers named.clauses (subst (IsNamed e form) is own) all

-- back from the forms to the parents
pub form_back : (parents : List Parent) (i : ℕ) (form : Form) → slice_get (forms_of parents) i ≡ Some form → (p : Parent) × (slice_get parents i ≡ Some p) × (p.form ≡ form)
form_back [] i form e = cc
form_back (p ∷ parents) zero form e = (p, refl, cc)
form_back (p ∷ parents) (suc i) form e = form_back parents i form e
