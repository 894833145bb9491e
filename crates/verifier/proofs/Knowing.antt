-- What is known of the theory so far: that the parents of a line stand in it, and how it goes on.
use Rattle.std.proofs.Common.{◌≡◌, ℕ, suc, ◌+◌, ◌-◌, List, [], ◌∷◌, length, Option, None, Some, slice_get, replicate, refl, sym, ◌∙◌, ap, subst, arith}
use Rattle.std.specs.List.{All}
use Rattle.std.proofs.lemmas.List.{length-set, length-replicate}
use Rattle.std.proofs.lemmas.List.Elements.{All-nil, All-cons, All-weaker}
use Rattle.fof_terms.specs.SortLaws.{Grows}
use Rattle.fof_terms.specs.Vocabulary.{Vocabulary}
use Rattle.fof_terms.proofs.SortLawsFacts.{grown_sorted}
use Rattle.fof_terms.specs.declared.form.Form.{Form}
use Rattle.clause_form.specs.declared.path.Parent.{Parent}
use Rattle.clause_rules.specs.Steps.{IsReady, AreReady}
use Rattle.kernel.specs.Statements.{Statements, AreClosed}
use Rattle.derive_kit.specs.Derived.{AreOfTheory}
use Rattle.tstp_graph.specs.declared.shape.Ref.{Ref}
use Rattle.tstp_graph.specs.declared.shape.Ref.TheVariants as ref
use Rattle.verifier.specs.Lines.{Derivation, numbered, given_from, with_number, accepted, parent_of, both, parents_of}
use Rattle.clause_form.specs.Paths.{forms_of}
use Rattle.verifier.specs.code.Numbered.{Knows, IsOver, AreNumbered, progress_of, derivation_in}
use Rattle.verifier.specs.declared.lines.Lines.{Lines}
use Rattle.verifier.specs.Run.{Progress, begun, with_answered}
use Rattle.verifier.proofs.ClosedTheories.{ready_closed}
use Rattle.verifier.proofs.Derived.{gained_stays}
use Rattle.verifier.proofs.Numbers.{stand_more}
use Rattle.verifier.proofs.Slots.{of_all, in_replicate}
use Rattle.verifier.proofs.Symbols.{Gains}

-- the rules may still be asked about the formulas where further symbols are there
pub still_ready : (v w : Vocabulary) → Grows v w → (forms : List Form) → All (IsReady v) forms → All (IsReady w) forms
still_ready v w grows forms ready = All-weaker (IsReady v) (IsReady w) (λ a is. grown_sorted v w grows 1000000000 [] a is) forms ready

-- the parent stands in the theory, and the rules may be asked about it
pub record Stands (t : Statements) (p : Parent) : Type 0 where
  pub at : slice_get t.formulas p.number ≡ Some p.form
  pub ready : IsReady t.vocabulary p.form

pub with_number_is : (n : ℕ) (form : Option Form) (p : Parent) → with_number n form ≡ Some p → (form ≡ Some p.form) × (p.number ≡ n)
with_number_is n None p is = absurd (cc)
with_number_is n (Some form) p is = let same : numbered n form ≡ p = cc in (ap (λ (q : Parent). Some q.form) same, sym (ap (λ (q : Parent). q.number) same))

pub accepted_is : (number : Option (Option ℕ)) (form : Option Form) (p : Parent) → accepted number form ≡ Some p → (number ≡ Some (Some p.number)) × (form ≡ Some p.form)
accepted_is None form p is = absurd (cc)
accepted_is (Some None) form p is = absurd (cc)
accepted_is (Some (Some n)) form p is = let parts = with_number_is n form p is in (ap (λ (k : ℕ). Some (Some k)) (sym parts.1), parts.0)

pub both_is : {X : Type 0} (x : Option X) (xs : Option (List X)) (ys : List X) → both x xs ≡ Some ys → (y : X) × (zs : List X) × (x ≡ Some y) × (xs ≡ Some zs) × (ys ≡ y ∷ zs)
both_is None xs ys is = absurd (cc)
both_is (Some x) None ys is = absurd (cc)
both_is (Some x) (Some xs) ys is = (x, xs, refl, refl, cc)

module _ (d : Derivation) (p : Progress) (knows : Knows d p) where
  pub parent_stands : (r : Ref) (q : Parent) → parent_of d.given d.forms p.numbers r ≡ Some q → Stands p.theory q
  parent_stands (ref.Given place) q is =
      let parts = with_number_is place (slice_get d.given place) q is in
      record {
        at = ap (slice_get p.theory.formulas) parts.1 ∙ knows.given place q.form parts.0;
        ready = of_all (IsReady p.theory.vocabulary) d.given place q.form knows.given_ready parts.0;
      }
  parent_stands (ref.Line place) q is =
      let parts = accepted_is (slice_get p.numbers place) (slice_get d.forms place) q is in
      record {
        at = knows.lines place q.number q.form parts.0 parts.1;
        ready = of_all (IsReady p.theory.vocabulary) d.forms place q.form knows.lines_ready parts.1;
      }

  pub parents_stand : (rs : List Ref) (qs : List Parent) → parents_of d.given d.forms p.numbers rs ≡ Some qs → All (Stands p.theory) qs
  parents_stand [] qs is = let none : qs ≡ [] = cc in subst (All (Stands p.theory)) (sym none) (All-nil (Stands p.theory))
  parents_stand (r ∷ rs) qs is =
      let parts = both_is (parent_of d.given d.forms p.numbers r) (parents_of d.given d.forms p.numbers rs) qs is in
      subst (All (Stands p.theory)) (sym parts.4) (All-cons (Stands p.theory) parts.0 parts.1 (parent_stands r parts.0 parts.2) (parents_stand rs parts.1 parts.3))

  given_on : (number : ℕ) (forms : List Form) → ((k : ℕ) (a : Form) → slice_get forms k ≡ Some a → slice_get d.given (number + k) ≡ Some a) → All (Stands p.theory) (given_from number forms)
  given_on number [] at = All-nil (Stands p.theory)
  given_on number (form ∷ forms) at =
      let same : number + 0 ≡ number = omega arith in
      let here : slice_get d.given number ≡ Some form = ap (slice_get d.given) (sym same) ∙ at 0 form refl in
      All-cons (Stands p.theory) (numbered number form) (given_from (number + 1) forms)
      (record { at = knows.given number form here; ready = of_all (IsReady p.theory.vocabulary) d.given number form knows.given_ready here })
      (given_on (number + 1) forms (λ k a is. let next : number + 1 + k ≡ number + suc k = omega arith in ap (slice_get d.given) next ∙ at (suc k) a is))

  pub given_stand : All (Stands p.theory) (given_from 0 d.given)
  given_stand = given_on 0 d.given (λ k a is. let same : 0 + k ≡ k = omega arith in ap (slice_get d.given) same ∙ is)

  -- a line at a place is added
  pub knows_more : (place : ℕ) (form : Form) (u : Statements) → slice_get d.forms place ≡ Some form → AreClosed u → Gains p.theory u form → Knows d (with_answered p place u)
  knows_more place form u at closed gains = record {
    given = λ k a there. gained_stays p.theory u form k a gains (knows.given k a there);
    lines = stand_more d p place form u at gains knows.lines;
    given_ready = still_ready p.theory.vocabulary u.vocabulary gains.grows d.given knows.given_ready;
    lines_ready = still_ready p.theory.vocabulary u.vocabulary gains.grows d.forms knows.lines_ready;
    closed = closed;
    count = length-set p.numbers place (Some (length u.formulas - 1)) ∙ knows.count;
  }

pub of_theory : (t : Statements) (ps : List Parent) → All (Stands t) ps → AreOfTheory t ps
of_theory t ps all = All-weaker (Stands t) (λ (p : Parent). slice_get t.formulas p.number ≡ Some p.form) (λ p s. s.at) ps all

pub are_ready : (t : Statements) (ps : List Parent) → All (Stands t) ps → AreReady t.vocabulary ps
are_ready t ps all = All-weaker (Stands t) (λ (p : Parent). IsReady t.vocabulary p.form) (λ p s. s.ready) ps all

-- before the first line
pub knows_none : (t : Statements) (d : Derivation) → d.given ≡ t.formulas → length d.forms ≡ length d.nodes → All (IsReady t.vocabulary) t.formulas → All (IsReady t.vocabulary) d.forms → Knows d (begun t d)
knows_none t d same count given_ready lines_ready = record {
  given = λ k a there. ap (λ (fs : List Form). slice_get fs k) (sym same) ∙ there;
  lines = λ k n a number there. absurd (no_number k n number);
  given_ready = subst (All (IsReady t.vocabulary)) (sym same) given_ready;
  lines_ready = lines_ready;
  closed = ready_closed t given_ready;
  count = length-replicate (length d.nodes) None ∙ sym count;
}
  where
    no_number : (k n : ℕ) → slice_get (replicate (length d.nodes) None) k ≡ Some (Some n) → ⊥
    no_number k n at = let e : Some n ≡ None = in_replicate (length d.nodes) k None (Some n) at in cc

-- the given formulas, by their numbers
pub forms_of_given : (number : ℕ) (forms : List Form) → forms_of (given_from number forms) ≡ forms
forms_of_given number [] = refl
forms_of_given number (form ∷ forms) = ap (λ (fs : List Form). form ∷ fs) (forms_of_given (number + 1) forms)

-- ---- the lines in memory

pub numbered_of_theory : (lines : Lines) (t : Statements) (numbers : List (Option ℕ)) → AreNumbered lines.given.now → Knows (derivation_in lines) (progress_of t numbers) → AreOfTheory t lines.given.now
numbered_of_theory lines t numbers numbered knows = subst (AreOfTheory t) (sym numbered) (of_theory t (given_from 0 (forms_of lines.given.now)) (given_stand (derivation_in lines) (progress_of t numbers) knows))

pub numbered_ready : (lines : Lines) (t : Statements) (numbers : List (Option ℕ)) → AreNumbered lines.given.now → Knows (derivation_in lines) (progress_of t numbers) → AreReady t.vocabulary lines.given.now
numbered_ready lines t numbers numbered knows = subst (AreReady t.vocabulary) (sym numbered) (are_ready t (given_from 0 (forms_of lines.given.now)) (given_stand (derivation_in lines) (progress_of t numbers) knows))

-- what is made of the formulas of a theory has these formulas
pub given_forms : (given : List Parent) (forms : List Form) → given ≡ given_from 0 forms → forms_of given ≡ forms
given_forms given forms is = ap forms_of is ∙ forms_of_given 0 forms

pub over_numbered : (t : Statements) (lines : Lines) → IsOver t lines → AreNumbered lines.given.now
over_numbered t lines over = over.given ∙ ap (given_from 0) (sym (given_forms lines.given.now t.formulas over.given))

pub over_knows : (t : Statements) (lines : Lines) (numbers : List (Option ℕ)) (count : ℕ) → IsOver t lines → numbers ≡ replicate count None → count ≡ length lines.nodes.now → Knows (derivation_in lines) (progress_of t numbers)
over_knows t lines numbers count over is all =
    subst (λ (ns : List (Option ℕ)). Knows (derivation_in lines) (progress_of t ns)) (sym (is ∙ ap (λ (n : ℕ). replicate n None) all))
    (knows_none t (derivation_in lines) (given_forms lines.given.now t.formulas over.given) over.same over.given_ready over.lines_ready)
