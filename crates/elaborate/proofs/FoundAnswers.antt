-- What answers say of a line that no rule gives.
use Rattle.std.specs.Prelude.{ℕ, ◌≡◌, ◌⊎◌, List, [], ◌∷◌, Option, Some, None, IfSome, refl}
use Rattle.std.proofs.Common.{inl, inr, subst, sym}
use Rattle.fof_terms.specs.declared.form.Form.{Form}
use Rattle.fof_terms.specs.Vocabulary.{Vocabulary}
use Rattle.clause_form.specs.declared.path.Parent.{Parent}
use Rattle.kernel.specs.Statements.{Statements}
use Rattle.kernel.specs.declared.proof.Proof.{Proof}
use Rattle.kernel.specs.declared.entry.Entry.{Entry}
use Rattle.kernel.specs.declared.entry.Entry.TheVariants.{Lemma}
use Rattle.derive_kit.specs.Derived.{AreOfTheory, numbers_of}
use Rattle.clause_proofs.specs.Shown.{ShowsLine}
use Rattle.norm_parts.specs.ByParts.{ByParts}
use Rattle.norm_parts.specs.Shown.{IsLineByParts}
use Rattle.clausified_steps.specs.Clausified.{IsClausifiedBy}
use Rattle.step_search.specs.Search.{IsSearched}
use Rattle.step_search.specs.declared.outcome.Searched.{Searched}
use Rattle.step_search.specs.declared.outcome.Searched.TheVariants.{Refuted, Dry, Full, Heavy, Wide}
use Rattle.elaborate.specs.declared.answer.Reason.{Reason}
use Rattle.elaborate.specs.declared.answer.Reason.TheVariants as why
use Rattle.elaborate.specs.declared.answer.Rule.TheVariants.{Search}
use Rattle.elaborate.specs.declared.answer.StepAnswer.{StepAnswer}
use Rattle.elaborate.specs.declared.answer.StepAnswer.TheVariants.{Accepted, Unverified}
use Rattle.elaborate.specs.Answers.{IsFoundFrom, IsLeftOpen, IsNotEntailed, IsSearchAnswer}
use Rattle.elaborate.specs.code.Proofs.{IsFoundAtOnce, IsOpenAnswer}
use Rattle.elaborate.proofs.StepAnswers.{derived}

-- by a proof part by part, or by functions
module _ (t : Statements) (w : Vocabulary) (e : w ≡ t.vocabulary) (parents : List Parent) (line : Form) (o : Option Proof) (shown : IsLineByParts w parents line o) where
  pub parts_found : (p : Proof) → AreOfTheory t parents → o ≡ Some p → IsFoundAtOnce t parents line (Some (Lemma p ∷ []))
  parts_found p all is =
      let here : ByParts w parents line × ShowsLine w parents line p = subst (IsLineByParts w parents line) is shown in
      let own : ByParts t.vocabulary parents line × ShowsLine t.vocabulary parents line p =
      subst (λ (x : Vocabulary). ByParts x parents line × ShowsLine x parents line p) e here in
      inl (own.0, derived t parents line p all own.1)

  pub functions_found : o ≡ None → (found : Option (List Entry)) → IfSome found (IsClausifiedBy t parents line) → IsFoundAtOnce t parents line found
  functions_found is None h = subst (λ (x : Vocabulary). ByParts x parents line → ⊥) e (subst (IsLineByParts w parents line) is shown)
  functions_found is (Some entries) h = inr h

-- the answer with entries so found, or with those of a search
module _ (t : Statements) (parents : List Parent) (line : Form) (limit : ℕ) where
  at_once : (entries : List Entry) → IsFoundAtOnce t parents line (Some entries) → IsFoundFrom t parents line limit entries
  at_once entries (inl by_parts) = inl by_parts
  at_once entries (inr by_functions) = inr (inl by_functions)

  pub at_once_answer : (o : Option (List Entry)) (entries : List Entry) → o ≡ Some entries → IsFoundAtOnce t parents line o → IsSearchAnswer t parents line limit (Accepted Search (numbers_of parents) entries)
  at_once_answer o entries is found = (refl, inl (refl, at_once entries (subst (IsFoundAtOnce t parents line) is found)))

  -- the way in which a search that follows ends
  module _ (s : Searched) (searched : IsSearched t parents line limit s) where
    pub ends : (end : Searched) → s ≡ end → IsSearched t parents line limit end
    ends end is = subst (IsSearched t parents line limit) is searched

    pub refuted_answer : (entries : List Entry) → s ≡ Refuted entries → IsSearchAnswer t parents line limit (Accepted Search (numbers_of parents) entries)
    refuted_answer entries is = (refl, inl (refl, inr (inr (ends (Refuted entries) is))))

  module _ (o : Option (List Entry)) (none : o ≡ None) (found : IsFoundAtOnce t parents line o) where
    no_parts : ByParts t.vocabulary parents line → ⊥
    no_parts = subst (IsFoundAtOnce t parents line) none found

    pub wide_answer : (s : Searched) → s ≡ Wide → IsSearched t parents line limit s → IsSearchAnswer t parents line limit (Unverified why.Wide)
    wide_answer s is searched = (no_parts, ends s searched Wide is)

    -- where a decision follows
    pub open_answer : (reason : Reason) → IsSearched t parents line limit Dry ⊎ (IsSearched t parents line limit Full ⊎ IsSearched t parents line limit Heavy)
        → (IsNotEntailed parents line → IsLeftOpen t parents line limit reason) → (answer : StepAnswer) → IsOpenAnswer t parents line reason answer → IsSearchAnswer t parents line limit answer
    open_answer reason unrefuted left (Accepted rule cites entries) (is, all, entailed) = (all, inr (is, record { no_parts = no_parts; unrefuted = unrefuted; entailed = entailed }))
    open_answer reason unrefuted left (Unverified r) (same, none_entailed) = (no_parts, subst (IsLeftOpen t parents line limit) (sym same) (left none_entailed))
