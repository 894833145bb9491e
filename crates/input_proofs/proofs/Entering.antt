-- Choices of one formula behind those of others: legal in turn, and what they add.
use Rattle.std.specs.Prelude.{ℕ, suc, ◌≡◌, ◌+◌, List, [], ◌∷◌, ◌++◌, length, slice_get, Option, Some, None, refl}
use Rattle.std.proofs.Common.{ap, sym, subst, ◌∙◌, arith, append_assoc}
use Rattle.std.proofs.lemmas.List.{length-append}
use Rattle.fof_terms.specs.declared.form.Form.{Form}
use Rattle.fof_terms.specs.declared.signature.Symbol.{Symbol}
use Rattle.fof_terms.specs.Vocabulary.{Vocabulary}
use Rattle.kernel.specs.Statements.{Statements}
use Rattle.kernel.specs.Entries.{Admits}
use Rattle.kernel.proofs.EntryLaws.{admits_append}
use Rattle.kernel.specs.declared.entry.Entry.{Entry}
use Rattle.kernel.specs.declared.entry.Entry.TheVariants.{Declare, Lemma, Name, Choice}
use Rattle.derive_kit.specs.Derived.{with_formulas}
use Rattle.skolem_fresh.specs.declared.just.Use.{Use}
use Rattle.skolem_fresh.specs.Entered.{added_by, formulas_told, Enters}
use Rattle.skolem_fresh.specs.Told.{AddedFrom}
use Rattle.skolem_proofs.specs.Choosing.{ChooseInTurn}
use Rattle.input_proofs.specs.Opened.{AreChoices}

-- Entries by which functions choose.
pub choices_both : (told others : List Entry) → AreChoices told → AreChoices others → AreChoices (told ++ others)
choices_both [] others h g = g
choices_both (Choice f a ∷ told) others h g = choices_both told others h g
choices_both (Declare d ∷ told) others h g = absurd h
choices_both (Lemma p ∷ told) others h g = absurd h
choices_both (Name k a ∷ told) others h g = absurd h

pub are_choices : (uses : List Use) (told : List Entry) → ChooseInTurn uses told → AreChoices told
are_choices [] [] h = tt
are_choices [] (e ∷ told) h = absurd h
are_choices (u ∷ uses) [] h = absurd h
are_choices (u ∷ uses) (Choice f a ∷ told) h = are_choices uses told h.1
are_choices (u ∷ uses) (Declare d ∷ told) h = absurd h
are_choices (u ∷ uses) (Lemma p ∷ told) h = absurd h
are_choices (u ∷ uses) (Name k a ∷ told) h = absurd h

-- What they add.
added_more : (r : Option Symbol) (f : ℕ) (a : Form) (front rest : List Form) → added_by r f a (front ++ rest) ≡ added_by r f a front ++ rest
added_more None f a front rest = refl
added_more (Some sign) f a front rest = refl

pub formulas_both : (v : Vocabulary) (told others : List Entry) → formulas_told v (told ++ others) ≡ formulas_told v told ++ formulas_told v others
formulas_both v [] others = refl
formulas_both v (Choice f a ∷ told) others =
    ap (added_by (slice_get v.symbols f) f a) (formulas_both v told others) ∙ added_more (slice_get v.symbols f) f a (formulas_told v told) (formulas_told v others)
formulas_both v (Declare d ∷ told) others = formulas_both v told others
formulas_both v (Lemma p ∷ told) others = formulas_both v told others
formulas_both v (Name k a ∷ told) others = formulas_both v told others

pub added_first : (t : Statements) (n : ℕ) (told others : List Entry) → AddedFrom t n (told ++ others) → AddedFrom t n told
added_first t n [] others h = tt
added_first t n (Choice f a ∷ told) others h = (h.0, added_first t (suc n) told others h.1)
added_first t n (Declare d ∷ told) others h = absurd h
added_first t n (Lemma p ∷ told) others h = absurd h
added_first t n (Name k a ∷ told) others h = absurd h

pub added_then : (t : Statements) (n : ℕ) (told others : List Entry) → AddedFrom t n (told ++ others) → AddedFrom t (n + length told) others
added_then t n [] others h = let same : n ≡ n + 0 = omega arith in subst (λ m. AddedFrom t m others) same h
added_then t n (Choice f a ∷ told) others h =
    let same : suc n + length told ≡ n + suc (length told) = omega arith in
    subst (λ m. AddedFrom t m others) same (added_then t (suc n) told others h.1)
added_then t n (Declare d ∷ told) others h = absurd h
added_then t n (Lemma p ∷ told) others h = absurd h
added_then t n (Name k a ∷ told) others h = absurd h

added_together : (t : Statements) (n : ℕ) (told others : List Entry) → AddedFrom t n told → AddedFrom t (n + length told) others → AddedFrom t n (told ++ others)
added_together t n [] others h g = let same : n + 0 ≡ n = omega arith in subst (λ m. AddedFrom t m others) same g
added_together t n (Choice f a ∷ told) others h g =
    let same : n + suc (length told) ≡ suc n + length told = omega arith in
    (h.0, added_together t (suc n) told others h.1 (subst (λ m. AddedFrom t m others) same g))
added_together t n (Declare d ∷ told) others h g = absurd h
added_together t n (Lemma p ∷ told) others h g = absurd h
added_together t n (Name k a ∷ told) others h g = absurd h

added_length : (r : Option Symbol) (symbol : Symbol) (f : ℕ) (a : Form) (rest : List Form) → r ≡ Some symbol → length (added_by r f a rest) ≡ suc (length rest)
added_length None symbol f a rest e = cc
added_length (Some s) symbol f a rest e = refl

as_many : (t : Statements) (n : ℕ) (told : List Entry) → AddedFrom t n told → length (formulas_told t.vocabulary told) ≡ length told
as_many t n [] h = refl
as_many t n (Choice f a ∷ told) h =
    let rest = as_many t (suc n) told h.1 in
    let first = added_length (slice_get t.vocabulary.symbols f) h.0.0 f a (formulas_told t.vocabulary told) h.0.1 in
    omega arith
as_many t n (Declare d ∷ told) h = absurd h
as_many t n (Lemma p ∷ told) h = absurd h
as_many t n (Name k a ∷ told) h = absurd h

-- Legal in turn.
module _ (w : Statements) (told others : List Entry) where
  abbrev first_added : List Form
  first_added = formulas_told w.vocabulary told

  abbrev then_added : List Form
  then_added = formulas_told w.vocabulary others

  pub enters_both : Enters w told → Enters (with_formulas w first_added) others → Enters w (told ++ others)
  enters_both one two =
      let all = formulas_both w.vocabulary told others in
      let end : with_formulas (with_formulas w first_added) then_added ≡ with_formulas w (formulas_told w.vocabulary (told ++ others)) =
      ap (λ (fs : List Form). record w { formulas = fs }) (append_assoc w.formulas first_added then_added ∙ ap (λ (fs : List Form). w.formulas ++ fs) (sym all)) in
      record {
        admits = subst (Admits w (told ++ others)) end (admits_append w (with_formulas w first_added) (with_formulas (with_formulas w first_added) then_added) told others one.admits two.admits);
        stands = λ t e pre post g n many.
            let behind : t.formulas ≡ pre ++ (first_added ++ (then_added ++ post)) = g ∙ ap (λ (fs : List Form). pre ++ (fs ++ post)) all ∙ ap (λ (fs : List Form). pre ++ fs) (append_assoc first_added then_added post) in
            let first = one.stands t e pre (then_added ++ post) behind n many in
            let count : length first_added ≡ length told = ap (λ v. length (formulas_told v told)) (sym e) ∙ as_many t n told first in
            let sum = length-append pre first_added in
            let next : t.formulas ≡ (pre ++ first_added) ++ (then_added ++ post) = behind ∙ sym (append_assoc pre first_added (then_added ++ post)) in
            let rest = two.stands t e (pre ++ first_added) post next (n + length told) (omega arith) in
            added_together t n told others first rest;
      }
