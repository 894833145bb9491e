-- Facts that are shown in turn, and where they stand.
use Rattle.std.specs.Prelude.{ℕ, ◌≡◌, ◌+◌, List, [], ◌∷◌, ◌++◌, length, Some, slice_get, Option, refl}
use Rattle.std.specs.List.{AllByRecursion}
use Rattle.std.proofs.Common.{sym, ap, subst, ◌∙◌, arith, suc, append-nil}
use Rattle.std.proofs.lemmas.List.{append_assoc, map-append, length-append}
use Rattle.fof_terms.specs.declared.form.Form.{Form, Not}
use Rattle.fof_terms.specs.Sorts.{Sorted}
use Rattle.fof_terms.specs.Vocabulary.{Vocabulary}
use Rattle.fof_terms.specs.declared.signature.Symbol.{Symbol}
use Rattle.clause_rules.proofs.ListPlaces.{before}
use Rattle.kernel.specs.Statements.{Statements}
use Rattle.kernel.specs.Proves.{Proves}
use Rattle.kernel.specs.Entries.{Admits, choice, with_formula}
use Rattle.kernel.specs.declared.entry.Entry.{Entry}
use Rattle.kernel.specs.declared.entry.Entry.TheVariants.{Declare, Lemma, Name, Choice}
use Rattle.kernel.specs.declared.proof.Proof.{Proof}
use Rattle.kernel.proofs.EntryLaws.{admits_append, admits_more}
use Rattle.input_proofs.specs.Opened.{ShowEach}
use Rattle.negated_lemmas.specs.Negated.{lemmas_by, with_denied}
use Rattle.skolem_fresh.specs.Entered.{added_by, formulas_told}
use Rattle.skolem_fresh.specs.Told.{AddedFrom}
use Rattle.search_proofs.specs.code.Facts.{Setting, IsOf, AreShown, StandsAt, first_fact}
use Rattle.search_proofs.specs.code.Members.{ShowMore}

pub seam : {X : Type 0} (xs ys : List X) (k : ℕ) (y : X) → slice_get ys k ≡ Some y → slice_get (xs ++ ys) (length xs + k) ≡ Some y
seam [] ys k y e = let same : k ≡ 0 + k = omega arith in subst (λ i. slice_get ys i ≡ Some y) same e
seam (x ∷ xs) ys k y e =
    let same : suc (length xs + k) ≡ length (x ∷ xs) + k = omega arith in
    subst (λ i. slice_get (x ∷ (xs ++ ys)) i ≡ Some y) same (seam xs ys k y e)

pub last_place : {X : Type 0} (xs : List X) (y : X) → slice_get (xs ++ y ∷ []) (length xs) ≡ Some y
last_place [] y = refl
last_place (x ∷ xs) y = last_place xs y

-- one fact more
pub denied_more : (t : Statements) (line : Form) (done : List Form) (a : Form) → with_formula (with_denied t line done) a ≡ with_denied t line (done ++ a ∷ [])
denied_more t line done a = ap (λ (fs : List Form). record t { formulas = fs }) (append_assoc t.formulas (Not line ∷ done) (a ∷ []))

-- proofs that show the formulas at their places, wherever the earlier facts stand
pub in_turn : (t : Statements) (line : Form) (ps : List Proof) (done rest : List Form) → ((facts : List Form) → ShowEach (with_denied t line (done ++ facts)) ps rest)
    → Admits (with_denied t line done) (lemmas_by ps) (with_denied t line (done ++ rest))
in_turn t line [] done [] all = ap (with_denied t line) (append-nil done)
in_turn t line [] done (a ∷ rest) all = absurd (all [])
in_turn t line (p ∷ ps) done [] all = absurd (all [])
in_turn t line (p ∷ ps) done (a ∷ rest) all =
    let shown : Proves (with_denied t line done) [] [] p a = subst (λ (fs : List Form). Proves (with_denied t line fs) [] [] p a) (append-nil done) (all []).0 in
    let next = with_denied t line (done ++ a ∷ []) in
    let others = in_turn t line ps (done ++ a ∷ []) rest (λ facts. subst (λ (fs : List Form). ShowEach (with_denied t line fs) ps rest) (sym (append_assoc done (a ∷ []) facts)) (all (a ∷ facts)).1) in
    ((a, shown), (next, (a, shown, sym (denied_more t line done a)), subst (λ (fs : List Form). Admits next (lemmas_by ps) (with_denied t line fs)) (append_assoc done (a ∷ []) rest) others))

pub each_count : (t : Statements) (ps : List Proof) (as_ : List Form) → ShowEach t ps as_ → length as_ ≡ length ps
each_count t [] [] h = refl
each_count t [] (a ∷ as_) h = absurd h
each_count t (p ∷ ps) [] h = absurd h
each_count t (p ∷ ps) (a ∷ as_) h = ap suc (each_count t ps as_ h.1)

-- no fact yet
pub none_shown : (s : Setting) → AreShown s [] []
none_shown s = record { legal = λ t of. refl; count = refl }

module _ (s : Setting) where
  -- some more
  pub all_shown : (ps qs : List Proof) (facts rest : List Form) → AreShown s ps facts → length rest ≡ length qs
      → ((t : Statements) → IsOf s t → (more : List Form) → ShowEach (with_denied t s.line (facts ++ more)) qs rest) → AreShown s (ps ++ qs) (facts ++ rest)
  all_shown ps qs facts rest h many shows = record {
    legal = λ t of.
        let first = with_denied t s.line [] in
        let last = with_denied t s.line (facts ++ rest) in
        subst (λ (es : List Entry). Admits first es last) (sym (map-append (λ (q : Proof). Lemma q) ps qs))
        (admits_append first (with_denied t s.line facts) last (lemmas_by ps) (lemmas_by qs) (h.legal t of) (in_turn t s.line qs facts rest (shows t of)));
    count = let one = length-append facts rest in let two = length-append ps qs in let three = h.count in omega arith;
  }

  -- one more
  pub one_shown : (ps : List Proof) (facts : List Form) (p : Proof) (a : Form) → AreShown s ps facts → ((t : Statements) → IsOf s t → Proves (with_denied t s.line facts) [] [] p a)
      → AreShown s (ps ++ p ∷ []) (facts ++ a ∷ [])
  one_shown ps facts p a h shows = record {
    legal = λ t of.
        let first = with_denied t s.line [] in
        let last = with_denied t s.line (facts ++ a ∷ []) in
        subst (λ (es : List Entry). Admits first es last) (sym (map-append (λ (q : Proof). Lemma q) ps (p ∷ [])))
        (admits_more first (with_denied t s.line facts) last (lemmas_by ps) (Lemma p) (h.legal t of) (a, shows t of) (a, shows t of, sym (denied_more t s.line facts a)));
    count = let one = length-append facts (a ∷ []) in let two = length-append ps (p ∷ []) in let three = h.count in omega arith;
  }

  -- a fact stands in the theory at its number
  pub stands_in : (facts : List Form) (n : ℕ) (a : Form) (t : Statements) → IsOf s t → StandsAt s facts n a → slice_get (t.formulas ++ (Not s.line ∷ facts)) n ≡ Some a
  stands_in facts n a t of st =
      let count = of.count in
      let number = st.number_is in
      let place : length t.formulas + suc st.place ≡ n = omega arith in
      subst (λ i. slice_get (t.formulas ++ (Not s.line ∷ facts)) i ≡ Some a) place (seam t.formulas (Not s.line ∷ facts) (suc st.place) a st.there)

  -- and stays there
  pub stands_still : (facts more : List Form) (n : ℕ) (a : Form) → StandsAt s facts n a → StandsAt s (facts ++ more) n a
  stands_still facts more n a st = record { place = st.place; number_is = st.number_is; there = before facts more st.place a st.there }

  pub stands_last : (ps : List Proof) (facts : List Form) (n : ℕ) (a : Form) → AreShown s ps facts → n ≡ first_fact s + length ps → StandsAt s (facts ++ a ∷ []) n a
  stands_last ps facts n a h e = record { place = length facts; number_is = let count = h.count in omega arith; there = last_place facts a }

  -- more facts of a kind
  pub no_more : (P : Form → Type 0) (ps qs : List Proof) (facts : List Form) → AreShown s ps facts → qs ≡ ps → ShowMore s P qs facts facts
  no_more P ps qs facts h e = record { shown = subst (λ (xs : List Proof). AreShown s xs facts) (sym e) h; more = []; is = sym (append-nil facts); each = tt }

  pub one_of : (P : Form → Type 0) (ps qs : List Proof) (facts : List Form) (p : Proof) (a : Form) → AreShown s ps facts → ((t : Statements) → IsOf s t → Proves (with_denied t s.line facts) [] [] p a) → P a
      → qs ≡ ps ++ p ∷ [] → ShowMore s P qs facts (facts ++ a ∷ [])
  one_of P ps qs facts p a h shows is e = record {
    shown = subst (λ (xs : List Proof). AreShown s xs (facts ++ a ∷ [])) (sym e) (one_shown ps facts p a h shows);
    more = a ∷ [];
    is = refl;
    each = (is, tt);
  }

  each_append : (P : Form → Type 0) (as_ bs : List Form) → AllByRecursion P as_ → AllByRecursion P bs → AllByRecursion P (as_ ++ bs)
  each_append P [] bs h g = g
  each_append P (a ∷ as_) bs h g = (h.0, each_append P as_ bs h.1 g)

  each_weaker : (P Q : Form → Type 0) → ((a : Form) → P a → Q a) → (as_ : List Form) → AllByRecursion P as_ → AllByRecursion Q as_
  each_weaker P Q f [] h = tt
  each_weaker P Q f (a ∷ as_) h = (f a h.0, each_weaker P Q f as_ h.1)

  pub shown_twice : (P : Form → Type 0) (ps qs : List Proof) (old mid new : List Form) → ShowMore s P ps old mid → ShowMore s P qs mid new → ShowMore s P qs old new
  shown_twice P ps qs old mid new h g = record {
    shown = g.shown;
    more = h.more ++ g.more;
    is = g.is ∙ (ap (λ (fs : List Form). fs ++ g.more) h.is ∙ append_assoc old h.more g.more);
    each = each_append P h.more g.more h.each g.each;
  }

  pub shown_as : (P Q : Form → Type 0) → ((a : Form) → P a → Q a) → (ps : List Proof) (old new : List Form) → ShowMore s P ps old new → ShowMore s Q ps old new
  shown_as P Q f ps old new h = record { shown = h.shown; more = h.more; is = h.is; each = each_weaker P Q f h.more h.each }

  pub stands_on : (P : Form → Type 0) (ps : List Proof) (old new : List Form) (n : ℕ) (a : Form) → ShowMore s P ps old new → StandsAt s old n a → StandsAt s new n a
  stands_on P ps old new n a h st = subst (λ (fs : List Form). StandsAt s fs n a) (sym h.is) (stands_still old h.more n a st)

-- what the choices add stays where more formulas stand behind
pub added_still : (t u : Statements) (n : ℕ) (choices : List Entry) (more : List Form) → u.vocabulary ≡ t.vocabulary → u.formulas ≡ t.formulas ++ more → AddedFrom t n choices → AddedFrom u n choices
added_still t u n [] more v e h = tt
added_still t u n (Choice f a ∷ rest) more v e h = (
  (
    h.0.0,
    ap (λ (w : Vocabulary). slice_get w.symbols f) v ∙ h.0.1,
    ap (λ (fs : List Form). slice_get fs n) e ∙ before t.formulas more n (choice f h.0.0 a) h.0.2,
    subst (λ (w : Vocabulary). Sorted w [] (choice f h.0.0 a)) (sym v) h.0.3,
  ),
  added_still t u (suc n) rest more v e h.1,
)
added_still t u n (Declare d ∷ rest) more v e h = absurd h
added_still t u n (Lemma p ∷ rest) more v e h = absurd h
added_still t u n (Name k a ∷ rest) more v e h = absurd h

-- one formula for each choice
pub told_count : (t : Statements) (n : ℕ) (choices : List Entry) → AddedFrom t n choices → length (formulas_told t.vocabulary choices) ≡ length choices
told_count t n [] h = refl
told_count t n (Choice f a ∷ rest) h =
    ap (λ (o : Option Symbol). length (added_by o f a (formulas_told t.vocabulary rest))) h.0.1 ∙ ap suc (told_count t (suc n) rest h.1)
told_count t n (Declare d ∷ rest) h = absurd h
told_count t n (Lemma p ∷ rest) h = absurd h
told_count t n (Name k a ∷ rest) h = absurd h
