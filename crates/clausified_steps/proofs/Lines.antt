-- The entries of a line: those of the functions, the lemma of the formula with them, and then the lemma of the line.
use Rattle.std.specs.Prelude.{ℕ, zero, suc, ◌≡◌, ◌+◌, true, false, List, [], ◌∷◌, ◌++◌, length, Option, Some, slice_get, refl}
use Rattle.std.specs.List.{All as Every, AllByRecursion as Each}
use Rattle.std.specs.Option.{option_map}
use Rattle.std.proofs.Common.{ap, sym, subst, ◌∙◌, arith, append_assoc}
use Rattle.std.proofs.lemmas.List.{length-append}
use Rattle.std.proofs.lemmas.Option.{slice_get-map}
use Rattle.fof_terms.specs.declared.form.Form.{Form}
use Rattle.fof_terms.specs.Occurs.{occurs_in}
use Rattle.fof_terms.specs.Vocabulary.{Vocabulary}
use Rattle.clause_form.specs.Norm.{norm_of}
use Rattle.clause_form.specs.Paths.{forms_of}
use Rattle.clause_form.specs.declared.path.Parent.{Parent}
use Rattle.clause_proofs.specs.Refuting.{theory_of}
use Rattle.clause_proofs.specs.Shown.{ShowsLine}
use Rattle.clause_rules.specs.Steps.{AreReady, IsReady}
use Rattle.derive_kit.specs.Derived.{AreOfTheory, numbers_of, HasCited, Adds, IsDerivedFrom, with_formulas}
use Rattle.kernel.specs.Statements.{Statements}
use Rattle.kernel.specs.Proves.{Proves}
use Rattle.kernel.specs.Entries.{IsFresh, Admits, with_formula}
use Rattle.kernel.specs.declared.entry.Entry.{Entry}
use Rattle.kernel.specs.declared.entry.Entry.TheVariants.{Lemma}
use Rattle.kernel.specs.declared.proof.Proof.{Proof}
use Rattle.kernel.proofs.EntryLaws.{admits_more}
use Rattle.norm_parts.specs.ByParts.{ByParts}
use Rattle.norm_parts.specs.Shown.{IsLineByParts}
use Rattle.skolem_fresh.specs.declared.just.Use.{Use}
use Rattle.skolem_fresh.specs.declared.just.SkolemJust.TheVariants.{Skolem}
use Rattle.skolem_fresh.specs.Justified.{ShowsSkolem}
use Rattle.skolem_proofs.specs.Choosing.{ChooseInTurn}
use Rattle.skolem_proofs.proofs.Implied.{at_end}
use Rattle.skolem_proofs.proofs.Lacking.{norm_lacks}
use Rattle.clausified_steps.specs.Clausified.{stated, IsClausifiedBy}
use Rattle.clausified_steps.specs.code.Forms.{IsAmong, IsFormBy}
use Rattle.clausified_steps.proofs.Among.{every_at, every_one, every_none, only_one}
use Rattle.clausified_steps.proofs.Counted.{added_count}
use Rattle.clausified_steps.proofs.Lacking.{others_there}
use Rattle.skolem_proofs.proofs.Others.{made_lacks}

-- what a list has at a place, it has there with more behind it
still_there : {X : Type 0} (xs ys : List X) (k : ℕ) (x : X) → slice_get xs k ≡ Some x → slice_get (xs ++ ys) k ≡ Some x
still_there [] ys k x e = cc
still_there (y ∷ xs) ys zero x e = e
still_there (y ∷ xs) ys (suc k) x e = still_there xs ys k x e

every_more : {X : Type 0} (P : X → Type 0) (xs : List X) (x : X) → Every P xs → P x → Every P (xs ++ x ∷ [])
every_more P [] x all h = every_one P x [] h (every_none P)
every_more P (y ∷ xs) x all h = every_one P y (xs ++ x ∷ []) (all 0 y (omega arith)) (every_more P xs x (λ i d lt. all (suc i) d (omega arith)) h)

each_every : {X : Type 0} (P : X → Type 0) (xs : List X) → ((i : ℕ) (x : X) → slice_get xs i ≡ Some x → P x) → Every P xs
each_every P [] h = every_none P
each_every P (x ∷ xs) h = every_one P x xs (h 0 x refl) (each_every P xs (λ i y e. h (suc i) y e))

-- the formula as a parent stands among those that the rules may be asked about
pub all_ready : (t : Statements) (w : Vocabulary) (p form : Form) (uses : List Use) (parents all : List Parent) → w ≡ t.vocabulary → all ≡ stated t uses form ∷ parents → IsFormBy t p uses form → AreReady t.vocabulary parents → AreReady w all
all_ready t w p form uses parents all ew e f ready =
    subst (λ v. AreReady v all) (sym ew) (subst (AreReady t.vocabulary) (sym e) (every_one (λ (q : Parent). IsReady t.vocabulary q.form) (stated t uses form) parents f.ready ready))

-- the parent alone gives the formula
pub form_shown : (t : Statements) (p : Parent) (own : List Parent) (form : Form) (uses : List Use) → own ≡ p ∷ [] → IsFormBy t p.form uses form → ShowsSkolem t (forms_of own) form (Skolem 0 uses)
form_shown t p own form uses e f = subst (λ xs. ShowsSkolem t (forms_of xs) form (Skolem 0 uses)) (sym e) (p.form, norm_of true p.form, form, refl, f.skolem)

module _ (t : Statements) (parents : List Parent) (all : AreOfTheory t parents) (u : Statements) (h : HasCited t (numbers_of parents) u) where
  -- a parent still stands at its number
  cited : (i : ℕ) (q : Parent) → slice_get parents i ≡ Some q → slice_get u.formulas q.number ≡ Some q.form
  cited i q at =
      let number : slice_get (numbers_of parents) i ≡ Some q.number = slice_get-map (λ (x : Parent). x.number) parents i ∙ ap (option_map (λ (x : Parent). x.number)) at in
      every_at (λ n. slice_get u.formulas n ≡ slice_get t.formulas n) (numbers_of parents) i q.number h.formulas number
      ∙ every_at (λ (x : Parent). slice_get t.formulas x.number ≡ Some x.form) parents i q all at

  one_cited : (p : Parent) (i : ℕ) → slice_get parents i ≡ Some p → (own : List Parent) → own ≡ p ∷ [] → HasCited t (numbers_of own) u
  one_cited p i at own e = record {
    vocabulary = h.vocabulary;
    count = h.count;
    formulas = subst (λ xs. Every (λ n. slice_get u.formulas n ≡ slice_get t.formulas n) (numbers_of xs)) (sym e)
        (only_one (λ n. slice_get u.formulas n ≡ slice_get t.formulas n) p.number (p.number ∷ []) refl
        (cited i p at ∙ sym (every_at (λ (x : Parent). slice_get t.formulas x.number ≡ Some x.form) parents i p all at)));
    fresh = h.fresh;
  }

  -- with formulas that are added, the parents stand there, and the last of them behind as many
  all_stated : (form : Form) (uses : List Use) (before : List Form) → length before ≡ length uses → AreOfTheory (theory_of t.vocabulary (u.formulas ++ (before ++ form ∷ []))) (stated t uses form ∷ parents)
  all_stated form uses before count =
      let fs = u.formulas ++ (before ++ form ∷ []) in
      let behind : length (u.formulas ++ before) ≡ length t.formulas + length uses = length-append u.formulas before ∙ (let same = h.count in omega arith) in
      let last : slice_get fs (length t.formulas + length uses) ≡ Some form =
      ap (λ xs. slice_get xs (length t.formulas + length uses)) (sym (append_assoc u.formulas before (form ∷ []))) ∙ at_end (u.formulas ++ before) [] form (length t.formulas + length uses) behind in
      every_one (λ (q : Parent). slice_get fs q.number ≡ Some q.form) (stated t uses form) parents last
      (each_every (λ (q : Parent). slice_get fs q.number ≡ Some q.form) parents (λ i q at. still_there u.formulas (before ++ form ∷ []) q.number q.form (cited i q at)))

module _ (t : Statements) (parents : List Parent) (all : AreOfTheory t parents) (line : Form) (p : Parent) (among : IsAmong parents p) (form : Form) (uses : List Use) (f : IsFormBy t p.form uses form)
    (occur : Each (λ (x : Use). occurs_in x.function line ≡ true) uses) (own : List Parent) (eo : own ≡ p ∷ []) (made : List Entry) (choices : List Entry) (first : Proof) (is : made ≡ choices ++ Lemma first ∷ []) (choose : ChooseInTurn uses choices)
    (d : IsDerivedFrom t (numbers_of own) made form) (proof : Proof) (shows : ShowsLine t.vocabulary (stated t uses form ∷ parents) line proof) where
  abbrev before : List Form
  before = d.before ++ form ∷ []

  module _ (u : Statements) (h : HasCited t (numbers_of parents) u) where
    abbrev with_all : Statements
    with_all = with_formulas u before

    adds_form : Adds u made d.before form
    adds_form = d.adds u (one_cited t parents all u h p among.place among.there own eo)

    count : length d.before ≡ length uses
    count =
        let added : length (u.formulas ++ before) ≡ length u.formulas + length uses + 1 = added_count u with_all uses choices first choose (subst (λ (es : List Entry). Admits u es with_all) is adds_form.legal) in
        let one = length-append u.formulas before in
        let two : length before ≡ length d.before + 1 = length-append d.before (form ∷ []) in
        omega arith

    shown : Proves with_all [] [] proof line
    shown = subst (λ v. Proves (theory_of v (u.formulas ++ before)) [] [] proof line) (sym h.vocabulary) (shows (u.formulas ++ before) (all_stated t parents all u h form uses d.before count))

    lacks_form : (k : ℕ) → IsFresh k u → occurs_in k line ≡ false → occurs_in k form ≡ false
    lacks_form k fresh off =
        let parent_off : occurs_in k p.form ≡ false = every_at (λ a. occurs_in k a ≡ false) u.formulas p.number p.form fresh (cited t parents all u h among.place p among.there) in
        made_lacks k t.vocabulary [] uses (norm_of true p.form) form f.skolem.replaced (norm_lacks k p.form true parent_off) (others_there k line uses off occur)

    adds : Adds u (made ++ Lemma proof ∷ []) before line
    adds =
        let last = admits_more u with_all (with_formula with_all line) made (Lemma proof) adds_form.legal (line, shown) (line, shown, refl) in
        record {
          legal = subst (Admits u (made ++ Lemma proof ∷ [])) (ap (λ (gs : List Form). record u { formulas = gs }) (append_assoc u.formulas before (line ∷ []))) last;
          speak = λ k fresh off. every_more (λ a. occurs_in k a ≡ false) d.before form (adds_form.speak k fresh (lacks_form k fresh off)) (lacks_form k fresh off);
        }

  derived : IsDerivedFrom t (numbers_of parents) (made ++ Lemma proof ∷ []) line
  derived = record { first = made; last = proof; is = refl; before = before; adds = adds }

  pub clausified : (entries : List Entry) → entries ≡ made ++ Lemma proof ∷ [] → ByParts t.vocabulary (stated t uses form ∷ parents) line → IsClausifiedBy t parents line entries
  clausified entries e parts = record {
    place = among.place;
    parent = p;
    form = form;
    uses = uses;
    there = among.there;
    gives = record { skolem = f.skolem; occur = occur; parts = parts };
    choices = choices;
    first = first;
    last = proof;
    is = e ∙ ap (λ (es : List Entry). es ++ Lemma proof ∷ []) is ∙ append_assoc choices (Lemma first ∷ []) (Lemma proof ∷ []);
    choose = choose;
    derives = subst (λ (es : List Entry). IsDerivedFrom t (numbers_of parents) es line) (sym e) derived;
  }

-- as code meets it
pub shown_by_parts : (v w : Vocabulary) (all parents : List Parent) (line : Form) (found : Option Proof) (proof : Proof) → w ≡ v → all ≡ parents → found ≡ Some proof → IsLineByParts w all line found → ByParts v parents line × ShowsLine v parents line proof
shown_by_parts v w all parents line found proof ev ea e h = subst (IsLineByParts v parents line) e (subst (λ xs. IsLineByParts v xs line found) ea (subst (λ x. IsLineByParts x all line found) ev h))
