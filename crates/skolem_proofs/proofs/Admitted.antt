-- The entries of the functions are legal in turn, and what they add has no symbols but those of the formula and the functions.
use Rattle.std.specs.Prelude.{ℕ, ◌≡◌, ◌+◌, true, false, nat_eq, List, [], ◌∷◌, ◌++◌, length, slice_get, Option, Some, None, refl}
use Rattle.std.specs.List.{AllByRecursion as Each, All as Every, IsDistinct, list_any}
use Rattle.std.proofs.Common.{ap, sym, subst, ◌∙◌, arith, append_assoc, suc}
use Rattle.std.proofs.lemmas.List.{length-append}
use Rattle.std.proofs.lemmas.List.Elements.{All-nil, All-append}
use Rattle.std.proofs.lemmas.Map.Keys.{IsDistinct-head, IsDistinct-tail}
use Rattle.fof_terms.specs.declared.form.Form.{Form, And, Or, All, Ex}
use Rattle.fof_terms.specs.declared.signature.Symbol.{Symbol}
use Rattle.fof_terms.specs.Instance.{instance_of}
use Rattle.fof_terms.specs.Occurs.{occurs_in}
use Rattle.fof_terms.proofs.OccursFacts.{occurs_in-And, occurs_in-Or, occurs_in-All, occurs_in-Ex}
use Rattle.fof_terms.specs.Vocabulary.{Vocabulary}
use Rattle.kernel.specs.Statements.{Statements}
use Rattle.kernel.specs.Entries.{choice, Admits, with_formula}
use Rattle.kernel.proofs.EntryLaws.{admits_append}
use Rattle.kernel.specs.declared.proof.Proof.{Proof}
use Rattle.kernel.specs.declared.entry.Entry.{Entry}
use Rattle.kernel.specs.declared.entry.Entry.TheVariants.{Declare, Lemma, Name, Choice}
use Rattle.derive_kit.specs.Derived.{with_formulas}
use Rattle.skolem_fresh.specs.declared.just.Use.{Use}
use Rattle.skolem_fresh.specs.Choosing.{IsWithin}
use Rattle.skolem_fresh.specs.Entered.{added_by, formulas_told, Enters}
use Rattle.skolem_fresh.specs.code.Only.{only_has}
use Rattle.skolem_fresh.proofs.OnlyFacts.{only_has-Ex}
use Rattle.skolem_fresh.specs.Renamed.{renamed}
use Rattle.skolem_fresh.specs.Told.{AddedFrom}
use Rattle.skolem_fresh.specs.Uses.{value_of, functions_of}
use Rattle.skolem_fresh.proofs.Admitting.{symbol, at_symbol, choice_sorted, may_choose, renamed_occurs}
use Rattle.skolem_fresh.proofs.Chosen.{arguments_only, within_all}
use Rattle.skolem_fresh.proofs.Entering.{AllFresh, AllAbsent, neither, enters_none, enters_more, fresh_after, absent_told, absent_body, absent_value, lacks_added}
use Rattle.skolem_fresh.proofs.Opened.{within_value}
use Rattle.skolem_fresh.proofs.WalkCode.{members_within}
use Rattle.skolem_fresh.proofs.WholeLines.{few_variables}
use Rattle.skolem_proofs.specs.Choosing.{AreOthers}
use Rattle.skolem_proofs.proofs.Others.{both_others, value_off}
use Rattle.skolem_proofs.specs.code.Witnessed.{IsWitnessed, AreWitnessed, itself, a_conjunction, a_disjunction, for_each, for_some, none, more}

-- Entries and others behind them.
added_more : (v : Vocabulary) (r : Option Symbol) (f : ℕ) (a : Form) (front rest : List Form) → added_by r f a (front ++ rest) ≡ added_by r f a front ++ rest
added_more v None f a front rest = refl
added_more v (Some sign) f a front rest = refl

formulas_both : (v : Vocabulary) (told others : List Entry) → formulas_told v (told ++ others) ≡ formulas_told v told ++ formulas_told v others
formulas_both v [] others = refl
formulas_both v (Choice f a ∷ told) others =
    ap (added_by (slice_get v.symbols f) f a) (formulas_both v told others) ∙ added_more v (slice_get v.symbols f) f a (formulas_told v told) (formulas_told v others)
formulas_both v (Declare d ∷ told) others = formulas_both v told others
formulas_both v (Lemma p ∷ told) others = formulas_both v told others
formulas_both v (Name k a ∷ told) others = formulas_both v told others

added_together : (t : Statements) (n : ℕ) (told others : List Entry) → AddedFrom t n told → AddedFrom t (n + length told) others → AddedFrom t n (told ++ others)
added_together t n [] others h g = let same : n + 0 ≡ n = omega arith in subst (λ m. AddedFrom t m others) same g
added_together t n (Choice f a ∷ told) others h g =
    let same : n + suc (length told) ≡ suc n + length told = omega arith in
    (h.0, added_together t (suc n) told others h.1 (subst (λ m. AddedFrom t m others) same g))
added_together t n (Declare d ∷ told) others h g = absurd h
added_together t n (Lemma p ∷ told) others h g = absurd h
added_together t n (Name k a ∷ told) others h g = absurd h

added_length : (r : Option Symbol) (symbol : Symbol) (f : ℕ) (a : Form) (rest : List Form) → r ≡ Some symbol → length (added_by r f a rest) ≡ suc (length rest)
added_length None symbol f a rest e = cc
added_length (Some s) symbol f a rest e = refl

-- there are as many formulas as entries
as_many : (t : Statements) (n : ℕ) (told : List Entry) → AddedFrom t n told → length (formulas_told t.vocabulary told) ≡ length told
as_many t n [] h = refl
as_many t n (Choice f a ∷ told) h =
    let rest = as_many t (suc n) told h.1 in
    let first = added_length (slice_get t.vocabulary.symbols f) h.0.0 f a (formulas_told t.vocabulary told) h.0.1 in
    omega arith
as_many t n (Declare d ∷ told) h = absurd h
as_many t n (Lemma p ∷ told) h = absurd h
as_many t n (Name k a ∷ told) h = absurd h

module _ (w : Statements) (told others : List Entry) where
  abbrev first_added : List Form
  first_added = formulas_told w.vocabulary told

  abbrev then_added : List Form
  then_added = formulas_told w.vocabulary others

  enters_both : Enters w told → Enters (with_formulas w first_added) others → Enters w (told ++ others)
  enters_both one two =
      let all = formulas_both w.vocabulary told others in
      let end : with_formulas (with_formulas w first_added) then_added ≡ with_formulas w (formulas_told w.vocabulary (told ++ others)) =
      ap (λ (fs : List Form). record w { formulas = fs }) (append_assoc w.formulas first_added then_added ∙ ap (λ (fs : List Form). w.formulas ++ fs) (sym all)) in
      record {
        admits = subst (Admits w (told ++ others)) end (admits_append w (with_formulas w first_added) (with_formulas (with_formulas w first_added) then_added) told others one.admits two.admits);
        stands = λ t e pre post g n many.
            let behind : t.formulas ≡ pre ++ (first_added ++ (then_added ++ post)) = g ∙ ap (λ (fs : List Form). pre ++ (fs ++ post)) all ∙ ap (λ (fs : List Form). pre ++ fs) (append_assoc first_added then_added post) in
            let first = one.stands t e pre (then_added ++ post) behind n many in
            let count : length first_added ≡ length told = ap (λ v. length (formulas_told v told)) (sym e) ∙ as_many t n told first in
            let sum = length-append pre first_added in
            let next : t.formulas ≡ (pre ++ first_added) ++ (then_added ++ post) = behind ∙ sym (append_assoc pre first_added (then_added ++ post)) in
            let rest = two.stands t e (pre ++ first_added) post next (n + length told) (omega arith) in
            added_together t n told others first rest;
      }

-- What is added lacks a symbol that is neither in the formula nor one of the functions.
module _ (k : ℕ) (v : Vocabulary) where
  abbrev Lack : List Form → Type 0
  Lack fs = Every (λ c. occurs_in k c ≡ false) fs

  mutual
    pub told_lacks : (scope : List ℕ) (n : ℕ) (uses : List Use) (a b : Form) (told : List Entry) (p : Proof) → IsWitnessed v scope n uses a b told p → occurs_in k a ≡ false → AreOthers k uses → Lack (formulas_told v told)
    told_lacks scope n uses a b told p (itself sc m c s) off others = All-nil (λ c. occurs_in k c ≡ false)
    told_lacks scope n uses a b told p (a_conjunction sc m us as_ bs ts ps w) off others = all_lack sc m us as_ bs ts ps w (sym (occurs_in-And k as_) ∙ off) others
    told_lacks scope n uses a b told p (a_disjunction sc m us as_ bs ts ps w) off others = all_lack sc m us as_ bs ts ps w (sym (occurs_in-Or k as_) ∙ off) others
    told_lacks scope n uses a b told p (for_each sc m us s c d ts q w) off others = told_lacks (s ∷ sc) m us c d ts q w (sym (occurs_in-All k s c) ∙ off) others
    told_lacks scope n uses a b told p (for_some sc m u us s c d ts step q may shows w) off others =
        let inside : occurs_in k c ≡ false = sym (occurs_in-Ex k s c) ∙ off in
        let rest = told_lacks sc (m + 1) us (instance_of c (value_of u)) d ts q w (value_off k u c others.0 inside) others.1 in
        lacks_added k v u.function (renamed u.variables 1 c) (slice_get v.symbols u.function) (formulas_told v ts) others.0 (renamed_occurs k u.variables c 1 ∙ inside) rest

    all_lack : (scope : List ℕ) (n : ℕ) (uses : List Use) (as_ bs : List Form) (told : List Entry) (ps : List Proof) → AreWitnessed v scope n uses as_ bs told ps → list_any (occurs_in k) as_ ≡ false → AreOthers k uses → Lack (formulas_told v told)
    all_lack scope n uses as_ bs told ps (none sc m) off others = All-nil (λ c. occurs_in k c ≡ false)
    all_lack scope n uses as_ bs told ps (more sc m first rest c d cs ds ts os q qs w ws) off others =
        let parts = neither (occurs_in k c) (list_any (occurs_in k) cs) off in
        let two = both_others k first rest others in
        subst Lack (sym (formulas_both v ts os))
        (All-append (λ c. occurs_in k c ≡ false) (formulas_told v ts) (formulas_told v os) (told_lacks sc m first c d ts q w parts.0 two.0) (all_lack sc (m + length ts) rest cs ds os qs ws parts.1 two.1))

-- Functions of parts, of which no two are one.
distinct_both : (first rest : List Use) → IsDistinct nat_eq (functions_of (first ++ rest)) → IsDistinct nat_eq (functions_of first) × IsDistinct nat_eq (functions_of rest) × Each (λ (u : Use). AreOthers u.function first) rest
unfolding IsDistinct
distinct_both first rest h = (left first h, right first h, apart rest first h) where
  front_apart : (x : ℕ) (us ws : List Use) → Each (λ y. nat_eq x y ≡ false) (functions_of (us ++ ws)) → Each (λ y. nat_eq x y ≡ false) (functions_of us) × Each (λ y. nat_eq x y ≡ false) (functions_of ws)
  front_apart x [] ws e = (tt, e)
  front_apart x (u ∷ us) ws e = let parts = front_apart x us ws e.1 in ((e.0, parts.0), parts.1)

  left : (us : List Use) → IsDistinct nat_eq (functions_of (us ++ rest)) → IsDistinct nat_eq (functions_of us)
  left [] e = tt
  left (u ∷ us) e = ((front_apart u.function us rest (IsDistinct-head nat_eq u.function (functions_of (us ++ rest)) e)).0, left us (IsDistinct-tail nat_eq u.function (functions_of (us ++ rest)) e))

  right : (us : List Use) → IsDistinct nat_eq (functions_of (us ++ rest)) → IsDistinct nat_eq (functions_of rest)
  right [] e = e
  right (u ∷ us) e = right us (IsDistinct-tail nat_eq u.function (functions_of (us ++ rest)) e)

  one_apart : (us : List Use) (w : Use) (ws : List Use) → IsDistinct nat_eq (functions_of (us ++ w ∷ ws)) → AreOthers w.function us
  one_apart [] w ws e = tt
  one_apart (u ∷ us) w ws e =
      let head = IsDistinct-head nat_eq u.function (functions_of (us ++ w ∷ ws)) e in
      ((front_apart u.function us (w ∷ ws) head).1.0, one_apart us w ws (IsDistinct-tail nat_eq u.function (functions_of (us ++ w ∷ ws)) e))

  without : (us : List Use) (w : Use) (ws : List Use) → IsDistinct nat_eq (functions_of (us ++ w ∷ ws)) → IsDistinct nat_eq (functions_of (us ++ ws))
  without [] w ws e = IsDistinct-tail nat_eq w.function (functions_of ws) e
  without (u ∷ us) w ws e =
      let parts = front_apart u.function us (w ∷ ws) (IsDistinct-head nat_eq u.function (functions_of (us ++ w ∷ ws)) e) in
      (together us ws parts.0 parts.1.1, without us w ws (IsDistinct-tail nat_eq u.function (functions_of (us ++ w ∷ ws)) e)) where
        together : (xs ys : List Use) → Each (λ y. nat_eq u.function y ≡ false) (functions_of xs) → Each (λ y. nat_eq u.function y ≡ false) (functions_of ys) → Each (λ y. nat_eq u.function y ≡ false) (functions_of (xs ++ ys))
        together [] ys f g = g
        together (x ∷ xs) ys f g = (f.0, together xs ys f.1 g)

  apart : (ws us : List Use) → IsDistinct nat_eq (functions_of (us ++ ws)) → Each (λ (u : Use). AreOthers u.function us) ws
  apart [] us e = tt
  apart (w ∷ ws) us e = (one_apart us w ws e, apart ws us (without us w ws e))

fresh_both : (w : Statements) (first rest : List Use) → AllFresh w (first ++ rest) → AllFresh w first × AllFresh w rest
fresh_both w [] rest h = (tt, h)
fresh_both w (u ∷ first) rest h = let parts = fresh_both w first rest h.1 in ((h.0, parts.0), parts.1)

-- none of the functions stands in one of the formulas
abbrev NoneIn : List Form → List Use → Type 0
NoneIn as_ uses = Each (λ (u : Use). list_any (occurs_in u.function) as_ ≡ false) uses

absent_first : (a : Form) (as_ : List Form) (first rest : List Use) → NoneIn (a ∷ as_) (first ++ rest) → AllAbsent a first
absent_first a as_ [] rest h = tt
absent_first a as_ (u ∷ first) rest h = ((neither (occurs_in u.function a) (list_any (occurs_in u.function) as_) h.0).0, absent_first a as_ first rest h.1)

absent_rest : (a : Form) (as_ : List Form) (first rest : List Use) → NoneIn (a ∷ as_) (first ++ rest) → AllAbsent a rest × NoneIn as_ rest
absent_rest a as_ [] [] h = (tt, tt)
absent_rest a as_ [] (u ∷ rest) h =
    let parts = neither (occurs_in u.function a) (list_any (occurs_in u.function) as_) h.0 in
    let others = absent_rest a as_ [] rest h.1 in
    ((parts.0, others.0), (parts.1, others.1))
absent_rest a as_ (u ∷ first) rest h = absent_rest a as_ first rest h.1

absent_members : (as_ : List Form) (uses : List Use) → AllAbsent (And as_) uses → NoneIn as_ uses
absent_members as_ [] h = tt
absent_members as_ (u ∷ uses) h = (sym (occurs_in-And u.function as_) ∙ h.0, absent_members as_ uses h.1)

absent_cases : (as_ : List Form) (uses : List Use) → AllAbsent (Or as_) uses → NoneIn as_ uses
absent_cases as_ [] h = tt
absent_cases as_ (u ∷ uses) h = (sym (occurs_in-Or u.function as_) ∙ h.0, absent_cases as_ uses h.1)

absent_under : (s : ℕ) (a : Form) (uses : List Use) → AllAbsent (All s a) uses → AllAbsent a uses
absent_under s a [] h = tt
absent_under s a (u ∷ uses) h = (sym (occurs_in-All u.function s a) ∙ h.0, absent_under s a uses h.1)

module _ (v : Vocabulary) where
  -- the theory of these formulas
  abbrev theory : List Form → Statements
  theory formulas = record { vocabulary = v; formulas = formulas }

  -- functions that stand neither in the formula nor among its own are new to what its own add
  module _ (formulas : List Form) (scope : List ℕ) (n : ℕ) (first : List Use) (a b : Form) (told : List Entry) (p : Proof) (h : IsWitnessed v scope n first a b told p) where
    still_fresh : (rest : List Use) → AllFresh (theory formulas) rest → AllAbsent a rest → Each (λ (u : Use). AreOthers u.function first) rest → AllFresh (theory (formulas ++ formulas_told v told)) rest
    still_fresh [] fresh absent apart = tt
    still_fresh (u ∷ rest) fresh absent apart =
        (All-append (λ c. occurs_in u.function c ≡ false) formulas (formulas_told v told) fresh.0 (told_lacks u.function v scope n first a b told p h absent.0 apart.0), still_fresh rest fresh.1 absent.1 apart.1)

  mutual
    enters_at : (formulas : List Form) (scope : List ℕ) (n : ℕ) (uses : List Use) (a b : Form) (told : List Entry) (p : Proof) → IsWitnessed v scope n uses a b told p → IsWithin v scope a → IsDistinct nat_eq (functions_of uses) → AllFresh (theory formulas) uses
        → AllAbsent a uses → Enters (theory formulas) told
    enters_at formulas scope n uses a b told p (itself sc m c k) within distinct fresh absent = enters_none (theory formulas)
    enters_at formulas scope n uses a b told p (a_conjunction sc m us as_ bs ts ps h) within distinct fresh absent =
        all_enter formulas sc m us as_ bs ts ps h (members_within v sc true (And as_) as_ as_ refl refl within) distinct fresh (absent_members as_ us absent)
    enters_at formulas scope n uses a b told p (a_disjunction sc m us as_ bs ts ps h) within distinct fresh absent =
        all_enter formulas sc m us as_ bs ts ps h (members_within v sc false (Or as_) as_ as_ refl refl within) distinct fresh (absent_cases as_ us absent)
    enters_at formulas scope n uses a b told p (for_each sc m us s c d ts q h) within distinct fresh absent =
        enters_at formulas (s ∷ sc) m us c d ts q h (within_all v sc s c within) distinct fresh (absent_under s c us absent)
    enters_at formulas scope n uses a b told p (for_some sc m u us s c d ts step q may shows h) within distinct fresh absent =
        let w = theory formulas in
        let whole : only_has u.variables 0 (Ex s c) ≡ true = arguments_only u.variables (Ex s c) may.arguments in
        let only : only_has u.variables 1 c ≡ true = rw only_has-Ex at whole in
        let few = (few_variables v sc (Ex s c) (u ∷ []) (omega (arith, within.room)) (may.fits, tt) (may.arguments, tt)).0 in
        let inside : AllAbsent c (u ∷ us) = absent_body s c (u ∷ us) absent in
        let apart = IsDistinct-head nat_eq u.function (functions_of us) distinct in
        let told_here = renamed u.variables 1 c in
        let sign = symbol w sc s c u within may.fits may.sort few only in
        let added = choice u.function sign told_here in
        let value : IsWithin v sc (instance_of c (value_of u)) = within_value v sc s c within (value_of u) (may.fits ∙ ap Some may.sort) in
        let later : Enters (with_formula w added) ts =
        enters_at (formulas ++ added ∷ []) sc (m + 1) us (instance_of c (value_of u)) d ts q h value (IsDistinct-tail nat_eq u.function (functions_of us) distinct) (fresh_after w u.function told_here sign us apart fresh.1 (absent_told u.variables c us inside.1))
        (absent_value u.function u.variables c us apart inside.1) in
        enters_more w u.function told_here sign ts (at_symbol w sc s c u within may.fits may.sort few only) (may_choose w sc s c u within may.fits may.sort few only fresh.0 inside.0) (choice_sorted w sc s c u within may.fits may.sort few only) later

    all_enter : (formulas : List Form) (scope : List ℕ) (n : ℕ) (uses : List Use) (as_ bs : List Form) (told : List Entry) (ps : List Proof) → AreWitnessed v scope n uses as_ bs told ps → Each (IsWithin v scope) as_
        → IsDistinct nat_eq (functions_of uses) → AllFresh (theory formulas) uses → NoneIn as_ uses → Enters (theory formulas) told
    all_enter formulas scope n uses as_ bs told ps (none sc m) within distinct fresh absent = enters_none (theory formulas)
    all_enter formulas scope n uses as_ bs told ps (more sc m first rest c d cs ds ts os q qs h hs) within distinct fresh absent =
        let parts = distinct_both first rest distinct in
        let news = fresh_both (theory formulas) first rest fresh in
        let others = absent_rest c cs first rest absent in
        let one = enters_at formulas sc m first c d ts q h within.0 parts.0 news.0 (absent_first c cs first rest absent) in
        let two = all_enter (formulas ++ formulas_told v ts) sc (m + length ts) rest cs ds os qs hs within.1 parts.1 (still_fresh formulas sc m first c d ts q h rest news.1 others.0 parts.2) others.1 in
        enters_both (theory formulas) ts os one two

-- the entries are legal in turn where the functions are new
pub enters : (w : Statements) (scope : List ℕ) (n : ℕ) (uses : List Use) (a b : Form) (told : List Entry) (p : Proof) → IsWitnessed w.vocabulary scope n uses a b told p → IsWithin w.vocabulary scope a → IsDistinct nat_eq (functions_of uses)
    → AllFresh w uses → AllAbsent a uses → Enters w told
enters w scope n uses a b told p h within distinct fresh absent = enters_at w.vocabulary w.formulas scope n uses a b told p h within distinct fresh absent
