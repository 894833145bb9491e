-- The sentences' domains one by one.
use Rattle.std.proofs.Common.{◌≡◌, ℕ, zero, suc, ◌+◌, ◌<◌, ◌≤◌, true, false, List, [], ◌∷◌, ◌++◌, length, map, take, drop, get_or, replicate, Option, Some, None, refl, sym, ◌∙◌, ap, subst, arith, append_assoc, inl}
use Rattle.std.specs.Prelude.{slice_get, Result, Ok, Err, IfErr, IsErrAnd}
use Rattle.std.specs.List.{list_any}
use Rattle.std.specs.Str.{bytes_eq}
use Rattle.std.proofs.lemmas.List.{append-nil, take_all, length-replicate}
use Rattle.fof_terms.specs.Vocabulary.{Vocabulary}
use Rattle.fi_model.specs.declared.fault.ModelFault.{ModelFault}
use Rattle.fi_model.specs.declared.sentence.Domain.{Domain}
use Rattle.fi_model.specs.declared.sentence.Element.{Element}
use Rattle.fi_model.specs.declared.sentence.Sentence.{Sentence}
use Rattle.fi_model.specs.declared.sentence.What.{What}
use Rattle.fi_model.specs.Sentences.{Text}
use Rattle.fi_model.specs.Models.{sort_number, names, again, with_domain, domains}
use Rattle.fi_model.specs.code.Slots.{open_slot, put, first_empty, good_elements, with_elements, RefusesDomain, Takes, Refuses, IsWrongDomain, IsNoDomain, IsOfDomains}
use Rattle.fi_model.proofs.DomainFacts.{Holds, holds_more, wrong_refused, wrong_at, domain_lacks}
use Rattle.fi_model.specs.declared.fault.ModelFault.TheVariants as fault
use Rattle.fi_model.specs.declared.sentence.What.TheVariants as says

with_domain-append : (w : What) (rest : List Domain) → with_domain w rest ≡ with_domain w [] ++ rest
with_domain-append (says.Domain d) rest = refl
with_domain-append (says.Entries es) rest = refl

domains-append : (a b : List Sentence) → domains (a ++ b) ≡ domains a ++ domains b
domains-append [] b = refl
domains-append (s ∷ a) b =
    ap (λ (ds : List Domain). with_domain s.what ds) (domains-append a b)
    ∙ with_domain-append s.what (domains a ++ domains b)
    ∙ sym (append_assoc (with_domain s.what []) (domains a) (domains b))
    ∙ ap (λ (ds : List Domain). ds ++ domains b) (sym (with_domain-append s.what (domains a)))

take_one_more : (said : List Sentence) (i : ℕ) (s : Sentence) → i < length said → s ≡ get_or said i s → take (i + 1) said ≡ take i said ++ s ∷ []
take_one_more [] i s lt is = absurd (omega arith)
take_one_more (t ∷ said) zero s lt is = rw is refl
take_one_more (t ∷ said) (suc i) s lt is = let next : suc i + 1 ≡ suc (i + 1) = omega arith in rw next (ap (λ (ss : List Sentence). t ∷ ss) (take_one_more said i s (omega arith) is))

take_and_drop : (said : List Sentence) (i : ℕ) (s : Sentence) → i < length said → s ≡ get_or said i s → said ≡ take i said ++ s ∷ drop (i + 1) said
take_and_drop [] i s lt is = absurd (omega arith)
take_and_drop (t ∷ said) zero s lt is = rw is refl
take_and_drop (t ∷ said) (suc i) s lt is = let next : suc i + 1 ≡ suc (i + 1) = omega arith in rw next (ap (λ (ss : List Sentence). t ∷ ss) (take_and_drop said i s (omega arith) is))

module _ (v : Vocabulary) where
  pub start : (n : ℕ) (slots : List (List Text)) → slots ≡ replicate n [] → n ≡ length v.sorts → Holds v [] slots
  start n slots is same = record {
    same = ap length is ∙ length-replicate n [] ∙ same;
    each = λ s. ap (λ (xs : List (List Text)). get_or xs s []) is ∙ at n s;
    good = refl;
  }
    where
      at : (n s : ℕ) → get_or (replicate n (let none : List Text = [] in none)) s [] ≡ []
      at zero s = refl
      at (suc n) zero = refl
      at (suc n) (suc s) = at n s

  module _ (said : List Sentence) (i : ℕ) (s : Sentence) (slots : List (List Text)) (lt : i < length said) (is : s ≡ get_or said i s) (h : Holds v (domains (take i said)) slots) where
    more : domains (take (i + 1) said) ≡ domains (take i said) ++ with_domain s.what []
    more = ap domains (take_one_more said i s lt is) ∙ domains-append (take i said) (s ∷ [])

    whole : domains said ≡ domains (take i said) ++ with_domain s.what (domains (drop (i + 1) said))
    whole = ap domains (take_and_drop said i s lt is) ∙ domains-append (take i said) (s ∷ drop (i + 1) said)

    pub turn : (new : List (List Text)) → Takes v slots s.what new → Holds v (domains (take (i + 1) said)) new
    turn new t = subst (λ (ds : List Domain). Holds v ds new) (sym more) (by s.what t)
      where
        by : (w : What) → Takes v slots w new → Holds v (domains (take i said) ++ with_domain w []) new
        by (says.Domain d) k = holds_more v (domains (take i said)) slots d new h k
        by (says.Entries es) k = subst (λ (ds : List Domain). Holds v ds new) (sym (append-nil (domains (take i said)))) (subst (λ (xs : List (List Text)). Holds v (domains (take i said)) xs) (sym k) h)

    pub turn_fails : 0 < length v.sorts → (f : ModelFault) → Refuses v slots s.what f → IsOfDomains v (domains said) f
    turn_fails some f r = subst (λ (ds : List Domain). IsOfDomains v ds f) (sym whole) (by s.what f r)
      where
        by : (w : What) (g : ModelFault) → Refuses v slots w g → IsOfDomains v (domains (take i said) ++ with_domain w (domains (drop (i + 1) said))) g
        by (says.Entries es) g k = absurd k
        by (says.Domain d) (fault.Domain name) k =
            inl (d, wrong_at v (domains (take i said)) d (domains (drop (i + 1) said)) h.good (wrong_refused v (domains (take i said)) slots d some h k.0), k.1)
        by (says.Domain d) fault.Memory k = tt
        by (says.Domain d) (fault.Shape place) k = absurd k
        by (says.Domain d) (fault.Element place name) k = absurd k
        by (says.Domain d) (fault.Double place name) k = absurd k
        by (says.Domain d) (fault.Missing name) k = absurd k

  pub all_taken : (said : List Sentence) (i : ℕ) (slots : List (List Text)) → length said ≤ i → Holds v (domains (take i said)) slots → Holds v (domains said) slots
  all_taken said i slots le h = subst (λ (ss : List Sentence). Holds v (domains ss) slots) (take_all i said le) h

  pub lacking : (stated : List Domain) (slots : List (List Text)) (s : ℕ) (f : ModelFault) → Holds v stated slots → first_empty slots ≡ Some s → IsNoDomain v s f → IsOfDomains v stated f
  lacking stated slots s (fault.Domain name) h e k = domain_lacks v stated slots s name h e k
  lacking stated slots s fault.Memory h e k = tt
  lacking stated slots s (fault.Shape place) h e k = absurd k
  lacking stated slots s (fault.Element place name) h e k = absurd k
  lacking stated slots s (fault.Double place name) h e k = absurd k
  lacking stated slots s (fault.Missing name) h e k = absurd k

-- ---- the elements of one domain

pub again_first : (xs : List Text) → again [] xs ≡ again [] (drop 0 xs)
again_first xs = refl

pub again_found : (before rest : List Text) (x : Text) → list_any (bytes_eq x) before ≡ true → again before (x ∷ rest) ≡ true
again_found before rest x e = rw e refl

pub again_not : (before rest : List Text) (x : Text) → list_any (bytes_eq x) before ≡ false → again before (x ∷ rest) ≡ again (before ++ x ∷ []) rest
again_not before rest x e = rw e refl

-- a name that is there
pub past : (xs : List Text) (i : ℕ) → i < length xs → slice_get xs i ≡ None → ⊥
past [] i lt e = omega arith
past (x ∷ xs) zero lt e = cc
past (x ∷ xs) (suc i) lt e = past xs i (omega arith) e

refused : (v : Vocabulary) (slots : List (List Text)) (d : Domain) (f : ModelFault) → with_elements v slots d ≡ None → IsWrongDomain d.sort f → RefusesDomain v slots d f
refused v slots d (fault.Domain name) e h = (e, h)
refused v slots d fault.Memory e h = tt
refused v slots d (fault.Shape p) e h = absurd h
refused v slots d (fault.Element p n) e h = absurd h
refused v slots d (fault.Double p n) e h = absurd h
refused v slots d (fault.Missing n) e h = absurd h

pub refused_slot : (v : Vocabulary) (slots : List (List Text)) (d : Domain) (f : ModelFault) (o : Option ℕ) → o ≡ sort_number v d.sort → open_slot slots o ≡ None → IsWrongDomain d.sort f → RefusesDomain v slots d f
refused_slot v slots d f o is e h = refused v slots d f (ap (λ (s : Option ℕ). put slots s (good_elements (names d))) (ap (open_slot slots) (sym is) ∙ e)) h

put_none : (slots : List (List Text)) (o : Option ℕ) → put slots o None ≡ None
put_none slots None = refl
put_none slots (Some s) = refl

pub refused_elements : (v : Vocabulary) (slots : List (List Text)) (d : Domain) (f : ModelFault) (es : List Element) (o : Option (List Text)) → o ≡ good_elements (map (λ (e : Element). e.name) es) → es ≡ d.elements → o ≡ None → IsWrongDomain d.sort f
    → RefusesDomain v slots d f
refused_elements v slots d f es o is same none h =
    let bad : good_elements (names d) ≡ None = ap (λ (xs : List Element). good_elements (map (λ (e : Element). e.name) xs)) (sym same) ∙ sym is ∙ none in
    refused v slots d f (ap (λ (g : Option (List Text)). put slots (open_slot slots (sort_number v d.sort)) g) bad ∙ put_none slots (open_slot slots (sort_number v d.sort))) h

-- what holds of the cause of a fault holds of the fault
pub err_told : {T : Type 0} (P : ModelFault → Type 0) (result : Result T ModelFault) (cause : ModelFault) → IsErrAnd result (λ f. f ≡ cause) → P cause → IfErr result P
err_told P (Ok value) cause h k = absurd h
err_told P (Err other) cause h k = subst P (sym h) k
