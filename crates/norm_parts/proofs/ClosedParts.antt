-- Parts under further quantifiers, as code adds them to a list.
use Rattle.std.specs.Prelude.{ℕ, ◌≡◌, ◌+◌, ◌<◌, List, [], ◌∷◌, ◌++◌, map, flat_map, take, length, get_or, Option, Some, None, MatchOption, refl}
use Rattle.std.proofs.Common.{ap, sym, ◌∙◌, append_assoc, append-nil}
use Rattle.std.proofs.lemmas.List.{map-append, take_more}
use Rattle.std.proofs.lemmas.Grind.{flat_map-append}
use Rattle.fof_terms.specs.declared.form.Form.{Form, And, All}
use Rattle.clause_form.specs.ClauseView.{closed_by}
use Rattle.norm_parts.specs.Parts.{parts_of}
use Rattle.norm_parts.proofs.PartsFacts.{parts_of-And, parts_of-All}

-- under one quantifier more, which is innermost
pub closed_further : (sorts : List ℕ) (s : ℕ) (a : Form) → closed_by (sorts ++ s ∷ []) a ≡ closed_by sorts (All s a)
closed_further [] s a = refl
closed_further (r ∷ sorts) s a = ap (All r) (closed_further sorts s a)

pub all_closed_further : (sorts : List ℕ) (s : ℕ) (as_ : List Form) → map (closed_by (sorts ++ s ∷ [])) as_ ≡ map (closed_by sorts) (map (All s) as_)
all_closed_further sorts s [] = refl
all_closed_further sorts s (a ∷ as_) = let first = closed_further sorts s a in let rest = all_closed_further sorts s as_ in cc

pub closed_by_none : (as_ : List Form) → map (closed_by []) as_ ≡ as_
closed_by_none [] = refl
closed_by_none (a ∷ as_) = ap (λ (xs : List Form). a ∷ xs) (closed_by_none as_)

-- quantifiers that are put round a formula, the innermost first
pub closed_next : (old new sorts : List ℕ) (s : ℕ) (a b form : Form) → old ≡ new ++ s ∷ [] → b ≡ All s a → closed_by old a ≡ closed_by sorts form → closed_by new b ≡ closed_by sorts form
closed_next old new sorts s a b form e f h = ap (closed_by new) f ∙ sym (closed_further new s a) ∙ ap (λ (ss : List ℕ). closed_by ss a) (sym e) ∙ h

pub closed_last : (left sorts : List ℕ) (a form : Form) → left ≡ [] → closed_by left a ≡ closed_by sorts form → a ≡ closed_by sorts form
closed_last left sorts a form e h = ap (λ (ss : List ℕ). closed_by ss a) (sym e) ∙ h

-- the parts of the formula, under these quantifiers, come behind the others
abbrev pub IsSplit : List ℕ → Form → List Form → List Form → Type 0
IsSplit sorts a old new = new ≡ old ++ map (closed_by sorts) (parts_of a)

pub split_and : (sorts : List ℕ) (form : Form) (as_ lent old new : List Form) → form ≡ And as_ → lent ≡ as_ → new ≡ old ++ map (closed_by sorts) (flat_map parts_of lent) → IsSplit sorts form old new
split_and sorts form as_ lent old new is same e =
    e ∙ ap (λ (xs : List Form). old ++ map (closed_by sorts) xs) (ap (flat_map parts_of) same ∙ sym (parts_of-And as_) ∙ ap parts_of (sym is))

pub split_all : (sorts longer : List ℕ) (s : ℕ) (form body lent : Form) (old new : List Form) → form ≡ All s body → lent ≡ body → longer ≡ sorts ++ s ∷ [] → IsSplit longer lent old new → IsSplit sorts form old new
split_all sorts longer s form body lent old new is same e h =
    h
    ∙ ap (λ (ss : List ℕ). old ++ map (closed_by ss) (parts_of lent)) e
    ∙ ap (λ (xs : List Form). old ++ xs) (all_closed_further sorts s (parts_of lent))
    ∙ ap (λ (b : Form). old ++ map (closed_by sorts) (map (All s) (parts_of b))) same
    ∙ ap (λ (xs : List Form). old ++ map (closed_by sorts) xs) (sym (parts_of-All s body) ∙ ap parts_of (sym is))

pub split_alone : (sorts : List ℕ) (form : Form) (old new : List Form) → parts_of form ≡ form ∷ [] → new ≡ old ++ closed_by sorts form ∷ [] → IsSplit sorts form old new
split_alone sorts form old new one e = e ∙ ap (λ (xs : List Form). old ++ map (closed_by sorts) xs) (sym one)

-- the parts of one formula more
pub split_more : (sorts : List ℕ) (as_ : List Form) (i : ℕ) (a : Form) (old now_ new : List Form) → i < length as_ → a ≡ get_or as_ i a → now_ ≡ old ++ map (closed_by sorts) (flat_map parts_of (take i as_)) → IsSplit sorts a now_ new
    → new ≡ old ++ map (closed_by sorts) (flat_map parts_of (take (i + 1) as_))
split_more sorts as_ i a old now_ new lt is h e =
    let some = map (closed_by sorts) (flat_map parts_of (take i as_)) in
    let more = take_more as_ i a lt in
    let one : flat_map parts_of (a ∷ []) ≡ parts_of a = append-nil (parts_of a) in
    let both : flat_map parts_of (take (i + 1) as_) ≡ flat_map parts_of (take i as_) ++ parts_of a =
    ap (flat_map parts_of) (more ∙ ap (λ (x : Form). take i as_ ++ x ∷ []) (sym is)) ∙ flat_map-append parts_of (take i as_) (a ∷ []) ∙ ap (λ (xs : List Form). flat_map parts_of (take i as_) ++ xs) one in
    e
    ∙ ap (λ (xs : List Form). xs ++ map (closed_by sorts) (parts_of a)) h
    ∙ append_assoc old some (map (closed_by sorts) (parts_of a))
    ∙ ap (λ (xs : List Form). old ++ xs) (sym (map-append (closed_by sorts) (flat_map parts_of (take i as_)) (parts_of a)))
    ∙ ap (λ (xs : List Form). old ++ map (closed_by sorts) xs) (sym both)

-- quantifiers that are left again
last_same : (xs ys : List ℕ) (x y : ℕ) → xs ++ x ∷ [] ≡ ys ++ y ∷ [] → xs ≡ ys
last_same [] [] x y e = refl
last_same [] (b ∷ []) x y e = cc
last_same [] (b ∷ d ∷ ys) x y e = cc
last_same (a ∷ []) [] x y e = cc
last_same (a ∷ c ∷ xs) [] x y e = cc
last_same (a ∷ xs) (b ∷ ys) x y e = let first : a ≡ b = cc in let tails : xs ++ x ∷ [] ≡ ys ++ y ∷ [] = cc in let rest = last_same xs ys x y tails in cc

none_last : (xs : List ℕ) (x : ℕ) → xs ++ x ∷ [] ≡ [] → ⊥
none_last [] x e = cc
none_last (a ∷ xs) x e = cc

pub popped : (found : Option ℕ) (old new sorts : List ℕ) (s : ℕ) → MatchOption found ((old ≡ []) × (new ≡ [])) (λ last. old ≡ new ++ last ∷ []) → old ≡ sorts ++ s ∷ [] → new ≡ sorts
popped None old new sorts s h e = absurd (none_last sorts s (sym e ∙ h.0))
popped (Some last) old new sorts s h e = last_same new sorts last s (sym h ∙ e)
