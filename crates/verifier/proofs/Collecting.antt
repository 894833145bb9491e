-- How the parents of a line, and the given formulas, are collected one by one.
use Rattle.std.proofs.Common.{◌≡◌, ℕ, suc, ◌+◌, ◌<◌, ◌≤◌, List, [], ◌∷◌, ◌++◌, length, drop, get_or, Option, None, Some, slice_get, refl, sym, ◌∙◌, ap, append_assoc, drop-cons, add-one, arith}
use Rattle.std.proofs.lemmas.List.{append-nil, drop_all}
use Rattle.std.proofs.lemmas.Option.{slice_get_within, get_or_from_slice_get}
use Rattle.fof_terms.specs.declared.form.Form.{Form}
use Rattle.clause_form.specs.declared.path.Parent.{Parent}
use Rattle.tstp_graph.specs.declared.shape.Ref.{Ref}
use Rattle.verifier.specs.Lines.{numbered, given_from, parent_of, both, parents_of}

-- parents, and the rest if it is there
abbrev pub before : List Parent → Option (List Parent) → Option (List Parent)
before front None = None
before front (Some rest) = Some (front ++ rest)

before_both : (front : List Parent) (p : Parent) (rest : Option (List Parent)) → before front (both (Some p) rest) ≡ before (front ++ p ∷ []) rest
before_both front p None = refl
before_both front p (Some rest) = ap (λ (ps : List Parent). Some ps) (sym (append_assoc front (p ∷ []) rest))

before_none : (front : List Parent) (rest : Option (List Parent)) → before front (both None rest) ≡ None
before_none front rest = refl

pub before_nothing : (rest : Option (List Parent)) → before [] rest ≡ rest
before_nothing None = refl
before_nothing (Some rest) = refl

module _ (given forms : List Form) (numbers : List (Option ℕ)) where
  here : (refs : List Ref) (i : ℕ) (r : Ref) → i < length refs → r ≡ get_or refs i r → parents_of given forms numbers (drop i refs) ≡ both (parent_of given forms numbers r) (parents_of given forms numbers (drop (i + 1) refs))
  here refs i r lt is =
      rw add-one (ap (parents_of given forms numbers) (drop-cons refs i r lt ∙ ap (λ (x : Ref). x ∷ drop (suc i) refs) (sym is)))

  -- one more parent
  pub parents_more : (refs : List Ref) (i : ℕ) (r : Ref) (p : Parent) (front longer : List Parent) → i < length refs → r ≡ get_or refs i r → Some p ≡ parent_of given forms numbers r → longer ≡ front ++ p ∷ []
      → before front (parents_of given forms numbers (drop i refs)) ≡ parents_of given forms numbers refs → before longer (parents_of given forms numbers (drop (i + 1) refs)) ≡ parents_of given forms numbers refs
  parents_more refs i r p front longer lt is found added so_far =
      let rest : Option (List Parent) = parents_of given forms numbers (drop (i + 1) refs) in
      ap (λ (ps : List Parent). before ps rest) added
      ∙ sym (before_both front p rest)
      ∙ ap (λ (o : Option Parent). before front (both o rest)) found
      ∙ ap (before front) (sym (here refs i r lt is))
      ∙ so_far

  -- a parent that is not there
  pub parents_none : (refs : List Ref) (i : ℕ) (r : Ref) (front : List Parent) → i < length refs → r ≡ get_or refs i r → None ≡ parent_of given forms numbers r
      → before front (parents_of given forms numbers (drop i refs)) ≡ parents_of given forms numbers refs → None ≡ parents_of given forms numbers refs
  parents_none refs i r front lt is none so_far =
      ap (λ (o : Option Parent). before front (both o (parents_of given forms numbers (drop (i + 1) refs)))) none
      ∙ ap (before front) (sym (here refs i r lt is))
      ∙ so_far

  pub parents_all : (refs : List Ref) (i : ℕ) (front : List Parent) → length refs ≤ i → before front (parents_of given forms numbers (drop i refs)) ≡ parents_of given forms numbers refs → Some front ≡ parents_of given forms numbers refs
  parents_all refs i front all so_far =
      ap (λ (ps : List Parent). Some ps) (sym (append-nil front))
      ∙ ap (λ (rs : List Ref). before front (parents_of given forms numbers rs)) (sym (drop_all i refs all))
      ∙ so_far

given_here : (forms : List Form) (i : ℕ) (form : Form) → Some form ≡ slice_get forms i → given_from i (drop i forms) ≡ numbered i form ∷ given_from (i + 1) (drop (i + 1) forms)
given_here forms i form at =
    let first : drop i forms ≡ form ∷ drop (suc i) forms = drop-cons forms i form (slice_get_within forms i form (sym at)) ∙ ap (λ (x : Form). x ∷ drop (suc i) forms) (get_or_from_slice_get forms i form form (sym at)) in
    let next : suc i ≡ i + 1 = omega arith in
    ap (given_from i) first ∙ ap (λ (k : ℕ). numbered i form ∷ given_from (i + 1) (drop k forms)) next

-- one given formula more
pub given_more : (forms : List Form) (i : ℕ) (form : Form) (p : Parent) (front longer : List Parent) → Some form ≡ slice_get forms i → p ≡ numbered i form → longer ≡ front ++ p ∷ []
    → front ++ given_from i (drop i forms) ≡ given_from 0 forms → longer ++ given_from (i + 1) (drop (i + 1) forms) ≡ given_from 0 forms
given_more forms i form p front longer at is added so_far =
    let rest : List Parent = given_from (i + 1) (drop (i + 1) forms) in
    ap (λ (ps : List Parent). ps ++ rest) added
    ∙ append_assoc front (p ∷ []) rest
    ∙ ap (λ (q : Parent). front ++ q ∷ rest) is
    ∙ ap (λ (ps : List Parent). front ++ ps) (sym (given_here forms i form at))
    ∙ so_far

pub given_all : (forms : List Form) (i : ℕ) (front : List Parent) → length forms ≤ i → front ++ given_from i (drop i forms) ≡ given_from 0 forms → front ≡ given_from 0 forms
given_all forms i front all so_far =
    sym (append-nil front) ∙ ap (λ (fs : List Form). front ++ given_from i fs) (sym (drop_all i forms all)) ∙ so_far
