-- Lists with separators are read exactly where their members are.
use Rattle.std.proofs.Common.{◌≡◌, Bool, true, false, if◌then◌else◌, ℕ, zero, suc, ◌-◌, ◌≤◌, ◌<◌, List, [], ◌∷◌, ◌++◌, length, drop, Option, Some, None, Ok, Err, inl, inr, refl, sym, ◌∙◌, ap, subst, append_assoc, length-append, arith}
use Rattle.std.proofs.Math.Seq.{drop-append_seam}
use Rattle.first_fault.specs.Nesting.{Nested, plain, behind}
use Rattle.first_fault.proofs.NestingFacts.{before}
use Rattle.first_fault.specs.code.Reading.{Cause, Outcome, Reader, and_then, mapped, next, go_on, separated, separated_from}
use Rattle.first_fault.specs.Rules.{Rule, Listed, last, more}
use Rattle.first_fault.proofs.Exact.{IsRead, Exact, Inhabited, after_read, after_fault, exact_done, exact_after, by_next, by_end}
use Rattle.first_fault.proofs.Found.{Found, within_join, over_join}
use Rattle.first_fault.proofs.Good.{Good, IsKind}

drop_last : {T : Type 0} → (xs rest : List T) → drop (length (xs ++ rest) - length rest) (xs ++ rest) ≡ rest
drop_last xs rest = let n : length (xs ++ rest) - length rest ≡ length xs = omega (arith, length-append xs rest) in ap (λ k. drop k (xs ++ rest)) n ∙ drop-append_seam xs rest

module _ {T A : Type 0} (is : T → Bool) (p : Reader T A) where
  from_drop : (n : ℕ) (ts : List T) → separated_from is p n ts ≡ separated_from is p zero (drop n ts)
  from_drop zero ts = refl
  from_drop (suc n) [] = refl
  from_drop (suc n) (t ∷ ts) = from_drop n ts

  -- what follows the first member
  abbrev pub others : A → Reader T (List A)
  others x [] = Ok (x ∷ [], [])
  others x (t ∷ rest) = if is t then mapped (λ xs. x ∷ xs) (separated is p rest) else Ok (x ∷ [], t ∷ rest)

  goes_on : (x : A) (xs rest : List T) → go_on is (λ left. separated_from is p left (xs ++ rest)) (length (xs ++ rest)) x rest ≡ others x rest
  unfolding separated
  goes_on x xs [] = refl
  goes_on x xs (t ∷ rest) =
      let here : drop (length (xs ++ (t ∷ rest)) - length rest) (xs ++ (t ∷ rest)) ≡ rest = subst (λ l. drop (length l - length rest) l ≡ rest) (append_assoc xs (t ∷ []) rest) (drop_last (xs ++ (t ∷ [])) rest) in
      ap (λ o. if is t then mapped (λ ys. x ∷ ys) o else Ok (x ∷ [], t ∷ rest)) (from_drop (length (xs ++ (t ∷ rest)) - length rest) (xs ++ (t ∷ rest)) ∙ ap (separated_from is p zero) here)

  pub separated_ok : (x : A) (front rest : List T) → 0 < length front → p (front ++ rest) ≡ Ok (x, rest) → separated is p (front ++ rest) ≡ others x rest
  unfolding separated
  separated_ok x [] rest some e = absurd (omega arith)
  separated_ok x (t ∷ front) rest some e = ap (λ o. and_then o (go_on is (λ left. separated_from is p left (front ++ rest)) (length (front ++ rest)))) e ∙ goes_on x front rest

  pub separated_err : (ts : List T) (f : Cause × List T) → p ts ≡ Err f → separated is p ts ≡ Err f
  unfolding separated
  separated_err [] f e = ap (mapped (λ x. x ∷ [])) e
  separated_err (t ∷ ts) f e = ap (λ o. and_then o (go_on is (λ left. separated_from is p left ts) (length ts))) e

pub length-plain : {T : Type 0} → (xs : List (Nested T)) → length (plain xs) ≡ length xs
length-plain [] = refl
length-plain (x ∷ xs) = ap suc (length-plain xs)

-- whether the next token is of the kind
abbrev pub sees_next : {T : Type 0} → (T → Bool) → Option T → Bool
sees_next is None = false
sees_next is (Some t) = is t

-- each text of the rule has a token
abbrev pub Moves : {T A : Type 0} → Rule T A → Type 0
Moves P = (x : _) (ts rest : List (Nested _)) → P x ts rest → length rest < length ts

module _ {T A : Type 0} (p : Reader T A) (P : Rule T A) (limit : ℕ) (moves : Moves P) where
  pub read_moves : (x : A) (ts rest : List T) → IsRead p P limit x ts rest → length rest < length ts
  read_moves x ts rest h = omega (arith, moves x _ _ (h.spells []), length-append h.front [], length-plain h.front, ap length h.text, length-append (plain h.front) rest)

  separated_of : (is : T → Bool) (ts rest : List T) (x : A) → IsRead p P limit x ts rest → p ts ≡ Ok (x, rest) → separated is p ts ≡ others is p x rest
  separated_of is ts rest x h e = subst (λ us. separated is p us ≡ others is p x rest) (sym h.text)
      (separated_ok is p x (plain h.front) rest (omega (arith, moves x (h.front ++ []) [] (h.spells []), length-append h.front [], length-plain h.front)) (subst (λ us. p us ≡ Ok (x, rest)) h.text e))

  -- what a list of an exact reader goes on with after its first member
  pub separated_read : (is : T → Bool) (ts rest : List T) (x : A) → Exact p P limit ts (p ts) → p ts ≡ Ok (x, rest) → separated is p ts ≡ others is p x rest
  separated_read is ts rest x h e = separated_of is ts rest x (subst (Exact p P limit ts) e h) e

module _ {T A : Type 0} (is : T → Bool) (mark : T) (kind : IsKind is mark) (limit level : ℕ) (fits : level ≤ limit) (p : Reader T A) (P : Rule T A) (E F : Option T → Bool) (good : Good limit p P E)
    (moves : Moves P) where
  abbrev List_of : Rule T (List A)
  List_of = Listed mark level P

  data Tail (x : A) : List A → List (Nested T) → List (Nested T) → Type 0 where
    ends : {rest : List (Nested T)} → Tail x (x ∷ []) rest rest
    goes : {xs : List A} {mid rest : List (Nested T)} → Listed mark level P xs mid rest → Tail x (x ∷ xs) ((mark, level) ∷ mid) rest

  join : (x : A) (v : List A) (ts mid rest : List (Nested T)) → P x ts mid → Tail x v mid rest → List_of v ts rest
  join x v ts mid rest h ends = last h
  join x v ts mid rest h (goes k) = more h k

  abbrev list : Reader T (List A)
  list = separated is p

  list_ok : (x : A) (front : List (Nested T)) (rest : List T) → P x (front ++ []) [] → p (plain front ++ rest) ≡ Ok (x, rest) → list (plain front ++ rest) ≡ others is p x rest
  list_ok x front rest h e = separated_ok is p x (plain front) rest (omega (arith, moves x (front ++ []) [] h, length-append front [], length-plain front)) e

  some_tail : (x : A) → Inhabited (Tail x)
  some_tail x = record { value = x ∷ []; text = λ after. after; spells = λ after. ends }

  abbrev chosen : A → T → List T → Outcome T (List A) → Bool → Outcome T (List A)
  chosen x t rest o b = if b then mapped (λ xs. x ∷ xs) o else Ok (x ∷ [], t ∷ rest)

  goes_at : (x : A) (t : T) → t ≡ mark → (xs : List A) (us after : List (Nested T)) → List_of xs us after → Tail x (x ∷ xs) ((t, level) ∷ us) after
  goes_at x t e xs us after k = subst (λ u. Tail x (x ∷ xs) ((u, level) ∷ us) after) (sym e) (goes k)

  exact_others : (x : A) (t : T) (rest : List T) → Exact list List_of limit rest (list rest) → (b : Bool) → is t ≡ b → Exact (others is p x) (Tail x) limit (t ∷ rest) (chosen x t rest (list rest) b)
  exact_others x t rest h true e =
      exact_after t (others is p x) list List_of (Tail x) limit level (λ xs. x ∷ xs) fits (λ xs us after k. goes_at x t (kind.only t e) xs us after k) (λ us. ap (chosen x t us (list us)) e) rest (list rest) h
  exact_others x t rest h false e =
      exact_done (others is p x) (Tail x) limit (t ∷ rest) (x ∷ []) (λ after. ends) (λ other k. by_next t (λ o. others is p x o ≡ Ok (x ∷ [], o)) (λ us. ap (chosen x t us (list us)) e) other k)

  exact_tail : (n : ℕ) (x : A) (mid : List T) → length mid ≤ n → ((us : List T) → length us < n → Exact list List_of limit us (list us)) → Exact (others is p x) (Tail x) limit mid (others is p x mid)
  exact_tail n x [] le ih = exact_done (others is p x) (Tail x) limit [] (x ∷ []) (λ after. ends) (λ other k. by_end (λ o. others is p x o ≡ Ok (x ∷ [], o)) refl other k)
  exact_tail n x (t ∷ rest) le ih = exact_others x t rest (ih rest (omega arith)) (is t) refl

  by_outcome : (n : ℕ) (ts : List T) (o : Outcome T A) → p ts ≡ o → Exact p P limit ts o → length ts ≤ suc n → ((us : List T) → length us < n → Exact list List_of limit us (list us)) → Exact list List_of limit ts (list ts)
  by_outcome n ts (Ok r) e h le ih =
      let moved : length r.1 < length ts = read_moves p P limit moves r.0 ts r.1 h in
      let step = after_read p (others is p) list P Tail List_of limit join list_ok (separated_err is p) r.0 ts r.1 h (others is p r.0 r.1) (exact_tail n r.0 r.1 (omega arith) ih) in
      let same : list ts ≡ others is p r.0 r.1 = subst (λ us. list us ≡ others is p r.0 r.1) (sym h.text) (list_ok r.0 h.front r.1 (h.spells []) (subst (λ us. p us ≡ Ok r) h.text e)) in
      subst (Exact list List_of limit ts) (sym same) step
  by_outcome n ts (Err f) e h le ih =
      subst (Exact list List_of limit ts) (sym (separated_err is p ts f e)) (after_fault p (others is p) list P Tail List_of limit join list_ok (separated_err is p) ts f h (λ x can. some_tail x))

  by_length : (n : ℕ) (ts : List T) → length ts < n → Exact list List_of limit ts (list ts)
  by_length zero ts lt = absurd (omega arith)
  by_length (suc n) ts lt = by_outcome n ts (p ts) refl (good.exact ts) (omega arith) (by_length n)

  list_ends : (x : A) (rest : List T) → sees_next is (next rest) ≡ false → others is p x rest ≡ Ok (x ∷ [], rest)
  list_ends x [] e = refl
  list_ends x (t ∷ rest) e = ap (chosen x t rest (list rest)) e

  read_first : (ts rest : List (Nested T)) (x : A) → p (plain ts) ≡ Ok (x, plain rest) → list (plain ts) ≡ others is p x (plain rest)
  read_first ts rest x e = separated_read p P limit moves is (plain ts) (plain rest) x (good.exact (plain ts)) e

  found_last : (x : A) (ts rest : List (Nested T)) → sees_next is (next (plain rest)) ≡ false → Found limit p x ts rest → Found limit list (x ∷ []) ts rest
  found_last x ts rest e (inl (h, k)) = inl (h, read_first ts rest x k ∙ list_ends x (plain rest) e)
  found_last x ts rest e (inr (over, h, k)) = inr (over, h, separated_err is p (plain ts) _ k)

  found_more : (x : A) (xs : List A) (ts mid rest : List (Nested T)) → Found limit p x ts ((mark, level) ∷ mid) → Found limit list xs mid rest → Found limit list (x ∷ xs) ts rest
  found_more x xs ts mid rest (inr (over, h, k)) second = inr (over, h, separated_err is p (plain ts) _ k)
  found_more x xs ts mid rest (inl (h, k)) (inl (i, l)) =
      inl (within_join h (before fits i), read_first ts ((mark, level) ∷ mid) x k ∙ ap (chosen x mark (plain mid) (list (plain mid))) kind.itself ∙ ap (mapped (λ ys. x ∷ ys)) l)
  found_more x xs ts mid rest (inl (h, k)) (inr (over, i, l)) =
      inr (over, over_join h (behind fits i), read_first ts ((mark, level) ∷ mid) x k ∙ ap (chosen x mark (plain mid) (list (plain mid))) kind.itself ∙ ap (mapped (λ ys. x ∷ ys)) l)

  module _ (goes_on_mark : E (Some mark) ≡ true) (ends_both : (h : Option T) → F h ≡ true → (E h ≡ true) × (sees_next is h ≡ false)) where
    found_list : (xs : List A) (ts rest : List (Nested T)) → List_of xs ts rest → F (next (plain rest)) ≡ true → Found limit list xs ts rest
    found_list xs ts rest (last {x = x} h) e = let both = ends_both (next (plain rest)) e in found_last x ts rest both.1 (good.found x ts rest h both.0)
    found_list xs ts rest (more {x = x} {xs = ys} {mid = mid} h k) e = found_more x ys ts mid rest (good.found x ts ((mark, level) ∷ mid) h goes_on_mark) (found_list ys mid rest k e)

    pub good_listed : Good limit list List_of F
    good_listed = record {
      exact = λ ts. by_length (suc (length ts)) ts (omega arith);
      found = found_list;
      some = record { value = good.some.value ∷ []; text = good.some.text; spells = λ after. last (good.some.spells after) };
    }
