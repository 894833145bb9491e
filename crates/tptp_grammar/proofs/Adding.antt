-- Lists to which what was read is added, where it was read.
use Rattle.std.proofs.Common.{◌≡◌, true, if◌then◌else◌, ◌<◌, List, [], ◌∷◌, ◌++◌, length, drop, false, Result, Ok, Err, sym, ◌∙◌, ap, subst}
use Rattle.first_fault.specs.code.Reading.{Outcome, Reader, and_then, mapped, expect, tail, sees, after_seen, separated}
use Rattle.first_fault.proofs.Loops.{Steps, members, starts, turn, turn_smaller, last_member}
use Rattle.tptp_lexer.specs.declared.token.Token.{Token}
use Rattle.tptp_lexer.specs.declared.token.Mark.{Mark}
use Rattle.tptp_grammar.specs.declared.stop.Stop.{Stop}
use Rattle.tptp_grammar.specs.code.Outcomes.{Fails, Reads}
use Rattle.tptp_grammar.specs.code.Adding.{IsAdded, IsClosed}
use Rattle.tptp_grammar.specs.code.ReadTerms.{is_mark}
use Rattle.tptp_grammar.proofs.Loops.{fails_as, first_fails, later_fails}

module _ {A : Type 0} (mark : Mark) (p : Reader Token A) where
  pub first_unread : (ts left : List Token) (read : Result A Stop) (xs ys : List A) (e : Stop) → Reads (p ts) read left → IsAdded read xs (Err e) ys → Fails (separated (is_mark mark) p ts) e left
  first_unread ts left (Ok x) xs ys e h k = subst (λ f. Fails (separated (is_mark mark) p ts) f left) (sym k) tt
  first_unread ts left (Err f) xs ys e h k = subst (λ g. Fails (separated (is_mark mark) p ts) g left) (sym k) (first_fails mark p ts left f h)

  pub first_added : (s : Steps (is_mark mark) p) (ts left : List Token) (read : Result A Stop) (xs ys : List A) → xs ≡ [] → Reads (p ts) read left → IsAdded read xs (Ok tt) ys → separated (is_mark mark) p ts ≡ members (is_mark mark) p ys left
  first_added s ts left (Ok x) xs ys empty h k = starts (is_mark mark) p s ts x left h ∙ ap (λ l. members (is_mark mark) p l left) (sym (k ∙ ap (λ l. l ++ (x ∷ [])) empty))
  first_added s ts left (Err f) xs ys empty h k = absurd k

module _ {A : Type 0} (mark : Mark) (p : Reader Token A) (s : Steps (is_mark mark) p) (old ts new : List Token) (xs : List A) (kept : separated (is_mark mark) p old ≡ members (is_mark mark) p xs ts) (seen : sees (is_mark mark) ts ≡ true)
    (moved : new ≡ after_seen (is_mark mark) ts) where
  pub later_unread : (left : List Token) (read : Result A Stop) (ys : List A) (e : Stop) → Reads (p new) read left → IsAdded read xs (Err e) ys → Fails (separated (is_mark mark) p old) e left
  later_unread left (Ok x) ys e h k = subst (λ f. Fails (separated (is_mark mark) p old) f left) (sym k) tt
  later_unread left (Err f) ys e h k = subst (λ g. Fails (separated (is_mark mark) p old) g left) (sym k) (later_fails mark p s old ts new xs kept seen moved left f h)

  pub later_added : (left : List Token) (read : Result A Stop) (ys : List A) → Reads (p new) read left → IsAdded read xs (Ok tt) ys → separated (is_mark mark) p old ≡ members (is_mark mark) p ys left
  later_added left (Ok x) ys h k = turn (is_mark mark) p s old ts new xs kept seen moved x left h ∙ ap (λ l. members (is_mark mark) p l left) (sym k)
  later_added left (Err f) ys h k = absurd k

  pub later_smaller : (left : List Token) (read : Result A Stop) (ys : List A) → Reads (p new) read left → IsAdded read xs (Ok tt) ys → length left < length ts
  later_smaller left (Ok x) ys h k = turn_smaller (is_mark mark) p s old ts new xs kept seen moved x left h
  later_smaller left (Err f) ys h k = absurd k

-- what was read up to a mark
module _ {A : Type 0} (mark : Mark) (o : Outcome Token A) where
  abbrev pub up_to : Outcome Token A
  up_to = and_then o (λ x rest. mapped (λ _. x) (expect (is_mark mark) rest))

  pub closes : (mid new : List Token) (read result : Result A Stop) → Reads o read mid → IsClosed mark read mid result new → Reads up_to result new
  closes mid new (Ok x) result h k = subst (λ q. Reads (and_then q (λ y rest. mapped (λ _. y) (expect (is_mark mark) rest))) result new) (sym h) k
  closes mid new (Err e) result h k = subst (λ r. Reads up_to r new) (sym k.0) (subst (λ ts. Fails up_to e ts) (sym k.1) (fails_as o mid up_to (λ f q. ap (λ u. and_then u (λ x rest. mapped (λ _. x) (expect (is_mark mark) rest))) q) e h))

-- ---- a list in whose front the first member stood already

-- the members behind the first are those of the list that is read
abbrev pub InFront : {A : Type 0} → Mark → Reader Token A → A → List Token → List A → List Token → Type 0
InFront mark p first old found ts = (found ≡ first ∷ drop 1 found) × (separated (is_mark mark) p old ≡ members (is_mark mark) p (drop 1 found) ts)

behind_added : {A : Type 0} (first : A) (found all : List A) (read : Result A Stop) → found ≡ first ∷ drop 1 found → IsAdded read found (Ok tt) all → IsAdded read (drop 1 found) (Ok tt) (drop 1 all)
behind_added first found all (Ok x) e k = ap (λ l. drop 1 l) (k ∙ ap (λ l. l ++ (x ∷ [])) e)
behind_added first found all (Err f) e k = k

stays_first : {A : Type 0} (first : A) (found all : List A) (read : Result A Stop) → found ≡ first ∷ drop 1 found → IsAdded read found (Ok tt) all → all ≡ first ∷ drop 1 all
stays_first first found all (Ok x) e k = let whole : all ≡ first ∷ (drop 1 found ++ (x ∷ [])) = k ∙ ap (λ l. l ++ (x ∷ [])) e in whole ∙ ap (λ l. first ∷ l) (sym (ap (λ l. drop 1 l) whole))
stays_first first found all (Err f) e k = absurd k

module _ {A : Type 0} (mark : Mark) (p : Reader Token A) (first : A) where
  abbrev whole : List Token → Outcome Token (List A)
  whole old = mapped (λ fs. first ∷ fs) (separated (is_mark mark) p old)

  in_front_fails : (old left : List Token) (e : Stop) → Fails (separated (is_mark mark) p old) e left → Fails (whole old) e left
  in_front_fails old left e h = fails_as (separated (is_mark mark) p old) left (whole old) (λ f q. ap (mapped (λ fs. first ∷ fs)) q) e h

  pub second_unread : (old start left : List Token) → start ≡ old → (read : Result A Stop) (xs ys : List A) (e : Stop) → Reads (p start) read left → IsAdded read xs (Err e) ys → Fails (whole old) e left
  second_unread old start left moved read xs ys e h k = in_front_fails old left e (first_unread mark p old left read xs ys e (subst (λ us. Reads (p us) read left) moved h) k)

  pub second_added : (s : Steps (is_mark mark) p) (old start left : List Token) → start ≡ old → (read : Result A Stop) (xs ys : List A) → xs ≡ first ∷ [] → Reads (p start) read left → IsAdded read xs (Ok tt) ys → InFront mark p first old ys left
  second_added s old start left moved read xs ys e h k = let is : xs ≡ first ∷ drop 1 xs = e ∙ ap (λ l. first ∷ l) (sym (ap (λ l. drop 1 l) e)) in
      (stays_first first xs ys read is k, first_added mark p s old left read (drop 1 xs) (drop 1 ys) (ap (λ l. drop 1 l) e) (subst (λ us. Reads (p us) read left) moved h) (behind_added first xs ys read is k))

  pub in_front_read : (old ts new : List Token) (found : List A) → InFront mark p first old found ts → sees (is_mark mark) ts ≡ false → new ≡ after_seen (is_mark mark) ts → whole old ≡ Ok (found, new)
  in_front_read old ts new found k e moved = ap (mapped (λ fs. first ∷ fs)) (k.1 ∙ last_member (is_mark mark) p (drop 1 found) ts e) ∙ ap (λ l. Ok (l, ts)) (sym k.0) ∙ ap (λ us. Ok (found, us)) (sym (moved ∙ ap (λ b. if b then tail ts else ts) e))

  module _ (s : Steps (is_mark mark) p) (old ts new : List Token) (xs : List A) (kept : InFront mark p first old xs ts) (seen : sees (is_mark mark) ts ≡ true) (moved : new ≡ after_seen (is_mark mark) ts) where
    pub further_unread : (left : List Token) (read : Result A Stop) (ys : List A) (e : Stop) → Reads (p new) read left → IsAdded read xs (Err e) ys → Fails (whole old) e left
    further_unread left (Ok x) ys e h k = subst (λ f. Fails (whole old) f left) (sym k) tt
    further_unread left (Err f) ys e h k = subst (λ g. Fails (whole old) g left) (sym k) (in_front_fails old left f (later_fails mark p s old ts new (drop 1 xs) kept.1 seen moved left f h))

    pub further_added : (left : List Token) (read : Result A Stop) (ys : List A) → Reads (p new) read left → IsAdded read xs (Ok tt) ys → InFront mark p first old ys left
    further_added left read ys h k = (stays_first first xs ys read kept.0 k, later_added mark p s old ts new (drop 1 xs) kept.1 seen moved left read (drop 1 ys) h (behind_added first xs ys read kept.0 k))

    pub further_smaller : (left : List Token) (read : Result A Stop) (ys : List A) → Reads (p new) read left → IsAdded read xs (Ok tt) ys → length left < length ts
    further_smaller left read ys h k = later_smaller mark p s old ts new (drop 1 xs) kept.1 seen moved left read (drop 1 ys) h (behind_added first xs ys read kept.0 k)
