-- The arms of the proofs between nodes and quantifiers over nodes, as far as a loop has come.
use Rattle.std.specs.Prelude.{ℕ, zero, suc, ◌≡◌, ◌+◌, ◌-◌, ◌<◌, ◌≤◌, Bool, true, false, List, [], ◌∷◌, ◌++◌, length, map, take, drop, get_or, reverse, refl}
use Rattle.std.proofs.Common.{ap, sym, subst, ◌∙◌, arith, length-append, append_assoc}
use Rattle.std.proofs.lemmas.List.{drop_more, drop_all, drop-drop, take-append-drop, length-take-le, reverse-append, append-nil}
use Rattle.fof_terms.specs.declared.form.Form.{Form, Or}
use Rattle.fof_terms.specs.Lift.{lifted}
use Rattle.kernel.specs.declared.proof.Proof.{Proof, Hyp, AndE, OrI, OrE, NotE, Inhabit}
use Rattle.derive_kit.proofs.Around.{twice_form}
use Rattle.norm_proofs.specs.Numbering.{near}
use Rattle.flat_form.specs.declared.pulling.Pulled.{Pulled as Made}
use Rattle.flat_form.specs.Flat.{Pulled, sorts_of, bodies_of}
use Rattle.flat_proofs.specs.code.Gathering.{inhabited, and_arms, or_arms, back_arm, back_arms, clashes, denied_arm, refuted}
use Rattle.flat_proofs.specs.code.Loose.{closed_of}
use Rattle.flat_proofs.specs.code.Members.{seen}
use Rattle.flat_proofs.specs.code.Moving.{link_arm, link_arms}
use Rattle.flat_proofs.proofs.MemberFacts.{onward, left_next, left_count, left_within}
use Rattle.flat_proofs.proofs.Opened.{nothing}

-- lists of sorts
skip : (ys zs : List ℕ) → drop (length ys) (ys ++ zs) ≡ zs
skip [] zs = refl
skip (y ∷ ys) zs = skip ys zs

front : (ys zs : List ℕ) → take (length ys) (ys ++ zs) ≡ ys
front [] zs = refl
front (y ∷ ys) zs = ap (λ xs. y ∷ xs) (front ys zs)

drop_past : (n : ℕ) (xs ys zs : List ℕ) → drop n xs ≡ ys ++ zs → drop (n + length ys) xs ≡ zs
drop_past n xs ys zs e = sym (drop-drop (length ys) n xs) ∙ (ap (drop (length ys)) e ∙ skip ys zs)

take_past : (n : ℕ) (xs ys zs : List ℕ) → n ≤ length xs → drop n xs ≡ ys ++ zs → take (n + length ys) xs ≡ take n xs ++ ys
take_past zero xs ys zs le e = let none : 0 + length ys ≡ length ys = omega arith in rw none (ap (take (length ys)) e ∙ front ys zs)
take_past (suc n) [] ys zs le e = absurd (omega arith)
take_past (suc n) (x ∷ xs) ys zs le e =
    let next : suc n + length ys ≡ suc (n + length ys) = omega arith in
    rw next (ap (λ ws. x ∷ ws) (take_past n xs ys zs (omega arith) e))

fits_past : (n : ℕ) (xs ys zs : List ℕ) → n ≤ length xs → drop n xs ≡ ys ++ zs → n + length ys ≤ length xs
fits_past n xs ys zs le e =
    let whole = ap length (take-append-drop n xs) in
    let parts = length-append (take n xs) (drop n xs) in
    let first = length-take-le n xs le in
    let rest = ap length e ∙ length-append ys zs in
    omega arith

-- variables of which the formula doesn't speak
module _ (sorts : List ℕ) (a : Form) (part : Proof) where
  pub inhabited_start : (i : ℕ) → i ≡ 0 → part ≡ inhabited (drop (length sorts - i) sorts) (lifted (length sorts - i) 0 a) part
  inhabited_start i e =
      let none : drop (length sorts - i) sorts ≡ [] = drop_all (length sorts - i) sorts (omega arith) in
      rw none refl

  pub inhabited_next : (i place s : ℕ) (goal : Form) (made next : Proof) → i < length sorts → place ≡ length sorts - 1 - i → s ≡ get_or sorts place 0 → goal ≡ lifted place 0 a → next ≡ Inhabit s goal made
      → made ≡ inhabited (drop (length sorts - i) sorts) (lifted (length sorts - i) 0 a) part → next ≡ inhabited (drop (length sorts - (i + 1)) sorts) (lifted (length sorts - (i + 1)) 0 a) part
  inhabited_next i place s goal made next lt ep es eg en h =
      let here : length sorts - (i + 1) ≡ place = omega arith in
      let there : length sorts - i ≡ place + 1 = omega arith in
      let step : drop place sorts ≡ s ∷ drop (place + 1) sorts = drop_more sorts place 0 (omega arith) ∙ ap (λ x. x ∷ drop (place + 1) sorts) (sym es) in
      let twice : lifted 1 0 (lifted place 0 a) ≡ lifted (place + 1) 0 a = twice_form 1 place (place + 1) (omega arith) a 0 in
      let h' : made ≡ inhabited (drop (place + 1) sorts) (lifted (place + 1) 0 a) part = rw there at h in
      let more = drop (place + 1) sorts in
      let made_is : made ≡ inhabited more (lifted 1 0 (lifted place 0 a)) part = h' ∙ ap (λ (g : Form). inhabited more g part) (sym twice) in
      let next_is : next ≡ inhabited (s ∷ more) (lifted place 0 a) part = en ∙ (ap (λ (g : Form). Inhabit s g made) eg ∙ ap (λ (q : Proof). Inhabit s (lifted place 0 a) q) made_is) in
      rw here (next_is ∙ ap (λ (ss : List ℕ). inhabited ss (lifted place 0 a) part) (sym step))

  pub inhabited_end : (i : ℕ) (made : Proof) → length sorts ≤ i → made ≡ inhabited (drop (length sorts - i) sorts) (lifted (length sorts - i) 0 a) part → made ≡ inhabited sorts a part
  inhabited_end i made le h =
      let none : length sorts - i ≡ 0 = omega arith in
      let h' : made ≡ inhabited sorts (lifted 0 0 a) part = rw none at h in
      h' ∙ ap (λ (b : Form). inhabited sorts b part) (nothing 0 a)

-- the members one after the other
module _ (ms : List Made) (i : ℕ) (m : Made) (lt : i < length ms) (is : m ≡ get_or ms i m) where
  abbrev rest : List Pulled
  rest = map seen (drop (i + 1) ms)

  begins : map seen (drop i ms) ≡ seen m ∷ map seen (drop (i + 1) ms)
  begins = left_next ms i m lt is

  pub left_less : (left own : ℕ) → own ≡ length m.sorts → left ≡ length (sorts_of (map seen (drop i ms))) → left - own ≡ length (sorts_of (map seen (drop (i + 1) ms)))
  left_less left own eo el = let count = left_count ms i m lt is in omega arith

  pub own_left : (left own : ℕ) → own ≡ length m.sorts → left ≡ length (sorts_of (map seen (drop i ms))) → own ≤ left
  own_left left own eo el = let count = left_count ms i m lt is in omega arith

  pub after_left : (before own count : ℕ) → own ≡ length m.sorts → before + length (sorts_of (map seen (drop i ms))) ≡ count → count - before - own ≡ length (sorts_of (map seen (drop (i + 1) ms)))
  after_left before own count eo e = let here = left_count ms i m lt is in omega arith

  pub more_before : (before own count : ℕ) → own ≡ length m.sorts → before + length (sorts_of (map seen (drop i ms))) ≡ count → before + own + length (sorts_of (map seen (drop (i + 1) ms))) ≡ count
  more_before before own count eo e = let here = left_count ms i m lt is in omega arith

  pub own_fits : (before own count : ℕ) → own ≡ length m.sorts → before + length (sorts_of (map seen (drop i ms))) ≡ count → before + own ≤ count
  own_fits before own count eo e = let here = left_count ms i m lt is in omega arith

  pub and_next : (made whole : List Proof) (left own k : ℕ) (arm : Proof) → left ≡ length (sorts_of (map seen (drop (i + 1) ms))) → own ≡ length m.sorts → k ≡ i → arm ≡ near left own (AndE k (Hyp 0))
      → made ++ and_arms i (map seen (drop i ms)) ≡ whole → (made ++ arm ∷ []) ++ and_arms (i + 1) (map seen (drop (i + 1) ms)) ≡ whole
  and_next made whole left own k arm el eo ek ea e =
      rw (ea, el, eo, ek) (onward made (and_arms (i + 1) rest) whole (near (length (sorts_of rest)) (length m.sorts) (AndE i (Hyp 0))) (ap (λ ps. made ++ and_arms i ps) (sym begins) ∙ e))

  pub or_next : (bs : List Form) (made whole : List Proof) (left own k : ℕ) (arm : Proof) → left ≡ length (sorts_of (map seen (drop (i + 1) ms))) → own ≡ length m.sorts → k ≡ i → arm ≡ OrI bs k (near left own (Hyp 0))
      → made ++ or_arms bs i (map seen (drop i ms)) ≡ whole → (made ++ arm ∷ []) ++ or_arms bs (i + 1) (map seen (drop (i + 1) ms)) ≡ whole
  or_next bs made whole left own k arm el eo ek ea e =
      rw (ea, el, eo, ek) (onward made (or_arms bs (i + 1) rest) whole (OrI bs i (near (length (sorts_of rest)) (length m.sorts) (Hyp 0))) (ap (λ ps. made ++ or_arms bs i ps) (sym begins) ∙ e))

  pub bodies_next : (made whole : List Form) (before own after : ℕ) (b : Form) → own ≡ length m.sorts → after ≡ length (sorts_of (map seen (drop (i + 1) ms))) → b ≡ lifted after 0 (lifted before own m.body)
      → made ++ bodies_of before (map seen (drop i ms)) ≡ whole → (made ++ b ∷ []) ++ bodies_of (before + own) (map seen (drop (i + 1) ms)) ≡ whole
  bodies_next made whole before own after b eo ea eb e =
      rw (eb, ea, eo)
      (onward made (bodies_of (before + length m.sorts) rest) whole (lifted (length (sorts_of rest)) 0 (lifted before (length m.sorts) m.body)) (ap (λ ps. made ++ bodies_of before ps) (sym begins) ∙ e))

  pub sorts_next : (made whole : List ℕ) → made ++ sorts_of (map seen (drop i ms)) ≡ whole → (made ++ m.sorts) ++ sorts_of (map seen (drop (i + 1) ms)) ≡ whole
  sorts_next made whole e = append_assoc made m.sorts (sorts_of rest) ∙ (ap (λ ps. made ++ sorts_of ps) (sym begins) ∙ e)

  -- back, to a conjunction
  module _ (sorts : List ℕ) (before : ℕ) (later : drop before sorts ≡ sorts_of (map seen (drop i ms))) (fits : before ≤ length sorts) where
    here : drop before sorts ≡ m.sorts ++ sorts_of (map seen (drop (i + 1) ms))
    here = later ∙ ap sorts_of begins

    pub back_later : drop (before + length m.sorts) sorts ≡ sorts_of (map seen (drop (i + 1) ms))
    back_later = drop_past before sorts m.sorts (sorts_of rest) here

    pub back_before : take (before + length m.sorts) sorts ≡ take before sorts ++ m.sorts
    back_before = take_past before sorts m.sorts (sorts_of rest) fits here

    pub back_fits : before + length m.sorts ≤ length sorts
    back_fits = fits_past before sorts m.sorts (sorts_of rest) fits here

    pub back_next : (made whole : List Proof) (k : ℕ) (c : Form) (arm : Proof) → k ≡ i → c ≡ closed_of (seen m) → arm ≡ back_arm (take before sorts) before k (seen m) c (drop (before + length m.sorts) sorts) (length sorts)
        → made ++ back_arms (take before sorts) i (map seen (drop i ms)) ≡ whole → (made ++ arm ∷ []) ++ back_arms (take (before + length m.sorts) sorts) (i + 1) (map seen (drop (i + 1) ms)) ≡ whole
    back_next made whole k c arm ek ec ea e =
        let first = length-take-le before sorts fits in
        let all : length (take before sorts ++ (m.sorts ++ sorts_of rest)) ≡ length sorts = ap (λ (ss : List ℕ). length (take before sorts ++ ss)) (sym here) ∙ ap length (take-append-drop before sorts) in
        let same : arm ≡ back_arm (take before sorts) (length (take before sorts)) i (seen m) (closed_of (seen m)) (sorts_of rest) (length (take before sorts ++ (m.sorts ++ sorts_of rest))) =
        rw (first, all, ea, ek, ec, back_later) refl in
        rw (same, back_before) (onward made (back_arms (take before sorts ++ m.sorts) (i + 1) rest) whole _ (ap (λ ps. made ++ back_arms (take before sorts) i ps) (sym begins) ∙ e))

-- falsehood under each formula that is denied
pub clash_next : (n i : ℕ) (made whole : List Proof) (k : ℕ) (denied own arm : Proof) → i < n → k ≡ n - i → denied ≡ Hyp k → own ≡ Hyp 0 → arm ≡ NotE denied own
    → made ++ clashes (n - i) ≡ whole → (made ++ arm ∷ []) ++ clashes (n - (i + 1)) ≡ whole
clash_next n i made whole k denied own arm lt ek ed eo ea e =
    let here : n - i ≡ suc (n - (i + 1)) = omega arith in
    let e' : made ++ clashes (suc (n - (i + 1))) ≡ whole = rw here at e in
    rw (ea, ed, eo, ek, here) (onward made (clashes (n - (i + 1))) whole (NotE (Hyp (suc (n - (i + 1)))) (Hyp 0)) e')

pub clash_end : (n i : ℕ) (made whole : List Proof) → n ≤ i → made ++ clashes (n - i) ≡ whole → made ≡ whole
clash_end n i made whole le e =
    let none : n - i ≡ 0 = omega arith in
    let e' : made ++ [] ≡ whole = rw none at e in
    sym (append-nil made) ∙ e'

-- back, to a disjunction
pub refuted_start : (cs : List Form) (ms : List Made) (n i f : ℕ) (made : Proof) → i ≡ 0 → n ≡ length ms → made ≡ refuted cs n f [] → made ≡ refuted cs (length ms - i) f (map seen (drop (length ms - i) ms))
refuted_start cs ms n i f made none count e =
    let all : drop (length ms - i) ms ≡ [] = drop_all (length ms - i) ms (omega arith) in
    let same : length ms - i ≡ n = omega arith in
    rw (all, same) e

pub before_start : (ms : List Made) (i count : ℕ) → i ≡ 0 → count + length (sorts_of (map seen (drop (length ms - i) ms))) ≡ count
before_start ms i count none =
    let all : drop (length ms - i) ms ≡ [] = drop_all (length ms - i) ms (omega arith) in
    rw all (omega arith)

module _ (cs : List Form) (ms : List Made) (i k : ℕ) (m : Made) (lt : i < length ms) (place : k ≡ length ms - 1 - i) (is : m ≡ get_or ms k m) where
  abbrev behind : List Pulled
  behind = map seen (drop (k + 1) ms)

  next_is : length ms - i ≡ k + 1
  next_is = omega arith

  here_is : length ms - (i + 1) ≡ k
  here_is = omega arith

  pub before_own : (f count : ℕ) → f + length (sorts_of (map seen (drop (length ms - i) ms))) ≡ count → count ≡ length (sorts_of (map seen ms)) → length m.sorts ≤ f
  before_own f count e all =
      let e' : f + length (sorts_of behind) ≡ count = rw next_is at e in
      let here = left_count ms k m (omega arith) is in
      let few = left_within ms k in
      omega arith

  pub before_next : (f own count : ℕ) → own ≡ length m.sorts → own ≤ f → f + length (sorts_of (map seen (drop (length ms - i) ms))) ≡ count → f - own + length (sorts_of (map seen (drop (length ms - (i + 1)) ms))) ≡ count
  before_next f own count eo le e =
      let e' : f + length (sorts_of behind) ≡ count = rw next_is at e in
      let here = left_count ms k m (omega arith) is in
      rw here_is (omega arith)

  pub refuted_next : (f own : ℕ) (made next : Proof) → own ≡ length m.sorts → own ≤ f → next ≡ denied_arm cs k (f - own) (seen m) made → made ≡ refuted cs (length ms - i) f (map seen (drop (length ms - i) ms))
      → next ≡ refuted cs (length ms - (i + 1)) (f - own) (map seen (drop (length ms - (i + 1)) ms))
  refuted_next f own made next eo le en e =
      let e' : made ≡ refuted cs (k + 1) f behind = rw next_is at e in
      let begins : map seen (drop k ms) ≡ seen m ∷ behind = left_next ms k m (omega arith) is in
      let sum : f - own + length m.sorts ≡ f = omega arith in
      let made_is : made ≡ refuted cs (k + 1) (f - own + length m.sorts) behind = e' ∙ ap (λ (j : ℕ). refuted cs (k + 1) j behind) (sym sum) in
      let next_is : next ≡ refuted cs k (f - own) (seen m ∷ behind) = en ∙ ap (denied_arm cs k (f - own) (seen m)) made_is in
      rw here_is (next_is ∙ ap (refuted cs k (f - own)) (sym begins))

pub refuted_end : (cs : List Form) (ms : List Made) (i f count : ℕ) (made : Proof) → length ms ≤ i → count ≡ length (sorts_of (map seen ms)) → f + length (sorts_of (map seen (drop (length ms - i) ms))) ≡ count
    → made ≡ refuted cs (length ms - i) f (map seen (drop (length ms - i) ms)) → made ≡ refuted cs 0 0 (map seen ms)
refuted_end cs ms i f count made le all room e =
    let none : length ms - i ≡ 0 = omega arith in
    let room' : f + length (sorts_of (map seen ms)) ≡ count = rw none at room in
    let e' : made ≡ refuted cs 0 f (map seen ms) = rw none at e in
    let start : f ≡ 0 = omega arith in
    rw start at e'

-- what the parts say, one after the other
arms_begin : (kind : Bool) (to : List Form) (k : ℕ) (p : Proof) (ps : List Proof) → link_arms kind to k (p ∷ ps) ≡ link_arm kind to k p ∷ link_arms kind to (k + 1) ps
arms_begin true to k p ps = refl
arms_begin false to k p ps = refl

arms_none : (kind : Bool) (to : List Form) (k : ℕ) → link_arms kind to k [] ≡ []
arms_none true to k = refl
arms_none false to k = refl

module _ (kind : Bool) (to : List Form) (k : ℕ) (made whole left : List Proof) where
  pub link_next : (less : List Proof) (p part arm : Proof) → left ≡ less ++ p ∷ [] → part ≡ p → arm ≡ link_arm kind to k part → made ++ link_arms kind to k (reverse left) ≡ whole
      → (made ++ arm ∷ []) ++ link_arms kind to (k + 1) (reverse less) ≡ whole
  link_next less p part arm el ep ea e =
      let begins : reverse left ≡ p ∷ reverse less = rw (el, reverse-append less (p ∷ [])) refl in
      let e' : made ++ link_arms kind to k (p ∷ reverse less) ≡ whole = rw begins at e in
      rw (ea, ep) (onward made (link_arms kind to (k + 1) (reverse less)) whole (link_arm kind to k p) (ap (λ qs. made ++ qs) (sym (arms_begin kind to k p (reverse less))) ∙ e'))

  pub link_end : left ≡ [] → made ++ link_arms kind to k (reverse left) ≡ whole → made ≡ whole
  link_end el e =
      let e' : made ++ link_arms kind to k [] ≡ whole = rw el at e in
      sym (append-nil made) ∙ (ap (λ qs. made ++ qs) (sym (arms_none kind to k)) ∙ e')
