-- Lemmas in turn, each as an implication from the negation of a line.
use Rattle.std.specs.Prelude.{ℕ, false, ◌≡◌, ◌+◌, ◌-◌, ◌<◌, ◌≤◌, List, [], ◌∷◌, ◌++◌, length, map, slice_get, Some, refl}
use Rattle.std.proofs.Common.{sym, ap, subst, ◌∙◌, arith, zero, suc, get_or, take}
use Rattle.std.specs.List.{All as Each}
use Rattle.std.proofs.lemmas.List.Elements.{All-map, All-cons, All-weaker}
use Rattle.std.proofs.lemmas.List.{take_more, append_assoc, append_cancel_left, map-append, length-append}
use Rattle.fof_terms.specs.declared.form.Form.{Form, Not, Imp, Or}
use Rattle.fof_terms.specs.Sorts.{Sorted}
use Rattle.fof_terms.proofs.Scoped.{not_sorted, or_sorted, imp_sorted}
use Rattle.fof_terms.specs.Occurs.{occurs_in}
use Rattle.fof_terms.proofs.OccursFacts.{occurs_in-Imp, occurs_in-Not}
use Rattle.kernel.specs.Statements.{Statements}
use Rattle.kernel.specs.Proves.{Proves}
use Rattle.kernel.specs.Entries.{Admits, with_formula}
use Rattle.kernel.proofs.Building.{by_line, by_hyp, by_imp_i, by_imp_e, by_raa}
use Rattle.kernel.proofs.EntryLaws.{admits_more}
use Rattle.kernel.specs.declared.proof.Proof.{Proof, Line, Hyp, ImpI, ImpE, Raa}
use Rattle.kernel.specs.declared.entry.Entry.{Entry}
use Rattle.kernel.specs.declared.entry.Entry.TheVariants.{Lemma}
use Rattle.derive_kit.specs.Derived.{with_formulas, SpeakOf}
use Rattle.negated_lemmas.specs.Negated.{with_denied, implied, with_implied, lemmas_by, ShowsImplied, ShowFalsehood, IsByFalsehood, ConcludeLine}
use Rattle.negated_lemmas.specs.code.Carried.{Setting, Carries}

-- a formula stands in front, or behind where the facts stand
place_before : (xs ys zs : List Form) (i : ℕ) (a : Form) → i < length xs → slice_get (xs ++ ys) i ≡ Some a → slice_get (xs ++ zs) i ≡ Some a
place_before [] ys zs i a lt at = absurd (omega arith)
place_before (x ∷ xs) ys zs zero a lt at = at
place_before (x ∷ xs) ys zs (suc i) a lt at = place_before xs ys zs i a (omega arith) at

place_mapped : (f : Form → Form) (ys : List Form) (i : ℕ) (a : Form) → slice_get ys i ≡ Some a → slice_get (map f ys) i ≡ Some (f a)
place_mapped f [] i a at = cc
place_mapped f (y ∷ ys) zero a at = let same : y ≡ a = cc in ap (λ x. Some (f x)) same
place_mapped f (y ∷ ys) (suc i) a at = place_mapped f ys i a at

place_behind : (f : Form → Form) (xs ys : List Form) (i : ℕ) (a : Form) → length xs ≤ i → slice_get (xs ++ ys) i ≡ Some a → slice_get (xs ++ map f ys) i ≡ Some (f a)
place_behind f [] ys i a le at = place_mapped f ys i a at
place_behind f (x ∷ xs) ys zero a le at = absurd (omega arith)
place_behind f (x ∷ xs) ys (suc i) a le at = place_behind f xs ys i a (omega arith) at

-- the theory with the line's negation and the facts, and the one with the implications
abbrev setting : (t : Statements) (line : Form) (facts : List Form) (first : ℕ) → length t.formulas ≡ first → Sorted t.vocabulary [] line → Setting first
setting t line facts first e closed = record {
  theory = with_denied t line facts;
  assumed = Not line;
  formulas = t.formulas ++ implied line facts;
  closed = not_sorted t.vocabulary [] 2147483647 line closed;
  before = λ i a lt at. place_before t.formulas (Not line ∷ facts) (implied line facts) i a (omega arith) at;
  behind = λ i a le at. place_behind (Imp (Not line)) t.formulas (Not line ∷ facts) i a (omega arith) at;
}

pub shows_implied : (line : Form) (first : ℕ) (p q : Proof) → Carries first 0 p q → ShowsImplied line first p (ImpI (Not line) q)
shows_implied line first p q c t facts a e closed w =
    by_imp_i (with_implied t line facts) [] [] (Not line) a q (not_sorted t.vocabulary [] 2147483647 line closed) (c.shows (setting t line facts first e closed) [] [] a refl w)

-- each of the proofs shows what the other does, as an implication
abbrev pub ShowEach : Form → ℕ → List Proof → List Proof → Type 0
ShowEach line first [] [] = Unit {0}
ShowEach line first [] (q ∷ qs) = ⊥
ShowEach line first (p ∷ ps) [] = ⊥
ShowEach line first (p ∷ ps) (q ∷ qs) = ShowsImplied line first p q × ShowEach line first ps qs

pub show_more : (line : Form) (first : ℕ) (ps qs : List Proof) (p q : Proof) → ShowEach line first ps qs → ShowsImplied line first p q → ShowEach line first (ps ++ p ∷ []) (qs ++ q ∷ [])
show_more line first [] [] p q all c = (c, tt)
show_more line first [] (y ∷ qs) p q all c = absurd all
show_more line first (x ∷ ps) [] p q all c = absurd all
show_more line first (x ∷ ps) (y ∷ qs) p q all c = (all.0, show_more line first ps qs p q all.1 c)

module _ (t : Statements) (line : Form) where
  -- the facts of two equal theories
  same_facts : (facts done : List Form) → with_denied t line facts ≡ with_denied t line done → facts ≡ done
  same_facts facts done e =
      let both : Not line ∷ facts ≡ Not line ∷ done = append_cancel_left t.formulas (Not line ∷ facts) (Not line ∷ done) (ap (λ (u : Statements). u.formulas) e) in
      cc

  -- one fact more
  denied_more : (done : List Form) (a : Form) → with_formula (with_denied t line done) a ≡ with_denied t line (done ++ a ∷ [])
  denied_more done a = ap (λ fs. record t { formulas = fs }) (append_assoc t.formulas (Not line ∷ done) (a ∷ []))

  implied_more : (done : List Form) (a : Form) → with_formula (with_implied t line done) (Imp (Not line) a) ≡ with_implied t line (done ++ a ∷ [])
  implied_more done a =
      ap (λ fs. record t { formulas = fs }) (append_assoc t.formulas (implied line done) (Imp (Not line) a ∷ []) ∙ ap (λ fs. t.formulas ++ (Imp (Not line) (Not line) ∷ fs)) (sym (map-append (Imp (Not line)) done (a ∷ []))))

  fact_count : (ps : List Proof) (done facts : List Form) → Admits (with_denied t line done) (lemmas_by ps) (with_denied t line facts) → length facts ≡ length done + length ps
  fact_count [] done facts w = let same = same_facts facts done w in let long = ap (λ (fs : List Form). length fs) same in omega arith
  fact_count (p ∷ ps) done facts w =
      let after = w.1.1 in
      let rest = subst (λ u. Admits u (lemmas_by ps) (with_denied t line facts)) (after.2 ∙ denied_more done after.0) w.1.2 in
      let more = fact_count ps (done ++ after.0 ∷ []) facts rest in
      let long = length-append done (after.0 ∷ []) in
      omega arith

  module _ (first : ℕ) (count : length t.formulas ≡ first) (closed : Sorted t.vocabulary [] line) where
    -- the implications in turn, where the facts are shown in turn
    in_turn : (ps qs : List Proof) (done facts : List Form) → ShowEach line first ps qs → Admits (with_denied t line done) (lemmas_by ps) (with_denied t line facts)
        → Admits (with_implied t line done) (lemmas_by qs) (with_implied t line facts)
    in_turn [] [] done facts all w = ap (with_implied t line) (same_facts facts done w)
    in_turn [] (q ∷ qs) done facts all w = absurd all
    in_turn (p ∷ ps) [] done facts all w = absurd all
    in_turn (p ∷ ps) (q ∷ qs) done facts all w =
        let after = w.1.1 in
        let rest = subst (λ u. Admits u (lemmas_by ps) (with_denied t line facts)) (after.2 ∙ denied_more done after.0) w.1.2 in
        let shown = all.0 t done after.0 count closed after.1 in (
          (Imp (Not line) after.0, shown),
          (with_implied t line (done ++ after.0 ∷ []), (Imp (Not line) after.0, shown, sym (implied_more done after.0)), in_turn ps qs (done ++ after.0 ∷ []) facts all.1 rest),
        )

    -- that the negation implies falsehood, at the number of the last fact
    last_fact : (ps : List Proof) (facts : List Form) → ShowFalsehood t line ps facts → slice_get (t.formulas ++ implied line facts) (first + length ps) ≡ Some (Imp (Not line) (Or []))
    last_fact ps facts s =
        let many = fact_count ps [] facts s.legal in
        let long = length-append t.formulas (Not line ∷ facts) in
        let place : length (t.formulas ++ (Not line ∷ facts)) - 1 ≡ first + length ps = omega arith in
        let at = subst (λ i. slice_get (t.formulas ++ (Not line ∷ facts)) i ≡ Some (Or [])) place s.refuted in
        place_behind (Imp (Not line)) t.formulas (Not line ∷ facts) (first + length ps) (Or []) (omega arith) at

-- that the negation implies itself
pub itself_shows : (t : Statements) (line : Form) → Sorted t.vocabulary [] line → Proves t [] [] (ImpI (Not line) (Hyp 0)) (Imp (Not line) (Not line))
itself_shows t line closed =
    let denied = not_sorted t.vocabulary [] 2147483647 line closed in
    by_imp_i t [] [] (Not line) (Not line) (Hyp 0) denied (by_hyp t [] (Not line ∷ []) 0 (Not line) denied refl)

pub falsehood_shows : (line : Form) (number : ℕ) → IsByFalsehood line number (Raa line (ImpE (Line number) (Hyp 0)))
falsehood_shows line number t closed at =
    let denied = not_sorted t.vocabulary [] 2147483647 line closed in
    let falsehood = or_sorted t.vocabulary [] 2147483647 closed.scope_fits [] tt in
    let h = Not line ∷ [] in
    by_raa t [] [] line (ImpE (Line number) (Hyp 0)) closed
    (by_imp_e t [] h (Line number) (Hyp 0) (Not line) (Or [])
    (by_line t [] h number (Imp (Not line) (Or [])) (imp_sorted t.vocabulary [] 2147483647 (Not line) (Or []) denied falsehood) at)
    (by_hyp t [] h 0 (Not line) denied refl))

-- the entries of a whole refutation
pub line_concluded : (line : Form) (first : ℕ) (ps qs : List Proof) (last : Proof) (entries : List Entry) → ShowEach line first ps qs
    → IsByFalsehood line (first + length ps) last
    → entries ≡ (Lemma (ImpI (Not line) (Hyp 0)) ∷ lemmas_by qs) ++ Lemma last ∷ [] → ConcludeLine line first ps entries
line_concluded line first ps qs last entries all shows e = record {
  lemmas = ImpI (Not line) (Hyp 0) ∷ qs;
  last = last;
  is = e;
  adds = λ t facts count closed s.
      let u = with_implied t line facts in
      let own = itself_shows t line closed in
      let turn = in_turn t line first count closed ps qs [] facts all s.legal in
      let begun : Admits t (Lemma (ImpI (Not line) (Hyp 0)) ∷ lemmas_by qs) u = ((Imp (Not line) (Not line), own), (with_implied t line [], (Imp (Not line) (Not line), own, refl), turn)) in
      let shown = shows u closed (last_fact t line first count closed ps facts s) in
      let whole = with_formulas t (implied line facts ++ line ∷ []) in
      let more : whole ≡ with_formula u line = ap (λ fs. record t { formulas = fs }) (sym (append_assoc t.formulas (implied line facts) (line ∷ []))) in
      subst (λ (es : List Entry). Admits t es whole) (sym e) (admits_more t u whole (Lemma (ImpI (Not line) (Hyp 0)) ∷ lemmas_by qs) (Lemma last) begun (line, shown) (line, shown, more));
}

-- the entries so far: that the negation implies itself, and the implications of these proofs
pub record BegunWith (line : Form) (first : ℕ) (ps : List Proof) (entries : List Entry) : Type 0 where
  pub lemmas : List Proof
  pub is : entries ≡ Lemma (ImpI (Not line) (Hyp 0)) ∷ lemmas_by lemmas
  pub shown : ShowEach line first ps lemmas

pub begun : (line : Form) (first : ℕ) (entries : List Entry) → entries ≡ Lemma (ImpI (Not line) (Hyp 0)) ∷ [] → BegunWith line first [] entries
begun line first entries e = record { lemmas = []; is = e; shown = tt }

pub begun_more : (line : Form) (first : ℕ) (ps : List Proof) (entries more : List Entry) (p q : Proof) → BegunWith line first ps entries → ShowsImplied line first p q → more ≡ entries ++ Lemma q ∷ [] → BegunWith line first (ps ++ p ∷ []) more
begun_more line first ps entries more p q b c e = record {
  lemmas = b.lemmas ++ q ∷ [];
  is = e ∙ (ap (λ (es : List Entry). es ++ Lemma q ∷ []) b.is ∙ ap (λ (es : List Entry). Lemma (ImpI (Not line) (Hyp 0)) ∷ es) (sym (map-append (λ (r : Proof). Lemma r) b.lemmas (q ∷ []))));
  shown = show_more line first ps b.lemmas p q b.shown c;
}

pub begun_at : (line : Form) (first : ℕ) (ps : List Proof) (i : ℕ) (entries more : List Entry) (p q : Proof) → i < length ps → p ≡ get_or ps i p → BegunWith line first (take i ps) entries
    → ShowsImplied line first p q → more ≡ entries ++ Lemma q ∷ [] → BegunWith line first (take (i + 1) ps) more
begun_at line first ps i entries more p q lt is b c e =
    rw (take_more ps i p lt) (begun_more line first (take i ps) entries more (get_or ps i p) q b (subst (λ (x : Proof). ShowsImplied line first x q) is c) e)

pub whole_refutation : (line : Form) (first : ℕ) (ps : List Proof) (last : Proof) (entries more : List Entry) → BegunWith line first ps entries
    → IsByFalsehood line (first + length ps) last
    → more ≡ entries ++ Lemma last ∷ [] → ConcludeLine line first ps more
whole_refutation line first ps last entries more b shows e = line_concluded line first ps b.lemmas last more b.shown shows (e ∙ ap (λ (es : List Entry). es ++ Lemma last ∷ []) b.is)

-- the implications speak of what the facts and the line speak of
implied_speak : (k : ℕ) (line : Form) (facts : List Form) → occurs_in k line ≡ false → Each (λ a. occurs_in k a ≡ false) facts → Each (λ a. occurs_in k a ≡ false) (map (Imp (Not line)) facts)
implied_speak k line facts absent all =
    All-map (λ a. occurs_in k a ≡ false) (Imp (Not line)) facts (All-weaker (λ a. occurs_in k a ≡ false) (λ a. occurs_in k (Imp (Not line) a) ≡ false) (λ a none. rw (occurs_in-Imp, occurs_in-Not, absent) none) facts all)

pub speak_alike : (t : Statements) (line : Form) (facts : List Form) → SpeakOf t line facts → SpeakOf t line (implied line facts)
speak_alike t line facts speak k fresh absent =
    implied_speak k line (Not line ∷ facts) absent (All-cons (λ a. occurs_in k a ≡ false) (Not line) facts (rw occurs_in-Not absent) (speak k fresh absent))
