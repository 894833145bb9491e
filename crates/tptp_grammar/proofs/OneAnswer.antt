-- Tokens have an answer, and only one.
use Rattle.std.proofs.Common.{◌≡◌, Bool, true, false, if◌then◌else◌, ◌+◌, ◌-◌, List, [], ◌∷◌, ◌++◌, length, flat_map, Option, Some, None, Result, Ok, Err, ◌⊎◌, inl, inr, refl, sym, ◌∙◌, ap, subst, append_assoc, arith}
use Rattle.std.specs.Result.{IsErrAnd}
use Rattle.first_fault.specs.Nesting.{plain, FirstOver}
use Rattle.first_fault.specs.code.Reading.{Cause, Unexpected, TooDeep}
use Rattle.tptp_lexer.specs.declared.style.Style.{Style}
use Rattle.tptp_lexer.specs.declared.token.Token.{Token}
use Rattle.tptp_base.specs.declared.place.Place.{Place}
use Rattle.tptp_base.specs.declared.item.Item.{Item}
use Rattle.tptp_grammar.specs.declared.stop.Stop.TheVariants as stop
use Rattle.tptp_grammar.specs.declared.fault.GrammarFault.{GrammarFault}
use Rattle.tptp_grammar.specs.declared.fault.GrammarFault.TheVariants as fault
use Rattle.tptp_grammar.specs.Tokens.{Tokens}
use Rattle.tptp_grammar.specs.Solid.{Placed, solid}
use Rattle.tptp_grammar.specs.Files.{IsFile, SpellsWithin, IsPossible, IsPossibleWithin}
use Rattle.tptp_grammar.specs.Faults.{max_nesting, is_outside, IsUnfinished}
use Rattle.tptp_grammar.specs.code.Dots.{entry_behind}
use Rattle.tptp_grammar.specs.code.ReadFile.{FileOutcome, file}
use Rattle.tptp_grammar.specs.Answers as a
use Rattle.tptp_grammar.specs.code.Answers as a_code
use Rattle.tptp_grammar.specs.Laws.{IsOne, HasAnswer}
use Rattle.tptp_grammar.proofs.Whole.{ok_says, fault_says, left_within, deep_refused, one_list}
use Rattle.tptp_grammar.proofs.Stuck.{Stuck, same_stuck, possible_within, possible_so, not_possible, deep_stuck}

abbrev items_in : Result (List Item) GrammarFault → List Item
items_in (Ok items) = items
items_in (Err f) = []

abbrev fault_in : Result (List Item) GrammarFault → GrammarFault
fault_in (Ok items) = fault.Memory
fault_in (Err f) = f

-- items that are kept as they are
each_alone : (items : List Item) → flat_map (λ (item : Item). item ∷ []) items ≡ items
each_alone [] = refl
each_alone (item ∷ items) = ap (λ l. item ∷ l) (each_alone items)

module _ (style : Style) (tokens : List Placed) (end : Place) where
  -- the fault of an impossible token
  abbrev refusal : Placed → GrammarFault
  refusal entry = a_code.refusal_at (Some entry) end

  -- a fault at the token at which the list can't be gone on from
  record Spot (f : GrammarFault) : Type 0 where
    entry : Placed
    at : Stuck style max_nesting tokens entry
    why : ((f ≡ refusal entry) × (IsPossible style (at.front ++ (entry ∷ [])) → ⊥)) ⊎ ((f ≡ fault.Deep entry.1) × IsPossible style (at.front ++ (entry ∷ [])))

  refusal_is : (token : Token) (place : Place) (b : Bool) → is_outside token ≡ b → refusal (token, place) ≡ (if b then fault.Profile place else fault.Token place)
  refusal_is token place b e = ap (λ k. if k then fault.Profile place else fault.Token place) e

  impossible_spot : (b : Bool) (place : Place) → a.IsImpossibleAs style b tokens place → Spot (if b then fault.Profile place else fault.Token place)
  impossible_spot b place (token, is, h) = record {
    entry = (token, place);
    at = record { front = h.front; rest = h.rest; text = h.text; possible = h.possible; no_more = λ p. h.impossible (possible_so style max_nesting (h.front ++ ((token, place) ∷ [])) p) };
    why = inl (sym (refusal_is token place b is), h.impossible);
  }

  -- want of memory, the end of all tokens, or a token
  abbrev Kind : GrammarFault → Type 0
  Kind f = (f ≡ fault.Memory) ⊎ (((f ≡ fault.End end) × IsUnfinished style max_nesting tokens) ⊎ Spot f)

  kind : (f : GrammarFault) → a.FaultIs style tokens end f → Kind f
  kind fault.Memory h = inl refl
  kind (fault.End place) h = inr (inl (ap fault.End h.0, h.1))
  kind (fault.Token place) h = inr (inr (impossible_spot false place h))
  kind (fault.Profile place) h = inr (inr (impossible_spot true place h))
  kind (fault.Deep place) h = inr (inr (record {
    entry = (h.token, place);
    at = record {
      front = h.front;
      rest = h.rest;
      text = h.text;
      possible = record { more = (h.token, place) ∷ h.more; items = h.items; before = h.before; later = (h.token, h.level) ∷ h.later; spells = h.spells; same = h.same; within = h.within };
      no_more = deep_stuck style max_nesting h.front h.more (h.token, place) h.items h.before h.later h.level h.spells h.same h.within h.deep;
    };
    why = inr (refl, (h.more, h.items, (h.before ++ ((h.token, h.level) ∷ h.later), subst (λ l. IsFile style h.items l (h.before ++ ((h.token, h.level) ∷ h.later))) (sym (append_assoc h.front ((h.token, place) ∷ []) h.more)) h.spells)));
  }))

  no_spot : (f : GrammarFault) → IsPossibleWithin style max_nesting tokens → Spot f → ⊥
  no_spot f p s = not_possible style max_nesting s.at.front s.at.rest s.entry (subst (IsPossibleWithin style max_nesting) s.at.text p) s.at.no_more

  one_spot : (f g : GrammarFault) → Spot f → Spot g → f ≡ g
  one_spot f g s r =
      let same = same_stuck style max_nesting tokens s.entry r.entry s.at r.at in
      let fronts : s.at.front ++ (s.entry ∷ []) ≡ r.at.front ++ (r.entry ∷ []) = ap (λ l. l ++ (s.entry ∷ [])) same.0 ∙ ap (λ (v : Placed). r.at.front ++ (v ∷ [])) same.1 in
      elim s.why [
        | inl h ↦ elim r.why [
          | inl k ↦ h.0 ∙ ap refusal same.1 ∙ sym k.0
          | inr k ↦ absurd (h.1 (subst (IsPossible style) (sym fronts) k.1))
        ]
        | inr h ↦ elim r.why [
          | inl k ↦ absurd (k.1 (subst (IsPossible style) fronts h.1))
          | inr k ↦ h.0 ∙ ap (λ (v : Placed). fault.Deep v.1) same.1 ∙ sym k.0
        ]
      ]

  abbrev Same : GrammarFault → GrammarFault → Type 0
  Same f g = (f ≡ fault.Memory) ⊎ ((g ≡ fault.Memory) ⊎ (f ≡ g))

  one_fault : (f g : GrammarFault) → Kind f → Kind g → Same f g
  one_fault f g (inl e) k = inl e
  one_fault f g h (inl e) = inr (inl e)
  one_fault f g (inr (inl h)) (inr (inl k)) = inr (inr (h.0 ∙ sym k.0))
  one_fault f g (inr (inl h)) (inr (inr s)) = absurd (no_spot g h.1.possible s)
  one_fault f g (inr (inr s)) (inr (inl k)) = absurd (no_spot f k.1.possible s)
  one_fault f g (inr (inr s)) (inr (inr r)) = inr (inr (one_spot f g s r))

  not_both : (items : List Item) (f : GrammarFault) → a.Answers style tokens end (Ok items) → Kind f → f ≡ fault.Memory
  not_both items f s (inl e) = e
  not_both items f s (inr (inl h)) = absurd (h.1.nothing items (s.0, s.1))
  not_both items f s (inr (inr r)) = absurd (no_spot f (possible_within style max_nesting items tokens s) r)

  pub one : (answer other : Result (List Item) GrammarFault) → a.Answers style tokens end answer → a.Answers style tokens end other → IsOne answer other
  one (Ok items) (Ok others) s r = inl (ap Ok (one_list style tokens items others (s.0, s.1) (r.0, r.1)))
  one (Ok items) (Err g) s k = inr (inr (ap Err (not_both items g s (kind g k))))
  one (Err f) (Ok items) h s = inr (inl (ap Err (not_both items f s (kind f h))))
  one (Err f) (Err g) h k = elim (one_fault f g (kind f h) (kind g k)) [
    | inl e ↦ inr (inl (ap Err e))
    | inr (inl e) ↦ inr (inr (ap Err e))
    | inr (inr e) ↦ inl (ap Err e)
  ]

  -- ---- there is one

  no_memory : (f : GrammarFault) → (f ≡ fault.Memory → ⊥) → ◌≡◌ {A = Result (List Item) GrammarFault} (Err f) (Err fault.Memory) → ⊥
  no_memory fault.Memory h e = h refl
  no_memory (fault.Token place) h e = cc
  no_memory (fault.Profile place) h e = cc
  no_memory (fault.End place) h e = cc
  no_memory (fault.Deep place) h e = cc

  outside_not : (b : Bool) (place : Place) → (if b then fault.Profile place else fault.Token place) ≡ fault.Memory → ⊥
  outside_not true place e = cc
  outside_not false place e = cc

  refusal_not : (o : Option Placed) → a_code.refusal_at o end ≡ fault.Memory → ⊥
  refusal_not None e = cc
  refusal_not (Some entry) e = outside_not (is_outside entry.0) entry.1 e

  depth_not : (o : Option Placed) → a_code.depth_at o end ≡ fault.Memory → ⊥
  depth_not None e = cc
  depth_not (Some entry) e = cc

  -- the token with which these are left
  abbrev entry_from : List Token → Option Placed
  entry_from left = entry_behind (length (solid tokens) - length left) tokens

  counted : (c : Cause) (left : List Token) → file style max_nesting tokens ≡ Err (c, left) → length (solid tokens) - length left + length left ≡ length (solid tokens)
  counted c left e = let fits = left_within style tokens end c left e in omega (arith, fits)

  by_fault : (c : Cause) (left : List Token) → file style max_nesting tokens ≡ Err (c, left) → HasAnswer style tokens end
  by_fault Unexpected left e =
      let o = entry_from left in
      (Err (a_code.refusal_at o end), no_memory (a_code.refusal_at o end) (refusal_not o), fault_says style tokens end stop.Unexpected left [] tokens (length (solid tokens) - length left) refl (counted Unexpected left e) e)
  by_fault TooDeep left e =
      let o = entry_from left in
      (Err (a_code.depth_at o end), no_memory (a_code.depth_at o end) (depth_not o), fault_says style tokens end stop.TooDeep left [] tokens (length (solid tokens) - length left) refl (counted TooDeep left e) e)

  by_outcome : (o : FileOutcome) → file style max_nesting tokens ≡ o → HasAnswer style tokens end
  by_outcome (Ok items) e = (Ok items, λ never. (cc), ok_says style tokens items e)
  by_outcome (Err f) e = by_fault f.0 f.1 e

  pub some : HasAnswer style tokens end
  some = by_outcome (file style max_nesting tokens) refl

  -- ---- what is spelled is answered

  is_read : (items : List Item) (answer : Result (List Item) GrammarFault) → IsOne answer (Ok items) → a.IsRead items answer
  is_read items (Ok found) (inl e) = ap items_in e
  is_read items (Ok found) (inr (inl e)) = cc
  is_read items (Ok found) (inr (inr e)) = cc
  is_read items (Err f) (inl e) = cc
  is_read items (Err f) (inr (inl e)) = ap fault_in e
  is_read items (Err f) (inr (inr e)) = cc

  pub only : (answer : Result (List Item) GrammarFault) → a.Answers style tokens end answer → (items : List Item) → SpellsWithin style max_nesting items tokens → a.IsRead items answer
  only answer h items s = is_read items answer (one answer (Ok items) h s)

  depth_is : (o : Option Placed) → a.FaultIsDeep (a_code.depth_at o end)
  depth_is None = tt
  depth_is (Some x) = tt

  is_deep : (o : Option Placed) (answer : Result (List Item) GrammarFault) → IsOne answer (Err (a_code.depth_at o end)) → a.IsRefusedAsDeep answer
  is_deep o answer (inl e) = subst a.IsRefusedAsDeep (sym e) (depth_is o)
  is_deep o answer (inr (inl e)) = subst a.IsRefusedAsDeep (sym e) tt
  is_deep o answer (inr (inr e)) = absurd (depth_not o (ap fault_in e))

  pub deep : (answer : Result (List Item) GrammarFault) → a.Answers style tokens end answer → (items : List Item) (us over : Tokens) → IsFile style items tokens us → FirstOver max_nesting us over → a.IsRefusedAsDeep answer
  deep answer h items us over d k =
      let (rest, e) = deep_refused style max_nesting items tokens us d over k in
      let left = plain rest in
      let o = entry_from left in
      is_deep o answer (one answer (Err (a_code.depth_at o end)) h (fault_says style tokens end stop.TooDeep left [] tokens (length (solid tokens) - length left) refl (counted TooDeep left e) e))

  -- ---- answers that are handed on

  pub all_taken : (old new : List Item) → old ≡ [] → (items : List Item) × a.Answers style tokens end (Ok items) × (new ≡ old ++ flat_map (λ (item : Item). item ∷ []) items) → a.Answers style tokens end (Ok new)
  all_taken old new none (items, answers, is) =
      let same : new ≡ items = is ∙ ap (λ l. l ++ flat_map (λ (item : Item). item ∷ []) items) none ∙ each_alone items in subst (λ (l : List Item). a.Answers style tokens end (Ok l)) (sym same) answers

  pub refused : (result : Result (List Item) GrammarFault) (f : GrammarFault) → IsErrAnd result (λ g. g ≡ f) → a.FaultIs style tokens end f → a.Answers style tokens end result
  refused (Ok items) f h says = absurd h
  refused (Err g) f h says = subst (a.FaultIs style tokens end) (sym h) says
