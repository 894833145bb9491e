-- A taker keeps what it began with, and each item behind it.
use Rattle.std.proofs.Common.{◌≡◌, ◌⊎◌, inl, inr, Bool, List, [], ◌∷◌, ◌++◌, flat_map, map, Result, Ok, Err, refl, sym, ◌∙◌, ap, subst}
use Rattle.std.proofs.lemmas.List.{map-append}
use Rattle.tptp_base.specs.declared.item.Item.{Item}
use Rattle.tptp_grammar.specs.Texts.{IsParsed}
use Rattle.tptp_grammar.specs.declared.fault.GrammarFault.{GrammarFault}
use Rattle.tptp_grammar.specs.Laws.{IsOne}
use Rattle.tptp_grammar.proofs.OneAnswer as parsing
use Rattle.tptp_lexer.specs.declared.token.Tokens.{Tokens}
use Rattle.sort_check.specs.Turns.{Taken, TakenAgain}

module _ (X : Type 0) where
  abbrev pub Kept : Type 0
  Kept = X ⊎ Item

  abbrev pub kept_item : Item → Kept
  kept_item item = inr item

  abbrev pub kept_begin : X → Kept
  kept_begin begin = inl begin

  abbrev pub kept : X → List Item → List Kept
  kept begin items = kept_begin begin ∷ map kept_item items

  -- one item more
  kept_more : (begin : X) (items : List Item) (x : Item) → kept begin (items ++ x ∷ []) ≡ kept begin items ++ kept_item x ∷ []
  kept_more begin items x = ap (λ (l : List Kept). kept_begin begin ∷ l) (map-append kept_item items (x ∷ []))

  abbrev each : List Item → List Kept
  each items = flat_map (λ (item : Item). kept_item item ∷ []) items

  same_items : (xs ys : List Item) → map kept_item xs ≡ each ys → xs ≡ ys
  same_items [] [] e = refl
  same_items [] (y ∷ ys) e = absurd (cc)
  same_items (x ∷ xs) [] e = absurd (cc)
  same_items (x ∷ xs) (y ∷ ys) e =
      let front : x ≡ y = cc in
      let behind : map kept_item xs ≡ each ys = cc in
      ap (λ (i : Item). i ∷ xs) front ∙ ap (λ (is : List Item). y ∷ is) (same_items xs ys behind)

  -- what it began with is the same, and it has taken what it was given
  taken_begin : (begin after : X) (more given : List Item) → kept after more ≡ kept begin [] ++ each given → after ≡ begin
  taken_begin begin after more given e = cc

  taken_items : (begin after : X) (more given : List Item) → kept after more ≡ kept begin [] ++ each given → more ≡ given
  taken_items begin after more given e =
      let behind : map kept_item more ≡ each given = cc in
      same_items more given behind

-- ---- items that are taken one behind the other

pub turn_more : (a b : Taken) (x : Item) → b ≡ record a { items = a.items ++ x ∷ [] } → kept Bool b.keeps b.items ≡ kept Bool a.keeps a.items ++ kept_item Bool x ∷ []
turn_more a b x e = ap (λ (t : Taken). kept Bool t.keeps t.items) e ∙ kept_more Bool a.keeps a.items x

module _ (a b : Taken) (given : List Item) (none : a.items ≡ []) (e : kept Bool b.keeps b.items ≡ kept Bool a.keeps a.items ++ each Bool given) where
  began : kept Bool b.keeps b.items ≡ kept Bool a.keeps [] ++ each Bool given
  began = e ∙ ap (λ (is : List Item). kept Bool a.keeps is ++ each Bool given) none

  pub turn_keeps : b.keeps ≡ a.keeps
  turn_keeps = taken_begin Bool a.keeps b.keeps b.items given began

  pub turn_items : b.items ≡ given
  turn_items = taken_items Bool a.keeps b.keeps b.items given began

-- ---- items that are taken again

abbrev begin_again : TakenAgain → TakenAgain
begin_again t = record t { items = [] }

pub again_more : (a b : TakenAgain) (x : Item) → b ≡ record a { items = a.items ++ x ∷ [] } → kept TakenAgain (begin_again b) b.items ≡ kept TakenAgain (begin_again a) a.items ++ kept_item TakenAgain x ∷ []
again_more a b x e = ap (λ (t : TakenAgain). kept TakenAgain (begin_again t) t.items) e ∙ kept_more TakenAgain (begin_again a) a.items x

abbrev parses : List Item → Result (List Item) GrammarFault
parses items = Ok items

one_list : (tokens : Tokens) (items others : List Item) → IsParsed tokens (parses items) → IsParsed tokens (parses others) → items ≡ others
one_list tokens items others is also = by (parsing.one tokens.style tokens.items tokens.end (parses items) (parses others) is also)
  where
    by : IsOne (parses items) (parses others) → items ≡ others
    by (inl e) = cc
    by (inr (inl e)) = absurd (cc)
    by (inr (inr e)) = absurd (cc)

-- what is taken again is all that is spelled
pub taken_whole : (tokens : Tokens) (a b : TakenAgain) (items : List Item) → a.items ≡ [] → IsParsed tokens (Ok a.whole) → IsParsed tokens (Ok items)
    → kept TakenAgain (begin_again b) b.items ≡ kept TakenAgain (begin_again a) a.items ++ each TakenAgain items → b ≡ record a { items = a.whole }
taken_whole tokens a b items none whole again e =
    let began : kept TakenAgain (begin_again b) b.items ≡ kept TakenAgain (begin_again a) [] ++ each TakenAgain items = e ∙ ap (λ (is : List Item). kept TakenAgain (begin_again a) is ++ each TakenAgain items) none in
    let start : begin_again b ≡ begin_again a = taken_begin TakenAgain (begin_again a) (begin_again b) b.items items began in
    let taken : b.items ≡ a.whole = taken_items TakenAgain (begin_again a) (begin_again b) b.items items began ∙ one_list tokens items a.whole again whole in
    ap (λ (t : TakenAgain). record { whole = t.whole; items = b.items; keeps = t.keeps }) start
    ∙ ap (λ (is : List Item). record { whole = a.whole; items = is; keeps = a.keeps }) taken
