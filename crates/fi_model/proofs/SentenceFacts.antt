-- How the sentences of items are found one by one.
use Rattle.std.proofs.Common.{◌≡◌, ℕ, ◌+◌, ◌<◌, ◌≤◌, List, [], ◌∷◌, ◌++◌, length, drop, get_or, Option, Some, None, Result, Ok, Err, refl, sym, ◌∙◌, ap, append_assoc}
use Rattle.std.proofs.lemmas.List.{append-nil, drop_all}
use Rattle.tptp_base.specs.declared.item.Item.{Item}
use Rattle.tptp_base.specs.declared.place.Place.{Place}
use Rattle.fi_model.specs.declared.fault.ModelFault.{ModelFault}
use Rattle.fi_model.specs.declared.sentence.Sentence.{Sentence}
use Rattle.fi_model.specs.Sentences.{item_sentence, in_front, and_then, sentences}
use Rattle.fi_model.specs.code.Shapes.{RefusesShape}
use Rattle.fi_model.specs.code.Adding.{AddsSentence}
use Rattle.fi_model.proofs.Loops.{at_member}
use Rattle.fi_model.specs.declared.fault.ModelFault.TheVariants as fault

-- behind those that are found
abbrev pub behind : List Sentence → Result (List Sentence) Place → Result (List Sentence) Place
behind found (Ok ss) = Ok (found ++ ss)
behind found (Err place) = Err place

pub begins : (r : Result (List Sentence) Place) → r ≡ behind [] r
begins (Ok ss) = refl
begins (Err place) = refl

front_behind : (found : List Sentence) (s : Sentence) (r : Result (List Sentence) Place) → behind found (in_front s r) ≡ behind (found ++ s ∷ []) r
front_behind found s (Ok ss) = ap Ok (sym (append_assoc found (s ∷ []) ss))
front_behind found s (Err place) = refl

module _ (items : List Item) (i : ℕ) (item : Item) (found : List Sentence) (lt : i < length items) (is : item ≡ get_or items i item) (before : sentences items ≡ behind found (sentences (drop i items))) where
  turning : sentences items ≡ behind found (and_then (item_sentence item) (sentences (drop (i + 1) items)))
  turning = before ∙ ap (λ (is_ : List Item). behind found (sentences is_)) (at_member items i item lt is)

  added : (r : Result (Option Sentence) Place) (new : List Sentence) (rest : Result (List Sentence) Place) → AddsSentence r found new → behind found (and_then r rest) ≡ behind new rest
  added (Ok None) new rest a = ap (λ (ss : List Sentence). behind ss rest) (sym a)
  added (Ok (Some s)) new rest a = front_behind found s rest ∙ ap (λ (ss : List Sentence). behind ss rest) (sym a)
  added (Err place) new rest a = absurd a

  pub turn : (new : List Sentence) → AddsSentence (item_sentence item) found new → sentences items ≡ behind new (sentences (drop (i + 1) items))
  turn new a = turning ∙ added (item_sentence item) new (sentences (drop (i + 1) items)) a

  refused : (r : Result (Option Sentence) Place) (f : ModelFault) (rest : Result (List Sentence) Place) → sentences items ≡ behind found (and_then r rest) → RefusesShape r f → RefusesShape (sentences items) f
  refused r (fault.Shape place) rest e h = e ∙ ap (λ (q : Result (Option Sentence) Place). behind found (and_then q rest)) h
  refused r (fault.Domain name) rest e h = absurd h
  refused r (fault.Element place name) rest e h = absurd h
  refused r (fault.Double place name) rest e h = absurd h
  refused r (fault.Missing name) rest e h = absurd h
  refused r fault.Memory rest e h = tt

  pub turn_fails : (f : ModelFault) → RefusesShape (item_sentence item) f → RefusesShape (sentences items) f
  turn_fails f h = refused (item_sentence item) f (sentences (drop (i + 1) items)) turning h

pub ends : (items : List Item) (i : ℕ) (found : List Sentence) → length items ≤ i → sentences items ≡ behind found (sentences (drop i items)) → sentences items ≡ Ok found
ends items i found le before = before ∙ ap (λ (is : List Item). behind found (sentences is)) (drop_all i items le) ∙ ap Ok (append-nil found)
