-- Tokens that were tested, which are read one by one.
use Rattle.std.proofs.Common.{◌≡◌, Bool, true, false, ℕ, List, inl, inr, [], ◌∷◌, ◌++◌, Ok, Err, refl, sym, ◌∙◌, ap, subst}
use Rattle.tptp_lexer.specs.declared.style.Style.{Style}
use Rattle.tptp_lexer.specs.declared.token.Token.{Token}
use Rattle.tptp_base.specs.declared.place.Place.{Place}
use Rattle.tptp_base.specs.declared.item.Item.{Item}
use Rattle.first_fault.specs.code.Reading.{Unexpected, TooDeep}
use Rattle.tptp_lexer.specs.Dots.{is_comment, behind_dot}
use Rattle.tptp_grammar.specs.declared.stop.Stop.{Stop}
use Rattle.tptp_grammar.specs.declared.stop.Stop.TheVariants as stop
use Rattle.tptp_grammar.specs.Faults.{max_nesting}
use Rattle.tptp_grammar.specs.Files.{SpellsWithin}
use Rattle.tptp_grammar.specs.Solid.{Placed, solid}
use Rattle.tptp_grammar.specs.code.Answers.{Starts, StartFails, Refuses, ItemFails}
use Rattle.tptp_grammar.specs.code.ReadFile.{FileOutcome, with_item, file, items_of, items_left, AreRead}
use Rattle.tptp_grammar.proofs.ExactFile.{comment_text}
use Rattle.tptp_grammar.proofs.Whole.{Kept, kept_first, kept_last, kept_start, with_items, fails_item, file_stops, Stopped, within_read}

unfolds : (style : Style) (ts : List Placed) → items_left style ts ≡ items_of (file style max_nesting ts)
unfolding items_left
unfolds style ts = refl

-- what was found by testing is what is left
are_read : (style : Style) (ts : List Placed) (items : List Item) → file style max_nesting ts ≡ Ok items → AreRead style ts
are_read style ts items e = e ∙ ap Ok (sym (unfolds style ts ∙ ap items_of e))

pub tested : (style : Style) (ts : List Placed) (items : List Item) → SpellsWithin style max_nesting items ts → AreRead style ts
tested style ts items (us, d, w) = are_read style ts items (within_read style max_nesting items ts us d w)

none_left : (style : Style) → items_left style [] ≡ []
none_left style = unfolds style [] ∙ ap items_of (kept_last style [] [] [] refl (kept_first style []))

pub no_items : (style : Style) (ts : List Placed) → ts ≡ [] → items_left style ts ≡ []
no_items style ts is = ap (items_left style) is ∙ none_left style

read_on : (o : FileOutcome) (items : List Item) (i : Item) → Ok items ≡ with_items (i ∷ []) o → (o ≡ Ok (items_of o)) × (items ≡ i ∷ items_of o)
read_on (Ok more) items i e = (refl, ap items_of e)
read_on (Err f) items i e = cc

module _ (style : Style) (t : Token) (place : Place) (ts us : List Placed) (is : us ≡ (t, place) ∷ ts) (all : AreRead style us) where
  -- behind the next item
  pub read_turn : (i : Item) (new : List Placed) → Starts style t place ts i new → AreRead style new × (items_left style us ≡ i ∷ items_left style new)
  read_turn i new starts =
      let kept = kept_start style us [] t place ts us is (kept_first style us) i new starts in
      let (here, more) = read_on (file style max_nesting new) (items_left style us) i (sym all ∙ kept.read) in
      (are_read style new (items_of (file style max_nesting new)) here, more ∙ ap (λ l. i ∷ l) (sym (unfolds style new)))

  not_stopped : (s : Stop) (left : List Token) → Stopped (file style max_nesting us) s left → s ≡ stop.Memory
  not_stopped stop.Memory left k = refl
  not_stopped stop.Unexpected left k = let same : ◌≡◌ {A = FileOutcome} (Ok (items_left style us)) (Err (Unexpected, left)) = sym all ∙ k in cc
  not_stopped stop.TooDeep left k = let same : ◌≡◌ {A = FileOutcome} (Ok (items_left style us)) (Err (TooDeep, left)) = sym all ∙ k in cc

  refused : is_comment t ≡ false → (s : Stop) (taken : ℕ) → Refuses style t place ts s taken → s ≡ stop.Memory
  refused e s taken (inl k) = k
  refused e s taken (inr k) = not_stopped s (k.left ++ solid (behind_dot ts)) (file_stops style us place [] t place ts us is (kept_first style us) e s k.left k.fails)

  memory_at : (b : Bool) → is_comment t ≡ b → (s : Stop) (taken : ℕ) → StartFails style t place ts s taken → s ≡ stop.Memory
  memory_at true e s taken k = let c = comment_text t e in subst (λ u. StartFails style u place ts s taken) c.1 k
  memory_at false e s taken k = refused e s taken (fails_item style t place ts s taken e k)

  -- only want of memory stops the reader
  pub only_memory : (s : Stop) (taken : ℕ) → StartFails style t place ts s taken → s ≡ stop.Memory
  only_memory s taken k = memory_at (is_comment t) refl s taken k
