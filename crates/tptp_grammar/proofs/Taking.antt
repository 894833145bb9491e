-- The parser's loop, whose items are taken one by one.
use Rattle.std.proofs.Common.{◌≡◌, ◌↔◌, Bool, false, IsTrue, ◌<◌, ◌≤◌, List, [], ◌∷◌, ◌++◌, length, flat_map, sym, ◌∙◌, ap, subst, append_assoc, append-nil, arith}
use Rattle.std.proofs.lemmas.Grind.{flat_map-append}
use Rattle.tptp_lexer.specs.declared.style.Style.{Style}
use Rattle.tptp_lexer.specs.declared.token.Token.{Token}
use Rattle.tptp_lexer.specs.declared.token.Token.TheVariants.{Comment}
use Rattle.tptp_base.specs.declared.place.Place.{Place}
use Rattle.tptp_base.specs.declared.item.Item.{Item}
use Rattle.tptp_grammar.specs.Files.{SpellsWithin}
use Rattle.tptp_grammar.specs.Faults.{max_nesting}
use Rattle.tptp_grammar.specs.Solid.{Placed}
use Rattle.tptp_grammar.specs.code.Answers.{Starts}
use Rattle.tptp_grammar.proofs.Dots.{behind_shorter}
use Rattle.tptp_grammar.proofs.Whole.{Kept, kept_first, kept_last, kept_start, ok_says}

-- the items so far are taken, and they and what is still to be read are the whole
pub record Taken {Part : Type 0} (parts : Item → List Part) (old now : List Part) (style : Style) (all rest : List Placed) : Type 0 where
  pub found : List Item
  pub kept : Kept style all found rest
  pub taken : now ≡ old ++ flat_map parts found

module _ {Part : Type 0} (parts : Item → List Part) (old : List Part) (style : Style) (all : List Placed) where
  pub taken_first : (rest : List Placed) → rest ≡ all → Taken parts old old style all rest
  taken_first rest is = record { found = []; kept = subst (Kept style all []) (sym is) (kept_first style all); taken = sym (append-nil old) }

  pub taken_last : (now : List Part) (rest : List Placed) → rest ≡ [] → Taken parts old now style all rest → (found : List Item) × SpellsWithin style max_nesting found all × (now ≡ old ++ flat_map parts found)
  taken_last now rest is h = (h.found, ok_says style all h.found (kept_last style all h.found rest is h.kept), h.taken)

  one_more : (now next : List Part) (found : List Item) (item : Item) → now ≡ old ++ flat_map parts found → next ≡ now ++ parts item → next ≡ old ++ flat_map parts (found ++ (item ∷ []))
  one_more now next found item is more =
      let last : flat_map parts (found ++ (item ∷ [])) ≡ flat_map parts found ++ parts item = flat_map-append parts found (item ∷ []) ∙ ap (λ l. flat_map parts found ++ l) (append-nil (parts item)) in
      more ∙ ap (λ l. l ++ parts item) is ∙ append_assoc old (flat_map parts found) (parts item) ∙ ap (λ l. old ++ l) (sym last)

  -- behind one more item
  pub taken_more : (now next : List Part) (t : Token) (place : Place) (ts us : List Placed) → us ≡ (t, place) ∷ ts → Taken parts old now style all us → (item : Item) (new : List Placed) → Starts style t place ts item new → next ≡ now ++ parts item
      → Taken parts old next style all new
  taken_more now next t place ts us is h item new starts more = record { found = h.found ++ (item ∷ []); kept = kept_start style all h.found t place ts us is h.kept item new starts; taken = one_more now next h.found item h.taken more }

-- where a list is not found empty
pub more_left : (b : Bool) (us : List Placed) → (IsTrue b ↔ (us ≡ [])) → b ≡ false → us ≡ [] → ⊥
more_left b us h e none = let t : IsTrue b = h.1 none in cc

shorter_start : (style : Style) (t : Token) (place : Place) (rest : List Placed) (item : Item) (new : List Placed) → Starts style t place rest item new → length new ≤ length rest
shorter_start style (Comment text) place rest item new h = omega (arith, ap length h.1)
shorter_start style t place rest item new h = omega (arith, ap length h.0, behind_shorter rest)

pub starts_shorter : (style : Style) (t : Token) (place : Place) (rest us : List Placed) (item : Item) (new : List Placed) → us ≡ (t, place) ∷ rest → Starts style t place rest item new → length new < length us
starts_shorter style t place rest us item new is h = let le = shorter_start style t place rest item new h in omega (arith, ap length is)
