-- What a clause has in common with its flat form: the heads of its literals, in order. A formula that is no clause, or
-- one with truth or falsehood among its literals, has none.
use Rattle.std.specs.Prelude.{ℕ, ◌≡◌, true, false, List, [], ◌∷◌, map, Option, Some, None}
use Rattle.std.specs.Option.{option_map}
use Rattle.fof_terms.specs.declared.form.Form.{Form}
use Rattle.fof_terms.specs.declared.form.Form.TheFolds.{fold-Form}
use Rattle.fof_terms.specs.declared.form.Form.TheOpen as form
use Rattle.clause_form.specs.ClauseView.{all_there}
use Rattle.rule_steps.specs.declared.outline.Head.{Head}

-- the symbol of an atom (an equation has none), the head of a literal, and the heads of a clause
pub record Sketch : Type 0 where
  pub atom : Option (Option ℕ)
  pub head : Option Head
  pub heads : Option (List Head)

abbrev pub stated : Option ℕ → Head
stated symbol = record { positive = true; symbol = symbol }

abbrev pub denied : Option ℕ → Head
denied symbol = record { positive = false; symbol = symbol }

abbrev pub alone : Head → List Head
alone head = head ∷ []

abbrev pub of_head : Option Head → Sketch
of_head head = record { atom = None; head = head; heads = option_map alone head }

abbrev pub of_atom : Option ℕ → Sketch
of_atom symbol = record { atom = Some symbol; head = Some (stated symbol); heads = Some (alone (stated symbol)) }

abbrev pub of_heads : Option (List Head) → Sketch
of_heads heads = record { atom = None; head = None; heads = heads }

abbrev pub head_in : Sketch → Option Head
head_in sketch = sketch.head

abbrev pub sketch_step : form.Form-F Sketch → Sketch
sketch_step (form.Atom p ts) = of_atom (Some p)
sketch_step (form.Eq l r) = of_atom None
sketch_step (form.Not a) = of_head (option_map denied a.atom)
sketch_step (form.And as_) = of_heads None
sketch_step (form.Or as_) = of_heads (all_there (map head_in as_))
sketch_step (form.Imp a b) = of_heads None
sketch_step (form.Iff a b) = of_heads None
sketch_step (form.All s a) = of_heads a.heads
sketch_step (form.Ex s a) = of_heads None

unfoldable pub sketch : Form → Sketch
sketch = fold-Form Sketch sketch_step

abbrev pub heads_of : Form → Option (List Head)
heads_of a = (sketch a).heads

-- the formula has other heads than these
abbrev pub HasOthers : List Head → Form → Type 0
HasOthers heads a = (own : List Head) × (heads_of a ≡ Some own) × (own ≡ heads → ⊥)
