-- Lists of entries, taken one by one.
use Rattle.std.specs.Prelude.{List, [], ◌∷◌, ◌++◌, refl}
use Rattle.std.proofs.Common.{subst}
use Rattle.kernel.specs.Statements.{Statements}
use Rattle.kernel.specs.Entries.{Legal, After, Admits}
use Rattle.kernel.specs.declared.entry.Entry.{Entry}

-- one list after another
pub admits_append : (t u w : Statements) (es fs : List Entry) → Admits t es u → Admits u fs w → Admits t (es ++ fs) w
admits_append t u w [] fs first second = subst (λ x. Admits x fs w) first second
admits_append t u w (e ∷ es) fs first second = (first.0, (first.1.0, first.1.1, admits_append first.1.0 u w es fs first.1.2 second))

-- one entry more
pub admits_more : (t u w : Statements) (es : List Entry) (e : Entry) → Admits t es u → Legal u e → After u e w → Admits t (es ++ e ∷ []) w
admits_more t u w es e first legal after = admits_append t u w es (e ∷ []) first (legal, (w, after, refl))
