-- Legal entries lead from one theory to another.
use Rattle.std.proofs.Common.{◌≡◌, [], ◌∷◌, ◌++◌, refl}
use Rattle.kernel.specs.Statements.{Statements}
use Rattle.kernel.specs.Entries.{Legal, After}
use Rattle.kernel.specs.declared.entry.Entry.{Entry}
use Rattle.kernel.proofs.EntryLaws.{admits_append}
use Rattle.verifier.specs.Logged.{LeadTo}

-- none, where the theory is as it was
pub led_none : (t u : Statements) → u ≡ t → LeadTo t u
led_none t u is = ([], is)

pub led_itself : (t : Statements) → LeadTo t t
led_itself t = led_none t t refl

-- one
pub led_one : (t u : Statements) (e : Entry) → Legal t e → After t e u → LeadTo t u
led_one t u e legal after = (e ∷ [], (legal, (u, after, refl)))

-- some, and then more
pub led_more : (t u v : Statements) → LeadTo t u → LeadTo u v → LeadTo t v
led_more t u v (first, one) (second, two) = (first ++ second, admits_append t u v first second one two)
