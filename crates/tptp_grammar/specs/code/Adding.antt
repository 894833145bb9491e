-- What a function ensures that goes on with what was read.
use Rattle.std.specs.Prelude.{◌≡◌, List, [], ◌∷◌, ◌++◌, Result, Ok, Err}
use Rattle.first_fault.specs.code.Reading.{mapped, expect}
use Rattle.tptp_lexer.specs.declared.token.Token.{Token}
use Rattle.tptp_lexer.specs.declared.token.Mark.{Mark}
use Rattle.tptp_grammar.specs.declared.stop.Stop.{Stop}
use Rattle.tptp_grammar.specs.declared.stop.Stop.TheVariants as stop
use Rattle.tptp_grammar.specs.code.ReadTerms.{is_mark}
use Rattle.tptp_grammar.specs.code.Outcomes.{Reads}

-- What was read stands behind the list, unless it was not read or memory runs out.
abbrev pub IsAdded : {A : Type 0} → Result A Stop → List A → Result (Unit {0}) Stop → List A → Type 0
IsAdded (Ok x) xs (Ok _) new = new ≡ xs ++ (x ∷ [])
IsAdded (Ok x) xs (Err e) new = e ≡ stop.Memory
IsAdded (Err e) xs (Ok _) new = ⊥
IsAdded (Err e) xs (Err f) new = f ≡ e

-- The mark stands behind what was read, or the reader's fault stays.
abbrev pub IsClosed : {A : Type 0} → Mark → Result A Stop → List Token → Result A Stop → List Token → Type 0
IsClosed mark (Ok x) ts result new = Reads (mapped (λ _. x) (expect (is_mark mark) ts)) result new
IsClosed mark (Err e) ts result new = (result ≡ Err e) × (new ≡ ts)
