-- The readers of embedded formulas and terms are exact and find all that is derived.
use Rattle.std.proofs.Common.{◌≡◌, Bool, true, false, if◌then◌else◌, ℕ, zero, suc, ◌+◌, List, [], ◌∷◌, Option, Some, None, Err, refl, sym, ◌∙◌, ap, subst, codes, arith}
use Rattle.std.specs.Str.{bytes_eq}
use Rattle.first_fault.specs.Nesting.{plain}
use Rattle.first_fault.specs.code.Reading.{Unexpected, mapped, next, closed}
use Rattle.first_fault.proofs.Exact.{Exact, Inhabited, exact_stop}
use Rattle.first_fault.proofs.Found.{Found}
use Rattle.first_fault.proofs.Good.{Good, GoodAt, After, after, widen, good_as, good_choice, behind_token, over_token, unmapped, always}
use Rattle.tptp_lexer.specs.declared.token.Token.{Token}
use Rattle.tptp_lexer.specs.declared.token.Token.TheVariants.{Lower, Upper, Dollar, Mark as Sign}
use Rattle.tptp_lexer.specs.declared.token.Mark.TheVariants as m
use Rattle.tptp_base.specs.declared.surface.STerm.{STerm}
use Rattle.tptp_base.specs.declared.surface.STerm.TheVariants as tm
use Rattle.tptp_base.specs.declared.surface.Surface.{Surface}
use Rattle.tptp_base.specs.declared.surface.Surface.TheVariants as fm
use Rattle.tptp_base.specs.declared.item.Lang.{Lang}
use Rattle.tptp_base.specs.declared.item.Lang.TheVariants as lang
use Rattle.tptp_base.specs.declared.item.GTerm.{GTerm}
use Rattle.tptp_base.specs.declared.item.GTerm.TheVariants as gt
use Rattle.tptp_grammar.specs.Tokens.{Text, Tokens, embedded_text}
use Rattle.tptp_grammar.specs.Terms as t
use Rattle.tptp_grammar.specs.Terms.{IsTerm}
use Rattle.tptp_grammar.specs.Formulas as f
use Rattle.tptp_grammar.specs.Clauses as c
use Rattle.tptp_grammar.specs.TypedClauses as q
use Rattle.tptp_grammar.specs.GeneralTerms as g
use Rattle.tptp_grammar.specs.GeneralTerms.{IsFormulaOf, IsGeneralData}
use Rattle.tptp_grammar.specs.code.ReadTerms.{is_mark, term}
use Rattle.tptp_grammar.specs.code.ReadFormulas.{formula}
use Rattle.tptp_grammar.specs.code.ReadClauses.{clause}
use Rattle.tptp_grammar.specs.code.ReadTypedClauses.{typed_clause}
use Rattle.tptp_grammar.specs.code.ReadGeneral.{formula_of, formula_open, formula_in_at, formula_in, term_open, term_in_at, term_in, embedded, formula_data_at, formula_data}
use Rattle.tptp_grammar.proofs.Marks.{text_is, closes, ends_term, ends_literals, ends_formula, good_in}
use Rattle.tptp_grammar.proofs.ExactTerms.{good_term}
use Rattle.tptp_grammar.proofs.ExactFormulas.{good_formula}
use Rattle.tptp_grammar.proofs.ExactClauses.{good_clause}
use Rattle.tptp_grammar.proofs.ExactTypedClauses.{good_typed_clause}

-- ---- embedded formulas and terms

-- the follow conditions that a closing parenthesis meets
closes_term : (h : Option Token) → closes h ≡ true → ends_term h ≡ true
closes_term (Some (Sign m.Close)) e = refl
closes_term h e = cc

closes_literals : (h : Option Token) → closes h ≡ true → ends_literals h ≡ true
closes_literals (Some (Sign m.Close)) e = refl
closes_literals h e = cc

closes_formula : (h : Option Token) → closes h ≡ true → ends_formula h ≡ true
closes_formula (Some (Sign m.Close)) e = refl
closes_formula h e = cc

good_formula_of : (l : Lang) (room d limit : ℕ) → limit ≡ d + room → Good limit (formula_of l room) (IsFormulaOf l d) closes
good_formula_of lang.Cnf room d limit e = good_as limit (clause room) (IsFormulaOf lang.Cnf d) (IsFormulaOf lang.Cnf d) ends_literals closes (good_clause room d limit e) (λ x ts rest h. h) (λ x ts rest h. h) closes_literals
good_formula_of lang.Fof room d limit e = good_as limit (formula false room) (IsFormulaOf lang.Fof d) (IsFormulaOf lang.Fof d) ends_formula closes (good_formula false room d limit e) (λ x ts rest h. h) (λ x ts rest h. h) closes_formula
good_formula_of lang.Tcf room d limit e = good_as limit (typed_clause room) (IsFormulaOf lang.Tcf d) (IsFormulaOf lang.Tcf d) ends_literals closes (good_typed_clause room d limit e) (λ x ts rest h. h) (λ x ts rest h. h) closes_literals
good_formula_of lang.Tff room d limit e = good_as limit (formula true room) (IsFormulaOf lang.Tff d) (IsFormulaOf lang.Tff d) ends_formula closes (good_formula true room d limit e) (λ x ts rest h. h) (λ x ts rest h. h) closes_formula

abbrev EnclosedFormula : Lang → ℕ → Surface → Tokens → Tokens → Type 0
EnclosedFormula l d x ts rest = IsFormulaOf l (suc d) x ts ((Sign m.Close, suc d) ∷ rest)

abbrev OpenFormula : Lang → ℕ → Surface → Tokens → Tokens → Type 0
OpenFormula l d = After (Sign m.Open) (suc d) (λ x. x) (EnclosedFormula l d)

some_formula : (l : Lang) (d : ℕ) → Inhabited (EnclosedFormula l d)
some_formula lang.Cnf d = record { value = fm.Atom [] []; text = λ rest. (Lower [], suc d) ∷ (Sign m.Close, suc d) ∷ rest; spells = λ rest. c.literal (c.positive (t.predicate (t.constant refl))) }
some_formula lang.Tcf d = record { value = fm.Atom [] []; text = λ rest. (Lower [], suc d) ∷ (Sign m.Close, suc d) ∷ rest; spells = λ rest. q.unquantified (c.literal (c.positive (t.predicate (t.constant refl)))) }
some_formula lang.Fof d = record { value = fm.Atom [] []; text = λ rest. (Lower [], suc d) ∷ (Sign m.Close, suc d) ∷ rest; spells = λ rest. f.single (f.atom (t.predicate (t.constant refl))) }
some_formula lang.Tff d = record { value = fm.Atom [] []; text = λ rest. (Lower [], suc d) ∷ (Sign m.Close, suc d) ∷ rest; spells = λ rest. f.single (f.atom (t.predicate (t.constant refl))) }

good_formula_open : (l : Lang) (room d limit : ℕ) → limit ≡ d + room → GoodAt limit (Sign m.Open) (formula_open l room) (OpenFormula l d) always
unfolding formula_open
good_formula_open l zero d limit e = over_token limit (Sign m.Open) (suc d) (formula_open l zero) (λ x. x) (EnclosedFormula l d) always (omega arith) (some_formula l d) (λ us. refl)
good_formula_open l (suc room) d limit e =
    behind_token limit (Sign m.Open) (suc d) (formula_open l (suc room)) (λ x. x) (EnclosedFormula l d) always (closed (is_mark m.Close) (formula_of l room)) (omega arith)
    (good_in m.Close limit (suc d) (omega arith) (formula_of l room) (IsFormulaOf l (suc d)) closes always refl (good_formula_of l room (suc d) limit (omega arith)))
    (λ us. unmapped _ _ refl)

abbrev EnclosedTerm : ℕ → STerm → Tokens → Tokens → Type 0
EnclosedTerm d x ts rest = IsTerm (suc d) x ts ((Sign m.Close, suc d) ∷ rest)

abbrev OpenTerm : ℕ → STerm → Tokens → Tokens → Type 0
OpenTerm d = After (Sign m.Open) (suc d) (λ x. x) (EnclosedTerm d)

some_term : (d : ℕ) → Inhabited (EnclosedTerm d)
some_term d = record { value = tm.Var []; text = λ rest. (Upper [], suc d) ∷ (Sign m.Close, suc d) ∷ rest; spells = λ rest. t.variable }

good_term_open : (room d limit : ℕ) → limit ≡ d + room → GoodAt limit (Sign m.Open) (term_open room) (OpenTerm d) always
unfolding term_open
good_term_open zero d limit e = over_token limit (Sign m.Open) (suc d) (term_open zero) (λ x. x) (EnclosedTerm d) always (omega arith) (some_term d) (λ us. refl)
good_term_open (suc room) d limit e =
    behind_token limit (Sign m.Open) (suc d) (term_open (suc room)) (λ x. x) (EnclosedTerm d) always (closed (is_mark m.Close) (term room)) (omega arith)
    (good_in m.Close limit (suc d) (omega arith) (term room) (IsTerm (suc d)) ends_term always refl (good_term room (suc d) limit (omega arith)))
    (λ us. unmapped _ _ refl)

module _ (room d limit : ℕ) (e : limit ≡ d + room) where
  some_open_formula : (l : Lang) → Inhabited (OpenFormula l d)
  some_open_formula l = record { value = (some_formula l d).value; text = λ rest. (Sign m.Open, suc d) ∷ (some_formula l d).text rest; spells = λ rest. after ((some_formula l d).spells rest) }

  exact_formula_in : (l : Lang) (ts : List Token) → Exact (formula_in_at l room (next ts)) (OpenFormula l d) limit ts (formula_in_at l room (next ts) ts)
  exact_formula_in l (Sign m.Open ∷ ts) = (good_formula_open l room d limit e).exact ts
  exact_formula_in l ts = exact_stop (formula_in_at l room (next ts)) (OpenFormula l d) limit ts (some_open_formula l) (λ other k. refl)

  found_formula_in : (l : Lang) (x : Surface) (ts rest : Tokens) → OpenFormula l d x ts rest → Found limit (formula_in_at l room (next (plain ts))) x ts rest
  found_formula_in l x ts rest (after h) = (good_formula_open l room d limit e).found x ts rest (after h) refl

  good_formula_in : (l : Lang) → Good limit (formula_in l room) (OpenFormula l d) always
  unfolding formula_in
  good_formula_in l = good_choice limit (formula_in l room) (formula_in_at l room) (OpenFormula l d) always (λ us. refl) (exact_formula_in l) (λ x ts rest h k. found_formula_in l x ts rest h) (some_open_formula l)

  some_open_term : Inhabited (OpenTerm d)
  some_open_term = record { value = (some_term d).value; text = λ rest. (Sign m.Open, suc d) ∷ (some_term d).text rest; spells = λ rest. after ((some_term d).spells rest) }

  exact_term_in : (ts : List Token) → Exact (term_in_at room (next ts)) (OpenTerm d) limit ts (term_in_at room (next ts) ts)
  exact_term_in (Sign m.Open ∷ ts) = (good_term_open room d limit e).exact ts
  exact_term_in ts = exact_stop (term_in_at room (next ts)) (OpenTerm d) limit ts some_open_term (λ other k. refl)

  found_term_in : (x : STerm) (ts rest : Tokens) → OpenTerm d x ts rest → Found limit (term_in_at room (next (plain ts))) x ts rest
  found_term_in x ts rest (after h) = (good_term_open room d limit e).found x ts rest (after h) refl

  good_term_in : Good limit (term_in room) (OpenTerm d) always
  unfolding term_in
  good_term_in = good_choice limit (term_in room) (term_in_at room) (OpenTerm d) always (λ us. refl) exact_term_in (λ x ts rest h k. found_term_in x ts rest h) some_open_term

-- ---- words that embed

-- the word before a formula of the language
abbrev IsEmbedded : Text → Lang → Type 0
IsEmbedded w l = (w ≡ embedded_text l) × (l ≡ lang.Tcf → ⊥)

embedded_by : (w : Text) (a b c : Bool) → bytes_eq w (embedded_text lang.Cnf) ≡ a → bytes_eq w (embedded_text lang.Fof) ≡ b → bytes_eq w (embedded_text lang.Tff) ≡ c → (l : Lang) → (if a then Some lang.Cnf else if b then Some lang.Fof else if c then Some lang.Tff else None) ≡ Some l → IsEmbedded w l
embedded_by w true b c i j k l e = let same : lang.Cnf ≡ l = cc in subst (IsEmbedded w) same (text_is w (embedded_text lang.Cnf) i, λ never. (cc))
embedded_by w false true c i j k l e = let same : lang.Fof ≡ l = cc in subst (IsEmbedded w) same (text_is w (embedded_text lang.Fof) j, λ never. (cc))
embedded_by w false false true i j k l e = let same : lang.Tff ≡ l = cc in subst (IsEmbedded w) same (text_is w (embedded_text lang.Tff) k, λ never. (cc))
embedded_by w false false false i j k l e = cc

embedded_is : (w : Text) (l : Lang) → embedded w ≡ Some l → IsEmbedded w l
unfolding embedded
embedded_is w l e = embedded_by w (bytes_eq w (embedded_text lang.Cnf)) (bytes_eq w (embedded_text lang.Fof)) (bytes_eq w (embedded_text lang.Tff)) refl refl refl l e

is_embedded_text : (l : Lang) → (l ≡ lang.Tcf → ⊥) → embedded (embedded_text l) ≡ Some l
unfolding embedded
is_embedded_text lang.Cnf other = refl
is_embedded_text lang.Fof other = refl
is_embedded_text lang.Tff other = refl
is_embedded_text lang.Tcf other = absurd (other refl)

pub is_embedded : (w : Text) (l : Lang) → w ≡ embedded_text l → (l ≡ lang.Tcf → ⊥) → embedded w ≡ Some l
is_embedded w l e other = ap embedded e ∙ is_embedded_text l other

term_word : (room : ℕ) (w : Text) → w ≡ codes "$fot" → (us : List Token) → formula_data room w (Dollar w ∷ us) ≡ mapped gt.Term (term_in room us)
unfolding formula_data embedded
term_word room w e us = subst (λ v. formula_data room v (Dollar w ∷ us) ≡ mapped gt.Term (term_in room us)) (sym e) refl

formula_word : (room : ℕ) (w : Text) (l : Lang) → embedded w ≡ Some l → (us : List Token) → formula_data room w (Dollar w ∷ us) ≡ mapped (gt.Formula l) (formula_in l room us)
unfolding formula_data
formula_word room w l e us = ap (λ o. formula_data_at room w o (Dollar w ∷ us)) e

no_word : (room : ℕ) (w : Text) → embedded w ≡ None → bytes_eq w (codes "$fot") ≡ false → (us : List Token) → formula_data room w us ≡ Err (Unexpected, us)
unfolding formula_data
no_word room w e k us = ap (λ o. formula_data_at room w o us) e ∙ rw k refl

of_formula_word : (d : ℕ) (w : Text) (l : Lang) → IsEmbedded w l → (x : GTerm) (ts rest : Tokens) → After (Dollar w) d (gt.Formula l) (OpenFormula l d) x ts rest → IsGeneralData d x ts rest
of_formula_word d w l e x ts rest (after (after h)) = g.formula_data e.0 e.1 h

of_term_word : (d : ℕ) (w : Text) → w ≡ codes "$fot" → (x : GTerm) (ts rest : Tokens) → After (Dollar w) d gt.Term (OpenTerm d) x ts rest → IsGeneralData d x ts rest
of_term_word d w e x ts rest (after (after h)) = g.term_data e h

pub some_data : (d : ℕ) → Inhabited (IsGeneralData d)
some_data d = record { value = gt.Var []; text = λ rest. (Upper [], d) ∷ rest; spells = λ rest. g.general_variable }

module _ (room d limit : ℕ) (e : limit ≡ d + room) (w : Text) where
  pub at_formula : (l : Lang) → embedded w ≡ Some l → GoodAt limit (Dollar w) (formula_data room w) (After (Dollar w) d (gt.Formula l) (OpenFormula l d)) always
  at_formula l is = behind_token limit (Dollar w) d (formula_data room w) (gt.Formula l) (OpenFormula l d) always (formula_in l room) (omega arith) (good_formula_in room d limit e l) (formula_word room w l is)

  pub at_term : w ≡ codes "$fot" → GoodAt limit (Dollar w) (formula_data room w) (After (Dollar w) d gt.Term (OpenTerm d)) always
  at_term is = behind_token limit (Dollar w) d (formula_data room w) gt.Term (OpenTerm d) always (term_in room) (omega arith) (good_term_in room d limit e) (term_word room w is)

  exact_other : (b : Bool) → embedded w ≡ None → bytes_eq w (codes "$fot") ≡ b → (ts : List Token) → Exact (formula_data room w) (IsGeneralData d) limit (Dollar w ∷ ts) (formula_data room w (Dollar w ∷ ts))
  exact_other true i k ts =
      let is = text_is w (codes "$fot") k in
      widen (formula_data room w) (After (Dollar w) d gt.Term (OpenTerm d)) (IsGeneralData d) limit (of_term_word d w is) (Dollar w ∷ ts) (formula_data room w (Dollar w ∷ ts)) ((at_term is).exact ts)
  exact_other false i k ts =
      subst (Exact (formula_data room w) (IsGeneralData d) limit (Dollar w ∷ ts)) (sym (no_word room w i k (Dollar w ∷ ts))) (exact_stop (formula_data room w) (IsGeneralData d) limit (Dollar w ∷ ts) (some_data d) (λ other n. no_word room w i k other))

  pub exact_embedding : (o : Option Lang) → embedded w ≡ o → (ts : List Token) → Exact (formula_data room w) (IsGeneralData d) limit (Dollar w ∷ ts) (formula_data room w (Dollar w ∷ ts))
  exact_embedding (Some l) is ts =
      widen (formula_data room w) (After (Dollar w) d (gt.Formula l) (OpenFormula l d)) (IsGeneralData d) limit (of_formula_word d w l (embedded_is w l is)) (Dollar w ∷ ts) (formula_data room w (Dollar w ∷ ts)) ((at_formula l is).exact ts)
  exact_embedding None is ts = exact_other (bytes_eq w (codes "$fot")) is refl ts
