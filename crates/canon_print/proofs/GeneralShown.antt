-- The canonical text of general terms is cut into tokens that spell them.
use Rattle.std.proofs.Common.{◌≡◌, ℕ, suc, ◌≤◌, List, ◌∷◌, ◌++◌, map, codes, refl, sym, ap, arith}
use Rattle.tptp_lexer.specs.declared.token.Token.TheVariants.{Upper, Dollar, Number, Distinct, Mark as Sign}
use Rattle.tptp_lexer.specs.declared.token.Mark.TheVariants as m
use Rattle.tptp_base.specs.declared.surface.Surface.{Surface}
use Rattle.tptp_base.specs.declared.item.Lang.{Lang}
use Rattle.tptp_base.specs.declared.item.Lang.TheVariants as lang
use Rattle.tptp_base.specs.declared.item.GTerm.{GTerm}
use Rattle.tptp_lexer.specs.Bytes.{Text}
use Rattle.tptp_grammar.specs.Tokens.{Tokens, embedded_text}
use Rattle.tptp_grammar.specs.GeneralTerms as g
use Rattle.tptp_grammar.specs.GeneralTerms.{IsFormulaOf, IsGeneralData, IsGeneralTerm, IsGeneralList, AreGeneralTerms}
use Rattle.canon_print.specs.Words.{word_text, later, separated}
use Rattle.canon_print.specs.Canonical.{term_text, formula_text, list_text, general_text}
use Rattle.canon_print.proofs.Equations.{general_text-Word, general_text-Func, general_text-Var, general_text-Number, general_text-Distinct, general_text-Formula, general_text-Term, general_text-List, general_text-Pair}
use Rattle.canon_print.proofs.Longest.{Ends}
use Rattle.canon_print.proofs.Lexed.{LexedTo, done, join, sign, Given, word_facts, print_word, print_upper, print_number, print_distinct, print_dollar}
use Rattle.canon_print.proofs.Shows.{Shows, by_rule, by_text, two, comma, separated_one}
use Rattle.canon_print.proofs.TermsShown.{term_shown}
use Rattle.canon_print.proofs.FormulasShown.{formula_shown}
use Rattle.canon_print.proofs.ClausesShown.{clause_shown}

formula_of_shown : (limit : ℕ) (l : Lang) {d : ℕ} (f : Surface) (ts rest : Tokens) → (l ≡ lang.Tcf → ⊥) → IsFormulaOf l d f ts rest → Given limit ts → Shows limit (λ e. IsFormulaOf l e f) d (formula_text f) rest
formula_of_shown limit lang.Cnf f ts rest other h given = clause_shown limit h given
formula_of_shown limit lang.Fof f ts rest other h given = (let shown = formula_shown limit h given in record { left = shown.left; prints = shown.formula })
formula_of_shown limit lang.Tff f ts rest other h given = (let shown = formula_shown limit h given in record { left = shown.left; prints = shown.formula })
formula_of_shown limit lang.Tcf f ts rest other h given = absurd (other refl)

embedding_lexed : (limit e : ℕ) (l : Lang) (after : Text) (us : Tokens) → Ends after → e ≤ limit → LexedTo limit after us (embedded_text l ++ after) ((Dollar (embedded_text l), e) ∷ us)
embedding_lexed limit e lang.Cnf after us ends fits = print_dollar limit e 99 (codes "nf") after us refl refl ends fits
embedding_lexed limit e lang.Fof after us ends fits = print_dollar limit e 102 (codes "of") after us refl refl ends fits
embedding_lexed limit e lang.Tff after us ends fits = print_dollar limit e 116 (codes "ff") after us refl refl ends fits
embedding_lexed limit e lang.Tcf after us ends fits = print_dollar limit e 116 (codes "cf") after us refl refl ends fits

-- a text in parentheses
closed_lexed : {limit e : ℕ} {after : Text} {more us : Tokens} (inner : Text) → suc e ≤ limit → LexedTo limit (41 ∷ after) ((Sign m.Close, suc e) ∷ more) (inner ++ 41 ∷ after) us
    → LexedTo limit after more ((codes "(" ++ (inner ++ codes ")")) ++ after) ((Sign m.Open, suc e) ∷ us)
closed_lexed inner fits lexed = sign m.Open refl fits (join inner (codes ")") lexed (sign m.Close refl fits done))

later_general : {d : ℕ} {xs : List GTerm} {ts rest : Tokens} → AreGeneralTerms d xs ts rest → codes "," ++ separated (codes ",") (map general_text xs) ≡ later (codes ",") (map general_text xs)
later_general (g.last_general h) = refl
later_general (g.more_general h k) = refl

mutual
  pub data_shown : (limit : ℕ) {d : ℕ} {x : GTerm} {ts rest : Tokens} → IsGeneralData d x ts rest → Given limit ts → Shows limit (λ e. IsGeneralData e x) d (general_text x) rest
  data_shown limit (g.general_word {d = d} {w = w} {f = f} is) given = by_text (sym (general_text-Word f)) (record {
    left = given.2;
    prints = λ e le after ends more.
        let p = print_word limit e f after more (word_facts w f is given.0) ends (let fits : d ≤ limit = given.1 in omega arith) in
        record { us = (p.w, e) ∷ more; rule = g.general_word p.is_word; lexed = p.lexed };
  })
  data_shown limit (g.general_function {d = d} {w = w} {f = f} {xs = xs} is h) given =
      let inner = generals_shown limit h given.2.2 in
      let most : suc d ≤ limit = given.2.1 in
      let parts = separated (codes ",") (map general_text xs) in
      let tail = codes "(" ++ (parts ++ codes ")") in
      by_text (sym (general_text-Func f xs)) (record {
        left = inner.left.2;
        prints = λ e le after ends more.
            let fits : suc e ≤ limit = omega arith in
            let q = inner.prints (suc e) (omega arith) (41 ∷ after) refl ((Sign m.Close, suc e) ∷ more) in
            let p = print_word limit e f (tail ++ after) ((Sign m.Open, suc e) ∷ q.us) (word_facts w f is given.0) refl (omega arith) in
            record { us = (p.w, e) ∷ (Sign m.Open, suc e) ∷ q.us; rule = g.general_function p.is_word q.rule; lexed = join (word_text f) tail p.lexed (closed_lexed parts fits q.lexed) };
      })
  data_shown limit (g.general_variable {d = d} {x = x} {rest = rest}) given = by_text (sym (general_text-Var x)) (record {
    left = given.2;
    prints = λ e le after ends more. record { us = (Upper x, e) ∷ more; rule = g.general_variable; lexed = print_upper limit e x after more given.0 ends (let fits : d ≤ limit = given.1 in omega arith) };
  })
  data_shown limit (g.number {d = d} {n = n} {rest = rest}) given = by_text (sym (general_text-Number n)) (record {
    left = given.2;
    prints = λ e le after ends more. record { us = (Number n, e) ∷ more; rule = g.number; lexed = print_number limit e n after more given.0 ends (let fits : d ≤ limit = given.1 in omega arith) };
  })
  data_shown limit (g.distinct_object {d = d} {x = x} {rest = rest}) given = by_text (sym (general_text-Distinct x)) (record {
    left = given.2;
    prints = λ e le after ends more. record { us = (Distinct x, e) ∷ more; rule = g.distinct_object; lexed = print_distinct limit e x after more given.0 (let fits : d ≤ limit = given.1 in omega arith) };
  })
  data_shown limit (g.formula_data {d = d} {l = l} {f = f} {ts = ts} {rest = rest} is other h) given =
      let inner = formula_of_shown limit l f ts ((Sign m.Close, suc d) ∷ rest) other h given.2.2 in
      let most : suc d ≤ limit = given.2.1 in
      let tail = codes "(" ++ (formula_text f ++ codes ")") in
      by_text (sym (general_text-Formula l f)) (record {
        left = inner.left.2;
        prints = λ e le after ends more.
            let fits : suc e ≤ limit = omega arith in
            let q = inner.prints (suc e) (omega arith) (41 ∷ after) refl ((Sign m.Close, suc e) ∷ more) in
            record {
              us = (Dollar (embedded_text l), e) ∷ (Sign m.Open, suc e) ∷ q.us;
              rule = g.formula_data refl other q.rule;
              lexed = join (embedded_text l) tail (embedding_lexed limit e l (tail ++ after) ((Sign m.Open, suc e) ∷ q.us) refl (omega arith)) (closed_lexed (formula_text f) fits q.lexed);
            };
      })
  data_shown limit (g.term_data {d = d} {x = x} is h) given =
      let inner = term_shown limit h given.2.2 in
      let most : suc d ≤ limit = given.2.1 in
      let tail = codes "(" ++ (term_text x ++ codes ")") in
      by_text (sym (general_text-Term x)) (record {
        left = inner.left.2;
        prints = λ e le after ends more.
            let fits : suc e ≤ limit = omega arith in
            let q = inner.prints (suc e) (omega arith) (41 ∷ after) refl ((Sign m.Close, suc e) ∷ more) in
            record {
              us = (Dollar (codes "$fot"), e) ∷ (Sign m.Open, suc e) ∷ q.us;
              rule = g.term_data refl q.rule;
              lexed = join (codes "$fot") tail (print_dollar limit e 102 (codes "ot") (tail ++ after) ((Sign m.Open, suc e) ∷ q.us) refl refl refl (omega arith)) (closed_lexed (term_text x) fits q.lexed);
            };
      })

  pub general_shown : (limit : ℕ) {d : ℕ} {x : GTerm} {ts rest : Tokens} → IsGeneralTerm d x ts rest → Given limit ts → Shows limit (λ e. IsGeneralTerm e x) d (general_text x) rest
  general_shown limit (g.general_data h) given = by_rule (λ e us more rule. g.general_data rule) (data_shown limit h given)
  general_shown limit (g.pair {d = d} {x = x} {y = y} h k) given =
      let first = data_shown limit h given in
      let second = general_shown limit k first.left.2 in
      let most : suc d ≤ limit = first.left.1 in
      let tail = codes ":" ++ general_text y in
      by_text (sym (general_text-Pair x y)) (record {
        left = second.left;
        prints = λ e le after ends more.
            let fits : suc e ≤ limit = omega arith in
            let q = second.prints (suc e) (omega arith) after ends more in
            let p = first.prints e le (tail ++ after) refl ((Sign m.Colon, suc e) ∷ q.us) in
            record { us = p.us; rule = g.pair p.rule q.rule; lexed = join (general_text x) tail p.lexed (sign m.Colon refl fits q.lexed) };
      })
  general_shown limit (g.general_list {xs = xs} h) given = by_text (sym (general_text-List xs)) (by_rule (λ e us more rule. g.general_list rule) (list_shown limit h given))

  pub list_shown : (limit : ℕ) {d : ℕ} {xs : List GTerm} {ts rest : Tokens} → IsGeneralList d xs ts rest → Given limit ts → Shows limit (λ e. IsGeneralList e xs) d (list_text (map general_text xs)) rest
  list_shown limit (g.empty_list {d = d}) given = record {
    left = given.2.2;
    prints = λ e le after ends more.
        let most : suc d ≤ limit = given.1 in
        let fits : suc e ≤ limit = omega arith in
        record { us = (Sign m.OpenList, suc e) ∷ (Sign m.CloseList, suc e) ∷ more; rule = g.empty_list; lexed = sign m.OpenList refl fits (sign m.CloseList refl fits done) };
  }
  list_shown limit (g.full_list {d = d} {xs = xs} h) given =
      let inner = generals_shown limit h given.2 in
      let most : suc d ≤ limit = given.1 in
      let parts = separated (codes ",") (map general_text xs) in
      record {
        left = inner.left.2;
        prints = λ e le after ends more.
            let fits : suc e ≤ limit = omega arith in
            let q = inner.prints (suc e) (omega arith) (93 ∷ after) refl ((Sign m.CloseList, suc e) ∷ more) in
            record { us = (Sign m.OpenList, suc e) ∷ q.us; rule = g.full_list q.rule; lexed = sign m.OpenList refl fits (join parts (codes "]") q.lexed (sign m.CloseList refl fits done)) };
      }

  pub generals_shown : (limit : ℕ) {d : ℕ} {xs : List GTerm} {ts rest : Tokens} → AreGeneralTerms d xs ts rest → Given limit ts → Shows limit (λ e. AreGeneralTerms e xs) d (separated (codes ",") (map general_text xs)) rest
  generals_shown limit (g.last_general {x = x} h) given = by_text (separated_one (codes ",") (general_text x)) (by_rule (λ e us more rule. g.last_general rule) (general_shown limit h given))
  generals_shown limit (g.more_general {x = x} {xs = xs} h k) given =
      by_text (ap (λ (z : Text). general_text x ++ z) (later_general k)) (two comma (λ e us ts more first second. g.more_general first second) (general_shown limit h given) (λ rest. generals_shown limit k rest))
