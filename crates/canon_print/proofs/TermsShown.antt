-- The canonical text of terms, atoms and sorts is cut into tokens that spell them.
use Rattle.std.proofs.Common.{◌≡◌, ℕ, suc, ◌≤◌, false, List, ◌∷◌, ◌++◌, codes, refl, sym, ap, arith}
use Rattle.tptp_lexer.specs.declared.token.Token.TheVariants.{Upper, Dollar, Mark as Sign}
use Rattle.tptp_lexer.specs.declared.token.Mark.TheVariants as m
use Rattle.tptp_base.specs.declared.surface.STerm.{STerm}
use Rattle.tptp_base.specs.declared.surface.Surface.{Surface}
use Rattle.tptp_base.specs.declared.surface.Surface.TheVariants as fm
use Rattle.tptp_lexer.specs.Bytes.{Text}
use Rattle.tptp_grammar.specs.Tokens.{Tokens}
use Rattle.tptp_grammar.specs.Terms as g
use Rattle.tptp_grammar.specs.Terms.{IsTerm, IsApplied, AreTerms, IsAtom, IsInequation}
use Rattle.canon_print.specs.Words.{word_text, later, separated}
use Rattle.canon_print.specs.Canonical.{applied_text, term_text, terms_text, Shown, shown, formula_text}
use Rattle.canon_print.specs.code.Canonical.{is_compound}
use Rattle.canon_print.proofs.Equations.{term_text-Var, term_text-App, shown-True, shown-False, shown-Atom, shown-Eq, shown-Neq}
use Rattle.canon_print.proofs.Lexed.{done, join, sign, Given, word_facts, print_word, print_upper, print_dollar}
use Rattle.canon_print.proofs.Shows.{Shows, by_rule, by_text, two, comma, equal, not_equal, separated_one}

applied_some : (f : Text) {d : ℕ} {xs : List STerm} {ts rest : Tokens} → AreTerms d xs ts rest → word_text f ++ (codes "(" ++ (separated (codes ",") (terms_text xs) ++ codes ")")) ≡ applied_text f (terms_text xs)
applied_some f (g.last_term h) = refl
applied_some f (g.more_terms h k) = refl

later_terms : {d : ℕ} {xs : List STerm} {ts rest : Tokens} → AreTerms d xs ts rest → codes "," ++ separated (codes ",") (terms_text xs) ≡ later (codes ",") (terms_text xs)
later_terms (g.last_term h) = refl
later_terms (g.more_terms h k) = refl

mutual
  pub term_shown : (limit : ℕ) {d : ℕ} {x : STerm} {ts rest : Tokens} → IsTerm d x ts rest → Given limit ts → Shows limit (λ e. IsTerm e x) d (term_text x) rest
  term_shown limit (g.variable {d = d} {name = name}) given = by_text (sym (term_text-Var name)) (record {
    left = given.2;
    prints = λ e le after ends more. record { us = (Upper name, e) ∷ more; rule = g.variable; lexed = print_upper limit e name after more given.0 ends (let fits : d ≤ limit = given.1 in omega arith) };
  })
  term_shown limit (g.function {f = f} {xs = xs} h) given = by_text (sym (term_text-App f xs)) (by_rule (λ e us more rule. g.function rule) (applied_shown limit h given))

  pub applied_shown : (limit : ℕ) {d : ℕ} {f : Text} {xs : List STerm} {ts rest : Tokens} → IsApplied d f xs ts rest → Given limit ts → Shows limit (λ e. IsApplied e f xs) d (applied_text f (terms_text xs)) rest
  applied_shown limit (g.constant {d = d} {w = w} {f = f} is) given = record {
    left = given.2;
    prints = λ e le after ends more.
        let p = print_word limit e f after more (word_facts w f is given.0) ends (let fits : d ≤ limit = given.1 in omega arith) in
        record { us = (p.w, e) ∷ more; rule = g.constant p.is_word; lexed = p.lexed };
  }
  applied_shown limit (g.application {d = d} {w = w} {f = f} {xs = xs} is h) given =
      let inner = terms_shown limit h given.2.2 in
      let most : suc d ≤ limit = given.2.1 in
      by_text (applied_some f h) (record {
        left = inner.left.2;
        prints = λ e le after ends more.
            let fits : suc e ≤ limit = omega arith in
            let parts = separated (codes ",") (terms_text xs) in
            let q = inner.prints (suc e) (omega arith) (41 ∷ after) refl ((Sign m.Close, suc e) ∷ more) in
            let p = print_word limit e f ((codes "(" ++ (parts ++ codes ")")) ++ after) ((Sign m.Open, suc e) ∷ q.us) (word_facts w f is given.0) refl (omega arith) in
            record {
              us = (p.w, e) ∷ (Sign m.Open, suc e) ∷ q.us;
              rule = g.application p.is_word q.rule;
              lexed = join (word_text f) (codes "(" ++ (parts ++ codes ")")) p.lexed (sign m.Open refl fits (join parts (codes ")") q.lexed (sign m.Close refl fits done)));
            };
      })

  pub terms_shown : (limit : ℕ) {d : ℕ} {xs : List STerm} {ts rest : Tokens} → AreTerms d xs ts rest → Given limit ts → Shows limit (λ e. AreTerms e xs) d (separated (codes ",") (terms_text xs)) rest
  terms_shown limit (g.last_term {x = x} h) given = by_text (separated_one (codes ",") (term_text x)) (by_rule (λ e us more rule. g.last_term rule) (term_shown limit h given))
  terms_shown limit (g.more_terms {x = x} {xs = xs} h k) given =
      by_text (ap (λ (z : Text). term_text x ++ z) (later_terms k)) (two comma (λ e us ts more first second. g.more_terms first second) (term_shown limit h given) (λ rest. terms_shown limit k rest))

-- ---- atoms: none is compound

-- an atom's text, and that it is no compound
pub record AtomShown (limit : ℕ) (R : ℕ → Tokens → Tokens → Type 0) (f : Surface) (d : ℕ) (rest : Tokens) : Type 0 where
  pub shows : Shows limit R d (formula_text f) rest
  pub simple : is_compound f ≡ false

atom_by : {limit d : ℕ} {R : ℕ → Tokens → Tokens → Type 0} (f : Surface) (text : Text) {rest : Tokens} → shown f ≡ (false, text) → Shows limit R d text rest → AtomShown limit R f d rest
atom_by f text is shows = record { shows = by_text (sym (ap (λ (s : Shown). s.1) is)) shows; simple = ap (λ (s : Shown). s.0) is }

pub atom_shown : (limit : ℕ) {d : ℕ} {f : Surface} {ts rest : Tokens} → IsAtom d f ts rest → Given limit ts → AtomShown limit (λ e. IsAtom e f) f d rest
atom_shown limit (g.truth {d = d} is) given = atom_by fm.True (codes "$true") shown-True (record {
  left = given.2;
  prints = λ e le after ends more. record { us = (Dollar (codes "$true"), e) ∷ more; rule = g.truth refl; lexed = print_dollar limit e 116 (codes "rue") after more refl refl ends (let fits : d ≤ limit = given.1 in omega arith) };
})
atom_shown limit (g.falsehood {d = d} is) given = atom_by fm.False (codes "$false") shown-False (record {
  left = given.2;
  prints = λ e le after ends more. record { us = (Dollar (codes "$false"), e) ∷ more; rule = g.falsehood refl; lexed = print_dollar limit e 102 (codes "alse") after more refl refl ends (let fits : d ≤ limit = given.1 in omega arith) };
})
atom_shown limit (g.predicate {f = f} {xs = xs} h) given = atom_by (fm.Atom f xs) (applied_text f (terms_text xs)) (shown-Atom f xs) (by_rule (λ e us more rule. g.predicate rule) (applied_shown limit h given))
atom_shown limit (g.equation {a = a} {b = b} h k) given =
    atom_by (fm.Eq a b) (term_text a ++ (codes " = " ++ term_text b)) (shown-Eq a b) (two equal (λ e us ts more first second. g.equation first second) (term_shown limit h given) (λ rest. term_shown limit k rest))

pub inequation_shown : (limit : ℕ) {d : ℕ} {f : Surface} {ts rest : Tokens} → IsInequation d f ts rest → Given limit ts → AtomShown limit (λ e. IsInequation e f) f d rest
inequation_shown limit (g.inequation {a = a} {b = b} h k) given =
    atom_by (fm.Neq a b) (term_text a ++ (codes " != " ++ term_text b)) (shown-Neq a b) (two not_equal (λ e us ts more first second. g.inequation first second) (term_shown limit h given) (λ rest. term_shown limit k rest))
