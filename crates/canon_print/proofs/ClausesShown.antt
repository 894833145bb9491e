-- The canonical text of clauses is cut into tokens that spell them.
use Rattle.std.proofs.Common.{◌≡◌, ℕ, suc, ◌≤◌, false, List, ◌∷◌, ◌++◌, map, codes, refl, sym, subst, ap, arith}
use Rattle.first_fault.specs.Rules.{Listed, last, more}
use Rattle.tptp_lexer.specs.declared.token.Token.TheVariants.{Mark as Sign}
use Rattle.tptp_lexer.specs.declared.token.Mark.TheVariants as m
use Rattle.tptp_base.specs.declared.surface.Surface.{Surface}
use Rattle.tptp_base.specs.declared.surface.Surface.TheVariants as fm
use Rattle.tptp_lexer.specs.Bytes.{Text}
use Rattle.tptp_grammar.specs.Tokens.{Tokens}
use Rattle.tptp_grammar.specs.Clauses as g
use Rattle.tptp_grammar.specs.Clauses.{IsLiteral, IsClause}
use Rattle.tptp_grammar.specs.Terms.{IsAtom}
use Rattle.canon_print.specs.Words.{later, separated}
use Rattle.canon_print.specs.Canonical.{Shown, formula_text}
use Rattle.canon_print.specs.code.Canonical.{is_compound, unit_text}
use Rattle.canon_print.proofs.Equations.{shown-Not, shown-Or}
use Rattle.canon_print.proofs.Lexed.{blank, sign, Given}
use Rattle.canon_print.proofs.Shows.{Printed, Prints, Shows, by_rule, by_text, two, bar, shows_listed}
use Rattle.canon_print.proofs.TermsShown.{AtomShown, atom_shown, inequation_shown}
use Rattle.canon_print.proofs.FormulasShown.{bare_text}

-- `~` and an atom
negated : {limit d : ℕ} {f : Surface} {rest : Tokens} → suc d ≤ limit → is_compound f ≡ false → Prints limit (λ e. IsAtom e f) (suc d) (formula_text f) → Given limit rest → AtomShown limit (λ e. IsLiteral e (fm.Not f)) (fm.Not f) d rest
negated {limit = limit} {f = f} most simple prints left = record {
  shows = by_text (sym (ap (λ (s : Shown). s.1) (shown-Not f))) (record {
    left = left;
    prints = λ e le after ends more.
        let p = subst (λ (z : Text). Printed limit (λ us rest. IsAtom (suc e) f us rest) z after more) (bare_text f simple) (prints (suc e) (omega arith) after ends more) in
        record { us = (Sign m.Tilde, suc e) ∷ p.us; rule = g.negative p.rule; lexed = sign m.Tilde refl (omega arith) (blank refl p.lexed) };
  });
  simple = ap (λ (s : Shown). s.0) (shown-Not f);
}

pub literal_shown : (limit : ℕ) {d : ℕ} {f : Surface} {ts rest : Tokens} → IsLiteral d f ts rest → Given limit ts → AtomShown limit (λ e. IsLiteral e f) f d rest
literal_shown limit (g.positive h) given = (let a = atom_shown limit h given in record { shows = by_rule (λ e us more rule. g.positive rule) a.shows; simple = a.simple })
literal_shown limit (g.unequal h) given = (let a = inequation_shown limit h given in record { shows = by_rule (λ e us more rule. g.unequal rule) a.shows; simple = a.simple })
literal_shown limit (g.negative h) given = (let a = atom_shown limit h given.2 in negated given.1 a.simple a.shows.prints a.shows.left)
literal_shown limit (g.negative_in_parentheses h) given =
    let a = atom_shown limit h given.2.2 in
    negated given.1 a.simple (λ e le after ends more. a.shows.prints e (omega arith) after ends more) a.shows.left.2

as_unit_shown : (limit : ℕ) {d : ℕ} (f : Surface) (ts rest : Tokens) → IsLiteral d f ts rest → Given limit ts → Shows limit (λ e. IsLiteral e f) d (unit_text f) rest
as_unit_shown limit f ts rest h given = (let a = literal_shown limit h given in by_text (bare_text f a.simple) a.shows)

later_literals : {d : ℕ} {fs : List Surface} {ts rest : Tokens} → Listed (Sign m.Bar) d (IsLiteral d) fs ts rest → codes " | " ++ separated (codes " | ") (map unit_text fs) ≡ later (codes " | ") (map unit_text fs)
later_literals (last h) = refl
later_literals (more h k) = refl

pub clause_shown : (limit : ℕ) {d : ℕ} {f : Surface} {ts rest : Tokens} → IsClause d f ts rest → Given limit ts → Shows limit (λ e. IsClause e f) d (formula_text f) rest
clause_shown limit (g.literal h) given = by_rule (λ e us more rule. g.literal rule) (literal_shown limit h given).shows
clause_shown limit (g.literals {d = d} {f = f} {fs = fs} {ts = ts} {mid = mid} h k) given =
    by_text (sym (ap (λ (s : Shown). s.1) (shown-Or (f ∷ fs))))
    (by_text (ap (λ (z : Text). unit_text f ++ z) (later_literals k))
    (two bar (λ e us ts more first second. g.literals first second) (as_unit_shown limit f ts ((Sign m.Bar, d) ∷ mid) h given) (λ rest. shows_listed IsLiteral unit_text bar (λ x ts more rule also. as_unit_shown limit x ts more rule also) k rest)))
clause_shown limit (g.clause_in_parentheses h) given =
    (let inner = clause_shown limit h given.2 in record { left = inner.left.2; prints = λ e le after ends more. inner.prints e (omega arith) after ends more })
