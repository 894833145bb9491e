-- What is printed of a part that some tokens spell: at any nesting that is no deeper, whatever follows.
use Rattle.std.proofs.Common.{◌≡◌, ℕ, ◌≤◌, List, [], ◌∷◌, ◌++◌, map, codes, refl, sym, subst, ap, arith, append_assoc}
use Rattle.std.proofs.lemmas.List.{append-nil}
use Rattle.first_fault.specs.Rules.{Listed, last, more}
use Rattle.tptp_lexer.specs.declared.token.Token.TheVariants.{Mark as Sign}
use Rattle.tptp_lexer.specs.declared.token.Mark.{Mark}
use Rattle.tptp_lexer.specs.declared.token.Mark.TheVariants as m
use Rattle.tptp_lexer.specs.Bytes.{Text}
use Rattle.tptp_grammar.specs.Tokens.{Tokens}
use Rattle.canon_print.specs.Words.{later, separated}
use Rattle.canon_print.proofs.Longest.{Ends}
use Rattle.canon_print.proofs.Lexed.{LexedTo, done, blank, join, sign, Given}

-- the text, before what follows it, is cut into tokens that the rule accepts
pub record Printed (limit : ℕ) (R : Tokens → Tokens → Type 0) (text after : Text) (rest : Tokens) : Type 0 where
  pub us : Tokens
  pub rule : R us rest
  pub lexed : LexedTo limit after rest (text ++ after) us

abbrev pub Prints : ℕ → (ℕ → Tokens → Tokens → Type 0) → ℕ → Text → Type 0
Prints limit R d text = (e : ℕ) → e ≤ d → (after : Text) → Ends after → (rest : Tokens) → Printed limit (R e) text after rest

pub record Shows (limit : ℕ) (R : ℕ → Tokens → Tokens → Type 0) (d : ℕ) (text : Text) (rest : Tokens) : Type 0 where
  pub left : Given limit rest
  pub prints : Prints limit R d text

-- another rule that accepts as much
pub by_rule : {limit d : ℕ} {R S : ℕ → Tokens → Tokens → Type 0} {text : Text} {rest : Tokens} → ((e : ℕ) (us more : Tokens) → R e us more → S e us more) → Shows limit R d text rest → Shows limit S d text rest
by_rule f shows = record {
  left = shows.left;
  prints = λ e le after ends more. let p = shows.prints e le after ends more in record { us = p.us; rule = f e p.us more p.rule; lexed = p.lexed };
}

-- another spelling of the text
pub by_text : {limit d : ℕ} {R : ℕ → Tokens → Tokens → Type 0} {text other : Text} {rest : Tokens} → text ≡ other → Shows limit R d text rest → Shows limit R d other rest
by_text {limit = limit} {d = d} {R = R} {rest = rest} same shows = subst (λ (z : Text). Shows limit R d z rest) same shows

pub prints_by : {limit d : ℕ} {R : ℕ → Tokens → Tokens → Type 0} {text other : Text} → text ≡ other → Prints limit R d text → Prints limit R d other
prints_by {limit = limit} {d = d} {R = R} same prints = subst (λ (z : Text). Prints limit R d z) same prints

-- a mark with what is printed around it
pub record Separator (mark : Mark) (text : Text) : Type 0 where
  pub ends : (after : Text) → Ends (text ++ after)
  pub lexed : (limit e : ℕ) (after : Text) (us : Tokens) → e ≤ limit → LexedTo limit after us (text ++ after) ((Sign mark, e) ∷ us)

pub comma : Separator m.Comma (codes ",")
comma = record { ends = λ after. refl; lexed = λ limit e after us fits. sign m.Comma refl fits done }

pub bar : Separator m.Bar (codes " | ")
bar = record { ends = λ after. refl; lexed = λ limit e after us fits. blank refl (sign m.Bar refl fits (blank refl done)) }

pub ampersand : Separator m.Ampersand (codes " & ")
ampersand = record { ends = λ after. refl; lexed = λ limit e after us fits. blank refl (sign m.Ampersand refl fits (blank refl done)) }

pub star : Separator m.Star (codes " * ")
star = record { ends = λ after. refl; lexed = λ limit e after us fits. blank refl (sign m.Star refl fits (blank refl done)) }

pub greater : Separator m.Greater (codes " > ")
greater = record { ends = λ after. refl; lexed = λ limit e after us fits. blank refl (sign m.Greater refl fits (blank refl done)) }

pub equal : Separator m.Equal (codes " = ")
equal = record { ends = λ after. refl; lexed = λ limit e after us fits. blank refl (sign m.Equal refl fits (blank refl done)) }

pub not_equal : Separator m.NotEqual (codes " != ")
not_equal = record { ends = λ after. refl; lexed = λ limit e after us fits. blank refl (sign m.NotEqual refl fits (blank refl done)) }

pub colon : Separator m.Colon (codes ": ")
colon = record { ends = λ after. refl; lexed = λ limit e after us fits. sign m.Colon refl fits (blank refl done) }

-- two parts with a mark between them
pub two : {limit d : ℕ} {R Q S : ℕ → Tokens → Tokens → Type 0} {mark : Mark} {text a b : Text} {mid rest : Tokens} → Separator mark text
    → ((e : ℕ) (us ts more : Tokens) → R e us ((Sign mark, e) ∷ ts) → Q e ts more → S e us more)
    → Shows limit R d a ((Sign mark, d) ∷ mid) → (Given limit mid → Shows limit Q d b rest) → Shows limit S d (a ++ (text ++ b)) rest
two {limit = limit} {d = d} {mark = mark} {text = text} {a = a} {b = b} separator make first next =
    let second = next first.left.2 in
    let fits : d ≤ limit = first.left.1 in
    record {
      left = second.left;
      prints = λ e le after ends more.
          let q = second.prints e le after ends more in
          let p = first.prints e le ((text ++ b) ++ after) (subst Ends (sym (append_assoc text b after)) (separator.ends (b ++ after))) ((Sign mark, e) ∷ q.us) in
          record { us = p.us; rule = make e p.us q.us more p.rule q.rule; lexed = join a (text ++ b) p.lexed (join text b (separator.lexed limit e (b ++ after) q.us (omega arith)) q.lexed) };
    }

-- ---- lists

pub later_some : (separator part : Text) (parts : List Text) → later separator (part ∷ parts) ≡ separator ++ separated separator (part ∷ parts)
later_some separator part parts = refl

pub separated_one : (separator part : Text) → part ≡ separated separator (part ∷ [])
separated_one separator part = sym (append-nil part)

later_listed : {A : Type 0} {mark : Mark} {d : ℕ} {R : A → Tokens → Tokens → Type 0} {xs : List A} {ts rest : Tokens} (separator : Text) (text : A → Text) → Listed (Sign mark) d R xs ts rest → separator ++ separated separator (map text xs) ≡ later separator (map text xs)
later_listed separator text (last h) = refl
later_listed separator text (more h k) = refl

pub shows_listed : {A : Type 0} {limit d : ℕ} {mark : Mark} {separator : Text} (R : ℕ → A → Tokens → Tokens → Type 0) (text : A → Text) → Separator mark separator
    → ((x : A) (ts rest : Tokens) → R d x ts rest → Given limit ts → Shows limit (λ e. R e x) d (text x) rest)
    → {xs : List A} {ts rest : Tokens} → Listed (Sign mark) d (R d) xs ts rest → Given limit ts → Shows limit (λ e. Listed (Sign mark) e (R e) xs) d (separated separator (map text xs)) rest
shows_listed {separator = separator} R text mark_text each (last {x = x} {ts = ts} {rest = rest} h) given =
    by_text (separated_one separator (text x)) (by_rule (λ e us after rule. last rule) (each x ts rest h given))
shows_listed {d = d} {mark = mark} {separator = separator} R text mark_text each (more {x = x} {xs = xs} {ts = ts} {mid = mid} {rest = rest} h k) given =
    by_text (ap (λ (z : Text). text x ++ z) (later_listed separator text k))
    (two mark_text (λ e us vs after first second. more first second) (each x ts ((Sign mark, d) ∷ mid) h given) (shows_listed R text mark_text each k))
