-- The canonical text of annotated formulas and includes is cut into tokens that spell them.
use Rattle.std.proofs.Common.{◌≡◌, ℕ, true, false, List, ◌∷◌, ◌++◌, map, codes, Option, None, Some, refl, sym, subst, ◌∙◌, arith, append_assoc}
use Rattle.std.proofs.lemmas.List.{append-nil}
use Rattle.tptp_lexer.specs.declared.style.Style.{Style}
use Rattle.tptp_lexer.specs.declared.token.Token.TheVariants.{Lower, Quoted, Number, Mark as Sign}
use Rattle.tptp_lexer.specs.declared.token.Mark.TheVariants as m
use Rattle.tptp_base.specs.declared.place.Place.{Place}
use Rattle.tptp_base.specs.declared.name.Name.{Name}
use Rattle.tptp_base.specs.declared.item.Lang.{Lang}
use Rattle.tptp_base.specs.declared.item.Lang.TheVariants as lang
use Rattle.tptp_base.specs.declared.item.Role.{Role}
use Rattle.tptp_base.specs.declared.item.Role.TheVariants as role
use Rattle.tptp_base.specs.declared.item.Body.{Body}
use Rattle.tptp_base.specs.declared.item.GTerm.{GTerm}
use Rattle.tptp_base.specs.declared.item.Item.{Item}
use Rattle.tptp_lexer.specs.Bytes.{Text}
use Rattle.tptp_lexer.specs.Quotes.{single_quote}
use Rattle.tptp_grammar.specs.Tokens.{Tokens, lang_text, role_text}
use Rattle.tptp_grammar.specs.Formulas.{IsFormula}
use Rattle.tptp_grammar.specs.GeneralTerms.{IsGeneralTerm, IsGeneralList}
use Rattle.tptp_grammar.specs.Items as g
use Rattle.tptp_grammar.specs.Items.{IsName, IsBody, IsEnd, IsSelection, IsItem}
use Rattle.canon_print.specs.Words.{is_lower_word, quoted, name_text, separated}
use Rattle.canon_print.specs.Canonical.{body_text, next_line, item_end, info_text, annotations_text, selection_text, item_text, general_text}
use Rattle.canon_print.specs.RoundTrip.{at_place}
use Rattle.canon_print.proofs.Longest.{Ends}
use Rattle.canon_print.proofs.Lexed.{LexedTo, done, blank, chain, join, sign, Given, word_facts, print_word, print_number, print_lower, print_quoted}
use Rattle.canon_print.proofs.Shows.{Printed, Shows, by_text, two, comma, shows_listed}
use Rattle.canon_print.proofs.TypesShown.{typing_shown}
use Rattle.canon_print.proofs.FormulasShown.{formula_shown}
use Rattle.canon_print.proofs.ClausesShown.{clause_shown}
use Rattle.canon_print.proofs.TypedClausesShown.{typed_clause_shown}
use Rattle.canon_print.proofs.GeneralShown.{general_shown, list_shown}

-- ---- names

name_shown : (limit : ℕ) (n : Name) (ts rest : Tokens) → IsName n ts rest → Given limit ts → Shows limit (λ e. IsName n) 0 (name_text n) rest
name_shown limit n ts rest (g.word_name {w = w} {n = text} is) given = record {
  left = given.2;
  prints = λ e le after ends more. let p = print_word limit 0 text after more (word_facts w text is given.0) ends given.1 in record { us = (p.w, 0) ∷ more; rule = g.word_name p.is_word; lexed = p.lexed };
}
name_shown limit n ts rest (g.integer_name {n = text} is) given = record {
  left = given.2;
  prints = λ e le after ends more. record { us = (Number text, 0) ∷ more; rule = g.integer_name is; lexed = print_number limit 0 text after more given.0 ends given.1 };
}

-- ---- what stands at nesting 0

at_zero : {limit : ℕ} {R : ℕ → Tokens → Tokens → Type 0} {S : Tokens → Tokens → Type 0} {text : Text} {rest : Tokens} → Shows limit R 0 text rest → ((us more : Tokens) → R 0 us more → S us more) → Shows limit (λ e. S) 0 text rest
at_zero shows f = record {
  left = shows.left;
  prints = λ e le after ends more. let p = shows.prints 0 (omega arith) after ends more in record { us = p.us; rule = f p.us more p.rule; lexed = p.lexed };
}

body_shown : (limit : ℕ) {l : Lang} {r : Role} {b : Body} {ts rest : Tokens} → IsBody l r b ts rest → Given limit ts → Shows limit (λ e. IsBody l r b) 0 (body_text l b) rest
body_shown limit (g.cnf_body h) given = at_zero (clause_shown limit h given) (λ us more rule. g.cnf_body rule)
body_shown limit (g.fof_body {f = f} h) given = (let shown = formula_shown limit h given in at_zero {R = λ e us more. IsFormula false e f us more} (record { left = shown.left; prints = shown.formula }) (λ us more rule. g.fof_body rule))
body_shown limit (g.tff_body {f = f} not_type h) given = (let shown = formula_shown limit h given in at_zero {R = λ e us more. IsFormula true e f us more} (record { left = shown.left; prints = shown.formula }) (λ us more rule. g.tff_body not_type rule))
body_shown limit (g.tcf_body h) given = at_zero (typed_clause_shown limit h given) (λ us more rule. g.tcf_body rule)
body_shown limit (g.type_body h) given = at_zero (typing_shown limit h given) (λ us more rule. g.type_body rule)

-- ---- ends of items: what follows them is free

pub record Ended (limit : ℕ) (R : Tokens → Tokens → Type 0) (text : Text) (rest : Tokens) : Type 0 where
  pub left : Given limit rest
  pub ends : (after : Text) → Ends (text ++ after)
  pub prints : (after : Text) (more : Tokens) → Printed limit R text after more

end_lexed : (limit : ℕ) (after : Text) (more : Tokens) → LexedTo limit after more (item_end ++ after) ((Sign m.Close, 0) ∷ (Sign m.Dot, 0) ∷ more)
end_lexed limit after more = sign m.Close refl (omega arith) (sign m.Dot refl (omega arith) (blank refl done))

-- the source, and the useful information behind it
abbrev AreAnnotations : GTerm → Option (List GTerm) → Tokens → Tokens → Type 0
AreAnnotations s None us rest = IsGeneralTerm 0 s us rest
AreAnnotations s (Some xs) us rest = (mid : Tokens) × IsGeneralTerm 0 s us ((Sign m.Comma, 0) ∷ mid) × IsGeneralList 0 xs mid rest

annotated_end : (limit : ℕ) (s : GTerm) (i : Option (List GTerm)) {rest : Tokens} → ((us more : Tokens) → AreAnnotations s i us ((Sign m.Close, 0) ∷ (Sign m.Dot, 0) ∷ more) → IsEnd (Some s) i ((Sign m.Comma, 0) ∷ us) more)
    → Shows limit (λ e. AreAnnotations s i) 0 (general_text s ++ info_text i) ((Sign m.Close, 0) ∷ (Sign m.Dot, 0) ∷ rest) → Ended limit (IsEnd (Some s) i) (annotations_text (Some s) i ++ item_end) rest
annotated_end limit s i make shows = record {
  left = shows.left.2.2;
  ends = λ after. refl;
  prints = λ after more.
      let p = shows.prints 0 (omega arith) (item_end ++ after) refl ((Sign m.Close, 0) ∷ (Sign m.Dot, 0) ∷ more) in
      record {
        us = (Sign m.Comma, 0) ∷ p.us;
        rule = make p.us more p.rule;
        lexed = sign m.Comma refl (omega arith) (blank refl (blank refl (blank refl (blank refl (blank refl (join (general_text s ++ info_text i) item_end p.lexed (end_lexed limit after more)))))));
      };
}

end_shown : (limit : ℕ) {s : Option GTerm} {i : Option (List GTerm)} {ts rest : Tokens} → IsEnd s i ts rest → Given limit ts → Ended limit (IsEnd s i) (annotations_text s i ++ item_end) rest
end_shown limit g.no_source given = record {
  left = given.2.2;
  ends = λ after. refl;
  prints = λ after more. record { us = (Sign m.Close, 0) ∷ (Sign m.Dot, 0) ∷ more; rule = g.no_source; lexed = end_lexed limit after more };
}
end_shown limit (g.source {s = s} h) given =
    annotated_end limit s None (λ us more rule. g.source rule) (by_text (sym (append-nil (general_text s))) (at_zero (general_shown limit h given.2) (λ us more rule. rule)))
end_shown limit (g.source_and_info {s = s} {xs = xs} h k) given =
    annotated_end limit s (Some xs) (λ us more rule. g.source_and_info rule.1 rule.2)
    (at_zero {R = λ e us more. (mid : Tokens) × IsGeneralTerm e s us ((Sign m.Comma, e) ∷ mid) × IsGeneralList e xs mid more}
    (two comma (λ e us ts more first second. (ts, first, second)) (general_shown limit h given.2) (λ rest. list_shown limit k rest)) (λ us more rule. rule))

selection_shown : (limit : ℕ) {ns : Option (List Name)} {ts rest : Tokens} → IsSelection ns ts rest → Given limit ts → Ended limit (IsSelection ns) (selection_text ns ++ item_end) rest
selection_shown limit g.whole_file given = record {
  left = given.2.2;
  ends = λ after. refl;
  prints = λ after more. record { us = (Sign m.Close, 0) ∷ (Sign m.Dot, 0) ∷ more; rule = g.whole_file; lexed = end_lexed limit after more };
}
selection_shown limit (g.selected {ns = ns} h) given =
    let names = shows_listed (λ e n. IsName n) name_text comma (λ n ts more rule also. name_shown limit n ts more rule also) h given.2.2 in
    let parts = separated (codes ",") (map name_text ns) in
    record {
      left = names.left.2.2.2;
      ends = λ after. refl;
      prints = λ after more.
          let p = names.prints 0 (omega arith) ((codes "]" ++ item_end) ++ after) refl ((Sign m.CloseList, 0) ∷ (Sign m.Close, 0) ∷ (Sign m.Dot, 0) ∷ more) in
          let flat : ((parts ++ codes "]") ++ item_end) ++ after ≡ parts ++ ((codes "]" ++ item_end) ++ after) = append_assoc (parts ++ codes "]") item_end after ∙ append_assoc parts (codes "]") (item_end ++ after) in
          record {
            us = (Sign m.Comma, 0) ∷ (Sign m.OpenList, 0) ∷ p.us;
            rule = g.selected p.rule;
            lexed = sign m.Comma refl (omega arith) (sign m.OpenList refl (omega arith)
                (subst (λ (z : Text). LexedTo limit after more z p.us) (sym flat) (chain p.lexed (sign m.CloseList refl (omega arith) (end_lexed limit after more)))));
          };
    }

-- ---- items

-- an item's text: a word, a parenthesis and the rest
pub record ItemPrinted (style : Style) (limit : ℕ) (i : Item) (after : Text) (rest : Tokens) : Type 0 where
  pub name : Text
  pub is_lower : is_lower_word name ≡ true
  pub inner : Text
  pub us : Tokens
  pub is_text : item_text i ++ after ≡ name ++ 40 ∷ inner
  pub lexed : LexedTo limit after rest inner us
  pub rule : (place : Place) → IsItem style place (at_place place i) ((Lower name, 0) ∷ (Sign m.Open, 0) ∷ us) rest

pub record ItemShown (style : Style) (limit : ℕ) (i : Item) (rest : Tokens) : Type 0 where
  pub left : Given limit rest
  pub prints : (after : Text) (more : Tokens) → ItemPrinted style limit i after more

lang_lower : (l : Lang) → is_lower_word (lang_text l) ≡ true
lang_lower = elim [ lang.Cnf ↦ refl | lang.Fof ↦ refl | lang.Tff ↦ refl | lang.Tcf ↦ refl ]

role_lower : (r : Role) → is_lower_word (role_text r) ≡ true
role_lower = elim [
  | role.Axiom ↦ refl
  | role.Hypothesis ↦ refl
  | role.Definition ↦ refl
  | role.Assumption ↦ refl
  | role.Lemma ↦ refl
  | role.Theorem ↦ refl
  | role.Corollary ↦ refl
  | role.Conjecture ↦ refl
  | role.NegatedConjecture ↦ refl
  | role.Plain ↦ refl
  | role.Typing ↦ refl
  | role.FiDomain ↦ refl
  | role.FiFunctors ↦ refl
  | role.FiPredicates ↦ refl
  | role.Unknown ↦ refl
]

-- a formula's text as its first word and what follows it
annotated_flat : (l n r b e after : Text) → ((l ++ (codes "(" ++ (n ++ (codes "," ++ (r ++ next_line))))) ++ (b ++ e)) ++ after ≡ l ++ 40 ∷ (n ++ 44 ∷ (r ++ (next_line ++ (b ++ (e ++ after)))))
annotated_flat l n r b e after = simp append_assoc

pub item_shown : (style : Style) (limit : ℕ) {place : Place} {i : Item} {ts rest : Tokens} → IsItem style place i ts rest → Given limit ts → ItemShown style limit i rest
item_shown style limit (g.annotated {l = l} {r = r} {n = n} {b = b} {s = s} {i = i} is has h also k end_rule) given =
    let name = name_shown limit n _ _ h given.2.2 in
    let formula = body_shown limit k name.left.2.2.2 in
    let last = end_shown limit end_rule formula.left in
    record {
      left = last.left;
      prints = λ after more.
          let tail = annotations_text s i ++ item_end in
          let e = last.prints after more in
          let f = formula.prints 0 (omega arith) (tail ++ after) (last.ends after) e.us in
          let body_end = next_line ++ (body_text l b ++ (tail ++ after)) in
          let c : LexedTo limit after more body_end ((Sign m.Comma, 0) ∷ f.us) = sign m.Comma refl (omega arith) (blank refl (blank refl (blank refl (blank refl (blank refl (chain f.lexed e.lexed)))))) in
          let v = print_lower limit 0 (role_text r) body_end ((Sign m.Comma, 0) ∷ f.us) (role_lower r) refl (omega arith) in
          let q = name.prints 0 (omega arith) (44 ∷ (role_text r ++ body_end)) refl ((Sign m.Comma, 0) ∷ (Lower (role_text r), 0) ∷ (Sign m.Comma, 0) ∷ f.us) in
          record {
            name = lang_text l;
            is_lower = lang_lower l;
            inner = name_text n ++ 44 ∷ (role_text r ++ body_end);
            us = q.us;
            is_text = annotated_flat (lang_text l) (name_text n) (role_text r) (body_text l b) tail after;
            lexed = chain q.lexed (sign m.Comma refl (omega arith) (chain v c));
            rule = λ place. g.annotated refl has q.rule refl f.rule e.rule;
          };
    }
item_shown style limit (g.include {f = f} {ns = ns} is h) given =
    let last = selection_shown limit h given.2.2.2 in
    record {
      left = last.left;
      prints = λ after more.
          let tail = selection_text ns ++ item_end in
          let e = last.prints after more in
          record {
            name = codes "include";
            is_lower = refl;
            inner = (quoted single_quote f ++ tail) ++ after;
            us = (Quoted f, 0) ∷ e.us;
            is_text = refl;
            lexed = join (quoted single_quote f) tail (print_quoted limit 0 f (tail ++ after) e.us given.2.2.0 (omega arith)) e.lexed;
            rule = λ place. g.include refl e.rule;
          };
    }
