-- The readers of bodies and annotations are exact and find all that is derived.
use Rattle.std.proofs.Common.{◌≡◌, Bool, true, false, ℕ, ◌+◌, List, [], ◌∷◌, Option, Some, refl, sym, ◌∙◌, ap, subst, arith}
use Rattle.first_fault.specs.Nesting.{plain}
use Rattle.first_fault.specs.code.Reading.{and_then, next, expect, opened}
use Rattle.first_fault.proofs.Exact.{Exact, Inhabited, exact_stop}
use Rattle.first_fault.proofs.Found.{Found}
use Rattle.first_fault.proofs.Good.{Good, GoodAt, After, after, Only, only, Both, both, widen, good_as, good_both, good_choice, good_map, good_expect, behind_token, unmapped, always}
use Rattle.tptp_lexer.specs.declared.token.Token.{Token}
use Rattle.tptp_lexer.specs.declared.token.Token.TheVariants.{Mark as Sign}
use Rattle.tptp_lexer.specs.declared.token.Mark.TheVariants as m
use Rattle.tptp_base.specs.declared.surface.Surface.{Surface}
use Rattle.tptp_base.specs.declared.item.Lang.{Lang}
use Rattle.tptp_base.specs.declared.item.Lang.TheVariants as lang
use Rattle.tptp_base.specs.declared.item.Role.{Role}
use Rattle.tptp_base.specs.declared.item.Role.TheVariants as rl
use Rattle.tptp_base.specs.declared.item.Typing.{Typing}
use Rattle.tptp_base.specs.declared.item.Body.{Body}
use Rattle.tptp_base.specs.declared.item.Body.TheVariants as bd
use Rattle.tptp_base.specs.declared.item.GTerm.{GTerm}
use Rattle.tptp_grammar.specs.Tokens.{Tokens}
use Rattle.tptp_grammar.specs.Formulas.{IsFormula}
use Rattle.tptp_grammar.specs.Clauses.{IsClause}
use Rattle.tptp_grammar.specs.TypedClauses.{IsTypedClause}
use Rattle.tptp_grammar.specs.Types.{IsTyping}
use Rattle.tptp_grammar.specs.GeneralTerms as t
use Rattle.tptp_grammar.specs.GeneralTerms.{IsGeneralTerm, IsGeneralList}
use Rattle.tptp_grammar.specs.Items as g
use Rattle.tptp_grammar.specs.Items.{IsBody, IsEnd}
use Rattle.tptp_grammar.specs.code.ReadTerms.{is_mark}
use Rattle.tptp_grammar.specs.code.ReadTypes.{typing}
use Rattle.tptp_grammar.specs.code.ReadFormulas.{formula}
use Rattle.tptp_grammar.specs.code.ReadClauses.{clause}
use Rattle.tptp_grammar.specs.code.ReadTypedClauses.{typed_clause}
use Rattle.tptp_grammar.specs.code.ReadGeneral.{general, nesting}
use Rattle.tptp_grammar.specs.code.ReadItems.{body_of, body, ended, Annotations, info_at, info, no_info, with_info, sourced_at, sourced, no_annotations, annotations_at, annotations}
use Rattle.tptp_base.specs.Roles.{is_typing}
use Rattle.tptp_grammar.proofs.Marks.{is_kind, ends_literals, ends_formula, good_behind}
use Rattle.tptp_grammar.proofs.ExactTypings.{ends_shape, good_typing}
use Rattle.tptp_grammar.proofs.ExactFormulas.{good_formula}
use Rattle.tptp_grammar.proofs.ExactClauses.{good_clause}
use Rattle.tptp_grammar.proofs.ExactTypedClauses.{good_typed_clause}
use Rattle.tptp_grammar.proofs.ExactGeneral.{ends_general, OpenGeneralList, of_open_list, to_open_list, good_nesting, good_general}

-- ---- bodies

-- what follows a body
abbrev pub ends_body : Option Token → Bool
ends_body (Some (Sign m.Close)) = true
ends_body (Some (Sign m.Comma)) = true
ends_body _ = false

body_ends_clause : (h : Option Token) → ends_body h ≡ true → ends_literals h ≡ true
body_ends_clause (Some (Sign m.Close)) e = refl
body_ends_clause (Some (Sign m.Comma)) e = refl
body_ends_clause h e = cc

body_ends_formula : (h : Option Token) → ends_body h ≡ true → ends_formula h ≡ true
body_ends_formula (Some (Sign m.Close)) e = refl
body_ends_formula (Some (Sign m.Comma)) e = refl
body_ends_formula h e = cc

body_ends_typing : (h : Option Token) → ends_body h ≡ true → ends_shape h ≡ true
body_ends_typing (Some (Sign m.Close)) e = refl
body_ends_typing (Some (Sign m.Comma)) e = refl
body_ends_typing h e = cc

is_typing_role : (r : Role) → is_typing r ≡ true → r ≡ rl.Typing
is_typing_role rl.Typing e = refl
is_typing_role r e = cc

no_typing_role : (r : Role) → is_typing r ≡ false → r ≡ rl.Typing → ⊥
no_typing_role r e k = let same : true ≡ false = sym (ap is_typing k) ∙ e in cc

split_cnf : (r : Role) (b : Body) (ts rest : Tokens) → IsBody lang.Cnf r b ts rest → (f : Surface) × IsClause 0 f ts rest × (bd.Logic f ≡ b)
split_cnf r b ts rest (g.cnf_body {f = f} h) = (f, h, refl)

split_fof : (r : Role) (b : Body) (ts rest : Tokens) → IsBody lang.Fof r b ts rest → (f : Surface) × IsFormula false 0 f ts rest × (bd.Logic f ≡ b)
split_fof r b ts rest (g.fof_body {f = f} h) = (f, h, refl)

split_tff : (r : Role) → is_typing r ≡ false → (b : Body) (ts rest : Tokens) → IsBody lang.Tff r b ts rest → (f : Surface) × IsFormula true 0 f ts rest × (bd.Logic f ≡ b)
split_tff r e b ts rest (g.tff_body {f = f} k h) = (f, h, refl)
split_tff r e b ts rest (g.type_body h) = cc

split_tcf : (r : Role) (b : Body) (ts rest : Tokens) → IsBody lang.Tcf r b ts rest → (f : Surface) × IsTypedClause 0 f ts rest × (bd.Logic f ≡ b)
split_tcf r b ts rest (g.tcf_body {f = f} h) = (f, h, refl)

split_type : (r : Role) → is_typing r ≡ true → (b : Body) (ts rest : Tokens) → IsBody lang.Tff r b ts rest → (t : Typing) × IsTyping 0 t ts rest × (bd.Typing t ≡ b)
split_type r e b ts rest (g.tff_body k h) = absurd (k (is_typing_role r e))
split_type r e b ts rest (g.type_body {t = t} h) = (t, h, refl)

good_body_by : (l : Lang) (r : Role) (b : Bool) → is_typing r ≡ b → (room limit : ℕ) → limit ≡ 0 + room → Good limit (body_of l b room) (IsBody l r) ends_body
good_body_by lang.Cnf r b e room limit k =
    good_as limit (body_of lang.Cnf b room) (IsBody lang.Cnf r) (IsBody lang.Cnf r) ends_literals ends_body
    (good_map limit (clause room) (body_of lang.Cnf b room) (IsClause 0) (IsBody lang.Cnf r) ends_literals bd.Logic (λ ts. refl) (good_clause room 0 limit k) (λ x ts rest h. g.cnf_body h) (split_cnf r))
    (λ x ts rest h. h) (λ x ts rest h. h) body_ends_clause
good_body_by lang.Fof r b e room limit k =
    good_as limit (body_of lang.Fof b room) (IsBody lang.Fof r) (IsBody lang.Fof r) ends_formula ends_body
    (good_map limit (formula false room) (body_of lang.Fof b room) (IsFormula false 0) (IsBody lang.Fof r) ends_formula bd.Logic (λ ts. refl) (good_formula false room 0 limit k) (λ x ts rest h. g.fof_body h) (split_fof r))
    (λ x ts rest h. h) (λ x ts rest h. h) body_ends_formula
good_body_by lang.Tcf r b e room limit k =
    good_as limit (body_of lang.Tcf b room) (IsBody lang.Tcf r) (IsBody lang.Tcf r) ends_literals ends_body
    (good_map limit (typed_clause room) (body_of lang.Tcf b room) (IsTypedClause 0) (IsBody lang.Tcf r) ends_literals bd.Logic (λ ts. refl) (good_typed_clause room 0 limit k) (λ x ts rest h. g.tcf_body h) (split_tcf r))
    (λ x ts rest h. h) (λ x ts rest h. h) body_ends_clause
good_body_by lang.Tff r false e room limit k =
    good_as limit (body_of lang.Tff false room) (IsBody lang.Tff r) (IsBody lang.Tff r) ends_formula ends_body
    (good_map limit (formula true room) (body_of lang.Tff false room) (IsFormula true 0) (IsBody lang.Tff r) ends_formula bd.Logic (λ ts. refl) (good_formula true room 0 limit k) (λ x ts rest h. g.tff_body (no_typing_role r e) h) (split_tff r e))
    (λ x ts rest h. h) (λ x ts rest h. h) body_ends_formula
good_body_by lang.Tff r true e room limit k =
    good_as limit (body_of lang.Tff true room) (IsBody lang.Tff r) (IsBody lang.Tff r) ends_shape ends_body
    (good_map limit (typing room) (body_of lang.Tff true room) (IsTyping 0) (IsBody lang.Tff r) ends_shape bd.Typing (λ ts. refl) (good_typing room 0 limit k)
    (λ x ts rest h. subst (λ q. IsBody lang.Tff q (bd.Typing x) ts rest) (sym (is_typing_role r e)) (g.type_body h)) (split_type r e))
    (λ x ts rest h. h) (λ x ts rest h. h) body_ends_typing

pub good_body : (l : Lang) (r : Role) (room limit : ℕ) → limit ≡ 0 + room → Good limit (body l r room) (IsBody l r) ends_body
unfolding body
good_body l r room limit e = good_body_by l r (is_typing r) refl room limit e

-- ---- the end of an item

pub data Ended {A : Type 0} (x : A) : A → Tokens → Tokens → Type 0 where
  ended_so : {rest : Tokens} → Ended x x ((Sign m.Close, 0) ∷ (Sign m.Dot, 0) ∷ rest) rest

abbrev CloseDot : Unit {0} → Tokens → Tokens → Type 0
CloseDot = After (Sign m.Close) 0 (λ (u : Unit {0}). u) (Only (Sign m.Dot) 0 (tt {0}))

ended_join : {A : Type 0} (x : A) (u : Unit {0}) (ts rest : Tokens) → CloseDot u ts rest → Ended x x ts rest
ended_join x u ts rest (after only) = ended_so

ended_split : {A : Type 0} (x v : A) (ts rest : Tokens) → Ended x v ts rest → (u : Unit {0}) × CloseDot u ts rest × (x ≡ v)
ended_split x v ts rest ended_so = (tt, after only, refl)

pub good_ended : {A : Type 0} (limit : ℕ) (x : A) → Good limit (ended x) (Ended x) always
unfolding ended
good_ended limit x =
    good_map limit (opened (is_mark m.Close) (expect (is_mark m.Dot))) (ended x) CloseDot (Ended x) always (λ u. x) (λ ts. refl)
    (good_behind m.Close limit 0 (omega arith) (expect (is_mark m.Dot)) (Only (Sign m.Dot) 0 (tt {0})) always (good_expect (is_mark m.Dot) (Sign m.Dot) (is_kind m.Dot) limit 0 (omega arith) always)) (ended_join x) (ended_split x)

-- ---- annotations

abbrev pub Info : GTerm → Annotations → Tokens → Tokens → Type 0
Info s = Both (IsGeneralList 0) (λ xs. Ended (with_info s xs))

pub data Sourced (s : GTerm) : Annotations → Tokens → Tokens → Type 0 where
  without_info : {v : Annotations} {ts rest : Tokens} → Ended (no_info s) v ts rest → Sourced s v ts rest
  and_info : {v : Annotations} {ts rest : Tokens} → After (Sign m.Comma) 0 (λ x. x) (Info s) v ts rest → Sourced s v ts rest

pub data IsAnnotations : Annotations → Tokens → Tokens → Type 0 where
  without_source : {v : Annotations} {ts rest : Tokens} → Ended no_annotations v ts rest → IsAnnotations v ts rest
  and_source : {v : Annotations} {ts rest : Tokens} → After (Sign m.Comma) 0 (λ x. x) (Both (IsGeneralTerm 0) Sourced) v ts rest → IsAnnotations v ts rest

of_ended : {s : GTerm} {xs : List GTerm} {v : Annotations} {ts us mid rest : Tokens} → IsGeneralTerm 0 s ts ((Sign m.Comma, 0) ∷ us) → IsGeneralList 0 xs us mid → Ended (with_info s xs) v mid rest → IsEnd v.0 v.1 ((Sign m.Comma, 0) ∷ ts) rest
of_ended h k ended_so = g.source_and_info h k

of_info : {s : GTerm} {v : Annotations} {ts us rest : Tokens} → IsGeneralTerm 0 s ts ((Sign m.Comma, 0) ∷ us) → Info s v us rest → IsEnd v.0 v.1 ((Sign m.Comma, 0) ∷ ts) rest
of_info h (both k e) = of_ended h k e

of_sourced : {s : GTerm} {v : Annotations} {ts mid rest : Tokens} → IsGeneralTerm 0 s ts mid → Sourced s v mid rest → IsEnd v.0 v.1 ((Sign m.Comma, 0) ∷ ts) rest
of_sourced h (without_info ended_so) = g.source h
of_sourced h (and_info (after k)) = of_info h k

of_source : {v : Annotations} {ts rest : Tokens} → Both (IsGeneralTerm 0) Sourced v ts rest → IsEnd v.0 v.1 ((Sign m.Comma, 0) ∷ ts) rest
of_source (both h k) = of_sourced h k

pub of_annotations : {v : Annotations} {ts rest : Tokens} → IsAnnotations v ts rest → IsEnd v.0 v.1 ts rest
of_annotations (without_source ended_so) = g.no_source
of_annotations (and_source (after h)) = of_source h

pub to_annotations : {s : Option GTerm} {i : Option (List GTerm)} {ts rest : Tokens} → IsEnd s i ts rest → IsAnnotations (s, i) ts rest
to_annotations g.no_source = without_source ended_so
to_annotations (g.source h) = and_source (after (both h (without_info ended_so)))
to_annotations (g.source_and_info h k) = and_source (after (both h (and_info (after (both k ended_so)))))

unfoldable pub some_ended : {A : Type 0} (x : A) → Inhabited (Ended x)
some_ended x = record { value = x; text = λ rest. (Sign m.Close, 0) ∷ (Sign m.Dot, 0) ∷ rest; spells = λ rest. ended_so }

sourced_link : (s : GTerm) (v : Annotations) (mid rest : Tokens) → Sourced s v mid rest → ends_general (next (plain mid)) ≡ true
sourced_link s v mid rest (without_info ended_so) = refl
sourced_link s v mid rest (and_info (after h)) = refl

module _ (room limit : ℕ) (e : limit ≡ 0 + room) where
  some_list : Inhabited (IsGeneralList 0)
  some_list = record { value = []; text = λ rest. (Sign m.OpenList, 1) ∷ (Sign m.CloseList, 1) ∷ rest; spells = λ rest. t.empty_list }

  exact_info : (ts : List Token) → Exact (info_at room (next ts)) (IsGeneralList 0) limit ts (info_at room (next ts) ts)
  exact_info (Sign m.OpenList ∷ ts) = widen (nesting room).list (OpenGeneralList 0) (IsGeneralList 0) limit (of_open_list 0) (Sign m.OpenList ∷ ts) ((nesting room).list (Sign m.OpenList ∷ ts)) ((good_nesting room 0 limit e).list.exact ts)
  exact_info ts = exact_stop (info_at room (next ts)) (IsGeneralList 0) limit ts some_list (λ other k. refl)

  found_open : (xs : List GTerm) (ts rest : Tokens) → OpenGeneralList 0 xs ts rest → Found limit (info_at room (next (plain ts))) xs ts rest
  found_open xs ts rest (after h) = (good_nesting room 0 limit e).list.found xs ts rest (after h) refl

  good_info : Good limit (info room) (IsGeneralList 0) always
  unfolding info
  good_info = good_choice limit (info room) (info_at room) (IsGeneralList 0) always (λ us. refl) exact_info (λ xs ts rest h k. found_open xs ts rest (to_open_list 0 xs ts rest h)) some_list

  module _ (s : GTerm) where
    info_comma : GoodAt limit (Sign m.Comma) (sourced_at room s (Some (Sign m.Comma))) (After (Sign m.Comma) 0 (λ x. x) (Info s)) always
    info_comma = behind_token limit (Sign m.Comma) 0 (sourced_at room s (Some (Sign m.Comma))) (λ x. x) (Info s) always (λ ts. and_then (info room ts) (λ xs. ended (with_info s xs))) (omega arith)
        (good_both limit (info room) (λ xs. ended (with_info s xs)) (IsGeneralList 0) (λ xs. Ended (with_info s xs)) always always (λ x v mid rest h k. refl) good_info (λ xs can. good_ended limit (with_info s xs))) (λ us. unmapped _ _ refl)

    exact_sourced : (ts : List Token) → Exact (sourced_at room s (next ts)) (Sourced s) limit ts (sourced_at room s (next ts) ts)
    exact_sourced (Sign m.Comma ∷ ts) = widen (sourced_at room s (Some (Sign m.Comma))) (After (Sign m.Comma) 0 (λ x. x) (Info s)) (Sourced s) limit (λ v us rest h. and_info h) (Sign m.Comma ∷ ts) (sourced_at room s (Some (Sign m.Comma)) (Sign m.Comma ∷ ts)) (info_comma.exact ts)
    exact_sourced ts = widen (ended (no_info s)) (Ended (no_info s)) (Sourced s) limit (λ v us rest h. without_info h) ts (ended (no_info s) ts) ((good_ended limit (no_info s)).exact ts)

    found_sourced : (v : Annotations) (ts rest : Tokens) → Sourced s v ts rest → Found limit (sourced_at room s (next (plain ts))) v ts rest
    found_sourced v ts rest (without_info ended_so) = (good_ended limit (no_info s)).found v ts rest ended_so refl
    found_sourced v ts rest (and_info (after h)) = info_comma.found v ts rest (after h) refl

    good_sourced : Good limit (sourced room s) (Sourced s) always
    unfolding sourced some_ended
    good_sourced = good_choice limit (sourced room s) (sourced_at room s) (Sourced s) always (λ us. refl) exact_sourced (λ v ts rest h k. found_sourced v ts rest h)
        (record { value = no_info s; text = (some_ended (no_info s)).text; spells = λ rest. without_info ended_so })

  source_comma : GoodAt limit (Sign m.Comma) (annotations_at room (Some (Sign m.Comma))) (After (Sign m.Comma) 0 (λ x. x) (Both (IsGeneralTerm 0) Sourced)) always
  source_comma = behind_token limit (Sign m.Comma) 0 (annotations_at room (Some (Sign m.Comma))) (λ x. x) (Both (IsGeneralTerm 0) Sourced) always (λ ts. and_then (general room ts) (sourced room)) (omega arith)
      (good_both limit (general room) (sourced room) (IsGeneralTerm 0) Sourced ends_general always (λ s v mid rest h k. sourced_link s v mid rest h) (good_general room 0 limit e) (λ s can. good_sourced s)) (λ us. unmapped _ _ refl)

  exact_annotations : (ts : List Token) → Exact (annotations_at room (next ts)) IsAnnotations limit ts (annotations_at room (next ts) ts)
  exact_annotations (Sign m.Comma ∷ ts) =
      widen (annotations_at room (Some (Sign m.Comma))) (After (Sign m.Comma) 0 (λ x. x) (Both (IsGeneralTerm 0) Sourced)) IsAnnotations limit (λ v us rest h. and_source h) (Sign m.Comma ∷ ts) (annotations_at room (Some (Sign m.Comma)) (Sign m.Comma ∷ ts)) (source_comma.exact ts)
  exact_annotations ts = widen (ended no_annotations) (Ended no_annotations) IsAnnotations limit (λ v us rest h. without_source h) ts (ended no_annotations ts) ((good_ended limit no_annotations).exact ts)

  found_annotations : (v : Annotations) (ts rest : Tokens) → IsAnnotations v ts rest → Found limit (annotations_at room (next (plain ts))) v ts rest
  found_annotations v ts rest (without_source ended_so) = (good_ended limit no_annotations).found v ts rest ended_so refl
  found_annotations v ts rest (and_source (after h)) = source_comma.found v ts rest (after h) refl

  pub good_annotations : Good limit (annotations room) IsAnnotations always
  unfolding annotations some_ended
  good_annotations = good_choice limit (annotations room) (annotations_at room) IsAnnotations always (λ us. refl) exact_annotations (λ v ts rest h k. found_annotations v ts rest h)
      (record { value = no_annotations; text = (some_ended no_annotations).text; spells = λ rest. without_source ended_so })
