-- The tokens that the productions speak of, each with its nesting, and the texts of words.
use Rattle.std.specs.Prelude.{ℕ, Bool, true, false, List, Option, Some, None, codes}
use Rattle.first_fault.specs.Nesting.{Nested}
use Rattle.tptp_lexer.specs.declared.style.Style.{Style}
use Rattle.tptp_lexer.specs.declared.style.Style.TheVariants.{Problem}
use Rattle.tptp_lexer.specs.declared.token.Token.{Token}
use Rattle.tptp_lexer.specs.declared.token.Token.TheVariants.{Lower, Quoted}
use Rattle.tptp_lexer.specs.declared.token.Mark.{Mark}
use Rattle.tptp_base.specs.declared.surface.BinOp.{BinOp}
use Rattle.tptp_base.specs.declared.surface.Quant.{Quant}
use Rattle.tptp_base.specs.declared.item.Lang.{Lang}
use Rattle.tptp_base.specs.declared.item.Role.{Role}
use Rattle.tptp_lexer.specs.declared.token.Mark.TheVariants as m
use Rattle.tptp_base.specs.declared.surface.BinOp.TheVariants as op
use Rattle.tptp_base.specs.declared.surface.Quant.TheVariants as q
use Rattle.tptp_base.specs.declared.item.Lang.TheVariants as lang
use Rattle.tptp_base.specs.declared.item.Role.TheVariants as role

abbrev pub Text : Type 0
Text = List ℕ

-- Tokens, each with its nesting. That is the number of: `(` and `[` that are open, this token included; `~` whose unit
-- isn't finished, this token included; bound variables whose quantifier's unit isn't finished, counted from the `:` on;
-- `:` of general terms whose right side isn't finished, this token included. Counting begins after the role's comma.
abbrev pub Tokens : Type 0
Tokens = List (Nested Token)

-- <atomic_word> ::= <lower_word> | <single_quoted>
abbrev pub word : Token → Option Text
word (Lower name) = Some name
word (Quoted name) = Some name
word _ = None

-- <nonassoc_connective> ::= <=> | => | <= | <~> | ~<vline> | ~&
abbrev pub operator : Mark → Option BinOp
operator m.Imp = Some op.Imp
operator m.RevImp = Some op.RevImp
operator m.Iff = Some op.Iff
operator m.Xor = Some op.Xor
operator m.Nor = Some op.Nor
operator m.Nand = Some op.Nand
operator _ = None

-- <fof_quantifier> ::= ! | ?
abbrev pub quantifier : Mark → Option Quant
quantifier m.Bang = Some q.All
quantifier m.Question = Some q.Ex
quantifier _ = None

-- the word before an annotated formula
abbrev pub lang_text : Lang → Text
lang_text lang.Cnf = codes "cnf"
lang_text lang.Fof = codes "fof"
lang_text lang.Tff = codes "tff"
lang_text lang.Tcf = codes "tcf"

-- whether texts of the style have formulas of the language: typed clauses stand in derivations alone
abbrev pub has_language : Style → Lang → Bool
has_language Problem lang.Tcf = false
has_language _ _ = true

-- the word before a formula in a general term
abbrev pub embedded_text : Lang → Text
embedded_text lang.Cnf = codes "$cnf"
embedded_text lang.Fof = codes "$fof"
embedded_text lang.Tff = codes "$tff"
embedded_text lang.Tcf = codes "$tcf"

-- <formula_role>
abbrev pub role_text : Role → Text
role_text role.Axiom = codes "axiom"
role_text role.Hypothesis = codes "hypothesis"
role_text role.Definition = codes "definition"
role_text role.Assumption = codes "assumption"
role_text role.Lemma = codes "lemma"
role_text role.Theorem = codes "theorem"
role_text role.Corollary = codes "corollary"
role_text role.Conjecture = codes "conjecture"
role_text role.NegatedConjecture = codes "negated_conjecture"
role_text role.Plain = codes "plain"
role_text role.Typing = codes "type"
role_text role.FiDomain = codes "fi_domain"
role_text role.FiFunctors = codes "fi_functors"
role_text role.FiPredicates = codes "fi_predicates"
role_text role.Unknown = codes "unknown"
