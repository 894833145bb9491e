-- The productions of terms and atoms. Each relates, under the nesting around it, a value to the tokens from its first
-- one on and the tokens after it.
use Rattle.std.specs.Prelude.{◌≡◌, ℕ, suc, List, [], ◌∷◌, Some, codes}
use Rattle.tptp_lexer.specs.declared.token.Token.{Token}
use Rattle.tptp_lexer.specs.declared.token.Token.TheVariants.{Upper, Dollar, Mark as Sign}
use Rattle.tptp_base.specs.declared.surface.STerm.{STerm}
use Rattle.tptp_base.specs.declared.surface.Surface.{Surface}
use Rattle.tptp_grammar.specs.Tokens.{Text, Tokens, word}
use Rattle.tptp_lexer.specs.declared.token.Mark.TheVariants as m
use Rattle.tptp_base.specs.declared.surface.STerm.TheVariants as tm
use Rattle.tptp_base.specs.declared.surface.Surface.TheVariants as fm

mutual
  -- <fof_term> ::= <fof_function_term> | <variable>
  pub data IsTerm : ℕ → STerm → Tokens → Tokens → Type 0 where
    variable : {d : ℕ} {name : Text} {rest : Tokens} → IsTerm d (tm.Var name) ((Upper name, d) ∷ rest) rest
    function : {d : ℕ} {f : Text} {xs : List STerm} {ts rest : Tokens} → IsApplied d f xs ts rest → IsTerm d (tm.App f xs) ts rest

  -- <fof_plain_term> ::= <constant> | <functor>(<fof_arguments>)
  pub data IsApplied : ℕ → Text → List STerm → Tokens → Tokens → Type 0 where
    constant : {d : ℕ} {w : Token} {f : Text} {rest : Tokens} → word w ≡ Some f → IsApplied d f [] ((w, d) ∷ rest) rest
    application : {d : ℕ} {w : Token} {f : Text} {xs : List STerm} {ts rest : Tokens} → word w ≡ Some f → AreTerms (suc d) xs ts ((Sign m.Close, suc d) ∷ rest)
        → IsApplied d f xs ((w, d) ∷ (Sign m.Open, suc d) ∷ ts) rest

  -- <fof_arguments> ::= <fof_term> | <fof_term>,<fof_arguments>
  pub data AreTerms : ℕ → List STerm → Tokens → Tokens → Type 0 where
    last_term : {d : ℕ} {x : STerm} {ts rest : Tokens} → IsTerm d x ts rest → AreTerms d (x ∷ []) ts rest
    more_terms : {d : ℕ} {x : STerm} {xs : List STerm} {ts mid rest : Tokens} → IsTerm d x ts ((Sign m.Comma, d) ∷ mid) → AreTerms d xs mid rest → AreTerms d (x ∷ xs) ts rest

-- <fof_atomic_formula> ::= <fof_plain_atomic_formula> | <fof_defined_atomic_formula>
-- where the defined ones are $true, $false and <fof_term> = <fof_term>
pub data IsAtom : ℕ → Surface → Tokens → Tokens → Type 0 where
  truth : {d : ℕ} {w : Text} {rest : Tokens} → w ≡ codes "$true" → IsAtom d fm.True ((Dollar w, d) ∷ rest) rest
  falsehood : {d : ℕ} {w : Text} {rest : Tokens} → w ≡ codes "$false" → IsAtom d fm.False ((Dollar w, d) ∷ rest) rest
  predicate : {d : ℕ} {f : Text} {xs : List STerm} {ts rest : Tokens} → IsApplied d f xs ts rest → IsAtom d (fm.Atom f xs) ts rest
  equation : {d : ℕ} {a b : STerm} {ts mid rest : Tokens} → IsTerm d a ts ((Sign m.Equal, d) ∷ mid) → IsTerm d b mid rest → IsAtom d (fm.Eq a b) ts rest

-- <fof_infix_unary> ::= <fof_term> != <fof_term>
pub data IsInequation : ℕ → Surface → Tokens → Tokens → Type 0 where
  inequation : {d : ℕ} {a b : STerm} {ts mid rest : Tokens} → IsTerm d a ts ((Sign m.NotEqual, d) ∷ mid) → IsTerm d b mid rest → IsInequation d (fm.Neq a b) ts rest
