-- The productions of sorts and of the bodies of type lines.
use Rattle.std.specs.Prelude.{◌≡◌, ℕ, suc, List, [], ◌∷◌, Some, codes}
use Rattle.first_fault.specs.Rules.{Listed}
use Rattle.tptp_lexer.specs.declared.token.Token.{Token}
use Rattle.tptp_lexer.specs.declared.token.Token.TheVariants.{Dollar, Mark as Sign}
use Rattle.tptp_base.specs.declared.surface.SortName.{SortName}
use Rattle.tptp_base.specs.declared.item.Shape.{Shape}
use Rattle.tptp_base.specs.declared.item.Typing.{Typing}
use Rattle.tptp_grammar.specs.Tokens.{Text, Tokens, word}
use Rattle.tptp_lexer.specs.declared.token.Mark.TheVariants as m
use Rattle.tptp_base.specs.declared.surface.SortName.TheVariants as sort
use Rattle.tptp_base.specs.declared.item.Shape.TheVariants as shape

-- <tff_atomic_type> ::= <type_constant> | <defined_type>, of which $i is the one for arguments
pub data IsArgumentSort : ℕ → SortName → Tokens → Tokens → Type 0 where
  named_sort : {d : ℕ} {w : Token} {s : Text} {rest : Tokens} → word w ≡ Some s → IsArgumentSort d (sort.Word s) ((w, d) ∷ rest) rest
  individuals : {d : ℕ} {w : Text} {rest : Tokens} → w ≡ codes "$i" → IsArgumentSort d sort.Individual ((Dollar w, d) ∷ rest) rest

-- the same, or $o
pub data IsResultSort : ℕ → SortName → Tokens → Tokens → Type 0 where
  argument_sort : {d : ℕ} {s : SortName} {ts rest : Tokens} → IsArgumentSort d s ts rest → IsResultSort d s ts rest
  truth_values : {d : ℕ} {w : Text} {rest : Tokens} → w ≡ codes "$o" → IsResultSort d sort.Truth ((Dollar w, d) ∷ rest) rest

-- <tff_mapping_type> ::= <tff_unitary_type> > <tff_atomic_type>
-- <tff_xprod_type> ::= <tff_unitary_type> * <tff_atomic_type> | <tff_xprod_type> * <tff_atomic_type>
pub data IsMap : ℕ → Shape → Tokens → Tokens → Type 0 where
  map_of_one : {d : ℕ} {a r : SortName} {ts mid rest : Tokens} → IsArgumentSort d a ts ((Sign m.Greater, d) ∷ mid) → IsResultSort d r mid rest → IsMap d (shape.Symbol (a ∷ []) r) ts rest
  map_of_more : {d : ℕ} {a r : SortName} {others : List SortName} {ts mid end rest : Tokens} → IsArgumentSort (suc d) a ts ((Sign m.Star, suc d) ∷ mid)
      → Listed (Sign m.Star) (suc d) (IsArgumentSort (suc d)) others mid ((Sign m.Close, suc d) ∷ (Sign m.Greater, d) ∷ end) → IsResultSort d r end rest
      → IsMap d (shape.Symbol (a ∷ others) r) ((Sign m.Open, suc d) ∷ ts) rest
  map_in_parentheses : {d : ℕ} {s : Shape} {ts rest : Tokens} → IsMap (suc d) s ts ((Sign m.Close, suc d) ∷ rest) → IsMap d s ((Sign m.Open, suc d) ∷ ts) rest

-- <tff_top_level_type> ::= <tff_atomic_type> | <tff_non_atomic_type>
pub data IsShape : ℕ → Shape → Tokens → Tokens → Type 0 where
  sort_of_sorts : {d : ℕ} {w : Text} {rest : Tokens} → w ≡ codes "$tType" → IsShape d shape.Sort ((Dollar w, d) ∷ rest) rest
  sort_of_constant : {d : ℕ} {r : SortName} {ts rest : Tokens} → IsResultSort d r ts rest → IsShape d (shape.Symbol [] r) ts rest
  map : {d : ℕ} {s : Shape} {ts rest : Tokens} → IsMap d s ts rest → IsShape d s ts rest

-- <tff_atom_typing> ::= <untyped_atom> : <tff_top_level_type> | (<tff_atom_typing>)
pub data IsTyping : ℕ → Typing → Tokens → Tokens → Type 0 where
  typing : {d : ℕ} {w : Token} {f : Text} {s : Shape} {ts rest : Tokens} → word w ≡ Some f → IsShape d s ts rest → IsTyping d (record { name = f; shape = s }) ((w, d) ∷ (Sign m.Colon, d) ∷ ts) rest
  typing_in_parentheses : {d : ℕ} {t : Typing} {ts rest : Tokens} → IsTyping (suc d) t ts ((Sign m.Close, suc d) ∷ rest) → IsTyping d t ((Sign m.Open, suc d) ∷ ts) rest
