-- The readers of names and roles are exact and find all that is derived.
use Rattle.std.proofs.Common.{◌≡◌, Bool, true, false, if◌then◌else◌, ℕ, ◌<◌, List, [], ◌∷◌, length, Option, Some, None, Ok, Err, inl, refl, sym, ◌∙◌, ap, subst, arith}
use Rattle.std.specs.Str.{bytes_eq}
use Rattle.first_fault.specs.Nesting.{plain}
use Rattle.first_fault.proofs.NestingFacts.{done, before}
use Rattle.first_fault.specs.code.Reading.{Unexpected, next}
use Rattle.first_fault.proofs.Exact.{Exact, Inhabited, exact_stop, exact_token}
use Rattle.first_fault.proofs.Found.{Found}
use Rattle.first_fault.proofs.Good.{Good, good_choice, always}
use Rattle.tptp_lexer.specs.declared.token.Token.{Token}
use Rattle.tptp_lexer.specs.declared.token.Token.TheVariants.{Lower, Quoted, Number}
use Rattle.tptp_base.specs.declared.name.Name.{Name}
use Rattle.tptp_base.specs.declared.name.Name.TheVariants as nm
use Rattle.tptp_base.specs.declared.item.Role.{Role}
use Rattle.tptp_base.specs.declared.item.Role.TheVariants as rl
use Rattle.tptp_grammar.specs.Tokens.{Text, Tokens, word, role_text}
use Rattle.tptp_grammar.specs.Items as g
use Rattle.tptp_grammar.specs.Items.{IsName}
use Rattle.tptp_base.specs.Numerals.{is_integer}
use Rattle.tptp_grammar.specs.code.ReadItems.{name_at, name, all_roles, role_among, role_of, given_role, role_at, role}
use Rattle.tptp_grammar.proofs.Marks.{text_is}

-- ---- names

pub moves_name : {n : Name} {ts rest : Tokens} → IsName n ts rest → length rest < length ts
moves_name (g.word_name e) = omega arith
moves_name (g.integer_name e) = omega arith

some_name : Inhabited IsName
some_name = record { value = nm.Word []; text = λ rest. (Lower [], 0) ∷ rest; spells = λ rest. g.word_name refl }

word_read : (w : Token) (n : Text) → word w ≡ Some n → (us : List Token) → name_at (Some w) (w ∷ us) ≡ Ok (nm.Word n, us)
word_read (Lower x) n e us = let same : x ≡ n = cc in ap (λ y. Ok (nm.Word y, us)) same
word_read (Quoted x) n e us = let same : x ≡ n = cc in ap (λ y. Ok (nm.Word y, us)) same
word_read w n e us = cc

integer_read : (n : Text) → is_integer n ≡ true → (us : List Token) → name_at (Some (Number n)) (Number n ∷ us) ≡ Ok (nm.Integer n, us)
integer_read n e us = rw e refl

no_integer : (n : Text) → is_integer n ≡ false → (us : List Token) → name_at (Some (Number n)) us ≡ Err (Unexpected, us)
no_integer n e us = rw e refl

module _ (limit : ℕ) where
  exact_number : (n : Text) (b : Bool) → is_integer n ≡ b → (ts : List Token) → Exact (name_at (Some (Number n))) IsName limit (Number n ∷ ts) (name_at (Some (Number n)) (Number n ∷ ts))
  exact_number n true e ts = subst (Exact (name_at (Some (Number n))) IsName limit (Number n ∷ ts)) (sym (integer_read n e ts)) (exact_token (name_at (Some (Number n))) IsName limit (Number n) 0 (nm.Integer n) (omega arith) (λ rest. g.integer_name e) (integer_read n e) ts)
  exact_number n false e ts = subst (Exact (name_at (Some (Number n))) IsName limit (Number n ∷ ts)) (sym (no_integer n e (Number n ∷ ts))) (exact_stop (name_at (Some (Number n))) IsName limit (Number n ∷ ts) some_name (λ other k. no_integer n e other))

  exact_name : (ts : List Token) → Exact (name_at (next ts)) IsName limit ts (name_at (next ts) ts)
  exact_name (Lower x ∷ ts) = exact_token (name_at (Some (Lower x))) IsName limit (Lower x) 0 (nm.Word x) (omega arith) (λ rest. g.word_name refl) (λ us. refl) ts
  exact_name (Quoted x ∷ ts) = exact_token (name_at (Some (Quoted x))) IsName limit (Quoted x) 0 (nm.Word x) (omega arith) (λ rest. g.word_name refl) (λ us. refl) ts
  exact_name (Number n ∷ ts) = exact_number n (is_integer n) refl ts
  exact_name ts = exact_stop (name_at (next ts)) IsName limit ts some_name (λ other e. refl)

  found_name : (n : Name) (ts rest : Tokens) → IsName n ts rest → Found limit (name_at (next (plain ts))) n ts rest
  found_name n ts rest (g.word_name {w = w} {n = x} e) = inl (before (omega arith) done, word_read w x e (plain rest))
  found_name n ts rest (g.integer_name {n = x} e) = inl (before (omega arith) done, integer_read x e (plain rest))

  pub good_name : Good limit name IsName always
  unfolding name
  good_name = good_choice limit name name_at IsName always (λ us. refl) exact_name (λ n ts rest h e. found_name n ts rest h) some_name

-- ---- roles

pub data IsRole : Role → Tokens → Tokens → Type 0 where
  role_word : {r : Role} {w : Text} {rest : Tokens} → w ≡ role_text r → IsRole r ((Lower w, 0) ∷ rest) rest

some_role : Inhabited IsRole
some_role = record { value = rl.Plain; text = λ rest. (Lower (role_text rl.Plain), 0) ∷ rest; spells = λ rest. role_word refl }

role_case : (first r : Role) (w : Text) (o : Option Role) (b : Bool) → bytes_eq w (role_text first) ≡ b → (if b then Some first else o) ≡ Some r → (o ≡ Some r → w ≡ role_text r) → w ≡ role_text r
role_case first r w o true e k h = let same : first ≡ r = cc in subst (λ x. w ≡ role_text x) same (text_is w (role_text first) e)
role_case first r w o false e k h = h k

role_in : (rs : List Role) (w : Text) (r : Role) → role_among rs w ≡ Some r → w ≡ role_text r
role_in [] w r e = cc
role_in (first ∷ rs) w r e = role_case first r w (role_among rs w) (bytes_eq w (role_text first)) refl e (role_in rs w r)

role_is : (w : Text) (r : Role) → role_of w ≡ Some r → w ≡ role_text r
unfolding role_of
role_is w r e = role_in all_roles w r e

is_role_text : (r : Role) → role_of (role_text r) ≡ Some r
unfolding role_of
is_role_text = elim [ rl.Axiom ↦ refl | _ ↦ refl ]

role_read : (w : Text) (r : Role) → w ≡ role_text r → (us : List Token) → role_at (Some (Lower w)) (Lower w ∷ us) ≡ Ok (r, us)
role_read w r e us = ap (λ o. given_role o (Lower w ∷ us)) (ap role_of e ∙ is_role_text r)

no_role : (w : Text) → role_of w ≡ None → (us : List Token) → role_at (Some (Lower w)) us ≡ Err (Unexpected, us)
no_role w e us = ap (λ o. given_role o us) e

module _ (limit : ℕ) where
  exact_role_word : (w : Text) (o : Option Role) → role_of w ≡ o → (ts : List Token) → Exact (role_at (Some (Lower w))) IsRole limit (Lower w ∷ ts) (role_at (Some (Lower w)) (Lower w ∷ ts))
  exact_role_word w (Some r) e ts =
      let is = role_is w r e in
      subst (Exact (role_at (Some (Lower w))) IsRole limit (Lower w ∷ ts)) (sym (role_read w r is ts)) (exact_token (role_at (Some (Lower w))) IsRole limit (Lower w) 0 r (omega arith) (λ rest. role_word is) (role_read w r is) ts)
  exact_role_word w None e ts = subst (Exact (role_at (Some (Lower w))) IsRole limit (Lower w ∷ ts)) (sym (no_role w e (Lower w ∷ ts))) (exact_stop (role_at (Some (Lower w))) IsRole limit (Lower w ∷ ts) some_role (λ other k. no_role w e other))

  exact_role : (ts : List Token) → Exact (role_at (next ts)) IsRole limit ts (role_at (next ts) ts)
  exact_role (Lower w ∷ ts) = exact_role_word w (role_of w) refl ts
  exact_role ts = exact_stop (role_at (next ts)) IsRole limit ts some_role (λ other e. refl)

  found_role : (r : Role) (ts rest : Tokens) → IsRole r ts rest → Found limit (role_at (next (plain ts))) r ts rest
  found_role r ts rest (role_word {w = w} e) = inl (before (omega arith) done, role_read w r e (plain rest))

  pub good_role : Good limit role IsRole always
  unfolding role
  good_role = good_choice limit role role_at IsRole always (λ us. refl) exact_role (λ r ts rest h e. found_role r ts rest h) some_role
