-- The tests whether a formula says what a literal of the line stands for.
use Rattle.std.specs.Prelude.{ℕ, ◌≡◌, ◌<◌, ◌≤◌, List, [], length, Option, Some, None, slice_get, refl}
use Rattle.std.proofs.Common.{sym, subst, ap, ◌∙◌, arith}
use Rattle.std.proofs.lemmas.Option.{slice_get_within}
use Rattle.fof_terms.specs.declared.term.Term.{Term}
use Rattle.fof_terms.specs.declared.form.Form.{Form, Atom, Iff}
use Rattle.fof_terms.specs.declared.form.Form.TheOpen as form
use Rattle.fof_terms.specs.declared.form.Form.TheViews.{out-Form, outs-Atom}
use Rattle.fof_terms.proofs.Trees.{Iff-injective}
use Rattle.clause_form.specs.declared.clause.Lit.{Lit}
use Rattle.clause_form.specs.declared.clause.Clause.{Clause}
use Rattle.clause_form.specs.ClauseView.{clause_of}
use Rattle.clause_form.specs.Covers.{HasOne}
use Rattle.split_defs.specs.SplitRule.{name_lit, HasName, Names}
use Rattle.split_defs.specs.code.SplitSearch.{IsNamed, IsPlaceOfName}

pub atom_parts : (p q : ℕ) (ts us : List Term) → Atom p ts ≡ Atom q us → (p ≡ q) × (ts ≡ us)
atom_parts p q ts us e = let layers : form.Atom p ts ≡ form.Atom q us = sym (outs-Atom p ts) ∙ ap out-Form e ∙ outs-Atom q us in (cc, cc)

-- a predicate without arguments that is a literal of the line
abbrev pub IsNameOf : Clause → Form → Type 0
IsNameOf line a = (q : ℕ) × (a ≡ Atom q []) × HasName line q

pub name_found : (lits : List Lit) (q i : ℕ) → slice_get lits i ≡ Some (name_lit q) → HasOne (λ l. l ≡ name_lit q) lits
name_found lits q i at = (i, name_lit q, at, refl)

pub name_of : (line : Clause) (a : Form) (p : ℕ) (ts : List Term) (found : Option ℕ) (lent : List Lit) → a ≡ Atom p ts → ts ≡ [] → lent ≡ line.lits → IsPlaceOfName lent p found → (found ≡ None → ⊥) → IsNameOf line a
name_of line a p ts None lent is none e place some = absurd (some refl)
name_of line a p ts (Some i) lent is none e place some = (p, is ∙ ap (Atom p) none, subst (HasOne (λ l. l ≡ name_lit p)) e (name_found lent p i place))

pub name_parts : (line : Clause) (a : Form) (p : ℕ) (ts : List Term) (lent : List Lit) → a ≡ Atom p ts → lent ≡ line.lits → IsNameOf line a → (ts ≡ []) × HasOne (λ l. l ≡ name_lit p) lent
name_parts line a p ts lent is e h =
    let parts = atom_parts p h.0 ts [] (sym is ∙ h.1) in
    (parts.1, subst (λ (q : ℕ). HasOne (λ l. l ≡ name_lit q) lent) (sym parts.0) (subst (HasOne (λ l. l ≡ name_lit h.0)) (sym e) h.2))

pub no_name : (line : Clause) (a : Form) → ((p : ℕ) (ts : List Term) → a ≡ Atom p ts → ⊥) → IsNameOf line a → ⊥
no_name line a none h = none h.0 [] h.1

pub place_missing : (lits : List Lit) (q n : ℕ) → length lits ≤ n → ((k : ℕ) → k < n → slice_get lits k ≡ Some (name_lit q) → ⊥) → HasOne (λ l. l ≡ name_lit q) lits → ⊥
place_missing lits q n le none h = let lt = slice_get_within lits h.0 h.1 h.2 in none h.0 (omega arith) (h.2 ∙ ap Some h.3)

pub other_literal : (lits : List Lit) (q i : ℕ) (l : Lit) → slice_get lits i ≡ Some l → (l ≡ name_lit q → ⊥) → slice_get lits i ≡ Some (name_lit q) → ⊥
other_literal lits q i l at other e = other (let both : Some l ≡ Some (name_lit q) = sym at ∙ e in cc)

module _ (line : Clause) (a name meaning : Form) (is : a ≡ Iff name meaning) where
  -- the sides, as they were read
  module _ (left right : Form) (el : left ≡ name) (er : right ≡ meaning) where
    pub named_found : (found : Option Clause) → IsNameOf line left → found ≡ clause_of right → IsNamed line a found
    named_found None h e = λ d n.
        let sides = Iff-injective name meaning (Atom n.name []) n.meaning (sym is ∙ n.is) in
        let both : None ≡ Some d = e ∙ ap clause_of (er ∙ sides.1) ∙ n.clause in
        cc
    named_found (Some d) h e = record {
      name = h.0;
      meaning = meaning;
      is = is ∙ ap (λ (x : Form). Iff x meaning) (sym el ∙ h.1);
      in_line = h.2;
      clause = ap clause_of (sym er) ∙ sym e;
    }

    pub not_named : (IsNameOf line left → ⊥) → (d : Clause) → Names line a d → ⊥
    not_named none d n =
        let sides = Iff-injective name meaning (Atom n.name []) n.meaning (sym is ∙ n.is) in
        none (n.name, el ∙ sides.0, n.in_line)

pub no_equivalence : (line : Clause) (a : Form) → ((l r : Form) → a ≡ Iff l r → ⊥) → (d : Clause) → Names line a d → ⊥
no_equivalence line a none d n = none (Atom n.name []) n.meaning n.is
