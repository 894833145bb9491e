-- Lemmas on what specs/DefinitionRule defines.
use Rattle.std.specs.Prelude.{ℕ, ◌≡◌, ◌⊎◌, Bool, true, false, List, map, Some, slice_get, nat_eq}
use Rattle.std.specs.List.{list_any, IsDistinct}
use Rattle.std.proofs.Common.{subst, inl, inr}
use Rattle.fof_terms.specs.Occurs.{occurs_in, occurs_in_term}
use Rattle.fof_terms.specs.Variables.{has_variable, has_in_term}
use Rattle.fof_terms.specs.Vocabulary.{Vocabulary}
use Rattle.fof_terms.specs.declared.signature.Kind.{Kind}
use Rattle.fof_terms.specs.declared.signature.Kind.TheVariants.{Function, Predicate}
use Rattle.fof_terms.specs.declared.signature.Symbol.{Symbol}
use Rattle.fof_terms.specs.declared.term.Term.{Term, Var, App}
use Rattle.fof_terms.specs.declared.form.Form.{Form, Atom, Eq, Imp, Iff}
use Rattle.kernel.specs.Statements.{Statements}
use Rattle.kernel.specs.Entries.{IsFresh, for_all}
use Rattle.split_defs.specs.DefinitionRule.{IsNew, Defines, IsDefinitionStep}

-- The rule speaks of a theory by its symbols, and by those that are fresh in it.
module _ (t u : Statements) (same : t.vocabulary ≡ u.vocabulary) (fresh : (k : ℕ) → IsFresh k t → IsFresh k u) where
  new_alike : (kind : Kind) (k : ℕ) → IsNew t kind k → IsNew u kind k
  new_alike kind k n = record {
    symbol = n.symbol;
    found = subst (λ (v : Vocabulary). slice_get v.symbols k ≡ Some n.symbol) same n.found;
    is_kind = n.is_kind;
    fresh = fresh k n.fresh;
  }

  pub defines_alike : (line : Form) (k : ℕ) (first : Bool) → Defines t line k first → Defines u line k first
  defines_alike line k first d = (
    d.0,
    d.1,
    d.2,
    elim d.3 [
      | inl p ↦ inl (new_alike Predicate k p.0, p.1)
      | inr f ↦ inr (new_alike Function k f.0, f.1)
    ],
  )

pub definition_alike : (t u : Statements) (line : Form) → t.vocabulary ≡ u.vocabulary → ((k : ℕ) → IsFresh k t → IsFresh k u) → IsDefinitionStep t line → IsDefinitionStep u line
definition_alike t u line same fresh d = (d.0, d.1, defines_alike t u same fresh line d.0 d.1 d.2)
