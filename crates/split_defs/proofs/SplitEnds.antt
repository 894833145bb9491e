-- The ends of the search for a split.
use Rattle.std.specs.Prelude.{ℕ, ◌≡◌, ◌<◌, ◌≤◌, List, [], length, Option, Some, None, Result, Ok, Err, IfOk, slice_get}
use Rattle.std.proofs.Common.{sym, subst, ap, ◌∙◌, arith}
use Rattle.std.proofs.lemmas.Option.{slice_get_within}
use Rattle.fof_terms.specs.Vocabulary.{Vocabulary}
use Rattle.fof_terms.specs.declared.term.Term.{Term}
use Rattle.fof_terms.specs.declared.form.Form.{Form}
use Rattle.clause_form.specs.declared.clause.Clause.{Clause}
use Rattle.clause_form.specs.ClauseView.{clause_of}
use Rattle.clause_form.specs.Covers.{scope_of, CoversBy}
use Rattle.clause_rules.specs.Settled.{Settles}
use Rattle.clause_rules.specs.Steps.{IsJoint, images_of_parents}
use Rattle.clause_rules.proofs.Firsts.{one_at}
use Rattle.split_defs.specs.declared.covering.Covered.{Covered}
use Rattle.split_defs.specs.declared.just.SplitJust.{SplitJust}
use Rattle.split_defs.specs.declared.just.SplitJust.TheVariants.{Split}
use Rattle.split_defs.specs.SplitRule.{AllName, unfolded}
use Rattle.split_defs.specs.code.SplitSearch.{CoversForm, NoCover, IsCovering, NoCoverAt, IsCoveredAmong, IsFoundSplit, IsFoundFor}
use Rattle.split_defs.proofs.NamedParents.{named_once}

module _ (v : Vocabulary) (whole : Clause) where
  -- the clause that a formula is
  pub covering_found : (form : Form) (c : Clause) → clause_of form ≡ Some c → (found : Option (List Term)) → Settles v whole (scope_of c) (CoversBy v (scope_of c) c.lits whole) found → IsCovering v whole form found
  covering_found form c is None none = λ d more s at covers. let same : d ≡ c = let f = at in cc in none more s (subst (λ (x : Clause). CoversBy v (scope_of x) x.lits whole more s) same covers)
  covering_found form c is (Some images) h = (c, is, h.0, h.1)

  pub no_covering : (form : Form) → clause_of form ≡ None → NoCover v whole form
  no_covering form is c more s at covers = absurd (let no : None ≡ Some c = sym is ∙ at in cc)

  module _ (parents : List Form) where
    module _ (n : ℕ) (form : Form) (at : slice_get parents n ≡ Some form) where
      pub none_covered_at : (found : Option (List Term)) → found ≡ None → IsCovering v whole form found → NoCoverAt v parents whole n
      none_covered_at found e none a there = subst (NoCover v whole) (one_at parents n form a at there) (subst (IsCovering v whole form) e none)

      pub covered_here : (found : Option (List Term)) (images : List Term) (r : Option Covered) → found ≡ Some images → IsCovering v whole form found → r ≡ Some (record { parent = n; subst = images }) → IsCoveredAmong v parents whole r
      covered_here found images r e shown is =
          let own : CoversForm v whole form images = subst (IsCovering v whole form) e shown in
          let made : IsCoveredAmong v parents whole (Some (record { parent = n; subst = images })) = (form, at, own) in
          subst (IsCoveredAmong v parents whole) (sym is) made

    pub none_covered : (n : ℕ) → length parents ≤ n → ((a : ℕ) → a < n → NoCoverAt v parents whole a) → (a : ℕ) → NoCoverAt v parents whole a
    none_covered n h none a form there = let lt = slice_get_within parents a form there in none a (omega arith) form there

module _ (v : Vocabulary) (parents : List Form) (e : Clause) (names : List ℕ) (ds : List Clause) (named : AllName parents e (length parents) names ds) where
  -- no parent says what a name stands for
  pub no_split_unnamed : names ≡ [] → IsFoundFor v parents e None
  no_split_unnamed none line is h =
      let at = h.7 in
      let same : h.2 ≡ e = let f = at.line_clause in cc in
      let lists = named_once parents e (length parents) names h.1 ds h.4 named (subst (λ (x : Clause). AllName parents x (length parents) h.1 h.4) same at.named) in
      let nothing : h.1 ≡ [] = sym lists.0 ∙ none in
      let some : 0 < length h.1 = at.some_name in
      let size : length h.1 ≡ 0 = ap (λ (ns : List ℕ). length ns) nothing in
      absurd (omega arith)

  module _ (whole : Clause) (is_whole : whole ≡ unfolded e ds) where
    pub no_split : ((n : ℕ) → NoCoverAt v parents whole n) → IsFoundFor v parents e None
    no_split none line is h =
        let at = h.7 in
        let same : h.2 ≡ e = let f = at.line_clause in cc in
        let lists = named_once parents e (length parents) names h.1 ds h.4 named (subst (λ (x : Clause). AllName parents x (length parents) h.1 h.4) same at.named) in
        let wholes : unfolded h.2 h.4 ≡ whole = ap (λ (x : Clause). unfolded x h.4) same ∙ ap (λ (cs : List Clause). unfolded e cs) (sym lists.1) ∙ sym is_whole in
        none h.0 at.form at.at h.3 h.5 h.6 at.clause (subst (λ (x : Clause). CoversBy v (scope_of h.3) h.3.lits x h.5 h.6) wholes at.covers)

    pub a_split : (found : Covered) → 0 < length names → IsCoveredAmong v parents whole (Some found) → IsFoundFor v parents e (Some (Split found.parent names found.subst))
    a_split found some h line is =
        let c = h.2.0 in
        let images = found.subst in (
          e,
          c,
          ds,
          subst (λ (x : Clause). IsJoint v x (scope_of c) images) is_whole h.2.2,
          record {
            line_clause = is;
            form = h.0;
            at = h.1;
            clause = h.2.1;
            some_name = some;
            named = named;
            covers = subst (λ (x : Clause). CoversBy v (scope_of c) c.lits x (scope_of c) (images_of_parents x images)) is_whole h.2.3;
          },
        )

pub no_clause : (v : Vocabulary) (parents : List Form) (line : Form) → clause_of line ≡ None → IsFoundSplit v parents line None
no_clause v parents line is h = let at = h.7 in absurd (let no : None ≡ Some h.2 = sym is ∙ at.line_clause in cc)

pub found_for : (v : Vocabulary) (parents : List Form) (line : Form) (e : Clause) (r : Option SplitJust) → clause_of line ≡ Some e → IsFoundFor v parents e r → IsFoundSplit v parents line r
found_for v parents line e r is h = h line is

-- what an answer has by two clauses
pub ok_both : {X E : Type 0} {P Q R : X → Type 0} (r : Result X E) → ((x : X) → P x → Q x → R x) → IfOk r P → IfOk r Q → IfOk r R
ok_both (Ok x) f p q = f x p q
ok_both (Err e) f p q = p
