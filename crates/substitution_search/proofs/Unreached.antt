-- Where no path reaches a clause that the line covers, since some literal of it never is.
use Rattle.std.specs.Prelude.{ℕ, ◌≡◌, List, [], ◌∷◌, length, map, Option, Some, None, slice_get, refl}
use Rattle.std.specs.Option.{option_map}
use Rattle.std.proofs.Common.{ap, sym, subst, ◌∙◌, zero, suc}
use Rattle.fof_terms.specs.Lift.{lifted_term}
use Rattle.fof_terms.proofs.Walks.{TermWalk, both_terms, lifting_term, same_terms}
use Rattle.fof_terms.specs.declared.term.Term.{Term, Var}
use Rattle.fof_terms.specs.declared.form.Form.{Form, And, Or, All}
use Rattle.fof_terms.specs.declared.form.Form.TheViews.{out-Form, outs-And, outs-Or, outs-All}
use Rattle.clause_form.specs.declared.path.Path.{Path, Leaf}
use Rattle.clause_form.specs.declared.clause.Clause.{Clause}
use Rattle.clause_form.specs.declared.clause.Lit.{Lit}
use Rattle.clause_form.specs.ClauseView.{view_of, alone_lit, open_clause, within}
use Rattle.clause_form.specs.Covers.{in_lit, HasOne, IsCovered}
use Rattle.clause_form.specs.Images.{image}
use Rattle.clause_form.proofs.ImagesFacts.{image-Var}
use Rattle.clause_form.specs.Paths.{plain, reached, beside, all_beside, each_reaches, at_member, pick_in, each_in, under_in}
use Rattle.substitution_search.specs.Screens.{NeverCovered, NeverReached}
use Rattle.substitution_search.specs.code.Screens.{NoneReached, OneUnreached}
use Rattle.clause_rules.proofs.ListPlaces.{before, behind, mapped, more_parts, nothing_there, get_lifted}
use Rattle.clause_rules.proofs.LitImages.{imaging, lit_twice}
use Rattle.substitution_search.proofs.Openings.{IsLeafForm, IsLeafLayer, leaf_form, no_pick, no_each, no_under, and_no_lit, or_no_lit, all_no_lit}
use Rattle.substitution_search.proofs.PathCases.{path_cases, reached-Leaf, reached-Pick, reached-Each, reached-Under}

no_leaf : (a : Form) (c : Clause) → plain (view_of a).lit ≡ None → reached Leaf a ≡ Some c → ⊥
no_leaf a c none is = nothing_there _ c (reached-Leaf a ∙ ap (λ (o : Option Lit). option_map open_clause (option_map alone_lit o)) none) is

at_place : (o : Option Form) (p : Path) (c : Clause) → at_member (reached p) o ≡ Some c → (a : Form) × (o ≡ Some a) × (reached p a ≡ Some c)
at_place None p c is = absurd (let x = is in cc)
at_place (Some a) p c is = (a, refl, is)

module _ (line : List Lit) where
  abbrev Bad : List Lit → Type 0
  Bad = HasOne (NeverCovered line)

  -- other names for the variables change nothing
  moved_never : (f : Term → Term) → TermWalk f → (l : Lit) → NeverCovered line l → NeverCovered line (in_lit f l)
  moved_never f walk l never = λ s h.
      let r : ℕ → Term = λ k. image s (f (Var k)) in
      let same : (t : Term) → image s (f t) ≡ image r t = same_terms (λ t. image s (f t)) (image r) (both_terms (image s) f (imaging s) walk) (imaging r) (λ k. sym (image-Var r k)) in
      never r (subst (IsCovered line) (lit_twice (image s) f (image r) same l) h)

  moved_bad : (f : Term → Term) → TermWalk f → (lits : List Lit) → Bad lits → Bad (map (in_lit f) lits)
  moved_bad f walk lits h = (h.0, in_lit f h.1, get_lifted (in_lit f) lits h.0 h.1 h.2, moved_never f walk h.1 h.3)

  first_bad : (c d : Clause) → Bad c.lits → Bad (beside c d).lits
  first_bad c d h =
      let m = moved_bad (lifted_term (length d.sorts) 0) (lifting_term (length d.sorts) 0) c.lits h in
      (m.0, m.1, before (map (in_lit (lifted_term (length d.sorts) 0)) c.lits) (map (in_lit (lifted_term (length c.sorts) (length d.sorts))) d.lits) m.0 m.1 m.2, m.3)

  second_bad : (c d : Clause) → Bad d.lits → Bad (beside c d).lits
  second_bad c d h =
      let m = moved_bad (lifted_term (length c.sorts) (length d.sorts)) (lifting_term (length c.sorts) (length d.sorts)) d.lits h in
      let n = behind (map (in_lit (lifted_term (length d.sorts) 0)) c.lits) (map (in_lit (lifted_term (length c.sorts) (length d.sorts))) d.lits) m.0 m.1 m.2 in
      (n.0, m.1, n.1, m.3)

  each_bad : (as_ : List Form) (ps : List Path) (cs : List Clause) → each_reaches (map reached ps) as_ ≡ Some cs → (i : ℕ) (a : Form) → slice_get as_ i ≡ Some a → NeverReached line a → Bad (all_beside cs).lits
  each_bad [] ps cs is i a at never = absurd (nowhere i at) where
    nowhere : (i : ℕ) → slice_get [] i ≡ Some a → ⊥
    nowhere i e = cc
  each_bad (b ∷ as_) [] cs is i a at never = absurd (let x = is in cc)
  each_bad (b ∷ as_) (p ∷ ps) cs is zero a at never =
      let m = more_parts (reached p b) (each_reaches (map reached ps) as_) cs is in
      let same : b ≡ a = cc in
      subst (λ zs. Bad (all_beside zs).lits) m.4 (first_bad m.0 (all_beside m.1) (subst (NeverReached line) (sym same) never p m.0 m.2))
  each_bad (b ∷ as_) (p ∷ ps) cs is (suc i) a at never =
      let m = more_parts (reached p b) (each_reaches (map reached ps) as_) cs is in
      subst (λ zs. Bad (all_beside zs).lits) m.4 (second_bad m.0 (all_beside m.1) (each_bad as_ ps m.1 m.3 i a at never))

  abbrev Along : Form → Path → Type 0
  Along a p = (c : Clause) → reached p a ≡ Some c → Bad c.lits

  and_never : (as_ : List Form) → NoneReached line as_ → NeverReached line (And as_)
  and_never as_ none =
      path_cases (Along (And as_)) (record {
        leaf = λ c is. absurd (no_leaf (And as_) c (and_no_lit as_) is);
        pick = λ k p c is. let m = at_place (slice_get as_ k) p c (sym (reached-Pick k p (And as_) ∙ ap (pick_in k (reached p)) (outs-And as_)) ∙ is) in none k m.0 m.1 p c m.2;
        each = λ ps c is. absurd (nothing_there _ c (reached-Each ps (And as_) ∙ ap (each_in (map reached ps)) (outs-And as_)) is);
        under = λ p c is. absurd (nothing_there _ c (reached-Under p (And as_) ∙ ap (under_in (reached p)) (outs-And as_)) is);
      })

  or_never : (as_ : List Form) → OneUnreached line as_ → NeverReached line (Or as_)
  or_never as_ one =
      path_cases (Along (Or as_)) (record {
        leaf = λ c is. absurd (no_leaf (Or as_) c (or_no_lit as_) is);
        pick = λ k p c is. absurd (nothing_there _ c (reached-Pick k p (Or as_) ∙ ap (pick_in k (reached p)) (outs-Or as_)) is);
        each = λ ps c is.
            let m = mapped all_beside (each_reaches (map reached ps) as_) c (sym (reached-Each ps (Or as_) ∙ ap (each_in (map reached ps)) (outs-Or as_)) ∙ is) in
            subst (λ (d : Clause). Bad d.lits) m.2 (each_bad as_ ps m.0 m.1 one.0 one.1 one.2 one.3);
        under = λ p c is. absurd (nothing_there _ c (reached-Under p (Or as_) ∙ ap (under_in (reached p)) (outs-Or as_)) is);
      })

  all_never : (s : ℕ) (a : Form) → NeverReached line a → NeverReached line (All s a)
  all_never s a never =
      path_cases (Along (All s a)) (record {
        leaf = λ c is. absurd (no_leaf (All s a) c (all_no_lit s a) is);
        pick = λ k p c is. absurd (nothing_there _ c (reached-Pick k p (All s a) ∙ ap (pick_in k (reached p)) (outs-All s a)) is);
        each = λ ps c is. absurd (nothing_there _ c (reached-Each ps (All s a) ∙ ap (each_in (map reached ps)) (outs-All s a)) is);
        under = λ p c is.
            let m = mapped (within s) (reached p a) c (sym (reached-Under p (All s a) ∙ ap (under_in (reached p)) (outs-All s a)) ∙ is) in
            subst (λ (d : Clause). Bad d.lits) m.2 (never p m.0 m.1);
      })

  lit_bad : (o : Option Lit) (c : Clause) → option_map open_clause (option_map alone_lit o) ≡ Some c → ((l : Lit) → o ≡ Some l → NeverCovered line l) → Bad c.lits
  lit_bad None c is never = absurd (let x = is in cc)
  lit_bad (Some l) c is never = let same : open_clause (l ∷ []) ≡ c = cc in subst (λ (d : Clause). Bad d.lits) same (0, l, refl, never l refl)

  leaf_never : (a : Form) → IsLeafLayer (out-Form a) → ((l : Lit) → plain (view_of a).lit ≡ Some l → NeverCovered line l) → NeverReached line a
  leaf_never a leaf never =
      path_cases (Along a) (record {
        leaf = λ c is. lit_bad (plain (view_of a).lit) c (sym (reached-Leaf a) ∙ is) never;
        pick = λ k p c is. absurd (nothing_there _ c (reached-Pick k p a ∙ no_pick k (reached p) (out-Form a) leaf) is);
        each = λ ps c is. absurd (nothing_there _ c (reached-Each ps a ∙ no_each (map reached ps) (out-Form a) leaf) is);
        under = λ p c is. absurd (nothing_there _ c (reached-Under p a ∙ no_under (reached p) (out-Form a) leaf) is);
      })

  -- as code meets the formulas
  pub and_told : (form : Form) (members lent : List Form) → form ≡ And members → lent ≡ members → NoneReached line lent → NeverReached line form
  and_told form members lent is same none = subst (NeverReached line) (sym is) (and_never members (subst (NoneReached line) same none))

  pub or_told : (form : Form) (members lent : List Form) → form ≡ Or members → lent ≡ members → OneUnreached line lent → NeverReached line form
  or_told form members lent is same one = subst (NeverReached line) (sym is) (or_never members (subst (OneUnreached line) same one))

  pub all_told : {s : ℕ} (form body lent : Form) → form ≡ All s body → lent ≡ body → NeverReached line lent → NeverReached line form
  all_told form body lent is same never = subst (NeverReached line) (sym is) (all_never _ body (subst (NeverReached line) same never))

  pub leaf_told : (form : Form) → IsLeafForm form → ((l : Lit) → plain (view_of form).lit ≡ Some l → NeverCovered line l) → NeverReached line form
  leaf_told form is never = leaf_never form (leaf_form line form is).layer never

  pub lit_told : (found seen : Option Lit) (lit : Lit) → found ≡ Some lit → found ≡ seen → NeverCovered line lit → (l : Lit) → seen ≡ Some l → NeverCovered line l
  lit_told found seen lit e f never l g = let same : lit ≡ l = cc in subst (NeverCovered line) same never
