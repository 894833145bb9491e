-- A clause that a path reaches in a parent's normal form, and a line that covers it.
use Rattle.std.specs.Prelude.{ℕ, ◌≡◌, ◌≤◌, true, false, List, [], ◌∷◌, ◌++◌, length, map, take, drop, reverse, get_or, slice_get, Some, refl}
use Rattle.fof_terms.specs.Scope.{scope_sorts}
use Rattle.fof_terms.specs.declared.sorting.Scope.{Outside}
use Rattle.fof_terms.proofs.ScopeFacts.{scope_sorts-Outside}
use Rattle.std.specs.Borrow.{Bor}
use Rattle.std.proofs.Common.{ap, sym, subst, ◌∙◌, arith, append-nil}
use Rattle.std.proofs.lemmas.List.{length-reverse}
use Rattle.fof_terms.specs.declared.term.Term.{Term}
use Rattle.fof_terms.specs.declared.form.Form.{Form, Imp}
use Rattle.fof_terms.specs.Vocabulary.{Vocabulary}
use Rattle.fof_terms.proofs.Moved.{closed_anywhere}
use Rattle.fof_terms.specs.Sorts.{binder_depth, IsScope, Sorted}
use Rattle.fof_terms.proofs.Scoped.{sorted_of_imp}
use Rattle.clause_form.specs.declared.path.Parent.{Parent}
use Rattle.clause_form.specs.declared.path.Path.{Path}
use Rattle.clause_form.specs.declared.clause.Lit.{Lit}
use Rattle.clause_form.specs.declared.clause.Clause.{Clause}
use Rattle.clause_form.specs.ClauseView.{closed, closed_by, form_of_lits}
use Rattle.clause_form.specs.Covers.{lit_image, scope_of, AreSorted}
use Rattle.clause_form.specs.Found.{IsRoomy}
use Rattle.clause_form.specs.Images.{IsImages}
use Rattle.clause_form.specs.Norm.{norm_of}
use Rattle.clause_form.proofs.NormSize.{norm_small}
use Rattle.norm_proofs.proofs.RoutesFacts.{roomy_start}
use Rattle.clause_form.specs.Paths.{reached}
use Rattle.clause_form.specs.Sizes.{norm_size_of}
use Rattle.unify_terms.specs.Substitution.{image_at}
use Rattle.clause_rules.specs.Justified.{Shows}
use Rattle.clause_rules.specs.Steps.{AreCovered, IsJoint, IsReady, images_of_parents, instances}
use Rattle.clause_rules.specs.declared.just.Just.TheVariants.{Cover}
use Rattle.kernel.specs.Statements.{Statements}
use Rattle.kernel.specs.Proves.{Proves}
use Rattle.kernel.proofs.Building.{by_line, shown_sorted}
use Rattle.kernel.specs.declared.proof.Proof.{Proof, Line}
use Rattle.norm_proofs.specs.Placed.{SortedSomewhere}
use Rattle.clause_proofs.specs.declared.opening.Opened.{Opened}
use Rattle.clause_proofs.specs.declared.premises.Premise.{Premise}
use Rattle.clause_proofs.specs.Bodies.{body_of, HasClause}
use Rattle.clause_proofs.specs.Premises.{IsPremiseBy}
use Rattle.cover_proofs.specs.code.Facts.{CoversIn, IsClosed, IsFact, IsFactUpTo, ShowsAnywhere}
use Rattle.clause_proofs.specs.Refuting.{theory_of, ShowsBody}
use Rattle.clause_proofs.proofs.BodySorts.{under_closed, body_sorted}
use Rattle.clause_proofs.proofs.LineGoals.{Exist, closed_depth}
use Rattle.cover_proofs.proofs.NormLines.{Forth, Applies}
use Rattle.clause_proofs.proofs.ReadyParents.{full, parent_at}
use Rattle.clause_proofs.proofs.ImageParts.{part_length, part_within, part_images, part_lits, part_sorted}

-- how its closed formula has a clause
lone_has : (c : Clause) (lits : List Lit) → c.lits ≡ lits → length lits ≡ 1 → HasClause (closed c) c false
lone_has c [] e n = absurd (omega (arith, n))
lone_has c (l ∷ []) e n = record { is = ap (closed_by c.sorts) (ap form_of_lits e ∙ sym (ap (body_of false) e)); alone = λ no. ap length e ∙ n }
lone_has c (l ∷ k ∷ lits) e n = absurd (omega (arith, n))

pub one_has : (c : Clause) → length c.lits ≡ 1 → HasClause (closed c) c false
one_has c n = lone_has c c.lits refl n

or_has : (c : Clause) (lits : List Lit) → c.lits ≡ lits → (length lits ≡ 1 → ⊥) → HasClause (closed c) c true
or_has c [] e n = record { is = ap (closed_by c.sorts) (ap form_of_lits e ∙ sym (ap (body_of true) e)); alone = λ no. cc }
or_has c (l ∷ []) e n = absurd (n refl)
or_has c (l ∷ k ∷ lits) e n = record { is = ap (closed_by c.sorts) (ap form_of_lits e ∙ sym (ap (body_of true) e)); alone = λ no. cc }

pub more_has : (c : Clause) → (length c.lits ≡ 1 → ⊥) → HasClause (closed c) c true
more_has c n = or_has c c.lits refl n

-- a normal form and what a path reaches in it
abbrev pub Along : Form → Path → Proof → Type 0
Along norm path p = (t : Statements) (v : List ℕ) (h : List Form) (c : Clause) → length v ≤ 1000000000 → Sorted t.vocabulary v norm → reached path norm ≡ Some c → Proves t v h p (Imp norm (closed c))

pub norm_shown : (n : ℕ) (w : Vocabulary) (parent : Parent) (a : Form) (own forth made : Proof) → n ≤ 1000000000 → Sorted w [] a → Forth a forth → Applies forth own made → IsFactUpTo n w parent a own → IsFactUpTo n w parent (norm_of true a) made
norm_shown n w parent a own forth made le sorted f apply fact = record {
  sorted = (sorted_of_imp w [] 2147483647 a (norm_of true a) (shown_sorted (theory_of w []) [] [] forth _ (f (theory_of w []) [] [] (omega arith) sorted))).1;
  shows = λ formulas there v h sc few.
      let t = theory_of w formulas in
      apply t v h a (norm_of true a) (f t v h (omega arith) (closed_anywhere w v 2147483647 a sc sorted)) (fact.shows formulas there v h sc few);
}

-- the parent itself
pub parent_shown : (n : ℕ) (w : Vocabulary) (parent : Parent) (own : Proof) → own ≡ Line parent.number → IsReady w parent.form → IsFactUpTo n w parent parent.form own
parent_shown n w parent own is ready =
    let sorted = full w parent.form ready in
    record {
      sorted = sorted;
      shows = λ formulas there v h sc few. rw is (by_line (theory_of w formulas) v h parent.number parent.form (closed_anywhere w v 2147483647 parent.form sc sorted) there);
    }

module _ (w : Vocabulary) (parent : Parent) (a made : Form) (own : Proof) (small : norm_size_of a ≤ 100000) (same : made ≡ norm_of true a) (fact : IsFact w parent (norm_of true a) own) where
  pub made_small : norm_size_of made ≤ 100000
  made_small = omega (arith, ap norm_size_of same, norm_small a true, small)

  made_fact : IsFact w parent made own
  made_fact = subst (λ (x : Form). IsFact w parent x own) (sym same) fact

  pub made_somewhere : SortedSomewhere made
  made_somewhere = (w, [], omega arith, made_fact.sorted)

  pub made_roomy : IsRoomy made
  made_roomy = roomy_start made made_small made_somewhere

  pub along_shown : (path : Path) (along last : Proof) (c : Clause) → Along made path along → reached path made ≡ Some c → Applies along own last → IsFact w parent (closed c) last
  along_shown path along last c g is apply = record {
    sorted = (sorted_of_imp w [] 2147483647 made (closed c) (shown_sorted (theory_of w []) [] [] along _ (g (theory_of w []) [] [] c (omega arith) made_fact.sorted is))).1;
    shows = λ formulas there v h sc few.
        apply (theory_of w formulas) v h made (closed c) (g (theory_of w formulas) v h c (omega arith) (closed_anywhere w v 2147483647 made sc made_fact.sorted) is) (made_fact.shows formulas there v h sc few);
  }

pub few_there : (lent : Bor (List ℕ)) (sorts : List ℕ) → lent.now ≡ sorts → length sorts ≤ 900000000 → length (scope_sorts (Outside lent)) ≤ 900000000
few_there lent sorts e few = omega (arith, ap length (scope_sorts-Outside lent), length-reverse lent.now, ap length e)

-- a clause whose closed formula is well-sorted
module _ (w : Vocabulary) (o : Opened) (is : IsClosed w o) where
  body_there : Sorted w (reverse o.clause.sorts) (body_of o.is_or o.clause.lits)
  body_there =
      let depth = closed_depth o.clause.sorts (body_of o.is_or o.clause.lits) in
      let inner = under_closed w o.clause.sorts [] (body_of o.is_or o.clause.lits) (omega (arith, depth, ap binder_depth is.has.is, is.sorted.few_binders)) (subst (Sorted w []) is.has.is is.sorted) in
      subst (λ (ss : List ℕ). Sorted w ss (body_of o.is_or o.clause.lits)) (append-nil (reverse o.clause.sorts)) inner

  lits_there : AreSorted w (reverse o.clause.sorts) o.clause.lits
  lits_there = body_sorted w (reverse o.clause.sorts) o.is_or o.clause.lits is.has.alone body_there

  pub clause_exists : (ls rs more : List ℕ) → more ≡ reverse ls ++ reverse rs → rs ≡ [] → ls ≡ o.clause.sorts → Exist w more
  clause_exists ls rs more m none g =
      let own : Exist w (reverse o.clause.sorts ++ []) = subst (Exist w) (sym (append-nil (reverse o.clause.sorts))) body_there.scope_fits.sorts_exist in
      subst (Exist w) (sym (m ∙ ap (λ (ss : List ℕ). reverse ss ++ reverse rs) g ∙ ap (λ (ss : List ℕ). reverse o.clause.sorts ++ reverse ss) none)) own

  module _ (e : Clause) (images : List Term) (joint : IsJoint w e (scope_of o.clause) images) where
    abbrev pub whole : List ℕ
    whole = scope_of e ++ scope_of o.clause

    abbrev pub own_part : List Term
    own_part = take (length o.clause.sorts) (drop (length e.sorts) images)

    whole_is : whole ≡ scope_of e ++ (reverse o.clause.sorts ++ [])
    whole_is = ap (λ (ss : List ℕ). scope_of e ++ ss) (sym (append-nil (reverse o.clause.sorts)))

    front_length : length e.sorts ≡ length (scope_of e)
    front_length = sym (length-reverse e.sorts)

    so_many : length o.clause.sorts ≡ length (reverse o.clause.sorts)
    so_many = sym (length-reverse o.clause.sorts)

    module _ (li : List Term) (eli : li ≡ own_part) (own : Proof) (p : Premise) (hp : IsPremiseBy own o li p) where
      lits_are : p.lits ≡ map (lit_image (image_at own_part)) o.clause.lits
      lits_are = hp.lits ∙ ap (λ (xs : List Term). map (lit_image (image_at xs)) o.clause.lits) eli

      pub premise_covered : AreCovered e.lits (instances (images_of_parents e images) o.clause.lits) → AreCovered e.lits p.lits
      premise_covered covers =
          subst (AreCovered e.lits)
          (part_lits w whole (length e.sorts) images joint (scope_of e) (reverse o.clause.sorts) [] (length e.sorts) (length o.clause.sorts) whole_is front_length so_many (images_of_parents e images) (λ k. refl) o.clause.lits lits_there ∙ sym lits_are) covers

      module _ (v : List ℕ) (here : v ≡ whole) where
        pub premise_sorted : AreSorted w v p.lits
        premise_sorted =
            subst (λ (ss : List ℕ). AreSorted w ss p.lits) (sym here)
            (subst (AreSorted w whole) (sym lits_are) (part_sorted w whole (length e.sorts) images joint (scope_of e) (reverse o.clause.sorts) [] (length e.sorts) (length o.clause.sorts) whole_is front_length so_many o.clause.lits lits_there))

        pub premise_shown : (formulas : List Form) → IsScope w v → length v ≤ 900000000 → ShowsAnywhere w formulas (closed o.clause) own → ShowsBody w v formulas p.is_or p.lits p.part
        premise_shown formulas sc few shows =
            let within = part_within w whole (length e.sorts) images joint (scope_of e) (reverse o.clause.sorts) [] (length e.sorts) (length o.clause.sorts) whole_is front_length so_many in
            let fit = part_images w whole (length e.sorts) images joint (scope_of e) (reverse o.clause.sorts) [] (length e.sorts) (length o.clause.sorts) whole_is front_length so_many in
            hp.shows w v formulas (record {
              form = closed o.clause;
              shows = λ h. shows v h sc few;
              has = is.has;
              size = ap length eli ∙ part_length images (length e.sorts) (length o.clause.sorts) within;
              images_sorted = subst (λ (xs : List Term). IsImages w (scope_of o.clause) v (image_at xs)) (sym eli) (subst (λ (ss : List ℕ). IsImages w (scope_of o.clause) ss (image_at own_part)) (sym here) fit);
              lits_sorted = lits_there;
            })

pub same_reached : (path : Path) (a b : Form) (x c : Clause) → reached path (norm_of true a) ≡ Some x → a ≡ b → reached path (norm_of true b) ≡ Some c → x ≡ c
same_reached path a b x c e same f = let both : Some x ≡ Some c = sym e ∙ ap (λ (y : Form). reached path (norm_of true y)) same ∙ f in cc

-- what the justification shows, of the parent alone
pub covers_in : (w : Vocabulary) (parents : List Parent) (line : Form) (a : ℕ) (path : Path) (images : List Term) (r : Parent) → Shows w parents line (Cover a path images) → r ≡ get_or parents a r → CoversIn w r.form line path images
covers_in w parents line a path images r (c, e, joint, at) is =
    let same : r ≡ at.reaches.parent = parent_at parents a at.reaches.parent r at.reaches.there is in
    record {
      clause = c;
      own = e;
      joint = joint;
      small = rw same at.reaches.small;
      reaches = rw same at.reaches.clause;
      line_clause = at.line_clause;
      covers = at.covers;
    }

pub there_is : (parents : List Parent) (a : ℕ) (p r : Parent) → slice_get parents a ≡ Some p → r ≡ get_or parents a r → slice_get parents a ≡ Some r
there_is parents a p r at is = at ∙ ap Some (sym (parent_at parents a p r at is))
