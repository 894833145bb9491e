-- A substitution and choices that meet the goal of a formula: the choices take a path whose literals the substitution
-- covers.
use Rattle.std.specs.Prelude.{ℕ, ◌≡◌, ◌+◌, List, [], ◌∷◌, ◌++◌, length, map, reverse, Option, Some, None, slice_get, refl}
use Rattle.std.specs.List.{AllByRecursion}
use Rattle.std.specs.Option.{option_map}
use Rattle.std.proofs.Common.{ap, sym, subst, ◌∙◌, arith, zero, suc, append_assoc, append-nil, length-append}
use Rattle.std.proofs.lemmas.List.{reverse-append, length-reverse}
use Rattle.std.proofs.lemmas.Option.{some_pair_parts}
use Rattle.fof_terms.specs.Vocabulary.{Vocabulary}
use Rattle.fof_terms.specs.declared.term.Term.{Term, Var}
use Rattle.fof_terms.proofs.Induction.{form_induction}
use Rattle.fof_terms.specs.Sorts.{sort_of_term}
use Rattle.fof_terms.specs.declared.form.Form.{Form, Atom, Eq, Not, And, Or, Imp, Iff, All, Ex}
use Rattle.fof_terms.specs.declared.form.Form.TheViews.{outs-And, outs-Or, outs-All}
use Rattle.clause_form.specs.declared.path.Path.{Under}
use Rattle.clause_form.specs.declared.clause.Lit.{Lit}
use Rattle.clause_form.specs.declared.clause.Clause.{Clause}
use Rattle.clause_form.specs.ClauseView.{view_of, alone_lit, open_clause, within}
use Rattle.clause_form.specs.Covers.{lit_image, IsCovered}
use Rattle.clause_form.specs.Images.{image}
use Rattle.clause_form.proofs.ImagesFacts.{image-Var}
use Rattle.clause_form.specs.Paths.{plain, reached, beside, all_beside, one_more, each_reaches, at_member, pick_in, each_in, under_in}
use Rattle.unify_terms.specs.declared.goal.Goal.{Same}
use Rattle.unify_terms.specs.declared.pair.Pair.{Pair}
use Rattle.unify_terms.specs.Goals.{each_of, one_of, chosen_way, asked}
use Rattle.unify_terms.proofs.GoalsFacts.{asked-All, asked-Any}
use Rattle.unify_terms.specs.Substitution.{image_at}
use Rattle.unify_terms.specs.Unifiers.{Unifies}
use Rattle.substitution_search.specs.CoverSearch.{Taking, Taken, TakenAll, Opening, sorts_of_all, goals_from, over, down, named, goal_of_lit, later, take_leaf, take_at, with_choices, take_pick, first_taken, take_each, all_taken, with_sort, opened_and, opened_or, opened_all, opening}
use Rattle.substitution_search.proofs.CoverSearchFacts.{opening-And, opening-Or, opening-All}
use Rattle.clause_rules.specs.Ways.{cover_ways}
use Rattle.substitution_search.proofs.Covering.{cover_forth}
use Rattle.substitution_search.proofs.Meeting.{chosen_is, need_is, has_way, then_is, unifies_parts}
use Rattle.rule_steps.proofs.Named.{over_two, beside_images, named_image, one_name, down_length, down_both}
use Rattle.substitution_search.proofs.Openings.{IsLeaf, atom_leaf, eq_leaf, not_leaf, imp_leaf, iff_leaf, ex_leaf}
use Rattle.substitution_search.proofs.PathCases.{reached-Leaf, reached-Pick, reached-Each, reached-Under}
use Rattle.substitution_search.proofs.Placed.{Has, first_image, after_first, has_first, has_second, Typed, typed_length, typed_both, typed_parts}
use Rattle.clause_rules.proofs.ListPlaces.{reverse_cons}

never : (choices : List ℕ) (pairs : List Pair) (rest : List ℕ) → one_of [] choices ≡ Some (pairs, rest) → ⊥
never [] pairs rest e = cc
never (k ∷ cs) pairs rest e = cc

rest_is : (need : List (List Pair)) (choices : List ℕ) (ps : List Pair) (left : List ℕ) → one_of (map asked (map Same need)) choices ≡ Some (ps, left) → later choices ≡ left
rest_is need [] ps left e = cc
rest_is need (k ∷ cs) ps left e = (chosen_is need k cs ps left e).3

pub all_both : {X : Type 0} (P : X → Type 0) (xs ys : List X) → AllByRecursion P xs → AllByRecursion P ys → AllByRecursion P (xs ++ ys)
all_both P [] ys h g = g
all_both P (x ∷ xs) ys h g = (h.0, all_both P xs ys h.1 g)

module _ (v : Vocabulary) (target : List ℕ) (line : List Lit) (images : List Term) where
  abbrev I : Term → Term
  I = image (image_at images)

  abbrev pub Good : List Lit → Type 0
  Good lits = AllByRecursion (IsCovered (map (lit_image (image_at images)) line)) lits

  -- what names stand for
  abbrev pub meaning : List Term → ℕ → Term
  meaning env k = image (image_at images) (over env Var k)

  -- The path that was taken reaches a clause all of whose literals are covered, with these terms for its variables.
  pub record Found (a : Form) (env own : List Term) (w : Taking) (rest : List ℕ) (r : Taken) : Type 0 where
    pub clause : Clause
    pub terms : List Term
    pub reaches : reached r.path a ≡ Some clause
    pub typed : Typed v target terms (reverse clause.sorts)
    pub covered : Good (map (lit_image (over terms (meaning env))) clause.lits)
    pub choices : r.rest.choices ≡ rest
    pub sorts : r.rest.sorts ≡ w.sorts ++ clause.sorts
    pub lits : r.rest.lits ≡ w.lits ++ map (lit_image (over (down (length w.sorts) (length clause.sorts)) (over own Var))) clause.lits

  record FoundAll (as_ : List Form) (env own : List Term) (w : Taking) (rest : List ℕ) (r : TakenAll) : Type 0 where
    clauses : List Clause
    terms : List Term
    reaches : each_reaches (map reached r.paths) as_ ≡ Some clauses
    typed : Typed v target terms (reverse (all_beside clauses).sorts)
    covered : Good (map (lit_image (over terms (meaning env))) (all_beside clauses).lits)
    choices : r.rest.choices ≡ rest
    sorts : r.rest.sorts ≡ w.sorts ++ (all_beside clauses).sorts
    lits : r.rest.lits ≡ w.lits ++ map (lit_image (over (down (length w.sorts) (length (all_beside clauses).sorts)) (over own Var))) (all_beside clauses).lits

  abbrev MetBy : Form → Opening → Type 0
  MetBy a o = (n : ℕ) (env own ys : List Term) (w : Taking) (pairs : List Pair) (rest : List ℕ) → Has images n ys → Typed v target ys o.sorts → asked (o.goal n env) w.choices ≡ Some (pairs, rest) → Unifies images pairs → Found a env own w rest (o.take own w)

  abbrev pub Met : Form → Type 0
  Met a = MetBy a (opening line a)

  leaf_by : (a : Form) (l : Option Lit) → plain (view_of a).lit ≡ l → (env own : List Term) (w : Taking) (pairs : List Pair) (rest : List ℕ) → asked (goal_of_lit line env l) w.choices ≡ Some (pairs, rest) → Unifies images pairs → Found a env own w rest (take_leaf l own w)
  leaf_by a None e env own w pairs rest asks u = absurd (never w.choices pairs rest (sym (ap (λ g. g w.choices) (asked-Any [])) ∙ asks))
  leaf_by a (Some l) e env own w pairs rest asks u =
      let need = cover_ways line (named env l) in
      let met : one_of (map asked (map Same need)) w.choices ≡ Some (pairs, rest) = sym (ap (λ g. g w.choices) (asked-Any (map Same need))) ∙ asks in
      let here = need_is need w.choices pairs rest met in
      let covered = cover_forth images line (named env l) (has_way images need here.0 pairs here.1 u) in
      record {
        clause = open_clause (l ∷ []);
        terms = [];
        reaches = reached-Leaf a ∙ ap (λ (o : Option Lit). option_map open_clause (option_map alone_lit o)) e;
        typed = tt;
        covered = (subst (IsCovered (map (lit_image (image_at images)) line)) (named_image (image_at images) (over env Var) l) covered, tt);
        choices = rest_is need w.choices pairs rest met;
        sorts = sym (append-nil w.sorts);
        lits = refl;
      }

  leaf_met : (a : Form) → IsLeaf line a → Met a
  leaf_met a leaf = subst (MetBy a) (sym leaf.opened) (λ n env own ys w pairs rest has typed asks u. leaf_by a (plain (view_of a).lit) refl env own w pairs rest asks u)

  all_found : (a : Form) (as_ : List Form) (env own : List Term) (w : Taking) (mid rest : List ℕ) (r : Taken) (q : TakenAll) → Found a env own w mid r → FoundAll as_ env own r.rest rest q → FoundAll (a ∷ as_) env own w rest (first_taken r q)
  all_found a as_ env own w mid rest r q h g =
      let c = h.clause in
      let d = all_beside g.clauses in
      let c_size : length h.terms ≡ length c.sorts = typed_length v target h.terms (reverse c.sorts) h.typed ∙ length-reverse c.sorts in
      let d_size : length g.terms ≡ length d.sorts = typed_length v target g.terms (reverse d.sorts) g.typed ∙ length-reverse d.sorts in
      let m = length w.sorts in
      let n = length c.sorts in
      let j = length d.sorts in
      let moved : length r.rest.sorts ≡ m + n = ap length h.sorts ∙ length-append w.sorts c.sorts in
      let names : down m (length (c.sorts ++ d.sorts)) ≡ down (m + n) j ++ down m n = ap (down m) (length-append c.sorts d.sorts) ∙ down_both m n j in
      let both = beside_images c d (down m n) (down (m + n) j) (over own Var) (down_length m n) (down_length (m + n) j) in
      record {
        clauses = c ∷ g.clauses;
        terms = g.terms ++ h.terms;
        reaches = ap (λ o. one_more o (each_reaches (map reached q.paths) as_)) h.reaches ∙ ap (one_more (Some c)) g.reaches;
        typed = subst (Typed v target (g.terms ++ h.terms)) (sym (reverse-append c.sorts d.sorts)) (typed_both v target g.terms h.terms (reverse d.sorts) (reverse c.sorts) g.typed h.typed);
        covered = subst Good (sym (beside_images c d h.terms g.terms (meaning env) c_size d_size)) (all_both _ _ _ h.covered g.covered);
        choices = g.choices;
        sorts = g.sorts ∙ ap (λ ss. ss ++ d.sorts) h.sorts ∙ append_assoc w.sorts c.sorts d.sorts;
        lits = g.lits ∙ ap (λ k. r.rest.lits ++ map (lit_image (over (down k j) (over own Var))) d.lits) moved
            ∙ ap (λ ls. ls ++ map (lit_image (over (down (m + n) j) (over own Var))) d.lits) h.lits
            ∙ append_assoc w.lits (map (lit_image (over (down m n) (over own Var))) c.lits) (map (lit_image (over (down (m + n) j) (over own Var))) d.lits)
            ∙ ap (λ ls. w.lits ++ ls) (sym both)
            ∙ ap (λ xs. w.lits ++ map (lit_image (over xs (over own Var))) (beside c d).lits) (sym names);
      }

  abbrev MetAll : List Form → List Opening → Type 0
  MetAll as_ os = (n : ℕ) (env own ys : List Term) (w : Taking) (pairs : List Pair) (rest : List ℕ) → Has images n ys → Typed v target ys (sorts_of_all os) → each_of (map asked (goals_from os n env)) w.choices ≡ Some (pairs, rest) → Unifies images pairs → FoundAll as_ env own w rest (take_each os own w)

  each_met : (as_ : List Form) → AllByRecursion Met as_ → MetAll as_ (map (opening line) as_)
  each_met [] all n env own ys w pairs rest has typed asks u = record {
    clauses = [];
    terms = [];
    reaches = refl;
    typed = tt;
    covered = tt;
    choices = (some_pair_parts [] pairs w.choices rest asks).1;
    sorts = sym (append-nil w.sorts);
    lits = sym (append-nil w.lits);
  }
  each_met (a ∷ as_) all n env own ys w pairs rest has typed asks u =
      let o = opening line a in
      let os = map (opening line) as_ in
      let parts = then_is (asked (o.goal n env) w.choices) (each_of (map asked (goals_from os (n + length o.sorts) env))) pairs rest asks in
      let both = unifies_parts images parts.0 parts.2 (subst (Unifies images) parts.5 u) in
      let split = typed_parts v target ys o.sorts (sorts_of_all os) typed in
      let there : Has images n (split.first ++ split.second) = subst (Has images n) split.is has in
      let size = typed_length v target split.first o.sorts split.first_typed in
      let behind : Has images (n + length o.sorts) split.second = subst (λ m. Has images (n + m) split.second) size (has_second images n split.first split.second there) in
      let first = all.0 n env own split.first w parts.0 parts.1 (has_first images n split.first split.second there) split.first_typed parts.3 both.0 in
      all_found a as_ env own w parts.1 rest (o.take own w) (take_each os own (o.take own w).rest) first
      (each_met as_ all.1 (n + length o.sorts) env own split.second (o.take own w).rest parts.2 rest behind split.second_typed (ap (each_of (map asked (goals_from os (n + length o.sorts) env))) first.choices ∙ parts.4) both.1)

  record Picked (as_ : List Form) (k : ℕ) (env own : List Term) (w : Taking) (rest : List ℕ) : Type 0 where
    member : Form
    there : slice_get as_ k ≡ Some member
    opened_there : slice_get (map (opening line) as_) k ≡ Some (opening line member)
    found : Found member env own w rest ((opening line member).take own w)

  pick_met : (as_ : List Form) → AllByRecursion Met as_ → (k n : ℕ) (env own ys : List Term) (w : Taking) (pairs : List Pair) (rest : List ℕ) → Has images n ys → Typed v target ys (sorts_of_all (map (opening line) as_))
      → chosen_way (slice_get (map asked (goals_from (map (opening line) as_) n env)) k) w.choices ≡ Some (pairs, rest) → Unifies images pairs → Picked as_ k env own w rest
  pick_met [] all k n env own ys w pairs rest has typed asks u = absurd (let e = asks in cc)
  pick_met (a ∷ as_) all zero n env own ys w pairs rest has typed asks u =
      let o = opening line a in
      let split = typed_parts v target ys o.sorts (sorts_of_all (map (opening line) as_)) typed in
      let there : Has images n (split.first ++ split.second) = subst (Has images n) split.is has in
      record {
        member = a;
        there = refl;
        opened_there = refl;
        found = all.0 n env own split.first w pairs rest (has_first images n split.first split.second there) split.first_typed asks u;
      }
  pick_met (a ∷ as_) all (suc k) n env own ys w pairs rest has typed asks u =
      let o = opening line a in
      let split = typed_parts v target ys o.sorts (sorts_of_all (map (opening line) as_)) typed in
      let there : Has images n (split.first ++ split.second) = subst (Has images n) split.is has in
      let size = typed_length v target split.first o.sorts split.first_typed in
      let behind : Has images (n + length o.sorts) split.second = subst (λ m. Has images (n + m) split.second) size (has_second images n split.first split.second there) in
      let rec = pick_met as_ all.1 k (n + length o.sorts) env own split.second w pairs rest behind split.second_typed asks u in
      record { member = rec.member; there = rec.there; opened_there = rec.opened_there; found = rec.found }

  and_found : (as_ : List Form) (k : ℕ) (cs : List ℕ) (env own : List Term) (w : Taking) (rest : List ℕ) → Picked as_ k env own (with_choices w cs) rest → Found (And as_) env own w rest (take_at (slice_get (map (opening line) as_) k) k own (with_choices w cs))
  and_found as_ k cs env own w rest p =
      let f = p.found in
      let path = ((opening line p.member).take own (with_choices w cs)).path in
      subst (λ o. Found (And as_) env own w rest (take_at o k own (with_choices w cs))) (sym p.opened_there) (record {
        clause = f.clause;
        terms = f.terms;
        reaches = reached-Pick k path (And as_) ∙ ap (pick_in k (reached path)) (outs-And as_) ∙ ap (at_member (reached path)) p.there ∙ f.reaches;
        typed = f.typed;
        covered = f.covered;
        choices = f.choices;
        sorts = f.sorts;
        lits = f.lits;
      })

  and_by : (as_ : List Form) → AllByRecursion Met as_ → (cs : List ℕ) (n : ℕ) (env own ys : List Term) (w : Taking) (pairs : List Pair) (rest : List ℕ) → Has images n ys → Typed v target ys (sorts_of_all (map (opening line) as_))
      → one_of (map asked (goals_from (map (opening line) as_) n env)) cs ≡ Some (pairs, rest) → Unifies images pairs → Found (And as_) env own w rest (take_pick (map (opening line) as_) own w cs)
  and_by as_ all [] n env own ys w pairs rest has typed asks u = absurd (let e = asks in cc)
  and_by as_ all (k ∷ cs) n env own ys w pairs rest has typed asks u =
      and_found as_ k cs env own w rest (pick_met as_ all k n env own ys (with_choices w cs) pairs rest has typed asks u)

  and_met : (as_ : List Form) → AllByRecursion Met as_ → MetBy (And as_) (opened_and (map (opening line) as_))
  and_met as_ all n env own ys w pairs rest has typed asks u =
      and_by as_ all w.choices n env own ys w pairs rest has typed (sym (ap (λ g. g w.choices) (asked-Any (goals_from (map (opening line) as_) n env))) ∙ asks) u

  or_found : (as_ : List Form) (env own : List Term) (w : Taking) (rest : List ℕ) (q : TakenAll) → FoundAll as_ env own w rest q → Found (Or as_) env own w rest (all_taken q)
  or_found as_ env own w rest q h = record {
    clause = all_beside h.clauses;
    terms = h.terms;
    reaches = reached-Each q.paths (Or as_) ∙ ap (each_in (map reached q.paths)) (outs-Or as_) ∙ ap (option_map all_beside) h.reaches;
    typed = h.typed;
    covered = h.covered;
    choices = h.choices;
    sorts = h.sorts;
    lits = h.lits;
  }

  or_met : (as_ : List Form) → AllByRecursion Met as_ → MetBy (Or as_) (opened_or (map (opening line) as_))
  or_met as_ all n env own ys w pairs rest has typed asks u =
      or_found as_ env own w rest _ (each_met as_ all n env own ys w pairs rest has typed (sym (ap (λ g. g w.choices) (asked-All (goals_from (map (opening line) as_) n env))) ∙ asks) u)

  under_found : (s : ℕ) (a : Form) (n : ℕ) (y : Term) (env own : List Term) (w : Taking) (rest : List ℕ) (r : Taken) → image_at images n ≡ y → sort_of_term v target y ≡ Some s → Found a (Var n ∷ env) (Var (length w.sorts) ∷ own) (with_sort w s) rest r → Found (All s a) env own w rest (record { path = Under r.path; rest = r.rest })
  under_found s a n y env own w rest r is sort f =
      let c = f.clause in
      let m = length w.sorts in
      let value : I (Var n) ≡ y = image-Var (image_at images) n ∙ is in
      let means : meaning (Var n ∷ env) ≡ over (y ∷ []) (meaning env) = one_name I (Var n) env ∙ ap (λ x. over (x ∷ []) (meaning env)) value in
      let images_are : over f.terms (meaning (Var n ∷ env)) ≡ over (f.terms ++ y ∷ []) (meaning env) = ap (over f.terms) means ∙ sym (over_two f.terms (y ∷ []) (meaning env)) in
      let one_up : length (w.sorts ++ s ∷ []) ≡ m + 1 = length-append w.sorts (s ∷ []) in
      let count : suc (length c.sorts) ≡ 1 + length c.sorts = omega arith in
      let here : m + 0 ≡ m = omega arith in
      let names : down m (suc (length c.sorts)) ≡ down (m + 1) (length c.sorts) ++ Var m ∷ [] = ap (down m) count ∙ down_both m 1 (length c.sorts) ∙ ap (λ k. down (m + 1) (length c.sorts) ++ Var k ∷ []) here in
      let own_is : over (Var m ∷ own) Var ≡ over (Var m ∷ []) (over own Var) = one_name (λ t. t) (Var m) own in
      let renamed : over (down (length (w.sorts ++ s ∷ [])) (length c.sorts)) (over (Var m ∷ own) Var) ≡ over (down m (suc (length c.sorts))) (over own Var) =
      ap (λ k. over (down k (length c.sorts)) (over (Var m ∷ own) Var)) one_up ∙ ap (over (down (m + 1) (length c.sorts))) own_is
      ∙ sym (over_two (down (m + 1) (length c.sorts)) (Var m ∷ []) (over own Var)) ∙ ap (λ xs. over xs (over own Var)) (sym names) in
      record {
        clause = within s c;
        terms = f.terms ++ y ∷ [];
        reaches = reached-Under r.path (All s a) ∙ ap (under_in (reached r.path)) (outs-All s a) ∙ ap (option_map (within s)) f.reaches;
        typed = subst (Typed v target (f.terms ++ y ∷ [])) (sym (reverse_cons s c.sorts)) (typed_both v target f.terms (y ∷ []) (reverse c.sorts) (s ∷ []) f.typed (sort, tt));
        covered = subst (λ g. Good (map (lit_image g) c.lits)) images_are f.covered;
        choices = f.choices;
        sorts = f.sorts ∙ append_assoc w.sorts (s ∷ []) c.sorts;
        lits = f.lits ∙ ap (λ g. w.lits ++ map (lit_image g) c.lits) renamed;
      }

  under_met : (s : ℕ) (a : Form) → Met a → MetBy (All s a) (opened_all s (opening line a))
  under_met s a ih n env own [] w pairs rest has typed asks u = absurd typed
  under_met s a ih n env own (y ∷ ys) w pairs rest has typed asks u =
      under_found s a n y env own w rest ((opening line a).take (Var (length w.sorts) ∷ own) (with_sort w s)) (first_image images n y ys has) typed.0
      (ih (suc n) (Var n ∷ env) (Var (length w.sorts) ∷ own) ys (with_sort w s) pairs rest (after_first images n y ys has) typed.1 asks u)

  pub met : (a : Form) → Met a
  met = form_induction Met (record {
    atom = λ p ts. leaf_met (Atom p ts) (atom_leaf line p ts);
    eq = λ l r. leaf_met (Eq l r) (eq_leaf line l r);
    not = λ a ih. leaf_met (Not a) (not_leaf line a);
    and = λ as_ all. subst (MetBy (And as_)) (sym (opening-And line as_)) (and_met as_ all);
    or = λ as_ all. subst (MetBy (Or as_)) (sym (opening-Or line as_)) (or_met as_ all);
    imp = λ a b ih jh. leaf_met (Imp a b) (imp_leaf line a b);
    iff = λ a b ih jh. leaf_met (Iff a b) (iff_leaf line a b);
    all = λ s a ih. subst (MetBy (All s a)) (sym (opening-All line s a)) (under_met s a ih);
    ex = λ s a ih. leaf_met (Ex s a) (ex_leaf line s a);
  })
