-- Where a path reaches a clause all of whose literals are covered, the goal of the formula is met, under each
-- substitution that has the right terms for the variables of the formula.
use Rattle.std.specs.Prelude.{ℕ, ◌≡◌, ◌+◌, List, [], ◌∷◌, ◌++◌, length, map, reverse, Option, Some, None, slice_get, refl}
use Rattle.std.specs.List.{AllByRecursion}
use Rattle.std.specs.Option.{option_map}
use Rattle.std.proofs.Common.{ap, sym, subst, ◌∙◌, zero, suc}
use Rattle.std.proofs.lemmas.List.{reverse-append, length-reverse}
use Rattle.fof_terms.specs.Vocabulary.{Vocabulary}
use Rattle.fof_terms.specs.declared.term.Term.{Term, Var}
use Rattle.fof_terms.proofs.Induction.{form_induction}
use Rattle.fof_terms.specs.Sorts.{sort_of_term}
use Rattle.fof_terms.specs.declared.form.Form.{Form, Atom, Eq, Not, And, Or, Imp, Iff, All, Ex}
use Rattle.fof_terms.specs.declared.form.Form.TheViews.{out-Form, outs-And, outs-Or, outs-All}
use Rattle.clause_form.specs.declared.path.Path.{Path, Leaf}
use Rattle.clause_form.specs.declared.clause.Lit.{Lit}
use Rattle.clause_form.specs.declared.clause.Clause.{Clause}
use Rattle.clause_form.specs.ClauseView.{view_of, alone_lit, open_clause, within}
use Rattle.clause_form.specs.Covers.{lit_image, IsCovered}
use Rattle.clause_form.specs.Images.{image}
use Rattle.clause_form.proofs.ImagesFacts.{image-Var}
use Rattle.clause_form.specs.Paths.{plain, reached, all_beside, each_reaches, at_member, pick_in, each_in, under_in}
use Rattle.unify_terms.specs.declared.goal.Goal.{Goal, Same}
use Rattle.unify_terms.specs.declared.pair.Pair.{Pair}
use Rattle.unify_terms.specs.Goals.{each_of, and_then, with_pairs, chosen_way, asked}
use Rattle.unify_terms.proofs.GoalsFacts.{asked-All, asked-Any}
use Rattle.unify_terms.specs.Substitution.{image_at}
use Rattle.unify_terms.specs.Unifiers.{Unifies}
use Rattle.substitution_search.specs.CoverSearch.{Opening, sorts_of_all, goals_from, over, named, goal_of_lit, opened_leaf, opened_and, opened_or, opened_all, opening}
use Rattle.substitution_search.proofs.CoverSearchFacts.{opening-And, opening-Or, opening-All}
use Rattle.clause_rules.specs.Ways.{cover_ways}
use Rattle.substitution_search.proofs.Covering.{cover_back}
use Rattle.substitution_search.proofs.Meeting.{way_of, chosen_there, unifies_both}
use Rattle.rule_steps.proofs.Named.{over_two, beside_images, named_image, one_name}
use Rattle.substitution_search.proofs.Openings.{IsLeaf, no_pick, no_each, no_under, and_no_lit, or_no_lit, all_no_lit, atom_leaf, eq_leaf, not_leaf, imp_leaf, iff_leaf, ex_leaf}
use Rattle.substitution_search.proofs.PathCases.{path_cases, reached-Leaf, reached-Pick, reached-Each, reached-Under}
use Rattle.substitution_search.proofs.Placed.{Has, first_image, after_first, has_first, has_second, Typed, typed_length, typed_both, typed_parts, Inhabited, fillers, inhabited_parts}
use Rattle.clause_rules.proofs.ListPlaces.{nothing_there, mapped, more_parts, reverse_cons}

all_parts : {X : Type 0} (P : X → Type 0) (xs ys : List X) → AllByRecursion P (xs ++ ys) → AllByRecursion P xs × AllByRecursion P ys
all_parts P [] ys h = (tt, h)
all_parts P (x ∷ xs) ys h = let rest = all_parts P xs ys h.1 in ((h.0, rest.0), rest.1)

-- choices under which the goal is met, before others
pub record Asked (images : List Term) (goal : Goal) (rest : List ℕ) : Type 0 where
  pub choices : List ℕ
  pub pairs : List Pair
  pub asks : asked goal choices ≡ Some (pairs, rest)
  pub unifies : Unifies images pairs

record AskedEach (images : List Term) (goals : List Goal) (rest : List ℕ) : Type 0 where
  choices : List ℕ
  pairs : List Pair
  asks : each_of (map asked goals) choices ≡ Some (pairs, rest)
  unifies : Unifies images pairs

record AskedAt (images : List Term) (k : ℕ) (goals : List Goal) (rest : List ℕ) : Type 0 where
  choices : List ℕ
  pairs : List Pair
  asks : chosen_way (slice_get (map asked goals) k) choices ≡ Some (pairs, rest)
  unifies : Unifies images pairs

module _ (v : Vocabulary) (target : List ℕ) (line wanted : List Lit) where
  abbrev Good : List Lit → Type 0
  Good lits = AllByRecursion (IsCovered wanted) lits

  -- the images have the terms, names mean this, and the line's literals become those that are wanted
  pub record Fits (images : List Term) (n : ℕ) (env ys : List Term) (e : ℕ → Term) : Type 0 where
    pub has : Has images n ys
    pub means : (λ k. image (image_at images) (over env Var k)) ≡ e
    pub line_is : map (lit_image (image_at images)) line ≡ wanted

  -- terms for the variables of the formula under which the goal is met, whatever the variables around stand for
  pub record Given (o : Opening) (c : Clause) (xs : List Term) : Type 0 where
    pub terms : List Term
    pub typed : Typed v target terms o.sorts
    pub meets : (e : ℕ → Term) → Good (map (lit_image (over xs e)) c.lits) → (images : List Term) (n : ℕ) (env : List Term) → Fits images n env terms e → (rest : List ℕ) → Asked images (o.goal n env) rest

  record GivenEach (os : List Opening) (cs : List Clause) (xs : List Term) : Type 0 where
    terms : List Term
    typed : Typed v target terms (sorts_of_all os)
    meets : (e : ℕ → Term) → Good (map (lit_image (over xs e)) (all_beside cs).lits) → (images : List Term) (n : ℕ) (env : List Term) → Fits images n env terms e → (rest : List ℕ) → AskedEach images (goals_from os n env) rest

  record GivenAt (k : ℕ) (os : List Opening) (c : Clause) (xs : List Term) : Type 0 where
    terms : List Term
    typed : Typed v target terms (sorts_of_all os)
    meets : (e : ℕ → Term) → Good (map (lit_image (over xs e)) c.lits) → (images : List Term) (n : ℕ) (env : List Term) → Fits images n env terms e → (rest : List ℕ) → AskedAt images k (goals_from os n env) rest

  fits_first : (images : List Term) (n : ℕ) (env xs ys : List Term) (e : ℕ → Term) → Fits images n env (xs ++ ys) e → Fits images n env xs e
  fits_first images n env xs ys e f = record { has = has_first images n xs ys f.has; means = f.means; line_is = f.line_is }

  fits_second : (images : List Term) (n m : ℕ) (env xs ys : List Term) (e : ℕ → Term) → length xs ≡ m → Fits images n env (xs ++ ys) e → Fits images (n + m) env ys e
  fits_second images n m env xs ys e size f = record { has = subst (λ j. Has images (n + j) ys) size (has_second images n xs ys f.has); means = f.means; line_is = f.line_is }

  abbrev GivenBy : Form → Opening → Type 0
  GivenBy a o = (p : Path) (c : Clause) → reached p a ≡ Some c → (xs : List Term) → Typed v target xs (reverse c.sorts) → Inhabited v target o.sorts → Given o c xs

  abbrev pub Gives : Form → Type 0
  Gives a = GivenBy a (opening line a)

  empty_typed : (xs : List Term) (c : Clause) (l : Lit) → open_clause (l ∷ []) ≡ c → Typed v target xs (reverse c.sorts) → xs ≡ []
  empty_typed xs c l e h = go xs (subst (λ (d : Clause). Typed v target xs (reverse d.sorts)) (sym e) h) where
    go : (xs : List Term) → Typed v target xs [] → xs ≡ []
    go [] g = refl
    go (x ∷ xs) g = absurd g

  asks_lit : (images : List Term) (n : ℕ) (env : List Term) (e : ℕ → Term) (l : Lit) → Fits images n env [] e → IsCovered wanted (lit_image e l) → (rest : List ℕ) → Asked images (goal_of_lit line env (Some l)) rest
  asks_lit images n env e l f h rest =
      let need = cover_ways line (named env l) in
      let same : lit_image (image_at images) (named env l) ≡ lit_image e l = named_image (image_at images) (over env Var) l ∙ ap (λ g. lit_image g l) f.means in
      let covered : IsCovered (map (lit_image (image_at images)) line) (lit_image (image_at images) (named env l)) =
      subst (λ ls. IsCovered ls (lit_image (image_at images) (named env l))) (sym f.line_is) (subst (IsCovered wanted) (sym same) h) in
      let way = way_of images need (cover_back images line (named env l) covered) in
      record {
        choices = way.0 ∷ rest;
        pairs = way.1;
        asks = ap (λ g. g (way.0 ∷ rest)) (asked-Any (map Same need)) ∙ chosen_there need way.0 rest way.1 way.2;
        unifies = way.3;
      }

  lit_given : (o : Option Lit) (c : Clause) → option_map open_clause (option_map alone_lit o) ≡ Some c → (xs : List Term) → Typed v target xs (reverse c.sorts) → (e : ℕ → Term) → Good (map (lit_image (over xs e)) c.lits)
      → (images : List Term) (n : ℕ) (env : List Term) → Fits images n env [] e → (rest : List ℕ) → Asked images (goal_of_lit line env o) rest
  lit_given None c is xs typed e good images n env f rest = absurd (let x = is in cc)
  lit_given (Some l) c is xs typed e good images n env f rest =
      let same : open_clause (l ∷ []) ≡ c = cc in
      let none : xs ≡ [] = empty_typed xs c l same typed in
      let one : Good (map (lit_image (over xs e)) (l ∷ [])) = subst (λ (d : Clause). Good (map (lit_image (over xs e)) d.lits)) (sym same) good in
      asks_lit images n env e l f (subst (λ ys. IsCovered wanted (lit_image (over ys e) l)) none one.0) rest

  -- each kind of path
  abbrev AlongBy : Form → Opening → Path → Type 0
  AlongBy a o p = (c : Clause) → reached p a ≡ Some c → (xs : List Term) → Typed v target xs (reverse c.sorts) → Inhabited v target o.sorts → Given o c xs

  leaf_gives : (a : Form) → IsLeaf line a → Gives a
  leaf_gives a leaf =
      subst (GivenBy a) (sym leaf.opened)
      (path_cases (AlongBy a (opened_leaf line (view_of a))) (record {
        leaf = λ c is xs typed inh. record {
          terms = [];
          typed = tt;
          meets = λ e good images n env f rest. lit_given (plain (view_of a).lit) c (sym (reached-Leaf a) ∙ is) xs typed e good images n env f rest;
        };
        pick = λ k p c is. absurd (nothing_there _ c (reached-Pick k p a ∙ no_pick k (reached p) (out-Form a) leaf.layer) is);
        each = λ ps c is. absurd (nothing_there _ c (reached-Each ps a ∙ no_each (map reached ps) (out-Form a) leaf.layer) is);
        under = λ p c is. absurd (nothing_there _ c (reached-Under p a ∙ no_under (reached p) (out-Form a) leaf.layer) is);
      }))

  no_leaf : (a : Form) (c : Clause) → plain (view_of a).lit ≡ None → reached Leaf a ≡ Some c → ⊥
  no_leaf a c none is = nothing_there _ c (reached-Leaf a ∙ ap (λ (o : Option Lit). option_map open_clause (option_map alone_lit o)) none) is

  at_gives : (as_ : List Form) → AllByRecursion Gives as_ → (k : ℕ) (p : Path) (c : Clause) → at_member (reached p) (slice_get as_ k) ≡ Some c → (xs : List Term) → Typed v target xs (reverse c.sorts)
      → Inhabited v target (sorts_of_all (map (opening line) as_)) → GivenAt k (map (opening line) as_) c xs
  at_gives [] all k p c is xs typed inh = absurd (let x = is in cc)
  at_gives (a ∷ as_) all zero p c is xs typed inh =
      let o = opening line a in
      let parts = inhabited_parts v target o.sorts (sorts_of_all (map (opening line) as_)) inh in
      let here = all.0 p c is xs typed parts.0 in
      let fill = fillers v target (sorts_of_all (map (opening line) as_)) parts.1 in
      record {
        terms = here.terms ++ fill.0;
        typed = typed_both v target here.terms fill.0 o.sorts (sorts_of_all (map (opening line) as_)) here.typed fill.1;
        meets = λ e good images n env f rest.
            let r = here.meets e good images n env (fits_first images n env here.terms fill.0 e f) rest in
            record { choices = r.choices; pairs = r.pairs; asks = r.asks; unifies = r.unifies };
      }
  at_gives (a ∷ as_) all (suc k) p c is xs typed inh =
      let o = opening line a in
      let parts = inhabited_parts v target o.sorts (sorts_of_all (map (opening line) as_)) inh in
      let there = at_gives as_ all.1 k p c is xs typed parts.1 in
      let fill = fillers v target o.sorts parts.0 in
      record {
        terms = fill.0 ++ there.terms;
        typed = typed_both v target fill.0 there.terms o.sorts (sorts_of_all (map (opening line) as_)) fill.1 there.typed;
        meets = λ e good images n env f rest.
            let r = there.meets e good images (n + length o.sorts) env (fits_second images n (length o.sorts) env fill.0 there.terms e (typed_length v target fill.0 o.sorts fill.1) f) rest in
            record { choices = r.choices; pairs = r.pairs; asks = r.asks; unifies = r.unifies };
      }

  and_gives : (as_ : List Form) → AllByRecursion Gives as_ → GivenBy (And as_) (opened_and (map (opening line) as_))
  and_gives as_ all =
      path_cases (AlongBy (And as_) (opened_and (map (opening line) as_))) (record {
        leaf = λ c is. absurd (no_leaf (And as_) c (and_no_lit as_) is);
        pick = λ k p c is xs typed inh.
            let g = at_gives as_ all k p c (sym (reached-Pick k p (And as_) ∙ ap (pick_in k (reached p)) (outs-And as_)) ∙ is) xs typed inh in
            record {
              terms = g.terms;
              typed = g.typed;
              meets = λ e good images n env f rest.
                  let r = g.meets e good images n env f rest in
                  record {
                    choices = k ∷ r.choices;
                    pairs = r.pairs;
                    asks = ap (λ w. w (k ∷ r.choices)) (asked-Any (goals_from (map (opening line) as_) n env)) ∙ r.asks;
                    unifies = r.unifies;
                  };
            };
        each = λ ps c is. absurd (nothing_there _ c (reached-Each ps (And as_) ∙ ap (each_in (map reached ps)) (outs-And as_)) is);
        under = λ p c is. absurd (nothing_there _ c (reached-Under p (And as_) ∙ ap (under_in (reached p)) (outs-And as_)) is);
      })

  each_more : (a : Form) (as_ : List Form) (c : Clause) (ds : List Clause) → (xs : List Term) → Typed v target xs (reverse (all_beside (c ∷ ds)).sorts)
      → ((ys : List Term) → Typed v target ys (reverse c.sorts) → Given (opening line a) c ys)
      → ((ys : List Term) → Typed v target ys (reverse (all_beside ds).sorts) → GivenEach (map (opening line) as_) ds ys) → GivenEach (map (opening line) (a ∷ as_)) (c ∷ ds) xs
  each_more a as_ c ds xs typed first others =
      let d = all_beside ds in
      let o = opening line a in
      let os = map (opening line) as_ in
      let split = typed_parts v target xs (reverse d.sorts) (reverse c.sorts) (subst (Typed v target xs) (reverse-append c.sorts d.sorts) typed) in
      let c_size : length split.second ≡ length c.sorts = typed_length v target split.second (reverse c.sorts) split.second_typed ∙ length-reverse c.sorts in
      let d_size : length split.first ≡ length d.sorts = typed_length v target split.first (reverse d.sorts) split.first_typed ∙ length-reverse d.sorts in
      let here = first split.second split.second_typed in
      let there = others split.first split.first_typed in
      record {
        terms = here.terms ++ there.terms;
        typed = typed_both v target here.terms there.terms o.sorts (sorts_of_all os) here.typed there.typed;
        meets = λ e good images n env f rest.
            let parts = all_parts (IsCovered wanted) (map (lit_image (over split.second e)) c.lits) (map (lit_image (over split.first e)) d.lits)
            (subst Good (beside_images c d split.second split.first e c_size d_size) (subst (λ ys. Good (map (lit_image (over ys e)) (all_beside (c ∷ ds)).lits)) split.is good)) in
            let q = there.meets e parts.1 images (n + length o.sorts) env (fits_second images n (length o.sorts) env here.terms there.terms e (typed_length v target here.terms o.sorts here.typed) f) rest in
            let r = here.meets e parts.0 images n env (fits_first images n env here.terms there.terms e f) q.choices in
            record {
              choices = r.choices;
              pairs = r.pairs ++ q.pairs;
              asks = ap (λ w. and_then w (each_of (map asked (goals_from os (n + length o.sorts) env)))) r.asks ∙ ap (with_pairs r.pairs) q.asks;
              unifies = unifies_both images r.pairs q.pairs r.unifies q.unifies;
            };
      }

  each_gives : (as_ : List Form) → AllByRecursion Gives as_ → (ps : List Path) (cs : List Clause) → each_reaches (map reached ps) as_ ≡ Some cs → (xs : List Term) → Typed v target xs (reverse (all_beside cs).sorts)
      → Inhabited v target (sorts_of_all (map (opening line) as_)) → GivenEach (map (opening line) as_) cs xs
  each_gives [] all [] cs is xs typed inh = record {
    terms = [];
    typed = tt;
    meets = λ e good images n env f rest. record { choices = rest; pairs = []; asks = refl; unifies = tt };
  }
  each_gives [] all (p ∷ ps) cs is xs typed inh = absurd (let x = is in cc)
  each_gives (a ∷ as_) all [] cs is xs typed inh = absurd (let x = is in cc)
  each_gives (a ∷ as_) all (p ∷ ps) cs is xs typed inh =
      let m = more_parts (reached p a) (each_reaches (map reached ps) as_) cs is in
      let parts = inhabited_parts v target (opening line a).sorts (sorts_of_all (map (opening line) as_)) inh in
      subst (λ zs. GivenEach (map (opening line) (a ∷ as_)) zs xs) m.4
      (each_more a as_ m.0 m.1 xs (subst (λ zs. Typed v target xs (reverse (all_beside zs).sorts)) (sym m.4) typed)
      (λ ys t. all.0 p m.0 m.2 ys t parts.0)
      (λ ys t. each_gives as_ all.1 ps m.1 m.3 ys t parts.1))

  or_given : (as_ : List Form) (cs : List Clause) (xs : List Term) → GivenEach (map (opening line) as_) cs xs → Given (opened_or (map (opening line) as_)) (all_beside cs) xs
  or_given as_ cs xs g = record {
    terms = g.terms;
    typed = g.typed;
    meets = λ e good images n env f rest.
        let r = g.meets e good images n env f rest in
        record {
          choices = r.choices;
          pairs = r.pairs;
          asks = ap (λ w. w r.choices) (asked-All (goals_from (map (opening line) as_) n env)) ∙ r.asks;
          unifies = r.unifies;
        };
  }

  or_gives : (as_ : List Form) → AllByRecursion Gives as_ → GivenBy (Or as_) (opened_or (map (opening line) as_))
  or_gives as_ all =
      path_cases (AlongBy (Or as_) (opened_or (map (opening line) as_))) (record {
        leaf = λ c is. absurd (no_leaf (Or as_) c (or_no_lit as_) is);
        pick = λ k p c is. absurd (nothing_there _ c (reached-Pick k p (Or as_) ∙ ap (pick_in k (reached p)) (outs-Or as_)) is);
        each = λ ps c is xs typed inh.
            let m = mapped all_beside (each_reaches (map reached ps) as_) c (sym (reached-Each ps (Or as_) ∙ ap (each_in (map reached ps)) (outs-Or as_)) ∙ is) in
            subst (λ d. Given (opened_or (map (opening line) as_)) d xs) m.2
            (or_given as_ m.0 xs (each_gives as_ all ps m.0 m.1 xs (subst (λ (d : Clause). Typed v target xs (reverse d.sorts)) (sym m.2) typed) inh));
        under = λ p c is. absurd (nothing_there _ c (reached-Under p (Or as_) ∙ ap (under_in (reached p)) (outs-Or as_)) is);
      })

  one_typed : (zs : List Term) (s : ℕ) → Typed v target zs (s ∷ []) → (y : Term) × (zs ≡ y ∷ []) × (sort_of_term v target y ≡ Some s)
  one_typed [] s h = absurd h
  one_typed (y ∷ []) s h = (y, refl, h.0)
  one_typed (y ∷ z ∷ zs) s h = absurd h.1

  under_given : (s : ℕ) (a : Form) (c : Clause) → (xs : List Term) → Typed v target xs (reverse (s ∷ c.sorts)) → ((ys : List Term) → Typed v target ys (reverse c.sorts) → Given (opening line a) c ys) → Given (opened_all s (opening line a)) (within s c) xs
  under_given s a c xs typed inner =
      let split = typed_parts v target xs (reverse c.sorts) (s ∷ []) (subst (Typed v target xs) (reverse_cons s c.sorts) typed) in
      let one = one_typed split.second s split.second_typed in
      let y = one.0 in
      let is : xs ≡ split.first ++ y ∷ [] = split.is ∙ ap (λ zs. split.first ++ zs) one.1 in
      let g = inner split.first split.first_typed in
      record {
        terms = y ∷ g.terms;
        typed = (one.2, g.typed);
        meets = λ e good images n env f rest.
            let moved : over xs e ≡ over split.first (over (y ∷ []) e) = ap (λ zs. over zs e) is ∙ over_two split.first (y ∷ []) e in
            g.meets (over (y ∷ []) e) (subst (λ h. Good (map (lit_image h) c.lits)) moved good) images (suc n) (Var n ∷ env) (record {
              has = after_first images n y g.terms f.has;
              means = one_name (image (image_at images)) (Var n) env ∙ ap (λ x. over (x ∷ []) (λ k. image (image_at images) (over env Var k))) (image-Var (image_at images) n ∙ first_image images n y g.terms f.has) ∙ ap (over (y ∷ [])) f.means;
              line_is = f.line_is;
            }) rest;
      }

  under_gives : (s : ℕ) (a : Form) → Gives a → GivenBy (All s a) (opened_all s (opening line a))
  under_gives s a ih =
      path_cases (AlongBy (All s a) (opened_all s (opening line a))) (record {
        leaf = λ c is. absurd (no_leaf (All s a) c (all_no_lit s a) is);
        pick = λ k p c is. absurd (nothing_there _ c (reached-Pick k p (All s a) ∙ ap (pick_in k (reached p)) (outs-All s a)) is);
        each = λ ps c is. absurd (nothing_there _ c (reached-Each ps (All s a) ∙ ap (each_in (map reached ps)) (outs-All s a)) is);
        under = λ p c is xs typed inh.
            let m = mapped (within s) (reached p a) c (sym (reached-Under p (All s a) ∙ ap (under_in (reached p)) (outs-All s a)) ∙ is) in
            subst (λ d. Given (opened_all s (opening line a)) d xs) m.2
            (under_given s a m.0 xs (subst (λ (d : Clause). Typed v target xs (reverse d.sorts)) (sym m.2) typed) (λ ys t. ih p m.0 m.1 ys t inh.1));
      })

  pub gives : (a : Form) → Gives a
  gives = form_induction Gives (record {
    atom = λ p ts. leaf_gives (Atom p ts) (atom_leaf line p ts);
    eq = λ l r. leaf_gives (Eq l r) (eq_leaf line l r);
    not = λ a ih. leaf_gives (Not a) (not_leaf line a);
    and = λ as_ all. subst (GivenBy (And as_)) (sym (opening-And line as_)) (and_gives as_ all);
    or = λ as_ all. subst (GivenBy (Or as_)) (sym (opening-Or line as_)) (or_gives as_ all);
    imp = λ a b ih jh. leaf_gives (Imp a b) (imp_leaf line a b);
    iff = λ a b ih jh. leaf_gives (Iff a b) (iff_leaf line a b);
    all = λ s a ih. subst (GivenBy (All s a)) (sym (opening-All line s a)) (under_gives s a ih);
    ex = λ s a ih. leaf_gives (Ex s a) (ex_leaf line s a);
  })
