-- How a walk through a formula, for functions in place of its existential variables, goes on.
use Rattle.std.specs.Prelude.{ℕ, ◌≡◌, ◌+◌, Bool, true, false, List, [], ◌∷◌, ◌++◌, length, flat_map, Option, Some, None, refl}
use Rattle.std.proofs.Common.{ap, sym, subst, ◌∙◌, arith, append_assoc}
use Rattle.std.proofs.lemmas.List.{append-nil}
use Rattle.std.proofs.lemmas.List.Concat.{flat_map-cons, flat_map-append}
use Rattle.fof_terms.specs.declared.term.Term.{Term}
use Rattle.fof_terms.specs.declared.form.Form.{Form, Atom, Eq, Not, And, Or, Imp, Iff, All, Ex}
use Rattle.fof_terms.specs.declared.form.Form.TheViews.{outs-Atom, outs-Eq, outs-Not, outs-And, outs-Or, outs-Imp, outs-Iff, outs-All, outs-Ex}
use Rattle.fof_terms.specs.Instance.{instance_of}
use Rattle.fof_terms.specs.Vocabulary.{Vocabulary}
use Rattle.clause_form.specs.Norm.{node}
use Rattle.skolem_fresh.specs.declared.just.Use.{Use}
use Rattle.skolem_fresh.specs.declared.leaves.Leaf.{Leaf}
use Rattle.skolem_fresh.specs.code.Leaves.{leaves_of}
use Rattle.skolem_fresh.proofs.LeavesFacts.{leaves_of-All}
use Rattle.skolem_fresh.specs.code.Reading.{read_from}
use Rattle.skolem_fresh.specs.SkolemRule.{MayReplace, IsSkolemized, AreSkolemized, an_atom, an_equation, a_negation, a_conjunction, a_disjunction, for_each, for_some, none, more}
use Rattle.skolem_fresh.specs.code.Skolemizing.{IsFunctionFor, IsReplaced, IsWalked, IsWalkedTo, AreWalked, AreWalkedTo, IsPassed}
use Rattle.skolem_fresh.specs.code.Solid.{IsSolid, AreSolid, no_member, a_member}
use Rattle.skolem_fresh.specs.Uses.{value_of}
use Rattle.skolem_fresh.proofs.Paired.{value_read}
use Rattle.skolem_fresh.proofs.SolidLaws.{node_solid, some_solid, quantifier_solid, first_solid, node_leaves, instance_solid}
use Rattle.skolem_fresh.proofs.Skolemized.{SkolemizedIn, skolemized_in}

module _ (v : Vocabulary) where
  -- Each of some formulas.
  pub first_of : (scope : List ℕ) (uses : List Use) (a : Form) (as_ cs : List Form) → AreSkolemized v scope uses (a ∷ as_) cs
      → (us ws : List Use) × (b : Form) × (bs : List Form) × (uses ≡ us ++ ws) × (cs ≡ b ∷ bs) × IsSkolemized v scope us a b × AreSkolemized v scope ws as_ bs
  first_of scope uses a as_ cs h = go uses (a ∷ as_) cs h refl where
    go : (uses : List Use) (xs cs : List Form) → AreSkolemized v scope uses xs cs → xs ≡ a ∷ as_
        → (us ws : List Use) × (b : Form) × (bs : List Form) × (uses ≡ us ++ ws) × (cs ≡ b ∷ bs) × IsSkolemized v scope us a b × AreSkolemized v scope ws as_ bs
    go uses xs cs (none sc) e = cc
    go uses xs cs (more sc us ws x b ys bs f r) e =
        let first : x ≡ a = cc in
        let rest : ys ≡ as_ = cc in
        (us, ws, b, bs, refl, refl, subst (λ y. IsSkolemized v scope us y b) first f, subst (λ zs. AreSkolemized v scope ws zs bs) rest r)

  pub none_of : (scope : List ℕ) (uses : List Use) (cs : List Form) → AreSkolemized v scope uses [] cs → (uses ≡ []) × (cs ≡ [])
  none_of scope uses cs h = go uses [] cs h refl where
    go : (uses : List Use) (xs cs : List Form) → AreSkolemized v scope uses xs cs → xs ≡ [] → (uses ≡ []) × (cs ≡ [])
    go uses xs cs (none sc) e = (refl, refl)
    go uses xs cs (more sc us ws x b ys bs f r) e = cc

  split : (scope : List ℕ) (uses : List Use) (as_ bs cs : List Form) → AreSkolemized v scope uses (as_ ++ bs) cs
      → (us ws : List Use) × (ds es : List Form) × (uses ≡ us ++ ws) × (cs ≡ ds ++ es) × AreSkolemized v scope us as_ ds × AreSkolemized v scope ws bs es
  split scope uses [] bs cs h = ([], uses, [], cs, refl, refl, none scope, h)
  split scope uses (a ∷ as_) bs cs h =
      let f = first_of scope uses a (as_ ++ bs) cs h in
      let r = split scope f.1 as_ bs f.3 f.7 in (
        f.0 ++ r.0,
        r.1,
        f.2 ∷ r.2,
        r.3,
        f.4 ∙ ap (λ (us : List Use). f.0 ++ us) r.4 ∙ sym (append_assoc f.0 r.0 r.1),
        f.5 ∙ ap (λ (ds : List Form). f.2 ∷ ds) r.5,
        more scope f.0 r.0 a f.2 as_ r.2 f.6 r.6,
        r.7,
      )

  pub appended : (scope : List ℕ) (us ws : List Use) (as_ bs cs ds : List Form) → AreSkolemized v scope us as_ cs → AreSkolemized v scope ws bs ds → AreSkolemized v scope (us ++ ws) (as_ ++ bs) (cs ++ ds)
  appended scope us ws as_ bs cs ds (none sc) k = k
  appended scope us ws as_ bs cs ds (more sc f r a b xs ys h g) k =
      subst (λ (zs : List Use). AreSkolemized v scope zs (a ∷ (xs ++ bs)) (b ∷ (ys ++ ds))) (sym (append_assoc f r ws)) (more scope f (r ++ ws) a b (xs ++ bs) (ys ++ ds) h (appended scope r ws xs bs ys ds g k))

  alone_in : (scope : List ℕ) (us : List Use) (a b : Form) → IsSkolemized v scope us a b → AreSkolemized v scope us (a ∷ []) (b ∷ [])
  alone_in scope us a b h = subst (λ (zs : List Use). AreSkolemized v scope zs (a ∷ []) (b ∷ [])) (append-nil us) (more scope us [] a b [] [] h (none scope))

  one_of : (scope : List ℕ) (uses : List Use) (a : Form) (cs : List Form) → AreSkolemized v scope uses (a ∷ []) cs → (c : Form) × (cs ≡ c ∷ []) × IsSkolemized v scope uses a c
  one_of scope uses a cs h =
      let f = first_of scope uses a [] cs h in
      let n = none_of scope f.1 f.3 f.7 in
      let same : uses ≡ f.0 = f.4 ∙ ap (λ (us : List Use). f.0 ++ us) n.0 ∙ append-nil f.0 in
      (f.2, f.5 ∙ ap (λ (ds : List Form). f.2 ∷ ds) n.1, subst (λ (us : List Use). IsSkolemized v scope us a f.2) (sym same) f.6)

  pub none_walked : (scope : List ℕ) (leaves : List Leaf) (uses : List Use) → AreWalkedTo v scope [] [] leaves leaves uses uses
  none_walked scope leaves uses = record {
    functions = [];
    gained = sym (append-nil uses);
    are = none scope;
    alone = λ s us cs after h is.
        let n = none_of scope us cs h in
        (n.0, n.1, sym (is ∙ ap (λ (xs : List Form). flat_map (leaves_of (length scope)) xs ++ after) n.1));
  }

  module _ (scope : List ℕ) (as_ bs : List Form) (a : Form) (leaves mid : List Leaf) (old us : List Use) (w : AreWalkedTo v scope as_ bs leaves mid old us) where
    abbrev terms : List Form → List Leaf
    terms = flat_map (leaves_of (length scope))

    apart : (cs ds : List Form) (after : List Leaf) → leaves ≡ terms (cs ++ ds) ++ after → leaves ≡ terms cs ++ (terms ds ++ after)
    apart cs ds after is = is ∙ ap (λ (ls : List Leaf). ls ++ after) (flat_map-append (leaves_of (length scope)) cs ds) ∙ append_assoc (terms cs) (terms ds) after

    one_term : (c : Form) → terms (c ∷ []) ≡ leaves_of (length scope) c
    one_term c = flat_map-cons (leaves_of (length scope)) c [] ∙ append-nil (leaves_of (length scope) c)

    -- the terms of the next formula begin what is left
    next_terms : (rest : List Form) → AreSolid (as_ ++ a ∷ rest) → (uses : List Use) (cs : List Form) (after : List Leaf) → AreSkolemized v scope uses (as_ ++ a ∷ rest) cs → leaves ≡ terms cs ++ after
        → (ws ys : List Use) × (c : Form) × (es : List Form) × (uses ≡ w.functions ++ (ws ++ ys)) × (cs ≡ bs ++ c ∷ es) × IsSkolemized v scope ws a c × AreSkolemized v scope ys rest es × (mid ≡ leaves_of (length scope) c ++ (terms es ++ after))
    next_terms rest s uses cs after h is =
        let p = split scope uses as_ (a ∷ rest) cs h in
        let f = first_of scope p.1 a rest p.3 p.7 in
        let before : leaves ≡ terms p.2 ++ (terms p.3 ++ after) = apart p.2 p.3 after (is ∙ ap (λ (xs : List Form). terms xs ++ after) p.5) in
        let d = w.alone (front as_ s) p.0 p.2 (terms p.3 ++ after) p.6 before in
        let third : terms p.3 ≡ leaves_of (length scope) f.2 ++ terms f.3 = ap terms f.5 ∙ flat_map-cons (leaves_of (length scope)) f.2 f.3 in (
          f.0,
          f.1,
          f.2,
          f.3,
          p.4 ∙ ap (λ (xs : List Use). xs ++ p.1) d.0 ∙ ap (λ (xs : List Use). w.functions ++ xs) f.4,
          p.5 ∙ ap (λ (xs : List Form). xs ++ p.3) d.1 ∙ ap (λ (xs : List Form). bs ++ xs) f.5,
          f.6,
          f.7,
          sym d.2 ∙ ap (λ (ls : List Leaf). ls ++ after) third ∙ append_assoc (leaves_of (length scope) f.2) (terms f.3) after,
        ) where
          front : (xs : List Form) → AreSolid (xs ++ a ∷ rest) → AreSolid xs
          front [] s = no_member
          front (x ∷ xs) s = let parts = first_solid x (xs ++ a ∷ rest) s in a_member x xs parts.0 (front xs parts.1)

    here_solid : (xs rest : List Form) → AreSolid (xs ++ a ∷ rest) → IsSolid a
    here_solid [] rest s = (first_solid a rest s).0
    here_solid (x ∷ xs) rest s = here_solid xs rest (first_solid x (xs ++ a ∷ rest) s).1

    pub one_more : (b : Form) (left : List Leaf) (new : List Use) → IsWalkedTo v scope a b mid left us new → AreWalkedTo v scope (as_ ++ a ∷ []) (bs ++ b ∷ []) leaves left old new
    one_more b left new x = record {
      functions = w.functions ++ x.functions;
      gained = x.gained ∙ ap (λ (xs : List Use). xs ++ x.functions) w.gained ∙ append_assoc old w.functions x.functions;
      are = appended scope w.functions x.functions as_ (a ∷ []) bs (b ∷ []) w.are (alone_in scope x.functions a b x.is);
      alone = λ s uses cs after h is.
          let n = next_terms [] s uses cs after h is in
          let e = none_of scope n.1 n.3 n.7 in
          let here : mid ≡ leaves_of (length scope) n.2 ++ after = n.8 ∙ ap (λ (xs : List Form). leaves_of (length scope) n.2 ++ (terms xs ++ after)) e.1 in
          let d = x.alone (here_solid as_ [] s) n.0 n.2 after n.6 here in (
            n.4 ∙ ap (λ (xs : List Use). w.functions ++ (n.0 ++ xs)) e.0 ∙ ap (λ (xs : List Use). w.functions ++ xs) (append-nil n.0 ∙ d.0),
            n.5 ∙ ap (λ (xs : List Form). bs ++ n.2 ∷ xs) e.1 ∙ ap (λ (c : Form). bs ++ c ∷ []) d.1,
            d.2,
          );
    }

    pub none_more : (rest : List Form) (left left' : List Leaf) (new new' : List Use) → IsWalked v scope a mid left us new None → AreWalked v scope (as_ ++ a ∷ rest) leaves left' old new' None
    none_more rest left left' new new' x s uses cs after h is =
        let n = next_terms rest s uses cs after h is in
        x (here_solid as_ rest s) n.0 n.2 (terms n.3 ++ after) n.6 n.8

  -- A node.
  pub node_in : (g : Bool) (scope : List ℕ) (uses : List Use) (as_ : List Form) (c : Form) → IsSkolemized v scope uses (node g as_) c → (cs : List Form) × (c ≡ node g cs) × AreSkolemized v scope uses as_ cs
  node_in true scope uses as_ c h = subst (λ y. SkolemizedIn v scope uses y (And as_) c) (outs-And as_) (skolemized_in v scope uses (And as_) c h)
  node_in false scope uses as_ c h = subst (λ y. SkolemizedIn v scope uses y (Or as_) c) (outs-Or as_) (skolemized_in v scope uses (Or as_) c h)

  node_of : (g : Bool) (scope : List ℕ) (uses : List Use) (as_ cs : List Form) → AreSkolemized v scope uses as_ cs → IsSkolemized v scope uses (node g as_) (node g cs)
  node_of true scope uses as_ cs h = a_conjunction scope uses as_ cs h
  node_of false scope uses as_ cs h = a_disjunction scope uses as_ cs h

  module _ (g : Bool) (scope : List ℕ) (as_ : List Form) (leaves left : List Leaf) (old new : List Use) where
    node_terms : (cs : List Form) (c : Form) (after : List Leaf) → c ≡ node g cs → leaves ≡ leaves_of (length scope) c ++ after → leaves ≡ flat_map (leaves_of (length scope)) cs ++ after
    node_terms cs c after e is = is ∙ ap (λ (ls : List Leaf). ls ++ after) (ap (leaves_of (length scope)) e ∙ node_leaves g (length scope) cs)

    pub node_walked : (bs : List Form) → AreWalkedTo v scope as_ bs leaves left old new → IsWalkedTo v scope (node g as_) (node g bs) leaves left old new
    node_walked bs w = record {
      functions = w.functions;
      gained = w.gained;
      is = node_of g scope w.functions as_ bs w.are;
      alone = λ s uses c after h is.
          let n = node_in g scope uses as_ c h in
          let d = w.alone (some_solid as_ (node_solid g as_ s)) uses n.0 after n.2 (node_terms n.0 c after n.1 is) in
          (d.0, n.1 ∙ ap (node g) d.1, d.2);
    }

    pub node_none : AreWalked v scope as_ leaves left old new None → IsWalked v scope (node g as_) leaves left old new None
    node_none w s uses c after h is =
        let n = node_in g scope uses as_ c h in
        w (some_solid as_ (node_solid g as_ s)) uses n.0 after n.2 (node_terms n.0 c after n.1 is)

  -- A universal quantifier.
  pub all_in : (scope : List ℕ) (uses : List Use) (s : ℕ) (a c : Form) → IsSkolemized v scope uses (All s a) c → (d : Form) × (c ≡ All s d) × IsSkolemized v (s ∷ scope) uses a d
  all_in scope uses s a c h = subst (λ y. SkolemizedIn v scope uses y (All s a) c) (outs-All s a) (skolemized_in v scope uses (All s a) c h)

  module _ (scope : List ℕ) (s : ℕ) (a : Form) (leaves left : List Leaf) (old new : List Use) where
    all_terms : (d c : Form) (after : List Leaf) → c ≡ All s d → leaves ≡ leaves_of (length scope) c ++ after → leaves ≡ leaves_of (length (s ∷ scope)) d ++ after
    all_terms d c after e is =
        let one : length scope + 1 ≡ length (s ∷ scope) = omega arith in
        is ∙ ap (λ (ls : List Leaf). ls ++ after) (ap (leaves_of (length scope)) e ∙ leaves_of-All (length scope) s d ∙ ap (λ n. leaves_of n d) one)

    pub all_walked : (b : Form) → IsWalkedTo v (s ∷ scope) a b leaves left old new → IsWalkedTo v scope (All s a) (All s b) leaves left old new
    all_walked b w = record {
      functions = w.functions;
      gained = w.gained;
      is = for_each scope w.functions s a b w.is;
      alone = λ h uses c after k is.
          let n = all_in scope uses s a c k in
          let d = w.alone (quantifier_solid true s a h).1 uses n.0 after n.2 (all_terms n.0 c after n.1 is) in
          (d.0, n.1 ∙ ap (All s) d.1, d.2);
    }

    pub all_none : IsWalked v (s ∷ scope) a leaves left old new None → IsWalked v scope (All s a) leaves left old new None
    all_none w h uses c after k is =
        let n = all_in scope uses s a c k in
        w (quantifier_solid true s a h).1 uses n.0 after n.2 (all_terms n.0 c after n.1 is)

  -- An existential quantifier.
  pub some_in : (scope : List ℕ) (uses : List Use) (s : ℕ) (a c : Form) → IsSkolemized v scope uses (Ex s a) c → (u : Use) × (rest : List Use) × (uses ≡ u ∷ rest) × MayReplace v scope u s a × IsSkolemized v scope rest (instance_of a (value_of u)) c
  some_in scope uses s a c h = subst (λ y. SkolemizedIn v scope uses y (Ex s a) c) (outs-Ex s a) (skolemized_in v scope uses (Ex s a) c h)

  module _ (scope : List ℕ) (outer s : ℕ) (body : Form) (leaves : List Leaf) (is_outer : outer ≡ length scope) where
    its_value : (u : Use) (rest : List Use) (c : Form) (after : List Leaf) → IsSolid (Ex s body) → MayReplace v scope u s body → IsSkolemized v scope rest (instance_of body (value_of u)) c → leaves ≡ leaves_of (length scope) c ++ after
        → read_from outer s (leaves_of 0 body) leaves ≡ Some u
    its_value u rest c after h m k is =
        let has = (quantifier_solid false s body h).0 in
        let at : read_from (length scope) u.sort (leaves_of 0 body) leaves ≡ Some u = value_read v scope u rest body c (length scope) leaves after has k is in
        subst (λ n. read_from n s (leaves_of 0 body) leaves ≡ Some u) (sym is_outer) (subst (λ r. read_from (length scope) r (leaves_of 0 body) leaves ≡ Some u) m.sort at)

    pub unreplaced : (left : List Leaf) (old new : List Use) → IsFunctionFor v scope outer s body leaves None → IsWalked v scope (Ex s body) leaves left old new None
    unreplaced left old new f h uses c after k is =
        let n = some_in scope uses s body c k in
        f (quantifier_solid false s body h).0 n.0 (its_value n.0 n.1 c after h n.3 n.4 is) n.3

    module _ (next : Form) (old mid : List Use) (r : IsReplaced v scope outer s body leaves old mid (Some next)) where
      same_use : (u w : Use) (x : Option Use) → x ≡ Some u → x ≡ Some w → u ≡ w
      same_use u w x e f = cc

      next_in : IsSolid (Ex s body) → (uses : List Use) (c : Form) (after : List Leaf) → IsSkolemized v scope uses (Ex s body) c → leaves ≡ leaves_of (length scope) c ++ after
          → (rest : List Use) × (uses ≡ r.0 ∷ rest) × IsSkolemized v scope rest next c
      next_in h uses c after k is =
          let n = some_in scope uses s body c k in
          let same : n.0 ≡ r.0 = same_use n.0 r.0 (read_from outer s (leaves_of 0 body) leaves) (its_value n.0 n.1 c after h n.3 n.4 is) r.1.0 in
          let form : instance_of body (value_of n.0) ≡ next = ap (λ (u : Use). instance_of body (value_of u)) same ∙ sym r.3 in
          (n.1, n.2 ∙ ap (λ (u : Use). u ∷ n.1) same, subst (λ a. IsSkolemized v scope n.1 a c) form n.4)

      next_solid : IsSolid (Ex s body) → IsSolid next
      next_solid h = subst IsSolid (sym r.3) (instance_solid (value_of r.0) body 0 (quantifier_solid false s body h).1)

      pub some_walked : (b : Form) (left : List Leaf) (new : List Use) → IsWalkedTo v scope next b leaves left mid new → IsWalkedTo v scope (Ex s body) b leaves left old new
      some_walked b left new w = record {
        functions = r.0 ∷ w.functions;
        gained = w.gained ∙ ap (λ (us : List Use). us ++ w.functions) r.2 ∙ append_assoc old (r.0 ∷ []) w.functions;
        is = for_some scope r.0 w.functions s body b r.1.1 (subst (λ a. IsSkolemized v scope w.functions a b) r.3 w.is);
        alone = λ h uses c after k is.
            let n = next_in h uses c after k is in
            let d = w.alone (next_solid h) n.0 c after n.2 is in
            (n.1 ∙ ap (λ (us : List Use). r.0 ∷ us) d.0, d.1, d.2);
      }

      pub some_none : (left : List Leaf) (new : List Use) → IsWalked v scope next leaves left mid new None → IsWalked v scope (Ex s body) leaves left old new None
      some_none left new w h uses c after k is =
          let n = next_in h uses c after k is in
          w (next_solid h) n.0 c after n.2 is

  -- What has no quantifiers.
  module _ (scope : List ℕ) (outer : ℕ) (a : Form) (leaves left : List Leaf) (uses : List Use) (is_outer : outer ≡ length scope) (itself : IsSkolemized v scope [] a a)
      (alone : (us : List Use) (c : Form) → IsSkolemized v scope us a c → (us ≡ []) × (c ≡ a)) where
    pub passed : (answer : Option Form) → IsPassed (leaves_of outer a) leaves left answer a → IsWalked v scope a leaves left uses uses answer
    passed None p = λ s us c after h is.
        let only = alone us c h in
        p after (is ∙ ap (λ (b : Form). leaves_of (length scope) b ++ after) only.1 ∙ ap (λ n. leaves_of n a ++ after) (sym is_outer))
    passed (Some b) p = record {
      functions = [];
      gained = sym (append-nil uses);
      is = subst (IsSkolemized v scope [] a) (sym p.0) itself;
      alone = λ s us c after h is.
          let only = alone us c h in
          (only.0, only.1 ∙ sym p.0, p.1 after (is ∙ ap (λ (b : Form). leaves_of (length scope) b ++ after) only.1 ∙ ap (λ n. leaves_of n a ++ after) (sym is_outer)));
    }

  module _ (scope : List ℕ) (outer : ℕ) (form : Form) (leaves left : List Leaf) (uses : List Use) (is_outer : outer ≡ length scope) (answer : Option Form) (p : IsPassed (leaves_of outer form) leaves left answer form) where
    pub atom_passed : (q : ℕ) (ts : List Term) → form ≡ Atom q ts → IsWalked v scope form leaves left uses uses answer
    atom_passed q ts e = passed scope outer form leaves left uses is_outer (rw e (an_atom scope q ts)) (λ us c h.
        let h' : IsSkolemized v scope us (Atom q ts) c = subst (λ a. IsSkolemized v scope us a c) e h in
        let d : (us ≡ []) × (c ≡ Atom q ts) = subst (λ y. SkolemizedIn v scope us y (Atom q ts) c) (outs-Atom q ts) (skolemized_in v scope us (Atom q ts) c h') in
        (d.0, d.1 ∙ sym e)) answer p

    pub equation_passed : (l r : Term) → form ≡ Eq l r → IsWalked v scope form leaves left uses uses answer
    equation_passed l r e = passed scope outer form leaves left uses is_outer (rw e (an_equation scope l r)) (λ us c h.
        let h' : IsSkolemized v scope us (Eq l r) c = subst (λ a. IsSkolemized v scope us a c) e h in
        let d : (us ≡ []) × (c ≡ Eq l r) = subst (λ y. SkolemizedIn v scope us y (Eq l r) c) (outs-Eq l r) (skolemized_in v scope us (Eq l r) c h') in
        (d.0, d.1 ∙ sym e)) answer p

    pub negation_passed : (b : Form) → form ≡ Not b → IsWalked v scope form leaves left uses uses answer
    negation_passed b e = passed scope outer form leaves left uses is_outer (rw e (a_negation scope b)) (λ us c h.
        let h' : IsSkolemized v scope us (Not b) c = subst (λ a. IsSkolemized v scope us a c) e h in
        let d : (us ≡ []) × (c ≡ Not b) = subst (λ y. SkolemizedIn v scope us y (Not b) c) (outs-Not b) (skolemized_in v scope us (Not b) c h') in
        (d.0, d.1 ∙ sym e)) answer p

  pub no_imp : (scope : List ℕ) (form l r : Form) (leaves left : List Leaf) (old new : List Use) → form ≡ Imp l r → IsWalked v scope form leaves left old new None
  no_imp scope form l r leaves left old new e s uses c after h is =
      subst (λ y. SkolemizedIn v scope uses y (Imp l r) c) (outs-Imp l r) (skolemized_in v scope uses (Imp l r) c (subst (λ a. IsSkolemized v scope uses a c) e h))

  pub no_iff : (scope : List ℕ) (form l r : Form) (leaves left : List Leaf) (old new : List Use) → form ≡ Iff l r → IsWalked v scope form leaves left old new None
  no_iff scope form l r leaves left old new e s uses c after h is =
      subst (λ y. SkolemizedIn v scope uses y (Iff l r) c) (outs-Iff l r) (skolemized_in v scope uses (Iff l r) c (subst (λ a. IsSkolemized v scope uses a c) e h))
