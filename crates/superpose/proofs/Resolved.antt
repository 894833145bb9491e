-- Resolution at two literals.
use Rattle.std.specs.Prelude.{ℕ, ◌+◌, ◌<◌, ◌≤◌, ◌^◌, ◌≡◌, Bool, false, List, ◌++◌, length, map, remove, get_or, Option, Some, None, slice_get, refl}
use Rattle.std.proofs.Common.{ap, sym, subst, ◌∙◌, arith}
use Rattle.std.proofs.lemmas.List.{length-reverse, length-append}
use Rattle.std.proofs.lemmas.List.Elements.{All-append}
use Rattle.std.proofs.lemmas.Option.{get_or_from_slice_get}
use Rattle.fof_terms.specs.declared.term.Term.{Term, App}
use Rattle.fof_terms.specs.Vocabulary.{Vocabulary}
use Rattle.fof_terms.specs.Lift.{lifted_term}
use Rattle.clause_form.specs.declared.clause.AtomOf.{AtomOf}
use Rattle.clause_form.specs.declared.clause.AtomOf.TheVariants.{Pred, Eq, True, False}
use Rattle.clause_form.specs.declared.clause.Lit.{Lit}
use Rattle.clause_form.specs.declared.clause.Clause.{Clause}
use Rattle.clause_form.specs.ClauseView.{stated, denied}
use Rattle.clause_form.specs.Covers.{at_terms, lit_apart, scope_of}
use Rattle.clause_form.specs.Images.{image}
use Rattle.clause_rules.specs.Places.{args_of_atom}
use Rattle.clause_rules.specs.Steps.{scope_of_both, apart_from}
use Rattle.clause_rules.proofs.Firsts.{one_at, there_at}
use Rattle.clause_order.specs.Eligible.{IsEligible}
use Rattle.unify_terms.specs.declared.pair.Pair.{Pair}
use Rattle.unify_terms.specs.declared.scope.Scope.{Scope}
use Rattle.unify_terms.specs.Unifiers.{Unified, AreSorted}
use Rattle.superpose.specs.declared.made.Made.{Made}
use Rattle.superpose.specs.code.Conclusions.{IsConclusion}
use Rattle.superpose.specs.Drafts.{Draft, IsClause, SortsExist}
use Rattle.superpose.specs.Inferences.{ResolvesAt}
use Rattle.superpose.specs.Made.{IsBestAt}
use Rattle.superpose.specs.code.Pairs.{ArePairsOf, IsPairing}
use Rattle.superpose.specs.code.Resolvable.{AreResolvable, NotResolvable}
use Rattle.superpose.proofs.Agreed.{moved_images}
use Rattle.superpose.proofs.ConclusionFacts.{all_reversed, get_map}
use Rattle.superpose.proofs.LeftSorts.{sorted_first, sorted_second, sorted_at, resolved_left}
use Rattle.superpose.proofs.PairFacts.{args_found, asks_predicate}
use Rattle.superpose.proofs.Posed.{IsPosed, IsScope, asked_sorted, none_best, some_best}

pub scope_exists : (v : Vocabulary) (c : Clause) → IsClause v c → SortsExist v (scope_of c)
scope_exists v c h = all_reversed (λ s. s < length v.sorts) c.sorts h.exist

pub both_exist : (v : Vocabulary) (c d : Clause) → IsClause v c → IsClause v d → SortsExist v (scope_of_both c d)
both_exist v c d h g = All-append (λ s. s < length v.sorts) (scope_of c) (scope_of d) (scope_exists v c h) (scope_exists v d g)

pub few_of_one : (v : Vocabulary) (c : Clause) (sorts : List ℕ) → IsClause v c → sorts ≡ scope_of c → length sorts ≤ 2 ^ 32
few_of_one v c sorts h is = let size = ap length is ∙ length-reverse c.sorts in let few = h.fit.few in omega arith

pub few_of_two : (v : Vocabulary) (c d : Clause) (sorts : List ℕ) → IsClause v c → IsClause v d → sorts ≡ scope_of_both c d → length sorts ≤ 2 ^ 32
few_of_two v c d sorts h g is =
    let size = ap length is ∙ length-append (scope_of c) (scope_of d) in
    let first = length-reverse c.sorts in
    let second = length-reverse d.sorts in
    let few = h.fit.few in
    let few' = g.fit.few in
    omega arith

abbrev pub predicate_of : AtomOf → Option ℕ
predicate_of (Pred p ts) = Some p
predicate_of (Eq l r) = None
predicate_of True = None
predicate_of False = None

pub same_predicate : (p q : ℕ) (ts us : List Term) → Pred p ts ≡ Pred q us → p ≡ q
same_predicate p q ts us e = let heads : Some p ≡ Some q = ap predicate_of e in cc

-- the literal was a negative one of the predicate before it was moved
moved_from : (n : ℕ) (l : Lit) (p : ℕ) (us : List Term) → lit_apart n l ≡ denied (Pred p us) → (vs : List Term) × (l ≡ denied (Pred p vs))
moved_from n l p us e = go l.positive l.atom (ap (λ (x : Lit). x.positive) e) (ap (λ (x : Lit). x.atom) e) where
  go : (b : Bool) (a : AtomOf) → b ≡ false → at_terms (lifted_term n 0) a ≡ Pred p us → (vs : List Term) × (record { positive = b; atom = a } ≡ denied (Pred p vs))
  go b (Pred q ts) sign is =
      (ts, ap (λ (x : Bool). record { positive = x; atom = Pred q ts }) sign ∙ ap (λ n. denied (Pred n ts)) (same_predicate q p _ us is))
  go b (Eq l r) sign is = let no : None ≡ Some p = ap predicate_of is in cc
  go b True sign is = let no : None ≡ Some p = ap predicate_of is in cc
  go b False sign is = let no : None ≡ Some p = ap predicate_of is in cc

module _ (v : Vocabulary) (c d : Clause) (i j : ℕ) where
  pub never_resolvable : (k l : Lit) → slice_get c.lits i ≡ Some k → slice_get d.lits j ≡ Some l → NotResolvable k l → IsBestAt v (scope_of_both c d) (ResolvesAt c d i j) None
  never_resolvable k l k_at l_at never f e s r made =
      let n = length c.sorts in
      let apart : lit_apart n l ≡ denied (Pred r.p r.us) = one_at (apart_from c d.lits) j (lit_apart n l) (denied (Pred r.p r.us)) (get_map (lit_apart n) d.lits j l l_at) r.there in
      let moved = moved_from n l r.p r.us apart in
      let args : map (lifted_term n 0) moved.0 ≡ r.us = ap (λ (x : Lit). args_of_atom x.atom) (ap (lit_apart n) (sym moved.1) ∙ apart) in
      let same : map (image s) r.ts ≡ map (image s) r.us = (asks_predicate f r.p r.ts r.us r.one r.other).forth s made.unified in
      never r.p r.ts moved.0 (one_at c.lits i k (stated (Pred r.p r.ts)) k_at r.here) moved.1 s (λ x. s (x + n))
      (same ∙ ap (map (image s)) (sym args) ∙ moved_images s n moved.0)

  pub never_paired : (k l : Lit) → slice_get c.lits i ≡ Some k → slice_get (apart_from c d.lits) j ≡ Some l → ArePairsOf k.atom l.atom None → IsBestAt v (scope_of_both c d) (ResolvesAt c d i j) None
  never_paired k l k_at l_at never f e s r made =
      let first : k.atom ≡ Pred r.p r.ts = ap (λ (x : Lit). x.atom) (one_at c.lits i k (stated (Pred r.p r.ts)) k_at r.here) in
      let second : l.atom ≡ Pred r.p r.us = ap (λ (x : Lit). x.atom) (one_at (apart_from c d.lits) j l (denied (Pred r.p r.us)) l_at r.there) in
      let args = (asks_predicate f r.p r.ts r.us r.one r.other).forth s made.unified in
      never s (ap (at_terms (image s)) first ∙ ap (Pred r.p) args ∙ sym (ap (at_terms (image s)) second))

  module _ (hc : IsClause v c) (hd : IsClause v d) (first : IsEligible c.lits i) (second : IsEligible d.lits j) (p : ℕ) (ts us : List Term)
      (here : slice_get c.lits i ≡ Some (stated (Pred p ts))) (there : slice_get (apart_from c d.lits) j ≡ Some (denied (Pred p us))) where
    abbrev pub the_draft : Draft
    the_draft = record { one = App p ts; other = App p us; left = remove c.lits i ++ remove (apart_from c d.lits) j }

    the_only : (g : Draft) → ResolvesAt c d i j g → g ≡ the_draft
    the_only g r =
        let k_is : stated (Pred r.p r.ts) ≡ stated (Pred p ts) = one_at c.lits i (stated (Pred r.p r.ts)) (stated (Pred p ts)) r.here here in
        let l_is : denied (Pred r.p r.us) ≡ denied (Pred p us) = one_at (apart_from c d.lits) j (denied (Pred r.p r.us)) (denied (Pred p us)) r.there there in
        let head : r.p ≡ p = same_predicate r.p p r.ts ts (ap (λ (x : Lit). x.atom) k_is) in
        let left_args : r.ts ≡ ts = ap (λ (x : Lit). args_of_atom x.atom) k_is in
        let right_args : r.us ≡ us = ap (λ (x : Lit). args_of_atom x.atom) l_is in
        let one : g.one ≡ App p ts = r.one ∙ ap (λ n. App n r.ts) head ∙ ap (App p) left_args in
        let other : g.other ≡ App p us = r.other ∙ ap (λ n. App n r.us) head ∙ ap (App p) right_args in
        ap (λ (x : Term). record { one = x; other = g.other; left = g.left }) one ∙ ap (λ (x : Term). record { one = App p ts; other = x; left = g.left }) other
        ∙ ap (λ (x : List Lit). record { one = App p ts; other = App p us; left = x }) r.left

    the_one : ResolvesAt c d i j the_draft
    the_one = record { p = p; ts = ts; us = us; here = here; there = there; first = first; second = second; one = refl; other = refl; left = refl }

    pub resolution_posed : length ts ≡ length us → IsPosed v (scope_of_both c d) (ResolvesAt c d i j) the_draft ts us
    resolution_posed size = record {
      is_draft = the_one;
      only = the_only;
      asks = asks_predicate the_draft p ts us refl refl;
      left_found = args_found v (scope_of_both c d) (Pred p ts) (sorted_at v (scope_of_both c d) c.lits i (stated (Pred p ts)) (sorted_first v c d hc.fit.sorted) here);
      right_found = args_found v (scope_of_both c d) (Pred p us) (sorted_at v (scope_of_both c d) (apart_from c d.lits) j (denied (Pred p us)) (sorted_second v c d hd.fit.sorted) there);
      size = size;
      exist = both_exist v c d hc hd;
      left_sorted = λ to s images unified. resolved_left v c d the_draft hc.fit.sorted hd.fit.sorted i j the_one;
    }

-- what was read from a list that was lent
pub lent_at : {X : Type 0} (lent xs : List X) (i : ℕ) (x : X) → lent ≡ xs → i < length xs → x ≡ get_or lent i x → slice_get xs i ≡ Some x
lent_at lent xs i x same h is = there_at xs i x h (is ∙ ap (λ ys. get_or ys i x) same)

pub lent_is : {X : Type 0} (lent xs : List X) (i : ℕ) (x y : X) → lent ≡ xs → x ≡ get_or lent i x → slice_get xs i ≡ Some y → x ≡ y
lent_is lent xs i x y same is at = is ∙ ap (λ ys. get_or ys i x) same ∙ get_or_from_slice_get xs i y x at

-- the literal, kept apart
pub moved_at : (c d : Clause) (j : ℕ) (l m : Lit) (by : ℕ) → slice_get d.lits j ≡ Some l → m ≡ lit_apart by l → by ≡ length c.sorts → slice_get (apart_from c d.lits) j ≡ Some m
moved_at c d j l m by l_at is e = get_map (lit_apart (length c.sorts)) d.lits j l l_at ∙ ap Some (ap (λ n. lit_apart n l) (sym e) ∙ sym is)

pub paired_as : (a b a' b' : AtomOf) (o : Option (List Pair)) → a ≡ a' → b ≡ b' → ArePairsOf a b o → ArePairsOf a' b' o
paired_as a b a' b' o e f h = subst (λ x. ArePairsOf x b' o) e (subst (λ x. ArePairsOf a x o) f h)

-- the literals as code has them: k and l of the clauses, and m, which is l kept apart
module _ (v : Vocabulary) (c d : Clause) (i j : ℕ) (hc : IsClause v c) (hd : IsClause v d) (first : IsEligible c.lits i) (second : IsEligible d.lits j) (k l m : Lit) (k_at : slice_get c.lits i ≡ Some k) (l_at : slice_get d.lits j ≡ Some l)
    (m_at : slice_get (apart_from c d.lits) j ≡ Some m) (are : AreResolvable k l) (pairs : List Pair) (paired : ArePairsOf k.atom m.atom (Some pairs)) (given : Scope) (sorts : given.sorts ≡ scope_of_both c d) (rigid : given.rigid ≡ 0) (lent : List Pair) (lent_pairs : lent ≡ pairs) where
  abbrev ts : List Term
  ts = are.1

  abbrev us : List Term
  us = map (lifted_term (length c.sorts) 0) are.2

  here : slice_get c.lits i ≡ Some (stated (Pred are.0 ts))
  here = k_at ∙ ap Some are.3

  there : slice_get (apart_from c d.lits) j ≡ Some (denied (Pred are.0 us))
  there = get_map (lit_apart (length c.sorts)) d.lits j l l_at ∙ ap (λ (x : Lit). Some (lit_apart (length c.sorts) x)) are.4

  pairing : IsPairing (Pred are.0 ts) (Pred are.0 us) pairs
  pairing =
      subst (λ a. IsPairing a (Pred are.0 us) pairs) (ap (λ (x : Lit). x.atom) are.3)
      (subst (λ b. IsPairing k.atom b pairs) (ap (λ (x : Lit). x.atom) (one_at (apart_from c d.lits) j m (denied (Pred are.0 us)) m_at there)) paired)

  abbrev draft : Draft
  draft = the_draft v c d i j hc hd first second are.0 ts us here there

  posed : IsPosed v (scope_of_both c d) (ResolvesAt c d i j) draft ts us
  posed = resolution_posed v c d i j hc hd first second are.0 ts us here there pairing.size

  is_scope : IsScope (scope_of_both c d) given
  is_scope = record { sorts = sorts; rigid = rigid }

  pub resolution_sorted : AreSorted v given.sorts lent
  resolution_sorted = asked_sorted v (scope_of_both c d) (ResolvesAt c d i j) draft ts us posed given is_scope lent (lent_pairs ∙ pairing.pairs_are)

  pub resolution_none : Unified v given.sorts given.rigid lent None → IsBestAt v (scope_of_both c d) (ResolvesAt c d i j) None
  resolution_none u = none_best v (scope_of_both c d) (ResolvesAt c d i j) draft ts us posed given is_scope lent (lent_pairs ∙ pairing.pairs_are) u

  pub resolution_some : (images : List Term) (left : List Lit) (made : Made) → Unified v given.sorts given.rigid lent (Some images) → left ≡ remove c.lits i ++ remove (apart_from c d.lits) j
      → IsConclusion given.sorts images left made → IsBestAt v (scope_of_both c d) (ResolvesAt c d i j) (Some made)
  resolution_some images left made u left_is con = some_best v (scope_of_both c d) (ResolvesAt c d i j) draft ts us posed given is_scope lent (lent_pairs ∙ pairing.pairs_are) images u left made left_is con
