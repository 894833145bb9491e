-- Lemmas on literals that become others.
use Rattle.std.proofs.Common.{ℕ, ◌≡◌, ◌-◌, ◌<◌, ◌≤◌, List, ◌++◌, length, map, get_or, reverse, Option, Some, None, refl, sym, ap, subst, ◌∙◌, Bool, true, false}
use Rattle.std.specs.Prelude.{slice_get}
use Rattle.std.specs.List.{All as Each}
use Rattle.std.proofs.lemmas.Bool.{eqb-true, eq-eqb}
use Rattle.std.proofs.lemmas.Option.{slice_get-get_or, slice_get_past}
use Rattle.std.proofs.lemmas.List.{get_or-reverse, length-reverse}
use Rattle.std.proofs.lemmas.List.Elements.{All-from_recursion}
use Rattle.fof_terms.specs.declared.term.Term.{Term, Var, App}
use Rattle.fof_terms.specs.Vocabulary.{Vocabulary}
use Rattle.fof_terms.specs.Sorts.{is_sort, are_sorts, applied, made_by, one_sort, holds_of, stated_by, sort_of_term}
use Rattle.fof_terms.specs.declared.signature.Symbol.{Symbol}
use Rattle.fof_terms.specs.declared.signature.Kind.{Kind}
use Rattle.fof_terms.specs.declared.signature.Kind.TheVariants.{Function, Predicate}
use Rattle.fof_terms.proofs.SortsFacts.{sort_of_term-Var, sort_of_term-App}
use Rattle.fof_terms.proofs.LiftingLaws.{holds_found}
use Rattle.clause_form.specs.declared.clause.AtomOf.{AtomOf}
use Rattle.clause_form.specs.declared.clause.AtomOf.TheVariants.{Pred, Eq, True, False}
use Rattle.clause_form.specs.declared.clause.Lit.{Lit}
use Rattle.clause_form.specs.Images.{image, IsImages}
use Rattle.clause_form.proofs.ImagesFacts.{image_sorted}
use Rattle.clause_form.proofs.ClauseLaws.{sorted_more}
use Rattle.clause_form.specs.Covers.{lit_image, turned, turned_atom, at_terms, scope_of, is_sorted_atom}
use Rattle.subsumption.specs.declared.bindings.Bindings.{Bindings}
use Rattle.subsumption.specs.declared.task.Task.{Task}
use Rattle.subsumption.specs.code.Bound.{images_of, Agrees, IsOver}
use Rattle.subsumption.specs.code.Matched.{IsMatched, IsWithin, KeepsSort, KeepsSorts, Becomes, BothBecome, IsInto, IsTable, IsTried}
use Rattle.subsumption.proofs.MatchedFacts.{each_within}

-- the sort of a variable, as code finds it
pub variable_sort : (v : Vocabulary) (sorts : List ℕ) (t : Term) (k r : ℕ) → t ≡ Var k → sort_of_term v (reverse sorts) t ≡ Some r → slice_get (reverse sorts) k ≡ Some r
variable_sort v sorts t k r is e = sym (sort_of_term-Var v (reverse sorts) k) ∙ ap (sort_of_term v (reverse sorts)) (sym is) ∙ e

pub sort_there : (v : Vocabulary) (sorts : List ℕ) (t : Term) (k r : ℕ) → t ≡ Var k → k < length sorts → sort_of_term v (reverse sorts) t ≡ Some r → Some (get_or sorts (length sorts - 1 - k) 0) ≡ Some r
sort_there v sorts t k r is within e =
    let inside : k < length (reverse sorts) = rw length-reverse within in
    sym (slice_get-get_or (reverse sorts) k 0 inside ∙ ap Some (get_or-reverse sorts k 0 within)) ∙ variable_sort v sorts t k r is e

pub sort_missing : (v : Vocabulary) (sorts : List ℕ) (t : Term) (k r : ℕ) → t ≡ Var k → length sorts ≤ k → sort_of_term v (reverse sorts) t ≡ Some r → ⊥
sort_missing v sorts t k r is past e =
    let beyond : length (reverse sorts) ≤ k = rw length-reverse past in
    let none = slice_get_past (reverse sorts) k beyond in
    let there = variable_sort v sorts t k r is e in
    cc

-- the sort of a function's result
result_is : (k : Kind) (fits : Bool) (result r : ℕ) → made_by k fits result ≡ Some r → result ≡ r
result_is Function true result r e = cc
result_is Function false result r e = cc
result_is Predicate fits result r e = cc

applied_result : (o : Option Symbol) (found : List (Option ℕ)) (r : ℕ) → applied o found ≡ Some r → (x : Symbol) × (o ≡ Some x) × (x.result ≡ r)
applied_result None found r e = cc
applied_result (Some x) found r e = (x, refl, result_is x.kind (are_sorts found x.args) x.result r e)

pub function_sort : (v : Vocabulary) (scope : List ℕ) (t : Term) (f : ℕ) (ts : List Term) (r : ℕ) → t ≡ App f ts → sort_of_term v scope t ≡ Some r → (x : Symbol) × (slice_get v.symbols f ≡ Some x) × (x.result ≡ r)
function_sort v scope t f ts r is e = applied_result (slice_get v.symbols f) (map (sort_of_term v scope) ts) r (sym (sort_of_term-App v scope f ts) ∙ ap (sort_of_term v scope) (sym is) ∙ e)

-- both sides of an equation have one sort
sort_is : (o : Option ℕ) (r : ℕ) → is_sort o r ≡ true → o ≡ Some r
sort_is None r e = cc
sort_is (Some x) r e = ap Some (eqb-true x r e)

pub one_sort_is : (l r : Option ℕ) → one_sort l r ≡ true → (x : ℕ) × (l ≡ Some x) × (r ≡ Some x)
one_sort_is l None e = cc
one_sort_is l (Some x) e = (x, sort_is l x e, refl)

pub one_sort_again : (x y : ℕ) → x ≡ y → one_sort (Some x) (Some y) ≡ true
one_sort_again x y e = eq-eqb x y e

module _ (v : Vocabulary) (scope target : List ℕ) (one first : Term) (x y : ℕ) (sorted : sort_of_term v scope one ≡ Some x) (wanted : sort_of_term v target first ≡ Some y) where
  -- terms that a substitution makes the same have one sort
  pub sorts_meet : (more : List ℕ) (s : ℕ → Term) → IsImages v scope (target ++ more) s → image s one ≡ first → x ≡ y
  sorts_meet more s is e =
      let here = image_sorted v scope (target ++ more) s is one x sorted in
      let there = sorted_more v target more first y wanted in
      let same : Some x ≡ Some y = sym here ∙ ap (sort_of_term v (target ++ more)) e ∙ there in
      cc

-- the arguments of a predicate
stated : (k : Kind) (fits : Bool) → stated_by k fits ≡ true → fits ≡ true
stated Function fits e = cc
stated Predicate fits e = e

held : (o : Option Symbol) (found : List (Option ℕ)) → holds_of o found ≡ true → (x : Symbol) × (o ≡ Some x) × (are_sorts found x.args ≡ true)
held None found e = cc
held (Some x) found e = (x, refl, stated x.kind (are_sorts found x.args) e)

-- a literal of this sign and atom
lit_made : (k l : Lit) → k.positive ≡ l.positive → k.atom ≡ l.atom → k ≡ l
lit_made k l e f = let step : record { positive = k.positive; atom = k.atom } ≡ record { positive = l.positive; atom = l.atom } = rw (e, f) refl in step

-- an atom with its sides exchanged, or as it is
abbrev pub way_atom : Bool → AtomOf → AtomOf
way_atom true a = turned_atom a
way_atom false a = a

module _ (k l : Lit) where
  -- what becomes another has its sign and its atom
  pub becomes_sign : (exchanged : Bool) (s : ℕ → Term) → Becomes exchanged k l s → k.positive ≡ l.positive
  becomes_sign true s h = ap (λ (x : Lit). x.positive) h
  becomes_sign false s h = ap (λ (x : Lit). x.positive) h

  becomes_atom : (exchanged : Bool) (s : ℕ → Term) → Becomes exchanged k l s → way_atom exchanged (at_terms (image s) k.atom) ≡ l.atom
  becomes_atom true s h = ap (λ (x : Lit). x.atom) h
  becomes_atom false s h = ap (λ (x : Lit). x.atom) h

  becomes_by : (exchanged : Bool) (s : ℕ → Term) → k.positive ≡ l.positive → way_atom exchanged (at_terms (image s) k.atom) ≡ l.atom → Becomes exchanged k l s
  becomes_by true s e f = lit_made (turned (lit_image s k)) l e f
  becomes_by false s e f = lit_made (lit_image s k) l e f

  is_way : (exchanged : Bool) (s : ℕ → Term) (a : AtomOf) → k.atom ≡ a → way_atom exchanged (at_terms (image s) k.atom) ≡ way_atom exchanged (at_terms (image s) a)
  is_way exchanged s a is = ap (λ b. way_atom exchanged (at_terms (image s) b)) is

  way_pred : (exchanged : Bool) (p : ℕ) (ts : List Term) → way_atom exchanged (Pred p ts) ≡ Pred p ts
  way_pred true p ts = refl
  way_pred false p ts = refl

  way_true : (exchanged : Bool) → way_atom exchanged True ≡ True
  way_true true = refl
  way_true false = refl

  way_false : (exchanged : Bool) → way_atom exchanged False ≡ False
  way_false true = refl
  way_false false = refl

  -- atoms of one predicate
  pub becomes_args : (exchanged : Bool) (p : ℕ) (ts us : List Term) → k.atom ≡ Pred p ts → l.atom ≡ Pred p us → k.positive ≡ l.positive → (s : ℕ → Term) → map (image s) ts ≡ us → Becomes exchanged k l s
  becomes_args exchanged p ts us is be sign s e = becomes_by exchanged s sign (is_way exchanged s (Pred p ts) is ∙ way_pred exchanged p (map (image s) ts) ∙ ap (Pred p) e ∙ sym be)

  pub becomes_pred : (exchanged : Bool) (p : ℕ) (ts : List Term) → k.atom ≡ Pred p ts → (s : ℕ → Term) → Becomes exchanged k l s → l.atom ≡ Pred p (map (image s) ts)
  becomes_pred exchanged p ts is s h = sym (becomes_atom exchanged s h) ∙ is_way exchanged s (Pred p ts) is ∙ way_pred exchanged p (map (image s) ts)

  pub args_become : (exchanged : Bool) (p q : ℕ) (ts us : List Term) → k.atom ≡ Pred p ts → l.atom ≡ Pred q us → (s : ℕ → Term) → Becomes exchanged k l s → (p ≡ q) × (map (image s) ts ≡ us)
  args_become exchanged p q ts us is be s h =
      let same : Pred p (map (image s) ts) ≡ Pred q us = sym (becomes_pred exchanged p ts is s h) ∙ be in
      (cc, cc)

  -- truth and falsehood
  pub becomes_true : (exchanged : Bool) → k.atom ≡ True → (s : ℕ → Term) → Becomes exchanged k l s → l.atom ≡ True
  becomes_true exchanged is s h = sym (becomes_atom exchanged s h) ∙ is_way exchanged s True is ∙ way_true exchanged

  pub becomes_false : (exchanged : Bool) → k.atom ≡ False → (s : ℕ → Term) → Becomes exchanged k l s → l.atom ≡ False
  becomes_false exchanged is s h = sym (becomes_atom exchanged s h) ∙ is_way exchanged s False is ∙ way_false exchanged

  pub true_becomes : (exchanged : Bool) → k.atom ≡ True → l.atom ≡ True → k.positive ≡ l.positive → (s : ℕ → Term) → Becomes exchanged k l s
  true_becomes exchanged is be sign s = becomes_by exchanged s sign (is_way exchanged s True is ∙ way_true exchanged ∙ sym be)

  pub false_becomes : (exchanged : Bool) → k.atom ≡ False → l.atom ≡ False → k.positive ≡ l.positive → (s : ℕ → Term) → Becomes exchanged k l s
  false_becomes exchanged is be sign s = becomes_by exchanged s sign (is_way exchanged s False is ∙ way_false exchanged ∙ sym be)

  -- the sides of an equation
  abbrev pub way_sides : Bool → Term → Term → Term × Term
  way_sides true left right = (right, left)
  way_sides false left right = (left, right)

  way_eq : (exchanged : Bool) (s : ℕ → Term) (left right : Term) → way_atom exchanged (at_terms (image s) (Eq left right)) ≡ Eq (image s (way_sides exchanged left right).0) (image s (way_sides exchanged left right).1)
  way_eq true s left right = refl
  way_eq false s left right = refl

  pub becomes_eq : (exchanged : Bool) (left right : Term) → k.atom ≡ Eq left right → (s : ℕ → Term) → Becomes exchanged k l s → l.atom ≡ Eq (image s (way_sides exchanged left right).0) (image s (way_sides exchanged left right).1)
  becomes_eq exchanged left right is s h = sym (becomes_atom exchanged s h) ∙ is_way exchanged s (Eq left right) is ∙ way_eq exchanged s left right

  sides_become : (exchanged : Bool) (left right first second : Term) → k.atom ≡ Eq left right → l.atom ≡ Eq first second → (s : ℕ → Term) → Becomes exchanged k l s
      → BothBecome (way_sides exchanged left right).0 first (way_sides exchanged left right).1 second s
  sides_become exchanged left right first second is be s h =
      let same : Eq (image s (way_sides exchanged left right).0) (image s (way_sides exchanged left right).1) ≡ Eq first second = sym (becomes_eq exchanged left right is s h) ∙ be in
      (cc, cc)

  becomes_sides : (exchanged : Bool) (left right first second : Term) → k.atom ≡ Eq left right → l.atom ≡ Eq first second → k.positive ≡ l.positive → (s : ℕ → Term)
      → BothBecome (way_sides exchanged left right).0 first (way_sides exchanged left right).1 second s → Becomes exchanged k l s
  becomes_sides exchanged left right first second is be sign s e = becomes_by exchanged s sign (is_way exchanged s (Eq left right) is ∙ way_eq exchanged s left right ∙ (rw (e.0, e.1) refl) ∙ sym be)

  tried_as : (task : Task) (old new : Bindings) (P Q : (ℕ → Term) → Type 0) → ((s : ℕ → Term) → P s → Q s) → ((s : ℕ → Term) → Q s → P s) → (b : Bool) → IsTried task old new P b → IsTried task old new Q b
  tried_as task old new P Q to from true h = (h.0, record { forth = λ s g. let p = h.1.forth s g in (p.0, to s p.1); back = λ s g q. h.1.back s g (from s q) })
  tried_as task old new P Q to from false h = λ more s into g q. h more s into g (from s q)

  pub tried_sides : (task : Task) (old new : Bindings) (exchanged : Bool) (left right first second : Term) → k.atom ≡ Eq left right → l.atom ≡ Eq first second → k.positive ≡ l.positive
      → (b : Bool) → IsTried task old new (BothBecome (way_sides exchanged left right).0 first (way_sides exchanged left right).1 second) b → IsTried task old new (Becomes exchanged k l) b
  tried_sides task old new exchanged left right first second is be sign =
      tried_as task old new (BothBecome (way_sides exchanged left right).0 first (way_sides exchanged left right).1 second) (Becomes exchanged k l)
      (becomes_sides exchanged left right first second is be sign) (sides_become exchanged left right first second is be)

  -- as the code goes on after the test of `exchanged`
  pub tried_turned : (task : Task) (old new : Bindings) (exchanged : Bool) (left right first second : Term) → exchanged ≡ true → k.atom ≡ Eq left right → l.atom ≡ Eq first second → k.positive ≡ l.positive
      → (b : Bool) → IsTried task old new (BothBecome right first left second) b → IsTried task old new (Becomes exchanged k l) b
  tried_turned task old new exchanged left right first second at is be sign b h = subst (λ x. IsTried task old new (Becomes x k l) b) (sym at) (tried_sides task old new true left right first second is be sign b h)

  pub tried_straight : (task : Task) (old new : Bindings) (exchanged : Bool) (left right first second : Term) → exchanged ≡ false → k.atom ≡ Eq left right → l.atom ≡ Eq first second → k.positive ≡ l.positive
      → (b : Bool) → IsTried task old new (BothBecome left first right second) b → IsTried task old new (Becomes exchanged k l) b
  tried_straight task old new exchanged left right first second at is be sign b h = subst (λ x. IsTried task old new (Becomes x k l) b) (sym at) (tried_sides task old new false left right first second is be sign b h)

module _ (task : Task) (old new : Bindings) (table : IsTable task old) (k l : Lit) (sorted : is_sorted_atom task.signature.now (scope_of task.member.now) k.atom ≡ true)
    (wanted : is_sorted_atom task.signature.now (scope_of task.clause.now) l.atom ≡ true) where
  pub predicate_within : (p : ℕ) (ts : List Term) → k.atom ≡ Pred p ts → Each (IsWithin (length (images_of old))) ts
  predicate_within p ts is =
      let v = task.signature.now in
      let all = holds_found (sort_of_term v (scope_of task.member.now)) ts (slice_get v.symbols p) (sym (ap (is_sorted_atom v (scope_of task.member.now)) is) ∙ sorted) in
      All-from_recursion (IsWithin (length (images_of old))) ts (each_within v (scope_of task.member.now) (length (images_of old)) (sym table.size) ts all)

  predicates_keep : (p : ℕ) (ts us : List Term) → k.atom ≡ Pred p ts → l.atom ≡ Pred p us → IsOver old new → KeepsSorts old new ts us → IsTable task new
  predicates_keep p ts us is be over keeps =
      let v = task.signature.now in
      let one = held (slice_get v.symbols p) (map (sort_of_term v (scope_of task.member.now)) ts) (sym (ap (is_sorted_atom v (scope_of task.member.now)) is) ∙ sorted) in
      let two = held (slice_get v.symbols p) (map (sort_of_term v (scope_of task.clause.now)) us) (sym (ap (is_sorted_atom v (scope_of task.clause.now)) be) ∙ wanted) in
      let symbols : Some one.0 ≡ Some two.0 = sym one.1 ∙ two.1 in
      let they : one.0 ≡ two.0 = cc in
      record {
        size = over.size ∙ table.size;
        sorted = keeps v (scope_of task.member.now) (scope_of task.clause.now) one.0.args one.2 (subst (λ (x : Symbol). are_sorts (map (sort_of_term v (scope_of task.clause.now)) us) x.args ≡ true) (sym they) two.2) table.sorted;
      }

  pub tried_args : (exchanged : Bool) (p : ℕ) (ts us : List Term) → k.atom ≡ Pred p ts → l.atom ≡ Pred p us → k.positive ≡ l.positive → IsOver old new → KeepsSorts old new ts us
      → (b : Bool) → IsMatched old new (λ s. map (image s) ts ≡ us) b → IsTried task old new (Becomes exchanged k l) b
  tried_args exchanged p ts us is be sign over keeps true h = (
    predicates_keep p ts us is be over keeps,
    record {
      forth = λ s g. let a = h.forth s g in (a.0, becomes_args k l exchanged p ts us is be sign s a.1);
      back = λ s g e. h.back s g (args_become k l exchanged p p ts us is be s e).1;
    },
  )
  tried_args exchanged p ts us is be sign over keeps false h = λ more s into g e. h s g (args_become k l exchanged p p ts us is be s e).1

-- both sides of an equation, one after the other
module _ (task : Task) (old mid new : Bindings) (one first other second : Term) (table : IsTable task old) where
  abbrev pub sort_in : Term → Option ℕ
  sort_in t = sort_of_term task.signature.now (scope_of task.member.now) t

  abbrev pub sort_out : Term → Option ℕ
  sort_out t = sort_of_term task.signature.now (scope_of task.clause.now) t

  pub first_within : one_sort (sort_in one) (sort_in other) ≡ true → IsWithin (length (images_of old)) one
  first_within e =
      let both = one_sort_is (sort_in one) (sort_in other) e in
      record { vocabulary = task.signature.now; scope = scope_of task.member.now; sort = both.0; size = sym table.size; sorted = both.1 }

  pub other_within : one_sort (sort_in one) (sort_in other) ≡ true → IsOver old mid → IsWithin (length (images_of mid)) other
  other_within e over =
      let both = one_sort_is (sort_in one) (sort_in other) e in
      record { vocabulary = task.signature.now; scope = scope_of task.member.now; sort = both.0; size = sym (over.size ∙ table.size); sorted = both.2 }

  pub sorts_differ : (l r : Option ℕ) → one_sort (sort_in one) (sort_in other) ≡ true → one_sort (sort_out first) (sort_out second) ≡ true
      → ((x : ℕ) → sort_in one ≡ Some x → l ≡ Some x) → ((x : ℕ) → sort_out first ≡ Some x → r ≡ Some x) → one_sort l r ≡ false
      → (more : List ℕ) (s : ℕ → Term) → IsInto task more s → Agrees s (images_of old) → BothBecome one first other second s → ⊥
  sorts_differ l r e d left right fails = λ more s into g both.
      let here = one_sort_is (sort_in one) (sort_in other) e in
      let there = one_sort_is (sort_out first) (sort_out second) d in
      let same = sorts_meet task.signature.now (scope_of task.member.now) (scope_of task.clause.now) one first here.0 there.0 here.1 there.1 more s into both.0 in
      let yes = one_sort_again here.0 there.0 same in
      let answer : one_sort l r ≡ true = ap (λ x. one_sort x r) (left here.0 here.1) ∙ ap (one_sort (Some here.0)) (right there.0 there.1) ∙ yes in
      cc

  pub first_never : IsMatched old mid (λ s. image s one ≡ first) false → (more : List ℕ) (s : ℕ → Term) → IsInto task more s → Agrees s (images_of old) → BothBecome one first other second s → ⊥
  first_never h = λ more s into g both. h s g both.0

  pub never_first : (b : Bool) → b ≡ false → IsMatched old mid (λ s. image s one ≡ first) b → (more : List ℕ) (s : ℕ → Term) → IsInto task more s → Agrees s (images_of old) → BothBecome one first other second s → ⊥
  never_first b is h = first_never (subst (IsMatched old mid (λ s. image s one ≡ first)) is h)

  sorted_both : (l r : Option ℕ) → one_sort (sort_in one) (sort_in other) ≡ true → one_sort (sort_out first) (sort_out second) ≡ true
      → ((x : ℕ) → sort_in one ≡ Some x → l ≡ Some x) → ((x : ℕ) → sort_out first ≡ Some x → r ≡ Some x) → one_sort l r ≡ true
      → IsOver old mid → IsOver mid new → KeepsSort old mid one first → KeepsSort mid new other second → IsTable task new
  sorted_both l r e d left right meet over again keeps keeps_other =
      let v = task.signature.now in
      let here = one_sort_is (sort_in one) (sort_in other) e in
      let there = one_sort_is (sort_out first) (sort_out second) d in
      let answer = sym (ap (λ x. one_sort x r) (left here.0 here.1) ∙ ap (one_sort (Some here.0)) (right there.0 there.1)) ∙ meet in
      let same : here.0 ≡ there.0 = eqb-true here.0 there.0 answer in
      let mid_sorted = keeps v (scope_of task.member.now) (scope_of task.clause.now) here.0 here.1 (there.1 ∙ ap Some (sym same)) table.sorted in
      record {
        size = again.size ∙ over.size ∙ table.size;
        sorted = keeps_other v (scope_of task.member.now) (scope_of task.clause.now) here.0 here.2 (there.2 ∙ ap Some (sym same)) mid_sorted;
      }

  both_parts : (l r : Option ℕ) → one_sort (sort_in one) (sort_in other) ≡ true → one_sort (sort_out first) (sort_out second) ≡ true
      → ((x : ℕ) → sort_in one ≡ Some x → l ≡ Some x) → ((x : ℕ) → sort_out first ≡ Some x → r ≡ Some x) → one_sort l r ≡ true
      → IsOver old mid → IsOver mid new → KeepsSort old mid one first → KeepsSort mid new other second
      → IsMatched old mid (λ s. image s one ≡ first) true
      → (b : Bool) → IsMatched mid new (λ s. image s other ≡ second) b → IsTried task old new (BothBecome one first other second) b
  both_parts l r e d left right meet over again keeps keeps_other h true g = (
    sorted_both l r e d left right meet over again keeps keeps_other,
    record {
      forth = λ s a. let last = g.forth s a in let start = h.forth s last.0 in (start.0, (start.1, last.1));
      back = λ s a both. g.back s (h.back s a both.0) both.1;
    },
  )
  both_parts l r e d left right meet over again keeps keeps_other h false g = λ more s into a both. g s (h.back s a both.0) both.1

  pub both_tried : (l r : Option ℕ) → one_sort (sort_in one) (sort_in other) ≡ true → one_sort (sort_out first) (sort_out second) ≡ true
      → ((x : ℕ) → sort_in one ≡ Some x → l ≡ Some x) → ((x : ℕ) → sort_out first ≡ Some x → r ≡ Some x) → one_sort l r ≡ true
      → IsOver old mid → IsOver mid new → KeepsSort old mid one first → KeepsSort mid new other second
      → (one_is : Bool) → one_is ≡ true → IsMatched old mid (λ s. image s one ≡ first) one_is
      → (b : Bool) → IsMatched mid new (λ s. image s other ≡ second) b → IsTried task old new (BothBecome one first other second) b
  both_tried l r e d left right meet over again keeps keeps_other one_is is h b g =
      both_parts l r e d left right meet over again keeps keeps_other (subst (IsMatched old mid (λ s. image s one ≡ first)) is h) b g
