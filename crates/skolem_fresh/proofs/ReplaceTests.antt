-- Functions that may take the place of an existential variable, as code meets them.
use Rattle.std.specs.Prelude.{ℕ, ◌≡◌, ◌<◌, ◌^◌, Bool, true, false, IsTrue, ◌↔◌, nat_eq, List, [], ◌∷◌, ◌++◌, map, Option, Some, None}
use Rattle.std.specs.List.{IsDistinct}
use Rattle.std.proofs.Common.{ap, sym, subst, ◌∙◌}
use Rattle.fof_terms.specs.declared.term.Term.{Term}
use Rattle.fof_terms.specs.declared.form.Form.{Form, Ex}
use Rattle.fof_terms.specs.Instance.{instance_of, instance_reach}
use Rattle.fof_terms.specs.Sorts.{sort_of_term}
use Rattle.fof_terms.specs.Variables.{has_variable}
use Rattle.fof_terms.specs.Vocabulary.{Vocabulary}
use Rattle.skolem_fresh.specs.declared.just.Use.{Use}
use Rattle.skolem_fresh.specs.declared.leaves.Leaf.{Leaf}
use Rattle.skolem_fresh.specs.Choosing.{IsWithin}
use Rattle.skolem_fresh.specs.code.Leaves.{leaves_of}
use Rattle.skolem_fresh.specs.code.Only.{only_has}
use Rattle.skolem_fresh.proofs.OnlyFacts.{only_has-Ex}
use Rattle.skolem_fresh.specs.code.Reading.{read_from, outward}
use Rattle.skolem_fresh.specs.SkolemRule.{MayReplace}
use Rattle.skolem_fresh.specs.code.Skolemizing.{IsFunctionFor, IsReplaced}
use Rattle.skolem_fresh.specs.Uses.{value_of}
use Rattle.skolem_fresh.proofs.Chosen.{only_arguments, arguments_only, not_true, is_true}
use Rattle.skolem_fresh.proofs.Opened.{read_sort, value_reaches}

-- the tests of one function
module _ (v : Vocabulary) (scope : List ℕ) (u : Use) (s : ℕ) (body : Form) (xs : List ℕ) (ex : xs ≡ u.variables) where
  pub repeated : (d : Bool) → d ≡ false → (IsTrue d ↔ IsDistinct nat_eq xs) → MayReplace v scope u s body → ⊥
  repeated d off test m = not_true d (IsDistinct nat_eq xs) off test (subst (IsDistinct nat_eq) (sym ex) m.arguments.distinct)

  its_only : only_has xs 1 body ≡ only_has u.variables 0 (Ex s body)
  its_only = ap (λ ys. only_has ys 1 body) ex ∙ sym (only_has-Ex u.variables 0 s body)

  pub another_free : (o : Bool) → o ≡ false → o ≡ only_has xs 1 body → MayReplace v scope u s body → ⊥
  another_free o off is m = let on_ : o ≡ true = is ∙ its_only ∙ arguments_only u.variables (Ex s body) m.arguments in cc

  pub replace_test : (d o r : Bool) (value : Term) → d ≡ true → (IsTrue d ↔ IsDistinct nat_eq xs) → o ≡ true → o ≡ only_has xs 1 body → value ≡ value_of u → u.sort ≡ s
      → (IsTrue r → sort_of_term v scope value ≡ Some u.sort) × (sort_of_term v scope value ≡ Some u.sort → IsTrue r) → (IsTrue r → MayReplace v scope u s body) × (MayReplace v scope u s body → IsTrue r)
  replace_test d o r value on_ test only is ev es sorted = (
    λ t. record {
      sort = es;
      arguments = only_arguments u.variables (Ex s body) (subst (IsDistinct nat_eq) ex (is_true d (IsDistinct nat_eq xs) on_ test)) (sym its_only ∙ sym is ∙ only);
      fits = ap (sort_of_term v scope) (sym ev) ∙ sorted.0 t;
    },
    λ m. sorted.1 (ap (sort_of_term v scope) ev ∙ m.fits),
  )

-- the function that is read off
module _ (v : Vocabulary) (scope : List ℕ) (outer s : ℕ) (body : Form) (leaves : List Leaf) where
  pub no_variable : (b : Bool) → b ≡ false → b ≡ has_variable 0 body → IsFunctionFor v scope outer s body leaves None
  no_variable b off is has u e m = cc

  module _ (slice : List Leaf) (own : slice ≡ leaves_of 0 body) (r : Option Use) (is_read : r ≡ read_from outer s slice leaves) where
    same_read : r ≡ read_from outer s (leaves_of 0 body) leaves
    same_read = is_read ∙ ap (λ ls. read_from outer s ls leaves) own

    pub none_found : r ≡ None → IsFunctionFor v scope outer s body leaves None
    none_found e has u at m = let both : None ≡ Some u = sym e ∙ same_read ∙ at in cc

    module _ (found : Use) (there : r ≡ Some found) where
      is_found : read_from outer s (leaves_of 0 body) leaves ≡ Some found
      is_found = sym same_read ∙ there

      its_sort : found.sort ≡ s
      its_sort = read_sort s (leaves_of 0 body) (map (outward outer) leaves) found is_found

      one_use : (u w : Use) (x : Option Use) → x ≡ Some u → x ≡ Some w → u ≡ w
      one_use u w x e f = cc

      pub found_room : IsWithin v scope (Ex s body) → IsWithin v scope (Ex found.sort body)
      found_room w = subst (λ q. IsWithin v scope (Ex q body)) (sym its_sort) w

      pub unfit : (b : Bool) → b ≡ false → (IsTrue b ↔ MayReplace v scope found found.sort body) → IsFunctionFor v scope outer s body leaves None
      unfit b off test has u at m =
          let same : u ≡ found = one_use u found (read_from outer s (leaves_of 0 body) leaves) at is_found in
          let m' : MayReplace v scope found found.sort body = subst (λ q. MayReplace v scope found q body) (sym its_sort) (subst (λ w. MayReplace v scope w s body) same m) in
          not_true b (MayReplace v scope found found.sort body) off test m'

      pub fit : (b : Bool) → b ≡ true → (IsTrue b ↔ MayReplace v scope found found.sort body) → IsFunctionFor v scope outer s body leaves (Some found)
      fit b on_ test = (is_found, subst (λ q. MayReplace v scope found q body) its_sort (is_true b (MayReplace v scope found found.sort body) on_ test))

-- its value, and the body with it
module _ (v : Vocabulary) (scope : List ℕ) (outer s : ℕ) (body : Form) (leaves : List Leaf) (answer : Option Use) (found : Use) (there : answer ≡ Some found) (f : IsFunctionFor v scope outer s body leaves answer) (value : Term)
    (ev : value ≡ value_of found) where
  function : IsFunctionFor v scope outer s body leaves (Some found)
  function = subst (IsFunctionFor v scope outer s body leaves) there f

  pub found_reaches : IsWithin v scope (Ex s body) → instance_reach value 0 body < 2 ^ 32
  found_reaches w =
      let m : MayReplace v scope found s body = function.1 in
      value_reaches v scope s body w value (ap (sort_of_term v scope) ev ∙ m.fits ∙ ap Some m.sort)

  pub found_replaced : (old new : List Use) (made next : Form) → new ≡ old ++ found ∷ [] → made ≡ instance_of body value → next ≡ made → IsReplaced v scope outer s body leaves old new (Some next)
  found_replaced old new made next en em e = (found, function, en, e ∙ em ∙ ap (instance_of body) ev)

pub none_replaced : (v : Vocabulary) (scope : List ℕ) (outer s : ℕ) (body : Form) (leaves : List Leaf) (answer : Option Use) (old new : List Use) → answer ≡ None → IsFunctionFor v scope outer s body leaves answer → IsReplaced v scope outer s body leaves old new None
none_replaced v scope outer s body leaves answer old new e f = subst (IsFunctionFor v scope outer s body leaves) e f
