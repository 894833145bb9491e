-- The readers of trees: a name, and then the arguments that it has.
use Rattle.std.proofs.Common.{◌≡◌, ℕ, suc, ◌+◌, ◌<◌, ◌≤◌, List, [], ◌∷◌, ◌++◌, Some, inr, refl, sym, ◌∙◌, ap, subst, append_assoc, arith}
use Rattle.first_fault.specs.Nesting.{Nested, behind}
use Rattle.first_fault.specs.code.Reading.{Reader, and_then}
use Rattle.first_fault.specs.Rules.{Rule}
use Rattle.first_fault.proofs.Exact.{Inhabited, exact_then, exact_stop}
use Rattle.first_fault.proofs.Found.{Found}
use Rattle.first_fault.proofs.Good.{Good, After, after, good_then, good_opened, Parts, always}
use Rattle.proof_log.specs.Words.{Word, node, deeper, nested, at_level, AreInRange}
use Rattle.proof_log.specs.code.ReadWords.{is_byte, find, name, deep_name, head, deep_head}
use Rattle.proof_log.specs.code.ReadTrees.{behind as read_behind, nothing}
use Rattle.proof_log.proofs.Spelling.{Spell, ends, nested-deeper, ranges-deeper, ranges-shallower}
use Rattle.proof_log.proofs.NumberReader.{is_kind}
use Rattle.proof_log.proofs.NameReader.{Named, Over, over_name, good_name, good_deep_name}

-- the bytes of a tree: a blank, its name, and its arguments
node_on : (d : ℕ) (name : List ℕ) (arguments : List Word) (rest : List (Nested ℕ)) → nested d (node name arguments) ++ rest ≡ (32, 0) ∷ (at_level (d + 1) name ++ (nested (suc d) arguments ++ rest))
node_on d name arguments rest =
    ap (λ l. (32, 0) ∷ l) (append_assoc (at_level (d + 1) name) (nested d (deeper arguments)) rest ∙ ap (λ l. at_level (d + 1) name ++ (l ++ rest)) (nested-deeper d arguments))

module _ {W A : Type 0} (spell : W → List ℕ) (table : List W) (some : W) (found_all : (w : W) (r : List ℕ) → find spell table (spell w ++ r) ≡ Some w)
    (words : A → List Word) (head_of : A → W) (args_of : A → List Word) (is_node : (x : A) → words x ≡ node (spell (head_of x)) (args_of x)) (limit d : ℕ) where
  -- the tree has this name, and its arguments stand there
  abbrev pub Args : W → Rule ℕ A
  Args w x ts rest = (head_of x ≡ w) × Spell args_of (suc d) x ts rest

  abbrev Head : Rule ℕ W
  Head = After 32 0 (λ w. w) (Named spell (d + 1))

  tree_text : (x : A) (rest : List (Nested ℕ)) → nested d (words x) ++ rest ≡ (32, 0) ∷ (at_level (d + 1) (spell (head_of x)) ++ (nested (suc d) (args_of x) ++ rest))
  tree_text x rest = ap (λ ws. nested d ws ++ rest) (is_node x) ∙ node_on d (spell (head_of x)) (args_of x) rest

  joined : (x : A) (us mid rest : List (Nested ℕ)) → us ≡ at_level (d + 1) (spell (head_of x)) ++ mid → Spell args_of (suc d) x mid rest → Spell words d x ((32, 0) ∷ us) rest
  joined x us mid rest h k =
      (ap (λ l. (32, 0) ∷ l) (h ∙ ap (λ l. at_level (d + 1) (spell (head_of x)) ++ l) k.0) ∙ sym (tree_text x rest), subst AreInRange (sym (is_node x)) (tt, ranges-deeper (args_of x) k.1))

  join : (w : W) (x : A) (ts mid rest : List (Nested ℕ)) → Head w ts mid → Args w x mid rest → Spell words d x ts rest
  join w x ts mid rest (after {ts = us} h) k = joined x us mid rest (h ∙ ap (λ v. at_level (d + 1) (spell v) ++ mid) (sym k.0)) k.1

  args_range : (x : A) → AreInRange (words x) → AreInRange (args_of x)
  args_range x h = let r : AreInRange (node (spell (head_of x)) (args_of x)) = subst AreInRange (is_node x) h in ranges-shallower (args_of x) r.1

  head_at : (x : A) (ts rest : List (Nested ℕ)) → Spell words d x ts rest → Head (head_of x) ts (nested (suc d) (args_of x) ++ rest)
  head_at x ts rest h = subst (λ us. Head (head_of x) us (nested (suc d) (args_of x) ++ rest)) (sym (h.0 ∙ tree_text x rest)) (after refl)

  split : (x : A) (ts rest : List (Nested ℕ)) → Spell words d x ts rest → Parts Head Args always x ts rest
  split x ts rest h = record {
    value = head_of x;
    mid = nested (suc d) (args_of x) ++ rest;
    first = head_at x ts rest h;
    second = (refl, (refl, args_range x h.1));
    ends = refl;
  }

  pub good_tree : d + 1 ≤ limit → (by : W → Reader ℕ A) → ((w : W) → Good limit (by w) (Args w) ends) → Good limit (read_behind (head spell table) by) (Spell words d) ends
  unfolding head
  good_tree fits by good =
      good_then limit (head spell table) by Head Args (Spell words d) always ends
      (good_opened (is_byte 32) 32 (is_kind 32) limit 0 (omega arith) (name spell table) (Named spell (d + 1)) always (good_name spell table some found_all limit (d + 1) fits))
      (λ w can. good w) join (λ x ts rest h e. split x ts rest h)

  -- ---- where the tree is nested too deep

  module _ (deep : limit < d + 1) (filled : (w : W) → (b : ℕ) × (more : List ℕ) × (spell w ≡ b ∷ more)) (samples : (w : W) → Inhabited (Args w)) where
    sample_range : {w : W} (x : A) (ts rest : List (Nested ℕ)) → Args w x ts rest → AreInRange (words x)
    sample_range x ts rest h = subst AreInRange (sym (is_node x)) (tt, ranges-deeper (args_of x) h.1.1)

    good_head : Good limit (deep_head spell table) Head always
    unfolding deep_head
    good_head = good_opened (is_byte 32) 32 (is_kind 32) limit 0 (omega arith) (deep_name spell table) (Named spell (d + 1)) always (good_deep_name spell table some found_all limit (d + 1) deep filled)

    abbrev tree : Reader ℕ A
    tree = read_behind (deep_head spell table) nothing

    over_at : (x : A) (ts rest us : List (Nested ℕ)) → ts ≡ (32, 0) ∷ us → Over spell table some found_all limit (d + 1) deep filled us → Found limit tree x ts rest
    unfolding deep_head
    over_at x ts rest us e h = subst (λ vs. Found limit tree x vs rest) (sym e) (inr (h.0, behind (omega arith) h.1, ap (λ o. and_then o nothing) h.2))

    found_tree : (x : A) (ts rest : List (Nested ℕ)) → Spell words d x ts rest → Found limit tree x ts rest
    found_tree x ts rest h =
        over_at x ts rest (at_level (d + 1) (spell (head_of x)) ++ (nested (suc d) (args_of x) ++ rest)) (h.0 ∙ tree_text x rest)
        (over_name spell table some found_all limit (d + 1) deep filled (head_of x) (at_level (d + 1) (spell (head_of x)) ++ (nested (suc d) (args_of x) ++ rest)) (nested (suc d) (args_of x) ++ rest) refl)

    some_tree : Inhabited (Spell words d)
    some_tree =
        let x = samples some in
        record { value = x.value; text = λ more. nested d (words x.value) ++ more; spells = λ more. (refl, sample_range x.value (x.text []) [] (x.spells [])) }

    pub good_deep_tree : Good limit tree (Spell words d) ends
    good_deep_tree = record {
      exact = λ ts. exact_then (deep_head spell table) nothing Head Args (Spell words d) limit join ts (deep_head spell table ts) (good_head.exact ts) (λ w can. samples w)
          (λ w mid can. exact_stop (nothing w) (Args w) limit mid (samples w) (λ other e. refl));
      found = λ x ts rest h e. found_tree x ts rest h;
      some = some_tree;
    }
