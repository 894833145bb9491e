-- A formula with functions lacks a symbol that the formula lacks and that is no function of its.
use Rattle.std.specs.Prelude.{ℕ, ◌≡◌, ◌==◌, ◌&&◌, false, List, [], ◌∷◌, ◌++◌, refl}
use Rattle.std.specs.List.{list_any}
use Rattle.std.proofs.Common.{sym, ◌∙◌}
use Rattle.fof_terms.specs.declared.form.Form.{Form}
use Rattle.fof_terms.specs.Instance.{instance_of}
use Rattle.fof_terms.specs.Occurs.{occurs_in, occurs_in_term}
use Rattle.fof_terms.proofs.OccursFacts.{occurs_in-And, occurs_in-Or, occurs_in-All, occurs_in-Ex}
use Rattle.fof_terms.specs.Variables.{has_variable}
use Rattle.fof_terms.specs.Vocabulary.{Vocabulary}
use Rattle.skolem_fresh.specs.declared.just.Use.{Use}
use Rattle.skolem_fresh.specs.SkolemRule.{IsSkolemized, AreSkolemized, an_atom, an_equation, a_negation, a_conjunction, a_disjunction, for_each, for_some, none, more}
use Rattle.skolem_fresh.specs.Uses.{value_of}
use Rattle.skolem_fresh.proofs.Entering.{neither, both_false, no_and, value_occurs}
use Rattle.skolem_fresh.proofs.Occurring.{instance_occurs}
use Rattle.skolem_proofs.specs.Choosing.{AreOthers}

pub both_others : (k : ℕ) (first rest : List Use) → AreOthers k (first ++ rest) → AreOthers k first × AreOthers k rest
both_others k [] rest h = (tt, h)
both_others k (u ∷ first) rest h = let parts = both_others k first rest h.1 in ((h.0, parts.0), parts.1)

pub value_off : (k : ℕ) (u : Use) (a : Form) → (u.function == k) ≡ false → occurs_in k a ≡ false → occurs_in k (instance_of a (value_of u)) ≡ false
value_off k u a other off =
    let x = value_of u in
    let absent : occurs_in_term k x ≡ false = value_occurs k u.function u.variables ∙ other in
    instance_occurs k x a 0 ∙ both_false (occurs_in k a) (has_variable 0 a && occurs_in_term k x) off (no_and (has_variable 0 a) (occurs_in_term k x) absent)

module _ (k : ℕ) (v : Vocabulary) where
  mutual
    pub made_lacks : (scope : List ℕ) (uses : List Use) (a b : Form) → IsSkolemized v scope uses a b → occurs_in k a ≡ false → AreOthers k uses → occurs_in k b ≡ false
    made_lacks scope uses a b (an_atom sc p ts) off others = off
    made_lacks scope uses a b (an_equation sc l r) off others = off
    made_lacks scope uses a b (a_negation sc c) off others = off
    made_lacks scope uses a b (a_conjunction sc us as_ bs h) off others = occurs_in-And k bs ∙ all_lack sc us as_ bs h (sym (occurs_in-And k as_) ∙ off) others
    made_lacks scope uses a b (a_disjunction sc us as_ bs h) off others = occurs_in-Or k bs ∙ all_lack sc us as_ bs h (sym (occurs_in-Or k as_) ∙ off) others
    made_lacks scope uses a b (for_each sc us s c d h) off others = occurs_in-All k s d ∙ made_lacks (s ∷ sc) us c d h (sym (occurs_in-All k s c) ∙ off) others
    made_lacks scope uses a b (for_some sc u rest s c d m h) off others = made_lacks sc rest (instance_of c (value_of u)) d h (value_off k u c others.0 (sym (occurs_in-Ex k s c) ∙ off)) others.1

    all_lack : (scope : List ℕ) (uses : List Use) (as_ bs : List Form) → AreSkolemized v scope uses as_ bs → list_any (occurs_in k) as_ ≡ false → AreOthers k uses → list_any (occurs_in k) bs ≡ false
    all_lack scope uses as_ bs (none sc) off others = refl
    all_lack scope uses as_ bs (more sc first rest a b cs ds h g) off others =
        let parts = neither (occurs_in k a) (list_any (occurs_in k) cs) off in
        let two = both_others k first rest others in
        both_false (occurs_in k b) (list_any (occurs_in k) ds) (made_lacks sc first a b h parts.0 two.0) (all_lack sc rest cs ds g parts.1 two.1)
