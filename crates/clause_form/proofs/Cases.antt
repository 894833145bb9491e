-- The cases of joined nodes and quantifiers, as code meets them.
use Rattle.std.specs.Prelude.{ℕ, Bool, true, false, not, List, [], ◌≡◌}
use Rattle.std.specs.List.{list_any}
use Rattle.std.proofs.Common.{sym, ◌∙◌}
use Rattle.fof_terms.specs.Variables.{has_variable}
use Rattle.fof_terms.specs.declared.form.Form.{Form, All, Ex}
use Rattle.clause_form.specs.Norm.{node, ends, alone, joined_flat, quantified}
use Rattle.clause_form.proofs.NormFacts.{joined_flat-ended, joined_flat-alone, quantified-kept}

pub kept_all : (g found : Bool) (s : ℕ) (a b : Form) → g ≡ true → found ≡ has_variable 0 a → found ≡ true → b ≡ a → All s b ≡ quantified g s a
kept_all g found s a b e f t same = rw (e, same) (sym (quantified-kept true s a (sym f ∙ t)))

pub kept_ex : (g found : Bool) (s : ℕ) (a b : Form) → g ≡ false → found ≡ has_variable 0 a → found ≡ true → b ≡ a → Ex s b ≡ quantified g s a
kept_ex g found s a b e f t same = rw (e, same) (sym (quantified-kept false s a (sym f ∙ t)))

pub ended : (g found : Bool) (flat lent : List Form) (made : Form) → lent ≡ flat → found ≡ list_any (ends g) lent → found ≡ true → made ≡ node (not g) [] → made ≡ joined_flat g flat
ended g found flat lent made l f t m =
    let at : list_any (ends g) flat ≡ true = rw (sym l, sym f) t in
    m ∙ sym (joined_flat-ended g flat at)

pub not_ended : (g found : Bool) (flat lent : List Form) (made : Form) → lent ≡ flat → found ≡ list_any (ends g) lent → found ≡ false → made ≡ alone g flat → made ≡ joined_flat g flat
not_ended g found flat lent made l f t m =
    let at : list_any (ends g) flat ≡ false = rw (sym l, sym f) t in
    m ∙ sym (joined_flat-alone g flat at)
