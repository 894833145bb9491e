-- Lemmas on what specs/Parts defines.
use Rattle.std.specs.Prelude.{ℕ, ◌≡◌, List, [], ◌∷◌, map, flat_map, refl}
use Rattle.std.proofs.Common.{ap, ◌∙◌, ◌⊎◌, inl, inr}
use Rattle.std.specs.List.{AllByRecursion}
use Rattle.std.proofs.lemmas.List.Folds.{flat_map-map}
use Rattle.fof_terms.proofs.Trees.{fold-Atom, fold-Eq, fold-Not, fold-And, fold-Or, fold-Imp, fold-Iff, fold-All, fold-Ex}
use Rattle.fof_terms.proofs.Induction.{form_induction}
use Rattle.fof_terms.specs.declared.term.Term.{Term}
use Rattle.fof_terms.specs.declared.form.Form.{Form, Atom, Eq, Not, And, Or, Imp, Iff, All, Ex}
use Rattle.norm_parts.specs.Parts.{Parted, whole_of, own_parts, parts_step, parted, parts_of}
use Rattle.fof_terms.specs.declared.form.Form.TheOpen as form

-- The equations of these words.
parted-Atom : (p : ℕ) (ts : List Term) → parted (Atom p ts) ≡ parts_step (form.Atom p ts)
unfolding parted
parted-Atom p ts = fold-Atom (Parted) parts_step p ts

parted-Eq : (l r : Term) → parted (Eq l r) ≡ parts_step (form.Eq l r)
unfolding parted
parted-Eq l r = fold-Eq (Parted) parts_step l r

parted-Not : (a : Form) → parted (Not a) ≡ parts_step (form.Not (parted a))
unfolding parted
parted-Not a = fold-Not (Parted) parts_step a

parted-And : (as_ : List Form) → parted (And as_) ≡ parts_step (form.And (map parted as_))
unfolding parted
parted-And as_ = fold-And (Parted) parts_step as_

parted-Or : (as_ : List Form) → parted (Or as_) ≡ parts_step (form.Or (map parted as_))
unfolding parted
parted-Or as_ = fold-Or (Parted) parts_step as_

parted-Imp : (a b : Form) → parted (Imp a b) ≡ parts_step (form.Imp (parted a) (parted b))
unfolding parted
parted-Imp a b = fold-Imp (Parted) parts_step a b

parted-Iff : (a b : Form) → parted (Iff a b) ≡ parts_step (form.Iff (parted a) (parted b))
unfolding parted
parted-Iff a b = fold-Iff (Parted) parts_step a b

parted-All : (s : ℕ) (a : Form) → parted (All s a) ≡ parts_step (form.All s (parted a))
unfolding parted
parted-All s a = fold-All (Parted) parts_step s a

parted-Ex : (s : ℕ) (a : Form) → parted (Ex s a) ≡ parts_step (form.Ex s (parted a))
unfolding parted
parted-Ex s a = fold-Ex (Parted) parts_step s a

-- the whole of what is parted is the formula
abbrev IsWhole : Form → Type 0
IsWhole a = whole_of (parted a) ≡ a

wholes : (as_ : List Form) → AllByRecursion IsWhole as_ → map whole_of (map parted as_) ≡ as_
wholes [] all = refl
wholes (a ∷ as_) all = let first = all.0 in let rest = wholes as_ all.1 in cc

two_wholes : (f : Form → Form → Form) (a b : Form) → IsWhole a → IsWhole b → f (whole_of (parted a)) (whole_of (parted b)) ≡ f a b
two_wholes f a b e g = cc

is_whole : (a : Form) → IsWhole a
is_whole = form_induction _ (record {
  atom = λ p ts. ap whole_of (parted-Atom p ts);
  eq = λ l r. ap whole_of (parted-Eq l r);
  not = λ a ih. ap whole_of (parted-Not a) ∙ ap Not ih;
  and = λ as_ all. ap whole_of (parted-And as_) ∙ ap And (wholes as_ all);
  or = λ as_ all. ap whole_of (parted-Or as_) ∙ ap Or (wholes as_ all);
  imp = λ a b ih jh. ap whole_of (parted-Imp a b) ∙ two_wholes Imp a b ih jh;
  iff = λ a b ih jh. ap whole_of (parted-Iff a b) ∙ two_wholes Iff a b ih jh;
  all = λ s a ih. ap whole_of (parted-All s a) ∙ ap (All s) ih;
  ex = λ s a ih. ap whole_of (parted-Ex s a) ∙ ap (Ex s) ih;
})

all_wholes : (as_ : List Form) → map whole_of (map parted as_) ≡ as_
all_wholes [] = refl
all_wholes (a ∷ as_) = let first = is_whole a in let rest = all_wholes as_ in cc

pub parts_of-Atom : (p : ℕ) (ts : List Term) → parts_of (Atom p ts) ≡ Atom p ts ∷ []
parts_of-Atom p ts = ap own_parts (parted-Atom p ts)

pub parts_of-Eq : (l r : Term) → parts_of (Eq l r) ≡ Eq l r ∷ []
parts_of-Eq l r = ap own_parts (parted-Eq l r)

pub parts_of-Not : (a : Form) → parts_of (Not a) ≡ Not a ∷ []
parts_of-Not a = ap own_parts (parted-Not a) ∙ ap (λ (x : Form). Not x ∷ []) (is_whole a)

pub parts_of-And : (as_ : List Form) → parts_of (And as_) ≡ flat_map parts_of as_
parts_of-And as_ = ap own_parts (parted-And as_) ∙ flat_map-map own_parts parted as_

pub parts_of-Or : (as_ : List Form) → parts_of (Or as_) ≡ Or as_ ∷ []
parts_of-Or as_ = ap own_parts (parted-Or as_) ∙ ap (λ (xs : List Form). Or xs ∷ []) (all_wholes as_)

pub parts_of-Imp : (a b : Form) → parts_of (Imp a b) ≡ Imp a b ∷ []
parts_of-Imp a b = ap own_parts (parted-Imp a b) ∙ ap (λ (x : Form). x ∷ []) (two_wholes Imp a b (is_whole a) (is_whole b))

pub parts_of-Iff : (a b : Form) → parts_of (Iff a b) ≡ Iff a b ∷ []
parts_of-Iff a b = ap own_parts (parted-Iff a b) ∙ ap (λ (x : Form). x ∷ []) (two_wholes Iff a b (is_whole a) (is_whole b))

pub parts_of-All : (s : ℕ) (a : Form) → parts_of (All s a) ≡ map (All s) (parts_of a)
parts_of-All s a = ap own_parts (parted-All s a)

pub parts_of-Ex : (s : ℕ) (a : Form) → parts_of (Ex s a) ≡ Ex s a ∷ []
parts_of-Ex s a = ap own_parts (parted-Ex s a) ∙ ap (λ (x : Form). Ex s x ∷ []) (is_whole a)

pub ruleset parts_of_equations = (parts_of-Atom, parts_of-Eq, parts_of-Not, parts_of-And, parts_of-Or, parts_of-Imp, parts_of-Iff, parts_of-All, parts_of-Ex)

-- neither a conjunction nor a universal quantifier
abbrev pub IsOther : Form → Type 0
IsOther a =
    ((p : ℕ) × (ts : List Term) × (a ≡ Atom p ts))
    ⊎ (((l : Term) × (r : Term) × (a ≡ Eq l r))
    ⊎ (((b : Form) × (a ≡ Not b)) ⊎ (((bs : List Form) × (a ≡ Or bs)) ⊎ (((b : Form) × (c : Form) × (a ≡ Imp b c)) ⊎ (((b : Form) × (c : Form) × (a ≡ Iff b c)) ⊎ ((s : ℕ) × (b : Form) × (a ≡ Ex s b)))))))

pub only_part : (a : Form) → IsOther a → parts_of a ≡ a ∷ []
only_part a (inl (p, ts, e)) = rw e (parts_of-Atom p ts)
only_part a (inr (inl (l, r, e))) = rw e (parts_of-Eq l r)
only_part a (inr (inr (inl (b, e)))) = rw e (parts_of-Not b)
only_part a (inr (inr (inr (inl (bs, e))))) = rw e (parts_of-Or bs)
only_part a (inr (inr (inr (inr (inl (b, c, e)))))) = rw e (parts_of-Imp b c)
only_part a (inr (inr (inr (inr (inr (inl (b, c, e))))))) = rw e (parts_of-Iff b c)
only_part a (inr (inr (inr (inr (inr (inr (s, b, e))))))) = rw e (parts_of-Ex s b)
