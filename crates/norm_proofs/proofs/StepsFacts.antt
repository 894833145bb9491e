-- Lemmas on what specs/code/Steps defines.
use Rattle.std.specs.Prelude.{ℕ, ◌≡◌, Bool, true, false, not, ◌+◌, ◌<◌, ◌≤◌, length, List, [], ◌∷◌, refl}
use Rattle.std.proofs.Common.{arith, sym}
use Rattle.fof_terms.specs.declared.form.Form.{Form, Not, Imp}
use Rattle.fof_terms.specs.Sorts.{Sorted}
use Rattle.fof_terms.proofs.Scoped.{not_sorted, sorted_of_not}
use Rattle.kernel.specs.Statements.{Statements}
use Rattle.kernel.specs.Proves.{Proves}
use Rattle.kernel.proofs.Building.{by_imp_i, by_imp_e, by_not_i, by_not_e, by_raa}
use Rattle.kernel.specs.declared.proof.Proof.{Proof, Hyp, ImpI, ImpE, NotI, NotE}
use Rattle.norm_proofs.specs.code.Applying.{applied, is_itself}
use Rattle.norm_proofs.specs.code.Steps.{Between, chain_tree, then_tree, denied_tree, twice_denied_tree}
use Rattle.norm_proofs.proofs.ApplyingFacts.{same_sides, by_applied}
use Rattle.derive_kit.proofs.Members.{first, second, left_sorted, right_sorted}

-- the second formula is well-sorted where the first is
pub other_sorted : (forth : Bool) (n : ℕ) (p : Proof) (a b : Form) → Between forth n p a b → (t : Statements) (v : List ℕ) → n + length v < 2147483647 → Sorted t.vocabulary v a → Sorted t.vocabulary v b
other_sorted true n p a b l t v room s = right_sorted t v [] p a b (l t v [] room s)
other_sorted false n p a b l t v room s = left_sorted t v [] p b a (l t v [] room s)

-- what needs less room
pub roomier : (forth : Bool) (n m : ℕ) (p : Proof) (a b : Form) → n ≤ m → Between forth n p a b → Between forth m p a b
roomier forth n m p a b le l t v h room s = l t v h (omega arith) s

pub same_shows : (forth : Bool) (n : ℕ) (a : Form) → Between forth n (ImpI a (Hyp 0)) a a
same_shows true n a t v h room s = by_imp_i t v h a a (Hyp 0) s (first t v h a s)
same_shows false n a t v h room s = by_imp_i t v h a a (Hyp 0) s (first t v h a s)

chain_shows : (forth : Bool) (n : ℕ) (p q : Proof) (a b c : Form) → Between forth n p a b → Between forth n q b c → Between forth n (chain_tree forth a c p q) a c
chain_shows true n p q a b c lp lq t v h room s =
    let sb = other_sorted true n p a b lp t v room s in
    let h1 = a ∷ h in
    by_imp_i t v h a c _ s (by_imp_e t v h1 q _ b c (lq t v h1 room sb) (by_imp_e t v h1 p (Hyp 0) a b (lp t v h1 room s) (first t v h a s)))
chain_shows false n p q a b c lp lq t v h room s =
    let sb = other_sorted false n p a b lp t v room s in
    let sc = other_sorted false n q b c lq t v room sb in
    let h1 = c ∷ h in
    by_imp_i t v h c a _ sc (by_imp_e t v h1 p _ b a (lp t v h1 room s) (by_imp_e t v h1 q (Hyp 0) c b (lq t v h1 room sb) (first t v h c sc)))

-- a part from a formula to itself
module _ (n : ℕ) (p : Proof) (a b : Form) (is : is_itself p ≡ true) where
  one_form : (forth : Bool) → Between forth n p a b → (t : Statements) (v : List ℕ) (h : List Form) → n + length v < 2147483647 → Sorted t.vocabulary v a → a ≡ b
  one_form true l t v h room s = same_sides t v h p a b is (l t v h room s)
  one_form false l t v h room s = sym (same_sides t v h p b a is (l t v h room s))

pub then_first : (forth : Bool) (a c : Form) (p q : Proof) → is_itself p ≡ true → then_tree forth a c p q ≡ q
unfolding then_tree
then_first forth a c p q is = rw is refl

pub then_last : (forth : Bool) (a c : Form) (p q : Proof) → is_itself p ≡ false → is_itself q ≡ true → then_tree forth a c p q ≡ p
unfolding then_tree
then_last forth a c p q one two = rw (one, two) refl

pub then_chain : (forth : Bool) (a c : Form) (p q : Proof) → is_itself p ≡ false → is_itself q ≡ false → then_tree forth a c p q ≡ chain_tree forth a c p q
unfolding then_tree
then_chain forth a c p q one two = rw (one, two) refl

then_by : (forth : Bool) (n : ℕ) (p q : Proof) (a b c : Form) (one two : Bool) → is_itself p ≡ one → is_itself q ≡ two → Between forth n p a b → Between forth n q b c → Between forth n (then_tree forth a c p q) a c
then_by forth n p q a b c true two ip iq lp lq t v h room s =
    let same = one_form n p a b ip forth lp t v h room s in
    rw (then_first forth a c p q ip, same) (lq t v h room (rw same at s))
then_by forth n p q a b c false true ip iq lp lq t v h room s =
    let same = one_form n q b c iq forth lq t v h room (other_sorted forth n p a b lp t v room s) in
    rw (then_last forth a c p q ip iq, sym same) (lp t v h room s)
then_by forth n p q a b c false false ip iq lp lq t v h room s = rw (then_chain forth a c p q ip iq) (chain_shows forth n p q a b c lp lq t v h room s)

pub then_shows : (forth : Bool) (n : ℕ) (p q : Proof) (a b c : Form) → Between forth n p a b → Between forth n q b c → Between forth n (then_tree forth a c p q) a c
then_shows forth n p q a b c lp lq = then_by forth n p q a b c (is_itself p) (is_itself q) refl refl lp lq

-- as code makes it
module _ (forth : Bool) (a c : Form) (p q node last middle own : Proof) (one : is_itself p ≡ false) (two : is_itself q ≡ false) where
  pub then_forth_made : forth ≡ true → node ≡ ImpI a last → last ≡ ImpE q middle → middle ≡ ImpE p own → own ≡ Hyp 0 → node ≡ then_tree forth a c p q
  then_forth_made ef en el em eo = rw (en, el, em, eo, then_chain forth a c p q one two, ef) refl

  pub then_back_made : forth ≡ false → node ≡ ImpI c last → last ≡ ImpE p middle → middle ≡ ImpE q own → own ≡ Hyp 0 → node ≡ then_tree forth a c p q
  then_back_made ef en el em eo = rw (en, el, em, eo, then_chain forth a c p q one two, ef) refl

denied_implies : (p : Proof) (a b : Form) (t : Statements) (v : List ℕ) (h : List Form) → Sorted t.vocabulary v a → Sorted t.vocabulary v b → ((g : List Form) → Proves t v g p (Imp b a))
    → Proves t v h (ImpI (Not a) (NotI b (NotE (Hyp 1) (applied p (Hyp 0))))) (Imp (Not a) (Not b))
denied_implies p a b t v h sa sb w =
    let sn = not_sorted t.vocabulary v 2147483647 a sa in
    let h1 = Not a ∷ h in
    by_imp_i t v h (Not a) (Not b) _ sn
    (by_not_i t v h1 b _ sb (by_not_e t v (b ∷ h1) (Hyp 1) _ a (second t v h b (Not a) sn) (by_applied t v (b ∷ h1) p (Hyp 0) b a (w (b ∷ h1)) (first t v h1 b sb))))

pub denied_shows : (forth : Bool) (n : ℕ) (p : Proof) (a b : Form) → Between (not forth) n p a b → Between forth n (denied_tree forth a b p) (Not a) (Not b)
denied_shows true n p a b l t v h room s =
    let sa = sorted_of_not t.vocabulary v 2147483647 a s in
    let sb = other_sorted false n p a b l t v room sa in
    denied_implies p a b t v h sa sb (λ g. l t v g room sa)
denied_shows false n p a b l t v h room s =
    let sa = sorted_of_not t.vocabulary v 2147483647 a s in
    let sb = other_sorted true n p a b l t v room sa in
    denied_implies p b a t v h sb sa (λ g. l t v g room sa)

pub twice_denied_shows : (forth : Bool) (n : ℕ) (a : Form) → Between forth n (twice_denied_tree forth a) (Not (Not a)) a
twice_denied_shows true n a t v h room s =
    let sn = sorted_of_not t.vocabulary v 2147483647 (Not a) s in
    let sa = sorted_of_not t.vocabulary v 2147483647 a sn in
    let h1 = Not (Not a) ∷ h in
    by_imp_i t v h (Not (Not a)) a _ s (by_raa t v h1 a _ sa (by_not_e t v (Not a ∷ h1) (Hyp 1) (Hyp 0) (Not a) (second t v h (Not a) (Not (Not a)) s) (first t v h1 (Not a) sn)))
twice_denied_shows false n a t v h room s =
    let sn = sorted_of_not t.vocabulary v 2147483647 (Not a) s in
    let sa = sorted_of_not t.vocabulary v 2147483647 a sn in
    let h1 = a ∷ h in
    by_imp_i t v h a (Not (Not a)) _ sa (by_not_i t v h1 (Not a) _ sn (by_not_e t v (Not a ∷ h1) (Hyp 0) (Hyp 1) a (first t v h1 (Not a) sn) (second t v h (Not a) a sa)))
