-- What the builders' proofs show.
use Rattle.std.specs.Prelude.{ℕ, ◌≡◌, ◌+◌, ◌<◌, length, take, List, [], ◌∷◌, Some, refl, Result, Ok, Err, IfOk, get_or}
use Rattle.std.proofs.Common.{arith, sym, zero, suc}
use Rattle.fof_terms.specs.declared.term.Term.{Term}
use Rattle.fof_terms.specs.declared.form.Form.{Form, All}
use Rattle.fof_terms.specs.Vocabulary.{Vocabulary}
use Rattle.fof_terms.specs.Sorts.{sort_of_term}
use Rattle.fof_terms.specs.Instance.{instance_at}
use Rattle.kernel.specs.Statements.{Statements}
use Rattle.kernel.specs.Proves.{Proves}
use Rattle.kernel.proofs.Building.{shown_sorted, by_imp_i, by_imp_e, by_all_e}
use Rattle.kernel.specs.declared.proof.Proof.{Proof, ImpI, ImpE, AllE}
use Rattle.derive_kit.specs.Instances.{IsInstance}

-- what follows from what an answer has
pub ok_map : {X E : Type 0} {P Q : X → Type 0} (r : Result X E) → ((x : X) → P x → Q x) → IfOk r P → IfOk r Q
ok_map (Ok x) f p = f x p
ok_map (Err e) f p = p

pub cut_shows : (lemma rest : Proof) (fact : Form) (t : Statements) (v : List ℕ) (h : List Form) (a : Form) → Proves t v h lemma fact → Proves t v (fact ∷ h) rest a → Proves t v h (ImpE (ImpI fact rest) lemma) a
cut_shows lemma rest fact t v h a w z = by_imp_e t v h (ImpI fact rest) lemma fact a (by_imp_i t v h fact a rest (shown_sorted t v h lemma fact w) z) w

-- the instance at the first terms and at one more
pub one_more : (w : Vocabulary) (v : List ℕ) (xs : List Term) (i : ℕ) (d : Term) (a b : Form) → i < length xs → IsInstance w v a (take (i + 1) xs) b
    → (m : Form) × (s : ℕ) × (c : Form) × IsInstance w v a (take i xs) m × (m ≡ All s c) × (sort_of_term w v (get_or xs i d) ≡ Some s) × (instance_at (get_or xs i d) 0 c ≡ b)
one_more w v [] i d a b lt is = absurd (omega arith)
one_more w v (x ∷ xs) zero d a b lt is = (a, is.0, is.1, refl, is.2, is.3, is.4)
one_more w v (x ∷ xs) (suc i) d a b lt is =
    let same : suc i + 1 ≡ suc (i + 1) = omega arith in
    let is' : IsInstance w v a (take (suc (i + 1)) (x ∷ xs)) b = rw same at is in
    let r = one_more w v xs i d (instance_at x 0 is'.1) b (omega arith) is'.4 in
    (r.0, r.1, r.2, (is'.0, is'.1, is'.2, is'.3, r.3), r.4, r.5, r.6)

pub one_more_shows : (t : Statements) (v : List ℕ) (h : List Form) (x y : Term) (made : Proof) (m : Form) (s : ℕ) (c b : Form) → x ≡ y
    → m ≡ All s c → sort_of_term t.vocabulary v y ≡ Some s → instance_at y 0 c ≡ b → Proves t v h made m → Proves t v h (AllE x made) b
one_more_shows t v h x y made m s c b is e sort at w =
    let w' : Proves t v h made (All s c) = rw e at w in
    rw (is, sym at) (by_all_e t v h y made s c sort w')
