-- Quantifiers in the order of their variables, as code makes them.
use Rattle.std.specs.Prelude.{ℕ, zero, suc, ◌≡◌, ◌+◌, ◌-◌, ◌<◌, ◌≤◌, ◌⊎◌, nat_eq, Bool, true, false, List, [], ◌∷◌, length, map, drop, get_or, Option, Some, None, refl}
use Rattle.std.specs.List.{All as Each}
use Rattle.std.proofs.Common.{ap, sym, subst, ◌∙◌, arith, inl, inr}
use Rattle.std.proofs.lemmas.List.{drop_more, drop_all, length-map}
use Rattle.fof_terms.specs.declared.term.Term.{Var}
use Rattle.fof_terms.specs.declared.form.Form.{Form}
use Rattle.fof_terms.specs.Sorts.{binder_depth}
use Rattle.fof_terms.specs.Lift.{lift_reach}
use Rattle.clause_form.specs.ClauseView.{closed_by}
use Rattle.kernel.specs.declared.proof.Proof.{Proof, Hyp, ImpI, AllE}
use Rattle.norm_proofs.specs.Numbering.{general}
use Rattle.norm_proofs.specs.code.Steps.{Between}
use Rattle.flat_form.specs.Flat.{order_of, new_number, sort_of}
use Rattle.flat_form.specs.Renumbered.{renumbered}
use Rattle.flat_form.specs.Numbers.{listed, HasRoomAt}
use Rattle.flat_form.proofs.Order.{has, order_only, order_few}
use Rattle.flat_form.proofs.Placing.{listed_near}
use Rattle.flat_form.proofs.Renumbering.{same_numbers}
use Rattle.flat_proofs.specs.code.Leading.{Leads}
use Rattle.flat_proofs.specs.code.Permuting.{down, at_numbers, turned_by, turned_tree}
use Rattle.flat_proofs.proofs.Reordered.{turned_shows}

down_length : (n : ℕ) → length (down n) ≡ n
down_length zero = refl
down_length (suc n) = let rest = down_length n in omega arith

-- a list by its places from the last
falling : (f : ℕ → ℕ) (n : ℕ) (xs : List ℕ) → length xs ≡ n → ((k : ℕ) → k < n → get_or xs (n - 1 - k) 0 ≡ f k) → xs ≡ map f (down n)
falling f zero [] e each = refl
falling f zero (x ∷ xs) e each = absurd (omega arith)
falling f (suc n) [] e each = absurd (omega arith)
falling f (suc n) (x ∷ xs) e each =
    let none : suc n - 1 - n ≡ 0 = omega arith in
    let first : x ≡ f n = rw none at (each n (omega arith)) in
    let rest : xs ≡ map f (down n) = falling f n xs (omega arith) (λ k lt. let next : suc n - 1 - k ≡ suc (n - 1 - k) = omega arith in rw next at (each k (omega arith))) in
    ap (λ (y : ℕ). y ∷ xs) first ∙ ap (λ (ys : List ℕ). f n ∷ ys) rest

pub numbers_are : (order numbers : List ℕ) (n : ℕ) → length numbers ≡ n → ((k : ℕ) → listed numbers (length order) k ≡ new_number order n k) → numbers ≡ map (new_number order n) (down n)
numbers_are order numbers n count are =
    falling (new_number order n) n numbers count
    (λ k lt.
    let near : listed numbers (length order) k ≡ get_or numbers (length numbers - 1 - k) 0 = listed_near numbers (length order) k (omega arith) in
    let place : length numbers - 1 - k ≡ n - 1 - k = omega arith in
    sym (near ∙ ap (λ i. get_or numbers i 0) place) ∙ are k)

-- the room for new numbers
pub turn_room : (order numbers : List ℕ) (n outside : ℕ) (a b : Form) → order ≡ order_of n b → numbers ≡ map (new_number order n) (down n) → length numbers ≡ n → outside ≡ length order → binder_depth a < 2147483648
    → HasRoomAt outside (length numbers) (0 + binder_depth a) (lift_reach outside (length numbers + 0) a)
turn_room order numbers n outside a b eo en count eout few =
    let less = order_few n b in
    let same : length order ≡ length (order_of n b) = ap length eo in
    (omega arith, inl (omega arith))

-- the formula
pub turned_form : (sorts order numbers others : List ℕ) (outside : ℕ) (a inner body form : Form) → ((k : ℕ) → listed numbers (length order) k ≡ new_number order (length sorts) k) → outside ≡ length order → inner ≡ renumbered (listed numbers outside) 0 a
    → body ≡ inner → others ≡ map (sort_of sorts) order → form ≡ closed_by others body → form ≡ turned_by order sorts a
turned_form sorts order numbers others outside a inner body form are count made eb es ef =
    let at : inner ≡ renumbered (new_number order (length sorts)) 0 a =
    made ∙ (ap (λ n. renumbered (listed numbers n) 0 a) count ∙ same_numbers (listed numbers (length order)) (new_number order (length sorts)) are a 0) in
    ef ∙ (ap (λ ss. closed_by ss body) es ∙ ap (closed_by (map (sort_of sorts) order)) (eb ∙ at))

-- the proof
pub turn_leads : (forth : Bool) (sorts order : List ℕ) (a b : Form) (n : ℕ) → order ≡ order_of (length sorts) b → ((k : ℕ) → k < length sorts → has k (order_of (length sorts) b) ≡ true) → binder_depth a + length sorts ≤ n
    → Between forth n (turned_tree forth sorts order a) (closed_by sorts a) (turned_by order sorts a)
turn_leads forth sorts order a b n eo stand le =
    let few = order_few (length sorts) b in
    let same : length order ≡ length (order_of (length sorts) b) = ap length eo in
    turned_shows (binder_depth a) sorts order a (omega arith) (λ k lt. rw eo (stand k lt)) (λ q e. (order_only (length sorts) b q (rw eo at e)).0) forth n (omega arith) (omega arith)

module _ (sorts order numbers others : List ℕ) (first last a : Form) (nums : numbers ≡ map (new_number order (length sorts)) (down (length sorts))) (os : others ≡ map (sort_of sorts) order) (ef : first ≡ closed_by sorts a) (el : last ≡ turned_by order sorts a)
    (own found all made : Proof) (eo : own ≡ Hyp 0) where
  pub forth_tree : (forth : Bool) → forth ≡ true → found ≡ at_numbers numbers own → all ≡ general others found → made ≡ ImpI first all → made ≡ turned_tree forth sorts order a
  forth_tree true holds en ea em = rw (em, ea, en, eo, ef, nums, os) refl
  forth_tree false holds en ea em = absurd (let never : false ≡ true = holds in cc)

  pub back_tree : (forth : Bool) → forth ≡ false → found ≡ at_numbers order own → all ≡ general sorts found → made ≡ ImpI last all → made ≡ turned_tree forth sorts order a
  back_tree true holds en ea em = absurd (let never : true ≡ false = holds in cc)
  back_tree false holds en ea em = rw (em, ea, en, eo, el) refl

-- instances at one variable after the other
pub numbers_next : (ks : List ℕ) (i k : ℕ) (made next whole : Proof) → i < length ks → k ≡ get_or ks i 0 → next ≡ AllE (Var k) made → at_numbers (drop i ks) made ≡ whole → at_numbers (drop (i + 1) ks) next ≡ whole
numbers_next ks i k made next whole lt is en e =
    let begins : drop i ks ≡ k ∷ drop (i + 1) ks = drop_more ks i 0 lt ∙ ap (λ x. x ∷ drop (i + 1) ks) (sym is) in
    rw en (rw begins at e)

pub numbers_end : (ks : List ℕ) (i : ℕ) (made whole : Proof) → length ks ≤ i → at_numbers (drop i ks) made ≡ whole → made ≡ whole
numbers_end ks i made whole le e = let none : drop i ks ≡ [] = drop_all i ks le in rw none at e

-- as the whole meets them
pub numbers_count : (numbers order slice sorts : List ℕ) → slice ≡ sorts → numbers ≡ map (new_number order (length slice)) (down (length slice)) → length numbers ≡ length sorts
numbers_count numbers order slice sorts es en = ap length en ∙ (length-map (down (length slice)) (new_number order (length slice)) ∙ (down_length (length slice) ∙ ap length es))

pub turned_is : (sorts slice order numbers near others outer : List ℕ) (outside : ℕ) (a b inner body form : Form) → slice ≡ sorts → near ≡ numbers → outer ≡ others → order ≡ order_of (length slice) b
    → ((k : ℕ) → listed numbers (length order) k ≡ new_number order (length slice) k) → outside ≡ length order → inner ≡ renumbered (listed near outside) 0 a → body ≡ inner → others ≡ map (sort_of slice) order → form ≡ closed_by outer body
    → form ≡ turned_by (order_of (length sorts) b) sorts a
turned_is sorts slice order numbers near others outer outside a b inner body form es en eu eo are count made eb ot ef =
    let at : inner ≡ renumbered (listed numbers outside) 0 a = made ∙ ap (λ (ks : List ℕ). renumbered (listed ks outside) 0 a) en in
    let whole : form ≡ turned_by order slice a = turned_form slice order numbers others outside a inner body form are count at eb ot (ef ∙ ap (λ (ss : List ℕ). closed_by ss body) eu) in
    whole ∙ (ap (λ (ks : List ℕ). turned_by ks slice a) eo ∙ ap (λ (ss : List ℕ). turned_by (order_of (length ss) b) ss a) es)

pub part_shows : (forth : Bool) (n : ℕ) (tree made : Proof) (a b : Form) → made ≡ tree → Between forth n tree a b → Between forth n made a b
part_shows forth n tree made a b e l = subst (λ (p : Proof). Between forth n p a b) (sym e) l

pub turn_leads_here : (forth : Bool) (sorts slice again order : List ℕ) (a b first_now last_now first form : Form) (part : Option Proof) (n : ℕ) → slice ≡ sorts → again ≡ sorts → order ≡ order_of (length slice) b
    → ((k : ℕ) → k < length sorts → has k (order_of (length sorts) b) ≡ true) → binder_depth a + length sorts ≤ n → first ≡ closed_by sorts a → first_now ≡ first → last_now ≡ form → form ≡ turned_by (order_of (length sorts) b) sorts a
    → ((m : ℕ) (body : Form) → first_now ≡ closed_by again body → last_now ≡ turned_by order again body → Between forth m (turned_tree forth again order body) first_now last_now → Leads forth m part first_now last_now)
    → Leads forth n part (closed_by sorts a) form
turn_leads_here forth sorts slice again order a b first_now last_now first form part n es ea eo stand le ef en el form_is lead =
    let order_is : order ≡ order_of (length sorts) b = eo ∙ ap (λ (ss : List ℕ). order_of (length ss) b) es in
    let first_is : first_now ≡ closed_by sorts a = en ∙ ef in
    let last_is : last_now ≡ turned_by order sorts a = el ∙ (form_is ∙ ap (λ (ks : List ℕ). turned_by ks sorts a) (sym order_is)) in
    let shows : Between forth n (turned_tree forth sorts order a) first_now last_now = rw (first_is, last_is) (turn_leads forth sorts order a b n order_is stand le) in
    let led : Leads forth n part first_now last_now = lead n a (first_is ∙ ap (λ (ss : List ℕ). closed_by ss a) (sym ea)) (last_is ∙ ap (λ (ss : List ℕ). turned_by order ss a) (sym ea)) (rw ea shows) in
    subst (λ (c : Form). Leads forth n part c form) first_is (subst (λ (c : Form). Leads forth n part first_now c) el led)

-- the order has no more variables than there are quantifiers
pub order_fits : (sorts slice order : List ℕ) (b : Form) (n : ℕ) → slice ≡ sorts → order ≡ order_of (length slice) b → n ≡ length order → n ≤ length sorts
order_fits sorts slice order b n es eo en =
    let same : length order ≡ length (order_of (length slice) b) = ap length eo in
    let count : length slice ≡ length sorts = ap length es in
    omega (arith, order_few (length slice) b)
