-- How many symbols a step may bring in: no more than its norm sizes are together.
use Rattle.std.specs.Prelude.{ℕ, ◌≡◌, ◌+◌, ◌-◌, ◌^◌, ◌≤◌, ◌<◌, ◌↔◌, nat_lt, min, Bool, true, false, if◌then◌else◌, List, [], ◌∷◌, map, sum, refl}
use Rattle.std.specs.List.{AllByRecursion}
use Rattle.std.proofs.Common.{ap, sym, ◌∙◌, arith}
use Rattle.std.proofs.lemmas.Bool.Decides.{nat_tests}
use Rattle.fof_terms.proofs.Induction.{form_induction}
use Rattle.fof_terms.specs.declared.form.Form.{Form, Not}
use Rattle.clause_form.specs.declared.path.Parent.{Parent}
use Rattle.clause_form.specs.Norm.{signed, norm_of}
use Rattle.clause_form.proofs.NormFacts.{norm_of-Not}
use Rattle.clause_form.proofs.NormSize.{norm_small}
use Rattle.clause_form.specs.Paths.{forms_of}
use Rattle.clause_form.specs.Sizes.{norm_size_of}
use Rattle.clause_form.proofs.SizesFacts.{norm_size_of-Atom, norm_size_of-Eq, norm_size_of-Not, norm_size_of-And, norm_size_of-Or, norm_size_of-Imp, norm_size_of-Iff, norm_size_of-All, norm_size_of-Ex}
use Rattle.clause_form.proofs.SizeLaws.{sum_cons}
use Rattle.step_clauses.specs.Existentials.{ex_count}
use Rattle.step_clauses.specs.Inputs.{step_forms}
use Rattle.step_clauses.specs.Room.{HasRoom, wanted}
use Rattle.step_clauses.specs.Wide.{is_large}
use Rattle.step_clauses.specs.code.Counts.{some_count, small_size}
use Rattle.step_clauses.proofs.ExistentialsFacts.{some_count-Atom, some_count-Eq, some_count-Not, some_count-And, some_count-Or, some_count-Imp, some_count-Iff, some_count-All, some_count-Ex, counted}

-- A formula has no more existential quantifiers than its norm size.
abbrev Few : Form → Type 0
Few a = some_count a ≤ norm_size_of a

all_few : (as_ : List Form) → AllByRecursion Few as_ → sum (map some_count as_) ≤ sum (map norm_size_of as_)
all_few [] all = omega arith
all_few (a ∷ as_) all =
    let first = all.0 in
    let rest = all_few as_ all.1 in
    let left = sum_cons (some_count a) (map some_count as_) in
    let right = sum_cons (norm_size_of a) (map norm_size_of as_) in
    omega (arith, first, rest, left, right)

few : (a : Form) → Few a
few = form_induction Few (record {
  atom = λ p ts. rw (some_count-Atom, norm_size_of-Atom) (omega arith);
  eq = λ l r. rw (some_count-Eq, norm_size_of-Eq) (omega arith);
  not = λ a ih. rw (some_count-Not, norm_size_of-Not) ih;
  and = λ as_ all. let each = all_few as_ all in rw (some_count-And, norm_size_of-And) (omega arith);
  or = λ as_ all. let each = all_few as_ all in rw (some_count-Or, norm_size_of-Or) (omega arith);
  imp = λ a b ih jh. rw (some_count-Imp, norm_size_of-Imp) (omega (arith, ih, jh));
  iff = λ a b ih jh. rw (some_count-Iff, norm_size_of-Iff) (omega (arith, ih, jh));
  all = λ s a ih. rw (some_count-All, norm_size_of-All) (omega (arith, ih));
  ex = λ s a ih. rw (some_count-Ex, norm_size_of-Ex) (omega (arith, ih));
})

large_or_not : (b : Bool) (m n : ℕ) → m ≤ n → (if b then 0 else m) ≤ (if b then 0 else n)
large_or_not true m n h = omega arith
large_or_not false m n h = h

pub wanted_within : (a : Form) → wanted a ≤ small_size a
wanted_within a =
    let norm = norm_of true a in
    let count : ex_count norm ≡ some_count norm = counted norm [] in
    let size = few norm in
    let no_larger = norm_small a true in
    large_or_not (is_large a) (ex_count norm) (norm_size_of a) (omega arith)

pub all_within : (forms : List Form) → sum (map wanted forms) ≤ sum (map small_size forms)
all_within [] = omega arith
all_within (a ∷ forms) =
    let first = wanted_within a in
    let rest = all_within forms in
    let left = sum_cons (wanted a) (map wanted forms) in
    let right = sum_cons (small_size a) (map small_size forms) in
    omega (arith, first, rest, left, right)

-- One formula.
at_test : (b c : Bool) (m n : ℕ) → b ≡ c → (if b then m else n) ≡ (if c then m else n)
at_test b c m n e = ap (λ (x : Bool). if x then m else n) e

large : (a : Form) (size : ℕ) → size ≡ min (norm_size_of a) (2 ^ 128 - 1) → 100000 < size → is_large a ≡ true
large a size e h = let more : 100000 < norm_size_of a = omega arith in grind (arith, nat_tests)

not_large : (a : Form) (size : ℕ) → size ≡ min (norm_size_of a) (2 ^ 128 - 1) → size ≤ 100000 → is_large a ≡ false
not_large a size e h = let less : norm_size_of a ≤ 100000 = omega arith in grind (arith, nat_tests)

pub large_size : (a : Form) (size : ℕ) → size ≡ min (norm_size_of a) (2 ^ 128 - 1) → 100000 < size → 0 ≡ small_size a
large_size a size e h = sym (at_test (is_large a) true 0 (norm_size_of a) (large a size e h))

pub own_size : (a : Form) (size : ℕ) → size ≡ min (norm_size_of a) (2 ^ 128 - 1) → size ≤ 100000 → size ≡ small_size a
own_size a size e h = let same : size ≡ norm_size_of a = omega arith in same ∙ sym (at_test (is_large a) false 0 (norm_size_of a) (not_large a size e h))

signed_size : (g : Bool) (a : Form) → norm_size_of (signed g a) ≡ norm_size_of a
signed_size true a = refl
signed_size false a = norm_size_of-Not a

signed_norm : (g : Bool) (a : Form) → norm_of true (signed g a) ≡ norm_of g a
signed_norm true a = refl
signed_norm false a = norm_of-Not true a

pub none_wanted : (g : Bool) (a : Form) (size : ℕ) → size ≡ min (norm_size_of a) (2 ^ 128 - 1) → 100000 < size → 0 ≡ wanted (signed g a)
none_wanted g a size e h = sym (at_test (is_large (signed g a)) true 0 (ex_count (norm_of true (signed g a))) (large (signed g a) size (rw signed_size e) h))

pub own_wanted : (g : Bool) (a norm : Form) (size count : ℕ) → size ≡ min (norm_size_of a) (2 ^ 128 - 1) → size ≤ 100000 → norm ≡ norm_of g a → count ≡ ex_count norm → count ≡ wanted (signed g a)
own_wanted g a norm size count e h en ec =
    let same : count ≡ ex_count (norm_of true (signed g a)) = ec ∙ ap ex_count (en ∙ sym (signed_norm g a)) in
    same ∙ sym (at_test (is_large (signed g a)) false 0 (ex_count (norm_of true (signed g a))) (not_large (signed g a) size (rw signed_size e) h))

-- Sums.
with_line : (f : Form → ℕ) (parents : List Parent) (line : Form) → sum (map f (step_forms (forms_of parents) line)) ≡ sum (map (λ (p : Parent). f p.form) parents) + f (Not line)
with_line f [] line = let one = sum_cons (f (Not line)) [] in omega (arith, one)
with_line f (p ∷ parents) line =
    let rest = with_line f parents line in
    let first = sum_cons (f p.form) (map f (step_forms (forms_of parents) line)) in
    let second = sum_cons (f p.form) (map (λ (q : Parent). f q.form) parents) in
    omega (arith, rest, first, second)

pub stopped_line : (f : Form → ℕ) (parents : List Parent) (line : Form) (m total own new : ℕ) → total ≡ min (sum (map (λ (p : Parent). f p.form) parents)) m → own ≡ f (Not line) → new ≡ min (total + own) m → new ≡ min (sum (map f (step_forms (forms_of parents) line))) m
stopped_line f parents line m total own new et eo en = let whole = with_line f parents line in omega (arith, whole)

pub line_size : (line : Form) → small_size line ≡ small_size (Not line)
line_size line = ap (λ (n : ℕ). if nat_lt 100000 n then 0 else n) (sym (norm_size_of-Not line))

-- Answers.
pub sizes_leave_room : (symbols : ℕ) (parents : List Form) (line : Form) (sizes sum_ : ℕ) → sizes ≡ min (sum (map small_size (step_forms parents line))) (2 ^ 64 - 1) → sum_ ≡ min (symbols + sizes) (2 ^ 64 - 1) → sum_ ≤ 16777216 → HasRoom symbols parents line
sizes_leave_room symbols parents line sizes sum_ es eu h = let within = all_within (step_forms parents line) in omega arith

pub room_by_count : (symbols : ℕ) (parents : List Form) (line : Form) (count sum_ : ℕ) → count ≡ min (sum (map wanted (step_forms parents line))) (2 ^ 64 - 1) → sum_ ≡ min (symbols + count) (2 ^ 64 - 1) → (sum_ ≤ 16777216) ↔ HasRoom symbols parents line
room_by_count symbols parents line count sum_ ec eu = (λ h. omega arith, λ h. omega arith)
