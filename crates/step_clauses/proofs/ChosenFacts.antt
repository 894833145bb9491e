-- Lemmas on what specs/code/Chosen defines.
use Rattle.std.specs.Prelude.{ℕ, ◌≡◌, ◌+◌, ◌<◌, List, [], ◌∷◌, ◌++◌, length, map, flat_map, sum, take, drop, get_or, refl}
use Rattle.std.proofs.Common.{ap, sym, ◌∙◌, append_assoc, arith, zero, suc}
use Rattle.std.proofs.lemmas.List.{map-append, append-nil, length-map, length-take-le, take_more, take-append-drop}
use Rattle.std.proofs.lemmas.Simd.{map-map}
use Rattle.std.proofs.lemmas.List.Concat.{flat_map-cons}
use Rattle.fof_terms.proofs.Trees.{fold-Atom, fold-Eq, fold-Not, fold-And, fold-Or, fold-Imp, fold-Iff, fold-All, fold-Ex}
use Rattle.fof_terms.specs.declared.term.Term.{Term}
use Rattle.fof_terms.specs.declared.form.Form.{Form, Atom, Eq, Not, And, Or, Imp, Iff, All, Ex}
use Rattle.clause_form.specs.declared.path.Path.{Path, Pick, Each}
use Rattle.clause_form.specs.Clauses.{choices}
use Rattle.clause_form.specs.Sizes.{norm_size_of}
use Rattle.clause_form.proofs.SizesFacts.{norm_size_of-And, norm_size_of-Or, norm_size_of-All}
use Rattle.clause_form.proofs.SizeLaws.{sum_cons, few_by_size}
use Rattle.step_clauses.specs.code.Chosen.{joins, picks, Ways, ways_step, ways, paths_in}
use Rattle.fof_terms.specs.declared.form.Form.TheOpen as form

-- The equations of this word.
pub ways-Atom : (p : ℕ) (ts : List Term) → ways (Atom p ts) ≡ ways_step (form.Atom p ts)
unfolding ways
ways-Atom p ts = fold-Atom (Ways) ways_step p ts

pub ways-Eq : (l r : Term) → ways (Eq l r) ≡ ways_step (form.Eq l r)
unfolding ways
ways-Eq l r = fold-Eq (Ways) ways_step l r

pub ways-Not : (a : Form) → ways (Not a) ≡ ways_step (form.Not (ways a))
unfolding ways
ways-Not a = fold-Not (Ways) ways_step a

pub ways-And : (as_ : List Form) → ways (And as_) ≡ ways_step (form.And (map ways as_))
unfolding ways
ways-And as_ = fold-And (Ways) ways_step as_

pub ways-Or : (as_ : List Form) → ways (Or as_) ≡ ways_step (form.Or (map ways as_))
unfolding ways
ways-Or as_ = fold-Or (Ways) ways_step as_

pub ways-Imp : (a b : Form) → ways (Imp a b) ≡ ways_step (form.Imp (ways a) (ways b))
unfolding ways
ways-Imp a b = fold-Imp (Ways) ways_step a b

pub ways-Iff : (a b : Form) → ways (Iff a b) ≡ ways_step (form.Iff (ways a) (ways b))
unfolding ways
ways-Iff a b = fold-Iff (Ways) ways_step a b

pub ways-All : (s : ℕ) (a : Form) → ways (All s a) ≡ ways_step (form.All s (ways a))
unfolding ways
ways-All s a = fold-All (Ways) ways_step s a

pub ways-Ex : (s : ℕ) (a : Form) → ways (Ex s a) ≡ ways_step (form.Ex s (ways a))
unfolding ways
ways-Ex s a = fold-Ex (Ways) ways_step s a

pub ruleset ways_equations = (ways-Atom, ways-Eq, ways-Not, ways-And, ways-Or, ways-Imp, ways-Iff, ways-All, ways-Ex)

-- What is chosen of the first lists and of the others.
abbrev pub behind : {X : Type 0} → X → List (List X) → List (List X)
behind x lists = map (λ rest. x ∷ rest) lists

abbrev before : {X : Type 0} → List (List X) → List X → List (List X)
before right choice = map (λ other. choice ++ other) right

joined_more : {X : Type 0} (a b ys : List (List X)) → joins (a ++ b) ys ≡ joins a ys ++ joins b ys
joined_more {X} [] b ys = refl
joined_more {X} (c ∷ a) b ys =
    flat_map-cons (before ys) c (a ++ b)
    ∙ ap (λ (l : List (List X)). before ys c ++ l) (joined_more a b ys)
    ∙ sym (append_assoc (before ys c) (joins a ys) (joins b ys))
    ∙ ap (λ (l : List (List X)). l ++ joins b ys) (sym (flat_map-cons (before ys) c a))

each_behind : {X : Type 0} (x : X) (c : List X) (ys : List (List X)) → behind x (before ys c) ≡ before ys (x ∷ c)
each_behind {X} x c [] = refl
each_behind {X} x c (y ∷ ys) = ap (λ (rest : List (List X)). (x ∷ (c ++ y)) ∷ rest) (each_behind x c ys)

joined_behind : {X : Type 0} (x : X) (a ys : List (List X)) → behind x (joins a ys) ≡ joins (behind x a) ys
joined_behind {X} x [] ys = refl
joined_behind {X} x (c ∷ a) ys =
    ap (behind x) (flat_map-cons (before ys) c a)
    ∙ map-append (λ (rest : List X). x ∷ rest) (before ys c) (joins a ys)
    ∙ ap (λ (l : List (List X)). l ++ behind x (joins a ys)) (each_behind x c ys)
    ∙ ap (λ (l : List (List X)). before ys (x ∷ c) ++ l) (joined_behind x a ys)
    ∙ sym (flat_map-cons (before ys) (x ∷ c) (behind x a))

joined_each : {X : Type 0} (xs : List X) (a ys : List (List X)) → flat_map (λ x. behind x (joins a ys)) xs ≡ joins (flat_map (λ x. behind x a) xs) ys
joined_each {X} [] a ys = refl
joined_each {X} (x ∷ xs) a ys =
    flat_map-cons (λ y. behind y (joins a ys)) x xs
    ∙ ap (λ (l : List (List X)). l ++ flat_map (λ y. behind y (joins a ys)) xs) (joined_behind x a ys)
    ∙ ap (λ (l : List (List X)). joins (behind x a) ys ++ l) (joined_each xs a ys)
    ∙ sym (joined_more (behind x a) (flat_map (λ y. behind y a) xs) ys)
    ∙ ap (λ (l : List (List X)). joins l ys) (sym (flat_map-cons (λ y. behind y a) x xs))

same_choices : {X : Type 0} (ys : List (List X)) → before ys [] ≡ ys
same_choices {X} [] = refl
same_choices {X} (y ∷ ys) = ap (λ (rest : List (List X)). y ∷ rest) (same_choices ys)

-- one of each of two rows of lists
pub choices_joined : {X : Type 0} (xs ys : List (List X)) → choices (xs ++ ys) ≡ joins (choices xs) (choices ys)
choices_joined {X} [] ys = sym (flat_map-cons (before (choices ys)) [] [] ∙ append-nil (before (choices ys) []) ∙ same_choices (choices ys))
choices_joined {X} (x ∷ xs) ys = ap (λ (r : List (List X)). flat_map (λ y. behind y r) x) (choices_joined xs ys) ∙ joined_each x (choices xs) (choices ys)

-- one list alone
pub choices_alone : {X : Type 0} (xs : List X) → map (λ (x : X). x ∷ []) xs ≡ choices (xs ∷ [])
choices_alone {X} [] = refl
choices_alone {X} (x ∷ xs) = ap (λ (l : List (List X)). (x ∷ []) ∷ l) (choices_alone xs) ∙ sym (flat_map-cons (λ y. behind y ([] ∷ [])) x xs)

picks_joined : (xs ys : List (List Path)) (k m : ℕ) → m ≡ k + length xs → picks k (xs ++ ys) ≡ picks k xs ++ picks m ys
picks_joined [] ys k m e = let same : k ≡ m = omega arith in ap (λ (n : ℕ). picks n ys) same
picks_joined (x ∷ xs) ys k m e = ap (λ (l : List Path). map (Pick k) x ++ l) (picks_joined xs ys (k + 1) m (omega arith)) ∙ sym (append_assoc (map (Pick k) x) (picks (k + 1) xs) (picks m ys))

-- the paths through one member more
pub picks_more : (lists : List (List Path)) (i : ℕ) (paths lent old new : List Path) → i < length lists → paths ≡ get_or lists i paths → lent ≡ paths → old ≡ picks 0 (take i lists) → new ≡ old ++ map (Pick i) lent → new ≡ picks 0 (take (i + 1) lists)
picks_more lists i paths lent old new lt is el eo en =
    let more : take (i + 1) lists ≡ take i lists ++ paths ∷ [] = take_more lists i paths lt ∙ ap (λ (x : List Path). take i lists ++ x ∷ []) (sym is) in
    let count : length (take i lists) ≡ i = length-take-le i lists (omega arith) in
    let number : i ≡ 0 + length (take i lists) = omega arith in
    en ∙ ap (λ (l : List Path). l ++ map (Pick i) lent) eo ∙ ap (λ (l : List Path). picks 0 (take i lists) ++ map (Pick i) l) el
    ∙ ap (λ (l : List Path). picks 0 (take i lists) ++ l) (sym (append-nil (map (Pick i) paths)))
    ∙ sym (picks_joined (take i lists) (paths ∷ []) 0 i number) ∙ ap (picks 0) (sym more)

-- the choices with one more of the first
pub join_more : (left right : List (List Path)) (i : ℕ) (choice lent : List Path) (old new : List (List Path)) → i < length left → choice ≡ get_or left i choice → lent ≡ choice → old ≡ joins (take i left) right → new ≡ old ++ map (λ (other : List Path). lent ++ other) right
    → new ≡ joins (take (i + 1) left) right
join_more left right i choice lent old new lt is el eo en =
    let more : take (i + 1) left ≡ take i left ++ choice ∷ [] = take_more left i choice lt ∙ ap (λ (x : List Path). take i left ++ x ∷ []) (sym is) in
    en ∙ ap (λ (l : List (List Path)). l ++ before right lent) eo ∙ ap (λ (l : List Path). joins (take i left) right ++ before right l) el
    ∙ ap (λ (l : List (List Path)). joins (take i left) right ++ l) (sym (flat_map-cons (before right) choice [] ∙ append-nil (before right choice)))
    ∙ sym (joined_more (take i left) (choice ∷ []) right) ∙ ap (λ (l : List (List Path)). joins l right) (sym more)

-- where there is one list
pub one_list : (lists : List (List Path)) (list lent : List Path) → length lists ≡ 1 → list ≡ get_or lists 0 list → lent ≡ list → map (λ (x : Path). x ∷ []) lent ≡ choices lists
one_list [] list lent n is el = absurd (omega arith)
one_list (xs ∷ []) list lent n is el = ap (λ (l : List Path). map (λ (x : Path). x ∷ []) l) (el ∙ is) ∙ choices_alone xs
one_list (xs ∷ ys ∷ more) list lent n is el = absurd (omega arith)

-- where there are two halves
pub of_halves : (lists first others : List (List Path)) (k : ℕ) (left right a b made : List (List Path)) → first ≡ take k lists → others ≡ drop k lists → left ≡ choices first → right ≡ choices others → a ≡ left → b ≡ right → made ≡ joins a b → made ≡ choices lists
of_halves lists first others k left right a b made ef eo el er ea eb em =
    let whole : take k lists ++ drop k lists ≡ lists = take-append-drop k lists in
    let first' : a ≡ choices (take k lists) = ea ∙ el ∙ ap (λ (l : List (List Path)). choices l) ef in
    let others' : b ≡ choices (drop k lists) = eb ∙ er ∙ ap (λ (l : List (List Path)). choices l) eo in
    em ∙ ap (λ (l : List (List Path)). joins l b) first' ∙ ap (λ (l : List (List Path)). joins (choices (take k lists)) l) others' ∙ sym (choices_joined (take k lists) (drop k lists)) ∙ ap (λ (l : List (List Path)). choices l) whole

-- The paths of nodes.
pub and_paths : (form : Form) (members m0 : List Form) (lists lent : List (List Path)) (paths : List Path) → form ≡ And m0 → members ≡ m0 → lists ≡ map paths_in members → lent ≡ lists → paths ≡ picks 0 lent → paths ≡ paths_in form
and_paths form members m0 lists lent paths is em el et ep =
    ep ∙ ap (picks 0) (et ∙ el ∙ ap (map paths_in) em ∙ sym (map-map (λ (x : Ways). x.paths) ways m0)) ∙ sym (ap (λ (a : Form). (ways a).paths) is ∙ ap (λ (x : Ways). x.paths) (ways-And m0))

pub or_paths : (form : Form) (members m0 : List Form) (lists lent chosen borrowed : List (List Path)) (paths : List Path) → form ≡ Or m0 → members ≡ m0 → lists ≡ map paths_in members → lent ≡ lists → chosen ≡ choices lent → borrowed ≡ chosen → paths ≡ map Each borrowed → paths ≡ paths_in form
or_paths form members m0 lists lent chosen borrowed paths is em el et ec eb ep =
    ep ∙ ap (λ (l : List (List Path)). map Each l) (eb ∙ ec ∙ ap (λ (l : List (List Path)). choices l) (et ∙ el ∙ ap (map paths_in) em ∙ sym (map-map (λ (x : Ways). x.paths) ways m0)))
    ∙ sym (ap (λ (a : Form). (ways a).paths) is ∙ ap (λ (x : Ways). x.paths) (ways-Or m0))

-- Sizes of parts.
pub and_sizes : (form : Form) (members m0 : List Form) (b : ℕ) → form ≡ And m0 → members ≡ m0 → norm_size_of form < b → sum (map norm_size_of members) < b
and_sizes form members m0 b is em h = let size : norm_size_of form ≡ 1 + sum (map norm_size_of members) = ap norm_size_of is ∙ norm_size_of-And m0 ∙ ap (λ (l : List Form). 1 + sum (map norm_size_of l)) (sym em) in omega arith

pub or_sizes : (form : Form) (members m0 : List Form) (b : ℕ) → form ≡ Or m0 → members ≡ m0 → norm_size_of form < b → sum (map norm_size_of members) < b
or_sizes form members m0 b is em h = let size : norm_size_of form ≡ 1 + sum (map norm_size_of members) = ap norm_size_of is ∙ norm_size_of-Or m0 ∙ ap (λ (l : List Form). 1 + sum (map norm_size_of l)) (sym em) in omega arith

pub all_sizes : (form body b0 : Form) (s b : ℕ) → form ≡ All s b0 → body ≡ b0 → norm_size_of form < b → norm_size_of body < b
all_sizes form body b0 s b is eb h = let size : norm_size_of form ≡ 1 + norm_size_of body = ap norm_size_of is ∙ norm_size_of-All s b0 ∙ ap (λ (a : Form). 1 + norm_size_of a) (sym eb) in omega arith

pub one_sizes : (forms : List Form) (i : ℕ) (a : Form) (b : ℕ) → i < length forms → a ≡ get_or forms i a → sum (map norm_size_of forms) < b → norm_size_of a < b
one_sizes [] i a b lt is h = absurd (omega arith)
one_sizes (x ∷ forms) zero a b lt is h =
    let same : norm_size_of a ≡ norm_size_of x = ap norm_size_of is in
    let whole = sum_cons (norm_size_of x) (map norm_size_of forms) in
    omega arith
one_sizes (x ∷ forms) (suc i) a b lt is h =
    let whole = sum_cons (norm_size_of x) (map norm_size_of forms) in
    one_sizes forms i a b (omega arith) is (omega arith)

pub few_lists : (members : List Form) (lists lent : List (List Path)) (b : ℕ) → sum (map norm_size_of members) < b → lists ≡ map paths_in members → lent ≡ lists → length lent < b
few_lists members lists lent b h el et =
    let few = few_by_size members in
    let same : length lent ≡ length members = ap length (et ∙ el) ∙ length-map members paths_in in
    omega arith
