-- The paths of a formula reach its clauses, each at its place.
use Rattle.std.specs.Prelude.{ℕ, ◌≡◌, ◌+◌, ◌<◌, List, [], ◌∷◌, ◌++◌, length, map, flat_map, Option, Some, slice_get, take, get_or, refl}
use Rattle.std.specs.List.{AllByRecursion, filter_map, cons_option}
use Rattle.std.specs.Option.{option_map}
use Rattle.std.proofs.Common.{ap, sym, ◌∙◌, arith, zero, suc, append_assoc}
use Rattle.std.proofs.lemmas.List.{map-append, length-append, take_more}
use Rattle.std.proofs.lemmas.List.Elements.{filter_map-append}
use Rattle.std.proofs.lemmas.List.Concat.{flat_map-cons}
use Rattle.fof_terms.proofs.Induction.{form_induction}
use Rattle.fof_terms.specs.declared.form.Form.{Form, Atom, Eq, Not, And, Or, Imp, Iff, All, Ex}
use Rattle.clause_form.specs.declared.path.Path.{Path, Leaf, Pick, Each, Under}
use Rattle.clause_form.specs.declared.clause.AtomOf.TheVariants.{Pred, Eq as Equation}
use Rattle.clause_form.specs.declared.clause.Clause.{Clause}
use Rattle.clause_form.specs.ClauseView.{stated, denied, within}
use Rattle.clause_form.proofs.ClauseViewFacts.{view_of-Atom, view_of-Eq, view_of-Not}
use Rattle.clause_form.specs.Paths.{all_beside, at_member, one_more, each_reaches, reached}
use Rattle.clause_form.proofs.PathCases.{reached-Leaf, reached-Pick, reached-Each, reached-Under}
use Rattle.clause_form.specs.Clauses.{Clausal, choices, joined_lists, lone_clauses, clausal, clauses_in}
use Rattle.clause_form.proofs.ClausesFacts.{clausal-Atom, clausal-Eq, clausal-Not, clausal-And, clausal-Or, clausal-Imp, clausal-Iff, clausal-All, clausal-Ex}
use Rattle.step_clauses.specs.Ways.{AreAllPaths}
use Rattle.step_clauses.specs.code.Chosen.{picks, Ways, lone, ways, paths_in}
use Rattle.step_clauses.proofs.ChosenFacts.{behind, ways-Atom, ways-Eq, ways-Not, ways-And, ways-Or, ways-Imp, ways-Iff, ways-All, ways-Ex}

-- the clauses that paths reach in a formula
abbrev reach_all : Form → List Path → List (Option Clause)
reach_all a paths = map (λ (p : Path). reached p a) paths

abbrev lists_of : List Form → List (List Clause)
lists_of as_ = map (λ (x : Clausal). x.clauses) (map clausal as_)

abbrev path_lists : List Form → List (List Path)
path_lists as_ = map (λ (x : Ways). x.paths) (map ways as_)

-- by equal parts
at_paths : (a : Form) (paths : List Path) (clauses : List Clause) → paths_in a ≡ paths → clauses_in a ≡ clauses → reach_all a paths ≡ map Some clauses → AreAllPaths a (paths_in a)
at_paths a paths clauses ep ec h = ap (reach_all a) ep ∙ h ∙ ap (λ (l : List Clause). map Some l) (sym ec)

abbrev its_paths : Ways → List Path
its_paths w = w.paths

abbrev its_clauses : Clausal → List Clause
its_clauses c = c.clauses

-- Literals.
abbrev Denied : Form → Type 0
Denied a = reach_all (Not a) (lone (ways a).atomic) ≡ map Some (lone_clauses (option_map denied (clausal a).atom))

denied_reached : (a : Form) → Denied a
denied_reached = form_induction Denied (record {
  atom = λ p ts. rw (ways-Atom, clausal-Atom, reached-Leaf, view_of-Not, view_of-Atom) refl;
  eq = λ l r. rw (ways-Eq, clausal-Eq, reached-Leaf, view_of-Not, view_of-Eq) refl;
  not = λ a ih. rw (ways-Not, clausal-Not) refl;
  and = λ as_ all. rw (ways-And, clausal-And) refl;
  or = λ as_ all. rw (ways-Or, clausal-Or) refl;
  imp = λ a b ih jh. rw (ways-Imp, clausal-Imp) refl;
  iff = λ a b ih jh. rw (ways-Iff, clausal-Iff) refl;
  all = λ s a ih. rw (ways-All, clausal-All) refl;
  ex = λ s a ih. rw (ways-Ex, clausal-Ex) refl;
})

-- equal lists of equal parts
cons_same : {X : Type 0} {x y : X} {xs ys : List X} → x ≡ y → xs ≡ ys → x ∷ xs ≡ y ∷ ys
cons_same {X} {x} {y} {xs} {ys} e f = ap (λ (z : X). z ∷ xs) e ∙ ap (λ (zs : List X). y ∷ zs) f

append_same : {X : Type 0} {xs ys us vs : List X} → xs ≡ ys → us ≡ vs → xs ++ us ≡ ys ++ vs
append_same {X} {xs} {ys} {us} {vs} e f = ap (λ (l : List X). l ++ us) e ∙ ap (λ (l : List X). ys ++ l) f

-- Conjunctions.
picked : (as_ : List Form) (k : ℕ) (a : Form) (paths : List Path) → slice_get as_ k ≡ Some a → reach_all (And as_) (map (Pick k) paths) ≡ reach_all a paths
picked as_ k a [] e = refl
picked as_ k a (p ∷ paths) e = cons_same (reached-Pick k p as_ ∙ ap (at_member (reached p)) e) (picked as_ k a paths e)

pub at_seam : {X : Type 0} (xs : List X) (k : ℕ) (x : X) (ys : List X) → length xs ≡ k → slice_get (xs ++ x ∷ ys) k ≡ Some x
at_seam [] zero x ys e = refl
at_seam [] (suc k) x ys e = absurd (omega arith)
at_seam (z ∷ xs) zero x ys e = absurd (omega arith)
at_seam (z ∷ xs) (suc k) x ys e = at_seam xs k x ys (omega arith)

pub one_further : {X : Type 0} (xs : List X) (x : X) (ys : List X) → (xs ++ x ∷ []) ++ ys ≡ xs ++ x ∷ ys
one_further {X} [] x ys = refl
one_further {X} (z ∷ xs) x ys = ap (λ (l : List X). z ∷ l) (one_further xs x ys)

all_picked : (front rest : List Form) (k : ℕ) → length front ≡ k → AllByRecursion (λ a. AreAllPaths a (paths_in a)) rest → reach_all (And (front ++ rest)) (picks k (path_lists rest)) ≡ map Some (joined_lists (lists_of rest))
all_picked front [] k e all = refl
all_picked front (a ∷ rest) k e all =
    let whole = front ++ a ∷ rest in
    let here = picked whole k a (paths_in a) (at_seam front k a rest e) in
    let count : length (front ++ a ∷ []) ≡ k + 1 = length-append front (a ∷ []) ∙ omega arith in
    let others = all_picked (front ++ a ∷ []) rest (k + 1) count all.1 in
    let others' : reach_all (And whole) (picks (k + 1) (path_lists rest)) ≡ map Some (joined_lists (lists_of rest)) = ap (λ (l : List Form). reach_all (And l) (picks (k + 1) (path_lists rest))) (sym (one_further front a rest)) ∙ others in
    map-append (λ (p : Path). reached p (And whole)) (map (Pick k) (paths_in a)) (picks (k + 1) (path_lists rest)) ∙ append_same (here ∙ all.0) others' ∙ sym (map-append Some (clauses_in a) (joined_lists (lists_of rest)))

-- Disjunctions.
abbrev chosen_reach : List Form → List (List Path) → List (Option (List Clause))
chosen_reach as_ chosen = map (λ (ps : List Path). each_reaches (map reached ps) as_) chosen

both_found : (o : Option Clause) (rest : Option (List Clause)) (c : Clause) (cs : List Clause) → o ≡ Some c → rest ≡ Some cs → one_more o rest ≡ Some (c ∷ cs)
both_found o rest c cs e f = rw (e, f) refl

first_chosen : (a : Form) (as_ : List Form) (p : Path) (c : Clause) (chosen : List (List Path)) (cs : List (List Clause)) → reached p a ≡ Some c → chosen_reach as_ chosen ≡ map Some cs → chosen_reach (a ∷ as_) (behind p chosen) ≡ map Some (behind c cs)
first_chosen a as_ p c [] [] e f = refl
first_chosen a as_ p c [] (d ∷ cs) e f = cc
first_chosen a as_ p c (q ∷ chosen) [] e f = cc
first_chosen a as_ p c (q ∷ chosen) (d ∷ cs) e f =
    let own : each_reaches (map reached q) as_ ≡ Some d = cc in
    let rest : chosen_reach as_ chosen ≡ map Some cs = cc in
    cons_same (both_found (reached p a) (each_reaches (map reached q) as_) c d e own) (first_chosen a as_ p c chosen cs e rest)

each_chosen : (a : Form) (as_ : List Form) (chosen : List (List Path)) (cs : List (List Clause)) (paths : List Path) (clauses : List Clause) → chosen_reach as_ chosen ≡ map Some cs → reach_all a paths ≡ map Some clauses
    → chosen_reach (a ∷ as_) (flat_map (λ p. behind p chosen) paths) ≡ map Some (flat_map (λ c. behind c cs) clauses)
each_chosen a as_ chosen cs [] [] f g = refl
each_chosen a as_ chosen cs [] (c ∷ clauses) f g = cc
each_chosen a as_ chosen cs (p ∷ paths) [] f g = cc
each_chosen a as_ chosen cs (p ∷ paths) (c ∷ clauses) f g =
    let own : reached p a ≡ Some c = cc in
    let rest : reach_all a paths ≡ map Some clauses = cc in
    let first = first_chosen a as_ p c chosen cs own f in
    let others = each_chosen a as_ chosen cs paths clauses f rest in
    ap (chosen_reach (a ∷ as_)) (flat_map-cons (λ (x : Path). behind x chosen) p paths)
    ∙ map-append (λ (ps : List Path). each_reaches (map reached ps) (a ∷ as_)) (behind p chosen) (flat_map (λ (x : Path). behind x chosen) paths)
    ∙ append_same first others
    ∙ sym (map-append Some (behind c cs) (flat_map (λ (x : Clause). behind x cs) clauses))
    ∙ ap (λ (l : List (List Clause)). map Some l) (sym (flat_map-cons (λ (x : Clause). behind x cs) c clauses))

all_chosen : (as_ : List Form) → AllByRecursion (λ a. AreAllPaths a (paths_in a)) as_ → chosen_reach as_ (choices (path_lists as_)) ≡ map Some (choices (lists_of as_))
all_chosen [] all = refl
all_chosen (a ∷ as_) all = each_chosen a as_ (choices (path_lists as_)) (choices (lists_of as_)) (paths_in a) (clauses_in a) (all_chosen as_ all.1) all.0

each_beside : (as_ : List Form) (chosen : List (List Path)) (cs : List (List Clause)) → chosen_reach as_ chosen ≡ map Some cs → reach_all (Or as_) (map Each chosen) ≡ map Some (map all_beside cs)
each_beside as_ [] [] f = refl
each_beside as_ [] (d ∷ cs) f = cc
each_beside as_ (q ∷ chosen) [] f = cc
each_beside as_ (q ∷ chosen) (d ∷ cs) f =
    let own : each_reaches (map reached q) as_ ≡ Some d = cc in
    let rest : chosen_reach as_ chosen ≡ map Some cs = cc in
    cons_same (reached-Each q as_ ∙ ap (option_map all_beside) own) (each_beside as_ chosen cs rest)

-- Universal quantifiers.
each_under : (s : ℕ) (a : Form) (paths : List Path) (clauses : List Clause) → reach_all a paths ≡ map Some clauses → reach_all (All s a) (map Under paths) ≡ map Some (map (within s) clauses)
each_under s a [] [] f = refl
each_under s a [] (c ∷ clauses) f = cc
each_under s a (p ∷ paths) [] f = cc
each_under s a (p ∷ paths) (c ∷ clauses) f =
    let own : reached p a ≡ Some c = cc in
    let rest : reach_all a paths ≡ map Some clauses = cc in
    cons_same (reached-Under p s a ∙ ap (option_map (within s)) own) (each_under s a paths clauses rest)

abbrev Reaches : Form → Type 0
Reaches a = AreAllPaths a (paths_in a)

pub paths_are_all : (a : Form) → Reaches a
paths_are_all = form_induction Reaches (record {
  atom = λ p ts. at_paths (Atom p ts) (Leaf ∷ []) (lone_clauses (Some (stated (Pred p ts)))) (ap its_paths (ways-Atom p ts)) (ap its_clauses (clausal-Atom p ts)) (rw (reached-Leaf, view_of-Atom) refl);
  eq = λ l r. at_paths (Eq l r) (Leaf ∷ []) (lone_clauses (Some (stated (Equation l r)))) (ap its_paths (ways-Eq l r)) (ap its_clauses (clausal-Eq l r)) (rw (reached-Leaf, view_of-Eq) refl);
  not = λ a ih. at_paths (Not a) (lone (ways a).atomic) (lone_clauses (option_map denied (clausal a).atom)) (ap its_paths (ways-Not a)) (ap its_clauses (clausal-Not a)) (denied_reached a);
  and = λ as_ all. at_paths (And as_) (picks 0 (path_lists as_)) (joined_lists (lists_of as_)) (ap its_paths (ways-And as_)) (ap its_clauses (clausal-And as_)) (all_picked [] as_ 0 refl all);
  or = λ as_ all.
      at_paths (Or as_) (map Each (choices (path_lists as_))) (map all_beside (choices (lists_of as_))) (ap its_paths (ways-Or as_)) (ap its_clauses (clausal-Or as_)) (each_beside as_ (choices (path_lists as_)) (choices (lists_of as_)) (all_chosen as_ all));
  imp = λ a b ih jh. at_paths (Imp a b) [] [] (ap its_paths (ways-Imp a b)) (ap its_clauses (clausal-Imp a b)) refl;
  iff = λ a b ih jh. at_paths (Iff a b) [] [] (ap its_paths (ways-Iff a b)) (ap its_clauses (clausal-Iff a b)) refl;
  all = λ s a ih. at_paths (All s a) (map Under (paths_in a)) (map (within s) (clauses_in a)) (ap its_paths (ways-All s a)) (ap its_clauses (clausal-All s a)) (each_under s a (paths_in a) (clauses_in a) ih);
  ex = λ s a ih. at_paths (Ex s a) [] [] (ap its_paths (ways-Ex s a)) (ap its_clauses (clausal-Ex s a)) refl;
})

-- the clauses that are found are those
pub all_found : {X Y : Type 0} (f : X → Option Y) (xs : List X) (ys : List Y) → map f xs ≡ map Some ys → filter_map f xs ≡ ys
all_found f [] [] e = refl
all_found f [] (y ∷ ys) e = cc
all_found f (x ∷ xs) [] e = cc
all_found f (x ∷ xs) (y ∷ ys) e =
    let here : f x ≡ Some y = cc in
    let rest : map f xs ≡ map Some ys = cc in
    rw (here, all_found f xs ys rest) refl

one_more_found : {X Y : Type 0} (f : X → Option Y) (x : X) → filter_map f (x ∷ []) ≡ cons_option (f x) []
one_more_found f x = refl

pub found_more : {X Y : Type 0} (f : X → Option Y) (xs : List X) (i : ℕ) (x : X) (start old new : List Y) → i < length xs → x ≡ get_or xs i x → old ≡ start ++ filter_map f (take i xs) → new ≡ old ++ cons_option (f x) [] → new ≡ start ++ filter_map f (take (i + 1) xs)
found_more {X} {Y} f xs i x start old new lt is eo en =
    let more : take (i + 1) xs ≡ take i xs ++ x ∷ [] = take_more xs i x lt ∙ ap (λ (y : X). take i xs ++ y ∷ []) (sym is) in
    en ∙ ap (λ (l : List Y). l ++ cons_option (f x) []) eo ∙ append_assoc start (filter_map f (take i xs)) (cons_option (f x) [])
    ∙ ap (λ (l : List Y). start ++ l) (ap (λ (l : List Y). filter_map f (take i xs) ++ l) (sym (one_more_found f x)) ∙ sym (filter_map-append f (take i xs) (x ∷ [])) ∙ ap (filter_map f) (sym more))
