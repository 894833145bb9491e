-- How far the taking of a path has come.
use Rattle.std.specs.Prelude.{ℕ, ◌≡◌, ◌+◌, ◌<◌, ◌≤◌, List, [], ◌∷◌, ◌++◌, length, map, reverse, take, get_or, slice_get, Option, Some, None, MatchOption, Result, IfOk, refl}
use Rattle.std.proofs.Common.{ap, sym, ◌∙◌, arith, zero, suc}
use Rattle.fof_terms.specs.declared.term.Term.{Term, Var}
use Rattle.fof_terms.specs.declared.form.Form.{Form, All}
use Rattle.std.proofs.lemmas.List.{reverse-reverse}
use Rattle.std.proofs.lemmas.Option.{slice_get_past}
use Rattle.clause_form.specs.ClauseView.{view_of}
use Rattle.clause_form.specs.Paths.{plain}
use Rattle.clause_form.specs.declared.clause.Lit.{Lit}
use Rattle.clause_form.specs.declared.path.Path.{Path, Leaf, Pick, Under}
use Rattle.substitution_search.specs.declared.taking.Taking.{Taking as State}
use Rattle.substitution_search.specs.code.Taken.{state_of}
use Rattle.substitution_search.specs.Taken.{begun, IsTaken}
use Rattle.substitution_search.specs.CoverSearch.{Taking, Taken, TakenAll, Opening, near, down, named, take_leaf, take_at, take_pick, take_each, first_taken, picked, with_choices, with_sort, opening, opened_all}
use Rattle.substitution_search.proofs.CoverSearchFacts.{opening-All}
use Rattle.clause_rules.proofs.Firsts.{ok_map}
use Rattle.substitution_search.proofs.Names.{near_more}
use Rattle.clause_rules.proofs.TakenLists.{mapped_more, take_all}
use Rattle.substitution_search.proofs.Opened.{popped}
use Rattle.substitution_search.proofs.Openings.{IsLeafForm, leaf_form}
use Rattle.substitution_search.proofs.Placed.{reverse_snoc}

pub each_more : (os : List Opening) (o : Opening) (env : List Term) (w : Taking) → take_each (os ++ o ∷ []) env w ≡ record { paths = (take_each os env w).paths ++ (o.take env (take_each os env w).rest).path ∷ []; rest = (o.take env (take_each os env w).rest).rest }
each_more [] o env w = refl
each_more (p ∷ os) o env w = ap (first_taken (p.take env w)) (each_more os o env (p.take env w).rest)

pub record TakenSoFar (forms : List Form) (i : ℕ) (before : State) (names : List ℕ) (paths : List Path) (now : State) (left : List ℕ) : Type 0 where
  pub paths_are : paths ≡ (take_each (map (opening []) (take i forms)) (near names) (state_of before)).paths
  pub state_is : state_of now ≡ (take_each (map (opening []) (take i forms)) (near names) (state_of before)).rest
  pub names_are : left ≡ names

pub taken_none : (forms : List Form) (before : State) (names : List ℕ) (paths : List Path) → paths ≡ [] → TakenSoFar forms 0 before names paths before names
taken_none forms before names paths e = record { paths_are = e; state_is = refl; names_are = refl }

abbrev pub Answer : Form → State → List ℕ → Path → State → List ℕ → Type 0
Answer form before names path now left = (path ≡ ((opening [] form).take (near names) (state_of before)).path) × (state_of now ≡ ((opening [] form).take (near names) (state_of before)).rest) × (left ≡ names)

pub taken_more : (forms : List Form) (i : ℕ) (before : State) (names : List ℕ) (paths : List Path) (now : State) (left : List ℕ) (form : Form) (path : Path) (now' : State) (left' : List ℕ) (paths' : List Path) → i < length forms → form ≡ get_or forms i form
    → TakenSoFar forms i before names paths now left → Answer form now left path now' left' → paths' ≡ paths ++ path ∷ [] → TakenSoFar forms (i + 1) before names paths' now' left'
taken_more forms i before names paths now left form path now' left' paths' h e so step made =
    let os = map (opening []) (take i forms) in
    let o = opening [] form in
    let q = take_each os (near names) (state_of before) in
    let next = ap (λ ps. take_each ps (near names) (state_of before)) (mapped_more (opening []) forms i form h e) ∙ each_more os o (near names) (state_of before) in
    let here : o.take (near left) (state_of now) ≡ o.take (near names) q.rest = ap (λ ns. o.take (near ns) (state_of now)) so.names_are ∙ ap (o.take (near names)) so.state_is in
    record {
      paths_are = made ∙ ap (λ ps. ps ++ path ∷ []) so.paths_are ∙ ap (λ p. q.paths ++ p ∷ []) (step.0 ∙ ap (λ (r : Taken). r.path) here) ∙ sym (ap (λ (r : TakenAll). r.paths) next);
      state_is = step.1 ∙ ap (λ (r : Taken). r.rest) here ∙ sym (ap (λ (r : TakenAll). r.rest) next);
      names_are = step.2 ∙ so.names_are;
    }

pub taken_done : (forms : List Form) (n : ℕ) (before : State) (names : List ℕ) (paths : List Path) (now : State) (left : List ℕ) → n ≡ length forms → TakenSoFar forms n before names paths now left
    → (paths ≡ (take_each (map (opening []) forms) (near names) (state_of before)).paths) × (state_of now ≡ (take_each (map (opening []) forms) (near names) (state_of before)).rest) × (left ≡ names)
taken_done forms n before names paths now left e so =
    let all = take_all forms n e in (
      so.paths_are ∙ ap (λ fs. (take_each (map (opening []) fs) (near names) (state_of before)).paths) all,
      so.state_is ∙ ap (λ fs. (take_each (map (opening []) fs) (near names) (state_of before)).rest) all,
      so.names_are,
    )

pub under_taken : (form body inner : Form) (s n : ℕ) (before : State) (names names1 names2 names3 sorts1 : List ℕ) (path boxed : Path) (now : State) (r : Option ℕ) → form ≡ All s body → inner ≡ body → n ≡ length before.sorts → names1 ≡ names ++ n ∷ [] → sorts1 ≡ before.sorts ++ s ∷ []
    → Answer inner (record { choices = before.choices; sorts = sorts1; lits = before.lits }) names1 path now names2 → MatchOption r ((names2 ≡ []) × (names3 ≡ [])) (λ last. names2 ≡ names3 ++ last ∷ []) → boxed ≡ path → Answer form before names (Under boxed) now names3
under_taken form body inner s n before names names1 names2 names3 sorts1 path boxed now r is got count pushed more answer pop box =
    let o = opening [] body in
    let opened : opening [] form ≡ opened_all s o = ap (opening []) is ∙ opening-All [] s body in
    let env : near names1 ≡ Var (length before.sorts) ∷ near names = ap near pushed ∙ near_more names n ∙ ap (λ k. Var k ∷ near names) count in
    let state : state_of (record { choices = before.choices; sorts = sorts1; lits = before.lits }) ≡ with_sort (state_of before) s = ap (λ (ss : List ℕ). state_of (record { choices = before.choices; sorts = ss; lits = before.lits })) more in
    let same : (opening [] inner).take (near names1) (state_of (record { choices = before.choices; sorts = sorts1; lits = before.lits })) ≡ o.take (Var (length before.sorts) ∷ near names) (with_sort (state_of before) s) =
    ap (λ b. (opening [] b).take (near names1) (state_of (record { choices = before.choices; sorts = sorts1; lits = before.lits }))) got ∙ ap (λ e. o.take e (state_of (record { choices = before.choices; sorts = sorts1; lits = before.lits }))) env ∙ ap (o.take (Var (length before.sorts) ∷ near names)) state in (
      ap Under (box ∙ answer.0 ∙ ap (λ (t : Taken). t.path) same) ∙ ap (λ (p : Opening). (p.take (near names) (state_of before)).path) (sym opened),
      answer.1 ∙ ap (λ (t : Taken). t.rest) same ∙ ap (λ (p : Opening). (p.take (near names) (state_of before)).rest) (sym opened),
      popped r names2 names3 names n (answer.2 ∙ pushed) pop,
    )

pub leaf_done : {E : Type 0} (form : Form) (before now : State) (names lent : List ℕ) (r : Result Path E) → IsLeafForm form → lent ≡ names → IfOk r (λ path. (path ≡ (take_leaf (plain (view_of form).lit) (near lent) (state_of before)).path) × (state_of now ≡ (take_leaf (plain (view_of form).lit) (near lent) (state_of before)).rest))
    → IfOk r (λ path. Answer form before names path now names)
leaf_done form before now names lent r leaf same h =
    let is = (leaf_form [] form leaf).opened in
    let here : take_leaf (plain (view_of form).lit) (near lent) (state_of before) ≡ (opening [] form).take (near names) (state_of before) =
    ap (λ (ns : List ℕ). take_leaf (plain (view_of form).lit) (near ns) (state_of before)) same ∙ ap (λ (o : Opening). o.take (near names) (state_of before)) (sym is) in
    ok_map r (λ path e. (e.0 ∙ ap (λ (t : Taken). t.path) here, e.1 ∙ ap (λ (t : Taken). t.rest) here, refl)) h

abbrev pub PickAnswer : List Form → State → List ℕ → Path → State → List ℕ → Type 0
PickAnswer members before names path now left =
    (path ≡ (take_pick (map (opening []) members) (near names) (state_of before) (reverse before.choices)).path) × (state_of now ≡ (take_pick (map (opening []) members) (near names) (state_of before) (reverse before.choices)).rest) × (left ≡ names)

length_map : {X Y : Type 0} (f : X → Y) (xs : List X) → length (map f xs) ≡ length xs
length_map f [] = refl
length_map f (x ∷ xs) = ap (λ n. suc n) (length_map f xs)

mapped_at : {X Y : Type 0} (f : X → Y) (xs : List X) (i : ℕ) (x : X) → slice_get xs i ≡ Some x → slice_get (map f xs) i ≡ Some (f x)
mapped_at f [] i x e = cc
mapped_at f (y ∷ xs) zero x e = let same : y ≡ x = cc in ap (λ z. Some (f z)) same
mapped_at f (y ∷ xs) (suc i) x e = mapped_at f xs i x e

pub pick_past : (members : List Form) (before : State) (names left : List ℕ) (choice : ℕ) → before.choices ≡ left ++ choice ∷ [] → length members ≤ choice → PickAnswer members before names Leaf (record { choices = left; sorts = before.sorts; lits = before.lits }) names
pick_past members before names left choice is past =
    let os = map (opening []) members in
    let turned : reverse before.choices ≡ choice ∷ reverse left = ap reverse is ∙ reverse_snoc left choice in
    let none : slice_get os choice ≡ None = slice_get_past os choice (let e = length_map (opening []) members in omega arith) in
    let here : take_pick os (near names) (state_of before) (reverse before.choices) ≡ record { path = Leaf; rest = with_choices (state_of before) (reverse left) } =
    ap (take_pick os (near names) (state_of before)) turned ∙ ap (λ o. take_at o choice (near names) (with_choices (state_of before) (reverse left))) none in
    (sym (ap (λ (t : Taken). t.path) here), sym (ap (λ (t : Taken). t.rest) here), refl)

pub pick_there : (members : List Form) (before : State) (names left : List ℕ) (choice : ℕ) (member : Form) (path boxed : Path) (now : State) (now_names : List ℕ) → before.choices ≡ left ++ choice ∷ [] → slice_get members choice ≡ Some member
    → Answer member (record { choices = left; sorts = before.sorts; lits = before.lits }) names path now now_names → boxed ≡ path → PickAnswer members before names (Pick choice boxed) now now_names
pick_there members before names left choice member path boxed now now_names is at answer box =
    let os = map (opening []) members in
    let turned : reverse before.choices ≡ choice ∷ reverse left = ap reverse is ∙ reverse_snoc left choice in
    let there = mapped_at (opening []) members choice member at in
    let here : take_pick os (near names) (state_of before) (reverse before.choices) ≡ picked choice ((opening [] member).take (near names) (with_choices (state_of before) (reverse left))) =
    ap (take_pick os (near names) (state_of before)) turned ∙ ap (λ o. take_at o choice (near names) (with_choices (state_of before) (reverse left))) there in
    (ap (Pick choice) (box ∙ answer.0) ∙ sym (ap (λ (t : Taken). t.path) here), answer.1 ∙ sym (ap (λ (t : Taken). t.rest) here), answer.2)

pub made_taken : (form : Form) (choices backward sorts0 : List ℕ) (lits0 : List Lit) (names : List ℕ) (path : Path) (now : State) (left order lent : List ℕ) (count : ℕ) (lits given : List Lit) → backward ≡ reverse choices → sorts0 ≡ [] → lits0 ≡ [] → names ≡ []
    → Answer form (record { choices = backward; sorts = sorts0; lits = lits0 }) names path now left → near order ≡ down 0 count → count ≡ length now.sorts → lent ≡ order → given ≡ now.lits → lits ≡ map (named (near lent)) given
    → IsTaken form choices (record { path = path; clause = record { sorts = now.sorts; lits = lits } })
made_taken form choices backward sorts0 lits0 names path now left order lent count lits given turned no_sorts no_lits no_names answer ordered counted same got made =
    let t = (opening [] form).take [] (begun choices) in
    let state : state_of (record { choices = backward; sorts = sorts0; lits = lits0 }) ≡ begun choices =
    ap (λ cs. record { choices = cs; sorts = sorts0; lits = lits0 }) (ap reverse turned ∙ reverse-reverse choices) ∙ ap (λ ss. record { choices = choices; sorts = ss; lits = lits0 }) no_sorts ∙ ap (λ ls. record { choices = choices; sorts = []; lits = ls }) no_lits in
    let here : (opening [] form).take (near names) (state_of (record { choices = backward; sorts = sorts0; lits = lits0 })) ≡ t = ap (λ (ns : List ℕ). (opening [] form).take (near ns) (state_of (record { choices = backward; sorts = sorts0; lits = lits0 }))) no_names ∙ ap ((opening [] form).take []) state in
    let rest : state_of now ≡ t.rest = answer.1 ∙ ap (λ (r : Taken). r.rest) here in
    let sorts : now.sorts ≡ t.rest.sorts = ap (λ (w : Taking). w.sorts) rest in
    record {
      taken = t;
      is = refl;
      path = answer.0 ∙ ap (λ (r : Taken). r.path) here;
      sorts = sorts;
      lits = made ∙ ap (λ ns. map (named ns) given) (ap near same ∙ ordered ∙ ap (down 0) (counted ∙ ap length sorts)) ∙ ap (map (named (down 0 (length t.rest.sorts)))) (got ∙ ap (λ (w : Taking). w.lits) rest);
    }
