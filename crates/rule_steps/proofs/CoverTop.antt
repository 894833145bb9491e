-- What a solution of the goal of a normal form tells, and what it tells that there is none.
use Rattle.std.specs.Prelude.{ℕ, ◌≡◌, ◌+◌, ◌-◌, ◌<◌, ◌≤◌, ◌^◌, true, List, [], ◌∷◌, ◌++◌, length, map, take, drop, get_or, Some, None, slice_get, refl}
use Rattle.std.specs.List.{AllByRecursion}
use Rattle.std.proofs.Common.{ap, sym, subst, ◌∙◌, arith, zero, suc, append_assoc, append-nil, length-append, length-drop, length-take, take-append-drop, get_or-drop}
use Rattle.std.proofs.lemmas.List.{length-reverse}
use Rattle.std.proofs.lemmas.Option.{slice_get_within}
use Rattle.fof_terms.specs.Sorts.{sort_of_term, is_sorted}
use Rattle.fof_terms.proofs.SortsFacts.{sort_of_term-Var}
use Rattle.fof_terms.specs.Vocabulary.{Vocabulary}
use Rattle.fof_terms.specs.declared.term.Term.{Term, Var}
use Rattle.fof_terms.specs.declared.form.Form.{Form}
use Rattle.clause_form.specs.declared.path.Path.{Path}
use Rattle.clause_form.specs.declared.clause.Lit.{Lit}
use Rattle.clause_form.specs.declared.clause.Clause.{Clause}
use Rattle.clause_form.proofs.ClauseLaws.{lits_agree, lits_themselves, sorted_more}
use Rattle.clause_form.specs.Covers.{lit_image, scope_of, AreSorted, CoversBy, IsCovered}
use Rattle.clause_form.specs.Images.{image, IsImages}
use Rattle.clause_form.proofs.ImagesFacts.{image-Var, AgreeOn}
use Rattle.clause_form.specs.Paths.{reached}
use Rattle.clause_form.specs.Sizes.{norm_size_of}
use Rattle.unify_terms.specs.declared.goal.Goal.{Goal}
use Rattle.unify_terms.specs.declared.scope.Scope.{Scope}
use Rattle.unify_terms.specs.declared.solving.Solution.{Solution}
use Rattle.unify_terms.specs.Goals.{asked, goal_sorted, SolvesGoal}
use Rattle.unify_terms.specs.Substitution.{image_at, IsSubstitution}
use Rattle.substitution_search.specs.declared.taking.Reached.{Reached}
use Rattle.substitution_search.specs.Taken.{IsTaken, begun}
use Rattle.rule_steps.specs.code.CoverFound.{NoCover}
use Rattle.substitution_search.specs.CoverSearch.{Taking, Taken, over, named, near, down, opening}
use Rattle.clause_rules.specs.Settled.{IsFit}
use Rattle.rule_steps.proofs.CoverGiven.{gives}
use Rattle.rule_steps.proofs.CoverMet.{met}
use Rattle.rule_steps.proofs.GoalSorts.{few_sorts, goal_fits}
use Rattle.clause_rules.proofs.JointImages.{listed, listed_length, joined, joined_above, made, made_joint, line_stays, sorted_further}
use Rattle.clause_rules.proofs.LitImages.{image_itself}
use Rattle.rule_steps.proofs.Named.{alike, named_image}
use Rattle.clause_rules.proofs.NeedSorts.{all_sorted_fit}
use Rattle.substitution_search.proofs.Placed.{Has, Typed, typed_length, typed_at, Inhabited}
use Rattle.rule_steps.proofs.ReachedFits.{reached_fits}
use Rattle.rule_steps.proofs.SameTake.{same_take}

-- values of a function as a list, in two parts
listed_both : (n m : ℕ) (f : ℕ → Term) → listed (n + m) f ≡ listed n f ++ listed m (λ k. f (k + n))
listed_both zero m f = let e : 0 + m ≡ m = omega arith in ap (λ k. listed k f) e ∙ ap (listed m) (alike f (λ k. f (k + 0)) (λ k. let g : k ≡ k + 0 = omega arith in ap f g))
listed_both (suc n) m f =
    let e : suc n + m ≡ suc (n + m) = omega arith in
    ap (λ k. listed k f) e ∙ ap (λ xs. f 0 ∷ xs) (listed_both n m (λ k. f (suc k)) ∙ ap (λ g. listed n (λ k. f (suc k)) ++ listed m g) (alike (λ k. f (suc (k + n))) (λ k. f (k + suc n)) (λ k. let g : suc (k + n) ≡ k + suc n = omega arith in ap f g)))

listed_again : (xs : List Term) (d : Term) → listed (length xs) (λ k. get_or xs k d) ≡ xs
listed_again [] d = refl
listed_again (x ∷ xs) d = ap (λ ys. x ∷ ys) (listed_again xs d)

over_listed : (n : ℕ) (f e : ℕ → Term) (k : ℕ) → k < n → over (listed n f) e k ≡ f k
over_listed zero f e k h = absurd (omega arith)
over_listed (suc n) f e zero h = refl
over_listed (suc n) f e (suc k) h = over_listed n (λ k. f (suc k)) e k (omega arith)

get_same : (xs : List Term) (i : ℕ) (d e : Term) → i < length xs → get_or xs i d ≡ get_or xs i e
get_same [] i d e h = absurd (omega arith)
get_same (x ∷ xs) zero d e h = refl
get_same (x ∷ xs) (suc i) d e h = get_same xs i d e (omega arith)

read_after : (n : ℕ) (images : List Term) (k : ℕ) (d : Term) → n + k < length images → get_or (drop n images) k d ≡ image_at images (n + k)
read_after n images k d h = get_or-drop n images k d ∙ get_same images (n + k) d (Var (n + k)) h

place_next : (front ss : List ℕ) (k : ℕ) → slice_get (front ++ ss) (length front + k) ≡ slice_get ss k
place_next [] ss k = let e : 0 + k ≡ k = omega arith in ap (λ j. slice_get ss j) e
place_next (x ∷ front) ss k = let e : suc (length front) + k ≡ suc (length front + k) = omega arith in ap (λ j. slice_get (x ∷ (front ++ ss)) j) e ∙ place_next front ss k

member_at : (s : ℕ → Term) (wanted lits : List Lit) → AllByRecursion (IsCovered wanted) (map (lit_image s) lits) → (i : ℕ) (k : Lit) → slice_get lits i ≡ Some k → IsCovered wanted (lit_image s k)
member_at s wanted [] h i k e = cc
member_at s wanted (l ∷ lits) h zero k e = let same : l ≡ k = cc in subst (λ (x : Lit). IsCovered wanted (lit_image s x)) same h.0
member_at s wanted (l ∷ lits) h (suc i) k e = member_at s wanted lits h.1 i k e

images_covered : (s : ℕ → Term) (wanted lits : List Lit) → ((i : ℕ) (k : Lit) → slice_get lits i ≡ Some k → IsCovered wanted (lit_image s k)) → AllByRecursion (IsCovered wanted) (map (lit_image s) lits)
images_covered s wanted [] h = tt
images_covered s wanted (l ∷ lits) h = (h 0 l refl, images_covered s wanted lits (λ i k e. h (suc i) k e))

module _ (v : Vocabulary) (target : List ℕ) where
  typed_listed : (ss : List ℕ) (s : ℕ → Term) → ((k r : ℕ) → slice_get ss k ≡ Some r → sort_of_term v target (s k) ≡ Some r) → Typed v target (listed (length ss) s) ss
  typed_listed [] s h = tt
  typed_listed (r ∷ ss) s h = (h 0 r refl, typed_listed ss (λ k. s (suc k)) (λ k q e. h (suc k) q e))

  typed_from : (ys : List Term) (ss : List ℕ) → length ys ≡ length ss → ((k r : ℕ) (d : Term) → slice_get ss k ≡ Some r → k < length ys → sort_of_term v target (get_or ys k d) ≡ Some r) → Typed v target ys ss
  typed_from [] [] e h = tt
  typed_from [] (s ∷ ss) e h = absurd (omega (arith, e))
  typed_from (y ∷ ys) [] e h = absurd (omega (arith, e))
  typed_from (y ∷ ys) (s ∷ ss) e h = (h 0 s y refl (omega arith), typed_from ys ss (omega (arith, e)) (λ k r d f lt. h (suc k) r d f (omega arith)))

  typed_over : (xs : List Term) (ss : List ℕ) (e : ℕ → Term) (k r : ℕ) → Typed v target xs ss → slice_get ss k ≡ Some r → sort_of_term v target (over xs e k) ≡ Some r
  typed_over [] [] e k r h at = cc
  typed_over [] (s ∷ ss) e k r h at = absurd h
  typed_over (x ∷ xs) [] e k r h at = absurd h
  typed_over (x ∷ xs) (s ∷ ss) e zero r h at = let same : s ≡ r = cc in h.0 ∙ ap Some same
  typed_over (x ∷ xs) (s ∷ ss) e (suc k) r h at = typed_over xs ss e k r h.1 at

  at_end : (pre : List ℕ) (s : ℕ) (ss : List ℕ) → slice_get (pre ++ s ∷ ss) (length pre) ≡ Some s
  at_end [] s ss = refl
  at_end (x ∷ pre) s ss = at_end pre s ss

  -- each sort of the list that the target ends with has a variable
  ends_inhabited : (pre ss : List ℕ) → target ≡ pre ++ ss → Inhabited v target ss
  ends_inhabited pre [] e = tt
  ends_inhabited pre (s ∷ ss) e = (
    (Var (length pre), (rw sort_of_term-Var (ap (λ (ts : List ℕ). slice_get ts (length pre)) e ∙ at_end pre s ss))),
    ends_inhabited (pre ++ s ∷ []) ss (e ∙ sym (append_assoc pre (s ∷ []) ss)),
  )

clause_is : (c d : Clause) → c.sorts ≡ d.sorts → c.lits ≡ d.lits → c ≡ d
clause_is c d e f = ap (λ (ss : List ℕ). record { sorts = ss; lits = c.lits }) e ∙ ap (λ (ls : List Lit). record { sorts = d.sorts; lits = ls }) f

-- the names in their order, twice, are those that they were
down_at : (n : ℕ) (e : ℕ → Term) (k : ℕ) → k < n → over (down 0 n) e k ≡ Var (n - 1 - k)
down_at zero e k h = absurd (omega arith)
down_at (suc n) e zero h = let f : 0 + n ≡ suc n - 1 - 0 = omega arith in ap Var f
down_at (suc n) e (suc k) h = let f : n - 1 - k ≡ suc n - 1 - suc k = omega arith in down_at n e k (omega arith) ∙ ap Var f

down_twice : (v : Vocabulary) (c : Clause) → AreSorted v (scope_of c) c.lits → map (named (down 0 (length c.sorts))) (map (lit_image (over (down 0 (length c.sorts)) Var)) c.lits) ≡ c.lits
down_twice v c sorted =
    let n = length c.sorts in
    let s : ℕ → Term = over (down 0 n) Var in
    let both : map (named (down 0 n)) (map (lit_image s) c.lits) ≡ map (lit_image (λ k. image s (s k))) c.lits = go s c.lits in
    let agree : AgreeOn (scope_of c) (λ k. image s (s k)) Var = record {
      same = λ k r e.
          let within = slice_get_within (scope_of c) k r e in
          let size = length-reverse c.sorts in
          let here : k < n = omega arith in
          let back : n - 1 - (n - 1 - k) ≡ k = omega arith in
          ap (image s) (down_at n Var k here) ∙ image-Var s (n - 1 - k) ∙ down_at n Var (n - 1 - k) (omega arith) ∙ ap Var back;
    } in
    both ∙ lits_agree v (scope_of c) (λ k. image s (s k)) Var agree c.lits sorted ∙ lits_themselves (image Var) image_itself c.lits where
      go : (s : ℕ → Term) (lits : List Lit) → map (lit_image s) (map (lit_image s) lits) ≡ map (lit_image (λ k. image s (s k))) lits
      go s [] = refl
      go s (l ∷ lits) = rw (named_image s s l, go s lits) refl

-- the path reaches the clause, which some substitution covers by the line
pub record CoversSome (v : Vocabulary) (norm : Form) (line : Clause) (made : Reached) : Type 0 where
  pub reaches : reached made.path norm ≡ Some made.clause
  pub fit_clause : IsFit v made.clause
  pub more : List ℕ
  pub images : ℕ → Term
  pub covers : CoversBy v (scope_of made.clause) made.clause.lits line more images

module _ (v : Vocabulary) (line : Clause) (fit : IsFit v line) (norm : Form) (sorted : is_sorted v [] norm ≡ true) (small : norm_size_of norm ≤ 100000) (scope : Scope) (goal : Goal) (sorts_are : scope.sorts ≡ scope_of line ++ (opening line.lits norm).sorts) (rigid_is : scope.rigid ≡ length line.sorts) (asks : goal ≡ (opening line.lits norm).goal (length (scope_of line)) []) where
  abbrev ss : List ℕ
  ss = (opening line.lits norm).sorts

  abbrev whole : List ℕ
  whole = scope_of line ++ ss

  line_size : length (scope_of line) ≡ length line.sorts
  line_size = length-reverse line.sorts

  pub few_in_goal : length scope.sorts ≤ 2 ^ 32
  few_in_goal =
      let total = length-append (scope_of line) ss in
      let few = few_sorts line.lits norm in
      let e = fit.few in
      let size = line_size in
      rw sorts_are (omega arith)

  pub goal_is_sorted : goal_sorted v scope.sorts goal ≡ true
  goal_is_sorted =
      rw (sorts_are, asks)
      (goal_fits v whole line.lits (all_sorted_fit v whole line.lits (sorted_further v (scope_of line) ss line.lits fit.sorted)) norm [] (length (scope_of line)) [] sorted (record { sorted = λ k r e. cc }) (record {
        front = scope_of line;
        back = [];
        is = ap (λ ts. scope_of line ++ ts) (sym (append-nil ss));
        place = refl;
      }))

  fits : (p : Path) (c : Clause) → reached p norm ≡ Some c → IsFit v c
  fits p c e =
      let f = reached_fits v norm p c e [] sorted in
      let few = f.few in
      record { sorted = subst (λ ts. AreSorted v ts c.lits) (append-nil (scope_of c)) f.sorted; few = omega arith }

  pub no_cover : SolvesGoal v scope goal None → NoCover v norm line
  no_cover none p c more s reaches covers =
      let target = scope_of line ++ (more ++ ss) in
      let n = length line.sorts in
      let over_more : (k r : ℕ) → slice_get (scope_of c) k ≡ Some r → sort_of_term v target (s k) ≡ Some r =
      λ k r e. subst (λ ts. sort_of_term v ts (s k) ≡ Some r) (append_assoc (scope_of line) more ss) (sorted_more v (scope_of line ++ more) ss (s k) r (covers.images.sorted k r e)) in
      let xs = listed (length (scope_of c)) s in
      let g = gives v target line.lits line.lits norm p c reaches xs (typed_listed v target (scope_of c) s over_more) (ends_inhabited v target (scope_of line ++ more) ss (sym (append_assoc (scope_of line) more ss))) in
      let f : ℕ → Term = λ k. get_or g.terms k (Var 0) in
      let f_images : IsImages v ss target f = record { sorted = λ k r e. typed_at v target g.terms ss k r (Var 0) g.typed e } in
      let images = made v line ss (more ++ ss) f f_images in
      let sub = made_joint v line ss (more ++ ss) f f_images in
      let size : length g.terms ≡ length ss = typed_length v target g.terms ss g.typed in
      let total : length (scope_of line ++ ss) ≡ n + length g.terms = length-append (scope_of line) ss ∙ omega (arith, line_size, size) in
      let behind : listed (length g.terms) (λ k. joined n f (k + n)) ≡ g.terms =
      ap (listed (length g.terms)) (alike (λ k. joined n f (k + n)) f (λ k. let back : k + n - n ≡ k = omega arith in joined_above n f (k + n) (omega arith) ∙ ap f back)) ∙ listed_again g.terms (Var 0) in
      let has : Has images (length (scope_of line)) g.terms = record {
        front = listed n (joined n f);
        back = [];
        is = ap (λ m. listed m (joined n f)) total ∙ listed_both n (length g.terms) (joined n f) ∙ ap (λ ys. listed n (joined n f) ++ ys) (behind ∙ sym (append-nil g.terms));
        place = line_size ∙ sym (listed_length n (joined n f));
      } in
      let e : ℕ → Term = λ k. image (image_at images) (Var k) in
      let agree : AgreeOn (scope_of c) s (over xs e) = record { same = λ k r at. sym (over_listed (length (scope_of c)) s e k (slice_get_within (scope_of c) k r at)) } in
      let good : AllByRecursion (IsCovered line.lits) (map (lit_image (over xs e)) c.lits) =
      subst (AllByRecursion (IsCovered line.lits)) (lits_agree v (scope_of c) s (over xs e) agree c.lits (fits p c reaches).sorted) (images_covered s line.lits c.lits covers.covered) in
      let q = g.meets e good images (length (scope_of line)) [] (record { has = has; means = refl; line_is = line_stays v line ss target images sub fit.sorted }) [] in
      none target images (rw (sorts_are, rigid_is) sub) q.choices (record { pairs = q.pairs; all = ap (λ w. asked w q.choices) asks ∙ q.asks; unifies = q.unifies })

  pub some_cover : (solution : Solution) (made : Reached) → SolvesGoal v scope goal (Some solution) → IsTaken norm solution.choices made → CoversSome v norm line made
  some_cover solution made solves taken =
      let images = solution.subst in
      let n = length (scope_of line) in
      let sub : IsSubstitution v whole (length line.sorts) whole images = rw (sorts_are, rigid_is) at solves.0 in
      let ys = drop n images in
      let total = length-append (scope_of line) ss in
      let size : length images ≡ n + length ss = sub.size ∙ total in
      let typed : Typed v whole ys ss = typed_from v whole ys ss (length-drop n images ∙ omega (arith, size)) (λ k r d at lt.
      let within = slice_get_within ss k r at in
      let there : sort_of_term v whole (image_at images (n + k)) ≡ slice_get whole (n + k) = sub.sorted (n + k) (omega arith) in
      ap (sort_of_term v whole) (read_after n images k d (omega (arith, size))) ∙ there ∙ place_next (scope_of line) ss k ∙ at) in
      let has : Has images n ys = record {
        front = take n images;
        back = [];
        is = sym (take-append-drop n images) ∙ ap (λ zs. take n images ++ zs) (sym (append-nil ys));
        place = sym (length-take n images ∙ omega (arith, size));
      } in
      let w = begun solution.choices in
      let f = met v whole line.lits images norm n [] [] ys w solves.1.pairs [] has typed (sym (ap (λ g. asked g solution.choices) asks) ∙ solves.1.all) solves.1.unifies in
      let t : (opening line.lits norm).take [] w ≡ taken.taken = ap (λ (g : List Term → Taking → Taken). g [] w) (same_take line.lits norm) ∙ sym taken.is in
      let c = f.clause in
      let c_fit = fits _ c f.reaches in
      let sorts : made.clause.sorts ≡ c.sorts = taken.sorts ∙ sym (ap (λ (r : Taken). r.rest.sorts) t) ∙ f.sorts in
      let lits : made.clause.lits ≡ c.lits =
      taken.lits ∙ ap (λ (r : Taken). map (named (down 0 (length r.rest.sorts))) r.rest.lits) (sym t)
      ∙ ap (λ (ts : List ℕ). map (named (down 0 (length ts))) ((opening line.lits norm).take [] w).rest.lits) f.sorts ∙ ap (map (named (down 0 (length c.sorts)))) f.lits
      ∙ down_twice v c c_fit.sorted in
      let is : c ≡ made.clause = sym (clause_is made.clause c sorts lits) in
      let e : ℕ → Term = λ k. image (image_at images) (Var k) in
      let covers : CoversBy v (scope_of c) c.lits line ss (over f.terms e) = record {
        images = record { sorted = λ k r at. typed_over v whole f.terms (scope_of c) e k r f.typed at };
        covered = member_at (over f.terms e) line.lits c.lits (subst (λ ls. AllByRecursion (IsCovered ls) (map (lit_image (over f.terms e)) c.lits)) (line_stays v line ss whole images sub fit.sorted) f.covered);
      } in
      record {
        reaches = ap (λ p. reached p norm) (taken.path ∙ sym (ap (λ (r : Taken). r.path) t)) ∙ f.reaches ∙ ap Some is;
        fit_clause = subst (IsFit v) is c_fit;
        more = ss;
        images = over f.terms e;
        covers = subst (λ (d : Clause). CoversBy v (scope_of d) d.lits line ss (over f.terms e)) is covers;
      }

-- the goal, as code asks it
pub sorts_as : (norm : Form) (line lent : List Lit) (before after front : List ℕ) → lent ≡ line → before ≡ front → after ≡ before ++ (opening lent norm).sorts → after ≡ front ++ (opening line norm).sorts
sorts_as norm line lent before after front same is h = h ∙ ap (λ (ls : List Lit). before ++ (opening ls norm).sorts) same ∙ ap (λ ss. ss ++ (opening line norm).sorts) is

pub asks_as : (norm : Form) (line lent : List Lit) (before names front : List ℕ) (goal : Goal) → lent ≡ line → before ≡ front → names ≡ [] → goal ≡ (opening lent norm).goal (length before) (near names) → goal ≡ (opening line norm).goal (length front) []
asks_as norm line lent before names front goal same is none h =
    h ∙ ap (λ (ls : List Lit). (opening ls norm).goal (length before) (near names)) same ∙ ap (λ (ss : List ℕ). (opening line norm).goal (length ss) (near names)) is ∙ ap (λ (ns : List ℕ). (opening line norm).goal (length front) (near ns)) none
