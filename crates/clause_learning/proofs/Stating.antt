-- What holds between the turns of a search.
use Rattle.std.proofs.Common.{◌≡◌, ℕ, suc, ◌+◌, ◌-◌, ◌*◌, ◌^◌, ◌<◌, ◌≤◌, not, Bool, true, false, List, [], ◌∷◌, ◌++◌, length, map, reverse, get_or, Option, Some, None, Contains, refl, sym, ap, ◌∙◌, subst, inl, inr, arith, append_assoc}
use Rattle.std.proofs.lemmas.List.{map-append, length-reverse, length-set, reverse-append, get_or-map}
use Rattle.std.proofs.lemmas.List.Elements.{Contains-push_cases}
use Rattle.clause_learning.specs.declared.literal.Literal.{Literal}
use Rattle.clause_learning.specs.declared.trail.Value.{Value}
use Rattle.clause_learning.specs.declared.trail.Step.{Step}
use Rattle.clause_learning.specs.declared.trail.Trail.{Trail}
use Rattle.clause_learning.specs.declared.marks.Marks.{Marks}
use Rattle.clause_learning.specs.declared.clauses.Learned.{Learned}
use Rattle.clause_learning.specs.declared.clauses.Clauses.{Clauses}
use Rattle.clause_learning.specs.declared.examining.Finding.TheVariants.{Broken, Unit as Forced}
use Rattle.clause_learning.specs.declared.solver.Solver.{Solver}
use Rattle.clause_learning.specs.Literals.{complement}
use Rattle.clause_learning.specs.Refutations.{IsDerived, IsLog, IsRefutation}
use Rattle.clause_learning.specs.Valuations.{HasAtoms, MakesTrue, entry_of}
use Rattle.clause_learning.specs.code.Trails.{clauses_of, value_at, Fails, IsJustified, Gives, IsTrail, IsPushed, IsUndone}
use Rattle.clause_learning.specs.code.Marked.{AreClear}
use Rattle.clause_learning.specs.code.Held.{IsHeld, IsHeldAt, IsCollected, IsPassed, IsStoppedAt, IsStopped}
use Rattle.clause_learning.specs.code.States.{IsFoundAt, AllLoose, AllValued, AreLearned, NotesOne, IsPropagated, sign_of}
use Rattle.clause_learning.specs.code.Weights.{weight, weight_of, ceiling}
use Rattle.clause_learning.proofs.Members.{got_in, got_push}
use Rattle.clause_learning.proofs.Resolving.{derived_same, log_more}
use Rattle.clause_learning.proofs.Trailing.{trail_pushed, trail_undone, trail_short, gives_more, fails_within, Undone}
use Rattle.clause_learning.specs.declared.analysis.Stop.{Stop}
use Rattle.clause_learning.specs.code.Cuts.{IsCutTo}
use Rattle.clause_learning.proofs.Cutting.{cut_held, ceiling_cut}
use Rattle.clause_learning.proofs.Holding.{held_popped, collected_same, collected_reason, held_empty}
use Rattle.clause_learning.proofs.Weighing.{ceiling_of, weight_more, weight_below, ceiling_popped}

-- ---- one clause more

pub clauses_pushed : (old new : Clauses) (l : Learned) → new.inputs ≡ old.inputs → new.log ≡ old.log ++ l ∷ [] → clauses_of new ≡ clauses_of old ++ l.lits ∷ []
clauses_pushed old new l inputs log =
    let f : Learned → List Literal = λ l. l.lits in
    ap (λ (is : List (List Literal)). is ++ map f new.log) inputs ∙ ap (λ (ls : List Learned). old.inputs ++ map f ls) log
    ∙ ap (λ (cs : List (List Literal)). old.inputs ++ cs) (map-append f old.log (l ∷ [])) ∙ sym (append_assoc old.inputs (map f old.log) (l.lits ∷ []))

pub learned_more : (atoms : ℕ) (old new : Clauses) (l : Learned) → AreLearned atoms old → new.inputs ≡ old.inputs → new.log ≡ old.log ++ l ∷ [] → IsDerived complement (clauses_of old) l.from l.lits
    → ((x : Literal) → Contains l.lits x → x.atom < atoms) → AreLearned atoms new
learned_more atoms old new l h inputs log d within = record {
  log =
      let P : List (List Literal) → Type 0 = λ is. IsLog complement is (map entry_of new.log) in
      let Q : List Learned → Type 0 = λ ls. IsLog complement old.inputs (map entry_of ls) in
      subst P (sym inputs) (subst Q (sym log) (log_more old.inputs old.log l h.log d));
  within = λ c there x has.
      let on : Contains (clauses_of old ++ l.lits ∷ []) c = subst (λ (cs : List (List Literal)). Contains cs c) (clauses_pushed old new l inputs log) there in
      elim (Contains-push_cases (clauses_of old) l.lits c on) [
        | inl a ↦ h.within c a x has
        | inr e ↦ within x (subst (λ (k : List Literal). Contains k x) (sym e) has)
      ];
}

-- ---- steps more

pub pushed_many : (old new : Trail) (l : Literal) (reason : Option ℕ) → IsPushed old l reason new → length new.values ≡ length old.values
pushed_many old new l reason h = ap length h.values ∙ length-set old.values l.atom (Some (record { positive = l.positive; place = length old.steps }))

pushed_steps : (old new : Trail) (l : Literal) (reason : Option ℕ) → IsPushed old l reason new → reverse new.steps ≡ record { literal = l; reason = reason } ∷ reverse old.steps
pushed_steps old new l reason h = ap reverse h.steps ∙ reverse-append old.steps (record { literal = l; reason = reason } ∷ [])

pub pushed_weight : (old new : Trail) (l : Literal) (reason : Option ℕ) → IsPushed old l reason new → weight_of new ≡ weight (length old.values) (record { literal = l; reason = reason } ∷ reverse old.steps)
pushed_weight old new l reason h =
    ap (λ (n : ℕ). weight n (reverse new.steps)) (pushed_many old new l reason h) ∙ ap (λ (ss : List Step). weight (length old.values) ss) (pushed_steps old new l reason h)

pub pushed_heavier : (old new : Trail) (l : Literal) (reason : Option ℕ) → IsPushed old l reason new → weight_of old < weight_of new
pushed_heavier old new l reason h =
    let e = pushed_weight old new l reason h in
    let more = weight_more (length old.values) (record { literal = l; reason = reason }) (reverse old.steps) in
    omega (arith, e, more)

-- ---- the walk

-- what holds of a walk that is under way
pub record IsWalking (clauses : List (List Literal)) (from : List ℕ) (m : Marks) (first t : Trail) : Type 0 where
  pub held : IsHeld clauses from m t.values
  pub trail : IsTrail clauses t
  pub many : length t.values ≡ length first.values
  pub below : weight_of first < ceiling_of t

pub walking : (clauses : List (List Literal)) (from : List ℕ) (m : Marks) (t : Trail) → IsHeld clauses from m t.values → IsTrail clauses t → IsWalking clauses from m t t
walking clauses from m t h g = record { held = h; trail = g; many = refl; below = weight_below (length t.values) (reverse t.steps) }

module _ (clauses : List (List Literal)) (from : List ℕ) (m : Marks) (first old new : Trail) (s : Step) (w : IsWalking clauses from m first old) (undone : IsUndone old new s) where
  last : Undone clauses old new s
  last = trail_undone clauses old new s w.trail undone

  pub walk_at : IsHeldAt clauses from m new.values s.literal
  walk_at = held_popped clauses from m old new s w.held last undone

  pub walk_reason : IsJustified clauses s.reason s.literal new.values
  walk_reason = last.reason

  old_ceiling : ceiling_of old ≡ ceiling (length new.values) (s ∷ reverse new.steps)
  old_ceiling = ap (λ (n : ℕ). ceiling n (reverse old.steps)) (sym last.many) ∙ ap (λ (ss : List Step). ceiling (length new.values) ss) last.steps

  pub walk_short : suc (length (reverse new.steps)) ≤ length new.values
  walk_short = let short = trail_short clauses old w.trail in let steps = ap length last.steps in let many = last.many in omega (arith, short, steps, many)

  pub walked_on : (from' : List ℕ) (m' : Marks) → IsHeld clauses from' m' new.values → IsWalking clauses from' m' first new
  walked_on from' m' held = record {
    held = held;
    trail = last.trail;
    many = last.many ∙ w.many;
    below =
        let e = old_ceiling in
        let short = walk_short in
        let more = ceiling_popped (length new.values) s (reverse new.steps) (omega arith) in
        let below = w.below in
        omega (arith, e, more, below);
  }

  pub walk_stopped : (from' : List ℕ) (m' : Marks) (k : ℕ) → IsPassed clauses from' m' new s (Some k) → IsStopped clauses from' m' first new (record { literal = s.literal; keep = k })
  walk_stopped from' m' k passed = record {
    here = record {
      held = passed.0;
      marked = passed.1;
      within = let many = last.many in let within = last.step.within in omega (arith, many, within);
      trail = last.trail;
      short = let short = walk_short in let same = length-reverse new.steps in omega (arith, short, same);
      step = s;
      free = passed.2;
      unmarked = passed.3;
    };
    many = last.many ∙ w.many;
    before = let e = old_ceiling in let below = w.below in omega (arith, e, below);
  }

-- the walk came to the begin
pub walk_ended : (clauses : List (List Literal)) (from : List ℕ) (m : Marks) (first t : Trail) → IsWalking clauses from m first t → t.steps ≡ [] → IsDerived complement clauses from []
walk_ended clauses from m first t w none =
    let G : List Step → Type 0 = λ ss. Gives clauses ss t.values in
    held_empty clauses from m t.values (subst G (ap reverse none) w.trail) w.held

-- ---- propagation

pub propagated_none : (clauses : List (List Literal)) (t : Trail) → IsTrail clauses t → IsPropagated clauses t t None
propagated_none clauses t g = record { many = refl; trail = g; heavier = omega arith; conflict = tt }

pub unit_within : (clauses : List (List Literal)) (values : List (Option Value)) (n k : ℕ) (l : Literal) → HasAtoms n clauses → IsFoundAt clauses values k (Forced l) → l.atom < n
unit_within clauses values n k l within found = within found.0 (got_in clauses k found.0 found.1) l found.2.1.has

pub propagated_more : (clauses : List (List Literal)) (first old new : Trail) (l : Literal) (k : ℕ) → HasAtoms (length first.values) clauses → IsPropagated clauses first old None → IsFoundAt clauses old.values k (Forced l)
    → IsPushed old l (Some k) new → IsPropagated clauses first new None
propagated_more clauses first old new l k within h found pushed = record {
  many = pushed_many old new l (Some k) pushed ∙ h.many;
  trail =
      let lt = unit_within clauses old.values (length first.values) k l within found in
      trail_pushed clauses old new l (Some k) h.trail (subst (λ (n : ℕ). l.atom < n) (sym h.many) lt) found.2.0 (found.0, found.1, found.2.1) pushed;
  heavier = let more = pushed_heavier old new l (Some k) pushed in let before = h.heavier in omega (arith, more, before);
  conflict = tt;
}

pub propagated_broken : (clauses : List (List Literal)) (first t : Trail) (k : ℕ) → IsPropagated clauses first t None → IsFoundAt clauses t.values k Broken → IsPropagated clauses first t (Some k)
propagated_broken clauses first t k h found = record { many = h.many; trail = h.trail; heavier = h.heavier; conflict = found }

pub propagated_then : (clauses : List (List Literal)) (a b c : Trail) (found : Option ℕ) → IsPropagated clauses a b None → IsPropagated clauses b c found → IsPropagated clauses a c found
propagated_then clauses a b c found h g = record {
  many = g.many ∙ h.many;
  trail = g.trail;
  heavier = let one = h.heavier in let two = g.heavier in omega (arith, one, two);
  conflict = g.conflict;
}

-- ---- what is learned

pub noted : (old new : Solver) (t : Trail) (stop : Stop) (r : Learned) → AreLearned (length old.trail.values) old.clauses → IsStoppedAt (clauses_of old.clauses) r.from old.marks old.trail stop → IsCutTo old.trail stop.keep t
    → IsCollected (complement stop.literal) t.values old.marks r.lits → AreClear (length old.trail.values) new.marks → new.clauses.inputs ≡ old.clauses.inputs → new.clauses.log ≡ old.clauses.log ++ r ∷ []
    → new.restarts.left ≡ old.restarts.left → IsPushed t (complement stop.literal) (Some (length (clauses_of old.clauses))) new.trail → NotesOne old stop new
noted old new t stop r clauses stopped cut collected clear inputs log left pushed = record {
  state = record {
    clauses =
        let L : ℕ → Type 0 = λ n. AreLearned n new.clauses in
        subst L (sym many) (learned_more (length old.trail.values) old.clauses new.clauses r clauses inputs log derived in_atoms);
    trail =
        let G : List (List Literal) → Type 0 = λ cs. IsTrail cs new.trail in
        subst G (sym more) (trail_pushed (clauses_of old.clauses ++ r.lits ∷ []) t new.trail (complement stop.literal) (Some (length (clauses_of old.clauses)))
        (gives_more (clauses_of old.clauses) (r.lits ∷ []) (reverse t.steps) t.values (cut.trail (clauses_of old.clauses) stopped.trail)) within held.free
        (r.lits, got_push (clauses_of old.clauses) r.lits, collected_reason (clauses_of old.clauses) r.from old.marks t.values stop.literal held r.lits collected) pushed);
    marks = let C : ℕ → Type 0 = λ n. AreClear n new.marks in subst C (sym many) clear;
  };
  inputs = inputs;
  many = many;
  left = left;
  weight = λ s free.
      let top = ceiling_cut (length old.trail.values) old.trail.steps t.steps cut.gone s stop.keep cut.steps cut.left free stopped.short in
      let e = weighs in
      omega (arith, top, e);
}
  where
    held : IsHeldAt (clauses_of old.clauses) r.from old.marks t.values stop.literal
    held = cut_held (clauses_of old.clauses) r.from old.marks old.trail t stop stopped cut

    within : stop.literal.atom < length t.values
    within = let many = cut.many in let within = stopped.within in omega (arith, many, within)

    many : length new.trail.values ≡ length old.trail.values
    many = pushed_many t new.trail (complement stop.literal) (Some (length (clauses_of old.clauses))) pushed ∙ cut.many

    more : clauses_of new.clauses ≡ clauses_of old.clauses ++ r.lits ∷ []
    more = clauses_pushed old.clauses new.clauses r inputs log

    derived : IsDerived complement (clauses_of old.clauses) r.from r.lits
    derived =
        derived_same complement (clauses_of old.clauses) r.from held.lits r.lits held.follows.derived
        (collected_same (clauses_of old.clauses) r.from old.marks t.values stop.literal held r.lits stopped.marked collected)

    in_atoms : (x : Literal) → Contains r.lits x → x.atom < length old.trail.values
    in_atoms x there = elim (collected.only x there) [
      | inl e ↦ subst (λ (z : Literal). z.atom < length old.trail.values) (sym e) stopped.within
      | inr both ↦ let many = cut.many in let f = fails_within t.values x both.1 in omega (arith, many, f)
    ]

    weighs : weight_of new.trail ≡ weight (length old.trail.values) (reverse t.steps) + 2 * 3 ^ (length old.trail.values - suc (length t.steps))
    weighs =
        let steps : 3 ^ (length t.values - suc (length (reverse t.steps))) ≡ 3 ^ (length old.trail.values - suc (length t.steps))
        = ap (λ (n : ℕ). 3 ^ (n - suc (length (reverse t.steps)))) cut.many ∙ ap (λ (n : ℕ). 3 ^ (length old.trail.values - suc n)) (length-reverse t.steps) in
        let rest : weight (length t.values) (reverse t.steps) ≡ weight (length old.trail.values) (reverse t.steps) = ap (λ (n : ℕ). weight n (reverse t.steps)) cut.many in
        let pushed_on = pushed_weight t new.trail (complement stop.literal) (Some (length (clauses_of old.clauses))) pushed in
        omega (arith, steps, rest, pushed_on)

-- a refutation
pub refuted : (old new : Clauses) (from : List ℕ) (atoms : ℕ) → AreLearned atoms old → new.inputs ≡ old.inputs → new.log ≡ old.log ++ record { lits = []; from = from } ∷ []
    → IsDerived complement (clauses_of old) from [] → IsRefutation complement new.inputs (map entry_of new.log)
refuted old new from atoms h inputs log d = record {
  steps =
      let P : List (List Literal) → Type 0 = λ is. IsLog complement is (map entry_of new.log) in
      let Q : List Learned → Type 0 = λ ls. IsLog complement old.inputs (map entry_of ls) in
      subst P (sym inputs) (subst Q (sym log) (log_more old.inputs old.log (record { lits = []; from = from }) h.log d));
  before = map entry_of old.log;
  from = from;
  last = ap (map entry_of) log ∙ map-append entry_of old.log (record { lits = []; from = from } ∷ []);
}

-- ---- a valuation

-- a literal that is not false, of an atom that has a value, is true
true_sign : (values : List (Option Value)) (x : Literal) (v : Value) → value_at values x.atom ≡ Some v → (Fails values x → ⊥) → v.positive ≡ x.positive
true_sign values x v e never = by_cases v.positive x.positive refl refl
  where
    by_cases : (a b : Bool) → v.positive ≡ a → x.positive ≡ b → v.positive ≡ x.positive
    by_cases true true ea eb = ea ∙ sym eb
    by_cases false false ea eb = ea ∙ sym eb
    by_cases true false ea eb = absurd (never (v.place, e ∙ ap (λ (s : Bool). Some (record { positive = s; place = v.place })) (ea ∙ ap not (sym eb))))
    by_cases false true ea eb = absurd (never (v.place, e ∙ ap (λ (s : Bool). Some (record { positive = s; place = v.place })) (ea ∙ ap not (sym eb))))

pub settled_makes_true : (atoms : ℕ) (values : List (Option Value)) (inputs : List (List Literal)) → atoms ≡ length values → HasAtoms atoms inputs → AllValued values → AllLoose values inputs
    → (c : List Literal) → Contains inputs c → MakesTrue (map sign_of values) c
settled_makes_true atoms values inputs many within valued loose c there =
    let one = loose c there in
    (one.0, one.1, sign_at one.0 (within c there one.0 one.1) one.2)
  where
    has_sign : (x : Literal) (o : Option Value) → value_at values x.atom ≡ o → (o ≡ None → ⊥) → (Fails values x → ⊥) → sign_of o ≡ x.positive
    has_sign x None e some never = absurd (some refl)
    has_sign x (Some v) e some never = true_sign values x v e never

    sign_at : (x : Literal) → x.atom < atoms → (Fails values x → ⊥) → get_or (map sign_of values) x.atom false ≡ x.positive
    sign_at x lt never =
        let in' : x.atom < length values = omega (arith, many, lt) in
        get_or-map sign_of values x.atom None false in' ∙ has_sign x (value_at values x.atom) refl (valued x.atom in') never
