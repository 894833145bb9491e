-- Turns of a search.
use Rattle.std.proofs.Common.{◌≡◌, ℕ, suc, ◌+◌, ◌-◌, ◌*◌, ◌^◌, ◌<◌, ◌≤◌, Bool, List, [], ◌++◌, length, map, reverse, Option, None, Contains, inl, inr, refl, sym, ap, ◌∙◌, subst, arith, append-nil, mul-le-mul_right, suc-mul}
use Rattle.std.proofs.lemmas.List.{length-map, length-replicate}
use Rattle.clause_learning.specs.declared.literal.Literal.{Literal}
use Rattle.clause_learning.specs.declared.trail.Value.{Value}
use Rattle.clause_learning.specs.declared.trail.Trail.{Trail}
use Rattle.clause_learning.specs.declared.clauses.Learned.{Learned}
use Rattle.clause_learning.specs.Literals.{complement}
use Rattle.clause_learning.specs.Refutations.{IsLog}
use Rattle.clause_learning.specs.declared.solver.Solver.{Solver}
use Rattle.clause_learning.specs.declared.solver.Turn.{Turn}
use Rattle.clause_learning.specs.declared.solver.Turn.TheVariants.{Further, Refuted, Settled}
use Rattle.clause_learning.specs.declared.clauses.Clauses.{Clauses}
use Rattle.clause_learning.specs.declared.restarts.Restarts.{Restarts}
use Rattle.clause_learning.specs.declared.analysis.Stop.{Stop}
use Rattle.clause_learning.specs.declared.marks.Marks.{Marks}
use Rattle.clause_learning.specs.code.Held.{IsStopped}
use Rattle.clause_learning.specs.Valuations.{HasAtoms, IsModel, entry_of}
use Rattle.clause_learning.specs.code.Trails.{clauses_of, IsTrail, IsFresh, IsPushed}
use Rattle.clause_learning.specs.code.Marked.{AreClear}
use Rattle.clause_learning.specs.code.States.{AllLoose, AllValued, AreLearned, IsState, IsFurther, IsTurned, IsNoted, IsPropagated, IsOpen, sign_of}
use Rattle.clause_learning.specs.code.Weights.{weight_of}
use Rattle.clause_learning.proofs.Trailing.{trail_pushed, trail_short, trail_fresh}
use Rattle.clause_learning.proofs.Weighing.{weight_below, ceiling_most}
use Rattle.clause_learning.proofs.Stating.{pushed_many, pushed_heavier, settled_makes_true}

-- before the first turn
pub fresh_state : (atoms : ℕ) (s : Solver) → HasAtoms atoms s.clauses.inputs → s.clauses.log ≡ [] → IsFresh atoms s.trail → AreClear atoms s.marks → IsState s
fresh_state atoms s within none fresh clear =
    let many : length s.trail.values ≡ atoms = ap length fresh.values ∙ length-replicate atoms None in
    let all : clauses_of s.clauses ≡ s.clauses.inputs = ap (λ (ls : List Learned). s.clauses.inputs ++ map (λ l. l.lits) ls) none ∙ append-nil s.clauses.inputs in
    record {
      clauses = record {
        log = let L : List Learned → Type 0 = λ ls. IsLog complement s.clauses.inputs (map entry_of ls) in subst L (sym none) tt;
        within = λ c there x on.
            let old : Contains s.clauses.inputs c = subst (λ (cs : List (List Literal)). Contains cs c) all there in
            subst (λ (n : ℕ). x.atom < n) (sym many) (within c old x on);
      };
      trail = trail_fresh (clauses_of s.clauses) atoms s.trail fresh;
      marks = subst (λ (n : ℕ). AreClear n s.marks) (sym many) clear;
    }

-- after clauses have given what they give
pub propagated_state : (old : Solver) (mid : Trail) (found : Option ℕ) → IsState old → IsPropagated (clauses_of old.clauses) old.trail mid found → IsState (record { clauses = old.clauses; trail = mid; marks = old.marks; restarts = old.restarts })
propagated_state old mid found state h = record {
  clauses = subst (λ (n : ℕ). AreLearned n old.clauses) (sym h.many) state.clauses;
  trail = h.trail;
  marks = subst (λ (n : ℕ). AreClear n old.marks) (sym h.many) state.marks;
}

-- a turn from there
pub turned_after : (old new : Solver) (mid : Trail) (found : Option ℕ) (t : Turn) → IsPropagated (clauses_of old.clauses) old.trail mid found
    → IsTurned (record { clauses = old.clauses; trail = mid; marks = old.marks; restarts = old.restarts }) new t → IsTurned old new t
turned_after old new mid found Further h g = record {
  state = g.state;
  inputs = g.inputs;
  many = g.many ∙ h.many;
  nearer = elim g.nearer [
    | inl fewer ↦ inl fewer
    | inr both ↦ let before = h.heavier in let more = both.1 in inr (both.0, omega (arith, before, more))
  ];
}
turned_after old new mid found Refuted h g = record { inputs = g.inputs; refuted = g.refuted }
turned_after old new mid found Settled h g = record { inputs = g.inputs; many = g.many ∙ h.many; valued = g.valued; loose = g.loose }

-- a literal that is taken freely
pub decided : (old : Solver) (new : Trail) (l : Literal) → IsState old → IsOpen old.trail.values l.atom → IsPushed old.trail l None new
    → IsFurther old (record { clauses = old.clauses; trail = new; marks = old.marks; restarts = old.restarts })
decided old new l state free pushed =
    let many : length new.values ≡ length old.trail.values = pushed_many old.trail new l None pushed in
    record {
      state = record {
        clauses = subst (λ (n : ℕ). AreLearned n old.clauses) (sym many) state.clauses;
        trail = trail_pushed (clauses_of old.clauses) old.trail new l None state.trail free.0 free.1 tt pushed;
        marks = subst (λ (n : ℕ). AreClear n old.marks) (sym many) state.marks;
      };
      inputs = refl;
      many = many;
      nearer = inr (refl, pushed_heavier old.trail new l None pushed);
    }

-- a restart
pub restarted : (old : Solver) (new : Trail) (left : Restarts) → IsState old → suc left.left ≡ old.restarts.left → length new.values ≡ length old.trail.values → IsTrail (clauses_of old.clauses) new
    → IsFurther old (record { clauses = old.clauses; trail = new; marks = old.marks; restarts = left })
restarted old new left state fewer many trail = record {
  state = record {
    clauses = subst (λ (n : ℕ). AreLearned n old.clauses) (sym many) state.clauses;
    trail = trail;
    marks = subst (λ (n : ℕ). AreClear n old.marks) (sym many) state.marks;
  };
  inputs = refl;
  many = many;
  nearer = inl (omega (arith, fewer));
}

-- what is learned from a false clause
pub learned_turn : (old mid new : Solver) (from : List ℕ) (m : Marks) (stop : Stop) (t : Turn) → mid.clauses ≡ old.clauses → mid.restarts ≡ old.restarts → IsStopped (clauses_of old.clauses) from m old.trail mid.trail stop
    → IsNoted mid stop new t → IsTurned old new t
learned_turn old mid new from m stop Further clauses restarts stopped noted = record {
  state = noted.state;
  inputs = noted.inputs ∙ ap (λ (c : Clauses). c.inputs) clauses;
  many = noted.many ∙ stopped.many;
  nearer =
      let before = stopped.before in
      let on = noted.weight stopped.here.step stopped.here.free in
      inr (noted.left ∙ ap (λ (r : Restarts). r.left) restarts, omega (arith, before, on));
}
learned_turn old mid new from m stop Refuted clauses restarts stopped noted = absurd noted
learned_turn old mid new from m stop Settled clauses restarts stopped noted = absurd noted

-- the measure falls
fewer_times : (a b p : ℕ) → a < b → a * p + p ≤ b * p
fewer_times a b p h =
    let times : suc a * p ≤ b * p = mul-le-mul_right p h in
    let more : suc a * p ≡ a * p + p = suc-mul a p in
    omega (arith, times, more)

pub further_smaller : (old new : Solver) → IsState old → IsFurther old new → new.restarts.left * 3 ^ length new.trail.values + (3 ^ length new.trail.values - weight_of new.trail)
    < old.restarts.left * 3 ^ length old.trail.values + (3 ^ length old.trail.values - weight_of old.trail)
further_smaller old new state h =
    let same : 3 ^ length new.trail.values ≡ 3 ^ length old.trail.values = ap (λ (n : ℕ). 3 ^ n) h.many in
    let turned : new.restarts.left * 3 ^ length new.trail.values ≡ new.restarts.left * 3 ^ length old.trail.values = ap (λ (p : ℕ). new.restarts.left * p) same in
    let before = weighs_below old.trail (clauses_of old.clauses) state.trail in
    let after = weighs_below new.trail (clauses_of new.clauses) h.state.trail in
    elim h.nearer [
      | inl fewer ↦
          let times = fewer_times new.restarts.left old.restarts.left (3 ^ length old.trail.values) fewer in
          omega (arith, same, turned, times, before, after)
      | inr both ↦
          let left : new.restarts.left * 3 ^ length old.trail.values ≡ old.restarts.left * 3 ^ length old.trail.values = ap (λ (n : ℕ). n * 3 ^ length old.trail.values) both.0 in
          let heavier = both.1 in
          omega (arith, same, turned, left, heavier, before, after)
    ]
  where
    weighs_below : (t : Trail) (clauses : List (List Literal)) → IsTrail clauses t → weight_of t < 3 ^ length t.values
    weighs_below t clauses g =
        let short = trail_short clauses t g in
        let most = ceiling_most (length t.values) (reverse t.steps) short in
        let below = weight_below (length t.values) (reverse t.steps) in
        omega (arith, most, below)

-- the signs at the end
pub settled_model : (atoms : ℕ) (inputs : List (List Literal)) (values : List (Option Value)) (signs : List Bool) → length values ≡ atoms → HasAtoms atoms inputs → AllValued values → AllLoose values inputs → signs ≡ map sign_of values
    → IsModel atoms inputs signs
settled_model atoms inputs values signs many within valued loose is =
    let P : List Bool → Type 0 = λ ss. IsModel atoms inputs ss in
    subst P (sym is) (record {
      many = length-map values sign_of ∙ many;
      all = settled_makes_true atoms values inputs (sym many) within valued loose;
    })
