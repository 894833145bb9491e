-- Lemmas on what specs/Alike defines.
use Rattle.std.specs.Prelude.{ℕ, suc, ◌≡◌, ◌==◌, ◌||◌, ◌&&◌, not, Bool, true, false, List, [], ◌∷◌, length, map, refl}
use Rattle.std.proofs.Common.{ap, ◌∙◌}
use Rattle.fof_terms.proofs.Trees.{fold-Var, fold-App}
use Rattle.fof_terms.specs.declared.term.Term.{Term, Var, App}
use Rattle.fof_terms.specs.declared.term.Term.TheViews.{out-Term, outs-Var, outs-App}
use Rattle.function_choices.specs.Alike.{head_is, has_head, pass, args_pass, alike_step, is_alike}

-- The equations of these words.
pub has_head-Var : (f k : ℕ) → has_head f (Var k) ≡ false
unfolding has_head
has_head-Var f k = ap (head_is f) (outs-Var k)

pub has_head-App : (f g : ℕ) (ts : List Term) → has_head f (App g ts) ≡ (g == f)
unfolding has_head
has_head-App f g ts = ap (head_is f) (outs-App g ts)

pub is_alike-Var : (f k j : ℕ) (t : Term) → is_alike f k (Var j) t ≡ (not (j == k) || has_head f t)
unfolding is_alike
is_alike-Var f k j t = ap (λ g. g t) (fold-Var (Term → Bool) (alike_step f k) j)

pub is_alike-App : (f k g : ℕ) (ps : List Term) (t : Term) → is_alike f k (App g ps) t ≡ args_pass g (map (is_alike f k) ps) (out-Term t)
unfolding is_alike
is_alike-App f k g ps t = ap (λ (p : Term → Bool). p t) (fold-App (Term → Bool) (alike_step f k) g ps)

pub is_alike-App-Var : (f k g : ℕ) (ps : List Term) (j : ℕ) → is_alike f k (App g ps) (Var j) ≡ false
is_alike-App-Var f k g ps j = is_alike-App f k g ps (Var j) ∙ ap (args_pass g (map (is_alike f k) ps)) (outs-Var j)

pub is_alike-App-App : (f k g : ℕ) (ps : List Term) (h : ℕ) (ts : List Term) → is_alike f k (App g ps) (App h ts) ≡ ((g == h) && pass (map (is_alike f k) ps) ts)
is_alike-App-App f k g ps h ts = is_alike-App f k g ps (App h ts) ∙ ap (args_pass g (map (is_alike f k) ps)) (outs-App h ts)

pub ruleset alike_equations = (has_head-Var, has_head-App, is_alike-Var, is_alike-App-Var, is_alike-App-App)

-- Lists of different lengths.
and_off : (b : Bool) → (b && false) ≡ false
and_off true = refl
and_off false = refl

module _ (f k : ℕ) where
  pub pass_lengths : (ps ts : List Term) → (length ps ≡ length ts → ⊥) → pass (map (is_alike f k) ps) ts ≡ false
  pass_lengths [] [] h = absurd (h refl)
  pass_lengths [] (t ∷ ts) h = refl
  pass_lengths (p ∷ ps) [] h = refl
  pass_lengths (p ∷ ps) (t ∷ ts) h = ap (λ b. is_alike f k p t && b) (pass_lengths ps ts (λ e. h (ap suc e))) ∙ and_off (is_alike f k p t)
