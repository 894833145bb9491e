-- Lemmas on what specs/Matched and specs/Told define.
use Rattle.std.specs.Prelude.{ℕ, zero, suc, ◌≡◌, ◌+◌, ◌<◌, ◌≤◌, ◌==◌, max, false, List, [], ◌∷◌, ◌++◌, drop, length, map, slice_get, Option, Some, None, refl}
use Rattle.std.specs.Option.{option_flatten, option_or}
use Rattle.std.proofs.Common.{ap, ap₂, sym, subst, ◌∙◌, arith, append-nil, append_assoc, drop_of_length-le}
use Rattle.fof_terms.proofs.Trees.{fold-Var, fold-App}
use Rattle.fof_terms.specs.declared.term.Term.{Term, Var, App}
use Rattle.fof_terms.specs.declared.term.Term.TheViews.{out-Term, outs-Var, outs-App}
use Rattle.function_choices.specs.declared.matched.Matched.{Matched}
use Rattle.function_choices.specs.Matched.{args_in, args_of, matched, at_each, matches_step, matches}
use Rattle.function_choices.specs.Told.{same_in, is_same_variable, either}

-- The equations of these words.
pub args_of-Var : (k : ℕ) → args_of (Var k) ≡ []
unfolding args_of
args_of-Var k = ap args_in (outs-Var k)

pub args_of-App : (f : ℕ) (ts : List Term) → args_of (App f ts) ≡ ts
unfolding args_of
args_of-App f ts = ap args_in (outs-App f ts)

pub matches-Var : (k : ℕ) (t : Term) → matches (Var k) t ≡ matched k t ∷ []
unfolding matches
matches-Var k t = ap (λ g. g t) (fold-Var (Term → List Matched) matches_step k)

pub matches-App : (f : ℕ) (ps : List Term) (t : Term) → matches (App f ps) t ≡ at_each (map matches ps) (args_of t)
unfolding matches
matches-App f ps t = ap (λ g. g t) (fold-App (Term → List Matched) matches_step f ps)

pub is_same_variable-Vars : (i j : ℕ) → is_same_variable (Var i) (Var j) ≡ (i == j)
unfolding is_same_variable
is_same_variable-Vars i j = ap₂ same_in (outs-Var i) (outs-Var j)

pub is_same_variable-Var-App : (i f : ℕ) (ts : List Term) → is_same_variable (Var i) (App f ts) ≡ false
unfolding is_same_variable
is_same_variable-Var-App i f ts = ap₂ same_in (outs-Var i) (outs-App f ts)

pub is_same_variable-App : (f : ℕ) (ts : List Term) (t : Term) → is_same_variable (App f ts) t ≡ false
unfolding is_same_variable
is_same_variable-App f ts t = ap (λ y. same_in y (out-Term t)) (outs-App f ts)

pub ruleset matched_equations = (args_of-Var, args_of-App, matches-Var, matches-App, is_same_variable-Vars, is_same_variable-Var-App, is_same_variable-App)

-- Nothing is matched with a variable, or with terms that are not there.
at_each_none : (fs : List (Term → List Matched)) → at_each fs [] ≡ []
at_each_none [] = refl
at_each_none (f ∷ fs) = refl

pub nothing_matched : (f k : ℕ) (ps : List Term) (p t : Term) (ms : List Matched) → p ≡ App f ps → t ≡ Var k → ms ≡ ms ++ matches p t
nothing_matched f k ps p t ms ep et =
    let none : matches p t ≡ [] = rw (ep, et) (matches-App f ps (Var k) ∙ ap (at_each (map matches ps)) (args_of-Var k) ∙ at_each_none (map matches ps)) in
    sym (ap (λ (ls : List Matched). ms ++ ls) none ∙ append-nil ms)

pub none_left : (i : ℕ) (ps ts : List Term) (ms whole : List Matched) → length ts ≤ i → ms ++ at_each (map matches (drop i ps)) (drop i ts) ≡ whole → ms ≡ whole
none_left i ps ts ms whole le same =
    sym (append-nil ms) ∙ ap (λ (ls : List Matched). ms ++ ls) (sym (at_each_none (map matches (drop i ps)))) ∙ ap (λ (us : List Term). ms ++ at_each (map matches (drop i ps)) us) (sym (drop_of_length-le ts le)) ∙ same

-- What is told of each argument, place by place.
alone : (bs : List (Option ℕ)) (i : ℕ) → i < length bs → drop i bs ≡ option_flatten (slice_get bs i) ∷ drop (suc i) bs
alone [] i h = absurd (omega arith)
alone (b ∷ bs) zero h = refl
alone (b ∷ bs) (suc i) h = alone bs i (omega arith)

or_none : (a : Option ℕ) → option_or a None ≡ a
or_none None = refl
or_none (Some k) = refl

either_none : (as_ : List (Option ℕ)) → either as_ [] ≡ as_
either_none [] = refl
either_none (a ∷ as_) = refl

either_at : (as_ bs : List (Option ℕ)) (i : ℕ) → i < max (length as_) (length bs) → either (drop i as_) (drop i bs) ≡ option_or (option_flatten (slice_get as_ i)) (option_flatten (slice_get bs i)) ∷ either (drop (suc i) as_) (drop (suc i) bs)
either_at [] [] i h = absurd (omega arith)
either_at [] (b ∷ bs) zero h = refl
either_at [] (b ∷ bs) (suc i) h = alone bs i (omega arith)
either_at (a ∷ as_) [] zero h = ap₂ (λ (x : Option ℕ) (xs : List (Option ℕ)). x ∷ xs) (sym (or_none a)) (sym (either_none as_))
either_at (a ∷ as_) [] (suc i) h =
    either_none (drop i as_) ∙ alone as_ i (omega arith) ∙ ap₂ (λ (x : Option ℕ) (xs : List (Option ℕ)). x ∷ xs) (sym (or_none (option_flatten (slice_get as_ i)))) (sym (either_none (drop (suc i) as_)))
either_at (a ∷ as_) (b ∷ bs) zero h = refl
either_at (a ∷ as_) (b ∷ bs) (suc i) h = either_at as_ bs i (omega arith)

pub either_more : (as_ bs made new whole : List (Option ℕ)) (i n : ℕ) (a b x : Option ℕ) → i < n → n ≡ max (length as_) (length bs) → a ≡ option_flatten (slice_get as_ i) → b ≡ option_flatten (slice_get bs i) → x ≡ option_or a b → new ≡ made ++ x ∷ []
    → made ++ either (drop i as_) (drop i bs) ≡ whole → new ++ either (drop (i + 1) as_) (drop (i + 1) bs) ≡ whole
either_more as_ bs made new whole i n a b x h is ea eb ex en so =
    let one : i + 1 ≡ suc i = omega arith in
    let same : x ≡ option_or (option_flatten (slice_get as_ i)) (option_flatten (slice_get bs i)) = ex ∙ ap₂ option_or ea eb in
    (rw one refl) ∙ ap (λ (ls : List (Option ℕ)). ls ++ either (drop (suc i) as_) (drop (suc i) bs)) en ∙ append_assoc made (x ∷ []) (either (drop (suc i) as_) (drop (suc i) bs))
    ∙ ap (λ (y : Option ℕ). made ++ y ∷ either (drop (suc i) as_) (drop (suc i) bs)) same ∙ ap (λ (ls : List (Option ℕ)). made ++ ls) (sym (either_at as_ bs i (subst (λ m. i < m) is h))) ∙ so
