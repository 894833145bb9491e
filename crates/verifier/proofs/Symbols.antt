-- Which symbols stand in the formulas of a theory, and how lines that are accepted add to them.
use Rattle.std.proofs.Common.{◌≡◌, ℕ, ◌<◌, ◌≤◌, List, [], ◌∷◌, ◌++◌, length, refl, sym, ◌∙◌, ap, subst, arith, append_assoc}
use Rattle.std.specs.List.{All}
use Rattle.std.proofs.lemmas.List.Elements.{All-nil, All-cons, All-head, All-tail, All-append}
use Rattle.fof_terms.specs.SortLaws.{Grows}
use Rattle.fof_terms.specs.Vocabulary.{Vocabulary}
use Rattle.fof_terms.specs.declared.form.Form.{Form}
use Rattle.kernel.specs.Statements.{Statements}
use Rattle.kernel.specs.Entries.{IsFresh}
use Rattle.derive_kit.specs.Derived.{SpeakOf, with_formulas}
use Rattle.input_proofs.specs.Functions.{SpeakOfKnown}
use Rattle.verifier.specs.Good.{so_far}
use Rattle.verifier.specs.Symbols.{IsAbsent}

module _ {X : Type 0} (P : X → Type 0) where
  pub all_front : (xs ys : List X) → All P (xs ++ ys) → All P xs
  all_front [] ys all = All-nil P
  all_front (x ∷ xs) ys all = All-cons P x xs (All-head P x (xs ++ ys) all) (all_front xs ys (All-tail P x (xs ++ ys) all))

  pub all_behind : (xs ys : List X) → All P (xs ++ ys) → All P ys
  all_behind [] ys all = all
  all_behind (x ∷ xs) ys all = all_behind xs ys (All-tail P x (xs ++ ys) all)

  pub all_one : (x : X) → P x → All P (x ∷ [])
  all_one x here = All-cons P x [] here (All-nil P)

-- The theory may have symbols more, and has some formulas more, which bring none of the symbols that it had but those of
-- the line, and then the line.
pub record Gains (t u : Statements) (line : Form) : Type 0 where
  pub before : List Form
  pub formulas : u.formulas ≡ t.formulas ++ (before ++ line ∷ [])
  pub grows : Grows t.vocabulary u.vocabulary
  pub longer : length t.vocabulary.symbols ≤ length u.vocabulary.symbols
  pub speak : SpeakOfKnown t line before

-- the same without symbols more
pub record GainsByRule (t u : Statements) (line : Form) : Type 0 where
  pub before : List Form
  pub made : u ≡ with_formulas t (before ++ line ∷ [])
  pub speak : SpeakOf t line before

same_grows : (v w : Vocabulary) → w ≡ v → Grows v w
same_grows v w is = subst (Grows v) (sym is) (record { more_sorts = omega arith; same_symbols = λ k s at. at })

pub ruled_gains : (t u : Statements) (line : Form) → GainsByRule t u line → Gains t u line
ruled_gains t u line gains =
    let same : u.vocabulary ≡ t.vocabulary = ap (λ (x : Statements). x.vocabulary) gains.made in
    record {
      before = gains.before;
      formulas = ap (λ (x : Statements). x.formulas) gains.made;
      grows = same_grows t.vocabulary u.vocabulary same;
      longer = omega (arith, ap (λ (v : Vocabulary). length v.symbols) same);
      speak = λ k known fresh absent. gains.speak k fresh absent;
    }

-- what is new after such a gain
pub gained_fresh : (t u : Statements) (line : Form) (k : ℕ) → Gains t u line → IsFresh k u → IsFresh k t × IsAbsent k line
gained_fresh t u line k gains fresh =
    let all : All (IsAbsent k) (t.formulas ++ (gains.before ++ line ∷ [])) = subst (All (IsAbsent k)) gains.formulas fresh in (
      all_front (IsAbsent k) t.formulas (gains.before ++ line ∷ []) all,
      All-head (IsAbsent k) line [] (all_behind (IsAbsent k) gains.before (line ∷ []) (all_behind (IsAbsent k) t.formulas (gains.before ++ line ∷ []) all)),
    )

still_fresh : (t u : Statements) (line : Form) (before : List Form) (k : ℕ) → u.formulas ≡ t.formulas ++ (before ++ line ∷ []) → All (IsAbsent k) before → IsFresh k t → IsAbsent k line → IsFresh k u
still_fresh t u line before k formulas none fresh absent =
    subst (All (IsAbsent k)) (sym formulas)
    (All-append (IsAbsent k) t.formulas (before ++ line ∷ []) fresh (All-append (IsAbsent k) before (line ∷ []) none (all_one (IsAbsent k) line absent)))

pub gained_still : (t u : Statements) (line : Form) (k : ℕ) → k < length t.vocabulary.symbols → Gains t u line → IsFresh k t → IsAbsent k line → IsFresh k u
gained_still t u line k known gains fresh absent = still_fresh t u line gains.before k gains.formulas (gains.speak k known fresh absent) fresh absent

pub ruled_still : (t u : Statements) (line : Form) (k : ℕ) → GainsByRule t u line → IsFresh k t → IsAbsent k line → IsFresh k u
ruled_still t u line k gains fresh absent = still_fresh t u line gains.before k (ap (λ (x : Statements). x.formulas) gains.made) (gains.speak k fresh absent) fresh absent

-- both have the same vocabulary, and a symbol is new to the one exactly where it is new to the other
pub record SameSymbols (t u : Statements) : Type 0 where
  pub vocabulary : t.vocabulary ≡ u.vocabulary
  pub forth : (k : ℕ) → IsFresh k t → IsFresh k u
  pub back : (k : ℕ) → IsFresh k u → IsFresh k t

pub same_symbols : (t : Statements) → SameSymbols t t
same_symbols t = record { vocabulary = refl; forth = λ k fresh. fresh; back = λ k fresh. fresh }

pub other_way : (t u : Statements) → SameSymbols t u → SameSymbols u t
other_way t u same = record { vocabulary = sym same.vocabulary; forth = same.back; back = same.forth }

-- a line that a theory gains by a rule adds to the symbols what its text adds
pub gained_same : (v : Vocabulary) (given earlier : List Form) (t u : Statements) (line : Form) → SameSymbols t (so_far v given earlier) → GainsByRule t u line → SameSymbols u (so_far v given (earlier ++ line ∷ []))
gained_same v given earlier t u line same gains = record {
  vocabulary = ap (λ (x : Statements). x.vocabulary) gains.made ∙ same.vocabulary;
  forth = λ k fresh.
      let parts = gained_fresh t u line k (ruled_gains t u line gains) fresh in
      subst (All (IsAbsent k)) (append_assoc given earlier (line ∷ [])) (All-append (IsAbsent k) (given ++ earlier) (line ∷ []) (same.forth k parts.0) (all_one (IsAbsent k) line parts.1));
  back = λ k fresh.
      let all : All (IsAbsent k) ((given ++ earlier) ++ line ∷ []) = subst (All (IsAbsent k)) (sym (append_assoc given earlier (line ∷ []))) fresh in
      ruled_still t u line k gains (same.back k (all_front (IsAbsent k) (given ++ earlier) (line ∷ []) all)) (All-head (IsAbsent k) line [] (all_behind (IsAbsent k) (given ++ earlier) (line ∷ []) all));
}
