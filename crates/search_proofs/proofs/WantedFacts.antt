-- Inputs that are marked one by one.
use Rattle.std.specs.Prelude.{ℕ, Bool, true, false, ◌≡◌, ◌+◌, ◌<◌, ◌≤◌, List, length, Some, slice_get, slice_set, refl}
use Rattle.std.proofs.Common.{sym, ap, subst, ◌∙◌, arith, inl, inr, get_or, take}
use Rattle.std.proofs.lemmas.Bool.{cases_eq}
use Rattle.std.proofs.lemmas.Option.{slice_get-get_or, slice_get_within}
use Rattle.clause_form.specs.declared.clause.Clause.{Clause}
use Rattle.fof_terms.specs.Vocabulary.{Vocabulary}
use Rattle.saturation.specs.Members.{clauses_of}
use Rattle.search_proofs.specs.code.Derived.{AreDerived, IsDerived}
use Rattle.saturation.specs.declared.member.Member.{Member}
use Rattle.saturation.specs.declared.member.Origin.{Origin}
use Rattle.saturation.specs.declared.member.Origin.TheVariants.{Input}
use Rattle.search_proofs.specs.Needed.{IsMarked}
use Rattle.search_proofs.specs.code.Marks.{IsUnmarked}
use Rattle.search_proofs.specs.code.Wanting.{AreInputsMarked, IsInputBelow, IsInputMarked, MarksInput}
use Rattle.search_proofs.proofs.Sweeping.{set_count, set_here, set_keeps}
use Rattle.search_proofs.proofs.Passing.{input_within, member_there}

pub input_marked : (o : Origin) (i : ℕ) (old : List Bool) → o ≡ Input i → i < length old → MarksInput o old (slice_set old i true)
input_marked o i old is lt = record {
  count = set_count old i;
  marked = λ j e. let both : Input i ≡ Input j = sym is ∙ e in let same : i ≡ j = cc in subst (λ k. IsMarked (slice_set old i true) k) same (set_here old i lt);
  kept = λ j m. set_keeps old i j m;
}

-- the inputs of the last member, and of needed ones among the first so many
pub record AreMarkedSoFar (count : ℕ) (members : List Member) (needed : List Bool) (last : Member) (n : ℕ) (marks : List Bool) : Type 0 where
  pub size : length marks ≡ count
  pub of_last : IsInputMarked marks last.origin
  pub of_each : (j : ℕ) (m : Member) → j < n → slice_get members j ≡ Some m → IsMarked needed j → IsInputMarked marks m.origin

pub marked_first : (count : ℕ) (members : List Member) (needed : List Bool) (last : Member) (old new : List Bool) → IsUnmarked count old → MarksInput last.origin old new → AreMarkedSoFar count members needed last 0 new
marked_first count members needed last old new none h = record { size = h.count ∙ none.count; of_last = h.marked; of_each = λ j m lt at marked. absurd (omega arith) }

kept_marked : (o : Origin) (old new : List Bool) → ((i : ℕ) → IsMarked old i → IsMarked new i) → IsInputMarked old o → IsInputMarked new o
kept_marked o old new kept h i e = kept i (h i e)

pub marked_more : (count : ℕ) (members : List Member) (needed : List Bool) (last : Member) (n : ℕ) (m : Member) (b : Bool) (old new : List Bool) → n < length members → length needed ≡ length members → m ≡ get_or members n m → b ≡ get_or needed n false
    → AreMarkedSoFar count members needed last n old → (b ≡ true → MarksInput m.origin old new) → (b ≡ false → new ≡ old) → AreMarkedSoFar count members needed last (n + 1) new
marked_more count members needed last n m true old new lt size is is_b so some none =
    let marks = some refl in
    let here = member_there members n m lt is in
    record {
      size = marks.count ∙ so.size;
      of_last = kept_marked last.origin old new marks.kept so.of_last;
      of_each = λ j x below at marked.
          elim (cases_eq j n) [
            | inl e ↦ let both : Some x ≡ Some m = sym at ∙ (ap (slice_get members) e ∙ here) in let same : m ≡ x = cc in subst (λ (y : Member). IsInputMarked new y.origin) same marks.marked
            | inr e ↦ kept_marked x.origin old new marks.kept (so.of_each j x (omega arith) at marked)
          ];
    }
marked_more count members needed last n m false old new lt size is is_b so some none =
    let unneeded : slice_get needed n ≡ Some false = slice_get-get_or needed n false (omega arith) ∙ ap Some (sym is_b) in
    subst (λ (marks : List Bool). AreMarkedSoFar count members needed last (n + 1) marks) (sym (none refl))
    (record {
      size = so.size;
      of_last = so.of_last;
      of_each = λ j x below at marked.
          elim (cases_eq j n) [
            | inl e ↦ let both : Some false ≡ Some true = sym unneeded ∙ subst (λ k. IsMarked needed k) e marked in cc
            | inr e ↦ so.of_each j x (omega arith) at marked
          ];
    })

pub marked_all : (count : ℕ) (members : List Member) (needed : List Bool) (last : Member) (n : ℕ) (marks : List Bool) → length members ≤ n → AreMarkedSoFar count members needed last n marks → AreInputsMarked count members needed last marks
marked_all count members needed last n marks end so = record {
  size = so.size;
  of_last = so.of_last;
  of_each = λ j m at marked. let lt = slice_get_within members j m at in so.of_each j m (omega arith) at marked;
}

-- which inputs origins have
pub last_input : (v : Vocabulary) (inputs list : List Clause) (m : Member) → IsDerived v inputs list m → IsInputBelow (length inputs) m.origin
last_input v inputs list m made i e = slice_get_within inputs i m.clause (input_within v inputs list m.clause m.origin i made e)

pub each_input : (v : Vocabulary) (inputs : List Clause) (members : List Member) → AreDerived v inputs members → (j : ℕ) (m : Member) → slice_get members j ≡ Some m → IsInputBelow (length inputs) m.origin
each_input v inputs members made j m at = last_input v inputs (clauses_of (take j members)) m (made j m at)
