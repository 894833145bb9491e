-- Going through a list in order, up to the first place that will do.
use Rattle.std.specs.Prelude.{ℕ, ◌<◌, ◌≡◌, ◌↔◌, Bool, true, false, IsTrue, List, Some, slice_get, length, Result, Ok, Err, IfOk}
use Rattle.std.proofs.Common.{sym, ap, get_or, ◌∙◌}
use Rattle.std.proofs.lemmas.Option.{slice_get-get_or}

pub untrue : (b : Bool) (P : Type 0) → b ≡ false → (IsTrue b ↔ P) → P → ⊥
untrue b P e h p = let t : IsTrue b = h.1 p in cc

pub holds : (b : Bool) (P : Type 0) → b ≡ true → (IsTrue b ↔ P) → P
holds b P e h = h.0 e

-- the element that was read stands at its place
pub there_at : {X : Type 0} (xs : List X) (i : ℕ) (x : X) → i < length xs → x ≡ get_or xs i x → slice_get xs i ≡ Some x
there_at xs i x h is = slice_get-get_or xs i x h ∙ ap Some (sym is)

-- one element stands at a place
pub one_at : {X : Type 0} (xs : List X) (i : ℕ) (x y : X) → slice_get xs i ≡ Some x → slice_get xs i ≡ Some y → x ≡ y
one_at xs i x y e f = cc

-- what follows from what an answer has
pub ok_map : {X E : Type 0} {P Q : X → Type 0} (r : Result X E) → ((x : X) → P x → Q x) → IfOk r P → IfOk r Q
ok_map (Ok x) f p = f x p
ok_map (Err e) f p = p
