-- Lemmas on what specs/code/Fitting defines.
use Rattle.std.specs.Prelude.{ℕ, ◌≡◌, ◌<◌, List, [], ◌∷◌, length, get_or, Option, Some, None, slice_get, refl}
use Rattle.std.specs.Option.{option_map}
use Rattle.std.proofs.Common.{ap, sym, arith, zero, suc, ◌∙◌}
use Rattle.fof_terms.specs.declared.form.Form.{Form, And, Or, All}
use Rattle.clause_form.specs.declared.path.Path.{Path, Pick, Each, Under}
use Rattle.clause_form.specs.declared.clause.Clause.{Clause}
use Rattle.clause_form.specs.ClauseView.{within}
use Rattle.clause_form.specs.Paths.{all_beside, at_member, reached}
use Rattle.clause_form.proofs.PathCases.{reached-Pick, reached-Each, reached-Under, none_picked, none_each, none_under}
use Rattle.clause_form.specs.Found.{AreFound}
use Rattle.norm_proofs.proofs.Places.{at_index}
use Rattle.norm_proofs.proofs.RoutesFacts.{few_paths, reaches_at}
use Rattle.norm_proofs.specs.code.Fitting.{Fits}

there_is_none : (o : Option Clause) (c : Clause) → o ≡ None → o ≡ Some c → ⊥
there_is_none o c e f = cc

none_fits : (p q : Path) (a : Form) → p ≡ q → reached q a ≡ None → Fits p a → ⊥
none_fits p q a e none f = there_is_none (reached q a) f.0 none (rw e at f.1)

-- Each step stands before a formula of its kind.
pub picks_only : (p rest : Path) (k : ℕ) (a : Form) → p ≡ Pick k rest → ((as_ : List Form) → a ≡ And as_ → ⊥) → Fits p a → ⊥
picks_only p rest k a e other f = none_fits p (Pick k rest) a e (none_picked k rest a other) f

pub takes_only : (p : Path) (ways : List Path) (a : Form) → p ≡ Each ways → ((as_ : List Form) → a ≡ Or as_ → ⊥) → Fits p a → ⊥
takes_only p ways a e other f = none_fits p (Each ways) a e (none_each ways a other) f

pub enters_only : (p rest : Path) (a : Form) → p ≡ Under rest → ((s : ℕ) (b : Form) → a ≡ All s b → ⊥) → Fits p a → ⊥
enters_only p rest a e other f = none_fits p (Under rest) a e (none_under rest a other) f

-- A pick is of a member, which the rest of the path fits.
member_there : (way : Form → Option Clause) (o : Option Form) (c : Clause) → at_member way o ≡ Some c → (b : Form) × (o ≡ Some b) × (way b ≡ Some c)
member_there way None c e = cc
member_there way (Some b) c e = (b, refl, e)

place_there : {X : Type 0} (xs : List X) (k : ℕ) (x : X) → slice_get xs k ≡ Some x → k < length xs
place_there [] k x e = cc
place_there (y ∷ xs) zero x e = omega arith
place_there (y ∷ xs) (suc k) x e = let rest = place_there xs k x e in omega arith

picked : (p rest : Path) (k : ℕ) (a : Form) (as_ lents : List Form) → p ≡ Pick k rest → a ≡ And as_ → lents ≡ as_ → Fits p a → (b : Form) × (slice_get lents k ≡ Some b) × Fits rest b
picked p rest k a as_ lents ep ea el f =
    let there : at_member (reached rest) (slice_get as_ k) ≡ Some f.0 = sym (reached-Pick k rest as_) ∙ (rw (ep, ea) at f.1) in
    let found = member_there (reached rest) (slice_get as_ k) f.0 there in
    (found.0, rw el found.1, (f.0, found.2))

pub picked_place : (p rest : Path) (k : ℕ) (a : Form) (as_ lents : List Form) → p ≡ Pick k rest → a ≡ And as_ → lents ≡ as_ → Fits p a → k < length lents
picked_place p rest k a as_ lents ep ea el f = let found = picked p rest k a as_ lents ep ea el f in place_there lents k found.0 found.1

same_member : (o : Option Form) (a b : Form) → o ≡ Some a → o ≡ Some b → a ≡ b
same_member o a b e f = cc

pub picked_fits : (p rest lent : Path) (k : ℕ) (a b : Form) (as_ lents : List Form) → p ≡ Pick k rest → a ≡ And as_ → lents ≡ as_ → lent ≡ rest → k < length lents → b ≡ get_or lents k b → Fits p a → Fits lent b
picked_fits p rest lent k a b as_ lents ep ea el er lt is f =
    let found = picked p rest k a as_ lents ep ea el f in
    let same : b ≡ found.0 = same_member (slice_get lents k) b found.0 (at_index lents k b lt is) found.1 in
    rw (er, same) found.2

-- What stands under a universal quantifier, which the rest of the path fits.
body_there : (s : ℕ) (o : Option Clause) (c : Clause) → option_map (within s) o ≡ Some c → (d : Clause) × (o ≡ Some d)
body_there s None c e = cc
body_there s (Some d) c e = (d, refl)

pub entered_fits : (p rest lent : Path) (s : ℕ) (a body b : Form) → p ≡ Under rest → a ≡ All s body → b ≡ body → lent ≡ rest → Fits p a → Fits lent b
entered_fits p rest lent s a body b ep ea eb er f =
    rw (er, eb) (body_there s (reached rest body) f.0 (sym (reached-Under rest s body) ∙ (rw (ep, ea) at f.1)))

-- The members of a disjunction, each of which the path at its place fits.
pub taken_fits : (p : Path) (ways lent : List Path) (a : Form) (as_ lents : List Form) → p ≡ Each ways → a ≡ Or as_ → lent ≡ ways → lents ≡ as_ → Fits p a → Fits (Each lent) (Or lents)
taken_fits p ways lent a as_ lents ep ea ew el f = rw (ew, el) (rw (ep, ea) at f)

none_taken : (o : Option (List Clause)) (c : Clause) → ((cs : List Clause) → o ≡ Some cs → ⊥) → option_map all_beside o ≡ Some c → ⊥
none_taken None c other e = cc
none_taken (Some cs) c other e = other cs refl

pub taken_there : (ps : List Path) (as_ : List Form) (o : Option (List Clause)) → AreFound ps as_ o → ((cs : List Clause) → o ≡ Some cs → ⊥) → Fits (Each ps) (Or as_) → ⊥
taken_there ps as_ o found other f =
    none_taken o f.0 other (ap (option_map all_beside) found.are ∙ sym (reached-Each ps as_) ∙ f.1)

item_there : {X : Type 0} (xs : List X) (i : ℕ) → i < length xs → (x : X) × (x ≡ get_or xs i x)
item_there [] i lt = absurd (omega arith)
item_there (x ∷ xs) zero lt = (x, refl)
item_there (x ∷ xs) (suc i) lt = item_there xs i (omega arith)

pub taken_fits_at : (ps : List Path) (as_ : List Form) (cs : List Clause) (i : ℕ) (p : Path) (a : Form) → AreFound ps as_ (Some cs) → i < length as_ → p ≡ get_or ps i p → a ≡ get_or as_ i a → Fits p a
taken_fits_at ps as_ cs i p a found lt ip ia =
    let many = few_paths ps as_ cs found in
    let c = item_there cs i (omega (arith, many.1)) in
    (c.0, reaches_at ps as_ cs i p a c.0 (sym found.are) lt ip ia c.1)
