-- The numbers in trees fit their types where those of their parts do.
use Rattle.std.proofs.Common.{◌≡◌, ℕ, ◌≤◌, List, [], ◌∷◌, ◌++◌, length, map, take, get_or, Result, Ok, Err, OnOk, ◌<◌, ◌+◌, sym, subst}
use Rattle.std.specs.Prelude.{codes}
use Rattle.std.specs.List.{All as Every, AllByRecursion, flat_map}
use Rattle.std.proofs.lemmas.List.{take_all, length-map}
use Rattle.std.proofs.lemmas.List.Elements.{All-more, recursion_from_All}
use Rattle.fof_terms.specs.declared.term.Term.{Term, Var, App}
use Rattle.fof_terms.specs.declared.term.Term.TheOpen as term
use Rattle.fof_terms.specs.declared.term.Term.TheViews.{roll-Term}
use Rattle.fof_terms.specs.declared.term.Term.TheFolds.{fold-roll-Term}
use Rattle.fof_terms.specs.declared.form.Form.{Form, Atom, Eq, Not, And, Or, Imp, Iff, All, Ex}
use Rattle.fof_terms.specs.declared.form.Form.TheOpen as form
use Rattle.fof_terms.specs.declared.form.Form.TheViews.{roll-Form}
use Rattle.fof_terms.specs.declared.form.Form.TheFolds.{fold-roll-Form}
use Rattle.kernel.specs.declared.proof.Proof.{Proof, Line, Hyp, AndI, AndE, OrI, OrE, ImpI, ImpE, NotI, NotE, Raa, IffI, IffL, IffR, AllI, AllE, ExI, ExE, Refl, Subst, Inhabit}
use Rattle.kernel.specs.declared.proof.Proof.TheOpen as proof
use Rattle.kernel.specs.declared.proof.Proof.TheViews.{roll-Proof}
use Rattle.kernel.specs.declared.proof.Proof.TheFolds.{fold-roll-Proof}
use denote.Hole.Carrier.{roll}
use Rattle.proof_log.specs.Entries.{IsSmall}
use Rattle.proof_log.specs.LogText.{term_node, term_words, form_node, form_words, proof_node, proof_words}
use Rattle.proof_log.specs.Words.{Word, small, large, list_of, node, AreInRange}
use Rattle.proof_log.proofs.Spelling.{ranges-append, ranges-deeper}

-- what follows from what is known where nothing was refused
pub if_written : {T E A B : Type 0} (result : Result T E) → (A → B) → OnOk result A → OnOk result B
if_written (Ok value) f h = f h
if_written (Err error) f h = tt

pub always : {T E A : Type 0} (result : Result T E) → A → OnOk result A
always (Ok value) a = a
always (Err error) a = tt

in_node : {words : List Word} (name : List ℕ) (arguments : List Word) → words ≡ node name arguments → AreInRange arguments → AreInRange words
in_node name arguments e h = subst AreInRange (sym e) (tt, ranges-deeper arguments h)

-- ---- lists

members_range : {X : Type 0} (words : X → List Word) (xs : List X) → AllByRecursion (λ x. AreInRange (words x)) xs → AreInRange (flat_map (λ part. part) (map words xs))
members_range words [] all = tt
members_range words (x ∷ xs) all = ranges-append (words x) (flat_map (λ part. part) (map words xs)) all.0 (members_range words xs all.1)

-- the members so far, and one more
pub more_in_range : {X : Type 0} (words : X → List Word) (xs : List X) (i : ℕ) (x : X) → i < length xs → x ≡ get_or xs i x → Every (λ y. AreInRange (words y)) (take i xs) → AreInRange (words x) → Every (λ y. AreInRange (words y)) (take (i + 1) xs)
more_in_range words xs i x lt is all one = All-more (λ y. AreInRange (words y)) xs i x lt all (subst (λ y. AreInRange (words y)) is one)

-- all members, and how many they are
pub list_in_range : {X : Type 0} (words : X → List Word) (xs : List X) (i : ℕ) → length xs ≤ i → length xs ≤ 18446744073709551615 → Every (λ y. AreInRange (words y)) (take i xs) → AreInRange (list_of (map words xs))
list_in_range {X = X} words xs i all few so_far = (
  subst (λ n. n ≤ 18446744073709551615) (sym (length-map xs words)) few,
  members_range words xs (recursion_from_All (λ y. AreInRange (words y)) xs (subst (λ (l : List X). Every (λ y. AreInRange (words y)) l) (take_all i xs all) so_far)),
)

-- ---- terms

pub term_range-Var : (k : ℕ) → IsSmall k → AreInRange (term_words (Var k))
unfolding term_words roll-Term roll
term_range-Var k h = in_node (codes "v") (small k ∷ []) (fold-roll-Term (List Word) term_node (term.Var k)) (h, tt)

pub term_range-App : (f : ℕ) (args : List Term) → IsSmall f → AreInRange (list_of (map term_words args)) → AreInRange (term_words (App f args))
unfolding term_words roll-Term roll
term_range-App f args h0 h1 = in_node (codes "f") (small f ∷ list_of (map term_words args)) (fold-roll-Term (List Word) term_node (term.App f args)) (h0, h1)

-- ---- formulas

pub form_range-Atom : (p : ℕ) (args : List Term) → IsSmall p → AreInRange (list_of (map term_words args)) → AreInRange (form_words (Atom p args))
unfolding form_words roll-Form roll
form_range-Atom p args h0 h1 = in_node (codes "a") (small p ∷ list_of (map term_words args)) (fold-roll-Form (List Word) form_node (form.Atom p args)) (h0, h1)

pub form_range-Eq : (s : Term) (t : Term) → AreInRange (term_words s) → AreInRange (term_words t) → AreInRange (form_words (Eq s t))
unfolding form_words roll-Form roll
form_range-Eq s t h0 h1 = in_node (codes "=") (term_words s ++ (term_words t)) (fold-roll-Form (List Word) form_node (form.Eq s t)) (ranges-append (term_words s) (term_words t) h0 h1)

pub form_range-Not : (a : Form) → AreInRange (form_words a) → AreInRange (form_words (Not a))
unfolding form_words roll-Form roll
form_range-Not a h = in_node (codes "~") (form_words a) (fold-roll-Form (List Word) form_node (form.Not a)) h

pub form_range-And : (members : List Form) → AreInRange (list_of (map form_words members)) → AreInRange (form_words (And members))
unfolding form_words roll-Form roll
form_range-And members h = in_node (codes "&") (list_of (map form_words members)) (fold-roll-Form (List Word) form_node (form.And members)) h

pub form_range-Or : (members : List Form) → AreInRange (list_of (map form_words members)) → AreInRange (form_words (Or members))
unfolding form_words roll-Form roll
form_range-Or members h = in_node (codes "|") (list_of (map form_words members)) (fold-roll-Form (List Word) form_node (form.Or members)) h

pub form_range-Imp : (a : Form) (b : Form) → AreInRange (form_words a) → AreInRange (form_words b) → AreInRange (form_words (Imp a b))
unfolding form_words roll-Form roll
form_range-Imp a b h0 h1 = in_node (codes ">") (form_words a ++ (form_words b)) (fold-roll-Form (List Word) form_node (form.Imp a b)) (ranges-append (form_words a) (form_words b) h0 h1)

pub form_range-Iff : (a : Form) (b : Form) → AreInRange (form_words a) → AreInRange (form_words b) → AreInRange (form_words (Iff a b))
unfolding form_words roll-Form roll
form_range-Iff a b h0 h1 = in_node (codes "<>") (form_words a ++ (form_words b)) (fold-roll-Form (List Word) form_node (form.Iff a b)) (ranges-append (form_words a) (form_words b) h0 h1)

pub form_range-All : (s : ℕ) (a : Form) → IsSmall s → AreInRange (form_words a) → AreInRange (form_words (All s a))
unfolding form_words roll-Form roll
form_range-All s a h0 h1 = in_node (codes "!") (small s ∷ form_words a) (fold-roll-Form (List Word) form_node (form.All s a)) (h0, h1)

pub form_range-Ex : (s : ℕ) (a : Form) → IsSmall s → AreInRange (form_words a) → AreInRange (form_words (Ex s a))
unfolding form_words roll-Form roll
form_range-Ex s a h0 h1 = in_node (codes "?") (small s ∷ form_words a) (fold-roll-Form (List Word) form_node (form.Ex s a)) (h0, h1)

-- ---- proofs

pub proof_range-Line : (i : ℕ) → i ≤ 18446744073709551615 → AreInRange (proof_words (Line i))
unfolding proof_words roll-Proof roll
proof_range-Line i h = in_node (codes "line") (large i ∷ []) (fold-roll-Proof (List Word) proof_node (proof.Line i)) (h, tt)

pub proof_range-Hyp : (i : ℕ) → IsSmall i → AreInRange (proof_words (Hyp i))
unfolding proof_words roll-Proof roll
proof_range-Hyp i h = in_node (codes "hyp") (small i ∷ []) (fold-roll-Proof (List Word) proof_node (proof.Hyp i)) (h, tt)

pub proof_range-AndI : (ps : List Proof) → AreInRange (list_of (map proof_words ps)) → AreInRange (proof_words (AndI ps))
unfolding proof_words roll-Proof roll
proof_range-AndI ps h = in_node (codes "andi") (list_of (map proof_words ps)) (fold-roll-Proof (List Word) proof_node (proof.AndI ps)) h

pub proof_range-AndE : (k : ℕ) (p : Proof) → IsSmall k → AreInRange (proof_words p) → AreInRange (proof_words (AndE k p))
unfolding proof_words roll-Proof roll
proof_range-AndE k p h0 h1 = in_node (codes "ande") (small k ∷ proof_words p) (fold-roll-Proof (List Word) proof_node (proof.AndE k p)) (h0, h1)

pub proof_range-OrI : (members : List Form) (k : ℕ) (p : Proof) → AreInRange (list_of (map form_words members)) → IsSmall k → AreInRange (proof_words p) → AreInRange (proof_words (OrI members k p))
unfolding proof_words roll-Proof roll
proof_range-OrI members k p h0 h1 h2 = in_node (codes "ori") (list_of (map form_words members) ++ (small k ∷ proof_words p)) (fold-roll-Proof (List Word) proof_node (proof.OrI members k p)) (ranges-append (list_of (map form_words members)) (small k ∷ proof_words p) h0 (h1, h2))

pub proof_range-OrE : (a : Form) (p : Proof) (arms : List Proof) → AreInRange (form_words a) → AreInRange (proof_words p) → AreInRange (list_of (map proof_words arms)) → AreInRange (proof_words (OrE a p arms))
unfolding proof_words roll-Proof roll
proof_range-OrE a p arms h0 h1 h2 = in_node (codes "ore") (form_words a ++ (proof_words p ++ (list_of (map proof_words arms)))) (fold-roll-Proof (List Word) proof_node (proof.OrE a p arms)) (ranges-append (form_words a) (proof_words p ++ (list_of (map proof_words arms))) h0 (ranges-append (proof_words p) (list_of (map proof_words arms)) h1 h2))

pub proof_range-ImpI : (a : Form) (p : Proof) → AreInRange (form_words a) → AreInRange (proof_words p) → AreInRange (proof_words (ImpI a p))
unfolding proof_words roll-Proof roll
proof_range-ImpI a p h0 h1 = in_node (codes "impi") (form_words a ++ (proof_words p)) (fold-roll-Proof (List Word) proof_node (proof.ImpI a p)) (ranges-append (form_words a) (proof_words p) h0 h1)

pub proof_range-ImpE : (p : Proof) (q : Proof) → AreInRange (proof_words p) → AreInRange (proof_words q) → AreInRange (proof_words (ImpE p q))
unfolding proof_words roll-Proof roll
proof_range-ImpE p q h0 h1 = in_node (codes "impe") (proof_words p ++ (proof_words q)) (fold-roll-Proof (List Word) proof_node (proof.ImpE p q)) (ranges-append (proof_words p) (proof_words q) h0 h1)

pub proof_range-NotI : (a : Form) (p : Proof) → AreInRange (form_words a) → AreInRange (proof_words p) → AreInRange (proof_words (NotI a p))
unfolding proof_words roll-Proof roll
proof_range-NotI a p h0 h1 = in_node (codes "noti") (form_words a ++ (proof_words p)) (fold-roll-Proof (List Word) proof_node (proof.NotI a p)) (ranges-append (form_words a) (proof_words p) h0 h1)

pub proof_range-NotE : (p : Proof) (q : Proof) → AreInRange (proof_words p) → AreInRange (proof_words q) → AreInRange (proof_words (NotE p q))
unfolding proof_words roll-Proof roll
proof_range-NotE p q h0 h1 = in_node (codes "note") (proof_words p ++ (proof_words q)) (fold-roll-Proof (List Word) proof_node (proof.NotE p q)) (ranges-append (proof_words p) (proof_words q) h0 h1)

pub proof_range-Raa : (a : Form) (p : Proof) → AreInRange (form_words a) → AreInRange (proof_words p) → AreInRange (proof_words (Raa a p))
unfolding proof_words roll-Proof roll
proof_range-Raa a p h0 h1 = in_node (codes "raa") (form_words a ++ (proof_words p)) (fold-roll-Proof (List Word) proof_node (proof.Raa a p)) (ranges-append (form_words a) (proof_words p) h0 h1)

pub proof_range-IffI : (a : Form) (b : Form) (p : Proof) (q : Proof) → AreInRange (form_words a) → AreInRange (form_words b) → AreInRange (proof_words p) → AreInRange (proof_words q) → AreInRange (proof_words (IffI a b p q))
unfolding proof_words roll-Proof roll
proof_range-IffI a b p q h0 h1 h2 h3 = in_node (codes "iffi") (form_words a ++ (form_words b ++ (proof_words p ++ (proof_words q)))) (fold-roll-Proof (List Word) proof_node (proof.IffI a b p q)) (ranges-append (form_words a) (form_words b ++ (proof_words p ++ (proof_words q))) h0 (ranges-append (form_words b) (proof_words p ++ (proof_words q)) h1 (ranges-append (proof_words p) (proof_words q) h2 h3)))

pub proof_range-IffL : (p : Proof) (q : Proof) → AreInRange (proof_words p) → AreInRange (proof_words q) → AreInRange (proof_words (IffL p q))
unfolding proof_words roll-Proof roll
proof_range-IffL p q h0 h1 = in_node (codes "iffl") (proof_words p ++ (proof_words q)) (fold-roll-Proof (List Word) proof_node (proof.IffL p q)) (ranges-append (proof_words p) (proof_words q) h0 h1)

pub proof_range-IffR : (p : Proof) (q : Proof) → AreInRange (proof_words p) → AreInRange (proof_words q) → AreInRange (proof_words (IffR p q))
unfolding proof_words roll-Proof roll
proof_range-IffR p q h0 h1 = in_node (codes "iffr") (proof_words p ++ (proof_words q)) (fold-roll-Proof (List Word) proof_node (proof.IffR p q)) (ranges-append (proof_words p) (proof_words q) h0 h1)

pub proof_range-AllI : (s : ℕ) (p : Proof) → IsSmall s → AreInRange (proof_words p) → AreInRange (proof_words (AllI s p))
unfolding proof_words roll-Proof roll
proof_range-AllI s p h0 h1 = in_node (codes "alli") (small s ∷ proof_words p) (fold-roll-Proof (List Word) proof_node (proof.AllI s p)) (h0, h1)

pub proof_range-AllE : (t : Term) (p : Proof) → AreInRange (term_words t) → AreInRange (proof_words p) → AreInRange (proof_words (AllE t p))
unfolding proof_words roll-Proof roll
proof_range-AllE t p h0 h1 = in_node (codes "alle") (term_words t ++ (proof_words p)) (fold-roll-Proof (List Word) proof_node (proof.AllE t p)) (ranges-append (term_words t) (proof_words p) h0 h1)

pub proof_range-ExI : (s : ℕ) (a : Form) (t : Term) (p : Proof) → IsSmall s → AreInRange (form_words a) → AreInRange (term_words t) → AreInRange (proof_words p) → AreInRange (proof_words (ExI s a t p))
unfolding proof_words roll-Proof roll
proof_range-ExI s a t p h0 h1 h2 h3 = in_node (codes "exi") (small s ∷ (form_words a ++ (term_words t ++ (proof_words p)))) (fold-roll-Proof (List Word) proof_node (proof.ExI s a t p)) (h0, (ranges-append (form_words a) (term_words t ++ (proof_words p)) h1 (ranges-append (term_words t) (proof_words p) h2 h3)))

pub proof_range-ExE : (a : Form) (p : Proof) (q : Proof) → AreInRange (form_words a) → AreInRange (proof_words p) → AreInRange (proof_words q) → AreInRange (proof_words (ExE a p q))
unfolding proof_words roll-Proof roll
proof_range-ExE a p q h0 h1 h2 = in_node (codes "exe") (form_words a ++ (proof_words p ++ (proof_words q))) (fold-roll-Proof (List Word) proof_node (proof.ExE a p q)) (ranges-append (form_words a) (proof_words p ++ (proof_words q)) h0 (ranges-append (proof_words p) (proof_words q) h1 h2))

pub proof_range-Refl : (t : Term) → AreInRange (term_words t) → AreInRange (proof_words (Refl t))
unfolding proof_words roll-Proof roll
proof_range-Refl t h = in_node (codes "refl") (term_words t) (fold-roll-Proof (List Word) proof_node (proof.Refl t)) h

pub proof_range-Subst : (s : ℕ) (a : Form) (p : Proof) (q : Proof) → IsSmall s → AreInRange (form_words a) → AreInRange (proof_words p) → AreInRange (proof_words q) → AreInRange (proof_words (Subst s a p q))
unfolding proof_words roll-Proof roll
proof_range-Subst s a p q h0 h1 h2 h3 = in_node (codes "subst") (small s ∷ (form_words a ++ (proof_words p ++ (proof_words q)))) (fold-roll-Proof (List Word) proof_node (proof.Subst s a p q)) (h0, (ranges-append (form_words a) (proof_words p ++ (proof_words q)) h1 (ranges-append (proof_words p) (proof_words q) h2 h3)))

pub proof_range-Inhabit : (s : ℕ) (a : Form) (p : Proof) → IsSmall s → AreInRange (form_words a) → AreInRange (proof_words p) → AreInRange (proof_words (Inhabit s a p))
unfolding proof_words roll-Proof roll
proof_range-Inhabit s a p h0 h1 h2 = in_node (codes "inhabit") (small s ∷ (form_words a ++ (proof_words p))) (fold-roll-Proof (List Word) proof_node (proof.Inhabit s a p)) (h0, (ranges-append (form_words a) (proof_words p) h1 h2))
