-- Lemmas on what specs/Found defines.
use Rattle.std.specs.Prelude.{ℕ, ◌+◌, ◌≡◌, ◌<◌, ◌≤◌, Bool, true, false, List, [], ◌∷◌, ◌++◌, length, map, take, get_or, Option, Some, None, IfSome, slice_get, refl, if◌then◌else◌}
use Rattle.std.specs.Option.{option_map}
use Rattle.std.proofs.Common.{ap, sym, subst, ◌∙◌, arith, zero, suc}
use Rattle.std.proofs.lemmas.List.{map-append, length-map, take_all}
use Rattle.fof_terms.specs.Vocabulary.{Vocabulary}
use Rattle.fof_terms.proofs.LiftingLaws.{both, each_true}
use Rattle.fof_terms.specs.Sorts.{is_sorted}
use Rattle.fof_terms.proofs.SortsFacts.{is_sorted-And, is_sorted-Or, is_sorted-All}
use Rattle.fof_terms.proofs.Scoped.{member_of}
use Rattle.fof_terms.specs.declared.form.Form.{Form, And, Or, All}
use Rattle.clause_form.specs.declared.path.Path.{Path, Leaf, Pick, Each, Under}
use Rattle.clause_form.specs.declared.clause.AtomOf.{AtomOf}
use Rattle.clause_form.specs.declared.clause.AtomOf.TheVariants.{Pred, Eq as Equation, True, False}
use Rattle.clause_form.specs.declared.clause.Lit.{Lit}
use Rattle.clause_form.specs.declared.clause.Clause.{Clause}
use Rattle.clause_form.specs.Norm.{signed}
use Rattle.clause_form.specs.ClauseView.{view_of, form_of_atom, form_of_lit, open_clause, alone_lit, within}
use Rattle.clause_form.specs.Paths.{is_plain, plain, all_beside, one_more, each_reaches, reached}
use Rattle.clause_form.proofs.PathCases.{reached-Leaf, reached-Pick, reached-Each, reached-Under, none_picked, none_each, none_under, lit_back}
use Rattle.clause_form.specs.Sizes.{norm_size_of}
use Rattle.clause_form.proofs.SizesFacts.{norm_size_of-Atom, norm_size_of-Eq, norm_size_of-Not, norm_size_of-And, norm_size_of-Or, norm_size_of-All}
use Rattle.clause_form.specs.Reached.{Suits, EachSuits}
use Rattle.clause_form.proofs.ReachedFacts.{suits_and, suits_or, suits_all, member_size, segments_size, each_fits}
use Rattle.clause_form.specs.Room.{AreOver}
use Rattle.clause_form.specs.Found.{IsRoomy, AreFound}
use Rattle.clause_form.specs.code.Found.{IsFound}

-- Rooms of parts.
pub roomy_and : (as_ : List Form) (k : ℕ) (a : Form) → slice_get as_ k ≡ Some a → IsRoomy (And as_) → IsRoomy a
roomy_and as_ k a e r =
    let same = norm_size_of-And as_ in
    record {
      vocabulary = r.vocabulary;
      scope = r.scope;
      room = omega (arith, r.room, same, member_size as_ k a e);
      fits = member_of (λ b. is_sorted r.vocabulary r.scope b ≡ true) as_ k a (each_true (is_sorted r.vocabulary r.scope) as_ (rw is_sorted-And at r.fits)) e;
    }

pub roomy_or : (as_ : List Form) (k : ℕ) (a : Form) → slice_get as_ k ≡ Some a → IsRoomy (Or as_) → IsRoomy a
roomy_or as_ k a e r =
    let same = norm_size_of-Or as_ in
    record {
      vocabulary = r.vocabulary;
      scope = r.scope;
      room = omega (arith, r.room, same, member_size as_ k a e);
      fits = member_of (λ b. is_sorted r.vocabulary r.scope b ≡ true) as_ k a (each_true (is_sorted r.vocabulary r.scope) as_ (rw is_sorted-Or at r.fits)) e;
    }

pub roomy_all : (s : ℕ) (a : Form) → IsRoomy (All s a) → IsRoomy a
roomy_all s a r =
    let same = norm_size_of-All s a in
    record {
      vocabulary = r.vocabulary;
      scope = s ∷ r.scope;
      room = omega (arith, r.room, same);
      fits = (both _ (is_sorted r.vocabulary (s ∷ r.scope) a) (rw is_sorted-All at r.fits)).1;
    }

pub over_room : (as_ : List Form) (cs : List Clause) → EachSuits as_ cs → IsRoomy (Or as_) → AreOver cs
over_room as_ cs all r =
    let same = norm_size_of-Or as_ in
    let few = segments_size as_ cs all 0 in
    record {
      vocabulary = r.vocabulary;
      scope = r.scope;
      room = omega (arith, r.room, same, few);
      fits = each_fits as_ cs all r.vocabulary r.scope (each_true (is_sorted r.vocabulary r.scope) as_ (rw is_sorted-Or at r.fits));
    }

-- Literals.
signed_size : (g : Bool) (a : AtomOf) → is_plain a ≡ true → norm_size_of (signed g (form_of_atom a)) ≡ 1
signed_size true (Pred p ts) e = norm_size_of-Atom p ts
signed_size true (Equation l r) e = norm_size_of-Eq l r
signed_size true True e = cc
signed_size true False e = cc
signed_size false (Pred p ts) e = norm_size_of-Not _ ∙ norm_size_of-Atom p ts
signed_size false (Equation l r) e = norm_size_of-Not _ ∙ norm_size_of-Eq l r
signed_size false True e = cc
signed_size false False e = cc

lit_suits : (l : Lit) → is_plain l.atom ≡ true → Suits (form_of_lit l) (open_clause (l ∷ []))
lit_suits l e =
    let one : norm_size_of (form_of_lit l) ≡ 1 = signed_size l.positive l.atom e in
    record { small = rw one (omega arith); sorts = λ w v fits. tt; fits = λ w v fits. fits }

plain_suits : (b : Bool) (l : Lit) → is_plain l.atom ≡ b → IfSome (option_map open_clause (option_map alone_lit (if b then Some l else None))) (Suits (form_of_lit l))
plain_suits true l e = lit_suits l e
plain_suits false l e = tt

lone_suits : (a : Form) (o : Option Lit) → (view_of a).lit ≡ o → IfSome (option_map open_clause (option_map alone_lit (plain o))) (Suits a)
lone_suits a None e = tt
lone_suits a (Some l) e = subst (λ (b : Form). IfSome (option_map open_clause (option_map alone_lit (plain (Some l)))) (Suits b)) (lit_back a l e) (plain_suits (is_plain l.atom) l refl)

-- The kinds of paths.
pub found_leaf : (p : Path) (a : Form) (found : Option Clause) → p ≡ Leaf → found ≡ option_map open_clause (option_map alone_lit (plain (view_of a).lit)) → IsFound p a found
found_leaf p a found ep e = record {
  is = rw (ep, reached-Leaf a) e;
  suits = subst (λ (o : Option Clause). IfSome o (Suits a)) (sym e) (lone_suits a (view_of a).lit refl);
}

some_suits : {P Q : Clause → Type 0} (o : Option Clause) → ((c : Clause) → P c → Q c) → IfSome o P → IfSome o Q
some_suits None f h = tt
some_suits (Some c) f h = f c h

pub found_pick : (p rest lent : Path) (k : ℕ) (a b : Form) (as_ lents : List Form) (found : Option Clause) → p ≡ Pick k rest → a ≡ And as_ → lents ≡ as_ → slice_get lents k ≡ Some b → lent ≡ rest → IsFound lent b found → IsFound p a found
found_pick p rest lent k a b as_ lents found ep ea el at er f =
    let at' : slice_get as_ k ≡ Some b = rw el at at in
    let there : found ≡ reached rest b = rw er at f.is in
    record {
      is = rw (ep, ea, reached-Pick k rest as_, at') there;
      suits = rw ea (some_suits found (λ c s. suits_and as_ k b c at' s) f.suits);
    }

past_end : (xs : List Form) (k : ℕ) → length xs ≤ k → slice_get xs k ≡ None
past_end [] k h = refl
past_end (x ∷ xs) zero h = absurd (omega arith)
past_end (x ∷ xs) (suc k) h = past_end xs k (omega arith)

pub at_index : {X : Type 0} (xs : List X) (k : ℕ) (x : X) → k < length xs → x ≡ get_or xs k x → slice_get xs k ≡ Some x
at_index [] k x lt is = absurd (omega arith)
at_index (y ∷ xs) zero x lt is = ap Some (sym is)
at_index (y ∷ xs) (suc k) x lt is = at_index xs k x (omega arith) is

pub roomy_lent : (a : Form) (as_ lents : List Form) → a ≡ Or as_ → lents ≡ as_ → IsRoomy a → IsRoomy (Or lents)
roomy_lent a as_ lents ea el r = rw (el, sym ea) r

pub roomy_member : (a : Form) (as_ lents : List Form) (k : ℕ) (b : Form) → a ≡ And as_ → lents ≡ as_ → k < length lents → b ≡ get_or lents k b → IsRoomy a → IsRoomy b
roomy_member a as_ lents k b ea el lt is r =
    let at : slice_get as_ k ≡ Some b = rw el at (at_index lents k b lt is) in
    roomy_and as_ k b at (rw ea at r)

pub roomy_body : (a : Form) (s : ℕ) (body b : Form) → a ≡ All s body → b ≡ body → IsRoomy a → IsRoomy b
roomy_body a s body b ea eb r = rw eb (roomy_all s body (rw ea at r))

pub not_there : (p rest : Path) (k : ℕ) (a : Form) (as_ lents : List Form) → p ≡ Pick k rest → a ≡ And as_ → lents ≡ as_ → length lents ≤ k → IsFound p a None
not_there p rest k a as_ lents ep ea el at =
    let at' : slice_get as_ k ≡ None = rw el at (past_end lents k at) in
    record { is = rw (ep, ea, reached-Pick k rest as_, at') refl; suits = tt }

pub no_pick : (p rest : Path) (k : ℕ) (a : Form) → p ≡ Pick k rest → ((as_ : List Form) → a ≡ And as_ → ⊥) → IsFound p a None
no_pick p rest k a ep other = record { is = rw (ep, none_picked k rest a other) refl; suits = tt }

pub no_each : (p : Path) (ways : List Path) (a : Form) → p ≡ Each ways → ((as_ : List Form) → a ≡ Or as_ → ⊥) → IsFound p a None
no_each p ways a ep other = record { is = rw (ep, none_each ways a other) refl; suits = tt }

pub no_under : (p rest : Path) (a : Form) → p ≡ Under rest → ((s : ℕ) (b : Form) → a ≡ All s b → ⊥) → IsFound p a None
no_under p rest a ep other = record { is = rw (ep, none_under rest a other) refl; suits = tt }

under_suits : (s : ℕ) (a : Form) (o : Option Clause) → IfSome o (Suits a) → IfSome (option_map (within s) o) (Suits (All s a))
under_suits s a None h = tt
under_suits s a (Some c) h = suits_all s a c h

pub found_under : (p rest lent : Path) (s : ℕ) (a b body : Form) (inner found : Option Clause) → p ≡ Under rest → a ≡ All s body → b ≡ body → lent ≡ rest → IsFound lent b inner → found ≡ option_map (within s) inner → IsFound p a found
found_under p rest lent s a b body inner found ep ea eb er f e =
    let there : inner ≡ reached rest body = rw (er, eb) at f.is in
    let suits : IfSome inner (Suits body) = rw eb at f.suits in
    record {
      is = rw (ep, ea, reached-Under rest s body) (e ∙ ap (option_map (within s)) there);
      suits = rw (e, ea) (under_suits s body inner suits);
    }

each_suit : (as_ : List Form) (o : Option (List Clause)) → IfSome o (EachSuits as_) → IfSome (option_map all_beside o) (Suits (Or as_))
each_suit as_ None h = tt
each_suit as_ (Some cs) h = suits_or as_ cs h

pub found_each : (p : Path) (ways ways' : List Path) (a : Form) (as_ as' : List Form) (inner : Option (List Clause)) (found : Option Clause) → p ≡ Each ways → a ≡ Or as_ → ways' ≡ ways → as' ≡ as_ → AreFound ways' as' inner → found ≡ option_map all_beside inner
    → IsFound p a found
found_each p ways ways' a as_ as' inner found ep ea ew es f e =
    let there : inner ≡ each_reaches (map reached ways) as_ = rw (ew, es) at f.are in
    let suits : IfSome inner (EachSuits as_) = rw es at f.suit in
    record {
      is = rw (ep, ea, reached-Each ways as_) (e ∙ ap (option_map all_beside) there);
      suits = rw (e, ea) (each_suit as_ inner suits);
    }

over_some : (as_ : List Form) (o : Option (List Clause)) → IfSome o (EachSuits as_) → IsRoomy (Or as_) → IfSome o AreOver
over_some as_ None h r = tt
over_some as_ (Some cs) h r = over_room as_ cs h r

pub over_found : (ways : List Path) (as_ as' : List Form) (a : Form) (o : Option (List Clause)) → a ≡ Or as_ → as' ≡ as_ → AreFound ways as' o → IsRoomy a → IfSome o AreOver
over_found ways as_ as' a o ea es f r =
    let r' : IsRoomy (Or as_) = rw ea at r in
    let suits : IfSome o (EachSuits as_) = rw es at f.suit in
    over_some as_ o suits r'

-- The members one by one.
nothing_more : (o : Option Clause) → one_more o None ≡ None
nothing_more None = refl
nothing_more (Some c) = refl

uneven : (ws : List (Form → Option Clause)) (as_ : List Form) → (length as_ ≡ length ws → ⊥) → each_reaches ws as_ ≡ None
uneven [] [] other = absurd (other refl)
uneven [] (a ∷ as_) other = refl
uneven (w ∷ ws) [] other = refl
uneven (w ∷ ws) (a ∷ as_) other = rw (uneven ws as_ (λ e. other (omega (arith, e)))) (nothing_more (w a))

pub not_even : (ps : List Path) (as_ : List Form) → (length as_ ≡ length ps → ⊥) → AreFound ps as_ None
not_even ps as_ other = record { are = sym (uneven (map reached ps) as_ (λ e. other (e ∙ length-map ps reached))); suit = tt }

misses : (ps : List Path) (as_ : List Form) (i : ℕ) (p : Path) (a : Form) → i < length as_ → i < length ps → p ≡ get_or ps i p → a ≡ get_or as_ i a → reached p a ≡ None → each_reaches (map reached ps) as_ ≡ None
misses [] as_ i p a l m ip ia e = absurd (omega arith)
misses (q ∷ ps) [] i p a l m ip ia e = absurd (omega arith)
misses (q ∷ ps) (b ∷ as_) zero p a l m ip ia e = let none : reached q b ≡ None = rw (ip, ia) at e in rw none refl
misses (q ∷ ps) (b ∷ as_) (suc i) p a l m ip ia e = rw (misses ps as_ i p a (omega arith) (omega arith) ip ia e) (nothing_more (reached q b))

pub misses_one : (ps : List Path) (as_ : List Form) (i : ℕ) (p : Path) (a : Form) (o : Option Clause) → length as_ ≡ length ps → i < length as_ → p ≡ get_or ps i p → a ≡ get_or as_ i a → IsFound p a o → o ≡ None → AreFound ps as_ None
misses_one ps as_ i p a o same l ip ia f e = record { are = sym (misses ps as_ i p a l (omega arith) ip ia (sym f.is ∙ e)); suit = tt }

abbrev pub FoundUpTo : List Path → List Form → ℕ → List Clause → Type 0
FoundUpTo ps as_ i cs = (each_reaches (map reached (take i ps)) (take i as_) ≡ Some cs) × EachSuits (take i as_) cs

take_more : {X : Type 0} (xs : List X) (i : ℕ) (x : X) → i < length xs → x ≡ get_or xs i x → take (i + 1) xs ≡ take i xs ++ x ∷ []
take_more [] i x l e = absurd (omega arith)
take_more (y ∷ xs) zero x l e = rw e refl
take_more (y ∷ xs) (suc i) x l e = let next : suc i + 1 ≡ suc (i + 1) = omega arith in rw next (ap (λ ys. y ∷ ys) (take_more xs i x (omega arith) e))

some_more : (o : Option Clause) (rest : Option (List Clause)) (cs : List Clause) → one_more o rest ≡ Some cs → (c : Clause) × (ds : List Clause) × (o ≡ Some c) × (rest ≡ Some ds) × (cs ≡ c ∷ ds)
some_more None rest cs e = cc
some_more (Some c) None cs e = cc
some_more (Some c) (Some ds) cs e = (c, ds, refl, refl, cc)

both_more : (o : Option Clause) (rest : Option (List Clause)) (c : Clause) (ds cs : List Clause) → o ≡ Some c → rest ≡ Some ds → cs ≡ c ∷ ds → one_more o rest ≡ Some cs
both_more o rest c ds cs e f g = rw (e, f, g) refl

reaches_more : (ws : List (Form → Option Clause)) (as_ : List Form) (w : Form → Option Clause) (a : Form) (cs : List Clause) (c : Clause) → each_reaches ws as_ ≡ Some cs → w a ≡ Some c
    → each_reaches (ws ++ w ∷ []) (as_ ++ a ∷ []) ≡ Some (cs ++ c ∷ [])
reaches_more [] [] w a cs c e f = let none : cs ≡ [] = cc in rw (f, none) refl
reaches_more [] (b ∷ as_) w a cs c e f = cc
reaches_more (u ∷ ws) [] w a cs c e f = cc
reaches_more (u ∷ ws) (b ∷ as_) w a cs c e f =
    let parts = some_more (u b) (each_reaches ws as_) cs e in
    both_more (u b) (each_reaches (ws ++ w ∷ []) (as_ ++ a ∷ [])) parts.0 (parts.1 ++ c ∷ []) (cs ++ c ∷ []) parts.2 (reaches_more ws as_ w a parts.1 c parts.3 f) (ap (λ (xs : List Clause). xs ++ c ∷ []) parts.4)

suits_more : (as_ : List Form) (cs : List Clause) (a : Form) (c : Clause) → EachSuits as_ cs → Suits a c → EachSuits (as_ ++ a ∷ []) (cs ++ c ∷ [])
suits_more [] [] a c all s = (s, tt)
suits_more [] (d ∷ cs) a c all s = absurd all
suits_more (b ∷ as_) [] a c all s = absurd all
suits_more (b ∷ as_) (d ∷ cs) a c all s = (all.0, suits_more as_ cs a c all.1 s)

pub found_next : (ps : List Path) (as_ : List Form) (i : ℕ) (p : Path) (a : Form) (o : Option Clause) (c : Clause) (cs : List Clause) → length as_ ≡ length ps → i < length as_ → p ≡ get_or ps i p → a ≡ get_or as_ i a → IsFound p a o → o ≡ Some c
    → FoundUpTo ps as_ i cs → FoundUpTo ps as_ (i + 1) (cs ++ c ∷ [])
found_next ps as_ i p a o c cs same l ip ia f e before =
    let at : reached p a ≡ Some c = sym f.is ∙ e in
    let own : Suits a c = rw e at f.suits in
    rw (take_more ps i p (omega arith) ip, take_more as_ i a l ia, map-append)
    (reaches_more (map reached (take i ps)) (take i as_) (reached p) a cs c before.0 at, suits_more (take i as_) cs a c before.1 own)

pub found_end : (ps : List Path) (as_ : List Form) (i : ℕ) (cs : List Clause) → length as_ ≡ length ps → length as_ ≤ i → FoundUpTo ps as_ i cs → AreFound ps as_ (Some cs)
found_end ps as_ i cs same l before =
    let all : take i as_ ≡ as_ = take_all i as_ l in
    let every : take i ps ≡ ps = take_all i ps (omega arith) in
    let there : each_reaches (map reached ps) as_ ≡ Some cs = rw (all, every) at before.0 in
    let suit : EachSuits as_ cs = rw all at before.1 in
    record { are = sym there; suit = suit }
