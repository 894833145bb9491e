-- Lemmas on what specs/code/Routes defines.
use Rattle.std.specs.Prelude.{ℕ, ◌+◌, ◌-◌, ◌≡◌, ◌<◌, ◌≤◌, Bool, true, false, List, [], ◌∷◌, ◌++◌, length, map, take, drop, get_or, Option, Some, None, slice_get, refl, if◌then◌else◌}
use Rattle.std.specs.Option.{option_map}
use Rattle.std.proofs.Common.{ap, sym, subst, ◌∙◌, arith, zero, suc}
use Rattle.std.proofs.lemmas.List.{length-append, take_all}
use Rattle.fof_terms.specs.declared.term.Term.{Var}
use Rattle.fof_terms.specs.declared.form.Form.{Form, And, Or, Imp, All}
use Rattle.clause_form.specs.declared.path.Path.{Path, Leaf, Pick, Each, Under}
use Rattle.clause_form.specs.declared.clause.Lit.{Lit}
use Rattle.clause_form.specs.declared.clause.Clause.{Clause}
use Rattle.clause_form.specs.ClauseView.{view_of, form_of_lit, closed, open_clause, alone_lit, within}
use Rattle.clause_form.specs.Norm.{node, alone}
use Rattle.clause_form.specs.Paths.{is_plain, plain, all_beside, at_member, one_more, each_reaches, reached}
use Rattle.clause_form.proofs.PathCases.{reached-Leaf, reached-Pick, reached-Each, reached-Under, lit_back}
use Rattle.clause_form.specs.Sizes.{norm_size_of}
use Rattle.clause_form.proofs.SizesFacts.{norm_size_of-And, norm_size_of-All}
use Rattle.clause_form.specs.Beside.{all_sorts}
use Rattle.clause_form.proofs.BesideFacts.{Rest, rest_start, rest_next}
use Rattle.clause_form.specs.Reached.{Suits, EachSuits}
use Rattle.clause_form.proofs.ReachedFacts.{suits_or, member_size}
use Rattle.clause_form.specs.Room.{AreOver}
use Rattle.clause_form.proofs.RoomFacts.{from_here}
use Rattle.clause_form.specs.Found.{IsRoomy, AreFound}
use Rattle.clause_form.proofs.FoundFacts.{roomy_or, over_room}
use Rattle.fof_terms.specs.Sorts.{Sorted}
use Rattle.kernel.specs.Statements.{Statements}
use Rattle.kernel.specs.Proves.{Proves}
use Rattle.kernel.specs.declared.proof.Proof.{Proof, Hyp, OrI, OrE, ImpI, AllE}
use Rattle.norm_proofs.specs.code.Steps.{Between}
use Rattle.norm_proofs.proofs.StepsFacts.{same_shows}
use Rattle.norm_proofs.specs.code.Joining.{numbered}
use Rattle.norm_proofs.specs.code.Links.{PartsFrom}
use Rattle.norm_proofs.proofs.LinksFacts.{parts_more}
use Rattle.norm_proofs.proofs.NormsFacts.{small_member}
use Rattle.norm_proofs.specs.Placed.{SortedSomewhere}
use Rattle.norm_proofs.proofs.Places.{at_index}
use Rattle.norm_proofs.specs.Numbering.{near}
use Rattle.norm_proofs.specs.code.Alongside.{chosen, by_segment, member_tree, pick_tree, under_tree, ArmAt}
use Rattle.norm_proofs.proofs.AlongsideFacts.{member_shows, pick_shows, under_shows}
use Rattle.norm_proofs.specs.code.Routes.{Leads, IsAlong}

carried : (c d : Clause) (a b : Form) (m n : Proof) → c ≡ d → a ≡ b → m ≡ n → Leads b n d → Leads a m c
carried c d a b m n e f g h = rw (e, f, g) h

lone_clause : (b : Bool) (l : Lit) (c : Clause) → option_map open_clause (option_map alone_lit (if b then Some l else None)) ≡ Some c → c ≡ open_clause (l ∷ [])
lone_clause true l c e = cc
lone_clause false l c e = cc

leaf_clause : (o : Option Lit) (c : Clause) → option_map open_clause (option_map alone_lit (plain o)) ≡ Some c → (l : Lit) × (o ≡ Some l) × (c ≡ open_clause (l ∷ []))
leaf_clause None c e = cc
leaf_clause (Some l) c e = (l, refl, lone_clause (is_plain l.atom) l c e)

pub along_leaf : (p : Path) (a f : Form) (made : Proof) → p ≡ Leaf → made ≡ ImpI f (Hyp 0) → f ≡ a → IsAlong p a made
along_leaf p a f made ep em ef = record {
  leads = λ c e.
      let e' : option_map open_clause (option_map alone_lit (plain (view_of a).lit)) ≡ Some c = sym (reached-Leaf a) ∙ (rw ep at e) in
      let found = leaf_clause (view_of a).lit c e' in
      let back : form_of_lit found.0 ≡ a = lit_back a found.0 found.1 in
      rw (found.2, em, ef, back) (omega arith, same_shows true 0 a);
}

pub along_pick : (p rest lent : Path) (k : ℕ) (a b : Form) (as_ lents : List Form) (q made : Proof) → p ≡ Pick k rest → a ≡ And as_ → lents ≡ as_ → slice_get lents k ≡ Some b → lent ≡ rest → made ≡ pick_tree lents k q → IsAlong lent b q → IsAlong p a made
along_pick p rest lent k a b as_ lents q made ep ea el at er em l = record {
  leads = λ c e.
      let at' : slice_get as_ k ≡ Some b = rw el at at in
      let e1 : at_member (reached rest) (slice_get as_ k) ≡ Some c = sym (reached-Pick k rest as_) ∙ (rw (ep, ea) at e) in
      let e2 : reached rest b ≡ Some c = rw at' at e1 in
      let inner = l.leads c (rw er e2) in
      rw (em, ea, el) (rw norm_size_of-And (omega (arith, inner.0, member_size as_ k b at')), pick_shows (length c.sorts) k as_ b (closed c) q at' inner.1);
}

some_within : (s : ℕ) (o : Option Clause) (c : Clause) → option_map (within s) o ≡ Some c → (d : Clause) × (o ≡ Some d) × (c ≡ within s d)
some_within s None c e = cc
some_within s (Some d) c e = (d, refl, cc)

pub along_under : (p rest lent : Path) (s : ℕ) (a body b d : Form) (q made : Proof) → p ≡ Under rest → a ≡ All s body → b ≡ body → d ≡ body → lent ≡ rest → made ≡ under_tree s d q → IsAlong lent b q → IsAlong p a made
along_under p rest lent s a body b d q made ep ea eb ed er em l = record {
  leads = λ c e.
      let e1 : option_map (within s) (reached rest body) ≡ Some c = sym (reached-Under rest s body) ∙ (rw (ep, ea) at e) in
      let found = some_within s (reached rest body) c e1 in
      let inner = l.leads found.0 (rw (er, eb) found.1) in
      let size : length found.0.sorts ≤ norm_size_of body = rw eb at inner.0 in
      let shows : Between true (length found.0.sorts) q body (closed found.0) = rw eb at inner.1 in
      let whole : Leads (All s body) (under_tree s body q) (within s found.0) = (rw norm_size_of-All (omega arith), under_shows s body found.0 q shows) in
      carried c (within s found.0) a (All s body) made (under_tree s body q) found.2 ea (em ∙ ap (λ (x : Form). under_tree s x q) ed) whole;
}

pub same_path : (p : Path) (ways lent : List Path) (a : Form) (as_ lents : List Form) (made : Proof) → p ≡ Each ways → a ≡ Or as_ → lent ≡ ways → lents ≡ as_ → IsAlong (Each lent) (Or lents) made → IsAlong p a made
same_path p ways lent a as_ lents made ep ea ew es l = rw (ep, ea) (rw (ew, es) at l)

-- the clauses of a disjunction's members
pub whole_suits : (ps : List Path) (as_ : List Form) (cs : List Clause) (whole : Clause) → AreFound ps as_ (Some cs) → whole ≡ all_beside cs → Suits (Or as_) whole
whole_suits ps as_ cs whole f e = rw e (suits_or as_ cs f.suit)

pub along_each : (ps : List Path) (as_ : List Form) (cs : List Clause) (whole : Clause) (made : Proof) → AreFound ps as_ (Some cs) → whole ≡ all_beside cs → (Suits (Or as_) whole → Between true (length whole.sorts) made (Or as_) (closed whole))
    → IsAlong (Each ps) (Or as_) made
along_each ps as_ cs whole made f e shows = record {
  leads = λ c r.
      let there : option_map all_beside (each_reaches (map reached ps) as_) ≡ Some c = sym (reached-Each ps as_) ∙ r in
      let made_of : option_map all_beside (Some cs) ≡ Some c = ap (option_map all_beside) f.are ∙ there in
      let same : all_beside cs ≡ c = cc in
      let suits = whole_suits ps as_ cs whole f e in
      subst (λ (d : Clause). (length d.sorts ≤ norm_size_of (Or as_)) × Between true (length d.sorts) made (Or as_) (closed d)) (e ∙ same) (omega (arith, suits.small), shows suits);
}

pub itself_shows : (as_ : List Form) (whole : Clause) (f : Form) (made : Proof) → closed whole ≡ Or as_ → made ≡ ImpI f (Hyp 0) → f ≡ Or as_ → Between true (length whole.sorts) made (Or as_) (closed whole)
itself_shows as_ whole f made e em ef = rw (e, em, ef) (same_shows true (length whole.sorts) (Or as_))

-- The arms one by one.
as_many : (as_ : List Form) (cs : List Clause) → EachSuits as_ cs → length cs ≡ length as_
as_many [] [] all = refl
as_many [] (c ∷ cs) all = absurd all
as_many (a ∷ as_) [] all = absurd all
as_many (a ∷ as_) (c ∷ cs) all = ap suc (as_many as_ cs all.1)

some_more : (o : Option Clause) (rest : Option (List Clause)) (cs : List Clause) → one_more o rest ≡ Some cs → (c : Clause) × (ds : List Clause) × (o ≡ Some c) × (rest ≡ Some ds) × (cs ≡ c ∷ ds)
some_more None rest cs e = cc
some_more (Some c) None cs e = cc
some_more (Some c) (Some ds) cs e = (c, ds, refl, refl, cc)

even_more : (ps : List Path) (as_ : List Form) (cs : List Clause) → each_reaches (map reached ps) as_ ≡ Some cs → length ps ≡ length as_
even_more [] [] cs e = refl
even_more [] (a ∷ as_) cs e = cc
even_more (p ∷ ps) [] cs e = cc
even_more (p ∷ ps) (a ∷ as_) cs e = let parts = some_more (reached p a) (each_reaches (map reached ps) as_) cs e in ap suc (even_more ps as_ parts.1 parts.3)

pub reaches_at : (ps : List Path) (as_ : List Form) (cs : List Clause) (i : ℕ) (p : Path) (a : Form) (c : Clause) → each_reaches (map reached ps) as_ ≡ Some cs → i < length as_ → p ≡ get_or ps i p → a ≡ get_or as_ i a → c ≡ get_or cs i c → reached p a ≡ Some c
reaches_at [] [] cs i p a c e lt ip ia ic = absurd (omega arith)
reaches_at [] (b ∷ as_) cs i p a c e lt ip ia ic = cc
reaches_at (q ∷ ps) [] cs i p a c e lt ip ia ic = absurd (omega arith)
reaches_at (q ∷ ps) (b ∷ as_) cs zero p a c e lt ip ia ic =
    let parts = some_more (reached q b) (each_reaches (map reached ps) as_) cs e in
    let ic' : c ≡ parts.0 = ic ∙ ap (λ (ds : List Clause). get_or ds 0 c) parts.4 in
    rw (ip, ia, ic') parts.2
reaches_at (q ∷ ps) (b ∷ as_) cs (suc i) p a c e lt ip ia ic =
    let parts = some_more (reached q b) (each_reaches (map reached ps) as_) cs e in
    reaches_at ps as_ parts.1 i p a c parts.3 (omega arith) ip ia (ic ∙ ap (λ (ds : List Clause). get_or ds (suc i) c) parts.4)

pub few_paths : (ps : List Path) (as_ : List Form) (cs : List Clause) → AreFound ps as_ (Some cs) → (length ps ≡ length as_) × (length cs ≡ length as_)
few_paths ps as_ cs f = (even_more ps as_ cs (sym f.are), as_many as_ cs f.suit)

pub record ArmsUpTo (whole : Clause) (as_ : List Form) (cs : List Clause) (f k i : ℕ) (arms : List Proof) : Type 0 where
  pub parts : PartsFrom (ArmAt whole as_) 0 (take i as_) arms
  pub rest : Rest whole f k (drop i cs)

-- the variables and literals of a clause among those of all
pub member_fits : (whole : Clause) (cs : List Clause) (i : ℕ) (c : Clause) (f k : ℕ) → i < length cs → c ≡ get_or cs i c → Rest whole f k (drop i cs) → (f + length c.sorts ≤ length whole.sorts) × (k + length c.lits ≤ length whole.lits)
member_fits whole cs i c f k lt is r =
    let r' : Rest whole f k (c ∷ drop (i + 1) cs) = subst (λ (ds : List Clause). Rest whole f k ds) (from_here cs i c lt is) r in
    let next = rest_next whole f k c (drop (i + 1) cs) r' in
    let all : length whole.sorts ≡ length (next.earlier ++ all_sorts (drop (i + 1) cs)) = ap (λ (ss : List ℕ). length ss) next.sorts in
    let parts : length (next.earlier ++ all_sorts (drop (i + 1) cs)) ≡ length next.earlier + length (all_sorts (drop (i + 1) cs)) = length-append next.earlier (all_sorts (drop (i + 1) cs)) in
    let count : length next.earlier ≡ f + length c.sorts = next.count in
    let size : k + length c.lits + length _ ≡ length whole.lits = next.size in
    (omega arith, omega arith)

pub arm_next : (ps : List Path) (as_ members : List Form) (cs : List Clause) (whole : Clause) (i f k e : ℕ) (arms : List Proof) (p : Path) (a : Form) (c : Clause) (q made : Proof) → AreFound ps as_ (Some cs) → i < length as_ → p ≡ get_or ps i p → a ≡ get_or as_ i a
    → c ≡ get_or cs i c → members ≡ map form_of_lit whole.lits → e ≡ length whole.sorts - f - length c.sorts → IsAlong p a q → made ≡ member_tree whole c members e k q → ArmsUpTo whole as_ cs f k i arms
    → ArmsUpTo whole as_ cs (f + length c.sorts) (k + length c.lits) (i + 1) (arms ++ made ∷ [])
arm_next ps as_ members cs whole i f k e arms p a c q made found lt ip ia ic em ee l et before =
    let many = few_paths ps as_ cs found in
    let lt' : i < length cs = omega (arith, many.1) in
    let r' : Rest whole f k (c ∷ drop (i + 1) cs) = subst (λ (ds : List Clause). Rest whole f k ds) (from_here cs i c lt' ic) before.rest in
    let next = rest_next whole f k c (drop (i + 1) cs) r' in
    let all : length whole.sorts ≡ length (next.earlier ++ all_sorts (drop (i + 1) cs)) = ap (λ (ss : List ℕ). length ss) next.sorts in
    let parts : length (next.earlier ++ all_sorts (drop (i + 1) cs)) ≡ length next.earlier + length (all_sorts (drop (i + 1) cs)) = length-append next.earlier (all_sorts (drop (i + 1) cs)) in
    let count : length next.earlier ≡ f + length c.sorts = next.count in
    let behind : e ≡ length (all_sorts (drop (i + 1) cs)) = omega arith in
    let inner = l.leads c (reaches_at ps as_ cs i p a c (sym found.are) lt ip ia ic) in
    let arm : ArmAt whole as_ i a made = (
      at_index as_ i a lt ia,
      λ t v h room gs sa.
          rw (et, em, behind) (member_shows t v h whole f k c (drop (i + 1) cs) r' a q room gs sa (λ g. inner.1 t v g (omega (arith, count, parts, all, room)) sa)),
    ) in
    record {
      parts = parts_more (ArmAt whole as_) as_ arms made i a lt before.parts (subst (λ (x : Form). ArmAt whole as_ i x made) ia arm);
      rest = next;
    }

pub arms_end : (whole : Clause) (as_ : List Form) (cs : List Clause) (f k i : ℕ) (arms : List Proof) → length as_ ≤ i → ArmsUpTo whole as_ cs f k i arms → PartsFrom (ArmAt whole as_) 0 as_ arms
arms_end whole as_ cs f k i arms le u = subst (λ (xs : List Form). PartsFrom (ArmAt whole as_) 0 xs arms) (take_all i as_ le) u.parts

-- As code meets the trees.
pub chosen_several : (as_ : List Form) (k : ℕ) (p : Proof) → (length as_ ≡ 1 → ⊥) → OrI as_ k p ≡ chosen as_ k p
chosen_several [] k p other = refl
chosen_several (a ∷ []) k p other = absurd (other refl)
chosen_several (a ∷ b ∷ as_) k p other = refl

pub chosen_one : (as_ : List Form) (k : ℕ) (p : Proof) → length as_ ≡ 1 → p ≡ chosen as_ k p
chosen_one [] k p e = absurd (omega arith)
chosen_one (a ∷ []) k p e = refl
chosen_one (a ∷ b ∷ as_) k p e = absurd (omega arith)

pub alone_several : (as_ : List Form) → (length as_ ≡ 1 → ⊥) → node false as_ ≡ alone false as_
alone_several [] other = refl
alone_several (a ∷ []) other = absurd (other refl)
alone_several (a ∷ b ∷ as_) other = refl

pub alone_one : (as_ : List Form) (a : Form) → length as_ ≡ 1 → a ≡ get_or as_ 0 a → a ≡ alone false as_
alone_one [] a e is = absurd (omega arith)
alone_one (b ∷ []) a e is = is
alone_one (b ∷ d ∷ as_) a e is = absurd (omega arith)

pub segment_several : (as_ : List Form) (k n : ℕ) (p : Proof) → (n ≡ 1 → ⊥) → OrE (alone false as_) p (numbered (λ j. chosen as_ j (Hyp 0)) k n) ≡ by_segment as_ k n p
segment_several as_ k zero p other = refl
segment_several as_ k (suc zero) p other = absurd (other refl)
segment_several as_ k (suc (suc n)) p other = refl

pub segment_one : (as_ : List Form) (k n : ℕ) (p : Proof) → n ≡ 1 → chosen as_ k p ≡ by_segment as_ k n p
segment_one as_ k n p e = rw e refl

pub near_next : (e n i : ℕ) (p q made : Proof) → i < n → q ≡ AllE (Var (e + (n - 1 - i))) p → near e (n - i) p ≡ made → near e (n - (i + 1)) q ≡ made
near_next e n i p q made lt eq h =
    let here : n - i ≡ suc (n - 1 - i) = omega arith in
    let there : n - (i + 1) ≡ n - 1 - i = omega arith in
    let h' : near e (suc (n - 1 - i)) p ≡ made = rw here at h in
    rw (there, eq) h'

pub near_end : (e n i : ℕ) (p made : Proof) → n ≤ i → near e (n - i) p ≡ made → p ≡ made
near_end e n i p made le h = let none : n - i ≡ 0 = omega arith in rw none at h

-- What the steps of the recursion ask.
pub pick_small : (a b : Form) (as_ lents : List Form) (k : ℕ) → a ≡ And as_ → lents ≡ as_ → k < length lents → b ≡ get_or lents k b → norm_size_of a ≤ 100000 → norm_size_of b ≤ 100000
pick_small a b as_ lents k ea el lt is le =
    let at : slice_get as_ k ≡ Some b = rw el at (at_index lents k b lt is) in
    let le' : norm_size_of (And as_) ≤ 100000 = rw ea at le in
    omega (arith, small_member true as_ k b at)

pub under_small : (a : Form) (s : ℕ) (body b : Form) → a ≡ All s body → b ≡ body → norm_size_of a ≤ 100000 → norm_size_of b ≤ 100000
under_small a s body b ea eb le =
    let le' : norm_size_of (All s body) ≤ 100000 = rw ea at le in
    let same = norm_size_of-All s body in
    rw eb (omega arith)

pub each_small : (as_ : List Form) (k : ℕ) (a : Form) → k < length as_ → a ≡ get_or as_ k a → norm_size_of (Or as_) ≤ 100000 → norm_size_of a ≤ 100000
each_small as_ k a lt is le = omega (arith, small_member false as_ k a (at_index as_ k a lt is))

pub each_small_lent : (a : Form) (as_ lents : List Form) → a ≡ Or as_ → lents ≡ as_ → norm_size_of a ≤ 100000 → norm_size_of (Or lents) ≤ 100000
each_small_lent a as_ lents ea el le = rw (el, sym ea) le

pub each_roomy : (as_ : List Form) (k : ℕ) (a : Form) → k < length as_ → a ≡ get_or as_ k a → IsRoomy (Or as_) → IsRoomy a
each_roomy as_ k a lt is r = roomy_or as_ k a (at_index as_ k a lt is) r

pub roomy_start : (a : Form) → norm_size_of a ≤ 100000 → SortedSomewhere a → IsRoomy a
roomy_start a le s = record { vocabulary = s.0; scope = s.1; room = omega (arith, le, s.2); fits = s.3.fits }

pub arms_start : (whole : Clause) (as_ : List Form) (cs : List Clause) (made : List Proof) → whole ≡ all_beside cs → made ≡ [] → ArmsUpTo whole as_ cs 0 0 0 made
arms_start whole as_ cs made e em = rw (e, em) (record { parts = tt; rest = rest_start cs })

pub arm_rooms : (ps : List Path) (as_ : List Form) (cs : List Clause) (whole : Clause) (i f k : ℕ) (arms : List Proof) (c : Clause) → norm_size_of (Or as_) ≤ 100000 → AreFound ps as_ (Some cs) → whole ≡ all_beside cs → i < length as_ → c ≡ get_or cs i c → ArmsUpTo whole as_ cs f k i arms
    → (f + length c.sorts ≤ length whole.sorts) × (k + length c.lits ≤ length whole.lits) × (length whole.sorts + length whole.lits ≤ 100000)
arm_rooms ps as_ cs whole i f k arms c le found e lt is u =
    let many = few_paths ps as_ cs found in
    let fits = member_fits whole cs i c f k (omega (arith, many.1)) is u.rest in
    let suits = whole_suits ps as_ cs whole found e in
    (fits.0, fits.1, omega (arith, suits.small, le))

pub over_here : (ps : List Path) (as_ : List Form) (o : Option (List Clause)) (cs lent : List Clause) → AreFound ps as_ o → o ≡ Some cs → lent ≡ cs → IsRoomy (Or as_) → AreOver lent
over_here ps as_ o cs lent f e el r =
    let f' : AreFound ps as_ (Some cs) = rw e at f in
    rw el (over_room as_ cs f'.suit r)

pub found_here : (ps : List Path) (as_ : List Form) (o : Option (List Clause)) (cs : List Clause) → AreFound ps as_ o → o ≡ Some cs → AreFound ps as_ (Some cs)
found_here ps as_ o cs f e = rw e at f

pub start_shows : (p : Path) (a : Form) (made : Proof) → norm_size_of a ≤ 100000 → IsAlong p a made → (t : Statements) (v : List ℕ) (h : List Form) (c : Clause) → length v ≤ 1000000000 → Sorted t.vocabulary v a → reached p a ≡ Some c → Proves t v h made (Imp a (closed c))
start_shows p a made le l t v h c few s e =
    let inner = l.leads c e in
    inner.1 t v h (omega (arith, inner.0, le, few)) s
