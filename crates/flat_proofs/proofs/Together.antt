-- What is pulled out of a formula, by what is pulled out of its parts, as code puts it together.
use Rattle.std.specs.Prelude.{ℕ, zero, suc, ◌≡◌, ◌+◌, ◌<◌, ◌≤◌, Bool, true, false, List, [], ◌∷◌, ◌++◌, length, map, take, get_or, Option, Some, None, refl}
use Rattle.std.specs.List.{AllByRecursion}
use Rattle.std.proofs.Common.{ap, sym, subst, ◌∙◌, arith}
use Rattle.std.proofs.lemmas.List.{map-append, length-map}
use Rattle.fof_terms.specs.declared.term.Term.{Var}
use Rattle.fof_terms.specs.declared.form.Form.{Form, All}
use Rattle.fof_terms.specs.Lift.{lifted}
use Rattle.fof_terms.specs.Vocabulary.{Vocabulary}
use Rattle.fof_terms.specs.Sorts.{Sorted}
use Rattle.fof_terms.proofs.Scoped.{raised, member_of, sorted_of_all}
use Rattle.clause_form.specs.ClauseView.{closed_by}
use Rattle.clause_form.specs.Norm.{node}
use Rattle.clause_form.specs.Sizes.{norm_size_of}
use Rattle.clause_form.proofs.SizesFacts.{norm_size_of-All}
use Rattle.kernel.specs.Statements.{Statements}
use Rattle.kernel.specs.Proves.{Proves}
use Rattle.kernel.specs.declared.proof.Proof.{Proof, Hyp, ImpI, ImpE, AllI, AllE}
use Rattle.norm_proofs.specs.code.Steps.{Between, aimed}
use Rattle.norm_proofs.proofs.StepsFacts.{roomier}
use Rattle.norm_proofs.proofs.NormsFacts.{few_members, small_member}
use Rattle.norm_proofs.proofs.Places.{at_index}
use Rattle.flat_form.specs.declared.pulling.Pulled.{Pulled as Made}
use Rattle.flat_form.specs.Flat.{Pulled, kept, sorts_of, bodies_of}
use Rattle.flat_form.proofs.Lists.{take_next, take_end}
use Rattle.flat_proofs.specs.code.Gathering.{AreClosed}
use Rattle.flat_proofs.specs.code.Halving.{Gathers}
use Rattle.flat_proofs.specs.code.Leading.{Leads}
use Rattle.flat_proofs.specs.code.Loose.{loose, closed_of}
use Rattle.flat_proofs.specs.code.Members.{seen, bare, room_of, HaveRoom, IsSpacious}
use Rattle.flat_proofs.specs.code.Moving.{link_tree, IsMoved, AreMoved, IsLed}
use Rattle.flat_proofs.proofs.LeadFacts.{leads_some, leads_none, leads_roomier}
use Rattle.flat_proofs.proofs.LooseFacts.{node_sorts, node_body, all_sorts, all_body, kept_node}
use Rattle.flat_proofs.proofs.LooseSizes.{Bounded, loose_depth, node_bounded, node_count}
use Rattle.flat_proofs.proofs.MemberFacts.{sorts_bare, bodies_bare, closed_bare}
use Rattle.flat_proofs.proofs.MoveFacts.{under_tree, closed_sorted, members_sorted, closed_within, link_shows, all_moved}
use Rattle.flat_proofs.proofs.Opened.{nothing}

all_end : {X : Type 0} (P : X → Type 0) (xs : List X) (x : X) → AllByRecursion P xs → P x → AllByRecursion P (xs ++ x ∷ [])
all_end P [] x all one = (one, tt)
all_end P (y ∷ xs) x all one = (all.0, all_end P xs x all.1 one)

-- Where nothing is pulled out.
pub kept_leads : (forth : Bool) (a : Form) (part : Option Proof) → part ≡ None → loose a ≡ kept a → IsLed forth a part
kept_leads forth a part e is =
    let same : a ≡ closed_of (loose a) = ap closed_of (sym is) in
    subst (λ (o : Option Proof). IsLed forth a o) (sym e) same

kept_bodies : (as_ : List Form) → AllByRecursion (λ a. loose a ≡ kept a) as_ → (sorts_of (map loose as_) ≡ []) × (bodies_of 0 (map loose as_) ≡ as_)
kept_bodies [] all = (refl, refl)
kept_bodies (a ∷ as_) all =
    let rest = kept_bodies as_ all.1 in
    let later = sorts_of (map loose as_) in
    let n = length (loose a).sorts in
    let own : (loose a).sorts ≡ [] = ap (λ (p : Pulled). p.sorts) all.0 in
    let none : length later ≡ 0 = ap length rest.0 in
    let count : 0 + n ≡ 0 = let len = ap length own in omega arith in
    let one : lifted (length later) 0 (lifted 0 n (loose a).body) ≡ a =
    ap (λ (m : ℕ). lifted m 0 (lifted 0 n (loose a).body)) none ∙ (nothing 0 (lifted 0 n (loose a).body) ∙ (nothing n (loose a).body ∙ ap (λ (p : Pulled). p.body) all.0)) in
    let two : bodies_of (0 + n) (map loose as_) ≡ as_ = ap (λ (m : ℕ). bodies_of m (map loose as_)) count ∙ rest.1 in
    (ap (λ (ss : List ℕ). ss ++ later) own ∙ rest.0, ap (λ (b : Form). b ∷ bodies_of (0 + n) (map loose as_)) one ∙ ap (λ (bs : List Form). a ∷ bs) two)

pub node_kept : (g : Bool) (as_ : List Form) → AllByRecursion (λ a. loose a ≡ kept a) as_ → loose (node g as_) ≡ kept (node g as_)
node_kept g as_ all =
    let parts = kept_bodies as_ all in
    kept_node g as_ (node_sorts g as_ ∙ parts.0) (node_body g as_ ∙ ap (node g) parts.1)

pub of_node : (g : Bool) (form : Form) (xs ms : List Form) → form ≡ node g xs → ms ≡ xs → loose (node g ms) ≡ kept (node g ms) → loose form ≡ kept form
of_node g form xs ms is e h = subst (λ (b : Form). loose b ≡ kept b) (sym (is ∙ ap (node g) (sym e))) h

pub none_pulled : (g : Bool) (as_ : List Form) (i : ℕ) → length as_ ≤ i → AllByRecursion (λ b. loose b ≡ kept b) (take i as_) → loose (node g as_) ≡ kept (node g as_)
none_pulled g as_ i le all = node_kept g as_ (subst (AllByRecursion (λ b. loose b ≡ kept b)) (take_end as_ i le) all)

pub kept_more : (as_ : List Form) (i : ℕ) (a : Form) → i < length as_ → a ≡ get_or as_ i a → loose a ≡ kept a → AllByRecursion (λ b. loose b ≡ kept b) (take i as_) → AllByRecursion (λ b. loose b ≡ kept b) (take (i + 1) as_)
kept_more as_ i a lt is e all =
    let one : loose (get_or as_ i a) ≡ kept (get_or as_ i a) = subst (λ (b : Form). loose b ≡ kept b) is e in
    subst (AllByRecursion (λ b. loose b ≡ kept b)) (sym (take_next as_ i a lt)) (all_end (λ b. loose b ≡ kept b) (take i as_) (get_or as_ i a) all one)

-- Rooms of parts.
pub spacious_member : (g : Bool) (as_ : List Form) (i : ℕ) (a : Form) → i < length as_ → a ≡ get_or as_ i a → IsSpacious (node g as_) → IsSpacious a
spacious_member g as_ i a lt is s =
    let at = at_index as_ i a lt is in
    let t : Statements = record { vocabulary = s.vocabulary; formulas = [] } in
    record {
      vocabulary = s.vocabulary;
      scope = s.scope;
      room = omega (arith, s.room, small_member g as_ i a at);
      sorted = member_of (Sorted s.vocabulary s.scope) as_ i a (members_sorted g as_ t s.scope s.sorted) at;
    }

pub spacious_body : (s : ℕ) (a : Form) → IsSpacious (All s a) → IsSpacious a
spacious_body s a p =
    let size = norm_size_of-All s a in
    let few : length p.scope < 2147483647 = omega (arith, p.room) in
    record {
      vocabulary = p.vocabulary;
      scope = s ∷ p.scope;
      room = omega (arith, p.room);
      sorted = raised p.vocabulary (s ∷ p.scope) 2147483646 2147483647 a (omega arith) (sorted_of_all p.vocabulary p.scope 2147483647 2147483646 s a (omega arith) few p.sorted);
    }

-- the same of the formula, as code meets it
pub node_size_here : (g : Bool) (form : Form) (xs ms : List Form) → form ≡ node g xs → ms ≡ xs → norm_size_of form ≤ 100000 → norm_size_of (node g ms) ≤ 100000
node_size_here g form xs ms is e le = rw e (rw is at le)

pub node_space_here : (g : Bool) (form : Form) (xs ms : List Form) → form ≡ node g xs → ms ≡ xs → IsSpacious form → IsSpacious (node g ms)
node_space_here g form xs ms is e s = rw e (rw is at s)

pub all_size_here : (s : ℕ) (form x b : Form) → form ≡ All s x → b ≡ x → norm_size_of form ≤ 100000 → norm_size_of (All s b) ≤ 100000
all_size_here s form x b is e le = rw e (rw is at le)

pub all_space_here : (s : ℕ) (form x b : Form) → form ≡ All s x → b ≡ x → IsSpacious form → IsSpacious (All s b)
all_space_here s form x b is e p = rw e (rw is at p)

pub body_small : (s : ℕ) (a : Form) → norm_size_of (All s a) ≤ 100000 → norm_size_of a ≤ 100000
body_small s a le = let size = norm_size_of-All s a in omega arith

pub member_small : (g : Bool) (as_ : List Form) (i : ℕ) (a : Form) → i < length as_ → a ≡ get_or as_ i a → norm_size_of (node g as_) ≤ 100000 → norm_size_of a ≤ 100000
member_small g as_ i a lt is le = omega (arith, small_member g as_ i a (at_index as_ i a lt is))

-- what holds of the node or the quantifier holds of the formula
pub here_node : (P : Form → Type 0) (g : Bool) (form : Form) (xs ms : List Form) → form ≡ node g xs → ms ≡ xs → P (node g ms) → P form
here_node P g form xs ms is e h = subst P (sym (is ∙ ap (node g) (sym e))) h

pub here_all : (P : Form → Type 0) (s : ℕ) (form x b : Form) → form ≡ All s x → b ≡ x → P (All s b) → P form
here_all P s form x b is e h = subst P (sym (is ∙ ap (All s) (sym e))) h

-- The members of a node.
moved_append : (forth : Bool) (n : ℕ) (as_ : List Form) (ps : List Proof) (a : Form) (p : Proof) → AreMoved forth n as_ ps → IsMoved forth n a p → AreMoved forth n (as_ ++ a ∷ []) (ps ++ p ∷ [])
moved_append forth n [] [] a p m one = (one, tt)
moved_append forth n [] (q ∷ ps) a p m one = absurd m
moved_append forth n (b ∷ as_) [] a p m one = absurd m
moved_append forth n (b ∷ as_) (q ∷ ps) a p m one = (m.0, moved_append forth n as_ ps a p m.1 one)

pub moved_count : (forth : Bool) (n : ℕ) (as_ : List Form) (ps : List Proof) → AreMoved forth n as_ ps → length ps ≡ length as_
moved_count forth n [] [] m = refl
moved_count forth n [] (p ∷ ps) m = absurd m
moved_count forth n (a ∷ as_) [] m = absurd m
moved_count forth n (a ∷ as_) (p ∷ ps) m = let rest = moved_count forth n as_ ps m.1 in omega arith

abbrev pulled_as : Form → List ℕ → Pulled
pulled_as b ss = record { whole = b; sorts = ss; body = b }

same_seen : (m : Made) (p : Pulled) → m.sorts ≡ p.sorts → m.body ≡ p.body → seen m ≡ bare p
same_seen m p es eb = ap (λ (ss : List ℕ). pulled_as m.body ss) es ∙ ap (λ (b : Form). pulled_as b p.sorts) eb

module _ (g forth : Bool) (as_ : List Form) (i : ℕ) (a : Form) (lt : i < length as_) (is : a ≡ get_or as_ i a) where
  pub members_more : (ms more : List Made) (m : Made) → more ≡ ms ++ m ∷ [] → m.sorts ≡ (loose a).sorts → m.body ≡ (loose a).body → map seen ms ≡ map bare (map loose (take i as_))
      → map seen more ≡ map bare (map loose (take (i + 1) as_))
  members_more ms more m em es eb e =
      let one : seen m ≡ bare (loose (get_or as_ i a)) = same_seen m (loose a) es eb ∙ ap (λ (b : Form). bare (loose b)) is in
      let before : map seen more ≡ map seen ms ++ seen m ∷ [] = ap (map seen) em ∙ map-append seen ms (m ∷ []) in
      let after : map bare (map loose (take (i + 1) as_)) ≡ map bare (map loose (take i as_)) ++ bare (loose (get_or as_ i a)) ∷ [] =
      ap (λ bs. map bare (map loose bs)) (take_next as_ i a lt) ∙ (ap (map bare) (map-append loose (take i as_) (get_or as_ i a ∷ [])) ∙ map-append bare (map loose (take i as_)) (loose (get_or as_ i a) ∷ [])) in
      let start = map bare (map loose (take i as_)) in
      before ∙ (ap (λ (ps : List Pulled). ps ++ seen m ∷ []) e ∙ (ap (λ (p : Pulled). start ++ p ∷ []) one ∙ sym after))

  pub parts_more : (ps more : List Proof) (part : Option Proof) (p q : Proof) → more ≡ ps ++ q ∷ [] → q ≡ p → ((f : Bool) (n : ℕ) (b : Form) → Leads f n part a b → Between f n p a b) → IsLed forth a part
      → AreMoved forth (room_of (node g as_)) (take i as_) ps → AreMoved forth (room_of (node g as_)) (take (i + 1) as_) more
  parts_more ps more part p q em eq back led m =
      let at = at_index as_ i a lt is in
      let n = room_of (node g as_) in
      let less : room_of a ≤ n = omega (arith, small_member g as_ i a at) in
      let one : IsMoved forth n a p = roomier forth (room_of a) n p a (closed_of (loose a)) less (back forth (room_of a) (closed_of (loose a)) led) in
      let there : IsMoved forth n (get_or as_ i a) q = subst (λ (b : Form). IsMoved forth n b q) is (subst (λ (r : Proof). IsMoved forth n a r) (sym eq) one) in
      rw em (subst (λ bs. AreMoved forth n bs (ps ++ q ∷ [])) (sym (take_next as_ i a lt)) (moved_append forth n (take i as_) ps (get_or as_ i a) q m there))

pub none_left_members : (as_ : List Form) (i : ℕ) (ms slice : List Made) → length as_ ≤ i → slice ≡ ms → map seen ms ≡ map bare (map loose (take i as_)) → map seen slice ≡ map bare (map loose as_)
none_left_members as_ i ms slice le e h = ap (map seen) e ∙ (h ∙ ap (λ (bs : List Form). map bare (map loose bs)) (take_end as_ i le))

bare_closed : (w : Vocabulary) (d : ℕ) (v : List ℕ) (ps : List Pulled) → AreClosed w d v ps → AreClosed w d v (map bare ps)
bare_closed w d v [] all = tt
bare_closed w d v (p ∷ ps) all = (all.0, bare_closed w d v ps all.1)

-- the node
module _ (g forth : Bool) (as_ : List Form) where
  abbrev size : ℕ
  size = norm_size_of (node g as_)

  gather_bare : (n : ℕ) (tree : Proof) → Gathers g forth (map bare (map loose as_)) tree → size + length (sorts_of (map loose as_)) ≤ n
      → Between forth n tree (node g (map closed_of (map loose as_))) (closed_of (loose (node g as_)))
  gather_bare n tree gathers le t v h room s =
      let qs = map loose as_ in
      let ps = map bare qs in
      let closed = bare_closed t.vocabulary size v qs (closed_within t v size as_ (node_bounded g as_) (members_sorted g (map closed_of qs) t v s)) in
      let count = ap length (sorts_bare qs) in
      let shown = gathers t v size h s.scope_fits (omega arith) closed in
      let one : node g (map closed_of ps) ≡ node g (map closed_of qs) = ap (node g) (closed_bare qs) in
      let two : closed_by (sorts_of ps) (node g (bodies_of 0 ps)) ≡ closed_of (loose (node g as_)) =
      ap (λ ss. closed_by ss (node g (bodies_of 0 ps))) (sorts_bare qs ∙ sym (node_sorts g as_)) ∙ ap (closed_by (loose (node g as_)).sorts) (ap (node g) (bodies_bare 0 qs) ∙ sym (node_body g as_)) in
      subst (λ (c : Form). Proves t v h tree (aimed forth (node g (map closed_of qs)) c)) two
      (subst (λ (b : Form). Proves t v h tree (aimed forth b (closed_by (sorts_of ps) (node g (bodies_of 0 ps))))) one shown)

  module _ (ms : List Made) (are : map seen ms ≡ map bare (map loose as_)) where
    pub sorts_are : (sorts : List ℕ) → sorts ≡ sorts_of (map seen ms) → sorts ≡ (loose (node g as_)).sorts
    sorts_are sorts e = e ∙ (ap sorts_of are ∙ (sorts_bare (map loose as_) ∙ sym (node_sorts g as_)))

    pub body_is : (bodies : List Form) (body : Form) → bodies ≡ bodies_of 0 (map seen ms) → body ≡ node g bodies → body ≡ (loose (node g as_)).body
    body_is bodies body e eb = eb ∙ (ap (node g) (e ∙ (ap (bodies_of 0) are ∙ bodies_bare 0 (map loose as_))) ∙ sym (node_body g as_))

    pub closed_are : (cs : List Form) → cs ≡ map closed_of (map seen ms) → cs ≡ map closed_of (map loose as_)
    closed_are cs e = e ∙ (ap (map closed_of) are ∙ closed_bare (map loose as_))

    pub node_room : (ps : List Proof) → norm_size_of (node g as_) ≤ 100000 → IsSpacious (node g as_) → AreMoved forth (room_of (node g as_)) as_ ps → HaveRoom (map seen ms)
    node_room ps small s m =
        let t : Statements = record { vocabulary = s.vocabulary; formulas = [] } in
        let qs = map loose as_ in
        let sorted = closed_sorted t s.scope (room_of (node g as_)) s.room forth as_ ps m (members_sorted g as_ t s.scope s.sorted) in
        let closed = bare_closed s.vocabulary size s.scope qs (closed_within t s.scope size as_ (node_bounded g as_) sorted) in
        let count : length (sorts_of (map seen ms)) ≡ length (sorts_of qs) = ap (λ (xs : List Pulled). length (sorts_of xs)) are ∙ ap length (sorts_bare qs) in
        let few = node_count g as_ in
        let several : length (map seen ms) ≡ length as_ = ap length are ∙ (length-map qs bare ∙ length-map as_ loose) in
        record {
          vocabulary = s.vocabulary;
          scope = s.scope;
          depth = size;
          room = omega (arith, s.room);
          few = omega arith;
          members = omega (arith, few_members g as_);
          closed = subst (AreClosed s.vocabulary size s.scope) (sym are) closed;
        }

    pub gathered_leads : (n : ℕ) (gathered : Proof) (part : Option Proof) (cs : List Form) (last : Form) → room_of (node g as_) ≤ n → Gathers g forth (map seen ms) gathered → part ≡ Some gathered → cs ≡ map closed_of (map seen ms)
        → last ≡ closed_of (loose (node g as_)) → Leads forth n part (node g cs) last
    gathered_leads n gathered part cs last le eg ep ec el =
        let few = node_count g as_ in
        let whole = gather_bare n gathered (subst (λ (ps : List Pulled). Gathers g forth ps gathered) are eg) (omega arith) in
        rw (ep, closed_are cs ec, el) whole

  pub link_leads : (n : ℕ) (ps : List Proof) (cs : List Form) (linked : Proof) → cs ≡ map closed_of (map loose as_) → linked ≡ link_tree g forth as_ cs ps → AreMoved forth n as_ ps → Between forth n linked (node g as_) (node g cs)
  link_leads n ps cs linked ec el m = rw (el, ec) (link_shows g forth n as_ ps m)

pub few_forms : (g : Bool) (as_ : List Form) → norm_size_of (node g as_) ≤ 100000 → length as_ ≤ 100000
few_forms g as_ le = omega (arith, few_members g as_)

-- the node, as code makes it
pub led_node : (g forth : Bool) (as_ : List Form) (ms : List Made) (are : map seen ms ≡ map bare (map loose as_)) (ps : List Proof) → AreMoved forth (room_of (node g as_)) as_ ps
    → (sorts : List ℕ) (bodies all cs : List Form) (body first last : Form) (gathered : Proof) (linked part : Option Proof) → sorts ≡ sorts_of (map seen ms) → bodies ≡ bodies_of 0 (map seen ms) → all ≡ map closed_of (map seen ms) → cs ≡ all
    → body ≡ node g bodies → first ≡ node g as_ → last ≡ closed_by sorts body → Gathers g forth (map seen ms) gathered → ((n : ℕ) → AreMoved forth n as_ ps → Leads forth n linked (node g as_) (node g cs))
    → ((n : ℕ) (middle : Form) → Leads forth n linked first middle → Leads forth n (Some gathered) middle last → Leads forth n part first last) → IsLed forth (node g as_) part
led_node g forth as_ ms are ps m sorts bodies all cs body first last gathered linked part es eb ea ec ey ef el eg link whole =
    let n = room_of (node g as_) in
    let last_is : last ≡ closed_of (loose (node g as_)) =
    el ∙ (ap (λ (ss : List ℕ). closed_by ss body) (sorts_are g forth as_ ms are sorts es) ∙ ap (closed_by (loose (node g as_)).sorts) (body_is g forth as_ ms are bodies body eb ey)) in
    let linked_leads : Leads forth n linked first (node g cs) = subst (λ (a : Form). Leads forth n linked a (node g cs)) (sym ef) (link n m) in
    let few = node_count g as_ in
    let gathers = gathered_leads g forth as_ ms are n gathered (Some gathered) cs last (omega arith) eg refl (ec ∙ ea) last_is in
    let shown : Leads forth n part first last = whole n (node g cs) linked_leads gathers in
    subst (λ (c : Form). Leads forth n part (node g as_) c) last_is (subst (λ (a : Form). Leads forth n part a last) ef shown)

-- a universal quantifier
closed_all_is : (s : ℕ) (a : Form) → closed_of (loose (All s a)) ≡ All s (closed_of (loose a))
closed_all_is s a = ap (λ xs. closed_by xs (loose (All s a)).body) (all_sorts s a) ∙ ap (λ b. All s (closed_by (loose a).sorts b)) (all_body s a)

pub all_sorts_are : (s : ℕ) (a : Form) (own one more : List ℕ) → own ≡ (loose a).sorts → one ≡ s ∷ [] → more ≡ one ++ own → more ≡ (loose (All s a)).sorts
all_sorts_are s a own one more eo e1 em = rw (em, e1, eo) (sym (all_sorts s a))

under_made : (forth : Bool) (s : ℕ) (a c from : Form) (p : Proof) → (forth ≡ true → from ≡ a) → (forth ≡ false → from ≡ c) → ImpI (All s from) (AllI s (ImpE p (AllE (Var 0) (Hyp 0)))) ≡ under_tree forth s a c p
under_made true s a c from p holds fails = ap (λ (b : Form). ImpI (All s b) (AllI s (ImpE p (AllE (Var 0) (Hyp 0))))) (holds refl)
under_made false s a c from p holds fails = ap (λ (b : Form). ImpI (All s b) (AllI s (ImpE p (AllE (Var 0) (Hyp 0))))) (fails refl)

module _ (forth : Bool) (s : ℕ) (a : Form) (part : Option Proof) (led : IsLed forth a part) where
  pub under_none : part ≡ None → IsLed forth (All s a) None
  under_none e = ap (All s) (leads_none forth (room_of a) part a (closed_of (loose a)) e led) ∙ sym (closed_all_is s a)

  pub under_some : (p made : Proof) (m : Made) (from : Form) → part ≡ Some p → norm_size_of (All s a) ≤ 100000 → m.sorts ≡ (loose a).sorts → m.body ≡ (loose a).body
      → (forth ≡ true → from ≡ a) → (forth ≡ false → from ≡ closed_of (seen m)) → made ≡ ImpI (All s from) (AllI s (ImpE p (AllE (Var 0) (Hyp 0)))) → Between forth (room_of (All s a)) made (All s a) (closed_of (loose (All s a)))
  under_some p made m from e small es eb holds fails em =
      let size = norm_size_of-All s a in
      let depth = loose_depth a in
      let closed_is : closed_of (seen m) ≡ closed_of (loose a) = ap closed_of (same_seen m (loose a) es eb) in
      let shown = all_moved forth (room_of a) s a p (leads_some forth (room_of a) part p a (closed_of (loose a)) e led) (omega arith) in
      let wide = roomier forth (room_of a + 1) (room_of (All s a)) (under_tree forth s a (closed_of (loose a)) p) (All s a) (closed_of (loose (All s a))) (omega arith) shown in
      let tree : under_tree forth s a (closed_of (loose a)) p ≡ made = sym (em ∙ under_made forth s a (closed_of (loose a)) from p holds (λ f. fails f ∙ closed_is)) in
      subst (λ (q : Proof). Between forth (room_of (All s a)) q (All s a) (closed_of (loose (All s a)))) tree wide
