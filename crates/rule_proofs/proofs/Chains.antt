-- Lines that cover a clause in which an equation, which is matched first, has rewritten a term.
use Rattle.std.specs.Prelude.{ℕ, ◌≡◌, ◌+◌, ◌<◌, ◌≤◌, Bool, List, [], ◌∷◌, ◌++◌, length, map, take, drop, reverse, slice_get, Some, true, false, refl}
use Rattle.std.proofs.Common.{ap, sym, subst, ◌∙◌, arith, append-nil, length-append}
use Rattle.std.proofs.lemmas.List.{length-map, length-reverse}
use Rattle.std.proofs.lemmas.Option.{slice_get_within, slice_get-map}
use Rattle.fof_terms.specs.declared.term.Term.{Term, Var}
use Rattle.fof_terms.specs.declared.form.Form.{Form}
use Rattle.fof_terms.specs.Vocabulary.{Vocabulary}
use Rattle.fof_terms.proofs.Moved.{closed_anywhere}
use Rattle.fof_terms.specs.Sorts.{IsScope, sort_of_term}
use Rattle.fof_terms.proofs.LiftingLaws.{one_found}
use Rattle.clause_form.specs.declared.clause.Lit.{Lit}
use Rattle.clause_form.specs.declared.clause.Clause.{Clause}
use Rattle.clause_form.specs.Covers.{lit_image, scope_of, is_sorted_atom, AreSorted, IsCovered}
use Rattle.clause_form.specs.Images.{image, IsImages}
use Rattle.clause_form.proofs.ImagesFacts.{image_image, image_sorted, image_agrees, AgreeOn}
use Rattle.clause_form.proofs.ClauseLaws.{images_then, lits_sorted}
use Rattle.unify_terms.specs.Substitution.{image_at}
use Rattle.clause_rules.specs.Justified.{IsMatch}
use Rattle.clause_rules.specs.RewriteRule.{AreLitsRewritten, Rewrites}
use Rattle.clause_rules.specs.Steps.{AreCovered, IsJoint, equation, images_of_parents, scope_of_both}
use Rattle.clause_rules.proofs.Equations.{equation_image}
use Rattle.rule_steps.proofs.ParamodulatedAt.{sorted_at}
use Rattle.clause_proofs.specs.declared.opening.Opened.{Opened}
use Rattle.clause_proofs.specs.declared.premises.Premise.{Premise}
use Rattle.clause_proofs.specs.code.Bodies.{IsReadyClause}
use Rattle.clause_proofs.specs.Premises.{IsSource, IsPremiseOf}
use Rattle.clause_proofs.specs.Refuting.{ShowsBody}
use Rattle.rule_proofs.specs.code.Rewriting.{AreInstances, IsRewriting, chained_images}
use Rattle.clause_proofs.proofs.CoveredPremises.{image_there}
use Rattle.rule_proofs.proofs.Fillings.{map_at}
use Rattle.rule_proofs.proofs.Joints.{left_instances, left_source}
use Rattle.clause_proofs.proofs.LineGoals.{own_lits}
use Rattle.rule_proofs.proofs.Marks.{marked_is, target_found, all_sorted, all_filled, lits_itself}
use Rattle.clause_proofs.proofs.ReadyParents.{full}
use Rattle.clause_proofs.proofs.ImageParts.{part_at, part_length, part_within, part_images, part_agrees}

-- the sides of a well-sorted equation
equation_sides : (w : Vocabulary) (scope : List ℕ) (flipped : Bool) (l r : Term) → is_sorted_atom w scope (equation flipped l r).atom ≡ true → ((x : ℕ) × (sort_of_term w scope l ≡ Some x)) × ((y : ℕ) × (sort_of_term w scope r ≡ Some y))
equation_sides w scope true l r e = let both = one_found (sort_of_term w scope r) (sort_of_term w scope l) e in (both.1, both.0)
equation_sides w scope false l r e = one_found (sort_of_term w scope l) (sort_of_term w scope r) e

first_of : (k : Lit) (lits : List Lit) → lits ≡ k ∷ [] → slice_get lits 0 ≡ Some k
first_of k lits is = ap (λ (ls : List Lit). slice_get ls 0) is

-- each image is covered
pub images_covered : (s : ℕ → Term) (line lits : List Lit) → ((i : ℕ) (k : Lit) → slice_get lits i ≡ Some k → IsCovered line (lit_image s k)) → AreCovered line (map (lit_image s) lits)
images_covered s line lits h i k at =
    let l = image_there s lits i k (slice_get lits i) refl (sym (slice_get-map (lit_image s) lits i) ∙ at) in
    subst (IsCovered line) l.2 (h i l.0 l.1)

module _ (w : Vocabulary) (e : Clause) (matching images : List Term) (fl fr : Form) (ol or_ : Opened) (left : IsReadyClause w fl ol) (right : IsReadyClause w fr or_) (matched : IsMatch w ol.clause or_.clause matching) (joint : IsJoint w e (scope_of_both ol.clause or_.clause) images) where
  abbrev c : Clause
  c = ol.clause

  abbrev d : Clause
  d = or_.clause

  abbrev inner : List ℕ
  inner = scope_of c ++ scope_of d

  abbrev whole : List ℕ
  whole = scope_of e ++ inner

  abbrev matched_part : List Term
  matched_part = take (length d.sorts) (drop (length c.sorts) matching)

  abbrev both_part : List Term
  both_part = take (length c.sorts + length d.sorts) (drop (length e.sorts) images)

  abbrev left_part : List Term
  left_part = take (length c.sorts) (drop (length e.sorts) images)

  abbrev chain : List Term
  chain = chained_images e c d matching images

  inner_is : inner ≡ scope_of c ++ (scope_of d ++ [])
  inner_is = ap (λ (ss : List ℕ). scope_of c ++ ss) (sym (append-nil (scope_of d)))

  whole_is : whole ≡ scope_of e ++ (inner ++ [])
  whole_is = ap (λ (ss : List ℕ). scope_of e ++ ss) (sym (append-nil inner))

  e_front : length e.sorts ≡ length (scope_of e)
  e_front = sym (length-reverse e.sorts)

  c_front : length c.sorts ≡ length (scope_of c)
  c_front = sym (length-reverse c.sorts)

  d_many : length d.sorts ≡ length (scope_of d)
  d_many = sym (length-reverse d.sorts)

  both_many : length c.sorts + length d.sorts ≡ length inner
  both_many = omega (arith, length-append (scope_of c) (scope_of d), c_front, d_many)

  matched_within : length c.sorts + length d.sorts ≤ length matching
  matched_within = part_within w inner (length c.sorts) matching matched (scope_of c) (scope_of d) [] (length c.sorts) (length d.sorts) inner_is c_front d_many

  matched_images : IsImages w (scope_of d) inner (image_at matched_part)
  matched_images = part_images w inner (length c.sorts) matching matched (scope_of c) (scope_of d) [] (length c.sorts) (length d.sorts) inner_is c_front d_many

  matched_agrees : AgreeOn (scope_of d) (images_of_parents c matching) (image_at matched_part)
  matched_agrees = part_agrees w inner (length c.sorts) matching matched (scope_of c) (scope_of d) [] (length c.sorts) (length d.sorts) inner_is c_front d_many (images_of_parents c matching) (λ k. refl)

  both_images : IsImages w inner whole (image_at both_part)
  both_images = part_images w whole (length e.sorts) images joint (scope_of e) inner [] (length e.sorts) (length c.sorts + length d.sorts) whole_is e_front both_many

  both_agrees : AgreeOn inner (images_of_parents e images) (image_at both_part)
  both_agrees = part_agrees w whole (length e.sorts) images joint (scope_of e) inner [] (length e.sorts) (length c.sorts + length d.sorts) whole_is e_front both_many (images_of_parents e images) (λ k. refl)

  matched_length : length matched_part ≡ length d.sorts
  matched_length = part_length matching (length c.sorts) (length d.sorts) matched_within

  chain_length : length chain ≡ length d.sorts
  chain_length = length-map matched_part (image (image_at both_part)) ∙ matched_length

  chain_is : AgreeOn (scope_of d) (image_at chain) (λ k. image (image_at both_part) (image_at matched_part k))
  chain_is = record { same = λ k r at. map_at (image (image_at both_part)) matched_part k (Var k) (Var k) (let within = slice_get_within (scope_of d) k r at in let size = matched_length in let many = d_many in omega (arith, within, size, many)) }

  chain_images : IsImages w (scope_of d) whole (image_at chain)
  chain_images = record {
    sorted = λ k r at. ap (sort_of_term w whole) (chain_is.same k r at) ∙ (images_then w (scope_of d) inner whole (image_at matched_part) (image_at both_part) matched_images both_images).sorted k r at;
  }

  d_lits : AreSorted w (scope_of d) d.lits
  d_lits = own_lits w fr d or_.is_or right.ready right.opening.1

  c_lits : AreSorted w (scope_of c) c.lits
  c_lits = own_lits w fl c ol.is_or left.ready left.opening.1

  pub chain_sorted : AreSorted w whole (map (lit_image (image_at chain)) d.lits)
  chain_sorted = lits_sorted w (scope_of d) whole (image (image_at chain)) (image_sorted w (scope_of d) whole (image_at chain) chain_images) d.lits d_lits

  pub chain_source : (formulas : List Form) (number : ℕ) → IsScope w whole → slice_get formulas number ≡ Some fr → IsSource w whole formulas number or_ chain
  chain_source formulas number sc there = record {
    form = fr;
    there = there;
    has = right.opening.1;
    form_sorted = closed_anywhere w whole 2147483647 fr sc (full w fr right.ready);
    size = chain_length;
    images_sorted = chain_images;
    lits_sorted = d_lits;
  }

  -- what stands in the equation
  module _ (target : Term) (flipped : Bool) (h : Rewrites w c d e target flipped (scope_of d) (images_of_parents c matching) inner (images_of_parents e images)) where
    abbrev S : ℕ → Term
    S = images_of_parents e images

    abbrev R : ℕ → Term
    R = images_of_parents c matching

    side_image : (t : Term) (x : ℕ) → sort_of_term w (scope_of d) t ≡ Some x → image (image_at chain) t ≡ image S (image R t)
    side_image t x sort =
        image_agrees w (scope_of d) (image_at chain) (λ k. image (image_at both_part) (image_at matched_part k)) chain_is t x sort
        ∙ sym (image_image (image_at both_part) (image_at matched_part) t)
        ∙ ap (image (image_at both_part)) (sym (image_agrees w (scope_of d) R (image_at matched_part) matched_agrees t x sort))
        ∙ sym (image_agrees w inner S (image_at both_part) both_agrees (image R t) x (image_sorted w (scope_of d) inner R h.by_images t x sort))

    sides : ((x : ℕ) × (sort_of_term w (scope_of d) h.left ≡ Some x)) × ((y : ℕ) × (sort_of_term w (scope_of d) h.right ≡ Some y))
    sides = equation_sides w (scope_of d) flipped h.left h.right (sorted_at w (scope_of d) d.lits 0 (equation flipped h.left h.right) d_lits (first_of (equation flipped h.left h.right) d.lits h.is_equation))

    pub left_side : Term
    left_side = image S target

    pub right_side : Term
    right_side = image S (image R h.right)

    pub chain_lits : map (lit_image (image_at chain)) d.lits ≡ equation flipped (image S target) (image S (image R h.right)) ∷ []
    chain_lits =
        ap (map (lit_image (image_at chain))) h.is_equation
        ∙ ap (λ (l : Lit). l ∷ [])
        (equation_image (image (image_at chain)) flipped h.left h.right
        ∙ ap (λ (t : Term). equation flipped t (image (image_at chain) h.right)) (side_image h.left sides.0.0 sides.0.1 ∙ ap (image S) h.matched) ∙ ap (equation flipped (image S target)) (side_image h.right sides.1.0 sides.1.1))

    left_within : length e.sorts + length c.sorts ≤ length images
    left_within = part_within w whole (length e.sorts) images joint (scope_of e) (scope_of c) (scope_of d) (length e.sorts) (length c.sorts) refl e_front c_front

    left_images : IsImages w (scope_of c) whole (image_at left_part)
    left_images = part_images w whole (length e.sorts) images joint (scope_of e) (scope_of c) (scope_of d) (length e.sorts) (length c.sorts) refl e_front c_front

    extends : (k : ℕ) → k < length left_part → S k ≡ image_at left_part k
    extends k lt = let size = part_length images (length e.sorts) (length c.sorts) left_within in sym (part_at images (length e.sorts) (length c.sorts) k (omega (arith, lt, size)) left_within)

    instances : (old : List Lit) → old ≡ map (lit_image (image_at left_part)) c.lits → AreInstances w whole left_part c.lits old
    instances old is = record { sorts = scope_of c; size = part_length images (length e.sorts) (length c.sorts) left_within ∙ c_front; images_sorted = left_images; sorted = c_lits; are = is }

    pub rewriting_of : (old : List Lit) → old ≡ map (lit_image (image_at left_part)) c.lits → (marked : List Lit) → AreLitsRewritten target (Var (length left_part)) c.lits marked → (q : Lit) → q ≡ equation flipped (image S target) (image S (image R h.right))
        → IsRewriting w whole e.lits left_part marked old q flipped
    unfolding instances
    rewriting_of old is marked all q same =
        let inst = instances old is in
        let self = lits_itself target (Var (length left_part)) c.lits marked all in
        let found = target_found w whole left_part c.lits old inst target target c.lits marked h.stands all self S extends in
        let agree = part_agrees w whole (length e.sorts) images joint (scope_of e) (scope_of c) (scope_of d) (length e.sorts) (length c.sorts) refl e_front c_front S (λ k. refl) in
        record {
          left = image S target;
          right = image S (image R h.right);
          is_equation = same;
          is_marked = marked_is w whole left_part c.lits old inst target found.0 found.1 marked (image S target) (image_agrees w (scope_of c) S (image_at left_part) agree target found.0 found.1)
              (all_sorted w whole left_part c.lits old inst target target c.lits marked h.stands all self S extends);
          before = is ∙ sym (left_instances w e images fl fr ol or_ left right joint) ∙ sym (all_filled w whole left_part c.lits old inst target target c.lits marked h.stands all self S extends);
          covered = subst (AreCovered e.lits) (sym (all_filled w whole left_part c.lits old inst target (image R h.right) h.rewritten marked h.stands all h.all_rewritten S extends)) (images_covered S e.lits h.rewritten h.covers.covered);
        }

  -- the premises that are made of the images
  module _ (li ri : List Term) (eli : li ≡ left_part) (eri : ri ≡ chain) (kl kr : ℕ) (lp rp : Premise) (hl : IsPremiseOf kl ol li lp) (hr : IsPremiseOf kr or_ ri rp) (v : List ℕ) (here : v ≡ whole) where
    left_lits : lp.lits ≡ map (lit_image (image_at left_part)) c.lits
    left_lits = hl.lits ∙ ap (λ (xs : List Term). map (lit_image (image_at xs)) c.lits) eli

    right_lits : rp.lits ≡ map (lit_image (image_at chain)) d.lits
    right_lits = hr.lits ∙ ap (λ (xs : List Term). map (lit_image (image_at xs)) d.lits) eri

    pub equation_sorted : AreSorted w v rp.lits
    equation_sorted = subst (λ (ss : List ℕ). AreSorted w ss rp.lits) (sym here) (subst (AreSorted w whole) (sym right_lits) chain_sorted)

    pub clause_shown : (formulas : List Form) → IsScope w v → slice_get formulas kl ≡ Some fl → ShowsBody w v formulas lp.is_or lp.lits lp.part
    clause_shown formulas sc there =
        let src = left_source w e images fl fr ol or_ left right joint formulas kl (subst (IsScope w) here sc) there in
        subst (λ (ss : List ℕ). ShowsBody w ss formulas lp.is_or lp.lits lp.part) (sym here) (hl.shows w whole formulas (subst (IsSource w whole formulas kl ol) (sym eli) src))

    pub equation_shown : (formulas : List Form) → IsScope w v → slice_get formulas kr ≡ Some fr → ShowsBody w v formulas rp.is_or rp.lits rp.part
    equation_shown formulas sc there =
        let src = chain_source formulas kr (subst (IsScope w) here sc) there in
        subst (λ (ss : List ℕ). ShowsBody w ss formulas rp.is_or rp.lits rp.part) (sym here) (hr.shows w whole formulas (subst (IsSource w whole formulas kr or_) (sym eri) src))

    -- as code has them
    pub rewriting_here : (target : Term) (flipped : Bool) (h : Rewrites w c d e target flipped (scope_of d) (images_of_parents c matching) inner (images_of_parents e images)) (too : List Term) (lits : List Lit) → too ≡ left_part → lits ≡ c.lits
        → (q : Lit) × (rp.lits ≡ q ∷ []) × ((marked : List Lit) → AreLitsRewritten target (Var (length too)) lits marked → IsRewriting w v e.lits too marked lp.lits q flipped)
    rewriting_here target flipped h too lits et el =
        let q = equation flipped (image (images_of_parents e images) target) (image (images_of_parents e images) (image (images_of_parents c matching) h.right)) in
        let own : (marked : List Lit) → AreLitsRewritten target (Var (length left_part)) c.lits marked → IsRewriting w whole e.lits left_part marked lp.lits q flipped = λ marked all. rewriting_of target flipped h lp.lits left_lits marked all q refl in
        let moved : (marked : List Lit) → AreLitsRewritten target (Var (length left_part)) c.lits marked → IsRewriting w v e.lits left_part marked lp.lits q flipped =
        λ marked all. subst (λ (ss : List ℕ). IsRewriting w ss e.lits left_part marked lp.lits q flipped) (sym here) (own marked all) in
        let over : (marked : List Lit) → AreLitsRewritten target (Var (length too)) c.lits marked → IsRewriting w v e.lits too marked lp.lits q flipped =
        subst (λ (xs : List Term). (marked : List Lit) → AreLitsRewritten target (Var (length xs)) c.lits marked → IsRewriting w v e.lits xs marked lp.lits q flipped) (sym et) moved in
        (q, right_lits ∙ chain_lits target flipped h, subst (λ (ls : List Lit). (marked : List Lit) → AreLitsRewritten target (Var (length too)) ls marked → IsRewriting w v e.lits too marked lp.lits q flipped) (sym el) over)

-- so many images
pub matching_size : (w : Vocabulary) (c d : Clause) (matching : List Term) → IsMatch w c d matching → length matching ≡ length c.sorts + length d.sorts
matching_size w c d matching m = let size = m.size in let all = length-append (scope_of c) (scope_of d) in let one = length-reverse c.sorts in let two = length-reverse d.sorts in omega (arith, size, all, one, two)

pub joint_size : (w : Vocabulary) (e c d : Clause) (images : List Term) → IsJoint w e (scope_of_both c d) images → length images ≡ length e.sorts + (length c.sorts + length d.sorts)
joint_size w e c d images m =
    let size = m.size in
    let whole = length-append (scope_of e) (scope_of c ++ scope_of d) in
    let all = length-append (scope_of c) (scope_of d) in
    let one = length-reverse c.sorts in
    let two = length-reverse d.sorts in
    let own = length-reverse e.sorts in
    omega (arith, size, whole, all, one, two, own)

-- what a justification has, where the parents are opened
pub match_here : (w : Vocabulary) (matching : List Term) (c d x y : Clause) → x ≡ c → y ≡ d → IsMatch w c d matching → IsMatch w x y matching
match_here w matching c d x y f g m = subst (λ (k : Clause). IsMatch w k y matching) (sym f) (subst (λ (k : Clause). IsMatch w c k matching) (sym g) m)

pub rewrites_here : (w : Vocabulary) (matching images : List Term) (c d e x y z : Clause) (target : Term) (flipped : Bool) → x ≡ c → y ≡ d → z ≡ e
    → Rewrites w c d e target flipped (scope_of d) (images_of_parents c matching) (scope_of_both c d) (images_of_parents e images) → Rewrites w x y z target flipped (scope_of y) (images_of_parents x matching) (scope_of_both x y) (images_of_parents z images)
rewrites_here w matching images c d e x y z target flipped f g h r =
    subst (λ (k : Clause). Rewrites w x y k target flipped (scope_of y) (images_of_parents x matching) (scope_of_both x y) (images_of_parents k images)) (sym h)
    (subst (λ (k : Clause). Rewrites w k y e target flipped (scope_of y) (images_of_parents k matching) (scope_of_both k y) (images_of_parents e images)) (sym f)
    (subst (λ (k : Clause). Rewrites w c k e target flipped (scope_of k) (images_of_parents c matching) (scope_of_both c k) (images_of_parents e images)) (sym g) r))
